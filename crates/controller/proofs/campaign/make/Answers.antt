use Rattle.std.proofs.Common.{rules}
use Rattle.plain.specs.Behaviours.{by_chart}
use Rattle.controller.proofs.Working.{work_makes}
use Rattle.controller.proofs.campaign.make.Goals as goal

pub returns-in-Ok-work-clause-chart : goal.returns-in-Ok-work-clause-chart
returns-in-Ok-work-clause-chart g c =
    λ k f. work_makes g.I.Image.meaning g.I.Image.becomes (by_chart k) c.args.call c.args.controller.now c.args.image.now c.in-Ok-work.verdict c.work.new.self c.in-Work.is (c.in-Ok-work.ensures.chart k f)

pub returns-in-Ok-deliver-clause-chart : goal.returns-in-Ok-deliver-clause-chart
returns-in-Ok-deliver-clause-chart g c =
    λ k f. let h = c.in-Ok-deliver.ensures.chart k f in let i = c.in-Ok-deliver.ensures.image_by_chart k f in search rules

pub returns-in-Ok-restart-clause-chart : goal.returns-in-Ok-restart-clause-chart
returns-in-Ok-restart-clause-chart g c = λ k f. let h = c.in-Ok-restart.ensures.chart k f in search rules
