use Rattle.std.proofs.Common.{◌∙◌}
use Rattle.running.proofs.Loading.{compiled_from}
use Rattle.running.proofs.Campaigning.{accepted}
use Rattle.running.proofs.runner.Runner.campaign.Goals as goal

pub returns-clause-fault : goal.returns-clause-fault
returns-clause-fault g c =
    let begins = c.in_ok-load.ensures.loaded in
    let a = accepted c.campaign.result c.load.new.self.controller.phase c.campaign.ensures.accepted begins.phase in
    a.fault ∙ c.in_ok-load.ensures.fault

pub returns-clause-refused : goal.returns-clause-refused
returns-clause-refused g c =
    let begins = c.in_ok-load.ensures.loaded in
    let a = accepted c.campaign.result c.load.new.self.controller.phase c.campaign.ensures.accepted begins.phase in
    a.refused _

pub returns-clause-chart : goal.returns-clause-chart
returns-clause-chart g c = λ k h. c.campaign.ensures.chart k (compiled_from c.args.text.now _ k c.in_ok-load.ensures.loaded.program h)
