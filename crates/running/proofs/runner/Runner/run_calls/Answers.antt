use Rattle.controller.specs.Standing.{standing}
use Rattle.running.proofs.runner.Runner.run_calls.Goals as goal

pub returns-clause-chart : goal.returns-clause-chart
returns-clause-chart g c =
    let outputs = (g.I.Image.meaning c.campaign.new.image).outputs in
    λ a h. (standing c.campaign.new.self.controller outputs, (c.in_ok-made.ensures.chart a h, c.end.ensures.ended outputs))
