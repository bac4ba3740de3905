use Rattle.std.proofs.Common.{ap, ◌∙◌}
use Rattle.plain.specs.Behaviours.{by_words, by_chart}
use Rattle.plain.specs.declared.calls.Answer.TheVariants.{Done}
use Rattle.controller.specs.Closing.{closed}
use Rattle.callers.proofs.TwoCalls.{two_calls}
use Rattle.callers.proofs.campaigns.answer_to_work.Goals as goal

pub returns : goal.returns
returns g c =
    let meaning = g.I.Image.meaning in
    let now = c.args.controller.now in
    let log = c.args.log.now in
    let says = c.in_ok-scan.ensures in
    let two = two_calls meaning g.I.Image.becomes (by_words now.program) now c.args.image.now log c.campaign.new.log (record { answer = Done; active = 0 }) c.in_ok-scan.field-0.made c.campaign.new.controller c.campaign.new.image says.count c.requires says.program says.words in
    record {
      accepted = says.accepted;
      words = two.told;
      chart = λ k f.
          (two_calls meaning g.I.Image.becomes (by_chart k) now c.args.image.now log c.campaign.new.log (record { answer = Done; active = 0 }) c.in_ok-scan.field-0.made c.campaign.new.controller c.campaign.new.image says.count c.requires says.program (says.chart k f)).told;
      controller = c.in-Ok.ensures.controller ∙ ap (λ s. closed s c.campaign.new.controller) says.scan ∙ two.restarts;
      refused = tt;
      image = two.image;
    }
