use Rattle.std.proofs.Common.{rules, ◌≡◌, None, ap, ◌∙◌}
use Rattle.plain.specs.Behaviours.{by_words, by_chart}
use Rattle.plain.specs.Stages.{phase_refusal}
use Rattle.plain.specs.declared.calls.Answer.TheVariants.{Done}
use Rattle.plain.specs.declared.calls.Call.TheVariants.{Restart}
use Rattle.controller.specs.Calls.{open_scan}
use Rattle.controller.specs.Standing.{stage_of}
use Rattle.callers.specs.Restarts.{restarted}
use Rattle.callers.proofs.FirstDrive.{landed_closed, four_calls, driven_found, driven_moves}
use Rattle.callers.proofs.carriages.first_scan.Goals as goal

pub unreachable-requires : goal.unreachable-requires
unreachable-requires c =
    let now = c.args.controller.now in
    let says = c.in_ok-scan.ensures in
    let w = four_calls (by_words now.program) now c.args.carriage.now c.args.log.now c.campaign.new.log (record { answer = Done; active = 0 }) c.in_ok-scan.field-0.made c.campaign.new.controller c.campaign.new.image says.count c.requires says.program says.words in
    c.in_default.not-Nothing
    (says.scan ∙ ap (λ x. open_scan x.phase) w.controller ∙ landed_closed w.outcome.verdict w.outcome.state _ (restarted (by_words now.program) now))

pub returns : goal.returns
returns c =
    let fault : None ≡ phase_refusal Restart (stage_of c.args.controller.now.phase) = search rules in
    let now = c.args.controller.now in
    let says = c.in_ok-scan.ensures in
    let w = four_calls (by_words now.program) now c.args.carriage.now c.args.log.now c.campaign.new.log (record { answer = Done; active = 0 }) c.in_ok-scan.field-0.made c.campaign.new.controller c.campaign.new.image says.count c.requires says.program says.words in
    record {
      fault = fault;
      words = driven_found w;
      chart = λ k f.
          driven_found (four_calls (by_chart k) now c.args.carriage.now c.args.log.now c.campaign.new.log (record { answer = Done; active = 0 }) c.in_ok-scan.field-0.made c.campaign.new.controller c.campaign.new.image says.count c.requires says.program (says.chart k f));
      position = driven_moves w;
      refused = tt;
      stands = tt;
    }
