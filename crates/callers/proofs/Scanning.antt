-- A scan, from its sample to its delivery. Assumes nothing.
use Rattle.std.proofs.Common.{◌≡◌, ℕ, ◌∙◌, refl, ap, subst}
use Rattle.evolution.specs.declared.state.State.{State}
use Rattle.verdict.specs.declared.outcome.Verdict.{Verdict}
use Rattle.verdict.specs.declared.outcome.Verdict.TheVariants.{Stable, Circling, Overlong}
use Rattle.plain.specs.Behaviours.{Behaviour}
use Rattle.controller.specs.Calls.{in_phase, WorkedAs, due, landed, delivered}
use Rattle.controller.specs.declared.phase.Phase.{Phase}
use Rattle.controller.specs.declared.phase.Phase.TheVariants.{Sampled, Worked}
use Rattle.controller.specs.declared.controller.Controller.{Controller}
use Rattle.controller.proofs.Resting.{at_rest}
use Rattle.callers.specs.Scans.{Opened, Cycled}

-- sampled, and then worked
pub opened : {b : Behaviour} {c d e : Controller} {frame : ℕ} {v : Verdict} → d ≡ in_phase (Sampled frame) c → WorkedAs b d.phase d v e → Opened b c frame v e
opened {b} {e = e} {v = v} s w =
    let h = subst (λ x. WorkedAs b x.phase x v e) s w in
    record { outcome = h.0; comes = h.1.0; verdict = h.1.1; controller = h.1.2 }

-- what a delivery leaves does not depend on the phase
landed_from : (v : Verdict) (s : State) (frame : ℕ) (p : Phase) (c : Controller) → landed v s frame (in_phase p c) ≡ landed v s frame c
landed_from (Stable m) s frame p c = refl
landed_from (Circling j k) s frame p c = refl
landed_from Overlong s frame p c = refl

-- and then delivered
pub cycled : {b : Behaviour} {c d e : Controller} {frame : ℕ} {v : Verdict} {outputs : ℕ} → Opened b c frame v d → e ≡ delivered d.phase d → outputs ≡ due b d.phase → Cycled b c frame v e outputs
cycled {b} {c} {e = d} {frame = frame} {outputs = outputs} w e o =
    let lands = e ∙ ap (λ x. delivered x.phase x) w.controller ∙ landed_from w.outcome.verdict w.outcome.state frame (Worked frame w.outcome) c in
    let shown = o ∙ ap (λ x. due b x.phase) w.controller in
    record {
      outcome = w.outcome;
      comes = w.comes;
      verdict = w.verdict;
      controller = lands;
      shown = shown;
      rest = at_rest b c d c.state c.previous frame outputs w.outcome w.comes lands shown;
    }
