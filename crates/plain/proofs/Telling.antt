-- The outputs of the plain chart, told by its answers. Assumes nothing.
use Rattle.std.proofs.Common.{◌≡◌, ℕ, Bool, refl, sym, ap, ◌∙◌}
use Rattle.verdict.specs.declared.outcome.Verdict.{Verdict}
use Rattle.verdict.specs.declared.outcome.Verdict.TheVariants.{Stable, Circling, Overlong}
use Rattle.evolution.specs.declared.state.State.{State}
use Rattle.plain.specs.declared.calls.Call.{Call}
use Rattle.plain.specs.declared.calls.Answer.{Answer}
use Rattle.plain.specs.Behaviours.{Behaviour}
use Rattle.plain.specs.Stages.{Stage}
use Rattle.plain.specs.Charts.{Plain, landed, Answers}
use Rattle.plain.specs.Outputs.{outputs_after}
use Rattle.plain.proofs.Cases.{InEachCase, by_cases}

abbrev Tells : Plain → Stage → Call → Answer → Plain → Type 0
Tells p s call answer q = q.outputs ≡ outputs_after answer p.outputs

pub landed_outputs : (v : Verdict) (s : State) (frame outputs : ℕ) (p : Plain) → (landed v s frame outputs p).outputs ≡ outputs
landed_outputs (Stable m) s frame outputs p = refl
landed_outputs (Circling j k) s frame outputs p = refl
landed_outputs Overlong s frame outputs p = refl

tells : (b : Behaviour) (p : Plain) → InEachCase b p (Tells p)
tells b p = record {
  refused = λ s call live f e. refl;
  samples = λ frame. refl;
  works = λ frame o h. refl;
  delivers = λ frame o. landed_outputs o.verdict o.state frame _ _;
  abandons = λ frame o. refl;
  restarts = λ s e. refl;
  advances = λ s. refl;
}

pub told : (answer : Answer) (before result : ℕ) → result ≡ outputs_after answer before → (b : Behaviour) (call : Call) (live : Bool) (inputs : ℕ) (p q : Plain) → Answers b call live inputs p answer q → p.outputs ≡ before → q.outputs ≡ result
told answer before result e b call live inputs p q a h = by_cases live inputs (tells b p) a ∙ ap (outputs_after answer) h ∙ sym e
