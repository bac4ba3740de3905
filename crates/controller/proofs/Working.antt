-- A frame that is worked. Assumes nothing.
use Rattle.std.proofs.Common.{◌≡◌, ℕ, refl, sym, ap, subst}
use Rattle.image.specs.Meaning.{Meaning, Touch}
use Rattle.verdict.specs.declared.outcome.Outcome.{Outcome}
use Rattle.verdict.specs.declared.outcome.Verdict.{Verdict}
use Rattle.plain.specs.declared.calls.Call.{Call}
use Rattle.plain.specs.declared.calls.Call.TheVariants.{Work}
use Rattle.plain.specs.declared.calls.Answer.TheVariants.{Found}
use Rattle.plain.specs.Behaviours.{Behaviour}
use Rattle.plain.specs.Stages.{refusal}
use Rattle.plain.specs.Charts.{ComesTo, Works, Judged}
use Rattle.controller.specs.Standing.{stage_of, standing}
use Rattle.controller.specs.Calls.{in_phase, WorkedAs}
use Rattle.controller.specs.Beside.{Makes}
use Rattle.controller.specs.declared.phase.Phase.{Phase}
use Rattle.controller.specs.declared.phase.Phase.TheVariants.{Idle, Sampled, Worked, Halted}
use Rattle.controller.specs.declared.controller.Controller.{Controller}

-- in the phase that has the frame
pub worked_as : (b : Behaviour) (p : Phase) (c : Controller) (frame : ℕ) (o : Outcome) → p ≡ Sampled frame → ComesTo b c.state c.previous frame o → WorkedAs b p c o.verdict (in_phase (Worked frame o) c)
worked_as b p c frame o e h = subst (λ x. WorkedAs b x c o.verdict (in_phase (Worked frame o) c)) (sym e) (o, (h, refl, refl))

-- so works the plain chart
by_phase : {I : Type 0} (meaning : I → Meaning) (becomes : I → Touch → I → Type 0) (b : Behaviour) (c : Controller) (i : I) (v : Verdict) (d : Controller) (p : Phase) → c.phase ≡ p → WorkedAs b p c v d → Makes meaning becomes b Work c i (Found v) d i
by_phase meaning becomes b c i v d Idle e h = absurd h
by_phase meaning becomes b c i v d (Sampled frame) e h = record {
  answered =
      subst
      (λ x. Judged (refusal Work (stage_of x) (meaning i).live) (Works b (stage_of x) (standing c (meaning i).outputs)) (standing c (meaning i).outputs) (Found v) (standing d (meaning i).outputs))
      (sym e) (h.0, (h.1.0, ap Found h.1.1, ap (λ x. standing x (meaning i).outputs) h.1.2));
  kept = (refl, refl);
  touched = refl;
}
by_phase meaning becomes b c i v d (Worked frame o) e h = absurd h
by_phase meaning becomes b c i v d Halted e h = absurd h

pub work_makes : {I : Type 0} (meaning : I → Meaning) (becomes : I → Touch → I → Type 0) (b : Behaviour) (call : Call) (c : Controller) (i : I) (v : Verdict) (d : Controller) → call ≡ Work → WorkedAs b c.phase c v d → Makes meaning becomes b call c i (Found v) d i
work_makes meaning becomes b call c i v d e h = subst (λ x. Makes meaning becomes b x c i (Found v) d i) (sym e) (by_phase meaning becomes b c i v d c.phase refl h)
