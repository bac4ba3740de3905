-- What a delivery leaves is at rest, or halted with all off. Assumes nothing.
use Rattle.std.proofs.Common.{◌≡◌, ℕ, Bool, true, false, if◌then◌else◌, Option, Ok, Err, Result, refl, sym, ap, ◌∙◌, subst, subst₂}
use Rattle.faults.specs.declared.ImageFault.TheVariants.{NotLive}
use Rattle.faults.specs.declared.ImageFault.{ImageFault}
use Rattle.frames.specs.Edges.{edges_between}
use Rattle.image.specs.Meaning.{Meaning, delivered, showing}
use Rattle.evolution.specs.declared.state.State.{State}
use Rattle.verdict.specs.declared.outcome.Outcome.{Outcome}
use Rattle.verdict.specs.declared.outcome.Verdict.{Verdict}
use Rattle.verdict.specs.declared.outcome.Verdict.TheVariants.{Stable, Circling, Overlong}
use Rattle.verdict.specs.Scans.{states, settled}
use Rattle.plain.specs.Behaviours.{Behaviour}
use Rattle.plain.specs.Charts.{ComesTo, brought, delivered_frame}
use Rattle.controller.specs.Calls.{landed}
use Rattle.controller.specs.Resting.{AtRest, LeftAtRest}
use Rattle.controller.specs.declared.phase.Phase.{Phase}
use Rattle.controller.specs.declared.phase.Phase.TheVariants.{Worked}
use Rattle.controller.specs.declared.controller.Controller.{Controller}

rest_of : (b : Behaviour) (c : Controller) (s : State) (previous : Option ℕ) (frame : ℕ) (o : Outcome) (v : Verdict) → v ≡ o.verdict → ComesTo b s previous frame o → AtRest b (landed v o.state frame c) frame (brought (b.shows frame) v o.state)
rest_of b c s previous frame o (Stable m) e h =
    let first = (h.verdict.is_stable m).0 (sym e) in
    let settles = h.state ∙ ap (λ v. settled v (states (b.rules frame) (edges_between previous frame) s)) (sym e) in
    (ap (b.rules frame).stable settles ∙ first.is_stable, refl)
rest_of b c s previous frame o (Circling j k) e h = refl
rest_of b c s previous frame o Overlong e h = refl

pub at_rest : (b : Behaviour) (c d : Controller) (s : State) (previous : Option ℕ) (frame outputs : ℕ) (o : Outcome) → ComesTo b s previous frame o → d ≡ landed o.verdict o.state frame c → outputs ≡ delivered_frame b frame o → AtRest b d frame outputs
at_rest b c d s previous frame outputs o h e shown =
    subst₂ (λ x y. AtRest b x frame y) (sym e) (sym shown) (rest_of b c s previous frame o o.verdict refl h)

-- in the phase that has the outcome
pub left_at_rest : (b : Behaviour) (c d : Controller) (p : Phase) (frame outputs : ℕ) (o : Outcome) → p ≡ Worked frame o → ComesTo b c.state c.previous frame o → d ≡ landed o.verdict o.state frame c → outputs ≡ delivered_frame b frame o → LeftAtRest b p d outputs
left_at_rest b c d p frame outputs o e h l shown =
    subst (λ x. LeftAtRest b x d outputs) (sym e) (at_rest b c d c.state c.previous frame outputs o h l shown)

-- ---- an image that took the frame shows it
taken : (live : Bool) (frame old : ℕ) (u : Unit {0}) → ◌≡◌ {A = Result (Unit {0}) ImageFault} (Ok u) (if live then Ok tt else Err NotLive) → (if live then frame else old) ≡ frame
taken true frame old u e = refl
taken false frame old u e = cc

pub shows : (m n : Meaning) (frame : ℕ) (u : Unit {0}) → ◌≡◌ {A = Result (Unit {0}) ImageFault} (Ok u) (delivered m) → n ≡ showing frame m → n.outputs ≡ frame
shows m n frame u e s = ap (λ x. x.outputs) s ∙ taken m.live frame m.outputs u e
