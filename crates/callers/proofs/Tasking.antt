-- Rounds, one more at a time. Assumes nothing.
use Rattle.std.proofs.Common.{◌≡◌, ℕ, suc, ◌∙◌, refl, sym, ap, subst}
use Rattle.image.specs.Meaning.{Meaning, Touch, advancing}
use Rattle.evolution.specs.declared.state.State.{State}
use Rattle.verdict.specs.declared.outcome.Verdict.{Verdict}
use Rattle.verdict.specs.declared.outcome.Verdict.TheVariants.{Stable, Circling, Overlong}
use Rattle.plain.specs.Behaviours.{Behaviour}
use Rattle.controller.specs.Calls.{landed}
use Rattle.controller.specs.declared.controller.Controller.{Controller}
use Rattle.callers.specs.Scans.{Cycled, Answering}
use Rattle.callers.specs.Tasks.{Round, Rounds}

landed_program : (v : Verdict) (s : State) (frame : ℕ) (c : Controller) → (landed v s frame c).program ≡ c.program
landed_program (Stable m) s frame c = refl
landed_program (Circling j k) s frame c = refl
landed_program Overlong s frame c = refl

module _ {I : Type 0} {meaning : I → Meaning} {becomes : I → Touch → I → Type 0} {b : Behaviour} where
  -- a scan that is delivered, and then an advance
  pub round_of : {c d : Controller} {i j : I} {v : Verdict} (k : I) → Cycled b c (meaning i).inputs v d (meaning k).outputs → Answering becomes (meaning k).outputs i k → (meaning j).outputs ≡ (meaning k).outputs → becomes k advancing j → Round meaning becomes b c i v d j
  round_of {c} {d} {i} {v = v} k s a e r = record {
    delivered = k;
    scan = subst (λ o. Cycled b c (meaning i).inputs v d o) (sym e) s;
    answering = subst (λ o. Answering becomes o i k) (sym e) a;
    advanced = r;
  }

  -- a round leaves the program
  pub same_program : {c d : Controller} {i j : I} {v : Verdict} → Round meaning becomes b c i v d j → d.program ≡ c.program
  same_program {c} {i = i} r =
      ap (λ x. x.program) r.scan.controller ∙ landed_program r.scan.outcome.verdict r.scan.outcome.state (meaning i).inputs c

  pub one_more : {n m : ℕ} (c : Controller) (i : I) {d e : Controller} {j k : I} {v : Verdict} → m ≡ suc n → Rounds meaning becomes b n c i e k → Round meaning becomes b e k v d j → Rounds meaning becomes b m c i d j
  one_more c i {d} {e} {j} {k} {v} s h r = subst (λ x. Rounds meaning becomes b x c i d j) (sym s) (e, (k, (v, (h, r))))
