use Rattle.std.proofs.Common.{[], ◌∷◌, refl, ap, ◌∙◌}
use Rattle.words.specs.Emitted.{kept_in, pushed}
use Rattle.lines.proofs.Testing.{test_on, test_off}
use Rattle.lines.proofs.steps.test_steps.Goals as goal
use Rattle.lines.proofs.steps.test_steps.Goals.{in-Some, in_default}

pub loop-t-init : goal.loop-t-init
unfolding pushed
loop-t-init c = (refl, refl)

pub loop-t-preserved : goal.loop-t-preserved
loop-t-preserved c =
    elim c.match-number_of.branch [
      | in-Some w ↦
          let m = test_on (kept_in c.args.out.now) (kept_in c.loop-t.out) (kept_in w.push.new.self) c.args.list.now c.loop-t.t-index _ w.in-Some.n c.loop-t.first c.loop-t-test.true c.loop-t.invariant.0 c.loop-t.invariant.1 w.in-Some.ensures (w.push.ensures.step ∙ ap (λ i. pushed (kept_in c.loop-t.out) (i ∷ [])) w.step_test.ensures) in
          (ap kept_in w.out-is ∙ m.0, w.first-is ∙ m.1)
      | in_default w ↦
          let m = test_off (kept_in c.args.out.now) (kept_in c.loop-t.out) c.args.list.now c.loop-t.t-index _ c.loop-t.first c.loop-t-test.true c.loop-t.invariant.0 c.loop-t.invariant.1 w.in_default.ensures in
          (ap kept_in w.out-is ∙ m.0, w.first-is ∙ m.1)
    ]
