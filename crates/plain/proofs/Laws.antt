-- What holds of every campaign. Assumes nothing.
use Rattle.std.proofs.Common.{◌≡◌, ℕ, zero, suc, ◌+◌, Bool, true, false, ◌&&◌, if◌then◌else◌, Some, List, [], ◌∷◌, take, refl, sym, ap, ◌∙◌, arith}
use Rattle.faults.specs.declared.Fault.{Fault}
use Rattle.frames.specs.declared.edges.Edges.{Edges}
use Rattle.image.specs.Meaning.{Meaning, Touch}
use Rattle.evolution.specs.declared.state.State.{State}
use Rattle.verdict.specs.declared.outcome.Outcome.{Outcome}
use Rattle.verdict.specs.declared.outcome.Verdict.{Verdict}
use Rattle.verdict.specs.declared.outcome.Verdict.TheVariants.{Stable, Circling, Overlong}
use Rattle.verdict.specs.Scans.{Rules, states, Scanned}
use Rattle.plain.specs.declared.calls.Call.{Call}
use Rattle.plain.specs.declared.calls.Call.TheVariants.{Sample, Work, Abandon}
use Rattle.plain.specs.declared.calls.Answer.{Answer}
use Rattle.plain.specs.declared.calls.Answer.TheVariants.{Found, Refused}
use Rattle.plain.specs.Behaviours.{Behaviour}
use Rattle.plain.specs.Stages.{Stage, idle, sampled, worked, halted, scan_open, is_halted, refusal}
use Rattle.plain.specs.Charts.{Plain, begun, at, landed, brought}
use Rattle.plain.specs.Moments.{Moment, last_of, Beside, Alike}
use Rattle.plain.specs.Laws.{is_done, is_delivered, is_sample, is_abandon, is_restart, accepted_sample, accepted_delivery, accepted_abandonment, number_of, open_scans, Counted, is_stable, last_verdict, OffRestarted, OffHalted, OffUnstable, CirclesIfTurns, CirclesAt, Circles}
use Rattle.plain.proofs.Cases.{InEachCase, by_cases}

-- ---- the count
abbrev one_if : Bool → ℕ
one_if x = if x then 1 else 0

-- a call keeps the account
abbrev Balances : Stage → Call → Answer → Plain → Type 0
Balances s call answer q =
    open_scans s + one_if (is_sample call && is_done answer) ≡ one_if (is_delivered answer) + one_if (is_abandon call && is_done answer) + open_scans q.stage

refused_balances : (s : Stage) (call : Call) (n : ℕ) → n + one_if (is_sample call && false) ≡ 0 + one_if (is_abandon call && false) + n
refused_balances s Sample n = omega arith
refused_balances s Abandon n = omega arith
refused_balances s call n = omega arith

landed_closed : (v : Verdict) (s : State) (frame outputs : ℕ) (p : Plain) → scan_open (landed v s frame outputs p).stage ≡ false
landed_closed (Stable m) s frame outputs p = refl
landed_closed (Circling j k) s frame outputs p = refl
landed_closed Overlong s frame outputs p = refl

balances : (b : Behaviour) (p : Plain) → InEachCase b p Balances
balances b p = record {
  refused = λ s call live f e. refused_balances s call (open_scans s);
  samples = λ frame. refl;
  works = λ frame o h. refl;
  delivers = λ frame o. rw (landed_closed o.verdict) refl;
  abandons = λ frame o. refl;
  restarts = λ s e. rw e refl;
  advances = λ s. omega arith;
}

-- ---- the outputs
-- they change at a delivery only
abbrev Keeps : Plain → Stage → Call → Answer → Plain → Type 0
Keeps p s call answer q = is_delivered answer ≡ false → q.outputs ≡ p.outputs

keeps : (b : Behaviour) (p : Plain) → InEachCase b p (Keeps p)
keeps b p = record {
  refused = λ s call live f e d. refl;
  samples = λ frame d. refl;
  works = λ frame o h d. refl;
  delivers = λ frame o d. cc;
  abandons = λ frame o d. refl;
  restarts = λ s e d. refl;
  advances = λ s d. refl;
}

-- halted, it stays so up to a restart, and delivers nothing
record HaltedStill (call : Call) (answer : Answer) (q : Plain) : Type 0 where
  nothing : is_delivered answer ≡ false
  halted : (is_restart call && is_done answer) ≡ false → is_halted q.stage ≡ true

abbrev StaysHalted : Stage → Call → Answer → Plain → Type 0
StaysHalted s call answer q = is_halted s ≡ true → HaltedStill call answer q

stays_halted : (b : Behaviour) (p : Plain) → InEachCase b p StaysHalted
stays_halted b p = record {
  refused = λ s call live f e h. record { nothing = refl; halted = λ d. h };
  samples = λ frame h. cc;
  works = λ frame o w h. cc;
  delivers = λ frame o h. cc;
  abandons = λ frame o h. cc;
  restarts = λ s e h. record { nothing = refl; halted = λ d. cc };
  advances = λ s h. record { nothing = refl; halted = λ d. h };
}

-- while a scan is worked, the verdict that was answered last is its own
abbrev Known : Verdict → Stage → Type 0
Known v idle = Unit {0}
Known v (sampled frame) = Unit {0}
Known v (worked frame o) = v ≡ o.verdict
Known v halted = Unit {0}

abbrev StaysKnown : Verdict → Stage → Call → Answer → Plain → Type 0
StaysKnown v s call answer q = Known v s → Known (last_verdict v answer) q.stage

landed_known : (w v : Verdict) (s : State) (frame outputs : ℕ) (p : Plain) → Known w (landed v s frame outputs p).stage
landed_known w (Stable m) s frame outputs p = tt
landed_known w (Circling j k) s frame outputs p = tt
landed_known w Overlong s frame outputs p = tt

stays_known : (b : Behaviour) (p : Plain) (v : Verdict) → InEachCase b p (StaysKnown v)
stays_known b p v = record {
  refused = λ s call live f e k. k;
  samples = λ frame k. tt;
  works = λ frame o h k. refl;
  delivers = λ frame o k. landed_known v o.verdict _ _ _ _;
  abandons = λ frame o k. tt;
  restarts = λ s e k. tt;
  advances = λ s k. k;
}

-- an unstable delivery halts, with every output off
record AllOff (q : Plain) : Type 0 where
  halted : is_halted q.stage ≡ true
  outputs : q.outputs ≡ 0

abbrev SwitchesOff : Verdict → Stage → Call → Answer → Plain → Type 0
SwitchesOff v s call answer q = Known v s → is_delivered answer ≡ true → is_stable v ≡ false → AllOff q

landed_off : (v : Verdict) (s : State) (frame : ℕ) (shows : State → ℕ) (p : Plain) → is_stable v ≡ false → AllOff (landed v s frame (brought shows v s) p)
landed_off (Stable m) s frame shows p u = cc
landed_off (Circling j k) s frame shows p u = record { halted = refl; outputs = refl }
landed_off Overlong s frame shows p u = record { halted = refl; outputs = refl }

switches_off : (b : Behaviour) (p : Plain) (v : Verdict) → InEachCase b p (SwitchesOff v)
switches_off b p v = record {
  refused = λ s call live f e k d u. cc;
  samples = λ frame k d u. cc;
  works = λ frame o h k d u. cc;
  delivers = λ frame o k d u. landed_off o.verdict o.state frame (b.shows frame) _ (ap is_stable (sym k) ∙ u);
  abandons = λ frame o k d u. cc;
  restarts = λ s e k d u. cc;
  advances = λ s k d u. cc;
}

-- ---- circling
abbrev CirclesRight : Behaviour → Plain → Stage → Call → Answer → Plain → Type 0
CirclesRight b p s call answer q = CirclesAt b (at s p) call answer

refused_circles : (b : Behaviour) (p : Plain) (s : Stage) (call : Call) (live : Bool) (f : Fault) → refusal call s live ≡ Some f → CirclesAt b (at s p) call (Refused f)
refused_circles b p (sampled frame) Work live f e = cc
refused_circles b p s Work live f e = tt
refused_circles b p s call live f e = tt

worked_circles : {rules : Rules} {edges : Edges} {s : State} {o : Outcome} → Scanned rules edges s o → CirclesIfTurns rules.stable (states rules edges s) (Found o.verdict)
worked_circles {o = o} h = record {
  exactly = (
    λ w. h.verdict.circles.0 (w.0, (w.1.0, same_verdict w.1.1)),
    λ t. let c = h.verdict.circles.1 t in (c.0, (c.1.0, ap (λ v. Found v) c.1.1)),
  );
  never = λ w. h.verdict.never w.0 w.1.0 (same_verdict w.1.1);
}
  where
    same_verdict : {v : Verdict} → Found o.verdict ≡ Found v → o.verdict ≡ v
    same_verdict e = cc

circles_right : (b : Behaviour) (p : Plain) → InEachCase b p (CirclesRight b p)
circles_right b p = record {
  refused = λ s call live f e. refused_circles b p s call live f e;
  samples = λ frame. tt;
  works = λ frame o h. worked_circles h;
  delivers = λ frame o. tt;
  abandons = λ frame o. tt;
  restarts = λ s e. tt;
  advances = λ s. tt;
}

-- ---- whole campaigns
module _ {I : Type 0} (meaning : I → Meaning) (becomes : I → Touch → I → Type 0) (b : Behaviour) where
  -- what holds in each case holds of a call beside the plain chart
  holds_at : {p : Plain} {m : Moment I} {P : Stage → Call → Answer → Plain → Type 0} → InEachCase b p P → Beside meaning becomes b p m → P p.stage m.call m.answer m.plain
  holds_at {p} {m} c h = by_cases (meaning m.before).live (meaning m.before).inputs c h.answered

  alike_take : (n : ℕ) (p : Plain) (ms : List (Moment I)) → Alike meaning becomes b p ms → Alike meaning becomes b p (take n ms)
  alike_take zero p ms a = tt
  alike_take (suc n) p [] a = tt
  alike_take (suc n) p (m ∷ ms) a = (a.0, alike_take n m.plain ms a.1)

  counted_from : (p : Plain) (ms : List (Moment I)) → Alike meaning becomes b p ms → open_scans p.stage + number_of accepted_sample ms ≡ number_of accepted_delivery ms + number_of accepted_abandonment ms + open_scans (last_of p ms).stage
  counted_from p [] a = omega arith
  counted_from p (m ∷ ms) a =
      let one = holds_at (balances b p) a.0 in
      let rest = counted_from m.plain ms a.1 in
      omega arith

  -- the account of scans: samples open them, deliveries and abandons close them, and one may still be open
  pub counted : (out : ℕ) (ms : List (Moment I)) → Alike meaning becomes b (begun b.begins out) ms → (n : ℕ) → Counted (take n ms) (last_of (begun b.begins out) (take n ms)).stage
  counted out ms a n = let all = counted_from (begun b.begins out) (take n ms) (alike_take n (begun b.begins out) ms a) in omega arith

  off_restarted : (p : Plain) (ms : List (Moment I)) → p.outputs ≡ 0 → Alike meaning becomes b p ms → OffRestarted meaning ms
  off_restarted p [] z a = tt
  off_restarted p (m ∷ ms) z a = λ d. let off = holds_at (keeps b p) a.0 d ∙ z in (a.0.outputs ∙ off, off_restarted m.plain ms off a.1)

  off_halted : (p : Plain) (ms : List (Moment I)) → AllOff p → Alike meaning becomes b p ms → OffHalted meaning ms
  off_halted p [] h a = tt
  off_halted p (m ∷ ms) h a = (
    a.0.outputs ∙ off,
    λ r. off_restarted m.plain ms off a.1,
    λ r. off_halted m.plain ms (record { halted = still.halted r; outputs = off }) a.1,
  )
    where
      still : HaltedStill m.call m.answer m.plain
      still = holds_at (stays_halted b p) a.0 h.halted

      off : m.plain.outputs ≡ 0
      off = holds_at (keeps b p) a.0 still.nothing ∙ h.outputs

  off_unstable : (p : Plain) (v : Verdict) (ms : List (Moment I)) → Known v p.stage → Alike meaning becomes b p ms → OffUnstable meaning v ms
  off_unstable p v [] k a = tt
  off_unstable p v (m ∷ ms) k a = (
    λ d u. let off = holds_at (switches_off b p v) a.0 k d u in (a.0.outputs ∙ off.outputs, off_halted m.plain ms off a.1),
    off_unstable m.plain (last_verdict v m.answer) ms (holds_at (stays_known b p v) a.0 k) a.1,
  )

  -- an unstable delivery switches every output off, up to the delivery that follows a restart
  pub off : (out : ℕ) (ms : List (Moment I)) → Alike meaning becomes b (begun b.begins out) ms → (v : Verdict) → OffUnstable meaning v ms
  off out ms a v = off_unstable (begun b.begins out) v ms tt a

  -- a work answers circling exactly if the states turn
  pub circles : (p : Plain) (ms : List (Moment I)) → Alike meaning becomes b p ms → Circles b p ms
  circles p [] a = tt
  circles p (m ∷ ms) a = (holds_at (circles_right b p) a.0, circles m.plain ms a.1)
