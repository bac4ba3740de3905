-- What holds of every campaign: the count of scans, the outputs after an unstable delivery, and when a scan circles.
-- Assumes nothing.
use Rattle.std.specs.Prelude.{◌≡◌, ℕ, ◌+◌, ◌≤◌, ◌↔◌, Bool, true, false, ◌&&◌, if◌then◌else◌, List, [], ◌∷◌}
use Rattle.frames.specs.Edges.{edges_between}
use Rattle.image.specs.Meaning.{Meaning}
use Rattle.evolution.specs.declared.state.State.{State}
use Rattle.verdict.specs.declared.outcome.Verdict.{Verdict}
use Rattle.verdict.specs.declared.outcome.Verdict.TheVariants.{Stable, Circling, Overlong}
use Rattle.verdict.specs.Scans.{states}
use Rattle.verdict.specs.Verdicts.{NoneStable, Repeats}
use Rattle.plain.specs.declared.calls.Call.{Call}
use Rattle.plain.specs.declared.calls.Call.TheVariants.{Sample, Work, Deliver, Abandon, Restart, Advance}
use Rattle.plain.specs.declared.calls.Answer.{Answer}
use Rattle.plain.specs.declared.calls.Answer.TheVariants.{Done, Found, Delivered, Refused}
use Rattle.plain.specs.Behaviours.{Behaviour}
use Rattle.plain.specs.Stages.{Stage, idle, sampled, worked, halted, scan_open}
use Rattle.plain.specs.Charts.{Plain}
use Rattle.plain.specs.Moments.{Moment}

-- ---- accepted calls
abbrev pub is_done : Answer → Bool
is_done Done = true
is_done (Found v) = false
is_done (Delivered frame) = false
is_done (Refused f) = false

abbrev pub is_delivered : Answer → Bool
is_delivered Done = false
is_delivered (Found v) = false
is_delivered (Delivered frame) = true
is_delivered (Refused f) = false

abbrev pub is_sample : Call → Bool
is_sample Sample = true
is_sample Work = false
is_sample Deliver = false
is_sample Abandon = false
is_sample Restart = false
is_sample Advance = false

abbrev pub is_abandon : Call → Bool
is_abandon Sample = false
is_abandon Work = false
is_abandon Deliver = false
is_abandon Abandon = true
is_abandon Restart = false
is_abandon Advance = false

abbrev pub is_restart : Call → Bool
is_restart Sample = false
is_restart Work = false
is_restart Deliver = false
is_restart Abandon = false
is_restart Restart = true
is_restart Advance = false

abbrev pub accepted_sample : {I : Type 0} → Moment I → Bool
accepted_sample m = is_sample m.call && is_done m.answer

abbrev pub accepted_delivery : {I : Type 0} → Moment I → Bool
accepted_delivery m = is_delivered m.answer

abbrev pub accepted_abandonment : {I : Type 0} → Moment I → Bool
accepted_abandonment m = is_abandon m.call && is_done m.answer

abbrev pub accepted_restart : {I : Type 0} → Moment I → Bool
accepted_restart m = is_restart m.call && is_done m.answer

-- ---- the count
abbrev pub number_of : {I : Type 0} → (Moment I → Bool) → List (Moment I) → ℕ
number_of kind [] = 0
number_of kind (m ∷ ms) = (if kind m then 1 else 0) + number_of kind ms

abbrev pub open_scans : Stage → ℕ
open_scans s = if scan_open s then 1 else 0

-- the account of scans: samples open them, deliveries and abandons close them, and one may still be open
abbrev pub Counted : {I : Type 0} → List (Moment I) → Stage → Type 0
Counted ms s =
    number_of accepted_sample ms ≡ number_of accepted_delivery ms + number_of accepted_abandonment ms + open_scans s

-- ---- all off
abbrev pub is_stable : Verdict → Bool
is_stable (Stable m) = true
is_stable (Circling j k) = false
is_stable Overlong = false

-- the verdict that was answered last
abbrev pub last_verdict : Verdict → Answer → Verdict
last_verdict v Done = v
last_verdict v (Found w) = w
last_verdict v (Delivered frame) = v
last_verdict v (Refused f) = v

-- after a restart the outputs stay off up to a delivery
abbrev pub OffRestarted : {I : Type 0} → (I → Meaning) → List (Moment I) → Type 0
OffRestarted meaning [] = Unit {0}
OffRestarted meaning (m ∷ ms) =
    accepted_delivery m ≡ false → ((meaning m.after).outputs ≡ 0) × OffRestarted meaning ms

-- halted, they stay off up to a restart, and then up to a delivery
abbrev pub OffHalted : {I : Type 0} → (I → Meaning) → List (Moment I) → Type 0
OffHalted meaning [] = Unit {0}
OffHalted meaning (m ∷ ms) =
    ((meaning m.after).outputs ≡ 0)
    × (accepted_restart m ≡ true → OffRestarted meaning ms)
    × (accepted_restart m ≡ false → OffHalted meaning ms)

-- an unstable delivery, which is one after a last verdict other than stable, switches every output off
abbrev pub OffUnstable : {I : Type 0} → (I → Meaning) → Verdict → List (Moment I) → Type 0
OffUnstable meaning v [] = Unit {0}
OffUnstable meaning v (m ∷ ms) =
    (accepted_delivery m ≡ true → is_stable v ≡ false → ((meaning m.after).outputs ≡ 0) × OffHalted meaning ms)
    × OffUnstable meaning (last_verdict v m.answer) ms

-- ---- circling
abbrev pub AnswersCircling : Answer → Type 0
AnswersCircling answer = (j : ℕ) × ((k : ℕ) × (answer ≡ Found (Circling j k)))

-- s(1) to s(64) have no stable state and two equal ones
abbrev pub Turns : (State → Bool) → (ℕ → State) → Type 0
Turns stable s = NoneStable stable s × ((j : ℕ) × ((k : ℕ) × Repeats s j k))

-- the answer is circling exactly if the states turn, and then none of them is ever stable
pub record CirclesIfTurns (stable : State → Bool) (s : ℕ → State) (answer : Answer) : Type 0 where
  pub exactly : AnswersCircling answer ↔ Turns stable s
  pub never : AnswersCircling answer → (n : ℕ) → 1 ≤ n → stable (s n) ≡ false

-- so answers a work in turn
abbrev pub CirclesSampled : Behaviour → Plain → Stage → Answer → Type 0
CirclesSampled b p idle answer = Unit {0}
CirclesSampled b p (sampled frame) answer =
    CirclesIfTurns (b.rules frame).stable (states (b.rules frame) (edges_between p.previous frame) p.state) answer
CirclesSampled b p (worked frame o) answer = Unit {0}
CirclesSampled b p halted answer = Unit {0}

abbrev pub CirclesAt : Behaviour → Plain → Call → Answer → Type 0
CirclesAt b p Sample answer = Unit {0}
CirclesAt b p Work answer = CirclesSampled b p p.stage answer
CirclesAt b p Deliver answer = Unit {0}
CirclesAt b p Abandon answer = Unit {0}
CirclesAt b p Restart answer = Unit {0}
CirclesAt b p Advance answer = Unit {0}

abbrev pub Circles : {I : Type 0} → Behaviour → Plain → List (Moment I) → Type 0
Circles b p [] = Unit {0}
Circles b p (m ∷ ms) = CirclesAt b p m.call m.answer × Circles b m.plain ms
