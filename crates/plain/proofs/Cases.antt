-- An answer of the plain chart, case by case. Assumes nothing.
use Rattle.std.proofs.Common.{◌≡◌, ℕ, Bool, false, Option, Some, None, refl, sym, subst₂}
use Rattle.faults.specs.declared.Fault.{Fault}
use Rattle.verdict.specs.declared.outcome.Outcome.{Outcome}
use Rattle.plain.specs.declared.calls.Call.{Call}
use Rattle.plain.specs.declared.calls.Call.TheVariants.{Sample, Work, Deliver, Abandon, Restart, Advance}
use Rattle.plain.specs.declared.calls.Answer.{Answer}
use Rattle.plain.specs.declared.calls.Answer.TheVariants.{Done, Found, Delivered, Refused}
use Rattle.plain.specs.Behaviours.{Behaviour}
use Rattle.plain.specs.Stages.{Stage, idle, sampled, worked, halted, scan_open, refusal}
use Rattle.plain.specs.Charts.{Plain, begun, at, ComesTo, delivered_frame, landed, Takes, Judged, Answers}

-- P holds of the stage before, the call, the answer and the plain chart after, in each case
pub record InEachCase (b : Behaviour) (p : Plain) (P : Stage → Call → Answer → Plain → Type 0) : Type 0 where
  pub refused : (s : Stage) (call : Call) (live : Bool) (f : Fault) → refusal call s live ≡ Some f → P s call (Refused f) (at s p)
  pub samples : (frame : ℕ) → P idle Sample Done (at (sampled frame) p)
  pub works : (frame : ℕ) (o : Outcome) → ComesTo b p.state p.previous frame o → P (sampled frame) Work (Found o.verdict) (at (worked frame o) p)
  pub delivers : (frame : ℕ) (o : Outcome) → P (worked frame o) Deliver (Delivered (delivered_frame b frame o)) (landed o.verdict o.state frame (delivered_frame b frame o) (at (worked frame o) p))
  pub abandons : (frame : ℕ) (o : Outcome) → P (worked frame o) Abandon Done (at idle p)
  pub restarts : (s : Stage) → scan_open s ≡ false → P s Restart Done (begun b.begins p.outputs)
  pub advances : (s : Stage) → P s Advance Done (at s p)

module _ {b : Behaviour} {p : Plain} {P : Stage → Call → Answer → Plain → Type 0} (c : InEachCase b p P) (inputs : ℕ) (answer : Answer) (q : Plain) where
  as_said : (s : Stage) (call : Call) (x : Answer) (y : Plain) → (answer ≡ x) × (q ≡ y) → P s call x y → P s call answer q
  as_said s call x y a h = subst₂ (P s call) (sym a.0) (sym a.1) h

  accepted : (call : Call) (s : Stage) (live : Bool) → refusal call s live ≡ None → Takes b call inputs (at s p) answer q → P s call answer q
  accepted Sample idle live e a = as_said _ _ _ _ a (c.samples inputs)
  accepted Sample s live e a = cc
  accepted Work (sampled frame) live e a = as_said _ _ _ _ (a.1.1, a.1.2) (c.works frame a.0 a.1.0)
  accepted Work s live e a = absurd a
  accepted Deliver (worked frame o) live e a = as_said _ _ _ _ a (c.delivers frame o)
  accepted Deliver s live e a = absurd a
  accepted Abandon (worked frame o) live e a = as_said _ _ _ _ a (c.abandons frame o)
  accepted Abandon s live e a = cc
  accepted Restart idle live e a = as_said _ _ _ _ a (c.restarts idle refl)
  accepted Restart halted live e a = as_said _ _ _ _ a (c.restarts halted refl)
  accepted Restart s live e a = cc
  accepted Advance s live e a = as_said _ _ _ _ a (c.advances s)

  judged : (call : Call) (s : Stage) (live : Bool) (r : Option Fault) → refusal call s live ≡ r → Judged r (Takes b call inputs (at s p)) (at s p) answer q → P s call answer q
  judged call s live (Some f) e a = as_said s call _ _ a (c.refused s call live f e)
  judged call s live None e a = accepted call s live e a

-- so of each answer
pub by_cases : {b : Behaviour} {call : Call} (live : Bool) (inputs : ℕ) {p : Plain} {answer : Answer} {q : Plain} {P : Stage → Call → Answer → Plain → Type 0} → InEachCase b p P → Answers b call live inputs p answer q → P p.stage call answer q
by_cases {call = call} live inputs {p} {answer} {q} c a = judged c inputs answer q call p.stage live _ refl a
