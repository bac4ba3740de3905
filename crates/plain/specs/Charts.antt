-- The plain chart: what it answers to a call, and what it then is. Assumes nothing.
use Rattle.std.specs.Prelude.{◌≡◌, ℕ, Bool, Some, None, Option}
use Rattle.frames.specs.Edges.{edges_between}
use Rattle.faults.specs.declared.Fault.{Fault}
use Rattle.evolution.specs.declared.state.State.{State}
use Rattle.verdict.specs.declared.outcome.Outcome.{Outcome}
use Rattle.verdict.specs.declared.outcome.Verdict.{Verdict}
use Rattle.verdict.specs.declared.outcome.Verdict.TheVariants.{Stable, Circling, Overlong}
use Rattle.verdict.specs.Scans.{Scanned}
use Rattle.plain.specs.declared.calls.Call.{Call}
use Rattle.plain.specs.declared.calls.Call.TheVariants.{Sample, Work, Deliver, Abandon, Restart, Advance}
use Rattle.plain.specs.declared.calls.Answer.{Answer}
use Rattle.plain.specs.declared.calls.Answer.TheVariants.{Done, Found, Delivered, Refused}
use Rattle.plain.specs.Behaviours.{Behaviour}
use Rattle.plain.specs.Stages.{Stage, idle, sampled, worked, halted, refusal}

pub record Plain : Type 0 where
  pub stage : Stage
  pub state : State
  pub previous : Option ℕ
  pub outputs : ℕ

-- as after a restart
abbrev pub begun : State → ℕ → Plain
begun s outputs = record { stage = idle; state = s; previous = None; outputs = outputs }

-- another stage, and all else as it was
abbrev pub at : Stage → Plain → Plain
at stage p = record { stage = stage; state = p.state; previous = p.previous; outputs = p.outputs }

-- what a frame comes to from a state, with the edges from the previous frame to it
abbrev pub ComesTo : Behaviour → State → Option ℕ → ℕ → Outcome → Type 0
ComesTo b s previous frame o = Scanned (b.rules frame) (edges_between previous frame) s o

-- the frame that a delivery brings: the output frame of a stable state, or else no output
abbrev pub brought : (State → ℕ) → Verdict → State → ℕ
brought shows (Stable m) s = shows s
brought shows (Circling j k) s = 0
brought shows Overlong s = 0

abbrev pub delivered_frame : Behaviour → ℕ → Outcome → ℕ
delivered_frame b frame o = brought (b.shows frame) o.verdict o.state

-- what a delivery leaves: of a stable scan its state, and its frame for the next edges; of any other a halt
abbrev pub landed : Verdict → State → ℕ → ℕ → Plain → Plain
landed (Stable m) s frame outputs p = record { stage = idle; state = s; previous = Some frame; outputs = outputs }
landed (Circling j k) s frame outputs p = record { stage = halted; state = p.state; previous = p.previous; outputs = outputs }
landed Overlong s frame outputs p = record { stage = halted; state = p.state; previous = p.previous; outputs = outputs }

-- the open frame, sampled, is worked
abbrev pub Works : Behaviour → Stage → Plain → Answer → Plain → Type 0
Works b idle p answer q = ⊥
Works b (sampled frame) p answer q =
    (o : Outcome) × (ComesTo b p.state p.previous frame o × (answer ≡ Found o.verdict) × (q ≡ at (worked frame o) p))
Works b (worked frame o) p answer q = ⊥
Works b halted p answer q = ⊥

-- the open frame, worked, is delivered
abbrev pub Delivers : Behaviour → Stage → Plain → Answer → Plain → Type 0
Delivers b idle p answer q = ⊥
Delivers b (sampled frame) p answer q = ⊥
Delivers b (worked frame o) p answer q =
    (answer ≡ Delivered (delivered_frame b frame o)) × (q ≡ landed o.verdict o.state frame (delivered_frame b frame o) p)
Delivers b halted p answer q = ⊥

-- a call is accepted
abbrev pub Takes : Behaviour → Call → ℕ → Plain → Answer → Plain → Type 0
Takes b Sample inputs p answer q = (answer ≡ Done) × (q ≡ at (sampled inputs) p)
Takes b Work inputs p answer q = Works b p.stage p answer q
Takes b Deliver inputs p answer q = Delivers b p.stage p answer q
Takes b Abandon inputs p answer q = (answer ≡ Done) × (q ≡ at idle p)
Takes b Restart inputs p answer q = (answer ≡ Done) × (q ≡ begun b.begins p.outputs)
Takes b Advance inputs p answer q = (answer ≡ Done) × (q ≡ p)

-- a call is refused, and nothing changes; or it is accepted
abbrev pub Judged : Option Fault → (Answer → Plain → Type 0) → Plain → Answer → Plain → Type 0
Judged (Some f) Accepted p answer q = (answer ≡ Refused f) × (q ≡ p)
Judged None Accepted p answer q = Accepted answer q

-- p answers a call that finds the image live or not, with these inputs, and becomes q
abbrev pub Answers : Behaviour → Call → Bool → ℕ → Plain → Answer → Plain → Type 0
Answers b call live inputs p answer q = Judged (refusal call p.stage live) (Takes b call inputs p) p answer q
