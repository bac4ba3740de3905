-- The calls of a campaign, one by one, beside the plain chart. Assumes nothing.
use Rattle.std.specs.Prelude.{◌≡◌, ℕ, List, [], ◌∷◌}
use Rattle.image.specs.Meaning.{Meaning, Touch, sampling, delivering, advancing}
use Rattle.plain.specs.declared.calls.Call.{Call}
use Rattle.plain.specs.declared.calls.Call.TheVariants.{Sample, Work, Deliver, Abandon, Restart, Advance}
use Rattle.plain.specs.declared.calls.Answer.{Answer}
use Rattle.plain.specs.declared.calls.Entry.{Entry}
use Rattle.plain.specs.Behaviours.{Behaviour}
use Rattle.plain.specs.Stages.{Stage, idle, sampled, worked, halted}
use Rattle.plain.specs.Charts.{Plain, Answers, delivered_frame}

-- a call: the image before it and after it, the answer, the steps that are active then, and the plain chart then
pub record Moment (I : Type 0) : Type 0 where
  pub call : Call
  pub before : I
  pub answer : Answer
  pub active : ℕ
  pub after : I
  pub plain : Plain

abbrev pub call_of : {I : Type 0} → Moment I → Call
call_of m = m.call

-- what is written down of it
abbrev pub entry_of : {I : Type 0} → Moment I → Entry
entry_of m = record { answer = m.answer; active = m.active }

-- each call finds the image as the call before it left it, from the first image to the last
abbrev pub Linked : {I : Type 0} → I → List (Moment I) → I → Type 0
Linked i [] j = j ≡ i
Linked i (m ∷ ms) j = (m.before ≡ i) × Linked m.after ms j

-- the plain chart after the last of them
abbrev pub last_of : {I : Type 0} → Plain → List (Moment I) → Plain
last_of p [] = p
last_of p (m ∷ ms) = last_of m.plain ms

-- an advance leaves the outputs of the image, and every other call its liveness and inputs
abbrev pub SameInputs : Meaning → Meaning → Type 0
SameInputs m n = (n.live ≡ m.live) × (n.inputs ≡ m.inputs)

abbrev pub Kept : Call → Meaning → Meaning → Type 0
Kept Sample m n = SameInputs m n
Kept Work m n = SameInputs m n
Kept Deliver m n = SameInputs m n
Kept Abandon m n = SameInputs m n
Kept Restart m n = SameInputs m n
Kept Advance m n = n.outputs ≡ m.outputs

-- the image is sampled by a sample in turn, and is else as it was
abbrev pub SampledInTurn : {I : Type 0} → (I → Touch → I → Type 0) → Stage → I → I → Type 0
SampledInTurn becomes idle i j = becomes i sampling j
SampledInTurn becomes (sampled frame) i j = j ≡ i
SampledInTurn becomes (worked frame o) i j = j ≡ i
SampledInTurn becomes halted i j = j ≡ i

-- a delivery in turn brings it the frame of the open scan
abbrev pub DeliveredInTurn : {I : Type 0} → (I → Touch → I → Type 0) → Behaviour → Stage → I → I → Type 0
DeliveredInTurn becomes b idle i j = j ≡ i
DeliveredInTurn becomes b (sampled frame) i j = j ≡ i
DeliveredInTurn becomes b (worked frame o) i j = becomes i (delivering (delivered_frame b frame o)) j
DeliveredInTurn becomes b halted i j = j ≡ i

-- what a call does to the image, by the image's own rule
abbrev pub Touched : {I : Type 0} → (I → Touch → I → Type 0) → Behaviour → Call → Stage → I → I → Type 0
Touched becomes b Sample s i j = SampledInTurn becomes s i j
Touched becomes b Work s i j = j ≡ i
Touched becomes b Deliver s i j = DeliveredInTurn becomes b s i j
Touched becomes b Abandon s i j = j ≡ i
Touched becomes b Restart s i j = j ≡ i
Touched becomes b Advance s i j = becomes i advancing j

-- a call beside the plain chart p: the answer is its answer, and the only one; then the image has its outputs, and its
-- steps are the active ones
pub record Beside {I : Type 0} (meaning : I → Meaning) (becomes : I → Touch → I → Type 0) (b : Behaviour) (p : Plain) (m : Moment I) : Type 0 where
  pub answered : Answers b m.call (meaning m.before).live (meaning m.before).inputs p m.answer m.plain
  pub only :
      (answer : Answer) (q : Plain) → Answers b m.call (meaning m.before).live (meaning m.before).inputs p answer q →
      (answer ≡ m.answer) × (q ≡ m.plain)
  pub outputs : (meaning m.after).outputs ≡ m.plain.outputs
  pub steps : m.active ≡ m.plain.state.active
  pub kept : Kept m.call (meaning m.before) (meaning m.after)
  pub touched : Touched becomes b m.call p.stage m.before m.after

-- each call beside the plain chart as the call before it left that
abbrev pub Alike : {I : Type 0} → (I → Meaning) → (I → Touch → I → Type 0) → Behaviour → Plain → List (Moment I) → Type 0
Alike meaning becomes b p [] = Unit {0}
Alike meaning becomes b p (m ∷ ms) = Beside meaning becomes b p m × Alike meaning becomes b m.plain ms
