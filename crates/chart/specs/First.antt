-- The law of the first chart fault: of all faults 7 to 10 that a text has, the one at the least place is answered, and on
-- a tie the one with the smaller number; 11 where there is none. Assumes nothing.
use Rattle.std.specs.Prelude.{◌≡◌, ℕ, ◌<◌, ◌≤◌, true, ◌⊎◌, List, [], length, Ok, Err, Result, ◌≢◌, slice_index_or}
use Rattle.faults.specs.Numbers.{chart_number, chart_place}
use Rattle.faults.specs.declared.TextFault.{TextFault}
use Rattle.faults.specs.declared.ChartFault.{ChartFault}
use Rattle.faults.specs.declared.ChartFault.TheVariants.{Text, DeclaredTwice, UndeclaredStep, ListedTwice, HeldTwice}
use Rattle.faults.specs.declared.ChartFault.TheVariants.{NoInitialStep}
use Rattle.lines.specs.declared.shape.Number.{Number}
use Rattle.lines.specs.Grammar.{Tree, step}
use Rattle.chart.specs.Said.{Holding, steps_of, transitions_of, uses_of, lists_of, holdings_of, all}

-- of two entries of a list the second says the same as the first, and stands at the place
pub record Repeats {A : Type 0} (Same : A → A → Type 0) (place_of : A → ℕ) (entries : List A) (place : ℕ) : Type 0 where
  pub first : ℕ
  pub second : ℕ
  pub order : first < second
  pub inside : second < length entries
  pub same : (d : A) → Same (slice_index_or entries second d) (slice_index_or entries first d)
  pub stands : (d : A) → place ≡ place_of (slice_index_or entries second d)

-- two numbers of a list are equal, the second at the place
abbrev pub NumberTwice : List Number → ℕ → Type 0
NumberTwice = Repeats (λ m n. m.value ≡ n.value) (λ n. n.place)

-- two lines hold one output by one step, the second at the place
abbrev pub HoldingTwice : List Holding → ℕ → Type 0
HoldingTwice = Repeats (λ g h. (g.step ≡ h.step) × (g.output ≡ h.output)) (λ h. h.place)

-- one of the lists has a number twice
pub record InOneList (lists : List (List Number)) (place : ℕ) : Type 0 where
  pub index : ℕ
  pub inside : index < length lists
  pub twice : NumberTwice (slice_index_or lists index []) place

-- a step is named at the place, and is none of those declared
pub record NotDeclared (declared named : List Number) (place : ℕ) : Type 0 where
  pub index : ℕ
  pub inside : index < length named
  pub stands : (d : Number) → place ≡ (slice_index_or named index d).place
  pub none : (i : ℕ) (d : Number) → i < length declared → (slice_index_or declared i d).value ≢ (slice_index_or named index d).value

-- the faults 7 to 10 of a text
abbrev pub FaultOf : List Tree → ChartFault → Type 0
FaultOf ls (Text f) = ⊥
FaultOf ls (DeclaredTwice place) = NumberTwice (all steps_of ls) place ⊎ NumberTwice (all transitions_of ls) place
FaultOf ls (UndeclaredStep place) = NotDeclared (all steps_of ls) (all uses_of ls) place
FaultOf ls (ListedTwice place) = InOneList (all lists_of ls) place
FaultOf ls (HeldTwice place) = HoldingTwice (all holdings_of ls) place
FaultOf ls (NoInitialStep place) = ⊥

abbrev pub Faultless : List Tree → Type 0
Faultless ls = (g : ChartFault) → FaultOf ls g → ⊥

-- f stands before g, or at its place with no larger number
abbrev pub NoLater : ChartFault → ChartFault → Type 0
NoLater f g = (chart_place f < chart_place g) ⊎ ((chart_place f ≡ chart_place g) × (chart_number f ≤ chart_number g))

-- one of the lines is an initial step
pub record InitialStep (ls : List Tree) : Type 0 where
  pub index : ℕ
  pub number : Number
  pub inside : index < length ls
  pub is : (d : Tree) → slice_index_or ls index d ≡ step number true

-- the answer to a text that ends at the place e: accepted where no fault is and a step is initial; refused with the first
-- fault; or where there is none, with 11 for want of an initial step
abbrev pub First : List Tree → ℕ → Result (Unit {0}) ChartFault → Type 0
First ls e (Ok _) = Faultless ls × InitialStep ls
First ls e (Err f) =
    (FaultOf ls f × ((g : ChartFault) → FaultOf ls g → NoLater f g)) ⊎
    (Faultless ls × (InitialStep ls → ⊥) × (f ≡ NoInitialStep e))

-- where the text is read, the answer obeys the law; a fault of the text goes up as it is
abbrev pub FirstFault : Result (List Tree) TextFault → ℕ → Result (Unit {0}) ChartFault → Type 0
FirstFault (Ok ls) e r = First ls e r
FirstFault (Err f) e r = r ≡ Err (Text f)
