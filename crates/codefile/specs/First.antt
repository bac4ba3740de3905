-- The law of the first fault: of all faults that the words of a file have, the one at the least place is reported, and on
-- a tie the one with the smaller number. Assumes nothing.
use Rattle.std.specs.Prelude.{◌≡◌, ℕ, ◌+◌, ◌*◌, ◌<◌, ◌≤◌, true, false, if◌then◌else◌, ◌⊎◌, List, [], ◌∷◌, length}
use Rattle.std.specs.Prelude.{take, Ok, Err, Result, slice_index}
use Rattle.faults.specs.Numbers.{file_number, file_place}
use Rattle.faults.specs.declared.FileFault.{FileFault}
use Rattle.faults.specs.declared.FileFault.TheVariants.{TooShort, NoMark, BadPair, TooManyWords, UnlawfulWord}
use Rattle.faults.specs.declared.FileFault.TheVariants.{Unbalanced}
use Rattle.words.specs.Words.{lawful}
use Rattle.words.specs.Brackets.{opens, closes}
use Rattle.codefile.specs.Parts.{Stretch}
use Rattle.codefile.specs.File.{Layout, layout_of, stretches}

-- how many of the words open a bracket, and how many close one
abbrev pub opened : List ℕ → ℕ
opened [] = 0
opened (w ∷ ws) = (if opens w then 1 else 0) + opened ws

abbrev pub closed : List ℕ → ℕ
closed [] = 0
closed (w ∷ ws) = (if closes w then 1 else 0) + closed ws

-- the word at a place, of words from a start on: it and those before it are as P says
pub record WordAt (start : ℕ) (words : List ℕ) (place : ℕ) (P : List ℕ → ℕ → Type 0) : Type 0 where
  pub index : ℕ
  pub inside : index < length words
  pub stands : place ≡ start + 4 * index
  pub is : P (take index words) (slice_index words index)

-- after those before it, the word closes a bracket where none is open, or opens the eighteenth
abbrev pub Misplaced : List ℕ → ℕ → Type 0
Misplaced before w =
    ((closes w ≡ true) × (opened before ≤ closed before)) ⊎
    ((opens w ≡ true) × (closed before + 17 ≤ opened before))

-- the words end at the place, and leave a bracket open
pub record OpenAtEnd (start : ℕ) (words : List ℕ) (place : ℕ) : Type 0 where
  pub ends : place ≡ start + 4 * length words
  pub left : closed words < opened words

-- a fault of words: one of them is unlawful at a place, or their brackets are out of balance at it
abbrev pub WordFault : (ℕ → Type 0) → (ℕ → Type 0) → FileFault → Type 0
WordFault unlawful unbalanced TooShort = ⊥
WordFault unlawful unbalanced NoMark = ⊥
WordFault unlawful unbalanced (BadPair section) = ⊥
WordFault unlawful unbalanced TooManyWords = ⊥
WordFault unlawful unbalanced (UnlawfulWord place) = unlawful place
WordFault unlawful unbalanced (Unbalanced place) = unbalanced place

-- the faults of one part, and of several
abbrev pub FaultIn : Stretch → FileFault → Type 0
FaultIn s =
    WordFault
    (λ place. WordAt s.start s.words place (λ _ w. lawful s.part w ≡ false))
    (λ place. WordAt s.start s.words place Misplaced ⊎ OpenAtEnd s.start s.words place)

abbrev pub FaultOf : List Stretch → FileFault → Type 0
FaultOf [] f = ⊥
FaultOf (s ∷ ss) f = FaultIn s f ⊎ FaultOf ss f

-- f stands before g, or at its place with no larger number
abbrev pub NoLater : FileFault → FileFault → Type 0
NoLater f g = (file_place f < file_place g) ⊎ ((file_place f ≡ file_place g) × (file_number f ≤ file_number g))

-- an answer to such faults: accepted where there is none, else refused with the first
abbrev pub First : (FileFault → Type 0) → Result (Unit {0}) FileFault → Type 0
First Fault (Ok _) = (g : FileFault) → Fault g → ⊥
First Fault (Err f) = Fault f × ((g : FileFault) → Fault g → NoLater f g)

-- whether an answer accepts, and else its fault
abbrev pub verdict : {A : Type 0} → Result A FileFault → Result (Unit {0}) FileFault
verdict (Ok x) = Ok tt
verdict (Err f) = Err f

-- where the head of the file is accepted, the answer is the first fault of its words
abbrev pub FirstFault : {A : Type 0} → List ℕ → Result A FileFault → Type 0
FirstFault bs r = (l : Layout) → layout_of bs ≡ Ok l → First (FaultOf (stretches bs l)) (verdict r)
