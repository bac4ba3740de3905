-- Words as they are emitted, one behind the other: the first 4,096 are kept. Assumes nothing.
use Rattle.std.specs.Prelude.{◌≡◌, ℕ, Bool, true, false, ◌||◌, List, [], ◌∷◌, ◌++◌, length, take, fold, nat_lt}
use Rattle.std.specs.Prelude.{if◌then◌else◌}
use Rattle.words.specs.declared.instruction.Instruction.{Instruction}
use Rattle.words.specs.declared.list.WordList.{WordList}
use Rattle.words.specs.Words.{word_of}

-- the words that are kept, and whether there were more
pub record Kept : Type 0 where
  pub words : List ℕ
  pub more : Bool

abbrev pub nothing : Kept
nothing = record { words = []; more = false }

-- of so many words the first 4,096
abbrev pub first_of : List ℕ → Kept
first_of ws = record { words = take 4096 ws; more = nat_lt 4096 (length ws) }

abbrev pub kept_in : WordList → Kept
kept_in l = record { words = l.words; more = l.more }

-- the list holds the first 4,096 of these words, and says whether there are more
abbrev pub Holds : WordList → List ℕ → Type 0
Holds l ws = kept_in l ≡ first_of ws

-- ---- step by step
abbrev pub push : Kept → ℕ → Kept
push k w =
    if nat_lt (length k.words) 4096 then record { words = k.words ++ w ∷ []; more = k.more }
    else record { words = k.words; more = true }

-- the instructions' words, behind those that were there
unfoldable pub pushed : Kept → List Instruction → Kept
pushed k [] = k
pushed k (i ∷ is) = pushed (push k (word_of i)) is

-- the words, behind those that were there
abbrev pub appended : Kept → List ℕ → Kept
appended k ws = fold push k ws

-- what a second list keeps, behind what the first does
abbrev pub joined : Kept → Kept → Kept
joined k l = record { words = (appended k l.words).words; more = (appended k l.words).more || l.more }
