-- The code file, from its bytes alone. Assumes nothing.
use Rattle.std.specs.Prelude.{◌≡◌, ℕ, ◌+◌, ◌*◌, ◌/◌, ◌%◌, ◌≤◌, Bool, false, if◌then◌else◌, not, ◌&&◌, List, [], ◌∷◌}
use Rattle.std.specs.Prelude.{length, take, drop, Some, None, Ok, Err, Option, Result, ◌==◌, nat_eq, nat_lt, slice_index}
use Rattle.std.specs.List.{starts_with}
use Rattle.faults.specs.declared.Section.{Section}
use Rattle.faults.specs.declared.Section.TheVariants.{Initial, Clear, Enter, Hold}
use Rattle.faults.specs.declared.FileFault.{FileFault}
use Rattle.faults.specs.declared.FileFault.TheVariants.{TooShort, NoMark, BadPair, TooManyWords}
use Rattle.words.specs.declared.instruction.Part.TheVariants as part
use Rattle.codefile.specs.declared.directory.Pair.{Pair}
use Rattle.codefile.specs.declared.directory.Directory.{Directory}
use Rattle.codefile.specs.declared.parts.Parts.{Parts}
use Rattle.codefile.specs.Format.{mark}
use Rattle.codefile.specs.Parts.{Stretch, chain, judged}

-- how many bytes each part has
abbrev pub Layout : Type 0
Layout = Parts ℕ

-- four bytes as a number, the least significant first
abbrev pub le32 : ℕ → ℕ → ℕ → ℕ → ℕ
le32 a b c d = a + b * 256 + c * 65536 + d * 16777216

abbrev pub words_of : List ℕ → List ℕ
words_of [] = []
words_of (a ∷ []) = []
words_of (a ∷ (b ∷ [])) = []
words_of (a ∷ (b ∷ (c ∷ []))) = []
words_of (a ∷ (b ∷ (c ∷ (d ∷ rest)))) = le32 a b c d ∷ words_of rest

-- the number that stands at a byte offset
abbrev pub le_at : List ℕ → ℕ → ℕ
le_at bs i = le32 (slice_index bs i) (slice_index bs (i + 1)) (slice_index bs (i + 2)) (slice_index bs (i + 3))

-- ---- the head: the mark, and the directory of four pairs
abbrev pub marked : List ℕ → Bool
marked bs = starts_with nat_eq bs mark

abbrev pub pair_at : List ℕ → ℕ → Pair
pair_at bs i = record { offset = le_at bs i; length = le_at bs (i + 4) }

abbrev pub directory_of : List ℕ → Directory
directory_of bs = record { initial = pair_at bs 4; clear = pair_at bs 12; enter = pair_at bs 20; hold = pair_at bs 28 }

abbrev pub end : Pair → ℕ
end p = p.offset + p.length

-- a part's pair: it begins where the section before ends, and has whole words
abbrev pub follows : Pair → Pair → Bool
follows before p = p.offset == end before && p.length % 4 == 0

-- the first section with a wrong entry in the directory of a file of this size
abbrev pub broken_pair : Directory → ℕ → Option Section
broken_pair d size =
    if not (d.initial.offset == 36 && d.initial.length == 8) then Some Initial
    else (if not (follows d.initial d.clear) then Some Clear
    else (if not (follows d.clear d.enter) then Some Enter
    else (if not (follows d.enter d.hold && end d.hold == size) then Some Hold
    else None)))

abbrev pub too_many : Directory → Bool
too_many d = nat_lt 4096 ((d.clear.length + d.enter.length + d.hold.length) / 4)

abbrev pub layout_in : Directory → Option Section → Result Layout FileFault
layout_in d (Some section) = Err (BadPair section)
layout_in d None =
    if too_many d
    then Err TooManyWords
    else Ok (record { clear = d.clear.length; enter = d.enter.length; hold = d.hold.length })

-- the parts' lengths, or the fault of the head
abbrev pub layout_of : List ℕ → Result Layout FileFault
layout_of bs =
    if nat_lt (length bs) 36
    then Err TooShort
    else (if marked bs then layout_in (directory_of bs) (broken_pair (directory_of bs) (length bs)) else Err NoMark)

-- the parts are whole words, fill the file behind the initial steps, and are at most 4,096 words
pub record Regular (size : ℕ) (l : Layout) : Type 0 where
  pub whole : 44 + l.clear + l.enter + l.hold ≡ size
  pub clears : l.clear % 4 ≡ 0
  pub enters : l.enter % 4 ≡ 0
  pub holds : l.hold % 4 ≡ 0
  pub few : (l.clear + l.enter + l.hold) / 4 ≤ 4096

-- ---- the parts: each begins where the section before ends, and the last ends the file
abbrev pub clear_bytes : List ℕ → Layout → List ℕ
clear_bytes bs l = take l.clear (drop 44 bs)

abbrev pub enter_bytes : List ℕ → Layout → List ℕ
enter_bytes bs l = take l.enter (drop l.clear (drop 44 bs))

abbrev pub hold_bytes : List ℕ → Layout → List ℕ
hold_bytes bs l = drop l.enter (drop l.clear (drop 44 bs))

abbrev pub clear_stretch : List ℕ → Layout → Stretch
clear_stretch bs l = record { part = part.Clear; start = 44; words = words_of (clear_bytes bs l) }

abbrev pub enter_stretch : List ℕ → Layout → Stretch
enter_stretch bs l = record { part = part.Enter; start = 44 + l.clear; words = words_of (enter_bytes bs l) }

abbrev pub hold_stretch : List ℕ → Layout → Stretch
hold_stretch bs l = record { part = part.Hold; start = 44 + l.clear + l.enter; words = words_of (hold_bytes bs l) }

abbrev pub stretches : List ℕ → Layout → List Stretch
stretches bs l = clear_stretch bs l ∷ (enter_stretch bs l ∷ (hold_stretch bs l ∷ []))

-- the first fault of the words, if any
abbrev pub checked : List ℕ → Layout → Result (Unit {0}) FileFault
checked bs l = judged false (length bs) (stretches bs l)

-- the parts' lengths of a file that is accepted, or its first fault
abbrev pub accepted_layout : List ℕ → Result Layout FileFault
accepted_layout bs = chain (layout_of bs) (λ l. chain (checked bs l) (λ _. Ok l))

-- ---- what a code file holds
pub record Code : Type 0 where
  pub initial : ℕ
  pub clear : List ℕ
  pub enter : List ℕ
  pub hold : List ℕ

abbrev pub contents : List ℕ → Layout → Code
contents bs l = record {
  initial = le_at bs 36 + le_at bs 40 * 4294967296;
  clear = words_of (clear_bytes bs l);
  enter = words_of (enter_bytes bs l);
  hold = words_of (hold_bytes bs l);
}

-- what a code file says: its contents, or its first fault
abbrev pub code_of : List ℕ → Result Code FileFault
code_of bs = chain (accepted_layout bs) (λ l. Ok (contents bs l))
