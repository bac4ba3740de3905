-- The code file of a program, byte by byte, and what writing it leaves. Assumes nothing.
use Rattle.std.specs.Prelude.{◌≡◌, ℕ, ◌+◌, ◌*◌, ◌/◌, ◌%◌, true, cond, List, [], ◌∷◌, ◌++◌, length, take, drop, Ok}
use Rattle.std.specs.Prelude.{Err, Result, nat_lt}
use Rattle.words.specs.declared.instruction.Part.TheVariants.{Clear, Enter, Hold}
use Rattle.words.specs.Brackets.{sound}
use Rattle.codefile.specs.declared.directory.Pair.{Pair}
use Rattle.codefile.specs.declared.directory.Directory.{Directory}
use Rattle.codefile.specs.declared.write.Contents.{Contents}
use Rattle.codefile.specs.declared.write.WriteFault.{WriteFault}
use Rattle.codefile.specs.declared.write.WriteFault.TheVariants.{TooManyWords, BufferTooShort}
use Rattle.codefile.specs.Format.{mark}
use Rattle.codefile.specs.File.{Code, code_of}

-- ---- numbers as bytes, the least significant first
abbrev pub bytes32 : ℕ → List ℕ
bytes32 n = n % 256 ∷ (n / 256 % 256 ∷ (n / 65536 % 256 ∷ (n / 16777216 % 256 ∷ [])))

abbrev pub bytes64 : ℕ → List ℕ
bytes64 n = bytes32 (n % 4294967296) ++ bytes32 (n / 4294967296)

abbrev pub word_bytes : List ℕ → List ℕ
word_bytes [] = []
word_bytes (w ∷ ws) = bytes32 w ++ word_bytes ws

-- ---- the head: the mark, and the directory of four pairs
abbrev pub pair_bytes : Pair → List ℕ
pair_bytes p = bytes32 p.offset ++ bytes32 p.length

abbrev pub directory_bytes : Directory → List ℕ
directory_bytes d = pair_bytes d.initial ++ (pair_bytes d.clear ++ (pair_bytes d.enter ++ pair_bytes d.hold))

-- the section of so many bytes from a place on
abbrev pub section_at : ℕ → ℕ → Pair
section_at place size = record { offset = place; length = size }

-- the sections, close together
abbrev pub directory_for : Code → Directory
directory_for c = record {
  initial = section_at 36 8;
  clear = section_at 44 (4 * length c.clear);
  enter = section_at (44 + 4 * length c.clear) (4 * length c.enter);
  hold = section_at (44 + 4 * length c.clear + 4 * length c.enter) (4 * length c.hold);
}

-- what stands before the words
abbrev pub head_bytes : Directory → ℕ → List ℕ
head_bytes d initial = mark ++ (directory_bytes d ++ bytes64 initial)

-- ---- the file
unfoldable pub file_of : Code → List ℕ
file_of c = head_bytes (directory_for c) c.initial ++ (word_bytes c.clear ++ (word_bytes c.enter ++ word_bytes c.hold))

abbrev pub word_count : Code → ℕ
word_count c = length c.clear + length c.enter + length c.hold

-- the file that a buffer of this size takes, or why it takes none
abbrev pub written : Code → ℕ → Result (List ℕ) WriteFault
written c room =
    cond (nat_lt 4096 (word_count c)) (Err TooManyWords)
    (cond (nat_lt room (length (file_of c))) (Err (BufferTooShort (length (file_of c)))) (Ok (file_of c)))

-- the answer: how long the file is
abbrev pub answered : Result (List ℕ) WriteFault → Result ℕ WriteFault
answered (Ok file) = Ok (length file)
answered (Err e) = Err e

-- ---- the buffer: the file in front, and the rest as it was
abbrev pub buffer_after : Result (List ℕ) WriteFault → List ℕ → List ℕ
buffer_after (Ok file) old = file ++ drop (length file) old
buffer_after (Err e) old = old

-- bytes put at a place, all else as it was
abbrev pub over : ℕ → List ℕ → List ℕ → List ℕ
over place bytes old = take place old ++ (bytes ++ drop (length bytes) (drop place old))

-- the program that is to be written
abbrev pub code_for : Contents → Code
code_for c = record { initial = c.initial; clear = c.clear.now; enter = c.enter.now; hold = c.hold.now }

-- each part's words are lawful in it, and its brackets in balance
pub record SoundCode (c : Code) : Type 0 where
  pub clears : sound Clear 0 c.clear ≡ true
  pub enters : sound Enter 0 c.enter ≡ true
  pub holds : sound Hold 0 c.hold ≡ true

-- where the parts are sound, the file is accepted and says this program
abbrev pub LoadsBack : Code → List ℕ → Type 0
LoadsBack c file = SoundCode c → code_of file ≡ Ok c
