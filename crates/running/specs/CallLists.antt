-- Texts with a call on each line. Assumes nothing.
use Rattle.std.specs.Prelude.{◌≡◌, ℕ, ◌+◌, ◌==◌, Bool, if◌then◌else◌, List, [], ◌∷◌, ◌++◌, map, length, None}
use Rattle.plain.specs.declared.calls.Call.{Call}
use Rattle.plain.specs.Shown.{call_word, call_named}

-- byte 10 ends a line
abbrev pub is_line_end : ℕ → Bool
is_line_end byte = byte == 10

-- the first line goes on with one byte more in front
abbrev pub with_byte : ℕ → List (List ℕ) → List (List ℕ)
with_byte byte [] = (byte ∷ []) ∷ []
with_byte byte (line ∷ lines) = (byte ∷ line) ∷ lines

-- the lines of a text; the last of them may lack its line end
abbrev pub lines_of : List ℕ → List (List ℕ)
lines_of [] = []
lines_of (byte ∷ bytes) = if is_line_end byte then [] ∷ lines_of bytes else with_byte byte (lines_of bytes)

-- line n, counted from 1, is no call's word, and each line before it is one
pub record NoCallAt (n : ℕ) (lines : List (List ℕ)) : Type 0 where
  pub calls : List Call
  pub line : List ℕ
  pub more : List (List ℕ)
  pub stands : lines ≡ map call_word calls ++ line ∷ more
  pub number : n ≡ length calls + 1
  pub no_call : call_named line ≡ None
