-- Where a place stands in a text, by line and column. Assumes nothing.
use Rattle.std.specs.Prelude.{ℕ, ◌+◌, ◌==◌, Bool, List, length, take, count_by}
use Rattle.std.specs.List.{after_last}
use Rattle.telling.specs.declared.position.Position.{Position}

-- byte 10 ends a line
abbrev pub is_line_end : ℕ → Bool
is_line_end byte = byte == 10

-- behind the bytes: line 1 and the number of line ends, column 1 and the number of bytes behind the last of them
abbrev pub position_behind : List ℕ → Position
position_behind bytes = record {
  line = 1 + count_by is_line_end bytes;
  column = 1 + length (after_last is_line_end bytes);
}

-- the position of the byte at a place, or of the text's end
abbrev pub position_at : List ℕ → ℕ → Position
position_at text place = position_behind (take place text)
