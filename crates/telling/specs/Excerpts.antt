-- What is shown of a text where it is at fault. Assumes nothing.
use Rattle.std.specs.Prelude.{ℕ, ◌-◌, ◌&&◌, if◌then◌else◌, nat_le, nat_lt, codes}
use Rattle.std.specs.Prelude.{List, ◌++◌, length, map, take, drop, replicate}
use Rattle.std.specs.List.{before_first, after_last}
use Rattle.telling.specs.Positions.{is_line_end}

-- a byte as one column of a screen: itself if it is printable ASCII (32 to 126), else a question mark (63)
abbrev pub column_of : ℕ → ℕ
column_of byte = if nat_le 32 byte && nat_lt byte 127 then byte else 63

-- of the bytes of its line that stand before a place, the last hundred
abbrev pub shown_before : List ℕ → ℕ → List ℕ
shown_before text place = let bytes = after_last is_line_end (take place text) in drop (length bytes - 100) bytes

-- of the bytes of its line from a place on, the first hundred
abbrev pub shown_from : List ℕ → ℕ → List ℕ
shown_from text place = take 100 (before_first is_line_end (drop place text))

-- these bytes, and on a line below them as many blanks (32) as bytes stand before the place, and a caret
abbrev pub excerpt : List ℕ → ℕ → List ℕ
excerpt text place =
    let before = shown_before text place in
    map column_of (before ++ shown_from text place) ++ codes "\n" ++ replicate (length before) 32 ++ codes "^"
