-- What is shown of a text, put together. Assumes nothing.
use Rattle.std.proofs.Common.{◌≡◌, ℕ, ◌+◌, ◌-◌, min, codes, ap, ◌∙◌, arith}
use Rattle.std.proofs.Common.{List, ◌++◌, length, map, take, drop, replicate}
use Rattle.std.specs.List.{slice_range, before_first, after_last}
use Rattle.std.proofs.lemmas.List.{take_min, drop_min}
use Rattle.telling.specs.Positions.{is_line_end}
use Rattle.telling.specs.Excerpts.{column_of, excerpt, shown_before, shown_from}
use Rattle.telling.proofs.Lines.{shown-is}

-- a line, and below it a caret behind so many blanks
abbrev pub marked : List ℕ → ℕ → List ℕ
marked bytes n = map column_of bytes ++ codes "\n" ++ replicate n 32 ++ codes "^"

-- the excerpt of what stands before a place and from it on
abbrev parted : List ℕ → List ℕ → List ℕ
parted before from =
    let line = after_last is_line_end before in
    let shown = drop (length line - 100) line in
    marked (shown ++ take 100 (before_first is_line_end from)) (length shown)

-- a place behind the end of the text is its end
excerpt-min : (text : List ℕ) (place : ℕ) → excerpt text (min place (length text)) ≡ excerpt text place
excerpt-min text place =
    ap (λ xs. parted xs (drop (min place (length text)) text)) (take_min place text)
    ∙ ap (parted (take place text)) (drop_min place text)

pub excerpt-is : (text : List ℕ) (given place start end : ℕ) → place ≡ min given (length text)
    → start + length (shown_before text place) ≡ place → end ≡ place + length (shown_from text place)
    → marked (slice_range text start end) (place - start) ≡ excerpt text given
excerpt-is text given place start end p e f =
    let blanks : place - start ≡ length (shown_before text place) = omega arith in
    ap (λ xs. marked xs (place - start)) (shown-is text start place end (omega arith) e f)
    ∙ ap (marked (shown_before text place ++ shown_from text place)) blanks
    ∙ ap (excerpt text) p
    ∙ excerpt-min text given
