-- The bytes of a line on both sides of a place. Assumes nothing.
use Rattle.std.proofs.Common.{◌≡◌, ℕ, zero, suc, ◌+◌, ◌-◌, ◌≤◌, min, Bool, true, false, cond, not, sym, ap, ◌∙◌, arith}
use Rattle.std.proofs.Common.{List, [], ◌∷◌, ◌++◌, length, take, drop, reverse, take_while}
use Rattle.std.specs.List.{prefix_len, suffix_len, before_first, after_last, slice_range}
use Rattle.std.proofs.Math.Seq.{take-add}
use Rattle.std.proofs.lemmas.List.{length-take, length-take-le, length-drop, take_all, take_min}
use Rattle.std.proofs.lemmas.List.{take-take, drop-take, drop-drop}
use Rattle.std.proofs.lemmas.List.Sums.{prefix_len-le-length, suffix_len-le-length}
use Rattle.std.proofs.lemmas.List.Folds.{length-prefix_len}
use Rattle.telling.specs.Positions.{is_line_end}
use Rattle.telling.specs.Excerpts.{shown_before, shown_from}
use Rattle.telling.proofs.Positions.{length-after_last}

-- no line end
abbrev pub goes_on : ℕ → Bool
goes_on b = not (is_line_end b)

at_most : (b : Bool) (m k n : ℕ) → k ≡ min m n → cond b (1 + k) 0 ≡ min (suc m) (cond b (1 + n) 0)
at_most true m k n e = omega arith
at_most false m k n e = omega arith

prefix_len-take : {X : Type 0} (p : X → Bool) (m : ℕ) (xs : List X) → prefix_len p (take m xs) ≡ min m (prefix_len p xs)
prefix_len-take p zero xs = omega arith
prefix_len-take p (suc m) [] = omega arith
prefix_len-take p (suc m) (x ∷ xs) = at_most (p x) m _ _ (prefix_len-take p m xs)

-- how many bytes of the first m go on
counted : (m : ℕ) (bs : List ℕ) → length (take_while goes_on (take m bs)) ≡ min m (prefix_len goes_on bs)
counted m bs = length-prefix_len goes_on (take m bs) ∙ prefix_len-take goes_on m bs

length-shown_from : (text : List ℕ) (place : ℕ)
    → length (shown_from text place) ≡ min 100 (prefix_len goes_on (drop place text))
length-shown_from text place =
    let rest = drop place text in
    length-take 100 (before_first is_line_end rest) ∙ ap (min 100) (length-prefix_len goes_on rest)

length-shown_before : (text : List ℕ) (place : ℕ)
    → length (shown_before text place) ≡ min 100 (suffix_len goes_on (take place text))
length-shown_before text place =
    let bytes = after_last is_line_end (take place text) in
    omega (arith, length-after_last is_line_end (take place text), length-drop (length bytes - 100) bytes)

pub from_count : (text : List ℕ) (place n : ℕ)
    → n ≡ length (take_while goes_on (take 100 (take (length text - place) (drop place text))))
    → n ≡ length (shown_from text place)
from_count text place n e =
    let rest = drop place text in
    let all : take (length text - place) rest ≡ rest = take_all _ _ (omega (arith, length-drop place text)) in
    e
    ∙ ap (λ bs. length (take_while goes_on (take 100 bs))) all
    ∙ counted 100 rest
    ∙ sym (length-shown_from text place)

pub before_count : (text : List ℕ) (place n : ℕ) → place ≤ length text
    → n ≡ length (take_while goes_on (take 100 (reverse (take place text))))
    → place - n + length (shown_before text place) ≡ place
before_count text place n p e =
    let bs = take place text in
    let long = length-shown_before text place in
    let same : n ≡ length (shown_before text place) = e ∙ counted 100 (reverse bs) ∙ sym long in
    omega (arith, long, suffix_len-le-length goes_on bs, length-take-le place text p)

pub from_within : (text : List ℕ) (place : ℕ) → place ≤ length text
    → place + length (shown_from text place) ≤ length text
from_within text place p =
    let rest = drop place text in
    omega (arith, length-shown_from text place, prefix_len-le-length goes_on rest, length-drop place text)

front : (i k : ℕ) (bs : List ℕ) → take (length (take i (take k bs))) bs ≡ take i (take k bs)
front i k bs =
    let within : min i (length (take k bs)) ≤ k = omega (arith, length-take k bs) in
    ap (λ n. take n bs) (length-take i (take k bs)) ∙ sym (take-take _ k bs within) ∙ take_min i (take k bs)

back : (bs : List ℕ) (m start : ℕ) → start + length (drop m bs) ≡ length bs → m ≤ length bs → drop m bs ≡ drop start bs
back bs m start e h = let same : m ≡ start = omega (arith, length-drop m bs) in ap (λ n. drop n bs) same

shown_before-is : (text : List ℕ) (start place : ℕ) → place ≤ length text
    → start + length (shown_before text place) ≡ place → shown_before text place ≡ drop start (take place text)
shown_before-is text start place p e =
    let bs = take place text in
    let at = length bs - suffix_len goes_on bs in
    let over = length (drop at bs) - 100 in
    let once : drop over (drop at bs) ≡ drop (at + over) bs = drop-drop over at bs in
    let ends : start + length (drop (at + over) bs) ≡ length bs = omega (arith, ap length once, length-take-le place text p) in
    once ∙ back bs (at + over) start ends (omega (arith, length-drop at bs))

-- the bytes between two places that bound what is shown
pub shown-is : (text : List ℕ) (start place end : ℕ) → place ≤ length text
    → start + length (shown_before text place) ≡ place → end ≡ place + length (shown_from text place)
    → slice_range text start end ≡ shown_before text place ++ shown_from text place
shown-is text start place end p e f =
    let b = length (shown_before text place) in
    let n = length (shown_from text place) in
    let long : end - start ≡ b + n = omega arith in
    let front_is : take b (drop start text) ≡ shown_before text place =
    sym (drop-take start b text) ∙ ap (λ k. drop start (take k text)) e ∙ sym (shown_before-is text start place p e) in
    let back_is : drop b (drop start text) ≡ drop place text = drop-drop b start text ∙ ap (λ k. drop k text) e in
    ap (λ k. take k (drop start text)) long
    ∙ take-add b n (drop start text)
    ∙ ap (λ xs. xs ++ take n (drop b (drop start text))) front_is
    ∙ ap (λ xs. shown_before text place ++ take n xs) back_is
    ∙ ap (λ xs. shown_before text place ++ xs) (front 100 _ (drop place text))
