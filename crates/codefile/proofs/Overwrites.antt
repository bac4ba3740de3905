-- Bytes that are put one after another at their places. Assumes nothing.
use Rattle.std.proofs.Common.{◌≡◌, ℕ, ◌+◌, ◌*◌, ◌/◌, ◌%◌, ◌<◌, ◌≤◌, List, ◌++◌, length, get_or, take, drop, sym, ap, ◌∙◌, w64, arith}
use Rattle.std.specs.Int.{to_le_bytes}
use Rattle.std.proofs.lemmas.List.{append_assoc, length-append, length-take-le, take_at, drop_at, drop-drop, drop_more}
use Rattle.codefile.specs.Written.{bytes32, bytes64, word_bytes, over}

-- bytes put behind others
pub over_over : (at : ℕ) (a b old : List ℕ) → at + length a ≤ length old → over (at + length a) b (over at a old) ≡ over at (a ++ b) old
over_over at a b old fits =
    let n = at + length a in
    let front = take at old ++ a in
    let back = drop (length a) (drop at old) in
    let long : length front ≡ n = length-append (take at old) a ∙ ap (λ k. k + length a) (length-take-le at old (omega arith)) in
    let whole : over at a old ≡ front ++ back = sym (append_assoc (take at old) a back) in
    let before : take n (over at a old) ≡ front = ap (take n) whole ∙ take_at front back n long in
    let behind : drop n (over at a old) ≡ back = ap (drop n) whole ∙ drop_at front back n long in
    let rest : drop (length b) back ≡ drop (length (a ++ b)) (drop at old) =
    drop-drop (length b) (length a) (drop at old) ∙ ap (λ k. drop k (drop at old)) (sym (length-append a b)) in
    ap (λ f. f ++ (b ++ drop (length b) (drop n (over at a old)))) before
    ∙ ap (λ t. front ++ (b ++ drop (length b) t)) behind
    ∙ ap (λ t. front ++ (b ++ t)) rest
    ∙ append_assoc (take at old) a (b ++ drop (length (a ++ b)) (drop at old))
    ∙ ap (λ t. take at old ++ t) (sym (append_assoc a b (drop (length (a ++ b)) (drop at old))))

pub puts_more : (at place : ℕ) (a b old mid new : List ℕ) → place ≡ at + length a → place ≤ length old → mid ≡ over at a old → new ≡ over place b mid → new ≡ over at (a ++ b) old
puts_more at place a b old mid new p fits e f =
    f ∙ ap (λ m. over place b m) e ∙ ap (λ k. over k b (over at a old)) p ∙ over_over at a b old (omega arith)

-- one word more, and no word left
pub words_more : (at i : ℕ) (ws buffer new : List ℕ) → i < length ws → at + 4 * i + 4 ≤ length buffer → new ≡ over (at + 4 * i) (bytes32 (get_or ws i 0)) buffer → over (at + 4 * (i + 1)) (word_bytes (drop (i + 1) ws)) new ≡ over (at + 4 * i) (word_bytes (drop i ws)) buffer
words_more at i ws buffer new inside fits e =
    let place = at + 4 * i in
    let next : at + 4 * (i + 1) ≡ at + 4 * i + 4 = omega arith in
    ap (λ k. over k (word_bytes (drop (i + 1) ws)) new) next
    ∙ ap (λ b. over (place + 4) (word_bytes (drop (i + 1) ws)) b) e
    ∙ over_over place (bytes32 (get_or ws i 0)) (word_bytes (drop (i + 1) ws)) buffer fits
    ∙ ap (λ l. over place (word_bytes l) buffer) (sym (drop_more ws i 0 inside))

-- a number's eight bytes are those of its two halves
pub eight_bytes : (n : ℕ) → to_le_bytes w64 n ≡ bytes64 n
eight_bytes n =
    let a : n % 256 ≡ n % 4294967296 % 256 = omega arith in
    let b : n / 256 % 256 ≡ n % 4294967296 / 256 % 256 = omega arith in
    let c : n / 65536 % 256 ≡ n % 4294967296 / 65536 % 256 = omega arith in
    let d : n / 16777216 % 256 ≡ n % 4294967296 / 16777216 % 256 = omega arith in
    let e : n / 1099511627776 % 256 ≡ n / 4294967296 / 256 % 256 = omega arith in
    let f : n / 281474976710656 % 256 ≡ n / 4294967296 / 65536 % 256 = omega arith in
    let g : n / 72057594037927936 % 256 ≡ n / 4294967296 / 16777216 % 256 = omega arith in
    cc
