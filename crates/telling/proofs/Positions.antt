-- Lines and columns, byte by byte. Assumes nothing.
use Rattle.std.proofs.Common.{◌≡◌, ℕ, ◌+◌, ◌-◌, Bool, true, false, cond, not, refl, sym, ap, ◌∙◌, arith}
use Rattle.std.proofs.Common.{List, [], ◌∷◌, ◌++◌, length, fold, append_assoc}
use Rattle.std.specs.List.{prefix_len, suffix_len, after_last}
use Rattle.std.proofs.lemmas.List.{append-nil, reverse-append, length-drop}
use Rattle.std.proofs.lemmas.List.Sums.{sum_by_push, suffix_len-le-length}
use Rattle.telling.specs.declared.position.Position.{Position}
use Rattle.telling.specs.Positions.{is_line_end, position_behind}

-- the position behind one byte more
abbrev pub behind : Position → ℕ → Position
behind p b =
    cond (is_line_end b) (record { line = p.line + 1; column = 1 }) (record { line = p.line; column = p.column + 1 })

-- the bytes of the last line, counted from the end of the text
pub length-after_last : {X : Type 0} (p : X → Bool) (xs : List X)
    → length (after_last p xs) ≡ suffix_len (λ x. not (p x)) xs
length-after_last p xs =
    let n = suffix_len (λ x. not (p x)) xs in
    omega (arith, length-drop (length xs - n) xs, suffix_len-le-length (λ x. not (p x)) xs)

chosen : (t : Bool) (n : ℕ) → cond (not t) (1 + n) 0 ≡ cond t 0 (1 + n)
chosen true n = refl
chosen false n = refl

last_line_push : (bs : List ℕ) (b : ℕ)
    → length (after_last is_line_end (bs ++ b ∷ [])) ≡ cond (is_line_end b) 0 (1 + length (after_last is_line_end bs))
last_line_push bs b =
    length-after_last is_line_end (bs ++ b ∷ [])
    ∙ ap (prefix_len (λ (x : ℕ). not (is_line_end x))) (reverse-append bs (b ∷ []))
    ∙ chosen (is_line_end b) _
    ∙ ap (λ n. cond (is_line_end b) 0 (1 + n)) (sym (length-after_last is_line_end bs))

joined : (t : Bool) (line column l c : ℕ) → l ≡ line + cond t 1 0 → c ≡ cond t 0 (1 + column)
    → (let p : Position = record { line = 1 + l; column = 1 + c } in p)
    ≡ cond t (record { line = 1 + line + 1; column = 1 }) (record { line = 1 + line; column = 1 + column + 1 })
joined true line column l c e f =
    let g : 1 + l ≡ 1 + line + 1 = omega arith in
    let h : 1 + c ≡ 1 = omega arith in
    cc
joined false line column l c e f =
    let g : 1 + l ≡ 1 + line = omega arith in
    let h : 1 + c ≡ 1 + column + 1 = omega arith in
    cc

position_behind_push : (bs : List ℕ) (b : ℕ) → position_behind (bs ++ b ∷ []) ≡ behind (position_behind bs) b
position_behind_push bs b =
    joined (is_line_end b) _ _ _ _ (sum_by_push (λ (x : ℕ). cond (is_line_end x) 1 0) bs b) (last_line_push bs b)

fold_from : (xs ys : List ℕ) → fold behind (position_behind xs) ys ≡ position_behind (xs ++ ys)
fold_from xs [] = ap position_behind (sym (append-nil xs))
fold_from xs (y ∷ ys) =
    ap (λ p. fold behind p ys) (sym (position_behind_push xs y))
    ∙ fold_from (xs ++ y ∷ []) ys
    ∙ ap position_behind (append_assoc xs (y ∷ []) ys)

pub fold-behind : (bs : List ℕ) → fold behind (record { line = 1; column = 1 }) bs ≡ position_behind bs
fold-behind bs = fold_from [] bs
