-- The numbers that tokens give are at most 63. Assumes nothing.
use Rattle.std.proofs.Common.{◌≡◌, ℕ, ◌≤◌, Bool, true, false, cond, leb, [], ◌∷◌, refl, subst, arith}
use Rattle.std.proofs.lemmas.Bool.Decides.{nat_tests}
use Rattle.text.specs.declared.token.Letter.{Letter}
use Rattle.text.specs.declared.token.Letter.TheVariants.{I, Q, X}
use Rattle.text.specs.declared.token.TokenKind.{TokenKind}
use Rattle.text.specs.declared.token.TokenKind.TheVariants.{Keyword, Digits, Operand, Comma, Dot, Plus, Bang, Open, Close, Slash, Backslash, LineEnd}
use Rattle.lines.specs.declared.shape.Number.{Number}
use Rattle.lines.specs.Grammar.{Small}
use Rattle.lines.specs.Scan.{up_to63, noted, step_named}
use Rattle.lines.specs.Parts.{counted}

none_is_one : {A : Type 0} {n : Number} → [] ≡ n ∷ [] → A
none_is_one h = let z : ◌≡◌ {A = ℕ} 0 1 = cc in absurd (omega arith)

small_if : (at v : ℕ) (n : Number) (q : Bool) → leb v 63 ≡ q → cond q (record { value = v; place = at } ∷ []) [] ≡ n ∷ [] → Small n
small_if at v n true t h =
    let le : v ≤ 63 = grind (arith, nat_tests) in
    let e : record { value = v; place = at } ≡ n = cc in
    subst (λ n. Small n) e le
small_if at v n false t h = none_is_one h

small_up_to : (at v : ℕ) (n : Number) → up_to63 at v ≡ n ∷ [] → Small n
small_up_to at v n h = small_if at v n (leb v 63) refl h

small_step : (at : ℕ) (l : Letter) (v : ℕ) (n : Number) → step_named at l v ≡ n ∷ [] → Small n
small_step at I v n h = none_is_one h
small_step at Q v n h = none_is_one h
small_step at X v n h = small_up_to at v n h

-- the number of a list's token
pub counted_small : (at : ℕ) (k : TokenKind) (n : Number) → counted at k ≡ n ∷ [] → Small n
counted_small at (Keyword w) n h = none_is_one h
counted_small at (Digits v) n h = small_up_to at v n h
counted_small at (Operand l v) n h = none_is_one h
counted_small at Comma n h = none_is_one h
counted_small at Dot n h = none_is_one h
counted_small at Plus n h = none_is_one h
counted_small at Bang n h = none_is_one h
counted_small at Open n h = none_is_one h
counted_small at Close n h = none_is_one h
counted_small at Slash n h = none_is_one h
counted_small at Backslash n h = none_is_one h
counted_small at LineEnd n h = none_is_one h

-- the step that a condition's token names
pub noted_small : (at : ℕ) (k : TokenKind) (n : Number) → noted at k ≡ n ∷ [] → Small n
noted_small at (Keyword w) n h = none_is_one h
noted_small at (Digits v) n h = none_is_one h
noted_small at (Operand l v) n h = small_step at l v n h
noted_small at Comma n h = none_is_one h
noted_small at Dot n h = none_is_one h
noted_small at Plus n h = none_is_one h
noted_small at Bang n h = none_is_one h
noted_small at Open n h = none_is_one h
noted_small at Close n h = none_is_one h
noted_small at Slash n h = none_is_one h
noted_small at Backslash n h = none_is_one h
noted_small at LineEnd n h = none_is_one h
