-- Tables that have no mark. Assumes nothing.
use Rattle.std.proofs.Common.{◌≡◌, ℕ, false, List, get_or, [], replicate, sym, refl, ap, ◌∙◌, subst, ⊎_elim, arith}
use Rattle.std.proofs.lemmas.Bool.{cases_lt}
use Rattle.std.proofs.lemmas.List.{get_or-replicate, get_or_past, length-replicate}
use Rattle.chart.specs.declared.table.Row.{Row}
use Rattle.chart.specs.Sets.{is_marked, no_row, marked}

-- an entry of equal ones, or the default
like_default : {A : Type 0} (P : A → Type 0) (n k : ℕ) (x d : A) → P x → P d → P (get_or (replicate n x) k d)
like_default P n k x d p q =
    ⊎_elim
    (λ lt. subst P (sym (get_or-replicate n k x d lt)) p)
    (λ le. subst P (sym (get_or_past (replicate n x) k d (rw length-replicate le))) q)
    (cases_lt k n)

pub no_mark : (n k : ℕ) → get_or (replicate n false) k false ≡ false
no_mark n k = like_default (λ b. b ≡ false) n k false false refl refl

pub none_held : (n : ℕ) (row : Row) → ((m : ℕ) → is_marked row m ≡ false) → (s q : ℕ) → marked (replicate n row) s q ≡ false
none_held n row none s q = like_default (λ t. is_marked t q ≡ false) n s row no_row (none q) (get_or_past [] q false (omega arith))

-- a table that is made of rows with no mark
pub made_empty : (n : ℕ) (row : Row) (rows : List Row) → rows ≡ replicate n row → ((m : ℕ) → is_marked row m ≡ false) → (s q : ℕ) → marked rows s q ≡ false
made_empty n row rows e none s q = ap (λ t. marked t s q) e ∙ none_held n row none s q
