-- The open brackets in an array. Assumes nothing.
use Rattle.std.proofs.Common.{◌≡◌, ◌≢◌, ℕ, zero, suc, ◌+◌, ◌<◌, ◌≤◌, List, ◌∷◌, length, refl, ap, ◌∙◌, ap₂, add-one, arith, get_or-set_other, get_or-set_same}
use Rattle.std.proofs.Math.ListN.{set}
use Rattle.machine.specs.declared.machine.Bracket.{Bracket}
use Rattle.machine.specs.View.{stacked}

-- what stands above the open brackets does not count
stacked-set : (d k : ℕ) (v : Bracket) (bs : List Bracket) → d ≤ k → stacked d (set bs k v) ≡ stacked d bs
stacked-set zero k v bs h = refl
stacked-set (suc d) k v bs h =
    let ne : d ≢ k = omega arith in
    ap₂ (λ x xs. x ∷ xs) (rw get_or-set_other) (stacked-set d k v bs (omega arith))

pub stacked_more : (d : ℕ) (v : Bracket) (bs : List Bracket) → d < length bs → stacked (d + 1) (set bs d v) ≡ v ∷ stacked d bs
stacked_more d v bs h =
    ap (λ k. stacked k (set bs d v)) (add-one d)
    ∙ ap₂ (λ x xs. x ∷ xs) (rw get_or-set_same) (stacked-set d d v bs (omega arith))
