-- The transitions of a chart have numbers of their own, each below 64. Assumes nothing.
use Rattle.std.proofs.Common.{◌≡◌, Bool, true, not, ◌&&◌, List, [], ◌∷◌, eqb, ltb}
use Rattle.std.specs.List.{list_any, list_all}
use Rattle.evolution.specs.Chart.{Transition}

-- no two have the same number
abbrev pub apart : List Transition → Bool
apart [] = true
apart (t ∷ ts) = not (list_any (λ u. eqb t.number u.number) ts) && apart ts

pub record Numbered (ts : List Transition) : Type 0 where
  pub small : list_all (λ t. ltb t.number 64) ts ≡ true
  pub apart : apart ts ≡ true
