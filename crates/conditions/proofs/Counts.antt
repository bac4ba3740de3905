-- The brackets of a condition are in balance. Assumes nothing.
use Rattle.std.proofs.Common.{◌≡◌, ℕ, ◌+◌, List, [], ◌∷◌, ◌++◌, refl, arith}
use Rattle.text.specs.declared.token.TokenKind.{TokenKind}
use Rattle.text.specs.declared.token.TokenKind.TheVariants.{Dot, Plus, Close}
use Rattle.conditions.specs.declared.tree.Atom.{Atom}
use Rattle.conditions.specs.declared.tree.Atom.TheVariants.{Plain, Rise, Fall, Always}
use Rattle.conditions.specs.Tree as tree
use Rattle.conditions.specs.Tree.{Cond, Term, Factor, Primary, spell, spell_atom, spell_term, spell_factor, spell_primary}
use Rattle.conditions.specs.Laws.{tally, opened, closed}

pub tally_append : (o c : ℕ) (ks ls : List TokenKind) → tally o c (ks ++ ls) ≡ tally o c ks + tally o c ls
tally_append o c [] ls = omega arith
tally_append o c (k ∷ ks) ls = omega (arith, tally_append o c ks ls)

-- two parts with so many more opening than closing brackets
pub excess : (d e : ℕ) (ks ls : List TokenKind) → opened ks ≡ closed ks + d → opened ls ≡ closed ls + e → opened (ks ++ ls) ≡ closed (ks ++ ls) + (d + e)
excess d e ks ls a b = omega (arith, tally_append 1 0 ks ls, tally_append 0 1 ks ls, a, b)

atom_even : (a : Atom) → opened (spell_atom a) ≡ closed (spell_atom a) + 0
atom_even (Plain l n) = refl
atom_even (Rise n) = refl
atom_even (Fall n) = refl
atom_even Always = refl

mutual
  pub even : (c : Cond) → opened (spell c) ≡ closed (spell c) + 0
  even (tree.term t) = even_term t
  even (tree.or c t) = excess 0 0 (spell c) (Plus ∷ spell_term t) (even c) (omega (arith, even_term t))

  pub even_term : (t : Term) → opened (spell_term t) ≡ closed (spell_term t) + 0
  even_term (tree.factor x) = even_factor x
  even_term (tree.and t x) = excess 0 0 (spell_term t) (Dot ∷ spell_factor x) (even_term t) (omega (arith, even_factor x))

  even_factor : (x : Factor) → opened (spell_factor x) ≡ closed (spell_factor x) + 0
  even_factor (tree.is q) = even_primary q
  even_factor (tree.not q) = omega (arith, even_primary q)

  even_primary : (q : Primary) → opened (spell_primary q) ≡ closed (spell_primary q) + 0
  even_primary (tree.atom a) = atom_even a
  even_primary (tree.bracket c) = omega (arith, even c, tally_append 1 0 (spell c) (Close ∷ []), tally_append 0 1 (spell c) (Close ∷ []))
