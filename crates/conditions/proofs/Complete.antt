-- Along the spelling of any tree the scan reads that tree, or meets a limit. Assumes nothing.
use Rattle.std.proofs.Common.{◌≡◌, ℕ, ◌+◌, ◌≤◌, Bool, true, false, cond, leb, ◌⊎◌, List, [], ◌∷◌, ◌++◌, length, sym, refl, ap, ◌∙◌, inl, inr, ⊎_elim, append_assoc, arith, length-append}
use mathlib.Core.List.{map-append}
use Rattle.std.proofs.lemmas.Bool.Decides.{nat_tests}
use Rattle.faults.specs.declared.TextFault.{TextFault}
use Rattle.faults.specs.declared.TextFault.TheVariants.{EighthBracket, NumberTooLarge}
use Rattle.text.specs.declared.token.Letter.TheVariants.{I}
use Rattle.text.specs.declared.token.Token.{Token}
use Rattle.text.specs.declared.token.TokenKind.{TokenKind}
use Rattle.text.specs.declared.token.TokenKind.TheVariants.{Keyword, Digits, Operand, Comma, Dot, Plus, Bang, Open, Close, Slash, Backslash, LineEnd}
use Rattle.conditions.specs.declared.tree.Atom.{Atom}
use Rattle.conditions.specs.declared.tree.Atom.TheVariants.{Plain, Rise, Fall, Always}
use Rattle.conditions.specs.Scan as automaton
use Rattle.conditions.specs.Scan.{condition_of, scan, State, step, signs, begins, goes, ends, fault, stops, fails, start, wants, primary, edge, sign, Terms, no_terms, terms, Factors, no_factors, factors, join, extend, Brackets, none, inside, deep, read}
use Rattle.conditions.specs.Tree as tree
use Rattle.conditions.specs.Tree.{Cond, Term, Factor, Primary, spell, spell_atom, spell_term, spell_factor, spell_primary, SmallAtom, Fits, FitsTerm, FitsFactor, FitsPrimary}
use Rattle.conditions.specs.Read.{kinds, Heads, Lacks}
use Rattle.conditions.specs.Laws.{Begins, Only, Nowhere}
use Rattle.conditions.proofs.Steps.{on, ahead, no_bang}

ending : (s : Terms) (t : Term) (p : ℕ) (k : TokenKind) → (k ≡ Dot → ⊥) → (k ≡ Plus → ⊥) → signs none s t p k ≡ ends (join s t)
ending s t p (Keyword w) a b = refl
ending s t p (Digits n) a b = refl
ending s t p (Operand l n) a b = refl
ending s t p Comma a b = refl
ending s t p Dot a b = absurd (a refl)
ending s t p Plus a b = absurd (b refl)
ending s t p Bang a b = refl
ending s t p Open a b = refl
ending s t p Close a b = refl
ending s t p Slash a b = refl
ending s t p Backslash a b = refl
ending s t p LineEnd a b = refl

pub stopped : (s : Terms) (t : Term) (e : ℕ) (ts : List Token) → Lacks Dot ts → Lacks Plus ts → scan ts (sign none s t) e ≡ stops (join s t) ts
stopped s t e [] a b = refl
stopped s t e (u ∷ ts) a b = on (sign none s t) e u ts _ (ending s t u.place u.kind a b)

-- the scan goes from ts in the state x to a rest of the kinds k in the state y
pub record Got (x y : State) (e : ℕ) (ts : List Token) (k : List TokenKind) : Type 0 where
  pub used : List Token
  pub rest : List Token
  pub split : ts ≡ used ++ rest
  pub kept : kinds rest ≡ k
  pub passes : scan ts x e ≡ scan rest y e

pub data Limit : TextFault → Type 0 where
  too_deep : (p : ℕ) → Limit (EighthBracket p)
  too_large : (p : ℕ) → Limit (NumberTooLarge p)

-- the scan meets a limit, and what is spelled does not fit
pub record Over (F : Type 0) (x : State) (e : ℕ) (ts : List Token) : Type 0 where
  pub f : TextFault
  pub limit : Limit f
  pub is : scan ts x e ≡ fails f
  pub unfit : F → ⊥

abbrev pub Wide : Type 0 → State → State → ℕ → List Token → List TokenKind → Type 0
Wide F x y e ts k = Got x y e ts k ⊎ Over F x e ts

record First (a : TokenKind) (ts : List Token) (k : List TokenKind) : Type 0 where
  rest : List Token
  heads : Heads a ts rest
  kept : kinds rest ≡ k

first : (a : TokenKind) (ts : List Token) (k : List TokenKind) → kinds ts ≡ a ∷ k → First a ts k
first a [] k s = let z : ◌≡◌ {A = ℕ} 0 1 = cc in absurd (omega arith)
first a (t ∷ ts) k s = let h : t.kind ≡ a = cc in let r : kinds ts ≡ k = cc in record { rest = ts; heads = (t, h, refl); kept = r }

one : (a : TokenKind) (x y : State) (e : ℕ) (ts : List Token) (k : List TokenKind) → kinds ts ≡ a ∷ k → ((at : ℕ) → step x at a ≡ goes y) → Got x y e ts k
one a x y e ts k s st = let u = first a ts k s in record { used = u.heads.0 ∷ []; rest = u.rest; split = u.heads.2; kept = u.kept; passes = ahead a x y e u.heads st }

limited : (F : Type 0) (a : TokenKind) (x : State) (e : ℕ) (ts : List Token) (k : List TokenKind) (f : ℕ → TextFault) → ((at : ℕ) → Limit (f at)) → kinds ts ≡ a ∷ k → ((at : ℕ) → step x at a ≡ fault (f at)) → (F → ⊥) → Over F x e ts
limited F a x e ts k f lim s st never =
    let h = (first a ts k s).heads in
    let p = h.0.place in
    record { f = f p; limit = lim p; is = ap (λ l. scan l x e) h.2 ∙ on x e h.0 _ _ (ap (λ k. step x p k) h.1 ∙ st p); unfit = never }

after_got : (G H : Type 0) (x y z : State) (e : ℕ) (ts : List Token) (k k' : List TokenKind) → (H → G) → Got x y e ts k → ((us : List Token) → kinds us ≡ k → Wide G y z e us k') → Wide H x z e ts k'
after_got G H x y z e ts k k' to_g g next =
    ⊎_elim
    (λ n. inl (record { used = g.used ++ n.used; rest = n.rest; split = g.split ∙ ap (λ l. g.used ++ l) n.split ∙ sym (append_assoc g.used n.used n.rest); kept = n.kept; passes = g.passes ∙ n.passes }))
    (λ o. inr (record { f = o.f; limit = o.limit; is = g.passes ∙ o.is; unfit = λ h. o.unfit (to_g h) }))
    (next g.rest g.kept)

then : (F G H : Type 0) (x y z : State) (e : ℕ) (ts : List Token) (k k' : List TokenKind) → (H → F) → (H → G) → Wide F x y e ts k → ((us : List Token) → kinds us ≡ k → Wide G y z e us k') → Wide H x z e ts k'
then F G H x y z e ts k k' to_f to_g w next = ⊎_elim (λ g. after_got G H x y z e ts k k' to_g g next) (λ o. inr (record { f = o.f; limit = o.limit; is = o.is; unfit = λ h. o.unfit (to_f h) })) w

split : {A : Type 0} (q : Bool) → (q ≡ true → A) → (q ≡ false → A) → A
split true f g = f refl
split false f g = g refl

-- a number up to 63, or a larger one
number : (a : TokenKind) (x y : State) (e n : ℕ) (ts : List Token) (k : List TokenKind) → kinds ts ≡ a ∷ k → ((at : ℕ) → step x at a ≡ automaton.numbered at n y) → Wide (n ≤ 63) x y e ts k
number a x y e n ts k s st =
    split (leb n 63)
    (λ b. inl (one a x y e ts k s (λ at. st at ∙ ap (λ q. cond q (goes y) (fault (NumberTooLarge at))) b)))
    (λ b. inr (limited (n ≤ 63) a x e ts k NumberTooLarge too_large s (λ at. st at ∙ ap (λ q. cond q (goes y) (fault (NumberTooLarge at))) b) (λ h. grind (arith, nat_tests))))

wide_atom : (a : Atom) (h : Brackets) (s : Terms) (p : Factors) (b : Bool) (e : ℕ) (ts : List Token) (k : List TokenKind) → kinds ts ≡ spell_atom a ++ k → Wide (SmallAtom a) (primary h s p b) (read h s p b (tree.atom a)) e ts k
wide_atom (Plain l n) h s p b e ts k z = number (Operand l n) (primary h s p b) (read h s p b (tree.atom (Plain l n))) e n ts k z (λ at. refl)
wide_atom (Rise n) h s p b e ts k z =
    after_got (n ≤ 63) (n ≤ 63) (primary h s p b) (edge h s p b true) (read h s p b (tree.atom (Rise n))) e ts (Operand I n ∷ k) k (λ x. x)
    (one Slash (primary h s p b) (edge h s p b true) e ts (Operand I n ∷ k) z (λ at. refl))
    (λ us v. number (Operand I n) (edge h s p b true) (read h s p b (tree.atom (Rise n))) e n us k v (λ at. refl))
wide_atom (Fall n) h s p b e ts k z =
    after_got (n ≤ 63) (n ≤ 63) (primary h s p b) (edge h s p b false) (read h s p b (tree.atom (Fall n))) e ts (Operand I n ∷ k) k (λ x. x)
    (one Backslash (primary h s p b) (edge h s p b false) e ts (Operand I n ∷ k) z (λ at. refl))
    (λ us v. number (Operand I n) (edge h s p b false) (read h s p b (tree.atom (Fall n))) e n us k v (λ at. refl))
wide_atom Always h s p b e ts k z = inl (one (Digits 1) (primary h s p b) (read h s p b (tree.atom Always)) e ts k z (λ at. refl))

lacks : (a b : TokenKind) (ts : List Token) (k : List TokenKind) → kinds ts ≡ a ∷ k → (a ≡ b → ⊥) → Lacks b ts
lacks a b [] k s n = tt
lacks a b (t ∷ ts) k s n = let h : t.kind ≡ a = cc in λ x. n (sym h ∙ x)

-- no primary begins with `!`
atom_bangless : (a : Atom) (ts : List Token) (k : List TokenKind) → kinds ts ≡ spell_atom a ++ k → Lacks Bang ts
atom_bangless (Plain l n) ts k s = lacks (Operand l n) Bang ts k s (λ x. let z : ◌≡◌ {A = ℕ} 0 1 = cc in omega arith)
atom_bangless (Rise n) ts k s = lacks Slash Bang ts (Operand I n ∷ k) s (λ x. let z : ◌≡◌ {A = ℕ} 0 1 = cc in omega arith)
atom_bangless (Fall n) ts k s = lacks Backslash Bang ts (Operand I n ∷ k) s (λ x. let z : ◌≡◌ {A = ℕ} 0 1 = cc in omega arith)
atom_bangless Always ts k s = lacks (Digits 1) Bang ts k s (λ x. let z : ◌≡◌ {A = ℕ} 0 1 = cc in omega arith)

bangless : (p : Primary) (ts : List Token) (k : List TokenKind) → kinds ts ≡ spell_primary p ++ k → Lacks Bang ts
bangless (tree.atom a) ts k s = atom_bangless a ts k s
bangless (tree.bracket c) ts k s = lacks Open Bang ts _ s (λ x. let z : ◌≡◌ {A = ℕ} 0 1 = cc in omega arith)

plain : (F : Type 0) (h : Brackets) (s : Terms) (p : Factors) (y : State) (e : ℕ) (ts : List Token) (k : List TokenKind) → Lacks Bang ts → Wide F (primary h s p false) y e ts k → Wide F (wants h s p) y e ts k
plain F h s p y e ts k n w =
    ⊎_elim (λ g. inl (record { used = g.used; rest = g.rest; split = g.split; kept = g.kept; passes = no_bang h s p e ts n ∙ g.passes })) (λ o. inr (record { f = o.f; limit = o.limit; is = no_bang h s p e ts n ∙ o.is; unfit = o.unfit })) w

-- a condition's last term, and those before it
abbrev pub others : Cond → Terms
others (tree.term t) = no_terms
others (tree.or c t) = terms c

abbrev pub last : Cond → Term
last (tree.term t) = t
last (tree.or c t) = t

pub rejoin : (c : Cond) → join (others c) (last c) ≡ c
rejoin (tree.term t) = refl
rejoin (tree.or c t) = refl

-- a bracket and its condition
bracketed : (c : Cond) (h : Brackets) (s : Terms) (p : Factors) (b : Bool) (e : ℕ) (ts : List Token) (k : List TokenKind) → kinds ts ≡ Open ∷ spell c ++ Close ∷ k → ((us : List Token) → kinds us ≡ spell c ++ Close ∷ k → Wide (Fits (deep h + 1) c) (wants (inside h s p b) no_terms no_factors) (sign (inside h s p b) (others c) (last c)) e us (Close ∷ k)) → Wide (FitsPrimary (deep h) (tree.bracket c)) (primary h s p b) (read h s p b (tree.bracket c)) e ts k
bracketed c h s p b e ts k z next =
    let H = FitsPrimary (deep h) (tree.bracket c) in
    let x = primary h s p b in
    let i = inside h s p b in
    let y = read h s p b (tree.bracket c) in
    split (leb 7 (deep h))
    (λ q. inr (limited H Open x e ts (spell c ++ Close ∷ k) EighthBracket too_deep z (λ at. ap (λ q. cond q (fault (EighthBracket at)) (goes (wants i no_terms no_factors))) q) (λ f. let w = f.0 in grind (arith, nat_tests))))
    (λ q. after_got (Fits (deep h + 1) c) H x (wants i no_terms no_factors) y e ts (spell c ++ Close ∷ k) k (λ f. f.1)
    (one Open x (wants i no_terms no_factors) e ts (spell c ++ Close ∷ k) z (λ at. ap (λ q. cond q (fault (EighthBracket at)) (goes (wants i no_terms no_factors))) q))
    (λ us v. then (Fits (deep h + 1) c) (Unit {0}) (Fits (deep h + 1) c) (wants i no_terms no_factors) (sign i (others c) (last c)) y e us (Close ∷ k) k (λ f. f) (λ f. tt) (next us v)
    (λ vs w. inl (one Close (sign i (others c) (last c)) y e vs k w (λ at. ap (λ c. goes (read h s p b (tree.bracket c))) (rejoin c))))))

mutual
  pub wide_cond : (c : Cond) (h : Brackets) (e : ℕ) (ts : List Token) (k : List TokenKind) → kinds ts ≡ spell c ++ k → Wide (Fits (deep h) c) (wants h no_terms no_factors) (sign h (others c) (last c)) e ts k
  wide_cond (tree.term t) h e ts k z = wide_term t h no_terms e ts k z
  wide_cond (tree.or c t) h e ts k z =
      then (Fits (deep h) c) (FitsTerm (deep h) t) (Fits (deep h) (tree.or c t)) (wants h no_terms no_factors) (sign h (others c) (last c)) (sign h (terms c) t) e ts (Plus ∷ spell_term t ++ k) k (λ f. f.0) (λ f. f.1)
      (wide_cond c h e ts (Plus ∷ spell_term t ++ k) (z ∙ append_assoc (spell c) (Plus ∷ spell_term t) k))
      (λ us v. after_got (FitsTerm (deep h) t) (FitsTerm (deep h) t) (sign h (others c) (last c)) (wants h (terms c) no_factors) (sign h (terms c) t) e us (spell_term t ++ k) k (λ f. f)
      (one Plus (sign h (others c) (last c)) (wants h (terms c) no_factors) e us (spell_term t ++ k) v (λ at. ap (λ c. goes (wants h (terms c) no_factors)) (rejoin c)))
      (λ vs w. wide_term t h (terms c) e vs k w))

  wide_term : (t : Term) (h : Brackets) (s : Terms) (e : ℕ) (ts : List Token) (k : List TokenKind) → kinds ts ≡ spell_term t ++ k → Wide (FitsTerm (deep h) t) (wants h s no_factors) (sign h s t) e ts k
  wide_term (tree.factor x) h s e ts k z = wide_factor x h s no_factors e ts k z
  wide_term (tree.and t x) h s e ts k z =
      then (FitsTerm (deep h) t) (FitsFactor (deep h) x) (FitsTerm (deep h) (tree.and t x)) (wants h s no_factors) (sign h s t) (sign h s (tree.and t x)) e ts (Dot ∷ spell_factor x ++ k) k (λ f. f.0) (λ f. f.1)
      (wide_term t h s e ts (Dot ∷ spell_factor x ++ k) (z ∙ append_assoc (spell_term t) (Dot ∷ spell_factor x) k))
      (λ us v. after_got (FitsFactor (deep h) x) (FitsFactor (deep h) x) (sign h s t) (wants h s (factors t)) (sign h s (tree.and t x)) e us (spell_factor x ++ k) k (λ f. f)
      (one Dot (sign h s t) (wants h s (factors t)) e us (spell_factor x ++ k) v (λ at. refl))
      (λ vs w. wide_factor x h s (factors t) e vs k w))

  wide_factor : (x : Factor) (h : Brackets) (s : Terms) (p : Factors) (e : ℕ) (ts : List Token) (k : List TokenKind) → kinds ts ≡ spell_factor x ++ k → Wide (FitsFactor (deep h) x) (wants h s p) (sign h s (extend p x)) e ts k
  wide_factor (tree.is q) h s p e ts k z = plain (FitsPrimary (deep h) q) h s p (read h s p false q) e ts k (bangless q ts k z) (wide_primary q h s p false e ts k z)
  wide_factor (tree.not q) h s p e ts k z =
      after_got (FitsPrimary (deep h) q) (FitsPrimary (deep h) q) (wants h s p) (primary h s p true) (read h s p true q) e ts (spell_primary q ++ k) k (λ f. f)
      (one Bang (wants h s p) (primary h s p true) e ts (spell_primary q ++ k) z (λ at. refl))
      (λ us v. wide_primary q h s p true e us k v)

  wide_primary : (q : Primary) (h : Brackets) (s : Terms) (p : Factors) (b : Bool) (e : ℕ) (ts : List Token) (k : List TokenKind) → kinds ts ≡ spell_primary q ++ k → Wide (FitsPrimary (deep h) q) (primary h s p b) (read h s p b q) e ts k
  wide_primary (tree.atom a) h s p b e ts k z = wide_atom a h s p b e ts k z
  wide_primary (tree.bracket c) h s p b e ts k z = bracketed c h s p b e ts k (z ∙ ap (λ l. Open ∷ l) (append_assoc (spell c) (Close ∷ []) k)) (λ us v. wide_cond c (inside h s p b) e us (Close ∷ k) v)

-- a condition that fits
pub goes_cond : (c : Cond) (e : ℕ) (ts : List Token) (k : List TokenKind) → kinds ts ≡ spell c ++ k → Fits 0 c → Got start (sign none (others c) (last c)) e ts k
goes_cond c e ts k z f = ⊎_elim (λ g. g) (λ o. absurd (o.unfit f)) (wide_cond c none e ts k z)

same_long : (ts us : List Token) → kinds ts ≡ kinds us → length ts ≡ length us
same_long [] [] s = refl
same_long [] (u ∷ us) s = let z : ◌≡◌ {A = ℕ} 0 1 = cc in absurd (omega arith)
same_long (t ∷ ts) [] s = let z : ◌≡◌ {A = ℕ} 0 1 = cc in absurd (omega arith)
same_long (t ∷ ts) (u ∷ us) s = let r : kinds ts ≡ kinds us = cc in let e = same_long ts us r in omega arith

same_end : (vs ws ts us : List Token) → vs ++ ts ≡ ws ++ us → length ts ≡ length us → ts ≡ us
same_end [] [] ts us e l = e
same_end [] (w ∷ ws) ts us e l = absurd (omega (arith, ap length e, length-append ws us))
same_end (v ∷ vs) [] ts us e l = absurd (omega (arith, ap length e, length-append vs ts))
same_end (v ∷ vs) (w ∷ ws) ts us e l = let r : vs ++ ts ≡ ws ++ us = cc in same_end vs ws ts us r l

-- a condition that the tokens begin with is the scan's
pub whole : (ts rest : List Token) (e : ℕ) (c : Cond) → Begins c ts rest → condition_of ts e ≡ stops c rest
whole ts rest e c b =
    let spelt = ap kinds b.split ∙ map-append (λ t. t.kind) b.used rest ∙ ap (λ l. l ++ kinds rest) b.spelled in
    let g = goes_cond c e ts (kinds rest) spelt b.fits in
    let same = same_end g.used b.used g.rest rest (sym g.split ∙ b.split) (same_long g.rest rest g.kept) in
    g.passes ∙ ap (λ l. scan l (sign none (others c) (last c)) e) same ∙ stopped (others c) (last c) e rest b.undotted b.unadded ∙ ap (λ x. stops x rest) (rejoin c)

same_stop : {c d : Cond} {ts us : List Token} → stops c ts ≡ stops d us → (d ≡ c) × (us ≡ ts)
same_stop h = (cc, cc)

pub only : (ts rest : List Token) → Only ts rest
only ts rest c d us a b = same_stop (sym (whole ts rest 0 c a) ∙ whole ts us 0 d b)

pub nowhere : (ts : List Token) (e : ℕ) (f : TextFault) → condition_of ts e ≡ fails f → Nowhere ts
nowhere ts e f h c us b = let s : stops c us ≡ fails f = sym (whole ts us e c b) ∙ h in let z : ◌≡◌ {A = ℕ} 0 1 = cc in omega arith
