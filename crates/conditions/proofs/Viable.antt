-- What the scan has gone along is spelled by its state, and is a viable prefix. Assumes nothing.
use Rattle.std.proofs.Common.{◌≡◌, ℕ, ◌+◌, ◌≤◌, Bool, true, false, cond, eqb, leb, List, [], ◌∷◌, ◌++◌, map, sym, refl, ap, ◌∙◌, subst, ⊎_elim, append_assoc, append-nil, arith, true-eqb}
use mathlib.Core.List.{map-append}
use Rattle.std.proofs.lemmas.Bool.Decides.{nat_tests}
use Rattle.faults.specs.declared.TextFault.{TextFault}
use Rattle.faults.specs.declared.TextFault.TheVariants.{TooLong, NoToken, TooManyDigits, Unexpected, EighthBracket, NumberTooLarge}
use Rattle.faults.specs.Numbers.{text_place}
use Rattle.text.specs.declared.token.Letter.{Letter}
use Rattle.text.specs.declared.token.Letter.TheVariants.{I, Q, X}
use Rattle.text.specs.declared.token.Token.{Token}
use Rattle.text.specs.declared.token.TokenKind.{TokenKind}
use Rattle.text.specs.declared.token.TokenKind.TheVariants.{Keyword, Digits, Operand, Comma, Dot, Plus, Bang, Open, Close, Slash, Backslash, LineEnd}
use Rattle.conditions.specs.declared.tree.Atom.TheVariants.{Plain, Rise, Fall, Always}
use Rattle.conditions.specs.Scan as automaton
use Rattle.conditions.specs.Scan.{condition_of, scan, State, Step, step, out, follow, begins, negates, inputs, signs, other, goes, ends, fault, stops, fails, start, wants, primary, edge, sign, Terms, no_terms, terms, Factors, no_factors, factors, join, extend, signed, edged, Brackets, none, inside, deep, read}
use Rattle.conditions.specs.Tree as tree
use Rattle.conditions.specs.Tree.{Cond, Term, Factor, Primary, spell, spell_term, spell_factor, spell_primary, Fits, FitsTerm, FitsFactor, FitsPrimary}
use Rattle.conditions.specs.Read.{kinds, placed, Lacks}
use Rattle.conditions.specs.Laws.{opened, closed, Begins, Viable, Spells, Possible, Unfit, Eighth, Large, Why, Stuck}
use Rattle.conditions.proofs.Counts.{excess, even, even_term}
use Rattle.conditions.proofs.Complete.{Limit, too_deep, too_large, others, last, goes_cond, wide_cond}

abbrev pub bangs : Bool → List TokenKind
bangs true = Bang ∷ []
bangs false = []

abbrev pub spell_terms : Terms → List TokenKind
spell_terms no_terms = []
spell_terms (terms c) = spell c ++ Plus ∷ []

abbrev pub spell_factors : Factors → List TokenKind
spell_factors no_factors = []
spell_factors (factors t) = spell_term t ++ Dot ∷ []

abbrev pub spell_brackets : Brackets → List TokenKind
spell_brackets none = []
spell_brackets (inside h s p b) = spell_brackets h ++ (spell_terms s ++ (spell_factors p ++ (bangs b ++ Open ∷ [])))

-- what a state has read
abbrev pub spelled : State → List TokenKind
spelled (wants h s p) = spell_brackets h ++ (spell_terms s ++ spell_factors p)
spelled (primary h s p b) = spell_brackets h ++ (spell_terms s ++ (spell_factors p ++ bangs b))
spelled (edge h s p b true) = spell_brackets h ++ (spell_terms s ++ (spell_factors p ++ (bangs b ++ Slash ∷ [])))
spelled (edge h s p b false) = spell_brackets h ++ (spell_terms s ++ (spell_factors p ++ (bangs b ++ Backslash ∷ [])))
spelled (sign h s t) = spell_brackets h ++ (spell_terms s ++ spell_term t)

spell_join : (s : Terms) (t : Term) → spell (join s t) ≡ spell_terms s ++ spell_term t
spell_join no_terms t = refl
spell_join (terms c) t = sym (append_assoc (spell c) (Plus ∷ []) (spell_term t))

spell_extend : (p : Factors) (x : Factor) → spell_term (extend p x) ≡ spell_factors p ++ spell_factor x
spell_extend no_factors x = refl
spell_extend (factors t) x = sym (append_assoc (spell_term t) (Dot ∷ []) (spell_factor x))

spell_signed : (b : Bool) (q : Primary) → spell_factor (signed b q) ≡ bangs b ++ spell_primary q
spell_signed true q = refl
spell_signed false q = refl

abbrev pub FitsTerms : ℕ → Terms → Type 0
FitsTerms d no_terms = Unit {0}
FitsTerms d (terms c) = Fits d c

abbrev pub FitsFactors : ℕ → Factors → Type 0
FitsFactors d no_factors = Unit {0}
FitsFactors d (factors t) = FitsTerm d t

abbrev pub FitsBrackets : Brackets → Type 0
FitsBrackets none = Unit {0}
FitsBrackets (inside h s p b) = FitsBrackets h × FitsTerms (deep h) s × FitsFactors (deep h) p × (deep h + 1 ≤ 7)

abbrev pub FitsState : State → Type 0
FitsState (wants h s p) = FitsBrackets h × FitsTerms (deep h) s × FitsFactors (deep h) p
FitsState (primary h s p b) = FitsBrackets h × FitsTerms (deep h) s × FitsFactors (deep h) p
FitsState (edge h s p b r) = FitsBrackets h × FitsTerms (deep h) s × FitsFactors (deep h) p
FitsState (sign h s t) = FitsBrackets h × FitsTerms (deep h) s × FitsTerm (deep h) t

fits_join : (d : ℕ) (s : Terms) (t : Term) → FitsTerms d s → FitsTerm d t → Fits d (join s t)
fits_join d no_terms t f g = g
fits_join d (terms c) t f g = (f, g)

fits_extend : (d : ℕ) (p : Factors) (x : Factor) → FitsFactors d p → FitsFactor d x → FitsTerm d (extend p x)
fits_extend d no_factors x f g = g
fits_extend d (factors t) x f g = (f, g)

fits_signed : (d : ℕ) (b : Bool) (q : Primary) → FitsPrimary d q → FitsFactor d (signed b q)
fits_signed d true q h = h
fits_signed d false q h = h

-- what a fault at the kind k says, for the limits, behind the kinds ks
abbrev pub Limits : TextFault → List TokenKind → TokenKind → Type 0
Limits TooLong ks k = ⊥
Limits (NoToken p) ks k = ⊥
Limits (TooManyDigits p) ks k = ⊥
Limits (Unexpected p) ks k = Unit {0}
Limits (EighthBracket p) ks k = Eighth ks k
Limits (NumberTooLarge p) ks k = Large ks k

-- a step along the kind k from what ks spells
abbrev pub Next : Step → ℕ → List TokenKind → TokenKind → Type 0
Next (goes x) p ks k = FitsState x × (spelled x ≡ ks ++ k ∷ [])
Next (ends c) p ks k = Fits 0 c × (spell c ≡ ks) × (k ≡ Dot → ⊥) × (k ≡ Plus → ⊥)
Next (fault f) p ks k = (text_place f ≡ p) × Limits f ks k

by : (q : Bool) (x y : Step) (p : ℕ) (ks : List TokenKind) (k : TokenKind) → (q ≡ true → Next x p ks k) → (q ≡ false → Next y p ks k) → Next (cond q x y) p ks k
by true x y p ks k f g = f refl
by false x y p ks k f g = g refl

small : (n : ℕ) → leb n 63 ≡ true → n ≤ 63
small n e = grind (arith, nat_tests)

shallow : (d : ℕ) → leb 7 d ≡ false → d + 1 ≤ 7
shallow d e = grind (arith, nat_tests)

deepest : (d : ℕ) → leb 7 d ≡ true → 7 ≤ d
deepest d e = grind (arith, nat_tests)

large : (n : ℕ) → leb n 63 ≡ false → 64 ≤ n
large n e = grind (arith, nat_tests)

-- a whole primary behind what a state has read
spell_read : (h : Brackets) (s : Terms) (p : Factors) (b : Bool) (q : Primary) → spelled (read h s p b q) ≡ spelled (primary h s p b) ++ spell_primary q
spell_read h s p b q = ap (λ l. spell_brackets h ++ (spell_terms s ++ l)) (spell_extend p (signed b q) ∙ ap (λ l. spell_factors p ++ l) (spell_signed b q)) ∙ simp append_assoc

filled : (h : Brackets) (s : Terms) (p : Factors) (b : Bool) (q : Primary) → FitsState (primary h s p b) → FitsPrimary (deep h) q → FitsState (read h s p b q)
filled h s p b q f g = (f.0, f.1, fits_extend (deep h) p (signed b q) f.2 (fits_signed (deep h) b q g))

spell_open : (h : Brackets) (s : Terms) (p : Factors) (b : Bool) → spelled (wants (inside h s p b) no_terms no_factors) ≡ spelled (primary h s p b) ++ Open ∷ []
spell_open h s p b = simp (append_assoc, append-nil)

spell_close : (h : Brackets) (z : Terms) (p : Factors) (b : Bool) (s : Terms) (t : Term) → spelled (read h z p b (tree.bracket (join s t))) ≡ spelled (sign (inside h z p b) s t) ++ Close ∷ []
spell_close h z p b s t = spell_read h z p b (tree.bracket (join s t)) ∙ ap (λ l. spelled (primary h z p b) ++ (Open ∷ l ++ Close ∷ [])) (spell_join s t) ∙ simp append_assoc

fits_close : (h : Brackets) (z : Terms) (p : Factors) (b : Bool) (s : Terms) (t : Term) → FitsState (sign (inside h z p b) s t) → FitsState (read h z p b (tree.bracket (join s t)))
fits_close h z p b s t f = filled h z p b (tree.bracket (join s t)) (f.0.0, f.0.1, f.0.2) (f.0.3, fits_join (deep h + 1) s t f.1 f.2)

spell_edge : (h : Brackets) (s : Terms) (p : Factors) (b r : Bool) (n : ℕ) → spelled (read h s p b (tree.atom (edged r n))) ≡ spelled (edge h s p b r) ++ Operand I n ∷ []
spell_edge h s p b true n = spell_read h s p b (tree.atom (Rise n)) ∙ simp append_assoc
spell_edge h s p b false n = spell_read h s p b (tree.atom (Fall n)) ∙ simp append_assoc

fits_edge : (d : ℕ) (r : Bool) (n : ℕ) → n ≤ 63 → FitsPrimary d (tree.atom (edged r n))
fits_edge d true n h = h
fits_edge d false n h = h

plain_spelled : (h : Brackets) (s : Terms) (p : Factors) → spelled (primary h s p false) ≡ spelled (wants h s p)
plain_spelled h s p = ap (λ l. spell_brackets h ++ (spell_terms s ++ l)) (append-nil (spell_factors p))

-- each state can be completed: by a last primary, and by closing what is open
abbrev closing : Brackets → List TokenKind
closing none = []
closing (inside h s p b) = Close ∷ closing h

abbrev finished : Brackets → Terms → Term → Cond
finished none s t = join s t
finished (inside h z p b) s t = finished h z (extend p (signed b (tree.bracket (join s t))))

spell_finished : (h : Brackets) (s : Terms) (t : Term) → spelled (sign h s t) ++ closing h ≡ spell (finished h s t)
spell_finished none s t = append-nil _ ∙ sym (spell_join s t)
spell_finished (inside h z p b) s t =
    sym (append_assoc (spelled (sign (inside h z p b) s t)) (Close ∷ []) (closing h)) ∙ ap (λ l. l ++ closing h) (sym (spell_close h z p b s t)) ∙ spell_finished h z (extend p (signed b (tree.bracket (join s t))))

fits_finished : (h : Brackets) (s : Terms) (t : Term) → FitsState (sign h s t) → Fits 0 (finished h s t)
fits_finished none s t f = fits_join 0 s t f.1 f.2
fits_finished (inside h z p b) s t f = fits_finished h z (extend p (signed b (tree.bracket (join s t)))) (fits_close h z p b s t f)

abbrev ending : State → List TokenKind
ending (wants h s p) = Digits 1 ∷ closing h
ending (primary h s p b) = Digits 1 ∷ closing h
ending (edge h s p b r) = Operand I 0 ∷ closing h
ending (sign h s t) = closing h

abbrev completed : State → Cond
completed (wants h s p) = finished h s (extend p (signed false (tree.atom Always)))
completed (primary h s p b) = finished h s (extend p (signed b (tree.atom Always)))
completed (edge h s p b r) = finished h s (extend p (signed b (tree.atom (edged r 0))))
completed (sign h s t) = finished h s t

onto : (ks : List TokenKind) (k : TokenKind) (h : Brackets) (s : Terms) (t : Term) → spelled (sign h s t) ≡ ks ++ k ∷ [] → ks ++ k ∷ closing h ≡ spell (finished h s t)
onto ks k h s t e = sym (append_assoc ks (k ∷ []) (closing h)) ∙ ap (λ l. l ++ closing h) (sym e) ∙ spell_finished h s t

spell_completed : (x : State) → spelled x ++ ending x ≡ spell (completed x)
spell_completed (wants h s p) = onto (spelled (wants h s p)) (Digits 1) h s (extend p (signed false (tree.atom Always))) (spell_read h s p false (tree.atom Always) ∙ ap (λ l. l ++ Digits 1 ∷ []) (plain_spelled h s p))
spell_completed (primary h s p b) = onto (spelled (primary h s p b)) (Digits 1) h s (extend p (signed b (tree.atom Always))) (spell_read h s p b (tree.atom Always))
spell_completed (edge h s p b r) = onto (spelled (edge h s p b r)) (Operand I 0) h s (extend p (signed b (tree.atom (edged r 0)))) (spell_edge h s p b r 0)
spell_completed (sign h s t) = spell_finished h s t

fits_completed : (x : State) → FitsState x → Fits 0 (completed x)
fits_completed (wants h s p) f = fits_finished h s (extend p (signed false (tree.atom Always))) (filled h s p false (tree.atom Always) f tt)
fits_completed (primary h s p b) f = fits_finished h s (extend p (signed b (tree.atom Always))) (filled h s p b (tree.atom Always) f tt)
fits_completed (edge h s p b r) f = fits_finished h s (extend p (signed b (tree.atom (edged r 0)))) (filled h s p b (tree.atom (edged r 0)) f (fits_edge (deep h) r 0 (omega arith)))
fits_completed (sign h s t) f = fits_finished h s t f

pub possible : (x : State) → Possible (spelled x)
possible x = record { tree = completed x; more = ending x; spelled = spell_completed x }

pub viable : (x : State) → FitsState x → Viable (spelled x)
viable x f = record { tree = completed x; more = ending x; spelled = spell_completed x; fits = fits_completed x f }

-- fault 6
large_at : (l : Letter) (n : ℕ) (ks : List TokenKind) (x : State) → spelled x ≡ ks ++ Operand l n ∷ [] → 64 ≤ n → Large ks (Operand l n)
large_at l n ks x e h = record { letter = l; number = n; operand = refl; above = h; otherwise = subst (λ l. Possible l) e (possible x) }

-- fault 5: as many more brackets are opened than closed as are open
terms_even : (s : Terms) → opened (spell_terms s) ≡ closed (spell_terms s) + 0
terms_even no_terms = refl
terms_even (terms c) = excess 0 0 (spell c) (Plus ∷ []) (even c) refl

factors_even : (p : Factors) → opened (spell_factors p) ≡ closed (spell_factors p) + 0
factors_even no_factors = refl
factors_even (factors t) = excess 0 0 (spell_term t) (Dot ∷ []) (even_term t) refl

bangs_even : (b : Bool) → opened (bangs b) ≡ closed (bangs b) + 0
bangs_even true = refl
bangs_even false = refl

open_in : (h : Brackets) → opened (spell_brackets h) ≡ closed (spell_brackets h) + deep h
open_in none = refl
open_in (inside h s p b) = excess (deep h) 1 (spell_brackets h) (spell_terms s ++ (spell_factors p ++ (bangs b ++ Open ∷ []))) (open_in h) (excess 0 1 (spell_terms s) (spell_factors p ++ (bangs b ++ Open ∷ [])) (terms_even s) (excess 0 1 (spell_factors p) (bangs b ++ Open ∷ []) (factors_even p) (excess 0 1 (bangs b) (Open ∷ []) (bangs_even b) refl)))

at_most : (h : Brackets) → FitsBrackets h → deep h ≤ 7
at_most none f = omega arith
at_most (inside h s p b) f = f.3

eighth_at : (h : Brackets) (s : Terms) (p : Factors) (b : Bool) → FitsBrackets h → 7 ≤ deep h → Eighth (spelled (primary h s p b)) Open
eighth_at h s p b f ge =
    let here = excess (deep h) 0 (spell_brackets h) (spell_terms s ++ (spell_factors p ++ bangs b)) (open_in h) (excess 0 0 (spell_terms s) (spell_factors p ++ bangs b) (terms_even s) (excess 0 0 (spell_factors p) (bangs b) (factors_even p) (bangs_even b))) in
    record { opens = refl; seven = omega (arith, here, at_most h f, ge); otherwise = subst (λ l. Possible l) (spell_open h s p b) (possible (wants (inside h s p b) no_terms no_factors)) }

begin_on : (h : Brackets) (s : Terms) (p : Factors) (b : Bool) (at : ℕ) (k : TokenKind) → FitsState (primary h s p b) → Next (begins h s p b at k) at (spelled (primary h s p b)) k
begin_on h s p b at (Keyword w) f = (refl, tt)
begin_on h s p b at (Digits n) f = by (eqb n 1) _ _ at _ _ (λ e. (filled h s p b (tree.atom Always) f tt, spell_read h s p b (tree.atom Always) ∙ ap (λ i. spelled (primary h s p b) ++ Digits i ∷ []) (sym (true-eqb n 1 (sym e))))) (λ e. (refl, tt))
begin_on h s p b at (Operand l n) f = by (leb n 63) _ _ at _ _ (λ e. (filled h s p b (tree.atom (Plain l n)) f (small n e), spell_read h s p b (tree.atom (Plain l n)))) (λ e. (refl, large_at l n (spelled (primary h s p b)) (read h s p b (tree.atom (Plain l n))) (spell_read h s p b (tree.atom (Plain l n))) (large n e)))
begin_on h s p b at Comma f = (refl, tt)
begin_on h s p b at Dot f = (refl, tt)
begin_on h s p b at Plus f = (refl, tt)
begin_on h s p b at Bang f = (refl, tt)
begin_on h s p b at Open f = by (leb 7 (deep h)) _ _ at _ _ (λ e. (refl, eighth_at h s p b f.0 (deepest (deep h) e))) (λ e. (((f.0, f.1, f.2, shallow (deep h) e), tt, tt), spell_open h s p b))
begin_on h s p b at Close f = (refl, tt)
begin_on h s p b at Slash f = (f, simp append_assoc)
begin_on h s p b at Backslash f = (f, simp append_assoc)
begin_on h s p b at LineEnd f = (refl, tt)

from_plain : (h : Brackets) (s : Terms) (p : Factors) (x : Step) (at : ℕ) (k : TokenKind) → Next x at (spelled (primary h s p false)) k → Next x at (spelled (wants h s p)) k
from_plain h s p x at k n = subst (λ l. Next x at l k) (plain_spelled h s p) n

negate_on : (h : Brackets) (s : Terms) (p : Factors) (at : ℕ) (k : TokenKind) → FitsState (wants h s p) → Next (negates h s p at k) at (spelled (wants h s p)) k
negate_on h s p at (Keyword w) f = (refl, tt)
negate_on h s p at (Digits n) f = from_plain h s p (begins h s p false at (Digits n)) at (Digits n) (begin_on h s p false at (Digits n) f)
negate_on h s p at (Operand l n) f = from_plain h s p (begins h s p false at (Operand l n)) at (Operand l n) (begin_on h s p false at (Operand l n) f)
negate_on h s p at Comma f = (refl, tt)
negate_on h s p at Dot f = (refl, tt)
negate_on h s p at Plus f = (refl, tt)
negate_on h s p at Bang f = (f, simp append_assoc)
negate_on h s p at Open f = from_plain h s p (begins h s p false at Open) at Open (begin_on h s p false at Open f)
negate_on h s p at Close f = (refl, tt)
negate_on h s p at Slash f = from_plain h s p (begins h s p false at Slash) at Slash (begin_on h s p false at Slash f)
negate_on h s p at Backslash f = from_plain h s p (begins h s p false at Backslash) at Backslash (begin_on h s p false at Backslash f)
negate_on h s p at LineEnd f = (refl, tt)

input_on : (h : Brackets) (s : Terms) (p : Factors) (b r : Bool) (at : ℕ) (l : Letter) (n : ℕ) → FitsState (edge h s p b r) → Next (automaton.input at l n (read h s p b (tree.atom (edged r n)))) at (spelled (edge h s p b r)) (Operand l n)
input_on h s p b r at I n f = by (leb n 63) _ _ at _ _ (λ e. (filled h s p b (tree.atom (edged r n)) f (fits_edge (deep h) r n (small n e)), spell_edge h s p b r n)) (λ e. (refl, large_at I n (spelled (edge h s p b r)) (read h s p b (tree.atom (edged r n))) (spell_edge h s p b r n) (large n e)))
input_on h s p b r at Q n f = (refl, tt)
input_on h s p b r at X n f = (refl, tt)

edge_on : (h : Brackets) (s : Terms) (p : Factors) (b r : Bool) (at : ℕ) (k : TokenKind) → FitsState (edge h s p b r) → Next (inputs h s p b r at k) at (spelled (edge h s p b r)) k
edge_on h s p b r at (Keyword w) f = (refl, tt)
edge_on h s p b r at (Digits n) f = (refl, tt)
edge_on h s p b r at (Operand l n) f = input_on h s p b r at l n f
edge_on h s p b r at Comma f = (refl, tt)
edge_on h s p b r at Dot f = (refl, tt)
edge_on h s p b r at Plus f = (refl, tt)
edge_on h s p b r at Bang f = (refl, tt)
edge_on h s p b r at Open f = (refl, tt)
edge_on h s p b r at Close f = (refl, tt)
edge_on h s p b r at Slash f = (refl, tt)
edge_on h s p b r at Backslash f = (refl, tt)
edge_on h s p b r at LineEnd f = (refl, tt)

differ : {A : Type 0} {x y : A} → (x ≡ y → ◌≡◌ {A = ℕ} 0 1) → x ≡ y → ⊥
differ h e = let z = h e in omega arith

other_on : (h : Brackets) (s : Terms) (t : Term) (at : ℕ) (k : TokenKind) → (k ≡ Dot → ⊥) → (k ≡ Plus → ⊥) → FitsState (sign h s t) → Next (other h s t at) at (spelled (sign h s t)) k
other_on none s t at k a b f = (fits_join 0 s t f.1 f.2, spell_join s t, a, b)
other_on (inside h z p q) s t at k a b f = (refl, tt)

close_on : (h : Brackets) (s : Terms) (t : Term) (at : ℕ) → FitsState (sign h s t) → Next (automaton.closes h s t at) at (spelled (sign h s t)) Close
close_on none s t at f = (fits_join 0 s t f.1 f.2, spell_join s t, differ (λ e. cc), differ (λ e. cc))
close_on (inside h z p b) s t at f = (fits_close h z p b s t f, spell_close h z p b s t)

sign_on : (h : Brackets) (s : Terms) (t : Term) (at : ℕ) (k : TokenKind) → FitsState (sign h s t) → Next (signs h s t at k) at (spelled (sign h s t)) k
sign_on h s t at (Keyword w) f = other_on h s t at (Keyword w) (differ (λ e. cc)) (differ (λ e. cc)) f
sign_on h s t at (Digits n) f = other_on h s t at (Digits n) (differ (λ e. cc)) (differ (λ e. cc)) f
sign_on h s t at (Operand l n) f = other_on h s t at (Operand l n) (differ (λ e. cc)) (differ (λ e. cc)) f
sign_on h s t at Comma f = other_on h s t at Comma (differ (λ e. cc)) (differ (λ e. cc)) f
sign_on h s t at Dot f = (f, simp append_assoc)
sign_on h s t at Plus f = ((f.0, fits_join (deep h) s t f.1 f.2, tt), ap (λ l. spell_brackets h ++ ((l ++ Plus ∷ []) ++ [])) (spell_join s t) ∙ simp (append_assoc, append-nil))
sign_on h s t at Bang f = other_on h s t at Bang (differ (λ e. cc)) (differ (λ e. cc)) f
sign_on h s t at Open f = other_on h s t at Open (differ (λ e. cc)) (differ (λ e. cc)) f
sign_on h s t at Close f = close_on h s t at f
sign_on h s t at Slash f = other_on h s t at Slash (differ (λ e. cc)) (differ (λ e. cc)) f
sign_on h s t at Backslash f = other_on h s t at Backslash (differ (λ e. cc)) (differ (λ e. cc)) f
sign_on h s t at LineEnd f = other_on h s t at LineEnd (differ (λ e. cc)) (differ (λ e. cc)) f

pub advance : (x : State) (at : ℕ) (k : TokenKind) → FitsState x → Next (step x at k) at (spelled x) k
advance (wants h s p) at k f = negate_on h s p at k f
advance (primary h s p b) at k f = begin_on h s p b at k f
advance (edge h s p b r) at k f = edge_on h s p b r at k f
advance (sign h s t) at k f = sign_on h s t at k f

-- the scan's condition is spelled by what it went along
record Came (ks : List TokenKind) (ts rest : List Token) (c : Cond) : Type 0 where
  used : List Token
  split : ts ≡ used ++ rest
  spelt : ks ++ kinds used ≡ spell c
  fits : Fits 0 c
  undotted : Lacks Dot rest
  unadded : Lacks Plus rest

never : {A : Type 0} {f : TextFault} {l : List Token} {c : Cond} → stops c l ≡ fails f → A
never h = let z : ◌≡◌ {A = ℕ} 0 1 = cc in absurd (omega arith)

here_came : (ks : List TokenKind) (ts rest : List Token) (c d : Cond) → spell d ≡ ks → Fits 0 d → Lacks Dot ts → Lacks Plus ts → stops d ts ≡ stops c rest → Came ks ts rest c
here_came ks ts rest c d s f x y e =
    let a : d ≡ c = cc in
    let b : ts ≡ rest = cc in
    record { used = []; split = b; spelt = append-nil ks ∙ sym s ∙ ap spell a; fits = subst (λ z. Fits 0 z) a f; undotted = subst (λ l. Lacks Dot l) b x; unadded = subst (λ l. Lacks Plus l) b y }

out_came : (x : State) (e : ℕ) (rest : List Token) (c : Cond) → FitsState x → follow (out x e) (λ x. fails (Unexpected e)) [] ≡ stops c rest → Came (spelled x) [] rest c
out_came (wants h s p) e rest c f r = never (sym r)
out_came (primary h s p b) e rest c f r = never (sym r)
out_came (edge h s p b q) e rest c f r = never (sym r)
out_came (sign none s t) e rest c f r = here_came (spelled (sign none s t)) [] rest c (join s t) (spell_join s t) (fits_join 0 s t f.1 f.2) tt tt r
out_came (sign (inside h z p b) s t) e rest c f r = never (sym r)

token_came : (ks : List TokenKind) (t : Token) (ts rest : List Token) (e : ℕ) (c : Cond) (s : Step) → Next s t.place ks t.kind → ((x : State) → FitsState x → scan ts x e ≡ stops c rest → Came (spelled x) ts rest c) → follow s (λ x. scan ts x e) (t ∷ ts) ≡ stops c rest → Came ks (t ∷ ts) rest c
token_came ks t ts rest e c (goes x) n ih r =
    let g = ih x n.0 r in
    record { used = t ∷ g.used; split = ap (λ l. t ∷ l) g.split; spelt = sym (append_assoc ks (t.kind ∷ []) (kinds g.used)) ∙ ap (λ l. l ++ kinds g.used) (sym n.1) ∙ g.spelt; fits = g.fits; undotted = g.undotted; unadded = g.unadded }
token_came ks t ts rest e c (ends d) n ih r = here_came ks (t ∷ ts) rest c d n.1 n.0 n.2 n.3 r
token_came ks t ts rest e c (fault f) n ih r = never (sym r)

came : (ts rest : List Token) (x : State) (e : ℕ) (c : Cond) → FitsState x → scan ts x e ≡ stops c rest → Came (spelled x) ts rest c
came [] rest x e c f r = out_came x e rest c f r
came (t ∷ ts) rest x e c f r = token_came (spelled x) t ts rest e c (step x t.place t.kind) (advance x t.place t.kind f) (λ y g q. came ts rest y e c g q) r

-- the scan's condition is one that the tokens begin with
pub sound : (ts rest : List Token) (e : ℕ) (c : Cond) → condition_of ts e ≡ stops c rest → Begins c ts rest
sound ts rest e c r = let x = came ts rest start e c (tt, tt, tt) r in record { used = x.used; split = x.split; spelled = x.spelt; fits = x.fits; undotted = x.undotted; unadded = x.unadded }

-- what refuses: the first token that is left, or that there is none
abbrev Refuser : State → ℕ → List Token → TextFault → Type 0
Refuser x e [] f = out x e ≡ fault f
Refuser x e (t ∷ ts) f = step x t.place t.kind ≡ fault f

-- where the scan of ts fails, having gone along ks before it
record Found (ts : List Token) (x : State) (e : ℕ) (ks : List TokenKind) (f : TextFault) : Type 0 where
  before : List Token
  rest : List Token
  split : ts ≡ before ++ rest
  state : State
  fits : FitsState state
  spelt : spelled state ≡ ks ++ kinds before
  onward : (us : List Token) → scan (before ++ us) x e ≡ scan us state e
  refuser : Refuser state e rest f

found_here : (ts : List Token) (x : State) (e : ℕ) (f : TextFault) → FitsState x → Refuser x e ts f → Found ts x e (spelled x) f
found_here ts x e f s r = record { before = []; rest = ts; split = refl; state = x; fits = s; spelt = sym (append-nil (spelled x)); onward = λ us. refl; refuser = r }

found_on : (t : Token) (ts : List Token) (x y : State) (e : ℕ) (f : TextFault) → step x t.place t.kind ≡ goes y → spelled y ≡ spelled x ++ t.kind ∷ [] → Found ts y e (spelled y) f → Found (t ∷ ts) x e (spelled x) f
found_on t ts x y e f g s r = record {
  before = t ∷ r.before;
  rest = r.rest;
  split = ap (λ l. t ∷ l) r.split;
  state = r.state;
  fits = r.fits;
  spelt = r.spelt ∙ ap (λ l. l ++ kinds r.before) s ∙ append_assoc (spelled x) (t.kind ∷ []) (kinds r.before);
  onward = λ us. ap (λ s. follow s (λ x. scan (r.before ++ us) x e) (t ∷ r.before ++ us)) g ∙ r.onward us;
  refuser = r.refuser;
}

same : {f g : TextFault} → fails g ≡ fails f → g ≡ f
same h = cc

at_end : (x : State) (e : ℕ) (f : TextFault) → follow (out x e) (λ x. fails (Unexpected e)) [] ≡ fails f → out x e ≡ fault f
at_end (wants h s p) e f r = ap (λ g. fault g) (same r)
at_end (primary h s p b) e f r = ap (λ g. fault g) (same r)
at_end (edge h s p b q) e f r = ap (λ g. fault g) (same r)
at_end (sign none s t) e f r = never r
at_end (sign (inside h z p b) s t) e f r = ap (λ g. fault g) (same r)

at_token : (t : Token) (ts : List Token) (x : State) (e : ℕ) (f : TextFault) → FitsState x → ((y : State) → FitsState y → scan ts y e ≡ fails f → Found ts y e (spelled y) f) → (s : Step) → step x t.place t.kind ≡ s → Next s t.place (spelled x) t.kind → follow s (λ x. scan ts x e) (t ∷ ts) ≡ fails f → Found (t ∷ ts) x e (spelled x) f
at_token t ts x e f st ih (goes y) g n r = found_on t ts x y e f g n.1 (ih y n.0 r)
at_token t ts x e f st ih (ends c) g n r = never r
at_token t ts x e f st ih (fault z) g n r = found_here (t ∷ ts) x e f st (g ∙ ap (λ q. fault q) (same r))

walk : (ts : List Token) (x : State) (e : ℕ) (f : TextFault) → FitsState x → scan ts x e ≡ fails f → Found ts x e (spelled x) f
walk [] x e f s r = found_here [] x e f s (at_end x e f r)
walk (t ∷ ts) x e f s r = at_token t ts x e f s (λ y n q. walk ts y e f n q) (step x t.place t.kind) refl (advance x t.place t.kind s) r

-- the place
same_fault : {f g : TextFault} → fault g ≡ fault f → g ≡ f
same_fault h = cc

ended_as : (x : State) (e : ℕ) (f : TextFault) → out x e ≡ fault f → Unexpected e ≡ f
ended_as (wants h s p) e f r = same_fault r
ended_as (primary h s p b) e f r = same_fault r
ended_as (edge h s p b q) e f r = same_fault r
ended_as (sign none s t) e f r = let z : ◌≡◌ {A = ℕ} 0 1 = cc in absurd (omega arith)
ended_as (sign (inside h z p b) s t) e f r = same_fault r

at_fault : (t : Token) (x : State) (f : TextFault) → FitsState x → step x t.place t.kind ≡ fault f → Next (fault f) t.place (spelled x) t.kind
at_fault t x f s r = subst (λ q. Next q t.place (spelled x) t.kind) r (advance x t.place t.kind s)

place_of : (rest : List Token) (x : State) (e : ℕ) (f : TextFault) → FitsState x → Refuser x e rest f → text_place f ≡ placed rest e
place_of [] x e f s r = sym (ap text_place (ended_as x e f r))
place_of (t ∷ ts) x e f s r = (at_fault t x f s r).0

-- any tokens of these kinds
abbrev token : TokenKind → Token
token k = record { kind = k; place = 0 }

kinds_of : (ks : List TokenKind) → kinds (map token ks) ≡ ks
kinds_of [] = refl
kinds_of (k ∷ ks) = ap (λ l. k ∷ l) (kinds_of ks)

no_kinds : (ts : List Token) → kinds ts ≡ [] → ts ≡ []
no_kinds [] h = refl
no_kinds (t ∷ ts) h = let z : ◌≡◌ {A = ℕ} 0 1 = cc in absurd (omega arith)

no_limit : (q : ℕ) {f : TextFault} → Limit f → f ≡ Unexpected q → ⊥
no_limit q (too_deep p) e = let z : ◌≡◌ {A = ℕ} 0 1 = cc in omega arith
no_limit q (too_large p) e = let z : ◌≡◌ {A = ℕ} 0 1 = cc in omega arith

whole_stops : (us rest : List Token) (e : ℕ) (c : Cond) → scan us start e ≡ scan rest (sign none (others c) (last c)) e → kinds rest ≡ [] → scan us start e ≡ stops (join (others c) (last c)) []
whole_stops us rest e c p k = p ∙ ap (λ l. scan l (sign none (others c) (last c)) e) (no_kinds rest k)

-- tokens that the scan finds unexpected spell no condition of the grammar
unspelled : (us : List Token) (e q : ℕ) → scan us start e ≡ fails (Unexpected q) → Spells (kinds us) → ⊥
unspelled us e q r c =
    ⊎_elim (λ g. never (sym (whole_stops us g.rest e c.tree g.passes g.kept) ∙ r)) (λ l. no_limit q l.limit (same (sym l.is ∙ r))) (wide_cond c.tree none e us [] (c.spelled ∙ sym (append-nil _)))

-- where a token is at fault the condition does not end either
no_fault : (s : Terms) (t : Term) (at : ℕ) (k : TokenKind) (f : TextFault) → signs none s t at k ≡ fault f → ◌≡◌ {A = ℕ} 0 1
no_fault s t at (Keyword w) f r = cc
no_fault s t at (Digits n) f r = cc
no_fault s t at (Operand l n) f r = cc
no_fault s t at Comma f r = cc
no_fault s t at Dot f r = cc
no_fault s t at Plus f r = cc
no_fault s t at Bang f r = cc
no_fault s t at Open f r = cc
no_fault s t at Close f r = cc
no_fault s t at Slash f r = cc
no_fault s t at Backslash f r = cc
no_fault s t at LineEnd f r = cc

unended : (x : State) (at e : ℕ) (k : TokenKind) (f : TextFault) → step x at k ≡ fault f → out x e ≡ fault (Unexpected e)
unended (wants h s p) at e k f r = refl
unended (primary h s p b) at e k f r = refl
unended (edge h s p b q) at e k f r = refl
unended (sign none s t) at e k f r = let z = no_fault s t at k f r in absurd (omega arith)
unended (sign (inside h z p b) s t) at e k f r = refl

-- the scan along `before` to a state, from the start
record Reached (before : List Token) (x : State) (e : ℕ) : Type 0 where
  fits : FitsState x
  spelt : spelled x ≡ kinds before
  onward : (us : List Token) → scan (before ++ us) start e ≡ scan us x e

not_whole : (before : List Token) (x : State) (e : ℕ) → Reached before x e → out x e ≡ fault (Unexpected e) → Spells (kinds before) → ⊥
not_whole before x e g r c = unspelled before e e (ap (λ l. scan l start e) (sym (append-nil before)) ∙ g.onward [] ∙ ap (λ s. follow s (λ x. fails (Unexpected e)) []) r) c

along : (before : List Token) (t : Token) (ms : List TokenKind) → kinds (before ++ t ∷ map token ms) ≡ (kinds before ++ t.kind ∷ []) ++ ms
along before t ms = map-append (λ t. t.kind) before (t ∷ map token ms) ∙ ap (λ l. kinds before ++ t.kind ∷ l) (kinds_of ms) ∙ sym (append_assoc (kinds before) (t.kind ∷ []) ms)

fails_on : (before : List Token) (x : State) (e : ℕ) (t : Token) (ms : List Token) (f : TextFault) → Reached before x e → step x t.place t.kind ≡ fault f → scan (before ++ t ∷ ms) start e ≡ fails f
fails_on before x e t ms f g r = g.onward (t ∷ ms) ∙ ap (λ s. follow s (λ y. scan ms y e) (t ∷ ms)) r

not_onward : (before : List Token) (x : State) (e q : ℕ) (t : Token) → Reached before x e → step x t.place t.kind ≡ fault (Unexpected q) → Possible (kinds before ++ t.kind ∷ []) → ⊥
not_onward before x e q t g r c = unspelled (before ++ t ∷ map token c.more) e q (fails_on before x e t (map token c.more) (Unexpected q) g r) (record { tree = c.tree; spelled = along before t c.more ∙ c.spelled })

not_viable : (before : List Token) (x : State) (e : ℕ) (t : Token) (f : TextFault) → Reached before x e → step x t.place t.kind ≡ fault f → Viable (kinds before ++ t.kind ∷ []) → ⊥
not_viable before x e t f g r v =
    let us = before ++ t ∷ map token v.more in
    let k = goes_cond v.tree e us [] (along before t v.more ∙ v.spelled ∙ sym (append-nil _)) v.fits in
    never (sym (whole_stops us k.rest e v.tree k.passes k.kept) ∙ fails_on before x e t (map token v.more) f g r)

by_cause : (before : List Token) (t : Token) (us : List Token) (f : TextFault) → Limits f (kinds before) t.kind → ((q : ℕ) → f ≡ Unexpected q → Unfit (kinds before) (t ∷ us)) → Why before (t ∷ us) f
by_cause before t us TooLong l u = l
by_cause before t us (NoToken p) l u = l
by_cause before t us (TooManyDigits p) l u = l
by_cause before t us (Unexpected p) l u = u p refl
by_cause before t us (EighthBracket p) l u = l
by_cause before t us (NumberTooLarge p) l u = l

why_of : (before rest : List Token) (x : State) (e : ℕ) (f : TextFault) → Reached before x e → Refuser x e rest f → Why before rest f
why_of before [] x e f g r = let is = ended_as x e f r in subst (λ f. Why before [] f) is (not_whole before x e g (r ∙ ap (λ f. fault f) (sym is)))
why_of before (t ∷ us) x e f g r =
    by_cause before t us f (subst (λ l. Limits f l t.kind) g.spelt (at_fault t x f g.fits r).1)
    (λ q is. (not_whole before x e g (unended x t.place e t.kind f r), not_onward before x e q t g (r ∙ ap (λ f. fault f) is)))

-- a fault of the scan stands at the first token that no condition has there
pub refused : (ts : List Token) (e : ℕ) (f : TextFault) → condition_of ts e ≡ fails f → Stuck ts e f
refused ts e f h =
    let x = walk ts start e f (tt, tt, tt) h in
    let g : Reached x.before x.state e = record { fits = x.fits; spelt = x.spelt; onward = x.onward } in
    record {
      before = x.before;
      rest = x.rest;
      split = x.split;
      goes = subst (λ l. Viable l) x.spelt (viable x.state x.fits);
      at = place_of x.rest x.state e f x.fits x.refuser;
      stuck = λ t us is v. not_viable x.before x.state e t f g (subst (λ l. Refuser x.state e l f) is x.refuser) v;
      why = why_of x.before x.rest x.state e f g x.refuser;
    }
