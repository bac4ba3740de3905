-- The faults of all lines, gathered by their number. Assumes nothing.
use Rattle.std.proofs.Common.{◌≡◌, cond, List, [], ◌∷◌, ◌++◌, map, sym, refl, ap, ◌∙◌, ⊎_elim, append_assoc, append-nil}
use mathlib.Core.List.{map-append}
use Rattle.faults.specs.declared.ChartFault.{ChartFault}
use Rattle.lines.specs.declared.shape.Number.{Number}
use Rattle.lines.specs.Grammar.{Tree, step, trans, hold}
use Rattle.chart.specs.Said.{Holding, steps_of, transitions_of, uses_of, lists_of, holdings_of, all}
use Rattle.chart.specs.Checks.{has, same_number, undeclared_step, declarations, undeclared, uses, repetitions, lists, holdings, faults_in, chart_faults}
use Rattle.chart.proofs.Members.{In, in_left, in_right, in_either}

-- ---- each number's faults, of one line and of the lines behind it
steps_more : (before : List Number) (t : Tree) (ns : List Number) → declarations before (steps_of t ++ ns) ≡ declarations before (steps_of t) ++ declarations (steps_of t ++ before) ns
steps_more before (step n b) ns = simp (map-append, append-nil)
steps_more before _ ns = refl

transitions_more : (before : List Number) (t : Tree) (ns : List Number) → declarations before (transitions_of t ++ ns) ≡ declarations before (transitions_of t) ++ declarations (transitions_of t ++ before) ns
transitions_more before (trans n fs ts c us) ns = simp (map-append, append-nil)
transitions_more before _ ns = refl

holdings_more : (before : List Holding) (t : Tree) (hs : List Holding) → holdings before (holdings_of t ++ hs) ≡ holdings before (holdings_of t) ++ holdings (holdings_of t ++ before) hs
holdings_more before (hold n q) hs = simp (map-append, append-nil)
holdings_more before _ hs = refl

undeclared_more : (declared ns ms : List Number) → undeclared declared (ns ++ ms) ≡ undeclared declared ns ++ undeclared declared ms
undeclared_more declared [] ms = refl
undeclared_more declared (n ∷ ns) ms =
    ap (λ l. cond (has same_number n declared) [] (n ∷ []) ++ l) (undeclared_more declared ns ms) ∙ sym (append_assoc (cond (has same_number n declared) [] (n ∷ [])) (undeclared declared ns) (undeclared declared ms))

pub uses_more : (declared ns ms : List Number) → uses declared (ns ++ ms) ≡ uses declared ns ++ uses declared ms
uses_more declared ns ms = ap (map undeclared_step) (undeclared_more declared ns ms) ∙ simp map-append

lists_more : (ns ms : List (List Number)) → lists (ns ++ ms) ≡ lists ns ++ lists ms
lists_more [] ms = refl
lists_more (n ∷ ns) ms = ap (λ l. repetitions n ++ l) (lists_more ns ms) ∙ sym (append_assoc (repetitions n) (lists ns) (lists ms))

-- ---- the same members
abbrev pub SameIn : {A : Type 0} → List A → List A → Type 0
SameIn {A} xs ys = (x : A) → (In x xs → In x ys) × (In x ys → In x xs)

crosses : {A : Type 0} (a b c d : List A) (x : A) → In x ((a ++ b) ++ (c ++ d)) → In x ((a ++ c) ++ (b ++ d))
crosses a b c d x h =
    ⊎_elim
    (λ l. ⊎_elim (λ i. in_left x (a ++ c) (b ++ d) (in_left x a c i)) (λ i. in_right x (a ++ c) (b ++ d) (in_left x b d i)) (in_either x a b l))
    (λ r. ⊎_elim (λ i. in_left x (a ++ c) (b ++ d) (in_right x a c i)) (λ i. in_right x (a ++ c) (b ++ d) (in_right x b d i)) (in_either x c d r))
    (in_either x (a ++ b) (c ++ d) h)

crossed : {A : Type 0} (a b c d : List A) → SameIn ((a ++ b) ++ (c ++ d)) ((a ++ c) ++ (b ++ d))
crossed a b c d x = (crosses a b c d x, crosses a c b d x)

follows : {A : Type 0} (xs ys zs : List A) → SameIn xs ys → SameIn ys zs → SameIn xs zs
follows xs ys zs p q x = (λ i. (q x).0 ((p x).0 i), λ i. (p x).1 ((q x).1 i))

behind : {A : Type 0} (xs ys zs : List A) → SameIn ys zs → SameIn (xs ++ ys) (xs ++ zs)
behind xs ys zs p x = (
  λ i. ⊎_elim (λ l. in_left x xs zs l) (λ r. in_right x xs zs ((p x).0 r)) (in_either x xs ys i),
  λ i. ⊎_elim (λ l. in_left x xs ys l) (λ r. in_right x xs ys ((p x).1 r)) (in_either x xs zs i),
)

-- a part of each of two lists joined in front
joined : {A : Type 0} (a b c d e : List A) → SameIn (b ++ d) e → SameIn ((a ++ b) ++ (c ++ d)) ((a ++ c) ++ e)
joined a b c d e p = follows ((a ++ b) ++ (c ++ d)) ((a ++ c) ++ (b ++ d)) ((a ++ c) ++ e) (crossed a b c d) (behind (a ++ c) (b ++ d) e p)

refl_in : {A : Type 0} (xs : List A) → SameIn xs xs
refl_in xs x = (λ i. i, λ i. i)

-- ---- all faults, by number
abbrev pub gathered : List Number → List Tree → List Tree → List ChartFault
gathered declared before ls =
    declarations (all steps_of before) (all steps_of ls) ++
    (declarations (all transitions_of before) (all transitions_of ls) ++
    (uses declared (all uses_of ls) ++
    (lists (all lists_of ls) ++
    holdings (all holdings_of before) (all holdings_of ls))))

five : {A : Type 0} (a₁ a₂ a₃ a₄ a₅ b₁ b₂ b₃ b₄ b₅ : List A) → SameIn ((a₁ ++ (a₂ ++ (a₃ ++ (a₄ ++ a₅)))) ++ (b₁ ++ (b₂ ++ (b₃ ++ (b₄ ++ b₅))))) ((a₁ ++ b₁) ++ ((a₂ ++ b₂) ++ ((a₃ ++ b₃) ++ ((a₄ ++ b₄) ++ (a₅ ++ b₅)))))
five a₁ a₂ a₃ a₄ a₅ b₁ b₂ b₃ b₄ b₅ =
    joined a₁ (a₂ ++ (a₃ ++ (a₄ ++ a₅))) b₁ (b₂ ++ (b₃ ++ (b₄ ++ b₅))) _
    (joined a₂ (a₃ ++ (a₄ ++ a₅)) b₂ (b₃ ++ (b₄ ++ b₅)) _
    (joined a₃ (a₄ ++ a₅) b₃ (b₄ ++ b₅) _ (joined a₄ a₅ b₄ b₅ _ (refl_in (a₅ ++ b₅)))))

gathered_more : (declared : List Number) (before : List Tree) (t : Tree) (ls : List Tree) → SameIn (faults_in declared before t ++ gathered declared (t ∷ before) ls) (gathered declared before (t ∷ ls))
gathered_more declared before t ls =
    rw (steps_more (all steps_of before) t (all steps_of ls), transitions_more (all transitions_of before) t (all transitions_of ls), uses_more declared (uses_of t) (all uses_of ls), lists_more (lists_of t) (all lists_of ls), holdings_more (all holdings_of before) t (all holdings_of ls))
    (five (declarations (all steps_of before) (steps_of t)) (declarations (all transitions_of before) (transitions_of t)) (uses declared (uses_of t)) (lists (lists_of t)) (holdings (all holdings_of before) (holdings_of t))
    (declarations (all steps_of (t ∷ before)) (all steps_of ls)) (declarations (all transitions_of (t ∷ before)) (all transitions_of ls)) (uses declared (all uses_of ls)) (lists (all lists_of ls)) (holdings (all holdings_of (t ∷ before)) (all holdings_of ls)))

pub all_faults : (declared : List Number) (before ls : List Tree) → SameIn (chart_faults declared before ls) (gathered declared before ls)
all_faults declared before [] = refl_in []
all_faults declared before (t ∷ ls) =
    follows (faults_in declared before t ++ chart_faults declared (t ∷ before) ls) (faults_in declared before t ++ gathered declared (t ∷ before) ls) (gathered declared before (t ∷ ls))
    (behind (faults_in declared before t) (chart_faults declared (t ∷ before) ls) (gathered declared (t ∷ before) ls) (all_faults declared (t ∷ before) ls))
    (gathered_more declared before t ls)
