-- Noting faults one after another. Assumes nothing.
use Rattle.std.proofs.Common.{◌≡◌, ℕ, ◌+◌, ◌<◌, Bool, true, false, cond, if◌then◌else◌, ◌||◌, eqb, not, List, [], ◌∷◌, ◌++◌, map, length, get_or, drop, append-nil, sym, refl, ap, ◌∙◌}
use mathlib.Core.List.{map-append}
use Rattle.std.specs.List.{flat_map}
use Rattle.std.proofs.lemmas.List.Elements.{filter-append}
use Rattle.std.proofs.lemmas.List.{drop_more}
use Rattle.faults.specs.declared.ChartFault.{ChartFault}
use Rattle.faults.specs.declared.ChartFault.TheVariants.{DeclaredTwice, HeldTwice}
use Rattle.text.specs.declared.token.Token.{Token}
use Rattle.lines.specs.declared.shape.Number.{Number}
use Rattle.lines.specs.Scan.{refs}
use Rattle.lines.specs.Scan as lines
use Rattle.lines.specs.Parts.{counted, numbers_in}
use Rattle.chart.specs.declared.set.NumberSet.{NumberSet}
use Rattle.chart.specs.declared.findings.Findings.{Findings}
use Rattle.chart.specs.Said.{Holding, holding}
use Rattle.chart.specs.Checks.{noted, has, repeated, same_number, same_holding, undeclared_step, declared_twice, listed_twice, held_twice, declarations, undeclared, uses, listings, repetitions, holdings}
use Rattle.chart.specs.Sets.{holds, Knows, unknown}
use Rattle.chart.specs.Findings.{noting, uses_by}
use Rattle.chart.proofs.Least.{noted_append}

-- ---- steps that are not declared
uses_append : (set : NumberSet) (ns ms : List Number) → uses_by set (ns ++ ms) ≡ uses_by set ns ++ uses_by set ms
uses_append set ns ms = ap (map undeclared_step) (filter-append (λ n. not (holds set n.value)) ns ms) ∙ map-append undeclared_step (unknown set ns) (unknown set ms)

unknown_known : (set : NumberSet) (ns : List Number) → Knows set ns → (ms : List Number) → unknown set ms ≡ undeclared ns ms
unknown_known set ns knows [] = refl
unknown_known set ns knows (m ∷ ms) = rw (knows m, unknown_known set ns knows ms) (kept (has same_number m ns) m (undeclared ns ms))
  where
    kept : (b : Bool) (m : Number) (rest : List Number) → cond (not b) (m ∷ rest) rest ≡ cond b [] (m ∷ []) ++ rest
    kept true m rest = refl
    kept false m rest = refl

pub uses_known : (set : NumberSet) (ns : List Number) → Knows set ns → (ms : List Number) → uses_by set ms ≡ uses ns ms
uses_known set ns knows ms = ap (map undeclared_step) (unknown_known set ns knows ms)

-- the numbers that tokens name, one token after another
pub numbers_flat : (ts : List Token) → flat_map (λ t. counted t.place t.kind) ts ≡ numbers_in ts
numbers_flat [] = refl
numbers_flat (t ∷ ts) = ap (λ l. counted t.place t.kind ++ l) (numbers_flat ts)

pub refs_flat : (ts : List Token) → flat_map (λ t. lines.noted t.place t.kind) ts ≡ refs ts
refs_flat [] = refl
refs_flat (t ∷ ts) = ap (λ l. lines.noted t.place t.kind ++ l) (refs_flat ts)

-- ---- repeated entries
pub numbers_next : (ts : List Token) (i : ℕ) (d : Token) (ns : List Number) → i < length ts → counted (get_or ts i d).place (get_or ts i d).kind ≡ ns → numbers_in (drop i ts) ≡ ns ++ numbers_in (drop (i + 1) ts)
numbers_next ts i d ns lt h = ap numbers_in (drop_more ts i d lt) ∙ ap (λ l. l ++ numbers_in (drop (i + 1) ts)) h

-- one number of a list more
pub listed_next : (before : List Number) (n : Number) (f f' whole : Findings) (ns rest : List Number) → ns ≡ n ∷ rest → f' ≡ noting f (listings before (n ∷ [])) → noting f (listings before ns) ≡ whole → noting f' (listings (n ∷ before) rest) ≡ whole
listed_next before n f f' whole ns rest e it h =
    rw it (sym (one_more (has same_number n before) (repeated same_number (n ∷ before) rest)) ∙ (ap (λ l. noting f (listings before l)) (sym e) ∙ h))
  where
    one_more : (b : Bool) (ns : List Number) → noting f (map listed_twice (cond b (n ∷ []) [] ++ ns)) ≡ noting (noting f (map listed_twice (cond b (n ∷ []) [] ++ []))) (map listed_twice ns)
    one_more true ns = refl
    one_more false ns = refl

-- ---- a line's faults, by the set of the steps that are declared
one_fault : {A : Type 0} (kind : A → ChartFault) (x : A) (b : Bool) → (if b then kind x ∷ [] else []) ≡ map kind (cond b (x ∷ []) [] ++ [])
one_fault kind x true = refl
one_fault kind x false = refl

pub knows_more : (old new : NumberSet) (n : Number) (ns : List Number) → ((m : ℕ) → holds new m ≡ (eqb m n.value || holds old m)) → Knows old ns → Knows new (n ∷ ns)
knows_more old new n ns added knows = λ m. added m.value ∙ ap (λ b. eqb m.value n.value || b) (knows m)

pub holding_noted : (before : List Holding) (n q : Number) (b : Bool) (f f₁ f₂ : Findings) → b ≡ has same_holding (holding n q) before → f₁ ≡ noting f (uses_by f.declared.now (n ∷ [])) → f₂ ≡ noting f₁ (if b then HeldTwice q.place ∷ [] else []) → f₂ ≡ noting f (uses_by f.declared.now (n ∷ []) ++ holdings before (holding n q ∷ []))
holding_noted before n q b f f₁ f₂ held e₁ e₂ =
    let H = holdings before (holding n q ∷ []) in
    let last : f₂ ≡ noting f₁ H = e₂ ∙ ap (noting f₁) (ap (λ x. if x then HeldTwice q.place ∷ [] else []) held ∙ one_fault held_twice (holding n q) (has same_holding (holding n q) before)) in
    rw (last, e₁) (ap (λ k. record f { first = k }) (sym (noted_append f.first (uses_by f.declared.now (n ∷ [])) H)))

pub transition_noted : (before : List Number) (n : Number) (b : Bool) (fs ts us : List Number) (f f₁ f₂ f₃ f₄ f₅ f₆ : Findings) → b ≡ has same_number n before → f₁ ≡ noting f (if b then DeclaredTwice n.place ∷ [] else []) → f₂ ≡ noting f₁ (uses_by f₁.declared.now fs) → f₃ ≡ noting f₂ (uses_by f₂.declared.now ts) → f₄ ≡ noting f₃ (uses_by f₃.declared.now us) → f₅ ≡ noting f₄ (repetitions fs) → f₆ ≡ noting f₅ (repetitions ts) → f₆ ≡ noting f (declarations before (n ∷ []) ++ (uses_by f.declared.now (fs ++ (ts ++ us)) ++ ((repetitions fs ++ (repetitions ts ++ [])) ++ [])))
transition_noted before n b fs ts us f f₁ f₂ f₃ f₄ f₅ f₆ declared e₁ e₂ e₃ e₄ e₅ e₆ =
    let set = f.declared.now in
    let D = declarations before (n ∷ []) in
    let R = (repetitions fs ++ (repetitions ts ++ [])) ++ [] in
    let first : f₁ ≡ noting f D = e₁ ∙ ap (noting f) (ap (λ x. if x then DeclaredTwice n.place ∷ [] else []) declared ∙ one_fault declared_twice n (has same_number n before)) in
    let uses : uses_by set (fs ++ (ts ++ us)) ≡ uses_by set fs ++ (uses_by set ts ++ uses_by set us) = uses_append set fs (ts ++ us) ∙ ap (λ l. uses_by set fs ++ l) (uses_append set ts us) in
    let all : noted f.first (D ++ ((uses_by set fs ++ (uses_by set ts ++ uses_by set us)) ++ R)) ≡ noted (noted (noted (noted (noted (noted f.first D) (uses_by set fs)) (uses_by set ts)) (uses_by set us)) (repetitions fs)) (repetitions ts) = simp (noted_append, append-nil) in
    rw (e₆, e₅, e₄, e₃, e₂, first) (ap (λ k. record f { first = k }) (sym (ap (λ l. noted f.first (D ++ (l ++ R))) uses ∙ all)))
