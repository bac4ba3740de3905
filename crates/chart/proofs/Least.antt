-- The first of some faults is one of them, and no later than any. Assumes nothing.
use Rattle.std.proofs.Common.{◌≡◌, true, false, ◌⊎◌, List, [], ◌∷◌, ◌++◌, Some, None, Option, sym, refl, ◌∙◌, subst, inl, inr, ⊎_elim, arith}
use Rattle.std.proofs.lemmas.Bool.{cases_Bool, cond-true, cond-false}
use Rattle.std.proofs.lemmas.Bool.Decides.{nat_tests}
use Rattle.faults.specs.declared.ChartFault.{ChartFault}
use Rattle.chart.specs.Checks.{precedes, keep, noted}
use Rattle.chart.specs.First.{NoLater}
use Rattle.chart.proofs.Members.{In}

-- what is kept of faults in two parts
pub noted_append : (kept : Option ChartFault) (fs gs : List ChartFault) → noted kept (fs ++ gs) ≡ noted (noted kept fs) gs
noted_append kept [] gs = refl
noted_append kept (f ∷ fs) gs = noted_append (keep kept f) fs gs

-- ---- the order of faults
pub itself : (f : ChartFault) → NoLater f f
itself f = inr (refl, omega arith)

pub through : (f g h : ChartFault) → NoLater f g → NoLater g h → NoLater f h
through f g h p q =
    ⊎_elim
    (λ a. ⊎_elim (λ b. inl (omega arith)) (λ b. inl (omega (arith, b.0))) q)
    (λ a. ⊎_elim (λ b. inl (omega (arith, a.0))) (λ b. inr (a.0 ∙ b.0, omega (arith, a.1, b.1))) q)
    p

before : (f g : ChartFault) → precedes f g ≡ true → NoLater f g
before f g e = grind (arith, nat_tests)

not_before : (f g : ChartFault) → precedes f g ≡ false → NoLater g f
not_before f g e = grind (arith, nat_tests)

-- the fault that is kept
abbrev pub Kept : Option ChartFault → ChartFault → Type 0
Kept None f = ⊥
Kept (Some g) f = f ≡ g

-- the answer is the first of such faults, if there are any
abbrev pub Leads : (ChartFault → Type 0) → Option ChartFault → Type 0
Leads Fault None = (g : ChartFault) → Fault g → ⊥
Leads Fault (Some f) = Fault f × ((g : ChartFault) → Fault g → NoLater f g)

-- fewer faults have the same first one, if each other is no earlier than one of them
leads_more : (F G : ChartFault → Type 0) → ((g : ChartFault) → F g → G g) → ((g : ChartFault) → G g → (f : ChartFault) × (F f) × (NoLater f g)) → (r : Option ChartFault) → Leads F r → Leads G r
leads_more F G to from None h = λ g q. let f = from g q in h f.0 f.1
leads_more F G to from (Some f) h = (to f h.0, λ g q. let e = from g q in through f e.0 g (h.1 e.0 e.1) e.2)

abbrev Among : Option ChartFault → List ChartFault → ChartFault → Type 0
Among kept fs f = Kept kept f ⊎ In f fs

kept_one : (kept : Option ChartFault) (f g : ChartFault) → Kept (keep kept f) g → Kept kept g ⊎ (g ≡ f)
kept_one None f g e = inr e
kept_one (Some h) f g e = ⊎_elim (λ b. inr (e ∙ cond-true (precedes f h) f h b)) (λ b. inl (e ∙ cond-false (precedes f h) f h b)) (cases_Bool (precedes f h))

kept_new : (kept : Option ChartFault) (f : ChartFault) → (g : ChartFault) × (Kept (keep kept f) g) × (NoLater g f)
kept_new None f = (f, refl, itself f)
kept_new (Some h) f =
    ⊎_elim
    (λ b. (f, sym (cond-true (precedes f h) f h b), itself f))
    (λ b. (h, sym (cond-false (precedes f h) f h b), not_before f h b))
    (cases_Bool (precedes f h))

kept_old : (kept : Option ChartFault) (f k : ChartFault) → Kept kept k → (g : ChartFault) × (Kept (keep kept f) g) × (NoLater g k)
kept_old None f k e = absurd e
kept_old (Some h) f k e =
    ⊎_elim
    (λ b. (f, sym (cond-true (precedes f h) f h b), subst (λ z. NoLater f z) (sym e) (before f h b)))
    (λ b. (h, sym (cond-false (precedes f h) f h b), subst (λ z. NoLater h z) (sym e) (itself h)))
    (cases_Bool (precedes f h))

pub noted_leads : (kept : Option ChartFault) (fs : List ChartFault) → Leads (Among kept fs) (noted kept fs)
noted_leads None [] = λ g h. ⊎_elim (λ n. n) (λ n. n) h
noted_leads (Some f) [] = (inl refl, λ g h. ⊎_elim (λ e. subst (λ z. NoLater f z) (sym e) (itself f)) (λ n. absurd n) h)
noted_leads kept (f ∷ fs) =
    leads_more (Among (keep kept f) fs) (Among kept (f ∷ fs))
    (λ g. ⊎_elim (λ k. ⊎_elim (λ o. inl o) (λ e. inr (inl e)) (kept_one kept f g k)) (λ i. inr (inr i)))
    (λ g. ⊎_elim
    (λ k. let r = kept_old kept f g k in (r.0, inl r.1, r.2))
    (λ i. ⊎_elim
    (λ e. let r = kept_new kept f in (r.0, inl r.1, subst (λ z. NoLater r.0 z) (sym e) r.2))
    (λ t. (g, inr t, itself g))
    i))
    (noted (keep kept f) fs) (noted_leads (keep kept f) fs)
