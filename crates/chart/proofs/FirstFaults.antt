-- The checks obey the law of the first fault. Assumes nothing.
use Rattle.std.proofs.Common.{◌≡◌, ℕ, zero, suc, ◌<◌, Bool, true, false, cond, ◌⊎◌, List, [], ◌∷◌, ◌++◌, map, length, get_or, Some, None, Ok, Err, Option, Result, sym, refl, ap, ◌∙◌, subst, inl, inr, ⊎_elim, le_of_suc-le-suc, not-suc-le-zero, arith}
use Rattle.std.proofs.lemmas.List.{get_or_default}
use Rattle.std.proofs.lemmas.Bool.{both_ways, cases_Bool, false≢true, eqb-true, eq-eqb, and_parts, and_from, or_cases, or_left, or_right}
use Rattle.faults.specs.declared.TextFault.{TextFault}
use Rattle.faults.specs.declared.ChartFault.{ChartFault}
use Rattle.faults.specs.declared.ChartFault.TheVariants.{Text, DeclaredTwice, UndeclaredStep, ListedTwice, HeldTwice, NoInitialStep}
use Rattle.lines.specs.declared.shape.Number.{Number}
use Rattle.lines.specs.Grammar.{Tree, empty, step}
use Rattle.chart.specs.Said.{Holding, steps_of, transitions_of, uses_of, lists_of, holdings_of, is_initial, all}
use Rattle.chart.specs.Checks.{has, repeated, same_number, same_holding, declared_twice, undeclared_step, listed_twice, held_twice, declarations, undeclared, uses, repetitions, lists, holdings, chart_faults, first_of, has_initial, judged, chart_of, checked}
use Rattle.chart.specs.First.{Repeats, NumberTwice, HoldingTwice, InOneList, NotDeclared, FaultOf, InitialStep, First, FirstFault}
use Rattle.chart.proofs.Members.{In, in_left, in_right, in_either, in_map, map_in, in_at, at_in, found, lists_it}
use Rattle.chart.proofs.Least.{Leads, noted_leads}
use Rattle.chart.proofs.Gathered.{gathered, all_faults}

-- ---- entries that say the same
module _ {A : Type 0} (same : A → A → Bool) (Same : A → A → Type 0) (place_of : A → ℕ) (d : A) (from : (x y : A) → Same x y → same x y ≡ true) (to : (x y : A) → same x y ≡ true → Same x y) where
  twice_in : (xs : List A) (place : ℕ) → Repeats Same place_of xs place → (x : A) × (In x (repeated same [] xs)) × (place ≡ place_of x)
  twice_in xs place r =
      let x = get_or xs r.second d in (
        x,
        lists_it same [] xs x r.second r.inside (λ e. get_or_default xs r.second e d r.inside)
            (inr (r.first, r.order, λ e. from x (get_or xs r.first e) (subst (λ z. Same z (get_or xs r.first e)) (get_or_default xs r.second e d r.inside) (r.same e)))),
        r.stands d,
      )

  in_twice : (xs : List A) (x : A) → In x (repeated same [] xs) → Repeats Same place_of xs (place_of x)
  in_twice xs x h =
      let f = found same [] xs x h in
      ⊎_elim
      (λ none. absurd (false≢true none))
      (λ i. record {
        first = i.0;
        second = f.index;
        order = i.1;
        inside = f.inside;
        same = λ e. subst (λ z. Same z (get_or xs i.0 e)) (sym (f.is e)) (to x (get_or xs i.0 e) (i.2 e));
        stands = λ e. ap place_of (sym (f.is e));
      })
      f.earlier

some_number : Number
some_number = record { value = 0; place = 0 }

some_holding : Holding
some_holding = record { step = 0; output = 0; place = 0 }

number_in : (ns : List Number) (place : ℕ) → NumberTwice ns place → (n : Number) × (In n (repeated same_number [] ns)) × (place ≡ n.place)
number_in = twice_in same_number (λ m n. m.value ≡ n.value) (λ n. n.place) some_number (λ m n e. eq-eqb m.value n.value e) (λ m n e. eqb-true m.value n.value e)

in_number : (ns : List Number) (n : Number) → In n (repeated same_number [] ns) → NumberTwice ns n.place
in_number = in_twice same_number (λ m n. m.value ≡ n.value) (λ n. n.place) some_number (λ m n e. eq-eqb m.value n.value e) (λ m n e. eqb-true m.value n.value e)

same_from : (g h : Holding) → (g.step ≡ h.step) × (g.output ≡ h.output) → same_holding g h ≡ true
same_from g h e = and_from _ _ (eq-eqb g.step h.step e.0) (eq-eqb g.output h.output e.1)

same_to : (g h : Holding) → same_holding g h ≡ true → (g.step ≡ h.step) × (g.output ≡ h.output)
same_to g h e = let p = and_parts _ _ e in (eqb-true g.step h.step p.0, eqb-true g.output h.output p.1)

holding_in : (hs : List Holding) (place : ℕ) → HoldingTwice hs place → (h : Holding) × (In h (repeated same_holding [] hs)) × (place ≡ h.place)
holding_in = twice_in same_holding (λ g h. (g.step ≡ h.step) × (g.output ≡ h.output)) (λ h. h.place) some_holding same_from same_to

in_holding : (hs : List Holding) (h : Holding) → In h (repeated same_holding [] hs) → HoldingTwice hs h.place
in_holding = in_twice same_holding (λ g h. (g.step ≡ h.step) × (g.output ≡ h.output)) (λ h. h.place) some_holding same_from same_to

-- ---- a fault of a kind with its place
placed : {A : Type 0} (kind : ℕ → ChartFault) (place_of : A → ℕ) (xs : List A) (x : A) (place : ℕ) → In x xs → place ≡ place_of x → In (kind place) (map (λ y. kind (place_of y)) xs)
placed kind place_of xs x place i e = subst (λ p. In (kind p) (map (λ y. kind (place_of y)) xs)) (sym e) (in_map (λ y. kind (place_of y)) x xs i)

-- ---- steps that are not declared
has_at : (n : Number) (ns : List Number) (i : ℕ) (d : Number) → i < length ns → (get_or ns i d).value ≡ n.value → has same_number n ns ≡ true
has_at n [] i d h e = absurd (not-suc-le-zero h)
has_at n (m ∷ ms) zero d h e = or_left (same_number n m) (has same_number n ms) (eq-eqb n.value m.value (sym e))
has_at n (m ∷ ms) (suc i) d h e = or_right (same_number n m) (has same_number n ms) (has_at n ms i d (le_of_suc-le-suc h) e)

at_has : (n : Number) (ns : List Number) → has same_number n ns ≡ true → (i : ℕ) × (i < length ns) × ((d : Number) → (get_or ns i d).value ≡ n.value)
at_has n [] h = absurd (false≢true h)
at_has n (m ∷ ms) h =
    ⊎_elim
    (λ e. (0, omega arith, λ d. sym (eqb-true n.value m.value e)))
    (λ t. let r = at_has n ms t in (suc r.0, omega (arith, r.1), r.2))
    (or_cases (same_number n m) (has same_number n ms) h)

one_missing : (b : Bool) (n m : Number) → In n (cond b [] (m ∷ [])) → (b ≡ false) × (n ≡ m)
one_missing true n m h = absurd h
one_missing false n m h = ⊎_elim (λ e. (refl, e)) (λ t. absurd t) h

missing_one : (b : Bool) (m : Number) → b ≡ false → In m (cond b [] (m ∷ []))
missing_one true m e = absurd (false≢true (sym e))
missing_one false m e = inl refl

in_undeclared : (declared ns : List Number) (n : Number) → In n (undeclared declared ns) → (In n ns) × (has same_number n declared ≡ false)
in_undeclared declared [] n h = absurd h
in_undeclared declared (m ∷ ms) n h =
    ⊎_elim
    (λ here. let o = one_missing (has same_number m declared) n m here in (inl o.1, ap (λ z. has same_number z declared) o.1 ∙ o.0))
    (λ there. let r = in_undeclared declared ms n there in (inr r.0, r.1))
    (in_either n (cond (has same_number m declared) [] (m ∷ [])) (undeclared declared ms) h)

undeclared_in : (declared ns : List Number) (n : Number) → In n ns → has same_number n declared ≡ false → In n (undeclared declared ns)
undeclared_in declared [] n h e = absurd h
undeclared_in declared (m ∷ ms) n h e =
    ⊎_elim
    (λ q. in_left n (cond (has same_number m declared) [] (m ∷ [])) (undeclared declared ms)
    (subst (λ z. In z (cond (has same_number m declared) [] (m ∷ []))) (sym q) (missing_one (has same_number m declared) m (ap (λ z. has same_number z declared) (sym q) ∙ e))))
    (λ t. in_right n (cond (has same_number m declared) [] (m ∷ [])) (undeclared declared ms) (undeclared_in declared ms n t e))
    h

use_in : (declared named : List Number) (place : ℕ) → NotDeclared declared named place → In (UndeclaredStep place) (uses declared named)
use_in declared named place u =
    let n = get_or named u.index some_number in
    let out : has same_number n declared ≡ false =
    ⊎_elim (λ t. let i = at_has n declared t in absurd (u.none i.0 some_number i.1 (i.2 some_number))) (λ f. f) (cases_Bool (has same_number n declared)) in
    placed (λ p. UndeclaredStep p) (λ m. m.place) (undeclared declared named) n place (undeclared_in declared named n (at_in named u.index some_number u.inside) out) (u.stands some_number)

in_use : (declared named : List Number) (n : Number) → In n (undeclared declared named) → NotDeclared declared named n.place
in_use declared named n h =
    let p = in_undeclared declared named n h in
    let i = in_at n named p.0 in
    record {
      index = i.0;
      inside = i.1;
      stands = λ d. ap (λ m. m.place) (sym (i.2 d));
      none = λ j d lt e. both_ways (has same_number n declared) p.1 (has_at n declared j d lt (e ∙ ap (λ m. m.value) (i.2 d)));
    }

-- ---- lists
list_in_lem : (nss : List (List Number)) (place : ℕ) (k : ℕ) → k < length nss → NumberTwice (get_or nss k []) place → In (ListedTwice place) (lists nss)
list_in_lem [] place k h t = absurd (not-suc-le-zero h)
list_in_lem (ns ∷ nss) place zero h t =
    let r = number_in ns place t in
    in_left (ListedTwice place) (repetitions ns) (lists nss) (placed (λ p. ListedTwice p) (λ m. m.place) (repeated same_number [] ns) r.0 place r.1 r.2)
list_in_lem (ns ∷ nss) place (suc k) h t = in_right (ListedTwice place) (repetitions ns) (lists nss) (list_in_lem nss place k (le_of_suc-le-suc h) t)

in_list : (nss : List (List Number)) (f : ChartFault) → In f (lists nss) → (place : ℕ) × (InOneList nss place) × (f ≡ ListedTwice place)
in_list [] f h = absurd h
in_list (ns ∷ nss) f h =
    ⊎_elim
    (λ here. let r = map_in listed_twice f (repeated same_number [] ns) here in (r.0.place, record { index = 0; inside = omega arith; twice = in_number ns r.0 r.1 }, r.2))
    (λ there. let r = in_list nss f there in (r.0, record { index = suc r.1.index; inside = omega (arith, r.1.inside); twice = r.1.twice }, r.2))
    (in_either f (repetitions ns) (lists nss) h)

-- ---- the faults of a text are those that the checks find
pub fault_in : (ls : List Tree) (f : ChartFault) → FaultOf ls f → In f (gathered (all steps_of ls) [] ls)
fault_in ls (Text e) h = absurd h
fault_in ls (DeclaredTwice place) h =
    ⊎_elim
    (λ s. let r = number_in (all steps_of ls) place s in in_left _ (declarations [] (all steps_of ls)) _ (placed (λ p. DeclaredTwice p) (λ m. m.place) (repeated same_number [] (all steps_of ls)) r.0 place r.1 r.2))
    (λ t. let r = number_in (all transitions_of ls) place t in in_right _ (declarations [] (all steps_of ls)) _ (in_left _ (declarations [] (all transitions_of ls)) _ (placed (λ p. DeclaredTwice p) (λ m. m.place) (repeated same_number [] (all transitions_of ls)) r.0 place r.1 r.2)))
    h
fault_in ls (UndeclaredStep place) h =
    in_right _ (declarations [] (all steps_of ls)) _ (in_right _ (declarations [] (all transitions_of ls)) _ (in_left _ (uses (all steps_of ls) (all uses_of ls)) _ (use_in (all steps_of ls) (all uses_of ls) place h)))
fault_in ls (ListedTwice place) h =
    in_right _ (declarations [] (all steps_of ls)) _ (in_right _ (declarations [] (all transitions_of ls)) _ (in_right _ (uses (all steps_of ls) (all uses_of ls)) _
    (in_left _ (lists (all lists_of ls)) _ (list_in_lem (all lists_of ls) place h.index h.inside h.twice))))
fault_in ls (HeldTwice place) h =
    let r = holding_in (all holdings_of ls) place h in
    in_right _ (declarations [] (all steps_of ls)) _ (in_right _ (declarations [] (all transitions_of ls)) _ (in_right _ (uses (all steps_of ls) (all uses_of ls)) _
    (in_right _ (lists (all lists_of ls)) _ (placed (λ p. HeldTwice p) (λ m. m.place) (repeated same_holding [] (all holdings_of ls)) r.0 place r.1 r.2))))
fault_in ls (NoInitialStep place) h = absurd h

fault_as : (ls : List Tree) (f g : ChartFault) → f ≡ g → FaultOf ls g → FaultOf ls f
fault_as ls f g e h = subst (FaultOf ls) (sym e) h

pub in_fault : (ls : List Tree) (f : ChartFault) → In f (gathered (all steps_of ls) [] ls) → FaultOf ls f
in_fault ls f h =
    let D = declarations [] (all steps_of ls) in
    let T = declarations [] (all transitions_of ls) in
    let U = uses (all steps_of ls) (all uses_of ls) in
    let L = lists (all lists_of ls) in
    let H = holdings [] (all holdings_of ls) in
    ⊎_elim
    (λ i. let r = map_in declared_twice f (repeated same_number [] (all steps_of ls)) i in fault_as ls f (DeclaredTwice r.0.place) r.2 (inl (in_number (all steps_of ls) r.0 r.1)))
    (λ i. ⊎_elim
    (λ i. let r = map_in declared_twice f (repeated same_number [] (all transitions_of ls)) i in fault_as ls f (DeclaredTwice r.0.place) r.2 (inr (in_number (all transitions_of ls) r.0 r.1)))
    (λ i. ⊎_elim
    (λ i. let r = map_in undeclared_step f (undeclared (all steps_of ls) (all uses_of ls)) i in fault_as ls f (UndeclaredStep r.0.place) r.2 (in_use (all steps_of ls) (all uses_of ls) r.0 r.1))
    (λ i. ⊎_elim
    (λ i. let r = in_list (all lists_of ls) f i in fault_as ls f (ListedTwice r.0) r.2 r.1)
    (λ i. let r = map_in held_twice f (repeated same_holding [] (all holdings_of ls)) i in fault_as ls f (HeldTwice r.0.place) r.2 (in_holding (all holdings_of ls) r.0 r.1))
    (in_either f L H i))
    (in_either f U (L ++ H) i))
    (in_either f T (U ++ (L ++ H)) i))
    (in_either f D (T ++ (U ++ (L ++ H))) h)

-- ---- initial steps
initial_in : (ls : List Tree) (i : ℕ) (n : Number) (d : Tree) → i < length ls → get_or ls i d ≡ step n true → has_initial ls ≡ true
initial_in [] i n d h e = absurd (not-suc-le-zero h)
initial_in (t ∷ ts) zero n d h e = or_left (is_initial t) (has_initial ts) (ap is_initial e)
initial_in (t ∷ ts) (suc i) n d h e = or_right (is_initial t) (has_initial ts) (initial_in ts i n d (le_of_suc-le-suc h) e)

initial_line : (t : Tree) → is_initial t ≡ true → (n : Number) × (t ≡ step n true)
initial_line (step n b) h = (n, ap (λ c. step n c) h)
initial_line _ h = absurd (false≢true h)

in_initial : (ls : List Tree) → has_initial ls ≡ true → InitialStep ls
in_initial [] h = absurd (false≢true h)
in_initial (t ∷ ts) h =
    ⊎_elim
    (λ e. let r = initial_line t e in record { index = 0; number = r.0; inside = omega arith; is = λ d. r.1 })
    (λ l. let r = in_initial ts l in record { index = suc r.index; number = r.number; inside = omega (arith, r.inside); is = r.is })
    (or_cases (is_initial t) (has_initial ts) h)

-- ---- the law
leads_law : (ls : List Tree) (o : Option ChartFault) → Leads (FaultOf ls) o → (b : Bool) → has_initial ls ≡ b → (e : ℕ) → First ls e (judged o b e)
leads_law ls (Some f) h b i e = inl h
leads_law ls None h true i e = (h, in_initial ls i)
leads_law ls None h false i e = inr (h, λ s. both_ways (has_initial ls) i (initial_in ls s.index s.number empty s.inside (s.is empty)), refl)

alike : (F G : ChartFault → Type 0) → ((g : ChartFault) → F g → G g) → ((g : ChartFault) → G g → F g) → (o : Option ChartFault) → Leads F o → Leads G o
alike F G to from None h = λ g q. h g (from g q)
alike F G to from (Some f) h = (to f h.0, λ g q. h.1 g (from g q))

pub chart_law : (ls : List Tree) (e : ℕ) → First ls e (chart_of ls e)
chart_law ls e =
    let fs = chart_faults (all steps_of ls) [] ls in
    let same = all_faults (all steps_of ls) [] ls in
    leads_law ls (first_of fs)
    (alike (λ f. ⊥ ⊎ In f fs) (FaultOf ls)
    (λ g h. in_fault ls g (⊎_elim (λ n. absurd n) (λ i. (same g).0 i) h))
    (λ g h. inr ((same g).1 (fault_in ls g h)))
    (first_of fs) (noted_leads None fs))
    (has_initial ls) refl e

pub checked_law : (r : Result (List Tree) TextFault) (e : ℕ) → FirstFault r e (checked r e)
checked_law (Ok ls) e = chart_law ls e
checked_law (Err f) e = refl
