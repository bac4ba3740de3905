-- Along the spelling of any line, within the limits or not, the scan meets no fault but a limit. Assumes nothing.
use Rattle.std.proofs.Common.{◌≡◌, ℕ, ◌≤◌, Bool, true, false, cond, leb, ◌⊎◌, List, [], ◌∷◌, ◌++◌, map, sym, refl, ap, ◌∙◌, subst, inl, inr, ⊎_elim, append_assoc, append-nil, arith}
use Rattle.std.proofs.lemmas.Bool.Decides.{nat_tests}
use Rattle.text.specs.declared.token.Word.{Word}
use Rattle.text.specs.declared.token.Word.TheVariants.{Step, Initial, Trans, From, To, When, Hold, Enter, Set, Reset}
use Rattle.faults.specs.declared.TextFault.{TextFault}
use Rattle.faults.specs.declared.TextFault.TheVariants.{Unexpected, NumberTooLarge}
use Rattle.text.specs.declared.token.Token.{Token}
use Rattle.text.specs.declared.token.TokenKind.TheVariants.{Keyword, Comma}
use Rattle.conditions.specs.Read.{kinds}
use Rattle.conditions.specs.Scan as condition
use Rattle.conditions.specs.Tree.{Cond}
use Rattle.conditions.specs.Tree.{spell as spell_cond}
use Rattle.conditions.proofs.Complete.{Limit, too_large, others, last, wide_cond}
use Rattle.lines.specs.declared.shape.Number.{Number}
use Rattle.lines.specs.declared.shape.Action.{Action}
use Rattle.lines.specs.declared.shape.Action.TheVariants as action
use Rattle.lines.specs.Grammar as line
use Rattle.lines.specs.Grammar.{Tree, Numbers, one, more, Mark, kind, exactly, digits, spell_numbers, prefix, spell, Matches}
use Rattle.lines.specs.Scan as automaton
use Rattle.lines.specs.Scan.{State, scan, step, goes, fault, reads, fails, number, output, word, listed, initial, verb, guard, end, stepping, entering, transing, holding, start, refs}
use Rattle.lines.proofs.Reading.{on, guard_reads, guard_fails}
use Rattle.lines.proofs.Whole.{Gone, go_kind, go_number, go_output, go_word, none_left, arrived, self, cut, kinds_of}

pub record Limited (x : State) (e : ℕ) (toks : List Token) : Type 0 where
  pub f : TextFault
  pub limit : Limit f
  pub is : scan toks x e ≡ fails f

abbrev Wide : State → State → ℕ → List Token → List Token → List Mark → Type 0
Wide x y e u rest ms = Gone x y e u rest ms ⊎ Limited x e (u ++ rest)

then : (x y z : State) (e : ℕ) (u rest : List Token) (ms ns : List Mark) → Wide x y e u rest ms → ((v : List Token) → Matches v ms → Wide y z e v rest ns) → Wide x z e u rest ns
then x y z e u rest ms ns w next =
    ⊎_elim
    (λ g. ⊎_elim (λ n. inl (record { left = n.left; matches = n.matches; passes = g.passes ∙ n.passes })) (λ o. inr (record { f = o.f; limit = o.limit; is = g.passes ∙ o.is })) (next g.left g.matches))
    (λ o. inr o)
    w

split : {A : Type 0} (q : Bool) → (q ≡ true → A) → (q ≡ false → A) → A
split true f g = f refl
split false f g = g refl

small : (n : ℕ) → leb n 63 ≡ true → n ≤ 63
small n e = grind (arith, nat_tests)

large : (s : Token) (x : State) (e : ℕ) (u rest : List Token) (ms : List Mark) → Matches u (exactly s ∷ ms) → step x s.place s.kind ≡ fault (NumberTooLarge s.place) → Limited x e (u ++ rest)
large s x e [] rest ms h st = absurd h
large s x e (t ∷ u) rest ms h st = record { f = NumberTooLarge s.place; limit = too_large s.place; is = on x e t (u ++ rest) (fault (NumberTooLarge s.place)) (ap (λ t. step x t.place t.kind) h.0 ∙ st) }

over : (n : Number) (k : Number → State) → leb n.value 63 ≡ false → automaton.small n.place n.value k ≡ fault (NumberTooLarge n.place)
over n k q = ap (λ q. cond q (goes (k n)) (fault (NumberTooLarge n.place))) q

any_number : (n : Number) (k : Number → State) (e : ℕ) (u rest : List Token) (ms : List Mark) → Matches u (exactly (digits n) ∷ ms) → Wide (number k) (k n) e u rest ms
any_number n k e u rest ms h = split (leb n.value 63) (λ q. inl (go_number n k e u rest ms (small n.value q) h)) (λ q. inr (large (digits n) (number k) e u rest ms h (over n k q)))

any_output : (n : Number) (k : Number → State) (e : ℕ) (u rest : List Token) (ms : List Mark) → Matches u (exactly (line.output n) ∷ ms) → Wide (output k) (k n) e u rest ms
any_output n k e u rest ms h = split (leb n.value 63) (λ q. inl (go_output n k e u rest ms (small n.value q) h)) (λ q. inr (large (line.output n) (output k) e u rest ms h (over n k q)))

any_list : (ns : Numbers) (w : Word) (k : Numbers → State) (e : ℕ) (u rest : List Token) (ms : List Mark) → Matches u (spell_numbers ns ++ ms) → Wide (number (λ n. listed (one n) w k)) (listed ns w k) e u rest ms
any_list (one n) w k e u rest ms h = any_number n (λ n. listed (one n) w k) e u rest ms h
any_list (more ns n) w k e u rest ms h =
    then (number (λ n. listed (one n) w k)) (listed ns w k) (listed (more ns n) w k) e u rest (kind Comma ∷ exactly (digits n) ∷ ms) ms
    (any_list ns w k e u rest (kind Comma ∷ exactly (digits n) ∷ ms) (subst (λ l. Matches u l) (append_assoc (spell_numbers ns) (kind Comma ∷ exactly (digits n) ∷ []) ms) h))
    (λ v m. then (listed ns w k) (number (λ n. listed (more ns n) w k)) (listed (more ns n) w k) e v rest (exactly (digits n) ∷ ms) ms
    (inl (go_kind Comma (listed ns w k) (number (λ n. listed (more ns n) w k)) e v rest (exactly (digits n) ∷ ms) m (λ at. refl)))
    (λ z q. any_number n (λ n. listed (more ns n) w k) e z rest ms q))

any_list_word : (ns : Numbers) (w : Word) (k : Numbers → State) (e : ℕ) (u rest : List Token) (ms : List Mark) → Matches u ((spell_numbers ns ++ kind (Keyword w) ∷ []) ++ ms) → Wide (number (λ n. listed (one n) w k)) (k ns) e u rest ms
any_list_word ns w k e u rest ms h =
    then (number (λ n. listed (one n) w k)) (listed ns w k) (k ns) e u rest (kind (Keyword w) ∷ ms) ms
    (any_list ns w k e u rest (kind (Keyword w) ∷ ms) (subst (λ l. Matches u l) (append_assoc (spell_numbers ns) (kind (Keyword w) ∷ []) ms) h))
    (λ v m. inl (go_kind (Keyword w) (listed ns w k) (k ns) e v rest ms m (λ at. ap (λ q. cond q (goes (k ns)) (fault (Unexpected at))) (self w))))

-- the scan reads some line, or meets a limit
abbrev pub Outcome : State → ℕ → List Token → Type 0
Outcome x e toks = ((l : Tree) × (scan toks x e ≡ reads l [])) ⊎ Limited x e toks

closing : (x y : State) (l : Tree) (e : ℕ) (u : List Token) → scan [] y e ≡ reads l [] → Wide x y e u [] [] → Outcome x e (u ++ [])
closing x y l e u s w = ⊎_elim (λ g. inl (l, arrived g ∙ s)) (λ o. inr o) w

no_kinds : (ts : List Token) → kinds ts ≡ [] → ts ≡ []
no_kinds [] h = refl
no_kinds (t ∷ ts) h = let z : ◌≡◌ {A = ℕ} 0 1 = cc in absurd (omega arith)

condition_outcome : (n : Number) (fs ts : Numbers) (c : Cond) (e : ℕ) (u : List Token) → Matches u (map kind (spell_cond c)) → Outcome (guard n fs ts [] condition.start) e u
condition_outcome n fs ts c e u m =
    ⊎_elim
    (λ g.
    let s : condition.scan u condition.start e ≡ condition.stops (condition.join (others c) (last c)) [] = g.passes ∙ ap (λ l. condition.scan l (condition.sign condition.none (others c) (last c)) e) (no_kinds g.rest g.kept) in
    let r = guard_reads n fs ts [] condition.start e u [] (condition.join (others c) (last c)) s in
    inl (line.trans n fs ts (condition.join (others c) (last c)) (refs r.used), r.is))
    (λ o. inr (record { f = o.f; limit = o.limit; is = guard_fails n fs ts [] condition.start e u o.f o.is }))
    (wide_cond c condition.none e u [] (kinds_of u (spell_cond c) m ∙ sym (append-nil (spell_cond c))))

trans_wide : (n : Number) (fs ts : Numbers) (e : ℕ) (v w : List Token) → Matches v (prefix n fs ts) → Wide start (guard n fs ts [] condition.start) e v w []
trans_wide n fs ts e v w m =
    let K : Numbers → State = λ fs. number (λ t. listed (one t) When (λ ts. guard n fs ts [] condition.start)) in
    let G = guard n fs ts [] condition.start in
    let A = number (λ f. listed (one f) To K) in
    let r1 = (spell_numbers fs ++ kind (Keyword To) ∷ []) ++ (spell_numbers ts ++ kind (Keyword When) ∷ []) in
    let r2 = spell_numbers ts ++ kind (Keyword When) ∷ [] in
    then start transing G e v w (exactly (digits n) ∷ kind (Keyword From) ∷ r1) []
    (inl (go_kind (Keyword Trans) start transing e v w (exactly (digits n) ∷ kind (Keyword From) ∷ r1) m (λ at. refl)))
    (λ v1 m1. then transing (word From A) G e v1 w (kind (Keyword From) ∷ r1) []
    (any_number n (λ n. word From (number (λ f. listed (one f) To (λ fs. number (λ t. listed (one t) When (λ ts. guard n fs ts [] condition.start)))))) e v1 w (kind (Keyword From) ∷ r1) m1)
    (λ v2 m2. then (word From A) A G e v2 w r1 []
    (inl (go_word From A e v2 w r1 m2))
    (λ v3 m3. then A (K fs) G e v3 w r2 []
    (any_list_word fs To K e v3 w r2 m3)
    (λ v4 m4. any_list_word ts When (λ ts. guard n fs ts [] condition.start) e v4 w [] (subst (λ l. Matches v4 l) (sym (append-nil r2)) m4)))))

before_outcome : (x y : State) (e : ℕ) (u w : List Token) → scan (u ++ w) x e ≡ scan w y e → Outcome y e w → Outcome x e (u ++ w)
before_outcome x y e u w s o = ⊎_elim (λ d. inl (d.0, s ∙ d.1)) (λ o. inr (record { f = o.f; limit = o.limit; is = s ∙ o.is })) o

trans_outcome : (n : Number) (fs ts : Numbers) (c : Cond) (us : List Number) (e : ℕ) (u : List Token) → Matches u (spell (line.trans n fs ts c us)) → Outcome start e u
trans_outcome n fs ts c us e u m =
    let p = cut u (prefix n fs ts) (map kind (spell_cond c)) m in
    let G = guard n fs ts [] condition.start in
    subst (λ l. Outcome start e l) (sym p.is)
    (⊎_elim
    (λ h. before_outcome start G e p.one p.two (arrived h) (condition_outcome n fs ts c e p.two p.second))
    (λ o. inr o)
    (trans_wide n fs ts e p.one p.two p.first))

ended : (e : ℕ) (u : List Token) → Outcome start e (u ++ []) → Outcome start e u
ended e u o = subst (λ v. Outcome start e v) (append-nil u) o

-- an enter line, whose word w stands for the action a
enter_outcome : (w : Word) (a : Action) (n o : Number) (e : ℕ) (u : List Token) → Matches u (kind (Keyword Enter) ∷ exactly (digits n) ∷ kind (Keyword w) ∷ exactly (line.output o) ∷ []) → ((at : ℕ) → step (verb n) at (Keyword w) ≡ goes (output (λ q. end (line.enter n a q)))) → Outcome start e u
enter_outcome w a n o e u m s =
    let l = line.enter n a o in
    let O = output (λ q. end (line.enter n a q)) in
    ended e u (closing start (end l) l e u refl
    (then start entering (end l) e u [] (exactly (digits n) ∷ kind (Keyword w) ∷ exactly (line.output o) ∷ []) []
    (inl (go_kind (Keyword Enter) start entering e u [] (exactly (digits n) ∷ kind (Keyword w) ∷ exactly (line.output o) ∷ []) m (λ at. refl)))
    (λ v m1. then entering (verb n) (end l) e v [] (kind (Keyword w) ∷ exactly (line.output o) ∷ []) []
    (any_number n (λ n. verb n) e v [] (kind (Keyword w) ∷ exactly (line.output o) ∷ []) m1)
    (λ x m2. then (verb n) O (end l) e x [] (exactly (line.output o) ∷ []) []
    (inl (go_kind (Keyword w) (verb n) O e x [] (exactly (line.output o) ∷ []) m2 s))
    (λ z m3. any_output o (λ q. end (line.enter n a q)) e z [] [] m3)))))

pub outcome : (l : Tree) (e : ℕ) (u : List Token) → Matches u (spell l) → Outcome start e u
outcome line.empty e u m = inl (line.empty, ap (λ v. scan v start e) (none_left u m))
outcome (line.step n true) e u m =
    let l = line.step n true in
    ended e u (closing start (end l) l e u refl
    (then start stepping (end l) e u [] (exactly (digits n) ∷ kind (Keyword Initial) ∷ []) []
    (inl (go_kind (Keyword Step) start stepping e u [] (exactly (digits n) ∷ kind (Keyword Initial) ∷ []) m (λ at. refl)))
    (λ v m1. then stepping (initial n) (end l) e v [] (kind (Keyword Initial) ∷ []) []
    (any_number n (λ n. initial n) e v [] (kind (Keyword Initial) ∷ []) m1)
    (λ w m2. inl (go_kind (Keyword Initial) (initial n) (end l) e w [] [] m2 (λ at. refl))))))
outcome (line.step n false) e u m =
    let l = line.step n false in
    ended e u (closing start (initial n) l e u refl
    (then start stepping (initial n) e u [] (exactly (digits n) ∷ []) []
    (inl (go_kind (Keyword Step) start stepping e u [] (exactly (digits n) ∷ []) m (λ at. refl)))
    (λ v m1. any_number n (λ n. initial n) e v [] [] m1)))
outcome (line.trans n fs ts c us) e u m = trans_outcome n fs ts c us e u m
outcome (line.hold n o) e u m =
    let l = line.hold n o in
    ended e u (closing start (end l) l e u refl
    (then start holding (end l) e u [] (exactly (digits n) ∷ exactly (line.output o) ∷ []) []
    (inl (go_kind (Keyword Hold) start holding e u [] (exactly (digits n) ∷ exactly (line.output o) ∷ []) m (λ at. refl)))
    (λ v m1. then holding (output (λ q. end (line.hold n q))) (end l) e v [] (exactly (line.output o) ∷ []) []
    (any_number n (λ n. output (λ q. end (line.hold n q))) e v [] (exactly (line.output o) ∷ []) m1)
    (λ w m2. any_output o (λ q. end (line.hold n q)) e w [] [] m2))))
outcome (line.enter n action.Set o) e u m = enter_outcome Set action.Set n o e u m (λ at. refl)
outcome (line.enter n action.Reset o) e u m = enter_outcome Reset action.Reset n o e u m (λ at. refl)
