-- Where the scan fails, the tokens so far are no viable prefix. Assumes nothing.
use Rattle.std.proofs.Common.{◌≡◌, ℕ, List, [], ◌∷◌, ◌++◌, sym, refl, ap, ◌∙◌, subst, inl, ⊎_elim, append_assoc, append-nil, arith}
use Rattle.faults.specs.declared.TextFault.{TextFault}
use Rattle.faults.specs.declared.TextFault.TheVariants.{TooLong, NoToken, TooManyDigits, Unexpected, EighthBracket, NumberTooLarge}
use Rattle.faults.specs.Numbers.{text_place}
use Rattle.text.specs.declared.token.Token.{Token}
use Rattle.text.specs.declared.token.TokenKind.TheVariants.{LineEnd}
use Rattle.conditions.specs.Read.{placed}
use Rattle.conditions.proofs.Complete.{Limit, too_deep, too_large}
use Rattle.lines.specs.Grammar as line
use Rattle.lines.specs.Grammar.{Tree, spell, Matches, FitsLine}
use Rattle.lines.specs.Scan.{State, Move, scan, step, follow, goes, done, fault, reads, fails, start, refs, line_of}
use Rattle.lines.specs.Laws.{Ends, Begins, Viable, Spells, Possible, Unfit, Why, Stuck}
use Rattle.lines.proofs.Along.{Spelt, Within, Limits, Next, advance, viable}
use Rattle.lines.proofs.Whole.{whole}
use Rattle.lines.proofs.Wide.{outcome}

-- what refuses: the first token that is left, or that there is none
abbrev Refuser : State → ℕ → List Token → TextFault → Type 0
Refuser x e [] f = scan [] x e ≡ fails f
Refuser x e (t ∷ ts) f = step x t.place t.kind ≡ fault f

-- the scan goes along `before`, wherever the tokens run out, to a state that refuses the rest
record Found (ts : List Token) (x : State) (e : ℕ) (u : List Token) (f : TextFault) : Type 0 where
  before : List Token
  rest : List Token
  split : ts ≡ before ++ rest
  state : State
  spelt : Spelt (u ++ before) state
  within : Within state
  onward : (end : ℕ) (us : List Token) → scan (before ++ us) x end ≡ scan us state end
  refuser : Refuser state e rest f

found_here : (ts : List Token) (x : State) (e : ℕ) (u : List Token) (f : TextFault) → Spelt u x → Within x → Refuser x e ts f → Found ts x e u f
found_here ts x e u f g b r = record { before = []; rest = ts; split = refl; state = x; spelt = subst (λ l. Spelt l x) (sym (append-nil u)) g; within = b; onward = λ end us. refl; refuser = r }

found_on : (t : Token) (ts : List Token) (x y : State) (e : ℕ) (u : List Token) (f : TextFault) → step x t.place t.kind ≡ goes y → Found ts y e (u ++ t ∷ []) f → Found (t ∷ ts) x e u f
found_on t ts x y e u f g r = record {
  before = t ∷ r.before;
  rest = r.rest;
  split = ap (λ l. t ∷ l) r.split;
  state = r.state;
  spelt = subst (λ l. Spelt l r.state) (append_assoc u (t ∷ []) r.before) r.spelt;
  within = r.within;
  onward = λ end us. ap (λ s. follow s (λ x. scan (r.before ++ us) x end) (r.before ++ us)) g ∙ r.onward end us;
  refuser = r.refuser;
}

stray : {A : Type 0} {f : TextFault} {l : List Token} {c : Tree} → reads c l ≡ fails f → A
stray h = let z : ◌≡◌ {A = ℕ} 0 1 = cc in absurd (omega arith)

same_fault : {f g : TextFault} → fails g ≡ fails f → g ≡ f
same_fault h = cc

at_token : (t : Token) (ts : List Token) (x : State) (e : ℕ) (u : List Token) (f : TextFault) → Spelt u x → Within x → ((y : State) → Spelt (u ++ t ∷ []) y → Within y → scan ts y e ≡ fails f → Found ts y e (u ++ t ∷ []) f) → (s : Move) → step x t.place t.kind ≡ s → Next u t s → follow s (λ x. scan ts x e) ts ≡ fails f → Found (t ∷ ts) x e u f
at_token t ts x e u f g b ih (goes y) is n r = found_on t ts x y e u f is (ih y n.0 n.1 r)
at_token t ts x e u f g b ih (done l) is n r = stray r
at_token t ts x e u f g b ih (fault z) is n r = found_here (t ∷ ts) x e u f g b (is ∙ ap (λ z. fault z) (same_fault r))

walk : (ts : List Token) (x : State) (e : ℕ) (u : List Token) (f : TextFault) → Spelt u x → Within x → scan ts x e ≡ fails f → Found ts x e u f
walk [] x e u f g b r = found_here [] x e u f g b r
walk (t ∷ ts) x e u f g b r = at_token t ts x e u f g b (λ y h c q. walk ts y e (u ++ t ∷ []) f h c q) (step x t.place t.kind) refl (advance x u t g b) r

-- where the tokens run out the fault is 4, at their end
no_limit_at_end : (u : List Token) (t : Token) (f : TextFault) → t.kind ≡ LineEnd → Limits f u t → text_place f ≡ t.place → f ≡ Unexpected t.place
no_limit_at_end u t TooLong k l p = absurd l
no_limit_at_end u t (NoToken q) k l p = absurd l
no_limit_at_end u t (TooManyDigits q) k l p = absurd l
no_limit_at_end u t (Unexpected q) k l p = ap (λ q. Unexpected q) p
no_limit_at_end u t (EighthBracket q) k l p = let o = l.opens in let z : ◌≡◌ {A = ℕ} 0 1 = cc in absurd (omega arith)
no_limit_at_end u t (NumberTooLarge q) k l p = absurd (⊎_elim (λ d. let z : ◌≡◌ {A = ℕ} 0 1 = cc in omega arith) (λ d. let o = d.1 in let z : ◌≡◌ {A = ℕ} 0 1 = cc in omega arith) l.named)

ended_as : (u : List Token) (e : ℕ) (f : TextFault) (s : Move) → Next u (record { kind = LineEnd; place = e }) s → follow s (λ x. fails (Unexpected e)) [] ≡ fails f → f ≡ Unexpected e
ended_as u e f (goes x) n r = sym (same_fault r)
ended_as u e f (done l) n r = stray r
ended_as u e f (fault g) n r = sym (same_fault r) ∙ no_limit_at_end u (record { kind = LineEnd; place = e }) g refl n.1 n.0

place_of : (rest : List Token) (x : State) (e : ℕ) (u : List Token) (f : TextFault) → Spelt u x → Within x → Refuser x e rest f → text_place f ≡ placed rest e
place_of [] x e u f g b r = ap text_place (ended_as u e f (step x e LineEnd) (advance x u (record { kind = LineEnd; place = e }) g b) r)
place_of (t ∷ ts) x e u f g b r = (subst (λ s. Next u t s) r (advance x u t g b)).0

-- tokens that the scan finds unexpected spell no line of the grammar
no_limit : (q : ℕ) {f : TextFault} → Limit f → f ≡ Unexpected q → ⊥
no_limit q (too_deep p) e = let z : ◌≡◌ {A = ℕ} 0 1 = cc in omega arith
no_limit q (too_large p) e = let z : ◌≡◌ {A = ℕ} 0 1 = cc in omega arith

unspelled : (us : List Token) (e q : ℕ) → scan us start e ≡ fails (Unexpected q) → Spells us → ⊥
unspelled us e q r s = ⊎_elim (λ d. stray (sym d.1 ∙ r)) (λ o. no_limit q o.limit (same_fault (sym o.is ∙ r))) (outcome s.tree e us s.spelled)

-- the scan along `before` to a state, from the start
abbrev Reaches : List Token → State → Type 0
Reaches before x = (end : ℕ) (us : List Token) → scan (before ++ us) start end ≡ scan us x end

not_whole : (before : List Token) (x : State) (e q : ℕ) → Reaches before x → scan [] x e ≡ fails (Unexpected q) → Spells before → ⊥
not_whole before x e q g r s = unspelled before e q (ap (λ l. scan l start e) (sym (append-nil before)) ∙ g e [] ∙ r) s

fails_on : (before : List Token) (x : State) (e : ℕ) (t : Token) (us : List Token) (f : TextFault) → Reaches before x → step x t.place t.kind ≡ fault f → scan (before ++ t ∷ us) start e ≡ fails f
fails_on before x e t us f g r = g e (t ∷ us) ∙ ap (λ s. follow s (λ y. scan us y e) us) r

not_onward : (before : List Token) (x : State) (e q : ℕ) (t : Token) → Reaches before x → step x t.place t.kind ≡ fault (Unexpected q) → Possible (before ++ t ∷ []) → ⊥
not_onward before x e q t g r p = unspelled (before ++ t ∷ p.more) e q (fails_on before x e t p.more (Unexpected q) g r) (record { tree = p.tree; spelled = subst (λ l. Matches l (spell p.tree)) (append_assoc before (t ∷ []) p.more) p.spelled })

not_ended : (before : List Token) (x : State) (q : ℕ) (t : Token) → Reaches before x → step x t.place t.kind ≡ fault (Unexpected q) → t.kind ≡ LineEnd → Spells before → ⊥
not_ended before x q t g r k s = not_whole before x t.place q g (ap (λ s. follow s (λ y. fails (Unexpected t.place)) []) (ap (λ k. step x t.place k) (sym k) ∙ r)) s

by_cause : (before : List Token) (t : Token) (us : List Token) (f : TextFault) → Limits f before t → ((q : ℕ) → f ≡ Unexpected q → Unfit before (t ∷ us)) → Why before (t ∷ us) f
by_cause before t us TooLong l u = l
by_cause before t us (NoToken p) l u = l
by_cause before t us (TooManyDigits p) l u = l
by_cause before t us (Unexpected p) l u = u p refl
by_cause before t us (EighthBracket p) l u = l
by_cause before t us (NumberTooLarge p) l u = l

why_of : (before rest : List Token) (x : State) (e : ℕ) (f : TextFault) → Spelt before x → Within x → Reaches before x → Refuser x e rest f → Why before rest f
why_of before [] x e f s b g r =
    let is = ended_as before e f (step x e LineEnd) (advance x before (record { kind = LineEnd; place = e }) s b) r in
    subst (λ f. Why before [] f) (sym is) (not_whole before x e e g (r ∙ ap (λ f. fails f) is))
why_of before (t ∷ us) x e f s b g r =
    by_cause before t us f (subst (λ m. Next before t m) r (advance x before t s b)).1
    (λ q is. let at = r ∙ ap (λ f. fault f) is in (not_onward before x e q t g at, not_ended before x q t g at))

-- the same line, its last part being what its tokens name
abbrev renamed : Tree → List Token → Tree
renamed line.empty u = line.empty
renamed (line.step n b) u = line.step n b
renamed (line.trans n fs ts c us) u = line.trans n fs ts c (refs u)
renamed (line.hold n q) u = line.hold n q
renamed (line.enter n a q) u = line.enter n a q

begins_renamed : (l : Tree) (ts u rest : List Token) → Ends ts u rest → Matches u (spell l) → FitsLine l → Begins (renamed l u) ts rest
begins_renamed line.empty ts u rest e m f = record { used = u; ends = e; spelled = m; uses = tt; fits = f }
begins_renamed (line.step n b) ts u rest e m f = record { used = u; ends = e; spelled = m; uses = tt; fits = f }
begins_renamed (line.trans n fs xs c us) ts u rest e m f = record { used = u; ends = e; spelled = m; uses = refl; fits = f }
begins_renamed (line.hold n q) ts u rest e m f = record { used = u; ends = e; spelled = m; uses = tt; fits = f }
begins_renamed (line.enter n a q) ts u rest e m f = record { used = u; ends = e; spelled = m; uses = tt; fits = f }

not_viable : (before : List Token) (x : State) (e : ℕ) (t : Token) (f : TextFault) → Reaches before x → step x t.place t.kind ≡ fault f → Viable (before ++ t ∷ []) → ⊥
not_viable before x e t f g r v =
    let toks = before ++ t ∷ v.more in
    let m = subst (λ l. Matches l (spell v.tree)) (append_assoc before (t ∷ []) v.more) v.spelled in
    let b = begins_renamed v.tree toks toks [] (inl (refl, refl)) m v.fits in
    stray (sym (whole toks [] e (renamed v.tree toks) b) ∙ fails_on before x e t v.more f g r)

pub refused : (ts : List Token) (e : ℕ) (f : TextFault) → line_of ts e ≡ fails f → Stuck ts e f
refused ts e f h =
    let x = walk ts start e [] f refl tt h in
    record {
      before = x.before;
      rest = x.rest;
      split = x.split;
      goes = viable x.state x.before x.spelt x.within;
      at = place_of x.rest x.state e x.before f x.spelt x.within x.refuser;
      stuck = λ t us is v. not_viable x.before x.state e t f x.onward (subst (λ l. Refuser x.state e l f) is x.refuser) v;
      why = why_of x.before x.rest x.state e f x.spelt x.within x.onward x.refuser;
    }
