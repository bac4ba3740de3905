-- What each reader's step keeps. Assumes nothing.
use Rattle.std.proofs.Common.{◌≡◌, ℕ, ◌-◌, Bool, true, false, cond, eqb, List, [], ◌∷◌, ◌++◌, length, take, sym, refl, ap, ◌∙◌, subst, inl, inr, ⊎_elim, append_assoc, append-nil, arith, length-append, le-leb, true-eqb}
use lib.Seq.{take-append-le}
use Rattle.std.proofs.lemmas.List.{take_all, append_cancel_right}
use Rattle.std.proofs.lemmas.Result.{MatchResult-weaker}
use Rattle.std.specs.Prelude.{MatchResult, Result}
use Rattle.text.specs.declared.token.Word.{Word}
use Rattle.text.specs.declared.token.Word.TheVariants.{Step, Initial, Trans, From, To, When, Hold, Enter, Set, Reset}
use Rattle.faults.specs.declared.TextFault.{TextFault}
use Rattle.faults.specs.declared.TextFault.TheVariants.{Unexpected}
use Rattle.text.specs.declared.token.Token.{Token}
use Rattle.text.specs.declared.token.TokenKind.{TokenKind}
use Rattle.text.specs.declared.token.TokenKind.TheVariants.{Keyword, Digits, Operand, Comma, Dot, Plus, Bang, Open, Close, Slash, Backslash, LineEnd}
use Rattle.conditions.specs.Read.{Heads, Lacks, kinds}
use Rattle.conditions.specs.Readers.{Takes, Behind, Grown}
use Rattle.conditions.specs.declared.rest.Rest.{Rest}
use Rattle.conditions.specs.Tree.{Cond}
use Rattle.conditions.specs.Scan as condition
use Rattle.lines.specs.declared.shape.Number.{Number}
use Rattle.lines.specs.declared.shape.Action.TheVariants as action
use Rattle.conditions.specs.Laws.{Wholly}
use Rattle.conditions.specs.Tree.{words, enclosed}
use Rattle.conditions.proofs.Pushing.{pushed_append}
use Rattle.words.specs.declared.instruction.Instruction.{Instruction}
use Rattle.words.specs.declared.instruction.Instruction.TheVariants as instruction
use Rattle.words.specs.Emitted.{Kept, pushed}
use Rattle.lines.specs.declared.shape.Transition.{Transition}
use Rattle.lines.specs.declared.shape.Line.{Line}
use Rattle.lines.specs.declared.shape.Line.TheVariants as code
use Rattle.lines.specs.Grammar as line
use Rattle.lines.specs.Grammar.{Tree, Numbers, one, more, items, Mark, digits, spell_numbers, Matches, Small}
use Rattle.lines.specs.Scan as automaton
use Rattle.lines.specs.Scan.{State, Move, scan, step, follow, goes, done, fault, reads, fails, number, output, word, listed, verb, guard, end, same, only, transing, start, noted, refs, guarded}
use Rattle.lines.specs.Laws.{Ends}
use Rattle.lines.specs.Parts.{going, Leaves, ReadsNumber, ReadsWord, NoWord, ReadsEnd, ReadsList, NoList, ReadsGuard, Shows, LineParts, LineFrom, TransFrom, QuietFrom, NoLineFrom, counted, numbers_in}
use Rattle.lines.specs.Guards.{step_tests, guard_words}

-- one step of the scan
pub on : (x : State) (e : ℕ) (t : Token) (rest : List Token) (s : Move) → step x t.place t.kind ≡ s → scan (t ∷ rest) x e ≡ follow s (λ x. scan rest x e) rest
on x e t rest s h = ap (λ s. follow s (λ x. scan rest x e) rest) h

-- the same at tokens that are known to begin with a kind
pub ahead : (k : TokenKind) {ts rest : List Token} (x y : State) (e : ℕ) → Heads k ts rest → ((at : ℕ) → step x at k ≡ goes y) → scan ts x e ≡ scan rest y e
ahead k x y e h s = ap (λ l. scan l x e) h.2 ∙ on x e h.0 _ _ (ap (λ k. step x h.0.place k) h.1 ∙ s _)

-- the same of what is left
pub past : (k : TokenKind) {from rest : Rest} (x y : State) → Behind k from rest → ((at : ℕ) → step x at k ≡ goes y) → going x from ≡ going y rest
past k {from} {rest} x y h s = ahead k x y from.end h.heads s ∙ ap (λ e. scan rest.tokens.now y e) (sym h.same_end)

-- two states that differ at one kind alone
alike : (a : TokenKind) (x y : State) (e : ℕ) (ts : List Token) → ((at : ℕ) (k : TokenKind) → (k ≡ a → ⊥) → step x at k ≡ step y at k) → step x e LineEnd ≡ step y e LineEnd → Lacks a ts → scan ts x e ≡ scan ts y e
alike a x y e [] s o n = ap (λ s. follow s (λ x. fails (Unexpected e)) []) o
alike a x y e (t ∷ ts) s o n = ap (λ s. follow s (λ x. scan ts x e) ts) (s t.place t.kind n)

-- two words
decode : ℕ → Word
decode n = cond (eqb n 0) Step (cond (eqb n 1) Initial (cond (eqb n 2) Trans (cond (eqb n 3) From (cond (eqb n 4) To (cond (eqb n 5) When (cond (eqb n 6) Hold (cond (eqb n 7) Enter (cond (eqb n 8) Set Reset))))))))

decoded : (w : Word) → decode (automaton.code w) ≡ w
unfolding decode
decoded Step = refl
decoded Initial = refl
decoded Trans = refl
decoded From = refl
decoded To = refl
decoded When = refl
decoded Hold = refl
decoded Enter = refl
decoded Set = refl
decoded Reset = refl

pub equal : (v w : Word) → same v w ≡ true → v ≡ w
equal v w h = sym (decoded v) ∙ ap decode (true-eqb (automaton.code v) (automaton.code w) (sym h)) ∙ decoded w

apart : (v w : Word) (q : Bool) → same v w ≡ q → (w ≡ v → ⊥) → q ≡ false
apart v w true h n = absurd (n (sym (equal v w h)))
apart v w false h n = refl

-- an output that is reset
unless_set : (n : Number) (at : ℕ) (k : TokenKind) → (k ≡ Keyword Set → ⊥) → step (verb n) at k ≡ step (word Reset (output (λ q. end (line.enter n action.Reset q)))) at k
unless_set n at (Keyword v) h = ap (λ q. cond q (goes (output (λ q. end (line.enter n action.Set q)))) (only Reset (output (λ q. end (line.enter n action.Reset q))) at v)) (apart Set v (same Set v) refl (λ e. h (ap (λ z. Keyword z) e)))
unless_set n at (Digits i) h = refl
unless_set n at (Operand l i) h = refl
unless_set n at Comma h = refl
unless_set n at Dot h = refl
unless_set n at Plus h = refl
unless_set n at Bang h = refl
unless_set n at Open h = refl
unless_set n at Close h = refl
unless_set n at Slash h = refl
unless_set n at Backslash h = refl
unless_set n at LineEnd h = refl

pub not_set : (from : Rest) (n : Number) → Lacks (Keyword Set) from.tokens.now → going (verb n) from ≡ going (word Reset (output (λ q. end (line.enter n action.Reset q)))) from
not_set from n l = alike (Keyword Set) (verb n) (word Reset (output (λ q. end (line.enter n action.Reset q)))) from.end from.tokens.now (λ at k h. unless_set n at k h) refl l

-- the tokens before a rest
pub used_part : (used rest toks : List Token) (m : ℕ) → toks ≡ used ++ rest → m ≡ length toks - length rest → take m toks ≡ used
used_part used rest toks m e h =
    let l : m ≡ length used = omega (arith, ap length e ∙ length-append used rest) in
    ap (λ i. take i toks) l ∙ ap (λ z. take (length used) z) e ∙ take-append-le (length used) used rest (omega arith) ∙ take_all (length used) used (omega arith)

pub used_split : (from rest : Rest) (m : ℕ) → Leaves from rest → m ≡ length from.tokens.now - length rest.tokens.now → from.tokens.now ≡ take m from.tokens.now ++ rest.tokens.now
used_split from rest m l h = l.1 ∙ ap (λ z. z ++ rest.tokens.now) (sym (used_part l.0 rest.tokens.now from.tokens.now m l.1 h))

-- two runs of tokens, each spelled so
pub join_matches : (u v : List Token) (ms ns : List Mark) → Matches u ms → Matches v ns → Matches (u ++ v) (ms ++ ns)
join_matches [] v [] ns a b = b
join_matches [] v (m ∷ ms) ns a b = absurd a
join_matches (t ∷ u) v [] ns a b = absurd a
join_matches (t ∷ u) v (m ∷ ms) ns a b = (a.0, join_matches u v ms ns a.1 b)

-- the numbers along two runs of tokens
pub numbers_append : (ts us : List Token) → numbers_in (ts ++ us) ≡ numbers_in ts ++ numbers_in us
numbers_append [] us = refl
numbers_append (t ∷ ts) us = ap (λ l. counted t.place t.kind ++ l) (numbers_append ts us) ∙ sym (append_assoc (counted t.place t.kind) (numbers_in ts) (numbers_in us))

counted_small : (n : Number) → Small n → counted n.place (Digits n.value) ≡ n ∷ []
counted_small n h = ap (λ q. cond q (n ∷ []) []) (le-leb n.value 63 h)

-- a list so far: its tokens, and what they are read as
pub record ListSoFar (w : Word) (from rest : Rest) : Type 0 where
  pub tree : Numbers
  pub part : List Token
  pub split : from.tokens.now ≡ part ++ rest.tokens.now
  pub spelled : Matches part (spell_numbers tree)
  pub numbers : numbers_in part ≡ items tree
  pub passes : (k : Numbers → State) → going (number (λ n. listed (one n) w k)) from ≡ going (listed tree w k) rest
  pub same_end : rest.end ≡ from.end

pub list_started : {w : Word} {from rest : Rest} {n : Number} → ReadsNumber from n rest → ListSoFar w from rest
list_started {w} {n = n} r = record { tree = one n; part = digits n ∷ []; split = r.split; spelled = (refl, tt); numbers = ap (λ l. l ++ []) (counted_small n r.small); passes = λ k. r.passes (λ n. listed (one n) w k); same_end = r.same_end }

comma_on : (ns : Numbers) (w : Word) (k : Numbers → State) {from after : Rest} → Behind Comma from after → going (listed ns w k) from ≡ going (number (λ n. listed (more ns n) w k)) after
comma_on ns w k h = past Comma (listed ns w k) (number (λ n. listed (more ns n) w k)) h (λ at. refl)

pub list_more : {w : Word} {from rest after rest' : Rest} {n : Number} → ListSoFar w from rest → Behind Comma rest after → ReadsNumber after n rest' → ListSoFar w from rest'
list_more {w} {from} {rest} {after} {rest'} {n} s b r =
    let h = b.heads in
    let c = h.0 in
    let left = rest'.tokens.now in
    let here : rest.tokens.now ≡ c ∷ digits n ∷ left = h.2 ∙ ap (λ l. c ∷ l) r.split in
    let number_here : numbers_in (c ∷ digits n ∷ []) ≡ n ∷ [] = ap (λ k. counted c.place k ++ numbers_in (digits n ∷ [])) h.1 ∙ ap (λ l. l ++ []) (counted_small n r.small) in
    record {
      tree = more s.tree n;
      part = s.part ++ c ∷ digits n ∷ [];
      split = s.split ∙ ap (λ l. s.part ++ l) here ∙ sym (append_assoc s.part (c ∷ digits n ∷ []) left);
      spelled = join_matches s.part (c ∷ digits n ∷ []) (spell_numbers s.tree) (line.kind Comma ∷ line.exactly (digits n) ∷ []) s.spelled (h.1, (refl, tt));
      numbers = numbers_append s.part (c ∷ digits n ∷ []) ∙ ap (λ l. l ++ numbers_in (c ∷ digits n ∷ [])) s.numbers ∙ ap (λ l. items s.tree ++ l) number_here;
      passes = λ k. s.passes k ∙ comma_on s.tree w k b ∙ r.passes (λ n. listed (more s.tree n) w k);
      same_end = r.same_end ∙ b.same_end ∙ s.same_end;
    }

unless_comma : (ns : Numbers) (w : Word) (next : Numbers → State) (at : ℕ) (k : TokenKind) → (k ≡ Comma → ⊥) → step (listed ns w next) at k ≡ step (word w (next ns)) at k
unless_comma ns w next at (Keyword v) h = refl
unless_comma ns w next at (Digits i) h = refl
unless_comma ns w next at (Operand l i) h = refl
unless_comma ns w next at Comma h = absurd (h refl)
unless_comma ns w next at Dot h = refl
unless_comma ns w next at Plus h = refl
unless_comma ns w next at Bang h = refl
unless_comma ns w next at Open h = refl
unless_comma ns w next at Close h = refl
unless_comma ns w next at Slash h = refl
unless_comma ns w next at Backslash h = refl
unless_comma ns w next at LineEnd h = refl

comma_less : (ns : Numbers) (w : Word) (next : Numbers → State) (rest : Rest) → Lacks Comma rest.tokens.now → going (listed ns w next) rest ≡ going (word w (next ns)) rest
comma_less ns w next rest l = alike Comma (listed ns w next) (word w (next ns)) rest.end rest.tokens.now (λ at k h. unless_comma ns w next at k h) refl l

pub list_ended : {w : Word} {from rest left : Rest} {part : List Token} → ListSoFar w from rest → Lacks Comma rest.tokens.now → from.tokens.now ≡ part ++ rest.tokens.now → ReadsWord w rest left → ReadsList w from part left
list_ended {w} {from} {rest} {left} {part} s l e r =
    let is : part ≡ s.part = append_cancel_right part s.part rest.tokens.now (sym e ∙ s.split) in
    let h = r.behind.heads in
    record {
      tree = s.tree;
      word = h.0;
      ends = h.1;
      split = e ∙ ap (λ l. part ++ l) h.2;
      spelled = subst (λ p. Matches p (spell_numbers s.tree)) (sym is) s.spelled;
      numbers = ap numbers_in is ∙ s.numbers;
      passes = λ k. s.passes k ∙ comma_less s.tree w k rest l ∙ r.passes (k s.tree);
      same_end = r.behind.same_end ∙ s.same_end;
    }

pub list_wordless : {w : Word} {from rest : Rest} {f : TextFault} → ListSoFar w from rest → Lacks Comma rest.tokens.now → NoWord w rest f → NoList w from f
list_wordless {w} {rest = rest} s l r = record { fails = λ k. s.passes k ∙ comma_less s.tree w k rest l ∙ r.fails (k s.tree) }

-- the steps named along two runs of tokens
pub refs_append : (ts us : List Token) → refs (ts ++ us) ≡ refs ts ++ refs us
refs_append [] us = refl
refs_append (t ∷ ts) us = ap (λ l. noted t.place t.kind ++ l) (refs_append ts us) ∙ sym (append_assoc (noted t.place t.kind) (refs ts) (refs us))

-- a transition's condition read
pub record Guarded (n : Number) (fs ts : Numbers) (us : List Number) (x : condition.State) (e : ℕ) (toks rest : List Token) (c : Cond) : Type 0 where
  pub used : List Token
  pub split : toks ≡ used ++ rest
  pub is : scan toks (guard n fs ts us x) e ≡ scan rest (end (line.trans n fs ts c (us ++ refs used))) e

never : {A : Type 0} {f : TextFault} {l : List Token} {c : Cond} → condition.fails f ≡ condition.stops c l → A
never h = let z : ◌≡◌ {A = ℕ} 0 1 = cc in absurd (omega arith)

guard_here : (n : Number) (fs ts : Numbers) (us : List Number) (x : condition.State) (e : ℕ) (toks rest : List Token) (d c : Cond) → condition.stops d toks ≡ condition.stops c rest → scan toks (guard n fs ts us x) e ≡ scan toks (end (line.trans n fs ts d us)) e → Guarded n fs ts us x e toks rest c
guard_here n fs ts us x e toks rest d c h s =
    let a : d ≡ c = cc in
    let b : toks ≡ rest = cc in
    record { used = []; split = b; is = s ∙ ap (λ l. scan l (end (line.trans n fs ts d us)) e) b ∙ ap (λ v. scan rest (end (line.trans n fs ts v us)) e) a ∙ ap (λ v. scan rest (end (line.trans n fs ts c v)) e) (sym (append-nil us)) }

guard_out : (n : Number) (fs ts : Numbers) (us : List Number) (x : condition.State) (e : ℕ) (rest : List Token) (c : Cond) → condition.scan [] x e ≡ condition.stops c rest → Guarded n fs ts us x e [] rest c
guard_out n fs ts us (condition.wants h s p) e rest c r = never r
guard_out n fs ts us (condition.primary h s p b) e rest c r = never r
guard_out n fs ts us (condition.edge h s p b q) e rest c r = never r
guard_out n fs ts us (condition.sign condition.none s t) e rest c r = guard_here n fs ts us (condition.sign condition.none s t) e [] rest (condition.join s t) c r refl
guard_out n fs ts us (condition.sign (condition.inside h z p b) s t) e rest c r = never r

guard_token : (n : Number) (fs ts : Numbers) (us : List Number) (x : condition.State) (e : ℕ) (t : Token) (toks rest : List Token) (c : Cond) (s : condition.Step) → condition.step x t.place t.kind ≡ s → ((vs : List Number) (y : condition.State) → condition.scan toks y e ≡ condition.stops c rest → Guarded n fs ts vs y e toks rest c) → condition.follow s (λ y. condition.scan toks y e) (t ∷ toks) ≡ condition.stops c rest → Guarded n fs ts us x e (t ∷ toks) rest c
guard_token n fs ts us x e t toks rest c (condition.goes y) g ih r =
    let v = noted t.place t.kind in
    let i = ih (us ++ v) y r in
    record {
      used = t ∷ i.used;
      split = ap (λ l. t ∷ l) i.split;
      is = ap (λ s. follow (guarded n fs ts us s t.place t.kind) (λ x. scan toks x e) toks) g ∙ i.is ∙ ap (λ l. scan rest (end (line.trans n fs ts c l)) e) (append_assoc us v (refs i.used));
    }
guard_token n fs ts us x e t toks rest c (condition.ends d) g ih r = guard_here n fs ts us x e (t ∷ toks) rest d c r (ap (λ s. follow (guarded n fs ts us s t.place t.kind) (λ x. scan toks x e) toks) g)
guard_token n fs ts us x e t toks rest c (condition.fault f) g ih r = never r

pub guard_reads : (n : Number) (fs ts : Numbers) (us : List Number) (x : condition.State) (e : ℕ) (toks rest : List Token) (c : Cond) → condition.scan toks x e ≡ condition.stops c rest → Guarded n fs ts us x e toks rest c
guard_reads n fs ts us x e [] rest c r = guard_out n fs ts us x e rest c r
guard_reads n fs ts us x e (t ∷ toks) rest c r = guard_token n fs ts us x e t toks rest c (condition.step x t.place t.kind) refl (λ vs y q. guard_reads n fs ts vs y e toks rest c q) r

-- a transition's condition refused
same_fault : {f g : TextFault} → condition.fails g ≡ condition.fails f → fails g ≡ fails f
same_fault {f} {g} h = let z : g ≡ f = cc in ap (λ x. fails x) z

stray : {A : Type 0} {f : TextFault} {l : List Token} {c : Cond} → condition.stops c l ≡ condition.fails f → A
stray h = let z : ◌≡◌ {A = ℕ} 0 1 = cc in absurd (omega arith)

fails_out : (n : Number) (fs ts : Numbers) (us : List Number) (x : condition.State) (e : ℕ) (f : TextFault) → condition.scan [] x e ≡ condition.fails f → scan [] (guard n fs ts us x) e ≡ fails f
fails_out n fs ts us (condition.wants h s p) e f r = same_fault r
fails_out n fs ts us (condition.primary h s p b) e f r = same_fault r
fails_out n fs ts us (condition.edge h s p b q) e f r = same_fault r
fails_out n fs ts us (condition.sign condition.none s t) e f r = stray r
fails_out n fs ts us (condition.sign (condition.inside h z p b) s t) e f r = same_fault r

fails_token : (n : Number) (fs ts : Numbers) (us : List Number) (e : ℕ) (t : Token) (toks : List Token) (f : TextFault) (s : condition.Step) → ((vs : List Number) (y : condition.State) → condition.scan toks y e ≡ condition.fails f → scan toks (guard n fs ts vs y) e ≡ fails f) → condition.follow s (λ y. condition.scan toks y e) (t ∷ toks) ≡ condition.fails f → follow (guarded n fs ts us s t.place t.kind) (λ x. scan toks x e) toks ≡ fails f
fails_token n fs ts us e t toks f (condition.goes y) ih r = ih (us ++ noted t.place t.kind) y r
fails_token n fs ts us e t toks f (condition.ends d) ih r = stray r
fails_token n fs ts us e t toks f (condition.fault g) ih r = same_fault r

pub guard_fails : (n : Number) (fs ts : Numbers) (us : List Number) (x : condition.State) (e : ℕ) (toks : List Token) (f : TextFault) → condition.scan toks x e ≡ condition.fails f → scan toks (guard n fs ts us x) e ≡ fails f
guard_fails n fs ts us x e [] f r = fails_out n fs ts us x e f r
guard_fails n fs ts us x e (t ∷ toks) f r = fails_token n fs ts us e t toks f (condition.step x t.place t.kind) (λ vs y q. guard_fails n fs ts vs y e toks f q) r

-- a transition up to its condition
abbrev pub second : Number → Numbers → State
second n fs = number (λ t. listed (one t) When (λ ts. guard n fs ts [] condition.start))

pub up_to_from : {from r q : Rest} {n : Number} → ReadsNumber from n r → ReadsWord From r q → going transing from ≡ going (number (λ f. listed (one f) To (λ fs. second n fs))) q
up_to_from {n = n} x y = x.passes (λ n. word From (number (λ f. listed (one f) To (λ fs. second n fs)))) ∙ y.passes (number (λ f. listed (one f) To (λ fs. second n fs)))

pub up_to_to : {from r q s : Rest} {part : List Token} {n : Number} → ReadsNumber from n r → ReadsWord From r q → (z : ReadsList To q part s) → going transing from ≡ going (second n z.tree) s
up_to_to {n = n} x y z = up_to_from x y ∙ z.passes (λ fs. second n fs)

pub up_to_when : {from r q s u : Rest} {part part' : List Token} {n : Number} → ReadsNumber from n r → ReadsWord From r q → (z : ReadsList To q part s) (v : ReadsList When s part' u) → going transing from ≡ going (guard n z.tree v.tree [] condition.start) u
up_to_when {n = n} x y z v = up_to_to x y z ∙ v.passes (λ ts. guard n z.tree ts [] condition.start)

-- the condition of a transition, read or refused
pub guard_passes : (n : Number) (fs ts : Numbers) {from rest : Rest} {part : List Token} {before after : Kept} (g : ReadsGuard n.value from part rest before after) → going (guard n fs ts [] condition.start) from ≡ going (end (line.trans n fs ts g.tree (refs part))) rest
guard_passes n fs ts {from} {rest} {part} g =
    let d = guard_reads n fs ts [] condition.start from.end from.tokens.now rest.tokens.now g.tree g.is in
    let named = ap refs (append_cancel_right d.used part rest.tokens.now (sym d.split ∙ g.split)) in
    d.is ∙ ap (λ us. scan rest.tokens.now (end (line.trans n fs ts g.tree us)) from.end) named ∙ ap (λ e. scan rest.tokens.now (end (line.trans n fs ts g.tree (refs part))) e) (sym g.same_end)

-- no tokens are an empty line
empty : (ts : List Token) → length ts ≡ 0 → ts ≡ []
empty [] h = refl
empty (t ∷ ts) h = absurd (omega arith)

pub none_left : (from : Rest) (k : Kept) → length from.tokens.now ≡ 0 → LineFrom [] start from code.Empty from k k
unfolding pushed
none_left from k h = let none = empty from.tokens.now h in record { tree = line.empty; is = ap (λ l. scan l start from.end) none ∙ ap (λ l. reads line.empty l) (sym none); shown = refl; parts = tt; emitted = refl; same_end = refl }

-- a line that no words test is no transition
not_none : (is js : List Instruction) (i : Instruction) → is ++ i ∷ js ≡ [] → ⊥
not_none [] js i h = let z : ◌≡◌ {A = ℕ} 0 1 = cc in omega arith
not_none (x ∷ is) js i h = let z : ◌≡◌ {A = ℕ} 0 1 = cc in omega arith

quiet_parts : (l : Line) (t : Tree) (ts rest : List Token) → Shows l t → guard_words t ≡ [] → LineParts l t ts rest
quiet_parts code.Empty t ts rest s q = tt
quiet_parts (code.Step n b) t ts rest s q = tt
quiet_parts (code.Trans x) t ts rest s q = absurd (not_none (step_tests (items s.0)) _ instruction.AndOpen (sym (ap guard_words s.3) ∙ q))
quiet_parts (code.Hold n o) t ts rest s q = tt
quiet_parts (code.Enter n a o) t ts rest s q = tt

-- a line after its first word, and a line that ends at once
first_word : {from rest : Rest} {w : Word} {x : State} (t : Token) → t.kind ≡ Keyword w → Takes from t rest → ((at : ℕ) → step start at (Keyword w) ≡ goes x) → going start from ≡ going x rest
first_word {from} {rest} {w} {x} t i h s = past (Keyword w) {from = from} {rest = rest} start x (record { heads = (t, i, h.split); same_end = h.same_end }) s

pub begun : {from rest left : Rest} {w : Word} {x : State} {l : Line} (t : Token) (k : Kept) → t.kind ≡ Keyword w → Takes from t rest → ((at : ℕ) → step start at (Keyword w) ≡ goes x) → QuietFrom x rest l left → LineFrom [] start from l left k k
unfolding pushed
begun {l = l} t k i h s q = record { tree = q.tree; is = first_word t i h s ∙ q.is; shown = q.shown; parts = quiet_parts l q.tree _ _ q.shown q.quiet; emitted = sym (ap (λ is. pushed k is) q.quiet); same_end = q.same_end ∙ h.same_end }

pub not_begun : {from rest : Rest} {w : Word} {x : State} {f : TextFault} (t : Token) → t.kind ≡ Keyword w → Takes from t rest → ((at : ℕ) → step start at (Keyword w) ≡ goes x) → NoLineFrom x rest f → NoLineFrom start from f
not_begun t i h s q = record { fails = first_word t i h s ∙ q.fails }

-- what a reader of the rest of a line answers, behind the line's first word
pub begun_line : (w : Word) {from rest : Rest} {x : State} (t : Token) (k : Kept) (r : Result (Line × Rest) TextFault) → t.kind ≡ Keyword w → Takes from t rest → ((at : ℕ) → step start at (Keyword w) ≡ goes x) → MatchResult r (λ p. QuietFrom x rest p.0 p.1) (λ f. NoLineFrom x rest f) → MatchResult r (λ p. LineFrom [] start from p.0 p.1 k k) (λ f. NoLineFrom start from f)
begun_line w t k r i h s q = MatchResult-weaker r q (λ p q. begun t k i h s q) (λ f q. not_begun t i h s q)

pub ended_at_once : {from rest : Rest} (t : Token) (k : Kept) → t.kind ≡ LineEnd → Takes from t rest → LineFrom [] start from code.Empty rest k k
unfolding pushed
ended_at_once {from} {rest} t k i h = record { tree = line.empty; is = ap (λ l. scan l start from.end) h.split ∙ on start from.end t rest.tokens.now (done line.empty) (ap (λ k. step start t.place k) i); shown = refl; parts = tt; emitted = refl; same_end = h.same_end }

-- the same of a transition
begun_transition : {from rest left : Rest} {l : Line} {before after : Kept} (t : Token) → t.kind ≡ Keyword Trans → Takes from t rest → TransFrom rest l left before after → LineFrom [] start from l left before after
begun_transition {left = left} {l} t i h q =
    let r = q t i in
    record { tree = r.tree; is = first_word t i h (λ at. refl) ∙ r.is; shown = r.shown; parts = subst (λ ts. LineParts l r.tree ts left.tokens.now) (sym h.split) r.parts; emitted = r.emitted; same_end = r.same_end ∙ h.same_end }

pub transition_line : {from rest : Rest} (before after : Kept) (t : Token) (r : Result (Line × Rest) TextFault) → t.kind ≡ Keyword Trans → Takes from t rest → MatchResult r (λ p. TransFrom rest p.0 p.1 before after) (λ f. NoLineFrom transing rest f) → MatchResult r (λ p. LineFrom [] start from p.0 p.1 before after) (λ f. NoLineFrom start from f)
transition_line before after t r i h q = MatchResult-weaker r q (λ p q. begun_transition t i h q) (λ f q. not_begun t i h (λ at. refl) q)

-- words behind words
pub grown_behind : {k l n : Kept} (is : List Instruction) → l ≡ pushed k is → Grown l n → Grown k n
grown_behind {k} is a c = record { more = is ++ c.more; emitted = c.emitted ∙ ap (λ x. pushed x c.more) a ∙ pushed_append k is c.more }

-- the words of a condition in brackets and the store, one run behind the other
stored : (k : Kept) (ws : List Instruction) (n : ℕ) → pushed (pushed (pushed (pushed k (instruction.AndOpen ∷ [])) ws) (instruction.Close ∷ [])) (instruction.Store n ∷ []) ≡ pushed k (enclosed instruction.AndOpen ws ++ (instruction.Store n ∷ []))
stored k ws n =
    ap (λ z. pushed (pushed z (instruction.Close ∷ [])) (instruction.Store n ∷ [])) (pushed_append k (instruction.AndOpen ∷ []) ws) ∙
    ap (λ z. pushed z (instruction.Store n ∷ [])) (pushed_append k (instruction.AndOpen ∷ ws) (instruction.Close ∷ [])) ∙
    pushed_append k ((instruction.AndOpen ∷ ws) ++ (instruction.Close ∷ [])) (instruction.Store n ∷ [])

pub guard_read : {from rest : Rest} {part : List Token} {before mid inside shut after : Kept} (n : ℕ) → mid ≡ pushed before (instruction.AndOpen ∷ []) → Wholly from mid rest inside → shut ≡ pushed inside (instruction.Close ∷ []) → after ≡ pushed shut (instruction.Store n ∷ []) → from.tokens.now ≡ part ++ rest.tokens.now → ReadsGuard n from part rest before after
guard_read {from} {rest} {part} {before} n a w b c e = record {
  tree = w.tree;
  is = w.is;
  split = e;
  spelled = ap kinds (append_cancel_right part w.begins.used rest.tokens.now (sym e ∙ w.begins.split)) ∙ w.begins.spelled;
  emitted = c ∙ ap (λ z. pushed z (instruction.Store n ∷ [])) (b ∙ ap (λ z. pushed z (instruction.Close ∷ [])) (w.emitted ∙ ap (λ z. pushed z (words w.tree)) a)) ∙ stored before (words w.tree) n;
  same_end = w.same_end;
}

-- a line that ends behind its tokens
ends_behind : (ts used rest left : List Token) → ts ≡ used ++ rest → Ends rest [] left → Ends ts used left
ends_behind ts used rest left h e =
    ⊎_elim
    (λ a. inl (h ∙ ap (λ l. used ++ l) a.0 ∙ append-nil used, a.1))
    (λ a. inr (a.0, a.1, h ∙ ap (λ l. used ++ l) a.2))
    e

-- the tokens of a transition, one part behind the other
joined : (w d f to when : Token) (a b c rest from r q s u : List Token) → from ≡ d ∷ r → r ≡ f ∷ q → q ≡ a ++ to ∷ s → s ≡ b ++ when ∷ u → u ≡ c ++ rest → w ∷ from ≡ (w ∷ d ∷ f ∷ a ++ to ∷ b ++ when ∷ c) ++ rest
joined w d f to when a b c rest from r q s u x y z v g =
    let lists = z ∙ ap (λ l. a ++ to ∷ l) (v ∙ ap (λ l. b ++ when ∷ l) g) in
    let regrouped = append_assoc (a ++ to ∷ b) (when ∷ c) rest ∙ append_assoc a (to ∷ b) (when ∷ c ++ rest) in
    ap (λ l. w ∷ l) (x ∙ ap (λ l. d ∷ l) (y ∙ ap (λ l. f ∷ l) (lists ∙ sym regrouped)))

-- a whole transition
pub trans_reads : (t : Transition) (w : Token) (from r q s u rest left : Rest) (k mid after : Kept) → w.kind ≡ Keyword Trans → ReadsNumber from t.number r → ReadsWord From r q → ReadsList To q t.from.now s → ReadsList When s t.to.now u → mid ≡ pushed k (step_tests (numbers_in t.from.now)) → ReadsGuard t.number.value u t.condition.now rest mid after → ReadsEnd rest left → LineFrom (w ∷ []) transing from (code.Trans t) left k after
trans_reads t w from r q s u rest left k mid after i x y z v em g o =
    let n = t.number in
    let f = y.behind.heads in
    let stores = enclosed instruction.AndOpen (words g.tree) ++ (instruction.Store n.value ∷ []) in
    record {
      tree = line.trans n z.tree v.tree g.tree (refs t.condition.now);
      is = up_to_when x y z v ∙ guard_passes n z.tree v.tree g ∙ o.passes _;
      shown = (z.tree, v.tree, g.tree, refl, z.numbers, v.numbers);
      parts = record {
        froms = z.tree;
        tos = v.tree;
        guard = g.tree;
        is = refl;
        opening = w ∷ digits n ∷ f.0 ∷ [];
        to = z.word;
        when = v.word;
        ends = ends_behind _ _ rest.tokens.now left.tokens.now (joined w (digits n) f.0 z.word v.word t.from.now t.to.now t.condition.now rest.tokens.now _ _ _ _ _ x.split f.2 z.split v.split g.split) o.ends;
        opens = (i, (refl, (f.1, tt)));
        from_spelled = z.spelled;
        to_is = z.ends;
        to_spelled = v.spelled;
        when_is = v.ends;
        condition_spelled = g.spelled;
      };
      emitted = g.emitted ∙ ap (λ z. pushed z stores) em ∙ pushed_append k (step_tests (numbers_in t.from.now)) stores ∙ ap (λ ns. pushed k (step_tests ns ++ stores)) z.numbers;
      same_end = o.same_end ∙ g.same_end ∙ v.same_end ∙ z.same_end ∙ y.behind.same_end ∙ x.same_end;
    }
