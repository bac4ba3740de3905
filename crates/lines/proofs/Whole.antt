-- The scan reads each line that is spelled. Assumes nothing.
use Rattle.std.proofs.Common.{◌≡◌, ℕ, ◌-◌, true, false, cond, List, [], ◌∷◌, ◌++◌, map, length, sym, refl, ap, ◌∙◌, subst, ⊎_elim, append_assoc, append-nil, arith, le-leb}
use mathlib.Core.List.{map-append}
use Rattle.text.specs.declared.token.Word.{Word}
use Rattle.text.specs.declared.token.Word.TheVariants.{Step, Initial, Trans, From, To, When, Hold, Enter, Set, Reset}
use Rattle.faults.specs.declared.TextFault.{TextFault}
use Rattle.faults.specs.declared.TextFault.TheVariants.{Unexpected, NumberTooLarge}
use Rattle.text.specs.declared.token.Token.{Token}
use Rattle.text.specs.declared.token.TokenKind.{TokenKind}
use Rattle.text.specs.declared.token.TokenKind.TheVariants.{Keyword, Comma, Dot, Plus, LineEnd}
use Rattle.conditions.specs.Read.{kinds, Lacks}
use Rattle.conditions.specs.Scan as condition
use Rattle.conditions.specs.Tree.{Cond, Fits}
use Rattle.conditions.specs.Tree.{spell as spell_cond}
use Rattle.conditions.specs.Laws as text
use Rattle.conditions.specs.Laws.{bracketed, tally}
use Rattle.conditions.proofs.Counts.{tally_append}
use Rattle.conditions.proofs.Complete.{whole as whole-condition}
use Rattle.lines.specs.declared.shape.Number.{Number}
use Rattle.lines.specs.declared.shape.Action.{Action}
use Rattle.lines.specs.declared.shape.Action.TheVariants as action
use Rattle.lines.specs.Grammar as line
use Rattle.lines.specs.Grammar.{Tree, Numbers, one, more, Mark, kind, exactly, digits, spell_numbers, prefix, spell, Meets, Matches, Small, AllSmall, FitsLine}
use Rattle.lines.specs.Scan as automaton
use Rattle.lines.specs.Scan.{State, scan, step, follow, goes, fault, reads, fails, number, output, word, listed, initial, verb, guard, end, same, stepping, entering, transing, holding, start, noted, refs, line_of}
use Rattle.lines.specs.Laws.{Uses, Begins, Only, Nowhere}
use Rattle.lines.proofs.Reading.{on, guard_reads, refs_append, used_part}

-- the scan of u and then rest goes from x to y, over the first marks
pub record Gone (x y : State) (e : ℕ) (u rest : List Token) (ms : List Mark) : Type 0 where
  pub left : List Token
  pub matches : Matches left ms
  pub passes : scan (u ++ rest) x e ≡ scan (left ++ rest) y e

pub go : (m : Mark) (x y : State) (e : ℕ) (u rest : List Token) (ms : List Mark) → Matches u (m ∷ ms) → ((t : Token) → Meets t m → step x t.place t.kind ≡ goes y) → Gone x y e u rest ms
go m x y e [] rest ms h s = absurd h
go m x y e (t ∷ u) rest ms h s = record { left = u; matches = h.1; passes = on x e t (u ++ rest) (goes y) (s t h.0) }

then : (x y z : State) (e : ℕ) (u rest : List Token) (ms ns : List Mark) → Gone x y e u rest ms → ((v : List Token) → Matches v ms → Gone y z e v rest ns) → Gone x z e u rest ns
then x y z e u rest ms ns g next = let n = next g.left g.matches in record { left = n.left; matches = n.matches; passes = g.passes ∙ n.passes }

pub go_kind : (k : TokenKind) (x y : State) (e : ℕ) (u rest : List Token) (ms : List Mark) → Matches u (kind k ∷ ms) → ((at : ℕ) → step x at k ≡ goes y) → Gone x y e u rest ms
go_kind k x y e u rest ms h s = go (kind k) x y e u rest ms h (λ t m. ap (λ k. step x t.place k) m ∙ s t.place)

small_goes : (n : Number) (k : Number → State) → Small n → automaton.small n.place n.value k ≡ goes (k n)
small_goes n k h = ap (λ q. cond q (goes (k n)) (fault (NumberTooLarge n.place))) (le-leb n.value 63 h)

pub go_number : (n : Number) (k : Number → State) (e : ℕ) (u rest : List Token) (ms : List Mark) → Small n → Matches u (exactly (digits n) ∷ ms) → Gone (number k) (k n) e u rest ms
go_number n k e u rest ms f h = go (exactly (digits n)) (number k) (k n) e u rest ms h (λ t m. ap (λ t. step (number k) t.place t.kind) m ∙ small_goes n k f)

pub go_output : (n : Number) (k : Number → State) (e : ℕ) (u rest : List Token) (ms : List Mark) → Small n → Matches u (exactly (line.output n) ∷ ms) → Gone (output k) (k n) e u rest ms
go_output n k e u rest ms f h = go (exactly (line.output n)) (output k) (k n) e u rest ms h (λ t m. ap (λ t. step (output k) t.place t.kind) m ∙ small_goes n k f)

pub self : (w : Word) → same w w ≡ true
self Step = refl
self Initial = refl
self Trans = refl
self From = refl
self To = refl
self When = refl
self Hold = refl
self Enter = refl
self Set = refl
self Reset = refl

pub go_word : (w : Word) (x : State) (e : ℕ) (u rest : List Token) (ms : List Mark) → Matches u (kind (Keyword w) ∷ ms) → Gone (word w x) x e u rest ms
go_word w x e u rest ms h = go_kind (Keyword w) (word w x) x e u rest ms h (λ at. ap (λ q. cond q (goes x) (fault (Unexpected at))) (self w))

go_list : (ns : Numbers) (w : Word) (k : Numbers → State) (e : ℕ) (u rest : List Token) (ms : List Mark) → AllSmall ns → Matches u (spell_numbers ns ++ ms) → Gone (number (λ n. listed (one n) w k)) (listed ns w k) e u rest ms
go_list (one n) w k e u rest ms f h = go_number n (λ n. listed (one n) w k) e u rest ms f h
go_list (more ns n) w k e u rest ms f h =
    then (number (λ n. listed (one n) w k)) (listed ns w k) (listed (more ns n) w k) e u rest (kind Comma ∷ exactly (digits n) ∷ ms) ms
    (go_list ns w k e u rest (kind Comma ∷ exactly (digits n) ∷ ms) f.0 (subst (λ l. Matches u l) (append_assoc (spell_numbers ns) (kind Comma ∷ exactly (digits n) ∷ []) ms) h))
    (λ v m. then (listed ns w k) (number (λ n. listed (more ns n) w k)) (listed (more ns n) w k) e v rest (exactly (digits n) ∷ ms) ms
    (go_kind Comma (listed ns w k) (number (λ n. listed (more ns n) w k)) e v rest (exactly (digits n) ∷ ms) m (λ at. refl))
    (λ z q. go_number n (λ n. listed (more ns n) w k) e z rest ms f.1 q))

-- a list and the word behind it
go_list_word : (ns : Numbers) (w : Word) (k : Numbers → State) (e : ℕ) (u rest : List Token) (ms : List Mark) → AllSmall ns → Matches u ((spell_numbers ns ++ kind (Keyword w) ∷ []) ++ ms) → Gone (number (λ n. listed (one n) w k)) (k ns) e u rest ms
go_list_word ns w k e u rest ms f h =
    then (number (λ n. listed (one n) w k)) (listed ns w k) (k ns) e u rest (kind (Keyword w) ∷ ms) ms
    (go_list ns w k e u rest (kind (Keyword w) ∷ ms) f (subst (λ l. Matches u l) (append_assoc (spell_numbers ns) (kind (Keyword w) ∷ []) ms) h))
    (λ v m. go_kind (Keyword w) (listed ns w k) (k ns) e v rest ms m (λ at. ap (λ q. cond q (goes (k ns)) (fault (Unexpected at))) (self w)))

-- the line's end: nothing, or a token and what is behind it
record Tail (tail rest : List Token) : Type 0 where
  stops : (l : Tree) (e : ℕ) → scan tail (end l) e ≡ reads l rest
  initially : (n : Number) (e : ℕ) → scan tail (initial n) e ≡ reads (line.step n false) rest
  starts : (e : ℕ) → scan tail start e ≡ reads line.empty rest
  undotted : Lacks Dot tail
  unadded : Lacks Plus tail

no_tail : (rest : List Token) → rest ≡ [] → Tail [] rest
no_tail rest h = record { stops = λ l e. ap (λ r. reads l r) (sym h); initially = λ n e. ap (λ r. reads (line.step n false) r) (sym h); starts = λ e. ap (λ r. reads line.empty r) (sym h); undotted = tt; unadded = tt }

apart : {A : Type 0} {x y z : A} → (z ≡ x → z ≡ y → ◌≡◌ {A = ℕ} 0 1) → z ≡ x → z ≡ y → ⊥
apart f a b = let z = f a b in omega arith

token_tail : (t : Token) (rest : List Token) → t.kind ≡ LineEnd → Tail (t ∷ rest) rest
token_tail t rest h = record {
  stops = λ l e. ap (λ k. follow (step (end l) t.place k) (λ x. scan rest x e) rest) h;
  initially = λ n e. ap (λ k. follow (step (initial n) t.place k) (λ x. scan rest x e) rest) h;
  starts = λ e. ap (λ k. follow (step start t.place k) (λ x. scan rest x e) rest) h;
  undotted = apart (λ a b. cc) h;
  unadded = apart (λ a b. cc) h;
}

-- nothing is left where no mark is
pub none_left : (u : List Token) → Matches u [] → u ≡ []
none_left [] h = refl
none_left (t ∷ u) h = absurd h

-- where no mark is left the scan has come to the rest
pub arrived : {x y : State} {e : ℕ} {u rest : List Token} → Gone x y e u rest [] → scan (u ++ rest) x e ≡ scan rest y e
arrived {y = y} {e} {rest = rest} g = g.passes ∙ ap (λ l. scan (l ++ rest) y e) (none_left g.left g.matches)

closing : (x : State) (l : Tree) (e : ℕ) (u tail rest : List Token) → Tail tail rest → Gone x (end l) e u tail [] → scan (u ++ tail) x e ≡ reads l rest
closing x l e u tail rest q g = arrived g ∙ q.stops l e

-- a token of this kind names no step and is no bracket
abbrev Quiet : TokenKind → Type 0
Quiet k = ((at : ℕ) → noted at k ≡ []) × ((o c : ℕ) → bracketed o c k ≡ 0)

abbrev AllQuiet : List Mark → Type 0
AllQuiet [] = Unit {0}
AllQuiet (kind k ∷ ms) = Quiet k × AllQuiet ms
AllQuiet (exactly t ∷ ms) = Quiet t.kind × AllQuiet ms

quiet_append : (ms ns : List Mark) → AllQuiet ms → AllQuiet ns → AllQuiet (ms ++ ns)
quiet_append [] ns a b = b
quiet_append (kind k ∷ ms) ns a b = (a.0, quiet_append ms ns a.1 b)
quiet_append (exactly t ∷ ms) ns a b = (a.0, quiet_append ms ns a.1 b)

quiet_word : (w : Word) → Quiet (Keyword w)
quiet_word w = (λ at. refl, λ o c. refl)

quiet_digits : (n : Number) → Quiet (digits n).kind
quiet_digits n = (λ at. refl, λ o c. refl)

quiet_numbers : (ns : Numbers) → AllQuiet (spell_numbers ns)
quiet_numbers (one n) = (quiet_digits n, tt)
quiet_numbers (more ns n) = quiet_append (spell_numbers ns) (kind Comma ∷ exactly (digits n) ∷ []) (quiet_numbers ns) ((λ at. refl, λ o c. refl), (quiet_digits n, tt))

quiet_list : (ns : Numbers) (w : Word) → AllQuiet (spell_numbers ns ++ kind (Keyword w) ∷ [])
quiet_list ns w = quiet_append (spell_numbers ns) (kind (Keyword w) ∷ []) (quiet_numbers ns) (quiet_word w, tt)

quiet_prefix : (n : Number) (fs ts : Numbers) → AllQuiet (prefix n fs ts)
quiet_prefix n fs ts = (quiet_word Trans, (quiet_digits n, (quiet_word From, quiet_append (spell_numbers fs ++ kind (Keyword To) ∷ []) (spell_numbers ts ++ kind (Keyword When) ∷ []) (quiet_list fs To) (quiet_list ts When))))

-- what holds of the kinds of quiet marks holds of each token
all_quiet : (u : List Token) (ms : List Mark) → Matches u ms → AllQuiet ms → AllQuiet (map (λ t. kind t.kind) u)
all_quiet [] [] m q = tt
all_quiet [] (k ∷ ms) m q = absurd m
all_quiet (t ∷ u) [] m q = absurd m
all_quiet (t ∷ u) (kind k ∷ ms) m q = (subst (λ k. Quiet k) (sym m.0) q.0, all_quiet u ms m.1 q.1)
all_quiet (t ∷ u) (exactly v ∷ ms) m q = (subst (λ t. Quiet t.kind) (sym m.0) q.0, all_quiet u ms m.1 q.1)

quiet_refs : (u : List Token) → AllQuiet (map (λ t. kind t.kind) u) → refs u ≡ []
quiet_refs [] q = refl
quiet_refs (t ∷ u) q = ap (λ l. l ++ refs u) (q.0.0 t.place) ∙ quiet_refs u q.1

quiet_tally : (o c : ℕ) (u : List Token) → AllQuiet (map (λ t. kind t.kind) u) → tally o c (kinds u) ≡ 0
quiet_tally o c [] q = refl
quiet_tally o c (t ∷ u) q = omega (arith, q.0.1 o c, quiet_tally o c u q.1)

-- a transition's part before its condition names no step and has no bracket
pub prefix_refs : (n : Number) (fs ts : Numbers) (u w : List Token) → Matches u (prefix n fs ts) → refs (u ++ w) ≡ refs w
prefix_refs n fs ts u w m = refs_append u w ∙ ap (λ l. l ++ refs w) (quiet_refs u (all_quiet u (prefix n fs ts) m (quiet_prefix n fs ts)))

pub prefix_tally : (o c : ℕ) (n : Number) (fs ts : Numbers) (u w : List Token) → Matches u (prefix n fs ts) → tally o c (kinds (u ++ w)) ≡ tally o c (kinds w)
prefix_tally o c n fs ts u w m =
    let z = quiet_tally o c u (all_quiet u (prefix n fs ts) m (quiet_prefix n fs ts)) in
    ap (λ l. tally o c l) (map-append (λ t. t.kind) u w) ∙ omega (arith, tally_append o c (kinds u) (kinds w), z)

-- the tokens of two runs of marks
pub record Cut (u : List Token) (ms ns : List Mark) : Type 0 where
  pub one : List Token
  pub two : List Token
  pub is : u ≡ one ++ two
  pub first : Matches one ms
  pub second : Matches two ns

pub cut : (u : List Token) (ms ns : List Mark) → Matches u (ms ++ ns) → Cut u ms ns
cut u [] ns h = record { one = []; two = u; is = refl; first = tt; second = h }
cut [] (m ∷ ms) ns h = absurd h
cut (t ∷ u) (m ∷ ms) ns h = let c = cut u ms ns h.1 in record { one = t ∷ c.one; two = c.two; is = ap (λ l. t ∷ l) c.is; first = (h.0, c.first); second = c.second }

pub kinds_of : (u : List Token) (ks : List TokenKind) → Matches u (map kind ks) → kinds u ≡ ks
kinds_of [] [] h = refl
kinds_of [] (k ∷ ks) h = absurd h
kinds_of (t ∷ u) [] h = absurd h
kinds_of (t ∷ u) (k ∷ ks) h = ap (λ l. l ∷ kinds u) h.0 ∙ ap (λ l. k ∷ l) (kinds_of u ks h.1)

pub cancel : (u v w : List Token) → u ++ w ≡ v ++ w → u ≡ v
cancel u v w e = let m = length (u ++ w) - length w in sym (used_part u w (u ++ w) m refl refl) ∙ used_part v w (u ++ w) m e refl

condition_reads : (n : Number) (fs ts : Numbers) (c : Cond) (us : List Number) (e : ℕ) (u tail rest : List Token) → Tail tail rest → Fits 0 c → Matches u (map kind (spell_cond c)) → us ≡ refs u → scan (u ++ tail) (guard n fs ts [] condition.start) e ≡ reads (line.trans n fs ts c us) rest
condition_reads n fs ts c us e u tail rest q f m d =
    let b : text.Begins c (u ++ tail) tail = record { used = u; split = refl; spelled = kinds_of u (spell_cond c) m; fits = f; undotted = q.undotted; unadded = q.unadded } in
    let g = guard_reads n fs ts [] condition.start e (u ++ tail) tail c (whole-condition (u ++ tail) tail e c b) in
    g.is ∙ ap (λ v. scan tail (end (line.trans n fs ts c (refs v))) e) (sym (cancel u g.used tail g.split)) ∙ ap (λ v. scan tail (end (line.trans n fs ts c v)) e) (sym d) ∙ q.stops (line.trans n fs ts c us) e

-- a transition up to its condition
trans_gone : (n : Number) (fs ts : Numbers) (e : ℕ) (v rest : List Token) → Small n → AllSmall fs → AllSmall ts → Matches v (prefix n fs ts) → Gone start (guard n fs ts [] condition.start) e v rest []
trans_gone n fs ts e v rest sn sf st m =
    let K : Numbers → State = λ fs. number (λ t. listed (one t) When (λ ts. guard n fs ts [] condition.start)) in
    let G = guard n fs ts [] condition.start in
    let A = number (λ f. listed (one f) To K) in
    let r1 = (spell_numbers fs ++ kind (Keyword To) ∷ []) ++ (spell_numbers ts ++ kind (Keyword When) ∷ []) in
    let r2 = spell_numbers ts ++ kind (Keyword When) ∷ [] in
    then start transing G e v rest (exactly (digits n) ∷ kind (Keyword From) ∷ r1) []
    (go_kind (Keyword Trans) start transing e v rest (exactly (digits n) ∷ kind (Keyword From) ∷ r1) m (λ at. refl))
    (λ v1 m1. then transing (word From A) G e v1 rest (kind (Keyword From) ∷ r1) []
    (go_number n (λ n. word From (number (λ f. listed (one f) To (λ fs. number (λ t. listed (one t) When (λ ts. guard n fs ts [] condition.start)))))) e v1 rest (kind (Keyword From) ∷ r1) sn m1)
    (λ v2 m2. then (word From A) A G e v2 rest r1 []
    (go_word From A e v2 rest r1 m2)
    (λ v3 m3. then A (K fs) G e v3 rest r2 []
    (go_list_word fs To K e v3 rest r2 sf m3)
    (λ v4 m4. go_list_word ts When (λ ts. guard n fs ts [] condition.start) e v4 rest [] st (subst (λ l. Matches v4 l) (sym (append-nil r2)) m4)))))

trans_reads : (n : Number) (fs ts : Numbers) (c : Cond) (us : List Number) (e : ℕ) (u tail rest : List Token) → Tail tail rest → FitsLine (line.trans n fs ts c us) → Matches u (spell (line.trans n fs ts c us)) → us ≡ refs u → scan (u ++ tail) start e ≡ reads (line.trans n fs ts c us) rest
trans_reads n fs ts c us e u tail rest q f m d =
    let p = cut u (prefix n fs ts) (map kind (spell_cond c)) m in
    ap (λ l. scan (l ++ tail) start e) p.is ∙ ap (λ l. scan l start e) (append_assoc p.one p.two tail) ∙ arrived (trans_gone n fs ts e p.one (p.two ++ tail) f.0 f.1 f.2 p.first) ∙
    condition_reads n fs ts c us e p.two tail rest q f.3 p.second (d ∙ ap refs p.is ∙ prefix_refs n fs ts p.one p.two p.first)

-- an enter line, whose word w stands for the action a
enter_reads : (w : Word) (a : Action) (n o : Number) (e : ℕ) (u tail rest : List Token) → Tail tail rest → Small n × Small o → Matches u (kind (Keyword Enter) ∷ exactly (digits n) ∷ kind (Keyword w) ∷ exactly (line.output o) ∷ []) → ((at : ℕ) → step (verb n) at (Keyword w) ≡ goes (output (λ q. end (line.enter n a q)))) → scan (u ++ tail) start e ≡ reads (line.enter n a o) rest
enter_reads w a n o e u tail rest q f m s =
    let l = line.enter n a o in
    let O = output (λ q. end (line.enter n a q)) in
    closing start l e u tail rest q
    (then start entering (end l) e u tail (exactly (digits n) ∷ kind (Keyword w) ∷ exactly (line.output o) ∷ []) []
    (go_kind (Keyword Enter) start entering e u tail (exactly (digits n) ∷ kind (Keyword w) ∷ exactly (line.output o) ∷ []) m (λ at. refl))
    (λ v m1. then entering (verb n) (end l) e v tail (kind (Keyword w) ∷ exactly (line.output o) ∷ []) []
    (go_number n (λ n. verb n) e v tail (kind (Keyword w) ∷ exactly (line.output o) ∷ []) f.0 m1)
    (λ x m2. then (verb n) O (end l) e x tail (exactly (line.output o) ∷ []) []
    (go_kind (Keyword w) (verb n) O e x tail (exactly (line.output o) ∷ []) m2 s)
    (λ z m3. go_output o (λ q. end (line.enter n a q)) e z tail [] f.1 m3))))

tail_reads : (l : Tree) (e : ℕ) (u tail rest : List Token) → Tail tail rest → FitsLine l → Matches u (spell l) → Uses l u → scan (u ++ tail) start e ≡ reads l rest
tail_reads line.empty e u tail rest q f m d = ap (λ v. scan (v ++ tail) start e) (none_left u m) ∙ q.starts e
tail_reads (line.step n true) e u tail rest q f m d =
    closing start (line.step n true) e u tail rest q
    (then start stepping (end (line.step n true)) e u tail (exactly (digits n) ∷ kind (Keyword Initial) ∷ []) []
    (go_kind (Keyword Step) start stepping e u tail (exactly (digits n) ∷ kind (Keyword Initial) ∷ []) m (λ at. refl))
    (λ v m1. then stepping (initial n) (end (line.step n true)) e v tail (kind (Keyword Initial) ∷ []) []
    (go_number n (λ n. initial n) e v tail (kind (Keyword Initial) ∷ []) f m1)
    (λ w m2. go_kind (Keyword Initial) (initial n) (end (line.step n true)) e w tail [] m2 (λ at. refl))))
tail_reads (line.step n false) e u tail rest q f m d =
    let g = then start stepping (initial n) e u tail (exactly (digits n) ∷ []) []
    (go_kind (Keyword Step) start stepping e u tail (exactly (digits n) ∷ []) m (λ at. refl))
    (λ v m1. go_number n (λ n. initial n) e v tail [] f m1) in
    arrived g ∙ q.initially n e
tail_reads (line.trans n fs ts c us) e u tail rest q f m d = trans_reads n fs ts c us e u tail rest q f m d
tail_reads (line.hold n o) e u tail rest q f m d =
    let l = line.hold n o in
    closing start l e u tail rest q
    (then start holding (end l) e u tail (exactly (digits n) ∷ exactly (line.output o) ∷ []) []
    (go_kind (Keyword Hold) start holding e u tail (exactly (digits n) ∷ exactly (line.output o) ∷ []) m (λ at. refl))
    (λ v m1. then holding (output (λ q. end (line.hold n q))) (end l) e v tail (exactly (line.output o) ∷ []) []
    (go_number n (λ n. output (λ q. end (line.hold n q))) e v tail (exactly (line.output o) ∷ []) f.0 m1)
    (λ w m2. go_output o (λ q. end (line.hold n q)) e w tail [] f.1 m2)))
tail_reads (line.enter n action.Set o) e u tail rest q f m d = enter_reads Set action.Set n o e u tail rest q f m (λ at. refl)
tail_reads (line.enter n action.Reset o) e u tail rest q f m d = enter_reads Reset action.Reset n o e u tail rest q f m (λ at. refl)

pub whole : (ts rest : List Token) (e : ℕ) (l : Tree) → Begins l ts rest → line_of ts e ≡ reads l rest
whole ts rest e l b =
    ⊎_elim
    (λ h. ap (λ l. scan l start e) (h.0 ∙ sym (append-nil b.used)) ∙ tail_reads l e b.used [] rest (no_tail rest h.1) b.fits b.spelled b.uses)
    (λ h. ap (λ l. scan l start e) h.2 ∙ tail_reads l e b.used (h.0 ∷ rest) rest (token_tail h.0 rest h.1) b.fits b.spelled b.uses)
    b.ends

-- no other line is spelled, and none where the scan fails
same_line : {l m : Tree} {ts us : List Token} → reads l ts ≡ reads m us → (m ≡ l) × (us ≡ ts)
same_line h = (cc, cc)

pub only_one : (ts rest : List Token) → Only ts rest
only_one ts rest l m us a b = same_line (sym (whole ts rest 0 l a) ∙ whole ts us 0 m b)

pub nowhere : (ts : List Token) (e : ℕ) (f : TextFault) → scan ts start e ≡ fails f → Nowhere ts
nowhere ts e f h l us b = let s : reads l us ≡ fails f = sym (whole ts us e l b) ∙ h in let z : ◌≡◌ {A = ℕ} 0 1 = cc in omega arith
