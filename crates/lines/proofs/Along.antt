-- What the scan has gone along is spelled by its state, and is a viable prefix. Assumes nothing.
use Rattle.std.proofs.Common.{◌≡◌, ℕ, ◌+◌, ◌≤◌, Bool, true, false, cond, leb, ◌⊎◌, List, [], ◌∷◌, ◌++◌, map, sym, refl, ap, ◌∙◌, subst, inl, inr, append_assoc, append-nil, arith}
use mathlib.Core.List.{map-append}
use Rattle.std.proofs.lemmas.Bool.Decides.{nat_tests}
use Rattle.text.specs.declared.token.Word.{Word}
use Rattle.text.specs.declared.token.Word.TheVariants.{Step, Initial, Trans, From, To, When, Hold, Enter, Set, Reset}
use Rattle.faults.specs.declared.TextFault.{TextFault}
use Rattle.faults.specs.declared.TextFault.TheVariants.{TooLong, NoToken, TooManyDigits, Unexpected, EighthBracket, NumberTooLarge}
use Rattle.faults.specs.Numbers.{text_place}
use Rattle.text.specs.declared.token.Letter.{Letter}
use Rattle.text.specs.declared.token.Letter.TheVariants.{I, Q, X}
use Rattle.text.specs.declared.token.Token.{Token}
use Rattle.text.specs.declared.token.TokenKind.{TokenKind}
use Rattle.text.specs.declared.token.TokenKind.TheVariants.{Keyword, Digits, Operand, Comma, Dot, Plus, Bang, Open, Close, Slash, Backslash, LineEnd}
use Rattle.conditions.specs.Read.{kinds}
use Rattle.conditions.specs.Scan as condition
use Rattle.conditions.specs.Tree.{Cond}
use Rattle.conditions.specs.Tree.{spell as spell_cond}
use Rattle.conditions.specs.Laws as condition-laws
use Rattle.conditions.specs.Laws.{tally}
use Rattle.conditions.proofs.Viable as condition-along
use Rattle.conditions.proofs.Viable.{spelled, FitsState}
use Rattle.lines.specs.declared.shape.Number.{Number}
use Rattle.lines.specs.declared.shape.Action.TheVariants as action
use Rattle.lines.specs.Grammar as line
use Rattle.lines.specs.Grammar.{Tree, Numbers, more, Mark, kind, exactly, digits, spell_numbers, prefix, spell, Matches, Small, AllSmall, FitsLine}
use Rattle.lines.specs.Scan as automaton
use Rattle.lines.specs.Scan.{State, Move, step, goes, done, fault, number, output, word, listed, initial, verb, guard, end, same, only, by_word, by_digits, stepping, entering, transing, holding, start, noted, refs}
use Rattle.lines.specs.Laws.{Uses, Viable, Possible, Eighth, Large}
use Rattle.lines.proofs.Reading.{equal, join_matches, refs_append}
use Rattle.lines.proofs.Whole.{prefix_refs, prefix_tally}

-- what u spells so far by the grammar alone, told by what the line still wants
abbrev pub Spelt : List Token → State → Type 0
Spelt u start = u ≡ []
Spelt u (number k) = (n : Number) → Spelt (u ++ digits n ∷ []) (k n)
Spelt u (output k) = (n : Number) → Spelt (u ++ line.output n ∷ []) (k n)
Spelt u (word w x) = (t : Token) → t.kind ≡ Keyword w → Spelt (u ++ t ∷ []) x
Spelt u (listed ns w k) = (v : List Token) × (z : List Token) × (u ≡ v ++ z) × Matches z (spell_numbers ns) × ((ms : Numbers) (y : List Token) → Matches y (spell_numbers ms) → (t : Token) → t.kind ≡ Keyword w → Spelt (v ++ (y ++ t ∷ [])) (k ms))
Spelt u (initial n) = Matches u (kind (Keyword Step) ∷ exactly (digits n) ∷ [])
Spelt u (verb n) = Matches u (kind (Keyword Enter) ∷ exactly (digits n) ∷ [])
Spelt u (guard n fs ts us x) = (v : List Token) × (w : List Token) × (u ≡ v ++ w) × Matches v (prefix n fs ts) × (kinds w ≡ spelled x) × (us ≡ refs w)
Spelt u (end l) = Matches u (spell l) × Uses l u

-- the numbers and brackets so far are within the limits
abbrev pub Within : State → Type 0
Within start = Unit {0}
Within (number k) = (n : Number) → Small n → Within (k n)
Within (output k) = (n : Number) → Small n → Within (k n)
Within (word w x) = Within x
Within (listed ns w k) = AllSmall ns × ((ms : Numbers) → AllSmall ms → Within (k ms))
Within (initial n) = Small n
Within (verb n) = Small n
Within (guard n fs ts us x) = FitsState x × (Small n × AllSmall fs × AllSmall ts)
Within (end l) = FitsLine l

of_kinds : (u : List Token) (ks : List TokenKind) → kinds u ≡ ks → Matches u (map kind ks)
of_kinds [] [] h = tt
of_kinds [] (k ∷ ks) h = let z : ◌≡◌ {A = ℕ} 0 1 = cc in absurd (omega arith)
of_kinds (t ∷ u) [] h = let z : ◌≡◌ {A = ℕ} 0 1 = cc in absurd (omega arith)
of_kinds (t ∷ u) (k ∷ ks) h = let a : t.kind ≡ k = cc in let b : kinds u ≡ ks = cc in (a, of_kinds u ks b)

-- some number, and some token of a kind
abbrev nought : Number
nought = record { value = 0; place = 0 }

abbrev token : TokenKind → Token
token k = record { kind = k; place = 0 }

kinds_of : (ks : List TokenKind) → kinds (map token ks) ≡ ks
kinds_of [] = refl
kinds_of (k ∷ ks) = ap (λ l. k ∷ l) (kinds_of ks)

-- a transition with the rest of its condition
trans_spelled : (n : Number) (fs ts : Numbers) (c : Cond) (us : List Number) (u v w : List Token) (ks : List TokenKind) → u ≡ v ++ w → Matches v (prefix n fs ts) → kinds w ++ ks ≡ spell_cond c → Matches (u ++ map token ks) (spell (line.trans n fs ts c us))
trans_spelled n fs ts c us u v w ks e m h =
    let r = map token ks in
    let spelt : kinds (w ++ r) ≡ spell_cond c = map-append (λ t. t.kind) w r ∙ ap (λ l. kinds w ++ l) (kinds_of ks) ∙ h in
    subst (λ l. Matches l (spell (line.trans n fs ts c us))) (sym (append_assoc v w r) ∙ ap (λ l. l ++ r) (sym e)) (join_matches v (w ++ r) (prefix n fs ts) (map kind (spell_cond c)) m (of_kinds (w ++ r) (spell_cond c) spelt))

guard_possible : (n : Number) (fs ts : Numbers) (us : List Number) (u v w : List Token) (ks : List TokenKind) → u ≡ v ++ w → Matches v (prefix n fs ts) → kinds w ≡ ks → condition-laws.Possible ks → Possible u
guard_possible n fs ts us u v w ks e m h p = record { tree = line.trans n fs ts p.tree us; more = map token p.more; spelled = trans_spelled n fs ts p.tree us u v w p.more e m (ap (λ l. l ++ p.more) h ∙ p.spelled) }

-- each state can be completed, by the grammar alone
less_possible : (u v : List Token) → Possible (u ++ v) → Possible u
less_possible u v x = record { tree = x.tree; more = v ++ x.more; spelled = subst (λ l. Matches l (spell x.tree)) (append_assoc u v x.more) x.spelled }

spelled_out : (u : List Token) (l : Tree) → Matches u (spell l) → Matches (u ++ []) (spell l)
spelled_out u l m = subst (λ v. Matches v (spell l)) (sym (append-nil u)) m

verb_spelled : (n : Number) (u : List Token) → Matches u (kind (Keyword Enter) ∷ exactly (digits n) ∷ []) → Matches (u ++ token (Keyword Set) ∷ line.output nought ∷ []) (spell (line.enter n action.Set nought))
verb_spelled n u g = join_matches u (token (Keyword Set) ∷ line.output nought ∷ []) (kind (Keyword Enter) ∷ exactly (digits n) ∷ []) (kind (Keyword Set) ∷ exactly (line.output nought) ∷ []) g (refl, (refl, tt))

listed_out : (v z u : List Token) (t : Token) → u ≡ v ++ z → v ++ (z ++ t ∷ []) ≡ u ++ t ∷ []
listed_out v z u t e = sym (append_assoc v z (t ∷ [])) ∙ ap (λ l. l ++ t ∷ []) (sym e)

pub possible : (x : State) (u : List Token) → Spelt u x → Possible u
possible start u g = record { tree = line.empty; more = []; spelled = spelled_out u line.empty (subst (λ l. Matches l []) (sym g) tt) }
possible (number k) u g = less_possible u (digits nought ∷ []) (possible (k nought) (u ++ digits nought ∷ []) (g nought))
possible (output k) u g = less_possible u (line.output nought ∷ []) (possible (k nought) (u ++ line.output nought ∷ []) (g nought))
possible (word w x) u g = less_possible u (token (Keyword w) ∷ []) (possible x (u ++ token (Keyword w) ∷ []) (g (token (Keyword w)) refl))
possible (listed ns w k) u g =
    let t = token (Keyword w) in
    less_possible u (t ∷ []) (subst (λ l. Possible l) (listed_out g.0 g.1 u t g.2) (possible (k ns) (g.0 ++ (g.1 ++ t ∷ [])) (g.4 ns g.1 g.3 t refl)))
possible (initial n) u g = record { tree = line.step n false; more = []; spelled = spelled_out u (line.step n false) g }
possible (verb n) u g = record { tree = line.enter n action.Set nought; more = token (Keyword Set) ∷ line.output nought ∷ []; spelled = verb_spelled n u g }
possible (guard n fs ts us x) u g = guard_possible n fs ts us u g.0 g.1 (spelled x) g.2 g.3 g.4 (condition-along.possible x)
possible (end l) u g = record { tree = l; more = []; spelled = spelled_out u l g.0 }

-- and within them
less_viable : (u v : List Token) → Viable (u ++ v) → Viable u
less_viable u v x = record { tree = x.tree; more = v ++ x.more; spelled = subst (λ l. Matches l (spell x.tree)) (append_assoc u v x.more) x.spelled; fits = x.fits }

pub viable : (x : State) (u : List Token) → Spelt u x → Within x → Viable u
viable start u g b = record { tree = line.empty; more = []; spelled = spelled_out u line.empty (subst (λ l. Matches l []) (sym g) tt); fits = tt }
viable (number k) u g b = less_viable u (digits nought ∷ []) (viable (k nought) (u ++ digits nought ∷ []) (g nought) (b nought (omega arith)))
viable (output k) u g b = less_viable u (line.output nought ∷ []) (viable (k nought) (u ++ line.output nought ∷ []) (g nought) (b nought (omega arith)))
viable (word w x) u g b = less_viable u (token (Keyword w) ∷ []) (viable x (u ++ token (Keyword w) ∷ []) (g (token (Keyword w)) refl) b)
viable (listed ns w k) u g b =
    let t = token (Keyword w) in
    less_viable u (t ∷ []) (subst (λ l. Viable l) (listed_out g.0 g.1 u t g.2) (viable (k ns) (g.0 ++ (g.1 ++ t ∷ [])) (g.4 ns g.1 g.3 t refl) (b.1 ns b.0)))
viable (initial n) u g b = record { tree = line.step n false; more = []; spelled = spelled_out u (line.step n false) g; fits = b }
viable (verb n) u g b = record { tree = line.enter n action.Set nought; more = token (Keyword Set) ∷ line.output nought ∷ []; spelled = verb_spelled n u g; fits = (b, omega arith) }
viable (guard n fs ts us x) u g b =
    let v = condition-along.viable x b.0 in
    record { tree = line.trans n fs ts v.tree us; more = map token v.more; spelled = trans_spelled n fs ts v.tree us u g.0 g.1 v.more g.2 g.3 (ap (λ l. l ++ v.more) g.4 ∙ v.spelled); fits = (b.1.0, b.1.1, b.1.2, v.fits) }
viable (end l) u g b = record { tree = l; more = []; spelled = spelled_out u l g.0; fits = b }

-- what a fault at the token t says, for the limits, behind the tokens u
abbrev pub Limits : TextFault → List Token → Token → Type 0
Limits TooLong u t = ⊥
Limits (NoToken p) u t = ⊥
Limits (TooManyDigits p) u t = ⊥
Limits (Unexpected p) u t = Unit {0}
Limits (EighthBracket p) u t = Eighth u t
Limits (NumberTooLarge p) u t = Large u t

-- a step at the token t
abbrev pub Next : List Token → Token → Move → Type 0
Next u t (goes x) = Spelt (u ++ t ∷ []) x × Within x
Next u t (done l) = (t.kind ≡ LineEnd) × Matches u (spell l) × Uses l u × FitsLine l
Next u t (fault f) = (text_place f ≡ t.place) × Limits f u t

by : (q : Bool) (x y : Move) (u : List Token) (t : Token) → (q ≡ true → Next u t x) → (q ≡ false → Next u t y) → Next u t (cond q x y)
by true x y u t f g = f refl
by false x y u t f g = g refl

by_word_lem : (w : Word → Move) (d c : Move) (u : List Token) (t : Token) (k : TokenKind) → t.kind ≡ k → ((v : Word) → t.kind ≡ Keyword v → Next u t (w v)) → (t.kind ≡ LineEnd → Next u t d) → (t.kind ≡ Comma → Next u t c) → Next u t (by_word w d c t.place k)
by_word_lem w d c u t (Keyword v) e f g h = f v e
by_word_lem w d c u t (Digits n) e f g h = (refl, tt)
by_word_lem w d c u t (Operand l n) e f g h = (refl, tt)
by_word_lem w d c u t Comma e f g h = h e
by_word_lem w d c u t Dot e f g h = (refl, tt)
by_word_lem w d c u t Plus e f g h = (refl, tt)
by_word_lem w d c u t Bang e f g h = (refl, tt)
by_word_lem w d c u t Open e f g h = (refl, tt)
by_word_lem w d c u t Close e f g h = (refl, tt)
by_word_lem w d c u t Slash e f g h = (refl, tt)
by_word_lem w d c u t Backslash e f g h = (refl, tt)
by_word_lem w d c u t LineEnd e f g h = g e

by_number : (d : ℕ → Move) (o : Letter → ℕ → Move) (u : List Token) (t : Token) (k : TokenKind) → t.kind ≡ k → ((n : ℕ) → t.kind ≡ Digits n → Next u t (d n)) → ((l : Letter) (n : ℕ) → t.kind ≡ Operand l n → Next u t (o l n)) → Next u t (by_digits d o t.place k)
by_number d o u t (Keyword v) e f g = (refl, tt)
by_number d o u t (Digits n) e f g = f n e
by_number d o u t (Operand l n) e f g = g l n e
by_number d o u t Comma e f g = (refl, tt)
by_number d o u t Dot e f g = (refl, tt)
by_number d o u t Plus e f g = (refl, tt)
by_number d o u t Bang e f g = (refl, tt)
by_number d o u t Open e f g = (refl, tt)
by_number d o u t Close e f g = (refl, tt)
by_number d o u t Slash e f g = (refl, tt)
by_number d o u t Backslash e f g = (refl, tt)
by_number d o u t LineEnd e f g = (refl, tt)

small : (n : ℕ) → leb n 63 ≡ true → n ≤ 63
small n e = grind (arith, nat_tests)

large : (n : ℕ) → leb n 63 ≡ false → 64 ≤ n
large n e = grind (arith, nat_tests)

numbered : (u : List Token) (t s : Token) (n : Number) (k : Number → State) → t ≡ s → n.place ≡ t.place → (t.kind ≡ Digits n.value) ⊎ ((l : Letter) × (t.kind ≡ Operand l n.value)) → Spelt (u ++ s ∷ []) (k n) → (Small n → Within (k n)) → Next u t (automaton.small n.place n.value k)
numbered u t s n k e p h g b =
    let here = subst (λ z. Spelt (u ++ z ∷ []) (k n)) (sym e) g in
    by (leb n.value 63) (goes (k n)) (fault (NumberTooLarge n.place)) u t
    (λ q. (here, b (small n.value q)))
    (λ q. (p, record { number = n.value; named = h; above = large n.value q; otherwise = possible (k n) (u ++ t ∷ []) here }))

same_token : (t : Token) (k : TokenKind) → t.kind ≡ k → t ≡ record { kind = k; place = t.place }
same_token t k h = ap (λ k. record { kind = k; place = t.place }) h

numbers_on : (u : List Token) (t : Token) (k : Number → State) → Spelt u (number k) → Within (number k) → (n : ℕ) → t.kind ≡ Digits n → Next u t (automaton.small t.place n k)
numbers_on u t k g b n h =
    let m : Number = record { value = n; place = t.place } in
    numbered u t (digits m) m k (same_token t (Digits n) h) refl (inl h) (g m) (b m)

outputs_on : (u : List Token) (t : Token) (k : Number → State) → Spelt u (output k) → Within (output k) → (l : Letter) (n : ℕ) → t.kind ≡ Operand l n → Next u t (automaton.is_output t.place l n k)
outputs_on u t k g b I n h = (refl, tt)
outputs_on u t k g b Q n h =
    let m : Number = record { value = n; place = t.place } in
    numbered u t (line.output m) m k (same_token t (Operand Q n) h) refl (inr (Q, h)) (g m) (b m)
outputs_on u t k g b X n h = (refl, tt)

only_on : (w : Word) (x : State) (u : List Token) (t : Token) (v : Word) → t.kind ≡ Keyword v → (t.kind ≡ Keyword w → Next u t (goes x)) → Next u t (only w x t.place v)
only_on w x u t v h g = by (same w v) (goes x) (fault (Unexpected t.place)) u t (λ q. g (h ∙ ap (λ z. Keyword z) (sym (equal w v q)))) (λ q. (refl, tt))

ending_on : (l : Tree) (u : List Token) (t : Token) → Matches u (spell l) → Uses l u → FitsLine l → Next u t (automaton.ending l t.place t.kind)
ending_on l u t m d f = by_word_lem (λ v. fault (Unexpected t.place)) (done l) (fault (Unexpected t.place)) u t t.kind refl (λ v h. (refl, tt)) (λ h. (h, m, d, f)) (λ h. (refl, tt))

-- the words that begin a line
trans_spelt : (t : Token) → t.kind ≡ Keyword Trans → Spelt (t ∷ []) transing
trans_spelt t h n r hr f =
    let v = t ∷ digits n ∷ r ∷ [] in (
      v,
      digits f ∷ [],
      refl,
      (refl, tt),
      λ ms y m q hq b. (
        v ++ (y ++ q ∷ []),
        digits b ∷ [],
        refl,
        (refl, tt),
        λ ns z l o ho. ((v ++ (y ++ q ∷ [])) ++ (z ++ o ∷ []), [], sym (append-nil _), (h, (refl, (hr, join_matches (y ++ q ∷ []) (z ++ o ∷ []) _ _ (join_matches y (q ∷ []) (spell_numbers ms) (kind (Keyword To) ∷ []) m (hq, tt)) (join_matches z (o ∷ []) (spell_numbers ns) (kind (Keyword When) ∷ []) l (ho, tt))))), refl, refl),
      ),
    )

trans_within : Within transing
trans_within n sn f sf = (sf, λ ms s b sb. (sb, λ ns p. ((tt, tt, tt), (sn, s, p))))

begins_on : (u : List Token) (t : Token) (v : Word) → u ≡ [] → t.kind ≡ Keyword v → Next u t (automaton.begins t.place v)
begins_on u t Step e h = (subst (λ l. Spelt (l ++ t ∷ []) stepping) (sym e) (λ n. (h, (refl, tt))), λ n s. s)
begins_on u t Initial e h = (refl, tt)
begins_on u t Trans e h = (subst (λ l. Spelt (l ++ t ∷ []) transing) (sym e) (trans_spelt t h), trans_within)
begins_on u t From e h = (refl, tt)
begins_on u t To e h = (refl, tt)
begins_on u t When e h = (refl, tt)
begins_on u t Hold e h = (subst (λ l. Spelt (l ++ t ∷ []) holding) (sym e) (λ n q. ((h, (refl, (refl, tt))), tt)), λ n s q r. (s, r))
begins_on u t Enter e h = (subst (λ l. Spelt (l ++ t ∷ []) entering) (sym e) (λ n. (h, (refl, tt))), λ n s. s)
begins_on u t Set e h = (refl, tt)
begins_on u t Reset e h = (refl, tt)

enter_spelt : (n o : Number) (u : List Token) (t : Token) (w : Word) → Matches u (kind (Keyword Enter) ∷ exactly (digits n) ∷ []) → t.kind ≡ Keyword w → Matches ((u ++ t ∷ []) ++ line.output o ∷ []) (kind (Keyword Enter) ∷ exactly (digits n) ∷ kind (Keyword w) ∷ exactly (line.output o) ∷ [])
enter_spelt n o u t w g h = join_matches (u ++ t ∷ []) (line.output o ∷ []) (kind (Keyword Enter) ∷ exactly (digits n) ∷ kind (Keyword w) ∷ []) (exactly (line.output o) ∷ []) (join_matches u (t ∷ []) (kind (Keyword Enter) ∷ exactly (digits n) ∷ []) (kind (Keyword w) ∷ []) g (h, tt)) (refl, tt)

verbs_on : (n : Number) (u : List Token) (t : Token) (v : Word) → Spelt u (verb n) → Small n → t.kind ≡ Keyword v → Next u t (automaton.verbs n t.place v)
verbs_on n u t v g b h =
    by (same Set v) (goes (output (λ q. end (line.enter n action.Set q)))) _ u t
    (λ q. (λ o. (enter_spelt n o u t Set g (h ∙ ap (λ z. Keyword z) (sym (equal Set v q))), tt), λ o s. (b, s)))
    (λ z. only_on Reset (output (λ q. end (line.enter n action.Reset q))) u t v h (λ r. (λ o. (enter_spelt n o u t Reset g r, tt), λ o s. (b, s))))

listed_on : (ns : Numbers) (w : Word) (k : Numbers → State) (u : List Token) (t : Token) → Spelt u (listed ns w k) → Within (listed ns w k) → Next u t (step (listed ns w k) t.place t.kind)
listed_on ns w k u t g b =
    by_word_lem (λ v. only w (k ns) t.place v) (fault (Unexpected t.place)) (goes (number (λ n. listed (more ns n) w k))) u t t.kind refl
    (λ v h. only_on w (k ns) u t v h (λ q. (subst (λ l. Spelt l (k ns)) (listed_out g.0 g.1 u t g.2) (g.4 ns g.1 g.3 t q), b.1 ns b.0)))
    (λ h. (refl, tt))
    (λ h. (
      λ n. (g.0, g.1 ++ t ∷ digits n ∷ [], ap (λ l. (l ++ t ∷ []) ++ digits n ∷ []) g.2 ∙ simp append_assoc, join_matches g.1 (t ∷ digits n ∷ []) (spell_numbers ns) (kind Comma ∷ exactly (digits n) ∷ []) g.3 (h, (refl, tt)), g.4),
      λ n s. ((b.0, s), b.1),
    ))

-- a condition's limits are the line's
limits_on : (f : TextFault) (n : Number) (fs ts : Numbers) (us : List Number) (u v w : List Token) (t : Token) (ks : List TokenKind) → u ≡ v ++ w → Matches v (prefix n fs ts) → kinds w ≡ ks → condition-along.Limits f ks t.kind → Limits f u t
limits_on TooLong n fs ts us u v w t ks e m h l = l
limits_on (NoToken p) n fs ts us u v w t ks e m h l = l
limits_on (TooManyDigits p) n fs ts us u v w t ks e m h l = l
limits_on (Unexpected p) n fs ts us u v w t ks e m h l = tt
limits_on (EighthBracket p) n fs ts us u v w t ks e m h l =
    let count : (o c : ℕ) → tally o c (kinds u) ≡ tally o c ks = λ o c. ap (λ l. tally o c (kinds l)) e ∙ prefix_tally o c n fs ts v w m ∙ ap (λ l. tally o c l) h in
    record {
      opens = l.opens;
      seven = count 1 0 ∙ l.seven ∙ ap (λ n. n + 7) (sym (count 0 1));
      otherwise = guard_possible n fs ts us (u ++ t ∷ []) v (w ++ t ∷ []) (ks ++ t.kind ∷ []) (ap (λ l. l ++ t ∷ []) e ∙ append_assoc v w (t ∷ [])) m (map-append (λ t. t.kind) w (t ∷ []) ∙ ap (λ l. l ++ t.kind ∷ []) h) l.otherwise;
    }
limits_on (NumberTooLarge p) n fs ts us u v w t ks e m h l = record {
  number = l.number;
  named = inr (l.letter, l.operand);
  above = l.above;
  otherwise = guard_possible n fs ts us (u ++ t ∷ []) v (w ++ t ∷ []) (ks ++ t.kind ∷ []) (ap (λ l. l ++ t ∷ []) e ∙ append_assoc v w (t ∷ [])) m (map-append (λ t. t.kind) w (t ∷ []) ∙ ap (λ l. l ++ t.kind ∷ []) h) l.otherwise;
}

guarded_on : (n : Number) (fs ts : Numbers) (us : List Number) (x : condition.State) (u : List Token) (t : Token) (s : condition.Step) → Spelt u (guard n fs ts us x) → Within (guard n fs ts us x) → condition-along.Next s t.place (spelled x) t.kind → Next u t (automaton.guarded n fs ts us s t.place t.kind)
guarded_on n fs ts us x u t (condition.goes y) g b h = (
  (
    g.0,
    g.1 ++ t ∷ [],
    ap (λ l. l ++ t ∷ []) g.2 ∙ append_assoc g.0 g.1 (t ∷ []),
    g.3,
    map-append (λ t. t.kind) g.1 (t ∷ []) ∙ ap (λ l. l ++ t.kind ∷ []) g.4 ∙ sym h.1,
    ap (λ l. l ++ noted t.place t.kind) g.5 ∙ ap (λ l. refs g.1 ++ l) (sym (append-nil (noted t.place t.kind))) ∙ sym (refs_append g.1 (t ∷ [])),
  ),
  (h.0, b.1),
)
guarded_on n fs ts us x u t (condition.ends c) g b h =
    let m = join_matches g.0 g.1 (prefix n fs ts) (map kind (spell_cond c)) g.3 (of_kinds g.1 (spell_cond c) (g.4 ∙ sym h.1)) in
    let named = g.5 ∙ sym (prefix_refs n fs ts g.0 g.1 g.3) ∙ ap refs (sym g.2) in
    ending_on (line.trans n fs ts c us) u t (subst (λ l. Matches l (spell (line.trans n fs ts c us))) (sym g.2) m) named (b.1.0, b.1.1, b.1.2, h.0)
guarded_on n fs ts us x u t (condition.fault f) g b h = (h.0, limits_on f n fs ts us u g.0 g.1 t (spelled x) g.2 g.3 g.4 h.1)

pub advance : (x : State) (u : List Token) (t : Token) → Spelt u x → Within x → Next u t (step x t.place t.kind)
advance start u t g b = by_word_lem (λ w. automaton.begins t.place w) (done line.empty) (fault (Unexpected t.place)) u t t.kind refl (λ v h. begins_on u t v g h) (λ h. (h, subst (λ l. Matches l []) (sym g) tt, tt, tt)) (λ h. (refl, tt))
advance (number k) u t g b = by_number (λ n. automaton.small t.place n k) (λ l n. fault (Unexpected t.place)) u t t.kind refl (λ n h. numbers_on u t k g b n h) (λ l n h. (refl, tt))
advance (output k) u t g b = by_number (λ n. fault (Unexpected t.place)) (λ l n. automaton.is_output t.place l n k) u t t.kind refl (λ n h. (refl, tt)) (λ l n h. outputs_on u t k g b l n h)
advance (word w x) u t g b = by_word_lem (λ v. only w x t.place v) (fault (Unexpected t.place)) (fault (Unexpected t.place)) u t t.kind refl (λ v h. only_on w x u t v h (λ q. (g t q, b))) (λ h. (refl, tt)) (λ h. (refl, tt))
advance (listed ns w k) u t g b = listed_on ns w k u t g b
advance (initial n) u t g b =
    by_word_lem (λ v. only Initial (end (line.step n true)) t.place v) (done (line.step n false)) (fault (Unexpected t.place)) u t t.kind refl
    (λ v h. only_on Initial (end (line.step n true)) u t v h (λ q. ((join_matches u (t ∷ []) (kind (Keyword Step) ∷ exactly (digits n) ∷ []) (kind (Keyword Initial) ∷ []) g (q, tt), tt), b)))
    (λ h. (h, g, tt, b))
    (λ h. (refl, tt))
advance (verb n) u t g b = by_word_lem (λ v. automaton.verbs n t.place v) (fault (Unexpected t.place)) (fault (Unexpected t.place)) u t t.kind refl (λ v h. verbs_on n u t v g b h) (λ h. (refl, tt)) (λ h. (refl, tt))
advance (guard n fs ts us x) u t g b = guarded_on n fs ts us x u t (condition.step x t.place t.kind) g b (condition-along.advance x t.place t.kind b.0)
advance (end l) u t g b = ending_on l u t g.0 g.1 b
