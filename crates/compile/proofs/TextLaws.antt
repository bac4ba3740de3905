-- The laws of texts and charts, from those of their layers. Assumes nothing.
use Rattle.std.proofs.Common.{◌≡◌, ℕ, ◌<◌, ◌≤◌, Bool, true, false, cond, ltb, List, [], ◌∷◌, ◌++◌, length, Some, None, Ok, Err, Option, Result, sym, refl, ap, ◌∙◌, subst, inl, inr, append-nil, arith, ltb-false, ltb-true}
use Rattle.std.specs.List.{AllByRecursion}
use Rattle.faults.specs.Numbers.{text_place}
use Rattle.faults.specs.declared.TextFault.{TextFault}
use Rattle.text.specs.declared.token.Token.{Token}
use Rattle.text.specs.Lex.{tokens_of, answer}
use Rattle.text.specs.Spelled.{end_of}
use Rattle.text.proofs.Places.{places_below}
use Rattle.text.proofs.Texts.{text_spelled, text_alone}
use Rattle.lines.specs.Grammar.{Tree, empty}
use Rattle.conditions.specs.Read.{placed}
use Rattle.lines.specs.Laws.{LinesUpTo, here, line, StuckText, Viable, Ends}
use Rattle.lines.specs.Text.{read_lines, between}
use Rattle.lines.proofs.WholeText.{texts_sound, texts_whole, texts_refused}
use Rattle.chart.proofs.FirstFaults.{chart_law}
use Rattle.compile.specs.Compiled.{lines_up_to, sooner}
use Rattle.compile.specs.Laws.{GoesOn, Only, Reads, TextLaw, ChartLaw}

only : (ts : List Token) (e : ℕ) (ls : List Tree) → read_lines ts between e ≡ Ok ls → Only ts ls
only ts e ls h = (texts_sound ts e ls h, λ ks s. let k = texts_whole ts e ks s in cc)

nothing_begun : Viable []
nothing_begun = record { tree = empty; more = []; spelled = tt; fits = tt }

-- what holds of all tokens holds of those behind some lines
all_behind : (P : Token → Type 0) (us vs : List Token) → AllByRecursion P (us ++ vs) → AllByRecursion P vs
all_behind P [] vs a = a
all_behind P (u ∷ us) vs a = all_behind P us vs a.1

all_after : (P : Token → Type 0) (ts used rest : List Token) → Ends ts used rest → AllByRecursion P ts → AllByRecursion P rest
all_after P ts used rest (inl h) a = let Q : List Token → Type 0 = AllByRecursion P in subst Q (sym h.1) tt
all_after P ts used rest (inr h) a =
    let Q : List Token → Type 0 = AllByRecursion P in
    (all_behind P used (h.0 ∷ rest) (subst Q h.2 a)).1

all_left : (P : Token → Type 0) {ts rest : List Token} {ls : List Tree} → LinesUpTo ts ls rest → AllByRecursion P ts → AllByRecursion P rest
all_left P here a = a
all_left P (line b more) a = all_left P more (all_after P _ _ _ b.ends a)

-- tokens before a place, of which none comes at the place or behind it, are none
none_at : (ts : List Token) (e p : ℕ) → AllByRecursion (λ t. t.place < e) ts → e ≤ p → p ≡ placed ts e → ts ≡ []
none_at [] e p a late h = refl
none_at (t ∷ ts) e p a late h = let below = a.0 in absurd (omega arith)

-- a line that is stuck no earlier than where its tokens end goes on up to there
goes_on : (ts : List Token) (e : ℕ) (f : TextFault) → AllByRecursion (λ t. t.place < e) ts → e ≤ text_place f → StuckText ts e f → GoesOn ts
goes_on ts e f below late s =
    let here = s.stuck in
    let P : Token → Type 0 = λ t. t.place < e in
    let Q : List Token → Type 0 = AllByRecursion P in
    let left = all_behind P here.before here.rest (subst Q here.split (all_left P s.read below)) in
    let none = none_at here.rest e (text_place f) left late here.at in
    let whole : s.rest ≡ here.before = here.split ∙ ap (λ ts. here.before ++ ts) none ∙ append-nil here.before in
    record { lines = s.lines; rest = s.rest; whole = s.read; begun = subst Viable (sym whole) here.goes }

stopped : (ts : List Token) (stop : TextFault) (e : ℕ) (r : Result (List Tree) TextFault) → AllByRecursion (λ t. t.place < text_place stop) ts → read_lines ts between (text_place stop) ≡ r → Reads ts (Err stop) e (Err (sooner r stop))
stopped ts stop e (Ok ls) below h = inl (refl, record { lines = ls; rest = []; whole = texts_sound ts (text_place stop) ls h; begun = nothing_begun })
stopped ts stop e (Err f) below h = by (ltb (text_place f) (text_place stop)) refl
  where
    by : (b : Bool) → ltb (text_place f) (text_place stop) ≡ b → Reads ts (Err stop) e (Err (cond b f stop))
    by true t = inr (texts_refused ts (text_place stop) f h, ltb-true _ _ t)
    by false t = inl (refl, goes_on ts (text_place stop) f below (ltb-false _ _ t) (texts_refused ts (text_place stop) f h))

unstopped : (ts : List Token) (e : ℕ) (r : Result (List Tree) TextFault) → read_lines ts between e ≡ r → Reads ts (Ok tt) e r
unstopped ts e (Ok ls) h = only ts e ls h
unstopped ts e (Err f) h = texts_refused ts e f h

reads : (ts : List Token) (o : Option TextFault) (e : ℕ) → AllByRecursion (λ t. t.place < end_of o e) ts → Reads ts (answer o) e (lines_up_to ts o e)
reads ts None e below = unstopped ts e (read_lines ts between e) refl
reads ts (Some stop) e below = stopped ts stop e (read_lines ts between (text_place stop)) below refl

pub text_law : (text : List ℕ) → TextLaw text
text_law text = record {
  tokens = (tokens_of text).tokens;
  stop = answer (tokens_of text).stop;
  spelled = text_spelled text;
  alone = text_alone text;
  read = reads (tokens_of text).tokens (tokens_of text).stop (length text) (places_below text);
}

pub charts_law : (text : List ℕ) → ChartLaw text
charts_law text ls h = chart_law ls (length text)
