-- What compile answers, from its two steps. Assumes nothing.
use Rattle.std.proofs.Common.{◌≡◌, ℕ, ◌≤◌, Bool, true, false, cond, ltb, List, length, IfOk, Ok, Err, Result, sym, refl, ap, ◌∙◌, subst, arith}
use Rattle.std.proofs.lemmas.Bool.{ltb-false}
use Rattle.faults.specs.declared.TextFault.{TextFault}
use Rattle.faults.specs.declared.ChartFault.{ChartFault}
use Rattle.faults.specs.declared.CodeFault.{CodeFault}
use Rattle.faults.specs.declared.CodeFault.TheVariants.{Chart}
use Rattle.codefile.specs.File.{Code}
use Rattle.codefile.specs.declared.write.WriteFault.TheVariants as write
use Rattle.codefile.specs.Written.{written, file_of, word_count}
use Rattle.lines.specs.Grammar.{Tree}
use Rattle.lines.specs.Laws.{LinesUpTo, here, line}
use Rattle.chart.specs.Checks.{chart_of}
use Rattle.text.specs.declared.token.Token.{Token}
use Rattle.translation.specs.declared.draft.Draft.{Draft}
use Rattle.translation.specs.Drafts.{Drafted}
use Rattle.translation.specs.Soundness.{AllFit}
use Rattle.compile.specs.Compiled.{lines_of, passed, chart_in, chart_of_text, program_of, file_of_chart, file_in, compiled, answer_of, buffer_with}
use Rattle.compile.specs.Laws.{Reads}
use Rattle.compile.specs.Steps.{Charted, Files}
use Rattle.compile.proofs.TextLaws.{text_law}

-- ---- a chart that is refused
fault_of : (r : Result (List Tree) ChartFault) (d : Draft) (f : ChartFault) → Charted r d (Err f) → r ≡ Err f
fault_of (Ok ls) d f h = let bad = h.0 in let z : ◌≡◌ {A = ℕ} 0 1 = cc in absurd (omega arith)
fault_of (Err g) d f h = let same : g ≡ f = cc in ap (λ x. Err x) same

pub refused : (text : List ℕ) (room : ℕ) (d : Draft) (f : ChartFault) → Charted (chart_of_text text) d (Err f) → compiled text room ≡ Err (Chart f)
refused text room d f h = ap (λ r. file_of_chart r (length text) room) (fault_of (chart_of_text text) d f h)

-- ---- a chart that is accepted
pub record Accepted (text : List ℕ) (d : Draft) : Type 0 where
  pub lines : List Tree
  pub chart : chart_of_text text ≡ Ok lines
  pub drafted : Drafted lines d

accepted_by : (r : Result (List Tree) ChartFault) (d : Draft) → Charted r d (Ok tt) → (ls : List Tree) × (r ≡ Ok ls) × Drafted ls d
accepted_by (Ok ls) d h = (ls, refl, h.1)
accepted_by (Err g) d h = let z : ◌≡◌ {A = ℕ} 0 1 = cc in absurd (omega arith)

pub accepted : (text : List ℕ) (d : Draft) → Charted (chart_of_text text) d (Ok tt) → Accepted text d
accepted text d h = let a = accepted_by (chart_of_text text) d h in record { lines = a.0; chart = a.1; drafted = a.2 }

-- its lines fit
all_fit : {ts rest : List Token} {ls : List Tree} → LinesUpTo ts ls rest → AllFit ls
all_fit here = tt
all_fit (line b more) = (b.fits, all_fit more)

lines_of_lem : (r : Result (List Tree) TextFault) (e : ℕ) (ls : List Tree) → chart_in r e ≡ Ok ls → r ≡ Ok ls
lines_of_lem (Ok ks) e ls h = ap (λ x. Ok x) (same (chart_of ks e) h)
  where
    same : (v : Result (Unit {0}) ChartFault) → passed ks v ≡ Ok ls → ks ≡ ls
    same (Ok u) h = cc
    same (Err f) h = let z : ◌≡◌ {A = ℕ} 0 1 = cc in absurd (omega arith)
lines_of_lem (Err f) e ls h = let z : ◌≡◌ {A = ℕ} 0 1 = cc in absurd (omega arith)

fit_by : (ts : List Token) (stop : Result (Unit {0}) TextFault) (e : ℕ) (ls : List Tree) → Reads ts stop e (Ok ls) → AllFit ls
fit_by ts (Ok u) e ls h = all_fit h.0
fit_by ts (Err f) e ls h = absurd h

pub lines_fit : (text : List ℕ) (ls : List Tree) → chart_of_text text ≡ Ok ls → AllFit ls
lines_fit text ls h =
    let law = text_law text in
    let R : Result (List Tree) TextFault → Type 0 = λ r. Reads law.tokens law.stop (length text) r in
    fit_by law.tokens law.stop (length text) ls (subst R (lines_of_lem (lines_of text) (length text) ls h) law.read)

pub record Answers (text old new : List ℕ) (r : Result ℕ CodeFault) : Type 0 where
  pub answer : r ≡ answer_of (compiled text (length old))
  pub buffer : new ≡ buffer_with (compiled text (length old)) old

pub answers : (text old new : List ℕ) (r : Result ℕ CodeFault) (ls : List Tree) → chart_of_text text ≡ Ok ls → Files ls (length text) old new r → Answers text old new r
answers text old new r ls h f =
    let same = ap (λ c. file_of_chart c (length text) (length old)) (sym h) in record {
      answer = f.answer ∙ ap answer_of same;
      buffer = f.buffer ∙ ap (λ w. buffer_with w old) same;
    }

-- ---- the length that is answered lies within the buffer
file_within : (c : Code) (room e : ℕ) → IfOk (answer_of (file_in (written c room) e)) (λ n. n ≤ room)
file_within c room e = by (ltb 4096 (word_count c)) (ltb room (length (file_of c))) refl
  where
    by : (many short : Bool) → ltb room (length (file_of c)) ≡ short →
        IfOk (answer_of (file_in (cond many (Err write.TooManyWords) (cond short (Err (write.BufferTooShort (length (file_of c)))) (Ok (file_of c)))) e)) (λ n. n ≤ room)
    by true short t = tt
    by false true t = tt
    by false false t = ltb-false room (length (file_of c)) t

chart_within : (r : Result (List Tree) ChartFault) (e room : ℕ) → IfOk (answer_of (file_of_chart r e room)) (λ n. n ≤ room)
chart_within (Ok ls) e room = file_within (program_of ls) room e
chart_within (Err f) e room = tt

pub within : (text : List ℕ) (room : ℕ) (r : Result ℕ CodeFault) → r ≡ answer_of (compiled text room) → IfOk r (λ n. n ≤ room)
within text room r h =
    let M : Result ℕ CodeFault → Type 0 = λ r. IfOk r (λ n. n ≤ room) in
    subst M (sym h) (chart_within (chart_of_text text) (length text) room)

-- ---- load after compile
