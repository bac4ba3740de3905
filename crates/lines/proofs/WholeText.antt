-- A whole text, line by line. Assumes nothing.
use Rattle.std.proofs.Common.{◌≡◌, ℕ, ◌<◌, ◌≤◌, List, [], ◌∷◌, ◌++◌, length, Ok, Err, Result, sym, refl, ap, ◌∙◌, subst, append_assoc, append-nil, arith}
use Rattle.faults.specs.declared.TextFault.{TextFault}
use Rattle.faults.specs.declared.TextFault.TheVariants.{Unexpected}
use Rattle.text.specs.declared.token.Token.{Token}
use Rattle.text.specs.declared.token.TokenKind.TheVariants.{LineEnd}
use Rattle.lines.specs.Grammar.{Tree, FitsLine}
use Rattle.lines.specs.Scan.{State, Move, Scan, scan, step, follow, start, goes, done, fault, reads, fails}
use Rattle.conditions.specs.declared.rest.Rest.{Rest}
use Rattle.lines.specs.Next.{lines_left}
use Rattle.lines.specs.Text.{read_lines, between, inside, onward, ended, put}
use Rattle.lines.specs.Laws.{Begins, LinesUpTo, here, line, Spelled, StuckText}
use Rattle.lines.proofs.Whole.{whole}
use Rattle.lines.proofs.Sound.{sound, ends_shorter}
use Rattle.lines.proofs.Refusing.{refused}

abbrev Lines : Type 0
Lines = Result (List Tree) TextFault

failed : {A : Type 0} {f : TextFault} {l : Tree} {rest : List Token} → fails f ≡ reads l rest → A
failed h = let z : ◌≡◌ {A = ℕ} 0 1 = cc in absurd (omega arith)

refusing : {A : Type 0} {f : TextFault} {ls : List Tree} → ◌≡◌ {A = Lines} (Err f) (Ok ls) → A
refusing h = let z : ◌≡◌ {A = ℕ} 0 1 = cc in absurd (omega arith)

same_error : {f g : TextFault} → ◌≡◌ {A = Lines} (Err f) (Err g) → f ≡ g
same_error h = cc

-- a line that the scan reads stands before what follows it
on_out : (e : ℕ) (l : Tree) (rest : List Token) (s : Move) → follow s (λ x. fails (Unexpected e)) [] ≡ reads l rest → ended e s ≡ put l (read_lines rest between e)
on_out e l rest (goes x) h = failed h
on_out e l rest (done d) h =
    let a : d ≡ l = cc in
    let b : [] ≡ rest = cc in
    ap (λ z. Ok (z ∷ [])) a ∙ ap (λ r. put l (read_lines r between e)) b
on_out e l rest (fault f) h = failed h

on_token : (ts : List Token) (e : ℕ) (l : Tree) (rest : List Token) (s : Move) → ((x : State) → scan ts x e ≡ reads l rest → read_lines ts (inside x) e ≡ put l (read_lines rest between e)) → follow s (λ x. scan ts x e) ts ≡ reads l rest → onward s (λ m. read_lines ts m e) ≡ put l (read_lines rest between e)
on_token ts e l rest (goes x) ih h = ih x h
on_token ts e l rest (done d) ih h =
    let a : d ≡ l = cc in
    let b : ts ≡ rest = cc in
    ap (λ z. put z (read_lines ts between e)) a ∙ ap (λ r. put l (read_lines r between e)) b
on_token ts e l rest (fault f) ih h = failed h

on_from : (ts : List Token) (x : State) (e : ℕ) (l : Tree) (rest : List Token) → scan ts x e ≡ reads l rest → read_lines ts (inside x) e ≡ put l (read_lines rest between e)
on_from [] x e l rest h = on_out e l rest (step x e LineEnd) h
on_from (t ∷ ts) x e l rest h = on_token ts e l rest (step x t.place t.kind) (λ y q. on_from ts y e l rest q) h

-- where it fails, the text fails
stray : {A : Type 0} {f : TextFault} {l : Tree} {rest : List Token} → reads l rest ≡ fails f → A
stray h = failed (sym h)

out_fails : (e : ℕ) (f : TextFault) (s : Move) → follow s (λ x. fails (Unexpected e)) [] ≡ fails f → ended e s ≡ Err f
out_fails e f (goes x) h = let z : Unexpected e ≡ f = cc in ap (λ f. Err f) z
out_fails e f (done d) h = stray h
out_fails e f (fault g) h = let z : g ≡ f = cc in ap (λ f. Err f) z

token_fails : (ts : List Token) (e : ℕ) (f : TextFault) (s : Move) → ((x : State) → scan ts x e ≡ fails f → read_lines ts (inside x) e ≡ Err f) → follow s (λ x. scan ts x e) ts ≡ fails f → onward s (λ m. read_lines ts m e) ≡ Err f
token_fails ts e f (goes x) ih h = ih x h
token_fails ts e f (done d) ih h = stray h
token_fails ts e f (fault g) ih h = let z : g ≡ f = cc in ap (λ f. Err f) z

fails_from : (ts : List Token) (x : State) (e : ℕ) (f : TextFault) → scan ts x e ≡ fails f → read_lines ts (inside x) e ≡ Err f
fails_from [] x e f h = out_fails e f (step x e LineEnd) h
fails_from (t ∷ ts) x e f h = token_fails ts e f (step x t.place t.kind) (λ y q. fails_from ts y e f q) h

-- the first line of a text that is not empty
pub first_line : (ts rest : List Token) (e : ℕ) (l : Tree) → 0 < length ts → scan ts start e ≡ reads l rest → read_lines ts between e ≡ put l (read_lines rest between e)
first_line [] rest e l n h = absurd (omega arith)
first_line (t ∷ ts) rest e l n h = on_from (t ∷ ts) start e l rest h

pub first_fails : (ts : List Token) (e : ℕ) (f : TextFault) → 0 < length ts → scan ts start e ≡ fails f → read_lines ts between e ≡ Err f
first_fails [] e f n h = absurd (omega arith)
first_fails (t ∷ ts) e f n h = fails_from (t ∷ ts) start e f h

-- several lines before those that follow
abbrev pub before : List Tree → Result (List Tree) TextFault → Result (List Tree) TextFault
before ls (Ok ms) = Ok (ls ++ ms)
before ls (Err f) = Err f

-- a loop over the lines: what is left, behind the lines that were read, gives the whole
abbrev pub Left : Rest → List Tree → Rest → Type 0
Left from ls rest = lines_left from ≡ before ls (lines_left rest)

before_none : (r : Lines) → r ≡ before [] r
before_none (Ok ls) = refl
before_none (Err f) = refl

before_put : (ls : List Tree) (l : Tree) (r : Lines) → before ls (put l r) ≡ before (ls ++ l ∷ []) r
before_put ls l (Ok ms) = ap (λ z. Ok z) (sym (append_assoc ls (l ∷ []) ms))
before_put ls l (Err f) = refl

pub left_all : (from : Rest) → Left from [] from
left_all from = before_none (lines_left from)

pub left_less : (from rest after : Rest) (ls : List Tree) (l : Tree) → Left from ls rest → lines_left rest ≡ put l (lines_left after) → Left from (ls ++ l ∷ []) after
left_less from rest after ls l h first = h ∙ ap (λ z. before ls z) first ∙ before_put ls l (lines_left after)

-- the lines of a text
before_lines : (l : Tree) (ls : List Tree) (r : Lines) → put l (before ls r) ≡ before (l ∷ ls) r
before_lines l ls (Ok ms) = refl
before_lines l ls (Err f) = refl

pub lines_read : {ts left : List Token} {ls : List Tree} (e : ℕ) → LinesUpTo ts ls left → read_lines ts between e ≡ before ls (read_lines left between e)
lines_read {ts} e here = before_none (read_lines ts between e)
lines_read {left = left} e (line {t} {ts} {rest} {l = l} {ls} b s) = first_line (t ∷ ts) rest e l (omega arith) (whole (t ∷ ts) rest e l b) ∙ ap (λ z. put l z) (lines_read e s) ∙ before_lines l ls (read_lines left between e)

pub texts_whole : (ts : List Token) (e : ℕ) (ls : List Tree) → Spelled ts ls → read_lines ts between e ≡ Ok ls
texts_whole ts e ls s = lines_read e s ∙ ap (λ z. Ok z) (append-nil ls)

sound_behind : (t : Token) (ts rest : List Token) (l : Tree) (ls : List Tree) (r : Lines) → Begins l (t ∷ ts) rest → ((ms : List Tree) → r ≡ Ok ms → Spelled rest ms) → put l r ≡ Ok ls → Spelled (t ∷ ts) ls
sound_behind t ts rest l ls (Ok ms) b ih h = let z : l ∷ ms ≡ ls = cc in subst (λ l. Spelled (t ∷ ts) l) z (line b (ih ms refl))
sound_behind t ts rest l ls (Err f) b ih h = refusing h

sound_at : (t : Token) (ts : List Token) (e : ℕ) (ls : List Tree) (s : Scan) → scan (t ∷ ts) start e ≡ s → ((rest : List Token) (ms : List Tree) → length rest < length (t ∷ ts) → read_lines rest between e ≡ Ok ms → Spelled rest ms) → read_lines (t ∷ ts) between e ≡ Ok ls → Spelled (t ∷ ts) ls
sound_at t ts e ls (fails f) is ih h = refusing (sym (first_fails (t ∷ ts) e f (omega arith) is) ∙ h)
sound_at t ts e ls (reads l rest) is ih h =
    let b = sound (t ∷ ts) rest e l is in
    sound_behind t ts rest l ls (read_lines rest between e) b (λ ms q. ih rest ms (ends_shorter (t ∷ ts) b.used rest b.ends (omega arith)) q) (sym (first_line (t ∷ ts) rest e l (omega arith) is) ∙ h)

-- by a bound on the length
sound_within : (bound ts : List Token) (e : ℕ) (ls : List Tree) → length ts ≤ length bound → read_lines ts between e ≡ Ok ls → Spelled ts ls
sound_within bound [] e ls n h = let z : [] ≡ ls = cc in subst (λ l. Spelled [] l) z here
sound_within [] (t ∷ ts) e ls n h = absurd (omega arith)
sound_within (u ∷ bound) (t ∷ ts) e ls n h = sound_at t ts e ls (scan (t ∷ ts) start e) refl (λ rest ms m q. sound_within bound rest e ms (omega arith) q) h

pub texts_sound : (ts : List Token) (e : ℕ) (ls : List Tree) → read_lines ts between e ≡ Ok ls → Spelled ts ls
texts_sound ts e ls h = sound_within ts ts e ls (omega arith) h

-- where a text is stuck
stuck_behind : (t : Token) (ts rest : List Token) (e : ℕ) (l : Tree) (f : TextFault) (r : Lines) → Begins l (t ∷ ts) rest → (r ≡ Err f → StuckText rest e f) → put l r ≡ Err f → StuckText (t ∷ ts) e f
stuck_behind t ts rest e l f (Ok ms) b ih h = refusing (sym h)
stuck_behind t ts rest e l f (Err g) b ih h = let s = ih h in record { lines = l ∷ s.lines; rest = s.rest; read = line b s.read; more = s.more; stuck = s.stuck }

stuck_at : (t : Token) (ts : List Token) (e : ℕ) (f : TextFault) (s : Scan) → scan (t ∷ ts) start e ≡ s → ((rest : List Token) → length rest < length (t ∷ ts) → read_lines rest between e ≡ Err f → StuckText rest e f) → read_lines (t ∷ ts) between e ≡ Err f → StuckText (t ∷ ts) e f
stuck_at t ts e f (fails g) is ih h =
    let z : g ≡ f = same_error (sym (first_fails (t ∷ ts) e g (omega arith) is) ∙ h) in
    record { lines = []; rest = t ∷ ts; read = here; more = omega arith; stuck = refused (t ∷ ts) e f (is ∙ ap (λ f. fails f) z) }
stuck_at t ts e f (reads l rest) is ih h =
    let b = sound (t ∷ ts) rest e l is in
    stuck_behind t ts rest e l f (read_lines rest between e) b (λ q. ih rest (ends_shorter (t ∷ ts) b.used rest b.ends (omega arith)) q) (sym (first_line (t ∷ ts) rest e l (omega arith) is) ∙ h)

stuck_within : (bound ts : List Token) (e : ℕ) (f : TextFault) → length ts ≤ length bound → read_lines ts between e ≡ Err f → StuckText ts e f
stuck_within bound [] e f n h = refusing (sym h)
stuck_within [] (t ∷ ts) e f n h = absurd (omega arith)
stuck_within (u ∷ bound) (t ∷ ts) e f n h = stuck_at t ts e f (scan (t ∷ ts) start e) refl (λ rest m q. stuck_within bound rest e f (omega arith) q) h

pub texts_refused : (ts : List Token) (e : ℕ) (f : TextFault) → read_lines ts between e ≡ Err f → StuckText ts e f
texts_refused ts e f h = stuck_within ts ts e f (omega arith) h

-- what holds of each list of lines that fit holds of the lines of a text
pub each_fits : {ts rest : List Token} {ls : List Tree} (Q : List Tree → Type 0) → Q [] → ((l : Tree) (ms : List Tree) → FitsLine l → Q ms → Q (l ∷ ms)) → LinesUpTo ts ls rest → Q ls
each_fits Q n c here = n
each_fits Q n c (line {l = l} {ls} b s) = c l ls b.fits (each_fits Q n c s)
