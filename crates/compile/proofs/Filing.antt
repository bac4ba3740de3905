-- The file of a text: it is accepted, says the text's program, and is the same in all room that suffices. Assumes nothing.
use Rattle.std.proofs.Common.{◌≡◌, ℕ, ◌<◌, ◌≤◌, ◌^◌, Bool, true, false, cond, ltb, List, [], length, take, drop, IfOk, Ok, Err, Result, refl, sym, ap, ◌∙◌, subst, arith, append-nil}
use Rattle.std.proofs.lemmas.Bool.{ltb-false}
use Rattle.std.proofs.lemmas.List.{take_at, take_all}
use Rattle.std.specs.List.{list_any}
use Rattle.faults.specs.declared.ChartFault.{ChartFault}
use Rattle.faults.specs.declared.CodeFault.{CodeFault}
use Rattle.faults.specs.declared.CodeFault.TheVariants.{BufferTooShort}
use Rattle.frames.proofs.BitLaws.{pack_fits}
use Rattle.codefile.specs.Format.{longest_file}
use Rattle.codefile.specs.File.{Code, code_of}
use Rattle.codefile.specs.declared.write.WriteFault.{WriteFault}
use Rattle.codefile.specs.declared.write.WriteFault.TheVariants as write
use Rattle.codefile.specs.Written.{written, file_of, word_count, SoundCode}
use Rattle.codefile.proofs.RoundTrip.{written_loads}
use Rattle.codefile.proofs.WrittenFiles.{same_written, never_too_short}
use Rattle.lines.specs.Grammar.{Tree}
use Rattle.translation.specs.Translation.{initial_frame, makes_initial}
use Rattle.translation.proofs.PartLaws.{parts_sound}
use Rattle.compile.specs.Compiled.{chart_of_text, program_of, file_of_chart, file_in, compiled, answer_of, buffer_with}
use Rattle.compile.specs.Laws.{FileOf, LoadsAs, RoomSuffices}
use Rattle.compile.proofs.Compiling.{lines_fit, Answers}

-- ---- it is accepted, and says the program of the text's lines
initial_fits : (ls : List Tree) → initial_frame ls < 2 ^ 64
unfolding initial_frame
initial_fits ls = pack_fits 64 (λ n. list_any (makes_initial n) ls)

sound_program : (text : List ℕ) (ls : List Tree) → chart_of_text text ≡ Ok ls → SoundCode (program_of ls)
sound_program text ls h =
    let s = parts_sound ls (lines_fit text ls h) in record { clears = s.clear.words; enters = s.enter.words; holds = s.hold.words }

-- a file that is written is that of the program, and has at most 4,096 words
whole : (c : Code) (file : List ℕ) (room e : ℕ) → file_in (written c room) e ≡ Ok file → (word_count c ≤ 4096) × (file_of c ≡ file)
whole c file room e = by (ltb 4096 (word_count c)) (ltb room (length (file_of c))) refl
  where
    by : (many short : Bool) → ltb 4096 (word_count c) ≡ many →
        file_in (cond many (Err write.TooManyWords) (cond short (Err (write.BufferTooShort (length (file_of c)))) (Ok (file_of c)))) e ≡ Ok file → (word_count c ≤ 4096) × (file_of c ≡ file)
    by true short t h = let z : ◌≡◌ {A = ℕ} 0 1 = cc in absurd (omega arith)
    by false true t h = let z : ◌≡◌ {A = ℕ} 0 1 = cc in absurd (omega arith)
    by false false t h = (ltb-false 4096 (word_count c) t, cc)

reads_back : (text file : List ℕ) (ls : List Tree) (room : ℕ) → chart_of_text text ≡ Ok ls → file_in (written (program_of ls) room) (length text) ≡ Ok file → FileOf text file
reads_back text file ls room p h =
    let w = whole (program_of ls) file room (length text) h in
    let long = ap length w.1 in
    let loads = written_loads (program_of ls) (length file) [] file (initial_fits ls) w.0 long (sym w.1 ∙ sym (append-nil _)) (sound_program text ls p) in
    record { lines = ls; passes = p; reads = ap code_of (sym (take_all (length file) file (omega arith))) ∙ loads }

file_of_lines : (text file : List ℕ) (room : ℕ) (r : Result (List Tree) ChartFault) → chart_of_text text ≡ r → file_of_chart r (length text) room ≡ Ok file → FileOf text file
file_of_lines text file room (Ok ls) p h = reads_back text file ls room p h
file_of_lines text file room (Err f) p h = let z : ◌≡◌ {A = ℕ} 0 1 = cc in absurd (omega arith)

pub file_of_text : (text file : List ℕ) (room : ℕ) → compiled text room ≡ Ok file → FileOf text file
file_of_text text file room h = file_of_lines text file room (chart_of_text text) refl h

-- ---- it stands in the buffer
stands : (text old new : List ℕ) (w : Result (List ℕ) CodeFault) → compiled text (length old) ≡ w → new ≡ buffer_with w old → IfOk (answer_of w) (λ n. LoadsAs text n new)
stands text old new (Ok file) is e =
    let front : take (length file) new ≡ file = ap (take (length file)) e ∙ take_at file (drop (length file) old) (length file) refl in
    subst (FileOf text) (sym front) (file_of_text text file (length old) is)
stands text old new (Err f) is e = tt

pub loads_as : (text old new : List ℕ) (r : Result ℕ CodeFault) → Answers text old new r → IfOk r (λ n. LoadsAs text n new)
loads_as text old new r a =
    let M : Result ℕ CodeFault → Type 0 = λ r. IfOk r (λ n. LoadsAs text n new) in
    subst M (sym a.answer) (stands text old new (compiled text (length old)) refl a.buffer)

-- ---- room for the longest file suffices
same_for : (r : Result (List Tree) ChartFault) (e room : ℕ) → longest_file ≤ room → file_of_chart r e room ≡ file_of_chart r e longest_file
same_for (Ok ls) e room h = ap (λ w. file_in w e) (same_written (program_of ls) room h)
same_for (Err f) e room h = refl

pub same_file : (text : List ℕ) (room : ℕ) → longest_file ≤ room → compiled text room ≡ compiled text longest_file
same_file text room h = same_for (chart_of_text text) (length text) room h

short_when : (w : Result (List ℕ) WriteFault) (e n : ℕ) → file_in w e ≡ Err (BufferTooShort n) → w ≡ Err (write.BufferTooShort n)
short_when (Ok file) e n h = let z : ◌≡◌ {A = ℕ} 0 1 = cc in absurd (omega arith)
short_when (Err write.TooManyWords) e n h = let z : ◌≡◌ {A = ℕ} 0 1 = cc in absurd (omega arith)
short_when (Err (write.BufferTooShort m)) e n h = let same : m ≡ n = cc in ap (λ k. Err (write.BufferTooShort k)) same

never_for : (r : Result (List Tree) ChartFault) (e room : ℕ) → longest_file ≤ room → (n : ℕ) → file_of_chart r e room ≡ Err (BufferTooShort n) → ⊥
never_for (Ok ls) e room h n is = never_too_short (program_of ls) room h n (short_when (written (program_of ls) room) e n is)
never_for (Err f) e room h n is = let z : ◌≡◌ {A = ℕ} 0 1 = cc in omega arith

pub never_short : (text : List ℕ) (room : ℕ) → longest_file ≤ room → (n : ℕ) → compiled text room ≡ Err (BufferTooShort n) → ⊥
never_short text room h n is = never_for (chart_of_text text) (length text) room h n is

pub room_suffices : (text : List ℕ) → RoomSuffices text
room_suffices text = record { same_file = same_file text; never_short = never_short text }
