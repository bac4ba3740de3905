use Rattle.std.proofs.Common.{◌≡◌, ℕ, ◌<◌, ◌≤◌, false, ltb, List, length, Ok, Err, Result, refl, ap, arith}
use Rattle.std.proofs.lemmas.Bool.{lt-ltb, le-ltb}
use Rattle.faults.specs.declared.ChartFault.{ChartFault}
use Rattle.faults.specs.declared.CodeFault.TheVariants.{BufferTooShort}
use Rattle.frames.specs.Bits.{bit, on}
use Rattle.frames.specs.Edges.{only_in}
use Rattle.codefile.specs.declared.directory.Directory.{Directory}
use Rattle.codefile.specs.File.{directory_of}
use Rattle.codefile.specs.Written.{file_of, word_count}
use Rattle.lines.specs.Grammar.{Tree}
use Rattle.compile.specs.Compiled.{program_of, file_of_chart, chart_of_text}
use Rattle.evolution.specs.declared.state.State.{State}
use Rattle.evolution.specs.Rules.{evolved, at_rest, initial_steps, start, output_frame}
use Rattle.plain.specs.Lexings.{Lexings}
use Rattle.plain.specs.WorkedExamples.{Sections, Compiles, two_step_chart}
use Rattle.plain.proofs.Worked.{stable_1, stable_2, circling_2, circling_3}
use Rattle.plain.proofs.table.worked_examples_hold.Goals as goal

lexings : Lexings
lexings = record {
  empty = refl;
  blanks = refl;
  no_blanks = refl;
  words = refl;
  list = refl;
  signs = refl;
  line_ends = refl;
  five_digits = refl;
  five_digits_later = refl;
  no_such_letter = refl;
  no_digit = refl;
  no_word = refl;
  tabulator = refl;
  longest = refl;
  too_long = refl;
}

-- the program of the chart has few enough words, and its file is so long and has this directory
abbrev FileOf : Result (List Tree) ChartFault → ℕ → Directory → Type 0
FileOf (Ok ls) needed d =
    (ltb 4096 (word_count (program_of ls)) ≡ false) × (length (file_of (program_of ls)) ≡ needed) × (directory_of (file_of (program_of ls)) ≡ d)
FileOf (Err f) needed d = ⊥

written_in : (r : Result (List Tree) ChartFault) (e needed : ℕ) (d : Directory) → FileOf r needed d → (room : ℕ) → needed ≤ room → Sections (file_of_chart r e room) d
written_in (Ok ls) e needed d h room l = let long : length (file_of (program_of ls)) ≤ room = omega (arith, h.1) in rw (h.0, le-ltb room (length (file_of (program_of ls))) long) h.2
written_in (Err f) e needed d h room l = absurd h

too_short_for : (r : Result (List Tree) ChartFault) (e needed : ℕ) (d : Directory) → FileOf r needed d → (room : ℕ) → room < needed → file_of_chart r e room ≡ Err (BufferTooShort needed)
too_short_for (Ok ls) e needed d h room l = let short : room < length (file_of (program_of ls)) = omega (arith, h.1) in rw (h.0, lt-ltb room (length (file_of (program_of ls))) short) (ap (λ n. Err (BufferTooShort n)) h.1)
too_short_for (Err f) e needed d h room l = absurd h

compiles : (text : List ℕ) (needed : ℕ) (d : Directory) → FileOf (chart_of_text text) needed d → Compiles text needed d
compiles text needed d h = record { written = written_in (chart_of_text text) (length text) needed d h; too_short = too_short_for (chart_of_text text) (length text) needed d h }

abbrev state : ℕ → ℕ → State
state active stored = record { active = active; stored = stored }

pub returns : goal.returns
unfolding bit on only_in evolved at_rest initial_steps start output_frame file_of
returns c = record {
  lexings = lexings;
  nothing = λ room. refl;
  step_64 = λ room. refl;
  step_63 = λ room. refl;
  two_steps_compiled = compiles two_step_chart 136 _ (refl, refl, refl);
  two_steps = record {
    lines = _;
    passes = refl;
    makes = (
      _,
      (
        stable_1 _ _ _ _ _ _ (state 1 0) refl refl refl,
        (
          _,
          (
            stable_1 _ _ _ _ _ _ (state 2 2) refl refl refl,
            (
              _,
              (
                stable_1 _ _ _ _ _ _ (state 1 2) refl refl refl,
                (_, (stable_2 _ _ _ _ _ _ (state 2 2) (state 1 2) refl refl refl refl refl, tt)),
              ),
            ),
          ),
        ),
      ),
    );
  };
  one_step = record {
    lines = _;
    passes = refl;
    makes = (_, (circling_2 _ _ _ _ _ _ (state 1 0) refl refl refl refl, tt));
  };
  in_turn = record {
    lines = _;
    passes = refl;
    makes = (_, (circling_3 _ _ _ _ _ _ (state 2 0) (state 1 0) refl refl refl refl refl (λ e. let x : ◌≡◌ {A = ℕ} 2 1 = ap (λ (y : State). y.active) e in omega arith) refl, tt));
  };
  one_rise = record {
    lines = _;
    passes = refl;
    makes = (
      _,
      (
        stable_1 _ _ _ _ _ _ (state 3 0) refl refl refl,
        (_, (stable_1 _ _ _ _ _ _ (state 6 0) refl refl refl, tt)),
      ),
    );
  };
}
