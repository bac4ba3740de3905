-- What a draft holds, line by line. Assumes nothing.
use Rattle.std.specs.Prelude.{◌≡◌, ℕ, true, false, List, [], ◌∷◌, Ok, Err, Result}
use Rattle.faults.specs.declared.TextFault.{TextFault}
use Rattle.frames.specs.Bits.{on}
use Rattle.words.specs.Emitted.{Kept, kept_in, nothing, pushed, joined}
use Rattle.lines.specs.declared.shape.Number.{Number}
use Rattle.lines.specs.declared.shape.Action.TheVariants as action
use Rattle.lines.specs.Grammar.{Tree, empty, step, trans, hold, enter}
use Rattle.lines.specs.Guards.{guard_words}
use Rattle.translation.specs.declared.draft.Draft.{Draft}
use Rattle.translation.specs.Translation.{each, initial_frame, switches, reset_words, set_words, enter_words, hold_words}
use Rattle.translation.specs.Translation.{clear_part, enter_part, hold_part}

-- the initial steps, and what is kept of each list
pub record Sketch : Type 0 where
  pub initial : ℕ
  pub clear : Kept
  pub resets : Kept
  pub sets : Kept
  pub enter : Kept
  pub hold : Kept

-- what this draft holds
abbrev pub sketch_of : Draft → Sketch
sketch_of d =
    record {
      initial = d.initial;
      clear = kept_in d.clear;
      resets = kept_in d.resets;
      sets = kept_in d.sets;
      enter = kept_in d.enter;
      hold = kept_in d.hold;
    }

-- no initial steps and no words
abbrev pub blank : Sketch
blank = record { initial = 0; clear = nothing; resets = nothing; sets = nothing; enter = nothing; hold = nothing }

-- the resets and the sets behind the tests
abbrev pub closed : Sketch → Sketch
closed d =
    record {
      initial = d.initial;
      clear = joined (joined d.clear d.resets) d.sets;
      resets = d.resets;
      sets = d.sets;
      enter = d.enter;
      hold = d.hold;
    }

-- the frame with a line more: the bit of its step on, if the step is initial
abbrev pub started : ℕ → Tree → ℕ
started x empty = x
started x (step n true) = on x n.value
started x (step n false) = x
started x (trans n fs ts c us) = x
started x (hold n q) = x
started x (enter n a q) = x

-- the frame, with the bits of all initial steps of these lines on
abbrev pub started_all : ℕ → List Tree → ℕ
started_all x [] = x
started_all x (l ∷ ls) = started_all (started x l) ls

-- with what a cleared transition does to its steps
abbrev pub with_switches : Sketch → ℕ → List Number → List Number → Sketch
with_switches d t fs ts =
    record {
      initial = d.initial;
      clear = d.clear;
      resets = pushed d.resets (switches action.Reset t fs);
      sets = pushed d.sets (switches action.Set t ts);
      enter = d.enter;
      hold = d.hold;
    }

-- with a line more, but for the words that test its transition
abbrev pub noted : Sketch → Tree → Sketch
noted d l =
    record {
      initial = started d.initial l;
      clear = d.clear;
      resets = pushed d.resets (reset_words l);
      sets = pushed d.sets (set_words l);
      enter = pushed d.enter (enter_words l);
      hold = pushed d.hold (hold_words l);
    }

-- with the lines of a text added
abbrev pub read_all : Sketch → List Tree → Sketch
read_all d ls =
    record {
      initial = started_all d.initial ls;
      clear = pushed d.clear (each guard_words ls);
      resets = pushed d.resets (each reset_words ls);
      sets = pushed d.sets (each set_words ls);
      enter = pushed d.enter (each enter_words ls);
      hold = pushed d.hold (each hold_words ls);
    }

-- the lines of a text are read, or its fault is answered
abbrev pub Reads : Result (List Tree) TextFault → Sketch → Sketch → Result (Unit {0}) TextFault → Type 0
Reads (Ok ls) before after r = (r ≡ Ok tt) × (after ≡ read_all before ls)
Reads (Err f) before after r = r ≡ Err f

-- the draft has the initial steps and the parts of these lines
pub record Drafted (ls : List Tree) (d : Draft) : Type 0 where
  pub initial : d.initial ≡ initial_frame ls
  pub clear : kept_in d.clear ≡ pushed nothing (clear_part ls)
  pub enter : kept_in d.enter ≡ pushed nothing (enter_part ls)
  pub hold : kept_in d.hold ≡ pushed nothing (hold_part ls)

-- of a text that is its lines, or has a fault
abbrev pub Translated : Result (List Tree) TextFault → Draft → Result (Unit {0}) TextFault → Type 0
Translated (Ok ls) d r = (r ≡ Ok tt) × Drafted ls d
Translated (Err f) d r = r ≡ Err f
