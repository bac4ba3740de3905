-- Runs of the machine over words: behind one another, of a condition, of lines, and of the enter lines. Assumes nothing.
use Rattle.std.proofs.Common.{◌≡◌, Bool, not, ◌&&◌, ◌||◌, List, [], ◌∷◌, ◌++◌, refl, ap, ◌∙◌}
use Rattle.words.specs.declared.instruction.Instruction.{Instruction}
use Rattle.words.specs.declared.instruction.Instruction.TheVariants.{AndOpen, OrOpen, Close, Not}
use Rattle.text.specs.declared.token.Letter.TheVariants.{I, Q, X}
use Rattle.conditions.specs.declared.tree.Atom.{Atom}
use Rattle.conditions.specs.declared.tree.Atom.TheVariants.{Plain, Rise, Fall, Always}
use Rattle.conditions.specs.Tree.{Cond, Term, Factor, Primary, term, or, factor, and, is, atom, bracket, operand_of, loaded, enclosed, words, words_term, words_factor, words_primary}
use Rattle.conditions.specs.Tree as tree
use Rattle.lines.specs.declared.shape.Action.TheVariants as action
use Rattle.lines.specs.Grammar.{Tree, empty, step, trans, hold, enter}
use Rattle.translation.specs.Translation.{each, enter_words, enter_part}
use Rattle.machine.specs.declared.memory.Memory.{Memory}
use Rattle.machine.specs.Machine.{Machine, value, load, with_state, run}
use Rattle.machine.specs.Machine as machine
use Rattle.evolution.specs.Chart.{Transition, transition, entries_in, transitions_in}
use Rattle.evolution.specs.Rules.{Situation, situation, atom_holds, holds, holds_term, holds_factor, entered, newly_active}
use Rattle.evolution.specs.Words.{state_in}

pub run_append : (us vs : List Instruction) (m : Machine) → run (us ++ vs) m ≡ run vs (run us m)
run_append [] vs m = refl
run_append (u ∷ us) vs m = run_append us vs (machine.step u m)

-- ---- conditions
-- what conditions are judged by in a memory
abbrev pub situation_in : Memory → Situation
situation_in m = situation m.inputs (record { rises = m.rises; falls = m.falls }) (state_in m)

atom_value : (a : Atom) (m : Memory) → value (operand_of a) m ≡ atom_holds a (situation_in m)
atom_value (Plain I n) m = refl
atom_value (Plain Q n) m = refl
atom_value (Plain X n) m = refl
atom_value (Rise n) m = refl
atom_value (Fall n) m = refl
atom_value Always m = refl

-- a bracket: the result is pushed, the words inside leave theirs, and the two are combined
pub and_bracket : (b : Bool) (ws : List Instruction) (m : Machine) →
    run ws (machine.step AndOpen m) ≡ load b (machine.step AndOpen m) →
    run (enclosed AndOpen ws) m ≡ load (m.result && b) m
and_bracket b ws m e = run_append ws (Close ∷ []) (machine.step AndOpen m) ∙ ap (machine.step Close) e

pub or_bracket : (b : Bool) (ws : List Instruction) (m : Machine) →
    run ws (machine.step OrOpen m) ≡ load b (machine.step OrOpen m) →
    run (enclosed OrOpen ws) m ≡ load (m.result || b) m
or_bracket b ws m e = run_append ws (Close ∷ []) (machine.step OrOpen m) ∙ ap (machine.step Close) e

mutual
  -- the words of a condition leave its value as the result
  pub condition_run : (c : Cond) (m : Machine) → run (words c) m ≡ load (holds c (situation_in m.memory)) m
  condition_run (term t) m = term_run t m
  condition_run (or c t) m =
      let n : Machine = load (holds c (situation_in m.memory)) m in
      run_append (words c) (enclosed OrOpen (words_term t)) m
      ∙ ap (run (enclosed OrOpen (words_term t))) (condition_run c m)
      ∙ or_bracket (holds_term t (situation_in m.memory)) (words_term t) n (term_run t (machine.step OrOpen n))

  term_run : (t : Term) (m : Machine) → run (words_term t) m ≡ load (holds_term t (situation_in m.memory)) m
  term_run (factor f) m = factor_run f m
  term_run (and t f) m =
      let n : Machine = load (holds_term t (situation_in m.memory)) m in
      run_append (words_term t) (enclosed AndOpen (words_factor f)) m
      ∙ ap (run (enclosed AndOpen (words_factor f))) (term_run t m)
      ∙ and_bracket (holds_factor f (situation_in m.memory)) (words_factor f) n (factor_run f (machine.step AndOpen n))

  factor_run : (f : Factor) (m : Machine) → run (words_factor f) m ≡ load (holds_factor f (situation_in m.memory)) m
  factor_run (is (atom a)) m = ap (λ (b : Bool). load b m) (atom_value a m.memory)
  factor_run (is (bracket c)) m = condition_run c m
  factor_run (tree.not (atom a)) m = ap (λ (b : Bool). load (not b) m) (atom_value a m.memory)
  factor_run (tree.not (bracket c)) m = run_append (words c) (Not ∷ []) m ∙ ap (machine.step Not) (condition_run c m)

-- ---- lines
-- a transition's line does this to the memory, and any other line nothing
abbrev pub on_line : (Transition → Memory → Memory) → Tree → Memory → Memory
on_line g empty x = x
on_line g (step n b) x = x
on_line g (trans n fs ts c us) x = g (transition n fs ts c) x
on_line g (hold n q) x = x
on_line g (enter n a q) x = x

-- what all transitions do to the memory, one behind the other
abbrev pub through : (Transition → Memory → Memory) → List Transition → Memory → Memory
through g [] x = x
through g (t ∷ ts) x = through g ts (g t x)

through_line : (g : Transition → Memory → Memory) (l : Tree) (ls : List Tree) (x : Memory) →
    through g (transitions_in ls) (on_line g l x) ≡ through g (transitions_in (l ∷ ls)) x
through_line g (trans n fs ts c us) ls x = refl
through_line g _ ls x = refl

-- words of every line do what the words of each line do
pub lines_run : (f : Tree → List Instruction) (g : Transition → Memory → Memory) →
    ((l : Tree) (m : Machine) → (run (f l) m).memory ≡ on_line g l m.memory) → (ls : List Tree) (m : Machine) →
    (run (each f ls) m).memory ≡ through g (transitions_in ls) m.memory
lines_run f g h [] m = refl
lines_run f g h (l ∷ ls) m =
    ap (λ (k : Machine). k.memory) (run_append (f l) (each f ls) m)
    ∙ lines_run f g h ls (run (f l) m)
    ∙ ap (through g (transitions_in ls)) (h l m)
    ∙ through_line g l ls m.memory

-- ---- the enter lines
-- the stored outputs change as the entries say, and nothing else does
pub enter_run : (ls : List Tree) (m : Machine) →
    (run (enter_part ls) m).memory ≡ with_state m.memory.active (entered (newly_active m.memory.before m.memory.active) (entries_in ls) m.memory.stored) m.memory
enter_run [] m = refl
enter_run (enter n action.Set q ∷ ls) m = enter_run ls (run (enter_words (enter n action.Set q)) m)
enter_run (enter n action.Reset q ∷ ls) m = enter_run ls (run (enter_words (enter n action.Reset q)) m)
enter_run (_ ∷ ls) m = enter_run ls m
