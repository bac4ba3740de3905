-- How a chart runs: the start state, an evolution by the five rules, stability, and the output frame. Assumes nothing.
use Rattle.std.specs.Prelude.{ℕ, Bool, true, cond, not, ◌&&◌, ◌||◌, List, [], ◌∷◌, ◌==◌}
use Rattle.std.specs.List.{list_any, list_all}
use Rattle.text.specs.declared.token.Letter.{Letter}
use Rattle.text.specs.declared.token.Letter.TheVariants.{I, Q, X}
use Rattle.conditions.specs.declared.tree.Atom.{Atom}
use Rattle.conditions.specs.declared.tree.Atom.TheVariants.{Plain, Rise, Fall, Always}
use Rattle.conditions.specs.Tree.{Cond, Term, Factor, Primary, term, or, factor, and, is, atom, bracket}
use Rattle.conditions.specs.Tree as tree
use Rattle.lines.specs.declared.shape.Action.{Action}
use Rattle.lines.specs.declared.shape.Action.TheVariants as action
use Rattle.frames.specs.Bits.{bit, on, off, pack}
use Rattle.frames.specs.Edges.{no_edges}
use Rattle.frames.specs.declared.edges.Edges.{Edges}
use Rattle.evolution.specs.declared.state.State.{State}
use Rattle.evolution.specs.Chart.{Chart, Transition, Entry}

-- ---- conditions
-- what a condition is judged by
pub record Situation : Type 0 where
  pub state : State
  pub inputs : ℕ
  pub edges : Edges

abbrev pub situation : ℕ → Edges → State → Situation
situation inputs edges s = record { state = s; inputs = inputs; edges = edges }

abbrev pub operand_holds : Letter → ℕ → Situation → Bool
operand_holds I n s = bit n s.inputs
operand_holds Q n s = bit n s.state.stored
operand_holds X n s = bit n s.state.active

abbrev pub atom_holds : Atom → Situation → Bool
atom_holds (Plain l n) s = operand_holds l n s
atom_holds (Rise n) s = bit n s.edges.rises
atom_holds (Fall n) s = bit n s.edges.falls
atom_holds Always s = true

abbrev mutual
  -- whether a condition is true: one of its terms is; a term if all its factors are; a factor with `!` if what it negates
  -- is not
  pub holds : Cond → Situation → Bool
  holds (term t) s = holds_term t s
  holds (or c t) s = holds c s || holds_term t s

  pub holds_term : Term → Situation → Bool
  holds_term (factor f) s = holds_factor f s
  holds_term (and t f) s = holds_term t s && holds_factor f s

  pub holds_factor : Factor → Situation → Bool
  holds_factor (is p) s = holds_primary p s
  holds_factor (tree.not p) s = not (holds_primary p s)

  pub holds_primary : Primary → Situation → Bool
  holds_primary (atom a) s = atom_holds a s
  holds_primary (bracket c) s = holds c s

-- ---- the evolution
abbrev pub is_active : ℕ → State → Bool
is_active n s = bit n s.active

-- rule 2: the activity of every preceding step enables a transition
abbrev pub enabled : Transition → State → Bool
enabled t s = list_all (λ n. is_active n s) t.preceding

-- enabled, and receptive: its condition is true
abbrev pub clearable : Transition → Situation → Bool
clearable t s = enabled t s.state && holds t.condition s

abbrev pub member : ℕ → List ℕ → Bool
member n ns = list_any (λ m. n == m) ns

-- rules 3 and 4: clearing is simultaneous, each transition being judged in the old situation. A step before a clearable
-- one is deactivated, a step behind it activated
abbrev pub deactivated : List Transition → Situation → ℕ → Bool
deactivated ts s n = list_any (λ t. clearable t s && member n t.preceding) ts

abbrev pub activated : List Transition → Situation → ℕ → Bool
activated ts s n = list_any (λ t. clearable t s && member n t.succeeding) ts

-- rule 5: activation prevails over deactivation
abbrev pub active_after : List Transition → Situation → ℕ → Bool
active_after ts s n = activated ts s n || (is_active n s.state && not (deactivated ts s n))

abbrev pub steps_after : List Transition → Situation → ℕ
steps_after ts s = pack 64 (active_after ts s)

-- the output is set or reset
abbrev pub acted : Action → ℕ → ℕ → ℕ
acted action.Set q stored = on stored q
acted action.Reset q stored = off stored q

-- the stored outputs after the enter actions of these steps, in the sequence of the text
abbrev pub entered : (ℕ → Bool) → List Entry → ℕ → ℕ
entered went [] stored = stored
entered went (e ∷ es) stored = entered went es (cond (went e.step) (acted e.action e.output stored) stored)

-- just activated: inactive before, active after
abbrev pub newly_active : ℕ → ℕ → ℕ → Bool
newly_active before after n = bit n after && not (bit n before)

-- one evolution: the steps by rules 2 to 5, then the enter actions of those just activated
unfoldable pub evolved : Chart → ℕ → Edges → State → State
evolved c inputs edges s =
    let after = steps_after c.transitions (situation inputs edges s) in
    record { active = after; stored = entered (newly_active s.active after) c.entries s.stored }

-- nothing is left to clear
unfoldable pub at_rest : Chart → ℕ → Edges → State → Bool
at_rest c inputs edges s = not (list_any (λ t. clearable t (situation inputs edges s)) c.transitions)

-- at rest with all edges false
abbrev pub stable : Chart → ℕ → State → Bool
stable c inputs s = at_rest c inputs no_edges s

-- the frame of the initial steps
unfoldable pub initial_steps : Chart → ℕ
initial_steps c = pack 64 (λ n. member n c.initial)

-- rule 1: exactly the initial steps are activated, with no stored output on; their enter actions come second
unfoldable pub start : Chart → State
start c = record { active = initial_steps c; stored = entered (λ n. bit n (initial_steps c)) c.entries 0 }

-- an output is on in the frame if the state has it stored, or if one of its active steps holds it
abbrev pub output_on : Chart → State → ℕ → Bool
output_on c s q = bit q s.stored || list_any (λ h. is_active h.step s && q == h.output) c.holdings

unfoldable pub output_frame : Chart → State → ℕ
output_frame c s = pack 64 (output_on c s)
