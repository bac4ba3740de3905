-- A chart: its initial steps, its transitions, and what its steps do to the outputs, in the order of the text.
-- Assumes nothing.
use Rattle.std.specs.Prelude.{ℕ, true, false, List, [], ◌∷◌, map}
use Rattle.conditions.specs.Tree.{Cond}
use Rattle.lines.specs.declared.shape.Number.{Number}
use Rattle.lines.specs.declared.shape.Action.{Action}
use Rattle.lines.specs.Grammar.{Tree, Numbers, items, empty, step, trans, hold, enter}

pub record Transition : Type 0 where
  pub number : ℕ
  pub preceding : List ℕ
  pub succeeding : List ℕ
  pub condition : Cond

-- when the step becomes active, the stored output is set or reset
pub record Entry : Type 0 where
  pub step : ℕ
  pub action : Action
  pub output : ℕ

-- while the step is active, the output is on
pub record Holding : Type 0 where
  pub step : ℕ
  pub output : ℕ

-- `initial` has the numbers of the initial steps
pub record Chart : Type 0 where
  pub initial : List ℕ
  pub transitions : List Transition
  pub entries : List Entry
  pub holdings : List Holding

-- ---- the chart of the lines of a text
-- the numbers of the step lines with `initial`
abbrev pub initials_in : List Tree → List ℕ
initials_in [] = []
initials_in (empty ∷ ls) = initials_in ls
initials_in (step n true ∷ ls) = n.value ∷ initials_in ls
initials_in (step n false ∷ ls) = initials_in ls
initials_in (trans n fs ts c us ∷ ls) = initials_in ls
initials_in (hold n q ∷ ls) = initials_in ls
initials_in (enter n a q ∷ ls) = initials_in ls

abbrev pub values : Numbers → List ℕ
values ns = map (λ n. n.value) (items ns)

abbrev pub transition : Number → Numbers → Numbers → Cond → Transition
transition n fs ts c = record { number = n.value; preceding = values fs; succeeding = values ts; condition = c }

abbrev pub transitions_in : List Tree → List Transition
transitions_in [] = []
transitions_in (empty ∷ ls) = transitions_in ls
transitions_in (step n b ∷ ls) = transitions_in ls
transitions_in (trans n fs ts c us ∷ ls) = transition n fs ts c ∷ transitions_in ls
transitions_in (hold n q ∷ ls) = transitions_in ls
transitions_in (enter n a q ∷ ls) = transitions_in ls

abbrev pub entries_in : List Tree → List Entry
entries_in [] = []
entries_in (empty ∷ ls) = entries_in ls
entries_in (step n b ∷ ls) = entries_in ls
entries_in (trans n fs ts c us ∷ ls) = entries_in ls
entries_in (hold n q ∷ ls) = entries_in ls
entries_in (enter n a q ∷ ls) = record { step = n.value; action = a; output = q.value } ∷ entries_in ls

abbrev pub holdings_in : List Tree → List Holding
holdings_in [] = []
holdings_in (empty ∷ ls) = holdings_in ls
holdings_in (step n b ∷ ls) = holdings_in ls
holdings_in (trans n fs ts c us ∷ ls) = holdings_in ls
holdings_in (hold n q ∷ ls) = record { step = n.value; output = q.value } ∷ holdings_in ls
holdings_in (enter n a q ∷ ls) = holdings_in ls

abbrev pub chart_of_lines : List Tree → Chart
chart_of_lines ls = record {
  initial = initials_in ls;
  transitions = transitions_in ls;
  entries = entries_in ls;
  holdings = holdings_in ls;
}
