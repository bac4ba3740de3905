-- What the lines of a chart text declare, name, list and hold, each with its place. Assumes nothing.
use Rattle.std.specs.Prelude.{ℕ, Bool, false, List, [], ◌∷◌, ◌++◌}
use Rattle.lines.specs.declared.shape.Number.{Number}
use Rattle.lines.specs.Grammar.{Tree, items, empty, step, trans, hold, enter}

-- the step that a line declares
abbrev pub steps_of : Tree → List Number
steps_of empty = []
steps_of (step n b) = n ∷ []
steps_of (trans n fs ts c us) = []
steps_of (hold n q) = []
steps_of (enter n a q) = []

-- the transition that a line declares
abbrev pub transitions_of : Tree → List Number
transitions_of empty = []
transitions_of (step n b) = []
transitions_of (trans n fs ts c us) = n ∷ []
transitions_of (hold n q) = []
transitions_of (enter n a q) = []

-- where a line names a step: in a list, in a condition, behind `hold` or `enter`
abbrev pub uses_of : Tree → List Number
uses_of empty = []
uses_of (step n b) = []
uses_of (trans n fs ts c us) = items fs ++ (items ts ++ us)
uses_of (hold n q) = n ∷ []
uses_of (enter n a q) = n ∷ []

-- the lists of a line: the preceding steps, and the succeeding ones
abbrev pub lists_of : Tree → List (List Number)
lists_of empty = []
lists_of (step n b) = []
lists_of (trans n fs ts c us) = items fs ∷ items ts ∷ []
lists_of (hold n q) = []
lists_of (enter n a q) = []

-- a step holds an output, whose place is that of its Q
pub record Holding : Type 0 where
  pub step : ℕ
  pub output : ℕ
  pub place : ℕ

abbrev pub holding : Number → Number → Holding
holding n q = record { step = n.value; output = q.value; place = q.place }

abbrev pub holdings_of : Tree → List Holding
holdings_of empty = []
holdings_of (step n b) = []
holdings_of (trans n fs ts c us) = []
holdings_of (hold n q) = holding n q ∷ []
holdings_of (enter n a q) = []

-- what all lines say, in their order
abbrev pub all : {A : Type 0} → (Tree → List A) → List Tree → List A
all said [] = []
all said (t ∷ ts) = said t ++ all said ts

-- a line makes its step initial
abbrev pub is_initial : Tree → Bool
is_initial empty = false
is_initial (step n b) = b
is_initial (trans n fs ts c us) = false
is_initial (hold n q) = false
is_initial (enter n a q) = false
