-- The states of a scan, and what the scan comes to, by whatever makes the states evolve. Assumes nothing.
use Rattle.std.specs.Prelude.{◌≡◌, ℕ, zero, suc, Bool}
use Rattle.frames.specs.declared.edges.Edges.{Edges}
use Rattle.frames.specs.Edges.{no_edges}
use Rattle.evolution.specs.declared.state.State.{State}
use Rattle.verdict.specs.declared.outcome.Outcome.{Outcome}
use Rattle.verdict.specs.declared.outcome.Verdict.{Verdict}
use Rattle.verdict.specs.declared.outcome.Verdict.TheVariants.{Stable, Circling, Overlong}
use Rattle.verdict.specs.Verdicts.{Verdicts}

-- how a state evolves by the edges of a frame, and whether it is stable under the frame
pub record Rules : Type 0 where
  pub evolved : Edges → State → State
  pub stable : State → Bool

-- the edges of the evolution from s(n): those of the frame if n is 0, and otherwise none
abbrev pub edges_from : Edges → ℕ → Edges
edges_from edges zero = edges
edges_from edges (suc n) = no_edges

-- s(n): n evolutions from s(0), the state that the frame finds
abbrev pub states : Rules → Edges → State → ℕ → State
states rules edges s zero = s
states rules edges s (suc n) = rules.evolved (edges_from edges n) (states rules edges s n)

-- the state that a verdict leads to: s(m), or else the state before the frame
abbrev pub settled : Verdict → (ℕ → State) → State
settled (Stable m) s = s m
settled (Circling j k) s = s 0
settled Overlong s = s 0

-- what the scan of a frame with these edges comes to, from this state
pub record Scanned (rules : Rules) (edges : Edges) (s : State) (r : Outcome) : Type 0 where
  pub verdict : Verdicts rules.stable (states rules edges s) r.verdict
  pub state : r.state ≡ settled r.verdict (states rules edges s)

-- the same in one word, which tactics do not open
unfoldable pub Settled : Rules → Edges → State → Outcome → Type 0
Settled rules edges s r = Scanned rules edges s r
