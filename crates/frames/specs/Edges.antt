-- The edges of the inputs. Assumes nothing.
use Rattle.std.specs.Prelude.{ℕ, not, ◌&&◌, Some, None, Option}
use Rattle.frames.specs.Bits.{bit, pack}
use Rattle.frames.specs.declared.edges.Edges.{Edges}

-- the bits that are set in one frame and clear in the other
unfoldable pub only_in : ℕ → ℕ → ℕ
only_in frame other = pack 64 (λ n. bit n frame && not (bit n other))

-- neither a rise nor a fall
abbrev pub no_edges : Edges
no_edges = record { rises = 0; falls = 0 }

-- a rise leads from off to on, a fall from on to off; without a previous frame there is neither
abbrev pub edges_between : Option ℕ → ℕ → Edges
edges_between None frame = no_edges
edges_between (Some previous) frame = record { rises = only_in frame previous; falls = only_in previous frame }
