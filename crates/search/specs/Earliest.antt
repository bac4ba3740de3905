-- The least place of a value in a list. Assumes nothing.
use Rattle.std.specs.Prelude.{◌≡◌, ℕ, ◌<◌, List, length, Some, None, Option, ◌≢◌, slice_index_or}

-- no entry below the place n is the wanted one
abbrev pub Apart : {T : Type 0} → List T → T → ℕ → Type 0
Apart items wanted n = (k : ℕ) → k < n → slice_index_or items k wanted ≢ wanted

-- the answer is the least place that holds the wanted value; None, where no place does
abbrev pub Earliest : {T : Type 0} → List T → T → Option ℕ → Type 0
Earliest items wanted (Some i) = (i < length items) × (slice_index_or items i wanted ≡ wanted) × Apart items wanted i
Earliest items wanted None = (k : ℕ) → k < length items → slice_index_or items k wanted ≢ wanted
