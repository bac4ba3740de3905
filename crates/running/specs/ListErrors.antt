-- Why a text is no list of calls. Assumes nothing.
use Rattle.std.specs.Prelude.{ℕ, List}
use Rattle.running.specs.declared.call_list.ListError.{ListError}
use Rattle.running.specs.declared.call_list.ListError.TheVariants.{NoCall, OutOfMemory}
use Rattle.running.specs.CallLists.{NoCallAt}

-- running out of memory says nothing of the lines
abbrev pub TellsWhy : List (List ℕ) → ListError → Type 0
TellsWhy lines (NoCall n) = NoCallAt n lines
TellsWhy lines OutOfMemory = Unit {0}
