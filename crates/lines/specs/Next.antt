-- The lines of a text, taken one after another. Assumes nothing.
use Rattle.std.specs.Prelude.{◌≡◌, ◌<◌, List, [], length, Some, None, Ok, Err, Option, Result}
use Rattle.faults.specs.declared.TextFault.{TextFault}
use Rattle.words.specs.Emitted.{Kept, pushed}
use Rattle.conditions.specs.declared.rest.Rest.{Rest}
use Rattle.conditions.specs.Readers.{Grown}
use Rattle.lines.specs.declared.shape.Line.{Line}
use Rattle.lines.specs.Grammar.{Tree}
use Rattle.lines.specs.Text.{read_lines, between, put}
use Rattle.lines.specs.Guards.{guard_words}
use Rattle.lines.specs.Laws.{Begins, Stuck}
use Rattle.lines.specs.Parts.{Shows, LineParts}

-- the lines of what is left, or the text's fault
abbrev pub lines_left : Rest → Result (List Tree) TextFault
lines_left left = read_lines left.tokens.now between left.end

-- the tokens begin with the line, which holds parts of them, rest is what it leaves, and its test's words stand behind those of
-- before
pub record TakesLine (from : Rest) (before after : Kept) (l : Line) (rest : Rest) : Type 0 where
  pub tree : Tree
  pub begins : Begins tree from.tokens.now rest.tokens.now
  pub first : lines_left from ≡ put tree (lines_left rest)
  pub shown : Shows l tree
  pub parts : LineParts l tree from.tokens.now rest.tokens.now
  pub emitted : after ≡ pushed before (guard_words tree)
  pub shorter : length rest.tokens.now < length from.tokens.now
  pub same_end : rest.end ≡ from.end

-- the next line of a text, none where no token is left, or the fault that this line has and so the text
abbrev pub NextLine : Rest → Kept → Kept → Result (Option (Line × Rest)) TextFault → Type 0
NextLine from before after (Ok None) = (from.tokens.now ≡ []) × (after ≡ before)
NextLine from before after (Ok (Some p)) = TakesLine from before after p.0 p.1
NextLine from before after (Err f) = (lines_left from ≡ Err f) × Stuck from.tokens.now from.end f × Grown before after
