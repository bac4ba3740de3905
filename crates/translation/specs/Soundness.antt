-- The parts of a text whose lines fit are sound, and read back as they were. Assumes nothing.
use Rattle.std.specs.Prelude.{◌≡◌, true, List, [], ◌∷◌, map}
use Rattle.words.specs.declared.instruction.Part.{Part}
use Rattle.words.specs.declared.instruction.Part.TheVariants as part
use Rattle.words.specs.declared.instruction.Instruction.{Instruction}
use Rattle.words.specs.Words.{word_of, instruction_of}
use Rattle.words.specs.Brackets.{sound}
use Rattle.lines.specs.Grammar.{Tree, FitsLine}
use Rattle.translation.specs.Translation.{clear_part, enter_part, hold_part}

-- each line fits
abbrev pub AllFit : List Tree → Type 0
AllFit [] = Unit {0}
AllFit (l ∷ ls) = FitsLine l × AllFit ls

-- the words are lawful in the part, with brackets in balance and at most 17 open, and are decoded to the instructions
pub record Sound (p : Part) (is : List Instruction) : Type 0 where
  pub words : sound p 0 (map word_of is) ≡ true
  pub back : map instruction_of (map word_of is) ≡ is

-- the three parts of the lines are sound
pub record SoundParts (ls : List Tree) : Type 0 where
  pub clear : Sound part.Clear (clear_part ls)
  pub enter : Sound part.Enter (enter_part ls)
  pub hold : Sound part.Hold (hold_part ls)
