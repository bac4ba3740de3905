-- What a draft comes to. Assumes nothing.
use Rattle.std.specs.Prelude.{◌≡◌, ℕ, ◌<◌, ◌≤◌, max, List, map, length, Some, None, Option}
use Rattle.words.specs.Words.{word_of}
use Rattle.lines.specs.Grammar.{Tree}
use Rattle.codefile.specs.declared.write.Contents.{Contents}
use Rattle.translation.specs.Translation.{initial_frame, clear_part, enter_part, hold_part}

-- the number of words in the longest part
abbrev pub longest_part : List Tree → ℕ
longest_part ls = max (length (clear_part ls)) (max (length (enter_part ls)) (length (hold_part ls)))

-- the initial steps and the words of these lines, all of them
pub record Holds (ls : List Tree) (c : Contents) : Type 0 where
  pub initial : c.initial ≡ initial_frame ls
  pub clear : c.clear.now ≡ map word_of (clear_part ls)
  pub enter : c.enter.now ≡ map word_of (enter_part ls)
  pub hold : c.hold.now ≡ map word_of (hold_part ls)

-- all that the lines come to, exactly if each part has at most 4,096 words
abbrev pub Offers : List Tree → Option Contents → Type 0
Offers ls (Some c) = Holds ls c × (longest_part ls ≤ 4096)
Offers ls None = 4096 < longest_part ls
