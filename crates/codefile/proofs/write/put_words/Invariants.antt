use Rattle.std.proofs.Common.{◌≡◌, ◌+◌, ◌*◌, drop}
use Rattle.codefile.specs.Written.{word_bytes, over}
use Rattle.codefile.proofs.write.put_words.Given as goal

-- what is left of the words, put from here on, gives the whole
abbrev pub invariant-loop-i : goal.invariant-loop-i
invariant-loop-i l = over (l.at + 4 * l.i) (word_bytes (drop l.i l.words)) l.buffer ≡ over l.at (word_bytes l.words) l.initial.buffer
