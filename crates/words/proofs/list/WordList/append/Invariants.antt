use Rattle.std.proofs.Common.{◌≡◌, take}
use Rattle.words.specs.Emitted.{kept_in, appended}
use Rattle.words.proofs.list.WordList.append.Given as goal

abbrev pub invariant-loop-word : goal.invariant-loop-word
invariant-loop-word l = kept_in l.self ≡ appended (kept_in l.initial.self) (take l.word-index l.word-items)
