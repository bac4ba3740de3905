use Rattle.std.proofs.Common.{◌≡◌, true, map, drop}
use Rattle.words.specs.Words.{instruction_of}
use Rattle.words.specs.Brackets.{sound}
use Rattle.machine.specs.Machine.{run, after}
use Rattle.machine.specs.View.{view}
use Rattle.machine.proofs.memory.Memory.run.Given as goal

-- the words that are left are sound, and lead to the part's end
abbrev pub invariant-loop-word : goal.invariant-loop-word
invariant-loop-word l = record {
  sound : sound l.fn.part l.machine.depth (drop l.word-index l.word-items) ≡ true;
  end : (run (map instruction_of (drop l.word-index l.word-items)) (view l.machine)).memory ≡ after l.fn.part l.fn.program l.fn.self;
}
