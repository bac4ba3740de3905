use Rattle.std.proofs.Common.{◌+◌, map, drop, sym, ap, ◌∙◌, arith}
use Rattle.words.specs.Words.{instruction_of, word_of}
use Rattle.words.specs.Brackets.{sound, spoils, after as depth_after}
use Rattle.machine.specs.Machine.{run, step}
use Rattle.machine.specs.View.{view}
use Rattle.machine.proofs.Words.{next, run-more, run-all}
use Rattle.machine.proofs.memory.Memory.run.Goals as goal

pub step-requires-clause-brackets : goal.step-requires-clause-brackets
step-requires-clause-brackets c =
    let m = c.loop-word.machine in
    let n = next c.args.part m.depth c.loop-word.word-index c.words-word-items.result.now (omega arith) c.loop-word.invariant.sound in
    ap (λ i. spoils m.depth (word_of i)) c.instruction.ensures ∙ n.brackets

pub loop-word-preserved : goal.loop-word-preserved
loop-word-preserved c =
    let i = c.loop-word.word-index in
    let ws = c.words-word-items.result.now in
    let m = c.loop-word.machine in
    let n = next c.args.part m.depth i ws (omega arith) c.loop-word.invariant.sound in
    record {
      sound = ap (λ d. sound c.args.part d (drop (i + 1) ws)) (c.step.ensures.depth ∙ ap (λ k. depth_after m.depth (word_of k)) c.instruction.ensures) ∙ n.sound;
      end = ap (λ k. (run (map instruction_of (drop (i + 1) ws)) k).memory) (c.step.ensures.state ∙ ap (λ k. step k (view m)) c.instruction.ensures)
          ∙ sym (run-more i ws (view m) (omega arith))
          ∙ c.loop-word.invariant.end;
    }

pub returns : goal.returns
returns c = run-all c.loop-word.word-index c.words-word-items.result.now (view c.loop-word.machine) (omega arith) c.loop-word.invariant.end
