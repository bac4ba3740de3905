use Rattle.std.proofs.Common.{◌≡◌, take, drop}
use Rattle.evolution.specs.Agreement.{CompiledFrom}
use Rattle.evolution.specs.Chart.{Chart}
use Rattle.plain.specs.Behaviours.{by_words, by_chart}
use Rattle.plain.proofs.Moments.{Sofar}
use Rattle.controller.specs.Standing.{standing}
use Rattle.controller.proofs.campaign.campaign.Given as goal

abbrev pub invariant-loop-k : goal.invariant-loop-k
invariant-loop-k g l =
    let meaning = g.I.Image.meaning in
    let now = standing l.controller (meaning l.image).outputs in
    record {
      program : l.controller.program ≡ l.fn.controller.program;
      words : Sofar meaning g.I.Image.becomes (by_words l.fn.controller.program) l.fn.image (take l.k l.calls) (take l.k l.log) now l.image;
      chart : (c : Chart) → CompiledFrom c l.fn.controller.program → Sofar meaning g.I.Image.becomes (by_chart c) l.fn.image (take l.k l.calls) (take l.k l.log) now l.image;
      rest : drop l.k l.log ≡ drop l.k l.fn.log;
    }
