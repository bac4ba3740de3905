use Rattle.std.proofs.Common.{ap, ◌∙◌}
use Rattle.words.specs.declared.instruction.Part.TheVariants.{Clear, Enter, Hold}
use Rattle.words.specs.Brackets.{sound}
use Rattle.codefile.specs.File.{words_of}
use Rattle.codefile.proofs.Loading.{checked_sound}
use Rattle.codefile.proofs.program.Program.take.Goals as goal

pub invariant_of-self : goal.invariant_of-self
invariant_of-self c =
    let all = checked_sound c.args.file.bytes.now c.args.file.lengths c.requires in
    let parts = c.parts-parts.ensures in
    record {
      clears = ap (sound Clear 0) (c.fill.ensures ∙ ap words_of parts.clear) ∙ all.clears;
      enters = ap (sound Enter 0) (c.fill-2.ensures ∙ ap words_of parts.enter) ∙ all.enters;
      holds = ap (sound Hold 0) (c.fill-3.ensures ∙ ap words_of parts.hold) ∙ all.holds;
    }
