use Rattle.std.proofs.Common.{ap, ◌∙◌, w64}
use Rattle.std.specs.Int.{from_le_bytes}
use Rattle.std.proofs.lemmas.List.{take_rest}
use Rattle.codefile.proofs.Loading.{initial_is}
use Rattle.codefile.proofs.headed.Headed.initial.Goals as goal

pub returns : goal.returns
returns c =
    let bs = c.args.self.now.bytes.now in
    let first = rw c.unwrap-initial.ensures at c.first_chunk.ensures.cases in
    c.from_le_bytes.ensures ∙ ap (from_le_bytes w64) first.same ∙ initial_is bs _ (take_rest bs 36)
