use Rattle.std.proofs.Common.{◌≡◌, sym, ◌∙◌, rules}
use Rattle.words.specs.Words.{decoded}
use Rattle.words.proofs.Inverse.{encodes_back}
use Rattle.words.proofs.codec.decode.Goals as goal

pub returns-clause-written_back : goal.returns-clause-written_back
returns-clause-written_back c =
    let given : c.then.result ≡ decoded c.args.part c.args.word = search rules in
    λ i e. encodes_back _ _ i (sym given ∙ e)
