use Rattle.std.proofs.Common.{◌≡◌, sym, ◌∙◌, rules}
use Rattle.words.specs.Words.{encoded}
use Rattle.words.proofs.Inverse.{decodes_back}
use Rattle.words.proofs.codec.encode.Goals as goal

pub returns-clause-read_back : goal.returns-clause-read_back
returns-clause-read_back c =
    let given : c.then.result ≡ encoded c.args.part c.args.instruction = search rules in
    λ w e. decodes_back _ _ w (sym given ∙ e)
