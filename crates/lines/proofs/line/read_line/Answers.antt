use Rattle.std.proofs.lemmas.Result.{MatchResult-weaker}
use Rattle.lines.proofs.Whole.{only_one, nowhere}
use Rattle.lines.proofs.Sound.{whole_line_read}
use Rattle.lines.proofs.Refusing.{refused}
use Rattle.lines.proofs.line.read_line.Goals as goal

pub returns-clause-reads : goal.returns-clause-reads
returns-clause-reads c = MatchResult-weaker c.read.result c.read.ensures.reads (λ p r. whole_line_read r) (λ f r. r.fails)

pub returns-clause-only_tree : goal.returns-clause-only_tree
returns-clause-only_tree c = MatchResult-weaker c.read.result c.read.ensures.reads (λ p r. only_one _ _) (λ f r. nowhere _ _ f r.fails)

pub returns-clause-refused : goal.returns-clause-refused
returns-clause-refused c = MatchResult-weaker c.read.result c.read.ensures.reads (λ p r. tt) (λ f r. refused _ _ f r.fails)
