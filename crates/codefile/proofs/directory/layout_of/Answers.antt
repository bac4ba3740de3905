use Rattle.std.proofs.Common.{length, rules}
use Rattle.codefile.proofs.Directories.{head_reads}
use Rattle.codefile.proofs.Layouts.{regular_lengths}
use Rattle.codefile.proofs.directory.layout_of.Goals as goal

pub returns-then-not-starts_with-clause-layout : goal.returns-then-not-starts_with-clause-layout
returns-then-not-starts_with-clause-layout c =
    let head = c.in-Some.ensures.cases in rw (head_reads c.args.bytes.now c.in-Some.head.now head.enough head.same) (search rules)

pub returns-in-Some-broken_pair-clause-layout : goal.returns-in-Some-broken_pair-clause-layout
returns-in-Some-broken_pair-clause-layout c =
    let head = c.in-Some.ensures.cases in rw (head_reads c.args.bytes.now c.in-Some.head.now head.enough head.same) (search rules)

pub returns-then-clear-enter-gt-MOST_WORDS-clause-layout : goal.returns-then-clear-enter-gt-MOST_WORDS-clause-layout
returns-then-clear-enter-gt-MOST_WORDS-clause-layout c =
    let head = c.in-Some.ensures.cases in rw (head_reads c.args.bytes.now c.in-Some.head.now head.enough head.same) (search rules)

pub returns : goal.returns
returns c =
    let head = c.in-Some.ensures.cases in
    record {
      layout = rw (head_reads c.args.bytes.now c.in-Some.head.now head.enough head.same) (search rules);
      regular = regular_lengths c.directory_of-d.result (length c.args.bytes.now) (search rules) (search rules);
    }
