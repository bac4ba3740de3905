use Rattle.std.proofs.Common.{◌≡◌, ◌+◌, ◌≤◌, length}
use Rattle.text.specs.Lex.{lex, after}
use Rattle.text.proofs.cut.fill.Given as goal

abbrev pub invariant-loop-rest : goal.invariant-loop-rest
invariant-loop-rest l = record {
  left : lex l.text 0 0 ≡ after l.list (lex l.rest.bytes.now 0 l.rest.place);
  whole : l.rest.place + length l.rest.bytes.now ≡ length l.text;
  room : length l.list ≤ l.rest.place;
}

abbrev pub decreases-loop-rest : goal.decreases-loop-rest
decreases-loop-rest l = length l.rest.bytes.now
