use Rattle.std.proofs.Common.{◌≡◌, ◌<◌, ◌≤◌}
use Rattle.text.specs.Lex.{value_of}
use Rattle.text.proofs.cut.numeral.Given as goal

abbrev pub invariant-loop-b : goal.invariant-loop-b
invariant-loop-b l = record {
  value : l.value ≡ value_of l.b-index l.bytes;
  none : l.b-index ≤ 0 → l.value < 1;
  one : l.b-index ≤ 1 → l.value < 10;
  two : l.b-index ≤ 2 → l.value < 100;
  three : l.b-index ≤ 3 → l.value < 1000;
}
