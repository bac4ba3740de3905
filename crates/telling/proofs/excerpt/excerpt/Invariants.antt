use Rattle.std.proofs.Common.{◌≡◌, ◌++◌, map, take, replicate, string_bytes}
use Rattle.telling.specs.Excerpts.{column_of}
use Rattle.telling.proofs.excerpt.excerpt.Given as goal

abbrev pub invariant-loop-byte : goal.invariant-loop-byte
invariant-loop-byte l = string_bytes l.shown ≡ map column_of (take l.byte-index l.line)

abbrev pub invariant-loop : goal.invariant-loop
invariant-loop l = string_bytes l.shown ≡ string_bytes l.initial.shown ++ replicate l.counter 32
