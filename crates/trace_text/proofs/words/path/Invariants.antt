use Rattle.std.proofs.Common.{◌≡◌, ◌≤◌, ◌-◌, Some, take, drop}
use Rattle.trace_text.specs.Reading.{address_from, address_of}
use Rattle.trace_text.proofs.words.path.Given as goal

abbrev pub invariant-loop-i : goal.invariant-loop-i
invariant-loop-i l = record {
  order : l.from ≤ l.i;
  same : address_from (Some l.path.items) (take (l.i - l.from) (drop l.from l.word)) (drop l.i l.word) ≡ address_of l.word;
}
