use Rattle.std.proofs.Common.{ℕ, ◌≡◌, ◌<◌, true, length}
use Rattle.lus_types.specs.Marks.{is_marked}
use Rattle.lus_types.proofs.recursion.one_marked.Given as goal

abbrev pub invariant-loop-i : goal.invariant-loop-i
invariant-loop-i l = record {
  length : length l.marks.items ≡ l.i;
  here : l.number < l.i → is_marked l.marks.items l.number ≡ true;
  only : (j : ℕ) → is_marked l.marks.items j ≡ true → j ≡ l.number;
}
