use Rattle.std.proofs.Common.{◌≡◌, ◌≤◌, drop, length}
use Rattle.lus_scopes.specs.Least.{least_view, noted_all}
use Rattle.lus_types.specs.Repeated.{HasSeen, twice_from_last}
use Rattle.lus_types.specs.Words.{words_view}
use Rattle.lus_types.proofs.repeated.words_twice.Given as goal

abbrev pub invariant-loop-left : goal.invariant-loop-left
invariant-loop-left l = record {
  within : l.left ≤ length l.words;
  seen : HasSeen l.seen (words_view (drop l.left l.words));
  noted : least_view l.least ≡ noted_all (least_view l.initial.least) (twice_from_last (words_view (drop l.left l.words)));
}

abbrev pub decreases-loop-left : goal.decreases-loop-left
decreases-loop-left l = l.left
