use Rattle.std.proofs.Common.{◌≤◌, drop, length}
use Rattle.lus_types.specs.Repeated.{HasSeen}
use Rattle.lus_types.specs.Words.{words_view}
use Rattle.lus_types.proofs.repeated.texts_of.Given as goal

abbrev pub invariant-loop-left : goal.invariant-loop-left
invariant-loop-left l = record {
  within : l.left ≤ length l.words;
  seen : HasSeen l.seen (words_view (drop l.left l.words));
}

abbrev pub decreases-loop-left : goal.decreases-loop-left
decreases-loop-left l = l.left
