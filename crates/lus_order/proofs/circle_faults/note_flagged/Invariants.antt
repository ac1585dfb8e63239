use Rattle.std.proofs.Common.{◌≡◌, drop}
use Rattle.lus_scopes.specs.Least.{least_view, noted_all}
use Rattle.lus_order.specs.Backs.{flagged_faults}
use Rattle.lus_order.specs.Sides.{words_of}
use Rattle.lus_order.proofs.circle_faults.note_flagged.Given as goal

abbrev pub invariant-loop-side : goal.invariant-loop-side
invariant-loop-side l = record {
  together : l.place ≡ l.side-index;
  rest : noted_all (least_view l.least) (flagged_faults (words_of (drop l.side-index l.sides)) (drop l.place l.flags))
      ≡ noted_all (least_view l.initial.least) (flagged_faults (words_of l.sides) l.flags);
}
