use Rattle.std.proofs.Common.{◌≡◌, true}
use Rattle.slot_rows.specs.SlotReads.{reads_view}
use Rattle.slot_rows.specs.Searching.{Searching, StaysMet, is_met, search_view, steps_left}
use Rattle.slot_rows.proofs.search.Search.visit.Given as goal

abbrev pub invariant-loop-slot : goal.invariant-loop-slot
invariant-loop-slot l = record {
  searching : Searching (reads_view l.rows) (search_view l.self);
  root_met : is_met (search_view l.self) l.root ≡ true;
  stays : StaysMet (reads_view l.rows) (search_view l.fn.self) (search_view l.self);
}

abbrev pub decreases-loop-slot : goal.decreases-loop-slot
decreases-loop-slot l = steps_left (search_view l.self)
