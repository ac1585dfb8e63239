use Rattle.std.proofs.Common.{◌≡◌, ◌++◌, map, drop}
use Rattle.slot_sources.specs.Source.{source_view}
use Rattle.slot_rows.specs.Turns.{turn_view, turns_given}
use Rattle.slot_rows.proofs.turns.given_turns.Given as goal

abbrev pub invariant-loop-slot : goal.invariant-loop-slot
invariant-loop-slot l = map turn_view l.turns.items ++ turns_given (map source_view l.sources) (drop l.slot-index l.order)
    ≡ turns_given (map source_view l.sources) l.order
