use Rattle.std.proofs.Common.{◌≡◌, ◌++◌, map, drop}
use Rattle.slot_sources.specs.Source.{source_view}
use Rattle.slot_rows.specs.Turns.{turn_view, turns_brought}
use Rattle.slot_rows.proofs.turns.brought_turns.Given as goal

abbrev pub invariant-loop-source : goal.invariant-loop-source
invariant-loop-source l = record {
  slot : l.slot ≡ l.source-index;
  turns : map turn_view l.turns.items ++ turns_brought l.slot (map source_view (drop l.source-index l.sources))
      ≡ turns_brought 0 (map source_view l.sources);
}
