-- The turns of the slots of a row are those of its sources and of its order.
use Rattle.std.specs.Prelude.{◌≡◌, map}
use Rattle.slot_sources.specs.Source.{source_view}
use Rattle.slot_rows.specs.Turns.{turn_view, turns_brought, turns_given}
use Rattle.slot_rows.specs.declared.turns.Turns.{Turns}

pub record AreTurns (t : Turns) : Type 0 where
  pub given : map turn_view t.given.items ≡ turns_given (map source_view t.sources.now) t.order.now
  pub brought : map turn_view t.brought.items ≡ turns_brought 0 (map source_view t.sources.now)
