-- What contracts see of an answer.
use Rattle.std.specs.Prelude.{ℕ, Option, None, get_or}
use Rattle.lus_meaning.specs.Value.{Value}
use Rattle.slot_rows.specs.Table.{table_view, value_in}
use Rattle.slot_replay.specs.declared.replayed.Replayed.{Replayed}

-- the instant at which each property breaks, how many instants are lawful, and the value of a slot at an instant
pub record Shown : Type 0 where
  pub breaks : ℕ → Option ℕ
  pub lawful : ℕ
  pub value : ℕ → ℕ → Value

abbrev pub replayed_view : Replayed → Shown
replayed_view r = record {
  breaks = λ k. get_or r.broken.items k None;
  lawful = r.lawful;
  value = λ k t. value_in (table_view r.table) t k;
}
