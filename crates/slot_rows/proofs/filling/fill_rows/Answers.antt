use Rattle.std.proofs.Common.{◌≡◌, map, subst, arith}
use Rattle.slot_sources.specs.Source.{source_view}
use Rattle.slot_rows.specs.Table.{row_view, rows}
use Rattle.slot_rows.proofs.RowAt.{brought_more, rows_more}
use Rattle.slot_rows.proofs.filling.fill_rows.Goals as goal
use Rattle.slot_values.specs.Evaluated.{slot_view}

pub loop-instant-preserved : goal.loop-instant-preserved
loop-instant-preserved g c =
    let choices = g.C.Chosen.choices c.args.chosen.now in
    let es = map source_view c.args.turns.now.sources.now in
    record {
      rows = rows_more choices es c.args.turns.now.order.now c.loop-instant.instant (map row_view c.loop-instant.rows.items)
          (map row_view c.push_row.new.rows.items) c.loop-instant.invariant.rows c.in_ok-values-2.ensures.pushed;
      values = brought_more choices es c.args.turns.now.order.now c.loop-instant.instant (map slot_view c.in_ok-values-2.values.items)
          c.in_ok-values-2.ensures.values;
    }

pub returns : goal.returns
returns g c =
    let e : c.loop-instant.instant ≡ c.args.instants = omega (arith, c.loop-instant-test.false, c.loop-instant.auto.instant-end) in
    subst (λ n. map row_view c.loop-instant.rows.items ≡ rows (g.C.Chosen.choices c.args.chosen.now) (map source_view c.args.turns.now.sources.now) c.args.turns.now.order.now n)
    e c.loop-instant.invariant.rows
