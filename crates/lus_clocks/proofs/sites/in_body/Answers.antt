use Rattle.std.proofs.Common.{arith, ◌∙◌}
use Rattle.lus_tree.specs.View.{item_view}
use Rattle.lus_meaning.specs.Occurrences.{statement_texts}
use Rattle.lus_streams.specs.Names.{names_view}
use Rattle.lus_clocks.specs.Table.{kept}
use Rattle.lus_clocks.proofs.Seeks.{one_more_text}
use Rattle.lus_clocks.proofs.sites.in_body.Goals as goal

pub loop-item-preserved : goal.loop-item-preserved
loop-item-preserved c = λ s.
    one_more_text (names_view c.args.names) s (statement_texts (names_view c.args.names)) item_view c.args.items.now c.loop-item.item-index c.item-item.result
    (kept c.loop-item.table s) (kept c.in_statement.new.table s) (omega arith) c.item-item.is (c.in_ok-in_statement.ensures s) ∙ c.loop-item.invariant s
