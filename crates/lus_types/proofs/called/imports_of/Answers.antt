use Rattle.std.proofs.Common.{arith}
use Rattle.lus_tree.specs.View.{contract_item_view}
use Rattle.lus_meaning.specs.NameFaults.{import_words}
use Rattle.lus_types.specs.Words.{words_view}
use Rattle.lus_types.proofs.Steps.{one_given}
use Rattle.lus_types.proofs.called.imports_of.Goals as goal

pub loop-item-preserved : goal.loop-item-preserved
loop-item-preserved c =
    one_given import_words contract_item_view c.args.items.now c.loop-item.item-index c.item-item.result (words_view c.loop-item.words.items)
    (words_view c.push_import.new.words.items) _ (omega arith) c.item-item.is c.loop-item.invariant c.in_ok-push_import.ensures
