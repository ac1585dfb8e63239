use Rattle.std.proofs.Common.{arith}
use Rattle.std.proofs.lemmas.List.{take_all}
use Rattle.lus_tree.specs.View.{contract_item_view}
use Rattle.lus_types.specs.Before.{earlier_view, home_view}
use Rattle.lus_scopes.specs.Least.{least_view}
use Rattle.lus_types.proofs.Earlier.{contract_next, contract_end, all_before}
use Rattle.lus_types.proofs.rules.next_items.Goals as goal

pub loop-item-preserved : goal.loop-item-preserved
loop-item-preserved c =
    contract_next (home_view c.args.home.now) contract_item_view c.args.items.now c.loop-item.item-index c.item-item.result
    (least_view c.args.least.now) (least_view c.loop-item.least) (least_view c.next_item.new.least) (earlier_view c.loop-item.before)
    (earlier_view c.next_item.new.before) (omega arith) c.item-item.is c.loop-item.invariant c.in_ok-next_item.ensures.before
    c.in_ok-next_item.ensures.noted

pub returns-clause-noted : goal.returns-clause-noted
returns-clause-noted c =
    contract_end (home_view c.args.home.now) contract_item_view c.args.items.now c.loop-item.item-index (least_view c.args.least.now)
    (least_view c.loop-item.least) (earlier_view c.loop-item.before) (omega arith) c.loop-item.invariant

pub returns-clause-before : goal.returns-clause-before
returns-clause-before c =
    all_before (home_view c.args.home.now) contract_item_view c.args.items.now c.loop-item.item-index (least_view c.args.least.now)
    (least_view c.loop-item.least) (earlier_view c.loop-item.before) (take_all c.loop-item.item-index c.args.items.now (omega arith)) c.loop-item.invariant
