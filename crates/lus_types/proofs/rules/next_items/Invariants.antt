use Rattle.lus_tree.specs.View.{contract_item_view}
use Rattle.lus_types.specs.Before.{earlier_view, home_view}
use Rattle.lus_scopes.specs.Least.{least_view}
use Rattle.lus_types.proofs.Earlier.{OnContract}
use Rattle.lus_types.proofs.rules.next_items.Given as goal

abbrev pub invariant-loop-item : goal.invariant-loop-item
invariant-loop-item l =
    OnContract (home_view l.home) contract_item_view l.items l.item-index (least_view l.initial.least) (least_view l.least) (earlier_view l.before)
