use Rattle.std.proofs.Common.{◌≡◌, map, drop}
use Rattle.lus_tree.specs.View.{contract_item_view}
use Rattle.sys_texts.specs.Views.{sight_view}
use Rattle.frame_conditions.specs.Conditioned.{contract_conditions, with_statements}
use Rattle.frame_conditions.specs.Views.{all_conditions_view, conditions_view}
use Rattle.frame_conditions.proofs.statements.contract_conditions.Given as goal

-- the conditions so far with the statements to come are all
abbrev pub invariant-loop-statement : goal.invariant-loop-statement
invariant-loop-statement l =
    with_statements (sight_view l.sight) (all_conditions_view l.called) (conditions_view l.conditions)
    (map contract_item_view (drop l.statement-index l.statements))
    ≡ contract_conditions (sight_view l.sight) (all_conditions_view l.called) (map contract_item_view l.statements)
