use Rattle.std.proofs.Common.{◌≡◌, map, drop}
use Rattle.lus_tree.specs.View.{contract_item_view}
use Rattle.sys_texts.specs.Views.{sight_view}
use Rattle.frame_sources.specs.Modes.{contract_modes, with_statements}
use Rattle.frame_sources.specs.Views.{all_asked_view, each_asked_view}
use Rattle.frame_sources.proofs.contracts.contract_modes.Given as goal

-- the modes so far with the statements to come are all
abbrev pub invariant-loop-statement : goal.invariant-loop-statement
invariant-loop-statement l =
    with_statements (sight_view l.sight) (each_asked_view l.called) (all_asked_view l.modes.items)
    (map contract_item_view (drop l.statement-index l.statements))
    ≡ contract_modes (sight_view l.sight) (each_asked_view l.called) (map contract_item_view l.statements)
