use Rattle.std.proofs.Common.{◌≡◌, ◌++◌, map, drop}
use Rattle.sys_terms.specs.View.{terms_view}
use Rattle.lus_tree.specs.View.{item_view}
use Rattle.sys_texts.specs.Views.{modes_view, sight_view}
use Rattle.sys_conditions.specs.Conditioned.{assert_conditions}
use Rattle.sys_conditions.proofs.assertions.push_assertions.Given as goal

-- what is there, and what is to come, is all
abbrev pub invariant-loop-item : goal.invariant-loop-item
invariant-loop-item l =
    terms_view l.formulas.items ++ assert_conditions (sight_view l.sight) (modes_view l.modes) (map item_view (drop l.item-index l.items))
    ≡ terms_view l.initial.formulas.items ++ assert_conditions (sight_view l.sight) (modes_view l.modes) (map item_view l.items)
