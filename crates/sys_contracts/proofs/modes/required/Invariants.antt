use Rattle.std.proofs.Common.{◌≡◌, ◌++◌, map, drop}
use Rattle.lus_tree.specs.View.{named_view}
use Rattle.sys_terms.specs.View.{terms_view}
use Rattle.sys_texts.specs.Views.{modes_view, sight_view}
use Rattle.sys_contracts.specs.Items.{required}
use Rattle.sys_contracts.proofs.modes.required.Given as goal

-- what is there, and what is to come, is all
abbrev pub invariant-loop-named : goal.invariant-loop-named
invariant-loop-named l =
    terms_view l.formulas.items ++ required (sight_view l.sight) (modes_view l.modes) (map named_view (drop l.named-index l.labelled))
    ≡ required (sight_view l.sight) (modes_view l.modes) (map named_view l.labelled)
