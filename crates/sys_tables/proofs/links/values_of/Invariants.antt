use Rattle.std.proofs.Common.{◌≡◌, ◌++◌, map, drop}
use Rattle.lus_tree.specs.View.{expr_view}
use Rattle.sys_parts.specs.Constants.{constant_view}
use Rattle.sys_tables.specs.Known.{values_seen}
use Rattle.sys_tables.specs.Tabled.{small_value}
use Rattle.sys_tables.proofs.links.values_of.Given as goal

-- what is there, and what is to come, is all
abbrev pub invariant-loop-expression : goal.invariant-loop-expression
invariant-loop-expression l =
    map constant_view l.values.items ++ map (small_value (values_seen l.known)) (map expr_view (drop l.expression-index l.expressions))
    ≡ map (small_value (values_seen l.known)) (map expr_view l.expressions)
