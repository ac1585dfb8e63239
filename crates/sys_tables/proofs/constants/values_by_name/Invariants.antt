use Rattle.std.proofs.Common.{◌≡◌, map, drop, option_map}
use Rattle.std.specs.Map.{lookup}
use Rattle.std.specs.Option.{option_or}
use Rattle.std.specs.Str.{bytes_eq}
use Rattle.lus_tree.specs.Tree.{Name}
use Rattle.sys_parts.specs.Constants.{constant_view}
use Rattle.sys_texts.specs.Views.{by_name}
use Rattle.sys_tables.specs.Views.{fixed_view}
use Rattle.sys_tables.proofs.constants.values_by_name.Given as goal

-- what is noted, and what is to come, is all
abbrev pub invariant-loop-fixed : goal.invariant-loop-fixed
invariant-loop-fixed l =
    (x : Name) → option_or (option_map constant_view (by_name l.table x)) (lookup (bytes_eq x) (map fixed_view (drop l.fixed-index l.values)))
    ≡ lookup (bytes_eq x) (map fixed_view l.values)
