use Rattle.std.proofs.Common.{◌≡◌, ◌++◌, map, drop}
use Rattle.sys_texts.specs.Views.{modes_view}
use Rattle.sys_contracts.specs.Items.{imported_mode}
use Rattle.sys_contracts.proofs.imports.push_modes.Given as goal

-- what is there, and what is to come, is all
abbrev pub invariant-loop-mode : goal.invariant-loop-mode
invariant-loop-mode l =
    modes_view l.modes.items ++ map (imported_mode l.contract) (modes_view (drop l.mode-index l.more))
    ≡ modes_view l.initial.modes.items ++ map (imported_mode l.contract) (modes_view l.more)
