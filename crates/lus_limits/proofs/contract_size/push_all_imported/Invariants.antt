use Rattle.std.proofs.Common.{◌≡◌, ◌++◌, drop, map}
use Rattle.lus_tree.specs.View.{word_view}
use Rattle.lus_meaning.specs.Sizes.{imported_size}
use Rattle.lus_limits.specs.Measured.{modes_view}
use Rattle.lus_limits.specs.SizeCuts.{cut_modes}
use Rattle.lus_limits.specs.SizeSummaries.{is_own, those_with}
use Rattle.lus_limits.proofs.contract_size.push_all_imported.Given as goal

-- with what is to come, the modes are those at first and the imported ones
abbrev pub invariant-loop-mode : goal.invariant-loop-mode
invariant-loop-mode l =
    modes_view l.modes.items ++ cut_modes (map (imported_size (word_view l.contract).text) (those_with is_own (modes_view (drop l.mode-index l.imported))))
    ≡ modes_view l.initial.modes.items ++ cut_modes (map (imported_size (word_view l.contract).text) (those_with is_own (modes_view l.imported)))
