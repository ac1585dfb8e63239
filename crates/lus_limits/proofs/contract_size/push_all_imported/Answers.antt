use Rattle.std.proofs.Common.{◌≡◌, ◌+◌, ◌∷◌, ◌++◌, [], List, drop, map, ap, sym, append_assoc, ◌∙◌}
use Rattle.std.proofs.lemmas.List.{drop_more}
use Rattle.lus_tree.specs.View.{word_view}
use Rattle.lus_meaning.specs.Sizes.{ModeSizes, imported_size}
use Rattle.lus_limits.specs.declared.measuring.ModeSize.{ModeSize}
use Rattle.lus_limits.specs.Measured.{mode_view, modes_view}
use Rattle.lus_limits.specs.SizeCuts.{cut_modes}
use Rattle.lus_limits.specs.SizeSummaries.{is_own, those_with}
use Rattle.lus_limits.proofs.Contracted.{imported_first}
use Rattle.lus_limits.proofs.contract_size.push_all_imported.Goals as goal

pub loop-mode-preserved : goal.loop-mode-preserved
loop-mode-preserved c =
    let added : List ModeSize → ModeSizes = λ ms. cut_modes (map (imported_size (word_view c.args.contract.now).text) (those_with is_own (modes_view ms))) in
    let rest : List ModeSize = drop (c.loop-mode.mode-index + 1) c.args.imported.now in
    let d : drop c.loop-mode.mode-index c.args.imported.now ≡ c.mode-item.result ∷ rest =
    drop_more c.args.imported.now c.loop-mode.mode-index c.mode-item.result c.loop-mode-test.true ∙ ap (λ x. x ∷ rest) (sym c.mode-item.is) in
    ap (λ z. z ++ added rest) c.in_ok-push_imported.ensures
    ∙ append_assoc (modes_view c.loop-mode.modes.items) (added (c.mode-item.result ∷ [])) (added rest)
    ∙ ap (λ z. modes_view c.loop-mode.modes.items ++ z)
    (imported_first (word_view c.args.contract.now).text (mode_view c.mode-item.result) (modes_view rest))
    ∙ ap (λ ms. modes_view c.loop-mode.modes.items ++ added ms) (sym d)
    ∙ c.loop-mode.invariant
