use Rattle.std.proofs.Common.{◌≡◌, ◌++◌, drop, flat_map}
use Rattle.sys_terms.specs.View.{terms_view}
use Rattle.sys_texts.specs.Views.{modes_view}
use Rattle.sys_contracts.proofs.promises.push_ensures.Given as goal

-- what is there, and what is to come, is all
abbrev pub invariant-loop-mode : goal.invariant-loop-mode
invariant-loop-mode l =
    terms_view l.formulas.items ++ flat_map (λ m. m.ensures_each) (modes_view (drop l.mode-index l.modes))
    ≡ terms_view l.initial.formulas.items ++ flat_map (λ m. m.ensures_each) (modes_view l.modes)
