use Rattle.std.proofs.Common.{◌≡◌, ◌++◌, map, drop}
use Rattle.sys_terms.specs.View.{terms_view}
use Rattle.sys_texts.specs.Views.{modes_view}
use Rattle.sys_contracts.proofs.promises.all_asked.Given as goal

-- what is there, and what is to come, is all
abbrev pub invariant-loop-mode : goal.invariant-loop-mode
invariant-loop-mode l =
    terms_view l.formulas.items ++ map (λ n. n.asked) (modes_view (drop l.mode-index l.modes)) ≡ map (λ n. n.asked) (modes_view l.modes)
