use Rattle.std.proofs.Common.{◌≡◌, ◌++◌, drop}
use Rattle.sys_terms.specs.View.{terms_view}
use Rattle.sys_contracts.proofs.items.push_copies.Given as goal

-- what is there, and what is to come, is all
abbrev pub invariant-loop-formula : goal.invariant-loop-formula
invariant-loop-formula l =
    terms_view l.formulas.items ++ terms_view (drop l.formula-index l.more) ≡ terms_view l.initial.formulas.items ++ terms_view l.more
