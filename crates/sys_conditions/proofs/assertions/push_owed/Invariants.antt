use Rattle.std.proofs.Common.{◌≡◌, ◌++◌, drop}
use Rattle.sys_terms.specs.View.{terms_view}
use Rattle.sys_conditions.specs.Conditioned.{owed}
use Rattle.sys_conditions.proofs.assertions.push_owed.Given as goal

-- what is there, and what is to come, is all
abbrev pub invariant-loop-assumption : goal.invariant-loop-assumption
invariant-loop-assumption l =
    terms_view l.formulas.items ++ owed l.beat (terms_view (drop l.assumption-index l.assumes))
    ≡ terms_view l.initial.formulas.items ++ owed l.beat (terms_view l.assumes)
