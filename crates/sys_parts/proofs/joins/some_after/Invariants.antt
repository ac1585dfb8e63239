use Rattle.std.proofs.Common.{◌≡◌, drop}
use Rattle.sys_meaning.specs.Part.{some_after}
use Rattle.sys_terms.specs.View.{term_view, terms_view}
use Rattle.sys_parts.proofs.joins.some_after.Given as goal

-- what is joined, and what is to come, is all
abbrev pub invariant-loop-term : goal.invariant-loop-term
invariant-loop-term l =
    some_after (term_view l.some) (terms_view (drop l.term-index l.rest)) ≡ some_after (term_view l.initial.some) (terms_view l.rest)
