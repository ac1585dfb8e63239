use Rattle.std.proofs.Common.{◌≡◌, drop}
use Rattle.sys_meaning.specs.Part.{all_after}
use Rattle.sys_terms.specs.View.{term_view, terms_view}
use Rattle.sys_parts.proofs.joins.all_after.Given as goal

-- what is joined, and what is to come, is all
abbrev pub invariant-loop-term : goal.invariant-loop-term
invariant-loop-term l =
    all_after (term_view l.all) (terms_view (drop l.term-index l.rest)) ≡ all_after (term_view l.initial.all) (terms_view l.rest)
