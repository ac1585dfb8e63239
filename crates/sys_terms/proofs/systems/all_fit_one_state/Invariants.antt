use Rattle.std.specs.Prelude.{◌≡◌, drop}
use Rattle.sys_terms.specs.View.{terms_view}
use Rattle.sys_terms.specs.Fits.{all_fit_one}
use Rattle.sys_terms.proofs.systems.all_fit_one_state.Given as goal

abbrev pub invariant-loop-term : goal.invariant-loop-term
invariant-loop-term l =
    all_fit_one l.shapes (terms_view (drop l.term-index l.terms)) ≡ all_fit_one l.fn.shapes (terms_view l.fn.terms)
