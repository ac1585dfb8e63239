use Rattle.std.specs.Prelude.{◌≡◌, drop}
use Rattle.sys_terms.specs.View.{terms_view}
use Rattle.sys_terms.specs.Fits.{all_fit}
use Rattle.sys_terms.proofs.systems.all_fit_shapes.Given as goal

abbrev pub invariant-loop-term : goal.invariant-loop-term
invariant-loop-term l =
    all_fit l.shapes (terms_view (drop l.term-index l.terms)) ≡ all_fit l.fn.shapes (terms_view l.fn.terms)
