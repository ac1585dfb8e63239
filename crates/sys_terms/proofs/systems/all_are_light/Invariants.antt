use Rattle.std.specs.Prelude.{◌≡◌, drop}
use Rattle.sys_terms.specs.View.{terms_view}
use Rattle.sys_terms.specs.Fits.{all_light}
use Rattle.sys_terms.proofs.systems.all_are_light.Given as goal

abbrev pub invariant-loop-term : goal.invariant-loop-term
invariant-loop-term l = all_light (terms_view (drop l.term-index l.terms)) ≡ all_light (terms_view l.fn.terms)
