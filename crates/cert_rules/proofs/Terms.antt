-- Terms that may be cited fit.
use Rattle.std.specs.Prelude.{◌≡◌, Bool, true, false, ◌&&◌, List, [], ◌∷◌, None, refl}
use Rattle.proof_checker.specs.declared.rule.Rule.{Rule}
use Rattle.proof_steps.specs.View.{Refutation}
use Rattle.sys_terms.specs.View.{Formula, Machine}
use Rattle.sys_terms.specs.Fits.{fits_one, all_fit_one}
use Rattle.cert_rules.specs.Faults.{Misfit, unless, is_term, are_terms, lemma_fault}

both-true : (a b : Bool) → (a && b) ≡ true → (a ≡ true) × (b ≡ true)
both-true true b e = (refl, e)
both-true false b e = absurd cc

both-from : (a b : Bool) → a ≡ true → b ≡ true → (a && b) ≡ true
both-from true b e f = f
both-from false b e f = absurd cc

pub terms_fit : (m : Machine) (cites : List Formula) → are_terms m cites ≡ true → all_fit_one m.shapes cites ≡ true
terms_fit m [] h = refl
terms_fit m (f ∷ fs) h = let a = both-true _ _ h in both-from _ _ (both-true _ _ a.0).0 (terms_fit m fs a.1)

pub term_fits : (m : Machine) (f : Formula) → is_term m f ≡ true → fits_one m.shapes f ≡ true
term_fits m f h = (both-true _ _ h).0

unless-none : (b : Bool) (rule : Rule) (after : Misfit) → unless b rule after ≡ None → b ≡ true
unless-none true rule after e = refl
unless-none false rule after e = absurd cc

-- the term of a lemma fits
pub lemma_fits : (m : Machine) (f : Formula) (cites : List Formula) (first next : Refutation)
    → lemma_fault m f cites first next ≡ None
    → fits_one m.shapes f ≡ true
lemma_fits m f cites first next h = term_fits m f (both-true _ _ (unless-none _ _ _ h)).0
