-- Atoms as the solver takes them.
use Rattle.std.specs.Prelude.{ℕ, ◌≡◌, ◌≢◌, ◌<◌, ◌^◌, true, List, [], All, Some, Ok, map, slice_get, unsigned_abs}
use Rattle.std.specs.List.Sorted.{IsStrictlyIncreasing}
use lib.IntN.{ℤ, pos}
use Rattle.kind_num.specs.declared.Shape.{Shape}
use Rattle.kind_num.specs.declared.Shape.TheVariants.{Number}
use Rattle.proof_steps.specs.View.{Inequality}
use Rattle.proof_steps.specs.Rows.{Form}
use Rattle.sys_terms.specs.View.{Formula, Machine, Task, Question}
use Rattle.sys_terms.specs.Fits.{IsMild, is_asked, is_light_task, all_fit_one, all_divided, all_light}
use Rattle.sys_terms.specs.Queries.{query_of}
use Rattle.cnf_maker.specs.ClauseForm.{clause_form}

-- a term of a number of the form, with a coefficient other than 0
pub record IsTermOf (shapes : List Shape) (t : ℕ × ℤ) : Type 0 where
  pub number : slice_get shapes t.0 ≡ Some Number
  pub not_zero : t.1 ≢ pos 0

-- an atom over numbers of the form, each once and in order, one at least
pub record IsPlainAtom (shapes : List Shape) (i : Inequality) : Type 0 where
  pub terms : All (IsTermOf shapes) i.terms
  pub in_order : IsStrictlyIncreasing (map (λ (t : ℕ × ℤ). t.0) i.terms)
  pub some_term : i.terms ≢ []

abbrev pub IsPlain : Form → Type 0
IsPlain f = All (IsPlainAtom f.shapes) f.atoms

-- numbers below 2^100 in size
pub record IsSmallAtom (i : Inequality) : Type 0 where
  pub coefficients : All (λ (t : ℕ × ℤ). unsigned_abs t.1 < 2 ^ 100) i.terms
  pub bound : unsigned_abs i.bound < 2 ^ 100

abbrev pub IsSmall : Form → Type 0
IsSmall f = All IsSmallAtom f.atoms

abbrev pub AtomsArePlain : Question → Type 0
AtomsArePlain q = all_fit_one q.shapes q.conditions ≡ true → (f : Form) → clause_form q ≡ Ok f → IsPlain f

abbrev pub AtomsAreSmall : Question → Type 0
AtomsAreSmall q =
    all_divided q.conditions ≡ true → all_light q.conditions ≡ true → (f : Form) → clause_form q ≡ Ok f → IsSmall f

-- a form with plain and small atoms
pub record IsMadeSmall (q : Question) : Type 0 where
  pub form : Form
  pub is_form : clause_form q ≡ Ok form
  pub plain : IsPlain form
  pub small : IsSmall form

-- each query of a mild system and light terms has such a form
abbrev pub QueriesAreSmall : Machine → Task → List Formula → Type 0
QueriesAreSmall m task cites =
    IsMild m → is_asked m task ≡ true → is_light_task task ≡ true → all_fit_one m.shapes cites ≡ true
    → all_light cites ≡ true
    → IsMadeSmall (query_of m task cites)
