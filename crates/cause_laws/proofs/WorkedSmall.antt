-- The numbers of the worked query are small, and its bases are three; with ample budgets no stop is true of it.
use Rattle.std.specs.Prelude.{ℕ, zero, suc, ◌≡◌, ◌<◌, true, false, [], ◌∷◌, length, map, Option, Some, None, All, Contains}
use Rattle.std.proofs.Common.{subst, arith, refl}
use Rattle.std.proofs.lemmas.List.Elements.{All-contains, All-head, All-nil, All-cons, All-from_recursion}
use lib.IntN.{ℤ, pos, negsuc}
use Rattle.proof_steps.specs.declared.Literal.{Literal}
use Rattle.proof_steps.specs.declared.Literal.TheVariants.{Flag, Atom}
use Rattle.proof_steps.specs.View.{Inequality}
use Rattle.proof_steps.specs.Bounds.{Bound, bound_of_literal}
use Rattle.proof_steps.specs.Stopped.{IsCoefficient, IsLimit, IsTrueOf}
use Rattle.proof_steps.specs.Rows.{rows_of, columns_of}
use Rattle.proof_steps.specs.StopView.{Halt, conflicts, splits, pivots, past}
use Rattle.smt_solver.specs.NeedRoom.{RangesSuffice}
use Rattle.cause_laws.specs.Laws.{BasesBoundPivots, SmallNumbersStayWithin}
use Rattle.cause_laws.specs.Bases.{AreAllBases}
use Rattle.cause_laws.specs.Small.{IsSmall, EachHasRange, HasSmallNumbers, HasItsVariables}
use Rattle.cause_laws.specs.Worked.{near, near_low, near_high, three_bases, ample}
use Rattle.cause_laws.proofs.WorkedRow.{multipliers-small, entries-small}

abbrev small-of : Option Bound → Type 0
small-of None = Unit
small-of (Some b) = IsSmall b.limit

limit-of : (l : Literal) → small-of (bound_of_literal near [] l)
limit-of (Flag n b) = tt
limit-of (Atom zero b) = tt
limit-of (Atom (suc zero) true) = omega arith
limit-of (Atom (suc zero) false) = omega arith
limit-of (Atom (suc (suc zero)) true) = omega arith
limit-of (Atom (suc (suc zero)) false) = omega arith
limit-of (Atom (suc (suc (suc zero))) true) = omega arith
limit-of (Atom (suc (suc (suc zero))) false) = omega arith
limit-of (Atom (suc (suc (suc (suc zero)))) true) = omega arith
limit-of (Atom (suc (suc (suc (suc zero)))) false) = omega arith
limit-of (Atom (suc (suc (suc (suc (suc zero))))) true) = omega arith
limit-of (Atom (suc (suc (suc (suc (suc zero))))) false) = omega arith
limit-of (Atom (suc (suc (suc (suc (suc (suc n)))))) b) = tt

limits : (z : ℤ) → IsLimit near z → IsSmall z
limits z (b, (l, e), q) = subst IsSmall q (subst small-of e (limit-of l))

abbrev SmallAtom : Inequality → Type 0
SmallAtom i = All IsSmall (map (λ (t : ℕ × ℤ). t.1) i.terms)

one : (z : ℤ) → IsSmall z → All IsSmall (z ∷ [])
one z h = All-cons IsSmall z [] h (All-nil IsSmall)

small-atoms : All SmallAtom near.atoms
small-atoms = All-from_recursion SmallAtom near.atoms (
  All-cons IsSmall (pos 2) (negsuc 1 ∷ []) (omega arith) (one (negsuc 1) (omega arith)),
  (one (negsuc 0) (omega arith), (one (pos 1) (omega arith), (one (negsuc 0) (omega arith), (one (pos 1) (omega arith), tt)))),
)

coefficients : (z : ℤ) → IsCoefficient near z → IsSmall z
coefficients z (i, c, k) =
    All-contains IsSmall (map (λ (t : ℕ × ℤ). t.1) i.terms) z (All-contains SmallAtom near.atoms i small-atoms c) k

pub is-small : HasSmallNumbers near
is-small = record {
  multipliers = λ basis x ms b r. multipliers-small basis x ms r;
  entries = λ basis x ms b r. entries-small basis x ms r;
  coefficients = coefficients;
  limits = limits;
  columns = omega arith;
}

abbrev OneOf : Inequality → Type 0
OneOf i = All (λ (t : ℕ × ℤ). t.0 < 2) i.terms

one-term : (t : ℕ × ℤ) → t.0 < 2 → All (λ (t : ℕ × ℤ). t.0 < 2) (t ∷ [])
one-term t h = All-cons (λ (t : ℕ × ℤ). t.0 < 2) t [] h (All-nil (λ (t : ℕ × ℤ). t.0 < 2))

pub its-variables : HasItsVariables near
its-variables = All-from_recursion OneOf near.atoms (
  All-cons (λ (t : ℕ × ℤ). t.0 < 2) (0, pos 2) ((1, negsuc 1) ∷ []) (omega arith) (one-term (1, negsuc 1) (omega arith)),
  (
    one-term (0, negsuc 0) (omega arith),
    (
      one-term (0, pos 1) (omega arith),
      (one-term (1, negsuc 0) (omega arith), (one-term (1, pos 1) (omega arith), tt)),
    ),
  ),
)

pub near-ranges : EachHasRange near near_low near_high
near-ranges zero e = record {
  from_low = (Atom 2 true, (1, omega arith, refl), refl);
  to_high = (Atom 3 true, (2, omega arith, refl), refl);
}
near-ranges (suc zero) e = record {
  from_low = (Atom 4 true, (3, omega arith, refl), refl);
  to_high = (Atom 5 true, (4, omega arith, refl), refl);
}
near-ranges (suc (suc x)) e = absurd cc

-- each basis is one of the three columns
pub all-bases : AreAllBases (rows_of near) (columns_of near) three_bases
all-bases [] h = let e : ◌≡◌ {A = ℕ} 0 1 = h.count in absurd (omega arith)
all-bases (c ∷ d ∷ rest) h = let e : length (c ∷ d ∷ rest) ≡ 1 = h.count in absurd (omega arith)
all-bases (c ∷ []) h = (c ∷ [], listed c (All-head (λ c. c < columns_of near) c [] h.in_range), λ d. (λ i. i, λ i. i)) where
  listed : (c : ℕ) → c < 3 → Contains three_bases (c ∷ [])
  listed zero l = (0, omega arith, refl)
  listed (suc zero) l = (1, omega arith, refl)
  listed (suc (suc zero)) l = (2, omega arith, refl)
  listed (suc (suc (suc c))) l = absurd (omega arith)

module _ (ranges : RangesSuffice) (bases : BasesBoundPivots) (small : SmallNumbersStayWithin) where
  pub no-stop : (halt : Halt) → ¬ IsTrueOf near ample halt
  no-stop (conflicts clauses pairs) =
      (ranges near near_low near_high ample record { given = near-ranges }).conflicts_suffice (omega arith) clauses pairs
  no-stop (splits pairs) = (ranges near near_low near_high ample record { given = near-ranges }).splits_suffice (omega arith) pairs
  no-stop (pivots start pairs) = λ h. let l = bases near ample three_bases start pairs all-bases h in omega arith
  no-stop (past step pairs) = small near ample near_low near_high step pairs its-variables near-ranges is-small
