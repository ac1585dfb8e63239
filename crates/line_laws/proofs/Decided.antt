-- The two literals of an atom refute each other.
use Rattle.std.specs.Prelude.{ℕ, ◌≡◌, ◌==◌, Bool, true, false, cond, [], Option, Some, None, refl}
use Rattle.std.proofs.Common.{ap}
use Rattle.std.proofs.lemmas.Int.{ints}
use Rattle.std.proofs.Common.{arith}
use Rattle.std.proofs.lemmas.List.Elements.{All-from_recursion}
use lib.IntN.{ℤ, pos, ◌+ℤ◌, ◌-ℤ◌, ◌*ℤ◌, neg_ℤ}
use lib.Signed.{◌≤ℤ◌, ◌<ℤ◌}
use Rattle.proof_steps.specs.declared.Literal.TheVariants.{Atom}
use Rattle.proof_steps.specs.View.{Inequality}
use Rattle.proof_steps.specs.Meaning.{at, negated}
use Rattle.proof_steps.specs.Rows.{Form}
use Rattle.proof_steps.specs.Bounds.{Bound, past_limit, opposite_bound, bound_of_literal, bound_if}
use Rattle.int_simplex.specs.Farkas.{turned}
use Rattle.line_laws.specs.Lines.{Part, IsPart}
use Rattle.line_laws.specs.Steps.{both_of, RefuteEachOther}
use Rattle.line_laws.proofs.OwnLines.{one-times}

opposite-means : (o : Option (Option Bound)) (b : Bound) → bound_if true o ≡ Some b
    → bound_if false o ≡ Some (opposite_bound b)
opposite-means None b e = absurd cc
opposite-means (Some None) b e = absurd cc
opposite-means (Some (Some x)) b e = ap (λ w. Some (opposite_bound w)) (is x b e) where
  is : (x b : Bound) → Some x ≡ Some b → x ≡ b
  is x b e = cc

cancelled : (side here : Bool)
    → cond here (turned (negated side) (pos 1) +ℤ cond here (turned side (pos 1) +ℤ pos 0) (pos 0))
    (cond here (turned side (pos 1) +ℤ pos 0) (pos 0)) ≡ pos 0
cancelled true true = refl
cancelled false true = refl
cancelled side false = refl

apart : (side : Bool) (z : ℤ) → ((pos 1 *ℤ turned (negated side) (past_limit side z)) +ℤ
    ((pos 1 *ℤ turned side z) +ℤ pos 0)) <ℤ pos 0
apart true z = let a = one-times (neg_ℤ (z +ℤ pos 1)) in let b = one-times z in omega (arith, ints)
apart false z = let a = one-times (z -ℤ pos 1) in let b = one-times (neg_ℤ z) in omega (arith, ints)

pub decided : (g : Form) (n : ℕ) (i : Inequality) (b : Bound) → at g.atoms n ≡ Some i
    → bound_of_literal g [] (Atom n true) ≡ Some b
    → RefuteEachOther g (both_of n i b)
decided g n i b e f = record {
  are_parts = All-from_recursion (IsPart g) (both_of n i b)
      (record { named = e; means = opposite-means _ b f }, (record { named = e; means = f }, tt));
  not_negative = All-from_recursion (λ (p : Part). pos 0 ≤ℤ p.multiplier) (both_of n i b)
      (omega (arith, ints), (omega (arith, ints), tt));
  on_rows = ([], λ c. cancelled b.upper (b.column == c));
  absurd = apart b.upper b.limit;
}
