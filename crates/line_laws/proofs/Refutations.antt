-- What a tableau answers of bounds that refute each other gives a step.
use Rattle.std.specs.Prelude.{ℕ, ◌≡◌, List, [], ◌∷◌, map, All, Contains, refl}
use Rattle.std.specs.List.{AllByRecursion}
use Rattle.std.proofs.Common.{sym, ◌∙◌, ap, subst}
use Rattle.std.proofs.lemmas.List.Elements.{All-contains, All-from_recursion, recursion_from_All}
use lib.IntN.{ℤ, pos}
use lib.Signed.{◌≤ℤ◌, ◌<ℤ◌}
use Rattle.proof_steps.specs.declared.Literal.{Literal}
use Rattle.proof_steps.specs.Rows.{Form, rows_of}
use Rattle.int_simplex.specs.State.{Standing}
use Rattle.int_simplex.specs.Farkas.{weight, limits, Refutes}
use Rattle.cnf_maker.specs.Plain.{IsPlain}
use Rattle.line_laws.specs.Lines.{Part, IsPart, multipliers_of, bounds_of}
use Rattle.line_laws.specs.Steps.{RefuteEachOther, IsOfLiteral, numbered, IsStepOf}
use Rattle.line_laws.proofs.ConflictSteps.{step_is_taken}

literal_in : Standing → ℕ
literal_in b = b.literal

-- the bounds that are used, each with its multiplier
record AreJoined (g : Form) (bounds used : List Standing) (pairs : List (ℤ × ℕ)) : Type 0 where
  parts : List Part
  are_parts : AllByRecursion (IsPart g) parts
  stand : AllByRecursion (λ (p : Part). Contains bounds p.bound) parts
  signed : AllByRecursion (λ (p : Part). pos 0 ≤ℤ p.multiplier) parts
  same : map numbered parts ≡ pairs
  same_bounds : bounds_of parts ≡ used
  same_multipliers : multipliers_of parts ≡ map (λ (p : ℤ × ℕ). p.0) pairs

module _ (g : Form) (bounds : List Standing) (means : All (IsOfLiteral g) bounds) where
  joined : (used : List Standing) (pairs : List (ℤ × ℕ))
      → map (λ (b : Standing). b.literal) used ≡ map (λ (p : ℤ × ℕ). p.1) pairs
      → AllByRecursion (Contains bounds) used → AllByRecursion (λ (p : ℤ × ℕ). pos 0 ≤ℤ p.0) pairs
      → AreJoined g bounds used pairs
  joined [] [] e c s = record { parts = []; are_parts = tt; stand = tt; signed = tt; same = refl; same_bounds = refl; same_multipliers = refl }
  joined [] (p ∷ pairs) e c s = absurd cc
  joined (b ∷ used) [] e c s = absurd cc
  joined (b ∷ used) ((m, n) ∷ pairs) e c s =
      let w = joined used pairs (tails e) c.1 s.1 in
      let l = All-contains (IsOfLiteral g) bounds b means c.0 in
      record {
        parts = record { bound = b; atom = l.0; sign = l.1; multiplier = m } ∷ w.parts;
        are_parts = (record { named = l.2.named; means = l.2.means }, w.are_parts);
        stand = (c.0, w.stand);
        signed = (s.0, w.signed);
        same = ap (λ k. (m, k) ∷ map numbered w.parts) (heads e) ∙ ap (λ ps. (m, n) ∷ ps) w.same;
        same_bounds = ap (λ bs. b ∷ bs) w.same_bounds;
        same_multipliers = ap (λ ms. m ∷ ms) w.same_multipliers;
      } where
        tails : b.literal ∷ map (λ (b : Standing). b.literal) used ≡ n ∷ map (λ (p : ℤ × ℕ). p.1) pairs
            → map (λ (b : Standing). b.literal) used ≡ map (λ (p : ℤ × ℕ). p.1) pairs
        tails e = cc

        heads : b.literal ∷ map (λ (b : Standing). b.literal) used ≡ n ∷ map (λ (p : ℤ × ℕ). p.1) pairs → b.literal ≡ n
        heads e = cc

  pub refutation_gives_step : (known : List (List Literal)) (pairs : List (ℤ × ℕ)) → IsPlain g
      → Refutes (rows_of g) bounds pairs → IsStepOf g known bounds pairs
  refutation_gives_step known pairs plain f =
      let w = joined f.used pairs f.literals (recursion_from_All (Contains bounds) f.used f.stand)
      (recursion_from_All (λ (p : ℤ × ℕ). pos 0 ≤ℤ p.0) pairs f.not_negative) in
      let refute : RefuteEachOther g w.parts = record {
        are_parts = All-from_recursion (IsPart g) w.parts w.are_parts;
        not_negative = All-from_recursion (λ (p : Part). pos 0 ≤ℤ p.multiplier) w.parts w.signed;
        on_rows = (
          f.multipliers,
          λ c. ap (λ ms. weight ms (bounds_of w.parts) c) w.same_multipliers
              ∙ ap (λ bs. weight (map (λ (p : ℤ × ℕ). p.0) pairs) bs c) w.same_bounds ∙ f.cancels c,
        );
        absurd = subst (λ z. z <ℤ pos 0) (sym (ap (λ ms. limits ms (bounds_of w.parts)) w.same_multipliers
            ∙ ap (λ bs. limits (map (λ (p : ℤ × ℕ). p.0) pairs) bs) w.same_bounds)) f.absurd;
      } in
      record {
        parts = w.parts;
        stand = All-from_recursion (λ (p : Part). Contains bounds p.bound) w.parts w.stand;
        same = w.same;
        refute = refute;
        taken = step_is_taken g known w.parts plain refute;
      }
