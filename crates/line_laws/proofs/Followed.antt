-- What follows by a line of a tableau's bounds is a cut by their literals.
use Rattle.std.specs.Prelude.{ℕ, zero, suc, ◌≡◌, ◌≢◌, ◌⊎◌, ◌+◌, ◌<◌, ◌≤◌, Bool, true, false, cond, List, [], ◌∷◌, ◌++◌, length, map, All, Contains, refl}
use Rattle.std.specs.Int.{int_div_euclid}
use Rattle.std.specs.List.{AllByRecursion}
use Rattle.std.proofs.Common.{sym, ◌∙◌, ap, subst, arith, inl, inr}
use Rattle.std.proofs.lemmas.Int.{ints}
use Rattle.std.proofs.lemmas.List.Elements.{All-contains, All-from_recursion, recursion_from_All}
use lib.IntN.{ℤ, pos, negsuc, ◌+ℤ◌, ◌*ℤ◌, *ℤ-zero}
use lib.Signed.{◌≤ℤ◌, ◌<ℤ◌}
use Rattle.proof_steps.specs.declared.Literal.{Literal as SignedLiteral}
use Rattle.proof_steps.specs.declared.Source.{Source}
use Rattle.proof_steps.specs.declared.Source.TheVariants as s
use Rattle.proof_steps.specs.View.{Inequality, Sum}
use Rattle.proof_steps.specs.Rows.{Form, is_long, defining_rows, rows_of, columns_of, entry, combined}
use Rattle.int_simplex.specs.State.{Standing, State}
use Rattle.int_simplex.specs.Given.{IsWithin, last_column, last_columns}
use Rattle.int_simplex.specs.Farkas.{turned, weight, limits}
use Rattle.int_cuts.specs.Cuts.{FollowsBy, source_of, multipliers_in}
use Rattle.cnf_maker.specs.Plain.{IsPlain}
use Rattle.line_laws.specs.Lines.{Part, IsPart, IsVariable, multipliers_of, bounds_of}
use Rattle.line_laws.specs.Steps.{IsOfLiteral}
use Rattle.line_laws.specs.CutSteps.{IsTableauOf, sourced, IsCutBy, IsCutStepOf}
use Rattle.line_laws.proofs.Substituted.{AreBelow, AtomsBelow, entry-beyond, other}
use Rattle.line_laws.proofs.Summed.{below}
use Rattle.line_laws.proofs.Fitting.{listed, in-order-differ}
use Rattle.line_laws.proofs.CutSteps.{cancelled, cut_step_is_taken}

-- ---- a column that is no variable is the last of a row

last-own : (v n : ℕ) (terms : List (ℕ × ℤ)) → AreBelow v terms → v ≤ n → last_column (terms ++ (n, negsuc 0) ∷ []) ≡ n
last-own v n [] a l = omega arith
last-own v n ((x, b) ∷ rest) a l = let i = last-own v n rest a.1 l in let q = a.0 in omega arith

there : (x : ℕ) (xs : List ℕ) (c : ℕ) → Contains xs c → Contains (x ∷ xs) c
there x xs c h = (suc h.0, omega (arith, h.1), h.2)

own-columns : (v n : ℕ) (atoms : List Inequality) (c : ℕ) → AtomsBelow v atoms → v ≤ n → n ≤ c
    → c < n + length (defining_rows n atoms) → Contains (last_columns (defining_rows n atoms)) c
own-columns v n [] c a l h k = absurd (omega arith)
own-columns v n (i ∷ rest) c a l h k =
    go (is_long i.terms) (split c n) (last-own v n i.terms a.0 l)
    (λ m j. own-columns v (n + 1) rest c a.1 (omega arith) m j) (λ j. own-columns v n rest c a.1 l h j) k where
      split : (x y : ℕ) → (x ≡ y) ⊎ (x ≢ y)
      split x y = grind arith

      go : (w : Bool) → (c ≡ n) ⊎ (c ≢ n) → last_column (i.terms ++ (n, negsuc 0) ∷ []) ≡ n
          → (n + 1 ≤ c → c < n + 1 + length (defining_rows (n + 1) rest)
          → Contains (last_columns (defining_rows (n + 1) rest)) c)
          → (c < n + length (defining_rows n rest) → Contains (last_columns (defining_rows n rest)) c)
          → c < n + length (cond w ((i.terms ++ (n, negsuc 0) ∷ []) ∷ defining_rows (n + 1) rest)
          (defining_rows n rest))
          → Contains (last_columns (cond w ((i.terms ++ (n, negsuc 0) ∷ []) ∷ defining_rows (n + 1) rest)
          (defining_rows n rest))) c
      go true (inl e) own f g k = (0, omega arith, own ∙ sym e)
      go true (inr d) own f g k = there (last_column (i.terms ++ (n, negsuc 0) ∷ []))
          (last_columns (defining_rows (n + 1) rest)) c (f (omega arith) (omega arith))
      go false d own f g k = g k

combined-beyond : (n c : ℕ) (ms : List ℤ) (rows : List (List (ℕ × ℤ))) → AllByRecursion (IsWithin n) rows → n ≤ c
    → combined ms rows c ≡ pos 0
combined-beyond n c [] rows a l = refl
combined-beyond n c (m ∷ ms) [] a l = refl
combined-beyond n c (m ∷ ms) (row ∷ rows) a l =
    let e = entry-beyond n c row (recursion_from_All (λ (t : ℕ × ℤ). t.0 < n) row a.0) l in
    ap (λ z. m *ℤ z +ℤ combined ms rows c) e ∙ ap (λ z. m *ℤ pos 0 +ℤ z) (combined-beyond n c ms rows a.1 l)
    ∙ ap (λ z. z +ℤ pos 0) (*ℤ-zero m)

weight-beyond : (n c : ℕ) (ms : List ℤ) (bounds : List Standing)
    → AllByRecursion (λ (b : Standing). b.column < n) bounds → n ≤ c → weight ms bounds c ≡ pos 0
weight-beyond n c [] bounds a l = refl
weight-beyond n c (m ∷ ms) [] a l = refl
weight-beyond n c (m ∷ ms) (b ∷ bounds) a l =
    ap (λ w. cond w (turned b.upper m +ℤ weight ms bounds c) (weight ms bounds c))
    (other b.column c (λ e. let q = a.0 in omega arith)) ∙ weight-beyond n c ms bounds a.1 l

-- ---- the parts

record AreSourced (g : Form) (t : State) (used : List Standing) (pairs : List (ℤ × Source)) : Type 0 where
  parts : List Part
  are_parts : AllByRecursion (IsPart g) parts
  stand : AllByRecursion (λ (p : Part). Contains t.bounds p.bound) parts
  signed : AllByRecursion (λ (p : Part). pos 0 ≤ℤ p.multiplier) parts
  same : map sourced parts ≡ pairs
  same_bounds : bounds_of parts ≡ used
  same_multipliers : multipliers_of parts ≡ map (λ (p : ℤ × Source). p.0) pairs

module _ (g : Form) (t : State) (means : All (IsOfLiteral g) t.bounds) where
  joined : (used : List Standing) (pairs : List (ℤ × Source)) → map (λ (p : ℤ × Source). p.1) pairs ≡ map source_of used
      → AllByRecursion (Contains t.bounds) used → AllByRecursion (λ (m : ℤ). pos 0 ≤ℤ m)
      (map (λ (p : ℤ × Source). p.0) pairs)
      → AreSourced g t used pairs
  joined [] [] e c n = record { parts = []; are_parts = tt; stand = tt; signed = tt; same = refl; same_bounds = refl; same_multipliers = refl }
  joined [] (p ∷ pairs) e c n = absurd cc
  joined (b ∷ used) [] e c n = absurd cc
  joined (b ∷ used) ((m, k) ∷ pairs) e c n =
      let w = joined used pairs (tails e) c.1 n.1 in
      let l = All-contains (IsOfLiteral g) t.bounds b means c.0 in
      record {
        parts = record { bound = b; atom = l.0; sign = l.1; multiplier = m } ∷ w.parts;
        are_parts = (record { named = l.2.named; means = l.2.means }, w.are_parts);
        stand = (c.0, w.stand);
        signed = (n.0, w.signed);
        same = ap (λ y. (m, y) ∷ map sourced w.parts) (sym (heads e)) ∙ ap (λ ps. (m, k) ∷ ps) w.same;
        same_bounds = ap (λ bs. b ∷ bs) w.same_bounds;
        same_multipliers = ap (λ ms. m ∷ ms) w.same_multipliers;
      } where
        tails : k ∷ map (λ (p : ℤ × Source). p.1) pairs ≡ s.Literal b.literal ∷ map source_of used
            → map (λ (p : ℤ × Source). p.1) pairs ≡ map source_of used
        tails e = cc

        heads : k ∷ map (λ (p : ℤ × Source). p.1) pairs ≡ s.Literal b.literal ∷ map source_of used
            → k ≡ s.Literal b.literal
        heads e = cc

  used-within : (n : ℕ) (used : List Standing) → All (λ (b : Standing). b.column < n) t.bounds
      → AllByRecursion (Contains t.bounds) used
      → AllByRecursion (λ (b : Standing). b.column < n) used
  used-within n [] a c = tt
  used-within n (b ∷ used) a c = (
    All-contains
        (λ (b : Standing). b.column < n) t.bounds b a c.0,
    used-within n used a c.1,
  )

positive-cancel : (d z : ℤ) → pos 0 <ℤ d → d *ℤ z ≡ pos 0 → z ≡ pos 0
positive-cancel (negsuc k) z h e = absurd (omega (arith, ints))
positive-cancel (pos zero) z h e = absurd (omega (arith, ints))
positive-cancel (pos (suc k)) z h e = cancelled k z (pos 0) (e ∙ sym (*ℤ-zero (pos (suc k))))

variables-of : (g : Form) (whole scan : List (ℕ × ℤ)) → ((c : ℕ) → length g.shapes ≤ c → c < columns_of g → Contains
    (last_columns (rows_of g)) c)
    → ((c : ℕ) → columns_of g ≤ c → entry whole c ≡ pos 0)
    → AllByRecursion (λ (t : ℕ × ℤ). ¬ Contains (last_columns (rows_of g)) t.0) scan
    → AllByRecursion (λ (t : ℕ × ℤ). t.1 ≢ pos 0) scan → AllByRecursion (λ (t : ℕ × ℤ). entry whole t.0 ≡ t.1) scan
    → AllByRecursion (λ (t : ℕ × ℤ). IsVariable g t.0) scan
variables-of g whole [] own far u n e = tt
variables-of g whole ((x, b) ∷ rest) own far u n e = (
  go (split x (length g.shapes))
      (split x (columns_of g)),
  variables-of g whole rest own far u.1 n.1 e.1,
) where
  split : (x y : ℕ) → (x < y) ⊎ (y ≤ x)
  split x y = grind arith

  go : (x < length g.shapes) ⊎ (length g.shapes ≤ x) → (x < columns_of g) ⊎ (columns_of g ≤ x) → x < length g.shapes
  go (inl l) w = l
  go (inr l) (inl w) = absurd (u.0 (own x l w))
  go (inr l) (inr w) = absurd (n.0 (sym e.0 ∙ far x w))

pub followed : (g : Form) (known : List (List SignedLiteral)) (t : State) (bounds : List Standing) (line : Sum)
    (atom : Inequality)
    → IsPlain g → IsTableauOf g t → line.parts ≢ [] → FollowsBy t bounds line atom → IsCutStepOf g known t line atom
followed g known t bounds line atom plain h some f =
    let w = joined g t h.literals bounds line.parts f.sources (recursion_from_All (Contains t.bounds) bounds f.stand)
    (recursion_from_All (λ (m : ℤ). pos 0 ≤ℤ m) (multipliers_in line) f.not_negative) in
    let used = used-within g t h.literals t.columns bounds h.sound.of_columns
    (recursion_from_All (Contains t.bounds) bounds f.stand) in
    let sums : (c : ℕ) → weight (multipliers_in line) bounds c +ℤ combined f.rows (rows_of g) c
    ≡ line.divisor *ℤ entry atom.terms c =
    λ c. ap (λ rs. weight (multipliers_in line) bounds c +ℤ combined f.rows rs c) (sym h.given) ∙ f.sums c in
    let far : (c : ℕ) → columns_of g ≤ c → entry atom.terms c ≡ pos 0 =
    λ c l. let k : t.columns ≤ c = subst (λ n. n ≤ c) (sym h.columns) l in
    let a = weight-beyond t.columns c (multipliers_in line) bounds used k in
    let b = combined-beyond t.columns c f.rows t.given (recursion_from_All
    (IsWithin t.columns) t.given h.sound.given.in_range) k in
    let e = f.sums c in
    positive-cancel line.divisor (entry atom.terms c) f.positive (omega (arith, ints)) in
    let own : (c : ℕ) → length g.shapes ≤ c → c < columns_of g → Contains (last_columns (rows_of g)) c =
    λ c l k. own-columns (length g.shapes) (length g.shapes) g.atoms c (below g plain) (omega arith) l k in
    let undefined = subst (λ rs. AllByRecursion (λ (t : ℕ × ℤ). ¬ Contains (last_columns rs) t.0) atom.terms) h.given
    (recursion_from_All (λ (u : ℕ × ℤ). ¬ Contains (last_columns t.given) u.0) atom.terms f.undefined) in
    let cut : IsCutBy g w.parts line.divisor atom = record {
      some_part = λ e. some (sym w.same ∙ ap (λ ps. map sourced ps) e);
      are_parts = All-from_recursion (IsPart g) w.parts w.are_parts;
      not_negative = All-from_recursion (λ (p : Part). pos 0 ≤ℤ p.multiplier) w.parts w.signed;
      positive = f.positive;
      variables = All-from_recursion (λ (u : ℕ × ℤ). IsVariable g u.0) atom.terms
          (variables-of g atom.terms atom.terms own far undefined
          (recursion_from_All (λ (u : ℕ × ℤ). u.1 ≢ pos 0) atom.terms f.entries)
          (listed atom.terms (in-order-differ atom.terms f.in_order)));
      sums = (
        f.rows,
        λ c. ap (λ ms. weight ms (bounds_of w.parts) c +ℤ combined f.rows
            (rows_of g) c) w.same_multipliers
            ∙ ap (λ bs. weight (multipliers_in line) bs c +ℤ combined f.rows (rows_of g) c) w.same_bounds ∙ sums c,
      );
      rounded = f.rounded ∙ ap (λ z. int_div_euclid z line.divisor)
          (sym (ap (λ ms. limits ms (bounds_of w.parts)) w.same_multipliers
          ∙ ap (λ bs. limits (multipliers_in line) bs) w.same_bounds));
    } in
    record {
      parts = w.parts;
      stand = All-from_recursion (λ (p : Part). Contains t.bounds p.bound) w.parts w.stand;
      same = w.same;
      cut = cut;
      taken = cut_step_is_taken g known w.parts atom plain line.divisor cut;
    }
