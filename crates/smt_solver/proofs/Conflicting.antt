-- Bounds of true literals that refute each other give a step that is taken or past, whose clause says more.
use Rattle.std.specs.Prelude.{ℕ, zero, suc, ◌≡◌, ◌≢◌, ◌+◌, Bool, true, false, cond, List, [], ◌∷◌, ◌++◌, length, map, Option, Some, None, Contains, slice_get, refl}
use Rattle.std.specs.List.{AllByRecursion}
use Rattle.std.proofs.Common.{sym, ◌∙◌, ap, subst, inl, inr, arith}
use Rattle.std.proofs.lemmas.Int.{ints}
use Rattle.std.proofs.lemmas.List.{append-nil, length-map}
use Rattle.std.proofs.lemmas.List.Elements.{All-contains, recursion_from_All, Contains-append_cases}
use lib.IntN.{ℤ, pos}
use lib.Signed.{◌<ℤ◌}
use Rattle.proof_steps.specs.declared.Literal.{Literal}
use Rattle.proof_steps.specs.declared.Literal.TheVariants.{Flag, Atom}
use Rattle.proof_steps.specs.View.{Inequality}
use Rattle.proof_steps.specs.Meaning.{at, opposite, negated}
use Rattle.proof_steps.specs.Rows.{Form}
use Rattle.proof_steps.specs.Bounds.{Bound, bound_if, bounds_from, bound_of_literal}
use Rattle.proof_steps.specs.Stopped.{Includes}
use Rattle.proof_checker.specs.Derived.{has}
use Rattle.proof_checker.proofs.Sets.{has-contains}
use Rattle.int_simplex.specs.State.{Standing as Limit}
use Rattle.int_simplex.specs.Farkas.{limits}
use Rattle.int_simplex.proofs.Places.{same_some, mapped_at}
use Rattle.line_laws.specs.Lines.{Part, IsPart, multipliers_of, bounds_of}
use Rattle.line_laws.specs.Steps.{IsOfLiteral, RefutationsGiveSteps, denied, numbered, standing, divisor_of}
use Rattle.sat_core.specs.declared.assigned.Assigned.{Assigned}
use Rattle.sat_core.specs.Trail.{trues, falses, value_of, IsApart, IsFalse}
use Rattle.smt_solver.specs.declared.numbers.meanings.Meaning.{Meaning}
use Rattle.smt_solver.specs.declared.numbers.steps.Used.{Used}
use Rattle.smt_solver.specs.States.{is_set}
use Rattle.smt_solver.specs.Sums.{meaning_view, all_meant, divisor_in}
use Rattle.smt_solver.specs.Used.{used_of, used_by, divisor_at}
use Rattle.smt_solver.specs.Asserting.{signed_bound, bound_by_value, bound_at, bounds_at}
use Rattle.smt_solver.specs.Run.{Standing}
use Rattle.smt_solver.specs.Growing.{SaysMore}
use Rattle.smt_solver.specs.Conflicting.{AreMeaningsOf, IsSettled, AreRefuted, IsConflictOf}
use Rattle.smt_solver.proofs.Turns.{all-of}
use Rattle.smt_solver.proofs.Valued.{stands, order}

-- ---- where a bound comes from

pub record IsBoundAt (trail : List Assigned) (n : ℕ) (ms : List Meaning) (b : Limit) : Type 0 where
  pub place : ℕ
  pub meaning : Meaning
  pub sign : Bool
  pub is_meaning : slice_get ms place ≡ Some meaning
  pub is_value : value_of trail (Atom (n + place) true) ≡ Some sign
  pub is_bound : b ≡ standing (n + place) (signed_bound sign meaning)

alone : (b c : Limit) → Contains (b ∷ []) c → c ≡ b
alone b c (zero, l, q) = sym q
alone b c (suc k, l, q) = absurd (omega arith)

first-bound : (trail : List Assigned) (n : ℕ) (m : Meaning) (ms : List Meaning) (b : Limit)
    → Contains (bound_at trail n m) b → IsBoundAt trail n (m ∷ ms) b
first-bound trail n m ms b i = go (value_of trail (Atom n true)) refl i where
  same : (n : ℕ) → n ≡ n + 0
  same n = omega arith

  go : (o : Option Bool) → value_of trail (Atom n true) ≡ o → Contains (bound_by_value o n m) b → IsBoundAt trail n (m ∷ ms) b
  go None e (k, l, q) = absurd (omega arith)
  go (Some sign) e j = record {
    place = 0;
    meaning = m;
    sign = sign;
    is_meaning = refl;
    is_value = subst (λ k. value_of trail (Atom k true) ≡ Some sign) (same n) e;
    is_bound = alone (standing n (signed_bound sign m)) b j ∙ ap (λ k. standing k (signed_bound sign m)) (same n);
  }

pub bound-in : (trail : List Assigned) (n : ℕ) (ms : List Meaning) (b : Limit) → Contains (bounds_at trail n ms) b
    → IsBoundAt trail n ms b
bound-in trail n [] b (k, l, q) = absurd (omega arith)
bound-in trail n (m ∷ ms) b i = elim (Contains-append_cases (bound_at trail n m) (bounds_at trail (suc n) ms) b i) [
  | inl j ↦ first-bound trail n m ms b j
  | inr j ↦ later (bound-in trail (suc n) ms b j)
] where
  next : (n k : ℕ) → suc n + k ≡ n + suc k
  next n k = omega arith

  later : IsBoundAt trail (suc n) ms b → IsBoundAt trail n (m ∷ ms) b
  later a = record {
    place = suc a.place;
    meaning = a.meaning;
    sign = a.sign;
    is_meaning = a.is_meaning;
    is_value = subst (λ k. value_of trail (Atom k true) ≡ Some a.sign) (next n a.place) a.is_value;
    is_bound = a.is_bound ∙ ap (λ k. standing k (signed_bound a.sign a.meaning)) (next n a.place);
  }

pub some-meaning : (ms : List Meaning) (k : ℕ) (b : Bound) → slice_get (all_meant ms) k ≡ Some (Some b)
    → (m : Meaning) × (slice_get ms k ≡ Some m) × (meaning_view m ≡ b)
some-meaning [] k b e = absurd cc
some-meaning (m ∷ ms) zero b e = (m, refl, is (meaning_view m) b e) where
  is : (a b : Bound) → Some (Some a) ≡ Some (Some b) → a ≡ b
  is a b e = cc
some-meaning (m ∷ ms) (suc k) b e = some-meaning ms k b e

-- ---- what the bound of a literal is

module _ (f : Form) (ms : List Meaning) (h : AreMeaningsOf f ms) where
  meant-at : (k : ℕ) (m : Meaning) → slice_get ms k ≡ Some m
      → at (bounds_from (length f.shapes) (f.atoms ++ [])) (suc k) ≡ Some (Some (meaning_view m))
  meant-at k m e =
      subst (λ (atoms : List Inequality). slice_get (bounds_from (length f.shapes) atoms) k ≡ Some (Some (meaning_view m)))
      (sym (append-nil f.atoms))
      (subst (λ (bs : List (Option Bound)). slice_get bs k ≡ Some (Some (meaning_view m))) h.bounds
      (mapped_at (λ m. Some (meaning_view m)) ms k m e))

  pub signed-if : (sign : Bool) (m : Meaning) → bound_if sign (Some (Some (meaning_view m))) ≡ Some (signed_bound sign m)
  signed-if true m = refl
  signed-if false m = refl

  pub literal-bound : (k : ℕ) (m : Meaning) (sign : Bool) → slice_get ms k ≡ Some m
      → bound_of_literal f [] (Atom (suc k) sign) ≡ Some (signed_bound sign m)
  literal-bound k m sign e = ap (bound_if sign) (meant-at k m e) ∙ signed-if sign m

  divisor-of-atom : (k : ℕ) (m : Meaning) (i : Inequality) → slice_get ms k ≡ Some m → slice_get f.atoms k ≡ Some i
      → m.divisor ≡ divisor_in i
  divisor-of-atom k m i e g =
      let a = mapped_at (λ (m : Meaning). m.divisor) ms k m e in
      let b = mapped_at divisor_in f.atoms k i g in
      same_some m.divisor (divisor_in i) (sym a ∙ ap (λ (ds : List ℤ). slice_get ds k) h.divisors ∙ b)

  some-at : (xs : List Meaning) (ys : List Inequality) (k : ℕ) (m : Meaning) → length xs ≡ length ys
      → slice_get xs k ≡ Some m → (i : Inequality) × (slice_get ys k ≡ Some i)
  some-at [] ys k m l e = absurd cc
  some-at (x ∷ xs) [] k m l e = absurd (omega arith)
  some-at (x ∷ xs) (y ∷ ys) zero m l e = (y, refl)
  some-at (x ∷ xs) (y ∷ ys) (suc k) m l e = some-at xs ys k m (let q = l in omega arith) e

  pub atom-at : (k : ℕ) (m : Meaning) → slice_get ms k ≡ Some m → (i : Inequality) × (slice_get f.atoms k ≡ Some i)
  atom-at k m e = some-at ms f.atoms k m (
      let a = length-map ms (λ (m : Meaning). m.divisor) in let b = length-map f.atoms divisor_in in
      let c = ap length h.divisors in omega arith) e

  one-up : (k : ℕ) → 1 + k ≡ suc k
  one-up k = omega arith

  -- each bound is what a literal means
  is-literal : (trail : List Assigned) (b : Limit) → Contains (bounds_at trail 1 ms) b → IsOfLiteral f b
  is-literal trail b i =
      let a = bound-in trail 1 ms b i in
      let j = atom-at a.place a.meaning a.is_meaning in
      let e : b ≡ standing (suc a.place) (signed_bound a.sign a.meaning) =
      a.is_bound ∙ ap (λ k. standing k (signed_bound a.sign a.meaning)) (one-up a.place) in
      subst (IsOfLiteral f) (sym e) (
        j.0,
        a.sign,
        record {
          named = j.1;
          means = literal-bound a.place a.meaning a.sign a.is_meaning;
        },
      )

  -- ---- a part of bounds of true literals

  module _ (trail : List Assigned) (p : Part) (i : Contains (bounds_at trail 1 ms) p.bound) (q : IsPart f p) where
    source : IsBoundAt trail 1 ms p.bound
    source = bound-in trail 1 ms p.bound i

    number : p.bound.literal ≡ suc source.place
    number = ap (λ (b : Limit). b.literal) source.is_bound ∙ one-up source.place

    value-is : value_of trail (Atom p.bound.literal true) ≡ Some source.sign
    value-is = subst (λ k. value_of trail (Atom k true) ≡ Some source.sign) (one-up source.place ∙ sym number) source.is_value

    sides : (a b u : Bool) (m : Meaning) → m.upper ≡ u → (signed_bound a m).upper ≡ (signed_bound b m).upper → a ≡ b
    sides true true u m e g = refl
    sides false false u m e g = refl
    sides true false true m e g = let w : true ≡ false = sym e ∙ g ∙ ap negated e in absurd cc
    sides true false false m e g = let w : false ≡ true = sym e ∙ g ∙ ap negated e in absurd cc
    sides false true true m e g = let w : false ≡ true = sym (ap negated e) ∙ g ∙ e in absurd cc
    sides false true false m e g = let w : true ≡ false = sym (ap negated e) ∙ g ∙ e in absurd cc

    upper-of : (a b : Bound) → Some a ≡ Some b → a.upper ≡ b.upper
    upper-of a b e = cc

    -- the part's sign is the value
    sign-is : p.sign ≡ source.sign
    sign-is = sides p.sign source.sign source.meaning.upper source.meaning refl (
        upper-of (signed_bound p.sign source.meaning)
        record { column = p.bound.column; upper = p.bound.upper; limit = p.bound.limit }
        (sym (literal-bound source.place source.meaning p.sign source.is_meaning)
        ∙ ap (λ n. bound_of_literal f [] (Atom n p.sign)) (sym number) ∙ q.means)
        ∙ ap (λ (b : Limit). b.upper) source.is_bound)

    pub part-value : value_of trail (Atom p.bound.literal true) ≡ Some p.sign
    part-value = value-is ∙ ap (λ b. Some b) (sym sign-is)

    meaning-is : at ms p.bound.literal ≡ Some source.meaning
    meaning-is = ap (at ms) number ∙ source.is_meaning

    divisor-is : source.meaning.divisor ≡ divisor_of p.atom.terms
    divisor-is = divisor-of-atom source.place source.meaning p.atom source.is_meaning
        (sym (ap (at f.atoms) number) ∙ q.named)

    abbrev a_use : ℤ → ℕ → Bool → ℤ → Used
    a_use z n b d = record { multiplier = z; atom = n; sign = b; divisor = d }

    pub use-is : used_of p ≡ used_by trail ms (numbered p)
    use-is =
        ap (λ b. a_use p.multiplier p.bound.literal b (divisor_of p.atom.terms)) (sym (ap is_set part-value))
        ∙ ap (a_use p.multiplier p.bound.literal (is_set (value_of trail (Atom p.bound.literal true))))
        (sym (ap divisor_at meaning-is ∙ divisor-is))

  uses-are : (trail : List Assigned) (ps : List Part) → AllByRecursion (λ (p : Part). Contains (bounds_at trail 1 ms) p.bound) ps
      → AllByRecursion (IsPart f) ps → map used_of ps ≡ map (used_by trail ms) (map numbered ps)
  uses-are trail [] i q = refl
  uses-are trail (p ∷ ps) i q =
      ap (λ u. u ∷ map used_of ps) (use-is trail p i.0 q.0)
      ∙ ap (λ (us : List Used). used_by trail ms (numbered p) ∷ us) (uses-are trail ps i.1 q.1)

-- ---- the clause

-- what is false is the opposite of what is true
pub opposite-false : (trail : List Assigned) (x : Literal) → Contains (trues trail) x → Contains (falses trail) (opposite x)
opposite-false [] x (k, l, q) = absurd (omega arith)
opposite-false (a ∷ trail) x (zero, l, q) = (0, omega arith, ap opposite q)
opposite-false (a ∷ trail) x (suc k, l, q) =
    let s = opposite-false trail x (k, omega arith, q) in (suc s.0, (let m = s.1 in omega arith), s.2)

twice : (x : Literal) → opposite (opposite x) ≡ x
twice (Flag n true) = refl
twice (Flag n false) = refl
twice (Atom n true) = refl
twice (Atom n false) = refl

pub true-again : (trail : List Assigned) (x : Literal) → Contains (falses trail) x → Contains (trues trail) (opposite x)
true-again [] x (k, l, q) = absurd (omega arith)
true-again (a ∷ trail) x (zero, l, q) = (0, omega arith, sym (twice a.literal) ∙ ap opposite q)
true-again (a ∷ trail) x (suc k, l, q) =
    let s = true-again trail x (k, omega arith, q) in (suc s.0, (let m = s.1 in omega arith), s.2)

-- no variable is true both ways
pub one-way : (trail : List Assigned) (x : Literal) → IsApart trail → Contains (trues trail) x
    → Contains (trues trail) (opposite x) → ⊥
one-way trail x h p q =
    let a = stands trail x p in
    let b = stands trail (opposite x) q in
    elim (order a.0 b.0) [
      | inl u ↦ (h a.0 b.0 a.1 b.1 u a.2 b.2).not_opposite (a.3 ∙ sym (twice x) ∙ sym (ap opposite b.3))
      | inr r ↦ elim r [
        | inl u ↦ (h b.0 a.0 b.1 a.1 u b.2 a.2).not_opposite (b.3 ∙ sym (ap opposite a.3))
        | inr u ↦ let e : Some a.1 ≡ Some b.1 = sym a.2 ∙ ap (slice_get trail) u ∙ b.2 in
            differs x (sym a.3 ∙ ap (λ (y : Assigned). y.literal) (same_some a.1 b.1 e) ∙ b.3)
      ]
    ] where
      differs : (x : Literal) → x ≡ opposite x → ⊥
      differs (Flag n true) e = absurd cc
      differs (Flag n false) e = absurd cc
      differs (Atom n true) e = absurd cc
      differs (Atom n false) e = absurd cc

literal-true : (trail : List Assigned) (n : ℕ) (sign : Bool) → value_of trail (Atom n true) ≡ Some sign
    → Contains (trues trail) (Atom n sign)
literal-true trail n sign e = go (has (trues trail) (Atom n true)) (has (falses trail) (Atom n true)) sign refl refl e where
  go : (a b s : Bool) → has (trues trail) (Atom n true) ≡ a → has (falses trail) (Atom n true) ≡ b
      → cond a (Some true) (cond b (Some false) None) ≡ Some s → Contains (trues trail) (Atom n s)
  go true b true p q w = has-contains (trues trail) (Atom n true) p
  go true b false p q w = absurd cc
  go false true true p q w = absurd cc
  go false true false p q w = true-again trail (Atom n true) (has-contains (falses trail) (Atom n true) q)
  go false false s p q w = absurd cc

module _ (s : Standing) (h : IsSettled s) where
  abbrev AreFalse : List Part → Type 0
  AreFalse ps = AllByRecursion (λ p. Contains (falses s.search.trail) (denied p)) ps

  all-false : (ps : List Part) → AreFalse ps → (x : Literal) → Contains (map denied ps) x
      → Contains (falses s.search.trail) x
  all-false [] a x (k, l, q) = absurd (omega arith)
  all-false (p ∷ ps) a x (zero, l, q) = subst (Contains (falses s.search.trail)) q a.0
  all-false (p ∷ ps) a x (suc k, l, q) = all-false ps a.1 x (k, omega arith, q)

  not-nothing : (ps : List Part) → ps ≢ [] → map denied ps ≢ []
  not-nothing [] n e = n refl
  not-nothing (p ∷ ps) n e = absurd cc

  says-more : (ps : List Part) → ps ≢ [] → AreFalse ps → SaysMore s.search.known (map denied ps)
  says-more ps n a = record {
    literals = not-nothing ps n;
    no_opposites = all-of (λ m. ¬ Contains (map denied ps) (opposite m)) (map denied ps) (λ m i j.
        one-way s.search.trail (opposite m) h.apart (true-again s.search.trail m (all-false ps a m i))
        (true-again s.search.trail (opposite m) (all-false ps a (opposite m) j)));
    fresh = all-of (λ other. ¬ Includes (map denied ps) other) s.search.known (λ other i includes.
        All-contains (λ c. ¬ IsFalse s.search.trail c) s.search.known other h.none_false i
        (all-of (Contains (falses s.search.trail)) other (λ m j.
        all-false ps a m (All-contains (λ m. Contains (map denied ps) m) other m includes j))));
  }

-- ---- the conflict

some-part : (ps : List Part) → limits (multipliers_of ps) (bounds_of ps) <ℤ pos 0 → ps ≢ []
some-part [] l e = absurd (omega (arith, ints))
some-part (p ∷ ps) l e = absurd cc

pub conflict-of : RefutationsGiveSteps → (s : Standing) (ms : List Meaning) (parts : List (ℤ × ℕ)) → AreRefuted s ms parts
    → IsConflictOf s ms parts
conflict-of law s ms parts r =
    let bounds = bounds_at s.search.trail 1 ms in
    let step = law s.form s.search.known bounds parts r.plain
    (all-of (IsOfLiteral s.form) bounds (is-literal s.form ms r.meanings s.search.trail)) r.refutes in
    let stand = recursion_from_All (λ (p : Part). Contains bounds p.bound) step.parts step.stand in
    let are = recursion_from_All (IsPart s.form) step.parts step.refute.are_parts in
    record {
      step = step;
      uses = uses-are s.form ms r.meanings s.search.trail step.parts stand are
          ∙ ap (map (used_by s.search.trail ms)) step.same;
      more = says-more s r.settled step.parts (some-part step.parts step.refute.absurd)
          (falses-of step.parts stand are);
    } where
      falses-of : (ps : List Part) → AllByRecursion (λ (p : Part). Contains (bounds_at s.search.trail 1 ms) p.bound) ps
          → AllByRecursion (IsPart s.form) ps → AreFalse s r.settled ps
      falses-of [] i q = tt
      falses-of (p ∷ ps) i q = (
        opposite-false s.search.trail (Atom p.bound.literal p.sign)
            (literal-true s.search.trail p.bound.literal p.sign (part-value s.form ms r.meanings s.search.trail p i.0 q.0)),
        falses-of ps i.1 q.1,
      )
