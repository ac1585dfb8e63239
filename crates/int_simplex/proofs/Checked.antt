-- What a check that ends says of its run.
use Rattle.std.specs.Prelude.{ℕ, suc, ◌≡◌, ◌<◌, true, false, cond, List, map, Contains, Option, Some, slice_get}
use Rattle.std.proofs.Common.{sym, ◌∙◌, ap, subst, arith, refl, inl, inr, get_or}
use Rattle.std.proofs.lemmas.Option.{slice_get-get_or, slice_get_within, get_or_from_slice_get}
use lib.IntN.{ℤ, pos}
use Rattle.proof_steps.specs.Pivots.{Position, Pivots, first_position, raised, lowered, bound_on}
use Rattle.proof_steps.specs.Pivots.{place_of as place_in}
use Rattle.int_simplex.specs.State.{State, beginning, plain, outside_from, top_of}
use Rattle.int_simplex.specs.Inner.{IsFree}
use Rattle.int_simplex.specs.Sound.{IsSound}
use Rattle.int_simplex.specs.Points.{IsFraction, Fit}
use Rattle.int_simplex.specs.Leads.{LeadsTo}
use Rattle.int_simplex.specs.Answers.{IsChecked, IsLong, StaysOrIsBound}
use Rattle.int_simplex.specs.Running.{IsKept, AreTables, IsReached, IsWalked, at, start_place}
use Rattle.int_simplex.specs.Farkas.{IsRefuted, farkas_view}
use Rattle.int_simplex.specs.declared.answers.Farkas.{Farkas}
use Rattle.int_simplex.specs.declared.run.Walked.TheVariants as w
use Rattle.int_simplex.proofs.Apart.{AreApart, apart}
use Rattle.int_simplex.proofs.Starts.{is_in_no}
use Rattle.int_simplex.proofs.Tables.{bounds_order}
use Rattle.int_simplex.proofs.Kept.{values_fractions}
use Rattle.int_simplex.proofs.Walks.{run_ends, shorter}
use Rattle.int_simplex.proofs.Ends.{AreAtBounds, first_bounds, run_bounds}
use Rattle.int_simplex.proofs.Fitting.{fit_after}
use Rattle.int_simplex.proofs.Checks.{stands_at, value_kept, listed_place}

pub pair_with : (v : ℤ × ℤ) (z : ℤ) → v.0 ≡ z → v.1 ≡ pos 1 → v ≡ (z, pos 1)
pair_with (a, b) z e f = ap (λ (x : ℤ). (x, b)) e ∙ ap (λ (x : ℤ). (z, x)) f

module _ (s : State) (basis : List ℕ) (rows : List (List (ℕ × ℤ))) (values : List (ℤ × ℤ)) (first places : List ℤ) (lowers uppers : List (Option (ℤ × ℕ))) (budget : ℕ)
    (sound : IsSound s) (free : IsFree s.given s.basis) (tables : AreTables s.columns s.bounds lowers uppers)
    (begins : first_position (beginning s budget) ≡ at s.basis first)
    (kept : IsKept s.given s.columns basis rows places values) (apart : AreApart s.given)
    (reached : IsReached s.given s.columns s.bounds budget (at s.basis first) basis places)
    (ends : (t : Position) → Pivots s.given s.columns (map plain s.bounds) (at basis places) t → ⊥) where
  begun : LeadsTo s.given s.columns (map plain s.bounds) reached.made (first_position (beginning s budget)) (at basis places)
  begun = let P : Position → Type 0 = λ u. LeadsTo s.given s.columns (map plain s.bounds) reached.made u (at basis places) in subst P (sym begins) reached.leads

  no-longer : IsLong s budget → ⊥
  no-longer l =
      let w = reached.within in
      run_ends s.given s.columns (map plain s.bounds) reached.made (first_position (beginning s budget)) (at basis places) apart free
      (bounds_order s.columns s.bounds lowers uppers tables) begun ends
      (shorter s.given s.columns (map plain s.bounds) (suc reached.made) (suc budget) (first_position (beginning s budget)) (omega arith) l)

  bounded : AreAtBounds s.bounds s.basis (start_place s.basis s.values) (at basis places)
  bounded = run_bounds s.given s.columns s.bounds lowers uppers tables s.basis (start_place s.basis s.values) reached.made
      (first_position (beginning s budget)) (at basis places) begun
      (first_bounds s.given s.columns s.bounds lowers uppers tables s.basis (start_place s.basis s.values) (first_position (beginning s budget)) refl
      (λ c. ap (λ z. lowered (bound_on true (map plain s.bounds) c) (raised (bound_on false (map plain s.bounds) c) z)) (listed_place s.values s.basis c)))

  old-value : (c : ℕ) → c < s.columns → (Contains s.basis c → ⊥) → slice_get s.values c ≡ Some (start_place s.basis s.values c, pos 1)
  old-value c h n =
      let k = sound.count in
      let v = get_or s.values c (pos 0, pos 1) in
      let g : slice_get s.values c ≡ Some (get_or s.values c (pos 0, pos 1)) = slice_get-get_or s.values c (pos 0, pos 1) (omega arith) in
      let o = sound.outside c (get_or s.values c (pos 0, pos 1)) n g in
      let p : start_place s.basis s.values c ≡ (get_or s.values c (pos 0, pos 1)).0 =
      ap (λ b. cond b (pos 0) (top_of (slice_get s.values c))) (is_in_no s.basis c n) ∙ ap top_of g in
      g ∙ ap Some (pair_with (get_or s.values c (pos 0, pos 1)) (start_place s.basis s.values c) (sym p) o)

  stays-or : (c : ℕ) → c < s.columns → (Contains basis c → ⊥) → StaysOrIsBound s (record s { basis = basis; values = values }) c
  stays-or c h n =
      let w = stands_at s.given s.columns basis rows places values kept c h n in
      elim (bounded c n) [
        | inl (o, e) ↦ inl (o, w ∙ ap (λ z. Some (z, pos 1)) e ∙ sym (old-value c h o))
        | inr (b, i, e, l) ↦ inr (b, i, e, w ∙ ap (λ z. Some (z, pos 1)) (sym l))
      ]

  pub checked : IsChecked s (record s { basis = basis; values = values }) budget
  checked = record {
    same = refl;
    run = record {
      last = at basis places;
      made = reached.made;
      within = reached.within;
      leads = begun;
      basis = refl;
      outside = λ c h n. stands_at s.given s.columns basis rows places values kept c h n;
      inside = λ x v i e. (
        subst IsFraction (get_or_from_slice_get values x v v e) (values_fractions s.given s.columns basis rows places values kept x v
            (slice_get_within values x v e)),
        value_kept s.given s.columns basis rows places values kept s.bounds s.usable x v i e,
      );
    };
    short = no-longer;
    outside = λ c h n. stays-or c h n;
  }

pub refuted_from : (s : State) (given : List (List (ℕ × ℤ))) (columns : ℕ) (basis : List ℕ) (rows : List (List (ℕ × ℤ)))
    (values : List (ℤ × ℤ)) (first places : List ℤ)
    (lowers uppers : List (Option (ℤ × ℕ))) (budget : ℕ) → IsSound s → IsFree s.given s.basis → AreTables s.columns s.bounds lowers uppers
    → first_position (beginning s budget) ≡ at s.basis first → given ≡ s.given → columns ≡ s.columns
    → IsKept given columns basis rows places values → (f : Farkas) → IsWalked given columns s.bounds budget (at s.basis first) basis places (w.Refuted f)
    → IsChecked s (record s { basis = basis; values = values }) budget × IsRefuted s.given s.columns s.bounds (farkas_view f)
refuted_from s given columns basis rows values first places lowers uppers budget sound free tables begins eg ec kept f h =
    let A : List (List (ℕ × ℤ)) → Type 0 = λ x. IsKept x columns basis rows places values in
    let B : ℕ → Type 0 = λ x. IsKept s.given x basis rows places values in
    let C : List (List (ℕ × ℤ)) → Type 0 = λ x. IsWalked x columns s.bounds budget (at s.basis first) basis places (w.Refuted f) in
    let D : ℕ → Type 0 = λ x. IsWalked s.given x s.bounds budget (at s.basis first) basis places (w.Refuted f) in
    let k = subst B ec (subst A eg kept) in
    let g = subst D ec (subst C eg h) in
    (checked s basis rows values first places lowers uppers budget sound free tables begins k (apart s.given s.columns sound.given) g.0 g.1.1, g.1.0)

pub fits_from : (s : State) (given : List (List (ℕ × ℤ))) (columns : ℕ) (basis : List ℕ) (rows : List (List (ℕ × ℤ)))
    (values : List (ℤ × ℤ)) (first places : List ℤ)
    (lowers uppers : List (Option (ℤ × ℕ))) (budget : ℕ) → IsSound s → IsFree s.given s.basis → AreTables s.columns s.bounds lowers uppers
    → first_position (beginning s budget) ≡ at s.basis first → given ≡ s.given → columns ≡ s.columns
    → IsKept given columns basis rows places values → IsWalked given columns s.bounds budget (at s.basis first) basis places w.Fits
    → IsChecked s (record s { basis = basis; values = values }) budget × Fit s.given s.bounds values
fits_from s given columns basis rows values first places lowers uppers budget sound free tables begins eg ec kept h =
    let A : List (List (ℕ × ℤ)) → Type 0 = λ x. IsKept x columns basis rows places values in
    let B : ℕ → Type 0 = λ x. IsKept s.given x basis rows places values in
    let C : List (List (ℕ × ℤ)) → Type 0 = λ x. IsWalked x columns s.bounds budget (at s.basis first) basis places w.Fits in
    let D : ℕ → Type 0 = λ x. IsWalked s.given x s.bounds budget (at s.basis first) basis places w.Fits in
    let E : Position → Type 0 = λ u. LeadsTo s.given s.columns (map plain s.bounds) (subst D ec (subst C eg h)).0.made u (at basis places) in
    let k = subst B ec (subst A eg kept) in
    let g = subst D ec (subst C eg h) in (
      checked s basis rows values first places lowers uppers budget sound free tables begins k (apart s.given s.columns sound.given) g.0
          (λ t p. g.1 p.leaving p.side p.limit p.multipliers p.misses),
      fit_after s.given s.columns s.bounds lowers uppers tables basis rows places values k g.0.made (first_position (beginning s budget))
          (place_in (outside_from 0 s.values s.basis))
          (λ c. refl) (subst E (sym begins) g.0.leads) g.1,
    )
