-- The line of a row's parts is the row's cut, and its atom follows by it.
use Rattle.std.specs.Prelude.{ℕ, suc, ◌≡◌, ◌≢◌, ◌⊎◌, ◌<◌, ◌≤◌, Bool, false, cond, List, [], ◌∷◌, map, All, Contains, Some, None, slice_get}
use Rattle.std.specs.Int.{int_div_euclid, int_rem_euclid}
use Rattle.std.proofs.Common.{sym, ◌∙◌, ap, subst, arith, refl, inl, inr, get_or}
use Rattle.std.proofs.lemmas.Int.{ints}
use Rattle.std.proofs.lemmas.Option.{slice_get-get_or, slice_get_within}
use lib.IntN.{ℤ, pos, ◌+ℤ◌, ◌*ℤ◌, neg_ℤ, *ℤ-zero}
use lib.Signed.{◌≤ℤ◌, ◌<ℤ◌}
use Rattle.kind_num.proofs.Ring.{exact_quotient}
use Rattle.kind_num.proofs.Quotients.{division_is}
use Rattle.proof_steps.specs.declared.Source.{Source}
use Rattle.proof_steps.specs.Meaning.{sum_of, as_said}
use Rattle.proof_steps.specs.View.{Inequality, Sum}
use Rattle.proof_steps.specs.Rows.{entry, combined, AllDiffer}
use Rattle.int_simplex.specs.State.{Standing, State}
use Rattle.int_simplex.specs.Farkas.{turned, weight, limits}
use Rattle.int_simplex.specs.Given.{column_of, last_column, last_columns, IsWithin}
use Rattle.int_simplex.specs.Inner.{read_off, IsCombination}
use Rattle.int_simplex.specs.Making.{IsMadeTo}
use Rattle.int_simplex.specs.OnRows.{AreOnRows}
use Rattle.int_simplex.specs.Sound.{IsSound, IsRowIn}
use Rattle.int_simplex.proofs.Algebra.{product_zero}
use Rattle.int_simplex.proofs.Apart.{apart, made_combination}
use Rattle.int_simplex.proofs.Sorting.{entry_of}
use Rattle.int_simplex.proofs.Sparse.{is_other, entry_listed, entry_past, listed_entry, sparse_in_order, sparse_no_zero, sparse_within}
use Rattle.int_simplex.proofs.Tables.{tightest_stands}
use Rattle.int_cuts.specs.Splits.{IsBroken}
use Rattle.int_cuts.specs.Cuts.{NoneLoose, IsGomory, FollowsBy, IsCut, BreakAtom, column_in}
use Rattle.int_cuts.specs.Parts.{IsPart, AreParts, sum_by, parts_line}
use Rattle.int_cuts.specs.declared.parts.Part.{Part}
use Rattle.int_cuts.proofs.Broken.{terms-sum, breaks}
use Rattle.int_cuts.proofs.Combined.{put_in, left_multiple, sums_left, none_left, put_beyond}
use Rattle.int_cuts.proofs.Listed.{defined_by, all_bounds, all_multipliers, parts_differ, multipliers_are, remainders_listed, line_multipliers, line_sources, right_sides}
use Rattle.int_cuts.proofs.Multiples.{part_bound, bounds_of, multipliers_of, Owned, Stood, whole}
use Rattle.int_cuts.proofs.Remainders.{Multiple, multiple_rest}

standing-is : (b : Standing) (c : ℕ) (u : Bool) (l : ℤ) (n : ℕ) → b.column ≡ c → b.upper ≡ u → b.limit ≡ l → b.literal ≡ n
    → b ≡ record { column = c; upper = u; limit = l; literal = n }
standing-is b c u l n ec eu el en =
    ap (λ k. let r : Standing = record { column = k; upper = b.upper; limit = b.limit; literal = b.literal } in r) ec
    ∙ ap (λ k. let r : Standing = record { column = c; upper = k; limit = b.limit; literal = b.literal } in r) eu
    ∙ ap (λ k. let r : Standing = record { column = c; upper = u; limit = k; literal = b.literal } in r) el
    ∙ ap (λ k. let r : Standing = record { column = c; upper = u; limit = l; literal = k } in r) en

pub part_stands : (s : State) (x : ℕ) (d : ℤ) (t : ℕ × ℤ) (p : Part) → IsPart s x d t p → Contains s.bounds (part_bound p)
part_stands s x d t p i =
    let w = tightest_stands s.bounds t.0 p.upper (p.limit, p.literal) i.bound in
    let P : Standing → Type 0 = λ b. Contains s.bounds b in
    subst P (standing-is w.bound p.column p.upper p.limit p.literal (w.column ∙ sym i.column) w.upper w.limit w.literal) w.stands

weight-beyond : (ms : List ℤ) (bs : List Standing) (n c : ℕ) → All (λ (b : Standing). b.column < n) bs → n ≤ c → weight ms bs c ≡ pos 0
weight-beyond [] bs n c a l = refl
weight-beyond (m ∷ ms) [] n c a l = refl
weight-beyond (m ∷ ms) (b ∷ bs) n c a l =
    let h : b.column < n = a 0 b (omega arith) in
    ap (λ y. cond y (turned b.upper m +ℤ weight ms bs c) (weight ms bs c)) (is_other b.column c (λ e. absurd (omega arith)))
    ∙ weight-beyond ms bs n c (λ k d j. a (suc k) d (omega arith)) l

reads : (e g : ℕ → ℤ) → ((c : ℕ) → e c ≡ g c) → (rows : List (List (ℕ × ℤ))) → read_off g rows ≡ read_off e rows
reads e g f [] = refl
reads e g f (r ∷ rows) = ap (λ z. neg_ℤ z ∷ read_off g rows) (sym (f (last_column r))) ∙ ap (λ zs. neg_ℤ (e (last_column r)) ∷ zs) (reads e g f rows)

module _ (s : State) (x n : ℕ) (row : List (ℕ × ℤ)) (parts : List Part) (sound : IsSound s) (on_rows : AreOnRows s) (is_row : IsRowIn s.given s.basis x row)
    (differ : AllDiffer (map column_of row)) (within : IsWithin s.columns row) (none : NoneLoose s x row) (stood : Stood s x row)
    (own : entry row x ≡ neg_ℤ (pos (suc n))) (broken : IsBroken s.values x) (are : AreParts s x (pos (suc n)) row parts) where
  pub owned : Owned x (pos (suc n)) row
  owned k t e q = sym (entry_of row k t differ e) ∙ ap (entry row) q ∙ own

  bounds-at : All (λ (b : Standing). slice_get s.values b.column ≡ Some (b.limit, pos 1)) (bounds_of parts)
  bounds-at = all_bounds s x (pos (suc n)) (λ (b : Standing). slice_get s.values b.column ≡ Some (b.limit, pos 1))
      (λ t p i. ap (slice_get s.values) i.column ∙ i.place) row parts are

  bounds-below : All (λ (b : Standing). b.column < s.columns) (bounds_of parts)
  bounds-below = all_bounds s x (pos (suc n)) (λ (b : Standing). b.column < s.columns)
      (λ t p i. let w = slice_get_within s.values t.0 (p.limit, pos 1) i.place in let c = sound.count in let e = i.column in omega arith) row parts are

  combination : IsCombination s.given (entry row)
  combination =
      let c = made_combination s.given is_row.multipliers (apart s.given s.columns sound.given) is_row.is_row.multipliers in
      λ k. is_row.entries k ∙ c k ∙ ap (λ ms. combined ms s.given k) (reads (entry row) (combined is_row.multipliers s.given) is_row.entries s.given)

  -- what is left of the bounds is a multiple of the divisor
  left : (c : ℕ) → Multiple (pos (suc n)) (weight (multipliers_of parts) (bounds_of parts) c +ℤ put_in
      (weight (multipliers_of parts) (bounds_of parts)) s.given c)
  left = left_multiple s.given (pos (suc n)) (weight (multipliers_of parts) (bounds_of parts)) (entry row) combination
      (whole s x n row parts are owned stood)

  module _ (terms : List (ℕ × ℤ)) (made : IsMadeTo s.columns (λ c. int_div_euclid (sum_by s.given (Some c) parts) (pos (suc n))) terms) where
    sums : (c : ℕ) → weight (multipliers_of parts) (bounds_of parts) c +ℤ put_in
        (weight (multipliers_of parts) (bounds_of parts)) s.given c ≡ pos (suc n) *ℤ entry terms c
    sums c = by (side c s.columns) where
      side : (a b : ℕ) → (a < b) ⊎ (b ≤ a)
      side a b = grind arith

      by : (c < s.columns) ⊎ (s.columns ≤ c) → weight (multipliers_of parts) (bounds_of parts) c +ℤ put_in
          (weight (multipliers_of parts) (bounds_of parts)) s.given c ≡ pos (suc n) *ℤ entry terms c
      by (inl l) =
          let e = sums_left s.given s.columns sound.given parts (defined_by s x (pos (suc n)) row parts are) c in
          sym (exact_quotient n (weight (multipliers_of parts) (bounds_of parts) c +ℤ put_in (weight (multipliers_of parts) (bounds_of parts)) s.given c)
          (multiple_rest n (weight (multipliers_of parts) (bounds_of parts) c +ℤ put_in (weight (multipliers_of parts) (bounds_of parts)) s.given c) (left c)))
          ∙ ap (λ z. pos (suc n) *ℤ int_div_euclid z (pos (suc n))) (sym e) ∙ ap (λ z. pos (suc n) *ℤ z) (sym (made.same c l))
      by (inr l) =
          let a = weight-beyond (multipliers_of parts) (bounds_of parts) s.columns c bounds-below l in
          let b = put_beyond (weight (multipliers_of parts) (bounds_of parts)) s.columns s.given c sound.given.in_range l in
          let d : pos (suc n) *ℤ entry terms c ≡ pos 0 = ap (λ z. pos (suc n) *ℤ z) (entry_past 0 s.columns terms c made.sparse l) ∙ *ℤ-zero (pos (suc n)) in
          omega (arith, ints)

    undefined : All (λ (t : ℕ × ℤ). ¬ Contains (last_columns s.given) t.0) terms
    undefined = λ k d h i.
        let e = slice_get-get_or terms k d h in
        let w = listed_entry 0 s.columns terms k (get_or terms k d) made.sparse e in
        let z = none_left s.given s.columns sound.given (weight (multipliers_of parts) (bounds_of parts)) (get_or terms k d).0 i in
        let q : pos (suc n) *ℤ entry terms (get_or terms k d).0 ≡ pos 0 = sym (sums (get_or terms k d).0) ∙ z in
        w.1 (sym w.0 ∙ product_zero (pos (suc n)) (entry terms (get_or terms k d).0) (λ y. absurd (omega (arith, ints))) q)

    abbrev line : Sum
    line = record { parts = parts_line parts; divisor = pos (suc n) }

    gomory : IsGomory s x row (bounds_of parts) line
    gomory = record {
      own = own;
      at_bounds = bounds-at;
      others = all_bounds s x (pos (suc n)) (λ (b : Standing). b.column ≢ x) (λ t p i q. i.other (sym i.column ∙ q)) row parts are;
      different = parts_differ s x (pos (suc n)) row parts differ are;
      multipliers = line_multipliers parts ∙ multipliers_are s x (pos (suc n)) (entry row) row parts (λ k t e. entry_of row k t differ e) are;
      listed = λ c m r.
          let h : entry row c ≢ pos 0 = λ z. r (ap (λ y. int_rem_euclid y (pos (suc n))) z ∙ zero-rest) in
          let w = entry_listed row c h in
          let e : entry row c ≡ w.1.1 = ap (entry row) (sym w.3) ∙ entry_of row w.0 w.1 differ w.2 in
          let P : ℕ → Type 0 = λ k. Contains (map column_in (bounds_of parts)) k in
          subst P w.3 (remainders_listed s x (pos (suc n)) row parts are w.0 w.1 w.2 (λ q. m (sym w.3 ∙ q)) (stood w.0 w.1 w.2 (λ q. m (sym w.3 ∙ q)))
          (λ z. r (ap (λ y. int_rem_euclid y (pos (suc n))) e ∙ z)));
    } where
      zero-rest : int_rem_euclid (pos 0) (pos (suc n)) ≡ pos 0
      zero-rest = multiple_rest n (pos 0) (pos 0, sym (*ℤ-zero (pos (suc n))))

    follows : (atom : Inequality) → atom.terms ≡ terms → atom.bound ≡ int_div_euclid (sum_by s.given None parts) (pos (suc n)) → FollowsBy s
        (bounds_of parts) line atom
    follows atom et eb =
        let P : List (ℕ × ℤ) → Type 0 = λ ts. FollowsBy s (bounds_of parts) line record { terms = ts; bound = atom.bound } in
        subst P (sym et) record {
          rows = map (λ r. weight (multipliers_of parts) (bounds_of parts) (last_column r)) s.given;
          sources = line_sources parts;
          stand = all_bounds s x (pos (suc n)) (Contains s.bounds) (λ t p i. part_stands s x (pos (suc n)) t p i) row parts are;
          not_negative = let Q : List ℤ → Type 0 = λ ms. All (λ (m : ℤ). pos 0 ≤ℤ m) ms in
              subst Q (sym (line_multipliers parts)) (all_multipliers s x (pos (suc n)) (λ (m : ℤ). pos 0 ≤ℤ m) (λ t p i. low p t i) row parts are);
          positive = omega (arith, ints);
          in_order = sparse_in_order 0 s.columns terms made.sparse;
          entries = sparse_no_zero 0 s.columns terms made.sparse;
          undefined = undefined;
          sums = λ c. ap (λ ms. weight ms (bounds_of parts) c +ℤ put_in (weight (multipliers_of parts) (bounds_of parts)) s.given c)
              (line_multipliers parts) ∙ sums c;
          rounded = eb ∙ ap (λ z. int_div_euclid z (pos (suc n))) (right_sides s.given parts ∙ ap (λ ms. limits ms (bounds_of parts))
              (sym (line_multipliers parts)));
        } where
          low : (p : Part) (t : ℕ × ℤ) → IsPart s x (pos (suc n)) t p → pos 0 ≤ℤ p.multiplier
          low p t i =
              let d = division_is (turned (as_said p.upper false) t.1) (pos (suc n)) (λ e. absurd (omega (arith, ints))) in
              let P : ℤ → Type 0 = λ z. pos 0 ≤ℤ z in subst P (sym i.multiplier) d.low

    pub is_cut : (l : Sum) (atom : Inequality) → l.parts ≡ parts_line parts → l.divisor ≡ pos (suc n) → atom.terms ≡ terms
        → atom.bound ≡ int_div_euclid (sum_by s.given None parts) (pos (suc n)) → IsCut s x l atom
    is_cut l atom ep ed et eb =
        let P : List (ℤ × Source) → Type 0 = λ ps. IsCut s x record { parts = ps; divisor = l.divisor } atom in
        let Q : ℤ → Type 0 = λ z. IsCut s x record { parts = parts_line parts; divisor = z } atom in
        subst P (sym ep) (subst Q (sym ed) record {
          row = row;
          is_row = is_row;
          none_loose = none;
          bounds = bounds_of parts;
          gomory = gomory;
          follows = follows atom et eb;
          broken = break atom et eb;
        }) where
          break : (atom : Inequality) → atom.terms ≡ terms → atom.bound ≡ int_div_euclid (sum_by s.given None parts) (pos (suc n)) → BreakAtom s.values atom
          break atom et eb p h =
              let e = terms-sum s x n row parts sound on_rows is_row within own broken are owned stood p h
              (map (λ r. weight (multipliers_of parts) (bounds_of parts) (last_column r)) s.given) terms
              (sparse_within 0 s.columns terms made.sparse) bounds-below bounds-at sums in
              let b = breaks s x n row parts sound on_rows is_row within own broken are owned stood p h terms e in
              let R : ℤ → Type 0 = λ z. (z *ℤ p.bottom) <ℤ sum_of p.tops terms in
              let S : List (ℕ × ℤ) → Type 0 = λ ts. (atom.bound *ℤ p.bottom) <ℤ sum_of p.tops ts in
              subst S (sym et) (subst R (sym (eb ∙ ap (λ z. int_div_euclid z (pos (suc n))) (right_sides s.given parts))) b)
