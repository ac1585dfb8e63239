-- The terms of a row in order, and the parts that are made of them.
use Rattle.std.specs.Prelude.{ℕ, zero, suc, ◌≡◌, ◌≢◌, ◌⊎◌, ◌<◌, Bool, true, false, List, [], ◌∷◌, length, map, All, Contains, Option, Some, None, slice_get}
use Rattle.std.specs.Int.{int_rem_euclid}
use Rattle.std.proofs.Common.{sym, ◌∙◌, ap, subst, arith, refl, inl, inr, get_or}
use Rattle.std.proofs.lemmas.Int.{ints}
use Rattle.std.proofs.lemmas.List.{length-map}
use Rattle.std.proofs.lemmas.List.Elements.{All-nil, All-cons}
use Rattle.std.proofs.lemmas.List.Kept.{AllPairs-from_increasing}
use Rattle.std.proofs.lemmas.Option.{slice_get_within, get_or_from_slice_get}
use lib.IntN.{ℤ, pos, ◌*ℤ◌}
use Rattle.proof_steps.specs.declared.Source.{Source}
use Rattle.proof_steps.specs.Rows.{entry, AllDiffer}
use Rattle.int_simplex.specs.State.{Standing, State}
use Rattle.int_simplex.specs.Farkas.{turned, limits}
use Rattle.int_simplex.specs.Given.{column_of, IsInOrder, HasNoZero}
use Rattle.int_simplex.proofs.Places.{same_some, listed_at, at_listed, mapped_at}
use Rattle.int_simplex.proofs.Sorting.{entry_of}
use Rattle.int_simplex.proofs.Sparse.{entry_listed}
use Rattle.kind_num.proofs.Ring.{times_neg}
use Rattle.int_cuts.specs.Cuts.{IsAtBound, IsLoose, NoneLoose, column_in, source_of, remainder}
use Rattle.int_cuts.specs.Parts.{IsPart, IsPartOf, AreParts, AreDefined, IsDefinedIn, IsPlaceIn, IsDefinedBy, IsRowOf, StandTo, NoneLooseIn, sum_by, parts_line}
use Rattle.int_cuts.specs.declared.parts.Part.{Part}
use Rattle.int_cuts.proofs.Combined.{AreDefinedBy}
use Rattle.int_cuts.proofs.Multiples.{part_bound, bounds_of, multipliers_of}

read-at : (xs : List ℕ) (k x : ℕ) → slice_get xs k ≡ Some x → get_or xs k 0 ≡ x
read-at xs k x e = get_or_from_slice_get xs k x 0 e

differ-from : (xs : List ℕ) → ((j k : ℕ) → j < k → k < length xs → get_or xs j 0 < get_or xs k 0) → AllDiffer xs
differ-from [] h = tt
differ-from (x ∷ xs) h = (
  (λ i.
      let j = at_listed xs x i in
      let l = slice_get_within xs j.0 x j.1 in
      let p : x < get_or xs j.0 0 = h 0 (suc j.0) (omega arith) (omega arith) in
      let q = read-at xs j.0 x j.1 in absurd (omega arith)),
  differ-from xs (λ j k l m. h (suc j) (suc k) (omega arith) (omega arith)),
)

-- columns in order differ
pub order_differs : (row : List (ℕ × ℤ)) → IsInOrder row → AllDiffer (map column_of row)
order_differs row o = differ-from (map column_of row) (λ j k l m. AllPairs-from_increasing (map column_of row) o j k 0 l m)

-- and a lesser column stands before
before : (row : List (ℕ × ℤ)) (j k : ℕ) (t u : ℕ × ℤ) → IsInOrder row → slice_get row j ≡ Some t → slice_get row k ≡ Some u → t.0 < u.0 → j < k
before row j k t u o et eu h = by (order-of j k) where
  order-of : (j k : ℕ) → (j < k) ⊎ ((k < j) ⊎ (j ≡ k))
  order-of j k = grind arith

  by : (j < k) ⊎ ((k < j) ⊎ (j ≡ k)) → j < k
  by (inl l) = l
  by (inr (inl l)) =
      let a = read-at (map column_of row) j t.0 (mapped_at column_of row j t et) in
      let b = read-at (map column_of row) k u.0 (mapped_at column_of row k u eu) in
      let m : length (map column_of row) ≡ length row = length-map row column_of in
      let w = slice_get_within row j t et in
      let p = AllPairs-from_increasing (map column_of row) o k j 0 l (omega arith) in
      absurd (omega arith)
  by (inr (inr q)) =
      let s : t ≡ u = same_some t u (sym et ∙ ap (slice_get row) q ∙ eu) in
      let c : t.0 ≡ u.0 = ap column_of s in absurd (omega arith)

not-zero : (row : List (ℕ × ℤ)) (k : ℕ) (t : ℕ × ℤ) → HasNoZero row → slice_get row k ≡ Some t → t.1 ≢ pos 0
not-zero row k t h e =
    let P : ℕ × ℤ → Type 0 = λ u. u.1 ≢ pos 0 in
    subst P (get_or_from_slice_get row k t t e) (h k t (slice_get_within row k t e))

pub loose_is : (s : State) (x c : ℕ) (row : List (ℕ × ℤ)) → IsRowOf s x row
    → ((k : ℕ) × (t : ℕ × ℤ) × (slice_get row k ≡ Some t) × (t.0 ≡ c) × (c ≢ x) × (¬ IsAtBound s c) × StandTo s row x k) → IsLoose s x c
loose_is s x c row r (k, t, e, q, n, b, f) = record {
  row = row;
  is_row = r.is_row;
  other = n;
  has_entry = λ z. not-zero row k t r.entries e (sym (entry_of row k t (order_differs row r.in_order) e) ∙ ap (entry row) q ∙ z);
  loose = b;
  first = λ j l d h.
      let w = entry_listed row j h in
      let P : ℕ → Type 0 = λ i. IsAtBound s i in
      subst P w.3 (f w.0 w.1 (before row w.0 k w.1 t r.in_order w.2 e (let a = w.3 in omega arith)) w.2 (λ y. d (sym w.3 ∙ y)));
}

-- where no term is loose, no column is
pub none_loose : (s : State) (x : ℕ) (row : List (ℕ × ℤ)) → NoneLooseIn s row x → NoneLoose s x row
none_loose s x row f c n h =
    let w = entry_listed row c h in
    let P : ℕ → Type 0 = λ i. IsAtBound s i in
    subst P w.3 (f w.0 w.1 (slice_get_within row w.0 w.1 w.2) w.2 (λ y. n (sym w.3 ∙ y)))

-- parts
pub defined_by : (s : State) (x : ℕ) (d : ℤ) (row : List (ℕ × ℤ)) (parts : List Part) → AreParts s x d row parts → AreDefinedBy s.given parts
defined_by s x d [] parts a = let P : List Part → Type 0 = λ ps. AreDefinedBy s.given ps in subst P (sym a) tt
defined_by s x d (t ∷ row) parts (inl (h, a)) = defined_by s x d row parts a
defined_by s x d (t ∷ row) parts (inr (p, rest, e, i, a)) =
    let P : List Part → Type 0 = λ ps. AreDefinedBy s.given ps in
    let Q : ℕ → Type 0 = λ c. IsDefinedBy s.given c p.row in
    subst P (sym e) (subst Q (sym i.column) i.row, defined_by s x d row rest a)

place-in : (given : List (List (ℕ × ℤ))) (c : ℕ) (p : Part) (o : Option ℕ) → o ≡ p.row → IsDefinedBy given c o → IsDefinedIn (length given) p
place-in given c p None e d = in-none p.row e where
  in-none : (o : Option ℕ) → None ≡ o → IsPlaceIn (length given) o
  in-none None e = tt
  in-none (Some k) e = absurd cc
place-in given c p (Some k) e (g, h, q) =
    let P : Option ℕ → Type 0 = λ o. IsPlaceIn (length given) o in
    subst P e (slice_get_within given k g h)

pub defined_in : (given : List (List (ℕ × ℤ))) (parts : List Part) → AreDefinedBy given parts → AreDefined (length given) parts
defined_in given [] d = All-nil (IsDefinedIn (length given))
defined_in given (p ∷ parts) d =
    All-cons (IsDefinedIn (length given)) p parts (place-in given p.column p p.row refl d.0) (defined_in given parts d.1)

pub all_bounds : (s : State) (x : ℕ) (d : ℤ) (P : Standing → Type 0) → ((t : ℕ × ℤ) (p : Part) → IsPart s x d t p → P (part_bound p))
    → (row : List (ℕ × ℤ)) (parts : List Part) → AreParts s x d row parts → All P (bounds_of parts)
all_bounds s x d P f [] parts a = let Q : List Part → Type 0 = λ ps. All P (bounds_of ps) in subst Q (sym a) (All-nil P)
all_bounds s x d P f (t ∷ row) parts (inl (h, a)) = all_bounds s x d P f row parts a
all_bounds s x d P f (t ∷ row) parts (inr (p, rest, e, i, a)) =
    let Q : List Part → Type 0 = λ ps. All P (bounds_of ps) in
    subst Q (sym e) (All-cons P (part_bound p) (bounds_of rest) (f t p i) (all_bounds s x d P f row rest a))

pub all_multipliers : (s : State) (x : ℕ) (d : ℤ) (P : ℤ → Type 0) → ((t : ℕ × ℤ) (p : Part) → IsPart s x d t p → P p.multiplier)
    → (row : List (ℕ × ℤ)) (parts : List Part) → AreParts s x d row parts → All P (multipliers_of parts)
all_multipliers s x d P f [] parts a = let Q : List Part → Type 0 = λ ps. All P (multipliers_of ps) in subst Q (sym a) (All-nil P)
all_multipliers s x d P f (t ∷ row) parts (inl (h, a)) = all_multipliers s x d P f row parts a
all_multipliers s x d P f (t ∷ row) parts (inr (p, rest, e, i, a)) =
    let Q : List Part → Type 0 = λ ps. All P (multipliers_of ps) in
    subst Q (sym e) (All-cons P p.multiplier (multipliers_of rest) (f t p i) (all_multipliers s x d P f row rest a))

-- a part's column is listed in the row
part-listed : (s : State) (x : ℕ) (d : ℤ) (row : List (ℕ × ℤ)) (parts : List Part) (c : ℕ) → AreParts s x d row parts → Contains
    (map column_in (bounds_of parts)) c
    → Contains (map column_of row) c
part-listed s x d [] parts c a i =
    let P : List Part → Type 0 = λ ps. Contains (map column_in (bounds_of ps)) c → ⊥ in
    absurd (subst P (sym a) (λ (k, h, e). absurd (omega arith)) i)
part-listed s x d (t ∷ row) parts c (inl (h, a)) i =
    let j = at_listed (map column_of row) c (part-listed s x d row parts c a i) in listed_at (map column_of (t ∷ row)) (suc j.0) c j.1
part-listed s x d (t ∷ row) parts c (inr (p, rest, e, q, a)) i =
    let P : List Part → Type 0 = λ ps. Contains (map column_in (bounds_of ps)) c in
    by (part-listed s x d row rest c a) (at_listed (map column_in (bounds_of (p ∷ rest))) c (subst P e i)) where
      by : (Contains (map column_in (bounds_of rest)) c → Contains (map column_of row) c) → (k : ℕ) ×
          (slice_get (map column_in (bounds_of (p ∷ rest))) k ≡ Some c)
          → Contains (map column_of (t ∷ row)) c
      by f (zero, w) =
          let z : p.column ≡ c = same_some p.column c w in
          listed_at (map column_of (t ∷ row)) 0 c (ap (λ y. Some y) (sym q.column ∙ z))
      by f (suc k, w) =
          let j = at_listed (map column_of row) c (f (listed_at (map column_in (bounds_of rest)) k c w)) in
          listed_at (map column_of (t ∷ row)) (suc j.0) c j.1

pub parts_differ : (s : State) (x : ℕ) (d : ℤ) (row : List (ℕ × ℤ)) (parts : List Part) → AllDiffer (map column_of row) → AreParts s x d row parts
    → AllDiffer (map column_in (bounds_of parts))
parts_differ s x d [] parts f a = let P : List Part → Type 0 = λ ps. AllDiffer (map column_in (bounds_of ps)) in subst P (sym a) tt
parts_differ s x d (t ∷ row) parts f (inl (h, a)) = parts_differ s x d row parts f.1 a
parts_differ s x d (t ∷ row) parts f (inr (p, rest, e, i, a)) =
    let P : List Part → Type 0 = λ ps. AllDiffer (map column_in (bounds_of ps)) in
    let Q : ℕ → Type 0 = λ c. Contains (map column_in (bounds_of rest)) c in
    subst P (sym e) ((λ w. f.0 (part-listed s x d row rest t.0 a (subst Q i.column w))), parts_differ s x d row rest f.1 a)

pub multipliers_are : (s : State) (x : ℕ) (d : ℤ) (e : ℕ → ℤ) (row : List (ℕ × ℤ)) (parts : List Part)
    → ((k : ℕ) (t : ℕ × ℤ) → slice_get row k ≡ Some t → e t.0 ≡ t.1) → AreParts s x d row parts
    → multipliers_of parts ≡ map (λ (b : Standing). remainder d b.upper (e b.column)) (bounds_of parts)
multipliers_are s x d e [] parts f a =
    let P : List Part → Type 0 = λ ps. multipliers_of ps ≡ map (λ (b : Standing). remainder d b.upper (e b.column)) (bounds_of ps) in subst P (sym a) refl
multipliers_are s x d e (t ∷ row) parts f (inl (h, a)) = multipliers_are s x d e row parts (λ k u w. f (suc k) u w) a
multipliers_are s x d e (t ∷ row) parts f (inr (p, rest, q, i, a)) =
    let P : List Part → Type 0 = λ ps. multipliers_of ps ≡ map (λ (b : Standing). remainder d b.upper (e b.column)) (bounds_of ps) in
    let m : p.multiplier ≡ remainder d p.upper (e p.column) =
    i.multiplier ∙ ap (remainder d p.upper) (sym (f 0 t refl)) ∙ ap (λ c. remainder d p.upper (e c)) (sym i.column) in
    subst P (sym q) (ap (λ z. z ∷ multipliers_of rest) m
    ∙ ap (λ zs. remainder d p.upper (e p.column) ∷ zs) (multipliers_are s x d e row rest (λ k u w. f (suc k) u w) a))

pub remainders_listed : (s : State) (x : ℕ) (d : ℤ) (row : List (ℕ × ℤ)) (parts : List Part) → AreParts s x d row parts → (k : ℕ) (t : ℕ × ℤ)
    → slice_get row k ≡ Some t → t.0 ≢ x → IsAtBound s t.0 → int_rem_euclid t.1 d ≢ pos 0 → Contains (map column_in (bounds_of parts)) t.0
remainders_listed s x d [] parts a k t e n b r = absurd cc
remainders_listed s x d (u ∷ row) parts (inl (h, a)) zero t e n b r =
    let q : u ≡ t = same_some u t e in
    let P : ℕ × ℤ → Type 0 = λ w. IsPartOf s x d w None in
    elim (subst P q h) [ inl y ↦ absurd (n y) | inr (inl y) ↦ absurd (y b) | inr (inr y) ↦ absurd (r y) ]
remainders_listed s x d (u ∷ row) parts (inl (h, a)) (suc k) t e n b r = remainders_listed s x d row parts a k t e n b r
remainders_listed s x d (u ∷ row) parts (inr (p, rest, q, i, a)) zero t e n b r =
    let w : u ≡ t = same_some u t e in
    let P : List Part → Type 0 = λ ps. Contains (map column_in (bounds_of ps)) t.0 in
    subst P (sym q) (listed_at (map column_in (bounds_of (p ∷ rest))) 0 t.0 (ap (λ y. Some y) (i.column ∙ ap column_of w)))
remainders_listed s x d (u ∷ row) parts (inr (p, rest, q, i, a)) (suc k) t e n b r =
    let j = at_listed (map column_in (bounds_of rest)) t.0 (remainders_listed s x d row rest a k t e n b r) in
    let P : List Part → Type 0 = λ ps. Contains (map column_in (bounds_of ps)) t.0 in
    subst P (sym q) (listed_at (map column_in (bounds_of (p ∷ rest))) (suc j.0) t.0 j.1)

-- the line of the parts
pub line_multipliers : (parts : List Part) → map (λ (p : ℤ × Source). p.0) (parts_line parts) ≡ multipliers_of parts
line_multipliers [] = refl
line_multipliers (p ∷ parts) = ap (λ zs. p.multiplier ∷ zs) (line_multipliers parts)

pub line_sources : (parts : List Part) → map (λ (p : ℤ × Source). p.1) (parts_line parts) ≡ map source_of (bounds_of parts)
line_sources [] = refl
line_sources (p ∷ parts) = ap (λ zs. source_of (part_bound p) ∷ zs) (line_sources parts)

turned-times : (side : Bool) (m l : ℤ) → turned side (m *ℤ l) ≡ m *ℤ turned side l
turned-times true m l = refl
turned-times false m l = sym (times_neg m l)

pub right_sides : (given : List (List (ℕ × ℤ))) (parts : List Part) → sum_by given None parts ≡ limits (multipliers_of parts) (bounds_of parts)
right_sides given [] = refl
right_sides given (p ∷ parts) =
    let a = turned-times p.upper p.multiplier p.limit in let i = right_sides given parts in omega (arith, ints)
