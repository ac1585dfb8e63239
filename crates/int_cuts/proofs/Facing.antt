-- A row, or its opposite: the one in which the entry of the basis column is below 0.
use Prim.Native.Nat.{◌∣◌}
use Rattle.std.specs.Prelude.{ℕ, zero, suc, ◌≡◌, ◌==◌, ◌<◌, Bool, true, false, cond, List, [], ◌∷◌, map, All, unsigned_abs}
use Rattle.std.proofs.Common.{sym, ◌∙◌, ap, subst, arith, refl}
use Rattle.std.proofs.lemmas.Int.{ints}
use Rattle.std.proofs.lemmas.List.{length-map}
use Rattle.std.proofs.lemmas.List.Elements.{All-nil, All-cons, All-head, All-tail}
use Rattle.std.proofs.lemmas.Option.{slice_get_within}
use lib.IntN.{ℤ, pos, negsuc, ◌+ℤ◌, ◌*ℤ◌, neg_ℤ}
use lib.Signed.{◌≤ℤ◌, ◌<ℤ◌}
use Rattle.kind_num.proofs.Ring.{neg_times}
use Rattle.proof_steps.specs.View.{Inequality, Sum}
use Rattle.proof_steps.specs.Rows.{entry, combined, AllDiffer, IsRow}
use Rattle.int_simplex.specs.State.{State}
use Rattle.int_simplex.specs.Given.{column_of, IsWithin}
use Rattle.int_simplex.specs.OnRows.{AreOnRows}
use Rattle.int_simplex.specs.Sound.{IsSound, IsRowIn}
use Rattle.int_simplex.proofs.Places.{same_some}
use Rattle.int_cuts.specs.Splits.{IsBroken}
use Rattle.int_cuts.specs.Cuts.{IsAtBound, NoneLoose, IsCut}
use Rattle.int_cuts.specs.Parts.{facing, AreParts, IsRowOf, NoneLooseIn, IsMadeOf}
use Rattle.int_cuts.specs.declared.parts.Part.{Part}
use Rattle.int_cuts.proofs.Listed.{order_differs, none_loose}
use Rattle.int_cuts.proofs.Made.{is_cut}
use Rattle.int_cuts.proofs.Multiples.{Stood}

abs-neg : (z : ℤ) → unsigned_abs (neg_ℤ z) ≡ unsigned_abs z
abs-neg (pos zero) = refl
abs-neg (pos (suc n)) = refl
abs-neg (negsuc n) = refl

combined-neg : (ms : List ℤ) (rows : List (List (ℕ × ℤ))) (c : ℕ) → combined (map neg_ℤ ms) rows c ≡ neg_ℤ (combined ms rows c)
combined-neg [] rows c = refl
combined-neg (m ∷ ms) [] c = refl
combined-neg (m ∷ ms) (r ∷ rows) c =
    let i = combined-neg ms rows c in
    let a : neg_ℤ m *ℤ entry r c ≡ neg_ℤ (m *ℤ entry r c) = neg_times m (entry r c) in omega (arith, ints)

divide-all : (d : ℕ) (ms : List ℤ) → All (λ m. d ∣ unsigned_abs m) (map neg_ℤ ms) → All (λ m. d ∣ unsigned_abs m) ms
divide-all d [] a = All-nil (λ m. d ∣ unsigned_abs m)
divide-all d (m ∷ ms) a =
    let P : ℕ → Type 0 = λ n. d ∣ n in
    All-cons (λ m. d ∣ unsigned_abs m) m ms (subst P (abs-neg m) (All-head (λ m. d ∣ unsigned_abs m) (neg_ℤ m) (map neg_ℤ ms) a))
    (divide-all d ms (All-tail (λ m. d ∣ unsigned_abs m) (neg_ℤ m) (map neg_ℤ ms) a))

neg-zero : (z : ℤ) → neg_ℤ z ≡ pos 0 → z ≡ pos 0
neg-zero z e = omega (arith, ints)

opposite-row : (given : List (List (ℕ × ℤ))) (basis : List ℕ) (x : ℕ) (ms : List ℤ) → IsRow given basis x ms → IsRow given basis x (map neg_ℤ ms)
opposite-row given basis x ms r = record {
  multipliers = length-map ms neg_ℤ ∙ r.multipliers;
  in_basis = r.in_basis;
  has_entry = λ z. r.has_entry (neg-zero (combined ms given x) (sym (combined-neg ms given x) ∙ z));
  alone = λ b i n. combined-neg ms given b ∙ ap neg_ℤ (r.alone b i n);
  coprime = λ d a f. r.coprime d (divide-all d ms a)
      (λ c. let P : ℕ → Type 0 = λ n. d ∣ n in subst P (ap unsigned_abs (combined-neg ms given c) ∙ abs-neg (combined ms given c)) (f c));
}

entry-facing : (row : List (ℕ × ℤ)) (c : ℕ) → entry (map (facing true) row) c ≡ neg_ℤ (entry row c)
entry-facing [] c = refl
entry-facing (t ∷ row) c = by (t.0 == c) (entry-facing row c) where
  by : (b : Bool) {e : ℤ} → e ≡ neg_ℤ (entry row c) → cond b (neg_ℤ t.1 +ℤ e) e ≡ neg_ℤ (cond b (t.1 +ℤ entry row c) (entry row c))
  by true i = omega (arith, ints)
  by false i = i

same-facing : (row : List (ℕ × ℤ)) → map (facing false) row ≡ row
same-facing [] = refl
same-facing (t ∷ row) = ap (λ r. t ∷ r) (same-facing row)

pub facing_row : (given : List (List (ℕ × ℤ))) (basis : List ℕ) (x : ℕ) (row : List (ℕ × ℤ)) (down : Bool) → IsRowIn given basis x row
    → IsRowIn given basis x (map (facing down) row)
facing_row given basis x row false r = let P : List (ℕ × ℤ) → Type 0 = λ y. IsRowIn given basis x y in subst P (sym (same-facing row)) r
facing_row given basis x row true r = record {
  multipliers = map neg_ℤ r.multipliers;
  is_row = opposite-row given basis x r.multipliers r.is_row;
  entries = λ c. entry-facing row c ∙ ap neg_ℤ (r.entries c) ∙ sym (combined-neg r.multipliers given c);
}

columns-facing : (down : Bool) (row : List (ℕ × ℤ)) → map column_of (map (facing down) row) ≡ map column_of row
columns-facing down [] = refl
columns-facing true (t ∷ row) = ap (λ cs. t.0 ∷ cs) (columns-facing true row)
columns-facing false (t ∷ row) = ap (λ cs. t.0 ∷ cs) (columns-facing false row)

facing-column : (down : Bool) (t : ℕ × ℤ) → (facing down t).0 ≡ t.0
facing-column true t = refl
facing-column false t = refl

within-facing : (n : ℕ) (down : Bool) (row : List (ℕ × ℤ)) → IsWithin n row → IsWithin n (map (facing down) row)
within-facing n down [] a = All-nil (λ (t : ℕ × ℤ). t.0 < n)
within-facing n down (t ∷ row) a =
    let P : ℕ → Type 0 = λ c. c < n in
    All-cons (λ (t : ℕ × ℤ). t.0 < n) (facing down t) (map (facing down) row) (subst P (sym (facing-column down t)) (a 0 t (omega arith)))
    (within-facing n down row (λ k d h. a (suc k) d (omega arith)))

stood-facing : (s : State) (x : ℕ) (down : Bool) (row : List (ℕ × ℤ)) → Stood s x row → Stood s x (map (facing down) row)
stood-facing s x down [] f k t e n = absurd cc
stood-facing s x down (u ∷ row) f zero t e n =
    let q : facing down u ≡ t = same_some (facing down u) t e in
    let c : u.0 ≡ t.0 = sym (facing-column down u) ∙ ap column_of q in
    let P : ℕ → Type 0 = λ y. IsAtBound s y in
    subst P c (f 0 u refl (λ y. n (sym c ∙ y)))
stood-facing s x down (u ∷ row) f (suc k) t e n = stood-facing s x down row (λ j w g. f (suc j) w g) k t e n

none-facing : (s : State) (x : ℕ) (down : Bool) (row : List (ℕ × ℤ)) → NoneLoose s x row → NoneLoose s x (map (facing down) row)
none-facing s x false row f c n h = f c n (λ z. h (ap (λ r. entry r c) (same-facing row) ∙ z))
none-facing s x true row f c n h = f c n (λ z. h (entry-facing row c ∙ ap neg_ℤ z))

own-facing : (x : ℕ) (row : List (ℕ × ℤ)) (down : Bool) (d : ℤ) → d ≡ pos (unsigned_abs (entry row x)) →
    (down ≡ true → pos 0 <ℤ entry row x) → (down ≡ false → entry row x ≤ℤ pos 0)
    → entry (map (facing down) row) x ≡ neg_ℤ d
own-facing x row true d e f g = entry-facing row x ∙ ap neg_ℤ (up (entry row x) (f refl) ∙ sym e) where
  up : (z : ℤ) → pos 0 <ℤ z → z ≡ pos (unsigned_abs z)
  up (pos n) h = refl
  up (negsuc n) h = absurd (omega (arith, ints))
own-facing x row false d e f g = ap (λ r. entry r x) (same-facing row) ∙ low (entry row x) (g refl) ∙ ap neg_ℤ (sym e) where
  low : (z : ℤ) → z ≤ℤ pos 0 → z ≡ neg_ℤ (pos (unsigned_abs z))
  low (pos zero) h = refl
  low (pos (suc n)) h = absurd (omega (arith, ints))
  low (negsuc n) h = refl

-- what a row, or its opposite, has with the size d of its own entry
pub record IsFacing (s : State) (x n : ℕ) (row : List (ℕ × ℤ)) : Type 0 where
  pub is_row : IsRowIn s.given s.basis x row
  pub differ : AllDiffer (map column_of row)
  pub within : IsWithin s.columns row
  pub none : NoneLoose s x row
  pub stood : Stood s x row
  pub own : entry row x ≡ neg_ℤ (pos (suc n))

pub is_facing : (s : State) (x n : ℕ) (row : List (ℕ × ℤ)) (down : Bool) → IsRowOf s x row → NoneLooseIn s row x → pos (suc n) ≡ pos
    (unsigned_abs (entry row x))
    → (down ≡ true → pos 0 <ℤ entry row x) → (down ≡ false → entry row x ≤ℤ pos 0) → IsFacing s x n (map (facing down) row)
is_facing s x n row down r f e g h = record {
  is_row = facing_row s.given s.basis x row down r.is_row;
  differ = subst AllDiffer (sym (columns-facing down row)) (order_differs row r.in_order);
  within = within-facing s.columns down row r.in_range;
  none = none-facing s x down row (none_loose s x row f);
  stood = stood-facing s x down row (λ k t q d. f k t (slice_get_within row k t q) q d);
  own = own-facing x row down (pos (suc n)) e g h;
}

pub cut_is : (s : State) (x : ℕ) (d : ℤ) (row : List (ℕ × ℤ)) (down : Bool) (parts : List Part) (line : Sum) (atom : Inequality)
    → pos 0 <ℤ d → IsSound s → AreOnRows s
    → IsRowOf s x row → NoneLooseIn s row x → IsBroken s.values x → d ≡ pos (unsigned_abs (entry row x))
    → (down ≡ true → pos 0 <ℤ entry row x) → (down ≡ false → entry row x ≤ℤ pos 0) → AreParts s x d (map (facing down) row) parts
    → IsMadeOf s parts d line atom → IsCut s x line atom
cut_is s x (pos zero) row down parts line atom p sound on r f b e g h a m = absurd (omega (arith, ints))
cut_is s x (negsuc n) row down parts line atom p sound on r f b e g h a m = absurd (omega (arith, ints))
cut_is s x (pos (suc n)) row down parts line atom p sound on r f b e g h a m =
    let i = is_facing s x n row down r f e g h in
    is_cut s x n (map (facing down) row) parts sound on i.is_row i.differ i.within i.none i.stood i.own b a atom.terms m.terms line atom
    m.line_parts m.divisor refl m.bound
