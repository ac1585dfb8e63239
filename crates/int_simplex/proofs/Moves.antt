-- What the choice of columns says of Bland's rule.
use Prim.Native.Nat.{◌∣◌}
use Rattle.std.specs.Prelude.{ℕ, zero, suc, ◌≡◌, ◌≢◌, ◌==◌, ◌<◌, Bool, true, false, cond, List, [], ◌∷◌, length, map, All, Contains, Option, Some, None, slice_get, unsigned_abs}
use Rattle.std.proofs.Common.{sym, ◌∙◌, ap, subst, arith, refl, inl, inr, get_or}
use Rattle.std.proofs.lemmas.Int.{ints, by_lt_z}
use Rattle.std.proofs.lemmas.Option.{slice_get_within, slice_get-get_or}
use lib.IntN.{ℤ, pos, negsuc, ◌+ℤ◌, ◌-ℤ◌, ◌*ℤ◌, neg_ℤ, *ℤ_comm, *ℤ-zero, zero-*ℤ}
use lib.Signed.{◌≤ℤ◌, ◌<ℤ◌, lt_z}
use Rattle.kind_num.proofs.Ring.{times_times, times_neg, neg_times, times_sum, times_le}
use Rattle.proof_steps.specs.Rows.{HasValue, AllDiffer, combined, entry, rest_below}
use Rattle.proof_steps.specs.Pivots.{Position, Misses, CanEnter, HasRoom, Pivots, IsPast, CanRise, CanFall, lower, upper}
use Rattle.proof_steps.specs.Stopped.{signed}
use Rattle.proof_steps.specs.Meaning.{sum_of}
use Rattle.std.proofs.lemmas.List.Elements.{All-cons}
use Rattle.int_simplex.specs.Given.{column_of}
use Rattle.int_simplex.specs.Farkas.{turned, weight, limits, IsRefuted}
use Rattle.int_simplex.specs.Refuting.{stop_side, stop_limit, part_of, literal_in}
use Rattle.int_simplex.specs.State.{Standing, plain}
use Rattle.int_simplex.specs.Inner.{IsRowAt, read_off}
use Rattle.int_simplex.specs.Sparse.{IsSparse}
use Rattle.int_simplex.specs.Valued.{place_at, rest_in, IsRowValue}
use Rattle.int_simplex.specs.Choosing.{IsMissedAt, IsLeavingOf, IsEntering, Enters, CanMove, is_same_side, differs, grows, bare, limit_at, on_side}
use Rattle.int_simplex.specs.Running.{IsKept, AreTables, IsTurn, IsMove, at}
use Rattle.int_simplex.specs.declared.choosing.Exit.{Exit}
use Rattle.int_simplex.specs.declared.moving.Move.TheVariants as m
use Rattle.int_simplex.proofs.Apart.{AreApart, apart}
use Rattle.int_simplex.proofs.Combos.{crossed-combination, row_at_is}
use Rattle.int_simplex.proofs.Once.{times_lt, one_side, same_entering, tops}
use Rattle.int_simplex.proofs.Places.{same_some, listed_at, at_listed}
use Rattle.int_simplex.proofs.Sparse.{by_test, same_if, other_if, is_same, is_other, sparse_differ, entry_listed, listed_entry}
use Rattle.int_simplex.proofs.Turned.{there}
use Rattle.int_simplex.proofs.Tables.{table_bound, table_is, tightest_stands, bare-some, bounds_order}
use Rattle.int_simplex.proofs.Rests.{rest_is}
use Rattle.int_simplex.proofs.Pasts.{basis_of}
use Rattle.int_simplex.proofs.Floors.{is_below, not_below}

-- the opposite row
minus-step : (z : ℤ) → neg_ℤ z ≡ pos 0 *ℤ z -ℤ pos 1 *ℤ z
unfolding lib.IntN.one
minus-step z =
    let a : pos 0 *ℤ z ≡ pos 0 = zero-*ℤ z in
    let b : pos 1 *ℤ z ≡ z = *ℤ_comm (pos 1) z ∙ lib.IntN.*ℤ-one z in omega (arith, ints)

abs-neg : (z : ℤ) → unsigned_abs (neg_ℤ z) ≡ unsigned_abs z
abs-neg (pos zero) = refl
abs-neg (pos (suc n)) = refl
abs-neg (negsuc n) = refl

pub signed_row : (given : List (List (ℕ × ℤ))) (basis : List ℕ) (x : ℕ) (e : ℕ → ℤ) (b : Bool) → IsRowAt given basis x e
    → IsRowAt given basis x (λ c. signed b (e c))
signed_row given basis x e false r = r
signed_row given basis x e true r = record {
  combination = crossed-combination given (pos 0) (pos 1) e e (λ c. neg_ℤ (e c)) (λ c. minus-step (e c)) r.combination r.combination;
  has_entry = λ z. r.has_entry (let q : neg_ℤ (e x) ≡ pos 0 = z in omega (arith, ints));
  alone = λ c i n. ap neg_ℤ (r.alone c i n);
  coprime = λ d f. r.coprime d (λ c. let P : ℕ → Type 0 = λ n. d ∣ n in subst P (abs-neg (e c)) (f c));
}

pub rest_same : (f g p : ℕ → ℤ) (x : ℕ) → ((c : ℕ) → f c ≡ g c) → (n : ℕ) → rest_below f p x n ≡ rest_below g p x n
rest_same f g p x h zero = refl
rest_same f g p x h (suc n) =
    ap (λ z. cond (n == x) (rest_below f p x n) (z *ℤ p n +ℤ rest_below f p x n)) (h n)
    ∙ ap (λ z. cond (n == x) z (g n *ℤ p n +ℤ z)) (rest_same f g p x h n)

neg-rest : (e p : ℕ → ℤ) (x n : ℕ) → rest_below (λ c. neg_ℤ (e c)) p x n ≡ neg_ℤ (rest_below e p x n)
neg-rest e p x zero = refl
neg-rest e p x (suc n) = by (n == x) (e n) (p n) (rest_below e p x n) (rest_below (λ c. neg_ℤ (e c)) p x n) (neg-rest e p x n) where
  by : (b : Bool) (a v s t : ℤ) → t ≡ neg_ℤ s → cond b t (neg_ℤ a *ℤ v +ℤ t) ≡ neg_ℤ (cond b s (a *ℤ v +ℤ s))
  by true a v s t h = h
  by false a v s t h = let q : neg_ℤ a *ℤ v ≡ neg_ℤ (a *ℤ v) = neg_times a v in omega (arith, ints)

signed-rest : (b : Bool) (e p : ℕ → ℤ) (x n : ℕ) → rest_below (λ c. signed b (e c)) p x n ≡ signed b (rest_below e p x n)
signed-rest true e p x n = neg-rest e p x n
signed-rest false e p x n = refl

abbrev pub falling : (ℕ → ℤ) → ℕ → Bool
falling e x = lt_z (pos 0) (e x)

-- with this sign the own entry is below 0
own-below : (z : ℤ) → z ≢ pos 0 → signed (lt_z (pos 0) z) z <ℤ pos 0
own-below z n = elim (by_test (lt_z (pos 0) z)) [
  | inl t ↦ let P : Bool → Type 0 = λ b. signed b z <ℤ pos 0 in subst P (sym t) (opposed z (is_below (pos 0) z t))
  | inr t ↦ let P : Bool → Type 0 = λ b. signed b z <ℤ pos 0 in subst P (sym t) (strict z n (not_below (pos 0) z t))
] where
  opposed : (z : ℤ) → pos 0 <ℤ z → neg_ℤ z <ℤ pos 0
  opposed z h = omega (arith, ints)

  strict : (z : ℤ) → z ≢ pos 0 → z ≤ℤ pos 0 → z <ℤ pos 0
  strict z n l = by_lt_z z (pos 0) (λ q. q) (λ q. absurd (n (omega (arith, ints))))

quotient-sign : (b : Bool) (rest own v w : ℤ) → (rest *ℤ w) +ℤ (own *ℤ v) ≡ pos 0 → signed b rest *ℤ w ≡ v *ℤ neg_ℤ (signed b own)
quotient-sign true rest own v w e =
    let a : neg_ℤ rest *ℤ w ≡ neg_ℤ (rest *ℤ w) = neg_times rest w in
    let b : v *ℤ neg_ℤ (neg_ℤ own) ≡ own *ℤ v = ap (λ z. v *ℤ z) (neg-neg own) ∙ *ℤ_comm v own in omega (arith, ints) where
      neg-neg : (z : ℤ) → neg_ℤ (neg_ℤ z) ≡ z
      neg-neg z = omega (arith, ints)
quotient-sign false rest own v w e =
    let b : v *ℤ neg_ℤ own ≡ neg_ℤ (own *ℤ v) = times_neg v own ∙ ap neg_ℤ (*ℤ_comm v own) in omega (arith, ints)

-- the value of x by its row, with the sign that the definition asks for
pub record IsGiving (given : List (List (ℕ × ℤ))) (columns : ℕ) (basis : List ℕ) (places : ℕ → ℤ) (x : ℕ) (e : ℕ → ℤ) (v : ℤ × ℤ) : Type 0 where
  pub multipliers : List ℤ
  pub top : ℤ
  pub bottom : ℤ
  pub value : HasValue given columns basis places x multipliers top bottom
  pub same : top *ℤ v.1 ≡ v.0 *ℤ bottom
  pub entries : (c : ℕ) → combined multipliers given c ≡ signed (falling e x) (e c)
  pub is_top : top ≡ rest_below (combined multipliers given) places x columns

pub giving : (given : List (List (ℕ × ℤ))) (columns : ℕ) (basis : List ℕ) (places : ℕ → ℤ) (x : ℕ) (e : ℕ → ℤ) (v : ℤ × ℤ)
    → Contains basis x → IsRowAt given basis x e
    → (rest_below e places x columns *ℤ v.1) +ℤ (e x *ℤ v.0) ≡ pos 0 → IsGiving given columns basis places x e v
giving given columns basis places x e v i r q =
    let s = signed_row given basis x e (falling e x) r in
    let w : (c : ℕ) → combined (read_off (λ k. signed (falling e x) (e k)) given) given c ≡ signed (falling e x) (e c) = λ c. sym (s.combination c) in
    let b = own-below (e x) r.has_entry in
    let t : rest_below (combined (read_off (λ k. signed (falling e x) (e k)) given) given) places x columns ≡ signed (falling e x)
    (rest_below e places x columns) =
    rest_same (combined (read_off (λ k. signed (falling e x) (e k)) given) given) (λ c. signed (falling e x) (e c)) places x w columns
    ∙ signed-rest (falling e x) e places x columns in
    record {
      multipliers = read_off (λ c. signed (falling e x) (e c)) given;
      top = signed (falling e x) (rest_below e places x columns);
      bottom = neg_ℤ (signed (falling e x) (e x));
      value = record {
        row = row_at_is given basis x (λ c. signed (falling e x) (e c)) i s;
        positive = above (signed (falling e x) (e x)) b;
        denominator = w x ∙ twice (signed (falling e x) (e x));
        numerator = t;
      };
      same = quotient-sign (falling e x) (rest_below e places x columns) (e x) v.0 v.1 q;
      entries = w;
      is_top = sym t;
    } where
      above : (z : ℤ) → z <ℤ pos 0 → pos 0 <ℤ neg_ℤ z
      above z h = omega (arith, ints)

      twice : (z : ℤ) → z ≡ neg_ℤ (neg_ℤ z)
      twice z = omega (arith, ints)

-- equal fractions are past the same limits
cancel-lt : (d a b : ℤ) → pos 0 <ℤ d → (d *ℤ a) <ℤ (d *ℤ b) → a <ℤ b
cancel-lt d a b h l = by_lt_z a b (λ m. m) (λ m. by_lt_z b a
    (λ n. let x = times_lt d b a h n in absurd (omega (arith, ints)))
    (λ n. let e : a ≡ b = omega (arith, ints) in let f : d *ℤ a ≡ d *ℤ b = ap (λ z. d *ℤ z) e in absurd (omega (arith, ints))))

pub past_same : (side : Bool) (limit t b v d : ℤ) → pos 0 <ℤ b → pos 0 <ℤ d → d *ℤ t ≡ b *ℤ v → IsPast side limit t b → IsPast side limit v d
past_same true limit t b v d pb pd e h =
    let x : (d *ℤ (limit *ℤ b)) <ℤ (d *ℤ t) = times_lt d (limit *ℤ b) t pd h in
    let y : d *ℤ (limit *ℤ b) ≡ b *ℤ (limit *ℤ d) = around d limit b in
    cancel-lt b (limit *ℤ d) v pb (omega (arith, ints)) where
      around : (d l b : ℤ) → d *ℤ (l *ℤ b) ≡ b *ℤ (l *ℤ d)
      around d l b = *ℤ_comm d (l *ℤ b) ∙ ap (λ z. z *ℤ d) (*ℤ_comm l b) ∙ times_times b l d
past_same false limit t b v d pb pd e h =
    let x : (d *ℤ t) <ℤ (d *ℤ (limit *ℤ b)) = times_lt d t (limit *ℤ b) pd h in
    let y : d *ℤ (limit *ℤ b) ≡ b *ℤ (limit *ℤ d) = around d limit b in
    cancel-lt b v (limit *ℤ d) pb (omega (arith, ints)) where
      around : (d l b : ℤ) → d *ℤ (l *ℤ b) ≡ b *ℤ (l *ℤ d)
      around d l b = *ℤ_comm d (l *ℤ b) ∙ ap (λ z. z *ℤ d) (*ℤ_comm l b) ∙ times_times b l d

-- signs of entries
grows-is : (f : Bool) (z : ℤ) → z ≢ pos 0 → lt_z (pos 0) (signed f z) ≡ differs (lt_z (pos 0) z) f
grows-is false z n = plain-case (lt_z (pos 0) z) where
  plain-case : (b : Bool) → b ≡ differs b false
  plain-case true = refl
  plain-case false = refl
grows-is true z n = elim (by_test (lt_z (pos 0) z)) [
  | inl t ↦ down z (is_below (pos 0) z t) ∙ ap (λ b. differs b true) (sym t)
  | inr t ↦ up z n (not_below (pos 0) z t) ∙ ap (λ b. differs b true) (sym t)
] where
  down : (z : ℤ) → pos 0 <ℤ z → lt_z (pos 0) (neg_ℤ z) ≡ false
  down z h = grind (arith, ints)

  up : (z : ℤ) → z ≢ pos 0 → z ≤ℤ pos 0 → lt_z (pos 0) (neg_ℤ z) ≡ true
  up z n h = grind (arith, ints)

room-from : (bounds : List (ℕ × Bool × ℤ)) (s : Position) (side g : Bool) (e : ℤ) (c : ℕ) → e ≢ pos 0 → lt_z (pos 0) e ≡ g
    → CanMove (is_same_side side g) (lower bounds c) (upper bounds c) (s.places c) → HasRoom bounds s side e c
room-from bounds s true true e c n h m = inl (is_below (pos 0) e h, m)
room-from bounds s true false e c n h m = inr (strictly e n (not_below (pos 0) e h), m) where
  strictly : (e : ℤ) → e ≢ pos 0 → e ≤ℤ pos 0 → e <ℤ pos 0
  strictly e n l = by_lt_z e (pos 0) (λ q. q) (λ q. absurd (n (omega (arith, ints))))
room-from bounds s false true e c n h m = inl (is_below (pos 0) e h, m)
room-from bounds s false false e c n h m = inr (strictly e n (not_below (pos 0) e h), m) where
  strictly : (e : ℤ) → e ≢ pos 0 → e ≤ℤ pos 0 → e <ℤ pos 0
  strictly e n l = by_lt_z e (pos 0) (λ q. q) (λ q. absurd (n (omega (arith, ints))))

sign-up : (e : ℤ) (g : Bool) → lt_z (pos 0) e ≡ g → pos 0 <ℤ e → g ≡ true
sign-up e true h l = refl
sign-up e false h l = let q = not_below (pos 0) e h in absurd (omega (arith, ints))

sign-down : (e : ℤ) (g : Bool) → lt_z (pos 0) e ≡ g → e <ℤ pos 0 → g ≡ false
sign-down e true h l = let q = is_below (pos 0) e h in absurd (omega (arith, ints))
sign-down e false h l = refl

room-only : (bounds : List (ℕ × Bool × ℤ)) (s : Position) (side g : Bool) (e : ℤ) (c : ℕ) → lt_z (pos 0) e ≡ g
    → HasRoom bounds s side e c → (e ≢ pos 0) × CanMove (is_same_side side g) (lower bounds c) (upper bounds c) (s.places c)
room-only bounds s true g e c h (inl (l, r)) = (
  (λ z. absurd (omega (arith, ints))),
  (let P : Bool → Type 0 = λ b. CanMove (is_same_side true b) (lower bounds c) (upper bounds c)
      (s.places c) in subst P (sym (sign-up e g h l)) r),
)
room-only bounds s true g e c h (inr (l, r)) = (
  (λ z. absurd (omega (arith, ints))),
  (let P : Bool → Type 0 = λ b. CanMove (is_same_side true b) (lower bounds c) (upper bounds c)
      (s.places c) in subst P (sym (sign-down e g h l)) r),
)
room-only bounds s false g e c h (inl (l, r)) = (
  (λ z. absurd (omega (arith, ints))),
  (let P : Bool → Type 0 = λ b. CanMove (is_same_side false b) (lower bounds c) (upper bounds c)
      (s.places c) in subst P (sym (sign-up e g h l)) r),
)
room-only bounds s false g e c h (inr (l, r)) = (
  (λ z. absurd (omega (arith, ints))),
  (let P : Bool → Type 0 = λ b. CanMove (is_same_side false b) (lower bounds c) (upper bounds c)
      (s.places c) in subst P (sym (sign-down e g h l)) r),
)

same-by : (m n : ℕ) → (m < n → ⊥) → (n < m → ⊥) → m ≡ n
same-by zero zero l r = refl
same-by zero (suc n) l r = absurd (l (omega arith))
same-by (suc m) zero l r = absurd (r (omega arith))
same-by (suc m) (suc n) l r = ap suc (same-by m n (λ h. l (omega arith)) (λ h. r (omega arith)))

module _ (given : List (List (ℕ × ℤ))) (columns : ℕ) (bounds : List Standing) (lowers uppers : List (Option (ℤ × ℕ))) (basis : List ℕ) (rows : List (List (ℕ × ℤ)))
    (places : List ℤ) (values : List (ℤ × ℤ)) (kept : IsKept given columns basis rows places values) (tables : AreTables columns bounds lowers uppers) where
  abbrev here : Position
  here = at basis places

  abbrev asserted : List (ℕ × Bool × ℤ)
  asserted = map plain bounds

  ap-rows : AreApart given
  ap-rows = apart given columns kept.ready.given_rows

  in-columns : (x : ℕ) → Contains basis x → x < columns
  in-columns x i =
      let P : ℕ → Type 0 = λ c. c < columns in subst P i.2 (kept.ready.in_range i.0 x i.1)

  -- the row of a column of the basis, with its value
  record IsPlaced (x : ℕ) : Type 0 where
    at_place : ℕ
    row : List (ℕ × ℤ)
    stands : slice_get basis at_place ≡ Some x
    row_stands : slice_get rows at_place ≡ Some row
    is_row : IsRowAt given basis x (entry row)
    number : ℤ × ℤ
    value_stands : slice_get values x ≡ Some number
    value : IsRowValue columns x (place_at places) row number
    gives : IsGiving given columns basis (place_at places) x (entry row) number

  placed-at : (k x : ℕ) (r : List (ℕ × ℤ)) → slice_get basis k ≡ Some x → slice_get rows k ≡ Some r → IsPlaced x
  placed-at k x r ex er =
      let ra = kept.ready.are_rows.each k x r ex er in
      let w = kept.are_values.inside k x r ex er in
      let P : ℕ → Type 0 = λ n. IsRowValue n x (place_at places) r w.0 in
      let v = subst P kept.width w.2 in record {
        at_place = k;
        row = r;
        stands = ex;
        row_stands = er;
        is_row = ra;
        number = w.0;
        value_stands = w.1;
        value = v;
        gives = giving given columns basis (place_at places) x (entry r) w.0 (listed_at basis k x ex) ra (v.quotient ra.has_entry);
      }

  placed : (x : ℕ) → Contains basis x → IsPlaced x
  placed x i =
      let k = at_listed basis x i in
      let r = there rows basis [] k.0 x (sym kept.ready.are_rows.count) k.1 in
      placed-at k.0 x r.0 k.1 r.1

  -- what misses its bound misses the table's limit
  pub missed_if : (x : ℕ) (side : Bool) (limit : ℤ) (ms : List ℤ) → Misses given columns asserted here x side limit ms
      → IsMissedAt values lowers uppers x side limit
  missed_if x side limit ms h =
      let i = h.value.row.in_basis in let p = placed x i in let g = p.gives in
      let t : g.bottom *ℤ h.top ≡ h.bottom *ℤ g.top = tops given columns asserted here ap-rows kept.ready.free
      (bounds_order columns bounds lowers uppers tables)
      x ms g.multipliers h.top h.bottom g.top g.bottom h.value g.value in (
        p.number,
        p.value_stands,
        (
          table_bound columns bounds lowers uppers tables side x (in-columns x i) ∙ h.bounded,
          past_same side limit g.top g.bottom p.number.0 p.number.1 g.value.positive p.value.fraction.positive
              (*ℤ_comm p.number.1 g.top ∙ g.same ∙ *ℤ_comm p.number.0 g.bottom)
              (past_same side limit h.top h.bottom g.top g.bottom h.value.positive g.value.positive t h.past),
        ),
      )

  misses : (x : ℕ) (side : Bool) (limit : ℤ) (p : IsPlaced x) → IsMissedAt values lowers uppers x side limit
      → Misses given columns asserted here x side limit p.gives.multipliers
  misses x side limit p w =
      let g = p.gives in
      let q : w.0 ≡ p.number = same_some w.0 p.number (sym w.1 ∙ p.value_stands) in
      let P : ℤ × ℤ → Type 0 = λ v. IsPast side limit v.0 v.1 in
      record {
        top = g.top;
        bottom = g.bottom;
        bounded = sym (table_bound columns bounds lowers uppers tables side x (in-columns x (listed_at basis p.at_place x p.stands))) ∙ w.2.0;
        value = g.value;
        past = past_same side limit p.number.0 p.number.1 g.top g.bottom p.value.fraction.positive g.value.positive
            (*ℤ_comm g.bottom p.number.0 ∙ sym g.same ∙ *ℤ_comm g.top p.number.1) (subst P q w.2.1);
      }

  pub fits : IsLeavingOf basis values lowers uppers (length basis) None → IsMove given columns bounds here m.Fits
  fits f = λ x side limit ms h.
      let k = at_listed basis x h.value.row.in_basis in
      f k.0 x side limit (slice_get_within basis k.0 x k.1) k.1 (missed_if x side limit ms h)

  -- what enters by the row can enter
  can-enter : (x : ℕ) (side : Bool) (c : ℕ) (p : IsPlaced x) → Enters p.row x side places lowers uppers c
      → CanEnter given columns asserted here side p.gives.multipliers c
  can-enter x side c p e =
      let w = entry_listed p.row c e.has_entry in
      let l = listed_entry 0 columns p.row w.0 w.1 (kept.ready.are_rows.sparse p.at_place p.row p.row_stands) w.2 in
      let P : ℕ → Type 0 = λ k. k < columns in
      let h : c < columns = subst P w.3 l.2 in
      record {
        in_range = h;
        outside = λ i. e.has_entry (p.is_row.alone c i e.other);
        room =
            let Q : ℤ → Type 0 = λ z. HasRoom asserted here side z c in
            subst Q (sym (p.gives.entries c))
            (room-from asserted here side (grows p.row x (entry p.row c)) (signed (falling (entry p.row) x) (entry p.row c)) c
            (not-zero (falling (entry p.row) x) (entry p.row c) e.has_entry)
            (grows-is (falling (entry p.row) x) (entry p.row c) e.has_entry)
            (let A : Option ℤ → Type 0 = λ o. CanMove (is_same_side side (grows p.row x (entry p.row c))) o (bare (limit_at uppers c)) (place_at places c) in
            let B : Option ℤ → Type 0 = λ o. CanMove (is_same_side side (grows p.row x (entry p.row c))) (lower asserted c) o (place_at places c) in
            subst B (table_bound columns bounds lowers uppers tables true c h) (subst A (table_bound columns bounds lowers uppers tables false c h) e.can)));
      } where
        not-zero : (b : Bool) (z : ℤ) → z ≢ pos 0 → signed b z ≢ pos 0
        not-zero true z n q = n (let r : neg_ℤ z ≡ pos 0 = q in omega (arith, ints))
        not-zero false z n q = n q

  enters-only : (x : ℕ) (side : Bool) (c : ℕ) (p : IsPlaced x) → CanEnter given columns asserted here side p.gives.multipliers c
      → Enters p.row x side places lowers uppers c
  enters-only x side c p e =
      let Q : ℤ → Type 0 = λ z. HasRoom asserted here side z c in
      let r = room-only asserted here side (lt_z (pos 0) (signed (falling (entry p.row) x) (entry p.row c)))
      (signed (falling (entry p.row) x) (entry p.row c)) c refl
      (subst Q (p.gives.entries c) e.room) in
      let n : entry p.row c ≢ pos 0 = λ z. r.0 (ap (signed (falling (entry p.row) x)) z ∙ signed-zero (falling (entry p.row) x)) in
      record {
        other = λ q. e.outside (let P : ℕ → Type 0 = λ k. Contains basis k in subst P (sym q) (listed_at basis p.at_place x p.stands));
        has_entry = n;
        can =
            let A : Option ℤ → Type 0 = λ o. CanMove (is_same_side side (grows p.row x (entry p.row c))) o (bare (limit_at uppers c)) (place_at places c) in
            let B : Option ℤ → Type 0 = λ o. CanMove (is_same_side side (grows p.row x (entry p.row c))) (lower asserted c) o (place_at places c) in
            let G : Bool → Type 0 = λ g. CanMove (is_same_side side g) (lower asserted c) (upper asserted c) (place_at places c) in
            subst A (sym (table_bound columns bounds lowers uppers tables false c e.in_range))
            (subst B (sym (table_bound columns bounds lowers uppers tables true c e.in_range))
            (subst G (grows-is (falling (entry p.row) x) (entry p.row c) n) r.1));
      } where
        signed-zero : (b : Bool) → signed b (pos 0) ≡ pos 0
        signed-zero true = refl
        signed-zero false = refl

  module _ (l : Exit) (r : List (ℕ × ℤ)) (f : IsLeavingOf basis values lowers uppers (length basis) (Some l)) (er : slice_get rows l.at ≡ Some r) where
    leaves : IsPlaced l.column
    leaves = placed-at l.at l.column r f.0 er

    own-misses : Misses given columns asserted here l.column l.side l.limit leaves.gives.multipliers
    own-misses = misses l.column l.side l.limit leaves f.1

    none-lower : (y : ℕ) (b : Bool) (z : ℤ) (ms : List ℤ) → y < l.column → Misses given columns asserted here y b z ms → ⊥
    none-lower y b z ms h w =
        let k = at_listed basis y w.value.row.in_basis in
        f.2 k.0 y b z (slice_get_within basis k.0 y k.1) k.1 h (missed_if y b z ms w)

    pub pivots : (c : ℕ) → IsEntering r l.column l.side places lowers uppers (Some c) → IsMove given columns bounds here (m.Pivot l c)
    unfolding leaves placed-at
    pivots c e = λ t tb tl to. record {
      leaving = l.column;
      side = l.side;
      limit = l.limit;
      multipliers = leaves.gives.multipliers;
      entering = c;
      misses = own-misses;
      least_leaving = none-lower;
      enters = can-enter l.column l.side c leaves e.0;
      least_entering = λ k h w. e.1 k h (enters-only l.column l.side k leaves w);
      basis = tb;
      left = tl;
      others = to;
    }

    pub stuck : IsEntering r l.column l.side places lowers uppers None → (t : Position) → Pivots given columns asserted here t → ⊥
    unfolding leaves placed-at
    stuck e t p =
        let x : p.leaving ≡ l.column = same-by p.leaving l.column
        (λ h. none-lower p.leaving p.side p.limit p.multipliers h p.misses)
        (λ h. p.least_leaving l.column l.side l.limit leaves.gives.multipliers h own-misses) in
        let P : ℕ → Type 0 = λ y. Misses given columns asserted here y p.side p.limit p.multipliers in
        let pm = subst P x p.misses in
        let s : p.side ≡ l.side = one_side given columns asserted here ap-rows kept.ready.free (bounds_order columns bounds lowers uppers tables)
        l.column p.side l.side p.limit l.limit p.multipliers leaves.gives.multipliers pm own-misses in
        let Q : Bool → Type 0 = λ b. Misses given columns asserted here l.column b p.limit p.multipliers in
        let pn = subst Q s pm in
        let R : Bool → Type 0 = λ b. CanEnter given columns asserted here b p.multipliers p.entering in
        e p.entering (enters-only l.column l.side p.entering leaves
        (same_entering given columns asserted here ap-rows kept.ready.free
        (bounds_order columns bounds lowers uppers tables) l.column p.entering l.side p.limit l.limit
        p.multipliers leaves.gives.multipliers pn own-misses (subst R s p.enters)))

-- the entering column and the leaving row cross in an entry
pub turn : (columns : ℕ) (basis : List ℕ) (rows : List (List (ℕ × ℤ))) (places : List ℤ) (values : List (ℤ × ℤ))
    (lowers uppers : List (Option (ℤ × ℕ))) (l : Exit)
    (r : List (ℕ × ℤ)) (c : ℕ) → IsSparse columns r → slice_get rows l.at ≡ Some r → IsLeavingOf basis values lowers uppers (length basis) (Some l)
    → IsEntering r l.column l.side places lowers uppers (Some c) → IsTurn basis rows lowers uppers columns l c
turn columns basis rows places values lowers uppers l r c sr er f e = record {
  crossing = record {
    stands = f.0;
    differ = e.0.other;
    in_range =
        let w = entry_listed r c e.0.has_entry in
        let t = listed_entry 0 columns r w.0 w.1 sr w.2 in
        let P : ℕ → Type 0 = λ k. k < columns in subst P w.3 t.2;
    crosses = λ v ev. let q : r ≡ v = same_some r v (sym er ∙ ev) in
        let P : List (ℕ × ℤ) → Type 0 = λ w. entry w c ≢ pos 0 in subst P q e.0.has_entry;
  };
  limit = f.1.2.0;
}

-- sums of a row with the limit of x in place of its value
abbrev with-limit : ℕ → ℤ → (ℕ → ℤ) → ℕ → ℤ
with-limit x z p c = cond (c == x) z (p c)

sum-limit : (x : ℕ) (z : ℤ) (p : ℕ → ℤ) (row : List (ℕ × ℤ)) → sum_of (with-limit x z p) row ≡ rest_in x p row +ℤ entry row x *ℤ z
sum-limit x z p [] = let e : pos 0 *ℤ z ≡ pos 0 = zero-*ℤ z in omega (arith, ints)
sum-limit x z p ((c, a) ∷ row) = step (c == x) a z (p c) (rest_in x p row) (entry row x) (sum_of (with-limit x z p) row) (sum-limit x z p row) where
  step : (b : Bool) (a z v r e s : ℤ) → s ≡ r +ℤ e *ℤ z
      → (a *ℤ cond b z v) +ℤ s ≡ cond b r (a *ℤ v +ℤ r) +ℤ cond b (a +ℤ e) e *ℤ z
  step true a z v r e s h = let q : (a +ℤ e) *ℤ z ≡ a *ℤ z +ℤ e *ℤ z = times_sum a e z in omega (arith, ints)
  step false a z v r e s h = omega (arith, ints)

signed-sum : (b : Bool) (x y : ℤ) → signed b (x +ℤ y) ≡ signed b x +ℤ signed b y
signed-sum true x y = omega (arith, ints)
signed-sum false x y = refl

signed-times : (b : Bool) (x y : ℤ) → signed b (x *ℤ y) ≡ signed b x *ℤ y
signed-times true x y = sym (neg_times x y)
signed-times false x y = refl

-- a size with the side on which it stops is a number with both signs
turned-size : (side f : Bool) (e : ℤ) → e ≢ pos 0 → turned (differs (differs (lt_z (pos 0) e) f) side) (pos (unsigned_abs e)) ≡ signed side (signed f e)
turned-size side f e n = elim (by_test (lt_z (pos 0) e)) [
  | inl t ↦
      ap (λ b. turned (differs (differs b f) side) (pos (unsigned_abs e))) t
      ∙ ap (turned (differs (differs true f) side)) (size-up e (is_below (pos 0) e t)) ∙ up side f e
  | inr t ↦
      ap (λ b. turned (differs (differs b f) side) (pos (unsigned_abs e))) t
      ∙ ap (turned (differs (differs false f) side)) (size-down e (not_below (pos 0) e t)) ∙ down side f e
] where
  size-up : (e : ℤ) → pos 0 <ℤ e → pos (unsigned_abs e) ≡ e
  size-up (pos n) h = refl
  size-up (negsuc n) h = absurd (omega (arith, ints))

  size-down : (e : ℤ) → e ≤ℤ pos 0 → pos (unsigned_abs e) ≡ neg_ℤ e
  size-down (pos zero) h = refl
  size-down (pos (suc n)) h = absurd (omega (arith, ints))
  size-down (negsuc n) h = refl

  up : (side f : Bool) (e : ℤ) → turned (differs (differs true f) side) e ≡ signed side (signed f e)
  up true true e = omega (arith, ints)
  up true false e = refl
  up false true e = refl
  up false false e = refl

  down : (side f : Bool) (e : ℤ) → turned (differs (differs false f) side) (neg_ℤ e) ≡ signed side (signed f e)
  down true true e = omega (arith, ints)
  down true false e = refl
  down false true e = refl
  down false false e = omega (arith, ints)

turned-times : (u : Bool) (m z : ℤ) → m *ℤ turned u z ≡ turned u m *ℤ z
turned-times true m z = refl
turned-times false m z = times_neg m z ∙ sym (neg_times m z)

abs-signed : (b : Bool) (z : ℤ) → unsigned_abs (signed b z) ≡ unsigned_abs z
abs-signed true z = abs-neg z
abs-signed false z = refl

-- a size times a limit is no more than times the place, where the limit stops the column
stops-below : (up : Bool) (m z w : ℤ) → pos 0 ≤ℤ m → (up ≡ true → z ≤ℤ w) → (up ≡ false → w ≤ℤ z) → (m *ℤ turned up z) ≤ℤ (turned up m *ℤ w)
stops-below up (negsuc n) z w h a b = absurd (omega (arith, ints))
stops-below true (pos n) z w h a b = times_le n z w (a refl)
stops-below false (pos n) z w h a b =
    let l : (pos n *ℤ w) ≤ℤ (pos n *ℤ z) = times_le n w z (b refl) in
    let e : pos n *ℤ neg_ℤ z ≡ neg_ℤ (pos n *ℤ z) = times_neg (pos n) z in
    let g : neg_ℤ (pos n) *ℤ w ≡ neg_ℤ (pos n *ℤ w) = neg_times (pos n) w in omega (arith, ints)

-- the bound that stops a column of the row
record StopOf (bounds : List Standing) (row : List (ℕ × ℤ)) (x : ℕ) (side : Bool) (limit : ℤ) (places : ℕ → ℤ)
    (lowers uppers : List (Option (ℤ × ℕ))) (t : ℕ × ℤ) : Type 0 where
  bound : Standing
  stands : Contains bounds bound
  column : bound.column ≡ t.0
  upper : bound.upper ≡ stop_side row x side t.1
  literal : bound.literal ≡ literal_in (stop_limit row x side lowers uppers t)
  high : stop_side row x side t.1 ≡ true → bound.limit ≤ℤ with-limit x limit places t.0
  low : stop_side row x side t.1 ≡ false → with-limit x limit places t.0 ≤ℤ bound.limit

module _ (bounds : List Standing) (row : List (ℕ × ℤ)) (x : ℕ) (side : Bool) (limit : ℤ) (places : ℕ → ℤ) (lowers uppers : List (Option (ℤ × ℕ))) (n : ℕ) where
  abbrev part : ℕ × ℤ → ℤ × ℕ
  part t = part_of row x side lowers uppers t

  abbrev falls : Bool
  falls = falling (entry row) x

  abbrev column-in : Standing → ℕ
  column-in b = b.column

  abbrev literal-of : Standing → ℕ
  literal-of b = b.literal

  abbrev size-of : ℤ × ℕ → ℤ
  size-of p = p.0

  record Chosen (xs : List (ℕ × ℤ)) : Type 0 where
    used : List Standing
    columns : map column-in used ≡ map column_of xs
    literals : map literal-of used ≡ map (λ (p : ℤ × ℕ). p.1) (map part xs)
    stand : All (Contains bounds) used
    weights : (c : ℕ) → weight (map size-of (map part xs)) used c ≡ signed side (signed falls (entry xs c))
    below : limits (map size-of (map part xs)) used ≤ℤ signed side (signed falls (sum_of (with-limit x limit places) xs))
    sizes : (e : ℕ → ℤ) → ((t : ℕ × ℤ) (k : ℕ) → slice_get xs k ≡ Some t → unsigned_abs (e t.0) ≡ unsigned_abs t.1)
        → map size-of (map part xs) ≡ map (λ (b : Standing). pos (unsigned_abs (e b.column))) used

  weight-step : (b : Standing) (t : ℕ × ℤ) (xs : List (ℕ × ℤ)) (ms : List ℤ) (bs : List Standing) (c : ℕ) → t.1 ≢ pos 0 → b.column ≡ t.0
      → b.upper ≡ stop_side row x side t.1 → weight ms bs c ≡ signed side (signed falls (entry xs c))
      → weight (pos (unsigned_abs t.1) ∷ ms) (b ∷ bs) c ≡ signed side (signed falls (entry (t ∷ xs) c))
  weight-step b (y, a) xs ms bs c n ec eu h =
      ap (λ k. cond (k == c) (turned b.upper (pos (unsigned_abs a)) +ℤ weight ms bs c) (weight ms bs c)) ec
      ∙ ap (λ u. cond (y == c) (turned u (pos (unsigned_abs a)) +ℤ weight ms bs c) (weight ms bs c)) eu
      ∙ ap (λ z. cond (y == c) (z +ℤ weight ms bs c) (weight ms bs c)) (turned-size side falls a n)
      ∙ ap (λ w. cond (y == c) (signed side (signed falls a) +ℤ w) w) h
      ∙ both (y == c) a (entry xs c) where
        both : (b : Bool) (a s : ℤ) → cond b (signed side (signed falls a) +ℤ signed side (signed falls s))
            (signed side (signed falls s)) ≡ signed side (signed falls (cond b (a +ℤ s) s))
        both true a s = sym (ap (signed side) (signed-sum falls a s) ∙ signed-sum side (signed falls a) (signed falls s))
        both false a s = refl

  limit-step : (t : ℕ × ℤ) (xs : List (ℕ × ℤ)) (s : StopOf bounds row x side limit places lowers uppers t) (rest : ℤ) → t.1 ≢ pos 0
      → rest ≤ℤ signed side (signed falls (sum_of (with-limit x limit places) xs))
      → ((pos (unsigned_abs t.1) *ℤ turned s.bound.upper s.bound.limit) +ℤ rest) ≤ℤ signed side (signed falls (sum_of (with-limit x limit places) (t ∷ xs)))
  limit-step (y, a) xs s rest n h =
      let up : Bool = stop_side row x side a in
      let p : (pos (unsigned_abs a) *ℤ turned (stop_side row x side a) s.bound.limit) ≤ℤ
      (turned (stop_side row x side a) (pos (unsigned_abs a)) *ℤ with-limit x limit places y)
      = stops-below (stop_side row x side a) (pos (unsigned_abs a)) s.bound.limit (with-limit x limit places y) (omega (arith, ints)) s.high s.low in
      let q : turned (stop_side row x side a) (pos (unsigned_abs a)) *ℤ with-limit x limit places y ≡ signed side
      (signed falls a) *ℤ with-limit x limit places y
      = ap (λ z. z *ℤ with-limit x limit places y) (turned-size side falls a n) in
      let r : pos (unsigned_abs a) *ℤ turned s.bound.upper s.bound.limit ≡ pos (unsigned_abs a) *ℤ turned (stop_side row x side a) s.bound.limit
      = ap (λ u. pos (unsigned_abs a) *ℤ turned u s.bound.limit) s.upper in
      let w : signed side (signed falls (a *ℤ with-limit x limit places y +ℤ sum_of (with-limit x limit places) xs))
      ≡ signed side (signed falls a) *ℤ with-limit x limit places y +ℤ signed side (signed falls (sum_of (with-limit x limit places) xs)) =
      ap (signed side) (signed-sum falls (a *ℤ with-limit x limit places y) (sum_of (with-limit x limit places) xs))
      ∙ signed-sum side (signed falls (a *ℤ with-limit x limit places y)) (signed falls (sum_of (with-limit x limit places) xs))
      ∙ ap (λ z. z +ℤ signed side (signed falls (sum_of (with-limit x limit places) xs)))
      (ap (signed side) (signed-times falls a (with-limit x limit places y)) ∙ signed-times side (signed falls a) (with-limit x limit places y)) in
      omega (arith, ints)

  chosen : (xs : List (ℕ × ℤ)) → ((k : ℕ) (t : ℕ × ℤ) → slice_get xs k ≡ Some t → (t.1 ≢ pos 0)
      × StopOf bounds row x side limit places lowers uppers t) → Chosen xs
  chosen [] f = record {
    used = [];
    columns = refl;
    literals = refl;
    stand = λ k d h. absurd (omega arith);
    weights = λ c. sym (ap (signed side) (zero-signed falls) ∙ zero-signed side);
    below = let e : signed side (signed falls (pos 0)) ≡ pos 0 = ap (signed side) (zero-signed falls) ∙ zero-signed side in omega (arith, ints);
    sizes = λ e h. refl;
  } where
    zero-signed : (b : Bool) → signed b (pos 0) ≡ pos 0
    zero-signed true = refl
    zero-signed false = refl
  chosen (t ∷ xs) f =
      let s = (f 0 t refl).1 in let m = (f 0 t refl).0 in
      let r = chosen xs (λ k u e. f (suc k) u e) in record {
        used = s.bound ∷ r.used;
        columns = ap (λ z. z ∷ map column-in r.used) s.column ∙ ap (λ z. t.0 ∷ z) r.columns;
        literals = ap (λ z. z ∷ map literal-of r.used) s.literal ∙ ap (λ z. literal_in (stop_limit row x side lowers uppers t) ∷ z) r.literals;
        stand = All-cons (Contains bounds) s.bound r.used s.stands r.stand;
        weights = λ c. weight-step s.bound t xs (map size-of (map part xs)) r.used c m s.column s.upper (r.weights c);
        below = limit-step t xs s (limits (map size-of (map part xs)) r.used) m r.below;
        sizes = λ e h.
            ap (λ z. z ∷ map size-of (map part xs)) (ap pos (sym (h t 0 refl)) ∙ ap (λ c. pos (unsigned_abs (e c))) (sym s.column))
            ∙ ap (λ z. pos (unsigned_abs (e s.bound.column)) ∷ z) (r.sizes e (λ u k q. h u (suc k) q));
      }

-- a column that cannot move stands at a limit
blocked-low : (low : Option (ℤ × ℕ)) (place : ℤ) → (CanFall (bare low) place → ⊥) → (z : ℤ) × (n : ℕ) × (low ≡ Some (z, n)) × (place ≤ℤ z)
blocked-low None place f = absurd (f tt)
blocked-low (Some (z, n)) place f = (z, n, refl, by_lt_z z place (λ l. absurd (f l)) (λ l. l))

blocked-high : (high : Option (ℤ × ℕ)) (place : ℤ) → (CanRise (bare high) place → ⊥) → (z : ℤ) × (n : ℕ) × (high ≡ Some (z, n)) × (z ≤ℤ place)
blocked-high None place f = absurd (f tt)
blocked-high (Some (z, n)) place f = (z, n, refl, by_lt_z place z (λ l. absurd (f l)) (λ l. l))

record IsBlocked (up : Bool) (low high : Option (ℤ × ℕ)) (place : ℤ) : Type 0 where
  number : ℤ
  literal : ℕ
  limit : on_side up low high ≡ Some (number, literal)
  high_side : up ≡ true → number ≤ℤ place
  low_side : up ≡ false → place ≤ℤ number

at-low : (low high : Option (ℤ × ℕ)) (place : ℤ) → (CanFall (bare low) place → ⊥) → IsBlocked false low high place
at-low low high place f =
    let w = blocked-low low place f in
    record { number = w.0; literal = w.1; limit = w.2; high_side = λ e. absurd (no e); low_side = λ e. w.3 } where
      no : false ≡ true → ⊥
      no e = absurd cc

at-high : (low high : Option (ℤ × ℕ)) (place : ℤ) → (CanRise (bare high) place → ⊥) → IsBlocked true low high place
at-high low high place f =
    let w = blocked-high high place f in
    record { number = w.0; literal = w.1; limit = w.2; high_side = λ e. w.3; low_side = λ e. absurd (no e) } where
      no : true ≡ false → ⊥
      no e = absurd cc

blocked : (side g : Bool) (low high : Option (ℤ × ℕ)) (place : ℤ) → (CanMove (is_same_side side g) (bare low) (bare high) place → ⊥)
    → IsBlocked (differs g side) low high place
blocked true true low high place f = at-low low high place f
blocked true false low high place f = at-high low high place f
blocked false true low high place f = at-high low high place f
blocked false false low high place f = at-low low high place f

no-growth : (b side : Bool) → differs (differs b b) side ≡ side
no-growth true true = refl
no-growth true false = refl
no-growth false true = refl
no-growth false false = refl

module _ (given : List (List (ℕ × ℤ))) (columns : ℕ) (bounds : List Standing) (lowers uppers : List (Option (ℤ × ℕ))) (basis : List ℕ) (rows : List (List (ℕ × ℤ)))
    (places : List ℤ) (values : List (ℤ × ℤ)) (kept : IsKept given columns basis rows places values) (tables : AreTables columns bounds lowers uppers)
    (l : Exit) (r : List (ℕ × ℤ)) (f : IsLeavingOf basis values lowers uppers (length basis) (Some l)) (er : slice_get rows l.at ≡ Some r)
    (e : (c : ℕ) → Enters r l.column l.side places lowers uppers c → ⊥) where
  the-row : IsSparse columns r
  the-row = kept.ready.are_rows.sparse l.at r er

  x-below : l.column < columns
  x-below = let P : ℕ → Type 0 = λ c. c < columns in subst P (same_some (get_or basis l.at 0) l.column
      (sym (slice_get-get_or basis l.at 0 (slice_get_within basis l.at l.column f.0)) ∙ f.0))
      (kept.ready.in_range l.at 0 (slice_get_within basis l.at l.column f.0))

  own-stop : (t : ℕ × ℤ) → t.0 ≡ l.column → entry r t.0 ≡ t.1 → StopOf bounds r l.column l.side l.limit (place_at places) lowers uppers t
  own-stop t q et =
      let b : stop_side r l.column l.side t.1 ≡ l.side =
      ap (λ z. differs (differs (lt_z (pos 0) z) (lt_z (pos 0) (entry r l.column))) l.side) (sym et ∙ ap (entry r) q) ∙ no-growth
      (lt_z (pos 0) (entry r l.column)) l.side in
      let w = bare-some (on_side l.side (limit_at lowers l.column) (limit_at uppers l.column)) l.limit f.1.2.0 in
      let s = tightest_stands bounds l.column l.side (l.limit, w.0) (sym (table_is columns bounds lowers uppers tables l.side l.column x-below) ∙ w.1) in
      let v : with-limit l.column l.limit (place_at places) t.0 ≡ l.limit = ap (λ c. with-limit l.column l.limit (place_at places) c) q
      ∙ ap (λ b. cond b l.limit (place_at places l.column)) (is_same l.column) in
      let y : s.bound.limit ≡ with-limit l.column l.limit (place_at places) t.0 = s.limit ∙ sym v in
      record {
        bound = s.bound;
        stands = s.stands;
        column = s.column ∙ sym q;
        upper = s.upper ∙ sym b;
        literal = s.literal ∙ sym (ap literal_in (ap (λ u. on_side u (limit_at lowers t.0) (limit_at uppers t.0)) b
            ∙ ap (λ c. on_side l.side (limit_at lowers c) (limit_at uppers c)) q ∙ w.1));
        high = λ g. omega (arith, ints);
        low = λ g. omega (arith, ints);
      }

  other-stop : (t : ℕ × ℤ) → t.0 ≢ l.column → entry r t.0 ≡ t.1 → t.1 ≢ pos 0 → t.0 < columns → StopOf bounds r l.column l.side l.limit
      (place_at places) lowers uppers t
  other-stop t q et nz h =
      let b = blocked l.side (grows r l.column t.1) (limit_at lowers t.0) (limit_at uppers t.0) (place_at places t.0)
      (λ m. e t.0 record {
        other = q;
        has_entry = λ z. nz (sym et ∙ z);
        can = let P : ℤ → Type 0 = λ z. CanMove (is_same_side l.side (grows r l.column z)) (bare (limit_at lowers t.0))
            (bare (limit_at uppers t.0)) (place_at places t.0) in
            subst P (sym et) m;
      }) in
      let s = tightest_stands bounds t.0 (stop_side r l.column l.side t.1) (b.number, b.literal)
      (sym (table_is columns bounds lowers uppers tables (stop_side r l.column l.side t.1) t.0 h) ∙ b.limit) in
      let v : with-limit l.column l.limit (place_at places) t.0 ≡ place_at places t.0 = ap (λ w. cond w l.limit (place_at places t.0))
      (is_other t.0 l.column q) in
      let y = s.limit in
      record {
        bound = s.bound;
        stands = s.stands;
        column = s.column;
        upper = s.upper;
        literal = s.literal ∙ sym (ap literal_in b.limit);
        high = λ g. let z = b.high_side g in omega (arith, ints);
        low = λ g. let z = b.low_side g in omega (arith, ints);
      }

  stops : (k : ℕ) (t : ℕ × ℤ) → slice_get r k ≡ Some t → (t.1 ≢ pos 0) × StopOf bounds r l.column l.side l.limit (place_at places) lowers uppers t
  stops k t et =
      let w = listed_entry 0 columns r k t the-row et in (
        w.1,
        elim (by_test (t.0 == l.column)) [
          | inl q ↦ own-stop t (same_if t.0 l.column q) w.0
          | inr q ↦ other-stop t (other_if t.0 l.column q) w.0 w.1 w.2
        ],
      )

  -- with its limit in place of its value the row's sum is past 0
  sum-past : (v : ℤ × ℤ) (g : IsGiving given columns basis (place_at places) l.column (entry r) v) → IsPast l.side l.limit g.top g.bottom
      → signed l.side (signed (falling (entry r) l.column) (sum_of (with-limit l.column l.limit (place_at places)) r)) <ℤ pos 0
  sum-past v g p =
      let a : signed (falling (entry r) l.column) (sum_of (with-limit l.column l.limit (place_at places)) r) ≡ g.top -ℤ l.limit *ℤ g.bottom =
      ap (signed (falling (entry r) l.column)) (sum-limit l.column l.limit (place_at places) r)
      ∙ signed-sum (falling (entry r) l.column) (rest_in l.column (place_at places) r) (entry r l.column *ℤ l.limit)
      ∙ ap (λ z. z +ℤ signed (falling (entry r) l.column) (entry r l.column *ℤ l.limit))
      (ap (signed (falling (entry r) l.column)) (rest_is l.column 0 columns (place_at places) r the-row)
      ∙ sym (signed-rest (falling (entry r) l.column) (entry r) (place_at places) l.column columns)
      ∙ sym (rest_same (combined g.multipliers given) (λ c. signed (falling (entry r) l.column) (entry r c)) (place_at places) l.column g.entries columns)
      ∙ g.value.numerator)
      ∙ ap (λ z. g.top +ℤ z) (signed-times (falling (entry r) l.column) (entry r l.column) l.limit
      ∙ ap (λ z. z *ℤ l.limit) (sym (g.entries l.column) ∙ g.value.denominator) ∙ neg_times g.bottom l.limit ∙ ap neg_ℤ (*ℤ_comm g.bottom l.limit)) in
      ap-past l.side g.top l.limit g.bottom (signed (falling (entry r) l.column) (sum_of (with-limit l.column l.limit (place_at places)) r)) a p where
        ap-past : (side : Bool) (t z b s : ℤ) → s ≡ t -ℤ z *ℤ b → IsPast side z t b → signed side s <ℤ pos 0
        ap-past true t z b s a h = omega (arith, ints)
        ap-past false t z b s a h = omega (arith, ints)

  pub refuted : IsRefuted given columns bounds (map (part_of r l.column l.side lowers uppers) r)
  refuted =
      let ra = kept.ready.are_rows.each l.at l.column r f.0 er in
      let w = kept.are_values.inside l.at l.column r f.0 er in
      let P : ℕ → Type 0 = λ n. IsRowValue n l.column (place_at places) r w.0 in
      let v = subst P kept.width w.2 in
      let g = giving given columns basis (place_at places) l.column (entry r) w.0 (listed_at basis l.at l.column f.0) ra (v.quotient ra.has_entry) in
      let c = chosen bounds r l.column l.side l.limit (place_at places) lowers uppers columns r stops in
      let s = signed_row given basis l.column (λ k. signed (falling (entry r) l.column) (entry r k)) l.side
      (signed_row given basis l.column (entry r) (falling (entry r) l.column) ra) in
      let m = f.1 in
      let q : m.0 ≡ w.0 = same_some m.0 w.0 (sym m.1 ∙ w.1) in
      let Q : ℤ × ℤ → Type 0 = λ z. IsPast l.side l.limit z.0 z.1 in
      let p = past_same l.side l.limit w.0.0 w.0.1 g.top g.bottom v.fraction.positive g.value.positive
      (*ℤ_comm g.bottom w.0.0 ∙ sym g.same ∙ *ℤ_comm g.top w.0.1) (subst Q q m.2.1) in
      let z = sum-past w.0 g p in let b = c.below in
      record {
        refutes = record {
          used = c.used;
          multipliers = read_off (λ k. signed l.side (signed (falling (entry r) l.column) (entry r k))) given;
          literals = c.literals;
          stand = c.stand;
          not_negative = sizes-positive r;
          cancels = λ k. c.weights k ∙ s.combination k;
          absurd = le-lt (limits (map (λ (p : ℤ × ℕ). p.0) (map (part_of r l.column l.side lowers uppers) r)) c.used)
              (signed l.side (signed (falling (entry r) l.column) (sum_of (with-limit l.column l.limit (place_at places)) r))) b z;
        };
        one_row = record {
          basis = basis;
          column = l.column;
          row = g.multipliers;
          is_basis = basis_of given columns basis rows kept.ready.count kept.ready.different kept.ready.in_range kept.ready.are_rows;
          is_row = g.value.row;
          different = subst AllDiffer (sym c.columns) (sparse_differ 0 columns r the-row);
          sizes = c.sizes (combined g.multipliers given) (λ t k et.
              let y = listed_entry 0 columns r k t the-row et in
              ap unsigned_abs (g.entries t.0) ∙ abs-signed (falling (entry r) l.column) (entry r t.0) ∙ ap unsigned_abs y.0);
        };
      } where
        le-lt : (a b : ℤ) → a ≤ℤ b → b <ℤ pos 0 → a <ℤ pos 0
        le-lt a b h i = omega (arith, ints)

        sizes-positive : (xs : List (ℕ × ℤ)) → All (λ (p : ℤ × ℕ). pos 0 ≤ℤ p.0) (map (part_of r l.column l.side lowers uppers) xs)
        sizes-positive [] = λ k d h. absurd (omega arith)
        sizes-positive (t ∷ xs) = All-cons (λ (p : ℤ × ℕ). pos 0 ≤ℤ p.0) (part_of r l.column l.side lowers uppers t)
            (map (part_of r l.column l.side lowers uppers) xs)
            (omega (arith, ints)) (sizes-positive xs)
