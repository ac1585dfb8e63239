-- The bounds' numbers are a row of a basis.
use Prim.Native.Nat.{◌∣◌}
use Rattle.std.specs.Prelude.{ℕ, zero, suc, ◌≡◌, ◌≢◌, ◌⊎◌, ◌==◌, Bool, true, false, cond, List, [], ◌∷◌, length, map, All, Contains, unsigned_abs, refl}
use Rattle.std.proofs.Common.{sym, ◌∙◌, ap, subst, inl, inr, arith}
use Rattle.std.proofs.lemmas.Int.{ints}
use Rattle.std.proofs.lemmas.Bool.Decides.{nat_tests}
use Rattle.std.proofs.lemmas.List.Elements.{All-nil, All-cons}
use lib.IntN.{ℤ, pos, negsuc, ◌+ℤ◌, ◌-ℤ◌, ◌*ℤ◌, neg_ℤ, zero-*ℤ, *ℤ_comm}
use lib.Signed.{◌<ℤ◌}
use Rattle.kind_num.proofs.Ring.{neg_times, times_neg}
use Rattle.proof_steps.specs.Rows.{IsRow, AllDiffer, combined, entry}
use Rattle.proof_steps.specs.Stopped.{Row, IsRowOf, signed}
use Rattle.int_simplex.specs.Given.{AreGiven, last_column}
use Rattle.int_simplex.specs.Inner.{IsCombination, IsRowAt, read_off}
use Rattle.int_simplex.specs.State.{Standing}
use Rattle.int_simplex.specs.Farkas.{turned, weight, limits, IsOfOneRow}
use Rattle.int_simplex.proofs.Algebra.{same_multiple, difference_zero, difference_swapped}
use Rattle.int_simplex.proofs.Apart.{apart, made_combination, read_off_is}
use Rattle.int_simplex.proofs.Combos.{crossed-combination, row_at_is}
use Rattle.int_simplex.proofs.Moves.{signed_row}
use Rattle.line_laws.proofs.Dependent.{basis_free}

zero-or : (z : ℤ) → (z ≡ pos 0) ⊎ (z ≢ pos 0)
zero-or (pos zero) = inl refl
zero-or (pos (suc n)) = inr (λ e. absurd (omega (arith, ints)))
zero-or (negsuc n) = inr (λ e. absurd (omega (arith, ints)))

-- ---- multipliers, one for each row

abbrev padded : List ℤ → List (List (ℕ × ℤ)) → List ℤ
padded ms [] = []
padded [] (r ∷ rows) = pos 0 ∷ padded [] rows
padded (m ∷ ms) (r ∷ rows) = m ∷ padded ms rows

padded-length : (ms : List ℤ) (rows : List (List (ℕ × ℤ))) → length (padded ms rows) ≡ length rows
padded-length ms [] = refl
padded-length [] (r ∷ rows) = ap suc (padded-length [] rows)
padded-length (m ∷ ms) (r ∷ rows) = ap suc (padded-length ms rows)

padded-same : (ms : List ℤ) (rows : List (List (ℕ × ℤ))) (c : ℕ) → combined (padded ms rows) rows c ≡ combined ms rows c
padded-same [] [] c = refl
padded-same (m ∷ ms) [] c = refl
padded-same [] (r ∷ rows) c = let z = zero-*ℤ (entry r c) in let i = padded-same [] rows c in omega (arith, ints)
padded-same (m ∷ ms) (r ∷ rows) c = ap (λ z. m *ℤ entry r c +ℤ z) (padded-same ms rows c)

combination-of : (given : List (List (ℕ × ℤ))) (columns : ℕ) → AreGiven given columns → (ms : List ℤ) (e : ℕ → ℤ)
    → ((c : ℕ) → e c ≡ combined ms given c) → IsCombination given e
combination-of given columns g ms e h c =
    h c ∙ sym (padded-same ms given c)
    ∙ made_combination given (padded ms given) (apart given columns g) (padded-length ms given) c
    ∙ same given where
      same : (rows : List (List (ℕ × ℤ)))
          → combined (read_off (combined (padded ms given) given) rows) rows c ≡ combined (read_off e rows) rows c
      same [] = refl
      same (r ∷ rows) =
          ap (λ z. neg_ℤ z *ℤ entry r c +ℤ combined (read_off (combined (padded ms given) given) rows) rows c)
          (padded-same ms given (last_column r) ∙ sym (h (last_column r)))
          ∙ ap (λ z. neg_ℤ (e (last_column r)) *ℤ entry r c +ℤ z) (same rows)

-- ---- a row by its entries

abs-neg : (z : ℤ) → unsigned_abs (neg_ℤ z) ≡ unsigned_abs z
abs-neg (pos zero) = refl
abs-neg (pos (suc n)) = refl
abs-neg (negsuc n) = refl

divides-all : (d : ℕ) (e : ℕ → ℤ) (rows : List (List (ℕ × ℤ))) → ((c : ℕ) → d ∣ unsigned_abs (e c))
    → All (λ m. d ∣ unsigned_abs m) (read_off e rows)
divides-all d e [] h = All-nil (λ m. d ∣ unsigned_abs m)
divides-all d e (r ∷ rows) h = All-cons (λ m. d ∣ unsigned_abs m) (neg_ℤ (e (last_column r))) (read_off e rows)
    (let P : ℕ → Type 0 = λ n. d ∣ n in subst P (sym (abs-neg (e (last_column r)))) (h (last_column r)))
    (divides-all d e rows h)

row-at : (given : List (List (ℕ × ℤ))) (columns : ℕ) (basis : List ℕ) (x : ℕ) (ms : List ℤ) → AreGiven given columns
    → IsRow given basis x ms → IsRowAt given basis x (combined ms given)
row-at given columns basis x ms g r = record {
  combination = made_combination given ms (apart given columns g) r.multipliers;
  has_entry = r.has_entry;
  alone = r.alone;
  coprime = λ d f. r.coprime d
      (let P : List ℤ → Type 0 = λ ns. All (λ m. d ∣ unsigned_abs m) ns in
      subst P (read_off_is ms given (apart given columns g) r.multipliers) (divides-all d (combined ms given) given f)) f;
}

-- ---- the bounds' numbers

sizes-same : (a b : ℤ) → unsigned_abs a ≡ unsigned_abs b → (a ≡ b) ⊎ (a ≡ neg_ℤ b)
sizes-same (pos m) (pos n) e = inl (ap pos e)
sizes-same (pos m) (negsuc n) e = inr (ap pos e)
sizes-same (negsuc m) (pos n) e = inr (let q : suc m ≡ n = e in omega (arith, ints))
sizes-same (negsuc m) (negsuc n) e = inl (let q : suc m ≡ suc n = e in omega (arith, ints))

turned-size : (u : Bool) (m : ℤ) → unsigned_abs (turned u m) ≡ unsigned_abs m
turned-size true m = refl
turned-size false m = abs-neg m

abbrev column_in : Standing → ℕ
column_in b = b.column

none-here : (c : ℕ) (ms : List ℤ) (used : List Standing) → (¬ Contains (map column_in used) c) → weight ms used c ≡ pos 0
none-here c [] used n = refl
none-here c (m ∷ ms) [] n = refl
none-here c (m ∷ ms) (b ∷ used) n =
    ap (λ w. cond w (turned b.upper m +ℤ weight ms used c) (weight ms used c)) (other b.column c (λ e. n (0, omega arith, e)))
    ∙ none-here c ms used (λ (k, h, e). n (suc k, omega arith, e)) where
      other : (x c : ℕ) → x ≢ c → (x == c) ≡ false
      other x c n = grind (arith, nat_tests)

-- at the column of a bound stands its number, up to the sign the size of the row's entry
module _ (row : ℕ → ℤ) where
  abbrev SizeAt : List ℤ → List Standing → ℕ → Type 0
  SizeAt ms used c = (weight ms used c ≡ pos 0) ⊎ (unsigned_abs (weight ms used c) ≡ unsigned_abs (row c))

  size-at : (c : ℕ) (ms : List ℤ) (used : List Standing) → AllDiffer (map column_in used)
      → ms ≡ map (λ (b : Standing). pos (unsigned_abs (row b.column))) used → SizeAt ms used c
  size-at c [] used d e = inl refl
  size-at c (m ∷ ms) [] d e = inl refl
  size-at c (m ∷ ms) (b ∷ used) d e =
      go (b.column == c) refl (size-at c ms used d.1 (tails m ms _ _ e)) where
        tails : (m : ℤ) (ms : List ℤ) (n : ℤ) (ns : List ℤ) → m ∷ ms ≡ n ∷ ns → ms ≡ ns
        tails m ms n ns e = cc

        heads : (m : ℤ) (ms : List ℤ) (n : ℤ) (ns : List ℤ) → m ∷ ms ≡ n ∷ ns → m ≡ n
        heads m ms n ns e = cc

        is : (x c : ℕ) → (x == c) ≡ true → x ≡ c
        is x c h = grind (arith, nat_tests)

        plus-zero : (x y : ℤ) → y ≡ pos 0 → x +ℤ y ≡ x
        plus-zero x y e = omega (arith, ints)

        abs-pos : (n : ℕ) → unsigned_abs (pos n) ≡ n
        abs-pos n = refl

        go : (w : Bool) → (b.column == c) ≡ w → SizeAt ms used c
            → (cond w (turned b.upper m +ℤ weight ms used c) (weight ms used c) ≡ pos 0)
            ⊎ (unsigned_abs (cond w (turned b.upper m +ℤ weight ms used c) (weight ms used c)) ≡ unsigned_abs (row c))
        go true q s =
            let x : b.column ≡ c = is b.column c q in
            let z : weight ms used c ≡ pos 0 = none-here c ms used (subst (λ y. ¬ Contains (map column_in used) y) x d.0) in
            inr (ap unsigned_abs (plus-zero (turned b.upper m) (weight ms used c) z) ∙ turned-size b.upper m
            ∙ ap unsigned_abs (heads m ms _ _ e) ∙ ap (λ y. unsigned_abs (row y)) x)
        go false q s = s

  -- some number is not 0
  some-number : (ms : List ℤ) (used : List Standing) → AllDiffer (map column_in used)
      → (limits ms used <ℤ pos 0) → (c : ℕ) × (weight ms used c ≢ pos 0)
  some-number [] used d l = absurd (omega (arith, ints))
  some-number (m ∷ ms) [] d l = absurd (omega (arith, ints))
  some-number (m ∷ ms) (b ∷ used) d l = elim (zero-or m) [
    | inr n ↦ (b.column, here n)
    | inl z ↦ later z (some-number ms used d.1 (rest z))
  ] where
    same : (x : ℕ) → (x == x) ≡ true
    same x = grind (arith, nat_tests)

    turned-zero : (u : Bool) (m : ℤ) → m ≡ pos 0 → turned u m ≡ pos 0
    turned-zero true m e = e
    turned-zero false m e = ap neg_ℤ e

    turned-not : (u : Bool) (m : ℤ) → m ≢ pos 0 → turned u m ≢ pos 0
    turned-not true m n e = n e
    turned-not false m n e = n (let q : neg_ℤ m ≡ pos 0 = e in omega (arith, ints))

    here : m ≢ pos 0 → weight (m ∷ ms) (b ∷ used) b.column ≢ pos 0
    here n e =
        let z : weight ms used b.column ≡ pos 0 = none-here b.column ms used d.0 in
        let w : turned b.upper m +ℤ weight ms used b.column ≡ pos 0 =
        sym (ap (λ w. cond w (turned b.upper m +ℤ weight ms used b.column) (weight ms used b.column)) (same b.column)) ∙ e in
        turned-not b.upper m n (omega (arith, ints))

    rest : m ≡ pos 0 → limits ms used <ℤ pos 0
    rest z = let p : m *ℤ turned b.upper b.limit ≡ pos 0 = ap (λ y. y *ℤ turned b.upper b.limit) z ∙ zero-*ℤ (turned b.upper b.limit) in
        let h = l in omega (arith, ints)

    as-rest : (w : Bool) (x y : ℤ) → x ≡ pos 0 → cond w (x +ℤ y) y ≡ y
    as-rest true x y e = omega (arith, ints)
    as-rest false x y e = refl

    later : m ≡ pos 0 → (c : ℕ) × (weight ms used c ≢ pos 0) → (c : ℕ) × (weight (m ∷ ms) (b ∷ used) c ≢ pos 0)
    later z s = (
      s.0,
      λ e. s.1 (sym (as-rest (b.column == s.0) (turned b.upper m) (weight ms used s.0) (turned-zero b.upper m z)) ∙ e),
    )

-- ---- they are the row, or its opposite

module _ (given : List (List (ℕ × ℤ))) (columns : ℕ) (used : List Standing) (parts : List (ℤ × ℕ)) (g : AreGiven given columns)
    (o : IsOfOneRow given columns used parts) (ms : List ℤ) (sizes : ms ≡ map (λ (p : ℤ × ℕ). p.0) parts)
    (on : (ns : List ℤ) × ((c : ℕ) → weight ms used c ≡ combined ns given c)) (l : limits ms used <ℤ pos 0) where
  abbrev row : ℕ → ℤ
  row = combined o.row given

  abbrev number : ℕ → ℤ
  number = weight ms used

  at : IsRowAt given o.basis o.column row
  at = row-at given columns o.basis o.column o.row g o.is_row

  numbers : IsCombination given number
  numbers = combination-of given columns g on.0 number on.1

  size : (c : ℕ) → (number c ≡ pos 0) ⊎ (unsigned_abs (number c) ≡ unsigned_abs (row c))
  size c = size-at row c ms used o.different (sizes ∙ o.sizes)

  vanishes : (b : ℕ) → Contains o.basis b → b ≢ o.column → number b ≡ pos 0
  vanishes b i n = elim (size b) [
    | inl z ↦ z
    | inr e ↦ zero-size (number b) (e ∙ ap unsigned_abs (o.is_row.alone b i n))
  ] where
    zero-size : (z : ℤ) → unsigned_abs z ≡ 0 → z ≡ pos 0
    zero-size (pos zero) e = refl
    zero-size (pos (suc n)) e = absurd (omega arith)
    zero-size (negsuc n) e = absurd (omega arith)

  -- in proportion
  proportion : (c : ℕ) → row o.column *ℤ number c ≡ number o.column *ℤ row c
  proportion c =
      let z : row o.column *ℤ number c -ℤ number o.column *ℤ row c ≡ pos 0 =
      basis_free given columns o.basis g o.is_basis (λ k. row o.column *ℤ number k -ℤ number o.column *ℤ row k)
      (crossed-combination given (row o.column) (number o.column) number row
      (λ k. row o.column *ℤ number k -ℤ number o.column *ℤ row k) (λ k. refl) numbers at.combination) none c in
      omega (arith, ints) where
        is : (x c : ℕ) → (x == c) ≡ true → x ≡ c
        is x c h = grind (arith, nat_tests)

        differ : (x c : ℕ) → (x == c) ≡ false → x ≢ c
        differ x c h e = absurd (grind (arith, nat_tests))

        none : (b : ℕ) → Contains o.basis b → row o.column *ℤ number b -ℤ number o.column *ℤ row b ≡ pos 0
        none b i = go (b == o.column) refl where
          go : (w : Bool) → (b == o.column) ≡ w → row o.column *ℤ number b -ℤ number o.column *ℤ row b ≡ pos 0
          go true q = ap (λ k. row o.column *ℤ number k -ℤ number o.column *ℤ row k) (is b o.column q)
              ∙ difference_swapped (row o.column) (number o.column)
          go false q =
              ap (λ z. row o.column *ℤ z -ℤ number o.column *ℤ row b) (vanishes b i (differ b o.column q))
              ∙ ap (λ z. row o.column *ℤ pos 0 -ℤ number o.column *ℤ z) (o.is_row.alone b i (differ b o.column q))
              ∙ difference_zero (row o.column) (number o.column)

  abbrev IsSign : Bool → Type 0
  IsSign s = (c : ℕ) → number c ≡ signed s (row c)

  -- one number that is not 0 shows the sign
  sign : (s : Bool) × IsSign s
  sign =
      let k = some-number row ms used o.different l in
      elim (size k.0) [
        | inl z ↦ absurd (k.1 z)
        | inr e ↦ elim (sizes-same (number k.0) (row k.0) e) [
          | inl q ↦ (false, plain k.0 k.1 q)
          | inr q ↦ (true, turned-round k.0 k.1 q)
        ]
      ] where
        -- row x * n = m * r with n = r not 0 gives row x = m
        plain : (k : ℕ) → number k ≢ pos 0 → number k ≡ row k → IsSign false
        plain k n q c =
            let p : row o.column *ℤ number k ≡ number o.column *ℤ number k = proportion k ∙ ap (λ z. number o.column *ℤ z) (sym q) in
            let a = *ℤ_comm (number k) (row o.column) in let b = *ℤ_comm (number k) (number o.column) in
            let m : row o.column ≡ number o.column = same_multiple (number k) (row o.column) (number o.column) n (omega (arith, ints)) in
            same_multiple (row o.column) (number c) (row c) at.has_entry
            (proportion c ∙ ap (λ z. z *ℤ row c) (sym m))

        turned-round : (k : ℕ) → number k ≢ pos 0 → number k ≡ neg_ℤ (row k) → IsSign true
        turned-round k n q c =
            let r : row k ≡ neg_ℤ (number k) = omega (arith, ints) in
            let p : row o.column *ℤ number k ≡ neg_ℤ (number o.column *ℤ number k) =
            proportion k ∙ ap (λ z. number o.column *ℤ z) r ∙ times_neg (number o.column) (number k) in
            let a = *ℤ_comm (number k) (row o.column) in
            let b = times_neg (number k) (number o.column) in let d = *ℤ_comm (number k) (number o.column) in
            let m : row o.column ≡ neg_ℤ (number o.column) = same_multiple (number k) (row o.column) (neg_ℤ (number o.column)) n (omega (arith, ints)) in
            let m2 : number o.column ≡ neg_ℤ (row o.column) = omega (arith, ints) in
            same_multiple (row o.column) (number c) (neg_ℤ (row c)) at.has_entry
            (proportion c ∙ ap (λ z. z *ℤ row c) m2 ∙ neg_times (row o.column) (row c)
            ∙ sym (times_neg (row o.column) (row c)))

  -- the row with the bounds' numbers
  pub row_is : (entries : List (ℕ × ℤ)) → AllDiffer (map (λ (t : ℕ × ℤ). t.0) entries)
      → ((c : ℕ) → entry entries c ≡ number c)
      → (r : Row) × (r.entries ≡ entries) × IsRowOf given columns r
  row_is entries d h =
      let s = signed_row given o.basis o.column row sign.0 at in (
        record { entries = entries; multipliers = read_off (λ c. signed sign.0 (row c)) given },
        refl,
        (
          d,
          o.basis,
          o.column,
          o.is_basis,
          row_at_is given o.basis o.column (λ c. signed sign.0 (row c)) o.is_row.in_basis s,
          λ c. h c ∙ sign.1 c ∙ s.combination c,
        ),
      )
