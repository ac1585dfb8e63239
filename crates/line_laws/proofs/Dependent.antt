-- The rows of a basis determine each combination: more functions than columns depend on each other there.
use Rattle.std.specs.Prelude.{ℕ, zero, suc, ◌≡◌, ◌≢◌, ◌⊎◌, ◌<◌, List, [], ◌∷◌, length, Contains, refl}
use Rattle.std.proofs.Common.{sym, ◌∙◌, ap, subst, inl, inr, arith}
use Rattle.std.proofs.lemmas.Int.{ints}
use Rattle.std.proofs.lemmas.List.{length-map}
use lib.IntN.{ℤ, pos, negsuc, ◌+ℤ◌, ◌-ℤ◌, ◌*ℤ◌, neg_ℤ, *ℤ-zero, zero-*ℤ, *ℤ_comm}
use Rattle.kind_num.proofs.Ring.{times_sum, sum_times, neg_times, times_neg, times_times}
use Rattle.proof_steps.specs.Rows.{IsRow, IsBasis, AllDiffer, combined}
use Rattle.int_simplex.specs.Given.{AreGiven, last_column, last_columns}
use Rattle.int_simplex.specs.Inner.{IsCombination, IsFree}
use Rattle.int_simplex.proofs.Algebra.{product_zero}
use Rattle.int_simplex.proofs.Apart.{apart, made_combination}
use Rattle.int_simplex.proofs.Combos.{crossed-combination}
use Rattle.int_simplex.proofs.First.{free_first}

-- ---- sums of functions times multipliers

abbrev pub sum : List ℤ → List (ℕ → ℤ) → ℕ → ℤ
sum [] vs c = pos 0
sum (m ∷ ms) [] c = pos 0
sum (m ∷ ms) (v ∷ vs) c = m *ℤ v c +ℤ sum ms vs c

abbrev HasOther : List ℤ → Type 0
HasOther [] = ⊥
HasOther (m ∷ ms) = (m ≢ pos 0) ⊎ HasOther ms

zero-or : (z : ℤ) → (z ≡ pos 0) ⊎ (z ≢ pos 0)
zero-or (pos zero) = inl refl
zero-or (pos (suc n)) = inr (λ e. absurd (omega (arith, ints)))
zero-or (negsuc n) = inr (λ e. absurd (omega (arith, ints)))

abbrev zeros : List (ℕ → ℤ) → List ℤ
zeros [] = []
zeros (v ∷ vs) = pos 0 ∷ zeros vs

zeros-length : (vs : List (ℕ → ℤ)) → length (zeros vs) ≡ length vs
zeros-length [] = refl
zeros-length (v ∷ vs) = ap suc (zeros-length vs)

-- multipliers, not all 0, with which the functions sum to 0 at the columns
record Depend (columns : List ℕ) (vs : List (ℕ → ℤ)) : Type 0 where
  multipliers : List ℤ
  count : length multipliers ≡ length vs
  some : HasOther multipliers
  vanish : (c : ℕ) → Contains columns c → sum multipliers vs c ≡ pos 0

-- ---- a function with an entry in the column, and the others

record Picked (l : ℕ) (vs : List (ℕ → ℤ)) : Type 0 where
  one : ℕ → ℤ
  others : List (ℕ → ℤ)
  count : length vs ≡ suc (length others)
  not_zero : one l ≢ pos 0
  back : (a : ℤ) (ms : List ℤ) → length ms ≡ length others
      → (ns : List ℤ) × (length ns ≡ length vs) × (HasOther ms → HasOther ns)
      × ((c : ℕ) → sum ns vs c ≡ a *ℤ one c +ℤ sum ms others c)

abbrev AreZero : ℕ → List (ℕ → ℤ) → Type 0
AreZero l [] = Unit
AreZero l (v ∷ vs) = (v l ≡ pos 0) × AreZero l vs

pick : (l : ℕ) (vs : List (ℕ → ℤ)) → AreZero l vs ⊎ Picked l vs
pick l [] = inl tt
pick l (v ∷ vs) = elim (zero-or (v l)) [
  | inr n ↦ inr record {
    one = v;
    others = vs;
    count = refl;
    not_zero = n;
    back = λ a ms e. (a ∷ ms, ap suc e, (λ h. inr h), λ c. refl);
  }
  | inl z ↦ elim (pick l vs) [
    | inl all ↦ inl (z, all)
    | inr p ↦ inr (later v p)
  ]
] where
  swapped : (x y s t : ℤ) → t ≡ y +ℤ s → x +ℤ t ≡ y +ℤ (x +ℤ s)
  swapped x y s t e = omega (arith, ints)

  or-more : (m : ℤ) (ms ns : List ℤ) → (HasOther ms → HasOther ns) → HasOther (m ∷ ms) → HasOther (m ∷ ns)
  or-more m ms ns f (inl h) = inl h
  or-more m ms ns f (inr h) = inr (f h)

  put : (v : ℕ → ℤ) (p : Picked l vs) (a : ℤ) (ms : List ℤ) → length ms ≡ suc (length p.others)
      → (ns : List ℤ) × (length ns ≡ suc (length vs)) × (HasOther ms → HasOther ns)
      × ((c : ℕ) → sum ns (v ∷ vs) c ≡ a *ℤ p.one c +ℤ sum ms (v ∷ p.others) c)
  put v p a [] e = absurd (omega arith)
  put v p a (m ∷ ms) e = let b = p.back a ms (omega arith) in (
    m ∷ b.0,
    ap suc b.1,
    or-more m ms b.0 b.2,
    λ c. swapped (m *ℤ v c) (a *ℤ p.one c) (sum ms p.others c) (sum b.0 vs c) (b.3 c),
  )

  later : (v : ℕ → ℤ) → Picked l vs → Picked l (v ∷ vs)
  later v p = record {
    one = p.one;
    others = v ∷ p.others;
    count = ap suc p.count;
    not_zero = p.not_zero;
    back = put v p;
  }

-- ---- the others without the column

abbrev without : (ℕ → ℤ) → ℕ → (ℕ → ℤ) → ℕ → ℤ
without v l u c = v l *ℤ u c -ℤ u l *ℤ v c

abbrev all_without : (ℕ → ℤ) → ℕ → List (ℕ → ℤ) → List (ℕ → ℤ)
all_without v l [] = []
all_without v l (u ∷ us) = without v l u ∷ all_without v l us

without-length : (v : ℕ → ℤ) (l : ℕ) (us : List (ℕ → ℤ)) → length (all_without v l us) ≡ length us
without-length v l [] = refl
without-length v l (u ∷ us) = ap suc (without-length v l us)

-- m*(p*a - b*q) + (p*s - t*q) is p*(m*a + s) - (m*b + t)*q
joined : (m p a b q s t : ℤ) → m *ℤ (p *ℤ a -ℤ b *ℤ q) +ℤ (p *ℤ s -ℤ t *ℤ q) ≡ p *ℤ (m *ℤ a +ℤ s) -ℤ (m *ℤ b +ℤ t) *ℤ q
joined m p a b q s t =
    let l1 : m *ℤ (p *ℤ a -ℤ b *ℤ q) ≡ m *ℤ (p *ℤ a) +ℤ m *ℤ neg_ℤ (b *ℤ q) = sum_times m (p *ℤ a) (neg_ℤ (b *ℤ q)) in
    let l2 : m *ℤ neg_ℤ (b *ℤ q) ≡ neg_ℤ (m *ℤ (b *ℤ q)) = times_neg m (b *ℤ q) in
    let l3 : (m *ℤ b) *ℤ q ≡ m *ℤ (b *ℤ q) = times_times m b q in
    let l4 : (m *ℤ p) *ℤ a ≡ m *ℤ (p *ℤ a) = times_times m p a in
    let l5 : (p *ℤ m) *ℤ a ≡ p *ℤ (m *ℤ a) = times_times p m a in
    let l6 : (m *ℤ p) *ℤ a ≡ (p *ℤ m) *ℤ a = ap (λ z. z *ℤ a) (*ℤ_comm m p) in
    let r1 : p *ℤ (m *ℤ a +ℤ s) ≡ p *ℤ (m *ℤ a) +ℤ p *ℤ s = sum_times p (m *ℤ a) s in
    let r2 : (m *ℤ b +ℤ t) *ℤ q ≡ (m *ℤ b) *ℤ q +ℤ t *ℤ q = times_sum (m *ℤ b) t q in
    omega (arith, ints)

nothing : (p q : ℤ) → pos 0 ≡ p *ℤ pos 0 -ℤ pos 0 *ℤ q
nothing p q = let a = *ℤ-zero p in let b = zero-*ℤ q in omega (arith, ints)

without-sum : (v : ℕ → ℤ) (l : ℕ) (ms : List ℤ) (us : List (ℕ → ℤ)) (c : ℕ)
    → sum ms (all_without v l us) c ≡ v l *ℤ sum ms us c -ℤ sum ms us l *ℤ v c
without-sum v l [] us c = nothing (v l) (v c)
without-sum v l (m ∷ ms) [] c = nothing (v l) (v c)
without-sum v l (m ∷ ms) (u ∷ us) c =
    ap (λ z. m *ℤ without v l u c +ℤ z) (without-sum v l ms us c)
    ∙ joined m (v l) (u c) (u l) (v c) (sum ms us c) (sum ms us l)

abbrev scaled : ℤ → List ℤ → List ℤ
scaled k [] = []
scaled k (m ∷ ms) = (k *ℤ m) ∷ scaled k ms

scaled-length : (k : ℤ) (ms : List ℤ) → length (scaled k ms) ≡ length ms
scaled-length k [] = refl
scaled-length k (m ∷ ms) = ap suc (scaled-length k ms)

scaled-other : (k : ℤ) (ms : List ℤ) → k ≢ pos 0 → HasOther ms → HasOther (scaled k ms)
scaled-other k [] n h = h
scaled-other k (m ∷ ms) n (inl h) = inl (λ e. h (product_zero k m n e))
scaled-other k (m ∷ ms) n (inr h) = inr (scaled-other k ms n h)

scaled-sum : (k : ℤ) (ms : List ℤ) (us : List (ℕ → ℤ)) (c : ℕ) → sum (scaled k ms) us c ≡ k *ℤ sum ms us c
scaled-sum k [] us c = sym (*ℤ-zero k)
scaled-sum k (m ∷ ms) [] c = sym (*ℤ-zero k)
scaled-sum k (m ∷ ms) (u ∷ us) c =
    let a : (k *ℤ m) *ℤ u c ≡ k *ℤ (m *ℤ u c) = times_times k m (u c) in
    let b : sum (scaled k ms) us c ≡ k *ℤ sum ms us c = scaled-sum k ms us c in
    let d : k *ℤ (m *ℤ u c +ℤ sum ms us c) ≡ k *ℤ (m *ℤ u c) +ℤ k *ℤ sum ms us c = sum_times k (m *ℤ u c) (sum ms us c) in
    omega (arith, ints)

zero-sum : (l : ℕ) (ms : List ℤ) (vs : List (ℕ → ℤ)) → AreZero l vs → sum ms vs l ≡ pos 0
zero-sum l [] vs a = refl
zero-sum l (m ∷ ms) [] a = refl
zero-sum l (m ∷ ms) (v ∷ vs) a =
    let e : m *ℤ v l ≡ pos 0 = ap (λ z. m *ℤ z) a.0 ∙ *ℤ-zero m in
    let i : sum ms vs l ≡ pos 0 = zero-sum l ms vs a.1 in omega (arith, ints)

behind : (l : ℕ) (ls : List ℕ) (c : ℕ) (P : ℕ → Type 0) → P l → ((c : ℕ) → Contains ls c → P c) → Contains (l ∷ ls) c → P c
behind l ls c P p f (zero, h, e) = subst P e p
behind l ls c P p f (suc k, h, e) = f c (k, omega arith, e)

-- ---- more functions than columns

depend : (columns : List ℕ) (vs : List (ℕ → ℤ)) → length columns < length vs → Depend columns vs
depend [] [] h = absurd (omega arith)
depend [] (v ∷ vs) h = record {
  multipliers = pos 1 ∷ zeros vs;
  count = ap suc (zeros-length vs);
  some = inl (λ e. absurd (omega (arith, ints)));
  vanish = λ c (k, l, e). absurd (omega arith);
}
depend (l ∷ ls) vs h = elim (pick l vs) [
  | inl all ↦ let d = depend ls vs (omega arith) in record {
    multipliers = d.multipliers;
    count = d.count;
    some = d.some;
    vanish = λ c i. behind l ls c (λ c. sum d.multipliers vs c ≡ pos 0) (zero-sum l d.multipliers vs all) d.vanish i;
  }
  | inr p ↦ from p (depend ls (all_without p.one l p.others) (room p))
] where
  room : (p : Picked l vs) → length ls < length (all_without p.one l p.others)
  room p = let a = p.count in let b = without-length p.one l p.others in omega arith

  from : (p : Picked l vs) → Depend ls (all_without p.one l p.others) → Depend (l ∷ ls) vs
  from p d =
      let n : length d.multipliers ≡ length p.others = d.count ∙ without-length p.one l p.others in
      let t = sum d.multipliers p.others l in
      let b = p.back (neg_ℤ t) (scaled (p.one l) d.multipliers) (scaled-length (p.one l) d.multipliers ∙ n) in
      let same : (c : ℕ) → sum b.0 vs c ≡ sum d.multipliers (all_without p.one l p.others) c = λ c.
      let w = without-sum p.one l d.multipliers p.others c in
      let s = scaled-sum (p.one l) d.multipliers p.others c in
      let g = neg_times t (p.one c) in
      let e = b.3 c in omega (arith, ints) in
      record {
        multipliers = b.0;
        count = b.1;
        some = b.2 (scaled-other (p.one l) d.multipliers p.not_zero d.some);
        vanish = λ c i. behind l ls c (λ c. sum b.0 vs c ≡ pos 0)
            (same l ∙ without-sum p.one l d.multipliers p.others l
            ∙ (let m = *ℤ_comm (p.one l) t in omega (arith, ints)))
            (λ c j. same c ∙ d.vanish c j) i;
      }

-- ---- the rows of a basis

record IsOwnRow (given : List (List (ℕ × ℤ))) (basis : List ℕ) (b : ℕ) (f : ℕ → ℤ) : Type 0 where
  combination : IsCombination given f
  has_entry : f b ≢ pos 0
  alone : (c : ℕ) → Contains basis c → c ≢ b → f c ≡ pos 0

abbrev AreOwnRows : List (List (ℕ × ℤ)) → List ℕ → List ℕ → List (ℕ → ℤ) → Type 0
AreOwnRows given basis [] [] = Unit
AreOwnRows given basis [] (f ∷ fs) = ⊥
AreOwnRows given basis (b ∷ bs) [] = ⊥
AreOwnRows given basis (b ∷ bs) (f ∷ fs) = IsOwnRow given basis b f × AreOwnRows given basis bs fs

next : (bs : List ℕ) (b c : ℕ) → Contains bs c → Contains (b ∷ bs) c
next bs b c (k, h, e) = (suc k, omega arith, e)

module _ (given : List (List (ℕ × ℤ))) (columns : ℕ) (basis : List ℕ) (g : AreGiven given columns)
    (is : IsBasis given columns basis) where
  own-rows : (bs : List ℕ) → ((b : ℕ) → Contains bs b → Contains basis b)
      → (fs : List (ℕ → ℤ)) × AreOwnRows given basis bs fs × (length fs ≡ length bs)
  own-rows [] i = ([], tt, refl)
  own-rows (b ∷ bs) i =
      let r = is.rows b (i b (0, omega arith, refl)) in
      let more = own-rows bs (λ c j. i c (next bs b c j)) in (
        combined r.0 given ∷ more.0,
        (
          record {
            combination = made_combination given r.0 (apart given columns g) r.1.multipliers;
            has_entry = r.1.has_entry;
            alone = r.1.alone;
          },
          more.1,
        ),
        ap suc more.2,
      )

  -- at a column of the basis only its own row has an entry
  none-else : (b : ℕ) (ms : List ℤ) (bs : List ℕ) (fs : List (ℕ → ℤ)) → AreOwnRows given basis bs fs → Contains basis b
      → (¬ Contains bs b) → sum ms fs b ≡ pos 0
  none-else b [] bs fs a i n = refl
  none-else b (m ∷ ms) bs [] a i n = refl
  none-else b (m ∷ ms) [] (f ∷ fs) a i n = absurd a
  none-else b (m ∷ ms) (d ∷ bs) (f ∷ fs) a i n =
      let z : f b ≡ pos 0 = a.0.alone b i (λ e. n (0, omega arith, sym e)) in
      let p : m *ℤ f b ≡ pos 0 = ap (λ y. m *ℤ y) z ∙ *ℤ-zero m in
      let r : sum ms fs b ≡ pos 0 = none-else b ms bs fs a.1 i (λ j. n (next bs d b j)) in omega (arith, ints)

  all-zero : (ms : List ℤ) (bs : List ℕ) (fs : List (ℕ → ℤ)) → AreOwnRows given basis bs fs → length ms ≡ length fs
      → AllDiffer bs → ((b : ℕ) → Contains bs b → Contains basis b)
      → ((b : ℕ) → Contains bs b → sum ms fs b ≡ pos 0) → HasOther ms → ⊥
  all-zero [] bs fs a n d i v h = h
  all-zero (m ∷ ms) bs [] a n d i v h = absurd (omega arith)
  all-zero (m ∷ ms) [] (f ∷ fs) a n d i v h = a
  all-zero (m ∷ ms) (b ∷ bs) (f ∷ fs) a n d i v h =
      let r : sum ms fs b ≡ pos 0 = none-else b ms bs fs a.1 (i b (0, omega arith, refl)) d.0 in
      let w : m *ℤ f b +ℤ sum ms fs b ≡ pos 0 = v b (0, omega arith, refl) in
      let p : f b *ℤ m ≡ pos 0 = *ℤ_comm (f b) m ∙ (omega (arith, ints)) in
      let z : m ≡ pos 0 = product_zero (f b) m a.0.has_entry p in
      elim h [
        | inl e ↦ e z
        | inr e ↦ all-zero ms bs fs a.1 (omega arith) d.1 (λ c j. i c (next bs b c j))
            (λ c j. let x : m *ℤ f c +ℤ sum ms fs c ≡ pos 0 = v c (next bs b c j) in
            let y : m *ℤ f c ≡ pos 0 = ap (λ k. k *ℤ f c) z ∙ zero-*ℤ (f c) in omega (arith, ints)) e
      ]

  less : (a x s : ℤ) → a *ℤ x +ℤ s ≡ a *ℤ x -ℤ negsuc 0 *ℤ s
  unfolding lib.IntN.one
  less a x s =
      let p : negsuc 0 *ℤ s ≡ neg_ℤ (pos 1 *ℤ s) = neg_times (pos 1) s in
      let q : pos 1 *ℤ s ≡ s = *ℤ_comm (pos 1) s ∙ lib.IntN.*ℤ-one s in omega (arith, ints)

  zero-combination : IsCombination given (λ c. pos 0)
  zero-combination = crossed-combination given (pos 0) (pos 0) (λ c. pos 0) (λ c. pos 0) (λ c. pos 0) (λ c. refl)
      zero-made zero-made where
        zero-made : IsCombination given (λ c. pos 0)
        zero-made c = sym (go given) where
          go : (rows : List (List (ℕ × ℤ))) → combined (Rattle.int_simplex.specs.Inner.read_off (λ c. pos 0) rows) rows c ≡ pos 0
          go [] = refl
          go (r ∷ rows) = let z = zero-*ℤ (Rattle.proof_steps.specs.Rows.entry r c) in let i = go rows in omega (arith, ints)

  sum-combination : (ms : List ℤ) (bs : List ℕ) (fs : List (ℕ → ℤ)) → AreOwnRows given basis bs fs → IsCombination given (sum ms fs)
  sum-combination [] bs fs a = zero-combination
  sum-combination (m ∷ ms) bs [] a = zero-combination
  sum-combination (m ∷ ms) [] (f ∷ fs) a = absurd a
  sum-combination (m ∷ ms) (b ∷ bs) (f ∷ fs) a =
      crossed-combination given m (negsuc 0) f (sum ms fs) (sum (m ∷ ms) (f ∷ fs)) (λ c. less m (f c) (sum ms fs c))
      a.0.combination (sum-combination ms bs fs a.1)

  -- a combination without an entry in the basis is 0
  pub basis_free : IsFree given basis
  basis_free e combination none c = go rows.0 rows.1 (depend (last_columns given) (e ∷ rows.0) room) where
    rows : (fs : List (ℕ → ℤ)) × AreOwnRows given basis basis fs × (length fs ≡ length basis)
    rows = own-rows basis (λ b i. i)

    room : length (last_columns given) < suc (length rows.0)
    room = let a = length-map given last_column in let b = rows.2 in let d = is.count in omega arith

    go : (fs : List (ℕ → ℤ)) → AreOwnRows given basis basis fs → Depend (last_columns given) (e ∷ fs) → e c ≡ pos 0
    go fs own d = by d.multipliers d.count d.some d.vanish where
      by : (ms : List ℤ) → length ms ≡ suc (length fs) → HasOther ms
          → ((l : ℕ) → Contains (last_columns given) l → sum ms (e ∷ fs) l ≡ pos 0) → e c ≡ pos 0
      by [] n h v = absurd (omega arith)
      by (m ∷ ms) n h v =
          let whole : (k : ℕ) → sum (m ∷ ms) (e ∷ fs) k ≡ pos 0 =
          free_first given (sum (m ∷ ms) (e ∷ fs))
          (crossed-combination given m (negsuc 0) e (sum ms fs) (sum (m ∷ ms) (e ∷ fs)) (λ c. less m (e c) (sum ms fs c))
          combination (sum-combination ms basis fs own)) v in
          let rest : (b : ℕ) → Contains basis b → sum ms fs b ≡ pos 0 = λ b i.
          let w : m *ℤ e b +ℤ sum ms fs b ≡ pos 0 = whole b in
          let z : m *ℤ e b ≡ pos 0 = ap (λ y. m *ℤ y) (none b i) ∙ *ℤ-zero m in omega (arith, ints) in
          elim (zero-or m) [
            | inl z ↦ absurd (all-zero ms basis fs own (omega arith) is.different (λ b i. i) rest (other z h))
            | inr z ↦ elim (others ms) [
              | inl o ↦ absurd (all-zero ms basis fs own (omega arith) is.different (λ b i. i) rest o)
              | inr o ↦
                  let w : m *ℤ e c +ℤ sum ms fs c ≡ pos 0 = whole c in
                  let s : sum ms fs c ≡ pos 0 = o fs c in
                  product_zero m (e c) z (omega (arith, ints))
            ]
          ] where
            other : m ≡ pos 0 → HasOther (m ∷ ms) → HasOther ms
            other z (inl h) = absurd (h z)
            other z (inr h) = h

            others : (ms : List ℤ) → HasOther ms ⊎ ((fs : List (ℕ → ℤ)) (c : ℕ) → sum ms fs c ≡ pos 0)
            others [] = inr (λ fs c. refl)
            others (m ∷ ms) = elim (zero-or m) [
              | inr n ↦ inl (inl n)
              | inl z ↦ elim (others ms) [
                | inl o ↦ inl (inr o)
                | inr o ↦ inr (λ fs c. nil m ms z o fs c)
              ]
            ] where
              nil : (m : ℤ) (ms : List ℤ) → m ≡ pos 0 → ((fs : List (ℕ → ℤ)) (c : ℕ) → sum ms fs c ≡ pos 0)
                  → (fs : List (ℕ → ℤ)) (c : ℕ) → sum (m ∷ ms) fs c ≡ pos 0
              nil m ms z o [] c = refl
              nil m ms z o (f ∷ fs) c =
                  let a : m *ℤ f c ≡ pos 0 = ap (λ k. k *ℤ f c) z ∙ zero-*ℤ (f c) in
                  let b : sum ms fs c ≡ pos 0 = o fs c in omega (arith, ints)
