-- A split list takes room: each of its pairs has a place of its own below the sum of the rooms.
use Rattle.std.specs.Prelude.{ℕ, zero, suc, ◌≡◌, ◌≢◌, ◌==◌, ◌+◌, ◌<◌, ◌≤◌, Bool, true, false, cond, ◌||◌, List, [], ◌∷◌, ◌++◌, length, Contains, map, Some, slice_get, refl}
use Rattle.std.specs.List.{IsDistinct, AllByRecursion, list_any}
use Rattle.std.proofs.Common.{sym, ◌∙◌, ap, subst, arith}
use Rattle.std.proofs.lemmas.Bool.Decides.{nat_tests}
use Rattle.std.proofs.lemmas.List.{length-map, length-append}
use Rattle.std.proofs.lemmas.List.Elements.{Contains-append_left, Contains-push}
use Rattle.std.proofs.lemmas.Map.Steps.{length-le_from_distinct_below}
use Rattle.std.proofs.lemmas.Int.{ints}
use lib.Dec.{eqb}
use lib.IntN.{ℤ, pos, negsuc, ◌+ℤ◌, ◌-ℤ◌}
use lib.Signed.{◌≤ℤ◌}
use Rattle.kind_num.specs.declared.Shape.{Shape}
use Rattle.kind_num.specs.declared.Shape.TheVariants.{Flag, Number}
use Rattle.proof_steps.specs.Rows.{Form}
use Rattle.proof_steps.specs.declared.stops.Budgets.{Budgets}
use Rattle.proof_steps.specs.Bounds.{split_atom}
use Rattle.proof_steps.specs.Splits.{IsSplit, AreSplits, AreSplitsAfter}
use Rattle.sat_core.specs.Few.{NewOnesAreFew, variable_count}
use Rattle.smt_solver.proofs.NeedRoom.{power-grows}
use Rattle.smt_solver.specs.NeedRoom.{BudgetsSuffice}
use Rattle.smt_solver.specs.Room.{HasRanges, rooms_from, room, size_of, rooms}

size-is : (z : ℤ) → pos 0 ≤ℤ z → pos (size_of z) ≡ z
size-is (pos n) h = refl
size-is (negsuc n) h = absurd (omega (arith, ints))

pos-is : (m n : ℕ) → pos m ≡ pos n → m ≡ n
pos-is m n e = cc

size-below : (low c high : ℤ) → low ≤ℤ c → (c +ℤ pos 1) ≤ℤ high → size_of (c -ℤ low) < room low high
size-below low c high a b =
    let e : pos (size_of (c -ℤ low)) ≡ c -ℤ low = size-is (c -ℤ low) (omega (arith, ints)) in
    let g : pos (size_of (high -ℤ low)) ≡ high -ℤ low = size-is (high -ℤ low) (omega (arith, ints)) in
    omega (arith, ints)

size-same : (low c d : ℤ) → low ≤ℤ c → low ≤ℤ d → size_of (c -ℤ low) ≡ size_of (d -ℤ low) → c ≡ d
size-same low c d a b h =
    let e : pos (size_of (c -ℤ low)) ≡ c -ℤ low = size-is (c -ℤ low) (omega (arith, ints)) in
    let g : pos (size_of (d -ℤ low)) ≡ d -ℤ low = size-is (d -ℤ low) (omega (arith, ints)) in
    let k : pos (size_of (c -ℤ low)) ≡ pos (size_of (d -ℤ low)) = ap pos h in omega (arith, ints)

same : (x y : ℕ) → x ≡ y → (x == y) ≡ true
same x y e = grind (arith, nat_tests)

other : (x y : ℕ) → x ≢ y → (x == y) ≡ false
other x y n = grind (arith, nat_tests)

module _ (low high : ℕ → ℤ) where
  -- the place of (x, c), where the first shape is that of variable n
  place : ℕ → List Shape → ℕ → ℤ → ℕ
  place n [] x c = 0
  place n (Flag ∷ rest) x c = place (suc n) rest x c
  place n (Number ∷ rest) x c = cond (n == x) (size_of (c -ℤ low n)) (room (low n) (high n) + place (suc n) rest x c)

  place-here : (n x : ℕ) (c : ℤ) (rest : List Shape) → n ≡ x → place n (Number ∷ rest) x c ≡ size_of (c -ℤ low n)
  unfolding place
  place-here n x c rest e = ap (λ b. cond b (size_of (c -ℤ low n)) (room (low n) (high n) + place (suc n) rest x c)) (same n x e)

  place-there : (n x : ℕ) (c : ℤ) (rest : List Shape) → n ≢ x → place n (Number ∷ rest) x c ≡ room (low n) (high n) + place (suc n) rest x c
  unfolding place
  place-there n x c rest e = ap (λ b. cond b (size_of (c -ℤ low n)) (room (low n) (high n) + place (suc n) rest x c)) (other n x e)

  record IsInRange (x : ℕ) (c : ℤ) : Type 0 where
    pub from : low x ≤ℤ c
    pub to : (c +ℤ pos 1) ≤ℤ high x

  below : (n : ℕ) (shapes : List Shape) (k x : ℕ) (c : ℤ) → x ≡ n + k → slice_get shapes k ≡ Some Number → IsInRange x c
      → place n shapes x c < rooms_from n shapes low high
  unfolding place
  below n [] k x c e s r = absurd cc
  below n (Flag ∷ rest) zero x c e s r = absurd cc
  below n (Flag ∷ rest) (suc k) x c e s r = below (suc n) rest k x c (omega arith) s r
  below n (Number ∷ rest) zero x c e s r =
      let q : n ≡ x = omega arith in
      let p = place-here n x c rest q in
      let b : size_of (c -ℤ low n) < room (low n) (high n) =
      size-below (low n) c (high n) (subst (λ y. low y ≤ℤ c) (sym q) r.from) (subst (λ y. (c +ℤ pos 1) ≤ℤ high y) (sym q) r.to) in
      omega arith
  below n (Number ∷ rest) (suc k) x c e s r =
      let p = place-there n x c rest (λ q. omega arith) in
      let b = below (suc n) rest k x c (omega arith) s r in omega arith

  apart : (n : ℕ) (shapes : List Shape) (k x : ℕ) (c : ℤ) (l y : ℕ) (d : ℤ) → x ≡ n + k → slice_get shapes k ≡ Some Number → IsInRange x c
      → y ≡ n + l → slice_get shapes l ≡ Some Number → IsInRange y d → place n shapes x c ≡ place n shapes y d → (x ≡ y) × (c ≡ d)
  unfolding place
  apart n [] k x c l y d e s r f t u h = absurd cc
  apart n (Flag ∷ rest) zero x c l y d e s r f t u h = absurd cc
  apart n (Flag ∷ rest) (suc k) x c zero y d e s r f t u h = absurd cc
  apart n (Flag ∷ rest) (suc k) x c (suc l) y d e s r f t u h = apart (suc n) rest k x c l y d (omega arith) s r (omega arith) t u h
  apart n (Number ∷ rest) zero x c zero y d e s r f t u h =
      let q : n ≡ x = omega arith in let v : n ≡ y = omega arith in (
        omega arith,
        size-same (low n) c d (subst (λ z. low z ≤ℤ c) (sym q) r.from) (subst (λ z. low z ≤ℤ d) (sym v) u.from)
            (sym (place-here n x c rest q) ∙ h ∙ place-here n y d rest v),
      )
  apart n (Number ∷ rest) zero x c (suc l) y d e s r f t u h =
      let q : n ≡ x = omega arith in
      let p = place-here n x c rest q in
      let w = place-there n y d rest (λ q. omega arith) in
      let b : size_of (c -ℤ low n) < room (low n) (high n) =
      size-below (low n) c (high n) (subst (λ z. low z ≤ℤ c) (sym q) r.from) (subst (λ z. (c +ℤ pos 1) ≤ℤ high z) (sym q) r.to) in
      absurd (omega arith)
  apart n (Number ∷ rest) (suc k) x c zero y d e s r f t u h =
      let q : n ≡ y = omega arith in
      let p = place-here n y d rest q in
      let w = place-there n x c rest (λ q. omega arith) in
      let b : size_of (d -ℤ low n) < room (low n) (high n) =
      size-below (low n) d (high n) (subst (λ z. low z ≤ℤ d) (sym q) u.from) (subst (λ z. (d +ℤ pos 1) ≤ℤ high z) (sym q) u.to) in
      absurd (omega arith)
  apart n (Number ∷ rest) (suc k) x c (suc l) y d e s r f t u h =
      let p = place-there n x c rest (λ q. omega arith) in
      let w = place-there n y d rest (λ q. omega arith) in
      apart (suc n) rest k x c l y d (omega arith) s r (omega arith) t u (omega arith)

module _ (f : Form) (low high : ℕ → ℤ) (h : HasRanges f low high) where
  spot : ℕ × ℤ → ℕ
  spot p = place low high 0 f.shapes p.0 p.1

  in-range : (earlier : List (ℕ × ℤ)) (x : ℕ) (c : ℤ) → IsSplit f earlier x c → IsInRange low high x c
  in-range earlier x c s =
      let i = s.inside (low x) (high x) (h.given x s.number) in record { from = i.0; to = i.1 }

  pair-in : (earlier : List (ℕ × ℤ)) (x y : ℕ) (c d : ℤ) → x ≡ y → c ≡ d → Contains earlier (x, c) → Contains earlier (y, d)
  pair-in earlier x y c d e g k = subst (λ z. Contains earlier (y, z)) g (subst (λ z. Contains earlier (z, c)) e k)

  -- whatever comes after (x, c) has another spot
  others : (first : List (ℕ × ℤ)) (x : ℕ) (c : ℤ) → IsSplit f first x c → (earlier pairs : List (ℕ × ℤ)) → Contains earlier (x, c) → AreSplitsAfter f earlier pairs
      → AllByRecursion (λ n. eqb (spot (x, c)) n ≡ false) (map spot pairs)
  unfolding spot
  others first x c s earlier [] k a = tt
  others first x c s earlier ((y, d) ∷ rest) k a = (
    differ (spot (x, c)) (spot (y, d)) (λ e.
        let z = apart low high 0 f.shapes x x c y y d (omega arith) s.number (in-range first x c s)
        (omega arith) a.0.number (in-range earlier y d a.0) e in
        a.0.fresh (pair-in earlier x y c d z.0 z.1 k)),
    others first x c s (earlier ++ (y, d) ∷ []) rest (Contains-append_left earlier ((y, d) ∷ []) (x, c) k) a.1,
  ) where
    differ : (m n : ℕ) → m ≢ n → eqb m n ≡ false
    differ m n e = grind (arith, nat_tests)

  distinct : (earlier pairs : List (ℕ × ℤ)) → AreSplitsAfter f earlier pairs → IsDistinct eqb (map spot pairs)
  unfolding spot IsDistinct
  distinct earlier [] a = tt
  distinct earlier ((x, c) ∷ rest) a =
      (others earlier x c a.0 (earlier ++ (x, c) ∷ []) rest (Contains-push earlier (x, c)) a.1, distinct (earlier ++ (x, c) ∷ []) rest a.1)

  in-room : (earlier pairs : List (ℕ × ℤ)) → AreSplitsAfter f earlier pairs → (q : ℕ) → list_any (eqb q) (map spot pairs) ≡ true → q < rooms f low high
  unfolding spot
  in-room earlier [] a q e = absurd cc
  in-room earlier ((x, c) ∷ rest) a q e =
      by_cases q (spot (x, c)) (list_any (eqb q) (map spot rest)) e
      (let b : spot (x, c) < rooms f low high = below low high 0 f.shapes x x c (omega arith) a.0.number (in-range earlier x c a.0) in b)
      (λ m. in-room (earlier ++ (x, c) ∷ []) rest a.1 q m) where
        by_cases : (q s : ℕ) (b : Bool) → (eqb q s || b) ≡ true → s < rooms f low high → (b ≡ true → q < rooms f low high) → q < rooms f low high
        by_cases q s b e h r = go (eqb q s) refl where
          go : (t : Bool) → eqb q s ≡ t → q < rooms f low high
          go true u = let v : q ≡ s = grind (arith, nat_tests) in omega arith
          go false u = r (ap (λ t. t || b) (sym u) ∙ e)

  pub splits_take_room : (pairs : List (ℕ × ℤ)) → AreSplits f pairs → length pairs ≤ rooms f low high
  splits_take_room pairs a =
      let l = length-le_from_distinct_below (map spot pairs) (rooms f low high) (distinct [] pairs a) (in-room [] pairs a) in
      let m = length-map pairs spot in omega arith

  count : (pairs : List (ℕ × ℤ)) → AreSplits f pairs → variable_count f pairs ≤ variable_count f [] + rooms f low high
  count pairs a =
      let r = splits_take_room pairs a in
      let m = length-map pairs split_atom in
      let e = length-append f.atoms (map split_atom pairs) in
      let n = length-append f.atoms [] in
      omega arith

  pub suffice : NewOnesAreFew → (budgets : Budgets) → BudgetsSuffice f low high budgets
  suffice new budgets = record {
    splits_suffice = λ b pairs t. let r = splits_take_room pairs t.0 in let e = t.1 in omega arith;
    conflicts_suffice = λ b clauses pairs t.
        let n = new f pairs f.clauses clauses t.2 in
        let p = power-grows (variable_count f pairs) (variable_count f [] + rooms f low high) (count pairs t.0) in
        let e = t.1 in
        omega arith;
  }
