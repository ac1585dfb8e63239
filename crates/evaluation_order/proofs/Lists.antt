-- The first element of a list that passes a test, and numbers in lists.
use Rattle.std.proofs.Common.{◌≡◌, ◌∙◌, ℕ, zero, suc, ◌+◌, Bool, true, false, cond, ◌||◌, eqb, List, [], ◌∷◌, ◌++◌, map, flat_map, length, Option, Some, None, option_to_list, slice_get, refl, ap, sym, subst, arith}
use Rattle.std.specs.Prelude.{is_some}
use Rattle.std.specs.List.{position_from}
use Rattle.std.proofs.Math.Logic.{◌⊎◌, inl, inr}
use Rattle.std.proofs.lemmas.Bool.{false≢true, cases_Bool, eqb-true, eq-eqb}
use Rattle.std.proofs.lemmas.Option.{none-some, same_Some}
use Rattle.lus_meaning.specs.Order.{is_listed}
use Rattle.lus_meaning.proofs.Members.{IsIn, in_left, in_right}
use Rattle.clock_laws.proofs.Reaching.{in_either}
use Rattle.number_graphs.specs.Graphs.{Rows, row_at}

-- ---- the first that passes

pub record Found {A : Type 0} (test : A → Bool) (xs : List A) (i k : ℕ) : Type 0 where
  pub index : ℕ
  pub counted : k ≡ i + index
  pub item : A
  pub is_there : slice_get xs index ≡ Some item
  pub passes : test item ≡ true

pub found_at : {A : Type 0} (test : A → Bool) (i : ℕ) (xs : List A) (k : ℕ) → position_from test i xs ≡ Some k → Found test xs i k
found_at test i [] k e = absurd (none-some k e)
found_at {A} test i (x ∷ xs) k e = go (cases_Bool (test x)) (found_at test (i + 1) xs k)
  where
    go : (test x ≡ true) ⊎ (test x ≡ false) → (position_from test (i + 1) xs ≡ Some k → Found test xs (i + 1) k) → Found test (x ∷ xs) i k
    go (inl t) r = record { index = 0; counted = number (same_Some i k (rw t at e)); item = x; is_there = refl; passes = t }
      where
        number : i ≡ k → k ≡ i + 0
        number h = omega (arith, h)
    go (inr f) r =
        let g : Found test xs (i + 1) k = r (rw f at e) in
        let h : k ≡ (i + 1) + g.index = g.counted in
        record { index = suc g.index; counted = omega (arith, h); item = g.item; is_there = g.is_there; passes = g.passes }

pub kept_before : {A : Type 0} (test : A → Bool) (i : ℕ) (xs ys : List A) (k : ℕ) → position_from test i xs ≡ Some k → position_from test i (xs ++ ys) ≡ Some k
kept_before test i [] ys k e = absurd (none-some k e)
kept_before test i (x ∷ xs) ys k e = go (cases_Bool (test x)) (kept_before test (i + 1) xs ys k)
  where
    go : (test x ≡ true) ⊎ (test x ≡ false) → (position_from test (i + 1) xs ≡ Some k → position_from test (i + 1) (xs ++ ys) ≡ Some k)
        → cond (test x) (Some i) (position_from test (i + 1) (xs ++ ys)) ≡ Some k
    go (inl t) r = rw t (rw t at e)
    go (inr f) r = rw f (r (rw f at e))

pub found_last : {A : Type 0} (test : A → Bool) (i : ℕ) (xs : List A) (y : A) → test y ≡ true → is_some (position_from test i (xs ++ y ∷ [])) ≡ true
found_last test i [] y t = rw t refl
found_last test i (x ∷ xs) y t = go (test x) (found_last test (i + 1) xs y t)
  where
    go : (b : Bool) → is_some (position_from test (i + 1) (xs ++ y ∷ [])) ≡ true → is_some (cond b (Some i) (position_from test (i + 1) (xs ++ y ∷ []))) ≡ true
    go true r = refl
    go false r = r

pub some_number : (o : Option ℕ) → is_some o ≡ true → (k : ℕ) × (o ≡ Some k)
some_number None e = absurd (false≢true e)
some_number (Some k) e = (k, refl)

pub number_some : (o : Option ℕ) (k : ℕ) → o ≡ Some k → is_some o ≡ true
number_some o k e = rw e refl

-- ---- numbers in lists

or_cases : (a b : Bool) → (a || b) ≡ true → (a ≡ true) ⊎ (b ≡ true)
or_cases true b e = inl refl
or_cases false b e = inr e

or_left : (a b : Bool) → a ≡ true → (a || b) ≡ true
or_left a b e = rw e refl

or_right : (a b : Bool) → b ≡ true → (a || b) ≡ true
or_right true b e = refl
or_right false b e = e

pub listed_in : (j : ℕ) (ks : List ℕ) → is_listed ks j ≡ true → IsIn j ks
listed_in j [] e = absurd (false≢true e)
listed_in j (k ∷ ks) e = go (or_cases (eqb j k) (is_listed ks j) e) (listed_in j ks)
  where
    go : (eqb j k ≡ true) ⊎ (is_listed ks j ≡ true) → (is_listed ks j ≡ true → IsIn j ks) → (j ≡ k) ⊎ IsIn j ks
    go (inl t) r = inl (eqb-true j k t)
    go (inr h) r = inr (r h)

pub in_listed : (j : ℕ) (ks : List ℕ) → IsIn j ks → is_listed ks j ≡ true
in_listed j [] h = absurd h
in_listed j (k ∷ ks) (inl e) = or_left (eqb j k) (is_listed ks j) (eq-eqb j k e)
in_listed j (k ∷ ks) (inr h) = or_right (eqb j k) (is_listed ks j) (in_listed j ks h)

-- ---- lists of lists

pub in_flat : {A B : Type 0} (f : A → List B) (xs : List A) (y : B) → IsIn y (flat_map f xs) → (x : A) × IsIn x xs × IsIn y (f x)
in_flat f [] y h = absurd h
in_flat {A} {B} f (x ∷ xs) y h = go (in_either y (f x) (flat_map f xs) h) (in_flat f xs y)
  where
    go : IsIn y (f x) ⊎ IsIn y (flat_map f xs) → (IsIn y (flat_map f xs) → (z : A) × IsIn z xs × IsIn y (f z)) → (z : A) × IsIn z (x ∷ xs) × IsIn y (f z)
    go (inl a) r = (x, inl refl, a)
    go (inr b) r = let s : (z : A) × IsIn z xs × IsIn y (f z) = r b in (s.0, inr s.1, s.2)

pub flat_in : {A B : Type 0} (f : A → List B) (xs : List A) (x : A) (y : B) → IsIn x xs → IsIn y (f x) → IsIn y (flat_map f xs)
flat_in f [] x y h a = absurd h
flat_in f (z ∷ xs) x y (inl e) a = in_left y (f z) (flat_map f xs) (subst (λ u. IsIn y (f u)) e a)
flat_in f (z ∷ xs) x y (inr h) a = in_right y (f z) (flat_map f xs) (flat_in f xs x y h a)

pub in_option : {A : Type 0} (o : Option A) (y : A) → IsIn y (option_to_list o) → o ≡ Some y
in_option None y h = absurd h
in_option (Some x) y (inl e) = ap Some (sym e)
in_option (Some x) y (inr h) = absurd h

pub option_in : {A : Type 0} (o : Option A) (y : A) → o ≡ Some y → IsIn y (option_to_list o)
option_in {A} o y e = subst (λ z. IsIn y (option_to_list z)) (sym e) (inl refl)

-- ---- rows by numbers

pub row_before : {A : Type 0} (f : A → List ℕ) (xs : List A) (rows : Rows) (k : ℕ) (x : A) → slice_get xs k ≡ Some x → row_at (map f xs ++ rows) k ≡ f x
row_before f [] rows k x e = absurd (none-some x e)
row_before f (y ∷ xs) rows zero x e = ap f (same_Some y x e)
row_before f (y ∷ xs) rows (suc k) x e = row_before f xs rows k x e

row_here : {A : Type 0} (f : A → List ℕ) (xs : List A) (k : ℕ) (x : A) → slice_get xs k ≡ Some x → row_at (map f xs) k ≡ f x
row_here f [] k x e = absurd (none-some x e)
row_here f (y ∷ xs) zero x e = ap f (same_Some y x e)
row_here f (y ∷ xs) (suc k) x e = row_here f xs k x e

passed : {A : Type 0} (f : A → List ℕ) (xs : List A) (rows : Rows) (k n : ℕ) → n ≡ length xs + k → row_at (map f xs ++ rows) n ≡ row_at rows k
passed f [] rows k n e = ap (row_at rows) (omega (arith, e))
passed f (x ∷ xs) rows k zero e = absurd (omega (arith, e))
passed f (x ∷ xs) rows k (suc n) e = passed f xs rows k n (omega (arith, e))

pub row_behind : {A B : Type 0} (f : A → List ℕ) (g : B → List ℕ) (xs : List A) (ys : List B) (k : ℕ) (y : B) → slice_get ys k ≡ Some y →
    row_at (map f xs ++ map g ys) (length xs + k) ≡ g y
row_behind f g xs ys k y e = passed f xs (map g ys) k (length xs + k) refl ∙ row_here g ys k y e
