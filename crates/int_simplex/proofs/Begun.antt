-- A new tableau.
use Rattle.std.specs.Prelude.{ℕ, zero, suc, ◌≡◌, ◌==◌, ◌<◌, Bool, true, false, cond, List, [], ◌∷◌, ◌++◌, ◌+◌, length, All, Contains, Some, None, slice_get, replicate}
use Rattle.std.proofs.Common.{sym, ◌∙◌, ap, subst, arith, refl}
use Rattle.std.proofs.lemmas.List.{length-map}
use Rattle.std.proofs.lemmas.List.Elements.{All-nil}
use Rattle.std.proofs.lemmas.Int.{ints}
use Rattle.std.proofs.Math.Nat.{eq-one_of_dvd-one}
use Rattle.std.proofs.Math.Path.{fun_ext}
use lib.IntN.{ℤ, pos, negsuc, ◌+ℤ◌, ◌*ℤ◌, *ℤ-zero}
use Rattle.proof_steps.specs.Rows.{entry, combined, rest_below}
use Rattle.int_simplex.specs.State.{Standing, State, places_of}
use Rattle.int_simplex.specs.Given.{AreGiven, last_column, last_columns}
use Rattle.int_simplex.specs.Points.{IsFraction}
use Rattle.int_simplex.specs.Sound.{IsSound, IsValueOf}
use Rattle.int_simplex.specs.Inner.{IsRowAt, AreRows, AreLimits, AreBefore, IsWithinColumns, read_off}
use Rattle.int_simplex.specs.declared.table.Asserted.{Asserted}
use Rattle.int_simplex.specs.Making.{AreSorted}
use Rattle.int_simplex.proofs.Places.{at_listed}
use Rattle.int_simplex.proofs.Combos.{row_at_is}
use Rattle.int_simplex.proofs.First.{row_first, place-of}
use Rattle.int_simplex.proofs.Apart.{end-at}
use Rattle.int_simplex.proofs.Opposites.{first_basis}
use Rattle.int_simplex.proofs.Turned.{there}

pub length_same : {X : Type 0} (n : ℕ) (x : X) → length (replicate n x) ≡ n
length_same zero x = refl
length_same (suc n) x = ap suc (length_same n x)

pub in_same : {X : Type 0} (n k : ℕ) (x : X) → k < n → slice_get (replicate n x) k ≡ Some x
in_same zero k x h = absurd (omega arith)
in_same (suc n) zero x h = refl
in_same (suc n) (suc k) x h = in_same n k x (omega arith)

of-same : {X : Type 0} (n k : ℕ) (x y : X) → slice_get (replicate n x) k ≡ Some y → x ≡ y
of-same zero k x y e = absurd cc
of-same (suc n) zero x y e = by x y e where
  by : {X : Type 0} (x y : X) → Some x ≡ Some y → x ≡ y
  by x y e = cc
of-same (suc n) (suc k) x y e = of-same n k x y e

all-same : {X : Type 0} (P : X → Type 0) (n : ℕ) (x : X) → P x → All P (replicate n x)
all-same P zero x p k d h = absurd (omega arith)
all-same P (suc n) x p zero d h = p
all-same P (suc n) x p (suc k) d h = all-same P n x p k d (omega arith)

pub zeros : (n c : ℕ) → places_of (replicate n (pos 0, pos 1)) c ≡ pos 0
zeros zero c = refl
zeros (suc n) zero = refl
zeros (suc n) (suc c) = zeros n c

pub rest-zero : (f p : ℕ → ℤ) (x : ℕ) → ((c : ℕ) → p c ≡ pos 0) → (n : ℕ) → rest_below f p x n ≡ pos 0
rest-zero f p x h zero = refl
rest-zero f p x h (suc n) = by (n == x) (f n) (p n) (rest_below f p x n) (h n) (rest-zero f p x h n) where
  by : (b : Bool) (a v s : ℤ) → v ≡ pos 0 → s ≡ pos 0 → cond b s (a *ℤ v +ℤ s) ≡ pos 0
  by true a v s e q = q
  by false a v s e q = let z : a *ℤ v ≡ pos 0 = ap (λ w. a *ℤ w) e ∙ *ℤ-zero a in omega (arith, ints)

pub no_limits : (columns : ℕ) (side : Bool) → AreLimits columns side [] (replicate columns None)
no_limits columns side = record { count = length_same columns None; each = λ c h. in_same columns c None h }

module _ (given : List (List (ℕ × ℤ))) (columns : ℕ) (g : AreGiven given columns) where
  abbrev start : State
  start = record { given = given; columns = columns; basis = last_columns given; values = replicate columns (pos 0, pos 1); bounds = []; usable = true }

  first-value : (x : ℕ) (v : ℤ × ℤ) → Contains (last_columns given) x → slice_get (replicate columns (pos 0, pos 1)) x ≡ Some v
      → IsValueOf record {
        given = given;
        columns = columns;
        basis = last_columns given;
        values = replicate columns
            (pos 0, pos 1);
        bounds = [];
        usable = true;
      } x v
  first-value x v i e =
      let k = at_listed (last_columns given) x i in
      let s = place-of given k.0 x k.1 in
      let P : ℕ → Type 0 = λ y. IsRowAt given (last_columns given) y (entry s.0) in
      let r = subst P s.2 (row_first given columns k.0 s.0 g s.1) in
      let q = of-same columns x (pos 0, pos 1) v e in
      let o : entry s.0 x ≡ negsuc 0 = ap (entry s.0) (sym s.2) ∙ end-at given k.0 s.0 g.ends s.1 in
      record {
        multipliers = read_off (entry s.0) given;
        top = pos 0;
        bottom = pos 1;
        value = record {
          row = row_at_is given (last_columns given) x (entry s.0) i r;
          positive = omega (arith, ints);
          denominator = sym (r.combination x) ∙ o;
          numerator = rest-zero (combined (read_off (entry s.0) given) given) (places_of (replicate columns (pos 0, pos 1))) x (zeros columns) columns;
        };
        same = let Q : ℤ × ℤ → Type 0 = λ w. pos 0 *ℤ w.1 ≡ w.0 *ℤ pos 1 in subst Q q refl;
      }

  pub begun_sound : IsSound record {
    given = given;
    columns = columns;
    basis = last_columns given;
    values = replicate columns
        (pos 0, pos 1);
    bounds = [];
    usable = true;
  }
  begun_sound = record {
    given = g;
    basis = first_basis given columns g;
    count = length_same columns (pos 0, pos 1);
    fractions = all-same IsFraction columns (pos 0, pos 1) record { positive = omega (arith, ints); lowest = λ m a b. eq-one_of_dvd-one b };
    outside = λ c v n e. ap (λ (w : ℤ × ℤ). w.1) (sym (of-same columns c (pos 0, pos 1) v e));
    inside = first-value;
    of_columns = All-nil (λ (b : Standing). b.column < columns);
    uncrossed = λ low high i. absurd (none low i);
  } where
    none : (b : Standing) → Contains {X = Standing} [] b → ⊥
    none b (k, h, e) = absurd (omega arith)

  pub begun_rows : (rows : List (List (ℕ × ℤ))) → AreSorted columns given rows → AreRows given columns (last_columns given) rows
  begun_rows rows a = record {
    count = a.count ∙ sym (length-map given last_column);
    sparse = λ k r e. let h = there given rows [] k r a.count e in (a.each k h.0 r h.1 e).sparse;
    each = λ k x r ex e.
        let s = place-of given k x ex in
        let w = (a.each k s.0 r s.1 e).same in
        let P : (ℕ → ℤ) → Type 0 = λ f. IsRowAt given (last_columns given) x f in
        let Q : ℕ → Type 0 = λ y. IsRowAt given (last_columns given) y (entry s.0) in
        subst P (sym (fun_ext w)) (subst Q s.2 (row_first given columns k s.0 g s.1));
  }

pub one_more_same : {X : Type 0} (n : ℕ) (x : X) → replicate n x ++ x ∷ [] ≡ replicate (n + 1) x
one_more_same zero x = refl
one_more_same (suc n) x =
    let e : suc n + 1 ≡ suc (n + 1) = omega arith in
    ap (λ z. x ∷ z) (one_more_same n x) ∙ ap (λ k. replicate k x) (sym e)

pub sound_parts : (given given1 : List (List (ℕ × ℤ))) (columns : ℕ) (basis basis1 : List ℕ) (values values1 : List (ℤ × ℤ)) (bounds bounds1 : List Standing)
    → given ≡ given1 → basis ≡ basis1 → values ≡ values1 → bounds ≡ bounds1
    → IsSound record { given = given; columns = columns; basis = basis; values = values; bounds = bounds; usable = true }
    → IsSound record { given = given1; columns = columns; basis = basis1; values = values1; bounds = bounds1; usable = true }
sound_parts given given1 columns basis basis1 values values1 bounds bounds1 a b c d h =
    let A : List (List (ℕ × ℤ)) → Type 0 = λ x. IsSound record {
      given = x;
      columns = columns;
      basis = basis;
      values = values;
      bounds =
          bounds;
      usable = true;
    } in
    let B : List ℕ → Type 0 = λ x. IsSound record { given = given1; columns = columns; basis = x; values = values; bounds = bounds; usable = true } in
    let C : List (ℤ × ℤ) → Type 0 = λ x. IsSound record { given = given1; columns = columns; basis = basis1; values = x; bounds = bounds; usable = true } in
    let D : List Standing → Type 0 = λ x. IsSound record { given = given1; columns = columns; basis = basis1; values = values1; bounds = x; usable = true } in
    subst D d (subst C c (subst B b (subst A a h)))

pub same_pair : (y : ℤ × ℤ) → y.0 ≡ pos 0 → y.1 ≡ pos 1 → y ≡ (pos 0, pos 1)
same_pair (a, b) e f = ap (λ (z : ℤ). (z, b)) e ∙ ap (λ (z : ℤ). (pos 0, z)) f

pub none_before : AreBefore []
none_before = λ k a e. absurd (none k a e) where
  none : (k : ℕ) (a : Asserted) → slice_get {X = Asserted} [] k ≡ Some a → ⊥
  none k a e = absurd cc

pub none_within : (columns : ℕ) → IsWithinColumns columns []
none_within columns = All-nil (λ (a : Asserted). a.column < columns)
