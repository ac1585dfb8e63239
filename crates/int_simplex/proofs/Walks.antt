-- Runs of Bland's rule, pivot after pivot.
use Prim.Native.Nat.{◌∣◌}
use Rattle.std.specs.Prelude.{ℕ, zero, suc, ◌≡◌, ◌≢◌, ◌==◌, ◌<◌, ◌≤◌, ◌+◌, ◌-◌, Bool, true, false, cond, List, [], ◌∷◌, length, map, All, Option, Some, Result, Ok, Err, IfErr, IsErrAnd, slice_set, unsigned_abs}
use Rattle.std.proofs.lemmas.List.Elements.{All-cons}
use Rattle.std.proofs.lemmas.Int.{ints}
use Rattle.std.proofs.Common.{sym, ◌∙◌, ap, subst, arith, refl, inl, inr}
use lib.IntN.{ℤ, pos, negsuc, neg_ℤ}
use lib.Signed.{◌≤ℤ◌}
use Rattle.proof_steps.specs.Rows.{combined}
use Rattle.proof_steps.specs.Pivots.{Position, Pivots, CanPivot, HasRoom, lower, upper, exchanged}
use Rattle.int_simplex.specs.State.{Standing, plain}
use Rattle.int_simplex.specs.Given.{last_column}
use Rattle.int_simplex.specs.Inner.{IsFree, read_off}
use Rattle.int_simplex.specs.Leads.{LeadsTo}
use Rattle.int_simplex.specs.Running.{at, IsMove, ArePlacesOf, AreLimitsOf, IsStopped}
use Rattle.int_simplex.specs.Valued.{place_at}
use Rattle.int_simplex.specs.declared.choosing.Exit.{Exit}
use Rattle.int_simplex.specs.declared.moving.Move.{Move}
use Rattle.int_simplex.specs.declared.moving.Move.TheVariants as m
use Rattle.int_simplex.specs.declared.trouble.Stopped.{Stopped}
use Rattle.int_simplex.proofs.Sparse.{is_same, is_other}
use Rattle.int_simplex.proofs.Turns.{set_place_same, set_place_other}
use Rattle.int_simplex.proofs.Apart.{AreApart, made_combination, read_off_is}
use Rattle.int_simplex.proofs.Free.{free_after}
use Rattle.int_simplex.proofs.Once.{once}

-- so many pivots are left of the budget
pub record IsOnWay (given : List (List (ℕ × ℤ))) (columns : ℕ) (bounds : List Standing) (budget left : ℕ) (start s : Position) : Type 0 where
  pub made : ℕ
  pub sum : made + left ≡ budget
  pub leads : LeadsTo given columns (map plain bounds) made start s

abs-neg : (z : ℤ) → unsigned_abs (neg_ℤ z) ≡ unsigned_abs z
abs-neg (pos zero) = refl
abs-neg (pos (suc n)) = refl
abs-neg (negsuc n) = refl

divides-all : (d : ℕ) (e : ℕ → ℤ) (rows : List (List (ℕ × ℤ))) → ((c : ℕ) → d ∣ unsigned_abs (e c)) → All (λ m. d ∣ unsigned_abs m) (read_off e rows)
divides-all d e [] h = λ k x l. absurd (omega arith)
divides-all d e (r ∷ rows) h = All-cons (λ m. d ∣ unsigned_abs m) (neg_ℤ (e (last_column r))) (read_off e rows)
    (let P : ℕ → Type 0 = λ n. d ∣ n in subst P (sym (abs-neg (e (last_column r)))) (h (last_column r))) (divides-all d e rows h)

module _ (given : List (List (ℕ × ℤ))) (columns : ℕ) (bounds : List (ℕ × Bool × ℤ)) where
  pub one_more : (n : ℕ) (s t u : Position) → LeadsTo given columns bounds n s t → Pivots given columns bounds t u → LeadsTo given columns bounds (suc n) s u
  one_more zero s t u e p = (u, (let P : Position → Type 0 = λ v. Pivots given columns bounds v u in subst P (sym e) p), refl)
  one_more (suc n) s t u (v, p, r) q = (v, p, one_more n v t u r q)

  pub then_pivot : (n : ℕ) (s t u : Position) → LeadsTo given columns bounds n s t → Pivots given columns bounds t u → CanPivot given columns bounds (suc n) s
  then_pivot zero s t u e p = (u, (let P : Position → Type 0 = λ v. Pivots given columns bounds v u in subst P (sym e) p), tt)
  then_pivot (suc n) s t u (v, p, r) q = (v, p, then_pivot n v t u r q)

  room-entry : (s : Position) (side : Bool) (e : ℤ) (c : ℕ) → HasRoom bounds s side e c → e ≢ pos 0
  room-entry s true e c (inl (l, r)) q = absurd (omega (arith, ints))
  room-entry s true e c (inr (l, r)) q = absurd (omega (arith, ints))
  room-entry s false e c (inl (l, r)) q = absurd (omega (arith, ints))
  room-entry s false e c (inr (l, r)) q = absurd (omega (arith, ints))

  -- a pivot keeps a free basis free
  pub free_pivot : (s t : Position) → AreApart given → IsFree given s.basis → Pivots given columns bounds s t → IsFree given t.basis
  free_pivot s t a f p =
      let ms = p.multipliers in let r = p.misses.value.row in
      let cm = made_combination given ms a r.multipliers in
      let P : List ℕ → Type 0 = λ b. IsFree given b in
      subst P (sym p.basis) (free_after given s.basis p.leaving p.entering (combined ms given) r.in_basis f record {
        combination = cm;
        has_entry = r.has_entry;
        alone = r.alone;
        coprime = λ d h. r.coprime d
            (let Q : List ℤ → Type 0 = λ xs. All (λ m. d ∣ unsigned_abs m) xs in subst Q (read_off_is ms given a r.multipliers)
            (divides-all d (combined ms given) given h)) h;
      } (room-entry s p.side (combined ms given p.entering) p.entering p.enters.room))

  -- where no pivot is made at the end of a run, no run from its start is longer
  pub run_ends : (n : ℕ) (s t : Position) → AreApart given → IsFree given s.basis
      → ((x : ℕ) (l u : ℤ) → lower bounds x ≡ Some l → upper bounds x ≡ Some u → l ≤ℤ u)
      → LeadsTo given columns bounds n s t → ((u : Position) → Pivots given columns bounds t u → ⊥) → CanPivot given columns bounds (suc n) s → ⊥
  run_ends zero s t a f un e h (u, p, r) = h u (let P : Position → Type 0 = λ v. Pivots given columns bounds v u in subst P e p)
  run_ends (suc n) s t a f un (v, p, r) h (u, q, w) =
      let e : v ≡ u = once given columns bounds s a f un v u p q in
      let P : Position → Type 0 = λ z. CanPivot given columns bounds (suc n) z in
      run_ends n v t a (free_pivot s v a f p) un r h (subst P (sym e) w)

  -- a longer run has each shorter one
  pub shorter : (m n : ℕ) (s : Position) → m ≤ n → CanPivot given columns bounds n s → CanPivot given columns bounds m s
  shorter zero n s h c = tt
  shorter (suc m) zero s h c = absurd (omega arith)
  shorter (suc m) (suc n) s h (t, p, r) = (t, p, shorter m n t (omega arith) r)

-- a move by its parts
pub move_at : (given : List (List (ℕ × ℤ))) (n : ℕ) (bounds : List Standing) (b b1 : List ℕ) (ps ps1 : List ℤ) (v : Move) → b ≡ b1 → ps ≡ ps1
    → IsMove given n bounds (at b ps) v → IsMove given n bounds (at b1 ps1) v
move_at given n bounds b b1 ps ps1 v e f h =
    let P : List ℕ → Type 0 = λ x. IsMove given n bounds (at x ps) v in
    let Q : List ℤ → Type 0 = λ x. IsMove given n bounds (at b1 x) v in
    subst Q f (subst P e h)

pub long_at : (given : List (List (ℕ × ℤ))) (n : ℕ) (bounds : List Standing) (budget left : ℕ) (start s : Position) (l : Exit) (c : ℕ) → left ≡ 0
    → IsOnWay given n bounds budget left start s → IsMove given n bounds s (m.Pivot l c) → CanPivot given n (map plain bounds) (suc budget) start
long_at given n bounds budget left start s l c z w h =
    let t : Position = record { basis = map (exchanged l.column c) s.basis; places = λ k. cond (k == l.column) l.limit (s.places k) } in
    let p = h t refl (ap (λ b. cond b l.limit (s.places l.column)) (is_same l.column)) (λ k d. ap (λ b. cond b l.limit (s.places k)) (is_other k l.column d)) in
    let q = w.sum in
    let P : ℕ → Type 0 = λ k. CanPivot given n (map plain bounds) (suc k) start in
    subst P (let e : w.made ≡ budget = omega arith in e) (then_pivot given n (map plain bounds) w.made start s t w.leads p)

pub step_at : (given : List (List (ℕ × ℤ))) (n : ℕ) (bounds : List Standing) (budget left : ℕ) (start : Position) (b b1 : List ℕ)
    (ps ps1 : List ℤ) (l : Exit) (c : ℕ) → (left ≡ 0 → ⊥)
    → b1 ≡ map (exchanged l.column c) b → ps1 ≡ slice_set ps l.column l.limit → l.column < length ps
    → IsOnWay given n bounds budget left start (at b ps) → IsMove given n bounds (at b ps) (m.Pivot l c) → IsOnWay given n bounds budget
    (left - 1) start (at b1 ps1)
step_at given n bounds budget left start b b1 ps ps1 l c z eb ep h w v =
    let p = v (at b1 ps1) eb (ap (λ (x : List ℤ). place_at x l.column) ep ∙ set_place_same ps l.column l.limit h)
    (λ k d. ap (λ (x : List ℤ). place_at x k) ep ∙ set_place_other ps l.column k l.limit d) in
    let q = w.sum in
    let y : 0 < left = positive left z in
    record {
      made = suc w.made;
      sum = omega arith;
      leads = one_more given n (map plain bounds) w.made start (at b ps) (at b1 ps1) w.leads p;
    } where
      positive : (k : ℕ) → (k ≡ 0 → ⊥) → 0 < k
      positive zero f = absurd (f refl)
      positive (suc k) f = omega arith

-- what stops a run
pub free_error : (given : List (List (ℕ × ℤ))) (n : ℕ) (places : List ℤ) (lowers uppers : List (Option (ℤ × ℕ))) (e : Stopped) {R : Type 0}
    (o : Result R Stopped)
    → ((numbers : List ℤ) → ArePlacesOf numbers places → AreLimitsOf numbers lowers uppers → IsStopped given n numbers e) → IsErrAnd o (λ z. z ≡ e)
    → IfErr o (λ z. (numbers : List ℤ) → ArePlacesOf numbers places → AreLimitsOf numbers lowers uppers → IsStopped given n numbers z)
free_error given n places lowers uppers e (Ok v) f q = tt
free_error given n places lowers uppers e (Err z) f q = λ numbers a l. subst (λ (w : Stopped). IsStopped given n numbers w) (sym q) (f numbers a l)
