-- Fields after a pivot.
use Rattle.std.specs.Prelude.{ℕ, zero, suc, ◌≡◌, ◌≢◌, ◌==◌, ◌<◌, List, [], ◌∷◌, length, map, All, Contains, Some, Result, Ok, Err, IfErr, IsErrAnd, slice_get, slice_set}
use Rattle.std.proofs.Common.{sym, ◌∙◌, ap, subst, arith, refl, inl, inr, get_or}
use Rattle.std.proofs.lemmas.List.{length-map}
use Rattle.std.proofs.lemmas.Option.{slice_get_within, slice_get-get_or, get_or_from_slice_get}
use lib.IntN.{ℤ, pos}
use Rattle.proof_steps.specs.Rows.{entry, AllDiffer}
use Rattle.proof_steps.specs.Pivots.{exchanged}
use Rattle.int_simplex.specs.Pivoting.{AreNext}
use Rattle.int_simplex.specs.Valued.{place_at, place_of}
use Rattle.int_simplex.specs.Running.{IsReady, IsCrossing, ArePlacesOf, IsStopped}
use Rattle.int_simplex.specs.declared.choosing.Exit.{Exit}
use Rattle.int_simplex.specs.declared.trouble.Stopped.{Stopped}
use Rattle.int_simplex.proofs.Places.{same_some, listed_at, at_listed}
use Rattle.int_simplex.proofs.Pivoted.{after_at, exchanged-cases}
use Rattle.int_simplex.proofs.Free.{free_after}
use Rattle.int_simplex.proofs.Turned.{place_once, stays, goes, rows_after}
use Rattle.int_simplex.proofs.Nexts.{set_same, set_other}
use Rattle.int_simplex.proofs.Stops.{turn_result, values_result}
use Rattle.int_simplex.specs.Pivoting.{IsTurnPast}
use Rattle.int_simplex.specs.Valued.{IsValuesPast}
use Rattle.int_simplex.proofs.Sparse.{by_test, same_if, other_if}

-- the entering column at the leaving one's place
same-list : (x c : ℕ) (basis : List ℕ) → (Contains basis x → ⊥) → map (exchanged x c) basis ≡ basis
same-list x c [] n = refl
same-list x c (b ∷ basis) n =
    ap (λ z. z ∷ map (exchanged x c) basis) (stays x c b (λ e. n (0, omega arith, e)))
    ∙ ap (λ z. b ∷ z) (same-list x c basis (λ i. n (suc i.0, (let h = i.1 in omega arith), i.2)))

pub set_exchanged : (basis : List ℕ) (k x c : ℕ) → AllDiffer basis → slice_get basis k ≡ Some x → slice_set basis k c ≡ map (exchanged x c) basis
set_exchanged [] k x c d e = absurd cc
set_exchanged (b ∷ basis) zero x c d e =
    let q : b ≡ x = same_some b x e in
    ap (λ z. c ∷ z) (sym (same-list x c basis (λ i. d.0 (let P : ℕ → Type 0 = λ z. Contains basis z in subst P (sym q) i))))
    ∙ ap (λ z. z ∷ map (exchanged x c) basis) (sym (ap (exchanged x c) q ∙ goes x c))
set_exchanged (b ∷ basis) (suc k) x c d e =
    ap (λ z. b ∷ z) (set_exchanged basis k x c d.1 e)
    ∙ ap (λ z. z ∷ map (exchanged x c) basis) (sym (stays x c b (λ q. d.0
    (let P : ℕ → Type 0 = λ z. Contains basis z in subst P (sym q) (listed_at basis k x e)))))

differ-by : (xs : List ℕ) → ((i j a : ℕ) → slice_get xs i ≡ Some a → slice_get xs j ≡ Some a → i ≡ j) → AllDiffer xs
differ-by [] f = tt
differ-by (x ∷ xs) f = (
  (λ i. let w = at_listed xs x i in let q : 0 ≡ suc w.0 = f 0 (suc w.0) x refl w.1 in absurd (omega arith)),
  differ-by xs (λ i j a e g. let q : suc i ≡ suc j = f (suc i) (suc j) a e g in omega arith),
)

pub in-list : (n : ℕ) (xs : List ℕ) (k x : ℕ) → All (λ c. c < n) xs → slice_get xs k ≡ Some x → x < n
in-list n xs k x a e =
    let h = slice_get_within xs k x e in
    let P : ℕ → Type 0 = λ c. c < n in subst P (get_or_from_slice_get xs k x 0 e) (a k 0 h)

all-from : (n : ℕ) (xs : List ℕ) → ((k x : ℕ) → slice_get xs k ≡ Some x → x < n) → All (λ c. c < n) xs
all-from n xs f k d h = f k (get_or xs k d) (slice_get-get_or xs k d h)

module _ (given : List (List (ℕ × ℤ))) (columns : ℕ) (basis : List ℕ) (rows news : List (List (ℕ × ℤ))) (l : Exit) (c : ℕ) (other : List (ℕ × ℤ))
    (ready : IsReady given columns basis rows) (crossing : IsCrossing basis rows columns l c) (eo : slice_get rows l.at ≡ Some other)
    (next : AreNext columns l.at c other rows news) where
  new-basis : List ℕ
  new-basis = map (exchanged l.column c) basis

  entry-there : entry other c ≢ pos 0
  entry-there = crossing.crosses other eo

  not-in : Contains basis c → ⊥
  not-in i = entry-there ((ready.are_rows.each l.at l.column other crossing.stands eo).alone c i crossing.differ)

  same-old : (a b : ℕ) → Contains basis a → Contains basis b → exchanged l.column c a ≡ exchanged l.column c b → a ≡ b
  same-old a b ia ib e = elim (by_test (a == l.column)) [
    | inl p ↦ elim (by_test (b == l.column)) [
      | inl q ↦ same_if a l.column p ∙ sym (same_if b l.column q)
      | inr q ↦ absurd (not-in (let P : ℕ → Type 0 = λ z. Contains basis z in
          subst P (sym (stays l.column c b (other_if b l.column q)) ∙ sym e ∙ ap (exchanged l.column c) (same_if a l.column p) ∙ goes l.column c) ib))
    ]
    | inr p ↦ elim (by_test (b == l.column)) [
      | inl q ↦ absurd (not-in (let P : ℕ → Type 0 = λ z. Contains basis z in
          subst P (sym (stays l.column c a (other_if a l.column p)) ∙ e ∙ ap (exchanged l.column c) (same_if b l.column q) ∙ goes l.column c) ia))
      | inr q ↦ sym (stays l.column c a (other_if a l.column p)) ∙ e ∙ stays l.column c b (other_if b l.column q)
    ]
  ]

  pub ready_after : IsReady given columns (map (exchanged l.column c) basis) news
  ready_after = record {
    given_rows = ready.given_rows;
    count = length-map basis (exchanged l.column c) ∙ ready.count;
    different = differ-by (map (exchanged l.column c) basis) (λ i j a e g.
        let u = after_at l.column c basis i a e in let v = after_at l.column c basis j a g in
        let q = same-old u.0 v.0 (listed_at basis i u.0 u.1) (listed_at basis j v.0 v.1) (sym u.2 ∙ v.2) in
        place_once basis i j u.0 ready.different u.1 (v.1 ∙ ap Some (sym q)));
    in_range = all-from columns (map (exchanged l.column c) basis) (λ k x e.
        let u = after_at l.column c basis k x e in
        let P : ℕ → Type 0 = λ z. z < columns in
        elim (exchanged-cases l.column c u.0) [
          | inl q ↦ subst P (sym (u.2 ∙ q)) crossing.in_range
          | inr q ↦ subst P (sym (u.2 ∙ q.0)) (in-list columns basis k u.0 ready.in_range u.1)
        ]);
    are_rows = rows_after given columns basis rows news l.at l.column c other ready.are_rows ready.different crossing.stands eo entry-there next;
    free = free_after given basis l.column c (entry other) (listed_at basis l.at l.column crossing.stands) ready.free
        (ready.are_rows.each l.at l.column other crossing.stands eo) entry-there;
  }

-- places after the leaving column went to its limit
pub places_after : (numbers places : List ℤ) (x : ℕ) (z : ℤ) → x < length places → ArePlacesOf numbers places → Contains numbers z
    → ArePlacesOf numbers (slice_set places x z)
places_after numbers places x z h a i = λ c n. elim (by_test (c == x)) [
  | inl q ↦
      let e : place_at (slice_set places x z) c ≡ z = ap (place_at (slice_set places x z)) (same_if c x q) ∙ ap place_of (set_same places x z h) in
      let P : ℤ → Type 0 = λ w. Contains numbers w in subst P (sym e) i
  | inr q ↦
      let e : place_at (slice_set places x z) c ≡ place_at places c = ap place_of (set_other places x c z (other_if c x q)) in
      let P : ℤ → Type 0 = λ w. Contains numbers w in subst P (sym e) (a c (λ v. n (e ∙ v)))
]

pub set_place_same : (places : List ℤ) (x : ℕ) (z : ℤ) → x < length places → place_at (slice_set places x z) x ≡ z
set_place_same places x z h = ap place_of (set_same places x z h)

pub set_place_other : (places : List ℤ) (x k : ℕ) (z : ℤ) → k ≢ x → place_at (slice_set places x z) k ≡ place_at places k
set_place_other places x k z n = ap place_of (set_other places x k z n)

-- what stops a turn stands for the result's error
pub turn_stopped : (given : List (List (ℕ × ℤ))) (columns : ℕ) (basis : List ℕ) (rows : List (List (ℕ × ℤ)))
    → IsReady given columns basis rows → (at c x : ℕ) (other : List (ℕ × ℤ))
    (places : List ℤ) (limit : ℤ) (e : Stopped) {R : Type 0} (o : Result R Stopped) → slice_get basis at ≡ Some x
    → slice_get rows at ≡ Some other → IsTurnPast at c rows e → IsErrAnd o (λ z. z ≡ e)
    → IfErr o (λ z. (numbers : List ℤ) → ArePlacesOf numbers places → Contains numbers limit → IsStopped given columns numbers z)
turn_stopped given columns basis rows ready at c x other places limit e (Ok v) ex eo h q = tt
turn_stopped given columns basis rows ready at c x other places limit e (Err z) ex eo h q = λ numbers a i.
    subst (λ (w : Stopped). IsStopped given columns numbers w) (sym q) (turn_result given columns basis rows ready at c x other e ex eo h numbers)

pub values_stopped : (given : List (List (ℕ × ℤ))) (columns : ℕ) (basis : List ℕ) (rows : List (List (ℕ × ℤ))) → IsReady given columns basis rows
    → (places : List ℤ) (x : ℕ) (limit : ℤ) (e : Stopped) {R : Type 0} (o : Result R Stopped) → x < length places
    → IsValuesPast given basis rows (place_at (slice_set places x limit)) e → IsErrAnd o (λ z. z ≡ e)
    → IfErr o (λ z. (numbers : List ℤ) → ArePlacesOf numbers places → Contains numbers limit → IsStopped given columns numbers z)
values_stopped given columns basis rows ready places x limit e (Ok v) h p q = tt
values_stopped given columns basis rows ready places x limit e (Err z) h p q = λ numbers a i.
    subst (λ (w : Stopped). IsStopped given columns numbers w) (sym q)
    (values_result given columns basis rows (slice_set places x limit) ready e p numbers (places_after numbers places x limit h a i))
