-- The values of all columns, one row of the basis after the other.
use Rattle.std.specs.Prelude.{ℕ, ◌≡◌, ◌⊎◌, ◌<◌, ◌≤◌, ◌+◌, List, [], ◌∷◌, length, map, Contains, Some, slice_get, slice_set}
use Rattle.std.specs.Option.{option_map}
use Rattle.std.proofs.Common.{sym, ◌∙◌, ap, subst, arith, inl, inr}
use Rattle.std.proofs.lemmas.List.{length-set, length-map}
use Rattle.std.proofs.lemmas.Option.{slice_get_within, slice_get-map}
use lib.IntN.{ℤ, pos}
use Rattle.kind_num.specs.declared.Past.{Past}
use Rattle.proof_steps.specs.Rows.{AllDiffer}
use Rattle.int_simplex.specs.Valued.{place_at, IsRowValue, AreValues, AreValuesBut, IsValuePast, IsValuesPast}
use Rattle.int_simplex.specs.Stopping.{IsOver}
use Rattle.int_simplex.specs.declared.trouble.Stopped.{Stopped}
use Rattle.int_simplex.specs.declared.trouble.Stopped.TheVariants as s
use Rattle.int_simplex.proofs.Places.{same_some, listed_at}
use Rattle.int_simplex.proofs.Nexts.{set_same, set_other, eq_or, first_or}
use Rattle.int_simplex.proofs.Turned.{place_once}

-- the same of the first i rows
pub record AreValuesTo (basis : List ℕ) (rows : List (List (ℕ × ℤ))) (places : List ℤ) (values : List (ℤ × ℤ)) (i : ℕ) : Type 0 where
  pub count : length values ≡ length places
  pub outside : (c : ℕ) (z : ℤ) → (Contains basis c → ⊥) → slice_get places c ≡ Some z → slice_get values c ≡ Some (z, pos 1)
  pub inside : (k x : ℕ) (r : List (ℕ × ℤ)) → k < i → slice_get basis k ≡ Some x → slice_get rows k ≡ Some r
      → (v : ℤ × ℤ) × (slice_get values x ≡ Some v) × IsRowValue (length places) x (place_at places) r v

abbrev whole : ℤ → ℤ × ℤ
whole z = (z, pos 1)

pub values_none : (basis : List ℕ) (rows : List (List (ℕ × ℤ))) (places : List ℤ) → AreValuesTo basis rows places (map (λ (z : ℤ). (z, pos 1)) places) 0
values_none basis rows places = record {
  count = length-map places whole;
  outside = λ c z n e. slice_get-map whole places c ∙ ap (option_map whole) e;
  inside = λ k x r h. absurd (omega arith);
}

split : (k i : ℕ) → k < i + 1 → (k < i) ⊎ (k ≡ i)
split k i h = grind arith

pub values_more : (basis : List ℕ) (rows : List (List (ℕ × ℤ))) (places : List ℤ) (values : List (ℤ × ℤ)) (i x : ℕ) (r : List (ℕ × ℤ)) (v : ℤ × ℤ)
    → AllDiffer basis → slice_get basis i ≡ Some x → slice_get rows i ≡ Some r → x < length places → IsRowValue (length places) x (place_at places) r v
    → AreValuesTo basis rows places values i → AreValuesTo basis rows places (slice_set values x v) (i + 1)
values_more basis rows places values i x r v d ex er h q a = record {
  count = length-set values x v ∙ a.count;
  outside = λ c z n e.
      set_other values x c v (λ w. n (listed_at basis i c (ex ∙ ap Some (sym w)))) ∙ a.outside c z n e;
  inside = λ k y s b ey es. elim (split k i b) [
    | inl l ↦
        let w = a.inside k y s l ey es in
        (w.0, set_other values x y v (λ z. absurd (let p : k ≡ i = place_once basis k i y d ey (ex ∙ ap Some (sym z)) in omega arith)) ∙ w.1, w.2)
    | inr p ↦
        let y1 : x ≡ y = same_some x y (sym ex ∙ ap (slice_get basis) (sym p) ∙ ey) in
        let s1 : r ≡ s = same_some r s (sym er ∙ ap (slice_get rows) (sym p) ∙ es) in
        let c = a.count in
        let P : ℕ → Type 0 = λ z. (w : ℤ × ℤ) × (slice_get (slice_set values x v) z ≡ Some w) × IsRowValue (length places) z (place_at places) s w in
        let Q : List (ℕ × ℤ) → Type 0 = λ z. IsRowValue (length places) x (place_at places) z v in
        subst P y1 (v, set_same values x v (omega arith), subst Q s1 q)
  ];
}

pub values_all : (basis : List ℕ) (rows : List (List (ℕ × ℤ))) (places : List ℤ) (values : List (ℤ × ℤ)) (i : ℕ) → length basis ≤ i
    → AreValuesTo basis rows places values i → AreValues basis rows places values
values_all basis rows places values i h a = record {
  count = a.count;
  outside = a.outside;
  inside = λ k x r e f. a.inside k x r (let b : k < length basis = slice_get_within basis k x e in omega arith) e f;
}

pub values_past : (given : List (List (ℕ × ℤ))) (basis : List ℕ) (rows : List (List (ℕ × ℤ))) (f : ℕ → ℤ) (k x : ℕ)
    (row g r1 g1 : List (ℕ × ℤ)) (past : Past) (e : Stopped)
    → slice_get basis k ≡ Some x → slice_get rows k ≡ Some row → slice_get given 0 ≡ Some g → r1 ≡ row → g1 ≡ g
    → IsOver r1 g1 past e → IsValuePast x f row past → IsValuesPast given basis rows f e
values_past given basis rows f k x row g r1 g1 past s.Memory ex er eg a b o v = tt
values_past given basis rows f k x row g r1 g1 past (s.Past step) ex er eg a b o v = (
  k,
  x,
  row,
  g,
  past,
  ex,
  er,
  eg,
  o ∙ ap (λ (z : List (ℕ × ℤ)). record { rows = z ∷ g1 ∷ []; past = past }) a ∙ ap (λ (z : List (ℕ × ℤ)). record { rows = row ∷ z ∷ []; past = past }) b,
  v,
)

-- the first of the rows to come has its value
pub values_next : (basis : List ℕ) (rows : List (List (ℕ × ℤ))) (places : List ℤ) (values : List (ℤ × ℤ)) (todo rest : List ℕ) (i x : ℕ)
    (r : List (ℕ × ℤ)) (v : ℤ × ℤ) → todo ≡ i ∷ rest
    → AllDiffer basis → slice_get basis i ≡ Some x → slice_get rows i ≡ Some r → x < length places → IsRowValue (length places) x (place_at places) r v
    → AreValuesBut basis rows places values todo → AreValuesBut basis rows places (slice_set values x v) rest
values_next basis rows places values todo rest i x r v head d ex er h q a = record {
  count = length-set values x v ∙ a.count;
  outside = λ c z n e.
      set_other values x c v (λ w. n (listed_at basis i c (ex ∙ ap Some (sym w)))) ∙ a.outside c z n e;
  inside = λ k y s n ey es. elim (eq_or k i) [
    | inl p ↦
        let y1 : x ≡ y = same_some x y (sym ex ∙ ap (slice_get basis) (sym p) ∙ ey) in
        let s1 : r ≡ s = same_some r s (sym er ∙ ap (slice_get rows) (sym p) ∙ es) in
        let c = a.count in
        let P : ℕ → Type 0 = λ z. (w : ℤ × ℤ) × (slice_get (slice_set values x v) z ≡ Some w) × IsRowValue (length places) z (place_at places) s w in
        let Q : List (ℕ × ℤ) → Type 0 = λ z. IsRowValue (length places) x (place_at places) z v in
        subst P y1 (v, set_same values x v (omega arith), subst Q s1 q)
    | inr p ↦
        let w = a.inside k y s (λ l. elim (first_or i k rest (let P : List ℕ → Type 0 = λ z. Contains z k in subst P head l)) [
          | inl z ↦ p z
          | inr z ↦ n z
        ]) ey es in
        (w.0, set_other values x y v (λ z. p (place_once basis k i y d ey (ex ∙ ap Some (sym z)))) ∙ w.1, w.2)
  ];
}

pub values_done : (basis : List ℕ) (rows : List (List (ℕ × ℤ))) (places : List ℤ) (values : List (ℤ × ℤ)) (todo : List ℕ) → todo ≡ []
    → AreValuesBut basis rows places values todo → AreValues basis rows places values
values_done basis rows places values todo q a = record {
  count = a.count;
  outside = a.outside;
  inside = λ k x r e f. a.inside k x r (λ i. none k (let P : List ℕ → Type 0 = λ z. Contains z k in subst P q i)) e f;
} where
  none : (k : ℕ) → Contains [] k → ⊥
  none k (i, h, e) = absurd (omega arith)
