-- How many verdicts there are of each kind.
use Rattle.std.proofs.Common.{◌≡◌, ◌≤◌, ◌<◌, ◌+◌, ℕ, suc, List, [], ◌∷◌, length, get_or, drop, refl, ap, arith, subst}
use Rattle.kind_main.specs.declared.outcome.Outcome.{Outcome}
use Rattle.kind_main.specs.Verdicts.{Verdict, valid, falsifiable, unknown, Tally, tally_of, Grown, outcome_view, outcomes_view}
use Rattle.kind_main.proofs.Lists.{dropped, dropped_all, as_long}

-- what was counted, and the verdicts that are left
pub record Counting (all left : List Verdict) (t : Tally) : Type 0 where
  pub valid : t.valid + (tally_of left).valid ≡ (tally_of all).valid
  pub falsifiable : t.falsifiable + (tally_of left).falsifiable ≡ (tally_of all).falsifiable
  pub unknown : t.unknown + (tally_of left).unknown ≡ (tally_of all).unknown
  pub size : t.valid + t.falsifiable + t.unknown + length left ≡ length all

pub counting_start : (all : List Verdict) → Counting all all (record { valid = 0; falsifiable = 0; unknown = 0 })
counting_start all = record { valid = omega arith; falsifiable = omega arith; unknown = omega arith; size = omega arith }

counting_on : (all left : List Verdict) (v : Verdict) (t u : Tally) → Grown v t u → Counting all (v ∷ left) t → Counting all left u
counting_on all left valid t u g c =
    let a : u.valid ≡ suc t.valid = ap (λ (x : Tally). x.valid) g in
    let b : u.falsifiable ≡ t.falsifiable = ap (λ (x : Tally). x.falsifiable) g in
    let d : u.unknown ≡ t.unknown = ap (λ (x : Tally). x.unknown) g in
    let p = c.valid in
    let q = c.falsifiable in
    let r = c.unknown in
    let s = c.size in
    record { valid = omega (arith, a, p); falsifiable = omega (arith, b, q); unknown = omega (arith, d, r); size = omega (arith, a, b, d, s) }
counting_on all left (falsifiable last trace) t u g c =
    let a : u.valid ≡ t.valid = ap (λ (x : Tally). x.valid) g in
    let b : u.falsifiable ≡ suc t.falsifiable = ap (λ (x : Tally). x.falsifiable) g in
    let d : u.unknown ≡ t.unknown = ap (λ (x : Tally). x.unknown) g in
    let p = c.valid in
    let q = c.falsifiable in
    let r = c.unknown in
    let s = c.size in
    record { valid = omega (arith, a, p); falsifiable = omega (arith, b, q); unknown = omega (arith, d, r); size = omega (arith, a, b, d, s) }
counting_on all left (unknown causes) t u g c =
    let a : u.valid ≡ t.valid = ap (λ (x : Tally). x.valid) g in
    let b : u.falsifiable ≡ t.falsifiable = ap (λ (x : Tally). x.falsifiable) g in
    let d : u.unknown ≡ suc t.unknown = ap (λ (x : Tally). x.unknown) g in
    let p = c.valid in
    let q = c.falsifiable in
    let r = c.unknown in
    let s = c.size in
    record { valid = omega (arith, a, p); falsifiable = omega (arith, b, q); unknown = omega (arith, d, r); size = omega (arith, a, b, d, s) }

module _ (outcomes : List Outcome) (i : ℕ) (x : Outcome) (inside : i < length outcomes) (is : x ≡ get_or outcomes i x) (t : Tally)
    (c : Counting (outcomes_view outcomes) (outcomes_view (drop i outcomes)) t) where
  this : Counting (outcomes_view outcomes) (outcome_view x ∷ outcomes_view (drop (i + 1) outcomes)) t
  this = subst (λ l. Counting (outcomes_view outcomes) (outcomes_view l) t) (dropped outcomes i x inside is) c

  pub counting_few : length outcomes ≤ 500 → t.valid + t.falsifiable + t.unknown < 500
  counting_few few =
      let s = this.size in
      let e = as_long outcome_view outcomes in
      omega (arith, s, e, few)

  pub counting_next : (u : Tally) → Grown (outcome_view x) t u → Counting (outcomes_view outcomes) (outcomes_view (drop (i + 1) outcomes)) u
  counting_next u g = counting_on (outcomes_view outcomes) (outcomes_view (drop (i + 1) outcomes)) (outcome_view x) t u g this

same_tally : (t u : Tally) → t.valid ≡ u.valid → t.falsifiable ≡ u.falsifiable → t.unknown ≡ u.unknown → t ≡ u
same_tally t u a b c = rw (a, b, c) refl

counted : (all : List Verdict) (t : Tally) → Counting all [] t → t ≡ tally_of all
counted all t c =
    let p = c.valid in
    let q = c.falsifiable in
    let r = c.unknown in
    same_tally t (tally_of all) (omega (arith, p)) (omega (arith, q)) (omega (arith, r))

pub counting_end : (outcomes : List Outcome) (i : ℕ) → length outcomes ≤ i → (t : Tally)
    → Counting (outcomes_view outcomes) (outcomes_view (drop i outcomes)) t → t ≡ tally_of (outcomes_view outcomes)
counting_end outcomes i le t c = counted (outcomes_view outcomes) t
    (subst (λ l. Counting (outcomes_view outcomes) (outcomes_view l) t) (dropped_all outcomes i le) c)
