-- What the places of the decisions say of the entries.
use Rattle.std.specs.Prelude.{ℕ, zero, suc, ◌≡◌, ◌≢◌, ◌⊎◌, ◌==◌, ◌+◌, ◌-◌, ◌<◌, ◌≤◌, Bool, true, false, cond, nat_le, nat_lt, List, [], ◌∷◌, ◌++◌, Option, Some, None, length, slice_get, refl}
use Rattle.std.proofs.Common.{sym, ◌∙◌, ap, subst, arith, inl, inr}
use Rattle.std.proofs.lemmas.Bool.Decides.{nat_tests}
use Rattle.proof_checker.proofs.Sound.{either}
use Rattle.sat_core.specs.declared.assigned.Assigned.{Assigned}
use Rattle.sat_core.specs.Analysis.{IsLast, IsNext, IsDecisionAt}
use Rattle.sat_core.specs.Decisions.{decisions_from, first_from}
use Rattle.sat_core.proofs.Places.{some_is}

cond-append : (b : Bool) (k : ℕ) (xs ys : List ℕ) → cond b (k ∷ (xs ++ ys)) (xs ++ ys) ≡ cond b (k ∷ xs) xs ++ ys
cond-append true k xs ys = refl
cond-append false k xs ys = refl

-- one more entry
pub decisions-push : (k : ℕ) (entries : List Assigned) (a : Assigned)
    → decisions_from k (entries ++ a ∷ []) ≡ decisions_from k entries ++ cond (a.reason == 0) ((k + length entries) ∷ []) []
decisions-push k [] a = let e : k + 0 ≡ k = omega arith in ap (λ n. cond (a.reason == 0) (n ∷ []) []) (sym e)
decisions-push k (b ∷ rest) a =
    let e : suc k + length rest ≡ k + suc (length rest) = omega arith in
    let h = decisions-push (suc k) rest a ∙ ap (λ n. decisions_from (suc k) rest ++ cond (a.reason == 0) (n ∷ []) []) e in
    ap (λ xs. cond (b.reason == 0) (k ∷ xs) xs) h
    ∙ cond-append (b.reason == 0) k (decisions_from (suc k) rest) (cond (a.reason == 0) ((k + suc (length rest)) ∷ []) [])

-- the last place of a list
abbrev last_of : List ℕ → Option ℕ
last_of places = slice_get places (length places - 1)

last-cons : (k j : ℕ) (places : List ℕ) → last_of (k ∷ j ∷ places) ≡ last_of (j ∷ places)
last-cons k j places = let e : length (k ∷ j ∷ places) - 1 ≡ suc (length (j ∷ places) - 1) = omega arith in ap (slice_get (k ∷ j ∷ places)) e

last-some : (k : ℕ) (places : List ℕ) → (n : ℕ) × (last_of (k ∷ places) ≡ Some n)
last-some k [] = (k, refl)
last-some k (j ∷ places) = let h = last-some j places in (h.0, last-cons k j places ∙ h.1)

abbrev IsLastFrom : ℕ → List Assigned → Option ℕ → Type 0
IsLastFrom k entries None = (i : ℕ) (a : Assigned) → slice_get entries i ≡ Some a → a.reason ≢ 0
IsLastFrom k entries (Some n) =
    (i : ℕ) × (a : Assigned) × (n ≡ k + i) × (slice_get entries i ≡ Some a) × (a.reason ≡ 0)
    × ((j : ℕ) (b : Assigned) → i < j → slice_get entries j ≡ Some b → b.reason ≢ 0)

not_zero : (n : ℕ) → (n == 0) ≡ false → n ≢ 0
not_zero n e z = grind (arith, nat_tests)

is_zero : (n : ℕ) → (n == 0) ≡ true → n ≡ 0
is_zero n e = grind (arith, nat_tests)

undecided : (a b : Assigned) → (a.reason == 0) ≡ false → Some a ≡ Some b → b.reason ≢ 0
undecided a b n e = subst (λ (x : Assigned). x.reason ≢ 0) (some_is a b e) (not_zero a.reason n)

-- an entry before others, of which one is a decision, or which is none itself
last-behind : (k n : ℕ) (a : Assigned) (rest : List Assigned) → IsLastFrom (suc k) rest (Some n) → IsLastFrom k (a ∷ rest) (Some n)
last-behind k n a rest (i, b, p, q, r, s) = (suc i, b, omega arith, q, r, later) where
  later : (j : ℕ) (c : Assigned) → suc i < j → slice_get (a ∷ rest) j ≡ Some c → c.reason ≢ 0
  later zero c g e = absurd (omega arith)
  later (suc j) c g e = s j c (omega arith) e

last-beside : (k : ℕ) (a : Assigned) (rest : List Assigned) (o : Option ℕ) → (a.reason == 0) ≡ false
    → IsLastFrom (suc k) rest o → IsLastFrom k (a ∷ rest) o
last-beside k a rest None n h = each where
  each : (i : ℕ) (b : Assigned) → slice_get (a ∷ rest) i ≡ Some b → b.reason ≢ 0
  each zero b e = undecided a b n e
  each (suc i) b e = h i b e
last-beside k a rest (Some m) n h = last-behind k m a rest h

last-here : (k : ℕ) (a : Assigned) (rest : List Assigned) → a.reason ≡ 0 → IsLastFrom (suc k) rest None → IsLastFrom k (a ∷ rest) (Some k)
last-here k a rest z h = (0, a, omega arith, refl, z, later) where
  later : (j : ℕ) (c : Assigned) → 0 < j → slice_get (a ∷ rest) j ≡ Some c → c.reason ≢ 0
  later zero c g e = absurd (omega arith)
  later (suc j) c g e = h j c e

last-of-both : (k : ℕ) (a : Assigned) (rest : List Assigned) (places : List ℕ) → a.reason ≡ 0
    → IsLastFrom (suc k) rest (last_of places) → IsLastFrom k (a ∷ rest) (last_of (k ∷ places))
last-of-both k a rest [] z h = last-here k a rest z h
last-of-both k a rest (j ∷ places) z h =
    let s = last-some j places in
    subst (IsLastFrom k (a ∷ rest)) (sym (last-cons k j places ∙ s.1)) (last-behind k s.0 a rest (subst (IsLastFrom (suc k) rest) s.1 h))

last-from : (k : ℕ) (entries : List Assigned) → IsLastFrom k entries (last_of (decisions_from k entries))
last-from k [] = λ i a e. absurd cc
last-from k (a ∷ rest) =
    let h = last-from (suc k) rest in
    let places = decisions_from (suc k) rest in
    either (a.reason == 0)
    (λ y. subst (λ b. IsLastFrom k (a ∷ rest) (last_of (cond b (k ∷ places) places))) (sym y)
    (last-of-both k a rest places (is_zero a.reason y) h))
    (λ n. subst (λ b. IsLastFrom k (a ∷ rest) (last_of (cond b (k ∷ places) places))) (sym n)
    (last-beside k a rest (last_of places) n h))

last-from-start : (entries : List Assigned) (o : Option ℕ) → IsLastFrom 0 entries o → IsLast entries o
last-from-start entries None h = h
last-from-start entries (Some n) (i, a, p, q, r, s) =
    let e : i ≡ n = omega arith in (
      a,
      subst (λ x. slice_get entries x ≡ Some a) e q,
      r,
      subst (λ x. (j : ℕ) (b : Assigned) → x < j → slice_get entries j ≡ Some b → b.reason ≢ 0) e s,
    )

-- the last of the places is that of the last decision
pub last_is : (entries : List Assigned) (places : List ℕ) → places ≡ decisions_from 0 entries → IsLast entries (slice_get places (length places - 1))
last_is entries places e =
    subst (λ ps. IsLast entries (last_of ps)) (sym e) (last-from-start entries (last_of (decisions_from 0 entries)) (last-from 0 entries))

-- an entry with its place, where the first stands at place k
abbrev IsDecisionFrom : ℕ → List Assigned → ℕ → Type 0
IsDecisionFrom k entries n = (i : ℕ) × (a : Assigned) × (n ≡ k + i) × (slice_get entries i ≡ Some a) × (a.reason ≡ 0)

record IsNextFrom (k : ℕ) (entries : List Assigned) (low end n : ℕ) : Type 0 where
  ordered : low ≤ n
  within : n ≤ end
  decided : (n ≡ end) ⊎ IsDecisionFrom k entries n
  none : (i : ℕ) (a : Assigned) → low ≤ k + i → k + i < n → slice_get entries i ≡ Some a → a.reason ≢ 0

decided-behind : (k n end : ℕ) (a : Assigned) (rest : List Assigned) → (n ≡ end) ⊎ IsDecisionFrom (suc k) rest n
    → (n ≡ end) ⊎ IsDecisionFrom k (a ∷ rest) n
decided-behind k n end a rest (inl e) = inl e
decided-behind k n end a rest (inr (i, b, p, q, r)) = inr (suc i, b, omega arith, q, r)

-- an entry before others that is none, or stands too early
next-behind : (k low end n : ℕ) (a : Assigned) (rest : List Assigned) → (low ≤ k → a.reason ≢ 0)
    → IsNextFrom (suc k) rest low end n → IsNextFrom k (a ∷ rest) low end n
next-behind k low end n a rest u h = record {
  ordered = h.ordered;
  within = h.within;
  decided = decided-behind k n end a rest h.decided;
  none = none;
} where
  none : (i : ℕ) (b : Assigned) → low ≤ k + i → k + i < n → slice_get (a ∷ rest) i ≡ Some b → b.reason ≢ 0
  none zero b l g e = subst (λ (x : Assigned). x.reason ≢ 0) (some_is a b e) (u (omega arith))
  none (suc i) b l g e = h.none i b (omega arith) (omega arith) e

is_less : (a b : ℕ) → nat_lt a b ≡ true → a < b
is_less a b e = grind (arith, nat_tests)

is_no_less : (a b : ℕ) → nat_lt a b ≡ false → b ≤ a
is_no_less a b e = grind (arith, nat_tests)

is_at_most : (a b : ℕ) → nat_le a b ≡ true → a ≤ b
is_at_most a b e = grind (arith, nat_tests)

is_more : (a b : ℕ) → nat_le a b ≡ false → b < a
is_more a b e = grind (arith, nat_tests)

next-here : (k low end : ℕ) (a : Assigned) (rest : List Assigned) → low ≤ end → a.reason ≡ 0 → low ≤ k
    → IsNextFrom k (a ∷ rest) low end (cond (nat_lt k end) k end)
next-here k low end a rest w z l = either (nat_lt k end)
    (λ y. subst (λ b. IsNextFrom k (a ∷ rest) low end (cond b k end)) (sym y) (let g = is_less k end y in record {
      ordered = l;
      within = omega arith;
      decided = inr (0, a, omega arith, refl, z);
      none = λ i b m n e. absurd (omega arith);
    }))
    (λ y. subst (λ b. IsNextFrom k (a ∷ rest) low end (cond b k end)) (sym y) (let g = is_no_less k end y in record {
      ordered = w;
      within = omega arith;
      decided = inl refl;
      none = λ i b m n e. absurd (omega arith);
    }))

next-decided : (k low end n : ℕ) (a : Assigned) (rest : List Assigned) → low ≤ end → a.reason ≡ 0
    → IsNextFrom (suc k) rest low end n → IsNextFrom k (a ∷ rest) low end (cond (nat_le low k) (cond (nat_lt k end) k end) n)
next-decided k low end n a rest w z h = either (nat_le low k)
    (λ y. subst (λ b. IsNextFrom k (a ∷ rest) low end (cond b (cond (nat_lt k end) k end) n)) (sym y)
    (next-here k low end a rest w z (is_at_most low k y)))
    (λ y. subst (λ b. IsNextFrom k (a ∷ rest) low end (cond b (cond (nat_lt k end) k end) n)) (sym y)
    (next-behind k low end n a rest (λ l. let g = is_more low k y in absurd (omega arith)) h))

next-from : (k low end : ℕ) (entries : List Assigned) → low ≤ end → IsNextFrom k entries low end (first_from low end (decisions_from k entries))
next-from k low end [] w = record { ordered = w; within = omega arith; decided = inl refl; none = λ i a m n e. absurd cc }
next-from k low end (a ∷ rest) w =
    let h = next-from (suc k) low end rest w in
    let places = decisions_from (suc k) rest in
    either (a.reason == 0)
    (λ y. subst (λ b. IsNextFrom k (a ∷ rest) low end (first_from low end (cond b (k ∷ places) places))) (sym y)
    (next-decided k low end (first_from low end places) a rest w (is_zero a.reason y) h))
    (λ y. subst (λ b. IsNextFrom k (a ∷ rest) low end (first_from low end (cond b (k ∷ places) places))) (sym y)
    (next-behind k low end (first_from low end places) a rest (λ l. not_zero a.reason y) h))

-- the first of the places from one on is that of the next decision
pub next_is : (entries : List Assigned) (places : List ℕ) (low end : ℕ) → places ≡ decisions_from 0 entries → low ≤ end
    → IsNext entries low end (first_from low end places)
next_is entries places low end e w = subst (λ ps. IsNext entries low end (first_from low end ps)) (sym e) (by (next-from 0 low end entries w)) where
  decided : (n : ℕ) → (n ≡ end) ⊎ IsDecisionFrom 0 entries n → (n ≡ end) ⊎ IsDecisionAt entries n
  decided n (inl q) = inl q
  decided n (inr (i, a, p, q, r)) = let f : i ≡ n = omega arith in inr (a, subst (λ x. slice_get entries x ≡ Some a) f q, r)

  by : {n : ℕ} → IsNextFrom 0 entries low end n → IsNext entries low end n
  by {n} h = record {
    ordered = h.ordered;
    within = h.within;
    decided = decided n h.decided;
    none = λ i a l g q. h.none i a (omega arith) (omega arith) q;
  }

-- what stays where the last entry goes
pub fewer_decisions : (entries fewer : List Assigned) (a : Assigned) (old new : List ℕ) → entries ≡ fewer ++ a ∷ []
    → old ≡ decisions_from 0 entries → ((ps : List ℕ) (n : ℕ) → old ≡ ps ++ cond (a.reason == 0) (n ∷ []) [] → new ≡ ps)
    → new ≡ decisions_from 0 fewer
fewer_decisions entries fewer a old new e f u =
    u (decisions_from 0 fewer) (0 + length fewer) (f ∙ ap (decisions_from 0) e ∙ decisions-push 0 fewer a)

-- and where one more comes
pub more_decisions : (entries more : List Assigned) (a : Assigned) (old new : List ℕ) → more ≡ entries ++ a ∷ []
    → old ≡ decisions_from 0 entries → new ≡ old ++ cond (a.reason == 0) (length entries ∷ []) []
    → new ≡ decisions_from 0 more
more_decisions entries more a old new e f g =
    let z : length entries ≡ 0 + length entries = omega arith in
    g ∙ ap (λ ps. ps ++ cond (a.reason == 0) (length entries ∷ []) []) f
    ∙ ap (λ n. decisions_from 0 entries ++ cond (a.reason == 0) (n ∷ []) []) z
    ∙ sym (decisions-push 0 entries a) ∙ sym (ap (decisions_from 0) e)
