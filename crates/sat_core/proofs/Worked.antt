-- How many looks an answer costs at least.
use Rattle.std.specs.Prelude.{ℕ, zero, suc, ◌≡◌, ◌≢◌, ◌⊎◌, ◌+◌, ◌<◌, ◌≤◌, Bool, true, false, cond, List, [], ◌∷◌, ◌++◌, length, Option, Some, None, Result, Ok, Err, IfOk, All, Contains, drop, slice_get, refl}
use Rattle.std.proofs.Common.{sym, ◌∙◌, ap, subst, arith, inl, inr}
use Rattle.std.proofs.lemmas.List.{append-nil, drop_at}
use Rattle.std.proofs.lemmas.List.Sums.{sum_by-append, sum_by_push}
use Rattle.std.proofs.lemmas.List.Elements.{All-contains}
use Rattle.proof_steps.specs.declared.Literal.{Literal}
use Rattle.proof_steps.specs.declared.Literal.TheVariants.{Flag}
use Rattle.proof_steps.specs.Meaning.{at}
use Rattle.proof_checker.specs.Derived.{has, same}
use Rattle.proof_checker.proofs.Sets.{same-is, same-refl, contains-has}
use Rattle.proof_checker.proofs.Sound.{either}
use Rattle.sat_core.specs.declared.assigned.Assigned.{Assigned}
use Rattle.sat_core.specs.declared.short.Short.{Short}
use Rattle.sat_core.specs.Trail.{falses, IsSettled}
use Rattle.sat_core.specs.Propagation.{IsFalseAt}
use Rattle.sat_core.specs.Store.{IsLooked}
use Rattle.sat_core.specs.Shown.{Shown, Grows}
use Rattle.sat_core.specs.Looking.{same_pair, moved, has_open_beside, is_open_beside, late, IsEarly, HaveRisen, LooksAtWork}
use Rattle.sat_core.specs.Watching.{Watching, IsLonger, IsMoved, IsOnly, IsShortOf}
use Rattle.sat_core.specs.Waiting.{IsWaiting}
use Rattle.sat_core.specs.Charged.{IsWorked, IsWorkedOut, HasCost, cost, false_by}
use Rattle.sat_core.proofs.Places.{some_is}

-- pairs that are the same
both-true : (b c : Bool) → cond b c false ≡ true → (b ≡ true) × (c ≡ true)
both-true true c h = (refl, h)
both-true false c h = absurd cc

pair-is : (p q : Option (Literal × Literal)) → same_pair p q ≡ true → p ≡ q
pair-is None None h = refl
pair-is None (Some q) h = absurd cc
pair-is (Some p) None h = absurd cc
pair-is (Some (a, b)) (Some (c, d)) h = let e = both-true (same a c) (same b d) h in
    let x = same-is a c e.0 in let y = same-is b d e.1 in ap (λ z. Some (z, b)) x ∙ ap (λ z. Some (c, z)) y

pair-refl : (p : Option (Literal × Literal)) → same_pair p p ≡ true
pair-refl None = refl
pair-refl (Some (a, b)) = subst (λ x. cond x (same b b) false ≡ true) (sym (same-refl a)) (same-refl b)

bit-more : (b c d : Bool) → (b ≡ true → c ≡ true → d ≡ true) → cond d 0 1 ≤ cond b 0 1 + cond c 0 1
bit-more true true true h = omega arith
bit-more true true false h = absurd (let e : false ≡ true = h refl refl in cc)
bit-more true false true h = omega arith
bit-more true false false h = omega arith
bit-more false c true h = omega arith
bit-more false c false h = omega arith

bit-none : (b : Bool) → b ≡ true → cond b 0 1 ≡ zero
bit-none true h = refl
bit-none false h = absurd cc

bit-one : (b : Bool) → cond b 0 1 ≤ 1
bit-one true = omega arith
bit-one false = omega arith

count-one : (b : Bool) → cond b 1 0 ≤ 1
count-one true = omega arith
count-one false = omega arith

-- how many moved
pub moved_more : (a b c : List (Option (Literal × Literal))) → length b ≡ length a → moved a c ≤ moved a b + moved b c
moved_more [] b c e = omega arith
moved_more (p ∷ a) [] c e = absurd (omega arith)
moved_more (p ∷ a) (q ∷ b) [] e = omega arith
moved_more (p ∷ a) (q ∷ b) (r ∷ c) e =
    let x = bit-more (same_pair p q) (same_pair q r) (same_pair p r)
    (λ h k. subst (λ z. same_pair z r ≡ true) (sym (pair-is p q h)) k) in
    let y = moved_more a b c (omega arith) in omega arith

moved-none : (a b : List (Option (Literal × Literal))) → ((i : ℕ) → slice_get b i ≡ slice_get a i) → moved a b ≡ 0
moved-none [] b h = refl
moved-none (p ∷ a) [] h = refl
moved-none (p ∷ a) (q ∷ b) h =
    let e : q ≡ p = some_is q p (h 0) in
    let x = bit-none (same_pair p q) (subst (λ z. same_pair p z ≡ true) (sym e) (pair-refl p)) in
    let y = moved-none a b (λ i. h (suc i)) in omega arith

pub moved_same : (a b : List (Option (Literal × Literal))) → b ≡ a → moved a b ≡ 0
moved_same a b e = moved-none a b (λ i. ap (λ z. slice_get z i) e)

moved-but : (a b : List (Option (Literal × Literal))) (j : ℕ) → ((i : ℕ) → i ≢ j → slice_get b i ≡ slice_get a i) → moved a b ≤ 1
moved-but [] b j h = omega arith
moved-but (p ∷ a) [] j h = omega arith
moved-but (p ∷ a) (q ∷ b) zero h =
    let x = bit-one (same_pair p q) in let y = moved-none a b (λ i. h (suc i) (λ e. cc)) in omega arith
moved-but (p ∷ a) (q ∷ b) (suc j) h =
    let e : q ≡ p = some_is q p (h 0 (λ z. cc)) in
    let x = bit-none (same_pair p q) (subst (λ z. same_pair p z ≡ true) (sym e) (pair-refl p)) in
    let y = moved-but a b j (λ i n. h (suc i) (λ z. n (omega arith))) in omega arith

pub moved_one : (a b : List (Option (Literal × Literal))) (n : ℕ) → ((m : ℕ) → m ≢ n → at b m ≡ at a m) → moved a b ≤ 1
moved_one a b zero h = let e = moved-none a b (λ i. h (suc i) (λ z. cc)) in omega arith
moved_one a b (suc n) h = moved-but a b n (λ i ne. h (suc i) (λ z. ne (omega arith)))

pub moved_longer : (a b more : List (Option (Literal × Literal))) → length b ≡ length a → moved a (b ++ more) ≡ moved a b
moved_longer [] b more e = refl
moved_longer (p ∷ a) [] more e = absurd (omega arith)
moved_longer (p ∷ a) (q ∷ b) more e = let x = moved_longer a b more (omega arith) in ap (λ n. cond (same_pair p q) 0 1 + n) x

-- how many came late
module _ (known : List (List Literal)) (before : List Assigned) where
  abbrev is-late : Assigned → Bool
  is-late a = is_open_beside before a.literal (at known a.reason)

  late-append : (xs ys : List Assigned) → late known before (xs ++ ys) ≡ late known before xs + late known before ys
  late-append xs ys = sum_by-append (λ a. cond (is-late a) 1 0) xs ys

  pub late_more : (trail : List Assigned) (a : Assigned) → late known before (trail ++ a ∷ []) ≤ late known before trail + 1
  late_more trail a = let e = sum_by_push (λ x. cond (is-late x) 1 0) trail a in let b = count-one (is-late a) in omega arith

  pub late_not : (trail : List Assigned) (a : Assigned) → is_open_beside before a.literal (at known a.reason) ≡ false
      → late known before (trail ++ a ∷ []) ≡ late known before trail
  late_not trail a n = let e = sum_by_push (λ x. cond (is-late x) 1 0) trail a in
      let b : cond (is-late a) 1 0 ≡ zero = ap (λ x. cond x 1 0) n in omega arith

  -- what has no reason is not implied
  pub late_decided : (trail : List Assigned) (l : Literal)
      → late known before (trail ++ record { literal = l; reason = 0 } ∷ []) ≡ late known before trail
  late_decided trail l = late_not trail record { literal = l; reason = 0 } refl

  contains-there : (x y : Literal) (ys : List Literal) → Contains ys x → Contains (y ∷ ys) x
  contains-there x y ys (k, h, e) = (suc k, omega arith, e)

  closed : (l : Literal) (c : List Literal) → ((m : Literal) → Contains c m → m ≢ l → Contains (falses before) m)
      → has_open_beside before l c ≡ false
  closed l [] h = refl
  closed l (m ∷ ms) h =
      let rest = closed l ms (λ x k n. h x (contains-there x m ms k) n) in
      either (same m l)
      (λ y. ap (λ b. cond b (has_open_beside before l ms) (cond (has (falses before) m) (has_open_beside before l ms) true)) y ∙ rest)
      (λ n. ap (λ b. cond b (has_open_beside before l ms) (cond (has (falses before) m) (has_open_beside before l ms) true)) n
      ∙ ap (λ b. cond b (has_open_beside before l ms) true)
      (contains-has (falses before) m (h m (0, omega arith, refl)
      (λ e. let t : same m l ≡ true = subst (λ z. same m z ≡ true) e (same-refl m) in absurd (let q : true ≡ false = sym t ∙ n in cc))))
      ∙ rest)

  pub late_closed : (trail : List Assigned) (a : Assigned) (c : List Literal) → at known a.reason ≡ Some c
      → ((m : Literal) → Contains c m → m ≢ a.literal → Contains (falses before) m)
      → late known before (trail ++ a ∷ []) ≡ late known before trail
  late_closed trail a c e h = late_not trail a (ap (is_open_beside before a.literal) e ∙ closed a.literal c h)

pub late_dropped : (known : List (List Literal)) (before old new : List Assigned) → Grows old new
    → late known before old + late known before (drop (length old) new) ≡ late known before new
late_dropped known before old new g =
    let e = ap (late known before) g.1 ∙ late-append known before old g.0 in
    let d = ap (late known before) (ap (drop (length old)) g.1 ∙ drop_at old g.0 (length old) refl) in omega arith

-- what costs no look, and what costs one
module _ {known : List (List Literal)} {before : List Assigned} where
  pub worked_none : {looks : ℕ} (trail trail' : List Assigned) (w w' : Watching) → late known before trail' ≡ late known before trail
      → w'.pairs ≡ w.pairs → IsWorked known before trail trail' w w' looks looks 0
  worked_none trail trail' w w' l e = record {
    count = ap length e;
    at_least = inl (let m = moved_same w.pairs w'.pairs e in omega arith);
  }

  pub worked_by : {looks looks' : ℕ} (trail trail' : List Assigned) (w w' : Watching) (failed : ℕ) → length w'.pairs ≡ length w.pairs
      → IsLooked looks looks' → late known before trail' + moved w.pairs w'.pairs + failed ≤ late known before trail + 1
      → IsWorked known before trail trail' w w' looks looks' failed
  worked_by {looks} {looks'} trail trail' w w' failed c k h = record {
    count = c;
    at_least = elim k as (λ _. (looks + late known before trail' + moved w.pairs w'.pairs + failed ≤ looks' + late known before trail)
        ⊎ (18446744073709551615 ≤ looks'))
        [ inl x ↦ inl (omega arith) | inr x ↦ inr (let y = x.0 in let z = x.1 in omega arith) ];
  }

  pub worked_moved : {looks looks' : ℕ} (trail : List Assigned) (w w' : Watching) (f : Literal) (j n : ℕ) (other found : Literal)
      → IsLooked looks looks' → IsMoved w w' f j n other found → IsWorked known before trail trail w w' looks looks' 0
  worked_moved trail w w' f j n other found k m = worked_by trail trail w w' 0 m.count k
      (let x = moved_one w.pairs w'.pairs n m.pairs in omega arith)

  pub worked_failed : {looks looks' : ℕ} (trail : List Assigned) (w : Watching) → IsLooked looks looks'
      → IsWorked known before trail trail w w looks looks' 1
  worked_failed trail w k = worked_by trail trail w w 1 refl k (let x = moved_same w.pairs w.pairs refl in omega arith)

  pub worked_pushed : {looks looks' : ℕ} (trail trail' : List Assigned) (w : Watching) (a : Assigned) → trail' ≡ trail ++ a ∷ []
      → IsLooked looks looks' → IsWorked known before trail trail' w w looks looks' 0
  worked_pushed trail trail' w a e k = worked_by trail trail' w w 0 refl k
      (let x = moved_same w.pairs w.pairs refl in let y = late_more known before trail a in
      let z = ap (late known before) e in omega arith)

  pub worked_more : {a b c failed : ℕ} (t u v : List Assigned) (w x y : Watching) → IsWorked known before t u w x a b 0
      → IsWorked known before u v x y b c failed → b ≤ c → IsWorked known before t v w y a c failed
  worked_more {a} {b} {c} {failed} t u v w x y p q h = record {
    count = q.count ∙ p.count;
    at_least =
        let m = moved_more w.pairs x.pairs y.pairs p.count in
        elim p.at_least as (λ _. (a + late known before v + moved w.pairs y.pairs + failed ≤ c + late known before t)
        ⊎ (18446744073709551615 ≤ c)) [
          | inl r ↦ elim q.at_least as (λ _. (a + late known before v + moved w.pairs y.pairs + failed ≤ c + late known before t)
              ⊎ (18446744073709551615 ≤ c)) [ inl s ↦ inl (omega arith) | inr s ↦ inr s ]
          | inr r ↦ inr (omega arith)
        ];
  }

-- a short clause's literal doesn't come late, and the clause was unit before
module _ (known : List (List Literal)) (before : List Assigned) (s : Short) (k : IsShortOf known s) where
  pub late_short : (trail : List Assigned) (l : Literal) → s.literal ≡ Some l
      → late known before (trail ++ record { literal = l; reason = s.number } ∷ []) ≡ late known before trail
  late_short trail l e = late_closed known before trail record { literal = l; reason = s.number } k.0 k.1
      (λ m c n. absurd (n (k.2 m l c (subst (IsOnly k.0) e k.3))))

  early-of : (l : Option Literal) → IsOnly k.0 l → IsEarly known before s.number
  early-of None o = (k.0, k.1, Flag 0 true, λ m c n. absurd (let z = c.1 in let q = ap length o in omega arith))
  early-of (Some l) o = (k.0, k.1, l, λ m c n. absurd (n (k.2 m l c o)))

  pub early_short : IsEarly known before s.number
  early_short = early-of s.literal k.3

-- nor does what a clause waits for
module _ (known : List (List Literal)) (before : List Assigned) (w : Watching) (a : Assigned) (i : IsWaiting known before w a) where
  pub late_waiting : (trail trail' : List Assigned) → (trail' ≡ trail) ⊎ (trail' ≡ trail ++ a ∷ [])
      → late known before trail' ≡ late known before trail
  late_waiting trail trail' p = elim p as (λ _. late known before trail' ≡ late known before trail) [
    | inl e ↦ ap (late known before) e
    | inr e ↦ ap (late known before) e ∙ late_closed known before trail a i.clause i.is_clause i.others
  ]

  pub early_waiting : IsEarly known before a.reason
  early_waiting = (i.clause, i.is_clause, a.literal, i.others)

pub early_false : (known : List (List Literal)) (before : List Assigned) (n : ℕ) → IsFalseAt known before n → IsEarly known before n
early_false known before n (c, e, f) = (c, e, Flag 0 true, λ m i ne. All-contains (Contains (falses before)) c m f i)

-- what costs no look, and then the rest
pub worked_on : (known : List (List Literal)) (before : List Assigned) {a b : ℕ} (t u v : List Assigned) (w x : Watching) (r : Option ℕ)
    → late known before u ≡ late known before t → IsWorkedOut known before u v w x a b r → a ≤ b → IsWorkedOut known before t v w x a b r
worked_on known before t u v w x None e p h = worked_more t u v w w x (worked_none t u w w e refl) p h
worked_on known before {a} {b} t u v w x (Some n) e p h = elim p as (λ _. IsWorkedOut known before t v w x a b (Some n)) [
  | inl y ↦ inl (worked_more t u v w w x (worked_none t u w w e refl) y h)
  | inr y ↦ inr (worked_more t u v w w x (worked_none t u w w e refl) y.0 h, y.1)
]

pub worked_out : (known : List (List Literal)) (before t v : List Assigned) (w x : Watching) (a b : ℕ) (r : Option ℕ)
    → IsWorked known before t v w x a b (false_by r) → IsWorkedOut known before t v w x a b r
worked_out known before t v w x a b None p = p
worked_out known before t v w x a b (Some n) p = inl p

pub worked_early : (known : List (List Literal)) (before t u : List Assigned) (w : Watching) (a n : ℕ)
    → late known before u ≡ late known before t → IsEarly known before n → IsWorkedOut known before t u w w a a (Some n)
worked_early known before t u w a n e k = inr (worked_none t u w w e refl, k)

-- what two facts of an Ok give
pub if_ok_both : {T E : Type 0} (r : Result T E) (P Q R : T → Type 0) → ((x : T) → P x → Q x → R x) → IfOk r P → IfOk r Q → IfOk r R
if_ok_both (Ok x) P Q R h p q = h x p q
if_ok_both (Err e) P Q R h p q = tt

-- what an answer costs
module _ (known : List (List Literal)) (before after : List Assigned) (g : Grows before after) (w w' : Watching) where
  risen : {a b failed : ℕ} → IsWorked known before before after w w' a b failed → (pairs : List (Option (Literal × Literal)))
      → IsLonger w'.pairs pairs → HaveRisen a b (cost known before after w.pairs pairs + failed)
  risen {a} {b} {failed} p pairs l =
      let d = late_dropped known before before after g in
      let m = ap (moved w.pairs) l.1 ∙ moved_longer w.pairs w'.pairs l.0 p.count in
      elim p.at_least as (λ _. HaveRisen a b (cost known before after w.pairs pairs + failed)) [ inl x ↦ inl (omega arith) | inr x ↦ inr x ]

  pub costs_full : {a b : ℕ} → IsWorked known before before after w w' a b 0 → HaveRisen a b (cost known before after w.pairs w'.pairs)
  costs_full {a} {b} p = subst (HaveRisen a b) (omega arith) (risen p w'.pairs ([], sym (append-nil w'.pairs)))

  pub costs_false : {a b : ℕ} (n : ℕ) → IsWorkedOut known before before after w w' a b (Some n) → (pairs : List (Option (Literal × Literal)))
      → IsLonger w'.pairs pairs → HasCost known before n (cost known before after w.pairs pairs) a b
  costs_false {a} {b} n p pairs l = elim p as (λ _. HasCost known before n (cost known before after w.pairs pairs) a b)
      [ inl x ↦ inl (risen x pairs l) | inr x ↦ inr (subst (HaveRisen a b) (omega arith) (risen x.0 pairs l), x.1) ]

-- where no clause is false, and where one is
pub work_full : (old new : Shown) → HaveRisen old.looks new.looks (cost old.known old.trail new.trail old.watched new.watched)
    → All (IsSettled new.trail) old.known → LooksAtWork old new
work_full old new h k = record {
  at_least = h;
  at_conflict = λ s n. absurd ((All-contains (IsSettled new.trail) old.known s.0 k s.1).not_false s.2);
}

pub work_false : (old new : Shown) (n : ℕ) → HasCost old.known old.trail n (cost old.known old.trail new.trail old.watched new.watched)
    old.looks new.looks → IsFalseAt old.known new.trail n → LooksAtWork old new
work_false old new n h f = record {
  at_least = elim h as (λ _. HaveRisen old.looks new.looks (cost old.known old.trail new.trail old.watched new.watched)) [
    | inl x ↦ elim x as (λ _. HaveRisen old.looks new.looks (cost old.known old.trail new.trail old.watched new.watched))
        [ inl y ↦ inl (omega arith) | inr y ↦ inr y ]
    | inr x ↦ x.0
  ];
  at_conflict = λ s e. elim h as (λ _. HaveRisen old.looks new.looks
      (late old.known old.trail (drop (length old.trail) new.trail) + moved old.watched new.watched + 1))
      [ inl x ↦ x | inr x ↦ absurd (e n f.0 f.1 f.2 x.1) ];
}
