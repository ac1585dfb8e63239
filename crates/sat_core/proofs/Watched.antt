-- What the lists of the clauses that watch a literal keep.
use Rattle.std.specs.Prelude.{ℕ, zero, suc, ◌≡◌, ◌≢◌, ◌⊎◌, ◌+◌, ◌<◌, ◌≤◌, List, [], ◌∷◌, ◌++◌, length, Option, Some, None, Contains, drop, get_or, slice_get}
use Rattle.std.proofs.Common.{sym, ◌∙◌, ap, subst, arith, inl, inr}
use Rattle.std.proofs.lemmas.List.{length-append}
use Rattle.std.proofs.lemmas.List.Elements.{Contains-push, Contains-push_cases, Contains-append_left}
use Rattle.proof_steps.specs.declared.Literal.{Literal}
use Rattle.proof_steps.specs.Meaning.{at}
use Rattle.sat_core.specs.declared.short.Short.{Short}
use Rattle.sat_core.specs.Set.{place_of}
use Rattle.sat_core.specs.Watching.{Watching, row, list_at, IsWatch, IsOther, IsPairAt, IsShort, IsOnly, IsShortOf, IsPair, IsWatching, IsUnmoved, IsShortened, IsPaired, IsEntered, CanWatch}
use Rattle.sat_core.specs.Analysis.{IsOneOf}
use Rattle.sat_core.specs.Shown.{IsWatchedPair}
use Rattle.sat_core.proofs.Places.{some_is, within, read, get-contains, contains-get, get-push, at-append, at-push}
use Rattle.sat_core.proofs.Sets.{one-or-other}

-- what is left from a place on, by places
pub drop-get : {X : Type 0} (xs : List X) (j : ℕ) (x : X) → Contains (drop j xs) x → (k : ℕ) × (j ≤ k) × (slice_get xs k ≡ Some x)
drop-get xs zero x c = let r = contains-get xs x c in (r.0, omega arith, r.1)
drop-get [] (suc j) x (k, h, e) = absurd (omega arith)
drop-get (y ∷ ys) (suc j) x c = let r = drop-get ys j x c in (suc r.0, (let q = r.1 in omega arith), r.2)

pub get-drop : {X : Type 0} (xs : List X) (j k : ℕ) (x : X) → j ≤ k → slice_get xs k ≡ Some x → Contains (drop j xs) x
get-drop xs zero k x h e = get-contains xs k x e
get-drop [] (suc j) k x h e = absurd cc
get-drop (y ∷ ys) (suc j) zero x h e = absurd (omega arith)
get-drop (y ∷ ys) (suc j) (suc k) x h e = get-drop ys j k x (omega arith) e

pub none-listed : (list : List ℕ) (j n : ℕ) → length list ≤ j → Contains (drop j list) n → ⊥
none-listed list j n h c = let r = drop-get list j n c in let w : r.0 < length list = within list r.0 n r.2 in
    let l : j ≤ r.0 = r.1 in omega arith

pub at-within : {X : Type 0} (xs : List X) (n : ℕ) (x : X) → at xs n ≡ Some x → (0 < n) × (n ≤ length xs)
at-within xs zero x e = absurd cc
at-within xs (suc n) x e = let w : n < length xs = within xs n x e in (omega arith, omega arith)

pub at-push-cases : {X : Type 0} (xs : List X) (y x : X) (n : ℕ) → at (xs ++ y ∷ []) n ≡ Some x
    → (at xs n ≡ Some x) ⊎ ((n ≡ length xs + 1) × (y ≡ x))
at-push-cases xs y x zero e = absurd cc
at-push-cases xs y x (suc n) e = elim (get-push xs y x n e) as (λ _. (slice_get xs n ≡ Some x) ⊎ ((suc n ≡ length xs + 1) × (y ≡ x)))
    [ inl g ↦ inl g | inr p ↦ inr ((let q = p.0 in omega arith), p.1) ]

-- two lists of one length with one more each
at-both : {X Y : Type 0} (xs : List X) (ys : List Y) (x a : X) (y b : Y) (n : ℕ) → length xs ≡ length ys
    → at (xs ++ x ∷ []) n ≡ Some a → at (ys ++ y ∷ []) n ≡ Some b
    → ((at xs n ≡ Some a) × (at ys n ≡ Some b)) ⊎ ((n ≡ length xs + 1) × (x ≡ a) × (y ≡ b))
at-both xs ys x a y b n l e f = elim (at-push-cases xs x a n e) as
    (λ _. ((at xs n ≡ Some a) × (at ys n ≡ Some b)) ⊎ ((n ≡ length xs + 1) × (x ≡ a) × (y ≡ b))) [
      | inl p ↦ elim (at-push-cases ys y b n f) as (λ _. ((at xs n ≡ Some a) × (at ys n ≡ Some b)) ⊎ ((n ≡ length xs + 1) × (x ≡ a) × (y ≡ b))) [
        | inl q ↦ inl (p, q)
        | inr q ↦ absurd (let w = (at-within xs n a p).1 in let z = q.0 in omega arith)
      ]
      | inr p ↦ elim (at-push-cases ys y b n f) as (λ _. ((at xs n ≡ Some a) × (at ys n ≡ Some b)) ⊎ ((n ≡ length xs + 1) × (x ≡ a) × (y ≡ b))) [
        | inl q ↦ absurd (let w = (at-within ys n b q).1 in let z = p.0 in omega arith)
        | inr q ↦ inr (p.0, p.1, q.1)
      ]
    ]

-- the clause that watches
clause-of : (known : List (List Literal)) (w : Watching) (n : ℕ) (p : Literal × Literal) → IsWatching known w
    → at w.pairs n ≡ Some (Some p) → (c : List Literal) × (at known n ≡ Some c)
clause-of known w zero p k q = absurd cc
clause-of known w (suc n) p k q = let b : n < length known = (let z : n < length w.pairs = within w.pairs n (Some p) q in
    let e = k.count in omega arith) in (get_or known n [], read known n [] b)

pub watch-of : (w w' : Watching) (n : ℕ) (l : Literal) → at w'.pairs n ≡ at w.pairs n → IsWatch w' n l → IsWatch w n l
watch-of w w' n l e (p, q, r) = (p, sym e ∙ q, r)

pub other-of : (w w' : Watching) (n : ℕ) (l m : Literal) → at w'.pairs n ≡ at w.pairs n → IsOther w' n l (Some m) → IsOther w n l (Some m)
other-of w w' n l m e (p, q, r) = (p, sym e ∙ q, r)

-- the two literals that a clause watches
pub watch-is : (w : Watching) (n : ℕ) (l m : Literal) → IsOther w n l (Some m) → IsWatch w n l
watch-is w n l m (p, q, r) = (p, q, elim r as (λ _. (p.0 ≡ l) ⊎ (p.1 ≡ l)) [ inl x ↦ inl x.0 | inr x ↦ inr x.0 ])

none-some : {X : Type 0} (x : X) → None ≡ Some x → ⊥
none-some x e = absurd cc

pub watching_same : (known : List (List Literal)) (w w' : Watching) → IsUnmoved w w' → IsWatching known w → IsWatching known w'
watching_same known w w' u k = record {
  count = ap length u.pairs ∙ k.count;
  pairs = λ n c p e q. k.pairs n c p e (subst (λ x. at x n ≡ Some (Some p)) u.pairs q);
  listed = λ n l h. subst (λ x. Contains x n) (sym (u.lists (place_of l))) (k.listed n l (watch-of w w' n l (ap (λ x. at x n) u.pairs) h));
  shorts = λ n c e q. let r = k.shorts n c e (subst (λ x. at x n ≡ Some None) u.pairs q) in
      (r.0, subst (λ x. Contains x r.0) (sym u.shorts) r.1, r.2, r.3);
  known_shorts = λ t h. k.known_shorts t (subst (λ x. Contains x t) u.shorts h);
  numbers = λ l n h. k.numbers l n (subst (λ x. Contains x n) (u.lists (place_of l)) h);
}

-- beside one of the two literals that a clause watches there is one other
pub other-once : (known : List (List Literal)) (w : Watching) (n : ℕ) (l a b : Literal) → IsWatching known w
    → IsOther w n l (Some a) → IsOther w n l (Some b) → a ≡ b
other-once known w n l a b k (p, q, r) (p', q', r') =
    let e : p ≡ p' = some_is p p' (some_is (Some p) (Some p') (sym q ∙ q')) in
    once (subst (λ (z : Literal × Literal). ((z.0 ≡ l) × (z.1 ≡ b)) ⊎ ((z.1 ≡ l) × (z.0 ≡ b))) (sym e) r') r where
      differ : p.0 ≢ p.1
      differ = let c = clause-of known w n p k q in (k.pairs n c.0 p c.1 q).apart

      once : ((p.0 ≡ l) × (p.1 ≡ b)) ⊎ ((p.1 ≡ l) × (p.0 ≡ b)) → ((p.0 ≡ l) × (p.1 ≡ a)) ⊎ ((p.1 ≡ l) × (p.0 ≡ a)) → a ≡ b
      once (inl x) (inl y) = sym y.1 ∙ x.1
      once (inl x) (inr y) = absurd (differ (x.0 ∙ sym y.0))
      once (inr x) (inl y) = absurd (differ (y.0 ∙ sym x.0))
      once (inr x) (inr y) = sym y.1 ∙ x.1

-- one clause more
module _ (known : List (List Literal)) (w w' : Watching) (clause : List Literal) (k : IsWatching known w) where
  entered_short : IsShort clause → (only : Option Literal) → IsOnly clause only → IsShortened w w' only → IsWatching (known ++ clause ∷ []) w'
  entered_short sh only io s = record {
    count = ap length s.pairs ∙ length-append w.pairs (None ∷ []) ∙ ap (λ n. n + 1) k.count ∙ sym (length-append known (clause ∷ []));
    pairs = λ n c p e q. elim (both n c (Some p) e q) as (λ _. IsPair c p)
        [ inl x ↦ k.pairs n c p x.0 x.1 | inr x ↦ absurd (none-some p x.2) ];
    listed = λ n l h. subst (λ x. Contains (row x (place_of l)) n) (sym s.lists) (k.listed n l (old n l h));
    shorts = λ n c e q. elim (both n c None e q) as (λ _. (t : Short) × Contains w'.shorts t × (t.number ≡ n) × IsShort c) [
      | inl x ↦ (let r = k.shorts n c x.0 x.1 in
          (r.0, subst (λ z. Contains z r.0) (sym s.shorts) (Contains-append_left w.shorts (new ∷ []) r.0 r.1), r.2, r.3))
      | inr x ↦ (
        new,
        subst (λ z. Contains z new) (sym s.shorts) (Contains-push w.shorts new),
        number n x.0,
        subst IsShort x.1 sh,
      )
    ];
    known_shorts = λ t h. elim (Contains-push_cases w.shorts new t (subst (λ z. Contains z t) s.shorts h))
        as (λ _. IsShortOf (known ++ clause ∷ []) t) [
          | inl x ↦ (let r = k.known_shorts t x in (r.0, at-append known (clause ∷ []) t.number r.0 r.1, r.2, r.3))
          | inr x ↦ subst (IsShortOf (known ++ clause ∷ [])) x
              (clause, at-push known clause (length w.pairs + 1) (let q = k.count in omega arith), sh, io)
        ];
    numbers = λ l n h. let r = k.numbers l n (subst (λ x. Contains (row x (place_of l)) n) s.lists h) in
        (r.0, at-append known (clause ∷ []) n r.0 r.1);
  } where
    new : Short
    new = record { number = length w.pairs + 1; literal = only }

    both : (n : ℕ) (c : List Literal) (o : Option (Literal × Literal)) → at (known ++ clause ∷ []) n ≡ Some c → at w'.pairs n ≡ Some o
        → ((at known n ≡ Some c) × (at w.pairs n ≡ Some o)) ⊎ ((n ≡ length known + 1) × (clause ≡ c) × (None ≡ o))
    both n c o e q = at-both known w.pairs clause c None o n (sym k.count) e (subst (λ x. at x n ≡ Some o) s.pairs q)

    number : (n : ℕ) → n ≡ length known + 1 → length w.pairs + 1 ≡ n
    number n e = let q = k.count in omega arith

    old : (n : ℕ) (l : Literal) → IsWatch w' n l → IsWatch w n l
    old n l (p, q, r) = elim (at-push-cases w.pairs None (Some p) n (subst (λ x. at x n ≡ Some (Some p)) s.pairs q)) as (λ _. IsWatch w n l)
        [ inl x ↦ (p, x, r) | inr x ↦ absurd (none-some p x.1) ]

  module _ (p : Literal × Literal) (ip : IsPair clause p) (s : IsPaired w w' p.0 p.1) where
    bigger : (l : Literal) (n : ℕ) → Contains (list_at w l) n → Contains (list_at w' l) n
    bigger l n h = one-or-other l p.0
        (λ q. subst (λ x. Contains (list_at w' x) n) (sym q) (subst (λ x. Contains x n) (sym s.first)
        (Contains-append_left (list_at w p.0) ((length w.pairs + 1) ∷ []) n
        (subst (λ x. Contains (list_at w x) n) q h))))
        (λ na. one-or-other l p.1
        (λ q. subst (λ x. Contains (list_at w' x) n) (sym q) (subst (λ x. Contains x n) (sym s.second)
        (Contains-append_left (list_at w p.1) ((length w.pairs + 1) ∷ []) n
        (subst (λ x. Contains (list_at w x) n) q h))))
        (λ nb. subst (λ x. Contains x n) (sym (s.others l na nb)) h))

    added : (l : Literal) (n : ℕ) → Contains (list_at w' l) n → Contains (list_at w l) n ⊎ (length w.pairs + 1 ≡ n)
    added l n h = one-or-other l p.0
        (λ q. elim (Contains-push_cases (list_at w p.0) (length w.pairs + 1) n
        (subst (λ x. Contains x n) s.first (subst (λ x. Contains (list_at w' x) n) q h)))
        as (λ _. Contains (list_at w l) n ⊎ (length w.pairs + 1 ≡ n))
        [ inl x ↦ inl (subst (λ z. Contains (list_at w z) n) (sym q) x) | inr x ↦ inr x ])
        (λ na. one-or-other l p.1
        (λ q. elim (Contains-push_cases (list_at w p.1) (length w.pairs + 1) n
        (subst (λ x. Contains x n) s.second (subst (λ x. Contains (list_at w' x) n) q h)))
        as (λ _. Contains (list_at w l) n ⊎ (length w.pairs + 1 ≡ n))
        [ inl x ↦ inl (subst (λ z. Contains (list_at w z) n) (sym q) x) | inr x ↦ inr x ])
        (λ nb. inl (subst (λ x. Contains x n) (s.others l na nb) h)))

    number : (n : ℕ) → n ≡ length known + 1 → length w.pairs + 1 ≡ n
    number n e = let q = k.count in omega arith

    both : (n : ℕ) (c : List Literal) (o : Option (Literal × Literal)) → at (known ++ clause ∷ []) n ≡ Some c → at w'.pairs n ≡ Some o
        → ((at known n ≡ Some c) × (at w.pairs n ≡ Some o)) ⊎ ((n ≡ length known + 1) × (clause ≡ c) × (Some p ≡ o))
    both n c o e q = at-both known w.pairs clause c (Some p) o n (sym k.count) e (subst (λ x. at x n ≡ Some o) s.pairs q)

    new-listed : (n : ℕ) (l : Literal) → length w.pairs + 1 ≡ n → (p.0 ≡ l) ⊎ (p.1 ≡ l) → Contains (list_at w' l) n
    new-listed n l e (inl q) = subst (λ x. Contains (list_at w' x) n) q (subst (Contains (list_at w' p.0)) e
        (subst (λ x. Contains x (length w.pairs + 1)) (sym s.first) (Contains-push (list_at w p.0) (length w.pairs + 1))))
    new-listed n l e (inr q) = subst (λ x. Contains (list_at w' x) n) q (subst (Contains (list_at w' p.1)) e
        (subst (λ x. Contains x (length w.pairs + 1)) (sym s.second) (Contains-push (list_at w p.1) (length w.pairs + 1))))

    entered_pair : IsWatching (known ++ clause ∷ []) w'
    entered_pair = record {
      count = ap length s.pairs ∙ length-append w.pairs (Some p ∷ []) ∙ ap (λ n. n + 1) k.count ∙ sym (length-append known (clause ∷ []));
      pairs = λ n c r e q. elim (both n c (Some r) e q) as (λ _. IsPair c r) [
        | inl x ↦ k.pairs n c r x.0 x.1
        | inr x ↦ subst (IsPair c) (some_is p r x.2) (subst (λ z. IsPair z p) x.1 ip)
      ];
      listed = λ n l (r, q, o). elim (at-push-cases w.pairs (Some p) (Some r) n (subst (λ x. at x n ≡ Some (Some r)) s.pairs q))
          as (λ _. Contains (list_at w' l) n) [
            | inl x ↦ bigger l n (k.listed n l (r, x, o))
            | inr x ↦ new-listed n l (sym x.0) (subst (λ (z : Literal × Literal). (z.0 ≡ l) ⊎ (z.1 ≡ l)) (sym (some_is p r x.1)) o)
          ];
      shorts = λ n c e q. elim (both n c None e q) as (λ _. (t : Short) × Contains w'.shorts t × (t.number ≡ n) × IsShort c) [
        | inl x ↦ (let r = k.shorts n c x.0 x.1 in (r.0, subst (λ z. Contains z r.0) (sym s.shorts) r.1, r.2, r.3))
        | inr x ↦ absurd (none-some p (sym x.2))
      ];
      known_shorts = λ t h. let r = k.known_shorts t (subst (λ z. Contains z t) s.shorts h) in
          (r.0, at-append known (clause ∷ []) t.number r.0 r.1, r.2, r.3);
      numbers = λ l n h. elim (added l n h) as (λ _. (c : List Literal) × (at (known ++ clause ∷ []) n ≡ Some c)) [
        | inl x ↦ (let r = k.numbers l n x in (r.0, at-append known (clause ∷ []) n r.0 r.1))
        | inr x ↦ (clause, at-push known clause n (let q = k.count in let y = x in omega arith))
      ];
    }

    other-pair : (n : ℕ) (l m : Literal) → IsOther w' n l (Some m) → IsOther w n l (Some m) ⊎ ((p.0 ≡ l) ⊎ (p.1 ≡ l))
    other-pair n l m (r, q, o) = elim (at-push-cases w.pairs (Some p) (Some r) n (subst (λ x. at x n ≡ Some (Some r)) s.pairs q))
        as (λ _. IsOther w n l (Some m) ⊎ ((p.0 ≡ l) ⊎ (p.1 ≡ l))) [
          | inl x ↦ inl (r, x, o)
          | inr x ↦ inr (subst (λ (z : Literal × Literal). (z.0 ≡ l) ⊎ (z.1 ≡ l)) (sym (some_is p r x.1))
              (elim o as (λ _. (r.0 ≡ l) ⊎ (r.1 ≡ l)) [ inl y ↦ inl y.0 | inr y ↦ inr y.0 ]))
        ]

  pub entered : (watched : Option (Literal × Literal)) → CanWatch clause watched → IsEntered w w' clause watched → IsWatching (known ++ clause ∷ []) w'
  entered None c s = entered_short c s.0 s.1 s.2
  entered (Some p) c s = entered_pair p c s.2

  pub other_or_new : (watched : Option (Literal × Literal)) → CanWatch clause watched → IsEntered w w' clause watched → (n : ℕ) (l m : Literal)
      → IsOther w' n l (Some m) → IsOther w n l (Some m) ⊎ IsOneOf watched l
  other_or_new None c s n l m (p, q, r) = elim (at-push-cases w.pairs None (Some p) n (subst (λ x. at x n ≡ Some (Some p)) s.2.pairs q))
      as (λ _. IsOther w n l (Some m) ⊎ IsOneOf None l)
      [ inl x ↦ inl (p, x, r) | inr x ↦ absurd (none-some p x.1) ]
  other_or_new (Some p) c s n l m x = other-pair p c s.2 n l m x

none-short : (known : List (List Literal)) (w : Watching) (n : ℕ) (c : List Literal) → IsWatching known w → IsPairAt w n None → at known n ≡ Some c
    → (o : Option (Literal × Literal)) → at w.pairs n ≡ Some o → IsShort c
none-short known w n c k none e None q = (k.shorts n c e q).3
none-short known w n c k none e (Some p) q = absurd (none p q)

-- what a search tells of the watched literals
pub watched_pair : (known : List (List Literal)) (w : Watching) (n : ℕ) (r : Option (Literal × Literal)) → IsWatching known w → IsPairAt w n r
    → IsWatchedPair known n r
watched_pair known w zero (Some p) k e = absurd cc
watched_pair known w (suc n) (Some p) k e =
    let b : n < length known = (let z : n < length w.pairs = within w.pairs n (Some p) e in let q = k.count in omega arith) in
    let c = get_or known n [] in
    let h : at known (suc n) ≡ Some c = read known n [] b in
    let i = k.pairs (suc n) c p h e in (c, h, i.first, i.second, i.apart)
watched_pair known w zero None k none = λ c e. absurd cc
watched_pair known w (suc n) None k none = λ c e.
    let b : n < length w.pairs = (let z : n < length known = within known n c e in let q = k.count in omega arith) in
    none-short known w (suc n) c k none e (get_or w.pairs n None) (read w.pairs n None b)
