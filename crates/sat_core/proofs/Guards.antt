-- Where the clauses that watch a literal have a true one.
use Rattle.std.specs.Prelude.{ℕ, suc, ◌≡◌, ◌≢◌, ◌⊎◌, ◌+◌, ◌<◌, ◌≤◌, List, [], ◌∷◌, ◌++◌, length, Option, Some, None, All, Contains, drop, get_or, slice_get, refl}
use Rattle.std.proofs.Common.{sym, ◌∙◌, ap, subst, arith, inl, inr}
use Rattle.std.proofs.lemmas.List.{length-append}
use Rattle.std.proofs.lemmas.Bool.{cases_lt}
use Rattle.std.proofs.lemmas.List.Elements.{All-contains, Contains-push, Contains-push_cases, Contains-append_left}
use Rattle.proof_steps.specs.declared.Literal.{Literal}
use Rattle.proof_steps.specs.Meaning.{at, opposite}
use Rattle.proof_checker.specs.Derived.{has}
use Rattle.sat_core.specs.declared.assigned.Assigned.{Assigned}
use Rattle.sat_core.specs.declared.short.Short.{Short}
use Rattle.sat_core.specs.Trail.{trues, falses, IsApart, IsSettled}
use Rattle.sat_core.specs.Watching.{Watching, list_at, IsWatch, IsOther, IsShort, IsPair, IsWatching, IsGuard, IsGuarded, IsWatched, IsVisiting, IsDropped, IsMoved, HasTrue}
use Rattle.sat_core.specs.Watching.{CanWatch, IsEntered}
use Rattle.sat_core.specs.Charged.{IsClear, IsKept}
use Rattle.sat_core.specs.Shown.{AreTrueBeside}
use Rattle.sat_core.specs.Analysis.{IsOneOf}
use Rattle.sat_core.proofs.Places.{some_is, within, get-contains, contains-get, get-push, get-append, read, from_map, to_map}
use Rattle.proof_checker.proofs.Sets.{has-contains, has-not}
use Rattle.proof_checker.proofs.Sound.{either}
use Rattle.sat_core.proofs.Sets.{one-or-other}
use Rattle.sat_core.proofs.Consistent.{consistent, entry_once, opposite-opposite}
use Rattle.sat_core.proofs.Fresh.{all_from}
use Rattle.sat_core.proofs.Rows.{eq_or}
use Rattle.sat_core.proofs.Watched.{drop-get, get-drop, none-listed, watch-of, other-of, watch-is, other-once, entered, other_or_new}

-- one entry more on the trail
module _ (trail : List Assigned) (a : Assigned) where
  pub guard_push : (other : Literal) (i : ℕ) → IsGuard trail other i → IsGuard (trail ++ a ∷ []) other i
  guard_push other i g = record {
    place = g.place;
    entry = g.entry;
    is_there = get-append trail (a ∷ []) g.place g.entry g.is_there;
    is_other = g.is_other;
    undecided = λ k b l m s. elim (get-push trail a b k s) as (λ _. b.reason ≢ 0) [
      | inl x ↦ g.undecided k b l m x
      | inr x ↦ absurd (let w = within trail g.place g.entry g.is_there in let e = x.0 in omega arith)
    ];
  }

  pub guarded_push : (other l : Literal) (n : ℕ) → n ≤ length trail → IsGuarded trail other l n
      → IsGuarded (trail ++ a ∷ []) other l n
  guarded_push other l n h g = λ i b m s o. elim (get-push trail a b i s) as (λ _. IsGuard (trail ++ a ∷ []) other i) [
    | inl x ↦ guard_push other i (g i b m x o)
    | inr x ↦ absurd (let e = x.0 in omega arith)
  ]

  module _ (known : List (List Literal)) (w : Watching) (head : ℕ) where
    pub watched_push : (a.reason ≢ 0) ⊎ (head ≡ length trail) → IsWatched known trail w head → IsWatched known (trail ++ a ∷ []) w head
    watched_push o k = record {
      watching = k.watching;
      within = (let e = length-append trail (a ∷ []) in let h = k.within in omega arith);
      late = λ i b l s. elim (get-push trail a b i s) as (λ _. b.reason ≢ 0) [
        | inl x ↦ k.late i b l x
        | inr x ↦ elim o as (λ _. b.reason ≢ 0) [
          | inl ne ↦ (λ z. ne (ap (λ (y : Assigned). y.reason) x.1 ∙ z))
          | inr e ↦ absurd (let q = x.0 in omega arith)
        ]
      ];
      guarded = λ n l m x. guarded_push m l head k.within (k.guarded n l m x);
    }

    pub visiting_push : (f : Literal) (j : ℕ) → a.reason ≢ 0 → IsVisiting known trail w head f j
        → IsVisiting known (trail ++ a ∷ []) w head f j
    visiting_push f j ne v = record {
      watched = watched_push (inl ne) v.watched;
      is_next = (v.is_next.0, get-append trail (a ∷ []) head v.is_next.0 v.is_next.1, v.is_next.2);
      visited = λ n m x. elim (v.visited n m x)
          as (λ _. IsGuarded (trail ++ a ∷ []) m f (suc head) ⊎ Contains (drop j (list_at w f)) n) [
            | inl g ↦ inl (guarded_push m f (suc head) (let h = within trail head v.is_next.0 v.is_next.1 in omega arith) g)
            | inr y ↦ inr y
          ];
    }

module _ (known : List (List Literal)) (trail : List Assigned) (w : Watching) (head : ℕ) (f : Literal) where
  pub visit_first : (a : Assigned) → slice_get trail head ≡ Some a → opposite a.literal ≡ f → IsWatched known trail w head
      → IsVisiting known trail w head f 0
  visit_first a e o k = record {
    watched = k;
    is_next = (a, e, o);
    visited = λ n m x. inr (k.watching.listed n f (watch-is w n f m x));
  }

  pub visit_done : (j : ℕ) → length (list_at w f) ≤ j → IsVisiting known trail w head f j → IsWatched known trail w (suc head)
  visit_done j h v = record {
    watching = v.watched.watching;
    within = (let x = within trail head v.is_next.0 v.is_next.1 in omega arith);
    late = λ i a l s. v.watched.late i a (omega arith) s;
    guarded = λ n l m x. one-or-other l f
        (λ q. elim (v.visited n m (subst (λ z. IsOther w n z (Some m)) q x)) as (λ _. IsGuarded trail m l (suc head)) [
          | inl g ↦ subst (λ z. IsGuarded trail m z (suc head)) (sym q) g
          | inr y ↦ absurd (none-listed (list_at w f) j n h y)
        ])
        (λ ne. λ i a y s o. elim (cases_lt i head) as (λ _. IsGuard trail m i) [
          | inl b ↦ v.watched.guarded n l m x i a b s o
          | inr b ↦ absurd (ne (
              let q : i ≡ head = omega arith in
              let r : a ≡ v.is_next.0 = some_is a v.is_next.0 (sym s ∙ ap (slice_get trail) q ∙ v.is_next.1) in
              sym o ∙ ap (λ (y : Assigned). opposite y.literal) r ∙ v.is_next.2))
        ]);
  }

  module _ (apart : IsApart trail) (j : ℕ) (v : IsVisiting known trail w head f j) where
    guard_at : (other : Literal) → IsGuard trail other head → IsGuarded trail other f (suc head)
    guard_at other g = λ i a l s o.
        let r : a.literal ≡ v.is_next.0.literal = sym (opposite-opposite a.literal) ∙ ap opposite (o ∙ sym v.is_next.2)
        ∙ opposite-opposite v.is_next.0.literal in
        let q : i ≡ head = entry_once trail apart i head a v.is_next.0 s v.is_next.1 r in
        subst (IsGuard trail other) (sym q) g

    pub guard_true : (other : Literal) → Contains (trues trail) other → IsGuard trail other head
    guard_true other h = let r = from_map (λ (x : Assigned). x.literal) trail other h in record {
      place = r.place;
      entry = r.element;
      is_there = r.is_there;
      is_other = r.gives;
      undecided = λ k b l m s. v.watched.late k b l s;
    }

    f-false : Contains (falses trail) f
    f-false = subst (Contains (falses trail)) v.is_next.2
        (to_map (λ (x : Assigned). opposite x.literal) trail head v.is_next.0 v.is_next.1)

    -- what guards a false literal that is watched before the place is true
    other-guards : (n : ℕ) (l m : Literal) (i : ℕ) (a : Assigned) → IsOther w n l (Some m) → i < head → slice_get trail i ≡ Some a
        → opposite a.literal ≡ l → Contains (falses trail) m → ⊥
    other-guards n l m i a x h s o b = let g = v.watched.guarded n l m x i a h s o in
        consistent trail apart m (subst (Contains (trues trail)) g.is_other
        (to_map (λ (y : Assigned). y.literal) trail g.place g.entry g.is_there)) b

    module _ (e : ℕ) (here : slice_get (list_at w f) j ≡ Some e) where
      -- another clause than the entry's is still to be visited
      still : (n : ℕ) → n ≢ e → Contains (drop j (list_at w f)) n
          → (k : ℕ) × (j ≤ k) × (k ≢ j) × (slice_get (list_at w f) k ≡ Some n)
      still n ne c = let r = drop-get (list_at w f) j n c in
          (r.0, r.1, (λ z. ne (some_is n e (sym r.2 ∙ ap (slice_get (list_at w f)) z ∙ here))), r.2)

      pub visit_kept : (other : Literal) → IsOther w e f (Some other) → IsGuard trail other head
          → IsVisiting known trail w head f (j + 1)
      visit_kept other o g = record {
        watched = v.watched;
        is_next = v.is_next;
        visited = λ n m x. elim (v.visited n m x)
            as (λ _. IsGuarded trail m f (suc head) ⊎ Contains (drop (j + 1) (list_at w f)) n) [
              | inl y ↦ inl y
              | inr y ↦ elim (eq_or n e) as (λ _. IsGuarded trail m f (suc head) ⊎ Contains (drop (j + 1) (list_at w f)) n) [
                | inl q ↦ inl (subst (λ z. IsGuarded trail z f (suc head))
                    (one-other e f other m v.watched.watching o (subst (λ z. IsOther w z f (Some m)) q x)) (guard_at other g))
                | inr ne ↦ inr (let r = still n ne y in
                    get-drop (list_at w f) (j + 1) r.0 n (let a = r.1 in let b = r.2 in omega arith) r.3)
              ]
            ];
      } where
        one-other : (n : ℕ) (l a b : Literal) → IsWatching known w → IsOther w n l (Some a) → IsOther w n l (Some b) → a ≡ b
        one-other n l a b k x y = other-once known w n l a b k x y

      module _ (w' : Watching) (m : IsDropped w w' f j) (out : IsWatch w e f → ⊥) where
        watch-back : (n : ℕ) (l : Literal) → IsWatch w' n l → IsWatch w n l
        watch-back n l x = watch-of w w' n l (ap (λ z. at z n) m.pairs) x

        other-back : (n : ℕ) (l o : Literal) → IsOther w' n l (Some o) → IsOther w n l (Some o)
        other-back n l o x = other-of w w' n l o (ap (λ z. at z n) m.pairs) x

        listed-still : (n : ℕ) (l : Literal) → IsWatch w n l → Contains (list_at w l) n → Contains (list_at w' l) n
        listed-still n l x y = one-or-other l f
            (λ q. let s = still-all n (λ z. out (subst (λ k. IsWatch w k f) z (subst (IsWatch w n) q x)))
            (subst (λ z. Contains (list_at w z) n) q y) in
            subst (λ z. Contains (list_at w' z) n) (sym q) s)
            (λ ne. subst (λ z. Contains z n) (sym (m.others l ne)) y) where
              still-all : (n : ℕ) → n ≢ e → Contains (list_at w f) n → Contains (list_at w' f) n
              still-all n ne c = let r = contains-get (list_at w f) n c in
                  let z : r.0 ≢ j = λ z. ne (some_is n e (sym r.1 ∙ ap (slice_get (list_at w f)) z ∙ here)) in
                  let t = m.from.kept r.0 n z r.1 in get-contains (list_at w' f) t.0 n t.2

        pub visit_dropped : IsVisiting known trail w' head f j
        visit_dropped = record {
          watched = record {
            watching = record {
              count = ap length m.pairs ∙ v.watched.watching.count;
              pairs = λ n c p d q. v.watched.watching.pairs n c p d (subst (λ z. at z n ≡ Some (Some p)) m.pairs q);
              listed = λ n l x. listed-still n l (watch-back n l x) (v.watched.watching.listed n l (watch-back n l x));
              shorts = λ n c d q. let r = v.watched.watching.shorts n c d (subst (λ z. at z n ≡ Some None) m.pairs q) in
                  (r.0, subst (λ z. Contains z r.0) (sym m.shorts) r.1, r.2, r.3);
              known_shorts = λ t h. v.watched.watching.known_shorts t (subst (λ z. Contains z t) m.shorts h);
              numbers = λ l n h. one-or-other l f
                  (λ q. v.watched.watching.numbers f n (m.from.only n (subst (λ z. Contains (list_at w' z) n) q h)))
                  (λ ne. v.watched.watching.numbers l n (subst (λ z. Contains z n) (m.others l ne) h));
            };
            within = v.watched.within;
            late = v.watched.late;
            guarded = λ n l o x. v.watched.guarded n l o (other-back n l o x);
          };
          is_next = v.is_next;
          visited = λ n o x. elim (v.visited n o (other-back n f o x))
              as (λ _. IsGuarded trail o f (suc head) ⊎ Contains (drop j (list_at w' f)) n) [
                | inl y ↦ inl y
                | inr y ↦ inr (let r = still n (λ z. out (subst (λ k. IsWatch w k f) z (watch-is w n f o (other-back n f o x)))) y in
                    let t = m.from.kept r.0 n r.2 r.3 in
                    get-drop (list_at w' f) j t.0 n (t.1 r.1) t.2)
              ];
        }

      module _ (w' : Watching) (other found : Literal) (m : IsMoved w w' f j e other found)
          (clause : List Literal) (known-is : at known e ≡ Some clause)
          (in_clause : Contains clause found) (differs : found ≢ other) (nf : ¬ Contains (falses trail) found)
          (o : IsOther w e f (Some other)) where
        pair-is : IsPair clause o.0
        pair-is = v.watched.watching.pairs e clause o.0 known-is o.1

        other-in : Contains clause other
        other-in = elim o.2 as (λ _. Contains clause other)
            [ inl x ↦ subst (Contains clause) x.1 pair-is.second | inr x ↦ subst (Contains clause) x.1 pair-is.first ]

        other-first : IsOther w e other (Some f)
        other-first = (
          o.0,
          o.1,
          elim o.2 as (λ _. ((o.0.0 ≡ other) × (o.0.1 ≡ f)) ⊎ ((o.0.1 ≡ other) × (o.0.0 ≡ f)))
              [ inl x ↦ inr (x.1, x.0) | inr x ↦ inl (x.1, x.0) ],
        )

        other-watched : IsWatch w e other
        other-watched = watch-is w e other f other-first

        other-not : other ≢ f
        other-not q = elim o.2 [ inl x ↦ pair-is.apart (x.0 ∙ sym q ∙ sym x.1) | inr x ↦ pair-is.apart (x.1 ∙ q ∙ sym x.0) ]

        found-not : found ≢ f
        found-not q = nf (subst (Contains (falses trail)) (sym q) f-false)

        back : (n : ℕ) (l : Literal) → n ≢ e → IsWatch w' n l → IsWatch w n l
        back n l ne x = watch-of w w' n l (m.pairs n ne) x

        back-other : (n : ℕ) (l k : Literal) → n ≢ e → IsOther w' n l (Some k) → IsOther w n l (Some k)
        back-other n l k ne x = other-of w w' n l k (m.pairs n ne) x

        new-watch : (l : Literal) → IsWatch w' e l → (found ≡ l) ⊎ (other ≡ l)
        new-watch l (p, q, r) = let k : (found, other) ≡ p = some_is (found, other) p (some_is (Some (found, other)) (Some p) (sym m.here ∙ q)) in
            subst (λ (z : Literal × Literal). (z.0 ≡ l) ⊎ (z.1 ≡ l)) (sym k) r

        grows : (l : Literal) (n : ℕ) → l ≢ f → Contains (list_at w l) n → Contains (list_at w' l) n
        grows l n ne h = one-or-other l found
            (λ q. subst (λ z. Contains (list_at w' z) n) (sym q) (subst (λ z. Contains z n) (sym m.to)
            (Contains-append_left (list_at w found) (e ∷ []) n
            (subst (λ z. Contains (list_at w z) n) q h))))
            (λ nd. subst (λ z. Contains z n) (sym (m.others l ne nd)) h)

        kept-listed : (n : ℕ) (l : Literal) → n ≢ e → Contains (list_at w l) n → Contains (list_at w' l) n
        kept-listed n l ne c = one-or-other l f
            (λ y. let r = contains-get (list_at w f) n (subst (λ z. Contains (list_at w z) n) y c) in
            let z : r.0 ≢ j = λ z. ne (some_is n e (sym r.1 ∙ ap (slice_get (list_at w f)) z ∙ here)) in
            let t = m.from.kept r.0 n z r.1 in
            subst (λ z. Contains (list_at w' z) n) (sym y) (get-contains (list_at w' f) t.0 n t.2))
            (λ nf. grows l n nf c)

        found-listed : Contains (list_at w' found) e
        found-listed = subst (λ z. Contains z e) (sym m.to) (Contains-push (list_at w found) e)

        other-listed : Contains (list_at w' other) e
        other-listed = grows other e other-not (v.watched.watching.listed e other other-watched)

        moved-watching : IsWatching known w'
        moved-watching = record {
          count = m.count ∙ v.watched.watching.count;
          pairs = λ n c p d q. elim (eq_or n e) as (λ _. IsPair c p) [
            | inl z ↦ subst (IsPair c) (some_is (found, other) p (some_is (Some (found, other)) (Some p) (sym m.here ∙ ap (at w'.pairs) (sym z) ∙ q)))
                (subst (λ y. IsPair y (found, other)) (some_is clause c (sym known-is ∙ ap (at known) (sym z) ∙ d))
                record { first = in_clause; second = other-in; apart = differs })
            | inr ne ↦ v.watched.watching.pairs n c p d (sym (m.pairs n ne) ∙ q)
          ];
          listed = λ n l x. elim (eq_or n e) as (λ _. Contains (list_at w' l) n) [
            | inl z ↦ subst (Contains (list_at w' l)) (sym z) (elim (new-watch l (subst (λ k. IsWatch w' k l) z x)) as (λ _. Contains (list_at w' l) e)
                [ inl q ↦ subst (λ y. Contains (list_at w' y) e) q found-listed | inr q ↦ subst (λ y. Contains (list_at w' y) e) q other-listed ])
            | inr ne ↦ kept-listed n l ne (v.watched.watching.listed n l (back n l ne x))
          ];
          shorts = λ n c d q. elim (eq_or n e) as (λ _. (t : Short) × Contains w'.shorts t × (t.number ≡ n) × IsShort c) [
            | inl z ↦ absurd (none-is (found, other) (some_is None (Some (found, other)) (sym q ∙ ap (at w'.pairs) z ∙ m.here)))
            | inr ne ↦ (let r = v.watched.watching.shorts n c d (sym (m.pairs n ne) ∙ q) in
                (r.0, subst (λ z. Contains z r.0) (sym m.shorts) r.1, r.2, r.3))
          ];
          known_shorts = λ t h. v.watched.watching.known_shorts t (subst (λ z. Contains z t) m.shorts h);
          numbers = λ l n h. one-or-other l f
              (λ q. v.watched.watching.numbers f n (m.from.only n (subst (λ z. Contains (list_at w' z) n) q h)))
              (λ nf. one-or-other l found
              (λ q. elim (Contains-push_cases (list_at w found) e n
              (subst (λ z. Contains z n) m.to (subst (λ z. Contains (list_at w' z) n) q h)))
              as (λ _. (c : List Literal) × (at known n ≡ Some c))
              [ inl y ↦ v.watched.watching.numbers found n y | inr y ↦ subst (λ z. (c : List Literal) × (at known z ≡ Some c)) y (clause, known-is) ])
              (λ nd. v.watched.watching.numbers l n (subst (λ z. Contains z n) (m.others l nf nd) h)));
        } where
          none-is : {X : Type 0} (x : X) → None ≡ Some x → ⊥
          none-is x e = absurd cc

        -- neither of the two that are watched now became false before the place
        early : (l : Literal) (i : ℕ) (a : Assigned) → i < head → slice_get trail i ≡ Some a → opposite a.literal ≡ l
            → (found ≡ l) ⊎ (other ≡ l) → ⊥
        early l i a h s t (inl q) = nf (subst (Contains (falses trail)) (t ∙ sym q) (to_map (λ (y : Assigned). opposite y.literal) trail i a s))
        early l i a h s t (inr q) = other-guards e other f i a other-first h s (t ∙ sym q) f-false

        -- nor did one of the two that were watched
        early-old : (l : Literal) (i : ℕ) (a : Assigned) → i < head → slice_get trail i ≡ Some a → opposite a.literal ≡ l
            → (l ≡ f) ⊎ (l ≡ other) → ⊥
        early-old l i a h s t (inl q) =
            let r : a.literal ≡ v.is_next.0.literal = sym (opposite-opposite a.literal) ∙ ap opposite (t ∙ q ∙ sym v.is_next.2)
            ∙ opposite-opposite v.is_next.0.literal in
            let z : i ≡ head = entry_once trail apart i head a v.is_next.0 s v.is_next.1 r in absurd (omega arith)
        early-old l i a h s t (inr q) = other-guards e other f i a other-first h s (t ∙ q) f-false

        one-of-two : (l : Literal) → (o.0.0 ≡ l) ⊎ (o.0.1 ≡ l) → (l ≡ f) ⊎ (l ≡ other)
        one-of-two l x = elim o.2 as (λ _. (l ≡ f) ⊎ (l ≡ other)) [
          | inl y ↦ elim x as (λ _. (l ≡ f) ⊎ (l ≡ other)) [ inl z ↦ inl (sym z ∙ y.0) | inr z ↦ inr (sym z ∙ y.1) ]
          | inr y ↦ elim x as (λ _. (l ≡ f) ⊎ (l ≡ other)) [ inl z ↦ inr (sym z ∙ y.1) | inr z ↦ inl (sym z ∙ y.0) ]
        ]

        clear-old : IsClear trail head (at w.pairs e)
        clear-old p q l x i a h s t =
            let k : p ≡ o.0 = some_is p o.0 (some_is (Some p) (Some o.0) (sym q ∙ o.1)) in
            early-old l i a h s t (one-of-two l (subst (λ (z : Literal × Literal). (z.0 ≡ l) ⊎ (z.1 ≡ l)) k x))

        clear-new : IsClear trail head (at w'.pairs e)
        clear-new p q l x i a h s t =
            let k : p ≡ (found, other) = some_is p (found, other) (some_is (Some p) (Some (found, other)) (sym q ∙ m.here)) in
            early l i a h s t (subst (λ (z : Literal × Literal). (z.0 ≡ l) ⊎ (z.1 ≡ l)) k x)

        pub kept_moved : IsKept trail head w w'
        kept_moved n = elim (eq_or n e) as (λ _. (at w'.pairs n ≡ at w.pairs n)
            ⊎ (IsClear trail head (at w.pairs n) × IsClear trail head (at w'.pairs n))) [
              | inl z ↦ inr (
                subst (λ y. IsClear trail head (at w.pairs y)) (sym z) clear-old,
                subst (λ y. IsClear trail head (at w'.pairs y)) (sym z) clear-new,
              )
              | inr ne ↦ inl (m.pairs n ne)
            ]

        pub visit_moved : IsVisiting known trail w' head f j
        visit_moved = record {
          watched = record {
            watching = moved-watching;
            within = v.watched.within;
            late = v.watched.late;
            guarded = λ n l k x. elim (eq_or n e) as (λ _. IsGuarded trail k l head) [
              | inl z ↦ (λ i a h s t. absurd (early l i a h s t (new-watch l (subst (λ y. IsWatch w' y l) z (watch-is w' n l k x)))))
              | inr ne ↦ v.watched.guarded n l k (back-other n l k ne x)
            ];
          };
          is_next = v.is_next;
          visited = λ n k x. elim (eq_or n e) as (λ _. IsGuarded trail k f (suc head) ⊎ Contains (drop j (list_at w' f)) n) [
            | inl z ↦ absurd (elim (new-watch f (subst (λ y. IsWatch w' y f) z (watch-is w' n f k x))) [ inl q ↦ found-not q | inr q ↦ other-not q ])
            | inr ne ↦ elim (v.visited n k (back-other n f k ne x)) as (λ _. IsGuarded trail k f (suc head) ⊎ Contains (drop j (list_at w' f)) n) [
              | inl y ↦ inl y
              | inr y ↦ inr (let r = still n ne y in let t = m.from.kept r.0 n r.2 r.3 in
                  get-drop (list_at w' f) j t.0 n (t.1 r.1) t.2)
            ]
          ];
        }

-- where all lists were gone over and one of two watched literals is false, the other is true
pub other_true : (known : List (List Literal)) (trail : List Assigned) (w : Watching) → IsWatched known trail w (length trail)
    → (n : ℕ) (l m : Literal) → IsOther w n l (Some m) → Contains (falses trail) l → Contains (trues trail) m
other_true known trail w k n l m x f = let r = from_map (λ (y : Assigned). opposite y.literal) trail l f in
    let g = k.guarded n l m x r.place r.element (within trail r.place r.element r.is_there) r.is_there r.gives in
    subst (Contains (trues trail)) g.is_other (to_map (λ (y : Assigned). y.literal) trail g.place g.entry g.is_there)

-- where all lists were gone over, all clauses are settled
module _ (known : List (List Literal)) (trail : List Assigned) (w : Watching) (apart : IsApart trail)
    (k : IsWatched known trail w (length trail))
    (shorts : (t : Short) (c : List Literal) → Contains w.shorts t → at known t.number ≡ Some c → HasTrue trail c) where
  settled-true : (c : List Literal) (t : Literal) → Contains c t → Contains (trues trail) t → IsSettled trail c
  settled-true c t i h = record {
    not_false = λ f. consistent trail apart t h (All-contains (Contains (falses trail)) c t f i);
    not_unit = λ l o. subst (Contains (trues trail)) (o.others t i (λ f. consistent trail apart t h f)) h;
  }

  both-open : (c : List Literal) (p : Literal × Literal) → IsPair c p → (¬ Contains (falses trail) p.0) → (¬ Contains (falses trail) p.1) → IsSettled trail c
  both-open c p i a b = record {
    not_false = λ f. a (All-contains (Contains (falses trail)) c p.0 f i.first);
    not_unit = λ l o. absurd (i.apart (o.others p.0 i.first a ∙ sym (o.others p.1 i.second b)));
  }

  settled-by : (n : ℕ) (c : List Literal) (o : Option (Literal × Literal)) → at known n ≡ Some c → at w.pairs n ≡ Some o → IsSettled trail c
  settled-by n c None e q = let r = k.watching.shorts n c e q in
      let t = shorts r.0 c r.1 (ap (at known) r.2 ∙ e) in settled-true c t.0 t.1 t.2
  settled-by n c (Some p) e q = either (has (falses trail) p.0)
      (λ y. settled-true c p.1 (k.watching.pairs n c p e q).second (other_true known trail w k n p.0 p.1 (p, q, inl (refl, refl)) (has-contains (falses trail) p.0 y)))
      (λ x. either (has (falses trail) p.1)
      (λ y. settled-true c p.0 (k.watching.pairs n c p e q).first (other_true known trail w k n p.1 p.0 (p, q, inr (refl, refl)) (has-contains (falses trail) p.1 y)))
      (λ z. both-open c p (k.watching.pairs n c p e q) (has-not (falses trail) p.0 x) (has-not (falses trail) p.1 z)))

  pub all_settled : All (IsSettled trail) known
  all_settled = all_from (IsSettled trail) known (λ c h. let r = contains-get known c h in
      let b : r.0 < length w.pairs = (let q = k.watching.count in let z = within known r.0 c r.1 in omega arith) in
      settled-by (suc r.0) c (get_or w.pairs r.0 None) r.1 (read w.pairs r.0 None b))

-- where all lists were gone over, of two watched literals one is true where the other is false
pub all_beside : (known : List (List Literal)) (trail : List Assigned) (w : Watching) (head : ℕ) → head ≡ length trail
    → IsWatched known trail w head → AreTrueBeside trail w.pairs
all_beside known trail w head e k = λ n p q. (
  other_true known trail w (subst (IsWatched known trail w) e k) n p.0 p.1 (p, q, inl (refl, refl)),
  other_true known trail w (subst (IsWatched known trail w) e k) n p.1 p.0 (p, q, inr (refl, refl)),
)

-- a clause more
pub watched_more : (known : List (List Literal)) (trail : List Assigned) (w w' : Watching) (head : ℕ) (clause : List Literal)
    (watched : Option (Literal × Literal)) → CanWatch clause watched → IsEntered w w' clause watched
    → ((i : ℕ) (a : Assigned) → i < head → slice_get trail i ≡ Some a → (l : Literal) → IsOneOf watched l → opposite a.literal ≢ l)
    → IsWatched known trail w head → IsWatched (known ++ clause ∷ []) trail w' head
watched_more known trail w w' head clause watched c s unseen k = record {
  watching = entered known w w' clause k.watching watched c s;
  within = k.within;
  late = k.late;
  guarded = λ n l m x. elim (other_or_new known w w' clause k.watching watched c s n l m x) as (λ _. IsGuarded trail m l head) [
    | inl o ↦ k.guarded n l m o
    | inr o ↦ (λ i a h g q. absurd (unseen i a h g l o q))
  ];
}

pub watched_new : (known : List (List Literal)) (trail : List Assigned) (w : Watching) → trail ≡ [] → IsWatching known w → IsWatched known trail w 0
watched_new known trail w e k = subst (λ t. IsWatched known t w 0) (sym e) record {
  watching = k;
  within = omega arith;
  late = λ i a h s. absurd cc;
  guarded = λ n l m x. λ i a h s o. absurd (omega arith);
}
