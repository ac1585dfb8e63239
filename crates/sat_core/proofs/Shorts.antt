-- Clauses that watch nothing.
use Rattle.std.specs.Prelude.{ℕ, ◌≡◌, ◌≢◌, ◌+◌, ◌<◌, Bool, true, false, None, List, [], ◌∷◌, ◌++◌, Some, length, All, Contains, take, get_or, refl}
use Rattle.std.proofs.Common.{sym, ◌∙◌, ap, subst, arith, inl}
use Rattle.std.proofs.lemmas.List.{map-append, take_more, append_assoc}
use Rattle.std.proofs.lemmas.List.Elements.{All-nil, All-contains, All-push, Contains-push, Contains-append_left}
use Rattle.proof_steps.specs.declared.Literal.{Literal}
use Rattle.sat_core.specs.declared.assigned.Assigned.{Assigned}
use Rattle.sat_core.specs.declared.short.Short.{Short}
use Rattle.sat_core.specs.Trail.{trues, falses, value_of, IsFalse, IsSettled, IsTrail}
use Rattle.sat_core.specs.Shown.{plain, Grows}
use Rattle.sat_core.specs.Held.{Covers}
use Rattle.sat_core.specs.Analysis.{IsLast}
use Rattle.sat_core.specs.Propagation.{IsFalseAt, IsFree}
use Rattle.sat_core.specs.Watching.{Watching, IsShort, IsOnly, IsShortOf, IsWatched, HasTrue}
use Rattle.sat_core.specs.Visiting.{IsAdvance, IsImpliedShort, HoldShorts}
use Rattle.sat_core.proofs.Places.{some_is, at-contains, get-contains, read, from_map, to_map, take-within}
use Rattle.proof_checker.specs.Derived.{has}
use Rattle.proof_checker.specs.Rules.{IsOnlyOutside}
use Rattle.proof_checker.proofs.Sets.{has-contains, has-not}
use Rattle.sat_core.proofs.Standings.{value_true, value_false}
use Rattle.sat_core.proofs.Fresh.{all_from}
use Rattle.sat_core.proofs.Growth.{grow}
use Rattle.sat_core.proofs.Watched.{at-within}
use Rattle.sat_core.proofs.Guards.{watched_push, all_settled}

-- a settled clause without two different literals has a true one
pub settled_short : (trail : List Assigned) (clause : List Literal) → IsShort clause → IsSettled trail clause → HasTrue trail clause
settled_short trail [] s k = absurd (k.not_false (All-nil (Contains (falses trail))))
settled_short trail (l ∷ ls) s k =
    let here : Contains (l ∷ ls) l = (0, omega arith, refl) in
    let out : ¬ Contains (falses trail) l = (λ f. k.not_false (all_from (Contains (falses trail)) (l ∷ ls)
    (λ m c. subst (Contains (falses trail)) (s l m here c) f))) in
    (l, here, k.not_unit l record { in_clause = here; outside = out; others = λ m c n. s m l c here })

pub true_more : (trail more : List Assigned) (clause : List Literal) → HasTrue trail clause → HasTrue (trail ++ more) clause
true_more trail more clause (l, c, t) = (
  l,
  c,
  subst (λ x. Contains x l) (sym (map-append (λ (a : Assigned). a.literal) trail more))
      (Contains-append_left (trues trail) (trues more) l t),
)

pub holds_more : (known : List (List Literal)) (old new : List Assigned) (n : ℕ) → Grows old new → IsImpliedShort known old n true
    → IsImpliedShort known new n true
holds_more known old new n (more, e) h = λ c k. subst (λ t. HasTrue t c) (sym e) (true_more old more c (h c k))

pub hold_more : (known : List (List Literal)) (old new : List Assigned) (shorts : List Short) → Grows old new
    → All (λ (s : Short). IsImpliedShort known old s.number true) shorts → All (λ (s : Short). IsImpliedShort known new s.number true) shorts
hold_more known old new shorts g h = all_from (λ (s : Short). IsImpliedShort known new s.number true) shorts
    (λ s c. holds_more known old new s.number g (All-contains (λ (s : Short). IsImpliedShort known old s.number true) shorts s h c))

taken-true : (trail : List Assigned) (d : ℕ) (clause : List Literal) → HasTrue (take d trail) clause → HasTrue trail clause
taken-true trail d clause (l, c, t) = let r = from_map (λ (a : Assigned). a.literal) (take d trail) l t in
    let p = take-within trail d r.place r.element r.is_there in
    (l, c, subst (Contains (trues trail)) r.gives (to_map (λ (a : Assigned). a.literal) trail r.place r.element p.1))

-- after a decision they have true literals
pub decided_shorts : (known : List (List Literal)) (trail trail' : List Assigned) (w : Watching) (head d : ℕ) → IsTrail known trail → trail' ≡ trail
    → IsLast trail' (Some d) → IsWatched known trail w head → HoldShorts known trail w
decided_shorts known trail trail' w head d t e l k =
    let q : IsLast trail (Some d) = subst (λ x. IsLast x (Some d)) e l in
    all_from (λ (z : Short). IsImpliedShort known trail z.number true) w.shorts (λ z c. λ cl a. let r = k.watching.known_shorts z c in
    let s : IsShort cl = subst IsShort (some_is r.0 cl (sym r.1 ∙ a)) r.2 in
    taken-true trail d cl (settled_short (take d trail) cl s
    (All-contains (IsSettled (take d trail)) known cl (t.settled d q.0 q.1 q.2) (at-contains known z.number cl a))))

-- a clause with one literal
module _ (known : List (List Literal)) (trail : List Assigned) (short : Short) (o : IsShortOf known short) where
  pub empty_false : short.literal ≡ None → IsFalseAt known trail short.number
  empty_false e = (o.0, o.1, subst (IsFalse trail) (sym (subst (IsOnly o.0) e o.3)) (All-nil (Contains (falses trail))))

  module _ (l : Literal) (e : short.literal ≡ Some l) where
    in-clause : Contains o.0 l
    in-clause = subst (IsOnly o.0) e o.3

    pub only_false : has (falses trail) l ≡ true → IsFalseAt known trail short.number
    only_false h = (
      o.0,
      o.1,
      all_from (Contains (falses trail)) o.0
          (λ m c. subst (Contains (falses trail)) (o.2 l m in-clause c) (has-contains (falses trail) l h)),
    )

    pub only_true : has (trues trail) l ≡ true → IsImpliedShort known trail short.number true
    only_true h = λ c a. subst (HasTrue trail) (some_is o.0 c (sym o.1 ∙ a)) (l, in-clause, has-contains (trues trail) l h)

    pub short_value : (b : Bool) → Some b ≡ value_of trail l → IsImpliedShort known trail short.number b
    short_value true v = only_true (value_true trail l v)
    short_value false v = only_false (value_false trail l v)

    module _ (w : Watching) (head : ℕ) (t : IsTrail known trail) (k : IsWatched known trail w head) (free : IsFree trail l) where
      unit : IsOnlyOutside (falses trail) o.0 l
      unit = record {
        in_clause = in-clause;
        outside = has-not (falses trail) l free.not_false;
        others = λ m c n. o.2 m l c in-clause;
      }

      not-zero : short.number ≢ 0
      not-zero z = let p = (at-within known short.number o.0 o.1).0 in let y : short.number ≡ 0 = z in omega arith

      pub unit_advance : IsAdvance known trail (trail ++ record { literal = l; reason = short.number } ∷ [])
      unit_advance = record {
        is_trail = grow known trail t record { literal = l; reason = short.number } (has-not (trues trail) l free.not_true)
            (has-not (falses trail) l free.not_false)
            (λ ne. record { clause = o.0; is_reason = o.1; unit = unit }) (λ e. absurd (not-zero e));
        within = λ variables c x. All-push (λ (a : Assigned). Contains variables (plain a.literal)) trail record { literal = l; reason = short.number } x
            (All-contains (λ y. Contains variables (plain y)) o.0 l
            (All-contains (Covers variables) known o.0 c (at-contains known short.number o.0 o.1)) in-clause);
        grows = (record { literal = l; reason = short.number } ∷ [], refl);
      }

      pub unit_watched : IsWatched known (trail ++ record { literal = l; reason = short.number } ∷ []) w head
      unit_watched = watched_push trail record { literal = l; reason = short.number } known w head (inl not-zero) k

      pub unit_holds : IsImpliedShort known (trail ++ record { literal = l; reason = short.number } ∷ []) short.number true
      unit_holds = λ c a. subst (HasTrue (trail ++ record { literal = l; reason = short.number } ∷ [])) (some_is o.0 c (sym o.1 ∙ a)) (
        l,
        in-clause,
        subst (λ x. Contains x l) (sym (map-append (λ (y : Assigned). y.literal) trail (record { literal = l; reason = short.number } ∷ [])))
            (Contains-push (trues trail) l),
      )

-- short after short
pub next_holds : (known : List (List Literal)) (old new : List Assigned) (shorts : List Short) (i : ℕ) (d : Short) → i < length shorts
    → Grows old new → All (λ (s : Short). IsImpliedShort known old s.number true) (take i shorts)
    → IsImpliedShort known new (get_or shorts i d).number true
    → All (λ (s : Short). IsImpliedShort known new s.number true) (take (i + 1) shorts)
next_holds known old new shorts i d h g a p = subst (All (λ (s : Short). IsImpliedShort known new s.number true)) (sym (take_more shorts i d h))
    (All-push (λ (s : Short). IsImpliedShort known new s.number true) (take i shorts) (get_or shorts i d)
    (hold_more known old new (take i shorts) g a) p)

pub short_at : (known : List (List Literal)) (trail : List Assigned) (w : Watching) (head i : ℕ) (s : Short) (shorts : List Short)
    → IsWatched known trail w head → shorts ≡ w.shorts → i < length shorts → s ≡ get_or shorts i s → IsShortOf known s
short_at known trail w head i s shorts k e h f = k.watching.known_shorts s
    (subst (λ x. Contains x s) e (subst (Contains shorts) (sym f) (get-contains shorts i (get_or shorts i s) (read shorts i s h))))

pub grows_more : (a b c : List Assigned) → Grows a b → Grows b c → Grows a c
grows_more a b c (x, p) (y, q) = (x ++ y, q ∙ ap (λ z. z ++ y) p ∙ append_assoc a x y)

-- where all is gone through, all clauses are settled
pub all_done : (known : List (List Literal)) (old new : List Assigned) (w w' : Watching) (head : ℕ) → IsAdvance known old new → head ≡ length new
    → IsWatched known new w' head → w'.shorts ≡ w.shorts → HoldShorts known old w → All (IsSettled new) known
all_done known old new w w' head a e k s h = all_settled known new w' a.is_trail.apart (subst (IsWatched known new w') e k)
    (λ t c m q. All-contains (λ (z : Short). IsImpliedShort known new z.number true) w'.shorts t
    (subst (All (λ (z : Short). IsImpliedShort known new z.number true)) (sym s) (hold_more known old new w.shorts a.grows h)) m c q)
