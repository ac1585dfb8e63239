-- What a visit keeps.
use Rattle.std.specs.Prelude.{ℕ, suc, ◌≡◌, ◌≢◌, ◌⊎◌, ◌+◌, ◌<◌, ◌≤◌, true, false, List, [], ◌∷◌, ◌++◌, length, Some, None, Contains, slice_get, refl}
use Rattle.std.proofs.Common.{sym, ◌∙◌, ap, subst, arith, inl, inr}
use Rattle.std.proofs.lemmas.List.{append-nil, append_assoc}
use Rattle.std.proofs.lemmas.List.Elements.{All-contains, All-push, Contains-push}
use Rattle.std.proofs.lemmas.List.{map-append}
use Rattle.proof_steps.specs.declared.Literal.{Literal}
use Rattle.proof_steps.specs.Meaning.{at, opposite}
use Rattle.proof_checker.specs.Derived.{has}
use Rattle.sat_core.specs.declared.assigned.Assigned.{Assigned}
use Rattle.sat_core.specs.declared.visiting.Visit.TheVariants.{Next, Failed}
use Rattle.sat_core.specs.Trail.{trues, falses, IsTrail}
use Rattle.sat_core.specs.Shown.{plain}
use Rattle.sat_core.specs.Held.{Covers}
use Rattle.sat_core.specs.Watching.{Watching, list_at, IsOther, IsWatched, IsVisiting, IsUnmoved, IsDropped, IsMoved}
use Rattle.sat_core.specs.Visiting.{CanStand, IsReplacement, IsAdvance, IsVisit}
use Rattle.sat_core.specs.Charged.{is_due, due, IsKept}
use Rattle.sat_core.proofs.Places.{some_is, within, get-contains, at-contains, to_map}
use Rattle.proof_checker.proofs.Sets.{has-contains, contains-has, has-not}
use Rattle.proof_checker.proofs.Sound.{either}
use Rattle.sat_core.proofs.Sets.{one-or-other}
use Rattle.sat_core.proofs.Growth.{grow}
use Rattle.sat_core.proofs.Rows.{eq_or}
use Rattle.sat_core.proofs.Consistent.{consistent}
use Rattle.sat_core.proofs.Holders.{two-of, fewer_at, some_counted, due_yes, due_no_first, due_no_second, due_no_watch, due_less}
use Rattle.sat_core.proofs.Fresh.{all_from}
use Rattle.sat_core.proofs.Watched.{other-of, watching_same, at-within}
use Rattle.sat_core.proofs.Guards.{visiting_push, guard_true, visit_kept, visit_moved, kept_moved, visit_dropped}

pub advance_none : (known : List (List Literal)) (trail : List Assigned) → IsTrail known trail → IsAdvance known trail trail
advance_none known trail t = record { is_trail = t; within = λ variables c w. w; grows = ([], sym (append-nil trail)) }

pub advance_more : (known : List (List Literal)) (a b c : List Assigned) → IsAdvance known a b → IsAdvance known b c → IsAdvance known a c
advance_more known a b c p q = record {
  is_trail = q.is_trail;
  within = λ variables k w. q.within variables k (p.within variables k w);
  grows = (p.grows.0 ++ q.grows.0, q.grows.1 ∙ ap (λ x. x ++ q.grows.0) p.grows.1 ∙ append_assoc a p.grows.0 q.grows.0);
}

pub advance_as : (known : List (List Literal)) (a b b' : List Assigned) → b' ≡ b → IsAdvance known a b → IsAdvance known a b'
advance_as known a b b' e p = subst (IsAdvance known a) (sym e) p

pub watched_same : (known : List (List Literal)) (trail : List Assigned) (w w' : Watching) (head : ℕ) → IsUnmoved w w'
    → IsWatched known trail w head → IsWatched known trail w' head
watched_same known trail w w' head u k = record {
  watching = watching_same known w w' u k.watching;
  within = k.within;
  late = k.late;
  guarded = λ n l m x. k.guarded n l m (other-of w w' n l m (ap (λ z. at z n) u.pairs) x);
}

-- one literal is implied by a clause whose others are false
module _ (known : List (List Literal)) (trail : List Assigned) (t : IsTrail known trail) (number : ℕ) (clause : List Literal)
    (here : at known number ≡ Some clause) (l : Literal) (in_clause : Contains clause l)
    (others : IsReplacement trail clause l None) (nt : has (trues trail) l ≡ false) (nf : has (falses trail) l ≡ false) where
  others-false : (m : Literal) → Contains clause m → (¬ Contains (falses trail) m) → m ≡ l
  others-false m c n = one-or-other m l (λ e. e)
      (λ ne. absurd (n (has-contains (falses trail) m (All-contains (λ x. CanStand trail x l false) clause m others c ne))))

  implied : IsTrail known (trail ++ record { literal = l; reason = number } ∷ [])
  implied = grow known trail t record { literal = l; reason = number } (has-not (trues trail) l nt) (has-not (falses trail) l nf)
      (λ ne. record {
        clause = clause;
        is_reason = here;
        unit = record { in_clause = in_clause; outside = has-not (falses trail) l nf; others = others-false };
      })
      (λ e. absurd (let p = (at-within known number clause here).0 in let z : number ≡ 0 = e in omega arith))

  pub advance_push : IsAdvance known trail (trail ++ record { literal = l; reason = number } ∷ [])
  advance_push = record {
    is_trail = implied;
    within = λ variables c w. All-push (λ (a : Assigned). Contains variables (plain a.literal)) trail record { literal = l; reason = number } w
        (All-contains (λ x. Contains variables (plain x)) clause l
        (All-contains (Covers variables) known clause c (at-contains known number clause here)) in_clause);
    grows = (record { literal = l; reason = number } ∷ [], refl);
  }

module _ (known : List (List Literal)) (trail : List Assigned) (t : IsTrail known trail) (w : Watching) (head : ℕ) (f : Literal) (j : ℕ)
    (v : IsVisiting known trail w head f j) (e : ℕ) (here : slice_get (list_at w f) j ≡ Some e) where
  entry-clause : (c : List Literal) × (at known e ≡ Some c)
  entry-clause = v.watched.watching.numbers f e (get-contains (list_at w f) j e here)

  pub entry_number : (0 < e) × (e ≤ length known)
  entry_number = at-within known e entry-clause.0 entry-clause.1

  pub forgotten : (w' : Watching) → IsDropped w w' f j → IsOther w e f None → IsVisit known trail w w' head f j (Next j)
  forgotten w' m out = (
    visit_dropped known trail w head f t.apart j v e here w' m out,
    (let q = within (list_at w f) j e here in let z = m.from.fewer in omega arith),
  )

  module _ (other : Literal) (o : IsOther w e f (Some other)) where
    pair-in : (c : List Literal) → at known e ≡ Some c → Contains c other
    pair-in c k = let p = v.watched.watching.pairs e c o.0 k o.1 in elim o.2 as (λ _. Contains c other)
        [ inl x ↦ subst (Contains c) x.1 p.second | inr x ↦ subst (Contains c) x.1 p.first ]

    pub other_is : has (trues trail) other ≡ true → IsVisit known trail w w head f j (Next (j + 1))
    other_is h = (
      visit_kept known trail w head f t.apart j v e here other o
          (guard_true known trail w head f t.apart j v other (has-contains (trues trail) other h)),
      (let q = within (list_at w f) j e here in omega arith),
    )

    pub found_apart : (c : List Literal) (found : Literal) → at known e ≡ Some c → IsReplacement trail c other (Some found)
        → found ≢ f
    found_apart c found k r q = has-not (falses trail) found r.1.1 (subst (Contains (falses trail)) (sym q) f-is) where
      f-is : Contains (falses trail) f
      f-is = subst (Contains (falses trail)) v.is_next.2
          (to_map (λ (x : Assigned). opposite x.literal) trail head v.is_next.0 v.is_next.1)

    pub replaced : (c : List Literal) (found : Literal) (w' : Watching) → at known e ≡ Some c → IsReplacement trail c other (Some found)
        → IsMoved w w' f j e other found → IsVisit known trail w w' head f j (Next j)
    replaced c found w' k r m = (
      visit_moved known trail w head f t.apart j v e here w' other found m c k r.0 r.1.0 (has-not (falses trail) found r.1.1) o,
      (let q = within (list_at w f) j e here in let z = m.from.fewer in omega arith),
    )

    pub kept : (c : List Literal) (found : Literal) (w' : Watching) → at known e ≡ Some c → IsReplacement trail c other (Some found)
        → IsMoved w w' f j e other found → IsKept trail head w w'
    kept c found w' k r m = kept_moved known trail w head f t.apart j v e here w' other found m c k r.0 r.1.0
        (has-not (falses trail) found r.1.1) o

    f-false : Contains (falses trail) f
    f-false = subst (Contains (falses trail)) v.is_next.2
        (to_map (λ (x : Assigned). opposite x.literal) trail head v.is_next.0 v.is_next.1)

    -- the entry's clause is due until its other literal is true or it watches another one
    module _ (nt : has (trues trail) other ≡ false) where
      not-true : (l : Literal) → (l ≡ f) ⊎ (l ≡ other) → has (trues trail) l ≡ false
      not-true l (inl q) = either (has (trues trail) l)
          (λ y. absurd (consistent trail t.apart f (subst (Contains (trues trail)) q (has-contains (trues trail) l y)) f-false)) (λ n. n)
      not-true l (inr q) = ap (has (trues trail)) q ∙ nt

      pub pair_due : is_due trail f (Some o.0) ≡ true
      pair_due = elim o.2 as (λ _. is_due trail f (Some o.0) ≡ true) [
        | inl x ↦ due_yes trail f o.0 (not-true o.0.0 (inl x.0)) (not-true o.0.1 (inr x.1))
            (contains-has (o.0.0 ∷ o.0.1 ∷ []) f (0, omega arith, x.0))
        | inr x ↦ due_yes trail f o.0 (not-true o.0.0 (inr x.1)) (not-true o.0.1 (inl x.0))
            (contains-has (o.0.0 ∷ o.0.1 ∷ []) f (1, omega arith, x.0))
      ]

      pub due_some : 0 < due trail w f
      due_some = some_counted (is_due trail f) w.pairs e (Some o.0) o.1 pair_due

      pub due_moved : (c : List Literal) (found : Literal) (w' : Watching) → at known e ≡ Some c → IsReplacement trail c other (Some found)
          → IsMoved w w' f j e other found → suc (due trail w' f) ≤ due trail w f
      due_moved c found w' k r m = fewer_at (is_due trail f) (is_due trail f) w.pairs w'.pairs m.count
          (λ n x y s q h. elim (eq_or n e) as (λ _. is_due trail f x ≡ true) [
            | inl z ↦ absurd (let g : is_due trail f y ≡ false = subst (λ u. is_due trail f u ≡ false)
                (some_is (Some (found, other)) y (sym m.here ∙ ap (at w'.pairs) (sym z) ∙ q)) unwatched in
                let b : true ≡ false = sym h ∙ g in cc)
            | inr ne ↦ subst (λ u. is_due trail f u ≡ true) (some_is y x (sym q ∙ m.pairs n ne ∙ s)) h
          ]) e (Some o.0) (Some (found, other)) o.1 m.here pair_due unwatched where
            other-not : other ≢ f
            other-not q = let i = v.watched.watching.pairs e c o.0 k o.1 in
                elim o.2 [ inl x ↦ i.apart (x.0 ∙ sym q ∙ sym x.1) | inr x ↦ i.apart (x.1 ∙ q ∙ sym x.0) ]

            unwatched : is_due trail f (Some (found, other)) ≡ false
            unwatched = due_no_watch trail f (found, other) (either (has (found ∷ other ∷ []) f)
                (λ y. absurd (elim (two-of found other f (has-contains (found ∷ other ∷ []) f y))
                [ inl q ↦ found_apart c found k r q | inr q ↦ other-not q ]))
                (λ n. n))

      pub due_pushed : suc (due (trail ++ record { literal = other; reason = e } ∷ []) w f) ≤ due trail w f
      due_pushed =
          let trail' = trail ++ record { literal = other; reason = e } ∷ [] in
          let yes : has (trues trail') other ≡ true = contains-has (trues trail') other
          (subst (λ x. Contains x other) (sym (map-append (λ (x : Assigned). x.literal) trail (record { literal = other; reason = e } ∷ [])))
          (Contains-push (trues trail) other)) in
          fewer_at (is_due trail f) (is_due trail' f) w.pairs w.pairs refl
          (λ n x y s q h. due_less trail (record { literal = other; reason = e } ∷ []) f x
          (subst (λ u. is_due trail' f u ≡ true) (some_is y x (sym q ∙ s)) h)) e (Some o.0) (Some o.0) o.1 o.1 pair_due
          (elim o.2 as (λ _. is_due trail' f (Some o.0) ≡ false) [
            | inl x ↦ due_no_second trail' f o.0 (ap (has (trues trail')) x.1 ∙ yes)
            | inr x ↦ due_no_first trail' f o.0 (ap (has (trues trail')) x.1 ∙ yes)
          ])

    pub failed : (c : List Literal) → at known e ≡ Some c → IsReplacement trail c other None → has (falses trail) other ≡ true
        → IsVisit known trail w w head f j (Failed e)
    failed c k r h = (
      (
        c,
        k,
        all_from (Contains (falses trail)) c (λ m i. one-or-other m other
            (λ q. subst (Contains (falses trail)) (sym q) (has-contains (falses trail) other h))
            (λ ne. has-contains (falses trail) m (All-contains (λ x. CanStand trail x other false) c m r i ne))),
      ),
      v.watched,
    )

    module _ (c : List Literal) (k : at known e ≡ Some c) (r : IsReplacement trail c other None)
        (nt : has (trues trail) other ≡ false) (nf : has (falses trail) other ≡ false) where
      pub pushed_advance : IsAdvance known trail (trail ++ record { literal = other; reason = e } ∷ [])
      pushed_advance = advance_push known trail t e c k other (pair-in c k) r nt nf

      pub pushed : IsVisit known (trail ++ record { literal = other; reason = e } ∷ []) w w head f j (Next (j + 1))
      pushed =
          let v' = visiting_push trail record { literal = other; reason = e } known w head f j
          (λ z. let p = entry_number.0 in let y : e ≡ 0 = z in omega arith) v in
          let apart = pushed_advance.is_trail.apart in (
            visit_kept known (trail ++ record { literal = other; reason = e } ∷ []) w head f apart j v' e here other o
                (guard_true known (trail ++ record { literal = other; reason = e } ∷ []) w head f apart j v' other
                (subst (λ x. Contains x other) (sym (map-append (λ (x : Assigned). x.literal) trail (record { literal = other; reason = e } ∷ [])))
                (Contains-push (trues trail) other))),
            (let q = within (list_at w f) j e here in omega arith),
          )
