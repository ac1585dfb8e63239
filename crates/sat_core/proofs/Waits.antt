-- Clauses that wait for their literal to be made true.
use Rattle.std.specs.Prelude.{ℕ, zero, suc, ◌≡◌, ◌≢◌, ◌⊎◌, ◌+◌, ◌<◌, ◌≤◌, Bool, true, false, List, [], ◌∷◌, ◌++◌, length, Option, Some, None, Contains, take, slice_get, option_to_list, refl}
use Rattle.std.proofs.Common.{sym, ◌∙◌, ap, subst, arith, inl, inr}
use Rattle.std.proofs.lemmas.Bool.{cases_lt}
use Rattle.std.proofs.lemmas.List.{length-append, map-append, take-take, append-nil}
use Rattle.std.proofs.lemmas.List.Elements.{Contains-append_left, Contains-push}
use Rattle.proof_steps.specs.declared.Literal.{Literal}
use Rattle.proof_steps.specs.Meaning.{at, opposite}
use Rattle.sat_core.specs.declared.assigned.Assigned.{Assigned}
use Rattle.sat_core.specs.Trail.{trues, falses, value_of, IsApart, IsTrail}
use Rattle.sat_core.specs.Propagation.{IsFalseAt, IsFree}
use Rattle.sat_core.specs.Visiting.{CanStand, IsAdvance}
use Rattle.sat_core.specs.Analysis.{IsOneOf, IsUnseen, IsDecisionAt, NoneDecided}
use Rattle.sat_core.specs.Watching.{Watching, IsWatch, IsOther, IsPair, IsWatching, IsGuard, IsGuarded, IsWatched, IsEntered, CanWatch}
use Rattle.sat_core.specs.Waiting.{IsWaiting, WaitsFrom, IsWatchedBut, IsReady, IsLastHead, IsWaited, IsRest, IsUnfalse, waiting_entry}
use Rattle.sat_core.specs.Charged.{IsKept}
use Rattle.sat_core.proofs.Places.{some_is, within, get-push, get-append, get-take, take-within, from_map, to_map, at-append, at-push}
use Rattle.sat_core.proofs.Consistent.{consistent}
use Rattle.sat_core.proofs.Fresh.{all_from, falses-take}
use Rattle.proof_checker.proofs.Sets.{has-contains, contains-has}
use Rattle.sat_core.proofs.Sets.{one-or-other}
use Rattle.sat_core.proofs.Standings.{value_true, value_false}
use Rattle.sat_core.proofs.Visits.{advance_push}
use Rattle.sat_core.proofs.Watched.{at-push-cases, at-within, entered, watch-is}
use Rattle.sat_core.proofs.Guards.{guarded_push}
use Rattle.sat_core.proofs.Rows.{eq_or}

-- nothing waits
pub but_none : (known : List (List Literal)) (trail : List Assigned) (w : Watching) (head : ℕ) → IsWatched known trail w head
    → IsWatchedBut known trail w head [] 0
but_none known trail w head k = record {
  watching = k.watching;
  within = k.within;
  late = k.late;
  guarded = λ n l m x. inr (k.guarded n l m x);
  waits = λ j a s. absurd cc;
}

-- no more waits
pub but_done : (known : List (List Literal)) (trail : List Assigned) (w : Watching) (head : ℕ) (waiting : List Assigned) (k : ℕ)
    → length waiting ≤ k → IsWatchedBut known trail w head waiting k → IsWatched known trail w head
but_done known trail w head waiting k h b = record {
  watching = b.watching;
  within = b.within;
  late = b.late;
  guarded = λ n l m x. elim (b.guarded n l m x) as (λ _. IsGuarded trail m l head) [
    | inl y ↦ absurd (let z = within waiting y.0 y.1 y.3 in let q = y.2 in omega arith)
    | inr g ↦ g
  ];
}

-- of the two watched literals each is one of two
beside : (w : Watching) (n : ℕ) (l m x : Literal) (p : Literal × Literal) → IsOther w n l (Some m) → at w.pairs n ≡ Some (Some p)
    → (p.0 ≡ x) ⊎ (p.1 ≡ x) → (l ≡ x) ⊎ (m ≡ x)
beside w n l m x p (r, q, o) e h =
    let k : p ≡ r = some_is p r (some_is (Some p) (Some r) (sym e ∙ q)) in
    sides (subst (λ (z : Literal × Literal). (z.0 ≡ x) ⊎ (z.1 ≡ x)) k h) o where
      sides : (r.0 ≡ x) ⊎ (r.1 ≡ x) → ((r.0 ≡ l) × (r.1 ≡ m)) ⊎ ((r.1 ≡ l) × (r.0 ≡ m)) → (l ≡ x) ⊎ (m ≡ x)
      sides (inl a) (inl b) = inl (sym b.0 ∙ a)
      sides (inl a) (inr b) = inr (sym b.1 ∙ a)
      sides (inr a) (inl b) = inr (sym b.1 ∙ a)
      sides (inr a) (inr b) = inl (sym b.0 ∙ a)

-- a literal of the watched pair
in-pair : (w : Watching) (n : ℕ) (l : Literal) (p : Literal × Literal) → IsWatch w n l → at w.pairs n ≡ Some (Some p)
    → (p.0 ≡ l) ⊎ (p.1 ≡ l)
in-pair w n l p (r, q, o) e =
    subst (λ (z : Literal × Literal). (z.0 ≡ l) ⊎ (z.1 ≡ l)) (some_is r p (some_is (Some r) (Some p) (sym q ∙ e))) o

falses-push : (trail more : List Assigned) (l : Literal) → Contains (falses trail) l → Contains (falses (trail ++ more)) l
falses-push trail more l c = subst (λ x. Contains x l) (sym (map-append (λ (a : Assigned). opposite a.literal) trail more))
    (Contains-append_left (falses trail) (falses more) l c)

-- one entry more, which is implied
module _ (known : List (List Literal)) (trail : List Assigned) (w : Watching) (b : Assigned) (ne : b.reason ≢ 0) where
  waiting-push : (a : Assigned) → IsWaiting known trail w a → IsWaiting known (trail ++ b ∷ []) w a
  waiting-push a i = record {
    clause = i.clause;
    is_clause = i.is_clause;
    in_clause = i.in_clause;
    pair = i.pair;
    is_pair = i.is_pair;
    own = i.own;
    others = λ m c n. falses-push trail (b ∷ []) m (i.others m c n);
    undecided = λ l o j c s f k d h t. elim (get-push trail b d k t) as (λ _. d.reason ≢ 0) [
      | inl x ↦ elim (get-push trail b c j s) as (λ _. d.reason ≢ 0) [
        | inl y ↦ i.undecided l o j c y f k d h x
        | inr y ↦ absurd (let z = within trail k d x in let q = y.0 in omega arith)
      ]
      | inr x ↦ (λ z. ne (ap (λ (y : Assigned). y.reason) x.1 ∙ z))
    ];
  }

  pub but_push : (head : ℕ) (waiting : List Assigned) (k : ℕ) → IsWatchedBut known trail w head waiting k
      → IsWatchedBut known (trail ++ b ∷ []) w head waiting k
  but_push head waiting k u = record {
    watching = u.watching;
    within = (let e = length-append trail (b ∷ []) in let h = u.within in omega arith);
    late = λ i c l s. elim (get-push trail b c i s) as (λ _. c.reason ≢ 0) [
      | inl x ↦ u.late i c l x
      | inr x ↦ (λ z. ne (ap (λ (y : Assigned). y.reason) x.1 ∙ z))
    ];
    guarded = λ n l m x. elim (u.guarded n l m x) as (λ _. WaitsFrom waiting k n ⊎ IsGuarded (trail ++ b ∷ []) m l head)
        [ inl y ↦ inl y | inr g ↦ inr (guarded_push trail b m l head u.within g) ];
    waits = λ j a s. waiting-push a (u.waits j a s);
  }

module _ (known : List (List Literal)) (trail : List Assigned) (w : Watching) (head : ℕ) (waiting : List Assigned) (k : ℕ)
    (u : IsWatchedBut known trail w head waiting k) where
  -- the literal that a clause waits for is true
  pub but_next : IsApart trail → (a : Assigned) → slice_get waiting k ≡ Some a → Contains (trues trail) a.literal
      → IsWatchedBut known trail w head waiting (k + 1)
  but_next apart a here now = record {
    watching = u.watching;
    within = u.within;
    late = u.late;
    guarded = λ n l m x. elim (u.guarded n l m x) as (λ _. WaitsFrom waiting (k + 1) n ⊎ IsGuarded trail m l head) [
      | inl y ↦ elim (eq_or y.0 k) as (λ _. WaitsFrom waiting (k + 1) n ⊎ IsGuarded trail m l head) [
        | inl z ↦ inr (
            let q : y.1 ≡ a = some_is y.1 a (sym y.3 ∙ ap (slice_get waiting) z ∙ here) in
            guards n l m x (sym y.4 ∙ ap (λ (v : Assigned). v.reason) q))
        | inr z ↦ inl (y.0, y.1, (let h = y.2 in omega arith), y.3, y.4)
      ]
      | inr g ↦ inr g
    ];
    waits = u.waits;
  } where
    guards : (n : ℕ) (l m : Literal) → IsOther w n l (Some m) → n ≡ a.reason → IsGuarded trail m l head
    guards n l m x e = λ i c h s f.
        let o = u.waits k a here in
        let p : at w.pairs n ≡ Some (Some o.pair) = ap (at w.pairs) e ∙ o.is_pair in
        elim (beside w n l m a.literal o.pair x p o.own) as (λ _. IsGuard trail m i) [
          | inl q ↦ absurd (consistent trail apart a.literal now (subst (Contains (falses trail)) (f ∙ q)
              (to_map (λ (y : Assigned). opposite y.literal) trail i c s)))
          | inr q ↦ (let r = from_map (λ (y : Assigned). y.literal) trail a.literal now in record {
            place = r.place;
            entry = r.element;
            is_there = r.is_there;
            is_other = r.gives ∙ sym q;
            undecided = λ j d lo up t. o.undecided l (in-pair w n l o.pair (watch-is w n l m x) p) i c s f j d lo t;
          })
        ]

  before-last : (d : ℕ) (x : Assigned) → slice_get trail d ≡ Some x → x.reason ≡ 0 → d ≤ head
  before-last d x s z = elim (cases_lt head d) as (λ _. d ≤ head) [ inl y ↦ absurd (u.late d x y s z) | inr y ↦ y ]

  -- before a decision nothing that waits became false
  guarded-to : (d : ℕ) (x : Assigned) → slice_get trail d ≡ Some x → x.reason ≡ 0 → (n : ℕ) (l m : Literal)
      → IsOther w n l (Some m) → IsGuarded trail m l d
  guarded-to d x s z n l m o = λ i c h t f. let q = before-last d x s z in elim (u.guarded n l m o) as (λ _. IsGuard trail m i) [
    | inl y ↦ absurd (let r = u.waits y.0 y.1 y.3 in
        let p : at w.pairs n ≡ Some (Some r.pair) = ap (at w.pairs) (sym y.4) ∙ r.is_pair in
        r.undecided l (in-pair w n l r.pair (watch-is w n l m o) p) i c t f d x h s z)
    | inr g ↦ g i c (omega arith) t f
  ]

  pub watched_last : (h : ℕ) → IsLastHead trail h → IsWatched known trail w h
  watched_last h (inl r) = record {
    watching = u.watching;
    within = (let q = within trail h r.0 r.1 in omega arith);
    late = λ i a l s. r.3 i a l s;
    guarded = guarded-to h r.0 r.1 r.2;
  }
  watched_last h (inr r) = record {
    watching = u.watching;
    within = (let q = r.1 in omega arith);
    late = λ i a l s. r.0 i a s;
    guarded = λ n l m o. λ i c y t f. absurd (let q = r.1 in omega arith);
  }

  taken : (n : ℕ) (xs : List Assigned) → n ≤ length xs → length (take n xs) ≡ n
  taken zero xs h = refl
  taken (suc n) [] h = absurd (omega arith)
  taken (suc n) (x ∷ xs) h = ap suc (taken n xs (omega arith))

  -- a trail that is cut before a decision
  pub watched_before : (d : ℕ) → IsDecisionAt trail d → IsWatched known (take d trail) w d
  watched_before d r =
      let e : length (take d trail) ≡ d = taken d trail (let q = within trail d r.0 r.1 in omega arith) in record {
        watching = u.watching;
        within = omega arith;
        late = λ i a l s. absurd (let q = (take-within trail d i a s).0 in omega arith);
        guarded = λ n l m o. λ i c h t f.
            let p = take-within trail d i c t in
            let g = guarded-to d r.0 r.1 r.2 n l m o i c h p.1 f in
            elim (cases_lt g.place d) as (λ _. IsGuard (take d trail) m i) [
              | inl y ↦ record {
                place = g.place;
                entry = g.entry;
                is_there = get-take trail d g.place y ∙ g.is_there;
                is_other = g.is_other;
                undecided = λ j b v z x. g.undecided j b v z (take-within trail d j b x).1;
              }
              | inr y ↦ absurd (g.undecided d r.0 h y r.1 r.2)
            ];
      }

  pub cut_length : (d : ℕ) → IsDecisionAt trail d → length (take d trail) ≡ d
  cut_length d r = taken d trail (let q = within trail d r.0 r.1 in omega arith)

-- the clause that waits at place k
module _ (known : List (List Literal)) (trail : List Assigned) (t : IsTrail known trail) (w : Watching) (head : ℕ) (waiting : List Assigned)
    (k : ℕ) (u : IsWatchedBut known trail w head waiting k) (a : Assigned) (here : slice_get waiting k ≡ Some a) where
  waits-there : IsWaiting known trail w a
  waits-there = u.waits k a here

  pub waited_value : (b : Bool) → Some b ≡ value_of trail a.literal → IsWaited known trail w head waiting k a b
  waited_value true e = but_next known trail w head waiting k u t.apart a here (has-contains (trues trail) a.literal (value_true trail a.literal e))
  waited_value false e = (
    (
      waits-there.clause,
      waits-there.is_clause,
      all_from (Contains (falses trail)) waits-there.clause (λ m c. one-or-other m a.literal
          (λ q. subst (Contains (falses trail)) (sym q) (has-contains (falses trail) a.literal (value_false trail a.literal e)))
          (λ ne. waits-there.others m c ne)),
    ),
    u,
  )

  pub waited_advance : IsFree trail a.literal → IsAdvance known trail (trail ++ record { literal = a.literal; reason = a.reason } ∷ [])
  waited_advance f = advance_push known trail t a.reason waits-there.clause waits-there.is_clause a.literal waits-there.in_clause
      (all_from (λ m. CanStand trail m a.literal false) waits-there.clause (λ m c ne. contains-has (falses trail) m (waits-there.others m c ne)))
      f.not_true f.not_false

  pub waited_push : IsFree trail a.literal
      → IsWaited known (trail ++ record { literal = a.literal; reason = a.reason } ∷ []) w head waiting k a true
  waited_push f =
      let b : Assigned = record { literal = a.literal; reason = a.reason } in
      but_next known (trail ++ b ∷ []) w head waiting k
      (but_push known trail w b (λ z. let p = (at-within known a.reason waits-there.clause waits-there.is_clause).0 in
      let y : a.reason ≡ 0 = z in omega arith) head waiting k u)
      (waited_advance f).is_trail.apart a here
      (subst (λ x. Contains x a.literal) (sym (map-append (λ (x : Assigned). x.literal) trail (b ∷ []))) (Contains-push (trues trail) a.literal))

-- after a cut before a decision all lists were gone over, and nothing waits
pub ready_cut : (known : List (List Literal)) (trail : List Assigned) (w : Watching) (head : ℕ) (waiting : List Assigned) (stuck : Option ℕ)
    → IsReady known trail w head waiting stuck → (d : ℕ) → IsDecisionAt trail d → IsReady known (take d trail) w d [] None
ready_cut known trail w head waiting stuck r d k = record {
  watched = but_none known (take d trail) w d (watched_before known trail w head waiting 0 r.watched d k);
  gone = λ e. sym (cut_length known trail w head waiting 0 r.watched d k);
  is_false = λ n e. absurd cc;
}

-- what was found with nothing left to wait for
pub ready_found : (known : List (List Literal)) (trail : List Assigned) (w : Watching) (head : ℕ) (n : ℕ) → IsWatched known trail w head
    → IsFalseAt known trail n → IsReady known trail w head [] (Some n)
ready_found known trail w head n k f = record {
  watched = but_none known trail w head k;
  gone = λ e. absurd cc;
  is_false = λ m e. subst (IsFalseAt known trail) (some_is n m e) f;
}

pub ready_full : (known : List (List Literal)) (trail : List Assigned) (w : Watching) (head : ℕ) → head ≡ length trail
    → IsWatched known trail w head → IsReady known trail w head [] None
ready_full known trail w head e k = record { watched = but_none known trail w head k; gone = λ z. e; is_false = λ n z. absurd cc }

pub ready_new : (known : List (List Literal)) (trail : List Assigned) (w : Watching) → trail ≡ [] → IsWatched known trail w 0
    → IsReady known trail w 0 [] None
ready_new known trail w e k = ready_full known trail w 0 (sym (ap length e)) k

-- where watched literals are kept the clauses that wait still do
module _ (known : List (List Literal)) (trail : List Assigned) (w w' : Watching) (k : IsWatching known w') (p : IsKept trail (length trail) w w') where
  same-false : (m : ℕ) (q : Literal × Literal) → at w.pairs m ≡ Some (Some q) → (l : Literal) → (q.0 ≡ l) ⊎ (q.1 ≡ l)
      → Contains (falses trail) l → at w'.pairs m ≡ Some (Some q)
  same-false m q e l o f = elim (p m) as (λ _. at w'.pairs m ≡ Some (Some q)) [
    | inl x ↦ x ∙ e
    | inr x ↦ absurd (let r = from_map (λ (y : Assigned). opposite y.literal) trail l f in
        x.0 q e l o r.place r.element (within trail r.place r.element r.is_there) r.is_there r.gives)
  ]

  waiting-kept : IsWatching known w → (a : Assigned) → IsWaiting known trail w a → IsWaiting known trail w' a
  waiting-kept v a i = record {
    clause = i.clause;
    is_clause = i.is_clause;
    in_clause = i.in_clause;
    pair = i.pair;
    is_pair = elim i.own as (λ _. at w'.pairs a.reason ≡ Some (Some i.pair)) [
      | inl x ↦ same-false a.reason i.pair i.is_pair i.pair.1 (inr refl) (i.others i.pair.1 two.second (λ e. two.apart (x ∙ sym e)))
      | inr x ↦ same-false a.reason i.pair i.is_pair i.pair.0 (inl refl) (i.others i.pair.0 two.first (λ e. two.apart (e ∙ sym x)))
    ];
    own = i.own;
    others = i.others;
    undecided = i.undecided;
  } where
    two : IsPair i.clause i.pair
    two = v.pairs a.reason i.clause i.pair i.is_clause i.is_pair

  back-other : (n : ℕ) (l m : Literal) → IsOther w' n l (Some m) → IsOther w n l (Some m)
      ⊎ ((i : ℕ) (a : Assigned) → i < length trail → slice_get trail i ≡ Some a → opposite a.literal ≢ l)
  back-other n l m (q, e, o) = elim (p n) as (λ _. IsOther w n l (Some m)
      ⊎ ((i : ℕ) (a : Assigned) → i < length trail → slice_get trail i ≡ Some a → opposite a.literal ≢ l)) [
        | inl x ↦ inl (q, sym x ∙ e, o)
        | inr x ↦ inr (λ i a h s f. x.1 q e l (elim o as (λ _. (q.0 ≡ l) ⊎ (q.1 ≡ l)) [ inl y ↦ inl y.0 | inr y ↦ inr y.0 ]) i a h s f)
      ]

  pub but_kept : (head : ℕ) (waiting : List Assigned) → IsWatchedBut known trail w head waiting 0 → IsWatchedBut known trail w' head waiting 0
  but_kept head waiting u = record {
    watching = k;
    within = u.within;
    late = u.late;
    guarded = λ n l m x. elim (back-other n l m x) as (λ _. WaitsFrom waiting 0 n ⊎ IsGuarded trail m l head) [
      | inl y ↦ u.guarded n l m y
      | inr y ↦ inr (λ i a h s f. absurd (y i a (let q = u.within in omega arith) s f))
    ];
    waits = λ j a s. waiting-kept u.watching a (u.waits j a s);
  }

pub ready_kept : (known : List (List Literal)) (trail : List Assigned) (w w' : Watching) (head : ℕ) (waiting : List Assigned) (stuck : Option ℕ)
    → IsWatching known w' → IsKept trail (length trail) w w' → IsReady known trail w head waiting stuck
    → IsReady known trail w' head waiting stuck
ready_kept known trail w w' head waiting stuck k p r = record {
  watched = but_kept known trail w w' k p head waiting r.watched;
  gone = r.gone;
  is_false = r.is_false;
}

-- one clause more
entered-pairs : (w w' : Watching) (clause : List Literal) (watched : Option (Literal × Literal)) → IsEntered w w' clause watched
    → w'.pairs ≡ w.pairs ++ watched ∷ []
entered-pairs w w' clause None e = e.2.pairs
entered-pairs w w' clause (Some p) e = e.2.pairs

module _ (known : List (List Literal)) (trail : List Assigned) (w w' : Watching) (head : ℕ) (clause : List Literal)
    (watched : Option (Literal × Literal)) (can : CanWatch clause watched) (e : IsEntered w w' clause watched) where
  waiting-entered : (a : Assigned) → IsWaiting known trail w a → IsWaiting (known ++ clause ∷ []) trail w' a
  waiting-entered a i = record {
    clause = i.clause;
    is_clause = at-append known (clause ∷ []) a.reason i.clause i.is_clause;
    in_clause = i.in_clause;
    pair = i.pair;
    is_pair = subst (λ x. at x a.reason ≡ Some (Some i.pair)) (sym (entered-pairs w w' clause watched e))
        (at-append w.pairs (watched ∷ []) a.reason (Some i.pair) i.is_pair);
    own = i.own;
    others = i.others;
    undecided = i.undecided;
  }

  old-or-new : (n : ℕ) (l m : Literal) → IsOther w' n l (Some m) → IsOther w n l (Some m) ⊎ ((n ≡ length w.pairs + 1) × IsOneOf watched l)
  old-or-new n l m (q, s, o) = elim (at-push-cases w.pairs watched (Some q) n
      (subst (λ x. at x n ≡ Some (Some q)) (entered-pairs w w' clause watched e) s))
      as (λ _. IsOther w n l (Some m) ⊎ ((n ≡ length w.pairs + 1) × IsOneOf watched l)) [
        | inl x ↦ inl (q, x, o)
        | inr x ↦ inr (
          x.0,
          subst (λ z. IsOneOf z l) (sym x.1)
              (elim o as (λ _. (q.0 ≡ l) ⊎ (q.1 ≡ l)) [ inl y ↦ inl y.0 | inr y ↦ inr y.0 ]),
        )
      ]

  -- it does not wait, where neither of its watched literals is false
  pub but_free : (waiting : List Assigned) → IsUnfalse trail watched → IsWatchedBut known trail w head waiting 0
      → IsWatchedBut (known ++ clause ∷ []) trail w' head waiting 0
  but_free waiting free u = record {
    watching = entered known w w' clause u.watching watched can e;
    within = u.within;
    late = u.late;
    guarded = λ n l m x. elim (old-or-new n l m x) as (λ _. WaitsFrom waiting 0 n ⊎ IsGuarded trail m l head) [
      | inl y ↦ u.guarded n l m y
      | inr y ↦ inr (λ i a h s f. absurd (free i a s l y.1 f))
    ];
    waits = λ j a s. waiting-entered a (u.waits j a s);
  }

  -- or it waits
  pub but_waits : (waiting : List Assigned) (a : Assigned) → a.reason ≡ length known + 1 → IsWaiting (known ++ clause ∷ []) trail w' a
      → IsWatchedBut known trail w head waiting 0 → IsWatchedBut (known ++ clause ∷ []) trail w' head (waiting ++ a ∷ []) 0
  but_waits waiting a z new u = record {
    watching = entered known w w' clause u.watching watched can e;
    within = u.within;
    late = u.late;
    guarded = λ n l m x. elim (old-or-new n l m x) as (λ _. WaitsFrom (waiting ++ a ∷ []) 0 n ⊎ IsGuarded trail m l head) [
      | inl y ↦ elim (u.guarded n l m y) as (λ _. WaitsFrom (waiting ++ a ∷ []) 0 n ⊎ IsGuarded trail m l head) [
        | inl v ↦ inl (v.0, v.1, omega arith, get-append waiting (a ∷ []) v.0 v.1 v.3, v.4)
        | inr g ↦ inr g
      ]
      | inr y ↦ inl (
        length waiting,
        a,
        omega arith,
        at-push waiting a (suc (length waiting)) (omega arith),
        (let q = y.0 in let r = u.watching.count in omega arith),
      )
    ];
    waits = λ j b s. elim (get-push waiting a b j s) as (λ _. IsWaiting (known ++ clause ∷ []) trail w' b) [
      | inl y ↦ waiting-entered b (u.waits j b y)
      | inr y ↦ subst (IsWaiting (known ++ clause ∷ []) trail w') y.1 new
    ];
  }

-- the new clause waits, where all its literals but the first that is watched became false before a place with no decision after
pub new_waits : (known : List (List Literal)) (trail trail' : List Assigned) (w w' : Watching) (clause : List Literal) (p : Literal × Literal)
    (low back : ℕ) → IsWatching known w → IsPair clause p → IsEntered w w' clause (Some p) → trail' ≡ take back trail → low ≤ back
    → NoneDecided trail low back → IsUnseen trail low (Some p) → IsRest trail low clause (Some p)
    → IsWaiting (known ++ clause ∷ []) trail' w' record { literal = p.0; reason = length known + 1 }
new_waits known trail trail' w w' clause p low back k two e cut h none seen rest = record {
  clause = clause;
  is_clause = at-push known clause (length known + 1) refl;
  in_clause = two.first;
  pair = p;
  is_pair = subst (λ x. at x (length known + 1) ≡ Some (Some p)) (sym e.2.pairs)
      (at-push w.pairs (Some p) (length known + 1) (let c = k.count in omega arith));
  own = inl refl;
  others = λ m c n. subst (λ t. Contains (falses t) m) (sym cut) (falses-take (take back trail) low m
      (subst (λ t. Contains (falses t) m) (sym (take-take low back trail h)) (rest m c n)));
  undecided = λ l o i b s f j d x t.
      let y = take-within trail back i b (subst (λ z. slice_get z i ≡ Some b) cut s) in
      let z = take-within trail back j d (subst (λ z. slice_get z j ≡ Some d) cut t) in
      none j d (let q = (seen i b y.1 l o f).1 in omega arith) z.0 z.1;
}

-- a clause more, and what of it waits
pub ready_more : (known known' : List (List Literal)) (trail trail' : List Assigned) (w w' : Watching) (head : ℕ) (waiting waiting' : List Assigned)
    (stuck : Option ℕ) (clause : List Literal) (watched : Option (Literal × Literal)) (waits : Bool) (number low back : ℕ)
    → known' ≡ known ++ clause ∷ [] → number ≡ length known + 1 → waiting' ≡ waiting ++ option_to_list (waiting_entry watched waits number)
    → CanWatch clause watched → IsEntered w w' clause watched → trail' ≡ take back trail
    → (waits ≡ true → low ≤ back) → NoneDecided trail low back → IsUnseen trail low watched
    → (waits ≡ true → IsRest trail low clause watched) → (waits ≡ false → IsUnfalse trail' watched)
    → IsReady known trail' w head waiting stuck → IsReady known' trail' w' head waiting' stuck
ready_more known known' trail trail' w w' head waiting waiting' stuck clause watched waits number low back ek en ew can e cut h none seen rest free r =
    subst (λ x. IsReady x trail' w' head waiting' stuck) (sym ek) record {
      watched = subst (λ x. IsWatchedBut (known ++ clause ∷ []) trail' w' head x 0) (sym ew)
          (by watched waits can e seen h rest free);
      gone = r.gone;
      is_false = λ n z. let f = r.is_false n z in (f.0, at-append known (clause ∷ []) n f.0 f.1, f.2);
    } where
      by : (watched : Option (Literal × Literal)) (waits : Bool) → CanWatch clause watched → IsEntered w w' clause watched → IsUnseen trail low watched
          → (waits ≡ true → low ≤ back) → (waits ≡ true → IsRest trail low clause watched) → (waits ≡ false → IsUnfalse trail' watched)
          → IsWatchedBut (known ++ clause ∷ []) trail' w' head (waiting ++ option_to_list (waiting_entry watched waits number)) 0
      by None waits can e seen h rest free = subst (λ x. IsWatchedBut (known ++ clause ∷ []) trail' w' head x 0) (sym (append-nil waiting))
          (but_free known trail' w w' head clause None can e waiting (λ i a s l o. absurd o) r.watched)
      by (Some p) false can e seen h rest free = subst (λ x. IsWatchedBut (known ++ clause ∷ []) trail' w' head x 0) (sym (append-nil waiting))
          (but_free known trail' w w' head clause (Some p) can e waiting (free refl) r.watched)
      by (Some p) true can e seen h rest free = but_waits known trail' w w' head clause (Some p) can e waiting
          record { literal = p.0; reason = number } en
          (subst (λ n. IsWaiting (known ++ clause ∷ []) trail' w' record { literal = p.0; reason = n }) (sym en)
          (new_waits known trail trail' w w' clause p low back r.watched.watching can e cut (h refl) none seen (rest refl))) r.watched

-- what waits keeps to what is equal
pub ready_same : (known known' : List (List Literal)) (trail : List Assigned) (w w' : Watching) (head : ℕ) (waiting waiting' : List Assigned)
    (stuck : Option ℕ) → known' ≡ known → waiting' ≡ waiting → IsWatching known w' → w'.pairs ≡ w.pairs
    → IsReady known trail w head waiting stuck → IsReady known' trail w' head waiting' stuck
ready_same known known' trail w w' head waiting waiting' stuck e f k p r =
    subst (λ x. IsReady x trail w' head waiting' stuck) (sym e) (subst (λ x. IsReady known trail w' head x stuck) (sym f)
    (ready_kept known trail w w' head waiting stuck k (λ m. inl (ap (λ z. at z m) p)) r))

pub unfalse_cut : (trail trail' : List Assigned) (back : ℕ) (watched : Option (Literal × Literal)) → trail' ≡ take back trail
    → IsUnfalse trail watched → IsUnfalse trail' watched
unfalse_cut trail trail' back watched e f = λ i a s l o. f i a (take-within trail back i a (subst (λ z. slice_get z i ≡ Some a) e s)).1 l o

-- after a cut before the least place neither watched literal is false
pub unfalse_less : (trail trail' : List Assigned) (low back : ℕ) (watched : Option (Literal × Literal)) → trail' ≡ take back trail
    → back < low → IsUnseen trail low watched → IsUnfalse trail' watched
unfalse_less trail trail' low back watched e h seen = λ i a s l o f.
    let p = take-within trail back i a (subst (λ z. slice_get z i ≡ Some a) e s) in
    let q = (seen i a p.1 l o f).1 in let r = p.0 in absurd (omega arith)

pub ready_then : (known : List (List Literal)) (trail trail' : List Assigned) (w : Watching) (head back : ℕ) (waiting waiting' : List Assigned)
    (stuck : Option ℕ) → (back ≡ length trail) ⊎ IsDecisionAt trail back → back < length trail → trail' ≡ take back trail → waiting' ≡ []
    → IsReady known trail w head waiting stuck → IsReady known trail' w back waiting' None
ready_then known trail trail' w head back waiting waiting' stuck (inl d) h e f r = absurd (omega arith)
ready_then known trail trail' w head back waiting waiting' stuck (inr d) h e f r =
    subst (λ x. IsReady known x w back waiting' None) (sym e) (subst (λ x. IsReady known (take back trail) w back x None) (sym f)
    (ready_cut known trail w head waiting stuck r back d))

pub rest_of : (trail : List Assigned) (low : ℕ) (clause : List Literal) (watched : Option (Literal × Literal))
    → ((p : Literal × Literal) → watched ≡ Some p → (m : Literal) → Contains clause m → m ≢ p.0 → Contains (falses (take low trail)) m)
    → IsRest trail low clause watched
rest_of trail low clause None h = tt
rest_of trail low clause (Some p) h = h p refl
