-- The places of the rows that hold a column, when a row changes.
use Rattle.std.specs.Prelude.{ℕ, zero, suc, min, ◌≡◌, ◌≢◌, ◌⊎◌, ◌<◌, ◌≤◌, ◌+◌, ◌-◌, List, [], ◌∷◌, ◌++◌, length, Some, Contains, Result, Ok, Err, IfOk, get_or, slice_get, slice_set, slice_index_or}
use Rattle.std.specs.declared.vec.Vec.{Vec}
use Rattle.std.specs.declared.alloc.Global.{Global}
use Rattle.std.proofs.Common.{sym, ◌∙◌, ap, subst, arith, refl, inl, inr}
use Rattle.std.proofs.lemmas.Bool.{cases_lt}
use Rattle.std.proofs.lemmas.List.{length-map, length-set}
use Rattle.std.proofs.lemmas.List.Elements.{Contains-append_left, Contains-append_right, Contains-append_cases}
use Rattle.std.proofs.lemmas.Option.{slice_get_within, get_or_from_slice_get}
use lib.IntN.{ℤ, pos}
use Rattle.proof_steps.specs.Rows.{entry}
use Rattle.int_simplex.specs.Sparse.{IsSparse, head_at, rest_at, first_column}
use Rattle.int_simplex.specs.Holding.{lists_of, holders, IsHeld, IsOnly, IsPut, IsTaken, IsNoted, AreEmpty, AreListed}
use Rattle.int_simplex.proofs.Places.{same_some}
use Rattle.int_simplex.proofs.Sparse.{first_from}
use Rattle.int_simplex.proofs.Crossings.{IsLeft, left_all, left_later, left_none, left_next, left_head, left_end}

pub eq_or : (i j : ℕ) → (i ≡ j) ⊎ (i ≢ j)
eq_or i j = grind arith

-- lists in a list
pub holders_at : (lists : List (Vec ℕ Global)) (c : ℕ) (d : Vec ℕ Global) → c < length lists → holders (lists_of lists) c ≡ (get_or lists c d).items
holders_at [] c d h = absurd (omega arith)
holders_at (v ∷ lists) zero d h = refl
holders_at (v ∷ lists) (suc c) d h = holders_at lists c d (omega arith)

holders-set : (lists : List (Vec ℕ Global)) (c : ℕ) (v : Vec ℕ Global) → c < length lists → holders (lists_of (slice_set lists c v)) c ≡ v.items
holders-set [] c v h = absurd (omega arith)
holders-set (x ∷ lists) zero v h = refl
holders-set (x ∷ lists) (suc c) v h = holders-set lists c v (omega arith)

holders-other : (lists : List (Vec ℕ Global)) (c : ℕ) (v : Vec ℕ Global) (q : ℕ) → q ≢ c → holders (lists_of (slice_set lists c v)) q ≡ holders
    (lists_of lists) q
holders-other [] c v q n = refl
holders-other (x ∷ lists) zero v zero n = absurd (n refl)
holders-other (x ∷ lists) zero v (suc q) n = refl
holders-other (x ∷ lists) (suc c) v zero n = refl
holders-other (x ∷ lists) (suc c) v (suc q) n = holders-other lists c v q (λ e. n (ap suc e))

count-set : (lists : List (Vec ℕ Global)) (c : ℕ) (v : Vec ℕ Global) → length (lists_of (slice_set lists c v)) ≡ length (lists_of lists)
count-set lists c v =
    length-map (slice_set lists c v) (λ (w : Vec ℕ Global). w.items) ∙ length-set lists c v
    ∙ sym (length-map lists (λ (w : Vec ℕ Global). w.items))

holders-more : (lists : List (Vec ℕ Global)) (v : Vec ℕ Global) → v.items ≡ [] → (q : ℕ) → holders (lists_of (lists ++ v ∷ [])) q ≡ holders (lists_of lists) q
holders-more [] v e zero = e
holders-more [] v e (suc q) = refl
holders-more (x ∷ lists) v e zero = refl
holders-more (x ∷ lists) v e (suc q) = holders-more lists v e q

pub put_is : (lists : List (Vec ℕ Global)) (c k : ℕ) (v w : Vec ℕ Global) → c < length lists → v ≡ get_or lists c v → w.items ≡ v.items ++ k ∷ []
    → IsPut c k (lists_of lists) (lists_of (slice_set lists c w))
put_is lists c k v w h e p = record {
  count = count-set lists c w;
  here = holders-set lists c w h ∙ p ∙ ap (λ (x : Vec ℕ Global). x.items ++ k ∷ []) e ∙ ap (λ x. x ++ k ∷ []) (sym (holders_at lists c v h));
  elsewhere = λ q n. holders-other lists c w q n;
}

-- a list of which the elements but the one at a place are known by their places
module _ (old new : List ℕ) (at k : ℕ) (there : slice_get old at ≡ Some k) (fewer : length new + 1 ≡ length old)
    (moved : (d : ℕ) → at + 1 < length old → slice_index_or new at d ≡ slice_index_or old (length old - 1) d)
    (kept : (i : ℕ) (d : ℕ) → i ≢ at → i + 1 < length old → slice_index_or new i d ≡ slice_index_or old i d) where
  read : (xs : List ℕ) (i e : ℕ) → i < length xs → get_or xs i e ≡ e → Contains xs e
  read xs i e h q = (i, h, q)

  pub others_stay : (j : ℕ) → j ≢ k → Contains old j → Contains new j
  others_stay j n (i, h, e) = by (eq_or i at) (cases_lt (i + 1) (length old)) where
    f : length new + 1 ≡ length old
    f = fewer

    by : (i ≡ at) ⊎ (i ≢ at) → (i + 1 < length old) ⊎ (length old ≤ i + 1) → Contains new j
    by (inl q) b = absurd (n (sym e ∙ get_or_from_slice_get old i k j (ap (slice_get old) q ∙ there)))
    by (inr q) (inl l) = (i, (let g = f in omega arith), kept i j q l ∙ e)
    by (inr q) (inr l) =
        let a : at < length old = slice_get_within old at k there in
        let last : i ≡ length old - 1 = omega arith in
        let m : at + 1 < length old = omega arith in
        (at, (let g = f in omega arith), moved j m ∙ ap (λ x. get_or old x j) (sym last) ∙ e)

  pub only_old : (j : ℕ) → Contains new j → Contains old j
  only_old j (i, h, e) = by (eq_or i at) where
    f : length new + 1 ≡ length old
    f = fewer

    by : (i ≡ at) ⊎ (i ≢ at) → Contains old j
    by (inl q) =
        let g = f in
        let m : at + 1 < length old = omega arith in
        (length old - 1, omega arith, sym (moved j m) ∙ ap (λ x. get_or new x j) (sym q) ∙ e)
    by (inr q) = let g = f in (i, omega arith, sym (kept i j q (omega arith)) ∙ e)

pub taken_is : (lists : List (Vec ℕ Global)) (c k at : ℕ) (v w : Vec ℕ Global) (n : ℕ) → c < length lists → v ≡ get_or lists c v
    → slice_get v.items at ≡ Some k → n ≡ length v.items → length w.items + 1 ≡ length v.items
    → ((d : ℕ) → at + 1 < n → slice_index_or w.items at d ≡ slice_index_or v.items (n - 1) d)
    → ((i : ℕ) (d : ℕ) → i ≢ at → i + 1 < n → slice_index_or w.items i d ≡ slice_index_or v.items i d)
    → IsTaken c k (lists_of lists) (lists_of (slice_set lists c w))
taken_is lists c k at v w n h e t q f moved kept =
    let o : holders (lists_of lists) c ≡ v.items = holders_at lists c v h ∙ ap (λ (x : Vec ℕ Global). x.items) (sym e) in
    let s : holders (lists_of (slice_set lists c w)) c ≡ w.items = holders-set lists c w h in
    let m1 = subst (λ m. (d : ℕ) → at + 1 < m → slice_index_or w.items at d ≡ slice_index_or v.items (m - 1) d) q moved in
    let m2 = subst (λ m. (i : ℕ) (d : ℕ) → i ≢ at → i + 1 < m → slice_index_or w.items i d ≡ slice_index_or v.items i d) q kept in
    record {
      count = count-set lists c w;
      stays = λ j d i.
          let P : List ℕ → Type 0 = λ x. Contains x j in
          subst P (sym s) (others_stay v.items w.items at k t f m1 m2 j d (subst P o i));
      left = λ j i.
          let P : List ℕ → Type 0 = λ x. Contains x j in
          subst P (sym o) (only_old v.items w.items at k t f m1 m2 j (subst P s i));
      elsewhere = λ x d. holders-other lists c w x d;
    }

-- one column is noted
only-by : (column k : ℕ) (old new : List (List ℕ)) → length new ≡ length old → ((c : ℕ) → c ≢ column → holders new c ≡ holders old c)
    → ((j : ℕ) → j ≢ k → Contains (holders old column) j → Contains (holders new column) j)
    → ((j : ℕ) → Contains (holders new column) j → (j ≡ k) ⊎ Contains (holders old column) j) → IsOnly k old new
only-by column k old new n f stays comes = record {
  count = n;
  stays = λ c j d i. elim (eq_or c column) [
    | inl q ↦
        let P : ℕ → Type 0 = λ x. Contains (holders old x) j in
        let Q : ℕ → Type 0 = λ x. Contains (holders new x) j in subst Q (sym q) (stays j d (subst P q i))
    | inr q ↦ let P : List ℕ → Type 0 = λ x. Contains x j in subst P (sym (f c q)) i
  ];
  comes = λ c j i. elim (eq_or c column) [
    | inl q ↦
        let P : ℕ → Type 0 = λ x. (j ≡ k) ⊎ Contains (holders old x) j in
        let Q : ℕ → Type 0 = λ x. Contains (holders new x) j in subst P (sym q) (comes j (subst Q q i))
    | inr q ↦ let P : List ℕ → Type 0 = λ x. Contains x j in inr (subst P (f c q) i)
  ];
}

noted_put : (column k : ℕ) (was z : ℤ) (old new : List (List ℕ)) → IsPut column k old new → IsNoted column k was z old new
noted_put column k was z old new p = record {
  only = only-by column k old new p.count p.elsewhere
      (λ j d i. let P : List ℕ → Type 0 = λ x. Contains x j in subst P (sym p.here) (Contains-append_left (holders old column) (k ∷ []) j i))
      (λ j i. elim (Contains-append_cases (holders old column) (k ∷ []) j (let P : List ℕ → Type 0 = λ x. Contains x j in subst P p.here i)) [
        | inl w ↦ inr w
        | inr w ↦ inl (single j w)
      ]);
  elsewhere = p.elsewhere;
  here = λ m f. let P : List ℕ → Type 0 = λ x. Contains x k in
      subst P (sym p.here) (Contains-append_right (holders old column) (k ∷ []) k (0, (omega arith), refl));
} where
  single : (j : ℕ) → Contains (k ∷ []) j → j ≡ k
  single j (zero, h, e) = sym e
  single j (suc i, h, e) = absurd (omega arith)

pub noted_taken : (column k : ℕ) (was z : ℤ) (old new : List (List ℕ)) → z ≡ pos 0 → IsTaken column k old new → IsNoted column k was z old new
noted_taken column k was z old new q t = record {
  only = only-by column k old new t.count t.elsewhere t.stays (λ j i. inr (t.left j i));
  elsewhere = t.elsewhere;
  here = λ m f. absurd (m q);
}

pub noted_none : (column k : ℕ) (was z : ℤ) (old : List (List ℕ)) → was ≢ pos 0 → IsNoted column k was z old old
noted_none column k was z old n = record {
  only = record { count = refl; stays = λ c j d i. i; comes = λ c j i. inr i };
  elsewhere = λ c d. refl;
  here = λ m f. f n;
}

pub put_noted : {E : Type 0} (column k : ℕ) (was z : ℤ) (old new : List (List ℕ)) (o : Result (Unit {0}) E) → IfOk o (λ u. IsPut column k old new)
    → IfOk o (λ u. IsNoted column k was z old new)
put_noted column k was z old new (Ok u) p = noted_put column k was z old new p
put_noted column k was z old new (Err e) p = tt

-- two rows walked below a column
pub record IsRelistedTo (columns next k : ℕ) (old new left right : List (ℕ × ℤ)) (first lists : List (List ℕ)) : Type 0 where
  pub left_part : IsLeft columns next old left
  pub right_part : IsLeft columns next new right
  pub within : next ≤ columns
  pub only : IsOnly k first lists
  pub done : (c : ℕ) → c < next → entry new c ≢ pos 0 → Contains (holders lists c) k
  pub todo : (c : ℕ) → next ≤ c → holders lists c ≡ holders first c

pub relisted_none : (columns k : ℕ) (old new : List (ℕ × ℤ)) (lists : List (List ℕ)) → IsSparse columns old → IsSparse columns new
    → IsRelistedTo columns 0 k old new old new lists lists
relisted_none columns k old new lists s t = record {
  left_part = left_all columns old s;
  right_part = left_all columns new t;
  within = omega arith;
  only = record { count = refl; stays = λ c j d i. i; comes = λ c j i. inr i };
  done = λ c h. absurd (omega arith);
  todo = λ c h. refl;
}

-- at the next column that has an entry in one of them
pub record IsRelistingAt (columns next c : ℕ) (old new left right : List (ℕ × ℤ)) : Type 0 where
  pub low : next ≤ c
  pub left_part : IsLeft columns c old left
  pub right_part : IsLeft columns c new right
  pub none : (x : ℕ) → next ≤ x → x < c → entry new x ≡ pos 0

pub relisting_at : (columns next k c : ℕ) (old new left right : List (ℕ × ℤ)) (first lists : List (List ℕ))
    → IsRelistedTo columns next k old new left right first lists
    → c ≡ min (first_column left columns) (first_column right columns) → IsRelistingAt columns next c old new left right
relisting_at columns next k c old new left right first lists x e =
    let l = first_from next columns left x.within x.left_part.sparse in
    let r = first_from next columns right x.within x.right_part.sparse in
    let la = l.0 in let ra = r.0 in
    let a = left_later columns next c old left (omega arith) (omega arith) x.within x.left_part in
    let b = left_later columns next c new right (omega arith) (omega arith) x.within x.right_part in
    record {
      low = omega arith;
      left_part = a;
      right_part = b;
      none = λ y h i. left_none columns next c y new right x.right_part b.sparse h i;
    }

apart : (c n : ℕ) → (c < n) ⊎ (n ≤ c)
apart c n = grind arith

by-place : (x n c : ℕ) → x < suc c → (x < n) ⊎ (((n ≤ x) × (x < c)) ⊎ (x ≡ c))
by-place x n c h = grind arith

pub relisted_end : (columns next k c : ℕ) (old new left right : List (ℕ × ℤ)) (first lists : List (List ℕ))
    → IsRelistedTo columns next k old new left right first lists
    → IsRelistingAt columns next c old new left right → columns ≤ c → IsHeld lists k new
relisted_end columns next k c old new left right first lists x a h = λ y n. elim (apart y next) [
  | inl b ↦ x.done y b n
  | inr b ↦ elim (apart y c) [
    | inl d ↦ absurd (n (a.none y b d))
    | inr d ↦ absurd (n (left_end columns c y new right a.right_part h d))
  ]
]

pub relisted_done : (columns next k : ℕ) (old new left right : List (ℕ × ℤ)) (first lists : List (List ℕ))
    → IsRelistedTo columns next k old new left right first lists → columns ≤ next → IsHeld lists k new
relisted_done columns next k old new left right first lists x h = λ y n. elim (apart y next) [
  | inl b ↦ x.done y b n
  | inr b ↦ absurd (n (left_end columns next y new right x.right_part h b))
]

only-then : (k : ℕ) (a b c : List (List ℕ)) → IsOnly k a b → IsOnly k b c → IsOnly k a c
only-then k a b c p q = record {
  count = q.count ∙ p.count;
  stays = λ x j d i. q.stays x j d (p.stays x j d i);
  comes = λ x j i. elim (q.comes x j i) [
    | inl e ↦ inl e
    | inr w ↦ p.comes x j w
  ];
}

pub relisted_more : (columns next k c : ℕ) (was z : ℤ) (old new left right rest1 rest2 : List (ℕ × ℤ)) (first lists next_lists : List (List ℕ))
    → c < columns → IsHeld first k old
    → IsRelistedTo columns next k old new left right first lists → IsRelistingAt columns next c old new left right
    → was ≡ head_at left c → z ≡ head_at right c → rest1 ≡ rest_at left c → rest2 ≡ rest_at right c
    → IsNoted c k was z lists next_lists → IsRelistedTo columns (suc c) k old new rest1 rest2 first next_lists
relisted_more columns next k c was z old new left right rest1 rest2 first lists next_lists h held x a ew ez e1 e2 n =
    let low = a.low in record {
      left_part = let P : List (ℕ × ℤ) → Type 0 = λ r. IsLeft columns (suc c) old r in subst P (sym e1) (left_next columns c old left a.left_part);
      right_part = let P : List (ℕ × ℤ) → Type 0 = λ r. IsLeft columns (suc c) new r in subst P (sym e2) (left_next columns c new right a.right_part);
      within = omega arith;
      only = only-then k first lists next_lists x.only n.only;
      done = λ y l m. elim (by-place y next c l) [
        | inl b ↦ let P : List ℕ → Type 0 = λ w. Contains w k in subst P (sym (n.elsewhere y (λ q. absurd (omega arith)))) (x.done y b m)
        | inr (inl b) ↦ absurd (m (a.none y b.0 b.1))
        | inr (inr q) ↦
            let P : ℕ → Type 0 = λ w. Contains (holders next_lists w) k in
            let Q : List ℕ → Type 0 = λ w. Contains w k in
            subst P (sym q) (n.here
            (λ o. m (ap (entry new) q ∙ sym (ez ∙ left_head columns c new right a.right_part) ∙ o))
            (λ o. subst Q (sym (x.todo c low)) (held c (λ g. o (ew ∙ left_head columns c old left a.left_part ∙ g)))))
      ];
      todo = λ y l. n.elsewhere y (λ q. absurd (omega arith)) ∙ x.todo y (omega arith);
    }

length-snoc : {X : Type 0} (xs : List X) (x : X) → length (xs ++ x ∷ []) ≡ length xs + 1
length-snoc [] x = refl
length-snoc (y ∷ xs) x = let e : length (xs ++ x ∷ []) ≡ length xs + 1 = length-snoc xs x in omega arith

pub empty_more : (n : ℕ) (lists : List (Vec ℕ Global)) (v : Vec ℕ Global) → v.items ≡ [] → AreEmpty n (lists_of lists) → AreEmpty (n + 1)
    (lists_of (lists ++ v ∷ []))
empty_more n lists v e a = record {
  count =
      length-map (lists ++ v ∷ []) (λ (w : Vec ℕ Global). w.items) ∙ length-snoc lists v
      ∙ ap (λ x. x + 1) (sym (length-map lists (λ (w : Vec ℕ Global). w.items)) ∙ a.count);
  none = λ c. holders-more lists v e c ∙ a.none c;
}

-- the first i rows are listed
pub record AreListedTo (n : ℕ) (rows : List (List (ℕ × ℤ))) (lists : List (List ℕ)) (i : ℕ) : Type 0 where
  pub count : length lists ≡ n
  pub held : (k : ℕ) (r : List (ℕ × ℤ)) → k < i → slice_get rows k ≡ Some r → IsHeld lists k r
  pub within : (c k : ℕ) → Contains (holders lists c) k → k < length rows

nothing-in : (j : ℕ) → Contains [] j → ⊥
nothing-in j (i, h, e) = absurd (omega arith)

pub listed_none : (n : ℕ) (rows : List (List (ℕ × ℤ))) (lists : List (List ℕ)) → AreEmpty n lists → AreListedTo n rows lists 0
listed_none n rows lists a = record {
  count = a.count;
  held = λ k r h. absurd (omega arith);
  within = λ c k i. absurd (nothing-in k (let P : List ℕ → Type 0 = λ x. Contains x k in subst P (a.none c) i));
}

split : (k i : ℕ) → k < i + 1 → (k < i) ⊎ (k ≡ i)
split k i h = grind arith

pub listed_more : (n : ℕ) (rows : List (List (ℕ × ℤ))) (lists news : List (List ℕ)) (i : ℕ) (row : List (ℕ × ℤ)) → slice_get rows i ≡ Some row
    → IsOnly i lists news → IsHeld news i row → AreListedTo n rows lists i → AreListedTo n rows news (i + 1)
listed_more n rows lists news i row er o h a = record {
  count = o.count ∙ a.count;
  held = λ k r b e. elim (split k i b) [
    | inl l ↦ λ c m. o.stays c k (λ q. absurd (omega arith)) (a.held k r l e c m)
    | inr q ↦
        let s : row ≡ r = same_some row r (sym er ∙ ap (slice_get rows) (sym q) ∙ e) in
        let P : ℕ → Type 0 = λ x. IsHeld news x r in
        let Q : List (ℕ × ℤ) → Type 0 = λ x. IsHeld news i x in subst P (sym q) (subst Q s h)
  ];
  within = λ c k w. elim (o.comes c k w) [
    | inl q ↦ let l = slice_get_within rows i row er in omega arith
    | inr z ↦ a.within c k z
  ];
}

pub listed_all : (n : ℕ) (rows : List (List (ℕ × ℤ))) (lists : List (List ℕ)) (i : ℕ) → length rows ≤ i → AreListedTo n rows lists i
    → AreListed n rows lists
listed_all n rows lists i h a = record {
  count = a.count;
  held = λ k r e. a.held k r (let l = slice_get_within rows k r e in omega arith) e;
  within = a.within;
}

-- one row has changed
pub listed_set : (n : ℕ) (rows : List (List (ℕ × ℤ))) (lists news : List (List ℕ)) (k : ℕ) (row : List (ℕ × ℤ)) → k < length rows
    → IsOnly k lists news → IsHeld news k row → AreListed n rows lists → AreListed n (slice_set rows k row) news
listed_set n rows lists news k row h o w a = record {
  count = o.count ∙ a.count;
  held = λ j r e. elim (eq_or j k) [
    | inl q ↦
        let s : row ≡ r = same_some row r (sym (set-same rows k row h) ∙ ap (slice_get (slice_set rows k row)) (sym q) ∙ e) in
        let P : ℕ → Type 0 = λ x. IsHeld news x r in
        let Q : List (ℕ × ℤ) → Type 0 = λ x. IsHeld news k x in subst P (sym q) (subst Q s w)
    | inr q ↦ λ c m. o.stays c j q (a.held j r (sym (set-other rows k j row q) ∙ e) c m)
  ];
  within = λ c j i.
      let l = length-set rows k row in
      elim (o.comes c j i) [
        | inl q ↦ omega arith
        | inr z ↦ let b = a.within c j z in omega arith
      ];
} where
  set-same : {X : Type 0} (xs : List X) (i : ℕ) (v : X) → i < length xs → slice_get (slice_set xs i v) i ≡ Some v
  set-same [] i v h = absurd (omega arith)
  set-same (x ∷ xs) zero v h = refl
  set-same (x ∷ xs) (suc i) v h = set-same xs i v (omega arith)

  set-other : {X : Type 0} (xs : List X) (i j : ℕ) (v : X) → j ≢ i → slice_get (slice_set xs i v) j ≡ slice_get xs j
  set-other [] i j v n = refl
  set-other (x ∷ xs) zero zero v n = absurd (n refl)
  set-other (x ∷ xs) zero (suc j) v n = refl
  set-other (x ∷ xs) (suc i) zero v n = refl
  set-other (x ∷ xs) (suc i) (suc j) v n = set-other xs i j v (λ e. n (ap suc e))

-- the same list read twice
pub same_read : (lists : List (Vec ℕ Global)) (c : ℕ) (v w : Vec ℕ Global) → c < length lists → v ≡ get_or lists c v → w ≡ get_or lists c w
    → v.items ≡ w.items
same_read lists c v w h e f =
    ap (λ (x : Vec ℕ Global). x.items) e ∙ sym (holders_at lists c v h) ∙ holders_at lists c w h ∙ ap (λ (x : Vec ℕ Global). x.items) (sym f)

-- the list of the column, as it is read
pub list_of : (lists : List (Vec ℕ Global)) (n c : ℕ) (v : Vec ℕ Global) → c < n → length (lists_of lists) ≡ n → v ≡ get_or lists c v
    → v.items ≡ holders (lists_of lists) c
list_of lists n c v h q e =
    let l = length-map lists (λ (w : Vec ℕ Global). w.items) in
    ap (λ (x : Vec ℕ Global). x.items) e ∙ sym (holders_at lists c v (omega arith))
