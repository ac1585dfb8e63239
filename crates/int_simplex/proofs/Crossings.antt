-- Loops over two rows, and what crossed rows are.
use Prim.Native.Nat.{◌∣◌}
use Rattle.std.specs.Prelude.{ℕ, suc, min, ◌≡◌, ◌≢◌, ◌⊎◌, ◌<◌, ◌≤◌, ◌+◌, ◌==◌, Bool, true, false, cond, List, [], ◌∷◌, ◌++◌, length, map, drop, Result, Ok, Err, unsigned_abs, IfErr, IsErrAnd}
use Rattle.std.proofs.Common.{sym, ◌∙◌, ap, subst, arith, refl, get_or, inl, inr}
use Rattle.std.proofs.lemmas.List.{drop_more}
use Rattle.std.specs.declared.vec.Vec.{Vec}
use Rattle.std.specs.declared.alloc.Global.{Global}
use Rattle.int_simplex.specs.declared.trouble.Trouble.{Trouble}
use Rattle.int_simplex.specs.declared.trouble.Trouble.TheVariants as t
use lib.IntN.{ℤ, pos, ◌+ℤ◌, ◌-ℤ◌, ◌*ℤ◌, *ℤ-zero}
use Rattle.kind_num.specs.Exact.{IsExact, within}
use Rattle.kind_num.specs.declared.Past.{Past}
use Rattle.kind_num.specs.declared.Op.TheVariants.{Sub}
use Rattle.kind_num.proofs.Ring.{sum_times}
use Rattle.proof_steps.specs.Rows.{entry}
use Rattle.int_simplex.specs.Crossing.{IsCross, IsCrossPast, IsRowPast, IsReduced, IsPivoted, HasEntry, HasEntries, crossed, scaled}
use Rattle.int_simplex.specs.Sparse.{IsFrom, IsSparse, head_at, rest_at, first_column}
use Rattle.int_simplex.specs.Making.{IsMadeTo}
use Rattle.int_simplex.proofs.Sparse.{same_if, other_if, entry_below, entry_past, head_is, rest_from, rest_same, first_from, listed_entry, sparse_more, sparse_wider, lower_start, entry_more, entry_last}
use Rattle.int_simplex.proofs.Algebra.{product_zero, difference_zero, difference_swapped}

pub cross_sub : (p q a b l r : ℤ) (o : Result ℤ Past) → IsExact Sub l r (l -ℤ r) o → l ≡ p *ℤ a → r ≡ q *ℤ b → IsCross p q a b o
cross_sub p q a b l r (Ok z) (w, e) el er = e ∙ ap (λ x. x -ℤ r) el ∙ ap (λ x. p *ℤ a -ℤ x) er
cross_sub p q a b l r (Err past) (w, e) el er =
    inr (inr (
      e ∙ ap (λ x. record { op = Sub; left = x; right = r }) el ∙ ap (λ x. record { op = Sub; left = p *ℤ a; right = x }) er,
      ap (λ x. within (x -ℤ q *ℤ b)) (sym el) ∙ ap (λ x. within (l -ℤ x)) (sym er) ∙ w,
    ))

-- one more number is divided
pub scaled_more : (g : ℕ) (row out : List (ℕ × ℤ)) (i : ℕ) (z w : ℕ × ℤ) → i < length row → scaled g w ≡ get_or row i z
    → map (scaled g) (out ++ w ∷ []) ++ drop (i + 1) row ≡ map (scaled g) out ++ drop i row
scaled_more g row [] i z w h e = ap (λ x. x ∷ drop (i + 1) row) e ∙ sym (drop_more row i z h)
scaled_more g row (x ∷ out) i z w h e = ap (λ y. scaled g x ∷ y) (scaled_more g row out i z w h e)

-- what is made below n, and a next column
pub made_none : (f : ℕ → ℤ) → IsMadeTo 0 f []
made_none f = record { sparse = tt; same = λ c h. absurd (omega arith) }

by-place : (c n k : ℕ) → c < suc k → (c < n) ⊎ (((n ≤ c) × (c < k)) ⊎ (c ≡ k))
by-place c n k h = grind arith

pub made_skip : (n k : ℕ) (f : ℕ → ℤ) (out : List (ℕ × ℤ)) → IsMadeTo n f out → n ≤ k → ((c : ℕ) → n ≤ c → c < k → f c ≡ pos 0) → f k ≡ pos 0
    → IsMadeTo (suc k) f out
made_skip n k f out m h z w = record {
  sparse = sparse_wider 0 n (suc k) out (omega arith) m.sparse;
  same = λ c l. elim (by-place c n k l) [
    | inl b ↦ m.same c b
    | inr (inl b) ↦ entry_past 0 n out c m.sparse b.0 ∙ sym (z c b.0 b.1)
    | inr (inr q) ↦ entry_past 0 n out c m.sparse (omega arith) ∙ sym w ∙ ap f (sym q)
  ];
}

pub made_more : (n k : ℕ) (f : ℕ → ℤ) (out : List (ℕ × ℤ)) (v : ℤ) → IsMadeTo n f out → n ≤ k → ((c : ℕ) → n ≤ c → c < k → f c ≡ pos 0)
    → v ≡ f k → v ≢ pos 0 → IsMadeTo (suc k) f (out ++ (k, v) ∷ [])
made_more n k f out v m h z w o = record {
  sparse = sparse_more 0 n (suc k) out k v m.sparse h (omega arith) (omega arith) o;
  same = λ c l. elim (by-place c n k l) [
    | inl b ↦ entry_more out k v c (λ q. absurd (omega arith)) ∙ m.same c b
    | inr (inl b) ↦ entry_more out k v c (λ q. absurd (omega arith)) ∙ entry_past 0 n out c m.sparse b.0 ∙ sym (z c b.0 b.1)
    | inr (inr q) ↦ ap (entry (out ++ (k, v) ∷ [])) q ∙ entry_last out k v (entry_past 0 n out k m.sparse h) ∙ w ∙ ap f (sym q)
  ];
}

pub made_all : (n columns : ℕ) (f : ℕ → ℤ) (out : List (ℕ × ℤ)) → IsMadeTo n f out → n ≤ columns → ((c : ℕ) → n ≤ c → f c ≡ pos 0)
    → HasEntries columns f out
made_all n columns f out m h z = record {
  sparse = sparse_wider 0 n columns out h m.sparse;
  same = λ c. elim (below c n) [
    | inl b ↦ m.same c b
    | inr b ↦ entry_past 0 n out c m.sparse b ∙ sym (z c b)
  ];
} where
  below : (c n : ℕ) → (c < n) ⊎ (n ≤ c)
  below c n = grind arith

-- what is left of a row from a column on
pub record IsLeft (n next : ℕ) (row rest : List (ℕ × ℤ)) : Type 0 where
  pub sparse : IsFrom next n rest
  pub same : (k : ℕ) → next ≤ k → entry rest k ≡ entry row k

pub left_all : (n : ℕ) (row : List (ℕ × ℤ)) → IsSparse n row → IsLeft n 0 row row
left_all n row s = record { sparse = s; same = λ k h. refl }

-- up to the least first column nothing is left out
pub left_later : (n next c : ℕ) (row rest : List (ℕ × ℤ)) → next ≤ c → c ≤ first_column rest n → next ≤ n → IsLeft n next row rest → IsLeft n c row rest
left_later n next c row rest h f b l =
    let w = first_from next n rest b l.sparse in record {
      sparse = lower_start c (first_column rest n) n rest f w.1;
      same = λ k i. l.same k (omega arith);
    }

pub left_none : (n next c k : ℕ) (row rest : List (ℕ × ℤ)) → IsLeft n next row rest → IsFrom c n rest → next ≤ k → k < c → entry row k ≡ pos 0
left_none n next c k row rest l s h b = sym (l.same k h) ∙ entry_below c n rest k s b

pub left_next : (n c : ℕ) (row rest : List (ℕ × ℤ)) → IsLeft n c row rest → IsLeft n (suc c) row (rest_at rest c)
left_next n c row rest l = record {
  sparse = rest_from c n rest l.sparse;
  same = λ k h. rest_same c n rest k h ∙ l.same k (omega arith);
}

pub left_head : (n c : ℕ) (row rest : List (ℕ × ℤ)) → IsLeft n c row rest → head_at rest c ≡ entry row c
left_head n c row rest l = head_is c n rest l.sparse ∙ l.same c (omega arith)

pub left_end : (n c k : ℕ) (row rest : List (ℕ × ℤ)) → IsLeft n c row rest → n ≤ c → c ≤ k → entry row k ≡ pos 0
left_end n c k row rest l h b = sym (l.same k b) ∙ entry_past c n rest k l.sparse (omega arith)

pub crossed_zero : (p q : ℤ) (row other : List (ℕ × ℤ)) (c : ℕ) → entry row c ≡ pos 0 → entry other c ≡ pos 0 → crossed p q row other c ≡ pos 0
crossed_zero p q row other c a b = ap (λ z. p *ℤ z -ℤ q *ℤ entry other c) a ∙ ap (λ z. p *ℤ pos 0 -ℤ q *ℤ z) b ∙ difference_zero p q

-- entries of a row's multiple
scaled-case : (b : Bool) (g a s : ℤ) → cond b (g *ℤ a +ℤ g *ℤ s) (g *ℤ s) ≡ g *ℤ cond b (a +ℤ s) s
scaled-case true g a s = sym (sum_times g a s)
scaled-case false g a s = refl

pub entry-scaled : (g : ℕ) (row : List (ℕ × ℤ)) (c : ℕ) → entry (map (scaled g) row) c ≡ pos g *ℤ entry row c
entry-scaled g [] c = sym (*ℤ-zero (pos g))
entry-scaled g ((x, a) ∷ row) c =
    ap (λ z. cond (x == c) ((pos g *ℤ a) +ℤ z) z) (entry-scaled g row c) ∙ scaled-case (x == c) (pos g) a (entry row c)

unscaled : (l n g : ℕ) (row : List (ℕ × ℤ)) → IsFrom l n (map (scaled g) row) → IsFrom l n row
unscaled l n g [] s = tt
unscaled l n g (t ∷ row) s = (s.0, s.1, (λ e. s.2 (ap (λ z. pos g *ℤ z) e ∙ *ℤ-zero (pos g))), unscaled (suc t.0) n g row s.3)

-- the row that is left without the common factor
pub reduced_pivoted : (n c : ℕ) (row other made new : List (ℕ × ℤ)) → HasEntries n (crossed (entry other c) (entry row c) row other) made
    → IsReduced made new → IsPivoted n c row other new
reduced_pivoted n c row other made new h r =
    let s : IsSparse n new = unscaled 0 n r.factor new (let P : List (ℕ × ℤ) → Type 0 = λ z. IsSparse n z in subst P (sym r.multiples) h.sparse) in
    record {
      sparse = s;
      gone = product_zero (pos r.factor) (entry new c) (λ e. r.factor_not_zero (unpos e))
          (sym (entry-scaled r.factor new c) ∙ ap (λ z. entry z c) r.multiples ∙ h.same c ∙ difference_swapped (entry other c) (entry row c));
      crossing = λ k m. record {
        factor = pos r.factor;
        factor_not_zero = λ e. r.factor_not_zero (unpos e);
        entries = λ j. sym (h.same j) ∙ ap (λ z. entry z j) (sym r.multiples) ∙ entry-scaled r.factor new j;
        coprime = λ d f. r.coprime d (λ i t e.
            let w = listed_entry 0 n new i t s e in
            let P : ℤ → Type 0 = λ z. d ∣ unsigned_abs z in subst P w.0 (f t.0));
      };
    } where
      unpos : {m : ℕ} → pos m ≡ pos 0 → m ≡ 0
      unpos e = cc

pub empty_pivoted : (n c : ℕ) (row other made : List (ℕ × ℤ)) → made ≡ [] → HasEntries n (crossed (entry other c) (entry row c) row other) made
    → IsPivoted n c row other made
empty_pivoted n c row other made e h = record {
  sparse = h.sparse;
  gone = h.same c ∙ difference_swapped (entry other c) (entry row c);
  crossing = λ k m. absurd (m (sym (h.same k) ∙ ap (λ z. entry z k) e));
}

pub made_has : (n : ℕ) (f : ℕ → ℤ) (made : List (ℕ × ℤ)) → made ≢ [] → HasEntries n f made → HasEntry made
made_has n f [] m h = absurd (m refl)
made_has n f (t ∷ made) m h = (0, t, refl, h.sparse.2)

-- two rows crossed below a column
pub record IsCrossingTo (columns next : ℕ) (p q : ℤ) (row other left right out : List (ℕ × ℤ)) : Type 0 where
  pub made : IsMadeTo next (crossed p q row other) out
  pub left_part : IsLeft columns next row left
  pub right_part : IsLeft columns next other right
  pub within : next ≤ columns

-- at the next column that has an entry in one of them
pub record IsCrossingAt (columns next c : ℕ) (p q : ℤ) (row other left right : List (ℕ × ℤ)) : Type 0 where
  pub low : next ≤ c
  pub left_part : IsLeft columns c row left
  pub right_part : IsLeft columns c other right
  pub zero : (k : ℕ) → next ≤ k → k < c → crossed p q row other k ≡ pos 0

pub crossing_at : (columns next c : ℕ) (p q : ℤ) (row other left right out : List (ℕ × ℤ)) → IsCrossingTo columns next p q row other left right out
    → c ≡ min (first_column left columns) (first_column right columns) → IsCrossingAt columns next c p q row other left right
crossing_at columns next c p q row other left right out x e =
    let l = first_from next columns left x.within x.left_part.sparse in
    let r = first_from next columns right x.within x.right_part.sparse in
    let la = l.0 in let ra = r.0 in
    let a = left_later columns next c row left (omega arith) (omega arith) x.within x.left_part in
    let b = left_later columns next c other right (omega arith) (omega arith) x.within x.right_part in
    record {
      low = omega arith;
      left_part = a;
      right_part = b;
      zero = λ k h i. crossed_zero p q row other k (left_none columns next c k row left x.left_part a.sparse h i)
          (left_none columns next c k other right x.right_part b.sparse h i);
    }

pub crossing_end : (columns next c : ℕ) (p q : ℤ) (row other left right out : List (ℕ × ℤ)) → IsCrossingTo columns next p q row other left right out
    → IsCrossingAt columns next c p q row other left right → columns ≤ c → HasEntries columns (crossed p q row other) out
crossing_end columns next c p q row other left right out x a h =
    made_all next columns (crossed p q row other) out x.made x.within (λ k i. by k i) where
      split : (k c : ℕ) → (k < c) ⊎ (c ≤ k)
      split k c = grind arith

      by : (k : ℕ) → next ≤ k → crossed p q row other k ≡ pos 0
      by k i = elim (split k c) [
        | inl b ↦ a.zero k i b
        | inr b ↦ crossed_zero p q row other k (left_end columns c k row left a.left_part h b) (left_end columns c k other right a.right_part h b)
      ]

pub crossing_done : (columns next : ℕ) (p q : ℤ) (row other left right out : List (ℕ × ℤ)) → IsCrossingTo columns next p q row other left right out
    → columns ≤ next → HasEntries columns (crossed p q row other) out
crossing_done columns next p q row other left right out x h =
    made_all next columns (crossed p q row other) out x.made x.within
    (λ k i. crossed_zero p q row other k (left_end columns next k row left x.left_part h i) (left_end columns next k other right x.right_part h i))

pub crossing_step : (columns next c : ℕ) (p q : ℤ) (row other left right rest1 rest2 out new : List (ℕ × ℤ)) → c < columns
    → IsCrossingAt columns next c p q row other left right → rest1 ≡ rest_at left c → rest2 ≡ rest_at right c
    → IsMadeTo (suc c) (crossed p q row other) new → IsCrossingTo columns (suc c) p q row other rest1 rest2 new
crossing_step columns next c p q row other left right rest1 rest2 out new h a e1 e2 m = record {
  made = m;
  left_part = let P : List (ℕ × ℤ) → Type 0 = λ r. IsLeft columns (suc c) row r in subst P (sym e1) (left_next columns c row left a.left_part);
  right_part = let P : List (ℕ × ℤ) → Type 0 = λ r. IsLeft columns (suc c) other r in subst P (sym e2) (left_next columns c other right a.right_part);
  within = omega arith;
}

pub crossing_number : (columns next c : ℕ) (p q z a b : ℤ) (row other left right : List (ℕ × ℤ)) → IsCrossingAt columns next c p q row other left right
    → a ≡ head_at left c → b ≡ head_at right c → z ≡ p *ℤ a -ℤ q *ℤ b → z ≡ crossed p q row other c
crossing_number columns next c p q z a b row other left right x ea eb e =
    e ∙ ap (λ w. p *ℤ w -ℤ q *ℤ b) (ea ∙ left_head columns c row left x.left_part)
    ∙ ap (λ w. p *ℤ entry row c -ℤ q *ℤ w) (eb ∙ left_head columns c other right x.right_part)

pub row_past : (columns next c : ℕ) (p q a b : ℤ) (row other left right : List (ℕ × ℤ)) (past : Past) (o : Result (Vec (ℕ × ℤ) Global) Trouble)
    → IsCrossingAt columns next c p q row other left right → a ≡ head_at left c → b ≡ head_at right c → IsCrossPast p q a b past
    → IsErrAnd o (λ e. e ≡ t.Past past) → IfErr o (IsRowPast p q row other)
row_past columns next c p q a b row other left right past (Ok v) x ea eb h e = tt
row_past columns next c p q a b row other left right past (Err y) x ea eb h e =
    let P : ℤ → Type 0 = λ w. IsCrossPast p q w b past in
    let Q : ℤ → Type 0 = λ w. IsCrossPast p q (entry row c) w past in
    subst (IsRowPast p q row other) (sym e)
    (c, subst Q (eb ∙ left_head columns c other right x.right_part) (subst P (ea ∙ left_head columns c row left x.left_part) h))

pub past_of : (p q x y : ℤ) (row other : List (ℕ × ℤ)) (e : Trouble) (o : Result (Vec (ℕ × ℤ) Global) Trouble) → x ≡ p → y ≡ q
    → IsRowPast x y row other e → IsErrAnd o (λ z. z ≡ e) → IfErr o (IsRowPast p q row other)
past_of p q x y row other e (Ok v) hx hy h i = tt
past_of p q x y row other e (Err z) hx hy h i =
    subst (λ w. IsRowPast p q row other w) (sym i) (subst (λ w. IsRowPast p w row other e) hy (subst (λ w. IsRowPast w y row other e) hx h))

pub made_of : (columns c : ℕ) (p q : ℤ) (row other made : List (ℕ × ℤ)) → p ≡ entry other c → q ≡ entry row c
    → HasEntries columns (crossed p q row other) made → HasEntries columns (crossed (entry other c) (entry row c) row other) made
made_of columns c p q row other made ep eq h =
    let P : ℤ → Type 0 = λ z. HasEntries columns (crossed z q row other) made in
    let Q : ℤ → Type 0 = λ z. HasEntries columns (crossed (entry other c) z row other) made in
    subst Q eq (subst P ep h)

pub empty_list : {X : Type 0} (xs : List X) (n : ℕ) → length xs ≡ n → true ≡ (n == 0) → xs ≡ []
empty_list [] n l e = refl
empty_list (x ∷ xs) n l e = let q : n ≡ 0 = same_if n 0 (sym e) in absurd (omega arith)

pub full_list : {X : Type 0} (xs : List X) (n : ℕ) → length xs ≡ n → false ≡ (n == 0) → xs ≡ [] → ⊥
full_list xs n l e q =
    let z : length xs ≡ 0 = ap length q in
    let d : n ≢ 0 = other_if n 0 (sym e) in d (omega arith)
