-- Rows that are made can be given to a tableau.
use Rattle.std.specs.Prelude.{ℕ, suc, ◌≡◌, ◌≢◌, ◌⊎◌, ◌+◌, ◌<◌, ◌≤◌, List, [], ◌∷◌, ◌++◌, length, map, max}
use Rattle.std.proofs.Common.{sym, ◌∙◌, ap, subst, arith, refl, inl, inr, get_or}
use Rattle.std.proofs.lemmas.Option.{slice_get-get_or, slice_get_within}
use Rattle.std.specs.declared.vec.Vec.{Vec}
use Rattle.std.specs.declared.alloc.Global.{Global}
use lib.IntN.{ℤ, pos, negsuc}
use Rattle.std.proofs.lemmas.Int.{ints}
use Rattle.proof_steps.specs.View.{row_view}
use Rattle.proof_steps.specs.Rows.{entry}
use Rattle.int_simplex.specs.Given.{AreGiven, last_column}
use Rattle.int_simplex.specs.Sparse.{IsFrom}
use Rattle.int_simplex.proofs.Places.{same_some, get-append, get-last}
use Rattle.int_simplex.proofs.Sparse.{sparse_more, sparse_wider, sparse_differ, sparse_within, entry_last, entry_more, entry_past}
use Rattle.simplex_cases.specs.Made.{IsMade, IsGrown, AreMade}

pub grown : (n : ℕ) (a : ℤ) (old new : List (ℕ × ℤ)) → IsFrom 0 n old → IsGrown n a old new → IsFrom 0 (n + 1) new
grown n a old new h g =
    let e : suc n ≡ n + 1 = omega arith in
    let P : ℕ → Type 0 = λ k. IsFrom 0 k new in
    let Q : List (ℕ × ℤ) → Type 0 = λ r. IsFrom 0 (suc n) r in
    subst P e (elim g [
      | inl w ↦ subst Q (sym w.1) (sparse_wider 0 n (suc n) old (omega arith) h)
      | inr w ↦ subst Q (sym w.1) (sparse_more 0 n (suc n) old n a h (omega arith) (omega arith) (omega arith) w.0)
    ])

below-max : (a b : ℕ) → a < b → max a b ≡ b
below-max a b h = grind arith

last-own : (l n own : ℕ) (front : List (ℕ × ℤ)) → IsFrom l n front → n ≤ own → last_column (front ++ (own, negsuc 0) ∷ []) ≡ own
last-own l n own [] h b = let m : max own 0 ≡ own = grind arith in m
last-own l n own (t ∷ front) h b =
    let i = last-own (suc t.0) n own front h.3 b in
    let c : t.0 < n = h.1 in
    ap (max t.0) i ∙ below-max t.0 own (omega arith)

made-from : (n own : ℕ) (row : List (ℕ × ℤ)) → n ≤ own → IsMade n own row → IsFrom 0 (suc own) row
made-from n own row b (front, h, e) =
    let P : List (ℕ × ℤ) → Type 0 = λ r. IsFrom 0 (suc own) r in
    subst P (sym e) (sparse_more 0 n (suc own) front own (negsuc 0) h b (omega arith) (omega arith) (λ z. absurd (omega (arith, ints))))

made-last : (n own : ℕ) (row : List (ℕ × ℤ)) → n ≤ own → IsMade n own row → last_column row ≡ own
made-last n own row b (front, h, e) = ap last_column e ∙ last-own 0 n own front h b

made-end : (n own : ℕ) (row : List (ℕ × ℤ)) → n ≤ own → IsMade n own row → entry row own ≡ negsuc 0
made-end n own row b (front, h, e) = ap (λ r. entry r own) e ∙ entry_last front own (negsuc 0) (entry_past 0 n front own h b)

made-other : (n own c : ℕ) (row : List (ℕ × ℤ)) → n ≤ c → own ≢ c → IsMade n own row → entry row c ≡ pos 0
made-other n own c row b d (front, h, e) = ap (λ r. entry r c) e ∙ entry_more front own (negsuc 0) c d ∙ entry_past 0 n front c h b

pub made_given : (n count : ℕ) (rows : List (List (ℕ × ℤ))) → AreMade n count rows → AreGiven rows (n + count)
made_given n count rows m = record {
  different = λ k d h. sparse_differ 0 (suc (n + k)) (get_or rows k d) (made-from n (n + k) (get_or rows k d) (omega arith) (at k d h));
  in_range = λ k d h.
      let e = m.number in
      sparse_within 0 (n + count) (get_or rows k d)
      (sparse_wider 0 (suc (n + k)) (n + count) (get_or rows k d) (omega arith) (made-from n (n + k) (get_or rows k d) (omega arith) (at k d h)));
  ends = λ k d h. ap (entry (get_or rows k d)) (made-last n (n + k) (get_or rows k d) (omega arith) (at k d h)) ∙ made-end n (n + k)
      (get_or rows k d) (omega arith) (at k d h);
  alone = λ i j r s d er es.
      ap (entry s) (made-last n (n + i) r (omega arith) (m.each i r er))
      ∙ made-other n (n + j) (n + i) s (omega arith) (λ q. d (let p : i ≡ j = omega arith in p)) (m.each j s es);
} where
  at : (k : ℕ) (d : List (ℕ × ℤ)) → k < length rows → IsMade n (n + k) (get_or rows k d)
  at k d h = m.each k (get_or rows k d) (slice_get-get_or rows k d h)

split : (k i : ℕ) → k < i + 1 → (k < i) ⊎ (k ≡ i)
split k i h = grind arith

length-snoc : {X : Type 0} (xs : List X) (x : X) → length (xs ++ x ∷ []) ≡ length xs + 1
length-snoc [] x = refl
length-snoc (y ∷ xs) x = let e : length (xs ++ x ∷ []) ≡ length xs + 1 = length-snoc xs x in omega arith

pub made_more : (n i : ℕ) (rows : List (List (ℕ × ℤ))) (r : List (ℕ × ℤ)) → AreMade n i rows → IsMade n (n + i) r → AreMade n (i + 1) (rows ++ r ∷ [])
made_more n i rows r m h = record {
  number = let e = m.number in length-snoc rows r ∙ ap (λ k. k + 1) e;
  each = λ k s e.
      let c = m.number in
      let l : length (rows ++ r ∷ []) ≡ length rows + 1 = length-snoc rows r in
      let b : k < length (rows ++ r ∷ []) = slice_get_within (rows ++ r ∷ []) k s e in
      elim (split k i (omega arith)) [
        | inl d ↦ m.each k s (sym (get-append rows (r ∷ []) k (omega arith)) ∙ e)
        | inr q ↦
            let w : r ≡ s = same_some r s (sym (get-last rows r k (omega arith)) ∙ e) in
            let P : List (ℕ × ℤ) → Type 0 = λ y. IsMade n (n + k) y in
            let Q : ℕ → Type 0 = λ y. IsMade n (n + y) r in
            subst P w (subst Q (sym q) h)
      ];
}

pub views_more : (rows : List (Vec (ℕ × ℤ) Global)) (r : Vec (ℕ × ℤ) Global) → map row_view (rows ++ r ∷ []) ≡ map row_view rows ++ row_view r ∷ []
views_more [] r = refl
views_more (y ∷ rows) r = ap (λ rs. row_view y ∷ rs) (views_more rows r)
