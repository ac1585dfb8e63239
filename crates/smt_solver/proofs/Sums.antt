-- The rows of atoms, made one after the other, and that a tableau takes them.
use Rattle.std.specs.Prelude.{ℕ, zero, suc, ◌≡◌, ◌≢◌, ◌+◌, ◌<◌, ◌≤◌, ◌^◌, Bool, true, false, cond, List, [], ◌∷◌, ◌++◌, length, map, max, nat_lt, Some, slice_get, refl}
use Rattle.std.specs.List.{AllByRecursion, AllPairs}
use Rattle.std.proofs.Common.{sym, ◌∙◌, ap, subst, arith, get_or}
use Rattle.std.proofs.lemmas.Bool.Decides.{nat_tests}
use Rattle.std.proofs.lemmas.Int.{ints}
use Rattle.std.proofs.lemmas.List.Elements.{recursion_from_All}
use Rattle.std.proofs.lemmas.List.Kept.{AllPairs-from_increasing}
use Rattle.std.proofs.lemmas.Option.{slice_get-get_or}
use lib.IntN.{ℤ, pos, negsuc}
use Rattle.kind_num.specs.declared.Shape.{Shape}
use Rattle.kind_num.specs.declared.Shape.TheVariants.{Number}
use Rattle.proof_steps.specs.View.{Inequality}
use Rattle.proof_steps.specs.Rows.{Form, is_long, entry, defining_rows, rows_of, columns_of}
use Rattle.cnf_maker.specs.Plain.{IsPlain, IsPlainAtom, IsTermOf}
use Rattle.int_simplex.specs.Given.{AreGiven, last_column}
use Rattle.int_simplex.specs.Sparse.{IsFrom}
use Rattle.int_simplex.proofs.Sparse.{sparse_more, sparse_wider, sparse_differ, sparse_within, entry_last, entry_more, entry_past}

pub long-by-length : (ts : List (ℕ × ℤ)) → nat_lt 1 (length ts) ≡ is_long ts
long-by-length [] = refl
long-by-length (t ∷ []) = refl
long-by-length (t ∷ u ∷ rest) = at-least-two (length rest) where
  at-least-two : (n : ℕ) → nat_lt 1 (suc (suc n)) ≡ true
  at-least-two n = grind (arith, nat_tests)

-- the rows are those so far and those that are to come
abbrev pub AreRowsSo : ℕ → List Inequality → ℕ → List Inequality → List (List (ℕ × ℤ)) → Type 0
AreRowsSo first all column rest rows =
    (rows ++ defining_rows column rest ≡ defining_rows first all) × (column ≡ first + length rows) × (column < 2 ^ 32)

-- ---- a row with a column of its own behind its variables

abbrev pub IsMade : ℕ → ℕ → List (ℕ × ℤ) → Type 0
IsMade n own row = (front : List (ℕ × ℤ)) × IsFrom 0 n front × (row ≡ front ++ (own, negsuc 0) ∷ [])

-- the row at place k has the own column first + k
abbrev pub AreMade : ℕ → ℕ → List (List (ℕ × ℤ)) → Type 0
AreMade n first rows = (k : ℕ) (r : List (ℕ × ℤ)) → slice_get rows k ≡ Some r → IsMade n (first + k) r

below-max : (a b : ℕ) → a < b → max a b ≡ b
below-max a b h = grind arith

last-own : (l n own : ℕ) (front : List (ℕ × ℤ)) → IsFrom l n front → n ≤ own
    → last_column (front ++ (own, negsuc 0) ∷ []) ≡ own
last-own l n own [] h b = let m : max own 0 ≡ own = grind arith in m
last-own l n own (t ∷ front) h b =
    let i = last-own (suc t.0) n own front h.3 b in
    let c : t.0 < n = h.1 in
    ap (max t.0) i ∙ below-max t.0 own (omega arith)

made-from : (n own : ℕ) (row : List (ℕ × ℤ)) → n ≤ own → IsMade n own row → IsFrom 0 (suc own) row
made-from n own row b (front, h, e) =
    let P : List (ℕ × ℤ) → Type 0 = λ r. IsFrom 0 (suc own) r in
    subst P (sym e)
    (sparse_more 0 n (suc own) front own (negsuc 0) h b (omega arith) (omega arith) (λ z. absurd (omega (arith, ints))))

made-last : (n own : ℕ) (row : List (ℕ × ℤ)) → n ≤ own → IsMade n own row → last_column row ≡ own
made-last n own row b (front, h, e) = ap last_column e ∙ last-own 0 n own front h b

made-end : (n own : ℕ) (row : List (ℕ × ℤ)) → n ≤ own → IsMade n own row → entry row own ≡ negsuc 0
made-end n own row b (front, h, e) =
    ap (λ r. entry r own) e ∙ entry_last front own (negsuc 0) (entry_past 0 n front own h b)

made-other : (n own c : ℕ) (row : List (ℕ × ℤ)) → n ≤ c → own ≢ c → IsMade n own row → entry row c ≡ pos 0
made-other n own c row b d (front, h, e) =
    ap (λ r. entry r c) e ∙ entry_more front own (negsuc 0) c d ∙ entry_past 0 n front c h b

made-given : (n : ℕ) (rows : List (List (ℕ × ℤ))) → AreMade n n rows → AreGiven rows (n + length rows)
made-given n rows m = record {
  different = λ k d h. sparse_differ 0 (suc (n + k)) (get_or rows k d)
      (made-from n (n + k) (get_or rows k d) (omega arith) (at k d h));
  in_range = λ k d h. sparse_within 0 (n + length rows) (get_or rows k d)
      (sparse_wider 0 (suc (n + k)) (n + length rows) (get_or rows k d) (omega arith)
      (made-from n (n + k) (get_or rows k d) (omega arith) (at k d h)));
  ends = λ k d h. ap (entry (get_or rows k d)) (made-last n (n + k) (get_or rows k d) (omega arith) (at k d h))
      ∙ made-end n (n + k) (get_or rows k d) (omega arith) (at k d h);
  alone = λ i j r s d er es.
      ap (entry s) (made-last n (n + i) r (omega arith) (m i r er))
      ∙ made-other n (n + j) (n + i) s (omega arith) (λ q. d (let p : i ≡ j = omega arith in p)) (m j s es);
} where
  at : (k : ℕ) (d : List (ℕ × ℤ)) → k < length rows → IsMade n (n + k) (get_or rows k d)
  at k d h = m k (get_or rows k d) (slice_get-get_or rows k d h)

-- ---- the rows of plain atoms are such

there-below : (shapes : List Shape) (x : ℕ) → slice_get shapes x ≡ Some Number → x < length shapes
there-below [] x e = absurd cc
there-below (s ∷ rest) zero e = omega arith
there-below (s ∷ rest) (suc x) e = let h = there-below rest x e in omega arith

all-above : (low : ℕ) (ts : List (ℕ × ℤ)) → AllByRecursion (λ y. low < y) (map (λ (t : ℕ × ℤ). t.0) ts)
    → AllPairs (λ x y. x < y) (map (λ (t : ℕ × ℤ). t.0) ts) → (shapes : List Shape)
    → AllByRecursion (IsTermOf shapes) ts → IsFrom (suc low) (length shapes) ts
all-above low [] a p shapes h = tt
all-above low (t ∷ rest) a p shapes h = (
  (let l = a.0 in omega arith),
  there-below shapes t.0 h.0.number,
  h.0.not_zero,
  all-above t.0 rest
      (recursion_from_All (λ y. t.0 < y) (map (λ (t : ℕ × ℤ). t.0) rest)
      (λ k d l. p 0 (suc k) d (omega arith) (omega arith)))
      (λ i j d l w. p (suc i) (suc j) d (omega arith) (omega arith)) shapes h.1,
)

in-order : (shapes : List Shape) (ts : List (ℕ × ℤ)) → AllPairs (λ x y. x < y) (map (λ (t : ℕ × ℤ). t.0) ts)
    → AllByRecursion (IsTermOf shapes) ts → IsFrom 0 (length shapes) ts
in-order shapes [] p h = tt
in-order shapes (t ∷ rest) p h = (
  omega arith,
  there-below shapes t.0 h.0.number,
  h.0.not_zero,
  all-above t.0 rest
      (recursion_from_All (λ y. t.0 < y) (map (λ (t : ℕ × ℤ). t.0) rest)
      (λ k d l. p 0 (suc k) d (omega arith) (omega arith)))
      (λ i j d l w. p (suc i) (suc j) d (omega arith) (omega arith)) shapes h.1,
)

plain-terms : (shapes : List Shape) (i : Inequality) → IsPlainAtom shapes i → IsFrom 0 (length shapes) i.terms
plain-terms shapes i p =
    in-order shapes i.terms (AllPairs-from_increasing (map (λ (t : ℕ × ℤ). t.0) i.terms) p.in_order)
    (recursion_from_All (IsTermOf shapes) i.terms p.terms)

made-more : (n first : ℕ) (r : List (ℕ × ℤ)) (rows : List (List (ℕ × ℤ))) → IsMade n first r
    → AreMade n (first + 1) rows → AreMade n first (r ∷ rows)
made-more n first r rows h g zero s e = subst (λ k. IsMade n k s) (same first) (subst (IsMade n first) (is r s e) h) where
  is : (r s : List (ℕ × ℤ)) → Some r ≡ Some s → r ≡ s
  is r s e = cc

  same : (m : ℕ) → m ≡ m + 0
  same m = omega arith
made-more n first r rows h g (suc k) s e = subst (λ m. IsMade n m s) (next first k) (g k s e) where
  next : (m k : ℕ) → (m + 1) + k ≡ m + suc k
  next m k = omega arith

pub rows-made : (shapes : List Shape) (first : ℕ) (atoms : List Inequality) → AllByRecursion (IsPlainAtom shapes) atoms
    → AreMade (length shapes) first (defining_rows first atoms)
rows-made shapes first [] h = λ k r e. absurd cc
rows-made shapes first (i ∷ rest) h =
    go (is_long i.terms) (rows-made shapes (first + 1) rest h.1) (rows-made shapes first rest h.1) where
      go : (b : Bool) → AreMade (length shapes) (first + 1) (defining_rows (first + 1) rest)
          → AreMade (length shapes) first (defining_rows first rest)
          → AreMade (length shapes) first
          (cond b ((i.terms ++ (first, negsuc 0) ∷ []) ∷ defining_rows (first + 1) rest) (defining_rows first rest))
      go true more less = made-more (length shapes) first (i.terms ++ (first, negsuc 0) ∷ [])
          (defining_rows (first + 1) rest) (i.terms, plain-terms shapes i h.0, refl) more
      go false more less = less

-- a tableau takes the rows of plain atoms
pub rows-given : (f : Form) → IsPlain f → AreGiven (rows_of f) (columns_of f)
rows-given f p = made-given (length f.shapes) (rows_of f)
    (rows-made f.shapes (length f.shapes) f.atoms (recursion_from_All (IsPlainAtom f.shapes) f.atoms p))
