-- What the numbers of a kept row sum to.
use Rattle.std.specs.Prelude.{ℕ, zero, suc, ◌≡◌, ◌+◌, ◌*◌, ◌<◌, ◌≤◌, ◌^◌, Bool, true, false, cond, List, [], ◌∷◌, ◌++◌, length, map, All, Contains, unsigned_abs}
use Rattle.std.proofs.Common.{sym, ◌∙◌, ap, subst, arith, refl}
use Rattle.std.proofs.lemmas.Int.{ints}
use Rattle.std.proofs.lemmas.List.Elements.{All-append, All-contains_itself, All-head, All-map, All-tail, All-weaker}
use lib.IntN.{ℤ, pos, negsuc, ◌+ℤ◌, ◌*ℤ◌, *ℤ-zero}
use Rattle.proof_steps.specs.View.{Inequality}
use Rattle.proof_steps.specs.Rows.{Form, AllDiffer, combined, defining_rows, entry, is_long, rows_of, columns_of}
use Rattle.proof_steps.specs.Stopped.{Row, IsRowOf, numbers}
use Rattle.bland_laws.proofs.Listed.{tests-same, tests-other}
use Rattle.cause_laws.specs.Small.{IsSmall, HasItsVariables, HasSmallNumbers}
use Rattle.cause_laws.proofs.Summed.{summed, summed-map, summed-append, summed-same, summed-at-most, below, below-at-most, summed-different}

-- ---- entries

none-listed : (ts : List (ℕ × ℤ)) (c : ℕ) → (¬ Contains (map (λ (t : ℕ × ℤ). t.0) ts) c) → entry ts c ≡ pos 0
none-listed [] c n = refl
none-listed ((x, a) ∷ ts) c n =
    ap (λ b. cond b (a +ℤ entry ts c) (entry ts c)) (tests-other x c (λ e. n (0, omega arith, e)))
    ∙ none-listed ts c (λ (k, l, e). n (suc k, omega arith, e))

in-columns : (ts : List (ℕ × ℤ)) (t : ℕ × ℤ) → Contains ts t → Contains (map (λ (t : ℕ × ℤ). t.0) ts) t.0
in-columns [] t (k, l, e) = absurd (omega arith)
in-columns (u ∷ ts) t (zero, l, e) = (0, omega arith, ap (λ (v : ℕ × ℤ). v.0) e)
in-columns (u ∷ ts) t (suc k, l, e) = let i = in-columns ts t (k, omega arith, e) in (suc i.0, (let m = i.1 in omega arith), i.2)

-- where each column is listed once, its entry is the number beside it
listed-entry : (ts : List (ℕ × ℤ)) → AllDiffer (map (λ (t : ℕ × ℤ). t.0) ts) → (t : ℕ × ℤ) → Contains ts t → entry ts t.0 ≡ t.1
listed-entry [] d t (k, l, e) = absurd (omega arith)
listed-entry ((x, a) ∷ ts) d t (zero, l, e) = subst (λ (v : ℕ × ℤ). entry ((x, a) ∷ ts) v.0 ≡ v.1) e here where
  here : entry ((x, a) ∷ ts) x ≡ a
  here =
      let z : entry ts x ≡ pos 0 = none-listed ts x d.0 in
      let s : entry ((x, a) ∷ ts) x ≡ a +ℤ entry ts x = ap (λ b. cond b (a +ℤ entry ts x) (entry ts x)) (tests-same x) in
      omega (arith, ints)
listed-entry ((x, a) ∷ ts) d t (suc k, l, e) =
    ap (λ b. cond b (a +ℤ entry ts t.0) (entry ts t.0))
    (tests-other x t.0 (λ q. d.0 (subst (λ (c : ℕ). Contains (map (λ (t : ℕ × ℤ). t.0) ts) c) (sym q) (in-columns ts t (k, omega arith, e)))))
    ∙ listed-entry ts d.1 t (k, omega arith, e)

-- ---- past the last column a row has nothing

abbrev AreBefore : ℕ → List (ℕ × ℤ) → Type 0
AreBefore c ts = All (λ (t : ℕ × ℤ). t.0 < c) ts

none-past : (ts : List (ℕ × ℤ)) (n c : ℕ) → AreBefore c ts → n < c → entry (ts ++ (n, negsuc 0) ∷ []) c ≡ pos 0
none-past [] n c h l = ap (λ b. cond b (negsuc 0 +ℤ pos 0) (pos 0)) (tests-other n c (λ e. absurd (omega arith)))
none-past ((x, a) ∷ ts) n c h l =
    let m : x < c = All-head (λ (t : ℕ × ℤ). t.0 < c) (x, a) ts h in
    ap (λ b. cond b (a +ℤ entry (ts ++ (n, negsuc 0) ∷ []) c) (entry (ts ++ (n, negsuc 0) ∷ []) c)) (tests-other x c (λ e. absurd (omega arith)))
    ∙ none-past ts n c (All-tail (λ (t : ℕ × ℤ). t.0 < c) (x, a) ts h) l

past-rows : (c n : ℕ) (atoms : List Inequality) (ms : List ℤ) → All (λ (i : Inequality). AreBefore c i.terms) atoms
    → n + length (defining_rows n atoms) ≤ c → combined ms (defining_rows n atoms) c ≡ pos 0
past-rows c n [] [] h l = refl
past-rows c n [] (m ∷ ms) h l = refl
past-rows c n (i ∷ atoms) ms h l =
    go (is_long i.terms) ms
    (λ k ns. past-rows c k atoms ns (All-tail (λ (i : Inequality). AreBefore c i.terms) i atoms h)) l
  where
    go : (b : Bool) (ms : List ℤ)
        → ((k : ℕ) (ns : List ℤ) → k + length (defining_rows k atoms) ≤ c → combined ns (defining_rows k atoms) c ≡ pos 0)
        → n + length (cond b ((i.terms ++ (n, negsuc 0) ∷ []) ∷ defining_rows (n + 1) atoms) (defining_rows n atoms)) ≤ c
        → combined ms (cond b ((i.terms ++ (n, negsuc 0) ∷ []) ∷ defining_rows (n + 1) atoms) (defining_rows n atoms)) c ≡ pos 0
    go false ms more l = more n ms l
    go true [] more l = refl
    go true (m ∷ ms) more l =
        let z : entry (i.terms ++ (n, negsuc 0) ∷ []) c ≡ pos 0 =
        none-past i.terms n c (All-head (λ (i : Inequality). AreBefore c i.terms) i atoms h) (omega arith) in
        let p : m *ℤ entry (i.terms ++ (n, negsuc 0) ∷ []) c ≡ pos 0 = ap (λ w. m *ℤ w) z ∙ *ℤ-zero m in
        let r : combined ms (defining_rows (n + 1) atoms) c ≡ pos 0 = more (n + 1) ms (omega arith) in
        omega (arith, ints)

nothing-past : (f : Form) → HasItsVariables f → (ms : List ℤ) (c : ℕ) → columns_of f ≤ c → combined ms (rows_of f) c ≡ pos 0
nothing-past f h ms c l =
    past-rows c (length f.shapes) f.atoms ms
    (All-weaker (λ (i : Inequality). AreBefore (length f.shapes) i.terms) (λ (i : Inequality). AreBefore c i.terms)
    (λ i a. All-weaker (λ (t : ℕ × ℤ). t.0 < length f.shapes) (λ (t : ℕ × ℤ). t.0 < c) (λ t k. omega arith) i.terms a) f.atoms h) l

-- ---- the numbers of a kept row

module _ (f : Form) (over : HasItsVariables f) (small : HasSmallNumbers f) (r : Row) (is : IsRowOf (rows_of f) (columns_of f) r) where
  abbrev size : ℕ → ℕ
  size c = unsigned_abs (combined r.multipliers (rows_of f) c)

  listed : (t : ℕ × ℤ) → Contains r.entries t → t.1 ≡ combined r.multipliers (rows_of f) t.0
  listed t i = sym (listed-entry r.entries is.0 t i) ∙ is.5 t.0

  small-entry : (c : ℕ) → IsSmall (combined r.multipliers (rows_of f) c)
  small-entry c = small.entries is.1 is.2 r.multipliers is.3 is.4 c

  small-multipliers : All IsSmall r.multipliers
  small-multipliers = small.multipliers is.1 is.2 r.multipliers is.3 is.4

  pub small-numbers : All IsSmall (numbers r)
  small-numbers = All-append IsSmall (map (λ (t : ℕ × ℤ). t.1) r.entries) r.multipliers
      (All-map IsSmall (λ (t : ℕ × ℤ). t.1) r.entries
      (All-weaker (Contains r.entries) (λ (t : ℕ × ℤ). IsSmall t.1)
      (λ t i. subst IsSmall (sym (listed t i)) (small-entry t.0)) r.entries (All-contains_itself r.entries)))
      small-multipliers

  entries-sum : summed unsigned_abs (map (λ (t : ℕ × ℤ). t.1) r.entries) ≤ columns_of f * 2 ^ 40
  entries-sum =
      let a : summed unsigned_abs (map (λ (t : ℕ × ℤ). t.1) r.entries) ≡ summed (λ (t : ℕ × ℤ). unsigned_abs t.1) r.entries =
      summed-map unsigned_abs (λ (t : ℕ × ℤ). t.1) r.entries in
      let b : summed (λ (t : ℕ × ℤ). unsigned_abs t.1) r.entries ≡ summed (λ (t : ℕ × ℤ). size t.0) r.entries =
      summed-same (λ (t : ℕ × ℤ). unsigned_abs t.1) (λ (t : ℕ × ℤ). size t.0) r.entries
      (All-weaker (Contains r.entries) (λ (t : ℕ × ℤ). unsigned_abs t.1 ≡ size t.0) (λ t i. sized t i) r.entries
      (All-contains_itself r.entries)) in
      let c : summed size (map (λ (t : ℕ × ℤ). t.0) r.entries) ≡ summed (λ (t : ℕ × ℤ). size t.0) r.entries =
      summed-map size (λ (t : ℕ × ℤ). t.0) r.entries in
      let d : summed size (map (λ (t : ℕ × ℤ). t.0) r.entries) ≤ below size (columns_of f) =
      summed-different size (columns_of f) (map (λ (t : ℕ × ℤ). t.0) r.entries) is.0 (λ k l. none k l) in
      let e : below size (columns_of f) ≤ columns_of f * 2 ^ 40 = below-at-most size (2 ^ 40) (columns_of f) at-most in
      omega arith
    where
      sized : (t : ℕ × ℤ) → Contains r.entries t → unsigned_abs t.1 ≡ size t.0
      sized t i = ap unsigned_abs (listed t i)

      none : (k : ℕ) → columns_of f ≤ k → size k ≡ 0
      none k l = ap unsigned_abs (nothing-past f over r.multipliers k l)

      at-most : (k : ℕ) → size k ≤ 2 ^ 40
      at-most k = let s = small-entry k in omega arith

  multipliers-sum : summed unsigned_abs r.multipliers ≤ columns_of f * 2 ^ 40
  multipliers-sum =
      let a : summed unsigned_abs r.multipliers ≤ length r.multipliers * 2 ^ 40 =
      summed-at-most unsigned_abs (2 ^ 40) r.multipliers
      (All-weaker IsSmall (λ (z : ℤ). unsigned_abs z ≤ 2 ^ 40) (λ z s. at-most z s) r.multipliers small-multipliers) in
      let e : length r.multipliers ≡ length (rows_of f) = is.4.multipliers in
      omega arith
    where
      at-most : (z : ℤ) → IsSmall z → unsigned_abs z ≤ 2 ^ 40
      at-most z s = omega arith

  -- the sizes of all numbers together
  pub numbers-sum : summed unsigned_abs (numbers r) ≤ 2 ^ 61
  numbers-sum =
      let a : summed unsigned_abs (numbers r)
      ≡ summed unsigned_abs (map (λ (t : ℕ × ℤ). t.1) r.entries) + summed unsigned_abs r.multipliers =
      summed-append unsigned_abs (map (λ (t : ℕ × ℤ). t.1) r.entries) r.multipliers in
      let b = entries-sum in
      let c = multipliers-sum in
      let d = small.columns in
      omega arith
