-- The edges of an own graph.
use Rattle.std.proofs.Common.{◌≡◌, ℕ, zero, suc, ◌<◌, ◌≤◌, ◌+◌, Bool, true, false, cond, ◌||◌, List, [], ◌∷◌, ◌++◌, map, length, get_or, set, refl, ap, ◌∙◌, sym, subst, arith, append_assoc, add-one, add-zero, Vec, Global}
use Rattle.std.specs.Prelude.{eqb}
use Rattle.std.specs.Str.{bytes_eq}
use Rattle.std.proofs.Math.Logic.{◌⊎◌, inl, inr}
use Rattle.std.proofs.lemmas.Bool.{false≢true, eqb-true, eq-eqb}
use Rattle.std.proofs.lemmas.List.{map-set, append-nil, length-append, length-set, get_or-set_same, get_or-set_other, get_or_append_left}
use Rattle.lus_tree.specs.Tree.{Name}
use Rattle.lus_meaning.specs.Depends.{named_in}
use Rattle.lus_meaning.specs.Order.{is_listed, left_at}
use Rattle.lus_meaning.specs.Run.{Equation}
use Rattle.lus_meaning.specs.WellMade.{AreDistinct}
use Rattle.lus_meaning.proofs.Unique.{same_bytes}
use Rattle.name_table.specs.Names.{number_of}
use Rattle.name_table.proofs.Names.{itself as bytes_same}
use Rattle.name_table.proofs.Numbers.{number_below, name_of_number, number_at, in_list}
use Rattle.lus_order.specs.declared.setting.Clocks.{Clocks}
use Rattle.lus_order.specs.declared.setting.Callees.{Callees}
use Rattle.number_graphs.specs.Graphs.{Rows, row_at}
use Rattle.lus_order.specs.Rows.{ModeRows, equation_row}
use Rattle.lus_order.specs.OwnRows.{with_edge, with_left, with_lefts, with_equation, with_equations}
use Rattle.number_graphs.proofs.Searches.{or_cases, or_right}
use Rattle.lus_order.proofs.Stands.{or_left, listed_joined}

row_of : (rs : List (Vec ℕ Global)) (i : ℕ) (r : Vec ℕ Global) → i < length rs → r ≡ get_or rs i r → r.items ≡ row_at (map (λ v. v.items) rs) i
row_of [] i r l e = absurd (omega arith)
row_of (x ∷ rs) zero r l e = ap (λ v. v.items) e
row_of (x ∷ rs) (suc i) r l e = row_of rs i r (omega arith) e

pub edge_added : (rs : List (Vec ℕ Global)) (i to : ℕ) (r s : Vec ℕ Global) → i < length rs → r ≡ get_or rs i r → s.items ≡ r.items ++ to ∷ []
    → map (λ v. v.items) (set rs i s) ≡ with_edge (map (λ v. v.items) rs) i to
edge_added rs i to r s l e h =
    map-set (λ (v : Vec ℕ Global). v.items) rs i s
    ∙ ap (λ k. set (map (λ (v : Vec ℕ Global). v.items) rs) i k) (h ∙ ap (λ k. k ++ to ∷ []) (row_of rs i r l e))

-- ---- the edges to an equation

-- how often a name stands among these
abbrev pub hits : Name → ℕ → List Name → List ℕ
hits y to [] = []
hits y to (x ∷ xs) = cond (bytes_eq y x) (to ∷ []) [] ++ hits y to xs

-- the numbers of the equations that define it, from one on
abbrev pub all_hits : Name → ℕ → List Equation → List ℕ
all_hits y k [] = []
all_hits y k (e ∷ es) = hits y k e.names ++ all_hits y (suc k) es

module _ (names : List Name) (d : AreDistinct names) where
  left_length : (to : ℕ) (rows : Rows) (x : Name) → length (with_left names to rows x) ≡ length rows
  left_length to rows x = go (named_in x names)
    where
      go : (b : Bool) → length (cond b (with_edge rows (number_of names x) to) rows) ≡ length rows
      go true = length-set rows (number_of names x) _
      go false = refl

  lefts_length : (to : ℕ) (rows : Rows) (xs : List Name) → length (with_lefts names to rows xs) ≡ length rows
  lefts_length to rows [] = refl
  lefts_length to rows (x ∷ xs) = lefts_length to (with_left names to rows x) xs ∙ left_length to rows x

  -- the row of a name that is another's
  other_left : (to : ℕ) (rows : Rows) (x : Name) (i : ℕ) → (named_in x names ≡ true → i ≡ number_of names x → ⊥)
      → row_at (with_left names to rows x) i ≡ row_at rows i
  other_left to rows x i h = go (named_in x names) refl
    where
      go : (b : Bool) → named_in x names ≡ b → row_at (cond b (with_edge rows (number_of names x) to) rows) i ≡ row_at rows i
      go true t = get_or-set_other rows (number_of names x) i _ [] (h t)
      go false t = refl

  one_left : (to : ℕ) (rows : Rows) (x : Name) (i : ℕ) → length names ≤ length rows → i < length names
      → row_at (with_left names to rows x) i ≡ row_at rows i ++ hits (get_or names i []) to (x ∷ [])
  one_left to rows x i w l = go (bytes_eq (get_or names i []) x) refl
    where
      go : (b : Bool) → bytes_eq (get_or names i []) x ≡ b → row_at (with_left names to rows x) i ≡ row_at rows i ++ (cond b (to ∷ []) [] ++ [])
      go true t =
          let s : get_or names i [] ≡ x = same_bytes (get_or names i []) x t in
          let here : named_in x names ≡ true = subst (λ y. named_in y names ≡ true) s (in_list names i l) in
          let n : number_of names x ≡ i = ap (number_of names) (sym s) ∙ number_at names d i l in
          ap (λ b. row_at (cond b (with_edge rows (number_of names x) to) rows) i) here
          ∙ ap (λ k. row_at (with_edge rows k to) i) n ∙ get_or-set_same rows i (row_at rows i ++ to ∷ []) [] (omega arith)
      go false f =
          other_left to rows x i (λ t e. false≢true (sym f ∙ subst (λ y. bytes_eq y x ≡ true)
          (sym (ap (λ k. get_or names k []) e ∙ name_of_number names x t)) (bytes_same x)))
          ∙ sym (append-nil (row_at rows i))

  lefts_row : (to : ℕ) (rows : Rows) (xs : List Name) (i : ℕ) → length names ≤ length rows → i < length names
      → row_at (with_lefts names to rows xs) i ≡ row_at rows i ++ hits (get_or names i []) to xs
  lefts_row to rows [] i w l = sym (append-nil (row_at rows i))
  lefts_row to rows (x ∷ xs) i w l =
      lefts_row to (with_left names to rows x) xs i (subst (λ k. length names ≤ k) (sym (left_length to rows x)) w) l
      ∙ ap (λ r. r ++ hits (get_or names i []) to xs) (one_left to rows x i w l)
      ∙ append_assoc (row_at rows i) (hits (get_or names i []) to (x ∷ [])) (hits (get_or names i []) to xs)
      ∙ ap (λ r. row_at rows i ++ r) (one_more (bytes_eq (get_or names i []) x))
    where
      one_more : (b : Bool) → (cond b (to ∷ []) [] ++ []) ++ hits (get_or names i []) to xs ≡ cond b (to ∷ []) [] ++ hits (get_or names i []) to xs
      one_more true = refl
      one_more false = refl

  -- the rows behind those of names
  lefts_behind : (to : ℕ) (rows : Rows) (xs : List Name) (i : ℕ) → length names ≤ i → row_at (with_lefts names to rows xs) i ≡ row_at rows i
  lefts_behind to rows [] i l = refl
  lefts_behind to rows (x ∷ xs) i l =
      lefts_behind to (with_left names to rows x) xs i l
      ∙ other_left to rows x i (λ t e. absurd (let b : number_of names x < length names = number_below names x t in omega arith))

-- ---- the edges of all equations

module _ (s : Clocks) (t : Callees) (ms : ModeRows) (d : AreDistinct s.names) where
  abbrev one : Rows → Equation → Rows
  one rows e = with_equation s t ms rows e

  equation_length : (rows : Rows) (e : Equation) → length (one rows e) ≡ suc (length rows)
  equation_length rows e =
      length-append (with_lefts s.names (length rows) rows e.names) (equation_row s t ms e ∷ [])
      ∙ ap (λ k. k + 1) (lefts_length s.names d (length rows) rows e.names) ∙ add-one (length rows)

  pub all_length : (rows : Rows) (es : List Equation) → length (with_equations s t ms rows es) ≡ length rows + length es
  all_length rows [] = sym (add-zero (length rows))
  all_length rows (e ∷ es) = all_length (one rows e) es ∙ ap (λ k. k + length es) (equation_length rows e) ∙ omega arith

  equation_names : (rows : Rows) (e : Equation) (i : ℕ) → length s.names ≤ length rows → i < length s.names
      → row_at (one rows e) i ≡ row_at rows i ++ hits (get_or s.names i []) (length rows) e.names
  equation_names rows e i w l =
      get_or_append_left (with_lefts s.names (length rows) rows e.names) (equation_row s t ms e ∷ []) [] i
      (subst (λ k. i < k) (sym (lefts_length s.names d (length rows) rows e.names)) (omega arith))
      ∙ lefts_row s.names d (length rows) rows e.names i w l

  pub all_names : (rows : Rows) (es : List Equation) (i : ℕ) → length s.names ≤ length rows → i < length s.names
      → row_at (with_equations s t ms rows es) i ≡ row_at rows i ++ all_hits (get_or s.names i []) (length rows) es
  all_names rows [] i w l = sym (append-nil (row_at rows i))
  all_names rows (e ∷ es) i w l =
      let n : length (one rows e) ≡ suc (length rows) = equation_length rows e in
      all_names (one rows e) es i (omega arith) l
      ∙ ap (λ r. r ++ all_hits (get_or s.names i []) (length (one rows e)) es) (equation_names rows e i w l)
      ∙ append_assoc (row_at rows i) (hits (get_or s.names i []) (length rows) e.names) (all_hits (get_or s.names i []) (length (one rows e)) es)
      ∙ ap (λ k. row_at rows i ++ (hits (get_or s.names i []) (length rows) e.names ++ all_hits (get_or s.names i []) k es)) n

  -- a row that is there behind those of names stays
  equation_behind : (rows : Rows) (e : Equation) (i : ℕ) → length s.names ≤ i → i < length rows → row_at (one rows e) i ≡ row_at rows i
  equation_behind rows e i l h =
      get_or_append_left (with_lefts s.names (length rows) rows e.names) (equation_row s t ms e ∷ []) [] i
      (subst (λ k. i < k) (sym (lefts_length s.names d (length rows) rows e.names)) h)
      ∙ lefts_behind s.names d (length rows) rows e.names i l

  all_behind : (rows : Rows) (es : List Equation) (i : ℕ) → length s.names ≤ i → i < length rows
      → row_at (with_equations s t ms rows es) i ≡ row_at rows i
  all_behind rows [] i l h = refl
  all_behind rows (e ∷ es) i l h =
      let n : length (one rows e) ≡ suc (length rows) = equation_length rows e in
      all_behind (one rows e) es i l (omega arith) ∙ equation_behind rows e i l h

  new_row : (rows : Rows) (e : Equation) → row_at (one rows e) (length rows) ≡ equation_row s t ms e
  new_row rows e =
      ap (λ k. row_at (one rows e) k) (sym (lefts_length s.names d (length rows) rows e.names))
      ∙ last_at (with_lefts s.names (length rows) rows e.names) (equation_row s t ms e)
    where
      last_at : (rs : Rows) (r : List ℕ) → row_at (rs ++ r ∷ []) (length rs) ≡ r
      last_at [] r = refl
      last_at (q ∷ rs) r = last_at rs r

  pub all_equations : (rows : Rows) (es : List Equation) (k : ℕ) → length s.names ≤ length rows → k < length es
      → row_at (with_equations s t ms rows es) (length rows + k) ≡ get_or (map (equation_row s t ms) es) k []
  all_equations rows [] k w l = absurd (omega arith)
  all_equations rows (e ∷ es) zero w l =
      let n : length (one rows e) ≡ suc (length rows) = equation_length rows e in
      ap (row_at (with_equations s t ms (one rows e) es)) (add-zero (length rows))
      ∙ all_behind (one rows e) es (length rows) w (omega arith) ∙ new_row rows e
  all_equations rows (e ∷ es) (suc k) w l =
      let n : length (one rows e) ≡ suc (length rows) = equation_length rows e in
      let m : length rows + suc k ≡ length (one rows e) + k = omega arith in
      ap (row_at (with_equations s t ms (one rows e) es)) m ∙ all_equations (one rows e) es k (omega arith) (omega arith)

-- ---- which equations those are

pub record Hit (y : Name) (start : ℕ) (es : List Equation) (j : ℕ) : Type 0 where
  pub number : ℕ
  pub below : number < length es
  pub is : j ≡ start + number
  pub defines : named_in y (left_at es number) ≡ true

hit_is : (y : Name) (to : ℕ) (xs : List Name) (j : ℕ) → is_listed (hits y to xs) j ≡ true → (j ≡ to) × (named_in y xs ≡ true)
hit_is y to [] j e = absurd (false≢true e)
hit_is y to (x ∷ xs) j e = go (bytes_eq y x) e (hit_is y to xs j)
  where
    go : (b : Bool) → is_listed (cond b (to ∷ []) [] ++ hits y to xs) j ≡ true → (is_listed (hits y to xs) j ≡ true → (j ≡ to) × (named_in y xs ≡ true))
        → (j ≡ to) × ((b || named_in y xs) ≡ true)
    go false h f = f h
    go true h f = (either (or_cases (eqb j to) (is_listed (hits y to xs) j) h), refl)
      where
        either : (eqb j to ≡ true) ⊎ (is_listed (hits y to xs) j ≡ true) → j ≡ to
        either (inl q) = eqb-true j to q
        either (inr q) = (f q).0

is_hit : (y : Name) (to : ℕ) (xs : List Name) → named_in y xs ≡ true → is_listed (hits y to xs) to ≡ true
is_hit y to [] e = e
is_hit y to (x ∷ xs) e = go (bytes_eq y x) e (is_hit y to xs)
  where
    go : (b : Bool) → (b || named_in y xs) ≡ true → (named_in y xs ≡ true → is_listed (hits y to xs) to ≡ true)
        → is_listed (cond b (to ∷ []) [] ++ hits y to xs) to ≡ true
    go true h f = or_left (eqb to to) _ (eq-eqb to to refl)
    go false h f = f h

pub hits_are : (y : Name) (k : ℕ) (es : List Equation) (j : ℕ) → is_listed (all_hits y k es) j ≡ true → Hit y k es j
hits_are y k [] j e = absurd (false≢true e)
hits_are y k (q ∷ es) j e = go (or_cases (is_listed (hits y k q.names) j) (is_listed (all_hits y (suc k) es) j)
    (sym (listed_joined j (hits y k q.names) (all_hits y (suc k) es)) ∙ e)) (hits_are y (suc k) es j)
  where
    go : (is_listed (hits y k q.names) j ≡ true) ⊎ (is_listed (all_hits y (suc k) es) j ≡ true)
        → (is_listed (all_hits y (suc k) es) j ≡ true → Hit y (suc k) es j) → Hit y k (q ∷ es) j
    go (inl h) f =
        let r : (j ≡ k) × (named_in y q.names ≡ true) = hit_is y k q.names j h in
        record { number = 0; below = omega arith; is = r.0 ∙ sym (add-zero k); defines = r.1 }
    go (inr h) f =
        let r : Hit y (suc k) es j = f h in
        let b : r.number < length es = r.below in
        let i : j ≡ suc k + r.number = r.is in
        record { number = suc r.number; below = omega arith; is = omega arith; defines = r.defines }

pub are_hit : (y : Name) (k : ℕ) (es : List Equation) (j : ℕ) → named_in y (left_at es j) ≡ true → is_listed (all_hits y k es) (k + j) ≡ true
are_hit y k [] j e = absurd (false≢true e)
are_hit y k (q ∷ es) zero e =
    listed_joined (k + 0) (hits y k q.names) (all_hits y (suc k) es)
    ∙ or_left _ _ (ap (is_listed (hits y k q.names)) (add-zero k) ∙ is_hit y k q.names e)
are_hit y k (q ∷ es) (suc j) e =
    let m : k + suc j ≡ suc k + j = omega arith in
    listed_joined (k + suc j) (hits y k q.names) (all_hits y (suc k) es)
    ∙ or_right _ _ (ap (is_listed (all_hits y (suc k) es)) m ∙ are_hit y (suc k) es j e)
