-- The faults of a row are those of its declaration.
use Rattle.std.proofs.Common.{◌≡◌, ℕ, zero, suc, ◌<◌, ◌≤◌, Bool, true, false, cond, not, ◌&&◌, ◌||◌, List, [], ◌∷◌, ◌++◌, length, get_or, map, flat_map, filter, refl, ap, ◌∙◌, sym, subst, arith, Some}
use Rattle.std.specs.Prelude.{◌==◌, slice_get, nat_le}
use Rattle.std.specs.List.{AllByRecursion, list_all}
use Rattle.std.specs.Str.{bytes_eq}
use Rattle.std.proofs.Math.Logic.{◌⊎◌, inl, inr}
use Rattle.std.proofs.lemmas.Bool.{true≢false, false≢true, cases_Bool, eq-eqb, leb-true}
use Rattle.std.proofs.lemmas.Option.{slice_get_within, get_or_from_slice_get}
use Rattle.lus_tree.specs.Tree.{Name, text_of, Spelled, Component, declared_constant, declared_node, declared_contract, Program}
use Rattle.lus_tree.specs.Reason.{Refused, node_recursion}
use Rattle.lus_meaning.specs.Depends.{named_in}
use Rattle.lus_meaning.specs.ClockFaults.{components}
use Rattle.lus_meaning.specs.Faults.{fault, if_so}
use Rattle.lus_meaning.specs.Occurrences.{gathered}
use Rattle.lus_meaning.specs.Scene.{contract_statements}
use Rattle.lus_meaning.specs.Scope.{component_where, contract_named, node_if, node_named}
use Rattle.lus_meaning.specs.NameFaults.{callee_in, callees, graph_of, import_words, is_declared, reached, recursion_faults}
use Rattle.lus_meaning.proofs.Unique.{same_bytes}
use Rattle.name_table.specs.Names.{add, number_of}
use Rattle.name_table.proofs.Names.{in_joined, itself}
use Rattle.name_table.proofs.Numbers.{name_of_number, number_below}
use Rattle.lus_types.specs.Marks.{Link, has_open, is_backed, is_free, is_marked, is_open, leads_on}
use Rattle.lus_types.specs.Called.{all_level_faults, level_faults, link_of, marked_faults, names_behind, none_rises, rank_of, row_of, stays_below}
use Rattle.lus_types.specs.Circles.{IsLeading}
use Rattle.lus_types.proofs.Occurring.{split}
use Rattle.lus_types.proofs.Reached.{AreWithin, IsBack, reached_below, reaches}

pub or_left : (a b : Bool) → a ≡ true → (a || b) ≡ true
or_left true b e = refl
or_left false b e = absurd (false≢true e)

pub or_right : (a b : Bool) → b ≡ true → (a || b) ≡ true
or_right true b e = refl
or_right false b e = e

pub or_false : (a b : Bool) → (a || b) ≡ false → (a ≡ false) × (b ≡ false)
or_false true b e = absurd (true≢false e)
or_false false b e = (refl, e)

pub and_parts : (a b : Bool) → (a && b) ≡ true → (a ≡ true) × (b ≡ true)
and_parts true b e = (refl, e)
and_parts false b e = absurd (false≢true e)

-- within the marks it doesn't matter what stands past the end
pub either_end : (bs : List Bool) (j : ℕ) → j < length bs → not (get_or bs j true) ≡ false → get_or bs j false ≡ true
either_end [] j l e = absurd (omega (arith, l))
either_end (true ∷ bs) zero l e = refl
either_end (false ∷ bs) zero l e = absurd (true≢false e)
either_end (b ∷ bs) (suc j) l e = either_end bs j (omega (arith, l)) e

pub free_false : (a b : Bool) → (a && b) ≡ false → b ≡ true → a ≡ false
free_false true b e t = absurd (true≢false (sym t ∙ e))
free_false false b e t = refl

pub number_past : (t : List Name) (x : Name) → named_in x t ≡ false → number_of t x ≡ length t
number_past [] x e = refl
number_past (y ∷ ys) x e =
    let p : (bytes_eq x y ≡ false) × (named_in x ys ≡ false) = or_false (bytes_eq x y) (named_in x ys) e in
    rw p.0 (ap suc (number_past ys x p.1))

-- ---- names of declarations

abbrev pub name_in : Component → Name
name_in n = n.name.text

abbrev pub names_in : Program → List Name
names_in p = map name_in (components p)

has_declared : (b : Bool) (x : Name) (p : Program) → is_declared (component_where b p x) ≡ true → named_in x (names_in p) ≡ true
has_declared b x [] e = absurd (false≢true e)
has_declared b x (declared_constant c ∷ ds) e = has_declared b x ds e
has_declared b x (declared_node n ∷ ds) e = go (bytes_eq x n.name.text) e (has_declared b x ds)
  where
    go : (c : Bool) → is_declared (cond c (node_if b n) (component_where b ds x)) ≡ true
        → (is_declared (component_where b ds x) ≡ true → named_in x (names_in ds) ≡ true) → (c || named_in x (names_in ds)) ≡ true
    go true e r = refl
    go false e r = r e
has_declared b x (declared_contract n ∷ ds) e = go (bytes_eq x n.name.text) e (has_declared b x ds)
  where
    go : (c : Bool) → is_declared (cond c (node_if (not b) n) (component_where b ds x)) ≡ true
        → (is_declared (component_where b ds x) ≡ true → named_in x (names_in ds) ≡ true) → (c || named_in x (names_in ds)) ≡ true
    go true e r = refl
    go false e r = r e

-- the table has them
pub add_keeps : (t : List Name) (x y : Name) → named_in x t ≡ true → named_in x (add t y) ≡ true
add_keeps t x y e = go (named_in y t)
  where
    go : (b : Bool) → named_in x (cond b t (t ++ y ∷ [])) ≡ true
    go true = e
    go false = in_joined x t (y ∷ []) ∙ or_left (named_in x t) (named_in x (y ∷ [])) e

pub add_has : (t : List Name) (x : Name) → named_in x (add t x) ≡ true
add_has t x = go (cases_Bool (named_in x t))
  where
    go : (named_in x t ≡ true) ⊎ (named_in x t ≡ false) → named_in x (add t x) ≡ true
    go (inl e) = rw e e
    go (inr f) = rw f (in_joined x t (x ∷ []) ∙ or_right (named_in x t) (named_in x (x ∷ [])) (rw (itself x) refl))

behind_keeps : (t : List Name) (x : Name) (p : Program) → named_in x t ≡ true → named_in x (names_behind t p) ≡ true
behind_keeps t x [] e = e
behind_keeps t x (declared_constant c ∷ ds) e = behind_keeps t x ds e
behind_keeps t x (declared_node n ∷ ds) e = behind_keeps (add t n.name.text) x ds (add_keeps t x n.name.text e)
behind_keeps t x (declared_contract n ∷ ds) e = behind_keeps (add t n.name.text) x ds (add_keeps t x n.name.text e)

behind_has : (t : List Name) (x : Name) (p : Program) → named_in x (names_in p) ≡ true → named_in x (names_behind t p) ≡ true
behind_has t x [] e = absurd (false≢true e)
behind_has t x (declared_constant c ∷ ds) e = behind_has t x ds e
behind_has t x (declared_node n ∷ ds) e = go (cases_Bool (bytes_eq x n.name.text)) (behind_has (add t n.name.text) x ds)
  where
    go : (bytes_eq x n.name.text ≡ true) ⊎ (bytes_eq x n.name.text ≡ false)
        → (named_in x (names_in ds) ≡ true → named_in x (names_behind (add t n.name.text) ds) ≡ true) → named_in x (names_behind (add t n.name.text) ds) ≡ true
    go (inl q) r = behind_keeps (add t n.name.text) x ds
        (subst (λ z. named_in z (add t n.name.text) ≡ true) (sym (same_bytes x n.name.text q)) (add_has t n.name.text))
    go (inr f) r = r (rw f at e)
behind_has t x (declared_contract n ∷ ds) e = go (cases_Bool (bytes_eq x n.name.text)) (behind_has (add t n.name.text) x ds)
  where
    go : (bytes_eq x n.name.text ≡ true) ⊎ (bytes_eq x n.name.text ≡ false)
        → (named_in x (names_in ds) ≡ true → named_in x (names_behind (add t n.name.text) ds) ≡ true) → named_in x (names_behind (add t n.name.text) ds) ≡ true
    go (inl q) r = behind_keeps (add t n.name.text) x ds
        (subst (λ z. named_in z (add t n.name.text) ≡ true) (sym (same_bytes x n.name.text q)) (add_has t n.name.text))
    go (inr f) r = r (rw f at e)

-- ---- callees

abbrev pub AllNamed : List Name → List Spelled → Type 0
AllNamed t ws = AllByRecursion (λ w. named_in w.text t ≡ true) ws

named_filter : (test : Spelled → Bool) (t : List Name) → ((w : Spelled) → test w ≡ true → named_in w.text t ≡ true) → (ws : List Spelled)
    → AllNamed t (filter test ws)
named_filter test t h [] = tt
named_filter test t h (w ∷ ws) = go (cases_Bool (test w)) (named_filter test t h ws)
  where
    go : (test w ≡ true) ⊎ (test w ≡ false) → AllNamed t (filter test ws) → AllNamed t (filter test (w ∷ ws))
    go (inl e) r = rw e (h w e, r)
    go (inr f) r = rw f r

named_both : (t : List Name) (ws vs : List Spelled) → AllNamed t ws → AllNamed t vs → AllNamed t (ws ++ vs)
named_both t [] vs a b = b
named_both t (w ∷ ws) vs a b = (a.0, named_both t ws vs a.1 b)

callees_named : (p : Program) (t : List Name) → ((x : Name) → named_in x (names_in p) ≡ true → named_in x t ≡ true) → (n : Component) → AllNamed t (callees p n)
callees_named p t h n = named_both t
    (filter (λ f. is_declared (node_named p f.text)) (gathered callee_in n))
    (filter (λ c. is_declared (contract_named p c.text)) (flat_map import_words (contract_statements n)))
    (named_filter (λ f. is_declared (node_named p f.text)) t (λ w e. h w.text (has_declared true w.text p e)) (gathered callee_in n))
    (named_filter (λ c. is_declared (contract_named p c.text)) t (λ w e. h w.text (has_declared false w.text p e))
    (flat_map import_words (contract_statements n)))

abbrev pub link_to : List Name → Spelled → Link
link_to t w = (number_of t w.text, w.at)

links_are : (t : List Name) (ws : List Spelled) → AllNamed t ws → flat_map (link_of t) ws ≡ map (link_to t) ws
links_are t [] a = refl
links_are t (w ∷ ws) a = rw (a.0, links_are t ws a.1) refl

row_links : (p : Program) (t : List Name) (n : Component) → (row_of p t n).1 ≡ flat_map (link_of t) (callees p n)
row_links p t n = sym (split (link_of t)
    (filter (λ f. is_declared (node_named p f.text)) (gathered callee_in n))
    (filter (λ c. is_declared (contract_named p c.text)) (flat_map import_words (contract_statements n))))

text_has : (t : List Name) (ws : List Spelled) → AllNamed t ws → (y : Name) → named_in y (map text_of ws) ≡ true → named_in y t ≡ true
text_has t [] a y e = absurd (false≢true e)
text_has t (w ∷ ws) a y e = go (cases_Bool (bytes_eq y w.text)) (text_has t ws a.1 y)
  where
    go : (bytes_eq y w.text ≡ true) ⊎ (bytes_eq y w.text ≡ false) → (named_in y (map text_of ws) ≡ true → named_in y t ≡ true) → named_in y t ≡ true
    go (inl q) r = subst (λ z. named_in z t ≡ true) (sym (same_bytes y w.text q)) a.0
    go (inr f) r = r (rw f at e)

-- ---- the graph

abbrev pub row_in : Program → Component → Name × List Name
row_in p n = (n.name.text, map text_of (callees p n))

graph_is : (p q : Program) → graph_of p q ≡ map (row_in p) (components q)
graph_is p [] = refl
graph_is p (declared_constant c ∷ ds) = graph_is p ds
graph_is p (declared_node n ∷ ds) = ap (λ g. row_in p n ∷ g) (graph_is p ds)
graph_is p (declared_contract n ∷ ds) = ap (λ g. row_in p n ∷ g) (graph_is p ds)

few_names : (p : Program) → length (names_in p) ≤ length p
few_names [] = omega arith
few_names (declared_constant c ∷ ds) = let h : length (names_in ds) ≤ length ds = few_names ds in omega (arith, h)
few_names (declared_node n ∷ ds) = let h : length (names_in ds) ≤ length ds = few_names ds in omega (arith, h)
few_names (declared_contract n ∷ ds) = let h : length (names_in ds) ≤ length ds = few_names ds in omega (arith, h)

names_name : (ns : List Component) → AllByRecursion (λ n. named_in n.name.text (map name_in ns) ≡ true) ns
names_name [] = tt
names_name (n ∷ ns) = (or_left (bytes_eq n.name.text n.name.text) (named_in n.name.text (map name_in ns)) (itself n.name.text), more ns (names_name ns))
  where
    more : (ms : List Component) → AllByRecursion (λ m. named_in m.name.text (map name_in ns) ≡ true) ms
        → AllByRecursion (λ m. named_in m.name.text (map name_in (n ∷ ns)) ≡ true) ms
    more [] a = tt
    more (m ∷ ms) a = (or_right (bytes_eq m.name.text n.name.text) (named_in m.name.text (map name_in ns)) a.0, more ms a.1)

one_of : (P : Component → Type 0) (ns : List Component) → AllByRecursion P ns → (i : ℕ) (n : Component) → i < length ns → get_or ns i n ≡ n → P n
one_of P [] a i n l e = absurd (omega (arith, l))
one_of P (m ∷ ns) a zero n l e = subst P e a.0
one_of P (m ∷ ns) a (suc i) n l e = one_of P ns a.1 i n (omega (arith, l)) e

pub at_number : (P : Component → Type 0) (ns : List Component) → AllByRecursion P ns → (i : ℕ) (n : Component) → slice_get ns i ≡ Some n → P n
at_number P ns a i n e = one_of P ns a i n (slice_get_within ns i n e) (get_or_from_slice_get ns i n n e)

module _ (p : Program) where
  abbrev pub table : List Name
  table = names_behind [] p

  in_table : (x : Name) → named_in x (names_in p) ≡ true → named_in x table ≡ true
  in_table x e = behind_has [] x p e

  named : (n : Component) → AllNamed table (callees p n)
  named = callees_named p table in_table

  links_of : (n : Component) → (row_of p table n).1 ≡ map (link_to table) (callees p n)
  links_of n = row_links p table n ∙ links_are table (callees p n) (named n)

  graph_within : (ns : List Component) → AreWithin (names_in p) (map (row_in p) ns)
  graph_within [] = tt
  graph_within (n ∷ ns) = (text_has (names_in p) (callees p n) (callees_named p (names_in p) (λ x e. e) n), graph_within ns)

  -- ---- where no number leads to one of a greater rank

  module _ (ranks : List ℕ) where
    abbrev pub rank : Name → ℕ
    rank y = rank_of ranks (number_of table y)

    below_callees : (k : ℕ) (ws : List Spelled) → stays_below ranks k (map (link_to table) ws) ≡ true → (y : Name) → named_in y (map text_of ws) ≡ true → rank y ≤ k
    below_callees k [] f y e = absurd (false≢true e)
    below_callees k (w ∷ ws) f y e = go (and_parts (nat_le (rank w.text) k) (stays_below ranks k (map (link_to table) ws)) f) (cases_Bool (bytes_eq y w.text))
        (below_callees k ws)
      where
        go : (nat_le (rank w.text) k ≡ true) × (stays_below ranks k (map (link_to table) ws) ≡ true) → (bytes_eq y w.text ≡ true) ⊎ (bytes_eq y w.text ≡ false)
            → (stays_below ranks k (map (link_to table) ws) ≡ true → (y : Name) → named_in y (map text_of ws) ≡ true → rank y ≤ k) → rank y ≤ k
        go h (inl q) r = subst (λ z. rank z ≤ k) (sym (same_bytes y w.text q)) (leb-true (rank w.text) k h.0)
        go h (inr d) r = r h.1 y (rw d at e)

    abbrev IsBelow : Component → Type 0
    IsBelow n = (y : Name) → named_in y (map text_of (callees p n)) ≡ true → rank y ≤ rank n.name.text

    abbrev pub Stays : Component → Type 0
    Stays n = stays_below ranks (rank n.name.text) (map (link_to table) (callees p n)) ≡ true

    each_stays : (ns : List Component) → none_rises ranks (map (row_of p table) ns) ≡ true → AllByRecursion Stays ns
    each_stays [] f = tt
    each_stays (n ∷ ns) f =
        let h : (stays_below ranks (rank n.name.text) (row_of p table n).1 ≡ true) × (none_rises ranks (map (row_of p table) ns) ≡ true) =
        and_parts (stays_below ranks (rank n.name.text) (row_of p table n).1) (none_rises ranks (map (row_of p table) ns)) f in
        (subst (λ ls. stays_below ranks (rank n.name.text) ls ≡ true) (links_of n) h.0, each_stays ns h.1)

    graph_below : (ns : List Component) → AllByRecursion Stays ns
        → AllByRecursion (λ r. (y : Name) → named_in y r.1 ≡ true → rank y ≤ rank r.0) (map (row_in p) ns)
    graph_below [] a = tt
    graph_below (n ∷ ns) a = (below_callees (rank n.name.text) (callees p n) a.0, graph_below ns a.1)

    module _ (stay : none_rises ranks (map (row_of p table) (components p)) ≡ true) (P : Refused → Type 0) where
      below : AllByRecursion (λ r. (y : Name) → named_in y r.1 ≡ true → rank y ≤ rank r.0) (graph_of p p)
      below = rw (graph_is p p) (graph_below (components p) (each_stays (components p) stay))

      -- a callee that leads back has the caller's rank
      equal_rank : (n : Component) (w : Spelled) → nat_le (rank w.text) (rank n.name.text) ≡ true
          → named_in n.name.text (reached (length p) (graph_of p p) (w.text ∷ [])) ≡ true → (rank w.text == rank n.name.text) ≡ true
      equal_rank n w l e =
          let up : rank n.name.text ≤ rank w.text = reached_below rank (graph_of p p) below (length p) n.name.text w.text e in
          let down : rank w.text ≤ rank n.name.text = leb-true (rank w.text) (rank n.name.text) l in
          eq-eqb (rank w.text) (rank n.name.text) (omega (arith, up, down))

      rest_of : (b : Bool) (x : Spelled) (fs : List Refused) → AllByRecursion P (if_so b node_recursion x.at ++ fs) → AllByRecursion P fs
      rest_of true x fs a = a.1
      rest_of false x fs a = a

      abbrev Further : Component → List Spelled → Type 0
      Further n ws = stays_below ranks (rank n.name.text) (map (link_to table) ws) ≡ true
          → AllByRecursion P (level_faults ranks (rank n.name.text) (map (link_to table) ws))
          → AllByRecursion P (map (λ f. fault node_recursion f.at) (filter (λ f. named_in n.name.text (reached (length p) (graph_of p p) (f.text ∷ []))) ws))

      row_level : (n : Component) (ws : List Spelled) → stays_below ranks (rank n.name.text) (map (link_to table) ws) ≡ true
          → AllByRecursion P (level_faults ranks (rank n.name.text) (map (link_to table) ws))
          → AllByRecursion P (map (λ f. fault node_recursion f.at) (filter (λ f. named_in n.name.text (reached (length p) (graph_of p p) (f.text ∷ []))) ws))
      row_level n [] s a = tt
      row_level n (w ∷ ws) s a = go (row_level n ws) (cases_Bool (named_in n.name.text (reached (length p) (graph_of p p) (w.text ∷ []))))
          (and_parts (nat_le (rank w.text) (rank n.name.text)) (stays_below ranks (rank n.name.text) (map (link_to table) ws)) s)
        where
          rest : Further n ws → stays_below ranks (rank n.name.text) (map (link_to table) ws) ≡ true → AllByRecursion P
              (map (λ f. fault node_recursion f.at) (filter (λ f. named_in n.name.text (reached (length p) (graph_of p p) (f.text ∷ []))) ws))
          rest more h = more h (rest_of (rank w.text == rank n.name.text) w (level_faults ranks (rank n.name.text) (map (link_to table) ws)) a)

          first : (rank w.text == rank n.name.text) ≡ true → P (fault node_recursion w.at)
          first e =
              let both : AllByRecursion P (fault node_recursion w.at ∷ level_faults ranks (rank n.name.text) (map (link_to table) ws)) =
              subst (λ b. AllByRecursion P (if_so b node_recursion w.at ++ level_faults ranks (rank n.name.text) (map (link_to table) ws))) e a in
              both.0

          go : Further n ws → (named_in n.name.text (reached (length p) (graph_of p p) (w.text ∷ [])) ≡ true)
              ⊎ (named_in n.name.text (reached (length p) (graph_of p p) (w.text ∷ [])) ≡ false)
              → (nat_le (rank w.text) (rank n.name.text) ≡ true) × (stays_below ranks (rank n.name.text) (map (link_to table) ws) ≡ true)
              → AllByRecursion P
              (map (λ f. fault node_recursion f.at) (filter (λ f. named_in n.name.text (reached (length p) (graph_of p p) (f.text ∷ []))) (w ∷ ws)))
          go more (inl t) h = rw t (first (equal_rank n w h.0 t), rest more h.1)
          go more (inr f) h = rw f (rest more h.1)

      parts_of : (xs ys : List Refused) → AllByRecursion P (xs ++ ys) → AllByRecursion P xs × AllByRecursion P ys
      parts_of [] ys a = (tt, a)
      parts_of (x ∷ xs) ys a = let h : AllByRecursion P xs × AllByRecursion P ys = parts_of xs ys a.1 in ((a.0, h.0), h.1)

      joined_of : (xs ys : List Refused) → AllByRecursion P xs → AllByRecursion P ys → AllByRecursion P (xs ++ ys)
      joined_of [] ys a b = b
      joined_of (x ∷ xs) ys a b = (a.0, joined_of xs ys a.1 b)

      all_level : (ns : List Component) → AllByRecursion Stays ns → AllByRecursion P (all_level_faults ranks (map (row_of p table) ns))
          → AllByRecursion P (flat_map (recursion_faults p) ns)
      all_level [] s a = tt
      all_level (n ∷ ns) s a =
          let h : AllByRecursion P (level_faults ranks (rank n.name.text) (row_of p table n).1)
          × AllByRecursion P (all_level_faults ranks (map (row_of p table) ns)) =
          parts_of (level_faults ranks (rank n.name.text) (row_of p table n).1) (all_level_faults ranks (map (row_of p table) ns)) a in
          joined_of (recursion_faults p n) (flat_map (recursion_faults p) ns)
          (row_level n (callees p n) s.0 (subst (λ ls. AllByRecursion P (level_faults ranks (rank n.name.text) ls)) (links_of n) h.0)) (all_level ns s.1 h.1)

      -- what is so of all links to numbers of equal rank is so of the faults
      pub level_holds : AllByRecursion P (all_level_faults ranks (map (row_of p table) (components p)))
          → AllByRecursion P (flat_map (recursion_faults p) (components p))
      level_holds a = all_level (components p) (each_stays (components p) stay) a

  -- ---- where those are marked that lead to a declaration

  module _ (n : Component) (marks : List Bool) (leading : IsLeading (map (row_of p table) (components p)) (length table) (number_of table n.name.text) marks)
      (declared : named_in n.name.text (names_in p) ≡ true) where
    abbrev test : Name → Bool
    test x = named_in x table && is_marked marks (number_of table x)

    test_true : (x : Name) → named_in x table ≡ true → is_marked marks (number_of table x) ≡ true → test x ≡ true
    test_true x e f = rw (e, f) refl

    seed : test n.name.text ≡ true
    seed = let e : named_in n.name.text table ≡ true = in_table n.name.text declared in
        test_true n.name.text e (leading.here (number_below table n.name.text e))

    leads_by_name : (ws : List Spelled) → AllNamed table ws → (y : Name) → named_in y (map text_of ws) ≡ true → test y ≡ true
        → leads_on (is_marked marks) (map (link_to table) ws) ≡ true
    leads_by_name [] a y e t = absurd (false≢true e)
    leads_by_name (w ∷ ws) a y e t = go (cases_Bool (bytes_eq y w.text)) (leads_by_name ws a.1 y)
      where
        go : (bytes_eq y w.text ≡ true) ⊎ (bytes_eq y w.text ≡ false)
            → (named_in y (map text_of ws) ≡ true → test y ≡ true → leads_on (is_marked marks) (map (link_to table) ws) ≡ true)
            → (is_marked marks (number_of table w.text) || leads_on (is_marked marks) (map (link_to table) ws)) ≡ true
        go (inl q) r = or_left (is_marked marks (number_of table w.text)) (leads_on (is_marked marks) (map (link_to table) ws))
            (subst (λ z. is_marked marks (number_of table z)
            ≡ true) (same_bytes y w.text q) (and_parts (named_in y table) (is_marked marks (number_of table y)) t).1)
        go (inr f) r = or_right (is_marked marks (number_of table w.text)) (leads_on (is_marked marks) (map (link_to table) ws)) (r (rw f at e) t)

    one_back : (m : Component) → named_in m.name.text table ≡ true → is_open marks (row_of p table m) ≡ false → IsBack test (row_in p m)
    one_back m i o y e t = test_true m.name.text i (either_end marks (number_of table m.name.text)
        (rw leading.length (number_below table m.name.text i))
        (free_false (is_free marks (number_of table m.name.text)) (leads_on (is_marked marks) (row_of p table m).1) o
        (rw (links_of m) (leads_by_name (callees p m) (named m) y e t))))

    each_back : (ms : List Component) → AllByRecursion (λ m. named_in m.name.text (names_in p) ≡ true) ms → has_open marks (map (row_of p table) ms) ≡ false
        → AllByRecursion (IsBack test) (map (row_in p) ms)
    each_back [] a o = tt
    each_back (m ∷ ms) a o =
        let h : (is_open marks (row_of p table m) ≡ false) × (has_open marks (map (row_of p table) ms) ≡ false) =
        or_false (is_open marks (row_of p table m)) (has_open marks (map (row_of p table) ms)) o in
        (one_back m (in_table m.name.text a.0) h.0, each_back ms a.1 h.1)

    module _ (other : Name → Bool) (start : other n.name.text ≡ true) where
      abbrev by_number : ℕ → Bool
      by_number j = other (get_or table j [])

      no_link : (ws : List Spelled) → AllNamed table ws → ((y : Name) → named_in y (map text_of ws) ≡ true → other y ≡ false)
          → leads_on by_number (map (link_to table) ws) ≡ false
      no_link [] a h = refl
      no_link (w ∷ ws) a h =
          let f : other w.text ≡ false = h w.text (or_left (bytes_eq w.text w.text) (named_in w.text (map text_of ws)) (itself w.text)) in
          let r : leads_on by_number (map (link_to table) ws)
          ≡ false = no_link ws a.1 (λ y e. h y (or_right (bytes_eq y w.text) (named_in y (map text_of ws)) e)) in
          rw (name_of_number table w.text a.0, f) r

      backed_if : (a b : Bool) → (a ≡ false → b ≡ false) → (a || not b) ≡ true
      backed_if true b h = refl
      backed_if false b h = rw (h refl) refl

      not_so : (m : Component) → IsBack other (row_in p m) → other m.name.text ≡ false → (y : Name) → named_in y (map text_of (callees p m)) ≡ true → other y
          ≡ false
      not_so m b f y e = go (cases_Bool (other y))
        where
          go : (other y ≡ true) ⊎ (other y ≡ false) → other y ≡ false
          go (inl t) = absurd (true≢false (sym (b y e t) ∙ f))
          go (inr g) = g

      one_backed : (m : Component) → named_in m.name.text table ≡ true → IsBack other (row_in p m) → is_backed by_number (row_of p table m) ≡ true
      one_backed m i b = rw (name_of_number table m.name.text i, links_of m)
          (backed_if (other m.name.text) (leads_on by_number (map (link_to table) (callees p m))) (λ f. no_link (callees p m) (named m) (not_so m b f)))

      all_backed : (ms : List Component) → AllByRecursion (λ m. named_in m.name.text (names_in p) ≡ true) ms → AllByRecursion (IsBack other) (map (row_in p) ms)
          → list_all (is_backed by_number) (map (row_of p table) ms) ≡ true
      all_backed [] a b = refl
      all_backed (m ∷ ms) a b = rw (one_backed m (in_table m.name.text a.0) b.0) (all_backed ms a.1 b.1)

      only_start : (j : ℕ) → j ≡ number_of table n.name.text → by_number j ≡ true
      only_start j e = rw (e, name_of_number table n.name.text (in_table n.name.text declared)) start

      passes : AllByRecursion (IsBack other) (map (row_in p) (components p)) → (x : Name) → test x ≡ true → other x ≡ true
      passes b x t =
          let parts : (named_in x table ≡ true)
          × (is_marked marks (number_of table x) ≡ true) = and_parts (named_in x table) (is_marked marks (number_of table x)) t in
          subst (λ z. other z ≡ true) (name_of_number table x parts.0)
          (leading.least.2.sound by_number (all_backed (components p) (names_name (components p)) b)
          (λ j m. only_start j (leading.least.1.only j m)) (number_of table x) parts.1)

    reached_as_marked : (x : Name) → test x ≡ named_in n.name.text (reached (length p) (graph_of p p) (x ∷ []))
    reached_as_marked x = reaches (graph_of p p) (names_in p) (length p)
        (rw (graph_is p p) (graph_within (components p))) (few_names p) n.name.text test seed
        (rw (graph_is p p) (each_back (components p) (names_name (components p)) leading.settled))
        (λ other start b. passes other start (subst (λ g. AllByRecursion (IsBack other) g) (graph_is p p) b)) x

    marked_are : (ws : List Spelled) → AllNamed table ws → marked_faults marks (map (link_to table) ws)
        ≡ map (λ f. fault node_recursion f.at) (filter (λ f. named_in n.name.text (reached (length p) (graph_of p p) (f.text ∷ []))) ws)
    marked_are [] a = refl
    marked_are (w ∷ ws) a = rw (← reached_as_marked w.text, a.0) (go (is_marked marks (number_of table w.text)) (marked_are ws a.1))
      where
        go : (b : Bool) → marked_faults marks (map (link_to table) ws)
            ≡ map (λ f. fault node_recursion f.at) (filter (λ f. named_in n.name.text (reached (length p) (graph_of p p) (f.text ∷ []))) ws)
            → (if_so b node_recursion w.at ++ marked_faults marks (map (link_to table) ws))
            ≡ map (λ f. fault node_recursion f.at) (cond b (w ∷ filter (λ f. named_in n.name.text (reached (length p) (graph_of p p) (f.text ∷ []))) ws)
            (filter (λ f. named_in n.name.text (reached (length p) (graph_of p p) (f.text ∷ []))) ws))
        go true r = ap (λ fs. fault node_recursion w.at ∷ fs) r
        go false r = r

    faults_marked : marked_faults marks (row_of p table n).1 ≡ recursion_faults p n
    faults_marked = rw (links_of n) (marked_are (callees p n) (named n))

  pub faults_found : (i : ℕ) (n : Component) (marks : List Bool)
      → IsLeading (map (row_of p table) (components p)) (length table) (number_of table n.name.text) marks
      → slice_get (components p) i ≡ Some n → marked_faults marks (row_of p table n).1 ≡ recursion_faults p n
  faults_found i n marks l e = faults_marked n marks l
      (at_number (λ m. named_in m.name.text (names_in p) ≡ true) (components p) (names_name (components p)) i n e)
