-- Paths of numbers are the ways of nodes for which they stand.
use Rattle.std.proofs.Common.{◌≡◌, ℕ, zero, suc, ◌<◌, ◌≤◌, ◌+◌, ◌-◌, Bool, true, false, cond, ◌||◌, List, [], ◌∷◌, ◌++◌, map, length, get_or, refl, ap, ◌∙◌, sym, subst, arith, Option, None, Bor}
use Rattle.std.specs.Str.{bytes_eq}
use Rattle.std.proofs.Math.Logic.{◌⊎◌, inl, inr}
use Rattle.std.proofs.lemmas.Bool.{false≢true, cases_Bool, cases_lt, lt-ltb, le-ltb}
use Rattle.lus_tree.specs.Tree.{Name, Component}
use Rattle.lus_meaning.specs.Scene.{contract_statements, variables}
use Rattle.lus_meaning.specs.Run.{Equation, equations}
use Rattle.lus_meaning.specs.Depends.{named_in}
use Rattle.lus_meaning.specs.Order.{is_listed, left_at}
use Rattle.lus_meaning.specs.WellMade.{AreDistinct}
use Rattle.name_table.specs.Names.{number_of}
use Rattle.name_table.proofs.Numbers.{number_below, name_of_number, number_at, in_list}
use Rattle.way_laws.specs.OwnGraph.{Summaries, declared_reads, equation_reads}
use Rattle.way_laws.specs.Nodes.{Node, of_name, of_equation, read_at, IsEdge, IsNodeWay, last_node, NodeLeads}
use Rattle.lus_order.specs.declared.setting.Clocks.{Clocks}
use Rattle.lus_order.specs.declared.setting.Callees.{Callees}
use Rattle.number_graphs.specs.Graphs.{Rows, row_at, leads, IsPath, end_of, LeadsTo}
use Rattle.lus_order.specs.Numbered.{name_at}
use Rattle.lus_order.specs.OwnReads.{AreFlagsOf}
use Rattle.lus_order.specs.OwnRows.{clock_rows, numbers_of, own_rows}
use Rattle.lus_order.specs.OwnNodes.{node_at, own_modes, HasLefts, AreNodes, RowsAreNodes}
use Rattle.lus_order.specs.Reads.{callees_view, clock_seen, clocks_view}
use Rattle.lus_order.specs.Rows.{ModeRows, equation_row}
use Rattle.lus_order.specs.Stands.{Stands}
use Rattle.lus_order.specs.Streams.{AreTabled, names_of}
use Rattle.lus_order.proofs.Declared.{tabled_clocks, tabled_length, declared_clock, undeclared}
use Rattle.lus_order.proofs.ModeRows.{modes_stand, equation_stands}
use Rattle.lus_order.proofs.OwnEdges.{hits_are, are_hit, all_hits, Hit, all_length, all_names, all_equations}
use Rattle.number_graphs.proofs.Paths.{leads_within, one_step, both_steps}
use Rattle.number_graphs.proofs.Searches.{or_cases, or_right}
use Rattle.lus_order.proofs.Stands.{listed_joined, names_stand, or_left}

-- ---- nodes of numbers

pub of_stream : (names : List Name) (v : ℕ) → v < length names → node_at names v ≡ of_name (name_at names v)
of_stream names v l = ap (λ b. cond b (of_name (name_at names v)) (of_equation (v - length names))) (lt-ltb v (length names) l)

pub of_number : (names : List Name) (v : ℕ) → length names ≤ v → node_at names v ≡ of_equation (v - length names)
of_number names v l = ap (λ b. cond b (of_name (name_at names v)) (of_equation (v - length names))) (le-ltb v (length names) l)

pub of_sum : (names : List Name) (k : ℕ) → node_at names (length names + k) ≡ of_equation k
of_sum names k = of_number names (length names + k) (omega arith) ∙ ap of_equation (omega arith)

abbrev name_in : Name → Node → Name
name_in d (of_name x) = x
name_in d (of_equation k) = d

abbrev number_in : ℕ → Node → ℕ
number_in d (of_name x) = d
number_in d (of_equation k) = k

abbrev is_stream : Node → Bool
is_stream (of_name x) = true
is_stream (of_equation k) = false

pub same_node : (names : List Name) → AreDistinct names → (u v : ℕ) → node_at names u ≡ node_at names v → u ≡ v
same_node names d u v e = go (cases_lt u (length names)) (cases_lt v (length names))
  where
    go : (u < length names) ⊎ (length names ≤ u) → (v < length names) ⊎ (length names ≤ v) → u ≡ v
    go (inl h) (inl i) =
        let s : name_at names u ≡ name_at names v = ap (name_in []) (sym (of_stream names u h) ∙ (e ∙ of_stream names v i)) in
        sym (number_at names d u h) ∙ (ap (number_of names) s ∙ number_at names d v i)
    go (inl h) (inr i) = absurd (false≢true (sym (ap is_stream (sym (of_stream names u h) ∙ (e ∙ of_number names v i)))))
    go (inr h) (inl i) = absurd (false≢true (ap is_stream (sym (of_number names u h) ∙ (e ∙ of_stream names v i))))
    go (inr h) (inr i) =
        let s : u - length names ≡ v - length names = ap (number_in 0) (sym (of_number names u h) ∙ (e ∙ of_number names v i)) in
        omega arith

map_at : {X : Type 0} (f : X → List ℕ) (g : X → List Name) (names : List Name) (xs : List X) (k : ℕ) → k < length xs
    → ((x : X) → Stands names (f x) (g x)) → Stands names (get_or (map f xs) k []) (get_or (map g xs) k [])
map_at f g names [] k l h = absurd (omega arith)
map_at f g names (x ∷ xs) zero l h = h x
map_at f g names (x ∷ xs) (suc k) l h = map_at f g names xs k (omega arith) h

seen_at : (cs : List (Option (Bor Name))) (i : ℕ) → get_or (map clock_seen cs) i [] ≡ clock_seen (get_or cs i None)
seen_at [] i = refl
seen_at (c ∷ cs) zero = refl
seen_at (c ∷ cs) (suc i) = seen_at cs i

row_mapped : (names : List Name) (xss : List (List Name)) (i : ℕ) → row_at (map (numbers_of names) xss) i ≡ numbers_of names (get_or xss i [])
row_mapped names [] i = refl
row_mapped names (xs ∷ xss) zero = refl
row_mapped names (xs ∷ xss) (suc i) = row_mapped names xss i

left_below : (es : List Equation) (k : ℕ) (x : Name) → named_in x (left_at es k) ≡ true → k < length es
left_below [] k x e = absurd (false≢true e)
left_below (q ∷ es) zero x e = omega arith
left_below (q ∷ es) (suc k) x e = let h : k < length es = left_below es k x e in omega arith

module _ (n : Component) (g : Summaries) (s : Clocks) (t : Callees) (tabled : AreTabled (variables n) s) (d : AreDistinct s.names)
    (u : AreDistinct (names_of (variables n))) (lefts : HasLefts n s.names) (flags : AreFlagsOf g (callees_view t)) where
  abbrev es : List Equation
  es = equations n

  abbrev modes : ModeRows
  modes = own_modes s t g n

  abbrev rows : Rows
  rows = own_rows s t modes es

  abbrev count : ℕ
  count = length s.names

  streams : length (clock_rows s) ≡ count
  streams = mapped (map clock_seen s.clocks.items) ∙ tabled_length (variables n) s tabled
    where
      mapped : (xss : List (List Name)) → length (map (numbers_of s.names) xss) ≡ length xss
      mapped [] = refl
      mapped (xs ∷ xss) = ap suc (mapped xss)

  whole : length rows ≡ count + length es
  whole = all_length s t modes d (clock_rows s) es ∙ ap (λ k. k + length es) streams

  stream_row : (i : ℕ) → i < count → row_at rows i ≡ row_at (clock_rows s) i ++ all_hits (name_at s.names i) count es
  stream_row i l = all_names s t modes d (clock_rows s) es i (omega (arith, streams)) l
      ∙ ap (λ k. row_at (clock_rows s) i ++ all_hits (name_at s.names i) k es) streams

  clock_stands : (i : ℕ) → i < count → Stands s.names (row_at (clock_rows s) i) (declared_reads n g (name_at s.names i))
  clock_stands i l =
      let x : Name = name_at s.names i in
      let there : clocks_view s x ≡ clock_seen (get_or s.clocks.items i None) =
      ap (λ b. cond b (clock_seen (get_or s.clocks.items (number_of s.names x) None)) []) (in_list s.names i l)
      ∙ ap (λ k. clock_seen (get_or s.clocks.items k None)) (number_at s.names d i l) in
      let is : row_at (clock_rows s) i ≡ numbers_of s.names (clocks_view s x) =
      row_mapped s.names (map clock_seen s.clocks.items) i ∙ ap (numbers_of s.names) (seen_at s.clocks.items i ∙ sym there) in
      subst (λ r. Stands s.names r (declared_reads n g x)) (sym is)
      (subst (Stands s.names (numbers_of s.names (clocks_view s x))) (tabled_clocks n s tabled x ∙ sym (declared_clock n g u x))
      (names_stand s.names d (clocks_view s x)))

  read_stands : (k : ℕ) → k < length es → Stands s.names (row_at rows (count + k)) (read_at n g k)
  read_stands k l =
      let is : row_at rows (count + k) ≡ get_or (map (equation_row s t modes) es) k [] =
      ap (λ i. row_at rows (i + k)) (sym streams) ∙ all_equations s t modes d (clock_rows s) es k (omega (arith, streams)) l in
      subst (λ r. Stands s.names r (read_at n g k)) (sym is)
      (map_at (equation_row s t modes) (equation_reads n g) s.names es k l
      (equation_stands n g s t tabled d flags u modes (modes_stand n g s t tabled d flags [] [] tt (contract_statements n))))

  -- ---- from numbers to nodes

  abbrev node : ℕ → Node
  node v = node_at s.names v

  IsStep : ℕ → ℕ → Type 0
  IsStep v w = (w < length rows) × IsEdge n g (node v) (node w)

  edge_from : (a b c e : Node) → a ≡ c → b ≡ e → IsEdge n g c e → IsEdge n g a b
  edge_from a b c e p q h = subst (λ z. IsEdge n g z b) (sym p) (subst (IsEdge n g c) (sym q) h)

  stream_step : (v w : ℕ) → v < count → leads rows v w ≡ true → (w < length rows) × IsEdge n g (node v) (node w)
  stream_step v w l e = go (or_cases (is_listed (row_at (clock_rows s) v) w) (is_listed (all_hits (name_at s.names v) count es) w)
      (sym (listed_joined w (row_at (clock_rows s) v) (all_hits (name_at s.names v) count es)) ∙ (ap (λ r. is_listed r w) (sym (stream_row v l)) ∙ e)))
    where
      go : (is_listed (row_at (clock_rows s) v) w ≡ true) ⊎ (is_listed (all_hits (name_at s.names v) count es) w ≡ true)
          → (w < length rows) × IsEdge n g (node v) (node w)
      go (inl h) =
          let c : Stands s.names (row_at (clock_rows s) v) (declared_reads n g (name_at s.names v)) = clock_stands v l in
          let b : w < count = c.below w h in (
            omega (arith, whole, b),
            edge_from (node v) (node w) (of_name (name_at s.names v)) (of_name (name_at s.names w)) (of_stream s.names v l)
                (of_stream s.names w b) (c.listed w h),
          )
      go (inr h) =
          let r : Hit (name_at s.names v) count es w = hits_are (name_at s.names v) count es w h in
          let b : r.number < length es = r.below in
          let i : w ≡ count + r.number = r.is in (
            omega (arith, whole, b, i),
            edge_from (node v) (node w) (of_name (name_at s.names v)) (of_equation r.number) (of_stream s.names v l)
                (ap node i ∙ of_sum s.names r.number) r.defines,
          )

  equation_step : (k w : ℕ) → k < length es → leads rows (count + k) w ≡ true → (w < length rows) × IsEdge n g (of_equation k) (node w)
  equation_step k w l e =
      let c : Stands s.names (row_at rows (count + k)) (read_at n g k) = read_stands k l in
      let b : w < count = c.below w e in
      (omega (arith, whole, b), edge_from (of_equation k) (node w) (of_equation k) (of_name (name_at s.names w)) refl (of_stream s.names w b) (c.listed w e))

  step : (v w : ℕ) → v < length rows → leads rows v w ≡ true → (w < length rows) × IsEdge n g (node v) (node w)
  step v w l e = go (cases_lt v count)
    where
      go : (v < count) ⊎ (count ≤ v) → (w < length rows) × IsEdge n g (node v) (node w)
      go (inl h) = stream_step v w h e
      go (inr h) =
          let k : ℕ = v - count in
          let i : v ≡ count + k = omega (arith, h) in
          let r = equation_step k w (omega (arith, whole, l, h)) (subst (λ z. leads rows z w ≡ true) i e) in
          (r.0, subst (λ z. IsEdge n g z (node w)) (sym (ap node i ∙ of_sum s.names k)) r.1)

  way_of : (v : ℕ) (ws : List ℕ) → v < length rows → IsPath rows v ws → IsNodeWay n g (node v) (map node ws)
  way_of v [] l p = tt
  way_of v (w ∷ ws) l p = let r = step v w l p.0 in (r.1, way_of w ws r.0 p.1)

  last_of : (v : ℕ) (ws : List ℕ) → last_node (node v) (map node ws) ≡ node (end_of v ws)
  last_of v [] = refl
  last_of v (w ∷ ws) = last_of w ws

  to_nodes : (v w : ℕ) → v < length rows → LeadsTo rows v w → NodeLeads n g (node v) (node w)
  to_nodes v w l p =
      let a = way_of v (p.first ∷ p.rest) l p.path in
      record { first = node p.first; rest = map node p.rest; way = a; last = last_of p.first p.rest ∙ ap node p.last }

  -- ---- from nodes to numbers

  record Numbered (v : ℕ) (b : Node) : Type 0 where
    number : ℕ
    below : number < length rows
    is : node number ≡ b
    led : leads rows v number ≡ true

  -- a node without a number
  abbrev IsDead : Node → Type 0
  IsDead (of_name y) = named_in y s.names ≡ false
  IsDead (of_equation k) = ⊥

  by_row : (v : ℕ) (row : List ℕ) (ys : List Name) (y : Name) → Stands s.names row ys
      → ((j : ℕ) → is_listed row j ≡ true → leads rows v j ≡ true) → named_in y ys ≡ true → (Numbered v (of_name y)) ⊎ (IsDead (of_name y))
  by_row v row ys y c h e = go (cases_Bool (named_in y s.names))
    where
      go : (named_in y s.names ≡ true) ⊎ (named_in y s.names ≡ false) → (Numbered v (of_name y)) ⊎ (IsDead (of_name y))
      go (inr f) = inr f
      go (inl t) =
          let w : ℕ = number_of s.names y in
          let b : w < count = number_below s.names y t in
          let same : name_at s.names w ≡ y = name_of_number s.names y t in
          inl (record {
            number = w;
            below = omega (arith, whole, b);
            is = of_stream s.names w b ∙ ap of_name same;
            led = h w (c.whole w b (subst (λ z. named_in z ys ≡ true) (sym same) e));
          })

  from_stream : (v : ℕ) (b : Node) → v < count → IsEdge n g (of_name (name_at s.names v)) b → (Numbered v b) ⊎ (IsDead b)
  from_stream v (of_name y) l e = by_row v (row_at (clock_rows s) v) (declared_reads n g (name_at s.names v)) y (clock_stands v l)
      (λ j h. ap (λ r. is_listed r j) (stream_row v l)
      ∙ (listed_joined j (row_at (clock_rows s) v) (all_hits (name_at s.names v) count es) ∙ or_left _ _ h)) e
  from_stream v (of_equation k) l e =
      let b : k < length es = left_below es k (name_at s.names v) e in
      inl (record {
        number = count + k;
        below = omega (arith, whole, b);
        is = of_sum s.names k;
        led = ap (λ r. is_listed r (count + k)) (stream_row v l)
            ∙ (listed_joined (count + k) (row_at (clock_rows s) v) (all_hits (name_at s.names v) count es)
            ∙ or_right _ _ (are_hit (name_at s.names v) count es k e));
      })

  from_equation : (k : ℕ) (b : Node) → k < length es → IsEdge n g (of_equation k) b → (Numbered (count + k) b) ⊎ (IsDead b)
  from_equation k (of_name y) l e = by_row (count + k) (row_at rows (count + k)) (read_at n g k) y (read_stands k l) (λ j h. h) e
  from_equation k (of_equation j) l e = absurd e

  from_number : (v : ℕ) (b : Node) → v < length rows → IsEdge n g (node v) b → (Numbered v b) ⊎ (IsDead b)
  from_number v b l e = go (cases_lt v count)
    where
      go : (v < count) ⊎ (count ≤ v) → (Numbered v b) ⊎ (IsDead b)
      go (inl h) = from_stream v b h (subst (λ z. IsEdge n g z b) (of_stream s.names v h) e)
      go (inr h) =
          let k : ℕ = v - count in
          let i : v ≡ count + k = omega (arith, h) in
          subst (λ z. (Numbered z b) ⊎ (IsDead b)) (sym i)
          (from_equation k b (omega (arith, whole, l, h)) (subst (λ z. IsEdge n g z b) (ap node i ∙ of_sum s.names k) e))

  no_edge : (a b : Node) → IsDead a → IsEdge n g a b → ⊥
  no_edge (of_equation k) b h e = h
  no_edge (of_name y) (of_name z) h e =
      false≢true (sym (ap (named_in z) (undeclared n g y (not_streams y h))) ∙ e)
    where
      not_streams : (y : Name) → named_in y s.names ≡ false → named_in y (names_of (variables n)) ≡ false
      not_streams y h = first_part y (names_of (variables n)) tabled.others (sym (ap (named_in y) tabled.names) ∙ h)
        where
          first_part : (y : Name) (xs zs : List Name) → named_in y (xs ++ zs) ≡ false → named_in y xs ≡ false
          first_part y [] zs e = refl
          first_part y (x ∷ xs) zs e = both (bytes_eq y x) e (first_part y xs zs)
            where
              both : (b : Bool) → (b || named_in y (xs ++ zs)) ≡ false → (named_in y (xs ++ zs) ≡ false → named_in y xs ≡ false)
                  → (b || named_in y xs) ≡ false
              both true q f = q
              both false q f = f q
  no_edge (of_name y) (of_equation k) h e = false≢true (sym h ∙ lefts k y e)

  dead_end : (b : Node) (w : ℕ) → IsDead b → b ≡ node w → ⊥
  dead_end b w h e = go (cases_lt w count)
    where
      go : (w < count) ⊎ (count ≤ w) → ⊥
      go (inl l) =
          let f : named_in (name_at s.names w) s.names ≡ false = subst IsDead (e ∙ of_stream s.names w l) h in
          false≢true (sym f ∙ in_list s.names w l)
      go (inr l) = subst IsDead (e ∙ of_number s.names w l) h

  path_of : (v : ℕ) (b : Node) (bs : List Node) (w : ℕ) → v < length rows → IsEdge n g (node v) b → IsNodeWay n g b bs → last_node b bs ≡ node w
      → LeadsTo rows v w
  path_of v b [] w l e p q = go (from_number v b l e)
    where
      go : (Numbered v b) ⊎ (IsDead b) → LeadsTo rows v w
      go (inl r) = subst (LeadsTo rows v) (same_node s.names d r.number w (r.is ∙ q)) (one_step rows v r.number r.led)
      go (inr h) = absurd (dead_end b w h q)
  path_of v b (c ∷ bs) w l e p q = go (from_number v b l e) (λ i h f. path_of i c bs w h f p.1 q)
    where
      go : (Numbered v b) ⊎ (IsDead b) → ((i : ℕ) → i < length rows → IsEdge n g (node i) c → LeadsTo rows i w) → LeadsTo rows v w
      go (inl r) f = both_steps rows v r.number w (one_step rows v r.number r.led) (f r.number r.below (subst (λ z. IsEdge n g z c) (sym r.is) p.0))
      go (inr h) f = absurd (no_edge b c h p.0)

  -- a number past the end stands for no equation
  none_at : (k : ℕ) (b : Node) → length es ≤ k → IsEdge n g (of_equation k) b → ⊥
  none_at k (of_name y) l e = false≢true (sym (ap (named_in y) (nothing_at es k l)) ∙ e)
    where
      nothing_at : (qs : List Equation) (k : ℕ) → length qs ≤ k → get_or (map (equation_reads n g) qs) k [] ≡ []
      nothing_at [] k l = refl
      nothing_at (q ∷ qs) zero l = absurd (omega arith)
      nothing_at (q ∷ qs) (suc k) l = nothing_at qs k (omega arith)
  none_at k (of_equation j) l e = e

  starts_within : (v : ℕ) (b : Node) → IsEdge n g (node v) b → v < length rows
  starts_within v b e = go (cases_lt v (length rows))
    where
      go : (v < length rows) ⊎ (length rows ≤ v) → v < length rows
      go (inl h) = h
      go (inr h) = absurd (none_at (v - count) b (omega (arith, whole, h))
          (subst (λ z. IsEdge n g z b) (of_number s.names v (omega (arith, whole, h))) e))

  pub own_nodes : AreNodes n g s.names rows
  own_nodes = record {
    whole = whole;
    ways = λ v w. (
      λ p. to_nodes v w (leads_within rows v p.first p.path.0) p,
      λ r. path_of v r.first r.rest w (starts_within v r.first r.way.0) r.way.0 r.way.1 r.last,
    );
    closed = λ v w e. (step v w (leads_within rows v w e) e).0;
    outside = λ x b f e. no_edge (of_name x) b f e;
  }

pub rows_nodes : RowsAreNodes
rows_nodes n g s t tabled d u lefts flags = own_nodes n g s t tabled d u lefts flags
