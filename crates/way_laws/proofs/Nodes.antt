-- Ways by names and equations are those by names alone.
use Rattle.std.proofs.Common.{◌≡◌, ◌↔◌, ℕ, zero, suc, Bool, true, false, cond, ◌||◌, List, [], ◌∷◌, ◌++◌, map, flat_map, length, refl, sym, ap, ◌∙◌, subst}
use Rattle.std.specs.Prelude.{get_or}
use Rattle.std.specs.List.{AllByRecursion, list_all}
use Rattle.std.specs.Str.{bytes_eq}
use Rattle.std.proofs.Math.Logic.{◌⊎◌, inl, inr}
use Rattle.std.proofs.lemmas.Bool.{false≢true}
use Rattle.lus_tree.specs.Tree.{Name, text_of, Statement, equation, assertion, property, main_mark, ContractStatement, assume, guarantee, ghost_variable, constant, mode, «import», Component}
use Rattle.lus_meaning.specs.Scene.{contract_statements}
use Rattle.lus_meaning.specs.Program.{instance_of}
use Rattle.lus_meaning.specs.Run.{Equation, equations, ghost_equations, body_equations}
use Rattle.lus_meaning.specs.Depends.{named_in, left_names}
use Rattle.lus_meaning.specs.Order.{left_at, NeedsEquation}
use Rattle.lus_meaning.specs.ClockFaults.{components}
use Rattle.lus_meaning.specs.EquationFaults.{last_name}
use Rattle.lus_meaning.specs.Grammatical.{has_left_name, IsGrammaticalComponent}
use Rattle.lus_meaning.specs.WellMade.{AreDistinct}
use Rattle.lus_meaning.proofs.Members.{named_either}
use Rattle.lus_meaning.proofs.Exists.{self_bytes}
use Rattle.lus_meaning.proofs.Lists.{both_parts, or_left}
use Rattle.lus_meaning.proofs.NamesOnce.{at_one}
use Rattle.lus_meaning.proofs.Unique.{same_bytes}
use Rattle.rule_laws.proofs.Places.{all_grammatical}
use Rattle.clock_laws.proofs.Lefts.{lefts_distinct}
use Rattle.clock_laws.proofs.OrderLaws.{names_distinct}
use Rattle.way_laws.specs.OwnGraph.{Summaries, declared_reads, equation_reads, defined_reads, own_edges, IsOwnWay, LeadsTo}
use Rattle.way_laws.specs.Circles.{OwnNeeds}
use Rattle.way_laws.specs.Nodes.{Node, of_name, of_equation, read_at, IsNodeWay, last_node, NodeLeads}
use Rattle.way_laws.specs.Laws.{NamesByNodes, EquationsByNodes, OrdersByNodes}
use Rattle.way_laws.proofs.Arguments.{kept_so, kept_here, kept_left, kept_later}
use Rattle.way_laws.proofs.Orders.{same_orders}
use Rattle.way_laws.proofs.Ways.{ways_are_own}
use Rattle.way_laws.proofs.Lists.{itself, one_named}

-- ---- equations that define a name

module _ (n : Component) (g : Summaries) where
  abbrev reads_at : List Equation → ℕ → List Name
  reads_at es k = get_or (map (equation_reads n g) es) k []

  record DefinedBy (x y : Name) (es : List Equation) : Type 0 where
    number : ℕ
    defines : named_in x (left_at es number) ≡ true
    is_read : named_in y (reads_at es number) ≡ true

  defined_by : (x y : Name) (es : List Equation) → named_in y (defined_reads n g x es) ≡ true → DefinedBy x y es
  defined_by x y [] e = absurd (false≢true e)
  defined_by x y (q ∷ es) e = go (named_either y (cond (named_in x q.names) (equation_reads n g q) []) (defined_reads n g x es) e) (defined_by x y es)
    where
      go : (named_in y (cond (named_in x q.names) (equation_reads n g q) []) ≡ true) ⊎ (named_in y (defined_reads n g x es) ≡ true)
          → (named_in y (defined_reads n g x es) ≡ true → DefinedBy x y es) → DefinedBy x y (q ∷ es)
      go (inl h) f =
          let two = kept_so (named_in x q.names) y (equation_reads n g q) h in
          record { number = 0; defines = two.0; is_read = two.1 }
      go (inr h) f = let r : DefinedBy x y es = f h in record { number = suc r.number; defines = r.defines; is_read = r.is_read }

  reads_defined : (x y : Name) (es : List Equation) (k : ℕ) → named_in x (left_at es k) ≡ true → named_in y (reads_at es k) ≡ true
      → named_in y (defined_reads n g x es) ≡ true
  reads_defined x y [] k e h = absurd (false≢true e)
  reads_defined x y (q ∷ es) zero e h = kept_here (named_in x q.names) y (equation_reads n g q) (defined_reads n g x es) e h
  reads_defined x y (q ∷ es) (suc k) e h = kept_later y (cond (named_in x q.names) (equation_reads n g q) []) (defined_reads n g x es)
      (reads_defined x y es k e h)

  among : (x y : Name) (xs : List Name) → named_in x xs ≡ true → named_in y (declared_reads n g x) ≡ true
      → named_in y (flat_map (declared_reads n g) xs) ≡ true
  among x y [] e h = absurd (false≢true e)
  among x y (z ∷ xs) e h = go (bytes_eq x z) refl e (among x y xs)
    where
      go : (b : Bool) → bytes_eq x z ≡ b → (b || named_in x xs) ≡ true
          → (named_in x xs ≡ true → named_in y (declared_reads n g x) ≡ true → named_in y (flat_map (declared_reads n g) xs) ≡ true)
          → named_in y (declared_reads n g z ++ flat_map (declared_reads n g) xs) ≡ true
      go true s e f = kept_left y (declared_reads n g z) _ (subst (λ w. named_in y (declared_reads n g w) ≡ true) (same_bytes x z s) h)
      go false s e f = kept_later y (declared_reads n g z) _ (f e h)

  -- an equation reads the clocks of its left names
  declared_read : (x y : Name) (es : List Equation) (k : ℕ) → named_in x (left_at es k) ≡ true → named_in y (declared_reads n g x) ≡ true
      → named_in y (reads_at es k) ≡ true
  declared_read x y [] k e h = absurd (false≢true e)
  declared_read x y (q ∷ es) zero e h = kept_left y (flat_map (declared_reads n g) q.names) _ (among x y q.names e h)
  declared_read x y (q ∷ es) (suc k) e h = declared_read x y es k e h

  left_some : (x : Name) (es : List Equation) (k : ℕ) → named_in x (left_at es k) ≡ true → named_in x (flat_map (λ e. e.names) es) ≡ true
  left_some x [] k e = absurd (false≢true e)
  left_some x (q ∷ es) zero e = kept_left x q.names (flat_map (λ e. e.names) es) e
  left_some x (q ∷ es) (suc k) e = kept_later x q.names (flat_map (λ e. e.names) es) (left_some x es k e)

  never_both : (z : Name) (xs ys : List Name) → AreDistinct (xs ++ ys) → named_in z xs ≡ true → named_in z ys ≡ true → ⊥
  never_both z [] ys d e h = false≢true e
  never_both z (x ∷ xs) ys d e h = go (bytes_eq z x) refl e (never_both z xs ys d.1)
    where
      go : (b : Bool) → bytes_eq z x ≡ b → (b || named_in z xs) ≡ true → (named_in z xs ≡ true → named_in z ys ≡ true → ⊥) → ⊥
      go true s e f = false≢true (sym d.0 ∙ kept_later x xs ys (subst (λ w. named_in w ys ≡ true) (same_bytes z x s) h))
      go false s e f = f e h

  distinct_rest : (xs ys : List Name) → AreDistinct (xs ++ ys) → AreDistinct ys
  distinct_rest [] ys d = d
  distinct_rest (x ∷ xs) ys d = distinct_rest xs ys d.1

  one_equation : (x : Name) (es : List Equation) (k j : ℕ) → AreDistinct (flat_map (λ e. e.names) es) → named_in x (left_at es k) ≡ true
      → named_in x (left_at es j) ≡ true → k ≡ j
  one_equation x [] k j d e h = absurd (false≢true e)
  one_equation x (q ∷ es) zero zero d e h = refl
  one_equation x (q ∷ es) zero (suc j) d e h = absurd (never_both x q.names (flat_map (λ e. e.names) es) d e (left_some x es j h))
  one_equation x (q ∷ es) (suc k) zero d e h = absurd (never_both x q.names (flat_map (λ e. e.names) es) d h (left_some x es k e))
  one_equation x (q ∷ es) (suc k) (suc j) d e h = ap suc (one_equation x es k j (distinct_rest q.names (flat_map (λ e. e.names) es) d) e h)

  -- ---- from nodes to names

  -- a way from a name that ends at a node, by names alone; to an equation it ends at one of its left names
  abbrev EndsAt : Name → Node → Type 0
  EndsAt z (of_name y) = z ≡ y
  EndsAt z (of_equation j) = named_in z (left_at (equations n) j) ≡ true

  record ByNames (x : Name) (z : Node) : Type 0 where
    names : List Name
    way : IsOwnWay (own_edges n g) x names
    ends : EndsAt (last_name x names) z

  edge_declared : (x y : Name) → named_in y (declared_reads n g x) ≡ true → named_in y (own_edges n g x) ≡ true
  edge_declared x y e = kept_left y (declared_reads n g x) _ e

  edge_defined : (x y : Name) (k : ℕ) → named_in x (left_at (equations n) k) ≡ true → named_in y (read_at n g k) ≡ true
      → named_in y (own_edges n g x) ≡ true
  edge_defined x y k e h = kept_later y (declared_reads n g x) _ (reads_defined x y (equations n) k e h)

  by_names : (x : Name) (bs : List Node) (z : Node) → IsNodeWay n g (of_name x) bs → last_node (of_name x) bs ≡ z → ByNames x z
  by_names x [] z w e = record { names = []; way = tt; ends = at_name z e }
    where
      at_name : (z : Node) → of_name x ≡ z → EndsAt x z
      at_name z e = subst (EndsAt x) e refl
  by_names x (of_name y ∷ bs) z w e =
      let r : ByNames y z = by_names y bs z w.1 e in
      record { names = y ∷ r.names; way = (edge_declared x y w.0, r.way); ends = r.ends }
  by_names x (of_equation k ∷ []) z w e = record { names = []; way = tt; ends = subst (EndsAt x) e w.0 }
  by_names x (of_equation k ∷ of_equation j ∷ bs) z w e = absurd w.1.0
  by_names x (of_equation k ∷ of_name y ∷ bs) z w e =
      let r : ByNames y z = by_names y bs z w.1.1 e in
      record { names = y ∷ r.names; way = (edge_defined x y k w.0 w.1.0, r.way); ends = r.ends }

  -- the same with an edge at least
  record FirstByNames (x y : Name) : Type 0 where
    first : Name
    rest : List Name
    way : IsOwnWay (own_edges n g) x (first ∷ rest)
    ends : last_name first rest ≡ y

  first_by_names : (x : Name) (b : Node) (bs : List Node) (y : Name) → IsNodeWay n g (of_name x) (b ∷ bs) → last_node b bs ≡ of_name y → FirstByNames x y
  first_by_names x (of_name z) bs y w e =
      let r : ByNames z (of_name y) = by_names z bs (of_name y) w.1 e in
      record { first = z; rest = r.names; way = (edge_declared x z w.0, r.way); ends = r.ends }
  first_by_names x (of_equation k) [] y w e = absurd (false≢true (ap is_name e))
    where
      is_name : Node → Bool
      is_name (of_name x) = true
      is_name (of_equation k) = false
  first_by_names x (of_equation k) (of_equation j ∷ bs) y w e = absurd w.1.0
  first_by_names x (of_equation k) (of_name z ∷ bs) y w e =
      let r : ByNames z (of_name y) = by_names z bs (of_name y) w.1.1 e in
      record { first = z; rest = r.names; way = (edge_defined x z k w.0 w.1.0, r.way); ends = r.ends }

  -- ---- from names to nodes

  record ByNodes (a z : Node) : Type 0 where
    nodes : List Node
    way : IsNodeWay n g a nodes
    ends : last_node a nodes ≡ z

  -- one node or two stand for an edge
  data EdgeNodes (x y : Name) : Type 0 where
    by_clock : named_in y (declared_reads n g x) ≡ true → EdgeNodes x y
    by_equation : (k : ℕ) → named_in x (left_at (equations n) k) ≡ true → named_in y (read_at n g k) ≡ true → EdgeNodes x y

  edge_nodes : (x y : Name) → named_in y (own_edges n g x) ≡ true → EdgeNodes x y
  edge_nodes x y e = go (named_either y (declared_reads n g x) (defined_reads n g x (equations n)) e)
    where
      go : (named_in y (declared_reads n g x) ≡ true) ⊎ (named_in y (defined_reads n g x (equations n)) ≡ true) → EdgeNodes x y
      go (inl h) = by_clock h
      go (inr h) = let r : DefinedBy x y (equations n) = defined_by x y (equations n) h in by_equation r.number r.defines r.is_read

  by_nodes : (x : Name) (ys : List Name) (z : Node) → IsOwnWay (own_edges n g) x ys → ByNodes (of_name (last_name x ys)) z → ByNodes (of_name x) z
  by_nodes x [] z w b = b
  by_nodes x (y ∷ ys) z w b = go (edge_nodes x y w.0) (by_nodes y ys z w.1 b)
    where
      go : EdgeNodes x y → ByNodes (of_name y) z → ByNodes (of_name x) z
      go (by_clock h) r = record { nodes = of_name y ∷ r.nodes; way = (h, r.way); ends = r.ends }
      go (by_equation k h e) r = record { nodes = of_equation k ∷ of_name y ∷ r.nodes; way = (h, (e, r.way)); ends = r.ends }

  here : (a : Node) → ByNodes a a
  here a = record { nodes = []; way = tt; ends = refl }

  first_nodes : (x : Name) (y : Name) (ys : List Name) → IsOwnWay (own_edges n g) x (y ∷ ys) → NodeLeads n g (of_name x) (of_name (last_name y ys))
  first_nodes x y ys w = go (edge_nodes x y w.0) (by_nodes y ys (of_name (last_name y ys)) w.1 (here (of_name (last_name y ys))))
    where
      go : EdgeNodes x y → ByNodes (of_name y) (of_name (last_name y ys)) → NodeLeads n g (of_name x) (of_name (last_name y ys))
      go (by_clock h) r = record { first = of_name y; rest = r.nodes; way = (h, r.way); last = r.ends }
      go (by_equation k h e) r = record { first = of_equation k; rest = of_name y ∷ r.nodes; way = (h, (e, r.way)); last = r.ends }

  pub names_nodes : (x y : Name) → NodeLeads n g (of_name x) (of_name y) ↔ LeadsTo (own_edges n g) (x ∷ []) (y ∷ [])
  names_nodes x y = (to, back)
    where
      to : NodeLeads n g (of_name x) (of_name y) → LeadsTo (own_edges n g) (x ∷ []) (y ∷ [])
      to l =
          let r : FirstByNames x y = first_by_names x l.first l.rest y l.way l.last in
          record {
            start = x;
            starts = itself x;
            first = r.first;
            rest = r.rest;
            way = r.way;
            finishes = subst (λ q. named_in q (y ∷ []) ≡ true) (sym r.ends) (itself y);
          }

      back : LeadsTo (own_edges n g) (x ∷ []) (y ∷ []) → NodeLeads n g (of_name x) (of_name y)
      back l = subst (λ q. NodeLeads n g (of_name q) (of_name y)) (one_named l.start x l.starts)
          (subst (λ q. NodeLeads n g (of_name l.start) (of_name q)) (one_named (last_name l.first l.rest) y l.finishes)
          (first_nodes l.start l.first l.rest l.way))

  -- ---- equations

  pub record HasLeft (xs : List Name) : Type 0 where
    pub name : Name
    pub listed : named_in name xs ≡ true

  left_of : (es : List Equation) → AllByRecursion (λ e. HasLeft e.names) es → (k : ℕ) (y : Name) → named_in y (reads_at es k) ≡ true
      → HasLeft (left_at es k)
  left_of [] a k y h = absurd (false≢true h)
  left_of (q ∷ es) a zero y h = a.0
  left_of (q ∷ es) a (suc k) y h = left_of es a.1 k y h

  module _ (lefts : AllByRecursion (λ e. HasLeft e.names) (equations n)) (distinct : AreDistinct (left_names n)) where
    equation_to : (k j : ℕ) (b : Node) (bs : List Node) → IsNodeWay n g (of_equation k) (b ∷ bs) → last_node b bs ≡ of_equation j → OwnNeeds n g k j
    equation_to k j (of_equation m) bs w e = absurd w.0
    equation_to k j (of_name y) bs w e =
        let r : ByNames y (of_equation j) = by_names y bs (of_equation j) w.1 e in
        let s : HasLeft (left_at (equations n) k) = left_of (equations n) lefts k y w.0 in
        record {
          start = s.name;
          starts = s.listed;
          first = y;
          rest = r.names;
          way = (edge_defined s.name y k s.listed w.0, r.way);
          finishes = r.ends;
        }

    read_by : (x y : Name) (k : ℕ) → named_in x (left_at (equations n) k) ≡ true → named_in y (own_edges n g x) ≡ true → named_in y (read_at n g k) ≡ true
    read_by x y k e h = go (edge_nodes x y h)
      where
        go : EdgeNodes x y → named_in y (read_at n g k) ≡ true
        go (by_clock c) = declared_read x y (equations n) k e c
        go (by_equation m d c) = subst (λ q. named_in y (read_at n g q) ≡ true) (one_equation x (equations n) m k distinct d e) c

    equation_back : (k j : ℕ) → OwnNeeds n g k j → NodeLeads n g (of_equation k) (of_equation j)
    equation_back k j l =
        let end : ByNodes (of_name (last_name l.first l.rest)) (of_equation j) =
        record { nodes = of_equation j ∷ []; way = (l.finishes, tt); ends = refl } in
        let r : ByNodes (of_name l.first) (of_equation j) = by_nodes l.first l.rest (of_equation j) l.way.1 end in
        record { first = of_name l.first; rest = r.nodes; way = (read_by l.start l.first k l.starts l.way.0, r.way); last = r.ends }

    pub equations_nodes : (k j : ℕ) → NodeLeads n g (of_equation k) (of_equation j) ↔ OwnNeeds n g k j
    equations_nodes k j = ((λ l. equation_to k j l.first l.rest l.way l.last), equation_back k j)

  -- ---- left sides

  ghosts_have : (cs : List ContractStatement) → AllByRecursion (λ e. HasLeft e.names) (ghost_equations cs)
  ghosts_have [] = tt
  ghosts_have (assume l ∷ cs) = ghosts_have cs
  ghosts_have (guarantee l ∷ cs) = ghosts_have cs
  ghosts_have (ghost_variable v e ∷ cs) = (record { name = v.name.text; listed = itself v.name.text }, ghosts_have cs)
  ghosts_have (constant c ∷ cs) = ghosts_have cs
  ghosts_have (mode m rs es ∷ cs) = ghosts_have cs
  ghosts_have («import» k c as_ xs ∷ cs) = ghosts_have cs

  body_have : (ss : List Statement) → list_all has_left_name ss ≡ true → AllByRecursion (λ e. HasLeft e.names) (body_equations ss)
  body_have [] h = tt
  body_have (assertion e ∷ ss) h = body_have ss h
  body_have (property l ∷ ss) h = body_have ss h
  body_have (main_mark q ∷ ss) h = body_have ss h
  body_have (equation [] e ∷ ss) h = absurd (false≢true h)
  body_have (equation (x ∷ xs) e ∷ ss) h = (
    record { name = x.text; listed = or_left (bytes_eq x.text x.text) (named_in x.text (map text_of xs)) (self_bytes x.text) },
    body_have ss h,
  )

  pub equations_have : list_all has_left_name n.body ≡ true → AllByRecursion (λ e. HasLeft e.names) (equations n)
  equations_have h = both_parts (λ e. HasLeft e.names) (ghost_equations (contract_statements n)) (body_equations n.body)
      (ghosts_have (contract_statements n)) (body_have n.body h)

pub names_by_nodes : NamesByNodes
names_by_nodes n g x y = names_nodes n g x y

pub equations_by_nodes : EquationsByNodes
equations_by_nodes p grammatical typed n d e g k j = equations_nodes n g
    (equations_have n g (at_one IsGrammaticalComponent (components p) n (all_grammatical p grammatical) d).lefts)
    (lefts_distinct n (names_distinct p typed n d) e) k j

pub orders_by_nodes : OrdersByNodes
orders_by_nodes p grammatical typed n d g exact e ks =
    (same_orders (length (equations n)) (λ k j. NodeLeads n g (of_equation k) (of_equation j)) (NeedsEquation (instance_of p n) (equations n))
    (λ k j. joined (equations_by_nodes p grammatical typed n d e g k j)
    (ways_are_own p grammatical typed n d g exact (left_at (equations n) k) (left_at (equations n) j))) ks).1
  where
    joined : {A B C : Type 0} → A ↔ B → C ↔ B → A ↔ C
    joined f h = ((λ a. h.1 (f.0 a)), (λ c. f.1 (h.0 c)))
