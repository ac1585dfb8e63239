-- What a row of an own graph leads to.
use Rattle.std.proofs.Common.{◌≡◌, ◌↔◌, ℕ, ◌<◌, true, false, List, [], ◌∷◌, ◌++◌, length, refl, ap, ◌∙◌, sym, subst, arith}
use Rattle.std.proofs.Math.Logic.{◌⊎◌, inl, inr}
use Rattle.std.proofs.lemmas.Bool.{cases_Bool}
use Rattle.lus_tree.specs.Tree.{Name, Component}
use Rattle.lus_meaning.specs.Depends.{named_in}
use Rattle.lus_meaning.specs.EquationFaults.{last_name}
use Rattle.lus_meaning.specs.Order.{is_listed}
use Rattle.lus_meaning.specs.WellMade.{AreDistinct}
use Rattle.name_table.specs.Names.{number_of}
use Rattle.name_table.proofs.Numbers.{number_below, name_of_number}
use Rattle.way_laws.specs.OwnGraph.{Summaries, IsOwnWay, LeadsTo as NamesLead, Finds, own_edges}
use Rattle.way_laws.specs.Nodes.{of_name, NodeLeads}
use Rattle.way_laws.proofs.Lists.{itself, one_named}
use Rattle.way_laws.proofs.Nodes.{names_by_nodes}
use Rattle.number_graphs.specs.Graphs.{Rows, IsPath, end_of, LeadsTo}
use Rattle.lus_order.specs.Numbered.{name_at}
use Rattle.lus_order.specs.OwnNodes.{AreNodes, node_at}
use Rattle.lus_order.specs.MarkedNames.{RowLeadsTo, RowsFind}
use Rattle.lus_order.specs.Stands.{Stands}
use Rattle.lus_order.proofs.ClosedRows.{last_row, inner_path, outer_path}
use Rattle.lus_order.proofs.OwnNodes.{of_stream}

module _ (n : Component) (g : Summaries) (names : List Name) (rows : Rows) (d : AreDistinct names) (nodes : AreNodes n g names rows) (row : List ℕ)
    (xs : List Name) (stands : Stands names row xs) where
  abbrev pub more : Rows
  more = rows ++ row ∷ []

  pub streams_lead : (i j : ℕ) → i < length names → j < length names → LeadsTo rows i j ↔ NodeLeads n g (of_name (name_at names i)) (of_name (name_at names j))
  streams_lead i j l b = subst (λ c. LeadsTo rows i j ↔ NodeLeads n g (of_name (name_at names i)) c) (of_stream names j b)
      (subst (λ a. LeadsTo rows i j ↔ NodeLeads n g a (node_at names j)) (of_stream names i l) (nodes.ways i j))

  finds_by : (x y : Name) → named_in x xs ≡ true → NamesLead (own_edges n g) (x ∷ []) (y ∷ []) → Finds (own_edges n g) xs y
  finds_by x y e r = record {
    start = x;
    starts = e;
    rest = r.first ∷ r.rest;
    way = subst (λ z. IsOwnWay (own_edges n g) z (r.first ∷ r.rest)) (one_named r.start x r.starts) r.way;
    last = one_named (last_name r.first r.rest) y r.finishes;
  }

  module _ (y : Name) (h : named_in y names ≡ true) where
    abbrev j : ℕ
    j = number_of names y

    named : name_at names j ≡ y
    named = name_of_number names y h

    below : j < length names
    below = number_below names y h

    found : (w : ℕ) (ws : List ℕ) → is_listed row w ≡ true → IsPath more w ws → end_of w ws ≡ j → Finds (own_edges n g) xs y
    found w [] e p q = record {
      start = name_at names w;
      starts = stands.listed w e;
      rest = [];
      way = tt;
      last = ap (name_at names) q ∙ named;
    }
    found w (u ∷ us) e p q =
        let l : w < length names = stands.below w e in
        let inside : w < length rows = omega (arith, l, nodes.whole) in
        let way : LeadsTo rows w j = record { first = u; rest = us; path = inner_path rows row nodes.closed w (u ∷ us) inside p; last = q } in
        let to : NodeLeads n g (of_name (name_at names w)) (of_name y) =
        subst (λ z. NodeLeads n g (of_name (name_at names w)) (of_name z)) named ((streams_lead w j l below).0 way) in
        finds_by (name_at names w) y (stands.listed w e) ((names_by_nodes n g (name_at names w) y).0 to)

    begin : (w : ℕ) (ws : List ℕ) → is_listed row w ≡ true → IsPath more w ws → end_of w ws ≡ j → RowLeadsTo rows row j
    begin w ws e p q = record { first = w; rest = ws; path = (ap (λ r. is_listed r w) (last_row rows row) ∙ e, p); last = q }

    back : (x : Name) (zs : List Name) → named_in x xs ≡ true → IsOwnWay (own_edges n g) x zs → last_name x zs ≡ y → RowLeadsTo rows row j
    back x [] e w q =
        begin j [] (stands.whole j below (subst (λ z. named_in z xs ≡ true) (sym (named ∙ sym q)) e)) tt refl
    back x (z ∷ zs) e w q = go (cases_Bool (named_in x names))
      where
        leads_on : NodeLeads n g (of_name x) (of_name y)
        leads_on = (names_by_nodes n g x y).1
            (record { start = x; starts = itself x; first = z; rest = zs; way = w; finishes = subst (λ u. named_in u (y ∷ []) ≡ true) (sym q) (itself y) })

        go : (named_in x names ≡ true) ⊎ (named_in x names ≡ false) → RowLeadsTo rows row j
        go (inr f) = absurd (nodes.outside x leads_on.first f leads_on.way.0)
        go (inl t) =
            let i : ℕ = number_of names x in
            let l : i < length names = number_below names x t in
            let s : name_at names i ≡ x = name_of_number names x t in
            let inside : i < length rows = omega (arith, l, nodes.whole) in
            let p : LeadsTo rows i j = (streams_lead i j l below).1
            (subst (λ u. NodeLeads n g (of_name u) (of_name (name_at names j))) (sym s)
            (subst (λ u. NodeLeads n g (of_name x) (of_name u)) (sym named) leads_on)) in
            begin i (p.first ∷ p.rest) (stands.whole i l (subst (λ u. named_in u xs ≡ true) (sym s) e))
            (outer_path rows row nodes.closed i (p.first ∷ p.rest) inside p.path) p.last

    pub both : RowLeadsTo rows row j ↔ Finds (own_edges n g) xs y
    both = (
      λ p. found p.first p.rest (ap (λ r. is_listed r p.first) (sym (last_row rows row)) ∙ p.path.0) p.path.1 p.last,
      λ f. back f.start f.rest f.starts f.way f.last,
    )

pub rows_find : RowsFind
rows_find n g names rows d nodes row xs stands y h = both n g names rows d nodes row xs stands y h
