-- Where a program has no fault of equations, what is made of a declaration is its least order.
use Rattle.std.proofs.Common.{◌≡◌, ◌↔◌, zero, suc, arith, flat_map, List, [], ◌∷◌, ◌++◌, length, refl, sym, subst}
use Rattle.std.specs.Prelude.{Contains}
use Rattle.std.proofs.Math.Logic.{◌⊎◌, inl, inr}
use Rattle.lus_tree.specs.Tree.{Name, Component, Program}
use Rattle.lus_tree.specs.Reason.{Refused}
use Rattle.lus_meaning.specs.ClockFaults.{components}
use Rattle.lus_meaning.specs.EquationFaults.{left_faults, IsCircleFault, of_left, of_circle}
use Rattle.lus_meaning.specs.Order.{IsLeastEquationOrder}
use Rattle.lus_meaning.specs.Program.{instance_of}
use Rattle.lus_meaning.specs.Refusals.{IsTyped}
use Rattle.lus_meaning.specs.Run.{equations}
use Rattle.lus_meaning.proofs.NamesOnce.{empty_of}
use Rattle.way_laws.specs.Circles.{IsOwnCircle}
use Rattle.way_laws.specs.Nodes.{Node, of_name, of_equation, IsEdge, IsNodeWay, last_node, NodeLeads}
use Rattle.way_laws.specs.OwnGraph.{Summaries}
use Rattle.way_laws.specs.Summaries.{CalleesExact}
use Rattle.way_laws.proofs.Callees.{all_summaries_exact}
use Rattle.way_laws.proofs.Circles.{circles_are_own}
use Rattle.way_laws.proofs.Nodes.{names_by_nodes}
use Rattle.way_laws.proofs.Rounds.{names_in_circles}
use Rattle.number_graphs.specs.Graphs.{Rows, HasCircle}
use Rattle.lus_order.specs.Library.{library_view}
use Rattle.lus_order.specs.OwnNodes.{AreNodes, node_at}
use Rattle.lus_order.specs.OwnOrders.{IsOrderOf}
use Rattle.lus_order.specs.WholeOrders.{LibraryExact, CirclesByLibrary, OrdersByLibrary}
use Rattle.lus_order.proofs.OwnCircles.{contains_left, contains_right}
use Rattle.lus_order.proofs.OwnOrders.{orders_least}

module _ (n : Component) (g : Summaries) where
  more_way : (a : Node) (bs : List Node) (z : Node) → IsNodeWay n g a bs → IsEdge n g (last_node a bs) z → IsNodeWay n g a (bs ++ z ∷ [])
  more_way a [] z w e = (e, tt)
  more_way a (b ∷ bs) z w e = (w.0, more_way b bs z w.1 e)

  more_last : (a : Node) (bs : List Node) (z : Node) → last_node a (bs ++ z ∷ []) ≡ z
  more_last a [] z = refl
  more_last a (b ∷ bs) z = more_last b bs z

  longer : (a : Node) (bs : List Node) (z : Node) → IsNodeWay n g a bs → IsEdge n g (last_node a bs) z → NodeLeads n g a z
  longer a [] z w e = record { first = z; rest = []; way = (e, tt); last = refl }
  longer a (b ∷ bs) z w e = record { first = b; rest = bs ++ z ∷ []; way = more_way a (b ∷ bs) z w e; last = more_last b bs z }

  -- a circle goes through a name
  circle_named : (a : Node) → NodeLeads n g a a → (x : Name) × NodeLeads n g (of_name x) (of_name x)
  circle_named (of_name x) l = (x, l)
  circle_named (of_equation k) l = go l.first l.rest l.way l.last
    where
      go : (f : Node) (rest : List Node) → IsNodeWay n g (of_equation k) (f ∷ rest) → last_node f rest ≡ of_equation k
          → (x : Name) × NodeLeads n g (of_name x) (of_name x)
      go (of_equation j) rest w e = absurd w.0
      go (of_name x) rest w e = (x, longer (of_name x) rest (of_name x) w.1 (subst (λ z. IsEdge n g z (of_name x)) (sym e) w.0))

  circle_fault : (p : Program) → IsTyped p → Contains (components p) n → (names : List Name) (rows : Rows) → AreNodes n g names rows → HasCircle rows
      → (r : Refused) × IsOwnCircle n g r
  circle_fault p typed d names rows nodes h = go (circle_named (node_at names h.number) ((nodes.ways h.number h.number).0 h.circle))
    where
      go : (x : Name) × NodeLeads n g (of_name x) (of_name x) → (r : Refused) × IsOwnCircle n g r
      go (x, l) = names_in_circles p typed n d g x ((names_by_nodes n g x x).0 l)

in_flat : (ns : List Component) (n : Component) (r : Refused) → Contains ns n → Contains (left_faults n) r → Contains (flat_map left_faults ns) r
in_flat [] n r (k, l, e) c = absurd (omega arith)
in_flat (m ∷ ns) n r (zero, l, e) c = contains_left (left_faults m) (flat_map left_faults ns) r (subst (λ z. Contains (left_faults z) r) (sym e) c)
in_flat (m ∷ ns) n r (suc k, l, e) c = contains_right (left_faults m) (flat_map left_faults ns) r (in_flat ns n r (k, omega arith, e) c)

pub library_exact : LibraryExact
library_exact p grammatical typed l is n d = (all_summaries_exact p grammatical typed (library_view l) is.each n d).0

pub circles_by_library : CirclesByLibrary
circles_by_library p grammatical typed l is n d r =
    let q : IsCircleFault p n r ↔ IsOwnCircle n (library_view l) r =
    circles_are_own p grammatical typed n d (library_view l) (library_exact p grammatical typed l is n d) r in
    (q.1, q.0)

pub orders_by_library : OrdersByLibrary
orders_by_library p grammatical typed l is none n d ks o = go o.order
  where
    g : Summaries
    g = library_view l

    exact : CalleesExact p n g
    exact = library_exact p grammatical typed l is n d

    lefts : left_faults n ≡ []
    lefts = empty_of (left_faults n) (λ r c. none r (of_left (in_flat (components p) n r d c)))

    go : HasCircle o.rows ⊎ IsOrderOf (length o.names) o.rows ks → IsLeastEquationOrder (instance_of p n) (equations n) ks
    go (inr h) = orders_least p grammatical typed n d g exact lefts o.names o.rows o.nodes ks h
    go (inl h) = never (circle_fault n g p typed d o.names o.rows o.nodes h)
      where
        never : (r : Refused) × IsOwnCircle n g r → IsLeastEquationOrder (instance_of p n) (equations n) ks
        never (r, c) = absurd (none r (of_circle n d ((circles_by_library p grammatical typed l is n d r).0 c)))
