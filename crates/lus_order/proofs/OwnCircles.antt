-- The faults that are noted of a declaration are those of its circles by its own graph.
use Rattle.std.proofs.Common.{◌≡◌, ◌↔◌, ℕ, zero, suc, ◌≤◌, ◌+◌, true, List, [], ◌∷◌, ◌++◌, map, length, get_or, Option, refl, sym, ap, ◌∙◌, subst, arith}
use Rattle.std.specs.Prelude.{Contains, Bool}
use Rattle.std.proofs.Math.Logic.{◌⊎◌, inl, inr}
use Rattle.lus_tree.specs.Tree.{Name, Component, Spelled, text_of, Statement, equation, assertion, property, main_mark, ContractStatement, assume, guarantee, ghost_variable, constant, mode, «import»}
use Rattle.lus_tree.specs.Reason.{Refused}
use Rattle.lus_meaning.specs.Depends.{named_in}
use Rattle.lus_meaning.specs.EquationFaults.{sides, ghost_sides, body_sides}
use Rattle.lus_meaning.specs.Run.{Equation, equations, ghost_equations, body_equations}
use Rattle.lus_meaning.specs.Scene.{contract_statements, variables}
use Rattle.lus_meaning.specs.WellMade.{AreDistinct}
use Rattle.lus_meaning.proofs.Lists.{map_append}
use Rattle.lus_scopes.specs.Least.{noted_all}
use Rattle.lus_scopes.proofs.Leasts.{noted_append}
use Rattle.way_laws.specs.Circles.{IsOwnCircle, of_equation, of_clocks}
use Rattle.lus_order.specs.declared.library.Library.{Library}
use Rattle.lus_order.specs.declared.own.Own.{Own}
use Rattle.lus_order.specs.Backs.{AreFlagged, AreNumbered, IsClosed, IsOnCircle, flagged_faults}
use Rattle.lus_order.specs.ClockCircles.{IsClockCircle, free_rows, marked_faults}
use Rattle.number_graphs.specs.Graphs.{AreOnCircles, graph_view}
use Rattle.lus_order.specs.Library.{library_view}
use Rattle.lus_order.specs.Ordered.{NotesCircles, NotesOwn}
use Rattle.lus_order.specs.Own.{IsOwn}
use Rattle.lus_order.specs.OwnNodes.{AreNodes, HasLefts}
use Rattle.lus_order.specs.OwnReads.{AreFlagsOf}
use Rattle.lus_order.specs.Reads.{callees_view}
use Rattle.lus_order.specs.Streams.{names_of, params_view, with_sides}
use Rattle.lus_order.proofs.Flagged.{flagged_circles}
use Rattle.lus_order.proofs.FreeClocks.{marked_circles}
use Rattle.lus_order.proofs.OwnNodes.{rows_nodes}

pub contains_left : (xs ys : List Refused) (r : Refused) → Contains xs r → Contains (xs ++ ys) r
contains_left [] ys r (k, l, e) = absurd (omega arith)
contains_left (x ∷ xs) ys r (zero, l, e) = (0, omega arith, e)
contains_left (x ∷ xs) ys r (suc k, l, e) = later (contains_left xs ys r (k, omega arith, e))
  where
    later : Contains (xs ++ ys) r → Contains (x ∷ xs ++ ys) r
    later (j, m, h) = (suc j, omega arith, h)

pub contains_right : (xs ys : List Refused) (r : Refused) → Contains ys r → Contains (xs ++ ys) r
contains_right [] ys r c = c
contains_right (x ∷ xs) ys r c = later (contains_right xs ys r c)
  where
    later : Contains (xs ++ ys) r → Contains (x ∷ xs ++ ys) r
    later (j, m, h) = (suc j, omega arith, h)

pub contains_either : (xs ys : List Refused) (r : Refused) → Contains (xs ++ ys) r → Contains xs r ⊎ Contains ys r
contains_either [] ys r c = inr c
contains_either (x ∷ xs) ys r (zero, l, e) = inl (0, omega arith, e)
contains_either (x ∷ xs) ys r (suc k, l, e) = later (contains_either xs ys r (k, omega arith, e))
  where
    later : Contains xs r ⊎ Contains ys r → Contains (x ∷ xs) r ⊎ Contains ys r
    later (inl (j, m, h)) = inl (suc j, omega arith, h)
    later (inr c) = inr c

-- the left names of the equations are those of the sides
ghost_lefts : (cs : List ContractStatement) → map (λ (e : Equation). e.names) (ghost_equations cs) ≡ map (map text_of) (ghost_sides cs)
ghost_lefts [] = refl
ghost_lefts (assume l ∷ cs) = ghost_lefts cs
ghost_lefts (guarantee l ∷ cs) = ghost_lefts cs
ghost_lefts (ghost_variable v e ∷ cs) = ap (λ z. (v.name.text ∷ []) ∷ z) (ghost_lefts cs)
ghost_lefts (constant c ∷ cs) = ghost_lefts cs
ghost_lefts (mode m rs es ∷ cs) = ghost_lefts cs
ghost_lefts («import» k c as_ xs ∷ cs) = ghost_lefts cs

body_lefts : (ss : List Statement) → map (λ (e : Equation). e.names) (body_equations ss) ≡ map (map text_of) (body_sides ss)
body_lefts [] = refl
body_lefts (equation xs e ∷ ss) = ap (λ z. map text_of xs ∷ z) (body_lefts ss)
body_lefts (assertion e ∷ ss) = body_lefts ss
body_lefts (property l ∷ ss) = body_lefts ss
body_lefts (main_mark p ∷ ss) = body_lefts ss

all_lefts : (n : Component) → map (λ (e : Equation). e.names) (equations n) ≡ map (map text_of) (sides n)
all_lefts n =
    map_append (λ (e : Equation). e.names) (ghost_equations (contract_statements n)) (body_equations n.body)
    ∙ ap (λ z. z ++ map (λ (e : Equation). e.names) (body_equations n.body)) (ghost_lefts (contract_statements n))
    ∙ ap (λ z. map (map text_of) (ghost_sides (contract_statements n)) ++ z) (body_lefts n.body)
    ∙ sym (map_append (map text_of) (ghost_sides (contract_statements n)) (body_sides n.body))

text_at : (wss : List (List Spelled)) (ws : List Spelled) → Contains wss ws → (k : ℕ) × (get_or (map (map text_of) wss) k [] ≡ map text_of ws)
text_at [] ws (k, l, e) = absurd (omega arith)
text_at (us ∷ wss) ws (zero, l, e) = (0, ap (map text_of) e)
text_at (us ∷ wss) ws (suc k, l, e) = let r : (j : ℕ) × (get_or (map (map text_of) wss) j [] ≡ map text_of ws) = text_at wss ws (k, omega arith, e) in
    (suc r.0, r.1)

numbered_sides : (n : Component) (names : List Name) → HasLefts n names → AreNumbered names (sides n)
numbered_sides n names h ws c x e =
    let r : (k : ℕ) × (get_or (map (map text_of) (sides n)) k [] ≡ map text_of ws) = text_at (sides n) ws c in
    h r.0 x (subst (λ z. named_in x z ≡ true) (sym (ap (λ z. get_or z r.0 []) (all_lefts n) ∙ r.1)) e)

module _ (n : Component) (l : Library) (o : Own) (flags : AreFlagsOf (library_view l) (callees_view l.callees)) (u : AreDistinct (names_of (variables n)))
    (own : IsOwn n l o) where
  pub flagged_nodes : AreNodes n (library_view l) o.clocks.names (graph_view o.graph)
  flagged_nodes = subst (AreNodes n (library_view l) o.clocks.names) (sym own.graph)
      (rows_nodes n (library_view l) o.clocks l.callees own.tabled own.distinct u own.lefts flags)

  pub within_rows : length o.clocks.names ≤ length (graph_view o.graph)
  within_rows = let w : length (graph_view o.graph) ≡ length o.clocks.names + length (equations n) = flagged_nodes.whole in omega arith

  pub closed_rows : IsClosed (graph_view o.graph)
  closed_rows = flagged_nodes.closed

  numbered : AreNumbered o.clocks.names (sides n)
  numbered ws c x e = numbered_sides n o.clocks.names own.lefts ws c x e

  pub circles_noted : (old new : Option Refused) → NotesOwn o old new → NotesCircles n (library_view l) old new
  circles_noted old new q = record {
    faults = flagged_faults (sides n) bs ++ marked_faults (variables n) marks;
    noted = q.noted
        ∙ ap (λ ws. noted_all (noted_all old (flagged_faults ws bs)) (marked_faults (params_view o.params.items) marks)) own.spelled
        ∙ ap (λ vs. noted_all (noted_all old (flagged_faults (sides n) bs)) (marked_faults vs marks)) own.streams
        ∙ sym (noted_append old (flagged_faults (sides n) bs) (marked_faults (variables n) marks));
    all = λ r. (λ c. to r (contains_either (flagged_faults (sides n) bs) (marked_faults (variables n) marks) r c), from r);
  }
    where
      bs : List Bool
      bs = q.flags

      marks : List Bool
      marks = q.marks

      flagged : (r : Refused) → Contains (flagged_faults (sides n) bs) r ↔ IsOnCircle n (library_view l) (sides n) r
      flagged = flagged_circles n (library_view l) o.clocks.names (graph_view o.graph) own.distinct flagged_nodes (sides n) bs numbered
          (subst (λ ws. AreFlagged (graph_view o.graph) o.clocks.names ws bs) own.spelled q.flagged)

      marked : (r : Refused) → Contains (marked_faults (variables n) marks) r ↔ IsClockCircle n r
      marked = marked_circles n o.clocks marks own.tabled own.distinct
          (subst (λ es. AreOnCircles (free_rows o.clocks (with_sides [] es)) marks) own.equated q.marked)

      to : (r : Refused) → Contains (flagged_faults (sides n) bs) r ⊎ Contains (marked_faults (variables n) marks) r → IsOwnCircle n (library_view l) r
      to r (inl c) = let i : IsOnCircle n (library_view l) (sides n) r = (flagged r).0 c in
          of_equation i.word i.words i.stands i.circle i.is
      to r (inr c) = let i : IsClockCircle n r = (marked r).0 c in
          of_clocks i.stream i.declared i.circle i.is

      from : (r : Refused) → IsOwnCircle n (library_view l) r → Contains (flagged_faults (sides n) bs ++ marked_faults (variables n) marks) r
      from r (of_equation w ws s c e) = contains_left _ _ r ((flagged r).1 record { word = w; words = ws; stands = s; circle = c; is = e })
      from r (of_clocks v s c e) = contains_right (flagged_faults (sides n) bs) _ r ((marked r).1 record { stream = v; declared = s; circle = c; is = e })
