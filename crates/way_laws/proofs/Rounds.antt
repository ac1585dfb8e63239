-- A name that leads to itself in its own graph passes a left name of an equation that does, or goes along clocks alone.
use Rattle.std.proofs.Common.{option_map, ◌≡◌, Bool, true, false, cond, not, ◌||◌, List, [], ◌∷◌, ◌++◌, map, flat_map, refl, sym, ap, ◌∙◌, subst, None}
use Rattle.std.specs.Prelude.{filter, unwrap_or}
use Rattle.std.specs.Str.{bytes_eq}
use Rattle.std.proofs.Math.Logic.{◌⊎◌, inl, inr}
use Rattle.std.proofs.lemmas.Bool.{false≢true}
use Rattle.lus_tree.specs.Reason.{Refused, cycle}
use Rattle.lus_tree.specs.Tree.{Name, text_of, Spelled, Variable, Statement, equation, assertion, property, main_mark, ContractStatement, assume, guarantee, ghost_variable, constant, mode, «import», Component}
use Rattle.lus_meaning.specs.Scene.{clock_from, clock_of, contract_statements, variables}
use Rattle.lus_meaning.specs.Run.{Equation, equations, ghost_equations, body_equations}
use Rattle.lus_meaning.specs.Depends.{named_in, left_names}
use Rattle.lus_meaning.specs.EquationFaults.{clock_names, last_name, sides, ghost_sides, body_sides}
use Rattle.lus_meaning.specs.Faults.{fault}
use Rattle.lus_meaning.specs.WellMade.{AreDistinct}
use Rattle.lus_meaning.proofs.Members.{IsIn, in_left, in_right, named_either}
use Rattle.lus_meaning.proofs.Exists.{self_bytes}
use Rattle.lus_meaning.proofs.Lists.{named_append, or_left, or_true}
use Rattle.lus_meaning.proofs.NamesOnce.{not_nil}
use Rattle.lus_meaning.proofs.Unique.{same_bytes}
use Rattle.clock_laws.proofs.OrderLaws.{names_distinct}
use Rattle.clock_laws.proofs.Reaching.{in_either}
use Rattle.way_laws.specs.OwnGraph.{Summaries, declared_reads, defined_reads, equation_reads, own_edges, Edges, IsOwnWay, LeadsTo}
use Rattle.way_laws.specs.Circles.{free_clock, IsOwnCircle, of_equation, of_clocks}
use Rattle.way_laws.specs.Laws.{NamesInCircles}
use Rattle.way_laws.proofs.Steps.{in_contains}
use Rattle.way_laws.proofs.Arguments.{kept_so}
use Rattle.way_laws.proofs.Declarations.{names_in, find_distinct}
use Rattle.way_laws.proofs.Lists.{itself, one_named}

-- ---- ways

ways_joined : (edges : Edges) (x : Name) (ys zs : List Name) → IsOwnWay edges x ys → IsOwnWay edges (last_name x ys) zs → IsOwnWay edges x (ys ++ zs)
ways_joined edges x [] zs w v = v
ways_joined edges x (y ∷ ys) zs w v = (w.0, ways_joined edges y ys zs w.1 v)

last_joined : (x : Name) (ys zs : List Name) → last_name x (ys ++ zs) ≡ last_name (last_name x ys) zs
last_joined x [] zs = refl
last_joined x (y ∷ ys) zs = last_joined y ys zs

-- ---- what a name reads

record Declared (x y : Name) (vs : List Variable) : Type 0 where
  variable : Variable
  there : IsIn variable vs
  named : x ≡ variable.name.text
  clock : named_in y (clock_names (clock_from variable.clock)) ≡ true

declared : (x y : Name) (vs : List Variable)
    → named_in y (flat_map (λ v. cond (bytes_eq x v.name.text) (clock_names (clock_from v.clock)) []) vs) ≡ true → Declared x y vs
declared x y [] e = absurd (false≢true e)
declared x y (v ∷ vs) e = go (named_either y (cond (bytes_eq x v.name.text) (clock_names (clock_from v.clock)) []) _ e) (declared x y vs)
  where
    go : (named_in y (cond (bytes_eq x v.name.text) (clock_names (clock_from v.clock)) []) ≡ true)
        ⊎ (named_in y (flat_map (λ w. cond (bytes_eq x w.name.text) (clock_names (clock_from w.clock)) []) vs) ≡ true)
        → (named_in y (flat_map (λ w. cond (bytes_eq x w.name.text) (clock_names (clock_from w.clock)) []) vs) ≡ true → Declared x y vs)
        → Declared x y (v ∷ vs)
    go (inl h) f =
        let two = kept_so (bytes_eq x v.name.text) y (clock_names (clock_from v.clock)) h in
        record { variable = v; there = inl refl; named = same_bytes x v.name.text two.0; clock = two.1 }
    go (inr h) f = let r : Declared x y vs = f h in record { variable = r.variable; there = inr r.there; named = r.named; clock = r.clock }

left_there : (x : Name) (es : List Equation) → named_in x (flat_map (λ e. e.names) es) ≡ true → (e : Equation) × IsIn e es × (named_in x e.names ≡ true)
left_there x [] e = absurd (false≢true e)
left_there x (q ∷ es) e = go (named_either x q.names (flat_map (λ e. e.names) es) e) (left_there x es)
  where
    go : (named_in x q.names ≡ true) ⊎ (named_in x (flat_map (λ e. e.names) es) ≡ true)
        → (named_in x (flat_map (λ e. e.names) es) ≡ true → (e : Equation) × IsIn e es × (named_in x e.names ≡ true))
        → (e : Equation) × IsIn e (q ∷ es) × (named_in x e.names ≡ true)
    go (inl h) f = (q, inl refl, h)
    go (inr h) f = let r : (e : Equation) × IsIn e es × (named_in x e.names ≡ true) = f h in (r.0, inr r.1, r.2)

defined_left : (n : Component) (g : Summaries) (x y : Name) (es : List Equation) → named_in y (defined_reads n g x es) ≡ true
    → named_in x (flat_map (λ e. e.names) es) ≡ true
defined_left n g x y [] e = absurd (false≢true e)
defined_left n g x y (q ∷ es) e = go (named_either y (cond (named_in x q.names) (equation_reads n g q) []) (defined_reads n g x es) e)
    (defined_left n g x y es)
  where
    go : (named_in y (cond (named_in x q.names) (equation_reads n g q) []) ≡ true) ⊎ (named_in y (defined_reads n g x es) ≡ true)
        → (named_in y (defined_reads n g x es) ≡ true → named_in x (flat_map (λ e. e.names) es) ≡ true)
        → named_in x (q.names ++ flat_map (λ e. e.names) es) ≡ true
    go (inl h) f = named_append x q.names (flat_map (λ e. e.names) es) ∙ or_left (named_in x q.names) _
        (kept_so (named_in x q.names) y (equation_reads n g q) h).0
    go (inr h) f = named_append x q.names (flat_map (λ e. e.names) es) ∙ or_true (named_in x q.names) _ (f h)

-- ---- left names

record Side (x : Name) (ss : List (List Spelled)) : Type 0 where
  side : List Spelled
  there : IsIn side ss
  named : named_in x (map text_of side) ≡ true

ghost_side : (x : Name) (cs : List ContractStatement) (e : Equation) → IsIn e (ghost_equations cs) → named_in x e.names ≡ true → Side x (ghost_sides cs)
ghost_side x [] e h m = absurd h
ghost_side x (assume l ∷ cs) e h m = ghost_side x cs e h m
ghost_side x (guarantee l ∷ cs) e h m = ghost_side x cs e h m
ghost_side x (constant c ∷ cs) e h m = ghost_side x cs e h m
ghost_side x (mode w rs es ∷ cs) e h m = ghost_side x cs e h m
ghost_side x («import» k c as_ xs ∷ cs) e h m = ghost_side x cs e h m
ghost_side x (ghost_variable v a ∷ cs) e (inl s) m = record {
  side = v.name ∷ [];
  there = inl refl;
  named = subst (λ (q : Equation). named_in x q.names ≡ true) s m;
}
ghost_side x (ghost_variable v a ∷ cs) e (inr h) m =
    let r : Side x (ghost_sides cs) = ghost_side x cs e h m in
    record { side = r.side; there = inr r.there; named = r.named }

body_side : (x : Name) (ss : List Statement) (e : Equation) → IsIn e (body_equations ss) → named_in x e.names ≡ true → Side x (body_sides ss)
body_side x [] e h m = absurd h
body_side x (assertion a ∷ ss) e h m = body_side x ss e h m
body_side x (property l ∷ ss) e h m = body_side x ss e h m
body_side x (main_mark q ∷ ss) e h m = body_side x ss e h m
body_side x (equation xs a ∷ ss) e (inl s) m = record {
  side = xs;
  there = inl refl;
  named = subst (λ (q : Equation). named_in x q.names ≡ true) s m;
}
body_side x (equation xs a ∷ ss) e (inr h) m =
    let r : Side x (body_sides ss) = body_side x ss e h m in
    record { side = r.side; there = inr r.there; named = r.named }

side_of : (n : Component) (x : Name) → named_in x (left_names n) ≡ true → Side x (sides n)
side_of n x h = go (left_there x (equations n) h)
  where
    either : (e : Equation) → named_in x e.names ≡ true → IsIn e (ghost_equations (contract_statements n)) ⊎ IsIn e (body_equations n.body)
        → Side x (sides n)
    either e m (inl t) =
        let r : Side x (ghost_sides (contract_statements n)) = ghost_side x (contract_statements n) e t m in
        record { side = r.side; there = in_left r.side (ghost_sides (contract_statements n)) (body_sides n.body) r.there; named = r.named }
    either e m (inr t) =
        let r : Side x (body_sides n.body) = body_side x n.body e t m in
        record { side = r.side; there = in_right r.side (ghost_sides (contract_statements n)) (body_sides n.body) r.there; named = r.named }

    go : (e : Equation) × IsIn e (equations n) × (named_in x e.names ≡ true) → Side x (sides n)
    go r = either r.0 r.2 (in_either r.0 (ghost_equations (contract_statements n)) (body_equations n.body) r.1)

-- ---- round

module _ (n : Component) (g : Summaries) (distinct : AreDistinct (names_in (variables n))) where
  abbrev edges : Edges
  edges = own_edges n g

  -- a name without an equation reads its clock alone
  clock_alone : (x y : Name) → named_in x (left_names n) ≡ false → named_in y (edges x) ≡ true → Declared x y (variables n)
  clock_alone x y f e = go (named_either y (declared_reads n g x) (defined_reads n g x (equations n)) e)
    where
      go : (named_in y (declared_reads n g x) ≡ true) ⊎ (named_in y (defined_reads n g x (equations n)) ≡ true) → Declared x y (variables n)
      go (inl h) = declared x y (variables n) h
      go (inr h) = absurd (false≢true (sym f ∙ defined_left n g x y (equations n) h))

  free_edge : (x y : Name) → Declared x y (variables n) → named_in y (left_names n) ≡ false → named_in y (free_clock n x) ≡ true
  free_edge x y d f = kept (clock_names (clock_of n x)) (subst (λ c. named_in y (clock_names c) ≡ true) (sym same) d.clock)
    where
      same : clock_of n x ≡ clock_from d.variable.clock
      same = ap (clock_of n) d.named ∙ ap (λ o. clock_from (unwrap_or (option_map (λ (w : Variable). w.clock) o) None))
          (find_distinct d.variable (variables n) d.there distinct)

      later : (b : Bool) (z : Name) (zs : List Name) → named_in y zs ≡ true → named_in y (cond b (z ∷ zs) zs) ≡ true
      later true z zs h = or_true (bytes_eq y z) (named_in y zs) h
      later false z zs h = h

      first : (z : Name) (zs : List Name) → y ≡ z → named_in y (cond (not (named_in z (left_names n))) (z ∷ zs) zs) ≡ true
      first z zs s = subst (λ b. named_in y (cond (not b) (z ∷ zs) zs) ≡ true) (sym (subst (λ w. named_in w (left_names n) ≡ false) s f))
          (or_left (bytes_eq y z) (named_in y zs) (subst (λ w. bytes_eq y w ≡ true) s (self_bytes y)))

      kept : (zs : List Name) → named_in y zs ≡ true → named_in y (filter (λ z. not (named_in z (left_names n))) zs) ≡ true
      kept [] h = h
      kept (z ∷ zs) h = go (bytes_eq y z) refl h (kept zs)
        where
          go : (b : Bool) → bytes_eq y z ≡ b → (b || named_in y zs) ≡ true
              → (named_in y zs ≡ true → named_in y (filter (λ z. not (named_in z (left_names n))) zs) ≡ true)
              → named_in y (filter (λ z. not (named_in z (left_names n))) (z ∷ zs)) ≡ true
          go true e h r = first z (filter (λ z. not (named_in z (left_names n))) zs) (same_bytes y z e)
          go false e h r = later (not (named_in z (left_names n))) z (filter (λ z. not (named_in z (left_names n))) zs) (r h)

  -- a left name that leads to itself, or a way along clocks of names without an equation
  data Round (z : Name) (ys : List Name) : Type 0 where
    by_left : (w : Name) → named_in w (left_names n) ≡ true → LeadsTo edges (w ∷ []) (w ∷ []) → Round z ys
    by_clocks : IsOwnWay (free_clock n) z ys → Round z ys

  round : (x : Name) (ps : List Name) → IsOwnWay edges x ps → (z : Name) → last_name x ps ≡ z → named_in z (left_names n) ≡ false
      → (ys : List Name) → IsOwnWay edges z ys → last_name z ys ≡ x → Round z ys
  round x ps v z e f [] w l = by_clocks tt
  round x ps v z e f (y ∷ ys) w l = go (named_in y (left_names n)) refl
      (λ h. round x (ps ++ y ∷ []) on y (last_joined x ps (y ∷ [])) h ys w.1 l)
    where
      on : IsOwnWay edges x (ps ++ y ∷ [])
      on = ways_joined edges x ps (y ∷ []) v (subst (λ q. IsOwnWay edges q (y ∷ [])) (sym e) (w.0, tt))

      back : IsOwnWay edges y (ys ++ (ps ++ y ∷ []))
      back = ways_joined edges y ys (ps ++ y ∷ []) w.1 (subst (λ q. IsOwnWay edges q (ps ++ y ∷ [])) (sym l) on)

      end : last_name y (ys ++ (ps ++ y ∷ [])) ≡ y
      end = last_joined y ys (ps ++ y ∷ []) ∙ last_joined (last_name y ys) ps (y ∷ [])

      cut : (zs : List Name) → IsOwnWay edges y zs → last_name y zs ≡ y → (zs ≡ [] → ⊥) → LeadsTo edges (y ∷ []) (y ∷ [])
      cut [] w l some = absurd (some refl)
      cut (z ∷ zs) w l some = record {
        start = y;
        starts = itself y;
        first = z;
        rest = zs;
        way = w;
        finishes = subst (λ q. named_in q (y ∷ []) ≡ true) (sym l) (itself y);
      }

      not_none : (as_ bs : List Name) → as_ ++ (bs ++ y ∷ []) ≡ [] → ⊥
      not_none [] [] h = not_nil y [] h
      not_none [] (b ∷ bs) h = not_nil b (bs ++ y ∷ []) h
      not_none (a ∷ as_) bs h = not_nil a (as_ ++ (bs ++ y ∷ [])) h

      further : named_in y (left_names n) ≡ false → Round y ys → Round z (y ∷ ys)
      further h (by_left u t c) = by_left u t c
      further h (by_clocks c) = by_clocks (free_edge z y (clock_alone z y f w.0) h, c)

      go : (b : Bool) → named_in y (left_names n) ≡ b → (named_in y (left_names n) ≡ false → Round y ys) → Round z (y ∷ ys)
      go true h r = by_left y h (cut (ys ++ (ps ++ y ∷ [])) back end (not_none ys ps))
      go false h r = further h (r h)

  left_fault : (w : Name) → named_in w (left_names n) ≡ true → LeadsTo edges (w ∷ []) (w ∷ []) → (r : Refused) × IsOwnCircle n g r
  left_fault w h l =
      let s : Side w (sides n) = side_of n w h in
      go s.side s.there s.named
    where
      go : (ss : List Spelled) → IsIn ss (sides n) → named_in w (map text_of ss) ≡ true → (r : Refused) × IsOwnCircle n g r
      go [] t e = absurd (false≢true e)
      go (v ∷ vs) t e = (
        fault cycle v.at,
        of_equation v vs (in_contains (v ∷ vs) (sides n) t) record {
          start = l.start;
          starts = subst (λ q. named_in q (map text_of (v ∷ vs)) ≡ true) (sym (one_named l.start w l.starts)) e;
          first = l.first;
          rest = l.rest;
          way = l.way;
          finishes = subst (λ q. named_in q (map text_of (v ∷ vs)) ≡ true) (sym (one_named (last_name l.first l.rest) w l.finishes)) e;
        } refl,
      )

  some_fault : (x : Name) → LeadsTo edges (x ∷ []) (x ∷ []) → (r : Refused) × IsOwnCircle n g r
  some_fault x l = go (named_in x (left_names n)) refl
    where
      way : IsOwnWay edges x (l.first ∷ l.rest)
      way = subst (λ q. IsOwnWay edges q (l.first ∷ l.rest)) (one_named l.start x l.starts) l.way

      end : last_name l.first l.rest ≡ x
      end = one_named (last_name l.first l.rest) x l.finishes

      free : named_in x (left_names n) ≡ false → Round x (l.first ∷ l.rest) → (r : Refused) × IsOwnCircle n g r
      free h (by_left w t c) = left_fault w t c
      free h (by_clocks c) =
          let d : Declared x l.first (variables n) = clock_alone x l.first h way.0 in (
            fault cycle d.variable.name.at,
            of_clocks d.variable (in_contains d.variable (variables n) d.there) (subst (λ q. LeadsTo (free_clock n) (q ∷ []) (q ∷ [])) d.named record {
              start = x;
              starts = itself x;
              first = l.first;
              rest = l.rest;
              way = c;
              finishes = l.finishes;
            }) refl,
          )

      go : (b : Bool) → named_in x (left_names n) ≡ b → (r : Refused) × IsOwnCircle n g r
      go true h = left_fault x h l
      go false h = free h (round x [] tt x refl h (l.first ∷ l.rest) way end)

pub names_in_circles : NamesInCircles
names_in_circles p typed n d g x l = some_fault n g (names_distinct p typed n d) x l
