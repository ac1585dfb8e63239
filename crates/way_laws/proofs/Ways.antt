-- Ways of needs between names of a declaration are ways along the edges of its own graph, and summaries by it are exact.
use Rattle.std.proofs.Common.{◌≡◌, ◌↔◌, ℕ, zero, suc, ◌<◌, ◌≤◌, true, List, [], ◌∷◌, ◌++◌, map, refl, sym, ap, subst, arith, Some, unwrap_or}
use Rattle.std.specs.Prelude.{Contains}
use Rattle.lus_tree.specs.Tree.{Name, Component, Program}
use Rattle.lus_meaning.specs.Scene.{Instance, component_of, contract_statements}
use Rattle.lus_meaning.specs.Program.{instance_of}
use Rattle.lus_meaning.specs.Depends.{Need, a_name, modes_need, known_needs, named_in}
use Rattle.lus_meaning.specs.Cycle.{Place, place_of, own_needs, next_places, IsAt, IsWay, last_place, Reaches}
use Rattle.lus_meaning.specs.Scope.{mode_names}
use Rattle.lus_meaning.specs.Rules.{names_of}
use Rattle.lus_meaning.specs.ClockFaults.{components}
use Rattle.lus_meaning.specs.EquationFaults.{last_name}
use Rattle.lus_meaning.specs.Grammatical.{IsGrammatical}
use Rattle.lus_meaning.specs.Refusals.{IsTyped}
use Rattle.lus_meaning.proofs.Members.{IsIn, in_mapped, at_some}
use Rattle.clock_laws.proofs.Reaching.{at_in, in_image, next_top}
use Rattle.rule_laws.proofs.Unfolded.{component_within}
use Rattle.way_laws.specs.OwnGraph.{Summary, Summaries, known_reads, mode_reads, own_edges, Edges, IsOwnWay, LeadsTo, Finds}
use Rattle.way_laws.specs.Modes.{ReadAsAsked}
use Rattle.way_laws.specs.Summaries.{HoldsOf, HasMode, IsSummary, Needs, IsExact, CalleesExact}
use Rattle.way_laws.specs.Laws.{WaysAreOwn, SummariesExact, ModesByAll}
use Rattle.way_laws.proofs.Steps.{top, Steps, joined, steps_of, way_of, Comes, needs_come, come_needs, Earlier, Fits, fits_none, fits_both, fits_name}
use Rattle.way_laws.proofs.Declarations.{modes_asked, mode_fits, edges_fit}

module _ (i : Instance) (edges : Edges) (fit : (x : Name) → Fits i (own_needs i x) (edges x)) where
  -- a way of at least one edge
  pub record Along (x y : Name) : Type 0 where
    pub first : Name
    pub rest : List Name
    pub way : IsOwnWay edges x (first ∷ rest)
    pub last : last_name first rest ≡ y

  same_name : (x y : Name) → top x ≡ top y → x ≡ y
  same_name x y e = ap (λ (q : Place). unwrap_or q.1 x) e

  along : (fuel n : ℕ) → n < fuel → (x y : Name) → Steps i (suc n) (top x) (top y) → Along x y
  along zero n l x y s = absurd (omega arith)
  along (suc fuel) n l x y s = go step.steps step.fewer step.way (along fuel)
    where
      need : (m : Need) × IsIn m (own_needs i x) × (s.0 ≡ place_of m)
      need = in_image place_of s.0 (own_needs i x) (subst (IsIn s.0) (next_top i x) s.1)

      step : Earlier i (edges x) n y
      step = (fit x).complete need.0 need.1 n y (subst (λ q. Steps i n q (top y)) need.2 s.2)

      go : (m : ℕ) → m ≤ n → Steps i m (top step.name) (top y) → ((n : ℕ) → n < fuel → (x y : Name) → Steps i (suc n) (top x) (top y) → Along x y)
          → Along x y
      go zero k t f = record { first = step.name; rest = []; way = (step.among, tt); last = same_name step.name y t }
      go (suc m) k t f =
          let r : Along step.name y = f m (omega arith) step.name y t in
          record { first = step.name; rest = r.first ∷ r.rest; way = (step.among, r.way); last = r.last }

  one_edge : (x y : Name) → named_in y (edges x) ≡ true → (n : ℕ) × Steps i (suc n) (top x) (top y)
  one_edge x y e =
      let c : Comes i (own_needs i x) y = (fit x).sound y e in
      (c.steps, (place_of c.start, subst (IsIn (place_of c.start)) (sym (next_top i x)) (in_mapped place_of c.start (own_needs i x) c.starts), c.way))

  some_steps : (x : Name) (ys : List Name) → IsOwnWay edges x ys → (n : ℕ) × Steps i n (top x) (top (last_name x ys))
  some_steps x [] w = (0, refl)
  some_steps x (y ∷ ys) w =
      let a : (n : ℕ) × Steps i (suc n) (top x) (top y) = one_edge x y w.0 in
      let b : (n : ℕ) × Steps i n (top y) (top (last_name y ys)) = some_steps y ys w.1 in
      joined i (suc a.0) b.0 (top x) (top y) (top (last_name y ys)) a.1 b.1

  more_steps : (x y : Name) (ys : List Name) → IsOwnWay edges x (y ∷ ys) → (n : ℕ) × Steps i (suc n) (top x) (top (last_name y ys))
  more_steps x y ys w =
      let a : (n : ℕ) × Steps i (suc n) (top x) (top y) = one_edge x y w.0 in
      let b : (n : ℕ) × Steps i n (top y) (top (last_name y ys)) = some_steps y ys w.1 in
      let c : (n : ℕ) × Steps i n a.1.0 (top (last_name y ys)) = joined i a.0 b.0 a.1.0 (top y) (top (last_name y ys)) a.1.2 b.1 in
      (c.0, (a.1.0, a.1.1, c.1))

  -- ---- ways between names

  leads : (xs ys : List Name) → Reaches i xs ys → LeadsTo edges xs ys
  leads xs ys r =
      let s : (n : ℕ) × Steps i n r.first.1 (last_place r.first.1 r.rest) = steps_of i r.first.1 r.rest r.way.1 in
      let a : Along r.start r.finish = along (suc s.0) s.0 (omega arith) r.start r.finish
      (r.first.1, at_in r.first.0 r.first.1 (next_places i [] (Some r.start)) r.way.0, subst (Steps i s.0 r.first.1) r.last s.1) in
      record {
        start = r.start;
        starts = r.starts;
        first = a.first;
        rest = a.rest;
        way = a.way;
        finishes = subst (λ z. named_in z ys ≡ true) (sym a.last) r.finishes;
      }

  reaches : (xs ys : List Name) → LeadsTo edges xs ys → Reaches i xs ys
  reaches xs ys l =
      let s : (n : ℕ) × Steps i (suc n) (top l.start) (top (last_name l.first l.rest)) = more_steps l.start l.first l.rest l.way in
      go s.0 s.1
    where
      go : (n : ℕ) → Steps i (suc n) (top l.start) (top (last_name l.first l.rest)) → Reaches i xs ys
      go n s =
          let w : (v : List (ℕ × Place)) × IsWay i s.0 v × (last_place s.0 v ≡ top (last_name l.first l.rest)) = way_of i n s.0
          (top (last_name l.first l.rest)) s.2 in
          let k : (k : ℕ) × IsAt k s.0 (next_places i [] (Some l.start)) = at_some s.0 (next_places i [] (Some l.start)) s.1 in
          record {
            start = l.start;
            starts = l.starts;
            first = (k.0, s.0);
            rest = w.0;
            way = (k.1, w.1);
            finish = last_name l.first l.rest;
            finishes = l.finishes;
            last = w.2;
          }

  pub ways_same : (xs ys : List Name) → Reaches i xs ys ↔ LeadsTo edges xs ys
  ways_same xs ys = (leads xs ys, reaches xs ys)

  -- ---- from lists that stand for each other

  pub found_same : (ns : List Need) (zs : List Name) → Fits i ns zs → (y : Name) → Finds edges zs y ↔ Needs i ns y
  found_same ns zs f y = (to, back)
    where
      to : Finds edges zs y → Needs i ns y
      to w =
          let c : Comes i ns w.start = f.sound w.start w.starts in
          let s : (n : ℕ) × Steps i n (top w.start) (top (last_name w.start w.rest)) = some_steps w.start w.rest w.way in
          let t : (n : ℕ) × Steps i n (place_of c.start) (top (last_name w.start w.rest)) = joined i c.steps s.0 (place_of c.start) (top w.start)
          (top (last_name w.start w.rest)) c.way s.1 in
          come_needs i ns y record {
            start = c.start;
            starts = c.starts;
            steps = t.0;
            way = subst (λ z. Steps i t.0 (place_of c.start) (top z)) w.last t.1;
          }

      back : Needs i ns y → Finds edges zs y
      back w = go e.steps e.way
        where
          c : Comes i ns y
          c = needs_come i ns y w

          e : Earlier i zs c.steps y
          e = f.complete c.start c.starts c.steps y c.way

          go : (m : ℕ) → Steps i m (top e.name) (top y) → Finds edges zs y
          go zero s = record { start = e.name; starts = e.among; rest = []; way = tt; last = same_name e.name y s }
          go (suc m) s =
              let a : Along e.name y = along (suc m) m (omega arith) e.name y s in
              record { start = e.name; starts = e.among; rest = a.first ∷ a.rest; way = a.way; last = a.last }

names_fit : (i : Instance) (xs : List Name) → Fits i (map (a_name []) xs) xs
names_fit i [] = fits_none i
names_fit i (x ∷ xs) = fits_both i (a_name [] x ∷ []) (map (a_name []) xs) (x ∷ []) xs (fits_name i x) (names_fit i xs)

holds_same : (given ys : List Name) (P Q : Name → Type 0) → ((y : Name) → P y ↔ Q y) → HoldsOf given ys P → HoldsOf given ys Q
holds_same given ys P Q f h y e = ((λ t. (f y).0 ((h y e).0 t)), (λ q. (h y e).1 ((f y).1 q)))

module _ (p : Program) (grammatical : IsGrammatical p) (typed : IsTyped p) (i : Instance) (same : i ≡ instance_of p (component_of i))
    (d : Contains (components p) (component_of i)) (g : Summaries) (exact : CalleesExact p (component_of i) g) where
  abbrev here : Component
  here = component_of i

  pub own_ways : (xs ys : List Name) → Reaches i xs ys ↔ LeadsTo (own_edges here g) xs ys
  own_ways = ways_same i (own_edges here g) (edges_fit p grammatical typed i same d g exact)

  pub exact_summary : (s : Summary) → IsSummary here g s → IsExact i s
  exact_summary s h = record {
    inputs = h.inputs;
    outputs = h.outputs;
    reads = holds_same s.inputs s.reads _ _ (found (map (a_name []) (names_of here.outputs)) (names_of here.outputs) (names_fit i (names_of here.outputs)))
        h.reads;
    modes = λ m e. of_mode m e (h.modes m e);
  }
    where
      found : (ns : List Need) (zs : List Name) → Fits i ns zs → (y : Name) → Finds (own_edges here g) zs y ↔ Needs i ns y
      found = found_same i (own_edges here g) (edges_fit p grammatical typed i same d g exact)

      of_mode : (m : Name) → named_in m (mode_names (contract_statements here)) ≡ true
          → HasMode s m (Finds (own_edges here g) (known_reads (mode_reads here g) ([], m))) → HasMode s m (Needs i (known_needs (modes_need i) ([], m)))
      of_mode m e r = record {
        list = r.list;
        found = r.found;
        holds = holds_same (s.inputs ++ s.outputs) r.list _ _ (found (known_needs (modes_need i) ([], m)) (known_reads (mode_reads here g) ([], m))
            (mode_fits p grammatical typed i same d g exact m e)) r.holds;
      }

at_instance : (P : Instance → Component → Type 0) (p : Program) (n : Component)
    → ((i : Instance) → i ≡ instance_of p (component_of i) → component_of i ≡ n → P i (component_of i)) → P (instance_of p n) n
at_instance P p n f =
    let e : component_of (instance_of p n) ≡ n = component_within _ p n in
    subst (P (instance_of p n)) e (f (instance_of p n) (ap (instance_of p) (sym e)) e)

pub ways_are_own : WaysAreOwn
ways_are_own p grammatical typed n d g exact = at_instance (λ i m. (xs ys : List Name) → Reaches i xs ys ↔ LeadsTo (own_edges m g) xs ys) p n
    (λ i same e. own_ways p grammatical typed i same (subst (Contains (components p)) (sym e) d) g (subst (λ m. CalleesExact p m g) (sym e) exact))

pub summaries_exact : SummariesExact
summaries_exact p grammatical typed n d g exact = at_instance (λ i m. (s : Summary) → IsSummary m g s → IsExact i s) p n
    (λ i same e. exact_summary p grammatical typed i same (subst (Contains (components p)) (sym e) d) g (subst (λ m. CalleesExact p m g) (sym e) exact))

pub modes_by_all : ModesByAll
modes_by_all p grammatical typed n d g exact = at_instance (λ i m. ReadAsAsked m g (mode_reads m g) [] [] (contract_statements m)) p n
    (λ i same e. modes_asked p grammatical typed i same (subst (Contains (components p)) (sym e) d) g (subst (λ m. CalleesExact p m g) (sym e) exact))
