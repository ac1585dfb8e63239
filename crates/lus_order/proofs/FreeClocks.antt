-- The streams that are marked in the graph of free clocks are those whose clocks go in a circle.
use Rattle.std.proofs.Common.{◌≡◌, ◌↔◌, ℕ, zero, suc, ◌<◌, ◌≤◌, Bool, true, false, cond, not, ◌||◌, List, [], ◌∷◌, ◌++◌, map, flat_map, length, get_or, refl, sym, ap, ◌∙◌, subst, arith, None}
use Rattle.std.specs.Prelude.{Contains}
use Rattle.std.specs.Str.{bytes_eq}
use Rattle.std.proofs.Math.Logic.{◌⊎◌, inl, inr}
use Rattle.std.proofs.lemmas.Bool.{false≢true}
use Rattle.std.proofs.lemmas.List.{get_or-map, length-map}
use Rattle.lus_tree.specs.Tree.{Name, Variable, Component}
use Rattle.lus_tree.specs.Reason.{Refused, cycle}
use Rattle.lus_meaning.specs.Depends.{named_in, left_names}
use Rattle.lus_meaning.specs.EquationFaults.{clock_names, last_name}
use Rattle.lus_meaning.specs.Faults.{fault, if_so}
use Rattle.lus_meaning.specs.Order.{is_listed}
use Rattle.lus_meaning.specs.Run.{Equation, equations}
use Rattle.lus_meaning.specs.Scene.{clock_of, variables}
use Rattle.lus_meaning.specs.WellMade.{AreDistinct}
use Rattle.lus_meaning.proofs.Unique.{same_bytes}
use Rattle.name_table.specs.Names.{add, number_of}
use Rattle.name_table.proofs.Names.{itself, in_joined}
use Rattle.name_table.proofs.Numbers.{in_list, number_at}
use Rattle.rule_laws.proofs.Numbered.{At}
use Rattle.way_laws.specs.Circles.{free_clock}
use Rattle.way_laws.specs.OwnGraph.{Edges, Finds, LeadsTo as NamesLead}
use Rattle.lus_order.specs.declared.setting.Clocks.{Clocks}
use Rattle.lus_order.specs.ClockCircles.{free_of, free_rows, marked_faults, IsClockCircle, MarkedAreCircles}
use Rattle.number_graphs.specs.Graphs.{Rows, row_at, leads, LeadsTo, AreOnCircles, is_marked}
use Rattle.lus_order.specs.Numbered.{name_at, IsNumbered}
use Rattle.lus_order.specs.OwnRows.{numbers_of}
use Rattle.lus_order.specs.Reads.{clock_seen}
use Rattle.lus_order.specs.Stands.{Stands}
use Rattle.lus_order.specs.Streams.{AreTabled, names_of, with_all, with_sides}
use Rattle.lus_order.proofs.Added.{added_is}
use Rattle.lus_order.proofs.Declared.{tabled_clocks, tabled_length}
use Rattle.lus_order.proofs.Numbered.{ways_numbered}
use Rattle.number_graphs.proofs.Paths.{one_step}
use Rattle.number_graphs.proofs.Searches.{or_cases}
use Rattle.lus_order.proofs.SiteCallees.{at_contains}
use Rattle.lus_order.proofs.Stands.{names_stand, or_left}

-- ---- left names

or_none : (a : Bool) → a ≡ (a || false)
or_none true = refl
or_none false = refl

or_joined : (a b c : Bool) → ((a || b) || c) ≡ (a || (b || c))
or_joined true b c = refl
or_joined false b c = refl

in_all : (y : Name) (ks xs : List Name) → named_in y (with_all ks xs) ≡ (named_in y ks || named_in y xs)
in_all y ks [] = or_none (named_in y ks)
in_all y ks (x ∷ xs) =
    in_all y (add ks x) xs
    ∙ ap (λ b. b || named_in y xs) (added_is ks x y ∙ in_joined y ks (x ∷ []) ∙ ap (λ b. named_in y ks || b) (sym (or_none (bytes_eq y x))))
    ∙ or_joined (named_in y ks) (bytes_eq y x) (named_in y xs)

in_sides : (y : Name) (ks : List Name) (es : List Equation) → named_in y (with_sides ks es) ≡ (named_in y ks || named_in y (flat_map (λ e. e.names) es))
in_sides y ks [] = or_none (named_in y ks)
in_sides y ks (e ∷ es) =
    in_sides y (with_all ks e.names) es
    ∙ ap (λ b. b || named_in y (flat_map (λ (z : Equation). z.names) es)) (in_all y ks e.names)
    ∙ or_joined (named_in y ks) (named_in y e.names) (named_in y (flat_map (λ (z : Equation). z.names) es))
    ∙ ap (λ b. named_in y ks || b) (sym (in_joined y e.names (flat_map (λ (z : Equation). z.names) es)))

free_alike : (ks ls : List Name) → ((y : Name) → named_in y ks ≡ named_in y ls) → (xs : List Name) → free_of ks xs ≡ free_of ls xs
free_alike ks ls a [] = refl
free_alike ks ls a (x ∷ xs) = ap (λ b. cond (not b) (x ∷ free_of ks xs) (free_of ks xs)) (a x)
    ∙ ap (λ z. cond (not (named_in x ls)) (x ∷ z) z) (free_alike ks ls a xs)

-- ---- marked faults

named_at : (vs : List Variable) (others : List Name) (k : ℕ) (v : Variable) → At vs k v
    → (k < length (names_of vs ++ others)) × (get_or (names_of vs ++ others) k [] ≡ v.name.text)
named_at [] others k v a = absurd a
named_at (w ∷ vs) others zero v a = (omega arith, ap (λ (z : Variable). z.name.text) a)
named_at (w ∷ vs) others (suc k) v a =
    let r : (k < length (names_of vs ++ others)) × (get_or (names_of vs ++ others) k [] ≡ v.name.text) = named_at vs others k v a in
    let l : k < length (names_of vs ++ others) = r.0 in
    (omega arith, r.1)

contains_at : (vs : List Variable) (v : Variable) → Contains vs v → (k : ℕ) × At vs k v
contains_at [] v (k, l, e) = absurd (omega arith)
contains_at (w ∷ vs) v (zero, l, e) = (0, e)
contains_at (w ∷ vs) v (suc k, l, e) = let r : (j : ℕ) × At vs j v = contains_at vs v (k, omega arith, e) in (suc r.0, r.1)

-- a stream that is marked
record IsMarked (vs : List Variable) (marks : List Bool) (r : Refused) : Type 0 where
  place : ℕ
  stream : Variable
  stands : At vs place stream
  marked : is_marked marks place ≡ true
  is : r ≡ fault cycle stream.name.at

marked_is : (vs : List Variable) (marks : List Bool) (r : Refused) → Contains (marked_faults vs marks) r → IsMarked vs marks r
marked_is [] marks r (k, l, e) = absurd (omega arith)
marked_is (v ∷ vs) [] r (k, l, e) = absurd (omega arith)
marked_is (v ∷ vs) (b ∷ bs) r c = go b c (marked_is vs bs r)
  where
    later : (a : Bool) → IsMarked vs bs r → IsMarked (v ∷ vs) (a ∷ bs) r
    later a m = record { place = suc m.place; stream = m.stream; stands = m.stands; marked = m.marked; is = m.is }

    go : (a : Bool) → Contains (if_so a cycle v.name.at ++ marked_faults vs bs) r → (Contains (marked_faults vs bs) r → IsMarked vs bs r)
        → IsMarked (v ∷ vs) (a ∷ bs) r
    go true (zero, l, e) f = record { place = 0; stream = v; stands = refl; marked = refl; is = sym e }
    go true (suc k, l, e) f = later true (f (k, omega arith, e))
    go false d f = later false (f d)

is_marked_there : (vs : List Variable) (marks : List Bool) (r : Refused) (k : ℕ) (v : Variable) → At vs k v → is_marked marks k ≡ true
    → r ≡ fault cycle v.name.at → Contains (marked_faults vs marks) r
is_marked_there [] marks r k v a m e = absurd a
is_marked_there (w ∷ vs) [] r k v a m e = absurd (false≢true m)
is_marked_there (w ∷ vs) (b ∷ bs) r zero v a m e =
    subst (λ c. Contains (if_so c cycle w.name.at ++ marked_faults vs bs) r) (sym m)
    (0, omega arith, ap (λ (z : Variable). fault cycle z.name.at) a ∙ sym e)
is_marked_there (w ∷ vs) (b ∷ bs) r (suc k) v a m e = go b (is_marked_there vs bs r k v a m e)
  where
    go : (c : Bool) → Contains (marked_faults vs bs) r → Contains (if_so c cycle w.name.at ++ marked_faults vs bs) r
    go true (j, l, h) = (suc j, omega arith, h)
    go false d = d

-- ---- ways

lead_found : (e : Edges) (x y : Name) → Finds e (e x) y → NamesLead e (x ∷ []) (y ∷ [])
lead_found e x y f = record {
  start = x;
  starts = or_left _ _ (itself x);
  first = f.start;
  rest = f.rest;
  way = (f.starts, f.way);
  finishes = subst (λ z. named_in z (y ∷ []) ≡ true) (sym f.last) (or_left _ _ (itself y));
}

alone : (x y : Name) → named_in x (y ∷ []) ≡ true → x ≡ y
alone x y e = go (or_cases (bytes_eq x y) false e)
  where
    go : (bytes_eq x y ≡ true) ⊎ (false ≡ true) → x ≡ y
    go (inl h) = same_bytes x y h
    go (inr h) = absurd (false≢true h)

found_lead : (e : Edges) (x y : Name) → NamesLead e (x ∷ []) (y ∷ []) → Finds e (e x) y
found_lead e x y l = record {
  start = l.first;
  starts = subst (λ z. named_in l.first (e z) ≡ true) (alone l.start x l.starts) l.way.0;
  rest = l.rest;
  way = l.way.1;
  last = alone (last_name l.first l.rest) y l.finishes;
}

-- ---- the graph

module _ (n : Component) (s : Clocks) (tabled : AreTabled (variables n) s) (d : AreDistinct s.names) where
  abbrev lefts : List Name
  lefts = with_sides [] (equations n)

  abbrev rows : Rows
  rows = free_rows s lefts

  abbrev list : ℕ → List Name
  list i = free_clock n (name_at s.names i)

  free_same : (xs : List Name) → free_of lefts xs ≡ free_of (left_names n) xs
  free_same = free_alike lefts (left_names n) (λ y. in_sides y [] (equations n))

  clocks_many : length (map clock_seen s.clocks.items) ≡ length s.names
  clocks_many = tabled_length (variables n) s tabled

  rows_many : length rows ≡ length s.names
  rows_many = length-map (map clock_seen s.clocks.items) (λ xs. numbers_of s.names (free_of lefts xs)) ∙ clocks_many

  clock_is : (v : ℕ) → v < length s.names → get_or (map clock_seen s.clocks.items) v [] ≡ clock_names (clock_of n (name_at s.names v))
  clock_is v l =
      let m : length s.clocks.items ≡ length s.names = sym (length-map s.clocks.items clock_seen) ∙ clocks_many in
      let x : Name = name_at s.names v in
      get_or-map clock_seen s.clocks.items v None [] (omega arith)
      ∙ sym (ap (λ b. cond b (clock_seen (get_or s.clocks.items (number_of s.names x) None)) []) (in_list s.names v l)
      ∙ ap (λ k. clock_seen (get_or s.clocks.items k None)) (number_at s.names d v l))
      ∙ tabled_clocks n s tabled x

  row_is : (v : ℕ) → v < length s.names → row_at rows v ≡ numbers_of s.names (list v)
  row_is v l =
      let m : length (map clock_seen s.clocks.items) ≡ length s.names = clocks_many in
      get_or-map (λ xs. numbers_of s.names (free_of lefts xs)) (map clock_seen s.clocks.items) v [] [] (omega arith)
      ∙ ap (λ xs. numbers_of s.names (free_of lefts xs)) (clock_is v l)
      ∙ ap (numbers_of s.names) (free_same (clock_names (clock_of n (name_at s.names v))))

  listed_stand : (v : ℕ) → Stands s.names (numbers_of s.names (list v)) (list v)
  listed_stand v = names_stand s.names d (list v)

  no_clock : (x : Name) → named_in x s.names ≡ false → (y : Name) → named_in y (free_clock n x) ≡ false
  no_clock x e y = ap (λ zs. named_in y (free_of (left_names n) zs)) (sym (tabled_clocks n s tabled x)
      ∙ ap (λ b. cond b (clock_seen (get_or s.clocks.items (number_of s.names x) None)) []) e)

  numbered : IsNumbered (free_clock n) s.names list rows
  numbered = record {
    within = let m : length rows ≡ length s.names = rows_many in omega arith;
    own = λ i l y. refl;
    outside = no_clock;
    to_name = to_name;
    to_other = to_other;
    found = found;
  }
    where
      inside : (v : ℕ) → v < length rows → v < length s.names
      inside v l = let m : length rows ≡ length s.names = rows_many in omega arith

      to_name : (v w : ℕ) → v < length rows → w < length s.names → leads rows v w ≡ true → named_in (name_at s.names w) (list v) ≡ true
      to_name v w l h e = (listed_stand v).listed w (subst (λ r. is_listed r w ≡ true) (row_is v (inside v l)) e)

      to_other : (v w : ℕ) → v < length rows → length s.names ≤ w → w < length rows → leads rows v w ≡ true
          → (y : Name) → named_in y (list w) ≡ true → named_in y (list v) ≡ true
      to_other v w l h b e y i = let m : length rows ≡ length s.names = rows_many in absurd (omega arith)

      found : (v j : ℕ) → v < length rows → j < length s.names → named_in (name_at s.names j) (list v) ≡ true → LeadsTo rows v j
      found v j l h e = one_step rows v j (subst (λ r. is_listed r j ≡ true) (sym (row_is v (inside v l))) ((listed_stand v).whole j h e))

  circle_is : (k : ℕ) → k < length s.names
      → LeadsTo rows k k ↔ NamesLead (free_clock n) (name_at s.names k ∷ []) (name_at s.names k ∷ [])
  circle_is k l =
      let m : length rows ≡ length s.names = rows_many in
      let x : Name = name_at s.names k in
      let w : LeadsTo rows k k ↔ Finds (free_clock n) (list k) x = ways_numbered (free_clock n) s.names list rows numbered k k (omega arith) l in
      (λ p. lead_found (free_clock n) x x (w.0 p), λ q. w.1 (found_lead (free_clock n) x x q))

  module _ (marks : List Bool) (on : AreOnCircles rows marks) (r : Refused) where
    at_name : (k : ℕ) (v : Variable) → At (variables n) k v → (k < length s.names) × (name_at s.names k ≡ v.name.text)
    at_name k v a = subst (λ xs. (k < length xs) × (get_or xs k [] ≡ v.name.text)) (sym tabled.names) (named_at (variables n) tabled.others k v a)

    to_circle : IsMarked (variables n) marks r → IsClockCircle n r
    to_circle m =
        let a : (m.place < length s.names) × (name_at s.names m.place ≡ m.stream.name.text) = at_name m.place m.stream m.stands in
        record {
          stream = m.stream;
          declared = at_contains (variables n) m.place m.stream m.stands;
          circle = subst (λ x. NamesLead (free_clock n) (x ∷ []) (x ∷ [])) a.1 ((circle_is m.place a.0).0 (on.led m.place m.marked));
          is = m.is;
        }

    from_circle : IsClockCircle n r → Contains (marked_faults (variables n) marks) r
    from_circle c = go (contains_at (variables n) c.stream c.declared)
      where
        go : (k : ℕ) × At (variables n) k c.stream → Contains (marked_faults (variables n) marks) r
        go (k, a) =
            let i : (k < length s.names) × (name_at s.names k ≡ c.stream.name.text) = at_name k c.stream a in
            let m : length rows ≡ length s.names = rows_many in
            let l : k < length s.names = i.0 in
            is_marked_there (variables n) marks r k c.stream a
            (on.all k (omega arith) ((circle_is k l).1 (subst (λ x. NamesLead (free_clock n) (x ∷ []) (x ∷ [])) (sym i.1) c.circle))) c.is

pub marked_circles : MarkedAreCircles
marked_circles n s marks tabled d on r = (λ c. to_circle n s tabled d marks on r (marked_is (variables n) marks r c), from_circle n s tabled d marks on r)
