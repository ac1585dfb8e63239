-- The places of a frame and of those of its calls are those of its slots.
use Rattle.std.proofs.Common.{◌≡◌, ℕ, zero, suc, ◌+◌, ◌≤◌, ◌<◌, ◌-◌, List, [], ◌∷◌, ◌++◌, map, flat_map, length, append_assoc, refl, sym, ap, ◌∙◌, arith, Option, Some, None}
use Rattle.std.specs.Prelude.{Contains, is_none, not, slice_get, slice_index_or, min, drop, Result, Ok, Err, IfOk, OnOk, Vec}
use Rattle.std.specs.declared.alloc.Global.{Global}
use Rattle.std.specs.Option.{option_map_or}
use Rattle.std.proofs.lemmas.List.{drop_all}
use Rattle.lus_tree.specs.declared.place.Param.{Param}
use Rattle.lus_tree.specs.View.{param_view}
use Rattle.path_traces.specs.declared.places.Place.{Place}
use Rattle.lus_tree.specs.Numbers.{arrow_number, pre_number, all_numbers}
use Rattle.lus_tree.specs.Tree.{Name, Variable, Expression, ContractStatement, Component, Program}
use Rattle.lus_meaning.specs.ClockFaults.{components}
use Rattle.lus_meaning.specs.Occurrences.{Memory, Start, memories, starts}
use Rattle.lus_meaning.specs.Program.{all_sites, constants_in, in_order, instances_with, instance_of, instance_within}
use Rattle.lus_meaning.specs.Refusals.{IsChecked}
use Rattle.lus_meaning.specs.Scene.{Manner, plain, while_true, as_import, Site, Instance, Instances, instance, no_instances, component_of, variables}
use Rattle.lus_meaning.specs.Slots.{Cell, name_cell, memory_cell, start_cell, contract_cells, own_cells, held_each, held_cells, Slot, slot, slots_in, call_slots, slots}
use Rattle.lus_meaning.proofs.Lists.{append_none, map_append}
use Rattle.rule_laws.proofs.Unfolded.{component_within}
use Rattle.path_laws.proofs.Numbers.{CountedFrom}
use Rattle.lus_limits.specs.declared.calls.Way.{Way}
use Rattle.lus_limits.specs.declared.calls.Way.TheVariants.{Plain}
use Rattle.lus_limits.specs.Calls.{Called, called_of, way_of}
use Rattle.lus_limits.specs.Instances.{callee}
use Rattle.lus_limits.specs.Summaries.{sofar_count}
use Rattle.path_traces.specs.Places.{Places, place_seen, name_place, first_places, no_places, own_places, output_places, held_places, call_places, named_places, places_within}
use Rattle.path_traces.specs.Plans.{Plan, plan_of}
use Rattle.path_traces.specs.Printed.{printed, printed_slot}
use Rattle.path_traces.proofs.Walks.{IsCounted, counted_at, counted_so, planned}

-- ---- cells

cells_printed : (i : Instance) (path : List ℕ) (cs : List Cell) → map printed_slot (map (slot i path) cs) ≡ map (printed path) cs
cells_printed i path [] = refl
cells_printed i path (c ∷ cs) = ap (λ l. printed path c ∷ l) (cells_printed i path cs)

names_printed : (path : List ℕ) (vs : List Variable) → map (printed path) (map name_cell vs) ≡ map (name_place path) vs
names_printed path [] = refl
names_printed path (v ∷ vs) = ap (λ l. name_place path v ∷ l) (names_printed path vs)

firsts_printed : (path : List ℕ) (k : ℕ) (ms : List Memory) → CountedFrom (λ (m : Memory). m.number) k ms
    → map (printed path) (map memory_cell ms) ≡ first_places path k (length ms)
firsts_printed path k [] a = refl
firsts_printed path k (m ∷ ms) a = rw (a.0, firsts_printed path (suc k) ms a.1) refl

starts_printed : (path : List ℕ) (ss : List Start) → map (printed path) (map start_cell ss) ≡ no_places (length ss)
starts_printed path [] = refl
starts_printed path (s ∷ ss) = ap (λ l. None ∷ l) (starts_printed path ss)

contract_printed : (path : List ℕ) (m : Manner) (o : Option (List ContractStatement))
    → map (printed path) (contract_cells m o) ≡ no_places (sofar_count (way_of m) (not (is_none o)))
contract_printed path plain None = refl
contract_printed path (while_true a) None = refl
contract_printed path (as_import xs) None = refl
contract_printed path plain (Some cs) = refl
contract_printed path (while_true a) (Some cs) = refl
contract_printed path (as_import xs) (Some cs) = refl

none_more : (a b : ℕ) → no_places (a + b) ≡ no_places a ++ no_places b
none_more zero b = let e : 0 + b ≡ b = omega arith in ap no_places e
none_more (suc a) b = let e : suc a + b ≡ suc (a + b) = omega arith in ap no_places e ∙ ap (λ l. None ∷ l) (none_more a b)

own_so : (i : Instance) (path : List ℕ) (m : Manner) (d : Component) → IsCounted d
    → own_places (way_of m) path (plan_of d) ≡ map printed_slot (map (slot i path) (own_cells m d))
own_so i path m d g =
    let P : List Cell → Places = map (printed path) in
    let ms : List Memory = in_order (λ p. p.number) (memories d) in
    let ss : List Start = in_order (λ p. p.number) (starts d) in
    let vs : List Cell = map name_cell (variables d) in
    let more : List Cell = map memory_cell ms ++ (map start_cell ss ++ contract_cells m d.contract) in
    let a : P (vs ++ more) ≡ P vs ++ P more = map_append (printed path) vs more in
    let b : P more ≡ P (map memory_cell ms) ++ P (map start_cell ss ++ contract_cells m d.contract) =
    map_append (printed path) (map memory_cell ms) (map start_cell ss ++ contract_cells m d.contract) in
    let e : P (map start_cell ss ++ contract_cells m d.contract) ≡ P (map start_cell ss) ++ P (contract_cells m d.contract) =
    map_append (printed path) (map start_cell ss) (contract_cells m d.contract) in
    let f : P (map memory_cell ms) ≡ first_places path 1 (length (all_numbers pre_number d)) =
    firsts_printed path 1 ms g.counted ∙ ap (first_places path 1) g.kept in
    let h : P (map start_cell ss) ≡ no_places (length (all_numbers arrow_number d)) = starts_printed path ss ∙ ap no_places g.started in
    let k : P (contract_cells m d.contract) ≡ no_places (sofar_count (way_of m) (not (is_none d.contract))) = contract_printed path m d.contract in
    let q : P (vs ++ more) ≡ map (name_place path) (variables d) ++ (first_places path 1 (length (all_numbers pre_number d))
    ++ no_places (length (all_numbers arrow_number d) + sofar_count (way_of m) (not (is_none d.contract)))) =
    joined a b e (names_printed path (variables d)) f h k
    (none_more (length (all_numbers arrow_number d)) (sofar_count (way_of m) (not (is_none d.contract)))) in
    sym (cells_printed i path (own_cells m d) ∙ ap (λ l. None ∷ l) q)
  where
    joined : {all ns rest fs os st ct ns' fs' st' ct' os' : Places} → all ≡ ns ++ rest → rest ≡ fs ++ os → os ≡ st ++ ct → ns ≡ ns' → fs ≡ fs'
        → st ≡ st' → ct ≡ ct' → os' ≡ st' ++ ct' → all ≡ ns' ++ (fs' ++ os')
    joined a b c d e f g h = rw (a, b, c, d, e, f, g, h) refl

-- ---- calls

outputs_printed : (s : Site) (path : List ℕ) (vs : List Variable) (ds : List Expression)
    → map (printed path) (held_each s vs ds) ≡ output_places (path ++ s.number ∷ []) vs (length ds)
outputs_printed s path [] ds = refl
outputs_printed s path (v ∷ vs) [] = refl
outputs_printed s path (v ∷ vs) (d ∷ ds) = ap (λ l. name_place (path ++ s.number ∷ []) v ∷ l) (outputs_printed s path vs ds)

held_printed : (s : Site) (path : List ℕ) (d : Component) (m : Manner)
    → map (printed path) (held_cells s d m) ≡ held_places (way_of m) (path ++ s.number ∷ []) d.outputs (length s.defaults)
held_printed s path d (while_true a) = outputs_printed s path d.outputs s.defaults
held_printed s path d plain = refl
held_printed s path d (as_import xs) = refl

module _ (p : Program) (c : IsChecked p) where
  abbrev ps : List Plan
  ps = map plan_of (components p)

  abbrev below : ℕ → Name → Instance
  below f x = instance_within f p (callee p x)

  abbrev ArePlacesOf : ℕ → Type 0
  ArePlacesOf f = (d : Component) → IsCounted d → (m : Manner) (path : List ℕ)
      → places_within f ps (way_of m) path (plan_of d) ≡ map printed_slot (slots_in m path (instance_within f p d))

  calls_so : (f : ℕ) → ArePlacesOf f → (i : Instance) (path : List ℕ) (ss : List Site)
      → flat_map (named_places (places_within f ps) ps path) (map called_of ss) ≡ map printed_slot (call_slots i path (instances_with (below f) ss))
  calls_so f so i path [] = refl
  calls_so f so i path (s ∷ ss) =
      let held : List Slot = map (slot i path) (held_cells s (component_of (below f s.callee)) s.manner) in
      let frame : List Slot = slots_in s.manner (path ++ s.number ∷ []) (below f s.callee) in
      let rest : List Slot = call_slots i path (instances_with (below f) ss) in
      let a : map printed_slot (held ++ (frame ++ rest)) ≡ map printed_slot held ++ map printed_slot (frame ++ rest) =
      map_append printed_slot held (frame ++ rest) in
      let b : map printed_slot (frame ++ rest) ≡ map printed_slot frame ++ map printed_slot rest = map_append printed_slot frame rest in
      let h : map printed_slot held ≡ held_places (way_of s.manner) (path ++ s.number ∷ []) (callee p s.callee).outputs (length s.defaults) =
      cells_printed i path (held_cells s (component_of (below f s.callee)) s.manner)
      ∙ ap (λ d. map (printed path) (held_cells s d s.manner)) (component_within f p (callee p s.callee))
      ∙ held_printed s path (callee p s.callee) s.manner in
      let k : places_within f ps (way_of s.manner) (path ++ s.number ∷ []) (plan_of (callee p s.callee)) ≡ map printed_slot frame =
      so (callee p s.callee) (counted_so p c s.callee) s.manner (path ++ s.number ∷ []) in
      ap (λ q. call_places (places_within f ps) path (called_of s) q ++ flat_map (named_places (places_within f ps) ps path) (map called_of ss))
      (planned p s.callee) ∙ sym (joined a b h (sym k) (sym (calls_so f so i path ss)))
    where
      joined : {all h fr f r h' f' r' : Places} → all ≡ h ++ fr → fr ≡ f ++ r → h ≡ h' → f ≡ f' → r ≡ r' → all ≡ (h' ++ f') ++ r'
      joined {h' = h'} {f' = f'} {r' = r'} a b c d e = rw (a, b, c, d, e) (sym (append_assoc h' f' r'))

  pub places_so : (f : ℕ) → ArePlacesOf f
  places_so zero d g m path =
      let this : Instance = instance d (constants_in p d) no_instances in
      own_so this path m d g ∙ sym (ap (map printed_slot) (append_none (map (slot this path) (own_cells m d))))
  places_so (suc f) d g m path =
      let is : Instances = instances_with (below f) (all_sites d) in
      let this : Instance = instance d (constants_in p d) is in
      ap (λ l. l ++ flat_map (named_places (places_within f ps) ps path) (map called_of (all_sites d))) (own_so this path m d g)
      ∙ ap (λ l. map printed_slot (map (slot this path) (own_cells m d)) ++ l) (calls_so f (places_so f) this path (all_sites d))
      ∙ sym (map_append printed_slot (map (slot this path) (own_cells m d)) (call_slots this path is))

  pub node_places : (d : Component) → Contains (components p) d
      → places_within (length p) ps (way_of plain) [] (plan_of d) ≡ map printed_slot (slots (instance_of p d))
  node_places d at = places_so (length p) d (counted_at p c d at) plain []

-- those of a declaration's system, from tables of the program
pub all_placed : {E : Type 0} (p : Program) → IsChecked p → (d : Component) → Contains (components p) d → (r : Result (Vec (Option Place) Global) E)
    (ps : List Plan) (q : Plan) (f : ℕ) → ps ≡ map plan_of (components p) → q ≡ plan_of d → f ≡ length p
    → IfOk r (λ v. map place_seen v.items ≡ places_within f ps Plain [] q)
    → IfOk r (λ v. map place_seen v.items ≡ map printed_slot (slots (instance_of p d)))
all_placed p c d at (Ok v) ps q f plans plan deep h =
    h ∙ ap (λ ps. places_within f ps Plain [] q) plans ∙ ap (λ q. places_within f (map plan_of (components p)) Plain [] q) plan
    ∙ ap (λ f. places_within f (map plan_of (components p)) Plain [] (plan_of d)) deep ∙ node_places p c d at
all_placed p c d at (Err e) ps q f plans plan deep h = tt

-- ---- loops

grown : (new places : List (Option Place)) (x : Option Place) (more rest all : Places) → new ≡ places ++ x ∷ [] → place_seen x ∷ [] ≡ more
    → map place_seen places ++ (more ++ rest) ≡ all → map place_seen new ++ rest ≡ all
grown new places x more rest all e f g =
    ap (λ l. map place_seen l ++ rest) e ∙ ap (λ l. l ++ rest) (map_append place_seen places (x ∷ []))
    ∙ append_assoc (map place_seen places) (place_seen x ∷ []) rest ∙ ap (λ l. map place_seen places ++ (l ++ rest)) f ∙ g

pub firsts_next : (new places : List (Option Place)) (x : Option Place) (all : Places) (path : List ℕ) (i j n : ℕ) → j ≡ suc i → i < n
    → new ≡ places ++ x ∷ [] → place_seen x ∷ [] ≡ first_places path j 1
    → map place_seen places ++ first_places path (suc i) (n - i) ≡ all → map place_seen new ++ first_places path (suc j) (n - j) ≡ all
firsts_next new places x all path i j n q lt e f g =
    let m : n - i ≡ suc (n - j) = omega arith in
    let s : first_places path (suc i) (n - i) ≡ first_places path j 1 ++ first_places path (suc j) (n - j) =
    ap (λ z. first_places path z (n - i)) (sym q) ∙ ap (first_places path j) m in
    grown new places x (first_places path j 1) (first_places path (suc j) (n - j)) all e f (ap (λ l. map place_seen places ++ l) (sym s) ∙ g)

pub none_next : (new places : List (Option Place)) (all : Places) (i j n : ℕ) → j ≡ suc i → i < n → new ≡ places ++ None ∷ []
    → map place_seen places ++ no_places (n - i) ≡ all → map place_seen new ++ no_places (n - j) ≡ all
none_next new places all i j n q lt e g =
    let m : n - i ≡ suc (n - j) = omega arith in
    grown new places None (None ∷ []) (no_places (n - j)) all e refl (ap (λ z. map place_seen places ++ no_places z) (sym m) ∙ g)

no_defaults : (path : List ℕ) (vs : List Variable) → output_places path vs 0 ≡ []
no_defaults path [] = refl
no_defaults path (v ∷ vs) = refl

outputs_end : (path : List ℕ) (vs : List Param) (i n : ℕ) → min (length vs) n ≤ i → output_places path (map param_view (drop i vs)) (n - i) ≡ []
outputs_end path [] i n l = ap (λ ws. output_places path (map param_view ws) (n - i)) (drop_all i [] (omega arith))
outputs_end path (v ∷ vs) zero n l =
    let e : n - 0 ≡ 0 = omega (arith, l) in
    ap (output_places path (map param_view (v ∷ vs))) e ∙ no_defaults path (map param_view (v ∷ vs))
outputs_end path (v ∷ vs) (suc i) zero l =
    let e : 0 - suc i ≡ 0 = omega arith in
    ap (output_places path (map param_view (drop i vs))) e ∙ no_defaults path (map param_view (drop i vs))
outputs_end path (v ∷ vs) (suc i) (suc n) l =
    let e : suc n - suc i ≡ n - i = omega arith in
    ap (output_places path (map param_view (drop i vs))) e ∙ outputs_end path vs i n (omega (arith, l))

pub outputs_done : (here all : Places) (path : List ℕ) (vs : List Param) (i n : ℕ) → min (length vs) n ≤ i
    → here ++ output_places path (map param_view (drop i vs)) (n - i) ≡ all → here ≡ all
outputs_done here all path vs i n l g = sym (append_none here) ∙ ap (λ l. here ++ l) (sym (outputs_end path vs i n l)) ∙ g

-- the parts of a frame itself
pub own_pushed : {V E : Type 0} (r : Result V E) (old one two three four new : Places) (w : Way) (path : List ℕ) (p : Plan) (us : List Variable) (k : ℕ)
    → one ≡ old ++ no_places 1 → two ≡ one ++ map (name_place path) us → us ≡ p.names → three ≡ two ++ first_places path 1 p.memories
    → four ≡ three ++ no_places p.starts → OnOk r (new ≡ four ++ no_places k) → k ≡ sofar_count w p.contract → OnOk r (new ≡ old ++ own_places w path p)
own_pushed (Ok v) old one two three four new w path p us k a b n c d h e =
    let ns : Places = map (name_place path) p.names in
    let fs : Places = first_places path 1 p.memories in
    let last : Places = no_places (sofar_count w p.contract) in
    let third : three ≡ ((old ++ None ∷ []) ++ ns) ++ fs =
    c ∙ ap (λ l. l ++ fs) (b ∙ ap (λ l. l ++ map (name_place path) us) a ∙ ap (λ vs. (old ++ None ∷ []) ++ map (name_place path) vs) n) in
    h ∙ ap (λ z. four ++ no_places z) e ∙ ap (λ l. l ++ last) d ∙ append_assoc three (no_places p.starts) last
    ∙ ap (λ l. three ++ l) (sym (none_more p.starts (sofar_count w p.contract)))
    ∙ ap (λ l. l ++ no_places (p.starts + sofar_count w p.contract)) third
    ∙ whole old ns fs (no_places (p.starts + sofar_count w p.contract))
  where
    whole : (old ns fs os : Places) → (((old ++ None ∷ []) ++ ns) ++ fs) ++ os ≡ old ++ (None ∷ ns ++ (fs ++ os))
    whole old ns fs os =
        append_assoc ((old ++ None ∷ []) ++ ns) fs os ∙ append_assoc (old ++ None ∷ []) ns (fs ++ os) ∙ append_assoc old (None ∷ []) (ns ++ (fs ++ os))
own_pushed (Err x) old one two three four new w path p us k a b n c d h e = tt

-- the place of one variable
pub picked : (os : List (Option Place)) (qs : List Slot) (k : ℕ) (o : Option Place) → map place_seen os ≡ map printed_slot qs → k < length os
    → o ≡ slice_index_or os k o → place_seen o ≡ option_map_or printed_slot (slice_get qs k) None
picked [] qs k o e l f = absurd (omega (arith, l))
picked (x ∷ os) [] k o e l f = absurd cc
picked (x ∷ os) (q ∷ qs) zero o e l f = cc
picked (x ∷ os) (q ∷ qs) (suc k) o e l f =
    let g : map place_seen os ≡ map printed_slot qs = cc in picked os qs k o g (omega (arith, l)) f

pub beyond : (os : List (Option Place)) (qs : List Slot) (k : ℕ) → map place_seen os ≡ map printed_slot qs → length os ≤ k
    → option_map_or printed_slot (slice_get qs k) None ≡ None
beyond [] [] k e l = refl
beyond [] (q ∷ qs) k e l = absurd cc
beyond (x ∷ os) [] k e l = refl
beyond (x ∷ os) (q ∷ qs) zero e l = absurd (omega (arith, l))
beyond (x ∷ os) (q ∷ qs) (suc k) e l = let g : map place_seen os ≡ map printed_slot qs = cc in beyond os qs k g (omega (arith, l))

-- a frame, and behind it its calls
pub frame_pushed : {V E : Type 0} (r : Result V E) (old mid new : Places) (ps : List Plan) (f g : ℕ) (w : Way) (path : List ℕ) (p : Plan)
    (cs : List Called) → f ≡ suc g → mid ≡ old ++ own_places w path p → cs ≡ p.calls
    → OnOk r (new ≡ mid ++ flat_map (named_places (places_within g ps) ps path) cs) → OnOk r (new ≡ old ++ places_within f ps w path p)
frame_pushed (Ok v) old mid new ps f g w path p cs e m q h =
    h ∙ ap (λ l. l ++ flat_map (named_places (places_within g ps) ps path) cs) m
    ∙ append_assoc old (own_places w path p) (flat_map (named_places (places_within g ps) ps path) cs)
    ∙ ap (λ l. old ++ (own_places w path p ++ flat_map (named_places (places_within g ps) ps path) l)) q
    ∙ ap (λ z. old ++ places_within z ps w path p) (sym e)
frame_pushed (Err x) old mid new ps f g w path p cs e m q h = tt
