-- The inputs to which outputs lead in the rows of an own graph are those on which they depend at the same instant.
use Rattle.std.proofs.Common.{◌≡◌, ◌↔◌, ℕ, zero, suc, ◌<◌, ◌≤◌, ◌+◌, true, List, [], ◌∷◌, ◌++◌, map, length, get_or, take, Some, None, refl, sym, ap, ◌∙◌, subst, arith, append_assoc}
use Rattle.std.specs.Prelude.{Contains, slice_get}
use Rattle.std.specs.List.Sorted.{IsStrictlyIncreasing}
use Rattle.std.specs.Str.{bytes_eq}
use Rattle.std.proofs.lemmas.List.{take_more}
use Rattle.lus_tree.specs.Tree.{Name, Variable, Component, Program}
use Rattle.lus_meaning.specs.ClockFaults.{components}
use Rattle.lus_meaning.specs.Cycle.{Reaches, ReadsNow}
use Rattle.lus_meaning.specs.Depends.{named_in}
use Rattle.lus_meaning.specs.Grammatical.{IsGrammatical}
use Rattle.lus_meaning.specs.Program.{instance_of}
use Rattle.lus_meaning.specs.Refusals.{IsTyped}
use Rattle.lus_meaning.specs.Scene.{contract_statements, ghosts, variables}
use Rattle.lus_meaning.specs.WellMade.{AreDistinct}
use Rattle.lus_meaning.proofs.Exists.{self_bytes}
use Rattle.lus_meaning.proofs.Lists.{map_append}
use Rattle.name_table.specs.Names.{number_of}
use Rattle.name_table.proofs.Names.{in_joined}
use Rattle.name_table.proofs.Numbers.{number_below, name_of_number}
use Rattle.way_laws.specs.OwnGraph.{Summaries, LeadsTo as NamesLead, own_edges}
use Rattle.way_laws.specs.Nodes.{of_name, NodeLeads}
use Rattle.way_laws.proofs.Nodes.{names_by_nodes}
use Rattle.way_laws.proofs.Ways.{ways_are_own}
use Rattle.number_graphs.specs.Graphs.{Rows, LeadsTo, is_marked, graph_view}
use Rattle.number_graphs.proofs.Searches.{or_right}
use Rattle.lus_order.specs.declared.library.Library.{Library}
use Rattle.lus_order.specs.declared.own.Own.{Own}
use Rattle.lus_order.specs.declared.setting.Clocks.{Clocks}
use Rattle.lus_order.specs.Learned.{IsLibraryOf}
use Rattle.lus_order.specs.Library.{library_view}
use Rattle.lus_order.specs.MarkedBelow.{marked_below, AreLedBelow, IsLedBelow, AreLed}
use Rattle.lus_order.specs.Numbered.{name_at}
use Rattle.lus_order.specs.OutputReads.{IsInputRead, AreInputsRead, AreReads, AreAllReads, LeadsOne, AreReadsByOwn}
use Rattle.lus_order.specs.Own.{IsOwn}
use Rattle.lus_order.specs.OwnNodes.{AreNodes, node_at}
use Rattle.lus_order.specs.OwnReads.{AreFlagsOf}
use Rattle.lus_order.specs.Reads.{callees_view}
use Rattle.lus_order.specs.Streams.{AreTabled, names_of}
use Rattle.lus_order.specs.WholeOrders.{ReadsByLibrary}
use Rattle.lus_order.proofs.Declared.{given_number}
use Rattle.lus_order.proofs.MarkedBelow.{marked_there, there_marked, marked_increasing}
use Rattle.lus_order.proofs.OwnCircles.{flagged_nodes}
use Rattle.lus_order.proofs.OwnNodes.{of_stream}
use Rattle.lus_order.proofs.Stands.{or_left}
use Rattle.lus_order.proofs.Turns.{one_more}
use Rattle.lus_order.proofs.WholeOrders.{library_exact}

-- ---- the first names are those of the inputs

record HasInput (vs ws : List Variable) (others : List Name) (k : ℕ) : Type 0 where
  input : Variable
  stands : slice_get vs k ≡ Some input
  named : get_or (names_of (vs ++ ws) ++ others) k [] ≡ input.name.text
  within : k < length (names_of (vs ++ ws) ++ others)

input_at : (vs ws : List Variable) (others : List Name) (k : ℕ) → k < length vs → HasInput vs ws others k
input_at [] ws others k l = absurd (omega arith)
input_at (v ∷ vs) ws others zero l = record { input = v; stands = refl; named = refl; within = omega arith }
input_at (v ∷ vs) ws others (suc k) l =
    let r : HasInput vs ws others k = input_at vs ws others k (omega arith) in
    let b : k < length (names_of (vs ++ ws) ++ others) = r.within in
    record { input = r.input; stands = r.stands; named = r.named; within = omega arith }

input_below : (vs : List Variable) (k : ℕ) (v : Variable) → slice_get vs k ≡ Some v → k < length vs
input_below [] k v e = absurd (cc)
input_below (u ∷ vs) zero v e = omega arith
input_below (u ∷ vs) (suc k) v e = let b : k < length vs = input_below vs k v e in omega arith

one_input : (vs : List Variable) (k : ℕ) (u v : Variable) → slice_get vs k ≡ Some u → slice_get vs k ≡ Some v → u ≡ v
one_input vs k u v e h = cc

-- ---- one output

module _ (n : Component) (g : Summaries) (s : Clocks) (rows : Rows) (tabled : AreTabled (variables n) s) (nodes : AreNodes n g s.names rows) where
  abbrev rest : List Variable
  rest = n.outputs ++ (n.locals ++ ghosts (contract_statements n))

  inputs_first : s.names ≡ names_of (n.inputs ++ rest) ++ tabled.others
  inputs_first = tabled.names
      ∙ ap (λ vs. names_of vs ++ tabled.others)
      (append_assoc (n.inputs ++ n.outputs) n.locals (ghosts (contract_statements n)) ∙ append_assoc n.inputs n.outputs (n.locals ++ ghosts (contract_statements n)))

  module _ (o : Name) (known : named_in o s.names ≡ true) where
    abbrev start : ℕ
    start = number_of s.names o

    leads_on : (k : ℕ) → k < length s.names → LeadsTo rows start k ↔ LeadsOne n g o (name_at s.names k)
    leads_on k l =
        let to : NodeLeads n g (node_at s.names start) (node_at s.names k) ↔ NodeLeads n g (of_name o) (of_name (name_at s.names k)) =
        subst (λ a. NodeLeads n g (node_at s.names start) (node_at s.names k) ↔ NodeLeads n g (of_name a) (of_name (name_at s.names k)))
        (name_of_number s.names o known)
        (subst (λ a. NodeLeads n g (node_at s.names start) (node_at s.names k) ↔ NodeLeads n g a (of_name (name_at s.names k)))
        (of_stream s.names start (number_below s.names o known))
        (subst (λ a. NodeLeads n g (node_at s.names start) (node_at s.names k) ↔ NodeLeads n g (node_at s.names start) a) (of_stream s.names k l)
        (λ w. w, λ w. w))) in (
          λ w. (names_by_nodes n g o (name_at s.names k)).0 (to.0 ((nodes.ways start k).0 w)),
          λ w. (nodes.ways start k).1 (to.1 ((names_by_nodes n g o (name_at s.names k)).1 w)),
        )

    inputs_led : (k : ℕ) → k < length n.inputs → HasInput n.inputs rest tabled.others k
    inputs_led k l = input_at n.inputs rest tabled.others k l

    name_is : (k : ℕ) (l : k < length n.inputs) → name_at s.names k ≡ (inputs_led k l).input.name.text
    name_is k l = ap (λ xs. get_or xs k []) inputs_first ∙ (inputs_led k l).named

    numbered : (k : ℕ) (l : k < length n.inputs) → k < length s.names
    numbered k l = subst (λ xs. k < length xs) (sym inputs_first) (inputs_led k l).within

    module _ (ks : List ℕ) (led : AreLedBelow rows start (length n.inputs) ks) where
      found : (k : ℕ) → Contains ks k → IsInputRead (LeadsOne n g o) n.inputs k
      found k c =
          let m : (k < length n.inputs) × (is_marked led.marks k ≡ true) =
          marked_there led.marks (length n.inputs) k (subst (λ z. Contains z k) led.listed c) in
          record {
            input = (inputs_led k m.0).input;
            stands = (inputs_led k m.0).stands;
            read = subst (LeadsOne n g o) (name_is k m.0) ((leads_on k (numbered k m.0)).0 (led.reached.led k m.1));
          }

      listed : (k : ℕ) → IsInputRead (LeadsOne n g o) n.inputs k → Contains ks k
      listed k r =
          let l : k < length n.inputs = input_below n.inputs k r.input r.stands in
          let same : r.input ≡ (inputs_led k l).input = one_input n.inputs k r.input (inputs_led k l).input r.stands (inputs_led k l).stands in
          let way : LeadsOne n g o (name_at s.names k) =
          subst (LeadsOne n g o) (ap (λ (v : Variable). v.name.text) same ∙ sym (name_is k l)) r.read in
          let within : k < length s.names = numbered k l in
          let inside : k < length rows = omega (arith, within, nodes.whole) in
          subst (λ z. Contains z k) (sym led.listed)
          (there_marked led.marks (length n.inputs) k l (led.reached.all k inside ((leads_on k within).1 way)))

      pub inputs_read : AreInputsRead (LeadsOne n g o) n.inputs ks
      inputs_read = record {
        ascending = subst IsStrictlyIncreasing (sym led.listed) (marked_increasing led.marks (length n.inputs));
        exact = λ k. (found k, listed k);
      }

  -- ---- all outputs

  outputs_read : (os : List Variable) → ((x : Name) → named_in x (names_of os) ≡ true → named_in x s.names ≡ true) → (kss : List (List ℕ))
      → AreLed rows s.names (length n.inputs) os kss → AreReads (LeadsOne n g) n.inputs os kss
  outputs_read [] h [] a = tt
  outputs_read [] h (ks ∷ kss) a = absurd a
  outputs_read (o ∷ os) h [] a = absurd a
  outputs_read (o ∷ os) h (ks ∷ kss) a =
      let known : named_in o.name.text s.names ≡ true = h o.name.text (or_left _ _ (self_bytes o.name.text)) in
      (inputs_read o.name.text known ks (a.0 known), outputs_read os (λ x e. h x (or_right (bytes_eq x o.name.text) (named_in x (names_of os)) e)) kss a.1)

pub reads_own : (n : Component) (l : Library) (o : Own) → AreFlagsOf (library_view l) (callees_view l.callees) → AreDistinct (names_of (variables n))
    → IsOwn n l o → (kss : List (List ℕ))
    → AreLed (graph_view o.graph) o.clocks.names (length n.inputs) n.outputs kss → AreReads (LeadsOne n (library_view l)) n.inputs n.outputs kss
reads_own n l o flags u own kss a =
    outputs_read n (library_view l) o.clocks (graph_view o.graph) own.tabled (flagged_nodes n l o flags u own) n.outputs
    (λ x h. given_number n o.clocks own.tabled x (in_given x h)) kss a
  where
    in_given : (x : Name) → named_in x (names_of n.outputs) ≡ true → named_in x (names_of n.inputs ++ names_of n.outputs) ≡ true
    in_given x h = in_joined x (names_of n.inputs) (names_of n.outputs) ∙ or_right (named_in x (names_of n.inputs)) (named_in x (names_of n.outputs)) h

-- ---- in the tree of instances

reads_moved : (Reads Other : Name → Name → Type 0) → ((x y : Name) → Reads x y ↔ Other x y) → (inputs os : List Variable) (kss : List (List ℕ))
    → AreReads Reads inputs os kss → AreReads Other inputs os kss
reads_moved Reads Other same inputs [] [] a = tt
reads_moved Reads Other same inputs [] (ks ∷ kss) a = absurd a
reads_moved Reads Other same inputs (o ∷ os) [] a = absurd a
reads_moved Reads Other same inputs (o ∷ os) (ks ∷ kss) a = (
  record {
    ascending = a.0.ascending;
    exact = λ k. (λ c. to k (a.0.exact k) c, λ r. from k (a.0.exact k) r);
  },
  reads_moved Reads Other same inputs os kss a.1,
)
  where
    to : (k : ℕ) → Contains ks k ↔ IsInputRead (Reads o.name.text) inputs k → Contains ks k → IsInputRead (Other o.name.text) inputs k
    to k e c = let r : IsInputRead (Reads o.name.text) inputs k = e.0 c in
        record { input = r.input; stands = r.stands; read = (same o.name.text r.input.name.text).0 r.read }

    from : (k : ℕ) → Contains ks k ↔ IsInputRead (Reads o.name.text) inputs k → IsInputRead (Other o.name.text) inputs k → Contains ks k
    from k e r = e.1 record { input = r.input; stands = r.stands; read = (same o.name.text r.input.name.text).1 r.read }

pub reads_by_library : ReadsByLibrary
reads_by_library p grammatical typed l is n d kss a =
    reads_moved (LeadsOne n (library_view l)) (ReadsNow (instance_of p n)) (λ x y. turned x y) n.inputs n.outputs kss a
  where
    ways : (x y : Name) → Reaches (instance_of p n) (x ∷ []) (y ∷ []) ↔ LeadsOne n (library_view l) x y
    ways x y = ways_are_own p grammatical typed n d (library_view l) (library_exact p grammatical typed l is n d) (x ∷ []) (y ∷ [])

    turned : (x y : Name) → LeadsOne n (library_view l) x y ↔ ReadsNow (instance_of p n) x y
    turned x y = ((ways x y).1, (ways x y).0)

-- ---- declaration by declaration

all_read : (p : Program) → IsGrammatical p → IsTyped p → (l : Library) → IsLibraryOf p l → (ns : List Component)
    → ((n : Component) → Contains ns n → Contains (components p) n) → (rs : List (List (List ℕ))) → AreReadsByOwn (library_view l) ns rs → AreAllReads p ns rs
all_read p grammatical typed l is [] d [] a = tt
all_read p grammatical typed l is [] d (r ∷ rs) a = absurd a
all_read p grammatical typed l is (n ∷ ns) d [] a = absurd a
all_read p grammatical typed l is (n ∷ ns) d (r ∷ rs) a = (
  reads_by_library p grammatical typed l is n (d n (0, omega arith, refl)) r a.0,
  all_read p grammatical typed l is ns (λ m c. d m (behind m c)) rs a.1,
)
  where
    behind : (m : Component) → Contains ns m → Contains (n ∷ ns) m
    behind m (k, i, e) = (suc k, omega arith, e)

pub program_reads : (p : Program) → IsGrammatical p → IsTyped p → (l : Library) → IsLibraryOf p l → (rs : List (List (List ℕ)))
    → AreReadsByOwn (library_view l) (components p) rs → AreAllReads p (components p) rs
program_reads p grammatical typed l is rs a = all_read p grammatical typed l is (components p) (λ n c. c) rs a

reads_more : (g : Summaries) (ns : List Component) (rs : List (List (List ℕ))) (n : Component) (r : List (List ℕ)) → AreReadsByOwn g ns rs
    → AreReads (LeadsOne n g) n.inputs n.outputs r → AreReadsByOwn g (ns ++ n ∷ []) (rs ++ r ∷ [])
reads_more g [] [] n r a b = (b, tt)
reads_more g [] (q ∷ rs) n r a b = absurd a
reads_more g (m ∷ ns) [] n r a b = absurd a
reads_more g (m ∷ ns) (q ∷ rs) n r a b = (a.0, reads_more g ns rs n r a.1 b)

pub turn_read : {A : Type 0} (f : A → Component) (xs : List A) (i : ℕ) (x : A) → i < length xs → x ≡ get_or xs i x → (g : Summaries)
    → (rs new : List (List (List ℕ))) (r : List (List ℕ)) → AreReadsByOwn g (map f (take i xs)) rs
    → AreReads (LeadsOne (f x) g) (f x).inputs (f x).outputs r → new ≡ rs ++ r ∷ [] → AreReadsByOwn g (map f (take (i + 1) xs)) new
turn_read f xs i x below is g rs new r a b e =
    subst (λ ns. AreReadsByOwn g ns new) (sym (one_more f xs i x below is))
    (subst (AreReadsByOwn g (map f (take i xs) ++ f x ∷ [])) (sym e) (reads_more g (map f (take i xs)) rs (f x) r a b))
