-- What is known by the names of all declarations is what is known by the program.
use Rattle.std.proofs.Common.{◌≡◌, ℕ, zero, suc, ◌<◌, ◌≤◌, ◌+◌, Bool, List, [], ◌∷◌, ◌++◌, append_assoc, length, map, drop, get_or, refl, sym, ap, ◌∙◌, arith}
use Rattle.std.specs.Prelude.{min}
use Rattle.std.proofs.lemmas.List.{append-nil}
use Rattle.lus_tree.specs.Tree.{Name, Component, Program}
use Rattle.lus_meaning.specs.ClockFaults.{components}
use Rattle.lus_meaning.specs.Occurrences.{Memory, Start}
use Rattle.lus_meaning.specs.Program.{all_sites, program_constants}
use Rattle.lus_meaning.specs.Scene.{Site}
use Rattle.lus_meaning.specs.Value.{Value}
use Rattle.lus_layouts.specs.declared.placing.CallSlots.{CallSlots}
use Rattle.lus_layouts.specs.declared.placing.Layout.{Layout}
use Rattle.lus_layouts.specs.Layouts.{LaidOut, layout_of, layout_view}
use Rattle.lus_streams.specs.declared.owner.Owner.{Owner}
use Rattle.lus_streams.specs.Owner.{owner_view}
use Rattle.sys_occurrences.specs.declared.sites.Site.{Site as SiteCode}
use Rattle.sys_occurrences.specs.Views.{site_view}
use Rattle.sys_tables.specs.Made.{all_linked_by, linked_by, table_by, tables_by}
use Rattle.sys_tables.specs.Tabled.{Linked, Named, Tabled, all_linked, constants_known, linked, names_of, small_value, small_values, table_of}
use Rattle.sys_tables.proofs.Once.{callee_found}

module _ (p : Program) where
  linked_so : (n : Component) (s : Site) (q : CallSlots) → linked_by (names_of (components p)) (components p) (constants_known p n) s q ≡ linked p n s q
  linked_so n s q =
      ap (λ (c : Component). record {
        site = s;
        place = (linked p n s q).place;
        inputs = length c.inputs;
        outputs = c.outputs;
        defaults = map (small_value (constants_known p n)) s.defaults;
        slots = q;
      }) (callee_found p s.callee)

  all_so : (n : Component) (ss : List Site) (qs : List CallSlots)
      → all_linked_by (names_of (components p)) (components p) (constants_known p n) ss qs ≡ all_linked p n ss qs
  all_so n [] [] = refl
  all_so n [] (q ∷ qs) = refl
  all_so n (s ∷ ss) [] = refl
  all_so n (s ∷ ss) (q ∷ qs) = rw (linked_so n s q, all_so n ss qs) refl

  table_so : (n : Component)
      → table_by (names_of (components p)) (components p) (small_values [] (program_constants p)) n (layout_of p n) ≡ table_of p n
  table_so n =
      ap (λ ls. record {
        component = n;
        constants = (table_of p n).constants;
        streams = (table_of p n).streams;
        memories = (table_of p n).memories;
        starts = (table_of p n).starts;
        calls = ls;
        layout = layout_of p n;
        contract = (table_of p n).contract;
      }) (all_so n (all_sites n) (layout_of p n).calls)

  tables_so : (ns : List Component)
      → tables_by (names_of (components p)) (components p) (small_values [] (program_constants p)) ns (map (layout_of p) ns) ≡ map (table_of p) ns
  tables_so [] = refl
  tables_so (n ∷ ns) = rw (table_so n, tables_so ns) refl

  pub tables_are : (names : List Name) (ps : List Component) (outer : List (Name × Value)) (ls : List LaidOut) → names ≡ names_of (components p)
      → ps ≡ components p → outer ≡ small_values [] (program_constants p) → ls ≡ map (layout_of p) (components p)
      → tables_by names ps outer ps ls ≡ map (table_of p) (components p)
  tables_are names ps outer ls e f g h =
      ap (λ z. tables_by z ps outer ps ls) e
      ∙ ap (λ z. tables_by (names_of (components p)) z outer z ls) f
      ∙ ap (λ z. tables_by (names_of (components p)) (components p) z (components p) ls) g
      ∙ ap (tables_by (names_of (components p)) (components p) (small_values [] (program_constants p)) (components p)) h
      ∙ tables_so (components p)

-- ---- at the end of one of two lists

module _ (names : List Name) (parts : List Component) where
  none_linked : (cs : List (Name × Value)) (qs : List CallSlots) → all_linked_by names parts cs [] qs ≡ []
  none_linked cs [] = refl
  none_linked cs (q ∷ qs) = refl

  none_placed : (cs : List (Name × Value)) (ss : List Site) → all_linked_by names parts cs ss [] ≡ []
  none_placed cs [] = refl
  none_placed cs (s ∷ ss) = refl

  linked_end : (cs : List (Name × Value)) (k : ℕ) (ss : List SiteCode) (qs : List CallSlots) → min (length ss) (length qs) ≤ k
      → all_linked_by names parts cs (map site_view (drop k ss)) (drop k qs) ≡ []
  linked_end cs zero [] qs l = none_linked cs qs
  linked_end cs zero (s ∷ ss) [] l = refl
  linked_end cs zero (s ∷ ss) (q ∷ qs) l = absurd (omega (arith, l))
  linked_end cs (suc k) [] qs l = none_linked cs (drop (suc k) qs)
  linked_end cs (suc k) (s ∷ ss) [] l = none_placed cs (map site_view (drop k ss))
  linked_end cs (suc k) (s ∷ ss) (q ∷ qs) l = linked_end cs k ss qs (omega (arith, l))

  pub linked_all : (cs : List (Name × Value)) (k : ℕ) (ss : List SiteCode) (qs : List CallSlots) (done all : List Linked)
      → min (length ss) (length qs) ≤ k → done ++ all_linked_by names parts cs (map site_view (drop k ss)) (drop k qs) ≡ all → done ≡ all
  linked_all cs k ss qs done all l e = sym (append-nil done) ∙ sym (ap (λ ls. done ++ ls) (linked_end cs k ss qs l)) ∙ e

  module _ (outer : List (Name × Value)) where
    no_tables : (ls : List LaidOut) → tables_by names parts outer [] ls ≡ []
    no_tables [] = refl
    no_tables (l ∷ ls) = refl

    no_layouts : (ns : List Component) → tables_by names parts outer ns [] ≡ []
    no_layouts [] = refl
    no_layouts (n ∷ ns) = refl

    tables_end : (k : ℕ) (os : List Owner) (ls : List Layout) → min (length os) (length ls) ≤ k
        → tables_by names parts outer (map owner_view (drop k os)) (map layout_view (drop k ls)) ≡ []
    tables_end zero [] ls l = no_tables (map layout_view ls)
    tables_end zero (o ∷ os) [] l = refl
    tables_end zero (o ∷ os) (x ∷ ls) l = absurd (omega (arith, l))
    tables_end (suc k) [] ls l = no_tables (map layout_view (drop (suc k) ls))
    tables_end (suc k) (o ∷ os) [] l = no_layouts (map owner_view (drop k os))
    tables_end (suc k) (o ∷ os) (x ∷ ls) l = tables_end k os ls (omega (arith, l))

    pub tables_all : (k : ℕ) (os : List Owner) (ls : List Layout) (done all : List Tabled) → min (length os) (length ls) ≤ k
        → done ++ tables_by names parts outer (map owner_view (drop k os)) (map layout_view (drop k ls)) ≡ all → done ≡ all
    tables_all k os ls done all l e = sym (append-nil done) ∙ sym (ap (λ ts. done ++ ts) (tables_end k os ls l)) ∙ e

    one_more : (k : ℕ) (os : List Owner) (ls : List Layout) (o : Owner) (x : Layout) → k < length os → k < length ls → get_or os k o ≡ o
        → get_or ls k x ≡ x
        → tables_by names parts outer (map owner_view (drop k os)) (map layout_view (drop k ls))
        ≡ table_by names parts outer (owner_view o) (layout_view x)
        ∷ tables_by names parts outer (map owner_view (drop (suc k) os)) (map layout_view (drop (suc k) ls))
    one_more k [] ls o x a b e f = absurd (omega (arith, a))
    one_more k (y ∷ os) [] o x a b e f = absurd (omega (arith, b))
    one_more zero (y ∷ os) (z ∷ ls) o x a b e f =
        ap (λ w. table_by names parts outer (owner_view w) (layout_view z) ∷ tables_by names parts outer (map owner_view os) (map layout_view ls)) e
        ∙ ap (λ w. table_by names parts outer (owner_view o) (layout_view w) ∷ tables_by names parts outer (map owner_view os) (map layout_view ls)) f
    one_more (suc k) (y ∷ os) (z ∷ ls) o x a b e f = one_more k os ls o x (omega (arith, a)) (omega (arith, b)) e f

    pub tables_step : (k : ℕ) (os : List Owner) (ls : List Layout) (o : Owner) (x : Layout) (done new all : List Tabled) (t : Tabled)
        → k < length os → k < length ls → get_or os k o ≡ o → get_or ls k x ≡ x
        → t ≡ table_by names parts outer (owner_view o) (layout_view x) → new ≡ done ++ t ∷ []
        → done ++ tables_by names parts outer (map owner_view (drop k os)) (map layout_view (drop k ls)) ≡ all
        → new ++ tables_by names parts outer (map owner_view (drop (k + 1) os)) (map layout_view (drop (k + 1) ls)) ≡ all
    tables_step k os ls o x done new all t a b e f g h i =
        let next : k + 1 ≡ suc k = omega arith in
        let rest : List Tabled = tables_by names parts outer (map owner_view (drop (suc k) os)) (map layout_view (drop (suc k) ls)) in
        ap (λ j. new ++ tables_by names parts outer (map owner_view (drop j os)) (map layout_view (drop j ls))) next
        ∙ ap (λ ts. ts ++ rest) (h ∙ ap (λ z. done ++ z ∷ []) g)
        ∙ append_assoc done (table_by names parts outer (owner_view o) (layout_view x) ∷ []) rest
        ∙ ap (λ ts. done ++ ts) (sym (one_more k os ls o x a b e f)) ∙ i

-- ---- a table by its parts

abbrev made : Component → List (Name × Value) → List Named → List Memory → List Start → List Linked → LaidOut → Bool → Tabled
made n c s m a l q o = record {
  component = n;
  constants = c;
  streams = s;
  memories = m;
  starts = a;
  calls = l;
  layout = q;
  contract = o;
}

pub tables_same : (n : Component) (c d : List (Name × Value)) (s t : List Named) (m u : List Memory) (a b : List Start) (l k : List Linked)
    (q r : LaidOut) (o i : Bool) → c ≡ d → s ≡ t → m ≡ u → a ≡ b → l ≡ k → q ≡ r → o ≡ i → made n c s m a l q o ≡ made n d t u b k r i
tables_same n c d s t m u a b l k q r o i e f g h x y z =
    ap (λ w. made n w s m a l q o) e ∙ ap (λ w. made n d w m a l q o) f ∙ ap (λ w. made n d t w a l q o) g ∙ ap (λ w. made n d t u w l q o) h
    ∙ ap (λ w. made n d t u b w q o) x ∙ ap (λ w. made n d t u b k w o) y ∙ ap (made n d t u b k r) z
