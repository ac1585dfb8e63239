-- What a trace may list has a name that is an identifier, or a number below 2^32, behind numbers below 2^32.
use Rattle.std.proofs.Common.{◌≡◌, ℕ, zero, suc, ◌+◌, ◌≤◌, ◌<◌, Bool, true, false, cond, List, [], ◌∷◌, ◌++◌, map, flat_map, length, length-append, Some, refl, sym, ap, ◌∙◌, subst, arith}
use Rattle.std.specs.Prelude.{Contains}
use Rattle.std.specs.List.{AllByRecursion}
use Rattle.lus_tree.specs.declared.place.Sort.{Sort}
use Rattle.lus_tree.specs.Tree.{Name, Variable, Expression, Component, Program}
use Rattle.lus_lexer.specs.Names.{is_name}
use Rattle.lus_meaning.specs.ClockFaults.{components}
use Rattle.lus_meaning.specs.Fits.{Listable, listable_names, listable_firsts, listable_in, listable_below, listable}
use Rattle.lus_meaning.specs.Occurrences.{Memory, gathered, memories, starts}
use Rattle.lus_meaning.specs.Program.{site_in, import_site, all_sites, in_order}
use Rattle.lus_meaning.specs.Refusals.{IsChecked}
use Rattle.lus_meaning.specs.Run.{first_sorts, sort_of}
use Rattle.lus_meaning.specs.Scene.{Manner, plain, while_true, as_import, Site, Instance, Instances, instance, no_instances, with_instance, component_of, contract_statements, ghosts, variables}
use Rattle.lus_meaning.specs.Slots.{Cell, beat_cell, name_cell, memory_cell, start_cell, contract_cells, own_cells, held_cells, Slot, slot, slots_in, call_slots}
use Rattle.lus_meaning.specs.Trace.{is_defined, free_names, free_in}
use Rattle.lus_meaning.proofs.Exists.{length_mapped}
use Rattle.rule_laws.specs.Laws.{IsUnfolded, AreUnfolded, NamedIsDeclared}
use Rattle.rule_laws.proofs.Places.{numbered, sites_counted}
use Rattle.path_laws.proofs.Numbers.{CountedFrom, in_order_counted}
use Rattle.source_laws.specs.Laws.{IsIdentified, AreIdentified}
use Rattle.trace_text.specs.Words.{FitsSubject}
use Rattle.trace_laws.proofs.Named.{identified}

-- ---- lists

left : {A : Type 0} (P : A → Type 0) (xs ys : List A) → AllByRecursion P (xs ++ ys) → AllByRecursion P xs
left P [] ys a = tt
left P (x ∷ xs) ys a = (a.0, left P xs ys a.1)

right : {A : Type 0} (P : A → Type 0) (xs ys : List A) → AllByRecursion P (xs ++ ys) → AllByRecursion P ys
right P [] ys a = a
right P (x ∷ xs) ys a = right P xs ys a.1

pub both : {A : Type 0} (P : A → Type 0) (xs ys : List A) → AllByRecursion P xs → AllByRecursion P ys → AllByRecursion P (xs ++ ys)
both P [] ys a b = b
both P (x ∷ xs) ys a b = (a.0, both P xs ys a.1 b)

-- ---- names

abbrev IsNamed : Variable → Type 0
IsNamed v = is_name v.name.text ≡ true

named_streams : (vs : List Variable) → AllByRecursion (λ x. is_name x ≡ true) (map (λ v. v.name.text) vs) → AllByRecursion IsNamed vs
named_streams [] a = tt
named_streams (v ∷ vs) a = (a.0, named_streams vs a.1)

free_part : (d : Component) (vs : List Variable) → AllByRecursion IsNamed vs
    → AllByRecursion IsNamed (flat_map (λ v. cond (is_defined d v.name.text) [] (v ∷ [])) vs)
free_part d [] a = tt
free_part d (v ∷ vs) a = go (is_defined d v.name.text) (free_part d vs a.1)
  where
    go : (b : Bool) → AllByRecursion IsNamed (flat_map (λ w. cond (is_defined d w.name.text) [] (w ∷ [])) vs)
        → AllByRecursion IsNamed (cond b [] (v ∷ []) ++ flat_map (λ w. cond (is_defined d w.name.text) [] (w ∷ [])) vs)
    go true r = r
    go false r = (a.0, r)

-- the streams of a declaration, its inputs, and those that no equation defines
pub record HasNames (d : Component) : Type 0 where
  pub inputs : AllByRecursion IsNamed d.inputs
  pub free : AllByRecursion IsNamed (free_names d)

pub has_names : (d : Component) → IsIdentified d → HasNames d
has_names d h =
    let all : AllByRecursion IsNamed (variables d) = named_streams (variables d) h.declared in
    let most : AllByRecursion IsNamed ((d.inputs ++ d.outputs) ++ d.locals) =
    left IsNamed ((d.inputs ++ d.outputs) ++ d.locals) (ghosts (contract_statements d)) all in
    let given : AllByRecursion IsNamed (d.inputs ++ d.outputs) = left IsNamed (d.inputs ++ d.outputs) d.locals most in
    record {
      inputs = left IsNamed d.inputs d.outputs given;
      free = free_part d (d.outputs ++ d.locals)
          (both IsNamed d.outputs d.locals (right IsNamed d.inputs d.outputs given) (right IsNamed (d.inputs ++ d.outputs) d.locals most));
    }

named_in_call : (m : Manner) (d : Component) → HasNames d → AllByRecursion IsNamed (free_in m d)
named_in_call plain d h = h.free
named_in_call (while_true a) d h = h.free
named_in_call (as_import xs) d h = tt

-- ---- what may be listed

abbrev pub AreFew : List ℕ → Type 0
AreFew path = AllByRecursion (λ k. k < 4294967296) path

pub record IsFine (s : Listable) : Type 0 where
  pub path : AreFew s.path
  pub subject : FitsSubject s.subject
  pub some : 1 ≤ s.count

fine_names : (path : List ℕ) → AreFew path → (n : ℕ) → 1 ≤ n → (needed : Bool) (vs : List Variable) → AllByRecursion IsNamed vs
    → AllByRecursion IsFine (listable_names path n needed vs)
fine_names path few n some needed [] a = tt
fine_names path few n some needed (v ∷ vs) a =
    (record { path = few; subject = a.0; some = some }, fine_names path few n some needed vs a.1)

fine_firsts : (path : List ℕ) → AreFew path → (k : ℕ) (ss : List Sort) → k + length ss ≤ 4294967296
    → AllByRecursion IsFine (listable_firsts path k ss)
fine_firsts path few k [] l = tt
fine_firsts path few k (s ∷ ss) l =
    (record { path = few; subject = omega (arith, l); some = omega arith }, fine_firsts path few (suc k) ss (omega (arith, l)))

-- ---- slots

some_slot : (m : Manner) (path : List ℕ) (i : Instance) → 1 ≤ length (slots_in m path i)
some_slot m path (instance d cs is) = omega arith

-- as many first values as memories
firsts_room : (m : Manner) (path : List ℕ) (d : Component) (cs : List (Name × _)) (is : Instances)
    → suc (length (first_sorts (instance d cs is))) + length (call_slots (instance d cs is) path is) ≤ length (slots_in m path (instance d cs is))
firsts_room m path d cs is =
    let i : Instance = instance d cs is in
    let ms : List Memory = in_order (λ x. x.number) (memories d) in
    let ns : List Cell = map name_cell (variables d) in
    let ks : List Cell = map memory_cell ms in
    let rest : List Cell = map start_cell (in_order (λ x. x.number) (starts d)) ++ contract_cells m d.contract in
    let a : length (slots_in m path i) ≡ length (map (slot i path) (own_cells m d)) + length (call_slots i path is) =
    length-append (map (slot i path) (own_cells m d)) (call_slots i path is) in
    let b : length (map (slot i path) (own_cells m d)) ≡ suc (length (ns ++ (ks ++ rest))) = length_mapped (slot i path) (own_cells m d) in
    let e : length (ns ++ (ks ++ rest)) ≡ length ns + length (ks ++ rest) = length-append ns (ks ++ rest) in
    let f : length (ks ++ rest) ≡ length ks + length rest = length-append ks rest in
    let g : length ks ≡ length ms = length_mapped memory_cell ms in
    let h : length (first_sorts i) ≡ length ms = length_mapped (λ (x : Memory). sort_of i x.operand) ms in
    sums _ _ _ _ _ _ _ _ _ a b e f g h
  where
    sums : (s o c x n y k r f : ℕ) {m : ℕ} → s ≡ o + c → o ≡ suc x → x ≡ n + y → y ≡ k + r → k ≡ m → f ≡ m → suc f + c ≤ s
    sums s o c x n y k r f a b e g h j = omega arith

-- ---- the tree

module _ (p : Program) (c : IsChecked p) (ids : AreIdentified p) (declared : NamedIsDeclared) (n : ℕ) (some : 1 ≤ n) where
  mutual
    fine_in : (m : Manner) (path : List ℕ) → AreFew path → (free : List Variable) → AllByRecursion IsNamed free → (i : Instance) → IsUnfolded p i
        → Contains (components p) (component_of i) → length (slots_in m path i) ≤ 20000 → AllByRecursion IsFine (listable_in path n free i)
    fine_in m path few free a (instance d cs is) u at l =
        let i : Instance = instance d cs is in
        let room = firsts_room m path d cs is in
        both IsFine (listable_names path n false free) _ (fine_names path few n some false free a)
        (both IsFine (listable_firsts path 1 (first_sorts i)) _ (fine_firsts path few 1 (first_sorts i) (omega (arith, room, l)))
        (fine_below i path few 1 (all_sites d) is u.1 (in_order_counted (λ (s : Site). s.number) (gathered site_in d ++ flat_map import_site (contract_statements d)) (sites_counted d (numbered p c.grammatical d at)))
        (omega (arith, room, l)) (omega (arith, room, l))))

    fine_below : (i : Instance) (path : List ℕ) → AreFew path → (j : ℕ) (ss : List Site) (is : Instances) → AreUnfolded p ss is
        → CountedFrom (λ (s : Site). s.number) j ss → j + length (call_slots i path is) ≤ 4294967296 → length (call_slots i path is) ≤ 20000
        → AllByRecursion IsFine (listable_below path n is)
    fine_below i path few j [] no_instances u q l w = tt
    fine_below i path few j [] (with_instance b k is) u q l w = absurd u
    fine_below i path few j (s ∷ ss) no_instances u q l w = absurd u
    fine_below i path few j (s ∷ ss) (with_instance b k is) u q l w =
        let held : List Slot = map (slot i path) (held_cells b (component_of k) b.manner) in
        let frame : List Slot = slots_in b.manner (path ++ b.number ∷ []) k in
        let more : List Slot = call_slots i path is in
        let e : length (held ++ (frame ++ more)) ≡ length held + length (frame ++ more) = length-append held (frame ++ more) in
        let f : length (frame ++ more) ≡ length frame + length more = length-append frame more in
        let g : 1 ≤ length frame = some_slot b.manner (path ++ b.number ∷ []) k in
        let h : b.number ≡ j = ap (λ (x : Site). x.number) u.0 ∙ q.0 in
        let at : Contains (components p) (component_of k) = declared p s.callee (component_of k) u.1 in
        both IsFine (listable_in (path ++ b.number ∷ []) n (free_in b.manner (component_of k)) k) (listable_below path n is)
        (fine_in b.manner (path ++ b.number ∷ []) (both (λ k. k < 4294967296) path (b.number ∷ []) few (omega (arith, e, f, g, h, l), tt))
        (free_in b.manner (component_of k)) (named_in_call b.manner (component_of k) (has_names (component_of k) (identified p ids (component_of k) at)))
        k u.2 at (omega (arith, e, f, w)))
        (fine_below i path few (suc j) ss is u.3 q.1 (omega (arith, e, f, g, l)) (omega (arith, e, f, w)))

  pub all_fine : (i : Instance) → IsUnfolded p i → Contains (components p) (component_of i) → length (slots_in plain [] i) ≤ 20000
      → AllByRecursion IsFine (listable n i)
  all_fine i u at l =
      let names : HasNames (component_of i) = has_names (component_of i) (identified p ids (component_of i) at) in
      both IsFine (listable_names [] n true (component_of i).inputs) _ (fine_names [] tt n some true (component_of i).inputs names.inputs)
      (fine_in plain [] tt (free_names (component_of i)) names.free i u at l)
