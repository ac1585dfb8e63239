-- A trace fits exactly where its lines fit by slots, and then each slot has what they list of it.
use Rattle.std.proofs.Common.{◌≡◌, ℕ, zero, suc, ◌<◌, Bool, true, false, cond, ◌&&◌, List, [], ◌∷◌, ◌++◌, map, length, Option, Some, None, option_map, is_some, refl, sym, ap, ◌∙◌, subst, arith, Result, Ok, Err}
use Rattle.std.specs.Prelude.{Contains, nat_le, slice_get, IfErr, IfOk, OnOk}
use Rattle.std.specs.List.{AllByRecursion, list_all}
use Rattle.std.specs.Option.{option_map_or}
use Rattle.std.specs.Str.{bytes_eq}
use Rattle.lus_tree.specs.declared.place.Pos.{Pos}
use Rattle.lus_tree.specs.Lookup.{nodes_of}
use Rattle.lus_tree.specs.Tree.{Name, Variable, declared_constant, declared_node, declared_contract, Component, Program}
use Rattle.lus_meaning.specs.ClockFaults.{components}
use Rattle.lus_meaning.specs.Fits.{Listable, FitsProgram, Test, first_failed, first_named, instance_tests, listable, listable_at, listable_in, listable_names, lines_tests, misfit, node_tests, same_place}
use Rattle.lus_meaning.specs.Fits as f
use Rattle.lus_meaning.specs.Program.{instance_of}
use Rattle.lus_meaning.specs.Refusals.{IsChecked}
use Rattle.lus_meaning.specs.Scene.{Instance, component_of}
use Rattle.lus_meaning.specs.Slots.{Cell, name_cell, memory_cell, beat_cell, start_cell, sofar_cell, held_cell, Slot, slots}
use Rattle.lus_meaning.specs.Trace.{BareLine, of_name, of_first, free_names}
use Rattle.lus_meaning.specs.TraceView.{Listing, lines_of}
use Rattle.lus_meaning.proofs.FitOrMisfit.{passes_fits}
use Rattle.lus_meaning.proofs.Lists.{all_from}
use Rattle.rule_laws.proofs.Unfolded.{component_within}
use Rattle.path_laws.proofs.Main.{each_is_well_typed}
use Rattle.sys_meaning.specs.Slot.{Place, number_in, place_of, spot_of}
use Rattle.sys_meaning.specs.System.{number_of}
use Rattle.sys_meaning.proofs.Follows.{some_same, none_some}
use Rattle.trace_text.specs.declared.fault.TraceFault.{TraceFault}
use Rattle.trace_text.specs.declared.fault.TraceFault.TheVariants.{Form, Memory}
use Rattle.trace_fits.specs.declared.fitted.Fitted.{Fitted}
use Rattle.trace_fits.specs.Filling.{Seats, are_given, filled, lines_misfit, no_seats, or_else, seated_value, trace_misfit}
use Rattle.trace_fits.specs.Given.{IsSlotted, ListedPlace, given_at, place_in, slot_place, spot_in, subject_in}
use Rattle.trace_fits.specs.Refused.{Finds, IsMisfit}
use Rattle.trace_fits.specs.Slotted.{Slotted}
use Rattle.trace_fits.specs.Views.{fitted_at, listable_view, seats_view, slotted_view}
use Rattle.trace_fits.specs.declared.permitted.Listable.{Listable as CodeListable}
use Rattle.trace_fits.proofs.Keys.{self_place}
use Rattle.trace_fits.proofs.Room.{as_many, none_seated}
use Rattle.trace_fits.proofs.Seated.{IsFull, all_given, found_by, lines_so, tests_one_by_one, values_are}

-- ---- the named node is declared

pub node_declared : (p : Program) (x : Name) (d : Component) → first_named x (nodes_of p) ≡ Some d → Contains (components p) d
node_declared [] x d e = absurd (none_some d e)
node_declared (declared_constant c ∷ ds) x d e = node_declared ds x d e
node_declared (declared_node n ∷ ds) x d e = go (bytes_eq x n.name.text) e (node_declared ds x d)
  where
    go : (b : Bool) → cond b (Some n) (first_named x (nodes_of ds)) ≡ Some d → (first_named x (nodes_of ds) ≡ Some d → Contains (components ds) d)
        → Contains (n ∷ components ds) d
    go true e r = (zero, omega arith, some_same n d e)
    go false e r = let k = r e in (suc k.0, omega (arith, k.1), k.2)
node_declared (declared_contract n ∷ ds) x d e = let k = node_declared ds x d e in (suc k.0, omega (arith, k.1), k.2)

-- ---- the place of a slot

place_same : (path : List ℕ) (c : Cell) (q : ListedPlace) → option_map (λ x. (path, x)) (subject_in c) ≡ Some q → ◌≡◌ {A = Place} (path, spot_of c) (q.0, spot_in q.1)
place_same path (name_cell v) q e = ap (λ (z : ListedPlace). (z.0, spot_in z.1)) (some_same (path, of_name v.name.text) q e)
place_same path (memory_cell m) q e = ap (λ (z : ListedPlace). (z.0, spot_in z.1)) (some_same (path, of_first m.number) q e)
place_same path beat_cell q e = absurd (none_some q e)
place_same path (start_cell a) q e = absurd (none_some q e)
place_same path sofar_cell q e = absurd (none_some q e)
place_same path (held_cell c v d) q e = absurd (none_some q e)

module _ (i : Instance) (numbered : (k : ℕ) (q : Slot) → slice_get (slots i) k ≡ Some q → number_in (slots i) (place_of q) ≡ k) where
  -- it has the number of what is there
  number_there : (k : ℕ) (q : ListedPlace) → slot_place i k ≡ Some q → number_of i (q.0, spot_in q.1) ≡ k
  number_there k q e = go (slice_get (slots i) k) refl e
    where
      go : (o : Option Slot) → slice_get (slots i) k ≡ o → option_map_or place_in o None ≡ Some q → number_of i (q.0, spot_in q.1) ≡ k
      go None f h = absurd (none_some q h)
      go (Some s) f h = ap (number_of i) (sym (place_same s.path s.cell q h)) ∙ numbered k s f

  places_apart : (j k : ℕ) (q : ListedPlace) → slot_place i j ≡ Some q → slot_place i k ≡ Some q → j ≡ k
  places_apart j k q e f = sym (number_there j q e) ∙ number_there k q f

-- ---- the inputs may be listed

some_still : {A : Type 0} (b : Bool) (x : A) (o : Option A) → is_some o ≡ true → is_some (cond b (Some x) o) ≡ true
some_still true x o e = refl
some_still false x o e = e

names_there : (path : List ℕ) (n : ℕ) (needed : Bool) (vs : List Variable) (rest : List Listable)
    → AllByRecursion (λ v. is_some (listable_at (listable_names path n needed vs ++ rest) path (of_name v.name.text)) ≡ true) vs
names_there path n needed [] rest = tt
names_there path n needed (v ∷ vs) rest =
    let one : Listable = record { path = path; subject = of_name v.name.text; sort = v.sort; count = n; needed = needed } in
    let more : List Listable = listable_names path n needed vs ++ rest in (
      ap (λ b. is_some (cond b (Some one) (listable_at more path (of_name v.name.text)))) (self_place path (of_name v.name.text)),
      all_from (λ w. is_some (listable_at more path (of_name w.name.text)) ≡ true)
          (λ w. is_some (listable_at (one ∷ more) path (of_name w.name.text)) ≡ true)
          (λ w h. some_still (same_place path (of_name v.name.text) path (of_name w.name.text)) one (listable_at more path (of_name w.name.text)) h) vs
          (names_there path n needed vs rest),
    )

pub listables_seen : (ls : List CodeListable) → map (λ s. s.listable) (map slotted_view ls) ≡ map listable_view ls
listables_seen [] = refl
listables_seen (l ∷ ls) = ap (λ z. listable_view l ∷ z) (listables_seen ls)

-- ---- the trace

module _ (p : Program) (c : IsChecked p) (t : Listing) (d : Component) (named : first_named t.node (nodes_of p) ≡ Some d) (ss : List Slotted) (w : ℕ)
    (room : AllByRecursion (λ s. s.slot < w) ss) (listed : map (λ s. s.listable) ss ≡ listable t.length (instance_of p d))
    (slotted : AllByRecursion (IsSlotted (instance_of p d)) ss) where
  abbrev i : Instance
  i = instance_of p d

  there : AllByRecursion (λ s. slot_place i s.slot ≡ Some (s.listable.path, s.listable.subject)) ss
  there = all_from (IsSlotted i) (λ s. slot_place i s.slot ≡ Some (s.listable.path, s.listable.subject)) (λ s h. h.place) ss slotted

  apart : (j k : ℕ) (q : ListedPlace) → slot_place i j ≡ Some q → slot_place i k ≡ Some q → j ≡ k
  apart = places_apart i (each_is_well_typed p c d (node_declared p t.node d named)).0.numbered

  abbrev Full : Seats → List BareLine → Type 0
  Full vs ls = IsFull (slot_place i) apart w ss there room vs ls

  empty : Full (no_seats w) []
  empty = record { long = as_many w; each = λ k. none_seated w k ∙ go (slot_place i k) }
    where
      go : (o : Option ListedPlace) → None ≡ found_by [] o
      go None = refl
      go (Some q) = refl

  abbrev lines : Option Pos
  lines = lines_misfit ss (no_seats w) t.lines

  abbrev tests : List Test
  tests = lines_tests (listable t.length i) [] t.lines

  refused : lines ≡ first_failed tests
  refused =
      (lines_so (slot_place i) apart w ss there room t.lines (no_seats w) [] empty).0
      ∙ ap (λ ls. first_failed (lines_tests ls [] t.lines)) listed

  full : lines ≡ None → Full (filled ss (no_seats w) t.lines) (lines_of t)
  full = (lines_so (slot_place i) apart w ss there room t.lines (no_seats w) [] empty).1

  same_node : component_of i ≡ d
  same_node = component_within (length p) p d

  given : lines ≡ None → are_given ss (filled ss (no_seats w) t.lines) d.inputs ≡ list_all (f.is_given (lines_of t)) (component_of i).inputs
  given m =
      all_given (slot_place i) apart w ss there room (filled ss (no_seats w) t.lines) (lines_of t) (full m) d.inputs
      (subst (λ ls. AllByRecursion (λ v. is_some (listable_at ls [] (of_name v.name.text)) ≡ true) d.inputs) (sym listed)
      (subst (λ z. AllByRecursion (λ v. is_some (listable_at (listable t.length i) [] (of_name v.name.text)) ≡ true) z.inputs) same_node
      (names_there [] t.length true (component_of i).inputs (listable_in [] t.length (free_names (component_of i)) i))))
      ∙ ap (λ z. list_all (f.is_given (lines_of t)) z.inputs) (sym same_node)

  abbrev last : Bool → Option Pos
  last b = cond b None (Some t.end_at)

  -- a trace is refused by slots where its words are
  misfit_so : misfit p t ≡ trace_misfit ss d.inputs (no_seats w) t
  misfit_so =
      ap (λ o. first_failed (node_tests p o t)) named
      ∙ ap (λ o. cond (nat_le 1 t.length && nat_le t.length 1001) o (Some t.length_at))
      (tests_one_by_one tests ((t.end_at, list_all (f.is_given (lines_of t)) (component_of i).inputs) ∷ [])
      ∙ ap (λ o. or_else o (last (list_all (f.is_given (lines_of t)) (component_of i).inputs))) (sym refused)
      ∙ sym (go lines refl))
    where
      go : (o : Option Pos) → lines ≡ o → or_else o (last (are_given ss (filled ss (no_seats w) t.lines) d.inputs))
          ≡ or_else o (last (list_all (f.is_given (lines_of t)) (component_of i).inputs))
      go (Some q) e = refl
      go None e = ap last (given e)

  lines_fit : trace_misfit ss d.inputs (no_seats w) t ≡ None → lines ≡ None
  lines_fit = go (nat_le 1 t.length && nat_le t.length 1001)
    where
      first : (o r : Option Pos) → or_else o r ≡ None → o ≡ None
      first None r e = refl
      first (Some q) r e = e

      go : (b : Bool) → cond b (or_else lines (last (are_given ss (filled ss (no_seats w) t.lines) d.inputs))) (Some t.length_at) ≡ None → lines ≡ None
      go true e = first lines (last (are_given ss (filled ss (no_seats w) t.lines) d.inputs)) e
      go false e = absurd (none_some t.length_at (sym e))

  -- what is found, and what the slots have
  pub fits : {Z : Type 0} (r : Result Z TraceFault) → Finds r (trace_misfit ss d.inputs (no_seats w) t) → OnOk r (FitsProgram p t)
  fits (Ok x) h = passes_fits p t (misfit_so ∙ h)
  fits (Err e) h = tt

  pub form : {Z : Type 0} (r : Result Z TraceFault) → Finds r (trace_misfit ss d.inputs (no_seats w) t) → IfErr r (IsMisfit p t)
  form (Ok x) h = tt
  form (Err (Form q)) h = misfit_so ∙ h
  form (Err Memory) h = tt

  pub given_so : (r : Result Fitted TraceFault) → Finds r (trace_misfit ss d.inputs (no_seats w) t)
      → IfOk r (λ x. seats_view x.seats.items ≡ filled ss (no_seats w) t.lines) → IfOk r (λ x. (k n : ℕ) → fitted_at x k n ≡ given_at i (lines_of t) k n)
  given_so (Ok x) h e = λ k n.
      ap (λ vs. seated_value vs k n) e
      ∙ values_are (slot_place i) apart w ss there room (filled ss (no_seats w) t.lines) (lines_of t) (full (lines_fit h)) k n
  given_so (Err x) h e = tt
