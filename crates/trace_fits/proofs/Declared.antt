-- What may be listed of a declaration of a checked program, by the tables of all.
use Rattle.std.proofs.Common.{◌≡◌, ℕ, ◌<◌, min, List, map, length, Option, Some, None, option_map, refl, sym, ap, ◌∙◌, subst, arith, Result, Ok, Err}
use Rattle.std.specs.Prelude.{Contains, slice_get, IfOk}
use Rattle.std.specs.List.{AllByRecursion}
use Rattle.std.proofs.lemmas.Option.{slice_get-map}
use Rattle.lus_tree.specs.Tree.{Component, Program}
use Rattle.lus_meaning.specs.ClockFaults.{components}
use Rattle.lus_meaning.specs.Fits.{listable}
use Rattle.lus_meaning.specs.Program.{instance_of}
use Rattle.lus_meaning.specs.Refusals.{IsChecked}
use Rattle.lus_meaning.specs.Scene.{Instance, plain}
use Rattle.lus_meaning.specs.Slots.{width}
use Rattle.lus_meaning.specs.WellMade.{AreDistinct}
use Rattle.name_table.specs.Names.{number_of}
use Rattle.lus_limits.specs.Summaries.{bound, cut}
use Rattle.lus_limits.specs.SystemSizes.{system_size}
use Rattle.lus_limits.specs.declared.systems.SystemSize.{SystemSize}
use Rattle.path_laws.proofs.Main.{each_is_well_typed}
use Rattle.sys_meaning.specs.System.{number_of as number_at}
use Rattle.sys_meaning.proofs.Follows.{some_same, none_some}
use Rattle.sys_places.proofs.Numbers.{stands_at_root}
use Rattle.sys_tables.specs.Tabled.{Tabled, names_of, table_of}
use Rattle.sys_frames.specs.Systems.{missing_in, names_in}
use Rattle.sys_frames.proofs.Checked.{Laws, table_list, seen_so}
use Rattle.sys_frames.proofs.Whole.{table_there}
use Rattle.trace_fits.specs.declared.permitted.Listable.{Listable as CodeListable}
use Rattle.trace_fits.specs.Given.{IsSlotted}
use Rattle.trace_fits.specs.Slotted.{Slotted}
use Rattle.trace_fits.specs.Views.{listable_view, slotted_view}
use Rattle.trace_fits.specs.Walked.{all_listed, all_or_none}
use Rattle.trace_fits.proofs.Fits.{listables_seen}
use Rattle.trace_fits.proofs.Walks.{AreListed, all_so, counted_so}

module _ (laws : Laws) (p : Program) (c : IsChecked p) (once : AreDistinct (names_of (components p)))
    (n : Component) (j : Contains (components p) n) (small : width (instance_of p n) < 20001)
    (ts : List Tabled) (zs : List SystemSize) (place depth missing : ℕ)
    (tables : ts ≡ map (table_of p) (components p)) (sizes : zs ≡ map (system_size p) (components p))
    (placed : place ≡ number_of (names_in ts) n.name.text) (deep : depth ≡ length p) (lacks : missing ≡ missing_in (slice_get zs place)) (k : ℕ) where
  abbrev i : Instance
  i = instance_of p n

  tabled : slice_get ts place ≡ Some (table_of p n)
  tabled = table_there laws p c once n j small ts zs place depth missing tables sizes placed deep lacks

  there : slice_get (components p) place ≡ Some n
  there = go (slice_get (components p) place) refl (sym (ap (λ z. slice_get z place) tables ∙ slice_get-map (table_of p) (components p) place) ∙ tabled)
    where
      go : (o : Option Component) → slice_get (components p) place ≡ o
          → option_map (table_of p) (slice_get (components p) place) ≡ Some (table_of p n) → slice_get (components p) place ≡ Some n
      go None f h = absurd (none_some (table_of p n) (sym (ap (option_map (table_of p)) f) ∙ h))
      go (Some m) f h =
          let e : table_of p m ≡ table_of p n = some_same (table_of p m) (table_of p n) (sym (ap (option_map (table_of p)) f) ∙ h) in
          f ∙ ap Some (ap (λ t. t.component) e)

  missing_there : missing ≡ width i
  missing_there =
      lacks ∙ ap (λ z. missing_in (slice_get z place)) sizes
      ∙ (ap missing_in (slice_get-map (system_size p) (components p) place ∙ ap (option_map (system_size p)) there) ∙ exact (width i) small)
    where
      exact : (k : ℕ) → k < 20001 → min bound (cut k) ≡ k
      exact k l = omega arith

  all_there : all_or_none ts missing k depth (slice_get ts place) ≡ all_listed (table_list p) (width i) k (length p) (table_of p n)
  all_there =
      ap (all_or_none ts missing k depth) tabled
      ∙ (ap (λ z. all_listed z missing k depth (table_of p n)) tables
      ∙ (ap (λ d. all_listed (table_list p) missing k d (table_of p n)) deep
      ∙ ap (λ m. all_listed (table_list p) m k (length p) (table_of p n)) missing_there))

  listed : AreListed (width i) k (table_list p) i (each_is_well_typed p c n j).0 (all_listed (table_list p) (width i) k (length p) (table_of p n)) (listable k i)
  listed =
      all_so (width i) k (table_list p) i (each_is_well_typed p c n j).0 (length p) (table_of p n)
      (seen_so laws p c (width i) (length p) n j plain (number_at i) 0 small (stands_at_root i) refl) (counted_so p c n j)

  pub exact_so : {V E : Type 0} (items : V → List CodeListable) (r : Result V E)
      → IfOk r (λ v. map slotted_view (items v) ≡ all_or_none ts missing k depth (slice_get ts place))
      → IfOk r (λ v. map listable_view (items v) ≡ listable k i)
  exact_so items (Ok v) h =
      sym (listables_seen (items v)) ∙ ap (map (λ (s : Slotted). s.listable)) (h ∙ all_there) ∙ listed.listables
  exact_so items (Err e) h = tt

  pub slots_so : {V E : Type 0} (items : V → List CodeListable) (r : Result V E)
      → IfOk r (λ v. map slotted_view (items v) ≡ all_or_none ts missing k depth (slice_get ts place))
      → IfOk r (λ v. AllByRecursion (IsSlotted i) (map slotted_view (items v)))
  slots_so items (Ok v) h = subst (AllByRecursion (IsSlotted i)) (sym (h ∙ all_there)) listed.slotted
  slots_so items (Err e) h = tt
