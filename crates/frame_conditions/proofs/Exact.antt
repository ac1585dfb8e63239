-- The conditions that are made of a declaration are those of its instance.
use Rattle.std.proofs.Common.{◌≡◌, ℕ, ◌<◌, ◌++◌, min, List, map, length, Option, Some, None, option_map, refl, sym, ap, ◌∙◌, arith}
use Rattle.std.specs.Prelude.{Contains, slice_get}
use Rattle.std.proofs.lemmas.Option.{slice_get-map}
use Rattle.lus_tree.specs.Tree.{Component, Program}
use Rattle.lus_meaning.specs.ClockFaults.{components}
use Rattle.lus_meaning.specs.Program.{instance_of}
use Rattle.lus_meaning.specs.Refusals.{IsChecked}
use Rattle.lus_meaning.specs.Scene.{plain, Instance}
use Rattle.lus_meaning.specs.Slots.{width}
use Rattle.lus_meaning.specs.WellMade.{AreDistinct}
use Rattle.name_table.specs.Names.{number_of}
use Rattle.lus_limits.specs.Summaries.{bound, cut}
use Rattle.lus_limits.specs.SystemSizes.{system_size}
use Rattle.lus_limits.specs.declared.calls.Way.TheVariants.{Plain}
use Rattle.lus_limits.specs.declared.systems.SystemSize.{SystemSize}
use Rattle.sys_meaning.specs.Slot.{Place}
use Rattle.sys_meaning.specs.System.{number_of as number_at}
use Rattle.sys_places.proofs.Numbers.{stands_at_root}
use Rattle.sys_tables.specs.Tabled.{Tabled, names_of, table_of}
use Rattle.sys_frames.specs.Systems.{missing_in, names_in}
use Rattle.sys_frames.proofs.Checked.{Laws, seen_so, table_list}
use Rattle.sys_frames.proofs.Seen.{Seen}
use Rattle.sys_frames.proofs.Whole.{table_there}
use Rattle.slot_values.specs.Resolution.{Resolution}
use Rattle.condition_laws.specs.Conditions.{assumed, legal_in, legal_resolutions, property_resolutions}
use Rattle.frame_conditions.specs.Conditioned.{Conditions}
use Rattle.frame_conditions.specs.Walked.{asserts_within, legal_or_none, legal_within, properties_or_none}
use Rattle.frame_conditions.proofs.Asserted.{asserts_so}
use Rattle.frame_conditions.proofs.FrameConditions.{conditions_so}
use Rattle.frame_conditions.proofs.Promised.{properties_so}

legal_so : (missing : ℕ) (ts : List Tabled) (d : ℕ) (t : Tabled) (i : Instance) (at : Place → ℕ) → Seen missing ts d t Plain 0 plain i at
    → legal_within d ts missing t ≡ legal_in i at
legal_so missing ts d t i at h =
    ap (λ (r : Conditions). r.assumes ++ asserts_within d ts missing t Plain 0) (conditions_so missing ts d t Plain 0 plain i at h)
    ∙ ap (λ l. assumed i at ++ l) (asserts_so missing ts d t Plain 0 plain i at h)

module _ (laws : Laws) (p : Program) (c : IsChecked p) (once : AreDistinct (names_of (components p)))
    (n : Component) (j : Contains (components p) n) (small : width (instance_of p n) < 20001)
    (ts : List Tabled) (zs : List SystemSize) (place depth missing : ℕ)
    (tables : ts ≡ map (table_of p) (components p)) (sizes : zs ≡ map (system_size p) (components p))
    (placed : place ≡ number_of (names_in ts) n.name.text) (deep : depth ≡ length p) (lacks : missing ≡ missing_in (slice_get zs place)) where
  tabled : slice_get ts place ≡ Some (table_of p n)
  tabled = table_there laws p c once n j small ts zs place depth missing tables sizes placed deep lacks

  there : slice_get (components p) place ≡ Some n
  there =
      sym (back (slice_get (components p) place))
      ∙ (ap (option_map (λ (t : Tabled). t.component)) (sym (slice_get-map (table_of p) (components p) place))
      ∙ (ap (λ z. option_map (λ (t : Tabled). t.component) (slice_get z place)) (sym tables) ∙ ap (option_map (λ (t : Tabled). t.component)) tabled))
    where
      back : (o : Option Component) → option_map (λ (t : Tabled). t.component) (option_map (table_of p) o) ≡ o
      back None = refl
      back (Some n) = refl

  missing_is : missing ≡ width (instance_of p n)
  missing_is =
      lacks ∙ ap (λ z. missing_in (slice_get z place)) sizes
      ∙ (ap missing_in (slice_get-map (system_size p) (components p) place ∙ ap (option_map (system_size p)) there) ∙ exact (width (instance_of p n)) small)
    where
      exact : (k : ℕ) → k < 20001 → min bound (cut k) ≡ k
      exact k l = omega arith

  whole : (f : ℕ → List Tabled → ℕ → Option Tabled → List Resolution)
      → f depth ts missing (slice_get ts place) ≡ f (length p) (table_list p) (width (instance_of p n)) (Some (table_of p n))
  whole f =
      ap (f depth ts missing) tabled
      ∙ (ap (λ z. f depth z missing (Some (table_of p n))) tables
      ∙ (ap (λ d. f d (table_list p) missing (Some (table_of p n))) deep
      ∙ ap (λ k. f (length p) (table_list p) k (Some (table_of p n))) missing_is))

  seen : Seen (width (instance_of p n)) (table_list p) (length p) (table_of p n) Plain 0 plain (instance_of p n) (number_at (instance_of p n))
  seen =
      seen_so laws p c (width (instance_of p n)) (length p) n j plain (number_at (instance_of p n)) 0 small (stands_at_root (instance_of p n)) refl

  pub legal_exact : legal_or_none depth ts missing (slice_get ts place) ≡ legal_resolutions (instance_of p n)
  legal_exact =
      whole legal_or_none
      ∙ legal_so (width (instance_of p n)) (table_list p) (length p) (table_of p n) (instance_of p n) (number_at (instance_of p n)) seen

  pub properties_exact : properties_or_none depth ts missing (slice_get ts place) ≡ property_resolutions (instance_of p n)
  properties_exact =
      whole properties_or_none
      ∙ properties_so (width (instance_of p n)) (table_list p) (length p) (table_of p n) (instance_of p n) (number_at (instance_of p n)) seen
