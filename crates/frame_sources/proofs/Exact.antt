-- The sources that the walk makes of a declaration are those of its instance.
use Rattle.std.proofs.Common.{◌≡◌, ℕ, ◌<◌, min, List, [], map, length, Option, Some, None, option_map, refl, sym, ap, ◌∙◌, arith}
use Rattle.std.specs.Prelude.{Contains, slice_get}
use Rattle.std.proofs.lemmas.Option.{slice_get-map}
use Rattle.lus_tree.specs.Tree.{Component, Program}
use Rattle.lus_meaning.specs.ClockFaults.{components}
use Rattle.lus_meaning.specs.Program.{instance_of}
use Rattle.lus_meaning.specs.Refusals.{IsChecked}
use Rattle.lus_meaning.specs.Scene.{plain, variables}
use Rattle.lus_meaning.specs.Slots.{width}
use Rattle.lus_meaning.specs.WellMade.{AreDistinct}
use Rattle.name_table.specs.Names.{number_of}
use Rattle.lus_limits.specs.Summaries.{bound, cut}
use Rattle.lus_limits.specs.SystemSizes.{system_size}
use Rattle.lus_limits.specs.declared.systems.SystemSize.{SystemSize}
use Rattle.sys_meaning.specs.System.{number_of as number_at}
use Rattle.sys_places.proofs.Numbers.{stands_at_root}
use Rattle.sys_tables.specs.Tabled.{Tabled, names_of, table_of}
use Rattle.sys_frames.specs.Systems.{missing_in, names_in}
use Rattle.sys_frames.proofs.Checked.{Laws, table_list}
use Rattle.sys_frames.proofs.Whole.{table_there}
use Rattle.slot_sources.specs.Source.{always}
use Rattle.slot_sources.specs.Sources.{sources_in, sources_of}
use Rattle.frame_sources.specs.Walked.{sources_at}
use Rattle.frame_sources.proofs.Named.{none_zipped}
use Rattle.frame_sources.proofs.Translated.{frames_so}

module _ (laws : Laws) (p : Program) (c : IsChecked p) (once : AreDistinct (names_of (components p)))
    (n : Component) (j : Contains (components p) n) (small : width (instance_of p n) < 20001)
    (ts : List Tabled) (zs : List SystemSize) (place depth missing : ℕ)
    (tables : ts ≡ map (table_of p) (components p)) (sizes : zs ≡ map (system_size p) (components p))
    (placed : place ≡ number_of (names_in ts) n.name.text) (deep : depth ≡ length p) (lacks : missing ≡ missing_in (slice_get zs place)) where
  tabled : slice_get ts place ≡ Some (table_of p n)
  tabled = table_there laws p c once n j small ts zs place depth missing tables sizes placed deep lacks

  there : slice_get (components p) place ≡ Some n
  there =
      sym (back (slice_get (components p) place))
      ∙ (ap (option_map (λ (t : Tabled). t.component)) (sym (slice_get-map (table_of p) (components p) place))
      ∙ (ap (λ z. option_map (λ (t : Tabled). t.component) (slice_get z place)) (sym tables) ∙ ap (option_map (λ (t : Tabled). t.component)) tabled))
    where
      back : (o : Option Component) → option_map (λ (t : Tabled). t.component) (option_map (table_of p) o) ≡ o
      back None = refl
      back (Some n) = refl

  missing_is : missing ≡ width (instance_of p n)
  missing_is =
      lacks ∙ ap (λ z. missing_in (slice_get z place)) sizes
      ∙ (ap missing_in (slice_get-map (system_size p) (components p) place ∙ ap (option_map (system_size p)) there) ∙ exact (width (instance_of p n)) small)
    where
      exact : (k : ℕ) → k < 20001 → min bound (cut k) ≡ k
      exact k l = omega arith

  pub sources_exact : sources_at depth ts missing (slice_get ts place) ≡ sources_of (instance_of p n)
  sources_exact =
      ap (sources_at depth ts missing) tabled
      ∙ (ap (λ z. sources_at depth z missing (Some (table_of p n))) tables
      ∙ (ap (λ d. sources_at d (table_list p) missing (Some (table_of p n))) deep
      ∙ (ap (λ k. sources_at (length p) (table_list p) k (Some (table_of p n))) missing_is
      ∙ (frames_so laws p c (width (instance_of p n)) (length p) n j plain (number_at (instance_of p n)) 0 small (stands_at_root (instance_of p n)) refl always []
      (omega arith)
      ∙ ap (sources_in plain (instance_of p n) (number_at (instance_of p n)) always) (none_zipped (variables n))))))
