-- The parts that are made of a declaration are those of its instance.
use Rattle.std.proofs.Common.{◌≡◌, ℕ, ◌<◌, min, List, [], ◌∷◌, map, length, Option, Some, None, option_map, refl, sym, ap, ◌∙◌, arith}
use Rattle.std.specs.Prelude.{Contains, slice_get}
use Rattle.std.proofs.lemmas.Option.{slice_get-map}
use Rattle.lus_tree.specs.Tree.{Component, Program}
use Rattle.lus_limits.specs.Summaries.{bound, cut}
use Rattle.lus_limits.specs.SystemSizes.{system_size}
use Rattle.lus_limits.specs.declared.calls.Way.TheVariants.{Plain}
use Rattle.lus_limits.specs.declared.systems.SystemSize.{SystemSize}
use Rattle.lus_meaning.specs.ClockFaults.{components}
use Rattle.lus_meaning.specs.Program.{instance_of}
use Rattle.lus_meaning.specs.Refusals.{IsChecked}
use Rattle.lus_meaning.specs.Scene.{Instance, plain}
use Rattle.lus_meaning.specs.Slots.{width}
use Rattle.lus_meaning.specs.WellMade.{AreDistinct}
use Rattle.lus_evaluation.specs.Part.{Part}
use Rattle.name_table.specs.Names.{number_of}
use Rattle.sys_meaning.specs.System.{number_of as number_at}
use Rattle.sys_places.proofs.Numbers.{stands_at_root}
use Rattle.sys_tables.specs.Tabled.{Tabled, names_of, table_of}
use Rattle.sys_frames.specs.Systems.{missing_in, names_in}
use Rattle.sys_frames.proofs.Checked.{Laws, seen_so, table_list}
use Rattle.sys_frames.proofs.Seen.{Seen}
use Rattle.sys_frames.proofs.Whole.{table_there}
use Rattle.part_resolver.specs.declared.seats.Seat.{Seat}
use Rattle.part_resolver.specs.Seats.{seat_on}
use Rattle.part_resolver.specs.SlotParts.{over_slots, part_at, parts_at}
use Rattle.part_resolver.proofs.Frames.{frames_so}
use Rattle.part_resolver.proofs.Placed.{others_missing}

module _ (laws : Laws) (p : Program) (c : IsChecked p) (once : AreDistinct (names_of (components p)))
    (n : Component) (j : Contains (components p) n) (small : width (instance_of p n) < 20001)
    (ts : List Tabled) (zs : List SystemSize) (place depth missing : ℕ)
    (tables : ts ≡ map (table_of p) (components p)) (sizes : zs ≡ map (system_size p) (components p))
    (placed : place ≡ number_of (names_in ts) n.name.text) (deep : depth ≡ length p) (lacks : missing ≡ missing_in (slice_get zs place)) where
  abbrev i : Instance
  i = instance_of p n

  abbrev root : ℕ → Seat
  root d = record { depth = d; place = place; way = Plain; base = 0 }

  tabled : slice_get ts place ≡ Some (table_of p n)
  tabled = table_there laws p c once n j small ts zs place depth missing tables sizes placed deep lacks

  there : slice_get (components p) place ≡ Some n
  there =
      sym (back (slice_get (components p) place))
      ∙ (ap (option_map (λ (t : Tabled). t.component)) (sym (slice_get-map (table_of p) (components p) place))
      ∙ (ap (λ z. option_map (λ (t : Tabled). t.component) (slice_get z place)) (sym tables) ∙ ap (option_map (λ (t : Tabled). t.component)) tabled))
    where
      back : (o : Option Component) → option_map (λ (t : Tabled). t.component) (option_map (table_of p) o) ≡ o
      back None = refl
      back (Some n) = refl

  missing_is : missing ≡ width i
  missing_is =
      lacks ∙ ap (λ z. missing_in (slice_get z place)) sizes
      ∙ (ap missing_in (slice_get-map (system_size p) (components p) place ∙ ap (option_map (system_size p)) there) ∙ exact (width i) small)
    where
      exact : (k : ℕ) → k < 20001 → min bound (cut k) ≡ k
      exact k l = omega arith

  seen : Seen (width i) (table_list p) (length p) (table_of p n) Plain 0 plain i (number_at i)
  seen = seen_so laws p c (width i) (length p) n j plain (number_at i) 0 small (stands_at_root i) refl

  part_so : (q : Part) → part_at (table_list p) (width i) (seat_on (table_list p) (width i) (root (length p)) q.way) q ≡ over_slots i q
  part_so q =
      frames_so (width i) (table_list p) q.way (length p) place (table_of p n) Plain 0 plain i (number_at i)
      (ap (λ z. slice_get z place) (sym tables) ∙ tabled) seen
      (others_missing (width i) (table_list p) (length p) (table_of p n) Plain 0 plain i seen refl) q

  each_so : (qs : List Part) → parts_at (table_list p) (width i) (root (length p)) qs ≡ map (over_slots i) qs
  each_so [] = refl
  each_so (q ∷ qs) =
      ap (λ x. x ∷ parts_at (table_list p) (width i) (root (length p)) qs) (part_so q) ∙ ap (λ l. over_slots i q ∷ l) (each_so qs)

  pub parts_exact : (qs : List Part) → parts_at ts missing (root depth) qs ≡ map (over_slots i) qs
  parts_exact qs =
      ap (λ z. parts_at z missing (root depth) qs) tables
      ∙ (ap (λ k. parts_at (table_list p) k (root depth) qs) missing_is
      ∙ (ap (λ d. parts_at (table_list p) (width i) (root d) qs) deep ∙ each_so qs))
