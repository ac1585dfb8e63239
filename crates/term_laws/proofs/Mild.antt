-- The systems of checked programs are mild.
use Rattle.std.proofs.Common.{◌≡◌, ℕ, zero, suc, ◌≤◌, ◌^◌, Bool, true, false, cond, List, [], ◌∷◌, map, Some, slice_get, refl, sym, ap, subst, arith}
use Rattle.std.specs.Prelude.{Contains, nat_lt}
use Rattle.std.specs.List.{AllByRecursion}
use Rattle.std.proofs.lemmas.Bool.Decides.{nat_tests}
use Rattle.std.proofs.lemmas.Option.{none-some}
use Rattle.lus_tree.specs.declared.place.Sort.{Sort}
use Rattle.lus_tree.specs.declared.place.Sort.TheVariants.{Bool as Flags}
use Rattle.lus_meaning.specs.Scene.{plain, Instance, component_of}
use Rattle.lus_meaning.specs.Program.{instance_of}
use Rattle.lus_meaning.specs.Scope.{greatest_weight}
use Rattle.lus_meaning.specs.Slots.{Slot, slots}
use Rattle.lus_meaning.specs.ClockFaults.{components}
use Rattle.rule_laws.specs.Laws.{IsUnfolded}
use Rattle.rule_laws.proofs.Truths.{same_some}
use Rattle.rule_laws.proofs.Unfolded.{component_within, each_unfolded}
use Rattle.kind_num.specs.declared.Shape.{Shape}
use Rattle.sys_terms.specs.View.{Formula, Machine}
use Rattle.sys_terms.specs.View as t
use Rattle.sys_terms.specs.Fits.{is_light_weight, all_light, IsMild}
use Rattle.sys_meaning.specs.Slot.{beat, Place, own, place_of, same_place, number_in}
use Rattle.sys_meaning.specs.System.{number_of, shape_of, system_of}
use Rattle.sys_meaning.specs.WellTyped.{IsKnown, slot_sort, WellTyped}
use Rattle.path_laws.proofs.Main.{each_is_well_typed}
use Rattle.term_laws.specs.Laws.{MildSystems}
use Rattle.term_laws.proofs.Fine.{Variables, Fine, all_fine_fit, all_fine_fit_one, all_fine_light}
use Rattle.term_laws.proofs.Lights.{LightTree, light_tree}
use Rattle.term_laws.proofs.Contracts.{one_within, Has}
use Rattle.term_laws.proofs.Conditions.{here_fine, first_fine, next_fine, legal_fine, properties_fine}

-- ---- the variables of a system

-- of this type, in this state or the next; and in this state alone
abbrev Either : List Shape → Variables
Either ss z n b = slice_get ss n ≡ Some (shape_of z)

abbrev Now : List Shape → Variables
Now ss z n b = (slice_get ss n ≡ Some (shape_of z)) × (b ≡ false)

found_shape : (qs : List Slot) (p : Place) (z : Sort) → slot_sort IsKnown qs p ≡ Some z →
    slice_get (map (λ p. shape_of p.sort) qs) (number_in qs p) ≡ Some (shape_of z)
found_shape [] p z e = absurd (none-some z e)
found_shape (q ∷ qs) p z e = go (same_place p (place_of q)) e (found_shape qs p z)
  where
    go : (b : Bool) → cond b (Some q.sort) (slot_sort IsKnown qs p) ≡ Some z →
        (slot_sort IsKnown qs p ≡ Some z → slice_get (map (λ p. shape_of p.sort) qs) (number_in qs p) ≡ Some (shape_of z)) →
        slice_get (shape_of q.sort ∷ map (λ p. shape_of p.sort) qs) (cond b zero (suc (number_in qs p))) ≡ Some (shape_of z)
    go true h r = ap (λ s. Some (shape_of s)) (same_some h)
    go false h r = r h

light_within : (n : ℕ) → n ≤ greatest_weight → is_light_weight n ≡ true
unfolding is_light_weight
light_within n h = below n (2 ^ 63) h
  where
    below : (n l : ℕ) → n ≤ l → nat_lt n (suc l) ≡ true
    below n l h = grind (arith, nat_tests)

module _ (i : Instance) (w : WellTyped IsKnown i) (light : LightTree i) where
  abbrev m : Machine
  m = system_of i

  abbrev NowHere : Variables
  NowHere = Now (system_of i).shapes

  abbrev EitherHere : Variables
  EitherHere = Either (system_of i).shapes

  now : Has NowHere false plain i (number_of i)
  now ks p z h = (found_shape (slots i) (ks, p) z (w.places ks p z h), refl)

  either : (b : Bool) → Has EitherHere b plain i (number_of i)
  either b ks p z h = found_shape (slots i) (ks, p) z (w.places ks p z h)

  abbrev AllNow : List Formula → Type 0
  AllNow fs = AllByRecursion (Fine NowHere greatest_weight) fs

  firsts : AllNow (system_of i).first
  firsts = first_fine NowHere i plain (number_of i) w.tree light now

  heres : AllNow (system_of i).here
  heres = here_fine NowHere i plain (number_of i) w.tree light now (t.flag record { number = number_of i (own beat); next = false })
      (beat_now i w) [] tt
    where
      beat_now : (i : Instance) (w : WellTyped IsKnown i) → Now (system_of i).shapes Flags (number_of i (own beat)) false
      beat_now i w = (found_shape (slots i) (own beat) Flags (w.places [] beat Flags refl), refl)

  nexts : AllByRecursion (Fine EitherHere greatest_weight) (system_of i).next
  nexts = next_fine EitherHere i plain (number_of i) w.tree light (either false) (either true)

  legals : AllNow (system_of i).legal
  legals = legal_fine NowHere i plain (number_of i) w.tree light now

  checks : AllNow (system_of i).properties
  checks = properties_fine NowHere i plain (number_of i) w.tree light now

  shown : (z : Sort) (n : ℕ) (b : Bool) → NowHere z n b → slice_get (system_of i).shapes n ≡ Some (shape_of z)
  shown z n b h = h.0

  said : (z : Sort) (n : ℕ) (b : Bool) → EitherHere z n b → slice_get (system_of i).shapes n ≡ Some (shape_of z)
  said z n b h = h

  this_state : (z : Sort) (n : ℕ) (b : Bool) → NowHere z n b → b ≡ false
  this_state z n b h = h.1

  now_light : (fs : List Formula) → AllNow fs → all_light fs ≡ true
  now_light fs a = all_fine_light NowHere greatest_weight one_within (light_within greatest_weight (omega arith)) light_within fs a

  pub mild : IsMild (system_of i)
  mild = record {
    fit = record {
      first = all_fine_fit_one m.shapes NowHere greatest_weight shown this_state m.first firsts;
      here = all_fine_fit_one m.shapes NowHere greatest_weight shown this_state m.here heres;
      next = all_fine_fit m.shapes EitherHere greatest_weight said m.next nexts;
      legal = all_fine_fit_one m.shapes NowHere greatest_weight shown this_state m.legal legals;
      properties = all_fine_fit_one m.shapes NowHere greatest_weight shown this_state m.properties checks;
    };
    first = now_light m.first firsts;
    here = now_light m.here heres;
    next = all_fine_light EitherHere greatest_weight one_within (light_within greatest_weight (omega arith)) light_within m.next nexts;
    legal = now_light m.legal legals;
    properties = now_light m.properties checks;
  }

pub mild_systems : MildSystems
mild_systems p c n j =
    let i : Instance = instance_of p n in
    let u : IsUnfolded p i = each_unfolded p c n j in
    let here : Contains (components p) (component_of i) = subst (Contains (components p)) (sym (component_within _ p n)) j in
    mild i (each_is_well_typed p c n j).0 (light_tree p c i u here)
