-- No frame: what isn't a call has no names, and nothing is seen of it.
use Rattle.std.proofs.Common.{◌≡◌, ℕ, zero, suc, Bool, true, false, cond, List, [], ◌∷◌, map, Option, Some, None, unwrap_or, refl, sym, ap, ◌∙◌}
use Rattle.std.specs.Prelude.{nat_le, slice_get}
use Rattle.std.specs.Option.{option_map_or}
use Rattle.lus_meaning.specs.Scene.{Instance, call_instance, no_instance}
use Rattle.lus_evaluation.specs.Evaluation.{instance_on}
use Rattle.lus_evaluation.specs.Part.{Part}
use Rattle.sys_meaning.specs.Slot.{Place, own, beat, named, memory, starting}
use Rattle.sys_texts.specs.Laws.{IsSightOf}
use Rattle.sys_meaning.specs.Translate as t
use Rattle.sys_texts.specs.Sights.{Sight, Call, counted_from_one, latest_at, latest_part, output_part, outputs_at}
use Rattle.sys_contracts.specs.Laws.{bare}
use Rattle.sys_tables.specs.Tabled.{Tabled}
use Rattle.slot_values.specs.Resolved.{resolution}
use Rattle.slot_values.specs.Resolution.{Resolution}
use Rattle.slot_sources.specs.declared.source.Switch.{Switch}
use Rattle.slot_sources.specs.Sources.{numbering_of, switch_of}
use Rattle.slot_replay.specs.Parts.{Part as PartAt}
use Rattle.evaluation_laws.specs.Resolvings.{resolvings}
use Rattle.evaluation_laws.specs.Rows.{numbers_on}
use Rattle.frame_sources.specs.Laws.{modes_at}
use Rattle.frame_sources.specs.Resolved.{Asked}
use Rattle.frame_sources.proofs.Sights.{resolved_as, switch_as}
use Rattle.part_resolver.specs.Seats.{call_seat, called, nowhere, seat_on}
use Rattle.part_resolver.specs.SlotParts.{blank, modes_there, part_at, part_over, sight_there}
use Rattle.part_resolver.proofs.Rooms.{none_behind}

-- a part by an instance and the numbers of its places
abbrev pub part_by : Instance → (Place → ℕ) → Part → PartAt
part_by i at q = record { clock = switch_of (numbering_of i at) q.clock; expression = resolution (numbering_of i at) q.expression }

-- ---- what is seen of a frame

pub seen_so : (s : Sight) (i : Instance) (at : Place → ℕ) → IsSightOf s [] (bare i at) → (q : Part) → part_over s (modes_at at i) q ≡ part_by i at q
seen_so s i at h q =
    ap (λ c. together c (part_over s (modes_at at i) q).expression) (switch_as s i at h (resolvings i) q.clock)
    ∙ ap (together (switch_of (numbering_of i at) q.clock)) (resolved_as s i at h (resolvings i) q.expression)
  where
    together : Switch → Resolution → PartAt
    together c e = record { clock = c; expression = e }

-- ---- what is seen of none

none_counted : {A : Type 0} (k : ℕ) → counted_from_one {A = A} [] k ≡ None
none_counted {A} k = either (nat_le 1 k)
  where
    either : (b : Bool) → cond {A = Option A} b None None ≡ None
    either true = refl
    either false = refl

blank_so : (missing : ℕ) (at : Place → ℕ) → ((p : Place) → at p ≡ missing) → IsSightOf (blank missing) [] (bare no_instance at)
blank_so missing at e = record {
  beats = sym (e (own beat));
  streams = refl;
  constants = λ x. refl;
  sorts = λ x. refl;
  numbers = λ x. sym (e (own (named x)));
  clocks = λ x. refl;
  memories = λ k. ap (λ o. unwrap_or o missing) (none_counted k) ∙ sym (e (own (memory k)));
  starts = λ k. ap (λ o. unwrap_or o missing) (none_counted k) ∙ sym (e (own (starting k)));
  callees = λ f. refl;
  outputs = λ k. none_outputs k;
  latest = λ k. none_latest k;
  modes = λ c m. refl;
}
  where
    none_outputs : (k : ℕ) → outputs_at (blank missing) k ≡ map (t.output_part (bare no_instance at) k) (t.outputs_at (bare no_instance at) k)
    none_outputs zero = ap (λ o. option_map_or (λ (c : Call). map output_part c.outputs) o []) (none_counted zero)
    none_outputs (suc k) = ap (λ o. option_map_or (λ (c : Call). map output_part c.outputs) o []) (none_counted (suc k))

    none_latest : (k : ℕ) → latest_at (blank missing) k ≡ map (t.latest_part (bare no_instance at) k) (t.outputs_at (bare no_instance at) k)
    none_latest zero = ap (λ o. option_map_or (λ (c : Call). map (latest_part c.beat) c.outputs) o []) (none_counted zero)
    none_latest (suc k) = ap (λ o. option_map_or (λ (c : Call). map (latest_part c.beat) c.outputs) o []) (none_counted (suc k))

nobody_on : (w : List ℕ) → instance_on no_instance w ≡ no_instance
nobody_on [] = refl
nobody_on (zero ∷ w) = nobody_on w
nobody_on (suc k ∷ w) = nobody_on w

module _ (ts : List Tabled) (missing : ℕ) where
  nowhere_further : (k : ℕ) → call_seat ts missing (nowhere ts missing) k ≡ nowhere ts missing
  nowhere_further k = ap (λ o. called ts missing (nowhere ts missing) o k) (none_behind ts)

  nowhere_on : (w : List ℕ) → seat_on ts missing (nowhere ts missing) w ≡ nowhere ts missing
  nowhere_on [] = refl
  nowhere_on (k ∷ w) = ap (λ s. seat_on ts missing s w) (nowhere_further k) ∙ nowhere_on w

  nowhere_so : (at : Place → ℕ) → ((p : Place) → at p ≡ missing) → (q : Part) → part_at ts missing (nowhere ts missing) q ≡ part_by no_instance at q
  nowhere_so at e q =
      ap (λ o. part_over (sight_there missing (nowhere ts missing) o) (modes_there ts missing (nowhere ts missing) o) q) (none_behind ts)
      ∙ seen_so (blank missing) no_instance at (blank_so missing at e) q

  pub lost_so : (w : List ℕ) (at : Place → ℕ) → ((p : Place) → at p ≡ missing) → (q : Part)
      → part_at ts missing (seat_on ts missing (nowhere ts missing) w) q ≡ part_by (instance_on no_instance w) (numbers_on w at) q
  lost_so w at e q =
      ap (λ s. part_at ts missing s q) (nowhere_on w)
      ∙ (nowhere_so (numbers_on w at) (λ p. e (_, p.1)) q ∙ sym (ap (λ i. part_by i (numbers_on w at) q) (nobody_on w)))
