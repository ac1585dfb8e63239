-- On which slots the parts of an instant rest.
use Rattle.std.proofs.Common.{◌≡◌, ℕ, zero, suc, ◌<◌, Bool, true, List, [], ◌∷◌, ◌++◌, map, length, refl, sym, subst, arith, slice_get, unwrap_or}
use Rattle.std.specs.Prelude.{Contains}
use Rattle.std.specs.List.{AllByRecursion}
use Rattle.std.proofs.Math.Logic.{inl, inr}
use Rattle.std.proofs.lemmas.Bool.{false≢true}
use Rattle.lus_tree.specs.Tree.{Component, Program}
use Rattle.lus_meaning.specs.Frame.{Frame}
use Rattle.lus_meaning.specs.Scene.{Instance, component_of, calls_of, variables}
use Rattle.lus_meaning.specs.Program.{instance_of}
use Rattle.lus_meaning.specs.Slots.{Slot, slots}
use Rattle.lus_meaning.specs.Verdict.{throughout}
use Rattle.lus_meaning.specs.ClockFaults.{components}
use Rattle.lus_meaning.specs.Refusals.{IsChecked}
use Rattle.lus_meaning.proofs.Members.{IsIn}
use Rattle.lus_meaning.proofs.Lists.{all_from}
use Rattle.lus_meaning.proofs.Now.{right_part}
use Rattle.sys_meaning.specs.Slot.{named, so_far, Place, own, place_of}
use Rattle.lus_evaluation.specs.Part.{Part}
use Rattle.lus_evaluation.specs.Frame.{text_at, frame_text, call_texts}
use Rattle.lus_evaluation.specs.Turn.{condition_parts, in_turn}
use Rattle.lus_evaluation.specs.Evaluation.{IsEvaluation}
use Rattle.lus_evaluation.specs.Past.{NonePast}
use Rattle.evaluation_laws.specs.Rows.{numbers_there}
use Rattle.slot_sources.specs.Sources.{sources_of}
use Rattle.slot_rows.specs.Agreement.{IsClosed}
use Rattle.row_laws.proofs.Lists.{both_many}
use Rattle.order_laws.proofs.Frames.{StandsAt, stands_there, same_place}
use Rattle.order_laws.proofs.Placed.{all_in_self}
use Rattle.rest_laws.specs.Rests.{part_reads, NamesIn, OfRuns, RestsBefore, Rests}
use Rattle.rest_laws.proofs.Build.{facts, in_order_from}
use Rattle.rest_laws.proofs.Conditions.{legal_read, properties_read}
use Rattle.rest_laws.proofs.Facts.{IsEntered, Facts}
use Rattle.rest_laws.proofs.Made.{some_run}
use Rattle.rest_laws.proofs.Resting as rest
use Rattle.rest_laws.proofs.Set.{rested, above_itself}
use Rattle.rest_laws.proofs.Sources.{GoodAt}

-- behind all slots there is none of the set
in_range : (qs : List Part) (xs : List Slot) (k : ℕ) → (let p : Place = unwrap_or (slice_get (map (λ q. place_of q) xs) k) ([], so_far) in rested qs p.0 p.1) ≡ true →
    k < length xs
in_range qs [] k h = absurd (false≢true h)
in_range qs (x ∷ xs) zero h = omega arith
in_range qs (x ∷ xs) (suc k) h = let l : k < length xs = in_range qs xs k h in omega (arith, l)

module _ (p : Program) (c : IsChecked p) (n : Component) (j : Contains (components p) n) (qs : List Part) (ev : IsEvaluation (instance_of p n) qs) where
  abbrev i : Instance
  i = instance_of p n

  -- some run of an instant
  abbrev f : Frame
  f = (some_run p c n j).0

  pub known : Facts i f 0 qs
  known = facts p c n j qs ev 1 f (some_run p c n j).1 0 (omega arith)

  abbrev pub in_set : ℕ → Bool
  in_set = rest.in_set i f 0 qs known

  pub closed : IsClosed (sources_of i) in_set
  closed = record {
    slots = λ k h. subst (λ l. k < l) (sym (both_many (GoodAt (rest.at_place i f 0 qs known) (rest.Good i f 0 qs known)) (slots i) (sources_of i) (rest.all_sources i f 0 qs known)))
        (in_range qs (slots i) k h);
    read = λ k e h r. (rest.source_good i f 0 qs known k e h r).read;
    now = λ k e h r. (rest.source_good i f 0 qs known k e h r).now;
    before = λ k e h r. (rest.source_good i f 0 qs known k e h r).before;
  }

  pub in_parts : (q : Part) → IsIn q qs → AllByRecursion (λ k. in_set k ≡ true) (part_reads i q)
  in_parts q h = rest.part_in i f 0 qs known q h

  names : (w : List ℕ) → IsEntered qs w → NamesIn i in_set w
  names w e =
      subst (λ z. AllByRecursion (λ v. in_set (numbers_there i w (own (named v.name.text))) ≡ true) (variables (component_of z)))
      (same_place w i throughout f) (rest.names_in i f 0 qs known w e)

  turn_read : AllByRecursion (λ q. AllByRecursion (λ k. in_set k ≡ true) (part_reads i q)) (in_turn ev.orders i)
  turn_read =
      all_from (λ q. IsIn q (in_turn ev.orders i)) (λ q. AllByRecursion (λ k. in_set k ≡ true) (part_reads i q))
      (λ q h. in_parts q (in_order_from p c n j qs ev 1 f (some_run p c n j).1 0 (omega arith) q h)) (in_turn ev.orders i) (all_in_self (in_turn ev.orders i))

  conditions : AllByRecursion (λ q. AllByRecursion (λ k. in_set k ≡ true) (part_reads i q))
      (condition_parts (text_at (call_texts ev.orders [] (calls_of i))) (frame_text ev.orders [] i) i)
  conditions =
      right_part (λ q. AllByRecursion (λ k. in_set k ≡ true) (part_reads i q)) (frame_text ev.orders [] i).body
      (condition_parts (text_at (call_texts ev.orders [] (calls_of i))) (frame_text ev.orders [] i) i) turn_read

  stands : StandsAt i f [] i
  stands = stands_there i f [] tt known.typed.tree

  pub rests : OfRuns i (λ f t. (front : List Part) (q : Part) (rest : List Part) → qs ≡ front ++ q ∷ rest → NonePast i f front t →
      RestsBefore i f t in_set q) → Rests i qs
  rests before = record {
    in_set = in_set;
    closed = closed;
    parts = all_from (λ q. IsIn q qs) (λ q. AllByRecursion (λ k. in_set k ≡ true) (part_reads i q)) in_parts qs (all_in_self qs);
    legal = legal_read (λ k. in_set k ≡ true) i f (rest.beat_up i f 0 qs known) ev.orders stands conditions;
    properties = properties_read (λ k. in_set k ≡ true) i f (rest.beat_up i f 0 qs known) ev.orders stands conditions;
    names = names [] (inl refl);
    frame_names = all_from (λ q. IsIn q qs) (λ q. NamesIn i in_set q.way) (λ q h. names q.way (inr (q, h, inl (above_itself q.way)))) qs (all_in_self qs);
    within = λ m g run t l none k e h r. (rest.source_good i g t qs (facts p c n j qs ev m g run t l) k e h r).within none;
    before = before;
  }
