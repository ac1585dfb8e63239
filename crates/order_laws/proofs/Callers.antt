-- What a frame is given comes before a part that sees it and needs it.
use Rattle.std.proofs.Common.{◌≡◌, ℕ, zero, suc, pred, ◌<◌, true, eqb, List, [], ◌∷◌, ◌++◌, map, Option, Some, None, slice_get, refl, ap, sym, subst}
use Rattle.std.specs.Prelude.{Contains}
use Rattle.std.specs.List.{AllByRecursion}
use Rattle.std.proofs.Math.Logic.{inl, inr}
use Rattle.std.proofs.lemmas.Bool.{false≢true, eqb-true}
use Rattle.std.proofs.lemmas.Option.{none-some, same_Some}
use Rattle.lus_tree.specs.Tree.{Name, Expression, Component, Program}
use Rattle.lus_meaning.specs.Frame.{Frame}
use Rattle.lus_meaning.specs.Scene.{while_true, Site, Instance, calls_of, call_instance}
use Rattle.lus_meaning.specs.Run.{IsRun, inputs_of}
use Rattle.lus_meaning.specs.Depends.{Need, the_beat, needs, modes_need}
use Rattle.lus_meaning.specs.Cycle.{caller_needs, next_places, IsAt}
use Rattle.lus_meaning.specs.Program.{instance_of}
use Rattle.lus_meaning.specs.Verdict.{throughout}
use Rattle.lus_meaning.specs.ClockFaults.{components}
use Rattle.lus_meaning.specs.Refusals.{IsChecked}
use Rattle.lus_meaning.proofs.Members.{IsIn, at_some}
use Rattle.lus_meaning.proofs.Lists.{all_from}
use Rattle.sys_meaning.specs.Defaults.{site_of}
use Rattle.sys_meaning.specs.WellTyped.{count_of}
use Rattle.lus_evaluation.specs.Part.{Part, from_top}
use Rattle.lus_evaluation.specs.Evaluation.{is_above, NeedsPlace, place_named, instance_on, IsEvaluation}
use Rattle.lus_evaluation.specs.Turn.{in_turn}
use Rattle.evaluation_laws.specs.Rows.{AreCalls}
use Rattle.evaluation_laws.proofs.Waiting.{both_true}
use Rattle.order_laws.specs.Rows.{place_there}
use Rattle.order_laws.specs.Needed.{Sees, IsEvaluatedIn, FrameInputsComeBefore, FrameConditionsComeBefore}
use Rattle.order_laws.proofs.Frames.{scene_further, same_place}
use Rattle.order_laws.proofs.Covers.{further}
use Rattle.order_laws.proofs.Placed.{all_in_self, same_end, WholeIn, GivenTo, Placed}
use Rattle.order_laws.proofs.Evaluated.{firsts, above_itself}
use Rattle.order_laws.proofs.FirstByRows as b
use Rattle.order_laws.proofs.Needed.{whole_in}
use Rattle.order_laws.proofs.Inputs.{all_mapped, call_next, input_needs, condition_needs, Sited, sited}

-- ---- ways of calls

-- a call on a way of calls
record CallAbove (i : Instance) (w : List ℕ) (k : ℕ) : Type 0 where
  calls : AreCalls i w
  counted : 0 < k
  listed : pred k < count_of (calls_of (instance_on i w))

call_above : (i : Instance) (w : List ℕ) (k : ℕ) (u : List ℕ) → is_above (w ++ k ∷ []) u ≡ true → AreCalls i u → CallAbove i w k
call_above i [] k [] h a = absurd (false≢true h)
call_above i [] k (m ∷ u) h a =
    let e : k ≡ m = eqb-true k m (both_true (eqb k m) (is_above [] u) h).0 in
    record { calls = tt; counted = subst (λ z. 0 < z) (sym e) a.0; listed = subst (λ z. pred z < count_of (calls_of i)) (sym e) a.1 }
call_above i (n ∷ w) k [] h a = absurd (false≢true h)
call_above i (n ∷ w) k (m ∷ u) h a =
    let q : (eqb n m ≡ true) × (is_above (w ++ k ∷ []) u ≡ true) = both_true (eqb n m) (is_above (w ++ k ∷ []) u) h in
    let e : n ≡ m = eqb-true n m q.0 in
    let r : CallAbove (call_instance i n) w k =
    call_above (call_instance i n) w k u q.1 (subst (λ z. AreCalls (call_instance i z) u) (sym e) a.2) in
    record {
      calls = (subst (λ z. 0 < z) (sym e) a.0, subst (λ z. pred z < count_of (calls_of i)) (sym e) a.1, r.calls);
      counted = r.counted;
      listed = r.listed;
    }

above_shorter : (w : List ℕ) (k : ℕ) (u : List ℕ) → is_above (w ++ k ∷ []) u ≡ true → is_above w u ≡ true
above_shorter [] k u h = refl
above_shorter (n ∷ w) k [] h = absurd (false≢true h)
above_shorter (n ∷ w) k (m ∷ u) h =
    let q : (eqb n m ≡ true) × (is_above (w ++ k ∷ []) u ≡ true) = both_true (eqb n m) (is_above (w ++ k ∷ []) u) h in
    rw (q.0, above_shorter w k u q.1) refl

slice_of : {A : Type 0} (P : A → Type 0) (xs : List A) (k : ℕ) (x : A) → AllByRecursion P xs → slice_get xs k ≡ Some x → P x
slice_of P [] k x a e = absurd (none-some x e)
slice_of P (y ∷ xs) zero x a e = subst P (same_Some y x e) a.0
slice_of P (y ∷ xs) (suc k) x a e = slice_of P xs k x a.1 e

-- ---- a part that sees a frame

module _ (p : Program) (c : IsChecked p) (n : Component) (j : Contains (components p) n) (qs : List Part) (ev : IsEvaluation (instance_of p n) qs)
    (m : ℕ) (f : Frame) (run : IsRun (instance_of p n) m throughout f) (t : ℕ) (l : t < m) (front : List Part) (q : Part) (rest : List Part)
    (e : qs ≡ front ++ q ∷ rest) where
  abbrev i : Instance
  i = instance_of p n

  abbrev behind : List Part
  behind = firsts (b.at p c n j qs ev m f run t l front q rest e).number (in_turn ev.orders i)

  here : Placed i f t (in_turn ev.orders i) behind q
  here = b.here p c n j qs ev m f run t l front q rest e

  -- what the call of that frame is given stands before the part
  record Seen (w : List ℕ) (k : ℕ) : Type 0 where
    calls : AreCalls i w
    counted : 0 < k
    listed : pred k < count_of (calls_of (place_there i f w))
    given : GivenTo i f t w k behind
    above : is_above w q.way ≡ true

  seen : (w : List ℕ) (k : ℕ) → Sees q (w ++ k ∷ []) → Seen w k
  seen w k (inl a) =
      let r : CallAbove i w k = call_above i w k q.way a here.calls in record {
        calls = r.calls;
        counted = r.counted;
        listed = subst (λ y. pred k < count_of (calls_of y)) (sym (same_place w i throughout f)) r.listed;
        given = here.given w k a;
        above = above_shorter w k q.way a;
      }
  seen w k (inr h) =
      let s : Sited i f t q.way behind q.clock (w ++ k ∷ []) q.expression =
      sited i f t q.way behind q.clock (w ++ k ∷ []) q.expression h here.called here.stands in
      let r : (w ≡ q.way) × (k ≡ s.number) = same_end w q.way k s.number s.same in
      subst (λ u. Seen u k) (sym r.0) (subst (λ z. Seen q.way z) (sym r.1) record {
        calls = here.calls;
        counted = s.site.2;
        listed = s.among;
        given = s.given;
        above = above_itself q.way;
      })

  module _ (w : List ℕ) (k : ℕ) (s : Seen w k) where
    abbrev z : Instance
    z = place_there i f w

    abbrev site : Site
    site = site_of z k

    -- a whole that the call is given, where a needed place of its frame needs all that the whole needs
    whole_before : (a : Expression) → WholeIn i f t w behind site.clock a → (x : Option Name) →
        ((r : Need) → IsIn r (needs z (modes_need z) site.clock a) → IsIn r (caller_needs z site (call_instance z k) x)) →
        NeedsPlace i q.needs (map pred (w ++ k ∷ []), x) → IsEvaluatedIn i f t front w site.clock a
    whole_before a given x within needed =
        whole_in p c n j qs ev m f run t l front q rest e w s.above site.clock a given
        (all_mapped (λ y. NeedsPlace i q.needs y) (from_top w) ns
        (all_from (λ r. IsIn r ns) (λ r. NeedsPlace i q.needs (from_top w r)) (λ r h. reached r h) ns (all_in_self ns)))
      where
        ns : List Need
        ns = needs z (modes_need z) site.clock a

        reached : (r : Need) → IsIn r ns → NeedsPlace i q.needs (from_top w r)
        reached r h =
            let y : (y : ℕ) × IsAt y (from_top w r) (next_places i (map pred (w ++ k ∷ [])) x) =
            at_some (from_top w r) (next_places i (map pred (w ++ k ∷ [])) x) (call_next i f w k s.calls s.counted s.listed x r (within r h)) in
            further i q.needs (map pred (w ++ k ∷ []), x) (from_top w r) needed ((y.0, from_top w r) ∷ []) (y.1, tt) refl

    input_before : (g : ℕ) (x : Name) (a : Expression) → slice_get (inputs_of (place_there i f (w ++ k ∷ []))) g ≡ Some x →
        slice_get site.arguments g ≡ Some a → NeedsPlace i q.needs (place_named (w ++ k ∷ []) x) → IsEvaluatedIn i f t front w site.clock a
    input_before g x a input argument needed =
        whole_before a (slice_of (WholeIn i f t w behind site.clock) site.arguments g a s.given.arguments argument) (Some x)
        (input_needs z site (call_instance z k) x g a
        (subst (λ y. slice_get (inputs_of y) g ≡ Some x) (ap (λ y. y.place) (scene_further w i throughout f k)) input) argument) needed

    condition_before : (a : Expression) → site.manner ≡ while_true a → NeedsPlace i q.needs (from_top (w ++ k ∷ []) the_beat) →
        IsEvaluatedIn i f t front w site.clock a
    condition_before a h needed = whole_before a (s.given.condition a h) None (condition_needs z site (call_instance z k) a h) needed

pub frame_inputs_come_before : FrameInputsComeBefore
frame_inputs_come_before p c n j qs ev m f run t l front q rest e w k s g x a input argument needed =
    input_before p c n j qs ev m f run t l front q rest e w k (seen p c n j qs ev m f run t l front q rest e w k s) g x a input argument needed

pub frame_conditions_come_before : FrameConditionsComeBefore
frame_conditions_come_before p c n j qs ev m f run t l front q rest e w k s a h needed =
    condition_before p c n j qs ev m f run t l front q rest e w k (seen p c n j qs ev m f run t l front q rest e w k s) a h needed
