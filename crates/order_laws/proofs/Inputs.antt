-- The argument for an input that a call needs comes before it.
use Rattle.std.proofs.Common.{◌≡◌, ℕ, zero, suc, pred, ◌<◌, true, cond, List, [], ◌∷◌, ◌++◌, map, Option, Some, None, slice_get, refl, ◌∙◌, sym, subst, ap, arith}
use Rattle.std.specs.Prelude.{Contains}
use Rattle.std.specs.List.{AllByRecursion}
use Rattle.std.specs.Str.{bytes_eq}
use Rattle.std.proofs.lemmas.Option.{none-some, same_Some}
use Rattle.lus_tree.specs.Tree.{Name, Expression, truth, number, name, negation, minus, pre, arrow, binary, choice, sampled, merged, call, condact, mode_name, Component, Program}
use Rattle.lus_meaning.specs.Frame.{Frame}
use Rattle.lus_meaning.specs.Scene.{Clock, while_true, Site, Instance, Instances, instance, no_instances, with_instance, outputs_of, calls_of, call_instance, instance_at}
use Rattle.lus_meaning.specs.Run.{IsRun, inputs_of}
use Rattle.lus_meaning.specs.Depends.{Need, the_beat, a_name, clock_needs, needs, modes_need, site_needs}
use Rattle.lus_meaning.specs.Cycle.{Place, place_of, deeper, matching, shared_needs, caller_needs, next_places, next_in_call, IsAt}
use Rattle.lus_meaning.specs.Program.{instance_of}
use Rattle.lus_meaning.specs.Verdict.{throughout}
use Rattle.lus_meaning.specs.ClockFaults.{components}
use Rattle.lus_meaning.specs.Refusals.{IsChecked}
use Rattle.lus_meaning.proofs.Members.{IsIn, in_left, in_right, in_mapped, at_some}
use Rattle.lus_meaning.proofs.Exists.{self_bytes}
use Rattle.lus_meaning.proofs.Lists.{append_none, map_append, all_from}
use Rattle.sys_meaning.specs.Defaults.{site_at, site_of}
use Rattle.sys_meaning.specs.WellTyped.{count_of, IsKnown, Stands}
use Rattle.lus_evaluation.specs.Part.{Part, from_top, needs_of}
use Rattle.lus_evaluation.specs.Evaluation.{NeedsPlace, place_named, instance_on, IsEvaluation}
use Rattle.lus_evaluation.specs.Turn.{in_turn}
use Rattle.evaluation_laws.specs.Rows.{AreCalls}
use Rattle.order_laws.specs.Own.{own_setting}
use Rattle.order_laws.specs.Rows.{place_there}
use Rattle.order_laws.specs.Needed.{IsCalled, arguments_of, IsEvaluatedIn, NeededInputsComeBefore}
use Rattle.order_laws.proofs.Frames.{scene_further, same_place}
use Rattle.order_laws.proofs.Placed.{all_in_self, CalledIn, IsSiteOf, GivenTo}
use Rattle.order_laws.proofs.Covers.{further}
use Rattle.order_laws.proofs.Beats.{from_end}
use Rattle.order_laws.proofs.Bodies.{in_all, slice_in}
use Rattle.order_laws.proofs.Evaluated.{firsts}
use Rattle.order_laws.proofs.FirstByRows as b
use Rattle.order_laws.proofs.Needed.{needed_arguments_come_before}

-- ---- lists

pub all_mapped : {A B : Type 0} (P : B → Type 0) (f : A → B) (xs : List A) → AllByRecursion (λ x. P (f x)) xs → AllByRecursion P (map f xs)
all_mapped P f [] a = tt
all_mapped P f (x ∷ xs) a = (a.0, all_mapped P f xs a.1)

in_matching : {X : Type 0} (N : X → List Need) (x : Name) (ys : List Name) (as_ : List X) (k : ℕ) (a : X) → slice_get ys k ≡ Some x →
    slice_get as_ k ≡ Some a → (n : Need) → IsIn n (N a) → IsIn n (matching N x ys as_)
in_matching N x [] as_ k a e h n m = absurd (none-some x e)
in_matching N x (y ∷ ys) [] k a e h n m = absurd (none-some a h)
in_matching N x (y ∷ ys) (d ∷ as_) zero a e h n m =
    in_left n (cond (bytes_eq x y) (N d) []) (matching N x ys as_)
    (subst (λ z. IsIn n (cond z (N d) [])) (sym (subst (λ z. bytes_eq x z ≡ true) (sym (same_Some y x e)) (self_bytes x)))
    (subst (λ z. IsIn n (N z)) (sym (same_Some d a h)) m))
in_matching N x (y ∷ ys) (d ∷ as_) (suc k) a e h n m =
    in_right n (cond (bytes_eq x y) (N d) []) (matching N x ys as_) (in_matching N x ys as_ k a e h n m)

-- ---- what an input needs

seen_from_top : (w : List ℕ) (n : Need) → from_top w n ≡ from_end w (place_of n)
seen_from_top w the_beat = ap (λ (ks : List ℕ). let q : Place = (ks, None) in q) (sym (append_none (map pred w)))
seen_from_top w (a_name ks x) = refl

in_call : (i : Instance) (is : Instances) (j0 j : ℕ) (ks : List ℕ) (x : Option Name) (z : Place) → j < count_of is →
    IsIn z (next_places (instance_at is j) ks x) → IsIn (deeper j0 z) (next_in_call i is j0 j ks x)
in_call i no_instances j0 j ks x z l h = absurd (omega (arith, l))
in_call i (with_instance c k is) j0 zero ks x z l h =
    in_right (deeper j0 z) _ (map (deeper j0) (next_places k ks x)) (in_mapped (deeper j0) z (next_places k ks x) h)
in_call i (with_instance c k is) j0 (suc j) ks x z l h = in_call i is j0 j ks x z (omega (arith, l)) h

at_end : (i : Instance) (w ks : List ℕ) (x : Option Name) (z : Place) → AreCalls i w → IsIn z (next_places (instance_on i w) ks x) →
    IsIn (from_end w z) (next_places i (map pred w ++ ks) x)
at_end i [] ks x z a h = h
at_end i (zero ∷ w) ks x z a h = absurd (let l : 0 < 0 = a.0 in omega (arith, l))
at_end (instance d cs is) (suc k ∷ w) ks x z a h =
    in_call (instance d cs is) is k k (map pred w ++ ks) x (from_end w z) a.1 (at_end (instance_at is k) w ks x z a.2 h)

from_caller : (i : Instance) (is : Instances) (j0 j : ℕ) (x : Option Name) (n : Need) → j < count_of is →
    IsIn n (caller_needs i (site_at is j) (instance_at is j) x) → IsIn (place_of n) (next_in_call i is j0 j [] x)
from_caller i no_instances j0 j x n l h = absurd (omega (arith, l))
from_caller i (with_instance c k is) j0 zero x n l h =
    in_left (place_of n) (map place_of (caller_needs i c k x)) _ (in_mapped place_of n (caller_needs i c k x) h)
from_caller i (with_instance c k is) j0 (suc j) x n l h = from_caller i is j0 j x n (omega (arith, l)) h

caller_next : (j : Instance) (k : ℕ) → 0 < k → pred k < count_of (calls_of j) → (x : Option Name) (n : Need) →
    IsIn n (caller_needs j (site_of j k) (call_instance j k) x) → IsIn (place_of n) (next_places j (pred k ∷ []) x)
caller_next j zero c l x n h = absurd (omega (arith, c))
caller_next (instance d cs is) (suc k) c l x n h = from_caller (instance d cs is) is k k x n l h

-- what a place of a call's frame needs of the caller
pub call_next : (i : Instance) (f : Frame) (w : List ℕ) (k : ℕ) → AreCalls i w → 0 < k → pred k < count_of (calls_of (place_there i f w)) →
    (x : Option Name) (n : Need) → IsIn n (caller_needs (place_there i f w) (site_of (place_there i f w) k) (call_instance (place_there i f w) k) x) →
    IsIn (from_top w n) (next_places i (map pred (w ++ k ∷ [])) x)
call_next i f w k a c l x n h =
    let one : IsIn (place_of n) (next_places (place_there i f w) (pred k ∷ []) x) = caller_next (place_there i f w) k c l x n h in
    let two : IsIn (from_end w (place_of n)) (next_places i (map pred w ++ pred k ∷ []) x) =
    at_end i w (pred k ∷ []) x (place_of n) a (subst (λ y. IsIn (place_of n) (next_places y (pred k ∷ []) x)) (same_place w i throughout f) one) in
    subst (λ y. IsIn y (next_places i (map pred (w ++ k ∷ [])) x)) (sym (seen_from_top w n))
    (subst (λ u. IsIn (from_end w (place_of n)) (next_places i u x)) (sym (map_append pred w (k ∷ []))) two)

-- what an argument needs, the input needs for which it stands
pub input_needs : (z : Instance) (s : Site) (k : Instance) (x : Name) (m : ℕ) (a : Expression) → slice_get (inputs_of k) m ≡ Some x →
    slice_get s.arguments m ≡ Some a → (n : Need) → IsIn n (needs z (modes_need z) s.clock a) → IsIn n (caller_needs z s k (Some x))
input_needs z s k x m a e h n r =
    in_left n (matching (λ a. site_needs z (modes_need z) s s.manner ++ needs z (modes_need z) s.clock a) x (inputs_of k) s.arguments)
    (shared_needs s.manner x (outputs_of k))
    (in_matching (λ a. site_needs z (modes_need z) s s.manner ++ needs z (modes_need z) s.clock a) x (inputs_of k) s.arguments m a e h n
    (in_right n (site_needs z (modes_need z) s s.manner) (needs z (modes_need z) s.clock a) r))

-- and what a condition needs, the beat needs of the frame of its call
pub condition_needs : (z : Instance) (s : Site) (k : Instance) (a : Expression) → s.manner ≡ while_true a → (n : Need) →
    IsIn n (needs z (modes_need z) s.clock a) → IsIn n (caller_needs z s k None)
condition_needs z s k a e n r =
    subst (λ y. IsIn n (site_needs z (modes_need z) s y)) (sym e) (in_right n (clock_needs s.clock) (needs z (modes_need z) s.clock a) r)

-- ---- the call

module _ (i : Instance) (f : Frame) (t : ℕ) (w : List ℕ) (b : List Part) (c : Clock) (v : List ℕ) where
  pub record Sited (x : Expression) : Type 0 where
    pub number : ℕ
    pub same : v ≡ w ++ number ∷ []
    pub site : IsSiteOf i f t w number c (arguments_of x)
    pub among : pred number < count_of (calls_of (place_there i f w))
    pub given : GivenTo i f t w number b

  pub sited : (x : Expression) → IsCalled w x v → CalledIn i f t w b c x → Stands (place_there i f w) (IsKnown (place_there i f w)) c x → Sited x
  sited (call p k n as_) h s st = record { number = k; same = h; site = s.2; among = st.0.call.listed; given = s.3 }
  sited (condact p k a n as_ ds) h s st = record { number = k; same = h; site = s.2; among = st.0.call.listed; given = s.3 }
  sited (truth p a) h s st = absurd h
  sited (number p a) h s st = absurd h
  sited (name p a) h s st = absurd h
  sited (negation p a) h s st = absurd h
  sited (minus p a) h s st = absurd h
  sited (pre p l a) h s st = absurd h
  sited (arrow p l a d) h s st = absurd h
  sited (binary p o a d) h s st = absurd h
  sited (choice p a d e) h s st = absurd h
  sited (sampled p a q x) h s st = absurd h
  sited (merged p x a d) h s st = absurd h
  sited (mode_name p d m) h s st = absurd h

module _ (p : Program) (c : IsChecked p) (n : Component) (j : Contains (components p) n) (qs : List Part) (ev : IsEvaluation (instance_of p n) qs)
    (m : ℕ) (f : Frame) (run : IsRun (instance_of p n) m throughout f) (t : ℕ) (l : t < m) (front : List Part) (q : Part) (rest : List Part)
    (e : qs ≡ front ++ q ∷ rest) (v : List ℕ) (called : IsCalled q.way q.expression v) (g : ℕ) (x : Name) (a : Expression)
    (input : slice_get (inputs_of (place_there (instance_of p n) f v)) g ≡ Some x) (argument : slice_get (arguments_of q.expression) g ≡ Some a)
    (needed : NeedsPlace (instance_of p n) q.needs (place_named v x)) where
  abbrev i : Instance
  i = instance_of p n

  abbrev w : List ℕ
  w = q.way

  abbrev z : Instance
  z = place_there i f w

  abbrev ns : List Need
  ns = needs z (modes_need z) q.clock a

  abbrev place_in_turn : ℕ
  place_in_turn = (b.at p c n j qs ev m f run t l front q rest e).number

  site : Sited i f t w (firsts place_in_turn (in_turn ev.orders i)) q.clock v q.expression
  site =
      sited i f t w (firsts place_in_turn (in_turn ev.orders i)) q.clock v q.expression called (b.here p c n j qs ev m f run t l front q rest e).called
      (b.here p c n j qs ev m f run t l front q rest e).stands

  input_there : slice_get (inputs_of (call_instance z site.number)) g ≡ Some x
  input_there =
      subst (λ y. slice_get (inputs_of y) g ≡ Some x)
      (ap (λ u. place_there i f u) site.same ∙ ap (λ y. y.place) (scene_further w i throughout f site.number)) input

  next : (k : Need) → IsIn k ns → IsIn (from_top w k) (next_places i (map pred v) (Some x))
  next k h =
      subst (λ u. IsIn (from_top w k) (next_places i (map pred u) (Some x))) (sym site.same)
      (call_next i f w site.number (b.here p c n j qs ev m f run t l front q rest e).calls site.site.2 site.among (Some x) k
      (input_needs z (site_of z site.number) (call_instance z site.number) x g a input_there
      (subst (λ as_. slice_get as_ g ≡ Some a) (sym site.site.1) argument) k
      (subst (λ d. IsIn k (needs z (modes_need z) d a)) (sym site.site.0) h)))

  reached : (k : Need) → IsIn k ns → NeedsPlace i q.needs (from_top w k)
  reached k h =
      let s : (y : ℕ) × IsAt y (from_top w k) (next_places i (map pred v) (Some x)) =
      at_some (from_top w k) (next_places i (map pred v) (Some x)) (next k h) in
      further i q.needs (place_named v x) (from_top w k) needed ((s.0, from_top w k) ∷ []) (s.1, tt) refl

  abbrev Comes : Expression → Type 0
  Comes y =
      AllByRecursion (λ z. NeedsPlace i q.needs z) (needs_of (own_setting (place_there i f w) w []) q.clock y) → IsEvaluatedIn i f t front w q.clock y

  pub input_before : IsEvaluatedIn i f t front w q.clock a
  input_before =
      in_all Comes (arguments_of q.expression) a (needed_arguments_come_before p c n j qs ev m f run t l front q rest e)
      (slice_in (arguments_of q.expression) g a argument)
      (all_mapped (λ z. NeedsPlace i q.needs z) (from_top w) ns
      (all_from (λ k. IsIn k ns) (λ k. NeedsPlace i q.needs (from_top w k)) (λ k h. reached k h) ns (all_in_self ns)))

pub needed_inputs_come_before : NeededInputsComeBefore
needed_inputs_come_before p c n j qs ev m f run t l front q rest e v h k x a y z r =
    input_before p c n j qs ev m f run t l front q rest e v h k x a y z r
