-- A part that gives a name has a whole whose needs are needs of that name.
use Rattle.std.proofs.Common.{◌≡◌, ℕ, zero, suc, pred, Bool, true, false, cond, List, [], ◌∷◌, ◌++◌, map, refl, ap, ◌∙◌, sym, subst, Option, Some, None}
use Rattle.std.specs.List.{AllByRecursion}
use Rattle.std.proofs.lemmas.Bool.{false≢true}
use Rattle.lus_tree.specs.Tree.{Name}
use Rattle.lus_meaning.specs.Scene.{Instance, Instances, instance, no_instances, with_instance, component_of, instance_at, no_instance}
use Rattle.lus_meaning.specs.Run.{Equation, equations}
use Rattle.lus_meaning.specs.Depends.{Need, the_beat, a_name, equation_needs, named_in}
use Rattle.lus_meaning.specs.Cycle.{Place, place_of, deeper, declared_needs, equation_step, defined_needs, own_needs, caller_needs, at_top, next_places, next_in_call}
use Rattle.lus_meaning.proofs.Members.{IsIn, in_left, in_right, in_mapped}
use Rattle.lus_meaning.proofs.Lists.{append_none, all_from}
use Rattle.clock_laws.proofs.Reaching.{in_image}
use Rattle.frame_laws.proofs.Along.{along, IsAlong, CallsAlong}
use Rattle.lus_evaluation.specs.Part.{Part, from_top}
use Rattle.evaluation_laws.proofs.EachPart.{right_part, RightSides, CallSides}

-- ---- what an equation needs, its left names need

cond_in : {A : Type 0} (x : A) (c : Bool) (xs : List A) → c ≡ true → IsIn x xs → IsIn x (cond c xs [])
cond_in x true xs e h = h
cond_in x false xs e h = absurd (false≢true e)

abbrev NeededBy : Instance → (Name → List Need) → Equation → Type 0
NeededBy i by e = (x : Name) → named_in x e.names ≡ true → (n : Need) → IsIn n (equation_needs i e) → IsIn n (by x)

each_defined : (i : Instance) (es : List Equation) → AllByRecursion (NeededBy i (λ x. defined_needs i x es)) es
each_defined i [] = tt
each_defined i (e ∷ es) = (
  (λ x h n m. in_left n (cond (named_in x e.names) (equation_step i e) []) (defined_needs i x es)
      (cond_in n (named_in x e.names) (equation_step i e) h (in_right n _ (equation_needs i e) m))),
  all_from (NeededBy i (λ x. defined_needs i x es)) (NeededBy i (λ x. defined_needs i x (e ∷ es)))
      (λ q a x h n m. in_right n (cond (named_in x e.names) (equation_step i e) []) (defined_needs i x es) (a x h n m)) es (each_defined i es),
)

each_owned : (i : Instance) → AllByRecursion (NeededBy i (own_needs i)) (equations (component_of i))
each_owned i =
    all_from (NeededBy i (λ x. defined_needs i x (equations (component_of i)))) (NeededBy i (own_needs i))
    (λ q a x h n m. in_right n (declared_needs (component_of i) x) (defined_needs i x (equations (component_of i))) (a x h n m))
    (equations (component_of i)) (each_defined i (equations (component_of i)))

own_next : (i : Instance) (x : Name) (n : Need) → IsIn n (own_needs i x) → IsIn (place_of n) (next_places i [] (Some x))
own_next (instance d cs is) x n h = in_mapped place_of n (own_needs (instance d cs is) x) h

-- ---- needs at the end of a way of calls

-- a place of the frame at the end of a way of calls
abbrev from_end : List ℕ → Place → Place
from_end w z = (map pred w ++ z.0, z.1)

in_call : (i : Instance) (is : Instances) (j0 j : ℕ) (ks : List ℕ) (x : Option Name) (z : Place) →
    IsIn z (next_places (instance_at is j) ks x) → IsIn (deeper j0 z) (next_in_call i is j0 j ks x)
in_call i no_instances j0 j ks x z h = nowhere ks x h
  where
    nowhere : (ks : List ℕ) (x : Option Name) → IsIn z (next_places no_instance ks x) → IsIn (deeper j0 z) []
    nowhere [] None h = h
    nowhere [] (Some y) h = h
    nowhere (k ∷ ks) y h = h
in_call i (with_instance c k is) j0 zero ks x z h =
    in_right (deeper j0 z) (map place_of (at_top ks (caller_needs i c k x))) (map (deeper j0) (next_places k ks x))
    (in_mapped (deeper j0) z (next_places k ks x) h)
in_call i (with_instance c k is) j0 (suc j) ks x z h = in_call i is j0 j ks x z h

nothing_along : (w : List ℕ) → along no_instance w ≡ no_instance
nothing_along [] = refl
nothing_along (zero ∷ w) = nothing_along w
nothing_along (suc k ∷ w) = nothing_along w

at_end : (i : Instance) (w : List ℕ) (x : Name) (z : Place) → IsIn z (next_places (along i w) [] (Some x)) →
    IsIn (from_end w z) (next_places i (map pred w) (Some x))
at_end i [] x z h = h
at_end i (zero ∷ w) x z h = absurd (subst (λ k. IsIn z (next_places k [] (Some x))) (nothing_along w) h)
at_end (instance d cs is) (suc k ∷ w) x z h =
    in_call (instance d cs is) is k k (map pred w) (Some x) (from_end w z) (at_end (instance_at is k) w x z h)

seen_from_top : (w : List ℕ) (n : Need) → from_top w n ≡ from_end w (place_of n)
seen_from_top w the_beat = ap (λ (ks : List ℕ). let q : Place = (ks, None) in q) (sym (append_none (map pred w)))
seen_from_top w (a_name ks x) = refl

-- ---- right sides

-- what a part needs, each name needs that it gives
abbrev pub NeedsItsWhole : Instance → Part → Type 0
NeedsItsWhole top q =
    (x : Name) → named_in x q.gives ≡ true → (z : Place) → IsIn z q.needs → IsIn z (next_places top (map pred q.way) (Some x))

pub gives_nothing : (top : Instance) (q : Part) → q.gives ≡ [] → NeedsItsWhole top q
gives_nothing top q e x h z m = absurd (false≢true (ap (named_in x) (sym e) ∙ h))

right_side : (top i : Instance) (w : List ℕ) → along top w ≡ i → (e : Equation) → NeededBy i (own_needs i) e → NeedsItsWhole top (right_part i w e)
right_side top i w a e owned x h z m =
    let r : (n : Need) × IsIn n (equation_needs i e) × (z ≡ from_top w n) = in_image (from_top w) z (equation_needs i e) m in
    let s : IsIn (place_of r.0) (next_places (along top w) [] (Some x)) = subst (λ k. IsIn (place_of r.0) (next_places k [] (Some x))) (sym a)
    (own_next i x r.0 (owned x h r.0 r.1)) in
    subst (λ y. IsIn y (next_places top (map pred w) (Some x))) (sym (r.2 ∙ seen_from_top w r.0)) (at_end top w x (place_of r.0) s)

mutual
  pub right_sides : (top : Instance) (w : List ℕ) (i : Instance) → IsAlong top w i →
      RightSides (NeedsItsWhole top) (gives_nothing top) w i
  right_sides top w (instance d cs is) a = (
    all_from (NeededBy (instance d cs is) (own_needs (instance d cs is))) (λ e. NeedsItsWhole top (right_part (instance d cs is) w e))
        (right_side top (instance d cs is) w a.0) (equations d) (each_owned (instance d cs is)),
    call_sides top w is a.3,
  )

  pub call_sides : (top : Instance) (w : List ℕ) (is : Instances) → CallsAlong top w is →
      CallSides (NeedsItsWhole top) (gives_nothing top) w is
  call_sides top w no_instances a = tt
  call_sides top w (with_instance c k is) a = (right_sides top (w ++ c.number ∷ []) k a.1, call_sides top w is a.2)
