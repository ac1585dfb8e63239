-- An import has the beat of the frame that imports it: what its frame needs, seen from there.
use Rattle.std.proofs.Common.{◌≡◌, ℕ, zero, suc, pred, ◌<◌, List, [], ◌∷◌, ◌++◌, map, Option, Some, None, refl, ap, ◌∙◌, sym, subst, arith}
use Rattle.std.proofs.Math.Logic.{◌⊎◌, inl, inr}
use Rattle.std.proofs.lemmas.Option.{none-some}
use Rattle.lus_tree.specs.Tree.{Name}
use Rattle.lus_meaning.specs.Scene.{base, Manner, as_import, Site, Instance, Instances, instance, no_instances, with_instance, instance_at}
use Rattle.lus_meaning.specs.Depends.{Need, the_beat, a_name, inside, clock_needs, site_needs, modes_need}
use Rattle.lus_meaning.specs.Cycle.{Place, place_of, deeper, caller_needs, at_top, next_places, next_in_call, IsWay, last_place}
use Rattle.lus_meaning.proofs.Members.{IsIn, in_mapped}
use Rattle.lus_meaning.proofs.Lists.{append_none, map_append}
use Rattle.clock_laws.proofs.Reaching.{at_in, in_either, in_image}
use Rattle.sys_meaning.specs.Defaults.{site_at}
use Rattle.sys_meaning.specs.WellTyped.{IsImport}
use Rattle.lus_evaluation.specs.Part.{from_top}
use Rattle.lus_evaluation.specs.Evaluation.{NeedsPlace, place_named, instance_on}
use Rattle.evaluation_laws.specs.Rows.{AreCalls}
use Rattle.order_laws.proofs.Lists.{grouped}
use Rattle.order_laws.proofs.Covers.{further, needs_itself, CoversNeeds}

-- a place of the frame at the end of a way of calls
abbrev pub from_end : List ℕ → Place → Place
from_end w z = (map pred w ++ z.0, z.1)

-- ---- what the beat of a call needs

in_call_back : (i : Instance) (is : Instances) (j0 j : ℕ) (ks : List ℕ) (x : Option Name) (z : Place) → ((ns : List Need) → at_top ks ns ≡ []) →
    IsIn z (next_in_call i is j0 j ks x) → (y : Place) × IsIn y (next_places (instance_at is j) ks x) × (z ≡ deeper j0 y)
in_call_back i no_instances j0 j ks x z e h = absurd h
in_call_back i (with_instance c k is) j0 zero ks x z e h =
    in_image (deeper j0) z (next_places k ks x)
    (subst (λ l. IsIn z (map place_of l ++ map (deeper j0) (next_places k ks x))) (e (caller_needs i c k x)) h)
in_call_back i (with_instance c k is) j0 (suc j) ks x z e h = in_call_back i is j0 j ks x z e h

below_top : (w : List ℕ) (k : ℕ) (ns : List Need) → at_top (map pred w ++ k ∷ []) ns ≡ []
below_top [] k ns = refl
below_top (m ∷ w) k ns = refl

-- a place that a place of a call needs is one of the frame in which the call stands, or below
at_end_back : (i : Instance) (w : List ℕ) (k : ℕ) (x : Option Name) (z : Place) → AreCalls i w → IsIn z (next_places i (map pred w ++ k ∷ []) x) →
    (y : Place) × IsIn y (next_places (instance_on i w) (k ∷ []) x) × (z ≡ from_end w y)
at_end_back i [] k x z a h = (z, h, refl)
at_end_back i (zero ∷ w) k x z a h = absurd (let l : 0 < 0 = a.0 in omega (arith, l))
at_end_back (instance d cs is) (suc m ∷ w) k x z a h =
    let r : (y : Place) × IsIn y (next_places (instance_at is m) (map pred w ++ k ∷ []) x) × (z ≡ deeper m y) =
    in_call_back (instance d cs is) is m m (map pred w ++ k ∷ []) x z (below_top w k) h in
    let q : (y : Place) × IsIn y (next_places (instance_on (instance_at is m) w) (k ∷ []) x) × (r.0 ≡ from_end w y) =
    at_end_back (instance_at is m) w k x r.0 a.2 r.1 in
    (q.0, q.1, r.2 ∙ ap (deeper m) q.2)

beat_none : (k : Instance) → next_places k [] None ≡ []
beat_none (instance d cs is) = refl

beat_back : (i : Instance) (is : Instances) (j0 j : ℕ) (z : Place) → IsIn z (next_in_call i is j0 j [] None) →
    (n : Need) × IsIn n (caller_needs i (site_at is j) (instance_at is j) None) × (z ≡ place_of n)
beat_back i no_instances j0 j z h = absurd h
beat_back i (with_instance c k is) j0 zero z h =
    go (in_either z (map place_of (caller_needs i c k None)) (map (deeper j0) (next_places k [] None)) h)
  where
    go : IsIn z (map place_of (caller_needs i c k None)) ⊎ IsIn z (map (deeper j0) (next_places k [] None)) →
        (n : Need) × IsIn n (caller_needs i c k None) × (z ≡ place_of n)
    go (inl m) = in_image place_of z (caller_needs i c k None) m
    go (inr m) = absurd (subst (λ l. IsIn z (map (deeper j0) l)) (beat_none k) m)
beat_back i (with_instance c k is) j0 (suc j) z h = beat_back i is j0 j z h

import_needs : (i : Instance) (s : Site) (m : Manner) (xs : List Name) (n : Need) → m ≡ as_import xs → s.clock ≡ base →
    IsIn n (site_needs i (modes_need i) s m) → n ≡ the_beat
import_needs i s m xs n e c h =
    go (subst (λ z. IsIn n (clock_needs z)) c (subst (λ z. IsIn n (site_needs i (modes_need i) s z)) e h))
  where
    go : IsIn n (the_beat ∷ []) → n ≡ the_beat
    go (inl q) = q
    go (inr q) = absurd q

import_beat : (j : Instance) (k : ℕ) → IsImport j k → (z : Place) → IsIn z (next_places j (pred k ∷ []) None) → z ≡ place_of the_beat
import_beat (instance d cs is) k im z h =
    let r : (n : Need) × IsIn n (caller_needs (instance d cs is) (site_at is (pred k)) (instance_at is (pred k)) None) × (z ≡ place_of n) =
    beat_back (instance d cs is) is (pred k) (pred k) z h in
    r.2 ∙ ap place_of (import_needs (instance d cs is) (site_at is (pred k)) (site_at is (pred k)).manner im.outputs r.0 im.manner im.clock r.1)

-- ---- seen from the frame that imports

module _ (i : Instance) (w : List ℕ) (k : ℕ) (a : AreCalls i w) (j : Instance) (same : instance_on i w ≡ j) (im : IsImport j k) (ns : List Place) (qs : List Need)
  where
    abbrev above : List Place
    above = map (from_top w) (map (inside (pred k)) qs)

    at_import : map pred (w ++ k ∷ []) ≡ map pred w ++ pred k ∷ []
    at_import = map_append pred w (k ∷ [])

    beat_above : (z : Place) → IsIn z (next_places i (map pred (w ++ k ∷ [])) None) → z ≡ from_top w the_beat
    beat_above z h =
        let r : (y : Place) × IsIn y (next_places (instance_on i w) (pred k ∷ []) None) × (z ≡ from_end w y) =
        at_end_back i w (pred k) None z a (subst (λ l. IsIn z (next_places i l None)) at_import h) in
        r.2 ∙ ap (from_end w) (import_beat j k im r.0 (subst (λ q. IsIn r.0 (next_places q (pred k ∷ []) None)) same r.1))
        ∙ ap (λ (ks : List ℕ). let z : Place = (ks, None) in z) (append_none (map pred w))

    name_above : (ks : List ℕ) (x : Name) → from_top w (inside (pred k) (a_name ks x)) ≡ from_top (w ++ k ∷ []) (a_name ks x)
    name_above ks x =
        ap (λ (l : List ℕ). let z : Place = (l, Some x) in z) (sym (ap (λ l. l ++ ks) at_import ∙ grouped (map pred w) (pred k ∷ []) ks))

    needed_above : (n : Need) → IsIn n qs → IsIn (from_top w (inside (pred k) n)) above
    needed_above n m = in_mapped (from_top w) (inside (pred k) n) (map (inside (pred k)) qs) (in_mapped (inside (pred k)) n qs m)

    from_need : (v : List ℕ) (x : Name) (n : Need) → IsIn n qs → (rest : List (ℕ × Place)) → IsWay i (from_top (w ++ k ∷ []) n) rest →
        last_place (from_top (w ++ k ∷ []) n) rest ≡ place_named v x → NeedsPlace i above (place_named v x)
    from_need v x (a_name ks y) m rest way e =
        further i above (from_top (w ++ k ∷ []) (a_name ks y)) (place_named v x)
        (needs_itself i above (from_top (w ++ k ∷ []) (a_name ks y))
        (subst (λ z. IsIn z above) (name_above ks y) (needed_above (a_name ks y) m))) rest way e
    from_need v x the_beat m [] way e = absurd (none-some x (ap (λ (z : Place). z.1) e))
    from_need v x the_beat m (q ∷ rest) way e =
        further i above q.1 (place_named v x)
        (needs_itself i above q.1 (subst (λ z. IsIn z above)
        (sym (beat_above q.1 (at_in q.0 q.1 (next_places i (map pred (w ++ k ∷ [])) None) way.0))) (needed_above the_beat m)))
        rest way.1 e

    pub inside_covers : CoversNeeds i w ns (map (inside (pred k)) qs) → CoversNeeds i (w ++ k ∷ []) ns qs
    inside_covers y v x h =
        let r : (n : Need) × IsIn n qs × (h.start ≡ from_top (w ++ k ∷ []) n) =
        in_image (from_top (w ++ k ∷ [])) h.start qs (at_in h.number h.start (map (from_top (w ++ k ∷ [])) qs) h.starts) in
        y v x (from_need v x r.0 r.1 h.rest (subst (λ z. IsWay i z h.rest) r.2 h.way) (ap (λ z. last_place z h.rest) (sym r.2) ∙ h.last))
