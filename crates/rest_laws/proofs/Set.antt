-- The slots on which the parts of an instant rest: those of the frames that parts see, but of memories only those of which a `pre` is among the parts.
use Rattle.std.proofs.Common.{◌≡◌, ℕ, Bool, true, false, ◌||◌, ◌&&◌, eqb, List, [], ◌∷◌, ◌++◌, map, refl, sym, subst, Option, Some, None}
use Rattle.std.specs.Prelude.{◌==◌}
use Rattle.std.specs.List.{AllByRecursion, list_any}
use Rattle.std.specs.Map.{lookup}
use Rattle.std.specs.Str.{bytes_eq}
use Rattle.std.proofs.Math.Logic.{◌⊎◌, inl, inr}
use Rattle.std.proofs.lemmas.Bool.{false≢true, eqb-true, eq-eqb}
use Rattle.lus_tree.specs.declared.place.Sort.{Sort}
use Rattle.lus_tree.specs.declared.place.Sort.TheVariants.{Bool as Flags}
use Rattle.lus_tree.specs.Tree.{Name, Variable, Expression, truth, number, name, negation, minus, pre, arrow, binary, choice, sampled, merged, call, condact, mode_name}
use Rattle.lus_meaning.specs.Value.{Value}
use Rattle.lus_meaning.specs.Frame.{Frame}
use Rattle.lus_meaning.specs.Scene.{Clock, base, sampled_by, as_import, Instance, component_of, constants_of, call_instance, outputs_of}
use Rattle.lus_meaning.specs.Run.{sort_of, sort_of_name}
use Rattle.lus_meaning.specs.Depends.{named_in}
use Rattle.lus_meaning.specs.Trace.{same_numbers}
use Rattle.lus_meaning.proofs.Lists.{append_none, or_left, or_true, mapped_all}
use Rattle.lus_meaning.proofs.Ranked.{all_named}
use Rattle.sys_meaning.specs.Slot.{Spot, beat, named, memory, starting, so_far, held, own, in_call}
use Rattle.sys_meaning.specs.WellTyped.{IsKnown, IsNameOn, OutputFits, NameFits, Stands, TreeFits, HasPlaceIn}
use Rattle.sys_meaning.proofs.Shows.{same_ways}
use Rattle.lus_evaluation.specs.Part.{Part}
use Rattle.lus_evaluation.specs.Evaluation.{is_above}
use Rattle.slot_values.specs.Resolved.{constant_or_slot, slot_of}
use Rattle.evaluation_laws.specs.Rows.{AreCalls, numbers_there}
use Rattle.evaluation_laws.proofs.Waiting.{both_true, both, any_in, in_any}
use Rattle.slot_sources.specs.Rows.{slots_read}
use Rattle.slot_sources.specs.Sources.{numbering_of, switch_of}
use Rattle.order_laws.specs.Needed.{IsCalled, Sees}
use Rattle.order_laws.specs.Rows.{place_there}
use Rattle.order_laws.proofs.Frames.{stands_there, stands_called}
use Rattle.rest_laws.proofs.Atoms.{Atoms}
use Rattle.rest_laws.proofs.Clocks.{IsClockNamed}
use Rattle.rest_laws.proofs.Facts.{IsEntered}

-- ---- frames that are entered, as a test

abbrev calls_frame : List ℕ → Expression → List ℕ → Bool
calls_frame u (call p k n as_) w = same_numbers w (u ++ k ∷ [])
calls_frame u (condact p k a n as_ ds) w = same_numbers w (u ++ k ∷ [])
calls_frame u _ w = false

abbrev sees : List ℕ → Part → Bool
sees w r = is_above w r.way || calls_frame r.way r.expression w

abbrev is_top : List ℕ → Bool
is_top [] = true
is_top (k ∷ w) = false

abbrev pub is_entered : List Part → List ℕ → Bool
is_entered qs w = is_top w || list_any (sees w) qs

abbrev pub is_pre : ℕ → Expression → Bool
is_pre k (pre p l a) = l == k
is_pre k _ = false

abbrev pub is_pre_of : List ℕ → ℕ → Part → Bool
is_pre_of w k r = same_numbers w r.way && is_pre k r.expression

-- the places of such frames, memories aside whose `pre` is none of the parts
abbrev pub rested : List Part → List ℕ → Spot → Bool
rested qs w beat = is_entered qs w
rested qs w (named x) = is_entered qs w
rested qs w (memory k) = list_any (is_pre_of w k) qs
rested qs w (starting k) = is_entered qs w
rested qs w so_far = false
rested qs w (held k x) = is_entered qs w && is_entered qs (w ++ k ∷ [])

pub same_itself : (w : List ℕ) → same_numbers w w ≡ true
same_itself [] = refl
same_itself (k ∷ w) = both (eqb k k) (same_numbers w w) (eq-eqb k k refl) (same_itself w)

pub above_itself : (w : List ℕ) → is_above w w ≡ true
above_itself [] = refl
above_itself (k ∷ w) = both (eqb k k) (is_above w w) (eq-eqb k k refl) (above_itself w)

calls_true : (u : List ℕ) (e : Expression) (w : List ℕ) → IsCalled u e w → calls_frame u e w ≡ true
calls_true u (call p k n as_) w h = subst (λ z. same_numbers z (u ++ k ∷ []) ≡ true) (sym h) (same_itself (u ++ k ∷ []))
calls_true u (condact p k a n as_ ds) w h = subst (λ z. same_numbers z (u ++ k ∷ []) ≡ true) (sym h) (same_itself (u ++ k ∷ []))
calls_true u (truth p a) w h = absurd h
calls_true u (number p a) w h = absurd h
calls_true u (name p a) w h = absurd h
calls_true u (negation p a) w h = absurd h
calls_true u (minus p a) w h = absurd h
calls_true u (pre p l a) w h = absurd h
calls_true u (arrow p l a d) w h = absurd h
calls_true u (binary p o a d) w h = absurd h
calls_true u (choice p a d e) w h = absurd h
calls_true u (sampled p a q x) w h = absurd h
calls_true u (merged p x a d) w h = absurd h
calls_true u (mode_name p d m) w h = absurd h

called_from : (u : List ℕ) (e : Expression) (w : List ℕ) → calls_frame u e w ≡ true → IsCalled u e w
called_from u (call p k n as_) w h = same_ways w (u ++ k ∷ []) h
called_from u (condact p k a n as_ ds) w h = same_ways w (u ++ k ∷ []) h
called_from u (truth p a) w h = absurd (false≢true h)
called_from u (number p a) w h = absurd (false≢true h)
called_from u (name p a) w h = absurd (false≢true h)
called_from u (negation p a) w h = absurd (false≢true h)
called_from u (minus p a) w h = absurd (false≢true h)
called_from u (pre p l a) w h = absurd (false≢true h)
called_from u (arrow p l a d) w h = absurd (false≢true h)
called_from u (binary p o a d) w h = absurd (false≢true h)
called_from u (choice p a d e) w h = absurd (false≢true h)
called_from u (sampled p a q x) w h = absurd (false≢true h)
called_from u (merged p x a d) w h = absurd (false≢true h)
called_from u (mode_name p d m) w h = absurd (false≢true h)

or_either : (a b : Bool) → (a || b) ≡ true → (a ≡ true) ⊎ (b ≡ true)
or_either true b h = inl refl
or_either false b h = inr h

module _ (qs : List Part) where
  pub entered_in : (w : List ℕ) → IsEntered qs w → is_entered qs w ≡ true
  entered_in w (inl e) = or_left (is_top w) (list_any (sees w) qs) (subst (λ z. is_top z ≡ true) (sym e) refl)
  entered_in w (inr h) = or_true (is_top w) (list_any (sees w) qs) (any_in (sees w) h.0 qs h.1 (go h.2))
    where
      go : Sees h.0 w → sees w h.0 ≡ true
      go (inl a) = or_left (is_above w h.0.way) (calls_frame h.0.way h.0.expression w) a
      go (inr c) = or_true (is_above w h.0.way) (calls_frame h.0.way h.0.expression w) (calls_true h.0.way h.0.expression w c)

  pub entered_out : (w : List ℕ) → is_entered qs w ≡ true → IsEntered qs w
  entered_out [] h = inl refl
  entered_out (k ∷ w) h = let r = in_any (sees (k ∷ w)) qs h in inr (r.0, r.1, go r.0 (or_either (is_above (k ∷ w) r.0.way) _ r.2))
    where
      go : (r : Part) → (is_above (k ∷ w) r.way ≡ true) ⊎ (calls_frame r.way r.expression (k ∷ w) ≡ true) → Sees r (k ∷ w)
      go r (inl a) = inl a
      go r (inr c) = inr (called_from r.way r.expression (k ∷ w) c)

-- ---- the frame above

above_parent : (w : List ℕ) (k : ℕ) (v : List ℕ) → is_above (w ++ k ∷ []) v ≡ true → is_above w v ≡ true
above_parent [] k v h = refl
above_parent (n ∷ w) k [] h = absurd (false≢true h)
above_parent (n ∷ w) k (m ∷ v) h =
    let q : (eqb n m ≡ true) × (is_above (w ++ k ∷ []) v ≡ true) = both_true (eqb n m) (is_above (w ++ k ∷ []) v) h in
    both (eqb n m) (is_above w v) q.0 (above_parent w k v q.1)

pub no_end : (w : List ℕ) (k : ℕ) → w ++ k ∷ [] ≡ [] → ⊥
no_end [] k e = cc
no_end (m ∷ w) k e = cc

pub same_end : (u w : List ℕ) (l k : ℕ) → u ++ l ∷ [] ≡ w ++ k ∷ [] → (u ≡ w) × (l ≡ k)
same_end [] [] l k e = (refl, (cc))
same_end [] (m ∷ w) l k e = absurd (no_end w k (cc))
same_end (n ∷ u) [] l k e = absurd (no_end u l (cc))
same_end (n ∷ u) (m ∷ w) l k e =
    let rest : u ++ l ∷ [] ≡ w ++ k ∷ [] = cc in
    let first : n ≡ m = cc in
    let q : (u ≡ w) × (l ≡ k) = same_end u w l k rest in
    (rw (first, q.0) refl, q.1)

called_end : (u : List ℕ) (e : Expression) (w : List ℕ) (k : ℕ) → IsCalled u e (w ++ k ∷ []) → w ≡ u
called_end u (call p l n as_) w k h = (same_end w u k l h).0
called_end u (condact p l a n as_ ds) w k h = (same_end w u k l h).0
called_end u (truth p a) w k h = absurd h
called_end u (number p a) w k h = absurd h
called_end u (name p a) w k h = absurd h
called_end u (negation p a) w k h = absurd h
called_end u (minus p a) w k h = absurd h
called_end u (pre p l a) w k h = absurd h
called_end u (arrow p l a d) w k h = absurd h
called_end u (binary p o a d) w k h = absurd h
called_end u (choice p a d e) w k h = absurd h
called_end u (sampled p a q x) w k h = absurd h
called_end u (merged p x a d) w k h = absurd h
called_end u (mode_name p d m) w k h = absurd h

-- who sees a frame sees the one above
pub sees_parent : (r : Part) (w : List ℕ) (k : ℕ) → Sees r (w ++ k ∷ []) → Sees r w
sees_parent r w k (inl a) = inl (above_parent w k r.way a)
sees_parent r w k (inr c) = inl (subst (λ z. is_above z r.way ≡ true) (sym (called_end r.way r.expression w k c)) (above_itself r.way))

pub entered_parent : (qs : List Part) (w : List ℕ) (k : ℕ) → IsEntered qs (w ++ k ∷ []) → IsEntered qs w
entered_parent qs w k (inl e) = absurd (no_end w k e)
entered_parent qs w k (inr h) = inr (h.0, h.1, sees_parent h.0 w k h.2)

calls_above : (v u : List ℕ) (i : Instance) → is_above v u ≡ true → AreCalls i u → AreCalls i v
calls_above [] u i h a = tt
calls_above (k ∷ v) [] i h a = absurd (false≢true h)
calls_above (k ∷ v) (j ∷ u) i h a =
    let q : (eqb k j ≡ true) × (is_above v u ≡ true) = both_true (eqb k j) (is_above v u) h in
    let e : j ≡ k = sym (eqb-true k j q.0) in
    subst (λ z. AreCalls i (z ∷ v)) e (a.0, a.1, calls_above v u (call_instance i j) q.1 a.2)

over_map : {A B : Type 0} (P : B → Type 0) (g : A → B) (xs : List A) → AllByRecursion (λ x. P (g x)) xs → AllByRecursion P (map g xs)
over_map P g [] a = tt
over_map P g (x ∷ xs) a = (a.0, over_map P g xs a.1)

-- ---- a slot of a frame, by what is so of places

module _ (i : Instance) (f : Frame) (tree : TreeFits IsKnown i) where
  -- which frames a way of calls leads to
  pub called_calls : (u : List ℕ) → AreCalls i u → (c : Clock) (e : Expression) → Stands (place_there i f u) (IsKnown (place_there i f u)) c e → (w : List ℕ) →
      IsCalled u e w → AreCalls i w
  called_calls u a c (call p k n as_) st w h =
      subst (AreCalls i) (sym h)
      (stands_called i f u (place_there i f u) (stands_there i f u a tree) k st.0.call.counted st.0.call.listed).calls
  called_calls u a c (condact p k x n as_ ds) st w h =
      subst (AreCalls i) (sym h)
      (stands_called i f u (place_there i f u) (stands_there i f u a tree) k st.0.call.counted st.0.call.listed).calls
  called_calls u a c (truth p x) st w h = absurd h
  called_calls u a c (number p x) st w h = absurd h
  called_calls u a c (name p x) st w h = absurd h
  called_calls u a c (negation p x) st w h = absurd h
  called_calls u a c (minus p x) st w h = absurd h
  called_calls u a c (pre p l x) st w h = absurd h
  called_calls u a c (arrow p l x d) st w h = absurd h
  called_calls u a c (binary p o x d) st w h = absurd h
  called_calls u a c (choice p x d e) st w h = absurd h
  called_calls u a c (sampled p x q y) st w h = absurd h
  called_calls u a c (merged p y x d) st w h = absurd h
  called_calls u a c (mode_name p d m) st w h = absurd h

  pub seen_calls : (r : Part) → AreCalls i r.way → Stands (place_there i f r.way) (IsKnown (place_there i f r.way)) r.clock r.expression → (w : List ℕ) →
      Sees r w → AreCalls i w
  seen_calls r a st w (inl h) = calls_above w r.way i h a
  seen_calls r a st w (inr h) = called_calls r.way a r.clock r.expression st w h

  -- what slots of places are, by what the places are
  module _ (R : ℕ → Type 0) (P : List ℕ → Spot → Type 0)
      (slot_in : (w : List ℕ) → AreCalls i w → (ks : List ℕ) (p : Spot) (z : Sort) → HasPlaceIn IsKnown (as_import []) ks (place_there i f w) p z →
      P (w ++ ks) p → R (numbers_there i w (ks, p))) where
    pub slot_own : (w : List ℕ) → AreCalls i w → (p : Spot) (z : Sort) → HasPlaceIn IsKnown (as_import []) [] (place_there i f w) p z → P w p →
        R (numbers_there i w (own p))
    slot_own w a p z h e = slot_in w a [] p z h (subst (λ v. P v p) (sym (append_none w)) e)

    pub name_in : (w : List ℕ) → AreCalls i w → (c : Clock) (x : Name) → IsNameOn (place_there i f w) (IsKnown (place_there i f w)) c x → P w (named x) →
        R (numbers_there i w (own (named x)))
    name_in w a c x n e = slot_own w a (named x) (sort_of_name (place_there i f w) x) (n.declared, n.stream, refl) e

    -- that of a clock
    abbrev pub ClockIs : List ℕ → Clock → Type 0
    ClockIs w base = P w beat
    ClockIs w (sampled_by b x) = P w (named x)

    pub switch_in : (w : List ℕ) → AreCalls i w → (c : Clock) → IsClockNamed (place_there i f w) c → ClockIs w c →
        R (switch_of (numbering_of (place_there i f w) (numbers_there i w)) c).slot
    switch_in w a base n e = slot_own w a beat Flags refl e
    switch_in w a (sampled_by b x) n e = name_in w a _ x n e

    -- What an expression reads by itself: its own names and memories, what a call gives, and the beat of a call that may rest.
    abbrev pub AtomsAre : List ℕ → Expression → Type 0
    AtomsAre w (name p x) = P w (named x)
    AtomsAre w (pre p k a) = P w (memory k)
    AtomsAre w (arrow p k a b) = P w (starting k)
    AtomsAre w (sampled p a q x) = P w (named x.text)
    AtomsAre w (merged p x a b) = P w (named x.text)
    AtomsAre w (call p k z as_) = AllByRecursion (λ v. P (w ++ k ∷ []) (named v.name.text)) (component_of (call_instance (place_there i f w) k)).outputs
    AtomsAre w (condact p k a z as_ ds) =
        P (w ++ k ∷ []) beat × AllByRecursion (λ v. P (w ++ k ∷ []) (named v.name.text) × P w (held k v.name.text))
        (component_of (call_instance (place_there i f w) k)).outputs
    AtomsAre w _ = Unit {0}

    pub atoms_in : (w : List ℕ) → AreCalls i w → (c : Clock) (e : Expression) → Stands (place_there i f w) (IsKnown (place_there i f w)) c e → AtomsAre w e →
        Atoms i f R (place_there i f w) (numbers_there i w) e
    atoms_in w a c (name p x) st e = go (lookup (bytes_eq x) (constants_of (place_there i f w))) refl st
      where
        j : Instance
        j = place_there i f w

        go : (o : Option Value) → lookup (bytes_eq x) (constants_of (place_there i f w)) ≡ o → NameFits (place_there i f w) (IsKnown (place_there i f w)) o c x →
            AllByRecursion R (slots_read (constant_or_slot o (slot_of (record { place = place_there i f w; number = numbers_there i w; modes = [] }) (own (named x)))))
        go None k n = (slot_own w a (named x) (sort_of_name (place_there i f w) x) (n.0, k, refl) e, tt)
        go (Some v) k n = tt
    atoms_in w a c (pre p k x) st e = slot_own w a (memory k) (sort_of (place_there i f w) x) (c, x, st.0, refl) e
    atoms_in w a c (arrow p k x y) st e = slot_own w a (starting k) Flags (c, st.0, refl) e
    atoms_in w a c (sampled p x q y) st e = name_in w a _ y.text st.1 e
    atoms_in w a c (merged p y x d) st e = name_in w a c y.text st.0 e
    atoms_in w a c (call p k z as_) st e =
        over_map (λ y. R (numbers_there i w (in_call k (own (named y))))) (λ v. v.name.text) (component_of (call_instance (place_there i f w) k)).outputs
        (outputs (component_of (call_instance (place_there i f w) k)).outputs st.0.call.named e)
      where
        outputs : (vs : List Variable) → AllByRecursion (OutputFits (place_there i f w) (IsKnown (place_there i f w)) k) vs →
            AllByRecursion (λ v. P (w ++ k ∷ []) (named v.name.text)) vs →
            AllByRecursion (λ v. R (numbers_there i w (in_call k (own (named v.name.text))))) vs
        outputs [] o h = tt
        outputs (v ∷ vs) o h =
            (slot_in w a (k ∷ []) (named v.name.text) v.sort (st.0.call, (o.0.2, o.0.3, o.0.1)) h.0, outputs vs o.1 h.1)
    atoms_in w a c (condact p k x z as_ ds) st e =
        over_map (λ y. R (numbers_there i w (in_call k (own beat))) × R (numbers_there i w (in_call k (own (named y)))) × R (numbers_there i w (own (held k y))))
        (λ v. v.name.text) (component_of (call_instance (place_there i f w) k)).outputs
        (outputs (component_of (call_instance (place_there i f w) k)).outputs st.0.call.named callee_named e.1)
      where
        callee_named : AllByRecursion (λ v. named_in v.name.text (outputs_of (call_instance (place_there i f w) k)) ≡ true)
            (component_of (call_instance (place_there i f w) k)).outputs
        callee_named =
            mapped_all (λ y. named_in y (outputs_of (call_instance (place_there i f w) k)) ≡ true) (λ v. v.name.text)
            (component_of (call_instance (place_there i f w) k)).outputs
            (all_named (λ y. named_in y (outputs_of (call_instance (place_there i f w) k)) ≡ true) (outputs_of (call_instance (place_there i f w) k)) (λ y q. q))

        outputs : (vs : List Variable) → AllByRecursion (OutputFits (place_there i f w) (IsKnown (place_there i f w)) k) vs →
            AllByRecursion (λ v. named_in v.name.text (outputs_of (call_instance (place_there i f w) k)) ≡ true) vs →
            AllByRecursion (λ v. P (w ++ k ∷ []) (named v.name.text) × P w (held k v.name.text)) vs →
            AllByRecursion (λ v. R (numbers_there i w (in_call k (own beat))) × R (numbers_there i w (in_call k (own (named v.name.text))))
            × R (numbers_there i w (own (held k v.name.text)))) vs
        outputs [] o n h = tt
        outputs (v ∷ vs) o n h = (
          (
            slot_in w a (k ∷ []) beat Flags (st.0.call, refl) e.0,
            slot_in w a (k ∷ []) (named v.name.text) v.sort (st.0.call, (o.0.2, o.0.3, o.0.1)) h.0.0,
            slot_own w a (held k v.name.text) v.sort (c, x, ds, st.0, n.0, o.0.1) h.0.1,
          ),
          outputs vs o.1 n.1 h.1,
        )
    atoms_in w a c (truth p x) st e = tt
    atoms_in w a c (number p x) st e = tt
    atoms_in w a c (negation p x) st e = tt
    atoms_in w a c (minus p x) st e = tt
    atoms_in w a c (binary p o x y) st e = tt
    atoms_in w a c (choice p x y d) st e = tt
    atoms_in w a c (mode_name p d m) st e = tt
