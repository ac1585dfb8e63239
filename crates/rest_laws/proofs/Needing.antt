-- What needs need: a name its clock, a frame's beat what its caller gives it by; and each whole needs the beat of its frame.
use Rattle.std.proofs.Common.{◌≡◌, ℕ, zero, suc, pred, ◌<◌, Bool, true, false, cond, ◌||◌, List, [], ◌∷◌, ◌++◌, map, flat_map, length, slice_index_or, Option, Some, None, option_map, option_to_list, unwrap_or, slice_get, refl, ap, ◌∙◌, sym, subst, arith}
use Rattle.std.specs.List.{AllByRecursion, list_any}
use Rattle.std.specs.Map.{lookup}
use Rattle.std.specs.Str.{bytes_eq}
use Rattle.std.proofs.Math.Logic.{inl, inr}
use Rattle.std.proofs.lemmas.Bool.{false≢true}
use Rattle.std.proofs.lemmas.Option.{none-some, same_Some}
use Rattle.lus_tree.specs.Tree.{Name, text_of, Variable, Expression, truth, number, name, negation, minus, pre, arrow, binary, choice, sampled, merged, call, condact, mode_name, ContractStatement, assume, guarantee, ghost_variable, constant, mode, «import»}
use Rattle.lus_meaning.specs.Frame.{Frame}
use Rattle.lus_meaning.specs.Scene.{Clock, base, sampled_by, Instance, Instances, instance, no_instances, with_instance, instance_at, component_of, calls_of, call_instance, clock_from, contract_statements, variables}
use Rattle.lus_meaning.specs.Meaning.{mode_key}
use Rattle.lus_meaning.specs.Run.{equations}
use Rattle.lus_meaning.specs.Depends.{Need, the_beat, a_name, inside, ModeNeeds, known_needs, clock_needs, needs, asked_needs, imported_needs, modes_after, modes_need, modes_need_each, site_needs, named_in}
use Rattle.lus_meaning.specs.Cycle.{Place, place_of, deeper, declared_needs, defined_needs, own_needs, matching, caller_needs, next_places, next_in_call, IsAt}
use Rattle.lus_meaning.specs.Verdict.{throughout}
use Rattle.lus_meaning.proofs.Members.{IsIn, in_left, in_right, in_mapped, at_some}
use Rattle.lus_meaning.proofs.Exists.{self_bytes}
use Rattle.lus_meaning.proofs.Lists.{append_none, map_append}
use Rattle.lus_meaning.proofs.Unique.{same_bytes}
use Rattle.clock_laws.proofs.Reaching.{next_top}
use Rattle.sys_meaning.specs.Defaults.{site_of}
use Rattle.sys_meaning.specs.Items.{Key, Known}
use Rattle.sys_meaning.specs.WellTyped.{IsKnown, IsAmong, is_declared, clock_here, OutputFits, StreamFits, ClockEnds, OwnFits, TreeFits, Stands, IsImport, count_of}
use Rattle.sys_meaning.proofs.Forward.{own_fits}
use Rattle.lus_evaluation.specs.Part.{from_top, needs_of}
use Rattle.lus_evaluation.specs.Evaluation.{NeedsPlace, place_named, instance_on}
use Rattle.evaluation_laws.specs.Resolvings.{Resolving, asked_resolving, imported_resolving, resolvings_after, resolvings, resolvings_each}
use Rattle.evaluation_laws.specs.Rows.{AreCalls}
use Rattle.order_laws.specs.Own.{own_setting}
use Rattle.order_laws.specs.Rows.{place_there}
use Rattle.order_laws.proofs.Beats.{from_end}
use Rattle.order_laws.proofs.Covers.{further, needs_itself}
use Rattle.order_laws.proofs.Frames.{StandsAt, stands_called, same_place}
use Rattle.order_laws.proofs.Inputs.{call_next}
use Rattle.order_laws.proofs.ModeKeys.{keys, keys_any, resolving_keys}
use Rattle.rest_laws.proofs.Clocks.{IsClockNamed, declared_fits}

-- ---- steps

in_call : (i : Instance) (is : Instances) (j0 j : ℕ) (ks : List ℕ) (x : Option Name) (z : Place) → j < count_of is →
    IsIn z (next_places (instance_at is j) ks x) → IsIn (deeper j0 z) (next_in_call i is j0 j ks x)
in_call i no_instances j0 j ks x z l h = absurd (omega (arith, l))
in_call i (with_instance c k is) j0 zero ks x z l h =
    in_right (deeper j0 z) _ (map (deeper j0) (next_places k ks x)) (in_mapped (deeper j0) z (next_places k ks x) h)
in_call i (with_instance c k is) j0 (suc j) ks x z l h = in_call i is j0 j ks x z (omega (arith, l)) h

at_end : (i : Instance) (w : List ℕ) (x : Option Name) (z : Place) → AreCalls i w → IsIn z (next_places (instance_on i w) [] x) →
    IsIn (from_end w z) (next_places i (map pred w) x)
at_end i [] x z a h = h
at_end i (zero ∷ w) x z a h = absurd (let l : 0 < 0 = a.0 in omega (arith, l))
at_end (instance d cs is) (suc k ∷ w) x z a h =
    in_call (instance d cs is) is k k (map pred w) x (from_end w z) a.1 (at_end (instance_at is k) w x z a.2 h)

seen_from_top : (w : List ℕ) (n : Need) → from_top w n ≡ from_end w (place_of n)
seen_from_top w the_beat = ap (λ (ks : List ℕ). let q : Place = (ks, None) in q) (sym (append_none (map pred w)))
seen_from_top w (a_name ks x) = refl

pub in_matching : {X : Type 0} (N : X → List Need) (x : Name) (ys : List Name) (as_ : List X) (k : ℕ) (a : X) → slice_get ys k ≡ Some x →
    slice_get as_ k ≡ Some a → (n : Need) → IsIn n (N a) → IsIn n (matching N x ys as_)
in_matching N x [] as_ k a e h n m = absurd (none-some x e)
in_matching N x (y ∷ ys) [] k a e h n m = absurd (none-some a h)
in_matching N x (y ∷ ys) (d ∷ as_) zero a e h n m =
    in_left n (cond (bytes_eq x y) (N d) []) (matching N x ys as_)
    (subst (λ z. IsIn n (cond z (N d) [])) (sym (subst (λ z. bytes_eq x z ≡ true) (sym (same_Some y x e)) (self_bytes x)))
    (subst (λ z. IsIn n (N z)) (sym (same_Some d a h)) m))
in_matching N x (y ∷ ys) (d ∷ as_) (suc k) a e h n m =
    in_right n (cond (bytes_eq x y) (N d) []) (matching N x ys as_) (in_matching N x ys as_ k a e h n m)

pub own_name : (w : List ℕ) (x : Name) → from_top w (a_name [] x) ≡ place_named w x
own_name w x = ap (λ (ks : List ℕ). let q : Place = (ks, Some x) in q) (append_none (map pred w))

pub call_name : (w : List ℕ) (k : ℕ) (x : Name) → from_top w (a_name (pred k ∷ []) x) ≡ place_named (w ++ k ∷ []) x
call_name w k x = ap (λ (ks : List ℕ). let q : Place = (ks, Some x) in q) (sym (map_append pred w (k ∷ [])))

-- what a declared name's clock needs, the name needs
declared_in : (j : Instance) (x : Name) (vs : List Variable) → AllByRecursion (StreamFits j (IsKnown j)) vs →
    named_in x (map (λ v. v.name.text) vs) ≡ true → (n : Need) → IsIn n (clock_needs (clock_here j (IsKnown j) x)) →
    IsIn n (flat_map (λ v. cond (bytes_eq x v.name.text) (clock_needs (clock_from v.clock)) []) vs)
declared_in j x [] a h n m = absurd (false≢true h)
declared_in j x (v ∷ vs) a h n m = go (bytes_eq x v.name.text) refl h (declared_in j x vs a.1)
  where
    rest : List Need
    rest = flat_map (λ v. cond (bytes_eq x v.name.text) (clock_needs (clock_from v.clock)) []) vs

    go : (c : Bool) → bytes_eq x v.name.text ≡ c → (c || named_in x (map (λ v. v.name.text) vs)) ≡ true →
        (named_in x (map (λ v. v.name.text) vs) ≡ true → (n : Need) → IsIn n (clock_needs (clock_here j (IsKnown j) x)) → IsIn n rest) →
        IsIn n (cond c (clock_needs (clock_from v.clock)) [] ++ rest)
    go true e k r =
        in_left n (clock_needs (clock_from v.clock)) rest
        (subst (λ z. IsIn n (clock_needs z)) (ap (λ y. clock_here j (IsKnown j) y) (same_bytes x v.name.text e) ∙ a.0.name.clock) m)
    go false e k r = r k n m

module _ (i : Instance) (f : Frame) (ns : List Place) where
  -- all that these are is needed, seen from the frame at the end of a way
  abbrev pub Reach : List ℕ → List Need → Type 0
  Reach w qs = (n : Need) → IsIn n qs → NeedsPlace i ns (from_top w n)

  one_step : (w : List ℕ) (p : Place) (n : Need) → NeedsPlace i ns p → IsIn (from_top w n) (next_places i p.0 p.1) → NeedsPlace i ns (from_top w n)
  one_step w p n h m =
      let y : (y : ℕ) × IsAt y (from_top w n) (next_places i p.0 p.1) = at_some (from_top w n) (next_places i p.0 p.1) m in
      further i ns p (from_top w n) h ((y.0, from_top w n) ∷ []) (y.1, tt) refl

  pub reach_clock : (w : List ℕ) → AreCalls i w → OwnFits (place_there i f w) (IsKnown (place_there i f w)) → (x : Name) →
      is_declared (place_there i f w) (IsKnown (place_there i f w)) x → NeedsPlace i ns (place_named w x) →
      Reach w (clock_needs (clock_here (place_there i f w) (IsKnown (place_there i f w)) x))
  reach_clock w a o x d h n m =
      let j : Instance = place_there i f w in
      let one : IsIn n (own_needs j x) =
      in_left n (declared_needs (component_of j) x) (defined_needs j x (equations (component_of j))) (declared_in j x (variables (component_of j)) o.streams d n m) in
      let two : IsIn (place_of n) (next_places j [] (Some x)) =
      subst (IsIn (place_of n)) (sym (next_top j x)) (in_mapped place_of n (own_needs j x) one) in
      one_step w (place_named w x) n h
      (subst (λ z. IsIn z (next_places i (map pred w) (Some x))) (sym (seen_from_top w n))
      (at_end i w (Some x) (place_of n) a (subst (λ y. IsIn (place_of n) (next_places y [] (Some x))) (same_place w i throughout f) two)))

  pub reach_caller : (w : List ℕ) (k : ℕ) → AreCalls i w → 0 < k → pred k < count_of (calls_of (place_there i f w)) → (x : Option Name) →
      NeedsPlace i ns (map pred (w ++ k ∷ []), x) →
      Reach w (caller_needs (place_there i f w) (site_of (place_there i f w) k) (call_instance (place_there i f w) k) x)
  reach_caller w k a c l x h n m = one_step w (map pred (w ++ k ∷ []), x) n h (call_next i f w k a c l x n m)

  -- ---- the beat of a frame

  ends_reach : (w : List ℕ) → AreCalls i w → OwnFits (place_there i f w) (IsKnown (place_there i f w)) → (m : ℕ) (c : Clock) →
      ClockEnds (place_there i f w) (IsKnown (place_there i f w)) m c → Reach w (clock_needs c) → NeedsPlace i ns (from_top w the_beat)
  ends_reach w a o m base e h = h the_beat (inl refl)
  ends_reach w a o zero (sampled_by b x) e h = absurd e
  ends_reach w a o (suc m) (sampled_by b x) e h =
      ends_reach w a o m (clock_here (place_there i f w) (IsKnown (place_there i f w)) x) e.2
      (reach_clock w a o x e.0.declared (subst (NeedsPlace i ns) (own_name w x) (h (a_name [] x) (inl refl))))

  pub name_reaches : (w : List ℕ) → AreCalls i w → OwnFits (place_there i f w) (IsKnown (place_there i f w)) → (x : Name) →
      is_declared (place_there i f w) (IsKnown (place_there i f w)) x → NeedsPlace i ns (place_named w x) → NeedsPlace i ns (from_top w the_beat)
  name_reaches w a o x d h = ends_reach w a o _ _ (declared_fits (place_there i f w) o x d) (reach_clock w a o x d h)

  pub clock_reaches : (w : List ℕ) → AreCalls i w → OwnFits (place_there i f w) (IsKnown (place_there i f w)) → (c : Clock) →
      IsClockNamed (place_there i f w) c → Reach w (clock_needs c) → NeedsPlace i ns (from_top w the_beat)
  clock_reaches w a o base n h = h the_beat (inl refl)
  clock_reaches w a o (sampled_by b x) n h = name_reaches w a o x n.declared (subst (NeedsPlace i ns) (own_name w x) (h (a_name [] x) (inl refl)))

-- ---- what a mode asks needs the beat

-- modes of the same keys, each of which needs the beat
abbrev Beating : ModeNeeds → Known Resolving → Type 0
Beating [] [] = Unit {0}
Beating (m ∷ ms) (q ∷ qs) = ((m.0 ≡ q.0) × IsIn the_beat m.1) × Beating ms qs
Beating [] (q ∷ qs) = ⊥
Beating (m ∷ ms) [] = ⊥

beating_more : (ms ns : ModeNeeds) (qs os : Known Resolving) → Beating ms qs → Beating ns os → Beating (ms ++ ns) (qs ++ os)
beating_more [] ns [] os a c = c
beating_more [] ns (q ∷ qs) os a c = absurd a
beating_more (m ∷ ms) ns [] os a c = absurd a
beating_more (m ∷ ms) ns (q ∷ qs) os a c = (a.0, beating_more ms ns qs os a.1 c)

through_import : (j k : ℕ) (x : Name) (ms : ModeNeeds) (qs : Known Resolving) → Beating ms qs →
    Beating (map (imported_needs j x) ms) (map (imported_resolving k x) qs)
through_import j k x [] [] a = tt
through_import j k x [] (q ∷ qs) a = absurd a
through_import j k x (m ∷ ms) [] a = absurd a
through_import j k x (m ∷ ms) (q ∷ qs) a =
    ((ap (λ (z : Key). let r : Key = (x ∷ z.0, z.1) in r) a.0.0, in_mapped (inside j) the_beat m.1 a.0.1), through_import j k x ms qs a.1)

after : (j : Instance) (subn : ℕ → ModeNeeds) (subr : ℕ → Known Resolving) → ((k : ℕ) → Beating (subn k) (subr k)) → (ms : ModeNeeds)
    (qs : Known Resolving) (cs : List ContractStatement) → Beating ms qs → Beating (modes_after j subn ms cs) (resolvings_after j subr qs cs)
after j subn subr b ms qs [] a = a
after j subn subr b ms qs (assume l ∷ cs) a = after j subn subr b ms qs cs a
after j subn subr b ms qs (guarantee l ∷ cs) a = after j subn subr b ms qs cs a
after j subn subr b ms qs (ghost_variable x e ∷ cs) a = after j subn subr b ms qs cs a
after j subn subr b ms qs (constant c ∷ cs) a = after j subn subr b ms qs cs a
after j subn subr b ms qs (mode m rs es ∷ cs) a =
    after j subn subr b (ms ++ (([], m.text), asked_needs j ms rs) ∷ []) (qs ++ (([], m.text), asked_resolving j qs rs) ∷ []) cs
    (beating_more ms ((([], m.text), asked_needs j ms rs) ∷ []) qs ((([], m.text), asked_resolving j qs rs) ∷ []) a ((refl, inl refl), tt))
after j subn subr b ms qs («import» k c as_ xs ∷ cs) a =
    after j subn subr b (ms ++ map (imported_needs (pred k) c.text) (subn k)) (qs ++ map (imported_resolving k c.text) (subr k)) cs
    (beating_more ms (map (imported_needs (pred k) c.text) (subn k)) qs (map (imported_resolving k c.text) (subr k)) a
    (through_import (pred k) k c.text (subn k) (subr k) (b k)))

mutual
  all_beating : (j : Instance) → Beating (modes_need j) (resolvings j)
  all_beating (instance d cs is) =
      after (instance d cs is) (λ k. slice_index_or (modes_need_each is) (pred k) []) (λ k. slice_index_or (resolvings_each is) (pred k) [])
      (λ k. each_beating is (pred k)) [] [] (contract_statements d) tt

  each_beating : (is : Instances) (p : ℕ) → Beating (slice_index_or (modes_need_each is) p []) (slice_index_or (resolvings_each is) p [])
  each_beating no_instances zero = tt
  each_beating no_instances (suc p) = tt
  each_beating (with_instance c k is) zero = all_beating k
  each_beating (with_instance c k is) (suc p) = each_beating is p

beat_found : (key : Key) (ms : ModeNeeds) (qs : Known Resolving) → Beating ms qs → IsAmong (keys qs) key → IsIn the_beat (known_needs ms key)
beat_found key [] [] a h = absurd (false≢true h)
beat_found key [] (q ∷ qs) a h = absurd a
beat_found key (m ∷ ms) [] a h = absurd a
beat_found key (m ∷ ms) (q ∷ qs) a h =
    go (mode_key key m.0) (subst (λ z. (mode_key key z || list_any (mode_key key) (keys qs)) ≡ true) (sym a.0.0) h) (beat_found key ms qs a.1)
  where
    go : (c : Bool) → (c || list_any (mode_key key) (keys qs)) ≡ true → (IsAmong (keys qs) key → IsIn the_beat (known_needs ms key)) →
        IsIn the_beat (unwrap_or (cond c (Some m.1) (lookup (mode_key key) ms)) [])
    go true k r = a.0.1
    go false k r = r k

known_beats : (j : Instance) (key : Key) → IsKnown j key → IsIn the_beat (known_needs (modes_need j) key)
known_beats j key h =
    beat_found key (modes_need j) (resolvings j) (all_beating j)
    (subst (λ l. list_any (mode_key key) l ≡ true) (sym (resolving_keys j)) (keys_any key _ ∙ h))

-- ---- a whole needs the beat of its frame

module _ (i : Instance) (f : Frame) where
  beat_needed : (w : List ℕ) → AreCalls i w → StandsAt i f w (place_there i f w) → (ns : List Place) (c : Clock) (e : Expression) →
      Stands (place_there i f w) (IsKnown (place_there i f w)) c e → IsClockNamed (place_there i f w) c →
      Reach i f ns w (needs (place_there i f w) (modes_need (place_there i f w)) c e) → NeedsPlace i ns (from_top w the_beat)
  beat_needed w a s ns c e st n h = go e st h
    where
      j : Instance
      j = place_there i f w

      o : OwnFits (place_there i f w) (IsKnown (place_there i f w))
      o = own_fits IsKnown (place_there i f w) s.fits

      by_front : (qs : List Need) → Reach i f ns w (clock_needs c ++ qs) → NeedsPlace i ns (from_top w the_beat)
      by_front qs h = clock_reaches i f ns w a o c n (λ m q. h m (in_left m (clock_needs c) qs q))

      by_clock : Reach i f ns w (clock_needs c) → NeedsPlace i ns (from_top w the_beat)
      by_clock h = clock_reaches i f ns w a o c n h

      by_name : (x : Name) → is_declared (place_there i f w) (IsKnown (place_there i f w)) x → NeedsPlace i ns (from_top w (a_name [] x)) →
          NeedsPlace i ns (from_top w the_beat)
      by_name x d q = name_reaches i f ns w a o x d (subst (NeedsPlace i ns) (own_name w x) q)

      callee : (k : ℕ) → 0 < k → pred k < count_of (calls_of (place_there i f w)) → (vs : List Variable) → 0 < length vs →
          AllByRecursion (OutputFits (place_there i f w) (IsKnown (place_there i f w)) k) vs →
          Reach i f ns w (map (a_name (pred k ∷ [])) (map (λ v. v.name.text) vs)) → NeedsPlace i ns (from_top (w ++ k ∷ []) the_beat)
      callee k u l [] g q h = absurd (omega (arith, g))
      callee k u l (v ∷ vs) g q h =
          let z : StandsAt i f (w ++ k ∷ []) (call_instance (place_there i f w) k) = stands_called i f w (place_there i f w) s k u l in
          name_reaches i f ns (w ++ k ∷ []) z.calls
          (subst (λ y. OwnFits y (IsKnown y)) (sym z.place) (own_fits IsKnown (call_instance (place_there i f w) k) z.fits)) v.name.text
          (subst (λ y. is_declared y (IsKnown y) v.name.text) (sym z.place) q.0.2)
          (subst (NeedsPlace i ns) (call_name w k v.name.text) (h (a_name (pred k ∷ []) v.name.text) (inl refl)))

      go : (e : Expression) → Stands (place_there i f w) (IsKnown (place_there i f w)) c e →
          Reach i f ns w (needs (place_there i f w) (modes_need (place_there i f w)) c e) → NeedsPlace i ns (from_top w the_beat)
      go (truth p x) st h = by_clock h
      go (number p x) st h = by_clock h
      go (name p x) st h = by_clock (λ m q. h m (inr q))
      go (negation p x) st h = by_front _ h
      go (minus p x) st h = by_front _ h
      go (pre p k x) st h = by_clock h
      go (arrow p k x y) st h = by_front _ h
      go (binary p q x y) st h = by_front _ h
      go (choice p x y d) st h = by_front _ h
      go (sampled p x q y) st h = by_name y.text st.1.declared (h (a_name [] y.text) (inl refl))
      go (merged p y x d) st h = by_name y.text st.0.declared (h (a_name [] y.text) (inl refl))
      go (call p k z as_) st h =
          clock_reaches i f ns w a o c n
          (λ m q. reach_caller i f ns w k a st.0.call.counted st.0.call.listed None (callee k st.0.call.counted st.0.call.listed
          (component_of (call_instance (place_there i f w) k)).outputs st.0.outputs st.0.call.named h) m
          (subst (λ y. IsIn m (site_needs (place_there i f w) (modes_need (place_there i f w)) (site_of (place_there i f w) k) y)) (sym st.0.manner)
          (subst (λ y. IsIn m (clock_needs y)) (sym st.0.clock) q)))
      go (condact p k x z as_ ds) st h = by_front _ h
      go (mode_name p d m) st h = h the_beat (known_beats (place_there i f w) (option_to_list (option_map text_of d), m.text) st.1)

  -- ---- of all parts

  -- the frame below by so many calls, the last one first
  abbrev pub lower : List ℕ → List ℕ → List ℕ
  lower w [] = w
  lower w (k ∷ ks) = lower w ks ++ k ∷ []

  abbrev pub AreImports : List ℕ → List ℕ → Type 0
  AreImports w [] = Unit {0}
  AreImports w (k ∷ ks) = IsImport (place_there i f (lower w ks)) k × AreImports w ks

  -- the beat of a frame, or of one that it is an import of, at every depth
  pub record BeatNeeded (w : List ℕ) (ns : List Place) : Type 0 where
    pub above : List ℕ
    pub down : List ℕ
    pub same : w ≡ lower above down
    pub imports : AreImports above down
    pub needed : NeedsPlace i ns (from_top above the_beat)

  pub beat_of_whole : (w : List ℕ) (j : Instance) → StandsAt i f w j → (c : Clock) (e : Expression) → Stands j (IsKnown j) c e → IsClockNamed j c →
      BeatNeeded w (needs_of (own_setting j w []) c e)
  beat_of_whole w j s c e st n = go j s.place st n
    where
      go : (j : Instance) → place_there i f w ≡ j → Stands j (IsKnown j) c e → IsClockNamed j c → BeatNeeded w (needs_of (own_setting j w []) c e)
      go j q st n =
          subst (λ y. BeatNeeded w (needs_of (own_setting y w []) c e)) q record {
            above = w;
            down = [];
            same = refl;
            imports = tt;
            needed = beat_needed w s.calls (record { calls = s.calls; place = refl; fits = subst (λ y. TreeFits IsKnown y) (sym s.place) s.fits })
                (needs_of (own_setting (place_there i f w) w []) c e) c e
                (subst (λ y. Stands y (IsKnown y) c e) (sym q) st) (subst (λ y. IsClockNamed y c) (sym q) n)
                (λ m h. needs_itself i (needs_of (own_setting (place_there i f w) w []) c e) (from_top w m)
                (in_mapped (from_top w) m (needs (place_there i f w) (modes_need (place_there i f w)) c e) h));
          }

  pub beat_of_import : (w : List ℕ) (j : Instance) → StandsAt i f w j → (k : ℕ) → IsImport j k → (ns : List Place) → BeatNeeded w ns →
      BeatNeeded (w ++ k ∷ []) ns
  beat_of_import w j s k im ns b = record {
    above = b.above;
    down = k ∷ b.down;
    same = ap (λ v. v ++ k ∷ []) b.same;
    imports = (subst (λ v. IsImport (place_there i f v) k) b.same (subst (λ y. IsImport y k) (sym s.place) im), b.imports);
    needed = b.needed;
  }
