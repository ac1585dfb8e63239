-- A way of calls leads to the frame that stands at its end.
use Rattle.std.proofs.Common.{◌≡◌, ℕ, zero, suc, ◌+◌, ◌<◌, ◌≤◌, Bool, true, false, cond, List, [], ◌∷◌, map, length, Option, Some, None, slice_get, get_or, refl, sym, ap, ◌∙◌, subst, arith}
use Rattle.std.specs.Prelude.{Contains, option_map}
use Rattle.std.specs.Option.{option_map_or}
use Rattle.std.proofs.Math.Logic.{◌⊎◌, inl, inr}
use Rattle.std.proofs.lemmas.Option.{none-some, slice_get-map}
use Rattle.lus_tree.specs.Tree.{Name, Variable, Component, Program}
use Rattle.lus_meaning.specs.ClockFaults.{components}
use Rattle.lus_meaning.specs.Depends.{named_in}
use Rattle.lus_meaning.specs.Program.{all_sites, instances_with, instance_of}
use Rattle.lus_meaning.specs.Refusals.{IsChecked}
use Rattle.lus_meaning.specs.Scene.{Manner, plain, Site, Instance, component_of, instance_at, call_instance, no_instance, variables}
use Rattle.lus_meaning.specs.Slots.{Slot, slots, width}
use Rattle.rule_laws.proofs.Truths.{same_some}
use Rattle.lus_streams.specs.Streams.{names_of}
use Rattle.lus_limits.specs.Calls.{way_of}
use Rattle.lus_limits.specs.Instances.{callee, instance_called_so}
use Rattle.lus_limits.specs.Summaries.{bound, cut}
use Rattle.lus_limits.specs.Widths.{frame_width}
use Rattle.lus_limits.specs.declared.calls.Way.{Way}
use Rattle.lus_limits.specs.declared.calls.Way.TheVariants.{Plain, Condition, Import}
use Rattle.lus_limits.proofs.Instances.{component_called, made_of_callees}
use Rattle.lus_layouts.specs.Fitting.{CalleesFit}
use Rattle.lus_layouts.specs.Layouts.{layout_of, own_count}
use Rattle.lus_layouts.specs.declared.placing.CallSlots.{CallSlots}
use Rattle.lus_evaluation.specs.Evaluation.{instance_on}
use Rattle.name_table.specs.Names.{number_of as name_place}
use Rattle.path_laws.proofs.Numbers.{CountedFrom}
use Rattle.sys_meaning.specs.Slot.{Place, beat, named, own, in_call, place_of, same_place, number_in as place_number}
use Rattle.sys_meaning.specs.System.{below_call, number_of}
use Rattle.sys_places.specs.Own.{OwnStands}
use Rattle.sys_places.specs.Places.{StandsAt, StandsAtCalls, StandsAtRoot, OfEachCall, CallStandsAt, own_end}
use Rattle.sys_places.proofs.Parts.{call_number, numbered_calls}
use Rattle.sys_tables.specs.Tabled.{Linked, all_linked, linked, named_stream, table_of}
use Rattle.sys_tables.specs.Tabled.{place_of as declared_place}
use Rattle.sight_laws.specs.Sights.{CalleesAreThere, CalleesStand}
use Rattle.frame_names.specs.Known.{Known, callee_of, known_of, own_cells_of, stream_names}
use Rattle.frame_names.specs.Slots.{KnowsSlots}
use Rattle.frame_names.specs.Walk.{analysed, called, number_in, number_there, slot_of, stands_after, walked}
use Rattle.frame_names.specs.declared.walk.Standing.{Standing}

-- ---- lists

got_some : {A : Type 0} (xs : List A) (k : ℕ) (d : A) → k < length xs → slice_get xs k ≡ Some (get_or xs k d)
got_some [] k d l = absurd (omega (arith, l))
got_some (x ∷ xs) zero d l = refl
got_some (x ∷ xs) (suc k) d l = got_some xs k d (omega (arith, l))

got_there : {A : Type 0} (xs : List A) (k : ℕ) (x : A) → slice_get xs k ≡ Some x → Contains xs x
got_there [] k x e = absurd (none-some x e)
got_there (y ∷ xs) zero x e = (zero, omega arith, same_some e)
got_there (y ∷ xs) (suc k) x e = let h = got_there xs k x e in (suc h.0, omega (arith, h.1), h.2)

counted_at : (ss : List Site) (m k : ℕ) (s : Site) → CountedFrom call_number m ss → slice_get ss k ≡ Some s → s.number ≡ m + k
counted_at [] m k s c e = absurd (none-some s e)
counted_at (t ∷ ss) m zero s c e = ap (λ z. z.number) (sym (same_some e)) ∙ c.0 ∙ omega arith
counted_at (t ∷ ss) m (suc k) s c e = counted_at ss (suc m) k s c.1 e ∙ omega arith

pub names_same : (n : Component) (vs : List Variable) → stream_names (map (named_stream n) vs) ≡ names_of vs
names_same n [] = refl
names_same n (v ∷ vs) = ap (λ xs. v.name.text ∷ xs) (names_same n vs)

place_within : (qs : List Slot) (y : Place) → place_number qs y ≤ length qs
place_within [] y = omega arith
place_within (q ∷ qs) y = go (same_place y (place_of q)) (place_within qs y)
  where
    go : (b : Bool) → place_number qs y ≤ length qs → cond b zero (suc (place_number qs y)) ≤ suc (length qs)
    go true h = omega arith
    go false h = omega (arith, h)

-- ---- instances

-- where there is no call there are no names
nowhere : (w : List ℕ) → instance_on no_instance w ≡ no_instance
nowhere [] = refl
nowhere (zero ∷ w) = nowhere w
nowhere (suc k ∷ w) = nowhere w

instance_there : (f : Name → Instance) (ss : List Site) (k : ℕ) (s : Site) → slice_get ss k ≡ Some s → instance_at (instances_with f ss) k ≡ f s.callee
instance_there f [] k s e = absurd (none-some s e)
instance_there f (t ∷ ss) zero s e = ap (λ z. f z.callee) (same_some e)
instance_there f (t ∷ ss) (suc k) s e = instance_there f ss k s e

no_instance_there : (f : Name → Instance) (ss : List Site) (k : ℕ) → slice_get ss k ≡ None → instance_at (instances_with f ss) k ≡ no_instance
no_instance_there f [] k e = refl
no_instance_there f (t ∷ ss) zero e = absurd (none-some t (sym e))
no_instance_there f (t ∷ ss) (suc k) e = no_instance_there f ss k e

-- ---- calls with where they stand

record CallAt (P : Site → CallSlots → Type 0) (p : Program) (n : Component) (ss : List Site) (qs : List CallSlots) (k : ℕ) : Type 0 where
  site : Site
  slots : CallSlots
  among : slice_get ss k ≡ Some site
  is_linked : slice_get (all_linked p n ss qs) k ≡ Some (linked p n site slots)
  so : P site slots

record NoCallAt (p : Program) (n : Component) (ss : List Site) (qs : List CallSlots) (k : ℕ) : Type 0 where
  among : slice_get ss k ≡ None
  is_linked : slice_get (all_linked p n ss qs) k ≡ None

call_at : (P : Site → CallSlots → Type 0) (p : Program) (n : Component) (ss : List Site) (qs : List CallSlots) → OfEachCall P ss qs → (k : ℕ)
    → CallAt P p n ss qs k ⊎ NoCallAt p n ss qs k
call_at P p n [] [] h k = inr (record { among = refl; is_linked = refl })
call_at P p n [] (q ∷ qs) h k = absurd h
call_at P p n (s ∷ ss) [] h k = absurd h
call_at P p n (s ∷ ss) (q ∷ qs) h zero = inl (record { site = s; slots = q; among = refl; is_linked = refl; so = h.0 })
call_at P p n (s ∷ ss) (q ∷ qs) h (suc k) = go (call_at P p n ss qs h.1 k)
  where
    go : CallAt P p n ss qs k ⊎ NoCallAt p n ss qs k → CallAt P p n (s ∷ ss) (q ∷ qs) (suc k) ⊎ NoCallAt p n (s ∷ ss) (q ∷ qs) (suc k)
    go (inl a) = inl (record { site = a.site; slots = a.slots; among = a.among; is_linked = a.is_linked; so = a.so })
    go (inr a) = inr (record { among = a.among; is_linked = a.is_linked })

-- ---- cut sums

cut_number : (a base k : ℕ) → a ≡ suc base + k → a < bound → cut (base + cut (1 + k)) ≡ a
cut_number a base k e l = omega (arith, e, l)

cut_base : (a base own frame : ℕ) → a ≡ (base + own) + frame → a < bound → cut (base + cut (own + frame)) ≡ (base + own) + frame
cut_base a base own frame e l = omega (arith, e, l)

-- ---- along a way

module _ (p : Program) (c : IsChecked p) (calls_stand : StandsAtCalls) (own_stands : OwnStands) (fit : CalleesFit) (stand : CalleesStand)
    (there : CalleesAreThere) where
  abbrev pub all : List Known
  all = map known_of (map (table_of p) (components p))

  known_at : (k : ℕ) (n : Component) → slice_get (components p) k ≡ Some n → slice_get all k ≡ Some (known_of (table_of p n))
  known_at k n e =
      slice_get-map known_of (map (table_of p) (components p)) k
      ∙ ap (option_map known_of) (slice_get-map (table_of p) (components p) k ∙ ap (option_map (table_of p)) e)

  own_same : (n : Component) (w : Way) → own_cells_of w (known_of (table_of p n)) ≡ own_count w (layout_of p n)
  own_same n Plain = refl
  own_same n Condition = refl
  own_same n Import = refl

  -- a frame of that declaration that runs in this manner stands there, its numbers below the bound
  pub record Here (at : Place → ℕ) (s : Standing) (m : Manner) (n : Component) : Type 0 where
    pub missing : ℕ
    pub declared : slice_get (components p) s.place ≡ Some n
    pub way : s.way ≡ way_of m
    pub width : frame_width p m n < bound
    pub small : (y : Place) → at y < bound
    pub stands : StandsAt at missing s.base m (instance_of p n)

  module _ (at : Place → ℕ) (s : Standing) (m : Manner) (n : Component) (h : Here at s m n) where
    declared : Contains (components p) n
    declared = got_there (components p) s.place n h.declared

    abbrev known : Known
    known = known_of (table_of p n)

    -- the names of the frame itself
    names_here : (x : Name) → number_there all x s ≡ cond (named_in x (names_of (variables n))) (Some (at (own (named x)))) None
    names_here x =
        ap (λ o. option_map_or (λ k. number_in k s x) o None) (known_at s.place n h.declared)
        ∙ ap (λ xs. cond (named_in x xs) (Some (cut (s.base + cut (1 + name_place xs x)))) None) (names_same n (variables n))
        ∙ numbered (named_in x (names_of (variables n))) ((own_stands p c n declared m at h.missing s.base h.stands).streams x)
      where
        numbered : (b : Bool) → at (own (named x)) ≡ cond b (suc s.base + name_place (names_of (variables n)) x) h.missing
            → cond b (Some (cut (s.base + cut (1 + name_place (names_of (variables n)) x)))) None ≡ cond b (Some (at (own (named x)))) None
        numbered true e = ap Some (cut_number (at (own (named x))) s.base (name_place (names_of (variables n)) x) e (h.small (own (named x))))
        numbered false e = refl

    abbrev CallAtEnd : Site → CallSlots → Type 0
    CallAtEnd = CallStandsAt at h.missing (own_end p m n s.base) p

    calls_here : OfEachCall CallAtEnd (all_sites n) (layout_of p n).calls
    calls_here = calls_stand p c n declared m at h.missing s.base h.width h.stands

    after : (k : ℕ) → stands_after all s (suc k) ≡ option_map (λ l. called s known (callee_of l)) (slice_get (all_linked p n (all_sites n) (layout_of p n).calls) k)
    after k =
        ap (λ o. option_map_or (λ q. option_map (called s q) (slice_get q.calls k)) o None) (known_at s.place n h.declared)
        ∙ ap (option_map (called s known)) (slice_get-map callee_of (all_linked p n (all_sites n) (layout_of p n).calls) k)
        ∙ twice (slice_get (all_linked p n (all_sites n) (layout_of p n).calls) k)
      where
        twice : (o : Option Linked) → option_map (called s known) (option_map callee_of o) ≡ option_map (λ l. called s known (callee_of l)) o
        twice None = refl
        twice (Some l) = refl

    -- the instance of a call
    instance_after : (k : ℕ) → call_instance (instance_of p n) (suc k) ≡ instance_at (instances_with (instance_called_so p) (all_sites n)) k
    instance_after k = ap (λ i. call_instance i (suc k)) (made_of_callees p c n declared)

    -- the frame of a call that is there
    module _ (k : ℕ) (t : Site) (q : CallSlots) (e : slice_get (all_sites n) k ≡ Some t) (so : CallAtEnd t q) where
      abbrev inner : Standing
      inner = called s known (callee_of (linked p n t q))

      number_is : t.number ≡ suc k
      number_is = counted_at (all_sites n) 1 k t (numbered_calls p c n declared) e ∙ omega arith

      among : Contains (all_sites n) t
      among = got_there (all_sites n) k t e

      callee_declared : slice_get (components p) (declared_place p t.callee) ≡ Some (callee p t.callee)
      callee_declared = got_some (components p) (declared_place p t.callee) _ (there p c n declared t among) ∙ ap Some (stand p t.callee)

      frame_there : StandsAt (below_call (suc k) at) h.missing (own_end p m n s.base + q.frame) t.manner (instance_of p (callee p t.callee))
      frame_there =
          subst (λ z. StandsAt (below_call z at) h.missing (own_end p m n s.base + q.frame) t.manner (instance_of p (callee p t.callee))) number_is so

      beat_there : at (in_call (suc k) (own beat)) ≡ own_end p m n s.base + q.frame
      beat_there =
          (own_stands p c (callee p t.callee) (got_there (components p) (declared_place p t.callee) (callee p t.callee) callee_declared) t.manner
          (below_call (suc k) at) h.missing (own_end p m n s.base + q.frame) frame_there).active

      own_is : own_cells_of s.way known ≡ own_count (way_of m) (layout_of p n)
      own_is = own_same n s.way ∙ ap (λ w. own_count w (layout_of p n)) h.way

      base_is : inner.base ≡ own_end p m n s.base + q.frame
      base_is =
          ap (λ z. cut (s.base + cut (z + q.frame))) own_is
          ∙ cut_base (at (in_call (suc k) (own beat))) s.base (own_count (way_of m) (layout_of p n)) q.frame beat_there (h.small (in_call (suc k) (own beat)))

      next : Here (below_call (suc k) at) inner t.manner (callee p t.callee)
      next = record {
        missing = h.missing;
        declared = callee_declared;
        way = refl;
        width = fit p c n declared m h.width t among;
        small = λ y. h.small (in_call (suc k) y);
        stands = subst (λ z. StandsAt (below_call (suc k) at) h.missing z t.manner (instance_of p (callee p t.callee))) (sym base_is) frame_there;
      }

  -- what is found at the end of a way is the number of the name there
  abbrev Leads : List ℕ → (Place → ℕ) → Standing → Instance → Name → Type 0
  Leads w at s i x =
      option_map_or (number_there all x) (walked all w s) None
      ≡ cond (named_in x (names_of (variables (component_of (instance_on i w))))) (Some (at (w, named x))) None

  -- a way leads nowhere if there is no such call
  stops : (k : ℕ) (w : List ℕ) (at : Place → ℕ) (s : Standing) (i : Instance) (x : Name) → stands_after all s k ≡ None → call_instance i k ≡ no_instance
      → Leads (k ∷ w) at s i x
  stops k w at s i x e f =
      ap (λ o. option_map_or (number_there all x) (option_map_or (walked all w) o None) None) e
      ∙ ap (λ (j : Instance). cond (named_in x (names_of (variables (component_of j)))) (Some (at (k ∷ w, named x))) None)
      (sym (ap (λ j. instance_on j w) f ∙ nowhere w))

  goes_on : (k : ℕ) (w : List ℕ) (at : Place → ℕ) (s t : Standing) (i j : Instance) (x : Name) → stands_after all s k ≡ Some t → call_instance i k ≡ j
      → Leads w (below_call k at) t j x → Leads (k ∷ w) at s i x
  goes_on k w at s t i j x e f h =
      ap (λ o. option_map_or (number_there all x) (option_map_or (walked all w) o None) None) e ∙ h
      ∙ ap (λ (j : Instance). cond (named_in x (names_of (variables (component_of (instance_on j w))))) (Some (at (k ∷ w, named x))) None) (sym f)

  pub leads : (w : List ℕ) (at : Place → ℕ) (s : Standing) (m : Manner) (n : Component) → Here at s m n → (x : Name) → Leads w at s (instance_of p n) x
  leads [] at s m n h x =
      names_here at s m n h x
      ∙ ap (λ (d : Component). cond (named_in x (names_of (variables d))) (Some (at (own (named x)))) None) (sym (component_called p n))
  leads (zero ∷ w) at s m n h x =
      stops zero w at s (instance_of p n) x (ap (λ o. option_map_or (λ q. None) o None) (known_at s.place n h.declared)) refl
  leads (suc k ∷ w) at s m n h x = go (call_at (CallAtEnd at s m n h) p n (all_sites n) (layout_of p n).calls (calls_here at s m n h) k) (leads w)
    where
      Later : Type 0
      Later = (at : Place → ℕ) (s : Standing) (m : Manner) (n : Component) → Here at s m n → (x : Name) → Leads w at s (instance_of p n) x

      go : CallAt (CallAtEnd at s m n h) p n (all_sites n) (layout_of p n).calls k ⊎ NoCallAt p n (all_sites n) (layout_of p n).calls k
          → Later → Leads (suc k ∷ w) at s (instance_of p n) x
      go (inl a) later =
          goes_on (suc k) w at s (inner at s m n h k a.site a.slots a.among a.so) (instance_of p n) (instance_of p (callee p a.site.callee)) x
          (after at s m n h k ∙ ap (option_map (λ l. called s (known_of (table_of p n)) (callee_of l))) a.is_linked)
          (instance_after at s m n h k ∙ instance_there (instance_called_so p) (all_sites n) k a.site a.among)
          (later (below_call (suc k) at) (inner at s m n h k a.site a.slots a.among a.so) a.site.manner (callee p a.site.callee)
          (next at s m n h k a.site a.slots a.among a.so) x)
      go (inr a) later =
          stops (suc k) w at s (instance_of p n) x
          (after at s m n h k ∙ ap (option_map (λ l. called s (known_of (table_of p n)) (callee_of l))) a.is_linked)
          (instance_after at s m n h k ∙ no_instance_there (instance_called_so p) (all_sites n) k a.among)

  -- from the frame of the declaration itself on
  pub knows_slots : StandsAtRoot → (root : ℕ) → KnowsSlots p root (slot_of all root)
  knows_slots root_stands root d e l w x = leads w (number_of (instance_of p d)) (analysed root) plain d start x
    where
      start : Here (number_of (instance_of p d)) (analysed root) plain d
      start = record {
        missing = width (instance_of p d);
        declared = e;
        way = refl;
        width = l;
        small = λ y. let h : place_number (slots (instance_of p d)) y ≤ width (instance_of p d) = place_within (slots (instance_of p d)) y in omega (arith, h, l);
        stands = root_stands (instance_of p d);
      }
