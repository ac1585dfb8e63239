-- What may be listed of the frames of an instance by the tables of its declarations is what the definition lists, each with
-- its slot.
use Rattle.std.proofs.Common.{◌≡◌, ℕ, zero, suc, ◌+◌, ◌<◌, Bool, true, false, cond, ◌||◌, List, [], ◌∷◌, ◌++◌, map, flat_map, length, append_assoc, Option, Some, None, refl, sym, ap, ◌∙◌, subst, arith}
use Rattle.std.specs.Prelude.{Contains, nat_le, slice_get, unwrap_or}
use Rattle.std.specs.List.{AllByRecursion}
use Rattle.std.specs.Option.{option_map_or}
use Rattle.std.specs.Str.{bytes_eq}
use Rattle.std.proofs.lemmas.Bool.{false≢true}
use Rattle.lus_tree.specs.Numbers.{counting}
use Rattle.lus_tree.specs.Tree.{Name, Variable, Component, Program}
use Rattle.lus_meaning.specs.Depends.{named_in}
use Rattle.lus_meaning.specs.Fits.{Listable, listable, listable_below, listable_firsts, listable_in, listable_names}
use Rattle.lus_meaning.specs.Occurrences.{Memory, memories, starts}
use Rattle.lus_meaning.specs.Program.{all_sites, component_named, in_order, instances_with, instance_of, instance_within}
use Rattle.lus_meaning.specs.Refusals.{IsChecked}
use Rattle.lus_meaning.specs.ClockFaults.{components}
use Rattle.lus_meaning.specs.Run.{first_sorts, sort_of}
use Rattle.lus_meaning.specs.Scene.{Manner, plain, while_true, as_import, Site, Instance, Instances, instance, no_instances, with_instance, clock_from, component_of, no_component, variables}
use Rattle.lus_meaning.specs.Slots.{Cell, beat_cell, name_cell, memory_cell, start_cell, contract_cells, own_cells, held_cells, Slot, slot, slots_in, call_slots, slots}
use Rattle.lus_meaning.specs.Trace.{of_first, free_in, free_names}
use Rattle.lus_meaning.specs.Value.{Value}
use Rattle.lus_meaning.specs.WellMade.{AreDistinct}
use Rattle.lus_meaning.proofs.Exists.{self_bytes}
use Rattle.lus_meaning.proofs.Lists.{all_from, append_none, both_parts, map_append}
use Rattle.lus_meaning.proofs.Unique.{same_bytes}
use Rattle.rule_laws.proofs.Covered.{found_declared}
use Rattle.rule_laws.proofs.Places.{numbered, memories_counted}
use Rattle.path_laws.proofs.Numbers.{CountedFrom, in_order_counted}
use Rattle.lus_limits.specs.Calls.{way_of}
use Rattle.lus_limits.specs.Instances.{callee}
use Rattle.lus_limits.specs.declared.calls.Way.{Way}
use Rattle.lus_limits.specs.declared.calls.Way.TheVariants.{Plain}
use Rattle.sys_meaning.specs.Slot.{Place, Spot, named, memory, own, place_of}
use Rattle.sys_meaning.specs.System.{below_call, number_of}
use Rattle.sys_meaning.specs.WellTyped.{IsKnown, WellTyped}
use Rattle.sys_texts.specs.Laws.{IsSightOf}
use Rattle.sys_texts.specs.Sights.{Sight, Stream, number_at}
use Rattle.sys_texts.proofs.Terms.{sort_is}
use Rattle.sys_contracts.specs.Laws.{bare}
use Rattle.sys_tables.specs.Numbers.{behind_own, first_memory, frame_base, sight_at, stream_from}
use Rattle.sys_tables.specs.Tabled.{Linked, Tabled, named_stream, texts_of}
use Rattle.sys_frames.proofs.Seen.{CallsSeen, Seen, SeesOwn}
use Rattle.trace_fits.specs.Given.{IsSlotted, place_in}
use Rattle.trace_fits.specs.Slotted.{Slotted}
use Rattle.trace_fits.specs.Walked.{all_listed, call_listed, calls_listed, free_listed, is_chosen, listed_or_none, listed_within, memories_listed, memory_listed, name_listed, own_listed, streams_listed}
use Rattle.trace_fits.proofs.Chosen.{chosen, free_chosen, inputs_chosen, named_here, names_listed}

-- ---- what is among slots

abbrev pub IsAmong : Slot → List Slot → Type 0
IsAmong q qs = (j : ℕ) × (slice_get qs j ≡ Some q)

among_left : (q : Slot) (xs ys : List Slot) → IsAmong q xs → IsAmong q (xs ++ ys)
among_left q xs ys a = (a.0, go xs a.0 a.1)
  where
    go : (xs : List Slot) (j : ℕ) → slice_get xs j ≡ Some q → slice_get (xs ++ ys) j ≡ Some q
    go [] j e = absurd cc
    go (x ∷ xs) zero e = e
    go (x ∷ xs) (suc j) e = go xs j e

among_right : (q : Slot) (xs ys : List Slot) → IsAmong q ys → IsAmong q (xs ++ ys)
among_right q [] ys a = a
among_right q (x ∷ xs) ys a = let r = among_right q xs ys a in (suc r.0, r.1)

each_among : {A B : Type 0} (f : B → Slot) (g : A → B) (xs : List A) → AllByRecursion (λ x. IsAmong (f (g x)) (map f (map g xs))) xs
each_among f g [] = tt
each_among f g (x ∷ xs) = (
  (zero, refl),
  all_from (λ y. IsAmong (f (g y)) (map f (map g xs))) (λ y. IsAmong (f (g y)) (map f (map g (x ∷ xs)))) (λ y a. (suc a.0, a.1)) xs (each_among f g xs),
)

-- the names and the memories of a frame are among its own slots
module _ (m : Manner) (d : Component) (f : Cell → Slot) where
  abbrev ms : List Memory
  ms = in_order (λ (u : Memory). u.number) (memories d)

  abbrev ns : List Cell
  ns = map name_cell (variables d)

  abbrev ks : List Cell
  ks = map memory_cell ms

  abbrev rest : List Cell
  rest = map start_cell (in_order (λ a. a.number) (starts d)) ++ contract_cells m d.contract

  names_among : AllByRecursion (λ v. IsAmong (f (name_cell v)) (map f (own_cells m d))) (variables d)
  names_among =
      all_from (λ v. IsAmong (f (name_cell v)) (map f ns)) (λ v. IsAmong (f (name_cell v)) (map f (own_cells m d)))
      (λ v a. among_right (f (name_cell v)) (f beat_cell ∷ []) (map f (ns ++ (ks ++ rest)))
      (subst (IsAmong (f (name_cell v))) (sym (map_append f ns (ks ++ rest))) (among_left (f (name_cell v)) (map f ns) (map f (ks ++ rest)) a)))
      (variables d) (each_among f name_cell (variables d))

  memories_among : AllByRecursion (λ u. IsAmong (f (memory_cell u)) (map f (own_cells m d))) ms
  memories_among =
      all_from (λ u. IsAmong (f (memory_cell u)) (map f ks)) (λ u. IsAmong (f (memory_cell u)) (map f (own_cells m d)))
      (λ u a. among_right (f (memory_cell u)) (f beat_cell ∷ []) (map f (ns ++ (ks ++ rest)))
      (subst (IsAmong (f (memory_cell u))) (sym (map_append f ns (ks ++ rest))) (among_right (f (memory_cell u)) (map f ns) (map f (ks ++ rest))
      (subst (IsAmong (f (memory_cell u))) (sym (map_append f ks rest)) (among_left (f (memory_cell u)) (map f ks) (map f rest) a)))))
      ms (each_among f memory_cell ms)

-- ---- numbers

counting_at : (f n a : ℕ) → a < n → slice_get (counting f n) a ≡ Some (f + a)
counting_at f zero a l = absurd (omega arith)
counting_at f (suc n) zero l = let e : f ≡ f + 0 = omega arith in ap Some e
counting_at f (suc n) (suc a) l = let e : suc f + a ≡ f + suc a = omega arith in counting_at (suc f) n a (omega (arith, l)) ∙ ap Some e

counted_number : (f n a missing : ℕ) → a < n → number_at (counting f n) missing (suc a) ≡ f + a
counted_number f n a missing l =
    let one : nat_le 1 (suc a) ≡ true = grind arith in
    ap (λ b. unwrap_or (cond b (slice_get (counting f n) a) None) missing) one ∙ ap (λ o. unwrap_or o missing) (counting_at f n a l)

-- ---- in the system of an analysed declaration

module _ (top : Instance) (typed : WellTyped IsKnown top) where
  slot_gotten : (q : Slot) → IsAmong q (slots top) → (k : ℕ) → k ≡ number_of top (place_of q) → slice_get (slots top) k ≡ Some q
  slot_gotten q a k h =
      let same : a.0 ≡ k = sym (h ∙ typed.numbered a.0 q a.1) in
      subst (λ z. slice_get (slots top) z ≡ Some q) same a.1

  abbrev IsAt : List ℕ → (Place → ℕ) → Type 0
  IsAt path at = (p : Place) → at p ≡ number_of top (path ++ p.0, p.1)

  -- of a frame at the end of a way
  module _ (i : Instance) (path : List ℕ) (at : Place → ℕ) (is_at : IsAt path at) where
    own_at : (x : Spot) → at (own x) ≡ number_of top (path, x)
    own_at x = is_at (own x) ∙ ap (λ ks. number_of top (ks, x)) (append_none path)

    name_slotted : (v : Variable) (n : ℕ) (needed : Bool) (k : ℕ) → IsAmong (slot i path (name_cell v)) (slots top) → at (own (named v.name.text)) ≡ k
        → IsSlotted top (name_listed path n needed k v)
    name_slotted v n needed k a e =
        let number : k ≡ number_of top (path, named v.name.text) = sym e ∙ own_at (named v.name.text) in
        record { place = ap (λ o. option_map_or place_in o None) (slot_gotten (slot i path (name_cell v)) a k number); number = number }

    memory_slotted : (s : Sight) (u : Memory) (k : ℕ) → IsAmong (slot i path (memory_cell u)) (slots top) → at (own (memory u.number)) ≡ k
        → IsSlotted top (memory_listed s path k u)
    memory_slotted s u k a e =
        let number : k ≡ number_of top (path, memory u.number) = sym e ∙ own_at (memory u.number) in
        record { place = ap (λ o. option_map_or place_in o None) (slot_gotten (slot i path (memory_cell u)) a k number); number = number }

    module _ (d : Component) (missing : ℕ) where
      -- names have the numbers from k on
      abbrev Numbered : ℕ → List Variable → Type 0
      Numbered k vs = (x : Name) → named_in x (texts_of vs) ≡ true
          → option_map_or (λ (v : Stream). v.number) (stream_from k (map (named_stream d) vs) x) missing ≡ at (own (named x))

      streams_slotted : (n : ℕ) (inputs : Bool) (k : ℕ) (vs : List Variable) → AreDistinct (texts_of vs)
          → AllByRecursion (λ v. IsAmong (slot i path (name_cell v)) (slots top)) vs → Numbered k vs
          → AllByRecursion (IsSlotted top) (streams_listed path n inputs k (map (named_stream d) vs))
      streams_slotted n inputs k [] once a h = tt
      streams_slotted n inputs k (v ∷ vs) once a h =
          go (is_chosen inputs (named_stream d v)) (streams_slotted n inputs (suc k) vs once.1 a.1 behind)
        where
          number : Name → Bool → ℕ
          number x b = option_map_or (λ (v : Stream). v.number)
              (cond b (Some record { sort = v.sort; number = k; clock = clock_from v.clock }) (stream_from (suc k) (map (named_stream d) vs) x)) missing

          here : at (own (named v.name.text)) ≡ k
          here = sym (h v.name.text (named_here v vs)) ∙ ap (number v.name.text) (self_bytes v.name.text)

          behind : Numbered (suc k) vs
          behind x l = other (bytes_eq x v.name.text) refl
            where
              other : (b : Bool) → bytes_eq x v.name.text ≡ b
                  → option_map_or (λ (v : Stream). v.number) (stream_from (suc k) (map (named_stream d) vs) x) missing ≡ at (own (named x))
              other true e = absurd (false≢true (sym once.0 ∙ ap (λ y. named_in y (texts_of vs)) (sym (same_bytes x v.name.text e)) ∙ l))
              other false e =
                  sym (ap (number x) e) ∙ h x (ap (λ b. b || named_in x (texts_of vs)) e ∙ l)

          go : (b : Bool) → AllByRecursion (IsSlotted top) (streams_listed path n inputs (suc k) (map (named_stream d) vs))
              → AllByRecursion (IsSlotted top) (cond b (name_listed path n inputs k v ∷ []) [] ++ streams_listed path n inputs (suc k) (map (named_stream d) vs))
          go true r = (name_slotted v n inputs k a.0 here, r)
          go false r = r

    memories_slotted : (s : Sight) (us : List Memory) (j k : ℕ) → CountedFrom (λ (u : Memory). u.number) j us
        → AllByRecursion (λ u. IsAmong (slot i path (memory_cell u)) (slots top)) us
        → ((a : ℕ) → a < length us → at (own (memory (j + a))) ≡ k + a) → AllByRecursion (IsSlotted top) (memories_listed s path k us)
    memories_slotted s [] j k c a h = tt
    memories_slotted s (u ∷ us) j k c a h = (
      memory_slotted s u k a.0 (ap (λ z. at (own (memory z))) first ∙ h 0 (omega arith) ∙ none),
      memories_slotted s us (suc j) (suc k) c.1 a.1 (λ z l. ap (λ y. at (own (memory y))) (next j z) ∙ h (suc z) (omega (arith, l)) ∙ sym (next k z)),
    )
      where
        first : u.number ≡ j + 0
        first = let e : u.number ≡ j = c.0 in omega (arith, e)

        none : k + 0 ≡ k
        none = omega arith

        next : (j z : ℕ) → suc j + z ≡ j + suc z
        next j z = omega arith

memories_so : (s : Sight) (i : Instance) (at : Place → ℕ) → IsSightOf s [] (bare i at) → (path : List ℕ) (us : List Memory) (j k : ℕ)
    → CountedFrom (λ (u : Memory). u.number) j us
    → map (λ s. s.listable) (memories_listed s path k us) ≡ listable_firsts path j (map (λ u. sort_of i u.operand) us)
memories_so s i at seen path [] j k c = refl
memories_so s i at seen path (u ∷ us) j k c =
    both (sort_is s [] (bare i at) seen u.operand) c.0 (memories_so s i at seen path us (suc j) (suc k) c.1)
  where
    both : {x y : _} {a b : ℕ} {ls rs : List Listable} → x ≡ y → a ≡ b → ls ≡ rs
        → record { path = path; subject = of_first a; sort = x; count = 1; needed = false } ∷ ls
        ≡ record { path = path; subject = of_first b; sort = y; count = 1; needed = false } ∷ rs
    both e f g = rw (e, f, g) refl

-- ---- what is numbered from 1 without a gap

abbrev mutual
  pub CountedTree : Instance → Type 0
  CountedTree (instance d cs is) = CountedFrom (λ (u : Memory). u.number) 1 (in_order (λ (u : Memory). u.number) (memories d)) × CountedCalls is

  pub CountedCalls : Instances → Type 0
  CountedCalls no_instances = Unit {0}
  CountedCalls (with_instance c k is) = CountedTree k × CountedCalls is

module _ (p : Program) (c : IsChecked p) where
  abbrev Counted : Component → Type 0
  Counted d = CountedFrom (λ (u : Memory). u.number) 1 (in_order (λ (u : Memory). u.number) (memories d))

  counted_at : (d : Component) → Contains (components p) d → Counted d
  counted_at d i = in_order_counted (λ (u : Memory). u.number) (memories d) (memories_counted d (numbered p c.grammatical d i))

  counted_callee : (x : Name) → Counted (callee p x)
  counted_callee x = go (component_named p x) (λ d e. counted_at d (found_declared p x d e))
    where
      go : (o : Option Component) → ((d : Component) → o ≡ Some d → Counted d) → Counted (unwrap_or o no_component)
      go (Some d) h = h d refl
      go None h = tt

  counted_calls : (f : ℕ) → ((d : Component) → Counted d → CountedTree (instance_within f p d)) → (ss : List Site)
      → CountedCalls (instances_with (λ x. instance_within f p (callee p x)) ss)
  counted_calls f h [] = tt
  counted_calls f h (s ∷ ss) = (h (callee p s.callee) (counted_callee s.callee), counted_calls f h ss)

  counted_tree : (f : ℕ) (d : Component) → Counted d → CountedTree (instance_within f p d)
  counted_tree zero d g = (g, tt)
  counted_tree (suc f) d g = (g, counted_calls f (counted_tree f) (all_sites d))

  pub counted_so : (d : Component) → Contains (components p) d → CountedTree (instance_of p d)
  counted_so d i = counted_tree (length p) d (counted_at d i)

-- ---- the walk

module _ (missing n : ℕ) (ts : List Tabled) (top : Instance) (typed : WellTyped IsKnown top) where
  -- these are what the definition lists, each in its slot
  pub record AreListed (ss : List Slotted) (ls : List Listable) : Type 0 where
    pub listables : map (λ s. s.listable) ss ≡ ls
    pub slotted : AllByRecursion (IsSlotted top) ss

  both_listed : (ss rs : List Slotted) (ls ks : List Listable) → AreListed ss ls → AreListed rs ks → AreListed (ss ++ rs) (ls ++ ks)
  both_listed ss rs ls ks a b = record {
    listables = map_append (λ (s : Slotted). s.listable) ss rs ∙ joined a.listables b.listables;
    slotted = both_parts (IsSlotted top) ss rs a.slotted b.slotted;
  }
    where
      joined : {xs ys us vs : List Listable} → xs ≡ ys → us ≡ vs → xs ++ us ≡ ys ++ vs
      joined e f = rw (e, f) refl

  abbrev IsUnder : List Slot → Type 0
  IsUnder qs = (q : Slot) → IsAmong q qs → IsAmong q (slots top)

  -- of a frame itself
  module _ (t : Tabled) (w : Way) (b : ℕ) (m : Manner) (runs : w ≡ way_of m) (d : Component) (cs : List (Name × Value)) (is : Instances)
      (at : Place → ℕ) (path : List ℕ) (seen : SeesOwn missing t w b m (instance d cs is) at)
      (counted : CountedFrom (λ (u : Memory). u.number) 1 (in_order (λ (u : Memory). u.number) (memories d)))
      (is_at : IsAt top typed path at) (under : IsUnder (slots_in m path (instance d cs is))) where
    abbrev i : Instance
    i = instance d cs is

    abbrev s : Sight
    s = sight_at t w b missing

    abbrev us : List Memory
    us = in_order (λ (u : Memory). u.number) (memories d)

    own_under : (q : Slot) → IsAmong q (map (slot i path) (own_cells m d)) → IsAmong q (slots top)
    own_under q a = under q (among_left q (map (slot i path) (own_cells m d)) (call_slots i path is) a)

    names_there : AllByRecursion (λ v. IsAmong (slot i path (name_cell v)) (slots top)) (variables d)
    names_there =
        all_from (λ v. IsAmong (slot i path (name_cell v)) (map (slot i path) (own_cells m d))) (λ v. IsAmong (slot i path (name_cell v)) (slots top))
        (λ v a. own_under (slot i path (name_cell v)) a) (variables d) (names_among m d (slot i path))

    memories_there : AllByRecursion (λ u. IsAmong (slot i path (memory_cell u)) (slots top)) us
    memories_there =
        all_from (λ u. IsAmong (slot i path (memory_cell u)) (map (slot i path) (own_cells m d))) (λ u. IsAmong (slot i path (memory_cell u)) (slots top))
        (λ u a. own_under (slot i path (memory_cell u)) a) us (memories_among m d (slot i path))

    names_numbered : Numbered top typed i path at is_at d missing (suc b) (variables d)
    names_numbered x l =
        ap (λ ss. option_map_or (λ (v : Stream). v.number) (stream_from (suc b) ss x) missing) (sym seen.streams) ∙ seen.sight.numbers x

    pub streams_so : (inputs : Bool)
        → AreListed (streams_listed path n inputs (suc b) t.streams) (listable_names path n inputs (flat_map (chosen d inputs) (variables d)))
    streams_so inputs =
        subst (λ ss. AreListed (streams_listed path n inputs (suc b) ss) (listable_names path n inputs (flat_map (chosen d inputs) (variables d))))
        (sym seen.streams)
        record {
          listables = names_listed d path n inputs (suc b) (variables d);
          slotted = streams_slotted top typed i path at is_at d missing n inputs (suc b) (variables d) seen.distinct names_there names_numbered;
        }

    free_part : AreListed (free_listed w path n (suc b) t.streams) (listable_names path n false (free_in m d))
    free_part = subst (λ z. AreListed (free_listed z path n (suc b) t.streams) (listable_names path n false (free_in m d))) (sym runs) (go m)
      where
        some : AreListed (streams_listed path n false (suc b) t.streams) (listable_names path n false (free_names d))
        some = subst (λ vs. AreListed (streams_listed path n false (suc b) t.streams) (listable_names path n false vs)) (free_chosen d seen.distinct) (streams_so false)

        go : (m : Manner) → AreListed (free_listed (way_of m) path n (suc b) t.streams) (listable_names path n false (free_in m d))
        go plain = some
        go (while_true a) = some
        go (as_import xs) = record { listables = refl; slotted = tt }

    memory_number : (a : ℕ) → a < length us → at (own (memory (1 + a))) ≡ first_memory t b + a
    memory_number a l =
        let one : 1 + a ≡ suc a = omega arith in
        let within : a < length t.memories = subst (λ zs. a < length zs) (sym seen.memories) l in
        ap (λ z. at (own (memory z))) one ∙ sym (seen.sight.memories (suc a)) ∙ counted_number (first_memory t b) (length t.memories) a missing within

    firsts_part : AreListed (memories_listed s path (first_memory t b) t.memories) (listable_firsts path 1 (first_sorts i))
    firsts_part =
        subst (λ zs. AreListed (memories_listed s path (first_memory t b) zs) (listable_firsts path 1 (first_sorts i))) (sym seen.memories)
        record {
          listables = memories_so s i at seen.sight path us 1 (first_memory t b) counted;
          slotted = memories_slotted top typed i path at is_at s us 1 (first_memory t b) counted memories_there memory_number;
        }

    pub own_so : AreListed (own_listed s n w b path t) (listable_names path n false (free_in m d) ++ listable_firsts path 1 (first_sorts i))
    own_so =
        both_listed (free_listed w path n (suc b) t.streams) (memories_listed s path (first_memory t b) t.memories)
        (listable_names path n false (free_in m d)) (listable_firsts path 1 (first_sorts i)) free_part firsts_part

  none_below : (i : Instance) (at : Place → ℕ) (s : Sight) (from j : ℕ) (qs : List Linked) (is : Instances) (path : List ℕ)
      → CallsSeen missing ts zero i at s from j qs is → listable_below path n is ≡ []
  none_below i at s from j [] no_instances path h = refl
  none_below i at s from j (q ∷ qs) no_instances path h = absurd h
  none_below i at s from j [] (with_instance c k is) path h = absurd h
  none_below i at s from j (q ∷ qs) (with_instance c k is) path h = absurd h

  mutual
    -- of a frame and of those of its calls
    pub frame_so : (d : ℕ) (t : Tabled) (w : Way) (b : ℕ) (m : Manner) (i : Instance) (at : Place → ℕ) (path : List ℕ) → w ≡ way_of m
        → Seen missing ts d t w b m i at → CountedTree i → IsAt top typed path at → IsUnder (slots_in m path i)
        → AreListed (listed_within ts missing n d w b path t) (listable_in path n (free_in m (component_of i)) i)
    frame_so zero t w b m (instance d cs is) at path e h g a u =
        let own = own_so t w b m e d cs is at path h.0 g.0 a u in
        subst (λ ls. AreListed (listed_within ts missing n zero w b path t) (listable_names path n false (free_in m d) ++ ls))
        (sym (append_none (listable_firsts path 1 (first_sorts (instance d cs is))))
        ∙ ap (λ ls. listable_firsts path 1 (first_sorts (instance d cs is)) ++ ls)
        (sym (none_below (instance d cs is) at (sight_at t w b missing) (behind_own w t b) 0 t.calls is path h.1))) own
    frame_so (suc f) t w b m (instance d cs is) at path e h g a u =
        let names : List Listable = listable_names path n false (free_in m d) in
        let firsts : List Listable = listable_firsts path 1 (first_sorts (instance d cs is)) in
        subst (AreListed (listed_within ts missing n (suc f) w b path t)) (append_assoc names firsts (listable_below path n is))
        (both_listed (own_listed (sight_at t w b missing) n w b path t) (calls_listed (listed_within ts missing n f) ts (behind_own w t b) path t.calls)
        (names ++ firsts) (listable_below path n is) (own_so t w b m e d cs is at path h.0 g.0 a u)
        (calls_so f (instance d cs is) at (sight_at t w b missing) (behind_own w t b) 0 t.calls is path h.1 g.1 a
        (λ q k. u q (among_right q (map (slot (instance d cs is) path) (own_cells m d)) (call_slots (instance d cs is) path is) k))))

    calls_so : (f : ℕ) (i : Instance) (at : Place → ℕ) (s : Sight) (from j : ℕ) (qs : List Linked) (is : Instances) (path : List ℕ)
        → CallsSeen missing ts (suc f) i at s from j qs is → CountedCalls is → IsAt top typed path at → IsUnder (call_slots i path is)
        → AreListed (calls_listed (listed_within ts missing n f) ts from path qs) (listable_below path n is)
    calls_so f i at s from j [] no_instances path h g a u = record { listables = refl; slotted = tt }
    calls_so f i at s from j (q ∷ qs) no_instances path h g a u = absurd h
    calls_so f i at s from j [] (with_instance c k is) path h g a u = absurd h
    calls_so f i at s from j (q ∷ qs) (with_instance c k is) path h g a u =
        let way : List ℕ = path ++ c.number ∷ [] in
        let held : List Slot = map (slot i path) (held_cells c (component_of k) c.manner) in
        let frame : List Slot = slots_in c.manner way k in
        let more : List Slot = call_slots i path is in
        let ls : List Listable = listable_in way n (free_in c.manner (component_of k)) k in
        let it : AreListed (listed_within ts missing n f (way_of q.site.manner) (frame_base from q) way h.1.0) ls =
        frame_so f h.1.0 (way_of q.site.manner) (frame_base from q) c.manner k (below_call c.number at) way (ap (λ z. way_of z.manner) h.0.site) h.1.2 g.0
        (λ y. a (c.number ∷ y.0, y.1) ∙ ap (λ z. number_of top (z, y.1)) (sym (append_assoc path (c.number ∷ []) y.0)))
        (λ x z. u x (among_right x held (frame ++ more) (among_left x frame more z))) in
        both_listed (call_listed (listed_within ts missing n f) ts from path q) (calls_listed (listed_within ts missing n f) ts from path qs)
        ls (listable_below path n is)
        (subst (λ o. AreListed (listed_or_none (listed_within ts missing n f) (way_of q.site.manner) (frame_base from q) (path ++ q.site.number ∷ []) o) ls)
        (sym h.1.1)
        (subst (λ z. AreListed (listed_within ts missing n f (way_of q.site.manner) (frame_base from q) (path ++ z ∷ []) h.1.0) ls)
        (sym (ap (λ z. z.number) h.0.site)) it))
        (calls_so f i at s from (suc j) qs is path h.2 g.1 a (λ x z. u x (among_right x held (frame ++ more) (among_right x frame more z))))

-- ---- all

module _ (missing n : ℕ) (ts : List Tabled) (top : Instance) (typed : WellTyped IsKnown top) where
  pub all_so : (d : ℕ) (t : Tabled) → Seen missing ts d t Plain 0 plain top (number_of top) → CountedTree top
      → AreListed missing n ts top typed (all_listed ts missing n d t) (listable n top)
  all_so d t h g =
      both_listed missing n ts top typed (streams_listed [] n true 1 t.streams) (listed_within ts missing n d Plain 0 [] t)
      (listable_names [] n true (component_of top).inputs) (listable_in [] n (free_names (component_of top)) top)
      (inputs top h g (λ p. refl) (λ q a. a))
      (frame_so missing n ts top typed d t Plain 0 plain top (number_of top) [] refl h g (λ p. refl) (λ q a. a))
    where
      inputs : (i : Instance) → Seen missing ts d t Plain 0 plain i (number_of top) → CountedTree i → IsAt top typed [] (number_of top)
          → IsUnder missing n ts top typed (slots_in plain [] i)
          → AreListed missing n ts top typed (streams_listed [] n true 1 t.streams) (listable_names [] n true (component_of i).inputs)
      inputs (instance nd cs is) h g a u =
          subst (λ vs. AreListed missing n ts top typed (streams_listed [] n true 1 t.streams) (listable_names [] n true vs)) (inputs_chosen nd h.0.distinct)
          (streams_so missing n ts top typed t Plain 0 plain refl nd cs is (number_of top) [] h.0 g.0 a u true)
