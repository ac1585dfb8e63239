-- The lines of a path's trace: no two list the same, and each lists what may be listed, where numbers are small.
use Rattle.std.proofs.Common.{◌≡◌, ℕ, zero, suc, ◌<◌, Bool, true, false, cond, not, ◌&&◌, ◌||◌, List, [], ◌∷◌, ◌++◌, map, flat_map, length, Option, Some, None, refl, sym, ap, ◌∙◌, subst, arith, append_assoc, slice_get}
use Rattle.std.specs.Prelude.{Contains}
use Rattle.std.specs.List.{AllByRecursion}
use Rattle.std.proofs.Math.Logic.{◌⊎◌, inl, inr}
use Rattle.std.proofs.lemmas.Bool.{false≢true, true≢false}
use Rattle.lus_tree.specs.declared.place.Sort.{Sort}
use Rattle.lus_tree.specs.declared.place.Sort.TheVariants.{Bool as Flags, Int as Numbers}
use Rattle.lus_tree.specs.Tree.{Variable, Component, Program}
use Rattle.lus_meaning.specs.Value.{Value, absent, flag, whole, Stream, Instants, has_sort, is_absent}
use Rattle.lus_meaning.specs.Frame.{Frame, Frames, entry}
use Rattle.lus_meaning.specs.Scene.{base, Manner, plain, while_true, as_import, Site, Scene, Instance, Instances, instance, no_instances, with_instance, component_of, clock_from, contract_statements, ghosts, variables, is_on}
use Rattle.lus_meaning.specs.Contract.{scene}
use Rattle.lus_meaning.specs.Program.{in_order, all_sites}
use Rattle.lus_meaning.specs.Run.{IsRun, CallsRun, is_typed, first_sorts, active, sort_of, sort_of_name}
use Rattle.lus_meaning.specs.Recompute.{sample}
use Rattle.lus_meaning.specs.Occurrences.{Memory, memories, starts}
use Rattle.lus_meaning.specs.Trace.{Subject, of_name, of_first, BareLine, same_subject, same_numbers, is_defined, free_names, free_in}
use Rattle.lus_meaning.specs.Fits.{Listable, listable_names, listable_firsts, listable_in, listable_below, same_place, listable_at, is_listed, size_of, is_of_sort, takes_value, TakesValues, IsTaken, AreTaken, AreDifferent}
use Rattle.lus_meaning.specs.ClockFaults.{components}
use Rattle.lus_meaning.specs.Refusals.{IsChecked}
use Rattle.lus_meaning.specs.Slots.{beat_cell, name_cell, memory_cell, start_cell, own_cells, contract_cells, held_cells, Slot, slot, slots_in, call_slots}
use Rattle.lus_meaning.proofs.Exists.{length_sample}
use Rattle.lus_meaning.proofs.Lists.{all_from_both, map_append}
use Rattle.lus_meaning.proofs.Now.{left_part}
use Rattle.rule_laws.specs.Laws.{IsUnfolded, AreUnfolded}
use Rattle.rule_laws.proofs.Callees.{GoesDown, each_site}
use Rattle.rule_laws.proofs.Places.{numbered, memories_counted}
use Rattle.clock_laws.proofs.Clocks.{declared_at}
use Rattle.sys_terms.specs.Meaning.{Values}
use Rattle.sys_meaning.specs.Slot.{Spot, Place, named, memory, own, place_of}
use Rattle.sys_meaning.specs.Slot as slots
use Rattle.sys_meaning.specs.Part.{value_in}
use Rattle.sys_meaning.specs.Path.{Course, frame_by, frames_by, firsts_by, name_lines, first_lines, lines_from, lines_below}
use Rattle.sys_meaning.specs.System.{below_call}
use Rattle.sys_meaning.specs.WellTyped.{IsKnown}
use Rattle.sys_meaning.proofs.Backward.{callee_entry}
use Rattle.sys_meaning.proofs.Cells.{Apart}
use Rattle.sys_meaning.proofs.Cells.{listed_each}
use Rattle.sys_meaning.proofs.Shows.{same_both, same_ways}
use Rattle.sys_meaning.proofs.Tracing.{same_subjects, self_subject, self_way}
use Rattle.path_laws.proofs.Numbers.{CountedFrom, in_order_counted}

-- ---- lists within lists

-- in the same order
abbrev pub Within : {A : Type 0} → List A → List A → Type 0
Within [] ys = Unit {0}
Within (x ∷ xs) [] = ⊥
Within (x ∷ xs) (y ∷ ys) = ((y ≡ x) × Within xs ys) ⊎ Within (x ∷ xs) ys

all_within : {A : Type 0} (xs : List A) → Within xs xs
all_within [] = tt
all_within (x ∷ xs) = inl (refl, all_within xs)

within_skip : {A : Type 0} (xs us vs : List A) → Within xs vs → Within xs (us ++ vs)
within_skip xs [] vs h = h
within_skip [] (u ∷ us) vs h = tt
within_skip (x ∷ xs) (u ∷ us) vs h = inr (within_skip (x ∷ xs) us vs h)

within_both : {A : Type 0} (xs ys us vs : List A) → Within xs us → Within ys vs → Within (xs ++ ys) (us ++ vs)
within_both [] ys us vs a b = within_skip ys us vs b
within_both (x ∷ xs) ys [] vs a b = absurd a
within_both (x ∷ xs) ys (u ∷ us) vs (inl a) b = inl (a.0, within_both xs ys us vs a.1 b)
within_both (x ∷ xs) ys (u ∷ us) vs (inr a) b = inr (within_both (x ∷ xs) ys us vs a b)

within_left : {A : Type 0} (xs us vs : List A) → Within xs us → Within xs (us ++ vs)
within_left [] us vs h = tt
within_left (x ∷ xs) [] vs h = absurd h
within_left (x ∷ xs) (u ∷ us) vs (inl h) = inl (h.0, within_left xs us vs h.1)
within_left (x ∷ xs) (u ∷ us) vs (inr h) = inr (within_left (x ∷ xs) us vs h)

pub all_of_within : {A : Type 0} (P : A → Type 0) (xs ys : List A) → Within xs ys → AllByRecursion P ys → AllByRecursion P xs
all_of_within P [] ys h a = tt
all_of_within P (x ∷ xs) [] h a = absurd h
all_of_within P (x ∷ xs) (y ∷ ys) (inl h) a = (subst P h.0 a.0, all_of_within P xs ys h.1 a.1)
all_of_within P (x ∷ xs) (y ∷ ys) (inr h) a = all_of_within P (x ∷ xs) ys h a.1

free_within : (d : Component) (vs : List Variable) → Within (flat_map (λ v. cond (is_defined d v.name.text) [] (v ∷ [])) vs) vs
free_within d [] = tt
free_within d (v ∷ vs) = go (is_defined d v.name.text) (free_within d vs)
  where
    rest : List Variable
    rest = flat_map (λ v. cond (is_defined d v.name.text) [] (v ∷ [])) vs

    go : (b : Bool) → Within rest vs → Within (cond b [] (v ∷ []) ++ rest) (v ∷ vs)
    go true h = within_skip rest (v ∷ []) vs h
    go false h = inl (refl, h)

-- free names are names of the declaration, and so are inputs before them
pub top_within : (d : Component) → Within (d.inputs ++ free_names d) (variables d)
top_within d = within_left (d.inputs ++ free_names d) (d.inputs ++ d.outputs ++ d.locals) (ghosts (contract_statements d))
    (subst (Within (d.inputs ++ free_names d)) (sym (append_assoc d.inputs d.outputs d.locals))
    (within_both d.inputs (free_names d) d.inputs (d.outputs ++ d.locals) (all_within d.inputs) (free_within d (d.outputs ++ d.locals))))

pub names_within : (d : Component) → Within (free_names d) (variables d)
names_within d = within_left (free_names d) (d.inputs ++ d.outputs ++ d.locals) (ghosts (contract_statements d))
    (subst (Within (free_names d)) (sym (append_assoc d.inputs d.outputs d.locals))
    (within_skip (free_names d) d.inputs (d.outputs ++ d.locals) (free_within d (d.outputs ++ d.locals))))

pub inputs_within : (d : Component) → Within d.inputs (variables d)
inputs_within d = within_left d.inputs (d.inputs ++ d.outputs ++ d.locals) (ghosts (contract_statements d))
    (within_left d.inputs (d.inputs ++ d.outputs) d.locals (within_left d.inputs d.inputs d.outputs (all_within d.inputs)))

free_in_within : (m : Manner) (d : Component) → Within (free_in m d) (variables d)
free_in_within plain d = names_within d
free_in_within (while_true a) d = names_within d
free_in_within (as_import xs) d = tt

-- ---- lines at places of slots

abbrev spot_of_subject : Subject → Spot
spot_of_subject (of_name x) = named x
spot_of_subject (of_first k) = memory k

abbrev line_place : BareLine → Place
line_place l = (l.path, spot_of_subject l.subject)

abbrev pub PlacedWithin : List BareLine → List Slot → Type 0
PlacedWithin [] qs = Unit {0}
PlacedWithin (l ∷ ls) [] = ⊥
PlacedWithin (l ∷ ls) (q ∷ qs) = ((place_of q ≡ line_place l) × PlacedWithin ls qs) ⊎ PlacedWithin (l ∷ ls) qs

placed_skip : (ls : List BareLine) (us vs : List Slot) → PlacedWithin ls vs → PlacedWithin ls (us ++ vs)
placed_skip ls [] vs h = h
placed_skip [] (u ∷ us) vs h = tt
placed_skip (l ∷ ls) (u ∷ us) vs h = inr (placed_skip (l ∷ ls) us vs h)

placed_both : (xs ys : List BareLine) (us vs : List Slot) → PlacedWithin xs us → PlacedWithin ys vs → PlacedWithin (xs ++ ys) (us ++ vs)
placed_both [] ys us vs a b = placed_skip ys us vs b
placed_both (x ∷ xs) ys [] vs a b = absurd a
placed_both (x ∷ xs) ys (u ∷ us) vs (inl a) b = inl (a.0, placed_both xs ys us vs a.1 b)
placed_both (x ∷ xs) ys (u ∷ us) vs (inr a) b = inr (placed_both (x ∷ xs) ys us vs a b)

placed_left : (xs : List BareLine) (us vs : List Slot) → PlacedWithin xs us → PlacedWithin xs (us ++ vs)
placed_left [] us vs h = tt
placed_left (x ∷ xs) [] vs h = absurd h
placed_left (x ∷ xs) (u ∷ us) vs (inl h) = inl (h.0, placed_left xs us vs h.1)
placed_left (x ∷ xs) (u ∷ us) vs (inr h) = inr (placed_left (x ∷ xs) us vs h)

places_same : (p q : List ℕ) (x y : Subject) → same_place p x q y ≡ slots.same_place (p, spot_of_subject x) (q, spot_of_subject y)
places_same p q (of_name x) (of_name y) = refl
places_same p q (of_name x) (of_first j) = refl
places_same p q (of_first k) (of_name y) = refl
places_same p q (of_first k) (of_first j) = refl

unlisted : (ls : List BareLine) (qs : List Slot) (l : BareLine) → PlacedWithin ls qs →
    AllByRecursion (λ r. slots.same_place (place_of r) (line_place l) ≡ false) qs → is_listed ls l.path l.subject ≡ false
unlisted [] qs l h a = refl
unlisted (x ∷ xs) [] l h a = absurd h
unlisted (x ∷ xs) (q ∷ qs) l (inl h) a =
    let here : same_place x.path x.subject l.path l.subject ≡ false =
    places_same x.path l.path x.subject l.subject ∙ subst (λ p. slots.same_place p (line_place l) ≡ false) h.0 a.0 in
    rw here (unlisted xs qs l h.1 a.1)
unlisted (x ∷ xs) (q ∷ qs) l (inr h) a = unlisted (x ∷ xs) qs l h a.1

-- lines at different places list different things
pub lines_differ : (ls : List BareLine) (qs : List Slot) → PlacedWithin ls qs → Apart qs → AreDifferent ls
lines_differ [] qs h a = tt
lines_differ (l ∷ ls) [] h a = absurd h
lines_differ (l ∷ ls) (q ∷ qs) (inl h) a =
    (unlisted ls qs l h.1 (subst (λ p. AllByRecursion (λ r. slots.same_place (place_of r) p ≡ false) qs) h.0 a.0), lines_differ ls qs h.1 a.1)
lines_differ (l ∷ ls) (q ∷ qs) (inr h) a = lines_differ (l ∷ ls) qs h a.1

names_placed : (i : Instance) (path : List ℕ) (n : ℕ) (f : Frame) (ws vs : List Variable) → Within ws vs →
    PlacedWithin (name_lines path n f ws) (map (slot i path) (map name_cell vs))
names_placed i path n f [] vs h = tt
names_placed i path n f (w ∷ ws) [] h = absurd h
names_placed i path n f (w ∷ ws) (v ∷ vs) (inl h) = inl (ap (λ (z : Variable). (path, named z.name.text)) h.0, names_placed i path n f ws vs h.1)
names_placed i path n f (w ∷ ws) (v ∷ vs) (inr h) = inr (names_placed i path n f (w ∷ ws) vs h)

firsts_placed : (i : Instance) (path : List ℕ) (at : Place → ℕ) (c : Course) (k : ℕ) (xs : List Memory) → CountedFrom (λ x. x.number) k xs →
    PlacedWithin (first_lines path k (firsts_by k (map (λ x. sort_of i x.operand) xs) at c)) (map (slot i path) (map memory_cell xs))
firsts_placed i path at c k [] h = tt
firsts_placed i path at c k (x ∷ xs) h = inl (ap (λ j. (path, memory j)) h.0, firsts_placed i path at c (suc k) xs h.1)

-- ---- lines and what may be listed

abbrev pub Match : List BareLine → List Listable → Type 0
Match [] [] = Unit {0}
Match [] (s ∷ ss) = ⊥
Match (l ∷ ls) [] = ⊥
Match (l ∷ ls) (s ∷ ss) = (l.path ≡ s.path) × (l.subject ≡ s.subject) × TakesValues s l.values × Match ls ss

pub match_both : (xs ys : List BareLine) (us vs : List Listable) → Match xs us → Match ys vs → Match (xs ++ ys) (us ++ vs)
match_both [] ys [] vs a b = b
match_both [] ys (u ∷ us) vs a b = absurd a
match_both (x ∷ xs) ys [] vs a b = absurd a
match_both (x ∷ xs) ys (u ∷ us) vs a b = (a.0, a.1, a.2, match_both xs ys us vs a.3 b)

swapped : (p q : List ℕ) (x y : Subject) → same_place q y p x ≡ false → same_place p x q y ≡ false
swapped p q x y h = go (same_place p x q y) refl
  where
    go : (b : Bool) → same_place p x q y ≡ b → b ≡ false
    go false e = refl
    go true e =
        let r = same_both (same_numbers p q) (same_subject x y) e in
        let paths : p ≡ q = same_ways p q r.0 in
        let subjects : x ≡ y = same_subjects x y r.1 in
        absurd (true≢false (sym (subst (λ z. same_place z y p x ≡ true) paths (subst (λ z. same_place p z p x ≡ true) subjects
        (rw (self_way p, self_subject x) refl))) ∙ h))

others_taken : (s : Listable) (ss : List Listable) (ls : List BareLine) → is_listed ls s.path s.subject ≡ false → AreTaken ss ls → AreTaken (s ∷ ss) ls
others_taken s ss [] h a = tt
others_taken s ss (l ∷ ls) h a =
    let r = neither (same_place l.path l.subject s.path s.subject) (is_listed ls s.path s.subject) h in (
      subst (λ b. IsTaken (cond b (Some s) (listable_at ss l.path l.subject)) l.values) (sym (swapped s.path l.path s.subject l.subject r.0)) a.0,
      others_taken s ss ls r.1 a.1,
    )
  where
    neither : (a b : Bool) → (a || b) ≡ false → (a ≡ false) × (b ≡ false)
    neither true b e = absurd (true≢false e)
    neither false b e = (refl, e)

-- lines that are different, and are what may be listed one by one
pub all_taken : (ls : List BareLine) (ss : List Listable) → Match ls ss → AreDifferent ls → AreTaken ss ls
all_taken [] [] a d = tt
all_taken [] (s ∷ ss) a d = tt
all_taken (l ∷ ls) [] a d = absurd a
all_taken (l ∷ ls) (s ∷ ss) a d =
    let found : same_place s.path s.subject l.path l.subject ≡ true =
    subst (λ z. same_place z s.subject l.path l.subject ≡ true) a.0 (subst (λ z. same_place l.path z l.path l.subject ≡ true) a.1
    (rw (self_way l.path, self_subject l.subject) refl)) in (
      subst (λ b. IsTaken (cond b (Some s) (listable_at ss l.path l.subject)) l.values) (sym found) a.2,
      others_taken s ss ls (subst (λ z. is_listed ls z s.subject ≡ false) a.0 (subst (λ z. is_listed ls l.path z ≡ false) a.1 d.0))
          (all_taken ls ss a.3 d.1),
    )

-- ---- values

-- a number of a size of at most 2^63 - 1
abbrev IsSmall : Value → Type 0
IsSmall v = has_sort Numbers v ≡ true → is_of_sort Numbers v ≡ true

abbrev pub SmallCourse : Course → ℕ → Type 0
SmallCourse c n = (t : ℕ) → t < n → (k : ℕ) → is_of_sort Numbers (whole ((c t).number_at k)) ≡ true

small_of : (q : Sort) (now : Values) (k : ℕ) → is_of_sort Numbers (whole (now.number_at k)) ≡ true → is_of_sort q (value_in now q k) ≡ true
small_of Flags now k h = refl
small_of Numbers now k h = h

small_value : (q : Sort) (now : Values) (k : ℕ) → is_of_sort Numbers (whole (now.number_at k)) ≡ true → IsSmall (value_in now q k)
small_value Flags now k h = λ e. absurd (false≢true e)
small_value Numbers now k h = λ e. h

small_or : (b : Bool) (v : Value) → IsSmall v → IsSmall (cond b v absent)
small_or true v h = h
small_or false v h = λ e. absurd (false≢true e)

sorted : (q : Sort) (v : Value) → has_sort q v ≡ true → IsSmall v → is_of_sort q v ≡ true
sorted Flags absent h s = absurd (false≢true h)
sorted Flags (flag b) h s = refl
sorted Flags (whole z) h s = absurd (false≢true h)
sorted Numbers v h s = s h

takes_typed : (s : Listable) (on : Bool) (v : Value) → s.needed ≡ false → is_typed s.sort on v ≡ true → IsSmall v → takes_value s v ≡ true
takes_typed s true v e h m = rw (sorted s.sort v h m) refl
takes_typed s false v e h m = rw (e, h) (either (is_of_sort s.sort v))
  where
    either : (b : Bool) → (b || true) ≡ true
    either true = refl
    either false = refl

takes_needed : (s : Listable) (on : Bool) (v : Value) → on ≡ true → is_typed s.sort on v ≡ true → IsSmall v → takes_value s v ≡ true
takes_needed s true v e h m = rw (sorted s.sort v h m) refl
takes_needed s false v e h m = absurd (false≢true e)

sampled : (P : Value → Type 0) (m : ℕ) (xs : Stream) → ((t : ℕ) → t < m → P (xs t)) → AllByRecursion P (sample m xs)
sampled P zero xs h = tt
sampled P (suc m) xs h = (h 0 (omega arith), sampled P m (λ t. xs (suc t)) (λ t l. h (suc t) (omega arith)))

firsts_match : (path : List ℕ) (at : Place → ℕ) (c : Course) (n : ℕ) → SmallCourse c n → 0 < n → (k : ℕ) (ss : List Sort) →
    Match (first_lines path k (firsts_by k ss at c)) (listable_firsts path k ss)
firsts_match path at c n small some k [] = tt
firsts_match path at c n small some k (s ∷ ss) = (
  refl,
  refl,
  record {
    count = refl;
    each = (rw (small_of s (c 0) (at (own (memory k))) (small 0 some (at (own (memory k))))) refl, tt);
  },
  firsts_match path at c n small some (suc k) ss,
)

abbrev name_of : List ℕ → ℕ → Bool → Variable → Listable
name_of path n needed v = record { path = path; subject = of_name v.name.text; sort = v.sort; count = n; needed = needed }

module _ (i : Instance) (at : Place → ℕ) (c : Course) (n : ℕ) (b : Instants) (small : SmallCourse c n) where
  abbrev f : Frame
  f = frame_by i at c n

  -- a name has a value of its type exactly where its clock is on
  abbrev pub NameTyped : Variable → Type 0
  NameTyped v = (t : ℕ) → t < n → is_typed v.sort (is_on (scene i b f) (clock_from v.clock) t) (entry f v.name.text t) ≡ true

  pub record NameGood (v : Variable) : Type 0 where
    pub typed : NameTyped v
    pub small_there : (t : ℕ) → t < n → IsSmall (entry f v.name.text t)

  pub names_good : AllByRecursion NameTyped (variables (component_of i)) → AllByRecursion NameGood (variables (component_of i))
  names_good a = all_from_both NameTyped (λ v. _) NameGood (λ v h d. record {
    typed = h;
    small_there = λ t l. subst IsSmall (sym (callee_entry IsKnown i at c n t l v.name.text d))
        (small_or _ (value_in (c t) (sort_of_name i v.name.text) (at (own (named v.name.text))))
        (small_value (sort_of_name i v.name.text) (c t) (at (own (named v.name.text))) (small t l (at (own (named v.name.text))))));
  }) (variables (component_of i)) a (listed_each (variables (component_of i)))

  pub names_match : (path : List ℕ) (ws : List Variable) → AllByRecursion NameGood ws → Match (name_lines path n f ws) (listable_names path n false ws)
  names_match path [] a = tt
  names_match path (w ∷ ws) a = (
    refl,
    refl,
    record {
      count = length_sample n (entry f w.name.text);
      each = sampled (λ v. takes_value (name_of path n false w) v ≡ true) n (entry f w.name.text)
          (λ t l. takes_typed (name_of path n false w) (is_on (scene i b f) (clock_from w.clock) t) (entry f w.name.text t) refl (a.0.typed t l) (a.0.small_there t l));
    },
    names_match path ws a.1,
  )

  pub needed_match : (path : List ℕ) (ws : List Variable) → AllByRecursion NameGood ws →
      AllByRecursion (λ w. (t : ℕ) → is_on (scene i b f) (clock_from w.clock) t ≡ true) ws → Match (name_lines path n f ws) (listable_names path n true ws)
  needed_match path [] a o = tt
  needed_match path (w ∷ ws) a o = (
    refl,
    refl,
    record {
      count = length_sample n (entry f w.name.text);
      each = sampled (λ v. takes_value (name_of path n true w) v ≡ true) n (entry f w.name.text)
          (λ t l. takes_needed (name_of path n true w) (is_on (scene i b f) (clock_from w.clock) t) (entry f w.name.text t) (o.0 t) (a.0.typed t l) (a.0.small_there t l));
    },
    needed_match path ws a.1 o.1,
  )

pub own_typed : (i : Instance) (at : Place → ℕ) (c : Course) (n : ℕ) (b : Instants) (small : SmallCourse c n) → IsRun i n b (frame_by i at c n) →
    AllByRecursion (NameGood i at c n b small) (variables (component_of i))
own_typed (instance d cs is) at c n b small r = names_good (instance d cs is) at c n b small r.0.types

mutual
  pub lines_match : (i : Instance) (at : Place → ℕ) (c : Course) (n : ℕ) (b : Instants) → SmallCourse c n → 0 < n →
      IsRun i n b (frame_by i at c n) → (path : List ℕ) (ws : List Variable) → Within ws (variables (component_of i)) →
      Match (lines_from path n ws i (frame_by i at c n)) (listable_in path n ws i)
  lines_match (instance d cs is) at c n b small some r path ws h =
      let i : Instance = instance d cs is in
      let names : List BareLine = name_lines path n (frame_by i at c n) ws in
      let firsts : List BareLine = first_lines path 1 (firsts_by 1 (first_sorts i) at c) in
      let below : List BareLine = lines_below path n is (frames_by is at c n) in
      subst (λ ls. Match ls (listable_in path n ws i)) (sym (append_assoc names firsts below))
      (match_both names (firsts ++ below) (listable_names path n false ws) (listable_firsts path 1 (first_sorts i) ++ listable_below path n is)
      (names_match i at c n b small path ws (all_of_within (NameGood i at c n b small) ws (variables d) h (own_typed i at c n b small r)))
      (match_both firsts below (listable_firsts path 1 (first_sorts i)) (listable_below path n is)
      (firsts_match path at c n small some 1 (first_sorts i)) (below_match is (scene i b (frame_by i at c n)) at c n small some r.1 path)))

  below_match : (is : Instances) (s : Scene) (at : Place → ℕ) (c : Course) (n : ℕ) → SmallCourse c n → 0 < n →
      CallsRun n s is (frames_by is at c n) → (path : List ℕ) → Match (lines_below path n is (frames_by is at c n)) (listable_below path n is)
  below_match no_instances s at c n small some r path = tt
  below_match (with_instance a k is) s at c n small some r path =
      let ws : List Variable = free_in a.manner (component_of k) in
      match_both (lines_from (path ++ a.number ∷ []) n ws k (frame_by k (below_call a.number at) c n)) (lines_below path n is (frames_by is at c n))
      (listable_in (path ++ a.number ∷ []) n ws k) (listable_below path n is)
      (lines_match k (below_call a.number at) c n (active s a) small some r.1 (path ++ a.number ∷ []) ws (free_in_within a.manner (component_of k)))
      (below_match is s at c n small some r.2 path)

-- ---- the lines of a tree, at its places

module _ (p : Program) (c : IsChecked p) where
  mutual
    pub lines_placed : (i : Instance) → IsUnfolded p i → Contains (components p) (component_of i) → (m : Manner) (at : Place → ℕ) (co : Course) (n : ℕ)
        (path : List ℕ) (ws : List Variable) → Within ws (variables (component_of i)) →
        PlacedWithin (lines_from path n ws i (frame_by i at co n)) (slots_in m path i)
    lines_placed (instance d cs is) u j m at co n path ws h =
        let i : Instance = instance d cs is in
        let f : Frame = frame_by i at co n in
        let S : List Slot = map (slot i path) (map name_cell (variables d)) in
        let names : List BareLine = name_lines path n f ws in
        let firsts : List BareLine = first_lines path 1 (firsts_by 1 (first_sorts i) at co) in
        let ms : List Memory = in_order (λ x. x.number) (memories d) in
        let rest = map start_cell (in_order (λ x. x.number) (starts d)) ++ contract_cells m d.contract in
        let two : PlacedWithin firsts (map (slot i path) (map memory_cell ms ++ rest)) =
        subst (PlacedWithin firsts) (sym (map_append (slot i path) (map memory_cell ms) rest))
        (placed_left firsts (map (slot i path) (map memory_cell ms)) (map (slot i path) rest)
        (firsts_placed i path at co 1 ms (in_order_counted (λ x. x.number) (memories d) (memories_counted d (numbered p c.grammatical d j))))) in
        let one : PlacedWithin (names ++ firsts) (map (slot i path) (map name_cell (variables d) ++ (map memory_cell ms ++ rest))) =
        subst (PlacedWithin (names ++ firsts)) (sym (map_append (slot i path) (map name_cell (variables d)) (map memory_cell ms ++ rest)))
        (placed_both names firsts S (map (slot i path) (map memory_cell ms ++ rest)) (names_placed i path n f ws (variables d) h) two) in
        placed_both (names ++ firsts) (lines_below path n is (frames_by is at co n)) (map (slot i path) (own_cells m d)) (call_slots i path is)
        (placed_skip (names ++ firsts) (slot i path beat_cell ∷ []) (map (slot i path) (map name_cell (variables d) ++ (map memory_cell ms ++ rest))) one)
        (below_placed i (all_sites d) is u.1 (each_site p c.rules.clocked.typed d j) at co n path)

    below_placed : (i : Instance) (ss : List Site) (is : Instances) → AreUnfolded p ss is →
        AllByRecursion (λ s. GoesDown p (component_of i) s.callee) ss → (at : Place → ℕ) (co : Course) (n : ℕ) (path : List ℕ) →
        PlacedWithin (lines_below path n is (frames_by is at co n)) (call_slots i path is)
    below_placed i ss no_instances u a at co n path = tt
    below_placed i [] (with_instance t k is) u a at co n path = absurd u
    below_placed i (s ∷ ss) (with_instance t k is) u a at co n path =
        let ws : List Variable = free_in t.manner (component_of k) in
        let here : List BareLine = lines_from (path ++ t.number ∷ []) n ws k (frame_by k (below_call t.number at) co n) in
        let later : List BareLine = lines_below path n is (frames_by is at co n) in
        placed_skip (here ++ later) (map (slot i path) (held_cells t (component_of k) t.manner))
        (slots_in t.manner (path ++ t.number ∷ []) k ++ call_slots i path is)
        (placed_both here later (slots_in t.manner (path ++ t.number ∷ []) k) (call_slots i path is)
        (lines_placed k u.2 (declared_at p c (component_of i) s k a.0 u.1) t.manner (below_call t.number at) co n (path ++ t.number ∷ []) ws
        (free_in_within t.manner (component_of k))) (below_placed i ss is u.3 a.1 at co n path))
