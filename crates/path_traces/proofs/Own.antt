-- The lines of a frame by the numbers of its variables are those of its definition.
use Rattle.std.proofs.Common.{◌≡◌, ℕ, zero, suc, ◌+◌, ◌<◌, Bool, true, false, cond, not, ◌&&◌, ◌||◌, List, [], ◌∷◌, ◌++◌, map, length, length-append, append_assoc, refl, sym, ap, ◌∙◌, subst, arith, Some, slice_get, get_or}
use Rattle.std.specs.List.{AllByRecursion}
use Rattle.std.specs.Str.{bytes_eq}
use Rattle.std.proofs.lemmas.Bool.{false≢true}
use Rattle.lus_tree.specs.declared.place.Sort.{Sort}
use Rattle.lus_tree.specs.declared.place.Sort.TheVariants.{Bool as Flags, Int as Numbers}
use Rattle.lus_tree.specs.Tree.{Name, Variable}
use Rattle.lus_meaning.specs.Value.{Value, absent, Stream}
use Rattle.lus_meaning.specs.Frame.{entry}
use Rattle.lus_meaning.specs.Scene.{Clock, base, sampled_by, Instance, component_of, clock_from, variables}
use Rattle.lus_meaning.specs.Depends.{named_in}
use Rattle.lus_meaning.specs.Occurrences.{Memory}
use Rattle.lus_meaning.specs.Recompute.{sample}
use Rattle.lus_meaning.specs.Run.{sort_of, sort_of_name}
use Rattle.lus_meaning.specs.Slots.{Cell, name_cell, memory_cell, Slot, slot, slots}
use Rattle.lus_meaning.specs.Trace.{of_first, BareLine}
use Rattle.lus_meaning.proofs.Lists.{append_none}
use Rattle.lus_meaning.proofs.Unique.{same_bytes}
use Rattle.sys_terms.specs.declared.term.Entry.{Entry}
use Rattle.sys_terms.specs.declared.term.Entry.TheVariants as entries
use Rattle.sys_terms.specs.Fits.{entry_fits, state_fits}
use Rattle.sys_terms.specs.Meaning.{Values, values_of, truth_of}
use Rattle.sys_meaning.specs.Slot.{Place, named, memory, beat, own, place_of}
use Rattle.sys_meaning.specs.Part.{value_in}
use Rattle.sys_meaning.specs.Path.{course_of, bare_stage, frame_by, firsts_by, name_lines, first_lines}
use Rattle.sys_meaning.specs.System.{number_of, shape_of}
use Rattle.sys_meaning.specs.Translate.{present_within, present}
use Rattle.sys_meaning.specs.WellTyped.{IsKnown, StreamFits, ClockEnds, is_declared, clock_here, WellTyped}
use Rattle.sys_meaning.proofs.Backward.{callee_entry}
use Rattle.sys_meaning.proofs.Follows.{some_same, none_some}
use Rattle.sys_meaning.proofs.Shows.{same_both}
use Rattle.path_laws.proofs.Numbers.{CountedFrom}
use Rattle.path_traces.specs.Numbered.{place_in, name_number, on_within, name_value, name_line, entry_value}
use Rattle.path_traces.specs.Numbered as n

-- ---- lists

got_there : {A : Type 0} (xs : List A) (y : A) (ys : List A) → slice_get (xs ++ y ∷ ys) (length xs) ≡ Some y
got_there [] y ys = refl
got_there (x ∷ xs) y ys = got_there xs y ys

-- a sample of what is read of each of a list
sampled_map : {A : Type 0} (d : A) (h : A → Value) (xs : List A) (g : Stream)
    → ((t : ℕ) → t < length xs → g t ≡ h (get_or xs t d)) → sample (length xs) g ≡ map h xs
sampled_map d h [] g e = refl
sampled_map d h (x ∷ xs) g e =
    rw (e 0 (omega arith), sampled_map d h xs (λ t. g (suc t)) (λ t l. e (suc t) (omega arith))) refl

pub longer : {A : Type 0} (xs : List A) (x : A) → length (xs ++ x ∷ []) ≡ suc (length xs)
longer xs x = let e : length (xs ++ x ∷ []) ≡ length xs + 1 = length-append xs (x ∷ []) in omega arith

-- ---- a variable as it stands in a state that fits

value_stands : (qs : List Slot) (s : List Entry) → state_fits (map (λ q. shape_of q.sort) qs) s ≡ true → (k : ℕ) (q : Slot)
    → slice_get qs k ≡ Some q → value_in (values_of s) q.sort k ≡ entry_value (slice_get s k)
value_stands [] s f k q e = absurd (none_some q e)
value_stands (r ∷ qs) [] f k q e = absurd (false≢true f)
value_stands (r ∷ qs) (x ∷ s) f zero q e =
    subst (λ z. value_in (values_of (x ∷ s)) z 0 ≡ entry_value (Some x)) (ap (λ (y : Slot). y.sort) (some_same r q e))
    (one r.sort x (same_both (entry_fits (shape_of r.sort) x) (state_fits (map (λ q. shape_of q.sort) qs) s) f).0)
  where
    one : (z : Sort) (x : Entry) → entry_fits (shape_of z) x ≡ true → value_in (values_of (x ∷ s)) z 0 ≡ entry_value (Some x)
    one Flags (entries.Flag b) h = refl
    one Flags (entries.Number m) h = absurd (false≢true h)
    one Numbers (entries.Flag b) h = absurd (false≢true h)
    one Numbers (entries.Number m) h = refl
value_stands (r ∷ qs) (x ∷ s) f (suc k) q e =
    later q.sort ∙ value_stands qs s (same_both (entry_fits (shape_of r.sort) x) (state_fits (map (λ q. shape_of q.sort) qs) s) f).1 k q e
  where
    later : (z : Sort) → value_in (values_of (x ∷ s)) z (suc k) ≡ value_in (values_of s) z k
    later Flags = refl
    later Numbers = refl

-- ---- in the system of an analysed declaration

module _ (top : Instance) (w : WellTyped IsKnown top) (states : List (List Entry)) where
  -- a slot's place has the number of slots before it
  pub slot_number : (pre post : List Slot) (q : Slot) → slots top ≡ pre ++ q ∷ post → number_of top (place_of q) ≡ length pre
  slot_number pre post q e = w.numbered (length pre) q (ap (λ qs. slice_get qs (length pre)) e ∙ got_there pre q post)

  -- of a frame at the end of a way of calls
  module _ (i : Instance) (path : List ℕ) (at : Place → ℕ) (is_at : (p : Place) → at p ≡ number_of top (path ++ p.0, p.1)) where
    abbrev slot_here : Cell → Slot
    slot_here c = slot i path c

    pub own_at : (pre post : List Slot) (c : Cell) → slots top ≡ pre ++ slot_here c ∷ post → at ([], (place_of (slot_here c)).1) ≡ length pre
    own_at pre post c e =
        is_at ([], (place_of (slot_here c)).1) ∙ ap (λ ks. number_of top (ks, (place_of (slot_here c)).1)) (append_none path)
        ∙ slot_number pre post (slot_here c) e

    moved : (pre : List Slot) (q : Slot) (qs post : List Slot) → slots top ≡ pre ++ ((q ∷ qs) ++ post) → slots top ≡ (pre ++ q ∷ []) ++ (qs ++ post)
    moved pre q qs post e = e ∙ sym (append_assoc pre (q ∷ []) (qs ++ post))

    -- the names of the frame stand in their order
    pub named_at : (vs : List Variable) (pre post : List Slot) → slots top ≡ pre ++ (map slot_here (map name_cell vs) ++ post) → (x : Name)
        → named_in x (map (λ v. v.name.text) vs) ≡ true → at (own (named x)) ≡ length pre + place_in vs x
    named_at [] pre post e x h = absurd (false≢true h)
    named_at (v ∷ vs) pre post e x h =
        go (bytes_eq x v.name.text) refl h (named_at vs (pre ++ slot_here (name_cell v) ∷ []) post
        (moved pre (slot_here (name_cell v)) (map slot_here (map name_cell vs)) post e) x)
      where
        many : length (pre ++ slot_here (name_cell v) ∷ []) ≡ suc (length pre)
        many = longer pre (slot_here (name_cell v))

        here : at (own (named v.name.text)) ≡ length pre
        here = own_at pre (map slot_here (map name_cell vs) ++ post) (name_cell v) e

        go : (b : Bool) → bytes_eq x v.name.text ≡ b → (b || named_in x (map (λ v. v.name.text) vs)) ≡ true
            → (named_in x (map (λ v. v.name.text) vs) ≡ true → at (own (named x)) ≡ length (pre ++ slot_here (name_cell v) ∷ []) + place_in vs x)
            → at (own (named x)) ≡ length pre + cond b zero (suc (place_in vs x))
        go true s k r =
            let first : at (own (named x)) ≡ length pre = ap (λ y. at (own (named y))) (same_bytes x v.name.text s) ∙ here in
            omega arith
        go false s k r = let next : at (own (named x)) ≡ length (pre ++ slot_here (name_cell v) ∷ []) + place_in vs x = r k in omega (arith, many)

    -- so do the memories, which are what the first values are
    pub firsts_stand : (ms : List Memory) (k : ℕ) → CountedFrom (λ m. m.number) k ms → (pre post : List Slot)
        → slots top ≡ pre ++ (map slot_here (map memory_cell ms) ++ post)
        → state_fits (map (λ q. shape_of q.sort) (slots top)) (get_or states 0 []) ≡ true
        → first_lines path k (firsts_by k (map (λ m. sort_of i m.operand) ms) at (course_of states))
        ≡ n.first_lines path (get_or states 0 []) (length pre) k (length ms)
    firsts_stand [] k a pre post e f = refl
    firsts_stand (m ∷ ms) k a pre post e f =
        let q : Slot = slot_here (memory_cell m) in
        let s : List Entry = get_or states 0 [] in
        let after : List Slot = map slot_here (map memory_cell ms) ++ post in
        let there : at (own (memory k)) ≡ length pre = ap (λ j. at (own (memory j))) (sym a.0) ∙ own_at pre after (memory_cell m) e in
        let value : value_in (values_of s) (sort_of i m.operand) (at (own (memory k))) ≡ entry_value (slice_get s (length pre)) =
        ap (value_in (values_of s) (sort_of i m.operand)) there
        ∙ value_stands (slots top) s f (length pre) q (ap (λ qs. slice_get qs (length pre)) e ∙ got_there pre q after) in
        let rest : first_lines path (suc k) (firsts_by (suc k) (map (λ m. sort_of i m.operand) ms) at (course_of states))
        ≡ n.first_lines path s (suc (length pre)) (suc k) (length ms) =
        firsts_stand ms (suc k) a.1 (pre ++ q ∷ []) post (moved pre q (map slot_here (map memory_cell ms)) post e) f
        ∙ ap (λ j. n.first_lines path s j (suc k) (length ms)) (longer pre q) in
        joined value rest
      where
        joined : {v u : Value} {ls ks : List BareLine} → v ≡ u → ls ≡ ks
            → record { path = path; subject = of_first k; values = v ∷ [] } ∷ ls ≡ record { path = path; subject = of_first k; values = u ∷ [] } ∷ ks
        joined d g = rw (d, g) refl

    -- ---- names

    module _ (b : ℕ) (beats : at (own beat) ≡ b)
        (names : (x : Name) → is_declared i (IsKnown i) x → at (own (named x)) ≡ name_number (variables (component_of i)) b x) where
      abbrev vs : List Variable
      vs = variables (component_of i)

      abbrev len : ℕ
      len = length states

      present_so : (s : Values) (m : ℕ) (k : Clock) → ClockEnds i (IsKnown i) m k → truth_of s s (present_within m (bare_stage i at) k) ≡ on_within m vs b s k
      present_so s m base h = ap s.flag_at beats
      present_so s zero (sampled_by t x) h = absurd h
      present_so s (suc m) (sampled_by true x) h = ap s.flag_at (names x h.0.declared)
      present_so s (suc m) (sampled_by false x) h =
          both (present_so s m (clock_here i (IsKnown i) x) h.2) (ap s.flag_at (names x h.0.declared))
        where
          both : {p q r t : Bool} → p ≡ q → r ≡ t → (p && not r) ≡ (q && not t)
          both d g = rw (d, g) refl

      value_so : (v : Variable) → StreamFits i (IsKnown i) v → (t : ℕ) → t < len
          → entry (frame_by i at (course_of states) len) v.name.text t ≡ name_value vs b v (get_or states t [])
      value_so v h t l =
          let s : Values = values_of (get_or states t []) in
          callee_entry IsKnown i at (course_of states) len t l v.name.text h.name.declared
          ∙ ap (λ k. cond (truth_of s s (present (bare_stage i at) k)) (value_in s (sort_of_name i v.name.text) (at (own (named v.name.text)))) absent)
          h.name.clock
          ∙ ap (λ o. cond o (value_in s (sort_of_name i v.name.text) (at (own (named v.name.text)))) absent)
          (present_so s (length vs) (clock_from v.clock) h.clock)
          ∙ ap (λ z. cond (on_within (length vs) vs b s (clock_from v.clock)) (value_in s z (at (own (named v.name.text)))) absent) h.sort
          ∙ ap (λ j. cond (on_within (length vs) vs b s (clock_from v.clock)) (value_in s v.sort j) absent) (names v.name.text h.name.declared)

      pub names_so : (ws : List Variable) → AllByRecursion (StreamFits i (IsKnown i)) ws
          → name_lines path len (frame_by i at (course_of states) len) ws ≡ map (name_line path states vs b) ws
      names_so [] a = refl
      names_so (v ∷ ws) a =
          rw (sampled_map [] (name_value vs b v) states (entry (frame_by i at (course_of states) len) v.name.text) (value_so v a.0), names_so ws a.1) refl
