-- A path shows its frame at each instant: one frame, whose calls are shown.
use Rattle.std.proofs.Common.{◌≡◌, ℕ, zero, suc, pred, ◌<◌, ◌+◌, Bool, true, false, not, List, [], ◌∷◌, refl, ap, sym, subst, arith, Option, Some, None, slice_get, slice_index_or, ◌==◌}
use Rattle.std.specs.List.{AllByRecursion}
use Rattle.std.proofs.lemmas.Bool.{false≢true}
use Rattle.lus_tree.specs.declared.place.Sort.{Sort}
use Rattle.lus_tree.specs.Tree.{Name, Variable, Component, Expression, Expressions}
use Rattle.lus_meaning.specs.Value.{Value, absent, Instants, was_on, latest}
use Rattle.lus_meaning.specs.Frame.{Frame, entry, call_frame, first_value}
use Rattle.lus_meaning.specs.Scene.{Clock, Scene, Instance, Instances, instance, component_of, call_instance, variables, is_on}
use Rattle.lus_meaning.specs.Meaning.{value}
use Rattle.lus_meaning.specs.Contract.{scene, terms, mode_streams}
use Rattle.lus_meaning.specs.Occurrences.{Memory, memories, Start, starts}
use Rattle.lus_meaning.specs.Run.{sort_of, sort_of_name, first_sorts, is_typed, active}
use Rattle.sys_terms.specs.Meaning.{Values, truth_of}
use Rattle.sys_meaning.specs.Slot.{Place, beat, named, memory, starting, own, in_call}
use Rattle.sys_meaning.specs.Slot as slot
use Rattle.sys_meaning.specs.Items.{Key}
use Rattle.sys_meaning.specs.Part.{value_in}
use Rattle.sys_meaning.specs.Path.{Course, bare_stage, firsts_by, frame_by}
use Rattle.sys_meaning.specs.State.{held_before}
use Rattle.sys_meaning.specs.Translate.{present, latest_part}
use Rattle.sys_meaning.specs.System.{stage, becomes, memory_next, start_next}
use Rattle.sys_meaning.specs.Seen.{seen}
use Rattle.sys_meaning.specs.WellTyped.{Stands, no_constant, is_declared, clock_here, IsMemory, IsStart, IsPlainCall, IsHeldCall, ClockFits, StreamFits, MemoryFits, StartFits, OwnFits}
use Rattle.sys_meaning.proofs.Conditions.{zero_value}
use Rattle.sys_meaning.proofs.Rows.{CallShown, OwnShown, modes_agree, sight_here}
use Rattle.sys_meaning.proofs.Steps.{memory_gives, start_gives, held_gives}
use Rattle.sys_meaning.proofs.Main.{seen_value}
use Rattle.sys_meaning.specs.Defaults.{site_of}
use Rattle.lus_meaning.specs.Trace.{or_default}
use Rattle.sys_meaning.proofs.Balanced.{Picked, pick}
use Rattle.sys_meaning.proofs.Owned.{found_one}
use Rattle.sys_meaning.proofs.Back as back
use Rattle.sys_meaning.proofs.Forward.{modes_of}

-- the first value of a place of the list
pub first_by : (k j : ℕ) (ss : List Sort) (at : Place → ℕ) (c : Course) (z : Sort) (m : ℕ) →
    slice_get ss j ≡ Some z → m ≡ k + j →
    slice_index_or (firsts_by k ss at c) j absent ≡ value_in (c 0) z (at (own (memory m)))
first_by k j [] at c z m e d = absurd (false≢true (ap there e))
  where
    there : Option Sort → Bool
    there None = false
    there (Some y) = true
first_by k zero (s ∷ ss) at c z m e d = let n : m ≡ k = omega (arith, d) in rw (n, ap inside e) refl
  where
    inside : Option Sort → Sort
    inside None = z
    inside (Some y) = y
first_by k (suc j) (s ∷ ss) at c z m e d = first_by (suc k) j ss at c z m e (omega (arith, d))

module _ (Modes : Instance → Key → Type 0) (d : Component) (cs : List (Name × Value)) (is : Instances)
    (at : Place → ℕ) (c : Course) (n : ℕ) (b : Instants) where
  abbrev pub i : Instance
  i = instance d cs is

  abbrev pub f : Frame
  f = frame_by i at c n

  abbrev pub s : Scene
  s = scene i b f

  abbrev pub M : Key → Type 0
  M = Modes i

  -- what a path gives of this frame
  pub record Gives : Type 0 where
    pub beats : (t : ℕ) → t < n → (c t).flag_at (at (own beat)) ≡ b t
    pub offs : (t : ℕ) → t < n → (x : Name) → is_declared i M x → no_constant i M x →
        truth_of (c t) (c t) (present (bare_stage i at) (clock_here i M x)) ≡ false →
        value_in (c t) (sort_of_name i x) (at (own (named x))) ≡ zero_value (sort_of_name i x)
    pub memory_steps : (t : ℕ) → suc t < n → (m : Memory) → MemoryFits i M m →
        truth_of (c t) (c (suc t)) (memory_next (stage i at) m) ≡ true
    pub start_first : 0 < n → (a : Start) → StartFits i M a → (c 0).flag_at (at (own (starting a.number))) ≡ true
    pub start_steps : (t : ℕ) → suc t < n → (a : Start) → StartFits i M a →
        truth_of (c t) (c (suc t)) (start_next (stage i at) a) ≡ true
    pub calls : (t : ℕ) → t < n → (nx : Values) (k : ℕ) (cl : Clock) → IsPlainCall i M k cl →
        CallShown s M at (c t) nx t k
    pub held_calls : (t : ℕ) → t < n → (nx : Values) (k : ℕ) (cl : Clock) (a : Expression) (ds : Expressions) →
        IsHeldCall i M k cl a ds →
        (is_on s cl t ≡ true → seen (sight_here s M at (c t) nx t (modes_of Modes i at)) a ≡ value s cl a t) →
        CallShown s M at (c t) nx t k
    pub conditions : (k : ℕ) (cl : Clock) (a : Expression) (ds : Expressions) → IsHeldCall i M k cl a ds →
        Stands i M cl a
    pub held_first : 0 < n → (k : ℕ) (cl : Clock) (a : Expression) (ds : Expressions) → IsHeldCall i M k cl a ds →
        AllByRecursion (λ v. value_in (c 0) v.sort (at (own
        (slot.held k v.name.text))) ≡ held_before s k v.name.text 0) (component_of (call_instance i k)).outputs
    pub held_steps : (t : ℕ) → suc t < n → (k : ℕ) (cl : Clock) (a : Expression) (ds : Expressions) →
        IsHeldCall i M k cl a ds →
        AllByRecursion (λ v. truth_of (c t) (c (suc t)) (becomes (stage i at) v.sort (slot.held k v.name.text)
        (latest_part (stage i at) k v)) ≡ true) (component_of (call_instance i k)).outputs
    pub agrees : (t : ℕ) → t < n → (nx : Values) → (sh : OwnShown s M at (c t) nx t (modes_of Modes i at)) →
        modes_agree s M at (c t) nx t (modes_of Modes i at) sh

  module _ (fits : OwnFits i M) (gives : Gives) where
    ends : (x : Name) → is_declared i M x → no_constant i M x → ClockFits i M (clock_here i M x)
    ends x h e = by (pick x (StreamFits i M) (variables d) fits.streams h)
      where
        by : Picked x (StreamFits i M) → ClockFits i M (clock_here i M x)
        by r = subst (λ y. ClockFits i M (clock_here i M y)) r.same (subst (ClockFits i M)
            (sym r.holds.name.clock) r.holds.clock)

    of_memory : (k : ℕ) (cl : Clock) (a : Expression) → IsMemory i M k cl a →
        MemoryFits i M (record { number = k; clock = cl; operand = a })
    of_memory k cl a e =
        found_one (MemoryFits i M) (λ m. m.number == k) (memories d)
        (record { number = k; clock = cl; operand = a }) fits.memories e

    of_start : (k : ℕ) (cl : Clock) → IsStart i M k cl → StartFits i M (record { number = k; clock = cl })
    of_start k cl e =
        found_one (StartFits i M) (λ m. m.number == k) (starts d) (record { number = k; clock = cl }) fits.starts e

    -- what is remembered at an instant
    pub record Remembers (t : ℕ) : Type 0 where
      pub memories : (k : ℕ) (cl : Clock) (a : Expression) → IsMemory i M k cl a →
          value_in (c t) (sort_of i a) (at (own (memory k))) ≡ latest (is_on s cl) (value s cl a) (first_value f k) t
      pub starts : (k : ℕ) (cl : Clock) → IsStart i M k cl →
          (c t).flag_at (at (own (starting k))) ≡ not (was_on (is_on s cl) t)
      pub held : (k : ℕ) (cl : Clock) (a : Expression) (ds : Expressions) → IsHeldCall i M k cl a ds →
          AllByRecursion (λ v. value_in (c t) v.sort (at (own
          (slot.held k v.name.text))) ≡ held_before s k v.name.text t) (component_of (call_instance i k)).outputs

    -- what is held after an instant at which the call is shown
    held_after : (t : ℕ) → suc t < n → (sh : OwnShown s M at (c t) (c (suc t)) t (modes_of Modes i at)) →
        modes_agree s M at (c t) (c (suc t)) t (modes_of Modes i at) sh → (k : ℕ) →
        CallShown s M at (c t) (c (suc t)) t k → (vs : List Variable) →
        AllByRecursion (λ v. truth_of (c t) (c (suc t)) (becomes (stage i at) v.sort (slot.held k v.name.text)
        (latest_part (stage i at) k v)) ≡ true) vs →
        AllByRecursion (λ v. value_in (c t) v.sort (at (in_call k (own (named v.name.text)))) ≡ or_default v.sort
        (entry (call_frame f k) v.name.text t)) vs →
        AllByRecursion (λ v. is_typed v.sort (active s (site_of i k) t) (entry
        (call_frame f k) v.name.text t) ≡ true) vs →
        AllByRecursion (λ v. value_in (c t) v.sort (at (own
        (slot.held k v.name.text))) ≡ held_before s k v.name.text t) vs →
        AllByRecursion (λ v. value_in (c (suc t)) v.sort (at (own
        (slot.held k v.name.text))) ≡ held_before s k v.name.text (suc t)) vs
    held_after t h sh ag k r [] e o y q = tt
    held_after t h sh ag k r (v ∷ vs) e o y q = (
      held_gives s M at (modes_of Modes i at) (c t) (c
          (suc t)) t sh ag k v r.beats o.0 y.0 q.0 e.0,
      held_after t h sh ag k r vs e.1 o.1 y.1 q.1,
    )

    shown_where : (t : ℕ) → t < n → Remembers t → (nx : Values) → OwnShown s M at (c t) nx t (modes_of Modes i at)
    shown_where t h r nx = record {
      beats = gives.beats t h;
      names = back.names_shown d cs is M at c n b (mode_streams (terms i).modes b f) t h (gives.beats t h) ends
          (gives.offs t h);
      typed = back.names_typed d cs is M at c n b (mode_streams (terms i).modes b f) t h (gives.beats t h) ends
          (gives.offs t h);
      memories = r.memories;
      starts = r.starts;
      calls = gives.calls t h nx;
      held_calls = gives.held_calls t h nx;
      held = r.held;
    }

    remembers : (t : ℕ) → t < n → Remembers t
    remembers zero h = record {
      memories = λ k cl a e. let w : MemoryFits i M (record { number = k; clock = cl; operand = a }) =
          of_memory k cl a e in sym (first_by 1 (pred k) (first_sorts i) at c (sort_of i a) k w.first (omega
          (arith, w.counted)));
      starts = λ k cl e. gives.start_first h (record { number = k; clock = cl }) (of_start k cl e);
      held = gives.held_first h;
    }
    remembers (suc t) h =
        let before : t < n = omega arith in
        let sh : OwnShown s M at (c t) (c (suc t)) t (modes_of Modes i at) =
        shown_where t before (remembers t before) (c (suc t)) in
        let ag : modes_agree s M at (c t) (c (suc t)) t (modes_of Modes i at) sh =
        gives.agrees t before (c (suc t)) sh in
        record {
          memories = λ k cl a e. let m : Memory =
              record { number = k; clock = cl; operand = a } in memory_gives s M at (modes_of Modes i at) (c t) (c
              (suc t)) t sh ag m (of_memory k cl a e) (gives.memory_steps t h m (of_memory k cl a e));
          starts = λ k cl e. let a : Start =
              record { number = k; clock = cl } in start_gives s M at (modes_of Modes i at) (c t) (c
              (suc t)) t sh ag a (of_start k cl e) (gives.start_steps t h a (of_start k cl e));
          held = λ k cl a ds e.
              let r : CallShown s M at (c t) (c (suc t)) t k = gives.held_calls t before (c (suc t)) k cl a ds e
              (seen_value s M at (modes_of Modes i at) (c t) (c (suc t)) t sh ag a cl
              (gives.conditions k cl a ds e)) in
              held_after t h sh ag k r (component_of (call_instance i k)).outputs
              (gives.held_steps t h k cl a ds e) r.outputs r.typed ((remembers t before).held k cl a ds e);
        }

    -- a path shows the frame at each instant
    pub shown_by : (t : ℕ) → t < n → (nx : Values) → OwnShown s M at (c t) nx t (modes_of Modes i at)
    shown_by t h nx = shown_where t h (remembers t h) nx
