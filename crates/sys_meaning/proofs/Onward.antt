-- The states of a run meet what holds from one instant to the next, and what holds at first.
use Rattle.std.proofs.Common.{◌≡◌, ℕ, suc, ◌<◌, true, List, [], ◌∷◌, ◌++◌, map, flat_map, length, refl, ap, ◌∙◌, sym, subst, arith, Option, Some, None, find, option_to_list, ◌==◌}
use Rattle.std.specs.List.{AllByRecursion}
use Rattle.lus_tree.specs.Numbers.{counting}
use Rattle.lus_tree.specs.Tree.{Variable, Expression, Expressions}
use Rattle.lus_meaning.specs.Value.{Instants}
use Rattle.lus_meaning.specs.Frame.{Frame, Frames, no_frames, with_frame, calls_in}
use Rattle.lus_meaning.specs.Scene.{no_instance, Clock, Manner, plain, while_true, as_import, Site, Instance, Instances, instance, no_instances, with_instance, component_of, calls_of, call_instance}
use Rattle.lus_meaning.specs.Contract.{scene}
use Rattle.lus_meaning.specs.Occurrences.{memories, starts}
use Rattle.lus_meaning.specs.Program.{in_order}
use Rattle.lus_meaning.specs.Run.{IsRun, CallsRun, active}
use Rattle.sys_terms.specs.View.{Formula}
use Rattle.sys_terms.specs.Meaning.{Values, truth_of}
use Rattle.sys_meaning.specs.Slot.{Place, own, in_call}
use Rattle.sys_meaning.specs.Slot as slot
use Rattle.sys_meaning.specs.Items.{Key}
use Rattle.sys_meaning.specs.Path.{Course}
use Rattle.lus_meaning.specs.Frame.{entry, call_frame}
use Rattle.lus_meaning.specs.Run.{is_typed}
use Rattle.lus_meaning.specs.Trace.{or_default}
use Rattle.sys_meaning.specs.Defaults.{site_of}
use Rattle.sys_meaning.specs.State.{held_before}
use Rattle.sys_meaning.specs.Part.{value_in, variable, choose_part}
use Rattle.sys_meaning.specs.Translate.{flag_at}
use Rattle.sys_meaning.specs.System.{becomes, below_call, stage, memory_next, start_next, so_far_next, so_far_first, held_next, next_of, calls_next}
use Rattle.sys_meaning.specs.WellTyped.{MemoryFits, StartFits, IsHeldCall, OwnFits, CallFits, TreeFits, CallsFit}
use Rattle.sys_meaning.proofs.Rows.{OwnShown, CallShown}
use Rattle.sys_meaning.proofs.Pools.{true_all, all_both}
use Rattle.sys_meaning.proofs.Shows.{FlagReads, Reads}
use Rattle.sys_meaning.proofs.Owned.{found_one, call_of}
use Rattle.sys_meaning.proofs.Steps.{memory_made, start_made, held_made}
use Rattle.sys_meaning.proofs.Forward.{call_at_flag, drop_calls, drop_frames, first_instance, instance_dropped, later_calls, later_frames, calls_later, frames_later, modes_of, Contracts, call_at_reads, calls_of_run, own_fits, shown_here, agreed_here}

-- what all have, those in order have
pub ordered_all : {A : Type 0} (P : A → Type 0) (f : A → ℕ) (xs : List A) → AllByRecursion P xs →
    AllByRecursion P (in_order f xs)
ordered_all {A} P f xs a = each (counting 1 (length xs))
  where
    one : (k : ℕ) (o : Option A) → find (λ x. f x == k) xs ≡ o → AllByRecursion P (option_to_list o)
    one k None e = tt
    one k (Some x) e = (found_one P (λ x. f x == k) xs x a e, tt)

    each : (ks : List ℕ) → AllByRecursion P (flat_map (λ k. option_to_list (find (λ x. f x == k) xs)) ks)
    each [] = tt
    each (k ∷ ks) =
        all_both P (option_to_list (find (λ x. f x == k) xs)) (flat_map (λ k. option_to_list (find
        (λ x. f x == k) xs)) ks) (one k (find (λ x. f x == k) xs) refl) (each ks)

pub map_all : {A : Type 0} (P : A → Type 0) (now next : Values) (f : A → Formula) →
    ((x : A) → P x → truth_of now next (f x) ≡ true) → (xs : List A) → AllByRecursion P xs →
    true_all now next (map f xs)
map_all P now next f h [] a = tt
map_all P now next f h (x ∷ xs) a = (h x a.0, map_all P now next f h xs a.1)

-- what a contract's flag becomes, and what it is at first
pub record SoFar (Modes : Instance → Key → Type 0) (c : Course) (n : ℕ) : Type 0 where
  pub next : (m : Manner) (i : Instance) (at : Place → ℕ) (b : Instants) (f : Frame) → TreeFits Modes i →
      IsRun i n b f → ((t : ℕ) → t < n → Reads Modes i at b f t (c t)) → FlagReads Modes m i at c n b f → (t : ℕ) → suc t < n →
      true_all (c t) (c (suc t)) (so_far_next (stage i at) m)
  pub first : (m : Manner) (i : Instance) (at : Place → ℕ) (b : Instants) (f : Frame) → TreeFits Modes i →
      IsRun i n b f → ((t : ℕ) → t < n → Reads Modes i at b f t (c t)) → FlagReads Modes m i at c n b f → 0 < n →
      true_all (c 0) (c 0) (so_far_first (stage i at) m)

module _ (Modes : Instance → Key → Type 0) (contracts : Contracts Modes) (c : Course) (n : ℕ)
    (so_far : SoFar Modes c n) where
  -- ---- next

  module _ (i : Instance) (at : Place → ℕ) (b : Instants) (f : Frame) (run : IsRun i n b f)
      (fits : TreeFits Modes i) (reads : (t : ℕ) → t < n → Reads Modes i at b f t (c t)) (t : ℕ) (h : suc t < n) where
    abbrev pub before : t < n
    before = omega arith

    abbrev pub now_shown : OwnShown (scene i b f) (Modes i) at (c t) (c (suc t)) t (modes_of Modes i at)
    now_shown = shown_here Modes contracts c n i at b f run fits reads t before (c (suc t))

    abbrev pub then_shown : OwnShown (scene i b f) (Modes i) at (c (suc t)) (c (suc t)) (suc t) (modes_of Modes i at)
    then_shown = shown_here Modes contracts c n i at b f run fits reads (suc t) h (c (suc t))

    memories_next : true_all (c t) (c (suc t)) (map (memory_next (stage i at)) (in_order (λ m. m.number) (memories
        (component_of i))))
    memories_next = map_all (MemoryFits i (Modes i)) (c t) (c (suc t)) (memory_next (stage i at))
        (λ m w. memory_made (scene i b f) (Modes i) at (modes_of Modes i at) (c t) (c (suc t)) t now_shown
        (agreed_here Modes contracts c n i at b f run fits reads t before (c (suc t))) m w
        (then_shown.memories m.number m.clock m.operand w.found))
        (in_order (λ m. m.number) (memories (component_of i))) (ordered_all (MemoryFits i (Modes i))
        (λ m. m.number) (memories (component_of i)) (own_fits Modes i fits).memories)

    starts_next : true_all (c t) (c (suc t)) (map (start_next (stage i at)) (in_order (λ m. m.number) (starts
        (component_of i))))
    starts_next = map_all (StartFits i (Modes i)) (c t) (c (suc t)) (start_next (stage i at))
        (λ a w. start_made (scene i b f) (Modes i) at (modes_of Modes i at) (c t) (c (suc t)) t now_shown
        (agreed_here Modes contracts c n i at b f run fits reads t before (c (suc t))) a w
        (then_shown.starts a.number a.clock w.found))
        (in_order (λ m. m.number) (starts (component_of i))) (ordered_all (StartFits i (Modes i)) (λ m. m.number)
        (starts (component_of i)) (own_fits Modes i fits).starts)

    -- the held outputs of one call
    helds_next : (k : ℕ) (cl : Clock) (x : Expression) (ds : Expressions) → IsHeldCall i (Modes i) k cl x ds →
        true_all (c t) (c (suc t)) (held_next (stage i at)
        (record { number = k; callee = []; clock = cl; arguments = []; defaults = []; manner = while_true x })
        (while_true x) (call_instance i k))
    helds_next k cl x ds e =
        each (component_of (call_instance i k)).outputs shows.outputs shows.typed (now_shown.held k cl x ds e)
        (then_shown.held k cl x ds e)
      where
        shows : CallShown (scene i b f) (Modes i) at (c t) (c (suc t)) t k
        shows = call_of Modes i at c n b f (modes_of Modes i at) run (calls_of_run i n b f run) reads
            (own_fits Modes i fits) t before (c (suc t)) k e.call (calls_of_run i n b f run)

        each : (vs : List Variable) →
            AllByRecursion (λ v. value_in (c t) v.sort (at (in_call k (own
            (slot.named v.name.text)))) ≡ or_default v.sort (entry (call_frame f k) v.name.text t)) vs →
            AllByRecursion (λ v. is_typed v.sort (active (scene i b f) (site_of i k) t) (entry
            (call_frame f k) v.name.text t) ≡ true) vs →
            AllByRecursion (λ v. value_in (c t) v.sort (at (own (slot.held k v.name.text))) ≡ held_before
            (scene i b f) k v.name.text t) vs →
            AllByRecursion (λ v. value_in (c (suc t)) v.sort (at (own (slot.held k v.name.text))) ≡ held_before
            (scene i b f) k v.name.text (suc t)) vs →
            true_all (c t) (c (suc t)) (map (λ v. becomes (stage i at) v.sort (slot.held k v.name.text)
            (choose_part (flag_at (stage i at) (in_call k (own slot.beat))) (variable v.sort (at (in_call k
            (own (slot.named v.name.text))))) (variable v.sort (at (own (slot.held k v.name.text)))))) vs)
        each [] o y q r = tt
        each (v ∷ vs) o y q r = (
          held_made (scene i b f) (Modes i) at (modes_of Modes i at) (c t) (c (suc t)) t now_shown
              (agreed_here Modes contracts c n i at b f run fits reads t before (c
              (suc t))) k v shows.beats o.0 y.0 q.0 r.0,
          each vs o.1 y.1 q.1 r.1,
        )

    -- those of the call at a place
    held_at : (a : Site) (k : Instance) (is : Instances) (p : ℕ) → CallFits Modes i a k p →
        drop_calls p (calls_of i) ≡ with_instance a k is → (m : Manner) → a.manner ≡ m →
        true_all (c t) (c (suc t)) (held_next (stage i at) a m k)
    held_at a k is p fit e plain q = tt
    held_at a k is p fit e (as_import xs) q = tt
    held_at a k is p fit e (while_true x) q =
        let d = fit.held x q in
        let inst : call_instance i (suc p) ≡ k = instance_dropped (calls_of i) p ∙ ap (λ z. first_instance z no_instance) e in
        let there : true_all (c t) (c (suc t)) (map (λ v. becomes (stage i at) v.sort (slot.held
        (suc p) v.name.text) (choose_part (flag_at (stage i at) (in_call (suc p) (own slot.beat)))
        (variable v.sort (at (in_call (suc p) (own (slot.named v.name.text))))) (variable v.sort (at (own
        (slot.held (suc p) v.name.text)))))) (component_of k).outputs) =
        subst (λ z. true_all (c t) (c (suc t)) (map (λ v. becomes (stage i at) v.sort (slot.held
        (suc p) v.name.text) (choose_part (flag_at (stage i at) (in_call (suc p) (own slot.beat)))
        (variable v.sort (at (in_call (suc p) (own (slot.named v.name.text))))) (variable v.sort (at (own
        (slot.held (suc p) v.name.text)))))) (component_of z).outputs)) inst (helds_next
        (suc p) a.clock x d.0 d.1) in
        subst (λ z. true_all (c t) (c (suc t)) (map (λ v. becomes (stage i at) v.sort (slot.held z v.name.text)
        (choose_part (flag_at (stage i at) (in_call z (own slot.beat))) (variable v.sort (at (in_call z (own
        (slot.named v.name.text))))) (variable v.sort (at (own (slot.held z v.name.text))))))
        (component_of k).outputs)) (sym fit.number) there

  mutual
    pub next_true : (m : Manner) (i : Instance) (at : Place → ℕ) (b : Instants) (f : Frame) (run : IsRun i n b f)
        (fits : TreeFits Modes i) (reads : (t : ℕ) → t < n → Reads Modes i at b f t (c t))
        (flags : FlagReads Modes m i at c n b f) (t : ℕ) (h : suc t < n) →
        true_all (c t) (c (suc t)) (next_of m i at)
    next_true m (instance d cs is) at b f run fits reads flags t h =
        let i : Instance = instance d cs is in
        let T : Formula → Type 0 = λ z. truth_of (c t) (c (suc t)) z ≡ true in
        let ms : List Formula = map (memory_next (stage i at)) (in_order (λ m. m.number) (memories d)) in
        let ss : List Formula = map (start_next (stage i at)) (in_order (λ m. m.number) (starts d)) in
        all_both T (ms ++ ss ++ so_far_next (stage i at) m) (calls_next is (stage i at))
        (all_both T (ms ++ ss) (so_far_next (stage i at) m) (all_both T ms ss
        (memories_next i at b f run fits reads t h) (starts_next i at b f run fits reads t h))
        (so_far.next m i at b f fits run reads flags t h))
        (calls_next_true is i at b f run fits reads t h 0 (calls_in f) refl refl run.1 fits.1)

    calls_next_true : (is : Instances) (i : Instance) (at : Place → ℕ) (b : Instants) (f : Frame)
        (run : IsRun i n b f) (fits : TreeFits Modes i) (reads : (t : ℕ) → t < n → Reads Modes i at b f t (c t))
        (t : ℕ) (h : suc t < n) (p : ℕ) (fs : Frames) →
        drop_calls p (calls_of i) ≡ is → drop_frames p (calls_in f) ≡ fs → CallsRun n (scene i b f) is fs →
        CallsFit Modes i is p → true_all (c t) (c (suc t)) (calls_next is (stage i at))
    calls_next_true no_instances i at b f run fits reads t h p fs e d r w = tt
    calls_next_true (with_instance a k is) i at b f run fits reads t h p no_frames e d r w = absurd r
    calls_next_true (with_instance a k is) i at b f run fits reads t h p (with_frame g fs) e d r w =
        let T : Formula → Type 0 = λ z. truth_of (c t) (c (suc t)) z ≡ true in
        let below : (t : ℕ) → t < n → Reads Modes k (below_call a.number at) (active (scene i b f) a) g t (c t) =
        λ t h. call_at_reads Modes i at b f t (c t) a k is g fs p w.0 e d (reads t h) in
        all_both T (held_next (stage i at) a a.manner k ++ next_of a.manner k (below_call a.number at))
        (calls_next is (stage i at))
        (all_both T (held_next (stage i at) a a.manner k) (next_of a.manner k (below_call a.number at))
        (held_at i at b f run fits reads t h a k is p w.0 e a.manner refl)
        (next_true a.manner k (below_call a.number at) (active (scene i b f) a) g r.1 w.1 below
        (call_at_flag Modes i at c n b f reads a k is g fs p w.0 e d) t h))
        (calls_next_true is i at b f run fits reads t h (suc p) fs (calls_later p (calls_of i) ∙ ap later_calls e)
        (frames_later p (calls_in f) ∙ ap later_frames d) r.2 w.2)
