-- The states of a run up to a lawful instant are a path.
use Rattle.std.proofs.Common.{◌≡◌, ℕ, zero, suc, ◌<◌, ◌≤◌, ◌+◌, Bool, true, false, ◌&&◌, List, [], ◌∷◌, map, refl, ap, arith, All}
use Rattle.std.specs.List.{AllByRecursion}
use Rattle.std.proofs.lemmas.Bool.{false≢true, true≢false}
use Rattle.lus_tree.specs.declared.place.Sort.{Sort}
use Rattle.lus_tree.specs.declared.place.Sort.TheVariants.{Bool as Flags, Int as Numbers}
use Rattle.lus_meaning.specs.Value.{Value, absent, flag, whole, has_sort}
use Rattle.lus_meaning.specs.Frame.{Frame}
use Rattle.lus_meaning.specs.Scene.{plain, Instance}
use Rattle.lus_meaning.specs.Slots.{Slot, slots}
use Rattle.lus_meaning.specs.Run.{IsRun}
use Rattle.lus_meaning.specs.Property.{IsLawful, meets_all, all_assert, meets_assumptions}
use Rattle.lus_meaning.specs.Trace.{or_default}
use Rattle.lus_meaning.specs.Verdict.{throughout}
use Rattle.sys_terms.specs.declared.term.Entry.{Entry}
use Rattle.sys_terms.specs.View.{Formula, Machine}
use Rattle.sys_terms.specs.Meaning.{values_of, truth_of}
use Rattle.sys_terms.specs.Fits.{entry_fits, state_fits}
use Rattle.sys_terms.specs.Paths.{IsState, AreJoined, IsPath}
use Rattle.sys_terms.specs.View as terms
use Rattle.sys_meaning.proofs.Conditions.{flags_same}
use Rattle.sys_meaning.specs.Slot.{beat, own, place_of}
use Rattle.sys_meaning.specs.Items.{Key}
use Rattle.sys_meaning.specs.State.{entry_of, reading, state_of, states_from, states_of}
use Rattle.sys_meaning.specs.Path.{Course}
use Rattle.sys_meaning.specs.System.{number_of, assumed, system_of, shape_of, asserts_in}
use Rattle.sys_meaning.specs.WellTyped.{WellTyped}
use Rattle.sys_meaning.proofs.Pools.{true_all, all_both}
use Rattle.sys_meaning.proofs.Shows.{state_flag, Reads, state_reads}
use Rattle.sys_meaning.proofs.Forward.{Contracts, here_true}
use Rattle.sys_meaning.proofs.Onward.{SoFar, next_true}
use Rattle.sys_meaning.proofs.Begin.{and_first, and_second, first_true, asserts_true}

pub positioned : {A : Type 0} (P : A → Type 0) (xs : List A) → AllByRecursion P xs → All P xs
positioned P [] a k d h = absurd (omega arith)
positioned P (x ∷ xs) a zero d h = a.0
positioned P (x ∷ xs) a (suc k) d h = positioned P xs a.1 k d (omega arith)

pub entry_has : (z : Sort) (v : Value) → has_sort z (or_default z v) ≡ true →
    entry_fits (shape_of z) (entry_of (or_default z v)) ≡ true
entry_has Flags absent h = refl
entry_has Flags (flag b) h = refl
entry_has Flags (whole n) h = absurd (false≢true h)
entry_has Numbers absent h = refl
entry_has Numbers (flag b) h = absurd (false≢true h)
entry_has Numbers (whole n) h = refl

both_true : (a b : Bool) → a ≡ true → b ≡ true → (a && b) ≡ true
both_true true true e d = refl
both_true true false e d = absurd (false≢true d)
both_true false b e d = absurd (false≢true e)

pub state_fitting : (w : Slot → Value) (qs : List Slot) →
    AllByRecursion (λ q. has_sort q.sort (or_default q.sort (w q)) ≡ true) qs →
    state_fits (map (λ q. shape_of q.sort) qs) (map (λ q. entry_of (or_default q.sort (w q))) qs) ≡ true
state_fitting w [] a = refl
state_fitting w (q ∷ qs) a =
    both_true (entry_fits (shape_of q.sort) (entry_of (or_default q.sort (w q)))) (state_fits (map
    (λ q. shape_of q.sort) qs) (map (λ q. entry_of (or_default q.sort (w q))) qs)) (entry_has q.sort (w q) a.0)
    (state_fitting w qs a.1)

module _ (Modes : Instance → Key → Type 0) (contracts : Contracts Modes) (i : Instance) (typed : WellTyped Modes i)
    (n : ℕ) (f : Frame) (run : IsRun i n throughout f)
    (sorted : (t : ℕ) → t < n → AllByRecursion (λ q. has_sort q.sort (or_default q.sort (reading i throughout f
    (place_of q) t)) ≡ true) (slots i))
    (so_far : SoFar Modes (λ t. values_of (state_of i f t)) n)
    (assumptions : (t : ℕ) → t < n → meets_assumptions i throughout f t ≡ true → true_all (values_of
    (state_of i f t)) (values_of (state_of i f t)) (assumed i (number_of i))) where
  abbrev pub c : Course
  c t = values_of (state_of i f t)

  reads : (t : ℕ) → t < n → Reads Modes i (number_of i) throughout f t (c t)
  reads t h = state_reads Modes i typed f t

  here_all : (t : ℕ) → t < n → true_all (c t) (c t) (system_of i).here
  here_all t h = here_true Modes contracts c n i (number_of i) throughout f run typed.tree reads t h (c t)
      (terms.flag record { number = number_of i (own beat); next = false }) [] (beat_true t h) tt
    where
      beat_true : (t : ℕ) → t < n → (c t).flag_at (number_of i (own beat)) ≡ true
      beat_true t h = flags_same ((c t).flag_at (number_of i (own beat))) true (reads t h [] beat Flags refl refl)

  legal_all : (t : ℕ) → t < n → meets_all i throughout f t ≡ true → true_all (c t) (c t) (system_of i).legal
  legal_all t h e =
      all_both (λ z. truth_of (c t) (c t) z ≡ true) (assumed i (number_of i)) (asserts_in i (number_of i))
      (assumptions t h (and_second (all_assert i throughout f t) (meets_assumptions i throughout f t) e))
      (asserts_true Modes contracts c n i (number_of i) throughout f run typed.tree reads t h (and_first
      (all_assert i throughout f t) (meets_assumptions i throughout f t) e))

  is_state : (t : ℕ) → t < n → meets_all i throughout f t ≡ true → IsState (system_of i) (state_of i f t)
  is_state t h e = record {
    fit = state_fitting (λ q. reading i throughout f (place_of q) t) (slots i) (sorted t h);
    here = positioned (λ z. truth_of (c t) (c t) z ≡ true) (system_of i).here (here_all t h);
    legal = positioned (λ z. truth_of (c t) (c t) z ≡ true) (system_of i).legal (legal_all t h e);
  }

  each_state : (m t : ℕ) → t + m ≤ n → ((u : ℕ) → u < t + m → meets_all i throughout f u ≡ true) →
      AllByRecursion (IsState (system_of i)) (states_from i f t m)
  each_state zero t h l = tt
  each_state (suc m) t h l =
      (is_state t (omega arith) (l t (omega arith)), each_state m (suc t) (omega arith) (λ u g. l u (omega arith)))

  joined : (m t : ℕ) → t + m ≤ n → AreJoined (system_of i) (states_from i f t m)
  joined zero t h = tt
  joined (suc zero) t h = tt
  joined (suc (suc m)) t h = (
    positioned (λ z. truth_of (c t) (c (suc t)) z ≡ true) (system_of i).next
        (next_true Modes contracts c n so_far plain i (number_of i) throughout f run typed.tree reads (state_flag Modes i typed f n) t
        (omega arith)),
    joined (suc m) (suc t) (omega arith),
  )

  -- the states up to a lawful instant are a path
  pub run_is_path : (t : ℕ) → t < n → IsLawful i throughout f t → IsPath (system_of i) (states_of i f (suc t))
  run_is_path t h l = record {
    loose = record {
      some = λ e. true≢false (ap is_some_list e);
      each = positioned (IsState (system_of i)) (states_from i f 0 (suc t)) (each_state (suc t) 0 (omega arith)
          (λ u g. l u (omega arith)));
      joined = joined (suc t) 0 (omega arith);
    };
    first = positioned (λ z. truth_of (c 0) (c 0) z ≡ true) (system_of i).first
        (first_true Modes contracts c n so_far (omega arith) plain i (number_of i) throughout f run typed.tree reads
        (state_flag Modes i typed f n));
  }
    where
      is_some_list : List (List Entry) → Bool
      is_some_list [] = false
      is_some_list (x ∷ xs) = true
