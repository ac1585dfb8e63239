-- A mended frame that recomputing leaves as it is is a run, where its types are right.
use Rattle.std.proofs.Common.{◌≡◌, ℕ, suc, ◌<◌, true, List, [], ◌∷◌, map}
use Rattle.std.specs.List.{AllByRecursion}
use Rattle.lus_tree.specs.Tree.{Name}
use Rattle.lus_meaning.specs.Value.{Instants}
use Rattle.lus_meaning.specs.Frame.{Frame, entry, frame_at, calls_in}
use Rattle.lus_meaning.specs.Scene.{Scene, Instance, Instances, instance, no_instances, with_instance, variables}
use Rattle.lus_meaning.specs.Contract.{scene}
use Rattle.lus_meaning.specs.Run.{equations, IsBalanced, active, IsRun, CallsRun}
use Rattle.lus_meaning.specs.Depends.{named_in, left_names, from_caller}
use Rattle.lus_meaning.specs.Recompute.{Pool, equation_pool, call_pool, recompute, recompute_calls}
use Rattle.lus_meaning.specs.WellMade.{IsWellMade, CallsWellMade, HasTypes, CallsHaveTypes}
use Rattle.lus_meaning.proofs.Exists.{keys, Finds, all_balanced, call_keys, is_called, sampled_lengths, sampled_names, whole_pool, whole_found, Stays}
use Rattle.lus_meaning.proofs.Now.{frame_on, right_part}
use Rattle.run_laws.proofs.Mend.{mended, mend, mend_calls}

mutual
  pub run_of_mended : (i : Instance) (n : ℕ) (b b0 : Instants) (given given0 : Pool) (names : List Name) → keys given ≡ names → (c f0 : Frame)
      → IsWellMade i names c → Stays i n b given c (mend i n b0 given0 c f0) → HasTypes i n b (mend i n b0 given0 c f0)
      → IsRun i n b (mend i n b0 given0 c f0)
  run_of_mended (instance d cs is) n b b0 given given0 names e c f0 w stays types = (
    record {
      names = sampled_names n (mended (scene (instance d cs is) b0 f0) given0 c) (variables d);
      lengths = sampled_lengths n (mended (scene (instance d cs is) b0 f0) given0 c) (variables d);
      firsts = w.3;
      types = types.0;
      equations = balanced;
    },
    calls_run is n (scene (instance d cs is) b0 f0) (scene (instance d cs is) b f) (frame_at (calls_in c)) (frame_at (calls_in f0)) w.4
        (λ j ks x t h. stays (j ∷ ks) x t h) types.1,
  )
    where
      f : Frame
      f = mend (instance d cs is) n b0 given0 c f0

      here : (x : Name) (t : ℕ) → t < n → entry f x t ≡ entry (recompute (instance d cs is) n b given c f) x t
      here x t h = stays [] x t h

      pool : Pool
      pool = whole_pool d cs is n b given names e c f here

      balanced : AllByRecursion (λ q. (t : ℕ) → t < n → IsBalanced (scene (instance d cs is) b f) q t) (equations d)
      balanced = all_balanced d cs is n b given names e c f here (equations d)
          (right_part (Finds pool) given (equation_pool (scene (instance d cs is) b f) (equations d)) (whole_found d cs is n b given names e c f here w.0))
          (right_part (λ x. named_in x (map (λ v. v.name.text) (variables d)) ≡ true) names (left_names d) w.1) w.2

  calls_run : (is : Instances) (n : ℕ) (s0 s : Scene) (cs fs0 : ℕ → Frame) → CallsWellMade is cs →
      ((j : ℕ) (ks : List ℕ) (x : Name) (t : ℕ) → t < n → entry (frame_on (frame_at (mend_calls is n s0 cs fs0) j) ks) x t ≡ entry
      (frame_on (frame_at (recompute_calls is n s cs (frame_at (mend_calls is n s0 cs fs0))) j) ks) x t) →
      CallsHaveTypes is n s (frame_at (mend_calls is n s0 cs fs0)) → CallsRun n s is (mend_calls is n s0 cs fs0)
  calls_run no_instances n s0 s cs fs0 w stays types = tt
  calls_run (with_instance a (instance d ks is') is) n s0 s cs fs0 w stays types = (
    is_called s a d ks is' n (cs 0) (mend (instance d ks is') n (active s0 a) (call_pool s0 a (instance d ks is')) (cs 0) (fs0 0))
        (λ x t h. stays 0 [] x t h) w.2 w.0 w.1,
    run_of_mended (instance d ks is') n (active s a) (active s0 a) (call_pool s a (instance d ks is')) (call_pool s0 a (instance d ks is'))
        (from_caller a (instance d ks is')) (call_keys s a (instance d ks is')) (cs 0) (fs0 0) w.2 (stays 0) types.0,
    calls_run is n s0 s (λ j. cs (suc j)) (λ j. fs0 (suc j)) w.3 (λ j. stays (suc j)) types.1,
  )
