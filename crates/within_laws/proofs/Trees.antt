-- So it is in the frame at the end of each way of calls.
use Rattle.std.proofs.Common.{◌≡◌, ℕ, zero, suc, pred, ◌+◌, ◌<◌, List, [], ◌∷◌, ◌++◌, slice_index_or, ◌∙◌, sym, subst, arith}
use Rattle.std.specs.Prelude.{Contains}
use Rattle.std.specs.List.{AllByRecursion}
use Rattle.lus_tree.specs.Tree.{Name, Component, Program}
use Rattle.lus_meaning.specs.Value.{Value}
use Rattle.lus_meaning.specs.Frame.{Frame}
use Rattle.lus_meaning.specs.Scene.{Site, Instance, Instances, instance, no_instances, with_instance, component_of, calls_of, call_instance, instance_at}
use Rattle.lus_meaning.specs.ClockFaults.{components}
use Rattle.lus_meaning.specs.Program.{all_sites}
use Rattle.lus_meaning.specs.Refusals.{IsChecked}
use Rattle.rule_laws.specs.Laws.{IsUnfolded, AreUnfolded}
use Rattle.rule_laws.proofs.Callees.{GoesDown, each_site}
use Rattle.clock_laws.proofs.Clocks.{declared_at}
use Rattle.sys_meaning.specs.WellTyped.{IsKnown, CallsFit, count_of}
use Rattle.sys_meaning.proofs.Forward.{calls_fit}
use Rattle.path_laws.proofs.Tree.{tree_fits}
use Rattle.lus_evaluation.specs.Frame.{no_text, Calls, Orders, text_over, text_at, frame_text, call_texts}
use Rattle.evaluation_laws.specs.Rows.{AreCalls, RowShows}
use Rattle.order_laws.specs.Rows.{place_there}
use Rattle.order_laws.proofs.Frames.{StandsAt, stands_called}
use Rattle.order_laws.proofs.Sites.{all_sites_known}
use Rattle.within_laws.specs.Sources.{IsFrameQuiet}
use Rattle.within_laws.proofs.Bodies.{FrameQuiet, frame_here}
use Rattle.within_laws.proofs.Defaults.{unfolded_sites}

module _ (p : Program) (c : IsChecked p) (i : Instance) (f : Frame) (t : ℕ) (shown : (w : List ℕ) → AreCalls i w → RowShows i f t w)
    (frames : (w : List ℕ) → AreCalls i w → IsFrameQuiet i f t w) (o : Orders) where
  -- an unfolded declaration at the end of a way of calls
  pub record FrameAt (w : List ℕ) (z : Instance) : Type 0 where
    pub stands : StandsAt i f w z
    pub unfolded : IsUnfolded p z
    pub declared : Contains (components p) (component_of z)

  abbrev FrameGoal : List ℕ → Instance → Type 0
  FrameGoal w z =
      FrameAt w z → (sub : Calls) →
      ((k : ℕ) → 0 < k → pred k < count_of (calls_of z) → FrameQuiet i f t (w ++ k ∷ []) (call_instance z k) (sub k)) →
      FrameQuiet i f t w z (text_over sub (o w) w z)

  goal_here : (w : List ℕ) → AreCalls i w → FrameGoal w (place_there i f w)
  goal_here w a s sub child =
      frame_here i f t p c w (shown w a) s.unfolded s.declared (frames w a) sub child
      (calls_fit IsKnown (place_there i f w) (tree_fits p c (place_there i f w) s.unfolded s.declared))
      (unfolded_sites p (place_there i f w) s.unfolded) (all_sites_known p c (place_there i f w) s.unfolded s.declared) (o w)

  goal_at : (w : List ℕ) (z : Instance) → StandsAt i f w z → FrameGoal w z
  goal_at w z s = subst (FrameGoal w) s.place (goal_here w s.calls)

  abbrev CallQuiet : List ℕ → Instances → ℕ → ℕ → Type 0
  CallQuiet w is k q = FrameQuiet i f t (w ++ k ∷ []) (instance_at is q) (slice_index_or (call_texts o w is) q no_text)

  from_calls : (w : List ℕ) (d : Component) (cs : List (Name × Value)) (is : Instances) → FrameAt w (instance d cs is) →
      ((q : ℕ) → q < count_of is → StandsAt i f (w ++ suc q ∷ []) (instance_at is q) → CallQuiet w is (suc q) q) →
      FrameQuiet i f t w (instance d cs is) (frame_text o w (instance d cs is))
  from_calls w d cs is s each = goal_at w (instance d cs is) s.stands s (text_at (call_texts o w is)) child
    where
      child : (k : ℕ) → 0 < k → pred k < count_of is →
          FrameQuiet i f t (w ++ k ∷ []) (call_instance (instance d cs is) k) (text_at (call_texts o w is) k)
      child zero x l = absurd (omega arith)
      child (suc q) x l = each q l (stands_called i f w (instance d cs is) s.stands (suc q) (omega arith) l)

  mutual
    pub frame_tree : (w : List ℕ) (z : Instance) → FrameAt w z → FrameQuiet i f t w z (frame_text o w z)
    frame_tree w (instance d cs is) s =
        from_calls w d cs is s (λ q l a. calls_tree w (instance d cs is) is 0
        (calls_fit IsKnown (instance d cs is) (tree_fits p c (instance d cs is) s.unfolded s.declared)) (all_sites d) s.unfolded.1
        (each_site p c.rules.clocked.typed d s.declared) q (suc q) (omega arith) l a)

    pub calls_tree : (w : List ℕ) (z : Instance) (is : Instances) (q : ℕ) → CallsFit IsKnown z is q → (ss : List Site) → AreUnfolded p ss is →
        AllByRecursion (λ s. GoesDown p (component_of z) s.callee) ss → (m n : ℕ) → n ≡ suc (q + m) → m < count_of is →
        StandsAt i f (w ++ n ∷ []) (instance_at is m) → CallQuiet w is n m
    calls_tree w z no_instances q h ss u g m n e l a = absurd (omega arith)
    calls_tree w z (with_instance y x is) q h [] u g m n e l a = absurd u
    calls_tree w z (with_instance y x is) q h (s ∷ ss) u g zero n e l a =
        let same : n ≡ y.number = (let v : n ≡ suc q = omega arith in v ∙ sym h.0.number) in
        let there : FrameAt (w ++ n ∷ []) x =
        record { stands = a; unfolded = u.2; declared = declared_at p c (component_of z) s x g.0 u.1 } in
        subst (λ k. FrameQuiet i f t (w ++ n ∷ []) x (frame_text o (w ++ k ∷ []) x)) same (frame_tree (w ++ n ∷ []) x there)
    calls_tree w z (with_instance y x is) q h (s ∷ ss) u g (suc m) n e l a =
        calls_tree w z is (suc q) h.2 ss u.3 g.1 m n (let v : n ≡ suc (suc q + m) = omega arith in v) (omega arith) a
