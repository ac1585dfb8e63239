-- What is evaluated in the frame at the end of each way of calls, each part behind its own operands.
use Rattle.std.proofs.Common.{◌≡◌, ℕ, zero, suc, pred, ◌+◌, ◌<◌, true, List, [], ◌∷◌, ◌++◌, map, length, slice_index_or, refl, ap, ◌∙◌, sym, subst, arith}
use Rattle.std.specs.Prelude.{Contains}
use Rattle.std.specs.List.{AllByRecursion}
use Rattle.lus_tree.specs.Tree.{Name, Expression, Component, Program}
use Rattle.lus_meaning.specs.Value.{Value}
use Rattle.lus_meaning.specs.Frame.{Frame}
use Rattle.lus_meaning.specs.Scene.{base, Site, Instance, Instances, instance, no_instances, with_instance, component_of, calls_of, call_instance, instance_at, contract_statements}
use Rattle.lus_meaning.specs.Contract.{terms}
use Rattle.lus_meaning.specs.Depends.{ModeNeeds, modes_after, modes_need, modes_need_each}
use Rattle.lus_meaning.specs.Occurrences.{on_clock}
use Rattle.lus_meaning.specs.Program.{all_sites}
use Rattle.lus_meaning.specs.Run.{equations}
use Rattle.lus_meaning.specs.Order.{is_listed, IsLeastEquationOrder}
use Rattle.lus_meaning.specs.Verdict.{throughout}
use Rattle.lus_meaning.specs.ClockFaults.{components}
use Rattle.lus_meaning.specs.Refusals.{IsChecked}
use Rattle.rule_laws.specs.Laws.{IsUnfolded, AreUnfolded}
use Rattle.rule_laws.proofs.Callees.{GoesDown, each_site}
use Rattle.clock_laws.proofs.Clocks.{declared_at}
use Rattle.sys_meaning.specs.Items.{Known}
use Rattle.sys_meaning.specs.WellTyped.{IsKnown, count_of, CallsFit}
use Rattle.sys_meaning.proofs.Forward.{calls_fit}
use Rattle.path_laws.proofs.Tree.{tree_fits}
use Rattle.lus_evaluation.specs.Part.{Part, ModeParts, wholes}
use Rattle.lus_evaluation.specs.Frame.{no_text, Calls, setting, Orders, text_over, text_at, frame_text, call_texts}
use Rattle.lus_evaluation.specs.Evaluation.{instance_on}
use Rattle.evaluation_laws.specs.Resolvings.{Resolving, resolvings}
use Rattle.evaluation_laws.specs.Rows.{AreCalls, RowShows}
use Rattle.order_laws.specs.Own.{own_modes_after, own_modes, own_modes_each}
use Rattle.order_laws.specs.Rows.{place_there}
use Rattle.order_laws.proofs.ModeKeys.{resolving_keys}
use Rattle.order_laws.proofs.Frames.{same_place, StandsAt, stands_called}
use Rattle.order_laws.proofs.Asked.{AreFine, frame_fine}
use Rattle.order_laws.proofs.Placed.{EachLaid}
use Rattle.order_laws.proofs.Items.{TextFits}
use Rattle.order_laws.proofs.Contracts.{Holds}
use Rattle.order_laws.proofs.Bodies.{FrameLaid, frame_here, base_texts}

pub unfolded_calls : (p : Program) (i : Instance) → IsUnfolded p i → AreUnfolded p (all_sites (component_of i)) (calls_of i)
unfolded_calls p (instance d cs is) u = u.1

module _ (p : Program) (c : IsChecked p) (i : Instance) (f : Frame) (t : ℕ) (every : List Part) (shown : (w : List ℕ) → AreCalls i w → RowShows i f t w) (o : Orders)
    (least : (w : List ℕ) → IsLeastEquationOrder (instance_on i w) (equations (component_of (instance_on i w))) (o w)) where
  -- an unfolded declaration at the end of a way of calls
  pub record FrameAt (w : List ℕ) (z : Instance) : Type 0 where
    pub stands : StandsAt i f w z
    pub unfolded : IsUnfolded p z
    pub declared : Contains (components p) (component_of z)

  same_keys : (w : List ℕ) (ms : ModeParts) (qs : Known Resolving) → AreFine i f t shown w ms qs → map (λ m. m.0) ms ≡ map (λ q. q.0) qs
  same_keys w [] [] a = refl
  same_keys w [] (q ∷ qs) a = absurd a
  same_keys w (m ∷ ms) [] a = absurd a
  same_keys w (m ∷ ms) (q ∷ qs) a = rw (sym a.0.key, same_keys w ms qs a.1) refl

  abbrev Keyed : ModeParts → Instance → Type 0
  Keyed qs z = map (λ q. q.0) qs ≡ map (λ m. m.key) (terms z).modes

  keyed_at : (w : List ℕ) (z : Instance) → StandsAt i f w z → Keyed (own_modes w z) z
  keyed_at w z s = same_keys w (own_modes w z) (resolvings z) (frame_fine i f t shown w z s) ∙ resolving_keys z

  abbrev ChildLaid : List ℕ → Instance → Calls → (ℕ → ModeParts) → (ℕ → ModeNeeds) → ℕ → Type 0
  ChildLaid w z sub subo subd k = FrameLaid i f t every (w ++ k ∷ []) (sub k) (subo k) (subd k) × Keyed (subo k) (call_instance z k)

  -- texts on the base clock, behind the frame's own parts
  abbrev pub Texts : List ℕ → Instance → Calls → Type 0
  Texts w z sub =
      (ls : List Expression) → AllByRecursion (TextFits z (on_clock base)) ls → (b : List Part) → Holds (text_over sub (o w) w z).body b →
      EachLaid i f t every w b (wholes (setting z w sub (text_over sub (o w) w z).contract.modes) base ls)

  abbrev FrameGoal : List ℕ → Instance → Type 0
  FrameGoal w z =
      FrameAt w z → (sub : Calls) (subo : ℕ → ModeParts) (subd : ℕ → ModeNeeds) →
      ((k : ℕ) → 0 < k → pred k < count_of (calls_of z) → ChildLaid w z sub subo subd k) →
      own_modes w z ≡ own_modes_after z w subo [] (contract_statements (component_of z)) →
      modes_need z ≡ modes_after z subd [] (contract_statements (component_of z)) →
      FrameLaid i f t every w (text_over sub (o w) w z) (own_modes w z) (modes_need z) × Texts w z sub

  goal_here : (w : List ℕ) → AreCalls i w → FrameGoal w (place_there i f w)
  goal_here w a s sub subo subd child mine needed = (
    frame_here i f t every p c w a (shown w a) s.unfolded s.declared sub subo subd
        (λ k x l. record { laid = (child k x l).0.own.body; settled = (child k x l).0.own.settled })
        (λ k im. let r : ChildLaid w (place_there i f w) sub subo subd k = child k im.call.counted im.call.listed in
        record { laid = r.0.own; keyed = r.1 })
        (keyed_at w (place_there i f w) s.stands) mine needed (o w)
        (subst (λ z. (k : ℕ) → k < length (equations (component_of z)) → is_listed (o w) k ≡ true) (sym (same_place w i throughout f)) (least w).order.all)
        (λ k x y. (child k x y).0)
        (calls_fit IsKnown (place_there i f w) (tree_fits p c (place_there i f w) s.unfolded s.declared))
        (unfolded_calls p (place_there i f w) s.unfolded),
    base_texts i f t every p c w a (shown w a) s.unfolded s.declared sub subo subd
        (λ k x l. record { laid = (child k x l).0.own.body; settled = (child k x l).0.own.settled })
        (λ k im. let r : ChildLaid w (place_there i f w) sub subo subd k = child k im.call.counted im.call.listed in
        record { laid = r.0.own; keyed = r.1 })
        (keyed_at w (place_there i f w) s.stands) mine needed (o w)
        (subst (λ z. (k : ℕ) → k < length (equations (component_of z)) → is_listed (o w) k ≡ true) (sym (same_place w i throughout f)) (least w).order.all)
        (λ k x y. (child k x y).0)
        (calls_fit IsKnown (place_there i f w) (tree_fits p c (place_there i f w) s.unfolded s.declared))
        (unfolded_calls p (place_there i f w) s.unfolded),
  )

  goal_at : (w : List ℕ) (z : Instance) → StandsAt i f w z → FrameGoal w z
  goal_at w z s = subst (FrameGoal w) s.place (goal_here w s.calls)

  -- ---- all calls

  many_texts : (w : List ℕ) (is : Instances) → length (call_texts o w is) ≡ count_of is
  many_texts w no_instances = refl
  many_texts w (with_instance z x is) = ap suc (many_texts w is)

  abbrev CallLaid : List ℕ → Instances → ℕ → ℕ → Type 0
  CallLaid w is n q =
      FrameLaid i f t every (w ++ n ∷ []) (slice_index_or (call_texts o w is) q no_text) (slice_index_or (own_modes_each w is) q [])
      (slice_index_or (modes_need_each is) q []) × Keyed (slice_index_or (own_modes_each w is) q []) (instance_at is q)

  from_calls : (w : List ℕ) (d : Component) (cs : List (Name × Value)) (is : Instances) → FrameAt w (instance d cs is) →
      ((q : ℕ) → q < count_of is → StandsAt i f (w ++ suc q ∷ []) (instance_at is q) → CallLaid w is (suc q) q) →
      FrameLaid i f t every w (frame_text o w (instance d cs is)) (own_modes w (instance d cs is)) (modes_need (instance d cs is)) × Texts w (instance d cs is) (text_at (call_texts o w is))
  from_calls w d cs is s each =
      goal_at w (instance d cs is) s.stands s (text_at (call_texts o w is)) (λ k. slice_index_or (own_modes_each w is) (pred k) [])
      (λ k. slice_index_or (modes_need_each is) (pred k) []) child refl refl
    where
      there : (q : ℕ) → q < count_of is → CallLaid w is (suc q) q
      there q l = each q l (stands_called i f w (instance d cs is) s.stands (suc q) (omega arith) l)

      child : (k : ℕ) → 0 < k → pred k < count_of is →
          ChildLaid w (instance d cs is) (text_at (call_texts o w is)) (λ k. slice_index_or (own_modes_each w is) (pred k) [])
          (λ k. slice_index_or (modes_need_each is) (pred k) []) k
      child zero x l = absurd (omega arith)
      child (suc q) x l = there q l

  mutual
    pub frame_tree : (w : List ℕ) (z : Instance) → FrameAt w z → FrameLaid i f t every w (frame_text o w z) (own_modes w z) (modes_need z)
    frame_tree w (instance d cs is) s =
        (from_calls w d cs is s (λ q l a. calls_tree w (instance d cs is) is 0
        (calls_fit IsKnown (instance d cs is) (tree_fits p c (instance d cs is) s.unfolded s.declared)) (all_sites d) s.unfolded.1
        (each_site p c.rules.clocked.typed d s.declared) q (suc q) (omega arith) l a)).0

    pub calls_tree : (w : List ℕ) (z : Instance) (is : Instances) (q : ℕ) → CallsFit IsKnown z is q → (ss : List Site) → AreUnfolded p ss is →
        AllByRecursion (λ s. GoesDown p (component_of z) s.callee) ss → (m n : ℕ) → n ≡ suc (q + m) → m < count_of is →
        StandsAt i f (w ++ n ∷ []) (instance_at is m) → CallLaid w is n m
    calls_tree w z no_instances q h ss u g m n e l a = absurd (omega arith)
    calls_tree w z (with_instance y x is) q h [] u g m n e l a = absurd u
    calls_tree w z (with_instance y x is) q h (s ∷ ss) u g zero n e l a =
        let same : n ≡ y.number = (let v : n ≡ suc q = omega arith in v ∙ sym h.0.number) in
        let there : FrameAt (w ++ n ∷ []) x =
        record { stands = a; unfolded = u.2; declared = declared_at p c (component_of z) s x g.0 u.1 } in (
          subst (λ k. FrameLaid i f t every (w ++ n ∷ []) (frame_text o (w ++ k ∷ []) x) (own_modes (w ++ k ∷ []) x) (modes_need x)) same
              (frame_tree (w ++ n ∷ []) x there),
          subst (λ k. Keyed (own_modes (w ++ k ∷ []) x) x) same (keyed_at (w ++ n ∷ []) x a),
        )
    calls_tree w z (with_instance y x is) q h (s ∷ ss) u g (suc m) n e l a =
        calls_tree w z is (suc q) h.2 ss u.3 g.1 m n (let v : n ≡ suc (suc q + m) = omega arith in v) (omega arith) a

  pub texts_tree : (w : List ℕ) (z : Instance) → FrameAt w z → Texts w z (text_at (call_texts o w (calls_of z)))
  texts_tree w (instance d cs is) s =
      (from_calls w d cs is s (λ q l a. calls_tree w (instance d cs is) is 0
      (calls_fit IsKnown (instance d cs is) (tree_fits p c (instance d cs is) s.unfolded s.declared)) (all_sites d) s.unfolded.1
      (each_site p c.rules.clocked.typed d s.declared) q (suc q) (omega arith) l a)).1
