-- What is known of the evaluation of an instant of a run.
use Rattle.std.proofs.Common.{◌≡◌, ℕ, ◌<◌, true, List, [], ◌∷◌, ◌++◌, slice_get, refl, ap, ◌∙◌, sym, subst}
use Rattle.std.specs.Prelude.{Contains, option_to_list, Option, Some, None}
use Rattle.std.specs.List.{AllByRecursion}
use Rattle.std.proofs.Math.Logic.{◌⊎◌, inl, inr}
use Rattle.std.proofs.lemmas.Bool.{false≢true}
use Rattle.lus_tree.specs.Tree.{Name, Expression, truth, number, name, negation, minus, pre, arrow, binary, choice, sampled, merged, call, condact, mode_name, Component, Program}
use Rattle.lus_meaning.specs.Frame.{Frame}
use Rattle.lus_meaning.specs.Scene.{Clock, Instance}
use Rattle.lus_meaning.specs.Depends.{named_in}
use Rattle.lus_meaning.specs.Cycle.{Place}
use Rattle.lus_meaning.specs.Program.{instance_of}
use Rattle.lus_meaning.specs.Run.{IsRun}
use Rattle.lus_meaning.specs.Trace.{same_numbers}
use Rattle.lus_meaning.specs.Verdict.{throughout}
use Rattle.lus_meaning.specs.ClockFaults.{components}
use Rattle.lus_meaning.specs.Refusals.{IsChecked}
use Rattle.lus_meaning.proofs.Members.{IsIn, in_left}
use Rattle.lus_meaning.proofs.Lists.{all_from}
use Rattle.sys_meaning.specs.Defaults.{site_of}
use Rattle.sys_meaning.specs.WellTyped.{IsKnown, WellTyped}
use Rattle.sys_meaning.proofs.Shows.{same_ways}
use Rattle.path_laws.proofs.Main.{each_is_well_typed}
use Rattle.lus_evaluation.specs.Part.{Part}
use Rattle.lus_evaluation.specs.Frame.{picked}
use Rattle.lus_evaluation.specs.Turn.{in_turn}
use Rattle.lus_evaluation.specs.Evaluation.{is_above, IsEvaluation}
use Rattle.evaluation_laws.proofs.Waiting.{both_true}
use Rattle.order_laws.specs.Laws.{IsOneOf}
use Rattle.order_laws.specs.Needed.{IsSide, IsCalled, IsGiven, IsEvaluatedIn, OfOperand}
use Rattle.order_laws.specs.Rows.{place_there}
use Rattle.order_laws.proofs.Bodies.{in_all, slice_in, slice_below, at_slice, picked_in}
use Rattle.order_laws.proofs.Evaluated.{firsts, first_at}
use Rattle.order_laws.proofs.FirstByRows as b
use Rattle.order_laws.proofs.Frames.{stands_there}
use Rattle.order_laws.proofs.NoneOutside.{given_names_are_within, arguments_are_within}
use Rattle.order_laws.proofs.Placed.{all_in_self, Among, Giver, Settled, settled_among, PartIn, WholeIn, GivenTo, CalledIn, Placed, placed_in}
use Rattle.rest_laws.proofs.Clocks.{IsStanding, IsTimed, instant_timed}
use Rattle.rest_laws.proofs.Facts.{in_of, IsEntered, AreGiven, own_operands, Facts}
use Rattle.rest_laws.proofs.Made.{given_once}
use Rattle.rest_laws.proofs.Set.{same_end, no_end}

picked_from : (ks : List ℕ) (ps : List Part) (r : Part) → IsIn r (picked ks ps) → IsIn r ps
picked_from [] ps r h = absurd h
picked_from (k ∷ ks) ps r h = go (slice_get ps k) refl h (picked_from ks ps r)
  where
    go : (o : Option Part) → slice_get ps k ≡ o → IsIn r (option_to_list o ++ picked ks ps) → (IsIn r (picked ks ps) → IsIn r ps) → IsIn r ps
    go None e h n = n h
    go (Some q) e (inl m) n = slice_in ps k r (e ∙ ap Some (sym m))
    go (Some q) e (inr m) n = n m

firsts_from : (k : ℕ) (ps : List Part) (r : Part) → IsIn r (firsts k ps) → IsIn r ps
firsts_from k ps r h = let a = first_at k ps r h in slice_in ps a.0 r a.2

top_alone : (v : List ℕ) → is_above v [] ≡ true → v ≡ []
top_alone [] h = refl
top_alone (k ∷ v) h = absurd (false≢true h)

module _ (p : Program) (c : IsChecked p) (n : Component) (j : Contains (components p) n) (qs : List Part) (ev : IsEvaluation (instance_of p n) qs)
    (m : ℕ) (f : Frame) (run : IsRun (instance_of p n) m throughout f) (t : ℕ) (l : t < m) where
  abbrev i : Instance
  i = instance_of p n

  abbrev ps : List Part
  ps = in_turn ev.orders i

  typed : WellTyped IsKnown i
  typed = (each_is_well_typed p c n j).0

  -- ---- parts, in the order and in turn

  pub in_turn_from : (r : Part) → IsIn r qs → IsIn r ps
  in_turn_from r h = picked_from ev.numbers ps r (subst (IsIn r) ev.parts h)

  pub in_order_from : (r : Part) → IsIn r ps → IsIn r qs
  in_order_from r h =
      let k : (k : ℕ) × (slice_get ps k ≡ Some r) = at_slice ps r h in
      subst (IsIn r) (sym ev.parts) (picked_in ev.numbers ps k.0 r k.1 (ev.turn.order.all k.0 (slice_below ps k.0 r k.1)))

  one : (r : Part) → IsIn r qs → IsOneOf qs r
  one r h = b.one_of qs r h

  pub placed : (r : Part) → IsIn r ps → (z : List Part) × Among z ps × Placed i f t ps z r
  placed r h = placed_in i f t ps [] ps r (b.laid p c n j qs ev m f run t l) h

  pub all_stand : AllByRecursion (IsStanding i f) ps
  all_stand = all_from (λ r. IsIn r ps) (IsStanding i f) (λ r h. (placed r h).2.stands) ps (all_in_self ps)

  operands_in : (r : Part) → IsIn r qs → AllByRecursion (IsOneOf qs) (own_operands i f t r)
  operands_in r h =
      let o : IsOneOf qs r = one r h in
      all_from (IsOneOf o.before) (IsOneOf qs) (λ y z. one y (subst (IsIn y) (sym o.split) (in_left y o.before (r ∷ o.after) (in_of z))))
      (own_operands i f t r) (b.operands_before p c n j qs ev m f run t l o.before r o.after o.split)

  -- ---- frames that are entered

  among_called : (w : List ℕ) (z : List Part) (k : Clock) (e : Expression) (v : List ℕ) → IsCalled w e v → CalledIn i f t w z k e → Settled i f t v z
  among_called w z k (call q o x as_) v h s = subst (λ u. Settled i f t u z) (sym h) s.0
  among_called w z k (condact q o a x as_ ds) v h s = subst (λ u. Settled i f t u z) (sym h) s.0
  among_called w z k (truth q a) v h s = absurd h
  among_called w z k (number q a) v h s = absurd h
  among_called w z k (name q a) v h s = absurd h
  among_called w z k (negation q a) v h s = absurd h
  among_called w z k (minus q a) v h s = absurd h
  among_called w z k (pre q o a) v h s = absurd h
  among_called w z k (arrow q o a d) v h s = absurd h
  among_called w z k (binary q o a d) v h s = absurd h
  among_called w z k (choice q a d e) v h s = absurd h
  among_called w z k (sampled q a o x) v h s = absurd h
  among_called w z k (merged q x a d) v h s = absurd h
  among_called w z k (mode_name q d x) v h s = absurd h

  settled : (w : List ℕ) → IsEntered qs w → Settled i f t w ps
  settled w (inl e) = subst (λ v. Settled i f t v ps) (sym e) (b.top_there p c n j qs ev m f run t l)
  settled w (inr (r, h, inl a)) = go ((placed r (in_turn_from r h)).2.inside w a)
    where
      go : (is_above w [] ≡ true) ⊎ Settled i f t w ps → Settled i f t w ps
      go (inl e) = subst (λ v. Settled i f t v ps) (sym (top_alone w e)) (b.top_there p c n j qs ev m f run t l)
      go (inr s) = s
  settled w (inr (r, h, inr a)) =
      let z = placed r (in_turn_from r h) in
      settled_among i f t w z.0 ps (among_called r.way z.0 r.clock r.expression w a z.2.called) z.1

  given_by : (w : List ℕ) (x : Name) → Giver i f t w x ps → IsGiven i f t qs w x
  given_by w x g = record {
    part = g.part;
    there = one g.part (in_order_from g.part g.listed);
    gives = g.gives;
    side = subst (λ z. IsSide (place_there i f z) g.part.gives g.part.clock g.part.expression)
        (sym (same_ways w g.part.way (both_true (same_numbers w g.part.way) (named_in x g.part.gives) g.gives).0))
        ((placed g.part g.listed).2.gives x (both_true (same_numbers w g.part.way) (named_in x g.part.gives) g.gives).1);
    own = operands_in g.part (in_order_from g.part g.listed);
  }

  -- ---- what callers give

  whole_in : (w : List ℕ) (z : List Part) (k : Clock) (a : Expression) → Among z ps → WholeIn i f t w z k a → IsEvaluatedIn i f t qs w k a
  whole_in w z k a y h =
      let q : IsIn h.part qs = in_order_from h.part (y h.part h.there) in
      record { part = h.part; there = one h.part q; way = h.way; clock = h.clock; expression = h.expression; own = operands_in h.part q }

  part_in : (w : List ℕ) (z : List Part) (k : Clock) (a : Expression) → Among z ps → PartIn i f t w z k a → IsEvaluatedIn i f t qs w k a
  part_in w z k a y h =
      let q : IsIn h.part qs = in_order_from h.part (y h.part h.there) in
      record { part = h.part; there = one h.part q; way = h.way; clock = h.clock; expression = h.expression; own = operands_in h.part q }

  given_from : (w : List ℕ) (k : ℕ) (z : List Part) → Among z ps → GivenTo i f t w k z → AreGiven i f t qs w k
  given_from w k z y g = record {
    arguments = all_from (WholeIn i f t w z (site_of (place_there i f w) k).clock) (IsEvaluatedIn i f t qs w (site_of (place_there i f w) k).clock)
        (λ a h. whole_in w z (site_of (place_there i f w) k).clock a y h) (site_of (place_there i f w) k).arguments g.arguments;
    conditions = λ a e. whole_in w z (site_of (place_there i f w) k).clock a y (g.condition a e);
  }

  to_call : (u : List ℕ) (z : List Part) (k : Clock) (e : Expression) (w : List ℕ) (o : ℕ) → IsCalled u e (w ++ o ∷ []) → CalledIn i f t u z k e →
      GivenTo i f t w o z
  to_call u z k (call q o x as_) w y h s =
      let e = same_end w u y o h in subst (λ v. GivenTo i f t v y z) (sym e.0) (subst (λ v. GivenTo i f t u v z) (sym e.1) s.3)
  to_call u z k (condact q o a x as_ ds) w y h s =
      let e = same_end w u y o h in subst (λ v. GivenTo i f t v y z) (sym e.0) (subst (λ v. GivenTo i f t u v z) (sym e.1) s.3)
  to_call u z k (truth q a) w o h s = absurd h
  to_call u z k (number q a) w o h s = absurd h
  to_call u z k (name q a) w o h s = absurd h
  to_call u z k (negation q a) w o h s = absurd h
  to_call u z k (minus q a) w o h s = absurd h
  to_call u z k (pre q y a) w o h s = absurd h
  to_call u z k (arrow q y a d) w o h s = absurd h
  to_call u z k (binary q y a d) w o h s = absurd h
  to_call u z k (choice q a d e) w o h s = absurd h
  to_call u z k (sampled q a y x) w o h s = absurd h
  to_call u z k (merged q x a d) w o h s = absurd h
  to_call u z k (mode_name q d x) w o h s = absurd h

  are_given : (w : List ℕ) (k : ℕ) → IsEntered qs (w ++ k ∷ []) → AreGiven i f t qs w k
  are_given w k (inl e) = absurd (no_end w k e)
  are_given w k (inr (r, h, inl a)) = let z = placed r (in_turn_from r h) in given_from w k z.0 z.1 (z.2.given w k a)
  are_given w k (inr (r, h, inr a)) =
      let z = placed r (in_turn_from r h) in given_from w k z.0 z.1 (to_call r.way z.0 r.clock r.expression w k a z.2.called)

  operand_from : (w : List ℕ) (z : List Part) (k : Clock) (e : Expression) → Among z ps → CalledIn i f t w z k e → OfOperand (IsEvaluatedIn i f t qs w k) e
  operand_from w z k (pre q o a) y s = part_in w z k a y s
  operand_from w z k (call q o x as_) y s = tt
  operand_from w z k (condact q o a x as_ ds) y s = tt
  operand_from w z k (truth q a) y s = tt
  operand_from w z k (number q a) y s = tt
  operand_from w z k (name q a) y s = tt
  operand_from w z k (negation q a) y s = tt
  operand_from w z k (minus q a) y s = tt
  operand_from w z k (arrow q o a d) y s = tt
  operand_from w z k (binary q o a d) y s = tt
  operand_from w z k (choice q a d e) y s = tt
  operand_from w z k (sampled q a o x) y s = tt
  operand_from w z k (merged q x a d) y s = tt
  operand_from w z k (mode_name q d x) y s = tt

  -- ---- clocks

  abbrev Anything : List ℕ → List Place → Type 0
  Anything w ns = Unit {0}

  timed : AllByRecursion (IsTimed i f Anything (λ w z s k e st y. tt) (λ w z s k im ns y. tt)) ps
  timed =
      instant_timed i f Anything (λ w z s k e st y. tt) (λ w z s k im ns y. tt) ev.orders (stands_there i f [] tt typed.tree) typed.tree all_stand

  pub facts : Facts i f t qs
  facts = record {
    typed = typed;
    once = λ w a. given_once p c n j f w a;
    calls = λ r h. (placed r (in_turn_from r h)).2.calls;
    stands = λ r h. (placed r (in_turn_from r h)).2.stands;
    named = λ r h. (in_all (IsTimed i f Anything (λ w z s k e st y. tt) (λ w z s k im ns y. tt)) ps r timed (in_turn_from r h)).named;
    operands = operands_in;
    sides = λ w e x h. given_by w x (settled w e x h);
    given = are_given;
    remembered = λ r h. let z = placed r (in_turn_from r h) in operand_from r.way z.0 r.clock r.expression z.1 z.2.called;
    given_none = λ front rest e o v x g. given_names_are_within p c n j qs ev m f run t l front rest e o v x g;
    argument_none = λ front rest e o w k a g. arguments_are_within p c n j qs ev m f run t l front rest e o w k a g;
  }
