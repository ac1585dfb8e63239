-- What a part needs of the frames that it sees comes before it.
use Rattle.std.proofs.Common.{◌≡◌, ℕ, suc, ◌<◌, true, List, [], ◌∷◌, ◌++◌, length, Some, slice_get, refl, ◌∙◌, sym, subst, ap}
use Rattle.std.specs.Prelude.{Contains}
use Rattle.std.specs.List.{AllByRecursion}
use Rattle.std.proofs.Math.Logic.{◌⊎◌, inl, inr}
use Rattle.std.proofs.lemmas.Bool.{false≢true}
use Rattle.lus_tree.specs.Tree.{Name, Expression, truth, number, name, negation, minus, pre, arrow, binary, choice, sampled, merged, call, condact, mode_name, Component, Program}
use Rattle.lus_meaning.specs.Frame.{Frame}
use Rattle.lus_meaning.specs.Scene.{Clock, Instance, component_of}
use Rattle.lus_meaning.specs.Depends.{named_in, left_names}
use Rattle.lus_meaning.specs.Order.{is_listed}
use Rattle.lus_meaning.specs.Program.{listed as listed_expressions, instance_of}
use Rattle.lus_meaning.specs.Run.{IsRun}
use Rattle.lus_meaning.specs.Trace.{same_numbers}
use Rattle.lus_meaning.specs.Verdict.{throughout}
use Rattle.lus_meaning.specs.ClockFaults.{components}
use Rattle.lus_meaning.specs.Refusals.{IsChecked}
use Rattle.lus_meaning.proofs.Members.{IsIn}
use Rattle.lus_meaning.proofs.Lists.{all_from}
use Rattle.clock_laws.proofs.AllPlaces.{all_places}
use Rattle.clock_laws.proofs.Circles.{no_circle}
use Rattle.clock_laws.proofs.Ranks.{rank_here, rank_lowers, rank_bound}
use Rattle.sys_meaning.proofs.Shows.{same_ways}
use Rattle.lus_evaluation.specs.Part.{Part, needs_of}
use Rattle.lus_evaluation.specs.Evaluation.{is_above, gives_name, NeedsPlace, place_named, IsEvaluation}
use Rattle.lus_evaluation.specs.Turn.{in_turn}
use Rattle.slot_values.specs.Parts.{operands, setting_at}
use Rattle.evaluation_laws.proofs.Waiting.{both_true}
use Rattle.order_laws.specs.Laws.{IsOneOf}
use Rattle.order_laws.specs.Own.{own_setting}
use Rattle.order_laws.specs.Needed.{IsSide, IsCalled, Sees, IsGiven, arguments_of, IsEvaluatedIn, NeededNamesComeBefore, NeededArgumentsComeBefore}
use Rattle.order_laws.specs.Rows.{place_there, standpoint_there}
use Rattle.order_laws.proofs.Lists.{grouped}
use Rattle.order_laws.proofs.Placed.{Settled, CalledIn, WholeIn, WholesIn, Placed}
use Rattle.order_laws.proofs.Bodies.{picked_in}
use Rattle.order_laws.proofs.Evaluated.{firsts, above_itself, whole_listed, above_listed, called_listed}
use Rattle.order_laws.proofs.FirstByRows as b

-- ---- lists

one_further : (qs rs : List Part) (r : Part) → IsOneOf qs r → IsOneOf (qs ++ rs) r
one_further qs rs r o = record {
  before = o.before;
  after = o.after ++ rs;
  split = ap (λ l. l ++ rs) o.split ∙ grouped o.before (r ∷ o.after) rs;
}

-- ---- the frame that is called

module _ (i : Instance) (f : Frame) (t : ℕ) (w : List ℕ) (b : List Part) (k : Clock) (v : List ℕ) where
  abbrev Number : Type 0
  Number = (l : ℕ) × (v ≡ w ++ l ∷ []) × Settled i f t (w ++ l ∷ []) b

  number_called : (e : Expression) → IsCalled w e v → CalledIn i f t w b k e → Number
  number_called (call p l n as_) h s = (l, h, s.0)
  number_called (condact p l a n as_ ds) h s = (l, h, s.0)
  number_called (truth p a) h s = absurd h
  number_called (number p a) h s = absurd h
  number_called (name p a) h s = absurd h
  number_called (negation p a) h s = absurd h
  number_called (minus p a) h s = absurd h
  number_called (pre p l a) h s = absurd h
  number_called (arrow p l a d) h s = absurd h
  number_called (binary p o a d) h s = absurd h
  number_called (choice p a d e) h s = absurd h
  number_called (sampled p a q x) h s = absurd h
  number_called (merged p x a d) h s = absurd h
  number_called (mode_name p d m) h s = absurd h

top_alone : (v : List ℕ) → is_above v [] ≡ true → v ≡ []
top_alone [] h = refl
top_alone (k ∷ v) h = absurd (false≢true h)

-- ---- a run of a declaration

module _ (p : Program) (c : IsChecked p) (n : Component) (j : Contains (components p) n) (qs : List Part) (ev : IsEvaluation (instance_of p n) qs)
    (m : ℕ) (f : Frame) (run : IsRun (instance_of p n) m throughout f) (t : ℕ) (l : t < m) (front : List Part) (q : Part) (rest : List Part)
    (e : qs ≡ front ++ q ∷ rest) where
  abbrev i : Instance
  i = instance_of p n

  abbrev ps : List Part
  ps = in_turn ev.orders i

  abbrev at : b.Numbered ps ev.numbers front q
  at = b.at p c n j qs ev m f run t l front q rest e

  here : Placed i f t ps (firsts at.number ps) q
  here = b.here p c n j qs ev m f run t l front q rest e

  abbrev Listed : List ℕ → Name → Type 0
  Listed v x = (k : ℕ) × (y : Part) × (slice_get ps k ≡ Some y) × (is_listed at.before k ≡ true) × (gives_name v x y ≡ true)

  settled_here : (v : List ℕ) → is_above v q.way ≡ true → Settled i f t v ps
  settled_here v a = go (here.inside v a)
    where
      go : (is_above v [] ≡ true) ⊎ Settled i f t v ps → Settled i f t v ps
      go (inl h) = subst (λ z. Settled i f t z ps) (sym (top_alone v h)) (b.top_there p c n j qs ev m f run t l)
      go (inr s) = s

  listed : (v : List ℕ) (x : Name) → Sees q v → named_in x (left_names (component_of (place_there i f v))) ≡ true →
      NeedsPlace i q.needs (place_named v x) → Listed v x
  listed v x (inl a) h needed =
      above_listed i (rank_here i) (rank_lowers i (no_circle p c i (b.unfolded p c n j qs ev m f run) (b.declared p c n j qs ev m f run))) f t ps
      (b.laid p c n j qs ev m f run t l) (b.whole p c n j qs ev m f run) ev.numbers ev.turn at.number q at.there at.before at.after at.split
      (suc (suc (length (all_places i)))) (rank_bound i) v x a (settled_here v a) h needed
  listed v x (inr a) h needed =
      let k : Number i f t q.way (firsts at.number ps) q.clock v = number_called i f t q.way (firsts at.number ps) q.clock v q.expression a here.called in
      subst (λ z. Listed z x) (sym k.1)
      (called_listed i (rank_here i) (rank_lowers i (no_circle p c i (b.unfolded p c n j qs ev m f run) (b.declared p c n j qs ev m f run))) f t ps
      (b.laid p c n j qs ev m f run t l) (b.whole p c n j qs ev m f run) ev.numbers ev.turn at.number q at.there at.before at.after at.split
      (suc (suc (length (all_places i)))) (rank_bound i) k.0 x k.2
      (subst (λ z. named_in x (left_names (component_of (place_there i f z))) ≡ true) k.1 h)
      (subst (λ z. NeedsPlace i q.needs (place_named z x)) k.1 needed))

  own_there : (y : Part) → IsOneOf front y →
      AllByRecursion (IsOneOf front) (operands (setting_at (standpoint_there i f t y.way)) y.needs y.clock y.expression)
  own_there y o =
      all_from (IsOneOf o.before) (IsOneOf front)
      (λ r z. subst (λ zs. IsOneOf zs r) (sym o.split) (one_further o.before (y ∷ o.after) r z))
      (operands (setting_at (standpoint_there i f t y.way)) y.needs y.clock y.expression)
      (b.operands_before p c n j qs ev m f run t l o.before y (o.after ++ q ∷ rest)
      (e ∙ ap (λ z. z ++ q ∷ rest) o.split ∙ grouped o.before (y ∷ o.after) (q ∷ rest)))

  given_by : (v : List ℕ) (x : Name) (y : Part) → gives_name v x y ≡ true → IsOneOf front y → IsGiven i f t front v x
  given_by v x y g o = record { part = y; there = o; gives = g; side = side; own = own_there y o }
    where
      behind : qs ≡ o.before ++ y ∷ (o.after ++ q ∷ rest)
      behind = e ∙ ap (λ z. z ++ q ∷ rest) o.split ∙ grouped o.before (y ∷ o.after) (q ∷ rest)

      named : (same_numbers v y.way ≡ true) × (named_in x y.gives ≡ true)
      named = both_true (same_numbers v y.way) (named_in x y.gives) g

      side : IsSide (place_there i f v) y.gives y.clock y.expression
      side =
          subst (λ z. IsSide (place_there i f z) y.gives y.clock y.expression) (sym (same_ways v y.way named.0))
          ((b.here p c n j qs ev m f run t l o.before y (o.after ++ q ∷ rest) behind).gives x named.1)

  -- ---- arguments

  -- a whole of its frame, or of one on the way there, that stands before the part in turn and needs no more
  pub whole_in : (w : List ℕ) → is_above w q.way ≡ true → (d : Clock) (a : Expression) → WholeIn i f t w (firsts at.number ps) d a →
      AllByRecursion (λ z. NeedsPlace i q.needs z) (needs_of (own_setting (place_there i f w) w []) d a) → IsEvaluatedIn i f t front w d a
  whole_in w u d a r needed =
      let y = whole_listed i (rank_here i) (rank_lowers i (no_circle p c i (b.unfolded p c n j qs ev m f run) (b.declared p c n j qs ev m f run))) f t ps
      (b.laid p c n j qs ev m f run t l) (b.whole p c n j qs ev m f run) ev.numbers ev.turn at.number q at.there at.before at.after at.split
      (suc (suc (length (all_places i)))) (rank_bound i) w u d a r needed in
      let o : IsOneOf front r.part = b.one_of front r.part (subst (λ z. IsIn r.part z) at.fronts (picked_in at.before ps y.0 r.part y.1 y.2)) in
      record { part = r.part; there = o; way = r.way; clock = r.clock; expression = r.expression; own = own_there r.part o }

  abbrev Comes : Expression → Type 0
  Comes a =
      AllByRecursion (λ z. NeedsPlace i q.needs z) (needs_of (own_setting (place_there i f q.way) q.way []) q.clock a) →
      IsEvaluatedIn i f t front q.way q.clock a

  all_in : (as_ : List Expression) → WholesIn i f t q.way (firsts at.number ps) q.clock as_ → AllByRecursion Comes as_
  all_in as_ h = all_from (WholeIn i f t q.way (firsts at.number ps) q.clock) Comes (λ a r needed. whole_in q.way (above_itself q.way) q.clock a r needed) as_ h

  by_form : (x : Expression) → CalledIn i f t q.way (firsts at.number ps) q.clock x → AllByRecursion Comes (arguments_of x)
  by_form (call g k z as_) h = all_in (listed_expressions as_) h.1
  by_form (condact g k a z as_ ds) h = all_in (listed_expressions as_) h.1
  by_form (truth g a) h = tt
  by_form (number g a) h = tt
  by_form (name g a) h = tt
  by_form (negation g a) h = tt
  by_form (minus g a) h = tt
  by_form (pre g k a) h = tt
  by_form (arrow g k a d) h = tt
  by_form (binary g o a d) h = tt
  by_form (choice g a d z) h = tt
  by_form (sampled g a k x) h = tt
  by_form (merged g x a d) h = tt
  by_form (mode_name g d x) h = tt

  pub arguments_in : AllByRecursion Comes (arguments_of q.expression)
  arguments_in = by_form q.expression here.called

  pub given : (v : List ℕ) (x : Name) → Sees q v → named_in x (left_names (component_of (place_there i f v))) ≡ true →
      NeedsPlace i q.needs (place_named v x) → IsGiven i f t front v x
  given v x s h needed =
      let y : Listed v x = listed v x s h needed in
      given_by v x y.1 y.4 (b.one_of front y.1 (subst (λ z. IsIn y.1 z) at.fronts (picked_in at.before ps y.0 y.1 y.2 y.3)))

pub needed_names_come_before : NeededNamesComeBefore
needed_names_come_before p c n j qs ev m f run t l front q rest e v x s h needed = given p c n j qs ev m f run t l front q rest e v x s h needed

pub needed_arguments_come_before : NeededArgumentsComeBefore
needed_arguments_come_before p c n j qs ev m f run t l front q rest e = arguments_in p c n j qs ev m f run t l front q rest e
