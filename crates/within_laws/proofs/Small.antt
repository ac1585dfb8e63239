-- In a run whose named values are small each operation of each part has a result within 128 bits.
use Rattle.std.proofs.Common.{◌≡◌, ℕ, zero, suc, ◌<◌, ◌≤◌, ◌*◌, ◌+◌, Bool, true, false, cond, List, [], ◌∷◌, ◌++◌, map, length, get_or, slice_get, refl, sym, ap, ◌∙◌, subst, arith, ℤ, Option, Some, None}
use Rattle.std.specs.Prelude.{unsigned_abs, neg_ℤ, ◌+ℤ◌, ◌-ℤ◌, ◌*ℤ◌, nat_le, unwrap_or, Contains}
use Rattle.std.specs.Int.{int_div_euclid}
use Rattle.std.specs.List.{AllByRecursion}
use Rattle.std.proofs.lemmas.Bool.{false≢true}
use Rattle.std.proofs.lemmas.Bool.Decides.{nat_tests}
use Rattle.std.proofs.lemmas.Int.{ints}
use Rattle.lus_tree.specs.declared.expression.Operator.{Operator}
use Rattle.lus_tree.specs.declared.expression.Operator.TheVariants.{Implies, Or, Xor, And, Less, AtMost, Equal, Differs, AtLeast, More, Add, Sub, Mul, Div, Mod}
use Rattle.lus_tree.specs.declared.place.Sort.{Sort}
use Rattle.lus_tree.specs.declared.place.Sort.TheVariants.{Bool as Flags, Int as Numbers}
use Rattle.lus_tree.specs.Tree.{Place, Expression, truth, number, name, negation, minus, pre, arrow, binary, choice, sampled, merged, call, condact, mode_name, Component, Program}
use Rattle.lus_meaning.specs.ClockFaults.{components}
use Rattle.lus_meaning.specs.Frame.{Frame}
use Rattle.lus_meaning.specs.Meaning.{value}
use Rattle.lus_meaning.specs.Program.{instance_of}
use Rattle.lus_meaning.specs.Refusals.{IsChecked}
use Rattle.lus_meaning.specs.Run.{IsRun, sort_of}
use Rattle.lus_meaning.specs.Scene.{Clock, Instance, component_of, Scene, is_on}
use Rattle.lus_meaning.specs.Scope.{greatest_weight}
use Rattle.lus_meaning.specs.Slots.{Slot, slots}
use Rattle.lus_meaning.specs.Trace.{or_default}
use Rattle.lus_meaning.specs.Value.{Value, absent, flag, whole, apply}
use Rattle.lus_meaning.specs.Verdict.{throughout}
use Rattle.kind_num.specs.Exact.{within}
use Rattle.kind_num.specs.declared.Past.{Past}
use Rattle.kind_num.proofs.Within.{within-fits}
use Rattle.rule_laws.specs.Laws.{IsUnfolded}
use Rattle.rule_laws.proofs.Unfolded.{component_within, each_unfolded}
use Rattle.frame_laws.proofs.Along.{along, tree_along}
use Rattle.sys_terms.specs.declared.term.Entry.{Entry}
use Rattle.sys_meaning.specs.Law.{IsRunOf}
use Rattle.sys_meaning.specs.Path.{frame_of_path}
use Rattle.sys_meaning.specs.Slot.{place_of}
use Rattle.sys_meaning.specs.State.{entry_of, reading, state_of}
use Rattle.sys_meaning.specs.WellTyped.{IsKnown, Stands}
use Rattle.sys_meaning.proofs.OneRun.{paths_to_runs, state_listed}
use Rattle.path_laws.specs.Laws.{is_small_entry, HasSmallNumbers}
use Rattle.path_laws.proofs.Main.{each_is_well_typed}
use Rattle.term_laws.proofs.Weights.{value_size, weighs, light_root}
use Rattle.term_laws.proofs.Lights.{IsLight, light_tree}
use Rattle.lus_evaluation.specs.Part.{Part}
use Rattle.lus_evaluation.specs.Evaluation.{instance_on, IsEvaluation}
use Rattle.lus_evaluation.specs.Past.{past_of_numbers, past_of_values, past_of_minus, past_of, part_past, NonePast}
use Rattle.lus_evaluation.specs.Turn.{in_turn}
use Rattle.slot_values.specs.Evaluated.{SlotValues, worth}
use Rattle.slot_values.specs.Resolved.{Numbering, resolution}
use Rattle.slot_values.specs.FrameRow.{numbering}
use Rattle.slot_values.proofs.FrameRow.{value_by_row}
use Rattle.evaluation_laws.specs.Laws.{HasOneEvaluation}
use Rattle.evaluation_laws.specs.Rows.{row_at, knows, scene_there, numbers_there, modes_there}
use Rattle.evaluation_laws.proofs.Evaluations.{each_has_one_evaluation}
use Rattle.evaluation_laws.proofs.RowFrames.{rows_show}
use Rattle.order_laws.proofs.FirstByRows.{laid}
use Rattle.order_laws.proofs.Frames.{same_place}
use Rattle.order_laws.proofs.Placed.{Placed, EachPlaced}
use Rattle.within_laws.specs.Small.{is_small, SmallRunsStayWithin, SmallPathsStayWithin}
use Rattle.within_laws.proofs.Lists.{each_picked}
use Rattle.within_laws.proofs.Lit.{IsLit, each_lit}
use Rattle.within_laws.proofs.Sized.{greatest, quotient_within, sized}

-- ---- numbers within 128 bits

-- the greatest size of what such an expression is worth: 2^63 times 2^63 - 1
abbrev bound : ℕ
bound = 85070591730234615856620279821087277056

small_within : (z : ℤ) → unsigned_abs z ≤ bound → within z ≡ true
small_within z h = within-fits z (omega (arith, ints, h))

none_at : (b : Bool) (x : Past) → b ≡ true → cond b None (Some x) ≡ None
none_at true x e = refl
none_at false x e = absurd (false≢true e)

minus_past : (v : Value) → value_size v ≤ bound → past_of_minus v ≡ None
minus_past absent h = refl
minus_past (flag b) h = refl
minus_past (whole x) h = none_at (within (neg_ℤ x)) _ (small_within (neg_ℤ x) (omega (arith, ints, h)))

-- the result is small; of `mod` the quotient
abbrev HasSmallResult : Operator → Value → Value → Type 0
HasSmallResult Add v w = value_size (apply Add v w) ≤ bound
HasSmallResult Sub v w = value_size (apply Sub v w) ≤ bound
HasSmallResult Mul v w = value_size (apply Mul v w) ≤ bound
HasSmallResult Div v w = value_size (apply Div v w) ≤ bound
HasSmallResult Mod v w = value_size (apply Div v w) ≤ bound
HasSmallResult _ v w = Unit {0}

numbers_past : (o : Operator) (x y : ℤ) → HasSmallResult o (whole x) (whole y) → past_of_numbers o x y ≡ None
numbers_past Add x y h = none_at (within (x +ℤ y)) _ (small_within (x +ℤ y) h)
numbers_past Sub x y h = none_at (within (x -ℤ y)) _ (small_within (x -ℤ y) h)
numbers_past Mul x y h = none_at (within (x *ℤ y)) _ (small_within (x *ℤ y) h)
numbers_past Div x y h = none_at (within (int_div_euclid x y)) _ (small_within (int_div_euclid x y) h)
numbers_past Mod x y h = none_at (within (int_div_euclid x y)) _ (small_within (int_div_euclid x y) h)
numbers_past Implies x y h = refl
numbers_past Or x y h = refl
numbers_past Xor x y h = refl
numbers_past And x y h = refl
numbers_past Less x y h = refl
numbers_past AtMost x y h = refl
numbers_past Equal x y h = refl
numbers_past Differs x y h = refl
numbers_past AtLeast x y h = refl
numbers_past More x y h = refl

values_past : (o : Operator) (v w : Value) → HasSmallResult o v w → past_of_values o v w ≡ None
values_past o absent w h = refl
values_past o (flag b) w h = refl
values_past o (whole x) absent h = refl
values_past o (whole x) (flag b) h = refl
values_past o (whole x) (whole y) h = numbers_past o x y h

-- ---- an expression in a row

module _ (row : SlotValues) (small : (k : ℕ) → value_size (row k) ≤ greatest) (g : Numbering) (on : Bool) where
  abbrev i : Instance
  i = g.place

  abbrev Worth : Expression → Value
  Worth e = worth row on (resolution g e)

  -- a number whose weight is not above 2^63
  within_bound : (m n : ℕ) → m ≤ n * greatest → n ≤ greatest_weight → m ≤ bound
  within_bound m n h k = omega (arith, h, k)

  bounded : (at : Clock) (e : Expression) → Stands i (IsKnown i) at e → IsLight i e → sort_of i e ≡ Numbers → value_size (Worth e) ≤ bound
  bounded at e s l z = within_bound _ (weighs i e) (sized row small g at e s l z on) ((light_root i greatest_weight e l).0 z)

  result : (at : Clock) (p : Place) (o : Operator) (a b : Expression) → Stands i (IsKnown i) at (binary p o a b) → IsLight i (binary p o a b) →
      HasSmallResult o (Worth a) (Worth b)
  result at p Add a b s l = bounded at (binary p Add a b) s l refl
  result at p Sub a b s l = bounded at (binary p Sub a b) s l refl
  result at p Mul a b s l = bounded at (binary p Mul a b) s l refl
  result at p Div a b s l = bounded at (binary p Div a b) s l refl
  result at p Mod a b s l = quotient_within (Worth a) (Worth b) bound (bounded at a s.3 l.1 s.0)
  result at p Implies a b s l = tt
  result at p Or a b s l = tt
  result at p Xor a b s l = tt
  result at p And a b s l = tt
  result at p Less a b s l = tt
  result at p AtMost a b s l = tt
  result at p Equal a b s l = tt
  result at p Differs a b s l = tt
  result at p AtLeast a b s l = tt
  result at p More a b s l = tt

  -- where operands have these values
  none_past : (at : Clock) (v : Expression → Value) → ((a : Expression) → Stands i (IsKnown i) at a → Worth a ≡ v a) → (e : Expression) →
      Stands i (IsKnown i) at e → IsLight i e → past_of v e ≡ None
  none_past at v h (minus p a) s l = ap past_of_minus (sym (h a s.1)) ∙ minus_past (Worth a) (bounded at a s.1 l.1 s.0)
  none_past at v h (binary p o a b) s l =
      ap (λ x. past_of_values o x (v b)) (sym (h a s.3)) ∙ ap (λ x. past_of_values o (Worth a) x) (sym (h b s.4))
      ∙ values_past o (Worth a) (Worth b) (result at p o a b s l)
  none_past at v h (truth p b) s l = refl
  none_past at v h (number p n) s l = refl
  none_past at v h (name p x) s l = refl
  none_past at v h (negation p a) s l = refl
  none_past at v h (pre p k a) s l = refl
  none_past at v h (arrow p k a b) s l = refl
  none_past at v h (choice p a b d) s l = refl
  none_past at v h (sampled p a q x) s l = refl
  none_past at v h (merged p x a b) s l = refl
  none_past at v h (call p k f as_) s l = refl
  none_past at v h (condact p k a f as_ ds) s l = refl
  none_past at v h (mode_name p d m) s l = refl

-- ---- the parts of an instant

where_none : (b : Bool) (o : Option Past) → o ≡ None → cond b o None ≡ None
where_none true o e = e
where_none false o e = refl

along_there : (w : List ℕ) (i : Instance) → along i w ≡ instance_on i w
along_there [] i = refl
along_there (k ∷ w) i = along_there w _

module _ (p : Program) (c : IsChecked p) (n : Component) (j : Contains (components p) n) (qs : List Part) (ev : IsEvaluation (instance_of p n) qs)
    (m : ℕ) (f : Frame) (run : IsRun (instance_of p n) m throughout f) (t : ℕ) (l : t < m)
    (small : (k : ℕ) → value_size (row_at (instance_of p n) f t k) ≤ greatest) where
  abbrev top : Instance
  top = instance_of p n

  abbrev ps : List Part
  ps = in_turn ev.orders top

  unfolded : IsUnfolded p top
  unfolded = each_unfolded p c n j

  declared : Contains (components p) (component_of top)
  declared = subst (Contains (components p)) (sym (component_within _ p n)) j

  all_lit : AllByRecursion (IsLit top) ps
  all_lit = each_lit top p c ev.orders top (tree_along p c top [] top refl unfolded declared) unfolded declared (light_tree p c top unfolded declared)

  quiet_part : (b : List Part) (q : Part) → Placed top f t ps b q → IsLit top q → part_past top f q t ≡ None
  quiet_part b q h lit =
      let s : Scene = scene_there top f q.way in
      let g : Numbering = numbering s (numbers_there top q.way) (modes_there top f q.way) in
      let light : IsLight s.place q.expression =
      subst (λ z. IsLight z q.expression) (along_there q.way top ∙ sym (same_place q.way top throughout f)) lit in
      where_none (is_on s q.clock t) _ (none_past (row_at top f t) small g (is_on s q.clock t) q.clock (λ a. value s q.clock a t)
      (λ a w. value_by_row s (knows s.place) (numbers_there top q.way) (modes_there top f q.way) (row_at top f t) t
      (rows_show p c n j m f run t l q.way h.calls) q.clock a w h.clock) q.expression h.stands light)

  quiet_each : (b rs : List Part) → EachPlaced top f t ps b rs → AllByRecursion (IsLit top) rs → NonePast top f rs t
  quiet_each b [] a h = tt
  quiet_each b (q ∷ rs) a h = (quiet_part b q a.0 h.0, quiet_each (b ++ q ∷ []) rs a.1 h.1)

  pub none_there : NonePast top f qs t
  none_there =
      subst (λ rs. NonePast top f rs t) (sym ev.parts)
      (each_picked (λ q. part_past top f q t ≡ None) ev.numbers ps (quiet_each [] ps (laid p c n j qs ev m f run t l) all_lit))

-- ---- runs

size_here : (v : Value) → is_small v ≡ true → value_size v ≤ greatest
size_here absent h = omega arith
size_here (flag b) h = omega arith
size_here (whole z) h = below (unsigned_abs z) greatest h
  where
    below : (m n : ℕ) → nat_le m n ≡ true → m ≤ n
    below m n h = grind (arith, nat_tests, h)

pub small_runs_stay_within : SmallRunsStayWithin
small_runs_stay_within p c n j m f run k le small =
    let e : HasOneEvaluation (instance_of p n) = each_has_one_evaluation p c n j in
    record {
      parts = e.parts;
      evaluation = e.evaluation;
      within = λ t l.
          none_there p c n j e.parts e.evaluation m f run t (omega (arith, l, le)) (λ q. size_here (row_at (instance_of p n) f t q) (small t q l));
    }

-- ---- paths

-- what a variable is at most, its reading is
small_reading : (z : Sort) (v : Value) → is_small_entry (entry_of (or_default z v)) ≡ true → is_small v ≡ true
small_reading z absent h = refl
small_reading z (flag b) h = refl
small_reading Flags (whole x) h = h
small_reading Numbers (whole x) h = h

small_found : (row : Slot → Value) (qs : List Slot) (k : ℕ) →
    AllByRecursion (λ e. is_small_entry e ≡ true) (map (λ p. entry_of (or_default p.sort (row p))) qs) →
    is_small (unwrap_or (slice_get (map row qs) k) absent) ≡ true
small_found row [] k a = refl
small_found row (q ∷ qs) zero a = small_reading q.sort (row q) a.0
small_found row (q ∷ qs) (suc k) a = small_found row qs k a.1

small_there : (states : List (List Entry)) → HasSmallNumbers states → (t : ℕ) → AllByRecursion (λ e. is_small_entry e ≡ true) (get_or states t [])
small_there [] a t = tt
small_there (s ∷ states) a zero = a.0
small_there (s ∷ states) a (suc t) = small_there states a.1 t

listed_there : (i : Instance) (states : List (List Entry)) (f : Frame) → IsRunOf i states f → (t : ℕ) → t < length states →
    get_or states t [] ≡ state_of i f t
listed_there i states f r t l =
    let from : 0 + t ≡ t = omega arith in
    ap (λ z. get_or z t []) (sym r.goes) ∙ state_listed i f (length states) 0 t l ∙ ap (state_of i f) from

pub small_paths_stay_within : SmallPathsStayWithin
small_paths_stay_within p c n j states path small =
    let i : Instance = instance_of p n in
    let w = each_is_well_typed p c n j in
    let f : Frame = frame_of_path i states in
    let r : IsRunOf i states f = (paths_to_runs i w.0 w.1 states path).0 in
    small_runs_stay_within p c n j (length states) f r.run (length states) (omega arith) (λ t k l.
    small_found (λ q. reading i throughout f (place_of q) t) (slots i) k
    (subst (AllByRecursion (λ e. is_small_entry e ≡ true)) (listed_there i states f r t l) (small_there states small t)))
