-- Expressions that break no rule of types and clocks fit where they stand.
use Rattle.std.proofs.Common.{◌≡◌, ℕ, suc, arith, Bool, true, false, cond, not, ◌&&◌, ◌||◌, ◌==◌, List, [], ◌∷◌, ◌++◌, map, length, flat_map, Option, Some, None, refl, sym, ap, ◌∙◌, subst, option_map, option_to_list}
use Rattle.std.specs.Prelude.{is_some, option_and_then, unwrap_or}
use Rattle.std.specs.List.{AllByRecursion}
use Rattle.std.specs.Map.{lookup}
use Rattle.std.specs.Bool.{beq}
use Rattle.std.specs.Str.{bytes_eq}
use Rattle.std.proofs.lemmas.Bool.{false≢true, eqb-true}
use Rattle.lus_tree.specs.declared.expression.Operator.{Operator}
use Rattle.lus_tree.specs.declared.expression.Operator.TheVariants.{Implies, Or, Xor, And, Less, AtMost, Equal, Differs, AtLeast, More, Add, Sub, Mul, Div, Mod}
use Rattle.lus_tree.specs.declared.place.Pos.{Pos}
use Rattle.lus_tree.specs.declared.place.Sort.{Sort}
use Rattle.lus_tree.specs.declared.place.Sort.TheVariants.{Bool as Flags, Int as Numbers}
use Rattle.lus_tree.specs.Tree.{Name, text_of, Spelled, Expression, Expressions, truth, number, name, negation, minus, pre, arrow, binary, choice, sampled, merged, call, condact, mode_name, no_more, more, Variable, Component}
use Rattle.lus_tree.specs.Reason.{Refused, not_constant, not_linear, name_unknown, type_clash, arity_clash, clock_clash, mode_unknown}
use Rattle.lus_meaning.specs.Value.{Value, has_sort}
use Rattle.lus_meaning.specs.Frame.{empty_frame}
use Rattle.lus_meaning.specs.Scene.{Clock, base, sampled_by, plain, while_true, Scene, Site, Instance, clock_of, component_of, constants_of, call_instance, instance_called}
use Rattle.lus_meaning.specs.Contract.{terms}
use Rattle.lus_meaning.specs.Program.{listed, site_in}
use Rattle.lus_meaning.specs.Run.{Takes, sort_of, sort_of_name, output_sort, first_sort}
use Rattle.lus_meaning.specs.Occurrences.{occurrences, on_clock, Standing, within, before, moved, Occurrence, occurs, begin}
use Rattle.lus_meaning.specs.Scope.{is_constant, Scope, is_known, is_constant_name, sort_of_entry, type_of, node_named, only_sort}
use Rattle.lus_meaning.specs.Faults.{fault, if_so, differ}
use Rattle.lus_meaning.specs.ExpressionFaults.{hinders_constant, used, used_as_clock, needs_sort, agree, operator_faults, call_faults, default_faults, arguments_fit, sorts_fit, not_allowed, has_one, mode_is_known, form_faults, weight_faults, part_faults}
use Rattle.lus_meaning.specs.ClockFaults.{same_clock, name_clock, or_else, clock_in, clock_among, is_other, stands_on, all_on, clock_form_faults}
use Rattle.lus_meaning.proofs.EachPart.{Each, EachAmong, each_part, each_of_both}
use Rattle.lus_meaning.proofs.Flexible.{constant_flexible}
use Rattle.lus_meaning.proofs.NamesOnce.{not_nil, no_parts, not_so}
use Rattle.lus_meaning.proofs.RulesFit.{none_mapped, KnownName, fixed_name, stream_name}
use Rattle.lus_meaning.proofs.Unique.{same_bytes}
use Rattle.rule_laws.specs.Laws.{HasItsPlace}
use Rattle.rule_laws.specs.Fitting.{is_fixed, HasConstant, sorts_of, NameFits, IsFlagOn, NotEmpty, OnBase, CallFits, has_key, Fits, FitsThere}
use Rattle.lus_meaning.proofs.Lists.{or_left, or_true}
use Rattle.rule_laws.proofs.Parts.{nested}
use Rattle.rule_laws.proofs.Texts.{no_positions}
use Rattle.rule_laws.proofs.Truths.{not_false, first_false, second_false, both_true, same_some}

-- ---- types and clocks that do not differ

pub same_sorts : (q r : Sort) → differ (Some q) (Some r) ≡ false → q ≡ r
same_sorts Flags Flags e = refl
same_sorts Numbers Numbers e = refl
same_sorts Flags Numbers e = absurd (false≢true (sym e))
same_sorts Numbers Flags e = absurd (false≢true (sym e))

same_truth : (a b : Bool) → beq a b ≡ true → a ≡ b
same_truth true true e = refl
same_truth false false e = refl
same_truth true false e = absurd (false≢true e)
same_truth false true e = absurd (false≢true e)

pub same_clocks : (c d : Clock) → same_clock c d ≡ true → c ≡ d
same_clocks base base e = refl
same_clocks base (sampled_by b x) e = absurd (false≢true e)
same_clocks (sampled_by b x) base e = absurd (false≢true e)
same_clocks (sampled_by b x) (sampled_by c y) e =
    let h : (beq b c ≡ true) × (bytes_eq x y ≡ true) = both_true (beq b c) (bytes_eq x y) e in
    rw (same_truth b c h.0, same_bytes x y h.1) refl

pub is_that : (c d : Clock) → is_other c (Some d) ≡ false → c ≡ d
is_that c d e = same_clocks c d (not_false (same_clock c d) e)

first_none : (a b : Option Clock) → or_else a b ≡ None → a ≡ None
first_none None b e = refl
first_none (Some c) b e = absurd (false≢true (sym (ap is_some e)))

second_none : (a b : Option Clock) → or_else a b ≡ None → b ≡ None
second_none None b e = e
second_none (Some c) b e = absurd (false≢true (sym (ap is_some e)))

-- ---- single faults that are not there

pub no_clash : (s : Scope) (q r : Sort) (e : Expression) → needs_sort s q e ≡ [] → type_of s e ≡ Some r → r ≡ q
no_clash s q r e h t =
    sym (same_sorts q r (subst (λ k. differ (Some q) k ≡ false) t (not_so (differ (Some q) (type_of s e)) type_clash (begin e) h)))

no_dispute : (s : Scope) (q r : Sort) (a b : Expression) → agree s a b ≡ [] → type_of s a ≡ Some q → type_of s b ≡ Some r → r ≡ q
no_dispute s q r a b h t u = sym (same_sorts q r (subst (λ k. differ (Some q) k ≡ false) u
    (subst (λ k. differ k (type_of s b) ≡ false) t (not_so (differ (type_of s a) (type_of s b)) type_clash (begin b) h))))

pub is_known_here : (s : Scope) (x : Name) (at : Pos) → used s x at ≡ [] → is_known s x ≡ true
is_known_here s x at e = not_false (is_known s x) (not_so (not (is_known s x)) name_unknown at e)

pub stands_there : (n : Component) (c : Clock) (e : Expression) → stands_on n c e ≡ [] → is_other c (clock_in n e) ≡ false
stands_there n c e h = not_so (is_other c (clock_in n e)) clock_clash (begin e) h

-- ---- operands of one clock

first_on : (n : Component) (d : Clock) (a : Expression) (as_ : List Expression) → all_on n (Some d) (a ∷ as_) ≡ [] → is_other d (clock_in n a) ≡ false
first_on n d a as_ h = stands_there n d a (no_parts (stands_on n d a) _ h).0

rest_on : (n : Component) (o : Option Clock) (a : Expression) (as_ : List Expression) → all_on n o (a ∷ as_) ≡ [] → all_on n o as_ ≡ []
rest_on n None a as_ h = refl
rest_on n (Some c) a as_ h = (no_parts (stands_on n c a) _ h).1

-- an operand of what stands on a clock stands on it
operand : (n : Component) (c : Clock) (o : Option Clock) (a : Expression) (as_ : List Expression) → is_other c o ≡ false
    → all_on n o (a ∷ as_) ≡ [] → (o ≡ None → clock_in n a ≡ None) → is_other c (clock_in n a) ≡ false
operand n c None a as_ e h g = rw (g refl) refl
operand n c (Some d) a as_ e h g = rw (is_that c d e) (first_on n d a as_ h)

-- and so does an argument of a call on that clock
argument : (n : Component) (c : Clock) (o : Option Clock) (a : Expression) (as_ : List Expression) → c ≡ unwrap_or o base
    → all_on n o (a ∷ as_) ≡ [] → (o ≡ None → clock_in n a ≡ None) → is_other c (clock_in n a) ≡ false
argument n c None a as_ e h g = rw (g refl) refl
argument n c (Some d) a as_ e h g = rw e (first_on n d a as_ h)

-- ---- what an operator asks

abbrev Asked : Operator → Sort → Sort → Type 0
Asked o q r = Takes o q × (r ≡ q)

sum_asks : (s : Scope) (a b : Expression) (q r : Sort) → needs_sort s Numbers a ++ needs_sort s Numbers b ≡ [] → type_of s a ≡ Some q
    → type_of s b ≡ Some r → (q ≡ Numbers) × (r ≡ q)
sum_asks s a b q r h t u =
    let e : q ≡ Numbers = no_clash s Numbers q a (no_parts (needs_sort s Numbers a) _ h).0 t in
    (e, no_clash s Numbers r b (no_parts (needs_sort s Numbers a) _ h).1 u ∙ sym e)

flag_asks : (s : Scope) (a b : Expression) (q r : Sort) → needs_sort s Flags a ++ needs_sort s Flags b ≡ [] → type_of s a ≡ Some q
    → type_of s b ≡ Some r → (q ≡ Flags) × (r ≡ q)
flag_asks s a b q r h t u =
    let e : q ≡ Flags = no_clash s Flags q a (no_parts (needs_sort s Flags a) _ h).0 t in
    (e, no_clash s Flags r b (no_parts (needs_sort s Flags a) _ h).1 u ∙ sym e)

operator_asks : (s : Scope) (at : Pos) (o : Operator) (a b : Expression) (q r : Sort) → operator_faults s at o a b ≡ []
    → type_of s a ≡ Some q → type_of s b ≡ Some r → Asked o q r
operator_asks s at Implies a b q r h t u = flag_asks s a b q r h t u
operator_asks s at Or a b q r h t u = flag_asks s a b q r h t u
operator_asks s at Xor a b q r h t u = flag_asks s a b q r h t u
operator_asks s at And a b q r h t u = flag_asks s a b q r h t u
operator_asks s at Equal a b q r h t u = (tt, no_dispute s q r a b h t u)
operator_asks s at Differs a b q r h t u = (tt, no_dispute s q r a b h t u)
operator_asks s at Less a b q r h t u = sum_asks s a b q r h t u
operator_asks s at AtMost a b q r h t u = sum_asks s a b q r h t u
operator_asks s at AtLeast a b q r h t u = sum_asks s a b q r h t u
operator_asks s at More a b q r h t u = sum_asks s a b q r h t u
operator_asks s at Add a b q r h t u = sum_asks s a b q r h t u
operator_asks s at Sub a b q r h t u = sum_asks s a b q r h t u
operator_asks s at Mul a b q r h t u = sum_asks s a b q r (no_parts _ _ h).0 t u
operator_asks s at Div a b q r h t u = sum_asks s a b q r (no_parts _ _ (no_parts _ _ h).0).0 t u
operator_asks s at Mod a b q r h t u = sum_asks s a b q r (no_parts _ _ (no_parts _ _ h).0).0 t u

-- ---- outputs

one_output : (vs : List Variable) → has_one vs ≡ true → only_sort vs ≡ Some (first_sort vs)
one_output [] e = absurd (false≢true e)
one_output (x ∷ []) e = refl
one_output (x ∷ y ∷ zs) e = absurd (not_one (length zs) (eqb-true (length (x ∷ y ∷ zs)) 1 e))
  where
    not_one : (k : ℕ) → suc (suc k) ≡ 1 → ⊥
    not_one k i = omega arith

pub some_output : (vs : List Variable) → has_one vs ≡ true → NotEmpty vs
some_output [] e = absurd (false≢true e)
some_output (x ∷ xs) e = tt

-- the parts of a call's faults
pub record CallRight (sc : Scope) (w : Bool) (f : Spelled) (as_ : List Expression) (m : Component) : Type 0 where
  pub count : (length m.inputs == length as_) ≡ true
  pub arguments : arguments_fit sc m.inputs as_ ≡ []
  pub outputs : (not w && not (has_one m.outputs)) ≡ false

pub call_right : (sc : Scope) (w : Bool) (f : Spelled) (as_ : List Expression) (m : Component) → call_faults sc w f as_ (Some m) ≡ [] → CallRight sc w f as_ m
call_right sc w f as_ m h =
    let counted : Bool = length m.inputs == length as_ in
    let last : List Refused = if_so (not w && not (has_one m.outputs)) arity_clash f.at in
    let two = no_parts (if_so (not counted) arity_clash f.at ++ arguments_fit sc m.inputs as_) last h in
    let three = no_parts (if_so (not counted) arity_clash f.at) (arguments_fit sc m.inputs as_) two.0 in
    record {
      count = not_false counted (not_so (not counted) arity_clash f.at three.0);
      arguments = three.1;
      outputs = not_so (not w && not (has_one m.outputs)) arity_clash f.at two.1;
    }

-- ---- expressions

-- a scene of the instance
abbrev pub still : Instance → Scene
still i = record { place = i; frame = empty_frame; beat = λ t. true; modes = [] }

-- what a call occurrence has in its instance
pub record SiteFits (p : Name → Option Component) (i : Instance) (s : Site) : Type 0 where
  pub place : HasItsPlace i (p s.callee) s
  pub outputs : NotEmpty (component_of (call_instance i s.number)).outputs
  pub on_base : OnBase (component_of (call_instance i s.number)).outputs

-- a scope that says of names and modes what the instance says
pub record Shown (sc : Scope) (i : Instance) : Type 0 where
  pub owner : sc.owner ≡ component_of i
  pub names : (x : Name) → is_known sc x ≡ true → (sort_of_entry sc x ≡ Some (sort_of_name i x)) × KnownName sc (still i) x
  pub apart : (x : Name) → is_constant_name sc x ≡ true → name_clock (component_of i) x ≡ None
  pub fixed : (x : Name) → is_constant_name sc x ≡ true → is_some (lookup (bytes_eq x) (constants_of i)) ≡ true
  pub modes : (d : Option Spelled) (m : Spelled) → mode_is_known sc d m ≡ true
      → has_key (option_to_list (option_map text_of d), m.text) (terms i).modes

-- what the types alone ask of an expression: of a name, of both ways, and of calls
abbrev pub HasSortOfName : Instance → Option Value → Name → Type 0
HasSortOfName i None x = is_some (name_clock (component_of i) x) ≡ true
HasSortOfName i (Some v) x = has_sort (sort_of_name i x) v ≡ true

abbrev pub TypeFits : Instance → Standing → Expression → Type 0
TypeFits i t (name p x) = HasSortOfName i (lookup (bytes_eq x) (constants_of i)) x
TypeFits i t (arrow p k a b) = sort_of i b ≡ sort_of i a
TypeFits i t (choice p a b d) = sort_of i d ≡ sort_of i b
TypeFits i t (merged p x a b) = sort_of i b ≡ sort_of i a
TypeFits i t (call p k f as_) =
    CallFits i record { number = k; callee = f.text; clock = t.clock; arguments = listed as_; defaults = []; manner = plain }
TypeFits i t (condact p k a f as_ ds) =
    CallFits i record { number = k; callee = f.text; clock = t.clock; arguments = listed as_; defaults = listed ds; manner = while_true a }
    × (map (sort_of i) (listed ds) ≡ sorts_of (component_of (call_instance i k)).outputs)
TypeFits i t _ = Unit {0}

abbrev pub TypeFitsThere : Instance → Occurrence → Type 0
TypeFitsThere i o = TypeFits i o.standing o.expression

-- a part without faults of types, and one without faults of clocks too
pub record TypedPart (sc : Scope) (i : Instance) (o : Occurrence) : Type 0 where
  pub types : part_faults sc o ≡ []
  pub sites : AllByRecursion (SiteFits (node_named sc.program) i) (site_in o.standing o.expression)

pub record GoodPart (sc : Scope) (i : Instance) (o : Occurrence) : Type 0 where
  pub typed : TypedPart sc i o
  pub clocks : clock_form_faults (component_of i) o.expression ≡ []

module _ (sc : Scope) (i : Instance) (shown : Shown sc i) where
  abbrev here : Component
  here = component_of i

  abbrev pub Good : Standing → Expression → Type 0
  Good = Each (GoodPart sc i) here

  abbrev pub GoodAmong : Standing → Expressions → Type 0
  GoodAmong = EachAmong (GoodPart sc i) here

  abbrev pub IsTyped : Standing → Expression → Type 0
  IsTyped = Each (TypedPart sc i) here

  abbrev pub AreTyped : Standing → Expressions → Type 0
  AreTyped = EachAmong (TypedPart sc i) here

  pub parts_typed : (t : Standing) (e : Expression) → Good t e → IsTyped t e
  parts_typed t e g = each_of_both (GoodPart sc i) (GoodPart sc i) (TypedPart sc i) (λ o a b. a.typed) here t e g g

  abbrev pub Stands : Clock → Expression → Type 0
  Stands c e = is_other c (clock_in here e) ≡ false

  abbrev StandsThere : Occurrence → Type 0
  StandsThere o = Stands o.standing.clock o.expression

  form_right : (o : Occurrence) → TypedPart sc i o → form_faults sc o.standing.whole_side o.expression ≡ []
  form_right o g = (no_parts (form_faults sc o.standing.whole_side o.expression) (weight_faults sc o.expression) g.types).0

  -- ---- calls

  abbrev pub callee : ℕ → Component
  callee k = component_of (call_instance i k)

  same_callee : (s : Site) → SiteFits (node_named sc.program) i s → component_of (instance_called i s.callee) ≡ callee s.number
  same_callee s h = same_some (sym h.place.by_name ∙ h.place.callee)

  pub no_call_faults : (w : Bool) (f : Spelled) (k : ℕ) (as_ : List Expression) (o : Option Component) → o ≡ Some (callee k)
      → call_faults sc w f as_ o ≡ [] → call_faults sc w f as_ (Some (callee k)) ≡ []
  no_call_faults w f k as_ o e h = subst (λ q. call_faults sc w f as_ q ≡ []) e h

  one_needed : (f : Spelled) (m : Component) (as_ : List Expression) → call_faults sc false f as_ (Some m) ≡ [] → has_one m.outputs ≡ true
  one_needed f m as_ h = not_false (has_one m.outputs) (call_right sc false f as_ m h).outputs

  called_type : (s : Site) (f : Spelled) (as_ : List Expression) → s.callee ≡ f.text → SiteFits (node_named sc.program) i s
      → call_faults sc false f as_ (node_named sc.program f.text) ≡ []
      → option_and_then (λ n. only_sort n.outputs) (node_named sc.program f.text) ≡ Some (output_sort (instance_called i f.text))
  called_type s f as_ e g h =
      let m : node_named sc.program f.text ≡ Some (callee s.number) =
      subst (λ x. node_named sc.program x ≡ Some (callee s.number)) e g.place.callee in
      let one : has_one (callee s.number).outputs ≡ true = one_needed f (callee s.number) as_
      (no_call_faults false f s.number as_ (node_named sc.program f.text) m h) in
      let same : component_of (instance_called i f.text) ≡ callee s.number =
      subst (λ x. component_of (instance_called i x) ≡ callee s.number) e (same_callee s g) in
      ap (option_and_then (λ (n : Component). only_sort n.outputs)) m ∙ one_output (callee s.number).outputs one
      ∙ ap (λ (n : Component). Some (first_sort n.outputs)) (sym same)

  -- the parts of a condact's faults
  pub record HeldRight (t : Standing) (a : Expression) (f : Spelled) (as_ ds : Expressions) : Type 0 where
    pub condition : needs_sort sc Flags a ≡ []
    pub call : call_faults sc t.whole_side f (listed as_) (node_named sc.program f.text) ≡ []
    pub defaults : default_faults sc f (listed ds) (node_named sc.program f.text) ≡ []
    pub constant : flat_map (not_allowed sc) (listed ds) ≡ []

  pub held_right : (t : Standing) (a : Expression) (f : Spelled) (as_ ds : Expressions) (w : Bool) → ((needs_sort sc Flags a
      ++ call_faults sc t.whole_side f (listed as_) (node_named sc.program f.text))
      ++ default_faults sc f (listed ds) (node_named sc.program f.text)) ++ flat_map (not_allowed sc) (listed ds) ≡ [] → HeldRight t a f as_ ds
  held_right t a f as_ ds w h =
      let three = no_parts ((needs_sort sc Flags a ++ call_faults sc t.whole_side f (listed as_) (node_named sc.program f.text))
      ++ default_faults sc f (listed ds) (node_named sc.program f.text)) (flat_map (not_allowed sc) (listed ds)) h in
      let two = no_parts (needs_sort sc Flags a ++ call_faults sc t.whole_side f (listed as_) (node_named sc.program f.text))
      (default_faults sc f (listed ds) (node_named sc.program f.text)) three.0 in
      let one = no_parts (needs_sort sc Flags a) (call_faults sc t.whole_side f (listed as_) (node_named sc.program f.text)) two.0 in
      record { condition = one.0; call = one.1; defaults = two.1; constant = three.1 }

  -- ---- types

  -- it has the type that its value is to have
  pub typed : (e : Expression) (t : Standing) → t.whole_side ≡ false → IsTyped t e → type_of sc e ≡ Some (sort_of i e)
  typed (truth p b) t w g = refl
  typed (number p n) t w g = refl
  typed (name p x) t w g = (shown.names x (is_known_here sc x p.at (form_right (occurs t (name p x)) g))).0
  typed (negation p a) t w g = refl
  typed (minus p a) t w g = refl
  typed (pre p k a) t w g = typed a (before t) refl g.1
  typed (arrow p k a b) t w g = typed a (within t) refl g.1
  typed (binary p o a b) t w g = refl
  typed (choice p a b d) t w g = typed b (within t) refl g.2
  typed (sampled p a b x) t w g = typed a (moved (clock_of here x.text) t) refl g.1
  typed (merged p x a b) t w g = typed a (moved (sampled_by true x.text) t) refl g.1
  typed (call p k f as_) t w g = called_type _ f (listed as_) refl g.0.sites.0
      (subst (λ u. call_faults sc u f (listed as_) (node_named sc.program f.text) ≡ []) w (form_right (occurs t (call p k f as_)) g.0))
  typed (condact p k a f as_ ds) t w g = called_type _ f (listed as_) refl g.0.sites.0
      (subst (λ u. call_faults sc u f (listed as_) (node_named sc.program f.text) ≡ []) w
      (held_right t a f as_ ds true (form_right (occurs t (condact p k a f as_ ds)) g.0)).call)
  typed (mode_name p c m) t w g = refl

  pub needed : (e : Expression) (t : Standing) (q : Sort) → t.whole_side ≡ false → IsTyped t e → needs_sort sc q e ≡ [] → sort_of i e ≡ q
  needed e t q w g h = no_clash sc q (sort_of i e) e h (typed e t w g)

  one_sort : (a b : Expression) (t u : Standing) → t.whole_side ≡ false → u.whole_side ≡ false → IsTyped t a → IsTyped u b → agree sc a b ≡ []
      → sort_of i b ≡ sort_of i a
  one_sort a b t u w z g j h = no_dispute sc (sort_of i a) (sort_of i b) a b h (typed a t w g) (typed b u z j)

  -- expressions of the types of these variables
  sorts_right : (vs : List Variable) (as_ : Expressions) (t : Standing) → t.whole_side ≡ false → AreTyped t as_
      → length vs ≡ length (listed as_) → sorts_fit sc vs (listed as_) ≡ [] → map (sort_of i) (listed as_) ≡ sorts_of vs
  sorts_right [] no_more t w g l h = refl
  sorts_right [] (more a as_) t w g l h = absurd (omega arith)
  sorts_right (v ∷ vs) no_more t w g l h = absurd (omega arith)
  sorts_right (v ∷ vs) (more a as_) t w g l h =
      let q = no_parts (needs_sort sc v.sort a) (sorts_fit sc vs (listed as_)) h in
      rw (needed a t v.sort w g.0 q.0, sorts_right vs as_ t w g.1 (omega arith) q.1) refl

  counted_right : (vs : List Variable) (as_ : Expressions) (t : Standing) → t.whole_side ≡ false → AreTyped t as_
      → (length vs == length (listed as_)) ≡ true → arguments_fit sc vs (listed as_) ≡ [] → map (sort_of i) (listed as_) ≡ sorts_of vs
  counted_right vs as_ t w g e h = sorts_right vs as_ t w g (eqb-true (length vs) (length (listed as_)) e)
      (subst (λ b. cond b (sorts_fit sc vs (listed as_)) [] ≡ []) e h)

  call_fits : (s : Site) (f : Spelled) (as_ : Expressions) (t : Standing) (w : Bool) → s.callee ≡ f.text → s.arguments ≡ listed as_
      → t.whole_side ≡ false → AreTyped t as_ → SiteFits (node_named sc.program) i s
      → call_faults sc w f (listed as_) (node_named sc.program f.text) ≡ [] → CallFits i s
  call_fits s f as_ t w e d z g fit h =
      let m : node_named sc.program f.text ≡ Some (callee s.number) =
      subst (λ x. node_named sc.program x ≡ Some (callee s.number)) e fit.place.callee in
      let right : CallRight sc w f (listed as_) (callee s.number) = call_right sc w f (listed as_) (callee s.number)
      (no_call_faults w f s.number (listed as_) (node_named sc.program f.text) m h) in
      let sorts : map (sort_of i) (listed as_) ≡ sorts_of (callee s.number).inputs =
      counted_right (callee s.number).inputs as_ t z g right.count right.arguments in
      record {
        number = fit.place.number;
        site = fit.place.site;
        callee = same_callee s fit;
        arguments = ap (map (sort_of i)) d ∙ sorts;
        outputs = fit.outputs;
        on_base = fit.on_base;
      }

  defaults_fit : (s : Site) (f : Spelled) (ds : Expressions) (t : Standing) → s.callee ≡ f.text → t.whole_side ≡ false → AreTyped t ds
      → SiteFits (node_named sc.program) i s → default_faults sc f (listed ds) (node_named sc.program f.text) ≡ []
      → map (sort_of i) (listed ds) ≡ sorts_of (callee s.number).outputs
  defaults_fit s f ds t e z g fit h =
      let m : node_named sc.program f.text ≡ Some (callee s.number) =
      subst (λ x. node_named sc.program x ≡ Some (callee s.number)) e fit.place.callee in
      let parts : default_faults sc f (listed ds) (Some (callee s.number)) ≡ [] = subst (λ q. default_faults sc f (listed ds) q ≡ []) m h in
      let counted : Bool = length (callee s.number).outputs == length (listed ds) in
      let two = no_parts (if_so (not counted) arity_clash f.at) (arguments_fit sc (callee s.number).outputs (listed ds)) parts in
      counted_right (callee s.number).outputs ds t z g (not_false counted (not_so (not counted) arity_clash f.at two.0)) two.1

  -- ---- clocks

  abbrev of_two : Expression → Expression → Option Clock
  of_two a b = or_else (clock_in here a) (clock_in here b)

  on_two : (c : Clock) (a b : Expression) → is_other c (of_two a b) ≡ false → all_on here (of_two a b) (a ∷ b ∷ []) ≡ [] → Stands c a × Stands c b
  on_two c a b e h = (
    operand here c (of_two a b) a (b ∷ []) e h (first_none (clock_in here a) (clock_in here b)),
    operand here c (of_two a b) b [] e (rest_on here (of_two a b) a (b ∷ []) h) (second_none (clock_in here a) (clock_in here b)),
  )

  abbrev of_three : Expression → Expression → Expression → Option Clock
  of_three a b d = or_else (clock_in here a) (of_two b d)

  on_three : (c : Clock) (a b d : Expression) → is_other c (of_three a b d) ≡ false → all_on here (of_three a b d) (a ∷ b ∷ d ∷ []) ≡ []
      → Stands c a × Stands c b × Stands c d
  on_three c a b d e h = (
    operand here c (of_three a b d) a (b ∷ d ∷ []) e h (first_none (clock_in here a) (of_two b d)),
    operand here c (of_three a b d) b (d ∷ []) e (rest_on here (of_three a b d) a (b ∷ d ∷ []) h)
        (λ j. first_none (clock_in here b) (clock_in here d) (second_none (clock_in here a) (of_two b d) j)),
    operand here c (of_three a b d) d [] e
        (rest_on here (of_three a b d) b (d ∷ []) (rest_on here (of_three a b d) a (b ∷ d ∷ []) h))
        (λ j. second_none (clock_in here b) (clock_in here d) (second_none (clock_in here a) (of_two b d) j)),
  )

  mutual
    each_stands : (e : Expression) (t : Standing) → Good t e → Stands t.clock e → Each StandsThere here t e
    each_stands (truth p b) t g h = h
    each_stands (number p n) t g h = h
    each_stands (name p x) t g h = h
    each_stands (negation p a) t g h = (h, each_stands a (within t) g.1 h)
    each_stands (minus p a) t g h = (h, each_stands a (within t) g.1 h)
    each_stands (pre p k a) t g h = (h, each_stands a (before t) g.1 h)
    each_stands (arrow p k a b) t g h =
        let o : Stands t.clock a × Stands t.clock b = on_two t.clock a b h g.0.clocks in
        (h, each_stands a (within t) g.1 o.0, each_stands b (within t) g.2 o.1)
    each_stands (binary p x a b) t g h =
        let o : Stands t.clock a × Stands t.clock b = on_two t.clock a b h g.0.clocks in
        (h, each_stands a (within t) g.1 o.0, each_stands b (within t) g.2 o.1)
    each_stands (choice p a b d) t g h =
        let o : Stands t.clock a × Stands t.clock b × Stands t.clock d = on_three t.clock a b d h g.0.clocks in
        (h, each_stands a (within t) g.1 o.0, each_stands b (within t) g.2 o.1, each_stands d (within t) g.3 o.2)
    each_stands (sampled p a b x) t g h =
        (h, each_stands a (moved (clock_of here x.text) t) g.1 (stands_there here (clock_of here x.text) a g.0.clocks))
    each_stands (merged p x a b) t g h =
        let o : (stands_on here (sampled_by true x.text) a ≡ []) × (stands_on here (sampled_by false x.text) b ≡ []) = no_parts
        (stands_on here (sampled_by true x.text) a) (stands_on here (sampled_by false x.text) b) g.0.clocks in (
          h,
          each_stands a (moved (sampled_by true x.text) t) g.1 (stands_there here (sampled_by true x.text) a o.0),
          each_stands b (moved (sampled_by false x.text) t) g.2 (stands_there here (sampled_by false x.text) b o.1),
        )
    each_stands (call p k f as_) t g h =
        (h, each_argument (clock_among here as_) as_ (within t) g.1 (is_that t.clock (unwrap_or (clock_among here as_) base) h) g.0.clocks (λ j. j))
    each_stands (condact p k a f as_ ds) t g h =
        let c : t.clock ≡ unwrap_or (clock_among here as_) base = is_that t.clock (unwrap_or (clock_among here as_) base) h in
        let q = no_parts (all_on here (clock_among here as_) (listed as_)) (stands_on here (unwrap_or (clock_among here as_) base) a) g.0.clocks in
        let r : HeldRight t a f as_ ds = held_right t a f as_ ds true (form_right (occurs t (condact p k a f as_ ds)) g.0.typed) in (
          h,
          each_stands a (within t) g.1 (subst (λ d. is_other d (clock_in here a) ≡ false) (sym c)
              (stands_there here (unwrap_or (clock_among here as_) base) a q.1)),
          each_argument (clock_among here as_) as_ (within t) g.2 c q.0 (λ j. j),
          each_default ds (within t) g.3 r.constant,
        )
    each_stands (mode_name p c m) t g h = h

    each_argument : (o : Option Clock) (as_ : Expressions) (t : Standing) → GoodAmong t as_ → t.clock ≡ unwrap_or o base
        → all_on here o (listed as_) ≡ [] → (o ≡ None → clock_among here as_ ≡ None) → EachAmong StandsThere here t as_
    each_argument o no_more t g c h j = tt
    each_argument o (more a as_) t g c h j = (
      each_stands a t g.0 (argument here t.clock o a (listed as_) c h
          (λ e. first_none (clock_in here a) (clock_among here as_) (j e))),
      each_argument o as_ t g.1 c (rest_on here o a (listed as_) h) (λ e. second_none (clock_in here a) (clock_among here as_) (j e)),
    )

    each_default : (ds : Expressions) (t : Standing) → GoodAmong t ds → flat_map (not_allowed sc) (listed ds) ≡ [] → EachAmong StandsThere here t ds
    each_default no_more t g h = tt
    each_default (more d ds) t g h =
        let q = no_parts (not_allowed sc d) (flat_map (not_allowed sc) (listed ds)) h in (
          each_stands d t g.0 (subst (λ k. is_other t.clock k ≡ false) (sym (constant_flexible sc here shown.apart shown.owner d q.0)) refl),
          each_default ds t g.1 q.1,
        )

  -- ---- constants

  -- a constant by its form is one in the instance
  fixed_here : (e : Expression) → is_constant sc e ≡ true → is_fixed (constants_of i) e ≡ true
  fixed_here (truth p b) h = refl
  fixed_here (number p n) h = refl
  fixed_here (name p x) h = shown.fixed x h
  fixed_here (negation p a) h = fixed_here a h
  fixed_here (minus p a) h = fixed_here a h
  fixed_here (binary p o a b) h =
      let q = both_true (is_constant sc a) (is_constant sc b) h in rw (fixed_here a q.0, fixed_here b q.1) refl
  fixed_here (choice p a b d) h =
      let q = both_true (is_constant sc a) (is_constant sc b && is_constant sc d) h in
      let r = both_true (is_constant sc b) (is_constant sc d) q.1 in rw (fixed_here a q.0, fixed_here b r.0, fixed_here d r.1) refl
  fixed_here _ h = absurd (false≢true h)

  abbrev Allowed : Occurrence → Type 0
  Allowed o = hinders_constant sc o.expression ≡ []

  is_constant_here : (x : Name) (at : Pos) → cond (is_constant_name sc x) [] (at ∷ []) ≡ [] → is_constant_name sc x ≡ true
  is_constant_here x at e = go (is_constant_name sc x) e
    where
      go : (b : Bool) → cond b [] (at ∷ []) ≡ [] → b ≡ true
      go true h = refl
      go false h = not_nil at [] h

  allowed_here : (t : Standing) (e : Expression) → Each Allowed sc.owner t e → is_constant sc e ≡ true
  allowed_here t (truth p b) a = refl
  allowed_here t (number p n) a = refl
  allowed_here t (name p x) a = is_constant_here x p.at a
  allowed_here t (negation p e) a = allowed_here (within t) e a.1
  allowed_here t (minus p e) a = allowed_here (within t) e a.1
  allowed_here t (pre p k e) a = not_nil _ _ a.0
  allowed_here t (arrow p k c d) a = not_nil _ _ a.0
  allowed_here t (binary p o c d) a = rw (allowed_here (within t) c a.1, allowed_here (within t) d a.2) refl
  allowed_here t (choice p c d e) a =
      rw (allowed_here (within t) c a.1, allowed_here (within t) d a.2, allowed_here (within t) e a.3) refl
  allowed_here t (sampled p c b x) a = not_nil _ _ a.0
  allowed_here t (merged p x c d) a = not_nil _ _ a.0
  allowed_here t (call p k f as_) a = not_nil _ _ a.0
  allowed_here t (condact p k b f as_ ds) a = not_nil _ _ a.0
  allowed_here t (mode_name p c m) a = not_nil _ _ a

  constant_here : (e : Expression) → not_allowed sc e ≡ [] → is_fixed (constants_of i) e ≡ true
  constant_here e h = fixed_here e (allowed_here (on_clock base) e (each_part Allowed sc.owner (on_clock base) e
      (none_mapped (λ o. hinders_constant sc o.expression) (occurrences sc.owner (on_clock base) e) (no_positions (fault not_constant) _ h))))

  constants_here : (ds : List Expression) → flat_map (not_allowed sc) ds ≡ [] → AllByRecursion (λ d. is_fixed (constants_of i) d ≡ true) ds
  constants_here [] h = tt
  constants_here (d ∷ ds) h =
      let q = no_parts (not_allowed sc d) (flat_map (not_allowed sc) ds) h in (constant_here d q.0, constants_here ds q.1)

  either_fixed : (a b : Expression) → (is_constant sc a || is_constant sc b) ≡ true → (is_fixed (constants_of i) a || is_fixed (constants_of i) b) ≡ true
  either_fixed a b h = go (is_constant sc a) refl h
    where
      go : (k : Bool) → is_constant sc a ≡ k → (k || is_constant sc b) ≡ true → (is_fixed (constants_of i) a || is_fixed (constants_of i) b) ≡ true
      go true e g = or_left (is_fixed (constants_of i) a) (is_fixed (constants_of i) b) (fixed_here a e)
      go false e g = or_true (is_fixed (constants_of i) a) (is_fixed (constants_of i) b) (fixed_here b g)

  constant_asked : (at : Pos) (o : Operator) (a b : Expression) → operator_faults sc at o a b ≡ [] → HasConstant (constants_of i) o a b
  constant_asked at Mul a b h = either_fixed a b (not_false (is_constant sc a || is_constant sc b)
      (not_so (not (is_constant sc a || is_constant sc b)) not_linear at (no_parts _ _ h).1))
  constant_asked at Div a b h = constant_here b (no_parts _ _ (no_parts _ _ h).0).1
  constant_asked at Mod a b h = constant_here b (no_parts _ _ (no_parts _ _ h).0).1
  constant_asked at Implies a b h = tt
  constant_asked at Or a b h = tt
  constant_asked at Xor a b h = tt
  constant_asked at And a b h = tt
  constant_asked at Equal a b h = tt
  constant_asked at Differs a b h = tt
  constant_asked at Less a b h = tt
  constant_asked at AtMost a b h = tt
  constant_asked at AtLeast a b h = tt
  constant_asked at More a b h = tt
  constant_asked at Add a b h = tt
  constant_asked at Sub a b h = tt

  -- ---- names

  name_fits : (c : Clock) (x : Name) → KnownName sc (still i) x → is_other c (name_clock here x) ≡ false → NameFits i
      (lookup (bytes_eq x) (constants_of i)) c x
  name_fits c x (fixed_name v e h k) o = subst (λ l. NameFits i l c x) (sym e) h
  name_fits c x (stream_name e k) o = subst (λ l. NameFits i l c x) (sym e)
      (k ∙ ap (λ d. Some d) (sym (is_that c (clock_of here x) (subst (λ l. is_other c l ≡ false) k o))))

  flag_stream : (x : Name) → KnownName sc (still i) x → is_constant_name sc x ≡ false → sort_of_name i x ≡ Flags → IsFlagOn i (clock_of here x) x
  flag_stream x (fixed_name v e h k) n s = absurd (false≢true (sym n ∙ k))
  flag_stream x (stream_name e k) n s = record { stream = e; clock = k; sort = s }

  -- a word behind `when` or of a merge is a stream of truth values
  pub clock_word : (x : Spelled) → used_as_clock sc x ≡ [] → IsFlagOn i (clock_of here x.text) x.text
  clock_word x h =
      let u : (not (is_known sc x.text) || is_constant_name sc x.text) ≡ false = not_so
      (not (is_known sc x.text) || is_constant_name sc x.text) name_unknown x.at (no_parts _ _ h).0 in
      let k : (sort_of_entry sc x.text ≡ Some (sort_of_name i x.text)) × KnownName sc (still i) x.text = shown.names x.text
      (not_false (is_known sc x.text) (first_false (not (is_known sc x.text)) (is_constant_name sc x.text) u)) in
      flag_stream x.text k.1 (second_false (not (is_known sc x.text)) (is_constant_name sc x.text) u)
      (sym (same_sorts Flags (sort_of_name i x.text) (subst (λ q. differ (Some Flags) q ≡ false) k.0
      (not_so (differ (Some Flags) (sort_of_entry sc x.text)) type_clash x.at (no_parts _ _ h).1))))

  -- ---- all forms

  -- what is known is a constant of its type or a declared stream
  name_has_sort : (x : Name) → KnownName sc (still i) x → HasSortOfName i (lookup (bytes_eq x) (constants_of i)) x
  name_has_sort x (fixed_name v e h k) = subst (λ l. HasSortOfName i l x) (sym e) h
  name_has_sort x (stream_name e k) = subst (λ l. HasSortOfName i l x) (sym e) (ap is_some k)

  pub types_fit : (t : Standing) (e : Expression) → IsTyped t e → TypeFits i t e
  types_fit t (truth p b) g = tt
  types_fit t (number p n) g = tt
  types_fit t (name p x) g = name_has_sort x (shown.names x (is_known_here sc x p.at (form_right (occurs t (name p x)) g))).1
  types_fit t (negation p a) g = tt
  types_fit t (minus p a) g = tt
  types_fit t (pre p k a) g = tt
  types_fit t (arrow p k a b) g = one_sort a b (within t) (within t) refl refl g.1 g.2 (form_right (occurs t (arrow p k a b)) g.0)
  types_fit t (binary p x a b) g = tt
  types_fit t (choice p a b d) g = one_sort b d (within t) (within t) refl refl g.2 g.3
      (no_parts (needs_sort sc Flags a) (agree sc b d) (form_right (occurs t (choice p a b d)) g.0)).1
  types_fit t (sampled p a b x) g = tt
  types_fit t (merged p x a b) g = one_sort a b (moved (sampled_by true x.text) t) (moved (sampled_by false x.text) t) refl refl g.1 g.2
      (no_parts (used_as_clock sc x) (agree sc a b) (form_right (occurs t (merged p x a b)) g.0)).1
  types_fit t (call p k f as_) g =
      call_fits _ f as_ (within t) t.whole_side refl refl refl g.1 g.0.sites.0 (form_right (occurs t (call p k f as_)) g.0)
  types_fit t (condact p k a f as_ ds) g =
      let r : HeldRight t a f as_ ds = held_right t a f as_ ds true (form_right (occurs t (condact p k a f as_ ds)) g.0) in (
        call_fits _ f as_ (within t) t.whole_side refl refl refl g.2 g.0.sites.0 r.call,
        defaults_fit _ f ds (within t) refl refl g.3 g.0.sites.0 r.defaults,
      )
  types_fit t (mode_name p c m) g = tt

  pub fits : (t : Standing) (e : Expression) → IsTyped t e → Stands t.clock e → Fits i t e
  fits t (truth p b) g h = tt
  fits t (number p n) g h = tt
  fits t (name p x) g h = name_fits t.clock x (shown.names x (is_known_here sc x p.at (form_right (occurs t (name p x)) g))).1 h
  fits t (negation p a) g h = needed a (within t) Flags refl g.1 (form_right (occurs t (negation p a)) g.0)
  fits t (minus p a) g h = needed a (within t) Numbers refl g.1 (form_right (occurs t (minus p a)) g.0)
  fits t (pre p k a) g h = tt
  fits t (arrow p k a b) g h = types_fit t (arrow p k a b) g
  fits t (binary p x a b) g h =
      let f : operator_faults sc p.at x a b ≡ [] = form_right (occurs t (binary p x a b)) g.0 in
      let q : Asked x (sort_of i a) (sort_of i b) = operator_asks sc p.at x a b (sort_of i a) (sort_of i b) f (typed a (within t) refl g.1)
      (typed b (within t) refl g.2) in
      (q.0, q.1, constant_asked p.at x a b f)
  fits t (choice p a b d) g h =
      let f : needs_sort sc Flags a ≡ [] = (no_parts (needs_sort sc Flags a) (agree sc b d) (form_right (occurs t (choice p a b d)) g.0)).0 in
      (needed a (within t) Flags refl g.1 f, types_fit t (choice p a b d) g)
  fits t (sampled p a b x) g h = (is_that t.clock (sampled_by b x.text) h, clock_word x (form_right (occurs t (sampled p a b x)) g.0))
  fits t (merged p x a b) g h =
      let f : used_as_clock sc x ≡ [] = (no_parts (used_as_clock sc x) (agree sc a b) (form_right (occurs t (merged p x a b)) g.0)).0 in
      (subst (λ c. IsFlagOn i c x.text) (sym (is_that t.clock (clock_of here x.text) h)) (clock_word x f), types_fit t (merged p x a b) g)
  fits t (call p k f as_) g h = types_fit t (call p k f as_) g
  fits t (condact p k a f as_ ds) g h =
      let r : HeldRight t a f as_ ds = held_right t a f as_ ds true (form_right (occurs t (condact p k a f as_ ds)) g.0) in
      let q = types_fit t (condact p k a f as_ ds) g in
      (q.0, needed a (within t) Flags refl g.1 r.condition, q.1, constants_here (listed ds) r.constant)
  fits t (mode_name p c m) g h = (
    is_that t.clock base h,
    shown.modes c m (not_false (mode_is_known sc c m) (not_so (not (mode_is_known sc c m)) mode_unknown m.at
        (form_right (occurs t (mode_name p c m)) g))),
  )

  -- so does each part of it
  pub fit_parts : (t : Standing) (e : Expression) → Good t e → Stands t.clock e → Each (FitsThere i) here t e
  fit_parts t e g h = each_of_both (λ o. IsTyped o.standing o.expression) StandsThere (FitsThere i) (λ o a b. fits o.standing o.expression a b) here t e
      (nested (TypedPart sc i) here t e (parts_typed t e g)) (each_stands e t g h)

  pub type_parts : (t : Standing) (e : Expression) → IsTyped t e → Each (TypeFitsThere i) here t e
  type_parts t e g =
      each_of_both (λ o. IsTyped o.standing o.expression) (λ o. IsTyped o.standing o.expression) (TypeFitsThere i)
      (λ o a b. types_fit o.standing o.expression a) here t e
      (nested (TypedPart sc i) here t e g) (nested (TypedPart sc i) here t e g)
