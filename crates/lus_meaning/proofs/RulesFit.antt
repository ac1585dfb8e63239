-- An expression that breaks no rule of types and clocks has, in a scene that agrees with its scope, a type and a clock throughout.
use Rattle.std.proofs.Common.{◌≡◌, ℕ, suc, arith, Bool, true, false, cond, not, ◌&&◌, ◌||◌, ◌==◌, List, [], ◌∷◌, ◌++◌, length, flat_map, ◌≤◌, ◌<◌, Option, Some, None, refl, sym, ap, ◌∙◌, subst}
use Rattle.std.specs.Prelude.{option_and_then, unwrap_or}
use Rattle.std.specs.List.{AllByRecursion}
use Rattle.std.specs.Map.{lookup}
use Rattle.std.specs.Bool.{beq}
use Rattle.std.specs.Str.{bytes_eq}
use Rattle.std.proofs.lemmas.Bool.{false≢true, eqb-true}
use Rattle.lus_tree.specs.declared.expression.Operator.{Operator}
use Rattle.lus_tree.specs.declared.expression.Operator.TheVariants.{Implies, Or, Xor, And, Less, AtMost, Equal, Differs, AtLeast, More, Add, Sub, Mul, Div, Mod}
use Rattle.lus_tree.specs.declared.place.Pos.{Pos}
use Rattle.lus_tree.specs.declared.place.Sort.{Sort}
use Rattle.lus_tree.specs.declared.place.Sort.TheVariants.{Bool as Flags, Int as Numbers}
use Rattle.lus_tree.specs.Tree.{Name, Spelled, Place, Expression, Expressions, truth, number, name, negation, minus, pre, arrow, binary, choice, sampled, merged, call, condact, mode_name, no_more, more, Variable, Component}
use Rattle.lus_tree.specs.Reason.{name_unknown, type_clash, arity_clash, clock_clash}
use Rattle.lus_meaning.specs.Value.{Value, has_sort}
use Rattle.lus_meaning.specs.Frame.{first_value}
use Rattle.lus_meaning.specs.Scene.{Clock, base, sampled_by, Scene, clock_of, component_of, constants_of, instance_called, is_on}
use Rattle.lus_meaning.specs.Meaning.{value}
use Rattle.lus_meaning.specs.Program.{listed}
use Rattle.lus_meaning.specs.Run.{sort_of, sort_of_name, output_sort, is_typed}
use Rattle.lus_meaning.specs.Occurrences.{Standing, on_clock, within, before, moved, Occurrence, occurs, occurrences, begin}
use Rattle.lus_meaning.specs.Scope.{Scope, is_known, is_constant_name, sort_of_entry, type_of, node_named, only_sort}
use Rattle.lus_meaning.specs.Faults.{differ}
use Rattle.lus_meaning.specs.ExpressionFaults.{expression_faults, used, used_as_clock, needs_sort, agree, operator_faults, call_faults, default_faults, arguments_fit, sorts_fit, has_one, form_faults, weight_faults, part_faults}
use Rattle.lus_meaning.specs.ClockFaults.{same_clock, name_clock, or_else, clock_in, clock_among, is_other, stands_on, all_on, clock_form_faults, clock_faults_of}
use Rattle.lus_meaning.proofs.EachPart.{Each, each_part, each_of_both, each_elsewhere}
use Rattle.lus_meaning.proofs.NamesOnce.{not_nil, no_parts, not_so}
use Rattle.lus_meaning.specs.Run.{Takes}
use Rattle.lus_meaning.proofs.Typed.{FitsName, Fits, HeldAt, NamesTyped, TypedAt, value_typed}
use Rattle.lus_meaning.proofs.Unique.{same_bytes}

-- ---- truth values

not_false : (b : Bool) → not b ≡ false → b ≡ true
not_false true e = refl
not_false false e = absurd (false≢true (sym e))

first_false : (a b : Bool) → (a || b) ≡ false → a ≡ false
first_false true b e = absurd (false≢true (sym e))
first_false false b e = refl

second_false : (a b : Bool) → (a || b) ≡ false → b ≡ false
second_false true b e = absurd (false≢true (sym e))
second_false false b e = e

both_true : (a b : Bool) → (a && b) ≡ true → (a ≡ true) × (b ≡ true)
both_true true b e = (refl, e)
both_true false b e = absurd (false≢true e)

known_if : (k : Bool) → not k ≡ false → k ≡ true
known_if k e = not_false k e

-- ---- types and clocks that do not differ

same_sorts : (q r : Sort) → differ (Some q) (Some r) ≡ false → q ≡ r
same_sorts Flags Flags e = refl
same_sorts Numbers Numbers e = refl
same_sorts Flags Numbers e = absurd (false≢true (sym e))
same_sorts Numbers Flags e = absurd (false≢true (sym e))

same_truth : (a b : Bool) → beq a b ≡ true → a ≡ b
same_truth true true e = refl
same_truth false false e = refl
same_truth true false e = absurd (false≢true e)
same_truth false true e = absurd (false≢true e)

same_clocks : (c d : Clock) → same_clock c d ≡ true → c ≡ d
same_clocks base base e = refl
same_clocks base (sampled_by b x) e = absurd (false≢true e)
same_clocks (sampled_by b x) base e = absurd (false≢true e)
same_clocks (sampled_by b x) (sampled_by c y) e =
    let h : (beq b c ≡ true) × (bytes_eq x y ≡ true) = both_true (beq b c) (bytes_eq x y) e in
    rw (same_truth b c h.0, same_bytes x y h.1) refl

is_that : (c d : Clock) → is_other c (Some d) ≡ false → c ≡ d
is_that c d e = same_clocks c d (not_false (same_clock c d) e)

-- an operand of what stands on a clock stands on it
operand : (c : Clock) (o k : Option Clock) → is_other c o ≡ false → ((d : Clock) → o ≡ Some d → is_other d k ≡ false) →
    (o ≡ None → k ≡ None) → is_other c k ≡ false
operand c None k e h g = rw (g refl) refl
operand c (Some d) k e h g = rw (is_that c d e) (h d refl)

first_none : (a b : Option Clock) → or_else a b ≡ None → a ≡ None
first_none None b e = refl
first_none (Some c) b e = absurd (false≢true (sym (ap is_some_clock e)))
  where
    is_some_clock : Option Clock → Bool
    is_some_clock None = false
    is_some_clock (Some c) = true

second_none : (a b : Option Clock) → or_else a b ≡ None → b ≡ None
second_none None b e = e
second_none (Some c) b e = absurd (false≢true (sym (ap is_some_clock e)))
  where
    is_some_clock : Option Clock → Bool
    is_some_clock None = false
    is_some_clock (Some c) = true

-- ---- single faults that are not there

no_clash : (s : Scope) (q r : Sort) (e : Expression) → needs_sort s q e ≡ [] → type_of s e ≡ Some r → r ≡ q
no_clash s q r e h t = sym (same_sorts q r (subst (λ k. differ (Some q) k ≡ false) t (not_so (differ (Some q) (type_of s e)) type_clash (begin e) h)))

no_dispute : (s : Scope) (q r : Sort) (a b : Expression) → agree s a b ≡ [] → type_of s a ≡ Some q → type_of s b ≡ Some r → r ≡ q
no_dispute s q r a b h t u = sym (same_sorts q r (subst (λ k. differ (Some q) k ≡ false) u
    (subst (λ k. differ k (type_of s b) ≡ false) t (not_so (differ (type_of s a) (type_of s b)) type_clash (begin b) h))))

is_known_here : (s : Scope) (x : Name) (at : Pos) → used s x at ≡ [] → is_known s x ≡ true
is_known_here s x at e = not_false (is_known s x) (not_so (not (is_known s x)) name_unknown at e)

stands_there : (n : Component) (c : Clock) (e : Expression) → stands_on n c e ≡ [] → is_other c (clock_in n e) ≡ false
stands_there n c e h = not_so (is_other c (clock_in n e)) clock_clash (begin e) h

-- operands of one clock
first_on : (n : Component) (o : Option Clock) (a : Expression) (as_ : List Expression) → all_on n o (a ∷ as_) ≡ [] → (d : Clock)
    → o ≡ Some d → is_other d (clock_in n a) ≡ false
first_on n None a as_ h d e = absurd (false≢true (ap is_some_clock e))
  where
    is_some_clock : Option Clock → Bool
    is_some_clock None = false
    is_some_clock (Some c) = true
first_on n (Some c) a as_ h d e = stands_there n d a (subst (λ k. stands_on n k a ≡ []) (clock_of_some e) (no_parts (stands_on n c a) _ h).0)
  where
    the_clock : Option Clock → Clock
    the_clock None = base
    the_clock (Some k) = k

    clock_of_some : Some c ≡ Some d → c ≡ d
    clock_of_some i = ap the_clock i

rest_on : (n : Component) (o : Option Clock) (a : Expression) (as_ : List Expression) → all_on n o (a ∷ as_) ≡ [] → all_on n o as_ ≡ []
rest_on n None a as_ h = refl
rest_on n (Some c) a as_ h = (no_parts (stands_on n c a) _ h).1

-- what an operator asks
abbrev Asked : Operator → Sort → Sort → Type 0
Asked o q r = Takes o q × (r ≡ q)

sum_asks : (s : Scope) (a b : Expression) (q r : Sort) → needs_sort s Numbers a ++ needs_sort s Numbers b ≡ [] → type_of s a ≡ Some q
    → type_of s b ≡ Some r → (q ≡ Numbers) × (r ≡ q)
sum_asks s a b q r h t u = let e : q ≡ Numbers = no_clash s Numbers q a (no_parts (needs_sort s Numbers a) _ h).0 t in
    (e, no_clash s Numbers r b (no_parts (needs_sort s Numbers a) _ h).1 u ∙ sym e)

flag_asks : (s : Scope) (a b : Expression) (q r : Sort) → needs_sort s Flags a ++ needs_sort s Flags b ≡ [] → type_of s a ≡ Some q
    → type_of s b ≡ Some r → (q ≡ Flags) × (r ≡ q)
flag_asks s a b q r h t u = let e : q ≡ Flags = no_clash s Flags q a (no_parts (needs_sort s Flags a) _ h).0 t in
    (e, no_clash s Flags r b (no_parts (needs_sort s Flags a) _ h).1 u ∙ sym e)

operator_asks : (s : Scope) (at : Pos) (o : Operator) (a b : Expression) (q r : Sort) → operator_faults s at o a b ≡ []
    → type_of s a ≡ Some q → type_of s b ≡ Some r → Asked o q r
operator_asks s at Implies a b q r h t u = flag_asks s a b q r h t u
operator_asks s at Or a b q r h t u = flag_asks s a b q r h t u
operator_asks s at Xor a b q r h t u = flag_asks s a b q r h t u
operator_asks s at And a b q r h t u = flag_asks s a b q r h t u
operator_asks s at Equal a b q r h t u = (tt, no_dispute s q r a b h t u)
operator_asks s at Differs a b q r h t u = (tt, no_dispute s q r a b h t u)
operator_asks s at Less a b q r h t u = sum_asks s a b q r h t u
operator_asks s at AtMost a b q r h t u = sum_asks s a b q r h t u
operator_asks s at AtLeast a b q r h t u = sum_asks s a b q r h t u
operator_asks s at More a b q r h t u = sum_asks s a b q r h t u
operator_asks s at Add a b q r h t u = sum_asks s a b q r h t u
operator_asks s at Sub a b q r h t u = sum_asks s a b q r h t u
operator_asks s at Mul a b q r h t u = sum_asks s a b q r (no_parts _ _ h).0 t u
operator_asks s at Div a b q r h t u = sum_asks s a b q r (no_parts _ _ (no_parts _ _ h).0).0 t u
operator_asks s at Mod a b q r h t u = sum_asks s a b q r (no_parts _ _ (no_parts _ _ h).0).0 t u

-- ---- expressions

-- in a scene that agrees with a scope, a name that may be used there is a constant of its type, or a stream on its clock
pub data KnownName (sc : Scope) (s : Scene) (x : Name) : Type 0 where
  fixed_name : (v : Value) → lookup (bytes_eq x) (constants_of s.place) ≡ Some v → has_sort (sort_of_name s.place x) v ≡ true
      → is_constant_name sc x ≡ true → KnownName sc s x
  stream_name : lookup (bytes_eq x) (constants_of s.place) ≡ None → name_clock (component_of s.place) x ≡ Some
      (clock_of (component_of s.place) x) → KnownName sc s x

-- the callee that the rules see is the one of the instance
abbrev pub CalleeFits : Scope → Scene → Name → Type 0
CalleeFits sc s f = (m : Component) → node_named sc.program f ≡ Some m → (v : Variable) × (vs : List Variable) × (m.outputs ≡ v ∷ vs) ×
    (output_sort (instance_called s.place f) ≡ v.sort)

module _ (sc : Scope) (s : Scene) (CallAt : Clock → ℕ → Name → Type 0) (agrees : (x : Name) → is_known sc x ≡ true → (sort_of_entry sc x ≡ Some (sort_of_name s.place x)) × KnownName sc s x) where
  abbrev here : Component
  here = component_of s.place

  -- what the instance and its frame give of an occurrence
  abbrev pub SiteFits : Standing → Expression → Type 0
  SiteFits t (pre p k a) = has_sort (sort_of s.place a) (first_value s.frame k) ≡ true
  SiteFits t (call p k f as_) = CallAt t.clock k f.text × CalleeFits sc s f.text
  SiteFits t (condact p k a f as_ ds) = HeldAt s CallAt k f.text × CalleeFits sc s f.text × AllByRecursion (λ d. clock_in here d ≡ None) (listed ds)
  SiteFits t _ = Unit {0}

  pub record GoodPart (o : Occurrence) : Type 0 where
    pub types : part_faults sc o ≡ []
    pub clocks : clock_form_faults here o.expression ≡ []
    pub site : SiteFits o.standing o.expression

  abbrev pub Good : Standing → Expression → Type 0
  Good = Each GoodPart here

  form_right : (o : Occurrence) → GoodPart o → form_faults sc o.standing.whole_side o.expression ≡ []
  form_right o g = (no_parts (form_faults sc o.standing.whole_side o.expression) (weight_faults sc o.expression) g.types).0

  one_output : (vs : List Variable) → has_one vs ≡ true → (v : Variable) (ws : List Variable) → vs ≡ v ∷ ws → only_sort vs ≡ Some v.sort
  one_output [] e v ws h = absurd (false≢true e)
  one_output (x ∷ []) e v ws h = ap (λ (ys : List Variable). first_or ys) h
    where
      first_or : List Variable → Option Sort
      first_or [] = None
      first_or (y ∷ ys) = Some y.sort
  one_output (x ∷ y ∷ zs) e v ws h = absurd (not_one (length zs) (eqb-true (length (x ∷ y ∷ zs)) 1 e))
    where
      not_one : (k : ℕ) → suc (suc k) ≡ 1 → ⊥
      not_one k i = omega arith

  called_type : (f : Spelled) (as_ : List Expression) (k : ℕ) (o : Option Component) → node_named sc.program f.text ≡ o
      → call_faults sc false f as_ o ≡ [] → CalleeFits sc s f.text → option_and_then (λ n. only_sort n.outputs) o ≡ Some
      (output_sort (instance_called s.place f.text))
  called_type f as_ k None e h c = not_nil _ _ h
  called_type f as_ k (Some m) e h c =
      let one : has_one m.outputs ≡ true = not_false (has_one m.outputs) (not_so (not (has_one m.outputs)) arity_clash f.at (no_parts _ _ h).1) in
      let q : (v : Variable) × (vs : List Variable) × (m.outputs ≡ v ∷ vs) × (output_sort (instance_called s.place f.text) ≡ v.sort) = c m e in
      one_output m.outputs one q.0 q.1 q.2 ∙ ap (λ (r : Sort). Some r) (sym q.3)

  -- the parts of a condact's faults: its condition, its call, and its defaults
  called_right : (t : Standing) (a : Expression) (f : Spelled) (as_ ds : Expressions) (p : Place) (k : ℕ) → GoodPart (occurs t (condact p k a f as_ ds)) →
      (needs_sort sc Flags a ≡ []) × (call_faults sc t.whole_side f (listed as_) (node_named sc.program f.text) ≡ []) ×
      (default_faults sc f (listed ds) (node_named sc.program f.text) ≡ [])
  called_right t a f as_ ds p k g =
      let three : (needs_sort sc Flags a ++ call_faults sc t.whole_side f (listed as_) (node_named sc.program f.text))
      ++ default_faults sc f (listed ds) (node_named sc.program f.text) ≡ [] =
      (no_parts _ _ (form_right (occurs t (condact p k a f as_ ds)) g)).0 in
      let two : needs_sort sc Flags a ++ call_faults sc t.whole_side f (listed as_) (node_named sc.program f.text) ≡ [] = (no_parts _ _ three).0 in
      ((no_parts (needs_sort sc Flags a) _ two).0, (no_parts (needs_sort sc Flags a) _ two).1, (no_parts _ _ three).1)

  -- it has the type that its value is to have
  pub typed : (e : Expression) (t : Standing) → t.whole_side ≡ false → Good t e → type_of sc e ≡ Some (sort_of s.place e)
  typed (truth p b) t w g = refl
  typed (number p n) t w g = refl
  typed (name p x) t w g = (agrees x (is_known_here sc x p.at (form_right (occurs t (name p x)) g))).0
  typed (negation p a) t w g = refl
  typed (minus p a) t w g = refl
  typed (pre p k a) t w g = typed a (before t) refl g.1
  typed (arrow p k a b) t w g = typed a (within t) refl g.1
  typed (binary p o a b) t w g = refl
  typed (choice p a b d) t w g = typed b (within t) refl g.2
  typed (sampled p a b x) t w g = typed a (moved (clock_of here x.text) t) refl g.1
  typed (merged p x a b) t w g = typed a (moved (sampled_by true x.text) t) refl g.1
  typed (call p k f as_) t w g = called_type f (listed as_) k (node_named sc.program f.text) refl
      (subst (λ u. call_faults sc u f (listed as_) (node_named sc.program f.text) ≡ []) w (form_right (occurs t (call p k f as_)) g.0))
      g.0.site.1
  typed (condact p k a f as_ ds) t w g = called_type f (listed as_) k (node_named sc.program f.text) refl
      (subst (λ u. call_faults sc u f (listed as_) (node_named sc.program f.text) ≡ []) w (called_right t a f as_ ds p k g.0).1) g.0.site.1
  typed (mode_name p c m) t w g = refl

  -- ---- clocks

  abbrev Stands : Clock → Expression → Type 0
  Stands c e = is_other c (clock_in here e) ≡ false

  on_first : (c : Clock) (o : Option Clock) (a : Expression) (as_ : List Expression) → is_other c o ≡ false → all_on here o (a ∷ as_) ≡ [] →
      (o ≡ None → clock_in here a ≡ None) → Stands c a
  on_first c o a as_ e h g = operand c o (clock_in here a) e (first_on here o a as_ h) g

  on_two : (c : Clock) (a b : Expression) → is_other c (or_else (clock_in here a) (clock_in here b)) ≡ false → all_on here
      (or_else (clock_in here a) (clock_in here b)) (a ∷ b ∷ []) ≡ [] → Stands c a × Stands c b
  on_two c a b e h =
      let o : Option Clock = or_else (clock_in here a) (clock_in here b) in (
        on_first c o a (b ∷ []) e h (first_none (clock_in here a) (clock_in here b)),
        on_first c o b [] e (rest_on here o a (b ∷ []) h)
            (second_none (clock_in here a) (clock_in here b)),
      )

  abbrev of_three : Expression → Expression → Expression → Option Clock
  of_three a b d = or_else (clock_in here a) (or_else (clock_in here b) (clock_in here d))

  on_three : (c : Clock) (a b d : Expression) → is_other c (of_three a b d) ≡ false → all_on here (of_three a b d) (a ∷ b ∷ d ∷ []) ≡ []
      → Stands c a × Stands c b × Stands c d
  on_three c a b d e h = (
    on_first c (of_three a b d) a (b ∷ d ∷ []) e h (first_none (clock_in here a) (or_else (clock_in here b) (clock_in here d))),
    on_first c (of_three a b d) b (d ∷ []) e (rest_on here (of_three a b d) a (b ∷ d ∷ []) h)
        (λ i. first_none (clock_in here b) (clock_in here d) (second_none (clock_in here a)
        (or_else (clock_in here b) (clock_in here d)) i)),
    on_first c (of_three a b d) d [] e (rest_on here (of_three a b d) b (d ∷ []) (rest_on here (of_three a b d) a (b ∷ d ∷ []) h))
        (λ i. second_none (clock_in here b) (clock_in here d) (second_none (clock_in here a)
        (or_else (clock_in here b) (clock_in here d)) i)),
  )

  -- ---- names

  name_fits : (c : Clock) (x : Name) → KnownName sc s x → is_other c (name_clock here x) ≡ false → FitsName
      (lookup (bytes_eq x) (constants_of s.place)) s.place c x
  name_fits c x (fixed_name v e h k) o = subst (λ l. FitsName l s.place c x) (sym e) h
  name_fits c x (stream_name e k) o = subst (λ l. FitsName l s.place c x) (sym e) (sym (is_that c (clock_of here x) (subst (λ l. is_other c l ≡ false) k o)))

  not_constant_name : (x : Name) → KnownName sc s x → is_constant_name sc x ≡ false → lookup (bytes_eq x) (constants_of s.place) ≡ None
  not_constant_name x (fixed_name v e h k) n = absurd (false≢true (sym n ∙ k))
  not_constant_name x (stream_name e k) n = e

  -- a word behind `when` or of a merge is a stream of truth values
  clock_word : (x : Spelled) → used_as_clock sc x ≡ [] → (lookup (bytes_eq x.text) (constants_of s.place) ≡ None) × (sort_of_name s.place x.text ≡ Flags)
  clock_word x h =
      let u : (not (is_known sc x.text) || is_constant_name sc x.text) ≡ false = not_so
      (not (is_known sc x.text) || is_constant_name sc x.text) name_unknown x.at (no_parts _ _ h).0 in
      let k : (sort_of_entry sc x.text ≡ Some (sort_of_name s.place x.text)) × KnownName sc s x.text = agrees x.text
      (not_false (is_known sc x.text) (first_false (not (is_known sc x.text)) (is_constant_name sc x.text) u)) in (
        not_constant_name x.text k.1 (second_false (not (is_known sc x.text)) (is_constant_name sc x.text) u),
        sym (same_sorts Flags (sort_of_name s.place x.text) (subst (λ q. differ (Some Flags) q ≡ false) k.0
            (not_so (differ (Some Flags) (sort_of_entry sc x.text)) type_clash x.at (no_parts _ _ h).1))),
      )

  -- the operand's clock is the one that a place has, by the clock of the whole
  needed : (e : Expression) (t : Standing) (q : Sort) → t.whole_side ≡ false → Good t e → needs_sort sc q e ≡ [] → sort_of s.place e ≡ q
  needed e t q w g h = no_clash sc q (sort_of s.place e) e h (typed e t w g)

  one_sort : (a b : Expression) (t u : Standing) → t.whole_side ≡ false → u.whole_side ≡ false → Good t a → Good u b → agree sc a b ≡ []
      → sort_of s.place b ≡ sort_of s.place a
  one_sort a b t u w z g i h = no_dispute sc (sort_of s.place a) (sort_of s.place b) a b h (typed a t w g) (typed b u z i)

  -- ---- defaults

  sorts_of_first : (outs : List Variable) (d : Expression) (ds : List Expression) (v : Variable) (vs : List Variable) →
      (length outs == length (d ∷ ds)) ≡ true → arguments_fit sc outs (d ∷ ds) ≡ [] → outs ≡ v ∷ vs → needs_sort sc v.sort d ≡ []
  sorts_of_first outs d ds v vs e h i =
      (no_parts (needs_sort sc v.sort d) (sorts_fit sc vs ds) (subst (λ ws. sorts_fit sc ws (d ∷ ds) ≡ []) i
      (subst (λ b. cond b (sorts_fit sc outs (d ∷ ds)) [] ≡ []) e h))).0

  none_for_some : (outs vs : List Variable) (v : Variable) → (length outs == 0) ≡ true → outs ≡ v ∷ vs → ⊥
  none_for_some outs vs v e i = zero_of (length vs) (sym (ap length i) ∙ eqb-true (length outs) 0 e)
    where
      zero_of : (k : ℕ) → suc k ≡ 0 → ⊥
      zero_of k j = omega arith

  abbrev DefaultIs : Sort → List Expression → Type 0
  DefaultIs q [] = ⊥
  DefaultIs q (d ∷ ds) = needs_sort sc q d ≡ []

  first_default : (f : Spelled) (k : ℕ) (ds : List Expression) (m : Component) → node_named sc.program f.text ≡ Some m
      → default_faults sc f ds (Some m) ≡ [] → CalleeFits sc s f.text → DefaultIs (output_sort (instance_called s.place f.text)) ds
  first_default f k [] m e h c =
      let q : (v : Variable) × (vs : List Variable) × (m.outputs ≡ v ∷ vs) × (output_sort (instance_called s.place f.text) ≡ v.sort) = c m e in
      none_for_some m.outputs q.1 q.0 (not_false (length m.outputs == 0) (not_so (not (length m.outputs == 0)) arity_clash f.at (no_parts _ _ h).0)) q.2
  first_default f k (d ∷ ds) m e h c =
      let q : (v : Variable) × (vs : List Variable) × (m.outputs ≡ v ∷ vs) × (output_sort (instance_called s.place f.text) ≡ v.sort) = c m e in
      subst (λ r. needs_sort sc r d ≡ []) (sym q.3) (sorts_of_first m.outputs d ds q.0 q.1
      (not_false (length m.outputs == length (d ∷ ds)) (not_so (not (length m.outputs == length (d ∷ ds))) arity_clash f.at
      (no_parts _ _ h).0)) (no_parts _ _ h).1 q.2)

  defaults_right : (f : Spelled) (w : Bool) (k : ℕ) (as_ ds : List Expression) (o : Option Component) → node_named sc.program f.text ≡ o
      → call_faults sc w f as_ o ≡ [] → default_faults sc f ds o ≡ [] → CalleeFits sc s f.text → DefaultIs
      (output_sort (instance_called s.place f.text)) ds
  defaults_right f w k as_ ds None e h i c = not_nil _ _ h
  defaults_right f w k as_ ds (Some m) e h i c = first_default f k ds m e i c

  -- ---- all forms

  -- An expression without faults, at a place of its clock, has what its value needs to have its type there.
  pub fits : (e : Expression) (t : Standing) → Good t e → Stands t.clock e → Fits s CallAt t.clock e
  fits (truth p b) t g h = tt
  fits (number p n) t g h = tt
  fits (name p x) t g h = name_fits t.clock x (agrees x (is_known_here sc x p.at (form_right (occurs t (name p x)) g))).1 h
  fits (negation p a) t g h = (needed a (within t) Flags refl g.1 (form_right (occurs t (negation p a)) g.0), fits a (within t) g.1 h)
  fits (minus p a) t g h = (needed a (within t) Numbers refl g.1 (form_right (occurs t (minus p a)) g.0), fits a (within t) g.1 h)
  fits (pre p k a) t g h = (g.0.site, fits a (before t) g.1 h)
  fits (arrow p k a b) t g h =
      let o : Stands t.clock a × Stands t.clock b = on_two t.clock a b h g.0.clocks in
      (one_sort a b (within t) (within t) refl refl g.1 g.2 (form_right (occurs t (arrow p k a b)) g.0), fits a (within t) g.1 o.0, fits b (within t) g.2 o.1)
  fits (binary p x a b) t g h =
      let o : Stands t.clock a × Stands t.clock b = on_two t.clock a b h g.0.clocks in
      let q : Asked x (sort_of s.place a) (sort_of s.place b) = operator_asks sc p.at x a b (sort_of s.place a) (sort_of s.place b)
      (form_right (occurs t (binary p x a b)) g.0) (typed a (within t) refl g.1) (typed b (within t) refl g.2) in
      (q.0, q.1, fits a (within t) g.1 o.0, fits b (within t) g.2 o.1)
  fits (choice p a b d) t g h =
      let o : Stands t.clock a × Stands t.clock b × Stands t.clock d = on_three t.clock a b d h g.0.clocks in
      let f : (needs_sort sc Flags a ≡ []) × (agree sc b d ≡ []) = no_parts (needs_sort sc Flags a) (agree sc b d)
      (form_right (occurs t (choice p a b d)) g.0) in (
        needed a (within t) Flags refl g.1 f.0,
        one_sort b d (within t) (within t) refl refl g.2 g.3 f.1,
        fits a (within t) g.1 o.0,
        fits b
            (within t) g.2 o.1,
        fits d (within t) g.3 o.2,
      )
  fits (sampled p a b x) t g h = (
    is_that t.clock (sampled_by b x.text) h,
    (clock_word x (form_right (occurs t (sampled p a b x)) g.0)).0,
    fits a (moved (clock_of here x.text) t) g.1 (stands_there here (clock_of here x.text) a g.0.clocks),
  )
  fits (merged p x a b) t g h =
      let f : (used_as_clock sc x ≡ []) × (agree sc a b ≡ []) = no_parts (used_as_clock sc x) (agree sc a b) (form_right (occurs t (merged p x a b)) g.0) in
      let o : (stands_on here (sampled_by true x.text) a ≡ []) × (stands_on here (sampled_by false x.text) b ≡ []) = no_parts
      (stands_on here (sampled_by true x.text) a) (stands_on here (sampled_by false x.text) b) g.0.clocks in (
        sym (is_that t.clock (clock_of here x.text) h),
        (clock_word x f.0).0,
        (clock_word x f.0).1,
        one_sort a b (moved (sampled_by true x.text) t) (moved (sampled_by false x.text) t) refl refl g.1 g.2 f.1,
        fits a (moved (sampled_by true x.text) t) g.1 (stands_there here (sampled_by true x.text) a o.0),
        fits b (moved (sampled_by false x.text) t) g.2 (stands_there here (sampled_by false x.text) b o.1),
      )
  fits (call p k f as_) t g h = g.0.site.0
  fits (condact p k a f as_ no_more) t g h =
      let r : (needs_sort sc Flags a ≡ []) × (call_faults sc t.whole_side f (listed as_) (node_named sc.program f.text) ≡ []) ×
      (default_faults sc f [] (node_named sc.program f.text) ≡ []) = called_right t a f as_ no_more p k g.0 in
      absurd (defaults_right f t.whole_side k (listed as_) [] (node_named sc.program f.text) refl r.1 r.2 g.0.site.1)
  fits (condact p k a f as_ (more d ds)) t g h =
      let r : (needs_sort sc Flags a ≡ []) × (call_faults sc t.whole_side f (listed as_) (node_named sc.program f.text) ≡ []) ×
      (default_faults sc f (listed (more d ds)) (node_named sc.program f.text) ≡ []) = called_right t a f as_ (more d ds) p k g.0 in
      let c : t.clock ≡ unwrap_or (clock_among here as_) base = is_that t.clock (unwrap_or (clock_among here as_) base) h in (
        g.0.site.0,
        needed a (within t) Flags refl g.1 r.0,
        fits a (within t) g.1 (subst (λ k. is_other k (clock_in here a) ≡ false) (sym c)
            (stands_there here (unwrap_or (clock_among here as_) base) a
            (no_parts (all_on here (clock_among here as_) (listed as_)) _ g.0.clocks).1)),
        (
          needed d (within t) (output_sort (instance_called s.place f.text)) refl g.3.0
              (defaults_right f t.whole_side k (listed as_) (listed (more d ds)) (node_named sc.program f.text) refl r.1 r.2 g.0.site.1),
          fits d (within t) g.3.0 (subst (λ k. is_other t.clock k ≡ false) (sym g.0.site.2.0) refl),
        ),
      )
  fits (mode_name p c m) t g h = is_that t.clock base h

-- ---- from the lists of faults

pub none_mapped : {A B : Type 0} (f : A → List B) (xs : List A) → flat_map f xs ≡ [] → AllByRecursion (λ x. f x ≡ []) xs
none_mapped f [] e = tt
none_mapped f (x ∷ xs) e = ((no_parts (f x) (flat_map f xs) e).0, none_mapped f xs (no_parts (f x) (flat_map f xs) e).1)

module _ (sc : Scope) (s : Scene) (CallAt : Clock → ℕ → Name → Type 0) (agrees : (x : Name) → is_known sc x ≡ true → (sort_of_entry sc x ≡ Some (sort_of_name s.place x)) × KnownName sc s x) (owner : sc.owner ≡ component_of s.place) where
  abbrev SiteOf : Occurrence → Type 0
  SiteOf o = SiteFits sc s CallAt agrees o.standing o.expression

  abbrev NoPartFault : Occurrence → Type 0
  NoPartFault o = part_faults sc o ≡ []

  abbrev NoClockFault : Expression → Type 0
  NoClockFault e = clock_form_faults (component_of s.place) e ≡ []

  -- an expression of an item, whose lists of faults are empty, is good throughout
  pub good_text : (t : Standing) (e : Expression) → expression_faults sc t e ≡ [] → clock_faults_of (component_of s.place) t.clock e ≡ []
      → Each SiteOf (component_of s.place) t e → Good sc s CallAt agrees t e
  good_text t e h g site =
      let n : Component = component_of s.place in
      let types : Each NoPartFault n t e = each_part NoPartFault n t e
      (none_mapped (part_faults sc) (occurrences n t e) (subst (λ m. flat_map (part_faults sc) (occurrences m t e) ≡ []) owner h)) in
      let here : Each (λ o. NoClockFault o.expression) n (on_clock t.clock) e = each_part (λ o. NoClockFault o.expression) n
      (on_clock t.clock) e (none_mapped (λ o. clock_form_faults n o.expression) (occurrences n (on_clock t.clock) e)
      (no_parts (stands_on n t.clock e) _ g).1) in
      let clocks : Each (λ o. NoClockFault o.expression) n t e = each_elsewhere NoClockFault n (on_clock t.clock) t e here in
      let both : Each (λ o. (part_faults sc o ≡ []) × (clock_form_faults n o.expression ≡ [])) n t e = each_of_both NoPartFault
      (λ o. NoClockFault o.expression) (λ o. (part_faults sc o ≡ []) × (clock_form_faults n o.expression ≡ []))
      (λ o a b. (a, b)) n t e types clocks in
      each_of_both (λ o. (part_faults sc o ≡ []) × (clock_form_faults n o.expression ≡ [])) SiteOf (GoodPart sc s CallAt agrees)
      (λ o a b. record { types = a.0; clocks = a.1; site = b }) n t e both site

  -- so it meets what the typing of its value asks
  pub text_fits : (t : Standing) (e : Expression) → expression_faults sc t e ≡ [] → clock_faults_of (component_of s.place) t.clock e ≡ []
      → Each SiteOf (component_of s.place) t e → Fits s CallAt t.clock e
  text_fits t e h g site = fits sc s CallAt agrees e t (good_text t e h g site)
      (stands_there (component_of s.place) t.clock e (no_parts (stands_on (component_of s.place) t.clock e) _ g).0)

  -- and its value has its type exactly where the clock of its place is on, where names, calls and modes have theirs
  pub text_typed : (t : Standing) (e : Expression) → expression_faults sc t e ≡ [] → clock_faults_of (component_of s.place) t.clock e ≡ []
      → Each SiteOf (component_of s.place) t e →
      (u : ℕ) → ((v : ℕ) → v ≤ u → NamesTyped s CallAt v) → ((v : ℕ) → v < u → TypedAt s CallAt v) → is_typed (sort_of s.place e)
      (is_on s t.clock u) (value s t.clock e u) ≡ true
  text_typed t e h g site u now earlier = value_typed s CallAt u now earlier e t.clock (text_fits t e h g site)
