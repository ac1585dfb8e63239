-- An expression without faults of types weighs in its instance what the rules say, which is within their limit, and no
-- divisor in it is 0.
use Rattle.std.proofs.Common.{◌≡◌, ℕ, zero, suc, ◌≤◌, Bool, true, false, cond, ◌&&◌, [], Option, Some, None, option_map, refl, sym, ap, ◌∙◌, subst, arith, pos, negsuc}
use Rattle.std.specs.Prelude.{Contains, is_some, find, max}
use Rattle.std.specs.Map.{lookup}
use Rattle.std.specs.Str.{bytes_eq}
use Rattle.std.proofs.Math.Logic.{inl, inr}
use Rattle.std.proofs.lemmas.Bool.{false≢true}
use Rattle.std.proofs.lemmas.Option.{none-some}
use Rattle.lus_tree.specs.declared.expression.Operator.{Operator}
use Rattle.lus_tree.specs.declared.expression.Operator.TheVariants.{Implies, Or, Xor, And, Less, AtMost, Equal, Differs, AtLeast, More, Add, Sub, Mul, Div, Mod}
use Rattle.lus_tree.specs.declared.place.Sort.TheVariants.{Int as Numbers}
use Rattle.lus_tree.specs.Tree.{Name, Place, Expression, Expressions, truth, number, name, negation, minus, pre, arrow, binary, choice, sampled, merged, call, condact, mode_name, no_more, more, Component, Program}
use Rattle.lus_tree.specs.Reason.{zero_divisor, heavy}
use Rattle.lus_meaning.specs.Value.{Value, absent, flag, whole, has_sort}
use Rattle.lus_meaning.specs.Scene.{Instance, component_of, constants_of, clock_of, sampled_by}
use Rattle.lus_meaning.specs.Program.{instance_of}
use Rattle.lus_meaning.specs.Run.{sort_of, sort_of_name}
use Rattle.lus_meaning.specs.Occurrences.{Standing, within, before, moved, Occurrence, occurs, begin}
use Rattle.lus_meaning.specs.Scope.{Scope, Entry, is_constant_role, entry_of, is_known, is_constant_name, value_of_entry, type_of, is_constant, size_of, both_weights, greater, greatest_weight, is_heavy, worth_of, constant_of, weight_of}
use Rattle.lus_meaning.specs.Scope as scopes
use Rattle.lus_meaning.specs.ExpressionFaults.{form_faults, is_integer, weight_faults}
use Rattle.lus_meaning.specs.Refusals.{IsChecked}
use Rattle.lus_meaning.proofs.EachPart.{Each, EachAmong}
use Rattle.lus_meaning.proofs.NamesOnce.{no_parts, not_so}
use Rattle.lus_meaning.proofs.RulesFit.{KnownName, fixed_name, stream_name}
use Rattle.lus_meaning.proofs.Typed.{has_as}
use Rattle.rule_laws.specs.Laws.{placed, table, Agrees}
use Rattle.rule_laws.proofs.Constants.{is_word, known_in}
use Rattle.rule_laws.proofs.Fitted.{is_known_here, Shown, TypedPart, typed, still}
use Rattle.rule_laws.proofs.Known.{SameFound}
use Rattle.rule_laws.proofs.Tables.{typed_tables}
use Rattle.rule_laws.proofs.Texts.{ScopeOf}
use Rattle.rule_laws.proofs.Truths.{same_some, both_true}
use Rattle.rule_laws.proofs.Worths.{NameWorth, ExpressionWorth, Fine, worths}
use Rattle.sys_terms.specs.Fits.{is_zero}
use Rattle.sys_meaning.specs.Defaults as defaults
use Rattle.sys_meaning.specs.Translate.{number_of_value}
use Rattle.sys_meaning.specs.WellTyped.{IsKnown, HasConstant, Stands}
use Rattle.path_laws.proofs.Standing.{Known}
use Rattle.term_laws.proofs.Scopes.{ShowsValues, value_in}
use Rattle.term_laws.proofs.Small.{within as less_or_same}
use Rattle.term_laws.proofs.Weights.{no_number, value_size, name_size, operator_size, DivisorFits, value_here, weighs, IsWithin, Light, LightAmong}

-- ---- constants of a scope

-- a name that is known and is a constant of the instance has its value
abbrev pub ValuesAgree : Scope → Instance → Type 0
ValuesAgree sc i = (x : Name) (v : Value) → is_known sc x ≡ true → lookup (bytes_eq x) (constants_of i) ≡ Some v → value_of_entry sc x ≡ v

known_there : (a b : Option Entry) → SameFound a b → known_in a ≡ true → (e : Entry) × (b ≡ Some e)
known_there None b s k = absurd (false≢true k)
known_there (Some d) None s k = absurd (none-some d.role (sym s.role))
known_there (Some d) (Some e) s k = (e, refl)

value_of : (b : Bool) (v w : Value) → cond b (Some v) None ≡ Some w → v ≡ w
value_of true v w e = same_some e
value_of false v w e = absurd (none-some w e)

pub values_agree : (p : Program) (c : IsChecked p) (h : ℕ × Component) → Contains (placed 0 p) h → (sc : Scope) → ScopeOf p h sc →
    ShowsValues p h sc → ValuesAgree sc (instance_of p h.1)
values_agree p c h place sc o s x v k e =
    let q = known_there (entry_of sc x) (find (is_word x) (table p h)) (o.shows x) k in
    let a : Agrees (instance_of p h.1) x q.0 = typed_tables p c.rules.clocked.typed h place x q.0 q.1 in
    s x k ∙ ap value_in q.1 ∙ value_of (is_constant_role q.0.role) q.0.value v (sym a.constant ∙ e)

-- ---- small facts

sized : (v : Value) → has_sort Numbers v ≡ true → size_of v ≡ Some (value_size v)
sized (whole (pos n)) h = refl
sized (whole (negsuc n)) h = refl
sized absent h = absurd (false≢true h)
sized (flag b) h = absurd (false≢true h)

not_zero : (v : Value) → has_sort Numbers v ≡ true → scopes.is_zero v ≡ false → is_zero (number_of_value v) ≡ false
not_zero (whole (pos zero)) h e = absurd (false≢true (sym e))
not_zero (whole (pos (suc n))) h e = refl
not_zero (whole (negsuc n)) h e = refl
not_zero absent h e = absurd (false≢true h)
not_zero (flag b) h e = absurd (false≢true h)

-- what a name is, in the scope and in the instance
data NameIs (sc : Scope) (i : Instance) (x : Name) : Type 0 where
  a_constant : (v : Value) → lookup (bytes_eq x) (constants_of i) ≡ Some v → has_sort (sort_of_name i x) v ≡ true →
      is_constant_name sc x ≡ true → value_of_entry sc x ≡ v → NameIs sc i x
  a_stream : lookup (bytes_eq x) (constants_of i) ≡ None → is_constant_name sc x ≡ false → NameIs sc i x

module _ (sc : Scope) (i : Instance) (shown : Shown sc i) (values : ValuesAgree sc i) where
  abbrev n : Component
  n = component_of i

  abbrev Typed : Standing → Expression → Type 0
  Typed t e = Each (TypedPart sc i) n t e

  abbrev Placed : Standing → Expression → Type 0
  Placed t e = Stands i (IsKnown i) t.clock e

  form_right : (o : Occurrence) → TypedPart sc i o → form_faults sc o.standing.whole_side o.expression ≡ []
  form_right o g = (no_parts (form_faults sc o.standing.whole_side o.expression) (weight_faults sc o.expression) g.types).0

  name_is : (x : Name) → is_known sc x ≡ true → NameIs sc i x
  name_is x k = go (shown.names x k).1
    where
      stream : (b : Bool) → is_constant_name sc x ≡ b → lookup (bytes_eq x) (constants_of i) ≡ None → is_constant_name sc x ≡ false
      stream true e q = absurd (false≢true (sym (ap is_some q) ∙ shown.fixed x e))
      stream false e q = e

      go : KnownName sc (still i) x → NameIs sc i x
      go (fixed_name v e h c) = a_constant v e h c (values x v k e)
      go (stream_name e c) = a_stream e (stream (is_constant_name sc x) refl e)

  name_at : (t : Standing) (p : Place) (x : Name) → TypedPart sc i (occurs t (name p x)) → NameIs sc i x
  name_at t p x g = name_is x (is_known_here sc x p.at (form_right (occurs t (name p x)) g))

  -- ---- constant expressions

  name_constant : (x : Name) → NameIs sc i x → is_constant_name sc x ≡ is_some (lookup (bytes_eq x) (constants_of i))
  name_constant x (a_constant v e h c w) = c ∙ sym (ap is_some e)
  name_constant x (a_stream e c) = c ∙ sym (ap is_some e)

  same_constant : (t : Standing) (e : Expression) → Typed t e → is_constant sc e ≡ defaults.is_constant (constants_of i) e
  same_constant t (truth p b) g = refl
  same_constant t (number p k) g = refl
  same_constant t (name p x) g = name_constant x (name_at t p x g)
  same_constant t (negation p a) g = same_constant (within t) a g.1
  same_constant t (minus p a) g = same_constant (within t) a g.1
  same_constant t (binary p o a b) g = rw (same_constant (within t) a g.1, same_constant (within t) b g.2) refl
  same_constant t (choice p a b d) g =
      rw (same_constant (within t) a g.1, same_constant (within t) b g.2, same_constant (within t) d g.3) refl
  same_constant t (pre p k a) g = refl
  same_constant t (arrow p k a b) g = refl
  same_constant t (sampled p a b x) g = refl
  same_constant t (merged p x a b) g = refl
  same_constant t (call p k f as_) g = refl
  same_constant t (condact p k a f as_ ds) g = refl
  same_constant t (mode_name p d m) g = refl

  name_worth : (x : Name) → is_known sc x ≡ true → is_constant_name sc x ≡ true → NameWorth sc sc (constants_of i) x
  name_worth x k c = go (name_is x k)
    where
      go : NameIs sc i x → NameWorth sc sc (constants_of i) x
      go (a_constant v e h d w) = record {
        sort = sort_of_name i x;
        value = v;
        here = (shown.names x k).0;
        there = (shown.names x k).0;
        value_here = w;
        value_there = w;
        fixed_there = d;
        found = e;
        has = h;
      }
      go (a_stream e d) = absurd (false≢true (sym d ∙ c))

  abbrev FineHere : Occurrence → Type 0
  FineHere = Fine sc sc (constants_of i) name_worth

  all_fine : (t : Standing) (e : Expression) → Typed t e → is_constant sc e ≡ true → Each FineHere sc.owner t e
  all_fine t (truth p b) g c = (g.types, refl)
  all_fine t (number p k) g c = (g.types, refl)
  all_fine t (name p x) g c = (g.types, rw c refl)
  all_fine t (negation p a) g c = ((g.0.types, refl), all_fine (within t) a g.1 c)
  all_fine t (minus p a) g c = ((g.0.types, refl), all_fine (within t) a g.1 c)
  all_fine t (binary p o a b) g c =
      let q = both_true (is_constant sc a) (is_constant sc b) c in
      ((g.0.types, refl), all_fine (within t) a g.1 q.0, all_fine (within t) b g.2 q.1)
  all_fine t (choice p a b d) g c =
      let q = both_true (is_constant sc a) (is_constant sc b && is_constant sc d) c in
      let r = both_true (is_constant sc b) (is_constant sc d) q.1 in
      ((g.0.types, refl), all_fine (within t) a g.1 q.0, all_fine (within t) b g.2 r.0, all_fine (within t) d g.3 r.1)
  all_fine t (pre p k a) g c = absurd (false≢true c)
  all_fine t (arrow p k a b) g c = absurd (false≢true c)
  all_fine t (sampled p a b x) g c = absurd (false≢true c)
  all_fine t (merged p x a b) g c = absurd (false≢true c)
  all_fine t (call p k f as_) g c = absurd (false≢true c)
  all_fine t (condact p k a f as_ ds) g c = absurd (false≢true c)
  all_fine t (mode_name p d m) g c = absurd (false≢true c)

  constant_worth : (t : Standing) (e : Expression) → Typed t e → defaults.is_constant (constants_of i) e ≡ true →
      ExpressionWorth sc sc (constants_of i) e
  constant_worth t e g c = worths sc sc (constants_of i) name_worth t e (all_fine t e g (same_constant t e g ∙ c))

  -- a constant number's value and size
  number_worth : (t : Standing) (e : Expression) → t.whole_side ≡ false → Typed t e → defaults.is_constant (constants_of i) e ≡ true → sort_of i e ≡ Numbers →
      (has_sort Numbers (value_here i e) ≡ true) × (size_of (constant_of sc e) ≡ Some (value_size (value_here i e)))
  number_worth t e w g c s =
      let q = constant_worth t e g c in
      let same : q.sort ≡ Numbers = same_some (sym q.here ∙ typed sc i shown e t w g) ∙ s in
      let h : has_sort Numbers (value_here i e) ≡ true = has_as q.sort Numbers (value_here i e) same q.has in
      (h, ap size_of q.value ∙ sized (value_here i e) h)

  -- ---- weights

  name_weighs : (x : Name) → sort_of_name i x ≡ Numbers → NameIs sc i x →
      cond (is_constant_name sc x) (size_of (value_of_entry sc x)) (Some 1) ≡ Some (name_size (lookup (bytes_eq x) (constants_of i)))
  name_weighs x s (a_constant v e h c w) =
      rw (c, e, w) (sized v (has_as (sort_of_name i x) Numbers v s h))
  name_weighs x s (a_stream e c) = rw (c, e) refl

  two_weigh : (f : ℕ → ℕ → ℕ) (a b : Option ℕ) (x y : ℕ) → a ≡ Some x → b ≡ Some y → both_weights f a b ≡ Some (f x y)
  two_weigh f a b x y e h = rw (e, h) refl

  product_weighs : (t : Standing) (a b : Expression) → t.whole_side ≡ false → Typed t a → Typed t b → sort_of i a ≡ Numbers → sort_of i b ≡ Numbers →
      HasConstant i (IsKnown i) Mul a b → weight_of sc a ≡ Some (weighs i a) → weight_of sc b ≡ Some (weighs i b) →
      scopes.operator_weight Mul (is_constant sc a) (worth_of sc a) (worth_of sc b)
      ≡ Some (operator_size Mul (defaults.is_constant (constants_of i) a) (value_here i a) (weighs i a) (value_here i b) (weighs i b))
  product_weighs t a b w g h s z k x y =
      rw (same_constant t a g) (go (defaults.is_constant (constants_of i) a) refl k)
    where
      go : (c : Bool) → defaults.is_constant (constants_of i) a ≡ c → HasConstant i (IsKnown i) Mul a b →
          scopes.operator_weight Mul c (worth_of sc a) (worth_of sc b)
          ≡ Some (operator_size Mul c (value_here i a) (weighs i a) (value_here i b) (weighs i b))
      go true c k = two_weigh _ _ _ _ _ (number_worth t a w g c s).1 y
      go false c (inl k) = absurd (false≢true (sym c ∙ k))
      go false c (inr k) = two_weigh _ _ _ _ _ (number_worth t b w h k z).1 x

  divided : (v : Value) (w : Option ℕ) → scopes.is_zero v ≡ false → scopes.divided_weight v w ≡ w
  divided v w e = ap (λ b. cond b None w) e

  not_divided_by_zero : (t : Standing) (b : Expression) → Typed t b → defaults.is_constant (constants_of i) b ≡ true →
      (is_constant sc b && scopes.is_zero (constant_of sc b)) ≡ false → scopes.is_zero (constant_of sc b) ≡ false
  not_divided_by_zero t b g c e = subst (λ k. (k && scopes.is_zero (constant_of sc b)) ≡ false) (same_constant t b g ∙ c) e

  pub weight_is : (t : Standing) (e : Expression) → Typed t e → Placed t e → sort_of i e ≡ Numbers → weight_of sc e ≡ Some (weighs i e)
  weight_is t (truth p b) g h s = absurd (no_number s)
  weight_is t (number p k) g h s = refl
  weight_is t (name p x) g h s = name_weighs x s (name_at t p x g)
  weight_is t (negation p a) g h s = absurd (no_number s)
  weight_is t (minus p a) g h s = weight_is (within t) a g.1 h.1 h.0
  weight_is t (pre p k a) g h s = refl
  weight_is t (arrow p k a b) g h s =
      two_weigh _ _ _ _ _ (weight_is (within t) a g.1 h.2 s) (weight_is (within t) b g.2 h.3 (h.1 ∙ s))
  weight_is t (binary p Add a b) g h s =
      two_weigh _ _ _ _ _ (weight_is (within t) a g.1 h.3 h.0) (weight_is (within t) b g.2 h.4 (h.1 ∙ h.0))
  weight_is t (binary p Sub a b) g h s =
      two_weigh _ _ _ _ _ (weight_is (within t) a g.1 h.3 h.0) (weight_is (within t) b g.2 h.4 (h.1 ∙ h.0))
  weight_is t (binary p Mul a b) g h s =
      product_weighs (within t) a b refl g.1 g.2 h.0 (h.1 ∙ h.0) h.2 (weight_is (within t) a g.1 h.3 h.0) (weight_is (within t) b g.2 h.4 (h.1 ∙ h.0))
  weight_is t (binary p Div a b) g h s =
      divided (constant_of sc b) _
      (not_divided_by_zero (within t) b g.2 h.2
      (not_so (is_constant sc b && scopes.is_zero (constant_of sc b)) zero_divisor p.at (no_parts _ _ (form_right (occurs t (binary p Div a b)) g.0)).1))
      ∙ ap (option_map (max 1)) (weight_is (within t) a g.1 h.3 h.0)
  weight_is t (binary p Mod a b) g h s =
      divided (constant_of sc b) _
      (not_divided_by_zero (within t) b g.2 h.2
      (not_so (is_constant sc b && scopes.is_zero (constant_of sc b)) zero_divisor p.at (no_parts _ _ (form_right (occurs t (binary p Mod a b)) g.0)).1))
      ∙ (number_worth (within t) b refl g.2 h.2 (h.1 ∙ h.0)).1
  weight_is t (binary p Implies a b) g h s = absurd (no_number s)
  weight_is t (binary p Or a b) g h s = absurd (no_number s)
  weight_is t (binary p Xor a b) g h s = absurd (no_number s)
  weight_is t (binary p And a b) g h s = absurd (no_number s)
  weight_is t (binary p Less a b) g h s = absurd (no_number s)
  weight_is t (binary p AtMost a b) g h s = absurd (no_number s)
  weight_is t (binary p AtLeast a b) g h s = absurd (no_number s)
  weight_is t (binary p More a b) g h s = absurd (no_number s)
  weight_is t (binary p Equal a b) g h s = absurd (no_number s)
  weight_is t (binary p Differs a b) g h s = absurd (no_number s)
  weight_is t (choice p a b d) g h s =
      two_weigh _ _ _ _ _ (weight_is (within t) b g.2 h.3 s) (weight_is (within t) d g.3 h.4 (h.1 ∙ s))
  weight_is t (sampled p a b x) g h s = weight_is (moved (clock_of n x.text) t) a g.1 h.2 s
  weight_is t (merged p x a b) g h s =
      two_weigh _ _ _ _ _ (weight_is (moved (sampled_by true x.text) t) a g.1 h.3 s)
      (weight_is (moved (sampled_by false x.text) t) b g.2 h.4 (h.2 ∙ s))
  weight_is t (call p k f as_) g h s = refl
  weight_is t (condact p k a f as_ ds) g h s = refl
  weight_is t (mode_name p d m) g h s = absurd (no_number s)

  -- ---- parts that are light

  not_heavy : (t : Standing) (e : Expression) → TypedPart sc i (occurs t e) → type_of sc e ≡ Some (sort_of i e) →
      (sort_of i e ≡ Numbers → weight_of sc e ≡ Some (weighs i e)) → IsWithin i greatest_weight e
  not_heavy t e g ty w s =
      let f : weight_faults sc e ≡ [] = (no_parts (form_faults sc t.whole_side e) (weight_faults sc e) g.types).1 in
      let h : (is_integer (type_of sc e) && is_heavy (weight_of sc e)) ≡ false =
      not_so (is_integer (type_of sc e) && is_heavy (weight_of sc e)) heavy (begin e) f in
      less_or_same greatest_weight (weighs i e) (subst (λ o. is_heavy o ≡ false) (w s)
      (subst (λ o. (is_integer o && is_heavy (weight_of sc e)) ≡ false) (ty ∙ ap (λ q. Some q) s) h))

  divisor : (t : Standing) (b : Expression) → t.whole_side ≡ false → Typed t b → defaults.is_constant (constants_of i) b ≡ true → sort_of i b ≡ Numbers →
      (is_constant sc b && scopes.is_zero (constant_of sc b)) ≡ false → is_zero (number_of_value (value_here i b)) ≡ false
  divisor t b w g c s e =
      let z : scopes.is_zero (constant_of sc b) ≡ false = not_divided_by_zero t b g c e in
      not_zero (value_here i b) (number_worth t b w g c s).0
      (subst (λ v. scopes.is_zero v ≡ false) (constant_worth t b g c).value z)

  is_divided : (t : Standing) (p : Place) (o : Operator) (a b : Expression) → Typed t (binary p o a b) → Placed t (binary p o a b) →
      DivisorFits o (value_here i b)
  is_divided t p Div a b g h =
      divisor (within t) b refl g.2 h.2 (h.1 ∙ h.0)
      (not_so (is_constant sc b && scopes.is_zero (constant_of sc b)) zero_divisor p.at (no_parts _ _ (form_right (occurs t (binary p Div a b)) g.0)).1)
  is_divided t p Mod a b g h =
      divisor (within t) b refl g.2 h.2 (h.1 ∙ h.0)
      (not_so (is_constant sc b && scopes.is_zero (constant_of sc b)) zero_divisor p.at (no_parts _ _ (form_right (occurs t (binary p Mod a b)) g.0)).1)
  is_divided t p Implies a b g h = tt
  is_divided t p Or a b g h = tt
  is_divided t p Xor a b g h = tt
  is_divided t p And a b g h = tt
  is_divided t p Less a b g h = tt
  is_divided t p AtMost a b g h = tt
  is_divided t p AtLeast a b g h = tt
  is_divided t p More a b g h = tt
  is_divided t p Equal a b g h = tt
  is_divided t p Differs a b g h = tt
  is_divided t p Add a b g h = tt
  is_divided t p Sub a b g h = tt
  is_divided t p Mul a b g h = tt

  one_within : 1 ≤ greatest_weight
  one_within = omega arith

  module _ (stand : (t : Standing) (e : Expression) → Each (Known i) n t e → Stands i (IsKnown i) t.clock e) where
    abbrev Known_there : Standing → Expression → Type 0
    Known_there t e = Each (Known i) n t e

    one_part : (t : Standing) (e : Expression) → TypedPart sc i (occurs t e) → Typed t e → Known_there t e → type_of sc e ≡ Some (sort_of i e) →
        IsWithin i greatest_weight e
    one_part t e r g a ty = not_heavy t e r ty (weight_is t e g (stand t e a))

    mutual
      pub light : (t : Standing) (e : Expression) → Each (TypedPart sc i) (component_of i) t e → Each (Known i) (component_of i) t e →
          Light i greatest_weight e
      light t (truth p b) g a = (one_part t (truth p b) g g a refl, tt)
      light t (number p k) g a = (one_part t (number p k) g g a refl, tt)
      light t (name p x) g a =
          (one_part t (name p x) g g a (shown.names x (is_known_here sc x p.at (form_right (occurs t (name p x)) g))).0, tt)
      light t (negation p b) g a = ((one_part t (negation p b) g.0 g a refl, tt), light (within t) b g.1 a.1)
      light t (minus p b) g a = ((one_part t (minus p b) g.0 g a refl, tt), light (within t) b g.1 a.1)
      light t (pre p k b) g a =
          ((one_part t (pre p k b) g.0 g a (typed sc i shown b (before t) refl g.1), tt), light (before t) b g.1 a.1)
      light t (arrow p k b d) g a = (
        (one_part t (arrow p k b d) g.0 g a (typed sc i shown b (within t) refl g.1), tt),
        light (within t) b g.1 a.1,
        light (within t) d g.2 a.2,
      )
      light t (binary p o b d) g a = (
        (one_part t (binary p o b d) g.0 g a refl, is_divided t p o b d g (stand t (binary p o b d) a)),
        light (within t) b g.1 a.1,
        light (within t) d g.2 a.2,
      )
      light t (choice p b d e) g a = (
        (one_part t (choice p b d e) g.0 g a (typed sc i shown d (within t) refl g.2), tt),
        light (within t) b g.1 a.1,
        light (within t) d g.2 a.2,
        light (within t) e g.3 a.3,
      )
      light t (sampled p b q x) g a = (
        (one_part t (sampled p b q x) g.0 g a (typed sc i shown b (moved (clock_of n x.text) t) refl g.1), tt),
        light (moved (clock_of n x.text) t) b g.1 a.1,
      )
      light t (merged p x b d) g a = (
        (one_part t (merged p x b d) g.0 g a (typed sc i shown b (moved (sampled_by true x.text) t) refl g.1), tt),
        light (moved (sampled_by true x.text) t) b g.1 a.1,
        light (moved (sampled_by false x.text) t) d g.2 a.2,
      )
      light t (call p k f as_) g a = (((λ s. one_within), tt), light_among (within t) as_ g.1 a.1)
      light t (condact p k b f as_ ds) g a =
          (((λ s. one_within), tt), light (within t) b g.1 a.1, light_among (within t) as_ g.2 a.2, light_among (within t) ds g.3 a.3)
      light t (mode_name p d m) g a = (one_part t (mode_name p d m) g g a refl, tt)

      light_among : (t : Standing) (as_ : Expressions) → EachAmong (TypedPart sc i) (component_of i) t as_ →
          EachAmong (Known i) (component_of i) t as_ → LightAmong i greatest_weight as_
      light_among t no_more g a = tt
      light_among t (more e as_) g a = (light t e g.0 a.0, light_among t as_ g.1 a.1)
