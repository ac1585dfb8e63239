-- A constant expression without faults has its type, and the value that its definition gives it.
use Rattle.std.proofs.Common.{◌≡◌, ℕ, Bool, true, false, cond, not, ◌&&◌, List, [], ◌∷◌, ◌++◌, pos, Option, Some, None, refl, sym, ap, ◌∙◌, subst}
use Rattle.std.specs.Map.{lookup}
use Rattle.std.specs.Str.{bytes_eq}
use Rattle.std.proofs.lemmas.Bool.{false≢true}
use Rattle.lus_tree.specs.declared.expression.Operator.{Operator}
use Rattle.lus_tree.specs.declared.expression.Operator.TheVariants.{Implies, Or, Xor, And, Less, AtMost, Equal, Differs, AtLeast, More, Add, Sub, Mul, Div, Mod}
use Rattle.lus_tree.specs.declared.place.Pos.{Pos}
use Rattle.lus_tree.specs.declared.place.Sort.{Sort}
use Rattle.lus_tree.specs.declared.place.Sort.TheVariants.{Bool as Flags, Int as Numbers}
use Rattle.lus_tree.specs.Tree.{Name, Expression, truth, number, name, negation, minus, pre, arrow, binary, choice, sampled, merged, call, condact, mode_name}
use Rattle.lus_tree.specs.Reason.{name_unknown, type_clash, zero_divisor, heavy}
use Rattle.lus_meaning.specs.Value.{Value, absent, flag, whole, has_sort, not_value, minus_value, apply, choose}
use Rattle.lus_meaning.specs.Frame.{empty_frame, entry}
use Rattle.lus_meaning.specs.Meaning.{constant_or}
use Rattle.lus_meaning.specs.Program.{constant_value}
use Rattle.lus_meaning.specs.Run.{sort_of_operator}
use Rattle.lus_meaning.specs.Occurrences.{Standing, within, Occurrence, occurs, begin}
use Rattle.lus_meaning.specs.Scope.{Scope, is_known, is_constant_name, sort_of_entry, value_of_entry, type_of, is_constant, is_zero, apply_total, are_alike, choose_total, size_of, greater, is_heavy, Worth, worth, name_weight, operator_weight, operator_worth, choice_worth, worth_of, constant_of, weight_of}
use Rattle.lus_meaning.specs.Faults.{differ}
use Rattle.lus_meaning.specs.ExpressionFaults.{needs_sort, agree, hinders_constant, operator_faults, form_faults, is_integer, weight_faults, part_faults}
use Rattle.lus_meaning.proofs.EachPart.{Each}
use Rattle.lus_meaning.proofs.NamesOnce.{not_nil, no_parts, not_so}
use Rattle.lus_meaning.specs.Run.{Takes}
use Rattle.lus_meaning.proofs.Typed.{has_as, not_has, minus_has, apply_has, choose_has}

-- ---- truth values and types

not_false : (b : Bool) → not b ≡ false → b ≡ true
not_false true e = refl
not_false false e = absurd (false≢true (sym e))

is_so : (b : Bool) (at : Pos) → cond b [] (at ∷ []) ≡ [] → b ≡ true
is_so true at e = refl
is_so false at e = not_nil at [] e

abbrev is_flags : Sort → Bool
is_flags Flags = true
is_flags Numbers = false

not_flags : {B : Type 0} → Numbers ≡ Flags → B
not_flags e = absurd (false≢true (ap is_flags e))

pub same_sorts : (q r : Sort) → differ (Some q) (Some r) ≡ false → q ≡ r
same_sorts Flags Flags e = refl
same_sorts Numbers Numbers e = refl
same_sorts Flags Numbers e = absurd (false≢true (sym e))
same_sorts Numbers Flags e = absurd (false≢true (sym e))

no_clash : (s : Scope) (q r : Sort) (e : Expression) → needs_sort s q e ≡ [] → type_of s e ≡ Some r → r ≡ q
no_clash s q r e h t = sym (same_sorts q r (subst (λ k. differ (Some q) k ≡ false) t (not_so (differ (Some q) (type_of s e)) type_clash (begin e) h)))

no_dispute : (s : Scope) (q r : Sort) (a b : Expression) → agree s a b ≡ [] → type_of s a ≡ Some q → type_of s b ≡ Some r → r ≡ q
no_dispute s q r a b h t u = sym (same_sorts q r (subst (λ k. differ (Some q) k ≡ false) u
    (subst (λ k. differ k (type_of s b) ≡ false) t (not_so (differ (type_of s a) (type_of s b)) type_clash (begin b) h))))

-- ---- what an operator asks

abbrev Asked : Operator → Sort → Sort → Type 0
Asked o q r = Takes o q × (r ≡ q)

of_sort : (s : Scope) (k : Sort) (a b : Expression) (q r : Sort) → needs_sort s k a ++ needs_sort s k b ≡ [] → type_of s a ≡ Some q
    → type_of s b ≡ Some r → (q ≡ k) × (r ≡ q)
of_sort s k a b q r h t u =
    let e : q ≡ k = no_clash s k q a (no_parts (needs_sort s k a) (needs_sort s k b) h).0 t in
    (e, no_clash s k r b (no_parts (needs_sort s k a) (needs_sort s k b) h).1 u ∙ sym e)

asked : (s : Scope) (at : Pos) (o : Operator) (a b : Expression) (q r : Sort) → operator_faults s at o a b ≡ [] → type_of s a ≡ Some q
    → type_of s b ≡ Some r → Asked o q r
asked s at Implies a b q r h t u = of_sort s Flags a b q r h t u
asked s at Or a b q r h t u = of_sort s Flags a b q r h t u
asked s at Xor a b q r h t u = of_sort s Flags a b q r h t u
asked s at And a b q r h t u = of_sort s Flags a b q r h t u
asked s at Equal a b q r h t u = (tt, no_dispute s q r a b h t u)
asked s at Differs a b q r h t u = (tt, no_dispute s q r a b h t u)
asked s at Less a b q r h t u = of_sort s Numbers a b q r h t u
asked s at AtMost a b q r h t u = of_sort s Numbers a b q r h t u
asked s at AtLeast a b q r h t u = of_sort s Numbers a b q r h t u
asked s at More a b q r h t u = of_sort s Numbers a b q r h t u
asked s at Add a b q r h t u = of_sort s Numbers a b q r h t u
asked s at Sub a b q r h t u = of_sort s Numbers a b q r h t u
asked s at Mul a b q r h t u = of_sort s Numbers a b q r (no_parts _ _ h).0 t u
asked s at Div a b q r h t u = of_sort s Numbers a b q r (no_parts _ _ (no_parts _ _ h).0).0 t u
asked s at Mod a b q r h t u = of_sort s Numbers a b q r (no_parts _ _ (no_parts _ _ h).0).0 t u

-- a constant divisor is not 0
not_zero : (s : Scope) (at : Pos) (b : Expression) → ((is_constant s b && is_zero (constant_of s b)) ≡ false) → is_constant s b ≡ true
    → is_zero (constant_of s b) ≡ false
not_zero s at b h c = subst (λ k. (k && is_zero (constant_of s b)) ≡ false) c h

divided : (o : Operator) (v w : Value) → is_zero w ≡ false → cond (is_zero w) absent (apply o v w) ≡ apply o v w
divided o v w e = ap (λ k. cond k absent (apply o v w)) e

total : (s : Scope) (at : Pos) (o : Operator) (a b : Expression) (v : Value) → operator_faults s at o a b ≡ [] → is_constant s b ≡ true
    → apply_total o v (constant_of s b) ≡ apply o v (constant_of s b)
total s at Implies a b v h c = refl
total s at Or a b v h c = refl
total s at Xor a b v h c = refl
total s at And a b v h c = refl
total s at Equal a b v h c = refl
total s at Differs a b v h c = refl
total s at Less a b v h c = refl
total s at AtMost a b v h c = refl
total s at AtLeast a b v h c = refl
total s at More a b v h c = refl
total s at Add a b v h c = refl
total s at Sub a b v h c = refl
total s at Mul a b v h c = refl
total s at Div a b v h c = divided Div v (constant_of s b) (not_zero s at b
    (not_so (is_constant s b && is_zero (constant_of s b)) zero_divisor at (no_parts _ _ h).1) c)
total s at Mod a b v h c = divided Mod v (constant_of s b) (not_zero s at b
    (not_so (is_constant s b && is_zero (constant_of s b)) zero_divisor at (no_parts _ _ h).1) c)

-- ---- weights

no_weight : (o : Operator) (c : Bool) (a b : Worth) → sort_of_operator o ≡ Flags → operator_weight o c a b ≡ None
no_weight Implies c a b e = refl
no_weight Or c a b e = refl
no_weight Xor c a b e = refl
no_weight And c a b e = refl
no_weight Equal c a b e = refl
no_weight Differs c a b e = refl
no_weight Less c a b e = refl
no_weight AtMost c a b e = refl
no_weight AtLeast c a b e = refl
no_weight More c a b e = refl
no_weight Add c a b e = not_flags e
no_weight Sub c a b e = not_flags e
no_weight Mul c a b e = not_flags e
no_weight Div c a b e = not_flags e
no_weight Mod c a b e = not_flags e

no_greater : (v w : Option ℕ) → v ≡ None → greater v w ≡ None
no_greater v w e = ap (λ k. greater k w) e

no_size : (v : Value) → has_sort Flags v ≡ true → size_of v ≡ None
no_size absent h = refl
no_size (flag b) h = refl
no_size (whole n) h = absurd (false≢true h)

value_kept : (v : Value) (w : Option ℕ) → is_heavy w ≡ false → (worth v w).value ≡ v
value_kept v w e = ap (λ k. cond k absent v) e

worth_alike : (v v' : Value) (w w' : Option ℕ) → v ≡ v' → w ≡ w' → worth v w ≡ worth v' w'
worth_alike v v' w w' e h = ap (λ k. worth k w) e ∙ ap (worth v') h

name_weight_is : (s : Scope) (x : Name) (v : Value) → is_constant_name s x ≡ true → value_of_entry s x ≡ v → name_weight s x ≡ size_of v
name_weight_is s x v c e = ap (λ k. cond k (size_of (value_of_entry s x)) (Some 1)) c ∙ ap size_of e

alike : (q : Sort) (v w : Value) → has_sort q v ≡ true → has_sort q w ≡ true → are_alike v w ≡ true
alike Flags (flag a) (flag b) h g = refl
alike Flags (flag a) absent h g = absurd (false≢true g)
alike Flags (flag a) (whole b) h g = absurd (false≢true g)
alike Flags absent w h g = absurd (false≢true h)
alike Flags (whole a) w h g = absurd (false≢true h)
alike Numbers (whole a) (whole b) h g = refl
alike Numbers (whole a) absent h g = absurd (false≢true g)
alike Numbers (whole a) (flag b) h g = absurd (false≢true g)
alike Numbers absent w h g = absurd (false≢true h)
alike Numbers (flag a) w h g = absurd (false≢true h)

-- ---- names

-- a constant has in both scopes the type and the value that it has among these
pub record NameWorth (sc sc' : Scope) (cs : List (Name × Value)) (x : Name) : Type 0 where
  pub sort : Sort
  pub value : Value
  pub here : sort_of_entry sc x ≡ Some sort
  pub there : sort_of_entry sc' x ≡ Some sort
  pub value_here : value_of_entry sc x ≡ value
  pub value_there : value_of_entry sc' x ≡ value
  pub fixed_there : is_constant_name sc' x ≡ true
  pub found : lookup (bytes_eq x) cs ≡ Some value
  pub has : has_sort sort value ≡ true

-- the same of an expression
pub record ExpressionWorth (sc sc' : Scope) (cs : List (Name × Value)) (e : Expression) : Type 0 where
  pub sort : Sort
  pub here : type_of sc e ≡ Some sort
  pub there : type_of sc' e ≡ Some sort
  pub worth : worth_of sc' e ≡ worth_of sc e
  pub fixed_here : is_constant sc e ≡ true
  pub fixed_there : is_constant sc' e ≡ true
  pub value : constant_of sc e ≡ constant_value cs e
  pub has : has_sort sort (constant_value cs e) ≡ true
  pub weightless : sort ≡ Flags → weight_of sc e ≡ None

both_so : (a b : Bool) → a ≡ true → b ≡ true → (a && b) ≡ true
both_so a b e h = ap (λ k. k && b) e ∙ h

module _ (sc sc' : Scope) (cs : List (Name × Value)) (names : (x : Name) → is_known sc x ≡ true → is_constant_name sc x ≡ true → NameWorth sc sc' cs x) where
  abbrev pub Fine : Occurrence → Type 0
  Fine o = (part_faults sc o ≡ []) × (hinders_constant sc o.expression ≡ [])

  abbrev Has : Expression → Type 0
  Has = ExpressionWorth sc sc' cs

  forms : (t : Standing) (e : Expression) → Fine (occurs t e) → form_faults sc t.whole_side e ≡ []
  forms t e f = (no_parts (form_faults sc t.whole_side e) (weight_faults sc e) f.0).0

  not_heavy : (t : Standing) (e : Expression) (q : Sort) → Fine (occurs t e) → type_of sc e ≡ Some q → (q ≡ Flags → weight_of sc e ≡ None)
      → is_heavy (weight_of sc e) ≡ false
  not_heavy t e Flags f k w = ap is_heavy (w refl)
  not_heavy t e Numbers f k w =
      subst (λ o. (is_integer o && is_heavy (weight_of sc e)) ≡ false) k
      (not_so (is_integer (type_of sc e) && is_heavy (weight_of sc e)) heavy (begin e)
      (no_parts (form_faults sc t.whole_side e) (weight_faults sc e) f.0).1)

  pub worths : (t : Standing) (e : Expression) → Each Fine sc.owner t e → Has e
  worths t (truth p b) g = record {
    sort = Flags;
    here = refl;
    there = refl;
    worth = refl;
    fixed_here = refl;
    fixed_there = refl;
    value =
        refl;
    has = refl;
    weightless = λ h. refl;
  }
  worths t (number p k) g = record {
    sort = Numbers;
    here = refl;
    there = refl;
    worth = refl;
    fixed_here = refl;
    fixed_there = refl;
    value = value_kept (whole (pos k)) (Some k) (not_heavy t (number p k) Numbers g refl (λ h. not_flags h));
    has = refl;
    weightless = λ h. not_flags h;
  }
  worths t (name p x) g =
      let k : is_known sc x ≡ true = not_false (is_known sc x) (not_so (not (is_known sc x)) name_unknown p.at (forms t (name p x) g)) in
      let c : is_constant_name sc x ≡ true = is_so (is_constant_name sc x) p.at g.1 in
      let w : NameWorth sc sc' cs x = names x k c in
      let light : w.sort ≡ Flags → name_weight sc x ≡ None = λ h. name_weight_is sc x w.value c w.value_here ∙ no_size w.value
      (has_as w.sort Flags w.value h w.has) in
      let v : w.value ≡ constant_value cs (name p x) = sym (ap (λ o. constant_or o (λ u. true) (entry empty_frame x) 0) w.found) in
      record {
        sort = w.sort;
        here = w.here;
        there = w.there;
        worth = worth_alike (value_of_entry sc' x) (value_of_entry sc x) (name_weight sc' x) (name_weight sc x) (w.value_there ∙ sym w.value_here)
            (name_weight_is sc' x w.value w.fixed_there w.value_there ∙ sym (name_weight_is sc x w.value c w.value_here));
        fixed_here = c;
        fixed_there = w.fixed_there;
        value = value_kept (value_of_entry sc x) (name_weight sc x) (not_heavy t (name p x) w.sort g w.here light) ∙ w.value_here ∙ v;
        has = subst (λ u. has_sort w.sort u ≡ true) v w.has;
        weightless = light;
      }
  worths t (negation p a) g =
      let r : Has a = worths (within t) a g.1 in
      let e : r.sort ≡ Flags = no_clash sc Flags r.sort a (forms t (negation p a) g.0) r.here in
      record {
        sort = Flags;
        here = refl;
        there = refl;
        worth = ap (λ w. worth (not_value w.value) None) r.worth;
        fixed_here = r.fixed_here;
        fixed_there = r.fixed_there;
        value = ap not_value r.value;
        has = not_has (constant_value cs a) (has_as r.sort Flags (constant_value cs a) e r.has);
        weightless = λ h. refl;
      }
  worths t (minus p a) g =
      let r : Has a = worths (within t) a g.1 in
      let e : r.sort ≡ Numbers = no_clash sc Numbers r.sort a (forms t (minus p a) g.0) r.here in
      record {
        sort = Numbers;
        here = refl;
        there = refl;
        worth = ap (λ w. worth (minus_value w.value) w.weight) r.worth;
        fixed_here = r.fixed_here;
        fixed_there = r.fixed_there;
        value = value_kept (minus_value (constant_of sc a)) (weight_of sc a) (not_heavy t (minus p a) Numbers g.0 refl (λ h. not_flags h))
            ∙ ap minus_value r.value;
        has = minus_has (constant_value cs a) (has_as r.sort Numbers (constant_value cs a) e r.has);
        weightless = λ h. not_flags h;
      }
  worths t (pre p k a) g = not_nil _ _ g.0.1
  worths t (arrow p k a b) g = not_nil _ _ g.0.1
  worths t (binary p o a b) g =
      let r : Has a = worths (within t) a g.1 in
      let q : Has b = worths (within t) b g.2 in
      let f : operator_faults sc p.at o a b ≡ [] = forms t (binary p o a b) g.0 in
      let k : Asked o r.sort q.sort = asked sc p.at o a b r.sort q.sort f r.here q.here in
      let light : sort_of_operator o ≡ Flags → weight_of sc (binary p o a b) ≡ None = no_weight o (is_constant sc a) (worth_of sc a) (worth_of sc b) in
      record {
        sort = sort_of_operator o;
        here = refl;
        there = refl;
        worth = ap (λ c. operator_worth o c (worth_of sc' a) (worth_of sc' b)) (r.fixed_there ∙ sym r.fixed_here) ∙ ap
            (λ w. operator_worth o (is_constant sc a) w (worth_of sc' b)) r.worth ∙ ap
            (operator_worth o (is_constant sc a) (worth_of sc a)) q.worth;
        fixed_here = both_so (is_constant sc a) (is_constant sc b) r.fixed_here q.fixed_here;
        fixed_there = both_so (is_constant sc' a) (is_constant sc' b) r.fixed_there q.fixed_there;
        value = value_kept (apply_total o (constant_of sc a) (constant_of sc b))
            (operator_weight o (is_constant sc a) (worth_of sc a) (worth_of sc b))
            (not_heavy t (binary p o a b) (sort_of_operator o) g.0 refl light)
            ∙ total sc p.at o a b (constant_of sc a) f q.fixed_here ∙ ap (λ v. apply o v (constant_of sc b)) r.value ∙ ap
            (apply o (constant_value cs a)) q.value;
        has = apply_has o r.sort (constant_value cs a) (constant_value cs b) k.0 r.has (has_as q.sort r.sort (constant_value cs b) k.1 q.has);
        weightless = light;
      }
  worths t (choice p a b d) g =
      let r : Has a = worths (within t) a g.1 in
      let q : Has b = worths (within t) b g.2 in
      let u : Has d = worths (within t) d g.3 in
      let f : needs_sort sc Flags a ++ agree sc b d ≡ [] = forms t (choice p a b d) g.0 in
      let k : r.sort ≡ Flags = no_clash sc Flags r.sort a (no_parts (needs_sort sc Flags a) (agree sc b d) f).0 r.here in
      let m : u.sort ≡ q.sort = no_dispute sc q.sort u.sort b d (no_parts (needs_sort sc Flags a) (agree sc b d) f).1 q.here u.here in
      let there : has_sort q.sort (constant_value cs d) ≡ true = has_as u.sort q.sort (constant_value cs d) m u.has in
      let light : q.sort ≡ Flags → weight_of sc (choice p a b d) ≡ None = λ h. no_greater (weight_of sc b) (weight_of sc d) (q.weightless h) in
      let like : are_alike (constant_of sc b) (constant_of sc d) ≡ true =
      alike q.sort (constant_of sc b) (constant_of sc d) (subst (λ v. has_sort q.sort v ≡ true) (sym q.value) q.has)
      (subst (λ v. has_sort q.sort v ≡ true) (sym u.value) there) in
      record {
        sort = q.sort;
        here = q.here;
        there = q.there;
        worth = ap (λ w. choice_worth w (worth_of sc' b) (worth_of sc' d)) r.worth ∙ ap
            (λ w. choice_worth (worth_of sc a) w (worth_of sc' d)) q.worth ∙ ap (choice_worth (worth_of sc a) (worth_of sc b)) u.worth;
        fixed_here = both_so (is_constant sc a) (is_constant sc b && is_constant sc d) r.fixed_here
            (both_so (is_constant sc b) (is_constant sc d) q.fixed_here u.fixed_here);
        fixed_there = both_so (is_constant sc' a) (is_constant sc' b && is_constant sc' d) r.fixed_there
            (both_so (is_constant sc' b) (is_constant sc' d) q.fixed_there u.fixed_there);
        value = value_kept (choose_total (constant_of sc a) (constant_of sc b) (constant_of sc d))
            (greater (weight_of sc b) (weight_of sc d)) (not_heavy t (choice p a b d) q.sort g.0 q.here light)
            ∙ ap (λ c. cond c (choose (constant_of sc a) (constant_of sc b) (constant_of sc d)) absent) like
            ∙ ap (λ v. choose v (constant_of sc b) (constant_of sc d)) r.value ∙ ap
            (λ v. choose (constant_value cs a) v (constant_of sc d)) q.value ∙ ap
            (choose (constant_value cs a) (constant_value cs b)) u.value;
        has = choose_has q.sort (constant_value cs a) (constant_value cs b) (constant_value cs d)
            (has_as r.sort Flags (constant_value cs a) k r.has) q.has there;
        weightless = light;
      }
  worths t (sampled p a b x) g = not_nil _ _ g.0.1
  worths t (merged p x a b) g = not_nil _ _ g.0.1
  worths t (call p k f as_) g = not_nil _ _ g.0.1
  worths t (condact p k a f as_ ds) g = not_nil _ _ g.0.1
  worths t (mode_name p c m) g = not_nil _ _ g.1
