-- A part is the translation's term of the expression.
use Rattle.std.proofs.Common.{◌≡◌, ℕ, zero, suc, Bool, true, false, cond, ◌&&◌, List, [], ◌∷◌, Option, Some, None, option_map, is_some, refl, sym, ap, ◌∙◌, subst, pos}
use Rattle.std.specs.Map.{lookup}
use Rattle.std.specs.Str.{bytes_eq}
use Rattle.std.proofs.Math.Logic.{◌⊎◌, inl, inr}
use Rattle.std.proofs.lemmas.Bool.{true≢false}
use Rattle.lus_tree.specs.declared.expression.Operator.{Operator}
use Rattle.lus_tree.specs.declared.expression.Operator.TheVariants.{Implies, Or, Xor, And, Less, AtMost, Equal, Differs, AtLeast, More, Add, Sub, Mul, Div, Mod}
use Rattle.lus_tree.specs.Tree.{Place, Name, text_of, Expression, truth, number, name, negation, minus, pre, arrow, binary, choice, sampled, merged, call, condact, mode_name}
use Rattle.lus_meaning.specs.Value.{Value, absent, whole}
use Rattle.lus_meaning.specs.Frame.{empty_frame, entry}
use Rattle.lus_meaning.specs.Scene.{Clock, base, sampled_by, component_of, constants_of, clock_of}
use Rattle.lus_meaning.specs.Meaning.{constant_or}
use Rattle.lus_meaning.specs.Program.{constant_value}
use Rattle.lus_meaning.specs.Run.{sort_of, sort_of_name}
use Rattle.lus_meaning.specs.Scope.{choose_total}
use Rattle.sys_terms.specs.View.{Formula}
use Rattle.sys_terms.specs.View as v
use Rattle.sys_meaning.specs.Slot.{own, starting}
use Rattle.sys_meaning.specs.Defaults.{is_constant}
use Rattle.sys_meaning.specs.Part.{Part, a_flag, formula_of, fixed, variable, not_part, minus_part, choose_part, scaled}
use Rattle.sys_meaning.specs.Translate.{Stage, term_of, right_terms, head_part, binary_part, constant_number, number_of_value}
use Rattle.sys_meaning.specs.Translate as t
use Rattle.sys_parts.specs.Values.{is_small}
use Rattle.sys_texts.specs.Sights.{Sight, Mode, number_at, flag_at, name_number, name_clock, name_part, name_flag, outputs_at, latest_at, asked_of}
use Rattle.sys_texts.specs.Texts.{Folded, known, left_open, as_part, negated, opposite, operated, operated_parts, chosen, chosen_parts, folded, folded_name, sort_by, part_of, right_parts, present_within, present}
use Rattle.sys_texts.specs.Laws.{IsSightOf, HasConstant, IsSteady}

picked_true : {A : Type 0} (b : Bool) (x y : A) → b ≡ true → cond b x y ≡ x
picked_true b x y e = ap (λ c. cond c x y) e

picked_false : {A : Type 0} (b : Bool) (x y : A) → b ≡ false → cond b x y ≡ y
picked_false b x y e = ap (λ c. cond c x y) e

both_true : (a b : Bool) → a ≡ true → b ≡ true → (a && b) ≡ true
both_true a b e h = ap (λ k. k && b) e ∙ h

first_false : (a b : Bool) → a ≡ false → (a && b) ≡ false
first_false a b e = ap (λ k. k && b) e

second_false : (a b : Bool) → b ≡ false → (a && b) ≡ false
second_false true b e = e
second_false false b e = refl

never : {A : Type 0} (b : Bool) → b ≡ true → b ≡ false → A
never b e h = absurd (true≢false (sym e ∙ h))

module _ (s : Sight) (ms : List Mode) (g : Stage) (h : IsSightOf s ms g) where
  abbrev cs : List (Name × Value)
  cs = constants_of g.place

  -- it comes to its value, where it is constant
  record Fixed (e : Expression) (f : Folded) : Type 0 where
    is_value : f ≡ known (constant_value cs e)
    is_fixed : is_constant cs e ≡ true
    is_term : fixed (constant_value cs e) ≡ term_of g e

  -- and to its term, where it isn't
  record Opened (e : Expression) (f : Folded) : Type 0 where
    part : Part
    is_part : f ≡ left_open part
    is_open : is_constant cs e ≡ false
    is_term : part ≡ term_of g e

  abbrev Came : Expression → Folded → Type 0
  Came e f = Fixed e f ⊎ Opened e f

  part_is : (e : Expression) (f : Folded) → Came e f → as_part f ≡ term_of g e
  part_is e f (inl k) = ap as_part k.is_value ∙ k.is_term
  part_is e f (inr m) = ap as_part m.is_part ∙ m.is_term

  name_part_is : (x : Name) → name_part s x ≡ t.name_part g x
  name_part_is x = ap (λ q. variable q (name_number s x)) (h.sorts x) ∙ ap (variable (sort_of_name g.place x)) (h.numbers x)

  name_flag_is : (x : Name) → name_flag s x ≡ t.name_flag g x
  name_flag_is x = ap flag_at (h.numbers x)

  name_came : (p : Place) (x : Name) (o : Option Value) → lookup (bytes_eq x) cs ≡ o → Came (name p x) (folded_name s x o)
  name_came p x (Some v) e = inl record {
    is_value = ap known (sym (ap (λ k. constant_or k (λ u. true) (entry empty_frame x) 0) e));
    is_fixed = ap is_some e;
    is_term = sym (picked_true (is_some (lookup (bytes_eq x) cs)) (fixed (constant_value cs (name p x))) (t.name_part g x) (ap is_some e));
  }
  name_came p x None e = inr record {
    part = name_part s x;
    is_part = refl;
    is_open = ap is_some e;
    is_term = name_part_is x
        ∙ sym (picked_false (is_some (lookup (bytes_eq x) cs)) (fixed (constant_value cs (name p x))) (t.name_part g x) (ap is_some e));
  }

  negation_came : (p : Place) (a : Expression) (f : Folded) → Came a f → Came (negation p a) (negated f)
  negation_came p a f (inl k) = inl record {
    is_value = ap negated k.is_value;
    is_fixed = k.is_fixed;
    is_term = sym (picked_true (is_constant cs a) (fixed (constant_value cs (negation p a))) (not_part (term_of g a)) k.is_fixed);
  }
  negation_came p a f (inr m) = inr record {
    part = not_part m.part;
    is_part = ap negated m.is_part;
    is_open = m.is_open;
    is_term = ap not_part m.is_term
        ∙ sym (picked_false (is_constant cs a) (fixed (constant_value cs (negation p a))) (not_part (term_of g a)) m.is_open);
  }

  minus_came : (p : Place) (a : Expression) (f : Folded) → IsSteady cs (minus p a) → Came a f → Came (minus p a) (opposite f)
  minus_came p a f u (inl k) = inl record {
    is_value = ap opposite k.is_value ∙ ap known (u.0 k.is_fixed);
    is_fixed = k.is_fixed;
    is_term = sym (picked_true (is_constant cs a) (fixed (constant_value cs (minus p a))) (minus_part (term_of g a)) k.is_fixed);
  }
  minus_came p a f u (inr m) = inr record {
    part = minus_part m.part;
    is_part = ap opposite m.is_part;
    is_open = m.is_open;
    is_term = ap minus_part m.is_term
        ∙ sym (picked_false (is_constant cs a) (fixed (constant_value cs (minus p a))) (minus_part (term_of g a)) m.is_open);
  }

  -- ---- operators

  left_fixed : (o : Operator) (a b : Expression) (q : Part) → HasConstant cs o a b → is_constant cs a ≡ true → is_constant cs b ≡ false
      → operated_parts o (known (constant_value cs a)) (left_open q) ≡ binary_part g o a b (fixed (constant_value cs a)) q
  left_fixed Mul a b q c e f =
      sym (picked_true (is_constant cs a) (scaled (constant_number g a) q) (scaled (constant_number g b) (fixed (constant_value cs a))) e)
  left_fixed Div a b q c e f = never (is_constant cs b) c f
  left_fixed Mod a b q c e f = never (is_constant cs b) c f
  left_fixed Implies a b q c e f = refl
  left_fixed Or a b q c e f = refl
  left_fixed Xor a b q c e f = refl
  left_fixed And a b q c e f = refl
  left_fixed Less a b q c e f = refl
  left_fixed AtMost a b q c e f = refl
  left_fixed Equal a b q c e f = refl
  left_fixed Differs a b q c e f = refl
  left_fixed AtLeast a b q c e f = refl
  left_fixed More a b q c e f = refl
  left_fixed Add a b q c e f = refl
  left_fixed Sub a b q c e f = refl

  right_fixed : (o : Operator) (a b : Expression) (p : Part) → is_constant cs a ≡ false
      → operated_parts o (left_open p) (known (constant_value cs b)) ≡ binary_part g o a b p (fixed (constant_value cs b))
  right_fixed Mul a b p e =
      sym (picked_false (is_constant cs a) (scaled (constant_number g a) (fixed (constant_value cs b))) (scaled (constant_number g b) p) e)
  right_fixed Div a b p e = refl
  right_fixed Mod a b p e = refl
  right_fixed Implies a b p e = refl
  right_fixed Or a b p e = refl
  right_fixed Xor a b p e = refl
  right_fixed And a b p e = refl
  right_fixed Less a b p e = refl
  right_fixed AtMost a b p e = refl
  right_fixed Equal a b p e = refl
  right_fixed Differs a b p e = refl
  right_fixed AtLeast a b p e = refl
  right_fixed More a b p e = refl
  right_fixed Add a b p e = refl
  right_fixed Sub a b p e = refl

  none_fixed : (o : Operator) (a b : Expression) (p q : Part) → HasConstant cs o a b → is_constant cs a ≡ false → is_constant cs b ≡ false
      → operated_parts o (left_open p) (left_open q) ≡ binary_part g o a b p q
  none_fixed Mul a b p q (inl c) e f = never (is_constant cs a) c e
  none_fixed Mul a b p q (inr c) e f = never (is_constant cs b) c f
  none_fixed Div a b p q c e f = never (is_constant cs b) c f
  none_fixed Mod a b p q c e f = never (is_constant cs b) c f
  none_fixed Implies a b p q c e f = refl
  none_fixed Or a b p q c e f = refl
  none_fixed Xor a b p q c e f = refl
  none_fixed And a b p q c e f = refl
  none_fixed Less a b p q c e f = refl
  none_fixed AtMost a b p q c e f = refl
  none_fixed Equal a b p q c e f = refl
  none_fixed Differs a b p q c e f = refl
  none_fixed AtLeast a b p q c e f = refl
  none_fixed More a b p q c e f = refl
  none_fixed Add a b p q c e f = refl
  none_fixed Sub a b p q c e f = refl

  module _ (p : Place) (o : Operator) (a b : Expression) where
    abbrev fixed_here : Bool
    fixed_here = is_constant cs a && is_constant cs b

    not_fixed : (part : Part) → fixed_here ≡ false → part ≡ binary_part g o a b (term_of g a) (term_of g b) → part ≡ term_of g (binary p o a b)
    not_fixed part e q = q ∙ sym (picked_false fixed_here (fixed (constant_value cs (binary p o a b))) (binary_part g o a b (term_of g a) (term_of g b)) e)

    parts_same : (x y : Part) → x ≡ term_of g a → y ≡ term_of g b → binary_part g o a b x y ≡ binary_part g o a b (term_of g a) (term_of g b)
    parts_same x y e q = ap (λ z. binary_part g o a b z y) e ∙ ap (binary_part g o a b (term_of g a)) q

    operated_same : (f f' k k' : Folded) → f ≡ f' → k ≡ k' → operated o f k ≡ operated o f' k'
    operated_same f f' k k' e q = ap (λ z. operated o z k) e ∙ ap (operated o f') q

    binary_came : (f k : Folded) → IsSteady cs (binary p o a b) → Came a f → Came b k → Came (binary p o a b) (operated o f k)
    binary_came f k u (inl m) (inl n) =
        let both : fixed_here ≡ true = both_true (is_constant cs a) (is_constant cs b) m.is_fixed n.is_fixed in
        inl record {
          is_value = operated_same f (known (constant_value cs a)) k (known (constant_value cs b)) m.is_value n.is_value ∙ ap known (u.1 both);
          is_fixed = both;
          is_term = sym (picked_true fixed_here (fixed (constant_value cs (binary p o a b))) (binary_part g o a b (term_of g a) (term_of g b)) both);
        }
    binary_came f k u (inl m) (inr n) = inr record {
      part = operated_parts o (known (constant_value cs a)) (left_open n.part);
      is_part = operated_same f (known (constant_value cs a)) k (left_open n.part) m.is_value n.is_part;
      is_open = second_false (is_constant cs a) (is_constant cs b) n.is_open;
      is_term = not_fixed (operated_parts o (known (constant_value cs a)) (left_open n.part)) (second_false (is_constant cs a) (is_constant cs b) n.is_open)
          (left_fixed o a b n.part u.0 m.is_fixed n.is_open ∙ parts_same (fixed (constant_value cs a)) n.part m.is_term n.is_term);
    }
    binary_came f k u (inr m) (inl n) = inr record {
      part = operated_parts o (left_open m.part) (known (constant_value cs b));
      is_part = operated_same f (left_open m.part) k (known (constant_value cs b)) m.is_part n.is_value;
      is_open = first_false (is_constant cs a) (is_constant cs b) m.is_open;
      is_term = not_fixed (operated_parts o (left_open m.part) (known (constant_value cs b))) (first_false (is_constant cs a) (is_constant cs b) m.is_open)
          (right_fixed o a b m.part m.is_open ∙ parts_same m.part (fixed (constant_value cs b)) m.is_term n.is_term);
    }
    binary_came f k u (inr m) (inr n) = inr record {
      part = operated_parts o (left_open m.part) (left_open n.part);
      is_part = operated_same f (left_open m.part) k (left_open n.part) m.is_part n.is_part;
      is_open = first_false (is_constant cs a) (is_constant cs b) m.is_open;
      is_term = not_fixed (operated_parts o (left_open m.part) (left_open n.part)) (first_false (is_constant cs a) (is_constant cs b) m.is_open)
          (none_fixed o a b m.part n.part u.0 m.is_open n.is_open ∙ parts_same m.part n.part m.is_term n.is_term);
    }

  -- ---- choices

  module _ (p : Place) (a b d : Expression) where
    abbrev all_fixed : Bool
    all_fixed = is_constant cs a && (is_constant cs b && is_constant cs d)

    abbrev term_here : Part
    term_here = choose_part (formula_of (term_of g a)) (term_of g b) (term_of g d)

    opened : (f k l : Folded) → Came a f → Came b k → Came d l → all_fixed ≡ false → chosen f k l ≡ left_open (chosen_parts f k l)
        → Came (choice p a b d) (chosen f k l)
    opened f k l m n r e q = inr record {
      part = chosen_parts f k l;
      is_part = q;
      is_open = e;
      is_term = ap (λ z. choose_part (formula_of z) (as_part k) (as_part l)) (part_is a f m)
          ∙ (ap (λ z. choose_part (formula_of (term_of g a)) z (as_part l)) (part_is b k n)
          ∙ (ap (choose_part (formula_of (term_of g a)) (term_of g b)) (part_is d l r)
          ∙ sym (picked_false all_fixed (fixed (constant_value cs (choice p a b d))) term_here e)));
    }

    open_at_first : (f k l : Folded) (q : Part) → f ≡ left_open q → chosen f k l ≡ left_open (chosen_parts f k l)
    open_at_first f k l q e = subst (λ z. chosen z k l ≡ left_open (chosen_parts z k l)) (sym e) refl

    open_at_second : (f k l : Folded) (v : Value) (q : Part) → f ≡ known v → k ≡ left_open q → chosen f k l ≡ left_open (chosen_parts f k l)
    open_at_second f k l v q e c =
        subst (λ z. chosen z k l ≡ left_open (chosen_parts z k l)) (sym e)
        (subst (λ z. chosen (known v) z l ≡ left_open (chosen_parts (known v) z l)) (sym c) refl)

    open_at_third : (f k l : Folded) (v w : Value) (q : Part) → f ≡ known v → k ≡ known w → l ≡ left_open q
        → chosen f k l ≡ left_open (chosen_parts f k l)
    open_at_third f k l v w q e c i =
        subst (λ z. chosen z k l ≡ left_open (chosen_parts z k l)) (sym e)
        (subst (λ z. chosen (known v) z l ≡ left_open (chosen_parts (known v) z l)) (sym c)
        (subst (λ z. chosen (known v) (known w) z ≡ left_open (chosen_parts (known v) (known w) z)) (sym i) refl))

    all_known : (f k l : Folded) (x y z : Value) → f ≡ known x → k ≡ known y → l ≡ known z → chosen f k l ≡ known (choose_total x y z)
    all_known f k l x y z e c i =
        ap (λ w. chosen w k l) e ∙ (ap (λ w. chosen (known x) w l) c ∙ ap (chosen (known x) (known y)) i)

    choice_came : (f k l : Folded) → IsSteady cs (choice p a b d) → Came a f → Came b k → Came d l → Came (choice p a b d) (chosen f k l)
    choice_came f k l u (inl m) (inl n) (inl r) =
        let all : all_fixed ≡ true = both_true (is_constant cs a) (is_constant cs b && is_constant cs d) m.is_fixed
        (both_true (is_constant cs b) (is_constant cs d) n.is_fixed r.is_fixed) in
        inl record {
          is_value = all_known f k l (constant_value cs a) (constant_value cs b) (constant_value cs d) m.is_value n.is_value r.is_value
              ∙ ap known (u.0 all);
          is_fixed = all;
          is_term = sym (picked_true all_fixed (fixed (constant_value cs (choice p a b d))) term_here all);
        }
    choice_came f k l u (inl m) (inl n) (inr r) =
        opened f k l (inl m) (inl n) (inr r)
        (second_false (is_constant cs a) (is_constant cs b && is_constant cs d) (second_false (is_constant cs b) (is_constant cs d) r.is_open))
        (open_at_third f k l (constant_value cs a) (constant_value cs b) r.part m.is_value n.is_value r.is_part)
    choice_came f k l u (inl m) (inr n) r =
        opened f k l (inl m) (inr n) r
        (second_false (is_constant cs a) (is_constant cs b && is_constant cs d) (first_false (is_constant cs b) (is_constant cs d) n.is_open))
        (open_at_second f k l (constant_value cs a) n.part m.is_value n.is_part)
    choice_came f k l u (inr m) n r =
        opened f k l (inr m) n r (first_false (is_constant cs a) (is_constant cs b && is_constant cs d) m.is_open)
        (open_at_first f k l m.part m.is_part)

  -- ---- expressions

  pub sort_is : (e : Expression) → sort_by s e ≡ sort_of g.place e
  sort_is (truth p b) = refl
  sort_is (number p n) = refl
  sort_is (name p x) = h.sorts x
  sort_is (negation p a) = refl
  sort_is (minus p a) = refl
  sort_is (pre p k a) = sort_is a
  sort_is (arrow p k a b) = sort_is a
  sort_is (binary p o a b) = refl
  sort_is (choice p a b d) = sort_is b
  sort_is (sampled p a b x) = sort_is a
  sort_is (merged p x a b) = sort_is a
  sort_is (call p k f as_) = h.callees f.text
  sort_is (condact p k a f as_ ds) = h.callees f.text
  sort_is (mode_name p d m) = refl

  never_fixed : (e : Expression) (q : Part) → is_constant cs e ≡ false → q ≡ term_of g e → Came e (left_open q)
  never_fixed e q c i = inr record { part = q; is_part = refl; is_open = c; is_term = i }

  choice_of_parts : (c c' : Formula) (x x' y y' : Part) → c ≡ c' → x ≡ x' → y ≡ y' → choose_part c x y ≡ choose_part c' x' y'
  choice_of_parts c c' x x' y y' e i j = ap (λ z. choose_part z x y) e ∙ (ap (λ z. choose_part c' z y) i ∙ ap (choose_part c' x') j)

  came : (e : Expression) → IsSteady cs e → Came e (folded s ms e)
  came (truth p b) u = inl record { is_value = refl; is_fixed = refl; is_term = refl }
  came (number p n) u = inl record {
    is_value = ap known (picked_true (is_small (whole (pos n))) (whole (pos n)) absent u);
    is_fixed = refl;
    is_term = refl;
  }
  came (name p x) u = subst (λ o. Came (name p x) (folded_name s x o)) (sym (h.constants x)) (name_came p x (lookup (bytes_eq x) cs) refl)
  came (negation p a) u = negation_came p a (folded s ms a) (came a u)
  came (minus p a) u = minus_came p a (folded s ms a) u (came a u.1)
  came (pre p k a) u = never_fixed (pre p k a) (variable (sort_by s a) (number_at s.memories s.missing k)) refl
      (ap (λ q. variable q (number_at s.memories s.missing k)) (sort_is a) ∙ ap (variable (sort_of g.place a)) (h.memories k))
  came (arrow p k a b) u = never_fixed (arrow p k a b)
      (choose_part (flag_at (number_at s.starts s.missing k)) (as_part (folded s ms a)) (as_part (folded s ms b))) refl
      (choice_of_parts (flag_at (number_at s.starts s.missing k)) (t.flag_at g (own (starting k))) (as_part (folded s ms a)) (term_of g a)
      (as_part (folded s ms b)) (term_of g b) (ap flag_at (h.starts k)) (part_is a (folded s ms a) (came a u.0))
      (part_is b (folded s ms b) (came b u.1)))
  came (binary p o a b) u = binary_came p o a b (folded s ms a) (folded s ms b) u (came a u.2) (came b u.3)
  came (choice p a b d) u = choice_came p a b d (folded s ms a) (folded s ms b) (folded s ms d) u (came a u.1) (came b u.2) (came d u.3)
  came (sampled p a b x) u = never_fixed (sampled p a b x) (as_part (folded s ms a)) refl (part_is a (folded s ms a) (came a u))
  came (merged p x a b) u = never_fixed (merged p x a b)
      (choose_part (name_flag s x.text) (as_part (folded s ms a)) (as_part (folded s ms b))) refl
      (choice_of_parts (name_flag s x.text) (t.name_flag g x.text) (as_part (folded s ms a)) (term_of g a) (as_part (folded s ms b))
      (term_of g b) (name_flag_is x.text) (part_is a (folded s ms a) (came a u.0)) (part_is b (folded s ms b) (came b u.1)))
  came (call p k f as_) u = never_fixed (call p k f as_) (head_part (outputs_at s k)) refl (ap head_part (h.outputs k))
  came (condact p k a f as_ ds) u = never_fixed (condact p k a f as_ ds) (head_part (latest_at s k)) refl (ap head_part (h.latest k))
  came (mode_name p d m) u = never_fixed (mode_name p d m) (a_flag (asked_of ms (option_map text_of d) m.text)) refl
      (ap a_flag (h.modes (option_map text_of d) m.text))

  pub parts_are : (e : Expression) → IsSteady cs e → part_of s ms e ≡ term_of g e
  parts_are e u = part_is e (folded s ms e) (came e u)

  one : (e : Expression) → IsSteady cs e → part_of s ms e ∷ [] ≡ term_of g e ∷ []
  one e u = ap (λ q. q ∷ []) (parts_are e u)

  pub rights_are : (e : Expression) → IsSteady cs e → right_parts s ms e ≡ right_terms g e
  rights_are (truth p b) u = one (truth p b) u
  rights_are (number p n) u = one (number p n) u
  rights_are (name p x) u = one (name p x) u
  rights_are (negation p a) u = one (negation p a) u
  rights_are (minus p a) u = one (minus p a) u
  rights_are (pre p k a) u = one (pre p k a) u
  rights_are (arrow p k a b) u = one (arrow p k a b) u
  rights_are (binary p o a b) u = one (binary p o a b) u
  rights_are (choice p a b d) u = one (choice p a b d) u
  rights_are (sampled p a b x) u = one (sampled p a b x) u
  rights_are (merged p x a b) u = one (merged p x a b) u
  rights_are (call p k f as_) u = h.outputs k
  rights_are (condact p k a f as_ ds) u = h.latest k
  rights_are (mode_name p d m) u = one (mode_name p d m) u

  -- ---- presence

  within_is : (m : ℕ) (c : Clock) → present_within m s c ≡ t.present_within m g c
  within_is zero base = ap flag_at h.beats
  within_is (suc m) base = ap flag_at h.beats
  within_is zero (sampled_by b x) = refl
  within_is (suc m) (sampled_by true x) = name_flag_is x
  within_is (suc m) (sampled_by false x) =
      ap (λ q. v.both (present_within m s (name_clock s x)) (v.negation q)) (name_flag_is x)
      ∙ ap (λ q. v.both q (v.negation (t.name_flag g x)))
      (ap (present_within m s) (h.clocks x) ∙ within_is m (clock_of (component_of g.place) x))

  pub presence_is : (c : Clock) → present s c ≡ t.present g c
  presence_is c = ap (λ m. present_within m s c) h.streams ∙ within_is _ c
