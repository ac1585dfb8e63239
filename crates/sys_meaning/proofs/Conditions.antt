-- When the conditions of a state are true.
use Rattle.std.proofs.Common.{◌≡◌, ℕ, Bool, true, false, cond, not, ◌&&◌, refl, ap, ◌∙◌, sym}
use Rattle.std.specs.Ordering.{int_eq}
use Rattle.std.specs.Bool.{beq}
use Rattle.sys_terms.specs.Meaning.{equal_flags}
use Rattle.std.specs.Cmp.{signed_Decides}
use Rattle.std.proofs.lemmas.Bool.{false≢true, true≢false}
use Rattle.lus_tree.specs.declared.place.Sort.{Sort}
use Rattle.lus_tree.specs.declared.place.Sort.TheVariants.{Bool as Flags, Int as Numbers}
use Rattle.lus_tree.specs.Tree.{Variable}
use Rattle.lus_meaning.specs.Value.{Value, absent, flag, whole, has_sort, equal_values}
use Rattle.lus_meaning.specs.Trace.{or_default}
use Rattle.sys_terms.specs.Meaning.{Values, truth_of}
use Rattle.sys_meaning.specs.Slot.{Spot, named, own}
use Rattle.sys_meaning.specs.Part.{Part, variable_in, zero_of, choose_part, equal_parts, worth, value_in}
use Rattle.sys_meaning.specs.Translate.{Stage, present}
use Rattle.sys_meaning.specs.System.{variable_of, clock_of_variable, equals_where_on, is_free, becomes}
use Rattle.sys_meaning.proofs.Operators.{flags_bool, equal_worth, choose_worth}
use Rattle.sys_meaning.proofs.Shown.{variable_worth, value_has}

pub bools_equal : (a b : Bool) → equal_flags a b ≡ true → a ≡ b
bools_equal true true e = refl
bools_equal true false e = absurd (false≢true e)
bools_equal false true e = absurd (false≢true e)
bools_equal false false e = refl

pub equal_flags_self : (a : Bool) → equal_flags a a ≡ true
equal_flags_self true = refl
equal_flags_self false = refl

abbrev inside : Value → Bool
inside absent = false
inside (flag c) = c
inside (whole n) = false

pub flags_same : (a b : Bool) → flag a ≡ flag b → a ≡ b
flags_same a b e = ap inside e

-- values of one type that are found equal are equal
pub equal_found : (s : Sort) (v w : Value) → has_sort s v ≡ true → has_sort s w ≡ true →
    equal_values v w ≡ flag true → v ≡ w
equal_found Flags (flag a) (flag b) h k e = ap flag (bools_equal a b (flags_bool a b ∙ flags_same (beq a b) true e))
equal_found Numbers (whole a) (whole b) h k e = ap whole ((signed_Decides a b).0 (flags_same (int_eq a b) true e))
equal_found Flags absent w h k e = absurd (false≢true h)
equal_found Flags (whole n) w h k e = absurd (false≢true h)
equal_found Numbers absent w h k e = absurd (false≢true h)
equal_found Numbers (flag b) w h k e = absurd (false≢true h)
equal_found Flags (flag a) absent h k e = absurd (false≢true k)
equal_found Flags (flag a) (whole n) h k e = absurd (false≢true k)
equal_found Numbers (whole a) absent h k e = absurd (false≢true k)
equal_found Numbers (whole a) (flag b) h k e = absurd (false≢true k)

pub equal_self : (s : Sort) (v : Value) → has_sort s v ≡ true → equal_values v v ≡ flag true
equal_self Flags (flag a) h = ap flag (sym (flags_bool a a) ∙ equal_flags_self a)
equal_self Numbers (whole a) h = ap flag ((signed_Decides a a).1 refl)
equal_self Flags absent h = absurd (false≢true h)
equal_self Flags (whole n) h = absurd (false≢true h)
equal_self Numbers absent h = absurd (false≢true h)
equal_self Numbers (flag b) h = absurd (false≢true h)

abbrev pub zero_value : Sort → Value
zero_value s = or_default s absent

module _ (now next : Values) where
  pub zero_worth : (s : Sort) → worth now next (zero_of s) ≡ zero_value s
  zero_worth Flags = refl
  zero_worth Numbers = refl

  pub zero_has : (s : Sort) → has_sort s (zero_value s) ≡ true
  zero_has Flags = refl
  zero_has Numbers = refl

  -- two parts of one type: their equation is true exactly where they are worth the same
  pub parts_equal : (s : Sort) (p q : Part) → has_sort s (worth now next p) ≡ true →
      has_sort s (worth now next q) ≡ true → truth_of now next (equal_parts p q) ≡ true →
      worth now next p ≡ worth now next q
  parts_equal s p q h k e =
      equal_found s (worth now next p) (worth now next q) h k (sym (equal_worth now next s p q h k) ∙ ap flag e)

  pub parts_made : (s : Sort) (p q : Part) → has_sort s (worth now next p) ≡ true →
      worth now next p ≡ worth now next q → truth_of now next (equal_parts p q) ≡ true
  parts_made s p q h e =
      flags_same (truth_of now next (equal_parts p q)) true (equal_worth now next s p q h (rw (sym e) h) ∙ ap
      (equal_values (worth now next p)) (sym e) ∙ equal_self s (worth now next p) h)

  module _ (g : Stage) (v : Variable) where
    abbrev pub number_here : ℕ
    number_here = g.number (own (named v.name.text))

    abbrev pub is_present : Bool
    is_present = truth_of now next (present g (clock_of_variable v))

    here_has : has_sort v.sort (worth now next (variable_of g v)) ≡ true
    here_has = rw (variable_worth now next v.sort number_here) (value_has now v.sort number_here)

    chosen_worth : (p : Part) → has_sort v.sort (worth now next p) ≡ true →
        worth now next (choose_part (present g (clock_of_variable v)) p (zero_of v.sort)) ≡ cond is_present
        (worth now next p) (zero_value v.sort)
    chosen_worth p h =
        choose_worth now next v.sort (present g (clock_of_variable v)) p (zero_of v.sort) h (rw (zero_worth v.sort)
        (zero_has v.sort)) ∙ ap (λ w. cond is_present (worth now next p) w) (zero_worth v.sort)

    chosen_has : (p : Part) → has_sort v.sort (worth now next p) ≡ true → (b : Bool) →
        has_sort v.sort (cond b (worth now next p) (zero_value v.sort)) ≡ true
    chosen_has p h true = h
    chosen_has p h false = zero_has v.sort

    -- a name with a source is worth it where its clock is on, else 0 or false
    pub equals_gives : (p : Part) → has_sort v.sort (worth now next p) ≡ true →
        truth_of now next (equals_where_on g v p) ≡ true →
        value_in now v.sort number_here ≡ cond is_present (worth now next p) (zero_value v.sort)
    equals_gives p h e = sym (variable_worth now next v.sort number_here)
        ∙ parts_equal v.sort (variable_of g v) (choose_part (present g (clock_of_variable v)) p
        (zero_of v.sort)) here_has (rw (chosen_worth p h) (chosen_has p h is_present)) e ∙ chosen_worth p h

    pub equals_made : (p : Part) → has_sort v.sort (worth now next p) ≡ true →
        value_in now v.sort number_here ≡ cond is_present (worth now next p) (zero_value v.sort) →
        truth_of now next (equals_where_on g v p) ≡ true
    equals_made p h e =
        parts_made v.sort (variable_of g v) (choose_part (present g (clock_of_variable v)) p
        (zero_of v.sort)) here_has (variable_worth now next v.sort number_here ∙ e ∙ sym (chosen_worth p h))

    -- a free name is 0 or false where its clock is off
    pub free_gives : truth_of now next (is_free g v) ≡ true → is_present ≡ false →
        value_in now v.sort number_here ≡ zero_value v.sort
    free_gives e o = sym (variable_worth now next v.sort number_here)
        ∙ parts_equal v.sort (variable_of g v) (zero_of v.sort) here_has (rw (zero_worth v.sort) (zero_has v.sort))
        (by is_present (truth_of now next (equal_parts (variable_of g v)
        (zero_of v.sort))) o e) ∙ zero_worth v.sort
      where
        by : (o t : Bool) → o ≡ false → not (not o && not t) ≡ true → t ≡ true
        by false true h e = refl
        by false false h e = absurd (false≢true e)
        by true t h e = absurd (true≢false h)

    pub free_made : (is_present ≡ false → value_in now v.sort number_here ≡ zero_value v.sort) →
        truth_of now next (is_free g v) ≡ true
    free_made f = by is_present refl
      where
        by : (o : Bool) → is_present ≡ o →
            not (not o && not (truth_of now next (equal_parts (variable_of g v) (zero_of v.sort)))) ≡ true
        by true k = refl
        by false k = rw (parts_made v.sort (variable_of g v) (zero_of v.sort) here_has
            (variable_worth now next v.sort number_here ∙ f k ∙ sym (zero_worth v.sort))) refl

-- the variable of the next state is worth the term of this one
module _ (now next : Values) (g : Stage) (s : Sort) (p : Spot) (q : Part) (h : has_sort s
    (worth now next q) ≡ true) where
  next_worth : (s : Sort) (n : ℕ) → worth now next (variable_in true s n) ≡ value_in next s n
  next_worth Flags n = refl
  next_worth Numbers n = refl

  pub becomes_gives : truth_of now next (becomes g s p q) ≡ true →
      value_in next s (g.number (own p)) ≡ worth now next q
  becomes_gives e =
      sym (next_worth s (g.number (own p))) ∙ parts_equal now next s (variable_in true s (g.number (own p))) q (rw
      (next_worth s (g.number (own p))) (value_has next s (g.number (own p)))) h e

  pub becomes_made : value_in next s (g.number (own p)) ≡ worth now next q →
      truth_of now next (becomes g s p q) ≡ true
  becomes_made e =
      parts_made now next s (variable_in true s (g.number (own p))) q (rw (next_worth s (g.number (own p)))
      (value_has next s (g.number (own p)))) (next_worth s (g.number (own p)) ∙ e)
