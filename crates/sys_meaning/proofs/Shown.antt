-- The term of an expression is worth what the expression is seen to be.
use Rattle.std.proofs.Common.{option_map, ◌≡◌, inl, inr, ℕ, ◌<◌, Bool, true, false, cond, ◌&&◌, List, [], ◌∷◌, map, length, refl, ap, ◌∙◌, sym, arith, Option, Some, None, is_some, option_to_list}
use Rattle.std.specs.List.{AllByRecursion}
use Rattle.std.specs.Map.{lookup}
use Rattle.std.specs.Str.{bytes_eq}
use Rattle.std.proofs.lemmas.Bool.{false≢true}
use Rattle.lus_tree.specs.declared.expression.Operator.{Operator}
use Rattle.lus_tree.specs.declared.expression.Operator.TheVariants.{Implies, Or, Xor, And, Less, AtMost, Equal, Differs, AtLeast, More, Add, Sub, Mul, Div, Mod}
use Rattle.lus_tree.specs.declared.place.Sort.{Sort}
use Rattle.lus_tree.specs.declared.place.Sort.TheVariants.{Bool as Flags, Int as Numbers}
use Rattle.lus_tree.specs.Tree.{Name, text_of, Expression, Expressions, truth, number, name, negation, minus, pre, arrow, binary, choice, sampled, merged, call, condact, mode_name, Variable}
use Rattle.lus_meaning.specs.Value.{Value, absent, flag, whole, has_sort, not_value, minus_value, apply, choose}
use Rattle.lus_meaning.specs.Scene.{Clock, sampled_by, constants_of, call_instance}
use Rattle.lus_meaning.specs.Meaning.{constant_or}
use Rattle.lus_meaning.specs.Program.{constant_value}
use Rattle.lus_meaning.specs.Run.{sort_of, sort_of_name, output_sort, first_sort, Takes}
use Rattle.lus_meaning.proofs.Typed.{apply_has, not_has, minus_has, choose_has, has_as}
use Rattle.sys_terms.specs.View.{Formula}
use Rattle.sys_terms.specs.Meaning.{Values, truth_of}
use Rattle.sys_meaning.specs.Slot.{beat, named, memory, starting, held, Place, own, in_call}
use Rattle.sys_meaning.specs.Items.{Key, Known}
use Rattle.sys_meaning.specs.Defaults.{is_constant}
use Rattle.sys_meaning.specs.Part.{Part, a_flag, a_number, formula_of, fixed, variable, not_part, minus_part, choose_part, scaled, worth, value_in, operate}
use Rattle.sys_meaning.specs.Translate.{Stage, name_part, name_flag, flag_at, output_part, held_part, latest_part, head_part, or_constant, constant_number, number_of_value, binary_part, mode_part, term_of, right_terms}
use Rattle.sys_meaning.specs.Translate as tr
use Rattle.sys_meaning.specs.Seen.{Row, Sight, seen_or, seen_output, seen_latest, seen_mode, outputs_at, head_value, seen, seen_right}
use Rattle.sys_meaning.specs.WellTyped.{no_constant, is_declared, clock_here, NameFits, IsMemory, IsStart, IsPlainCall, IsHeldCall, HasConstant, Stands}
use Rattle.sys_meaning.proofs.Operators.{IsPlain, operate_worth, not_worth, minus_worth, choose_worth, scaled_worth, scaled_right, divided_worth, rest_worth}

-- ---- constants

and_left : (a b : Bool) → (a && b) ≡ true → a ≡ true
and_left true b e = refl
and_left false b e = absurd (false≢true e)

and_right : (a b : Bool) → (a && b) ≡ true → b ≡ true
and_right true b e = e
and_right false b e = absurd (false≢true e)

constant_name : (v : Value) (o : Option Value) → is_some o ≡ true → seen_or o v ≡ constant_or o (λ t. true) (λ t. v) 0
constant_name v None e = absurd (false≢true e)
constant_name v (Some w) e = refl

-- a constant expression is its value in any row
pub constant_seen : (r : Sight) (e : Expression) → is_constant (constants_of r.place) e ≡ true →
    seen r e ≡ constant_value (constants_of r.place) e
constant_seen r (truth p b) h = refl
constant_seen r (number p n) h = refl
constant_seen r (name p x) h = by (lookup (bytes_eq x) (constants_of r.place)) h
  where
    by : (o : Option Value) → is_some o ≡ true →
        seen_or o (r.row (own (named x))) ≡ constant_or o (λ t. true) (λ t. absent) 0
    by None e = absurd (false≢true e)
    by (Some w) e = refl
constant_seen r (negation p a) h = ap not_value (constant_seen r a h)
constant_seen r (minus p a) h = ap minus_value (constant_seen r a h)
constant_seen r (binary p o a b) h =
    rw (
      constant_seen r a (and_left (is_constant (constants_of r.place) a) (is_constant
          (constants_of r.place) b) h),
      constant_seen r b (and_right (is_constant (constants_of r.place) a)
          (is_constant (constants_of r.place) b) h),
    ) refl
constant_seen r (choice p a b d) h =
    let cs = constants_of r.place in
    let k : (is_constant cs b && is_constant cs d) ≡ true =
    and_right (is_constant cs a) (is_constant cs b && is_constant cs d) h in
    rw (
      constant_seen r a (and_left (is_constant cs a) (is_constant cs b && is_constant cs d) h),
      constant_seen r b
          (and_left (is_constant cs b) (is_constant cs d) k),
      constant_seen r d (and_right (is_constant cs b)
          (is_constant cs d) k),
    ) refl
constant_seen r (pre p k a) h = absurd (false≢true h)
constant_seen r (arrow p k a b) h = absurd (false≢true h)
constant_seen r (sampled p a b x) h = absurd (false≢true h)
constant_seen r (merged p x a b) h = absurd (false≢true h)
constant_seen r (call p k f as_) h = absurd (false≢true h)
constant_seen r (condact p k a f as_ ds) h = absurd (false≢true h)
constant_seen r (mode_name p d m) h = absurd (false≢true h)

pub fixed_worth : (now next : Values) (s : Sort) (v : Value) → has_sort s v ≡ true → worth now next (fixed v) ≡ v
fixed_worth now next s (flag b) h = refl
fixed_worth now next s (whole n) h = refl
fixed_worth now next Flags absent h = absurd (false≢true h)
fixed_worth now next Numbers absent h = absurd (false≢true h)

pub whole_number : (v : Value) → has_sort Numbers v ≡ true → v ≡ whole (number_of_value v)
whole_number (whole n) h = refl
whole_number absent h = absurd (false≢true h)
whole_number (flag b) h = absurd (false≢true h)

pub variable_worth : (now next : Values) (s : Sort) (n : ℕ) → worth now next (variable s n) ≡ value_in now s n
variable_worth now next Flags n = refl
variable_worth now next Numbers n = refl

pub value_has : (now : Values) (s : Sort) (n : ℕ) → has_sort s (value_in now s n) ≡ true
value_has now Flags n = refl
value_has now Numbers n = refl

pub flag_choice : (now next : Values) (f : Formula) (v w u : Value) → flag (truth_of now next f) ≡ v →
    cond (truth_of now next f) w u ≡ choose v w u
flag_choice now next f v w u e = rw (sym e) refl

pub formula_worth : (now next : Values) (p : Part) → has_sort Flags (worth now next p) ≡ true →
    flag (truth_of now next (formula_of p)) ≡ worth now next p
formula_worth now next (a_flag f) h = refl
formula_worth now next (a_number a) h = absurd (false≢true h)

-- ---- a row and the values of a state

module _ (g : Stage) (ModeAt : Key → Type 0) (row : Row) (modes : Known Value) (now next : Values) where
  abbrev pub sight : Sight
  sight = record { place = g.place; row = row; modes = modes }

  -- the variable of a place is worth what the row says
  abbrev pub Says : Sort → Place → Type 0
  Says s p = value_in now s (g.number p) ≡ row p

  pub record IsShown : Type 0 where
    pub names : (x : Name) → no_constant g.place ModeAt x → is_declared g.place ModeAt x →
        Says (sort_of_name g.place x) (own (named x))
    pub memories : (k : ℕ) (c : Clock) (a : Expression) → IsMemory g.place ModeAt k c a →
        Says (sort_of g.place a) (own (memory k))
    pub starts : (k : ℕ) (c : Clock) → IsStart g.place ModeAt k c → Says Flags (own (starting k))
    pub outputs : (k : ℕ) (c : Clock) → IsPlainCall g.place ModeAt k c →
        AllByRecursion (λ v. Says v.sort (in_call k (own (named v.name.text)))) (tr.outputs_at g k)
    pub held_beats : (k : ℕ) (c : Clock) (a : Expression) (ds : Expressions) → IsHeldCall g.place ModeAt k c a ds →
        Says Flags (in_call k (own beat))
    pub held_outputs : (k : ℕ) (c : Clock) (a : Expression) (ds : Expressions) → IsHeldCall g.place ModeAt k c a ds →
        AllByRecursion (λ v. Says v.sort (in_call k (own (named v.name.text))) × Says v.sort (own
        (held k v.name.text))) (tr.outputs_at g k)
    pub modes_same : (key : Key) → worth now next (mode_part g key) ≡ seen_mode sight key

  says_has : (s : Sort) (p : Place) → Says s p → has_sort s (row p) ≡ true
  says_has s p e = rw (sym e) (value_has now s (g.number p))

  says_worth : (s : Sort) (p : Place) → Says s p → worth now next (variable s (g.number p)) ≡ row p
  says_worth s p e = variable_worth now next s (g.number p) ∙ e

  outputs_has : (k : ℕ) (vs : List Variable) → 0 < length vs →
      AllByRecursion (λ v. Says v.sort (in_call k (own (named v.name.text)))) vs →
      has_sort (first_sort vs) (head_value (map (seen_output sight k) (map (λ v. v.name.text) vs))) ≡ true
  outputs_has k [] l a = absurd (omega arith)
  outputs_has k (v ∷ vs) l a = says_has v.sort (in_call k (own (named v.name.text))) a.0

  outputs_worth : (k : ℕ) (vs : List Variable) →
      AllByRecursion (λ v. Says v.sort (in_call k (own (named v.name.text)))) vs →
      map (worth now next) (map (output_part g k) vs) ≡ map (seen_output sight k) (map (λ v. v.name.text) vs)
  outputs_worth k [] a = refl
  outputs_worth k (v ∷ vs) a =
      rw (says_worth v.sort (in_call k (own (named v.name.text))) a.0, outputs_worth k vs a.1) refl

  latest_worth : (k : ℕ) (v : Variable) → Says Flags (in_call k (own beat)) →
      Says v.sort (in_call k (own (named v.name.text))) → Says v.sort (own (held k v.name.text)) →
      worth now next (latest_part g k v) ≡ seen_latest sight k v.name.text
  latest_worth k v b o h =
      choose_worth now next v.sort (flag_at g (in_call k (own beat))) (output_part g k v) (held_part g k v)
      (rw (variable_worth now next v.sort (g.number (in_call k (own (named v.name.text))))) (value_has now v.sort
      (g.number (in_call k (own (named v.name.text))))))
      (rw (variable_worth now next v.sort (g.number (own (held k v.name.text)))) (value_has now v.sort (g.number
      (own (held k v.name.text)))))
      ∙ rw (says_worth v.sort (in_call k (own (named v.name.text))) o, says_worth v.sort (own (held k v.name.text)) h)
      (flag_choice now next (flag_at g (in_call k (own beat))) (row (in_call k (own beat))) (row (in_call k (own
      (named v.name.text)))) (row (own (held k v.name.text))) b)

  latests_worth : (k : ℕ) (vs : List Variable) → Says Flags (in_call k (own beat)) →
      AllByRecursion (λ v. Says v.sort (in_call k (own (named v.name.text))) × Says v.sort (own
      (held k v.name.text))) vs →
      map (worth now next) (map (latest_part g k) vs) ≡ map (seen_latest sight k) (map (λ v. v.name.text) vs)
  latests_worth k [] b a = refl
  latests_worth k (v ∷ vs) b a = rw (latest_worth k v b a.0.0 a.0.1, latests_worth k vs b a.1) refl

  latest_has_sort : (k : ℕ) (v : Variable) → Says Flags (in_call k (own beat)) →
      Says v.sort (in_call k (own (named v.name.text))) → Says v.sort (own (held k v.name.text)) →
      has_sort v.sort (seen_latest sight k v.name.text) ≡ true
  latest_has_sort k v b o h =
      choose_has v.sort (row (in_call k (own beat))) (row (in_call k (own (named v.name.text)))) (row (own
      (held k v.name.text))) (says_has Flags (in_call k (own beat)) b) (says_has v.sort (in_call k (own
      (named v.name.text))) o) (says_has v.sort (own (held k v.name.text)) h)

  latests_has : (k : ℕ) (vs : List Variable) → 0 < length vs → Says Flags (in_call k (own beat)) →
      AllByRecursion (λ v. Says v.sort (in_call k (own (named v.name.text))) × Says v.sort (own
      (held k v.name.text))) vs →
      has_sort (first_sort vs) (head_value (map (seen_latest sight k) (map (λ v. v.name.text) vs))) ≡ true
  latests_has k [] l b a = absurd (omega arith)
  latests_has k (v ∷ vs) l b a = latest_has_sort k v b a.0.0 a.0.1

  head_worth : (ps : List Part) (s : Sort) → has_sort s (head_value (map (worth now next) ps)) ≡ true →
      worth now next (head_part ps) ≡ head_value (map (worth now next) ps)
  head_worth [] Flags h = absurd (false≢true h)
  head_worth [] Numbers h = absurd (false≢true h)
  head_worth (p ∷ ps) s h = refl

  module _ (shown : IsShown) where
    name_has : (o : Option Value) (c : Clock) (x : Name) → lookup (bytes_eq x) (constants_of g.place) ≡ o →
        NameFits g.place ModeAt o c x → has_sort (sort_of_name g.place x) (seen_or o (row (own (named x)))) ≡ true
    name_has None c x e h = says_has (sort_of_name g.place x) (own (named x)) (shown.names x e h.0)
    name_has (Some v) c x e h = h

    -- what an expression is seen to be has its type
    pub seen_has : (e : Expression) (c : Clock) → Stands g.place ModeAt c e →
        has_sort (sort_of g.place e) (seen sight e) ≡ true
    seen_has (truth p b) c h = refl
    seen_has (number p n) c h = refl
    seen_has (name p x) c h = name_has (lookup (bytes_eq x) (constants_of g.place)) c x refl h
    seen_has (negation p a) c h =
        not_has (seen sight a) (has_as (sort_of g.place a) Flags (seen sight a) h.0 (seen_has a c h.1))
    seen_has (minus p a) c h =
        minus_has (seen sight a) (has_as (sort_of g.place a) Numbers (seen sight a) h.0 (seen_has a c h.1))
    seen_has (pre p k a) c h = says_has (sort_of g.place a) (own (memory k)) (shown.memories k c a h.0)
    seen_has (arrow p k a b) c h =
        choose_has (sort_of g.place a) (row (own (starting k))) (seen sight a) (seen sight b) (says_has Flags (own
        (starting k)) (shown.starts k c h.0)) (seen_has a c h.2) (has_as (sort_of g.place b) (sort_of g.place a)
        (seen sight b) h.1 (seen_has b c h.3))
    seen_has (binary p o a b) c h =
        apply_has o (sort_of g.place a) (seen sight a) (seen sight b) h.0
        (seen_has a c h.3) (has_as (sort_of g.place b) (sort_of g.place a) (seen sight b) h.1 (seen_has b c h.4))
    seen_has (choice p a b d) c h =
        choose_has (sort_of g.place b) (seen sight a) (seen sight b) (seen sight d) (has_as
        (sort_of g.place a) Flags (seen sight a) h.0 (seen_has a c h.2)) (seen_has b c h.3) (has_as
        (sort_of g.place d) (sort_of g.place b) (seen sight d) h.1 (seen_has d c h.4))
    seen_has (sampled p a q x) c h = seen_has a (clock_here g.place ModeAt x.text) h.2
    seen_has (merged p x a b) c h =
        choose_has (sort_of g.place a) (row (own (named x.text))) (seen sight a) (seen sight b)
        (has_as (sort_of_name g.place x.text) Flags (row (own (named x.text))) h.1 (says_has
        (sort_of_name g.place x.text) (own (named x.text)) (shown.names x.text h.0.stream h.0.declared)))
        (seen_has a (sampled_by true x.text) h.3) (has_as (sort_of g.place b) (sort_of g.place a)
        (seen sight b) h.2 (seen_has b (sampled_by false x.text) h.4))
    seen_has (call p k f as_) c h =
        rw h.1 (outputs_has k (tr.outputs_at g k) h.0.outputs (shown.outputs k c h.0))
    seen_has (condact p k a f as_ ds) c h =
        rw h.3 (latests_has k (tr.outputs_at g k) h.0.outputs (shown.held_beats k c a ds h.0)
        (shown.held_outputs k c a ds h.0))
    seen_has (mode_name p d m) c h = rw (sym (shown.modes_same (option_to_list (option_map text_of d), m.text))) refl

    -- a constant expression is worth its value
    constant_worth : (e : Expression) (c : Clock) (q : Part) → Stands g.place ModeAt c e →
        worth now next q ≡ seen sight e → worth now next (or_constant g e q) ≡ seen sight e
    constant_worth e c q h w = by (is_constant (constants_of g.place) e) refl
      where
        by : (b : Bool) → is_constant (constants_of g.place) e ≡ b →
            worth now next (cond b (fixed (constant_value (constants_of g.place) e)) q) ≡ seen sight e
        by true k = fixed_worth now next (sort_of g.place e) (constant_value (constants_of g.place) e) (rw (sym
            (constant_seen sight e k)) (seen_has e c h)) ∙ sym (constant_seen sight e k)
        by false k = w

    constant_whole : (e : Expression) (c : Clock) → Stands g.place ModeAt c e → sort_of g.place e ≡ Numbers →
        is_constant (constants_of g.place) e ≡ true → seen sight e ≡ whole (constant_number g e)
    constant_whole e c h s k =
        constant_seen sight e k ∙ whole_number (constant_value (constants_of g.place) e) (rw (sym
        (constant_seen sight e k)) (has_as (sort_of g.place e) Numbers (seen sight e) s (seen_has e c h)))

    pub name_shown : (o : Option Value) (c : Clock) (x : Name) → lookup (bytes_eq x) (constants_of g.place) ≡ o →
        NameFits g.place ModeAt o c x →
        worth now next (cond (is_some o) (fixed (constant_or o (λ t. true) (λ t. absent) 0))
        (name_part g x)) ≡ seen_or o (row (own (named x)))
    name_shown None c x e h = says_worth (sort_of_name g.place x) (own (named x)) (shown.names x e h.0)
    name_shown (Some v) c x e h = fixed_worth now next (sort_of_name g.place x) v h

    binary_shown : (o : Operator) (a b : Expression) (c : Clock) (p q : Part) → Takes o (sort_of g.place a) →
        sort_of g.place b ≡ sort_of g.place a → HasConstant g.place ModeAt o a b → Stands g.place ModeAt c a →
        Stands g.place ModeAt c b →
        worth now next p ≡ seen sight a → worth now next q ≡ seen sight b →
        worth now next (binary_part g o a b p q) ≡ apply o (seen sight a) (seen sight b)
    binary_shown o a b c p q t s k h j u w = by o t k
      where
        left : has_sort (sort_of g.place a) (worth now next p) ≡ true
        left = rw u (seen_has a c h)

        right : has_sort (sort_of g.place a) (worth now next q) ≡ true
        right = rw w (has_as (sort_of g.place b) (sort_of g.place a) (seen sight b) s (seen_has b c j))

        plainly : (o : Operator) → IsPlain now next o → Takes o (sort_of g.place a) →
            worth now next (operate o p q) ≡ apply o (seen sight a) (seen sight b)
        plainly o i t = operate_worth now next o (sort_of g.place a) p q i t left right ∙ rw (u, w) refl

        by : (o : Operator) → Takes o (sort_of g.place a) → HasConstant g.place ModeAt o a b →
            worth now next (binary_part g o a b p q) ≡ apply o (seen sight a) (seen sight b)
        by Implies t k = plainly Implies tt t
        by Or t k = plainly Or tt t
        by Xor t k = plainly Xor tt t
        by And t k = plainly And tt t
        by Less t k = plainly Less tt t
        by AtMost t k = plainly AtMost tt t
        by Equal t k = plainly Equal tt t
        by Differs t k = plainly Differs tt t
        by AtLeast t k = plainly AtLeast tt t
        by More t k = plainly More tt t
        by Add t k = plainly Add tt t
        by Sub t k = plainly Sub tt t
        by Mul t k = side (is_constant (constants_of g.place) a) refl k
          where
            side : (d : Bool) → is_constant (constants_of g.place) a ≡ d → HasConstant g.place ModeAt Mul a b →
                worth now next (cond d (scaled (constant_number g a) q) (scaled
                (constant_number g b) p)) ≡ apply Mul (seen sight a) (seen sight b)
            side true e k =
                scaled_worth now next (constant_number g a) (seen sight a) q (constant_whole a c h t e) (has_as
                (sort_of g.place a) Numbers (worth now next q) t right) ∙ rw w refl
            side false e (inl k) = absurd (false≢true (sym e ∙ k))
            side false e (inr k) =
                scaled_right now next (constant_number g b) (seen sight b) p (constant_whole b c j (s ∙ t) k)
                (has_as (sort_of g.place a) Numbers (worth now next p) t left) ∙ rw u refl
        by Div t k = divided_worth now next (constant_number g b) (seen sight b) p (constant_whole b c j (s ∙ t) k)
            (has_as (sort_of g.place a) Numbers (worth now next p) t left) ∙ rw u refl
        by Mod t k = rest_worth now next (constant_number g b) (seen sight b) p (constant_whole b c j (s ∙ t) k)
            (has_as (sort_of g.place a) Numbers (worth now next p) t left) ∙ rw u refl

    -- the term of an expression is worth what the expression is seen to be
    pub term_shown : (e : Expression) (c : Clock) → Stands g.place ModeAt c e →
        worth now next (term_of g e) ≡ seen sight e
    term_shown (truth p b) c h = refl
    term_shown (number p n) c h = refl
    term_shown (name p x) c h = name_shown (lookup (bytes_eq x) (constants_of g.place)) c x refl h
    term_shown (negation p a) c h = constant_worth (negation p a) c (not_part (term_of g a)) h
        (not_worth now next (term_of g a) (rw (term_shown a c h.1) (has_as (sort_of g.place a) Flags
        (seen sight a) h.0 (seen_has a c h.1))) ∙ ap not_value (term_shown a c h.1))
    term_shown (minus p a) c h = constant_worth (minus p a) c (minus_part (term_of g a)) h
        (minus_worth now next (term_of g a) (rw (term_shown a c h.1) (has_as (sort_of g.place a) Numbers
        (seen sight a) h.0 (seen_has a c h.1))) ∙ ap minus_value (term_shown a c h.1))
    term_shown (pre p k a) c h = says_worth (sort_of g.place a) (own (memory k)) (shown.memories k c a h.0)
    term_shown (arrow p k a b) c h =
        choose_worth now next (sort_of g.place a) (flag_at g (own (starting k))) (term_of g a) (term_of g b)
        (rw (term_shown a c h.2) (seen_has a c h.2)) (rw (term_shown b c h.3) (has_as (sort_of g.place b)
        (sort_of g.place a) (seen sight b) h.1 (seen_has b c h.3)))
        ∙ rw (term_shown a c h.2, term_shown b c h.3) (flag_choice now next (flag_at g (own (starting k))) (row
        (own (starting k))) (seen sight a) (seen sight b) (shown.starts k c h.0))
    term_shown (binary p o a b) c h =
        constant_worth (binary p o a b) c (binary_part g o a b (term_of g a) (term_of g b)) h
        (binary_shown o a b c (term_of g a) (term_of g b) h.0 h.1 h.2 h.3 h.4 (term_shown a c h.3)
        (term_shown b c h.4))
    term_shown (choice p a b d) c h =
        constant_worth (choice p a b d) c (choose_part (formula_of (term_of g a)) (term_of g b) (term_of g d)) h
        (choose_worth now next (sort_of g.place b) (formula_of (term_of g a)) (term_of g b) (term_of g d)
        (rw (term_shown b c h.3) (seen_has b c h.3)) (rw (term_shown d c h.4) (has_as (sort_of g.place d)
        (sort_of g.place b) (seen sight d) h.1 (seen_has d c h.4)))
        ∙ rw (term_shown b c h.3, term_shown d c h.4) (flag_choice now next (formula_of (term_of g a))
        (seen sight a) (seen sight b) (seen sight d)
        (formula_worth now next (term_of g a) (rw (term_shown a c h.2) (has_as (sort_of g.place a) Flags
        (seen sight a) h.0 (seen_has a c h.2))) ∙ term_shown a c h.2)))
    term_shown (sampled p a q x) c h = term_shown a (clock_here g.place ModeAt x.text) h.2
    term_shown (merged p x a b) c h =
        choose_worth now next (sort_of g.place a) (name_flag g x.text) (term_of g a) (term_of g b)
        (rw (term_shown a (sampled_by true x.text) h.3) (seen_has a (sampled_by true x.text) h.3)) (rw
        (term_shown b (sampled_by false x.text) h.4) (has_as (sort_of g.place b) (sort_of g.place a)
        (seen sight b) h.2 (seen_has b (sampled_by false x.text) h.4)))
        ∙ rw (term_shown a (sampled_by true x.text) h.3, term_shown b (sampled_by false x.text) h.4)
        (flag_choice now next (name_flag g x.text) (row (own (named x.text))) (seen sight a) (seen sight b)
        (sym (ap (λ s. value_in now s (g.number (own
        (named x.text)))) h.1) ∙ shown.names x.text h.0.stream h.0.declared))
    term_shown (call p k f as_) c h =
        let all : map (worth now next) (map (output_part g k) (tr.outputs_at g k)) ≡ map (seen_output sight k)
        (outputs_at sight k) = outputs_worth k (tr.outputs_at g k) (shown.outputs k c h.0) in
        head_worth (map (output_part g k) (tr.outputs_at g k)) (output_sort (call_instance g.place k)) (rw all
        (outputs_has k (tr.outputs_at g k) h.0.outputs (shown.outputs k c h.0))) ∙ ap head_value all
    term_shown (condact p k a f as_ ds) c h =
        let all : map (worth now next) (map (latest_part g k) (tr.outputs_at g k)) ≡ map (seen_latest sight k)
        (outputs_at sight k) =
        latests_worth k (tr.outputs_at g k) (shown.held_beats k c a ds h.0) (shown.held_outputs k c a ds h.0) in
        head_worth (map (latest_part g k) (tr.outputs_at g k)) (output_sort (call_instance g.place k)) (rw all
        (latests_has k (tr.outputs_at g k) h.0.outputs (shown.held_beats k c a ds h.0)
        (shown.held_outputs k c a ds h.0))) ∙ ap head_value all
    term_shown (mode_name p d m) c h = shown.modes_same (option_to_list (option_map text_of d), m.text)

    -- the terms of a right side, list by list
    pub right_shown : (e : Expression) (c : Clock) → Stands g.place ModeAt c e →
        map (worth now next) (right_terms g e) ≡ seen_right sight e
    right_shown (truth p b) c h = refl
    right_shown (number p n) c h = refl
    right_shown (name p x) c h = ap (λ v. v ∷ []) (term_shown (name p x) c h)
    right_shown (negation p a) c h = ap (λ v. v ∷ []) (term_shown (negation p a) c h)
    right_shown (minus p a) c h = ap (λ v. v ∷ []) (term_shown (minus p a) c h)
    right_shown (pre p k a) c h = ap (λ v. v ∷ []) (term_shown (pre p k a) c h)
    right_shown (arrow p k a b) c h = ap (λ v. v ∷ []) (term_shown (arrow p k a b) c h)
    right_shown (binary p o a b) c h = ap (λ v. v ∷ []) (term_shown (binary p o a b) c h)
    right_shown (choice p a b d) c h = ap (λ v. v ∷ []) (term_shown (choice p a b d) c h)
    right_shown (sampled p a q x) c h = ap (λ v. v ∷ []) (term_shown (sampled p a q x) c h)
    right_shown (merged p x a b) c h = ap (λ v. v ∷ []) (term_shown (merged p x a b) c h)
    right_shown (call p k f as_) c h = outputs_worth k (tr.outputs_at g k) (shown.outputs k c h.0)
    right_shown (condact p k a f as_ ds) c h =
        latests_worth k (tr.outputs_at g k) (shown.held_beats k c a ds h.0) (shown.held_outputs k c a ds h.0)
    right_shown (mode_name p d m) c h = ap (λ v. v ∷ []) (term_shown (mode_name p d m) c h)
