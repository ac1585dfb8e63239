-- The faults that are noted of an expression are those of the definition: the same are in both lists.
use Rattle.std.proofs.Common.{◌≡◌, ℕ, suc, ◌+◌, Bool, true, false, cond, not, ◌&&◌, ◌||◌, ◌==◌, List, [], ◌∷◌, ◌++◌, flat_map, length, refl, ap, sym, subst, ◌∙◌, arith, Option, Some, None}
use Rattle.std.specs.Prelude.{slice_get}
use Rattle.lus_tree.specs.declared.place.Sort.{Sort}
use Rattle.lus_tree.specs.declared.place.Sort.TheVariants.{Bool as Flags, Int as Numbers}
use Rattle.lus_tree.specs.declared.place.Pos.{Pos}
use Rattle.lus_tree.specs.declared.expression.Operator.{Operator}
use Rattle.lus_tree.specs.declared.expression.Operator.TheVariants.{Implies, Or, Xor, And, Less, AtMost, Equal, Differs, AtLeast, More, Add, Sub, Mul, Div, Mod}
use Rattle.lus_tree.specs.Tree.{Spelled, Expression, Expressions, truth, number, name, negation, minus, pre, arrow, binary, choice, sampled, merged, call, condact, mode_name, no_more, more, Variable, Component}
use Rattle.lus_tree.specs.Reason.{Reason, Refused, type_clash, not_constant, zero_divisor, arity_clash}
use Rattle.lus_meaning.specs.Scene.{clock_of, sampled_by, base}
use Rattle.lus_meaning.specs.Program.{listed}
use Rattle.lus_meaning.specs.Occurrences.{begin, Standing, on_clock, within, before, moved, Occurrence, occurs, occurrences, occurrences_among}
use Rattle.lus_meaning.specs.Scope.{Scope, type_of, node_named, is_constant, is_zero, constant_of}
use Rattle.lus_meaning.specs.Faults.{faults_at, if_so, differ}
use Rattle.lus_meaning.specs.ExpressionFaults.{flag_faults, definition_faults, used_as_clock, needs_sort, agree, hinders_constant, operator_faults, has_one, call_faults, default_faults, arguments_fit, sorts_fit, form_faults, weight_faults, part_faults, expression_faults, not_allowed}
use Rattle.lus_scopes.specs.Walk.{walk, walk_among, whole_walk, always, is_division, operator_own, division_faults, call_own, default_own, inputs_for, outputs_for, fits_stream}

-- ---- zeros

pub record Both (x y : ℕ) : Type 0 where
  pub there : x ≡ 0 → y ≡ 0
  pub back : y ≡ 0 → x ≡ 0

-- what is counted where that is so
abbrev pub if_wanted : Bool → ℕ → ℕ
if_wanted true x = x
if_wanted false x = 0

wanted_sum : (k : Bool) (x y : ℕ) → if_wanted k (x + y) ≡ if_wanted k x + if_wanted k y
wanted_sum true x y = refl
wanted_sum false x y = refl

wanted_zero : (k : Bool) (x : ℕ) → x ≡ 0 → if_wanted k x ≡ 0
wanted_zero true x e = e
wanted_zero false x e = refl

wanted_either : (k d : Bool) (x : ℕ) → Both (if_wanted (k || d) x) (if_wanted k x + if_wanted d x)
wanted_either true true x = record { there = λ e. omega arith; back = λ e. omega arith }
wanted_either true false x = record { there = λ e. omega arith; back = λ e. omega arith }
wanted_either false true x = record { there = λ e. omega arith; back = λ e. omega arith }
wanted_either false false x = record { there = λ e. omega arith; back = λ e. omega arith }

-- a part, two or three of them, with faults of their own and what is wanted of them
one_part : (w a n E k : ℕ) → w ≡ a + n → Both a (E + k) → Both w (n + E + k)
one_part w a n E k e i = record { there = λ z. omega (arith, i.there); back = λ z. omega (arith, i.back) }

two_parts : (w a b n E k F l K : ℕ) → w ≡ a + (b + n) → Both a (E + k) → Both b (F + l) → K ≡ k + l → Both w (n + (E + F) + K)
two_parts w a b n E k F l K e i j g = record { there = λ z. omega (arith, i.there, j.there); back = λ z. omega (arith, i.back, j.back) }

three_parts : (w a b c n E k F l G m K : ℕ) → w ≡ a + (b + (c + n)) → Both a (E + k) → Both b (F + l) → Both c (G + m) → K ≡ k + (l + m)
    → Both w (n + (E + (F + G)) + K)
three_parts w a b c n E k F l G m K e i j h g = record {
  there = λ z. omega (arith, i.there, j.there, h.there);
  back = λ z. omega
      (arith, i.back, j.back, h.back);
}

-- the second is wanted besides
two_with_wanted : (w a b n own E k F l L m K : ℕ) → w ≡ a + (b + own) → n ≡ own + m → Both a (E + k) → Both b (F + L) → Both L (l + m)
    → K ≡ k + l → Both w (n + (E + F) + K)
two_with_wanted w a b n own E k F l L m K e d i j h g = record {
  there = λ z. omega (arith, i.there, j.there, h.there);
  back = λ z. omega
      (arith, i.back, j.back, h.back);
}

-- values that go to streams
values_part : (w a n E k f : ℕ) → w ≡ a + n → Both a (E + k + f) → Both w ((n + f) + E + k)
values_part w a n E k f e i = record { there = λ z. omega (arith, i.there); back = λ z. omega (arith, i.back) }

more_values : (w a f b E k F l K g : ℕ) → w ≡ (a + f) + b → Both a (E + k) → Both b (F + l + g) → K ≡ k + l → Both w ((E + F) + K + (f + g))
more_values w a f b E k F l K g e i j h = record { there = λ z. omega (arith, i.there, j.there); back = λ z. omega (arith, i.back, j.back) }

-- a condition, arguments and defaults, of which the last are wanted by themselves
four_parts : (w a q as_ ds n E k F l f G m g M K : ℕ) → w ≡ (a + q) + (as_ + (ds + n)) → Both a (E + k) → Both as_ (F + l + f) → Both ds
    (G + m + g) → (m ≡ 0 → M ≡ 0) → K ≡ k + (l + M) →
    Both w ((q + ((n + f + g) + m)) + (E + (F + G)) + K)
four_parts w a q as_ ds n E k F l f G m g M K e i j h z0 d = record
    { there = λ z. omega (arith, i.there, j.there, h.there, z0); back = λ z. omega (arith, i.back, j.back, h.back, z0) }

-- with what is noted of every part
whole_part : (w x we h f E k K o : ℕ) → w ≡ x + (we + h) → Both x (f + E + k) → o ≡ (f + we) + E → K ≡ h + k → Both w (o + K)
whole_part w x we h f E k K o e i d g = record { there = λ z. omega (arith, i.there); back = λ z. omega (arith, i.back) }

-- ---- faults that don't pass a test, counted

module _ (p : Refused → Bool) where
  abbrev pub failing : List Refused → ℕ
  failing [] = 0
  failing (r ∷ rs) = cond (p r) 0 1 + failing rs

  pub failing_append : (fs gs : List Refused) → failing (fs ++ gs) ≡ failing fs + failing gs
  failing_append [] gs = omega arith
  failing_append (f ∷ fs) gs = omega (arith, failing_append fs gs)

  abbrev over : (Occurrence → ℕ) → List Occurrence → ℕ
  over u [] = 0
  over u (o ∷ os) = u o + over u os

  over_append : (u : Occurrence → ℕ) (xs ys : List Occurrence) → over u (xs ++ ys) ≡ over u xs + over u ys
  over_append u [] ys = omega arith
  over_append u (x ∷ xs) ys = omega (arith, over_append u xs ys)

  over_faults : (g : Occurrence → List Refused) (os : List Occurrence) → failing (flat_map g os) ≡ over (λ o. failing (g o)) os
  over_faults g [] = refl
  over_faults g (o ∷ os) = failing_append (g o) (flat_map g os) ∙ ap (λ z. failing (g o) + z) (over_faults g os)

  places_append : (r : Reason) (xs ys : List Pos) → failing (faults_at r (xs ++ ys)) ≡ failing (faults_at r xs) + failing (faults_at r ys)
  places_append r [] ys = omega arith
  places_append r (x ∷ xs) ys = omega (arith, places_append r xs ys)

  over_places : (r : Reason) (h : Occurrence → List Pos) (os : List Occurrence) → failing (faults_at r (flat_map h os)) ≡ over
      (λ o. failing (faults_at r (h o))) os
  over_places r h [] = refl
  over_places r h (o ∷ os) = places_append r (h o) (flat_map h os) ∙ ap (λ z. failing (faults_at r (h o)) + z) (over_places r h os)

  module _ (s : Scope) where
    abbrev own_hindrance : Expression → ℕ
    own_hindrance e = failing (faults_at not_constant (hinders_constant s e))

    -- what is no constant in an expression
    abbrev mutual
      hindrances : Expression → ℕ
      hindrances (truth q b) = 0
      hindrances (number q n) = 0
      hindrances (name q x) = own_hindrance (name q x)
      hindrances (negation q a) = hindrances a
      hindrances (minus q a) = hindrances a
      hindrances (pre q n a) = own_hindrance (pre q n a) + hindrances a
      hindrances (arrow q n a b) = own_hindrance (arrow q n a b) + (hindrances a + hindrances b)
      hindrances (binary q o a b) = hindrances a + hindrances b
      hindrances (choice q a b c) = hindrances a + (hindrances b + hindrances c)
      hindrances (sampled q a b x) = own_hindrance (sampled q a b x) + hindrances a
      hindrances (merged q x a b) = own_hindrance (merged q x a b) + (hindrances a + hindrances b)
      hindrances (call q n f as_) = own_hindrance (call q n f as_) + hindrances_among as_
      hindrances (condact q n a f as_ ds) =
          own_hindrance (condact q n a f as_ ds) + (hindrances a + (hindrances_among as_ + hindrances_among ds))
      hindrances (mode_name q c m) = own_hindrance (mode_name q c m)

      hindrances_among : Expressions → ℕ
      hindrances_among no_more = 0
      hindrances_among (more a as_) = hindrances a + hindrances_among as_

    abbrev hinder : Occurrence → ℕ
    hinder o = own_hindrance o.expression

    mutual
      hindered_in : (t : Standing) (e : Expression) → over hinder (occurrences s.owner t e) ≡ hindrances e
      hindered_in t (truth q b) = refl
      hindered_in t (number q n) = refl
      hindered_in t (name q x) = omega arith
      hindered_in t (negation q a) = omega (arith, hindered_in (within t) a)
      hindered_in t (minus q a) = omega (arith, hindered_in (within t) a)
      hindered_in t (pre q n a) = omega (arith, hindered_in (before t) a)
      hindered_in t (arrow q n a b) = omega (
        arith,
        over_append hinder (occurrences s.owner (within t) a)
            (occurs t (arrow q n a b) ∷ occurrences s.owner (within t) b),
        hindered_in (within t) a,
        hindered_in (within t) b,
      )
      hindered_in t (binary q o a b) = omega (
        arith,
        over_append hinder (occurrences s.owner (within t) a)
            (occurs t (binary q o a b) ∷ occurrences s.owner (within t) b),
        hindered_in (within t) a,
        hindered_in (within t) b,
      )
      hindered_in t (choice q a b c) =
          omega (
            arith,
            over_append hinder (occurrences s.owner (within t) a)
                (occurrences s.owner (within t) b ++ occurrences s.owner (within t) c),
            over_append hinder (occurrences s.owner (within t) b)
                (occurrences s.owner (within t) c),
            hindered_in (within t) a,
            hindered_in (within t) b,
            hindered_in (within t) c,
          )
      hindered_in t (sampled q a b x) =
          omega (
            arith,
            over_append hinder (occurrences s.owner (moved (clock_of s.owner x.text) t) a)
                (occurs t (sampled q a b x) ∷ []),
            hindered_in (moved (clock_of s.owner x.text) t) a,
          )
      hindered_in t (merged q x a b) =
          omega (
            arith,
            over_append hinder (occurrences s.owner (moved (sampled_by true x.text) t) a)
                (occurrences s.owner (moved (sampled_by false x.text) t) b),
            hindered_in (moved (sampled_by true x.text) t) a,
            hindered_in
                (moved (sampled_by false x.text) t) b,
          )
      hindered_in t (call q n f as_) = omega (arith, hindered_among (within t) as_)
      hindered_in t (condact q n a f as_ ds) =
          omega (
            arith,
            over_append hinder (occurrences s.owner (within t) a)
                (occurrences_among s.owner (within t) as_ ++ occurrences_among s.owner (within t) ds),
            over_append hinder
                (occurrences_among s.owner (within t) as_) (occurrences_among s.owner (within t) ds),
            hindered_in (within t) a,
            hindered_among
                (within t) as_,
            hindered_among (within t) ds,
          )
      hindered_in t (mode_name q c m) = omega arith

      hindered_among : (t : Standing) (as_ : Expressions) → over hinder (occurrences_among s.owner t as_) ≡ hindrances_among as_
      hindered_among t no_more = refl
      hindered_among t (more a as_) = omega (
        arith,
        over_append hinder (occurrences s.owner t a)
            (occurrences_among s.owner t as_),
        hindered_in t a,
        hindered_among t as_,
      )

    pub not_allowed_are : (e : Expression) → failing (not_allowed s e) ≡ hindrances e
    not_allowed_are e = over_places not_constant (λ o. hinders_constant s o.expression) (occurrences s.owner (on_clock base) e) ∙ hindered_in (on_clock base) e

    -- ---- a part's own

    abbrev own_size : Occurrence → ℕ
    own_size o = failing (part_faults s o)

    always_size : (k : Bool) (e : Expression) → failing (always s k e) ≡ failing (weight_faults s e) + if_wanted k (own_hindrance e)
    always_size true e = failing_append (weight_faults s e) (faults_at not_constant (hinders_constant s e))
    always_size false e = failing_append (weight_faults s e) []

    abbrev faults_in : Standing → Expression → ℕ
    faults_in t e = over own_size (occurrences s.owner t e)

    abbrev faults_among : Standing → Expressions → ℕ
    faults_among t as_ = over own_size (occurrences_among s.owner t as_)

    abbrev IsNoted : Standing → Bool → Expression → Type 0
    IsNoted t k e = Both (failing (whole_walk s t.whole_side k e)) (faults_in t e + if_wanted k (hindrances e))

    closed : (t : Standing) (k : Bool) (e : Expression) (E N : ℕ) → Both (failing (walk s t.whole_side k e))
        (failing (form_faults s t.whole_side e) + E + if_wanted k N) → faults_in t e ≡ own_size (occurs t e) + E
        → hindrances e ≡ own_hindrance e + N → IsNoted t k e
    closed t k e E N i d h =
        whole_part (failing (whole_walk s t.whole_side k e)) (failing (walk s t.whole_side k e)) (failing (weight_faults s e))
        (if_wanted k (own_hindrance e)) (failing (form_faults s t.whole_side e)) E (if_wanted k N) (if_wanted k (hindrances e))
        (faults_in t e)
        (failing_append (walk s t.whole_side k e) (always s k e) ∙ ap (λ z. failing (walk s t.whole_side k e) + z) (always_size k e)) i
        (d ∙ ap (λ z. z + E) (failing_append (form_faults s t.whole_side e) (weight_faults s e)))
        (ap (if_wanted k) h ∙ wanted_sum k (own_hindrance e) N)

    same_zero : (k : Bool) (x : ℕ) → Both x (x + 0 + if_wanted k 0)
    same_zero true x = record { there = λ z. omega arith; back = λ z. omega arith }
    same_zero false x = record { there = λ z. omega arith; back = λ z. omega arith }

    leaf : (t : Standing) (k : Bool) (e : Expression) → walk s t.whole_side k e ≡ form_faults s t.whole_side e → faults_in t e ≡ own_size
        (occurs t e) + 0 → hindrances e ≡ own_hindrance e + 0 → IsNoted t k e
    leaf t k e w d h = closed t k e 0 0 (subst (λ fs. Both (failing fs) (failing (form_faults s t.whole_side e) + 0 + if_wanted k 0))
        (sym w) (same_zero k (failing (form_faults s t.whole_side e)))) d h

    three_append : (a b c : List Refused) → failing (a ++ (b ++ c)) ≡ failing a + (failing b + failing c)
    three_append a b c = failing_append a (b ++ c) ∙ ap (λ z. failing a + z) (failing_append b c)

    -- ---- operators

    division_size : (at : Pos) (a b : Expression) (m : List Refused) →
        failing ((needs_sort s Numbers a ++ needs_sort s Numbers b ++ m) ++ if_so
        (is_constant s b && is_zero (constant_of s b)) zero_divisor at) ≡ failing (division_faults s at a b) + failing m
    division_size at a b m =
        let z : List Refused = if_so (is_constant s b && is_zero (constant_of s b)) zero_divisor at in
        let n : List Refused = needs_sort s Numbers a ++ needs_sort s Numbers b in
        omega (arith, failing_append (n ++ m) z, failing_append n m, failing_append n z)

    operator_size : (at : Pos) (o : Operator) (a b : Expression) → failing (operator_faults s at o a b) ≡ failing
        (operator_own s at o a b) + if_wanted (is_division o) (hindrances b)
    operator_size at Implies a b = omega arith
    operator_size at Or a b = omega arith
    operator_size at Xor a b = omega arith
    operator_size at And a b = omega arith
    operator_size at Less a b = omega arith
    operator_size at AtMost a b = omega arith
    operator_size at Equal a b = omega arith
    operator_size at Differs a b = omega arith
    operator_size at AtLeast a b = omega arith
    operator_size at More a b = omega arith
    operator_size at Add a b = omega arith
    operator_size at Sub a b = omega arith
    operator_size at Mul a b = omega arith
    operator_size at Div a b = division_size at a b (not_allowed s b) ∙ ap (λ z. failing (division_faults s at a b) + z) (not_allowed_are b)
    operator_size at Mod a b = division_size at a b (not_allowed s b) ∙ ap (λ z. failing (division_faults s at a b) + z) (not_allowed_are b)

    -- ---- calls

    abbrev fits_from : List Variable → ℕ → Expressions → ℕ
    fits_from vs i no_more = 0
    fits_from vs i (more a as_) = failing (fits_stream s (slice_get vs i) a) + fits_from vs (suc i) as_

    later_fits : (v : Variable) (vs : List Variable) (i : ℕ) (as_ : Expressions) → fits_from (v ∷ vs) (suc i) as_ ≡ fits_from vs i as_
    later_fits v vs i no_more = refl
    later_fits v vs i (more a as_) = ap (λ z. failing (fits_stream s (slice_get vs i) a) + z) (later_fits v vs (suc i) as_)

    no_fits : (i : ℕ) (as_ : Expressions) → fits_from [] i as_ ≡ 0
    no_fits i no_more = refl
    no_fits i (more a as_) = omega (arith, no_fits (suc i) as_)

    sorts_size : (vs : List Variable) (as_ : Expressions) → fits_from vs 0 as_ ≡ failing (sorts_fit s vs (listed as_))
    sorts_size [] as_ = no_fits 0 as_
    sorts_size (v ∷ vs) no_more = refl
    sorts_size (v ∷ vs) (more a as_) = ap (λ z. failing (needs_sort s v.sort a) + z) (later_fits v vs 0 as_ ∙ sorts_size vs as_) ∙ sym
        (failing_append (needs_sort s v.sort a) (sorts_fit s vs (listed as_)))

    fit_if : (b : Bool) (vs : List Variable) (as_ : Expressions) → fits_from (cond b vs []) 0 as_ ≡ failing (cond b (sorts_fit s vs (listed as_)) [])
    fit_if true vs as_ = sorts_size vs as_
    fit_if false vs as_ = no_fits 0 as_

    call_size : (w : Bool) (f : Spelled) (as_ : Expressions) (n : Option Component) → failing (call_faults s w f (listed as_) n) ≡ failing
        (call_own w f (length (listed as_)) n) + fits_from (inputs_for n (length (listed as_))) 0 as_
    call_size w f as_ None = omega (arith, no_fits 0 as_)
    call_size w f as_ (Some n) =
        let x : List Refused = if_so (not (length n.inputs == length (listed as_))) arity_clash f.at in
        let y : List Refused = arguments_fit s n.inputs (listed as_) in
        let z : List Refused = if_so (not w && not (has_one n.outputs)) arity_clash f.at in
        omega (arith, failing_append (x ++ y) z, failing_append x y, failing_append x z, fit_if (length n.inputs == length (listed as_)) n.inputs as_)

    default_size : (f : Spelled) (ds : Expressions) (n : Option Component) → failing (default_faults s f (listed ds) n) ≡ failing
        (default_own f (length (listed ds)) n) + fits_from (outputs_for n (length (listed ds))) 0 ds
    default_size f ds None = omega (arith, no_fits 0 ds)
    default_size f ds (Some n) =
        let x : List Refused = if_so (not (length n.outputs == length (listed ds))) arity_clash f.at in
        omega (arith, failing_append x (arguments_fit s n.outputs (listed ds)), fit_if (length n.outputs == length (listed ds)) n.outputs ds)

    defaults_size : (ds : Expressions) → failing (flat_map (not_allowed s) (listed ds)) ≡ hindrances_among ds
    defaults_size no_more = refl
    defaults_size (more a ds) = omega (arith, failing_append (not_allowed s a) (flat_map (not_allowed s) (listed ds)), not_allowed_are a, defaults_size ds)

    condact_size : (w : Bool) (a : Expression) (f : Spelled) (as_ ds : Expressions) (c : Option Component) →
        failing (needs_sort s Flags a ++ call_faults s w f (listed as_) c ++ default_faults s f (listed ds) c ++ flat_map (not_allowed s) (listed ds))
        ≡ failing (needs_sort s Flags a) + ((failing (call_own w f (length (listed as_)) c ++ default_own f (length (listed ds)) c) +
        fits_from (inputs_for c (length (listed as_))) 0 as_ + fits_from (outputs_for c (length (listed ds))) 0 ds) + hindrances_among
        ds)
    condact_size w a f as_ ds c =
        let x : List Refused = needs_sort s Flags a in
        let y : List Refused = call_faults s w f (listed as_) c in
        let z : List Refused = default_faults s f (listed ds) c in
        let u : List Refused = flat_map (not_allowed s) (listed ds) in
        omega (
          arith,
          failing_append ((x ++ y) ++ z) u,
          failing_append
              (x ++ y) z,
          failing_append x y,
          call_size w f as_ c,
          default_size f ds c,
          defaults_size ds,
          failing_append
              (call_own w f (length (listed as_)) c) (default_own f (length (listed ds)) c),
        )

    -- ---- all of them

    mutual
      pub noted_in : (t : Standing) (k : Bool) (e : Expression) → IsNoted t k e
      noted_in t k (truth q b) = leaf t k (truth q b) refl refl refl
      noted_in t k (number q n) = leaf t k (number q n) refl refl refl
      noted_in t k (name q x) = leaf t k (name q x) refl refl (omega arith)
      noted_in t k (negation q a) =
          closed t k (negation q a) (faults_in (within t) a) (hindrances a)
          (one_part (failing (walk s t.whole_side k (negation q a))) (failing (whole_walk s false k a)) (failing (needs_sort s Flags a))
          (faults_in (within t) a) (if_wanted k (hindrances a)) (failing_append (whole_walk s false k a) (needs_sort s Flags a))
          (noted_in (within t) k a))
          refl (omega arith)
      noted_in t k (minus q a) =
          closed t k (minus q a) (faults_in (within t) a) (hindrances a)
          (one_part (failing (walk s t.whole_side k (minus q a))) (failing (whole_walk s false k a)) (failing (needs_sort s Numbers a))
          (faults_in (within t) a) (if_wanted k (hindrances a)) (failing_append (whole_walk s false k a) (needs_sort s Numbers a))
          (noted_in (within t) k a))
          refl (omega arith)
      noted_in t k (pre q n a) =
          closed t k (pre q n a) (faults_in (before t) a) (hindrances a)
          (one_part (failing (walk s t.whole_side k (pre q n a))) (failing (whole_walk s false k a)) 0 (faults_in (before t) a)
          (if_wanted k (hindrances a)) (omega arith) (noted_in (before t) k a))
          refl refl
      noted_in t k (arrow q n a b) =
          closed t k (arrow q n a b) (faults_in (within t) a + faults_in (within t) b) (hindrances a + hindrances b)
          (two_parts (failing (walk s t.whole_side k (arrow q n a b))) (failing (whole_walk s false k a)) (failing (whole_walk s false k b))
          (failing (agree s a b)) (faults_in (within t) a) (if_wanted k (hindrances a)) (faults_in (within t) b)
          (if_wanted k (hindrances b)) (if_wanted k (hindrances a + hindrances b))
          (three_append (whole_walk s false k a) (whole_walk s false k b) (agree s a b)) (noted_in (within t) k a) (noted_in (within t) k b)
          (wanted_sum k (hindrances a) (hindrances b)))
          (omega (arith, over_append own_size (occurrences s.owner (within t) a) (occurs t (arrow q n a b) ∷ occurrences s.owner (within t) b))) refl
      noted_in t k (binary q o a b) =
          closed t k (binary q o a b) (faults_in (within t) a + faults_in (within t) b) (hindrances a + hindrances b)
          (two_with_wanted (failing (walk s t.whole_side k (binary q o a b))) (failing (whole_walk s false k a))
          (failing (whole_walk s false (k || is_division o) b)) (failing (operator_faults s q.at o a b))
          (failing (operator_own s q.at o a b)) (faults_in (within t) a) (if_wanted k (hindrances a)) (faults_in (within t) b)
          (if_wanted k (hindrances b)) (if_wanted (k || is_division o) (hindrances b)) (if_wanted (is_division o) (hindrances b))
          (if_wanted k (hindrances a + hindrances b))
          (three_append (whole_walk s false k a) (whole_walk s false (k || is_division o) b) (operator_own s q.at o a b))
          (operator_size q.at o a b) (noted_in (within t) k a) (noted_in (within t) (k || is_division o) b)
          (wanted_either k (is_division o) (hindrances b)) (wanted_sum k (hindrances a) (hindrances b)))
          (omega (arith, over_append own_size (occurrences s.owner (within t) a) (occurs t (binary q o a b) ∷ occurrences s.owner (within t) b))) (omega arith)
      noted_in t k (choice q a b c) =
          closed t k (choice q a b c) (faults_in (within t) a + (faults_in (within t) b + faults_in (within t) c))
          (hindrances a + (hindrances b + hindrances c))
          (three_parts (failing (walk s t.whole_side k (choice q a b c))) (failing (whole_walk s false k a))
          (failing (whole_walk s false k b)) (failing (whole_walk s false k c)) (failing (needs_sort s Flags a ++ agree s b c))
          (faults_in (within t) a) (if_wanted k (hindrances a)) (faults_in (within t) b) (if_wanted k (hindrances b))
          (faults_in (within t) c) (if_wanted k (hindrances c)) (if_wanted k (hindrances a + (hindrances b + hindrances c)))
          (failing_append (whole_walk s false k a) (whole_walk s false k b ++
          (whole_walk s false k c ++ (needs_sort s Flags a ++ agree s b c))) ∙ ap (λ z. failing (whole_walk s false k a) + z)
          (three_append (whole_walk s false k b) (whole_walk s false k c) (needs_sort s Flags a ++ agree s b c)))
          (noted_in (within t) k a) (noted_in (within t) k b) (noted_in (within t) k c)
          (wanted_sum k (hindrances a) (hindrances b + hindrances c) ∙ ap (λ z. if_wanted k (hindrances a) + z) (wanted_sum k (hindrances b) (hindrances c))))
          (omega (
            arith,
            over_append own_size (occurrences s.owner (within t) a)
                (occurrences s.owner (within t) b ++ occurrences s.owner (within t) c),
            over_append own_size
                (occurrences s.owner (within t) b) (occurrences s.owner (within t) c),
          )) (omega arith)
      noted_in t k (sampled q a b x) =
          closed t k (sampled q a b x) (faults_in (moved (clock_of s.owner x.text) t) a) (hindrances a)
          (one_part (failing (walk s t.whole_side k (sampled q a b x))) (failing (whole_walk s false k a)) (failing (used_as_clock s x))
          (faults_in (moved (clock_of s.owner x.text) t) a) (if_wanted k (hindrances a))
          (failing_append (whole_walk s false k a) (used_as_clock s x)) (noted_in (moved (clock_of s.owner x.text) t) k a))
          (omega (arith, over_append own_size (occurrences s.owner (moved (clock_of s.owner x.text) t) a) (occurs t (sampled q a b x) ∷ []))) refl
      noted_in t k (merged q x a b) =
          closed t k (merged q x a b) (faults_in (moved (sampled_by true x.text) t) a + faults_in (moved (sampled_by false x.text) t) b)
          (hindrances a + hindrances b)
          (two_parts (failing (walk s t.whole_side k (merged q x a b))) (failing (whole_walk s false k a))
          (failing (whole_walk s false k b)) (failing (used_as_clock s x ++ agree s a b))
          (faults_in (moved (sampled_by true x.text) t) a) (if_wanted k (hindrances a))
          (faults_in (moved (sampled_by false x.text) t) b) (if_wanted k (hindrances b)) (if_wanted k (hindrances a + hindrances b))
          (three_append (whole_walk s false k a) (whole_walk s false k b) (used_as_clock s x ++ agree s a b))
          (noted_in (moved (sampled_by true x.text) t) k a) (noted_in (moved (sampled_by false x.text) t) k b)
          (wanted_sum k (hindrances a) (hindrances b)))
          (omega (
            arith,
            over_append own_size (occurrences s.owner (moved (sampled_by true x.text) t) a)
                (occurrences s.owner (moved (sampled_by false x.text) t) b),
          )) refl
      noted_in t k (call q n f as_) =
          let c : Option Component = node_named s.program f.text in
          let vs : List Variable = inputs_for c (length (listed as_)) in
          closed t k (call q n f as_) (faults_among (within t) as_) (hindrances_among as_)
          (subst (λ z. Both (failing (walk s t.whole_side k (call q n f as_)))
          (z + faults_among (within t) as_ + if_wanted k (hindrances_among as_))) (sym (call_size t.whole_side f as_ c))
          (values_part (failing (walk s t.whole_side k (call q n f as_))) (failing (walk_among s k vs 0 as_))
          (failing (call_own t.whole_side f (length (listed as_)) c)) (faults_among (within t) as_) (if_wanted k (hindrances_among as_))
          (fits_from vs 0 as_)
          (failing_append (walk_among s k vs 0 as_) (call_own t.whole_side f (length (listed as_)) c)) (noted_among t k vs 0 as_)))
          refl refl
      noted_in t k (condact q n a f as_ ds) =
          let c : Option Component = node_named s.program f.text in
          let vs : List Variable = inputs_for c (length (listed as_)) in
          let us : List Variable = outputs_for c (length (listed ds)) in
          let own : List Refused = call_own t.whole_side f (length (listed as_)) c ++ default_own f (length (listed ds)) c in
          let head : List Refused = whole_walk s false k a ++ needs_sort s Flags a in
          let tail : List Refused = walk_among s true us 0 ds ++ own in
          closed t k (condact q n a f as_ ds) (faults_in (within t) a + (faults_among (within t) as_ + faults_among (within t) ds))
          (hindrances a + (hindrances_among as_ + hindrances_among ds))
          (subst (λ z. Both (failing (walk s t.whole_side k (condact q n a f as_ ds)))
          (z + (faults_in (within t) a + (faults_among (within t) as_ + faults_among (within t) ds)) + if_wanted k
          (hindrances a + (hindrances_among as_ + hindrances_among ds)))) (sym (condact_size t.whole_side a f as_ ds c))
          (four_parts (failing (walk s t.whole_side k (condact q n a f as_ ds))) (failing (whole_walk s false k a))
          (failing (needs_sort s Flags a)) (failing (walk_among s k vs 0 as_)) (failing (walk_among s true us 0 ds)) (failing own)
          (faults_in (within t) a) (if_wanted k (hindrances a)) (faults_among (within t) as_) (if_wanted k (hindrances_among as_))
          (fits_from vs 0 as_) (faults_among (within t) ds) (hindrances_among ds) (fits_from us 0 ds)
          (if_wanted k (hindrances_among ds)) (if_wanted k (hindrances a + (hindrances_among as_ + hindrances_among ds)))
          (omega (
            arith,
            failing_append head (walk_among s k vs 0 as_ ++ tail),
            failing_append (whole_walk s false k a)
                (needs_sort s Flags a),
            failing_append (walk_among s k vs 0 as_) tail,
            failing_append (walk_among s true us 0 ds) own,
          ))
          (noted_in (within t) k a) (noted_among t k vs 0 as_) (noted_among t true us 0 ds) (wanted_zero k (hindrances_among ds))
          (wanted_sum k (hindrances a) (hindrances_among as_ + hindrances_among ds) ∙ ap (λ z. if_wanted k (hindrances a) + z)
          (wanted_sum k (hindrances_among as_) (hindrances_among ds)))))
          (omega (
            arith,
            over_append own_size (occurrences s.owner (within t) a)
                (occurrences_among s.owner (within t) as_ ++ occurrences_among s.owner (within t) ds),
            over_append own_size
                (occurrences_among s.owner (within t) as_) (occurrences_among s.owner (within t) ds),
          )) refl
      noted_in t k (mode_name q c m) = leaf t k (mode_name q c m) refl refl (omega arith)

      noted_among : (t : Standing) (k : Bool) (vs : List Variable) (i : ℕ) (as_ : Expressions) → Both (failing (walk_among s k vs i as_))
          (faults_among (within t) as_ + if_wanted k (hindrances_among as_) + fits_from vs i as_)
      noted_among t true vs i no_more = record { there = λ z. refl; back = λ z. refl }
      noted_among t false vs i no_more = record { there = λ z. refl; back = λ z. refl }
      noted_among t k vs i (more a as_) =
          let f : List Refused = fits_stream s (slice_get vs i) a in
          let r : List Refused = walk_among s k vs (suc i) as_ in
          subst (λ z. Both (failing (walk_among s k vs i (more a as_)))
          (z + if_wanted k (hindrances_among (more a as_)) + fits_from vs i (more a as_)))
          (sym (over_append own_size (occurrences s.owner (within t) a) (occurrences_among s.owner (within t) as_)))
          (more_values (failing (walk_among s k vs i (more a as_))) (failing (whole_walk s false k a)) (failing f) (failing r)
          (faults_in (within t) a) (if_wanted k (hindrances a)) (faults_among (within t) as_) (if_wanted k (hindrances_among as_))
          (if_wanted k (hindrances_among (more a as_))) (fits_from vs (suc i) as_)
          (failing_append (whole_walk s false k a ++ f) r ∙ ap (λ z. z + failing r) (failing_append (whole_walk s false k a) f))
          (noted_in (within t) k a) (noted_among t k vs (suc i) as_) (wanted_sum k (hindrances a) (hindrances_among as_)))

    -- ---- by the definition

    pub expression_noted : (t : Standing) (e : Expression) → Both (failing (whole_walk s t.whole_side false e)) (failing (expression_faults s t e))
    expression_noted t e =
        let i : IsNoted t false e = noted_in t false e in
        let d : failing (expression_faults s t e) ≡ faults_in t e = over_faults (part_faults s) (occurrences s.owner t e) in
        record { there = λ z. omega (arith, d, i.there); back = λ z. omega (arith, d, i.back) }

    -- of truth values
    pub flag_noted : (e : Expression) → Both (failing (whole_walk s false false e ++ needs_sort s Flags e)) (failing (flag_faults s e))
    flag_noted e =
        let i : Both (failing (whole_walk s false false e)) (failing (expression_faults s (on_clock base) e)) = expression_noted (on_clock base) e in
        record {
          there = λ z. omega (
            arith,
            failing_append (whole_walk s false false e) (needs_sort s Flags e),
            failing_append
                (needs_sort s Flags e) (expression_faults s (on_clock base) e),
            i.there,
          );
          back = λ z. omega (
            arith,
            failing_append (whole_walk s false false e) (needs_sort s Flags e),
            failing_append
                (needs_sort s Flags e) (expression_faults s (on_clock base) e),
            i.back,
          );
        }

    -- of a constant
    pub definition_noted : (q : Option Sort) (e : Expression) → Both
        (failing (whole_walk s false true e ++ if_so (differ q (type_of s e)) type_clash (begin e))) (failing (definition_faults s q e))
    definition_noted q e =
        let t : Standing = on_clock base in
        let i : IsNoted t true e = noted_in t true e in
        let c : List Refused = if_so (differ q (type_of s e)) type_clash (begin e) in
        let d : failing (expression_faults s t e) ≡ faults_in t e = over_faults (part_faults s) (occurrences s.owner t e) in
        let n : failing (not_allowed s e) ≡ hindrances e = not_allowed_are e in
        let l : failing (whole_walk s false true e ++ c) ≡ failing (whole_walk s false true e) + failing c = failing_append (whole_walk s false true e) c in
        let r : failing ((not_allowed s e ++ expression_faults s t e) ++ c) ≡ failing
        (not_allowed s e ++ expression_faults s t e) + failing c = failing_append (not_allowed s e ++ expression_faults s t e) c in
        let m : failing (not_allowed s e ++ expression_faults s t e) ≡ failing (not_allowed s e) + failing
        (expression_faults s t e) = failing_append (not_allowed s e) (expression_faults s t e) in
        record { there = λ z. omega (arith, d, n, l, r, m, i.there); back = λ z. omega (arith, d, n, l, r, m, i.back) }
