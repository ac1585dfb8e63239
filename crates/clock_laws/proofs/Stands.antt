-- Where no rule of clocks is broken, each part of an expression stands on the clock of its place.
use Rattle.std.proofs.Common.{◌≡◌, Bool, true, false, not, ◌&&◌, List, [], ◌∷◌, flat_map, Option, Some, None, unwrap_or, refl, sym, ap, subst}
use Rattle.std.specs.List.{AllByRecursion}
use Rattle.std.specs.Bool.{beq}
use Rattle.std.specs.Str.{bytes_eq}
use Rattle.std.proofs.lemmas.Bool.{false≢true}
use Rattle.lus_tree.specs.Tree.{Expression, Expressions, truth, number, name, negation, minus, pre, arrow, binary, choice, sampled, merged, call, condact, mode_name, no_more, more, Component}
use Rattle.lus_tree.specs.Reason.{clock_clash}
use Rattle.lus_meaning.specs.Scene.{Clock, base, sampled_by, clock_of}
use Rattle.lus_meaning.specs.Program.{listed}
use Rattle.lus_meaning.specs.Occurrences.{Standing, within, before, moved, Occurrence, begin}
use Rattle.lus_meaning.specs.ClockFaults.{same_clock, or_else, clock_in, clock_among, is_other, stands_on, all_on, clock_form_faults}
use Rattle.lus_meaning.proofs.EachPart.{Each, EachAmong}
use Rattle.lus_meaning.proofs.NamesOnce.{no_parts, not_so}
use Rattle.lus_meaning.proofs.Unique.{same_bytes}

not_false : (b : Bool) → not b ≡ false → b ≡ true
not_false true e = refl
not_false false e = absurd (false≢true (sym e))

both_true : (a b : Bool) → (a && b) ≡ true → (a ≡ true) × (b ≡ true)
both_true true b e = (refl, e)
both_true false b e = absurd (false≢true e)

same_truth : (a b : Bool) → beq a b ≡ true → a ≡ b
same_truth true true e = refl
same_truth false false e = refl
same_truth true false e = absurd (false≢true e)
same_truth false true e = absurd (false≢true e)

same_clocks : (c d : Clock) → same_clock c d ≡ true → c ≡ d
same_clocks base base e = refl
same_clocks base (sampled_by b x) e = absurd (false≢true e)
same_clocks (sampled_by b x) base e = absurd (false≢true e)
same_clocks (sampled_by b x) (sampled_by c y) e =
    let h : (beq b c ≡ true) × (bytes_eq x y ≡ true) = both_true (beq b c) (bytes_eq x y) e in
    rw (same_truth b c h.0, same_bytes x y h.1) refl

-- what stands on a clock and has one has that one
pub is_that : (c d : Clock) → is_other c (Some d) ≡ false → c ≡ d
is_that c d e = same_clocks c d (not_false (same_clock c d) e)

abbrev is_some_clock : Option Clock → Bool
is_some_clock None = false
is_some_clock (Some c) = true

pub first_none : (a b : Option Clock) → or_else a b ≡ None → a ≡ None
first_none None b e = refl
first_none (Some c) b e = absurd (false≢true (sym (ap is_some_clock e)))

pub second_none : (a b : Option Clock) → or_else a b ≡ None → b ≡ None
second_none None b e = e
second_none (Some c) b e = absurd (false≢true (sym (ap is_some_clock e)))

module _ (n : Component) where
  abbrev pub Stands : Clock → Expression → Type 0
  Stands c e = is_other c (clock_in n e) ≡ false

  abbrev pub AllStand : Clock → Expressions → Type 0
  AllStand c no_more = Unit {0}
  AllStand c (more a as_) = Stands c a × AllStand c as_

  flexible_stands : (c : Clock) (e : Expression) → clock_in n e ≡ None → Stands c e
  flexible_stands c e h = rw h refl

  pub stands_there : (c : Clock) (e : Expression) → stands_on n c e ≡ [] → Stands c e
  stands_there c e h = not_so (is_other c (clock_in n e)) clock_clash (begin e) h

  -- operands of one clock, where it is known, and where it isn't
  first_stands : (c : Clock) (o : Option Clock) (a : Expression) (as_ : List Expression) → is_other c o ≡ false → all_on n o (a ∷ as_) ≡ []
      → (o ≡ None → clock_in n a ≡ None) → Stands c a
  first_stands c None a as_ e h g = flexible_stands c a (g refl)
  first_stands c (Some d) a as_ e h g = subst (λ k. Stands k a) (sym (is_that c d e)) (stands_there d a (no_parts (stands_on n d a) _ h).0)

  rest_on : (o : Option Clock) (a : Expression) (as_ : List Expression) → all_on n o (a ∷ as_) ≡ [] → all_on n o as_ ≡ []
  rest_on None a as_ h = refl
  rest_on (Some c) a as_ h = (no_parts (stands_on n c a) _ h).1

  two_stand : (c : Clock) (a b : Expression) → is_other c (or_else (clock_in n a) (clock_in n b)) ≡ false → all_on n
      (or_else (clock_in n a) (clock_in n b)) (a ∷ b ∷ []) ≡ [] → Stands c a × Stands c b
  two_stand c a b e h =
      let o : Option Clock = or_else (clock_in n a) (clock_in n b) in (
        first_stands c o a (b ∷ []) e h (first_none (clock_in n a) (clock_in n b)),
        first_stands c o b [] e (rest_on o a (b ∷ []) h) (second_none (clock_in n a) (clock_in n b)),
      )

  abbrev of_three : Expression → Expression → Expression → Option Clock
  of_three a b d = or_else (clock_in n a) (or_else (clock_in n b) (clock_in n d))

  three_stand : (c : Clock) (a b d : Expression) → is_other c (of_three a b d) ≡ false → all_on n (of_three a b d) (a ∷ b ∷ d ∷ []) ≡ []
      → Stands c a × Stands c b × Stands c d
  three_stand c a b d e h = (
    first_stands c (of_three a b d) a (b ∷ d ∷ []) e h (first_none (clock_in n a) (or_else (clock_in n b) (clock_in n d))),
    first_stands c (of_three a b d) b (d ∷ []) e (rest_on (of_three a b d) a (b ∷ d ∷ []) h)
        (λ i. first_none (clock_in n b) (clock_in n d) (second_none (clock_in n a) (or_else (clock_in n b) (clock_in n d)) i)),
    first_stands c (of_three a b d) d [] e (rest_on (of_three a b d) b (d ∷ []) (rest_on (of_three a b d) a (b ∷ d ∷ []) h))
        (λ i. second_none (clock_in n b) (clock_in n d) (second_none (clock_in n a) (or_else (clock_in n b) (clock_in n d)) i)),
  )

  -- arguments, on the clock of a call
  none_stand : (c : Clock) (as_ : Expressions) → clock_among n as_ ≡ None → AllStand c as_
  none_stand c no_more e = tt
  none_stand c (more a as_) e = (
    flexible_stands c a (first_none (clock_in n a) (clock_among n as_) e),
    none_stand c as_ (second_none (clock_in n a) (clock_among n as_) e),
  )

  some_stand : (c : Clock) (as_ : Expressions) → flat_map (stands_on n c) (listed as_) ≡ [] → AllStand c as_
  some_stand c no_more h = tt
  some_stand c (more a as_) h =
      (stands_there c a (no_parts (stands_on n c a) _ h).0, some_stand c as_ (no_parts (stands_on n c a) _ h).1)

  all_stand : (c : Clock) (o : Option Clock) (as_ : Expressions) → clock_among n as_ ≡ o → is_other c (Some (unwrap_or o base)) ≡ false
      → all_on n o (listed as_) ≡ [] → AllStand c as_
  all_stand c None as_ e s h = none_stand c as_ e
  all_stand c (Some d) as_ e s h = subst (λ k. AllStand k as_) (sym (is_that c d s)) (some_stand d as_ h)

  flexible_all : (c : Clock) (ds : Expressions) → AllByRecursion (λ d. clock_in n d ≡ None) (listed ds) → AllStand c ds
  flexible_all c no_more a = tt
  flexible_all c (more d ds) a = (flexible_stands c d a.0, flexible_all c ds a.1)

  -- defaults have no clock
  abbrev pub DefaultsFlexible : Expression → Type 0
  DefaultsFlexible (condact p k a f as_ ds) = AllByRecursion (λ d. clock_in n d ≡ None) (listed ds)
  DefaultsFlexible _ = Unit {0}

  pub record ClockRight (o : Occurrence) : Type 0 where
    pub clocks : clock_form_faults n o.expression ≡ []
    pub defaults : DefaultsFlexible o.expression

  abbrev pub StandsThere : Occurrence → Type 0
  StandsThere o = Stands o.standing.clock o.expression

  mutual
    pub each_stands : (t : Standing) (e : Expression) → Each ClockRight n t e → Stands t.clock e → Each StandsThere n t e
    each_stands t (truth p b) g h = h
    each_stands t (number p k) g h = h
    each_stands t (name p x) g h = h
    each_stands t (negation p a) g h = (h, each_stands (within t) a g.1 h)
    each_stands t (minus p a) g h = (h, each_stands (within t) a g.1 h)
    each_stands t (pre p k a) g h = (h, each_stands (before t) a g.1 h)
    each_stands t (arrow p k a b) g h =
        let o : Stands t.clock a × Stands t.clock b = two_stand t.clock a b h g.0.clocks in
        (h, each_stands (within t) a g.1 o.0, each_stands (within t) b g.2 o.1)
    each_stands t (binary p q a b) g h =
        let o : Stands t.clock a × Stands t.clock b = two_stand t.clock a b h g.0.clocks in
        (h, each_stands (within t) a g.1 o.0, each_stands (within t) b g.2 o.1)
    each_stands t (choice p a b d) g h =
        let o : Stands t.clock a × Stands t.clock b × Stands t.clock d = three_stand t.clock a b d h g.0.clocks in
        (h, each_stands (within t) a g.1 o.0, each_stands (within t) b g.2 o.1, each_stands (within t) d g.3 o.2)
    each_stands t (sampled p a b x) g h =
        (h, each_stands (moved (clock_of n x.text) t) a g.1 (stands_there (clock_of n x.text) a g.0.clocks))
    each_stands t (merged p x a b) g h =
        let o : (stands_on n (sampled_by true x.text) a ≡ []) × (stands_on n (sampled_by false x.text) b ≡ []) = no_parts
        (stands_on n (sampled_by true x.text) a) (stands_on n (sampled_by false x.text) b) g.0.clocks in (
          h,
          each_stands (moved (sampled_by true x.text) t) a g.1 (stands_there (sampled_by true x.text) a o.0),
          each_stands (moved (sampled_by false x.text) t) b g.2 (stands_there (sampled_by false x.text) b o.1),
        )
    each_stands t (call p k f as_) g h =
        (h, among_stand (within t) as_ g.1 (all_stand t.clock (clock_among n as_) as_ refl h g.0.clocks))
    each_stands t (condact p k a f as_ ds) g h =
        let o : (all_on n (clock_among n as_) (listed as_) ≡ []) × (stands_on n (unwrap_or (clock_among n as_) base) a ≡ []) = no_parts
        (all_on n (clock_among n as_) (listed as_)) (stands_on n (unwrap_or (clock_among n as_) base) a) g.0.clocks in
        let c : t.clock ≡ unwrap_or (clock_among n as_) base = is_that t.clock (unwrap_or (clock_among n as_) base) h in (
          h,
          each_stands (within t) a g.1 (subst (λ k. Stands k a) (sym c) (stands_there (unwrap_or (clock_among n as_) base) a o.1)),
          among_stand (within t) as_ g.2 (all_stand t.clock (clock_among n as_) as_ refl h o.0),
          among_stand (within t) ds g.3 (flexible_all t.clock ds g.0.defaults),
        )
    each_stands t (mode_name p d m) g h = h

    pub among_stand : (t : Standing) (as_ : Expressions) → EachAmong ClockRight n t as_ → AllStand t.clock as_ → EachAmong StandsThere n t as_
    among_stand t no_more g h = tt
    among_stand t (more a as_) g h = (each_stands t a g.0 h.0, among_stand t as_ g.1 h.1)
