-- A row that is filled has the values that follow, for the slots of a closed set.
use Rattle.std.proofs.Common.{◌≡◌, ℕ, zero, suc, ◌<◌, Bool, true, false, ◌||◌, eqb, List, [], ◌∷◌, ◌++◌, Option, Some, None, length, set, slice_get, refl, ap, ◌∙◌, sym, subst, arith}
use Rattle.std.specs.List.{AllByRecursion, IsDistinct}
use Rattle.std.proofs.Math.Logic.{◌⊎◌, inl, inr}
use Rattle.std.proofs.lemmas.Bool.{true≢false, false≢true, eqb-true, eqb-false, eq-eqb, cases_Bool}
use Rattle.std.proofs.lemmas.List.{get_or-set_same, get_or-set_other, length-set}
use Rattle.std.proofs.lemmas.List.Folds.{list_any-append}
use Rattle.lus_meaning.specs.Value.{Value, absent}
use Rattle.lus_meaning.specs.Order.{AreReady, is_listed}
use Rattle.lus_meaning.proofs.Lists.{or_true}
use Rattle.slot_values.specs.declared.resolved.PastAt.{PastAt}
use Rattle.slot_values.specs.Evaluated.{SlotValues}
use Rattle.slot_sources.specs.Source.{Source}
use Rattle.slot_sources.specs.Rows.{Choices, outside_now, reads_now, value_now}
use Rattle.slot_rows.specs.Order.{NeedsSlot, reads_each, reads_of}
use Rattle.slot_rows.specs.Table.{Row, filled, is_any, listed_or, slots_of, unless, value_by, with_value}
use Rattle.slot_rows.proofs.Dependence.{SameOn, now_same, outside_now_same}

-- ---- sources by their numbers

pub source_at : (es : List Source) (k : ℕ) → k < length es → (e : Source) × (slice_get es k ≡ Some e)
source_at [] k l = absurd (omega (arith, l))
source_at (e ∷ es) zero l = (e, refl)
source_at (e ∷ es) (suc k) l = source_at es k (omega (arith, l))

pub read_at : (es : List Source) (k : ℕ) (e : Source) → slice_get es k ≡ Some e → reads_of (reads_each es) k ≡ reads_now e
read_at [] k e q = cc
read_at (d ∷ es) zero e q = ap reads_now (some_is d e q)
  where
    some_is : (d e : Source) → Some d ≡ Some e → d ≡ e
    some_is d e q = cc
read_at (d ∷ es) (suc k) e q = read_at es k e q

-- each of a list is listed there
pub all_listed : (P Q : ℕ → Type 0) (js : List ℕ) → ((j : ℕ) → is_listed js j ≡ true → P j → Q j) → AllByRecursion P js → AllByRecursion Q js
all_listed P Q [] h a = tt
all_listed P Q (i ∷ js) h a = (h i (rw (eq-eqb i i refl) refl) a.0, all_listed P Q js (λ j e p. h j (or_true (eqb j i) (is_listed js j) e) p) a.1)

pub apart : (k : ℕ) (js : List ℕ) (j : ℕ) → AllByRecursion (λ y. eqb k y ≡ false) js → is_listed js j ≡ true → eqb j k ≡ false
apart k [] j a e = absurd (false≢true e)
apart k (i ∷ js) j a e = go (cases_Bool (eqb j i)) (cases_Bool (eqb j k)) (apart k js j a.1)
  where
    go : (eqb j i ≡ true) ⊎ (eqb j i ≡ false) → (eqb j k ≡ true) ⊎ (eqb j k ≡ false) → (is_listed js j ≡ true → eqb j k ≡ false) → eqb j k ≡ false
    go c (inr f) r = f
    go (inr f) (inl t) r = r (rw f at e)
    go (inl c) (inl t) r =
        let x : j ≡ i = eqb-true j i c in
        let y : j ≡ k = eqb-true j k t in
        absurd (true≢false (sym (eq-eqb k i (sym y ∙ x)) ∙ a.0))

-- ---- what was outside

pub stays_outside : (c : Choices) (es : List Source) (t : ℕ) (r : Row) (ks : List ℕ) → r.outside ≡ true → (filled c es t r ks).outside ≡ true
stays_outside c es t r [] e = e
stays_outside c es t r (k ∷ ks) e = stays_outside c es t (with_value c t k (slice_get es k) r) ks (step (slice_get es k))
  where
    step : (o : Option Source) → (with_value c t k o r).outside ≡ true
    step None = e
    step (Some d) = rw e refl

pub none_of : (ps : List PastAt) → (is_any ps ≡ true → ⊥) → ps ≡ []
none_of [] h = refl
none_of (p ∷ ps) h = absurd (h refl)

-- ---- slot by slot

-- a set of slots whose sources read at the same instant only slots of the set
pub record IsClosedNow (es : List Source) (in_set : ℕ → Bool) : Type 0 where
  pub slots : (k : ℕ) → in_set k ≡ true → k < length es
  pub now : (k : ℕ) (e : Source) → slice_get es k ≡ Some e → in_set k ≡ true → AllByRecursion (λ j. in_set j ≡ true) (reads_now e)

module _ (c : Choices) (es : List Source) (t : ℕ) (in_set : ℕ → Bool) (closed : IsClosedNow es in_set) (s : SlotValues) (initial : SlotValues)
    (follows : (k : ℕ) (e : Source) → slice_get es k ≡ Some e → in_set k ≡ true → s k ≡ value_now s (listed_or c t k (initial k) e) e) where
  -- no operation is outside in the rows that follow, or none was in this row
  abbrev pub Fine : Row → Type 0
  Fine r = ((k : ℕ) (e : Source) → slice_get es k ≡ Some e → in_set k ≡ true → outside_now s e ≡ []) ⊎ (r.outside ≡ false)

  -- Some slots have their values, and the others have what was brought to them.
  pub record Filling (done ks : List ℕ) (r : Row) : Type 0 where
    pub whole : length r.values ≡ length es
    pub ready : AreReady (length es) (NeedsSlot es) done ks
    pub once : IsDistinct eqb ks
    pub below : AllByRecursion (λ k. k < length es) ks
    pub there : (j : ℕ) → in_set j ≡ true → is_listed done j ≡ true → slots_of r.values j ≡ s j
    pub own : (j : ℕ) → is_listed ks j ≡ true → slots_of r.values j ≡ initial j

  -- those that it reads are there
  reads_same : (done ks : List ℕ) (r : Row) (k : ℕ) (e : Source) → Filling done (k ∷ ks) r → slice_get es k ≡ Some e → in_set k ≡ true
      → SameOn (slots_of r.values) s (reads_now e)
  reads_same done ks r k e f q i =
      all_listed (λ j. in_set j ≡ true) (λ j. slots_of r.values j ≡ s j) (reads_now e)
      (λ j m g. f.there j g (f.ready.0 j (closed.slots j g) (subst (λ js. is_listed js j ≡ true) (sym (read_at es k e q)) m))) (closed.now k e q i)

  none_here : (ks : List ℕ) (r : Row) (k : ℕ) (e : Source) → slice_get es k ≡ Some e → in_set k ≡ true → SameOn (slots_of r.values) s (reads_now e)
      → Fine (filled c es t (with_value c t k (Some e) r) ks) → outside_now (slots_of r.values) e ≡ []
  none_here ks r k e q i same (inl h) = outside_now_same (slots_of r.values) s e same ∙ h k e q i
  none_here ks r k e q i same (inr f) = none_of (outside_now (slots_of r.values) e)
      (λ x. true≢false (sym (stays_outside c es t (with_value c t k (Some e) r) ks (or_true r.outside (is_any (outside_now (slots_of r.values) e)) x)) ∙ f))

  value_is : (r : Row) (k : ℕ) (e : Source) → slice_get es k ≡ Some e → in_set k ≡ true → SameOn (slots_of r.values) s (reads_now e)
      → slots_of r.values k ≡ initial k → outside_now (slots_of r.values) e ≡ [] → value_by c t k (slots_of r.values) e ≡ s k
  value_is r k e q i same own none =
      ap (λ ps. unless ps (value_now (slots_of r.values) (listed_or c t k (slots_of r.values k) e) e)) none
      ∙ (now_same (slots_of r.values) s (listed_or c t k (slots_of r.values k) e) e same
      ∙ (ap (λ v. value_now s (listed_or c t k v e) e) own ∙ sym (follows k e q i)))

  either : (done ks : List ℕ) (k j : ℕ) → (is_listed done j || is_listed (k ∷ ks) j) ≡ true → (is_listed (done ++ k ∷ []) j || is_listed ks j) ≡ true
  either done ks k j e = rw (list_any-append (eqb j) done (k ∷ [])) (turn (is_listed done j) (eqb j k) (is_listed ks j) e)
    where
      turn : (a b d : Bool) → (a || (b || d)) ≡ true → ((a || (b || false)) || d) ≡ true
      turn true b d e = refl
      turn false true d e = refl
      turn false false d e = e

  before : (done : List ℕ) (k j : ℕ) → eqb j k ≡ false → is_listed (done ++ k ∷ []) j ≡ true → is_listed done j ≡ true
  before done k j f m = turn (is_listed done j) (rw f at (sym (list_any-append (eqb j) done (k ∷ [])) ∙ m))
    where
      turn : (a : Bool) → (a || (false || false)) ≡ true → a ≡ true
      turn true e = refl
      turn false e = e

  -- one more slot has its value
  step : (done ks : List ℕ) (r : Row) (k : ℕ) (e : Source) → Filling done (k ∷ ks) r → slice_get es k ≡ Some e
      → (in_set k ≡ true → outside_now (slots_of r.values) e ≡ []) → Filling (done ++ k ∷ []) ks (with_value c t k (Some e) r)
  unfolding IsDistinct
  step done ks r k e f q none = record {
    whole = length-set r.values k v ∙ f.whole;
    ready = f.ready.1;
    once = f.once.1;
    below = f.below.1;
    there = λ j g l. there j g l (cases_Bool (eqb j k));
    own = λ j l. get_or-set_other r.values k j v absent (eqb-false j k (apart k ks j f.once.0 l)) ∙ f.own j (or_true (eqb j k) (is_listed ks j) l);
  }
    where
      v : Value
      v = value_by c t k (slots_of r.values) e

      inside : k < length r.values
      inside = subst (λ n. k < n) (sym f.whole) f.below.0

      here : in_set k ≡ true → v ≡ s k
      here g = value_is r k e q g (reads_same done ks r k e f q g) (f.own k (rw (eq-eqb k k refl) refl)) (none g)

      there : (j : ℕ) → in_set j ≡ true → is_listed (done ++ k ∷ []) j ≡ true → (eqb j k ≡ true) ⊎ (eqb j k ≡ false)
          → slots_of (set r.values k v) j ≡ s j
      there j g l (inl y) = subst (λ n. in_set n ≡ true → slots_of (set r.values k v) n ≡ s n) (sym (eqb-true j k y))
          (λ g. get_or-set_same r.values k v absent inside ∙ here g) g
      there j g l (inr y) = get_or-set_other r.values k j v absent (eqb-false j k y) ∙ f.there j g (before done k j y l)

  pub fills : (done ks : List ℕ) (r : Row) → Filling done ks r → Fine (filled c es t r ks) → (j : ℕ) → in_set j ≡ true
      → (is_listed done j || is_listed ks j) ≡ true → slots_of (filled c es t r ks).values j ≡ s j
  fills done [] r f fine j i m = f.there j i (turn (is_listed done j) m)
    where
      turn : (a : Bool) → (a || false) ≡ true → a ≡ true
      turn true e = refl
      turn false e = e
  fills done (k ∷ ks) r f fine j i m =
      let found : (e : Source) × (slice_get es k ≡ Some e) = source_at es k f.below.0 in
      let e : Source = found.0 in
      let now : Fine (filled c es t (with_value c t k (Some e) r) ks) = subst (λ o. Fine (filled c es t (with_value c t k o r) ks)) found.1 fine in
      subst (λ o. slots_of (filled c es t (with_value c t k o r) ks).values j ≡ s j) (sym found.1)
      (fills (done ++ k ∷ []) ks (with_value c t k (Some e) r)
      (step done ks r k e f found.1 (λ g. none_here ks r k e found.1 g (reads_same done ks r k e f found.1 g) now)) now j i (either done ks k j m))

  -- where none was outside in this row, none is in the rows that follow
  pub were_within : (done ks : List ℕ) (r : Row) → Filling done ks r → (filled c es t r ks).outside ≡ false → (j : ℕ) (d : Source)
      → slice_get es j ≡ Some d → in_set j ≡ true → is_listed ks j ≡ true → outside_now s d ≡ []
  were_within done [] r f o j d q g m = absurd (false≢true m)
  were_within done (k ∷ ks) r f o j d q g m =
      let found : (e : Source) × (slice_get es k ≡ Some e) = source_at es k f.below.0 in
      let e : Source = found.0 in
      let now : (filled c es t (with_value c t k (Some e) r) ks).outside ≡ false =
      subst (λ o. (filled c es t (with_value c t k o r) ks).outside ≡ false) found.1 o in
      go (cases_Bool (eqb j k)) (were_within (done ++ k ∷ []) ks (with_value c t k (Some e) r)
      (step done ks r k e f found.1 (λ g. none_here ks r k e found.1 g (reads_same done ks r k e f found.1 g) (inr now))) now j d q g)
    where
      here : slice_get es k ≡ Some d → in_set k ≡ true → outside_now s d ≡ []
      here q g =
          let same : SameOn (slots_of r.values) s (reads_now d) = reads_same done ks r k d f q g in
          sym (outside_now_same (slots_of r.values) s d same)
          ∙ none_here ks r k d q g same (inr (subst (λ o. (filled c es t (with_value c t k o r) ks).outside ≡ false) q o))

      go : (eqb j k ≡ true) ⊎ (eqb j k ≡ false) → (is_listed ks j ≡ true → outside_now s d ≡ []) → outside_now s d ≡ []
      go (inl y) later =
          here (subst (λ n. slice_get es n ≡ Some d) (eqb-true j k y) q) (subst (λ n. in_set n ≡ true) (eqb-true j k y) g)
      go (inr y) later = later (rw y at m)

  module _ (none : (k : ℕ) (e : Source) → slice_get es k ≡ Some e → in_set k ≡ true → outside_now s e ≡ [])
      (others : (k : ℕ) (e : Source) → slice_get es k ≡ Some e → in_set k ≡ false → (r : SlotValues) → outside_now r e ≡ []) where
    none_at : (done ks : List ℕ) (r : Row) (k : ℕ) (e : Source) → Filling done (k ∷ ks) r → slice_get es k ≡ Some e → outside_now (slots_of r.values) e ≡ []
    none_at done ks r k e f q = go (cases_Bool (in_set k))
      where
        go : (in_set k ≡ true) ⊎ (in_set k ≡ false) → outside_now (slots_of r.values) e ≡ []
        go (inl g) = outside_now_same (slots_of r.values) s e (reads_same done ks r k e f q g) ∙ none k e q g
        go (inr g) = others k e q g (slots_of r.values)

    -- where none is outside in the rows that follow, none is in this row
    pub stays_within : (done ks : List ℕ) (r : Row) → Filling done ks r → r.outside ≡ false → (filled c es t r ks).outside ≡ false
    stays_within done [] r f o = o
    stays_within done (k ∷ ks) r f o =
        let found : (e : Source) × (slice_get es k ≡ Some e) = source_at es k f.below.0 in
        let here : outside_now (slots_of r.values) found.0 ≡ [] = none_at done ks r k found.0 f found.1 in
        let flag : (with_value c t k (Some found.0) r).outside ≡ false = rw (o, here) refl in
        subst (λ o. (filled c es t (with_value c t k o r) ks).outside ≡ false) (sym found.1)
        (stays_within (done ++ k ∷ []) ks (with_value c t k (Some found.0) r) (step done ks r k found.0 f found.1 (λ g. here)) flag)
