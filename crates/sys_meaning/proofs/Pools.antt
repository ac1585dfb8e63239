-- The names of a frame and what they equal, in a state that shows the frame.
use Rattle.std.proofs.Common.{◌≡◌, ℕ, Bool, true, false, cond, ◌&&◌, List, [], ◌∷◌, ◌++◌, map, flat_map, refl, ap, ◌∙◌, sym, Option, Some, None}
use Rattle.std.specs.List.{AllByRecursion}
use Rattle.std.specs.Map.{lookup}
use Rattle.std.specs.Str.{bytes_eq}
use Rattle.std.proofs.lemmas.Bool.{false≢true, true≢false}
use Rattle.lus_tree.specs.declared.place.Sort.{Sort}
use Rattle.lus_tree.specs.Tree.{Name, Variable, Expression, truth, number, name, negation, minus, pre, arrow, binary, choice, sampled, merged, call, condact, mode_name}
use Rattle.lus_meaning.specs.Value.{Value, absent, flag, whole, has_sort}
use Rattle.lus_meaning.specs.Frame.{entry}
use Rattle.lus_meaning.specs.Scene.{Clock, Scene, component_of, clock_from, variables, is_on}
use Rattle.lus_meaning.specs.Scene.{clock_of_names}
use Rattle.lus_meaning.specs.Run.{Equation, equations, sort_of, sort_of_name, IsBalanced, have_sorts, is_typed, inputs_of}
use Rattle.lus_meaning.specs.Depends.{named_in}
use Rattle.lus_meaning.specs.Trace.{or_default}
use Rattle.lus_meaning.proofs.Unique.{same_bytes, at_entries}
use Rattle.sys_terms.specs.View.{Formula}
use Rattle.sys_terms.specs.Meaning.{Values, truth_of}
use Rattle.sys_meaning.specs.Slot.{Place, beat, named, own, in_call}
use Rattle.sys_meaning.specs.Slot as slot
use Rattle.lus_meaning.proofs.Typed.{has_as}
use Rattle.sys_meaning.proofs.Operators.{choose_worth}
use Rattle.sys_meaning.specs.Items.{Key, Known}
use Rattle.sys_meaning.specs.Part.{Part, worth, value_in, variable}
use Rattle.sys_meaning.specs.Translate.{Stage, term_of, right_terms, flag_at, output_part, held_part, latest_part, outputs_at, present}
use Rattle.sys_meaning.specs.System.{Sources, paired, equation_sources, name_here, names_here, is_free, clock_of_variable}
use Rattle.sys_meaning.specs.WellTyped.{clock_here, IsNameOn, Stands, StreamFits, EquationFits, right_sorts, OwnFits}
use Rattle.sys_meaning.proofs.Conditions.{zero_value, equals_made, free_made}
use Rattle.sys_meaning.proofs.Present.{present_on}
use Rattle.sys_meaning.proofs.Rows.{OwnShown, modes_agree, on_sort, as_it_is}
use Rattle.sys_meaning.proofs.Shown.{variable_worth, value_has}
use Rattle.sys_meaning.proofs.Main.{stage_here, term_has, right_value}

-- a source that is found is one of the list
pub found_holds : (P : Name → Part → Type 0) (x : Name) (pool : Sources) (p : Part) →
    AllByRecursion (λ q. P q.0 q.1) pool → lookup (bytes_eq x) pool ≡ Some p → P x p
found_holds P x [] p a e = absurd (none e)
  where
    none : None ≡ Some p → ⊥
    none e = false≢true (ap there e)
      where
        there : Option Part → Bool
        there None = false
        there (Some q) = true
found_holds P x ((y, q) ∷ pool) p a e = by (bytes_eq x y) refl e (λ d. found_holds P x pool p a.1 d)
  where
    back : Option Part → Part
    back None = q
    back (Some r) = r

    by : (b : Bool) → bytes_eq x y ≡ b → cond b (Some q) (lookup (bytes_eq x) pool) ≡ Some p →
        (lookup (bytes_eq x) pool ≡ Some p → P x p) → P x p
    by true k d r = rw (same_bytes x y k, sym (ap back d)) a.0
    by false k d r = r d

abbrev pub true_all : Values → Values → List Formula → Type 0
true_all now next fs = AllByRecursion (λ f. truth_of now next f ≡ true) fs

pub all_both : {A : Type 0} (P : A → Type 0) (xs ys : List A) → AllByRecursion P xs → AllByRecursion P ys →
    AllByRecursion P (xs ++ ys)
all_both P [] ys p q = q
all_both P (x ∷ xs) ys p q = (p.0, all_both P xs ys p.1 q)

typed_off : (s : Sort) (on : Bool) (v : Value) → is_typed s on v ≡ true → on ≡ false → v ≡ absent
typed_off s false absent h e = refl
typed_off s true v h e = absurd (true≢false e)
typed_off s false (flag b) h e = absurd (false≢true h)
typed_off s false (whole n) h e = absurd (false≢true h)

both_true : (a b : Bool) → a ≡ true → b ≡ true → (a && b) ≡ true
both_true true true e d = refl
both_true true false e d = absurd (false≢true d)
both_true false b e d = absurd (false≢true e)

either_has : (s : Sort) (b : Bool) (v w : Value) → has_sort s v ≡ true → has_sort s w ≡ true →
    has_sort s (cond b v w) ≡ true
either_has s true v w h k = h
either_has s false v w h k = k

module _ (g : Stage) (now next : Values) where
  variable_has : (s : Sort) (n : ℕ) → has_sort s (worth now next (variable s n)) ≡ true
  variable_has s n = rw (variable_worth now next s n) (value_has now s n)

  pub outputs_have : (k : ℕ) (vs : List Variable) →
      have_sorts (map (λ v. v.sort) vs) (map (worth now next) (map (output_part g k) vs)) ≡ true
  outputs_have k [] = refl
  outputs_have k (v ∷ vs) =
      both_true (has_sort v.sort (worth now next (output_part g k v))) (have_sorts (map (λ v. v.sort) vs) (map
      (worth now next) (map (output_part g k) vs))) (variable_has v.sort (g.number (in_call k (own
      (named v.name.text))))) (outputs_have k vs)

  latest_has : (k : ℕ) (v : Variable) → has_sort v.sort (worth now next (latest_part g k v)) ≡ true
  latest_has k v =
      let out = variable_has v.sort (g.number (in_call k (own (named v.name.text)))) in
      let old = variable_has v.sort (g.number (own (slot.held k v.name.text))) in
      rw (choose_worth now next v.sort (flag_at g (in_call k (own beat))) (output_part g k v)
      (held_part g k v) out old)
      (either_has v.sort (truth_of now next (flag_at g (in_call k (own beat)))) (worth now next
      (output_part g k v)) (worth now next (held_part g k v)) out old)

  pub latests_have : (k : ℕ) (vs : List Variable) →
      have_sorts (map (λ v. v.sort) vs) (map (worth now next) (map (latest_part g k) vs)) ≡ true
  latests_have k [] = refl
  latests_have k (v ∷ vs) =
      both_true (has_sort v.sort (worth now next (latest_part g k v))) (have_sorts (map (λ v. v.sort) vs) (map
      (worth now next) (map (latest_part g k) vs))) (latest_has k v) (latests_have k vs)

module _ (s : Scene) (ModeAt : Key → Type 0) (num : Place → ℕ) (modes : Known Formula) (now next : Values) (t : ℕ)
    (shown : OwnShown s ModeAt num now next t modes) (agree : modes_agree s ModeAt num now next t modes shown) where
  abbrev pub g : Stage
  g = stage_here s ModeAt num modes now next

  -- a source of a name: it has the name's type, and the name is worth it where its clock is on, else 0 or false
  pub record Holds (x : Name) (p : Part) : Type 0 where
    pub sort : has_sort (sort_of_name s.place x) (worth now next p) ≡ true
    pub worth_it : value_in now (sort_of_name s.place x) (num (own (named x))) ≡ cond (is_on s
        (clock_here s.place ModeAt x) t) (worth now next p) (zero_value (sort_of_name s.place x))

  one_holds : (c : Clock) (x : Name) (p : Part) → IsNameOn s.place ModeAt c x →
      has_sort (sort_of_name s.place x) (worth now next p) ≡ true →
      (is_on s c t ≡ true → worth now next p ≡ entry s.frame x t) → Holds x p
  one_holds c x p n h e =
      record {
        sort = h;
        worth_it = shown.names x n.stream n.declared ∙ by (is_on s
            (clock_here s.place ModeAt x) t) refl;
      }
    where
      typed : is_typed (sort_of_name s.place x) (is_on s (clock_here s.place ModeAt x) t) (entry s.frame x t) ≡ true
      typed = shown.typed x n.stream n.declared

      by : (o : Bool) → is_on s (clock_here s.place ModeAt x) t ≡ o →
          or_default (sort_of_name s.place x) (entry s.frame x t) ≡ cond o (worth now next p) (zero_value
          (sort_of_name s.place x))
      by true k = as_it_is (sort_of_name s.place x) (entry s.frame x t) (on_sort (sort_of_name s.place x) (is_on s
          (clock_here s.place ModeAt x) t) (entry s.frame x t) typed k) ∙ sym (e (ap (λ q. is_on s q t)
          (sym n.clock) ∙ k))
      by false k = ap (or_default (sort_of_name s.place x)) (typed_off (sort_of_name s.place x) (is_on s
          (clock_here s.place ModeAt x) t) (entry s.frame x t) typed k)

  abbrev head_of : List Value → Value → Value
  head_of [] d = d
  head_of (v ∷ vs) d = v

  abbrev tail_of : List Value → List Value
  tail_of [] = []
  tail_of (v ∷ vs) = vs

  and_left : (a b : Bool) → (a && b) ≡ true → a ≡ true
  and_left true b e = refl
  and_left false b e = absurd (false≢true e)

  and_right : (a b : Bool) → (a && b) ≡ true → b ≡ true
  and_right true b e = e
  and_right false b e = absurd (false≢true e)

  pub pairs_hold : (c : Clock) (xs : List Name) (ps : List Part) →
      AllByRecursion (λ x. IsNameOn s.place ModeAt c x) xs →
      have_sorts (map (sort_of_name s.place) xs) (map (worth now next) ps) ≡ true →
      (is_on s c t ≡ true → map (worth now next) ps ≡ map (λ x. entry s.frame x t) xs) →
      AllByRecursion (λ q. Holds q.0 q.1) (paired xs ps)
  pairs_hold c [] ps n h e = tt
  pairs_hold c (x ∷ xs) [] n h e = absurd (false≢true h)
  pairs_hold c (x ∷ xs) (p ∷ ps) n h e = (
    one_holds c x p n.0 (and_left (has_sort (sort_of_name s.place x) (worth now next p)) (have_sorts (map
        (sort_of_name s.place) xs) (map (worth now next) ps)) h) (λ o. ap (λ vs. head_of vs (worth now next p))
        (e o)),
    pairs_hold c xs ps n.1 (and_right (has_sort (sort_of_name s.place x) (worth now next p)) (have_sorts (map
        (sort_of_name s.place) xs) (map (worth now next) ps)) h) (λ o. ap tail_of (e o)),
  )

  single : (e : Expression) (c : Clock) → Stands s.place ModeAt c e →
      have_sorts (sort_of s.place e ∷ []) (worth now next (term_of g e) ∷ []) ≡ true
  single e c h = both_true (has_sort (sort_of s.place e) (worth now next (term_of g e))) true
      (term_has s ModeAt num modes now next e c h) refl

  -- the terms of a right side have its types
  pub right_have : (e : Expression) (c : Clock) → Stands s.place ModeAt c e →
      have_sorts (right_sorts s.place ModeAt e) (map (worth now next) (right_terms g e)) ≡ true
  right_have (truth p b) c h = single (truth p b) c h
  right_have (number p n) c h = single (number p n) c h
  right_have (name p x) c h = single (name p x) c h
  right_have (negation p a) c h = single (negation p a) c h
  right_have (minus p a) c h = single (minus p a) c h
  right_have (pre p k a) c h = single (pre p k a) c h
  right_have (arrow p k a b) c h = single (arrow p k a b) c h
  right_have (binary p q a b) c h = single (binary p q a b) c h
  right_have (choice p a b d) c h = single (choice p a b d) c h
  right_have (sampled p a q x) c h = single (sampled p a q x) c h
  right_have (merged p x a b) c h = single (merged p x a b) c h
  right_have (call p k f as_) c h = outputs_have g now next k (outputs_at g k)
  right_have (condact p k a f as_ ds) c h = latests_have g now next k (outputs_at g k)
  right_have (mode_name p d m) c h = single (mode_name p d m) c h

  -- the sources that balanced equations are
  pub equations_hold : (es : List Equation) → AllByRecursion (EquationFits s.place ModeAt) es →
      AllByRecursion (λ e. IsBalanced s e t) es → AllByRecursion (λ q. Holds q.0 q.1) (equation_sources g es)
  equations_hold [] a b = tt
  equations_hold (e ∷ es) a b =
      let c : Clock = clock_of_names (component_of s.place) e.names in
      all_both (λ q. Holds q.0 q.1) (paired e.names (right_terms g e.right)) (equation_sources g es)
      (pairs_hold c e.names (right_terms g e.right) a.0.names (ap (λ q. have_sorts q (map (worth now next)
      (right_terms g e.right))) a.0.sorts ∙ right_have e.right c a.0.right)
      (λ o. right_value s ModeAt num modes now next t shown agree e.right c a.0.right o ∙ sym b.0 ∙ at_entries t s.frame e.names))
      (equations_hold es a.1 b.1)

  -- ---- the conditions of the names

  name_true : (v : Variable) → StreamFits s.place ModeAt v → (o : Option Part) →
      ((p : Part) → o ≡ Some p → Holds v.name.text p) → true_all now next (name_here g v o)
  name_true v fits (Some p) h =
      let r : Holds v.name.text p = h p refl in
      let same : is_on s (clock_here s.place ModeAt v.name.text) t ≡ truth_of now next (present g
      (clock_of_variable v)) =
      ap (λ q. is_on s q t) fits.name.clock ∙ sym
      (present_on s ModeAt num modes now next t shown.beats shown.names shown.typed
      (clock_from v.clock) fits.clock) in
      let worth_it : value_in now v.sort (num (own (named v.name.text))) ≡ cond (truth_of now next (present g
      (clock_of_variable v))) (worth now next p) (zero_value v.sort) =
      ap (λ q. value_in now q (num (own (named v.name.text)))) (sym fits.sort) ∙ r.worth_it ∙ rw
      (same, fits.sort) refl in (
        equals_made now next g v p (has_as (sort_of_name s.place v.name.text) v.sort
            (worth now next p) fits.sort r.sort) worth_it,
        tt,
      )
  name_true v fits None h = by (named_in v.name.text (inputs_of s.place))
    where
      off : truth_of now next (present g (clock_of_variable v)) ≡ false →
          value_in now v.sort (num (own (named v.name.text))) ≡ zero_value v.sort
      off k =
          let o : is_on s (clock_here s.place ModeAt v.name.text) t ≡ false =
          ap (λ q. is_on s q t) fits.name.clock ∙ sym
          (present_on s ModeAt num modes now next t shown.beats shown.names shown.typed
          (clock_from v.clock) fits.clock) ∙ k in
          ap (λ q. value_in now q (num (own (named v.name.text))))
          (sym fits.sort) ∙ shown.names v.name.text fits.name.stream fits.name.declared
          ∙ rw (
            typed_off (sort_of_name s.place v.name.text) (is_on s (clock_here s.place ModeAt v.name.text) t)
                (entry s.frame v.name.text t)
                (shown.typed v.name.text fits.name.stream fits.name.declared) o,
            fits.sort,
          ) refl

      by : (b : Bool) → true_all now next (cond b [] (is_free g v ∷ []))
      by true = tt
      by false = (free_made now next g v off, tt)

  pub names_true : (given : Sources) → OwnFits s.place ModeAt → AllByRecursion (λ q. Holds q.0 q.1) given →
      AllByRecursion (λ e. IsBalanced s e t) (equations (component_of s.place)) →
      true_all now next (names_here g given)
  names_true given fits h b = each (variables (component_of s.place)) fits.streams
    where
      pool : Sources
      pool = given ++ equation_sources g (equations (component_of s.place))

      held_by : AllByRecursion (λ q. Holds q.0 q.1) pool
      held_by = all_both (λ q. Holds q.0 q.1) given (equation_sources g (equations (component_of s.place))) h
          (equations_hold (equations (component_of s.place)) fits.equations b)

      each : (vs : List Variable) → AllByRecursion (StreamFits s.place ModeAt) vs →
          true_all now next (flat_map (λ v. name_here g v (lookup (bytes_eq v.name.text)
          (given ++ equation_sources g (equations (component_of s.place))))) vs)
      each [] a = tt
      each (v ∷ vs) a =
          all_both (λ f. truth_of now next f ≡ true) (name_here g v (lookup (bytes_eq v.name.text) pool)) (flat_map
          (λ v. name_here g v (lookup (bytes_eq v.name.text) pool)) vs)
          (name_true v a.0 (lookup (bytes_eq v.name.text) pool)
          (λ p e. found_holds Holds v.name.text pool p held_by e)) (each vs a.1)
