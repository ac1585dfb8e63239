-- In a state that meets the conditions of a frame's names, a name is 0 or false where its clock is not present.
use Rattle.std.proofs.Common.{◌≡◌, ℕ, zero, suc, Bool, true, false, cond, ◌&&◌, List, [], ◌∷◌, ◌++◌, map, refl, ap, ◌∙◌, sym, subst, Option, Some, None}
use Rattle.std.specs.List.{AllByRecursion}
use Rattle.std.specs.Map.{lookup}
use Rattle.std.specs.Str.{bytes_eq}
use Rattle.std.proofs.lemmas.Bool.{false≢true, true≢false}
use Rattle.lus_tree.specs.Tree.{Name, Variable, Expression, truth, number, name, negation, minus, pre, arrow, binary, choice, sampled, merged, call, condact, mode_name}
use Rattle.lus_meaning.specs.Value.{has_sort}
use Rattle.lus_meaning.specs.Scene.{Clock, base, sampled_by, Scene, Instance, component_of, clock_of, variables}
use Rattle.lus_meaning.specs.Scene.{clock_of_names}
use Rattle.lus_meaning.specs.Run.{Equation, equations, sort_of, sort_of_name, have_sorts, inputs_of}
use Rattle.lus_meaning.specs.Depends.{named_in}
use Rattle.lus_meaning.proofs.Typed.{has_as}
use Rattle.sys_terms.specs.View.{Formula, negation}
use Rattle.sys_terms.specs.Meaning.{Values, truth_of}
use Rattle.sys_meaning.specs.Slot.{Place, named, own}
use Rattle.sys_meaning.specs.Items.{Key, Known}
use Rattle.sys_meaning.specs.Part.{Part, worth, value_in}
use Rattle.sys_meaning.specs.Translate.{Stage, term_of, right_terms, outputs_at, present_within, present}
use Rattle.sys_meaning.specs.System.{Sources, paired, equation_sources, name_here, names_here, is_free, clock_of_variable}
use Rattle.sys_meaning.specs.WellTyped.{no_constant, is_declared, clock_here, Stands, StreamFits, EquationFits, right_sorts, OwnFits}
use Rattle.sys_meaning.proofs.Conditions.{zero_value, equals_gives, free_gives}
use Rattle.sys_meaning.proofs.Main.{term_has}
use Rattle.sys_meaning.proofs.Pools.{true_all, all_both, found_holds, outputs_have, latests_have}
use Rattle.sys_meaning.proofs.Balanced.{Picked, pick, split_flat, join_all}

-- presence doesn't look at the modes
pub present_same : (now next : Values) (i : Instance) (at : Place → ℕ) (ms ms' : Known Formula) (m : ℕ) (k : Clock) →
    truth_of now next (present_within m (record { place = i; number = at; modes = ms }) k) ≡ truth_of now next
    (present_within m (record { place = i; number = at; modes = ms' }) k)
present_same now next i at ms ms' m base = refl
present_same now next i at ms ms' zero (sampled_by b x) = refl
present_same now next i at ms ms' (suc m) (sampled_by true x) = refl
present_same now next i at ms ms' (suc m) (sampled_by false x) =
    rw (present_same now next i at ms ms' m (clock_of (component_of i) x)) refl

pub both_true : (a b : Bool) → a ≡ true → b ≡ true → (a && b) ≡ true
both_true true true e d = refl
both_true true false e d = absurd (false≢true d)
both_true false b e d = absurd (false≢true e)

pub and_left : (a b : Bool) → (a && b) ≡ true → a ≡ true
and_left true b e = refl
and_left false b e = absurd (false≢true e)

and_right : (a b : Bool) → (a && b) ≡ true → b ≡ true
and_right true b e = e
and_right false b e = absurd (false≢true e)

module _ (s : Scene) (M : Key → Type 0) (num : Place → ℕ) (modes : Known Formula) (now next : Values) where
  abbrev pub g : Stage
  g = record { place = s.place; number = num; modes = modes }

  single : (e : Expression) (c : Clock) → Stands s.place M c e →
      have_sorts (sort_of s.place e ∷ []) (worth now next (term_of g e) ∷ []) ≡ true
  single e c h = both_true (has_sort (sort_of s.place e) (worth now next (term_of g e))) true
      (term_has s M num modes now next e c h) refl

  pub right_have : (e : Expression) (c : Clock) → Stands s.place M c e →
      have_sorts (right_sorts s.place M e) (map (worth now next) (right_terms g e)) ≡ true
  right_have (truth p b) c h = single (truth p b) c h
  right_have (number p n) c h = single (number p n) c h
  right_have (name p x) c h = single (name p x) c h
  right_have (negation p a) c h = single (negation p a) c h
  right_have (minus p a) c h = single (minus p a) c h
  right_have (pre p k a) c h = single (pre p k a) c h
  right_have (arrow p k a b) c h = single (arrow p k a b) c h
  right_have (binary p q a b) c h = single (binary p q a b) c h
  right_have (choice p a b d) c h = single (choice p a b d) c h
  right_have (sampled p a q x) c h = single (sampled p a q x) c h
  right_have (merged p x a b) c h = single (merged p x a b) c h
  right_have (call p k f as_) c h = outputs_have g now next k (outputs_at g k)
  right_have (condact p k a f as_ ds) c h = latests_have g now next k (outputs_at g k)
  right_have (mode_name p d m) c h = single (mode_name p d m) c h

  -- a source has the type of its name
  abbrev pub Sorted : Name → Part → Type 0
  Sorted x p = has_sort (sort_of_name s.place x) (worth now next p) ≡ true

  pub pairs_sorted : (xs : List Name) (ps : List Part) →
      have_sorts (map (sort_of_name s.place) xs) (map (worth now next) ps) ≡ true →
      AllByRecursion (λ q. Sorted q.0 q.1) (paired xs ps)
  pairs_sorted [] ps h = tt
  pairs_sorted (x ∷ xs) [] h = absurd (false≢true h)
  pairs_sorted (x ∷ xs) (p ∷ ps) h = (
    and_left (has_sort (sort_of_name s.place x) (worth now next p)) (have_sorts (map (sort_of_name s.place) xs)
        (map (worth now next) ps)) h,
    pairs_sorted xs ps (and_right (has_sort (sort_of_name s.place x) (worth now next p)) (have_sorts (map
        (sort_of_name s.place) xs) (map (worth now next) ps)) h),
  )

  pub equations_sorted : (es : List Equation) → AllByRecursion (EquationFits s.place M) es →
      AllByRecursion (λ q. Sorted q.0 q.1) (equation_sources g es)
  equations_sorted [] a = tt
  equations_sorted (e ∷ es) a =
      all_both (λ q. Sorted q.0 q.1) (paired e.names (right_terms g e.right)) (equation_sources g es)
      (pairs_sorted e.names (right_terms g e.right) (ap (λ q. have_sorts q (map (worth now next)
      (right_terms g e.right))) a.0.sorts ∙ right_have e.right (clock_of_names
      (component_of s.place) e.names) a.0.right)) (equations_sorted es a.1)

  module _ (given : Sources) (given_sorted : AllByRecursion (λ q. Sorted q.0 q.1) given) (fits : OwnFits s.place M)
      (meets : true_all now next (names_here g given))
      (inputs_on : (v : Variable) → StreamFits s.place M v → lookup (bytes_eq v.name.text)
      (given ++ equation_sources g (equations (component_of s.place))) ≡ None →
      named_in v.name.text (inputs_of s.place) ≡ true →
      truth_of now next (present g (clock_of_variable v)) ≡ true) where
    abbrev pub pool : Sources
    pool = given ++ equation_sources g (equations (component_of s.place))

    pool_sorted : AllByRecursion (λ q. Sorted q.0 q.1) pool
    pool_sorted = all_both (λ q. Sorted q.0 q.1) given (equation_sources g (equations
        (component_of s.place))) given_sorted (equations_sorted (equations (component_of s.place)) fits.equations)

    abbrev pub Meets : Variable → Type 0
    Meets v = StreamFits s.place M v × true_all now next (name_here g v (lookup (bytes_eq v.name.text) pool))

    each : AllByRecursion Meets (variables (component_of s.place))
    each = join_all (StreamFits s.place M) (λ v. true_all now next (name_here g v (lookup
        (bytes_eq v.name.text) pool))) (variables (component_of s.place)) fits.streams
        (split_flat (λ f. truth_of now next f ≡ true) (λ v. name_here g v (lookup (bytes_eq v.name.text) pool))
        (variables (component_of s.place)) meets)

    one_off : (v : Variable) → StreamFits s.place M v → (o : Option Part) → lookup (bytes_eq v.name.text) pool ≡ o →
        true_all now next (name_here g v o) → truth_of now next (present g (clock_of_variable v)) ≡ false →
        value_in now v.sort (num (own (named v.name.text))) ≡ zero_value v.sort
    one_off v w (Some p) e h off =
        let k : has_sort v.sort (worth now next p) ≡ true =
        has_as (sort_of_name s.place v.name.text) v.sort (worth now next p) w.sort
        (found_holds Sorted v.name.text pool p pool_sorted e) in
        equals_gives now next g v p k h.0 ∙ rw off refl
    one_off v w None e h off = by (named_in v.name.text (inputs_of s.place)) refl h
      where
        by : (b : Bool) → named_in v.name.text (inputs_of s.place) ≡ b →
            true_all now next (cond b [] (is_free g v ∷ [])) →
            value_in now v.sort (num (own (named v.name.text))) ≡ zero_value v.sort
        by true k q = absurd (true≢false (sym (inputs_on v w e k) ∙ off))
        by false k q = free_gives now next g v q.0 off

    -- off its clock a name is 0 or false
    pub names_off : (x : Name) → is_declared s.place M x → no_constant s.place M x →
        truth_of now next (present g (clock_here s.place M x)) ≡ false →
        value_in now (sort_of_name s.place x) (num (own (named x))) ≡ zero_value (sort_of_name s.place x)
    names_off x h e off = by (pick x Meets (variables (component_of s.place)) each h)
      where
        by : Picked x Meets →
            value_in now (sort_of_name s.place x) (num (own (named x))) ≡ zero_value (sort_of_name s.place x)
        by r =
            let w : StreamFits s.place M r.variable = r.holds.0 in
            let there : truth_of now next (present g (clock_of_variable r.variable)) ≡ false =
            ap (λ k. truth_of now next (present g k)) (sym w.name.clock ∙ ap
            (clock_here s.place M) r.same) ∙ off in
            let result : value_in now r.variable.sort (num (own
            (named r.variable.name.text))) ≡ zero_value r.variable.sort =
            one_off r.variable w (lookup (bytes_eq r.variable.name.text) pool) refl r.holds.1 there in
            subst (λ y. value_in now (sort_of_name s.place y) (num (own (named y))) ≡ zero_value
            (sort_of_name s.place y)) r.same
            (subst (λ z. value_in now z (num (own (named r.variable.name.text))) ≡ zero_value z) (sym w.sort) result)
