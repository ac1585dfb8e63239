-- Where the conditions of the names are true, the equations are balanced.
use Rattle.std.proofs.Common.{◌≡◌, ℕ, suc, Bool, true, false, cond, ◌&&◌, ◌||◌, List, [], ◌∷◌, ◌++◌, map, flat_map, length, refl, ap, ◌∙◌, sym, arith, Option, Some, subst}
use Rattle.std.specs.List.{AllByRecursion}
use Rattle.std.specs.Map.{lookup}
use Rattle.std.specs.Str.{bytes_eq}
use Rattle.std.proofs.lemmas.Bool.{false≢true, true≢false}
use Rattle.lus_tree.specs.Tree.{Name, Variable, Expression, Expressions, no_more, more, truth, number, name, negation, minus, pre, arrow, binary, choice, sampled, merged, call, condact, mode_name}
use Rattle.lus_meaning.specs.Value.{Value, absent, Instants, is, has_sort}
use Rattle.lus_meaning.specs.Frame.{entry, call_frame}
use Rattle.lus_meaning.specs.Scene.{Clock, Scene, component_of, call_instance, clock_from, variables, is_on}
use Rattle.lus_meaning.specs.Meaning.{value, values, call_outputs, held_outputs, mode_stream}
use Rattle.lus_meaning.specs.Scene.{clock_of_names}
use Rattle.lus_meaning.specs.Run.{Equation, equations, sort_of_name, right_values, at_instant, IsBalanced, have_sorts}
use Rattle.lus_meaning.specs.Depends.{named_in}
use Rattle.lus_meaning.specs.WellMade.{AreDistinct}
use Rattle.lus_meaning.specs.Trace.{or_default}
use Rattle.lus_meaning.proofs.Unique.{same_bytes, at_entries}
use Rattle.lus_meaning.proofs.Exists.{self_bytes}
use Rattle.lus_meaning.proofs.Now.{left_part, right_part}
use Rattle.lus_meaning.proofs.Typed.{has_as}
use Rattle.sys_terms.specs.View.{Formula}
use Rattle.sys_terms.specs.Meaning.{Values, truth_of}
use Rattle.sys_meaning.specs.Slot.{Place, named, own}
use Rattle.sys_meaning.specs.Items.{Key, Known}
use Rattle.sys_meaning.specs.Part.{Part, worth, value_in}
use Rattle.sys_meaning.specs.Translate.{Stage, right_terms, present}
use Rattle.sys_meaning.specs.System.{Sources, paired, equation_sources, name_here, names_here, clock_of_variable}
use Rattle.sys_meaning.specs.WellTyped.{is_declared, clock_here, IsNameOn, DefaultsFit, IsPlainCall, Stands, StreamFits, EquationFits, right_sorts, OwnFits}
use Rattle.sys_meaning.proofs.Conditions.{equals_gives}
use Rattle.sys_meaning.proofs.Present.{present_on}
use Rattle.sys_meaning.proofs.Rows.{OwnShown, modes_agree, on_sort, as_it_is}
use Rattle.sys_meaning.proofs.Main.{stage_here, right_value}
use Rattle.sys_meaning.proofs.Pools.{true_all, right_have}
use Rattle.sys_meaning.proofs.Off.{typed_off, all_absent, right_off}

-- ---- lists

pub absents_same : (vs ws : List Value) → all_absent vs → all_absent ws → length vs ≡ length ws → vs ≡ ws
absents_same [] [] a b e = refl
absents_same [] (w ∷ ws) a b e = absurd (omega arith)
absents_same (v ∷ vs) [] a b e = absurd (omega arith)
absents_same (v ∷ vs) (w ∷ ws) a b e = rw (a.0, b.0, absents_same vs ws a.1 b.1 (omega arith)) refl

abbrev pub source_names : Sources → List Name
source_names p = map (λ q. q.0) p

abbrev pub IsFound : Sources → Name × Part → Type 0
IsFound p q = lookup (bytes_eq q.0) p ≡ Some q.1

pub found_later : (x : Name) (y : Part) (p q : Sources) → named_in x (source_names q) ≡ false →
    AllByRecursion (IsFound p) q → AllByRecursion (IsFound ((x, y) ∷ p)) q
found_later x y p [] e a = tt
found_later x y p (k ∷ q) e a =
    (go (bytes_eq x k.0) refl (bytes_eq k.0 x) refl e, found_later x y p q (rest (bytes_eq x k.0) e) a.1)
  where
    rest : (c : Bool) → (c || named_in x (source_names q)) ≡ false → named_in x (source_names q) ≡ false
    rest true h = absurd (true≢false h)
    rest false h = h

    go : (c : Bool) → bytes_eq x k.0 ≡ c → (g : Bool) → bytes_eq k.0 x ≡ g →
        (c || named_in x (source_names q)) ≡ false → IsFound ((x, y) ∷ p) k
    go true m g l h = absurd (true≢false h)
    go false m true l h = absurd (false≢true (sym m ∙ ap (bytes_eq x) (same_bytes k.0 x l) ∙ self_bytes x))
    go false m false l h = rw l a.0

-- in sources of different names each is found
pub all_found : (p : Sources) → AreDistinct (source_names p) → AllByRecursion (IsFound p) p
all_found [] d = tt
all_found (q ∷ p) d = (rw (self_bytes q.0) refl, found_later q.0 q.1 p p d.0 (all_found p d.1))

-- the variable of a declared name
pub record Picked (x : Name) (P : Variable → Type 0) : Type 0 where
  pub variable : Variable
  pub same : variable.name.text ≡ x
  pub holds : P variable

pub pick : (x : Name) (P : Variable → Type 0) (vs : List Variable) → AllByRecursion P vs →
    named_in x (map (λ v. v.name.text) vs) ≡ true → Picked x P
pick x P [] a h = absurd (false≢true h)
pick x P (v ∷ vs) a h = by (bytes_eq x v.name.text) refl h (pick x P vs a.1)
  where
    by : (b : Bool) → bytes_eq x v.name.text ≡ b → (b || named_in x (map (λ v. v.name.text) vs)) ≡ true →
        (named_in x (map (λ v. v.name.text) vs) ≡ true → Picked x P) → Picked x P
    by true e k r = record { variable = v; same = sym (same_bytes x v.name.text e); holds = a.0 }
    by false e k r = r k

pub split_flat : {A : Type 0} (P : Formula → Type 0) (f : A → List Formula) (xs : List A) →
    AllByRecursion P (flat_map f xs) → AllByRecursion (λ x. AllByRecursion P (f x)) xs
split_flat P f [] a = tt
split_flat P f (x ∷ xs) a =
    (left_part P (f x) (flat_map f xs) a, split_flat P f xs (right_part P (f x) (flat_map f xs) a))

pub join_all : {A : Type 0} (P Q : A → Type 0) (xs : List A) → AllByRecursion P xs → AllByRecursion Q xs →
    AllByRecursion (λ x. P x × Q x) xs
join_all P Q [] a b = tt
join_all P Q (x ∷ xs) a b = ((a.0, b.0), join_all P Q xs a.1 b.1)

module _ (s : Scene) (ModeAt : Key → Type 0) (num : Place → ℕ) (modes : Known Formula) (now next : Values) (t : ℕ)
    (shown : OwnShown s ModeAt num now next t modes) (agree : modes_agree s ModeAt num now next t modes shown) where
  abbrev pub g : Stage
  g = stage_here s ModeAt num modes now next

  -- the value of a name with a source, where its clock is on
  module _ (given : Sources) (fits : OwnFits s.place ModeAt) (true_here : true_all now next
      (names_here g given)) where
    abbrev pub pool : Sources
    pool = given ++ equation_sources g (equations (component_of s.place))

    abbrev pub Meets : Variable → Type 0
    Meets v = StreamFits s.place ModeAt v × true_all now next (name_here g v (lookup (bytes_eq v.name.text) pool))

    each : AllByRecursion Meets (variables (component_of s.place))
    each = join_all (StreamFits s.place ModeAt) (λ v. true_all now next (name_here g v (lookup
        (bytes_eq v.name.text) pool))) (variables (component_of s.place)) fits.streams
        (split_flat (λ f. truth_of now next f ≡ true) (λ v. name_here g v (lookup (bytes_eq v.name.text) pool))
        (variables (component_of s.place)) true_here)

    sourced : (x : Name) (p : Part) → is_declared s.place ModeAt x → lookup (bytes_eq x) pool ≡ Some p →
        has_sort (sort_of_name s.place x) (worth now next p) ≡ true →
        is_on s (clock_here s.place ModeAt x) t ≡ true → entry s.frame x t ≡ worth now next p
    sourced x p h e k o = by (pick x Meets (variables (component_of s.place)) each h)
      where
        by : Picked x Meets → entry s.frame x t ≡ worth now next p
        by r = rw (sym same_entry) (sym (as_it_is (sort_of_name s.place y) (entry s.frame y t) (on_sort
            (sort_of_name s.place y) (is_on s (clock_here s.place ModeAt y) t) (entry s.frame y t)
            (shown.typed y v.0.name.stream v.0.name.declared) mine)) ∙ sym
            (shown.names y v.0.name.stream v.0.name.declared) ∙ ap (λ z. value_in now z (num (own
            (named y)))) v.0.sort ∙ given_value ∙ rw present_true refl)
          where
            y : Name
            y = r.variable.name.text

            v : Meets r.variable
            v = r.holds

            same_entry : entry s.frame y t ≡ entry s.frame x t
            same_entry = ap (λ z. entry s.frame z t) r.same

            mine : is_on s (clock_here s.place ModeAt y) t ≡ true
            mine = ap (λ z. is_on s (clock_here s.place ModeAt z) t) r.same ∙ o

            present_true : truth_of now next (present g (clock_of_variable r.variable)) ≡ true
            present_true = present_on s ModeAt num modes now next t shown.beats shown.names shown.typed
                (clock_from r.variable.clock) v.0.clock ∙ ap (λ q. is_on s q t) (sym v.0.name.clock) ∙ mine

            condition : true_all now next (name_here g r.variable (Some p))
            condition = subst (λ o. true_all now next (name_here g r.variable o)) (ap (λ z. lookup
                (bytes_eq z) pool) r.same ∙ e) v.1

            has : has_sort r.variable.sort (worth now next p) ≡ true
            has = has_as (sort_of_name s.place y) r.variable.sort (worth now next p) v.0.sort (ap (λ z. has_sort
                (sort_of_name s.place z) (worth now next p)) r.same ∙ k)

            given_value : value_in now r.variable.sort (num (own (named y))) ≡ cond (truth_of now next (present g
                (clock_of_variable r.variable))) (worth now next p) (or_default r.variable.sort absent)
            given_value = equals_gives now next g r.variable p has condition.0

    -- ---- one equation

    pub pairs_sourced : (c : Clock) → is_on s c t ≡ true → (xs : List Name) (ps : List Part) →
        AllByRecursion (λ x. IsNameOn s.place ModeAt c x) xs →
        have_sorts (map (sort_of_name s.place) xs) (map (worth now next) ps) ≡ true →
        AllByRecursion (IsFound pool) (paired xs ps) →
        map (λ x. entry s.frame x t) xs ≡ map (worth now next) ps
    pairs_sourced c o [] [] n h a = refl
    pairs_sourced c o [] (p ∷ ps) n h a = absurd (false≢true h)
    pairs_sourced c o (x ∷ xs) [] n h a = absurd (false≢true h)
    pairs_sourced c o (x ∷ xs) (p ∷ ps) n h a =
        rw (
          sourced x p n.0.declared a.0 (and_left (has_sort (sort_of_name s.place x) (worth now next p)) (have_sorts
              (map (sort_of_name s.place) xs) (map (worth now next) ps)) h) (ap (λ k. is_on s k t) n.0.clock ∙ o),
          pairs_sourced c o xs ps n.1 (and_right (has_sort (sort_of_name s.place x) (worth now next p)) (have_sorts
              (map (sort_of_name s.place) xs) (map (worth now next) ps)) h) a.1,
        ) refl
      where
        and_left : (a b : Bool) → (a && b) ≡ true → a ≡ true
        and_left true b e = refl
        and_left false b e = absurd (false≢true e)

        and_right : (a b : Bool) → (a && b) ≡ true → b ≡ true
        and_right true b e = e
        and_right false b e = absurd (false≢true e)

    module _ (calls_off : (k : ℕ) (c : Clock) → IsPlainCall s.place ModeAt k c → is_on s c t ≡ false → all_absent
        (at_instant t (call_outputs s k)))
        (modes_off : (d : Option Name) (m : Name) → s.beat t ≡ false → mode_stream s d m t ≡ absent) where
      pub names_off : (c : Clock) → is_on s c t ≡ false → (xs : List Name) →
          AllByRecursion (λ x. IsNameOn s.place ModeAt c x) xs → all_absent (map (λ x. entry s.frame x t) xs)
      names_off c o [] n = tt
      names_off c o (x ∷ xs) n = (
        typed_off (sort_of_name s.place x) (is_on s (clock_here s.place ModeAt x) t) (entry s.frame x t)
            (shown.typed x n.0.stream n.0.declared) (ap (λ k. is_on s k t) n.0.clock ∙ o),
        names_off c o xs n.1,
      )

      count_outputs : (k : ℕ) (vs : List Variable) →
          length (at_instant t (map (λ x. entry (call_frame s.frame k) x) (map (λ v. v.name.text) vs))) ≡ length
          (map (λ v. v.sort) vs)
      count_outputs k [] = refl
      count_outputs k (v ∷ vs) = ap suc (count_outputs k vs)

      count_held : (k : ℕ) (on act : Instants) (c : Clock) (vs : List Variable) (ds : Expressions) →
          DefaultsFit s.place ModeAt k vs ds →
          length (at_instant t (held_outputs on act (map (λ x. entry (call_frame s.frame k) x) (map
          (λ v. v.name.text) vs)) (values s c ds))) ≡ length (map (λ v. v.sort) vs)
      count_held k on act c [] no_more d = refl
      count_held k on act c [] (more x ds) d = refl
      count_held k on act c (v ∷ vs) no_more d = absurd d
      count_held k on act c (v ∷ vs) (more x ds) d = ap suc (count_held k on act c vs ds d.3)

      count_right : (e : Expression) (c : Clock) → Stands s.place ModeAt c e →
          length (at_instant t (right_values s c e)) ≡ length (right_sorts s.place ModeAt e)
      count_right (truth p b) c h = refl
      count_right (number p n) c h = refl
      count_right (name p x) c h = refl
      count_right (negation p a) c h = refl
      count_right (minus p a) c h = refl
      count_right (pre p k a) c h = refl
      count_right (arrow p k a b) c h = refl
      count_right (binary p q a b) c h = refl
      count_right (choice p a b d) c h = refl
      count_right (sampled p a q x) c h = refl
      count_right (merged p x a b) c h = refl
      count_right (call p k f as_) c h = count_outputs k (component_of (call_instance s.place k)).outputs
      count_right (condact p k a f as_ ds) c h =
          count_held k (is_on s c) (λ t. is_on s c t && is true (value s c a t)) c (component_of
          (call_instance s.place k)).outputs ds h.0.defaults
      count_right (mode_name p d m) c h = refl

      count_names : (xs : List Name) →
          length (map (λ x. entry s.frame x t) xs) ≡ length (map (sort_of_name s.place) xs)
      count_names [] = refl
      count_names (x ∷ xs) = ap suc (count_names xs)

      one_balanced : (e : Equation) → EquationFits s.place ModeAt e →
          AllByRecursion (IsFound pool) (paired e.names (right_terms g e.right)) → IsBalanced s e t
      one_balanced e h a = at_entries t s.frame e.names ∙ by (is_on s c t) refl
        where
          c : Clock
          c = clock_of_names (component_of s.place) e.names

          by : (o : Bool) → is_on s c t ≡ o →
              map (λ x. entry s.frame x t) e.names ≡ at_instant t (right_values s c e.right)
          by true o = pairs_sourced c o e.names (right_terms g e.right) h.names (ap (λ q. have_sorts q (map
              (worth now next) (right_terms g e.right))) h.sorts ∙ right_have s ModeAt num modes now next t shown agree e.right c h.right) a
              ∙ right_value s ModeAt num modes now next t shown agree e.right c h.right o
          by false o = absents_same (map (λ x. entry s.frame x t) e.names) (at_instant t
              (right_values s c e.right)) (names_off c o e.names h.names)
              (right_off s ModeAt t shown.typed calls_off modes_off e.right c h.right o)
              (count_names e.names ∙ ap length h.sorts ∙ sym (count_right e.right c h.right))

      all_balanced : (es : List Equation) → AllByRecursion (EquationFits s.place ModeAt) es →
          AllByRecursion (IsFound pool) (equation_sources g es) → AllByRecursion (λ e. IsBalanced s e t) es
      all_balanced [] h a = tt
      all_balanced (e ∷ es) h a = (
        one_balanced e h.0 (left_part (IsFound pool) (paired e.names (right_terms g e.right))
            (equation_sources g es) a),
        all_balanced es h.1 (right_part (IsFound pool) (paired e.names
            (right_terms g e.right)) (equation_sources g es) a),
      )

      -- the conditions of the names make the equations balanced
      pub equations_balanced : AreDistinct (source_names pool) →
          AllByRecursion (λ e. IsBalanced s e t) (equations (component_of s.place))
      equations_balanced d =
          all_balanced (equations (component_of s.place)) fits.equations (right_part (IsFound pool) given
          (equation_sources g (equations (component_of s.place))) (all_found pool d))
