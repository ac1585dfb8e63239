-- What holds of the states of a frame is what the translation says.
use Rattle.std.proofs.Common.{◌≡◌, ℕ, zero, suc, Bool, true, false, cond, ◌||◌, List, [], ◌∷◌, ◌++◌, map, Option, Some, None, option_map, unwrap_or, refl, sym, ap, ◌∙◌}
use Rattle.std.specs.Prelude.{slice_get}
use Rattle.std.specs.Option.{option_or}
use Rattle.std.specs.List.{AllByRecursion}
use Rattle.std.specs.Map.{lookup}
use Rattle.std.specs.Str.{bytes_eq}
use Rattle.lus_tree.specs.declared.place.Sort.{Sort}
use Rattle.lus_tree.specs.declared.place.Sort.TheVariants.{Bool as Flags}
use Rattle.lus_tree.specs.Tree.{Name, Expression, Variable, Statement, equation, assertion, property, main_mark}
use Rattle.lus_meaning.specs.Value.{Value}
use Rattle.lus_meaning.specs.Scene.{Clock, Manner, plain, while_true, as_import, Site, constants_of, clock_from}
use Rattle.lus_meaning.specs.Occurrences.{Memory, Start}
use Rattle.lus_meaning.specs.Property.{assertions}
use Rattle.lus_meaning.specs.Run.{Equation, inputs_of, sort_of}
use Rattle.lus_meaning.specs.Depends.{named_in}
use Rattle.sys_terms.specs.View.{Formula, negation, both}
use Rattle.sys_meaning.specs.Slot.{own, beat, memory, starting, so_far, in_call}
use Rattle.sys_meaning.specs.Part.{Part, a_flag, all_of, formula_of, variable, zero_of, choose_part, equal_parts, no_part}
use Rattle.sys_meaning.specs.Translate.{Stage, head_part}
use Rattle.sys_meaning.specs.Translate as t
use Rattle.sys_meaning.specs.System as y
use Rattle.sys_texts.specs.Sights.{Sight, Mode, number_at, flag_at}
use Rattle.sys_texts.specs.Texts.{part_of, formula, present, sort_by}
use Rattle.sys_texts.specs.Laws.{IsSightOf, IsSteady}
use Rattle.sys_texts.proofs.Terms.{parts_are, rights_are, presence_is, sort_is}
use Rattle.sys_conditions.specs.Conditioned.{becomes, kept, memory_condition, waits, start_condition, where_active, assert_conditions, body_properties, runs_where, held_condition}
use Rattle.sys_conditions.specs.Named.{Right, place_in, right_of, part_given, given_or, variable_of, equals_where_on, is_free, is_zero, where_on, name_conditions}
use Rattle.sys_conditions.specs.Laws.{IsSteadyItem, IsSteadyManner, output_of, AreConditionsOf}

each_of : {A B : Type 0} (f h : A → B) → ((x : A) → f x ≡ h x) → (xs : List A) → map f xs ≡ map h xs
each_of f h e [] = refl
each_of f h e (x ∷ xs) = ap (λ y. y ∷ map f xs) (e x) ∙ ap (λ l. h x ∷ l) (each_of f h e xs)

each_of_all : {A B : Type 0} (P : A → Type 0) (f h : A → B) → ((x : A) → P x → f x ≡ h x) → (xs : List A) → AllByRecursion P xs → map f xs ≡ map h xs
each_of_all P f h e [] a = refl
each_of_all P f h e (x ∷ xs) a = ap (λ y. y ∷ map f xs) (e x a.0) ∙ ap (λ l. h x ∷ l) (each_of_all P f h e xs a.1)

twice : {A B C : Type 0} (f : B → C) (h : A → B) (xs : List A) → map f (map h xs) ≡ map (λ x. f (h x)) xs
twice f h [] = refl
twice f h (x ∷ xs) = ap (λ l. f (h x) ∷ l) (twice f h xs)

-- ---- what is found behind

behind : (x : Name) (from more : y.Sources) → lookup (bytes_eq x) (from ++ more) ≡ option_or (lookup (bytes_eq x) from) (lookup (bytes_eq x) more)
behind x [] more = refl
behind x (p ∷ from) more = pick (bytes_eq x p.0) (behind x from more)
  where
    pick : (b : Bool) → lookup (bytes_eq x) (from ++ more) ≡ option_or (lookup (bytes_eq x) from) (lookup (bytes_eq x) more)
        → cond b (Some p.1) (lookup (bytes_eq x) (from ++ more)) ≡ option_or (cond b (Some p.1) (lookup (bytes_eq x) from)) (lookup (bytes_eq x) more)
    pick true e = refl
    pick false e = e

head_at : (ps : List Part) → head_part ps ≡ unwrap_or (slice_get ps 0) no_part
head_at [] = refl
head_at (p ∷ ps) = refl

tail_at : (ps : List Part) (k : ℕ) → unwrap_or (slice_get (y.tail_parts ps) k) no_part ≡ unwrap_or (slice_get ps (suc k)) no_part
tail_at [] k = refl
tail_at (p ∷ ps) k = refl

paired_at : (x : Name) (xs : List Name) (ps : List Part) (more : y.Sources) → lookup (bytes_eq x) (y.paired xs ps ++ more)
    ≡ cond (named_in x xs) (Some (unwrap_or (slice_get ps (place_in xs x)) no_part)) (lookup (bytes_eq x) more)
paired_at x [] ps more = refl
paired_at x (z ∷ xs) ps more = pick (bytes_eq x z) (paired_at x xs (y.tail_parts ps) more)
  where
    pick : (b : Bool) → lookup (bytes_eq x) (y.paired xs (y.tail_parts ps) ++ more)
        ≡ cond (named_in x xs) (Some (unwrap_or (slice_get (y.tail_parts ps) (place_in xs x)) no_part)) (lookup (bytes_eq x) more)
        → cond b (Some (head_part ps)) (lookup (bytes_eq x) (y.paired xs (y.tail_parts ps) ++ more))
        ≡ cond (b || named_in x xs) (Some (unwrap_or (slice_get ps (cond b zero (suc (place_in xs x)))) no_part)) (lookup (bytes_eq x) more)
    pick true e = ap Some (head_at ps)
    pick false e = e ∙ ap (λ p. cond (named_in x xs) (Some p) (lookup (bytes_eq x) more)) (tail_at ps (place_in xs x))

module _ (s : Sight) (ms : List Mode) (g : Stage) (h : IsSightOf s ms g) where
  abbrev cs : List (Name × Value)
  cs = constants_of g.place

  said : (e : Expression) → IsSteady cs e → formula s ms e ≡ t.formula g e
  said e u = ap formula_of (parts_are s ms g h e u)

  on : (c : Clock) → present s c ≡ t.present g c
  on c = presence_is s ms g h c

  same_kept : (q q' : Sort) (n n' : ℕ) (f f' : Formula) (p p' : Part) → q ≡ q' → n ≡ n' → f ≡ f' → p ≡ p' → kept q n f p ≡ kept q' n' f' p'
  same_kept q q' n n' f f' p p' a b c d =
      ap (λ z. kept z n f p) a ∙ (ap (λ z. kept q' z f p) b ∙ (ap (λ z. kept q' n' z p) c ∙ ap (kept q' n' f') d))

  one_memory : (u : Memory) → IsSteady cs u.operand → memory_condition s ms u ≡ y.memory_next g u
  unfolding memory_condition
  one_memory u a =
      same_kept (sort_by s u.operand) (sort_of g.place u.operand) (number_at s.memories s.missing u.number) (g.number (own (memory u.number)))
      (present s u.clock) (t.present g u.clock) (part_of s ms u.operand) (t.term_of g u.operand) (sort_is s ms g h u.operand) (h.memories u.number)
      (on u.clock) (parts_are s ms g h u.operand a)

  one_start : (a : Start) → start_condition s a ≡ y.start_next g a
  one_start a =
      ap (λ n. waits n (present s a.clock)) (h.starts a.number) ∙ ap (waits (g.number (own (starting a.number)))) (on a.clock)

  active_is : (f f' : Formula) → f ≡ f' → where_active s.beat f ≡ negation (both (t.flag_at g (own beat)) (negation f'))
  active_is f f' e =
      ap (λ n. where_active n f) h.beats ∙ ap (λ z. negation (both (t.flag_at g (own beat)) (negation z))) e

  asserts_are : (ss : List Statement) → AllByRecursion (IsSteadyItem cs) ss
      → assert_conditions s ms ss ≡ map (λ e. negation (both (t.flag_at g (own beat)) (negation (t.formula g e)))) (assertions ss)
  asserts_are [] a = refl
  asserts_are (equation xs e ∷ ss) a = asserts_are ss a.1
  asserts_are (assertion e ∷ ss) a =
      ap (λ z. z ∷ assert_conditions s ms ss) (active_is (formula s ms e) (t.formula g e) (said e a.0))
      ∙ ap (λ l. negation (both (t.flag_at g (own beat)) (negation (t.formula g e))) ∷ l) (asserts_are ss a.1)
  asserts_are (property l ∷ ss) a = asserts_are ss a.1
  asserts_are (main_mark p ∷ ss) a = asserts_are ss a.1

  properties_are : (ss : List Statement) → AllByRecursion (IsSteadyItem cs) ss → body_properties s ms ss ≡ y.body_properties g ss
  properties_are [] a = refl
  properties_are (equation xs e ∷ ss) a = properties_are ss a.1
  properties_are (assertion e ∷ ss) a = properties_are ss a.1
  properties_are (property l ∷ ss) a =
      ap (λ z. z ∷ body_properties s ms ss) (said l.value a.0) ∙ ap (λ k. t.formula g l.value ∷ k) (properties_are ss a.1)
  properties_are (main_mark p ∷ ss) a = properties_are ss a.1

  runs_are : (c : Site) (m : Manner) → IsSteadyManner cs m → runs_where s ms c.clock m ≡ y.runs_where g c m
  runs_are c plain a = on c.clock
  runs_are c (while_true e) a = ap (λ z. both z (formula s ms e)) (on c.clock) ∙ ap (both (t.present g c.clock)) (said e a)
  runs_are c (as_import xs) a = ap flag_at h.beats

  variable_is : (v : Variable) → variable_of s v ≡ y.variable_of g v
  variable_is v = ap (variable v.sort) (h.numbers v.name.text)

  equals_are : (v : Variable) (p : Part) → equals_where_on s v p ≡ y.equals_where_on g v p
  equals_are v p =
      ap (λ z. equal_parts z (where_on s v p)) (variable_is v)
      ∙ ap (λ z. equal_parts (y.variable_of g v) (choose_part z p (zero_of v.sort))) (on (clock_from v.clock))

  free_are : (v : Variable) → is_free s v ≡ y.is_free g v
  free_are v =
      ap (λ z. negation (both (negation z) (negation (is_zero s v)))) (on (clock_from v.clock))
      ∙ ap (λ z. negation (both (negation (t.present g (clock_from v.clock))) (negation (equal_parts z (zero_of v.sort))))) (variable_is v)

  names_are : (v : Variable) (o : Option Part) → name_conditions s (named_in v.name.text (inputs_of g.place)) v o ≡ y.name_here g v o
  names_are v (Some p) = ap (λ z. z ∷ []) (equals_are v p)
  names_are v None = ap (λ z. cond (named_in v.name.text (inputs_of g.place)) [] (z ∷ [])) (free_are v)

  rights_found : (x : Name) (es : List Equation) → AllByRecursion (λ e. IsSteady cs e.right) es
      → option_map (part_given s ms) (right_of es x) ≡ lookup (bytes_eq x) (y.equation_sources g es)
  rights_found x [] a = refl
  rights_found x (e ∷ es) a =
      pick (named_in x e.names) (rights_found x es a.1)
      ∙ sym (paired_at x e.names (t.right_terms g e.right) (y.equation_sources g es))
    where
      pick : (b : Bool) → option_map (part_given s ms) (right_of es x) ≡ lookup (bytes_eq x) (y.equation_sources g es)
          → option_map (part_given s ms) (cond b (Some record { side = e.right; place = place_in e.names x }) (right_of es x))
          ≡ cond b (Some (unwrap_or (slice_get (t.right_terms g e.right) (place_in e.names x)) no_part)) (lookup (bytes_eq x) (y.equation_sources g es))
      pick true r = ap (λ ps. Some (unwrap_or (slice_get ps (place_in e.names x)) no_part)) (rights_are s ms g h e.right a.0)
      pick false r = r

  given_as : (o : Option Part) (r : Option Right) → given_or s ms o r ≡ option_or o (option_map (part_given s ms) r)
  given_as (Some p) r = refl
  given_as None (Some r) = refl
  given_as None None = refl

  given_are : (x : Name) (es : List Equation) (from : y.Sources) → AllByRecursion (λ e. IsSteady cs e.right) es
      → given_or s ms (lookup (bytes_eq x) from) (right_of es x) ≡ lookup (bytes_eq x) (from ++ y.equation_sources g es)
  given_are x es from a =
      given_as (lookup (bytes_eq x) from) (right_of es x)
      ∙ (ap (option_or (lookup (bytes_eq x) from)) (rights_found x es a) ∙ sym (behind x from (y.equation_sources g es)))

  pub conditions_are : AreConditionsOf s ms g
  conditions_are = record {
    memories = λ us a. each_of_all (λ (u : Memory). IsSteady cs u.operand) (memory_condition s ms) (y.memory_next g) one_memory us a;
    starts = λ as_. each_of (start_condition s) (y.start_next g) one_start as_;
    first_starts = λ as_. each_of (λ (a : Start). flag_at (number_at s.starts s.missing a.number))
        (λ (a : Start). t.flag_at g (own (starting a.number))) (λ a. ap flag_at (h.starts a.number)) as_;
    so_far = λ fs. ap (λ z. becomes Flags (g.number (own so_far)) (a_flag (both (t.flag_at g (own so_far)) z))) (active_is (all_of fs) (all_of fs) refl);
    assertions = asserts_are;
    properties = properties_are;
    calls = λ c a. runs_are c c.manner a;
    held_values = λ k vs. twice (held_condition (g.number (in_call k (own beat)))) (output_of g k) vs;
    names = names_are;
    given = given_are;
  }
