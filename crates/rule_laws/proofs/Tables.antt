-- What the rules see of a name in the table of a declaration is what its instance has.
use Rattle.std.proofs.Common.{◌≡◌, ℕ, zero, suc, Bool, true, false, cond, ◌||◌, List, [], ◌∷◌, ◌++◌, map, length, Option, Some, None, refl, sym, ap, ◌∙◌, subst}
use Rattle.std.specs.Prelude.{Contains, find, option_map, unwrap_or}
use Rattle.std.specs.List.{AllByRecursion}
use Rattle.std.specs.Map.{lookup}
use Rattle.std.specs.Str.{bytes_eq}
use Rattle.std.proofs.lemmas.Bool.{false≢true}
use Rattle.lus_tree.specs.declared.place.Sort.{Sort}
use Rattle.lus_tree.specs.declared.place.Sort.TheVariants.{Bool as Flags, Int as Numbers}
use Rattle.lus_tree.specs.Tree.{Name, text_of, Spelled, Variable, Constant, Component, declared_constant, declared_node, declared_contract, Program}
use Rattle.lus_tree.specs.Reason.{Reason, name_twice}
use Rattle.lus_meaning.specs.Value.{Value, absent, flag, whole, has_sort}
use Rattle.lus_meaning.specs.Scene.{base, clock_from, clock_of, Instance, instance, no_instances, contract_statements, variables}
use Rattle.lus_meaning.specs.Program.{constant_value, constant_values, program_constants, contract_statement_constants, constants_in, instance_of, instance_within}
use Rattle.lus_meaning.specs.Run.{sort_of_value, sort_of_name, is_typed}
use Rattle.lus_meaning.specs.Depends.{named_in}
use Rattle.lus_meaning.specs.WellMade.{AreDistinct}
use Rattle.lus_meaning.specs.Scope.{Role, an_output, Entry, is_constant_role, is_output_role, Scope, Declared, a_stream, a_fixed, names_only, entry_for, entries_from, constants_declared, known_after, left_after, first_constants, declared_in, own_names, outer_names}
use Rattle.lus_meaning.specs.Faults.{if_so, meets, same_word, later, words_twice}
use Rattle.lus_meaning.specs.NameFaults.{own_words, outer_twice, mode_words, labels_twice, contract_faults, local_constant_faults, body_faults, state_faults, recursion_faults, assumption_faults, home, constant_words, declaration_word, declaration_faults, typing_faults}
use Rattle.lus_meaning.specs.Scope.{Home, body_scope}
use Rattle.lus_meaning.specs.Refusals.{IsTyped}
use Rattle.lus_meaning.proofs.Exists.{self_bytes}
use Rattle.lus_meaning.proofs.Lists.{all_from, all_from_both, both_parts, mapped_all, map_append}
use Rattle.lus_meaning.proofs.NamesOnce.{no_parts, not_so, empty_of, none_twice, at_one}
use Rattle.lus_meaning.proofs.Now.{left_part, right_part}
use Rattle.lus_meaning.proofs.RulesFit.{none_mapped}
use Rattle.lus_meaning.proofs.Unique.{same_bytes}
use Rattle.rule_laws.specs.Laws.{placed, table, Agrees, TablesAgree}
use Rattle.rule_laws.proofs.Lists.{other_bytes, each_other, all_mapped}
use Rattle.rule_laws.proofs.Constants.{Values, value_names, not_none, IsFixed, Good, good_values, is_word, fixed_of, all_good}
use Rattle.rule_laws.proofs.Declared.{of_outputs, fixed_in_order, of_declared}
use Rattle.rule_laws.proofs.Cleaned.{outer_table, outer_clean, CleanHome, homes_clean, own_clean}

-- ---- names that stand once

no_first : (a b : Bool) → (a || b) ≡ false → a ≡ false
no_first true b e = absurd (false≢true (sym e))
no_first false b e = refl

no_second : (a b : Bool) → (a || b) ≡ false → b ≡ false
no_second true b e = absurd (false≢true (sym e))
no_second false b e = e

neither : (a b : Bool) → a ≡ false → b ≡ false → (a || b) ≡ false
neither a b e h = ap (λ c. c || b) e ∙ h

none_met : (r : Reason) (x : Spelled) (ws : List Spelled) → meets same_word (λ w. w.at) r x ws ≡ [] → named_in x.text (map text_of ws) ≡ false
none_met r x [] e = refl
none_met r x (w ∷ ws) e =
    let h : (if_so (same_word x w) r (later x.at w.at) ≡ []) × (meets same_word (λ w. w.at) r x ws ≡ []) = no_parts
    (if_so (same_word x w) r (later x.at w.at)) (meets same_word (λ w. w.at) r x ws) e in
    neither (bytes_eq x.text w.text) (named_in x.text (map text_of ws)) (not_so (same_word x w) r (later x.at w.at) h.0) (none_met r x ws h.1)

named_left : (x : Name) (xs ys : List Name) → named_in x (xs ++ ys) ≡ false → named_in x xs ≡ false
named_left x [] ys e = refl
named_left x (y ∷ xs) ys e = neither (bytes_eq x y) (named_in x xs) (no_first (bytes_eq x y) (named_in x (xs ++ ys)) e)
    (named_left x xs ys (no_second (bytes_eq x y) (named_in x (xs ++ ys)) e))

named_right : (x : Name) (xs ys : List Name) → named_in x (xs ++ ys) ≡ false → named_in x ys ≡ false
named_right x [] ys e = e
named_right x (y ∷ xs) ys e = named_right x xs ys (no_second (bytes_eq x y) (named_in x (xs ++ ys)) e)

named_neither : (x : Name) (xs ys : List Name) → named_in x xs ≡ false → named_in x ys ≡ false → named_in x (xs ++ ys) ≡ false
named_neither x [] ys e h = h
named_neither x (y ∷ xs) ys e h = neither (bytes_eq x y) (named_in x (xs ++ ys)) (no_first (bytes_eq x y) (named_in x xs) e)
    (named_neither x xs ys (no_second (bytes_eq x y) (named_in x xs) e) h)

left_distinct : (xs ys : List Name) → AreDistinct (xs ++ ys) → AreDistinct xs
left_distinct [] ys d = tt
left_distinct (x ∷ xs) ys d = (named_left x xs ys d.0, left_distinct xs ys d.1)

right_distinct : (xs ys : List Name) → AreDistinct (xs ++ ys) → AreDistinct ys
right_distinct [] ys d = d
right_distinct (x ∷ xs) ys d = right_distinct xs ys d.1

apart : (xs ys : List Name) → AreDistinct (xs ++ ys) → AllByRecursion (λ x. named_in x ys ≡ false) xs
apart [] ys d = tt
apart (x ∷ xs) ys d = (named_right x xs ys d.0, apart xs ys d.1)

none_is : (x : Name) (ys : List Name) → AllByRecursion (λ y. bytes_eq y x ≡ false) ys → named_in x ys ≡ false
none_is x [] a = refl
none_is x (y ∷ ys) a = neither (bytes_eq x y) (named_in x ys) (other_bytes y x a.0) (none_is x ys a.1)

joined : (xs ys : List Name) → AreDistinct xs → AreDistinct ys → AllByRecursion (λ y. named_in y xs ≡ false) ys → AreDistinct (xs ++ ys)
joined [] ys d e a = e
joined (x ∷ xs) ys d e a = (
  named_neither x xs ys d.0 (none_is x ys (all_from (λ y. named_in y (x ∷ xs) ≡ false) (λ y. bytes_eq y x ≡ false)
      (λ y h. no_first (bytes_eq y x) (named_in y xs) h) ys a)),
  joined xs ys d.1 e (all_from (λ y. named_in y (x ∷ xs) ≡ false) (λ y. named_in y xs ≡ false) (λ y h. no_second (bytes_eq y x) (named_in y xs) h) ys a),
)

-- ---- constants of the program

abbrev constant_names : List Constant → List Name
constant_names cs = map (λ c. c.name.text) cs

outer_fixed : (ds : Program) → fixed_of (constants_declared ds) ≡ program_constants ds
outer_fixed [] = refl
outer_fixed (declared_constant c ∷ ds) = ap (λ ks. c ∷ ks) (outer_fixed ds)
outer_fixed (declared_node n ∷ ds) = outer_fixed ds
outer_fixed (declared_contract n ∷ ds) = outer_fixed ds

outer_words : (ds : Program) → map text_of (constant_words ds) ≡ constant_names (program_constants ds)
outer_words [] = refl
outer_words (declared_constant c ∷ ds) = ap (λ xs. c.name.text ∷ xs) (outer_words ds)
outer_words (declared_node n ∷ ds) = outer_words ds
outer_words (declared_contract n ∷ ds) = outer_words ds

not_among : (y : Name) (ds : Program) → named_in y (map text_of (map declaration_word ds)) ≡ false → named_in y (constant_names (program_constants ds)) ≡ false
not_among y [] e = refl
not_among y (declared_constant c ∷ ds) e =
    neither (bytes_eq y c.name.text) (named_in y (constant_names (program_constants ds)))
    (no_first (bytes_eq y c.name.text) (named_in y (map text_of (map declaration_word ds))) e)
    (not_among y ds (no_second (bytes_eq y c.name.text) (named_in y (map text_of (map declaration_word ds))) e))
not_among y (declared_node n ∷ ds) e = not_among y ds (no_second (bytes_eq y n.name.text) (named_in y (map text_of (map declaration_word ds))) e)
not_among y (declared_contract n ∷ ds) e = not_among y ds (no_second (bytes_eq y n.name.text) (named_in y (map text_of (map declaration_word ds))) e)

outer_distinct : (ds : Program) → AreDistinct (map text_of (map declaration_word ds)) → AreDistinct (constant_names (program_constants ds))
outer_distinct [] d = tt
outer_distinct (declared_constant c ∷ ds) d = (not_among c.name.text ds d.0, outer_distinct ds d.1)
outer_distinct (declared_node n ∷ ds) d = outer_distinct ds d.1
outer_distinct (declared_contract n ∷ ds) d = outer_distinct ds d.1

abbrev outer_values : Program → Values
outer_values p = constant_values [] (program_constants p)

values_named : (cs : Values) (ds : List Constant) → value_names (constant_values cs ds) ≡ value_names cs ++ constant_names ds
values_named cs [] = none (value_names cs)
  where
    none : (xs : List Name) → xs ≡ xs ++ []
    none [] = refl
    none (x ∷ xs) = ap (λ ys. x ∷ ys) (none xs)
values_named cs (d ∷ ds) = values_named (cs ++ (d.name.text, constant_value cs d.value) ∷ []) ds ∙ ap (λ xs. xs ++ constant_names ds)
    (map_append (λ c. c.0) cs ((d.name.text, constant_value cs d.value) ∷ [])) ∙ more (value_names cs)
  where
    more : (xs : List Name) → (xs ++ d.name.text ∷ []) ++ constant_names ds ≡ xs ++ d.name.text ∷ constant_names ds
    more [] = refl
    more (x ∷ xs) = ap (λ ys. x ∷ ys) (more xs)

values_append : (cs : Values) (xs ys : List Constant) → constant_values cs (xs ++ ys) ≡ constant_values (constant_values cs xs) ys
values_append cs [] ys = refl
values_append cs (x ∷ xs) ys = values_append (cs ++ (x.name.text, constant_value cs x.value) ∷ []) xs ys

outer_good : (p : Program) → words_twice name_twice (map declaration_word p) ≡ [] → declaration_faults p 0 p ≡ [] → AllByRecursion
    (Good (outer_values p)) (outer_table p)
outer_good p w e =
    let d : AreDistinct (constant_names (fixed_of (constants_declared p))) =
    subst (λ cs. AreDistinct (constant_names cs)) (sym (outer_fixed p)) (outer_distinct p (none_twice name_twice (map declaration_word p) w)) in
    subst (λ cs. AllByRecursion (Good (constant_values [] cs)) (outer_table p)) (outer_fixed p)
    (all_good p (outer_table p) [] [] (constants_declared p) [] refl tt tt tt d (outer_clean p 0 p e))

-- how many of them are known changes nothing else
module _ (P : Entry → Type 0) (keep : (k : ℕ) (e : Entry) → P e → P (known_after k e)) where
  first_all : (k : ℕ) (es : List Entry) → AllByRecursion P es → AllByRecursion P (first_constants k es)
  first_all k [] a = tt
  first_all k (e ∷ es) a = (keep k e a.0, first_all (left_after k e) es a.1)

good_known : (cs : Values) (k : ℕ) (e : Entry) → Good cs e → Good cs (known_after k e)
good_known cs k e g = λ r. let f : IsFixed cs e = g r in record { sort = f.sort; is_sort = f.is_sort; clock = f.clock; found = f.found; has = f.has }

-- ---- a declaration

abbrev own_constants : Component → List Constant
own_constants n = contract_statement_constants (contract_statements n) ++ n.constants

-- what is known of a declaration's names
record NamesApart (p : Program) (n : Component) : Type 0 where
  streams : AreDistinct (map (λ v. v.name.text) (variables n))
  constants : AreDistinct (constant_names (own_constants n))
  no_streams : AllByRecursion (λ x. named_in x (constant_names (own_constants n)) ≡ false) (map (λ v. v.name.text) (variables n))
  inner_streams : AllByRecursion (λ x. named_in x (constant_names (program_constants p)) ≡ false) (map (λ v. v.name.text) (variables n))
  inner_constants : AllByRecursion (λ x. named_in x (constant_names (program_constants p)) ≡ false) (constant_names (own_constants n))

texts_of : {A : Type 0} (word : A → Spelled) (xs : List A) → map text_of (map word xs) ≡ map (λ x. (word x).text) xs
texts_of word [] = refl
texts_of word (x ∷ xs) = ap (λ ys. (word x).text ∷ ys) (texts_of word xs)

own_texts : (n : Component) → map text_of (own_words n) ≡ map (λ v. v.name.text) (variables n) ++ constant_names (own_constants n)
own_texts n =
    let cs : List Constant = contract_statement_constants (contract_statements n) in
    let words : map text_of (map (λ c. c.name) cs ++ map (λ c. c.name) n.constants) ≡ constant_names (cs ++ n.constants) =
    ap (map text_of) (sym (map_append (λ c. c.name) cs n.constants)) ∙ texts_of (λ c. c.name) (cs ++ n.constants) in
    let both : map text_of (map (λ v. v.name) (variables n)) ++ map text_of (map (λ c. c.name) cs ++ map (λ c. c.name) n.constants) ≡ map
    (λ v. v.name.text) (variables n) ++ constant_names (cs ++ n.constants) =
    ap (λ xs. xs ++ map text_of (map (λ c. c.name) cs ++ map (λ c. c.name) n.constants)) (texts_of (λ v. v.name) (variables n)) ∙ ap
    (λ xs. map (λ v. v.name.text) (variables n) ++ xs) words in
    map_append text_of (map (λ v. v.name) (variables n)) (map (λ c. c.name) cs ++ map (λ c. c.name) n.constants) ∙ both

names_apart : (p : Program) (h : ℕ × Component) → CleanHome p h → NamesApart p h.1
names_apart p h e =
    let n : Component = h.1 in
    let vs : List Name = map (λ v. v.name.text) (variables n) in
    let cs : List Name = constant_names (own_constants n) in
    let q : (words_twice name_twice (own_words n) ≡ []) × _ = no_parts (words_twice name_twice (own_words n)) _ e in
    let once : AreDistinct (vs ++ cs) = subst AreDistinct (own_texts n) (none_twice name_twice (own_words n) q.0) in
    let outer : AllByRecursion (λ w. meets same_word (λ w. w.at) name_twice w (constant_words p) ≡ []) (own_words n) =
    none_mapped (λ w. meets same_word (λ w. w.at) name_twice w (constant_words p)) (own_words n)
    (no_parts (outer_twice (constant_words p) (own_words n)) _ q.1).0 in
    let inner : AllByRecursion (λ w. named_in w.text (constant_names (program_constants p)) ≡ false) (own_words n) =
    all_from (λ w. meets same_word (λ w. w.at) name_twice w (constant_words p) ≡ [])
    (λ w. named_in w.text (constant_names (program_constants p)) ≡ false)
    (λ w m. subst (λ xs. named_in w.text xs ≡ false) (outer_words p) (none_met name_twice w (constant_words p) m))
    (own_words n) outer in
    let all : AllByRecursion (λ x. named_in x (constant_names (program_constants p)) ≡ false) (vs ++ cs) =
    subst (AllByRecursion (λ x. named_in x (constant_names (program_constants p)) ≡ false)) (own_texts n)
    (all_mapped (λ x. named_in x (constant_names (program_constants p)) ≡ false) text_of (own_words n) inner) in
    record {
      streams = left_distinct vs cs once;
      constants = right_distinct vs cs once;
      no_streams = apart vs cs once;
      inner_streams = left_part (λ x. named_in x (constant_names (program_constants p)) ≡ false) vs cs all;
      inner_constants = right_part (λ x. named_in x (constant_names (program_constants p)) ≡ false) vs cs all;
    }

values_of : (p : Program) (n : Component) → constant_values (outer_values p) (own_constants n) ≡ constants_in p n
values_of p n =
    values_append (outer_values p) (contract_statement_constants (contract_statements n)) n.constants
    ∙ ap (λ cs. constant_values cs n.constants) (sym (values_append [] (program_constants p) (contract_statement_constants (contract_statements n))))
    ∙ sym (values_append [] (program_constants p ++ contract_statement_constants (contract_statements n)) n.constants)

names_of_values : (p : Program) (n : Component) → value_names (constants_in p n) ≡ constant_names (program_constants p) ++ constant_names (own_constants n)
names_of_values p n =
    ap value_names (sym (values_of p n)) ∙ values_named (outer_values p) (own_constants n) ∙ ap
    (λ xs. xs ++ constant_names (own_constants n)) (values_named [] (program_constants p))

-- the constants of the table
own_good : (p : Program) (h : ℕ × Component) → AreDistinct (constant_names (program_constants p)) → CleanHome p h → NamesApart p h.1
    → AllByRecursion (Good (outer_values p)) (outer_table p) → AllByRecursion (Good (constants_in p h.1)) (table p h)
own_good p h d e a o =
    let n : Component = h.1 in
    let place : Home = home p h.0 n in
    let rest : contract_faults place [] (contract_statements n) ++
    (body_faults place ++ (state_faults p n ++ (recursion_faults p n ++ assumption_faults (body_scope place)))) ≡ [] =
    (no_parts (labels_twice n) _ (no_parts (words_twice name_twice (mode_words (contract_statements n))) _
    (no_parts (outer_twice (constant_words p) (own_words n)) _ (no_parts (words_twice name_twice (own_words n)) _ e).1).1).1).1 in
    let contract : contract_faults place [] (contract_statements n) ≡ [] = (no_parts (contract_faults place [] (contract_statements n)) _ rest).0 in
    let bodies : body_faults place ≡ [] = (no_parts (body_faults place) _ (no_parts (contract_faults place [] (contract_statements n)) _ rest).1).0 in
    let locals : local_constant_faults place 0 n.constants ≡ [] = (no_parts (local_constant_faults place 0 n.constants) _ (no_parts _ _ bodies).1).0 in
    let outer : AllByRecursion (Good (outer_values p)) (outer_names p h.0) = first_all (Good (outer_values p))
    (good_known (outer_values p)) h.0 (outer_table p) o in
    let once : AreDistinct (value_names (outer_values p) ++ constant_names (fixed_of (declared_in n))) =
    subst (λ cs. AreDistinct (value_names (outer_values p) ++ constant_names cs)) (sym (fixed_in_order n))
    (subst (λ xs. AreDistinct (xs ++ constant_names (own_constants n))) (sym (values_named [] (program_constants p)))
    (joined (constant_names (program_constants p)) (constant_names (own_constants n)) d a.constants a.inner_constants)) in
    let own : AllByRecursion (Good (constant_values (outer_values p) (fixed_of (declared_in n)))) (own_names place) =
    all_good p (own_names place) (outer_names p h.0) [] (declared_in n) (outer_values p) refl outer tt tt once (own_clean place contract locals) in
    let here : AllByRecursion (Good (constant_values (outer_values p) (own_constants n))) (own_names place) = subst
    (λ cs. AllByRecursion (Good (constant_values (outer_values p) cs)) (own_names place)) (fixed_in_order n) own in
    subst (λ cs. AllByRecursion (Good cs) (table p h)) (values_of p n)
    (both_parts (Good (constant_values (outer_values p) (own_constants n))) (own_names place) (outer_names p h.0) here
    (all_from (Good (outer_values p)) (Good (constant_values (outer_values p) (own_constants n)))
    (λ z g. good_values (outer_values p) (own_constants n) z g) (outer_names p h.0) outer))

-- ---- streams

-- a stream of a declaration is the one of its name, and no constant has its name
pub record IsStream (n : Component) (cs : Values) (v : Variable) : Type 0 where
  pub found : find (λ w. bytes_eq v.name.text w.name.text) (variables n) ≡ Some v
  pub none : lookup (bytes_eq v.name.text) cs ≡ None

own_found : (vs : List Variable) → AreDistinct (map (λ v. v.name.text) vs) → AllByRecursion (λ v. find (λ w. bytes_eq v.name.text w.name.text) vs ≡ Some v) vs
own_found [] d = tt
own_found (v ∷ vs) d =
    let others : AllByRecursion (λ u. bytes_eq u.name.text v.name.text ≡ false) vs = mapped_all (λ z. bytes_eq z v.name.text ≡ false)
    (λ u. u.name.text) vs (each_other v.name.text (map (λ u. u.name.text) vs) d.0) in (
      ap (λ b. cond b (Some v) (find (λ w. bytes_eq v.name.text w.name.text) vs)) (self_bytes v.name.text),
      all_from_both (λ u. bytes_eq u.name.text v.name.text ≡ false) (λ u. find (λ w. bytes_eq u.name.text w.name.text) vs ≡ Some u)
          (λ u. find (λ w. bytes_eq u.name.text w.name.text) (v ∷ vs) ≡ Some u)
          (λ u o f. ap (λ b. cond b (Some v) (find (λ w. bytes_eq u.name.text w.name.text) vs)) o ∙ f) vs others (own_found vs d.1),
    )

no_value : (x : Name) (cs : Values) → named_in x (value_names cs) ≡ false → lookup (bytes_eq x) cs ≡ None
no_value x [] e = refl
no_value x (c ∷ cs) e = ap (λ b. cond b (Some c.1) (lookup (bytes_eq x) cs)) (no_first (bytes_eq x c.0) (named_in x (value_names cs)) e)
    ∙ no_value x cs (no_second (bytes_eq x c.0) (named_in x (value_names cs)) e)

streams_of : (p : Program) (n : Component) → NamesApart p n → AllByRecursion (IsStream n (constants_in p n)) (variables n)
streams_of p n a =
    let cs : Values = constants_in p n in
    let free : AllByRecursion (λ x. lookup (bytes_eq x) cs ≡ None) (map (λ v. v.name.text) (variables n)) =
    all_from_both (λ x. named_in x (constant_names (program_constants p)) ≡ false)
    (λ x. named_in x (constant_names (own_constants n)) ≡ false) (λ x. lookup (bytes_eq x) cs ≡ None)
    (λ x o i. no_value x cs (subst (λ xs. named_in x xs ≡ false) (sym (names_of_values p n))
    (named_neither x (constant_names (program_constants p)) (constant_names (own_constants n)) o i)))
    (map (λ v. v.name.text) (variables n)) a.inner_streams a.no_streams in
    all_from_both (λ v. find (λ w. bytes_eq v.name.text w.name.text) (variables n) ≡ Some v) (λ v. lookup (bytes_eq v.name.text) cs ≡ None)
    (IsStream n cs) (λ v f o. record { found = f; none = o }) (variables n)
    (own_found (variables n) a.streams) (mapped_all (λ x. lookup (bytes_eq x) cs ≡ None) (λ v. v.name.text) (variables n) free)

-- ---- what an entry says

-- the sort and clock of a name do not ask for the calls of an instance
abbrev alone : Component → Values → Instance
alone n cs = instance n cs no_instances

abbrev Says : Component → Values → Entry → Type 0
Says n cs e = Agrees (alone n cs) e.word.text e

abbrev StreamSays : Component → Values → Entry → Type 0
StreamSays n cs e = is_constant_role e.role ≡ false → Says n cs e

sort_found : (n : Component) (cs : Values) (x : Name) (o : Option Variable) → find (λ v. bytes_eq x v.name.text) (variables n) ≡ o
    → sort_of_name (alone n cs) x ≡ unwrap_or (option_map (λ v. v.sort) o) (sort_of_value (unwrap_or (lookup (bytes_eq x) cs) absent))
sort_found n cs x o e = ap (λ k. unwrap_or (option_map (λ v. v.sort) k) (sort_of_value (unwrap_or (lookup (bytes_eq x) cs) absent))) e

clock_found : (n : Component) (x : Name) (o : Option Variable) → find (λ v. bytes_eq x v.name.text) (variables n) ≡ o
    → clock_of n x ≡ clock_from (unwrap_or (option_map (λ v. v.clock) o) None)
clock_found n x o e = ap (λ k. clock_from (unwrap_or (option_map (λ v. v.clock) k) None)) e

stream_says : (n : Component) (cs : Values) (v : Variable) → IsStream n cs v → (r : Role) (s : Scope) → StreamSays n cs (entry_for s (a_stream r v))
stream_says n cs v i r s = λ c. record {
  sort = ap (λ (q : Sort). Some q) (sym (sort_found n cs v.name.text (Some v) i.found));
  clock = sym (clock_found n v.name.text (Some v) i.found);
  stream = ap (option_map (λ w. clock_from w.clock)) i.found ∙ sym (ap (λ (b : Bool). cond b None (Some (clock_from v.clock))) c);
  constant = i.none ∙ sym (ap (λ (b : Bool). cond b (Some absent) None) c);
  typed = ap (λ b. is_typed (sort_of_name (alone n cs) v.name.text) b absent) c;
}

sort_is : (q : Sort) (v : Value) → has_sort q v ≡ true → sort_of_value v ≡ q
sort_is Flags (flag b) h = refl
sort_is Flags absent h = refl
sort_is Flags (whole k) h = absurd (false≢true h)
sort_is Numbers (whole k) h = refl
sort_is Numbers absent h = absurd (false≢true h)
sort_is Numbers (flag b) h = absurd (false≢true h)

-- a name with a value is that of no stream
no_stream : (n : Component) (cs : Values) (x : Name) (w : Value) (vs : List Variable) → AllByRecursion (IsStream n cs) vs → lookup
    (bytes_eq x) cs ≡ Some w → find (λ v. bytes_eq x v.name.text) vs ≡ None
no_stream n cs x w [] a e = refl
no_stream n cs x w (v ∷ vs) a e = go (bytes_eq x v.name.text) refl (no_stream n cs x w vs a.1 e)
  where
    go : (c : Bool) → bytes_eq x v.name.text ≡ c → find (λ u. bytes_eq x u.name.text) vs ≡ None → cond c (Some v) (find (λ u. bytes_eq x u.name.text) vs) ≡ None
    go true m r = not_none w (sym a.0.none ∙ subst (λ y. lookup (bytes_eq y) cs ≡ Some w) (same_bytes x v.name.text m) e)
    go false m r = r

constant_says : (n : Component) (cs : Values) (e : Entry) → AllByRecursion (IsStream n cs) (variables n) → IsFixed cs e
    → is_constant_role e.role ≡ true → Says n cs e
constant_says n cs e a f r =
    let x : Name = e.word.text in
    let none : find (λ v. bytes_eq x v.name.text) (variables n) ≡ None = no_stream n cs x e.value (variables n) a f.found in
    let sort : sort_of_name (alone n cs) x ≡ f.sort = sort_found n cs x None none ∙ ap (λ o. sort_of_value (unwrap_or o absent)) f.found
    ∙ sort_is f.sort e.value f.has in
    record {
      sort = f.is_sort ∙ ap (λ (q : Sort). Some q) (sym sort);
      clock = f.clock ∙ sym (clock_found n x None none);
      stream = ap (option_map (λ w. clock_from w.clock)) none ∙ sym (ap (λ (b : Bool). cond b None (Some e.clock)) r);
      constant = f.found ∙ sym (ap (λ (b : Bool). cond b (Some e.value) None) r);
      typed = ap (λ b. is_typed (sort_of_name (alone n cs) x) b e.value) r ∙ subst (λ q. has_sort q e.value ≡ true) (sym sort) f.has;
    }

entry_says : (n : Component) (cs : Values) → AllByRecursion (IsStream n cs) (variables n) → (e : Entry) → Good cs e → StreamSays n cs e → Says n cs e
entry_says n cs a e g s = go (is_constant_role e.role) refl
  where
    go : (c : Bool) → is_constant_role e.role ≡ c → Says n cs e
    go true r = constant_says n cs e a (g r) r
    go false r = s r

-- ---- all of a table

entries_all : (P : Entry → Type 0) (p : Program) (outer done : List Entry) (xs : List Declared) → AllByRecursion
    (λ d. (s : Scope) → P (entry_for s d)) xs → AllByRecursion P done → AllByRecursion P (entries_from p outer done xs)
entries_all P p outer done [] a b = b
entries_all P p outer done (x ∷ xs) a b =
    let e : Entry = entry_for (names_only p (done ++ outer)) x in entries_all P p outer (done ++ e ∷ []) xs a.1
    (both_parts P done (e ∷ []) b (a.0 (names_only p (done ++ outer)), tt))

fixed_vacuous : (n : Component) (cs : Values) (c : Constant) (s : Scope) → StreamSays n cs (entry_for s (a_fixed c))
fixed_vacuous n cs c s = λ h. absurd (false≢true (sym h))

outer_vacuous : (n : Component) (cs : Values) (ds : Program) → AllByRecursion (λ d. (s : Scope) → StreamSays n cs (entry_for s d)) (constants_declared ds)
outer_vacuous n cs [] = tt
outer_vacuous n cs (declared_constant c ∷ ds) = (fixed_vacuous n cs c, outer_vacuous n cs ds)
outer_vacuous n cs (declared_node m ∷ ds) = outer_vacuous n cs ds
outer_vacuous n cs (declared_contract m ∷ ds) = outer_vacuous n cs ds

says_known : (n : Component) (cs : Values) (k : ℕ) (e : Entry) → StreamSays n cs e → StreamSays n cs (known_after k e)
says_known n cs k e s = λ h. let a : Says n cs e = s h in record { sort = a.sort; clock = a.clock; stream = a.stream; constant = a.constant; typed = a.typed }

table_says : (p : Program) (h : ℕ × Component) → AllByRecursion (IsStream h.1 (constants_in p h.1)) (variables h.1) → AllByRecursion
    (Good (constants_in p h.1)) (table p h) → AllByRecursion (Says h.1 (constants_in p h.1)) (table p h)
table_says p h a g =
    let n : Component = h.1 in
    let cs : Values = constants_in p n in
    let P : Declared → Type 0 = λ d. (s : Scope) → StreamSays n cs (entry_for s d) in
    let declared : AllByRecursion P (declared_in n) =
    of_declared P (fixed_vacuous n cs) n (all_from (IsStream n cs) (λ v. (r : Role) → P (a_stream r v))
    (λ v i r s. stream_says n cs v i r s) (variables n) a) in
    let own : AllByRecursion (StreamSays n cs) (own_names (home p h.0 n)) = entries_all (StreamSays n cs) p (outer_names p h.0) []
    (declared_in n) declared tt in
    let outer : AllByRecursion (StreamSays n cs) (outer_names p h.0) = first_all (StreamSays n cs) (says_known n cs) h.0 (outer_table p)
    (entries_all (StreamSays n cs) p [] [] (constants_declared p) (outer_vacuous n cs p) tt) in
    all_from_both (Good cs) (StreamSays n cs) (Says n cs) (λ e. entry_says n cs a e) (table p h) g
    (both_parts (StreamSays n cs) (own_names (home p h.0 n)) (outer_names p h.0) own outer)

found_entry : (P : Entry → Type 0) (x : Name) (e : Entry) (es : List Entry) → AllByRecursion P es → find (is_word x) es ≡ Some e → (x ≡ e.word.text) × P e
found_entry P x e [] a f = not_none e f
found_entry P x e (d ∷ es) a f = go (bytes_eq x d.word.text) refl f (found_entry P x e es a.1)
  where
    go : (c : Bool) → bytes_eq x d.word.text ≡ c → cond c (Some d) (find (is_word x) es) ≡ Some e →
        (find (is_word x) es ≡ Some e → (x ≡ e.word.text) × P e) → (x ≡ e.word.text) × P e
    go true m h r = subst (λ k. (x ≡ k.word.text) × P k) (ap (λ o. unwrap_or o d) h) (same_bytes x d.word.text m, a.0)
    go false m h r = r h

-- whatever its calls
to_any : (d : ℕ) (p : Program) (n : Component) (x : Name) (e : Entry) → Agrees (alone n (constants_in p n)) x e → Agrees (instance_within d p n) x e
to_any zero p n x e a = a
to_any (suc d) p n x e a = record { sort = a.sort; clock = a.clock; stream = a.stream; constant = a.constant; typed = a.typed }

-- without faults of names and types
pub typed_tables : (p : Program) → IsTyped p → (h : ℕ × Component) → Contains (placed 0 p) h → (x : Name) (e : Entry) → find (is_word x)
    (table p h) ≡ Some e → Agrees (instance_of p h.1) x e
typed_tables p t h i x e f =
    let none : words_twice name_twice (map declaration_word p) ++ declaration_faults p 0 p ≡ [] =
    (no_parts _ (words_twice name_twice (map declaration_word p) ++ declaration_faults p 0 p) (empty_of (typing_faults p) t)).1 in
    let q : (words_twice name_twice (map declaration_word p) ≡ []) × (declaration_faults p 0 p ≡ []) = no_parts
    (words_twice name_twice (map declaration_word p)) (declaration_faults p 0 p) none in
    let clean : CleanHome p h = at_one (CleanHome p) (placed 0 p) h (homes_clean p 0 p q.1) i in
    let a : NamesApart p h.1 = names_apart p h clean in
    let once : AreDistinct (constant_names (program_constants p)) = outer_distinct p (none_twice name_twice (map declaration_word p) q.0) in
    let g : AllByRecursion (Good (constants_in p h.1)) (table p h) = own_good p h once clean a (outer_good p q.0 q.1) in
    let r : (x ≡ e.word.text) × Says h.1 (constants_in p h.1) e = found_entry (Says h.1 (constants_in p h.1)) x e (table p h)
    (table_says p h (streams_of p h.1 a) g) f in
    to_any (length p) p h.1 x e (subst (λ y. Agrees (alone h.1 (constants_in p h.1)) y e) (sym r.0) r.1)

-- the streams of a declaration
pub declared_streams : (p : Program) → IsTyped p → (h : ℕ × Component) → Contains (placed 0 p) h
    → AllByRecursion (IsStream h.1 (constants_in p h.1)) (variables h.1)
declared_streams p t h i =
    let none : words_twice name_twice (map declaration_word p) ++ declaration_faults p 0 p ≡ [] =
    (no_parts _ (words_twice name_twice (map declaration_word p) ++ declaration_faults p 0 p) (empty_of (typing_faults p) t)).1 in
    let q : (words_twice name_twice (map declaration_word p) ≡ []) × (declaration_faults p 0 p ≡ []) = no_parts
    (words_twice name_twice (map declaration_word p)) (declaration_faults p 0 p) none in
    streams_of p h.1 (names_apart p h (at_one (CleanHome p) (placed 0 p) h (homes_clean p 0 p q.1) i))

-- an output stands on the base clock
abbrev OutputOnBase : Entry → Type 0
OutputOnBase e = is_output_role e.role ≡ true → e.clock ≡ base

no_output : (c : Constant) (s : Scope) → OutputOnBase (entry_for s (a_fixed c))
no_output c s = λ h. absurd (false≢true h)

outer_no_output : (ds : Program) → AllByRecursion (λ d. (s : Scope) → OutputOnBase (entry_for s d)) (constants_declared ds)
outer_no_output [] = tt
outer_no_output (declared_constant c ∷ ds) = (no_output c, outer_no_output ds)
outer_no_output (declared_node m ∷ ds) = outer_no_output ds
outer_no_output (declared_contract m ∷ ds) = outer_no_output ds

pub outputs_on_base : (p : Program) (h : ℕ × Component) → AllByRecursion (λ v. v.clock ≡ None) h.1.outputs → (x : Name) (e : Entry)
    → find (is_word x) (table p h) ≡ Some e → is_output_role e.role ≡ true → e.clock ≡ base
outputs_on_base p h o x e f r =
    let P : Declared → Type 0 = λ d. (s : Scope) → OutputOnBase (entry_for s d) in
    let declared : AllByRecursion P (declared_in h.1) = of_outputs P no_output h.1 (λ v s k. absurd (false≢true k)) (λ v s k. absurd (false≢true k))
    (λ v s k. absurd (false≢true k)) (all_from (λ v. v.clock ≡ None) (λ v. P (a_stream an_output v)) (λ v q s k. ap clock_from q) h.1.outputs o) in
    let own : AllByRecursion OutputOnBase (own_names (home p h.0 h.1)) = entries_all OutputOnBase p (outer_names p h.0) [] (declared_in h.1) declared tt in
    let outer : AllByRecursion OutputOnBase (outer_names p h.0) = first_all OutputOnBase (λ k d q. q) h.0 (outer_table p)
    (entries_all OutputOnBase p [] [] (constants_declared p) (outer_no_output p) tt) in
    (found_entry OutputOnBase x e (table p h) (both_parts OutputOnBase (own_names (home p h.0 h.1)) (outer_names p h.0) own outer) f).1 r

pub tables_agree : TablesAgree
tables_agree p c h i x e f = typed_tables p c.rules.clocked.typed h i x e f
