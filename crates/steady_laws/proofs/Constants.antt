-- The constants of a checked program have the values that kept values give in text order.
use Rattle.std.proofs.Common.{◌≡◌, ℕ, Bool, true, false, cond, ◌||◌, List, [], ◌∷◌, ◌++◌, map, Option, Some, None, option_map, refl, sym, ap, ◌∙◌, subst, append_assoc, pos}
use Rattle.std.specs.Prelude.{Contains, find, unwrap_or}
use Rattle.std.specs.List.{AllByRecursion}
use Rattle.std.specs.Map.{lookup}
use Rattle.std.specs.Str.{bytes_eq}
use Rattle.std.proofs.lemmas.Bool.{false≢true}
use Rattle.lus_tree.specs.declared.place.Sort.{Sort}
use Rattle.lus_tree.specs.declared.place.Sort.TheVariants.{Bool as Flags, Int as Numbers}
use Rattle.lus_tree.specs.Tree.{Name, Expression, truth, number, name, negation, minus, pre, arrow, binary, choice, sampled, merged, call, condact, mode_name, Constant, Component, declared_constant, declared_node, declared_contract, Program}
use Rattle.lus_tree.specs.Reason.{name_twice}
use Rattle.lus_meaning.specs.Value.{Value, absent, flag, whole, has_sort, not_value, minus_value, choose}
use Rattle.lus_meaning.specs.Scene.{contract_statements}
use Rattle.lus_meaning.specs.Program.{constant_value, constant_values, program_constants, contract_statement_constants, constants_in}
use Rattle.lus_meaning.specs.Depends.{named_in}
use Rattle.lus_meaning.specs.WellMade.{AreDistinct}
use Rattle.lus_meaning.specs.Scope.{Entry, is_constant_role, Scope, is_constant_name, value_where_known, value_of_entry, apply_total, are_alike, constant_of, Declared, a_stream, a_fixed, names_only, entry_for, entries_from, known_after, left_after, first_constants, constants_declared, declared_in, Home, own_names, outer_names}
use Rattle.lus_meaning.specs.Faults.{words_twice}
use Rattle.lus_meaning.specs.NameFaults.{home, declaration_word, declaration_faults, typing_faults}
use Rattle.lus_meaning.specs.ClockFaults.{components}
use Rattle.lus_meaning.specs.Refusals.{IsTyped, IsChecked}
use Rattle.lus_meaning.proofs.Exists.{self_bytes}
use Rattle.lus_meaning.proofs.Lists.{all_from, all_from_both, both_parts, map_append}
use Rattle.lus_meaning.proofs.NamesOnce.{no_parts, empty_of, at_one}
use Rattle.lus_meaning.proofs.Now.{left_part, right_part}
use Rattle.lus_meaning.proofs.Unique.{same_bytes}
use Rattle.rule_laws.specs.Laws.{placed}
use Rattle.rule_laws.proofs.Cleaned.{outer_table, outer_clean, CleanHome, homes_clean, own_clean}
use Rattle.rule_laws.proofs.Constants.{Values, value_names, found_more, IsFixed, Good, is_word, fixed_in, fixed_of, all_good}
use Rattle.rule_laws.proofs.Declared.{fixed_in_order}
use Rattle.rule_laws.proofs.Goods.{PlaceOf, place_of, TypedDeclaration, typed_declaration}
use Rattle.rule_laws.proofs.Unfolded.{typed_tree}
use Rattle.sys_parts.specs.Values.{is_small}
use Rattle.term_laws.proofs.Scopes.{value_in}
use Rattle.steady_laws.specs.Kept.{kept_value, kept_values, own_constants, constants_for}
use Rattle.steady_laws.specs.Laws.{OuterConstantsAreKept, OwnConstantsAreKept, ConstantsAreKept, ConstantsAreSmall}
use Rattle.steady_laws.proofs.Distinct.{constant_names, program_distinct, all_distinct}
use Rattle.steady_laws.proofs.Small.{small_tame}
use Rattle.steady_laws.proofs.Worths.{IsThere, nothing, Same, same}

-- ---- what an entry says

-- what has a value is a constant, and has it among these
abbrev IsFixedThere : Entry → Type 0
IsFixedThere e = IsThere e.value → is_constant_role e.role ≡ true

abbrev IsFoundThere : Values → Entry → Type 0
IsFoundThere cs e = IsThere e.value → lookup (bytes_eq e.word.text) cs ≡ Some e.value

abbrev Says : Values → Entry → Type 0
Says cs e = IsFixedThere e × IsFoundThere cs e

-- a constant has a value
abbrev HasValue : Entry → Type 0
HasValue e = is_constant_role e.role ≡ true → IsThere e.value

of_sort : (q : Sort) (v : Value) → has_sort q v ≡ true → IsThere v
of_sort Flags (flag b) h = refl
of_sort Numbers (whole n) h = refl
of_sort Flags absent h = absurd (false≢true h)
of_sort Flags (whole n) h = absurd (false≢true h)
of_sort Numbers absent h = absurd (false≢true h)
of_sort Numbers (flag b) h = absurd (false≢true h)

good_value : (cs : Values) (e : Entry) → Good cs e → HasValue e
good_value cs e g r = let f : IsFixed cs e = g r in of_sort f.sort e.value f.has

good_says : (cs : Values) (e : Entry) → Good cs e → IsFixedThere e → Says cs e
good_says cs e g f = (f, (λ t. let k : IsFixed cs e = g (f t) in k.found))

says_more : (cs ds : Values) (e : Entry) → Says cs e → Says (cs ++ ds) e
says_more cs ds e s = (s.0, (λ t. found_more e.word.text e.value cs ds (s.1 t)))

-- ---- what is found

found_says : (cs : Values) (es : List Entry) → AllByRecursion (Says cs) es → (x : Name) → IsThere (value_in (find (is_word x) es)) →
    (fixed_in (find (is_word x) es) ≡ true) × (lookup (bytes_eq x) cs ≡ Some (value_in (find (is_word x) es)))
found_says cs [] a x t = nothing t
found_says cs (e ∷ es) a x t = go (bytes_eq x e.word.text) refl (found_says cs es a.1 x) t
  where
    go : (c : Bool) → bytes_eq x e.word.text ≡ c →
        (IsThere (value_in (find (is_word x) es)) →
        (fixed_in (find (is_word x) es) ≡ true) × (lookup (bytes_eq x) cs ≡ Some (value_in (find (is_word x) es)))) →
        IsThere (value_in (cond c (Some e) (find (is_word x) es))) →
        (fixed_in (cond c (Some e) (find (is_word x) es)) ≡ true)
        × (lookup (bytes_eq x) cs ≡ Some (value_in (cond c (Some e) (find (is_word x) es))))
    go true m r t = (a.0.0 t, subst (λ y. lookup (bytes_eq y) cs ≡ Some e.value) (sym (same_bytes x e.word.text m)) (a.0.1 t))
    go false m r t = r t

-- what may be used and has a value has that of its entry
usable : (o : Option Entry) → IsThere (unwrap_or (option_map value_where_known o) absent) → unwrap_or (option_map value_where_known o) absent ≡ value_in o
usable None t = refl
usable (Some e) t = go e.known t
  where
    go : (b : Bool) → IsThere (cond b e.value absent) → cond b e.value absent ≡ e.value
    go true t = refl
    go false t = nothing t

found_here : (p : Program) (cs : Values) (es : List Entry) → AllByRecursion (Says cs) es → (x : Name) → IsThere (value_of_entry (names_only p es) x) →
    (is_constant_name (names_only p es) x ≡ true) × (lookup (bytes_eq x) cs ≡ Some (value_of_entry (names_only p es) x))
found_here p cs es a x t =
    let o : Option Entry = find (is_word x) es in
    let q = found_says cs es a x (subst IsThere (usable o t) t) in
    (q.0, q.1 ∙ ap (λ (v : Value). Some v) (sym (usable o t)))

found_last : (x : Name) (v : Value) (cs : Values) → named_in x (value_names cs) ≡ false → lookup (bytes_eq x) (cs ++ (x, v) ∷ []) ≡ Some v
found_last x v [] e = ap (λ b. cond b (Some v) None) (self_bytes x)
found_last x v (c ∷ cs) e = go (bytes_eq x c.0) e (found_last x v cs)
  where
    go : (b : Bool) → (b || named_in x (value_names cs)) ≡ false →
        (named_in x (value_names cs) ≡ false → lookup (bytes_eq x) (cs ++ (x, v) ∷ []) ≡ Some v) →
        cond b (Some c.1) (lookup (bytes_eq x) (cs ++ (x, v) ∷ [])) ≡ Some v
    go true h r = absurd (false≢true (sym h))
    go false h r = r h

-- of distinct names the middle one is none of those before it
fresh : (xs : List Name) (y : Name) (ys : List Name) → AreDistinct (xs ++ y ∷ ys) → named_in y xs ≡ false
fresh [] y ys d = refl
fresh (x ∷ xs) y ys d = go (bytes_eq y x) refl (fresh xs y ys d.1)
  where
    apart : (zs : List Name) → named_in x (zs ++ y ∷ ys) ≡ false → bytes_eq x y ≡ false
    apart [] e = first (bytes_eq x y) e
      where
        first : (c : Bool) → (c || named_in x ys) ≡ false → c ≡ false
        first true h = absurd (false≢true (sym h))
        first false h = refl
    apart (z ∷ zs) e = apart zs (second (bytes_eq x z) e)
      where
        second : (c : Bool) → (c || named_in x (zs ++ y ∷ ys)) ≡ false → named_in x (zs ++ y ∷ ys) ≡ false
        second true h = absurd (false≢true (sym h))
        second false h = h

    go : (c : Bool) → bytes_eq y x ≡ c → named_in y xs ≡ false → (c || named_in y xs) ≡ false
    go true m r = absurd (false≢true (sym (apart xs d.0) ∙ subst (λ z. bytes_eq x z ≡ true) (sym (same_bytes y x m)) (self_bytes x)))
    go false m r = r

one_more : {A : Type 0} (xs : List A) (y : A) (ys : List A) → (xs ++ y ∷ []) ++ ys ≡ xs ++ y ∷ ys
one_more [] y ys = refl
one_more (x ∷ xs) y ys = ap (λ zs. x ∷ zs) (one_more xs y ys)

-- ---- all of a table

module _ (p : Program) (outer : List Entry) where
  so_far : (P : Entry → Type 0) (done : List Entry) (xs : List Declared) → AllByRecursion P (entries_from p outer done xs) → AllByRecursion P done
  so_far P done [] a = a
  so_far P done (x ∷ xs) a =
      let e : Entry = entry_for (names_only p (done ++ outer)) x in left_part P done (e ∷ []) (so_far P (done ++ e ∷ []) xs a)

  pub all_fixed : (done : List Entry) (xs : List Declared) → AllByRecursion IsFixedThere done → AllByRecursion IsFixedThere (entries_from p outer done xs)
  all_fixed done [] a = a
  all_fixed done (a_stream r v ∷ xs) a =
      let e : Entry = entry_for (names_only p (done ++ outer)) (a_stream r v) in
      all_fixed (done ++ e ∷ []) xs (both_parts IsFixedThere done (e ∷ []) a ((λ t. nothing t), tt))
  all_fixed done (a_fixed k ∷ xs) a =
      let e : Entry = entry_for (names_only p (done ++ outer)) (a_fixed k) in
      all_fixed (done ++ e ∷ []) xs (both_parts IsFixedThere done (e ∷ []) a ((λ t. refl), tt))

  pub same_values : (done : List Entry) (xs : List Declared) (cs : Values) → AllByRecursion HasValue (entries_from p outer done xs) →
      AllByRecursion (Says cs) outer → AllByRecursion (Says cs) done →
      AreDistinct (value_names cs ++ constant_names (fixed_of xs)) → kept_values cs (fixed_of xs) ≡ constant_values cs (fixed_of xs)
  same_values done [] cs t o a d = refl
  same_values done (a_stream r v ∷ xs) cs t o a d =
      let e : Entry = entry_for (names_only p (done ++ outer)) (a_stream r v) in
      same_values (done ++ e ∷ []) xs cs t o (both_parts (Says cs) done (e ∷ []) a (((λ t. nothing t), (λ t. nothing t)), tt)) d
  same_values done (a_fixed k ∷ xs) cs t o a d =
      let s : Scope = names_only p (done ++ outer) in
      let e : Entry = entry_for s (a_fixed k) in
      let there : IsThere (constant_of s k.value) =
      (right_part HasValue done (e ∷ []) (so_far HasValue (done ++ e ∷ []) xs t)).0 refl in
      let all : AllByRecursion (Says cs) (done ++ outer) = both_parts (Says cs) done outer a o in
      let q : Same cs k.value (constant_of s k.value) =
      same s cs (λ x h. (found_here p cs (done ++ outer) all x h).0) (λ x h. (found_here p cs (done ++ outer) all x h).1) k.value there in
      let more : Values = cs ++ (k.name.text, constant_value cs k.value) ∷ [] in
      let new : named_in k.name.text (value_names cs) ≡ false = fresh (value_names cs) k.name.text (constant_names (fixed_of xs)) d in
      let own : Says more e = (
        (λ h. refl),
        (λ h. found_last k.name.text (constant_value cs k.value) cs new ∙ ap (λ (v : Value). Some v) q.1),
      ) in
      let lift : (es : List Entry) → AllByRecursion (Says cs) es → AllByRecursion (Says more) es =
      λ es b. all_from (Says cs) (Says more) (λ z g. says_more cs ((k.name.text, constant_value cs k.value) ∷ []) z g) es b in
      let words : value_names cs ++ k.name.text ∷ constant_names (fixed_of xs) ≡ value_names more ++ constant_names (fixed_of xs) =
      sym (ap (λ ys. ys ++ constant_names (fixed_of xs)) (map_append (λ (z : Name × Value). z.0) cs ((k.name.text, constant_value cs k.value) ∷ []))
      ∙ one_more (value_names cs) k.name.text (constant_names (fixed_of xs))) in
      ap (λ v. kept_values (cs ++ (k.name.text, v) ∷ []) (fixed_of xs)) (q.0 ∙ sym q.1)
      ∙ same_values (done ++ e ∷ []) xs more t (lift outer o) (both_parts (Says more) done (e ∷ []) (lift done a) (own, tt)) (subst AreDistinct words d)

-- how many of them are known changes nothing else
module _ (P : Entry → Type 0) (keep : (k : ℕ) (e : Entry) → P e → P (known_after k e)) where
  first_all : (k : ℕ) (es : List Entry) → AllByRecursion P es → AllByRecursion P (first_constants k es)
  first_all k [] a = tt
  first_all k (e ∷ es) a = (keep k e a.0, first_all (left_after k e) es a.1)

good_known : (cs : Values) (k : ℕ) (e : Entry) → Good cs e → Good cs (known_after k e)
good_known cs k e g = λ r. let f : IsFixed cs e = g r in
    record { sort = f.sort; is_sort = f.is_sort; clock = f.clock; found = f.found; has = f.has }

says_known : (cs : Values) (k : ℕ) (e : Entry) → Says cs e → Says cs (known_after k e)
says_known cs k e s = s

-- ---- the constants of a program

outer_fixed : (ds : Program) → fixed_of (constants_declared ds) ≡ program_constants ds
outer_fixed [] = refl
outer_fixed (declared_constant c ∷ ds) = ap (λ ks. c ∷ ks) (outer_fixed ds)
outer_fixed (declared_node n ∷ ds) = outer_fixed ds
outer_fixed (declared_contract n ∷ ds) = outer_fixed ds

abbrev outer_values : Program → Values
outer_values p = constant_values [] (program_constants p)

-- what is clean of the names of a program
record IsCleanProgram (p : Program) : Type 0 where
  once : words_twice name_twice (map declaration_word p) ≡ []
  faultless : declaration_faults p 0 p ≡ []

clean_program : (p : Program) → IsTyped p → IsCleanProgram p
clean_program p t =
    let none : words_twice name_twice (map declaration_word p) ++ declaration_faults p 0 p ≡ [] =
    (no_parts _ (words_twice name_twice (map declaration_word p) ++ declaration_faults p 0 p) (empty_of (typing_faults p) t)).1 in
    let q = no_parts (words_twice name_twice (map declaration_word p)) (declaration_faults p 0 p) none in
    record { once = q.0; faultless = q.1 }

module _ (p : Program) (w : IsCleanProgram p) where
  abbrev distinct : AreDistinct (constant_names (fixed_of (constants_declared p)))
  distinct = subst (λ cs. AreDistinct (constant_names cs)) (sym (outer_fixed p)) (program_distinct p w.once)

  outer_good : AllByRecursion (Good (constant_values [] (program_constants p))) (outer_table p)
  outer_good =
      subst (λ cs. AllByRecursion (Good (constant_values [] cs)) (outer_table p)) (outer_fixed p)
      (all_good p (outer_table p) [] [] (constants_declared p) [] refl tt tt tt distinct (outer_clean p 0 p w.faultless))

  outer_says : AllByRecursion (Says (constant_values [] (program_constants p))) (outer_table p)
  outer_says = all_from_both (Good (outer_values p)) IsFixedThere (Says (outer_values p)) (λ e g f. good_says (outer_values p) e g f) (outer_table p)
      outer_good (all_fixed p [] [] (constants_declared p) tt)

  outer_kept : kept_values [] (program_constants p) ≡ constant_values [] (program_constants p)
  outer_kept =
      subst (λ cs. kept_values [] cs ≡ constant_values [] cs) (outer_fixed p)
      (same_values p [] [] (constants_declared p) []
      (all_from (Good (outer_values p)) HasValue (λ e g. good_value (outer_values p) e g) (outer_table p) outer_good) tt tt distinct)

-- ---- and of a declaration

values_named : (cs : Values) (ds : List Constant) → value_names (constant_values cs ds) ≡ value_names cs ++ constant_names ds
values_named cs [] = none (value_names cs)
  where
    none : (xs : List Name) → xs ≡ xs ++ []
    none [] = refl
    none (x ∷ xs) = ap (λ ys. x ∷ ys) (none xs)
values_named cs (d ∷ ds) = values_named (cs ++ (d.name.text, constant_value cs d.value) ∷ []) ds ∙ ap (λ xs. xs ++ constant_names ds)
    (map_append (λ (c : Name × Value). c.0) cs ((d.name.text, constant_value cs d.value) ∷ [])) ∙ one_more (value_names cs) d.name.text (constant_names ds)

values_append : (cs : Values) (xs ys : List Constant) → constant_values cs (xs ++ ys) ≡ constant_values (constant_values cs xs) ys
values_append cs [] ys = refl
values_append cs (x ∷ xs) ys = values_append (cs ++ (x.name.text, constant_value cs x.value) ∷ []) xs ys

kept_append : (cs : Values) (xs ys : List Constant) → kept_values cs (xs ++ ys) ≡ kept_values (kept_values cs xs) ys
kept_append cs [] ys = refl
kept_append cs (x ∷ xs) ys = kept_append (cs ++ (x.name.text, kept_value cs x.value) ∷ []) xs ys

module _ (p : Program) (w : IsCleanProgram p) (h : ℕ × Component) (clean : CleanHome p h) (d : TypedDeclaration p h) where
  abbrev place : Home
  place = home p h.0 h.1

  grouped : (n : Component) → constants_for p n ≡ program_constants p ++ own_constants n
  grouped n = append_assoc (program_constants p) (contract_statement_constants (contract_statements n)) n.constants

  own_distinct : AreDistinct (value_names (constant_values [] (program_constants p)) ++ constant_names (fixed_of (declared_in h.1)))
  own_distinct =
      subst (λ cs. AreDistinct (value_names (outer_values p) ++ constant_names cs)) (sym (fixed_in_order h.1))
      (subst (λ xs. AreDistinct (xs ++ constant_names (own_constants h.1))) (sym (values_named [] (program_constants p)))
      (all_distinct p h (program_distinct p w.once) clean))

  own_good : AllByRecursion (Good (constant_values (constant_values [] (program_constants p)) (fixed_of (declared_in h.1)))) (own_names (home p h.0 h.1))
  own_good =
      all_good p (own_names place) (outer_names p h.0) [] (declared_in h.1) (outer_values p) refl
      (first_all (Good (outer_values p)) (good_known (outer_values p)) h.0 (outer_table p) (outer_good p w)) tt tt own_distinct
      (own_clean place d.contract d.constants)

  own_kept : kept_values (constant_values [] (program_constants p)) (own_constants h.1)
      ≡ constant_values (constant_values [] (program_constants p)) (own_constants h.1)
  own_kept =
      subst (λ cs. kept_values (outer_values p) cs ≡ constant_values (outer_values p) cs) (fixed_in_order h.1)
      (same_values p (outer_names p h.0) [] (declared_in h.1) (outer_values p)
      (all_from (Good (constant_values (outer_values p) (fixed_of (declared_in h.1)))) HasValue
      (λ e g. good_value (constant_values (outer_values p) (fixed_of (declared_in h.1))) e g) (own_names place) own_good)
      (first_all (Says (outer_values p)) (says_known (outer_values p)) h.0 (outer_table p) (outer_says p w)) tt own_distinct)

  own_values : kept_values (constant_values [] (program_constants p)) (own_constants h.1) ≡ constants_in p h.1
  own_values =
      own_kept ∙ sym (values_append [] (program_constants p) (own_constants h.1)) ∙ sym (ap (constant_values []) (grouped h.1))

  all_kept : kept_values [] (constants_for p h.1) ≡ constants_in p h.1
  all_kept =
      ap (kept_values []) (grouped h.1)
      ∙ kept_append [] (program_constants p) (own_constants h.1)
      ∙ ap (λ cs. kept_values cs (own_constants h.1)) (outer_kept p w)
      ∙ own_values

pub outer_constants_are_kept : OuterConstantsAreKept
outer_constants_are_kept p c = outer_kept p (clean_program p c.rules.clocked.typed)

-- a declaration at its place, without faults of names and types
record IsCleanHere (p : Program) (n : Component) : Type 0 where
  before : ℕ
  names : CleanHome p (before, n)
  typed : TypedDeclaration p (before, n)

clean_here : (p : Program) → IsChecked p → (n : Component) → Contains (components p) n → IsCleanHere p n
clean_here p c n j =
    let w : IsCleanProgram p = clean_program p c.rules.clocked.typed in
    let place : PlaceOf (placed 0 p) n = place_of 0 p n j in
    let h : ℕ × Component = (place.before, n) in
    record {
      before = place.before;
      names = at_one (CleanHome p) (placed 0 p) h (homes_clean p 0 p w.faultless) place.is;
      typed = typed_declaration p (typed_tree p c) h place.is j;
    }

pub own_constants_are_kept : OwnConstantsAreKept
own_constants_are_kept p c n j =
    let k : IsCleanHere p n = clean_here p c n j in own_values p (clean_program p c.rules.clocked.typed) (k.before, n) k.names k.typed

pub constants_are_kept : ConstantsAreKept
constants_are_kept p c n j =
    let k : IsCleanHere p n = clean_here p c n j in all_kept p (clean_program p c.rules.clocked.typed) (k.before, n) k.names k.typed

-- ---- sizes

abbrev IsSmallPair : Name × Value → Type 0
IsSmallPair c = is_small c.1 ≡ true

found_small : (x : Name) (cs : Values) → AllByRecursion IsSmallPair cs → is_small (unwrap_or (lookup (bytes_eq x) cs) absent) ≡ true
found_small x [] a = refl
found_small x (c ∷ cs) a = go (bytes_eq x c.0) (found_small x cs a.1)
  where
    go : (b : Bool) → is_small (unwrap_or (lookup (bytes_eq x) cs) absent) ≡ true →
        is_small (unwrap_or (cond b (Some c.1) (lookup (bytes_eq x) cs)) absent) ≡ true
    go true r = a.0
    go false r = r

not_small : (v : Value) → is_small (not_value v) ≡ true
not_small absent = refl
not_small (flag b) = refl
not_small (whole n) = refl

choose_small : (b : Bool) (c v w : Value) → is_small v ≡ true → is_small w ≡ true → is_small (cond b (choose c v w) absent) ≡ true
choose_small false c v w h k = refl
choose_small true absent v w h k = refl
choose_small true (flag true) v w h k = h
choose_small true (flag false) v w h k = k
choose_small true (whole n) v w h k = refl

kept_small : (cs : Values) → AllByRecursion IsSmallPair cs → (e : Expression) → is_small (kept_value cs e) ≡ true
kept_small cs a (truth p b) = refl
kept_small cs a (number p n) = small_tame (whole (pos n))
kept_small cs a (name p x) = found_small x cs a
kept_small cs a (negation p b) = not_small (kept_value cs b)
kept_small cs a (minus p b) = small_tame (minus_value (kept_value cs b))
kept_small cs a (binary p o b d) = small_tame (apply_total o (kept_value cs b) (kept_value cs d))
kept_small cs a (choice p b d e) =
    choose_small (are_alike (kept_value cs d) (kept_value cs e)) (kept_value cs b) (kept_value cs d) (kept_value cs e)
    (kept_small cs a d) (kept_small cs a e)
kept_small cs a (pre p k b) = refl
kept_small cs a (arrow p k b d) = refl
kept_small cs a (sampled p b d x) = refl
kept_small cs a (merged p x b d) = refl
kept_small cs a (call p k f as_) = refl
kept_small cs a (condact p k b f as_ ds) = refl
kept_small cs a (mode_name p d m) = refl

all_small : (cs : Values) (ds : List Constant) → AllByRecursion IsSmallPair cs → AllByRecursion IsSmallPair (kept_values cs ds)
all_small cs [] a = a
all_small cs (d ∷ ds) a =
    all_small (cs ++ (d.name.text, kept_value cs d.value) ∷ []) ds
    (both_parts IsSmallPair cs ((d.name.text, kept_value cs d.value) ∷ []) a (kept_small cs a d.value, tt))

pub constants_are_small : ConstantsAreSmall
constants_are_small p c n j = subst (AllByRecursion IsSmallPair) (constants_are_kept p c n j) (all_small [] (constants_for p n) tt)
