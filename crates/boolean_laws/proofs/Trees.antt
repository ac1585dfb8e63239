-- What the system of a declaration without integers reads has truth values, at every depth of calls.
use Rattle.std.proofs.Common.{◌≡◌, ℕ, suc, Bool, true, false, cond, List, [], ◌∷◌, ◌++◌, map, flat_map, Option, Some, None, option_map, refl, sym, ap, ◌∙◌, subst}
use Rattle.std.specs.Prelude.{Contains, find, unwrap_or}
use Rattle.std.specs.List.{AllByRecursion}
use Rattle.std.specs.Map.{lookup}
use Rattle.std.specs.Str.{bytes_eq}
use Rattle.std.proofs.lemmas.Option.{none-some}
use Rattle.lus_tree.specs.declared.place.Sort.TheVariants.{Bool as Flags}
use Rattle.lus_tree.specs.Tree.{Name, Expression, Expressions, truth, number, name, negation, minus, pre, arrow, binary, choice, sampled, merged, call, condact, mode_name, no_more, more, Variable, Labelled, Statement, equation, assertion, property, main_mark, ContractStatement, assume, guarantee, ghost_variable, constant, mode, «import», Component, Program}
use Rattle.lus_meaning.specs.Value.{Value, absent, flag, whole}
use Rattle.lus_meaning.specs.Scene.{base, sampled_by, Clock, Manner, plain, while_true, as_import, Site, Instance, Instances, instance, no_instances, with_instance, component_of, constants_of, clock_of, contract_statements, variables}
use Rattle.lus_meaning.specs.Program.{listed, site_in, import_site, all_sites, instance_of}
use Rattle.lus_meaning.specs.Property.{assertions}
use Rattle.lus_meaning.specs.Run.{Equation, ghost_equations, body_equations, sort_of, sort_of_name, sort_of_value}
use Rattle.lus_meaning.specs.Occurrences.{Standing, on_clock, on_base, within, before, moved, Occurrence, occurrences, Text, contract_statement_texts, statement_texts, constant_texts, texts, all_occurrences, gathered, Memory, memory_in}
use Rattle.lus_meaning.specs.ClockFaults.{components}
use Rattle.lus_meaning.specs.Refusals.{IsChecked}
use Rattle.lus_meaning.proofs.EachPart.{Each, EachAmong, each_part}
use Rattle.lus_meaning.proofs.InOrder.{in_order_all}
use Rattle.lus_meaning.proofs.Lists.{all_from, both_parts}
use Rattle.lus_meaning.proofs.NamesOnce.{at_one}
use Rattle.lus_meaning.proofs.Now.{left_part, right_part}
use Rattle.lus_meaning.proofs.Unique.{same_bytes}
use Rattle.rule_laws.specs.Laws.{IsUnfolded, AreUnfolded}
use Rattle.rule_laws.proofs.Callees.{GoesDown, each_site}
use Rattle.rule_laws.proofs.Lists.{all_flat}
use Rattle.rule_laws.proofs.Parts.{all_parts}
use Rattle.rule_laws.proofs.Unfolded.{component_within, each_unfolded}
use Rattle.clock_laws.proofs.Clocks.{declared_at, unfolded_same}
use Rattle.path_laws.proofs.Main.{each_is_well_typed}
use Rattle.sys_meaning.specs.WellTyped.{IsKnown, checked, IsNameOn, StreamFits, MannerFits, CallFits, TreeFits, CallsFit}
use Rattle.term_laws.proofs.Weights.{no_number}
use Rattle.boolean_laws.specs.Integers.{HasNoneItself, HasNoIntegers, CallsHaveNone, IsWithoutIntegers}
use Rattle.boolean_laws.specs.Laws.{EachHasNone, SystemsAreOfFlags}
use Rattle.boolean_laws.proofs.Parts.{Pure, PureAmong, PureConstants, IsNoNumber, AreFlags}
use Rattle.boolean_laws.proofs.Contracts.{PureFlag, PureStatement, OwnPure, PureManner, PureSite, PureTree, PureCalls}
use Rattle.boolean_laws.proofs.Systems.{of_flags}

module _ (i : Instance) where
  abbrev n : Component
  n = component_of i

  -- ---- names

  abbrev IfFound : Option Variable → Type 0
  IfFound None = Unit {0}
  IfFound (Some v) = v.sort ≡ Flags

  found_flags : (x : Name) (vs : List Variable) → AreFlags vs → IfFound (find (λ v. bytes_eq x v.name.text) vs)
  found_flags x [] a = tt
  found_flags x (v ∷ vs) a = go (bytes_eq x v.name.text) (found_flags x vs a.1)
    where
      go : (b : Bool) → IfFound (find (λ v. bytes_eq x v.name.text) vs) → IfFound (cond b (Some v) (find (λ v. bytes_eq x v.name.text) vs))
      go true r = a.0
      go false r = r

  -- a name that is no constant
  stream_sort : AreFlags (variables (component_of i)) → (x : Name) → lookup (bytes_eq x) (constants_of i) ≡ None → sort_of_name i x ≡ Flags
  stream_sort a x e =
      go (find (λ v. bytes_eq x v.name.text) (variables n)) (lookup (bytes_eq x) (constants_of i)) (found_flags x (variables n) a) e
    where
      go : (o : Option Variable) (w : Option Value) → IfFound o → w ≡ None →
          unwrap_or (option_map (λ v. v.sort) o) (sort_of_value (unwrap_or w absent)) ≡ Flags
      go None w h e = ap (λ k. sort_of_value (unwrap_or k absent)) e
      go (Some v) w h e = h

  -- a constant has no stream's name, so that its name has its type
  not_found : (x : Name) (w : Value) → lookup (bytes_eq x) (constants_of i) ≡ Some w → (vs : List Variable) →
      AllByRecursion (StreamFits i (IsKnown i)) vs → find (λ v. bytes_eq x v.name.text) vs ≡ None
  not_found x w e [] a = refl
  not_found x w e (v ∷ vs) a = go (bytes_eq x v.name.text) refl (not_found x w e vs a.1)
    where
      go : (b : Bool) → bytes_eq x v.name.text ≡ b → find (λ v. bytes_eq x v.name.text) vs ≡ None →
          cond b (Some v) (find (λ v. bytes_eq x v.name.text) vs) ≡ None
      go true h r =
          absurd (none-some w (sym a.0.name.stream ∙ subst (λ y. lookup (bytes_eq y) (constants_of i) ≡ Some w) (same_bytes x v.name.text h) e))
      go false h r = r

  pure_constants : AllByRecursion (StreamFits i (IsKnown i)) (variables (component_of i)) → PureConstants i
  pure_constants a x v e s =
      no_whole v (sym (ap (λ o. unwrap_or (option_map (λ v. v.sort) o) (sort_of_value (unwrap_or (lookup (bytes_eq x) (constants_of i)) absent)))
      (not_found x v e (variables n) a) ∙ ap (λ o. sort_of_value (unwrap_or o absent)) e) ∙ s)
    where
      no_whole : (v : Value) → sort_of_value v ≡ Flags → IsNoNumber v
      no_whole absent h = tt
      no_whole (flag b) h = tt
      no_whole (whole k) h = absurd (no_number (sym h))

  -- ---- expressions

  abbrev IsFlag : Occurrence → Type 0
  IsFlag o = sort_of i o.expression ≡ Flags

  abbrev IsPure : Occurrence → Type 0
  IsPure o = Pure i o.expression

  mutual
    pure_of : (t : Standing) (e : Expression) → Each IsFlag (component_of i) t e → Pure i e
    pure_of t (truth p b) h = tt
    pure_of t (number p k) h = no_number (sym h)
    pure_of t (name p x) h = h
    pure_of t (negation p a) h = pure_of (within t) a h.1
    pure_of t (minus p a) h = no_number (sym h.0)
    pure_of t (pre p k a) h = (h.0, pure_of (before t) a h.1)
    pure_of t (arrow p k a b) h = (pure_of (within t) a h.1, pure_of (within t) b h.2)
    pure_of t (binary p o a b) h = (h.0, pure_of (within t) a h.1, pure_of (within t) b h.2)
    pure_of t (choice p a b d) h = (pure_of (within t) a h.1, pure_of (within t) b h.2, pure_of (within t) d h.3)
    pure_of t (sampled p a q x) h = pure_of (moved (clock_of n x.text) t) a h.1
    pure_of t (merged p x a b) h =
        (pure_of (moved (sampled_by true x.text) t) a h.1, pure_of (moved (sampled_by false x.text) t) b h.2)
    pure_of t (call p k f as_) h = pure_among (within t) as_ h.1
    pure_of t (condact p k a f as_ ds) h =
        (pure_of (within t) a h.1, pure_among (within t) as_ h.2, pure_among (within t) ds h.3)
    pure_of t (mode_name p d m) h = tt

    pure_among : (t : Standing) (as_ : Expressions) → EachAmong IsFlag (component_of i) t as_ → PureAmong i as_
    pure_among t no_more h = tt
    pure_among t (more a as_) h = (pure_of t a h.0, pure_among t as_ h.1)

  mutual
    pure_parts : (t : Standing) (e : Expression) → Pure i e → Each IsPure (component_of i) t e
    pure_parts t (truth p b) h = h
    pure_parts t (number p k) h = h
    pure_parts t (name p x) h = h
    pure_parts t (negation p a) h = (h, pure_parts (within t) a h)
    pure_parts t (minus p a) h = absurd h
    pure_parts t (pre p k a) h = (h, pure_parts (before t) a h.1)
    pure_parts t (arrow p k a b) h = (h, pure_parts (within t) a h.0, pure_parts (within t) b h.1)
    pure_parts t (binary p o a b) h = (h, pure_parts (within t) a h.1, pure_parts (within t) b h.2)
    pure_parts t (choice p a b d) h = (h, pure_parts (within t) a h.0, pure_parts (within t) b h.1, pure_parts (within t) d h.2)
    pure_parts t (sampled p a q x) h = (h, pure_parts (moved (clock_of n x.text) t) a h)
    pure_parts t (merged p x a b) h =
        (h, pure_parts (moved (sampled_by true x.text) t) a h.0, pure_parts (moved (sampled_by false x.text) t) b h.1)
    pure_parts t (call p k f as_) h = (h, pure_parts_among (within t) as_ h)
    pure_parts t (condact p k a f as_ ds) h =
        (h, pure_parts (within t) a h.0, pure_parts_among (within t) as_ h.1, pure_parts_among (within t) ds h.2)
    pure_parts t (mode_name p d m) h = h

    pure_parts_among : (t : Standing) (as_ : Expressions) → PureAmong i as_ → EachAmong IsPure (component_of i) t as_
    pure_parts_among t no_more h = tt
    pure_parts_among t (more a as_) h = (pure_parts t a h.0, pure_parts_among t as_ h.1)

  each_text : (xs : List Text) → AllByRecursion IsFlag (flat_map (λ x. occurrences (component_of i) x.0 x.1) xs) →
      AllByRecursion (λ x. Pure i x.1) xs
  each_text [] a = tt
  each_text (x ∷ xs) a = (
    pure_of x.0 x.1 (each_part IsFlag n x.0 x.1 (left_part IsFlag (occurrences n x.0 x.1) _ a)),
    each_text xs (right_part IsFlag (occurrences n x.0 x.1) _ a),
  )

  -- ---- items

  abbrev PureText : Text → Type 0
  PureText x = Pure i x.1

  labels_pure : (ls : List Labelled) → AllByRecursion PureText (on_base ls) → AllByRecursion (PureFlag i) ls
  labels_pure [] a = tt
  labels_pure (l ∷ ls) a = (a.0, labels_pure ls a.1)

  contract_pure : (xs : List ContractStatement) → AllByRecursion PureText (flat_map contract_statement_texts xs) →
      AllByRecursion (PureStatement i) xs
  contract_pure [] a = tt
  contract_pure (assume l ∷ xs) a = (a.0, contract_pure xs a.1)
  contract_pure (guarantee l ∷ xs) a = (a.0, contract_pure xs a.1)
  contract_pure (ghost_variable x e ∷ xs) a = (tt, contract_pure xs a.1)
  contract_pure (constant k ∷ xs) a = (tt, contract_pure xs a.1)
  contract_pure (mode m rs es ∷ xs) a =
      let here = left_part PureText (on_base rs ++ on_base es) (flat_map contract_statement_texts xs) a in (
        (labels_pure rs (left_part PureText (on_base rs) (on_base es) here), labels_pure es (right_part PureText (on_base rs) (on_base es) here)),
        contract_pure xs (right_part PureText (on_base rs ++ on_base es) (flat_map contract_statement_texts xs) a),
      )
  contract_pure («import» k c as_ ys ∷ xs) a =
      (tt, contract_pure xs (right_part PureText (map (λ e. (on_clock base, e)) as_) (flat_map contract_statement_texts xs) a))

  ghosts_pure : (xs : List ContractStatement) → AllByRecursion PureText (flat_map contract_statement_texts xs) →
      AllByRecursion (λ e. Pure i e.right) (ghost_equations xs)
  ghosts_pure [] a = tt
  ghosts_pure (assume l ∷ xs) a = ghosts_pure xs a.1
  ghosts_pure (guarantee l ∷ xs) a = ghosts_pure xs a.1
  ghosts_pure (ghost_variable x e ∷ xs) a = (a.0, ghosts_pure xs a.1)
  ghosts_pure (constant k ∷ xs) a = ghosts_pure xs a.1
  ghosts_pure (mode m rs es ∷ xs) a =
      ghosts_pure xs (right_part PureText (on_base rs ++ on_base es) (flat_map contract_statement_texts xs) a)
  ghosts_pure («import» k c as_ ys ∷ xs) a =
      ghosts_pure xs (right_part PureText (map (λ e. (on_clock base, e)) as_) (flat_map contract_statement_texts xs) a)

  equations_pure : (ss : List Statement) → AllByRecursion PureText (flat_map (statement_texts (component_of i)) ss) →
      AllByRecursion (λ e. Pure i e.right) (body_equations ss)
  equations_pure [] a = tt
  equations_pure (equation xs e ∷ ss) a = (a.0, equations_pure ss a.1)
  equations_pure (assertion e ∷ ss) a = equations_pure ss a.1
  equations_pure (property l ∷ ss) a = equations_pure ss a.1
  equations_pure (main_mark w ∷ ss) a = equations_pure ss a

  asserts_pure : (ss : List Statement) → AllByRecursion PureText (flat_map (statement_texts (component_of i)) ss) →
      AllByRecursion (Pure i) (assertions ss)
  asserts_pure [] a = tt
  asserts_pure (equation xs e ∷ ss) a = asserts_pure ss a.1
  asserts_pure (assertion e ∷ ss) a = (a.0, asserts_pure ss a.1)
  asserts_pure (property l ∷ ss) a = asserts_pure ss a.1
  asserts_pure (main_mark w ∷ ss) a = asserts_pure ss a

  checks_pure : (ss : List Statement) → AllByRecursion PureText (flat_map (statement_texts (component_of i)) ss) →
      AllByRecursion (Pure i) (checked ss)
  checks_pure [] a = tt
  checks_pure (equation xs e ∷ ss) a = checks_pure ss a.1
  checks_pure (assertion e ∷ ss) a = checks_pure ss a.1
  checks_pure (property l ∷ ss) a = (a.0, checks_pure ss a.1)
  checks_pure (main_mark w ∷ ss) a = checks_pure ss a

  -- ---- what occurs

  memories_pure : (t : Standing) (e : Expression) → Pure i e →
      AllByRecursion (λ m. (sort_of i m.operand ≡ Flags) × Pure i m.operand) (memory_in t e)
  memories_pure t (pre p k b) l = (l, tt)
  memories_pure t (call p k f as_) l = tt
  memories_pure t (condact p k b f as_ ds) l = tt
  memories_pure t (truth p b) l = tt
  memories_pure t (number p b) l = tt
  memories_pure t (name p b) l = tt
  memories_pure t (negation p b) l = tt
  memories_pure t (minus p b) l = tt
  memories_pure t (arrow p k b d) l = tt
  memories_pure t (binary p k b d) l = tt
  memories_pure t (choice p b d e) l = tt
  memories_pure t (sampled p b d e) l = tt
  memories_pure t (merged p b d e) l = tt
  memories_pure t (mode_name p b d) l = tt

  abbrev PureCondition : Manner → Type 0
  PureCondition (while_true a) = Pure i a
  PureCondition plain = Unit {0}
  PureCondition (as_import xs) = Unit {0}

  -- what a call's text has
  record PureCall (s : Site) : Type 0 where
    arguments : AllByRecursion (Pure i) s.arguments
    condition : PureCondition s.manner
    defaults : AllByRecursion (Pure i) s.defaults

  all_listed : (as_ : Expressions) → PureAmong i as_ → AllByRecursion (Pure i) (listed as_)
  all_listed no_more h = tt
  all_listed (more a as_) h = (h.0, all_listed as_ h.1)

  sites_pure : (t : Standing) (e : Expression) → Pure i e → AllByRecursion PureCall (site_in t e)
  sites_pure t (call p k f as_) l = (record { arguments = all_listed as_ l; condition = tt; defaults = tt }, tt)
  sites_pure t (condact p k b f as_ ds) l =
      (record { arguments = all_listed as_ l.1; condition = l.0; defaults = all_listed ds l.2 }, tt)
  sites_pure t (pre p k b) l = tt
  sites_pure t (truth p b) l = tt
  sites_pure t (number p b) l = tt
  sites_pure t (name p b) l = tt
  sites_pure t (negation p b) l = tt
  sites_pure t (minus p b) l = tt
  sites_pure t (arrow p k b d) l = tt
  sites_pure t (binary p k b d) l = tt
  sites_pure t (choice p b d e) l = tt
  sites_pure t (sampled p b d e) l = tt
  sites_pure t (merged p b d e) l = tt
  sites_pure t (mode_name p b d) l = tt

  arguments_pure : (as_ : List Expression) → AllByRecursion PureText (map (λ e. (on_clock base, e)) as_) → AllByRecursion (Pure i) as_
  arguments_pure [] a = tt
  arguments_pure (e ∷ as_) a = (a.0, arguments_pure as_ a.1)

  imports_pure : (xs : List ContractStatement) → AllByRecursion PureText (flat_map contract_statement_texts xs) →
      AllByRecursion PureCall (flat_map import_site xs)
  imports_pure [] a = tt
  imports_pure (assume l ∷ xs) a = imports_pure xs a.1
  imports_pure (guarantee l ∷ xs) a = imports_pure xs a.1
  imports_pure (ghost_variable x e ∷ xs) a = imports_pure xs a.1
  imports_pure (constant k ∷ xs) a = imports_pure xs a.1
  imports_pure (mode m rs es ∷ xs) a =
      imports_pure xs (right_part PureText (on_base rs ++ on_base es) (flat_map contract_statement_texts xs) a)
  imports_pure («import» k c as_ ys ∷ xs) a = (
    record {
      arguments = arguments_pure as_ (left_part PureText (map (λ e. (on_clock base, e)) as_) (flat_map contract_statement_texts xs) a);
      condition = tt;
      defaults = tt;
    },
    imports_pure xs (right_part PureText (map (λ e. (on_clock base, e)) as_) (flat_map contract_statement_texts xs) a),
  )

  -- ---- a declaration

  module _ (h : HasNoneItself i) where
    all_texts : AllByRecursion PureText (texts (component_of i))
    all_texts = each_text (texts n) h.expressions

    contract_texts : AllByRecursion PureText (flat_map contract_statement_texts (contract_statements (component_of i)))
    contract_texts = left_part PureText (flat_map contract_statement_texts (contract_statements n)) _ all_texts

    body_texts : AllByRecursion PureText (flat_map (statement_texts (component_of i)) (component_of i).body)
    body_texts = right_part PureText (constant_texts n.constants) _
        (right_part PureText (flat_map contract_statement_texts (contract_statements n)) _ all_texts)

    all_pure : AllByRecursion IsPure (all_occurrences (component_of i))
    all_pure = all_flat IsPure (λ x. occurrences n x.0 x.1) (texts n)
        (all_from PureText (λ x. AllByRecursion IsPure (occurrences n x.0 x.1)) (λ x a. all_parts IsPure n x.0 x.1 (pure_parts x.0 x.1 a)) (texts n)
        all_texts)

    own_pure : AllByRecursion (StreamFits i (IsKnown i)) (variables (component_of i)) → OwnPure i
    own_pure fits = record {
      streams = h.streams;
      constants = pure_constants fits;
      contract = contract_pure (contract_statements n) contract_texts;
      equations = both_parts (λ (e : Equation). Pure i e.right) (ghost_equations (contract_statements n)) (body_equations n.body)
          (ghosts_pure (contract_statements n) contract_texts) (equations_pure n.body body_texts);
      memories = all_flat (λ (m : Memory). (sort_of i m.operand ≡ Flags) × Pure i m.operand) (λ o. memory_in o.standing o.expression) (all_occurrences n)
          (all_from IsPure (λ o. AllByRecursion (λ (m : Memory). (sort_of i m.operand ≡ Flags) × Pure i m.operand) (memory_in o.standing o.expression))
          (λ o a. memories_pure o.standing o.expression a) (all_occurrences n) all_pure);
      asserts = asserts_pure n.body body_texts;
      checks = checks_pure n.body body_texts;
    }

    all_sites_pure : AllByRecursion PureCall (all_sites (component_of i))
    all_sites_pure =
        in_order_all (λ s. s.number) PureCall (gathered site_in n ++ flat_map import_site (contract_statements n))
        (both_parts PureCall (gathered site_in n) (flat_map import_site (contract_statements n))
        (all_flat PureCall (λ o. site_in o.standing o.expression) (all_occurrences n)
        (all_from IsPure (λ o. AllByRecursion PureCall (site_in o.standing o.expression))
        (λ o a. sites_pure o.standing o.expression a) (all_occurrences n) all_pure))
        (imports_pure (contract_statements n) contract_texts))

    -- an import gives streams
    shared_pure : (xs : List Name) → AllByRecursion (IsNameOn i (IsKnown i) base) xs → AllByRecursion (λ x. sort_of_name i x ≡ Flags) xs
    shared_pure xs a =
        all_from (IsNameOn i (IsKnown i) base) (λ x. sort_of_name i x ≡ Flags) (λ x o. stream_sort h.streams x o.stream) xs a

    manner_pure : (c : Clock) (m : Manner) (k : Instance) → PureCondition m → MannerFits IsKnown i c m k → PureManner i m
    manner_pure c plain k p f = tt
    manner_pure c (while_true a) k p f = p
    manner_pure c (as_import xs) k p f = shared_pure xs f.1

    site_pure : (c : Site) (k : Instance) (q : ℕ) → CallFits IsKnown i c k q → PureCall c → PureSite i c
    site_pure c k q f p =
        record { arguments = p.arguments; manner = manner_pure c.clock c.manner k p.condition f.manner; defaults = p.defaults }

-- ---- the tree

module _ (p : Program) where
  mutual
    pure_tree : (i : Instance) → IsUnfolded p i → TreeFits IsKnown i → HasNoIntegers i → PureTree i
    pure_tree (instance d cs is) u f h =
        let i : Instance = instance d cs is in
        (own_pure i h.0 f.0.streams, pure_calls i h.0 (all_sites d) is u.1 0 f.1 h.1 (all_sites_pure i h.0))

    pure_calls : (i : Instance) → HasNoneItself i → (ss : List Site) (is : Instances) → AreUnfolded p ss is → (q : ℕ) → CallsFit IsKnown i is q →
        CallsHaveNone is → AllByRecursion (PureCall i) ss → PureCalls i is
    pure_calls i h ss no_instances w q f r a = tt
    pure_calls i h [] (with_instance t k is) w q f r a = absurd w
    pure_calls i h (s ∷ ss) (with_instance t k is) w q f r a = (
      site_pure i h t k q f.0 (subst (PureCall i) (sym w.0) a.0),
      pure_tree k w.2 f.1 r.0,
      pure_calls i h ss is w.3 (suc q) f.2 r.1 a.1,
    )

pub systems_of_flags : SystemsAreOfFlags
systems_of_flags p c n j h =
    let i : Instance = instance_of p n in
    of_flags i (pure_tree p i (each_unfolded p c n j) (each_is_well_typed p c n j).0.tree h)

-- ---- programs

module _ (p : Program) (c : IsChecked p) (h : IsWithoutIntegers p) where
  at_declared : (ns : List Component) → AllByRecursion (λ n. HasNoneItself (instance_of p n)) ns → (n : Component) → Contains ns n →
      HasNoneItself (instance_of p n)
  at_declared ns a n j = at_one (λ n. HasNoneItself (instance_of p n)) ns n a j

  mutual
    none_in : (i : Instance) → IsUnfolded p i → Contains (components p) (component_of i) → HasNoIntegers i
    none_in (instance d cs is) u j =
        let i : Instance = instance d cs is in (
          subst HasNoneItself (sym (unfolded_same p c i u j)) (at_declared (components p) h d j),
          none_in_calls d (all_sites d) is u.1 (each_site p c.rules.clocked.typed d j),
        )

    none_in_calls : (d : Component) (ss : List Site) (is : Instances) → AreUnfolded p ss is →
        AllByRecursion (λ s. GoesDown p d s.callee) ss → CallsHaveNone is
    none_in_calls d ss no_instances w a = tt
    none_in_calls d [] (with_instance t k is) w a = absurd w
    none_in_calls d (s ∷ ss) (with_instance t k is) w a =
        (none_in k w.2 (declared_at p c d s k a.0 w.1), none_in_calls d ss is w.3 a.1)

pub each_has_none : EachHasNone
each_has_none p c n j h =
    none_in p c h (instance_of p n) (each_unfolded p c n j) (subst (Contains (components p)) (sym (component_within _ p n)) j)
