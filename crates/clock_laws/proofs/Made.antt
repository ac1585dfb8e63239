-- The instance of each declaration of a checked program is well made for choices that fit.
use Rattle.std.proofs.Common.{◌≡◌, ℕ, suc, Bool, true, false, cond, ◌||◌, List, [], ◌∷◌, ◌++◌, length, map, flat_map, refl, sym, ap, ◌∙◌, subst, append_assoc, Option, Some, None}
use Rattle.std.specs.Prelude.{Contains}
use Rattle.std.specs.List.{AllByRecursion}
use Rattle.std.specs.Str.{bytes_eq}
use Rattle.std.proofs.Math.Logic.{◌⊎◌, inl, inr}
use Rattle.std.proofs.lemmas.Bool.{false≢true}
use Rattle.lus_tree.specs.Tree.{Name, Spelled, text_of, Expression, truth, number, name, negation, minus, pre, arrow, binary, choice, sampled, merged, call, condact, mode_name, Variable, Statement, equation, assertion, property, main_mark, ContractStatement, assume, guarantee, ghost_variable, constant, mode, «import», Component, declared_constant, declared_node, declared_contract, Program}
use Rattle.lus_meaning.specs.Value.{Instants}
use Rattle.lus_meaning.specs.Frame.{Frame, frame_at, calls_in}
use Rattle.lus_meaning.specs.Scene.{base, Manner, plain, while_true, as_import, Site, Instance, Instances, instance, no_instances, with_instance, component_of, outputs_of, contract_statements, variables, ghosts, clock_of_names}
use Rattle.lus_meaning.specs.Contract.{scene}
use Rattle.lus_meaning.specs.Program.{site_in, import_site, all_sites, component_named, instance_of}
use Rattle.lus_meaning.specs.Run.{Equation, equations, ghost_equations, body_equations, right_values, inputs_of}
use Rattle.lus_meaning.specs.Depends.{named_in, left_names, from_caller, outputs_given}
use Rattle.lus_meaning.specs.Occurrences.{Standing, on_clock, as_side, on_base, occurs, occurrences, Text, texts, contract_statement_texts, statement_texts, constant_texts, all_occurrences, gathered}
use Rattle.lus_meaning.specs.Scope.{Scope, node_named, contract_named, component_where, contract_statement_scope, body_scope}
use Rattle.lus_meaning.specs.ExpressionFaults.{expression_faults, part_faults, sides_fit}
use Rattle.lus_meaning.specs.NameFaults.{home, is_declared, contract_statement_faults, contract_faults, statement_faults}
use Rattle.lus_meaning.specs.WellMade.{AreDistinct, SharesArity, IsWellMade, CallsWellMade}
use Rattle.lus_meaning.specs.Choices.{ChoicesFrom, CallsFit}
use Rattle.lus_meaning.specs.ClockFaults.{components}
use Rattle.lus_meaning.specs.EquationFaults.{body_sides, body_lefts, definable}
use Rattle.lus_meaning.specs.Grammatical.{IsContractNode, IsGrammaticalDeclaration}
use Rattle.lus_meaning.specs.Refusals.{IsChecked}
use Rattle.lus_meaning.proofs.Members.{named_either}
use Rattle.lus_meaning.proofs.EachPart.{Each, each_part}
use Rattle.lus_meaning.proofs.InOrder.{in_order_all}
use Rattle.lus_meaning.proofs.Lists.{both_parts, all_from, named_append, or_left, or_true, append_none}
use Rattle.lus_meaning.proofs.NamesOnce.{no_parts, distinct_left}
use Rattle.lus_meaning.proofs.Now.{left_part, right_part}
use Rattle.lus_meaning.proofs.Ranked.{all_named}
use Rattle.lus_meaning.proofs.RulesFit.{none_mapped}
use Rattle.rule_laws.specs.Laws.{IsUnfolded, AreUnfolded, placed, HasItsPlace}
use Rattle.rule_laws.proofs.Callees.{GoesDown, each_site, each_call, each_import, where_is_named}
use Rattle.rule_laws.proofs.Lists.{all_flat}
use Rattle.rule_laws.proofs.Unfolded.{component_within, each_unfolded}
use Rattle.clock_laws.specs.Laws.{EachWellMade}
use Rattle.clock_laws.proofs.Circles.{placed_texts}
use Rattle.clock_laws.proofs.CleanAll.{clean_texts}
use Rattle.clock_laws.proofs.Clocks.{placed_of, clocked_tree, IsFaultless, faultless, unfolded_same, declared_at}
use Rattle.clock_laws.proofs.Lefts.{distinct_parts, not_in_both, lefts_apart, left_definable, variables_apart, lefts_distinct}
use Rattle.clock_laws.proofs.OrderLaws.{names_distinct, no_left_fault}
use Rattle.rule_laws.proofs.Goods.{all_of_each}
use Rattle.clock_laws.proofs.Sites.{CalleeOf, NumbersFit, SiteFit, all_sites_fit, side_counted}
use Rattle.clock_laws.proofs.Walk.{at_whole}

abbrev names_of : List Variable → List Name
names_of vs = map (λ v. v.name.text) vs

abbrev ghost_words : Component → List Name
ghost_words n = names_of (ghosts (contract_statements n))

-- ---- names that are given, and left names

module _ (n : Component) (distinct : AreDistinct (map (λ v. v.name.text) (variables n))) where
  apart : AreDistinct (names_of n.inputs ++ (definable n ++ ghost_words n))
  apart = subst AreDistinct (variables_apart n) distinct

  -- a left name is one that may be defined, or a ghost variable
  left_either : ((z : Name) → named_in z (map text_of (body_lefts n)) ≡ true → named_in z (definable n) ≡ true) → (z : Name)
      → named_in z (left_names n) ≡ true → named_in z (definable n ++ ghost_words n) ≡ true
  left_either f z e = named_append z (definable n) (ghost_words n) ∙ go (named_either z (ghost_words n) (map text_of (body_lefts n))
      (subst (λ xs. named_in z xs ≡ true) (lefts_apart n) e))
    where
      go : (named_in z (ghost_words n) ≡ true) ⊎ (named_in z (map text_of (body_lefts n)) ≡ true)
          → (named_in z (definable n) || named_in z (ghost_words n)) ≡ true
      go (inl a) = or_true (named_in z (definable n)) (named_in z (ghost_words n)) a
      go (inr a) = or_left (named_in z (definable n)) (named_in z (ghost_words n)) (f z a)

  declared_input : (z : Name) → named_in z (names_of n.inputs) ≡ true → named_in z (names_of (variables n)) ≡ true
  declared_input z e = subst (λ xs. named_in z xs ≡ true) (sym (variables_apart n)) (named_append z (names_of n.inputs) (definable n ++ ghost_words n)
      ∙ or_left (named_in z (names_of n.inputs)) _ e)

  declared_else : (z : Name) → named_in z (definable n ++ ghost_words n) ≡ true → named_in z (names_of (variables n)) ≡ true
  declared_else z e = subst (λ xs. named_in z xs ≡ true) (sym (variables_apart n)) (named_append z (names_of n.inputs) (definable n ++ ghost_words n)
      ∙ or_true (named_in z (names_of n.inputs)) _ e)

  not_named : (z : Name) (xs ys : List Name) → ((w : Name) → named_in w ys ≡ true → named_in w xs ≡ true) → named_in z xs ≡ false → named_in z ys ≡ false
  not_named z xs ys f e = go (named_in z ys) refl
    where
      go : (b : Bool) → named_in z ys ≡ b → named_in z ys ≡ false
      go true h = absurd (false≢true (sym e ∙ f z h))
      go false h = h

  module _ (lefts : AreDistinct (left_names n)) (f : (z : Name) → named_in z (map text_of (body_lefts n)) ≡ true → named_in z (definable n) ≡ true) where
    inputs_apart : AreDistinct (names_of n.inputs ++ left_names n)
    inputs_apart = distinct_parts (names_of n.inputs) (left_names n) (distinct_left (names_of n.inputs) (definable n ++ ghost_words n) apart) lefts
        (λ z h. not_named z (definable n ++ ghost_words n) (left_names n) (left_either f) (not_in_both z (names_of n.inputs) (definable n ++
        ghost_words n) apart h))

    inputs_declared : AllByRecursion (λ x. named_in x (names_of (variables n)) ≡ true) (names_of n.inputs ++ left_names n)
    inputs_declared = all_named (λ x. named_in x (names_of (variables n)) ≡ true) (names_of n.inputs ++ left_names n)
        (λ x h. go x (named_either x (names_of n.inputs) (left_names n) h))
      where
        go : (x : Name) → (named_in x (names_of n.inputs) ≡ true) ⊎ (named_in x (left_names n) ≡ true) → named_in x (names_of (variables n)) ≡ true
        go x (inl a) = declared_input x a
        go x (inr a) = declared_else x (left_either f x a)

    lefts_declared : AllByRecursion (λ x. named_in x (names_of (variables n)) ≡ true) (left_names n)
    lefts_declared = all_named (λ x. named_in x (names_of (variables n)) ≡ true) (left_names n) (λ x h. declared_else x (left_either f x h))

-- of a contract node, whose caller gives the outputs too
contract_lefts : (n : Component) → n.body ≡ [] → left_names n ≡ ghost_words n
contract_lefts n e = lefts_apart n ∙ ap (λ xs. ghost_words n ++ map text_of (flat_map (λ ys. ys) (body_sides xs))) e ∙ append_none (ghost_words n)

contract_variables : (n : Component) → n.locals ≡ [] → names_of (variables n) ≡ (names_of n.inputs ++ names_of n.outputs) ++ ghost_words n
contract_variables n e = variables_apart n ∙ ap (λ xs. names_of n.inputs ++ (xs ++ ghost_words n)) (ap (λ vs. names_of (n.outputs ++ vs)) e
    ∙ ap names_of (append_none n.outputs)) ∙ sym (append_assoc (names_of n.inputs) (names_of n.outputs) (ghost_words n))

contract_is : (ds : Program) (x : Name) (m : Component) → AllByRecursion IsGrammaticalDeclaration ds → component_where false ds x ≡ Some m → IsContractNode m
contract_is [] x m a e = absurd (false≢true (ap is_there e))
  where
    is_there : Option Component → Bool
    is_there None = false
    is_there (Some n) = true
contract_is (declared_constant c ∷ ds) x m a e = contract_is ds x m a.1 e
contract_is (declared_node n ∷ ds) x m a e = go (bytes_eq x n.name.text) e (contract_is ds x m a.1)
  where
    is_there : Option Component → Bool
    is_there None = false
    is_there (Some n) = true

    go : (c : Bool) → cond c None (component_where false ds x) ≡ Some m → (component_where false ds x ≡ Some m → IsContractNode m) → IsContractNode m
    go true h r = absurd (false≢true (ap is_there h))
    go false h r = r h
contract_is (declared_contract n ∷ ds) x m a e = go (bytes_eq x n.name.text) e (contract_is ds x m a.1)
  where
    the_node : Option Component → Component
    the_node None = n
    the_node (Some k) = k

    go : (c : Bool) → cond c (Some n) (component_where false ds x) ≡ Some m → (component_where false ds x ≡ Some m → IsContractNode m) → IsContractNode m
    go true h r = subst IsContractNode (ap the_node h) a.0.1
    go false h r = r h

-- ---- equations

module _ (p : Program) (k : ℕ) (i : Instance) where
  abbrev here : Component
  here = component_of i

  abbrev PlacedText : Text → Type 0
  PlacedText x = Each (λ o. AllByRecursion (λ d. HasItsPlace i (node_named p d.callee) d) (site_in o.standing o.expression)) (component_of i) x.0 x.1

  abbrev pub EquationMade : Equation → Type 0
  EquationMade e = (b : Instants) (f : Frame) → length (right_values (scene i b f) (clock_of_names (component_of i) e.names) e.right) ≡ length e.names

  mapped_names : (xs : List Spelled) → length (map text_of xs) ≡ length xs
  mapped_names [] = refl
  mapped_names (x ∷ xs) = ap suc (mapped_names xs)

  top_right : (sc : Scope) → sc.owner ≡ here → (t : Standing) (e : Expression) → expression_faults sc t e ≡ [] → part_faults sc (occurs t e) ≡ []
  top_right sc o t e h = at_whole (λ u. part_faults sc u ≡ []) here t e (each_part (λ u. part_faults sc u ≡ []) here t e
      (none_mapped (part_faults sc) (occurrences here t e) (subst (λ n. flat_map (part_faults sc) (occurrences n t e) ≡ []) o h)))

  ghosts_made : (before cs : List ContractStatement) → contract_faults (home p k (component_of i)) before cs ≡ [] → AllByRecursion PlacedText
      (flat_map contract_statement_texts cs) → AllByRecursion EquationMade (ghost_equations cs)
  ghosts_made before [] q a = tt
  ghosts_made before (assume l ∷ cs) q a = ghosts_made (before ++ assume l ∷ []) cs (no_parts _ (contract_faults (home p k here) (before ++ assume l ∷
      []) cs) q).1 a.1
  ghosts_made before (guarantee l ∷ cs) q a = ghosts_made (before ++ guarantee l ∷ []) cs
      (no_parts _ (contract_faults (home p k here) (before ++ guarantee l ∷ []) cs) q).1 a.1
  ghosts_made before (ghost_variable v e ∷ cs) q a =
      let sc : Scope = contract_statement_scope (home p k here) before in
      let z = no_parts (contract_statement_faults sc (ghost_variable v e)) (contract_faults (home p k here) (before ++ ghost_variable v e ∷ []) cs) q in
      let two = no_parts _ (expression_faults sc (as_side base) e) z.0 in (
        (λ b f. side_counted p i sc refl (v.name ∷ []) (as_side base) e (no_parts _ (sides_fit sc (v.name ∷ []) e) two.0).1
            (top_right sc refl (as_side base) e two.1)
            (at_whole (λ o. AllByRecursion (λ d. HasItsPlace i (node_named p d.callee) d) (site_in o.standing o.expression)) here (as_side base) e a.0)
            (scene i b f) refl (clock_of_names here (v.name.text ∷ []))),
        ghosts_made (before ++ ghost_variable v e ∷ []) cs z.1 a.1,
      )
  ghosts_made before (constant c ∷ cs) q a = ghosts_made (before ++ constant c ∷ []) cs (no_parts _ (contract_faults (home p k here) (before ++
      constant c ∷ []) cs) q).1 a.1
  ghosts_made before (mode m rs es ∷ cs) q a = ghosts_made (before ++ mode m rs es ∷ []) cs
      (no_parts _ (contract_faults (home p k here) (before ++ mode m rs es ∷ []) cs) q).1
      (right_part PlacedText (on_base rs ++ on_base es) (flat_map contract_statement_texts cs) a)
  ghosts_made before («import» j c as_ xs ∷ cs) q a = ghosts_made (before ++ «import» j c as_ xs ∷ []) cs
      (no_parts _ (contract_faults (home p k here) (before ++ «import» j c as_ xs ∷ []) cs) q).1
      (right_part PlacedText (map (λ e. (on_clock base, e)) as_) (flat_map contract_statement_texts cs) a)

  body_made : (xs : List Statement) → flat_map (statement_faults (body_scope (home p k (component_of i)))) xs ≡ [] → AllByRecursion PlacedText
      (flat_map (statement_texts (component_of i)) xs) → AllByRecursion EquationMade (body_equations xs)
  body_made [] q a = tt
  body_made (equation xs e ∷ ss) q a =
      let sc : Scope = body_scope (home p k here) in
      let t : Standing = as_side (clock_of_names here (map text_of xs)) in
      let z = no_parts (statement_faults sc (equation xs e)) (flat_map (statement_faults sc) ss) q in
      let two = no_parts _ (expression_faults sc t e) z.0 in (
        (λ b f. side_counted p i sc refl xs t e (no_parts _ (sides_fit sc xs e) two.0).1 (top_right sc refl t e two.1)
            (at_whole (λ o. AllByRecursion (λ d. HasItsPlace i (node_named p d.callee) d) (site_in o.standing o.expression)) here t e a.0)
            (scene i b f) refl (clock_of_names here (map text_of xs)) ∙ sym (mapped_names xs)),
        body_made ss z.1 a.1,
      )
  body_made (assertion e ∷ ss) q a = body_made ss (no_parts _ (flat_map (statement_faults (body_scope (home p k here))) ss) q).1 a.1
  body_made (property l ∷ ss) q a = body_made ss (no_parts _ (flat_map (statement_faults (body_scope (home p k here))) ss) q).1 a.1
  body_made (main_mark w ∷ ss) q a = body_made ss q a

  pub equations_made : IsFaultless p k (component_of i) → AllByRecursion PlacedText (texts (component_of i))
      → AllByRecursion EquationMade (equations (component_of i))
  equations_made f a =
      let cs : List ContractStatement = contract_statements here in
      let behind : AllByRecursion PlacedText (constant_texts here.constants ++ flat_map (statement_texts here) here.body) = right_part PlacedText
      (flat_map contract_statement_texts cs) (constant_texts here.constants ++ flat_map (statement_texts here) here.body) a in
      both_parts EquationMade (ghost_equations cs) (body_equations here.body)
      (ghosts_made [] cs f.contract (left_part PlacedText (flat_map contract_statement_texts cs) _ a))
      (body_made here.body f.statements (right_part PlacedText (constant_texts here.constants) (flat_map (statement_texts here) here.body) behind))

-- ---- instances

module _ (p : Program) (c : IsChecked p) where
  abbrev IsCalleeOf : Site → Type 0
  IsCalleeOf s = CalleeOf p s.manner s.callee ≡ component_named p s.callee

  called_here : (t : Standing) (e : Expression) → AllByRecursion (λ s. is_declared (node_named p s.callee) ≡ true) (site_in t e)
      → AllByRecursion IsCalleeOf (site_in t e)
  called_here t (call q k f as_) a = (where_is_named true p f.text a.0, tt)
  called_here t (condact q k b f as_ ds) a = (where_is_named true p f.text a.0, tt)
  called_here t (truth q b) a = tt
  called_here t (number q b) a = tt
  called_here t (name q b) a = tt
  called_here t (negation q b) a = tt
  called_here t (minus q b) a = tt
  called_here t (pre q j b) a = tt
  called_here t (arrow q j b d) a = tt
  called_here t (binary q j b d) a = tt
  called_here t (choice q b d e) a = tt
  called_here t (sampled q b d e) a = tt
  called_here t (merged q b d e) a = tt
  called_here t (mode_name q b d) a = tt

  imported_here : (cs : List ContractStatement) → AllByRecursion (λ s. is_declared (contract_named p s.callee) ≡ true) (flat_map import_site cs)
      → AllByRecursion
      IsCalleeOf (flat_map import_site cs)
  imported_here [] a = tt
  imported_here (assume l ∷ cs) a = imported_here cs a
  imported_here (guarantee l ∷ cs) a = imported_here cs a
  imported_here (ghost_variable v e ∷ cs) a = imported_here cs a
  imported_here (constant x ∷ cs) a = imported_here cs a
  imported_here (mode m rs es ∷ cs) a = imported_here cs a
  imported_here («import» k f as_ xs ∷ cs) a = (where_is_named false p f.text a.0, imported_here cs a.1)

  callees_of : (n : Component) → Contains (components p) n → AllByRecursion IsCalleeOf (all_sites n)
  callees_of n j =
      let calls : AllByRecursion (λ o. AllByRecursion IsCalleeOf (site_in o.standing o.expression)) (all_occurrences n) =
      all_from (λ o. AllByRecursion (λ s. is_declared (node_named p s.callee) ≡ true) (site_in o.standing o.expression))
      (λ o. AllByRecursion IsCalleeOf (site_in o.standing o.expression)) (λ o a. called_here o.standing o.expression a) (all_occurrences n)
      (all_of_each (λ s. is_declared (node_named p s.callee) ≡ true) (λ o. site_in o.standing o.expression) (all_occurrences n)
      (each_call p c.rules.clocked.typed n j)) in
      in_order_all (λ s. s.number) IsCalleeOf (gathered site_in n ++ flat_map import_site (contract_statements n))
      (both_parts IsCalleeOf (gathered site_in n) (flat_map import_site (contract_statements n))
      (all_flat IsCalleeOf (λ o. site_in o.standing o.expression) (all_occurrences n) calls)
      (imported_here (contract_statements n) (each_import p c.rules.clocked.typed n j)))

  -- the names that a caller gives, and the left names
  record GivenRight (given : List Name) (n : Component) : Type 0 where
    once : AreDistinct (given ++ left_names n)
    declared : AllByRecursion (λ x. named_in x (map (λ v. v.name.text) (variables n)) ≡ true) (given ++ left_names n)

  inputs_given : (n : Component) → Contains (components p) n → GivenRight (map (λ v. v.name.text) n.inputs ++ []) n
  inputs_given n j =
      let d : AreDistinct (names_of (variables n)) = names_distinct p c.rules.clocked.typed n j in
      let l : AreDistinct (left_names n) = lefts_distinct n d (no_left_fault p c n j) in
      subst (λ xs. GivenRight xs n) (sym (append_none (names_of n.inputs))) record {
        once = inputs_apart n d l (left_definable n (no_left_fault p c n j));
        declared = inputs_declared n d l (left_definable n (no_left_fault p c n j));
      }

  contract_given : (n : Component) → Contains (components p) n → IsContractNode n
      → GivenRight (map (λ v. v.name.text) n.inputs ++ map (λ v. v.name.text) n.outputs) n
  contract_given n j k =
      let same : names_of (variables n) ≡ (names_of n.inputs ++ names_of n.outputs) ++ left_names n = contract_variables n k.locals
      ∙ ap (λ xs. (names_of n.inputs ++ names_of n.outputs) ++ xs) (sym (contract_lefts n k.body)) in
      record {
        once = subst AreDistinct same (names_distinct p c.rules.clocked.typed n j);
        declared = subst (λ xs. AllByRecursion (λ x. named_in x (names_of (variables n)) ≡ true) xs) same
            (all_named (λ x. named_in x (names_of (variables n)) ≡ true) (names_of (variables n)) (λ x h. h));
      }

  given_right : (d : Site) (k : Instance) → Contains (components p) (component_of k) → (w : Manner) → CalleeOf p w d.callee ≡ Some (component_of k)
      → GivenRight
      (inputs_of k ++ outputs_given w (outputs_of k)) (component_of k)
  given_right d k j plain e = inputs_given (component_of k) j
  given_right d k j (while_true a) e = inputs_given (component_of k) j
  given_right d k j (as_import xs) e = contract_given (component_of k) j (contract_is p d.callee (component_of k) c.grammatical e)

  counted : (d : Site) (k : Instance) (w : Manner) (as_ : List Expression) → NumbersFit w as_ (component_of k) → length as_ ≡ length (inputs_of k)
  counted d k plain as_ h = h ∙ sym (many (component_of k).inputs)
    where
      many : (vs : List Variable) → length (map (λ v. v.name.text) vs) ≡ length vs
      many [] = refl
      many (v ∷ vs) = ap suc (many vs)
  counted d k (while_true a) as_ h = h ∙ sym (many (component_of k).inputs)
    where
      many : (vs : List Variable) → length (map (λ v. v.name.text) vs) ≡ length vs
      many [] = refl
      many (v ∷ vs) = ap suc (many vs)
  counted d k (as_import xs) as_ h = h.0 ∙ sym (many (component_of k).inputs)
    where
      many : (vs : List Variable) → length (map (λ v. v.name.text) vs) ≡ length vs
      many [] = refl
      many (v ∷ vs) = ap suc (many vs)

  shares : (k : Instance) (w : Manner) (as_ : List Expression) → NumbersFit w as_ (component_of k) → SharesArity w (outputs_of k)
  shares k plain as_ h = tt
  shares k (while_true a) as_ h = tt
  shares k (as_import xs) as_ h = h.1 ∙ sym (many (component_of k).outputs)
    where
      many : (vs : List Variable) → length (map (λ v. v.name.text) vs) ≡ length vs
      many [] = refl
      many (v ∷ vs) = ap suc (many vs)

  fits_callee : (s : Site) (m : Component) → SiteFit p s → CalleeOf p s.manner s.callee ≡ Some m → NumbersFit s.manner s.arguments m
  fits_callee s m h e = subst (λ o. SomeFits s.manner s.arguments o) e h
    where
      SomeFits : Manner → List Expression → Option Component → Type 0
      SomeFits w as_ None = Unit {0}
      SomeFits w as_ (Some n) = NumbersFit w as_ n

  mutual
    made : (i : Instance) → IsUnfolded p i → Contains (components p) (component_of i) → (given : List Name) → GivenRight given (component_of i)
        → (m : ℕ) (x : Frame)
        → ChoicesFrom i given m x → IsWellMade i given x
    made (instance n cs is) u j given g m x h =
        let i : Instance = instance n cs is in
        let at : (k : ℕ) × Contains (placed 0 p) (k, n) = placed_of 0 p n j in
        let f : IsFaultless p at.0 n = faultless p (clocked_tree p c) at.0 n j at.1 in (
          g.once,
          g.declared,
          equations_made p at.0 i f (placed_texts p c i j (unfolded_same p c i u j)),
          h.0,
          calls_made n (all_sites n) is u.1 (each_site p c.rules.clocked.typed n j) (all_sites_fit p at.0 n (clean_texts p at.0 n f) f.contract)
              (callees_of n j)
              m (frame_at (calls_in x)) h.2,
        )

    calls_made : (n : Component) (ss : List Site) (is : Instances) → AreUnfolded p ss is → AllByRecursion (λ s. GoesDown p n s.callee) ss → AllByRecursion
        (SiteFit p) ss → AllByRecursion (λ s. CalleeOf p s.manner s.callee ≡ component_named p s.callee) ss → (m : ℕ) (g : ℕ → Frame) → CallsFit is m g
        → CallsWellMade is g
    calls_made n ss no_instances u a b d m g h = tt
    calls_made n [] (with_instance t k is) u a b d m g h = absurd u
    calls_made n (s ∷ ss) (with_instance t k is) u a b d m g h =
        let j : Contains (components p) (component_of k) = declared_at p c n s k a.0 u.1 in
        let e : CalleeOf p s.manner s.callee ≡ Some (component_of k) = d.0 ∙ u.1 in
        let fit : NumbersFit s.manner s.arguments (component_of k) = fits_callee s (component_of k) b.0 e in
        let given : GivenRight (from_caller s k) (component_of k) = given_right s k j s.manner e in (
          subst (λ z. length z.arguments ≡ length (inputs_of k)) (sym u.0) (counted s k s.manner s.arguments fit),
          subst (λ z. SharesArity z.manner (outputs_of k)) (sym u.0) (shares k s.manner s.arguments fit),
          made k u.2 j (from_caller t k) (subst (λ z. GivenRight (from_caller z k) (component_of k)) (sym u.0) given) m (g 0) h.0,
          calls_made n ss is u.3 a.1 b.1 d.1 m (λ l. g (suc l)) h.1,
        )

-- ---- the law

pub each_well_made : EachWellMade
each_well_made p c n j m x h =
    let i : Instance = instance_of p n in
    let here : Contains (components p) (component_of i) = subst (Contains (components p)) (sym (component_within _ p n)) j in
    let d : AreDistinct (names_of (variables (component_of i))) = names_distinct p c.rules.clocked.typed (component_of i) here in
    let l : AreDistinct (left_names (component_of i)) = lefts_distinct (component_of i) d (no_left_fault p c (component_of i) here) in
    made p c i (each_unfolded p c n j) here [] record {
      once = l;
      declared = lefts_declared (component_of i) d l (left_definable (component_of i) (no_left_fault p c (component_of i) here));
    } m x h
