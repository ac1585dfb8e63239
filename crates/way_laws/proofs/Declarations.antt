-- What a name of a declaration reads in the own graph stands for what it needs in the tree.
use Rattle.std.proofs.Common.{option_map, ◌≡◌, ℕ, Bool, true, false, cond, List, [], ◌∷◌, ◌++◌, map, flat_map, refl, sym, ap, ◌∙◌, subst, Option, Some, None}
use Rattle.std.specs.Prelude.{Contains, find, is_none, unwrap_or}
use Rattle.std.specs.List.{AllByRecursion, list_all}
use Rattle.std.specs.Str.{bytes_eq}
use Rattle.std.proofs.Math.Logic.{inl, inr}
use Rattle.std.proofs.lemmas.Bool.{false≢true}
use Rattle.lus_tree.specs.Reason.{name_twice}
use Rattle.lus_tree.specs.Tree.{Name, Spelled, text_of, Expression, Variable, Statement, equation, assertion, property, main_mark, ContractStatement, assume, guarantee, ghost_variable, constant, mode, «import», Component, Program}
use Rattle.lus_meaning.specs.Scene.{Clock, base, Site, Instance, component_of, contract_statements, ghosts, variables, clock_from, clock_of, clock_of_names}
use Rattle.lus_meaning.specs.Program.{site_in, import_site, instance_of}
use Rattle.lus_meaning.specs.Run.{Equation, equations, ghost_equations, body_equations}
use Rattle.lus_meaning.specs.Occurrences.{as_side, occurrences, all_occurrences, gathered, Text, texts, constant_texts, contract_statement_texts, statement_texts}
use Rattle.lus_meaning.specs.Depends.{Need, clock_needs, modes_need, known_needs, named_in}
use Rattle.lus_meaning.specs.Cycle.{declared_needs, equation_step, defined_needs, own_needs}
use Rattle.lus_meaning.specs.Scope.{Scope, node_named, contract_named, mode_names, import_names, body_scope}
use Rattle.lus_meaning.specs.ExpressionFaults.{expression_faults, sides_fit}
use Rattle.lus_meaning.specs.Faults.{words_twice}
use Rattle.lus_meaning.specs.NameFaults.{own_words, home, contract_faults, statement_faults, body_faults, local_constant_faults, constant_words, labels_twice, mode_words, outer_twice}
use Rattle.lus_meaning.specs.ClockFaults.{components}
use Rattle.lus_meaning.specs.EquationFaults.{clock_names}
use Rattle.lus_meaning.specs.Grammatical.{has_left_name, have_no_clock, ghost_names, IsGrammatical, IsGrammaticalComponent}
use Rattle.lus_meaning.specs.Refusals.{IsTyped}
use Rattle.lus_meaning.specs.WellMade.{AreDistinct}
use Rattle.lus_meaning.proofs.Members.{IsIn, in_right}
use Rattle.lus_meaning.proofs.EachPart.{each_part}
use Rattle.lus_meaning.proofs.Exists.{self_bytes}
use Rattle.lus_meaning.proofs.Lists.{all_from, both_parts, or_left, or_true}
use Rattle.lus_meaning.proofs.NamesOnce.{no_parts, at_one, Clean, all_clean}
use Rattle.lus_meaning.proofs.Now.{left_part, right_part}
use Rattle.lus_meaning.proofs.Unique.{same_bytes}
use Rattle.rule_laws.proofs.Places.{all_grammatical}
use Rattle.clock_laws.proofs.Contracts.{side_top}
use Rattle.clock_laws.proofs.OrderLaws.{names_distinct}
use Rattle.clock_laws.proofs.Texts.{HasOutputs, TopFits}
use Rattle.way_laws.specs.OwnGraph.{Summaries, known_reads, mode_reads, declared_reads, equation_reads, defined_reads, own_edges}
use Rattle.way_laws.specs.Summaries.{CalleesExact}
use Rattle.way_laws.proofs.Steps.{Fits, fits_none, fits_both, fits_clock}
use Rattle.way_laws.proofs.Expressions.{CallReady, fits_there}
use Rattle.way_laws.proofs.Placed.{SitePlaced, calls_placed, imports_placed, ready_call}
use Rattle.way_laws.proofs.Keys.{GoodKey, good_fits, Known, known_none}
use Rattle.way_laws.proofs.Texts.{CallsPlaced, EachPlaced, Knows, text_ready, known_good, key_of}
use Rattle.way_laws.specs.Modes.{ReadAsAsked}
use Rattle.way_laws.proofs.Walk.{all_modes, GhostFits, Walked, walk}
use Rattle.way_laws.proofs.Lists.{all_parts, all_true, both_true}

-- ---- faults that are not there

pub record IsRight (p : Program) (k : ℕ) (n : Component) : Type 0 where
  pub contract : contract_faults (home p k n) [] (contract_statements n) ≡ []
  pub statements : flat_map (statement_faults (body_scope (home p k n))) n.body ≡ []

right_declaration : (p : Program) (n : Component) (c : Clean p n) → IsRight p c.0 n
right_declaration p n (k, e) =
    let rest = (no_parts (labels_twice n) _ (no_parts (words_twice name_twice (mode_words (contract_statements n))) _
    (no_parts (outer_twice (constant_words p) (own_words n)) _ (no_parts (words_twice name_twice (own_words n)) _ e).1).1).1).1 in
    let contract = no_parts (contract_faults (home p k n) [] (contract_statements n)) _ rest in
    let bodies : body_faults (home p k n) ≡ [] = (no_parts (body_faults (home p k n)) _ contract.1).0 in
    record {
      contract = contract.0;
      statements = (no_parts (local_constant_faults (home p k n) 0 n.constants) _ (no_parts _
          (local_constant_faults (home p k n) 0 n.constants ++ flat_map (statement_faults (body_scope (home p k n))) n.body) bodies).1).1;
    }

-- ---- ghost variables are on the base clock

each_of : {A : Type 0} (P : A → Type 0) (xs : List A) → ((x : A) → IsIn x xs → P x) → AllByRecursion P xs
each_of P [] f = tt
each_of P (x ∷ xs) f = (f x (inl refl), each_of P xs (λ y h. f y (inr h)))

abbrev pub names_in : List Variable → List Name
names_in vs = map (λ v. v.name.text) vs

named_of : (v : Variable) (vs : List Variable) → IsIn v vs → named_in v.name.text (names_in vs) ≡ true
named_of v [] h = absurd h
named_of v (w ∷ vs) (inl e) = or_left (bytes_eq v.name.text w.name.text) _ (subst (λ (u : Variable). bytes_eq v.name.text u.name.text ≡ true) e
    (self_bytes v.name.text))
named_of v (w ∷ vs) (inr h) = or_true (bytes_eq v.name.text w.name.text) _ (named_of v vs h)

pub find_distinct : (v : Variable) (vs : List Variable) → IsIn v vs → AreDistinct (names_in vs)
    → find (λ w. bytes_eq v.name.text w.name.text) vs ≡ Some v
find_distinct v [] h d = absurd h
find_distinct v (w ∷ vs) (inl e) d = ap (λ b. cond b (Some w) (find (λ u. bytes_eq v.name.text u.name.text) vs))
    (subst (λ (u : Variable). bytes_eq v.name.text u.name.text ≡ true) e (self_bytes v.name.text)) ∙ ap Some (sym e)
find_distinct v (w ∷ vs) (inr h) d = go (bytes_eq v.name.text w.name.text) refl (find_distinct v vs h d.1)
  where
    go : (b : Bool) → bytes_eq v.name.text w.name.text ≡ b → find (λ u. bytes_eq v.name.text u.name.text) vs ≡ Some v
        → cond b (Some w) (find (λ u. bytes_eq v.name.text u.name.text) vs) ≡ Some v
    go true e r = absurd (false≢true (sym d.0 ∙ subst (λ y. named_in y (names_in vs) ≡ true) (same_bytes v.name.text w.name.text e) (named_of v vs h)))
    go false e r = r

ghosts_are : (cs : List ContractStatement) → flat_map ghost_names cs ≡ ghosts cs
ghosts_are [] = refl
ghosts_are (assume l ∷ cs) = ghosts_are cs
ghosts_are (guarantee l ∷ cs) = ghosts_are cs
ghosts_are (ghost_variable v e ∷ cs) = ap (λ vs. v ∷ vs) (ghosts_are cs)
ghosts_are (constant c ∷ cs) = ghosts_are cs
ghosts_are (mode m rs es ∷ cs) = ghosts_are cs
ghosts_are («import» k c as_ xs ∷ cs) = ghosts_are cs

on_base : (c : Option (Bool × Spelled)) → is_none c ≡ true → clock_from c ≡ base
on_base None e = refl
on_base (Some c) e = absurd (false≢true e)

ghosts_on_base : (n : Component) → have_no_clock n ≡ true → AreDistinct (names_in (variables n))
    → AllByRecursion (λ v. clock_of n v.name.text ≡ base) (ghosts (contract_statements n))
ghosts_on_base n c d = each_of (λ v. clock_of n v.name.text ≡ base) (ghosts (contract_statements n)) (λ v h.
    ap (λ o. clock_from (unwrap_or (option_map (λ (w : Variable). w.clock) o) None))
    (find_distinct v (variables n) (in_right v (n.inputs ++ n.outputs ++ n.locals) (ghosts (contract_statements n)) h) d)
    ∙ on_base v.clock (all_true (λ w. is_none w.clock) v (n.inputs ++ (n.outputs ++ flat_map ghost_names (contract_statements n))) c
    (in_right v n.inputs _ (in_right v n.outputs _ (subst (IsIn v) (sym (ghosts_are (contract_statements n))) h)))))

-- ---- a declaration

module _ (p : Program) (grammatical : IsGrammatical p) (typed : IsTyped p) (i : Instance) (same : i ≡ instance_of p (component_of i))
    (d : Contains (components p) (component_of i)) (g : Summaries) (exact : CalleesExact p (component_of i) g) where
  abbrev here : Component
  here = component_of i

  ready : (s : Site) → SitePlaced p i g (node_named p s.callee) s → HasOutputs (node_named p s.callee) → CallReady i g s
  ready = subst (λ k. (s : Site) → SitePlaced p k g (node_named p s.callee) s → HasOutputs (node_named p s.callee) → CallReady k g s) (sym same)
      (ready_call p grammatical typed here d g exact)

  grammar : IsGrammaticalComponent here
  grammar = at_one IsGrammaticalComponent (components p) here (all_grammatical p grammatical) d

  clean : Clean p here
  clean = at_one (Clean p) (components p) here (all_clean p typed) d

  abbrev k : ℕ
  k = clean.0

  right : IsRight p k here
  right = right_declaration p here clean

  abbrev Placed : Text → Type 0
  Placed = EachPlaced p i g ready

  texts_placed : AllByRecursion Placed (texts here)
  texts_placed =
      let calls : AllByRecursion (λ s. SitePlaced p i g (node_named p s.callee) s) (gathered site_in here) =
      subst (λ j. AllByRecursion (λ s. SitePlaced p j g (node_named p s.callee) s) (gathered site_in here)) (sym same)
      (calls_placed p grammatical typed here d g exact) in
      let each : AllByRecursion (CallsPlaced p i g ready) (all_occurrences here) = all_parts (λ s. SitePlaced p i g (node_named p s.callee) s)
      (λ o. site_in o.standing o.expression) (all_occurrences here) calls in
      all_from (λ x. AllByRecursion (CallsPlaced p i g ready) (occurrences here x.0 x.1)) Placed
      (λ x a. each_part (CallsPlaced p i g ready) here x.0 x.1 a) (texts here)
      (all_parts (CallsPlaced p i g ready) (λ x. occurrences here x.0 x.1) (texts here) each)

  walked : Walked p k i g ready [] (contract_statements here) [] []
  walked = walk p k i g ready [] (contract_statements here) [] [] (known_none i p) right.contract
      (left_part Placed (flat_map contract_statement_texts (contract_statements here)) _ texts_placed)
      (subst (λ j. AllByRecursion (λ s. SitePlaced p j g (contract_named p s.callee) s) (flat_map import_site (contract_statements here))) (sym same)
      (imports_placed p grammatical typed here d g exact))
      (ghosts_on_base here grammar.clocks (names_distinct p typed here d)) (all_modes i) refl

  known_all : Known i p (mode_names (contract_statements here)) (import_names (contract_statements here)) (modes_need i) (mode_reads here g)
  known_all = subst (λ ms. Known i p (mode_names (contract_statements here)) (import_names (contract_statements here)) ms (mode_reads here g))
      (sym (all_modes i)) walked.known_all

  pub modes_asked : ReadAsAsked here g (mode_reads here g) [] [] (contract_statements here)
  modes_asked = walked.asked

  -- what a mode of the contract reads
  pub mode_fits : (m : Name) → named_in m (mode_names (contract_statements here)) ≡ true
      → Fits i (known_needs (modes_need i) ([], m)) (known_reads (mode_reads here g) ([], m))
  mode_fits m e = good_fits i (modes_need i) (mode_reads here g) ([], m) (known_all.by_name m e)

  -- ---- the equations of the body

  abbrev scope : Scope
  scope = body_scope (home p k here)

  knows_body : Knows p i g ready scope (modes_need i) (mode_reads here g)
  knows_body e x h b = go b
    where
      good : GoodKey i (modes_need i) (mode_reads here g) (key_of e x)
      good = known_good i p (mode_names (contract_statements here)) (import_names (contract_statements here)) (modes_need i) (mode_reads here g)
          known_all scope refl refl refl e x h

      go : (b : Bool) → Fits i (known_needs (cond b (modes_need i) (modes_need i)) (key_of e x)) (known_reads (mode_reads here g) (key_of e x))
      go true = good_fits i (modes_need i) (mode_reads here g) (key_of e x) good
      go false = good_fits i (modes_need i) (mode_reads here g) (key_of e x) good

  abbrev EquationFits : Equation → Type 0
  EquationFits = GhostFits p k i g ready

  top_fits : (xs : List Spelled) (e : Expression) → has_left_name (equation xs e) ≡ true → sides_fit scope xs e ≡ [] → TopFits p e
  top_fits [] e h f = absurd (false≢true h)
  top_fits (x ∷ xs) e h f = side_top scope x xs e f

  body_fits : (ss : List Statement) → flat_map (statement_faults scope) ss ≡ [] → AllByRecursion Placed (flat_map (statement_texts here) ss)
      → list_all has_left_name ss ≡ true → AllByRecursion EquationFits (body_equations ss)
  body_fits [] h a l = tt
  body_fits (assertion e ∷ ss) h a l = body_fits ss (no_parts (statement_faults scope (assertion e)) _ h).1 a.1 l
  body_fits (property r ∷ ss) h a l = body_fits ss (no_parts (statement_faults scope (property r)) _ h).1 a.1 l
  body_fits (main_mark q ∷ ss) h a l = body_fits ss (no_parts (statement_faults scope (main_mark q)) _ h).1 a l
  body_fits (equation xs e ∷ ss) h a l =
      let z = no_parts (statement_faults scope (equation xs e)) _ h in
      let c : Clock = clock_of_names here (map text_of xs) in
      let q = no_parts _ (expression_faults scope (as_side c) e) z.0 in
      let left : has_left_name (equation xs e) ≡ true = (both_true (has_left_name (equation xs e)) (list_all has_left_name ss) l).0 in
      let sides : sides_fit scope xs e ≡ [] = (no_parts _ (sides_fit scope xs e) q.0).1 in (
        fits_there i g (modes_need i) (mode_reads here g) true e (as_side c) (text_ready p i g ready scope refl refl (modes_need i) (mode_reads here g)
            knows_body (as_side c) e q.1 (λ _. top_fits xs e left sides) a.0),
        body_fits ss z.1 a.1 (both_true (has_left_name (equation xs e)) (list_all has_left_name ss) l).1,
      )

  equations_fit : AllByRecursion EquationFits (equations here)
  equations_fit = both_parts EquationFits (ghost_equations (contract_statements here)) (body_equations here.body) walked.ghosts_fit
      (body_fits here.body right.statements (right_part Placed (constant_texts here.constants) (flat_map (statement_texts here) here.body)
      (right_part Placed (flat_map contract_statement_texts (contract_statements here)) _ texts_placed)) grammar.lefts)

  -- ---- names

  fits_where : (b : Bool) (ns : List Need) (zs : List Name) → Fits i ns zs → Fits i (cond b ns []) (cond b zs [])
  fits_where true ns zs f = f
  fits_where false ns zs f = fits_none i

  declared_fit : (x : Name) (vs : List Variable) → Fits i (flat_map (λ v. cond (bytes_eq x v.name.text) (clock_needs (clock_from v.clock)) []) vs)
      (flat_map (λ v. cond (bytes_eq x v.name.text) (clock_names (clock_from v.clock)) []) vs)
  declared_fit x [] = fits_none i
  declared_fit x (v ∷ vs) = fits_both i _ _ _ _ (fits_where (bytes_eq x v.name.text) _ _ (fits_clock i (clock_from v.clock))) (declared_fit x vs)

  all_declared_fit : (xs : List Name) → Fits i (flat_map (declared_needs here) xs) (flat_map (declared_reads here g) xs)
  all_declared_fit [] = fits_none i
  all_declared_fit (x ∷ xs) = fits_both i _ _ _ _ (declared_fit x (variables here)) (all_declared_fit xs)

  defined_fit : (x : Name) (es : List Equation) → AllByRecursion EquationFits es → Fits i (defined_needs i x es) (defined_reads here g x es)
  defined_fit x [] a = fits_none i
  defined_fit x (e ∷ es) a = fits_both i _ _ _ _ (fits_where (named_in x e.names) (equation_step i e) (equation_reads here g e)
      (fits_both i _ _ _ _ (all_declared_fit e.names) a.0)) (defined_fit x es a.1)

  -- the edges of a name stand for what it needs
  pub edges_fit : (x : Name) → Fits i (own_needs i x) (own_edges here g x)
  edges_fit x = fits_both i _ _ _ _ (declared_fit x (variables here)) (defined_fit x (equations here) equations_fit)
