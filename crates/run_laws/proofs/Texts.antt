-- In a typed frame of a declaration of a checked program each expression is good where it stands; so are the right sides
-- of equations, and what calls and imports are given.
use Rattle.std.proofs.Common.{◌≡◌, ℕ, zero, suc, ◌<◌, true, List, [], ◌∷◌, ◌++◌, map, flat_map, refl, sym, ap, ◌∙◌, subst, Bool, Option, Some, None, option_map, unwrap_or}
use Rattle.std.specs.Prelude.{Contains, find, is_none}
use Rattle.std.specs.List.{AllByRecursion}
use Rattle.std.specs.Str.{bytes_eq}
use Rattle.std.proofs.lemmas.Option.{none-some}
use Rattle.lus_tree.specs.Tree.{Name, Spelled, Expression, Expressions, truth, number, name, negation, minus, pre, arrow, binary, choice, sampled, merged, call, condact, mode_name, no_more, more, Variable, Statement, equation, assertion, property, main_mark, ContractStatement, assume, guarantee, ghost_variable, constant, mode, «import», Component, Program}
use Rattle.lus_meaning.specs.Value.{Instants}
use Rattle.lus_meaning.specs.Frame.{Frame}
use Rattle.lus_meaning.specs.Scene.{Clock, base, Site, Instance, Instances, no_instances, with_instance, component_of, instance_at, clock_from, clock_of, clock_of_names, contract_statements, ghosts, variables, is_on}
use Rattle.lus_meaning.specs.Meaning.{value}
use Rattle.lus_meaning.specs.Contract.{scene}
use Rattle.lus_meaning.specs.Program.{listed, site_in, import_site, all_sites, component_named, instance_of}
use Rattle.lus_meaning.specs.Run.{Equation, equations, ghost_equations, body_equations, sort_of, is_typed}
use Rattle.lus_meaning.specs.Occurrences.{Standing, on_clock, as_side, within, Occurrence, occurrences, Text, on_base, contract_statement_texts, statement_texts, constant_texts, texts, all_occurrences, gathered}
use Rattle.lus_meaning.specs.Scope.{contract_named}
use Rattle.lus_meaning.specs.ClockFaults.{components, name_clock}
use Rattle.lus_meaning.specs.Grammatical.{IsGrammaticalComponent, ghost_names}
use Rattle.lus_meaning.specs.Refusals.{IsChecked}
use Rattle.lus_meaning.proofs.EachPart.{Each, EachAmong, each_part}
use Rattle.lus_meaning.proofs.InOrder.{in_order_all}
use Rattle.lus_meaning.proofs.Lists.{all_from, both_parts}
use Rattle.lus_meaning.proofs.NamesOnce.{at_one}
use Rattle.lus_meaning.proofs.Now.{left_part, right_part}
use Rattle.rule_laws.specs.Laws.{IsUnfolded, AreUnfolded, site_at, HasItsPlace}
use Rattle.rule_laws.specs.Fitting.{OnBase, FitsThere}
use Rattle.rule_laws.specs.Declarations.{StreamFits, ImportFits, DeclarationFits}
use Rattle.rule_laws.specs.Types.{IsTypedFrame, IsTypedThere}
use Rattle.rule_laws.proofs.Goods.{expressions_fit, each_passes, without_clocks, all_of_each}
use Rattle.rule_laws.proofs.Items.{declarations_fit}
use Rattle.rule_laws.proofs.Lists.{all_flat}
use Rattle.rule_laws.proofs.Truths.{same_some}
use Rattle.rule_laws.proofs.TypedModes.{types_of_values}
use Rattle.clock_laws.proofs.Clocks.{unfolded_same, imports_placed}
use Rattle.rule_laws.proofs.Covered.{all_contained}
use Rattle.rule_laws.proofs.Parts.{Whole, nested, all_parts}
use Rattle.clock_laws.proofs.Texts.{all_grammatical}
use Rattle.clock_laws.proofs.Walk.{at_whole}
use Rattle.run_laws.proofs.Sources.{Good, SiteFits, IsCallee}

-- ---- clocks of streams

clock_is : (n : Component) (x : Name) (k : Clock) → name_clock n x ≡ Some k → k ≡ clock_of n x
clock_is n x k e = go (find (λ v. bytes_eq x v.name.text) (variables n)) e
  where
    go : (o : Option Variable) → option_map (λ v. clock_from v.clock) o ≡ Some k → k ≡ clock_from (unwrap_or (option_map (λ v. v.clock) o) None)
    go None h = absurd (none-some k h)
    go (Some v) h = sym (same_some h)

same_ghosts : (cs : List ContractStatement) → flat_map ghost_names cs ≡ ghosts cs
same_ghosts [] = refl
same_ghosts (assume l ∷ cs) = same_ghosts cs
same_ghosts (guarantee l ∷ cs) = same_ghosts cs
same_ghosts (ghost_variable x e ∷ cs) = ap (λ vs. x ∷ vs) (same_ghosts cs)
same_ghosts (constant c ∷ cs) = same_ghosts cs
same_ghosts (mode m rs es ∷ cs) = same_ghosts cs
same_ghosts («import» k c as_ xs ∷ cs) = same_ghosts cs

-- inputs, outputs and ghost variables stand on the base clock
record OthersOnBase (n : Component) : Type 0 where
  inputs : OnBase n.inputs
  outputs : OnBase n.outputs
  ghosts : OnBase (ghosts (contract_statements n))

others_on_base : (n : Component) → IsGrammaticalComponent n → OthersOnBase n
others_on_base n g =
    let none : Variable → Type 0 = λ v. is_none v.clock ≡ true in
    let all : AllByRecursion none (n.inputs ++ (n.outputs ++ flat_map ghost_names (contract_statements n))) =
    each_passes (λ v. is_none v.clock) (n.inputs ++ (n.outputs ++ flat_map ghost_names (contract_statements n))) g.clocks in
    let rest : AllByRecursion none (n.outputs ++ flat_map ghost_names (contract_statements n)) =
    right_part none n.inputs (n.outputs ++ flat_map ghost_names (contract_statements n)) all in
    record {
      inputs = without_clocks n.inputs (left_part none n.inputs (n.outputs ++ flat_map ghost_names (contract_statements n)) all);
      outputs = without_clocks n.outputs (left_part none n.outputs (flat_map ghost_names (contract_statements n)) rest);
      ghosts = without_clocks (ghosts (contract_statements n)) (subst (AllByRecursion none) (same_ghosts (contract_statements n))
          (right_part none n.outputs (flat_map ghost_names (contract_statements n)) rest));
    }

-- ---- right sides

module _ (P : Occurrence → Type 0) (n : Component) where
  abbrev pub RightHas : Equation → Type 0
  RightHas e = Each P n (as_side (clock_of_names n e.names)) e.right

  abbrev TextHas : Text → Type 0
  TextHas x = Each P n x.0 x.1

  ghosts_have : (cs : List ContractStatement) → AllByRecursion TextHas (flat_map contract_statement_texts cs)
      → AllByRecursion (λ v. clock_of n v.name.text ≡ base) (ghosts cs) → AllByRecursion RightHas (ghost_equations cs)
  ghosts_have [] a q = tt
  ghosts_have (assume l ∷ cs) a q = ghosts_have cs a.1 q
  ghosts_have (guarantee l ∷ cs) a q = ghosts_have cs a.1 q
  ghosts_have (ghost_variable x e ∷ cs) a q = (subst (λ k. Each P n (as_side k) e) (sym q.0) a.0, ghosts_have cs a.1 q.1)
  ghosts_have (constant c ∷ cs) a q = ghosts_have cs a.1 q
  ghosts_have (mode m rs es ∷ cs) a q = ghosts_have cs (right_part TextHas (on_base rs ++ on_base es) (flat_map contract_statement_texts cs) a) q
  ghosts_have («import» k c as_ xs ∷ cs) a q = ghosts_have cs
      (right_part TextHas (map (λ e. (on_clock base, e)) as_) (flat_map contract_statement_texts cs) a) q

  body_has : (ss : List Statement) → AllByRecursion TextHas (flat_map (statement_texts n) ss) → AllByRecursion RightHas (body_equations ss)
  body_has [] a = tt
  body_has (equation xs e ∷ ss) a = (a.0, body_has ss a.1)
  body_has (assertion e ∷ ss) a = body_has ss a.1
  body_has (property l ∷ ss) a = body_has ss a.1
  body_has (main_mark w ∷ ss) a = body_has ss a

  rights_have : AllByRecursion TextHas (texts n) → AllByRecursion (λ v. clock_of n v.name.text ≡ base) (ghosts (contract_statements n))
      → AllByRecursion RightHas (equations n)
  rights_have a q =
      let cs : List ContractStatement = contract_statements n in
      both_parts RightHas (ghost_equations cs) (body_equations n.body)
      (ghosts_have cs (left_part TextHas (flat_map contract_statement_texts cs) (constant_texts n.constants ++ flat_map (statement_texts n) n.body) a) q)
      (body_has n.body (right_part TextHas (constant_texts n.constants) (flat_map (statement_texts n) n.body)
      (right_part TextHas (flat_map contract_statement_texts cs) (constant_texts n.constants ++ flat_map (statement_texts n) n.body) a)))

-- ---- a declaration

module _ (p : Program) (c : IsChecked p) (i : Instance) (unfolded : IsUnfolded p i) (declared : Contains (components p) (component_of i)) where
  abbrev here : Component
  here = component_of i

  same : i ≡ instance_of p here
  same = unfolded_same p c i unfolded declared

  pub declaration : DeclarationFits i
  declaration = subst DeclarationFits (sym same) (declarations_fit p c here declared)

  clocks : OthersOnBase here
  clocks = others_on_base here (at_one IsGrammaticalComponent (components p) here (all_grammatical p c.grammatical) declared)

  pub is_callee : IsCallee i
  is_callee =
      let two : AllByRecursion (StreamFits i) (here.inputs ++ here.outputs) = left_part (StreamFits i) (here.inputs ++ here.outputs) here.locals
      (left_part (StreamFits i) (here.inputs ++ here.outputs ++ here.locals) (ghosts (contract_statements here)) declaration.streams) in
      record {
        inputs = left_part (StreamFits i) here.inputs here.outputs two;
        outputs = right_part (StreamFits i) here.inputs here.outputs two;
        inputs_on_base = clocks.inputs;
        outputs_on_base = clocks.outputs;
      }

  ghost_clocks : AllByRecursion (λ v. clock_of here v.name.text ≡ base) (ghosts (contract_statements here))
  ghost_clocks = go (ghosts (contract_statements here)) clocks.ghosts
      (right_part (StreamFits i) (here.inputs ++ here.outputs ++ here.locals) (ghosts (contract_statements here)) declaration.streams)
    where
      go : (vs : List Variable) → OnBase vs → AllByRecursion (StreamFits i) vs → AllByRecursion (λ v. clock_of here v.name.text ≡ base) vs
      go [] o a = tt
      go (v ∷ vs) o a = (
        sym (clock_is here v.name.text (clock_from v.clock) a.0.name.clock)
            ∙ ap (λ (k : Option (Bool × Spelled)). clock_from k) o.0,
        go vs o.1 a.1,
      )

  module _ (n : ℕ) (b : Instants) (f : Frame) (frame_typed : IsTypedFrame i n b f) where
    abbrev GoodHere : Occurrence → Type 0
    GoodHere = Good i n b f

    abbrev GoodText : Text → Type 0
    GoodText x = Each (Good i n b f) here x.0 x.1

    good_at : (o : Occurrence) → Contains (all_occurrences here) o → Good i n b f o
    good_at o h = record {
      fits = subst (λ k. FitsThere k o) (sym same) (expressions_fit p c here declared o h);
      typed = subst (λ k. IsTypedFrame k n b f → IsTypedThere k n b f o) (sym same)
          (λ q. types_of_values p c here declared n b f q o h) frame_typed;
    }

    good_texts : AllByRecursion GoodText (texts here)
    good_texts = all_from (λ x. AllByRecursion GoodHere (occurrences here x.0 x.1)) GoodText (λ x a. each_part GoodHere here x.0 x.1 a) (texts here)
        (all_of_each GoodHere (λ x. occurrences here x.0 x.1) (texts here) (all_contained GoodHere (all_occurrences here) good_at))

    pub good_rights : AllByRecursion (λ e. Each (Good i n b f) (component_of i) (as_side (clock_of_names (component_of i) e.names)) e.right)
        (equations (component_of i))
    good_rights = rights_have GoodHere here good_texts ghost_clocks

    -- ---- calls and imports

    abbrev ValueTyped : Clock → Expression → Type 0
    ValueTyped k a = (t : ℕ) → t < n → is_typed (sort_of i a) (is_on (scene i b f) k t) (value (scene i b f) k a t) ≡ true

    abbrev SiteHere : Site → Type 0
    SiteHere = SiteFits i n b f frame_typed

    listed_typed : (t : Standing) (as_ : Expressions) → EachAmong GoodHere here t as_ → AllByRecursion (ValueTyped t.clock) (listed as_)
    listed_typed t no_more g = tt
    listed_typed t (more a as_) g = ((at_whole GoodHere here t a g.0).typed, listed_typed t as_ g.1)

    site_fits : (t : Standing) (e : Expression) → Each GoodHere here t e → AllByRecursion SiteHere (site_in t e)
    site_fits t (call q k x as_) g = (
      record {
        number = g.0.fits.number;
        site = g.0.fits.site;
        arguments = g.0.fits.arguments;
        typed = listed_typed (within t) as_ g.1;
        outputs = tt;
        clock = tt;
      },
      tt,
    )
    site_fits t (condact q k a x as_ ds) g = (
      record {
        number = g.0.fits.0.number;
        site = g.0.fits.0.site;
        arguments = g.0.fits.0.arguments;
        typed = listed_typed (within t) as_ g.2;
        outputs = tt;
        clock = tt;
      },
      tt,
    )
    site_fits t (truth q a) g = tt
    site_fits t (number q a) g = tt
    site_fits t (name q a) g = tt
    site_fits t (negation q a) g = tt
    site_fits t (minus q a) g = tt
    site_fits t (pre q k a) g = tt
    site_fits t (arrow q k a d) g = tt
    site_fits t (binary q o a d) g = tt
    site_fits t (choice q a d e) g = tt
    site_fits t (sampled q a d x) g = tt
    site_fits t (merged q x a d) g = tt
    site_fits t (mode_name q d m) g = tt

    calls_fit : AllByRecursion SiteHere (gathered site_in here)
    calls_fit = all_flat SiteHere (λ o. site_in o.standing o.expression) (all_occurrences here)
        (all_from (Whole GoodHere here) (λ o. AllByRecursion SiteHere (site_in o.standing o.expression))
        (λ o a. site_fits o.standing o.expression a) (all_occurrences here)
        (all_flat (Whole GoodHere here) (λ x. occurrences here x.0 x.1) (texts here)
        (all_from GoodText (λ x. AllByRecursion (Whole GoodHere here) (occurrences here x.0 x.1))
        (λ x a. all_parts (Whole GoodHere here) here x.0 x.1 (nested GoodHere here x.0 x.1 a)) (texts here) good_texts)))

    arguments_typed : (as_ : List Expression) → AllByRecursion GoodText (map (λ a. (on_clock base, a)) as_) → AllByRecursion (ValueTyped base) as_
    arguments_typed [] a = tt
    arguments_typed (x ∷ as_) a = ((at_whole GoodHere here (on_clock base) x a.0).typed, arguments_typed as_ a.1)

    imports_fit : (cs : List ContractStatement) → AllByRecursion GoodText (flat_map contract_statement_texts cs)
        → AllByRecursion (ImportFits i) (flat_map import_site cs)
        → AllByRecursion (λ d. HasItsPlace i (contract_named p d.callee) d) (flat_map import_site cs)
        → AllByRecursion SiteHere (flat_map import_site cs)
    imports_fit [] a q h = tt
    imports_fit (assume l ∷ cs) a q h = imports_fit cs a.1 q h
    imports_fit (guarantee l ∷ cs) a q h = imports_fit cs a.1 q h
    imports_fit (ghost_variable x e ∷ cs) a q h = imports_fit cs a.1 q h
    imports_fit (constant x ∷ cs) a q h = imports_fit cs a.1 q h
    imports_fit (mode m rs es ∷ cs) a q h = imports_fit cs (right_part GoodText (on_base rs ++ on_base es) (flat_map contract_statement_texts cs) a) q h
    imports_fit («import» k x as_ xs ∷ cs) a q h = (
      record {
        number = h.0.number;
        site = h.0.site;
        arguments = q.0.arguments;
        typed = arguments_typed as_ (left_part GoodText (map (λ e. (on_clock base, e)) as_) (flat_map contract_statement_texts cs) a);
        outputs = q.0.outputs;
        clock = refl;
      },
      imports_fit cs (right_part GoodText (map (λ e. (on_clock base, e)) as_) (flat_map contract_statement_texts cs) a) q.1 h.1,
    )

    pub sites_fit : AllByRecursion (SiteFits i n b f frame_typed) (all_sites (component_of i))
    sites_fit = in_order_all (λ s. s.number) SiteHere (gathered site_in here ++ flat_map import_site (contract_statements here))
        (both_parts SiteHere (gathered site_in here) (flat_map import_site (contract_statements here)) calls_fit
        (imports_fit (contract_statements here)
        (left_part GoodText (flat_map contract_statement_texts (contract_statements here))
        (constant_texts here.constants ++ flat_map (statement_texts here) here.body) good_texts)
        declaration.imports (imports_placed p c i declared same)))

-- what a site of an unfolded instance names
pub named_at : (p : Program) (ss : List Site) (is : Instances) → AreUnfolded p ss is → (j : ℕ) (s : Site) → site_at is j ≡ Some s
    → component_named p s.callee ≡ Some (component_of (instance_at is j))
named_at p ss no_instances u j s e = absurd (none-some s e)
named_at p [] (with_instance d k is) u j s e = absurd u
named_at p (r ∷ ss) (with_instance d k is) u zero s e = ap (λ (x : Site). component_named p x.callee) (sym (same_some e) ∙ u.0) ∙ u.1
named_at p (r ∷ ss) (with_instance d k is) u (suc j) s e = named_at p ss is u.3 j s e
