-- In a checked program the expressions of each declaration are light, at every depth of calls.
use Rattle.std.proofs.Common.{◌≡◌, ℕ, ◌≤◌, true, false, List, [], ◌∷◌, ◌++◌, map, flat_map, refl, sym, ◌∙◌, subst, arith}
use Rattle.std.specs.Prelude.{Contains}
use Rattle.std.specs.List.{AllByRecursion}
use Rattle.std.proofs.Math.Logic.{◌⊎◌, inl, inr}
use Rattle.std.proofs.lemmas.Bool.{false≢true}
use Rattle.lus_tree.specs.declared.place.Sort.{Sort}
use Rattle.lus_tree.specs.declared.place.Sort.TheVariants.{Bool as Flags, Int as Numbers}
use Rattle.lus_tree.specs.Tree.{Expression, Expressions, truth, number, name, negation, minus, pre, arrow, binary, choice, sampled, merged, call, condact, mode_name, no_more, more, Labelled, Statement, equation, assertion, property, main_mark, ContractStatement, assume, guarantee, ghost_variable, constant, mode, «import», Component, Program}
use Rattle.lus_meaning.specs.Value.{Value, absent, flag, whole, has_sort}
use Rattle.lus_meaning.specs.Scene.{base, sampled_by, Manner, plain, while_true, as_import, Site, Instance, Instances, instance, no_instances, with_instance, component_of, constants_of, clock_of, contract_statements}
use Rattle.lus_meaning.specs.Program.{listed, site_in, import_site, all_sites, instance_of}
use Rattle.lus_meaning.specs.Property.{assertions}
use Rattle.lus_meaning.specs.Run.{Equation, equations, ghost_equations, body_equations, sort_of}
use Rattle.lus_meaning.specs.Occurrences.{Standing, on_clock, on_base, within, before, moved, Occurrence, occurrences, Text, contract_statement_texts, statement_texts, constant_texts, texts, all_occurrences, gathered, Memory, memory_in, memories}
use Rattle.lus_meaning.specs.Scope.{greatest_weight}
use Rattle.lus_meaning.specs.ClockFaults.{components}
use Rattle.lus_meaning.specs.Refusals.{IsChecked}
use Rattle.lus_meaning.proofs.EachPart.{Each, EachAmong, each_of_both}
use Rattle.lus_meaning.proofs.InOrder.{in_order_all}
use Rattle.lus_meaning.proofs.Lists.{all_from, all_from_both, all_from_three, both_parts}
use Rattle.lus_meaning.proofs.Now.{left_part, right_part}
use Rattle.rule_laws.specs.Laws.{IsUnfolded, AreUnfolded, placed}
use Rattle.rule_laws.specs.Fitting.{is_fixed}
use Rattle.rule_laws.specs.Declarations.{DeclarationFits, values_of, contract_flags, statement_flags}
use Rattle.rule_laws.proofs.Callees.{GoesDown, each_site}
use Rattle.rule_laws.proofs.Fitted.{Shown}
use Rattle.rule_laws.proofs.Goods.{PlaceOf, place_of, TextPlacedIn, shown_there, texts_placed_there, text_typed}
use Rattle.rule_laws.proofs.Lists.{all_flat}
use Rattle.rule_laws.proofs.Parts.{Whole, nested, all_parts}
use Rattle.rule_laws.proofs.Unfolded.{typed_tree}
use Rattle.clock_laws.proofs.Clocks.{declared_at, unfolded_same}
use Rattle.clock_laws.proofs.Walk.{at_whole}
use Rattle.run_laws.proofs.Texts.{declaration}
use Rattle.path_laws.proofs.Places.{KnownText, known_texts, stand}
use Rattle.path_laws.proofs.Standing.{Known, fixed_constant}
use Rattle.sys_meaning.specs.WellTyped.{IsKnown, checked, Stands}
use Rattle.term_laws.proofs.Scopes.{ValuedText, valued_texts}
use Rattle.term_laws.proofs.Weighed.{ValuesAgree, values_agree, light}
use Rattle.term_laws.proofs.Weights.{value_size, value_here, weighs, Light, LightAmong, light_root, constant_size}

-- ---- what is light of an instance

-- a contract imports by this number
abbrev pub Imports : List ContractStatement → ℕ → Type 0
Imports [] q = ⊥
Imports («import» k c as_ xs ∷ cs) q = (k ≡ q) ⊎ Imports cs q
Imports (_ ∷ cs) q = Imports cs q

module _ (i : Instance) where
  abbrev pub IsLight : Expression → Type 0
  IsLight e = Light i greatest_weight e

  abbrev pub LightFlag : Labelled → Type 0
  LightFlag l = Stands i (IsKnown i) base l.value × (sort_of i l.value ≡ Flags) × IsLight l.value

  abbrev pub LightStatement : ContractStatement → Type 0
  LightStatement (assume l) = LightFlag l
  LightStatement (guarantee l) = LightFlag l
  LightStatement (ghost_variable x e) = Unit {0}
  LightStatement (constant c) = Unit {0}
  LightStatement (mode m rs es) = AllByRecursion LightFlag rs × AllByRecursion LightFlag es
  LightStatement («import» k c as_ xs) = Unit {0}

  -- its items, memories among them
  pub record OwnLight : Type 0 where
    pub contract : AllByRecursion LightStatement (contract_statements (component_of i))
    pub equations : AllByRecursion (λ e. IsLight e.right) (equations (component_of i))
    pub memories : AllByRecursion (λ m. IsLight m.operand) (memories (component_of i))
    pub asserts : AllByRecursion IsLight (assertions (component_of i).body)
    pub checks : AllByRecursion IsLight (checked (component_of i).body)

  abbrev pub LightManner : Manner → Type 0
  LightManner (while_true a) = IsLight a
  LightManner plain = Unit {0}
  LightManner (as_import xs) = Unit {0}

  -- an import stands in the contract
  abbrev pub IsListed : Manner → ℕ → Type 0
  IsListed (as_import xs) q = Imports (contract_statements (component_of i)) q
  IsListed plain q = Unit {0}
  IsListed (while_true a) q = Unit {0}

  -- a call's arguments, its condition, and the values of its defaults
  pub record SiteLight (s : Site) : Type 0 where
    pub arguments : AllByRecursion IsLight s.arguments
    pub manner : LightManner s.manner
    pub defaults : AllByRecursion (λ d. value_size (value_here i d) ≤ greatest_weight) s.defaults
    pub listed : IsListed s.manner s.number

abbrev mutual
  pub LightTree : Instance → Type 0
  LightTree (instance d cs is) = OwnLight (instance d cs is) × LightCalls (instance d cs is) is

  pub LightCalls : Instance → Instances → Type 0
  LightCalls i no_instances = Unit {0}
  LightCalls i (with_instance c k is) = SiteLight i c × LightTree k × LightCalls i is

-- ---- one expression

module _ (i : Instance) where
  abbrev n : Component
  n = component_of i

  mutual
    light_parts : (t : Standing) (e : Expression) → IsLight i e → Each (λ o. IsLight i o.expression) (component_of i) t e
    light_parts t (truth p b) h = h
    light_parts t (number p k) h = h
    light_parts t (name p x) h = h
    light_parts t (negation p a) h = (h, light_parts (within t) a h.1)
    light_parts t (minus p a) h = (h, light_parts (within t) a h.1)
    light_parts t (pre p k a) h = (h, light_parts (before t) a h.1)
    light_parts t (arrow p k a b) h = (h, light_parts (within t) a h.1, light_parts (within t) b h.2)
    light_parts t (binary p o a b) h = (h, light_parts (within t) a h.1, light_parts (within t) b h.2)
    light_parts t (choice p a b d) h = (h, light_parts (within t) a h.1, light_parts (within t) b h.2, light_parts (within t) d h.3)
    light_parts t (sampled p a q x) h = (h, light_parts (moved (clock_of n x.text) t) a h.1)
    light_parts t (merged p x a b) h =
        (h, light_parts (moved (sampled_by true x.text) t) a h.1, light_parts (moved (sampled_by false x.text) t) b h.2)
    light_parts t (call p k f as_) h = (h, light_parts_among (within t) as_ h.1)
    light_parts t (condact p k a f as_ ds) h =
        (h, light_parts (within t) a h.1, light_parts_among (within t) as_ h.2, light_parts_among (within t) ds h.3)
    light_parts t (mode_name p d m) h = h

    light_parts_among : (t : Standing) (as_ : Expressions) → LightAmong i greatest_weight as_ →
        EachAmong (λ o. IsLight i o.expression) (component_of i) t as_
    light_parts_among t no_more h = tt
    light_parts_among t (more a as_) h = (light_parts t a h.0, light_parts_among t as_ h.1)

  all_light : (as_ : Expressions) → LightAmong i greatest_weight as_ → AllByRecursion (IsLight i) (listed as_)
  all_light no_more h = tt
  all_light (more a as_) h = (h.0, all_light as_ h.1)

  pub value_within : (d : Expression) → IsLight i d → is_fixed (constants_of i) d ≡ true →
      has_sort (sort_of i d) (value_here i d) ≡ true → value_size (value_here i d) ≤ greatest_weight
  value_within d l f h = go (sort_of i d) (value_here i d) refl refl h
    where
      go : (z : Sort) (v : Value) → sort_of i d ≡ z → value_here i d ≡ v → has_sort z v ≡ true → value_size v ≤ greatest_weight
      go Flags (flag b) e q h = omega arith
      go Flags absent e q h = absurd (false≢true h)
      go Flags (whole n) e q h = absurd (false≢true h)
      go Numbers absent e q h = absurd (false≢true h)
      go Numbers (flag b) e q h = absurd (false≢true h)
      go Numbers (whole n) e q h =
          let s : value_size (value_here i d) ≤ weighs i d = constant_size i greatest_weight d l (sym (fixed_constant (constants_of i) d) ∙ f) in
          let w : weighs i d ≤ greatest_weight = (light_root i greatest_weight d l).0 e in
          let t : value_size (whole n) ≤ weighs i d = subst (λ v. value_size v ≤ weighs i d) q s in
          below (value_size (whole n)) (weighs i d) greatest_weight t w
        where
          below : (a b c : ℕ) → a ≤ b → b ≤ c → a ≤ c
          below a b c h k = omega arith

  defaults_within : (t : Standing) (ds : Expressions) → EachAmong (Known i) (component_of i) t ds → LightAmong i greatest_weight ds →
      AllByRecursion (λ d. is_fixed (constants_of i) d ≡ true) (listed ds) →
      AllByRecursion (λ d. value_size (value_here i d) ≤ greatest_weight) (listed ds)
  defaults_within t no_more k l f = tt
  defaults_within t (more d ds) k l f =
      (value_within d l.0 f.0 ((at_whole (Known i) n t d k.0).typed f.0), defaults_within t ds k.1 l.1 f.1)

  sites_light : (t : Standing) (e : Expression) → Each (Known i) (component_of i) t e → IsLight i e → AllByRecursion (SiteLight i) (site_in t e)
  sites_light t (call p k f as_) a l = (record { arguments = all_light as_ l.1; manner = tt; defaults = tt; listed = tt }, tt)
  sites_light t (condact p k b f as_ ds) a l =
      (record { arguments = all_light as_ l.2; manner = l.1; defaults = defaults_within (within t) ds a.3 l.3 a.0.fits.3; listed = tt }, tt)
  sites_light t (truth p b) a l = tt
  sites_light t (number p b) a l = tt
  sites_light t (name p b) a l = tt
  sites_light t (negation p b) a l = tt
  sites_light t (minus p b) a l = tt
  sites_light t (pre p k b) a l = tt
  sites_light t (arrow p k b d) a l = tt
  sites_light t (binary p k b d) a l = tt
  sites_light t (choice p b d e) a l = tt
  sites_light t (sampled p b d e) a l = tt
  sites_light t (merged p b d e) a l = tt
  sites_light t (mode_name p b d) a l = tt

  memories_light : (t : Standing) (e : Expression) → IsLight i e → AllByRecursion (λ m. IsLight i m.operand) (memory_in t e)
  memories_light t (pre p k b) l = (l.1, tt)
  memories_light t (call p k f as_) l = tt
  memories_light t (condact p k b f as_ ds) l = tt
  memories_light t (truth p b) l = tt
  memories_light t (number p b) l = tt
  memories_light t (name p b) l = tt
  memories_light t (negation p b) l = tt
  memories_light t (minus p b) l = tt
  memories_light t (arrow p k b d) l = tt
  memories_light t (binary p k b d) l = tt
  memories_light t (choice p b d e) l = tt
  memories_light t (sampled p b d e) l = tt
  memories_light t (merged p b d e) l = tt
  memories_light t (mode_name p b d) l = tt

  -- ---- items

  abbrev pub GoodText : Text → Type 0
  GoodText x = Stands i (IsKnown i) x.0.clock x.1 × IsLight i x.1

  abbrev IsFlagHere : Expression → Type 0
  IsFlagHere e = sort_of i e ≡ Flags

  flags_light : (ls : List Labelled) → AllByRecursion GoodText (on_base ls) → AllByRecursion IsFlagHere (values_of ls) →
      AllByRecursion (LightFlag i) ls
  flags_light [] a s = tt
  flags_light (l ∷ ls) a s = ((a.0.0, s.0, a.0.1), flags_light ls a.1 s.1)

  contract_light : (xs : List ContractStatement) → AllByRecursion GoodText (flat_map contract_statement_texts xs) →
      AllByRecursion IsFlagHere (flat_map contract_flags xs) → AllByRecursion (LightStatement i) xs
  contract_light [] a s = tt
  contract_light (assume l ∷ xs) a s = ((a.0.0, s.0, a.0.1), contract_light xs a.1 s.1)
  contract_light (guarantee l ∷ xs) a s = ((a.0.0, s.0, a.0.1), contract_light xs a.1 s.1)
  contract_light (ghost_variable x e ∷ xs) a s = (tt, contract_light xs a.1 s)
  contract_light (constant k ∷ xs) a s = (tt, contract_light xs a.1 s)
  contract_light (mode m rs es ∷ xs) a s =
      let here = left_part GoodText (on_base rs ++ on_base es) (flat_map contract_statement_texts xs) a in
      let flags = left_part IsFlagHere (values_of rs ++ values_of es) (flat_map contract_flags xs) s in (
        (
          flags_light rs (left_part GoodText (on_base rs) (on_base es) here) (left_part IsFlagHere (values_of rs) (values_of es) flags),
          flags_light es (right_part GoodText (on_base rs) (on_base es) here) (right_part IsFlagHere (values_of rs) (values_of es) flags),
        ),
        contract_light xs (right_part GoodText (on_base rs ++ on_base es) (flat_map contract_statement_texts xs) a)
            (right_part IsFlagHere (values_of rs ++ values_of es) (flat_map contract_flags xs) s),
      )
  contract_light («import» k c as_ ys ∷ xs) a s =
      (tt, contract_light xs (right_part GoodText (map (λ e. (on_clock base, e)) as_) (flat_map contract_statement_texts xs) a) s)

  arguments_light : (as_ : List Expression) → AllByRecursion GoodText (map (λ e. (on_clock base, e)) as_) → AllByRecursion (IsLight i) as_
  arguments_light [] a = tt
  arguments_light (e ∷ as_) a = (a.0.1, arguments_light as_ a.1)

  imports_light : (xs : List ContractStatement) → ((q : ℕ) → Imports xs q → Imports (contract_statements (component_of i)) q) →
      AllByRecursion GoodText (flat_map contract_statement_texts xs) →
      AllByRecursion (SiteLight i) (flat_map import_site xs)
  imports_light [] w a = tt
  imports_light (assume l ∷ xs) w a = imports_light xs w a.1
  imports_light (guarantee l ∷ xs) w a = imports_light xs w a.1
  imports_light (ghost_variable x e ∷ xs) w a = imports_light xs w a.1
  imports_light (constant k ∷ xs) w a = imports_light xs w a.1
  imports_light (mode m rs es ∷ xs) w a =
      imports_light xs w (right_part GoodText (on_base rs ++ on_base es) (flat_map contract_statement_texts xs) a)
  imports_light («import» k c as_ ys ∷ xs) w a = (
    record {
      arguments = arguments_light as_ (left_part GoodText (map (λ e. (on_clock base, e)) as_) (flat_map contract_statement_texts xs) a);
      manner = tt;
      defaults = tt;
      listed = w k (inl refl);
    },
    imports_light xs (λ q h. w q (inr h)) (right_part GoodText (map (λ e. (on_clock base, e)) as_) (flat_map contract_statement_texts xs) a),
  )

  ghosts_light : (xs : List ContractStatement) → AllByRecursion GoodText (flat_map contract_statement_texts xs) →
      AllByRecursion (λ e. IsLight i e.right) (ghost_equations xs)
  ghosts_light [] a = tt
  ghosts_light (assume l ∷ xs) a = ghosts_light xs a.1
  ghosts_light (guarantee l ∷ xs) a = ghosts_light xs a.1
  ghosts_light (ghost_variable x e ∷ xs) a = (a.0.1, ghosts_light xs a.1)
  ghosts_light (constant k ∷ xs) a = ghosts_light xs a.1
  ghosts_light (mode m rs es ∷ xs) a =
      ghosts_light xs (right_part GoodText (on_base rs ++ on_base es) (flat_map contract_statement_texts xs) a)
  ghosts_light («import» k c as_ ys ∷ xs) a =
      ghosts_light xs (right_part GoodText (map (λ e. (on_clock base, e)) as_) (flat_map contract_statement_texts xs) a)

  equations_light : (ss : List Statement) → AllByRecursion GoodText (flat_map (statement_texts (component_of i)) ss) →
      AllByRecursion (λ e. IsLight i e.right) (body_equations ss)
  equations_light [] a = tt
  equations_light (equation xs e ∷ ss) a = (a.0.1, equations_light ss a.1)
  equations_light (assertion e ∷ ss) a = equations_light ss a.1
  equations_light (property l ∷ ss) a = equations_light ss a.1
  equations_light (main_mark w ∷ ss) a = equations_light ss a

  asserts_light : (ss : List Statement) → AllByRecursion GoodText (flat_map (statement_texts (component_of i)) ss) →
      AllByRecursion (IsLight i) (assertions ss)
  asserts_light [] a = tt
  asserts_light (equation xs e ∷ ss) a = asserts_light ss a.1
  asserts_light (assertion e ∷ ss) a = (a.0.1, asserts_light ss a.1)
  asserts_light (property l ∷ ss) a = asserts_light ss a.1
  asserts_light (main_mark w ∷ ss) a = asserts_light ss a

  checks_light : (ss : List Statement) → AllByRecursion GoodText (flat_map (statement_texts (component_of i)) ss) →
      AllByRecursion (IsLight i) (checked ss)
  checks_light [] a = tt
  checks_light (equation xs e ∷ ss) a = checks_light ss a.1
  checks_light (assertion e ∷ ss) a = checks_light ss a.1
  checks_light (property l ∷ ss) a = (a.0.1, checks_light ss a.1)
  checks_light (main_mark w ∷ ss) a = checks_light ss a

-- ---- a declaration

module _ (p : Program) (c : IsChecked p) where
  module _ (i : Instance) (u : IsUnfolded p i) (j : Contains (components p) (component_of i)) where
    abbrev here : Component
    here = component_of i

    same : instance_of p (component_of i) ≡ i
    same = sym (unfolded_same p c i u j)

    place : PlaceOf (placed 0 p) (component_of i)
    place = place_of 0 p (component_of i) j

    abbrev home_of : ℕ × Component
    home_of = (place.before, component_of i)

    shown : (x : Text) (v : ValuedText p home_of x) → Shown v.scope i
    shown x v = shown_there p (typed_tree p c) home_of place.is j i same v.scope v.of

    values : (x : Text) (v : ValuedText p home_of x) → ValuesAgree v.scope i
    values x v = subst (ValuesAgree v.scope) same (values_agree p c home_of place.is v.scope v.of v.values)

    good_text : (x : Text) → ValuedText p home_of x → TextPlacedIn p i x → KnownText p c i u j x → GoodText i x
    good_text x v l k = (
      stand p c i u j x.0 x.1 k,
      light v.scope i (shown x v) (values x v) (stand p c i u j) x.0 x.1
          (text_typed p i v.scope v.of.program (shown x v) x v.clean l) k,
    )

    pub good_texts : AllByRecursion (GoodText i) (texts (component_of i))
    good_texts =
        all_from_three (ValuedText p home_of) (TextPlacedIn p i) (KnownText p c i u j) (GoodText i) good_text (texts here)
        (valued_texts p c home_of place.is j) (texts_placed_there p (typed_tree p c) home_of place.is j i same) (known_texts p c i u j)

    -- ---- occurrences

    abbrev pub Both : Occurrence → Type 0
    Both o = Each (Known i) (component_of i) o.standing o.expression × IsLight i o.expression

    both_there : (x : Text) → KnownText p c i u j x → GoodText i x → AllByRecursion Both (occurrences (component_of i) x.0 x.1)
    both_there x k g = all_parts Both here x.0 x.1
        (each_of_both (Whole (Known i) here) (λ o. IsLight i o.expression) Both (λ o a b. (a, b)) here x.0 x.1 (nested (Known i) here x.0 x.1 k)
        (light_parts i x.0 x.1 g.1))

    pub all_both : AllByRecursion Both (all_occurrences (component_of i))
    all_both = all_flat Both (λ x. occurrences here x.0 x.1) (texts here)
        (all_from_both (KnownText p c i u j) (GoodText i) (λ x. AllByRecursion Both (occurrences here x.0 x.1)) both_there (texts here)
        (known_texts p c i u j) good_texts)

    contract_texts : AllByRecursion (GoodText i) (flat_map contract_statement_texts (contract_statements (component_of i)))
    contract_texts = left_part (GoodText i) (flat_map contract_statement_texts (contract_statements here)) _ good_texts

    body_texts : AllByRecursion (GoodText i) (flat_map (statement_texts (component_of i)) (component_of i).body)
    body_texts = right_part (GoodText i) (constant_texts here.constants) _
        (right_part (GoodText i) (flat_map contract_statement_texts (contract_statements here)) _ good_texts)

    decl : DeclarationFits i
    decl = declaration p c i u j

    own_light : OwnLight i
    own_light = record {
      contract = contract_light i (contract_statements here) contract_texts
          (left_part (λ e. sort_of i e ≡ Flags) (flat_map contract_flags (contract_statements here)) (flat_map statement_flags here.body) decl.flags);
      equations = both_parts (λ (e : Equation). IsLight i e.right) (ghost_equations (contract_statements here)) (body_equations here.body)
          (ghosts_light i (contract_statements here) contract_texts) (equations_light i here.body body_texts);
      memories = all_flat (λ (m : Memory). IsLight i m.operand) (λ o. memory_in o.standing o.expression) (all_occurrences here)
          (all_from Both (λ o. AllByRecursion (λ (m : Memory). IsLight i m.operand) (memory_in o.standing o.expression))
          (λ o a. memories_light i o.standing o.expression a.1) (all_occurrences here) all_both);
      asserts = asserts_light i here.body body_texts;
      checks = checks_light i here.body body_texts;
    }

    all_sites_light : AllByRecursion (SiteLight i) (all_sites (component_of i))
    all_sites_light =
        in_order_all (λ s. s.number) (SiteLight i) (gathered site_in here ++ flat_map import_site (contract_statements here))
        (both_parts (SiteLight i) (gathered site_in here) (flat_map import_site (contract_statements here))
        (all_flat (SiteLight i) (λ o. site_in o.standing o.expression) (all_occurrences here)
        (all_from Both (λ o. AllByRecursion (SiteLight i) (site_in o.standing o.expression))
        (λ o a. sites_light i o.standing o.expression a.0 a.1) (all_occurrences here) all_both))
        (imports_light i (contract_statements here) (λ q h. h) contract_texts))

  mutual
    pub light_tree : (i : Instance) → IsUnfolded p i → Contains (components p) (component_of i) → LightTree i
    light_tree (instance d cs is) u j =
        let i : Instance = instance d cs is in (
          own_light i u j,
          light_calls i (all_sites d) is u.1 (each_site p c.rules.clocked.typed d j) (all_sites_light i u j),
        )

    light_calls : (i : Instance) (ss : List Site) (is : Instances) → AreUnfolded p ss is →
        AllByRecursion (λ s. GoesDown p (component_of i) s.callee) ss → AllByRecursion (SiteLight i) ss → LightCalls i is
    light_calls i ss no_instances w a l = tt
    light_calls i [] (with_instance t k is) w a l = absurd w
    light_calls i (s ∷ ss) (with_instance t k is) w a l = (
      subst (SiteLight i) (sym w.0) l.0,
      light_tree k w.2 (declared_at p c (component_of i) s k a.0 w.1),
      light_calls i ss is w.3 a.1 l.1,
    )
