-- What the items of a contract say is known, and names modes that stand before it alone.
use Rattle.std.proofs.lemmas.Grind.{flat_map-append}
use Rattle.std.proofs.Common.{◌≡◌, ℕ, suc, pred, true, List, [], ◌∷◌, ◌++◌, map, flat_map, refl, ap, ◌∙◌, sym, subst}
use Rattle.std.specs.Prelude.{Contains, is_none}
use Rattle.std.specs.List.{AllByRecursion}
use Rattle.lus_tree.specs.declared.place.Sort.TheVariants.{Bool as Flags}
use Rattle.lus_tree.specs.Tree.{Expression, truth, number, name, negation, minus, pre, arrow, binary, choice, sampled, merged, call, condact, mode_name, Variable, Labelled, Statement, equation, assertion, property, main_mark, ContractStatement, assume, guarantee, ghost_variable, constant, mode, «import», Constant, Component, Program}
use Rattle.lus_meaning.specs.Scene.{base, Site, Instance, component_of, calls_of, clock_from, clock_of, clock_of_names, contract_statements, ghosts}
use Rattle.lus_meaning.specs.Program.{site_in, import_site}
use Rattle.lus_tree.specs.Reason.{not_constant}
use Rattle.lus_meaning.specs.Faults.{fault}
use Rattle.lus_meaning.specs.Property.{assertions}
use Rattle.lus_meaning.specs.Run.{Equation, equations, ghost_equations, body_equations}
use Rattle.lus_meaning.specs.Occurrences.{Standing, Occurrence, occurrences, on_clock, on_base, as_side, Text, contract_statement_texts, statement_texts, constant_texts}
use Rattle.lus_meaning.specs.ClockFaults.{components}
use Rattle.lus_meaning.specs.Scope.{Home, Scope, contract_statement_scope, constant_scope}
use Rattle.lus_meaning.specs.ExpressionFaults.{needs_sort, flag_faults, hinders_constant, not_allowed, definition_faults, expression_faults}
use Rattle.lus_meaning.specs.NameFaults.{home, flags_of, contract_statement_faults, contract_faults, local_constant_faults}
use Rattle.lus_meaning.specs.Grammatical.{IsGrammaticalComponent, ghost_names}
use Rattle.lus_meaning.specs.Refusals.{IsChecked}
use Rattle.lus_meaning.proofs.EachPart.{Each, each_of_both}
use Rattle.lus_meaning.proofs.Lists.{append_none, all_from, both_parts}
use Rattle.lus_meaning.proofs.NamesOnce.{no_parts, not_nil, at_one}
use Rattle.lus_meaning.proofs.Now.{left_part, right_part}
use Rattle.lus_meaning.proofs.RulesFit.{none_mapped}
use Rattle.rule_laws.specs.Laws.{IsUnfolded}
use Rattle.rule_laws.proofs.Texts.{no_positions}
use Rattle.lus_evaluation.specs.Turn.{property_texts}
use Rattle.rule_laws.specs.Fitting.{OnBase}
use Rattle.rule_laws.specs.Declarations.{DeclarationFits}
use Rattle.rule_laws.specs.Declarations as declarations
use Rattle.rule_laws.proofs.Goods.{place_of, typed_declaration, each_passes, without_clocks}
use Rattle.rule_laws.proofs.Unfolded.{typed_tree}
use Rattle.clock_laws.proofs.Texts.{all_grammatical}
use Rattle.run_laws.proofs.Texts.{declaration}
use Rattle.sys_meaning.specs.Defaults.{site_of}
use Rattle.sys_meaning.specs.Items.{Key}
use Rattle.sys_meaning.specs.WellTyped.{IsKnown, IsAmong, IsImport, StatementsFit, own_keys}
use Rattle.path_laws.proofs.Chains.{clock_is}
use Rattle.path_laws.proofs.Places.{ImportThere, imports_there, imports_known, known_texts, KnownText, stand}
use Rattle.path_laws.proofs.Among.{IsImported, NamesAmong, keys_of, all_among}
use Rattle.path_laws.proofs.Standing.{Known, site_there}
use Rattle.path_laws.proofs.Tree.{own_fits}
use Rattle.order_laws.proofs.Names.{NamesIn, Named}

-- ---- names

names_in : (ks : List Key) (e : Expression) → NamesAmong ks e → NamesIn (IsAmong ks) e
names_in ks (mode_name q d m) h = h
names_in ks (truth q a) h = tt
names_in ks (number q a) h = tt
names_in ks (name q a) h = tt
names_in ks (negation q a) h = tt
names_in ks (minus q a) h = tt
names_in ks (pre q l a) h = tt
names_in ks (arrow q l a b) h = tt
names_in ks (binary q o a b) h = tt
names_in ks (choice q a b d) h = tt
names_in ks (sampled q a b x) h = tt
names_in ks (merged q x a b) h = tt
names_in ks (call q l f as_) h = tt
names_in ks (condact q l a f as_ ds) h = tt

same_ghosts : (cs : List ContractStatement) → flat_map ghost_names cs ≡ ghosts cs
same_ghosts [] = refl
same_ghosts (assume l ∷ cs) = same_ghosts cs
same_ghosts (guarantee l ∷ cs) = same_ghosts cs
same_ghosts (ghost_variable x e ∷ cs) = ap (λ vs. x ∷ vs) (same_ghosts cs)
same_ghosts (constant c ∷ cs) = same_ghosts cs
same_ghosts (mode m rs es ∷ cs) = same_ghosts cs
same_ghosts («import» k c as_ xs ∷ cs) = same_ghosts cs

ghosts_on_base : (n : Component) → IsGrammaticalComponent n → OnBase (ghosts (contract_statements n))
ghosts_on_base n g =
    let none : Variable → Type 0 = λ v. is_none v.clock ≡ true in
    let all : AllByRecursion none (n.inputs ++ (n.outputs ++ flat_map ghost_names (contract_statements n))) =
    each_passes (λ v. is_none v.clock) (n.inputs ++ (n.outputs ++ flat_map ghost_names (contract_statements n))) g.clocks in
    let rest : AllByRecursion none (n.outputs ++ flat_map ghost_names (contract_statements n)) =
    right_part none n.inputs (n.outputs ++ flat_map ghost_names (contract_statements n)) all in
    without_clocks (ghosts (contract_statements n)) (subst (AllByRecursion none) (same_ghosts (contract_statements n))
    (right_part none n.outputs (flat_map ghost_names (contract_statements n)) rest))

ghost_clocks : (i : Instance) (vs : List Variable) → OnBase vs → AllByRecursion (declarations.StreamFits i) vs →
    AllByRecursion (λ v. clock_of (component_of i) v.name.text ≡ base) vs
ghost_clocks i [] o a = tt
ghost_clocks i (v ∷ vs) o a =
    (sym (clock_is (component_of i) v.name.text (clock_from v.clock) a.0.name.clock) ∙ ap clock_from o.0, ghost_clocks i vs o.1 a.1)

module _ (i : Instance) where
  -- known, and names modes of these keys alone
  abbrev pub LabelFits : List Key → Expression → Type 0
  LabelFits ks e = Each (Known i) (component_of i) (on_clock base) e × Each (Named (IsAmong ks)) (component_of i) (on_clock base) e

  abbrev pub ItemFits : List Key → ContractStatement → Type 0
  ItemFits ks (assume l) = LabelFits ks l.value
  ItemFits ks (guarantee l) = LabelFits ks l.value
  ItemFits ks (ghost_variable x e) = Unit {0}
  ItemFits ks (constant c) = Unit {0}
  ItemFits ks (mode m rs es) = AllByRecursion (λ l. LabelFits ks l.value) rs × AllByRecursion (λ l. LabelFits ks l.value) es
  ItemFits ks («import» k c as_ xs) = IsImport i k × AllByRecursion (LabelFits ks) as_ × ((site_of i k).arguments ≡ as_)

  abbrev pub ItemsFit : List Key → List ContractStatement → Type 0
  ItemsFit ks [] = Unit {0}
  ItemsFit ks (c ∷ cs) = ItemFits ks c × ItemsFit (ks ++ own_keys i c) cs

  -- known, and names modes that are known
  abbrev pub TextFits : Standing → Expression → Type 0
  TextFits s e = Each (Known i) (component_of i) s e × Each (Named (IsKnown i)) (component_of i) s e

  abbrev pub SideFits : Equation → Type 0
  SideFits e = TextFits (as_side (clock_of_names (component_of i) e.names)) e.right

module _ (p : Program) (c : IsChecked p) (i : Instance) (u : IsUnfolded p i) (j : Contains (components p) (component_of i)) where
  abbrev here : Component
  here = component_of i

  abbrev Text_known : Text → Type 0
  Text_known x = KnownText p c i u j x

  abbrev at_place : ℕ × Component
  at_place = ((place_of 0 p (component_of i) j).before, component_of i)

  abbrev place : Home
  place = home p at_place.0 at_place.1

  -- an import is the call of its number
  abbrev IsSite : Site → Type 0
  IsSite s = site_of i s.number ≡ s

  abbrev Imported : Site → Type 0
  Imported = IsImported p i

  label_fits : (bs : List ContractStatement) → AllByRecursion Imported (flat_map import_site bs) → (e : Expression) →
      expression_faults (contract_statement_scope place bs) (on_clock base) e ≡ [] → Text_known (on_clock base, e) → LabelFits i (keys_of i bs) e
  label_fits bs q e f a = (
    a,
    let all = all_among p at_place.0 at_place.1 i bs q e f in
        each_of_both (λ o. NamesAmong (keys_of i bs) o.expression) (λ o. NamesAmong (keys_of i bs) o.expression) (Named (IsAmong (keys_of i bs)))
        (λ o x y. names_in (keys_of i bs) o.expression x) (component_of i) (on_clock base) e all all,
  )

  flag_fits : (bs : List ContractStatement) → AllByRecursion Imported (flat_map import_site bs) → (l : Labelled) →
      flag_faults (contract_statement_scope place bs) l.value ≡ [] → Text_known (on_clock base, l.value) → LabelFits i (keys_of i bs) l.value
  flag_fits bs q l f a =
      label_fits bs q l.value
      (no_parts (needs_sort (contract_statement_scope place bs) Flags l.value)
      (expression_faults (contract_statement_scope place bs) (on_clock base) l.value) f).1 a

  flags_fit : (bs : List ContractStatement) → AllByRecursion Imported (flat_map import_site bs) → (ls : List Labelled) →
      flags_of (contract_statement_scope place bs) ls ≡ [] → AllByRecursion Text_known (on_base ls) →
      AllByRecursion (λ l. LabelFits i (keys_of i bs) l.value) ls
  flags_fit bs q [] f a = tt
  flags_fit bs q (l ∷ ls) f a =
      let r = no_parts (flag_faults (contract_statement_scope place bs) l.value) (flags_of (contract_statement_scope place bs) ls) f in
      (flag_fits bs q l r.0 a.0, flags_fit bs q ls r.1 a.1)

  arguments_fit : (bs : List ContractStatement) → AllByRecursion Imported (flat_map import_site bs) → (es : List Expression) →
      flat_map (expression_faults (contract_statement_scope place bs) (on_clock base)) es ≡ [] →
      AllByRecursion Text_known (map (λ e. (on_clock base, e)) es) → AllByRecursion (LabelFits i (keys_of i bs)) es
  arguments_fit bs q [] f a = tt
  arguments_fit bs q (e ∷ es) f a =
      let r = no_parts (expression_faults (contract_statement_scope place bs) (on_clock base) e)
      (flat_map (expression_faults (contract_statement_scope place bs) (on_clock base)) es) f in
      (label_fits bs q e r.0 a.0, arguments_fit bs q es r.1 a.1)

  item_fits : (bs : List ContractStatement) → AllByRecursion Imported (flat_map import_site bs) → (x : ContractStatement) →
      contract_statement_faults (contract_statement_scope place bs) x ≡ [] → AllByRecursion Text_known (contract_statement_texts x) →
      StatementsFit i (keys_of i bs) (x ∷ []) → AllByRecursion IsSite (import_site x) → ItemFits i (keys_of i bs) x
  item_fits bs q (assume l) f a s z = flag_fits bs q l f a.0
  item_fits bs q (guarantee l) f a s z = flag_fits bs q l f a.0
  item_fits bs q (ghost_variable x e) f a s z = tt
  item_fits bs q (constant x) f a s z = tt
  item_fits bs q (mode m rs es) f a s z =
      let r = no_parts (flags_of (contract_statement_scope place bs) rs) (flags_of (contract_statement_scope place bs) es) f in (
        flags_fit bs q rs r.0 (left_part Text_known (on_base rs) (on_base es) a),
        flags_fit bs q es r.1 (right_part Text_known (on_base rs) (on_base es) a),
      )
  item_fits bs q («import» m x as_ ys) f a s z = (
    s.0,
    arguments_fit bs q as_ (no_parts (flat_map (expression_faults (contract_statement_scope place bs) (on_clock base)) as_) _ f).0 a,
    ap (λ r. r.arguments) z.0,
  )

  imported_both : (bs : List ContractStatement) (x : ContractStatement) → AllByRecursion Imported (flat_map import_site bs) →
      AllByRecursion Imported (import_site x) → AllByRecursion Imported (flat_map import_site (bs ++ x ∷ []))
  imported_both bs x q y =
      subst (AllByRecursion Imported) (sym (flat_map-append import_site bs (x ∷ [])))
      (both_parts Imported (flat_map import_site bs) (import_site x ++ []) q (both_parts Imported (import_site x) [] y tt))

  keys_both : (bs : List ContractStatement) (x : ContractStatement) → keys_of i (bs ++ x ∷ []) ≡ keys_of i bs ++ own_keys i x
  keys_both bs x = flat_map-append (own_keys i) bs (x ∷ []) ∙ ap (λ ks. keys_of i bs ++ ks) (append_none (own_keys i x))

  each_item : (bs : List ContractStatement) → AllByRecursion Imported (flat_map import_site bs) → (xs : List ContractStatement) →
      AllByRecursion Imported (flat_map import_site xs) → contract_faults place bs xs ≡ [] →
      AllByRecursion Text_known (flat_map contract_statement_texts xs) → StatementsFit i (keys_of i bs) xs →
      AllByRecursion IsSite (flat_map import_site xs) → ItemsFit i (keys_of i bs) xs
  each_item bs q [] y f a s z = tt
  each_item bs q (x ∷ xs) y f a s z =
      let r = no_parts (contract_statement_faults (contract_statement_scope place bs) x) (contract_faults place (bs ++ x ∷ []) xs) f in (
        item_fits bs q x r.0 (left_part Text_known (contract_statement_texts x) (flat_map contract_statement_texts xs) a) (s.0, tt)
            (left_part IsSite (import_site x) (flat_map import_site xs) z),
        subst (λ ks. ItemsFit i ks xs) (keys_both bs x)
            (each_item (bs ++ x ∷ []) (imported_both bs x q (left_part Imported (import_site x) (flat_map import_site xs) y)) xs
            (right_part Imported (import_site x) (flat_map import_site xs) y) r.1
            (right_part Text_known (contract_statement_texts x) (flat_map contract_statement_texts xs) a)
            (subst (λ ks. StatementsFit i ks xs) (sym (keys_both bs x)) s.1)
            (right_part IsSite (import_site x) (flat_map import_site xs) z)),
      )

  -- ---- the texts

  abbrev contract_part : List Text
  contract_part = flat_map contract_statement_texts (contract_statements (component_of i))

  abbrev body_part : List Text
  body_part = flat_map (statement_texts (component_of i)) (component_of i).body

  contract_known : AllByRecursion Text_known contract_part
  contract_known = left_part Text_known contract_part (constant_texts here.constants ++ body_part) (known_texts p c i u j)

  body_known : AllByRecursion Text_known body_part
  body_known = right_part Text_known (constant_texts here.constants) body_part
      (right_part Text_known contract_part (constant_texts here.constants ++ body_part) (known_texts p c i u j))

  pub items_fit : ItemsFit i [] (contract_statements (component_of i))
  items_fit =
      each_item [] tt (contract_statements here) (imports_known p c i u j)
      (typed_declaration p (typed_tree p c) at_place (place_of 0 p (component_of i) j).is j).contract contract_known (own_fits p c i u j).contract
      (all_from (ImportThere p c i u j) IsSite (λ s h. (site_there (calls_of i) (pred s.number) s h.site).0)
      (flat_map import_site (contract_statements here)) (imports_there p c i u j))

  -- ---- what names no modes but known ones

  name_known : (s : Standing) (e : Expression) → Known i record { standing = s; expression = e } → NamesIn (IsKnown i) e
  name_known s (mode_name q d m) h = (stand p c i u j s (mode_name q d m) h).1
  name_known s (truth q a) h = tt
  name_known s (number q a) h = tt
  name_known s (name q a) h = tt
  name_known s (negation q a) h = tt
  name_known s (minus q a) h = tt
  name_known s (pre q l a) h = tt
  name_known s (arrow q l a b) h = tt
  name_known s (binary q o a b) h = tt
  name_known s (choice q a b d) h = tt
  name_known s (sampled q a b x) h = tt
  name_known s (merged q x a b) h = tt
  name_known s (call q l f as_) h = tt
  name_known s (condact q l a f as_ ds) h = tt

  pub text_fits : (s : Standing) (e : Expression) → Each (Known i) (component_of i) s e → TextFits i s e
  text_fits s e a =
      (a, each_of_both (Known i) (Known i) (Named (IsKnown i)) (λ o x y. name_known o.standing o.expression x) (component_of i) s e a a)

  ghost_sides : (xs : List ContractStatement) → AllByRecursion Text_known (flat_map contract_statement_texts xs) →
      AllByRecursion (λ v. clock_of (component_of i) v.name.text ≡ base) (ghosts xs) → AllByRecursion (SideFits i) (ghost_equations xs)
  ghost_sides [] a g = tt
  ghost_sides (assume l ∷ xs) a g = ghost_sides xs a.1 g
  ghost_sides (guarantee l ∷ xs) a g = ghost_sides xs a.1 g
  ghost_sides (ghost_variable x e ∷ xs) a g = (
    text_fits (as_side (clock_of_names (component_of i) (x.name.text ∷ []))) e
        (subst (λ z. Each (Known i) (component_of i) (as_side z) e) (sym g.0) a.0),
    ghost_sides xs a.1 g.1,
  )
  ghost_sides (constant x ∷ xs) a g = ghost_sides xs a.1 g
  ghost_sides (mode m rs es ∷ xs) a g =
      ghost_sides xs (right_part Text_known (on_base rs ++ on_base es) (flat_map contract_statement_texts xs) a) g
  ghost_sides («import» m x as_ ys ∷ xs) a g =
      ghost_sides xs (right_part Text_known (map (λ e. (on_clock base, e)) as_) (flat_map contract_statement_texts xs) a) g

  body_sides : (ss : List Statement) → AllByRecursion Text_known (flat_map (statement_texts (component_of i)) ss) →
      AllByRecursion (SideFits i) (body_equations ss)
  body_sides [] a = tt
  body_sides (equation xs e ∷ ss) a = (text_fits (as_side (clock_of_names (component_of i) _)) e a.0, body_sides ss a.1)
  body_sides (assertion e ∷ ss) a = body_sides ss a.1
  body_sides (property l ∷ ss) a = body_sides ss a.1
  body_sides (main_mark w ∷ ss) a = body_sides ss a

  decl : DeclarationFits i
  decl = declaration p c i u j

  pub sides_fit : AllByRecursion (SideFits i) (equations (component_of i))
  sides_fit =
      both_parts (SideFits i) (ghost_equations (contract_statements here)) (body_equations here.body)
      (ghost_sides (contract_statements here) contract_known
      (ghost_clocks i (ghosts (contract_statements here))
      (ghosts_on_base here (at_one IsGrammaticalComponent (components p) here (all_grammatical p c.grammatical) j))
      (right_part (declarations.StreamFits i) (here.inputs ++ here.outputs ++ here.locals) (ghosts (contract_statements here)) decl.streams)))
      (body_sides here.body body_known)

  assertions_from : (ss : List Statement) → AllByRecursion Text_known (flat_map (statement_texts (component_of i)) ss) →
      AllByRecursion (TextFits i (on_clock base)) (assertions ss)
  assertions_from [] a = tt
  assertions_from (equation xs e ∷ ss) a = assertions_from ss a.1
  assertions_from (assertion e ∷ ss) a = (text_fits (on_clock base) e a.0, assertions_from ss a.1)
  assertions_from (property l ∷ ss) a = assertions_from ss a.1
  assertions_from (main_mark w ∷ ss) a = assertions_from ss a

  pub assertions_fit : AllByRecursion (TextFits i (on_clock base)) (assertions (component_of i).body)
  assertions_fit = assertions_from here.body body_known

  -- ---- constants hold no calls

  abbrev NoSite : Occurrence → Type 0
  NoSite o = site_in o.standing o.expression ≡ []

  no_site : (s : Scope) (t : Standing) (e : Expression) → hinders_constant s e ≡ [] → site_in t e ≡ []
  no_site s t (call q k f as_) h = not_nil _ _ h
  no_site s t (condact q k a f as_ ds) h = not_nil _ _ h
  no_site s t (truth q a) h = refl
  no_site s t (number q a) h = refl
  no_site s t (name q a) h = refl
  no_site s t (negation q a) h = refl
  no_site s t (minus q a) h = refl
  no_site s t (pre q l a) h = refl
  no_site s t (arrow q l a b) h = refl
  no_site s t (binary q o a b) h = refl
  no_site s t (choice q a b d) h = refl
  no_site s t (sampled q a b x) h = refl
  no_site s t (merged q x a b) h = refl
  no_site s t (mode_name q d m) h = refl

  abbrev pub IsFree : Expression → Type 0
  IsFree e = AllByRecursion (λ o. site_in o.standing o.expression ≡ []) (occurrences (component_of i) (on_clock base) e)

  free_of : (s : Scope) → s.owner ≡ component_of i → (e : Expression) → not_allowed s e ≡ [] → IsFree e
  free_of s o e h =
      subst (λ n. AllByRecursion NoSite (occurrences n (on_clock base) e)) o
      (all_from (λ (q : Occurrence). hinders_constant s q.expression ≡ []) NoSite (λ q a. no_site s q.standing q.expression a)
      (occurrences s.owner (on_clock base) e)
      (none_mapped (λ q. hinders_constant s q.expression) (occurrences s.owner (on_clock base) e) (no_positions (fault not_constant) _ h)))

  abbrev pub ItemFree : ContractStatement → Type 0
  ItemFree (constant x) = IsFree x.value
  ItemFree _ = Unit {0}

  items_free_from : (bs xs : List ContractStatement) → contract_faults place bs xs ≡ [] → AllByRecursion ItemFree xs
  items_free_from bs [] f = tt
  items_free_from bs (x ∷ xs) f =
      let r = no_parts (contract_statement_faults (contract_statement_scope place bs) x) (contract_faults place (bs ++ x ∷ []) xs) f in
      (one x r.0, items_free_from (bs ++ x ∷ []) xs r.1)
    where
      one : (x : ContractStatement) → contract_statement_faults (contract_statement_scope place bs) x ≡ [] → ItemFree x
      one (constant y) f =
          free_of (contract_statement_scope place bs) refl y.value (no_parts (not_allowed (contract_statement_scope place bs) y.value) _
          (no_parts (not_allowed (contract_statement_scope place bs) y.value ++ expression_faults (contract_statement_scope place bs) (on_clock base) y.value) _ f).0).0
      one (assume l) f = tt
      one (guarantee l) f = tt
      one (ghost_variable y e) f = tt
      one (mode m rs es) f = tt
      one («import» k y as_ ys) f = tt

  constants_free_from : (k : ℕ) (xs : List Constant) → local_constant_faults place k xs ≡ [] → AllByRecursion (λ (x : Constant). IsFree x.value) xs
  constants_free_from k [] f = tt
  constants_free_from k (x ∷ xs) f =
      let r = no_parts (definition_faults (constant_scope place k) x.sort x.value) (local_constant_faults place (suc k) xs) f in (
        free_of (constant_scope place k) refl x.value (no_parts (not_allowed (constant_scope place k) x.value) _
            (no_parts (not_allowed (constant_scope place k) x.value ++ expression_faults (constant_scope place k) (on_clock base) x.value) _ r.0).0).0,
        constants_free_from (suc k) xs r.1,
      )

  pub items_free : AllByRecursion ItemFree (contract_statements (component_of i))
  items_free = items_free_from [] (contract_statements here) (typed_declaration p (typed_tree p c) at_place (place_of 0 p (component_of i) j).is j).contract

  pub constants_free : AllByRecursion (λ (x : Constant). IsFree x.value) (component_of i).constants
  constants_free = constants_free_from 0 here.constants (typed_declaration p (typed_tree p c) at_place (place_of 0 p (component_of i) j).is j).constants

  -- ---- properties

  properties_from : (ss : List Statement) → AllByRecursion Text_known (flat_map (statement_texts (component_of i)) ss) →
      AllByRecursion (TextFits i (on_clock base)) (property_texts ss)
  properties_from [] a = tt
  properties_from (equation xs e ∷ ss) a = properties_from ss a.1
  properties_from (assertion e ∷ ss) a = properties_from ss a.1
  properties_from (property l ∷ ss) a = (text_fits (on_clock base) l.value a.0, properties_from ss a.1)
  properties_from (main_mark w ∷ ss) a = properties_from ss a

  pub properties_fit : AllByRecursion (TextFits i (on_clock base)) (property_texts (component_of i).body)
  properties_fit = properties_from here.body body_known
