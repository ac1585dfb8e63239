-- In a checked program streams, equations, flags and imports of a declaration have their types and clocks.
use Rattle.std.proofs.Common.{◌≡◌, ℕ, zero, suc, Bool, true, false, cond, not, ◌&&◌, ◌==◌, List, [], ◌∷◌, ◌++◌, map, flat_map, length, Option, Some, None, option_map, option_to_list, unwrap_or, refl, sym, ap, ◌∙◌, subst, arith}
use Rattle.std.specs.Prelude.{Contains, find, is_none, option_and_then}
use Rattle.std.specs.List.{AllByRecursion, list_any, list_all}
use Rattle.std.specs.Map.{lookup}
use Rattle.std.specs.Str.{bytes_eq}
use Rattle.std.proofs.lemmas.Bool.{false≢true, eqb-true}
use Rattle.std.proofs.lemmas.Grind.{flat_map-append}
use Rattle.std.proofs.lemmas.Option.{none-some}
use Rattle.lus_tree.specs.declared.place.Sort.{Sort}
use Rattle.lus_tree.specs.declared.place.Sort.TheVariants.{Bool as Flags}
use Rattle.lus_tree.specs.Tree.{Name, text_of, Spelled, Expression, truth, number, name, negation, minus, pre, arrow, binary, choice, sampled, merged, call, condact, mode_name, Variable, Labelled, Statement, equation, assertion, property, main_mark, ContractStatement, assume, guarantee, ghost_variable, constant, mode, «import», Component, Program}
use Rattle.lus_tree.specs.Reason.{name_unknown, type_clash, arity_clash, clock_clash, input_defined}
use Rattle.lus_meaning.specs.Value.{absent}
use Rattle.lus_meaning.specs.Scene.{Clock, base, sampled_by, as_import, Instance, component_of, constants_of, call_instance, clock_from, clock_of, clock_of_names, contract_statements, ghosts, variables}
use Rattle.lus_meaning.specs.Program.{import_site, constants_in, instance_within, instance_of}
use Rattle.lus_meaning.specs.Run.{equations, ghost_equations, body_equations, sort_of, sort_of_name, sort_of_value}
use Rattle.lus_meaning.specs.Occurrences.{Standing, on_clock, as_side, within, before, moved, Text, on_base, contract_statement_texts, statement_texts, constant_texts, texts, begin}
use Rattle.lus_meaning.specs.Depends.{named_in}
use Rattle.lus_meaning.specs.Scope.{Role, an_input, an_output, a_local, a_ghost, a_constant, Entry, is_constant_role, is_output_role, Scope, holds_of, entry_of, is_known, sort_of_entry, type_of, node_named, contract_named, contract_statement_scope, body_scope}
use Rattle.lus_meaning.specs.Faults.{if_so, fault, differ}
use Rattle.lus_meaning.specs.ExpressionFaults.{used, used_as_clock, needs_sort, sorts_fit, arguments_fit, flag_faults, expression_faults, differs_from, some_differ, outputs_fit, value_fits, sides_fit, equation_faults}
use Rattle.lus_meaning.specs.NameFaults.{home, clock_words, flags_of, output_known, output_sorts, import_fits, contract_statement_faults, contract_faults, statement_faults}
use Rattle.lus_meaning.specs.ClockFaults.{components, same_clock, name_clock, clock_faults_of, all_on_base, contract_statement_clock_faults, statement_clock_faults}
use Rattle.lus_meaning.specs.EquationFaults.{body_sides, body_lefts, definable, left_faults, of_left}
use Rattle.lus_meaning.specs.Grammatical.{IsGrammaticalComponent, ghost_names, has_left_name}
use Rattle.lus_meaning.specs.Refusals.{IsChecked}
use Rattle.lus_meaning.proofs.EachPart.{Each}
use Rattle.lus_meaning.proofs.Lists.{all_from, all_from_both, both_parts}
use Rattle.lus_meaning.proofs.NamesOnce.{no_parts, not_nil, not_so, at_one, empty_of}
use Rattle.lus_meaning.proofs.Now.{left_part, right_part}
use Rattle.lus_meaning.proofs.RulesFit.{none_mapped}
use Rattle.rule_laws.specs.Laws.{placed, table, Agrees}
use Rattle.rule_laws.specs.Fitting.{sorts_of, IsStreamOn, OnBase}
use Rattle.rule_laws.specs.Declarations.{ClockFits, StreamFits, right_sorts, EquationFits, contract_flags, statement_flags, flags_in, values_of, ImportFits, DeclarationFits, DeclarationsFit}
use Rattle.rule_laws.proofs.Constants.{is_word}
use Rattle.rule_laws.proofs.Covered.{moved_on, ImportPlaced, imports_placed}
use Rattle.rule_laws.proofs.Fitted.{same_sorts, same_clocks, is_known_here, Shown, TypedPart, typed, needed, clock_word}
use Rattle.rule_laws.proofs.Goods.{PlaceOf, place_of, text_typed, each_passes, without_clocks, CleanDeclaration, clean_declaration}
use Rattle.rule_laws.proofs.Known.{SameFound}
use Rattle.rule_laws.proofs.Lists.{all_mapped}
use Rattle.rule_laws.proofs.Places.{all_grammatical}
use Rattle.rule_laws.proofs.Tables.{outputs_on_base, IsStream, declared_streams, typed_tables}
use Rattle.rule_laws.proofs.Texts.{IsClean, AreClean, clean_flag, clean_side, clean_arguments, ScopeOf, contract_scope_of, constant_scope_of}
use Rattle.rule_laws.proofs.TypedModes.{component, shown, TextPlaced, texts_placed}
use Rattle.rule_laws.proofs.Unfolded.{typed_tree, each_unfolded}
use Rattle.rule_laws.proofs.Truths.{not_false, first_false, second_false, both_true, same_some}
use Rattle.lus_meaning.proofs.Members.{at_named}

no_constant : (r : Role) → is_output_role r ≡ true → is_constant_role r ≡ false
no_constant an_output e = refl
no_constant an_input e = absurd (false≢true e)
no_constant a_local e = absurd (false≢true e)
no_constant a_ghost e = absurd (false≢true e)
no_constant a_constant e = absurd (false≢true e)

output_entry : (a b : Option Entry) → SameFound a b → unwrap_or (option_map (λ e. is_output_role e.role) a) false ≡ true
    → (e : Entry) × (b ≡ Some e) × (is_output_role e.role ≡ true)
output_entry None b s h = absurd (false≢true h)
output_entry (Some x) None s h = absurd (none-some x.role (sym s.role))
output_entry (Some x) (Some e) s h = (e, refl, ap is_output_role (sym (same_some s.role)) ∙ h)

-- ---- streams

constants_within : (d : ℕ) (p : Program) (n : Component) → constants_of (instance_within d p n) ≡ constants_in p n
constants_within zero p n = refl
constants_within (suc d) p n = refl

clock_is : (n : Component) (x : Name) (c : Clock) → name_clock n x ≡ Some c → c ≡ clock_of n x
clock_is n x c e = go (find (λ v. bytes_eq x v.name.text) (variables n)) e
  where
    go : (o : Option Variable) → option_map (λ v. clock_from v.clock) o ≡ Some c → c ≡ clock_from (unwrap_or (option_map (λ v. v.clock) o) None)
    go None h = absurd (none-some c h)
    go (Some v) h = sym (same_some h)

same_ghosts : (cs : List ContractStatement) → flat_map ghost_names cs ≡ ghosts cs
same_ghosts [] = refl
same_ghosts (assume l ∷ cs) = same_ghosts cs
same_ghosts (guarantee l ∷ cs) = same_ghosts cs
same_ghosts (ghost_variable x e ∷ cs) = ap (λ vs. x ∷ vs) (same_ghosts cs)
same_ghosts (constant c ∷ cs) = same_ghosts cs
same_ghosts (mode m rs es ∷ cs) = same_ghosts cs
same_ghosts («import» k c as_ xs ∷ cs) = same_ghosts cs

-- the variables of a declaration, by parts
record Parts (P : Variable → Type 0) (n : Component) : Type 0 where
  inputs : AllByRecursion P n.inputs
  outputs : AllByRecursion P n.outputs
  locals : AllByRecursion P n.locals
  others : AllByRecursion P (ghosts (contract_statements n))

parts_of : (P : Variable → Type 0) (n : Component) → AllByRecursion P (variables n) → Parts P n
parts_of P n a =
    let three : AllByRecursion P (n.inputs ++ n.outputs ++ n.locals) = left_part P (n.inputs ++ n.outputs ++ n.locals) (ghosts (contract_statements n)) a in
    let two : AllByRecursion P (n.inputs ++ n.outputs) = left_part P (n.inputs ++ n.outputs) n.locals three in
    record {
      inputs = left_part P n.inputs n.outputs two;
      outputs = right_part P n.inputs n.outputs two;
      locals = right_part P (n.inputs ++ n.outputs) n.locals three;
      others = right_part P (n.inputs ++ n.outputs ++ n.locals) (ghosts (contract_statements n)) a;
    }

of_parts : (P : Variable → Type 0) (n : Component) → Parts P n → AllByRecursion P (variables n)
of_parts P n q =
    both_parts P (n.inputs ++ n.outputs ++ n.locals) (ghosts (contract_statements n))
    (both_parts P (n.inputs ++ n.outputs) n.locals (both_parts P n.inputs n.outputs q.inputs q.outputs) q.locals) q.others

-- inputs, outputs and ghost variables stand on the base clock
record OthersOnBase (n : Component) : Type 0 where
  inputs : OnBase n.inputs
  outputs : OnBase n.outputs
  ghosts : OnBase (ghosts (contract_statements n))

others_on_base : (n : Component) → IsGrammaticalComponent n → OthersOnBase n
others_on_base n g =
    let none : Variable → Type 0 = λ v. is_none v.clock ≡ true in
    let all : AllByRecursion none (n.inputs ++ (n.outputs ++ flat_map ghost_names (contract_statements n))) =
    each_passes (λ v. is_none v.clock) (n.inputs ++ (n.outputs ++ flat_map ghost_names (contract_statements n))) g.clocks in
    let rest : AllByRecursion none (n.outputs ++ flat_map ghost_names (contract_statements n)) =
    right_part none n.inputs (n.outputs ++ flat_map ghost_names (contract_statements n)) all in
    record {
      inputs = without_clocks n.inputs (left_part none n.inputs (n.outputs ++ flat_map ghost_names (contract_statements n)) all);
      outputs = without_clocks n.outputs (left_part none n.outputs (flat_map ghost_names (contract_statements n)) rest);
      ghosts = without_clocks (ghosts (contract_statements n)) (subst (AllByRecursion none) (same_ghosts (contract_statements n))
          (right_part none n.outputs (flat_map ghost_names (contract_statements n)) rest));
    }

module _ (p : Program) (c : IsChecked p) (h : ℕ × Component) (place : Contains (placed 0 p) h) (d : Contains (components p) h.1) where
  abbrev i : Instance
  i = instance_of p h.1

  abbrev own : component_of i ≡ h.1
  own = component p c h place d i refl

  abbrev sees : (s : Scope) → ScopeOf p h s → Shown s i
  sees s o = shown p c h place d i refl s o

  abbrev Placed : Text → Type 0
  Placed = TextPlaced p c h place d i refl

  -- a declared stream, on its clock
  abbrev IsStreamHere : Name → Type 0
  IsStreamHere x = IsStreamOn i (clock_of (component_of i) x) (sort_of_name i x) x

  stream_on : (v : Variable) → IsStream h.1 (constants_in p h.1) v → IsStreamOn i (clock_from v.clock) v.sort v.name.text
  stream_on v q =
      let x : Name = v.name.text in record {
        stream = subst (λ ks. lookup (bytes_eq x) ks ≡ None) (sym (constants_within (length p) p h.1)) q.none;
        clock = subst (λ n. name_clock n x ≡ Some (clock_from v.clock)) (sym own) (ap (option_map (λ w. clock_from w.clock)) q.found);
        sort = subst (λ n. unwrap_or (option_map (λ w. w.sort) (find (λ w. bytes_eq x w.name.text) (variables n)))
            (sort_of_value (unwrap_or (lookup (bytes_eq x) (constants_of i)) absent)) ≡ v.sort) (sym own)
            (ap (λ o. unwrap_or (option_map (λ w. w.sort) o) (sort_of_value (unwrap_or (lookup (bytes_eq x) (constants_of i)) absent))) q.found);
      }

  here : (x : Name) (k : Clock) (q : Sort) → IsStreamOn i k q x → IsStreamHere x
  here x k q s = record { stream = s.stream; clock = s.clock ∙ ap (λ y. Some y) (clock_is (component_of i) x k s.clock); sort = refl }

  streams_on : AllByRecursion (λ v. IsStreamOn i (clock_from v.clock) v.sort v.name.text) (variables h.1)
  streams_on = all_from (IsStream h.1 (constants_in p h.1)) (λ v. IsStreamOn i (clock_from v.clock) v.sort v.name.text) stream_on (variables h.1)
      (declared_streams p c.rules.clocked.typed h place)

  streams_here : Parts (λ v. IsStreamHere v.name.text) h.1
  streams_here = parts_of (λ v. IsStreamHere v.name.text) h.1
      (all_from (λ v. IsStreamOn i (clock_from v.clock) v.sort v.name.text) (λ v. IsStreamHere v.name.text)
      (λ v s. here v.name.text (clock_from v.clock) v.sort s) (variables h.1) streams_on)

  defined_here : (x : Name) → named_in x (definable h.1) ≡ true → IsStreamHere x
  defined_here x e = at_named IsStreamHere x (definable h.1) (all_mapped IsStreamHere (λ v. v.name.text) (h.1.outputs ++ h.1.locals)
      (both_parts (λ v. IsStreamHere v.name.text) h.1.outputs h.1.locals streams_here.outputs streams_here.locals)) e

  clean : CleanDeclaration p h
  clean = clean_declaration p c h place d

  grammatical : IsGrammaticalComponent h.1
  grammatical = at_one IsGrammaticalComponent (components p) h.1 (all_grammatical p c.grammatical) d

  on_base_fit : (vs : List Variable) → OnBase vs → AllByRecursion (λ v. ClockFits i v.clock) vs
  on_base_fit [] a = tt
  on_base_fit (v ∷ vs) a = (subst (ClockFits i) (sym a.0) tt, on_base_fit vs a.1)

  locals_fit : (vs : List Variable) → flat_map (used_as_clock (body_scope (home p h.0 h.1))) (flat_map clock_words vs) ≡ []
      → AllByRecursion (λ v. ClockFits i v.clock) vs
  locals_fit [] e = tt
  locals_fit (v ∷ vs) e =
      let sc : Scope = body_scope (home p h.0 h.1) in
      let q = no_parts (flat_map (used_as_clock sc) (clock_words v)) (flat_map (used_as_clock sc) (flat_map clock_words vs))
      (sym (flat_map-append (used_as_clock sc) (clock_words v) (flat_map clock_words vs)) ∙ e) in
      (one v.clock q.0, locals_fit vs q.1)
    where
      one : (o : Option (Bool × Spelled)) → flat_map (used_as_clock (body_scope (home p h.0 h.1))) (option_to_list (option_map (λ k. k.1) o)) ≡ []
          → ClockFits i o
      one None f = tt
      one (Some k) f = clock_word (body_scope (home p h.0 h.1)) i (sees (body_scope (home p h.0 h.1)) (constant_scope_of p h (length h.1.constants))) k.1
          (no_parts (used_as_clock (body_scope (home p h.0 h.1)) k.1) [] f).0

  streams_fit : AllByRecursion (StreamFits i) (variables h.1)
  streams_fit =
      let b : OthersOnBase h.1 = others_on_base h.1 grammatical in
      let clocks : AllByRecursion (λ v. ClockFits i v.clock) (variables h.1) = of_parts (λ v. ClockFits i v.clock) h.1 record {
        inputs = on_base_fit h.1.inputs b.inputs;
        outputs = on_base_fit h.1.outputs b.outputs;
        locals = locals_fit h.1.locals clean.typed.clocks;
        others = on_base_fit (ghosts (contract_statements h.1)) b.ghosts;
      } in
      all_from_both (λ v. IsStreamOn i (clock_from v.clock) v.sort v.name.text) (λ v. ClockFits i v.clock) (StreamFits i)
      (λ v s k. record { name = s; clock = k }) (variables h.1) streams_on clocks

  -- ---- equations

  abbrev GoodHere : (s : Scope) → ScopeOf p h s → Standing → Expression → Type 0
  GoodHere s o t e = Each (TypedPart s i) (component_of i) t e

  abbrev AllKnown : Scope → List Spelled → Type 0
  AllKnown s xs = AllByRecursion (λ x. is_known s x.text ≡ true) xs

  sort_known : (s : Scope) → ScopeOf p h s → (x : Name) → is_known s x ≡ true → sort_of_entry s x ≡ Some (sort_of_name i x)
  sort_known s o x k = ((sees s o).names x k).0

  known_left : (s : Scope) (xs : List Spelled) → flat_map (λ x. used s x.text x.at) xs ≡ [] → AllKnown s xs
  known_left s [] e = tt
  known_left s (x ∷ xs) e =
      let q = no_parts (used s x.text x.at) (flat_map (λ (y : Spelled). used s y.text y.at) xs) e in
      (is_known_here s x.text x.at q.0, known_left s xs q.1)

  value_right : (s : Scope) → ScopeOf p h s → (xs : List Spelled) (e : Expression) (q : Sort) → AllKnown s xs → type_of s e ≡ Some q
      → value_fits s xs e ≡ [] → map (sort_of_name i) (map text_of xs) ≡ q ∷ []
  value_right s o [] e q a t f = not_nil _ _ f
  value_right s o (x ∷ []) e q a t f =
      let w : differ (sort_of_entry s x.text) (type_of s e) ≡ false = not_so (differs_from s x (type_of s e)) type_clash (begin e) f in
      ap (λ r. r ∷ []) (same_sorts (sort_of_name i x.text) q (subst (λ r. differ (Some (sort_of_name i x.text)) r ≡ false) t
      (subst (λ r. differ r (type_of s e) ≡ false) (sort_known s o x.text a.0) w)))
  value_right s o (x ∷ y ∷ zs) e q a t f = not_nil _ _ f

  outputs_agree : (s : Scope) → ScopeOf p h s → (xs : List Spelled) (vs : List Variable) → AllKnown s xs → length vs ≡ length xs
      → some_differ s xs vs ≡ false → map (sort_of_name i) (map text_of xs) ≡ sorts_of vs
  outputs_agree s o [] [] a l f = refl
  outputs_agree s o [] (v ∷ vs) a l f = absurd (omega arith)
  outputs_agree s o (x ∷ xs) [] a l f = absurd (omega arith)
  outputs_agree s o (x ∷ xs) (v ∷ vs) a l f =
      let w : differ (sort_of_entry s x.text) (Some v.sort) ≡ false = first_false (differs_from s x (Some v.sort)) (some_differ s xs vs) f in
      rw (
        same_sorts (sort_of_name i x.text) v.sort (subst (λ r. differ r (Some v.sort) ≡ false) (sort_known s o x.text a.0) w),
        outputs_agree s o xs vs a.1 (omega arith) (second_false (differs_from s x (Some v.sort)) (some_differ s xs vs) f),
      ) refl

  outputs_right : (s : Scope) → ScopeOf p h s → (xs : List Spelled) (e : Expression) (f : Spelled) (m : Component) (w : Option Component)
      → w ≡ Some m → AllKnown s xs → outputs_fit s xs e f w ≡ [] → map (sort_of_name i) (map text_of xs) ≡ sorts_of m.outputs
  outputs_right s o xs e f m w j a g =
      go (length m.outputs == length xs) refl (subst (λ r. outputs_fit s xs e f r ≡ []) j g)
    where
      go : (b : Bool) → (length m.outputs == length xs) ≡ b
          → cond b (if_so (some_differ s xs m.outputs) type_clash (begin e)) (fault arity_clash f.at ∷ []) ≡ []
          → map (sort_of_name i) (map text_of xs) ≡ sorts_of m.outputs
      go true k r = outputs_agree s o xs m.outputs a (eqb-true (length m.outputs) (length xs) k)
          (not_so (some_differ s xs m.outputs) type_clash (begin e) r)
      go false k r = not_nil _ _ r

  -- the left names have the types of the right side
  sides_right : (s : Scope) (o : ScopeOf p h s) (k : Clock) (xs : List Spelled) (e : Expression) → AllKnown s xs
      → GoodHere s o (as_side k) e → sides_fit s xs e ≡ [] → map (sort_of_name i) (map text_of xs) ≡ right_sorts i e
  sides_right s o k xs (truth q b) a g f = value_right s o xs (truth q b) _ a refl f
  sides_right s o k xs (number q n) a g f = value_right s o xs (number q n) _ a refl f
  sides_right s o k xs (name q x) a g f = value_right s o xs (name q x) _ a
      (typed s i (sees s o) (name q x) (on_clock k) refl record { types = g.types; sites = g.sites }) f
  sides_right s o k xs (negation q x) a g f = value_right s o xs (negation q x) _ a refl f
  sides_right s o k xs (minus q x) a g f = value_right s o xs (minus q x) _ a refl f
  sides_right s o k xs (pre q n x) a g f = value_right s o xs (pre q n x) _ a (typed s i (sees s o) x (before (as_side k)) refl g.1) f
  sides_right s o k xs (arrow q n x y) a g f = value_right s o xs (arrow q n x y) _ a (typed s i (sees s o) x (within (as_side k)) refl g.1) f
  sides_right s o k xs (binary q w x y) a g f = value_right s o xs (binary q w x y) _ a refl f
  sides_right s o k xs (choice q x y z) a g f = value_right s o xs (choice q x y z) _ a (typed s i (sees s o) y (within (as_side k)) refl g.2) f
  sides_right s o k xs (sampled q x b y) a g f = value_right s o xs (sampled q x b y) _ a
      (typed s i (sees s o) x (moved (clock_of (component_of i) y.text) (as_side k)) refl g.1) f
  sides_right s o k xs (merged q x y z) a g f = value_right s o xs (merged q x y z) _ a
      (typed s i (sees s o) y (moved (sampled_by true x.text) (as_side k)) refl g.1) f
  sides_right s o k xs (call q n x as_) a g f = outputs_right s o xs (call q n x as_) x (component_of (call_instance i n))
      (node_named s.program x.text) g.0.sites.0.place.callee a f
  sides_right s o k xs (condact q n x y as_ ds) a g f = outputs_right s o xs (condact q n x y as_ ds) y (component_of (call_instance i n))
      (node_named s.program y.text) g.0.sites.0.place.callee a f
  sides_right s o k xs (mode_name q x y) a g f = value_right s o xs (mode_name q x y) _ a refl f

  good : (s : Scope) (o : ScopeOf p h s) (x : Text) → IsClean s x → Placed x → GoodHere s o x.0 x.1
  good s o x k a = text_typed p i s o.program (sees s o) x k.typed a

  -- left names that are streams, on this clock
  lefts_on : (k : Clock) (xs : List Spelled) → AllByRecursion (λ x. IsStreamHere x.text × (clock_of (component_of i) x.text ≡ k)) xs
      → AllByRecursion (λ x. IsStreamOn i k (sort_of_name i x) x) (map text_of xs)
  lefts_on k [] a = tt
  lefts_on k (x ∷ xs) a = (subst (λ q. IsStreamOn i q (sort_of_name i x.text) x.text) a.0.1 a.0.0, lefts_on k xs a.1)

  equation_fits : (s : Scope) (o : ScopeOf p h s) (k : Clock) (x : Spelled) (xs : List Spelled) (e : Expression) → equation_faults s k (x ∷ xs) e ≡ []
      → clock_faults_of s.owner k e ≡ [] → Placed (as_side k, e) → clock_of_names (component_of i) (map text_of (x ∷ xs)) ≡ k
      → AllByRecursion (λ y. IsStreamHere y.text × (clock_of (component_of i) y.text ≡ k)) (x ∷ xs)
      → EquationFits i record { names = map text_of (x ∷ xs); right = e }
  equation_fits s o k x xs e f g a j b =
      let two = no_parts (flat_map (λ (y : Spelled). used s y.text y.at) (x ∷ xs) ++ sides_fit s (x ∷ xs) e) (expression_faults s (as_side k) e) f in
      let one = no_parts (flat_map (λ (y : Spelled). used s y.text y.at) (x ∷ xs)) (sides_fit s (x ∷ xs) e) two.0 in
      record {
        names = subst (λ q. AllByRecursion (λ y. IsStreamOn i q (sort_of_name i y) y) (map text_of (x ∷ xs))) (sym j) (lefts_on k (x ∷ xs) b);
        sorts = sides_right s o k (x ∷ xs) e (known_left s (x ∷ xs) one.0) (good s o (as_side k, e) (clean_side s k x xs e f g) a) one.1;
      }

  -- ---- flags

  abbrev IsFlagHere : Expression → Type 0
  IsFlagHere e = sort_of i e ≡ Flags

  flag_fits : (s : Scope) → ScopeOf p h s → (e : Expression) → flag_faults s e ≡ [] → clock_faults_of s.owner base e ≡ []
      → Placed (on_clock base, e) → IsFlagHere e
  flag_fits s o e f g a = needed s i (sees s o) e (on_clock base) Flags refl (good s o (on_clock base, e) (clean_flag s e f g) a)
      (no_parts (needs_sort s Flags e) (expression_faults s (on_clock base) e) f).0

  flags_fit : (s : Scope) → ScopeOf p h s → (ls : List Labelled) → flags_of s ls ≡ [] → all_on_base s.owner ls ≡ []
      → AllByRecursion Placed (on_base ls) → AllByRecursion IsFlagHere (values_of ls)
  flags_fit s o [] f g a = tt
  flags_fit s o (l ∷ ls) f g a =
      let types = no_parts (flag_faults s l.value) (flags_of s ls) f in
      let clocks = no_parts (clock_faults_of s.owner base l.value) (all_on_base s.owner ls) g in
      (flag_fits s o l.value types.0 clocks.0 a.0, flags_fit s o ls types.1 clocks.1 a.1)

  -- ---- imports

  list_sorts : (s : Scope) (o : ScopeOf p h s) (vs : List Variable) (as_ : List Expression) → AllByRecursion (λ a. GoodHere s o (on_clock base) a) as_
      → length vs ≡ length as_ → sorts_fit s vs as_ ≡ [] → map (sort_of i) as_ ≡ sorts_of vs
  list_sorts s o [] [] g l f = refl
  list_sorts s o [] (a ∷ as_) g l f = absurd (omega arith)
  list_sorts s o (v ∷ vs) [] g l f = absurd (omega arith)
  list_sorts s o (v ∷ vs) (a ∷ as_) g l f =
      let q = no_parts (needs_sort s v.sort a) (sorts_fit s vs as_) f in
      rw (needed s i (sees s o) a (on_clock base) v.sort refl g.0 q.0, list_sorts s o vs as_ g.1 (omega arith) q.1) refl

  all_good : (s : Scope) (o : ScopeOf p h s) (as_ : List Expression) → AreClean s (map (λ a. (on_clock base, a)) as_)
      → AllByRecursion Placed (map (λ a. (on_clock base, a)) as_) → AllByRecursion (λ a. GoodHere s o (on_clock base) a) as_
  all_good s o [] k a = tt
  all_good s o (x ∷ xs) k a = (good s o (on_clock base, x) k.0 a.0, all_good s o xs k.1 a.1)

  -- an output of the declaration, and its type in a scope
  record OutputHere (s : Scope) (x : Name) : Type 0 where
    stream : IsStreamOn i base (sort_of_name i x) x
    sort : sort_of_entry s x ≡ Some (sort_of_name i x)

  output_here : (s : Scope) → ScopeOf p h s → (x : Name) → holds_of (λ e. is_output_role e.role) s x ≡ true → OutputHere s x
  output_here s o x e =
      let q : (w : Entry) × (find (is_word x) (table p h) ≡ Some w) × (is_output_role w.role ≡ true) =
      output_entry (entry_of s x) (find (is_word x) (table p h)) (o.shows x) e in
      let a : Agrees i x q.0 = typed_tables p c.rules.clocked.typed h place x q.0 q.1 in
      let no : is_constant_role q.0.role ≡ false = no_constant q.0.role q.2 in record {
        stream = record {
          stream = a.constant ∙ ap (λ b. cond b (Some q.0.value) None) no;
          clock = a.stream ∙ ap (λ b. cond b None (Some q.0.clock)) no
              ∙ ap (λ k. Some k) (outputs_on_base p h (others_on_base h.1 grammatical).outputs x q.0 q.1 q.2);
          sort = refl;
        };
        sort = (o.shows x).sort ∙ ap (option_and_then (λ w. w.sort)) q.1 ∙ a.sort;
      }

  outputs_sorted : (s : Scope) → ScopeOf p h s → (vs : List Variable) (ws : List Spelled) → AllByRecursion (λ w. OutputHere s w.text) ws
      → length vs ≡ length ws → output_sorts s vs ws ≡ [] → map (sort_of_name i) (map text_of ws) ≡ sorts_of vs
  outputs_sorted s o [] [] a l f = refl
  outputs_sorted s o [] (w ∷ ws) a l f = absurd (omega arith)
  outputs_sorted s o (v ∷ vs) [] a l f = absurd (omega arith)
  outputs_sorted s o (v ∷ vs) (w ∷ ws) a l f =
      let q = no_parts (if_so (differ (Some v.sort) (sort_of_entry s w.text)) type_clash w.at) (output_sorts s vs ws) f in
      let one : differ (Some v.sort) (sort_of_entry s w.text) ≡ false = not_so (differ (Some v.sort) (sort_of_entry s w.text)) type_clash w.at q.0 in
      rw (
        same_sorts v.sort (sort_of_name i w.text) (subst (λ r. differ (Some v.sort) r ≡ false) a.0.sort one),
        outputs_sorted s o vs ws a.1 (omega arith) q.1,
      ) refl

  outputs_listed : (s : Scope) → ScopeOf p h s → (ws : List Spelled) → flat_map (output_known s) ws ≡ [] → AllByRecursion (λ w. OutputHere s w.text) ws
  outputs_listed s o [] e = tt
  outputs_listed s o (w ∷ ws) e =
      let known : Bool = holds_of (λ e. is_output_role e.role) s w.text in
      let q = no_parts (output_known s w) (flat_map (output_known s) ws) e in
      (output_here s o w.text (not_false known (not_so (not known) name_unknown w.at q.0)), outputs_listed s o ws q.1)

  streams_listed : (s : Scope) (ws : List Spelled) → AllByRecursion (λ w. OutputHere s w.text) ws
      → AllByRecursion (λ x. IsStreamOn i base (sort_of_name i x) x) (map text_of ws)
  streams_listed s [] a = tt
  streams_listed s (w ∷ ws) a = (a.0.stream, streams_listed s ws a.1)

  -- the parts of an import's faults
  record ImportRight (s : Scope) (m : Component) (as_ : List Expression) (ws : List Spelled) : Type 0 where
    inputs : length m.inputs ≡ length as_
    outputs : length m.outputs ≡ length ws
    arguments : sorts_fit s m.inputs as_ ≡ []
    shared : output_sorts s m.outputs ws ≡ []

  import_right : (s : Scope) (x : Spelled) (as_ : List Expression) (ws : List Spelled) (m : Component) → import_fits s x as_ ws (Some m) ≡ []
      → ImportRight s m as_ ws
  import_right s x as_ ws m e =
      let ins : Bool = length m.inputs == length as_ in
      let outs : Bool = length m.outputs == length ws in
      let two = no_parts (if_so (not (ins && outs)) arity_clash x.at) (arguments_fit s m.inputs as_ ++ cond outs (output_sorts s m.outputs ws) []) e in
      let one = no_parts (arguments_fit s m.inputs as_) (cond outs (output_sorts s m.outputs ws) []) two.1 in
      let count : (ins ≡ true) × (outs ≡ true) = both_true ins outs (not_false (ins && outs) (not_so (not (ins && outs)) arity_clash x.at two.0)) in
      record {
        inputs = eqb-true (length m.inputs) (length as_) count.0;
        outputs = eqb-true (length m.outputs) (length ws) count.1;
        arguments = subst (λ b. cond b (sorts_fit s m.inputs as_) [] ≡ []) count.0 one.0;
        shared = subst (λ b. cond b (output_sorts s m.outputs ws) [] ≡ []) count.1 one.1;
      }

  import_fits_here : (s : Scope) (o : ScopeOf p h s) (k : ℕ) (x : Spelled) (as_ : List Expression) (ws : List Spelled)
      → contract_statement_faults s («import» k x as_ ws) ≡ [] → flat_map (clock_faults_of s.owner base) as_ ≡ []
      → AllByRecursion Placed (map (λ a. (on_clock base, a)) as_) → contract_named s.program x.text ≡ Some (component_of (call_instance i k))
      → ImportFits i record { number = k; callee = x.text; clock = base; arguments = as_; defaults = []; manner = as_import (map text_of ws) }
  import_fits_here s o k x as_ ws f g a e =
      let m : Component = component_of (call_instance i k) in
      let two = no_parts (flat_map (expression_faults s (on_clock base)) as_) (flat_map (output_known s) ws
      ++ import_fits s x as_ ws (contract_named s.program x.text)) f in
      let one = no_parts (flat_map (output_known s) ws) (import_fits s x as_ ws (contract_named s.program x.text)) two.1 in
      let r : ImportRight s m as_ ws = import_right s x as_ ws m (subst (λ w. import_fits s x as_ ws w ≡ []) e one.1) in
      let listed : AllByRecursion (λ w. OutputHere s w.text) ws = outputs_listed s o ws one.0 in
      record {
        arguments = list_sorts s o m.inputs as_ (all_good s o as_ (clean_arguments s as_ two.0 g) a) r.inputs r.arguments;
        outputs = (outputs_sorted s o m.outputs ws listed r.outputs r.shared, streams_listed s ws listed);
      }

  -- ---- the contract

  -- what the statements of a contract have
  record ContractFits (cs : List ContractStatement) : Type 0 where
    equations : AllByRecursion (EquationFits i) (ghost_equations cs)
    flags : AllByRecursion IsFlagHere (flat_map contract_flags cs)
    imports : AllByRecursion (ImportFits i) (flat_map import_site cs)

  -- a ghost variable is a stream on the base clock
  abbrev GhostHere : Variable → Type 0
  GhostHere v = IsStreamHere v.name.text × (clock_of (component_of i) v.name.text ≡ base)

  ghosts_here : (vs : List Variable) → AllByRecursion (λ v. IsStreamOn i (clock_from v.clock) v.sort v.name.text) vs → OnBase vs
      → AllByRecursion GhostHere vs
  ghosts_here [] a b = tt
  ghosts_here (v ∷ vs) a b = (
    (
      here v.name.text (clock_from v.clock) v.sort a.0,
      sym (clock_is (component_of i) v.name.text (clock_from v.clock) a.0.clock) ∙ ap clock_from b.0,
    ),
    ghosts_here vs a.1 b.1,
  )

  statement_items : (x : ContractStatement) (cs : List ContractStatement) (s : Scope) (o : ScopeOf p h s) → contract_statement_faults s x ≡ []
      → contract_statement_clock_faults s.owner x ≡ [] → AllByRecursion Placed (contract_statement_texts x)
      → AllByRecursion (ImportPlaced p i) (flat_map import_site (x ∷ cs)) → AllByRecursion GhostHere (ghosts (x ∷ cs))
      → (AllByRecursion (ImportPlaced p i) (flat_map import_site cs) → AllByRecursion GhostHere (ghosts cs) → ContractFits cs) → ContractFits (x ∷ cs)
  statement_items (assume l) cs s o f g a m v r =
      let q : ContractFits cs = r m v in record { equations = q.equations; flags = (flag_fits s o l.value f g a.0, q.flags); imports = q.imports }
  statement_items (guarantee l) cs s o f g a m v r =
      let q : ContractFits cs = r m v in record { equations = q.equations; flags = (flag_fits s o l.value f g a.0, q.flags); imports = q.imports }
  statement_items (ghost_variable x e) cs s o f g a m v r =
      let q : ContractFits cs = r m v.1 in
      record { equations = (equation_fits s o base x.name [] e f g a.0 v.0.1 (v.0, tt), q.equations); flags = q.flags; imports = q.imports }
  statement_items (constant x) cs s o f g a m v r =
      let q : ContractFits cs = r m v in record { equations = q.equations; flags = q.flags; imports = q.imports }
  statement_items (mode x rs es) cs s o f g a m v r =
      let q : ContractFits cs = r m v in
      let types = no_parts (flags_of s rs) (flags_of s es) f in
      let clocks = no_parts (all_on_base s.owner rs) (all_on_base s.owner es) g in
      record {
        equations = q.equations;
        flags = both_parts IsFlagHere (values_of rs ++ values_of es) (flat_map contract_flags cs)
            (both_parts IsFlagHere (values_of rs) (values_of es)
            (flags_fit s o rs types.0 clocks.0 (left_part Placed (on_base rs) (on_base es) a))
            (flags_fit s o es types.1 clocks.1 (right_part Placed (on_base rs) (on_base es) a))) q.flags;
        imports = q.imports;
      }
  statement_items («import» k x as_ ws) cs s o f g a m v r =
      let q : ContractFits cs = r m.1 v in
      let e : contract_named s.program x.text ≡ Some (component_of (call_instance i k)) =
      ap (λ w. contract_named w x.text) o.program ∙ m.0.callee in
      record { equations = q.equations; flags = q.flags; imports = (import_fits_here s o k x as_ ws f g a e, q.imports) }

  contract_items : (before cs : List ContractStatement) → contract_statements h.1 ≡ before ++ cs → contract_faults (home p h.0 h.1) before cs ≡ []
      → flat_map (contract_statement_clock_faults h.1) cs ≡ [] → AllByRecursion Placed (flat_map contract_statement_texts cs)
      → AllByRecursion (ImportPlaced p i) (flat_map import_site cs) → AllByRecursion GhostHere (ghosts cs) → ContractFits cs
  contract_items before [] e f g a m v = record { equations = tt; flags = tt; imports = tt }
  contract_items before (x ∷ cs) e f g a m v =
      let s : Scope = contract_statement_scope (home p h.0 h.1) before in
      let types = no_parts (contract_statement_faults s x) (contract_faults (home p h.0 h.1) (before ++ x ∷ []) cs) f in
      let clocks = no_parts (contract_statement_clock_faults h.1 x) (flat_map (contract_statement_clock_faults h.1) cs) g in
      statement_items x cs s (contract_scope_of p h before (x ∷ cs) e) types.0 clocks.0
      (left_part Placed (contract_statement_texts x) (flat_map contract_statement_texts cs) a) m v
      (contract_items (before ++ x ∷ []) cs (e ∙ moved_on before cs x) types.1 clocks.1
      (right_part Placed (contract_statement_texts x) (flat_map contract_statement_texts cs) a))

  -- ---- the body

  record BodyFits (xs : List Statement) : Type 0 where
    equations : AllByRecursion (EquationFits i) (body_equations xs)
    flags : AllByRecursion IsFlagHere (flat_map statement_flags xs)

  abbrev IsDefined : Spelled → Type 0
  IsDefined w = named_in w.text (definable h.1) ≡ true

  same_lefts : (k : Clock) (ws : List Spelled) → list_any (λ x. not (same_clock k (clock_of h.1 x))) (map text_of ws) ≡ false → AllByRecursion IsDefined ws
      → AllByRecursion (λ y. IsStreamHere y.text × (clock_of (component_of i) y.text ≡ k)) ws
  same_lefts k [] e a = tt
  same_lefts k (w ∷ ws) e a =
      let other : Bool = not (same_clock k (clock_of h.1 w.text)) in
      let rest : Bool = list_any (λ x. not (same_clock k (clock_of h.1 x))) (map text_of ws) in
      let same : k ≡ clock_of h.1 w.text = same_clocks k (clock_of h.1 w.text)
      (not_false (same_clock k (clock_of h.1 w.text)) (first_false other rest e)) in (
        (defined_here w.text a.0, ap (λ n. clock_of n w.text) own ∙ sym same),
        same_lefts k ws (second_false other rest e) a.1,
      )

  body_items : (xs : List Statement) → list_all has_left_name xs ≡ true → flat_map (statement_faults (body_scope (home p h.0 h.1))) xs ≡ []
      → flat_map (statement_clock_faults h.1) xs ≡ [] → AllByRecursion Placed (flat_map (statement_texts h.1) xs)
      → AllByRecursion IsDefined (flat_map (λ ys. ys) (body_sides xs)) → BodyFits xs
  body_items [] l f g a v = record { equations = tt; flags = tt }
  body_items (x ∷ xs) l f g a v =
      let s : Scope = body_scope (home p h.0 h.1) in
      let types = no_parts (statement_faults s x) (flat_map (statement_faults s) xs) f in
      let clocks = no_parts (statement_clock_faults h.1 x) (flat_map (statement_clock_faults h.1) xs) g in
      let lefts : (has_left_name x ≡ true) × (list_all has_left_name xs ≡ true) = both_true (has_left_name x) (list_all has_left_name xs) l in
      one x s (constant_scope_of p h (length h.1.constants)) refl lefts.0 types.0 clocks.0
      (left_part Placed (statement_texts h.1 x) (flat_map (statement_texts h.1) xs) a) v
      (body_items xs lefts.1 types.1 clocks.1 (right_part Placed (statement_texts h.1 x) (flat_map (statement_texts h.1) xs) a))
    where
      one : (x : Statement) (s : Scope) (o : ScopeOf p h s) → s.owner ≡ h.1 → has_left_name x ≡ true → statement_faults s x ≡ []
          → statement_clock_faults h.1 x ≡ [] → AllByRecursion Placed (statement_texts h.1 x)
          → AllByRecursion IsDefined (flat_map (λ ys. ys) (body_sides (x ∷ xs)))
          → (AllByRecursion IsDefined (flat_map (λ ys. ys) (body_sides xs)) → BodyFits xs) → BodyFits (x ∷ xs)
      one (equation [] e) s o j l f g a v r = absurd (false≢true l)
      one (equation (w ∷ ws) e) s o j l f g a v r =
          let k : Clock = clock_of_names h.1 (map text_of (w ∷ ws)) in
          let q : BodyFits xs = r (right_part IsDefined (w ∷ ws) (flat_map (λ ys. ys) (body_sides xs)) v) in
          let clocks = no_parts (if_so (list_any (λ x. not (same_clock k (clock_of h.1 x))) (map text_of (w ∷ ws))) clock_clash (begin e))
          (clock_faults_of h.1 k e) g in
          let lefts : AllByRecursion (λ y. IsStreamHere y.text × (clock_of (component_of i) y.text ≡ k)) (w ∷ ws) =
          same_lefts k (w ∷ ws) (not_so (list_any (λ x. not (same_clock k (clock_of h.1 x))) (map text_of (w ∷ ws))) clock_clash (begin e) clocks.0)
          (left_part IsDefined (w ∷ ws) (flat_map (λ ys. ys) (body_sides xs)) v) in
          record {
            equations = (
              equation_fits s o k w ws e (subst (λ n. equation_faults s (clock_of_names n (map text_of (w ∷ ws))) (w ∷ ws) e ≡ []) j f)
                  (subst (λ n. clock_faults_of n k e ≡ []) (sym j) clocks.1) a.0 (ap (λ n. clock_of_names n (map text_of (w ∷ ws))) own) lefts,
              q.equations,
            );
            flags = q.flags;
          }
      one (assertion e) s o j l f g a v r =
          let q : BodyFits xs = r v in
          record { equations = q.equations; flags = (flag_fits s o e f (subst (λ n. clock_faults_of n base e ≡ []) (sym j) g) a.0, q.flags) }
      one (property m) s o j l f g a v r =
          let q : BodyFits xs = r v in
          record { equations = q.equations; flags = (flag_fits s o m.value f (subst (λ n. clock_faults_of n base m.value ≡ []) (sym j) g) a.0, q.flags) }
      one (main_mark q) s o j l f g a v r = let q : BodyFits xs = r v in record { equations = q.equations; flags = q.flags }

  lefts_defined : AllByRecursion IsDefined (body_lefts h.1)
  lefts_defined =
      let none : left_faults h.1 ≡ [] = at_one (λ n. left_faults n ≡ []) (components p) h.1 (none_mapped left_faults (components p)
      (empty_of (flat_map left_faults (components p)) (λ r k. c.rules.equations r (of_left k)))) d in
      let each : AllByRecursion (λ w. if_so (not (named_in w.text (definable h.1))) input_defined w.at ≡ []) (body_lefts h.1) =
      none_mapped (λ w. if_so (not (named_in w.text (definable h.1))) input_defined w.at) (body_lefts h.1) (no_parts _ _ none).1 in
      all_from (λ w. if_so (not (named_in w.text (definable h.1))) input_defined w.at ≡ []) IsDefined
      (λ w e. not_false (named_in w.text (definable h.1)) (not_so (not (named_in w.text (definable h.1))) input_defined w.at e)) (body_lefts h.1) each

  declaration_fits : DeclarationFits i
  declaration_fits =
      let all : AllByRecursion Placed (texts h.1) = texts_placed p c h place d i refl in
      let behind : AllByRecursion Placed (constant_texts h.1.constants ++ flat_map (statement_texts h.1) h.1.body) =
      right_part Placed (flat_map contract_statement_texts (contract_statements h.1)) _ all in
      let ghosted : AllByRecursion GhostHere (ghosts (contract_statements h.1)) = ghosts_here (ghosts (contract_statements h.1))
      (parts_of (λ v. IsStreamOn i (clock_from v.clock) v.sort v.name.text) h.1 streams_on).others (others_on_base h.1 grammatical).ghosts in
      let imports : AllByRecursion (ImportPlaced p i) (flat_map import_site (contract_statements h.1)) =
      subst (λ n. AllByRecursion (ImportPlaced p i) (flat_map import_site (contract_statements n))) own
      (imports_placed p (typed_tree p c) i (each_unfolded p c h.1 d) (subst (Contains (components p)) (sym own) d)) in
      let contract : ContractFits (contract_statements h.1) = contract_items [] (contract_statements h.1) refl clean.typed.contract clean.contract_clocks
      (left_part Placed (flat_map contract_statement_texts (contract_statements h.1)) _ all) imports ghosted in
      let body : BodyFits h.1.body = body_items h.1.body clean.typed.lefts clean.typed.body clean.body_clocks
      (right_part Placed (constant_texts h.1.constants) (flat_map (statement_texts h.1) h.1.body) behind) lefts_defined in
      record {
        streams = subst (λ n. AllByRecursion (StreamFits i) (variables n)) (sym own) streams_fit;
        equations = subst (λ n. AllByRecursion (EquationFits i) (equations n)) (sym own)
            (both_parts (EquationFits i) (ghost_equations (contract_statements h.1)) (body_equations h.1.body) contract.equations body.equations);
        flags = subst (λ n. AllByRecursion IsFlagHere (flags_in n)) (sym own)
            (both_parts IsFlagHere (flat_map contract_flags (contract_statements h.1)) (flat_map statement_flags h.1.body) contract.flags body.flags);
        imports = subst (λ n. AllByRecursion (ImportFits i) (flat_map import_site (contract_statements n))) (sym own) contract.imports;
      }

pub declarations_fit : DeclarationsFit
declarations_fit p c n d = let q : PlaceOf (placed 0 p) n = place_of 0 p n d in declaration_fits p c (q.before, n) q.is d
