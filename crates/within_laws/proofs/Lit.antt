-- Each part of an instant has an expression that is light in the declaration of its frame.
use Rattle.std.proofs.Common.{◌≡◌, ℕ, zero, suc, pred, Bool, true, false, cond, List, [], ◌∷◌, ◌++◌, map, flat_map, Option, Some, option_map, slice_index_or, sym, subst}
use Rattle.std.specs.Prelude.{unwrap_or, Contains}
use Rattle.std.specs.List.{AllByRecursion}
use Rattle.std.specs.Map.{lookup}
use Rattle.lus_tree.specs.Tree.{Name, text_of, Expression, Expressions, truth, number, name, negation, minus, pre, arrow, binary, choice, sampled, merged, call, condact, mode_name, no_more, more, Labelled, Statement, equation, assertion, property, main_mark, ContractStatement, assume, guarantee, ghost_variable, constant, mode, «import», Program}
use Rattle.lus_meaning.specs.Scene.{Clock, base, sampled_by, Manner, plain, while_true, as_import, Site, Instance, Instances, instance, no_instances, with_instance, component_of, calls_of, clock_of, contract_statements, clock_of_names}
use Rattle.lus_meaning.specs.Meaning.{mode_key}
use Rattle.lus_meaning.specs.Run.{Equation, equations}
use Rattle.lus_meaning.specs.Property.{assertions}
use Rattle.lus_meaning.specs.Cycle.{Place}
use Rattle.lus_meaning.specs.ClockFaults.{components}
use Rattle.lus_meaning.specs.Occurrences.{Text, on_clock, on_base, contract_statement_texts, texts}
use Rattle.lus_meaning.specs.Program.{all_sites}
use Rattle.lus_meaning.specs.Refusals.{IsChecked}
use Rattle.lus_meaning.specs.Scope.{greatest_weight}
use Rattle.lus_meaning.proofs.Lists.{all_from, both_parts}
use Rattle.lus_meaning.proofs.Now.{left_part, right_part}
use Rattle.rule_laws.specs.Laws.{IsUnfolded, AreUnfolded}
use Rattle.rule_laws.proofs.Callees.{GoesDown, each_site}
use Rattle.clock_laws.proofs.Clocks.{declared_at}
use Rattle.frame_laws.proofs.Along.{along, IsAlong, CallsAlong}
use Rattle.sys_meaning.specs.WellTyped.{checked}
use Rattle.term_laws.proofs.Weights.{LightAmong}
use Rattle.term_laws.proofs.Lights.{IsLight, LightManner, OwnLight, SiteLight, LightTree, LightCalls, GoodText, good_texts}
use Rattle.lus_evaluation.specs.Part.{Part, Key, Setting, needs_of, key_of, asked_in, part, parts, argument_parts, operand_parts, whole_parts, wholes}
use Rattle.lus_evaluation.specs.Frame.{ModeText, ContractText, FrameText, no_text, Calls, setting, conditions_of, mode_text, imported_mode, contract_after, import_parts, equation_parts, picked, Orders, is_evaluated, call_condition, call_parts, asserted_below, asserted_in_calls, text_over, text_at, frame_text, call_texts}
use Rattle.lus_evaluation.specs.Turn.{property_texts, owed, owed_in_calls, condition_parts, in_turn}
use Rattle.within_laws.proofs.Lists.{each_picked}

-- the texts of a declaration that are light in its instance
abbrev pub TextsLight : Instance → List Text → Type 0
TextsLight i xs = AllByRecursion (λ (x : Text). IsLight i x.1) xs

values_light : (i : Instance) (ls : List Labelled) → TextsLight i (on_base ls) → AllByRecursion (IsLight i) (map (λ l. l.value) ls)
values_light i [] a = tt
values_light i (l ∷ ls) a = (a.0, values_light i ls a.1)

arguments_light : (i : Instance) (as_ : List Expression) → TextsLight i (map (λ e. (on_clock base, e)) as_) → AllByRecursion (IsLight i) as_
arguments_light i [] a = tt
arguments_light i (e ∷ as_) a = (a.0, arguments_light i as_ a.1)

checks_light : (i : Instance) (ss : List Statement) → AllByRecursion (IsLight i) (checked ss) → AllByRecursion (IsLight i) (property_texts ss)
checks_light i [] a = tt
checks_light i (property l ∷ ss) a = (a.0, checks_light i ss a.1)
checks_light i (equation xs e ∷ ss) a = checks_light i ss a
checks_light i (assertion e ∷ ss) a = checks_light i ss a
checks_light i (main_mark w ∷ ss) a = checks_light i ss a

condition_light : (i : Instance) (c : Site) (m : Manner) → LightManner i m → AllByRecursion (IsLight i) (call_condition c m)
condition_light i c plain l = tt
condition_light i c (while_true a) l = (l, tt)
condition_light i c (as_import xs) l = tt

module _ (top : Instance) where
  -- in the declaration at the end of its way of calls
  abbrev pub IsLit : Part → Type 0
  IsLit q = IsLight (along top q.way) q.expression

  abbrev pub All : List Part → Type 0
  All qs = AllByRecursion IsLit qs

  joined : (xs ys : List Part) → All xs → All ys → All (xs ++ ys)
  joined xs ys a b = both_parts IsLit xs ys a b

  -- a setting at the end of a way, where what a call evaluates and what a mode asks is light
  pub record Serves (g : Setting) : Type 0 where
    pub place : along top g.way ≡ g.place
    pub body : (k : ℕ) → All (g.body k)
    pub asked : (ns : List Place) (key : Key) → All (asked_in g ns key)

  -- ---- of an expression

  module _ (g : Setting) (s : Serves g) where
    abbrev Lit : Expression → Type 0
    Lit e = IsLight g.place e

    lit : (ns : List Place) (xs : List Name) (c : Clock) (e : Expression) → Lit e → IsLit (part g ns xs c e)
    lit ns xs c e l = subst (λ z. IsLight z e) (sym s.place) l

    -- operands, and behind them the part itself
    ended : (qs : List Part) (q : Part) → All qs → IsLit q → All (qs ++ q ∷ [])
    ended qs q a h = joined qs (q ∷ []) a (h, tt)

    two_ended : (qs rs : List Part) (q : Part) → All qs → All rs → IsLit q → All (qs ++ rs ++ q ∷ [])
    two_ended qs rs q a b h = ended (qs ++ rs) q (joined qs rs a b) h

    three_ended : (qs rs us : List Part) (q : Part) → All qs → All rs → All us → IsLit q → All (qs ++ rs ++ us ++ q ∷ [])
    three_ended qs rs us q a b c h = two_ended (qs ++ rs) us q (joined qs rs a b) c h

    mutual
      all_parts : (ns : List Place) (xs : List Name) (c : Clock) (e : Expression) → Lit e → All (parts g ns xs c e)
      all_parts ns xs c (truth p b) l = (lit ns xs c (truth p b) l, tt)
      all_parts ns xs c (number p n) l = (lit ns xs c (number p n) l, tt)
      all_parts ns xs c (name p x) l = (lit ns xs c (name p x) l, tt)
      all_parts ns xs c (negation p a) l =
          ended (parts g ns [] c a) (part g ns xs c (negation p a)) (all_parts ns [] c a l.1) (lit ns xs c (negation p a) l)
      all_parts ns xs c (minus p a) l = ended (parts g ns [] c a) (part g ns xs c (minus p a)) (all_parts ns [] c a l.1) (lit ns xs c (minus p a) l)
      all_parts ns xs c (pre p k a) l =
          ended (parts g (needs_of g c a) [] c a) (part g ns xs c (pre p k a)) (all_parts (needs_of g c a) [] c a l.1) (lit ns xs c (pre p k a) l)
      all_parts ns xs c (arrow p k a b) l =
          two_ended (parts g ns [] c a) (parts g ns [] c b) (part g ns xs c (arrow p k a b)) (all_parts ns [] c a l.1)
          (all_parts ns [] c b l.2) (lit ns xs c (arrow p k a b) l)
      all_parts ns xs c (binary p o a b) l =
          two_ended (parts g ns [] c a) (parts g ns [] c b) (part g ns xs c (binary p o a b)) (all_parts ns [] c a l.1)
          (all_parts ns [] c b l.2) (lit ns xs c (binary p o a b) l)
      all_parts ns xs c (choice p a b d) l =
          three_ended (parts g ns [] c a) (parts g ns [] c b) (parts g ns [] c d) (part g ns xs c (choice p a b d))
          (all_parts ns [] c a l.1) (all_parts ns [] c b l.2) (all_parts ns [] c d l.3) (lit ns xs c (choice p a b d) l)
      all_parts ns xs c (sampled p a b x) l =
          let k : Clock = clock_of (component_of g.place) x.text in
          ended (parts g ns [] k a) (part g ns xs c (sampled p a b x)) (all_parts ns [] k a l.1) (lit ns xs c (sampled p a b x) l)
      all_parts ns xs c (merged p x a b) l =
          let k : Clock = sampled_by true x.text in
          let m : Clock = sampled_by false x.text in
          two_ended (parts g ns [] k a) (parts g ns [] m b) (part g ns xs c (merged p x a b)) (all_parts ns [] k a l.1)
          (all_parts ns [] m b l.2) (lit ns xs c (merged p x a b) l)
      all_parts ns xs c (call p k f as_) l =
          two_ended (argument_parts g c as_) (g.body k) (part g ns xs c (call p k f as_)) (all_arguments c as_ l.1) (s.body k)
          (lit ns xs c (call p k f as_) l)
      all_parts ns xs c (condact p k a f as_ ds) l =
          three_ended (parts g (needs_of g c a) [] c a ++ argument_parts g c as_) (g.body k) (operand_parts g ns c ds) (part g ns xs c (condact p k a f as_ ds))
          (joined (parts g (needs_of g c a) [] c a) (argument_parts g c as_) (all_parts (needs_of g c a) [] c a l.1) (all_arguments c as_ l.2)) (s.body k)
          (all_operands ns c ds l.3) (lit ns xs c (condact p k a f as_ ds) l)
      all_parts ns xs c (mode_name p d m) l =
          ended (asked_in g ns (key_of (option_map text_of d) m.text)) (part g ns xs c (mode_name p d m))
          (s.asked ns (key_of (option_map text_of d) m.text)) (lit ns xs c (mode_name p d m) l)

      all_arguments : (c : Clock) (as_ : Expressions) → LightAmong g.place greatest_weight as_ → All (argument_parts g c as_)
      all_arguments c no_more l = tt
      all_arguments c (more a as_) l =
          joined (parts g (needs_of g c a) [] c a) (argument_parts g c as_) (all_parts (needs_of g c a) [] c a l.0) (all_arguments c as_ l.1)

      all_operands : (ns : List Place) (c : Clock) (as_ : Expressions) → LightAmong g.place greatest_weight as_ → All (operand_parts g ns c as_)
      all_operands ns c no_more l = tt
      all_operands ns c (more a as_) l =
          joined (parts g ns [] c a) (operand_parts g ns c as_) (all_parts ns [] c a l.0) (all_operands ns c as_ l.1)

    all_wholes : (c : Clock) (es : List Expression) → AllByRecursion Lit es → All (wholes g c es)
    all_wholes c [] l = tt
    all_wholes c (e ∷ es) l = joined (whole_parts g [] c e) _ (all_parts (needs_of g c e) [] c e l.0) (all_wholes c es l.1)

    all_conditions : (ls : List Labelled) → AllByRecursion Lit (map (λ l. l.value) ls) → All (conditions_of g ls)
    all_conditions ls l = all_wholes base (map (λ l. l.value) ls) l

    all_asked : (ns : List Place) (rs : List Labelled) → AllByRecursion Lit (map (λ l. l.value) rs) → All (flat_map (λ r. parts g ns [] base r.value) rs)
    all_asked ns [] l = tt
    all_asked ns (r ∷ rs) l = joined (parts g ns [] base r.value) _ (all_parts ns [] base r.value l.0) (all_asked ns rs l.1)

    all_ensured : (rs es : List Labelled) → AllByRecursion Lit (map (λ l. l.value) rs) → AllByRecursion Lit (map (λ l. l.value) es) →
        All (flat_map (λ e. conditions_of g rs ++ conditions_of g (e ∷ [])) es)
    all_ensured rs [] l m = tt
    all_ensured rs (e ∷ es) l m =
        joined (conditions_of g rs ++ conditions_of g (e ∷ [])) _
        (joined (conditions_of g rs) (conditions_of g (e ∷ [])) (all_conditions rs l) (all_conditions (e ∷ []) (m.0, tt))) (all_ensured rs es l m.1)

  -- ---- of the text of a frame

  record ModeServes (m : ModeText) : Type 0 where
    asked : (ns : List Place) → All (m.asked ns)
    required : All m.required
    ensured : All m.ensured

  record ContractServes (k : ContractText) : Type 0 where
    assumed : All k.assumed
    guaranteed : All k.guaranteed
    modes : AllByRecursion ModeServes k.modes

  record TextServes (t : FrameText) : Type 0 where
    body : All t.body
    contract : ContractServes t.contract
    asserted : All t.asserted

  no_text_serves : TextServes no_text
  no_text_serves = record { body = tt; contract = record { assumed = tt; guaranteed = tt; modes = tt }; asserted = tt }

  at_any : (ts : List FrameText) → AllByRecursion TextServes ts → (j : ℕ) → TextServes (slice_index_or ts j no_text)
  at_any [] a j = no_text_serves
  at_any (t ∷ ts) a zero = a.0
  at_any (t ∷ ts) a (suc j) = at_any ts a.1 j

  asked_serves : (ms : List ModeText) → AllByRecursion ModeServes ms → (ns : List Place) (key : Key) →
      All ((unwrap_or (lookup (mode_key key) (map (λ m. (m.key, m.asked)) ms)) (λ ns. [])) ns)
  asked_serves [] a ns key = tt
  asked_serves (m ∷ ms) a ns key = go (mode_key key m.key) (asked_serves ms a.1 ns key)
    where
      rest : Option (List Place → List Part)
      rest = lookup (mode_key key) (map (λ m. (m.key, m.asked)) ms)

      go : (c : Bool) → All ((unwrap_or rest (λ ns. [])) ns) → All ((unwrap_or (cond c (Some m.asked) rest) (λ ns. [])) ns)
      go true r = a.0.asked ns
      go false r = r

  -- a frame at the end of a way of calls
  module _ (i : Instance) (w : List ℕ) (at : along top w ≡ i) (sub : Calls) (below : (k : ℕ) → TextServes (sub k)) where
    setting_serves : (ms : List ModeText) → AllByRecursion ModeServes ms → Serves (setting i w sub ms)
    setting_serves ms a = record { place = at; body = λ k. (below k).body; asked = asked_serves ms a }

    mode_serves : (ms : List ModeText) → AllByRecursion ModeServes ms → (m : Name) (rs es : List Labelled) → TextsLight i (on_base rs) →
        TextsLight i (on_base es) → ModeServes (mode_text (setting i w sub ms) m rs es)
    mode_serves ms a m rs es k l = record {
      asked = λ ns. all_asked (setting i w sub ms) (setting_serves ms a) ns rs (values_light i rs k);
      required = all_conditions (setting i w sub ms) (setting_serves ms a) rs (values_light i rs k);
      ensured = all_ensured (setting i w sub ms) (setting_serves ms a) rs es (values_light i rs k) (values_light i es l);
    }

    imported_serve : (c : Name) (ms : List ModeText) → AllByRecursion ModeServes ms → AllByRecursion ModeServes (map (imported_mode c) ms)
    imported_serve c [] a = tt
    imported_serve c (m ∷ ms) a =
        (record { asked = a.0.asked; required = a.0.required; ensured = a.0.ensured }, imported_serve c ms a.1)

    contract_serves : (ms : List ModeText) → AllByRecursion ModeServes ms → (cs : List ContractStatement) →
        TextsLight i (flat_map contract_statement_texts cs) → ContractServes (contract_after i w sub ms cs)
    contract_serves ms a [] l = record { assumed = tt; guaranteed = tt; modes = a }
    contract_serves ms a (assume x ∷ cs) l =
        let r : ContractServes (contract_after i w sub ms cs) = contract_serves ms a cs l.1 in
        record {
          assumed = joined (conditions_of (setting i w sub ms) (x ∷ [])) _
              (all_conditions (setting i w sub ms) (setting_serves ms a) (x ∷ []) (l.0, tt)) r.assumed;
          guaranteed = r.guaranteed;
          modes = r.modes;
        }
    contract_serves ms a (guarantee x ∷ cs) l =
        let r : ContractServes (contract_after i w sub ms cs) = contract_serves ms a cs l.1 in
        record {
          assumed = r.assumed;
          guaranteed = joined (conditions_of (setting i w sub ms) (x ∷ [])) _
              (all_conditions (setting i w sub ms) (setting_serves ms a) (x ∷ []) (l.0, tt)) r.guaranteed;
          modes = r.modes;
        }
    contract_serves ms a (ghost_variable x e ∷ cs) l = contract_serves ms a cs l.1
    contract_serves ms a (constant c ∷ cs) l = contract_serves ms a cs l.1
    contract_serves ms a (mode m rs es ∷ cs) l =
        let here : TextsLight i (on_base rs ++ on_base es) =
        left_part (λ (x : Text). IsLight i x.1) (on_base rs ++ on_base es) (flat_map contract_statement_texts cs) l in
        contract_serves (ms ++ mode_text (setting i w sub ms) m.text rs es ∷ [])
        (both_parts ModeServes ms (mode_text (setting i w sub ms) m.text rs es ∷ []) a (
          mode_serves ms a m.text rs es (left_part (λ (x : Text). IsLight i x.1) (on_base rs) (on_base es) here)
              (right_part (λ (x : Text). IsLight i x.1) (on_base rs) (on_base es) here),
          tt,
        )) cs
        (right_part (λ (x : Text). IsLight i x.1) (on_base rs ++ on_base es) (flat_map contract_statement_texts cs) l)
    contract_serves ms a («import» k c as_ xs ∷ cs) l =
        let more_modes : List ModeText = map (imported_mode c.text) (sub k).contract.modes in
        let r : ContractServes (contract_after i w sub (ms ++ more_modes) cs) = contract_serves (ms ++ more_modes)
        (both_parts ModeServes ms more_modes a (imported_serve c.text (sub k).contract.modes (below k).contract.modes)) cs
        (right_part (λ (x : Text). IsLight i x.1) (map (λ e. (on_clock base, e)) as_) (flat_map contract_statement_texts cs) l) in
        record {
          assumed = joined (sub k).contract.assumed _ (below k).contract.assumed r.assumed;
          guaranteed = joined (sub k).contract.guaranteed _ (below k).contract.guaranteed r.guaranteed;
          modes = r.modes;
        }

    module _ (ms : List ModeText) (known : AllByRecursion ModeServes ms) where
      abbrev here : Setting
      here = setting i w sub ms

      serves : Serves here
      serves = setting_serves ms known

      imports_serve : (cs : List ContractStatement) → TextsLight i (flat_map contract_statement_texts cs) → All (flat_map (import_parts here) cs)
      imports_serve [] l = tt
      imports_serve (assume x ∷ cs) l = imports_serve cs l.1
      imports_serve (guarantee x ∷ cs) l = imports_serve cs l.1
      imports_serve (ghost_variable x e ∷ cs) l = imports_serve cs l.1
      imports_serve (constant c ∷ cs) l = imports_serve cs l.1
      imports_serve (mode m rs es ∷ cs) l =
          imports_serve cs (right_part (λ (x : Text). IsLight i x.1) (on_base rs ++ on_base es) (flat_map contract_statement_texts cs) l)
      imports_serve («import» k c as_ xs ∷ cs) l =
          let mine : List Text = map (λ e. (on_clock base, e)) as_ in
          joined (import_parts here («import» k c as_ xs)) _
          (joined (wholes here base as_) _
          (all_wholes here serves base as_ (arguments_light i as_ (left_part (λ (x : Text). IsLight i x.1) mine (flat_map contract_statement_texts cs) l)))
          (below k).body) (imports_serve cs (right_part (λ (x : Text). IsLight i x.1) mine (flat_map contract_statement_texts cs) l))

      equations_serve : (es : List Equation) → AllByRecursion (λ e. IsLight i e.right) es → All (flat_map (equation_parts here) es)
      equations_serve [] a = tt
      equations_serve (e ∷ es) a =
          let clock : Clock = clock_of_names (component_of i) e.names in
          joined (equation_parts here e) _ (all_parts here serves (needs_of here clock e.right) e.names clock e.right a.0)
          (equations_serve es a.1)

      asserted_one : (c : Site) → SiteLight i c → (t : FrameText) → TextServes t → All (asserted_below here c t)
      asserted_one c l t s = go t.body t.contract t.asserted s.body s.asserted
        where
          call_serves : (u : FrameText) → All u.body → All (call_parts here c u)
          call_serves u a =
              joined (wholes here c.clock (call_condition c c.manner ++ c.arguments)) _
              (all_wholes here serves c.clock (call_condition c c.manner ++ c.arguments)
              (both_parts (IsLight i) (call_condition c c.manner) c.arguments (condition_light i c c.manner l.manner) l.arguments)) a

          maybe : (b : Bool) (u : FrameText) → All u.body → All (cond b [] (call_parts here c u))
          maybe true u a = tt
          maybe false u a = call_serves u a

          go : (b : List Part) (k : ContractText) (qs : List Part) → All b → All qs →
              All (asserted_below here c record { body = b; contract = k; asserted = qs })
          go b k [] x y = tt
          go b k (q ∷ qs) x y =
              let u : FrameText = record { body = b; contract = k; asserted = q ∷ qs } in
              joined (cond (is_evaluated (component_of i) c c.manner) [] (call_parts here c u)) _
              (maybe (is_evaluated (component_of i) c c.manner) u x) y

      asserted_serve : (is : Instances) → LightCalls i is → All (asserted_in_calls here sub is)
      asserted_serve no_instances l = tt
      asserted_serve (with_instance c k is) l =
          joined (asserted_below here c (sub c.number)) _ (asserted_one c l.0 (sub c.number) (below c.number)) (asserted_serve is l.2)

    abbrev contract_here : ContractText
    contract_here = contract_after i w sub [] (contract_statements (component_of i))

    text_serves : (order : List ℕ) → TextsLight i (flat_map contract_statement_texts (contract_statements (component_of i))) → OwnLight i →
        LightCalls i (calls_of i) → TextServes (text_over sub order w i)
    text_serves order x l s =
        let k : ContractServes contract_here = contract_serves [] tt (contract_statements (component_of i)) x in
        let g : Setting = setting i w sub contract_here.modes in
        record {
          body = joined (flat_map (import_parts g) (contract_statements (component_of i))) _
              (imports_serve contract_here.modes k.modes (contract_statements (component_of i)) x)
              (equations_serve contract_here.modes k.modes (picked order (equations (component_of i)))
              (each_picked (λ e. IsLight i e.right) order (equations (component_of i)) l.equations));
          contract = k;
          asserted = joined (wholes g base (assertions (component_of i).body)) _
              (all_wholes g (setting_serves contract_here.modes k.modes) base (assertions (component_of i).body) l.asserts)
              (asserted_serve contract_here.modes k.modes (calls_of i) s);
        }

  -- ---- of the conditions

  conditions_serve : (i : Instance) → top ≡ i → OwnLight i → (sub : Calls) → ((k : ℕ) → TextServes (sub k)) → (t : FrameText) → TextServes t →
      All (condition_parts sub t i)
  conditions_serve i at l sub below t s =
      let g : Setting = setting i [] sub t.contract.modes in
      let known : List ModeText = t.contract.modes in
      let checks : List Part = wholes g base (property_texts (component_of i).body) in
      let first : All (t.contract.assumed ++ t.asserted) = joined t.contract.assumed t.asserted s.contract.assumed s.asserted in
      let second : All (t.contract.assumed ++ t.asserted ++ checks) = joined (t.contract.assumed ++ t.asserted) checks first
      (all_wholes g (setting_serves i [] at sub below known s.contract.modes) base (property_texts (component_of i).body)
      (checks_light i (component_of i).body l.checks)) in
      let third : All (t.contract.assumed ++ t.asserted ++ checks ++ t.contract.guaranteed) =
      joined (t.contract.assumed ++ t.asserted ++ checks) t.contract.guaranteed second s.contract.guaranteed in
      let said : List Part = t.contract.assumed ++ t.asserted ++ checks ++ t.contract.guaranteed in
      let fourth : All (said ++ flat_map (λ m. m.ensured) known) =
      joined said (flat_map (λ m. m.ensured) known) third (ensured known s.contract.modes) in
      let fifth : All (said ++ flat_map (λ m. m.ensured) known ++ flat_map (λ m. m.required) known) =
      joined (said ++ flat_map (λ m. m.ensured) known) (flat_map (λ m. m.required) known) fourth (required known s.contract.modes) in
      joined (said ++ flat_map (λ m. m.ensured) known ++ flat_map (λ m. m.required) known) (owed_in_calls sub (calls_of i)) fifth
      (owed_serve (calls_of i))
    where
      ensured : (ms : List ModeText) → AllByRecursion ModeServes ms → All (flat_map (λ m. m.ensured) ms)
      ensured [] a = tt
      ensured (m ∷ ms) a = joined m.ensured _ a.0.ensured (ensured ms a.1)

      required : (ms : List ModeText) → AllByRecursion ModeServes ms → All (flat_map (λ m. m.required) ms)
      required [] a = tt
      required (m ∷ ms) a = joined m.required _ a.0.required (required ms a.1)

      owed_one : (c : Site) (m : Manner) (k : ContractText) → ContractServes k → All (owed c m k)
      owed_one c (as_import xs) k a = tt
      owed_one c plain k a = a.assumed
      owed_one c (while_true e) k a = a.assumed

      owed_serve : (is : Instances) → All (owed_in_calls sub is)
      owed_serve no_instances = tt
      owed_serve (with_instance c k is) =
          joined (owed c c.manner (sub c.number).contract) _ (owed_one c c.manner (sub c.number).contract (below c.number).contract)
          (owed_serve is)

  -- ---- of an instant

  module _ (p : Program) (c : IsChecked p) (o : Orders) where
    contract_light : (i : Instance) → IsUnfolded p i → Contains (components p) (component_of i) →
        TextsLight i (flat_map contract_statement_texts (contract_statements (component_of i)))
    contract_light i u j =
        left_part (λ (x : Text). IsLight i x.1) (flat_map contract_statement_texts (contract_statements (component_of i))) _
        (all_from (GoodText i) (λ (x : Text). IsLight i x.1) (λ x g. g.1) (texts (component_of i)) (good_texts p c i u j))

    mutual
      frame_serves : (w : List ℕ) (i : Instance) → IsAlong top w i → IsUnfolded p i → Contains (components p) (component_of i) → LightTree i →
          TextServes (frame_text o w i)
      frame_serves w (instance d cs is) a u j l =
          let i : Instance = instance d cs is in
          text_serves i w a.0 (text_at (call_texts o w is))
          (λ k. at_any (call_texts o w is) (calls_serve w i (all_sites d) is u.1 (each_site p c.rules.clocked.typed d j) a.3 l.1) (pred k)) (o w)
          (contract_light i u j) l.0 l.1

      calls_serve : (w : List ℕ) (i : Instance) (ss : List Site) (is : Instances) → AreUnfolded p ss is →
          AllByRecursion (λ s. GoesDown p (component_of i) s.callee) ss → CallsAlong top w is → LightCalls i is → AllByRecursion TextServes (call_texts o w is)
      calls_serve w i ss no_instances u g a l = tt
      calls_serve w i [] (with_instance y k is) u g a l = absurd u
      calls_serve w i (s ∷ ss) (with_instance y k is) u g a l = (
        frame_serves (w ++ y.number ∷ []) k a.1 u.2 (declared_at p c (component_of i) s k g.0 u.1) l.1,
        calls_serve w i ss is u.3 g.1 a.2 l.2,
      )

    pub each_lit : (i : Instance) → IsAlong top [] i → IsUnfolded p i → Contains (components p) (component_of i) → LightTree i → All (in_turn o i)
    each_lit (instance d cs is) a u j l =
        let i : Instance = instance d cs is in
        let t : TextServes (frame_text o [] i) = frame_serves [] i a u j l in
        joined (frame_text o [] i).body _ t.body
        (conditions_serve i a.0 l.0 (text_at (call_texts o [] is))
        (λ k. at_any (call_texts o [] is) (calls_serve [] i (all_sites d) is u.1 (each_site p c.rules.clocked.typed d j) a.3 l.1) (pred k))
        (frame_text o [] i) t)
