-- What holds of each part of an instant: of all parts that give nothing, and of the right sides of equations.
use Rattle.std.proofs.Common.{◌≡◌, refl, ℕ, zero, suc, pred, Bool, true, false, cond, List, [], ◌∷◌, ◌++◌, map, flat_map, Option, Some, slice_get, slice_index_or, option_map}
use Rattle.std.specs.Prelude.{option_to_list, unwrap_or}
use Rattle.std.specs.List.{AllByRecursion}
use Rattle.std.specs.Map.{lookup}
use Rattle.lus_tree.specs.Tree.{Name, text_of, Expression, Expressions, truth, number, name, negation, minus, pre, arrow, binary, choice, sampled, merged, call, condact, mode_name, no_more, more, Labelled, ContractStatement, assume, guarantee, ghost_variable, constant, mode, «import»}
use Rattle.lus_meaning.specs.Scene.{Clock, base, sampled_by, Manner, plain, while_true, as_import, Site, Instance, Instances, instance, no_instances, with_instance, component_of, calls_of, clock_of, contract_statements, clock_of_names}
use Rattle.lus_meaning.specs.Meaning.{mode_key}
use Rattle.lus_meaning.specs.Run.{Equation, equations}
use Rattle.lus_meaning.specs.Property.{assertions}
use Rattle.lus_meaning.specs.Depends.{needs, modes_need}
use Rattle.lus_meaning.specs.Cycle.{Place}
use Rattle.lus_meaning.proofs.Lists.{both_parts}
use Rattle.lus_evaluation.specs.Part.{Part, Key, Setting, from_top, needs_of, key_of, asked_in, part, parts, argument_parts, operand_parts, whole_parts, wholes}
use Rattle.lus_evaluation.specs.Frame.{ModeText, ContractText, FrameText, no_text, Calls, setting, conditions_of, mode_text, imported_mode, contract_after, import_parts, equation_parts, picked, Orders, is_evaluated, call_condition, call_parts, asserted_below, asserted_in_calls, text_over, text_at, frame_text, call_texts}
use Rattle.lus_evaluation.specs.Turn.{property_texts, owed, owed_in_calls, condition_parts, in_turn}

-- an equation's right side in the frame of an instance, at the end of a way of calls
abbrev pub right_part : Instance → List ℕ → Equation → Part
right_part i w e = record {
  way = w;
  clock = clock_of_names (component_of i) e.names;
  expression = e.right;
  needs = map (from_top w) (needs i (modes_need i) (clock_of_names (component_of i) e.names) e.right);
  gives = e.names;
}

-- ---- what has numbers

at_number : {A : Type 0} (P : A → Type 0) (xs : List A) (k : ℕ) → AllByRecursion P xs → AllByRecursion P (option_to_list (slice_get xs k))
at_number P [] k a = tt
at_number P (x ∷ xs) zero a = (a.0, tt)
at_number P (x ∷ xs) (suc k) a = at_number P xs k a.1

each_picked : {A : Type 0} (P : A → Type 0) (ks : List ℕ) (xs : List A) → AllByRecursion P xs → AllByRecursion P (picked ks xs)
each_picked P [] xs a = tt
each_picked P (k ∷ ks) xs a = both_parts P (option_to_list (slice_get xs k)) (picked ks xs) (at_number P xs k a) (each_picked P ks xs a)

module _ (P : Part → Type 0) (own : (q : Part) → q.gives ≡ [] → P q) where
  -- ---- of an expression

  abbrev pub All : List Part → Type 0
  All qs = AllByRecursion P qs

  joined : (xs ys : List Part) → All xs → All ys → All (xs ++ ys)
  joined xs ys a b = both_parts P xs ys a b

  -- what a setting gives has it: what a call evaluates, and what a mode asks
  pub record Serves (g : Setting) : Type 0 where
    pub body : (k : ℕ) → All (g.body k)
    pub asked : (ns : List Place) (key : Key) → All (asked_in g ns key)

  module _ (g : Setting) (s : Serves g) where
    bare : (ns : List Place) (c : Clock) (e : Expression) → P (part g ns [] c e)
    bare ns c e = own (part g ns [] c e) refl

    -- operands, and behind them the part itself
    ended : (qs : List Part) (q : Part) → All qs → P q → All (qs ++ q ∷ [])
    ended qs q a h = joined qs (q ∷ []) a (h, tt)

    two_ended : (qs rs : List Part) (q : Part) → All qs → All rs → P q → All (qs ++ rs ++ q ∷ [])
    two_ended qs rs q a b h = ended (qs ++ rs) q (joined qs rs a b) h

    three_ended : (qs rs us : List Part) (q : Part) → All qs → All rs → All us → P q → All (qs ++ rs ++ us ++ q ∷ [])
    three_ended qs rs us q a b c h = two_ended (qs ++ rs) us q (joined qs rs a b) c h

    mutual
      pub all_parts : (ns : List Place) (xs : List Name) (c : Clock) (e : Expression) → P (part g ns xs c e) → All (parts g ns xs c e)
      all_parts ns xs c (truth p b) h = (h, tt)
      all_parts ns xs c (number p n) h = (h, tt)
      all_parts ns xs c (name p x) h = (h, tt)
      all_parts ns xs c (negation p a) h =
          ended (parts g ns [] c a) (part g ns xs c (negation p a)) (all_parts ns [] c a (bare ns c a)) h
      all_parts ns xs c (minus p a) h = ended (parts g ns [] c a) (part g ns xs c (minus p a)) (all_parts ns [] c a (bare ns c a)) h
      all_parts ns xs c (pre p k a) h =
          ended (parts g (needs_of g c a) [] c a) (part g ns xs c (pre p k a))
          (all_parts (needs_of g c a) [] c a (bare (needs_of g c a) c a)) h
      all_parts ns xs c (arrow p k a b) h =
          two_ended (parts g ns [] c a) (parts g ns [] c b) (part g ns xs c (arrow p k a b)) (all_parts ns [] c a (bare ns c a))
          (all_parts ns [] c b (bare ns c b)) h
      all_parts ns xs c (binary p o a b) h =
          two_ended (parts g ns [] c a) (parts g ns [] c b) (part g ns xs c (binary p o a b)) (all_parts ns [] c a (bare ns c a))
          (all_parts ns [] c b (bare ns c b)) h
      all_parts ns xs c (choice p a b d) h =
          three_ended (parts g ns [] c a) (parts g ns [] c b) (parts g ns [] c d) (part g ns xs c (choice p a b d))
          (all_parts ns [] c a (bare ns c a)) (all_parts ns [] c b (bare ns c b)) (all_parts ns [] c d (bare ns c d)) h
      all_parts ns xs c (sampled p a b x) h =
          let k : Clock = clock_of (component_of g.place) x.text in
          ended (parts g ns [] k a) (part g ns xs c (sampled p a b x)) (all_parts ns [] k a (bare ns k a)) h
      all_parts ns xs c (merged p x a b) h =
          let k : Clock = sampled_by true x.text in
          let l : Clock = sampled_by false x.text in
          two_ended (parts g ns [] k a) (parts g ns [] l b) (part g ns xs c (merged p x a b)) (all_parts ns [] k a (bare ns k a))
          (all_parts ns [] l b (bare ns l b)) h
      all_parts ns xs c (call p k f as_) h =
          two_ended (argument_parts g c as_) (g.body k) (part g ns xs c (call p k f as_)) (all_arguments c as_) (s.body k) h
      all_parts ns xs c (condact p k a f as_ ds) h =
          three_ended (parts g (needs_of g c a) [] c a ++ argument_parts g c as_) (g.body k) (operand_parts g ns c ds) (part g ns xs c (condact p k a f as_ ds))
          (joined (parts g (needs_of g c a) [] c a) (argument_parts g c as_) (all_parts (needs_of g c a) [] c a (bare (needs_of g c a) c a)) (all_arguments c as_)) (s.body k)
          (all_operands ns c ds) h
      all_parts ns xs c (mode_name p d m) h =
          ended (asked_in g ns (key_of (option_map text_of d) m.text)) (part g ns xs c (mode_name p d m))
          (s.asked ns (key_of (option_map text_of d) m.text)) h

      pub all_arguments : (c : Clock) (as_ : Expressions) → All (argument_parts g c as_)
      all_arguments c no_more = tt
      all_arguments c (more a as_) =
          joined (parts g (needs_of g c a) [] c a) (argument_parts g c as_)
          (all_parts (needs_of g c a) [] c a (bare (needs_of g c a) c a)) (all_arguments c as_)

      pub all_operands : (ns : List Place) (c : Clock) (as_ : Expressions) → All (operand_parts g ns c as_)
      all_operands ns c no_more = tt
      all_operands ns c (more a as_) =
          joined (parts g ns [] c a) (operand_parts g ns c as_) (all_parts ns [] c a (bare ns c a)) (all_operands ns c as_)

    inner : (ns : List Place) (c : Clock) (e : Expression) → All (parts g ns [] c e)
    inner ns c e = all_parts ns [] c e (bare ns c e)

    pub all_wholes : (c : Clock) (es : List Expression) → All (wholes g c es)
    all_wholes c [] = tt
    all_wholes c (e ∷ es) = joined (whole_parts g [] c e) _ (inner (needs_of g c e) c e) (all_wholes c es)

    pub all_conditions : (ls : List Labelled) → All (conditions_of g ls)
    all_conditions ls = all_wholes base (map (λ l. l.value) ls)

    pub all_asked : (ns : List Place) (rs : List Labelled) → All (flat_map (λ r. parts g ns [] base r.value) rs)
    all_asked ns [] = tt
    all_asked ns (r ∷ rs) = joined (parts g ns [] base r.value) _ (inner ns base r.value) (all_asked ns rs)

    pub all_ensured : (rs es : List Labelled) → All (flat_map (λ e. conditions_of g rs ++ conditions_of g (e ∷ [])) es)
    all_ensured rs [] = tt
    all_ensured rs (e ∷ es) =
        joined (conditions_of g rs ++ conditions_of g (e ∷ [])) _
        (joined (conditions_of g rs) (conditions_of g (e ∷ [])) (all_conditions rs) (all_conditions (e ∷ []))) (all_ensured rs es)

  -- ---- of the text of a frame

  pub record ModeServes (m : ModeText) : Type 0 where
    pub asked : (ns : List Place) → All (m.asked ns)
    pub required : All m.required
    pub ensured : All m.ensured

  pub record ContractServes (k : ContractText) : Type 0 where
    pub assumed : All k.assumed
    pub guaranteed : All k.guaranteed
    pub modes : AllByRecursion ModeServes k.modes

  pub record TextServes (t : FrameText) : Type 0 where
    pub body : All t.body
    pub contract : ContractServes t.contract
    pub asserted : All t.asserted

  pub no_text_serves : TextServes no_text
  no_text_serves = record { body = tt; contract = record { assumed = tt; guaranteed = tt; modes = tt }; asserted = tt }

  pub at_any : (ts : List FrameText) → AllByRecursion TextServes ts → (j : ℕ) → TextServes (slice_index_or ts j no_text)
  at_any [] a j = no_text_serves
  at_any (t ∷ ts) a zero = a.0
  at_any (t ∷ ts) a (suc j) = at_any ts a.1 j

  asked_serves : (ms : List ModeText) → AllByRecursion ModeServes ms → (ns : List Place) (key : Key) →
      All ((unwrap_or (lookup (mode_key key) (map (λ m. (m.key, m.asked)) ms)) (λ ns. [])) ns)
  asked_serves [] a ns key = tt
  asked_serves (m ∷ ms) a ns key = go (mode_key key m.key) (asked_serves ms a.1 ns key)
    where
      rest : Option (List Place → List Part)
      rest = lookup (mode_key key) (map (λ m. (m.key, m.asked)) ms)

      go : (c : Bool) → All ((unwrap_or rest (λ ns. [])) ns) → All ((unwrap_or (cond c (Some m.asked) rest) (λ ns. [])) ns)
      go true r = a.0.asked ns
      go false r = r

  -- a frame at the end of a way of calls
  module _ (i : Instance) (w : List ℕ) (sub : Calls) (below : (k : ℕ) → TextServes (sub k)) where
    setting_serves : (ms : List ModeText) → AllByRecursion ModeServes ms → Serves (setting i w sub ms)
    setting_serves ms a = record { body = λ k. (below k).body; asked = asked_serves ms a }

    mode_serves : (ms : List ModeText) → AllByRecursion ModeServes ms → (m : Name) (rs es : List Labelled) →
        ModeServes (mode_text (setting i w sub ms) m rs es)
    mode_serves ms a m rs es = record {
      asked = λ ns. all_asked (setting i w sub ms) (setting_serves ms a) ns rs;
      required = all_conditions (setting i w sub ms) (setting_serves ms a) rs;
      ensured = all_ensured (setting i w sub ms) (setting_serves ms a) rs es;
    }

    imported_serve : (c : Name) (ms : List ModeText) → AllByRecursion ModeServes ms → AllByRecursion ModeServes (map (imported_mode c) ms)
    imported_serve c [] a = tt
    imported_serve c (m ∷ ms) a =
        (record { asked = a.0.asked; required = a.0.required; ensured = a.0.ensured }, imported_serve c ms a.1)

    contract_serves : (ms : List ModeText) → AllByRecursion ModeServes ms → (cs : List ContractStatement) →
        ContractServes (contract_after i w sub ms cs)
    contract_serves ms a [] = record { assumed = tt; guaranteed = tt; modes = a }
    contract_serves ms a (assume l ∷ cs) =
        let r : ContractServes (contract_after i w sub ms cs) = contract_serves ms a cs in
        record {
          assumed = joined (conditions_of (setting i w sub ms) (l ∷ [])) _ (all_conditions (setting i w sub ms) (setting_serves ms a) (l ∷ []))
              r.assumed;
          guaranteed = r.guaranteed;
          modes = r.modes;
        }
    contract_serves ms a (guarantee l ∷ cs) =
        let r : ContractServes (contract_after i w sub ms cs) = contract_serves ms a cs in
        record {
          assumed = r.assumed;
          guaranteed = joined (conditions_of (setting i w sub ms) (l ∷ [])) _ (all_conditions (setting i w sub ms) (setting_serves ms a) (l ∷ []))
              r.guaranteed;
          modes = r.modes;
        }
    contract_serves ms a (ghost_variable x e ∷ cs) = contract_serves ms a cs
    contract_serves ms a (constant c ∷ cs) = contract_serves ms a cs
    contract_serves ms a (mode m rs es ∷ cs) =
        contract_serves (ms ++ mode_text (setting i w sub ms) m.text rs es ∷ [])
        (both_parts ModeServes ms (mode_text (setting i w sub ms) m.text rs es ∷ []) a (mode_serves ms a m.text rs es, tt)) cs
    contract_serves ms a («import» k c as_ xs ∷ cs) =
        let more_modes : List ModeText = map (imported_mode c.text) (sub k).contract.modes in
        let r : ContractServes (contract_after i w sub (ms ++ more_modes) cs) = contract_serves (ms ++ more_modes)
        (both_parts ModeServes ms more_modes a (imported_serve c.text (sub k).contract.modes (below k).contract.modes)) cs in
        record {
          assumed = joined (sub k).contract.assumed _ (below k).contract.assumed r.assumed;
          guaranteed = joined (sub k).contract.guaranteed _ (below k).contract.guaranteed r.guaranteed;
          modes = r.modes;
        }

    module _ (ms : List ModeText) (known : AllByRecursion ModeServes ms) where
      abbrev here : Setting
      here = setting i w sub ms

      serves : Serves here
      serves = setting_serves ms known

      import_serves : (c : ContractStatement) → All (import_parts here c)
      import_serves («import» k c as_ xs) = joined (wholes here base as_) _ (all_wholes here serves base as_) (below k).body
      import_serves (assume l) = tt
      import_serves (guarantee l) = tt
      import_serves (ghost_variable x e) = tt
      import_serves (constant c) = tt
      import_serves (mode m rs es) = tt

      imports_serve : (cs : List ContractStatement) → All (flat_map (import_parts here) cs)
      imports_serve [] = tt
      imports_serve (c ∷ cs) = joined (import_parts here c) _ (import_serves c) (imports_serve cs)

      equations_serve : (es : List Equation) → AllByRecursion (λ e. P (right_part i w e)) es → All (flat_map (equation_parts here) es)
      equations_serve [] a = tt
      equations_serve (e ∷ es) a =
          let clock : Clock = clock_of_names (component_of i) e.names in
          joined (equation_parts here e) _ (all_parts here serves (needs_of here clock e.right) e.names clock e.right a.0)
          (equations_serve es a.1)

      asserted_one : (c : Site) (t : FrameText) → TextServes t → All (asserted_below here c t)
      asserted_one c t s = go t.body t.contract t.asserted s.body s.asserted
        where
          call_serves : (u : FrameText) → All u.body → All (call_parts here c u)
          call_serves u a =
              joined (wholes here c.clock (call_condition c c.manner ++ c.arguments)) _
              (all_wholes here serves c.clock (call_condition c c.manner ++ c.arguments)) a

          maybe : (b : Bool) (u : FrameText) → All u.body → All (cond b [] (call_parts here c u))
          maybe true u a = tt
          maybe false u a = call_serves u a

          go : (b : List Part) (k : ContractText) (qs : List Part) → All b → All qs →
              All (asserted_below here c record { body = b; contract = k; asserted = qs })
          go b k [] x y = tt
          go b k (q ∷ qs) x y =
              let u : FrameText = record { body = b; contract = k; asserted = q ∷ qs } in
              joined (cond (is_evaluated (component_of i) c c.manner) [] (call_parts here c u)) _
              (maybe (is_evaluated (component_of i) c c.manner) u x) y

      asserted_serve : (is : Instances) → All (asserted_in_calls here sub is)
      asserted_serve no_instances = tt
      asserted_serve (with_instance c k is) =
          joined (asserted_below here c (sub c.number)) _ (asserted_one c (sub c.number) (below c.number)) (asserted_serve is)

    abbrev pub contract_here : ContractText
    contract_here = contract_after i w sub [] (contract_statements (component_of i))

    pub text_serves : (order : List ℕ) → AllByRecursion (λ e. P (right_part i w e)) (equations (component_of i)) →
        TextServes (text_over sub order w i)
    text_serves order a =
        let k : ContractServes contract_here = contract_serves [] tt (contract_statements (component_of i)) in
        let g : Setting = setting i w sub contract_here.modes in
        record {
          body = joined (flat_map (import_parts g) (contract_statements (component_of i))) _
              (imports_serve contract_here.modes k.modes (contract_statements (component_of i)))
              (equations_serve contract_here.modes k.modes (picked order (equations (component_of i)))
              (each_picked (λ e. P (right_part i w e)) order (equations (component_of i)) a));
          contract = k;
          asserted = joined (wholes g base (assertions (component_of i).body)) _
              (all_wholes g (setting_serves contract_here.modes k.modes) base (assertions (component_of i).body))
              (asserted_serve contract_here.modes k.modes (calls_of i));
        }

  -- ---- of the conditions

  conditions_serve : (i : Instance) (sub : Calls) → ((k : ℕ) → TextServes (sub k)) → (t : FrameText) → TextServes t → All (condition_parts sub t i)
  conditions_serve i sub below t s =
      let g : Setting = setting i [] sub t.contract.modes in
      let known : List ModeText = t.contract.modes in
      let checked : List Part = wholes g base (property_texts (component_of i).body) in
      let first : All (t.contract.assumed ++ t.asserted) = joined t.contract.assumed t.asserted s.contract.assumed s.asserted in
      let second : All (t.contract.assumed ++ t.asserted ++ checked) = joined (t.contract.assumed ++ t.asserted) checked first
      (all_wholes g (setting_serves i [] sub below known s.contract.modes) base (property_texts (component_of i).body)) in
      let third : All (t.contract.assumed ++ t.asserted ++ checked ++ t.contract.guaranteed) =
      joined (t.contract.assumed ++ t.asserted ++ checked) t.contract.guaranteed second s.contract.guaranteed in
      let said : List Part = t.contract.assumed ++ t.asserted ++ checked ++ t.contract.guaranteed in
      let fourth : All (said ++ flat_map (λ m. m.ensured) known) =
      joined said (flat_map (λ m. m.ensured) known) third (ensured known s.contract.modes) in
      let fifth : All (said ++ flat_map (λ m. m.ensured) known ++ flat_map (λ m. m.required) known) =
      joined (said ++ flat_map (λ m. m.ensured) known) (flat_map (λ m. m.required) known) fourth (required known s.contract.modes) in
      joined (said ++ flat_map (λ m. m.ensured) known ++ flat_map (λ m. m.required) known) (owed_in_calls sub (calls_of i)) fifth
      (owed_serve (calls_of i))
    where
      ensured : (ms : List ModeText) → AllByRecursion ModeServes ms → All (flat_map (λ m. m.ensured) ms)
      ensured [] a = tt
      ensured (m ∷ ms) a = joined m.ensured _ a.0.ensured (ensured ms a.1)

      required : (ms : List ModeText) → AllByRecursion ModeServes ms → All (flat_map (λ m. m.required) ms)
      required [] a = tt
      required (m ∷ ms) a = joined m.required _ a.0.required (required ms a.1)

      owed_one : (c : Site) (m : Manner) (k : ContractText) → ContractServes k → All (owed c m k)
      owed_one c (as_import xs) k a = tt
      owed_one c plain k a = a.assumed
      owed_one c (while_true e) k a = a.assumed

      owed_serve : (is : Instances) → All (owed_in_calls sub is)
      owed_serve no_instances = tt
      owed_serve (with_instance c k is) =
          joined (owed c c.manner (sub c.number).contract) _ (owed_one c c.manner (sub c.number).contract (below c.number).contract)
          (owed_serve is)

  -- ---- of an instant

  -- the right sides of the equations of each frame
  abbrev mutual
    pub RightSides : List ℕ → Instance → Type 0
    RightSides w (instance d cs is) = AllByRecursion (λ e. P (right_part (instance d cs is) w e)) (equations d) × CallSides w is

    pub CallSides : List ℕ → Instances → Type 0
    CallSides w no_instances = Unit {0}
    CallSides w (with_instance c k is) = RightSides (w ++ c.number ∷ []) k × CallSides w is

  module _ (o : Orders) where
    mutual
      frame_serves : (w : List ℕ) (i : Instance) → RightSides w i → TextServes (frame_text o w i)
      frame_serves w (instance d cs is) a =
          text_serves (instance d cs is) w (text_at (call_texts o w is)) (λ k. at_any (call_texts o w is) (calls_serve w is a.1) (pred k)) (o w) a.0

      calls_serve : (w : List ℕ) (is : Instances) → CallSides w is → AllByRecursion TextServes (call_texts o w is)
      calls_serve w no_instances a = tt
      calls_serve w (with_instance c k is) a = (frame_serves (w ++ c.number ∷ []) k a.0, calls_serve w is a.1)

    pub each_part : (i : Instance) → RightSides [] i → All (in_turn o i)
    each_part (instance d cs is) a =
        let i : Instance = instance d cs is in
        let t : TextServes (frame_text o [] i) = frame_serves [] i a in
        joined (frame_text o [] i).body _ t.body
        (conditions_serve i (text_at (call_texts o [] is)) (λ k. at_any (call_texts o [] is) (calls_serve [] is a.1) (pred k)) (frame_text o [] i) t)
