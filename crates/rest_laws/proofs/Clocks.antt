-- Of the parts of an instant: the clock of each is that of a declared name, and what is so of the needs of each whole.
use Rattle.std.proofs.Common.{◌≡◌, refl, ℕ, zero, suc, pred, ◌+◌, ◌<◌, Bool, true, false, cond, List, [], ◌∷◌, ◌++◌, map, flat_map, Option, Some, slice_get, slice_index_or, option_map, ap, ◌∙◌, sym, subst, arith}
use Rattle.std.specs.Prelude.{option_to_list, unwrap_or}
use Rattle.std.specs.List.{AllByRecursion}
use Rattle.std.specs.Map.{lookup}
use Rattle.lus_tree.specs.Tree.{Name, text_of, Expression, Expressions, truth, number, name, negation, minus, pre, arrow, binary, choice, sampled, merged, call, condact, mode_name, no_more, more, Labelled, ContractStatement, assume, guarantee, ghost_variable, constant, mode, «import»}
use Rattle.lus_meaning.specs.Frame.{Frame}
use Rattle.lus_meaning.specs.Scene.{Clock, base, sampled_by, Manner, plain, while_true, as_import, Site, Instance, Instances, instance, no_instances, with_instance, no_instance, component_of, calls_of, clock_of, contract_statements, clock_of_names, variables}
use Rattle.lus_meaning.specs.Meaning.{mode_key}
use Rattle.lus_meaning.specs.Run.{Equation, equations}
use Rattle.lus_meaning.specs.Property.{assertions}
use Rattle.lus_meaning.specs.Cycle.{Place}
use Rattle.lus_meaning.proofs.Lists.{both_parts}
use Rattle.lus_meaning.proofs.Now.{left_part, right_part}
use Rattle.sys_meaning.specs.Items.{Key}
use Rattle.sys_meaning.specs.WellTyped.{IsKnown, count_of, IsNameOn, is_declared, clock_here, Stands, ClockEnds, ClockFits, StreamFits, EquationFits, StatementsFit, own_keys, IsImport, OwnFits, CallsFit, TreeFits}
use Rattle.sys_meaning.proofs.Balanced.{Picked, pick}
use Rattle.sys_meaning.proofs.Forward.{own_fits, drop_calls, first_instance, instance_dropped, calls_later, later_calls}
use Rattle.lus_evaluation.specs.Part.{Part, Setting, needs_of, key_of, asked_in, part, parts, argument_parts, operand_parts, whole_parts, wholes}
use Rattle.lus_evaluation.specs.Frame.{ModeText, ContractText, FrameText, no_text, Calls, setting, conditions_of, mode_text, imported_mode, contract_after, import_parts, equation_parts, picked, Orders, is_evaluated, call_condition, call_parts, asserted_below, asserted_in_calls, text_over, text_at, frame_text, call_texts}
use Rattle.lus_evaluation.specs.Turn.{property_texts, owed, owed_in_calls, condition_parts, in_turn}
use Rattle.order_laws.specs.Own.{own_setting}
use Rattle.order_laws.specs.Rows.{place_there}
use Rattle.order_laws.proofs.Frames.{StandsAt, stands_called}
use Rattle.order_laws.proofs.Laying.{root_in}
use Rattle.order_laws.proofs.Bodies.{in_all}

-- ---- clocks

-- a clock is the base clock, or that of a declared name
abbrev pub IsClockNamed : Instance → Clock → Type 0
IsClockNamed j base = Unit {0}
IsClockNamed j (sampled_by b x) = IsNameOn j (IsKnown j) (clock_here j (IsKnown j) x) x

ends_named : (j : Instance) (m : ℕ) (c : Clock) → ClockEnds j (IsKnown j) m c → IsClockNamed j c
ends_named j m base h = tt
ends_named j zero (sampled_by b x) h = absurd h
ends_named j (suc m) (sampled_by b x) h = h.0

pub fitting_named : (j : Instance) (c : Clock) → ClockFits j (IsKnown j) c → IsClockNamed j c
fitting_named j c h = ends_named j _ c h

-- the clock of a declared name is good
pub declared_fits : (j : Instance) → OwnFits j (IsKnown j) → (x : Name) → is_declared j (IsKnown j) x → ClockFits j (IsKnown j) (clock_here j (IsKnown j) x)
declared_fits j o x d = by (pick x (StreamFits j (IsKnown j)) (variables (component_of j)) o.streams d)
  where
    by : Picked x (StreamFits j (IsKnown j)) → ClockFits j (IsKnown j) (clock_here j (IsKnown j) x)
    by z = subst (λ c. ClockFits j (IsKnown j) c) (sym z.holds.name.clock ∙ ap (λ y. clock_here j (IsKnown j) y) z.same) z.holds.clock

module _ (i : Instance) (f : Frame) where
  -- a part whose expression stands on its clock
  abbrev pub IsStanding : Part → Type 0
  IsStanding q = Stands (place_there i f q.way) (IsKnown (place_there i f q.way)) q.clock q.expression

  -- Of the needs of a whole: it is so of the own ones of an expression that stands in a frame, and of those of a whole of a frame in the frame of an import.
  module _ (X : List ℕ → List Place → Type 0)
      (own : (w : List ℕ) (j : Instance) → StandsAt i f w j → (c : Clock) (e : Expression) → Stands j (IsKnown j) c e → IsClockNamed j c →
      X w (needs_of (own_setting j w []) c e))
      (down : (w : List ℕ) (j : Instance) → StandsAt i f w j → (k : ℕ) → IsImport j k → (ns : List Place) → X w ns → X (w ++ k ∷ []) ns) where
    pub record IsTimed (q : Part) : Type 0 where
      pub named : IsClockNamed (place_there i f q.way) q.clock
      pub needed : X q.way q.needs

    abbrev Stand : List Part → Type 0
    Stand qs = AllByRecursion IsStanding qs

    -- where they stand, they are timed
    abbrev pub AreTimed : List Part → Type 0
    AreTimed qs = AllByRecursion IsStanding qs → AllByRecursion IsTimed qs

    joined : (xs ys : List Part) → AreTimed xs → AreTimed ys → AreTimed (xs ++ ys)
    joined xs ys a b h = both_parts IsTimed xs ys (a (left_part IsStanding xs ys h)) (b (right_part IsStanding xs ys h))

    -- ---- of an expression

    module _ (w : List ℕ) (j : Instance) (s : StandsAt i f w j) where
      -- what a setting gives: what a call evaluates, and what a mode asks
      pub record Serves (body : ℕ → List Part) (asked : List Place → Key → List Part) : Type 0 where
        pub body_timed : (k : ℕ) → 0 < k → pred k < count_of (calls_of j) → AreTimed (body k)
        pub asked_timed : (ns : List Place) → X w ns → (key : Key) → AreTimed (asked ns key)

      module _ (sub : Calls) (ms : List ModeText) (v : Serves (λ k. (sub k).body) (λ ns key. asked_in (setting j w sub ms) ns key)) where
        abbrev g : Setting
        g = setting j w sub ms

        stands : (ns : List Place) (xs : List Name) (c : Clock) (e : Expression) → IsStanding (part g ns xs c e) → Stands j (IsKnown j) c e
        stands ns xs c e h = subst (λ z. Stands z (IsKnown z) c e) s.place h

        one : (ns : List Place) (xs : List Name) (c : Clock) (e : Expression) → X w ns → IsClockNamed j c → AreTimed (part g ns xs c e ∷ [])
        one ns xs c e x n h = (record { named = subst (λ z. IsClockNamed z c) (sym s.place) n; needed = x }, tt)

        end : (qs : List Part) (ns : List Place) (xs : List Name) (c : Clock) (e : Expression) → X w ns → IsClockNamed j c →
            (IsStanding (part g ns xs c e) → AreTimed qs) → AreTimed (qs ++ part g ns xs c e ∷ [])
        end qs ns xs c e x n a h =
            joined qs (part g ns xs c e ∷ []) (a (right_part IsStanding qs (part g ns xs c e ∷ []) h).0) (one ns xs c e x n) h

        -- a whole has its own needs
        own_needed : (c : Clock) (e : Expression) → IsClockNamed j c → Stand (parts g (needs_of g c e) [] c e) → X w (needs_of g c e)
        own_needed c e n h =
            own w j s c e
            (stands (needs_of g c e) [] c e
            (in_all IsStanding (parts g (needs_of g c e) [] c e) (part g (needs_of g c e) [] c e) h (root_in g (needs_of g c e) [] c e))) n

        mutual
          pub all_timed : (ns : List Place) (xs : List Name) (c : Clock) (e : Expression) → X w ns → IsClockNamed j c → AreTimed (parts g ns xs c e)
          all_timed ns xs c (truth p b) x n = one ns xs c (truth p b) x n
          all_timed ns xs c (number p b) x n = one ns xs c (number p b) x n
          all_timed ns xs c (name p b) x n = one ns xs c (name p b) x n
          all_timed ns xs c (negation p a) x n = end (parts g ns [] c a) ns xs c (negation p a) x n (λ h. all_timed ns [] c a x n)
          all_timed ns xs c (minus p a) x n = end (parts g ns [] c a) ns xs c (minus p a) x n (λ h. all_timed ns [] c a x n)
          all_timed ns xs c (pre p k a) x n = end (parts g (needs_of g c a) [] c a) ns xs c (pre p k a) x n (λ h z. all_timed (needs_of g c a) [] c a (own_needed c a n z) n z)
          all_timed ns xs c (arrow p k a b) x n =
              end (parts g ns [] c a ++ parts g ns [] c b) ns xs c (arrow p k a b) x n
              (λ h. joined (parts g ns [] c a) (parts g ns [] c b) (all_timed ns [] c a x n) (all_timed ns [] c b x n))
          all_timed ns xs c (binary p o a b) x n =
              end (parts g ns [] c a ++ parts g ns [] c b) ns xs c (binary p o a b) x n
              (λ h. joined (parts g ns [] c a) (parts g ns [] c b) (all_timed ns [] c a x n) (all_timed ns [] c b x n))
          all_timed ns xs c (choice p a b d) x n =
              end (parts g ns [] c a ++ parts g ns [] c b ++ parts g ns [] c d) ns xs c (choice p a b d) x n
              (λ h. joined (parts g ns [] c a ++ parts g ns [] c b) (parts g ns [] c d)
              (joined (parts g ns [] c a) (parts g ns [] c b) (all_timed ns [] c a x n) (all_timed ns [] c b x n)) (all_timed ns [] c d x n))
          all_timed ns xs c (sampled p a b y) x n =
              let k : Clock = clock_of (component_of j) y.text in
              end (parts g ns [] k a) ns xs c (sampled p a b y) x n
              (λ h. all_timed ns [] k a x
              (fitting_named j k (declared_fits j (own_fits IsKnown j s.fits) y.text (stands ns xs c (sampled p a b y) h).1.declared)))
          all_timed ns xs c (merged p y a b) x n =
              let k : Clock = sampled_by true y.text in
              let l : Clock = sampled_by false y.text in
              end (parts g ns [] k a ++ parts g ns [] l b) ns xs c (merged p y a b) x n
              (λ h. let m : IsNameOn j (IsKnown j) c y.text = (stands ns xs c (merged p y a b) h).0 in
              let q : IsNameOn j (IsKnown j) (clock_here j (IsKnown j) y.text) y.text =
              record { stream = m.stream; declared = m.declared; clock = refl } in
              joined (parts g ns [] k a) (parts g ns [] l b) (all_timed ns [] k a x q) (all_timed ns [] l b x q))
          all_timed ns xs c (call p k z as_) x n =
              end (argument_parts g c as_ ++ g.body k) ns xs c (call p k z as_) x n
              (λ h. let st : Stands j (IsKnown j) c (call p k z as_) = stands ns xs c (call p k z as_) h in
              joined (argument_parts g c as_) (g.body k) (arguments_timed c as_ n) (v.body_timed k st.0.call.counted st.0.call.listed))
          all_timed ns xs c (condact p k a z as_ ds) x n =
              let asked : List Part = parts g (needs_of g c a) [] c a in
              end (asked ++ argument_parts g c as_ ++ g.body k ++ operand_parts g ns c ds) ns xs c (condact p k a z as_ ds) x n
              (λ h. let st : Stands j (IsKnown j) c (condact p k a z as_ ds) = stands ns xs c (condact p k a z as_ ds) h in
              joined (asked ++ argument_parts g c as_ ++ g.body k) (operand_parts g ns c ds)
              (joined (asked ++ argument_parts g c as_) (g.body k) (joined asked (argument_parts g c as_)
              (λ z. all_timed (needs_of g c a) [] c a (own_needed c a n z) n z) (arguments_timed c as_ n))
              (v.body_timed k st.0.call.counted st.0.call.listed)) (operands_timed ns c ds x n))
          all_timed ns xs c (mode_name p d m) x n =
              end (asked_in g ns (key_of (option_map text_of d) m.text)) ns xs c (mode_name p d m) x n
              (λ h. v.asked_timed ns x (key_of (option_map text_of d) m.text))

          pub arguments_timed : (c : Clock) (as_ : Expressions) → IsClockNamed j c → AreTimed (argument_parts g c as_)
          arguments_timed c no_more n = λ h. tt
          arguments_timed c (more a as_) n =
              joined (parts g (needs_of g c a) [] c a) (argument_parts g c as_)
              (λ z. all_timed (needs_of g c a) [] c a (own_needed c a n z) n z) (arguments_timed c as_ n)

          pub operands_timed : (ns : List Place) (c : Clock) (as_ : Expressions) → X w ns → IsClockNamed j c → AreTimed (operand_parts g ns c as_)
          operands_timed ns c no_more x n = λ h. tt
          operands_timed ns c (more a as_) x n =
              joined (parts g ns [] c a) (operand_parts g ns c as_) (all_timed ns [] c a x n) (operands_timed ns c as_ x n)

        whole_timed : (c : Clock) (e : Expression) → IsClockNamed j c → AreTimed (parts g (needs_of g c e) [] c e)
        whole_timed c e n h = all_timed (needs_of g c e) [] c e (own_needed c e n h) n h

        pub wholes_timed : (c : Clock) (es : List Expression) → IsClockNamed j c → AreTimed (wholes g c es)
        wholes_timed c [] n = λ h. tt
        wholes_timed c (e ∷ es) n = joined (whole_parts g [] c e) (wholes g c es) (whole_timed c e n) (wholes_timed c es n)

        conditions_timed : (ls : List Labelled) → AreTimed (conditions_of g ls)
        conditions_timed ls = wholes_timed base (map (λ l. l.value) ls) tt

        asked_texts : (ns : List Place) (rs : List Labelled) → X w ns → AreTimed (flat_map (λ r. parts g ns [] base r.value) rs)
        asked_texts ns [] x = λ h. tt
        asked_texts ns (r ∷ rs) x =
            joined (parts g ns [] base r.value) (flat_map (λ r. parts g ns [] base r.value) rs) (all_timed ns [] base r.value x tt) (asked_texts ns rs x)

        ensured_timed : (rs es : List Labelled) → AreTimed (flat_map (λ e. conditions_of g rs ++ conditions_of g (e ∷ [])) es)
        ensured_timed rs [] = λ h. tt
        ensured_timed rs (e ∷ es) =
            joined (conditions_of g rs ++ conditions_of g (e ∷ [])) (flat_map (λ e. conditions_of g rs ++ conditions_of g (e ∷ [])) es)
            (joined (conditions_of g rs) (conditions_of g (e ∷ [])) (conditions_timed rs) (conditions_timed (e ∷ []))) (ensured_timed rs es)

        -- a right side gives names
        side_timed : (e : Equation) → EquationFits j (IsKnown j) e → AreTimed (equation_parts g e)
        side_timed e fit =
            let c : Clock = clock_of_names (component_of j) e.names in
            let n : IsClockNamed j c = fitting_named j c fit.clock in
            all_timed (needs_of g c e.right) e.names c e.right (own w j s c e.right fit.right n) n

        sides_timed : (es : List Equation) → AllByRecursion (EquationFits j (IsKnown j)) es → AreTimed (flat_map (equation_parts g) es)
        sides_timed [] a = λ h. tt
        sides_timed (e ∷ es) a = joined (equation_parts g e) (flat_map (equation_parts g) es) (side_timed e a.0) (sides_timed es a.1)

    -- ---- of the text of a frame

    record ModeTimed (w : List ℕ) (m : ModeText) : Type 0 where
      pub asked : (ns : List Place) → X w ns → AreTimed (m.asked ns)
      pub required : AreTimed m.required
      pub ensured : AreTimed m.ensured

    record ContractTimed (w : List ℕ) (k : ContractText) : Type 0 where
      pub assumed : AreTimed k.assumed
      pub guaranteed : AreTimed k.guaranteed
      pub modes : AllByRecursion (ModeTimed w) k.modes

    record TextTimed (w : List ℕ) (t : FrameText) : Type 0 where
      pub body : AreTimed t.body
      pub contract : ContractTimed w t.contract
      pub asserted : AreTimed t.asserted

    asked_found : (w : List ℕ) (ms : List ModeText) → AllByRecursion (ModeTimed w) ms → (ns : List Place) → X w ns → (key : Key) →
        AreTimed ((unwrap_or (lookup (mode_key key) (map (λ m. (m.key, m.asked)) ms)) (λ ns. [])) ns)
    asked_found w [] a ns x key = λ h. tt
    asked_found w (m ∷ ms) a ns x key = go (mode_key key m.key) (asked_found w ms a.1 ns x key)
      where
        rest : Option (List Place → List Part)
        rest = lookup (mode_key key) (map (λ m. (m.key, m.asked)) ms)

        go : (c : Bool) → AreTimed ((unwrap_or rest (λ ns. [])) ns) → AreTimed ((unwrap_or (cond c (Some m.asked) rest) (λ ns. [])) ns)
        go true r = a.0.asked ns x
        go false r = r

    module _ (w : List ℕ) (j : Instance) (s : StandsAt i f w j) (sub : Calls)
        (below : (k : ℕ) → 0 < k → pred k < count_of (calls_of j) → TextTimed (w ++ k ∷ []) (sub k)) where
      serves : (ms : List ModeText) → AllByRecursion (ModeTimed w) ms → Serves w j s (λ k. (sub k).body) (λ ns key. asked_in (setting j w sub ms) ns key)
      serves ms a = record { body_timed = λ k c l. (below k c l).body; asked_timed = λ ns x key. asked_found w ms a ns x key }

      mode_timed : (ms : List ModeText) → AllByRecursion (ModeTimed w) ms → (m : Name) (rs es : List Labelled) →
          ModeTimed w (mode_text (setting j w sub ms) m rs es)
      mode_timed ms a m rs es = record {
        asked = λ ns x. asked_texts w j s sub ms (serves ms a) ns rs x;
        required = conditions_timed w j s sub ms (serves ms a) rs;
        ensured = ensured_timed w j s sub ms (serves ms a) rs es;
      }

      imported_timed : (k : ℕ) → IsImport j k → (c : Name) (ms : List ModeText) → AllByRecursion (ModeTimed (w ++ k ∷ [])) ms →
          AllByRecursion (ModeTimed w) (map (imported_mode c) ms)
      imported_timed k im c [] a = tt
      imported_timed k im c (m ∷ ms) a = (
        record { asked = λ ns x. a.0.asked ns (down w j s k im ns x); required = a.0.required; ensured = a.0.ensured },
        imported_timed k im c ms a.1,
      )

      contract_timed : (ks : List Key) (ms : List ModeText) → AllByRecursion (ModeTimed w) ms → (cs : List ContractStatement) → StatementsFit j ks cs →
          ContractTimed w (contract_after j w sub ms cs)
      contract_timed ks ms a [] h = record { assumed = λ z. tt; guaranteed = λ z. tt; modes = a }
      contract_timed ks ms a (assume l ∷ cs) h =
          let r : ContractTimed w (contract_after j w sub ms cs) = contract_timed (ks ++ []) ms a cs h.1 in
          record {
            assumed = joined (conditions_of (setting j w sub ms) (l ∷ [])) (contract_after j w sub ms cs).assumed
                (conditions_timed w j s sub ms (serves ms a) (l ∷ [])) r.assumed;
            guaranteed = r.guaranteed;
            modes = r.modes;
          }
      contract_timed ks ms a (guarantee l ∷ cs) h =
          let r : ContractTimed w (contract_after j w sub ms cs) = contract_timed (ks ++ []) ms a cs h.1 in
          record {
            assumed = r.assumed;
            guaranteed = joined (conditions_of (setting j w sub ms) (l ∷ [])) (contract_after j w sub ms cs).guaranteed
                (conditions_timed w j s sub ms (serves ms a) (l ∷ [])) r.guaranteed;
            modes = r.modes;
          }
      contract_timed ks ms a (ghost_variable x e ∷ cs) h = contract_timed (ks ++ []) ms a cs h.1
      contract_timed ks ms a (constant c ∷ cs) h = contract_timed (ks ++ []) ms a cs h.1
      contract_timed ks ms a (mode m rs es ∷ cs) h =
          contract_timed (ks ++ ([], m.text) ∷ []) (ms ++ mode_text (setting j w sub ms) m.text rs es ∷ [])
          (both_parts (ModeTimed w) ms (mode_text (setting j w sub ms) m.text rs es ∷ []) a (mode_timed ms a m.text rs es, tt)) cs h.1
      contract_timed ks ms a («import» k c as_ xs ∷ cs) h =
          let t : TextTimed (w ++ k ∷ []) (sub k) = below k h.0.call.counted h.0.call.listed in
          let more_modes : List ModeText = map (imported_mode c.text) (sub k).contract.modes in
          let r : ContractTimed w (contract_after j w sub (ms ++ more_modes) cs) =
          contract_timed (ks ++ own_keys j («import» k c as_ xs)) (ms ++ more_modes)
          (both_parts (ModeTimed w) ms more_modes a (imported_timed k h.0 c.text (sub k).contract.modes t.contract.modes)) cs h.1 in
          record {
            assumed = joined (sub k).contract.assumed (contract_after j w sub (ms ++ more_modes) cs).assumed t.contract.assumed r.assumed;
            guaranteed = joined (sub k).contract.guaranteed (contract_after j w sub (ms ++ more_modes) cs).guaranteed t.contract.guaranteed r.guaranteed;
            modes = r.modes;
          }

      module _ (ms : List ModeText) (known : AllByRecursion (ModeTimed w) ms) where
        abbrev here : Setting
        here = setting j w sub ms

        imports_timed : (ks : List Key) (cs : List ContractStatement) → StatementsFit j ks cs → AreTimed (flat_map (import_parts here) cs)
        imports_timed ks [] h = λ z. tt
        imports_timed ks («import» k c as_ xs ∷ cs) h =
            joined (wholes here base as_ ++ here.body k) (flat_map (import_parts here) cs)
            (joined (wholes here base as_) (here.body k) (wholes_timed w j s sub ms (serves ms known) base as_ tt) (below k h.0.call.counted h.0.call.listed).body)
            (imports_timed (ks ++ own_keys j («import» k c as_ xs)) cs h.1)
        imports_timed ks (assume l ∷ cs) h = imports_timed (ks ++ []) cs h.1
        imports_timed ks (guarantee l ∷ cs) h = imports_timed (ks ++ []) cs h.1
        imports_timed ks (ghost_variable x e ∷ cs) h = imports_timed (ks ++ []) cs h.1
        imports_timed ks (constant c ∷ cs) h = imports_timed (ks ++ []) cs h.1
        imports_timed ks (mode m rs es ∷ cs) h = imports_timed (ks ++ ([], m.text) ∷ []) cs h.1

        asserted_one : (c : Site) → IsClockNamed j c.clock → (u : List ℕ) (t : FrameText) → TextTimed u t → AreTimed (asserted_below here c t)
        asserted_one c n u t z = go t.body t.contract t.asserted z.body z.asserted
          where
            maybe : (b : Bool) (y : FrameText) → AreTimed y.body → AreTimed (cond b [] (call_parts here c y))
            maybe true y a = λ h. tt
            maybe false y a =
                joined (wholes here c.clock (call_condition c c.manner ++ c.arguments)) y.body
                (wholes_timed w j s sub ms (serves ms known) c.clock (call_condition c c.manner ++ c.arguments) n) a

            go : (b : List Part) (k : ContractText) (qs : List Part) → AreTimed b → AreTimed qs →
                AreTimed (asserted_below here c record { body = b; contract = k; asserted = qs })
            go b k [] x y = λ h. tt
            go b k (q ∷ qs) x y =
                let l : FrameText = record { body = b; contract = k; asserted = q ∷ qs } in
                joined (cond (is_evaluated (component_of j) c c.manner) [] (call_parts here c l)) (q ∷ qs)
                (maybe (is_evaluated (component_of j) c c.manner) l x) y

        asserted_timed : (is : Instances) (p : ℕ) → CallsFit IsKnown j is p → AreTimed (asserted_in_calls here sub is)
        asserted_timed no_instances p t = λ h. tt
        asserted_timed (with_instance c k is) p t =
            joined (asserted_below here c (sub c.number)) (asserted_in_calls here sub is)
            (asserted_one c (fitting_named j c.clock t.0.clock) (w ++ suc p ∷ []) (sub c.number)
            (subst (λ n. TextTimed (w ++ suc p ∷ []) (sub n)) (sym t.0.number) (below (suc p) t.0.call.counted t.0.call.listed)))
            (asserted_timed is (suc p) t.2)

      abbrev contract_here : ContractText
      contract_here = contract_after j w sub [] (contract_statements (component_of j))

      known_here : ContractTimed w contract_here
      known_here = contract_timed [] [] tt (contract_statements (component_of j)) (own_fits IsKnown j s.fits).contract

      each_picked : {A : Type 0} (Q : A → Type 0) (ks : List ℕ) (xs : List A) → AllByRecursion Q xs → AllByRecursion Q (picked ks xs)
      each_picked Q [] xs a = tt
      each_picked {A} Q (k ∷ ks) xs a = both_parts Q (option_to_list (slice_get xs k)) (picked ks xs) (at_number xs k a) (each_picked Q ks xs a)
        where
          at_number : (xs : List A) (k : ℕ) → AllByRecursion Q xs → AllByRecursion Q (option_to_list (slice_get xs k))
          at_number [] k a = tt
          at_number (x ∷ xs) zero a = (a.0, tt)
          at_number (x ∷ xs) (suc k) a = at_number xs k a.1

      text_timed : (order : List ℕ) → CallsFit IsKnown j (calls_of j) 0 → TextTimed w (text_over sub order w j)
      text_timed order t =
          let g : Setting = setting j w sub contract_here.modes in
          let k : Serves w j s (λ k. (sub k).body) (λ ns key. asked_in g ns key) = serves contract_here.modes known_here.modes in
          record {
            body = joined (flat_map (import_parts g) (contract_statements (component_of j))) (flat_map (equation_parts g) (picked order (equations (component_of j))))
                (imports_timed contract_here.modes known_here.modes [] (contract_statements (component_of j)) (own_fits IsKnown j s.fits).contract)
                (sides_timed w j s sub contract_here.modes k (picked order (equations (component_of j)))
                (each_picked (EquationFits j (IsKnown j)) order (equations (component_of j)) (own_fits IsKnown j s.fits).equations));
            contract = known_here;
            asserted = joined (wholes g base (assertions (component_of j).body)) (asserted_in_calls g sub (calls_of j))
                (wholes_timed w j s sub contract_here.modes k base (assertions (component_of j).body) tt)
                (asserted_timed contract_here.modes known_here.modes (calls_of j) 0 t);
          }

      -- ---- of the conditions

      owed_timed : (is : Instances) (p : ℕ) → CallsFit IsKnown j is p → AreTimed (owed_in_calls sub is)
      owed_timed no_instances p t = λ h. tt
      owed_timed (with_instance c k is) p t =
          joined (owed c c.manner (sub c.number).contract) (owed_in_calls sub is)
          (owed_one c.manner (subst (λ n. TextTimed (w ++ suc p ∷ []) (sub n)) (sym t.0.number) (below (suc p) t.0.call.counted t.0.call.listed)).contract.assumed)
          (owed_timed is (suc p) t.2)
        where
          owed_one : (m : Manner) → AreTimed (sub c.number).contract.assumed → AreTimed (owed c m (sub c.number).contract)
          owed_one (as_import xs) a = λ h. tt
          owed_one plain a = a
          owed_one (while_true e) a = a

      ensured_all : (ms : List ModeText) → AllByRecursion (ModeTimed w) ms → AreTimed (flat_map (λ m. m.ensured) ms)
      ensured_all [] a = λ h. tt
      ensured_all (m ∷ ms) a = joined m.ensured (flat_map (λ m. m.ensured) ms) a.0.ensured (ensured_all ms a.1)

      required_all : (ms : List ModeText) → AllByRecursion (ModeTimed w) ms → AreTimed (flat_map (λ m. m.required) ms)
      required_all [] a = λ h. tt
      required_all (m ∷ ms) a = joined m.required (flat_map (λ m. m.required) ms) a.0.required (required_all ms a.1)

    -- ---- of all frames

    -- the texts of calls, by number
    by_number : (w : List ℕ) (n : ℕ) (ts : List FrameText) → ((p : ℕ) → p < n → TextTimed (w ++ suc p ∷ []) (slice_index_or ts p no_text)) → (k : ℕ) →
        0 < k → pred k < n → TextTimed (w ++ k ∷ []) (text_at ts k)
    by_number w n ts h zero c l = absurd (omega (arith, c))
    by_number w n ts h (suc p) c l = h p l

    module _ (o : Orders) where
      mutual
        frame_timed : (w : List ℕ) (j : Instance) → StandsAt i f w j → TreeFits IsKnown j → TextTimed w (frame_text o w j)
        frame_timed w (instance d cs is) s t =
            text_timed w (instance d cs is) s (text_at (call_texts o w is))
            (by_number w (count_of is) (call_texts o w is) (λ p l. calls_timed w (instance d cs is) s is 0 refl t.1 p (suc p) (omega arith) l)) (o w) t.1

        calls_timed : (w : List ℕ) (j : Instance) → StandsAt i f w j → (is : Instances) (q : ℕ) → drop_calls q (calls_of j) ≡ is → CallsFit IsKnown j is q →
            (p n : ℕ) → n ≡ suc (q + p) → p < count_of is → TextTimed (w ++ n ∷ []) (slice_index_or (call_texts o w is) p no_text)
        calls_timed w j s no_instances q e t p n h l = absurd (omega (arith, l))
        calls_timed w j s (with_instance c k is) q e t zero n h l =
            let here : suc q ≡ n = omega (arith, h) in
            let there : StandsAt i f (w ++ c.number ∷ []) k =
            subst (λ z. StandsAt i f (w ++ z ∷ []) k) (sym t.0.number)
            (subst (λ z. StandsAt i f (w ++ suc q ∷ []) z) (instance_dropped (calls_of j) q ∙ ap (λ z. first_instance z no_instance) e)
            (stands_called i f w j s (suc q) t.0.call.counted t.0.call.listed)) in
            subst (λ z. TextTimed (w ++ z ∷ []) (frame_text o (w ++ c.number ∷ []) k)) (t.0.number ∙ here)
            (frame_timed (w ++ c.number ∷ []) k there t.1)
        calls_timed w j s (with_instance c k is) q e t (suc p) n h l =
            calls_timed w j s is (suc q) (calls_later q (calls_of j) ∙ ap later_calls e) t.2 p n (omega (arith, h)) (omega (arith, l))

      conditions_all : (j : Instance) → StandsAt i f [] j → TreeFits IsKnown j → (sub : Calls) →
          ((k : ℕ) → 0 < k → pred k < count_of (calls_of j) → TextTimed ([] ++ k ∷ []) (sub k)) → CallsFit IsKnown j (calls_of j) 0 →
          (t : FrameText) → TextTimed [] t → AreTimed (condition_parts sub t j)
      conditions_all j s t sub below fit u v =
          let ms : List ModeText = u.contract.modes in
          let known : AllByRecursion (ModeTimed []) ms = v.contract.modes in
          let g : Setting = setting j [] sub ms in
          let one : List Part = u.contract.assumed in
          let two : List Part = one ++ u.asserted in
          let three : List Part = two ++ wholes g base (property_texts (component_of j).body) in
          let four : List Part = three ++ u.contract.guaranteed in
          let five : List Part = four ++ flat_map (λ m. m.ensured) ms in
          let six : List Part = five ++ flat_map (λ m. m.required) ms in
          joined six (owed_in_calls sub (calls_of j))
          (joined five (flat_map (λ m. m.required) ms)
          (joined four (flat_map (λ m. m.ensured) ms)
          (joined three u.contract.guaranteed
          (joined two (wholes g base (property_texts (component_of j).body))
          (joined one u.asserted v.contract.assumed v.asserted)
          (wholes_timed [] j s sub ms (serves [] j s sub below ms known) base (property_texts (component_of j).body) tt)) v.contract.guaranteed)
          (ensured_all [] j s sub below ms known)) (required_all [] j s sub below ms known)) (owed_timed [] j s sub below (calls_of j) 0 fit)

      pub instant_timed : StandsAt i f [] i → TreeFits IsKnown i → AreTimed (in_turn o i)
      instant_timed s t = go i s t
        where
          go : (j : Instance) → StandsAt i f [] j → TreeFits IsKnown j → AreTimed (in_turn o j)
          go (instance d cs is) s t =
              let j : Instance = instance d cs is in
              let u : TextTimed [] (frame_text o [] j) = frame_timed [] j s t in
              joined (frame_text o [] j).body (condition_parts (text_at (call_texts o [] is)) (frame_text o [] j) j) u.body
              (conditions_all j s t (text_at (call_texts o [] is))
              (by_number [] (count_of is) (call_texts o [] is) (λ p l. calls_timed [] j s is 0 refl t.1 p (suc p) (omega arith) l)) t.1 (frame_text o [] j) u)
