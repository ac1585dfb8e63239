-- All that is evaluated at an instant, each part behind its own operands.
use Rattle.std.proofs.Common.{◌≡◌, ℕ, suc, ◌+◌, ◌<◌, List, [], ◌∷◌, ◌++◌, map, flat_map, slice_get, slice_index_or, refl, ◌∙◌, sym, subst, arith}
use Rattle.std.specs.List.{AllByRecursion}
use Rattle.lus_tree.specs.Tree.{Name, Expression, text_of, Constant, Statement, equation, assertion, property, main_mark, ContractStatement, assume, guarantee, ghost_variable, constant, mode, «import», Component, Program}
use Rattle.lus_meaning.specs.Frame.{Frame}
use Rattle.lus_meaning.specs.Scene.{base, Manner, plain, while_true, as_import, Site, Instance, Instances, instance, no_instances, with_instance, component_of, calls_of, contract_statements, clock_of_names}
use Rattle.lus_meaning.specs.Occurrences.{Standing, on_clock, as_side, Occurrence, occurrences, Text, contract_statement_texts, statement_texts, constant_texts, texts, gathered, all_occurrences}
use Rattle.lus_meaning.specs.Program.{site_in, import_site, all_sites}
use Rattle.lus_meaning.specs.Property.{assertions}
use Rattle.lus_meaning.specs.Run.{Equation, equations, ghost_equations, body_equations}
use Rattle.lus_meaning.specs.Depends.{ModeNeeds, modes_need, modes_need_each}
use Rattle.lus_meaning.specs.Order.{IsLeastEquationOrder}
use Rattle.lus_meaning.specs.Refusals.{IsChecked}
use Rattle.lus_meaning.proofs.Members.{IsIn, in_left, in_right}
use Rattle.lus_meaning.proofs.InOrder.{in_order_all}
use Rattle.lus_meaning.proofs.Lists.{all_from, both_parts}
use Rattle.std.proofs.Math.Logic.{inl, inr}
use Rattle.rule_laws.specs.Laws.{AreUnfolded}
use Rattle.rule_laws.proofs.Callees.{each_site}
use Rattle.rule_laws.proofs.Lists.{all_flat}
use Rattle.sys_meaning.specs.WellTyped.{IsKnown, count_of, CallsFit}
use Rattle.sys_meaning.proofs.Forward.{calls_fit}
use Rattle.path_laws.proofs.Tree.{tree_fits}
use Rattle.lus_evaluation.specs.Part.{Part, ModeParts, Setting, needs_of, whole_parts, wholes}
use Rattle.lus_evaluation.specs.Frame.{ModeText, ContractText, FrameText, Calls, setting, import_parts, equation_parts, picked, Orders, asserted_in_calls, text_over, text_at, frame_text, call_texts}
use Rattle.lus_evaluation.specs.Turn.{property_texts, owed, owed_in_calls, condition_parts, in_turn}
use Rattle.lus_evaluation.specs.Evaluation.{instance_on}
use Rattle.evaluation_laws.specs.Rows.{AreCalls, RowShows}
use Rattle.order_laws.specs.Own.{own_modes, own_modes_each}
use Rattle.order_laws.proofs.Frames.{stands_called}
use Rattle.order_laws.proofs.Placed.{CallIn, Settled, GivenTo, given_among, given_top, call_given, Behind, EachLaid, laid_both, all_in_self}
use Rattle.order_laws.proofs.Items.{ItemFree, IsFree, items_free, constants_free, properties_fit}
use Rattle.order_laws.proofs.Sites.{TextHeld, text_held}
use Rattle.order_laws.proofs.Contracts.{Holds, AreLaid, lowered}
use Rattle.order_laws.proofs.Bodies.{in_all, in_flat, at_slice, slice_below, picked_in, holds_within, held_among, holds_more, FrameLaid, SiteThere, contract_side, free_held, contract_held}
use Rattle.order_laws.proofs.Trees.{FrameAt, Texts, unfolded_calls, frame_tree, calls_tree, texts_tree}

text_same : (o : Orders) (i : Instance) → frame_text o [] i ≡ text_over (text_at (call_texts o [] (calls_of i))) (o []) [] i
text_same o (instance d cs is) = refl

ghost_in : (cs : List ContractStatement) (x : ContractStatement) → IsIn x cs → (e : Equation) → IsIn e (ghost_equations (x ∷ [])) → IsIn e (ghost_equations cs)
ghost_in [] x h e k = absurd h
ghost_in (y ∷ cs) x (inl q) e k = joined y (subst (λ z. IsIn e (ghost_equations (z ∷ []))) q k)
  where
    joined : (y : ContractStatement) → IsIn e (ghost_equations (y ∷ [])) → IsIn e (ghost_equations (y ∷ cs))
    joined (assume l) h = absurd h
    joined (guarantee l) h = absurd h
    joined (ghost_variable z a) (inl h) = inl h
    joined (ghost_variable z a) (inr h) = absurd h
    joined (constant z) h = absurd h
    joined (mode m rs es) h = absurd h
    joined («import» n z as_ xs) h = absurd h
ghost_in (y ∷ cs) x (inr h) e k = further y (ghost_in cs x h e k)
  where
    further : (y : ContractStatement) → IsIn e (ghost_equations cs) → IsIn e (ghost_equations (y ∷ cs))
    further (assume l) h = h
    further (guarantee l) h = h
    further (ghost_variable z a) h = inr h
    further (constant z) h = h
    further (mode m rs es) h = h
    further («import» n z as_ xs) h = h

module _ (p : Program) (c : IsChecked p) (i : Instance) (f : Frame) (t : ℕ) (every : List Part) (shown : (w : List ℕ) → AreCalls i w → RowShows i f t w) (o : Orders)
    (least : (w : List ℕ) → IsLeastEquationOrder (instance_on i w) (equations (component_of (instance_on i w))) (o w))
    (s : FrameAt p c i f t every shown o least [] i) where
  abbrev n : Component
  n = component_of i

  abbrev sub : Calls
  sub = text_at (call_texts o [] (calls_of i))

  abbrev x : FrameText
  x = text_over sub (o []) [] i

  abbrev k : ContractText
  k = x.contract

  abbrev g : Setting
  g = setting i [] sub k.modes

  abbrev Laid : List Part → List Part → Type 0
  Laid b qs = EachLaid i f t every [] b qs

  laid : FrameLaid i f t every [] x (own_modes [] i) (modes_need i)
  laid = subst (λ y. FrameLaid i f t every [] y (own_modes [] i) (modes_need i)) (text_same o i) (frame_tree p c i f t every shown o least [] i s)

  texts_laid : Texts p c i f t every shown o least [] i sub
  texts_laid = texts_tree p c i f t every shown o least [] i s

  fits : CallsFit IsKnown i (calls_of i) 0
  fits = calls_fit IsKnown i (tree_fits p c i s.unfolded s.declared)

  child : (q : ℕ) → q < count_of (calls_of i) →
      FrameLaid i f t every (suc q ∷ []) (sub (suc q)) (slice_index_or (own_modes_each [] (calls_of i)) q [])
      (slice_index_or (modes_need_each (calls_of i)) q [])
  child q l =
      (calls_tree p c i f t every shown o least [] i (calls_of i) 0 fits (all_sites n) (unfolded_calls p i s.unfolded)
      (each_site p c.rules.clocked.typed n s.declared) q (suc q) (omega arith) l (stands_called i f [] i s.stands (suc q) (omega arith) l)).0

  -- ---- the conditions

  abbrev checks : List Part
  checks = wholes g base (property_texts n.body)

  abbrev ensures : List Part
  ensures = flat_map (λ m. m.ensured) k.modes

  abbrev requires_ : List Part
  requires_ = flat_map (λ m. m.required) k.modes

  abbrev front : List Part
  front = k.assumed ++ x.asserted ++ checks ++ k.guaranteed ++ ensures ++ requires_

  kept : (qs : List Part) → Holds x.body (x.body ++ qs)
  kept qs = holds_more x.body x.body qs (all_in_self x.body)

  ensured_laid : (ms : List ModeText) (qs : ModeParts) (ds : ModeNeeds) → AreLaid i f t every [] (Holds x.body) ms qs ds → (b : List Part) → Holds x.body b →
      Laid b (flat_map (λ m. m.ensured) ms)
  ensured_laid [] [] [] a b h = λ g v hb hq. tt
  ensured_laid [] (q ∷ qs) ds a b h = absurd a
  ensured_laid [] [] (d ∷ ds) a b h = absurd a
  ensured_laid (m ∷ ms) [] ds a b h = absurd a
  ensured_laid (m ∷ ms) (q ∷ qs) [] a b h = absurd a
  ensured_laid (m ∷ ms) (q ∷ qs) (d ∷ ds) a b h =
      laid_both i f t every [] b m.ensured (flat_map (λ m. m.ensured) ms) (a.0.ensured b h) (ensured_laid ms qs ds a.1 (b ++ m.ensured) (holds_more x.body b m.ensured h))

  required_laid : (ms : List ModeText) (qs : ModeParts) (ds : ModeNeeds) → AreLaid i f t every [] (Holds x.body) ms qs ds → (b : List Part) → Holds x.body b →
      Laid b (flat_map (λ m. m.required) ms)
  required_laid [] [] [] a b h = λ g v hb hq. tt
  required_laid [] (q ∷ qs) ds a b h = absurd a
  required_laid [] [] (d ∷ ds) a b h = absurd a
  required_laid (m ∷ ms) [] ds a b h = absurd a
  required_laid (m ∷ ms) (q ∷ qs) [] a b h = absurd a
  required_laid (m ∷ ms) (q ∷ qs) (d ∷ ds) a b h =
      laid_both i f t every [] b m.required (flat_map (λ m. m.required) ms) (a.0.required b h)
      (required_laid ms qs ds a.1 (b ++ m.required) (holds_more x.body b m.required h))

  front_laid : Laid x.body front
  front_laid =
      let one : List Part = k.assumed in
      let two : List Part = one ++ x.asserted in
      let three : List Part = two ++ checks in
      let four : List Part = three ++ k.guaranteed in
      let five : List Part = four ++ ensures in
      let a : Laid x.body one = laid.own.assumed x.body (all_in_self x.body) in
      let b : Laid x.body two = laid_both i f t every [] x.body one x.asserted a (laid.asserted (x.body ++ one) (kept one)) in
      let d : Laid x.body three =
      laid_both i f t every [] x.body two checks b (texts_laid (property_texts n.body) (properties_fit p c i s.unfolded s.declared) (x.body ++ two) (kept two)) in
      let e : Laid x.body four = laid_both i f t every [] x.body three k.guaranteed d (laid.own.guaranteed (x.body ++ three) (kept three)) in
      let h : Laid x.body five =
      laid_both i f t every [] x.body four ensures e (ensured_laid k.modes (own_modes [] i) (modes_need i) laid.own.modes (x.body ++ four) (kept four)) in
      laid_both i f t every [] x.body five requires_ h (required_laid k.modes (own_modes [] i) (modes_need i) laid.own.modes (x.body ++ five) (kept five))

  -- ---- calls

  abbrev rs : List Part
  rs = x.body ++ front

  abbrev cs : List ContractStatement
  cs = contract_statements n

  abbrev es : List Equation
  es = equations n

  abbrev InRs : List Part → Type 0
  InRs qs = (r : Part) → IsIn r qs → IsIn r rs

  in_front : (qs : List Part) → ((r : Part) → IsIn r qs → IsIn r front) → InRs qs
  in_front qs h r m = in_right r x.body front (h r m)

  in_body : (qs : List Part) → ((r : Part) → IsIn r qs → IsIn r x.body) → InRs qs
  in_body qs h r m = in_left r x.body front (h r m)

  assumed_in : InRs k.assumed
  assumed_in = in_front k.assumed (λ r m. in_left r (k.assumed ++ x.asserted ++ checks ++ k.guaranteed ++ ensures) requires_
      (in_left r (k.assumed ++ x.asserted ++ checks ++ k.guaranteed) ensures (in_left r (k.assumed ++ x.asserted ++ checks) k.guaranteed
      (in_left r (k.assumed ++ x.asserted) checks (in_left r k.assumed x.asserted m)))))

  asserted_in : InRs x.asserted
  asserted_in = in_front x.asserted (λ r m. in_left r (k.assumed ++ x.asserted ++ checks ++ k.guaranteed ++ ensures) requires_
      (in_left r (k.assumed ++ x.asserted ++ checks ++ k.guaranteed) ensures (in_left r (k.assumed ++ x.asserted ++ checks) k.guaranteed
      (in_left r (k.assumed ++ x.asserted) checks (in_right r k.assumed x.asserted m)))))

  checks_in : InRs checks
  checks_in = in_front checks (λ r m. in_left r (k.assumed ++ x.asserted ++ checks ++ k.guaranteed ++ ensures) requires_
      (in_left r (k.assumed ++ x.asserted ++ checks ++ k.guaranteed) ensures (in_left r (k.assumed ++ x.asserted ++ checks) k.guaranteed
      (in_right r (k.assumed ++ x.asserted) checks m))))

  guaranteed_in : InRs k.guaranteed
  guaranteed_in = in_front k.guaranteed (λ r m. in_left r (k.assumed ++ x.asserted ++ checks ++ k.guaranteed ++ ensures) requires_
      (in_left r (k.assumed ++ x.asserted ++ checks ++ k.guaranteed) ensures (in_right r (k.assumed ++ x.asserted ++ checks) k.guaranteed m)))

  modes_in : (m : ModeText) → IsIn m k.modes → InRs m.required × InRs m.ensured
  modes_in m h = (
    in_front m.required (λ r q. in_right r (k.assumed ++ x.asserted ++ checks ++ k.guaranteed ++ ensures) requires_
        (in_flat (λ m. m.required) k.modes m r h q)),
    in_front m.ensured (λ r q. in_left r (k.assumed ++ x.asserted ++ checks ++ k.guaranteed ++ ensures) requires_
        (in_right r (k.assumed ++ x.asserted ++ checks ++ k.guaranteed) ensures (in_flat (λ m. m.ensured) k.modes m r h q))),
  )

  abbrev sides : List Part
  sides = flat_map (equation_parts g) (picked (o []) es)

  side_in : (e : Equation) → IsIn e es → InRs (equation_parts g e)
  side_in e h =
      let q : (k : ℕ) × (slice_get es k ≡ _) = at_slice es e h in
      in_body (equation_parts g e) (λ r m. in_right r (flat_map (import_parts g) cs) sides (in_flat (equation_parts g) (picked (o []) es) e r
      (picked_in (o []) es q.0 e q.1 ((least []).order.all q.0 (slice_below es q.0 e q.1))) m))

  side_held : (e : Equation) → IsIn e es → (z : Standing) → TextHeld g n rs (z, e.right)
  side_held e h z = text_held g n (needs_of g (clock_of_names n e.names) e.right) e.names (clock_of_names n e.names) z e.right rs (side_in e h)

  contract_sides : (y : ContractStatement) → IsIn y cs → AllByRecursion (TextHeld g n rs) (contract_side y)
  contract_sides (ghost_variable v e) h = (
    side_held record { names = v.name.text ∷ []; right = e } (in_left _ (ghost_equations cs) (body_equations n.body)
        (ghost_in cs (ghost_variable v e) h record { names = v.name.text ∷ []; right = e } (inl refl))) (as_side base),
    tt,
  )
  contract_sides (constant v) h = (
    free_held i [] sub n rs (on_clock base) v.value (in_all (ItemFree p c i s.unfolded s.declared) cs (constant v)
        (items_free p c i s.unfolded s.declared) h),
    tt,
  )
  contract_sides (assume l) h = tt
  contract_sides (guarantee l) h = tt
  contract_sides (mode m qs ds) h = tt
  contract_sides («import» m v as_ xs) h = tt

  statements_held : (ss : List Statement) → ((e : Equation) → IsIn e (body_equations ss) → IsIn e es) →
      ((e : Expression) → IsIn e (assertions ss) → IsIn e (assertions n.body)) →
      ((e : Expression) → IsIn e (property_texts ss) → IsIn e (property_texts n.body)) →
      AllByRecursion (TextHeld g n rs) (flat_map (statement_texts n) ss)
  statements_held [] h a b = tt
  statements_held (equation xs e ∷ ss) h a b = (
    side_held record { names = map text_of xs; right = e } (h _ (inl refl)) (as_side (clock_of_names n (map text_of xs))),
    statements_held ss (λ y m. h y (inr m)) a b,
  )
  statements_held (assertion e ∷ ss) h a b = (
    text_held g n (needs_of g base e) [] base (on_clock base) e rs
        (λ r m. asserted_in r (in_left r (wholes g base (assertions n.body)) (asserted_in_calls g sub (calls_of i))
        (in_flat (λ e. whole_parts g [] base e) (assertions n.body) e r (a e (inl refl)) m))),
    statements_held ss h (λ y m. a y (inr m)) b,
  )
  statements_held (property l ∷ ss) h a b = (
    text_held g n (needs_of g base l.value) [] base (on_clock base) l.value rs
        (λ r m. checks_in r (in_flat (λ e. whole_parts g [] base e) (property_texts n.body) l.value r (b l.value (inl refl)) m)),
    statements_held ss h a (λ y m. b y (inr m)),
  )
  statements_held (main_mark z ∷ ss) h a b = statements_held ss h a b

  constants_held : (ds : List Constant) → AllByRecursion (λ d. IsFree p c i s.unfolded s.declared d.value) ds → AllByRecursion (TextHeld g n rs) (constant_texts ds)
  constants_held [] a = tt
  constants_held (d ∷ ds) a = (free_held i [] sub n rs (on_clock base) d.value a.0, constants_held ds a.1)

  texts_held : AllByRecursion (TextHeld g n rs) (texts n)
  texts_held =
      both_parts (TextHeld g n rs) (flat_map contract_statement_texts cs) (constant_texts n.constants ++ flat_map (statement_texts n) n.body)
      (contract_held i [] sub n rs k.modes [] cs contract_sides assumed_in guaranteed_in modes_in
      (in_body (flat_map (import_parts g) cs) (λ r m. in_left r (flat_map (import_parts g) cs) sides m)))
      (both_parts (TextHeld g n rs) (constant_texts n.constants) (flat_map (statement_texts n) n.body)
      (constants_held n.constants (constants_free p c i s.unfolded s.declared))
      (statements_held n.body (λ e m. in_right e (ghost_equations cs) (body_equations n.body) m) (λ e m. m) (λ e m. m)))

  -- but for imports
  abbrev SiteHeld : Site → Type 0
  SiteHeld z = ((xs : List Name) → z.manner ≡ as_import xs → ⊥) → SiteThere i [] sub n rs z

  import_sites : (ys : List ContractStatement) → AllByRecursion SiteHeld (flat_map import_site ys)
  import_sites [] = tt
  import_sites (assume l ∷ ys) = import_sites ys
  import_sites (guarantee l ∷ ys) = import_sites ys
  import_sites (ghost_variable v e ∷ ys) = import_sites ys
  import_sites (constant v ∷ ys) = import_sites ys
  import_sites (mode m qs ds ∷ ys) = import_sites ys
  import_sites («import» m v as_ xs ∷ ys) = ((λ h. absurd (h _ refl)), import_sites ys)

  sites_held : AllByRecursion SiteHeld (all_sites n)
  sites_held =
      in_order_all (λ s. s.number) SiteHeld (gathered site_in n ++ flat_map import_site cs)
      (both_parts SiteHeld (gathered site_in n) (flat_map import_site cs)
      (all_flat SiteHeld (λ (q : Occurrence). site_in q.standing q.expression) (all_occurrences n)
      (all_flat (λ (q : Occurrence). AllByRecursion SiteHeld (site_in q.standing q.expression)) (λ (y : Text). occurrences n y.0 y.1) (texts n)
      (all_from (TextHeld g n rs) (λ (y : Text). AllByRecursion (λ (q : Occurrence). AllByRecursion SiteHeld (site_in q.standing q.expression)) (occurrences n y.0 y.1))
      (λ y a. all_from (λ (q : Occurrence). AllByRecursion (SiteThere i [] sub n rs) (site_in q.standing q.expression))
      (λ (q : Occurrence). AllByRecursion SiteHeld (site_in q.standing q.expression))
      (λ q b. all_from (SiteThere i [] sub n rs) SiteHeld (λ z d h. d) (site_in q.standing q.expression) b) (occurrences n y.0 y.1) a)
      (texts n) texts_held))) (import_sites cs))

  -- ---- what is owed

  given_there : (k : ℕ) → CallIn [] k rs → (b : List Part) → Holds rs b → Behind i f t every [] b (GivenTo i f t [] k b)
  given_there k y b h inside above hb =
      given_among i f t [] k rs b (held_among rs b h)
      (call_given i f t every [] k [] rs (laid_both i f t every [] [] x.body front (laid.own.body []) front_laid inside (given_top i f t [])
      (λ r m. absurd m) (λ r m. hb r (held_among rs b h r m))) y)

  owed_there : (z : Site) (qs : ModeParts) (ds : ModeNeeds) → FrameLaid i f t every (z.number ∷ []) (sub z.number) qs ds → SiteThere i [] sub n rs z →
      (b : List Part) → Holds rs b → Laid b (sub z.number).contract.assumed
  owed_there z qs ds a y b h =
      let held : Holds (sub z.number).body b = holds_within (sub z.number).body rs b y.0 h in
      lowered i f t every [] z.number b (sub z.number).contract.assumed (a.own.settled b held) (given_there z.number y.1 b h) (a.own.assumed b held)

  owed_one : (z : Site) (m : Manner) → z.manner ≡ m → SiteHeld z → (qs : ModeParts) (ds : ModeNeeds) →
      FrameLaid i f t every (z.number ∷ []) (sub z.number) qs ds → (b : List Part) → Holds rs b → Laid b (owed z m (sub z.number).contract)
  owed_one z (as_import xs) e h qs ds a b r = λ g v hb hq. tt
  owed_one z plain e h qs ds a b r = owed_there z qs ds a (h (λ xs q. no_plain xs (sym e ∙ q))) b r
    where
      no_plain : (xs : List Name) → plain ≡ as_import xs → ⊥
      no_plain xs q = cc
  owed_one z (while_true y) e h qs ds a b r = owed_there z qs ds a (h (λ xs q. no_while xs (sym e ∙ q))) b r
    where
      no_while : (xs : List Name) → while_true y ≡ as_import xs → ⊥
      no_while xs q = cc

  each_owed : (is : Instances) (ss : List Site) (q : ℕ) → CallsFit IsKnown i is q → AreUnfolded p ss is → AllByRecursion SiteHeld ss →
      q + count_of is ≡ count_of (calls_of i) → (b : List Part) → Holds rs b → Laid b (owed_in_calls sub is)
  each_owed no_instances ss q h v a e b r = λ g v hb hq. tt
  each_owed (with_instance z y is) [] q h v a e b r = absurd v
  each_owed (with_instance z y is) (s ∷ ss) q h v a e b r =
      let held : SiteHeld z = subst SiteHeld (sym v.0) a.0 in
      let one : List Part = owed z z.manner (sub z.number).contract in
      let counted : suc q ≡ z.number = sym h.0.number in
      laid_both i f t every [] b one (owed_in_calls sub is)
      (owed_one z z.manner refl held (slice_index_or (own_modes_each [] (calls_of i)) q []) (slice_index_or (modes_need_each (calls_of i)) q [])
      (subst (λ m. FrameLaid i f t every (m ∷ []) (sub m) (slice_index_or (own_modes_each [] (calls_of i)) q [])
      (slice_index_or (modes_need_each (calls_of i)) q [])) counted (child q (omega (arith, e)))) b r)
      (each_owed is ss (suc q) h.2 v.3 a.1 (omega (arith, e)) (b ++ one) (holds_more rs b one r))

  pub instant_laid : Laid [] (in_turn o i)
  instant_laid =
      subst (λ y. Laid [] (y.body ++ condition_parts sub y i)) (sym (text_same o i))
      (laid_both i f t every [] [] x.body (front ++ owed_in_calls sub (calls_of i)) (laid.own.body [])
      (laid_both i f t every [] x.body front (owed_in_calls sub (calls_of i)) front_laid
      (each_owed (calls_of i) (all_sites n) 0 fits (unfolded_calls p i s.unfolded) sites_held (omega arith) (x.body ++ front) (all_in_self rs))))

  -- the equations of the declaration are among all
  pub top_settled : Settled i f t [] (in_turn o i)
  top_settled =
      subst (λ y. Settled i f t [] (y.body ++ condition_parts sub y i)) (sym (text_same o i))
      (laid.own.settled (x.body ++ condition_parts sub x i) (kept (condition_parts sub x i)))
