-- Each part of an expression stands behind its own operands.
use Rattle.std.proofs.Common.{◌≡◌, ℕ, zero, suc, pred, ◌<◌, ◌≤◌, arith, true, false, Bool, List, [], ◌∷◌, ◌++◌, flat_map, option_map, refl, ap, sym, subst}
use Rattle.std.specs.Prelude.{Contains}
use Rattle.std.specs.List.{AllByRecursion}
use Rattle.std.proofs.lemmas.Bool.{false≢true}
use Rattle.lus_tree.specs.Tree.{Name, text_of, Expression, Expressions, truth, number, name, negation, minus, pre, arrow, binary, choice, sampled, merged, call, condact, mode_name, no_more, more, Labelled, Program}
use Rattle.lus_meaning.specs.Value.{is}
use Rattle.lus_meaning.specs.Frame.{Frame}
use Rattle.lus_meaning.specs.Scene.{Clock, base, sampled_by, plain, while_true, Site, Instance, component_of, calls_of, clock_of, Scene, is_on}
use Rattle.lus_meaning.specs.Occurrences.{Standing, on_clock, within, before, moved}
use Rattle.lus_meaning.specs.Depends.{Need, a_name, known_needs, clock_needs, output_needs, needs, needs_each, modes_need, named_in}
use Rattle.lus_meaning.specs.Cycle.{Place as NeededPlace}
use Rattle.lus_meaning.specs.ClockFaults.{components}
use Rattle.lus_meaning.specs.Refusals.{IsChecked}
use Rattle.lus_meaning.specs.Program.{listed}
use Rattle.lus_meaning.proofs.Members.{IsIn, in_left, in_right}
use Rattle.lus_meaning.proofs.EachPart.{Each, EachAmong}
use Rattle.lus_meaning.proofs.Lists.{all_from}
use Rattle.rule_laws.specs.Laws.{IsUnfolded}
use Rattle.rule_laws.specs.Fitting.{CallFits}
use Rattle.sys_meaning.specs.Items.{Key}
use Rattle.sys_meaning.specs.Defaults.{site_at, site_of}
use Rattle.sys_meaning.specs.WellTyped.{IsKnown, count_of, IsNameOn, clock_here, Stands}
use Rattle.path_laws.proofs.Standing.{Known, site_there}
use Rattle.path_laws.proofs.Places.{stand}
use Rattle.lus_evaluation.specs.Part.{Part, Setting, needs_of, key_of, asked_in, part, parts, argument_parts, operand_parts, whole_parts, wholes}
use Rattle.lus_evaluation.specs.Frame.{ModeText, Calls, setting}
use Rattle.slot_values.specs.Clocked.{row_by, clock_on}
use Rattle.slot_values.specs.Parts.{own_parts, operands}
use Rattle.evaluation_laws.specs.Rows.{AreCalls, row_at, scene_there, numbers_there, RowShows}
use Rattle.order_laws.specs.Own.{own_setting, own_modes}
use Rattle.order_laws.specs.Rows.{place_there}
use Rattle.order_laws.specs.Needed.{IsSide}
use Rattle.order_laws.proofs.Frames.{base_there}
use Rattle.order_laws.proofs.Names.{Named}
use Rattle.order_laws.proofs.Covers.{CoversNeeds, covers_itself, covers_left, covers_right}
use Rattle.order_laws.proofs.Placed.{Among, Settled, OwnIn, CalledIn, WholeIn, WholesIn, IsSiteOf, GivenTo, EachLaid, Bodied, laid_both, body_below, all_in_self, own_wider, own_covered, own_later, own_two}
use Rattle.order_laws.proofs.Laying.{Has, has_more, root_in, own_in}

no_plain : (a : Expression) → plain ≡ while_true a → ⊥
no_plain a e = cc

same_condition : (a e : Expression) → while_true a ≡ while_true e → a ≡ e
same_condition a e q = cc

module _ (p : Program) (c : IsChecked p) (i : Instance) (f : Frame) (t : ℕ) (every : List Part) (w : List ℕ) (calls : AreCalls i w) (sh : RowShows i f t w)
    (u : IsUnfolded p (place_there i f w)) (d : Contains (components p) (component_of (place_there i f w))) where
  abbrev j : Instance
  j = place_there i f w

  abbrev sc : Scene
  sc = scene_there i f w

  abbrev Shown : Clock → Type 0
  Shown k = clock_on (row_by (numbers_there i w) (row_at i f t)) k ≡ is_on sc k t

  abbrev Gives : List Name → Clock → Expression → Type 0
  Gives xs k e = (x : Name) → named_in x xs ≡ true → IsSide j xs k e

  gives_none : {k : Clock} {e : Expression} → Gives [] k e
  gives_none x h = absurd (false≢true h)

  abbrev Knows : Standing → Expression → Type 0
  Knows s e = Each (Known j) (component_of j) s e

  module _ (sub : Calls) (ms : List ModeText) (M : Key → Type 0) (ins : List ℕ)
      (bodies : (k : ℕ) → 0 < k → pred k < count_of (calls_of j) → Bodied i f t every (w ++ k ∷ []) (sub k).body)
      (modes : (key : Key) → M key → (ns : List NeededPlace) (b : List Part) → Has i f t w sub ins b → CoversNeeds i w ns (known_needs (modes_need (place_there i f w)) key) →
      EachLaid i f t every w b (asked_in (setting j w sub ms) ns key))
      (asks : (key : Key) → M key → (ns : List NeededPlace) (b : List Part) → Has i f t w sub ins b → CoversNeeds i w ns (known_needs (modes_need (place_there i f w)) key) →
      AllByRecursion (OwnIn i f t w b (asked_in (setting j w sub ms) ns key) ns) (asked_in (own_setting j w (own_modes w j)) ns key)) where
    abbrev g : Setting
    g = setting j w sub ms

    abbrev h : Setting
    h = own_setting j w (own_modes w j)

    -- what the imports that stand before give is there
    abbrev Ready : List Part → Type 0
    Ready b = Has i f t w sub ins b

    still : (b xs : List Part) → Ready b → Ready (b ++ xs)
    still b xs r = has_more i f t w sub ins b xs r

    abbrev Needed : Clock → Expression → List Need
    Needed k e = needs j (modes_need j) k e

    abbrev Reads : List NeededPlace → List Need → Type 0
    Reads ns qs = CoversNeeds i w ns qs

    abbrev Laid : List Part → List Part → Type 0
    Laid b qs = EachLaid i f t every w b qs

    abbrev Names : Standing → Expression → Type 0
    Names s e = Each (Named M) (component_of j) s e

    abbrev Own : List Part → List NeededPlace → List Part → List Part → Type 0
    Own b ns qs os = AllByRecursion (OwnIn i f t w b qs ns) os

    -- a part behind these parts, which has its own operands among them
    last : (b : List Part) (ns : List NeededPlace) (xs : List Name) (s : Standing) (e : Expression) → Knows s e → Shown s.clock → Gives xs s.clock e →
        Reads ns (Needed s.clock e) → (front : List Part) → Laid b front → Own b ns front (operands h ns s.clock e) → CalledIn i f t w (b ++ front) s.clock e →
        Laid b (front ++ part g ns xs s.clock e ∷ [])
    last b ns xs s e k o v y front a q z =
        laid_both i f t every w b front (part g ns xs s.clock e ∷ []) a (λ inside gv hb hq. (
          record {
            calls = calls;
            stands = stand p c j u d s e k;
            clock = o;
            gives = v;
            operands = own_later i f t w b front (b ++ front) (operands h ns s.clock e) ns
                (own_wider i f t w b front (b ++ front) (operands h ns s.clock e) ns (λ r m. in_right r b front m) q);
            called = z;
            inside = inside;
            given = gv;
            covers = y;
          },
          tt,
        ))

    nothing : (b : List Part) → Laid b []
    nothing b g v hb hq = tt

    abbrev Called : ℕ → Type 0
    Called k = Bodied i f t every (w ++ k ∷ []) (sub k).body

    -- the site of a call
    site_numbered : (m : ℕ) → 1 ≤ m → (z : Site) → site_at (calls_of j) (pred m) ≡ z → site_of j m ≡ z
    site_numbered zero l z e = absurd (omega (arith, l))
    site_numbered (suc m) l z e = e

    given_to : (z : Site) → CallFits j z → (qs : List Part) → WholesIn i f t w qs z.clock z.arguments →
        ((a : Expression) → z.manner ≡ while_true a → WholeIn i f t w qs z.clock a) → GivenTo i f t w z.number qs
    given_to z a qs wholes held =
        let e : site_of j z.number ≡ z = site_numbered z.number a.number z (site_there (calls_of j) (pred z.number) z a.site).0 in record {
          arguments = subst (λ y. WholesIn i f t w qs y.clock y.arguments) (sym e) wholes;
          condition = subst (λ y. (a : Expression) → y.manner ≡ while_true a → WholeIn i f t w qs y.clock a) (sym e) held;
        }

    sited : (z : Site) → CallFits j z → IsSiteOf i f t w z.number z.clock z.arguments
    sited z a =
        let e : site_of j z.number ≡ z = site_numbered z.number a.number z (site_there (calls_of j) (pred z.number) z a.site).0 in
        (ap (λ y. y.clock) e, ap (λ y. y.arguments) e, (let l : 1 ≤ z.number = a.number in omega (arith, l)))

    -- arguments are wholes
    wholes_in : (k : Clock) (as_ : Expressions) (qs : List Part) → Among (argument_parts g k as_) qs → WholesIn i f t w qs k (listed as_)
    wholes_in k no_more qs m = tt
    wholes_in k (more a as_) qs m =
        let one : List Part = parts g (needs_of g k a) [] k a in (
          record {
            part = part g (needs_of g k a) [] k a;
            there = m (part g (needs_of g k a) [] k a) (in_left (part g (needs_of g k a) [] k a) one (argument_parts g k as_)
                (root_in g (needs_of g k a) [] k a));
            way = refl;
            clock = refl;
            expression = refl;
            needs = refl;
          },
          wholes_in k as_ qs (λ y z. m y (in_right y one (argument_parts g k as_) z)),
        )

    -- and so is a condition
    condition_in : (k : Clock) (a : Expression) (qs : List Part) → Among (parts g (needs_of g k a) [] k a) qs → (e : Expression) →
        while_true a ≡ while_true e → WholeIn i f t w qs k e
    condition_in k a qs m e same =
        subst (WholeIn i f t w qs k) (same_condition a e same) record {
          part = part g (needs_of g k a) [] k a;
          there = m (part g (needs_of g k a) [] k a) (root_in g (needs_of g k a) [] k a);
          way = refl;
          clock = refl;
          expression = refl;
          needs = refl;
        }

    -- the frame that is called, where its parts stand among these
    settled_in : (k : ℕ) → Called k → (b qs : List Part) → Among (g.body k) qs → Settled i f t (w ++ k ∷ []) (b ++ qs)
    settled_in k a b qs m =
        a.settled (b ++ qs) (all_from (λ r. IsIn r (g.body k)) (λ r. IsIn r (b ++ qs)) (λ r y. in_right r b qs (m r y)) (g.body k)
        (all_in_self (g.body k)))

    ours : (b : List Part) → Ready b → (ns : List NeededPlace) (s : Standing) (e : Expression) → Names s e → Reads ns (Needed s.clock e) →
        Own b ns (parts g ns [] s.clock e) (own_parts h ns [] s.clock e)
    ours b r ns s e n y = own_in i f t j w sub ms (own_modes w j) M b (λ key k ns z. asks key k ns b r z) ns [] s e n y

    twice : (b : List Part) (ns : List NeededPlace) (qs rs os us : List Part) → Own b ns qs os → Own b ns rs us → Own b ns (qs ++ rs) (os ++ us)
    twice b ns qs rs os us a e = own_two i f t w b qs rs os us ns a e

    both : (b qs rs : List Part) → Laid b qs → Laid (b ++ qs) rs → Laid b (qs ++ rs)
    both b qs rs a e = laid_both i f t every w b qs rs a e

    on_name : (x : Name) (k : Clock) → IsNameOn j (IsKnown j) k x → Shown (clock_here j (IsKnown j) x)
    on_name x k n = sh.clocks x n.stream n.declared

    on_truth : (q : Bool) (x : Name) (k : Clock) → IsNameOn j (IsKnown j) k x → Shown (sampled_by q x)
    on_truth q x k n = ap (is q) (sh.names x n.stream n.declared)

    mutual
      pub each_laid : (b : List Part) → Ready b → (ns : List NeededPlace) (xs : List Name) (s : Standing) (e : Expression) → Knows s e → Names s e →
          Shown s.clock → Gives xs s.clock e → CoversNeeds i w ns (needs j (modes_need j) s.clock e) → Laid b (parts g ns xs s.clock e)
      each_laid b r ns xs s (truth q a) k n o v y = last b ns xs s (truth q a) k o v y [] (nothing b) tt tt
      each_laid b r ns xs s (number q a) k n o v y = last b ns xs s (number q a) k o v y [] (nothing b) tt tt
      each_laid b r ns xs s (name q a) k n o v y = last b ns xs s (name q a) k o v y [] (nothing b) tt tt
      each_laid b r ns xs s (negation q a) k n o v y =
          let need : Reads ns (Needed s.clock a) = covers_right i w ns (clock_needs s.clock) (Needed s.clock a) y in
          last b ns xs s (negation q a) k o v y (parts g ns [] s.clock a) (each_laid b r ns [] (within s) a k.1 n.1 o gives_none need)
          (ours b r ns (within s) a n.1 need) tt
      each_laid b r ns xs s (minus q a) k n o v y =
          let need : Reads ns (Needed s.clock a) = covers_right i w ns (clock_needs s.clock) (Needed s.clock a) y in
          last b ns xs s (minus q a) k o v y (parts g ns [] s.clock a) (each_laid b r ns [] (within s) a k.1 n.1 o gives_none need)
          (ours b r ns (within s) a n.1 need) tt
      each_laid b r ns xs s (pre q l a) k n o v y =
          let zs : List NeededPlace = needs_of g s.clock a in
          last b ns xs s (pre q l a) k o v y (parts g zs [] s.clock a)
          (each_laid b r zs [] (before s) a k.1 n.1 o gives_none (covers_itself i zs)) tt record {
            part = part g zs [] s.clock a;
            there = in_right (part g zs [] s.clock a) b (parts g zs [] s.clock a) (root_in g zs [] s.clock a);
            way = refl;
            clock = refl;
            expression = refl;
          }
      each_laid b r ns xs s (arrow q l a e) k n o v y =
          let one : List Part = parts g ns [] s.clock a in
          let other : List Part = parts g ns [] s.clock e in
          let need : Reads ns (Needed s.clock a ++ Needed s.clock e) =
          covers_right i w ns (clock_needs s.clock) (Needed s.clock a ++ Needed s.clock e) y in
          let left : Reads ns (Needed s.clock a) = covers_left i w ns (Needed s.clock a) (Needed s.clock e) need in
          let right : Reads ns (Needed s.clock e) = covers_right i w ns (Needed s.clock a) (Needed s.clock e) need in
          last b ns xs s (arrow q l a e) k o v y (one ++ other)
          (both b one other (each_laid b r ns [] (within s) a k.1 n.1 o gives_none left)
          (each_laid (b ++ one) (still b one r) ns [] (within s) e k.2 n.2 o gives_none right))
          (twice b ns one other (own_parts h ns [] s.clock a) (own_parts h ns [] s.clock e) (ours b r ns (within s) a n.1 left)
          (ours b r ns (within s) e n.2 right)) tt
      each_laid b r ns xs s (binary q l a e) k n o v y =
          let one : List Part = parts g ns [] s.clock a in
          let other : List Part = parts g ns [] s.clock e in
          let need : Reads ns (Needed s.clock a ++ Needed s.clock e) =
          covers_right i w ns (clock_needs s.clock) (Needed s.clock a ++ Needed s.clock e) y in
          let left : Reads ns (Needed s.clock a) = covers_left i w ns (Needed s.clock a) (Needed s.clock e) need in
          let right : Reads ns (Needed s.clock e) = covers_right i w ns (Needed s.clock a) (Needed s.clock e) need in
          last b ns xs s (binary q l a e) k o v y (one ++ other)
          (both b one other (each_laid b r ns [] (within s) a k.1 n.1 o gives_none left)
          (each_laid (b ++ one) (still b one r) ns [] (within s) e k.2 n.2 o gives_none right))
          (twice b ns one other (own_parts h ns [] s.clock a) (own_parts h ns [] s.clock e) (ours b r ns (within s) a n.1 left)
          (ours b r ns (within s) e n.2 right)) tt
      each_laid b r ns xs s (choice q a e z) k n o v y =
          let one : List Part = parts g ns [] s.clock a in
          let other : List Part = parts g ns [] s.clock e in
          let third : List Part = parts g ns [] s.clock z in
          let need : Reads ns (Needed s.clock a ++ (Needed s.clock e ++ Needed s.clock z)) =
          covers_right i w ns (clock_needs s.clock) (Needed s.clock a ++ (Needed s.clock e ++ Needed s.clock z)) y in
          let behind : Reads ns (Needed s.clock e ++ Needed s.clock z) =
          covers_right i w ns (Needed s.clock a) (Needed s.clock e ++ Needed s.clock z) need in
          let first : Reads ns (Needed s.clock a) = covers_left i w ns (Needed s.clock a) (Needed s.clock e ++ Needed s.clock z) need in
          let left : Reads ns (Needed s.clock e) = covers_left i w ns (Needed s.clock e) (Needed s.clock z) behind in
          let right : Reads ns (Needed s.clock z) = covers_right i w ns (Needed s.clock e) (Needed s.clock z) behind in
          last b ns xs s (choice q a e z) k o v y (one ++ other ++ third)
          (both b (one ++ other) third
          (both b one other (each_laid b r ns [] (within s) a k.1 n.1 o gives_none first)
          (each_laid (b ++ one) (still b one r) ns [] (within s) e k.2 n.2 o gives_none left))
          (each_laid (b ++ (one ++ other)) (still b (one ++ other) r) ns [] (within s) z k.3 n.3 o gives_none right))
          (twice b ns (one ++ other) third (own_parts h ns [] s.clock a ++ own_parts h ns [] s.clock e) (own_parts h ns [] s.clock z)
          (twice b ns one other (own_parts h ns [] s.clock a) (own_parts h ns [] s.clock e) (ours b r ns (within s) a n.1 first)
          (ours b r ns (within s) e n.2 left)) (ours b r ns (within s) z n.3 right)) tt
      each_laid b r ns xs s (sampled q a l x) k n o v y =
          let here : Clock = clock_of (component_of j) x.text in
          let st : Stands j (IsKnown j) s.clock (sampled q a l x) = stand p c j u d s (sampled q a l x) k in
          let need : Reads ns (Needed here a) = covers_right i w ns (a_name [] x.text ∷ []) (Needed here a) y in
          last b ns xs s (sampled q a l x) k o v y (parts g ns [] here a)
          (each_laid b r ns [] (moved here s) a k.1 n.1 (on_name x.text here st.1) gives_none need) (ours b r ns (moved here s) a n.1 need) tt
      each_laid b r ns xs s (merged q x a e) k n o v y =
          let yes : Clock = sampled_by true x.text in
          let no : Clock = sampled_by false x.text in
          let one : List Part = parts g ns [] yes a in
          let other : List Part = parts g ns [] no e in
          let st : Stands j (IsKnown j) s.clock (merged q x a e) = stand p c j u d s (merged q x a e) k in
          let need : Reads ns (Needed yes a ++ Needed no e) = covers_right i w ns (a_name [] x.text ∷ []) (Needed yes a ++ Needed no e) y in
          let left : Reads ns (Needed yes a) = covers_left i w ns (Needed yes a) (Needed no e) need in
          let right : Reads ns (Needed no e) = covers_right i w ns (Needed yes a) (Needed no e) need in
          last b ns xs s (merged q x a e) k o v y (one ++ other)
          (both b one other (each_laid b r ns [] (moved yes s) a k.1 n.1 (on_truth true x.text s.clock st.0) gives_none left)
          (each_laid (b ++ one) (still b one r) ns [] (moved no s) e k.2 n.2 (on_truth false x.text s.clock st.0) gives_none right))
          (twice b ns one other (own_parts h ns [] yes a) (own_parts h ns [] no e) (ours b r ns (moved yes s) a n.1 left)
          (ours b r ns (moved no s) e n.2 right)) tt
      each_laid b r ns xs s (call q l z as_) k n o v y =
          let given : List Part = argument_parts g s.clock as_ in
          let st : Stands j (IsKnown j) s.clock (call q l z as_) = stand p c j u d s (call q l z as_) k in
          let bd : Called l = bodies l st.0.call.counted st.0.call.listed in
          let site : Site = record { number = l; callee = z.text; clock = s.clock; arguments = listed as_; defaults = []; manner = plain } in
          let to : (qs : List Part) → Among given qs → GivenTo i f t w l qs =
          λ qs m. given_to site k.0.fits qs (wholes_in s.clock as_ qs m) (λ a e. absurd (no_plain a e)) in
          last b ns xs s (call q l z as_) k o v y (given ++ g.body l)
          (both b given (g.body l) (each_argument b r (within s) as_ k.1 n.1 o)
          (body_below i f t every w l (b ++ given) (g.body l) bd (λ inside gv hb. to (b ++ given) (λ x m. in_right x b given m)))) tt (
            settled_in l bd b (given ++ g.body l) (λ x m. in_right x given (g.body l) m),
            wholes_in s.clock as_ (b ++ (given ++ g.body l)) (λ x m. in_right x b (given ++ g.body l) (in_left x given (g.body l) m)),
            sited site k.0.fits,
            to (b ++ (given ++ g.body l)) (λ x m. in_right x b (given ++ g.body l) (in_left x given (g.body l) m)),
          )
      each_laid b r ns xs s (condact q l a z as_ ds) k n o v y =
          let zs : List NeededPlace = needs_of g s.clock a in
          let asked : List Part = parts g zs [] s.clock a in
          let given : List Part = argument_parts g s.clock as_ in
          let kept : List Part = operand_parts g ns s.clock ds in
          let defaults : List Need = needs_each j (modes_need j) s.clock ds in
          let outputs : List Need = output_needs j l in
          let need : Reads ns (Needed s.clock a ++ (outputs ++ defaults)) =
          covers_right i w ns (clock_needs s.clock) (Needed s.clock a ++ (outputs ++ defaults)) y in
          let first : Reads ns (Needed s.clock a) = covers_left i w ns (Needed s.clock a) (outputs ++ defaults) need in
          let last_ones : Reads ns defaults =
          covers_right i w ns outputs defaults (covers_right i w ns (Needed s.clock a) (outputs ++ defaults) need) in
          let st : Stands j (IsKnown j) s.clock (condact q l a z as_ ds) = stand p c j u d s (condact q l a z as_ ds) k in
          let bd : Called l = bodies l st.0.call.counted st.0.call.listed in
          let site : Site = record { number = l; callee = z.text; clock = s.clock; arguments = listed as_; defaults = listed ds; manner = while_true a } in
          let to : (qs : List Part) → Among (asked ++ given) qs → GivenTo i f t w l qs =
          λ qs m. given_to site k.0.fits.0 qs (wholes_in s.clock as_ qs (λ x q. m x (in_right x asked given q)))
          (λ e same. condition_in s.clock a qs (λ x q. m x (in_left x asked given q)) e same) in
          last b ns xs s (condact q l a z as_ ds) k o v y (asked ++ given ++ g.body l ++ kept)
          (both b (asked ++ given ++ g.body l) kept
          (both b (asked ++ given) (g.body l)
          (both b asked given (each_laid b r zs [] (within s) a k.1 n.1 o gives_none (covers_itself i zs))
          (each_argument (b ++ asked) (still b asked r) (within s) as_ k.2 n.2 o))
          (body_below i f t every w l (b ++ (asked ++ given)) (g.body l) bd
          (λ inside gv hb. to (b ++ (asked ++ given)) (λ x m. in_right x b (asked ++ given) m))))
          (each_operand (b ++ (asked ++ given ++ g.body l)) (still b (asked ++ given ++ g.body l) r) ns (within s) ds k.3 n.3 o last_ones))
          (own_covered i f t w b (asked ++ given ++ g.body l ++ kept) (own_parts h zs [] s.clock a) ns zs first
          (own_wider i f t w b asked (asked ++ given ++ g.body l ++ kept) (own_parts h zs [] s.clock a) zs
          (λ x m. in_left x (asked ++ given ++ g.body l) kept (in_left x (asked ++ given) (g.body l) (in_left x asked given m)))
          (ours b r zs (within s) a n.1 (covers_itself i zs)))) (
            settled_in l bd b (asked ++ given ++ g.body l ++ kept)
                (λ x m. in_left x (asked ++ given ++ g.body l) kept (in_right x (asked ++ given) (g.body l) m)),
            wholes_in s.clock as_ (b ++ (asked ++ given ++ g.body l ++ kept)) (λ x m. in_right x b (asked ++ given ++ g.body l ++ kept)
                (in_left x (asked ++ given ++ g.body l) kept (in_left x (asked ++ given) (g.body l) (in_right x asked given m)))),
            sited site k.0.fits.0,
            to (b ++ (asked ++ given ++ g.body l ++ kept)) (λ x m. in_right x b (asked ++ given ++ g.body l ++ kept)
                (in_left x (asked ++ given ++ g.body l) kept (in_left x (asked ++ given) (g.body l) m))),
          )
      each_laid b r ns xs s (mode_name q x m) k n o v y =
          last b ns xs s (mode_name q x m) k o v y (asked_in g ns (key_of (option_map text_of x) m.text))
          (modes (key_of (option_map text_of x) m.text) n ns b r y) (asks (key_of (option_map text_of x) m.text) n ns b r y) tt

      each_argument : (b : List Part) → Ready b → (s : Standing) (as_ : Expressions) → EachAmong (Known j) (component_of j) s as_ →
          EachAmong (Named M) (component_of j) s as_ → Shown s.clock → Laid b (argument_parts g s.clock as_)
      each_argument b r s no_more k n o = nothing b
      each_argument b r s (more a as_) k n o =
          let one : List Part = parts g (needs_of g s.clock a) [] s.clock a in
          both b one (argument_parts g s.clock as_) (each_laid b r (needs_of g s.clock a) [] s a k.0 n.0 o gives_none (covers_itself i (needs_of g s.clock a)))
          (each_argument (b ++ one) (still b one r) s as_ k.1 n.1 o)

      each_operand : (b : List Part) → Ready b → (ns : List NeededPlace) (s : Standing) (as_ : Expressions) →
          EachAmong (Known j) (component_of j) s as_ →
          EachAmong (Named M) (component_of j) s as_ → Shown s.clock → CoversNeeds i w ns (needs_each j (modes_need j) s.clock as_) →
          Laid b (operand_parts g ns s.clock as_)
      each_operand b r ns s no_more k n o y = nothing b
      each_operand b r ns s (more a as_) k n o y =
          let one : List Part = parts g ns [] s.clock a in
          let others : List Need = needs_each j (modes_need j) s.clock as_ in
          both b one (operand_parts g ns s.clock as_)
          (each_laid b r ns [] s a k.0 n.0 o gives_none (covers_left i w ns (Needed s.clock a) others y))
          (each_operand (b ++ one) (still b one r) ns s as_ k.1 n.1 o (covers_right i w ns (Needed s.clock a) others y))

    -- ---- texts on the base clock

    abbrev IsLabel : Expression → Type 0
    IsLabel e = Knows (on_clock base) e × Names (on_clock base) e

    pub wholes_laid : (es : List Expression) → AllByRecursion IsLabel es → (b : List Part) → Ready b → Laid b (wholes g base es)
    wholes_laid [] a b r = nothing b
    wholes_laid (e ∷ es) a b r =
        let one : List Part = whole_parts g [] base e in
        both b one (wholes g base es)
        (each_laid b r (needs_of g base e) [] (on_clock base) e a.0.0 a.0.1 (base_there i f t w sh) gives_none (covers_itself i (needs_of g base e)))
        (wholes_laid es a.1 (b ++ one) (still b one r))

    pub asked_laid : (ns : List NeededPlace) (rs : List Labelled) → AllByRecursion (λ l. IsLabel l.value) rs → (b : List Part) → Ready b →
        CoversNeeds i w ns (flat_map (λ r. needs j (modes_need j) base r.value) rs) → Laid b (flat_map (λ r. parts g ns [] base r.value) rs)
    asked_laid ns [] a b r y = nothing b
    asked_laid ns (l ∷ rs) a b r y =
        let one : List Part = parts g ns [] base l.value in
        let others : List Need = flat_map (λ r. needs j (modes_need j) base r.value) rs in
        both b one (flat_map (λ r. parts g ns [] base r.value) rs)
        (each_laid b r ns [] (on_clock base) l.value a.0.0 a.0.1 (base_there i f t w sh) gives_none
        (covers_left i w ns (Needed base l.value) others y))
        (asked_laid ns rs a.1 (b ++ one) (still b one r) (covers_right i w ns (Needed base l.value) others y))
