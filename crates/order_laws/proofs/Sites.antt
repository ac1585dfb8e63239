-- The calls of a text: what they are given is known, and what is evaluated in their frames is among the parts of the text.
use Rattle.std.proofs.Common.{◌≡◌, ℕ, pred, true, false, List, [], ◌∷◌, ◌++◌, flat_map, refl}
use Rattle.std.specs.Prelude.{Contains}
use Rattle.std.specs.List.{AllByRecursion}
use Rattle.std.proofs.Math.Logic.{◌⊎◌, inl, inr}
use Rattle.lus_tree.specs.Tree.{Name, Expression, Expressions, truth, number, name, negation, minus, pre, arrow, binary, choice, sampled, merged, call, condact, mode_name, no_more, more, ContractStatement, assume, guarantee, ghost_variable, constant, mode, «import», Component, Program}
use Rattle.lus_meaning.specs.Scene.{Clock, sampled_by, as_import, Site, Instance, component_of, calls_of, clock_of, contract_statements}
use Rattle.lus_meaning.specs.Program.{listed, site_in, import_site, all_sites}
use Rattle.lus_meaning.specs.Occurrences.{Standing, within, before, moved, Occurrence, occurrences, Text, texts, gathered, all_occurrences}
use Rattle.lus_meaning.specs.ClockFaults.{components}
use Rattle.lus_meaning.specs.Cycle.{Place as NeededPlace}
use Rattle.lus_meaning.specs.Refusals.{IsChecked}
use Rattle.lus_meaning.proofs.Members.{IsIn, in_left, in_right}
use Rattle.lus_meaning.proofs.EachPart.{Each, EachAmong, each_of_both}
use Rattle.lus_meaning.proofs.InOrder.{in_order_all}
use Rattle.lus_meaning.proofs.Lists.{all_from, both_parts}
use Rattle.rule_laws.specs.Laws.{IsUnfolded}
use Rattle.rule_laws.proofs.Lists.{all_flat}
use Rattle.rule_laws.proofs.Parts.{Whole, nested, all_parts}
use Rattle.rule_laws.specs.Fitting.{CallFits}
use Rattle.sys_meaning.specs.Defaults.{site_of}
use Rattle.sys_meaning.specs.WellTyped.{IsKnown}
use Rattle.path_laws.proofs.Places.{known_texts, KnownText}
use Rattle.path_laws.proofs.Standing.{Known, site_there}
use Rattle.lus_evaluation.specs.Part.{Part, Setting, needs_of, part, parts, argument_parts, operand_parts}
use Rattle.lus_evaluation.specs.Frame.{call_condition}
use Rattle.order_laws.proofs.Names.{Named}
use Rattle.order_laws.proofs.Placed.{all_in_self, CallIn}
use Rattle.order_laws.proofs.Laying.{root_in}
use Rattle.order_laws.proofs.Contracts.{Holds}
use Rattle.order_laws.proofs.Items.{TextFits, text_fits}

-- ---- what is evaluated in the frames of calls

module _ (g : Setting) (n : Component) where
  -- what a call evaluates is among these parts, and so is the call
  abbrev pub SiteHeld : List Part → Site → Type 0
  SiteHeld rs z = Holds (g.body z.number) rs × CallIn g.way z.number rs

  abbrev pub SitesHeld : List Part → Occurrence → Type 0
  SitesHeld rs o = AllByRecursion (SiteHeld rs) (site_in o.standing o.expression)

  abbrev Among : List Part → List Part → Type 0
  Among qs rs = (r : Part) → IsIn r qs → IsIn r rs

  body_held : (k : ℕ) (rs : List Part) → Among (g.body k) rs → Holds (g.body k) rs
  body_held k rs h = all_from (λ r. IsIn r (g.body k)) (λ r. IsIn r rs) (λ r m. h r m) (g.body k) (all_in_self (g.body k))

  mutual
    pub held_in : (ns : List NeededPlace) (xs : List Name) (c : Clock) (s : Standing) (e : Expression) (rs : List Part) →
        Among (parts g ns xs c e) rs → Each (SitesHeld rs) n s e
    held_in ns xs c s (truth p a) rs h = tt
    held_in ns xs c s (number p a) rs h = tt
    held_in ns xs c s (name p a) rs h = tt
    held_in ns xs c s (negation p a) rs h = (tt, held_in ns [] c (within s) a rs (λ r m. h r (in_left r (parts g ns [] c a) _ m)))
    held_in ns xs c s (minus p a) rs h = (tt, held_in ns [] c (within s) a rs (λ r m. h r (in_left r (parts g ns [] c a) _ m)))
    held_in ns xs c s (pre p k a) rs h =
        (tt, held_in (needs_of g c a) [] c (before s) a rs (λ r m. h r (in_left r (parts g (needs_of g c a) [] c a) _ m)))
    held_in ns xs c s (arrow p k a b) rs h = (
      tt,
      held_in ns [] c (within s) a rs
          (λ r m. h r (in_left r (parts g ns [] c a ++ parts g ns [] c b) _ (in_left r (parts g ns [] c a) (parts g ns [] c b) m))),
      held_in ns [] c (within s) b rs
          (λ r m. h r (in_left r (parts g ns [] c a ++ parts g ns [] c b) _ (in_right r (parts g ns [] c a) (parts g ns [] c b) m))),
    )
    held_in ns xs c s (binary p k a b) rs h = (
      tt,
      held_in ns [] c (within s) a rs
          (λ r m. h r (in_left r (parts g ns [] c a ++ parts g ns [] c b) _ (in_left r (parts g ns [] c a) (parts g ns [] c b) m))),
      held_in ns [] c (within s) b rs
          (λ r m. h r (in_left r (parts g ns [] c a ++ parts g ns [] c b) _ (in_right r (parts g ns [] c a) (parts g ns [] c b) m))),
    )
    held_in ns xs c s (choice p a b d) rs h =
        let one : List Part = parts g ns [] c a in
        let two : List Part = parts g ns [] c b in
        let three : List Part = parts g ns [] c d in (
          tt,
          held_in ns [] c (within s) a rs (λ r m. h r (in_left r (one ++ two ++ three) _ (in_left r (one ++ two) three (in_left r one two m)))),
          held_in ns [] c (within s) b rs (λ r m. h r (in_left r (one ++ two ++ three) _ (in_left r (one ++ two) three (in_right r one two m)))),
          held_in ns [] c (within s) d rs (λ r m. h r (in_left r (one ++ two ++ three) _ (in_right r (one ++ two) three m))),
        )
    held_in ns xs c s (sampled p a q x) rs h =
        let k : Clock = clock_of (component_of g.place) x.text in
        (tt, held_in ns [] k (moved (clock_of n x.text) s) a rs (λ r m. h r (in_left r (parts g ns [] k a) _ m)))
    held_in ns xs c s (merged p x a b) rs h =
        let one : List Part = parts g ns [] (sampled_by true x.text) a in
        let two : List Part = parts g ns [] (sampled_by false x.text) b in (
          tt,
          held_in ns [] (sampled_by true x.text) (moved (sampled_by true x.text) s) a rs (λ r m. h r (in_left r (one ++ two) _ (in_left r one two m))),
          held_in ns [] (sampled_by false x.text) (moved (sampled_by false x.text) s) b rs (λ r m. h r (in_left r (one ++ two) _ (in_right r one two m))),
        )
    held_in ns xs c s (call p k f as_) rs h =
        let given : List Part = argument_parts g c as_ in (
          (
            (
              body_held k rs (λ r m. h r (in_left r (given ++ g.body k) _ (in_right r given (g.body k) m))),
              record {
                part = part g ns xs c (call p k f as_);
                there = h (part g ns xs c (call p k f as_)) (root_in g ns xs c (call p k f as_));
                way = refl;
                call = refl;
              },
            ),
            tt,
          ),
          held_arguments c (within s) as_ rs (λ r m. h r (in_left r (given ++ g.body k) _ (in_left r given (g.body k) m))),
        )
    held_in ns xs c s (condact p k a f as_ ds) rs h =
        let ms : List NeededPlace = needs_of g c a in
        let asked : List Part = parts g ms [] c a in
        let given : List Part = argument_parts g c as_ in
        let kept : List Part = operand_parts g ns c ds in (
          (
            (
              body_held k rs (λ r m. h r (in_left r (asked ++ given ++ g.body k ++ kept) _
                  (in_left r (asked ++ given ++ g.body k) kept (in_right r (asked ++ given) (g.body k) m)))),
              record {
                part = part g ns xs c (condact p k a f as_ ds);
                there = h (part g ns xs c (condact p k a f as_ ds)) (root_in g ns xs c (condact p k a f as_ ds));
                way = refl;
                call = refl;
              },
            ),
            tt,
          ),
          held_in ms [] c (within s) a rs (λ r m. h r (in_left r (asked ++ given ++ g.body k ++ kept) _
              (in_left r (asked ++ given ++ g.body k) kept (in_left r (asked ++ given) (g.body k) (in_left r asked given m))))),
          held_arguments c (within s) as_ rs (λ r m. h r (in_left r (asked ++ given ++ g.body k ++ kept) _
              (in_left r (asked ++ given ++ g.body k) kept (in_left r (asked ++ given) (g.body k) (in_right r asked given m))))),
          held_operands ns c (within s) ds rs (λ r m. h r (in_left r (asked ++ given ++ g.body k ++ kept) _
              (in_right r (asked ++ given ++ g.body k) kept m))),
        )
    held_in ns xs c s (mode_name p d m) rs h = tt

    held_arguments : (c : Clock) (s : Standing) (as_ : Expressions) (rs : List Part) → Among (argument_parts g c as_) rs →
        EachAmong (SitesHeld rs) n s as_
    held_arguments c s no_more rs h = tt
    held_arguments c s (more a as_) rs h =
        let one : List Part = parts g (needs_of g c a) [] c a in (
          held_in (needs_of g c a) [] c s a rs (λ r m. h r (in_left r one (argument_parts g c as_) m)),
          held_arguments c s as_ rs (λ r m. h r (in_right r one (argument_parts g c as_) m)),
        )

    held_operands : (ns : List NeededPlace) (c : Clock) (s : Standing) (as_ : Expressions) (rs : List Part) → Among (operand_parts g ns c as_) rs →
        EachAmong (SitesHeld rs) n s as_
    held_operands ns c s no_more rs h = tt
    held_operands ns c s (more a as_) rs h =
        let one : List Part = parts g ns [] c a in (
          held_in ns [] c s a rs (λ r m. h r (in_left r one (operand_parts g ns c as_) m)),
          held_operands ns c s as_ rs (λ r m. h r (in_right r one (operand_parts g ns c as_) m)),
        )

  -- each occurrence of a text
  abbrev pub TextHeld : List Part → Text → Type 0
  TextHeld rs x = AllByRecursion (SitesHeld rs) (occurrences n x.0 x.1)

  pub text_held : (ns : List NeededPlace) (xs : List Name) (c : Clock) (s : Standing) (e : Expression) (rs : List Part) →
      Among (parts g ns xs c e) rs → TextHeld rs (s, e)
  text_held ns xs c s e rs h = all_parts (SitesHeld rs) n s e (held_in ns xs c s e rs h)

-- ---- what is given to calls

module _ (i : Instance) where
  -- the condition and the arguments of a call are known on the clock of its place
  pub record CallKnown (c : Site) : Type 0 where
    pub site : site_of i c.number ≡ c
    pub standing : Standing
    pub clock : standing.clock ≡ c.clock
    pub given : AllByRecursion (TextFits i standing) (call_condition c c.manner ++ c.arguments)

  abbrev pub SiteKnown : Site → Type 0
  SiteKnown c = CallKnown c ⊎ ((xs : List Name) × (c.manner ≡ as_import xs))

  abbrev Both : Occurrence → Type 0
  Both o = Known i o × Named (IsKnown i) o

  both_texts : (s : Standing) (e : Expression) → Each Both (component_of i) s e → TextFits i s e
  both_texts s e a = (
    each_of_both Both Both (Known i) (λ o x y. x.0) (component_of i) s e a a,
    each_of_both Both Both (Named (IsKnown i)) (λ o x y. x.1) (component_of i) s e a a,
  )

  all_listed : (s : Standing) (as_ : Expressions) → EachAmong Both (component_of i) s as_ → AllByRecursion (TextFits i s) (listed as_)
  all_listed s no_more a = tt
  all_listed s (more e as_) a = (both_texts s e a.0, all_listed s as_ a.1)

  sited : (z : Site) → CallFits i z → site_of i z.number ≡ z
  sited z h = (site_there (calls_of i) (pred z.number) z h.site).0

  sites_known : (s : Standing) (e : Expression) → Each Both (component_of i) s e → AllByRecursion SiteKnown (site_in s e)
  sites_known s (call p k f as_) a = (inl record { site = sited _ a.0.0.fits; standing = within s; clock = refl; given = all_listed (within s) as_ a.1 }, tt)
  sites_known s (condact p k b f as_ ds) a = (
    inl record {
      site = sited _ a.0.0.fits.0;
      standing = within s;
      clock = refl;
      given = (both_texts (within s) b a.1, all_listed (within s) as_ a.2);
    },
    tt,
  )
  sites_known s (truth p b) a = tt
  sites_known s (number p b) a = tt
  sites_known s (name p b) a = tt
  sites_known s (negation p b) a = tt
  sites_known s (minus p b) a = tt
  sites_known s (pre p k b) a = tt
  sites_known s (arrow p k b d) a = tt
  sites_known s (binary p o b d) a = tt
  sites_known s (choice p b d e) a = tt
  sites_known s (sampled p b q x) a = tt
  sites_known s (merged p x b d) a = tt
  sites_known s (mode_name p d m) a = tt

  import_sites : (cs : List ContractStatement) → AllByRecursion SiteKnown (flat_map import_site cs)
  import_sites [] = tt
  import_sites (assume l ∷ cs) = import_sites cs
  import_sites (guarantee l ∷ cs) = import_sites cs
  import_sites (ghost_variable x e ∷ cs) = import_sites cs
  import_sites (constant x ∷ cs) = import_sites cs
  import_sites (mode m rs es ∷ cs) = import_sites cs
  import_sites («import» k x as_ xs ∷ cs) = (inr (_, refl), import_sites cs)

module _ (p : Program) (c : IsChecked p) (i : Instance) (u : IsUnfolded p i) (j : Contains (components p) (component_of i)) where
  abbrev n : Component
  n = component_of i

  both_known : (x : Text) → KnownText p c i u j x → Each (Both i) n x.0 x.1
  both_known x a =
      let r : TextFits i x.0 x.1 = text_fits p c i u j x.0 x.1 a in
      each_of_both (Known i) (Named (IsKnown i)) (Both i) (λ o y z. (y, z)) n x.0 x.1 r.0 r.1

  in_texts : AllByRecursion (SiteKnown i) (gathered site_in n)
  in_texts =
      all_flat (SiteKnown i) (λ o. site_in o.standing o.expression) (all_occurrences n)
      (all_flat (λ o. AllByRecursion (SiteKnown i) (site_in o.standing o.expression)) (λ x. occurrences n x.0 x.1) (texts n)
      (all_from (KnownText p c i u j) (λ x. AllByRecursion (λ o. AllByRecursion (SiteKnown i) (site_in o.standing o.expression)) (occurrences n x.0 x.1))
      (λ x a. all_from (Whole (Both i) n) (λ o. AllByRecursion (SiteKnown i) (site_in o.standing o.expression))
      (λ o y. sites_known i o.standing o.expression y) (occurrences n x.0 x.1)
      (all_parts (Whole (Both i) n) n x.0 x.1 (nested (Both i) n x.0 x.1 (both_known x a)))) (texts n) (known_texts p c i u j)))

  pub all_sites_known : AllByRecursion (SiteKnown i) (all_sites n)
  all_sites_known =
      in_order_all (λ s. s.number) (SiteKnown i) (gathered site_in n ++ flat_map import_site (contract_statements n))
      (both_parts (SiteKnown i) (gathered site_in n) (flat_map import_site (contract_statements n)) in_texts
      (import_sites i (contract_statements n)))
