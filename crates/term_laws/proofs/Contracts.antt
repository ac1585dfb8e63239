-- The formulas of a light contract are fine, those of its imports included.
use Rattle.std.proofs.Common.{◌≡◌, ℕ, zero, suc, pred, ◌<◌, ◌≤◌, ◌+◌, Bool, false, List, [], ◌∷◌, ◌++◌, map, refl, sym, ap, ◌∙◌, subst, arith}
use Rattle.std.specs.Prelude.{slice_index_or}
use Rattle.std.specs.List.{AllByRecursion}
use Rattle.lus_tree.specs.Tree.{Name, Labelled, ContractStatement, assume, guarantee, ghost_variable, constant, mode, «import»}
use Rattle.lus_meaning.specs.Scene.{base, Manner, Site, Instance, Instances, instance, no_instance, no_instances, with_instance, calls_of, call_instance, contract_statements}
use Rattle.lus_meaning.specs.Scope.{greatest_weight}
use Rattle.lus_meaning.proofs.Lists.{both_parts}
use Rattle.sys_terms.specs.View.{Formula}
use Rattle.sys_meaning.specs.Slot.{Place}
use Rattle.sys_meaning.specs.Defaults.{site_at, site_of}
use Rattle.sys_meaning.specs.Items.{Key, ModeItem, Items, no_items, known, mode_item, imported_item, items_each, items_after}
use Rattle.sys_meaning.specs.Translate.{Stage}
use Rattle.sys_meaning.specs.System.{Written, written, at_numbers, below_call, contract_of, stage}
use Rattle.sys_meaning.specs.WellTyped.{IsKnown, HasPlaceIn, StatementsFit, CallFits, TreeFits, CallsFit}
use Rattle.sys_meaning.proofs.Forward.{drop_calls, first_site, first_instance, later_calls, site_dropped, instance_dropped, calls_later}
use Rattle.term_laws.proofs.Fine.{Variables, Fine, all_of_fine}
use Rattle.term_laws.proofs.Expressions.{NumberedAs, FineModes, flag_formula}
use Rattle.term_laws.proofs.Lights.{LightFlag, LightStatement, LightTree, LightCalls}

pub one_within : 1 ≤ greatest_weight
one_within = omega arith

-- the calls behind one
pub calls_behind : (i : Instance) (p : ℕ) (c : Site) (k : Instance) (is : Instances) → drop_calls p (calls_of i) ≡ with_instance c k is →
    drop_calls (suc p) (calls_of i) ≡ is
calls_behind i p c k is e = calls_later p (calls_of i) ∙ ap later_calls e

pub site_there : (i : Instance) (p : ℕ) (c : Site) (k : Instance) (is : Instances) → drop_calls p (calls_of i) ≡ with_instance c k is →
    site_of i (suc p) ≡ c
site_there i p c k is e = site_dropped (calls_of i) p c ∙ ap (λ z. first_site z (site_at no_instances 0)) e

pub instance_there : (i : Instance) (p : ℕ) (c : Site) (k : Instance) (is : Instances) → drop_calls p (calls_of i) ≡ with_instance c k is →
    call_instance i (suc p) ≡ k
instance_there i p c k is e = instance_dropped (calls_of i) p ∙ ap (λ z. first_instance z no_instance) e

module _ (V : Variables) where
  abbrev pub Good : Formula → Type 0
  Good = Fine V greatest_weight

  abbrev pub Has : Bool → Manner → Instance → (Place → ℕ) → Type 0
  Has = NumberedAs V greatest_weight one_within

  -- the variables of a call's frame
  pub numbered_call : (b : Bool) (m : Manner) (i : Instance) (at : Place → ℕ) → Has b m i at → (c : Site) (k : Instance) (is : Instances) (p : ℕ) →
      CallFits IsKnown i c k p → drop_calls p (calls_of i) ≡ with_instance c k is → Has b c.manner k (below_call c.number at)
  numbered_call b m i at num c k is p fit e ks q z h =
      subst (λ j. V z (at (j ∷ ks, q)) b) (sym fit.number)
      (num (suc p ∷ ks) q z (
        fit.call,
        subst (λ (s : Site). HasPlaceIn IsKnown s.manner ks (call_instance i (suc p)) q z) (sym (site_there i p c k is e))
            (subst (λ j. HasPlaceIn IsKnown c.manner ks j q z) (sym (instance_there i p c k is e)) h),
      ))

  -- ---- items

  module _ (at : Place → ℕ) where
    abbrev pub GoodWritten : Written → Type 0
    GoodWritten f = Fine V greatest_weight (f at)

    pub record GoodMode (m : ModeItem Written) : Type 0 where
      pub asked : GoodWritten m.asked
      pub ensures_each : AllByRecursion GoodWritten m.ensures_each

    pub record GoodItems (r : Items Written) : Type 0 where
      pub assumes : AllByRecursion GoodWritten r.assumes
      pub guarantees : AllByRecursion GoodWritten r.guarantees
      pub modes : AllByRecursion GoodMode r.modes

    pub modes_fine : (ms : List (ModeItem Written)) → AllByRecursion GoodMode ms → FineModes V greatest_weight one_within (at_numbers at (known ms))
    modes_fine [] a = tt
    modes_fine (m ∷ ms) a = (a.0.asked, modes_fine ms a.1)

    pub at_place : (fs : List Written) → AllByRecursion GoodWritten fs → AllByRecursion Good (map (λ f. f at) fs)
    at_place [] a = tt
    at_place (f ∷ fs) a = (a.0, at_place fs a.1)

  module _ (m : Manner) (i : Instance) (at : Place → ℕ) (num : Has false m i at) where
    abbrev Modes : List (ModeItem Written) → Type 0
    Modes ms = AllByRecursion (GoodMode at) ms

    abbrev stage_with : List (ModeItem Written) → Stage
    stage_with ms = record { place = i; number = at; modes = at_numbers at (known ms) }

    says_fine : (ms : List (ModeItem Written)) → Modes ms → (l : Labelled) → LightFlag i l → GoodWritten at (written.says i (known ms) l.value)
    says_fine ms a l h = flag_formula V greatest_weight one_within (stage_with ms) m num (modes_fine at ms a) l.value base h.0 h.1 h.2

    each_says : (ms : List (ModeItem Written)) → Modes ms → (ls : List Labelled) → AllByRecursion (LightFlag i) ls →
        AllByRecursion Good (map (λ f. f at) (map (λ r. written.says i (known ms) r.value) ls))
    each_says ms a [] h = tt
    each_says ms a (l ∷ ls) h = (says_fine ms a l h.0, each_says ms a ls h.1)

    asked_fine : (ms : List (ModeItem Written)) → Modes ms → (rs : List Labelled) → AllByRecursion (LightFlag i) rs →
        GoodWritten at (written.all_of (map (λ r. written.says i (known ms) r.value) rs))
    asked_fine ms a rs h = all_of_fine V greatest_weight one_within _ (each_says ms a rs h)

    ensures_fine : (ms : List (ModeItem Written)) → Modes ms → (w : Written) → GoodWritten at w → (es : List Labelled) →
        AllByRecursion (LightFlag i) es → AllByRecursion (GoodWritten at) (map (λ e. written.under w (written.says i (known ms) e.value)) es)
    ensures_fine ms a w q [] h = tt
    ensures_fine ms a w q (e ∷ es) h = ((q, says_fine ms a e h.0), ensures_fine ms a w q es h.1)

    through_all : (k : ℕ) (fs : List Written) → AllByRecursion (GoodWritten (below_call k at)) fs →
        AllByRecursion (GoodWritten at) (map (written.through k) fs)
    through_all k [] a = tt
    through_all k (f ∷ fs) a = (a.0, through_all k fs a.1)

    modes_through : (k : ℕ) (c : Name) (ms : List (ModeItem Written)) → AllByRecursion (GoodMode (below_call k at)) ms →
        Modes (map (imported_item written k c) ms)
    modes_through k c [] a = tt
    modes_through k c (x ∷ ms) a =
        (record { asked = a.0.asked; ensures_each = through_all k x.ensures_each a.0.ensures_each }, modes_through k c ms a.1)

    items_fine : (sub : ℕ → Items Written) → ((k : ℕ) → 0 < k → GoodItems (below_call k at) (sub k)) → (cs : List ContractStatement) →
        (keys : List Key) → StatementsFit i keys cs → AllByRecursion (LightStatement i) cs → (ms : List (ModeItem Written)) → Modes ms →
        GoodItems at (items_after written i sub ms cs)
    items_fine sub g [] keys f l ms a = record { assumes = tt; guarantees = tt; modes = a }
    items_fine sub g (assume x ∷ cs) keys f l ms a =
        let r = items_fine sub g cs _ f.1 l.1 ms a in
        record { assumes = (says_fine ms a x l.0, r.assumes); guarantees = r.guarantees; modes = r.modes }
    items_fine sub g (guarantee x ∷ cs) keys f l ms a =
        let r = items_fine sub g cs _ f.1 l.1 ms a in
        record { assumes = r.assumes; guarantees = (says_fine ms a x l.0, r.guarantees); modes = r.modes }
    items_fine sub g (ghost_variable x e ∷ cs) keys f l ms a = items_fine sub g cs _ f.1 l.1 ms a
    items_fine sub g (constant c ∷ cs) keys f l ms a = items_fine sub g cs _ f.1 l.1 ms a
    items_fine sub g (mode x rs es ∷ cs) keys f l ms a =
        let q = asked_fine ms a rs l.0.0 in
        items_fine sub g cs _ f.1 l.1 (ms ++ mode_item written i (known ms) x.text rs es ∷ [])
        (both_parts (GoodMode at) ms (mode_item written i (known ms) x.text rs es ∷ []) a
        (record { asked = q; ensures_each = ensures_fine ms a _ q es l.0.1 }, tt))
    items_fine sub g («import» k c as_ ys ∷ cs) keys f l ms a =
        let h = g k f.0.call.counted in
        let r = items_fine sub g cs _ f.1 l.1 (ms ++ map (imported_item written k c.text) (sub k).modes)
        (both_parts (GoodMode at) ms (map (imported_item written k c.text) (sub k).modes) a (modes_through k c.text (sub k).modes h.modes)) in
        record {
          assumes = both_parts (GoodWritten at) (map (written.through k) (sub k).assumes) _ (through_all k (sub k).assumes h.assumes) r.assumes;
          guarantees = both_parts (GoodWritten at) (map (written.through k) (sub k).guarantees) _ (through_all k (sub k).guarantees h.guarantees)
              r.guarantees;
          modes = r.modes;
        }

  mutual
    pub contract_fine : (i : Instance) (m : Manner) (at : Place → ℕ) → TreeFits IsKnown i → LightTree i → Has false m i at →
        GoodItems at (contract_of i)
    contract_fine (instance n cs is) m at fits light num =
        let i : Instance = instance n cs is in
        items_fine m i at num _ (λ k l. imports_fine is i m at 0 refl fits.1 light.1 num (pred k) k (omega arith))
        (contract_statements n) [] fits.0.contract light.0.contract [] tt

    imports_fine : (is : Instances) (i : Instance) (m : Manner) (at : Place → ℕ) (p : ℕ) → drop_calls p (calls_of i) ≡ is →
        CallsFit IsKnown i is p → LightCalls i is → Has false m i at → (j q : ℕ) → q ≡ suc (p + j) →
        GoodItems (below_call q at) (slice_index_or (items_each written is) j no_items)
    imports_fine no_instances i m at p e fits light num j q h = record { assumes = tt; guarantees = tt; modes = tt }
    imports_fine (with_instance c k is) i m at p e fits light num zero q h =
        subst (λ z. GoodItems (below_call z at) (contract_of k)) (fits.0.number ∙ omega (arith, h))
        (contract_fine k c.manner (below_call c.number at) fits.1 light.1 (numbered_call false m i at num c k is p fits.0 e))
    imports_fine (with_instance c k is) i m at p e fits light num (suc j) q h =
        imports_fine is i m at (suc p) (calls_behind i p c k is e) fits.2 light.2 num j q (omega (arith, h))

  -- what the modes of a frame's contract ask
  pub stage_modes : (i : Instance) (m : Manner) (at : Place → ℕ) → TreeFits IsKnown i → LightTree i → Has false m i at →
      FineModes V greatest_weight one_within (stage i at).modes
  stage_modes i m at fits light num = modes_fine at (contract_of i).modes (contract_fine i m at fits light num).modes
