-- The formulas of a contract without integers compare no numbers, those of its imports included.
use Rattle.std.proofs.Common.{◌≡◌, ℕ, zero, suc, pred, List, [], ◌∷◌, ◌++◌, map}
use Rattle.std.specs.Prelude.{slice_index_or}
use Rattle.std.specs.List.{AllByRecursion}
use Rattle.lus_tree.specs.declared.place.Sort.TheVariants.{Bool as Flags}
use Rattle.lus_tree.specs.Tree.{Name, Labelled, ContractStatement, assume, guarantee, ghost_variable, constant, mode, «import»}
use Rattle.lus_meaning.specs.Scene.{Manner, plain, while_true, as_import, Site, Instance, Instances, instance, no_instances, with_instance, instance_at, component_of, calls_of, call_instance, contract_statements, ghosts, variables}
use Rattle.lus_meaning.specs.Run.{equations, sort_of, sort_of_name}
use Rattle.lus_meaning.specs.Occurrences.{memories}
use Rattle.lus_meaning.specs.Property.{assertions}
use Rattle.lus_meaning.proofs.Lists.{both_parts}
use Rattle.lus_meaning.proofs.Now.{left_part, right_part}
use Rattle.sys_meaning.specs.Slot.{Place}
use Rattle.sys_meaning.specs.Items.{ModeItem, Items, no_items, known, mode_item, imported_item, items_each, items_after}
use Rattle.sys_meaning.specs.Translate.{Stage}
use Rattle.sys_meaning.specs.System.{Written, written, at_numbers, below_call, contract_of, stage}
use Rattle.sys_meaning.specs.WellTyped.{checked}
use Rattle.boolean_laws.proofs.Parts.{Good, AllGood, Pure, PureConstants, GoodModes, AreFlags, good_all, formula_good}

-- ---- what the system of an instance reads

module _ (i : Instance) where
  abbrev pub PureFlag : Labelled → Type 0
  PureFlag l = Pure i l.value

  abbrev pub PureStatement : ContractStatement → Type 0
  PureStatement (assume l) = PureFlag l
  PureStatement (guarantee l) = PureFlag l
  PureStatement (ghost_variable x e) = Unit {0}
  PureStatement (constant c) = Unit {0}
  PureStatement (mode m rs es) = AllByRecursion PureFlag rs × AllByRecursion PureFlag es
  PureStatement («import» k c as_ xs) = Unit {0}

  -- its items, memories among them
  pub record OwnPure : Type 0 where
    pub streams : AreFlags (variables (component_of i))
    pub constants : PureConstants i
    pub contract : AllByRecursion PureStatement (contract_statements (component_of i))
    pub equations : AllByRecursion (λ e. Pure i e.right) (equations (component_of i))
    pub memories : AllByRecursion (λ m. (sort_of i m.operand ≡ Flags) × Pure i m.operand) (memories (component_of i))
    pub asserts : AllByRecursion (Pure i) (assertions (component_of i).body)
    pub checks : AllByRecursion (Pure i) (checked (component_of i).body)

  abbrev pub PureManner : Manner → Type 0
  PureManner (while_true a) = Pure i a
  PureManner plain = Unit {0}
  PureManner (as_import xs) = AllByRecursion (λ x. sort_of_name i x ≡ Flags) xs

  -- a call's arguments and defaults, and its condition or the names that its import gives
  pub record PureSite (s : Site) : Type 0 where
    pub arguments : AllByRecursion (Pure i) s.arguments
    pub manner : PureManner s.manner
    pub defaults : AllByRecursion (Pure i) s.defaults

abbrev mutual
  pub PureTree : Instance → Type 0
  PureTree (instance d cs is) = OwnPure (instance d cs is) × PureCalls (instance d cs is) is

  pub PureCalls : Instance → Instances → Type 0
  PureCalls i no_instances = Unit {0}
  PureCalls i (with_instance c k is) = PureSite i c × PureTree k × PureCalls i is

-- ---- outputs of calls

pub own_outputs : (k : Instance) → PureTree k → AreFlags (component_of k).outputs
own_outputs (instance d cs is) w =
    right_part (λ v. v.sort ≡ Flags) d.inputs d.outputs (left_part (λ v. v.sort ≡ Flags) (d.inputs ++ d.outputs) d.locals
    (left_part (λ v. v.sort ≡ Flags) (d.inputs ++ d.outputs ++ d.locals) (ghosts (contract_statements d)) w.0.streams))

outputs_at_call : (i : Instance) (is : Instances) → PureCalls i is → (k : ℕ) → AreFlags (component_of (instance_at is k)).outputs
outputs_at_call i no_instances w k = tt
outputs_at_call i (with_instance c j is) w zero = own_outputs j w.1
outputs_at_call i (with_instance c j is) w (suc k) = outputs_at_call i is w.2 k

pub outputs_called : (i : Instance) → PureCalls i (calls_of i) → (k : ℕ) → AreFlags (component_of (call_instance i k)).outputs
outputs_called i w zero = tt
outputs_called i w (suc k) = outputs_at_call i (calls_of i) w k

-- ---- items

module _ (at : Place → ℕ) where
  abbrev pub GoodWritten : Written → Type 0
  GoodWritten f = Good (f at)

  pub record GoodMode (m : ModeItem Written) : Type 0 where
    pub asked : GoodWritten m.asked
    pub ensures_each : AllByRecursion GoodWritten m.ensures_each

  pub record GoodItems (r : Items Written) : Type 0 where
    pub assumes : AllByRecursion GoodWritten r.assumes
    pub guarantees : AllByRecursion GoodWritten r.guarantees
    pub modes : AllByRecursion GoodMode r.modes

  pub modes_good : (ms : List (ModeItem Written)) → AllByRecursion GoodMode ms → GoodModes (at_numbers at (known ms))
  modes_good [] a = tt
  modes_good (m ∷ ms) a = (a.0.asked, modes_good ms a.1)

  pub at_place : (fs : List Written) → AllByRecursion GoodWritten fs → AllGood (map (λ f. f at) fs)
  at_place [] a = tt
  at_place (f ∷ fs) a = (a.0, at_place fs a.1)

module _ (i : Instance) (at : Place → ℕ) (constants : PureConstants i)
    (outs : (k : ℕ) → AreFlags (component_of (call_instance i k)).outputs) where
  abbrev Modes : List (ModeItem Written) → Type 0
  Modes ms = AllByRecursion (GoodMode at) ms

  abbrev stage_with : List (ModeItem Written) → Stage
  stage_with ms = record { place = i; number = at; modes = at_numbers at (known ms) }

  says_good : (ms : List (ModeItem Written)) → Modes ms → (l : Labelled) → PureFlag i l → GoodWritten at (written.says i (known ms) l.value)
  says_good ms a l h = formula_good (stage_with ms) constants outs (modes_good at ms a) l.value h

  each_says : (ms : List (ModeItem Written)) → Modes ms → (ls : List Labelled) → AllByRecursion (PureFlag i) ls →
      AllGood (map (λ f. f at) (map (λ r. written.says i (known ms) r.value) ls))
  each_says ms a [] h = tt
  each_says ms a (l ∷ ls) h = (says_good ms a l h.0, each_says ms a ls h.1)

  asked_good : (ms : List (ModeItem Written)) → Modes ms → (rs : List Labelled) → AllByRecursion (PureFlag i) rs →
      GoodWritten at (written.all_of (map (λ r. written.says i (known ms) r.value) rs))
  asked_good ms a rs h = good_all _ (each_says ms a rs h)

  ensures_good : (ms : List (ModeItem Written)) → Modes ms → (w : Written) → GoodWritten at w → (es : List Labelled) →
      AllByRecursion (PureFlag i) es → AllByRecursion (GoodWritten at) (map (λ e. written.under w (written.says i (known ms) e.value)) es)
  ensures_good ms a w q [] h = tt
  ensures_good ms a w q (e ∷ es) h = ((q, says_good ms a e h.0), ensures_good ms a w q es h.1)

  through_all : (k : ℕ) (fs : List Written) → AllByRecursion (GoodWritten (below_call k at)) fs →
      AllByRecursion (GoodWritten at) (map (written.through k) fs)
  through_all k [] a = tt
  through_all k (f ∷ fs) a = (a.0, through_all k fs a.1)

  modes_through : (k : ℕ) (c : Name) (ms : List (ModeItem Written)) → AllByRecursion (GoodMode (below_call k at)) ms →
      Modes (map (imported_item written k c) ms)
  modes_through k c [] a = tt
  modes_through k c (x ∷ ms) a =
      (record { asked = a.0.asked; ensures_each = through_all k x.ensures_each a.0.ensures_each }, modes_through k c ms a.1)

  items_good : (sub : ℕ → Items Written) → ((k : ℕ) (at : Place → ℕ) → GoodItems at (sub k)) → (cs : List ContractStatement) →
      AllByRecursion (PureStatement i) cs → (ms : List (ModeItem Written)) → Modes ms → GoodItems at (items_after written i sub ms cs)
  items_good sub g [] l ms a = record { assumes = tt; guarantees = tt; modes = a }
  items_good sub g (assume x ∷ cs) l ms a =
      let r = items_good sub g cs l.1 ms a in
      record { assumes = (says_good ms a x l.0, r.assumes); guarantees = r.guarantees; modes = r.modes }
  items_good sub g (guarantee x ∷ cs) l ms a =
      let r = items_good sub g cs l.1 ms a in
      record { assumes = r.assumes; guarantees = (says_good ms a x l.0, r.guarantees); modes = r.modes }
  items_good sub g (ghost_variable x e ∷ cs) l ms a = items_good sub g cs l.1 ms a
  items_good sub g (constant c ∷ cs) l ms a = items_good sub g cs l.1 ms a
  items_good sub g (mode x rs es ∷ cs) l ms a =
      let q = asked_good ms a rs l.0.0 in
      items_good sub g cs l.1 (ms ++ mode_item written i (known ms) x.text rs es ∷ [])
      (both_parts (GoodMode at) ms (mode_item written i (known ms) x.text rs es ∷ []) a
      (record { asked = q; ensures_each = ensures_good ms a _ q es l.0.1 }, tt))
  items_good sub g («import» k c as_ ys ∷ cs) l ms a =
      let h = g k (below_call k at) in
      let r = items_good sub g cs l.1 (ms ++ map (imported_item written k c.text) (sub k).modes)
      (both_parts (GoodMode at) ms (map (imported_item written k c.text) (sub k).modes) a (modes_through k c.text (sub k).modes h.modes)) in
      record {
        assumes = both_parts (GoodWritten at) (map (written.through k) (sub k).assumes) _ (through_all k (sub k).assumes h.assumes) r.assumes;
        guarantees = both_parts (GoodWritten at) (map (written.through k) (sub k).guarantees) _ (through_all k (sub k).guarantees h.guarantees)
            r.guarantees;
        modes = r.modes;
      }

mutual
  pub contract_good : (i : Instance) → PureTree i → (at : Place → ℕ) → GoodItems at (contract_of i)
  contract_good (instance n cs is) w at =
      items_good (instance n cs is) at w.0.constants (outputs_called (instance n cs is) w.1) _
      (λ k at. imports_good (instance n cs is) is w.1 (pred k) at) (contract_statements n) w.0.contract [] tt

  imports_good : (i : Instance) (is : Instances) → PureCalls i is → (k : ℕ) (at : Place → ℕ) →
      GoodItems at (slice_index_or (items_each written is) k no_items)
  imports_good i no_instances w k at = record { assumes = tt; guarantees = tt; modes = tt }
  imports_good i (with_instance c j is) w zero at = contract_good j w.1 at
  imports_good i (with_instance c j is) w (suc k) at = imports_good i is w.2 k at

-- what the modes of a frame's contract ask
pub stage_modes : (i : Instance) → PureTree i → (at : Place → ℕ) → GoodModes (stage i at).modes
stage_modes i w at = modes_good at (contract_of i).modes (contract_good i w at).modes
