-- The conditions of a declaration as resolutions over its slots. Each is evaluated at every instant of the analysed frame: one of a call's frame counts where
-- that is active, and is true elsewhere.
use Rattle.std.specs.Prelude.{ℕ, true, false, List, [], ◌∷◌, ◌++◌, map, flat_map}
use Rattle.lus_tree.specs.declared.expression.Operator.TheVariants.{Implies, Or}
use Rattle.lus_tree.specs.Tree.{Statement, property}
use Rattle.lus_meaning.specs.Value.{flag}
use Rattle.lus_meaning.specs.Scene.{Manner, plain, while_true, as_import, Site, Instance, Instances, instance, no_instances, with_instance, component_of}
use Rattle.lus_meaning.specs.Property.{assertions}
use Rattle.sys_meaning.specs.Slot.{beat, Place, own}
use Rattle.sys_meaning.specs.Items.{Sense, Items, ModeItem, items}
use Rattle.sys_meaning.specs.System.{number_of, below_call}
use Rattle.slot_values.specs.Resolution.{Resolution, known, combined, merged}
use Rattle.slot_values.specs.Resolved.{Numbering, resolution}
use Rattle.evaluation_laws.specs.Resolvings.{Resolving, at_numbers, nowhere, all_resolved}
use Rattle.slot_sources.specs.Sources.{numbering_of, call_beat}

-- ---- contracts

-- the disjunction of a list
abbrev pub some_resolved : List Resolution → Resolution
some_resolved [] = known (flag false)
some_resolved (r ∷ []) = r
some_resolved (r ∷ q ∷ rs) = combined nowhere Or r (some_resolved (q ∷ rs))

abbrev pub resolved : Sense Resolving
resolved = record {
  says = λ i ms e at. resolution (record { place = i; number = at; modes = at_numbers at ms }) e;
  all_of = λ rs at. all_resolved (map (λ r. r at) rs);
  under = λ f g at. combined nowhere Implies (f at) (g at);
  through = λ k f at. f (below_call k at);
}

-- the items of a contract with those of its imports
abbrev pub conditions_of : Instance → Items Resolving
conditions_of i = items resolved i

abbrev pub assumed : Instance → (Place → ℕ) → List Resolution
assumed i at = map (λ f. f at) (conditions_of i).assumes

-- ---- frames

-- a condition of a frame by the slot of its beat: true where the frame is not active
abbrev pub where_active : ℕ → Resolution → Resolution
where_active b r = merged b r (known (flag true))

abbrev pub asserts_of : Numbering → List Resolution
asserts_of g = map (λ e. where_active (g.number (own beat)) (resolution g e)) (assertions (component_of g.place).body)

abbrev mutual
  pub asserts_in : Instance → (Place → ℕ) → List Resolution
  asserts_in (instance d cs is) at = asserts_of (numbering_of (instance d cs is) at) ++ calls_asserts (numbering_of (instance d cs is) at) is

  pub calls_asserts : Numbering → Instances → List Resolution
  calls_asserts g no_instances = []
  calls_asserts g (with_instance c k is) = asserts_in k (below_call c.number g.number) ++ calls_asserts g is

-- what makes an instant lawful: the assumptions, and the assertions of all frames
abbrev pub legal_in : Instance → (Place → ℕ) → List Resolution
legal_in i at = assumed i at ++ asserts_in i at

-- ---- properties

abbrev pub body_properties : Numbering → List Statement → List Resolution
body_properties g [] = []
body_properties g (property l ∷ ss) = resolution g l.value ∷ body_properties g ss
body_properties g (_ ∷ ss) = body_properties g ss

-- where there is a mode, that one is active
abbrev pub one_mode : List (ModeItem Resolving) → (Place → ℕ) → List Resolution
one_mode [] at = []
one_mode (m ∷ ms) at = some_resolved (map (λ m. m.asked at) (m ∷ ms)) ∷ []

-- a callee's assumptions, where its frame is active
abbrev pub owed : Numbering → Site → Instance → List Resolution
owed g c k = map (where_active (call_beat g c)) (assumed k (below_call c.number g.number))

abbrev pub owed_by_site : Numbering → Site → Manner → Instance → List Resolution
owed_by_site g c (as_import xs) k = []
owed_by_site g c plain k = owed g c k
owed_by_site g c (while_true a) k = owed g c k

abbrev pub owed_by_calls : Numbering → Instances → List Resolution
owed_by_calls g no_instances = []
owed_by_calls g (with_instance c k is) = owed_by_site g c c.manner k ++ owed_by_calls g is

abbrev pub properties_in : Instance → (Place → ℕ) → List Resolution
properties_in (instance d cs is) at =
    let i : Instance = instance d cs is in
    body_properties (numbering_of i at) d.body
    ++ map (λ f. f at) (conditions_of i).guarantees
    ++ flat_map (λ m. map (λ f. f at) m.ensures_each) (conditions_of i).modes
    ++ one_mode (conditions_of i).modes at
    ++ owed_by_calls (numbering_of i at) is

-- ---- of the analysed declaration

abbrev pub legal_resolutions : Instance → List Resolution
legal_resolutions i = legal_in i (number_of i)

abbrev pub property_resolutions : Instance → List Resolution
property_resolutions i = properties_in i (number_of i)
