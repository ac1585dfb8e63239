-- The conditions of a frame and of those of its calls, by the tables of a program's declarations, with calls nested no
-- deeper than said.
use Rattle.std.specs.Prelude.{ℕ, zero, suc, List, [], ◌∷◌, ◌++◌, map, Option, Some, None, slice_get}
use Rattle.lus_meaning.specs.Scene.{Manner, plain, while_true, as_import, contract_statements}
use Rattle.lus_limits.specs.Calls.{way_of}
use Rattle.lus_limits.specs.declared.calls.Way.{Way}
use Rattle.lus_limits.specs.declared.calls.Way.TheVariants.{Plain, Condition, Import}
use Rattle.sys_texts.specs.Sights.{Sight}
use Rattle.sys_tables.specs.Tabled.{Linked, Tabled}
use Rattle.sys_tables.specs.Numbers.{behind_own, frame_base, sight_at}
use Rattle.slot_values.specs.Resolution.{Resolution}
use Rattle.frame_sources.specs.Resolved.{Asked}
use Rattle.frame_sources.specs.Walked.{modes_within}
use Rattle.frame_conditions.specs.Conditioned.{Conditions, asserts_by, contract_conditions, no_conditions, owed, promises, properties_by}

-- ---- the conditions of contracts

-- what is said of the conditions of a frame
abbrev pub ConditionsOf : Type 0
ConditionsOf = Tabled → Way → ℕ → Conditions

abbrev pub conditions_or_none : ConditionsOf → Option Tabled → Way → ℕ → Conditions
conditions_or_none f None w b = no_conditions
conditions_or_none f (Some t) w b = f t w b

-- those of a call: of an import those of its frame; a contract looks at no others
abbrev pub called_one : ConditionsOf → List Tabled → ℕ → ℕ → Manner → Conditions
called_one f ts place b plain = no_conditions
called_one f ts place b (while_true a) = no_conditions
called_one f ts place b (as_import xs) = conditions_or_none f (slice_get ts place) Import b

abbrev pub called_each : ConditionsOf → List Tabled → ℕ → List Linked → List Conditions
called_each f ts from qs = map (λ q. called_one f ts q.place (frame_base from q) q.site.manner) qs

-- those of calls that stand from there on, with others nested in them no deeper than said; at 0 there are none
abbrev pub conditions_below : ℕ → List Tabled → ℕ → ℕ → List Linked → List Conditions
conditions_below zero ts missing from qs = []
conditions_below (suc d) ts missing from qs =
    called_each (λ t w b. contract_conditions (sight_at t w b missing) (conditions_below d ts missing (behind_own w t b) t.calls)
    (contract_statements t.component)) ts from qs

-- those of a frame that is seen so, whose calls stand from there on
abbrev pub conditions_seen : ℕ → List Tabled → ℕ → Tabled → Sight → ℕ → Conditions
conditions_seen d ts missing t s from =
    contract_conditions s (conditions_below d ts missing from t.calls) (contract_statements t.component)

abbrev pub conditions_within : ℕ → List Tabled → ℕ → ConditionsOf
conditions_within d ts missing t w b = conditions_seen d ts missing t (sight_at t w b missing) (behind_own w t b)

-- ---- what frames assert

-- what a frame and those of its calls assert
abbrev pub AssertsOf : Type 0
AssertsOf = Tabled → Way → ℕ → List Resolution

abbrev pub asserts_or_none : AssertsOf → Option Tabled → Way → ℕ → List Resolution
asserts_or_none f None w b = []
asserts_or_none f (Some t) w b = f t w b

abbrev pub call_asserts : AssertsOf → List Tabled → ℕ → Linked → List Resolution
call_asserts f ts from q = asserts_or_none f (slice_get ts q.place) (way_of q.site.manner) (frame_base from q)

abbrev pub calls_asserts : AssertsOf → List Tabled → ℕ → List Linked → List Resolution
calls_asserts f ts from [] = []
calls_asserts f ts from (q ∷ qs) = call_asserts f ts from q ++ calls_asserts f ts from qs

abbrev pub own_asserts : ℕ → List Tabled → ℕ → AssertsOf
own_asserts d ts missing t w b = asserts_by (sight_at t w b missing) (modes_within d ts missing t w b) t.component.body

-- those of calls that stand from there on, with others nested in them no deeper than said
abbrev pub asserts_below : ℕ → List Tabled → ℕ → ℕ → List Linked → List Resolution
asserts_below zero ts missing from qs = []
asserts_below (suc d) ts missing from qs =
    calls_asserts (λ t w b. own_asserts d ts missing t w b ++ asserts_below d ts missing (behind_own w t b) t.calls) ts from qs

abbrev pub asserts_within : ℕ → List Tabled → ℕ → AssertsOf
asserts_within d ts missing t w b = own_asserts d ts missing t w b ++ asserts_below d ts missing (behind_own w t b) t.calls

-- ---- what calls owe

-- the assumptions of a callee, but an import owes nothing
abbrev pub owed_by : ConditionsOf → Option Tabled → ℕ → Manner → List Resolution
owed_by f o b plain = owed b (conditions_or_none f o Plain b).assumes
owed_by f o b (while_true a) = owed b (conditions_or_none f o Condition b).assumes
owed_by f o b (as_import xs) = []

-- the beat of a call's frame is its first slot
abbrev pub owed_by_calls : ConditionsOf → List Tabled → ℕ → List Linked → List Resolution
owed_by_calls f ts from [] = []
owed_by_calls f ts from (q ∷ qs) =
    owed_by f (slice_get ts q.place) (frame_base from q) q.site.manner ++ owed_by_calls f ts from qs

-- of all calls of a frame, with others nested in them no deeper than said
abbrev pub owed_within : ℕ → List Tabled → ℕ → Tabled → ℕ → List Resolution
owed_within zero ts missing t from = []
owed_within (suc d) ts missing t from = owed_by_calls (conditions_within d ts missing) ts from t.calls

-- ---- of the analysed declaration

abbrev pub legal_within : ℕ → List Tabled → ℕ → Tabled → List Resolution
legal_within d ts missing t = (conditions_within d ts missing t Plain 0).assumes ++ asserts_within d ts missing t Plain 0

abbrev pub legal_or_none : ℕ → List Tabled → ℕ → Option Tabled → List Resolution
legal_or_none d ts missing None = []
legal_or_none d ts missing (Some t) = legal_within d ts missing t

-- the properties of the body, what the contract promises, and what is owed
abbrev pub properties_over : Sight → List Asked → Conditions → Tabled → List Resolution → List Resolution
properties_over s ms r t owes = properties_by s ms t.component.body ++ (promises r ++ owes)

abbrev pub properties_within : ℕ → List Tabled → ℕ → Tabled → List Resolution
properties_within d ts missing t =
    properties_over (sight_at t Plain 0 missing) (modes_within d ts missing t Plain 0) (conditions_within d ts missing t Plain 0) t
    (owed_within d ts missing t (behind_own Plain t 0))

abbrev pub properties_or_none : ℕ → List Tabled → ℕ → Option Tabled → List Resolution
properties_or_none d ts missing None = []
properties_or_none d ts missing (Some t) = properties_within d ts missing t
