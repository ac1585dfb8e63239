-- What a contract and a body say of a frame, as resolutions, by what names and numbers mean there.
use Rattle.std.specs.Prelude.{ℕ, List, [], ◌∷◌, ◌++◌, map, unwrap_or}
use Rattle.lus_tree.specs.declared.expression.Operator.TheVariants.{Implies, Or}
use Rattle.lus_tree.specs.Tree.{Name, Labelled, Statement, property, ContractStatement, assume, guarantee, ghost_variable, constant, mode, «import»}
use Rattle.lus_meaning.specs.Property.{assertions}
use Rattle.sys_texts.specs.Sights.{Sight, counted_from_one}
use Rattle.slot_values.specs.Resolution.{Resolution, combined}
use Rattle.evaluation_laws.specs.Resolvings.{nowhere}
use Rattle.condition_laws.specs.Conditions.{some_resolved, where_active}
use Rattle.frame_sources.specs.Resolved.{Asked, resolved_by}
use Rattle.frame_sources.specs.Modes.{imported_mode, mode_by}

-- ---- contracts

-- each kind in text order; what the modes ensure is in the order of the modes
pub record Conditions : Type 0 where
  pub assumes : List Resolution
  pub guarantees : List Resolution
  pub modes : List Asked
  pub ensured : List Resolution

abbrev pub no_conditions : Conditions
no_conditions = record { assumes = []; guarantees = []; modes = []; ensured = [] }

abbrev pub under : Resolution → Resolution → Resolution
under asked r = combined nowhere Implies asked r

-- what these expressions say where something is true
abbrev pub ensured : Sight → List Asked → Resolution → List Labelled → List Resolution
ensured s ms asked es = map (λ e. under asked (resolved_by s ms e.value)) es

abbrev pub with_mode : Sight → Conditions → Name → List Labelled → List Labelled → Conditions
with_mode s r m rs es = record r {
  modes = r.modes ++ mode_by s r.modes m rs ∷ [];
  ensured = r.ensured ++ ensured s r.modes (mode_by s r.modes m rs).asked es;
}

-- the conditions, and behind them those of an import
abbrev pub with_import : Conditions → Name → Conditions → Conditions
with_import r c q = record {
  assumes = r.assumes ++ q.assumes;
  guarantees = r.guarantees ++ q.guarantees;
  modes = r.modes ++ map (imported_mode c) q.modes;
  ensured = r.ensured ++ q.ensured;
}

-- what is imported by the call of that number
abbrev pub imported_at : List Conditions → ℕ → Conditions
imported_at subs k = unwrap_or (counted_from_one subs k) no_conditions

abbrev pub with_statement : Sight → List Conditions → Conditions → ContractStatement → Conditions
with_statement s subs r (assume l) = record r { assumes = r.assumes ++ resolved_by s r.modes l.value ∷ [] }
with_statement s subs r (guarantee l) = record r { guarantees = r.guarantees ++ resolved_by s r.modes l.value ∷ [] }
with_statement s subs r (ghost_variable x e) = r
with_statement s subs r (constant c) = r
with_statement s subs r (mode m rs es) = with_mode s r m.text rs es
with_statement s subs r («import» k c as_ xs) = with_import r c.text (imported_at subs k)

abbrev pub with_statements : Sight → List Conditions → Conditions → List ContractStatement → Conditions
with_statements s subs r [] = r
with_statements s subs r (c ∷ cs) = with_statements s subs (with_statement s subs r c) cs

-- the conditions of a contract, by those of its calls and imports by number
abbrev pub contract_conditions : Sight → List Conditions → List ContractStatement → Conditions
contract_conditions s subs cs = with_statements s subs no_conditions cs

-- ---- bodies

abbrev pub asserts_by : Sight → List Asked → List Statement → List Resolution
asserts_by s ms ss = map (λ e. where_active s.beat (resolved_by s ms e)) (assertions ss)

abbrev pub properties_by : Sight → List Asked → List Statement → List Resolution
properties_by s ms [] = []
properties_by s ms (property l ∷ ss) = resolved_by s ms l.value ∷ properties_by s ms ss
properties_by s ms (_ ∷ ss) = properties_by s ms ss

-- what a callee assumes, where its frame is active
abbrev pub owed : ℕ → List Resolution → List Resolution
owed beat rs = map (where_active beat) rs

-- ---- properties

abbrev pub either : Resolution → Resolution → Resolution
either a b = combined nowhere Or a b

-- where there is a mode, that one is active
abbrev pub one_mode : List Asked → List Resolution
one_mode [] = []
one_mode (m ∷ ms) = some_resolved (map (λ n. n.asked) (m ∷ ms)) ∷ []

-- what a contract promises
abbrev pub promises : Conditions → List Resolution
promises r = r.guarantees ++ (r.ensured ++ one_mode r.modes)
