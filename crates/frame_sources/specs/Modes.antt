-- What the modes of contracts ask, by what names and numbers mean in a frame.
use Rattle.std.specs.Prelude.{ℕ, List, [], ◌∷◌, ◌++◌, map, unwrap_or}
use Rattle.lus_tree.specs.declared.expression.Operator.TheVariants.{And}
use Rattle.lus_tree.specs.Tree.{Name, Labelled, ContractStatement, assume, guarantee, ghost_variable, constant, mode, «import»}
use Rattle.sys_texts.specs.Sights.{Sight, own, counted_from_one}
use Rattle.sys_contracts.specs.Items.{way_through}
use Rattle.slot_values.specs.Resolution.{Resolution, combined}
use Rattle.evaluation_laws.specs.Resolvings.{all_resolved, nowhere}
use Rattle.frame_sources.specs.Resolved.{Asked, resolved_by}

abbrev pub both : Resolution → Resolution → Resolution
both a b = combined nowhere And a b

abbrev pub all_by : Sight → List Asked → List Labelled → Resolution
all_by s ms rs = all_resolved (map (λ r. resolved_by s ms r.value) rs)

abbrev pub mode_by : Sight → List Asked → Name → List Labelled → Asked
mode_by s ms m rs = record { way = own; name = m; asked = all_by s ms rs }

abbrev pub imported_mode : Name → Asked → Asked
imported_mode c m = record { way = way_through c m.way; name = m.name; asked = m.asked }

-- what is imported by the call of that number
abbrev pub imported_at : List (List Asked) → ℕ → List Asked
imported_at subs k = unwrap_or (counted_from_one subs k) []

abbrev pub with_statement : Sight → List (List Asked) → List Asked → ContractStatement → List Asked
with_statement s subs ms (assume l) = ms
with_statement s subs ms (guarantee l) = ms
with_statement s subs ms (ghost_variable x e) = ms
with_statement s subs ms (constant c) = ms
with_statement s subs ms (mode m rs es) = ms ++ mode_by s ms m.text rs ∷ []
with_statement s subs ms («import» k c as_ xs) = ms ++ map (imported_mode c.text) (imported_at subs k)

abbrev pub with_statements : Sight → List (List Asked) → List Asked → List ContractStatement → List Asked
with_statements s subs ms [] = ms
with_statements s subs ms (c ∷ cs) = with_statements s subs (with_statement s subs ms c) cs

-- the modes of a contract, by those of its calls and imports by number
abbrev pub contract_modes : Sight → List (List Asked) → List ContractStatement → List Asked
contract_modes s subs cs = with_statements s subs [] cs
