-- The limits that a program passes, by the sizes of its declarations' systems.
use Rattle.std.specs.Prelude.{ℕ, suc, List, [], ◌∷◌, ◌++◌, get_or, Option, option_map, option_to_list}
use Rattle.std.specs.Borrow.{Bor}
use Rattle.lus_tree.specs.Tree.{Name, Spelled, Declaration, declared_constant, declared_node, declared_contract}
use Rattle.lus_tree.specs.Reason.{Refused, too_many}
use Rattle.lus_meaning.specs.Faults.{fault}
use Rattle.lus_meaning.specs.Limits.{Limit, at_most, limit_fault, text_limits}
use Rattle.lus_limits.specs.declared.systems.SystemSize.{SystemSize}

-- those of a node's system
abbrev pub size_limits : SystemSize → List Limit
size_limits z = at_most 500 z.properties ∷ at_most 20000 z.variables ∷ at_most 4000 z.levels ∷ at_most 1000000 z.parts ∷ []

-- of nothing
abbrev pub no_size : SystemSize
no_size = record { properties = 0; variables = 0; levels = 0; parts = 0 }

-- the size with that number
abbrev pub size_at : List SystemSize → ℕ → SystemSize
size_at zs k = get_or zs k no_size

-- the fault of a passed limit
abbrev pub fault_of : Spelled → Option ℕ → List Refused
fault_of w limit = option_to_list (option_map (λ k. fault (too_many k) w.at) limit)

-- one more declaration with parts, or not
abbrev pub parts_after : ℕ → Declaration → ℕ
parts_after k (declared_constant c) = k
parts_after k (declared_node n) = suc k
parts_after k (declared_contract n) = suc k

-- of one declaration, behind so many with parts
abbrev pub declaration_faults : List SystemSize → ℕ → Declaration → List Refused
declaration_faults zs k (declared_constant c) = []
declaration_faults zs k (declared_node n) = limit_fault n.name (text_limits k n ++ size_limits (size_at zs k))
declaration_faults zs k (declared_contract n) = limit_fault n.name (text_limits k n)

-- of the declarations in turn
abbrev pub limit_faults_by : List SystemSize → ℕ → List Declaration → List Refused
limit_faults_by zs k [] = []
limit_faults_by zs k (d ∷ ds) = declaration_faults zs k d ++ limit_faults_by zs (parts_after k d) ds

-- a name that may be given
abbrev pub name_seen : Option (Bor Name) → Option Name
name_seen = option_map (λ x. x.now)
