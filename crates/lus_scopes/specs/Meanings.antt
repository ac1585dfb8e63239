-- What contracts see of a name and what it means, and of tables of names and of declarations.
use Rattle.std.specs.Prelude.{◌≡◌, ℕ, nat_lt, Bool, true, false, cond, not, ◌&&◌, List, [], ◌∷◌, map, Option, Some, None, find, option_map}
use Rattle.std.specs.Borrow.{Bor}
use Rattle.std.specs.Str.{bytes_eq}
use Rattle.indexmap.specs.IndexMap.{IndexMap, get_by}
use Rattle.lus_tree.specs.Tree.{Name, Component, Declaration, declared_constant, declared_node, declared_contract, Program}
use Rattle.lus_tree.specs.View.{word_view, clock_view, node_view, contract_node_view}
use Rattle.lus_meaning.specs.Value.{absent}
use Rattle.lus_meaning.specs.Scene.{base, clock_from}
use Rattle.lus_meaning.specs.Scope.{Entry, Role, an_input, an_output, a_local, a_ghost, a_constant}
use Rattle.lus_scopes.specs.declared.scope.Role.{Role as CodeRole}
use Rattle.lus_scopes.specs.declared.scope.Role.TheVariants.{Input, Output, Local, Ghost}
use Rattle.lus_scopes.specs.declared.scope.Meaning.{Meaning}
use Rattle.lus_scopes.specs.declared.scope.Meaning.TheVariants.{Stream, Constant}
use Rattle.lus_scopes.specs.declared.scope.Entry.{Entry as CodeEntry}
use Rattle.lus_scopes.specs.declared.scope.Extent.{Extent}
use Rattle.lus_scopes.specs.declared.scope.Extent.TheVariants.{All, First}
use Rattle.lus_scopes.specs.declared.callee.Callee.{Callee}
use Rattle.lus_scopes.specs.declared.callee.Callee.TheVariants.{Node, Contract}
use Rattle.lus_scopes.specs.Cut.{known_value}

abbrev pub role_view : CodeRole → Role
role_view Input = an_input
role_view Output = an_output
role_view Local = a_local
role_view Ghost = a_ghost

abbrev pub meaning_view : Meaning → Bool → Entry
meaning_view (Stream r p) known =
    record {
      word = word_view p.now.name;
      role = role_view r;
      sort = Some p.now.sort;
      clock = clock_from (clock_view p.now.clock);
      value = absent;
      known = known;
    }
meaning_view (Constant d q v) known =
    record {
      word = word_view d.now.name;
      role = a_constant;
      sort = q;
      clock = base;
      value = known_value v;
      known = known;
    }

abbrev pub is_local : CodeRole → Bool
is_local Local = true
is_local _ = false

-- whether a constant behind so many others may be used
abbrev pub is_reached : Extent → ℕ → Bool
is_reached All i = true
is_reached (First k) i = nat_lt i k

-- whether a name may be used: a stream but for a local that is hidden, a constant where it is reached
abbrev pub known_as : Meaning → Bool → Bool → Bool
known_as (Stream r p) hidden reached = not (hidden && is_local r)
known_as (Constant d q v) hidden reached = reached

abbrev pub entry_view : Extent → Bool → CodeEntry → Entry
entry_view x hidden e = meaning_view e.meaning (known_as e.meaning hidden (is_reached x e.order))

-- ---- tables

-- what a table has for a name
abbrev pub by_name : {V S : Type 0} → IndexMap (Bor (List ℕ)) V S → Name → Option V
by_name m x = get_by (λ k. bytes_eq x k.now) m

-- a table has for each name the first of these entries with that name
abbrev pub IsTable : {S : Type 0} → List CodeEntry → IndexMap (Bor (List ℕ)) CodeEntry S → Type 0
IsTable es t =
    (k : Extent) (hidden : Bool) (x : Name)
    → option_map (entry_view k hidden) (by_name t x) ≡ find (λ e. bytes_eq x e.word.text) (map (entry_view k hidden) es)

abbrev pub callee_view : Callee → Declaration
callee_view (Node n) = declared_node (node_view n.now)
callee_view (Contract c) = declared_contract (contract_node_view c.contract.now)

-- the first declaration with parts of that name
abbrev pub first_named : Program → Name → Option Declaration
first_named [] x = None
first_named (declared_constant c ∷ ds) x = first_named ds x
first_named (declared_node n ∷ ds) x = cond (bytes_eq x n.name.text) (Some (declared_node n)) (first_named ds x)
first_named (declared_contract n ∷ ds) x = cond (bytes_eq x n.name.text) (Some (declared_contract n)) (first_named ds x)

-- it where it is a node or function, and where it is a contract node
abbrev pub as_node : Callee → Option Component
as_node (Node n) = Some (node_view n.now)
as_node (Contract c) = None

abbrev pub as_contract : Callee → Option Component
as_contract (Node n) = None
as_contract (Contract c) = Some (contract_node_view c.contract.now)
