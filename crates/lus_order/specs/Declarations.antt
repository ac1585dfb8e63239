-- The declarations of a program, each with what it calls and imports.
use Rattle.std.specs.Prelude.{◌≡◌, Bool, true, not, ◌&&◌, List, map, Contains}
use Rattle.std.specs.List.{list_all}
use Rattle.lus_tree.specs.Tree.{Name, Component}
use Rattle.lus_meaning.specs.Depends.{named_in}
use Rattle.lus_meaning.specs.Program.{all_sites}
use Rattle.lus_limits.specs.Calls.{Called, call_view, called_of}
use Rattle.lus_order.specs.declared.declarations.Declaration.{Declaration}
use Rattle.lus_streams.specs.Owner.{owner_view}

abbrev pub with_calls : Component → Component × List Called
with_calls n = (n, map called_of (all_sites n))

abbrev pub declared_view : Declaration → Component × List Called
declared_view d = (owner_view d.owner, map call_view d.calls.items)

-- all that these call is among the names
abbrev pub are_known : List Name → List Called → Bool
are_known names cs = list_all (λ c. named_in c.callee names) cs

-- not among the names, and all that it calls and imports is
abbrev pub is_next : List Name → Component × List Called → Bool
is_next names d = not (named_in d.0.name.text names) && are_known names d.1

-- one of these is not known, and all that it calls and imports is
pub record IsNextOf (names : List Name) (all : List (Component × List Called)) (n : Component) : Type 0 where
  pub entry : Component × List Called
  pub stands : Contains all entry
  pub next : is_next names entry ≡ true
  pub is : entry.0 ≡ n
