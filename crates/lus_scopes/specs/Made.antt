-- A part by its fields.
use Rattle.std.specs.Prelude.{◌≡◌, Bool, Option}
use Rattle.lus_tree.specs.declared.place.Pos.{Pos}
use Rattle.lus_tree.specs.declared.place.Sort.{Sort}
use Rattle.lus_meaning.specs.Scope.{Worth}
use Rattle.lus_scopes.specs.declared.found.Part.{Part}
use Rattle.lus_scopes.specs.Worth.{worth_view}

pub record IsMade (at : Pos) (q : Option Sort) (c : Bool) (w : Worth) (p : Part) : Type 0 where
  pub from : p.from ≡ at
  pub sort : p.sort ≡ q
  pub constant : p.constant ≡ c
  pub worth : worth_view p.worth ≡ w
