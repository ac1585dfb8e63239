use Rattle.std.proofs.Common.{◌≡◌, Bool, not, Option, true, false, Some, None, refl, ◌∙◌}
use Rattle.std.specs.Prelude.{is_none, is_some}
use Rattle.lus_streams.specs.Names.{names_view}
use Rattle.lus_limits.proofs.Measures.{fixed_name}
use Rattle.lus_limits.proofs.measuring.is_constant.Goals as goal

-- what is not there is none
absent : {A : Type 0} (o : Option A) (b : Bool) → is_some o ≡ not b → b ≡ is_none o
absent None b e = none_is b e where
  none_is : (b : Bool) → false ≡ not b → b ≡ true
  none_is true e = refl
  none_is false e = e
absent (Some a) b e = some_is b e where
  some_is : (b : Bool) → true ≡ not b → b ≡ false
  some_is true e = e
  some_is false e = refl

pub returns : goal.returns
returns c =
    absent c.clock.result c.is_none.result c.is_none.ensures
    ∙ fixed_name c.clock.result (names_view c.args.names) c.args.name.now c.clock.ensures
