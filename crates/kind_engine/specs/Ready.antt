-- A system and a plan that an engine can work on.
use Rattle.std.specs.Prelude.{◌<◌, ◌^◌, length}
use Rattle.sys_terms.specs.View.{Machine}
use Rattle.sys_terms.specs.Fits.{IsMild}
use Rattle.board_core.specs.declared.plan.Plan.{Plan}
use Rattle.board_core.specs.Plans.{IsPlan}

-- mild, with variables and properties that 32 bits number; the plan is within its ranges
pub record IsReady (m : Machine) (plan : Plan) : Type 0 where
  pub mild : IsMild m
  pub few : length m.shapes < 2 ^ 32
  pub few_properties : length m.properties < 2 ^ 32
  pub ranges : IsPlan plan
