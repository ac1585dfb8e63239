-- A system whose first property can be asked about.
use Rattle.std.specs.Prelude.{◌<◌, ◌^◌, length}
use Rattle.sys_terms.specs.View.{Machine}
use Rattle.sys_terms.specs.Fits.{IsMild}

pub record IsReady (m : Machine) : Type 0 where
  pub mild : IsMild m
  pub few : length m.shapes < 2 ^ 32
  pub named : 0 < length m.properties
