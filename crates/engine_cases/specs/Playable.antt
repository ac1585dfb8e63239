-- A system with which the engines can play.
use Rattle.std.specs.Prelude.{◌<◌, ◌^◌, length}
use Rattle.sys_terms.specs.View.{Machine}
use Rattle.sys_terms.specs.Fits.{IsMild}

pub record IsPlayable (m : Machine) : Type 0 where
  pub mild : IsMild m
  pub few : length m.shapes < 2 ^ 32
