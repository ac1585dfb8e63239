use Rattle.std.specs.Prelude.{take}
use Rattle.sys_terms.specs.View.{states_view}
use Rattle.kind_engine.specs.Larges.{IsLeast}
use Rattle.kind_engine.proofs.large.large_value.Given as goal

abbrev pub invariant-loop-instant : goal.invariant-loop-instant
invariant-loop-instant l = IsLeast (states_view (take l.instant l.path)) l.least
