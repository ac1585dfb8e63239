use Rattle.std.proofs.Common.{◌≡◌, drop, map}
use Rattle.std.specs.List.{find}
use Rattle.lus_order.specs.Declarations.{declared_view, is_next}
use Rattle.lus_order.proofs.learned.first_next.Given as goal

abbrev pub invariant-loop-declared : goal.invariant-loop-declared
invariant-loop-declared l = find (is_next l.names) (map declared_view (drop l.declared-index l.all)) ≡ find (is_next l.names) (map declared_view l.all)
