use Rattle.std.specs.Prelude.{◌++◌, ◌∷◌, [], None}
use Rattle.std.proofs.Common.{ap, ◌∙◌}
use Rattle.int_simplex.proofs.Begun.{one_more_same}
use Rattle.int_simplex.proofs.seats.no_seats.Goals as goal

pub loop-column-preserved : goal.loop-column-preserved
loop-column-preserved c = c.in_ok-push.ensures.items ∙ ap (λ xs. xs ++ None ∷ []) c.loop-column.invariant ∙ one_more_same c.loop-column._column None
