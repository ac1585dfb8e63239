use Rattle.std.specs.Prelude.{◌+◌}
use Rattle.std.proofs.Common.{subst, sym}
use Rattle.std.specs.declared.vec.Vec.{Vec}
use Rattle.std.specs.declared.alloc.Global.{Global}
use Rattle.std.specs.Prelude.{ℕ, List}
use Rattle.int_simplex.specs.Holding.{lists_of, AreEmpty}
use Rattle.int_simplex.proofs.Holding.{empty_more}
use Rattle.int_simplex.proofs.holders.no_lists.Goals as goal

pub loop-column-preserved : goal.loop-column-preserved
loop-column-preserved c =
    subst (λ (xs : List (Vec ℕ Global)). AreEmpty (c.loop-column._column + 1) (lists_of xs)) (sym c.in_ok-push.ensures.items)
    (empty_more c.loop-column._column c.loop-column.lists.items c.new.result c.new.ensures.items c.loop-column.invariant)
