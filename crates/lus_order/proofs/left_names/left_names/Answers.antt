use Rattle.std.proofs.Common.{arith, subst, length, ◌≤◌}
use Rattle.lus_scopes.specs.Least.{least_view}
use Rattle.lus_order.proofs.LeftFaults.{lefts_end}
use Rattle.lus_order.proofs.left_names.left_names.Goals as goal

pub returns : goal.returns
returns c = lefts_end c.args.program.now.decls.items c.loop-decl.decl-index (least_view c.args.least.now) (least_view c.loop-decl.least)
    (subst (λ zs. length zs ≤ c.loop-decl.decl-index) c.deref-decl-items.ensures.value (omega arith)) c.loop-decl.invariant
