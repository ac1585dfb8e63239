use Rattle.lus_tree.specs.View.{decl_view}
use Rattle.lus_scopes.specs.Least.{least_view}
use Rattle.lus_scopes.proofs.Loops.{OnTheWay}
use Rattle.lus_order.specs.Lefts.{lefts_of}
use Rattle.lus_order.proofs.left_names.left_names.Given as goal

abbrev pub invariant-loop-decl : goal.invariant-loop-decl
invariant-loop-decl l = OnTheWay (λ d. lefts_of (decl_view d)) l.program.decls.items l.decl-index (least_view l.initial.least) (least_view l.least)
