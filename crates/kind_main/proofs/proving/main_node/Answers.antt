use Rattle.std.proofs.Common.{None, refl}
use Rattle.lus_checked.specs.Program.{main_of, tree_of}
use Rattle.kind_main.proofs.Proofs.{some_node}
use Rattle.kind_main.proofs.proving.main_node.Goals as goal

pub unreachable-requires : goal.unreachable-requires
unreachable-requires c =
    some_node (tree_of c.args.checked.now) (main_of c.args.checked.now) None
    (rw (c.in-None.is, c.program.ensures.same, c.main.ensures.same) at c.node.ensures)
    (rw c.main.ensures.same at c.main.ensures.node) refl
