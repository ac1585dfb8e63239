use Rattle.std.proofs.Common.{None, refl}
use Rattle.lus_checked.specs.Program.{tree_of}
use Rattle.kind_main.proofs.Proofs.{some_node}
use Rattle.kind_main.proofs.replaying.replayed_node.Goals as goal

pub unreachable-requires : goal.unreachable-requires
unreachable-requires c =
    some_node (tree_of c.args.checked.now) c.args.number None (rw (c.in-None.is, c.program.ensures.same) at c.node.ensures) c.requires refl
