use Rattle.lus_tree.specs.View.{node_view, program_view}
use Rattle.kind_main.proofs.Ready.{component}
use Rattle.kind_main.proofs.verdicts.variable_text.Goals as goal

pub place_of-requires-clause-declared : goal.place_of-requires-clause-declared
place_of-requires-clause-declared c = component (program_view c.args.program.now) (node_view c.args.node.now) c.requires
