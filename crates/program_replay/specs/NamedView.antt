-- What contracts see of a node with its numbers.
use Rattle.lus_tree.specs.View.{node_view}
use Rattle.program_replay.specs.declared.named.Named.{Named}
use Rattle.program_replay.specs.Named.{Numbered}

abbrev pub named_view : Named → Numbered
named_view m = record { node = node_view m.node.now; number = m.number; place = m.place }
