use Rattle.std.proofs.Common.{◌≡◌, drop}
use Rattle.lus_order.specs.MarkedNames.{with_marked}
use Rattle.lus_order.specs.Library.{texts_seen}
use Rattle.lus_order.proofs.found.add_marked.Given as goal

abbrev pub invariant-loop-text : goal.invariant-loop-text
invariant-loop-text l = with_marked l.marks l.names l.table (texts_seen (drop l.text-index l.texts))
    ≡ with_marked l.marks l.names l.initial.table (texts_seen l.texts)
