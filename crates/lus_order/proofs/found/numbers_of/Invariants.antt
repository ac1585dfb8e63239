use Rattle.std.proofs.Common.{◌≡◌, ◌++◌, drop}
use Rattle.lus_order.specs.Library.{texts_seen}
use Rattle.lus_order.specs.OwnRows.{numbers_of}
use Rattle.lus_order.proofs.found.numbers_of.Given as goal

abbrev pub invariant-loop-text : goal.invariant-loop-text
invariant-loop-text l = l.row.items ++ numbers_of l.names (texts_seen (drop l.text-index l.texts)) ≡ numbers_of l.names (texts_seen l.texts)
