use Rattle.std.proofs.Common.{◌≡◌, ◌++◌, drop, map}
use Rattle.lus_tree.specs.View.{param_view}
use Rattle.lus_order.specs.Library.{texts_seen}
use Rattle.lus_order.specs.Streams.{names_of}
use Rattle.lus_order.proofs.summary.texts_of.Given as goal

abbrev pub invariant-loop-param : goal.invariant-loop-param
invariant-loop-param l = texts_seen l.texts.items ++ names_of (map param_view (drop l.param-index l.params)) ≡ names_of (map param_view l.params)
