use Rattle.std.proofs.Common.{map, take}
use Rattle.lus_tree.specs.View.{param_view}
use Rattle.lus_order.specs.Names.{AddsNames}
use Rattle.lus_order.proofs.words.add_streams.Given as goal

abbrev pub invariant-loop-param : goal.invariant-loop-param
invariant-loop-param l = AddsNames l.initial.table l.table (map (λ v. v.name.text) (map param_view (take l.param-index l.params)))
