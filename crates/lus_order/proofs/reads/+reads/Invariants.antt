use Rattle.std.proofs.Common.{◌≡◌, ◌++◌, drop}
use Rattle.lus_tree.specs.View.{exprs_view, joined}
use Rattle.lus_order.specs.Reads.{callees_view, clock_seen, clocks_view, read_arguments, read_each, reads_view}
use Rattle.lus_order.proofs.reads.+reads.Given as goal

abbrev pub invariant-push_each-loop-value : goal.invariant-push_each-loop-value
invariant-push_each-loop-value l = reads_view l.reads.items ++ read_each (clocks_view l.clocks) (callees_view l.callees) (clock_seen l.clock)
    (joined (exprs_view (drop l.value-index l.values)))
    ≡ reads_view l.initial.reads.items ++ read_each (clocks_view l.clocks) (callees_view l.callees) (clock_seen l.clock) (joined (exprs_view l.values))

abbrev pub invariant-push_arguments-loop-argument : goal.invariant-push_arguments-loop-argument
invariant-push_arguments-loop-argument l = record {
  together : l.place ≡ l.argument-index;
  rest : reads_view l.reads.items ++ read_arguments (clocks_view l.clocks) (callees_view l.callees) (clock_seen l.clock)
      (drop l.place l.flags) (joined (exprs_view (drop l.argument-index l.arguments)))
      ≡ reads_view l.initial.reads.items ++ read_arguments (clocks_view l.clocks) (callees_view l.callees) (clock_seen l.clock)
      l.flags (joined (exprs_view l.arguments));
}
