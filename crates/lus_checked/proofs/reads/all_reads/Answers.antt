use Rattle.std.proofs.Common.{◌+◌, ◌++◌, map, drop, ap, ◌∙◌}
use Rattle.lus_tree.specs.View.{decl_view}
use Rattle.lus_order.specs.Dependences.{reads_seen}
use Rattle.lus_checked.specs.Reads.{node_reads, kept_reads}
use Rattle.lus_bounds.proofs.FirstPassed.{few_after}
use Rattle.lus_checked.proofs.OutputReads.{one_more}
use Rattle.lus_checked.proofs.reads.all_reads.Goals as goal

pub loop-decl-preserved : goal.loop-decl-preserved
loop-decl-preserved c = record {
  few = few_after c.loop-decl.before c.loop-decl.decl-index (decl_view c.decl-item.result) c.parts_after-before.result c.loop-decl.invariant.few
      c.parts_after-before.ensures;
  listed =
      ap (λ k. kept_reads c.push_reads.new.all.items ++ node_reads (reads_seen c.args.found.now) k
      (map decl_view (drop (c.loop-decl.decl-index + 1) c.args.decls.now))) c.parts_after-before.ensures
      ∙ one_more (reads_seen c.args.found.now) c.args.decls.now c.loop-decl.before c.loop-decl.decl-index c.decl-item.result (kept_reads c.loop-decl.all.items)
      (kept_reads c.push_reads.new.all.items) c.loop-decl-test.true c.decl-item.is c.in_ok-push_reads.ensures
      ∙ c.loop-decl.invariant.listed;
}
