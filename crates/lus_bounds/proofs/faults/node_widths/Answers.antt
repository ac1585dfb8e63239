use Rattle.std.proofs.Common.{◌+◌, ◌++◌, map, drop, ap, ◌∙◌}
use Rattle.lus_tree.specs.View.{decl_view}
use Rattle.lus_bounds.specs.Widths.{widths_by}
use Rattle.lus_bounds.proofs.FirstPassed.{few_after}
use Rattle.lus_bounds.proofs.Widths.{one_more_width}
use Rattle.lus_bounds.proofs.faults.node_widths.Goals as goal

pub loop-decl-preserved : goal.loop-decl-preserved
loop-decl-preserved c = record {
  few = few_after c.loop-decl.before c.loop-decl.decl-index (decl_view c.decl-item.result) c.parts_after-before.result c.loop-decl.invariant.few
      c.parts_after-before.ensures;
  listed =
      ap (λ k. c.push_width.new.widths.items ++ widths_by c.args.sizes.now k
      (map decl_view (drop (c.loop-decl.decl-index + 1) c.args.decls.now))) c.parts_after-before.ensures
      ∙ one_more_width c.args.sizes.now c.args.decls.now c.loop-decl.before c.loop-decl.decl-index c.decl-item.result c.loop-decl.widths.items
      c.push_width.new.widths.items c.loop-decl-test.true c.decl-item.is c.in_ok-push_width.ensures
      ∙ c.loop-decl.invariant.listed;
}
