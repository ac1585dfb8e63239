use Rattle.std.proofs.Common.{◌+◌, map, drop, ap, ◌∙◌}
use Rattle.lus_tree.specs.View.{decl_view}
use Rattle.lus_scopes.specs.Least.{least_view, noted_all}
use Rattle.lus_bounds.specs.Passed.{limit_faults_by}
use Rattle.lus_bounds.proofs.FirstPassed.{few_after, one_more}
use Rattle.lus_bounds.proofs.faults.note_limits.Goals as goal

pub loop-decl-preserved : goal.loop-decl-preserved
loop-decl-preserved c = record {
  few = few_after c.loop-decl.before c.loop-decl.decl-index (decl_view c.decl-item.result) c.parts_after-before.result c.loop-decl.invariant.few
      c.parts_after-before.ensures;
  noted =
      ap (λ k. noted_all (least_view c.note_declaration.new.least) (limit_faults_by c.args.sizes.now k
      (map decl_view (drop (c.loop-decl.decl-index + 1) c.args.decls.now)))) c.parts_after-before.ensures
      ∙ one_more c.args.sizes.now c.args.decls.now c.loop-decl.before c.loop-decl.decl-index c.decl-item.result (least_view c.loop-decl.least)
      (least_view c.note_declaration.new.least) c.loop-decl-test.true c.decl-item.is c.note_declaration.ensures
      ∙ c.loop-decl.invariant.noted;
}
