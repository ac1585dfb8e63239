use Rattle.std.proofs.Common.{arith, ◌∙◌, ap, map}
use Rattle.lus_tree.specs.View.{decl_view}
use Rattle.lus_scopes.specs.Least.{least_view}
use Rattle.lus_clocks.specs.Items.{declaration_walk}
use Rattle.lus_clocks.specs.declared.table.Table.{Table}
use Rattle.lus_clocks.specs.Table.{kept}
use Rattle.lus_clocks.proofs.Sides.{one_more}
use Rattle.lus_clocks.proofs.Written.{one_table}
use Rattle.lus_clocks.proofs.program.declarations.Goals as goal

pub loop-decl-preserved : goal.loop-decl-preserved
loop-decl-preserved c = record {
  noted = one_more declaration_walk decl_view c.args.decls.now c.loop-decl.decl-index c.decl-item.result (least_view c.loop-decl.least)
      (least_view c.declaration.new.least) (omega arith) c.decl-item.is c.in_ok-declaration.ensures.noted ∙ c.loop-decl.invariant.noted;
  kept = λ s.
      ap (map (λ (z : Table). kept z s)) c.in_ok-push.ensures.items
      ∙ one_table s c.loop-decl.tables.items c.in_ok-declaration.field-0 c.args.decls.now c.loop-decl.decl-index c.decl-item.result (omega arith)
      c.decl-item.is (c.in_ok-declaration.ensures.kept s) (c.loop-decl.invariant.kept s);
}
