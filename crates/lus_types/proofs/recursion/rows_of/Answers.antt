use Rattle.std.proofs.Common.{arith, [], ◌∷◌, map}
use Rattle.lus_tree.specs.View.{decl_view, program_view}
use Rattle.lus_types.specs.Marks.{row_view}
use Rattle.lus_types.proofs.Firsts.{rows, rows_first}
use Rattle.lus_types.proofs.Steps.{one_added}
use Rattle.lus_types.proofs.recursion.rows_of.Goals as goal

pub loop-decl-preserved : goal.loop-decl-preserved
loop-decl-preserved c =
    one_added (λ z. rows (program_view c.args.declarations.now) c.args.names.now (decl_view z ∷ [])) (λ zs. rows (program_view c.args.declarations.now) c.args.names.now (map decl_view zs))
    (λ z zs. rows_first (program_view c.args.declarations.now) c.args.names.now (decl_view z) (map decl_view zs)) c.args.decls.now c.loop-decl.decl-index c.decl-item.result (map row_view c.loop-decl.rows.items)
    (map row_view c.push_row.new.rows.items) _ (omega arith) c.decl-item.is c.loop-decl.invariant c.in_ok-push_row.ensures
