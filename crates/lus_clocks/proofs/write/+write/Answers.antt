use Rattle.std.proofs.Common.{IfOk, subst, sym}
use Rattle.lus_tree.proofs.Views.{view-Expr}
use Rattle.lus_streams.specs.Clocks.{clock_seen}
use Rattle.lus_streams.specs.Names.{names_view}
use Rattle.lus_clocks.specs.Sought.{clock_at}
use Rattle.lus_clocks.specs.Table.{Writes}
use Rattle.lus_clocks.proofs.write.+write.Goals as goal

pub write-returns : goal.write-returns
write-returns t c =
    subst (λ e. IfOk c.write_form.result (λ _. Writes c.args.table.now c.write_form.new.table
    (λ s. clock_at (names_view c.args.names) s (clock_seen c.args.clock) e)))
    (sym (view-Expr c.args.e.now)) (c.write_form.ensures record { from = c.args.e.now.from; at = c.args.e.now.at })
