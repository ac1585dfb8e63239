use Rattle.std.proofs.Common.{arith, ◌∙◌}
use Rattle.lus_tree.specs.Tree.{Expression}
use Rattle.lus_tree.specs.View.{expr_view}
use Rattle.lus_meaning.specs.Scene.{base}
use Rattle.lus_meaning.specs.Occurrences.{on_clock}
use Rattle.lus_streams.specs.Names.{names_view}
use Rattle.lus_clocks.specs.Table.{kept}
use Rattle.lus_clocks.proofs.Written.{one_mapped}
use Rattle.lus_clocks.proofs.sites.in_arguments.Goals as goal

pub loop-argument-preserved : goal.loop-argument-preserved
loop-argument-preserved c = λ s.
    one_mapped (names_view c.args.names) s (λ (a : Expression). (on_clock base, a)) expr_view c.args.all.now c.loop-argument.argument-index c.argument-item.result
    (kept c.loop-argument.table s) (kept c.in_text.new.table s) (omega arith) c.argument-item.is (c.in_ok-in_text.ensures s) ∙ c.loop-argument.invariant s
