use Rattle.std.proofs.Common.{arith, ◌∙◌}
use Rattle.lus_tree.specs.Tree.{Constant}
use Rattle.lus_tree.specs.View.{definition_view}
use Rattle.lus_meaning.specs.Scene.{base}
use Rattle.lus_meaning.specs.Occurrences.{on_clock}
use Rattle.lus_streams.specs.Names.{names_view}
use Rattle.lus_clocks.specs.Table.{kept}
use Rattle.lus_clocks.proofs.Written.{one_mapped}
use Rattle.lus_clocks.proofs.sites.in_constants.Goals as goal

pub loop-definition-preserved : goal.loop-definition-preserved
loop-definition-preserved c = λ s.
    one_mapped (names_view c.args.names) s (λ (d : Constant). (on_clock base, d.value)) definition_view c.args.all.now c.loop-definition.definition-index c.definition-item.result
    (kept c.loop-definition.table s) (kept c.in_text.new.table s) (omega arith) c.definition-item.is (c.in_ok-in_text.ensures s) ∙ c.loop-definition.invariant s
