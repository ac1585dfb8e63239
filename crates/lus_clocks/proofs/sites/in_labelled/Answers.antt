use Rattle.std.proofs.Common.{arith, ◌∙◌}
use Rattle.lus_tree.specs.Tree.{Labelled}
use Rattle.lus_tree.specs.View.{named_view}
use Rattle.lus_meaning.specs.Scene.{base}
use Rattle.lus_meaning.specs.Occurrences.{on_clock}
use Rattle.lus_streams.specs.Names.{names_view}
use Rattle.lus_clocks.specs.Table.{kept}
use Rattle.lus_clocks.proofs.Written.{one_mapped}
use Rattle.lus_clocks.proofs.sites.in_labelled.Goals as goal

pub loop-named-preserved : goal.loop-named-preserved
loop-named-preserved c = λ s.
    one_mapped (names_view c.args.names) s (λ (l : Labelled). (on_clock base, l.value)) named_view c.args.all.now c.loop-named.named-index c.named-item.result
    (kept c.loop-named.table s) (kept c.in_text.new.table s) (omega arith) c.named-item.is (c.in_ok-in_text.ensures s) ∙ c.loop-named.invariant s
