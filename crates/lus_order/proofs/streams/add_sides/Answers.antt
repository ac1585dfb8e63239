use Rattle.std.proofs.Common.{refl, ap, ◌∙◌, map}
use Rattle.lus_tree.specs.Tree.{text_of}
use Rattle.lus_order.specs.Names.{words_view}
use Rattle.lus_order.specs.Sides.{equation_view, equations_view}
use Rattle.lus_order.specs.Streams.{with_all, with_sides}
use Rattle.lus_order.proofs.Widened.{both_widened}
use Rattle.lus_order.proofs.Steps.{one_changed}
use Rattle.lus_order.proofs.streams.add_sides.Goals as goal

pub loop-side-preserved : goal.loop-side-preserved
loop-side-preserved c = record {
  names = one_changed (λ t zs. with_sides t (equations_view zs)) (λ t z. with_all t (equation_view z).names) (λ t z zs. refl) c.args.sides.now
      c.loop-side.side-index c.side-item.result c.loop-side.clocks.names c.add_lefts.new.clocks.names _ c.loop-side-test.true c.side-item.is
      c.loop-side.invariant.names
      (c.in_ok-add_lefts.ensures.names ∙ ap (λ ws. with_all c.loop-side.clocks.names (map text_of (words_view ws))) c.deref.ensures.value);
  wider = both_widened c.args.clocks.now c.loop-side.clocks c.add_lefts.new.clocks c.loop-side.invariant.wider c.in_ok-add_lefts.ensures.clocks;
}
