use Rattle.std.proofs.Common.{◌≡◌, ◌↔◌, true, map, ◌∙◌, subst}
use Rattle.lus_tree.specs.Tree.{text_of}
use Rattle.lus_order.specs.Backs.{LeadsBack}
use Rattle.number_graphs.specs.Graphs.{graph_view}
use Rattle.lus_order.specs.Names.{words_view}
use Rattle.lus_order.proofs.BackNames.{flags_more}
use Rattle.lus_order.proofs.circle_faults.flags_of.Goals as goal

pub loop-side-preserved : goal.loop-side-preserved
loop-side-preserved c = record {
  same = c.in_ok-leads_back.ensures.same ∙ c.loop-side.invariant.same;
  flagged = flags_more (graph_view c.args.graph.now) c.args.names.now c.args.sides.now c.loop-side.side-index c.side-item.result
      c.loop-side.flags.items c.push.new.self.items c.in_ok-leads_back.field-0 c.loop-side-test.true c.side-item.is c.loop-side.invariant.flagged
      c.in_ok-push.ensures.items
      (subst (λ r. (c.in_ok-leads_back.field-0 ≡ true) ↔ LeadsBack r c.args.names.now (map text_of (words_view c.side-item.result.words.items)))
      c.loop-side.invariant.same
      (subst (λ z. (c.in_ok-leads_back.field-0 ≡ true) ↔ LeadsBack (graph_view c.loop-side.graph) c.args.names.now (map text_of (words_view z)))
      c.deref.ensures.value c.in_ok-leads_back.ensures.back));
}
