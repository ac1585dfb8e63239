use Rattle.std.proofs.Common.{◌≡◌, ◌↔◌, true, List, map, sym, subst, ap, ◌∙◌}
use Rattle.lus_tree.specs.Tree.{Name, text_of}
use Rattle.lus_order.specs.Backs.{LeadsBack, any_marked}
use Rattle.number_graphs.specs.Graphs.{graph_view}
use Rattle.lus_order.specs.Names.{words_view}
use Rattle.lus_order.proofs.BackNames.{marks_back}
use Rattle.lus_order.proofs.circle_faults.leads_back.Goals as goal

pub returns-clause-back : goal.returns-clause-back
returns-clause-back c =
    let xs : List Name = map text_of (words_view c.args.words.now) in
    let e : c.any_marked.result ≡ any_marked c.in_ok-marks.marks.items c.args.names.now xs =
    c.any_marked.ensures ∙ ap (λ z. any_marked z c.args.names.now xs) c.deref.ensures.value in
    subst (λ b. (b ≡ true) ↔ LeadsBack (graph_view c.args.graph.now) c.args.names.now xs) (sym e)
    (marks_back (graph_view c.args.graph.now) c.args.names.now xs c.in_ok-row.row.items c.in_ok-marks.marks.items c.requires.closed c.requires.within
    c.in_ok-row.ensures c.in_ok-marks.ensures.reached)
