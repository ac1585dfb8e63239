use Rattle.std.proofs.Common.{map, ap, sym, subst, ◌∙◌}
use Rattle.lus_tree.specs.Tree.{Program}
use Rattle.lus_tree.specs.Lookup.{nodes_of}
use Rattle.lus_tree.specs.View.{decl_view, program_view}
use Rattle.lus_meaning.specs.ClockFaults.{components}
use Rattle.lus_order.specs.Checked.{AreLeastOrders}
use Rattle.lus_order.specs.Dependences.{reads_seen}
use Rattle.lus_order.specs.OutputReads.{AreAllReads}
use Rattle.lus_bounds.specs.Passed.{name_seen}
use Rattle.lus_checked.specs.Reads.{node_reads}
use Rattle.lus_checked.proofs.Joined.{checked_with}
use Rattle.lus_checked.proofs.OutputReads.{reads_of_nodes}
use Rattle.lus_checked.proofs.checking.kept.Goals as goal

pub returns-clause-kept : goal.returns-clause-kept
returns-clause-kept c =
    let p : Program = program_view c.args.program.now in
    checked_with (program_view c.args.program.now) (name_seen c.args.main) _ c.requires.checked c.requires.within c.in_ok-main.ensures
    (subst (AreLeastOrders (program_view c.args.program.now) (components (program_view c.args.program.now))) (sym c.in_ok-orders.ensures) c.requires.orders)
    (c.in_ok-widths.ensures ∙ c.requires.widths) c.in_ok-properties.ensures
    (subst (AreAllReads p (nodes_of p)) (sym (c.in_ok-reads.ensures ∙ ap (λ ds. node_reads (reads_seen c.args.found.now) 0 (map decl_view ds)) c.deref.ensures.value))
    (reads_of_nodes p (reads_seen c.args.found.now) 0 p c.requires.reads))
