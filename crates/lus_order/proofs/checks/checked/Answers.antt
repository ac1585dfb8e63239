use Rattle.std.proofs.Common.{◌≡◌, ap, ◌∙◌, subst, map, flat_map}
use Rattle.lus_tree.specs.View.{program_view}
use Rattle.lus_meaning.specs.ClockFaults.{components}
use Rattle.lus_meaning.specs.EquationFaults.{left_faults}
use Rattle.lus_scopes.specs.Least.{least_view}
use Rattle.lus_scopes.specs.Notes.{Notes}
use Rattle.lus_order.specs.Checked.{AllNoted, AreOrdered}
use Rattle.lus_order.specs.Dependences.{orders_seen, reads_seen}
use Rattle.lus_order.specs.Library.{library_view}
use Rattle.lus_order.specs.OutputReads.{AreReadsByOwn}
use Rattle.lus_streams.specs.Owner.{owner_view}
use Rattle.lus_order.proofs.AllOrdered.{no_faults_least, program_checked, owners_stand}
use Rattle.lus_order.proofs.OutputReads.{program_reads}
use Rattle.lus_order.proofs.checks.checked.Goals as goal

pub all_ordered-requires : goal.all_ordered-requires
all_ordered-requires c = record {
  distinct = owners_stand (program_view c.args.program.now) c.requires.typed (map owner_view c.deref.result.now)
      (ap (map owner_view) c.deref.ensures.value ∙ c.in_ok-owners.ensures);
  flags = c.in_ok-library.ensures.flags;
}

pub returns : goal.returns
returns c =
    let same : map owner_view c.deref.result.now ≡ components (program_view c.args.program.now) =
    ap (map owner_view) c.deref.ensures.value ∙ c.in_ok-owners.ensures in
    record {
      checked = program_checked (program_view c.args.program.now) c.requires.grammatical c.requires.typed c.in_ok-library.library c.in_ok-library.ensures
          (least_view c.left_names.new.least) (least_view c.all_ordered.new.least) (orders_seen c.in_ok-all.all.items)
          (subst (λ o. Notes o (least_view c.left_names.new.least) (flat_map left_faults (components (program_view c.args.program.now)))) c.new-least.ensures
          c.in_ok-left_names.ensures)
          no_faults_least
          (subst (λ ns. AllNoted ns (library_view c.in_ok-library.library) (least_view c.left_names.new.least) (least_view c.all_ordered.new.least)) same
          c.in_ok-all.ensures.noted)
          (subst (λ ns. AreOrdered (library_view c.in_ok-library.library) ns (orders_seen c.in_ok-all.all.items)) same c.in_ok-all.ensures.orders);
      reads = program_reads (program_view c.args.program.now) c.requires.grammatical c.requires.typed c.in_ok-library.library c.in_ok-library.ensures
          (reads_seen c.in_ok-all.all.items)
          (subst (λ ns. AreReadsByOwn (library_view c.in_ok-library.library) ns (reads_seen c.in_ok-all.all.items)) same c.in_ok-all.ensures.reads);
    }
