use Rattle.lus_tree.specs.View.{program_view}
use Rattle.lus_meaning.specs.Limits.{size_faults}
use Rattle.lus_bounds.specs.Passed.{name_seen}
use Rattle.lus_bounds.proofs.FirstPassed.{fault_told, first_told, within_limits}
use Rattle.lus_bounds.proofs.Widths.{widths_told}
use Rattle.lus_bounds.proofs.checks.limits.Goals as goal

pub returns-in-Ok : goal.returns-in-Ok
returns-in-Ok c = record {
  within = within_limits (program_view c.args.program.now) (name_seen c.args.main) c.unless_faulty.result
      (c.unless_faulty.ensures.told (size_faults (program_view c.args.program.now) (name_seen c.args.main)) c.in-Ok.ensures.least);
  faulty = fault_told (program_view c.args.program.now) (name_seen c.args.main) c.unless_faulty.result
      (c.unless_faulty.ensures.told (size_faults (program_view c.args.program.now) (name_seen c.args.main)) c.in-Ok.ensures.least);
  refused = first_told (program_view c.args.program.now) (name_seen c.args.main) c.unless_faulty.result
      (c.unless_faulty.ensures.told (size_faults (program_view c.args.program.now) (name_seen c.args.main)) c.in-Ok.ensures.least);
  widths = widths_told (program_view c.args.program.now) (name_seen c.args.main) (λ v. v.items) c.unless_faulty.result
      (c.unless_faulty.ensures.told (size_faults (program_view c.args.program.now) (name_seen c.args.main)) c.in-Ok.ensures.least)
      c.in-Ok.found.widths.items c.unless_faulty.ensures.widths c.in-Ok.ensures.widths;
}
