use Rattle.std.proofs.Common.{rules}
use Rattle.lus_tree.specs.View.{program_view}
use Rattle.lus_bounds.specs.Passed.{name_seen}
use Rattle.lus_checked.proofs.Joined.{main_there}
use Rattle.lus_checked.proofs.checking.checked_main.Goals as goal

pub unreachable-requires : goal.unreachable-requires
unreachable-requires c = main_there (program_view c.args.program.now) (name_seen c.args.main) c.requires.checked.rules.clocked.typed c.requires.within (search rules)
