use Rattle.std.proofs.Common.{map}
use Rattle.lus_tree.specs.View.{named_view}
use Rattle.lus_meaning.specs.NameFaults.{flags_of}
use Rattle.lus_scopes.specs.Least.{least_view}
use Rattle.lus_scopes.specs.Scopes.{scope_view}
use Rattle.lus_scopes.proofs.Noting.{both_noted}
use Rattle.lus_scopes.proofs.contracts.note_mode.Goals as goal

pub returns : goal.returns
returns c =
    both_noted (least_view c.args.least.now) (least_view c.flags.new.least) (least_view c.flags-2.new.least)
    (flags_of (scope_view c.args.scope.now) (map named_view c.args.required.now))
    (flags_of (scope_view c.args.scope.now) (map named_view c.args.ensured.now)) c.flags.ensures c.flags-2.ensures
