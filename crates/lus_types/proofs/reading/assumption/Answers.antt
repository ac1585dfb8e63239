use Rattle.std.proofs.Common.{map, rules}
use Rattle.lus_tree.specs.View.{contract_item_view, param_view}
use Rattle.lus_scopes.specs.Least.{least_view}
use Rattle.lus_types.specs.Reads.{read_view}
use Rattle.lus_scopes.specs.Scopes.{scope_view}
use Rattle.lus_types.proofs.GivenNow.{read_noted}
use Rattle.lus_types.proofs.reading.assumption.Goals as goal

pub returns : goal.returns
returns c = λ fs i. read_noted (scope_view c.args.scope.now) c.in_ok-given.given.names c.in_ok-given.given.marks.items
    (map contract_item_view c.contract-items.result.now) (map param_view c.outputs-outputs.result.now)
    c.contract-items.ensures c.outputs-outputs.ensures c.in_ok-given.ensures
    (map read_view c.in_ok-reads.reads.items) c.in_ok-reads.ensures (least_view c.args.least.now) (least_view c.note_reads.new.least) fs
    (search rules) i
