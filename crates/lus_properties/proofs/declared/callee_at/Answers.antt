use Rattle.std.proofs.Common.{rules}
use Rattle.lus_properties.proofs.Places.{callee_there, none_there}
use Rattle.lus_properties.proofs.declared.callee_at.Goals as goal

pub returns-then-place-calls : goal.returns-then-place-calls
returns-then-place-calls c = callee_there c.args.calls.now c.args.number c.saturating_sub-place.result c.index-calls-place.result c.deref.result.now
    (search rules) (search rules) c.index-calls-place.is (search rules)

pub returns-else-place-calls : goal.returns-else-place-calls
returns-else-place-calls c = none_there c.args.calls.now c.args.number c.saturating_sub-place.result (search rules) (search rules)
