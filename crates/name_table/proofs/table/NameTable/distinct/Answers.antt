use Rattle.std.proofs.Common.{rules}
use Rattle.name_table.proofs.Names.{repeated}
use Rattle.name_table.proofs.table.NameTable.distinct.Goals as goal

pub returns-then-not-branch : goal.returns-then-not-branch
returns-then-not-branch c = repeated c.loop-name.table c.args.names.now c.loop-name.name-index _
    (search rules) c.loop-name.invariant.names c.in_ok-add.field-0 c.in_ok-add.ensures.new c.if-not-branch.true
