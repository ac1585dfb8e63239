use Rattle.std.proofs.Common.{◌≡◌, ◌++◌, ◌+◌, ◌-◌}
use Rattle.lus_tree.specs.Numbers.{counting}
use Rattle.sys_tables.proofs.sight.numbers_from.Given as goal

-- what is there, and what is to come, is all
abbrev pub invariant-loop-number : goal.invariant-loop-number
invariant-loop-number l = l.numbers.items ++ counting l.number ((l.first + l.count) - l.number) ≡ counting l.first l.count
