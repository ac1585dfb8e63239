use Rattle.std.proofs.Common.{◌≡◌, ◌++◌, drop, map}
use Rattle.lus_meaning.specs.WellMade.{AreDistinct}
use Rattle.name_table.proofs.table.NameTable.distinct.Given as goal

-- what is there, followed by what is to come, is all
abbrev pub invariant-loop-name : goal.invariant-loop-name
invariant-loop-name l = record {
  names : l.table ++ map (λ x. x.now) (drop l.name-index l.names) ≡ map (λ x. x.now) l.names;
  distinct : AreDistinct l.table;
}
