use Rattle.std.proofs.Common.{◌≡◌, ◌++◌, drop, map}
use Rattle.lus_streams.specs.Owner.{owner_view}
use Rattle.sys_tables.specs.Tabled.{names_of}
use Rattle.sys_tables.proofs.tables.words_of.Given as goal

-- what is there, followed by what is to come, is all
abbrev pub invariant-loop-part : goal.invariant-loop-part
invariant-loop-part l = map (λ x. x.now) l.words.items ++ names_of (map owner_view (drop l.part-index l.parts)) ≡ names_of (map owner_view l.parts)
