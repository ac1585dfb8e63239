use Rattle.std.proofs.Common.{◌≡◌, [], map, drop}
use Rattle.lus_tree.specs.View.{decl_view}
use Rattle.lus_meaning.specs.Program.{program_constants}
use Rattle.sys_tables.specs.Known.{IsBare, values_seen}
use Rattle.sys_tables.specs.Tabled.{small_values}
use Rattle.sys_tables.proofs.constants.outer_constants.Given as goal

-- what is there, and what is to come, is all
abbrev pub invariant-loop-decl : goal.invariant-loop-decl
invariant-loop-decl l = record {
  values : small_values (values_seen l.known) (program_constants (map decl_view (drop l.decl-index l.program.decls.items)))
      ≡ small_values [] (program_constants (map decl_view l.program.decls.items));
  bare : IsBare l.known;
}
