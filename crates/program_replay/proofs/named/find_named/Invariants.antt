use Rattle.std.proofs.Common.{◌≡◌, ◌≤◌, drop, map}
use Rattle.lus_tree.specs.View.{decl_view, program_view}
use Rattle.program_replay.specs.Named.{numbers_from}
use Rattle.program_replay.proofs.named.find_named.Given as goal

-- those to come decide, and there are no more numbers than places before
abbrev pub invariant-loop-decl : goal.invariant-loop-decl
invariant-loop-decl l = record {
  same : numbers_from l.number l.place l.name (map decl_view (drop l.decl-index l.program.decls.items)) ≡ numbers_from 0 0 l.name (program_view l.program);
  fewer : l.number ≤ l.decl-index;
  less : l.place ≤ l.decl-index;
}
