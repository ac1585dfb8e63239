use Rattle.std.proofs.Common.{◌≤◌}
use Rattle.lus_tree.specs.View.{program_view}
use Rattle.lus_scopes.specs.Least.{least_view}
use Rattle.lus_types.proofs.Circled.{OnDeclarations}
use Rattle.lus_types.proofs.Noted.{OnTables}
use Rattle.lus_types.proofs.walk.push_tables.Given as goal

abbrev pub invariant-loop-decl : goal.invariant-loop-decl
invariant-loop-decl l = record {
  within : l.known ≤ l.decl-index;
  noted : OnDeclarations (program_view l.setting.declarations.now) l.decls l.decl-index l.known (least_view l.initial.least)
      (least_view l.least);
  names : OnTables (program_view l.setting.declarations.now) l.decls l.decl-index l.known l.tables.items;
}
