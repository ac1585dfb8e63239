use Rattle.std.proofs.Common.{◌≡◌, ◌≤◌, drop, map}
use Rattle.lus_tree.specs.View.{decl_view}
use Rattle.lus_scopes.specs.Least.{least_view, noted_all}
use Rattle.lus_bounds.specs.Passed.{limit_faults_by}
use Rattle.lus_bounds.proofs.faults.note_limits.Given as goal

-- what was noted, followed by what is to come, is all
abbrev pub invariant-loop-decl : goal.invariant-loop-decl
invariant-loop-decl l = record {
  few : l.before ≤ l.decl-index;
  noted : noted_all (least_view l.least) (limit_faults_by l.sizes l.before (map decl_view (drop l.decl-index l.decls)))
      ≡ noted_all (least_view l.initial.least) (limit_faults_by l.sizes 0 (map decl_view l.decls));
}
