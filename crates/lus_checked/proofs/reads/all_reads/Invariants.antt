use Rattle.std.proofs.Common.{◌≡◌, ◌≤◌, ◌++◌, drop, map}
use Rattle.lus_tree.specs.View.{decl_view}
use Rattle.lus_order.specs.Dependences.{reads_seen}
use Rattle.lus_checked.specs.Reads.{node_reads, kept_reads}
use Rattle.lus_checked.proofs.reads.all_reads.Given as goal

-- what is there, followed by what is to come, is all
abbrev pub invariant-loop-decl : goal.invariant-loop-decl
invariant-loop-decl l = record {
  few : l.before ≤ l.decl-index;
  listed : kept_reads l.all.items ++ node_reads (reads_seen l.found) l.before (map decl_view (drop l.decl-index l.decls))
      ≡ node_reads (reads_seen l.found) 0 (map decl_view l.decls);
}
