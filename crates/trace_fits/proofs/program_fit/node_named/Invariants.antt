use Rattle.std.proofs.Common.{◌≡◌, drop, map}
use Rattle.lus_tree.specs.Lookup.{nodes_of}
use Rattle.lus_tree.specs.View.{decl_view, program_view}
use Rattle.lus_meaning.specs.Fits.{first_named}
use Rattle.trace_fits.proofs.program_fit.node_named.Given as goal

-- those to come decide
abbrev pub invariant-loop-decl : goal.invariant-loop-decl
invariant-loop-decl l =
    first_named l.name (nodes_of (map decl_view (drop l.decl-index l.program.decls.items))) ≡ first_named l.name (nodes_of (program_view l.program))
