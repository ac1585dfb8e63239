use Rattle.std.specs.Prelude.{◌≡◌, take}
use Rattle.kind_engine.specs.Halts.{paths_view}
use Rattle.kind_engine.proofs.halted.copied_paths.Given as goal

abbrev pub invariant-loop-path : goal.invariant-loop-path
invariant-loop-path l = paths_view l.copies.items ≡ paths_view (take l.path-index l.paths)
