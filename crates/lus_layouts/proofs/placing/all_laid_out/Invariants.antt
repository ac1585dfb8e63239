use Rattle.std.proofs.Common.{◌≡◌, ◌++◌, drop, map}
use Rattle.lus_limits.specs.Framed.{frame_view}
use Rattle.lus_layouts.specs.Layouts.{laid_out, layout_view}
use Rattle.lus_layouts.proofs.placing.all_laid_out.Given as goal

-- what is there, followed by what is to come, is all
abbrev pub invariant-loop-frame : goal.invariant-loop-frame
invariant-loop-frame l = map layout_view l.layouts.items ++ map laid_out (map frame_view (drop l.frame-index l.frames))
    ≡ map laid_out (map frame_view l.frames)
