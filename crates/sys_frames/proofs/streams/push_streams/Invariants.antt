use Rattle.std.proofs.Common.{◌≡◌, ◌++◌, map, drop}
use Rattle.sys_parts.specs.Parts.{part_view}
use Rattle.sys_tables.specs.Views.{named_view}
use Rattle.sys_terms.specs.View.{terms_view}
use Rattle.sys_texts.specs.Views.{modes_view, sight_view}
use Rattle.sys_frames.specs.Streams.{streams_here}
use Rattle.sys_frames.proofs.streams.push_streams.Given as goal

-- what is there, and what is to come, is all
abbrev pub invariant-loop-place : goal.invariant-loop-place
invariant-loop-place l =
    terms_view l.formulas.items ++ streams_here (sight_view l.sight) (modes_view l.modes) (map named_view (drop l.place l.streams))
    (drop l.place (map part_view l.given))
    ≡ terms_view l.initial.formulas.items ++ streams_here (sight_view l.sight) (modes_view l.modes) (map named_view l.streams) (map part_view l.given)
