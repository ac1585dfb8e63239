use Rattle.std.proofs.Common.{◌≡◌, drop, map}
use Rattle.frame_names.specs.Views.{known_view}
use Rattle.frame_names.specs.Walk.{analysed, walked}
use Rattle.frame_names.proofs.walk.walked.Given as goal

-- the rest of the way leads from here where the whole one leads
abbrev pub invariant-loop-number : goal.invariant-loop-number
invariant-loop-number l = walked (map known_view l.all) (drop l.number-index l.way) l.standing ≡ walked (map known_view l.all) l.way (analysed l.root)
