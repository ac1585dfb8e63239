-- The law of frames of a checked program.
use Rattle.lus_meaning.specs.Program.{instance_of}
use Rattle.lus_meaning.specs.Choices.{HasOneFrame}
use Rattle.lus_meaning.specs.RuleLaws.{OfEach}

-- for a trace that fits each declaration has exactly one frame
abbrev pub EachHasOneFrame : Type 0
EachHasOneFrame = OfEach (λ p n. HasOneFrame (instance_of p n))
