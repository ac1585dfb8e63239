-- The law of runs of a checked program.
use Rattle.lus_meaning.specs.Program.{instance_of}
use Rattle.lus_meaning.specs.Choices.{HasOneRun}
use Rattle.lus_meaning.specs.RuleLaws.{OfEach}

-- for choices that fit each declaration has exactly one run, on any beat
abbrev pub EachHasOneRun : Type 0
EachHasOneRun = OfEach (λ p n. HasOneRun (instance_of p n))
