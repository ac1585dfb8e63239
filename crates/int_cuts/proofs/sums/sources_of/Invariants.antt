use Rattle.std.specs.Prelude.{◌≡◌, take}
use Rattle.int_cuts.specs.Parts.{parts_line}
use Rattle.int_cuts.proofs.sums.sources_of.Given as goal

abbrev pub invariant-loop-p : goal.invariant-loop-p
invariant-loop-p l = l.sources.items ≡ parts_line (take l.p-index l.parts)
