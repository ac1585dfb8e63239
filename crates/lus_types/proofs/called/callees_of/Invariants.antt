use Rattle.std.proofs.Common.{◌≡◌, ◌++◌, drop, flat_map}
use Rattle.lus_types.specs.Called.{callee_of}
use Rattle.lus_types.specs.Sides.{sides_view}
use Rattle.lus_types.specs.Words.{words_view}
use Rattle.lus_types.proofs.called.callees_of.Given as goal

-- what is there, followed by what is to come, is all
abbrev pub invariant-loop-e : goal.invariant-loop-e
invariant-loop-e l = words_view l.words.items ++ flat_map callee_of (sides_view (drop l.e-index l.all)) ≡ flat_map callee_of (sides_view l.all)
