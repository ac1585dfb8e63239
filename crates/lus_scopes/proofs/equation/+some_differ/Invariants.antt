use Rattle.std.proofs.Common.{length}
use Rattle.lus_scopes.proofs.equation.+some_differ.Given as goal

abbrev pub decreases-some_differ : goal.decreases-some_differ
decreases-some_differ l = length l.words.now
