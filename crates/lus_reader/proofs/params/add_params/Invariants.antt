use Rattle.std.proofs.Common.{◌≡◌, ◌++◌, map}
use Rattle.lus_tree.specs.View.{word_view, clock_view, param_view}
use Rattle.lus_grammar.specs.Programs.{variable_of}
use Rattle.lus_reader.proofs.params.add_params.Given as goal

abbrev pub invariant-loop-name : goal.invariant-loop-name
invariant-loop-name l = map param_view l.params.items ≡ map param_view l.initial.params.items ++ map
    (variable_of l.sort (clock_view l.clock)) (map word_view l.yielded)
