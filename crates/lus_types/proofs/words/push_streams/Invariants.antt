use Rattle.std.proofs.Common.{◌≡◌, ◌++◌, drop, map}
use Rattle.lus_tree.specs.View.{param_view}
use Rattle.lus_types.specs.Words.{words_view}
use Rattle.lus_types.proofs.words.push_streams.Given as goal

-- what is there, followed by what is to come, is all
abbrev pub invariant-loop-param : goal.invariant-loop-param
invariant-loop-param l = words_view l.words.items ++ map (λ v. v.name) (map param_view (drop l.param-index l.params))
    ≡ words_view l.initial.words.items ++ map (λ v. v.name) (map param_view l.params)
