use Rattle.std.proofs.Common.{◌∙◌, ◌++◌, ap, map, None}
use Rattle.lus_tree.specs.View.{param_view}
use Rattle.lus_grammar.specs.Programs.{group_of}
use Rattle.lus_reader.proofs.params.group.Goals as goal

pub returns-clause-run : goal.returns-clause-run
returns-clause-run c = λ n. let h = c.in_ok-next.ensures.run n in
    record { syntax = h.syntax; run = h.run; is = h.is ∙ ap (λ x. map param_view x ++ group_of None h.syntax) c.new-params.ensures.items }
