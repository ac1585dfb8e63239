use Rattle.std.proofs.Common.{◌∙◌, ◌++◌, ap, map, None, Option, List, Bool}
use Rattle.lus_tree.specs.Tree.{Spelled, Variable}
use Rattle.lus_tree.specs.View.{param_view}
use Rattle.lus_reader.proofs.params.add_group.Goals as goal

pub returns-clause-run : goal.returns-clause-run
returns-clause-run c = λ n.
    let t = c.in_ok-names.ensures.run n in
    record {
      syntax = t.syntax;
      run = t.run;
      is = c.in_ok-add_params.ensures.params ∙ ap
          (λ (f : Option (Bool × Spelled) → List Variable). map param_view c.args.params.now.items ++ f None) t.is;
    }
