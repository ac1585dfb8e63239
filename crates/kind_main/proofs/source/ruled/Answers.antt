use Rattle.std.proofs.Common.{rules, ◌≡◌, subst, Some, None, IfOk}
use Rattle.lus_tree.specs.View.{program_view}
use Rattle.lus_checked.specs.Main.{main_node}
use Rattle.lus_checked.specs.Program.{main_of}
use Rattle.kind_main.proofs.Ruling.{all_followed}
use Rattle.kind_main.proofs.source.ruled.Goals as goal

pub returns-clause-right : goal.returns-clause-right
returns-clause-right c =
    all_followed c.checked.result (program_view c.in_ok-clocked.clocked) (program_view c.args.program) (search rules)
    c.checked.ensures.rules c.checked.ensures.within

pub returns-clause-main : goal.returns-clause-main
returns-clause-main c =
    let same : program_view c.in_ok-clocked.clocked ≡ program_view c.args.program = search rules in
    subst (λ p. IfOk c.checked.result (λ k. main_node p None ≡ Some (main_of k))) same c.checked.ensures.main
