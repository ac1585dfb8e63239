use Rattle.std.proofs.Common.{◌≡◌, ◌∙◌, ◌++◌, ap, map, Option, List, Bool}
use Rattle.lus_tree.specs.View.{clock_view, param_view, word_view}
use Rattle.lus_tree.specs.Tree.{Spelled, Variable}
use Rattle.lus_grammar.specs.Phrase as P
use Rattle.lus_grammar.specs.Syntax.{node, ◌·◌}
use Rattle.lus_grammar.specs.Programs.{clock_of, group_of, variable_of}
use Rattle.lus_reader.proofs.Stops.{at_err, refuses_by}
use Rattle.lus_grammar.specs.Run.{line, line_stop, both, first_stop, second_stop}
use Rattle.lus_reader.proofs.params.add_local_group.Goals as goal

pub returns-in_err-names-clause-stop : goal.returns-in_err-names-clause-stop
returns-in_err-names-clause-stop c = at_err _ _ _ c.from_residual.ensures.1
    (λ n. refuses_by (λ d k u. line_stop (first_stop u)) (c.in_err-names.ensures.stop n))

pub returns-in_err-clock-clause-stop : goal.returns-in_err-clock-clause-stop
returns-in_err-clock-clause-stop c = at_err _ _ _ c.from_residual-in_err-clock.ensures.1 (λ n.
    let r = c.in_ok-names.ensures.run n in
    refuses_by (λ d k u. line_stop (second_stop r.run u)) (c.in_err-clock.ensures.stop n))

pub returns-clause-run : goal.returns-clause-run
returns-clause-run c = λ n.
    let t = c.in_ok-names.ensures.run n in
    let k = c.in_ok-clock.ensures.run n in
    let e : (map param_view c.args.params.now.items ++ map (variable_of c.in_ok-names.sort (clock_view c.in_ok-clock.clock))
    (map word_view c.in_ok-names.names.items)) ≡ (map param_view c.args.params.now.items ++ group_of (clock_of k.syntax) t.syntax)
    = ap (λ (f : Option (Bool × Spelled) → List Variable). map param_view c.args.params.now.items ++ f (clock_view c.in_ok-clock.clock))
    t.is ∙ ap (λ (x : Option (Bool × Spelled)). map param_view c.args.params.now.items ++ group_of x t.syntax) k.is in
    record { syntax = node P.LocalGroup (t.syntax · k.syntax); run = line (both t.run k.run); is = c.in_ok-add_params.ensures.params ∙ e }
