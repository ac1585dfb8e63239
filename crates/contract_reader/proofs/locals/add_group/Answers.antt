use Rattle.std.proofs.Common.{◌∙◌, ◌++◌, ap, map, sym}
use Rattle.std.proofs.lemmas.List.{map-append}
use Rattle.lus_tree.specs.View.{param_view}
use Rattle.contract_reader.proofs.Leads.{at_err, here, behind, stops, stops_first}
use Rattle.contract_reader.proofs.locals.add_group.Goals as goal

pub returns-in_err-group-clause-stop : goal.returns-in_err-group-clause-stop
returns-in_err-group-clause-stop c = at_err _ _ _ c.from_residual.ensures.1 (λ n. stops_first here (c.in_err-group.ensures.stop n))

pub returns-in_err-group-clause-stop_before : goal.returns-in_err-group-clause-stop_before
returns-in_err-group-clause-stop_before c = at_err _ _ _ c.from_residual.ensures.1 (λ n h. stops_first here (c.in_err-group.ensures.stop n))

pub returns-in_err-next-clause-stop : goal.returns-in_err-next-clause-stop
returns-in_err-next-clause-stop c = at_err _ _ _ c.from_residual-in_err-next.ensures.1
    (λ n. stops (behind here (c.in_ok-group.ensures.run n).run) (c.in_err-next.ensures.stop n))

pub returns-in_err-next-clause-stop_before : goal.returns-in_err-next-clause-stop_before
returns-in_err-next-clause-stop_before c = at_err _ _ _ c.from_residual-in_err-next.ensures.1
    (λ n h. stops_first (behind here (c.in_ok-group.ensures.run n).run) (c.in_err-next.ensures.stop n))

pub returns-clause-run : goal.returns-clause-run
returns-clause-run c = λ n. let h = c.in_ok-group.ensures.run n in record {
  k = c.in_ok-group.end;
  group = _;
  run = h.run;
  mark = _;
  ends = c.in_ok-next.ensures.run n;
  is = sym (ap (map param_view) c.in_ok-append.ensures.items ∙ map-append param_view c.args.variables.now.items c.in_ok-group.group.items
      ∙ ap (λ x. map param_view c.args.variables.now.items ++ x) h.is);
}
