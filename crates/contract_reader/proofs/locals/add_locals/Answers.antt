use Rattle.std.proofs.Common.{ap, ◌∙◌, Some}
use Rattle.contract_reader.specs.Begin.{locals_class}
use Rattle.contract_reader.proofs.Leads.{at_err, stops}
use Rattle.contract_reader.proofs.Variables.{into_constant, adds_constant}
use Rattle.contract_reader.proofs.locals.add_locals.Goals as goal

pub returns-in_err-next-in-Variables-clause-stop : goal.returns-in_err-next-in-Variables-clause-stop
returns-in_err-next-in-Variables-clause-stop c = at_err _ _ _ c.from_residual.ensures.1 (c.in_err-next-in-Variables.ensures.stop _)

pub returns-in_err-definition-in-Constant-clause-stop : goal.returns-in_err-definition-in-Constant-clause-stop
returns-in_err-definition-in-Constant-clause-stop c = at_err _ _ _ c.from_residual-in_err-definition-in-Constant.ensures.1
    (stops (into_constant _ _ _ (c.requires.word ∙ ap (λ z. Some (locals_class z)) c.in-Constant.is))
    c.in_err-definition-in-Constant.ensures.stop)

pub returns-in_ok-push-in-Constant-clause-run : goal.returns-in_ok-push-in-Constant-clause-run
returns-in_ok-push-in-Constant-clause-run c = adds_constant _ _ _ _
    (c.requires.word ∙ ap (λ z. Some (locals_class z)) c.in-Constant.is) c.in_ok-definition-in-Constant.ensures.run
    c.in_ok-push-in-Constant.ensures.items
