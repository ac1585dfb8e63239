use Rattle.std.proofs.Common.{ap, ◌∙◌, Some}
use Rattle.contract_reader.specs.Begin.{mode_item_class}
use Rattle.contract_reader.proofs.Leads.{at_err, stops}
use Rattle.contract_reader.proofs.ModeItems.{into_mode_item, adds_require, adds_ensure}
use Rattle.contract_reader.proofs.mode.add_mode_item.Goals as goal

pub returns-in_err-named-clause-stop : goal.returns-in_err-named-clause-stop
returns-in_err-named-clause-stop c = at_err _ _ _ c.from_residual.ensures.1 (stops (into_mode_item _ _ _ _ c.requires.word) c.in_err-named.ensures.stop)

pub returns-in_ok-push-in-Require-clause-run : goal.returns-in_ok-push-in-Require-clause-run
returns-in_ok-push-in-Require-clause-run c = adds_require _ _ _ _
    (c.requires.word ∙ ap (λ z. Some (mode_item_class z)) c.in-Require.is) c.in_ok-named.ensures.run c.in_ok-push-in-Require.ensures.items

pub returns-in_ok-push-in-Ensure-clause-run : goal.returns-in_ok-push-in-Ensure-clause-run
returns-in_ok-push-in-Ensure-clause-run c = adds_ensure _ _ _ _ (c.requires.word ∙ ap (λ z. Some (mode_item_class z)) c.in-Ensure.is)
    c.in_ok-named.ensures.run c.in_ok-push-in-Ensure.ensures.items
