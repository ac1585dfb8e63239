use Rattle.order_laws.proofs.Needed.{needed_names_come_before, needed_arguments_come_before}
use Rattle.order_laws.proofs.Inputs.{needed_inputs_come_before}
use Rattle.order_laws.proofs.Callers.{frame_inputs_come_before, frame_conditions_come_before}
use Rattle.order_laws.proofs.laws.needed_names_come_before.Goals as goal

pub returns-clause-names : goal.returns-clause-names
returns-clause-names c = needed_names_come_before

pub returns-clause-arguments : goal.returns-clause-arguments
returns-clause-arguments c = needed_arguments_come_before

pub returns-clause-inputs : goal.returns-clause-inputs
returns-clause-inputs c = needed_inputs_come_before

pub returns-clause-frame_inputs : goal.returns-clause-frame_inputs
returns-clause-frame_inputs c = frame_inputs_come_before

pub returns-clause-frame_conditions : goal.returns-clause-frame_conditions
returns-clause-frame_conditions c = frame_conditions_come_before
