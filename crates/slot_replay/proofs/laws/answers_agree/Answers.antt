use Rattle.slot_replay.proofs.Agreed.{breaks_agree, first_agree, lawful_agree, pasts_agree, within_true}
use Rattle.slot_replay.proofs.laws.answers_agree.Goals as goal

pub returns-clause-breaks : goal.returns-clause-breaks
returns-clause-breaks c = breaks_agree

pub returns-clause-lawful : goal.returns-clause-lawful
returns-clause-lawful c = lawful_agree

pub returns-clause-pasts : goal.returns-clause-pasts
returns-clause-pasts c = pasts_agree

pub returns-clause-first : goal.returns-clause-first
returns-clause-first c = first_agree

pub returns-clause-within : goal.returns-clause-within
returns-clause-within c = within_true
