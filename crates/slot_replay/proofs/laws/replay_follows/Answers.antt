use Rattle.slot_replay.proofs.Followed.{told_first, within_agrees, within_breaks, within_going_on, within_lawful}
use Rattle.slot_replay.proofs.laws.replay_follows.Goals as goal

pub returns-clause-told : goal.returns-clause-told
returns-clause-told c = told_first

pub returns-clause-going_on : goal.returns-clause-going_on
returns-clause-going_on c = within_going_on

pub returns-clause-values : goal.returns-clause-values
returns-clause-values c = within_agrees

pub returns-clause-breaks : goal.returns-clause-breaks
returns-clause-breaks c = within_breaks

pub returns-clause-lawful : goal.returns-clause-lawful
returns-clause-lawful c = within_lawful
