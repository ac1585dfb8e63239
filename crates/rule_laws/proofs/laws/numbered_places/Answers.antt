use Rattle.rule_laws.proofs.Places.{calls_in_place, imports_in_place, firsts_in_place, memories_found, starts_found}
use Rattle.rule_laws.proofs.laws.numbered_places.Goals as goal

pub returns-clause-calls : goal.returns-clause-calls
returns-clause-calls c = calls_in_place

pub returns-clause-imports : goal.returns-clause-imports
returns-clause-imports c = imports_in_place

pub returns-clause-firsts : goal.returns-clause-firsts
returns-clause-firsts c = firsts_in_place

pub returns-clause-memories : goal.returns-clause-memories
returns-clause-memories c = memories_found

pub returns-clause-starts : goal.returns-clause-starts
returns-clause-starts c = starts_found
