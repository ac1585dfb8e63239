use Rattle.std.specs.Prelude.{◌≡◌, count_by, refl}
use Rattle.std.proofs.Common.{ap, arith}
use Rattle.sat_core.specs.Charged.{due, is_due}
use Rattle.sat_core.proofs.Kept.{kept_pairs}
use Rattle.sat_core.proofs.Worked.{worked_none}
use Rattle.sat_core.proofs.Visits.{forgotten, entry_number}
use Rattle.sat_core.proofs.visiting.visit_entry.Goals as goal

pub other-requires-clause-positive : goal.other-requires-clause-positive
other-requires-clause-positive c = let k = c.args.clauses.now in
    (entry_number k c.args.assignment.now c.requires.is_trail c.args.watches.now c.args.head c.args.literal c.args.at c.requires.visiting
    c.entry-number.result c.entry-number.ensures).0

pub other-requires-clause-within : goal.other-requires-clause-within
other-requires-clause-within c = let k = c.args.clauses.now in
    let n = (entry_number k c.args.assignment.now c.requires.is_trail c.args.watches.now c.args.head c.args.literal c.args.at c.requires.visiting
    c.entry-number.result c.entry-number.ensures).1 in
    let m = c.requires.visiting.watched.watching.count in omega arith

pub returns-in-None-clause-visit : goal.returns-in-None-clause-visit
returns-in-None-clause-visit c = let k = c.args.clauses.now in
    forgotten k c.args.assignment.now c.requires.is_trail c.args.watches.now c.args.head c.args.literal c.args.at c.requires.visiting
    c.entry-number.result c.entry-number.ensures c.forget.new.self c.forget.ensures c.in-None.ensures

pub returns-in-None-clause-kept : goal.returns-in-None-clause-kept
returns-in-None-clause-kept c = kept_pairs c.args.assignment.now c.args.head c.args.watches.now c.forget.new.self c.forget.ensures.pairs

pub returns-in-None-clause-looks : goal.returns-in-None-clause-looks
returns-in-None-clause-looks c =
    let e : due c.args.assignment.now c.forget.new.self c.args.literal ≡ due c.args.assignment.now c.args.watches.now c.args.literal =
    ap (count_by (is_due c.args.assignment.now c.args.literal)) c.forget.ensures.pairs in (omega arith, omega arith)

pub returns-in-None-clause-worked : goal.returns-in-None-clause-worked
returns-in-None-clause-worked c = λ before. worked_none c.args.assignment.now c.args.assignment.now c.args.watches.now c.forget.new.self refl
    c.forget.ensures.pairs
