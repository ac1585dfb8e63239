use Rattle.std.proofs.Common.{rules, arith, ◌≡◌, ◌<◌, true, false, length, slice_index_or}
use Rattle.std.proofs.lemmas.Grind.{common_steps}
use Rattle.sys_terms.specs.declared.term.Entry.TheVariants.{Flag}
use Rattle.sys_terms.specs.Fits.{is_narrow_entry}
use Rattle.kind_engine.proofs.Least.{narrow-step, first-large}
use Rattle.kind_engine.proofs.large.large_entry.Goals as goal

pub loop-number-preserved : goal.loop-number-preserved
loop-number-preserved c =
    let values = c.args.values.now in
    let n = c.loop-number.number in
    let below : n < length values = search (rules, arith) in
    let narrow : is_narrow_entry (slice_index_or values n (Flag false)) ≡ true = search rules in
    let before = c.loop-number.invariant.0 in
    (grind (arith, common_steps, before), narrow-step values n (Flag false) below c.loop-number.invariant.1 narrow)

pub returns-in-Some-clause-first : goal.returns-in-Some-clause-first
returns-in-Some-clause-first c = first-large c.args.values.now c.loop-number.number c.loop-number.invariant.1
