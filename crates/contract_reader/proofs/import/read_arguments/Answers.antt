use Rattle.std.proofs.Common.{refl}
use Rattle.lus_grammar.specs.Phrase.{Arguments, part}
use Rattle.contract_reader.proofs.Leads.{at_err, behind, stops, stops_first}
use Rattle.contract_reader.proofs.Firsts.{told}
use Rattle.contract_reader.proofs.Imports.{into_arguments, some_arguments, no_arguments}
use Rattle.contract_reader.proofs.import.read_arguments.Goals as goal

pub returns-in_err-first-clause-stop : goal.returns-in_err-first-clause-stop
returns-in_err-first-clause-stop c =
    let e = told (part Arguments) (c.class_at.ensures.class c.args.bytes.now) c.begins_expression.ensures c.if-begins_expression.true in
    at_err _ _ _ c.from_residual.ensures.1 (stops_first (into_arguments _ _ _ e) c.in_err-first.ensures.stop)

pub returns-in_err-next-clause-stop : goal.returns-in_err-next-clause-stop
returns-in_err-next-clause-stop c =
    let e = told (part Arguments) (c.class_at.ensures.class c.args.bytes.now) c.begins_expression.ensures c.if-begins_expression.true in
    at_err _ _ _ c.from_residual-in_err-next.ensures.1 (stops (behind (into_arguments _ _ _ e) c.in_ok-first.ensures.run.run) c.in_err-next.ensures.stop)

pub returns-then-begins_expression-clause-run : goal.returns-then-begins_expression-clause-run
returns-then-begins_expression-clause-run c =
    let e = told (part Arguments) (c.class_at.ensures.class c.args.bytes.now) c.begins_expression.ensures c.if-begins_expression.true in
    some_arguments _ _ _ e c.new-arguments.ensures.items c.in_ok-push.ensures.items c.in_ok-first.ensures.run c.in_ok-next.ensures.run

pub returns-clause-run : goal.returns-clause-run
returns-clause-run c =
    let e = told (part Arguments) (c.class_at.ensures.class c.args.bytes.now) c.begins_expression.ensures c.if-begins_expression.false in
    no_arguments e (rw c.new-arguments.ensures.items refl)
