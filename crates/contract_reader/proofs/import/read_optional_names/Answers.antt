use Rattle.std.proofs.Common.{refl}
use Rattle.lus_grammar.specs.Phrase.{Names, part}
use Rattle.contract_reader.proofs.Leads.{at_err, here, stops, to_once}
use Rattle.contract_reader.proofs.Firsts.{told}
use Rattle.contract_reader.proofs.Imports.{some_names, no_names}
use Rattle.contract_reader.proofs.import.read_optional_names.Goals as goal

pub returns-in_err-words-clause-stop : goal.returns-in_err-words-clause-stop
returns-in_err-words-clause-stop c =
    let e = told (part Names) (c.class_at.ensures.class c.args.bytes.now) c.is_name.ensures c.if-is_name.true in
    at_err _ _ _ c.from_residual.ensures.1 (λ n. stops (to_once here e) (c.in_err-words.ensures.stop n))

pub returns-then-is_name-clause-run : goal.returns-then-is_name-clause-run
returns-then-is_name-clause-run c =
    let e = told (part Names) (c.class_at.ensures.class c.args.bytes.now) c.is_name.ensures c.if-is_name.true in
    λ n. some_names e (c.in_ok-words.ensures.run n)

pub returns-clause-run : goal.returns-clause-run
returns-clause-run c =
    let e = told (part Names) (c.class_at.ensures.class c.args.bytes.now) c.is_name.ensures c.if-is_name.false in
    λ n. no_names e (rw c.new.ensures.items refl)
