use Rattle.std.proofs.Common.{◌≡◌, ◌<◌, ap, sym, ◌∙◌, length, arith}
use Rattle.lus_grammar.specs.Source.{AreTokens}
use Rattle.lus_reader.proofs.Cuts.{tokens_small}
use Rattle.contract_reader.proofs.Leads.{at_err}
use Rattle.contract_reader.proofs.Sources.{is_source, is_outside, is_behind}
use Rattle.contract_reader.proofs.program.read_program.Goals as goal

pub read_declarations-requires-clause-few : goal.read_declarations-requires-clause-few
read_declarations-requires-clause-few c =
    let cut : AreTokens c.args.bytes.now c.deref.result.now = rw c.deref.ensures.value c.in_ok-tokens.ensures.tokens in
    omega (arith, tokens_small _ _ cut, c.requires)

pub returns-in_err-program-clause-refused : goal.returns-in_err-program-clause-refused
returns-in_err-program-clause-refused c =
    let cut : AreTokens c.args.bytes.now c.deref.result.now = rw c.deref.ensures.value c.in_ok-tokens.ensures.tokens in
    at_err _ _ _ c.from_residual-in_err-program.ensures.1 (is_outside _ _ _ cut c.in_err-program.ensures.stop)

pub returns-then-next-len-clause-refused : goal.returns-then-next-len-clause-refused
returns-then-next-len-clause-refused c =
    let cut : AreTokens c.args.bytes.now c.deref.result.now = rw c.deref.ensures.value c.in_ok-tokens.ensures.tokens in
    let l = ap length c.deref.ensures.value in
    let h = rw (c.deref-then-next-len.ensures.value ∙ sym c.deref.ensures.value) at c.refusal_at.ensures in
    let lt : c.in_ok-program.next < length c.deref.result.now = omega arith in
    is_behind _ _ _ _ _ _ cut c.in_ok-program.ensures.run lt h

pub returns-clause-found : goal.returns-clause-found
returns-clause-found c =
    let cut : AreTokens c.args.bytes.now c.deref.result.now = rw c.deref.ensures.value c.in_ok-tokens.ensures.tokens in
    let l = ap length c.deref.ensures.value in
    let e : c.in_ok-program.next ≡ length c.deref.result.now = omega (arith, c.in_ok-program.ensures.inside) in
    is_source _ _ _ _ _ cut c.in_ok-program.ensures.run e
