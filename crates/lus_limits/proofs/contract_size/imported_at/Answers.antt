use Rattle.std.proofs.Common.{◌≡◌, arith}
use Rattle.std.specs.Prelude.{pred}
use Rattle.lus_limits.proofs.Contracted.{contract_placed}
use Rattle.lus_limits.proofs.contract_size.imported_at.Goals as goal

pub returns-then-place-links : goal.returns-then-place-links
returns-then-place-links c =
    let e : c.saturating_sub-place.result ≡ pred c.args.number = omega (arith, c.saturating_sub-place.ensures) in
    contract_placed c.args.links.now c.saturating_sub-place.result c.args.number c.index-links-place.result c.if-place-links.true e
