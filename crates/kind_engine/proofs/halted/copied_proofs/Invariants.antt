use Rattle.std.specs.Prelude.{◌≡◌, take}
use Rattle.cert_rules.specs.View.{proofs_view}
use Rattle.kind_engine.proofs.halted.copied_proofs.Given as goal

abbrev pub invariant-loop-proof : goal.invariant-loop-proof
invariant-loop-proof l = proofs_view l.copies.items ≡ proofs_view (take l.proof-index l.proofs)
