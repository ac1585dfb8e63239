use Rattle.std.specs.Prelude.{◌≡◌, take}
use Rattle.cert_rules.specs.View.{cites_view}
use Rattle.cert_rules.proofs.cited.copied_cites.Given as goal

abbrev pub invariant-loop-cited : goal.invariant-loop-cited
invariant-loop-cited l = cites_view l.copies.items ≡ cites_view (take l.cited-index l.cites)
