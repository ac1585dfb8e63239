use Rattle.std.specs.Prelude.{◌≡◌, take}
use Rattle.sys_terms.specs.View.{terms_view}
use Rattle.cert_rules.specs.View.{cited_terms}
use Rattle.kind_engine.proofs.lemmas.terms_of.Given as goal

abbrev pub invariant-loop-cited : goal.invariant-loop-cited
invariant-loop-cited l = terms_view l.terms.items ≡ cited_terms (take l.cited-index l.cites)
