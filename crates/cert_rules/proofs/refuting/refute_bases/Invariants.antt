use Rattle.std.specs.Prelude.{◌≡◌, drop}
use Rattle.sys_terms.specs.View.{terms_view, system_view}
use Rattle.cert_rules.specs.View.{proofs_view}
use Rattle.cert_rules.specs.Faults.{bases_fault}
use Rattle.cert_rules.proofs.refuting.refute_bases.Given as goal

-- what is left to refute breaks what all breaks
abbrev pub invariant-loop-i : goal.invariant-loop-i
invariant-loop-i l =
    bases_fault (system_view l.system) l.property (terms_view l.cites) l.i (proofs_view (drop l.i l.proofs))
    ≡ bases_fault (system_view l.fn.system) l.fn.property (terms_view l.fn.cites) 0 (proofs_view l.fn.proofs)
