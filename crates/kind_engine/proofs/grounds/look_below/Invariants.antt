use Rattle.std.specs.Prelude.{◌≡◌, length}
use Rattle.sys_terms.specs.View.{system_view, terms_view}
use Rattle.cert_rules.specs.View.{proofs_view}
use Rattle.cert_rules.specs.Facts.{AreBases}
use Rattle.kind_engine.proofs.grounds.look_below.Given as goal

-- the instants before this one are refuted
abbrev pub invariant-loop-instant : goal.invariant-loop-instant
invariant-loop-instant l = record {
  count : length l.proofs.items ≡ l.instant;
  refuted : AreBases (system_view l.subject.system) l.property (terms_view l.terms) 0 (proofs_view l.proofs.items);
}
