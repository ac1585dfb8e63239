use Rattle.std.specs.Prelude.{◌≡◌, true}
use Rattle.std.proofs.Common.{ap, ◌∙◌, subst}
use Rattle.int_simplex.specs.Inner.{state_of}
use Rattle.int_simplex.specs.OnRows.{AreOnRows}
use Rattle.int_simplex.proofs.OnRows.{on_rows}
use Rattle.int_simplex.proofs.table.Tableau.columns.Goals as goal

pub returns-clause-on_rows : goal.returns-clause-on_rows
returns-clause-on_rows c =
    let u : c.self.inside.usable ≡ true = ap (λ s. s.usable) c.self.view_is ∙ c.requires in
    subst AreOnRows c.self.view_is (on_rows (state_of c.self.inside) (c.self.invariant.sound u) (c.self.invariant.free u))
