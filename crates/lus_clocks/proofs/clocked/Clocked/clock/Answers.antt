use Rattle.std.proofs.Common.{◌≡◌, ◌<◌, ◌≤◌, arith, ap, subst, sym, ◌∙◌, length, None, unwrap_or}
use Rattle.lus_tree.specs.View.{program_view}
use Rattle.lus_meaning.specs.Scene.{base}
use Rattle.lus_clocks.specs.Table.{kept}
use Rattle.lus_clocks.specs.Program.{KeepAll, program_clock}
use Rattle.lus_clocks.proofs.Written.{no_table, table_there}
use Rattle.lus_clocks.proofs.clocked.Clocked.clock.Goals as goal

pub returns-in-Some : goal.returns-in-Some
returns-in-Some c =
    let l : c.args.declaration < length c.deref.result.now = grind (arith, c.in-Some.ensures.lookup.0) in
    let k : KeepAll c.deref.result.now (program_view c.self.inside.typed) =
    subst (λ ts. KeepAll ts (program_view c.self.inside.typed)) (sym c.deref.ensures.value) c.self.invariant.1 in
    c.clock.ensures
    ∙ ap (λ o. unwrap_or o base)
    (subst (λ p. kept c.in-Some.table.now c.args.occurrence ≡ program_clock (program_view p) c.args.declaration c.args.occurrence) c.self.view_is
    (table_there c.args.occurrence c.deref.result.now (program_view c.self.inside.typed) c.args.declaration c.in-Some.table.now k l
    c.in-Some.ensures.lookup.1))

pub returns-in-None : goal.returns-in-None
returns-in-None c =
    let l : length c.deref.result.now ≤ c.args.declaration = grind (arith, c.in-None.ensures.lookup.0) in
    let k : KeepAll c.deref.result.now (program_view c.self.inside.typed) =
    subst (λ ts. KeepAll ts (program_view c.self.inside.typed)) (sym c.deref.ensures.value) c.self.invariant.1 in
    sym (ap (λ o. unwrap_or o base)
    (subst (λ p. program_clock (program_view p) c.args.declaration c.args.occurrence ≡ None) c.self.view_is
    (no_table c.args.occurrence c.deref.result.now (program_view c.self.inside.typed) c.args.declaration k l)))
