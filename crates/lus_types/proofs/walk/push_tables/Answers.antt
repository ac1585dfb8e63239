use Rattle.std.proofs.Common.{arith, subst, sym, ◌+◌, ◌≤◌}
use Rattle.lus_tree.specs.View.{decl_view, program_view}
use Rattle.lus_scopes.specs.Least.{least_view}
use Rattle.lus_types.proofs.Circled.{after_most, declarations_end, declarations_next}
use Rattle.lus_types.proofs.Noted.{tables_end, tables_next}
use Rattle.lus_types.proofs.walk.push_tables.Goals as goal

pub loop-decl-preserved : goal.loop-decl-preserved
loop-decl-preserved c = record {
  within = subst (λ k. k ≤ c.loop-decl.decl-index + 1) (sym c.constants_after-known.ensures)
      (after_most (decl_view c.decl-item.result) c.loop-decl.known c.loop-decl.decl-index c.loop-decl.invariant.within);
  noted = declarations_next (program_view c.args.setting.now.declarations.now) c.args.decls.now c.loop-decl.decl-index c.decl-item.result
      c.loop-decl.known c.constants_after-known.result (least_view c.args.least.now) (least_view c.loop-decl.least)
      (least_view c.declaration.new.least) (omega arith) c.decl-item.is c.loop-decl.invariant.noted c.constants_after-known.ensures
      c.in_ok-declaration.ensures.noted;
  names = tables_next (program_view c.args.setting.now.declarations.now) c.args.decls.now c.loop-decl.decl-index c.decl-item.result
      c.loop-decl.known c.constants_after-known.result c.loop-decl.tables.items c.push.new.self.items c.in_ok-declaration.field-0
      (omega arith) c.decl-item.is c.loop-decl.invariant.names c.constants_after-known.ensures c.in_ok-declaration.ensures.names
      c.in_ok-push.ensures.items;
}

pub returns-clause-noted : goal.returns-clause-noted
returns-clause-noted c =
    declarations_end (program_view c.args.setting.now.declarations.now) c.args.decls.now c.loop-decl.decl-index c.loop-decl.known
    (least_view c.args.least.now) (least_view c.loop-decl.least) (omega arith) c.loop-decl.invariant.noted

pub returns-clause-names : goal.returns-clause-names
returns-clause-names c =
    tables_end (program_view c.args.setting.now.declarations.now) c.args.decls.now c.loop-decl.decl-index c.loop-decl.known c.loop-decl.tables.items
    (omega arith) c.loop-decl.invariant.names
