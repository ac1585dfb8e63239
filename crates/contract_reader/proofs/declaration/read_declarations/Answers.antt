use Rattle.std.proofs.Common.{ap, sym, ◌∙◌, refl, arith}
use Rattle.lus_tree.specs.View.{decl_view}
use Rattle.contract_reader.specs.Begin.{declaration_start_of}
use Rattle.contract_reader.proofs.Leads.{at_err, into, stops}
use Rattle.contract_reader.proofs.Loops.{begun, one_more, ended, stuck, pushed}
use Rattle.contract_reader.proofs.Firsts.{begins_declaration, no_declaration}
use Rattle.contract_reader.proofs.Declarations.{all_declarations}
use Rattle.contract_reader.proofs.declaration.read_declarations.Goals as goal

pub loop-start-init : goal.loop-start-init
loop-start-init c = record { loops = rw c.new-decls.ensures.items begun; within = omega arith }

pub returns-in_err-decl-clause-stop : goal.returns-in_err-decl-clause-stop
returns-in_err-decl-clause-stop c =
    let e = ap declaration_start_of (c.class_at.ensures.class c.args.bytes.now) ∙ (sym c.declaration_start.ensures ∙ c.in-Some.is) in
    at_err _ _ _ c.from_residual.ensures.1 (stops into (stuck c.loop-start.invariant.loops (begins_declaration _ _ e) (c.in_err-decl.ensures.stop _)))

pub loop-start-preserved : goal.loop-start-preserved
loop-start-preserved c =
    let e = ap declaration_start_of (c.class_at.ensures.class c.args.bytes.now) ∙ (sym c.declaration_start.ensures ∙ c.in-Some.is) in
    record {
      loops = rw (pushed decl_view _ _ _ c.in_ok-push.ensures.items)
          (one_more c.loop-start.invariant.loops (begins_declaration _ _ e) (c.in_ok-decl.ensures.run _));
      within = c.in_ok-decl.ensures.inside.1;
    }

pub returns-clause-run : goal.returns-clause-run
returns-clause-run c =
    let e = ap declaration_start_of (c.class_at.ensures.class c.args.bytes.now) ∙ (sym c.declaration_start.ensures ∙ c.in_default.is) in
    all_declarations (ended c.loop-start.invariant.loops (no_declaration _ e) refl)
