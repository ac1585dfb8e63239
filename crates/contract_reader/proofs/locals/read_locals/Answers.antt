use Rattle.std.proofs.Common.{ap, sym, ◌∙◌, refl, arith}
use Rattle.contract_reader.specs.Begin.{locals_start_of}
use Rattle.contract_reader.proofs.Leads.{at_err}
use Rattle.contract_reader.proofs.Loops.{begun_both, more_both, ended_both, stuck_both}
use Rattle.contract_reader.proofs.Firsts.{begins_locals, no_locals}
use Rattle.contract_reader.proofs.locals.read_locals.Goals as goal

pub loop-start-init : goal.loop-start-init
loop-start-init c = record { loops = rw (c.new.ensures.items, c.new-2.ensures.items) begun_both; since = omega arith; within = c.requires.inside }

pub returns-in_err-next-clause-stop : goal.returns-in_err-next-clause-stop
returns-in_err-next-clause-stop c =
    let e = ap locals_start_of (c.class_at.ensures.class c.args.bytes.now) ∙ (sym c.locals_start.ensures ∙ c.in-Some.is) in
    at_err _ _ _ c.from_residual.ensures.1 (stuck_both c.loop-start.invariant.loops (begins_locals _ _ e) c.in_err-next.ensures.stop)

pub loop-start-preserved : goal.loop-start-preserved
loop-start-preserved c =
    let e = ap locals_start_of (c.class_at.ensures.class c.args.bytes.now) ∙ (sym c.locals_start.ensures ∙ c.in-Some.is) in
    record {
      loops = more_both c.loop-start.invariant.loops (begins_locals _ _ e) c.in_ok-next.ensures.run;
      since = omega (arith, c.in_ok-next.ensures.inside.0);
      within = c.in_ok-next.ensures.inside.1;
    }

pub returns-clause-run : goal.returns-clause-run
returns-clause-run c =
    let e = ap locals_start_of (c.class_at.ensures.class c.args.bytes.now) ∙ (sym c.locals_start.ensures ∙ c.in_default.is) in
    ended_both c.loop-start.invariant.loops (no_locals _ e) refl refl
