use Rattle.std.proofs.Common.{ap, sym, ◌∙◌, refl, arith}
use Rattle.lus_tree.specs.View.{contract_item_view}
use Rattle.contract_reader.specs.Begin.{contract_item_start_of}
use Rattle.contract_reader.proofs.Leads.{at_err}
use Rattle.contract_reader.proofs.Loops.{begun, one_more, ended, stuck, pushed}
use Rattle.contract_reader.proofs.Firsts.{begins_contract_item, no_contract_item}
use Rattle.contract_reader.proofs.contract.read_contract_items.Goals as goal

pub loop-start-init : goal.loop-start-init
loop-start-init c = record { loops = rw c.new-items.ensures.items begun; since = omega arith; within = c.requires.inside }

pub returns-in_err-item-clause-stop : goal.returns-in_err-item-clause-stop
returns-in_err-item-clause-stop c =
    let e = ap contract_item_start_of (c.class_at.ensures.class c.args.bytes.now) ∙ (sym c.contract_item_start.ensures ∙ c.in-Some.is) in
    at_err _ _ _ c.from_residual.ensures.1 (stuck c.loop-start.invariant.loops (begins_contract_item _ _ e) c.in_err-item.ensures.stop)

pub loop-start-preserved : goal.loop-start-preserved
loop-start-preserved c =
    let e = ap contract_item_start_of (c.class_at.ensures.class c.args.bytes.now) ∙ (sym c.contract_item_start.ensures ∙ c.in-Some.is) in
    record {
      loops = rw (pushed contract_item_view _ _ _ c.in_ok-push.ensures.items)
          (one_more c.loop-start.invariant.loops (begins_contract_item _ _ e) c.in_ok-item.ensures.run);
      since = omega (arith, c.in_ok-item.ensures.inside.0);
      within = c.in_ok-item.ensures.inside.1;
    }

pub returns-clause-run : goal.returns-clause-run
returns-clause-run c =
    let e = ap contract_item_start_of (c.class_at.ensures.class c.args.bytes.now) ∙ (sym c.contract_item_start.ensures ∙ c.in_default.is) in
    ended c.loop-start.invariant.loops (no_contract_item _ e) refl
