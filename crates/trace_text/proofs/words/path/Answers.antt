use Rattle.std.proofs.Common.{Some, None, option_map, ap, sym, ◌∙◌, arith, rules}
use Rattle.lus_meaning.specs.TraceView.{spot_view}
use Rattle.trace_text.specs.Reading.{address_of}
use Rattle.trace_text.proofs.Addresses.{after_dot, after_other, no_number, is_address}
use Rattle.trace_text.proofs.words.path.Goals as goal
use Rattle.trace_text.proofs.words.path.Goals.{then-word-i-eq46+in-Some+in_ok-push, else-word-i-eq46}

pub returns-in_default : goal.returns-in_default
returns-in_default c = no_number c.loop-i.path.items c.args.word.now c.loop-i.from c.loop-i.i _ c.loop-i-test.true c.if-word-i-eq46.true
    c.in_default.ensures c.loop-i.invariant.same

pub loop-i-preserved : goal.loop-i-preserved
loop-i-preserved c = elim c.if-word-i-eq46.branch [
  | then-word-i-eq46+in-Some+in_ok-push w ↦ record {
    order = omega (arith, w.from-is);
    same = after_dot c.loop-i.path.items c.if-word-i-eq46.path.items c.args.word.now c.loop-i.from c.if-word-i-eq46.from c.loop-i.i
        w.in-Some.number (address_of c.args.word.now)
        (ap (λ v. v.items) w.path-is ∙ w.in_ok-push.ensures.items) w.from-is c.loop-i-test.true w.if-word-i-eq46.true
        (search (rules, w.in-Some.ensures)) c.loop-i.invariant.same;
  }
  | else-word-i-eq46 w ↦ record {
    order = omega (arith, w.from-is);
    same = after_other c.loop-i.path.items c.if-word-i-eq46.path.items c.args.word.now c.loop-i.from c.if-word-i-eq46.from c.loop-i.i
        (address_of c.args.word.now)
        (ap (λ v. v.items) w.path-is) w.from-is c.loop-i.invariant.order c.loop-i-test.true w.if-word-i-eq46.false c.loop-i.invariant.same;
  }
]

pub returns-in-Some-2 : goal.returns-in-Some-2
returns-in-Some-2 c = is_address c.loop-i.path.items c.args.word.now c.loop-i.from c.loop-i.i _
    (Some (spot_view c.in-Some-2.spot)) c.loop-i.invariant.order (omega arith)
    (ap (option_map spot_view) (sym c.in-Some-2.is) ∙ c.in_ok-spot.ensures) c.loop-i.invariant.same

pub returns-in-None : goal.returns-in-None
returns-in-None c = is_address c.loop-i.path.items c.args.word.now c.loop-i.from c.loop-i.i _ None c.loop-i.invariant.order (omega arith)
    (ap (option_map spot_view) (sym c.in-None.is) ∙ c.in_ok-spot.ensures) c.loop-i.invariant.same
