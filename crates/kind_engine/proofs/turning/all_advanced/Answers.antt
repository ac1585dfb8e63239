use Rattle.std.proofs.Common.{rules, arith, ◌≡◌, ◌++◌, ◌∷◌, [], suc, length, ◌∙◌, subst, sym, ap}
use Rattle.std.specs.Vec.Iter.{into_iter_items}
use Rattle.sys_terms.specs.View.{system_view}
use Rattle.board_core.proofs.Turns.{begins-begins}
use Rattle.kind_engine.specs.Posts.{IsPost}
use Rattle.kind_engine.specs.Tasks.{IsTask, AreTasks}
use Rattle.cert_rules.specs.View.{cites_view}
use Rattle.kind_engine.proofs.Citing.{lemmas-later}
use Rattle.kind_engine.proofs.Lists.{length-push}
use Rattle.kind_engine.proofs.Tasks.{all-push, tasks-later}
use Rattle.kind_engine.proofs.Posts.{grows-then}
use Rattle.kind_engine.proofs.turning.all_advanced.Goals as goal

pub loop-task-preserved : goal.loop-task-preserved
loop-task-preserved g c =
    let b = g.B.BoardSeat in
    let at = c.loop-task in
    let v = at.invariant in
    let m = system_view c.args.subject.now.system in
    let plan = c.args.subject.now.plan in
    let engine = c.args.subject.now.engine in
    let turn = c.args.turn in
    let before = b.seen at.seat in
    let after = b.seen c.advanced.new.seat in
    let task = c.in_ok-advanced.field-0 in
    let rest = into_iter_items c.next.new.self in
    let grown = c.in_ok-advanced.ensures.seen in
    let steps : into_iter_items at.task-iterator ≡ c.in-Some.task ∷ rest = c.in-Some.ensures.steps.0 in
    let e : c.push.new.self.items ≡ at.next.items ++ task ∷ [] = search rules in
    let n : length c.push.new.self.items ≡ suc
    (length at.next.items) = ap length e ∙ length-push at.next.items task in
    let place : c.len-property.result ≡ length at.next.items = search rules in
    let left = subst (AreTasks m plan before engine turn (length at.next.items)) steps v.left in
    let long : length (into_iter_items at.task-iterator) ≡ suc (length rest) = ap length steps in
    record {
      done = subst (AreTasks m plan after engine (suc turn) 0) (sym e)
          (all-push m plan after engine (suc turn) at.next.items task
          (tasks-later m plan before after engine (suc turn) 0 at.next.items grown v.done)
          (subst (λ k. IsTask m plan after engine (suc turn) k task) place c.in_ok-advanced.ensures.task));
      left = subst (λ k. AreTasks m plan after engine turn k rest) (sym n)
          (tasks-later m plan before after engine turn (suc (length at.next.items)) rest grown left.1);
      lemmas = lemmas-later m before after c.args.lemmas.now.front (cites_view c.args.lemmas.now.cites.items)
          grown v.lemmas;
      count = let k = v.count in omega (arith, n, long, k);
      rest = let k = v.rest in let s = c.in-Some.ensures.steps.1 in omega (arith, long, k, s);
      seen = begins-begins (b.seen c.args.seat.now) before after v.seen grown;
      grown = grows-then (IsPost c.args.lemmas.now.front) (b.number c.args.seat.now) (b.number at.seat)
          (b.seen c.args.seat.now) before after v.number v.grown c.in_ok-advanced.ensures.posts;
      number = c.in_ok-advanced.ensures.seat.0 ∙ v.number;
      machine = c.in_ok-advanced.ensures.seat.1 ∙ v.machine;
      plan = c.in_ok-advanced.ensures.seat.2 ∙ v.plan;
      lent = c.in_ok-advanced.ensures.seat.3 ∙ v.lent;
      front = c.in_ok-advanced.ensures.front ∙ v.front;
      reads = c.in_ok-advanced.ensures.reads ∙ v.reads;
    }
