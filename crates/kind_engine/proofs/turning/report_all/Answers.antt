use Rattle.std.proofs.Common.{rules, arith, ◌≡◌, ◌<◌, suc, true, false, length, ◌∙◌, subst, sym, ap}
use Rattle.sys_terms.specs.View.{system_view}
use Rattle.board_core.specs.Seats.{has_cause}
use Rattle.board_core.specs.Verdicts.{decides}
use Rattle.board_core.proofs.Turns.{begins-begins}
use Rattle.kind_engine.specs.Posts.{IsPost}
use Rattle.kind_engine.specs.Tasks.{IsTask}
use Rattle.kind_engine.proofs.Lists.{below-next}
use Rattle.kind_engine.proofs.Histories.{read-front, cause-later}
use Rattle.kind_engine.proofs.Tasks.{task-of}
use Rattle.kind_engine.proofs.turning.report_all.Goals as goal
use Rattle.kind_engine.proofs.Posts.{grows-then}
use Rattle.kind_engine.proofs.turning.report_all.Goals.{then-not-decided+in_ok-report, else-not-decided}

pub report-requires-clause-task : goal.report-requires-clause-task
report-requires-clause-task g c =
    let b = g.B.BoardSeat in
    let at = c.loop-property in
    let v = at.invariant in
    let m = system_view c.args.subject.now.system in
    let plan = c.args.subject.now.plan in
    let engine = c.args.subject.now.engine in
    let read = b.seen c.args.seat.now in
    let task = c.index-tasks-property.result in
    let l : at.property < length c.args.tasks.now = search (rules, arith) in
    let front = read-front read (b.seen at.seat) (b.front at.seat) v.seen (v.front ∙ c.requires.read) in
    subst (λ h. IsTask m plan h engine (suc plan.depth) at.property task) (sym front)
    (subst (IsTask m plan read engine (suc plan.depth) at.property) (sym c.index-tasks-property.is)
    (task-of m plan read engine (suc plan.depth) c.args.tasks.now at.property task l c.requires.tasks))

pub loop-property-preserved : goal.loop-property-preserved
loop-property-preserved g c =
    let b = g.B.BoardSeat in
    let at = c.loop-property in
    let v = at.invariant in
    let engine = c.args.subject.now.engine in
    let number = b.number c.args.seat.now in
    let read = b.seen c.args.seat.now in
    let before = b.seen at.seat in
    elim c.if-not-decided.branch [
      | then-not-decided+in_ok-report w ↦
          (let after = b.seen w.report.new.seat in
          let e = w.in_ok-report.ensures in
          rw w.seat-is (record {
            causes = below-next at.property (λ q. decides q read ≡ false → has_cause number engine q after ≡ true)
                (λ q l d. cause-later number engine q before after e.seen (v.causes q l d))
                (λ d. subst (λ n. has_cause n engine at.property after ≡ true) v.number e.cause);
            seen = begins-begins read before after v.seen e.seen;
            grown = λ least. grows-then (IsPost least) number (b.number at.seat) read before after v.number (v.grown least)
                (e.posts least);
            number = e.seat.0 ∙ v.number;
            machine = e.seat.1 ∙ v.machine;
            plan = e.seat.2 ∙ v.plan;
            lent = e.seat.3 ∙ v.lent;
            front = e.front ∙ v.front;
            reads = e.reads ∙ v.reads;
          }))
      | else-not-decided w ↦
          (let front = read-front read before (b.front at.seat) v.seen (v.front ∙ c.requires.read) in
          let d : c.decided.result ≡ true = search rules in
          let known : decides at.property read ≡ true =
          ap (decides at.property) (sym front) ∙ (sym c.decided.ensures ∙ d) in
          rw w.seat-is (record {
            causes = below-next at.property (λ q. decides q read ≡ false → has_cause number engine q before ≡ true)
                v.causes (λ f. absurd cc);
            seen = v.seen;
            grown = v.grown;
            number = v.number;
            machine = v.machine;
            plan = v.plan;
            lent = v.lent;
            front = v.front;
            reads = v.reads;
          }))
    ]
