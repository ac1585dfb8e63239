use Rattle.std.proofs.Common.{rules, arith, ◌≡◌, ◌≤◌, ◌+◌, suc, subst}
use Rattle.sys_terms.specs.View.{system_view}
use Rattle.cert_rules.specs.View.{cites_view}
use Rattle.kind_engine.specs.Tasks.{AreTasks}
use Rattle.kind_engine.proofs.Citing.{lemmas-later}
use Rattle.kind_engine.proofs.Tasks.{search-later}
use Rattle.kind_engine.proofs.turning.after_read.Goals as goal

pub returns-then-turn-subject-clause-search : goal.returns-then-turn-subject-clause-search
returns-then-turn-subject-clause-search g c =
    let b = g.B.BoardSeat in
    search-later (system_view c.args.subject.now.system) c.args.subject.now.plan (b.seen c.args.seat.now)
    (b.seen c.report_all.new.seat) c.args.subject.now.engine c.args.search c.in_ok-report_all.ensures.seen c.requires.search

pub returns-clause-search : goal.returns-clause-search
returns-clause-search g c =
    let b = g.B.BoardSeat in
    let m = system_view c.args.subject.now.system in
    let plan = c.args.subject.now.plan in
    let engine = c.args.subject.now.engine in
    let before = b.seen c.args.seat.now in
    let after = b.seen c.all_advanced.new.seat in
    let was = c.args.search in
    let tasks = c.in_ok-tasks.tasks in
    let within : was.turn + 1 ≤ suc plan.depth = search (rules, arith) in
    let next : suc was.turn ≡ was.turn + 1 = omega arith in
    record {
      within = within;
      count = c.in_ok-tasks.ensures.count;
      lemmas = lemmas-later m before after was.lemmas.front (cites_view was.lemmas.cites.items)
          c.in_ok-tasks.ensures.seen c.requires.search.lemmas;
      each = subst (λ n. AreTasks m plan after engine n 0 tasks.items) next c.in_ok-tasks.ensures.tasks;
    }
