use Rattle.std.proofs.Common.{rules, ◌≡◌, ◌<◌, true, false, length, ◌∙◌, ap, subst, sym, arith, ◌≤◌}
use Rattle.std.specs.Prelude.{Some, Ok}
use Rattle.sys_terms.specs.View.{Machine, system_view}
use Rattle.board_core.specs.Seats.{Begins, Decides, has_cause}
use Rattle.board_core.specs.Verdicts.{decides}
use Rattle.board_core.proofs.Turns.{begins-begins, begins-self, begins-length}
use Rattle.cert_rules.specs.View.{cites_view}
use Rattle.kind_engine.specs.declared.task.Search.{Search}
use Rattle.kind_engine.specs.Lemmas.{AreLemmas}
use Rattle.kind_engine.specs.Engines.{Worker, IsSearchIf, worker_known, worker_machine, known_in, worker_front, front_in}
use Rattle.kind_engine.specs.Tasks.{IsSearch}
use Rattle.kind_engine.proofs.Citing.{lemmas-later}
use Rattle.kind_engine.proofs.Histories.{read-front}
use Rattle.kind_engine.proofs.Lists.{ok-same}
use Rattle.kind_engine.proofs.Tasks.{tasks-later}
use Rattle.kind_engine.specs.Posts.{IsBehind, TellsFirstWide, IsPost}
use Rattle.kind_engine.proofs.Posts.{grows-then, grows-weaker, post-less}
use Rattle.kind_engine.proofs.induction.StepEngineEngine.turn.Goals as goal

pub read_lemmas-requires : goal.read_lemmas-requires
read_lemmas-requires g c =
    let b = g.B.BoardSeat in
    let m = system_view c.self.inside.subject.system in
    let plan = c.self.inside.subject.plan in
    let before = b.seen c.args.seat.now in
    let known = known_in c.self.inside.known in
    let was = c.in-Some.search in
    let front = was.lemmas.front in
    let cites = cites_view was.lemmas.cites.items in
    let e : c.self.inside.search ≡ Some was = search rules in
    let k : Begins known before =
    subst (λ (w : Worker). Begins (worker_known w) before) (sym c.self.view_is) c.requires.known in
    let own = subst (λ (w : Worker). worker_machine w ≡ b.machine c.args.seat.now)
    (sym c.self.view_is) c.requires.machine in
    let at = subst (IsSearchIf m plan known 1) e c.self.invariant.search in
    record {
      known = subst (λ (n : Machine). AreLemmas n before front cites) own
          (lemmas-later m known before front cites k at.lemmas);
    }

pub after_read-requires-clause-search : goal.after_read-requires-clause-search
after_read-requires-clause-search g c =
    let b = g.B.BoardSeat in
    let m = system_view c.self.inside.subject.system in
    let plan = c.self.inside.subject.plan in
    let before = b.seen c.args.seat.now in
    let after = b.seen c.read_lemmas.new.seat in
    let known = known_in c.self.inside.known in
    let was = c.in-Some.search in
    let lemmas = c.in_ok-lemmas.lemmas in
    let e : c.self.inside.search ≡ Some was = search rules in
    let k : Begins known before =
    subst (λ (w : Worker). Begins (worker_known w) before) (sym c.self.view_is) c.requires.known in
    let own = subst (λ (w : Worker). worker_machine w ≡ b.machine c.args.seat.now)
    (sym c.self.view_is) c.requires.machine in
    let at = subst (IsSearchIf m plan known 1) e c.self.invariant.search in
    let grown = begins-begins known before after k c.in_ok-lemmas.ensures.seen in
    let now' : Search = record { turn = was.turn; lemmas = lemmas; tasks = was.tasks } in
    subst (λ n. IsSearch m plan after n now') (sym c.self.invariant.number) (record {
      within = at.within;
      count = at.count;
      lemmas = subst (λ (n : Machine). AreLemmas n after lemmas.front (cites_view lemmas.cites.items))
          (c.in_ok-lemmas.ensures.seat.1 ∙ sym own) c.in_ok-lemmas.ensures.lemmas;
      each = tasks-later m plan known after 1 was.turn 0 was.tasks.items grown at.each;
    })

pub returns-clause-known : goal.returns-clause-known
returns-clause-known g c =
    let seen = g.B.BoardSeat.seen c.after_read.new.seat in
    subst (λ l. Begins l seen) (sym c.seen.ensures) (begins-self seen)

pub returns-clause-decided : goal.returns-clause-decided
returns-clause-decided g c =
    let b = g.B.BoardSeat in
    let e = c.in_ok-progress.ensures in
    let read = b.seen c.read_lemmas.new.seat in
    let seen = b.seen c.after_read.new.seat in
    let own = subst (λ (w : Worker). worker_machine w ≡ b.machine c.args.seat.now)
    (sym c.self.view_is) c.requires.machine in
    let machine = e.seat.1 ∙ (c.in_ok-lemmas.ensures.seat.1 ∙ sym own) in
    let front = read-front read seen (b.front c.after_read.new.seat) e.seen (e.front ∙ c.in_ok-lemmas.ensures.front) in
    λ ok p l.
    subst (λ h. Decides h p) (sym front)
    (e.decided (ok-same _ _ ok) p (subst (λ (k : Machine). p < length k.properties) machine l))

pub returns-clause-at_once : goal.returns-clause-at_once
returns-clause-at_once g c =
    let b = g.B.BoardSeat in
    let e = c.in_ok-progress.ensures in
    let read = b.seen c.read_lemmas.new.seat in
    let seen = b.seen c.after_read.new.seat in
    let own = subst (λ (w : Worker). worker_machine w ≡ b.machine c.args.seat.now)
    (sym c.self.view_is) c.requires.machine in
    let machine = e.seat.1 ∙ (c.in_ok-lemmas.ensures.seat.1 ∙ sym own) in
    let front = read-front read seen (b.front c.after_read.new.seat) e.seen (e.front ∙ c.in_ok-lemmas.ensures.front) in
    λ all.
    ap Ok (e.at_once (λ p l.
    subst (λ h. Decides h p) front (all p (subst (λ (k : Machine). p < length k.properties) (sym machine) l))))

pub returns-clause-spent : goal.returns-clause-spent
returns-clause-spent g c =
    let b = g.B.BoardSeat in
    let e = c.in_ok-progress.ensures in
    let read = b.seen c.read_lemmas.new.seat in
    let seen = b.seen c.after_read.new.seat in
    let own = subst (λ (w : Worker). worker_machine w ≡ b.machine c.args.seat.now)
    (sym c.self.view_is) c.requires.machine in
    let machine = e.seat.1 ∙ (c.in_ok-lemmas.ensures.seat.1 ∙ sym own) in
    let front = read-front read seen (b.front c.after_read.new.seat) e.seen (e.front ∙ c.in_ok-lemmas.ensures.front) in
    λ ok p l u.
    subst (λ n. has_cause n 1 p seen ≡ true) (sym e.seat.0)
    (subst (λ k. has_cause (b.number c.read_lemmas.new.seat) k p seen ≡ true) c.self.invariant.number
    (e.spent (ok-same _ _ ok) p (subst (λ (k : Machine). p < length k.properties) machine l)
    (subst (λ h. decides p h ≡ false) front u)))

pub returns-clause-stuck : goal.returns-clause-stuck
returns-clause-stuck g c =
    let b = g.B.BoardSeat in
    let number = b.number c.args.seat.now in
    let reader = b.number c.read_lemmas.new.seat in
    let before = b.seen c.args.seat.now in
    let read = b.seen c.read_lemmas.new.seat in
    let after = b.seen c.after_read.new.seat in
    let least = length before in
    let was = c.in-Some.search in
    let lemmas = c.in_ok-lemmas.lemmas in
    let l = c.in_ok-lemmas.ensures in
    let e : c.self.inside.search ≡ Some was = search rules in
    λ h.
    let at : b.front c.args.seat.now ≤ was.lemmas.front =
    subst (λ o. b.front c.args.seat.now ≤ front_in o) e
    (subst (λ (w : Worker). b.front c.args.seat.now ≤ worker_front w) (sym c.self.view_is) h) in
    let long = begins-length before read l.seen in
    let taken = l.taken at in
    grows-weaker (IsPost least) (IsBehind least) number before after (λ says k. k.0)
    (grows-then (IsPost least) number reader before read after l.seat.0 (l.posts least)
    (grows-weaker (IsPost lemmas.front) (IsPost least) reader read after
    (post-less lemmas.front least (omega (arith, long, taken))) c.in_ok-progress.ensures.posts))

pub returns-clause-wide : goal.returns-clause-wide
returns-clause-wide g c =
    let b = g.B.BoardSeat in
    let number = b.number c.args.seat.now in
    let reader = b.number c.read_lemmas.new.seat in
    let before = b.seen c.args.seat.now in
    let read = b.seen c.read_lemmas.new.seat in
    let after = b.seen c.after_read.new.seat in
    let l = c.in_ok-lemmas.ensures in
    grows-then TellsFirstWide number reader before read after l.seat.0
    (grows-weaker (IsPost 0) TellsFirstWide number before read (λ says k. k.1) (l.posts 0))
    (grows-weaker (IsPost c.in_ok-lemmas.lemmas.front) TellsFirstWide reader read after (λ says k. k.1)
    c.in_ok-progress.ensures.posts)
