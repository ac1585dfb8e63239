use Rattle.std.proofs.Common.{rules, ◌≡◌, ◌<◌, true, false, length, ◌∙◌, ap, subst, sym}
use Rattle.std.specs.Prelude.{Some, Ok}
use Rattle.sys_terms.specs.View.{Machine, system_view}
use Rattle.board_core.specs.Seats.{Begins, Decides, has_cause}
use Rattle.board_core.specs.Verdicts.{decides}
use Rattle.board_core.proofs.Turns.{begins-begins, begins-self}
use Rattle.kind_engine.specs.Engines.{Worker, IsSearchIf, worker_known, worker_machine, known_in}
use Rattle.kind_engine.specs.Tasks.{IsSearch}
use Rattle.kind_engine.specs.Posts.{TellsFirstWide, IsPost}
use Rattle.kind_engine.proofs.Posts.{grows-then, grows-seen, grows-weaker}
use Rattle.kind_engine.proofs.Histories.{read-front}
use Rattle.kind_engine.proofs.Lists.{ok-same}
use Rattle.kind_engine.proofs.Tasks.{search-later}
use Rattle.kind_engine.proofs.bounded.BoundedEngineEngine.turn.Goals as goal

pub after_read-requires-clause-search : goal.after_read-requires-clause-search
after_read-requires-clause-search g c =
    let b = g.B.BoardSeat in
    let m = system_view c.self.inside.subject.system in
    let plan = c.self.inside.subject.plan in
    let before = b.seen c.args.seat.now in
    let after = b.seen c.read.new.self in
    let known = known_in c.self.inside.known in
    let e : c.self.inside.search ≡ Some c.in-Some.search = search rules in
    let k : Begins known before =
    subst (λ (w : Worker). Begins (worker_known w) before) (sym c.self.view_is) c.requires.known in
    let s = c.in_ok-news.ensures.seen in
    subst (λ n. IsSearch m plan after n c.in-Some.search) (sym c.self.invariant.number)
    (search-later m plan known after 0 c.in-Some.search (begins-begins known before after k (s.others, s.all))
    (subst (IsSearchIf m plan known 0) e c.self.invariant.search))

pub returns-clause-known : goal.returns-clause-known
returns-clause-known g c =
    let seen = g.B.BoardSeat.seen c.after_read.new.seat in
    subst (λ l. Begins l seen) (sym c.seen.ensures) (begins-self seen)

pub returns-clause-decided : goal.returns-clause-decided
returns-clause-decided g c =
    let b = g.B.BoardSeat in
    let e = c.in_ok-progress.ensures in
    let read = b.seen c.read.new.self in
    let seen = b.seen c.after_read.new.seat in
    let own = subst (λ (w : Worker). worker_machine w ≡ b.machine c.args.seat.now)
    (sym c.self.view_is) c.requires.machine in
    let machine = e.seat.1 ∙ (c.in_ok-news.ensures.same.1 ∙ sym own) in
    let front = read-front read seen (b.front c.after_read.new.seat) e.seen (e.front ∙ c.in_ok-news.ensures.front) in
    λ ok p l.
    subst (λ h. Decides h p) (sym front)
    (e.decided (ok-same _ _ ok) p (subst (λ (k : Machine). p < length k.properties) machine l))

pub returns-clause-at_once : goal.returns-clause-at_once
returns-clause-at_once g c =
    let b = g.B.BoardSeat in
    let e = c.in_ok-progress.ensures in
    let read = b.seen c.read.new.self in
    let seen = b.seen c.after_read.new.seat in
    let own = subst (λ (w : Worker). worker_machine w ≡ b.machine c.args.seat.now)
    (sym c.self.view_is) c.requires.machine in
    let machine = e.seat.1 ∙ (c.in_ok-news.ensures.same.1 ∙ sym own) in
    let front = read-front read seen (b.front c.after_read.new.seat) e.seen (e.front ∙ c.in_ok-news.ensures.front) in
    λ all.
    ap Ok (e.at_once (λ p l.
    subst (λ h. Decides h p) front (all p (subst (λ (k : Machine). p < length k.properties) (sym machine) l))))

pub returns-clause-spent : goal.returns-clause-spent
returns-clause-spent g c =
    let b = g.B.BoardSeat in
    let e = c.in_ok-progress.ensures in
    let read = b.seen c.read.new.self in
    let seen = b.seen c.after_read.new.seat in
    let own = subst (λ (w : Worker). worker_machine w ≡ b.machine c.args.seat.now)
    (sym c.self.view_is) c.requires.machine in
    let machine = e.seat.1 ∙ (c.in_ok-news.ensures.same.1 ∙ sym own) in
    let front = read-front read seen (b.front c.after_read.new.seat) e.seen (e.front ∙ c.in_ok-news.ensures.front) in
    λ ok p l u.
    subst (λ n. has_cause n 0 p seen ≡ true) (sym e.seat.0)
    (subst (λ k. has_cause (b.number c.read.new.self) k p seen ≡ true) c.self.invariant.number
    (e.spent (ok-same _ _ ok) p (subst (λ (k : Machine). p < length k.properties) machine l)
    (subst (λ h. decides p h ≡ false) front u)))

pub returns-clause-wide : goal.returns-clause-wide
returns-clause-wide g c =
    let b = g.B.BoardSeat in
    let number = b.number c.args.seat.now in
    let reader = b.number c.read.new.self in
    let before = b.seen c.args.seat.now in
    let read = b.seen c.read.new.self in
    let after = b.seen c.after_read.new.seat in
    let front = c.in-Some.search.lemmas.front in
    let r = c.in_ok-news.ensures in
    grows-then TellsFirstWide number reader before read after r.same.0
    (grows-seen TellsFirstWide number before read r.seen)
    (grows-weaker (IsPost front) TellsFirstWide reader read after (λ says k. k.1) c.in_ok-progress.ensures.posts)
