use Rattle.std.specs.Prelude.{None, ◌∷◌, []}
use Rattle.std.proofs.lemmas.List.{append-nil}
use Rattle.std.proofs.Common.{sym, subst, arith}
use Rattle.sat_core.specs.Watching.{IsWatched}
use Rattle.sat_core.proofs.Guards.{watched_more}
use Rattle.sat_core.proofs.Visits.{watched_same}
use Rattle.sat_core.proofs.answer.end.Goals as goal

pub returns-clause-watched : goal.returns-clause-watched
returns-clause-watched c =
    subst (λ x. IsWatched x c.args.trail.now c.refuted.new.watches c.args.head) (sym c.in_ok-refuted.ensures.ok.appended.clauses)
    (watched_more c.args.clauses.now c.args.trail.now c.args.watches.now c.refuted.new.watches c.args.head [] None
    (λ l m p q. absurd (let r = p.1 in omega arith)) c.in_ok-refuted.ensures.entered (λ i a h s l o. absurd o) c.requires.watched)

pub returns-in_err-refuted-clause-watched : goal.returns-in_err-refuted-clause-watched
returns-in_err-refuted-clause-watched c =
    subst (λ x. IsWatched x c.args.trail.now c.refuted.new.watches c.args.head) (sym c.in_err-refuted.ensures.clauses)
    (watched_same c.args.clauses.now c.args.trail.now c.args.watches.now c.refuted.new.watches c.args.head
    c.in_err-refuted.ensures.watches c.requires.watched)

pub returns-then-ended-clause-longer : goal.returns-then-ended-clause-longer
returns-then-ended-clause-longer c = ([], sym (append-nil c.args.watches.now.pairs))

pub returns-clause-longer : goal.returns-clause-longer
returns-clause-longer c = (None ∷ [], c.in_ok-refuted.ensures.entered.2.pairs)
