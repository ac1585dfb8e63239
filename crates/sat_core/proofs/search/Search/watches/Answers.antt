use Rattle.std.proofs.Common.{subst}
use Rattle.sat_core.specs.Shown.{Shown, IsTold, IsWatchedPair}
use Rattle.sat_core.proofs.Watched.{watched_pair}
use Rattle.sat_core.proofs.search.Search.watches.Goals as goal

pub returns-clause-pair : goal.returns-clause-pair
returns-clause-pair c = subst (λ (s : Shown). IsWatchedPair s.known c.args.clause c.pair.result) c.self.view_is
    (watched_pair c.self.inside.clauses c.self.inside.watches c.args.clause c.pair.result c.self.invariant.1.watched.watching c.pair.ensures)

pub returns-clause-told : goal.returns-clause-told
returns-clause-told c = subst (λ (s : Shown). IsTold s.watched c.args.clause c.pair.result) c.self.view_is c.pair.ensures
