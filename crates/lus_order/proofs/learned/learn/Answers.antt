use Rattle.std.proofs.Common.{subst}
use Rattle.lus_order.specs.Learned.{IsAdded}
use Rattle.lus_order.specs.Library.{known_view}
use Rattle.lus_order.proofs.learned.learn.Goals as goal

pub returns : goal.returns
returns c = record {
  summary = known_view c.in_ok-known.known;
  added = subst (λ f. IsAdded c.args.library.now c.add.new.self f (known_view c.in_ok-known.known)) c.name.ensures c.in_ok-add.ensures;
  is = c.in_ok-known.ensures;
}
