use Rattle.depth_laws.proofs.Decided.{played-complete}
use Rattle.depth_laws.proofs.laws.played_books_are_complete.Goals as goal

pub returns : goal.returns
returns c =
    played-complete c.decided_where_complete.ensures.falsifiable c.decided_where_complete.ensures.valid
    c.decided_where_complete.ensures.unknown c.played_have_causes.ensures.whole
