use Rattle.std.proofs.Common.{map}
use Rattle.std.proofs.lemmas.List.{map-append}
use Rattle.lus_scopes.specs.Counts.{by_bytes}
use Rattle.lus_scopes.proofs.Counting.{pushed}
use Rattle.lus_scopes.proofs.counted.Counted.push.Goals as goal

pub invariant_of-self-in-Ok : goal.invariant_of-self-in-Ok
invariant_of-self-in-Ok c = λ x.
    rw (c.in_ok-push.ensures.items, map-append)
    (pushed (by_bytes c.self.inside.often) (by_bytes c.note.new.often) (map (λ y. y.now) c.self.inside.names.items) c.args.name.now
    c.self.invariant c.in-Ok.ensures.noted x)
