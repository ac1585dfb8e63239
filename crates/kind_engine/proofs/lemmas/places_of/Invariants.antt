use Rattle.std.specs.Prelude.{◌≡◌, map, take}
use Rattle.kind_engine.proofs.lemmas.places_of.Given as goal

abbrev pub invariant-loop-cited : goal.invariant-loop-cited
invariant-loop-cited l = l.places.items ≡ map (λ c. c.place) (take l.cited-index l.cites)
