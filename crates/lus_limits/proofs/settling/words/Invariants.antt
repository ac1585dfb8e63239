use Rattle.std.proofs.Common.{◌≡◌, ◌++◌, drop, map}
use Rattle.lus_streams.specs.Owner.{owner_view}
use Rattle.lus_limits.proofs.settling.words.Given as goal

-- what is there, followed by what is to come, is all
abbrev pub invariant-loop-part : goal.invariant-loop-part
invariant-loop-part l = map (λ x. x.now) l.words.items ++ map (λ n. n.name.text) (map owner_view (drop l.part-index l.parts))
    ≡ map (λ n. n.name.text) (map owner_view l.parts)
