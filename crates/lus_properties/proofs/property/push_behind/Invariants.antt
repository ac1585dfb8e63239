use Rattle.std.proofs.Common.{◌≡◌, ◌++◌, drop, map}
use Rattle.lus_properties.specs.Marks.{behind}
use Rattle.lus_properties.specs.Views.{property_view}
use Rattle.lus_properties.proofs.property.push_behind.Given as goal

-- what is there, followed by what is to come, is all
abbrev pub invariant-loop-property : goal.invariant-loop-property
invariant-loop-property l = map property_view l.properties.items ++ map (behind l.number) (map property_view (drop l.property-index l.inner))
    ≡ map property_view l.initial.properties.items ++ map (behind l.number) (map property_view l.inner)
