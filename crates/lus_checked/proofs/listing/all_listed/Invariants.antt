use Rattle.std.proofs.Common.{◌≡◌, map, take}
use Rattle.lus_properties.specs.Views.{property_view}
use Rattle.lus_checked.specs.Properties.{listed_mark, property_seen}
use Rattle.lus_checked.proofs.listing.all_listed.Given as goal

abbrev pub invariant-loop-property : goal.invariant-loop-property
invariant-loop-property l = map property_seen l.all.items ≡ map listed_mark (map property_view (take l.property-index l.found))
