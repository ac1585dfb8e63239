use Rattle.std.proofs.Common.{◌≡◌, ◌++◌, drop, map}
use Rattle.lus_tree.specs.View.{named_view}
use Rattle.lus_meaning.specs.Contract.{ensured}
use Rattle.lus_properties.specs.Marks.{labelled_mark}
use Rattle.lus_properties.specs.Views.{property_view}
use Rattle.lus_properties.proofs.items.push_ensures.Given as goal

-- what is there, followed by what is to come, is all
abbrev pub invariant-loop-named : goal.invariant-loop-named
invariant-loop-named l = map property_view l.properties.items
    ++ map (labelled_mark (ensured l.name)) (map named_view (drop l.named-index l.promised))
    ≡ map property_view l.initial.properties.items ++ map (labelled_mark (ensured l.name)) (map named_view l.promised)
