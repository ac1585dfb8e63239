use Rattle.std.proofs.Common.{rules, map}
use Rattle.lus_tree.specs.View.{program_view}
use Rattle.lus_streams.specs.Owner.{owner_view}
use Rattle.lus_properties.specs.declared.items.ItemKind.TheVariants.{Guarantees, Ensures, Modes}
use Rattle.lus_properties.specs.Marks.{marks_within}
use Rattle.lus_properties.specs.Views.{property_view}
use Rattle.lus_properties.proofs.Listed.{promised_so}
use Rattle.lus_properties.proofs.listing.push_promises.Goals as goal

pub returns : goal.returns
returns c = promised_so (map property_view c.args.properties.now.items) (map property_view c.push_contract.new.properties.items)
    (map property_view c.push_contract-2.new.properties.items) (map property_view c.push_one_mode.new.properties.items)
    (marks_within c.args.depth Guarantees (program_view c.args.program.now) (owner_view c.args.owner))
    (marks_within c.args.depth Ensures (program_view c.args.program.now) (owner_view c.args.owner)) (owner_view c.args.owner).name.at
    c.name_place.result (map property_view c.deref.result.now)
    (marks_within c.args.depth Modes (program_view c.args.program.now) (owner_view c.args.owner)) (search rules) (search rules) (search rules)
    (search rules) (search rules)
