use Rattle.std.proofs.Common.{rules, map}
use Rattle.lus_streams.specs.Owner.{owner_view}
use Rattle.lus_properties.specs.Views.{property_view}
use Rattle.lus_properties.proofs.Listed.{listed}
use Rattle.lus_properties.proofs.listing.properties.Goals as goal

pub returns : goal.returns
returns c = listed c.len-depth.result c.args.program.now.decls.items (owner_view c.args.owner) (map property_view c.push_body.new.properties.items)
    (map property_view c.push_promises.new.properties.items) (map property_view c.push_all_owed.new.properties.items) (search rules) (search rules)
    (search rules) (search rules)
