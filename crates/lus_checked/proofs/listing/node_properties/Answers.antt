use Rattle.std.proofs.Common.{IfOk, map, ap, subst, ◌∙◌}
use Rattle.lus_tree.specs.View.{node_view, program_view}
use Rattle.lus_meaning.specs.Program.{instance_of}
use Rattle.lus_meaning.specs.Property.{properties}
use Rattle.lus_properties.specs.Marks.{mark_of}
use Rattle.lus_properties.specs.Views.{property_view}
use Rattle.lus_checked.specs.Properties.{listed_mark}
use Rattle.lus_checked.proofs.Joined.{listed_by}
use Rattle.lus_checked.proofs.listing.node_properties.Goals as goal

pub returns : goal.returns
returns c = listed_by (program_view c.args.program.now) (node_view c.args.node.now) c.all_listed.result (map property_view c.deref.result.now) c.all_listed.ensures
    (ap (map property_view) c.deref.ensures.value ∙ c.in_ok-found.ensures)
