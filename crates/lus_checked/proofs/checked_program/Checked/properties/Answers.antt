use Rattle.std.proofs.Common.{rules, ◌≡◌, ◌<◌, Some, map, ap, ◌∙◌, sym, subst, refl, length}
use Rattle.std.specs.Prelude.{slice_get, option_map}
use Rattle.std.proofs.lemmas.Option.{slice_get_read}
use Rattle.lus_tree.specs.Lookup.{nodes_of}
use Rattle.lus_tree.specs.View.{program_view}
use Rattle.lus_checked.specs.Program.{Marked, tree_of}
use Rattle.lus_checked.specs.Properties.{listed_of, property_seen}
use Rattle.lus_checked.proofs.Joined.{as_many_lists, list_at}
use Rattle.lus_checked.proofs.checked_program.Checked.properties.Goals as goal

pub index-requires : goal.index-requires
index-requires c =
    let same : length c.self.inside.kept.properties.items ≡ length (nodes_of (tree_of c.args.self.now)) =
    as_many_lists (program_view c.self.inside.clocked) c.self.inside.kept.properties.items c.self.invariant.listed
    ∙ ap (λ (m : Marked). length (nodes_of (tree_of m))) c.self.view_is in
    let within : c.args.node < length c.self.inside.kept.properties.items = subst (λ n. c.args.node < n) (sym same) c.requires in
    search rules

pub returns : goal.returns
returns c =
    let same : length c.self.inside.kept.properties.items ≡ length (nodes_of (tree_of c.args.self.now)) =
    as_many_lists (program_view c.self.inside.clocked) c.self.inside.kept.properties.items c.self.invariant.listed
    ∙ ap (λ (m : Marked). length (nodes_of (tree_of m))) c.self.view_is in
    let within : c.args.node < length c.self.inside.kept.properties.items = subst (λ n. c.args.node < n) (sym same) c.requires in
    let found : slice_get c.self.inside.kept.properties.items c.args.node ≡ Some c.index.result.now =
    slice_get_read c.self.inside.kept.properties.items (length c.self.inside.kept.properties.items) c.args.node c.index.result.now refl within c.index.ensures in
    let items : c.as_slice.result.now ≡ c.index.result.now.items = search rules in
    subst (λ (m : Marked). listed_of (tree_of m) c.args.node ≡ Some (map property_seen c.as_slice.result.now)) c.self.view_is
    (list_at (program_view c.self.inside.clocked) c.self.inside.kept.properties.items c.self.invariant.listed c.args.node
    ∙ ap (option_map (λ v. map property_seen v.items)) found ∙ ap (λ qs. Some (map property_seen qs)) (sym items))
