use Rattle.std.proofs.Common.{rules, ◌≡◌, ◌<◌, ℕ, Option, Some, ap, ◌∙◌, sym, subst, refl, length}
use Rattle.std.specs.Prelude.{slice_get}
use Rattle.std.proofs.lemmas.Option.{slice_get_read}
use Rattle.lus_tree.specs.Lookup.{nodes_of}
use Rattle.lus_tree.specs.View.{program_view}
use Rattle.lus_checked.specs.Program.{Marked, tree_of, width_of}
use Rattle.lus_checked.proofs.Joined.{as_many_widths, width_at}
use Rattle.lus_checked.proofs.checked_program.Checked.width.Goals as goal

pub index-requires : goal.index-requires
index-requires c =
    let same : length c.self.inside.kept.widths.items ≡ length (nodes_of (tree_of c.args.self.now)) =
    as_many_widths (program_view c.self.inside.clocked) c.self.inside.kept.widths.items c.self.invariant.counted
    ∙ ap (λ (m : Marked). length (nodes_of (tree_of m))) c.self.view_is in
    let within : c.args.node < length c.self.inside.kept.widths.items = subst (λ n. c.args.node < n) (sym same) c.requires in
    search rules

pub returns : goal.returns
returns c =
    let same : length c.self.inside.kept.widths.items ≡ length (nodes_of (tree_of c.args.self.now)) =
    as_many_widths (program_view c.self.inside.clocked) c.self.inside.kept.widths.items c.self.invariant.counted
    ∙ ap (λ (m : Marked). length (nodes_of (tree_of m))) c.self.view_is in
    let within : c.args.node < length c.self.inside.kept.widths.items = subst (λ n. c.args.node < n) (sym same) c.requires in
    let found : slice_get c.self.inside.kept.widths.items c.args.node ≡ Some c.index.result.now =
    slice_get_read c.self.inside.kept.widths.items (length c.self.inside.kept.widths.items) c.args.node c.index.result.now refl within c.index.ensures in
    subst (λ (m : Marked). width_of (tree_of m) c.args.node ≡ Some c.index.result.now) c.self.view_is
    (width_at (program_view c.self.inside.clocked) c.self.inside.kept.widths.items c.self.invariant.counted c.args.node ∙ found)
