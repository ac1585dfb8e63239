use Rattle.std.proofs.Common.{rules, ◌≡◌, ◌<◌, Some, map, ap, ◌∙◌, sym, subst, refl, length}
use Rattle.std.specs.Prelude.{option_map, slice_get}
use Rattle.std.proofs.lemmas.List.{length-map}
use Rattle.std.proofs.lemmas.Option.{slice_get-map, slice_get_read}
use Rattle.lus_tree.specs.Lookup.{nodes_of}
use Rattle.lus_tree.specs.View.{program_view}
use Rattle.lus_checked.specs.Program.{Marked, tree_of}
use Rattle.lus_checked.specs.Reads.{AreReadsOf, kept_reads}
use Rattle.lus_checked.proofs.OutputReads.{as_many_reads, reads_at}
use Rattle.lus_checked.proofs.checked_program.Checked.reads.Goals as goal

pub index-requires : goal.index-requires
index-requires c =
    let same : length c.self.inside.kept.reads.items ≡ length (nodes_of (tree_of c.args.self.now)) =
    sym (length-map c.self.inside.kept.reads.items (λ v. map (λ r. r.items) v.items))
    ∙ as_many_reads (program_view c.self.inside.clocked) (nodes_of (program_view c.self.inside.clocked)) (kept_reads c.self.inside.kept.reads.items) c.self.invariant.read
    ∙ ap (λ (m : Marked). length (nodes_of (tree_of m))) c.self.view_is in
    let within : c.args.node < length c.self.inside.kept.reads.items = subst (λ n. c.args.node < n) (sym same) c.requires in
    search rules

pub returns : goal.returns
returns c =
    let same : length c.self.inside.kept.reads.items ≡ length (nodes_of (tree_of c.args.self.now)) =
    sym (length-map c.self.inside.kept.reads.items (λ v. map (λ r. r.items) v.items))
    ∙ as_many_reads (program_view c.self.inside.clocked) (nodes_of (program_view c.self.inside.clocked)) (kept_reads c.self.inside.kept.reads.items) c.self.invariant.read
    ∙ ap (λ (m : Marked). length (nodes_of (tree_of m))) c.self.view_is in
    let within : c.args.node < length c.self.inside.kept.reads.items = subst (λ n. c.args.node < n) (sym same) c.requires in
    let found : slice_get c.self.inside.kept.reads.items c.args.node ≡ Some c.index.result.now =
    slice_get_read c.self.inside.kept.reads.items (length c.self.inside.kept.reads.items) c.args.node c.index.result.now refl within c.index.ensures in
    let items : c.as_slice.result.now ≡ c.index.result.now.items = search rules in
    subst (λ (m : Marked). AreReadsOf (tree_of m) c.args.node (map (λ r. r.items) c.as_slice.result.now)) c.self.view_is
    (subst (λ rs. AreReadsOf (program_view c.self.inside.clocked) c.args.node (map (λ r. r.items) rs)) (sym items)
    (reads_at (program_view c.self.inside.clocked) (kept_reads c.self.inside.kept.reads.items) c.self.invariant.read c.args.node
    (map (λ r. r.items) c.index.result.now.items)
    (slice_get-map (λ v. map (λ r. r.items) v.items) c.self.inside.kept.reads.items c.args.node
    ∙ ap (option_map (λ v. map (λ r. r.items) v.items)) found)))
