use Rattle.std.proofs.Common.{rules, ◌≡◌, ◌<◌, Some, map, ap, ◌∙◌, sym, subst, refl, length}
use Rattle.std.specs.Prelude.{option_map, slice_get}
use Rattle.std.proofs.lemmas.List.{length-map}
use Rattle.std.proofs.lemmas.Option.{slice_get-map, slice_get_read}
use Rattle.lus_checked.specs.Program.{tree_of}
use Rattle.lus_checked.specs.Reads.{AreReadNow}
use Rattle.lus_checked.proofs.OutputReads.{output_there, read_now_at}
use Rattle.lus_checked.proofs.checked_program.Checked.reads_now.Goals as goal

pub bounds-reads-output : goal.bounds-reads-output
bounds-reads-output c =
    subst (λ n. c.args.output < n) (length-map c.reads.result.now (λ r. r.items))
    (output_there (tree_of c.args.self.now) c.args.node c.args.output (map (λ r. r.items) c.reads.result.now) c.reads.ensures c.requires.output)

pub returns : goal.returns
returns c =
    let within : c.args.output < length c.reads.result.now =
    subst (λ n. c.args.output < n) (length-map c.reads.result.now (λ r. r.items))
    (output_there (tree_of c.args.self.now) c.args.node c.args.output (map (λ r. r.items) c.reads.result.now) c.reads.ensures c.requires.output) in
    let found : slice_get c.reads.result.now c.args.output ≡ Some c.index-reads-output.result =
    slice_get_read c.reads.result.now (length c.reads.result.now) c.args.output c.index-reads-output.result refl within c.index-reads-output.is in
    let items : c.as_slice.result.now ≡ c.index-reads-output.result.items = search rules in
    subst (AreReadNow (tree_of c.args.self.now) c.args.node c.args.output) (sym items)
    (read_now_at (tree_of c.args.self.now) c.args.node c.args.output (map (λ r. r.items) c.reads.result.now) c.index-reads-output.result.items c.reads.ensures
    (slice_get-map (λ r. r.items) c.reads.result.now c.args.output ∙ ap (option_map (λ r. r.items)) found))
