use Rattle.std.proofs.Common.{rules, ◌≡◌, ◌++◌, [], map, length, sym, ap, ◌∙◌}
use Rattle.std.proofs.lemmas.List.{append-nil}
use Rattle.sys_parts.specs.Constants.{constant_view}
use Rattle.sys_texts.specs.Views.{output_view}
use Rattle.sys_frames.specs.Walked.{held_shapes}
use Rattle.sys_frames.proofs.Taken.{empty, no_shapes}
use Rattle.sys_frames.proofs.shapes.+push_held_shapes.Goals as goal

pub returns-in-empty-default-2 : goal.returns-in-empty-default-2
returns-in-empty-default-2 t c =
    let many : length c.args.defaults.now ≡ 0 = search rules in
    let none : c.args.defaults.now ≡ [] = empty c.args.defaults.now many in
    let e : held_shapes (map output_view c.args.outputs.now) (map constant_view c.args.defaults.now) ≡ [] =
    ap (λ ds. held_shapes (map output_view c.args.outputs.now) (map constant_view ds)) none ∙ no_shapes (map output_view c.args.outputs.now) in
    sym (append-nil c.args.shapes.now.items) ∙ ap (λ l. c.args.shapes.now.items ++ l) (sym e)
