use Rattle.std.proofs.Common.{refl, subst, sym, ◌++◌, map, []}
use Rattle.lus_tree.specs.View.{param_view}
use Rattle.lus_streams.specs.Streams.{AreFirst, params_view}
use Rattle.lus_streams.proofs.streams.streams_of.Goals as goal

pub returns : goal.returns
returns c =
    let none : AreFirst c.new.result (params_view c.new-2.result.items) [] =
    subst (λ t. AreFirst t (params_view c.new-2.result.items) []) (sym c.new.ensures)
    (subst (λ bs. AreFirst [] (params_view bs) []) (sym c.new-2.ensures.items) record { names = refl; found = λ x. refl }) in
    let inputs = c.in_ok-add_all.ensures [] none in
    let outputs = c.in_ok-add_all-2.ensures (map param_view c.inputs.result.now) inputs in
    let locals = c.in_ok-add_all-3.ensures (map param_view c.inputs.result.now ++ map param_view c.outputs.result.now) outputs in
    let all = c.in_ok-add_ghosts.ensures
    ((map param_view c.inputs.result.now ++ map param_view c.outputs.result.now) ++ map param_view c.locals.result.now) locals in
    rw (sym c.inputs.ensures, sym c.outputs.ensures, sym c.locals.ensures, sym c.contract.ensures) all
