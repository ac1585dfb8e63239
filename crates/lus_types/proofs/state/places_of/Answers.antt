use Rattle.std.proofs.Common.{◌≡◌, ap, sym, subst, ◌∙◌, flat_map, IfOk}
use Rattle.lus_tree.specs.View.{program_view}
use Rattle.lus_scopes.specs.Scopes.{owner_view}
use Rattle.lus_types.specs.Sides.{sides_view}
use Rattle.lus_types.specs.States.{state_of}
use Rattle.lus_types.proofs.Occurring.{gathered_states}
use Rattle.lus_types.proofs.state.places_of.Goals as goal

pub returns : goal.returns
returns c =
    subst (λ ps. IfOk c.states_of.result (λ v. v.items ≡ ps))
    (ap (flat_map (state_of (program_view c.args.declarations.now))) (ap sides_view c.deref.ensures.value ∙ c.in_ok-all.ensures)
    ∙ sym (gathered_states (program_view c.args.declarations.now) (owner_view c.args.owner)))
    c.states_of.ensures
