use Rattle.std.proofs.Common.{ap, option_map, subst, sym, ◌∙◌}
use Rattle.lus_tree.specs.View.{program_view}
use Rattle.lus_meaning.specs.Refusals.{IsTyped}
use Rattle.lus_types.specs.Names.{found_view}
use Rattle.lus_types.proofs.NamedSorts.{name_sorted}
use Rattle.lus_types.proofs.typed.Typed.name.Goals as goal

pub typed-requires : goal.typed-requires
typed-requires c =
    let typed : IsTyped (program_view c.args.self.now) = subst (λ p. IsTyped (program_view p)) c.self.view_is c.self.invariant.0 in
    name_sorted (program_view c.args.self.now) typed c.args.declaration c.args.name.now (found_view c.in-Some.found)
    (sym c.own_name.ensures ∙ ap (option_map found_view) c.in-Some.is)
