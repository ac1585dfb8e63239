use Rattle.std.proofs.Common.{◌∙◌, ap, subst}
use Rattle.std.specs.Prelude.{is_some}
use Rattle.lus_tree.specs.View.{expr_view, program_view}
use Rattle.lus_meaning.specs.Refusals.{IsTyped}
use Rattle.lus_types.proofs.HasSort.{has_sort}
use Rattle.lus_types.proofs.typed.Typed.sort.Goals as goal

pub unwrap-requires : goal.unwrap-requires
unwrap-requires c =
    let typed : IsTyped (program_view c.args.self.now) = subst (λ p. IsTyped (program_view p)) c.self.view_is c.self.invariant.0 in
    ap is_some c.type_of.ensures
    ∙ has_sort (program_view c.args.self.now) typed c.args.declaration (expr_view c.args.e.now) c.requires.stands c.requires.one
