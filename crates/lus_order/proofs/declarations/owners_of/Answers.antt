use Rattle.std.proofs.Common.{◌≡◌, ◌<◌, length, get_or, subst, ◌∷◌, [], map}
use Rattle.lus_tree.specs.View.{decl_view}
use Rattle.lus_meaning.specs.ClockFaults.{components}
use Rattle.lus_streams.specs.Owner.{owner_view}
use Rattle.lus_order.proofs.Firsts.{components_first}
use Rattle.lus_order.proofs.Steps.{one_added}
use Rattle.lus_order.proofs.declarations.owners_of.Goals as goal

pub loop-decl-preserved : goal.loop-decl-preserved
loop-decl-preserved c =
    one_added (λ z. components (decl_view z ∷ [])) (λ zs. components (map decl_view zs)) (λ z zs. components_first (decl_view z) (map decl_view zs))
    c.args.program.now.decls.items c.loop-decl.decl-index c.decl-item.result (map owner_view c.loop-decl.owners.items) (map owner_view c.push_owner.new.owners.items) _
    (subst (λ zs. c.loop-decl.decl-index < length zs) c.deref-decl-items.ensures.value c.loop-decl-test.true)
    (subst (λ zs. c.decl-item.result ≡ get_or zs c.loop-decl.decl-index c.decl-item.result) c.deref-decl-items.ensures.value c.decl-item.is)
    c.loop-decl.invariant c.in_ok-push_owner.ensures
