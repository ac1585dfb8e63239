use Rattle.std.specs.Prelude.{ℕ, ◌<◌, Bool, List, length, map}
use Rattle.std.proofs.Common.{ap, ◌∙◌, sym, subst, refl}
use Rattle.std.proofs.lemmas.List.{length-map}
use Rattle.proof_steps.specs.View.{row_view}
use Rattle.int_simplex.specs.Holding.{lists_of}
use Rattle.int_simplex.specs.Valued.{AreValuesBut}
use Rattle.int_simplex.specs.Marks.{is_marked}
use Rattle.int_simplex.proofs.Fresh.{stale_but}
use Rattle.int_simplex.proofs.stale.refresh.Goals as goal

pub placed-requires-clause-within : goal.placed-requires-clause-within
placed-requires-clause-within c = λ x k i.
    subst (λ (m : ℕ). k < m) (length-map c.args.rows.now row_view) (c.requires.listed.within x k i)

pub update_values-requires-clause-others : goal.update_values-requires-clause-others
update_values-requires-clause-others c =
    subst (λ (ts : List ℕ). AreValuesBut c.args.basis.now (map row_view c.args.rows.now) c.args.places.now c.placed.new.values.items ts)
    (sym c.deref-2.ensures.value)
    (stale_but (map row_view c.args.given.now) (length c.args.places.now) c.args.basis.now (map row_view c.args.rows.now)
    (lists_of c.args.lists.now) c.args.places.now c.args.values.now.items c.placed.new.values.items c.in_ok-stale.stale.items
    c.in_ok-touched.touched.items c.requires.ready c.requires.listed refl c.requires.width c.in_ok-stale.ensures.width c.requires.own
    (c.in_ok-stale.ensures.placed (length c.args.places.now) c.args.basis.now c.requires.seats)
    (λ k m. c.in_ok-touched.ensures.all k (ap (λ (s : List Bool). is_marked s k) c.deref.ensures.value ∙ m)))
