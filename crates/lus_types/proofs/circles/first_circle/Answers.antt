use Rattle.std.proofs.Common.{◌≡◌, ◌∙◌, sym, rules, true}
use Rattle.lus_scopes.specs.Least.{least_view}
use Rattle.lus_types.proofs.Levels.{first_by, nowhere_by}
use Rattle.lus_types.proofs.circles.first_circle.Goals as goal

pub returns-then-branch : goal.returns-then-branch
returns-then-branch c = λ p g.
    let t : c.none_rises.result ≡ true = search rules in
    first_by p c.args.graph.now g c.in_ok-ranks.ranks.items
    (sym (rw (c.deref-2.ensures.value, c.deref-3.ensures.value) at c.none_rises.ensures) ∙ t)
    (least_view c.new-level.result) (least_view c.note_levels.new.least) c.new-level.ensures
    (rw (c.deref-4.ensures.value, c.deref-5.ensures.value) at c.note_levels.ensures) c.in-Some.at
    (sym c.place_of.ensures ∙ c.in-Some.is) (c.in_ok-is_circle-in-Some.ensures p g c.if-branch.true)

pub returns : goal.returns
returns c = λ p g.
    let t : c.none_rises.result ≡ true = search rules in
    nowhere_by p c.args.graph.now g c.in_ok-ranks.ranks.items
    (sym (rw (c.deref-2.ensures.value, c.deref-3.ensures.value) at c.none_rises.ensures) ∙ t)
    (least_view c.new-level.result) (least_view c.note_levels.new.least) c.new-level.ensures
    (rw (c.deref-4.ensures.value, c.deref-5.ensures.value) at c.note_levels.ensures) (sym c.place_of.ensures ∙ c.in-None.is)
