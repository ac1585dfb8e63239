use Rattle.std.specs.Prelude.{◌+◌, ◌++◌, ◌∷◌, [], reverse, false}
use Rattle.std.proofs.Common.{refl, sym, ◌∙◌, ap, subst}
use Rattle.proof_steps.specs.declared.Literal.TheVariants.{Flag}
use Rattle.sat_core.specs.declared.assigned.Assigned.{Assigned}
use Rattle.sat_core.specs.Reduction.{IsReduced}
use Rattle.sat_core.proofs.Places.{read, reverse-push}
use Rattle.sat_core.proofs.Reduced.{left, spared, kept_first, kept_next}
use Rattle.sat_core.proofs.Looked.{pinned_none, looked_hint, looked_literal, longer}
use Rattle.sat_core.proofs.reduction.pass.Goals as goal

abbrev blank : Assigned
blank = record { literal = Flag 0 false; reason = 0 }

pub returns-then-not-is_marked-clause-reduced : goal.returns-then-not-is_marked-clause-reduced
returns-then-not-is_marked-clause-reduced c = λ n last h r.
    left c.args.clauses.now c.args.trail.now c.requires.is_trail c.args.marked.now n last c.args.literals.now.items c.args.low c.args.at
    (reverse c.args.hints.now.items) _ (read c.args.trail.now c.args.at blank c.requires.within) h r (sym c.if-not-is_marked.ensures)

pub returns-then-is_spare-clause-reduced : goal.returns-then-is_spare-clause-reduced
returns-then-is_spare-clause-reduced c = λ n last h r.
    subst (IsReduced c.args.clauses.now c.args.trail.now c.args.marked.now n last c.args.literals.now.items c.args.low c.args.at)
    (sym (reverse-push c.args.hints.now.items c.push.new.self.items _ c.in_ok-push.ensures.items))
    (spared c.args.clauses.now c.args.trail.now c.requires.is_trail c.args.marked.now n last c.args.literals.now.items c.args.low c.args.at
    (reverse c.args.hints.now.items) _ (read c.args.trail.now c.args.at blank c.requires.within) h r (c.if-is_spare.ensures.spare refl))

pub returns-then-low-eq0-clause-reduced : goal.returns-then-low-eq0-clause-reduced
returns-then-low-eq0-clause-reduced c = λ n last h r.
    subst (λ x. IsReduced c.args.clauses.now c.args.trail.now c.args.marked.now n last x (c.args.at + 1) c.args.at
    (reverse c.args.hints.now.items)) (sym (c.in_ok-push-2.ensures.ok ∙ ap (λ l. c.args.literals.now.items ++ l ∷ []) c.opposite.ensures))
    (kept_first c.args.clauses.now c.args.trail.now c.requires.is_trail c.args.marked.now n last c.args.literals.now.items c.args.low
    c.args.at (reverse c.args.hints.now.items) _ (read c.args.trail.now c.args.at blank c.requires.within) h r (sym c.if-not-is_marked.ensures)
    c.if-low-eq0.true)

pub returns-clause-reduced : goal.returns-clause-reduced
returns-clause-reduced c = λ n last h r.
    subst (λ x. IsReduced c.args.clauses.now c.args.trail.now c.args.marked.now n last x c.args.low c.args.at
    (reverse c.args.hints.now.items)) (sym (c.in_ok-push-2.ensures.ok ∙ ap (λ l. c.args.literals.now.items ++ l ∷ []) c.opposite.ensures))
    (kept_next c.args.clauses.now c.args.trail.now c.requires.is_trail c.args.marked.now n last c.args.literals.now.items c.args.low
    c.args.at (reverse c.args.hints.now.items) _ (read c.args.trail.now c.args.at blank c.requires.within) h r (sym c.if-not-is_marked.ensures)
    c.if-low-eq0.false)

pub returns-then-not-is_marked-clause-looks : goal.returns-then-not-is_marked-clause-looks
returns-then-not-is_marked-clause-looks c = pinned_none _ _ _

pub returns-then-is_spare-clause-looks : goal.returns-then-is_spare-clause-looks
returns-then-is_spare-clause-looks c = looked_hint _ _ _ (longer _ _ _ c.in_ok-push.ensures.items) c.if-is_spare.ensures.looked

pub returns-then-low-eq0-clause-looks : goal.returns-then-low-eq0-clause-looks
returns-then-low-eq0-clause-looks c = looked_literal _ _ _ (longer _ _ _ c.in_ok-push-2.ensures.ok) c.if-is_spare.ensures.looked

pub returns-clause-looks : goal.returns-clause-looks
returns-clause-looks c = looked_literal _ _ _ (longer _ _ _ c.in_ok-push-2.ensures.ok) c.if-is_spare.ensures.looked
