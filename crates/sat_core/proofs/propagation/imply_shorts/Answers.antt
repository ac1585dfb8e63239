use Rattle.std.proofs.lemmas.List.Elements.{Contains-get_or}
use Rattle.std.specs.Prelude.{All, Contains, None, get_or, true}
use Rattle.std.proofs.Common.{subst, arith, ◌∙◌}
use Rattle.sat_core.specs.declared.short.Short.{Short}
use Rattle.sat_core.specs.Visiting.{IsImpliedShort}
use Rattle.sat_core.proofs.Standings.{all_taken}
use Rattle.sat_core.proofs.Visits.{advance_more}
use Rattle.sat_core.proofs.Shorts.{next_holds}
use Rattle.sat_core.proofs.Worked.{early_short}
use Rattle.sat_core.proofs.propagation.imply_shorts.Goals as goal

abbrev blank : Short
blank = record { number = 0; literal = None }

pub loop-short-preserved : goal.loop-short-preserved
loop-short-preserved c = let k = c.args.clauses.now in (
  c.imply_short.ensures.watched,
  advance_more k c.args.assignment.now c.loop-short.assignment c.imply_short.new.assignment c.loop-short.invariant.1 c.imply_short.ensures.advance,
  next_holds k c.loop-short.assignment c.imply_short.new.assignment c.shorts-shorts.result.now c.loop-short.short-index blank
      c.loop-short-test.true c.imply_short.ensures.advance.grows c.loop-short.invariant.2
      (subst (IsImpliedShort k c.imply_short.new.assignment (get_or c.shorts-shorts.result.now c.loop-short.short-index blank).number) c.if-not-branch.false
      c.in_ok-imply_short.ensures.holds),
  (λ before. c.imply_short.ensures.quiet before ∙ c.loop-short.invariant.3 before),
)

pub returns-clause-hold : goal.returns-clause-hold
returns-clause-hold c = subst (All (λ (s : Short). IsImpliedShort c.args.clauses.now c.loop-short.assignment s.number true)) c.shorts-shorts.ensures
    (all_taken (λ (s : Short). IsImpliedShort c.args.clauses.now c.loop-short.assignment s.number true) c.shorts-shorts.result.now
    c.loop-short.short-index (omega arith) c.loop-short.invariant.2)

pub returns-in_err-imply_short-clause-quiet : goal.returns-in_err-imply_short-clause-quiet
returns-in_err-imply_short-clause-quiet c = λ before. c.imply_short.ensures.quiet before ∙ c.loop-short.invariant.3 before

pub returns-then-not-branch-clause-quiet : goal.returns-then-not-branch-clause-quiet
returns-then-not-branch-clause-quiet c = λ before. c.imply_short.ensures.quiet before ∙ c.loop-short.invariant.3 before

pub returns-then-not-branch-clause-early : goal.returns-then-not-branch-clause-early
returns-then-not-branch-clause-early c = λ before. early_short c.args.clauses.now before
    (get_or c.shorts-shorts.result.now c.loop-short.short-index blank)
    (c.loop-short.invariant.0.watching.known_shorts (get_or c.shorts-shorts.result.now c.loop-short.short-index blank)
    (subst (λ x. Contains x (get_or c.shorts-shorts.result.now c.loop-short.short-index blank)) c.shorts-shorts.ensures
    (Contains-get_or c.shorts-shorts.result.now c.loop-short.short-index blank c.loop-short-test.true)))
