use Rattle.std.proofs.Common.{map, arith, ◌∙◌}
use Rattle.lus_tree.specs.View.{expr_view, joined, word_view}
use Rattle.lus_meaning.specs.Scene.{clock_of}
use Rattle.lus_scopes.specs.Least.{least_view}
use Rattle.lus_streams.specs.Clocks.{clock_seen, clocks_seen}
use Rattle.lus_streams.specs.Names.{names_view}
use Rattle.lus_scopes.proofs.Shapes.{is_arrow, is_binary, is_choice, is_sampled, is_merged, is_condact}
use Rattle.lus_clocks.proofs.Arms.{walk_of, pair_behind, triple_behind, stand_behind, branches_behind, condact_behind, among_behind, among_step, clock_step, each_step}
use Rattle.lus_clocks.proofs.part.+part.Goals as goal

pub form_clock-returns-in-Arrow-clause-least : goal.form_clock-returns-in-Arrow-clause-least
form_clock-returns-in-Arrow-clause-least t c = λ p. walk_of (names_view c.args.names) _ _ _ _
    (is_arrow c.args.form.now p _ _ _ _ _ c.in-Arrow.is (cc) (cc))
    (pair_behind (names_view c.args.names) _ _ _ _ (clocks_seen c.pair.result) (least_view c.args.least.now)
    (least_view c.part-initial.new.least) (least_view c.part-later.new.least) (least_view c.pair.new.least)
    c.part-initial.ensures.part c.part-later.ensures.part c.pair.ensures.clock c.part-initial.ensures.least c.part-later.ensures.least
    c.pair.ensures.least)

pub form_clock-returns-in-Binary-clause-least : goal.form_clock-returns-in-Binary-clause-least
form_clock-returns-in-Binary-clause-least t c = λ p. walk_of (names_view c.args.names) _ _ _ _
    (is_binary c.args.form.now p _ _ _ _ _ c.in-Binary.is (cc) (cc))
    (pair_behind (names_view c.args.names) _ _ _ _ (clocks_seen c.pair-in-Binary.result) (least_view c.args.least.now)
    (least_view c.part-left.new.least) (least_view c.part-right.new.least) (least_view c.pair-in-Binary.new.least)
    c.part-left.ensures.part c.part-right.ensures.part c.pair-in-Binary.ensures.clock c.part-left.ensures.least
    c.part-right.ensures.least c.pair-in-Binary.ensures.least)

pub form_clock-returns-in-If-clause-least : goal.form_clock-returns-in-If-clause-least
form_clock-returns-in-If-clause-least t c = λ p. walk_of (names_view c.args.names) _ _ _ _
    (is_choice c.args.form.now p _ _ _ _ _ _ c.in-If.is (cc) (cc) (cc))
    (triple_behind (names_view c.args.names) _ _ _ _ _ _ (clocks_seen c.triple.result) (least_view c.args.least.now)
    (least_view c.part-condition.new.least) (least_view c.part-chosen.new.least) (least_view c.part-otherwise.new.least)
    (least_view c.triple.new.least) c.part-condition.ensures.part c.part-chosen.ensures.part c.part-otherwise.ensures.part
    c.triple.ensures.clock c.part-condition.ensures.least c.part-chosen.ensures.least c.part-otherwise.ensures.least
    c.triple.ensures.least)

pub form_clock-returns-in-When-clause-least : goal.form_clock-returns-in-When-clause-least
form_clock-returns-in-When-clause-least t c = λ p. walk_of (names_view c.args.names) _ _ _ _
    (is_sampled c.args.form.now p _ _ _ _ c.in-When.is (cc))
    (stand_behind (names_view c.args.names) (clock_seen c.clock_or_base.result) (clock_of (names_view c.args.names) (word_view c.in-When.word).text)
    _ _ (least_view c.args.least.now) (least_view c.part-sampled.new.least) (least_view c.stands_on.new.least)
    c.part-sampled.ensures.part (cc (c.clock_or_base.ensures, c.deref-in-When-2.ensures)) c.part-sampled.ensures.least c.stands_on.ensures)

pub form_clock-returns-in-Merge-clause-least : goal.form_clock-returns-in-Merge-clause-least
form_clock-returns-in-Merge-clause-least t c = λ p. walk_of (names_view c.args.names) _ _ _ _
    (is_merged c.args.form.now p _ _ _ _ _ c.in-Merge.is (cc) (cc))
    (branches_behind (names_view c.args.names) (word_view c.in-Merge.word) _ _ _ _ (least_view c.args.least.now)
    (least_view c.part-on.new.least) (least_view c.part-off.new.least) (least_view c.branches.new.least)
    c.part-on.ensures.part c.part-off.ensures.part c.part-on.ensures.least c.part-off.ensures.least c.branches.ensures)

pub form_clock-returns-in-Condact-clause-least : goal.form_clock-returns-in-Condact-clause-least
form_clock-returns-in-Condact-clause-least t c = λ p. walk_of (names_view c.args.names) _ _ _ _
    (is_condact c.args.form.now p _ _ _ _ _ _ c.deref-in-Condact-2.result.now c.deref-in-Condact-3.result.now c.in-Condact.is (cc)
    (cc c.deref-in-Condact-2.ensures.value) (cc c.deref-in-Condact-3.ensures.value))
    (condact_behind (names_view c.args.names) (expr_view c.deref-in-Condact.result.now) (joined (map expr_view c.deref-in-Condact-2.result.now))
    (joined (map expr_view c.deref-in-Condact-3.result.now)) _ (clocks_seen c.among-in-Condact.result) (clock_seen c.or_base-clock.result)
    (least_view c.args.least.now) (least_view c.part-active.new.least) (least_view c.among-in-Condact.new.least)
    (least_view c.each.new.least) (least_view c.stands_on-in-Condact.new.least)
    c.part-active.ensures.part c.among-in-Condact.ensures.clock c.or_base-clock.ensures c.part-active.ensures.least
    c.among-in-Condact.ensures.least c.each.ensures c.stands_on-in-Condact.ensures)

pub one_among-returns-clause-least : goal.one_among-returns-clause-least
one_among-returns-clause-least t c = among_behind (names_view c.args.names) (expr_view c.args.value.now) c.part-found.result
    (clocks_seen c.args.clock) (clocks_seen c.or_else-wanted.result) (least_view c.args.least.now) (least_view c.part-found.new.least)
    (least_view c.fits_on.new.least) c.part-found.ensures.part c.or_else-wanted.ensures c.part-found.ensures.least c.fits_on.ensures

pub among-loop-value-preserved : goal.among-loop-value-preserved
among-loop-value-preserved t c = record {
  noted = among_step (names_view c.args.names) c.args.values.now c.loop-value.value-index c.value-item.result (clocks_seen c.loop-value.clock)
      (clocks_seen c.one_among-clock.result) (least_view c.loop-value.least) (least_view c.one_among-clock.new.least)
      (omega arith) c.value-item.is c.one_among-clock.ensures.clock c.one_among-clock.ensures.least ∙ c.loop-value.invariant.noted;
  clocks = clock_step (names_view c.args.names) c.args.values.now c.loop-value.value-index c.value-item.result
      (clocks_seen c.loop-value.clock) (clocks_seen c.one_among-clock.result)
      (omega arith) c.value-item.is c.one_among-clock.ensures.clock ∙ c.loop-value.invariant.clocks;
}

pub each-loop-value-preserved : goal.each-loop-value-preserved
each-loop-value-preserved t c = each_step (names_view c.args.names) c.args.values.now c.loop-value.value-index c.value-item.result
    (least_view c.loop-value.least) (least_view c.part.new.least) (omega arith) c.value-item.is c.part.ensures.least ∙ c.loop-value.invariant
