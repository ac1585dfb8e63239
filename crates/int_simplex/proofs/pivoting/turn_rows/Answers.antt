use Rattle.std.specs.Prelude.{ℕ, ◌≡◌, ◌+◌, List, Contains, drop, map, Some}
use Rattle.std.proofs.Common.{ap, ◌∙◌, sym, subst, refl}
use lib.IntN.{ℤ}
use Rattle.proof_steps.specs.View.{row_view}
use Rattle.int_simplex.specs.Sparse.{IsSparse}
use Rattle.int_simplex.specs.Holding.{lists_of, holders}
use Rattle.int_simplex.specs.Pivoting.{AreTurned, IsTurned, IsTurnedPast}
use Rattle.int_simplex.proofs.Places.{same_some}
use Rattle.int_simplex.proofs.Holding.{list_of}
use Rattle.int_simplex.proofs.Nexts.{next_none, next_all, turned_more, row_there, memory_alone, turn_past, news_sparse, all_listed, within_list, next_in, none_left, in_rows}
use Rattle.int_simplex.proofs.pivoting.turn_rows.Goals as goal

pub returns-in_err-other-clause-past : goal.returns-in_err-other-clause-past
returns-in_err-other-clause-past c =
    memory_alone c.args.at c.args.entering (map row_view c.args.rows.now.items) c.from_residual.result c.from_residual.ensures.1

pub loop-i-init : goal.loop-i-init
loop-i-init c =
    let t = c.in_ok-touched.ensures.items ∙ c.deref-2.ensures.value
    ∙ list_of c.args.lists.now.items c.args.columns c.args.entering c.index-2.result.now c.requires.entering c.requires.listed.count c.index-2.ensures in
    record {
      next = next_none c.args.columns c.args.at c.args.entering c.in_ok-other.other.items (map row_view c.args.rows.now.items)
          c.in_ok-touched.touched.items
          (λ k row e n. subst (λ (xs : List ℕ). Contains xs k) (sym t) (c.requires.listed.held k row e c.args.entering n));
      listed = c.requires.listed;
    }

pub turn_row-requires-clause-in_range : goal.turn_row-requires-clause-in_range
turn_row-requires-clause-in_range c =
    let t = c.in_ok-touched.ensures.items ∙ c.deref-2.ensures.value
    ∙ list_of c.args.lists.now.items c.args.columns c.args.entering c.index-2.result.now c.requires.entering c.requires.listed.count c.index-2.ensures in
    let w = within_list c.loop-i.i c.len-i-end.result _ c.in_ok-touched.touched.items c.loop-i-test.true c.len-i-end.ensures c.in_ok-touched.touched.ok.0 in
    let i = all_listed c.in_ok-touched.touched.items (holders (lists_of c.args.lists.now.items) c.args.entering) c.loop-i.i c.index-in-loop-i.result.now
    t w c.index-in-loop-i.ensures in
    in_rows c.index-in-loop-i.result.now c.args.rows.now.items c.loop-i.rows.items
    (c.requires.listed.within c.args.entering c.index-in-loop-i.result.now i) c.loop-i.invariant.next.count

pub turn_row-requires-clause-row : goal.turn_row-requires-clause-row
turn_row-requires-clause-row c = λ r e.
    news_sparse c.args.columns c.args.at c.args.entering c.in_ok-other.other.items (map row_view c.args.rows.now.items)
    (map row_view c.loop-i.rows.items) c.in_ok-touched.touched.items (drop c.loop-i.i c.in_ok-touched.touched.items)
    c.loop-i.invariant.next c.requires.sparse c.index-in-loop-i.result.now r e

pub turn_row-requires-clause-other : goal.turn_row-requires-clause-other
turn_row-requires-clause-other c =
    let e = row_there c.args.rows.now.items c.args.at c.index.result.now c.requires.at c.index.ensures in
    subst (λ (r : List (ℕ × ℤ)). IsSparse c.args.columns r) (sym (c.deref-in-loop-i.ensures.value ∙ c.in_ok-other.ensures.items ∙ c.deref.ensures.value))
    (c.requires.sparse c.args.at c.index.result.now.items e)

pub returns-in_err-turn_row-clause-past : goal.returns-in_err-turn_row-clause-past
returns-in_err-turn_row-clause-past c =
    let w = within_list c.loop-i.i c.len-i-end.result _ c.in_ok-touched.touched.items c.loop-i-test.true c.len-i-end.ensures c.in_ok-touched.touched.ok.0 in
    let i = all_listed c.in_ok-touched.touched.items c.in_ok-touched.touched.items c.loop-i.i c.index-in-loop-i.result.now refl w c.index-in-loop-i.ensures in
    let eo = row_there c.args.rows.now.items c.args.at c.index.result.now c.requires.at c.index.ensures in
    let o : c.in_ok-other.other.items ≡ c.index.result.now.items = c.in_ok-other.ensures.items ∙ c.deref.ensures.value in
    turn_past c.args.columns c.args.at c.args.entering c.in_ok-other.other.items (map row_view c.args.rows.now.items) (map row_view c.loop-i.rows.items)
    c.in_ok-touched.touched.items (drop c.loop-i.i c.in_ok-touched.touched.items) (drop (c.loop-i.i + 1) c.in_ok-touched.touched.items)
    c.index-in-loop-i.result.now (next_in c.in_ok-touched.touched.items c.loop-i.i c.index-in-loop-i.result.now w c.index-in-loop-i.ensures) i
    c.loop-i.invariant.next c.in_err-turn_row.field-0.0 c.from_residual-in_err-turn_row.result (eo ∙ ap Some (sym o))
    (subst (λ (r : List (ℕ × ℤ)). IsTurnedPast c.args.at c.args.entering r c.index-in-loop-i.result.now
    (map row_view c.loop-i.rows.items) c.in_err-turn_row.field-0.0) c.deref-in-loop-i.ensures.value c.in_err-turn_row.ensures.past)
    c.from_residual-in_err-turn_row.ensures.1

pub loop-i-preserved : goal.loop-i-preserved
loop-i-preserved c =
    let w = within_list c.loop-i.i c.len-i-end.result _ c.in_ok-touched.touched.items c.loop-i-test.true c.len-i-end.ensures c.in_ok-touched.touched.ok.0 in
    let i = all_listed c.in_ok-touched.touched.items c.in_ok-touched.touched.items c.loop-i.i c.index-in-loop-i.result.now refl w c.index-in-loop-i.ensures in
    let t = subst (λ (r : List (ℕ × ℤ)). IsTurned c.args.columns c.args.at c.args.entering r c.index-in-loop-i.result.now
    (map row_view c.loop-i.rows.items) (map row_view c.turn_row.new.rows.items)) c.deref-in-loop-i.ensures.value c.in_ok-turn_row.ensures.made in
    record {
      next = turned_more c.args.columns c.args.at c.args.entering c.in_ok-other.other.items (map row_view c.args.rows.now.items)
          (map row_view c.loop-i.rows.items) c.in_ok-touched.touched.items (drop c.loop-i.i c.in_ok-touched.touched.items)
          (drop (c.loop-i.i + 1) c.in_ok-touched.touched.items) c.index-in-loop-i.result.now
          (next_in c.in_ok-touched.touched.items c.loop-i.i c.index-in-loop-i.result.now w c.index-in-loop-i.ensures) i
          c.loop-i.invariant.next (map row_view c.turn_row.new.rows.items) t;
      listed = c.in_ok-turn_row.ensures.listed;
    }

pub returns-clause-made : goal.returns-clause-made
returns-clause-made c = λ other e.
    let eo = row_there c.args.rows.now.items c.args.at c.index.result.now c.requires.at c.index.ensures in
    let o : c.in_ok-other.other.items ≡ other = c.in_ok-other.ensures.items ∙ c.deref.ensures.value ∙ same_some c.index.result.now.items other (sym eo ∙ e) in
    let P : List (ℕ × ℤ) → Type 0 = λ r. AreTurned c.args.columns c.args.at c.args.entering r (map row_view c.args.rows.now.items)
    (map row_view c.loop-i.rows.items) c.in_ok-touched.touched.items in
    subst P o (next_all c.args.columns c.args.at c.args.entering c.in_ok-other.other.items (map row_view c.args.rows.now.items)
    (map row_view c.loop-i.rows.items) c.in_ok-touched.touched.items (drop c.loop-i.i c.in_ok-touched.touched.items)
    (none_left c.in_ok-touched.touched.items c.loop-i.i c.len-i-end.result _ c.loop-i-test.false c.len-i-end.ensures c.in_ok-touched.touched.ok.0)
    c.loop-i.invariant.next)
