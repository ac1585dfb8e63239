use Rattle.std.specs.Prelude.{◌≡◌, ℕ, List, length, map, Some, None}
use Rattle.std.proofs.Common.{ap, ◌∙◌, sym, subst, arith}
use Rattle.std.proofs.lemmas.Option.{slice_get_within}
use Rattle.std.proofs.lemmas.List.{length-map}
use lib.IntN.{ℤ}
use Rattle.proof_steps.specs.View.{row_view}
use Rattle.int_simplex.specs.Choosing.{IsEntering}
use Rattle.int_simplex.specs.Farkas.{IsRefuted}
use Rattle.int_simplex.specs.Refuting.{part_of, IsSizePast}
use Rattle.int_simplex.proofs.Moves.{fits, pivots, turn, stuck, refuted}
use Rattle.int_simplex.proofs.Stops.{size_result}
use Rattle.int_simplex.proofs.Nexts.{row_there}
use Rattle.int_simplex.proofs.Kept.{values_fractions}
use Rattle.int_simplex.proofs.moving.next_move.Goals as goal

pub leaving-requires-clause-fractions : goal.leaving-requires-clause-fractions
leaving-requires-clause-fractions c =
    values_fractions (map row_view c.args.given.now) (length c.args.lowers.now) c.args.basis.now
    (map row_view c.args.rows.now) c.args.places.now c.args.values.now c.requires.kept

pub returns-in_default-clause-found : goal.returns-in_default-clause-found
returns-in_default-clause-found c = λ bounds a.
    fits (map row_view c.args.given.now) (length c.args.lowers.now) bounds c.args.lowers.now c.args.uppers.now c.args.basis.now
    (map row_view c.args.rows.now) c.args.places.now c.args.values.now
    c.requires.kept a c.in_default.ensures

pub returns-in-Some-entering-clause-found : goal.returns-in-Some-entering-clause-found
returns-in-Some-entering-clause-found c = λ bounds a.
    let k = c.requires.kept in
    let h = slice_get_within c.args.basis.now c.in-Some.out.at c.in-Some.out.column c.in-Some.ensures.0 in
    let l : length (map row_view c.args.rows.now) ≡ length c.args.rows.now = length-map c.args.rows.now row_view in
    let n = k.ready.are_rows.count in
    let er = row_there c.args.rows.now c.in-Some.out.at c.index-rows-out.result (omega arith) c.index-rows-out.is in
    pivots (map row_view c.args.given.now) (length c.args.lowers.now) bounds c.args.lowers.now c.args.uppers.now c.args.basis.now
    (map row_view c.args.rows.now) c.args.places.now c.args.values.now
    k a c.in-Some.out c.index-rows-out.result.items c.in-Some.ensures er c.in-Some-entering.column
    (subst (λ (r : List (ℕ × ℤ)). IsEntering r c.in-Some.out.column c.in-Some.out.side c.args.places.now c.args.lowers.now c.args.uppers.now
    (Some c.in-Some-entering.column)) c.deref.ensures.value c.in-Some-entering.ensures)

pub returns-in-Some-entering-clause-turn : goal.returns-in-Some-entering-clause-turn
returns-in-Some-entering-clause-turn c =
    let k = c.requires.kept in
    let h = slice_get_within c.args.basis.now c.in-Some.out.at c.in-Some.out.column c.in-Some.ensures.0 in
    let l : length (map row_view c.args.rows.now) ≡ length c.args.rows.now = length-map c.args.rows.now row_view in
    let n = k.ready.are_rows.count in
    let er = row_there c.args.rows.now c.in-Some.out.at c.index-rows-out.result (omega arith) c.index-rows-out.is in
    turn (length c.args.lowers.now) c.args.basis.now (map row_view c.args.rows.now) c.args.places.now c.args.values.now c.args.lowers.now
    c.args.uppers.now c.in-Some.out
    c.index-rows-out.result.items c.in-Some-entering.column (k.ready.are_rows.sparse c.in-Some.out.at c.index-rows-out.result.items er) er c.in-Some.ensures
    (subst (λ (r : List (ℕ × ℤ)). IsEntering r c.in-Some.out.column c.in-Some.out.side c.args.places.now c.args.lowers.now c.args.uppers.now
    (Some c.in-Some-entering.column)) c.deref.ensures.value c.in-Some-entering.ensures)

pub returns-in_ok-farkas-in-None-clause-found : goal.returns-in_ok-farkas-in-None-clause-found
returns-in_ok-farkas-in-None-clause-found c = λ bounds a.
    let k = c.requires.kept in
    let h = slice_get_within c.args.basis.now c.in-Some.out.at c.in-Some.out.column c.in-Some.ensures.0 in
    let l : length (map row_view c.args.rows.now) ≡ length c.args.rows.now = length-map c.args.rows.now row_view in
    let n = k.ready.are_rows.count in
    let er = row_there c.args.rows.now c.in-Some.out.at c.index-rows-out.result (omega arith) c.index-rows-out.is in
    let e = subst (λ (r : List (ℕ × ℤ)). IsEntering r c.in-Some.out.column c.in-Some.out.side c.args.places.now c.args.lowers.now
    c.args.uppers.now None) c.deref.ensures.value c.in-None.ensures in
    let p = c.in_ok-farkas-in-None.ensures.parts
    ∙ ap (λ (r : List (ℕ × ℤ)). map (part_of r c.in-Some.out.column c.in-Some.out.side c.args.lowers.now c.args.uppers.now) r)
    c.deref-in-None.ensures.value in (
      subst (λ (ps : List (ℤ × ℕ)). IsRefuted (map row_view c.args.given.now) (length c.args.lowers.now) bounds ps) (sym p)
          (refuted (map row_view c.args.given.now) (length c.args.lowers.now) bounds c.args.lowers.now c.args.uppers.now c.args.basis.now
          (map row_view c.args.rows.now) c.args.places.now c.args.values.now
          k a c.in-Some.out c.index-rows-out.result.items c.in-Some.ensures er e),
      stuck (map row_view c.args.given.now) (length c.args.lowers.now) bounds c.args.lowers.now c.args.uppers.now c.args.basis.now
          (map row_view c.args.rows.now) c.args.places.now c.args.values.now
          k a c.in-Some.out c.index-rows-out.result.items c.in-Some.ensures er e,
    )

pub returns-in_err-farkas-in-None-clause-past : goal.returns-in_err-farkas-in-None-clause-past
returns-in_err-farkas-in-None-clause-past c =
    let k = c.requires.kept in
    let h = slice_get_within c.args.basis.now c.in-Some.out.at c.in-Some.out.column c.in-Some.ensures.0 in
    let l : length (map row_view c.args.rows.now) ≡ length c.args.rows.now = length-map c.args.rows.now row_view in
    let n = k.ready.are_rows.count in
    let er = row_there c.args.rows.now c.in-Some.out.at c.index-rows-out.result (omega arith) c.index-rows-out.is in
    size_result (map row_view c.args.given.now) (length c.args.lowers.now) c.args.basis.now
    (map row_view c.args.rows.now) k.ready c.in-Some.out.at c.in-Some.out.column
    c.index-rows-out.result.items c.in_err-farkas-in-None.field-0.0 c.from_residual.result c.in-Some.ensures.0 er
    (subst (λ (r : List (ℕ × ℤ)). IsSizePast r (map row_view c.args.given.now) c.in_err-farkas-in-None.field-0.0)
    c.deref-in-None.ensures.value c.in_err-farkas-in-None.ensures.past)
    c.from_residual.ensures.1
