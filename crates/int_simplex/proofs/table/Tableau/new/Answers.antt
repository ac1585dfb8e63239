use Rattle.std.specs.Prelude.{ℕ, ◌≡◌, ◌<◌, All, List, [], Option, true, false, map, replicate, Some, slice_get}
use Rattle.std.proofs.Common.{ap, ◌∙◌, sym, subst}
use lib.IntN.{ℤ, pos}
use Rattle.proof_steps.specs.View.{row_view}
use Rattle.std.specs.declared.vec.Vec.{Vec}
use Rattle.std.specs.declared.alloc.Global.{Global}
use Rattle.int_simplex.specs.Holding.{lists_of, AreListed}
use Rattle.int_simplex.specs.State.{Standing}
use Rattle.int_simplex.specs.Seating.{AreSeats}
use Rattle.int_simplex.specs.Marks.{AreOwnValues}
use Rattle.int_simplex.proofs.Fresh.{own_first, column_below}
use Rattle.int_simplex.proofs.Opposites.{first_basis}
use Rattle.int_simplex.specs.Given.{last_columns}
use Rattle.int_simplex.specs.Inner.{AreRows, IsFree, AreLimits, AreBefore, IsWithinColumns, standing}
use Rattle.int_simplex.specs.declared.table.Asserted.{Asserted}
use Rattle.int_simplex.proofs.First.{free_first}
use Rattle.int_simplex.proofs.Begun.{begun_sound, begun_rows, no_limits, sound_parts, same_pair, none_before, none_within}
use Rattle.int_simplex.proofs.table.Tableau.new.Goals as goal

pub seated-requires : goal.seated-requires
seated-requires c =
    subst (λ (b : List ℕ). All (λ k. k < c.args.columns) b) (sym (c.deref.ensures.value ∙ c.in_ok-basis.ensures))
    (first_basis (map row_view c.args.rows.now) c.args.columns c.requires).in_range

pub listed-requires : goal.listed-requires
listed-requires c = λ k r e.
    (begun_rows (map row_view c.args.rows.now) c.args.columns c.requires (map row_view c.in_ok-rows.rows.items) c.in_ok-rows.ensures).sparse k r
    (subst (λ (xs : List (Vec (ℕ × ℤ) Global)). slice_get (map row_view xs) k ≡ Some r) c.deref-2.ensures.value e)

pub invariant_of-result : goal.invariant_of-result
invariant_of-result c =
    let eg = c.in_ok-given.ensures in let eb = c.in_ok-basis.ensures in let er = c.in_ok-rows.ensures in
    let ev = c.in_ok-values.ensures.items_if_clones_equal (λ y h. same_pair y h.0 h.1) in
    let el = c.in_ok-lowers.ensures in let eu = c.in_ok-uppers.ensures in let et = c.new.ensures.items in
    let es : map standing c.new.result.items ≡ [] = ap (map standing) et in
    record {
      sound = λ u. sound_parts (map row_view c.args.rows.now) (map row_view c.in_ok-given.given.items) c.args.columns
          (last_columns (map row_view c.args.rows.now)) c.in_ok-basis.basis.items
          (replicate c.args.columns (pos 0, pos 1)) c.in_ok-values.values.items [] (map standing c.new.result.items) (sym eg) (sym eb) (sym ev) (sym es)
          (begun_sound (map row_view c.args.rows.now) c.args.columns c.requires);
      rows = λ u.
          subst (λ (g : List (List (ℕ × ℤ))). AreRows g c.args.columns c.in_ok-basis.basis.items (map row_view c.in_ok-rows.rows.items)) (sym eg)
          (subst (λ (b : List ℕ). AreRows (map row_view c.args.rows.now) c.args.columns b (map row_view c.in_ok-rows.rows.items)) (sym eb)
          (begun_rows (map row_view c.args.rows.now) c.args.columns c.requires (map row_view c.in_ok-rows.rows.items) er));
      free = λ u.
          subst (λ (g : List (List (ℕ × ℤ))). IsFree g c.in_ok-basis.basis.items) (sym eg)
          (subst (λ (b : List ℕ). IsFree (map row_view c.args.rows.now) b) (sym eb) (free_first (map row_view c.args.rows.now)));
      listed = λ u.
          subst (λ (xs : List (Vec (ℕ × ℤ) Global)). AreListed c.args.columns (map row_view xs) (lists_of c.in_ok-lists.lists.items))
          c.deref-2.ensures.value c.in_ok-lists.ensures;
      seats = λ u. subst (λ (b : List ℕ). AreSeats c.args.columns b c.in_ok-seats.seats.items) c.deref.ensures.value c.in_ok-seats.ensures;
      own = λ u. subst (λ (vs : List (ℤ × ℤ)). AreOwnValues c.in_ok-basis.basis.items (map row_view c.in_ok-rows.rows.items) vs) (sym ev)
          (own_first c.args.columns c.in_ok-basis.basis.items (map row_view c.in_ok-rows.rows.items)
          (λ k x e. column_below c.args.columns c.in_ok-basis.basis.items k x
          (subst (λ (b : List ℕ). All (λ k. k < c.args.columns) b) (sym eb)
          (first_basis (map row_view c.args.rows.now) c.args.columns c.requires).in_range) e));
      lowers = subst (λ (bs : List Standing). AreLimits c.args.columns false bs c.in_ok-lowers.lowers.items) (sym es)
          (subst (λ (ls : List (Option (ℤ × ℕ))). AreLimits c.args.columns false [] ls) (sym el) (no_limits c.args.columns false));
      uppers = subst (λ (bs : List Standing). AreLimits c.args.columns true bs c.in_ok-uppers.uppers.items) (sym es)
          (subst (λ (ls : List (Option (ℤ × ℕ))). AreLimits c.args.columns true [] ls) (sym eu) (no_limits c.args.columns true));
      before = subst AreBefore (sym et) none_before;
      columns = subst (λ (t : List Asserted). IsWithinColumns c.args.columns t) (sym et) (none_within c.args.columns);
    }
