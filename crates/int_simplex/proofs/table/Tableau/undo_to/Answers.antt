use Rattle.std.specs.Prelude.{ℕ, ◌≡◌, ◌<◌, List, All, length, map, take, true, false}
use Rattle.std.proofs.Common.{ap, ◌∙◌, sym, subst}
use Rattle.int_simplex.specs.State.{Standing, State}
use Rattle.int_simplex.specs.Sound.{IsUncrossed}
use Rattle.int_simplex.specs.Inner.{standing, state_of, AreLimits, IsWithinColumns}
use Rattle.int_simplex.proofs.Asserts.{uncrossed_taken, all_taken}
use Rattle.int_simplex.proofs.Settled.{map_take, sound_bounds}
use Rattle.int_simplex.proofs.table.Tableau.undo_to.Goals as goal

pub invariant_of-self : goal.invariant_of-self
invariant_of-self c =
    let a = c.undo.ensures in
    let i = c.self.invariant in
    let e : map standing c.undo.new.trail.items ≡ take c.args.mark (map standing c.self.inside.trail.items) =
    ap (map standing) a.trail ∙ map_take standing c.args.mark c.self.inside.trail.items in
    let n : length c.self.inside.lowers.items ≡ c.self.inside.columns = i.lowers.count in
    record {
      sound = λ u. let s = i.sound u in
          sound_bounds (state_of c.self.inside) (map standing c.undo.new.trail.items) s
          (subst (λ (bs : List Standing). All (λ (b : Standing). b.column < c.self.inside.columns) bs) (sym e)
          (all_taken c.args.mark (λ (b : Standing). b.column < c.self.inside.columns) (map standing c.self.inside.trail.items) s.of_columns))
          (subst IsUncrossed (sym e) (uncrossed_taken c.args.mark (map standing c.self.inside.trail.items) s.uncrossed));
      rows = i.rows;
      free = i.free;
      listed = i.listed;
      seats = i.seats;
      own = i.own;
      lowers = subst (λ (k : ℕ). AreLimits k false (map standing c.undo.new.trail.items) c.undo.new.lowers.items) n a.lowers;
      uppers = subst (λ (k : ℕ). AreLimits k true (map standing c.undo.new.trail.items) c.undo.new.uppers.items) n a.uppers;
      before = a.before;
      columns = subst (λ (k : ℕ). IsWithinColumns k c.undo.new.trail.items) n a.columns;
    }

pub returns : goal.returns
returns c =
    let a = c.undo.ensures in
    let e : map standing c.undo.new.trail.items ≡ take c.args.mark (map standing c.self.inside.trail.items) =
    ap (map standing) a.trail ∙ map_take standing c.args.mark c.self.inside.trail.items in
    ap (λ (bs : List Standing). let s : State = record {
      given = (state_of c.self.inside).given;
      columns = c.self.inside.columns;
      basis = c.self.inside.basis.items;
      values = c.self.inside.values.items;
      bounds = bs;
      usable = c.self.inside.usable;
    } in s) e
    ∙ ap (λ (s : State). let t : State = record {
      given = s.given;
      columns = s.columns;
      basis = s.basis;
      values = s.values;
      bounds = take
          c.args.mark s.bounds;
      usable = s.usable;
    } in t) c.self.view_is
