use Rattle.std.specs.Prelude.{◌≤◌, Some, length, slice_set, ◌-◌}
use Rattle.std.proofs.Common.{sym, subst}
use Rattle.sat_core.specs.Watching.{Watching, IsMoved, lists_of}
use Rattle.sat_core.proofs.Pairs.{moved}
use Rattle.sat_core.proofs.watches.Watches.replace.Goals as goal

pub returns-clause-ok : goal.returns-clause-ok
returns-clause-ok c =
    let new : Watching = record {
      lists = lists_of c.remove_at.new.lists.items;
      pairs = slice_set c.self.inside.pairs.items (c.args.number - 1) (Some (c.args.found, c.args.other));
      shorts = c.self.inside.shorts.items;
    } in
    subst (λ w. IsMoved w new c.args.literal c.args.at c.args.number c.args.other c.args.found) c.self.view_is
    (moved (lists_of c.self.inside.lists.items) (lists_of c.push_at.new.lists.items) (lists_of c.remove_at.new.lists.items)
    c.args.literal c.args.found c.args.other c.args.at c.args.number c.self.inside.pairs.items c.self.inside.shorts.items
    c.place-2.result c.place.result c.place-2.ensures c.place.ensures
    c.in_ok-push_at.ensures.ok c.remove_at.ensures.from c.remove_at.ensures.others c.requires.apart c.requires.positive
    (subst (λ (w : Watching). c.args.number ≤ length w.pairs) (sym c.self.view_is) c.requires.within))
