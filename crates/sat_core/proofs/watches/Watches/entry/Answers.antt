use Rattle.std.specs.Prelude.{◌≡◌, ◌<◌, Some, length, slice_get}
use Rattle.std.proofs.Common.{sym, subst}
use Rattle.sat_core.specs.Watching.{list_at}
use Rattle.sat_core.proofs.Rows.{entry-at}
use Rattle.sat_core.proofs.watches.Watches.entry.Goals as goal

pub returns : goal.returns
returns c = subst (λ w. slice_get (list_at w c.args.literal) c.args.at ≡ Some c.index-2.result.now) c.self.view_is
    (entry-at c.self.inside.lists.items _ _ c.args.at c.index.result.now c.index-2.result.now c.place.ensures
    (subst (λ w. c.args.at < length (list_at w c.args.literal)) (sym c.self.view_is) c.requires) c.index.ensures c.index-2.ensures)
