use Rattle.std.proofs.Common.{◌≡◌, true, subst, sym}
use Rattle.slot_rows.specs.SlotReads.{reads_view}
use Rattle.slot_rows.specs.Searching.{Searching, StaysMet, is_met, search_view}
use Rattle.slot_rows.proofs.Searched.{root_met, stays_met, visit_starts}
use Rattle.slot_rows.proofs.search.Search.visit.Goals as goal

pub loop-slot-init : goal.loop-slot-init
loop-slot-init c =
    let rows = reads_view c.args.rows.now in
    let s = search_view c.args.self.now in
    let e = c.in_ok-enter.ensures.entered in
    record {
      searching = subst (Searching rows) (sym e) (visit_starts rows s c.args.root c.requires.searching c.requires.nothing c.requires.below);
      root_met = subst (λ u. is_met u c.args.root ≡ true) (sym e) (root_met rows s c.args.root);
      stays = subst (StaysMet rows s) (sym e) (stays_met rows s c.args.root);
    }
