use Rattle.std.proofs.Common.{◌≡◌, ◌++◌, drop}
use Rattle.evaluation_parts.specs.Conditions.{calls_view}
use Rattle.evaluation_parts.specs.Framed.{asserted_each}
use Rattle.evaluation_parts.specs.PartViews.{parts_view}
use Rattle.evaluation_parts.specs.Texts.{setting_view}
use Rattle.evaluation_parts.specs.Views.{links_view}
use Rattle.evaluation_parts.proofs.frames.push_asserted_each.Given as goal

abbrev pub invariant-loop-link : goal.invariant-loop-link
invariant-loop-link l = parts_view l.all.items
    ++ asserted_each (setting_view l.setting) (calls_view l.setting) (links_view (drop l.link-index l.links))
    ≡ parts_view l.initial.all.items ++ asserted_each (setting_view l.setting) (calls_view l.setting) (links_view l.links)
