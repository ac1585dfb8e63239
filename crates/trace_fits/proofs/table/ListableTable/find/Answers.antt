use Rattle.std.proofs.Common.{rules, ◌≡◌, ap, ◌∙◌}
use Rattle.std.specs.Option.{option_copied}
use Rattle.trace_fits.specs.Views.{slotted_seen, subject_view}
use Rattle.trace_fits.proofs.Keys.{looked_up}
use Rattle.trace_fits.proofs.table.ListableTable.find.Goals as goal

pub returns : goal.returns
returns c =
    let e : c.copied.result ≡ option_copied c.get.result = search rules in
    ap slotted_seen (e ∙ c.get.ensures.value ∙ looked_up c.args.self.now.places.entries c.args.place)
    ∙ c.args.self.now.first c.args.place.way.now (subject_view c.args.place.what)
