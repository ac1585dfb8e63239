use Rattle.std.proofs.Common.{◌∙◌, ap, option_map}
use Rattle.lus_scopes.specs.Scopes.{entry_view}
use Rattle.lus_scopes.proofs.lookup.entry.Goals as goal

pub returns : goal.returns
returns c =
    λ hidden. ap (option_map (entry_view c.args.layer.extent hidden)) (c.copied.ensures ∙ c.get.ensures.value)
    ∙ c.args.layer.found c.args.layer.extent hidden c.args.name.now
