-- What a name needs by how it is declared, list by list of streams.
use Rattle.std.proofs.Common.{◌≡◌, ◌++◌, List}
use Rattle.std.proofs.lemmas.Grind.{flat_map-append}
use Rattle.lus_tree.specs.Tree.{Name, Variable}
use Rattle.evaluation_order.specs.Steps.{stream_needs}

pub streams_apart : (x : Name) (vs us : List Variable) → stream_needs x (vs ++ us) ≡ stream_needs x vs ++ stream_needs x us
streams_apart x vs us = flat_map-append _ vs us
