use Rattle.path_traces.proofs.Indexes.{index_so}
use Rattle.path_traces.proofs.names.index_of.Goals as goal

pub returns : goal.returns
returns c = index_so c.new-places.result c.note_all.new.places _ c.new-places.ensures.empty c.in_ok-note_all.ensures
