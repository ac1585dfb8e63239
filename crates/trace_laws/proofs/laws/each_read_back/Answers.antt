use Rattle.trace_laws.proofs.Written.{each_read_back}
use Rattle.trace_laws.proofs.laws.each_read_back.Goals as goal

pub returns : goal.returns
returns c =
    each_read_back c.unfolded_instances.ensures c.one_instance.ensures.declared c.small_systems.ensures c.read_back.ensures
