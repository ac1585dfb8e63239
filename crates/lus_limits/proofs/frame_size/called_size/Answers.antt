use Rattle.lus_limits.specs.Contracted.{contract_seen}
use Rattle.lus_limits.specs.Measured.{size_view}
use Rattle.lus_limits.specs.SizeSummaries.{inputs_given}
use Rattle.lus_streams.specs.Names.{names_view}
use Rattle.lus_limits.proofs.Frames.{with_callees}
use Rattle.lus_limits.proofs.frame_size.called_size.Goals as goal

pub returns : goal.returns
returns c =
    with_callees _ (inputs_given (names_view c.args.names)) (names_view c.args.names) (contract_seen c.args.contract.now) (size_view c.own_terms-own.result)
    (size_view c.args.callees) (size_view c.greater.result) c.in_ok-known.ensures c.own_terms-own.ensures c.greater.ensures
