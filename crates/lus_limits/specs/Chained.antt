-- What contracts see of terms that are joined.
use Rattle.lus_limits.specs.Peaks.{Chain}
use Rattle.lus_limits.specs.declared.chains.Chain.{Chain as CodeChain}
use Rattle.lus_limits.specs.Measured.{size_view}

abbrev pub chain_view : CodeChain → Chain
chain_view c = record { is_none = c.is_none; whole = size_view c.whole; lift = c.lift; behind = size_view c.behind }
