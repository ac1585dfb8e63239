use Rattle.std.proofs.Common.{rules, sym}
use Rattle.lus_meaning.proofs.Exists.{length_mapped}
use Rattle.sys_terms.specs.View.{state_view}
use Rattle.path_traces.proofs.trace.trace_of.Goals as goal

pub returns : goal.returns
returns c = record {
  exact = λ path. record { node = search rules; length = sym (length_mapped state_view c.args.states.now); lines = c.in_ok-lines.ensures path };
}
