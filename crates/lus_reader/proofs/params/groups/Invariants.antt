use Rattle.std.proofs.Common.{◌≤◌, ◌-◌, map, length}
use Rattle.lus_tree.specs.View.{param_view}
use Rattle.lus_grammar.specs.Stream.{stream}
use Rattle.lus_grammar.specs.Phrase.{part}
use Rattle.lus_grammar.specs.Phrase as P
use Rattle.lus_grammar.specs.Syntax.{Counts}
use Rattle.lus_grammar.specs.Programs.{groups_of}
use Rattle.lus_reader.specs.Leads.{Leads}
use Rattle.lus_reader.proofs.params.groups.Given as goal

abbrev pub invariant-loop-params : goal.invariant-loop-params
invariant-loop-params l = record {
  leads : (n : Counts) → Leads groups_of groups_of (stream l.bytes l.tokens) (part P.Groups) (part P.Groups) l.at n (map param_view l.params.items) l.next n;
  past : l.at ≤ l.next;
}

abbrev pub decreases-loop-params : goal.decreases-loop-params
decreases-loop-params l = length l.tokens - l.next
