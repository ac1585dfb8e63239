use Rattle.std.proofs.Common.{◌≤◌, ◌<◌, ◌-◌, map, length}
use Rattle.lus_lexer.specs.declared.token.Sign.TheVariants as S
use Rattle.lus_tree.specs.View.{word_view}
use Rattle.lus_grammar.specs.Stream.{stream}
use Rattle.lus_grammar.specs.Phrase.{◌⨾◌, part, repeated, sign, identifier, Names}
use Rattle.lus_grammar.specs.Syntax.{Counts}
use Rattle.lus_grammar.specs.Programs.{names_of, more_names_of}
use Rattle.lus_reader.specs.Leads.{Leads}
use Rattle.lus_reader.proofs.words.names.Given as goal

abbrev pub invariant-loop-alloc : goal.invariant-loop-alloc
invariant-loop-alloc l = record {
  leads : (n : Counts) → Leads names_of more_names_of (stream l.bytes l.tokens) (part Names) (repeated (sign S.Comma ⨾ identifier)) l.at n
      (map word_view l.words.items) l.next n;
  past : l.at < l.next;
  inside : l.next ≤ length l.tokens;
}

abbrev pub decreases-loop-alloc : goal.decreases-loop-alloc
decreases-loop-alloc l = length l.tokens - l.next
