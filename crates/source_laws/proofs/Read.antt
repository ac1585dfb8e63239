-- The parts of a source's tree.
use Rattle.std.proofs.Common.{ℕ, List, sym, subst}
use Rattle.lus_tree.specs.Tree.{Program}
use Rattle.lus_lexer.specs.declared.token.Token.{Token as Tok}
use Rattle.lus_grammar.specs.Stream.{stream}
use Rattle.lus_grammar.specs.Source.{AreTokens, IsSource}
use Rattle.source_laws.proofs.Parts.{IsProgram}
use Rattle.source_laws.proofs.Tokens.{names_marked, numbers_marked, texts_marked}
use Rattle.source_laws.proofs.Lines.{AreMarks}
use Rattle.source_laws.proofs.DeclarationLines.{program_parts}

marks : (bytes : List ℕ) (ts : List Tok) → AreTokens bytes ts → AreMarks (stream bytes ts)
marks bytes ts h =
    record { name = names_marked bytes ts h; number = numbers_marked bytes ts h; text = texts_marked bytes ts h }

pub source_parts : (bytes : List ℕ) (p : Program) → IsSource bytes p → IsProgram p
source_parts bytes p s = subst IsProgram (sym s.is) (program_parts (marks bytes s.tokens s.cut) s.text)
