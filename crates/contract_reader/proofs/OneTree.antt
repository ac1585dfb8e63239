-- No text has two trees.
use Rattle.std.proofs.Common.{◌≡◌, ℕ, refl, sym, ap, ◌∙◌, subst, arith, List, length, None}
use Rattle.lus_tree.specs.Tree.{Program}
use Rattle.lus_lexer.specs.declared.token.Token.{Token as Tok}
use Rattle.lus_lexer.specs.Tokens.{whole}
use Rattle.lus_lexer.proofs.Unique.{one_reading}
use Rattle.lus_grammar.specs.Stream.{stream}
use Rattle.lus_grammar.specs.Syntax.{Counts, none_before, Syntax}
use Rattle.lus_grammar.specs.Text.{Text}
use Rattle.lus_grammar.specs.Programs.{program_of}
use Rattle.lus_grammar.specs.Source.{limit, program, OneTree}
use Rattle.lus_grammar.proofs.Unique.{one_syntax}
use Rattle.lus_reader.proofs.Cuts.{end_at}

-- all tokens of the bytes are a text of a program
abbrev AllText : List ℕ → List Tok → Counts → Syntax → Type 0
AllText bytes ts m x = Text limit (length ts) (stream bytes ts) program 0 (length ts) none_before m x

one_program : (bytes : List ℕ) (ts : List Tok) (m m' : Counts) (x x' : Syntax) (p q : Program) → AllText bytes ts m x
    → AllText bytes ts m' x' → p ≡ program_of x → q ≡ program_of x' → p ≡ q
one_program bytes ts m m' x x' p q d e f g =
    let end : (stream bytes ts (length ts)).class ≡ None = ap (λ z. z.class) (end_at bytes ts (length ts) (omega arith)) in
    let w = one_syntax d e refl end end in
    f ∙ (sym (ap program_of w.syntax) ∙ sym g)

pub one_tree : OneTree
one_tree bytes p q a b =
    let same = one_reading bytes 0 a.tokens b.tokens whole whole a.cut b.cut in
    let text = subst (λ (ts : List Tok). AllText bytes ts b.counts b.syntax) (sym same.tokens) b.text in
    one_program bytes a.tokens a.counts b.counts a.syntax b.syntax p q a.text text a.is b.is
