use Rattle.std.proofs.Common.{[], sym, ap, ◌∙◌, subst, append-nil}
use Rattle.std.specs.Str.{IsAscii}
use Rattle.lus_grammar.specs.Source.{AreTokens}
use Rattle.lus_reader.proofs.Cuts.{default, mark_at, ascii_at}
use Rattle.lus_reader.proofs.look.slice_at.Goals as goal

pub slice_at-requires-clause-first : goal.slice_at-requires-clause-first
slice_at-requires-clause-first c = record { rest = []; cut = subst (AreTokens c.args.bytes.now) (sym (append-nil c.args.tokens.now)) c.requires.cut }

pub returns-clause-ascii : goal.returns-clause-ascii
returns-clause-ascii c =
    let same = c.slice_at.ensures ∙ ap (λ m. m.text) (mark_at c.args.bytes.now c.args.tokens.now c.args.at default c.requires.inside) in
    subst IsAscii (sym same) (ascii_at c.args.bytes.now c.args.tokens.now c.args.at default c.requires.cut c.requires.inside)
