use Rattle.std.proofs.Common.{◌∙◌, ◌<◌, ◌-◌, ℕ, List, ap, take, drop}
use Rattle.lus_lexer.specs.declared.token.Class.{Class}
use Rattle.lus_lexer.specs.declared.spelling.Lexeme.TheVariants.{Token}
use Rattle.lus_lexer.specs.Search.{word_in}
use Rattle.lus_lexer.specs.Tokens.{byte}
use Rattle.lus_lexer.proofs.Longest.{longest_word, some_word}
use Rattle.lus_lexer.proofs.Looking.{word_spells, word_found}
use Rattle.lus_lexer.proofs.lexeme.word.Goals as goal

pub returns : goal.returns
returns c =
    let o : c.args.at < c.word_end-end.result = some_word (byte c.args.bytes.now) c.args.at c.word_end-end.result
    c.word_end-end.ensures.within.0 c.requires.letter c.word_end-end.ensures.last in
    let w : List ℕ = take (c.word_end-end.result - c.args.at) (drop c.args.at c.args.bytes.now) in
    longest_word (byte c.args.bytes.now) c.args.at c.word_end-end.result
    (Token c.word_in.result) c.word_end-end.ensures.within.0 c.requires.letter c.word_end-end.ensures.last
    (word_spells c.args.bytes.now c.args.at c.word_end-end.result c.word_in.result o c.word_end-end.ensures.within.1 c.requires.letter
    c.word_end-end.ensures.word
    (word_found (byte c.args.bytes.now c.args.at) w c.word_in.result
    (c.word_in.ensures ∙ ap (λ (ws : List (List ℕ × Class)). word_in ws w) c.words_from.ensures)))
