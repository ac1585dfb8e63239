use Rattle.std.proofs.Common.{rules}
use Rattle.trace_text.proofs.AsciiNames.{name_utf8}
use Rattle.trace_text.proofs.words.name.Goals as goal

pub returns-in-Err : goal.returns-in-Err
returns-in-Err c = absurd (c.in-Err.ensures.cases.0 (name_utf8 c.args.word.now (search rules)))
