use Rattle.std.proofs.Common.{rules, ◌≡◌, codes, sym, ◌∙◌, string_bytes}
use Rattle.kind_main.specs.Given.{given_view}
use Rattle.kind_main.proofs.FewWords.{three_words}
use Rattle.kind_main.proofs.Givens.{first_word, no_command, is_proof}
use Rattle.kind_main.proofs.words.read_words.Goals as goal

pub returns-in-None : goal.returns-in-None
returns-in-None c =
    let word : string_bytes c.command-item.result ≡ codes "prove" = sym c.as_str.ensures.value ∙ search rules in
    no_command _ _ (first_word string_bytes c.args.words.now c.command-item.result (codes "prove") c.in-len1-up.len_at_least c.command-item.is word)
    (rw c.in-None.is at c.read_given.ensures)

pub returns-in-Some : goal.returns-in-Some
returns-in-Some c =
    let word : string_bytes c.command-item.result ≡ codes "prove" = sym c.as_str.ensures.value ∙ search rules in
    is_proof _ _ (first_word string_bytes c.args.words.now c.command-item.result (codes "prove") c.in-len1-up.len_at_least c.command-item.is word)
    (given_view c.in-Some.given) c.proof_of.result (rw c.in-Some.is at c.read_given.ensures) c.proof_of.ensures

pub returns-then-not-is_option-2 : goal.returns-then-not-is_option-2
returns-then-not-is_option-2 c =
    let word : string_bytes c.command-item-then-words-lt4.result ≡ codes "replay" = sym c.as_str-in-len3.ensures.value ∙ search rules in
    record {
      spelled = rw (c.as_str-source.ensures.value, c.as_str-trace.ensures.value)
          (three_words string_bytes c.args.words.now c.command-item-then-words-lt4.result c.source-item.result
          c.trace-item.result (codes "replay")
          c.in-len3.len_at_least c.in-len3.len_below c.command-item-then-words-lt4.is c.source-item.is c.trace-item.is word);
      file_word = search rules;
      trace_word = search rules;
    }
