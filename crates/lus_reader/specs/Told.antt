-- What a function that reads a phrase from the tokens of some bytes answers.
use Rattle.std.specs.Prelude.{ℕ, List}
use Rattle.lus_tree.specs.Reason.{refusal_view}
use Rattle.lus_tree.specs.declared.refusal.Refusal.{Refusal}
use Rattle.lus_lexer.specs.declared.token.Token.{Token}
use Rattle.lus_grammar.specs.Stream.{stream}
use Rattle.lus_grammar.specs.Phrase.{Phrase}
use Rattle.lus_grammar.specs.Syntax.{Counts, Syntax, leaf}
use Rattle.lus_grammar.specs.Run.{Run, read}
use Rattle.lus_grammar.specs.Answers.{Reads, Refuses}
use Rattle.lus_grammar.specs.Source.{limit}
use Rattle.lus_reader.specs.declared.counts.Counts.{Counts as CountsCode}
use Rattle.lus_reader.specs.View.{counts_view}

-- A reading of the phrase from i comes to j, and v is the value of what was read. No occurrence stands in it.
abbrev pub ReadsAt : {V : Type 0} → (Syntax → V) → List ℕ → List Token → Phrase → ℕ → ℕ → V → Type 0
ReadsAt value bytes tokens g i j v = (n : Counts) → Reads value (stream bytes tokens) g i n j n v

-- A reading of the phrase from i stops, and the refusal says where and why.
abbrev pub RefusesAt : List ℕ → List Token → Phrase → ℕ → Refusal → Type 0
RefusesAt bytes tokens g i r = (n : Counts) → Refuses (stream bytes tokens) g i n (refusal_view r)

-- The phrase is one token, which stands at i; j is the place behind it.
abbrev pub Takes : List ℕ → List Token → Phrase → ℕ → ℕ → Type 0
Takes bytes tokens g i j = (n : Counts) → Run limit (stream bytes tokens) g i n (read j n (leaf (stream bytes tokens i)))

-- The same as ReadsAt, with the counts of occurrences before and behind the phrase.
abbrev pub ReadsFrom : {V : Type 0} → (Syntax → V) → List ℕ → List Token → Phrase → ℕ → CountsCode → ℕ → CountsCode → V → Type 0
ReadsFrom value bytes tokens g i n j m v = Reads value (stream bytes tokens) g i (counts_view n) j (counts_view m) v

-- The same as RefusesAt, behind so many occurrences.
abbrev pub RefusesFrom : List ℕ → List Token → Phrase → ℕ → CountsCode → Refusal → Type 0
RefusesFrom bytes tokens g i n r = Refuses (stream bytes tokens) g i (counts_view n) (refusal_view r)
