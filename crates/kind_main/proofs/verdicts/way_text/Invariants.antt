use Rattle.std.proofs.Common.{◌≡◌, ◌++◌, drop, string_bytes}
use Rattle.lus_meaning.specs.Label.{path_text}
use Rattle.kind_main.proofs.verdicts.way_text.Given as goal

-- what is there, followed by what is to come, is all
abbrev pub invariant-loop-number : goal.invariant-loop-number
invariant-loop-number l = string_bytes l.text ++ path_text (drop l.number-index l.path) ≡ path_text l.path
