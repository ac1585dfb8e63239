use Rattle.std.proofs.Common.{◌≡◌, ◌++◌, drop, map}
use Rattle.lus_tree.specs.View.{decl_view}
use Rattle.lus_meaning.specs.NameFaults.{declaration_word}
use Rattle.lus_types.specs.Words.{words_view}
use Rattle.lus_types.proofs.program_rules.declaration_words.Given as goal

-- what is there, followed by what is to come, is all
abbrev pub invariant-loop-decl : goal.invariant-loop-decl
invariant-loop-decl l = words_view l.words.items ++ map declaration_word (map decl_view (drop l.decl-index l.program.decls.items))
    ≡ map declaration_word (map decl_view l.program.decls.items)
