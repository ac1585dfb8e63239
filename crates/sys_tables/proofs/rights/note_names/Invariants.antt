use Rattle.std.proofs.Common.{◌≡◌, map, drop}
use Rattle.std.specs.Option.{option_or}
use Rattle.lus_tree.specs.Tree.{Name, text_of}
use Rattle.lus_tree.specs.View.{expr_view, word_view}
use Rattle.sys_tables.specs.Rights.{right_from, right_in}
use Rattle.sys_tables.proofs.rights.note_names.Given as goal

-- what is noted, and what is to come, is all
abbrev pub invariant-loop-name : goal.invariant-loop-name
invariant-loop-name l = record {
  at : l.place ≡ l.name-index;
  noted : (x : Name) →
      option_or (right_in l.rights x) (right_from (expr_view l.side) l.place (map text_of (map word_view (drop l.name-index l.names))) x)
      ≡ option_or (right_in l.initial.rights x) (right_from (expr_view l.side) 0 (map text_of (map word_view l.names)) x);
}
