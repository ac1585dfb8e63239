use Rattle.std.proofs.Common.{◌≡◌, ◌||◌, map, drop}
use Rattle.std.specs.Prelude.{is_some}
use Rattle.lus_tree.specs.Tree.{Name}
use Rattle.lus_tree.specs.View.{param_view}
use Rattle.lus_meaning.specs.Depends.{named_in}
use Rattle.sys_texts.specs.Views.{by_name}
use Rattle.sys_tables.specs.Tabled.{texts_of}
use Rattle.sys_tables.proofs.streams.inputs_by_name.Given as goal

-- what is noted, and what is to come, is all
abbrev pub invariant-loop-input : goal.invariant-loop-input
invariant-loop-input l =
    (x : Name) → (is_some (by_name l.names x) || named_in x (texts_of (map param_view (drop l.input-index l.inputs))))
    ≡ named_in x (texts_of (map param_view l.inputs))
