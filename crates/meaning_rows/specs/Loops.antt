-- A call whose output does not need its input, and one whose output does.
use Rattle.std.specs.Prelude.{cond, [], ◌∷◌, Some, None, codes}
use Rattle.std.specs.Str.{bytes_eq}
use Rattle.lus_tree.specs.declared.expression.Operator.TheVariants.{Add}
use Rattle.lus_tree.specs.Tree.{Expression, number, pre, arrow, binary, call, no_more, more, Component, declared_node}
use Rattle.lus_meaning.specs.Scene.{Instance}
use Rattle.lus_meaning.specs.Program.{instance_of}
use Rattle.lus_meaning.specs.Depends.{Rank}
use Rattle.meaning_rows.specs.RowParts.{here, spelled, called, numbers, defines, declares}

-- node d(i : int) returns (o : int); let o = e; tel
abbrev pub part : Expression → Component
part e = declares (codes "d") (numbers (codes "i") ∷ []) (numbers (codes "o") ∷ []) [] None (defines (codes "o") e ∷ [])

-- node n() returns (x : int); let x = d(x) + 1; tel
abbrev pub whole_node : Component
whole_node = declares (codes "n") [] (numbers (codes "x") ∷ []) [] None
    (defines (codes "x") (binary here Add (call here 1 (spelled (codes "d")) (more (called (codes "x")) no_more)) (number here 1)) ∷ [])

abbrev pub loop_with : Expression → Instance
loop_with e = instance_of (declared_node (part e) ∷ declared_node whole_node ∷ []) whole_node

abbrev pub late : Instance
late = loop_with (arrow here 1 (number here 0) (pre here 1 (called (codes "i"))))

abbrev pub direct : Instance
direct = loop_with (called (codes "i"))

abbrev pub late_rank : Rank
late_rank [] None = 0
late_rank [] (Some x) = 3
late_rank (k ∷ ks) None = 1
late_rank (k ∷ ks) (Some x) = cond (bytes_eq x (codes "o")) 2 4
