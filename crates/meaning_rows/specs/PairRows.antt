-- Worked rows of two equations: a node whose equations stand against their order, and one whose equations need each other.
use Rattle.std.specs.Prelude.{[], ◌∷◌, None, codes}
use Rattle.lus_tree.specs.declared.expression.Operator.TheVariants.{Implies, Xor, And, Equal}
use Rattle.lus_tree.specs.Tree.{negation, pre, arrow, binary, choice, property, main_mark, Component, declared_node}
use Rattle.lus_meaning.specs.Scene.{Instance}
use Rattle.lus_meaning.specs.Program.{instance_of}
use Rattle.meaning_rows.specs.RowParts.{start, here, called, flags, unlabelled, defines, checks, declares}

-- node main(a : bool) returns (x : bool); var y, z : bool;
-- let x = if y then a else not z; y = a and pre x; check "p" x => a; check x xor y; check y = z; --%MAIN tel
abbrev pub against_node : Component
against_node =
    declares (codes "main") (flags (codes "a") ∷ []) (flags (codes "x") ∷ [])
    (flags (codes "y") ∷ flags (codes "z") ∷ []) None
    (defines (codes "x")
    (choice here (called (codes "y")) (called (codes "a")) (negation here (called (codes "z"))))
    ∷ defines (codes "y") (binary here And (called (codes "a")) (pre here 1 (called (codes "x"))))
    ∷ checks (codes "p") (binary here Implies (called (codes "x")) (called (codes "a")))
    ∷ property (unlabelled (binary here Xor (called (codes "x")) (called (codes "y"))))
    ∷ property (unlabelled (binary here Equal (called (codes "y")) (called (codes "z"))))
    ∷ main_mark start
    ∷ [])

abbrev pub against : Instance
against = instance_of (declared_node against_node ∷ []) against_node

-- node main() returns (x, y : bool); let x = not y; y = pre x -> x; tel
abbrev pub circle_node : Component
circle_node = declares (codes "main") [] (flags (codes "x") ∷ flags (codes "y") ∷ []) [] None
    (defines (codes "x") (negation here (called (codes "y")))
    ∷ defines (codes "y") (arrow here 1 (pre here 1 (called (codes "x"))) (called (codes "x")))
    ∷ [])

abbrev pub circle : Instance
circle = instance_of (declared_node circle_node ∷ []) circle_node
