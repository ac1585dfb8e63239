-- Worked rows of one node on one clock.
use Rattle.std.specs.Prelude.{Bool, true, false, not, List, [], ◌∷◌, None, codes}
use Rattle.lus_tree.specs.declared.place.Pos.{Pos}
use Rattle.lus_tree.specs.declared.expression.Operator.TheVariants.{Or, Less}
use Rattle.lus_tree.specs.Tree.{Place, truth, number, name, negation, pre, arrow, binary, Statement, assertion, property, Component, declared_node}
use Rattle.lus_meaning.specs.Value.{Value, flag}
use Rattle.lus_meaning.specs.Frame.{Frame, frame, no_frames}
use Rattle.lus_meaning.specs.Scene.{Instance}
use Rattle.lus_meaning.specs.Program.{instance_of}
use Rattle.lus_meaning.specs.Trace.{BareLine}
use Rattle.meaning_rows.specs.RowParts.{here, called, flags, numbers, defines, checks, unlabelled, declares, natural, lists, lists_first}
use Rattle.meaning_rows.specs.Written.{stream}

-- ---- `x = true -> not pre x`

abbrev pub alternation : Statement
alternation = defines (codes "x") (arrow here 1 (truth here true) (negation here (pre here 1 (called (codes "x")))))

-- node main() returns (x : bool); let x = true -> not pre x; check "p" x or pre x; tel
abbrev pub toggle_node : Component
toggle_node = declares (codes "main") [] (flags (codes "x") ∷ []) [] None
    (alternation ∷ checks (codes "p") (binary here Or (called (codes "x")) (pre here 2 (called (codes "x")))) ∷ [])

abbrev pub toggle : Instance
toggle = instance_of (declared_node toggle_node ∷ []) toggle_node

abbrev pub alternating : List Value
alternating = flag true ∷ flag false ∷ flag true ∷ []

-- the first values are any truth values
abbrev pub toggle_frame : Bool → Bool → Frame
toggle_frame v w = frame ((codes "x", alternating) ∷ []) (flag v ∷ flag w ∷ []) no_frames

abbrev pub toggle_lines : Bool → Bool → List BareLine
toggle_lines v w = lists_first [] 1 (flag v) ∷ lists_first [] 2 (flag w) ∷ []

-- ---- the same with `--%PROPERTY x;` in line 4

abbrev pub fourth_line : Pos
fourth_line = record { line = 4; column = 15 }

abbrev pub output_place : Place
output_place = record { from = fourth_line; at = fourth_line }

abbrev pub output_checked_node : Component
output_checked_node = declares (codes "main") [] (flags (codes "x") ∷ []) [] None
    (alternation ∷ property (unlabelled (name output_place (codes "x"))) ∷ [])

abbrev pub output_checked : Instance
output_checked = instance_of (declared_node output_checked_node ∷ []) output_checked_node

-- the frame of two instants of a trace that lists nothing
abbrev pub output_checked_frame : Frame
output_checked_frame = frame ((codes "x", flag true ∷ flag false ∷ []) ∷ []) (flag false ∷ []) no_frames

-- ---- an assertion

-- node main(a : int) returns (b : int); let b = a; assert a < 5; check "six" a < 6; tel
abbrev pub asserting_node : Component
asserting_node = declares (codes "main") (numbers (codes "a") ∷ []) (numbers (codes "b") ∷ []) [] None
    (defines (codes "b") (called (codes "a"))
    ∷ assertion (binary here Less (called (codes "a")) (number here 5))
    ∷ checks (codes "six") (binary here Less (called (codes "a")) (number here 6))
    ∷ [])

abbrev pub asserting : Instance
asserting = instance_of (declared_node asserting_node ∷ []) asserting_node

abbrev pub asserting_frame : Frame
asserting_frame = frame ((codes "a", natural 5 ∷ []) ∷ (codes "b", natural 5 ∷ []) ∷ []) [] no_frames

abbrev pub asserting_lines : List BareLine
asserting_lines = lists [] (codes "a") (natural 5 ∷ []) ∷ []

-- ---- a free name

-- node main() returns (x, y : bool); let y = not x; check "free" x; tel
abbrev pub free_node : Component
free_node = declares (codes "main") [] (flags (codes "x") ∷ flags (codes "y") ∷ []) [] None
    (defines (codes "y") (negation here (called (codes "x"))) ∷ checks (codes "free") (called (codes "x")) ∷ [])

abbrev pub free : Instance
free = instance_of (declared_node free_node ∷ []) free_node

-- x is any truth value at each instant
abbrev pub free_frame : Bool → Bool → Frame
free_frame v w =
    frame ((stream "x" (flag v ∷ flag w ∷ [])) ∷ (stream "y" (flag (not v) ∷ flag (not w) ∷ [])) ∷ []) []
    no_frames

abbrev pub free_lines : Bool → Bool → List BareLine
free_lines v w = lists [] (codes "x") (flag v ∷ flag w ∷ []) ∷ []
