-- Worked rows of contracts: an import with modes, and the assumption of a callee.
use Rattle.std.specs.Prelude.{true, false, List, [], ◌∷◌, Some, None, negsuc, codes}
use Rattle.lus_tree.specs.declared.expression.Operator.TheVariants.{Differs, Add, Less}
use Rattle.lus_tree.specs.Tree.{truth, number, negation, pre, arrow, binary, condact, mode_name, no_more, more, assertion, Component, declared_node, declared_contract, ghost_variable, assume, guarantee, mode, «import»}
use Rattle.lus_meaning.specs.Value.{Value, absent, flag, whole}
use Rattle.lus_meaning.specs.Frame.{Frame, frame, no_frames}
use Rattle.lus_meaning.specs.Scene.{Instance}
use Rattle.lus_meaning.specs.Program.{instance_of}
use Rattle.lus_meaning.specs.Trace.{BareLine}
use Rattle.meaning_rows.specs.RowParts.{here, spelled, called, flags, numbers, defines, checks, labelled, unlabelled, declares, natural, lists, lists_first}
use Rattle.meaning_rows.specs.Written.{framed, stream}

-- ---- an import with an assumption, a guarantee and a mode

-- contract limit(a : int) returns (o : int); let
--   var up : bool = 0 < a; assume "some" a <> 9; guarantee "grows" true -> pre o < o;
--   mode rise (require up; ensure "above" a < o;);
-- tel
abbrev pub limit : Component
limit =
    declares (codes "limit") (numbers (codes "a") ∷ []) (numbers (codes "o") ∷ []) []
    (Some
    (ghost_variable (flags (codes "up")) (binary here Less (number here 0) (called (codes "a")))
    ∷ assume (labelled (codes "some") (binary here Differs (called (codes "a")) (number here 9)))
    ∷ guarantee
    (labelled (codes "grows")
    (arrow here 1 (truth here true)
    (binary here Less (pre here 1 (called (codes "o"))) (called (codes "o")))))
    ∷ mode (spelled (codes "rise")) (unlabelled (called (codes "up")) ∷ [])
    (labelled (codes "above") (binary here Less (called (codes "a")) (called (codes "o"))) ∷ [])
    ∷ [])) []

-- node main(x : int) returns (y : int);
-- (*@contract import limit(x) returns (y); mode low (require not ::limit::rise;); *)
-- let y = x + 1; check "mode" ::low; tel
abbrev pub importing_node : Component
importing_node =
    declares (codes "main") (numbers (codes "x") ∷ []) (numbers (codes "y") ∷ []) []
    (Some
    («import» 1 (spelled (codes "limit")) (called (codes "x") ∷ []) (spelled (codes "y") ∷ [])
    ∷ mode (spelled (codes "low"))
    (unlabelled
    (negation here (mode_name here (Some (spelled (codes "limit"))) (spelled (codes "rise"))))
    ∷ []) []
    ∷ []))
    (defines (codes "y") (binary here Add (called (codes "x")) (number here 1))
    ∷ checks (codes "mode") (mode_name here None (spelled (codes "low")))
    ∷ [])

abbrev pub importing : Instance
importing = instance_of (declared_contract limit ∷ declared_node importing_node ∷ []) importing_node

abbrev pub importing_frame : Frame
importing_frame =
    frame
    (stream "x" (natural 2 ∷ natural 0 ∷ natural 9 ∷ [])
    ∷ stream "y" (natural 3 ∷ natural 1 ∷ natural 10 ∷ [])
    ∷ []) []
    (framed
    (frame
    (stream "a" (natural 2 ∷ natural 0 ∷ natural 9 ∷ [])
    ∷ stream "o" (natural 3 ∷ natural 1 ∷ natural 10 ∷ [])
    ∷ stream "up" (flag true ∷ flag false ∷ flag true ∷ [])
    ∷ []) (natural 6 ∷ []) no_frames
    ∷ []))

abbrev pub importing_lines : List BareLine
importing_lines =
    lists [] (codes "x") (natural 2 ∷ natural 0 ∷ natural 9 ∷ []) ∷ lists_first (1 ∷ []) 1 (natural 6) ∷ []

-- ---- the assumption and the assertion of a callee that runs while a condition is true

-- node part(a : int) returns (o : int); (*@contract assume "positive" 0 < a; *) let o = a; assert a < 5; tel
abbrev pub guarded_part : Component
guarded_part =
    declares (codes "part") (numbers (codes "a") ∷ []) (numbers (codes "o") ∷ []) []
    (Some (assume (labelled (codes "positive") (binary here Less (number here 0) (called (codes "a")))) ∷ []))
    (defines (codes "o") (called (codes "a"))
    ∷ assertion (binary here Less (called (codes "a")) (number here 5))
    ∷ [])

-- node main(c : bool; a : int) returns (h : int); let h = condact(c, part(a), 7); check "above" 0 < h; tel
abbrev pub guarding_node : Component
guarding_node =
    declares (codes "main") (flags (codes "c") ∷ numbers (codes "a") ∷ []) (numbers (codes "h") ∷ []) [] None
    (defines (codes "h")
    (condact here 1 (called (codes "c")) (spelled (codes "part")) (more (called (codes "a")) no_more)
    (more (number here 7) no_more))
    ∷ checks (codes "above") (binary here Less (number here 0) (called (codes "h")))
    ∷ [])

abbrev pub guarding : Instance
guarding = instance_of (declared_node guarding_node ∷ declared_node guarded_part ∷ []) guarding_node

abbrev pub minus_three : Value
minus_three = whole (negsuc 2)

-- the callee doesn't run at instant 0, where its assumption would be false
abbrev pub guarding_frame : Frame
guarding_frame =
    frame
    (stream "c" (flag false ∷ flag true ∷ flag true ∷ [])
    ∷ stream "a" (minus_three ∷ minus_three ∷ natural 5 ∷ [])
    ∷ stream "h" (natural 7 ∷ minus_three ∷ natural 5 ∷ [])
    ∷ []) []
    (framed
    (frame
    (stream "a" (absent ∷ minus_three ∷ natural 5 ∷ [])
    ∷ stream "o" (absent ∷ minus_three ∷ natural 5 ∷ [])
    ∷ []) [] no_frames
    ∷ []))

abbrev pub guarding_lines : List BareLine
guarding_lines =
    lists [] (codes "c") (flag false ∷ flag true ∷ flag true ∷ [])
    ∷ lists [] (codes "a") (minus_three ∷ minus_three ∷ natural 5 ∷ [])
    ∷ []
