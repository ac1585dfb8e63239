-- Worked rows of streams that are absent at some instants, and of calls that run at some.
use Rattle.std.specs.Prelude.{true, false, List, [], ◌∷◌, None, codes}
use Rattle.lus_tree.specs.declared.expression.Operator.TheVariants.{Equal, Differs, Add, Less}
use Rattle.lus_tree.specs.Tree.{number, pre, arrow, binary, sampled, merged, call, condact, no_more, more, Component, declared_node}
use Rattle.lus_meaning.specs.Value.{absent, flag}
use Rattle.lus_meaning.specs.Frame.{Frame, frame, no_frames}
use Rattle.lus_meaning.specs.Scene.{Instance}
use Rattle.lus_meaning.specs.Program.{instance_of}
use Rattle.lus_meaning.specs.Trace.{BareLine}
use Rattle.meaning_rows.specs.RowParts.{here, spelled, called, flags, numbers, numbers_when, defines, checks, declares, natural, lists, lists_first}
use Rattle.meaning_rows.specs.Written.{framed, stream}

-- ---- a call on a slower clock, and a merge of two clocks

-- node count(u : bool) returns (k : int); let k = 1 -> pre k + 1; tel
abbrev pub counter : Component
counter =
    declares (codes "count") (flags (codes "u") ∷ []) (numbers (codes "k") ∷ []) [] None
    (defines (codes "k")
    (arrow here 1 (number here 1) (binary here Add (pre here 1 (called (codes "k"))) (number here 1)))
    ∷ [])

-- node main(c : bool) returns (s : int); var r : int when c;
-- let r = count(c when c); s = merge c (true -> r) (false -> (0 -> pre s) when not c); check "two" s < 2; tel
abbrev pub merging_node : Component
merging_node =
    declares (codes "main") (flags (codes "c") ∷ []) (numbers (codes "s") ∷ [])
    (numbers_when (codes "c") (codes "r") ∷ []) None
    (defines (codes "r")
    (call here 1 (spelled (codes "count"))
    (more (sampled here (called (codes "c")) true (spelled (codes "c"))) no_more))
    ∷ defines (codes "s")
    (merged here (spelled (codes "c")) (called (codes "r"))
    (sampled here (arrow here 1 (number here 0) (pre here 1 (called (codes "s")))) false
    (spelled (codes "c"))))
    ∷ checks (codes "two") (binary here Less (called (codes "s")) (number here 2))
    ∷ [])

abbrev pub merging : Instance
merging = instance_of (declared_node counter ∷ declared_node merging_node ∷ []) merging_node

abbrev pub merging_frame : Frame
merging_frame =
    frame
    (stream "c" (flag true ∷ flag false ∷ flag true ∷ [])
    ∷ stream "s" (natural 1 ∷ natural 1 ∷ natural 2 ∷ [])
    ∷ stream "r" (natural 1 ∷ absent ∷ natural 2 ∷ [])
    ∷ []) (natural 0 ∷ [])
    (framed
    (frame
    (stream "u" (flag true ∷ absent ∷ flag true ∷ [])
    ∷ stream "k" (natural 1 ∷ absent ∷ natural 2 ∷ [])
    ∷ []) (natural 0 ∷ []) no_frames
    ∷ []))

abbrev pub merging_lines : List BareLine
merging_lines = lists [] (codes "c") (flag true ∷ flag false ∷ flag true ∷ []) ∷ []

-- ---- a call that runs while a condition is true

-- node inc(a : int) returns (o : int); let o = a + 1; tel
abbrev pub increment : Component
increment = declares (codes "inc") (numbers (codes "a") ∷ []) (numbers (codes "o") ∷ []) [] None
    (defines (codes "o") (binary here Add (called (codes "a")) (number here 1)) ∷ [])

-- node main(c : bool; a : int) returns (h : int); let h = condact(c, inc(a), 7); check "seq" h = 7 -> h = 4; check "four" h <> 4; tel
abbrev pub holding_node : Component
holding_node =
    declares (codes "main") (flags (codes "c") ∷ numbers (codes "a") ∷ []) (numbers (codes "h") ∷ []) [] None
    (defines (codes "h")
    (condact here 1 (called (codes "c")) (spelled (codes "inc")) (more (called (codes "a")) no_more)
    (more (number here 7) no_more))
    ∷ checks (codes "seq")
    (arrow here 1 (binary here Equal (called (codes "h")) (number here 7))
    (binary here Equal (called (codes "h")) (number here 4)))
    ∷ checks (codes "four") (binary here Differs (called (codes "h")) (number here 4))
    ∷ [])

abbrev pub holding : Instance
holding = instance_of (declared_node increment ∷ declared_node holding_node ∷ []) holding_node

abbrev pub holding_frame : Frame
holding_frame =
    frame
    (stream "c" (flag false ∷ flag true ∷ flag false ∷ [])
    ∷ stream "a" (natural 1 ∷ natural 3 ∷ natural 9 ∷ [])
    ∷ stream "h" (natural 7 ∷ natural 4 ∷ natural 4 ∷ [])
    ∷ []) []
    (framed
    (frame
    (stream "a" (absent ∷ natural 3 ∷ absent ∷ [])
    ∷ stream "o" (absent ∷ natural 4 ∷ absent ∷ [])
    ∷ []) [] no_frames
    ∷ []))

abbrev pub holding_lines : List BareLine
holding_lines =
    lists [] (codes "c") (flag false ∷ flag true ∷ flag false ∷ [])
    ∷ lists [] (codes "a") (natural 1 ∷ natural 3 ∷ natural 9 ∷ [])
    ∷ []

-- ---- `pre` on a slow clock

-- node main(c : bool; a : int) returns (s : int); var d : int when c;
-- let d = pre (a when c); s = merge c (true -> d) (false -> 0 when not c); check "two" s = 2; tel
abbrev pub slow_node : Component
slow_node =
    declares (codes "main") (flags (codes "c") ∷ numbers (codes "a") ∷ []) (numbers (codes "s") ∷ [])
    (numbers_when (codes "c") (codes "d") ∷ []) None
    (defines (codes "d") (pre here 1 (sampled here (called (codes "a")) true (spelled (codes "c"))))
    ∷ defines (codes "s")
    (merged here (spelled (codes "c")) (called (codes "d"))
    (sampled here (number here 0) false (spelled (codes "c"))))
    ∷ checks (codes "two") (binary here Equal (called (codes "s")) (number here 2))
    ∷ [])

abbrev pub slow : Instance
slow = instance_of (declared_node slow_node ∷ []) slow_node

-- c is true at the instants 1 and 3: there d is the first value, and then the value of a at instant 1
abbrev pub slow_frame : Frame
slow_frame = frame
    ((codes "c", flag false ∷ flag true ∷ flag false ∷ flag true ∷ [])
    ∷ (codes "a", natural 1 ∷ natural 2 ∷ natural 3 ∷ natural 4 ∷ [])
    ∷ (codes "s", natural 0 ∷ natural 9 ∷ natural 0 ∷ natural 2 ∷ [])
    ∷ (codes "d", absent ∷ natural 9 ∷ absent ∷ natural 2 ∷ [])
    ∷ [])
    (natural 9 ∷ [])
    no_frames

abbrev pub slow_lines : List BareLine
slow_lines =
    lists [] (codes "c") (flag false ∷ flag true ∷ flag false ∷ flag true ∷ [])
    ∷ lists [] (codes "a") (natural 1 ∷ natural 2 ∷ natural 3 ∷ natural 4 ∷ [])
    ∷ lists_first [] 1 (natural 9)
    ∷ []
