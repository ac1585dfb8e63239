-- A worked row of a trace that lists values in the frames of calls, and of frames that are not its frame.
use Rattle.std.specs.Prelude.{List, true, false, [], ◌∷◌, Some, None, codes}
use Rattle.lus_tree.specs.declared.expression.Operator.TheVariants.{Add, Less}
use Rattle.lus_tree.specs.Tree.{Component, Program, guarantee, declared_node, declared_contract}
use Rattle.lus_meaning.specs.Value.{Value, absent}
use Rattle.lus_meaning.specs.Frame.{Frame, frame, no_frames}
use Rattle.lus_meaning.specs.Scene.{Instance}
use Rattle.lus_meaning.specs.Program.{instance_of}
use Rattle.lus_meaning.specs.Run.{IsRun}
use Rattle.lus_meaning.specs.Verdict.{throughout}
use Rattle.lus_meaning.specs.Trace.{BareLine, IsFrameOf}
use Rattle.meaning_rows.specs.RowParts.{declares, natural, lists_first}
use Rattle.meaning_rows.specs.Written.{the, literal, previous, followed, combined, when_true, calling, calling_while, flag_named, number_named, on, sets, sets_all, saying, importing, naturals, flags_of, stream, line, framed}

-- node inner(a : int) returns (o : int); var f : int; let o = 0 -> pre a; tel
-- f has no equation.
abbrev pub inner : Component
inner = declares (codes "inner") (number_named "a" ∷ []) (number_named "o" ∷ []) (number_named "f" ∷ []) None
    (sets "o" (followed 1 (literal 0) (previous 1 (the "a"))) ∷ [])

-- contract lim(b : int) returns (r : int); let guarantee "l" pre r < 9; tel
abbrev pub lim : Component
lim = declares (codes "lim") (number_named "b" ∷ []) (number_named "r" ∷ []) []
    (Some (guarantee (saying "l" (combined Less (previous 1 (the "r")) (literal 9))) ∷ [])) []

-- node outer(a : int) returns (o, g : int); (*@contract import lim(a) returns (o); *) let o = inner(a) + 1; tel
-- g has no equation.
abbrev pub outer : Component
outer = declares (codes "outer") (number_named "a" ∷ []) (number_named "o" ∷ number_named "g" ∷ []) []
    (Some (importing 1 "lim" (the "a" ∷ []) ("o" ∷ []) ∷ []))
    (sets "o" (combined Add (calling 2 "inner" (the "a" ∷ [])) (literal 1)) ∷ [])

-- node main(c : bool; x : int) returns (y, z, u : int); var s : int when c;
-- let y, z = outer(x); s = inner(x when c); u = condact(c, inner(x), 9); tel
abbrev pub listing_node : Component
listing_node =
    declares (codes "main") (flag_named "c" ∷ number_named "x" ∷ []) (number_named "y" ∷ number_named "z" ∷ number_named "u" ∷ [])
    (on "c" (number_named "s") ∷ []) None
    (sets_all ("y" ∷ "z" ∷ []) (calling 1 "outer" (the "x" ∷ []))
    ∷ sets "s" (calling 2 "inner" (when_true (the "x") "c" ∷ []))
    ∷ sets "u" (calling_while 3 (the "c") "inner" (the "x" ∷ []) (literal 9 ∷ []))
    ∷ [])

abbrev pub listing_program : Program
listing_program = declared_node inner ∷ declared_contract lim ∷ declared_node outer ∷ declared_node listing_node ∷ []

abbrev pub listing : Instance
listing = instance_of listing_program listing_node

-- c               | false  true  true
-- x               |     1     2     3
-- y               |     1     2     3      outer of x: 1 more than the last x, and 1 at first
-- z, g in 1       |     4     5     6
-- u               |     9     0     2
-- s               |     -     0     2
-- f in 1.2        |    10    20    30
-- f in 2          |     -    60     0      the frame is not active at 0, and at 2 the trace lists no value
-- f in 3          |     -    80    90
-- The first values are 7 in 1.1, 3 in 1.2, and 0 in 2 and in 3, where the trace lists none.
abbrev pub lines_with : List Value → List BareLine
lines_with xs =
    line [] "c" (flags_of (false ∷ true ∷ true ∷ []))
    ∷ line [] "x" xs
    ∷ line (1 ∷ []) "g" (naturals (4 ∷ 5 ∷ 6 ∷ []))
    ∷ lists_first (1 ∷ 1 ∷ []) 1 (natural 7)
    ∷ line (1 ∷ 2 ∷ []) "f" (naturals (10 ∷ 20 ∷ 30 ∷ []))
    ∷ lists_first (1 ∷ 2 ∷ []) 1 (natural 3)
    ∷ line (2 ∷ []) "f" (natural 50 ∷ natural 60 ∷ absent ∷ [])
    ∷ line (3 ∷ []) "f" (naturals (70 ∷ 80 ∷ 90 ∷ []))
    ∷ []

abbrev pub listing_lines : List BareLine
listing_lines = lines_with (naturals (1 ∷ 2 ∷ 3 ∷ []))

-- g in 1, the first value in 1.1, f and the first value in 1.2, both in 2, and f in 3
abbrev pub listing_frame : List Value → Value → List Value → Value → List Value → Value → List Value → Frame
listing_frame gs v fs w ks u hs =
    frame
    (stream "c" (flags_of (false ∷ true ∷ true ∷ []))
    ∷ stream "x" (naturals (1 ∷ 2 ∷ 3 ∷ []))
    ∷ stream "y" (naturals (1 ∷ 2 ∷ 3 ∷ []))
    ∷ stream "z" gs
    ∷ stream "u" (naturals (9 ∷ 0 ∷ 2 ∷ []))
    ∷ stream "s" (absent ∷ natural 0 ∷ natural 2 ∷ [])
    ∷ []) []
    (framed
    (frame
    (stream "a" (naturals (1 ∷ 2 ∷ 3 ∷ []))
    ∷ stream "o" (naturals (1 ∷ 2 ∷ 3 ∷ []))
    ∷ stream "g" gs
    ∷ []) []
    (framed
    (frame (stream "b" (naturals (1 ∷ 2 ∷ 3 ∷ [])) ∷ stream "r" (naturals (1 ∷ 2 ∷ 3 ∷ [])) ∷ [])
    (v ∷ []) no_frames
    ∷ frame
    (stream "a" (naturals (1 ∷ 2 ∷ 3 ∷ []))
    ∷ stream "o" (naturals (0 ∷ 1 ∷ 2 ∷ []))
    ∷ stream "f" fs
    ∷ []) (w ∷ []) no_frames
    ∷ []))
    ∷ frame
    (stream "a" (absent ∷ natural 2 ∷ natural 3 ∷ [])
    ∷ stream "o" (absent ∷ natural 0 ∷ natural 2 ∷ [])
    ∷ stream "f" ks
    ∷ []) (u ∷ []) no_frames
    ∷ frame
    (stream "a" (absent ∷ natural 2 ∷ natural 3 ∷ [])
    ∷ stream "o" (absent ∷ natural 0 ∷ natural 2 ∷ [])
    ∷ stream "f" hs
    ∷ []) (natural 0 ∷ []) no_frames
    ∷ []))

abbrev pub g_values : List Value
g_values = naturals (4 ∷ 5 ∷ 6 ∷ [])

abbrev pub f_values : List Value
f_values = naturals (10 ∷ 20 ∷ 30 ∷ [])

abbrev pub k_values : List Value
k_values = absent ∷ natural 60 ∷ natural 0 ∷ []

abbrev pub h_values : List Value
h_values = absent ∷ natural 80 ∷ natural 90 ∷ []

abbrev pub listed_frame : Frame
listed_frame = listing_frame g_values (natural 7) f_values (natural 3) k_values (natural 0) h_values

-- the output of the import, and an argument of a call
abbrev pub lines_of_no_matter : List BareLine
lines_of_no_matter =
    line (1 ∷ 1 ∷ []) "r" (naturals (9 ∷ 9 ∷ 9 ∷ []))
    ∷ line (2 ∷ []) "a" (naturals (9 ∷ 9 ∷ 9 ∷ []))
    ∷ listing_lines

-- frames that differ from it in one value
abbrev pub other_output : Frame
other_output = listing_frame (naturals (4 ∷ 5 ∷ 7 ∷ [])) (natural 7) f_values (natural 3) k_values (natural 0) h_values

abbrev pub other_first_in_import : Frame
other_first_in_import = listing_frame g_values (natural 8) f_values (natural 3) k_values (natural 0) h_values

abbrev pub other_local : Frame
other_local = listing_frame g_values (natural 7) (naturals (10 ∷ 20 ∷ 31 ∷ [])) (natural 3) k_values (natural 0) h_values

abbrev pub other_first : Frame
other_first = listing_frame g_values (natural 7) f_values (natural 4) k_values (natural 0) h_values

abbrev pub other_default : Frame
other_default =
    listing_frame g_values (natural 7) f_values (natural 3) (absent ∷ natural 60 ∷ natural 1 ∷ []) (natural 0) h_values

abbrev pub other_held_local : Frame
other_held_local =
    listing_frame g_values (natural 7) f_values (natural 3) k_values (natural 0) (absent ∷ natural 80 ∷ natural 91 ∷ [])

abbrev pub other_first_default : Frame
other_first_default = listing_frame g_values (natural 7) f_values (natural 3) k_values (natural 1) h_values

-- a run that is not the frame of the trace
abbrev pub IsOtherRun : Frame → Type 0
IsOtherRun f = IsRun listing 3 throughout f × (IsFrameOf listing_lines listing 3 f → ⊥)
