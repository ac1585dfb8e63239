-- Worked rows of `when`, `merge`, `->` and `pre` on slow clocks and on clocks of slow clocks.
use Rattle.std.specs.Prelude.{true, false, [], ◌∷◌, None, codes}
use Rattle.lus_tree.specs.Tree.{Component, declared_node}
use Rattle.lus_meaning.specs.Value.{absent, flag}
use Rattle.lus_meaning.specs.Frame.{Frame, frame, no_frames}
use Rattle.lus_meaning.specs.Scene.{Instance}
use Rattle.lus_meaning.specs.Program.{instance_of}
use Rattle.meaning_rows.specs.RowParts.{declares, natural}
use Rattle.meaning_rows.specs.Written.{the, literal, previous, followed, when_true, when_false, merged_on, flag_named, number_named, on, off, sets, naturals, flags_of, stream}

-- ---- an operator before `when` runs on the fast clock, one after it on the slow clock

-- node main(c : bool; x : int) returns (o, k, j : int); var d, e, f, g : int when c; h : int when not c;
-- let d = 0 -> (x when c); e = (0 -> x) when c; f = pre (x when c); g = (pre x) when c; h = 5;
--   o = merge c (true -> d) (false -> h); k = merge c (true -> 1) (false -> 2);
--   j = merge c (true -> 0 -> (x when c)) (false -> pre (x when not c)); tel
--   c | false  true false  true
--   x |     1     2     3     4
--   d |     -     0     -     4      the first instant of c is 1
--   e |     -     2     -     4
--   f |     -     8     -     2      the first value is 8
--   g |     -     1     -     3
--   h |     5     -     5     -
--   o |     5     0     5     4
--   k |     2     1     2     1
--   j |     6     0     1     4      the first value is 6, and the first instant of not c is 0
abbrev pub sampling_node : Component
sampling_node =
    declares (codes "main") (flag_named "c" ∷ number_named "x" ∷ [])
    (number_named "o" ∷ number_named "k" ∷ number_named "j" ∷ [])
    (on "c" (number_named "d")
    ∷ on "c" (number_named "e")
    ∷ on "c" (number_named "f")
    ∷ on "c" (number_named "g")
    ∷ off "c" (number_named "h")
    ∷ []) None
    (sets "d" (followed 1 (literal 0) (when_true (the "x") "c"))
    ∷ sets "e" (when_true (followed 2 (literal 0) (the "x")) "c")
    ∷ sets "f" (previous 1 (when_true (the "x") "c"))
    ∷ sets "g" (when_true (previous 2 (the "x")) "c")
    ∷ sets "h" (literal 5)
    ∷ sets "o" (merged_on "c" (the "d") (the "h"))
    ∷ sets "k" (merged_on "c" (literal 1) (literal 2))
    ∷ sets "j"
    (merged_on "c" (followed 3 (literal 0) (when_true (the "x") "c"))
    (previous 3 (when_false (the "x") "c")))
    ∷ [])

abbrev pub sampling : Instance
sampling = instance_of (declared_node sampling_node ∷ []) sampling_node

abbrev pub sampling_frame : Frame
sampling_frame = frame
    (stream "c" (flags_of (false ∷ true ∷ false ∷ true ∷ []))
    ∷ stream "x" (naturals (1 ∷ 2 ∷ 3 ∷ 4 ∷ []))
    ∷ stream "o" (naturals (5 ∷ 0 ∷ 5 ∷ 4 ∷ []))
    ∷ stream "k" (naturals (2 ∷ 1 ∷ 2 ∷ 1 ∷ []))
    ∷ stream "j" (naturals (6 ∷ 0 ∷ 1 ∷ 4 ∷ []))
    ∷ stream "d" (absent ∷ natural 0 ∷ absent ∷ natural 4 ∷ [])
    ∷ stream "e" (absent ∷ natural 2 ∷ absent ∷ natural 4 ∷ [])
    ∷ stream "f" (absent ∷ natural 8 ∷ absent ∷ natural 2 ∷ [])
    ∷ stream "g" (absent ∷ natural 1 ∷ absent ∷ natural 3 ∷ [])
    ∷ stream "h" (natural 5 ∷ absent ∷ natural 5 ∷ absent ∷ [])
    ∷ [])
    (natural 8 ∷ natural 9 ∷ natural 6 ∷ []) no_frames

-- ---- a clock of a clock

-- node main(c, y : bool; x : int) returns (o : int);
-- var d : bool when c; z, p : int when d; w, q : int when not d; m : int when c;
-- let d = y when c; z = (x when c) when d; w = (x when c) when not d; p = pre z; q = 7;
--   m = merge d (true -> z) (false -> w); o = merge c (true -> m) (false -> 0); tel
--   c |  true  true false  true
--   y |  true false  true  true
--   x |     1     2     3     4
--   d |  true false     -  true
--   z |     1     -     -     4
--   w |     -     2     -     -
--   p |     9     -     -     1      the first value is 9
--   q |     -     7     -     -
--   m |     1     2     -     4
--   o |     1     2     0     4
abbrev pub nesting_node : Component
nesting_node =
    declares (codes "main") (flag_named "c" ∷ flag_named "y" ∷ number_named "x" ∷ []) (number_named "o" ∷ [])
    (on "c" (flag_named "d")
    ∷ on "d" (number_named "z")
    ∷ on "d" (number_named "p")
    ∷ off "d" (number_named "w")
    ∷ off "d" (number_named "q")
    ∷ on "c" (number_named "m")
    ∷ []) None
    (sets "d" (when_true (the "y") "c")
    ∷ sets "z" (when_true (when_true (the "x") "c") "d")
    ∷ sets "w" (when_false (when_true (the "x") "c") "d")
    ∷ sets "p" (previous 1 (the "z"))
    ∷ sets "q" (literal 7)
    ∷ sets "m" (merged_on "d" (the "z") (the "w"))
    ∷ sets "o" (merged_on "c" (the "m") (literal 0))
    ∷ [])

abbrev pub nesting : Instance
nesting = instance_of (declared_node nesting_node ∷ []) nesting_node

abbrev pub nesting_frame : Frame
nesting_frame = frame
    (stream "c" (flags_of (true ∷ true ∷ false ∷ true ∷ []))
    ∷ stream "y" (flags_of (true ∷ false ∷ true ∷ true ∷ []))
    ∷ stream "x" (naturals (1 ∷ 2 ∷ 3 ∷ 4 ∷ []))
    ∷ stream "o" (naturals (1 ∷ 2 ∷ 0 ∷ 4 ∷ []))
    ∷ stream "d" (flag true ∷ flag false ∷ absent ∷ flag true ∷ [])
    ∷ stream "z" (natural 1 ∷ absent ∷ absent ∷ natural 4 ∷ [])
    ∷ stream "p" (natural 9 ∷ absent ∷ absent ∷ natural 1 ∷ [])
    ∷ stream "w" (absent ∷ natural 2 ∷ absent ∷ absent ∷ [])
    ∷ stream "q" (absent ∷ natural 7 ∷ absent ∷ absent ∷ [])
    ∷ stream "m" (natural 1 ∷ natural 2 ∷ absent ∷ natural 4 ∷ [])
    ∷ [])
    (natural 9 ∷ []) no_frames
