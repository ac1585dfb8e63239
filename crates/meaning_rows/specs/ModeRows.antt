-- Worked rows of modes: requires and ensures, one mode active, `::m`, and `pre` in a mode.
use Rattle.std.specs.Prelude.{true, false, [], ◌∷◌, Some, None, codes}
use Rattle.lus_tree.specs.declared.expression.Operator.TheVariants.{Or, And, Less, Equal, More}
use Rattle.lus_tree.specs.Tree.{Component, guarantee, declared_node}
use Rattle.lus_meaning.specs.Value.{absent, flag}
use Rattle.lus_meaning.specs.Frame.{Frame, frame, no_frames}
use Rattle.lus_meaning.specs.Scene.{Instance}
use Rattle.lus_meaning.specs.Program.{instance_of}
use Rattle.meaning_rows.specs.RowParts.{declares, natural, unlabelled}
use Rattle.meaning_rows.specs.Written.{the, literal, truth_of, previous, combined, when_true, when_false, merged_on, calling, own_mode, flag_named, number_named, on, sets, sets_all, saying, checked, mode_named, negative, naturals, flags_of, stream, framed}

-- ---- three modes

-- node main(a, b : int) returns (o : int);
-- (*@contract
--   mode up (require a > 0; require b > 0; require o < 3; ensure "e" o > 0; ensure "f" o > 1;);
--   mode down (require a < 0;); mode zero (require a = 0; ensure "d" ::down;); guarantee "g" ::down or ::up;
-- *)
-- let o = b; check "up" ::up; tel
--   a      |     1     1    -1     0     1
--   b, o   |     1     0     5     1     4
--   up     |  true false false false false      all three requires
--   down   | false false  true false false
--   zero   | false false false  true false
--   e      |  true  true  true  true  true      o > 0 is true, false, true, true, true
--   f      | false  true  true  true  true      o > 1 is false, false, true, false, true
--   d      |  true  true  true false  true      asked where zero is active
--   g      |  true false  true false false
--   active |  true false  true  true false      up, down or zero
abbrev pub three_modes_node : Component
three_modes_node = declares (codes "main") (number_named "a" ∷ number_named "b" ∷ []) (number_named "o" ∷ []) []
    (Some
    (mode_named "up"
    (unlabelled (combined More (the "a") (literal 0))
    ∷ unlabelled (combined More (the "b") (literal 0))
    ∷ unlabelled (combined Less (the "o") (literal 3))
    ∷ [])
    (saying "e" (combined More (the "o") (literal 0)) ∷ saying "f" (combined More (the "o") (literal 1)) ∷ [])
    ∷ mode_named "down" (unlabelled (combined Less (the "a") (literal 0)) ∷ []) []
    ∷ mode_named "zero" (unlabelled (combined Equal (the "a") (literal 0)) ∷ []) (saying "d" (own_mode "down") ∷ [])
    ∷ guarantee (saying "g" (combined Or (own_mode "down") (own_mode "up")))
    ∷ []))
    (sets "o" (the "b") ∷ checked "up" (own_mode "up") ∷ [])

abbrev pub three_modes : Instance
three_modes = instance_of (declared_node three_modes_node ∷ []) three_modes_node

abbrev pub three_modes_frame : Frame
three_modes_frame = frame
    (stream "a" (natural 1 ∷ natural 1 ∷ negative 1 ∷ natural 0 ∷ natural 1 ∷ [])
    ∷ stream "b" (naturals (1 ∷ 0 ∷ 5 ∷ 1 ∷ 4 ∷ []))
    ∷ stream "o" (naturals (1 ∷ 0 ∷ 5 ∷ 1 ∷ 4 ∷ []))
    ∷ [])
    [] no_frames

-- ---- a mode without requires, and `::m` where its frame is not active

-- node part(u : bool) returns (p, q : bool);
-- (*@contract mode always (ensure "u" u;); mode given (require u; require true;); *)
-- let p = ::always; q = ::given; tel
abbrev pub moded_part : Component
moded_part = declares (codes "part") (flag_named "u" ∷ []) (flag_named "p" ∷ flag_named "q" ∷ []) []
    (Some
    (mode_named "always" [] (saying "u" (the "u") ∷ [])
    ∷ mode_named "given" (unlabelled (the "u") ∷ unlabelled (truth_of true) ∷ []) []
    ∷ []))
    (sets "p" (own_mode "always") ∷ sets "q" (own_mode "given") ∷ [])

-- node main(c, e : bool) returns (o : bool); var s, t : bool when c;
-- let s, t = part(e when c); o = merge c (true -> s and t) (false -> e when not c); tel
--   c |  true false  true
--   e |  true  true false
--   s |  true     -  true
--   t |  true     - false
--   o |  true  true false
abbrev pub modes_when_node : Component
modes_when_node =
    declares (codes "main") (flag_named "c" ∷ flag_named "e" ∷ []) (flag_named "o" ∷ [])
    (on "c" (flag_named "s") ∷ on "c" (flag_named "t") ∷ []) None
    (sets_all ("s" ∷ "t" ∷ []) (calling 1 "part" (when_true (the "e") "c" ∷ []))
    ∷ sets "o" (merged_on "c" (combined And (the "s") (the "t")) (when_false (the "e") "c"))
    ∷ [])

abbrev pub modes_when : Instance
modes_when = instance_of (declared_node moded_part ∷ declared_node modes_when_node ∷ []) modes_when_node

abbrev pub modes_when_frame : Frame
modes_when_frame =
    frame
    (stream "c" (flags_of (true ∷ false ∷ true ∷ []))
    ∷ stream "e" (flags_of (true ∷ true ∷ false ∷ []))
    ∷ stream "o" (flags_of (true ∷ true ∷ false ∷ []))
    ∷ stream "s" (flag true ∷ absent ∷ flag true ∷ [])
    ∷ stream "t" (flag true ∷ absent ∷ flag false ∷ [])
    ∷ []) []
    (framed
    (frame
    (stream "u" (flag true ∷ absent ∷ flag false ∷ [])
    ∷ stream "p" (flag true ∷ absent ∷ flag true ∷ [])
    ∷ stream "q" (flag true ∷ absent ∷ flag false ∷ [])
    ∷ []) [] no_frames
    ∷ []))

-- the same part by itself
abbrev pub modes_alone : Instance
modes_alone = instance_of (declared_node moded_part ∷ []) moded_part

abbrev pub modes_alone_frame : Frame
modes_alone_frame =
    frame
    (stream "u" (flags_of (true ∷ false ∷ []))
    ∷ stream "p" (flags_of (true ∷ true ∷ []))
    ∷ stream "q" (flags_of (true ∷ false ∷ []))
    ∷ []) [] no_frames

-- ---- `pre` in a mode: the first values are in the order of the text, also where an ensure stands before a require

-- node main(a : int; b : bool) returns (o : int);
-- (*@contract mode rise (ensure "up" pre o < o; require pre b;); *)
-- let o = a; check "late" 5 < pre a; check "held" pre b; tel
-- The first values are 5 of o, true of b, 4 of a and false of b.
--   a, o     |     6     7     7
--   b        | false  true  true
--   pre o    |     5     6     7
--   rise     |  true false  true
--   up       |  true  true false      pre o < o is true, true, false
--   pre a    |     4     6     7
--   late     | false  true  true
--   held     | false false  true
abbrev pub mode_memory_node : Component
mode_memory_node =
    declares (codes "main") (number_named "a" ∷ flag_named "b" ∷ []) (number_named "o" ∷ []) []
    (Some
    (mode_named "rise" (unlabelled (previous 2 (the "b")) ∷ [])
    (saying "up" (combined Less (previous 1 (the "o")) (the "o")) ∷ [])
    ∷ []))
    (sets "o" (the "a")
    ∷ checked "late" (combined Less (literal 5) (previous 3 (the "a")))
    ∷ checked "held" (previous 4 (the "b"))
    ∷ [])

abbrev pub mode_memory : Instance
mode_memory = instance_of (declared_node mode_memory_node ∷ []) mode_memory_node

abbrev pub mode_memory_frame : Frame
mode_memory_frame = frame
    (stream "a" (naturals (6 ∷ 7 ∷ 7 ∷ []))
    ∷ stream "b" (flags_of (false ∷ true ∷ true ∷ []))
    ∷ stream "o" (naturals (6 ∷ 7 ∷ 7 ∷ []))
    ∷ [])
    (natural 5 ∷ flag true ∷ natural 4 ∷ flag false ∷ []) no_frames
