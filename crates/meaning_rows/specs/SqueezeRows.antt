-- A worked row of a frame with the instants left out at which it is not active: its condact keeps the instants at which it does not
-- run. And of the frame of a condact's call, which keeps those alone at which it runs.
use Rattle.std.specs.Prelude.{zero, suc, true, false, [], ◌∷◌, None, codes}
use Rattle.lus_tree.specs.Tree.{Component, declared_node}
use Rattle.lus_meaning.specs.Value.{Instants, absent, flag}
use Rattle.lus_meaning.specs.Frame.{Frame, frame, no_frames}
use Rattle.lus_meaning.specs.Scene.{Instance}
use Rattle.lus_meaning.specs.Program.{instance_of}
use Rattle.meaning_rows.specs.RowParts.{declares, natural}
use Rattle.meaning_rows.specs.CallRows.{next, pair}
use Rattle.meaning_rows.specs.Written.{the, literal, calling_while, flag_named, number_named, sets, naturals, flags_of, stream, framed}

-- node next(a : int) returns (o : int); let o = a + 1; tel
-- node hold(c : bool; a : int) returns (h : int); let h = condact(c, next(a), 7); tel
abbrev pub hold_node : Component
hold_node = declares (codes "hold") (flag_named "c" ∷ number_named "a" ∷ []) (number_named "h" ∷ []) [] None
    (sets "h" (calling_while 1 (the "c") "next" (the "a" ∷ []) (literal 7 ∷ [])) ∷ [])

abbrev pub hold : Instance
hold = instance_of (declared_node next ∷ declared_node hold_node ∷ []) hold_node

-- true at 0, 2 and 3
abbrev pub uneven : Instants
uneven zero = true
uneven (suc zero) = false
uneven (suc (suc t)) = true

-- beat   |  true false  true  true
-- c      | false     -  true false
-- a      |     1     -     3     4
-- h      |     7     -     4     4
-- next a |     -     -     3     -
-- next o |     -     -     4     -
abbrev pub hold_frame : Frame
hold_frame =
    frame
    (stream "c" (flag false ∷ absent ∷ flag true ∷ flag false ∷ [])
    ∷ stream "a" (natural 1 ∷ absent ∷ natural 3 ∷ natural 4 ∷ [])
    ∷ stream "h" (natural 7 ∷ absent ∷ natural 4 ∷ natural 4 ∷ [])
    ∷ []) []
    (framed
    (frame
    (stream "a" (absent ∷ absent ∷ natural 3 ∷ absent ∷ [])
    ∷ stream "o" (absent ∷ absent ∷ natural 4 ∷ absent ∷ [])
    ∷ []) [] no_frames
    ∷ []))

-- without instant 1
abbrev pub squeezed_frame : Frame
squeezed_frame =
    frame
    (stream "c" (flags_of (false ∷ true ∷ false ∷ []))
    ∷ stream "a" (naturals (1 ∷ 3 ∷ 4 ∷ []))
    ∷ stream "h" (naturals (7 ∷ 4 ∷ 4 ∷ []))
    ∷ []) []
    (framed
    (frame
    (stream "a" (absent ∷ natural 3 ∷ absent ∷ [])
    ∷ stream "o" (absent ∷ natural 4 ∷ absent ∷ [])
    ∷ []) [] no_frames
    ∷ []))

-- ---- the frame of a condact's call

-- node pair(a : int) returns (p, q : int); let p = a + 1; q = 0 -> pre a; tel
abbrev pub pair_alone : Instance
pair_alone = instance_of (declared_node pair ∷ []) pair

-- the instants 1 and 2, at which the condition of a condact is true
abbrev pub middle : Instants
middle zero = false
middle (suc zero) = true
middle (suc (suc zero)) = true
middle (suc (suc (suc t))) = false

-- a | 2 3, p | 3 4, q | 0 2
abbrev pub pair_frame : Frame
pair_frame =
    frame
    (stream "a" (naturals (2 ∷ 3 ∷ []))
    ∷ stream "p" (naturals (3 ∷ 4 ∷ []))
    ∷ stream "q" (naturals (0 ∷ 2 ∷ []))
    ∷ []) (natural 6 ∷ []) no_frames
