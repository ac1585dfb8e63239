-- Worked rows of the operators: at some instant of each row its result differs from that of every other operator.
use Rattle.std.specs.Prelude.{true, false, [], ◌∷◌, None, codes}
use Rattle.lus_tree.specs.declared.expression.Operator.TheVariants.{Implies, Or, Xor, And, Less, AtMost, Equal, Differs, AtLeast, More, Add, Sub, Mul, Div, Mod}
use Rattle.lus_tree.specs.Tree.{Component, declared_node}
use Rattle.lus_meaning.specs.Frame.{Frame, frame, no_frames}
use Rattle.lus_meaning.specs.Scene.{Instance}
use Rattle.lus_meaning.specs.Program.{instance_of}
use Rattle.meaning_rows.specs.RowParts.{declares, natural}
use Rattle.meaning_rows.specs.Written.{the, literal, negated, opposite, combined, chosen, flag_named, number_named, sets, negative, naturals, flags_of, stream}

-- ---- operators of two numbers

-- node main(x : int) returns (a, b, c, d, e, f : int);
-- let a = x + 3; b = x - 3; c = x * 3; d = x div 3; e = x mod 3; f = -x; tel
--   x |  7  -7
--   a | 10  -4
--   b |  4 -10
--   c | 21 -21
--   d |  2  -3      -7 = 3 * -3 + 2
--   e |  1   2
--   f | -7   7
abbrev pub counting_node : Component
counting_node =
    declares (codes "main") (number_named "x" ∷ [])
    (number_named "a"
    ∷ number_named "b"
    ∷ number_named "c"
    ∷ number_named "d"
    ∷ number_named "e"
    ∷ number_named "f"
    ∷ []) [] None
    (sets "a" (combined Add (the "x") (literal 3))
    ∷ sets "b" (combined Sub (the "x") (literal 3))
    ∷ sets "c" (combined Mul (the "x") (literal 3))
    ∷ sets "d" (combined Div (the "x") (literal 3))
    ∷ sets "e" (combined Mod (the "x") (literal 3))
    ∷ sets "f" (opposite (the "x"))
    ∷ [])

abbrev pub counting : Instance
counting = instance_of (declared_node counting_node ∷ []) counting_node

abbrev pub counting_frame : Frame
counting_frame = frame
    (stream "x" (natural 7 ∷ negative 7 ∷ [])
    ∷ stream "a" (natural 10 ∷ negative 4 ∷ [])
    ∷ stream "b" (natural 4 ∷ negative 10 ∷ [])
    ∷ stream "c" (natural 21 ∷ negative 21 ∷ [])
    ∷ stream "d" (natural 2 ∷ negative 3 ∷ [])
    ∷ stream "e" (natural 1 ∷ natural 2 ∷ [])
    ∷ stream "f" (negative 7 ∷ natural 7 ∷ [])
    ∷ [])
    [] no_frames

-- ---- quotients and remainders: `x = d * q + r` with r from 0 on and below the size of d

-- node main(x : int) returns (a, b, c, d : int);
-- let a = x div 3; b = x mod 3; c = x div -3; d = x mod -3; tel
--   x |  7  -7   6  -6
--   a |  2  -3   2  -2      -7 = 3 * -3 + 2
--   b |  1   2   0   0
--   c | -2   3  -2   2       7 = -3 * -2 + 1 and -7 = -3 * 3 + 2
--   d |  1   2   0   0
abbrev pub dividing_node : Component
dividing_node =
    declares (codes "main") (number_named "x" ∷ [])
    (number_named "a" ∷ number_named "b" ∷ number_named "c" ∷ number_named "d" ∷ []) [] None
    (sets "a" (combined Div (the "x") (literal 3))
    ∷ sets "b" (combined Mod (the "x") (literal 3))
    ∷ sets "c" (combined Div (the "x") (opposite (literal 3)))
    ∷ sets "d" (combined Mod (the "x") (opposite (literal 3)))
    ∷ [])

abbrev pub dividing : Instance
dividing = instance_of (declared_node dividing_node ∷ []) dividing_node

abbrev pub dividing_frame : Frame
dividing_frame = frame
    (stream "x" (natural 7 ∷ negative 7 ∷ natural 6 ∷ negative 6 ∷ [])
    ∷ stream "a" (natural 2 ∷ negative 3 ∷ natural 2 ∷ negative 2 ∷ [])
    ∷ stream "b" (naturals (1 ∷ 2 ∷ 0 ∷ 0 ∷ []))
    ∷ stream "c" (negative 2 ∷ natural 3 ∷ negative 2 ∷ natural 2 ∷ [])
    ∷ stream "d" (naturals (1 ∷ 2 ∷ 0 ∷ 0 ∷ []))
    ∷ [])
    [] no_frames

-- ---- orders of two numbers

-- node main(x : int) returns (a, b, c, d, e, f : bool);
-- let a = x < 2; b = x <= 2; c = x = 2; d = x <> 2; e = x >= 2; f = x > 2; tel
--   x |     1     2     3    -3
--   a |  true false false  true
--   b |  true  true false  true
--   c | false  true false false
--   d |  true false  true  true
--   e | false  true  true false
--   f | false false  true false
abbrev pub ordering_node : Component
ordering_node =
    declares (codes "main") (number_named "x" ∷ [])
    (flag_named "a" ∷ flag_named "b" ∷ flag_named "c" ∷ flag_named "d" ∷ flag_named "e" ∷ flag_named "f" ∷ [])
    [] None
    (sets "a" (combined Less (the "x") (literal 2))
    ∷ sets "b" (combined AtMost (the "x") (literal 2))
    ∷ sets "c" (combined Equal (the "x") (literal 2))
    ∷ sets "d" (combined Differs (the "x") (literal 2))
    ∷ sets "e" (combined AtLeast (the "x") (literal 2))
    ∷ sets "f" (combined More (the "x") (literal 2))
    ∷ [])

abbrev pub ordering : Instance
ordering = instance_of (declared_node ordering_node ∷ []) ordering_node

abbrev pub ordering_frame : Frame
ordering_frame = frame
    (stream "x" (natural 1 ∷ natural 2 ∷ natural 3 ∷ negative 3 ∷ [])
    ∷ stream "a" (flags_of (true ∷ false ∷ false ∷ true ∷ []))
    ∷ stream "b" (flags_of (true ∷ true ∷ false ∷ true ∷ []))
    ∷ stream "c" (flags_of (false ∷ true ∷ false ∷ false ∷ []))
    ∷ stream "d" (flags_of (true ∷ false ∷ true ∷ true ∷ []))
    ∷ stream "e" (flags_of (false ∷ true ∷ true ∷ false ∷ []))
    ∷ stream "f" (flags_of (false ∷ false ∷ true ∷ false ∷ []))
    ∷ [])
    [] no_frames

-- ---- operators of truth values

-- node main(x, y : bool) returns (a, b, c, d, e, f, g : bool; h : int);
-- let a = x and y; b = x or y; c = x xor y; d = x => y; e = x = y; f = x <> y; g = not x; h = if x then 1 else 2; tel
--   x |  true  true false false
--   y |  true false  true false
--   a |  true false false false
--   b |  true  true  true false
--   c | false  true  true false
--   d |  true false  true  true
--   e |  true false false  true
--   f | false  true  true false
--   g | false false  true  true
--   h |     1     1     2     2
abbrev pub deciding_node : Component
deciding_node =
    declares (codes "main") (flag_named "x" ∷ flag_named "y" ∷ [])
    (flag_named "a"
    ∷ flag_named "b"
    ∷ flag_named "c"
    ∷ flag_named "d"
    ∷ flag_named "e"
    ∷ flag_named "f"
    ∷ flag_named "g"
    ∷ number_named "h"
    ∷ []) [] None
    (sets "a" (combined And (the "x") (the "y"))
    ∷ sets "b" (combined Or (the "x") (the "y"))
    ∷ sets "c" (combined Xor (the "x") (the "y"))
    ∷ sets "d" (combined Implies (the "x") (the "y"))
    ∷ sets "e" (combined Equal (the "x") (the "y"))
    ∷ sets "f" (combined Differs (the "x") (the "y"))
    ∷ sets "g" (negated (the "x"))
    ∷ sets "h" (chosen (the "x") (literal 1) (literal 2))
    ∷ [])

abbrev pub deciding : Instance
deciding = instance_of (declared_node deciding_node ∷ []) deciding_node

abbrev pub deciding_frame : Frame
deciding_frame = frame
    (stream "x" (flags_of (true ∷ true ∷ false ∷ false ∷ []))
    ∷ stream "y" (flags_of (true ∷ false ∷ true ∷ false ∷ []))
    ∷ stream "a" (flags_of (true ∷ false ∷ false ∷ false ∷ []))
    ∷ stream "b" (flags_of (true ∷ true ∷ true ∷ false ∷ []))
    ∷ stream "c" (flags_of (false ∷ true ∷ true ∷ false ∷ []))
    ∷ stream "d" (flags_of (true ∷ false ∷ true ∷ true ∷ []))
    ∷ stream "e" (flags_of (true ∷ false ∷ false ∷ true ∷ []))
    ∷ stream "f" (flags_of (false ∷ true ∷ true ∷ false ∷ []))
    ∷ stream "g" (flags_of (false ∷ false ∷ true ∷ true ∷ []))
    ∷ stream "h" (naturals (1 ∷ 1 ∷ 2 ∷ 2 ∷ []))
    ∷ [])
    [] no_frames
