-- Worked rows of the first value outside 128 bits. Each source is one line; where it is broken here, a blank stands.
use Rattle.std.specs.Prelude.{ℕ, List, true, false, ◌^◌, ◌-◌, [], ◌∷◌, None, codes, ℤ, pos, neg_ℤ}
use Rattle.lus_tree.specs.declared.place.Pos.{Pos}
use Rattle.lus_tree.specs.declared.expression.Operator.TheVariants.{Mul}
use Rattle.lus_tree.specs.Tree.{Expression, binary, Component, declared_node}
use Rattle.lus_meaning.specs.Frame.{Frame, frame, no_frames, with_frame}
use Rattle.lus_meaning.specs.Scene.{Instance}
use Rattle.lus_meaning.specs.Program.{instance_of}
use Rattle.kind_num.specs.declared.Past.{Past}
use Rattle.kind_num.specs.declared.Op.{Op}
use Rattle.kind_num.specs.declared.Op.TheVariants as ops
use Rattle.meaning_rows.specs.RowParts.{declares, natural}
use Rattle.meaning_rows.specs.Written.{the, literal, previous, followed, when_true, merged_on, calling, calling_while, flag_named, number_named, on, sets, naturals, flags_of, stream, line}
use Rattle.lus_meaning.specs.Value.{absent}
use Rattle.lus_meaning.specs.Trace.{BareLine}

-- the place in this column of the first line
abbrev pub column : ℕ → Pos
column c = record { line = 1; column = c }

abbrev pub factor : ℕ
factor = 4611686018427387904

-- a product with the factor 2^62, whose operator stands in this column
abbrev pub scaled : ℕ → Expression → Expression
scaled c a = binary record { from = column c; at = column c } Mul a (literal factor)

abbrev pub product_past : ℤ → Past
product_past x = record { op = ops.Mul; left = x; right = pos factor }

-- ---- a product that grows

-- node main() returns (y : int); let y = 1 -> pre y * 4611686018427387904; tel
--   y | 1 2^62 2^124 2^186
abbrev pub growing_node : Component
growing_node = declares (codes "main") [] (number_named "y" ∷ []) [] None
    (sets "y" (followed 1 (literal 1) (scaled 51 (previous 1 (the "y")))) ∷ [])

abbrev pub growing : Instance
growing = instance_of (declared_node growing_node ∷ []) growing_node

abbrev pub growing_frame : Frame
growing_frame =
    frame (stream "y" (naturals (1 ∷ 2 ^ 62 ∷ 2 ^ 124 ∷ 2 ^ 186 ∷ [])) ∷ []) (natural 0 ∷ []) no_frames

-- ---- a late part, and two values at one instant

-- node main() returns (y, w : int); var z : int; let y = 0 -> pre (z * 4611686018427387904);
-- z = 1 -> pre z * 4611686018427387904; w = z * 4611686018427387904; tel
--   z | 1    2^62  2^124
--   w | 2^62 2^124 2^186
--   y | 0    2^62  2^124
-- At instant 2 the operand of the first `pre`, which comes behind the equation of z, and the right side of w are both outside.
abbrev pub two_node : Component
two_node =
    declares (codes "main") [] (number_named "y" ∷ number_named "w" ∷ []) (number_named "z" ∷ []) None
    (sets "y" (followed 1 (literal 0) (previous 1 (scaled 68 (the "z"))))
    ∷ sets "z" (followed 2 (literal 1) (scaled 107 (previous 2 (the "z"))))
    ∷ sets "w" (scaled 136 (the "z"))
    ∷ [])

abbrev pub two : Instance
two = instance_of (declared_node two_node ∷ []) two_node

abbrev pub two_frame : Frame
two_frame =
    frame
    (stream "y" (naturals (0 ∷ 2 ^ 62 ∷ 2 ^ 124 ∷ []))
    ∷ stream "w" (naturals (2 ^ 62 ∷ 2 ^ 124 ∷ 2 ^ 186 ∷ []))
    ∷ stream "z" (naturals (1 ∷ 2 ^ 62 ∷ 2 ^ 124 ∷ []))
    ∷ []) (natural 0 ∷ natural 0 ∷ []) no_frames

-- ---- a callee

-- node scale(a : int) returns (o : int); let o = a * 4611686018427387904; tel
-- node main() returns (y : int); var z : int; let z = 1 -> pre z * 4611686018427387904; y = scale(z); tel
--   z | 1    2^62  2^124
--   y | 2^62 2^124 2^186
abbrev pub scale : Component
scale = declares (codes "scale") (number_named "a" ∷ []) (number_named "o" ∷ []) [] None (sets "o" (scaled 50 (the "a")) ∷ [])

abbrev pub scale_node : Component
scale_node = declares (codes "main") [] (number_named "y" ∷ []) (number_named "z" ∷ []) None
    (sets "z" (followed 1 (literal 1) (scaled 140 (previous 1 (the "z")))) ∷ sets "y" (calling 1 "scale" (the "z" ∷ [])) ∷ [])

abbrev pub scaling : Instance
scaling = instance_of (declared_node scale ∷ declared_node scale_node ∷ []) scale_node

abbrev pub scaling_frame : Frame
scaling_frame =
    frame
    (stream "y" (naturals (2 ^ 62 ∷ 2 ^ 124 ∷ 2 ^ 186 ∷ [])) ∷ stream "z" (naturals (1 ∷ 2 ^ 62 ∷ 2 ^ 124 ∷ [])) ∷ [])
    (natural 0 ∷ [])
    (with_frame
    (frame
    (stream "a" (naturals (1 ∷ 2 ^ 62 ∷ 2 ^ 124 ∷ [])) ∷ stream "o" (naturals (2 ^ 62 ∷ 2 ^ 124 ∷ 2 ^ 186 ∷ [])) ∷ []) []
    no_frames) no_frames)

-- ---- the ends of 128 bits

abbrev pub least : ℤ
least = neg_ℤ (pos (2 ^ 127))

abbrev pub greatest : ℤ
greatest = pos (2 ^ 127 - 1)

abbrev pub minus_one : ℤ
minus_one = neg_ℤ (pos 1)

abbrev pub told : Op → ℤ → ℤ → Past
told o x y = record { op = o; left = x; right = y }

-- ---- clocks: what is evaluated where

-- node main(c : bool) returns (m : int); var z : int;
-- let z = 1 -> pre z * 4611686018427387904; m = merge c (true -> (z when c) * 4611686018427387904) (false -> 0); tel
--   c | true true  false
--   z | 1    2^62  2^124
--   m | 2^62 2^124 0
-- The first branch would be outside at instant 2, where c is false: there it is not evaluated.
abbrev pub merging_node : Component
merging_node = declares (codes "main") (flag_named "c" ∷ []) (number_named "m" ∷ []) (number_named "z" ∷ []) None
    (sets "z" (followed 1 (literal 1) (scaled 2 (previous 1 (the "z"))))
    ∷ sets "m" (merged_on "c" (scaled 3 (when_true (the "z") "c")) (literal 0))
    ∷ [])

abbrev pub merging : Instance
merging = instance_of (declared_node merging_node ∷ []) merging_node

abbrev pub merging_frame : Frame
merging_frame =
    frame
    (stream "c" (flags_of (true ∷ true ∷ false ∷ []))
    ∷ stream "m" (naturals (2 ^ 62 ∷ 2 ^ 124 ∷ 0 ∷ []))
    ∷ stream "z" (naturals (1 ∷ 2 ^ 62 ∷ 2 ^ 124 ∷ []))
    ∷ []) (natural 0 ∷ []) no_frames

abbrev pub merging_lines : List BareLine
merging_lines = line [] "c" (flags_of (true ∷ true ∷ false ∷ [])) ∷ []

-- node main(c : bool) returns (z : int); var y : int when c;
-- let z = 1 -> pre z * 4611686018427387904; y = (z * 4611686018427387904) when c; tel
--   c | true true  false
--   z | 1    2^62  2^124
--   y | 2^62 2^124 -
-- The operand of `when` stands on the clock of c, which is the base clock: it is evaluated where c is false.
abbrev pub sampling_node : Component
sampling_node = declares (codes "main") (flag_named "c" ∷ []) (number_named "z" ∷ []) (on "c" (number_named "y") ∷ []) None
    (sets "z" (followed 1 (literal 1) (scaled 2 (previous 1 (the "z")))) ∷ sets "y" (when_true (scaled 3 (the "z")) "c") ∷ [])

abbrev pub sampling : Instance
sampling = instance_of (declared_node sampling_node ∷ []) sampling_node

abbrev pub sampling_frame : Frame
sampling_frame =
    frame
    (stream "c" (flags_of (true ∷ true ∷ false ∷ []))
    ∷ stream "z" (naturals (1 ∷ 2 ^ 62 ∷ 2 ^ 124 ∷ []))
    ∷ stream "y" (natural (2 ^ 62) ∷ natural (2 ^ 124) ∷ absent ∷ [])
    ∷ []) (natural 0 ∷ []) no_frames

-- node main(c : bool) returns (y : int); var z : int;
-- let z = 1 -> pre z * 4611686018427387904; y = condact(c, scale(z), 0); tel
-- with scale as above, and the same with the argument z * 4611686018427387904
--   c | true true  false
--   z | 1    2^62  2^124
--   y | 2^62 2^124 2^124
-- At instant 2 scale does not run, so nothing in it is evaluated; but the argument is.
abbrev pub condact_on : Expression → Component
condact_on a = declares (codes "main") (flag_named "c" ∷ []) (number_named "y" ∷ []) (number_named "z" ∷ []) None
    (sets "z" (followed 1 (literal 1) (scaled 2 (previous 1 (the "z"))))
    ∷ sets "y" (calling_while 1 (the "c") "scale" (a ∷ []) (literal 0 ∷ []))
    ∷ [])

abbrev pub condact_of : Expression → Instance
condact_of a = instance_of (declared_node scale ∷ declared_node (condact_on a) ∷ []) (condact_on a)

abbrev pub resting : Instance
resting = condact_of (the "z")

abbrev pub resting_frame : Frame
resting_frame =
    frame
    (stream "c" (flags_of (true ∷ true ∷ false ∷ []))
    ∷ stream "y" (naturals (2 ^ 62 ∷ 2 ^ 124 ∷ 2 ^ 124 ∷ []))
    ∷ stream "z" (naturals (1 ∷ 2 ^ 62 ∷ 2 ^ 124 ∷ []))
    ∷ []) (natural 0 ∷ [])
    (with_frame
    (frame
    (stream "a" (natural 1 ∷ natural (2 ^ 62) ∷ absent ∷ []) ∷ stream "o" (natural (2 ^ 62) ∷ natural (2 ^ 124) ∷ absent ∷ []) ∷ []) []
    no_frames) no_frames)

-- c is false throughout
abbrev pub argued : Instance
argued = condact_of (scaled 3 (the "z"))

abbrev pub argued_frame : Frame
argued_frame =
    frame
    (stream "c" (flags_of (false ∷ false ∷ false ∷ []))
    ∷ stream "y" (naturals (0 ∷ 0 ∷ 0 ∷ []))
    ∷ stream "z" (naturals (1 ∷ 2 ^ 62 ∷ 2 ^ 124 ∷ []))
    ∷ []) (natural 0 ∷ [])
    (with_frame
    (frame (stream "a" (absent ∷ absent ∷ absent ∷ []) ∷ stream "o" (absent ∷ absent ∷ absent ∷ []) ∷ []) [] no_frames) no_frames)

abbrev pub argued_lines : List BareLine
argued_lines = line [] "c" (flags_of (false ∷ false ∷ false ∷ [])) ∷ []
