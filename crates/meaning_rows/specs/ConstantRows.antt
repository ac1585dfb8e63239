-- A worked row of constants: those of the program, of a contract and of a node, each defined by those before it.
use Rattle.std.specs.Prelude.{true, false, [], ◌∷◌, Some, None, codes}
use Rattle.lus_tree.specs.declared.expression.Operator.TheVariants.{Less, More, Add, Mul}
use Rattle.lus_tree.specs.Tree.{Component, guarantee, constant, declared_constant, declared_node}
use Rattle.lus_meaning.specs.Value.{absent}
use Rattle.lus_meaning.specs.Frame.{Frame, frame, no_frames}
use Rattle.lus_meaning.specs.Scene.{Instance}
use Rattle.lus_meaning.specs.Program.{instance_of}
use Rattle.meaning_rows.specs.RowParts.{declares, natural}
use Rattle.meaning_rows.specs.Written.{the, literal, combined, chosen, merged_on, calling, calling_while, flag_named, number_named, on, defined, with_constants, sets, saying, naturals, flags_of, stream, framed}

-- const N = 2; const M = N + 1; const B = N < M;
-- node part(a : int) returns (o : int); const L = 1; let o = a + L + N; tel
abbrev pub part : Component
part =
    with_constants (defined "L" (literal 1) ∷ [])
    (declares (codes "part") (number_named "a" ∷ []) (number_named "o" ∷ []) [] None
    (sets "o" (combined Add (combined Add (the "a") (the "L")) (the "N")) ∷ []))

-- node main(c : bool; x : int) returns (o, p, h : int); (*@contract const K = M * 2; guarantee "k" o > K; *)
-- var s : int when c; const L = K + N;
-- let s = L; o = part(x); p = merge c (true -> s + M) (false -> if B then M else K); h = condact(c, part(x), K); tel
-- N is 2, M is 3, B is true, K is 6; L is 8 in main and 1 in part.
--   c | false  true
--   x |     1     5
--   o |     4     8
--   k | false  true
--   s |     -     8
--   p |     3    11
--   h |     6     8
abbrev pub constants_node : Component
constants_node =
    with_constants (defined "L" (combined Add (the "K") (the "N")) ∷ [])
    (declares (codes "main") (flag_named "c" ∷ number_named "x" ∷ [])
    (number_named "o" ∷ number_named "p" ∷ number_named "h" ∷ []) (on "c" (number_named "s") ∷ [])
    (Some
    (constant (defined "K" (combined Mul (the "M") (literal 2)))
    ∷ guarantee (saying "k" (combined More (the "o") (the "K")))
    ∷ []))
    (sets "s" (the "L")
    ∷ sets "o" (calling 1 "part" (the "x" ∷ []))
    ∷ sets "p" (merged_on "c" (combined Add (the "s") (the "M")) (chosen (the "B") (the "M") (the "K")))
    ∷ sets "h" (calling_while 2 (the "c") "part" (the "x" ∷ []) (the "K" ∷ []))
    ∷ []))

abbrev pub constants : Instance
constants = instance_of
    (declared_constant (defined "N" (literal 2))
    ∷ declared_constant (defined "M" (combined Add (the "N") (literal 1)))
    ∷ declared_constant (defined "B" (combined Less (the "N") (the "M")))
    ∷ declared_node part
    ∷ declared_node constants_node
    ∷ [])
    constants_node

abbrev pub constants_frame : Frame
constants_frame =
    frame
    (stream "c" (flags_of (false ∷ true ∷ []))
    ∷ stream "x" (naturals (1 ∷ 5 ∷ []))
    ∷ stream "o" (naturals (4 ∷ 8 ∷ []))
    ∷ stream "p" (naturals (3 ∷ 11 ∷ []))
    ∷ stream "h" (naturals (6 ∷ 8 ∷ []))
    ∷ stream "s" (absent ∷ natural 8 ∷ [])
    ∷ []) []
    (framed
    (frame (stream "a" (naturals (1 ∷ 5 ∷ [])) ∷ stream "o" (naturals (4 ∷ 8 ∷ [])) ∷ []) [] no_frames
    ∷ frame (stream "a" (absent ∷ natural 5 ∷ []) ∷ stream "o" (absent ∷ natural 8 ∷ []) ∷ []) []
    no_frames
    ∷ []))
