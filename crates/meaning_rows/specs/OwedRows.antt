-- Worked rows of what calls owe, of assertions in callees, and of lawful instants.
use Rattle.std.specs.Prelude.{ℕ, zero, suc, true, false, [], ◌∷◌, Option, Some, None, codes}
use Rattle.lus_tree.specs.declared.expression.Operator.TheVariants.{Less, Differs, More}
use Rattle.lus_tree.specs.Tree.{Component, assertion, assume, guarantee, declared_node, declared_contract}
use Rattle.lus_meaning.specs.Value.{absent}
use Rattle.lus_meaning.specs.Frame.{Frame, frame, no_frames}
use Rattle.lus_meaning.specs.Scene.{Instance}
use Rattle.lus_meaning.specs.Program.{instance_of}
use Rattle.meaning_rows.specs.RowParts.{declares, natural, unlabelled}
use Rattle.meaning_rows.specs.Written.{the, truth_of, literal, previous, followed, combined, when_true, calling, flag_named, number_named, on, sets, saying, checked, importing, negative, naturals, flags_of, stream, framed}

-- ---- two plain calls of a node whose assumption looks back

-- node part(a : int) returns (o : int); (*@contract assume "grows" (0 < a) -> (pre a < a); *) let o = a; assert a < 50; assert a <> 3; tel
abbrev pub growing : Component
growing =
    declares (codes "part") (number_named "a" ∷ []) (number_named "o" ∷ []) []
    (Some
    (assume
    (saying "grows"
    (followed 1 (combined Less (literal 0) (the "a"))
    (combined Less (previous 1 (the "a")) (the "a"))))
    ∷ []))
    (sets "o" (the "a")
    ∷ assertion (combined Less (the "a") (literal 50))
    ∷ assertion (combined Differs (the "a") (literal 3))
    ∷ [])

-- node main(c : bool; x, y : int) returns (z : int); var s : int when c; let s = part(x when c); z = part(y); tel
--   c       | false  true false  true false
--   x       |    90     1    80     1     3
--   s       |     -     1     -     1     -
--   y, z    |     1     2     2     3    60
--   1 grows |  true  true  true false  true      at instant 3 the last a is that of instant 1
--   2 grows |  true  true false  true  true
--   asserts |  true  true  true false false      both of the second call; where the first one does not run, its a is no matter
abbrev pub two_calls_node : Component
two_calls_node =
    declares (codes "main") (flag_named "c" ∷ number_named "x" ∷ number_named "y" ∷ []) (number_named "z" ∷ [])
    (on "c" (number_named "s") ∷ []) None
    (sets "s" (calling 1 "part" (when_true (the "x") "c" ∷ []))
    ∷ sets "z" (calling 2 "part" (the "y" ∷ []))
    ∷ [])

abbrev pub two_calls : Instance
two_calls = instance_of (declared_node growing ∷ declared_node two_calls_node ∷ []) two_calls_node

abbrev pub two_calls_frame : Frame
two_calls_frame =
    frame
    (stream "c" (flags_of (false ∷ true ∷ false ∷ true ∷ false ∷ []))
    ∷ stream "x" (naturals (90 ∷ 1 ∷ 80 ∷ 1 ∷ 3 ∷ []))
    ∷ stream "y" (naturals (1 ∷ 2 ∷ 2 ∷ 3 ∷ 60 ∷ []))
    ∷ stream "z" (naturals (1 ∷ 2 ∷ 2 ∷ 3 ∷ 60 ∷ []))
    ∷ stream "s" (absent ∷ natural 1 ∷ absent ∷ natural 1 ∷ absent ∷ [])
    ∷ []) []
    (framed
    (frame
    (stream "a" (absent ∷ natural 1 ∷ absent ∷ natural 1 ∷ absent ∷ [])
    ∷ stream "o" (absent ∷ natural 1 ∷ absent ∷ natural 1 ∷ absent ∷ [])
    ∷ []) (natural 0 ∷ []) no_frames
    ∷ frame
    (stream "a" (naturals (1 ∷ 2 ∷ 2 ∷ 3 ∷ 60 ∷ []))
    ∷ stream "o" (naturals (1 ∷ 2 ∷ 2 ∷ 3 ∷ 60 ∷ []))
    ∷ []) (natural 0 ∷ []) no_frames
    ∷ []))

-- ---- who owes: the direct caller alone, for calls in its contract too, and not for those of a contract that it imports

-- node part(a : int) returns (o : int); (*@contract assume "positive" a > 0; *) let o = a; assert a < 5; tel
abbrev pub positive : Component
positive = declares (codes "part") (number_named "a" ∷ []) (number_named "o" ∷ []) []
    (Some (assume (saying "positive" (combined More (the "a") (literal 0))) ∷ []))
    (sets "o" (the "a") ∷ assertion (combined Less (the "a") (literal 5)) ∷ [])

-- node mid(a : int) returns (o : int); let o = part(a); tel
abbrev pub mid : Component
mid =
    declares (codes "mid") (number_named "a" ∷ []) (number_named "o" ∷ []) [] None
    (sets "o" (calling 1 "part" (the "a" ∷ [])) ∷ [])

-- contract lim(b : int) returns (r : int); let guarantee "l" part(b) > 0; tel
abbrev pub lim : Component
lim = declares (codes "lim") (number_named "b" ∷ []) (number_named "r" ∷ []) []
    (Some (guarantee (saying "l" (combined More (calling 1 "part" (the "b" ∷ [])) (literal 0))) ∷ [])) []

-- node main(x : int) returns (y : int);
-- (*@contract guarantee "g" part(y) > 0; import lim(x) returns (y); *)
-- let y = mid(part(x)); tel
-- The calls are 1 in the guarantee, 2 the import, 3 mid and 4 part.
abbrev pub owing_node : Component
owing_node =
    declares (codes "main") (number_named "x" ∷ []) (number_named "y" ∷ []) []
    (Some
    (guarantee (saying "g" (combined More (calling 1 "part" (the "y" ∷ [])) (literal 0)))
    ∷ importing 2 "lim" (the "x" ∷ []) ("y" ∷ [])
    ∷ [])) (sets "y" (calling 3 "mid" (calling 4 "part" (the "x" ∷ []) ∷ [])) ∷ [])

abbrev pub owing : Instance
owing =
    instance_of
    (declared_node positive ∷ declared_node mid ∷ declared_contract lim ∷ declared_node owing_node ∷ [])
    owing_node

-- ---- an assertion two levels deep

-- node main(x : int) returns (y : int); let y = mid(x); tel
-- x, y    |     4     5    -1
-- asserts |  true false  true      at -1 the assumption of part is false, which is no matter here
abbrev pub deep_assertion_node : Component
deep_assertion_node =
    declares (codes "main") (number_named "x" ∷ []) (number_named "y" ∷ []) [] None
    (sets "y" (calling 1 "mid" (the "x" ∷ [])) ∷ [])

abbrev pub deep_assertion : Instance
deep_assertion =
    instance_of (declared_node positive ∷ declared_node mid ∷ declared_node deep_assertion_node ∷ [])
    deep_assertion_node

abbrev pub deep_assertion_frame : Frame
deep_assertion_frame =
    frame
    (stream "x" (natural 4 ∷ natural 5 ∷ negative 1 ∷ [])
    ∷ stream "y" (natural 4 ∷ natural 5 ∷ negative 1 ∷ [])
    ∷ []) []
    (framed
    (frame
    (stream "a" (natural 4 ∷ natural 5 ∷ negative 1 ∷ [])
    ∷ stream "o" (natural 4 ∷ natural 5 ∷ negative 1 ∷ [])
    ∷ []) []
    (framed
    (frame
    (stream "a" (natural 4 ∷ natural 5 ∷ negative 1 ∷ [])
    ∷ stream "o" (natural 4 ∷ natural 5 ∷ negative 1 ∷ [])
    ∷ []) [] no_frames
    ∷ []))
    ∷ []))

-- ---- lawful instants, and the first break

-- node main(a : int) returns (b : int); let b = a; assert a < 5; check "low" a < 3; tel
abbrev pub bounded_node : Component
bounded_node =
    declares (codes "main") (number_named "a" ∷ []) (number_named "b" ∷ []) [] None
    (sets "b" (the "a")
    ∷ assertion (combined Less (the "a") (literal 5))
    ∷ checked "low" (combined Less (the "a") (literal 3))
    ∷ [])

abbrev pub bounded : Instance
bounded = instance_of (declared_node bounded_node ∷ []) bounded_node

-- a is 1, 5, 4: the assertion is false at 1, so neither 1 nor 2 is lawful; low is true, false, false
abbrev pub lawless_frame : Frame
lawless_frame =
    frame (stream "a" (naturals (1 ∷ 5 ∷ 4 ∷ [])) ∷ stream "b" (naturals (1 ∷ 5 ∷ 4 ∷ [])) ∷ []) [] no_frames

-- a is 1, 3, 4: all are lawful, and low is false for the first time at 1
abbrev pub broken_frame : Frame
broken_frame =
    frame (stream "a" (naturals (1 ∷ 3 ∷ 4 ∷ [])) ∷ stream "b" (naturals (1 ∷ 3 ∷ 4 ∷ [])) ∷ []) [] no_frames

-- at which instant each property breaks, by its number from 0
abbrev pub never : ℕ → Option ℕ
never k = None

abbrev pub first_at : ℕ → ℕ → Option ℕ
first_at t zero = Some t
first_at t (suc k) = None

-- low is false at 0, and b is not a
abbrev pub no_run_frame : Frame
no_run_frame = frame (stream "a" (naturals (3 ∷ [])) ∷ stream "b" (naturals (1 ∷ [])) ∷ []) [] no_frames

-- ---- a property that is false without a value of any name

-- node main(a : int) returns (b : int); let b = a; check "first" true -> false; tel
abbrev pub ending_node : Component
ending_node = declares (codes "main") (number_named "a" ∷ []) (number_named "b" ∷ []) [] None
    (sets "b" (the "a") ∷ checked "first" (followed 1 (truth_of true) (truth_of false)) ∷ [])

abbrev pub ending : Instance
ending = instance_of (declared_node ending_node ∷ []) ending_node

-- one instant, at which it is true
abbrev pub ending_frame : Frame
ending_frame = frame (stream "a" (naturals (1 ∷ [])) ∷ stream "b" (naturals (1 ∷ [])) ∷ []) [] no_frames

-- ---- an assumption that is never true

-- node main(x : int) returns (y : int); (*@contract assume false; guarantee "g" y > 0; *) let y = x; tel
abbrev pub impossible_node : Component
impossible_node = declares (codes "main") (number_named "x" ∷ []) (number_named "y" ∷ []) []
    (Some (assume (unlabelled (truth_of false)) ∷ guarantee (saying "g" (combined More (the "y") (literal 0))) ∷ []))
    (sets "y" (the "x") ∷ [])

abbrev pub impossible : Instance
impossible = instance_of (declared_node impossible_node ∷ []) impossible_node

-- y is 0, where g is false
abbrev pub impossible_frame : Frame
impossible_frame = frame (stream "x" (naturals (0 ∷ [])) ∷ stream "y" (naturals (0 ∷ [])) ∷ []) [] no_frames
