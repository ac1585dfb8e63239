-- Worked rows of calls: on which clock each runs, with which arguments, and what its outputs are.
use Rattle.std.specs.Prelude.{ℕ, true, false, [], ◌∷◌, Some, None, codes}
use Rattle.lus_tree.specs.declared.expression.Operator.TheVariants.{Less, Differs, More, Add}
use Rattle.lus_tree.specs.Tree.{Component, declared_node, declared_contract, assertion, assume, guarantee, ghost_variable}
use Rattle.lus_meaning.specs.Value.{absent, flag}
use Rattle.lus_meaning.specs.Frame.{Frame, frame, no_frames}
use Rattle.lus_meaning.specs.Scene.{Instance}
use Rattle.lus_meaning.specs.Program.{instance_of}
use Rattle.meaning_rows.specs.RowParts.{declares, natural, unlabelled}
use Rattle.meaning_rows.specs.ClockRows.{counter}
use Rattle.meaning_rows.specs.Written.{the, truth_of, literal, previous, followed, combined, when_true, when_false, merged_on, calling, calling_while, flag_named, number_named, on, sets, sets_all, saying, checked, mode_named, importing, naturals, flags_of, stream, framed}

-- ---- a call before `when` runs on the fast clock, one of sampled arguments on the slow clock

-- node count(u : bool) returns (k : int); let k = 1 -> pre k + 1; tel
-- node main(c : bool) returns (o : int); var s, z : int when c;
-- let s = count(c when c); z = count(c) when c; o = merge c (true -> s + z) (false -> 0); tel
--   c | false  true false  true
--   s |     -     1     -     2
--   z |     -     2     -     4      the second call gives 1, 2, 3, 4
--   o |     0     3     0     6
abbrev pub sampled_call_node : Component
sampled_call_node =
    declares (codes "main") (flag_named "c" ∷ []) (number_named "o" ∷ [])
    (on "c" (number_named "s") ∷ on "c" (number_named "z") ∷ []) None
    (sets "s" (calling 1 "count" (when_true (the "c") "c" ∷ []))
    ∷ sets "z" (when_true (calling 2 "count" (the "c" ∷ [])) "c")
    ∷ sets "o" (merged_on "c" (combined Add (the "s") (the "z")) (literal 0))
    ∷ [])

abbrev pub sampled_call : Instance
sampled_call = instance_of (declared_node counter ∷ declared_node sampled_call_node ∷ []) sampled_call_node

abbrev pub sampled_call_frame : Frame
sampled_call_frame =
    frame
    (stream "c" (flags_of (false ∷ true ∷ false ∷ true ∷ []))
    ∷ stream "o" (naturals (0 ∷ 3 ∷ 0 ∷ 6 ∷ []))
    ∷ stream "s" (absent ∷ natural 1 ∷ absent ∷ natural 2 ∷ [])
    ∷ stream "z" (absent ∷ natural 2 ∷ absent ∷ natural 4 ∷ [])
    ∷ []) []
    (framed
    (frame
    (stream "u" (absent ∷ flag true ∷ absent ∷ flag true ∷ [])
    ∷ stream "k" (absent ∷ natural 1 ∷ absent ∷ natural 2 ∷ [])
    ∷ []) (natural 5 ∷ []) no_frames
    ∷ frame
    (stream "u" (flags_of (false ∷ true ∷ false ∷ true ∷ []))
    ∷ stream "k" (naturals (1 ∷ 2 ∷ 3 ∷ 4 ∷ []))
    ∷ []) (natural 5 ∷ []) no_frames
    ∷ []))

-- ---- a call in each branch of a merge

-- node main(c : bool) returns (o : int); let o = merge c (true -> count(c when c)) (false -> count(c when not c)); tel
--   c | false  true  true false
--   o |     1     1     2     2
abbrev pub branches_node : Component
branches_node =
    declares (codes "main") (flag_named "c" ∷ []) (number_named "o" ∷ []) [] None
    (sets "o"
    (merged_on "c" (calling 1 "count" (when_true (the "c") "c" ∷ []))
    (calling 2 "count" (when_false (the "c") "c" ∷ [])))
    ∷ [])

abbrev pub branches : Instance
branches = instance_of (declared_node counter ∷ declared_node branches_node ∷ []) branches_node

abbrev pub branches_frame : Frame
branches_frame =
    frame
    (stream "c" (flags_of (false ∷ true ∷ true ∷ false ∷ []))
    ∷ stream "o" (naturals (1 ∷ 1 ∷ 2 ∷ 2 ∷ []))
    ∷ []) []
    (framed
    (frame
    (stream "u" (absent ∷ flag true ∷ flag true ∷ absent ∷ [])
    ∷ stream "k" (absent ∷ natural 1 ∷ natural 2 ∷ absent ∷ [])
    ∷ []) (natural 5 ∷ []) no_frames
    ∷ frame
    (stream "u" (flag false ∷ absent ∷ absent ∷ flag false ∷ [])
    ∷ stream "k" (natural 1 ∷ absent ∷ absent ∷ natural 2 ∷ [])
    ∷ []) (natural 5 ∷ []) no_frames
    ∷ []))

-- ---- a call two levels deep: the inner one runs where the outer one does and its own clock is on

-- node gate(u, d : bool) returns (k : int); let k = merge d (true -> count(u when d)) (false -> 0); tel
abbrev pub gate : Component
gate = declares (codes "gate") (flag_named "u" ∷ flag_named "d" ∷ []) (number_named "k" ∷ []) [] None
    (sets "k" (merged_on "d" (calling 1 "count" (when_true (the "u") "d" ∷ [])) (literal 0)) ∷ [])

-- node main(c, e : bool) returns (o : int); var s : int when c;
-- let s = gate(c when c, e when c); o = merge c (true -> s) (false -> 9); tel
--   c |  true false  true  true
--   e | false  true  true  true
--   s |     0     -     1     2      gate runs at 0, 2 and 3, and count in it at 2 and 3
--   o |     0     9     1     2
abbrev pub deep_call_node : Component
deep_call_node =
    declares (codes "main") (flag_named "c" ∷ flag_named "e" ∷ []) (number_named "o" ∷ [])
    (on "c" (number_named "s") ∷ []) None
    (sets "s" (calling 1 "gate" (when_true (the "c") "c" ∷ when_true (the "e") "c" ∷ []))
    ∷ sets "o" (merged_on "c" (the "s") (literal 9))
    ∷ [])

abbrev pub deep_call : Instance
deep_call =
    instance_of (declared_node counter ∷ declared_node gate ∷ declared_node deep_call_node ∷ []) deep_call_node

abbrev pub deep_call_frame : Frame
deep_call_frame =
    frame
    (stream "c" (flags_of (true ∷ false ∷ true ∷ true ∷ []))
    ∷ stream "e" (flags_of (false ∷ true ∷ true ∷ true ∷ []))
    ∷ stream "o" (naturals (0 ∷ 9 ∷ 1 ∷ 2 ∷ []))
    ∷ stream "s" (natural 0 ∷ absent ∷ natural 1 ∷ natural 2 ∷ [])
    ∷ []) []
    (framed
    (frame
    (stream "u" (flag true ∷ absent ∷ flag true ∷ flag true ∷ [])
    ∷ stream "d" (flag false ∷ absent ∷ flag true ∷ flag true ∷ [])
    ∷ stream "k" (natural 0 ∷ absent ∷ natural 1 ∷ natural 2 ∷ [])
    ∷ []) []
    (framed
    (frame
    (stream "u" (absent ∷ absent ∷ flag true ∷ flag true ∷ [])
    ∷ stream "k" (absent ∷ absent ∷ natural 1 ∷ natural 2 ∷ [])
    ∷ []) (natural 5 ∷ []) no_frames
    ∷ []))
    ∷ []))

-- ---- several outputs, and condacts on the base clock and on a slow one

-- node next(a : int) returns (o : int); let o = a + 1; tel
abbrev pub next : Component
next =
    declares (codes "next") (number_named "a" ∷ []) (number_named "o" ∷ []) [] None
    (sets "o" (combined Add (the "a") (literal 1)) ∷ [])

-- node pair(a : int) returns (p, q : int); let p = a + 1; q = 0 -> pre a; tel
abbrev pub pair : Component
pair = declares (codes "pair") (number_named "a" ∷ []) (number_named "p" ∷ number_named "q" ∷ []) [] None
    (sets "p" (combined Add (the "a") (literal 1)) ∷ sets "q" (followed 1 (literal 0) (previous 1 (the "a"))) ∷ [])

-- node main(c, d : bool; x : int) returns (h, k, m, n : int); var s : int when d;
-- let (h, k) = condact(c, pair(x), 7, 8); s = condact(c when d, next(x when d), 5); m, n = pair(x + 10); tel
--   c | false  true  true false
--   d |  true false  true  true
--   x |     1     2     3     4
--   h |     7     3     4     4      pair runs at 1 and 2
--   k |     8     0     2     2
--   s |     5     -     4     4      next runs at 2 alone
--   m |    12    13    14    15
--   n |     0    11    12    13
abbrev pub held_pair_node : Component
held_pair_node =
    declares (codes "main") (flag_named "c" ∷ flag_named "d" ∷ number_named "x" ∷ [])
    (number_named "h" ∷ number_named "k" ∷ number_named "m" ∷ number_named "n" ∷ [])
    (on "d" (number_named "s") ∷ []) None
    (sets_all ("h" ∷ "k" ∷ [])
    (calling_while 1 (the "c") "pair" (the "x" ∷ []) (literal 7 ∷ literal 8 ∷ []))
    ∷ sets "s"
    (calling_while 2 (when_true (the "c") "d") "next" (when_true (the "x") "d" ∷ []) (literal 5 ∷ []))
    ∷ sets_all ("m" ∷ "n" ∷ []) (calling 3 "pair" (combined Add (the "x") (literal 10) ∷ []))
    ∷ [])

abbrev pub held_pair : Instance
held_pair = instance_of (declared_node next ∷ declared_node pair ∷ declared_node held_pair_node ∷ []) held_pair_node

abbrev pub held_pair_frame : Frame
held_pair_frame =
    frame
    (stream "c" (flags_of (false ∷ true ∷ true ∷ false ∷ []))
    ∷ stream "d" (flags_of (true ∷ false ∷ true ∷ true ∷ []))
    ∷ stream "x" (naturals (1 ∷ 2 ∷ 3 ∷ 4 ∷ []))
    ∷ stream "h" (naturals (7 ∷ 3 ∷ 4 ∷ 4 ∷ []))
    ∷ stream "k" (naturals (8 ∷ 0 ∷ 2 ∷ 2 ∷ []))
    ∷ stream "m" (naturals (12 ∷ 13 ∷ 14 ∷ 15 ∷ []))
    ∷ stream "n" (naturals (0 ∷ 11 ∷ 12 ∷ 13 ∷ []))
    ∷ stream "s" (natural 5 ∷ absent ∷ natural 4 ∷ natural 4 ∷ [])
    ∷ []) []
    (framed
    (frame
    (stream "a" (absent ∷ natural 2 ∷ natural 3 ∷ absent ∷ [])
    ∷ stream "p" (absent ∷ natural 3 ∷ natural 4 ∷ absent ∷ [])
    ∷ stream "q" (absent ∷ natural 0 ∷ natural 2 ∷ absent ∷ [])
    ∷ []) (natural 6 ∷ []) no_frames
    ∷ frame
    (stream "a" (absent ∷ absent ∷ natural 3 ∷ absent ∷ [])
    ∷ stream "o" (absent ∷ absent ∷ natural 4 ∷ absent ∷ [])
    ∷ []) [] no_frames
    ∷ frame
    (stream "a" (naturals (11 ∷ 12 ∷ 13 ∷ 14 ∷ []))
    ∷ stream "p" (naturals (12 ∷ 13 ∷ 14 ∷ 15 ∷ []))
    ∷ stream "q" (naturals (0 ∷ 11 ∷ 12 ∷ 13 ∷ []))
    ∷ []) (natural 6 ∷ []) no_frames
    ∷ []))

-- ---- calls in every kind of item, numbered in the order of the text

-- contract lim(b : int) returns (r : int); let guarantee "lim" r > b; tel
abbrev pub lim : Component
lim =
    declares (codes "lim") (number_named "b" ∷ []) (number_named "r" ∷ []) []
    (Some (guarantee (saying "lim" (combined More (the "r") (the "b"))) ∷ [])) []

-- node main(x : int) returns (o : int);
-- (*@contract assume next(x) < 9; assume x <> 1; var g : int = next(x + 1); guarantee "g" next(o) > g;
--   mode m (require next(x) > 2; ensure "e" next(o) > 20;); import lim(next(x)) returns (o); *)
-- let o = next(next(x)); assert next(x) < 10; check "p" next(o) > 4; tel
-- The calls in the order of the text: 1 in the assumption, 2 in g, 3 in the guarantee, 4 and 5 in the mode, 6 the import, 7 in
-- its argument, 8 and 9 in the equation, the outer one first, 10 in the assertion, 11 in the property.
--   x |     1     8
--   o |     3    10
--   g |     3    10
-- next(x) is 2, 9 and next(o) is 4, 11.
--   assume |  true false, and false  true
--   assert |  true  true
--   p      | false  true
--   g      |  true  true
--   lim    |  true  true
--   e      |  true false      m is not active at instant 0
--   m      | false  true
abbrev pub calls_everywhere_node : Component
calls_everywhere_node =
    declares (codes "main") (number_named "x" ∷ []) (number_named "o" ∷ []) []
    (Some
    (assume (unlabelled (combined Less (calling 1 "next" (the "x" ∷ [])) (literal 9)))
    ∷ assume (unlabelled (combined Differs (the "x") (literal 1)))
    ∷ ghost_variable (number_named "g") (calling 2 "next" (combined Add (the "x") (literal 1) ∷ []))
    ∷ guarantee (saying "g" (combined More (calling 3 "next" (the "o" ∷ [])) (the "g")))
    ∷ mode_named "m" (unlabelled (combined More (calling 4 "next" (the "x" ∷ [])) (literal 2)) ∷ [])
    (saying "e" (combined More (calling 5 "next" (the "o" ∷ [])) (literal 20)) ∷ [])
    ∷ importing 6 "lim" (calling 7 "next" (the "x" ∷ []) ∷ []) ("o" ∷ [])
    ∷ []))
    (sets "o" (calling 8 "next" (calling 9 "next" (the "x" ∷ []) ∷ []))
    ∷ assertion (combined Less (calling 10 "next" (the "x" ∷ [])) (literal 10))
    ∷ checked "p" (combined More (calling 11 "next" (the "o" ∷ [])) (literal 4))
    ∷ [])

abbrev pub calls_everywhere : Instance
calls_everywhere =
    instance_of (declared_node next ∷ declared_contract lim ∷ declared_node calls_everywhere_node ∷ [])
    calls_everywhere_node

-- next with two arguments and their outputs
abbrev pub next_frame : ℕ → ℕ → ℕ → ℕ → Frame
next_frame a b o p = frame (stream "a" (naturals (a ∷ b ∷ [])) ∷ stream "o" (naturals (o ∷ p ∷ [])) ∷ []) [] no_frames

abbrev pub calls_everywhere_frame : Frame
calls_everywhere_frame =
    frame
    (stream "x" (naturals (1 ∷ 8 ∷ []))
    ∷ stream "o" (naturals (3 ∷ 10 ∷ []))
    ∷ stream "g" (naturals (3 ∷ 10 ∷ []))
    ∷ []) []
    (framed
    (next_frame 1 8 2 9
    ∷ next_frame 2 9 3 10
    ∷ next_frame 3 10 4 11
    ∷ next_frame 1 8 2 9
    ∷ next_frame 3 10 4 11
    ∷ frame (stream "b" (naturals (2 ∷ 9 ∷ [])) ∷ stream "r" (naturals (3 ∷ 10 ∷ [])) ∷ []) [] no_frames
    ∷ next_frame 1 8 2 9
    ∷ next_frame 2 9 3 10
    ∷ next_frame 1 8 2 9
    ∷ next_frame 1 8 2 9
    ∷ next_frame 3 10 4 11
    ∷ []))

-- ---- operands of calls on a slow clock

-- node main(c : bool; x : int) returns (o : int); var w, v : int when c;
-- let w = next(0 -> (x when c)); v = condact(true -> (x when c) > 5, next(pre (x when c)), 7);
--   o = merge c (true -> w + v) (false -> 0); tel
--   c          | false  true false  true  true
--   x          |     1     2     3     4     8
--   argument 1 |     -     0     -     4     8
--   w          |     -     1     -     5     9
--   condition  |     -  true     - false  true
--   argument 2 |     -    20     -     2     4      where it runs: -, 20, -, -, 4
--   v          |     -    21     -    21     5
--   o          |     0    22     0    26    14
abbrev pub slow_operands_node : Component
slow_operands_node =
    declares (codes "main") (flag_named "c" ∷ number_named "x" ∷ []) (number_named "o" ∷ [])
    (on "c" (number_named "w") ∷ on "c" (number_named "v") ∷ []) None
    (sets "w" (calling 1 "next" (followed 1 (literal 0) (when_true (the "x") "c") ∷ []))
    ∷ sets "v"
    (calling_while 2 (followed 2 (truth_of true) (combined More (when_true (the "x") "c") (literal 5)))
    "next" (previous 1 (when_true (the "x") "c") ∷ []) (literal 7 ∷ []))
    ∷ sets "o" (merged_on "c" (combined Add (the "w") (the "v")) (literal 0))
    ∷ [])

abbrev pub slow_operands : Instance
slow_operands = instance_of (declared_node next ∷ declared_node slow_operands_node ∷ []) slow_operands_node

abbrev pub slow_operands_frame : Frame
slow_operands_frame =
    frame
    (stream "c" (flags_of (false ∷ true ∷ false ∷ true ∷ true ∷ []))
    ∷ stream "x" (naturals (1 ∷ 2 ∷ 3 ∷ 4 ∷ 8 ∷ []))
    ∷ stream "o" (naturals (0 ∷ 22 ∷ 0 ∷ 26 ∷ 14 ∷ []))
    ∷ stream "w" (absent ∷ natural 1 ∷ absent ∷ natural 5 ∷ natural 9 ∷ [])
    ∷ stream "v" (absent ∷ natural 21 ∷ absent ∷ natural 21 ∷ natural 5 ∷ [])
    ∷ []) (natural 20 ∷ [])
    (framed
    (frame
    (stream "a" (absent ∷ natural 0 ∷ absent ∷ natural 4 ∷ natural 8 ∷ [])
    ∷ stream "o" (absent ∷ natural 1 ∷ absent ∷ natural 5 ∷ natural 9 ∷ [])
    ∷ []) [] no_frames
    ∷ frame
    (stream "a" (absent ∷ natural 20 ∷ absent ∷ absent ∷ natural 4 ∷ [])
    ∷ stream "o" (absent ∷ natural 21 ∷ absent ∷ absent ∷ natural 5 ∷ [])
    ∷ []) [] no_frames
    ∷ []))

-- ---- a condact in an expression

-- node main(c, d : bool; x : int) returns (o : int); var s : int when d;
-- let o = condact(c, next(x), 7) + 100; s = condact(c when d, next(x when d), 5) + 100; tel
--   c | false  true false  true
--   d |  true  true false  true
--   x |     1     2     3     4
--   o |   107   103   103   105
--   s |   105   103     -   105
abbrev pub inner_condact_node : Component
inner_condact_node =
    declares (codes "main") (flag_named "c" ∷ flag_named "d" ∷ number_named "x" ∷ []) (number_named "o" ∷ [])
    (on "d" (number_named "s") ∷ []) None
    (sets "o"
    (combined Add (calling_while 1 (the "c") "next" (the "x" ∷ []) (literal 7 ∷ [])) (literal 100))
    ∷ sets "s"
    (combined Add
    (calling_while 2 (when_true (the "c") "d") "next" (when_true (the "x") "d" ∷ []) (literal 5 ∷ []))
    (literal 100))
    ∷ [])

abbrev pub inner_condact : Instance
inner_condact = instance_of (declared_node next ∷ declared_node inner_condact_node ∷ []) inner_condact_node

abbrev pub inner_condact_frame : Frame
inner_condact_frame =
    frame
    (stream "c" (flags_of (false ∷ true ∷ false ∷ true ∷ []))
    ∷ stream "d" (flags_of (true ∷ true ∷ false ∷ true ∷ []))
    ∷ stream "x" (naturals (1 ∷ 2 ∷ 3 ∷ 4 ∷ []))
    ∷ stream "o" (naturals (107 ∷ 103 ∷ 103 ∷ 105 ∷ []))
    ∷ stream "s" (natural 105 ∷ natural 103 ∷ absent ∷ natural 105 ∷ [])
    ∷ []) []
    (framed
    (frame
    (stream "a" (absent ∷ natural 2 ∷ absent ∷ natural 4 ∷ [])
    ∷ stream "o" (absent ∷ natural 3 ∷ absent ∷ natural 5 ∷ [])
    ∷ []) [] no_frames
    ∷ frame
    (stream "a" (absent ∷ natural 2 ∷ absent ∷ natural 4 ∷ [])
    ∷ stream "o" (absent ∷ natural 3 ∷ absent ∷ natural 5 ∷ [])
    ∷ []) [] no_frames
    ∷ []))
