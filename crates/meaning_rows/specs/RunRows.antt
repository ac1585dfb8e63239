-- Worked rows of what a run is: a program with a frame that is a run, and frames that differ from it in one thing and are none.
use Rattle.std.specs.Prelude.{zero, suc, List, true, false, [], ◌∷◌, Some, codes}
use Rattle.lus_tree.specs.declared.expression.Operator.TheVariants.{Less}
use Rattle.lus_tree.specs.Tree.{Name, Component, guarantee, ghost_variable, declared_node, declared_contract}
use Rattle.lus_meaning.specs.Value.{Value, absent, flag, Instants}
use Rattle.lus_meaning.specs.Frame.{Frame, Frames, frame, no_frames, with_frame}
use Rattle.lus_meaning.specs.Scene.{Instance}
use Rattle.lus_meaning.specs.Program.{instance_of}
use Rattle.meaning_rows.specs.RowParts.{declares, natural}
use Rattle.meaning_rows.specs.CallRows.{next}
use Rattle.meaning_rows.specs.Written.{the, previous, combined, when_true, calling, flag_named, number_named, on, sets, saying, checked, importing, naturals, flags_of, stream, framed}

-- node next(a : int) returns (o : int); let o = a + 1; tel
-- contract lim(b : int) returns (r : int); let var up : bool = b < r; guarantee "up" up; tel
abbrev pub lim : Component
lim =
    declares (codes "lim") (number_named "b" ∷ []) (number_named "r" ∷ []) []
    (Some
    (ghost_variable (flag_named "up") (combined Less (the "b") (the "r"))
    ∷ guarantee (saying "up" (the "up"))
    ∷ [])) []

-- node main(c, u : bool; x : int) returns (y : int); (*@contract import lim(x) returns (y); *) var s, t : int when c;
-- let s = next(x when c); y = pre x; check "u" pre u; tel
abbrev pub running_node : Component
running_node =
    declares (codes "main") (flag_named "c" ∷ flag_named "u" ∷ number_named "x" ∷ []) (number_named "y" ∷ [])
    (on "c" (number_named "s") ∷ on "c" (number_named "t") ∷ [])
    (Some (importing 1 "lim" (the "x" ∷ []) ("y" ∷ []) ∷ []))
    (sets "s" (calling 2 "next" (when_true (the "x") "c" ∷ []))
    ∷ sets "y" (previous 1 (the "x"))
    ∷ checked "u" (previous 2 (the "u"))
    ∷ [])

abbrev pub running : Instance
running = instance_of (declared_node next ∷ declared_contract lim ∷ declared_node running_node ∷ []) running_node

-- c |  true false
-- u |  true false
-- x |     1     2
-- y |     5     1      the first values are 5 and true
-- s |     2     -
-- t |     8     -      has no equation
-- In the import b is x, r is y, and up is true, false. In the call a is 1, - and o is 2, -.
abbrev pub streams_with : List Value → List Value → List Value → List Value → List (Name × List Value)
streams_with us ys ss ts =
    stream "c" (flags_of (true ∷ false ∷ []))
    ∷ stream "u" us
    ∷ stream "x" (naturals (1 ∷ 2 ∷ []))
    ∷ stream "y" ys
    ∷ stream "s" ss
    ∷ stream "t" ts
    ∷ []

abbrev pub u_values : List Value
u_values = flags_of (true ∷ false ∷ [])

abbrev pub y_values : List Value
y_values = naturals (5 ∷ 1 ∷ [])

abbrev pub s_values : List Value
s_values = natural 2 ∷ absent ∷ []

abbrev pub t_values : List Value
t_values = natural 8 ∷ absent ∷ []

abbrev pub running_streams : List (Name × List Value)
running_streams = streams_with u_values y_values s_values t_values

abbrev pub firsts : List Value
firsts = natural 5 ∷ flag true ∷ []

abbrev pub lim_frame : List Value → List Value → Frame
lim_frame rs ups = frame (stream "b" (naturals (1 ∷ 2 ∷ [])) ∷ stream "r" rs ∷ stream "up" ups ∷ []) [] no_frames

abbrev pub next_frame : List Value → List Value → Frame
next_frame as_ os = frame (stream "a" as_ ∷ stream "o" os ∷ []) [] no_frames

abbrev pub frames_of : Frame → Frame → Frames
frames_of f g = framed (f ∷ g ∷ [])

abbrev pub running_frames : Frames
running_frames = frames_of (lim_frame y_values u_values) (next_frame (natural 1 ∷ absent ∷ []) s_values)

abbrev pub running_frame : Frame
running_frame = frame running_streams firsts running_frames

-- ---- a run on a beat

-- next runs at instant 0 alone
abbrev pub first_alone : Instants
first_alone zero = true
first_alone (suc t) = false

abbrev pub alone_frame : Frame
alone_frame = next_frame (natural 1 ∷ absent ∷ []) (natural 2 ∷ absent ∷ [])

abbrev pub alone_off_beat : Frame
alone_off_beat = next_frame (natural 1 ∷ natural 1 ∷ []) (natural 2 ∷ absent ∷ [])

abbrev pub next_alone : Instance
next_alone = instance_of (declared_node next ∷ []) next

-- ---- frames that are no runs

-- y is 2 at instant 1, where the last x is 1
abbrev pub equation : Frame
equation =
    frame (streams_with u_values (naturals (5 ∷ 2 ∷ [])) s_values t_values) firsts
    (frames_of (lim_frame (naturals (5 ∷ 2 ∷ [])) u_values) (next_frame (natural 1 ∷ absent ∷ []) s_values))

-- up is true at instant 1, where b < r is false
abbrev pub ghost_equation : Frame
ghost_equation =
    frame running_streams firsts
    (frames_of (lim_frame y_values (flags_of (true ∷ true ∷ [])))
    (next_frame (natural 1 ∷ absent ∷ []) s_values))

-- o and s are 3, where a is 1
abbrev pub callee : Frame
callee =
    frame (streams_with u_values y_values (natural 3 ∷ absent ∷ []) t_values) firsts
    (frames_of (lim_frame y_values u_values) (next_frame (natural 1 ∷ absent ∷ []) (natural 3 ∷ absent ∷ [])))

-- a is 2, where x is 1
abbrev pub argument : Frame
argument =
    frame (streams_with u_values y_values (natural 3 ∷ absent ∷ []) t_values) firsts
    (frames_of (lim_frame y_values u_values) (next_frame (natural 2 ∷ absent ∷ []) (natural 3 ∷ absent ∷ [])))

-- a is there, where the call is not active
abbrev pub inactive_argument : Frame
inactive_argument =
    frame running_streams firsts
    (frames_of (lim_frame y_values u_values) (next_frame (natural 1 ∷ natural 2 ∷ []) s_values))

-- o is there, where the call is not active
abbrev pub inactive_output : Frame
inactive_output =
    frame running_streams firsts
    (frames_of (lim_frame y_values u_values)
    (next_frame (natural 1 ∷ absent ∷ []) (natural 2 ∷ natural 3 ∷ [])))

-- r is 2, where y is 1
abbrev pub shared_output : Frame
shared_output =
    frame running_streams firsts
    (frames_of (lim_frame (naturals (5 ∷ 2 ∷ [])) u_values) (next_frame (natural 1 ∷ absent ∷ []) s_values))

-- u is a number
abbrev pub other_type : Frame
other_type = frame (streams_with (natural 1 ∷ flag false ∷ []) y_values s_values t_values) firsts running_frames

-- u is absent on the base clock
abbrev pub absent_input : Frame
absent_input = frame (streams_with (flag true ∷ absent ∷ []) y_values s_values t_values) firsts running_frames

-- t is there, where c is false
abbrev pub off_its_clock : Frame
off_its_clock = frame (streams_with u_values y_values s_values (naturals (8 ∷ 9 ∷ []))) firsts running_frames

-- t is absent, where c is true
abbrev pub absent_on_its_clock : Frame
absent_on_its_clock = frame (streams_with u_values y_values s_values (absent ∷ absent ∷ [])) firsts running_frames

-- the second first value is a number
abbrev pub first_of_other_type : Frame
first_of_other_type = frame running_streams (natural 5 ∷ natural 1 ∷ []) running_frames

-- there is one first value
abbrev pub too_few_firsts : Frame
too_few_firsts = frame running_streams (natural 5 ∷ []) running_frames

-- there are three first values
abbrev pub too_many_firsts : Frame
too_many_firsts = frame running_streams (natural 5 ∷ flag true ∷ flag true ∷ []) running_frames

-- u has three values
abbrev pub too_long : Frame
too_long = frame (streams_with (flags_of (true ∷ false ∷ true ∷ [])) y_values s_values t_values) firsts running_frames

-- there is a stream without a name of the node
abbrev pub other_name : Frame
other_name = frame (stream "w" (naturals (1 ∷ 2 ∷ [])) ∷ running_streams) firsts running_frames

-- a call has no frame
abbrev pub too_few_calls : Frame
too_few_calls = frame running_streams firsts (framed ((lim_frame y_values u_values) ∷ []))

-- there is a frame without a call
abbrev pub too_many_calls : Frame
too_many_calls =
    frame running_streams firsts
    (with_frame (lim_frame y_values u_values)
    (frames_of (next_frame (natural 1 ∷ absent ∷ []) s_values)
    (next_frame (natural 1 ∷ absent ∷ []) s_values)))
