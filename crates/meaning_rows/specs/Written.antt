-- Programs, frames and traces as the rows write them: names as texts, without places.
use Prim.Native.String.{String}
use Rattle.std.specs.Prelude.{ℕ, Bool, true, false, List, [], ◌∷◌, map, Some, None, codes, pos, neg_ℤ}
use Rattle.lus_tree.specs.declared.place.Sort.TheVariants.{Bool as Flags, Int as Numbers}
use Rattle.lus_tree.specs.declared.expression.Operator.{Operator}
use Rattle.lus_tree.specs.Tree.{Name, Expression, Expressions, truth, number, name, negation, minus, pre, arrow, binary, choice, sampled, merged, call, condact, mode_name, no_more, more, Variable, Constant, Labelled, Statement, equation, property, ContractStatement, mode, «import», Component}
use Rattle.lus_meaning.specs.Value.{Value, flag, whole}
use Rattle.lus_meaning.specs.Frame.{Frame, Frames, no_frames, with_frame}
use Rattle.lus_meaning.specs.Trace.{BareLine}
use Rattle.meaning_rows.specs.RowParts.{here, spelled, start, lists, natural}

-- ---- expressions

abbrev pub the : String → Expression
the x = name here (codes x)

abbrev pub truth_of : Bool → Expression
truth_of b = truth here b

abbrev pub literal : ℕ → Expression
literal n = number here n

abbrev pub negated : Expression → Expression
negated a = negation here a

abbrev pub opposite : Expression → Expression
opposite a = minus here a

-- `pre` and `->` with their numbers
abbrev pub previous : ℕ → Expression → Expression
previous k a = pre here k a

abbrev pub followed : ℕ → Expression → Expression → Expression
followed k a b = arrow here k a b

abbrev pub combined : Operator → Expression → Expression → Expression
combined o a b = binary here o a b

abbrev pub chosen : Expression → Expression → Expression → Expression
chosen a b d = choice here a b d

-- `a when c` and `a when not c`
abbrev pub when_true : Expression → String → Expression
when_true a c = sampled here a true (spelled (codes c))

abbrev pub when_false : Expression → String → Expression
when_false a c = sampled here a false (spelled (codes c))

abbrev pub merged_on : String → Expression → Expression → Expression
merged_on c a b = merged here (spelled (codes c)) a b

abbrev pub these : List Expression → Expressions
these [] = no_more
these (a ∷ as_) = more a (these as_)

-- the call with this number
abbrev pub calling : ℕ → String → List Expression → Expression
calling k f as_ = call here k (spelled (codes f)) (these as_)

-- `condact(c, f(as), ds)`
abbrev pub calling_while : ℕ → Expression → String → List Expression → List Expression → Expression
calling_while k c f as_ ds = condact here k c (spelled (codes f)) (these as_) (these ds)

-- `::m` and `::C::m`
abbrev pub own_mode : String → Expression
own_mode m = mode_name here None (spelled (codes m))

abbrev pub mode_of : String → String → Expression
mode_of c m = mode_name here (Some (spelled (codes c))) (spelled (codes m))

-- ---- declarations

abbrev pub flag_named : String → Variable
flag_named x = record { name = spelled (codes x); sort = Flags; clock = None }

abbrev pub number_named : String → Variable
number_named x = record { name = spelled (codes x); sort = Numbers; clock = None }

-- `x when c` and `x when not c`
abbrev pub on : String → Variable → Variable
on c v = record v { clock = Some (true, spelled (codes c)) }

abbrev pub off : String → Variable → Variable
off c v = record v { clock = Some (false, spelled (codes c)) }

abbrev pub defined : String → Expression → Constant
defined x e = record { name = spelled (codes x); sort = None; value = e }

abbrev pub with_constants : List Constant → Component → Component
with_constants cs d = record d { constants = cs }

-- `x = e;`
abbrev pub sets : String → Expression → Statement
sets x e = equation (spelled (codes x) ∷ []) e

-- `(xs) = e;`
abbrev pub sets_all : List String → Expression → Statement
sets_all xs e = equation (map (λ x. spelled (codes x)) xs) e

abbrev pub saying : String → Expression → Labelled
saying x e = record { label = Some (codes x); at = start; value = e }

-- `check "label" e;`
abbrev pub checked : String → Expression → Statement
checked x e = property (saying x e)

abbrev pub mode_named : String → List Labelled → List Labelled → ContractStatement
mode_named m rs es = mode (spelled (codes m)) rs es

-- `import c(as) returns (xs);` with its number
abbrev pub importing : ℕ → String → List Expression → List String → ContractStatement
importing k c as_ xs = «import» k (spelled (codes c)) as_ (map (λ x. spelled (codes x)) xs)

-- ---- values

abbrev pub negative : ℕ → Value
negative n = whole (neg_ℤ (pos n))

abbrev pub naturals : List ℕ → List Value
naturals ns = map natural ns

abbrev pub flags_of : List Bool → List Value
flags_of bs = map flag bs

-- a stream of a frame
abbrev pub stream : String → List Value → Name × List Value
stream x vs = (codes x, vs)

-- the frames of the calls, in the order of their numbers
abbrev pub framed : List Frame → Frames
framed [] = no_frames
framed (f ∷ fs) = with_frame f (framed fs)

-- ---- traces

-- the values of a name, and a first value, in the frame at the end of this way of calls
abbrev pub line : List ℕ → String → List Value → BareLine
line path x vs = lists path (codes x) vs
