-- Why a source is refused, as contracts see it: one constructor for each rule, and the place.
use Rattle.std.specs.Prelude.{ℕ}
use Rattle.std.specs.String.{string_bytes}
use Rattle.lus_tree.specs.declared.place.Pos.{Pos}
use Rattle.lus_tree.specs.declared.refusal.What.{What}
use Rattle.lus_tree.specs.declared.refusal.What.TheVariants.{TooLong, BadByte, UnclosedComment, WideLiteral, Unexpected, TooLarge, LeftOut, NameTwice, NameUnknown, TypeClash, ArityClash, NotLinear, ZeroDivisor, NotConstant, Heavy, ClockClash, EquationTwice, InputDefined, Cycle, NodeRecursion, NotStateless, AssumeReadsOutput, NoNode, MainUnknown, ModeUnknown, TooMany, Memory}
use Rattle.lus_tree.specs.declared.refusal.Refusal.{Refusal}
use Rattle.lus_tree.specs.Tree.{Name}

pub data Reason : Type 0 where
  too_long : Reason
  bad_byte : Reason
  unclosed_comment : Reason
  wide_literal : Reason
  unexpected : Reason
  too_large : Reason
  -- with the word or sign
  left_out : Name → Reason
  name_twice : Reason
  name_unknown : Reason
  type_clash : Reason
  arity_clash : Reason
  not_linear : Reason
  zero_divisor : Reason
  not_constant : Reason
  heavy : Reason
  clock_clash : Reason
  equation_twice : Reason
  input_defined : Reason
  cycle : Reason
  node_recursion : Reason
  not_stateless : Reason
  assume_reads_output : Reason
  no_node : Reason
  main_unknown : Reason
  mode_unknown : Reason
  -- with the limit
  too_many : ℕ → Reason
  memory : Reason

pub record Refused : Type 0 where
  pub at : Pos
  pub reason : Reason

abbrev pub what_view : What → Reason
what_view TooLong = too_long
what_view BadByte = bad_byte
what_view UnclosedComment = unclosed_comment
what_view WideLiteral = wide_literal
what_view Unexpected = unexpected
what_view TooLarge = too_large
what_view (LeftOut word) = left_out (string_bytes word)
what_view NameTwice = name_twice
what_view NameUnknown = name_unknown
what_view TypeClash = type_clash
what_view ArityClash = arity_clash
what_view NotLinear = not_linear
what_view ZeroDivisor = zero_divisor
what_view NotConstant = not_constant
what_view Heavy = heavy
what_view ClockClash = clock_clash
what_view EquationTwice = equation_twice
what_view InputDefined = input_defined
what_view Cycle = cycle
what_view NodeRecursion = node_recursion
what_view NotStateless = not_stateless
what_view AssumeReadsOutput = assume_reads_output
what_view NoNode = no_node
what_view MainUnknown = main_unknown
what_view ModeUnknown = mode_unknown
what_view (TooMany limit) = too_many limit
what_view Memory = memory

abbrev pub refusal_view : Refusal → Refused
refusal_view r = record { at = r.at; reason = what_view r.what }
