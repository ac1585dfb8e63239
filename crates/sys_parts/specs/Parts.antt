-- What contracts see of parts.
use Rattle.std.specs.Prelude.{false}
use Rattle.sys_terms.specs.View.{term_view, num_view, truth, negation}
use Rattle.lus_tree.specs.declared.expression.Operator.{Operator}
use Rattle.lus_tree.specs.declared.expression.Operator.TheVariants.{Differs}
use Rattle.sys_meaning.specs.Part.{Part, a_flag, a_number, no_part}
use Rattle.sys_parts.specs.declared.parts.Part.{Part as CodePart}
use Rattle.sys_parts.specs.declared.parts.Part.TheVariants.{Flag, Number}

abbrev pub part_view : CodePart → Part
part_view (Flag t) = a_flag (term_view t)
part_view (Number n) = a_number (num_view n)

-- an operator on parts of two types
abbrev pub operate_unlike : Operator → Part
operate_unlike Differs = a_flag (negation (truth false))
operate_unlike _ = no_part
