-- The lines that the program prints. Each ends with a line feed.
use Rattle.std.specs.Prelude.{ℕ, List, [], ◌∷◌, ◌++◌, codes, decimal}
use Rattle.std.specs.Fmt.{signed_decimal}
use Rattle.kind_num.specs.declared.Past.{Past}
use Rattle.kind_num.specs.declared.Op.{Op}
use Rattle.kind_num.specs.declared.Op.TheVariants.{Add, Sub, Mul, Div}
use Rattle.lus_tree.specs.declared.place.Pos.{Pos}
use Rattle.lus_tree.specs.Reason.{Reason, too_long, bad_byte, unclosed_comment, wide_literal, unexpected, too_large, left_out, name_twice, name_unknown, type_clash, arity_clash, not_linear, zero_divisor, not_constant, heavy, clock_clash, equation_twice, input_defined, cycle, node_recursion, not_stateless, assume_reads_output, no_node, main_unknown, mode_unknown, too_many, memory, Refused}

abbrev pub Line : Type 0
Line = List ℕ

abbrev pub text_of : List Line → List ℕ
text_of [] = []
text_of (l ∷ ls) = l ++ text_of ls

abbrev pub usage_line : Line
usage_line = codes "usage: kind prove [FILE] | check FILE CERT | replay FILE TRACE | make NUMBER\n"

abbrev pub memory_line : Line
memory_line = codes "out of memory\n"

abbrev pub too_long_line : Line
too_long_line = codes "refused 1:1 TooLong\n"

-- the name of a rule
abbrev pub rule_name : Reason → List ℕ
rule_name too_long = codes "TooLong"
rule_name bad_byte = codes "BadByte"
rule_name unclosed_comment = codes "UnclosedComment"
rule_name wide_literal = codes "WideLiteral"
rule_name unexpected = codes "Unexpected"
rule_name too_large = codes "TooLarge"
rule_name (left_out word) = codes "LeftOut"
rule_name name_twice = codes "NameTwice"
rule_name name_unknown = codes "NameUnknown"
rule_name type_clash = codes "TypeClash"
rule_name arity_clash = codes "ArityClash"
rule_name not_linear = codes "NotLinear"
rule_name zero_divisor = codes "ZeroDivisor"
rule_name not_constant = codes "NotConstant"
rule_name heavy = codes "Heavy"
rule_name clock_clash = codes "ClockClash"
rule_name equation_twice = codes "EquationTwice"
rule_name input_defined = codes "InputDefined"
rule_name cycle = codes "Cycle"
rule_name node_recursion = codes "NodeRecursion"
rule_name not_stateless = codes "NotStateless"
rule_name assume_reads_output = codes "AssumeReadsOutput"
rule_name no_node = codes "NoNode"
rule_name main_unknown = codes "MainUnknown"
rule_name mode_unknown = codes "ModeUnknown"
rule_name (too_many limit) = codes "TooMany"
rule_name memory = codes "Memory"

-- the word or the limit behind it, where the rule has one
abbrev pub rule_more : Reason → List ℕ
rule_more (left_out word) = codes " " ++ word
rule_more (too_many limit) = codes " " ++ decimal limit
rule_more _ = []

-- `refused L:C NAME`
abbrev pub refused_line : Refused → Line
refused_line r = codes "refused " ++ (decimal r.at.line ++ (codes ":" ++
    (decimal r.at.column ++ (codes " " ++ (rule_name r.reason ++ (rule_more r.reason ++ codes "\n"))))))

-- `refused trace L:C Form`
abbrev pub formless_line : Pos → Line
formless_line at = codes "refused trace " ++ (decimal at.line ++ (codes ":" ++ (decimal at.column ++ codes " Form\n")))

-- the empty name is standard input
abbrev pub shown_name : List ℕ → List ℕ
shown_name [] = codes "stdin"
shown_name (b ∷ bs) = b ∷ bs

abbrev pub read_fault_line : List ℕ → Line
read_fault_line name = codes "read fault " ++ (shown_name name ++ codes "\n")

-- of the property with this label
abbrev pub breaks_line : List ℕ → ℕ → Line
breaks_line label t = codes "breaks " ++ (label ++ (codes " at " ++ (decimal t ++ codes "\n")))

abbrev pub lawful_line : ℕ → ℕ → Line
lawful_line a n = codes "lawful " ++ (decimal a ++ (codes " of " ++ (decimal n ++ codes "\n")))

abbrev pub operation_text : Op → List ℕ
operation_text Add = codes "+"
operation_text Sub = codes "-"
operation_text Mul = codes "*"
operation_text Div = codes "div"

-- an operation and its operands
abbrev pub past_text : Past → List ℕ
past_text p = operation_text p.op ++ (codes " " ++ (signed_decimal p.left ++ (codes " " ++ signed_decimal p.right)))

-- the operator's place, the instant, and the operation whose result is outside 128 bits
abbrev pub past_line : Pos → ℕ → Past → Line
past_line at t p = codes "past 128 bits at " ++ (decimal at.line ++ (codes ":" ++ (decimal at.column
    ++ (codes " instant " ++ (decimal t ++ (codes ": " ++ (past_text p ++ codes "\n")))))))
