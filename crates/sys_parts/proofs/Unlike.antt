-- Operators on parts of two types.
use Rattle.std.proofs.Common.{◌≡◌, refl}
use Rattle.lus_tree.specs.declared.expression.Operator.{Operator}
use Rattle.lus_tree.specs.declared.expression.Operator.TheVariants.{Implies, Or, Xor, And, Less, AtMost, Equal, Differs, AtLeast, More, Add, Sub, Mul, Div, Mod}
use Rattle.sys_terms.specs.View.{Formula, Amount}
use Rattle.sys_meaning.specs.Part.{a_flag, a_number, operate}
use Rattle.sys_parts.specs.Parts.{operate_unlike}

pub flag_and_number : (o : Operator) (f : Formula) (a : Amount) → operate_unlike o ≡ operate o (a_flag f) (a_number a)
flag_and_number Implies f a = refl
flag_and_number Or f a = refl
flag_and_number Xor f a = refl
flag_and_number And f a = refl
flag_and_number Less f a = refl
flag_and_number AtMost f a = refl
flag_and_number Equal f a = refl
flag_and_number Differs f a = refl
flag_and_number AtLeast f a = refl
flag_and_number More f a = refl
flag_and_number Add f a = refl
flag_and_number Sub f a = refl
flag_and_number Mul f a = refl
flag_and_number Div f a = refl
flag_and_number Mod f a = refl

pub number_and_flag : (o : Operator) (a : Amount) (f : Formula) → operate_unlike o ≡ operate o (a_number a) (a_flag f)
number_and_flag Implies a f = refl
number_and_flag Or a f = refl
number_and_flag Xor a f = refl
number_and_flag And a f = refl
number_and_flag Less a f = refl
number_and_flag AtMost a f = refl
number_and_flag Equal a f = refl
number_and_flag Differs a f = refl
number_and_flag AtLeast a f = refl
number_and_flag More a f = refl
number_and_flag Add a f = refl
number_and_flag Sub a f = refl
number_and_flag Mul a f = refl
number_and_flag Div a f = refl
number_and_flag Mod a f = refl
