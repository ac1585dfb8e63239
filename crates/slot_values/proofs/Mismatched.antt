-- Of values that are absent or have different types an operator makes none.
use Rattle.std.proofs.Common.{◌≡◌, Bool, refl, ℤ}
use Rattle.lus_tree.specs.declared.expression.Operator.{Operator}
use Rattle.lus_tree.specs.declared.expression.Operator.TheVariants.{Implies, Or, Xor, And, Less, AtMost, Equal, Differs, AtLeast, More, Add, Sub, Mul, Div, Mod}
use Rattle.lus_meaning.specs.Value.{Value, absent, flag, whole, apply}

pub absent_left : (o : Operator) (w : Value) → apply o absent w ≡ absent
absent_left Implies w = refl
absent_left Or w = refl
absent_left Xor w = refl
absent_left And w = refl
absent_left Less w = refl
absent_left AtMost w = refl
absent_left Equal w = refl
absent_left Differs w = refl
absent_left AtLeast w = refl
absent_left More w = refl
absent_left Add w = refl
absent_left Sub w = refl
absent_left Mul w = refl
absent_left Div w = refl
absent_left Mod w = refl

pub flag_absent : (o : Operator) (a : Bool) → apply o (flag a) absent ≡ absent
flag_absent Implies a = refl
flag_absent Or a = refl
flag_absent Xor a = refl
flag_absent And a = refl
flag_absent Less a = refl
flag_absent AtMost a = refl
flag_absent Equal a = refl
flag_absent Differs a = refl
flag_absent AtLeast a = refl
flag_absent More a = refl
flag_absent Add a = refl
flag_absent Sub a = refl
flag_absent Mul a = refl
flag_absent Div a = refl
flag_absent Mod a = refl

pub whole_absent : (o : Operator) (n : ℤ) → apply o (whole n) absent ≡ absent
whole_absent Implies n = refl
whole_absent Or n = refl
whole_absent Xor n = refl
whole_absent And n = refl
whole_absent Less n = refl
whole_absent AtMost n = refl
whole_absent Equal n = refl
whole_absent Differs n = refl
whole_absent AtLeast n = refl
whole_absent More n = refl
whole_absent Add n = refl
whole_absent Sub n = refl
whole_absent Mul n = refl
whole_absent Div n = refl
whole_absent Mod n = refl

pub flag_whole : (o : Operator) (a : Bool) (n : ℤ) → apply o (flag a) (whole n) ≡ absent
flag_whole Implies a n = refl
flag_whole Or a n = refl
flag_whole Xor a n = refl
flag_whole And a n = refl
flag_whole Less a n = refl
flag_whole AtMost a n = refl
flag_whole Equal a n = refl
flag_whole Differs a n = refl
flag_whole AtLeast a n = refl
flag_whole More a n = refl
flag_whole Add a n = refl
flag_whole Sub a n = refl
flag_whole Mul a n = refl
flag_whole Div a n = refl
flag_whole Mod a n = refl

pub whole_flag : (o : Operator) (n : ℤ) (a : Bool) → apply o (whole n) (flag a) ≡ absent
whole_flag Implies n a = refl
whole_flag Or n a = refl
whole_flag Xor n a = refl
whole_flag And n a = refl
whole_flag Less n a = refl
whole_flag AtMost n a = refl
whole_flag Equal n a = refl
whole_flag Differs n a = refl
whole_flag AtLeast n a = refl
whole_flag More n a = refl
whole_flag Add n a = refl
whole_flag Sub n a = refl
whole_flag Mul n a = refl
whole_flag Div n a = refl
whole_flag Mod n a = refl

pub ruleset mismatched = (absent_left, flag_absent, whole_absent, flag_whole, whole_flag)
