-- The words of a trace.
use Rattle.std.specs.Prelude.{◌≡◌, ℕ, suc, ◌<◌, true, false, List, [], ◌∷◌, ◌++◌, codes, decimal, pos, negsuc}
use Rattle.std.specs.List.{AllByRecursion}
use Rattle.std.specs.Fmt.{signed_decimal}
use Rattle.lus_lexer.specs.Names.{is_name}
use Rattle.lus_meaning.specs.Value.{Value, absent, flag, whole}
use Rattle.lus_meaning.specs.Trace.{Subject, of_name, of_first}

-- a number below 2^32 without leading zeros
pub record IsNumber (w : List ℕ) (n : ℕ) : Type 0 where
  pub spelled : w ≡ decimal n
  pub small : n < 4294967296

-- a name, or # and the number of a `pre`
abbrev pub subject_text : Subject → List ℕ
subject_text (of_name x) = x
subject_text (of_first k) = 35 ∷ decimal k

-- a number and a dot for each call on the way, and the subject
abbrev pub step_text : ℕ → List ℕ
step_text k = decimal k ++ 46 ∷ []

abbrev pub address_text : List ℕ → Subject → List ℕ
address_text [] s = subject_text s
address_text (k ∷ ks) s = step_text k ++ address_text ks s

abbrev pub FitsSubject : Subject → Type 0
FitsSubject (of_name x) = is_name x ≡ true
FitsSubject (of_first k) = k < 4294967296

pub record IsAddress (w : List ℕ) (path : List ℕ) (s : Subject) : Type 0 where
  pub spelled : w ≡ address_text path s
  pub path_fits : AllByRecursion (λ k. k < 4294967296) path
  pub subject_fits : FitsSubject s

-- a decimal number is written without a leading zero
abbrev pub value_text : Value → List ℕ
value_text absent = codes "_"
value_text (flag true) = codes "true"
value_text (flag false) = codes "false"
value_text (whole z) = signed_decimal z

-- from -(2^63 - 1) to 2^63 - 1
abbrev pub FitsValue : Value → Type 0
FitsValue absent = Unit {0}
FitsValue (flag b) = Unit {0}
FitsValue (whole (pos n)) = n < 9223372036854775808
FitsValue (whole (negsuc n)) = suc n < 9223372036854775808

pub data IsValue (w : List ℕ) : Value → Type 0 where
  spelled : (v : Value) → w ≡ value_text v → FitsValue v → IsValue w v
  minus_zero : w ≡ codes "-0" → IsValue w (whole (pos 0))
