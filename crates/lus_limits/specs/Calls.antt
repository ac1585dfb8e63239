-- The calls and imports of a declaration, as far as widths and counts need them.
use Rattle.std.specs.Prelude.{ℕ, suc, List, [], ◌∷◌, ◌++◌, map, flat_map, length, cond, ◌==◌, Option, Some, None, option_map}
use Rattle.lus_tree.specs.Tree.{Name, Spelled, Expression, Expressions, truth, number, name, negation, minus, pre, arrow, binary, choice, sampled, merged, call, condact, mode_name, no_more, more, ContractStatement, «import», Component}
use Rattle.lus_tree.specs.View.{word_view}
use Rattle.lus_meaning.specs.Scene.{Manner, plain, while_true, as_import, Site, contract_statements}
use Rattle.lus_meaning.specs.Program.{listed}
use Rattle.lus_limits.specs.declared.calls.Way.{Way}
use Rattle.lus_limits.specs.declared.calls.Way.TheVariants.{Plain, Condition, Import}
use Rattle.lus_limits.specs.declared.calls.Call.{Call}
use Rattle.lus_limits.specs.Parts.{sides}

abbrev pub way_of : Manner → Way
way_of plain = Plain
way_of (while_true a) = Condition
way_of (as_import xs) = Import

-- a call's number, its callee, how it runs, and how many defaults it has
pub record Called : Type 0 where
  pub number : ℕ
  pub callee : Name
  pub way : Way
  pub defaults : ℕ

abbrev pub called_of : Site → Called
called_of s = record { number = s.number; callee = s.callee; way = way_of s.manner; defaults = length s.defaults }

abbrev pub call_view : Call → Called
call_view c = record { number = c.number; callee = (word_view c.callee.now).text; way = c.way; defaults = c.defaults }

-- a call under a condition
abbrev pub with_defaults : ℕ → Spelled → ℕ → Called
with_defaults k f many = record { number = k; callee = f.text; way = Condition; defaults = many }

abbrev pub condition_call : ℕ → Spelled → Expressions → Called
condition_call k f ds = with_defaults k f (length (listed ds))

-- those of an expression
abbrev mutual
  pub calls_in : Expression → List Called
  calls_in (truth p b) = []
  calls_in (number p n) = []
  calls_in (name p x) = []
  calls_in (negation p a) = calls_in a
  calls_in (minus p a) = calls_in a
  calls_in (pre p k a) = calls_in a
  calls_in (arrow p k a b) = calls_in a ++ calls_in b
  calls_in (binary p o a b) = calls_in a ++ calls_in b
  calls_in (choice p a b c) = calls_in a ++ (calls_in b ++ calls_in c)
  calls_in (sampled p a b x) = calls_in a
  calls_in (merged p x a b) = calls_in a ++ calls_in b
  calls_in (call p k f as_) = record { number = k; callee = f.text; way = Plain; defaults = 0 } ∷ calls_among as_
  calls_in (condact p k a f as_ ds) =
      condition_call k f ds ∷ calls_in a ++ (calls_among as_ ++ calls_among ds)
  calls_in (mode_name p c m) = []

  pub calls_among : Expressions → List Called
  calls_among no_more = []
  calls_among (more a as_) = calls_in a ++ calls_among as_

abbrev pub import_call : ContractStatement → List Called
import_call («import» k c as_ xs) = record { number = k; callee = c.text; way = Import; defaults = 0 } ∷ []
import_call _ = []

-- those of a declaration
abbrev pub found_calls : Component → List Called
found_calls n = flat_map calls_in (sides n) ++ flat_map import_call (contract_statements n)

-- ---- by number

abbrev pub taken_or : Option Called → Called → Option Called
taken_or None c = Some c
taken_or (Some d) c = Some d

-- a seat for each number from k on, where the first call of that number sits
abbrev pub seat_from : ℕ → Called → List (Option Called) → List (Option Called)
seat_from k c [] = []
seat_from k c (o ∷ os) = cond (c.number == k) (taken_or o c) o ∷ seat_from (suc k) c os

abbrev pub seat_all : List (Option Called) → List Called → List (Option Called)
seat_all os [] = os
seat_all os (c ∷ cs) = seat_all (seat_from 1 c os) cs

abbrev pub seats_view : List (Option Call) → List (Option Called)
seats_view os = map (option_map call_view) os
