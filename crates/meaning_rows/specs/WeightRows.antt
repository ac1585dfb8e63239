-- What an expression is worth where names mean this: a number, a truth value, and constants of which one stands behind.
use Prim.Native.String.{String}
use Rattle.std.specs.Prelude.{ℕ, Bool, true, false, [], ◌∷◌, Option, Some, None, codes, pos}
use Rattle.lus_tree.specs.declared.place.Sort.{Sort}
use Rattle.lus_tree.specs.declared.place.Sort.TheVariants.{Bool as Flags, Int as Numbers}
use Rattle.lus_tree.specs.Tree.{Expression}
use Rattle.lus_meaning.specs.Value.{Value, absent, flag, whole}
use Rattle.lus_meaning.specs.Scene.{base}
use Rattle.lus_meaning.specs.Scope.{Role, an_input, a_constant, Entry, Scope, names_only, weight_of, constant_of}
use Rattle.meaning_rows.specs.RowParts.{spelled}

abbrev pub stands_for : String → Role → Sort → Value → Bool → Entry
stands_for x r q v k = record { word = spelled (codes x); role = r; sort = Some q; clock = base; value = v; known = k }

-- x : int; b : bool; const four = 4; nothing = 0; yes = true; and behind the expression const later = 4
abbrev pub some_names : Scope
some_names =
    names_only []
    (stands_for "x" an_input Numbers absent true
    ∷ stands_for "b" an_input Flags absent true
    ∷ stands_for "four" a_constant Numbers (whole (pos 4)) true
    ∷ stands_for "nothing" a_constant Numbers (whole (pos 0)) true
    ∷ stands_for "yes" a_constant Flags (flag true) true
    ∷ stands_for "later" a_constant Numbers (whole (pos 4)) false
    ∷ [])

abbrev pub weighs : Expression → Option ℕ
weighs e = weight_of some_names e

abbrev pub comes_to : Expression → Value
comes_to e = constant_of some_names e
