-- One more value behind those that a table has.
use Rattle.std.proofs.Common.{◌≡◌, Bool, true, false, cond, List, [], ◌∷◌, ◌++◌, Option, Some, None, option_map, refl, sym, ap, ◌∙◌}
use Rattle.std.specs.Map.{lookup}
use Rattle.std.specs.Option.{option_or}
use Rattle.std.specs.Str.{bytes_eq}
use Rattle.lus_tree.specs.Tree.{Name, Constant as Defined}
use Rattle.lus_meaning.specs.Value.{Value}
use Rattle.sys_parts.specs.Constants.{constant_view}
use Rattle.sys_parts.specs.declared.constant.Constant.{Constant}
use Rattle.sys_tables.specs.Tabled.{small_value, small_values}

found_last : (x n : Name) (cs : List (Name × Value)) (v : Value)
    → lookup (bytes_eq x) (cs ++ (n, v) ∷ []) ≡ option_or (lookup (bytes_eq x) cs) (cond (bytes_eq x n) (Some v) None)
found_last x n [] v = refl
found_last x n (c ∷ cs) v = go (bytes_eq x c.0) (found_last x n cs v)
  where
    go : (b : Bool) → lookup (bytes_eq x) (cs ++ (n, v) ∷ []) ≡ option_or (lookup (bytes_eq x) cs) (cond (bytes_eq x n) (Some v) None)
        → cond b (Some c.1) (lookup (bytes_eq x) (cs ++ (n, v) ∷ []))
        ≡ option_or (cond b (Some c.1) (lookup (bytes_eq x) cs)) (cond (bytes_eq x n) (Some v) None)
    go true h = refl
    go false h = h

pub noted_last : (x n : Name) (cs : List (Name × Value)) (v : Constant) (old new : Option Constant)
    → option_map constant_view old ≡ lookup (bytes_eq x) cs → new ≡ option_or old (cond (bytes_eq x n) (Some v) None)
    → option_map constant_view new ≡ lookup (bytes_eq x) (cs ++ (n, constant_view v) ∷ [])
noted_last x n cs v old new e h =
    ap (option_map constant_view) h ∙ seen old (bytes_eq x n)
    ∙ ap (λ o. option_or o (cond (bytes_eq x n) (Some (constant_view v)) None)) e ∙ sym (found_last x n cs (constant_view v))
  where
    seen : (o : Option Constant) (b : Bool) → option_map constant_view (option_or o (cond b (Some v) None))
        ≡ option_or (option_map constant_view o) (cond b (Some (constant_view v)) None)
    seen (Some c) b = refl
    seen None true = refl
    seen None false = refl

-- ---- values of more constants

pub values_append : (cs : List (Name × Value)) (xs ys : List Defined) → small_values (small_values cs xs) ys ≡ small_values cs (xs ++ ys)
values_append cs [] ys = refl
values_append cs (d ∷ xs) ys = values_append (cs ++ (d.name.text, small_value cs d.value) ∷ []) xs ys
