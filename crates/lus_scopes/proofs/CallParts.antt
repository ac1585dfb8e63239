-- The values of a call, counted.
use Rattle.std.proofs.Common.{◌≡◌, List, [], ◌∷◌, length, map, refl, ap, ◌∙◌}
use Rattle.std.proofs.lemmas.List.{length-map}
use Rattle.lus_tree.specs.declared.expression.Expr.{Expr}
use Rattle.lus_tree.specs.Tree.{Expression}
use Rattle.lus_tree.specs.View.{expr_view, joined}
use Rattle.lus_meaning.specs.Program.{listed}

listed_joined : (es : List Expression) → listed (joined es) ≡ es
listed_joined [] = refl
listed_joined (e ∷ es) = ap (λ xs. e ∷ xs) (listed_joined es)

pub count_listed : (es : List Expr) → length (listed (joined (map expr_view es))) ≡ length es
count_listed es = ap length (listed_joined (map expr_view es)) ∙ length-map es expr_view
