-- What the forms of the code are, by the variables of a match.
use Rattle.std.proofs.Common.{◌≡◌, ℕ, Bool, map, option_map, Vec, Box, Option, List}
use Rattle.std.specs.declared.alloc.Global.{Global}
use Rattle.lus_tree.specs.declared.expression.Operator.{Operator}
use Rattle.lus_tree.specs.declared.place.PlacedName.{PlacedName}
use Rattle.lus_tree.specs.declared.expression.Expr.{Expr}
use Rattle.lus_tree.specs.declared.expression.Form.{Form, Minus, Pre, Arrow, Binary, If, When, Merge, Call, Condact, ModeName}
use Rattle.lus_tree.specs.Tree.{Place, minus, pre, arrow, binary, choice, sampled, merged, call, condact, mode_name}
use Rattle.lus_tree.specs.View.{expr_view, form_view, joined, word_view}
use Rattle.lus_tree.proofs.Views.{view-Minus, view-Pre, view-Arrow, view-Binary, view-If, view-When, view-Merge, view-Call, view-Condact, view-ModeName}

module _ (f : Form) (s : Place) where
  pub is_minus : (a : Box Expr Global) (x : Expr) → f ≡ Minus a → x ≡ a.value → form_view f s ≡ minus s (expr_view x)
  is_minus a x i d = rw (i, d) (view-Minus a s)

  pub is_pre : (k : ℕ) (a : Box Expr Global) (x : Expr) → f ≡ Pre k a → x ≡ a.value → form_view f s ≡ pre s k (expr_view x)
  is_pre k a x i d = rw (i, d) (view-Pre k a s)

  pub is_arrow : (k : ℕ) (a b : Box Expr Global) (x y : Expr) → f ≡ Arrow k a b → x ≡ a.value → y ≡ b.value → form_view f s ≡ arrow s k
      (expr_view x) (expr_view y)
  is_arrow k a b x y i d e = rw (i, d, e) (view-Arrow k a b s)

  pub is_binary : (o : Operator) (a b : Box Expr Global) (x y : Expr) → f ≡ Binary o a b → x ≡ a.value → y ≡ b.value
      → form_view f s ≡ binary s o (expr_view x) (expr_view y)
  is_binary o a b x y i d e = rw (i, d, e) (view-Binary o a b s)

  pub is_choice : (a b c : Box Expr Global) (x y z : Expr) → f ≡ If a b c → x ≡ a.value → y ≡ b.value → z ≡ c.value
      → form_view f s ≡ choice s (expr_view x) (expr_view y) (expr_view z)
  is_choice a b c x y z i d e g = rw (i, d, e, g) (view-If a b c s)

  pub is_sampled : (a : Box Expr Global) (b : Bool) (w : PlacedName) (x : Expr) → f ≡ When a b w → x ≡ a.value → form_view f s ≡ sampled s
      (expr_view x) b (word_view w)
  is_sampled a b w x i d = rw (i, d) (view-When a b w s)

  pub is_merged : (w : PlacedName) (a b : Box Expr Global) (x y : Expr) → f ≡ Merge w a b → x ≡ a.value → y ≡ b.value
      → form_view f s ≡ merged s (word_view w) (expr_view x) (expr_view y)
  is_merged w a b x y i d e = rw (i, d, e) (view-Merge w a b s)

  pub is_call : (k : ℕ) (w : PlacedName) (xs : Vec Expr Global) (es : List Expr) → f ≡ Call k w xs → es ≡ xs.items
      → form_view f s ≡ call s k (word_view w) (joined (map expr_view es))
  is_call k w xs es i d = rw (i, d) (view-Call k w xs s)

  pub is_condact : (k : ℕ) (a : Box Expr Global) (w : PlacedName) (xs ys : Vec Expr Global) (x : Expr) (es ds : List Expr)
      → f ≡ Condact k a w xs ys → x ≡ a.value → es ≡ xs.items → ds ≡ ys.items →
      form_view f s ≡ condact s k (expr_view x) (word_view w) (joined (map expr_view es)) (joined (map expr_view ds))
  is_condact k a w xs ys x es ds i d e g = rw (i, d, e, g) (view-Condact k a w xs ys s)

  pub is_mode : (c : Option PlacedName) (m : PlacedName) → f ≡ ModeName c m → form_view f s ≡ mode_name s (option_map word_view c) (word_view m)
  is_mode c m i = rw i (view-ModeName c m s)
