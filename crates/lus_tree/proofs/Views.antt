-- What contracts see of each form of an expression.
use Rattle.std.proofs.Common.{refl, ◌≡◌, ℕ, Bool, map, option_map, string_bytes, Vec, Box, String, Option}
use Rattle.std.specs.declared.alloc.Global.{Global}
use Rattle.lus_tree.specs.declared.expression.Operator.{Operator}
use Rattle.lus_tree.specs.declared.place.PlacedName.{PlacedName}
use Rattle.lus_tree.specs.declared.expression.Expr.{Expr, fold_out-Expr}
use Rattle.lus_tree.specs.declared.expression.Form.{Form, Truth, Number, Name, Not, Minus, Pre, Arrow, Binary, If, When, Merge, Call, Condact, ModeName, fold_out-Form, map-Form, out-Form}
use Rattle.lus_tree.specs.declared.expression.Form.TheVariants.{outs-Truth, outs-Number, outs-Name, outs-Not, outs-Arrow, outs-Binary, outs-If, outs-Call, outs-Condact, outs-ModeName, outs-Minus, outs-Pre, outs-When, outs-Merge}
use Rattle.lus_tree.specs.Tree.{Place, Expression, truth, number, name, negation, minus, pre, arrow, binary, choice, sampled, merged, call, condact, mode_name}
use Rattle.lus_tree.specs.View.{expr_view, form_view, joined, word_view, form_step, expr_step}

opened : (x : Form) → form_view x ≡ form_step (map-Form Form Expr (Place → Expression) Expression form_view expr_view (out-Form x))
opened x = fold_out-Form (Place → Expression) Expression form_step expr_step x

pub view-Truth : (b : Bool) (s : Place) → form_view (Truth b) s ≡ truth s b
view-Truth b s = rw (opened (Truth b), outs-Truth b) refl

pub view-Number : (n : ℕ) (s : Place) → form_view (Number n) s ≡ number s n
view-Number n s = rw (opened (Number n), outs-Number n) refl

pub view-Name : (x : String Global) (s : Place) → form_view (Name x) s ≡ name s (string_bytes x)
view-Name x s = rw (opened (Name x), outs-Name x) refl

pub view-Not : (a : Box Expr Global) (s : Place) → form_view (Not a) s ≡ negation s (expr_view a.value)
view-Not a s = rw (opened (Not a), outs-Not a) refl

pub view-Arrow : (k : ℕ) (a b : Box Expr Global) (s : Place) → form_view (Arrow k a b) s ≡ arrow s k (expr_view a.value) (expr_view b.value)
view-Arrow k a b s = rw (opened (Arrow k a b), outs-Arrow k a b) refl

pub view-Binary : (o : Operator) (a b : Box Expr Global) (s : Place) → form_view (Binary o a b) s ≡ binary s o (expr_view a.value) (expr_view b.value)
view-Binary o a b s = rw (opened (Binary o a b), outs-Binary o a b) refl

pub view-If : (a b c : Box Expr Global) (s : Place) → form_view (If a b c) s ≡ choice s (expr_view a.value) (expr_view b.value) (expr_view c.value)
view-If a b c s = rw (opened (If a b c), outs-If a b c) refl

pub view-Call : (k : ℕ) (w : PlacedName) (xs : Vec Expr Global) (s : Place) → form_view (Call k w xs) s ≡ call s k (word_view w)
    (joined (map expr_view xs.items))
view-Call k w xs s = rw (opened (Call k w xs), outs-Call k w xs) refl

pub view-Condact : (k : ℕ) (a : Box Expr Global) (w : PlacedName) (xs ds : Vec Expr Global) (s : Place) → form_view
    (Condact k a w xs ds) s ≡ condact s k (expr_view a.value) (word_view w) (joined (map expr_view xs.items))
    (joined (map expr_view ds.items))
view-Condact k a w xs ds s = rw (opened (Condact k a w xs ds), outs-Condact k a w xs ds) refl

pub view-ModeName : (c : Option PlacedName) (m : PlacedName) (s : Place) → form_view (ModeName c m) s ≡ mode_name s (option_map word_view c) (word_view m)
view-ModeName c m s = rw (opened (ModeName c m), outs-ModeName c m) refl

pub view-Minus : (a : Box Expr Global) (s : Place) → form_view (Minus a) s ≡ minus s (expr_view a.value)
view-Minus a s = rw (opened (Minus a), outs-Minus a) refl

pub view-Pre : (k : ℕ) (a : Box Expr Global) (s : Place) → form_view (Pre k a) s ≡ pre s k (expr_view a.value)
view-Pre k a s = rw (opened (Pre k a), outs-Pre k a) refl

pub view-When : (a : Box Expr Global) (b : Bool) (w : PlacedName) (s : Place) → form_view (When a b w) s ≡ sampled s (expr_view a.value) b (word_view w)
view-When a b w s = rw (opened (When a b w), outs-When a b w) refl

pub view-Merge : (w : PlacedName) (a b : Box Expr Global) (s : Place) → form_view (Merge w a b) s ≡ merged s (word_view w)
    (expr_view a.value) (expr_view b.value)
view-Merge w a b s = rw (opened (Merge w a b), outs-Merge w a b) refl

pub view-Expr : (e : Expr) → expr_view e ≡ form_view e.form record { from = e.from; at = e.at }
view-Expr e = fold_out-Expr (Place → Expression) Expression form_step expr_step e

pub ruleset form_views = (
  view-Expr,
  view-Truth,
  view-Number,
  view-Name,
  view-Not,
  view-Minus,
  view-Pre,
  view-Arrow,
  view-Binary,
  view-If,
  view-When,
  view-Merge,
  view-Call,
  view-Condact,
  view-ModeName,
)
