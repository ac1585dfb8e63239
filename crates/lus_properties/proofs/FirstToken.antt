-- The place of an expression's first token.
use Rattle.std.proofs.Common.{◌≡◌, refl, ◌∙◌, ap}
use Rattle.lus_tree.specs.declared.expression.Expr.{Expr}
use Rattle.lus_tree.specs.declared.expression.Form.{Form, Form-F, fold_out-Form, map-Form, out-Form}
use Rattle.lus_tree.specs.declared.expression.Form.TheOpen.{Truth, Number, Name, Not, Minus, Pre, Arrow, Binary, If, When, Merge, Call, Condact, ModeName}
use Rattle.lus_tree.specs.Tree.{Place, Expression}
use Rattle.lus_tree.specs.View.{expr_view, form_view, form_step, expr_step}
use Rattle.lus_tree.proofs.Views.{view-Expr}
use Rattle.lus_meaning.specs.Contract.{first_token}

step_token : (x : Form-F (Place → Expression) Expression) (s : Place) → first_token (form_step x s) ≡ s.from
step_token (Truth b) s = refl
step_token (Number n) s = refl
step_token (Name x) s = refl
step_token (Not a) s = refl
step_token (Minus a) s = refl
step_token (Pre k a) s = refl
step_token (Arrow k a b) s = refl
step_token (Binary o a b) s = refl
step_token (If a b c) s = refl
step_token (When a b w) s = refl
step_token (Merge w a b) s = refl
step_token (Call k w xs) s = refl
step_token (Condact k a w xs ds) s = refl
step_token (ModeName c m) s = refl

form_token : (x : Form) (s : Place) → first_token (form_view x s) ≡ s.from
form_token x s =
    let opened : form_view x ≡ form_step (map-Form Form Expr (Place → Expression) Expression form_view expr_view (out-Form x)) =
    fold_out-Form (Place → Expression) Expression form_step expr_step x in
    ap (λ (f : Place → Expression). first_token (f s)) opened ∙ step_token _ s

pub expr_token : (e : Expr) → first_token (expr_view e) ≡ e.from
expr_token e = ap first_token (view-Expr e) ∙ form_token e.form record { from = e.from; at = e.at }
