-- Where an expression begins.
use Rattle.std.proofs.Common.{◌≡◌, refl, ap, ◌∙◌}
use Rattle.lus_tree.specs.declared.expression.Expr.{Expr}
use Rattle.lus_tree.specs.declared.expression.Form.{Form, Form-F, fold_out-Form, map-Form, out-Form}
use Rattle.lus_tree.specs.declared.expression.Form.TheOpen.{Truth, Number, Name, Not, Minus, Pre, Arrow, Binary, If, When, Merge, Call, Condact, ModeName}
use Rattle.lus_tree.specs.Tree.{Place, Expression}
use Rattle.lus_tree.specs.View.{expr_view, form_view, form_step, expr_step}
use Rattle.lus_tree.proofs.Views.{view-Expr}
use Rattle.lus_meaning.specs.Occurrences.{begin}

step_begins : (y : Form-F (Place → Expression) Expression) (s : Place) → begin (form_step y s) ≡ s.from
step_begins (Truth b) s = refl
step_begins (Number n) s = refl
step_begins (Name x) s = refl
step_begins (Not a) s = refl
step_begins (Minus a) s = refl
step_begins (Pre k a) s = refl
step_begins (Arrow k a b) s = refl
step_begins (Binary o a b) s = refl
step_begins (If a b c) s = refl
step_begins (When a b w) s = refl
step_begins (Merge w a b) s = refl
step_begins (Call k w xs) s = refl
step_begins (Condact k a w xs ds) s = refl
step_begins (ModeName c m) s = refl

form_begins : (f : Form) (s : Place) → begin (form_view f s) ≡ s.from
form_begins f s =
    ap (λ (g : Place → Expression). begin (g s)) (fold_out-Form (Place → Expression) Expression form_step expr_step f)
    ∙ step_begins (map-Form Form Expr (Place → Expression) Expression form_view expr_view (out-Form f)) s

pub begins : (e : Expr) → begin (expr_view e) ≡ e.from
begins e =
    let s : Place = record { from = e.from; at = e.at } in
    ap begin (view-Expr e) ∙ form_begins e.form s
