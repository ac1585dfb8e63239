-- Where an expression of the code stands, and what is noted of every part.
use Rattle.std.proofs.Common.{◌≡◌, Bool, true, false, cond, not, ◌&&◌, [], ◌∷◌, ◌++◌, refl, ap, sym, ◌∙◌}
use Rattle.lus_tree.specs.declared.place.Pos.{Pos}
use Rattle.lus_tree.specs.declared.expression.Expr.{Expr, fold_out-Expr}
use Rattle.lus_tree.specs.declared.expression.Form.{Form, Form-F, fold_out-Form, map-Form, out-Form}
use Rattle.lus_tree.specs.declared.expression.Form.TheOpen.{Truth, Number, Name, Not, Minus, Pre, Arrow, Binary, If, When, Merge, Call, Condact, ModeName}
use Rattle.lus_tree.specs.Tree.{Place, Expression, truth, number, name, negation, minus, pre, arrow, binary, choice, sampled, merged, call, condact, mode_name}
use Rattle.lus_tree.specs.View.{expr_view, form_view, form_step, expr_step}
use Rattle.lus_tree.specs.Reason.{heavy, not_constant}
use Rattle.lus_meaning.specs.Occurrences.{stands_at, begin, own}
use Rattle.lus_meaning.specs.Scope.{Scope, Worth, is_constant, is_constant_name, is_heavy, weight_of}
use Rattle.lus_meaning.specs.Faults.{faults_at, if_so}
use Rattle.lus_meaning.specs.ExpressionFaults.{hinders_constant, is_integer, weight_faults}
use Rattle.lus_scopes.specs.declared.found.Part.{Part}
use Rattle.lus_scopes.specs.Walk.{always, hinders}
use Rattle.lus_scopes.specs.Parts.{IsPart, always_notes}
use Rattle.lus_scopes.proofs.CutWorths.{heavy_of_cut}

step_stands : (y : Form-F (Place → Expression) Expression) (s : Place) → stands_at (form_step y s) ≡ s
step_stands (Truth b) s = refl
step_stands (Number n) s = refl
step_stands (Name x) s = refl
step_stands (Not a) s = refl
step_stands (Minus a) s = refl
step_stands (Pre k a) s = refl
step_stands (Arrow k a b) s = refl
step_stands (Binary o a b) s = refl
step_stands (If a b c) s = refl
step_stands (When a b w) s = refl
step_stands (Merge w a b) s = refl
step_stands (Call k w xs) s = refl
step_stands (Condact k a w xs ds) s = refl
step_stands (ModeName c m) s = refl

pub form_stands : (f : Form) (s : Place) → stands_at (form_view f s) ≡ s
form_stands f s = rw (fold_out-Form (Place → Expression) Expression form_step expr_step f)
    (step_stands (map-Form Form Expr (Place → Expression) Expression form_view expr_view (out-Form f)) s)

expr_stands : (e : Expr) → stands_at (expr_view e) ≡ record { from = e.from; at = e.at }
expr_stands e = rw (fold_out-Expr (Place → Expression) Expression form_step expr_step e) (form_stands e.form record { from = e.from; at = e.at })

pub begin_of : (e : Expr) → begin (expr_view e) ≡ e.from
begin_of e = ap (λ (p : Place). p.from) (expr_stands e)

pub own_of : (e : Expr) → own (expr_view e) ≡ e.at
own_of e = ap (λ (p : Place). p.at) (expr_stands e)

no_name : (k : Bool) (e : Expression) → cond k (faults_at not_constant []) [] ≡ if_so (k && false) not_constant (own e)
no_name true e = refl
no_name false e = refl

some_form : (k : Bool) (at : Pos) → cond k (faults_at not_constant (at ∷ [])) [] ≡ if_so (k && true) not_constant at
some_form true at = refl
some_form false at = refl

of_name : (k c : Bool) (at : Pos) → cond k (faults_at not_constant (cond c [] (at ∷ []))) [] ≡ if_so (k && not c) not_constant at
of_name true true at = refl
of_name true false at = refl
of_name false c at = refl

pub hindered : (s : Scope) (k : Bool) (e : Expression) → cond k (faults_at not_constant (hinders_constant s e)) [] ≡ if_so
    (k && hinders e (is_constant s e)) not_constant (own e)
hindered s k (truth p b) = no_name k (truth p b)
hindered s k (number p n) = no_name k (number p n)
hindered s k (name p x) = of_name k (is_constant_name s x) p.at
hindered s k (negation p a) = no_name k (negation p a)
hindered s k (minus p a) = no_name k (minus p a)
hindered s k (pre p n a) = some_form k p.at
hindered s k (arrow p n a b) = some_form k p.at
hindered s k (binary p o a b) = no_name k (binary p o a b)
hindered s k (choice p a b c) = no_name k (choice p a b c)
hindered s k (sampled p a b x) = some_form k p.at
hindered s k (merged p x a b) = some_form k p.at
hindered s k (call p n f as_) = some_form k p.at
hindered s k (condact p n a f as_ ds) = some_form k p.at
hindered s k (mode_name p c m) = some_form k p.at

weighed : (s : Scope) (e : Expression) (p : Part) → IsPart s e p → if_so (is_integer p.sort && is_heavy p.worth.weight) heavy (begin e) ≡ weight_faults s e
weighed s e p i = rw (i.sort, ap (λ (w : Worth). w.weight) i.worth, heavy_of_cut (weight_of s e)) refl

always_at : (k : Bool) (from from' at at' : Pos) (h h' : Bool) (p : Part) → from ≡ from' → at ≡ at' → h ≡ h'
    → always_notes k from at h p ≡ always_notes k from' at' h' p
always_at k from from' at at' h h' p e f g = rw (e, f, g) refl

always_is : (s : Scope) (k : Bool) (e : Expression) (p : Part) → IsPart s e p → always_notes k (begin e) (own e) (hinders e (is_constant s e)) p ≡ always s k e
always_is s k e p i = ap (λ fs. fs ++ if_so (k && hinders e (is_constant s e)) not_constant (own e)) (weighed s e p i) ∙ ap
    (λ fs. weight_faults s e ++ fs) (sym (hindered s k e))

pub always_noted : (s : Scope) (k : Bool) (e : Expr) (p : Part) → IsPart s (expr_view e) p → always_notes k e.from e.at
    (hinders (expr_view e) p.constant) p ≡ always s k (expr_view e)
always_noted s k e p i =
    always_at k e.from (begin (expr_view e)) e.at (own (expr_view e)) (hinders (expr_view e) p.constant)
    (hinders (expr_view e) (is_constant s (expr_view e))) p (sym (begin_of e)) (sym (own_of e)) (ap (hinders (expr_view e)) i.constant)
    ∙ always_is s k (expr_view e) p i
