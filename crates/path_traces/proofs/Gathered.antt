-- Lists that are made one part after another.
use Rattle.std.proofs.Common.{◌≡◌, ℕ, suc, ◌+◌, List, [], ◌++◌, map, flat_map, append_assoc, refl, sym, ap, ◌∙◌, Result, Ok, Err, OnOk, Box, Vec}
use Rattle.std.specs.declared.alloc.Global.{Global}
use Rattle.std.proofs.lemmas.Grind.{flat_map-append}
use Rattle.lus_tree.proofs.Views.{view-Expr, view-Condact}
use Rattle.lus_tree.specs.declared.expression.Expr.{Expr}
use Rattle.lus_tree.specs.declared.expression.Form.{Condact}
use Rattle.lus_tree.specs.declared.place.PlacedName.{PlacedName}
use Rattle.lus_tree.specs.Numbers.{a_call, all_numbers, contract_statement_expressions, if_same, numbers_among, own_number, statement_expressions}
use Rattle.lus_tree.specs.View.{expr_view, exprs_view, form_view, joined}
use Rattle.lus_tree.specs.Tree.{Place, Variable, Expression, Constant, ContractStatement, Statement, Component}
use Rattle.lus_meaning.specs.Scene.{contract_statements}
use Rattle.lus_meaning.specs.Trace.{BareLine}
use Rattle.sys_terms.specs.declared.term.Entry.{Entry}
use Rattle.lus_limits.specs.declared.calls.Way.{Way}
use Rattle.lus_limits.specs.Calls.{Called}
use Rattle.path_traces.specs.declared.numbers.Kind.{Kind}
use Rattle.path_traces.specs.declared.numbers.Kind.TheVariants.{Pre, Arrow}
use Rattle.path_traces.specs.Kinds.{kind_view, numbers_of}
use Rattle.path_traces.specs.Plans.{Plan, own_width}
use Rattle.path_traces.specs.Walked.{own_lines, calls_lines, walk}

pub two_on : {A V E : Type 0} (r : Result V E) (old mid new xs ys all : List A) → mid ≡ old ++ xs → OnOk r (new ≡ mid ++ ys) → all ≡ xs ++ ys
    → OnOk r (new ≡ old ++ all)
two_on (Ok v) old mid new xs ys all m h e =
    h ∙ ap (λ l. l ++ ys) m ∙ append_assoc old xs ys ∙ ap (λ l. old ++ l) (sym e)
two_on (Err x) old mid new xs ys all m h e = tt

pub three_right : {A V E : Type 0} (r : Result V E) (old one two new xs ys zs all : List A) → one ≡ old ++ xs → two ≡ one ++ ys → OnOk r (new ≡ two ++ zs)
    → all ≡ xs ++ (ys ++ zs) → OnOk r (new ≡ old ++ all)
three_right r old one two new xs ys zs all a b h e =
    two_on r old two new (xs ++ ys) zs all (b ∙ ap (λ l. l ++ ys) a ∙ append_assoc old xs ys) h (e ∙ sym (append_assoc xs ys zs))

pub three_left : {A V E : Type 0} (r : Result V E) (old one two new xs ys zs all : List A) → one ≡ old ++ xs → two ≡ one ++ ys → OnOk r (new ≡ two ++ zs)
    → all ≡ (xs ++ ys) ++ zs → OnOk r (new ≡ old ++ all)
three_left r old one two new xs ys zs all a b h e =
    two_on r old two new (xs ++ ys) zs all (b ∙ ap (λ l. l ++ ys) a ∙ append_assoc old xs ys) h e

-- the numbers of a declaration
pub all_gathered : (k : Kind) (d : Component) (n0 n1 n2 n3 : List ℕ) (as_ : List ContractStatement) (bs : List Constant) (cs : List Statement) → n0 ≡ []
    → n1 ≡ n0 ++ flat_map (numbers_of k) (flat_map contract_statement_expressions as_) → as_ ≡ contract_statements d
    → n2 ≡ n1 ++ flat_map (numbers_of k) (map (λ c. c.value) bs) → bs ≡ d.constants
    → n3 ≡ n2 ++ flat_map (numbers_of k) (flat_map statement_expressions cs) → cs ≡ d.body
    → n3 ≡ all_numbers (own_number (kind_view k)) d
all_gathered k d n0 n1 n2 n3 as_ bs cs a b e f g h i =
    let N : Expression → List ℕ = numbers_of k in
    let x : List Expression = flat_map contract_statement_expressions (contract_statements d) in
    let y : List Expression = map (λ (c : Constant). c.value) d.constants in
    let z : List Expression = flat_map statement_expressions d.body in
    let one : n1 ≡ flat_map N x =
    b ∙ ap (λ l. l ++ flat_map N (flat_map contract_statement_expressions as_)) a ∙ ap (λ l. flat_map N (flat_map contract_statement_expressions l)) e in
    let two : n2 ≡ flat_map N x ++ flat_map N y =
    f ∙ ap (λ l. l ++ flat_map N (map (λ c. c.value) bs)) one ∙ ap (λ l. flat_map N x ++ flat_map N (map (λ c. c.value) l)) g in
    h ∙ ap (λ l. l ++ flat_map N (flat_map statement_expressions cs)) two
    ∙ ap (λ l. (flat_map N x ++ flat_map N y) ++ flat_map N (flat_map statement_expressions l)) i
    ∙ append_assoc (flat_map N x) (flat_map N y) (flat_map N z) ∙ ap (λ l. flat_map N x ++ l) (sym (flat_map-append N y z))
    ∙ sym (flat_map-append N x (y ++ z))

-- the lines of a frame, and behind them those of its calls
pub frame_on : {V E : Type 0} (r : Result V E) (states : List (List Entry)) (ps : List Plan) (f g : ℕ) (w : Way) (path : List ℕ) (b : ℕ)
    (listed : List Variable) (p : Plan) (old mid new : List BareLine) (next : ℕ) (cs : List Called) → f ≡ suc g
    → mid ≡ old ++ own_lines states path b listed p → next ≡ b + own_width w p → cs ≡ p.calls
    → OnOk r (new ≡ mid ++ calls_lines (walk states ps g) ps path next cs)
    → OnOk r (new ≡ old ++ (walk states ps f).lines w path b listed p)
frame_on r states ps f g w path b listed p old mid new next cs e m n q h =
    two_on r old mid new (own_lines states path b listed p) (calls_lines (walk states ps g) ps path next cs) ((walk states ps f).lines w path b listed p) m h
    (ap (λ k. (walk states ps k).lines w path b listed p) e
    ∙ sym (ap (λ k. own_lines states path b listed p ++ calls_lines (walk states ps g) ps path k cs) n
    ∙ ap (λ k. own_lines states path b listed p ++ calls_lines (walk states ps g) ps path (b + own_width w p) k) q))

-- a call is none of them
no_call : (j : Kind) (k : ℕ) → if_same (kind_view j) a_call k ≡ []
no_call Pre k = refl
no_call Arrow k = refl

-- those of a call under a condition
pub condact_numbers : (j : Kind) (e : Expr) (k : ℕ) (a : Box Expr Global) (w : PlacedName) (xs ds : Vec Expr Global) (x : Expr) (us vs : List Expr)
    → e.form ≡ Condact k a w xs ds → x ≡ a.value → us ≡ xs.items → vs ≡ ds.items
    → numbers_of j (expr_view e) ≡ (numbers_of j (expr_view x) ++ numbers_among (own_number (kind_view j)) (joined (exprs_view us)))
    ++ numbers_among (own_number (kind_view j)) (joined (exprs_view vs))
condact_numbers j e k a w xs ds x us vs is q u v =
    let o : Expression → List ℕ = own_number (kind_view j) in
    let s : Place = record { from = e.from; at = e.at } in
    ap (numbers_of j) (view-Expr e ∙ ap (λ f. form_view f s) is ∙ view-Condact k a w xs ds s)
    ∙ ap (λ l. l ++ ((numbers_of j (expr_view a.value) ++ numbers_among o (joined (exprs_view xs.items))) ++ numbers_among o (joined (exprs_view ds.items))))
    (no_call j k)
    ∙ ap (λ z. (numbers_of j (expr_view z) ++ numbers_among o (joined (exprs_view xs.items))) ++ numbers_among o (joined (exprs_view ds.items))) (sym q)
    ∙ ap (λ z. (numbers_of j (expr_view x) ++ numbers_among o (joined (exprs_view z))) ++ numbers_among o (joined (exprs_view ds.items))) (sym u)
    ∙ ap (λ z. (numbers_of j (expr_view x) ++ numbers_among o (joined (exprs_view us))) ++ numbers_among o (joined (exprs_view z))) (sym v)
