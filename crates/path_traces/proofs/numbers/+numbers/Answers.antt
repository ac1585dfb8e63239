use Rattle.std.proofs.Common.{rules, ◌≡◌, ℕ, List, ◌++◌}
use Rattle.lus_tree.proofs.Views.{form_views}
use Rattle.lus_tree.specs.Numbers.{a_pre, an_arrow, if_same, numbers_among, own_number}
use Rattle.lus_tree.specs.View.{expr_view, exprs_view, joined}
use Rattle.path_traces.specs.Kinds.{kind_view, numbers_of}
use Rattle.path_traces.proofs.Gathered.{condact_numbers, two_on, three_left, three_right}
use Rattle.path_traces.proofs.numbers.+numbers.Goals as goal

pub push_numbers-returns-in_ok-push_arrow-in-Arrow :
    goal.push_numbers-returns-in_ok-push_arrow-in-Arrow
push_numbers-returns-in_ok-push_arrow-in-Arrow t c =
    let x : List ℕ = numbers_of c.args.kind (expr_view c.deref-in-Arrow.result.now) in
    let y : List ℕ = if_same (kind_view c.args.kind) an_arrow c.in-Arrow.number in
    let z : List ℕ = numbers_of c.args.kind (expr_view c.deref-in-Arrow-2.result.now) in
    let e : numbers_of c.args.kind (expr_view c.args.e.now) ≡ x ++ (y ++ z) = search (rules, form_views) in
    three_right c.push_numbers-in-Arrow-2.result _ _ _ _ x y z (numbers_of c.args.kind (expr_view c.args.e.now)) c.in_ok-push_numbers-in-Arrow.ensures
    c.in_ok-push_arrow-in-Arrow.ensures c.push_numbers-in-Arrow-2.ensures e

pub push_numbers-returns-in_ok-push_numbers-in-If-2 :
    goal.push_numbers-returns-in_ok-push_numbers-in-If-2
push_numbers-returns-in_ok-push_numbers-in-If-2 t c =
    let x : List ℕ = numbers_of c.args.kind (expr_view c.deref-in-If.result.now) in
    let y : List ℕ = numbers_of c.args.kind (expr_view c.deref-in-If-2.result.now) in
    let z : List ℕ = numbers_of c.args.kind (expr_view c.deref-in-If-3.result.now) in
    let e : numbers_of c.args.kind (expr_view c.args.e.now) ≡ (x ++ y) ++ z = search (rules, form_views) in
    three_left c.push_numbers-in-If-3.result _ _ _ _ x y z (numbers_of c.args.kind (expr_view c.args.e.now)) c.in_ok-push_numbers-in-If.ensures
    c.in_ok-push_numbers-in-If-2.ensures c.push_numbers-in-If-3.ensures e

pub push_numbers-returns-in_ok-push_among-in-Condact :
    goal.push_numbers-returns-in_ok-push_among-in-Condact
push_numbers-returns-in_ok-push_among-in-Condact t c =
    let x : List ℕ = numbers_of c.args.kind (expr_view c.deref-in-Condact.result.now) in
    let y : List ℕ = numbers_among (own_number (kind_view c.args.kind)) (joined (exprs_view c.deref-in-Condact-2.result.now)) in
    let z : List ℕ = numbers_among (own_number (kind_view c.args.kind)) (joined (exprs_view c.deref-in-Condact-3.result.now)) in
    let e : numbers_of c.args.kind (expr_view c.args.e.now) ≡ (x ++ y) ++ z =
    condact_numbers c.args.kind c.args.e.now _ _ _ _ _ c.deref-in-Condact.result.now c.deref-in-Condact-2.result.now c.deref-in-Condact-3.result.now
    c.in-Condact.is (cc) (cc c.deref-in-Condact-2.ensures.value) (cc c.deref-in-Condact-3.ensures.value) in
    three_left c.push_among-in-Condact-2.result _ _ _ _ x y z (numbers_of c.args.kind (expr_view c.args.e.now)) c.in_ok-push_numbers-in-Condact.ensures
    c.in_ok-push_among-in-Condact.ensures c.push_among-in-Condact-2.ensures e

pub push_numbers-returns-in_ok-push_numbers-in-Binary :
    goal.push_numbers-returns-in_ok-push_numbers-in-Binary
push_numbers-returns-in_ok-push_numbers-in-Binary t c =
    let x : List ℕ = numbers_of c.args.kind (expr_view c.deref-in-Binary.result.now) in
    let y : List ℕ = numbers_of c.args.kind (expr_view c.deref-in-Binary-2.result.now) in
    let e : numbers_of c.args.kind (expr_view c.args.e.now) ≡ x ++ y = search (rules, form_views) in
    two_on c.push_numbers-in-Binary-2.result _ _ _ x y (numbers_of c.args.kind (expr_view c.args.e.now)) c.in_ok-push_numbers-in-Binary.ensures
    c.push_numbers-in-Binary-2.ensures e

pub push_numbers-returns-in_ok-push_pre-in-Pre :
    goal.push_numbers-returns-in_ok-push_pre-in-Pre
push_numbers-returns-in_ok-push_pre-in-Pre t c =
    let x : List ℕ = if_same (kind_view c.args.kind) a_pre c.in-Pre.number in
    let y : List ℕ = numbers_of c.args.kind (expr_view c.deref.result.now) in
    let e : numbers_of c.args.kind (expr_view c.args.e.now) ≡ x ++ y = search (rules, form_views) in
    two_on c.push_numbers.result _ _ _ x y (numbers_of c.args.kind (expr_view c.args.e.now)) c.in_ok-push_pre-in-Pre.ensures
    c.push_numbers.ensures e
