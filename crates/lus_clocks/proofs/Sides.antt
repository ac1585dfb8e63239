-- Items behind each other, and an equation by its left names and its right side.
use Rattle.std.proofs.Common.{◌≡◌, ℕ, suc, ◌+◌, ◌<◌, Bool, arith, drop, get_or, drop-cons, List, ◌∷◌, map, flat_map, length, ap, sym, ◌∙◌, Option}
use Rattle.lus_tree.specs.declared.expression.Expr.{Expr}
use Rattle.lus_tree.specs.Tree.{Name, Component}
use Rattle.lus_tree.specs.View.{expr_view}
use Rattle.lus_tree.specs.Reason.{Refused, clock_clash}
use Rattle.lus_meaning.specs.Scene.{Clock, clock_of_names}
use Rattle.lus_meaning.specs.Occurrences.{begin}
use Rattle.lus_meaning.specs.Faults.{if_so}
use Rattle.lus_scopes.specs.Least.{noted_all}
use Rattle.lus_scopes.proofs.Leasts.{noted_append}
use Rattle.lus_clocks.specs.Items.{placed_walk, side_walk, some_other}
use Rattle.lus_clocks.proofs.Arms.{two}
use Rattle.lus_clocks.proofs.Begins.{begins}

pub one_more : {X Y : Type 0} (f : Y → List Refused) (v : X → Y) (xs : List X) (i : ℕ) (x : X) (o o' : Option Refused) → i < length xs
    → x ≡ get_or xs i x → o' ≡ noted_all o (f (v x))
    → noted_all o' (flat_map f (map v (drop (i + 1) xs))) ≡ noted_all o (flat_map f (map v (drop i xs)))
one_more f v xs i x o o' h e g =
    let a : i + 1 ≡ suc i = omega arith in
    let l : drop i xs ≡ x ∷ drop (suc i) xs = drop-cons xs i x h ∙ ap (λ y. y ∷ drop (suc i) xs) (sym e) in
    rw a
    (ap (λ z. noted_all z (flat_map f (map v (drop (suc i) xs)))) g ∙ sym (noted_append o (f (v x)) (flat_map f (map v (drop (suc i) xs))))
    ∙ ap (λ ys. noted_all o (flat_map f (map v ys))) (sym l))

pub side_behind : (n : Component) (xs : List Name) (e : Expr) (k : Clock) (b : Bool) (o o1 q : Option Refused) → k ≡ clock_of_names n xs
    → b ≡ some_other n k xs → o1 ≡ noted_all o (if_so b clock_clash e.from) → q ≡ noted_all o1 (placed_walk n k (expr_view e))
    → q ≡ noted_all o (side_walk n xs (expr_view e))
side_behind n xs e k b o o1 q d h f g =
    two o o1 q (if_so (some_other n (clock_of_names n xs) xs) clock_clash (begin (expr_view e))) (placed_walk n (clock_of_names n xs) (expr_view e))
    (f ∙ ap (λ z. noted_all o (if_so z clock_clash e.from)) (h ∙ ap (λ z. some_other n z xs) d)
    ∙ ap (λ z. noted_all o (if_so (some_other n (clock_of_names n xs) xs) clock_clash z)) (sym (begins e)))
    (g ∙ ap (λ z. noted_all o1 (placed_walk n z (expr_view e))) d)
