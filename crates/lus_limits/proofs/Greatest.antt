-- The greatest sizes so far, cut.
use Rattle.lus_limits.proofs.SizeCuts.{twice, two_alike, three_alike}
use Rattle.std.proofs.Common.{◌≡◌, List, [], ◌∷◌, map, refl, sym, ◌∙◌, ap, arith}
use Rattle.lus_tree.specs.declared.expression.Expr.{Expr}
use Rattle.lus_tree.specs.View.{expr_view, exprs_view, joined}
use Rattle.lus_meaning.specs.Program.{listed}
use Rattle.lus_meaning.specs.Sizes.{Size, leaf, given_size}
use Rattle.lus_limits.specs.Peaks.{no_size, greater}
use Rattle.lus_limits.specs.SizeCuts.{cut_term}
use Rattle.lus_limits.proofs.Sizes.{same_size}
use Rattle.lus_limits.proofs.Peaks.{greater_none}

-- one more that is cut, and what is to come
pub greatest_on : (a x r : Size) → cut_term (greater (greater a (cut_term x)) r) ≡ cut_term (greater a (greater x r))
greatest_on a x r =
    same_size (cut_term (greater (greater a (cut_term x)) r)) (cut_term (greater a (greater x r))) (omega arith) (omega arith)

pub greatest_cut : (a x : Size) → cut_term a ≡ a → cut_term (greater a (cut_term x)) ≡ greater a (cut_term x)
greatest_cut a x e =
    let f : cut_term (greater (cut_term a) (cut_term x)) ≡ greater (cut_term a) (cut_term x) =
    same_size (cut_term (greater (cut_term a) (cut_term x))) (greater (cut_term a) (cut_term x)) (omega arith) (omega arith) in
    ap (λ z. cut_term (greater z (cut_term x))) (sym e) ∙ f ∙ ap (λ z. greater z (cut_term x)) e

pub greatest_end : (a t : Size) → cut_term a ≡ a → cut_term (greater a no_size) ≡ t → a ≡ t
greatest_end a t e f = sym e ∙ ap cut_term (sym (greater_none a)) ∙ f

pub greater_cuts : (a b : Size) → greater (cut_term a) (cut_term b) ≡ cut_term (greater a b)
greater_cuts a b = same_size (greater (cut_term a) (cut_term b)) (cut_term (greater a b)) (omega arith) (omega arith)

pub given_cut : (p a : Size) → cut_term (given_size (cut_term p) (cut_term a)) ≡ cut_term (given_size p a)
given_cut p a =
    two_alike leaf leaf _ _ refl (three_alike (cut_term p) p (cut_term a) a leaf leaf (twice p) (twice a) refl)

pub listed_view : (es : List Expr) → listed (joined (exprs_view es)) ≡ map expr_view es
listed_view [] = refl
listed_view (e ∷ es) = ap (λ xs. expr_view e ∷ xs) (listed_view es)
