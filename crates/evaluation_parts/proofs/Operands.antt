-- The parts of an expression: what is evaluated before itself, and itself.
use Rattle.std.proofs.Common.{◌≡◌, refl, ap, sym, ◌∙◌, List, [], ◌∷◌, ◌++◌}
use Rattle.std.proofs.lemmas.List.{append_assoc}
use Rattle.lus_tree.specs.Tree.{Name, Expression, truth, number, name, negation, minus, pre, arrow, binary, choice, sampled, merged, call, condact, mode_name}
use Rattle.lus_meaning.specs.Cycle.{Place}
use Rattle.lus_meaning.specs.Scene.{Clock}
use Rattle.lus_evaluation.specs.Part.{Part, Setting, argument_parts, needs_of, operand_parts, part, parts}
use Rattle.evaluation_parts.specs.Operands.{beside, elsewhere}

apart : (g : Setting) (ns : List Place) (xs : List Name) (c : Clock) (e : Expression)
    → parts g ns xs c e ≡ beside g ns c e ++ (elsewhere g ns c e ++ part g ns xs c e ∷ [])
apart g ns xs c (truth p b) = refl
apart g ns xs c (number p n) = refl
apart g ns xs c (name p x) = refl
apart g ns xs c (negation p a) = refl
apart g ns xs c (minus p a) = refl
apart g ns xs c (pre p k a) = refl
apart g ns xs c (arrow p k a b) = refl
apart g ns xs c (binary p o a b) = refl
apart g ns xs c (choice p a b d) = refl
apart g ns xs c (sampled p a b x) = refl
apart g ns xs c (merged p x a b) = refl
apart g ns xs c (call p k f as_) = refl
apart g ns xs c (condact p k a f as_ ds) = ap (λ z. (z ++ operand_parts g ns c ds) ++ part g ns xs c (condact p k a f as_ ds) ∷ [])
    (append_assoc (parts g (needs_of g c a) [] c a) (argument_parts g c as_) (g.body k))
apart g ns xs c (mode_name p d m) = refl

-- behind what there is, step by step
pub parts_are : (g : Setting) (ns : List Place) (xs : List Name) (c : Clock) (e : Expression) (old first second all : List Part)
    → first ≡ old ++ beside g ns c e → second ≡ first ++ elsewhere g ns c e → all ≡ second ++ part g ns xs c e ∷ []
    → all ≡ old ++ parts g ns xs c e
parts_are g ns xs c e old first second all p q r =
    r
    ∙ ap (λ z. z ++ part g ns xs c e ∷ []) (q ∙ ap (λ z. z ++ elsewhere g ns c e) p)
    ∙ (append_assoc (old ++ beside g ns c e) (elsewhere g ns c e) (part g ns xs c e ∷ [])
    ∙ (append_assoc old (beside g ns c e) (elsewhere g ns c e ++ part g ns xs c e ∷ [])
    ∙ ap (λ z. old ++ z) (sym (apart g ns xs c e))))
