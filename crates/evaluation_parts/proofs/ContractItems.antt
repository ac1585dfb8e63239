-- The conditions of a contract, one item after the other.
use Rattle.std.proofs.Common.{◌≡◌, refl, ap, sym, ◌∙◌, ℕ, ◌<◌, ◌+◌, List, [], ◌∷◌, ◌++◌, map, flat_map, length, drop, get_or}
use Rattle.std.proofs.lemmas.List.{append_assoc, drop_more}
use Rattle.std.proofs.Math.Path.{fun_ext}
use Rattle.lus_tree.specs.Tree.{ContractStatement, assume, guarantee, ghost_variable, constant, mode, «import»}
use Rattle.lus_meaning.specs.Cycle.{Place}
use Rattle.lus_meaning.specs.Scene.{Instance}
use Rattle.lus_evaluation.specs.Part.{Part, Key}
use Rattle.lus_evaluation.specs.Frame.{ModeText, ContractText, Calls, conditions_of, contract_after, setting}
use Rattle.evaluation_parts.specs.Conditions.{after_item, after_items}

abbrev joint : List Part → List Part → List ModeText → ContractText
joint as_ gs ms = record { assumed = as_; guaranteed = gs; modes = ms }

pub after_one : (i : Instance) (w : List ℕ) (sub : Calls) (t : ContractText) (c : ContractStatement) (cs : List ContractStatement)
    → after_items i w sub (after_item i w sub t c) cs ≡ after_items i w sub t (c ∷ cs)
after_one i w sub t (assume l) cs =
    let r : ContractText = contract_after i w sub t.modes cs in
    ap (λ z. joint z (t.guaranteed ++ r.guaranteed) r.modes) (append_assoc t.assumed (conditions_of (setting i w sub t.modes) (l ∷ [])) r.assumed)
after_one i w sub t (guarantee l) cs =
    let r : ContractText = contract_after i w sub t.modes cs in
    ap (λ z. joint (t.assumed ++ r.assumed) z r.modes) (append_assoc t.guaranteed (conditions_of (setting i w sub t.modes) (l ∷ [])) r.guaranteed)
after_one i w sub t (ghost_variable x e) cs = refl
after_one i w sub t (constant c) cs = refl
after_one i w sub t (mode m rs es) cs = refl
after_one i w sub t («import» k c as_ xs) cs =
    let r : ContractText = contract_after i w sub (after_item i w sub t («import» k c as_ xs)).modes cs in
    ap (λ z. joint z (t.guaranteed ++ (sub k).contract.guaranteed ++ r.guaranteed) r.modes)
    (append_assoc t.assumed (sub k).contract.assumed r.assumed)
    ∙ ap (λ z. joint (t.assumed ++ ((sub k).contract.assumed ++ r.assumed)) z r.modes)
    (append_assoc t.guaranteed (sub k).contract.guaranteed r.guaranteed)

-- ---- modes

abbrev made : Key → (List Place → List Part) → List Part → List Part → ModeText
made k a r e = record { key = k; asked = a; required = r; ensured = e }

pub mode_is : (k k' : Key) (a a' : List Place → List Part) (r r' e e' : List Part) → k ≡ k' → ((ns : List Place) → a ns ≡ a' ns) → r ≡ r' → e ≡ e'
    → made k a r e ≡ made k' a' r' e'
mode_is k k' a a' r r' e e' o p q s =
    ap (λ z. made z a r e) o ∙ (ap (λ z. made k' z r e) (fun_ext p) ∙ (ap (λ z. made k' a' z e) q ∙ ap (λ z. made k' a' r' z) s))

-- ---- lists

-- what one more adds
pub one_added : {A B C : Type 0} (v : A → B) (f : B → List C) (xs : List A) (i : ℕ) (x : A) (old new all : List C) → i < length xs → x ≡ get_or xs i x
    → old ++ flat_map f (map v (drop i xs)) ≡ all → new ≡ old ++ f (v x) → new ++ flat_map f (map v (drop (i + 1) xs)) ≡ all
one_added v f xs i x old new all l is e h =
    ap (λ z. z ++ flat_map f (map v (drop (i + 1) xs))) h
    ∙ append_assoc old (f (v x)) (flat_map f (map v (drop (i + 1) xs)))
    ∙ ap (λ z. old ++ (f (v z) ++ flat_map f (map v (drop (i + 1) xs)))) is
    ∙ sym (ap (λ z. old ++ flat_map f (map v z)) (drop_more xs i x l))
    ∙ e
