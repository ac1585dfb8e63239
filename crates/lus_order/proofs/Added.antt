-- Names that are added to a table, one behind the other.
use Rattle.std.proofs.Common.{◌≡◌, ℕ, ◌<◌, ◌+◌, Bool, true, false, ◌||◌, List, [], ◌∷◌, ◌++◌, map, take, get_or, length, refl, ap, ◌∙◌, sym, subst, append_assoc}
use Rattle.std.specs.Str.{bytes_eq}
use Rattle.std.proofs.Math.Logic.{◌⊎◌, inl, inr}
use Rattle.std.proofs.lemmas.Bool.{cases_Bool}
use Rattle.std.proofs.lemmas.List.{take_more}
use Rattle.lus_tree.specs.declared.place.Param.{Param}
use Rattle.lus_tree.specs.View.{param_view}
use Rattle.lus_tree.specs.Tree.{Name}
use Rattle.lus_meaning.specs.Depends.{named_in}
use Rattle.lus_meaning.proofs.Unique.{same_bytes}
use Rattle.name_table.specs.Names.{add}
use Rattle.name_table.proofs.Names.{in_joined}
use Rattle.lus_order.specs.Names.{AddsNames}

abbrev stream_names : List Param → List Name
stream_names ps = map (λ v. v.name.text) (map param_view ps)

names_joined : (ps : List Param) (p : Param) → stream_names (ps ++ p ∷ []) ≡ stream_names ps ++ (param_view p).name.text ∷ []
names_joined [] p = refl
names_joined (q ∷ ps) p = ap (λ xs. (param_view q).name.text ∷ xs) (names_joined ps p)

or_same : (a b : Bool) → (b ≡ true → a ≡ true) → a ≡ (a || (b || false))
or_same true b h = refl
or_same false true h = h refl
or_same false false h = refl

pub added_is : (t : List Name) (y x : Name) → named_in x (add t y) ≡ named_in x (t ++ y ∷ [])
added_is t y x = go (cases_Bool (named_in y t))
  where
    go : (named_in y t ≡ true) ⊎ (named_in y t ≡ false) → named_in x (add t y) ≡ named_in x (t ++ y ∷ [])
    go (inr f) = rw f refl
    go (inl e) = rw e (or_same (named_in x t) (bytes_eq x y) (λ q. subst (λ z. named_in z t ≡ true) (sym (same_bytes x y q)) e)
        ∙ sym (in_joined x t (y ∷ [])))

same_behind : (x : Name) (t xs ys : List Name) → named_in x t ≡ named_in x xs → named_in x (t ++ ys) ≡ named_in x (xs ++ ys)
same_behind x t xs ys e = in_joined x t ys ∙ (ap (λ b. b || named_in x ys) e ∙ sym (in_joined x xs ys))

pub one_added : (before t new : List Name) (ps : List Param) (i : ℕ) (p : Param) → i < length ps → p ≡ get_or ps i p
    → AddsNames before t (stream_names (take i ps)) → new ≡ add t (param_view p).name.text → AddsNames before new (stream_names (take (i + 1) ps))
one_added before t new ps i p l is h e x =
    let y : Name = (param_view p).name.text in
    let names : stream_names (take (i + 1) ps) ≡ stream_names (take i ps) ++ y ∷ [] =
    ap stream_names (take_more ps i p l ∙ ap (λ q. take i ps ++ q ∷ []) (sym is)) ∙ names_joined (take i ps) p in
    ap (named_in x) e ∙ (added_is t y x ∙ (same_behind x t (before ++ stream_names (take i ps)) (y ∷ []) (h x)
    ∙ ap (named_in x) (append_assoc before (stream_names (take i ps)) (y ∷ []) ∙ ap (λ xs. before ++ xs) (sym names))))
