-- Modes are made statement by statement.
use Rattle.std.proofs.Common.{◌≡◌, ℕ, ◌≤◌, List, [], ◌∷◌, ◌++◌, map, drop, length, refl, ap, ◌∙◌, sym}
use Rattle.std.proofs.lemmas.List.{append-nil, drop_all}
use Rattle.lus_tree.specs.declared.place.PlacedName.{PlacedName}
use Rattle.lus_tree.specs.declared.expression.Expr.{Expr}
use Rattle.lus_tree.specs.View.{expr_view, word_view}
use Rattle.lus_tree.specs.Tree.{Name, ContractStatement, assume, guarantee, ghost_variable, constant, mode, «import»}
use Rattle.lus_order.specs.declared.setting.Clocks.{Clocks}
use Rattle.lus_order.specs.declared.setting.Callees.{Callees}
use Rattle.way_laws.specs.OwnGraph.{Summary}
use Rattle.lus_order.specs.Rows.{ModeRows, listed_row, shared_row, mode_rows_after}

pub after_one : (s : Clocks) (t : Callees) (l : Name → Summary) (ms : ModeRows) (c : ContractStatement) (cs : List ContractStatement)
    → mode_rows_after s t l ms (c ∷ cs) ≡ mode_rows_after s t l (mode_rows_after s t l ms (c ∷ [])) cs
after_one s t l ms (assume a) cs = refl
after_one s t l ms (guarantee a) cs = refl
after_one s t l ms (ghost_variable x e) cs = refl
after_one s t l ms (constant c) cs = refl
after_one s t l ms (mode m rs es) cs = refl
after_one s t l ms («import» k c as_ xs) cs = refl

no_arguments : (s : Clocks) (t : Callees) (ms : ModeRows) (ys xs : List Name) → listed_row s t ms ys xs [] ≡ []
no_arguments s t ms ys [] = refl
no_arguments s t ms ys (x ∷ xs) = refl

no_words : (names ys os : List Name) → shared_row names ys os [] ≡ []
no_words names ys [] = refl
no_words names ys (o ∷ os) = refl

none_left : {X Y : Type 0} (f : X → Y) (xs : List X) (i : ℕ) → length xs ≤ i → map f (drop i xs) ≡ []
none_left f xs i l = ap (map f) (drop_all i xs l)

pub arguments_end : (s : Clocks) (t : Callees) (ms : ModeRows) (ys xs : List Name) (es : List Expr) (i : ℕ) (row all : List ℕ) → length es ≤ i
    → row ++ listed_row s t ms ys xs (map expr_view (drop i es)) ≡ all → row ≡ all
arguments_end s t ms ys xs es i row all l e =
    sym (append-nil row) ∙ ap (λ z. row ++ z) (sym (ap (listed_row s t ms ys xs) (none_left expr_view es i l) ∙ no_arguments s t ms ys xs)) ∙ e

pub words_end : (names ys os : List Name) (ws : List PlacedName) (i : ℕ) (row all : List ℕ) → length ws ≤ i
    → row ++ shared_row names ys os (map word_view (drop i ws)) ≡ all → row ≡ all
words_end names ys os ws i row all l e =
    sym (append-nil row) ∙ ap (λ z. row ++ z) (sym (ap (shared_row names ys os) (none_left word_view ws i l) ∙ no_words names ys os)) ∙ e
