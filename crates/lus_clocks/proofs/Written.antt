-- What is written of one more, followed by what is to come.
use Rattle.std.proofs.Common.{◌≡◌, ℕ, suc, ◌+◌, ◌<◌, ◌≤◌, List, [], ◌∷◌, ◌++◌, map, take, drop, length, get_or, refl, ap, sym, subst, ◌∙◌, arith, drop-cons, Option, Some, None}
use Rattle.std.proofs.lemmas.List.{map_more, map-append, length-map, get_or-map, get_or_past}
use Rattle.lus_tree.specs.View.{decl_view}
use Rattle.lus_tree.specs.declared.declaration.Decl.{Decl}
use Rattle.lus_tree.specs.Tree.{Component, Program}
use Rattle.lus_meaning.specs.Scene.{Clock}
use Rattle.lus_meaning.specs.Occurrences.{Text}
use Rattle.lus_meaning.specs.ClockFaults.{or_else}
use Rattle.lus_clocks.specs.declared.occurrence.Occurrence.{Occurrence as Sought}
use Rattle.lus_clocks.specs.declared.table.Table.{Table}
use Rattle.lus_clocks.specs.Program.{KeepAll, declared_clock, program_clock}
use Rattle.lus_clocks.specs.Table.{kept}
use Rattle.lus_clocks.specs.Sought.{clock_at, clock_at_texts}
use Rattle.lus_clocks.proofs.Elses.{or_else_of_three}

pub one_mapped : (n : Component) (s : Sought) {X Y : Type 0} (f : Y → Text) (v : X → Y) (xs : List X) (i : ℕ) (x : X) (k k' : Option Clock)
    → i < length xs → x ≡ get_or xs i x → k' ≡ or_else k (clock_at_texts n s (f (v x) ∷ []))
    → or_else k' (clock_at_texts n s (map f (map v (drop (i + 1) xs)))) ≡ or_else k (clock_at_texts n s (map f (map v (drop i xs))))
one_mapped n s f v xs i x k k' h e d =
    let a : i + 1 ≡ suc i = omega arith in
    let l : drop i xs ≡ x ∷ drop (suc i) xs = drop-cons xs i x h ∙ ap (λ y. y ∷ drop (suc i) xs) (sym e) in
    let rest : List Text = map f (map v (drop (suc i) xs)) in
    let here : Option Clock = clock_at n s (f (v x)).0.clock (f (v x)).1 in
    rw a
    (ap (λ z. or_else z (clock_at_texts n s rest)) d
    ∙ or_else_of_three k (or_else here None) (clock_at_texts n s rest)
    ∙ ap (or_else k) (or_else_of_three here None (clock_at_texts n s rest))
    ∙ ap (λ ys. or_else k (clock_at_texts n s (map f (map v ys)))) (sym l))

-- a table for each declaration
pub one_table : (s : Sought) (ts : List Table) (t : Table) (ds : List Decl) (i : ℕ) (d : Decl) → i < length ds → d ≡ get_or ds i d
    → kept t s ≡ declared_clock s (decl_view d)
    → map (λ (z : Table). kept z s) ts ≡ map (declared_clock s) (map decl_view (take i ds))
    → map (λ (z : Table). kept z s) (ts ++ t ∷ []) ≡ map (declared_clock s) (map decl_view (take (i + 1) ds))
one_table s ts t ds i d h e k a =
    let step : map decl_view (take (i + 1) ds) ≡ map decl_view (take i ds) ++ decl_view d ∷ [] =
    map_more decl_view ds i d h ∙ ap (λ y. map decl_view (take i ds) ++ decl_view y ∷ []) (sym e) in
    map-append (λ (z : Table). kept z s) ts (t ∷ [])
    ∙ ap (λ z. z ++ kept t s ∷ []) a
    ∙ ap (λ o. map (declared_clock s) (map decl_view (take i ds)) ++ o ∷ []) k
    ∙ sym (ap (map (declared_clock s)) step ∙ map-append (declared_clock s) (map decl_view (take i ds)) (decl_view d ∷ []))

-- ---- by the number of a declaration

pub table_there : (s : Sought) (ts : List Table) (p : Program) (d : ℕ) (t : Table) → KeepAll ts p → d < length ts → t ≡ get_or ts d t
    → kept t s ≡ program_clock p d s
table_there s ts p d t a l e =
    ap (λ (z : Table). kept z s) e ∙ sym (get_or-map (λ (z : Table). kept z s) ts d t None l) ∙ ap (λ os. get_or os d None) (a s)

pub no_table : (s : Sought) (ts : List Table) (p : Program) (d : ℕ) → KeepAll ts p → length ts ≤ d → program_clock p d s ≡ None
no_table s ts p d a l =
    ap (λ os. get_or os d None) (sym (a s))
    ∙ get_or_past (map (λ (z : Table). kept z s) ts) d None (subst (λ k. k ≤ d) (sym (length-map ts (λ (z : Table). kept z s))) l)
