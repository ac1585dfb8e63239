-- Lines that stand in no text, their places aside.
use Rattle.std.proofs.Common.{◌≡◌, ℕ, suc, ◌+◌, ◌-◌, ◌<◌, List, [], ◌∷◌, ◌++◌, map, refl, sym, ap, ◌∙◌, append_assoc, arith, Result, Ok, Err, IfOk}
use Rattle.lus_tree.specs.declared.place.Pos.{Pos}
use Rattle.lus_meaning.specs.declared.trace.TraceLine.{TraceLine}
use Rattle.lus_meaning.specs.Value.{Value}
use Rattle.lus_meaning.specs.Trace.{Subject, BareLine}
use Rattle.lus_meaning.specs.TraceView.{all_at, bare_values, bare_line, bare_view, line_view, unplaced}
use Rattle.lus_meaning.proofs.Lists.{map_append}
use Rattle.sys_terms.specs.declared.term.Entry.{Entry}
use Rattle.path_traces.specs.Numbered.{bare_of, first_lines}

values_bare : (p : Pos) (vs : List Value) → bare_values (all_at p vs) ≡ vs
values_bare p [] = refl
values_bare p (v ∷ vs) = ap (λ (ws : List Value). v ∷ ws) (values_bare p vs)

pub line_bare : {E : Type 0} (p : Pos) (path way : List ℕ) (x : Subject) (vs : List Value) (r : Result TraceLine E) → way ≡ path
    → IfOk r (λ l. line_view l ≡ unplaced p way x vs) → IfOk r (λ l. bare_view l ≡ bare_of path x vs)
line_bare p path way x vs (Ok l) e h =
    ap bare_line h ∙ ap (λ (q : List ℕ). bare_line (unplaced p q x vs)) e ∙ ap (bare_of path x) (values_bare p vs)
line_bare p path way x vs (Err e) f h = tt

-- one more first value, and those behind it
pub firsts_on : (old new : List TraceLine) (l : TraceLine) (all : List BareLine) (path : List ℕ) (s : List Entry) (v i j c : ℕ) → j ≡ suc i → i < c
    → new ≡ old ++ l ∷ [] → map bare_view old ++ first_lines path s (v + i) (suc i) (c - i) ≡ all
    → bare_view l ∷ [] ≡ first_lines path s (v + i) j 1
    → map bare_view new ++ first_lines path s (v + j) (suc j) (c - j) ≡ all
firsts_on old new l all path s v i j c q h n e f =
    let left : c - i ≡ suc (c - j) = omega (arith, q, h) in
    let next : v + j ≡ suc (v + i) = omega (arith, q) in
    let rest : List BareLine = first_lines path s (suc (v + i)) (suc j) (c - j) in
    ap (λ ls. map bare_view ls ++ first_lines path s (v + j) (suc j) (c - j)) n
    ∙ ap (λ ls. ls ++ first_lines path s (v + j) (suc j) (c - j)) (map_append bare_view old (l ∷ []))
    ∙ ap (λ k. (map bare_view old ++ bare_view l ∷ []) ++ first_lines path s k (suc j) (c - j)) next
    ∙ ap (λ ls. (map bare_view old ++ ls) ++ rest) f
    ∙ append_assoc (map bare_view old) (first_lines path s (v + i) j 1) rest
    ∙ ap (λ m. map bare_view old ++ first_lines path s (v + i) j m) (sym left)
    ∙ ap (λ k. map bare_view old ++ first_lines path s (v + i) k (c - i)) q ∙ e
