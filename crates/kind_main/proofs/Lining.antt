-- Lines that are added in a loop.
use Rattle.std.proofs.Common.{◌≡◌, ◌≤◌, ◌<◌, ◌+◌, ℕ, List, [], ◌∷◌, ◌++◌, length, get_or, drop, map, sym, ap, ◌∙◌, append_assoc, append-nil}
use Rattle.std.specs.declared.vec.Vec.{Vec}
use Rattle.std.specs.declared.alloc.Global.{Global}
use Rattle.lus_meaning.specs.Scene.{Instance}
use Rattle.kind_main.specs.declared.outcome.Outcome.{Outcome}
use Rattle.kind_main.specs.Ending.{line_bytes, lines_view}
use Rattle.kind_main.specs.Lines.{Line}
use Rattle.kind_main.specs.Verdicts.{outcome_view, outcomes_view, verdict_lines, verdict_report}
use Rattle.kind_main.proofs.Lists.{dropped, dropped_all}

-- what was added and what is still to come make the whole
add_one : {X : Type 0} (old more rest all grown : List X) → old ++ (more ++ rest) ≡ all → grown ≡ old ++ more → grown ++ rest ≡ all
add_one old more rest all grown e g = ap (λ l. l ++ rest) g ∙ (append_assoc old more rest ∙ e)

nothing_more : {X : Type 0} (old all : List X) → old ++ [] ≡ all → old ≡ all
nothing_more old all e = sym (append-nil old) ∙ e

-- a line and then others
pub line_and_more : (old mid new : List Line) (line text : Line) (more : List Line) → mid ≡ old ++ line ∷ [] → line ≡ text → new ≡ mid
    ++ more → new ≡ old ++ text ∷ more
line_and_more old mid new line text more e f g =
    g ∙ (ap (λ l. l ++ more) e ∙ (append_assoc old (line ∷ []) more ∙ ap (λ (l : Line). old ++ l ∷ more) f))

-- ---- verdicts

module _ {X : Type 0} (place : Instance) (label : X → List ℕ) (properties : List X) (outcomes : List Outcome) where
  abbrev pub report_from : ℕ → List Line
  report_from i = verdict_report place (map label (drop i properties)) (outcomes_view (drop i outcomes))

  pub report_next : (i : ℕ) (p : X) (o : Outcome) → i < length properties → p ≡ get_or properties i p → i < length outcomes → o ≡ get_or outcomes i o
      → (old grown all : List Line) → old ++ report_from i ≡ all → grown ≡ old ++ verdict_lines place (label p) (outcome_view o)
      → grown ++ report_from (i + 1) ≡ all
  report_next i p o a b c d old grown all e g =
      let x : drop i properties ≡ p ∷ drop (i + 1) properties = dropped properties i p a b in
      let y : drop i outcomes ≡ o ∷ drop (i + 1) outcomes = dropped outcomes i o c d in
      let f : report_from i ≡ verdict_lines place (label p) (outcome_view o) ++ report_from (i + 1) =
      ap (λ l. verdict_report place (map label l) (outcomes_view (drop i outcomes))) x
      ∙ ap (λ l. verdict_report place (map label (p ∷ drop (i + 1) properties)) (outcomes_view l)) y in
      add_one old (verdict_lines place (label p) (outcome_view o)) (report_from (i + 1)) all grown (sym (ap (λ l. old ++ l) f) ∙ e) g

  pub report_done : (i : ℕ) → length properties ≤ i → (old all : List Line) → old ++ report_from i ≡ all → old ≡ all
  report_done i le old all e =
      nothing_more old all (sym (ap (λ l. old ++ verdict_report place (map label l) (outcomes_view (drop i outcomes))) (dropped_all properties i le)) ∙ e)

-- ---- lines of a trace

module _ (indent : Line → Line) (trace : List (Vec ℕ Global)) where
  abbrev pub indented_from : ℕ → List Line
  indented_from i = map indent (lines_view (drop i trace))

  pub indented_next : (i : ℕ) (x : Vec ℕ Global) → i < length trace → x ≡ get_or trace i x → (old grown all : List Line)
      → old ++ indented_from i ≡ all → grown ≡ old ++ indent (line_bytes x) ∷ [] → grown ++ indented_from (i + 1) ≡ all
  indented_next i x lt is old grown all e g =
      let f : indented_from i ≡ (indent (line_bytes x) ∷ []) ++ indented_from (i + 1) = ap (λ l. map indent (lines_view l)) (dropped trace i x lt is) in
      add_one old (indent (line_bytes x) ∷ []) (indented_from (i + 1)) all grown (sym (ap (λ l. old ++ l) f) ∙ e) g

  pub indented_done : (i : ℕ) → length trace ≤ i → (old all : List Line) → old ++ indented_from i ≡ all → old ≡ all
  indented_done i le old all e = nothing_more old all (sym (ap (λ l. old ++ map indent (lines_view l)) (dropped_all trace i le)) ∙ e)
