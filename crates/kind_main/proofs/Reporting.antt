-- The lines of the properties that break.
use Rattle.std.proofs.Common.{arith, ◌≡◌, ◌<◌, ◌≤◌, ◌+◌, ℕ, suc, List, [], ◌∷◌, ◌++◌, Option, Some, None, length, get_or, drop, map, refl, sym, ap, ◌∙◌, append_assoc, append-nil, add-one, subst}
use Rattle.std.proofs.lemmas.List.{map-append}
use Rattle.kind_main.specs.Lines.{Line}
use Rattle.kind_main.specs.Report.{said, report_from}
use Rattle.kind_main.proofs.Lists.{dropped, dropped_all}

-- ---- a loop over the properties

module _ {X : Type 0} (label : X → List ℕ) (properties : List X) (hits : ℕ → Option ℕ) where
  -- the lines of the properties from this number on
  abbrev pub report_left : ℕ → List Line
  report_left i = report_from i (map label (drop i properties)) hits

  -- What was made of the first properties, and the number of the next one.
  pub record Reporting (lines : List Line) (number index : ℕ) : Type 0 where
    pub go : lines ++ report_left index ≡ report_from 0 (map label properties) hits
    pub counted : number ≡ index

  pub report-start : Reporting [] 0 0
  report-start = record { go = refl; counted = refl }

  pub report-next : (lines grown : List Line) (number next index : ℕ) (x : X) → index < length properties → x ≡ get_or properties index x →
      next ≡ number + 1 → grown ≡ lines ++ said (label x) (hits number) → Reporting lines number index → Reporting grown next (index + 1)
  report-next lines grown number next index x lt is n g r =
      let cons : report_left index ≡ said (label x) (hits index) ++ report_left (index + 1) =
      ap (λ l. report_from index (map label l) hits) (dropped properties index x lt is)
      ∙ ap (λ k. said (label x) (hits index) ++ report_from k (map label (drop (index + 1) properties)) hits) (sym (add-one index)) in
      let same : number ≡ index = r.counted in
      record {
        go = ap (λ l. l ++ report_left (index + 1)) (g ∙ ap (λ k. lines ++ said (label x) (hits k)) same)
            ∙ (append_assoc lines (said (label x) (hits index)) (report_left (index + 1)) ∙ (ap (λ l. lines ++ l) (sym cons) ∙ r.go));
        counted = n ∙ ap (λ k. k + 1) same;
      }

  pub report-end : (lines : List Line) (number index : ℕ) → length properties ≤ index → Reporting lines number index →
      lines ≡ report_from 0 (map label properties) hits
  report-end lines number index le r =
      sym (append-nil lines) ∙ (ap (λ l. lines ++ report_from index (map label l) hits) (sym (dropped_all properties index le)) ∙ r.go)

-- a line that was pushed
pub pushed-line : {Z : Type 0} (bytes : Z → Line) (before now : List Z) (line : Z) (text : Line) → now ≡ before ++ line ∷ []
    → bytes line ≡ text → map bytes now ≡ map bytes before ++ text ∷ []
pushed-line bytes before now line text e is = ap (map bytes) e ∙ map-append bytes before (line ∷ []) ∙ ap (λ (t : Line). map bytes before ++ t ∷ []) is
