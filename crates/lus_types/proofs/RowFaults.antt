-- What is noted of a row.
use Rattle.std.proofs.Common.{◌≡◌, ℕ, Bool, List, [], ◌++◌, length, map, ap, ◌∙◌, sym, subst, Option, Some, None}
use Rattle.std.specs.Prelude.{slice_get, option_map}
use Rattle.std.proofs.lemmas.Option.{slice_get-map}
use Rattle.lus_tree.specs.Tree.{Component, Program}
use Rattle.lus_tree.specs.Reason.{Refused}
use Rattle.lus_meaning.specs.ClockFaults.{components}
use Rattle.lus_meaning.specs.NameFaults.{recursion_faults}
use Rattle.name_table.specs.Names.{number_of}
use Rattle.lus_types.specs.declared.marks.Row.{Row as CodeRow}
use Rattle.lus_types.specs.declared.recursion.Graph.{Graph}
use Rattle.lus_types.specs.Called.{marked_faults, names_behind, row_of}
use Rattle.lus_types.specs.Circles.{IsGraph, IsLeading}
use Rattle.lus_scopes.specs.Least.{IsLeast, noted_all}
use Rattle.lus_types.specs.Marks.{Row, link_view, row_view}
use Rattle.lus_scopes.proofs.Leasts.{least_noted_all}
use Rattle.lus_types.proofs.CircleFaults.{faults_found}

in_some : (a b : Row) → Some a ≡ Some b → a ≡ b
in_some a b e = ap of e
  where
    of : Option Row → Row
    of None = a
    of (Some r) = r

module _ (p : Program) (g : Graph) (is : IsGraph p g) (i : ℕ) (n : Component) (at : slice_get (components p) i
    ≡ Some n) (o : Option Refused) (fs : List Refused) (least : IsLeast o fs) where
  row_is : (r : CodeRow) → slice_get g.rows.items i ≡ Some r → row_view r ≡ row_of p (names_behind [] p) n
  row_is r e = in_some (row_view r) (row_of p (names_behind [] p) n)
      (ap (option_map row_view) (sym e) ∙ (sym (slice_get-map row_view g.rows.items i) ∙ (ap (λ rs. slice_get rs i) is.rows
      ∙ (slice_get-map (row_of p (names_behind [] p)) (components p) i ∙ ap (option_map (row_of p (names_behind [] p))) at))))

  pub row_noted : (r : CodeRow) → slice_get g.rows.items i ≡ Some r → (marks : List Bool) → IsLeading (map row_view g.rows.items) g.count r.from marks
      → (q : Option Refused) → q ≡ noted_all o (marked_faults marks (map link_view r.links.items)) → IsLeast q (fs ++ recursion_faults p n)
  row_noted r e marks l q f =
      let s : row_view r ≡ row_of p (names_behind [] p) n = row_is r e in
      let m : IsLeading (map (row_of p (names_behind [] p)) (components p)) (length (names_behind [] p)) (number_of (names_behind [] p) n.name.text) marks =
      subst (λ (k : ℕ). IsLeading (map (row_of p (names_behind [] p)) (components p)) (length (names_behind [] p)) k marks) (ap (λ (v : Row). v.0) s)
      (subst (λ (c : ℕ). IsLeading (map (row_of p (names_behind [] p)) (components p)) c r.from marks) is.count
      (subst (λ (rs : List Row). IsLeading rs g.count r.from marks) is.rows l)) in
      let same : marked_faults marks (map link_view r.links.items) ≡ recursion_faults p n = ap (λ (v : Row). marked_faults marks v.1) s
      ∙ faults_found p i n marks m at in
      rw (f, ← same) (least_noted_all o fs (marked_faults marks (map link_view r.links.items)) least)
