-- The terms of a contract have the marks that its text gives.
use Rattle.std.proofs.Common.{◌≡◌, ℕ, ◌+◌, List, [], ◌∷◌, ◌++◌, map, flat_map, length, length-append, append_assoc, append-nil, refl, sym, ap, ◌∙◌, arith}
use Rattle.std.proofs.lemmas.Grind.{flat_map-append}
use Rattle.std.proofs.lemmas.List.{map-append}
use Rattle.lus_tree.specs.Tree.{Name, Labelled, ContractStatement, assume, guarantee, ghost_variable, constant, mode, «import»}
use Rattle.lus_meaning.specs.Scene.{Instance}
use Rattle.lus_meaning.specs.Contract.{Kind, guaranteed, ensured, assumed, Property, Test, item, under, ModeTerms, Terms, no_terms, imported, imported_mode, mode_terms, terms_after}
use Rattle.lus_meaning.proofs.Exists.{length_mapped}
use Rattle.lus_properties.specs.declared.items.ItemKind.{ItemKind}
use Rattle.lus_properties.specs.declared.items.ItemKind.TheVariants.{Assumptions, Guarantees, Ensures, Modes}
use Rattle.lus_properties.specs.Marks.{Mark, mark_of, labelled_mark, behind, item_marks, contract_marks}

abbrev pub ensures_of : List ModeTerms → List Property
ensures_of ms = flat_map (λ m. m.ensures_each) ms

abbrev pub marks : List Property → List Mark
marks ps = map mark_of ps

-- ---- lists

pub marks_imported : (k : ℕ) (ps : List Property) → marks (map (imported k) ps) ≡ map (behind k) (marks ps)
marks_imported k [] = refl
marks_imported k (p ∷ ps) = ap (λ ms. behind k (mark_of p) ∷ ms) (marks_imported k ps)

import_first : (k : ℕ) (ps qs : List Property) (ms : List Mark) → marks qs ≡ ms → marks (map (imported k) ps ++ qs) ≡ map (behind k) (marks ps) ++ ms
import_first k ps qs ms e = map-append mark_of (map (imported k) ps) qs ∙ rw (marks_imported k ps, e) refl

marks_under : (i : Instance) (ms : List ModeTerms) (asked : Test) (k : Kind) (es : List Labelled)
    → marks (map (λ e. under asked (item i ms k e)) es) ≡ map (labelled_mark k) es
marks_under i ms asked k [] = refl
marks_under i ms asked k (e ∷ es) = ap (λ xs. labelled_mark k e ∷ xs) (marks_under i ms asked k es)

ensures_imported : (k : ℕ) (c : Name) (ms : List ModeTerms) → ensures_of (map (imported_mode k c) ms) ≡ map (imported k) (ensures_of ms)
ensures_imported k c [] = refl
ensures_imported k c (m ∷ ms) =
    ap (λ xs. map (imported k) m.ensures_each ++ xs) (ensures_imported k c ms)
    ∙ sym (map-append (imported k) m.ensures_each (ensures_of ms))

ensures_both : (ms ns : List ModeTerms) → marks (ensures_of (ms ++ ns)) ≡ marks (ensures_of ms) ++ marks (ensures_of ns)
ensures_both ms ns = ap marks (flat_map-append (λ (m : ModeTerms). m.ensures_each) ms ns) ∙ map-append mark_of (ensures_of ms) (ensures_of ns)

-- ---- a contract

module _ (i : Instance) (sub : ℕ → Terms) where
  assumes_after : (ms : List ModeTerms) (cs : List ContractStatement)
      → marks (terms_after i sub ms cs).assumes ≡ contract_marks Assumptions (λ k. marks (sub k).assumes) cs
  assumes_after ms [] = refl
  assumes_after ms (assume l ∷ cs) = ap (λ xs. labelled_mark assumed l ∷ xs) (assumes_after ms cs)
  assumes_after ms (guarantee l ∷ cs) = assumes_after ms cs
  assumes_after ms (ghost_variable v e ∷ cs) = assumes_after ms cs
  assumes_after ms (constant c ∷ cs) = assumes_after ms cs
  assumes_after ms (mode m rs es ∷ cs) = assumes_after (ms ++ mode_terms i ms m.text rs es ∷ []) cs
  assumes_after ms («import» k c as_ xs ∷ cs) =
      let ns : List ModeTerms = ms ++ map (imported_mode k c.text) (sub k).modes in
      import_first k (sub k).assumes (terms_after i sub ns cs).assumes (contract_marks Assumptions (λ k. marks (sub k).assumes) cs) (assumes_after ns cs)

  guarantees_after : (ms : List ModeTerms) (cs : List ContractStatement)
      → marks (terms_after i sub ms cs).guarantees ≡ contract_marks Guarantees (λ k. marks (sub k).guarantees) cs
  guarantees_after ms [] = refl
  guarantees_after ms (assume l ∷ cs) = guarantees_after ms cs
  guarantees_after ms (guarantee l ∷ cs) = ap (λ xs. labelled_mark guaranteed l ∷ xs) (guarantees_after ms cs)
  guarantees_after ms (ghost_variable v e ∷ cs) = guarantees_after ms cs
  guarantees_after ms (constant c ∷ cs) = guarantees_after ms cs
  guarantees_after ms (mode m rs es ∷ cs) = guarantees_after (ms ++ mode_terms i ms m.text rs es ∷ []) cs
  guarantees_after ms («import» k c as_ xs ∷ cs) =
      let ns : List ModeTerms = ms ++ map (imported_mode k c.text) (sub k).modes in
      import_first k (sub k).guarantees (terms_after i sub ns cs).guarantees (contract_marks Guarantees (λ k. marks (sub k).guarantees) cs)
      (guarantees_after ns cs)

  abbrev ensured_in : List ContractStatement → List Mark
  ensured_in cs = contract_marks Ensures (λ k. marks (ensures_of (sub k).modes)) cs

  ensures_after : (ms : List ModeTerms) (cs : List ContractStatement)
      → marks (ensures_of (terms_after i sub ms cs).modes) ≡ marks (ensures_of ms) ++ ensured_in cs
  ensures_after ms [] = sym (append-nil (marks (ensures_of ms)))
  ensures_after ms (assume l ∷ cs) = ensures_after ms cs
  ensures_after ms (guarantee l ∷ cs) = ensures_after ms cs
  ensures_after ms (ghost_variable v e ∷ cs) = ensures_after ms cs
  ensures_after ms (constant c ∷ cs) = ensures_after ms cs
  ensures_after ms (mode m rs es ∷ cs) =
      let t : ModeTerms = mode_terms i ms m.text rs es in
      let here : marks (ensures_of (t ∷ [])) ≡ map (labelled_mark (ensured m.text)) es =
      ap marks (append-nil t.ensures_each) ∙ marks_under i ms t.requires_all (ensured m.text) es in
      ensures_after (ms ++ t ∷ []) cs ∙ ap (λ xs. xs ++ ensured_in cs) (ensures_both ms (t ∷ []))
      ∙ append_assoc (marks (ensures_of ms)) (marks (ensures_of (t ∷ []))) (ensured_in cs)
      ∙ ap (λ xs. marks (ensures_of ms) ++ (xs ++ ensured_in cs)) here
  ensures_after ms («import» k c as_ xs ∷ cs) =
      let ns : List ModeTerms = map (imported_mode k c.text) (sub k).modes in
      let here : marks (ensures_of ns) ≡ map (behind k) (marks (ensures_of (sub k).modes)) =
      ap marks (ensures_imported k c.text (sub k).modes) ∙ marks_imported k (ensures_of (sub k).modes) in
      ensures_after (ms ++ ns) cs ∙ ap (λ xs. xs ++ ensured_in cs) (ensures_both ms ns)
      ∙ append_assoc (marks (ensures_of ms)) (marks (ensures_of ns)) (ensured_in cs)
      ∙ ap (λ xs. marks (ensures_of ms) ++ (xs ++ ensured_in cs)) here

  -- as many modes as there are marks of them, where imports have as many
  modes_after : (f : ℕ → List Mark) → ((k : ℕ) → length (sub k).modes ≡ length (f k)) → (ms : List ModeTerms) (cs : List ContractStatement)
      → length (terms_after i sub ms cs).modes ≡ length ms + length (contract_marks Modes f cs)
  modes_after f h ms [] = omega arith
  modes_after f h ms (assume l ∷ cs) = modes_after f h ms cs
  modes_after f h ms (guarantee l ∷ cs) = modes_after f h ms cs
  modes_after f h ms (ghost_variable v e ∷ cs) = modes_after f h ms cs
  modes_after f h ms (constant c ∷ cs) = modes_after f h ms cs
  modes_after f h ms (mode m rs es ∷ cs) =
      let ns : List ModeTerms = mode_terms i ms m.text rs es ∷ [] in
      let r : length (terms_after i sub (ms ++ ns) cs).modes ≡ length (ms ++ ns) + length (contract_marks Modes f cs) = modes_after f h (ms ++ ns) cs in
      let a : length (ms ++ ns) ≡ length ms + 1 = length-append ms ns in
      omega (arith, r, a)
  modes_after f h ms («import» k c as_ xs ∷ cs) =
      let ns : List ModeTerms = map (imported_mode k c.text) (sub k).modes in
      let r : length (terms_after i sub (ms ++ ns) cs).modes ≡ length (ms ++ ns) + length (contract_marks Modes f cs) = modes_after f h (ms ++ ns) cs in
      let a : length (ms ++ ns) ≡ length ms + length ns = length-append ms ns in
      let b : length ns ≡ length (sub k).modes = length_mapped (imported_mode k c.text) (sub k).modes in
      let d : length (map (behind k) (f k)) ≡ length (f k) = length_mapped (behind k) (f k) in
      let e : length (map (behind k) (f k) ++ contract_marks Modes f cs) ≡ length (map (behind k) (f k)) + length (contract_marks Modes f cs) =
      length-append (map (behind k) (f k)) (contract_marks Modes f cs) in
      let g : length (sub k).modes ≡ length (f k) = h k in
      omega (arith, r, a, b, d, e, g)

-- ---- by number

pub alike : (w : ItemKind) (f g : ℕ → List Mark) → ((k : ℕ) → f k ≡ g k) → (cs : List ContractStatement) → contract_marks w f cs ≡ contract_marks w g cs
alike w f g h [] = refl
alike w f g h (c ∷ cs) = rw (go c, alike w f g h cs) refl
  where
    go : (c : ContractStatement) → item_marks w f c ≡ item_marks w g c
    go (assume l) = refl
    go (guarantee l) = refl
    go (ghost_variable v e) = refl
    go (constant c) = refl
    go (mode m rs es) = refl
    go («import» k c as_ xs) = ap (map (behind k)) (h k)

-- terms have these marks of each kind, and as many modes
pub record HasMarks (t : Terms) (f : ItemKind → List Mark) : Type 0 where
  pub assumed : marks t.assumes ≡ f Assumptions
  pub promised : marks t.guarantees ≡ f Guarantees
  pub ensured : marks (ensures_of t.modes) ≡ f Ensures
  pub moded : length t.modes ≡ length (f Modes)

none_less : {x : ℕ} (y : ℕ) → x ≡ 0 + y → x ≡ y
none_less y e = omega arith

pub terms_marked : (i : Instance) (sub : ℕ → Terms) (f : ItemKind → ℕ → List Mark) → ((k : ℕ) → HasMarks (sub k) (λ w. f w k))
    → (cs : List ContractStatement) → HasMarks (terms_after i sub [] cs) (λ w. contract_marks w (f w) cs)
terms_marked i sub f h cs = record {
  assumed = assumes_after i sub [] cs ∙ alike Assumptions (λ k. marks (sub k).assumes) (f Assumptions) (λ k. (h k).assumed) cs;
  promised = guarantees_after i sub [] cs ∙ alike Guarantees (λ k. marks (sub k).guarantees) (f Guarantees) (λ k. (h k).promised) cs;
  ensured = ensures_after i sub [] cs ∙ alike Ensures (λ k. marks (ensures_of (sub k).modes)) (f Ensures) (λ k. (h k).ensured) cs;
  moded = none_less (length (contract_marks Modes (f Modes) cs)) (modes_after i sub (f Modes) (λ k. (h k).moded) [] cs);
}

pub none_marked : HasMarks no_terms (λ w. [])
none_marked = record { assumed = refl; promised = refl; ensured = refl; moded = refl }
