-- A table of names, and one more name.
use Rattle.std.proofs.Common.{◌≡◌, ℕ, Bool, true, false, cond, List, [], ◌∷◌, ◌++◌, map, Option, Some, None, option_map, refl, ap, ◌∙◌, sym}
use Rattle.std.specs.Prelude.{find}
use Rattle.std.specs.Borrow.{Bor}
use Rattle.std.specs.Option.{option_or}
use Rattle.std.specs.Str.{bytes_eq}
use Rattle.std.proofs.lemmas.List.Folds.{find-append}
use Rattle.std.proofs.lemmas.List.{map-append}
use Rattle.indexmap.specs.IndexMap.{IndexMap}
use Rattle.lus_tree.specs.Tree.{Name, Spelled}
use Rattle.lus_meaning.specs.Scope.{Entry}
use Rattle.lus_scopes.specs.declared.scope.Meaning.{Meaning}
use Rattle.lus_scopes.specs.declared.scope.Meaning.TheVariants.{Stream, Constant}
use Rattle.lus_scopes.specs.declared.scope.Entry.{Entry as CodeEntry}
use Rattle.lus_scopes.specs.Meanings.{IsTable, by_name, entry_view, meaning_view}

same_word : (m : Meaning) (b c : Bool) → (meaning_view m b).word ≡ (meaning_view m c).word
same_word (Stream r p) b c = refl
same_word (Constant d q v) b c = refl

mapped : {A B : Type 0} (f : A → B) (o : Option A) (t : Bool) (e : A)
    → option_map f (option_or o (cond t (Some e) None)) ≡ option_or (option_map f o) (cond t (Some (f e)) None)
mapped f (Some a) t e = refl
mapped f None true e = refl
mapped f None false e = refl

pub one_more : {S : Type 0} (es : List CodeEntry) (t u : IndexMap (Bor (List ℕ)) CodeEntry S) (e : CodeEntry) → IsTable es t
    → ((x : Name) → by_name u x ≡ option_or (by_name t x) (cond (bytes_eq x (meaning_view e.meaning false).word.text) (Some e) None))
    → IsTable (es ++ e ∷ []) u
one_more es t u e i n = λ k hidden x.
    let test : Entry → Bool = λ d. bytes_eq x d.word.text in
    let seen : Entry = entry_view k hidden e in
    ap (option_map (entry_view k hidden)) (n x)
    ∙ mapped (entry_view k hidden) (by_name t x) (bytes_eq x (meaning_view e.meaning false).word.text) e
    ∙ ap (λ (o : Option Entry). option_or o (cond (bytes_eq x (meaning_view e.meaning false).word.text) (Some seen) None)) (i k hidden x)
    ∙ ap (λ (w : Spelled). option_or (find test (map (entry_view k hidden) es)) (cond (bytes_eq x w.text) (Some seen) None))
    (same_word e.meaning false _)
    ∙ sym (ap (find test) (map-append (entry_view k hidden) es (e ∷ [])) ∙ find-append test (map (entry_view k hidden) es) (seen ∷ []))
