-- One more name, noted with what it is.
use Rattle.std.proofs.Common.{◌≡◌, ℕ, ◌+◌, ◌<◌, ◌≤◌, Bool, true, false, cond, List, [], ◌∷◌, ◌++◌, map, drop, length, get_or, Option, Some, None, option_map, refl, ap, sym, ◌∙◌, append_assoc}
use Rattle.std.specs.Option.{option_or}
use Rattle.std.specs.Str.{bytes_eq}
use Rattle.std.specs.declared.string.String.{String}
use Rattle.std.proofs.lemmas.List.{drop_all, map-append}
use Rattle.indexmap.specs.IndexMap.{IndexMap}
use Rattle.lus_tree.specs.Tree.{Name, Program}
use Rattle.lus_tree.specs.View.{decl_view}
use Rattle.lus_tree.specs.declared.declaration.Decl.{Decl}
use Rattle.lus_meaning.specs.Scope.{Entry}
use Rattle.lus_meaning.proofs.Lists.{append_none}
use Rattle.lus_scopes.proofs.Loops.{dropped}
use Rattle.lus_scopes.specs.declared.scope.Meaning.{Meaning}
use Rattle.lus_scopes.specs.declared.scope.Meaning.TheVariants.{Stream, Constant}
use Rattle.lus_scopes.specs.Scopes.{known_as, meaning_view}
use Rattle.lus_types.specs.declared.found.Found.{Found}
use Rattle.lus_types.specs.Declarations.{after}
use Rattle.lus_types.specs.Names.{Finds, Known, found_in, found_view, known_among, known_from, names_from, names_of}

abbrev meant : Meaning → ℕ → Known
meant m i = record { role = (meaning_view m true).role; number = i; sort = (meaning_view m true).sort }

seen : (m : Meaning) (i : ℕ) (x : Name) → known_from i (meaning_view m (known_as m false true) ∷ []) x
    ≡ cond (bytes_eq x (meaning_view m false).word.text) (Some (meant m i)) None
seen (Stream r p) i x = refl
seen (Constant d q v) i x = refl

viewed : (o : Option Found) (b : Bool) (f : Found)
    → option_map found_view (option_or o (cond b (Some f) None)) ≡ option_or (option_map found_view o) (cond b (Some (found_view f)) None)
viewed (Some g) b f = refl
viewed None true f = refl
viewed None false f = refl

pub one_noted : (m : Meaning) (i : ℕ) (x y : Name) (f : Found) (old new : Option Found) → y ≡ (meaning_view m false).word.text
    → found_view f ≡ meant m i → new ≡ option_or old (cond (bytes_eq x y) (Some f) None)
    → option_map found_view new ≡ option_or (option_map found_view old) (known_from i (meaning_view m (known_as m false true) ∷ []) x)
one_noted m i x y f old new w v n =
    ap (option_map found_view) n ∙ viewed old (bytes_eq x y) f
    ∙ rw (w, v) (ap (option_or (option_map found_view old)) (sym (seen m i x)))

-- ---- the tables of declarations

-- those that are made, and those to come, are all
abbrev pub OnTables : {A S : Type 0} → Program → List Decl → ℕ → ℕ → List (IndexMap (String A) Found S) → Type 0
OnTables p ds i k ts = (x : Name) →
    map (λ t. found_in t x) ts ++ map (λ es. known_among es x) (names_from p k (map decl_view (drop i ds)))
    ≡ map (λ es. known_among es x) (names_from p 0 (map decl_view ds))

pub tables_next : {A S : Type 0} (p : Program) (ds : List Decl) (i : ℕ) (d : Decl) (j k : ℕ) (ts us : List (IndexMap (String A) Found S))
    (t : IndexMap (String A) Found S) → i < length ds → d ≡ get_or ds i d → OnTables p ds i j ts → k ≡ after j (decl_view d)
    → Finds t (names_of p j (decl_view d)) → us ≡ ts ++ t ∷ [] → OnTables p ds (i + 1) k us
tables_next p ds i d j k ts us t l g w e n m = λ x.
    let all : List (List Entry) → List (Option Known) = λ ns. map (λ es. known_among es x) ns in
    let rest : List (Option Known) = all (names_from p k (map decl_view (drop (i + 1) ds))) in
    let here : all (names_from p j (map decl_view (drop i ds))) ≡ found_in t x ∷ rest =
    ap (λ zs. all (names_from p j (map decl_view zs))) (dropped ds i d l g)
    ∙ rw (← e) (ap (λ (o : Option Known). o ∷ rest) (sym (n x))) in
    ap (λ vs. map (λ t. found_in t x) vs ++ rest) m
    ∙ ap (λ (vs : List (Option Known)). vs ++ rest) (map-append (λ t. found_in t x) ts (t ∷ []))
    ∙ append_assoc (map (λ t. found_in t x) ts) (found_in t x ∷ []) rest
    ∙ ap (λ (vs : List (Option Known)). map (λ t. found_in t x) ts ++ vs) (sym here) ∙ w x

pub tables_end : {A S : Type 0} (p : Program) (ds : List Decl) (i k : ℕ) (ts : List (IndexMap (String A) Found S)) → length ds ≤ i
    → OnTables p ds i k ts
    → (x : Name) → map (λ t. found_in t x) ts ≡ map (λ es. known_among es x) (names_from p 0 (map decl_view ds))
tables_end p ds i k ts l w = λ x.
    sym (append_none (map (λ t. found_in t x) ts))
    ∙ ap (λ zs. map (λ t. found_in t x) ts ++ map (λ es. known_among es x) (names_from p k (map decl_view zs))) (sym (drop_all i ds l)) ∙ w x
