-- In a checked program the names of declarations stand once each, and each declaration is found by its place.
use Rattle.std.proofs.Common.{◌≡◌, suc, Bool, true, false, ◌||◌, cond, List, [], ◌∷◌, ◌++◌, length, map, get_or, Option, Some, None, refl, sym, ap, ◌∙◌, subst}
use Rattle.std.specs.Prelude.{MatchOption, unwrap_or}
use Rattle.std.specs.Option.{IsSome}
use Rattle.std.specs.Str.{bytes_eq}
use Rattle.std.proofs.lemmas.Bool.{false≢true}
use Rattle.std.proofs.lemmas.Option.{none-some}
use Rattle.lus_tree.specs.Reason.{name_twice}
use Rattle.lus_tree.specs.Tree.{Name, text_of, Program, declared_constant, declared_node, declared_contract}
use Rattle.lus_meaning.specs.ClockFaults.{components}
use Rattle.lus_meaning.specs.Depends.{named_in}
use Rattle.lus_meaning.specs.Faults.{words_twice}
use Rattle.lus_meaning.specs.NameFaults.{declaration_word, declaration_faults, typing_faults}
use Rattle.lus_meaning.specs.Program.{component_named, first_of_two}
use Rattle.lus_meaning.specs.Refusals.{IsChecked}
use Rattle.lus_meaning.specs.Scene.{no_component}
use Rattle.lus_meaning.specs.WellMade.{AreDistinct}
use Rattle.lus_meaning.proofs.NamesOnce.{none_twice, no_parts, empty_of}
use Rattle.name_table.specs.Names.{number_of}
use Rattle.lus_limits.specs.Instances.{callee}
use Rattle.sys_tables.specs.Tabled.{names_of, place_of}

not_among : (y : Name) (ds : Program) → named_in y (map text_of (map declaration_word ds)) ≡ false → named_in y (names_of (components ds)) ≡ false
not_among y [] e = refl
not_among y (declared_constant k ∷ ds) e = not_among y ds (later (bytes_eq y k.name.text) e)
  where
    later : (b : Bool) → (b || named_in y (map text_of (map declaration_word ds))) ≡ false → named_in y (map text_of (map declaration_word ds)) ≡ false
    later true h = absurd (false≢true (sym h))
    later false h = h
not_among y (declared_node n ∷ ds) e = each (bytes_eq y n.name.text) e (not_among y ds)
  where
    each : (b : Bool) → (b || named_in y (map text_of (map declaration_word ds))) ≡ false
        → (named_in y (map text_of (map declaration_word ds)) ≡ false → named_in y (names_of (components ds)) ≡ false)
        → (b || named_in y (names_of (components ds))) ≡ false
    each true h r = absurd (false≢true (sym h))
    each false h r = r h
not_among y (declared_contract n ∷ ds) e = each (bytes_eq y n.name.text) e (not_among y ds)
  where
    each : (b : Bool) → (b || named_in y (map text_of (map declaration_word ds))) ≡ false
        → (named_in y (map text_of (map declaration_word ds)) ≡ false → named_in y (names_of (components ds)) ≡ false)
        → (b || named_in y (names_of (components ds))) ≡ false
    each true h r = absurd (false≢true (sym h))
    each false h r = r h

names_distinct : (ds : Program) → AreDistinct (map text_of (map declaration_word ds)) → AreDistinct (names_of (components ds))
names_distinct [] d = tt
names_distinct (declared_constant k ∷ ds) d = names_distinct ds d.1
names_distinct (declared_node n ∷ ds) d = (not_among n.name.text ds d.0, names_distinct ds d.1)
names_distinct (declared_contract n ∷ ds) d = (not_among n.name.text ds d.0, names_distinct ds d.1)

declared_once : (p : Program) → IsChecked p → AreDistinct (names_of (components p))
declared_once p c = names_distinct p (none_twice name_twice (map declaration_word p) none)
  where
    none : words_twice name_twice (map declaration_word p) ≡ []
    none = (no_parts (words_twice name_twice (map declaration_word p)) (declaration_faults p 0 p)
        (no_parts _ (words_twice name_twice (map declaration_word p) ++ declaration_faults p 0 p) (empty_of (typing_faults p) c.rules.clocked.typed)).1).0

-- ---- as the code has them

module _ (p : Program) (c : IsChecked p) (words : List Name) (same : words ≡ names_of (components p)) where
  pub words_there : (o : Option (List Name)) → MatchOption o (AreDistinct words → ⊥) (λ t. AreDistinct words × (t ≡ words)) → IsSome o
  words_there None h = absurd (h (subst AreDistinct (sym same) (declared_once p c)))
  words_there (Some t) h = refl

  pub words_numbered : (o : Option (List Name)) (t : List Name) → MatchOption o (AreDistinct words → ⊥) (λ t. AreDistinct words × (t ≡ words)) → o ≡ Some t
      → t ≡ names_of (components p)
  words_numbered None t h e = absurd (none-some t e)
  words_numbered (Some s) t h e = sym (ap (λ o. unwrap_or o []) e) ∙ h.1 ∙ same

-- a declaration is found by its place
pub callee_found : (p : Program) (x : Name) → get_or (components p) (place_of p x) no_component ≡ callee p x
callee_found [] x = refl
callee_found (declared_constant c ∷ ds) x = callee_found ds x
callee_found (declared_node n ∷ ds) x = go (bytes_eq x n.name.text) (callee_found ds x)
  where
    go : (b : Bool) → get_or (components ds) (place_of ds x) no_component ≡ callee ds x
        → get_or (n ∷ components ds) (cond b 0 (suc (place_of ds x))) no_component
        ≡ unwrap_or (first_of_two (cond b (Some n) None) (component_named ds x)) no_component
    go true h = refl
    go false h = h
callee_found (declared_contract n ∷ ds) x = go (bytes_eq x n.name.text) (callee_found ds x)
  where
    go : (b : Bool) → get_or (components ds) (place_of ds x) no_component ≡ callee ds x
        → get_or (n ∷ components ds) (cond b 0 (suc (place_of ds x))) no_component
        ≡ unwrap_or (first_of_two (cond b (Some n) None) (component_named ds x)) no_component
    go true h = refl
    go false h = h

-- what is not among names has the place past the last one
pub not_there : (names : List Name) (x : Name) → named_in x names ≡ false → length names ≡ number_of names x
not_there [] x e = refl
not_there (y ∷ ys) x e = go (bytes_eq x y) e (not_there ys x)
  where
    go : (b : Bool) → (b || named_in x ys) ≡ false → (named_in x ys ≡ false → length ys ≡ number_of ys x)
        → suc (length ys) ≡ cond b 0 (suc (number_of ys x))
    go true h r = absurd (false≢true (sym h))
    go false h r = ap suc (r h)
