-- What gives a name its value is among the sources of a frame.
use Rattle.std.proofs.Common.{◌≡◌, Bool, true, false, ◌||◌, cond, List, [], ◌∷◌, map, length, refl, ap, ◌∙◌, sym, subst, arith, Option, Some, None, unwrap_or}
use Rattle.std.specs.Prelude.{find}
use Rattle.std.specs.List.{AllByRecursion}
use Rattle.std.specs.Map.{lookup}
use Rattle.std.specs.Str.{bytes_eq}
use Rattle.std.proofs.lemmas.Bool.{true≢false, false≢true}
use Rattle.std.proofs.lemmas.Option.{none-some}
use Rattle.lus_tree.specs.Tree.{Name, Variable}
use Rattle.lus_meaning.specs.Scene.{clock_from}
use Rattle.lus_meaning.specs.Depends.{named_in}
use Rattle.lus_meaning.specs.WellMade.{AreDistinct}
use Rattle.lus_meaning.proofs.Exists.{self_bytes}
use Rattle.lus_meaning.proofs.Unique.{same_bytes}
use Rattle.slot_values.specs.Resolved.{Numbering}
use Rattle.slot_sources.specs.Source.{Source, listed}
use Rattle.slot_sources.specs.Sources.{NameSources, paired, name_source, switch_of}
use Rattle.row_laws.proofs.Given.{source_names}

-- names with what is given for them
abbrev pub Finds : {A : Type 0} → List (Name × A) → Name × A → Type 0
Finds p q = lookup (bytes_eq q.0) p ≡ Some q.1

abbrev pub firsts : {A : Type 0} → List (Name × A) → List Name
firsts p = map (λ q. q.0) p

finds_later : {A : Type 0} (x : Name) (s : A) (p q : List (Name × A)) → named_in x (firsts q) ≡ false → AllByRecursion (Finds p) q →
    AllByRecursion (Finds ((x, s) ∷ p)) q
finds_later x s p [] e a = tt
finds_later x s p (k ∷ q) e a = (go (bytes_eq x k.0) refl (bytes_eq k.0 x) refl e, finds_later x s p q (rest (bytes_eq x k.0) e) a.1)
  where
    rest : (c : Bool) → (c || named_in x (firsts q)) ≡ false → named_in x (firsts q) ≡ false
    rest true h = absurd (true≢false h)
    rest false h = h

    go : (c : Bool) → bytes_eq x k.0 ≡ c → (g : Bool) → bytes_eq k.0 x ≡ g → (c || named_in x (firsts q)) ≡ false → Finds ((x, s) ∷ p) k
    go true m g l h = absurd (true≢false h)
    go false m true l h = absurd (false≢true (sym m ∙ ap (bytes_eq x) (same_bytes k.0 x l) ∙ self_bytes x))
    go false m false l h = rw l a.0

pub all_found : {A : Type 0} (p : List (Name × A)) → AreDistinct (firsts p) → AllByRecursion (Finds p) p
all_found [] d = tt
all_found (q ∷ p) d = (rw (self_bytes q.0) refl, finds_later q.0 q.1 p p d.0 (all_found p d.1))

module _ (P : Source → Type 0) where
  variable_has : (g : Numbering) (es : NameSources) (x : Name) (e : Source) → lookup (bytes_eq x) es ≡ Some e → (vs : List Variable) →
      named_in x (map (λ v. v.name.text) vs) ≡ true → AllByRecursion P (map (name_source g es) vs) → P e
  variable_has g es x e h [] k a = absurd (false≢true k)
  variable_has g es x e h (v ∷ vs) k a = go (bytes_eq x v.name.text) refl k (λ l. variable_has g es x e h vs l a.1)
    where
      go : (c : Bool) → bytes_eq x v.name.text ≡ c → (c || named_in x (map (λ v. v.name.text) vs)) ≡ true →
          (named_in x (map (λ v. v.name.text) vs) ≡ true → P e) → P e
      go true m k r =
          subst P (ap (λ o. unwrap_or o (listed (switch_of g (clock_from v.clock)))) (ap (λ y. lookup (bytes_eq y) es) (sym (same_bytes x v.name.text m)) ∙ h)) a.0
      go false m k r = r k

  each_has : (g : Numbering) (es : NameSources) (vs : List Variable) → AllByRecursion P (map (name_source g es) vs) → (qs : NameSources) →
      AllByRecursion (Finds es) qs → AllByRecursion (λ x. named_in x (map (λ v. v.name.text) vs) ≡ true) (source_names qs) →
      AllByRecursion (λ (q : Name × Source). P q.1) qs
  each_has g es vs a [] f d = tt
  each_has g es vs a (q ∷ qs) f d = (variable_has g es q.0 q.1 f.0 vs d.0 a, each_has g es vs a qs f.1 d.1)

  -- where each name is given once and declared, what all sources of names have, has all that gives names
  pub all_given : (g : Numbering) (es : NameSources) (vs : List Variable) → AreDistinct (source_names es) →
      AllByRecursion (λ x. named_in x (map (λ v. v.name.text) vs) ≡ true) (source_names es) → AllByRecursion P (map (name_source g es) vs) →
      AllByRecursion (λ (q : Name × Source). P q.1) es
  all_given g es vs d e a = each_has g es vs a es (all_found es d) e

  -- of pairs the second ones
  pub unpaired : {A : Type 0} (w : A → Source) (xs : List Name) (rs : List A) → length rs ≡ length xs →
      AllByRecursion (λ (q : Name × Source). P q.1) (paired xs (map w rs)) → AllByRecursion (λ r. P (w r)) rs
  unpaired w xs [] h a = tt
  unpaired w [] (r ∷ rs) h a = absurd (omega (arith, h))
  unpaired w (x ∷ xs) (r ∷ rs) h a = (a.0, unpaired w xs rs (omega (arith, h)) a.1)

  pub unmapped : {A : Type 0} (w : A → Source) (xs : List A) → AllByRecursion P (map w xs) → AllByRecursion (λ x. P (w x)) xs
  unmapped w [] a = tt
  unmapped w (x ∷ xs) a = (a.0, unmapped w xs a.1)

-- what is found among what has something has it
pub find_has : {A : Type 0} (P : A → Type 0) (t : A → Bool) (xs : List A) (x : A) → AllByRecursion P xs → find t xs ≡ Some x → P x
find_has P t [] x a e = absurd (none-some x e)
find_has {A} P t (y ∷ xs) x a e = go (t y) e (find_has P t xs x a.1)
  where
    inner : (z : A) → Some y ≡ Some z → y ≡ z
    inner z h = ap back h
      where
        back : Option A → A
        back None = y
        back (Some q) = q

    go : (c : Bool) → cond c (Some y) (find t xs) ≡ Some x → (find t xs ≡ Some x → P x) → P x
    go true h r = subst P (inner x h) a.0
    go false h r = r h
