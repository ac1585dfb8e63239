-- Names in a list: distinct names of a list are no more than it has; what a filter keeps; what holds of each item of a list of lists.
use Rattle.std.proofs.Common.{◌≡◌, suc, ◌≤◌, Bool, true, false, cond, ◌||◌, List, [], ◌∷◌, map, flat_map, length, refl, sym, ap, ◌∙◌, arith}
use Rattle.std.specs.Prelude.{filter}
use Rattle.std.specs.List.{AllByRecursion}
use Rattle.std.specs.Str.{bytes_eq}
use Rattle.std.proofs.lemmas.Bool.{false≢true}
use Rattle.lus_tree.specs.Tree.{Name}
use Rattle.lus_meaning.specs.Depends.{named_in}
use Rattle.lus_meaning.specs.WellMade.{AreDistinct}
use Rattle.lus_meaning.proofs.Lists.{all_from, all_from_both, both_parts, or_true, or_left, map_append}
use Rattle.lus_meaning.proofs.Exists.{self_bytes}
use Rattle.lus_meaning.proofs.NamesOnce.{not_nil}
use Rattle.lus_meaning.proofs.Unique.{same_bytes}

-- ---- names

pub other_bytes : (x z : Name) → bytes_eq x z ≡ false → bytes_eq z x ≡ false
other_bytes x z e = go (bytes_eq z x) refl
  where
    go : (c : Bool) → bytes_eq z x ≡ c → c ≡ false
    go true h = absurd (false≢true (sym e ∙ ap (bytes_eq x) (same_bytes z x h) ∙ self_bytes x))
    go false h = refl

no_first : (a b : Bool) → (a || b) ≡ false → a ≡ false
no_first true b e = absurd (false≢true (sym e))
no_first false b e = refl

no_second : (a b : Bool) → (a || b) ≡ false → b ≡ false
no_second true b e = absurd (false≢true (sym e))
no_second false b e = e

pub each_other : (x : Name) (zs : List Name) → named_in x zs ≡ false → AllByRecursion (λ z. bytes_eq z x ≡ false) zs
each_other x [] e = tt
each_other x (z ∷ zs) e =
    (other_bytes x z (no_first (bytes_eq x z) (named_in x zs) e), each_other x zs (no_second (bytes_eq x z) (named_in x zs) e))

pub each_named : (xs : List Name) → AllByRecursion (λ x. named_in x xs ≡ true) xs
each_named [] = tt
each_named (x ∷ xs) = (
  or_left (bytes_eq x x) (named_in x xs) (self_bytes x),
  all_from (λ y. named_in y xs ≡ true) (λ y. named_in y (x ∷ xs) ≡ true)
      (λ y h. or_true (bytes_eq y x) (named_in y xs) h) xs (each_named xs),
)

-- a list without the first place of a name
abbrev without : Name → List Name → List Name
without x [] = []
without x (y ∷ ys) = cond (bytes_eq x y) ys (y ∷ without x ys)

without_length : (x : Name) (ys : List Name) → named_in x ys ≡ true → suc (length (without x ys)) ≡ length ys
without_length x [] e = absurd (false≢true e)
without_length x (y ∷ ys) e = go (bytes_eq x y) e (without_length x ys)
  where
    go : (c : Bool) → (c || named_in x ys) ≡ true → (named_in x ys ≡ true → suc (length (without x ys)) ≡ length ys) → suc
        (length (cond c ys (y ∷ without x ys))) ≡ suc (length ys)
    go true h r = refl
    go false h r = ap suc (r h)

without_named : (x z : Name) (ys : List Name) → bytes_eq z x ≡ false → named_in z ys ≡ true → named_in z (without x ys) ≡ true
without_named x z [] d e = e
without_named x z (y ∷ ys) d e = go (bytes_eq x y) refl e (without_named x z ys d)
  where
    keep : (c : Bool) → (c || named_in z ys) ≡ true → (named_in z ys ≡ true → named_in z (without x ys) ≡ true) → (c || named_in z (without x ys)) ≡ true
    keep true h r = refl
    keep false h r = r h

    go : (c : Bool) → bytes_eq x y ≡ c → (bytes_eq z y || named_in z ys) ≡ true → (named_in z ys ≡ true → named_in z (without x ys) ≡ true)
        → named_in z (cond c ys (y ∷ without x ys)) ≡ true
    go true m h r = ap (λ b. b || named_in z ys) (sym (ap (bytes_eq z) (sym (same_bytes x y m)) ∙ d)) ∙ h
    go false m h r = keep (bytes_eq z y) h r

-- distinct names of a list are no more than it has
pub no_more_names : (xs ys : List Name) → AreDistinct xs → AllByRecursion (λ x. named_in x ys ≡ true) xs → length xs ≤ length ys
no_more_names [] ys d a = omega arith
no_more_names (x ∷ xs) ys d a =
    let rest : AllByRecursion (λ z. named_in z (without x ys) ≡ true) xs =
    all_from_both (λ z. bytes_eq z x ≡ false) (λ z. named_in z ys ≡ true) (λ z. named_in z (without x ys) ≡ true)
    (λ z o h. without_named x z ys o h) xs (each_other x xs d.0) a.1 in
    let r : length xs ≤ length (without x ys) = no_more_names xs (without x ys) d.1 rest in
    let e : suc (length (without x ys)) ≡ length ys = without_length x ys a.0 in
    omega arith

-- ---- lists

pub all_mapped : {X Y : Type 0} (P : Y → Type 0) (g : X → Y) (xs : List X) → AllByRecursion (λ x. P (g x)) xs → AllByRecursion P (map g xs)
all_mapped P g [] a = tt
all_mapped P g (x ∷ xs) a = (a.0, all_mapped P g xs a.1)

pub all_flat : {X Y : Type 0} (P : Y → Type 0) (f : X → List Y) (xs : List X) → AllByRecursion (λ x. AllByRecursion P (f x)) xs
    → AllByRecursion P (flat_map f xs)
all_flat P f [] a = tt
all_flat P f (x ∷ xs) a = both_parts P (f x) (flat_map f xs) a.0 (all_flat P f xs a.1)

-- lists of lists that map alike item by item
pub flat_alike : {X A B C : Type 0} (g : A → C) (h : B → C) (f : X → List A) (k : X → List B) → ((x : X) → map g (f x) ≡ map h (k x)) →
    (xs : List X) → map g (flat_map f xs) ≡ map h (flat_map k xs)
flat_alike g h f k e [] = refl
flat_alike g h f k e (x ∷ xs) = map_append g (f x) (flat_map f xs) ∙ rw (e x, flat_alike g h f k e xs) refl ∙ sym (map_append h (k x) (flat_map k xs))

pub all_kept : {X : Type 0} (test : X → Bool) (xs : List X) → AllByRecursion (λ x. test x ≡ true) xs → filter test xs ≡ xs
all_kept test [] a = refl
all_kept test (x ∷ xs) a = rw (a.0, all_kept test xs a.1) refl

-- where nothing is kept, nothing passes
pub none_kept : {X Y : Type 0} (g : X → Y) (test : X → Bool) (xs : List X) → map g (filter test xs) ≡ [] → AllByRecursion (λ x. test x ≡ false) xs
none_kept g test [] e = tt
none_kept g test (x ∷ xs) e = go (test x) refl e (none_kept g test xs)
  where
    go : (c : Bool) → test x ≡ c → map g (cond c (x ∷ filter test xs) (filter test xs)) ≡ [] →
        (map g (filter test xs) ≡ [] → AllByRecursion (λ x. test x ≡ false) xs) → AllByRecursion (λ x. test x ≡ false) (x ∷ xs)
    go true m h r = not_nil (g x) (map g (filter test xs)) h
    go false m h r = (m, r h)
