-- A trace has a first word that doesn't fit, or it fits.
use Rattle.std.proofs.Common.{◌≡◌, ℕ, zero, suc, ◌≤◌, Bool, true, false, cond, not, ◌&&◌, ◌||◌, List, [], ◌∷◌, ◌++◌, map, length, Option, Some, None, refl, sym, ap, ◌∙◌, arith}
use Rattle.std.specs.Prelude.{nat_le, ◌==◌}
use Rattle.std.specs.List.{AllByRecursion, list_all}
use Rattle.std.specs.Str.{bytes_eq}
use Rattle.std.proofs.lemmas.Bool.{true≢false, false≢true}
use Rattle.std.proofs.lemmas.Slice.Eq.{bytes_eq-Decides}
use Rattle.std.proofs.lemmas.Bool.Decides.{same_from_decides}
use Rattle.lus_tree.specs.declared.place.Pos.{Pos}
use Rattle.lus_tree.specs.Tree.{Component, Program}
use Rattle.lus_tree.specs.Lookup.{nodes_of}
use Rattle.lus_meaning.specs.Scene.{Instance, component_of}
use Rattle.lus_meaning.specs.Program.{instance_of}
use Rattle.lus_meaning.specs.Trace.{Subject, of_name, of_first, BareLine, same_numbers, same_subject}
use Rattle.lus_meaning.specs.TraceView.{PlacedValue, PlacedLine, Listing, bare_values, bare_line, lines_of}
use Rattle.lus_meaning.specs.Fits.{Listable, listable, same_place, listable_at, is_listed, takes_value, IsTaken, AreTaken, AreDifferent, is_given, FitsInstance, first_named, FitsProgram, Test, first_failed, value_tests, taken_tests, line_tests, lines_tests, instance_tests, node_tests, misfit, FitOrMisfit}

-- ---- tests one after the other

failed : (p : Pos) → Some p ≡ None → ⊥
failed p e = cc

one_passes : (t : Test) (ts : List Test) → first_failed (t ∷ ts) ≡ None → (t.1 ≡ true) × (first_failed ts ≡ None)
one_passes t ts h = go t.1 refl h
  where
    go : (b : Bool) → t.1 ≡ b → cond b (first_failed ts) (Some t.0) ≡ None → (t.1 ≡ true) × (first_failed ts ≡ None)
    go true e k = (e, k)
    go false e k = absurd (failed t.0 k)

passes_one : (t : Test) (ts : List Test) → t.1 ≡ true → first_failed ts ≡ None → first_failed (t ∷ ts) ≡ None
passes_one t ts e h = ap (λ b. cond b (first_failed ts) (Some t.0)) e ∙ h

pub both_pass : (ts us : List Test) → first_failed (ts ++ us) ≡ None → (first_failed ts ≡ None) × (first_failed us ≡ None)
both_pass [] us h = (refl, h)
both_pass (t ∷ ts) us h =
    let a = one_passes t (ts ++ us) h in
    let b = both_pass ts us a.1 in
    (passes_one t ts a.0 b.0, b.1)

pub pass_both : (ts us : List Test) → first_failed ts ≡ None → first_failed us ≡ None → first_failed (ts ++ us) ≡ None
pass_both [] us h k = k
pass_both (t ∷ ts) us h k =
    let a = one_passes t ts h in
    passes_one t (ts ++ us) a.0 (pass_both ts us a.1 k)

-- ---- values

abbrev AllTaken : Listable → List PlacedValue → Type 0
AllTaken s vs = AllByRecursion (λ v. takes_value s v ≡ true) (bare_values vs)

values_pass : (s : Listable) (left : ℕ) (vs : List PlacedValue) → first_failed (value_tests s left vs) ≡ None → (length (bare_values vs) ≤ left) × AllTaken s vs
values_pass s left [] h = (omega arith, tt)
values_pass s zero (v ∷ vs) h = absurd (failed v.at h)
values_pass s (suc left) (v ∷ vs) h =
    let a = one_passes (v.at, takes_value s v.value) (value_tests s left vs) h in
    let b = values_pass s left vs a.1 in
    (omega (arith, b.0), (a.0, b.1))

pass_values : (s : Listable) (left : ℕ) (vs : List PlacedValue) → length (bare_values vs) ≤ left → AllTaken s vs → first_failed (value_tests s left vs) ≡ None
pass_values s left [] l h = refl
pass_values s zero (v ∷ vs) l h = absurd (omega (arith, l))
pass_values s (suc left) (v ∷ vs) l h = passes_one (v.at, takes_value s v.value) (value_tests s left vs) h.0 (pass_values s left vs (omega (arith, l)) h.1)

as_many : (vs : List PlacedValue) → length (bare_values vs) ≡ length vs
as_many [] = refl
as_many (v ∷ vs) = ap suc (as_many vs)

le_true : (m n : ℕ) → nat_le m n ≡ true → m ≤ n
le_true m n h = grind (arith, h)

true_le : (m n : ℕ) → m ≤ n → nat_le m n ≡ true
true_le m n h = grind (arith, h)

taken_pass : (o : Option Listable) (l : PlacedLine) → first_failed (taken_tests o l) ≡ None → IsTaken o (bare_values l.values)
taken_pass None l h = absurd (failed l.at h)
taken_pass (Some s) l h =
    let a = one_passes (l.at, nat_le s.count (length l.values)) (value_tests s s.count l.values) h in
    let b = values_pass s s.count l.values a.1 in
    let m : s.count ≤ length l.values = le_true s.count (length l.values) a.0 in
    record { count = omega (arith, b.0, m, as_many l.values); each = b.1 }

pass_taken : (o : Option Listable) (l : PlacedLine) → IsTaken o (bare_values l.values) → first_failed (taken_tests o l) ≡ None
pass_taken None l h = absurd h
pass_taken (Some s) l h = passes_one (l.at, nat_le s.count (length l.values)) (value_tests s s.count l.values)
    (true_le s.count (length l.values) (omega (arith, h.count, as_many l.values)))
    (pass_values s s.count l.values (omega (arith, h.count)) h.each)

-- ---- lines

not_true : (b : Bool) → not b ≡ true → b ≡ false
not_true true h = absurd (false≢true h)
not_true false h = refl

true_not : (b : Bool) → b ≡ false → not b ≡ true
true_not b h = ap not h

-- none of the lines lists what one before it does, or these do
abbrev AreNew : List BareLine → List BareLine → Type 0
AreNew before [] = Unit {0}
AreNew before (l ∷ ls) = (is_listed before l.path l.subject ≡ false) × AreNew (before ++ l ∷ []) ls

lines_pass : (ss : List Listable) (before : List BareLine) (ls : List PlacedLine) → first_failed (lines_tests ss before ls) ≡ None
    → AreTaken ss (map bare_line ls) × AreNew before (map bare_line ls)
lines_pass ss before [] h = (tt, tt)
lines_pass ss before (l ∷ ls) h =
    let a = both_pass (line_tests ss before l) (lines_tests ss (before ++ bare_line l ∷ []) ls) h in
    let b = one_passes (l.at, not (is_listed before l.path l.subject)) (taken_tests (listable_at ss l.path l.subject) l) a.0 in
    let c = lines_pass ss (before ++ bare_line l ∷ []) ls a.1 in
    ((taken_pass (listable_at ss l.path l.subject) l b.1, c.0), (not_true (is_listed before l.path l.subject) b.0, c.1))

pass_lines : (ss : List Listable) (before : List BareLine) (ls : List PlacedLine) → AreTaken ss (map bare_line ls) → AreNew before
    (map bare_line ls) → first_failed (lines_tests ss before ls) ≡ None
pass_lines ss before [] h k = refl
pass_lines ss before (l ∷ ls) h k = pass_both (line_tests ss before l) (lines_tests ss (before ++ bare_line l ∷ []) ls)
    (passes_one (l.at, not (is_listed before l.path l.subject)) (taken_tests (listable_at ss l.path l.subject) l)
    (true_not (is_listed before l.path l.subject) k.0) (pass_taken (listable_at ss l.path l.subject) l h.0))
    (pass_lines ss (before ++ bare_line l ∷ []) ls h.1 k.1)

-- ---- no two lines list the same

number_back : (k j : ℕ) → (k == j) ≡ (j == k)
number_back k j = grind arith

numbers_back : (ks js : List ℕ) → same_numbers ks js ≡ same_numbers js ks
numbers_back [] [] = refl
numbers_back [] (j ∷ js) = refl
numbers_back (k ∷ ks) [] = refl
numbers_back (k ∷ ks) (j ∷ js) = rw (numbers_back ks js) (ap (λ b. b && same_numbers js ks) (number_back k j))

bytes_back : (xs ys : List ℕ) → bytes_eq xs ys ≡ bytes_eq ys xs
bytes_back xs ys = same_from_decides (bytes_eq xs ys) (bytes_eq ys xs) (bytes_eq-Decides xs ys)
    (λ h. sym ((bytes_eq-Decides ys xs).0 h), λ e. (bytes_eq-Decides ys xs).1 (sym e))

subject_back : (s t : Subject) → same_subject s t ≡ same_subject t s
subject_back (of_name x) (of_name y) = bytes_back x y
subject_back (of_name x) (of_first j) = refl
subject_back (of_first k) (of_name y) = refl
subject_back (of_first k) (of_first j) = number_back k j

place_back : (l m : BareLine) → same_place l.path l.subject m.path m.subject ≡ same_place m.path m.subject l.path l.subject
place_back l m = rw (numbers_back l.path m.path, subject_back l.subject m.subject) refl

both_false : (a b : Bool) → (a || b) ≡ false → (a ≡ false) × (b ≡ false)
both_false true b h = absurd (true≢false h)
both_false false b h = (refl, h)

false_both : (a b : Bool) → a ≡ false → b ≡ false → (a || b) ≡ false
false_both a b h k = rw (h, k) refl

abbrev same_line : BareLine → BareLine → Bool
same_line m l = same_place m.path m.subject l.path l.subject

listed_append : (before ms : List BareLine) (l : BareLine) → is_listed (before ++ ms) l.path l.subject ≡
    (is_listed before l.path l.subject || is_listed ms l.path l.subject)
listed_append [] ms l = refl
listed_append (b ∷ before) ms l = go (same_line b l) (listed_append before ms l)
  where
    go : (c : Bool) → is_listed (before ++ ms) l.path l.subject ≡ (is_listed before l.path l.subject || is_listed ms l.path l.subject)
        → (c || is_listed (before ++ ms) l.path l.subject) ≡ ((c || is_listed before l.path l.subject) || is_listed ms l.path l.subject)
    go true h = refl
    go false h = h

abbrev Apart : List BareLine → List BareLine → Type 0
Apart before ls = AllByRecursion (λ l. is_listed before l.path l.subject ≡ false) ls

apart_both : (before ms ls : List BareLine) → Apart (before ++ ms) ls → Apart before ls × Apart ms ls
apart_both before ms [] h = (tt, tt)
apart_both before ms (l ∷ ls) h =
    let a = both_false (is_listed before l.path l.subject) (is_listed ms l.path l.subject) (sym (listed_append before ms l) ∙ h.0) in
    let b = apart_both before ms ls h.1 in
    ((a.0, b.0), (a.1, b.1))

both_apart : (before ms ls : List BareLine) → Apart before ls → Apart ms ls → Apart (before ++ ms) ls
both_apart before ms [] h k = tt
both_apart before ms (l ∷ ls) h k = (
  listed_append before ms l ∙ false_both (is_listed before l.path l.subject) (is_listed ms l.path l.subject) h.0 k.0,
  both_apart before ms ls h.1 k.1,
)

apart_one : (m : BareLine) (ls : List BareLine) → Apart (m ∷ []) ls → is_listed ls m.path m.subject ≡ false
apart_one m [] h = refl
apart_one m (l ∷ ls) h = false_both (same_line l m) (is_listed ls m.path m.subject)
    (place_back l m ∙ (both_false (same_line m l) false h.0).0) (apart_one m ls h.1)

one_apart : (m : BareLine) (ls : List BareLine) → is_listed ls m.path m.subject ≡ false → Apart (m ∷ []) ls
one_apart m [] h = tt
one_apart m (l ∷ ls) h =
    let a = both_false (same_line l m) (is_listed ls m.path m.subject) h in
    (false_both (same_line m l) false (place_back m l ∙ a.0) refl, one_apart m ls a.1)

new_different : (before ls : List BareLine) → AreNew before ls → Apart before ls × AreDifferent ls
new_different before [] h = (tt, tt)
new_different before (l ∷ ls) h =
    let a = new_different (before ++ l ∷ []) ls h.1 in
    let b = apart_both before (l ∷ []) ls a.0 in
    ((h.0, b.0), (apart_one l ls b.1, a.1))

different_new : (before ls : List BareLine) → Apart before ls → AreDifferent ls → AreNew before ls
different_new before [] h k = tt
different_new before (l ∷ ls) h k = (h.0, different_new (before ++ l ∷ []) ls (both_apart before (l ∷ []) ls h.1 (one_apart l ls k.0)) k.1)

none_apart : (ls : List BareLine) → Apart [] ls
none_apart [] = tt
none_apart (l ∷ ls) = (refl, none_apart ls)

-- ---- inputs

both_true : (a b : Bool) → (a && b) ≡ true → (a ≡ true) × (b ≡ true)
both_true true b h = (refl, h)
both_true false b h = absurd (false≢true h)

all_true : {A : Type 0} (f : A → Bool) (xs : List A) → list_all f xs ≡ true → AllByRecursion (λ x. f x ≡ true) xs
all_true f [] h = tt
all_true f (x ∷ xs) h = let a = both_true (f x) (list_all f xs) h in (a.0, all_true f xs a.1)

true_all : {A : Type 0} (f : A → Bool) (xs : List A) → AllByRecursion (λ x. f x ≡ true) xs → list_all f xs ≡ true
true_all f [] h = refl
true_all f (x ∷ xs) h = rw (h.0, true_all f xs h.1) refl

-- ---- the trace

abbrev FitsLength : Instance → Listing → Type 0
FitsLength i t = (1 ≤ t.length) × (t.length ≤ 1001) × FitsInstance i t.length (lines_of t)

instance_passes : (i : Instance) (t : Listing) → first_failed (instance_tests i t) ≡ None → FitsLength i t
instance_passes i t h =
    let inputs : Test = (t.end_at, list_all (is_given (lines_of t)) (component_of i).inputs) in
    let a = one_passes (t.length_at, nat_le 1 t.length && nat_le t.length 1001) (lines_tests (listable t.length i) [] t.lines ++ inputs ∷ []) h in
    let b = both_true (nat_le 1 t.length) (nat_le t.length 1001) a.0 in
    let c = both_pass (lines_tests (listable t.length i) [] t.lines) (inputs ∷ []) a.1 in
    let d = lines_pass (listable t.length i) [] t.lines c.0 in
    let e = one_passes inputs [] c.1 in (
      le_true 1 t.length b.0,
      le_true t.length 1001 b.1,
      record {
        taken = d.0;
        once = (new_different [] (lines_of t) d.1).1;
        given = all_true (is_given (lines_of t)) (component_of i).inputs e.0;
      },
    )

passes_instance : (i : Instance) (t : Listing) → FitsLength i t → first_failed (instance_tests i t) ≡ None
passes_instance i t h =
    let inputs : Test = (t.end_at, list_all (is_given (lines_of t)) (component_of i).inputs) in
    passes_one (t.length_at, nat_le 1 t.length && nat_le t.length 1001) (lines_tests (listable t.length i) [] t.lines ++ inputs ∷ [])
    (rw (true_le 1 t.length h.0, true_le t.length 1001 h.1) refl)
    (pass_both (lines_tests (listable t.length i) [] t.lines) (inputs ∷ [])
    (pass_lines (listable t.length i) [] t.lines h.2.taken (different_new [] (lines_of t) (none_apart (lines_of t)) h.2.once))
    (passes_one inputs [] (true_all (is_given (lines_of t)) (component_of i).inputs h.2.given) refl))

node_passes : (p : Program) (o : Option Component) (t : Listing) → first_named t.node (nodes_of p) ≡ o → first_failed
    (node_tests p o t) ≡ None → FitsProgram p t
node_passes p None t e h = absurd (failed t.node_at h)
node_passes p (Some d) t e h =
    let a = instance_passes (instance_of p d) t h in
    record { node = d; named = e; some = a.0; few = a.1; lines = a.2 }

-- no word fails its test exactly where the trace fits
pub passes_fits : (p : Program) (t : Listing) → misfit p t ≡ None → FitsProgram p t
passes_fits p t h = node_passes p (first_named t.node (nodes_of p)) t refl h

pub fits_passes : (p : Program) (t : Listing) → FitsProgram p t → misfit p t ≡ None
fits_passes p t h = ap (λ o. first_failed (node_tests p o t)) h.named ∙ passes_instance (instance_of p h.node) t (h.some, h.few, h.lines)

pub fit_or_misfit : FitOrMisfit
fit_or_misfit p t = (passes_fits p t, fits_passes p t)
