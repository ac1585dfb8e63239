-- A table by places: what it has with one more, and what a look-up finds.
use Rattle.std.proofs.Common.{◌≡◌, ℕ, Bool, true, false, cond, ◌&&◌, List, [], ◌∷◌, ◌++◌, Option, Some, None, option_map, is_some, suc, zero, refl, sym, ap, ◌∙◌, subst, if◌then◌else◌, arith, map, take, get_or, length, ◌<◌, ◌+◌}
use Rattle.std.specs.Prelude.{nat_eq}
use Rattle.std.specs.Borrow.{Bor}
use Rattle.std.specs.Option.{option_or}
use Rattle.std.specs.Cmp.Lexicographic.{pointwise}
use Rattle.std.specs.Map.{lookup}
use Rattle.std.proofs.lemmas.Bool.{false≢true}
use Rattle.std.proofs.lemmas.List.{map_more}
use Rattle.indexmap.specs.IndexMap.{insert_entry}
use Rattle.lus_meaning.specs.Trace.{Subject, same_numbers, same_subject}
use Rattle.lus_meaning.specs.Fits.{same_place}
use Rattle.sys_meaning.proofs.Shows.{same_both, same_ways}
use Rattle.sys_meaning.proofs.Tracing.{same_subjects, self_subject, self_way}
use Rattle.lus_meaning.specs.declared.trace.PlacedValue.{PlacedValue as CodePlacedValue}
use Rattle.lus_meaning.specs.TraceView.{entry_view, values_view}
use Rattle.sys_meaning.proofs.Follows.{none_some}
use Rattle.trace_fits.specs.declared.permitted.Listable.{Listable as CodeListable}
use Rattle.trace_fits.specs.declared.place.Subject.{Subject as CodeSubject}
use Rattle.trace_fits.specs.declared.place.Subject.TheVariants.{Name, First}
use Rattle.trace_fits.specs.declared.place.Place.{Place}
use Rattle.trace_fits.specs.contracts.place.PlacePartialEq.TheImpl as p
use Rattle.trace_fits.specs.contracts.place.SubjectPartialEq.TheImpl as s
use Rattle.trace_fits.specs.Slotted.{Slotted, slotted_at}
use Rattle.trace_fits.specs.Filling.{value_in}
use Rattle.trace_fits.specs.Views.{slotted_seen, slotted_view, subject_view}

-- ---- places

pub same_are : (a b : List ℕ) (x y : Subject) → same_place a x b y ≡ true → (a ≡ b) × (x ≡ y)
same_are a b x y e = let h = same_both (same_numbers a b) (same_subject x y) e in (same_ways a b h.0, same_subjects x y h.1)

pub self_place : (a : List ℕ) (x : Subject) → same_place a x a x ≡ true
self_place a x = rw (self_way a, self_subject x) refl

pub bools_same : (a b : Bool) → (a ≡ true → b ≡ true) → (b ≡ true → a ≡ true) → a ≡ b
bools_same true true f g = refl
bools_same true false f g = sym (f refl)
bools_same false true f g = g refl
bools_same false false f g = refl

pub place_back : (a b : List ℕ) (x y : Subject) → same_place a x b y ≡ same_place b y a x
place_back a b x y = bools_same (same_place a x b y) (same_place b y a x) (turn a b x y) (turn b a y x)
  where
    turn : (a b : List ℕ) (x y : Subject) → same_place a x b y ≡ true → same_place b y a x ≡ true
    turn a b x y e =
        let h = same_are a b x y e in
        subst (λ c. same_place b y c x ≡ true) (sym h.0) (subst (λ z. same_place b y b z ≡ true) (sym h.1) (self_place b y))

-- ---- keys

abbrev same_key : Place → Place → Bool
same_key = p.eq-value.it

subjects_are : (x y : CodeSubject) → s.eq-value.it x y ≡ same_subject (subject_view x) (subject_view y)
subjects_are (Name x) (Name y) = refl
subjects_are (Name x) (First j) = refl
subjects_are (First k) (Name y) = refl
subjects_are (First k) (First j) = refl

both : {a b c d : Bool} → a ≡ b → c ≡ d → (a && c) ≡ (b && d)
both e f = rw (e, f) refl

ways_are : (a b : List ℕ) → pointwise nat_eq a b ≡ same_numbers a b
ways_are [] [] = refl
ways_are [] (y ∷ ys) = refl
ways_are (x ∷ xs) [] = refl
ways_are (x ∷ xs) (y ∷ ys) = ap (λ b. nat_eq x y && b) (ways_are xs ys)

pub keys_are : (a b : Place) → same_key a b ≡ same_place a.way.now (subject_view a.what) b.way.now (subject_view b.what)
keys_are a b = both (ways_are a.way.now b.way.now) (subjects_are a.what b.what)

-- ---- entries

module _ {K : Type 0} (way : K → List ℕ) (what : K → Subject) where
  abbrev is_at : List ℕ → Subject → K → Bool
  is_at path x k = same_place (way k) (what k) path x

module _ {K V : Type 0} (eq : K → K → Bool) (way : K → List ℕ) (what : K → Subject)
    (keys : (a b : K) → eq a b ≡ same_place (way a) (what a) (way b) (what b)) where
  -- a key is looked up by its place
  pub found_same : (es : List (K × V)) (k : K) → lookup (eq k) es ≡ lookup (is_at way what (way k) (what k)) es
  found_same [] k = refl
  found_same (e ∷ es) k =
      rw (keys k e.0 ∙ place_back (way k) (way e.0) (what k) (what e.0), found_same es k) refl

  -- with one more, whose key is new
  pub found_new : (es : List (K × V)) (k : K) (v : V) → lookup (eq k) es ≡ None → (path : List ℕ) (x : Subject)
      → lookup (is_at way what path x) (insert_entry eq es k v) ≡ option_or (lookup (is_at way what path x) es) (cond (is_at way what path x k) (Some v) None)
  found_new [] k v h path x = refl
  found_new (e ∷ es) k v h path x = go (eq k e.0) h (λ r. found_new es k v r path x)
    where
      later : (b : Bool) → lookup (is_at way what path x) (insert_entry eq es k v) ≡ option_or (lookup (is_at way what path x) es) (cond (is_at way what path x k) (Some v) None)
          → cond b (Some e.1) (lookup (is_at way what path x) (insert_entry eq es k v))
          ≡ option_or (cond b (Some e.1) (lookup (is_at way what path x) es)) (cond (is_at way what path x k) (Some v) None)
      later true r = refl
      later false r = r

      go : (c : Bool) → cond c (Some e.1) (lookup (eq k) es) ≡ None
          → (lookup (eq k) es ≡ None → lookup (is_at way what path x) (insert_entry eq es k v) ≡ option_or (lookup (is_at way what path x) es) (cond (is_at way what path x k) (Some v) None))
          → lookup (is_at way what path x) (if c then (e.0, v) ∷ es else e ∷ insert_entry eq es k v)
          ≡ option_or (cond (is_at way what path x e.0) (Some e.1) (lookup (is_at way what path x) es)) (cond (is_at way what path x k) (Some v) None)
      go true h r = absurd (none_some e.1 (sym h))
      go false h r = later (is_at way what path x e.0) (r h)

  -- one that is there is the first of its place
  pub found_there : (es : List (K × V)) (k : K) (v : V) → is_some (lookup (eq k) es) ≡ true → (path : List ℕ) (x : Subject)
      → lookup (is_at way what path x) es ≡ option_or (lookup (is_at way what path x) es) (cond (is_at way what path x k) (Some v) None)
  found_there es k v h path x = go (is_at way what path x k) refl (lookup (is_at way what path x) es) refl
    where
      go : (b : Bool) → is_at way what path x k ≡ b → (o : Option V) → lookup (is_at way what path x) es ≡ o → o ≡ option_or o (cond b (Some v) None)
      go false e None f = refl
      go b e (Some w) f = refl
      go true e None f =
          let q = same_are (way k) path (what k) x e in
          let g : lookup (is_at way what (way k) (what k)) es ≡ None = ap (λ p. lookup (is_at way what p (what k)) es) q.0 ∙ ap (λ y. lookup (is_at way what path y) es) q.1 ∙ f in
          absurd (false≢true (ap is_some (sym (found_same es k ∙ g)) ∙ h))

-- ---- lists

mapped_or : {V W : Type 0} (f : V → W) (o : Option V) (b : Bool) (v : V)
    → option_map f (option_or o (cond b (Some v) None)) ≡ option_or (option_map f o) (cond b (Some (f v)) None)
mapped_or f (Some w) b v = refl
mapped_or f None true v = refl
mapped_or f None false v = refl

slotted_last : (ss : List Slotted) (s : Slotted) (path : List ℕ) (x : Subject) → slotted_at (ss ++ s ∷ []) path x
    ≡ option_or (slotted_at ss path x) (cond (same_place s.listable.path s.listable.subject path x) (Some s) None)
slotted_last [] s path x = refl
slotted_last (r ∷ ss) s path x = go (same_place r.listable.path r.listable.subject path x) (slotted_last ss s path x)
  where
    go : (b : Bool) → slotted_at (ss ++ s ∷ []) path x
        ≡ option_or (slotted_at ss path x) (cond (same_place s.listable.path s.listable.subject path x) (Some s) None)
        → cond b (Some r) (slotted_at (ss ++ s ∷ []) path x)
        ≡ option_or (cond b (Some r) (slotted_at ss path x)) (cond (same_place s.listable.path s.listable.subject path x) (Some s) None)
    go true e = refl
    go false e = e

pub slotted_take : (ss : List CodeListable) (i : ℕ) (s : CodeListable) → i < length ss → s ≡ get_or ss i s → (path : List ℕ) (x : Subject)
    → slotted_at (map slotted_view (take (i + 1) ss)) path x ≡ option_or (slotted_at (map slotted_view (take i ss)) path x)
    (cond (same_place s.path.items (subject_view s.what) path x) (Some (slotted_view s)) None)
slotted_take ss i s l is path x =
    ap (λ zs. slotted_at zs path x)
    (map_more slotted_view ss i s l ∙ ap (λ y. map slotted_view (take i ss) ++ slotted_view y ∷ []) (sym is))
    ∙ slotted_last (map slotted_view (take i ss)) (slotted_view s) path x

pub grown : (ss : List CodeListable) (i : ℕ) (s : CodeListable) → i < length ss → s ≡ get_or ss i s → (way : List ℕ) (what : CodeSubject)
    → way ≡ s.path.items → what ≡ s.what → (path : List ℕ) (x : Subject) (old new : Option Slotted)
    → new ≡ option_or old (cond (same_place way (subject_view what) path x) (Some (slotted_view s)) None)
    → old ≡ slotted_at (map slotted_view (take i ss)) path x → new ≡ slotted_at (map slotted_view (take (i + 1) ss)) path x
grown ss i s l is way what a b path x old new e f =
    let o : Option Slotted = slotted_at (map slotted_view (take i ss)) path x in
    let one : Option Slotted = Some (slotted_view s) in
    e ∙ ap (λ z. option_or z (cond (same_place way (subject_view what) path x) one None)) f
    ∙ ap (λ w. option_or o (cond (same_place w (subject_view what) path x) one None)) a
    ∙ ap (λ z. option_or o (cond (same_place s.path.items (subject_view z) path x) one None)) b
    ∙ sym (slotted_take ss i s l is path x)

-- ---- the table

pub noted_new : (es new : List (Place × Bor CodeListable)) (k : Place) (v : Bor CodeListable) → lookup (same_key k) es ≡ None → new ≡ insert_entry same_key es k v
    → (path : List ℕ) (x : Subject) → slotted_seen (lookup (λ j. same_place j.way.now (subject_view j.what) path x) new)
    ≡ option_or (slotted_seen (lookup (λ j. same_place j.way.now (subject_view j.what) path x) es))
    (cond (same_place k.way.now (subject_view k.what) path x) (Some (slotted_view v.now)) None)
noted_new es new k v h e path x =
    ap (λ zs. slotted_seen (lookup (λ j. same_place j.way.now (subject_view j.what) path x) zs)) e
    ∙ ap slotted_seen (found_new same_key (λ j. j.way.now) (λ j. subject_view j.what) keys_are es k v h path x)
    ∙ mapped_or (λ (w : Bor CodeListable). slotted_view w.now) (lookup (λ j. same_place j.way.now (subject_view j.what) path x) es)
    (same_place k.way.now (subject_view k.what) path x) v

pub noted_there : (es : List (Place × Bor CodeListable)) (k : Place) (v : Bor CodeListable) → is_some (lookup (same_key k) es) ≡ true
    → (path : List ℕ) (x : Subject) → slotted_seen (lookup (λ j. same_place j.way.now (subject_view j.what) path x) es)
    ≡ option_or (slotted_seen (lookup (λ j. same_place j.way.now (subject_view j.what) path x) es))
    (cond (same_place k.way.now (subject_view k.what) path x) (Some (slotted_view v.now)) None)
noted_there es k v h path x =
    ap slotted_seen (found_there same_key (λ j. j.way.now) (λ j. subject_view j.what) keys_are es k v h path x)
    ∙ mapped_or (λ (w : Bor CodeListable). slotted_view w.now) (lookup (λ j. same_place j.way.now (subject_view j.what) path x) es)
    (same_place k.way.now (subject_view k.what) path x) v

pub looked_up : (es : List (Place × Bor CodeListable)) (k : Place)
    → lookup (same_key k) es ≡ lookup (λ j. same_place j.way.now (subject_view j.what) k.way.now (subject_view k.what)) es
looked_up es k = found_same same_key (λ j. j.way.now) (λ j. subject_view j.what) keys_are es k

-- ---- values

pub value_read : (vs : List CodePlacedValue) (k : ℕ) (d : CodePlacedValue) → k < length vs
    → entry_view (get_or vs k d).value ≡ value_in (values_view vs) k
value_read [] k d l = absurd (omega (arith, l))
value_read (v ∷ vs) zero d l = refl
value_read (v ∷ vs) (suc k) d l = value_read vs k d (omega (arith, l))
