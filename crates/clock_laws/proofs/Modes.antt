-- Modes by their keys: one that is found has its value where the beat is on, and is found behind more modes too.
use Rattle.std.proofs.Common.{◌≡◌, ℕ, ◌<◌, Bool, true, false, cond, ◌&&◌, ◌||◌, List, [], ◌∷◌, ◌++◌, map, refl, ap, ◌∙◌, Some}
use Rattle.std.specs.Prelude.{option_to_list}
use Rattle.std.specs.List.{AllByRecursion, list_any}
use Rattle.std.specs.Map.{lookup}
use Rattle.std.specs.Str.{bytes_eq}
use Rattle.std.proofs.lemmas.Bool.{false≢true}
use Rattle.std.proofs.lemmas.List.Folds.{list_any-append}
use Rattle.lus_tree.specs.declared.place.Sort.TheVariants.{Bool as Flags}
use Rattle.lus_tree.specs.Tree.{Name, Labelled}
use Rattle.lus_meaning.specs.Value.{Stream, Instants, has_sort}
use Rattle.lus_meaning.specs.Frame.{Frame, call_frame}
use Rattle.lus_meaning.specs.Scene.{Instance}
use Rattle.lus_meaning.specs.Meaning.{mode_key, same_path, head_stream}
use Rattle.lus_meaning.specs.Contract.{ModeTerms, mode_streams, mode_terms, all_true, says, imported_mode}
use Rattle.lus_meaning.specs.Run.{is_typed}
use Rattle.lus_meaning.proofs.Exists.{self_bytes}
use Rattle.lus_meaning.proofs.Lists.{or_true, or_left}
use Rattle.lus_meaning.proofs.Typed.{flags_has, only_typed, on_has}

abbrev pub Key : Type 0
Key = List Name × Name

abbrev pub has_key : Key → List ModeTerms → Bool
has_key key ms = list_any (λ m. mode_key key m.key) ms

-- the conjunction of the requires of each mode has a value exactly where the beat is on
abbrev pub ModeHas : ℕ → Instants → Frame → ModeTerms → Type 0
ModeHas m b f x = (t : ℕ) → t < m → is_typed Flags (b t) (x.requires_all b f t) ≡ true

abbrev pub ModesHave : ℕ → Instants → Frame → List ModeTerms → Type 0
ModesHave m b f ms = AllByRecursion (ModeHas m b f) ms

pub found_mode : (m : ℕ) (b : Instants) (f : Frame) (key : Key) (ms : List ModeTerms) → has_key key ms ≡ true → ModesHave m b f ms → (t : ℕ) → t < m
    → is_typed Flags (b t) (head_stream (option_to_list (lookup (mode_key key) (mode_streams ms b f))) t) ≡ true
found_mode m b f key [] e h t l = absurd (false≢true e)
found_mode m b f key (x ∷ ms) e h t l = go (mode_key key x.key) e (λ q. found_mode m b f key ms q h.1 t l)
  where
    go : (c : Bool) → (c || has_key key ms) ≡ true →
        (has_key key ms ≡ true → is_typed Flags (b t) (head_stream (option_to_list (lookup (mode_key key) (mode_streams ms b f))) t) ≡ true) →
        is_typed Flags (b t) (head_stream (option_to_list (cond c (Some (x.requires_all b f)) (lookup (mode_key key) (mode_streams ms b f)))) t) ≡ true
    go true q r = h.0 t l
    go false q r = r q

pub found_before : (b : Instants) (f : Frame) (key : Key) (ms rest : List ModeTerms) → has_key key ms ≡ true → lookup (mode_key key)
    (mode_streams (ms ++ rest) b f) ≡ lookup (mode_key key) (mode_streams ms b f)
found_before b f key [] rest e = absurd (false≢true e)
found_before b f key (x ∷ ms) rest e = go (mode_key key x.key) e (found_before b f key ms rest)
  where
    go : (c : Bool) → (c || has_key key ms) ≡ true →
        (has_key key ms ≡ true → lookup (mode_key key) (mode_streams (ms ++ rest) b f) ≡ lookup (mode_key key) (mode_streams ms b f)) →
        cond c (Some (x.requires_all b f)) (lookup (mode_key key) (mode_streams (ms ++ rest) b f)) ≡ cond c (Some (x.requires_all b f))
        (lookup (mode_key key) (mode_streams ms b f))
    go true q r = refl
    go false q r = r q

pub key_before : (key : Key) (ms rest : List ModeTerms) → has_key key ms ≡ true → has_key key (ms ++ rest) ≡ true
key_before key ms rest e = list_any-append (λ x. mode_key key x.key) ms rest ∙ or_left (has_key key ms) (has_key key rest) e

pub key_behind : (key : Key) (ms rest : List ModeTerms) → has_key key rest ≡ true → has_key key (ms ++ rest) ≡ true
key_behind key ms rest e = list_any-append (λ x. mode_key key x.key) ms rest ∙ or_true (has_key key ms) (has_key key rest) e

-- ---- a conjunction

pub all_true_has : (t : ℕ) (xss : List Stream) → AllByRecursion (λ xs. has_sort Flags (xs t) ≡ true) xss → has_sort Flags (all_true xss t) ≡ true
all_true_has t [] a = refl
all_true_has t (xs ∷ []) a = a.0
all_true_has t (xs ∷ ys ∷ yss) a = flags_has (λ p q. p && q) (xs t) (all_true (ys ∷ yss) t) a.0 (all_true_has t (ys ∷ yss) a.1)

-- each require has a truth value exactly where the beat is on
abbrev pub SaysHave : Instance → List ModeTerms → ℕ → Instants → Frame → Labelled → Type 0
SaysHave i ms m b f l = (t : ℕ) → t < m → is_typed Flags (b t) (says i ms l b f t) ≡ true

all_said : (i : Instance) (ms : List ModeTerms) (m : ℕ) (b : Instants) (f : Frame) (t : ℕ) → t < m → b t ≡ true → (ls : List Labelled)
    → AllByRecursion (SaysHave i ms m b f) ls → AllByRecursion (λ xs. has_sort Flags (xs t) ≡ true) (map (λ r. says i ms r b f) ls)
all_said i ms m b f t l o [] a = tt
all_said i ms m b f t l o (x ∷ ls) a = (on_has Flags (b t) (says i ms x b f t) (a.0 t l) o, all_said i ms m b f t l o ls a.1)

pub mode_has : (i : Instance) (ms : List ModeTerms) (m : ℕ) (b : Instants) (f : Frame) (x : Name) (rs es : List Labelled)
    → AllByRecursion (SaysHave i ms m b f) rs → ModeHas m b f (mode_terms i ms x rs es)
mode_has i ms m b f x rs es a t l = only_typed Flags (b t) (all_true (map (λ r. says i ms r b f) rs) t)
    (λ o. all_true_has t (map (λ r. says i ms r b f) rs) (all_said i ms m b f t l o rs a))

pub mode_named : (i : Instance) (ms : List ModeTerms) (x : Name) (rs es : List Labelled) → has_key ([], x) (mode_terms i ms x rs es ∷ []) ≡ true
mode_named i ms x rs es = or_left (bytes_eq x x) false (self_bytes x)

-- ---- modes of an import

pub imported_have : (m : ℕ) (b : Instants) (f : Frame) (k : ℕ) (c : Name) (ms : List ModeTerms) → ModesHave m b (call_frame f k) ms → ModesHave m b f
    (map (imported_mode k c) ms)
imported_have m b f k c [] a = tt
imported_have m b f k c (x ∷ ms) a = (a.0, imported_have m b f k c ms a.1)

pub imported_named : (k : ℕ) (c x : Name) (ms : List ModeTerms) → has_key ([], x) ms ≡ true → has_key (c ∷ [], x) (map (imported_mode k c) ms) ≡ true
imported_named k c x [] e = e
imported_named k c x (y ∷ ms) e = go (mode_key ([], x) y.key) refl e (imported_named k c x ms)
  where
    longer : mode_key ([], x) y.key ≡ true → mode_key (c ∷ [], x) (c ∷ y.key.0, y.key.1) ≡ true
    longer q = ap (λ a. (a && same_path [] y.key.0) && bytes_eq x y.key.1) (self_bytes c) ∙ q

    go : (a : Bool) → mode_key ([], x) y.key ≡ a → (a || has_key ([], x) ms) ≡ true →
        (has_key ([], x) ms ≡ true → has_key (c ∷ [], x) (map (imported_mode k c) ms) ≡ true) →
        (mode_key (c ∷ [], x) (c ∷ y.key.0, y.key.1) || has_key (c ∷ [], x) (map (imported_mode k c) ms)) ≡ true
    go true q h r = or_left (mode_key (c ∷ [], x) (c ∷ y.key.0, y.key.1)) (has_key (c ∷ [], x) (map (imported_mode k c) ms)) (longer q)
    go false q h r = or_true (mode_key (c ∷ [], x) (c ∷ y.key.0, y.key.1)) (has_key (c ∷ [], x) (map (imported_mode k c) ms)) (r h)
