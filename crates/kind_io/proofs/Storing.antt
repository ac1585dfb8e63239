-- What a list of named bytes holds after one file was set or appended.
use Rattle.std.proofs.Common.{◌≡◌, ◌≢◌, ◌<◌, ◌≤◌, ◌+◌, ℕ, suc, zero, Bool, true, false, cond, not, nat_lt, List, [], ◌∷◌, ◌++◌, Option, Some, None, length, get_or, set, string_bytes, if◌then◌else◌, refl, sym, ap, ◌∙◌, arith}
use Rattle.std.specs.List.{position, position_or_len}
use Rattle.std.specs.Str.{bytes_eq}
use Rattle.std.specs.declared.alloc.Global.{Global}
use Rattle.std.specs.declared.string.String.{String}
use Rattle.std.specs.declared.vec.Vec.{Vec}
use Rattle.std.proofs.lemmas.Bool.{false_from_ne_true}
use Rattle.std.proofs.lemmas.Bool.Decides.{nat_tests}
use Rattle.std.proofs.lemmas.List.Quantifiers.{position-Some}
use Rattle.std.proofs.lemmas.Slice.Eq.{bytes_eq-Decides}
use Rattle.kind_io.specs.Held.{held_of}

abbrev pub File : Type 0
File = String Global × Vec ℕ Global

abbrev pub is_named : List ℕ → File → Bool
is_named name file = bytes_eq (string_bytes file.0) name

pub same_name : (name : List ℕ) (file : File) → is_named name file ≡ true → string_bytes file.0 ≡ name
same_name name file e = (bytes_eq-Decides (string_bytes file.0) name).0 e

-- the file of another name
other_name : (name : List ℕ) (file : File) → string_bytes file.0 ≢ name → is_named name file ≡ false
other_name name file differs = false_from_ne_true (is_named name file) (λ e. differs (same_name name file e))

pub set_kept : (files : List File) (name : List ℕ) (i : ℕ) (new d : File) → i < length files
    → ((k : ℕ) → k < i → is_named name (get_or files k d) ≡ false) → string_bytes new.0 ≡ name
    → held_of (set files i new) name ≡ Some new.1.items
set_kept [] name i new d lt before e = absurd (omega (arith, lt))
set_kept (file ∷ files) name zero new d lt before e =
    ap (λ (b : Bool). if b then Some new.1.items else held_of files name) ((bytes_eq-Decides (string_bytes new.0) name).1 e)
set_kept (file ∷ files) name (suc i) new d lt before e =
    ap (λ (b : Bool). if b then Some file.1.items else held_of (set files i new) name) (before 0 (omega arith))
    ∙ set_kept files name i new d (omega (arith, lt)) (λ k below. before (suc k) (omega (arith, below))) e

pub set_others : (files : List File) (other : List ℕ) (i : ℕ) (new d : File) → string_bytes new.0 ≢ other
    → string_bytes (get_or files i d).0 ≢ other → held_of (set files i new) other ≡ held_of files other
set_others [] other i new d differs differed = refl
set_others (file ∷ files) other zero new d differs differed =
    ap (λ (b : Bool). if b then Some new.1.items else held_of files other) (other_name other new differs)
    ∙ sym (ap (λ (b : Bool). if b then Some file.1.items else held_of files other) (other_name other file differed))
set_others (file ∷ files) other (suc i) new d differs differed =
    ap (λ (h : Option (List ℕ)). if is_named other file then Some file.1.items else h) (set_others files other i new d differs differed)

-- no file has the name where its first place is past the end
pub none_before : (k n : ℕ) → cond (nat_lt k n) (Some k) None ≡ None → n ≤ k
none_before k n e = grind (arith, nat_tests)

pub push_kept : (files : List File) (name : List ℕ) (new : File) → length files ≤ position_or_len (is_named name) files
    → string_bytes new.0 ≡ name → held_of (files ++ new ∷ []) name ≡ Some new.1.items
push_kept [] name new none e = ap (λ (b : Bool). if b then Some new.1.items else None) ((bytes_eq-Decides (string_bytes new.0) name).1 e)
push_kept (file ∷ files) name new none e =
    elim (is_named name file) as (λ b. suc (length files) ≤ cond (not b) (1 + position_or_len (is_named name) files) 0
    → (if b then Some file.1.items else held_of (files ++ new ∷ []) name) ≡ Some new.1.items) [
      | true ↦ λ le. absurd (omega (arith, le))
      | false ↦ λ le. push_kept files name new (omega (arith, le)) e
    ] none

pub push_others : (files : List File) (other : List ℕ) (new : File) → string_bytes new.0 ≢ other
    → held_of (files ++ new ∷ []) other ≡ held_of files other
push_others [] other new differs = ap (λ (b : Bool). if b then Some new.1.items else None) (other_name other new differs)
push_others (file ∷ files) other new differs =
    ap (λ (h : Option (List ℕ)). if is_named other file then Some file.1.items else h) (push_others files other new differs)

-- the first file of that name, found and set
pub found_kept : (files : List File) (name : List ℕ) (i : ℕ) (copy : Vec ℕ Global) (d : File) → Some i ≡ position (is_named name) files
    → d ≡ get_or files i d → held_of (set files i (d.0, copy)) name ≡ Some copy.items
found_kept files name i copy d e at =
    let found = position-Some (is_named name) files i d (sym e) in
    set_kept files name i (d.0, copy) d found.0 found.2
    (same_name name d (ap (is_named name) at ∙ found.1))

pub found_others : (files : List File) (name other : List ℕ) (i : ℕ) (copy : Vec ℕ Global) (d : File) → Some i ≡ position (is_named name) files
    → d ≡ get_or files i d → other ≢ name → held_of (set files i (d.0, copy)) other ≡ held_of files other
found_others files name other i copy d e at differs =
    let found = position-Some (is_named name) files i d (sym e) in
    let named : string_bytes (get_or files i d).0 ≡ name = same_name name (get_or files i d) found.1 in
    let same : string_bytes d.0 ≡ name = same_name name d (ap (is_named name) at ∙ found.1) in
    set_others files other i (d.0, copy) d (λ z. differs (sym z ∙ same)) (λ z. differs (sym z ∙ named))
