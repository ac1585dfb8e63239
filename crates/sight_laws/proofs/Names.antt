-- What the streams of a frame mean by their names.
use Rattle.std.proofs.Common.{◌≡◌, ℕ, zero, suc, ◌+◌, ◌<◌, ◌≤◌, Bool, true, false, ◌||◌, cond, List, [], ◌∷◌, length, map, Option, Some, None, option_map, unwrap_or, refl, sym, ap, ◌∙◌, arith}
use Rattle.std.specs.Prelude.{find, nat_le, nat_lt, slice_get}
use Rattle.std.specs.Option.{option_map_or}
use Rattle.std.specs.Str.{bytes_eq}
use Rattle.std.proofs.Math.Logic.{◌⊎◌, inl, inr}
use Rattle.std.proofs.lemmas.Bool.Decides.{leb_tells, nat_tests}
use Rattle.lus_tree.specs.declared.place.Sort.{Sort}
use Rattle.lus_tree.specs.Numbers.{counting}
use Rattle.lus_tree.specs.Tree.{Name, Variable, Component}
use Rattle.lus_meaning.specs.Depends.{named_in}
use Rattle.lus_meaning.specs.Scene.{base, clock_from}
use Rattle.lus_streams.specs.Streams.{names_of}
use Rattle.name_table.specs.Names.{number_of}
use Rattle.sys_places.specs.Own.{counted_number, name_number}
use Rattle.sys_texts.specs.Sights.{Stream, number_at}
use Rattle.sys_tables.specs.Numbers.{stream_from}
use Rattle.sys_tables.specs.Tabled.{Named, named_stream}

module _ (n : Component) (x : Name) where
  abbrev these : List Variable → List Named
  these vs = map (named_stream n) vs

  abbrev first : List Variable → Option Variable
  first vs = find (λ v. bytes_eq x v.name.text) vs

  pub sort_so : (vs : List Variable) (k : ℕ) (d : Sort)
      → option_map_or (λ (v : Stream). v.sort) (stream_from k (these vs) x) d ≡ unwrap_or (option_map (λ (v : Variable). v.sort) (first vs)) d
  sort_so [] k d = refl
  sort_so (v ∷ vs) k d = go (bytes_eq x v.name.text) (sort_so vs (suc k) d)
    where
      go : (b : Bool) → option_map_or (λ (v : Stream). v.sort) (stream_from (suc k) (these vs) x) d ≡ unwrap_or (option_map (λ (v : Variable). v.sort) (first vs)) d
          → option_map_or (λ (v : Stream). v.sort)
          (cond b (Some record { sort = v.sort; number = k; clock = clock_from v.clock }) (stream_from (suc k) (these vs) x)) d
          ≡ unwrap_or (option_map (λ (v : Variable). v.sort) (cond b (Some v) (first vs))) d
      go true h = refl
      go false h = h

  pub clock_so : (vs : List Variable) (k : ℕ)
      → option_map_or (λ (v : Stream). v.clock) (stream_from k (these vs) x) base
      ≡ clock_from (unwrap_or (option_map (λ (v : Variable). v.clock) (first vs)) None)
  clock_so [] k = refl
  clock_so (v ∷ vs) k = go (bytes_eq x v.name.text) (clock_so vs (suc k))
    where
      go : (b : Bool) → option_map_or (λ (v : Stream). v.clock) (stream_from (suc k) (these vs) x) base
          ≡ clock_from (unwrap_or (option_map (λ (v : Variable). v.clock) (first vs)) None)
          → option_map_or (λ (v : Stream). v.clock)
          (cond b (Some record { sort = v.sort; number = k; clock = clock_from v.clock }) (stream_from (suc k) (these vs) x)) base
          ≡ clock_from (unwrap_or (option_map (λ (v : Variable). v.clock) (cond b (Some v) (first vs))) None)
      go true h = refl
      go false h = h

  pub number_so : (vs : List Variable) (k missing : ℕ)
      → option_map_or (λ (v : Stream). v.number) (stream_from k (these vs) x) missing ≡ name_number missing k vs x
  number_so [] k missing = refl
  number_so (v ∷ vs) k missing = go (bytes_eq x v.name.text) (number_so vs (suc k) missing)
    where
      go : (b : Bool) → option_map_or (λ (v : Stream). v.number) (stream_from (suc k) (these vs) x) missing ≡ name_number missing (suc k) vs x
          → option_map_or (λ (v : Stream). v.number)
          (cond b (Some record { sort = v.sort; number = k; clock = clock_from v.clock }) (stream_from (suc k) (these vs) x)) missing
          ≡ cond (b || named_in x (names_of vs)) (k + cond b 0 (suc (number_of (names_of vs) x))) missing
      go true h = omega arith
      go false h = h ∙ ap (λ j. cond (named_in x (names_of vs)) j missing) (omega arith)

pub many_named : (n : Component) (vs : List Variable) → length (map (named_stream n) vs) ≡ length vs
many_named n [] = refl
many_named n (v ∷ vs) = ap suc (many_named n vs)

-- ---- by numbers

less : (k n : ℕ) → k < n → nat_lt k n ≡ true
less k n l = grind (arith, nat_tests)

not_less : (k n : ℕ) → n ≤ k → nat_lt k n ≡ false
not_less k n l = grind (arith, nat_tests)

pub at_least_one : (k : ℕ) → nat_le 1 (suc k) ≡ true
at_least_one k = grind (arith, nat_tests)

less_by_one : (k n : ℕ) → nat_lt k n ≡ nat_lt (suc k) (suc n)
less_by_one k n = go (leb_tells (suc k) n)
  where
    go : ((nat_lt k n ≡ true) × (suc k ≤ n)) ⊎ ((nat_lt k n ≡ false) × (n < suc k)) → nat_lt k n ≡ nat_lt (suc k) (suc n)
    go (inl h) = let l : suc k ≤ n = h.1 in h.0 ∙ sym (less (suc k) (suc n) (omega arith))
    go (inr h) = let l : n < suc k = h.1 in h.0 ∙ sym (not_less (suc k) (suc n) (omega arith))

counted_so : (many f k missing : ℕ) → unwrap_or (slice_get (counting f many) k) missing ≡ cond (nat_lt k many) (f + k) missing
counted_so zero f zero missing = sym (ap (λ b. cond b (f + zero) missing) (not_less zero zero (omega arith)))
counted_so zero f (suc k) missing = sym (ap (λ b. cond b (f + suc k) missing) (not_less (suc k) zero (omega arith)))
counted_so (suc many) f zero missing =
    let here : f ≡ f + zero = omega arith in
    here ∙ sym (ap (λ b. cond b (f + zero) missing) (less zero (suc many) (omega arith)))
counted_so (suc many) f (suc k) missing =
    counted_so many (suc f) k missing ∙ ap (λ j. cond (nat_lt k many) j missing) (omega arith)
    ∙ ap (λ b. cond b (f + suc k) missing) (less_by_one k many)

pub number_at_so : (many f k missing : ℕ) → number_at (counting f many) missing k ≡ counted_number missing f many k
number_at_so many f zero missing = refl
number_at_so many f (suc k) missing =
    ap (λ b. unwrap_or (cond b (slice_get (counting f many) k) None) missing) (at_least_one k) ∙ counted_so many f k missing
