-- What is gotten of a list, as it is seen.
use Rattle.std.proofs.Common.{◌≡◌, ℕ, List, map, Option, Some, None, option_map, refl, sym, ap, ◌∙◌, Bor}
use Rattle.std.specs.Prelude.{slice_get}
use Rattle.std.specs.Option.{option_copied}
use Rattle.std.proofs.lemmas.Option.{slice_get-map}

seen_through : {A B : Type 0} (f : A → B) (o : Option (Bor A)) → option_map (λ c. f c.now) o ≡ option_map f (option_copied o)
seen_through f None = refl
seen_through f (Some c) = refl

pub seen_at : {A B : Type 0} (f : A → B) (xs : List A) (k : ℕ) (o : Option (Bor A)) → option_copied o ≡ slice_get xs k
    → option_map (λ c. f c.now) o ≡ slice_get (map f xs) k
seen_at f xs k o e = seen_through f o ∙ ap (option_map f) e ∙ sym (slice_get-map f xs k)
