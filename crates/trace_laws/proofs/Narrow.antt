-- Numbers below 2^63 in size are small.
use Rattle.std.proofs.Common.{◌≡◌, true, List, [], ◌∷◌, ◌&&◌, refl, arith}
use Rattle.std.specs.Prelude.{pos, negsuc, ℤ}
use Rattle.std.specs.List.{AllByRecursion}
use Rattle.std.proofs.lemmas.List.Elements.{recursion_from_All}
use Rattle.lus_tree.specs.declared.place.Sort.TheVariants.{Int as Numbers}
use Rattle.lus_meaning.specs.Value.{whole}
use Rattle.lus_meaning.specs.Fits.{is_of_sort}
use Rattle.sys_terms.specs.declared.term.Entry.{Entry}
use Rattle.sys_terms.specs.declared.term.Entry.TheVariants as entries
use Rattle.sys_terms.specs.Fits.{is_narrow, is_narrow_entry, is_narrow_number}
use Rattle.sys_meaning.proofs.Shows.{same_both}
use Rattle.path_laws.specs.Laws.{is_small_entry, HasSmallNumbers}
use Rattle.trace_laws.specs.Laws.{NarrowAreSmall}

small_number : (z : ℤ) → is_narrow_number z ≡ true → is_of_sort Numbers (whole z) ≡ true
unfolding is_narrow_number
small_number (pos n) h = grind (arith, h)
small_number (negsuc n) h = grind (arith, h)

small_entry : (e : Entry) → is_narrow_entry e ≡ true → is_small_entry e ≡ true
small_entry (entries.Flag b) h = refl
small_entry (entries.Number z) h = small_number z h

small_state : (s : List Entry) → is_narrow s ≡ true → AllByRecursion (λ e. is_small_entry e ≡ true) s
small_state [] h = tt
small_state (e ∷ s) h =
    let r = same_both (is_narrow_entry e) (is_narrow s) h in (small_entry e r.0, small_state s r.1)

small_states : (states : List (List Entry)) → AllByRecursion (λ s. is_narrow s ≡ true) states → HasSmallNumbers states
small_states [] h = tt
small_states (s ∷ states) h = (small_state s h.0, small_states states h.1)

pub narrow_are_small : NarrowAreSmall
narrow_are_small states h = small_states states (recursion_from_All (λ s. is_narrow s ≡ true) states h)
