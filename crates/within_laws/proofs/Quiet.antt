-- Where no part's resolution has an operation outside 128 bits, all parts are within.
use Rattle.std.proofs.Common.{◌≡◌, ℕ, List, [], ◌∷◌, ◌++◌, refl, ap, ◌∙◌, sym, Option, Some, None}
use Rattle.lus_tree.specs.declared.place.Pos.{Pos}
use Rattle.kind_num.specs.declared.Past.{Past}
use Rattle.lus_meaning.specs.Frame.{Frame}
use Rattle.lus_meaning.specs.Scene.{Instance}
use Rattle.lus_meaning.specs.Occurrences.{own}
use Rattle.lus_meaning.proofs.Lists.{both_parts}
use Rattle.lus_evaluation.specs.Part.{Part}
use Rattle.lus_evaluation.specs.Past.{part_past, NonePast}
use Rattle.slot_values.specs.Evaluated.{told}
use Rattle.order_laws.specs.Laws.{OwnPastInOrder}
use Rattle.order_laws.proofs.Lists.{grouped}
use Rattle.order_laws.proofs.FirstByRows.{parts_have_own_past}
use Rattle.within_laws.specs.Laws.{AreQuiet, QuietPartsAreWithin, PartsWithinAreQuiet}

none_told : (at : Pos) (o : Option Past) → told at o ≡ [] → o ≡ None
none_told at None e = refl
none_told at (Some x) e = cc

module _ (i : Instance) (f : Frame) (t : ℕ) (qs : List Part) (own_one : OwnPastInOrder i f t qs) where
  abbrev Fine : Part → Type 0
  Fine q = part_past i f q t ≡ None

  further : (done rest : List Part) (q : Part) → qs ≡ done ++ q ∷ rest → qs ≡ (done ++ q ∷ []) ++ rest
  further done rest q e = e ∙ sym (grouped done (q ∷ []) rest)

  all_fine : (done rest : List Part) → qs ≡ done ++ rest → NonePast i f done t → AreQuiet i f t rest → NonePast i f rest t
  all_fine done [] e a h = tt
  all_fine done (q ∷ rest) e a h =
      let mine : Fine q = none_told (own q.expression) (part_past i f q t) (sym (own_one done q rest e a) ∙ h.0) in
      (mine, all_fine (done ++ q ∷ []) rest (further done rest q e) (both_parts Fine done (q ∷ []) a (mine, tt)) h.1)

  all_quiet : (done rest : List Part) → qs ≡ done ++ rest → NonePast i f done t → NonePast i f rest t → AreQuiet i f t rest
  all_quiet done [] e a h = tt
  all_quiet done (q ∷ rest) e a h = (
    own_one done q rest e a ∙ ap (told (own q.expression)) h.0,
    all_quiet (done ++ q ∷ []) rest (further done rest q e) (both_parts Fine done (q ∷ []) a (h.0, tt)) h.1,
  )

pub quiet_parts_are_within : QuietPartsAreWithin
quiet_parts_are_within p c n j qs ev m f run t l h =
    all_fine _ f t qs (parts_have_own_past p c n j qs ev m f run t l) [] qs refl tt h

pub parts_within_are_quiet : PartsWithinAreQuiet
parts_within_are_quiet p c n j qs ev m f run t l h =
    all_quiet _ f t qs (parts_have_own_past p c n j qs ev m f run t l) [] qs refl tt h
