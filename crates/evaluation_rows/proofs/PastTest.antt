-- Where the first value outside 128 bits stands: tests that compute.
use Rattle.std.proofs.Common.{◌≡◌, ℕ, suc, ◌<◌, Bool, true, List, [], ◌∷◌, ◌++◌, Option, Some, None, get_or, take, drop, refl}
use Rattle.std.specs.List.{list_all}
use Rattle.std.specs.Option.{is_none}
use Rattle.std.proofs.lemmas.Bool.{false≢true}
use Rattle.lus_tree.specs.declared.place.Pos.{Pos}
use Rattle.kind_num.specs.declared.Past.{Past}
use Rattle.lus_meaning.specs.Frame.{Frame}
use Rattle.lus_meaning.specs.Scene.{Instance}
use Rattle.lus_meaning.specs.Occurrences.{own}
use Rattle.lus_meaning.proofs.FirstFault.{both}
use Rattle.lus_evaluation.specs.Part.{Part}
use Rattle.lus_evaluation.specs.Past.{part_past, NonePast, IsWithin, IsFirstPast}
use Rattle.evaluation_rows.proofs.LeastTest.{all_below, each_below}
use Rattle.evaluation_rows.proofs.EvaluationTest.{no_part}

none_by : (o : Option Past) → is_none o ≡ true → o ≡ None
none_by None e = refl
none_by (Some p) e = absurd (false≢true e)

module _ (i : Instance) (f : Frame) where
  abbrev pub none_past : List Part → ℕ → Bool
  none_past qs t = list_all (λ q. is_none (part_past i f q t)) qs

  pub none_past_by : (qs : List Part) (t : ℕ) → none_past qs t ≡ true → NonePast i f qs t
  none_past_by [] t e = tt
  none_past_by (q ∷ qs) t e =
      let h : (is_none (part_past i f q t) ≡ true) × (none_past qs t ≡ true) = both (is_none (part_past i f q t)) (none_past qs t) e in
      (none_by (part_past i f q t) h.0, none_past_by qs t h.1)

  pub within_by : (qs : List Part) (n : ℕ) → all_below n (none_past qs) ≡ true → IsWithin i f qs n
  within_by qs n e t l = none_past_by qs t (each_below n (none_past qs) e t l)

  -- the part with this number, counted from 0
  pub first_by : (qs : List Part) (k n : ℕ) (at : Pos) (t : ℕ) (past : Past) → qs ≡ take k qs ++ get_or qs k no_part ∷ drop (suc k) qs →
      t < n → all_below t (none_past qs) ≡ true → none_past (take k qs) t ≡ true → at ≡ own (get_or qs k no_part).expression →
      part_past i f (get_or qs k no_part) t ≡ Some past → IsFirstPast i f qs n at t past
  first_by qs k n at t past s l e b p o = record {
    below = l;
    earlier = within_by qs t e;
    front = take k qs;
    part = get_or qs k no_part;
    rest = drop (suc k) qs;
    split = s;
    before = none_past_by (take k qs) t b;
    place = p;
    outside = o;
  }
