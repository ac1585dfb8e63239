-- The names of frames by the slots of a table.
use Rattle.std.proofs.Common.{◌≡◌, ℕ, Bool, true, false, cond, ◌||◌, List, [], ◌∷◌, append-nil, Option, Some, None, refl, sym, ap, ◌∙◌}
use Rattle.std.specs.List.{AllByRecursion}
use Rattle.std.specs.Option.{option_map_or}
use Rattle.std.specs.Str.{bytes_eq}
use Rattle.std.proofs.lemmas.Bool.{false≢true}
use Rattle.lus_tree.specs.Tree.{Name, Variable}
use Rattle.lus_meaning.specs.Depends.{named_in}
use Rattle.lus_meaning.specs.Frame.{Frame, entry}
use Rattle.lus_meaning.specs.Replay.{frame_on}
use Rattle.lus_meaning.specs.Scene.{Instance, component_of, variables}
use Rattle.lus_meaning.specs.Value.{Stream, absent}
use Rattle.lus_streams.specs.Streams.{names_of}
use Rattle.lus_evaluation.specs.Evaluation.{instance_on}
use Rattle.lus_evaluation.specs.Part.{Part}
use Rattle.name_table.proofs.Names.{itself}
use Rattle.sys_meaning.specs.Slot.{named, own}
use Rattle.sys_meaning.specs.System.{number_of}
use Rattle.slot_values.specs.Evaluated.{SlotValues}
use Rattle.evaluation_laws.specs.Rows.{numbers_there}
use Rattle.frame_names.specs.Slots.{slot_there}
use Rattle.replay_laws.specs.Replayed.{HaveNames}
use Rattle.program_replay.specs.Answer.{SameValues, value_of}

-- what is so of each name of these is so of each of the variables, since each is named
module _ (vs : List Variable) where
  named_there : (us : List Variable) → ((x : Name) → named_in x (names_of us) ≡ true → named_in x (names_of vs) ≡ true)
      → AllByRecursion (λ v. named_in v.name.text (names_of vs) ≡ true) us
  named_there [] h = tt
  named_there (u ∷ us) h = (
    h u.name.text (here (bytes_eq u.name.text u.name.text) (named_in u.name.text (names_of us)) (itself u.name.text)),
    named_there us (λ x e. h x (there (bytes_eq x u.name.text) (named_in x (names_of us)) e)),
  )
    where
      here : (a b : Bool) → a ≡ true → (a || b) ≡ true
      here true b e = refl
      here false b e = absurd (false≢true e)

      there : (a b : Bool) → b ≡ true → (a || b) ≡ true
      there true b e = refl
      there false b e = e

  pub all_named : AllByRecursion (λ v. named_in v.name.text (names_of vs) ≡ true) vs
  all_named = named_there vs (λ x e. e)

-- slots are known by their names, and what is shown of slots is what these rows have
module _ (i : Instance) (slot : List ℕ → Name → Option ℕ) (knows : (w : List ℕ) (x : Name) → slot w x ≡ slot_there i w x) (slots : ℕ → Stream)
    (values : ℕ → SlotValues) (in_rows : (k t : ℕ) → slots k t ≡ values t k) where
  abbrev names_at : List ℕ → List Name
  names_at w = names_of (variables (component_of (instance_on i w)))

  value_at : (w : List ℕ) (x : Name) (t : ℕ) → named_in x (names_at w) ≡ true → value_of slot slots w x t ≡ values t (numbers_there i w (own (named x)))
  value_at w x t e =
      ap (λ o. option_map_or (λ k. slots k t) o absent) (knows w x)
      ∙ ap (λ b. option_map_or (λ k. slots k t) (cond b (Some (number_of i (w, named x))) None) absent) e
      ∙ in_rows (number_of i (w, named x)) t
      ∙ ap (λ v. values t (number_of i (v, named x))) (sym (append-nil w))

  pub no_value : (w : List ℕ) (x : Name) → named_in x (names_at w) ≡ false → (t : ℕ) → value_of slot slots w x t ≡ absent
  no_value w x e t =
      ap (λ o. option_map_or (λ k. slots k t) o absent) (knows w x)
      ∙ ap (λ b. option_map_or (λ k. slots k t) (cond b (Some (number_of i (w, named x))) None) absent) e

  module _ (f : Frame) where
    each_value : (w : List ℕ) (vs : List Variable) → AllByRecursion (λ v. named_in v.name.text (names_at w) ≡ true) vs
        → AllByRecursion (λ v. (t : ℕ) → values t (numbers_there i w (own (named v.name.text))) ≡ entry (frame_on f w) v.name.text t) vs
        → AllByRecursion (λ v. (t : ℕ) → value_of slot slots w v.name.text t ≡ entry (frame_on f w) v.name.text t) vs
    each_value w [] a h = tt
    each_value w (v ∷ vs) a h = (λ t. value_at w v.name.text t a.0 ∙ h.0 t, each_value w vs a.1 h.1)

    -- rows with the names of a frame have them in the answer
    pub same_values : (w : List ℕ) → HaveNames i f values w → SameValues i (value_of slot slots) (λ path x t. entry (frame_on f path) x t) w
    same_values w h =
        each_value w (variables (component_of (instance_on i w))) (all_named (variables (component_of (instance_on i w)))) h

    pub same_in_all : (qs : List Part) → AllByRecursion (λ q. HaveNames i f values q.way) qs
        → AllByRecursion (λ q. SameValues i (value_of slot slots) (λ path x t. entry (frame_on f path) x t) q.way) qs
    same_in_all [] h = tt
    same_in_all (q ∷ qs) h = (same_values q.way h.0, same_in_all qs h.1)
