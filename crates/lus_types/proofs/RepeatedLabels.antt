-- Labels that stand twice.
use Rattle.std.proofs.Common.{◌≡◌, ℕ, suc, ◌<◌, drop, get_or, length, take, ◌-◌, Bool, true, false, ◌&&◌, ◌||◌, List, [], ◌∷◌, map, refl, ap, ◌∙◌, sym, subst, arith, Option}
use Rattle.std.specs.Str.{bytes_eq}
use Rattle.std.proofs.Math.Logic.{◌⊎◌, inl, inr}
use Rattle.std.proofs.lemmas.Bool.{cases_Bool}
use Rattle.std.proofs.Math.Seq.{drop-cons}
use Rattle.std.proofs.lemmas.List.{take_all, length-drop}
use Rattle.lus_tree.specs.Tree.{Name}
use Rattle.lus_tree.specs.Reason.{Refused, name_twice}
use Rattle.lus_meaning.specs.Depends.{named_in}
use Rattle.lus_meaning.specs.Faults.{meets}
use Rattle.lus_meaning.specs.NameFaults.{Tag, same_tag, tags_twice}
use Rattle.lus_meaning.proofs.Unique.{same_bytes}
use Rattle.name_table.specs.Names.{add}
use Rattle.name_table.proofs.Names.{in_joined}
use Rattle.lus_types.specs.declared.labels.Label.{Label}
use Rattle.lus_types.specs.Labels.{HasLabels, label_view, labels_view, tags_from_last}
use Rattle.lus_scopes.specs.Least.{noted_all}
use Rattle.lus_scopes.specs.Notes.{Notes}
use Rattle.lus_scopes.proofs.Leasts.{noted_append}
use Rattle.lus_scopes.proofs.Walks.{failing, failing_append}
use Rattle.lus_scopes.proofs.Alike.{AreSame, least_behind}
use Rattle.lus_types.proofs.CircleFaults.{or_false}

abbrev met : Tag → List Tag → List Refused
met t ts = meets same_tag (λ l. l.2) name_twice t ts

and_last : (a : Bool) → (a && false) ≡ false
and_last true = refl
and_last false = refl

-- a label whose text stands nowhere behind it meets none
nowhere : (t : Tag) (ts : List Tag) → named_in t.1 (map (λ l. l.1) ts) ≡ false → met t ts ≡ []
nowhere t [] f = refl
nowhere t (u ∷ us) f =
    let h : (bytes_eq t.1 u.1 ≡ false)
    × (named_in t.1 (map (λ l. l.1) us) ≡ false) = or_false (bytes_eq t.1 u.1) (named_in t.1 (map (λ l. l.1) us)) f in
    rw (h.0, and_last (bytes_eq t.0 u.0)) (nowhere t us h.1)

pub none_met : (seen : List Name) (t : Tag) (ts : List Tag) → HasLabels seen ts → named_in t.1 seen ≡ false → met t ts ≡ []
none_met seen t ts h f = nowhere t ts (sym (h t.1) ∙ f)

or_swap : (a b : Bool) → (a || (b || false)) ≡ (b || a)
or_swap true true = refl
or_swap true false = refl
or_swap false true = refl
or_swap false false = refl

pub seen_one_more : (seen : List Name) (t : Tag) (ts : List Tag) → HasLabels seen ts → HasLabels (add seen t.1) (t ∷ ts)
seen_one_more seen t ts h x = go (cases_Bool (named_in t.1 seen)) (cases_Bool (bytes_eq x t.1))
  where
    go : (named_in t.1 seen ≡ true) ⊎ (named_in t.1 seen ≡ false) → (bytes_eq x t.1 ≡ true) ⊎ (bytes_eq x t.1 ≡ false)
        → named_in x (add seen t.1) ≡ (bytes_eq x t.1 || named_in x (map (λ l. l.1) ts))
    go (inl e) (inl q) = rw (e, q) (subst (λ z. named_in z seen ≡ true) (sym (same_bytes x t.1 q)) e)
    go (inl e) (inr f) = rw (e, f) (h x)
    go (inr e) b = rw e (in_joined x seen (t.1 ∷ []) ∙ (or_swap (named_in x seen) (bytes_eq x t.1) ∙ ap (λ c. bytes_eq x t.1 || c) (h x)))

-- the same faults in another order
same_twice : (p : Refused → Bool) (ts : List Tag) → failing p (tags_from_last ts) ≡ failing p (tags_twice ts)
same_twice p [] = refl
same_twice p (t ∷ ts) = omega
    (arith, failing_append p (tags_from_last ts) (met t ts), failing_append p (met t ts) (tags_twice ts), same_twice p ts)

are_same : (ts : List Tag) → AreSame (tags_from_last ts) (tags_twice ts)
are_same ts p = record { there = λ e. sym (same_twice p ts) ∙ e; back = λ e. same_twice p ts ∙ e }

pub whole_rest : (labels : List Label) (k : ℕ) → take (length labels - k) (drop k labels) ≡ drop k labels
whole_rest labels k = take_all (length labels - k) (drop k labels) (rw (length-drop k labels) (omega arith))

-- one label more, in front of those from there on
module _ (labels : List Label) (k : ℕ) (l : Label) (within : k < length labels) (is : l ≡ get_or labels k l) where
  front : drop k labels ≡ l ∷ drop (suc k) labels
  front = drop-cons labels k l within ∙ ap (λ y. y ∷ drop (suc k) labels) (sym is)

  pub noted_front : (o p q : Option Refused) → p ≡ noted_all o (tags_from_last (labels_view (drop (suc k) labels)))
      → q ≡ noted_all p (met (label_view l) (labels_view (drop (suc k) labels))) → q ≡ noted_all o (tags_from_last (labels_view (drop k labels)))
  noted_front o p q e f = rw front (f
      ∙ (rw e (sym (noted_append o (tags_from_last (labels_view (drop (suc k) labels))) (met (label_view l) (labels_view (drop (suc k) labels)))))))

  pub seen_front : (t u : List Name) → u ≡ add t l.text.now → HasLabels t (labels_view (drop (suc k) labels)) → HasLabels u (labels_view (drop k labels))
  seen_front t u e h = rw (front, e) (seen_one_more t (label_view l) (labels_view (drop (suc k) labels)) h)

-- all of them
pub all_noted : (o q : Option Refused) (labels : List Label) (left : ℕ) → left ≡ 0
    → q ≡ noted_all o (tags_from_last (labels_view (drop left labels))) → Notes o q (tags_twice (labels_view labels))
all_noted o q labels left z e fs i =
    least_behind o q fs (tags_from_last (labels_view labels)) (tags_twice (labels_view labels)) (rw z at e) (are_same (labels_view labels)) i
