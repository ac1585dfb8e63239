-- Words that stand twice.
use Rattle.std.proofs.Common.{◌≡◌, add-one, ℕ, suc, ◌<◌, Bor, drop, get_or, length, take, ◌+◌, ◌-◌, Bool, true, false, ◌||◌, List, [], ◌∷◌, ◌++◌, map, refl, ap, ◌∙◌, sym, subst, arith, Option}
use Rattle.std.specs.Str.{bytes_eq}
use Rattle.std.proofs.Math.Logic.{◌⊎◌, inl, inr}
use Rattle.std.proofs.lemmas.Bool.{cases_Bool}
use Rattle.std.proofs.Math.Seq.{drop-cons}
use Rattle.std.proofs.lemmas.List.{take_all, length-drop}
use Rattle.lus_tree.specs.declared.place.PlacedName.{PlacedName}
use Rattle.lus_tree.specs.View.{word_view}
use Rattle.lus_types.specs.Words.{words_view}
use Rattle.lus_scopes.proofs.Leasts.{noted_append}
use Rattle.lus_tree.specs.Tree.{Name, Spelled, text_of}
use Rattle.lus_tree.specs.Reason.{Refused, name_twice}
use Rattle.lus_meaning.specs.Depends.{named_in}
use Rattle.lus_meaning.specs.Faults.{meets, same_word, words_twice}
use Rattle.lus_meaning.specs.NameFaults.{outer_twice}
use Rattle.lus_meaning.proofs.Unique.{same_bytes}
use Rattle.name_table.specs.Names.{add}
use Rattle.name_table.proofs.Names.{in_joined}
use Rattle.lus_scopes.specs.Least.{IsLeast, noted_all}
use Rattle.lus_types.specs.Repeated.{HasSeen, twice_from_last}
use Rattle.lus_scopes.proofs.Walks.{failing, failing_append}
use Rattle.lus_scopes.proofs.Alike.{AreSame, least_behind}
use Rattle.lus_types.proofs.CircleFaults.{or_false}

abbrev met : Spelled → List Spelled → List Refused
met w ws = meets same_word (λ w. w.at) name_twice w ws

-- a word whose text stands nowhere behind it meets none
nowhere : (w : Spelled) (ws : List Spelled) → named_in w.text (map text_of ws) ≡ false → met w ws ≡ []
nowhere w [] f = refl
nowhere w (v ∷ vs) f =
    let h : (bytes_eq w.text v.text ≡ false)
    × (named_in w.text (map text_of vs) ≡ false) = or_false (bytes_eq w.text v.text) (named_in w.text (map text_of vs)) f in
    rw h.0 (nowhere w vs h.1)

pub none_met : (t : List Name) (w : Spelled) (ws : List Spelled) → HasSeen t ws → named_in w.text t ≡ false → met w ws ≡ []
none_met t w ws h f = nowhere w ws (sym (h w.text) ∙ f)

or_swap : (a b : Bool) → (a || (b || false)) ≡ (b || a)
or_swap true true = refl
or_swap true false = refl
or_swap false true = refl
or_swap false false = refl

pub seen_one_more : (t : List Name) (w : Spelled) (ws : List Spelled) → HasSeen t ws → HasSeen (add t w.text) (w ∷ ws)
seen_one_more t w ws h x = go (cases_Bool (named_in w.text t)) (cases_Bool (bytes_eq x w.text))
  where
    go : (named_in w.text t ≡ true) ⊎ (named_in w.text t ≡ false) → (bytes_eq x w.text ≡ true) ⊎ (bytes_eq x w.text ≡ false)
        → named_in x (add t w.text) ≡ (bytes_eq x w.text || named_in x (map text_of ws))
    go (inl e) (inl q) = rw (e, q) (subst (λ z. named_in z t ≡ true) (sym (same_bytes x w.text q)) e)
    go (inl e) (inr f) = rw (e, f) (h x)
    go (inr e) b = rw e (in_joined x t (w.text ∷ []) ∙ (or_swap (named_in x t) (bytes_eq x w.text) ∙ ap (λ c. bytes_eq x w.text || c) (h x)))

-- the same faults in another order
same_twice : (p : Refused → Bool) (ws : List Spelled) → failing p (twice_from_last ws) ≡ failing p (words_twice name_twice ws)
same_twice p [] = refl
same_twice p (w ∷ ws) = omega
    (arith, failing_append p (twice_from_last ws) (met w ws), failing_append p (met w ws) (words_twice name_twice ws), same_twice p ws)

are_same : (ws : List Spelled) → AreSame (twice_from_last ws) (words_twice name_twice ws)
are_same ws p = record { there = λ e. sym (same_twice p ws) ∙ e; back = λ e. same_twice p ws ∙ e }

pub twice_noted : (o q : Option Refused) (fs : List Refused) (ws : List Spelled) → q ≡ noted_all o (twice_from_last ws) → IsLeast o fs
    → IsLeast q (fs ++ words_twice name_twice ws)
twice_noted o q fs ws e i = least_behind o q fs (twice_from_last ws) (words_twice name_twice ws) e (are_same ws) i

pub whole_rest : (words : List (Bor PlacedName)) (k : ℕ) → take (length words - k) (drop k words) ≡ drop k words
whole_rest words k = take_all (length words - k) (drop k words) (rw (length-drop k words) (omega arith))

-- one word more, in front of those from there on
module _ (words : List (Bor PlacedName)) (k : ℕ) (w : Bor PlacedName) (within : k < length words) (is : w ≡ get_or words k w) where
  front : drop k words ≡ w ∷ drop (suc k) words
  front = drop-cons words k w within ∙ ap (λ y. y ∷ drop (suc k) words) (sym is)

  pub noted_front : (o p q : Option Refused) → p ≡ noted_all o (twice_from_last (words_view (drop (suc k) words)))
      → q ≡ noted_all p (met (word_view w.now) (words_view (drop (suc k) words))) → q ≡ noted_all o (twice_from_last (words_view (drop k words)))
  noted_front o p q e f = rw front (f
      ∙ (rw e (sym (noted_append o (twice_from_last (words_view (drop (suc k) words))) (met (word_view w.now) (words_view (drop (suc k) words)))))))

  pub seen_front : (t u : List Name) → u ≡ add t (word_view w.now).text → HasSeen t (words_view (drop (suc k) words)) → HasSeen u (words_view (drop k words))
  seen_front t u e h = rw (front, e) (seen_one_more t (word_view w.now) (words_view (drop (suc k) words)) h)

  pub outer_front : (outer : List Spelled) (o p q : Option Refused) → noted_all o (outer_twice outer (words_view (drop k words))) ≡ q
      → p ≡ noted_all o (met (word_view w.now) outer) → noted_all p (outer_twice outer (words_view (drop (k + 1) words))) ≡ q
  outer_front outer o p q e f = rw (add-one, f)
      (sym (noted_append o (met (word_view w.now) outer) (outer_twice outer (words_view (drop (suc k) words)))) ∙ (rw front at e))

-- all of them
pub all_noted : (o q : Option Refused) (fs : List Refused) (words : List (Bor PlacedName)) (left : ℕ) → left ≡ 0
    → q ≡ noted_all o (twice_from_last (words_view (drop left words))) → IsLeast o fs → IsLeast q (fs ++ words_twice name_twice (words_view words))
all_noted o q fs words left z e i = twice_noted o q fs (words_view words) (rw z at e) i
