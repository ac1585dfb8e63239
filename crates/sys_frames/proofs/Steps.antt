-- Lists one behind the other, and one step down the calls.
use Rattle.std.proofs.Common.{◌≡◌, ℕ, suc, ◌+◌, ◌<◌, List, [], ◌∷◌, length, drop, get_or, append_assoc, sym, ap, ◌∙◌, subst, arith}
use Rattle.std.specs.Prelude.{slice_get}
use Rattle.std.specs.List.{AllByRecursion}
use Rattle.std.proofs.lemmas.List.{append-nil, drop_more}
use Rattle.kind_num.specs.declared.Shape.{Shape}
use Rattle.sys_terms.specs.View.{Formula}
use Rattle.sys_texts.specs.Sights.{Sight, Mode}
use Rattle.sys_tables.specs.Tabled.{Linked, Tabled}
use Rattle.sys_frames.specs.Lists.{Lists, no_lists, joined}
use Rattle.sys_frames.specs.Walked.{CallsHaveRoom, HasRoomWithin, ListsOf, OfCall, call_lists_or_none, called_items, calls_lists, items_below, items_within, lists_below, lists_within, owed_by_calls, owed_within}

abbrev lists : List Shape → List Formula → List Formula → List Formula → List Formula → Lists
lists a b c d e = record { shapes = a; first = b; here = c; next = d; asserts = e }

pub same_lists : (a a' : List Shape) (b b' c c' d d' e e' : List Formula) → a ≡ a' → b ≡ b' → c ≡ c' → d ≡ d' → e ≡ e' → lists a b c d e ≡ lists a' b' c' d' e'
same_lists a a' b b' c c' d d' e e' ha hb hc hd he =
    ap (λ z. lists z b c d e) ha ∙ (ap (λ z. lists a' z c d e) hb ∙ (ap (λ z. lists a' b' z d e) hc
    ∙ (ap (λ z. lists a' b' c' z e) hd ∙ ap (lists a' b' c' d') he)))

pub joined_twice : (a b c : Lists) → joined (joined a b) c ≡ joined a (joined b c)
joined_twice a b c =
    same_lists _ _ _ _ _ _ _ _ _ _ (append_assoc a.shapes b.shapes c.shapes) (append_assoc a.first b.first c.first) (append_assoc a.here b.here c.here)
    (append_assoc a.next b.next c.next) (append_assoc a.asserts b.asserts c.asserts)

pub joined_none : (a : Lists) → joined a no_lists ≡ a
joined_none a =
    same_lists _ _ _ _ _ _ _ _ _ _ (append-nil a.shapes) (append-nil a.first) (append-nil a.here) (append-nil a.next) (append-nil a.asserts)

-- ---- a step on

pub dropped : {A : Type 0} (xs : List A) (i : ℕ) (x : A) → i < length xs → x ≡ get_or xs i x → drop i xs ≡ x ∷ drop (i + 1) xs
dropped xs i x l is = drop_more xs i x l ∙ ap (λ y. y ∷ drop (i + 1) xs) (sym is)

pub all_later : {A : Type 0} (P : A → Type 0) (xs : List A) (x : A) (rest : List A) → xs ≡ x ∷ rest → AllByRecursion P xs → AllByRecursion P rest
all_later P xs x rest e h = (subst (AllByRecursion P) e h).1

pub calls_step : (f : ListsOf) (ts : List Tabled) (s : Sight) (ms : List Mode) (from j : ℕ) (q : Linked) (qs rest : List Linked) (old new all : Lists)
    → qs ≡ q ∷ rest → new ≡ joined old (call_lists_or_none f ts s ms from q (slice_get s.calls j))
    → joined old (calls_lists f ts s ms from j qs) ≡ all → joined new (calls_lists f ts s ms from (j + 1) rest) ≡ all
calls_step f ts s ms from j q qs rest old new all e n h =
    let more : j + 1 ≡ suc j = omega arith in
    ap (λ z. joined z (calls_lists f ts s ms from (j + 1) rest)) n
    ∙ (joined_twice old (call_lists_or_none f ts s ms from q (slice_get s.calls j)) (calls_lists f ts s ms from (j + 1) rest)
    ∙ (ap (λ k. joined old (joined (call_lists_or_none f ts s ms from q (slice_get s.calls j)) (calls_lists f ts s ms from k rest))) more
    ∙ (ap (λ z. joined old (calls_lists f ts s ms from j z)) (sym e) ∙ h)))

-- ---- a step down

module _ (ts : List Tabled) (d k : ℕ) (e : d ≡ suc k) where
  pub room_below : (from : ℕ) (qs : List Linked) → CallsHaveRoom d ts from qs → AllByRecursion (OfCall (HasRoomWithin k ts) ts from) qs
  room_below from qs h = subst (λ z. CallsHaveRoom z ts from qs) e h

  pub items_step : (missing from : ℕ) (qs : List Linked) → called_items (items_within k ts missing) ts from qs ≡ items_below d ts missing from qs
  items_step missing from qs = ap (λ z. items_below z ts missing from qs) (sym e)

  pub lists_step : (missing : ℕ) (s : Sight) (ms : List Mode) (from : ℕ) (qs : List Linked)
      → calls_lists (lists_within k ts missing) ts s ms from 0 qs ≡ lists_below d ts missing s ms from qs
  lists_step missing s ms from qs = ap (λ z. lists_below z ts missing s ms from qs) (sym e)

  pub owed_step : (missing : ℕ) (t : Tabled) (from : ℕ) → owed_by_calls (items_within k ts missing) ts from t.calls ≡ owed_within d ts missing t from
  owed_step missing t from = ap (λ z. owed_within z ts missing t from) (sym e)

-- at the bottom there is nothing
module _ (ts : List Tabled) (d : ℕ) (e : d ≡ 0) where
  pub no_items_step : (missing from : ℕ) (qs : List Linked) → items_below d ts missing from qs ≡ []
  no_items_step missing from qs = ap (λ z. items_below z ts missing from qs) e

  pub no_lists_step : (missing : ℕ) (s : Sight) (ms : List Mode) (from : ℕ) (qs : List Linked) → lists_below d ts missing s ms from qs ≡ no_lists
  no_lists_step missing s ms from qs = ap (λ z. lists_below z ts missing s ms from qs) e

  pub no_owed_step : (missing : ℕ) (t : Tabled) (from : ℕ) → owed_within d ts missing t from ≡ []
  no_owed_step missing t from = ap (λ z. owed_within z ts missing t from) e
