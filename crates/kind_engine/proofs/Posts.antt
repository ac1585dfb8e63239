-- What a seat posts, one after the other.
use Rattle.std.specs.Prelude.{ℕ, ◌≡◌, ◌≢◌, ◌≤◌, ◌++◌, List, [], ◌∷◌, All}
use Rattle.std.specs.List.{AllByRecursion}
use Rattle.std.proofs.Common.{sym, subst, ap, ◌∙◌, append_assoc, arith}
use Rattle.std.proofs.lemmas.List.Elements.{All-from_recursion, recursion_from_All, All-append, All-nil, All-weaker}
use Rattle.board_core.specs.Entries.{Claim, proved, broken, stuck, spent, Posting}
use Rattle.board_core.specs.Seats.{Begins, AreOthers, HasPosted, HasSeen}
use Rattle.kind_engine.specs.Posts.{IsOwn, IsPost, Grows}
use Rattle.kind_engine.proofs.Lists.{and-none}

-- a smaller least front
pub post-less : (m n : ℕ) → n ≤ m → (says : Claim) → IsPost m says → IsPost n says
post-less m n l (proved fact) h = h
post-less m n l (broken p path) h = h
post-less m n l (stuck p path front) h = let k : m ≤ front = h.0 in ((omega arith), tt)
post-less m n l (spent engine p why grounds) h = (tt, h.1)

-- what says less
pub grows-weaker : (P Q : Claim → Type 0) (number : ℕ) (before after : List Posting) → ((says : Claim) → P says → Q says)
    → Grows P number before after → Grows Q number before after
grows-weaker P Q number before after f h = record {
  rest = h.rest;
  all = h.all;
  own = All-weaker (IsOwn P number) (IsOwn Q number) (λ i k e. f i.says (k e)) h.rest h.own;
}

module _ (P : Claim → Type 0) (number : ℕ) where
  pub grows-grows : (xs ys zs : List Posting) → Grows P number xs ys → Grows P number ys zs → Grows P number xs zs
  grows-grows xs ys zs a b = record {
    rest = a.rest ++ b.rest;
    all = b.all ∙ (ap (λ l. l ++ b.rest) a.all ∙ append_assoc xs a.rest b.rest);
    own = All-append (IsOwn P number) a.rest b.rest a.own b.own;
  }

  others-each : (others : List Posting) → AllByRecursion (λ (i : Posting). i.seat ≢ number) others
      → AllByRecursion (IsOwn P number) others
  others-each [] h = tt
  others-each (i ∷ others) h = (λ e. absurd (h.0 e), others-each others h.1)

  others-own : (others : List Posting) → AreOthers number others → All (IsOwn P number) others
  others-own others h =
      All-from_recursion (IsOwn P number) others
      (others-each others (recursion_from_All (λ (i : Posting). i.seat ≢ number) others h))

  -- entries of others
  pub grows-seen : (before after : List Posting) → HasSeen number before after → Grows P number before after
  grows-seen before after h = record { rest = h.others; all = h.all; own = others-own h.others h.are_others }

  -- an entry of its own
  pub grows-posted : (before after : List Posting) (says : Claim) (place : ℕ) → HasPosted number before after says place
      → P says → Grows P number before after
  grows-posted before after says place h own =
      let last : Posting = record { seat = number; says = says } in record {
        rest = h.others ++ last ∷ [];
        all = h.all ∙ append_assoc before h.others (last ∷ []);
        own = All-append (IsOwn P number) h.others (last ∷ []) (others-own h.others h.are_others)
            (All-from_recursion (IsOwn P number) (last ∷ []) ((λ e. own), tt));
      }

-- one after the other, where the number stays
pub grows-then : (P : Claim → Type 0) (number other : ℕ) (xs ys zs : List Posting) → other ≡ number
    → Grows P number xs ys → Grows P other ys zs → Grows P number xs zs
grows-then P number other xs ys zs e a b =
    grows-grows P number xs ys zs a (subst (λ n. Grows P n ys zs) e b)
