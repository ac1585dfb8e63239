-- What verdicts say, and how what entries say of a property grows with them.
use Rattle.std.specs.Prelude.{ℕ, suc, ◌≡◌, ◌==◌, ◌+◌, ◌++◌, ◌||◌, Bool, true, false, cond, ◌&&◌, List, [], ◌∷◌, Some, slice_get, refl, take}
use Rattle.std.proofs.Common.{ap, sym, subst, arith, rules}
use Rattle.sys_terms.specs.declared.term.Entry.{Entry as Cell}
use Rattle.sys_terms.specs.View.{Machine}
use Rattle.sys_terms.specs.Paths.{Breaks}
use Rattle.sys_terms.specs.Fits.{IsFit}
use Rattle.cert_rules.specs.declared.held.Reason.{Reason}
use Rattle.cert_rules.specs.declared.held.Reason.TheVariants.{Both, By}
use Rattle.cert_rules.specs.Facts.{Fact, base_fact, step_fact, lemma_fact, held_fact, held_by_fact, other_fact, IsHeldOf}
use Rattle.cert_rules.specs.Kept.{reason_at}
use Rattle.board_core.specs.declared.plan.Plan.{Plan}
use Rattle.board_core.specs.Entries.{Claim, proved, broken, stuck, spent, Posting, IsTrueAfter, AreSound, fact_in}
use Rattle.board_core.specs.View.{fact_said, held_said}
use Rattle.board_core.specs.Interleaving.{BookHolds}
use Rattle.board_core.specs.Verdicts.{Judged, valid_by, falsifiable_by, fact_holds, holds, breaks, judged_by, judged_from, judged, decides, BreaksBy, IsJudged}
use Rattle.board_core.specs.Seats.{Begins, has_cause, is_spent}
use Rattle.board_core.proofs.Sound.{fact-at}

-- ---- a held fact, whatever holds it

pub held-holds : (p q a b : ℕ) (r : Reason) → fact_holds p (reason_at q a b r) ≡ (q == p)
held-holds p q a b (Both base step) = refl
held-holds p q a b (By lemma proof) = refl

pub held-said : (q a b : ℕ) (r : Reason) → fact_said (reason_at q a b r) ≡ held_said q
held-said q a b (Both base step) = refl
held-said q a b (By lemma proof) = refl

-- ---- verdicts

same-numbers : (a b : ℕ) → (a == b) ≡ true → a ≡ b
same-numbers a b e = search (rules, arith)

holds-held : (p : ℕ) (f : Fact) → fact_holds p f ≡ true → IsHeldOf p f
holds-held p (base_fact q d cites proofs) e = absurd cc
holds-held p (step_fact q k cites proof) e = absurd cc
holds-held p (lemma_fact f cites first next) e = absurd cc
holds-held p (held_fact q a b) e = same-numbers q p e
holds-held p (held_by_fact q a proof) e = same-numbers q p e
holds-held p other_fact e = absurd cc

claim-held : (p : ℕ) (says : Claim) → holds p says ≡ true → IsHeldOf p (fact_in says)
claim-held p (proved f) e = holds-held p f e
claim-held p (broken q path) e = absurd cc
claim-held p (stuck q path front) e = absurd cc
claim-held p (spent engine q why grounds) e = absurd cc

abbrev Breaking : Machine → ℕ → Claim → Type 0
Breaking m p says = (states : List (List Cell)) × (says ≡ broken p states) × Breaks m p states

some-breaks : (m : Machine) (plan : Plan) (earlier : List Posting) (p : ℕ) (says : Claim)
    → breaks p says ≡ true → IsTrueAfter m plan earlier says → Breaking m p says
some-breaks m plan earlier p (proved f) e t = absurd cc
some-breaks m plan earlier p (broken q path) e t =
    let same = same-numbers q p e in
    (path, ap (λ n. broken n path) same, subst (λ n. Breaks m n path) same t.breaks)
some-breaks m plan earlier p (stuck q path front) e t = absurd cc
some-breaks m plan earlier p (spent engine q why grounds) e t = absurd cc

pub data Test (b : Bool) : Type 0 where
  on : b ≡ true → Test b
  off : b ≡ false → Test b

pub test : (b : Bool) → Test b
test true = on refl
test false = off refl

module _ (m : Machine) (plan : Plan) (whole : List Posting) (p : ℕ)
    (book : BookHolds m whole) (sound : AreSound m plan whole) where
  here-true : (n : ℕ) (i : Posting) (later : Judged) → slice_get whole n ≡ Some i → IsJudged m p whole later
      → Test (holds p i.says) → Test (breaks p i.says) → IsJudged m p whole (judged_by n p i.says later)
  here-true n i later at h (on e) b =
      subst (λ t. IsJudged m p whole (cond t (valid_by n) (cond (breaks p i.says) (falsifiable_by n) later))) (sym e)
      (book.held n p (fact_in i.says) (fact-at whole n i at) (claim-held p i.says e))
  here-true n i later at h (off e) (on b) =
      subst (λ t. IsJudged m p whole (cond t (valid_by n) (cond (breaks p i.says) (falsifiable_by n) later))) (sym e)
      (subst (λ t. IsJudged m p whole (cond t (falsifiable_by n) later)) (sym b)
      (subst (BreaksBy m p) (sym at) (some-breaks m plan (take n whole) p i.says b (sound n i at))))
  here-true n i later at h (off e) (off b) =
      subst (λ t. IsJudged m p whole (cond t (valid_by n) (cond (breaks p i.says) (falsifiable_by n) later))) (sym e)
      (subst (λ t. IsJudged m p whole (cond t (falsifiable_by n) later)) (sym b) h)

  from-true : (n : ℕ) (rest : List Posting) → ((k j : ℕ) → j ≡ n + k → slice_get rest k ≡ slice_get whole j)
      → IsJudged m p whole (judged_from n p rest)
  from-true n [] at = tt
  from-true n (i ∷ rest) at =
      here-true n i (judged_from (suc n) p rest) (sym (at 0 n (omega arith)))
      (from-true (suc n) rest (λ k j e. at (suc k) j (omega arith)))
      (test (holds p i.says)) (test (breaks p i.says))

same-place : (k j : ℕ) → j ≡ 0 + k → k ≡ j
same-place k j e = omega arith

pub verdict-true : ((m : Machine) (plan : Plan) (history : List Posting) → IsFit m → AreSound m plan history → BookHolds m history)
    → (m : Machine) (plan : Plan) (history : List Posting) (p : ℕ) → IsFit m → AreSound m plan history
    → IsJudged m p history (judged p history)
verdict-true law m plan history p fit sound =
    from-true m plan history p (law m plan history fit sound) sound 0 history
    (λ k j e. ap (slice_get history) (same-place k j e))

-- ---- what is said stays said

or-more : (a b c : Bool) → (b ≡ true → c ≡ true) → (a || b) ≡ true → (a || c) ≡ true
or-more true b c f e = refl
or-more false b c f e = f e

pub decides-more : (p : ℕ) (xs ys : List Posting) → decides p xs ≡ true → decides p (xs ++ ys) ≡ true
decides-more p [] ys e = absurd cc
decides-more p (x ∷ xs) ys e =
    or-more (holds p x.says || breaks p x.says) (decides p xs) (decides p (xs ++ ys)) (decides-more p xs ys) e

pub causes-more : (seat engine p : ℕ) (xs ys : List Posting)
    → has_cause seat engine p xs ≡ true → has_cause seat engine p (xs ++ ys) ≡ true
causes-more seat engine p [] ys e = absurd cc
causes-more seat engine p (x ∷ xs) ys e =
    or-more ((x.seat == seat) && is_spent engine p x.says) (has_cause seat engine p xs) (has_cause seat engine p (xs ++ ys))
    (causes-more seat engine p xs ys) e

undecided-before : (p : ℕ) (xs ys : List Posting) → decides p (xs ++ ys) ≡ false → Test (decides p xs) → decides p xs ≡ false
undecided-before p xs ys e (on d) = let more = decides-more p xs ys d in absurd cc
undecided-before p xs ys e (off d) = d

pub undecided-less : (p : ℕ) (xs all : List Posting) → Begins xs all → decides p all ≡ false → decides p xs ≡ false
undecided-less p xs all b e =
    undecided-before p xs b.0 (subst (λ l. decides p l ≡ false) b.1 e) (test (decides p xs))
