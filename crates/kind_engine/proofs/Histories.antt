-- What histories say when they have grown.
use Rattle.std.specs.Prelude.{ℕ, ◌≡◌, ◌==◌, ◌||◌, ◌&&◌, ◌++◌, true, false, List, [], ◌∷◌, suc, zero, length, Option, Some, None, slice_get, take, refl}
use Rattle.std.proofs.Common.{ap, sym, subst, ◌∙◌, append_assoc, rules, arith}
use Rattle.sys_terms.specs.declared.term.Entry.{Entry as Cell}
use Rattle.sys_terms.specs.View.{Machine}
use Rattle.board_core.specs.declared.plan.Plan.{Plan}
use Rattle.cert_rules.specs.Facts.{Fact, Citation, base_fact, step_fact, lemma_fact, held_fact, held_by_fact, other_fact, IsStepOf, IsBaseOf, AreNamed}
use Rattle.proof_steps.specs.View.{Refutation}
use Rattle.board_core.specs.Entries.{Claim, proved, broken, stuck, spent, Posting, Why, Grounds, facts_in, fact_in, IsBaseTo, IsStuckOf, IsDepth, IsTrueAfter}
use Rattle.board_core.specs.Seats.{Begins, Decides, HasPosted, has_cause, is_spent}
use Rattle.board_core.specs.Verdicts.{decides, holds, breaks}
use Rattle.board_core.proofs.Verdicts.{decides-more, causes-more}
use Rattle.board_core.proofs.Growing.{true-more, stays}
use Rattle.kind_engine.proofs.Lists.{at-last, length-map, take-front}

pub begins-posted : (number : ℕ) (seen now' : List Posting) (says : Claim) (place : ℕ)
    → HasPosted number seen now' says place → Begins seen now'
begins-posted number seen now' says place h =
    (h.others ++ record { seat = number; says = says } ∷ [], h.all ∙ append_assoc seen h.others _)

pub decides-later : (p : ℕ) (xs all : List Posting) → Begins xs all → Decides xs p → Decides all p
decides-later p xs all b e = subst (λ l. decides p l ≡ true) (sym b.1) (decides-more p xs b.0 e)

pub cause-later : (seat engine p : ℕ) (xs all : List Posting) → Begins xs all → has_cause seat engine p xs ≡ true
    → has_cause seat engine p all ≡ true
cause-later seat engine p xs all b e = subst (λ l. has_cause seat engine p l ≡ true) (sym b.1)
    (causes-more seat engine p xs b.0 e)

-- what was read is the front of a history that has grown since
pub read-front : (read seen : List Posting) (front : ℕ) → Begins read seen → front ≡ length read
    → take front seen ≡ read
read-front read seen front b e = ap (take front) b.1 ∙ (ap (λ n. take n (read ++ b.0)) e ∙ take-front read b.0)

pub true-later : (m : Machine) (plan : Plan) (xs all : List Posting) (says : Claim) → Begins xs all
    → IsTrueAfter m plan xs says → IsTrueAfter m plan all says
true-later m plan xs all says b h = subst (λ l. IsTrueAfter m plan l says) (sym b.1) (true-more m plan xs b.0 says h)

pub facts-more : (xs ys : List Posting) → facts_in (xs ++ ys) ≡ facts_in xs ++ facts_in ys
facts-more [] ys = refl
facts-more (x ∷ xs) ys = ap (λ l. fact_in x.says ∷ l) (facts-more xs ys)

-- the entry that shows how far an engine went is still there
pub depth-later : (xs all : List Posting) (engine p d : ℕ) → Begins xs all → IsDepth xs engine p d
    → IsDepth all engine p d
depth-later xs all engine p d b h = subst (λ l. IsDepth l engine p d) (sym b.1) (by engine h) where
  by : (engine : ℕ) → IsDepth xs engine p d → IsDepth (xs ++ b.0) engine p d
  by zero h = (
    h.0,
    subst (λ l. IsBaseTo p d (slice_get l h.0)) (sym (facts-more xs b.0))
        (stays (IsBaseTo p d) (λ x. x) (facts_in xs) (facts_in b.0) h.0 h.1),
  )
  by (suc zero) h = (h.0, stays (IsStuckOf p d) (λ x. x) xs b.0 h.0 h.1)
  by (suc (suc e)) h = h

same-number : (n : ℕ) → (n == n) ≡ true
same-number n = search (rules, arith)

-- ---- an entry put last

decides-last : (p : ℕ) (xs : List Posting) (i : Posting) → decides p (i ∷ []) ≡ true → decides p (xs ++ i ∷ []) ≡ true
decides-last p [] i e = e
decides-last p (x ∷ xs) i e = or-true (holds p x.says || breaks p x.says) (decides p (xs ++ i ∷ []))
    (decides-last p xs i e) where
      or-true : (a b : _) → b ≡ true → (a || b) ≡ true
      or-true true b e = refl
      or-true false b e = e

cause-last : (seat engine p : ℕ) (xs : List Posting) (i : Posting) → has_cause seat engine p (i ∷ []) ≡ true
    → has_cause seat engine p (xs ++ i ∷ []) ≡ true
cause-last seat engine p [] i e = e
cause-last seat engine p (x ∷ xs) i e =
    or-true ((x.seat == seat) && is_spent engine p x.says) (has_cause seat engine p (xs ++ i ∷ []))
    (cause-last seat engine p xs i e) where
      or-true : (a b : _) → b ≡ true → (a || b) ≡ true
      or-true true b e = refl
      or-true false b e = e

pub decided-by : (number p : ℕ) (seen now' : List Posting) (states : List (List Cell)) (place : ℕ)
    → HasPosted number seen now' (broken p states) place → Decides now' p
decided-by number p seen now' states place h =
    subst (λ l. decides p l ≡ true) (sym h.all)
    (decides-last p (seen ++ h.others) (record { seat = number; says = broken p states }) here)
  where
    here : decides p (record { seat = number; says = broken p states } ∷ []) ≡ true
    here = let e = same-number p in search (rules, arith)

pub cause-by : (number engine p : ℕ) (seen now' : List Posting) (why : Why) (grounds : Grounds) (place : ℕ)
    → HasPosted number seen now' (spent engine p why grounds) place → has_cause number engine p now' ≡ true
cause-by number engine p seen now' why grounds place h =
    subst (λ l. has_cause number engine p l ≡ true) (sym h.all)
    (cause-last number engine p (seen ++ h.others) (record { seat = number; says = spent engine p why grounds }) here)
  where
    here : has_cause number engine p (record { seat = number; says = spent engine p why grounds } ∷ []) ≡ true
    here = let e = same-number number in let f = same-number engine in let g = same-number p in search (rules, arith)

facts-push : (xs : List Posting) (i : Posting) → facts_in (xs ++ i ∷ []) ≡ facts_in xs ++ fact_in i.says ∷ []
facts-push [] i = refl
facts-push (x ∷ xs) i = ap (λ l. fact_in x.says ∷ l) (facts-push xs i)

fact-last : (xs : List Posting) (i : Posting)
    → slice_get (facts_in (xs ++ i ∷ [])) (length xs) ≡ Some (fact_in i.says)
fact-last xs i =
    subst (λ l. slice_get l (length xs) ≡ Some (fact_in i.says)) (sym (facts-push xs i))
    (subst (λ n. slice_get (facts_in xs ++ fact_in i.says ∷ []) n ≡ Some (fact_in i.says)) (length-map (λ (j : Posting). fact_in j.says) xs)
    (at-last (facts_in xs) (fact_in i.says)))

-- the fact that was posted is at its place
pub fact-by : (number : ℕ) (seen now' : List Posting) (f : Fact) (place : ℕ)
    → HasPosted number seen now' (proved f) place
    → slice_get (facts_in now') place ≡ Some f
fact-by number seen now' f place h =
    subst (λ l. slice_get (facts_in l) place ≡ Some f) (sym h.all)
    (subst (λ n. slice_get (facts_in ((seen ++ h.others) ++ record { seat = number; says = proved f } ∷ [])) n ≡ Some f) (sym h.at)
    (fact-last (seen ++ h.others) (record { seat = number; says = proved f })))

pub base-by : (number p d : ℕ) (cites : List Citation) (proofs : List Refutation) (seen now' : List Posting)
    (place : ℕ)
    → HasPosted number seen now' (proved (base_fact p d cites proofs)) place
    → IsBaseTo p d (slice_get (facts_in now') place)
base-by number p d cites proofs seen now' place h =
    subst (IsBaseTo p d) (sym (fact-by number seen now' (base_fact p d cites proofs) place h)) (refl, refl)

pub step-by : (number p k : ℕ) (cites : List Citation) (proof : Refutation) (seen now' : List Posting) (place : ℕ)
    → HasPosted number seen now' (proved (step_fact p k cites proof)) place
    → IsStepOf p k (slice_get (facts_in now') place)
step-by number p k cites proof seen now' place h =
    subst (IsStepOf p k) (sym (fact-by number seen now' (step_fact p k cites proof) place h)) (refl, refl)

pub held-by : (number p a b : ℕ) (seen now' : List Posting) (place : ℕ)
    → HasPosted number seen now' (proved (held_fact p a b)) place → Decides now' p
held-by number p a b seen now' place h =
    subst (λ l. decides p l ≡ true) (sym h.all)
    (decides-last p (seen ++ h.others) (record { seat = number; says = proved (held_fact p a b) }) here)
  where
    here : decides p (record { seat = number; says = proved (held_fact p a b) } ∷ []) ≡ true
    here = let e = same-number p in search (rules, arith)

pub stuck-by : (number p d : ℕ) (seen now' : List Posting) (states : List (List Cell)) (front place : ℕ)
    → length states ≡ suc d → HasPosted number seen now' (stuck p states front) place → IsDepth now' 1 p d
stuck-by number p d seen now' states front place e h = (
  length (seen ++ h.others),
  subst (λ l. IsStuckOf p d (slice_get l (length (seen ++ h.others)))) (sym h.all)
      (subst (IsStuckOf p d) (sym (at-last (seen ++ h.others) (record { seat = number; says = stuck p states front })))
      (refl, e)),
)

-- the base to instant k - 1 and the step by k states, after entries that were posted between
pub named-by : (p d k a b : ℕ) (seen now' : List Posting) → k ≡ suc d → Begins seen now'
    → IsBaseTo p d (slice_get (facts_in seen) a) → IsStepOf p k (slice_get (facts_in now') b)
    → AreNamed (facts_in now') p a b
named-by p d k a b seen now' e grown base step = record {
  last = d;
  is_step = subst (λ n. IsStepOf p n (slice_get (facts_in now') b)) e step;
  is_base = from (slice_get (facts_in now') a)
      (subst (λ l. IsBaseTo p d (slice_get l a)) (sym (ap facts_in grown.1 ∙ facts-more seen grown.0))
      (stays (IsBaseTo p d) (λ x. x) (facts_in seen) (facts_in grown.0) a base));
} where
  from : (o : Option Fact) → IsBaseTo p d o → IsBaseOf p d o
  from None h = h
  from (Some (base_fact q i cites proofs)) h = (h.0, let s = h.1 in omega arith)
  from (Some (step_fact q j cites proof)) h = h
  from (Some (lemma_fact g cites first next)) h = h
  from (Some (held_fact q i j)) h = h
  from (Some (held_by_fact q i proof)) h = h
  from (Some other_fact) h = h
