-- What is true after some entries is true after more.
use Rattle.std.specs.Prelude.{ℕ, zero, suc, ◌≡◌, ◌≤◌, ◌++◌, List, [], ◌∷◌, length, take, Option, Some, None, slice_get, refl}
use Rattle.std.specs.List.{AllByRecursion}
use Rattle.std.proofs.Common.{ap, sym, subst, arith}
use Rattle.std.proofs.lemmas.List.Elements.{All-from_recursion, recursion_from_All}
use Rattle.sys_terms.specs.declared.term.Entry.{Entry as Cell}
use Rattle.sys_terms.specs.View.{Formula, Machine, Task}
use Rattle.cert_rules.specs.Facts.{Citation, Fact, base_fact, step_fact, lemma_fact, held_fact, held_by_fact, other_fact, IsFactAfter, IsLemmaOf, IsBaseOf, IsStepOf, AreCited}
use Rattle.board_core.specs.declared.plan.Plan.{Plan}
use Rattle.board_core.specs.Entries.{Claim, proved, broken, stuck, spent, Posting, Why, depth, frames, blocked, done, stopped, wide, Grounds, IsTrueAfter, facts_in, fact_in, IsStuckPath, LemmasTrueOn, IsDepth, IsBaseTo, IsStuckOf, OfQuery, AreTermsAt, term_at, IsWide, IsClearBefore, by_proofs, by_entry, IsWhy}

-- what the entry at a place is said to be, it is in a longer list
pub stays : {X : Type 0} (P : Option X → Type 0) → (P None → ⊥) → (xs ys : List X) (n : ℕ) → P (slice_get xs n) → P (slice_get (xs ++ ys) n)
stays P none [] ys n h = absurd (none h)
stays P none (x ∷ xs) ys zero h = h
stays P none (x ∷ xs) ys (suc n) h = stays P none xs ys n h

facts-more : (history more : List Posting) → facts_in (history ++ more) ≡ facts_in history ++ facts_in more
facts-more [] more = refl
facts-more (i ∷ history) more = ap (λ l. fact_in i.says ∷ l) (facts-more history more)

-- the same of the facts in the entries
fact-stays : (P : Option Fact → Type 0) → (P None → ⊥) → (history more : List Posting) (n : ℕ)
    → P (slice_get (facts_in history) n) → P (slice_get (facts_in (history ++ more)) n)
fact-stays P none history more n h =
    subst (λ l. P (slice_get l n)) (sym (facts-more history more)) (stays P none (facts_in history) (facts_in more) n h)

cited-by : (history more : List Posting) (cites : List Citation)
    → AllByRecursion (λ (c : Citation). IsLemmaOf c.term (slice_get (facts_in history) c.place)) cites
    → AllByRecursion (λ (c : Citation). IsLemmaOf c.term (slice_get (facts_in (history ++ more)) c.place)) cites
cited-by history more [] h = tt
cited-by history more (c ∷ cs) h = (fact-stays (IsLemmaOf c.term) (λ b. b) history more c.place h.0, cited-by history more cs h.1)

cited-more : (history more : List Posting) (cites : List Citation) → AreCited (facts_in history) cites → AreCited (facts_in (history ++ more)) cites
cited-more history more cites h =
    All-from_recursion (λ (c : Citation). IsLemmaOf c.term (slice_get (facts_in (history ++ more)) c.place)) cites
    (cited-by history more cites (recursion_from_All (λ (c : Citation). IsLemmaOf c.term (slice_get (facts_in history) c.place)) cites h))

fact-more : (m : Machine) (history more : List Posting) (f : Fact) → IsFactAfter m (facts_in history) f → IsFactAfter m (facts_in (history ++ more)) f
fact-more m history more (base_fact p d cites proofs) h = (h.0, cited-more history more cites h.1)
fact-more m history more (step_fact p k cites proof) h = (h.0, cited-more history more cites h.1)
fact-more m history more (lemma_fact f cites first next) h = (h.0, cited-more history more cites h.1)
fact-more m history more (held_fact p a b) h = record {
  last = h.last;
  is_step = fact-stays (IsStepOf p (suc h.last)) (λ x. x) history more b h.is_step;
  is_base = fact-stays (IsBaseOf p h.last) (λ x. x) history more a h.is_base;
}
fact-more m history more (held_by_fact p a proof) h = record {
  term = h.term;
  is_lemma = fact-stays (IsLemmaOf h.term) (λ x. x) history more a h.is_lemma;
  implies = h.implies;
}
fact-more m history more other_fact h = tt

take-front : {X : Type 0} (n : ℕ) (xs ys : List X) → n ≤ length xs → take n (xs ++ ys) ≡ take n xs
take-front zero xs ys l = refl
take-front (suc n) [] ys l = absurd (omega arith)
take-front (suc n) (x ∷ xs) ys l = ap (λ r. x ∷ r) (take-front n xs ys (omega arith))

longer : {X : Type 0} (n : ℕ) (xs ys : List X) → n ≤ length xs → n ≤ length (xs ++ ys)
longer zero xs ys l = omega arith
longer (suc n) [] ys l = absurd (omega arith)
longer (suc n) (x ∷ xs) ys l = let r = longer n xs ys (omega arith) in omega arith

stuck-more : (m : Machine) (history more : List Posting) (p : ℕ) (states : List (List Cell)) (front : ℕ)
    → IsStuckPath m history p states front → IsStuckPath m (history ++ more) p states front
stuck-more m history more p states front h = record {
  property = h.property;
  front_is_here = longer front history more h.front_is_here;
  loose = h.loose;
  alone = h.alone;
  lemmas = subst (λ l. LemmasTrueOn l states) (sym (take-front front history more h.front_is_here)) h.lemmas;
}

depth-more : (history more : List Posting) (engine p d : ℕ)
    → IsDepth history engine p d → IsDepth (history ++ more) engine p d
depth-more history more zero p d h = (h.0, fact-stays (IsBaseTo p d) (λ x. x) history more h.0 h.1)
depth-more history more (suc zero) p d h = (h.0, stays (IsStuckOf p d) (λ x. x) history more h.0 h.1)
depth-more history more (suc (suc e)) p d h = h

terms-more : (history more : List Posting) (places : List ℕ) (fs : List Formula)
    → AreTermsAt (facts_in history) places fs → AreTermsAt (facts_in (history ++ more)) places fs
terms-more history more [] [] h = tt
terms-more history more [] (f ∷ fs) h = h
terms-more history more (n ∷ ns) [] h = h
terms-more history more (n ∷ ns) (f ∷ fs) h =
    (fact-stays (λ o. term_at o ≡ Some f) (λ e. absurd cc) history more n h.0, terms-more history more ns fs h.1)

query-more : (history more : List Posting) (P Q : Task → List Formula → Type 0) → ((t : Task) (c : List Formula) → P t c → Q t c)
    → (o : Option (Task × List ℕ)) → OfQuery history P o → OfQuery (history ++ more) Q o
query-more history more P Q f None h = h
query-more history more P Q f (Some (task, places)) h = (h.0, terms-more history more places h.0 h.1, f task h.0 h.2)

clear-more : (m : Machine) (history more : List Posting) (g : Grounds) (p i : ℕ) (cites : List Formula)
    → IsClearBefore m history g.proofs p i cites → IsClearBefore m (history ++ more) g.proofs p i cites
clear-more m history more g p i cites (by_proofs h) = by_proofs h
clear-more m history more g p i cites (by_entry d e h) = by_entry d e (h.0, fact-stays (IsBaseOf p d) (λ x. x) history more h.0 h.1)

why-more : (m : Machine) (plan : Plan) (history more : List Posting) (engine p : ℕ) (why : Why) (g : Grounds)
    → IsWhy m plan history engine p why g → IsWhy m plan (history ++ more) engine p why g
why-more m plan history more engine p (depth d) g h = (h.0, depth-more history more engine p d h.1)
why-more m plan history more engine p (frames n) g h = h
why-more m plan history more engine p (blocked n) g h = h
why-more m plan history more engine p (done n) g h = h
why-more m plan history more engine p (stopped halt) g h = query-more history more _ _ (λ t c s. s) g.query h
why-more m plan history more engine p (wide path variable instant value) g h =
    query-more history more (λ t c. IsWide m plan history g engine p path variable instant value t c)
    (λ t c. IsWide m plan (history ++ more) g engine p path variable instant value t c)
    (λ t c w. record {
      last = w.last;
      is_base = w.is_base;
      breaks = w.breaks;
      count = w.count;
      too_wide = w.too_wide;
      asked = w.asked;
      clear = clear-more m history more g p w.last c w.clear;
      narrow = w.narrow;
    }) g.query h

pub true-more : (m : Machine) (plan : Plan) (history more : List Posting) (says : Claim)
    → IsTrueAfter m plan history says → IsTrueAfter m plan (history ++ more) says
true-more m plan history more (proved f) h = fact-more m history more f h
true-more m plan history more (broken p path) h = h
true-more m plan history more (stuck p path front) h = (stuck-more m history more p path front h.0, h.1)
true-more m plan history more (spent engine p why g) h = (h.0, why-more m plan history more engine p why g h.1)
