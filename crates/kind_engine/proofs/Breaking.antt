-- Answers to the query of an instant before which all are refuted.
use Rattle.std.specs.Prelude.{ℕ, zero, suc, ◌≡◌, ◌≢◌, ◌<◌, ◌≤◌, true, List, [], ◌∷◌, ◌++◌, length, All, Some, None, Option, slice_get, refl}
use Rattle.std.specs.List.{AllByRecursion}
use Rattle.std.proofs.lemmas.List.Elements.{All-from_recursion, recursion_from_All}
use Rattle.std.proofs.Common.{sym, subst, ◌∙◌, arith}
use Rattle.proof_steps.specs.View.{Refutation}
use Rattle.sys_terms.specs.declared.term.Entry.{Entry}
use Rattle.sys_terms.specs.View.{Formula, Machine, base}
use Rattle.sys_terms.specs.Fits.{is_narrow}
use Rattle.sys_terms.specs.Answers.{IsAnswer}
use Rattle.sys_terms.specs.Queries.{property_term, or_true}
use Rattle.sys_terms.specs.Paths.{IsPath, AreTrue, IsFalseAtLastAlone, OfSome, Breaks}
use Rattle.cert_rules.specs.Facts.{AreBases, IsTerm}
use Rattle.cert_rules.specs.Laws.{FactsAreTrue}
use Rattle.cert_rules.proofs.Paths.{first-false, path-to-first, alone-last}
use Rattle.board_core.specs.declared.plan.Plan.{Plan}
use Rattle.board_core.specs.Entries.{IsBroken}
use Rattle.kind_engine.specs.Ready.{IsReady}
use Rattle.kind_engine.proofs.Lists.{and-none, longer}

-- ---- false at the last state alone

alone-in : (f : Formula) (front rest states : List (List Entry)) → front ++ rest ≡ states → IsFalseAtLastAlone f front
    → (length front < length states → ⊥) → IsFalseAtLastAlone f states
alone-in f front [] states parts alone short = subst (IsFalseAtLastAlone f) (sym (and-none front) ∙ parts) alone
alone-in f front (s ∷ rest) states parts alone short =
    absurd (short (subst (λ l. length front < length l) parts (longer front s rest)))

term-of : (o : Option Formula) (states : List (List Entry)) → o ≢ None → IsFalseAtLastAlone (or_true o) states
    → OfSome (λ f. IsFalseAtLastAlone f states) o
term-of None states some h = absurd (some refl)
term-of (Some f) states some h = h

exists : {X : Type 0} (xs : List X) (p : ℕ) → p < length xs → slice_get xs p ≢ None
exists [] p l e = absurd (omega arith)
exists (x ∷ xs) zero l e = absurd cc
exists (x ∷ xs) (suc p) l e = exists xs p (omega arith) e

each-front : {X : Type 0} (P : X → Type 0) (xs ys : List X) → AllByRecursion P (xs ++ ys) → AllByRecursion P xs
each-front P [] ys h = tt
each-front P (x ∷ xs) ys h = (h.0, each-front P xs ys h.1)

all-front : {X : Type 0} (P : X → Type 0) (xs ys : List X) → All P (xs ++ ys) → All P xs
all-front P xs ys h = All-from_recursion P xs (each-front P xs ys (recursion_from_All P (xs ++ ys) h))

module _ (m : Machine) (p : ℕ) (named : p < length m.properties) (law : FactsAreTrue m)
    (cites : List Formula) (terms : All (IsTerm m) cites) where
  -- a path of at most as many states as instants are refuted, on which the cited terms are true, doesn't
  -- end with the property false
  none-short : (proofs : List Refutation) → AreBases m p cites 0 proofs → (states : List (List Entry))
      → IsPath m states
      → length states ≤ length proofs → All (AreTrue cites) states → IsFalseAtLastAlone (property_term m p) states → ⊥
  none-short [] h [] path l cited alone = alone
  none-short [] h (s ∷ states) path l cited alone = absurd (omega arith)
  none-short (r ∷ proofs) h states path l cited alone =
      law.bases p (length proofs) cites (r ∷ proofs)
      (record { property = named; terms = terms; count = refl; refuted_each = h })
      states path l cited (alone-last (property_term m p) states alone)

  -- such an answer breaks the property
  pub breaks-at : (proofs : List Refutation) (i : ℕ) → length proofs ≡ i → AreBases m p cites 0 proofs
      → (states : List (List Entry)) → IsAnswer m (base p i) cites states → Breaks m p states
  breaks-at proofs i e h states a =
      let f = property_term m p in
      let r = first-false f states a.against in
      let path = path-to-first m f states r a.path in
      let cited = all-front (AreTrue cites) r.front r.rest (subst (All (AreTrue cites)) (sym r.parts) a.cited) in
      record {
        path = a.path;
        broken = term-of (slice_get m.properties p) states (exists m.properties p named)
            (alone-in f r.front r.rest states r.parts r.alone
            (λ l. none-short proofs h r.front path (omega (arith, l, a.count, e)) cited r.alone));
      }

  -- and may be posted where its numbers are below 2^63 in size
  pub broken-at : (plan : Plan) → IsReady m plan → (proofs : List Refutation) (i : ℕ) → length proofs ≡ i
      → AreBases m p cites 0 proofs
      → i ≤ plan.depth → (states : List (List Entry)) → IsAnswer m (base p i) cites states
      → All (λ s. is_narrow s ≡ true) states → IsBroken m p states
  broken-at plan ready proofs i e h within states a narrow = record {
    breaks = breaks-at proofs i e h states a;
    short = let d = ready.ranges.depth.1 in let c = a.count in omega arith;
    narrow = narrow;
  }
