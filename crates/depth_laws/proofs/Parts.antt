-- Paths that break a property, and induction by paths.
use Rattle.std.specs.Prelude.{ℕ, zero, suc, ◌≡◌, ◌≤◌, ◌<◌, ◌↔◌, true, List, [], ◌∷◌, ◌++◌, length, All, Option, Some, None, slice_get, refl}
use Rattle.std.specs.List.{AllByRecursion}
use Rattle.std.proofs.Common.{sym, subst, ◌∙◌, ap, arith}
use Rattle.std.proofs.lemmas.List.Elements.{All-from_recursion, recursion_from_All}
use Rattle.std.proofs.lemmas.Bool.Decides.{nat_tests}
use Rattle.sys_terms.specs.declared.term.Entry.{Entry}
use Rattle.sys_terms.specs.View.{Formula, Machine, step}
use Rattle.sys_terms.specs.Fits.{IsFit, state_fits, is_asked, all_fit_one}
use Rattle.sys_terms.specs.Paths.{AreTrue, IsTrueAt, IsState, IsPath, IsReachable, IsFalseAtLastAlone, IsFalseAtLast, OfSome}
use Rattle.sys_terms.specs.Queries.{property_term, or_true, shapes_of, variables}
use Rattle.sys_terms.specs.Answers.{IsAnswer, states_in, joined_states}
use Rattle.sys_terms.specs.Laws.{MeetExactly, AreJoinedBack}
use Rattle.cert_rules.specs.Laws.{HoldsReachably}
use Rattle.cert_rules.proofs.Paths.{first-false, path-to-first, alone-last, all-map, all-reached}
use Rattle.cert_rules.proofs.Induction.{never, holds}
use Rattle.depth_laws.specs.Depths.{BreaksUpTo, HasCounterexample, StaysTrueAfter, StaysTrueWith, IsInductive, HasNoSolution}

-- ---- breaks

-- a broken property is one of the machine's
of-some : (o : Option Formula) (states : List (List Entry)) → IsFalseAtLastAlone (or_true o) states
    → OfSome (λ f. IsFalseAtLastAlone f states) o
of-some (Some f) states h = h
of-some None [] h = h
of-some None (s ∷ []) h = absurd cc
of-some None (s ∷ t ∷ rest) h = of-some None (t ∷ rest) h.1

pub some-alone : (o : Option Formula) (states : List (List Entry)) → OfSome (λ f. IsFalseAtLastAlone f states) o
    → IsFalseAtLastAlone (or_true o) states
some-alone (Some f) states h = h
some-alone None states h = absurd h

shorter : {X : Type 0} (xs ys zs : List X) (n : ℕ) → xs ++ ys ≡ zs → length zs ≤ n → length xs ≤ n
shorter xs ys zs n e l = within xs ys n (subst (λ q. length q ≤ n) (sym e) l) where
  within : {X : Type 0} (xs ys : List X) (n : ℕ) → length (xs ++ ys) ≤ n → length xs ≤ n
  within [] ys n l = omega arith
  within (x ∷ xs) ys zero l = absurd (omega arith)
  within (x ∷ xs) ys (suc n) l = let r = within xs ys n (omega arith) in omega arith

counterexample : (m : Machine) (p instant : ℕ) → BreaksUpTo m p instant → HasCounterexample m p instant
counterexample m p instant b =
    let f = property_term m p in
    let r = first-false f b.states b.ends_false in
    record {
      states = r.front;
      breaks = record {
        path = path-to-first m f b.states r b.path;
        broken = of-some (slice_get m.properties p) r.front r.alone;
      };
      count = shorter r.front r.rest b.states (suc instant) r.parts b.short;
    }

breaks-up-to : (m : Machine) (p instant : ℕ) → HasCounterexample m p instant → BreaksUpTo m p instant
breaks-up-to m p instant h = record {
  states = h.states;
  path = h.breaks.path;
  short = h.count;
  ends_false = alone-last (property_term m p) h.states (some-alone (slice_get m.properties p) h.states h.breaks.broken);
}

pub breaks-counterexamples : (m : Machine) (p instant : ℕ) → BreaksUpTo m p instant ↔ HasCounterexample m p instant
breaks-counterexamples m p instant = (counterexample m p instant, breaks-up-to m p instant)

-- ---- what is true in all reachable states

false-nowhere : (f : Formula) (states : List (List Entry)) → IsFalseAtLast f states → AllByRecursion (IsTrueAt f) states → ⊥
false-nowhere f [] h t = h
false-nowhere f (s ∷ []) h t = absurd cc
false-nowhere f (s ∷ u ∷ rest) h t = false-nowhere f (u ∷ rest) h t.1

-- no path ends with it false
pub ends-true : (m : Machine) (f : Formula) (states : List (List Entry)) → HoldsReachably m f → IsPath m states
    → ¬ IsFalseAtLast f states
ends-true m f states h path false_last =
    false-nowhere f states false_last (recursion_from_All (IsTrueAt f) states
    (all-map (IsReachable m) (IsTrueAt f) h states (all-reached m states path)))

-- ---- induction

inductive-by : (m : Machine) (p k last : ℕ) → k ≡ suc last → IsInductive m p k → HoldsReachably m (property_term m p)
inductive-by m p k last e i =
    let f = property_term m p in
    holds m f (never m f last
    (λ n states l path count alone. i.base states path (omega arith) (alone-last f states alone))
    (λ states loose reached count alone. i.step states loose (count ∙ ap suc (sym e)) alone))

pub inductive-hold : (m : Machine) (p k : ℕ) → IsInductive m p k → HoldsReachably m (property_term m p)
inductive-hold m p zero i = let none = i.some_state in absurd (omega arith)
inductive-hold m p (suc last) i = inductive-by m p (suc last) last refl i

-- ---- the query of a step

none-cited : (states : List (List Entry)) → AllByRecursion (AreTrue []) states
none-cited [] = tt
none-cited (s ∷ rest) = (All-from_recursion (λ f. IsTrueAt f s) [] tt, none-cited rest)

module _ (m : Machine) (p k : ℕ) (terms : List Formula) (fit : IsFit m) (property : p < length m.properties)
    (cited : all_fit_one m.shapes terms ≡ true) (exactly : MeetExactly m (step p k) terms)
    (joined : (states : List (List Entry)) → AreJoinedBack m states) where
  asked : is_asked m (step p k) ≡ true
  asked = grind (arith, nat_tests)

  no-solution : StaysTrueWith m terms p k → HasNoSolution m (step p k) terms
  no-solution stays values fits met =
      let a = (exactly fit asked cited values fits).0 met in
      stays (states_in (variables m) (suc k) values) a.path a.cited a.count a.against

  stays-true : HasNoSolution m (step p k) terms → StaysTrueWith m terms p k
  stays-true none states loose true_on count alone =
      let each : All (λ s. state_fits m.shapes s ≡ true) states =
      all-map (IsState m) (λ s. state_fits m.shapes s ≡ true) (λ s h. h.fit) states loose.each in
      let values = joined_states states in
      let counted : state_fits (shapes_of m.shapes (suc k)) values ≡ true =
      subst (λ n. state_fits (shapes_of m.shapes n) values ≡ true) count ((joined states).fit each) in
      let same : states_in (variables m) (suc k) values ≡ states =
      subst (λ n. states_in (variables m) n values ≡ states) count ((joined states).same each) in
      let answer : IsAnswer m (step p k) terms states = record {
        path = loose;
        count = count;
        cited = true_on;
        against = alone;
      } in
      none values counted
      ((exactly fit asked cited values counted).1 (subst (IsAnswer m (step p k) terms) (sym same) answer))

  pub citing-step-query : StaysTrueWith m terms p k ↔ HasNoSolution m (step p k) terms
  citing-step-query = (no-solution, stays-true)

-- without terms
pub with-none : (m : Machine) (p k : ℕ) → StaysTrueAfter m p k → StaysTrueWith m [] p k
with-none m p k h states loose true_on count alone = h states loose count alone

pub step-query : (m : Machine) (p k : ℕ) → StaysTrueWith m [] p k ↔ HasNoSolution m (step p k) []
    → StaysTrueAfter m p k ↔ HasNoSolution m (step p k) []
step-query m p k law = (
  λ h. law.0 (with-none m p k h),
  λ none states loose count alone. law.1 none states loose
      (All-from_recursion (AreTrue []) states (none-cited states)) count alone,
)
