-- Where a formula is true its property is: what reachable states and short paths say of properties.
use Rattle.std.proofs.Common.{◌≡◌, ℕ, zero, suc, ◌+◌, List, [], ◌∷◌, length, refl, ap, ◌∙◌, sym, subst, arith, Some, slice_get}
use Rattle.lus_meaning.specs.Value.{flag}
use Rattle.lus_meaning.specs.Frame.{Frame}
use Rattle.lus_meaning.specs.Scene.{Instance}
use Rattle.lus_meaning.specs.Contract.{Property}
use Rattle.lus_meaning.specs.Property.{properties}
use Rattle.lus_meaning.specs.Verdict.{throughout}
use Rattle.sys_terms.specs.declared.term.Entry.{Entry}
use Rattle.sys_terms.specs.View.{Formula}
use Rattle.sys_terms.specs.Paths.{IsFalseAt, IsFalseAtLast}
use Rattle.sys_terms.specs.Queries.{or_true, property_term}
use Rattle.sys_meaning.specs.State.{state_of, states_of, states_from}
use Rattle.sys_meaning.specs.System.{system_of}
use Rattle.sys_meaning.specs.Law.{true_in, Agree, RunsArePaths}
use Rattle.sys_meaning.specs.Verdicts.{HoldsWhereReachable, HoldsWhereBounded}
use Rattle.sys_meaning.proofs.Follows.{is_true, some_same, none_some, lemma_law}

truth_at : (k : ℕ) (f : Frame) (t : ℕ) (s : List Entry) (ps : List Property) (qs : List Formula) (q : Property) →
    Agree f t s ps qs → slice_get ps k ≡ Some q →
    q.test throughout f t ≡ flag (true_in s (or_true (slice_get qs k)))
truth_at k f t s [] [] q a e = absurd (none_some q e)
truth_at k f t s [] (y ∷ qs) q a e = absurd a
truth_at k f t s (p ∷ ps) [] q a e = absurd a
truth_at zero f t s (p ∷ ps) (y ∷ qs) q a e = rw (sym (some_same p q e)) a.0
truth_at (suc k) f t s (p ∷ ps) (y ∷ qs) q a e = truth_at k f t s ps qs q a.1 e

many_states : (i : Instance) (f : Frame) (t n : ℕ) → length (states_from i f t n) ≡ n
many_states i f t zero = refl
many_states i f t (suc n) = ap suc (many_states i f (suc t) n)

-- false in the state of the last instant
false_last : (i : Instance) (f : Frame) (q : Formula) (u t v : ℕ) → v ≡ u + t → IsFalseAt q (state_of i f v) →
    IsFalseAtLast q (states_from i f u (suc t))
false_last i f q u zero v e h = let same : v ≡ u = omega (arith, e) in subst (λ v. IsFalseAt q (state_of i f v)) same h
false_last i f q u (suc t) v e h = false_last i f q (suc u) t v (omega (arith, e)) h

module _ (i : Instance) (law : RunsArePaths i) where
  pub holds_where_reachable : HoldsWhereReachable i
  holds_where_reachable k q e h n f t run l w =
      truth_at k f t (state_of i f t) (properties i) (system_of i).properties q (law.truths n f t run l) e
      ∙ ap flag ((lemma_law i law (property_term (system_of i) k)).1 h n f t run l w)

  pub holds_where_bounded : HoldsWhereBounded i
  holds_where_bounded k d q e h n f t run l m w =
      let long : length (states_of i f (suc t)) ≡ suc t = many_states i f 0 (suc t) in
      truth_at k f t (state_of i f t) (properties i) (system_of i).properties q (law.truths n f t run l) e
      ∙ ap flag (is_true (true_in (state_of i f t) (property_term (system_of i) k))
      (λ wrong. h (states_of i f (suc t)) (law.paths n f t run l w) (omega (arith, long, m))
      (false_last i f (property_term (system_of i) k) 0 t t (omega arith) wrong)))
