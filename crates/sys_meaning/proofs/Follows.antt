-- What follows where runs are paths and paths are runs.
use Rattle.std.proofs.Common.{◌≡◌, ℕ, zero, suc, pred, Bool, true, false, List, [], ◌∷◌, ◌++◌, ◌+◌, length, slice_get, Option, Some, None, is_some, refl, ap, ◌∙◌, sym, arith}
use Rattle.std.proofs.lemmas.Bool.{false≢true, true≢false}
use Rattle.lus_meaning.specs.Value.{Value, absent, flag, whole}
use Rattle.lus_meaning.specs.Frame.{Frame}
use Rattle.lus_meaning.specs.Scene.{Instance}
use Rattle.lus_meaning.specs.Contract.{Property}
use Rattle.lus_meaning.specs.Run.{IsRun}
use Rattle.lus_meaning.specs.Property.{IsLawful, properties}
use Rattle.lus_meaning.specs.Verdict.{throughout, Holds}
use Rattle.sys_terms.specs.declared.term.Entry.{Entry}
use Rattle.sys_terms.specs.View.{Formula}
use Rattle.sys_terms.specs.Paths.{IsPath}
use Rattle.sys_meaning.specs.State.{state_of, states_of, states_from}
use Rattle.sys_meaning.specs.System.{system_of}
use Rattle.sys_meaning.specs.Law.{true_in, HasOneRunOf, Agree, RunsArePaths, LemmaHolds, TrueReachable, NeverFalse, LemmaLaw, PropertyLaw}

abbrev pub States : Type 0
States = List (List Entry)

pub length_end : (b : States) (s : List Entry) → length (b ++ s ∷ []) ≡ suc (length b)
length_end [] s = refl
length_end (x ∷ b) s = ap suc (length_end b s)

-- the states of the first instants, and the last one
abbrev pub front : Instance → Frame → ℕ → ℕ → States
front i f t zero = []
front i f t (suc n) = state_of i f t ∷ front i f (suc t) n

pub ends : (i : Instance) (f : Frame) (t n u : ℕ) → u ≡ t + n → states_from i f t (suc n) ≡ front i f t n
    ++ state_of i f u ∷ []
ends i f t zero u e = let k : u ≡ t = omega (arith, e) in rw k refl
ends i f t (suc n) u e = ap (λ q. state_of i f t ∷ q) (ends i f (suc t) n u (omega (arith, e)))

abbrev pub last_of : States → List Entry → List Entry
last_of [] d = d
last_of (x ∷ xs) d = last_of xs x

pub last_end : (b : States) (s d : List Entry) → last_of (b ++ s ∷ []) d ≡ s
last_end [] s d = refl
last_end (x ∷ b) s d = last_end b s x

pub same_end : (b c : States) (s t : List Entry) → b ++ s ∷ [] ≡ c ++ t ∷ [] → s ≡ t
same_end b c s t e = sym (last_end b s []) ∙ ap (λ q. last_of q []) e ∙ last_end c t []

pub is_true : (b : Bool) → (b ≡ false → ⊥) → b ≡ true
is_true true h = refl
is_true false h = absurd (h refl)

pub flag_inside : (a b : Bool) → flag a ≡ flag b → a ≡ b
flag_inside a b e = ap inside e
  where
    inside : Value → Bool
    inside absent = false
    inside (flag c) = c
    inside (whole n) = false

pub some_same : {A : Type 0} (x y : A) → Some x ≡ Some y → x ≡ y
some_same {A} x y e = ap inside e
  where
    inside : Option A → A
    inside None = x
    inside (Some z) = z

pub none_some : {A : Type 0} (x : A) → None ≡ Some x → ⊥
none_some x e = false≢true (ap is_some e)

-- a property and its formula at one place
pub at_place : (k : ℕ) (f : Frame) (t : ℕ) (s : List Entry) (ps : List Property) (qs : List Formula) (p : Property)
    (q : Formula) → Agree f t s ps qs → slice_get ps k ≡ Some p → slice_get qs k ≡ Some q →
    p.test throughout f t ≡ flag (true_in s q)
at_place k f t s [] [] p q a e d = absurd (none_some p e)
at_place k f t s [] (y ∷ qs) p q a e d = absurd a
at_place k f t s (x ∷ ps) [] p q a e d = absurd a
at_place zero f t s (x ∷ ps) (y ∷ qs) p q a e d = rw (sym (some_same x p e), sym (some_same y q d)) a.0
at_place (suc k) f t s (x ∷ ps) (y ∷ qs) p q a e d = at_place k f t s ps qs p q a.1 e d

module _ (i : Instance) (law : RunsArePaths i) where
  -- the last state of a path is the state of its run at the last instant
  pub run_at_end : (b : States) (s : List Entry) → IsPath (system_of i) (b ++ s ∷ []) →
      (f : Frame) × IsRun i (suc (length b)) throughout f × IsLawful i throughout f (length b)
      × (state_of i f (length b) ≡ s)
  run_at_end b s p =
      let one : HasOneRunOf i (b ++ s ∷ []) = law.runs (b ++ s ∷ []) p in
      let n : length (b ++ s ∷ []) ≡ suc (length b) = length_end b s in (
        one.found,
        rw (sym n) one.is.run,
        rw (sym (ap pred n)) one.is.lawful,
        same_end (front i one.found 0 (length b)) b (state_of i one.found (length b)) s
            (sym (ends i one.found 0 (length b) (length b) (omega arith)) ∙ ap (states_of i one.found)
            (sym n) ∙ one.is.goes),
      )

  pub lemma_law : LemmaLaw i
  lemma_law q = (there, back)
    where
      there : LemmaHolds i q → TrueReachable (system_of i) q
      there h s r = let e =
          run_at_end r.before s r.path in rw (sym e.3) (h (suc (length r.before)) e.0 (length r.before) e.1
          (omega arith) e.2)

      back : TrueReachable (system_of i) q → LemmaHolds i q
      back h n f t run l w =
          h (state_of i f t) record {
            before = front i f 0 t;
            path = rw (sym (ends i f 0 t t (omega arith)))
                (law.paths n f t run l w);
          }

  pub property_law : PropertyLaw i
  property_law k p q e d = (there, back)
    where
      there : Holds i p → NeverFalse (system_of i) q
      there h b s path wrong =
          let r = run_at_end b s path in
          let test : p.test throughout r.0 (length b) ≡ flag (true_in s q) =
          at_place k r.0 (length b) (state_of i r.0 (length b)) (properties i) (system_of i).properties p q
          (law.truths (suc (length b)) r.0 (length b) r.1 (omega arith)) e d ∙ ap (λ z. flag (true_in z q)) r.3 in
          true≢false (flag_inside true (true_in s q) (sym (h (suc (length b)) r.0 (length b) r.1
          (omega arith) r.2) ∙ test) ∙ wrong)

      back : NeverFalse (system_of i) q → Holds i p
      back h n f t run l w =
          at_place k f t (state_of i f t) (properties i) (system_of i).properties p q (law.truths n f t run l) e d
          ∙ ap flag (is_true (true_in (state_of i f t) q) (h (front i f 0 t) (state_of i f t) (rw (sym
          (ends i f 0 t t (omega arith))) (law.paths n f t run l w))))
