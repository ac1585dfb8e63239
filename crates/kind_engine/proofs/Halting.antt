-- Why an engine leaves a property undecided is a cause.
use Rattle.std.specs.Prelude.{ℕ, zero, suc, ◌≡◌, ◌<◌, ◌≤◌, List, [], ◌∷◌, ◌++◌, length, map, All, Some, Contains, refl}
use Rattle.std.proofs.Common.{sym, subst, inl, arith}
use Rattle.proof_steps.specs.View.{Refutation}
use Rattle.proof_steps.specs.StopView.{Halt}
use Rattle.sys_terms.specs.declared.term.Entry.{Entry as Cell}
use Rattle.sys_terms.specs.View.{Formula, Machine, Task, base, step}
use Rattle.sys_terms.specs.Paths.{Breaks}
use Rattle.sys_terms.specs.NarrowQuery.{narrow_task}
use Rattle.sys_terms.specs.Answers.{IsAnswer}
use Rattle.smt_solver.specs.View.{stop}
use Rattle.smt_solver.specs.Answered.{IsAnswered}
use Rattle.cert_rules.specs.Facts.{AreBases, IsRefuted, IsTerm, Citation, AreCited, terms_of}
use Rattle.cert_rules.specs.Laws.{FactsAreTrue}
use Rattle.board_core.specs.declared.plan.Plan.{Plan}
use Rattle.board_core.specs.Entries.{Posting, Grounds, Why, depth, frames, blocked, done, stopped, wide, IsTrueAfter, IsRefutedBy, AreRefutedBefore, AreTermsAt, MayAsk, MayAskStep, by_proofs, spent, stuck, facts_in}
use Rattle.board_core.specs.View.{cause_view}
use Rattle.kind_engine.specs.declared.halted.Halted.{Halted}
use Rattle.kind_engine.specs.declared.looking.Open.{Open}
use Rattle.kind_engine.specs.Halts.{halted_grounds, open_grounds}
use Rattle.kind_engine.specs.Lemmas.{AreLemmas}
use Rattle.kind_engine.specs.Looks.{IsOpen}
use Rattle.kind_engine.specs.Posts.{NamesFirstWide}
use Rattle.kind_engine.specs.Steps.{IsAtStep}
use Rattle.kind_engine.proofs.Lists.{none-of}
use Rattle.kind_engine.proofs.Refuting.{refuted-before, by-front, by-back, by-last}
use Rattle.kind_engine.proofs.Breaking.{breaks-at}
use Rattle.kind_engine.proofs.Citing.{terms-there, true-on}

-- an instant that is left open names the first large value, where it names one
pub open-first : (m : Machine) (plan : Plan) (p i : ℕ) (cites : List Formula) (task : Task) (proofs : List Refutation)
    (why named : Why) → named ≡ why → IsOpen m plan p i cites task proofs why → NamesFirstWide named
open-first m plan p i cites task proofs why named e o = subst NamesFirstWide (sym e) (first why o) where
  first : (why : Why) → IsOpen m plan p i cites task proofs why → NamesFirstWide why
  first (depth n) o = tt
  first (frames n) o = tt
  first (blocked n) o = tt
  first (done n) o = tt
  first (stopped h) o = tt
  first (wide path variable instant value) o = o.4

-- the instants below, among more proofs
before-more : (m : Machine) (p : ℕ) (cites : List Formula) (proofs more : List Refutation) (i : ℕ) → length proofs ≡ i
    → AreBases m p cites 0 proofs → AreRefutedBefore m (proofs ++ more) p i cites
before-more m p cites proofs more i e bases j l =
    by-front m (base p j) cites proofs more
    (subst (λ n. AreRefutedBefore m proofs p n cites) e (refuted-before m p cites proofs bases) j l)

module _ (m : Machine) (plan : Plan) (history : List Posting) (p : ℕ) (named : p < length m.properties) where
  -- What is kept behind a cause: this query with the lemmas at these places, and these proofs.
  abbrev kept : Task → List ℕ → List Refutation → Grounds
  kept task places proofs = record { query = Some (task, places); proofs = proofs; paths = []; terms = [] }

  -- Of an engine that may ask about an instant, before which all are refuted, and which it leaves open.
  open-cause : (engine i : ℕ) (cites : List Formula) (places : List ℕ) → AreTermsAt (facts_in history) places cites
      → ((states : List (List Cell)) → IsAnswer m (base p i) cites states → Breaks m p states)
      → (task : Task) (more proofs : List Refutation) (why : Why)
      → MayAsk m plan (kept task places proofs) engine p (base p i) cites
      → AreRefutedBefore m proofs p i cites
      → ((t : Task) → IsRefutedBy m more t cites → IsRefutedBy m proofs t cites)
      → IsOpen m plan p i cites task more why
      → IsTrueAfter m plan history (spent engine p why (kept task places proofs))
  open-cause engine i cites places there breaks task more proofs (depth n) asked before among o = absurd o
  open-cause engine i cites places there breaks task more proofs (frames n) asked before among o = absurd o
  open-cause engine i cites places there breaks task more proofs (blocked n) asked before among o = absurd o
  open-cause engine i cites places there breaks task more proofs (done n) asked before among o = absurd o
  open-cause engine i cites places there breaks task more proofs (stopped h) asked before among o = (
    named,
    (
      cites,
      there,
      record {
        asked = (base p i, asked, o.0);
        form = o.1.form;
        is_form = o.1.is_form;
        is_true = o.1.is_true;
      },
    ),
  )
  open-cause engine i cites places there breaks task more proofs (wide path variable instant value) asked before among o = (
    named,
    (
      cites,
      there,
      record {
        last = i;
        is_base = o.0;
        breaks = breaks path o.1;
        count = o.1.count;
        too_wide = o.2;
        asked = asked;
        clear = by_proofs before;
        narrow = among (narrow_task m (base p i)) o.3;
      },
    ),
  )

  -- of bounded search, at the instant after those that these proofs refute
  pub bounded-open : FactsAreTrue m → (proofs : List Refutation) (i : ℕ) → length proofs ≡ i → AreBases m p [] 0 proofs
      → i ≤ plan.depth
      → (task : Task) (more : List Refutation) (why : Why) → IsOpen m plan p i [] task more why
      → IsTrueAfter m plan history (spent 0 p why (kept task [] (proofs ++ more)))
  bounded-open law proofs i e bases within task more why o =
      let before = before-more m p [] proofs more i e bases in
      open-cause 0 i [] [] tt (breaks-at m p named law [] (none-of (IsTerm m)) proofs i e bases) task more
      (proofs ++ more) why (refl, record { within = within; before = before }) before
      (λ t. by-back m t [] proofs more) o

  -- of induction, at an instant below a k whose step is refuted, with the lemmas at these places
  pub below-open : FactsAreTrue m → (proofs : List Refutation) (i : ℕ) (cites : List Citation) → length proofs ≡ i
      → AreBases m p (terms_of cites) 0 proofs → All (IsTerm m) (terms_of cites)
      → AreCited (facts_in history) cites → (k : ℕ) → i < k → k ≤ plan.depth
      → (r : Refutation) → IsRefuted m (step p k) (terms_of cites) r → (places : List ℕ)
      → places ≡ map (λ (c : Citation). c.place) cites
      → (task : Task) (more : List Refutation) (why : Why) → IsOpen m plan p i (terms_of cites) task more why
      → IsTrueAfter m plan history (spent 1 p why (kept task places ((proofs ++ r ∷ []) ++ more)))
  below-open law proofs i cites e bases terms cited k below within r refuted places same task more why o =
      let fs = terms_of cites in
      let all = (proofs ++ r ∷ []) ++ more in
      let before : AreRefutedBefore m all p i fs = λ j l.
      by-front m (base p j) fs (proofs ++ r ∷ []) more (before-more m p fs proofs (r ∷ []) i e bases j l) in
      open-cause 1 i fs places
      (subst (λ l. AreTermsAt (facts_in history) l fs) (sym same) (terms-there (facts_in history) cites cited))
      (breaks-at m p named law fs terms proofs i e bases) task more all why (
        refl,
        record {
          k = k;
          below = below;
          within = within;
          after = by-front m (step p k) fs (proofs ++ r ∷ []) more (by-last m (step p k) fs proofs r refuted);
        },
      ) before (λ t. by-back m t fs (proofs ++ r ∷ []) more) o

  -- what is kept behind the proofs shows it
  pub halted-true : (n engine : ℕ) → n ≡ engine → (halted : Halted) (left : Open) (places : List ℕ)
      (proofs : List Refutation) → halted_grounds halted ≡ open_grounds places proofs left → halted.cause ≡ left.cause
      → IsTrueAfter m plan history (spent engine p (cause_view left.cause) (open_grounds places proofs left))
      → IsTrueAfter m plan history (spent n p (cause_view halted.cause) (halted_grounds halted))
  halted-true n engine same halted left places proofs g c h =
      subst (λ k. IsTrueAfter m plan history (spent k p (cause_view halted.cause) (halted_grounds halted))) (sym same)
      (subst (λ k. IsTrueAfter m plan history (spent engine p (cause_view halted.cause) k)) (sym g)
      (subst (λ k. IsTrueAfter m plan history (spent engine p (cause_view k) (open_grounds places proofs left))) (sym c) h))

  may-ask : (k : ℕ) (states : List (List Cell)) (g : Grounds) → g.paths ≡ states ∷ [] → IsAtStep m plan k p states
      → MayAskStep m plan g p k
  may-ask zero states g e h = let s = h.some in absurd (omega arith)
  may-ask (suc zero) states g e h = h.within
  may-ask (suc (suc k)) states g e h =
      let r = h.run (omega arith) in (
        h.within,
        record {
          states = states;
          is_kept = subst (λ l. Contains l states) (sym e) (0, omega arith, refl);
          count = r.count;
          loose = r.loose;
          alone = r.alone;
        },
      )

  -- of induction, at the step by k states, with the lemmas at these places
  pub step-stop : (k : ℕ) (states : List (List Cell)) → IsAtStep m plan k p states → (cites : List Citation)
      → AreCited (facts_in history) cites → (h : Halt) → IsAnswered m (step p k) (terms_of cites) plan.budgets (stop h)
      → (places : List ℕ) → places ≡ map (λ (c : Citation). c.place) cites → (proofs : List Refutation)
      → (paths : List (List (List Cell))) → paths ≡ states ∷ []
      → IsTrueAfter m plan history
      (spent 1 p (stopped h) (record { query = Some (step p k, places); proofs = proofs; paths = paths; terms = [] }))
  step-stop k states at cites cited h s places same proofs paths one =
      subst (λ l. IsTrueAfter m plan history
      (spent 1 p (stopped h) (record { query = Some (step p k, l); proofs = proofs; paths = paths; terms = [] })))
      (sym same) (
        named,
        (
          terms_of cites,
          terms-there (facts_in history) cites cited,
          record {
            asked = (
              step p k,
              (
                refl,
                may-ask k states (record {
                  query =
                      Some (step p k, map (λ (c : Citation). c.place) cites);
                  proofs = proofs;
                  paths = paths;
                  terms = [];
                }) one at,
              ),
              inl refl,
            );
            form = s.form;
            is_form = s.is_form;
            is_true = s.is_true;
          },
        ),
      )

  -- a path at which induction is stuck at its depth
  pub stuck-after : (k : ℕ) → k ≡ plan.depth → (front : ℕ) (cites : List Citation) → AreLemmas m history front cites
      → (states : List (List Cell)) → IsAnswer m (step p k) (terms_of cites) states
      → IsTrueAfter m plan history (stuck p states front)
  stuck-after k e front cites h states a = (
    record {
      property = named;
      front_is_here = h.front_is_here;
      loose = a.path;
      alone = a.against;
      lemmas = true-on m history front cites states h a.cited;
    },
    subst (λ n. length states ≡ suc n) e a.count,
  )
