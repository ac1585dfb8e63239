-- The causes that never come in a book over the system of a program without integers.
use Rattle.std.specs.Prelude.{ℕ, zero, suc, ◌≡◌, ◌≢◌, ◌<◌, ◌≤◌, Bool, true, false, ◌&&◌, List, [], ◌∷◌, ◌++◌, take, Option, Some, None, Ok, slice_get, refl}
use Rattle.std.specs.List.{AllByRecursion}
use Rattle.std.proofs.Common.{subst, sym, arith}
use Rattle.std.proofs.Math.Logic.{inl, inr}
use Rattle.std.proofs.lemmas.List.Elements.{recursion_from_All}
use lib.IntN.{ℤ}
use Rattle.kind_num.specs.declared.Shape.{Shape}
use Rattle.kind_num.specs.declared.Shape.TheVariants as k
use Rattle.proof_steps.specs.declared.Literal.{Literal}
use Rattle.proof_steps.specs.StopView.{Halt, conflicts, splits, pivots, past}
use Rattle.proof_steps.specs.Rows.{Form}
use Rattle.proof_steps.specs.Stopped.{IsTrueOf}
use Rattle.lus_meaning.proofs.Now.{right_part}
use Rattle.lus_meaning.specs.Program.{instance_of}
use Rattle.sys_terms.specs.declared.term.Entry.{Entry}
use Rattle.sys_terms.specs.declared.term.Entry.TheVariants as c
use Rattle.sys_terms.specs.Boolean.{is_boolean}
use Rattle.sys_terms.specs.View.{Formula, Machine, Task, base, step, lemma_first, lemma_next, implied, with_states, negation}
use Rattle.sys_terms.specs.Fits.{state_fits}
use Rattle.sys_terms.specs.Paths.{IsState}
use Rattle.sys_terms.specs.Queries.{property_term, query_of, or_true, last_of}
use Rattle.sys_terms.specs.NarrowQuery.{from_state, asked_at, bounds_at, bounds_from, narrow_bounds}
use Rattle.sys_meaning.specs.System.{system_of}
use Rattle.cnf_maker.specs.ClauseForm.{clause_form}
use Rattle.cert_rules.specs.Facts.{Fact, base_fact, step_fact, lemma_fact, held_fact, held_by_fact, other_fact, IsLemmaOf}
use Rattle.board_core.specs.declared.plan.Plan.{Plan}
use Rattle.board_core.specs.Entries.{Why, depth, frames, blocked, done, stopped, wide, Grounds, Posting, facts_in, MayAsk, MayStop, IsStopped, IsWideAt, IsWide, term_at, AreTermsAt, OfQuery, IsWhy, IsTrueAfter, AreSound}
use Rattle.depth_laws.proofs.Causes.{IsSpentBy, find-cause}
use Rattle.smt_solver.specs.Boolean.{all_boolean, all_boolean_at, is_boolean_task}
use Rattle.boolean_laws.specs.Laws.{IsOfFlags, SystemsAreOfFlags}
use Rattle.boolean_laws.specs.Complete.{NeverStops, EachQueryNeverStops}
use Rattle.boolean_laws.specs.Books.{LemmasAreBoolean, NeedsNumbers, CausesNeedNoNumbers, HasLargeQuery, ConflictsNeedLargeQueries}

-- ---- what is asked

named_boolean : (fs : List Formula) (p : ℕ) → AllByRecursion (λ f. is_boolean f ≡ true) fs → is_boolean (or_true (slice_get fs p)) ≡ true
named_boolean [] p a = refl
named_boolean (f ∷ fs) zero a = a.0
named_boolean (f ∷ fs) (suc p) a = named_boolean fs p a.1

both_at : (xs ys : List (ℕ × Formula)) → all_boolean_at xs ≡ true → all_boolean_at ys ≡ true → all_boolean_at (xs ++ ys) ≡ true
both_at [] ys h g = g
both_at ((j, f) ∷ xs) ys h g = go (is_boolean f) (all_boolean_at xs) h (both_at xs ys)
  where
    go : (a b : Bool) → (a && b) ≡ true → (b ≡ true → all_boolean_at ys ≡ true → all_boolean_at (xs ++ ys) ≡ true) →
        (a && all_boolean_at (xs ++ ys)) ≡ true
    go true b e r = r e g
    go false b e r = absurd cc

from_boolean : (j count : ℕ) (f : Formula) → is_boolean f ≡ true → all_boolean_at (from_state j count f) ≡ true
from_boolean j zero f h = refl
from_boolean j (suc count) f h = rw (h, from_boolean (suc j) count f h) refl

-- flags have no bounds
no_bounds_at : (j v : ℕ) (hs : List Shape) → AllByRecursion (λ s. s ≡ k.Flag) hs → all_boolean_at (bounds_at j v hs) ≡ true
no_bounds_at j v [] a = refl
no_bounds_at j v (k.Flag ∷ hs) a = no_bounds_at j (suc v) hs a.1
no_bounds_at j v (k.Number ∷ hs) a = absurd cc

no_bounds : (hs : List Shape) (j count : ℕ) → AllByRecursion (λ s. s ≡ k.Flag) hs → all_boolean_at (bounds_from hs j count) ≡ true
no_bounds hs j zero a = refl
no_bounds hs j (suc count) a = both_at (bounds_at j 0 hs) (bounds_from hs (suc j) count) (no_bounds_at j 0 hs a) (no_bounds hs (suc j) count a)

module _ (m : Machine) (o : IsOfFlags m) where
  property_boolean : (p : ℕ) → is_boolean (property_term m p) ≡ true
  property_boolean p =
      let P : Formula → Type 0 = λ f. is_boolean f ≡ true in
      named_boolean m.properties p (right_part P m.legal _ (right_part P m.next _ (right_part P m.here _ (right_part P m.first _ o.terms))))

  asked_boolean : (plan : Plan) (g : Grounds) (engine p : ℕ) (task : Task) (cites : List Formula) → MayAsk m plan g engine p task cites →
      (is_boolean_task task ≡ true) × (all_boolean_at (asked_at m task) ≡ true)
  asked_boolean plan g zero p (base q i) cites a = (refl, rw (property_boolean q) refl)
  asked_boolean plan g zero p (step q n) cites a = absurd a
  asked_boolean plan g zero p (lemma_first f) cites a = absurd a
  asked_boolean plan g zero p (lemma_next f) cites a = absurd a
  asked_boolean plan g zero p (implied f q) cites a = absurd a
  asked_boolean plan g zero p (with_states n b at) cites a = absurd a
  asked_boolean plan g (suc zero) p (base q i) cites a = (refl, rw (property_boolean q) refl)
  asked_boolean plan g (suc zero) p (step q n) cites a = (
    refl,
    both_at (from_state 0 n (property_term m q)) ((n, negation (property_term m q)) ∷ [])
        (from_boolean 0 n (property_term m q) (property_boolean q)) (rw (property_boolean q) refl),
  )
  asked_boolean plan g (suc zero) p (lemma_first f) cites a = absurd a
  asked_boolean plan g (suc zero) p (lemma_next f) cites a = absurd a
  asked_boolean plan g (suc zero) p (implied f q) cites a = absurd a
  asked_boolean plan g (suc zero) p (with_states n b at) cites a = absurd a
  asked_boolean plan g (suc (suc e)) p task cites a = absurd a

  stop_boolean : (plan : Plan) (g : Grounds) (engine p : ℕ) (task : Task) (cites : List Formula) → MayStop m plan g engine p task cites →
      is_boolean_task task ≡ true
  stop_boolean plan g engine p task cites (asked, may, inl e) =
      subst (λ t. is_boolean_task t ≡ true) (sym e) (asked_boolean plan g engine p asked cites may).0
  stop_boolean plan g engine p task cites (asked, may, inr e) =
      subst (λ t. is_boolean_task t ≡ true) (sym e)
      (both_at (asked_at m asked) (narrow_bounds m asked) (asked_boolean plan g engine p asked cites may).1
      (no_bounds m.shapes 0 (suc (last_of asked)) o.variables))

-- ---- what is cited

fact_front : (n : ℕ) (history : List Posting) (j : ℕ) (P : Option Fact → Type 0) → (P None → ⊥) → P (slice_get (facts_in (take n history)) j) →
    P (slice_get (facts_in history) j)
fact_front zero history j P none h = absurd (none h)
fact_front (suc n) [] j P none h = absurd (none h)
fact_front (suc n) (i ∷ history) zero P none h = h
fact_front (suc n) (i ∷ history) (suc j) P none h = fact_front n history j P none h

is_lemma : (f : Formula) (o : Option Fact) → term_at o ≡ Some f → IsLemmaOf f o
is_lemma f None e = absurd cc
is_lemma f (Some (base_fact p d cites proofs)) e = absurd cc
is_lemma f (Some (step_fact p j cites proof)) e = absurd cc
is_lemma f (Some (lemma_fact g cites first next)) e = cc
is_lemma f (Some (held_fact p a b)) e = absurd cc
is_lemma f (Some (held_by_fact p a proof)) e = absurd cc
is_lemma f (Some other_fact) e = absurd cc

no_fact : (f : Formula) → IsLemmaOf f None → ⊥
no_fact f h = h

cited_boolean : (history : List Posting) → LemmasAreBoolean history → (n : ℕ) (places : List ℕ) (cites : List Formula) →
    AreTermsAt (facts_in (take n history)) places cites → all_boolean cites ≡ true
cited_boolean history l n [] [] a = refl
cited_boolean history l n [] (f ∷ fs) a = absurd a
cited_boolean history l n (j ∷ js) [] a = absurd a
cited_boolean history l n (j ∷ js) (f ∷ fs) a =
    rw (
      l j f (fact_front n history j (IsLemmaOf f) (no_fact f) (is_lemma f (slice_get (facts_in (take n history)) j) a.0)),
      cited_boolean history l n js fs a.1,
    ) refl

-- ---- wide values

no_wide_value : (hs : List Shape) (s : List Entry) (v : ℕ) (z : ℤ) → AllByRecursion (λ s. s ≡ k.Flag) hs → state_fits hs s ≡ true →
    slice_get s v ≡ Some (c.Number z) → ⊥
no_wide_value hs [] v z a f e = absurd cc
no_wide_value [] (x ∷ s) v z a f e = absurd cc
no_wide_value (k.Number ∷ hs) (x ∷ s) v z a f e = absurd cc
no_wide_value (k.Flag ∷ hs) (c.Number y ∷ s) v z a f e = absurd cc
no_wide_value (k.Flag ∷ hs) (c.Flag b ∷ s) zero z a f e = absurd cc
no_wide_value (k.Flag ∷ hs) (c.Flag b ∷ s) (suc v) z a f e = no_wide_value hs s v z a.1 f e

same_state : (s t : List Entry) → Some s ≡ Some t → s ≡ t
same_state s t e = cc

state_there : (m : Machine) (path : List (List Entry)) (j : ℕ) (s : List Entry) → AllByRecursion (IsState m) path → slice_get path j ≡ Some s → IsState m s
state_there m [] j s a e = absurd cc
state_there m (t ∷ path) zero s a e = subst (IsState m) (same_state t s e) a.0
state_there m (t ∷ path) (suc j) s a e = state_there m path j s a.1 e

no_wide : (m : Machine) → IsOfFlags m → (path : List (List Entry)) (variable instant : ℕ) (value : ℤ) → AllByRecursion (IsState m) path →
    IsWideAt path variable instant value → ⊥
no_wide m o path variable instant value a (s, at, is, size) =
    no_wide_value m.shapes s variable value o.variables (state_there m path instant s a at).fit is

-- ---- causes

abbrev Never : Machine → Plan → Type 0
Never m plan = (task : Task) (cites : List Formula) (f : Form) → is_boolean_task task ≡ true → all_boolean cites ≡ true
    → clause_form (query_of m task cites) ≡ Ok f → NeverStops f plan.budgets

-- a true stop of a query
record Stops (m : Machine) (plan : Plan) (halt : Halt) : Type 0 where
  task : Task
  cites : List Formula
  form : Form
  is_form : clause_form (query_of m task cites) ≡ Ok form
  is_true : IsTrueOf form plan.budgets halt
  never : NeverStops form plan.budgets

module _ (m : Machine) (o : IsOfFlags m) (plan : Plan) (history : List Posting) (l : LemmasAreBoolean history) (never : Never m plan) where
  stop_seen : (g : Grounds) (engine p n : ℕ) (halt : Halt) (q : Option (Task × List ℕ)) →
      OfQuery (take n history) (λ task cites. IsStopped m plan g engine p task cites halt) q → Stops m plan halt
  stop_seen g engine p n halt None h = absurd h
  stop_seen g engine p n halt (Some (task, places)) (cites, terms, s) = record {
    task = task;
    cites = cites;
    form = s.form;
    is_form = s.is_form;
    is_true = s.is_true;
    never = never task cites s.form (stop_boolean m o plan g engine p task cites s.asked) (cited_boolean history l n places cites terms) s.is_form;
  }

  wide_seen : (g : Grounds) (engine p n : ℕ) (path : List (List Entry)) (variable instant : ℕ) (value : ℤ) (q : Option (Task × List ℕ)) →
      OfQuery (take n history) (λ task cites. IsWide m plan (take n history) g engine p path variable instant value task cites) q → ⊥
  wide_seen g engine p n path variable instant value None h = h
  wide_seen g engine p n path variable instant value (Some (task, places)) (cites, terms, w) =
      no_wide m o path variable instant value (recursion_from_All (IsState m) path w.breaks.path.loose.each) w.too_wide

  no_need : plan.budgets.splits ≢ 0 → (engine p n : ℕ) (why : Why) (g : Grounds) → IsWhy m plan (take n history) engine p why g → ¬ NeedsNumbers why
  no_need z engine p n (depth d) g w need = need
  no_need z engine p n (frames k) g w need = need
  no_need z engine p n (blocked k) g w need = need
  no_need z engine p n (done k) g w need = need
  no_need z engine p n (stopped (conflicts clauses pairs)) g w need = need
  no_need z engine p n (stopped (splits pairs)) g w need =
      let s = stop_seen g engine p n (splits pairs) g.query w in s.never.needed.no_splits pairs z s.is_true
  no_need z engine p n (stopped (pivots start pairs)) g w need =
      let s = stop_seen g engine p n (pivots start pairs) g.query w in s.never.needed.no_pivots start pairs s.is_true
  no_need z engine p n (stopped (past operation pairs)) g w need =
      let s = stop_seen g engine p n (past operation pairs) g.query w in s.never.needed.no_past operation pairs s.is_true
  no_need z engine p n (wide path variable instant value) g w need = wide_seen g engine p n path variable instant value g.query w

  large_query : (engine p n : ℕ) (clauses : List (List Literal)) (pairs : List (ℕ × ℤ)) (g : Grounds) →
      IsWhy m plan (take n history) engine p (stopped (conflicts clauses pairs)) g → HasLargeQuery m plan.budgets.conflicts
  large_query engine p n clauses pairs g w =
      let s = stop_seen g engine p n (conflicts clauses pairs) g.query w in
      record { task = s.task; cites = s.cites; form = s.form; is_form = s.is_form; large = below _ _ (λ k. s.never.flags k clauses pairs s.is_true) }
    where
      below : (a b : ℕ) → (b ≤ a → ⊥) → a < b
      below a b h = search arith

  why_there : AreSound m plan history → (engine p : ℕ) (why : Why) → (s : IsSpentBy history engine p why) →
      IsWhy m plan (take s.place history) engine p why s.grounds
  why_there sound engine p why s = (subst (IsTrueAfter m plan (take s.place history)) s.says (sound s.place s.item s.is_item)).1

pub causes_need_none : SystemsAreOfFlags → EachQueryNeverStops → CausesNeedNoNumbers
causes_need_none flags never p c n j h plan history sound l z engine q why e =
    let m = system_of (instance_of p n) in
    let o = flags p c n j h in
    let never_here : Never m plan = λ task cites f b d w. never p c n j h task cites f b d w plan.budgets in
    let s = find-cause engine q why history e in
    no_need m o plan history l never_here z engine q s.place why s.grounds (why_there m o plan history l never_here sound engine q why s)

pub conflicts_need_large : SystemsAreOfFlags → EachQueryNeverStops → ConflictsNeedLargeQueries
conflicts_need_large flags never p c n j h plan history sound l engine q clauses pairs e =
    let m = system_of (instance_of p n) in
    let o = flags p c n j h in
    let never_here : Never m plan = λ task cites f b d w. never p c n j h task cites f b d w plan.budgets in
    let s = find-cause engine q (stopped (conflicts clauses pairs)) history e in
    large_query m o plan history l never_here engine q s.place clauses pairs s.grounds
    (why_there m o plan history l never_here sound engine q (stopped (conflicts clauses pairs)) s)
