-- The entry behind a cause, and what it gives.
use Rattle.std.specs.Prelude.{ℕ, zero, suc, ◌≡◌, ◌==◌, ◌&&◌, ◌||◌, ◌+◌, ◌≤◌, ◌<◌, Bool, true, false, cond, List, [], ◌∷◌, take, drop, length, All, Option, Some, None, slice_get, refl}
use Rattle.std.specs.List.{AllByRecursion}
use Rattle.std.proofs.Common.{sym, subst, ◌∙◌, ap, arith, rules}
use Rattle.std.proofs.lemmas.List.Elements.{All-from_recursion, recursion_from_All}
use Rattle.sys_terms.specs.declared.term.Entry.{Entry as Cell}
use Rattle.sys_terms.specs.View.{Formula, Machine}
use Rattle.sys_terms.specs.Fits.{IsFit}
use Rattle.sys_terms.specs.Paths.{AreTrue, IsTrueAt, IsReachable, IsPath, IsFalseAtLast}
use Rattle.sys_terms.specs.Queries.{property_term}
use Rattle.cert_rules.specs.Facts.{Citation, Fact, base_fact, step_fact, lemma_fact, held_fact, held_by_fact, other_fact, terms_of, IsLemmaOf, AreCited, IsFactAfter, AreFacts}
use Rattle.cert_rules.specs.Laws.{HoldsReachably, LemmasHold, FactsHold, FactsAreTrue, BasesExclude}
use Rattle.cert_rules.proofs.Paths.{all-map, all-reached, all-drop, loose-drop, drop-alone, drop-count, some-drop}
use Rattle.cert_rules.proofs.Sound.{Found, found, absent, find, earlier}
use Rattle.board_core.specs.declared.plan.Plan.{Plan}
use Rattle.board_core.specs.Entries.{Why, depth, frames, blocked, done, stopped, wide, Grounds, Claim, proved, broken, stuck, spent, Posting, facts_in, IsBaseTo, IsStuckClaim, IsStuckOf, IsStuckPath, IsTrueAfter, AreSound}
use Rattle.board_core.specs.Verdicts.{Judged, valid_by, falsifiable_by, unknown, judged_from, holds, breaks, decides, cause_if, cause_in, or_later, cause_of}
use Rattle.board_core.specs.Seats.{is_spent, has_cause, HasCauses}
use Rattle.board_core.proofs.Sound.{sound-facts}
use Rattle.depth_laws.specs.Depths.{BreaksUpTo, StaysTrueWith, IsInductive, IsCutShort, IsLemmaBelow, AreLemmasBelow, IsStuckAt}
use Rattle.depth_laws.proofs.Parts.{with-none}

-- ---- the entry

-- an entry of the engine with the cause
pub record IsSpentBy (history : List Posting) (engine p : ℕ) (why : Why) : Type 0 where
  pub place : ℕ
  pub item : Posting
  pub grounds : Grounds
  pub is_item : slice_get history place ≡ Some item
  pub says : item.says ≡ spent engine p why grounds

behind : (i : Posting) (history : List Posting) (engine p : ℕ) (why : Why) → IsSpentBy history engine p why
    → IsSpentBy (i ∷ history) engine p why
behind i history engine p why s = record {
  place = suc s.place;
  item = s.item;
  grounds = s.grounds;
  is_item = s.is_item;
  says = s.says;
}

same-numbers : (a b : ℕ) → (a == b) ≡ true → a ≡ b
same-numbers a b e = search (rules, arith)

and-first : (a b : Bool) → (a && b) ≡ true → a ≡ true
and-first true b e = refl
and-first false b e = absurd cc

and-second : (a b : Bool) → (a && b) ≡ true → b ≡ true
and-second true b e = e
and-second false b e = absurd cc

abbrev IsSpentClaim : (engine p : ℕ) → Why → Claim → Type 0
IsSpentClaim engine p why says = (grounds : Grounds) × (says ≡ spent engine p why grounds)

cause-if : (engine p e q : ℕ) (w why : Why) (grounds : Grounds) (b : Bool) → ((e == engine) && (q == p)) ≡ b
    → cause_if b w ≡ Some why → IsSpentClaim engine p why (spent e q w grounds)
cause-if engine p e q w why grounds true same is =
    let first = same-numbers e engine (and-first (e == engine) (q == p) same) in
    let second = same-numbers q p (and-second (e == engine) (q == p) same) in
    (grounds, cc)
cause-if engine p e q w why grounds false same is = absurd cc

cause-here : (engine p : ℕ) (why : Why) (says : Claim) → cause_in engine p says ≡ Some why → IsSpentClaim engine p why says
cause-here engine p why (proved f) e = absurd cc
cause-here engine p why (broken q path) e = absurd cc
cause-here engine p why (stuck q path front) e = absurd cc
cause-here engine p why (spent n q w grounds) e =
    cause-if engine p n q w why grounds ((n == engine) && (q == p)) refl e

first-or-later : (engine p : ℕ) (why : Why) (i : Posting) (history : List Posting)
    → (cause_of engine p history ≡ Some why → IsSpentBy history engine p why)
    → (o : Option Why) → cause_in engine p i.says ≡ o → or_later o (cause_of engine p history) ≡ Some why
    → IsSpentBy (i ∷ history) engine p why
first-or-later engine p why i history law None here e = behind i history engine p why (law e)
first-or-later engine p why i history law (Some w) here e =
    let claim = cause-here engine p why i.says (here ∙ e) in
    record { place = 0; item = i; grounds = claim.0; is_item = refl; says = claim.1 }

pub find-cause : (engine p : ℕ) (why : Why) (history : List Posting) → cause_of engine p history ≡ Some why
    → IsSpentBy history engine p why
find-cause engine p why [] e = absurd cc
find-cause engine p why (i ∷ history) e =
    first-or-later engine p why i history (find-cause engine p why history) (cause_in engine p i.says) refl e

-- it is true after the entries before it
true-spent : (m : Machine) (plan : Plan) (history : List Posting) → AreSound m plan history → (engine p : ℕ) (why : Why)
    → (s : IsSpentBy history engine p why) → IsTrueAfter m plan (take s.place history) (spent engine p why s.grounds)
true-spent m plan history sound engine p why s =
    subst (IsTrueAfter m plan (take s.place history)) s.says (sound s.place s.item s.is_item)

-- what an entry before it is, the book has
posting-front : (n : ℕ) (history : List Posting) (k : ℕ) (P : Option Posting → Type 0) → (P None → ⊥)
    → P (slice_get (take n history) k) → P (slice_get history k)
posting-front zero history k P none h = absurd (none h)
posting-front (suc n) [] k P none h = absurd (none h)
posting-front (suc n) (i ∷ history) zero P none h = h
posting-front (suc n) (i ∷ history) (suc k) P none h = posting-front n history k P none h

fact-front : (n : ℕ) (history : List Posting) (k : ℕ) (P : Option Fact → Type 0) → (P None → ⊥)
    → P (slice_get (facts_in (take n history)) k) → P (slice_get (facts_in history) k)
fact-front zero history k P none h = absurd (none h)
fact-front (suc n) [] k P none h = absurd (none h)
fact-front (suc n) (i ∷ history) zero P none h = h
fact-front (suc n) (i ∷ history) (suc k) P none h = fact-front n history k P none h

-- ---- causes that are depths

whole-by : (m : Machine) (plan : Plan) (before : List Posting) (engine p : ℕ) (why : Why) (grounds : Grounds)
    → IsTrueAfter m plan before (spent engine p why grounds) → ¬ IsCutShort why → why ≡ depth plan.depth
whole-by m plan before engine p (depth d) grounds t whole = ap depth t.1.0
whole-by m plan before engine p (frames n) grounds t whole = absurd t.1
whole-by m plan before engine p (blocked n) grounds t whole = absurd t.1
whole-by m plan before engine p (done n) grounds t whole = absurd t.1
whole-by m plan before engine p (stopped halt) grounds t whole = absurd (whole tt)
whole-by m plan before engine p (wide path v i value) grounds t whole = absurd (whole tt)

pub whole-depth : (m : Machine) (plan : Plan) (history : List Posting) → IsFit m → AreSound m plan history
    → (engine p : ℕ) (why : Why) → cause_of engine p history ≡ Some why → ¬ IsCutShort why → why ≡ depth plan.depth
whole-depth m plan history fit sound engine p why e whole =
    let s = find-cause engine p why history e in
    whole-by m plan (take s.place history) engine p why s.grounds (true-spent m plan history sound engine p why s) whole

-- ---- bounded search

-- cited terms are true in all reachable states
cites-by : (m : Machine) (facts : List Fact) (n : ℕ) → LemmasHold m facts → (cites : List Citation)
    → AllByRecursion (λ (c : Citation). IsLemmaOf c.term (slice_get (take n facts) c.place)) cites
    → AllByRecursion (HoldsReachably m) (terms_of cites)
cites-by m facts n lemmas [] h = tt
cites-by m facts n lemmas (c ∷ cs) h =
    let r = earlier n facts c.place (IsLemmaOf c.term) (λ b. b) h.0 in
    (lemmas c.place c.term r.1, cites-by m facts n lemmas cs h.1)

true-there : (m : Machine) (terms : List Formula) (s : List Cell) → AllByRecursion (HoldsReachably m) terms
    → IsReachable m s → AllByRecursion (λ f. IsTrueAt f s) terms
true-there m [] s h r = tt
true-there m (f ∷ fs) s h r = (h.0 s r, true-there m fs s h.1 r)

cited-on : (m : Machine) (facts : List Fact) (n : ℕ) → LemmasHold m facts → (cites : List Citation)
    → AreCited (take n facts) cites → (states : List (List Cell)) → IsPath m states
    → All (AreTrue (terms_of cites)) states
cited-on m facts n lemmas cites cited states path =
    let hold = cites-by m facts n lemmas cites
    (recursion_from_All (λ (c : Citation). IsLemmaOf c.term (slice_get (take n facts) c.place)) cites cited) in
    all-map (IsReachable m) (AreTrue (terms_of cites))
    (λ s r. All-from_recursion (λ f. IsTrueAt f s) (terms_of cites) (true-there m (terms_of cites) s hold r))
    states (all-reached m states path)

-- no path of at most d + 1 states ends with the property false
abbrev NoneEndsFalse : Machine → (p d : ℕ) → Type 0
NoneEndsFalse m p d =
    (states : List (List Cell)) → IsPath m states → length states ≤ suc d → ¬ IsFalseAtLast (property_term m p) states

base-excludes : (m : Machine) (facts : List Fact) (k : ℕ) → LemmasHold m facts → BasesExclude m → (p d : ℕ) (f : Fact)
    → IsFactAfter m (take k facts) f → IsBaseTo p d (Some f) → NoneEndsFalse m p d
base-excludes m facts k lemmas bases p d (base_fact q e cites proofs) t b =
    subst (λ r. NoneEndsFalse m r d) b.0 (subst (NoneEndsFalse m q) b.1
    (λ states path short. bases q e (terms_of cites) proofs t.0 states path short
    (cited-on m facts k lemmas cites t.1 states path)))
base-excludes m facts k lemmas bases p d (step_fact q j cites proof) t b = absurd b
base-excludes m facts k lemmas bases p d (lemma_fact g cites first next) t b = absurd b
base-excludes m facts k lemmas bases p d (held_fact q x y) t b = absurd b
base-excludes m facts k lemmas bases p d (held_by_fact q x proof) t b = absurd b
base-excludes m facts k lemmas bases p d other_fact t b = absurd b

found-base : (m : Machine) (facts : List Fact) (k : ℕ) → LemmasHold m facts → BasesExclude m → AreFacts m facts
    → (p d : ℕ) → Found (slice_get facts k) → IsBaseTo p d (slice_get facts k) → NoneEndsFalse m p d
found-base m facts k lemmas bases true_of p d (found f at) b =
    base-excludes m facts k lemmas bases p d f (true_of k f at) (subst (IsBaseTo p d) at b)
found-base m facts k lemmas bases true_of p d (absent none) b = absurd (subst (IsBaseTo p d) none b)

pub bounded-depth : ((m : Machine) (facts : List Fact) → IsFit m → AreFacts m facts → FactsHold m facts)
    → ((m : Machine) → IsFit m → FactsAreTrue m)
    → (m : Machine) (plan : Plan) (history : List Posting) → IsFit m → AreSound m plan history
    → (p d : ℕ) → cause_of 0 p history ≡ Some (depth d) → ¬ BreaksUpTo m p plan.depth
bounded-depth facts_hold facts_are_true m plan history fit sound p d e b =
    let s = find-cause 0 p (depth d) history e in
    let t = true-spent m plan history sound 0 p (depth d) s in
    let facts = facts_in history in
    let true_of = sound-facts m plan history sound in
    let base = fact-front s.place history t.1.1.0 (IsBaseTo p d) (λ x. x) t.1.1.1 in
    let none = found-base m facts t.1.1.0 (facts_hold m facts fit true_of).lemmas (facts_are_true m fit).bases true_of p d
    (find (slice_get facts t.1.1.0)) base in
    subst (NoneEndsFalse m p) t.1.0 none b.states b.path b.short b.ends_false

-- ---- induction

gap : (k d : ℕ) → k ≤ d → (x : ℕ) × (d ≡ x + k)
gap zero d l = (d, omega arith)
gap (suc k) zero l = absurd (omega arith)
gap (suc k) (suc d) l = let r = gap k d (omega arith) in (r.0, omega arith)

-- the last k + 1 states of a stuck path are such a path, on which the terms are true that are true on all of it
tail-refutes : (m : Machine) (earlier : List Posting) (p d : ℕ) (path : List (List Cell)) (front : ℕ) (terms : List Formula)
    → IsStuckPath m earlier p path front → length path ≡ suc d → All (AreTrue terms) path
    → (k : ℕ) → k ≤ d → ¬ StaysTrueWith m terms p k
tail-refutes m earlier p d path front terms s count true_on k l stays =
    let f = property_term m p in
    let g = gap k d l in
    let long : g.0 < length path = omega arith in
    let alone = drop-alone f g.0 path long s.alone in
    let loose = loose-drop m g.0 path (some-drop f g.0 path alone) s.loose in
    stays (drop g.0 path) loose (all-drop (AreTrue terms) g.0 path true_on) (drop-count g.0 path (suc k) (omega arith)) alone

-- terms that are true on all states are all true on each
heads : (terms : List Formula) (s : List Cell) (rest : List (List Cell))
    → AllByRecursion (λ f. AllByRecursion (IsTrueAt f) (s ∷ rest)) terms
    → AllByRecursion (λ f. IsTrueAt f s) terms × AllByRecursion (λ f. AllByRecursion (IsTrueAt f) rest) terms
heads [] s rest h = (tt, tt)
heads (f ∷ fs) s rest h = let r = heads fs s rest h.1 in ((h.0.0, r.0), (h.0.1, r.1))

on-each : (terms : List Formula) (states : List (List Cell)) → AllByRecursion (λ f. AllByRecursion (IsTrueAt f) states) terms
    → AllByRecursion (AreTrue terms) states
on-each terms [] h = tt
on-each terms (s ∷ rest) h =
    let r = heads terms s rest h in (All-from_recursion (λ f. IsTrueAt f s) terms r.0, on-each terms rest r.1)

fact-kept : (n : ℕ) (history : List Posting) (k : ℕ) → k < n
    → slice_get (facts_in (take n history)) k ≡ slice_get (facts_in history) k
fact-kept zero history k l = absurd (omega arith)
fact-kept (suc n) [] k l = refl
fact-kept (suc n) (i ∷ history) zero l = refl
fact-kept (suc n) (i ∷ history) (suc k) l = fact-kept n history k (omega arith)

front-short : {X : Type 0} (n : ℕ) (xs : List X) → length (take n xs) ≤ n
front-short zero xs = omega arith
front-short (suc n) [] = omega arith
front-short (suc n) (x ∷ xs) = let l = front-short n xs in omega arith

-- lemmas below the front of a stuck entry are true on its path
lemmas-on : (m : Machine) (history : List Posting) (place p : ℕ) (path : List (List Cell)) (front : ℕ)
    → IsStuckPath m (take place history) p path front → (terms : List Formula)
    → AllByRecursion (IsLemmaBelow history front) terms
    → AllByRecursion (λ f. AllByRecursion (IsTrueAt f) path) terms
lemmas-on m history place p path front s [] h = tt
lemmas-on m history place p path front s (f ∷ fs) h =
    let n = h.0.0 in
    let below : n < front = h.0.1 in
    let here = s.front_is_here in
    let short = front-short place history in
    let before : n < place = omega arith in
    let kept = fact-kept front (take place history) n below ∙ fact-kept place history n before in
    let true_on = s.lemmas n f (subst (IsLemmaOf f) (sym kept) h.0.2) in
    (recursion_from_All (IsTrueAt f) path true_on, lemmas-on m history place p path front s fs h.1)

-- what a stuck entry gives
abbrev pub Stuck : Machine → List Posting → (p d : ℕ) → Type 0
Stuck m history p d =
    (front : ℕ) × IsStuckAt history p front
    × ((terms : List Formula) → AreLemmasBelow history front terms → (k : ℕ) → k ≤ d → ¬ StaysTrueWith m terms p k)

claim-stuck : (m : Machine) (plan : Plan) (history : List Posting) (p d place : ℕ) (i : Posting)
    → slice_get history place ≡ Some i → (says : Claim) → i.says ≡ says
    → IsTrueAfter m plan (take place history) says → IsStuckClaim p d says → Stuck m history p d
claim-stuck m plan history p d place i at (proved f) e t c = absurd c
claim-stuck m plan history p d place i at (broken q path) e t c = absurd c
claim-stuck m plan history p d place i at (stuck q path front) e t c = subst (λ r. Stuck m history r d) c.0 (
  front,
  record { place = place; item = i; path = path; is_item = at; says = e },
  λ terms below. tail-refutes m (take place history) q d path front terms t.0 c.1
      (All-from_recursion (AreTrue terms) path (on-each terms path
      (lemmas-on m history place q path front t.0 terms
      (recursion_from_All (IsLemmaBelow history front) terms below)))),
)
claim-stuck m plan history p d place i at (spent e q why grounds) s t c = absurd c

found-stuck : (m : Machine) (plan : Plan) (history : List Posting) → AreSound m plan history → (p d n : ℕ)
    → Found (slice_get history n) → IsStuckOf p d (slice_get history n) → Stuck m history p d
found-stuck m plan history sound p d n (found i at) s =
    claim-stuck m plan history p d n i at i.says refl (sound n i at) (subst (IsStuckOf p d) at s)
found-stuck m plan history sound p d n (absent none) s = absurd (subst (IsStuckOf p d) none s)

pub stuck-with-lemmas : (m : Machine) (plan : Plan) (history : List Posting) → IsFit m → AreSound m plan history
    → (p d : ℕ) → cause_of 1 p history ≡ Some (depth d) → Stuck m history p plan.depth
stuck-with-lemmas m plan history fit sound p d e =
    let s = find-cause 1 p (depth d) history e in
    let t = true-spent m plan history sound 1 p (depth d) s in
    let stuck_at = posting-front s.place history t.1.1.0 (IsStuckOf p d) (λ x. x) t.1.1.1 in
    subst (Stuck m history p) t.1.0
    (found-stuck m plan history sound p d t.1.1.0 (find (slice_get history t.1.1.0)) stuck_at)

-- without lemmas
no-lemmas : (history : List Posting) (front : ℕ) → AreLemmasBelow history front []
no-lemmas history front = All-from_recursion (IsLemmaBelow history front) [] tt

pub step-depth : (m : Machine) (plan : Plan) (history : List Posting) → IsFit m → AreSound m plan history
    → (p d : ℕ) → cause_of 1 p history ≡ Some (depth d) → (k : ℕ) → k ≤ plan.depth → ¬ IsInductive m p k
step-depth m plan history fit sound p d e k l inductive =
    let s = stuck-with-lemmas m plan history fit sound p d e in
    s.2 [] (no-lemmas history s.0) k l (with-none m p k inductive.step)

-- ---- what a play promises

abbrev IsThere : Option Why → Type 0
IsThere o = (why : Why) × (o ≡ Some why)

cause-true : (engine p e q : ℕ) (why : Why) (b : Bool) → b ≡ true → IsThere (cause_if b why)
cause-true engine p e q why true h = (why, refl)
cause-true engine p e q why false h = absurd cc

spent-cause : (engine p : ℕ) (says : Claim) → is_spent engine p says ≡ true → IsThere (cause_in engine p says)
spent-cause engine p (proved f) h = absurd cc
spent-cause engine p (broken q path) h = absurd cc
spent-cause engine p (stuck q path front) h = absurd cc
spent-cause engine p (spent e q why grounds) h = cause-true engine p e q why ((e == engine) && (q == p)) h

first-there : (o later : Option Why) → IsThere o → IsThere (or_later o later)
first-there None later h = let e = h.1 in absurd cc
first-there (Some why) later h = (why, refl)

later-there : (o later : Option Why) → IsThere later → IsThere (or_later o later)
later-there None later h = h
later-there (Some why) later h = (why, refl)

either-there : (engine p : ℕ) (says : Claim) (later : Option Why) (here there : Bool) → (there ≡ true → IsThere later)
    → ((here && is_spent engine p says) || there) ≡ true → (b : Bool) → (here && is_spent engine p says) ≡ b
    → IsThere (or_later (cause_in engine p says) later)
either-there engine p says later here there law h true e =
    first-there (cause_in engine p says) later (spent-cause engine p says (and-second here (is_spent engine p says) e))
either-there engine p says later here there law h false e =
    later-there (cause_in engine p says) later (law (subst (λ b. (b || there) ≡ true) e h))

has-some : (seat engine p : ℕ) (history : List Posting) → has_cause seat engine p history ≡ true
    → IsThere (cause_of engine p history)
has-some seat engine p [] h = absurd cc
has-some seat engine p (i ∷ history) h =
    either-there engine p i.says (cause_of engine p history) (i.seat == seat) (has_cause seat engine p history)
    (has-some seat engine p history) h ((i.seat == seat) && is_spent engine p i.says) refl

undecided-by : (place : ℕ) (h b : Bool) (later : Judged) (d : Bool) → (later ≡ unknown → d ≡ false)
    → cond h (valid_by place) (cond b (falsifiable_by place) later) ≡ unknown → ((h || b) || d) ≡ false
undecided-by place true b later d law e = absurd cc
undecided-by place false true later d law e = absurd cc
undecided-by place false false later d law e = law e

undecided : (place p : ℕ) (history : List Posting) → judged_from place p history ≡ unknown → decides p history ≡ false
undecided place p [] e = refl
undecided place p (i ∷ history) e =
    undecided-by place (holds p i.says) (breaks p i.says) (judged_from (suc place) p history) (decides p history)
    (undecided (suc place) p history) e

pub played-causes : (history : List Posting) (seat engine count p : ℕ) → HasCauses history history seat (Some engine) count
    → p < count → judged_from 0 p history ≡ unknown → IsThere (cause_of engine p history)
played-causes history seat engine count p causes l e =
    has-some seat engine p history (causes p l (undecided 0 p history e))
