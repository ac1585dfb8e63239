-- Lemmas that are cited, and histories that grow.
use Rattle.std.specs.Prelude.{ℕ, zero, suc, ◌≡◌, ◌<◌, ◌≤◌, ◌+◌, ◌++◌, true, List, [], ◌∷◌, length, map, take, drop, All, Contains, Option, Some, None, slice_get, slice_index_or, refl}
use Rattle.std.specs.List.{AllByRecursion}
use Rattle.std.proofs.Common.{ap, sym, subst, ◌∙◌, rules, arith}
use Rattle.std.proofs.lemmas.List.Elements.{All-from_recursion, recursion_from_All}
use Rattle.sys_terms.specs.declared.term.Entry.{Entry as Cell}
use Rattle.sys_terms.specs.View.{Formula, Machine}
use Rattle.sys_terms.specs.Fits.{all_fit_one, all_light}
use Rattle.sys_terms.specs.Paths.{AreTrue, IsTrueAt}
use Rattle.cert_rules.specs.Facts.{Fact, base_fact, step_fact, lemma_fact, held_fact, held_by_fact, other_fact, Citation, IsTerm, IsLemmaOf, AreCited, terms_of}
use Rattle.board_core.specs.declared.plan.Plan.{Plan}
use Rattle.board_core.specs.Entries.{Claim, proved, broken, stuck, spent, Posting, facts_in, fact_in, AreSound, AreTermsAt, IsTrueAfter, term_at, LemmasTrueOn}
use Rattle.board_core.specs.declared.statement.News.{News}
use Rattle.board_core.specs.View.{Told, said_by, told_from, news_view}
use Rattle.board_core.specs.Seats.{Begins}
use Rattle.kind_engine.specs.Lemmas.{AreLemmas, IsToldOf, told_term}
use Rattle.cert_rules.specs.declared.cited.Cited.{Cited}
use Rattle.cert_rules.specs.View.{cites_view}
use Rattle.board_core.proofs.Growing.{stays}
use Rattle.kind_engine.proofs.Lists.{length-map, contains-last, contains-front}
use Rattle.kind_engine.proofs.Histories.{facts-more}

fit-each : (m : Machine) (cites : List Formula) → AllByRecursion (IsTerm m) cites → all_fit_one m.shapes cites ≡ true
fit-each m [] h = refl
fit-each m (f ∷ fs) h = let a = h.0.fit in let b = fit-each m fs h.1 in search (rules, arith)

pub all-fit : (m : Machine) (cites : List Formula) → All (IsTerm m) cites → all_fit_one m.shapes cites ≡ true
all-fit m cites h = fit-each m cites (recursion_from_All (IsTerm m) cites h)

light-each : (m : Machine) (cites : List Formula) → AllByRecursion (IsTerm m) cites → all_light cites ≡ true
light-each m [] h = refl
light-each m (f ∷ fs) h = let a = h.0.light in let b = light-each m fs h.1 in search (rules, arith)

pub are-light : (m : Machine) (cites : List Formula) → All (IsTerm m) cites → all_light cites ≡ true
are-light m cites h = light-each m cites (recursion_from_All (IsTerm m) cites h)

terms-push : (cites : List Citation) (c : Citation) → terms_of (cites ++ c ∷ []) ≡ terms_of cites ++ c.term ∷ []
terms-push [] c = refl
terms-push (d ∷ cites) c = ap (λ l. d.term ∷ l) (terms-push cites c)

-- an element below the length of a front is the front's
pub front-get : {X : Type 0} (xs ys : List X) (n : ℕ) → n < length xs → slice_get (xs ++ ys) n ≡ slice_get xs n
front-get [] ys n l = absurd (omega arith)
front-get (x ∷ xs) ys zero l = refl
front-get (x ∷ xs) ys (suc n) l = front-get xs ys n (omega arith)

take-get : {X : Type 0} (P : Option X → Type 0) → (P None → ⊥) → (k : ℕ) (xs : List X) (n : ℕ)
    → P (slice_get (take k xs) n)
    → (n < k) × P (slice_get xs n)
take-get P none zero xs n h = absurd (none h)
take-get P none (suc k) [] n h = absurd (none h)
take-get P none (suc k) (x ∷ xs) zero h = (omega arith, h)
take-get P none (suc k) (x ∷ xs) (suc n) h = let r = take-get P none k xs n h in (let l = r.0 in omega arith, r.1)

facts-take : (k : ℕ) (xs : List Posting) → facts_in (take k xs) ≡ take k (facts_in xs)
facts-take zero xs = refl
facts-take (suc k) [] = refl
facts-take (suc k) (x ∷ xs) = ap (λ l. fact_in x.says ∷ l) (facts-take k xs)

pub cited-later : (known all : List Posting) (cites : List Citation) → Begins known all
    → AreCited (facts_in known) cites → AreCited (facts_in all) cites
cited-later known all cites b h =
    All-from_recursion (λ (c : Citation). IsLemmaOf c.term (slice_get (facts_in all) c.place)) cites
    (each cites (recursion_from_All (λ (c : Citation). IsLemmaOf c.term (slice_get (facts_in known) c.place)) cites h))
  where
    each : (cites : List Citation)
        → AllByRecursion (λ (c : Citation). IsLemmaOf c.term (slice_get (facts_in known) c.place)) cites
        → AllByRecursion (λ (c : Citation). IsLemmaOf c.term (slice_get (facts_in all) c.place)) cites
    each [] h = tt
    each (c ∷ cs) h = (
      subst (λ l. IsLemmaOf c.term (slice_get l c.place)) (sym (ap facts_in b.1 ∙ facts-more known b.0))
          (stays (IsLemmaOf c.term) (λ e. e) (facts_in known) (facts_in b.0) c.place h.0),
      each cs h.1,
    )

at-front : (known all : List Posting) → Begins known all → (n : ℕ) → n < length known
    → slice_get (facts_in all) n ≡ slice_get (facts_in known) n
at-front known all b n l =
    ap (λ h. slice_get (facts_in h) n) b.1
    ∙ (ap (λ h. slice_get h n) (facts-more known b.0)
    ∙ front-get (facts_in known) (facts_in b.0) n
    (subst (λ k. n < k) (sym (length-map (λ (i : Posting). fact_in i.says) known)) l))

more-length : {X : Type 0} (xs ys : List X) → length xs ≤ length (xs ++ ys)
more-length [] ys = omega arith
more-length (x ∷ xs) ys = let r = more-length xs ys in omega arith

pub lemmas-later : (m : Machine) (known all : List Posting) (front : ℕ) (cites : List Citation) → Begins known all
    → AreLemmas m known front cites → AreLemmas m all front cites
lemmas-later m known all front cites b h = record {
  front_is_here =
      let l =
      subst (λ k. length known ≤ length k) (sym b.1) (more-length known b.0) in let f = h.front_is_here in omega arith;
  cited = cited-later known all cites b h.cited;
  citable = h.citable;
  all =
      λ n f l e. h.all n f l (subst (IsLemmaOf f) (at-front known all b n (let k = h.front_is_here in omega arith)) e);
}

-- the cited terms are those of the entries at their places
terms-each : (facts : List Fact) (cites : List Citation)
    → AllByRecursion (λ (c : Citation). IsLemmaOf c.term (slice_get facts c.place)) cites
    → AreTermsAt facts (map (λ (c : Citation). c.place) cites) (terms_of cites)
terms-each facts [] h = tt
terms-each facts (c ∷ cs) h = (named (slice_get facts c.place) h.0, terms-each facts cs h.1) where
  named : (o : Option Fact) → IsLemmaOf c.term o → term_at o ≡ Some c.term
  named None h = absurd h
  named (Some (base_fact p d cites proofs)) h = absurd h
  named (Some (step_fact p k cites proof)) h = absurd h
  named (Some (lemma_fact g cites first next)) h = ap Some h
  named (Some (held_fact p a b)) h = absurd h
  named (Some (held_by_fact p a proof)) h = absurd h
  named (Some other_fact) h = absurd h

pub terms-there : (facts : List Fact) (cites : List Citation) → AreCited facts cites
    → AreTermsAt facts (map (λ (c : Citation). c.place) cites) (terms_of cites)
terms-there facts cites h =
    terms-each facts cites (recursion_from_All (λ (c : Citation). IsLemmaOf c.term (slice_get facts c.place)) cites h)

-- states at which the cited terms are true have all lemmas below the front true
pub true-on : (m : Machine) (history : List Posting) (front : ℕ) (cites : List Citation) (states : List (List Cell))
    → AreLemmas m history front cites → All (AreTrue (terms_of cites)) states → LemmasTrueOn (take front history) states
true-on m history front cites states h each n f e =
    let there = take-get (IsLemmaOf f) (λ x. x) front (facts_in history) n
    (subst (λ l. IsLemmaOf f (slice_get l n)) (facts-take front history) e) in
    let c = h.all n f there.0 there.1 in
    λ k d l. subst (λ g. IsTrueAt g (slice_index_or states k d)) c.2 (each k d l c.0 f c.1)

places-each : (cites : List Cited)
    → map (λ (c : Cited). c.place) cites ≡ map (λ (c : Citation). c.place) (cites_view cites)
places-each [] = refl
places-each (c ∷ cites) = ap (λ l. c.place ∷ l) (places-each cites)

pub places-same : (lent cites : List Cited) → lent ≡ cites
    → map (λ (c : Cited). c.place) lent ≡ map (λ (c : Citation). c.place) (cites_view cites)
places-same lent cites e =
    subst (λ (l : List Cited). map (λ (c : Cited). c.place) lent ≡ map (λ (c : Citation). c.place) (cites_view l)) e
    (places-each lent)

-- ---- one more entry that is told

fact-at : (history : List Posting) (n : ℕ) (i : Posting) → slice_get history n ≡ Some i
    → slice_get (facts_in history) n ≡ Some (fact_in i.says)
fact-at [] n i e = absurd cc
fact-at (x ∷ history) zero i e = let h : x ≡ i = cc in ap (λ (j : Posting). Some (fact_in j.says)) h
fact-at (x ∷ history) (suc n) i e = fact-at history n i e

here-below : {X : Type 0} (xs : List X) (n : ℕ) (x : X) → slice_get xs n ≡ Some x → n < length xs
here-below [] n x e = absurd cc
here-below (y ∷ xs) zero x e = omega arith
here-below (y ∷ xs) (suc n) x e = let r = here-below xs n x e in omega arith

lemma-told : (f : Formula) (says : Claim) → told_term (said_by says) ≡ Some f → IsLemmaOf f (Some (fact_in says))
lemma-told f (proved (base_fact p d cites proofs)) e = absurd cc
lemma-told f (proved (step_fact p k cites proof)) e = absurd cc
lemma-told f (proved (lemma_fact g cites first next)) e = cc
lemma-told f (proved (held_fact p a b)) e = absurd cc
lemma-told f (proved (held_by_fact p a proof)) e = absurd cc
lemma-told f (proved other_fact) e = absurd cc
lemma-told f (broken p path) e = absurd cc
lemma-told f (stuck p path front) e = absurd cc
lemma-told f (spent engine p why grounds) e = absurd cc

told-lemma : (f : Formula) (says : Claim) → IsLemmaOf f (Some (fact_in says)) → told_term (said_by says) ≡ Some f
told-lemma f (proved (base_fact p d cites proofs)) h = absurd h
told-lemma f (proved (step_fact p k cites proof)) h = absurd h
told-lemma f (proved (lemma_fact g cites first next)) h = ap Some h
told-lemma f (proved (held_fact p a b)) h = absurd h
told-lemma f (proved (held_by_fact p a proof)) h = absurd h
told-lemma f (proved other_fact) h = absurd h
told-lemma f (broken p path) h = absurd h
told-lemma f (stuck p path front) h = absurd h
told-lemma f (spent engine p why grounds) h = absurd h

term-told : (m : Machine) (plan : Plan) (earlier : List Posting) (f : Formula) (says : Claim)
    → told_term (said_by says) ≡ Some f → IsTrueAfter m plan earlier says → IsTerm m f
term-told m plan earlier f (proved (base_fact p d cites proofs)) e h = absurd cc
term-told m plan earlier f (proved (step_fact p k cites proof)) e h = absurd cc
term-told m plan earlier f (proved (lemma_fact g cites first next)) e h =
    let same : g ≡ f = cc in subst (IsTerm m) same h.0.term
term-told m plan earlier f (proved (held_fact p a b)) e h = absurd cc
term-told m plan earlier f (proved (held_by_fact p a proof)) e h = absurd cc
term-told m plan earlier f (proved other_fact) e h = absurd cc
term-told m plan earlier f (broken p path) e h = absurd cc
term-told m plan earlier f (stuck p path front) e h = absurd cc
term-told m plan earlier f (spent engine p why grounds) e h = absurd cc

each-push : {X : Type 0} (P : X → Type 0) (xs : List X) (x : X) → AllByRecursion P xs → P x
    → AllByRecursion P (xs ++ x ∷ [])
each-push P [] x h k = (k, tt)
each-push P (y ∷ xs) x h k = (h.0, each-push P xs x h.1 k)

all-one-more : {X : Type 0} (P : X → Type 0) (xs : List X) (x : X) → All P xs → P x → All P (xs ++ x ∷ [])
all-one-more P xs x h k = All-from_recursion P (xs ++ x ∷ []) (each-push P xs x (recursion_from_All P xs h) k)

last-or-before : (n k : ℕ) → n < k + 1 → (A : Type 0) → (n < k → A) → (n ≡ k → A) → A
last-or-before zero zero l A f g = g refl
last-or-before zero (suc k) l A f g = f (omega arith)
last-or-before (suc n) zero l A f g = absurd (omega arith)
last-or-before (suc n) (suc k) l A f g =
    last-or-before n k (omega arith) A (λ b. f (omega arith)) (λ e. g (ap suc e))

none-some : {X : Type 0} (o : Option X) (x : X) → o ≡ None → o ≡ Some x → ⊥
none-some None x e h = absurd cc
none-some (Some y) x e h = absurd cc

some-one : {X : Type 0} (o : Option X) (a b : X) → o ≡ Some a → o ≡ Some b → a ≡ b
some-one o a b e h = cc

module _ (m : Machine) (plan : Plan) (history : List Posting) (sound : AreSound m plan history) (front : ℕ)
    (cites : List Citation) (h : AreLemmas m history front cites) where
  -- which is no lemma
  pub lemmas-skip : (t : Told) → IsToldOf history t → t.place ≡ front → told_term t.said ≡ None
      → AreLemmas m history (front + 1) cites
  lemmas-skip t told at none =
      let i = told.0 in
      let here : slice_get history front ≡ Some i = subst (λ n. slice_get history n ≡ Some i) at told.1 in
      let says : told_term (said_by i.says) ≡ None = ap told_term (sym told.2) ∙ none in record {
        front_is_here = let l = here-below history front i here in omega arith;
        cited = h.cited;
        citable = h.citable;
        all = λ n f l e.
            last-or-before n front l (Contains (terms_of cites) f) (λ b. h.all n f b e)
            (λ same.
            let k = told-lemma f i.says
            (subst (IsLemmaOf f) (ap (slice_get (facts_in history)) same ∙ fact-at history front i here) e) in
            absurd (none-some (told_term (said_by i.says)) f says k));
      }

  -- which is a lemma of this term
  pub lemmas-take : (t : Told) → IsToldOf history t → t.place ≡ front → (f : Formula) → told_term t.said ≡ Some f
      → AreLemmas m history (front + 1) (cites ++ record { place = front; term = f } ∷ [])
  lemmas-take t told at f some =
      let i = told.0 in
      let c : Citation = record { place = front; term = f } in
      let here : slice_get history front ≡ Some i = subst (λ n. slice_get history n ≡ Some i) at told.1 in
      let says : told_term (said_by i.says) ≡ Some f = ap told_term (sym told.2) ∙ some in
      let fact = fact-at history front i here in
      let parts = terms-push cites c in record {
        front_is_here = let l = here-below history front i here in omega arith;
        cited = all-one-more (λ (d : Citation). IsLemmaOf d.term (slice_get (facts_in history) d.place)) cites c h.cited
            (subst (IsLemmaOf f) (sym fact) (lemma-told f i.says says));
        citable = subst (All (IsTerm m)) (sym parts)
            (all-one-more (IsTerm m) (terms_of cites) f h.citable
            (term-told m plan (take front history) f i.says says (sound front i here)));
        all = λ n g l e.
            subst (λ fs. Contains fs g) (sym parts)
            (last-or-before n front l (Contains (terms_of cites ++ f ∷ []) g)
            (λ b. let k = h.all n g b e in contains-front (terms_of cites) (f ∷ []) g k.0 k.1 k.2)
            (λ same.
            let k = told-lemma g i.says
            (subst (IsLemmaOf g) (ap (slice_get (facts_in history)) same ∙ fact) e) in
            subst (Contains (terms_of cites ++ f ∷ [])) (some-one (told_term (said_by i.says)) f g says k)
            (contains-last (terms_of cites) f)));
      }

-- ---- all that is told

dropped : {X : Type 0} (k : ℕ) (xs : List X) (n : ℕ) → slice_get xs (k + n) ≡ slice_get (drop k xs) n
dropped zero xs n = let e : 0 + n ≡ n = omega arith in ap (slice_get xs) e
dropped {X = X} (suc k) [] n = nothing (suc k + n) where
  nothing : (i : ℕ) → slice_get {X = X} [] i ≡ None
  nothing i = refl
dropped (suc k) (x ∷ xs) n =
    let e : suc k + n ≡ suc (k + n) = omega arith in ap (slice_get (x ∷ xs)) e ∙ dropped k xs n

told-each : (history : List Posting) (from : ℕ) (rest : List Posting)
    → ((n : ℕ) → slice_get history (from + n) ≡ slice_get rest n)
    → AllByRecursion (IsToldOf history) (told_from from rest)
told-each history from [] same = tt
told-each history from (i ∷ rest) same = (
  (i, subst (λ n. slice_get history n ≡ Some i) (plus-zero from) (same 0), refl),
  told-each history (suc from) rest
      (λ n. subst (λ k. slice_get history k ≡ slice_get rest n) (plus-one from n) (same (suc n))),
) where
  plus-zero : (a : ℕ) → a + 0 ≡ a
  plus-zero a = omega arith

  plus-one : (a n : ℕ) → a + suc n ≡ suc a + n
  plus-one a n = omega arith

pub all-told : (history : List Posting) (front : ℕ)
    → AllByRecursion (IsToldOf history) (told_from front (drop front history))
all-told history front = told-each history front (drop front history) (dropped front history)

-- What is left of what is told: entries in order, the first at most at the front, the last at the end of the history.
pub record IsLeft (long front : ℕ) (told : List Told) : Type 0 where
  pub place : ℕ
  pub rest : List Posting
  pub same : told ≡ told_from place rest
  pub ends : long ≤ place + length rest
  pub taken : place ≤ front

pub left-all : (history : List Posting) (from front : ℕ) → from ≤ front
    → IsLeft (length history) front (told_from from (drop from history))
left-all history from front l = record {
  place = from;
  rest = drop from history;
  same = refl;
  ends = reach from history;
  taken = l;
} where
  reach : (k : ℕ) (xs : List Posting) → length xs ≤ k + length (drop k xs)
  reach zero xs = omega arith
  reach (suc k) [] = omega arith
  reach (suc k) (x ∷ xs) = let r = reach k xs in omega arith

-- the next one is not behind the front; where it is taken up, the rest is left
pub left-next : (long front : ℕ) (t : Told) (ts : List Told) → IsLeft long front (t ∷ ts)
    → (t.place ≤ front) × ((after : ℕ) → t.place < after → IsLeft long after ts)
left-next long front t ts h = by h.rest h.same h.ends where
  by : (rest : List Posting) → t ∷ ts ≡ told_from h.place rest → long ≤ h.place + length rest
      → (t.place ≤ front) × ((after : ℕ) → t.place < after → IsLeft long after ts)
  by [] e l = absurd cc
  by (i ∷ rest) e l =
      let at : t.place ≡ h.place = ap first e in
      let same : ts ≡ told_from (suc h.place) rest = ap others e in (
        subst (λ n. n ≤ front) (sym at) h.taken,
        λ after b. record {
          place = suc h.place;
          rest = rest;
          same = same;
          ends = omega arith;
          taken = omega (arith, at, b);
        },
      )
    where
      first : List Told → ℕ
      first [] = 0
      first (x ∷ xs) = x.place

      others : List Told → List Told
      others [] = []
      others (x ∷ xs) = xs

pub left-none : (long front : ℕ) (news : List News) → length news ≡ 0 → IsLeft long front (map news_view news)
    → long ≤ front
left-none long front (n ∷ news) e h = absurd cc
left-none long front [] e h = by h.rest h.same h.ends where
  by : (rest : List Posting) → [] ≡ told_from h.place rest → long ≤ h.place + length rest → long ≤ front
  by [] e l = let t = h.taken in omega arith
  by (i ∷ rest) e l = absurd cc
