-- The causes that a book has.
use Rattle.std.proofs.Common.{rules, arith, ◌≡◌, ◌≢◌, ◌==◌, ◌&&◌, ◌||◌, ℕ, suc, Bool, true, false, List, [], ◌∷◌, Option, Some, None, refl, subst, slice_get, take}
use Rattle.sys_terms.specs.View.{Machine}
use Rattle.board_core.specs.declared.plan.Plan.{Plan}
use Rattle.board_core.specs.Entries.{Why, Grounds, Claim, proved, broken, stuck, spent, Posting, AreSound, IsTrueAfter}
use Rattle.board_core.specs.Seats.{has_cause, is_spent}
use Rattle.board_core.specs.Verdicts.{cause_of, cause_in, cause_if, or_later}
use Rattle.kind_main.specs.Causes.{IsTrueCause}

-- ---- a cause that was posted is found

some-found : (b : Bool) (why : Why) (later : Option Why) → b ≡ true → or_later (cause_if b why) later ≢ None
some-found true why later h = λ x. absurd cc
some-found false why later h = absurd cc

right-side : (a b : Bool) → a && b ≡ true → b ≡ true
right-side true b h = h
right-side false b h = absurd cc

found-here : (e p : ℕ) (says : Claim) (later : Option Why) → is_spent e p says ≡ true → or_later (cause_in e p says) later ≢ None
found-here e p (proved f) later h = absurd cc
found-here e p (broken q path) later h = absurd cc
found-here e p (stuck q path front) later h = absurd cc
found-here e p (spent f q why grounds) later h = some-found ((f == e) && (q == p)) why later h

found-later : (first later : Option Why) → later ≢ None → or_later first later ≢ None
found-later None later h = h
found-later (Some why) later h = λ x. absurd cc

found-one : (first later : Option Why) (a b : Bool) → a || b ≡ true → (a ≡ true → or_later first later ≢ None)
    → (b ≡ true → later ≢ None) → or_later first later ≢ None
found-one first later true b h f g = f refl
found-one first later false b h f g = found-later first later (g h)

pub cause-found : (seat e p : ℕ) (history : List Posting) → has_cause seat e p history ≡ true → cause_of e p history ≢ None
cause-found seat e p [] h = absurd cc
cause-found seat e p (i ∷ history) h =
    found-one (cause_in e p i.says) (cause_of e p history) ((i.seat == seat) && is_spent e p i.says) (has_cause seat e p history) h
    (λ a. found-here e p i.says (cause_of e p history) (right-side (i.seat == seat) (is_spent e p i.says) a))
    (cause-found seat e p history)

-- ---- what is found stands in the book

-- an entry with the cause of the engine for the property
pub record Stands (e p : ℕ) (history : List Posting) (why : Why) : Type 0 where
  pub place : ℕ
  pub entry : Posting
  pub at : slice_get history place ≡ Some entry
  pub grounds : Grounds
  pub says : entry.says ≡ spent e p why grounds

-- found in the first entry, or later
pub data Found (first later : Option Why) (why : Why) : Type 0 where
  here : first ≡ Some why → Found first later why
  there : later ≡ Some why → Found first later why

which : (first later : Option Why) (why : Why) → or_later first later ≡ Some why → Found first later why
which None later why h = there h
which (Some x) later why h = here h

same-numbers : (a b : ℕ) → (a == b) ≡ true → a ≡ b
same-numbers a b e = search (rules, arith)

both : (a b : Bool) → a && b ≡ true → (a ≡ true) × (b ≡ true)
both true true h = (refl, refl)
both true false h = absurd cc
both false b h = absurd cc

if-some : (b : Bool) (x why : Why) → cause_if b x ≡ Some why → (b ≡ true) × (x ≡ why)
if-some true x why h = (refl, cc)
if-some false x why h = absurd cc

here-says : (e p : ℕ) (says : Claim) (why : Why) → cause_in e p says ≡ Some why → (g : Grounds) × (says ≡ spent e p why g)
here-says e p (proved f) why h = absurd cc
here-says e p (broken q path) why h = absurd cc
here-says e p (stuck q path front) why h = absurd cc
here-says e p (spent f q x grounds) why h =
    let (t, w) = if-some ((f == e) && (q == p)) x why h in
    let (a, b) = both (f == e) (q == p) t in
    let c : f ≡ e = same-numbers f e a in
    let d : q ≡ p = same-numbers q p b in
    (grounds, cc)

stands-here : (e p : ℕ) (i : Posting) (history : List Posting) (why : Why) → ((later : cause_of e p history ≡ Some why) → Stands e p history why)
    → Found (cause_in e p i.says) (cause_of e p history) why → Stands e p (i ∷ history) why
stands-here e p i history why more (here x) =
    let (g, f) = here-says e p i.says why x in
    record { place = 0; entry = i; at = refl; grounds = g; says = f }
stands-here e p i history why more (there x) =
    let r = more x in
    record { place = suc r.place; entry = r.entry; at = r.at; grounds = r.grounds; says = r.says }

pub cause-stands : (e p : ℕ) (history : List Posting) (why : Why) → cause_of e p history ≡ Some why → Stands e p history why
cause-stands e p [] why h = absurd cc
cause-stands e p (i ∷ history) why h =
    stands-here e p i history why (cause-stands e p history why) (which (cause_in e p i.says) (cause_of e p history) why h)

module _ (m : Machine) (plan : Plan) (history : List Posting) (sound : AreSound m plan history) (e p : ℕ) (why : Why)
    (is : cause_of e p history ≡ Some why) where
  pub cause-true : IsTrueCause m plan history p (record { engine = e; why = why })
  cause-true =
      let r = cause-stands e p history why is in
      record {
        answered = is;
        place = r.place;
        entry = r.entry;
        stands = r.at;
        grounds = r.grounds;
        says = r.says;
        is_true = (subst (λ c. IsTrueClaim (take r.place history) c) r.says (sound r.place r.entry r.at)).1;
      }
    where
      IsTrueClaim : List Posting → Claim → Type 0
      IsTrueClaim = IsTrueAfter m plan
