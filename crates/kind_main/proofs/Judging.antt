-- What the verdict of a book says of the program.
use Rattle.std.proofs.Common.{◌≡◌, ◌≢◌, ◌<◌, ◌||◌, ℕ, zero, suc, Bool, true, false, cond, List, [], ◌∷◌, Option, Some, None, refl, sym, ap, ◌∙◌, subst, arith, length, slice_get, option_map, take, Result, Ok, Err, IfOk}
use Rattle.lus_tree.specs.Tree.{Program, Component}
use Rattle.lus_meaning.specs.Program.{instance_of}
use Rattle.sys_terms.specs.declared.term.Entry.{Entry}
use Rattle.sys_terms.specs.View.{Machine}
use Rattle.sys_terms.specs.Queries.{property_term}
use Rattle.sys_meaning.specs.System.{system_of}
use Rattle.path_laws.specs.Laws.{EachHolds}
use Rattle.trace_laws.proofs.Named.{node_component}
use Rattle.sys_meaning.specs.Law.{TrueReachable}
use Rattle.board_core.specs.declared.plan.Plan.{Plan}
use Rattle.board_core.specs.Entries.{Claim, broken, Posting, AreSound, IsBroken, IsTrueAfter}
use Rattle.board_core.specs.Books.{Contents, machine_of, plan_of, history_of}
use Rattle.board_core.specs.Verdicts.{Judged, valid_by, falsifiable_by, unknown, holds, breaks, judged_by, judged_from, judged, decides, BreaksBy, IsJudged}
use Rattle.kind_main.specs.declared.options.Options.{Options}
use Rattle.kind_main.specs.Verdicts as V
use Rattle.kind_main.specs.Verdicts.{Verdict, AreTrueCauses, IsAnalysed, IsTrueOfNumber}
use Rattle.kind_main.specs.Played.{AreCausesOf, IsBreakAt, IsBreakOf, IsTraced, IsBrokenAt, IsBrokenEntry}

-- ---- a property of which nothing is known

pub data Test (b : Bool) : Type 0 where
  on : b ≡ true → Test b
  off : b ≡ false → Test b

test : (b : Bool) → Test b
test true = on refl
test false = off refl

open-one : (p n : ℕ) (says : Claim) (later : Judged) → judged_by n p says later ≡ unknown → Test (holds p says) → Test (breaks p says)
    → ((holds p says || breaks p says) ≡ false) × (later ≡ unknown)
open-one p n says later h (on e) b = let f : valid_by n ≡ unknown = subst (λ t. cond t (valid_by n) (cond (breaks p says) (falsifiable_by n) later) ≡ unknown) e h in absurd cc
open-one p n says later h (off e) (on b) =
    let f : cond (breaks p says) (falsifiable_by n) later ≡ unknown = subst (λ t. cond t (valid_by n) (cond (breaks p says) (falsifiable_by n) later) ≡ unknown) e h in
    let g : falsifiable_by n ≡ unknown = subst (λ t. cond t (falsifiable_by n) later ≡ unknown) b f in
    absurd cc
open-one p n says later h (off e) (off b) =
    let f : cond (breaks p says) (falsifiable_by n) later ≡ unknown = subst (λ t. cond t (valid_by n) (cond (breaks p says) (falsifiable_by n) later) ≡ unknown) e h in
    let g : later ≡ unknown = subst (λ t. cond t (falsifiable_by n) later ≡ unknown) b f in
    (rw (e, b) refl, g)

open-from : (p n : ℕ) (history : List Posting) → judged_from n p history ≡ unknown → decides p history ≡ false
open-from p n [] h = refl
open-from p n (i ∷ history) h =
    let r = open-one p n i.says (judged_from (suc n) p history) h (test (holds p i.says)) (test (breaks p i.says)) in
    ap (λ b. b || decides p history) r.0 ∙ open-from p (suc n) history r.1

pub open-property : (p : ℕ) (history : List Posting) → judged p history ≡ unknown → decides p history ≡ false
open-property p history h = open-from p 0 history h

-- ---- what is said of the program

pub valid_by_book : (p : Program) (d : Component) → IsAnalysed p d → (m : Machine) → m ≡ system_of (instance_of p d) → (k : ℕ) → EachHolds
    → (o : Options) (history : List Posting) (place : ℕ) → judged k history ≡ valid_by place → TrueReachable m (property_term m k)
    → IsTrueOfNumber o p d history k V.valid
valid_by_book p d a m of k law o history place says h q found = (
  law p a.follows.rules d (node_component p d a.declared) k q found (subst (λ (n : Machine). TrueReachable n (property_term n k)) of h),
  record { place = place; verdict = says },
)

pub broken_by_book : (p : Program) (d : Component) (o : Options) (b : Contents) (k place : ℕ) → judged k (history_of b) ≡ falsifiable_by place
    → (v : Verdict) → IsBreakAt b p d k place v → IsTrueOfNumber o p d (history_of b) k v
broken_by_book p d o b k place says V.valid h q found = absurd h.break
broken_by_book p d o b k place says (V.falsifiable last trace) h q found =
    let t : IsTraced p d k h.states last trace = h.break in
    (t.lines, t.breaks q found, record { place = place; verdict = says; states = h.states; says = h.says; text_of_path = t.text })
broken_by_book p d o b k place says (V.unknown causes) h q found = absurd h.break

pub causes_by : (p : Program) (d : Component) (o : Options) (b : Contents) → machine_of b ≡ system_of (instance_of p d) → (k : ℕ)
    → judged k (history_of b) ≡ unknown → (v : Verdict) → AreCausesOf o b k v → IsTrueOfNumber o p d (history_of b) k v
causes_by p d o b of k said V.valid h q found = absurd h
causes_by p d o b of k said (V.falsifiable last trace) h q found = absurd h
causes_by p d o b of k said (V.unknown causes) h q found = (subst (λ n. AreTrueCauses n o (history_of b) k causes) of h, said)

-- ---- an entry that breaks the property

broken-entry : (m : Machine) (plan : Plan) (history : List Posting) → AreSound m plan history → (k place : ℕ) (i : Option Posting)
    → slice_get history place ≡ i → BreaksBy m k i → IsBrokenEntry m k i
broken-entry m plan history sound k place None at h = h
broken-entry m plan history sound k place (Some i) at h =
    (h.0, h.1, subst (IsTrueAfter m plan (take place history)) h.1 (sound place i at))

pub broken-place : (b : Contents) → AreSound (machine_of b) (plan_of b) (history_of b) → (k place : ℕ)
    → IsJudged (machine_of b) k (history_of b) (falsifiable_by place) → IsBrokenAt b k place
broken-place b sound k place h =
    broken-entry (machine_of b) (plan_of b) (history_of b) sound k place (slice_get (history_of b) place) refl h

inside : {X : Type 0} (xs : List X) (n : ℕ) → slice_get xs n ≢ None → n < length xs
inside [] n h = absurd (h refl)
inside (x ∷ xs) zero h = omega arith
inside (x ∷ xs) (suc n) h = let r = inside xs n h in omega (arith, r)

some-entry : (m : Machine) (k : ℕ) (i : Option Posting) → IsBrokenEntry m k i → i ≢ None
some-entry m k None h = absurd h
some-entry m k (Some i) h = λ e. absurd cc

pub place-inside : (b : Contents) (k place : ℕ) → IsBrokenAt b k place → place < length (history_of b)
place-inside b k place h = inside (history_of b) place (some-entry (machine_of b) k (slice_get (history_of b) place) h)

-- what the entry at such a place says
says-entry : (m : Machine) (k : ℕ) (i : Option Posting) (says : Claim) → IsBrokenEntry m k i → option_map (λ (j : Posting). j.says) i ≡ Some says
    → (states : List (List Entry)) × (says ≡ broken k states) × IsBroken m k states
says-entry m k None says h e = absurd h
says-entry m k (Some i) says h e = let f : i.says ≡ says = cc in (h.0, sym f ∙ h.1, h.2)

pub entry-says : (b : Contents) (k place : ℕ) (says : Claim) → IsBrokenAt b k place
    → option_map (λ (i : Posting). i.says) (slice_get (history_of b) place) ≡ Some says
    → (states : List (List Entry)) × (says ≡ broken k states) × IsBroken (machine_of b) k states
entry-says b k place says h e = says-entry (machine_of b) k (slice_get (history_of b) place) says h e

-- what is said of its path
pub break-at : (p : Program) (d : Component) (b : Contents) (k place q : ℕ) (states : List (List Entry)) → IsBrokenAt b k place
    → option_map (λ (i : Posting). i.says) (slice_get (history_of b) place) ≡ Some (broken q states) → (v : Verdict) → IsBreakOf p d k states v
    → IsBreakAt b p d k place v
break-at p d b k place q states h e v i =
    let r = entry-says b k place (broken q states) h e in
    let f : broken q states ≡ broken k r.0 = r.1 in
    let g : states ≡ r.0 = cc in
    record { states = states; says = e ∙ ap Some (f ∙ ap (broken k) (sym g)); break = i }

-- what is so of what is answered
pub ok_as : {X E : Type 0} (P Q : X → Type 0) → ((x : X) → P x → Q x) → (r : Result X E) → IfOk r P → IfOk r Q
ok_as P Q f (Ok x) h = f x h
ok_as P Q f (Err e) h = h
