-- Bounds in the narrow query, and states whose numbers are below 2^63 in size.
use Rattle.std.specs.Prelude.{ℕ, suc, ◌≡◌, ◌-◌, ◌+◌, ◌<◌, ◌^◌, ◌&&◌, Bool, true, false, List, [], ◌∷◌, ◌++◌, length, drop, All, refl}
use Rattle.std.specs.List.{AllByRecursion}
use Rattle.std.proofs.lemmas.List.Elements.{All-from_recursion, recursion_from_All}
use Rattle.std.proofs.Common.{ap, sym, ◌∙◌, arith, append_assoc}
use Rattle.kind_num.specs.declared.Shape.{Shape}
use Rattle.kind_num.specs.declared.Shape.TheVariants as s
use Rattle.sys_terms.specs.declared.term.Entry.{Entry as Cell}
use Rattle.sys_terms.specs.declared.term.State.{State}
use Rattle.sys_terms.specs.View.{Machine, states_view}
use Rattle.sys_terms.specs.Fits.{is_narrow, state_fits}
use Rattle.sys_terms.specs.Paths.{IsState}
use Rattle.sys_terms.specs.NarrowQuery.{bounds_at, bounds_from}
use Rattle.kind_engine.specs.Looks.{are_narrow}

-- ---- the bounds, one variable and one state after the other

-- those of the first variable, and then those of the others
pub bounds-of-first : (j v : ℕ) (h : Shape) (hs : List Shape)
    → bounds_at j v (h ∷ hs) ≡ bounds_at j v (h ∷ []) ++ bounds_at j (suc v) hs
bounds-of-first j v s.Flag hs = refl
bounds-of-first j v s.Number hs = refl

-- the same of the variables from v on
pub bounds-from-one : (j v : ℕ) (shapes : List Shape) (h : Shape) → drop v shapes ≡ h ∷ drop (v + 1) shapes
    → bounds_at j v (drop v shapes) ≡ bounds_at j v (h ∷ []) ++ bounds_at j (v + 1) (drop (v + 1) shapes)
bounds-from-one j v shapes h e =
    let next : suc v ≡ v + 1 = omega arith in
    ap (bounds_at j v) e
    ∙ (bounds-of-first j v h (drop (v + 1) shapes)
    ∙ ap (λ n. bounds_at j v (h ∷ []) ++ bounds_at j n (drop (v + 1) shapes)) next)

-- a list grown by one part, before what is left
pub one-on : {X : Type 0} (old new part left more whole : List X) → new ≡ old ++ part → left ≡ part ++ more
    → old ++ left ≡ whole → new ++ more ≡ whole
one-on old new part left more whole e f g =
    ap (λ l. l ++ more) e ∙ (append_assoc old part more ∙ (ap (λ l. old ++ l) (sym f) ∙ g))

left-more : (k n : ℕ) → k < n → n - k ≡ suc (n - (k + 1))
left-more k n h = omega arith

pub bounds-more : (shapes : List Shape) (k n : ℕ) → k < n
    → bounds_from shapes k (n - k) ≡ bounds_at k 0 shapes ++ bounds_from shapes (k + 1) (n - (k + 1))
bounds-more shapes k n h =
    let next : suc k ≡ k + 1 = omega arith in
    ap (bounds_from shapes k) (left-more k n h)
    ∙ ap (λ j. bounds_at k 0 shapes ++ bounds_from shapes j (n - (k + 1))) next

-- ---- narrow states

and-parts : (a b : Bool) → (a && b) ≡ true → (a ≡ true) × (b ≡ true)
and-parts true b h = (refl, h)
and-parts false b h = absurd cc

narrow-each : (states : List (List Cell)) → are_narrow states ≡ true → AllByRecursion (λ s. is_narrow s ≡ true) states
narrow-each [] h = tt
narrow-each (s ∷ states) h =
    let parts = and-parts (is_narrow s) (are_narrow states) h in (parts.0, narrow-each states parts.1)

pub all-narrow : (states : List (List Cell)) → are_narrow states ≡ true → All (λ s. is_narrow s ≡ true) states
all-narrow states h = All-from_recursion (λ s. is_narrow s ≡ true) states (narrow-each states h)

-- ---- how many values a state has

fit-length : (shapes : List Shape) (cells : List Cell) → state_fits shapes cells ≡ true → length cells ≡ length shapes
fit-length [] [] h = refl
fit-length [] (v ∷ vs) h = absurd cc
fit-length (h ∷ hs) [] f = absurd cc
fit-length (h ∷ hs) (v ∷ vs) f = ap suc (fit-length hs vs (and-parts _ (state_fits hs vs) f).1)

few-each : (m : Machine) (states : List State) → length m.shapes < 2 ^ 32
    → AllByRecursion (IsState m) (states_view states) → AllByRecursion (λ (s : State). length s.values.items < 2 ^ 32) states
few-each m [] few h = tt
few-each m (s ∷ states) few h =
    (let e = fit-length m.shapes s.values.items h.0.fit in omega arith, few-each m states few h.1)

pub few-values : (m : Machine) (states : List State) → length m.shapes < 2 ^ 32 → All (IsState m) (states_view states)
    → All (λ (s : State). length s.values.items < 2 ^ 32) states
few-values m states few h =
    All-from_recursion (λ (s : State). length s.values.items < 2 ^ 32) states
    (few-each m states few (recursion_from_All (IsState m) (states_view states) h))
