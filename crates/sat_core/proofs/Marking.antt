-- The marks stand for the list: what a write keeps.
use Rattle.std.specs.Prelude.{ℕ, zero, suc, ◌≡◌, ◌<◌, ◌+◌, Bool, true, false, cond, List, [], ◌∷◌, ◌++◌, length, get_or, drop, replicate, slice_set, refl}
use Rattle.std.proofs.Common.{sym, ◌∙◌, ap, subst, arith}
use Rattle.std.proofs.lemmas.List.{drop_more, get_or-set_same, get_or-set_other, append-nil, append_assoc}
use Rattle.proof_steps.specs.declared.Literal.{Literal}
use Rattle.proof_steps.specs.declared.Literal.TheVariants.{Flag, Atom}
use Rattle.proof_checker.specs.Derived.{same, has}
use Rattle.proof_checker.proofs.Sets.{same-is, same-refl}
use Rattle.proof_checker.proofs.Sound.{either}
use Rattle.sat_core.specs.Set.{place_of, IsTied, IsCovered, IsWidened}

has-snoc : (xs : List Literal) (l m : Literal) → has (xs ++ l ∷ []) m ≡ cond (has xs m) true (same l m)
has-snoc [] l m = grind arith
has-snoc (x ∷ xs) l m = grind (arith, has-snoc xs l m)

pub same-number : (l m : Literal) → place_of l ≡ place_of m → l ≡ m
same-number (Flag n true) (Flag m true) e = let k : n ≡ m = omega arith in cc
same-number (Flag n true) (Flag m false) e = absurd (omega arith)
same-number (Flag n true) (Atom m true) e = absurd (omega arith)
same-number (Flag n true) (Atom m false) e = absurd (omega arith)
same-number (Flag n false) (Flag m true) e = absurd (omega arith)
same-number (Flag n false) (Flag m false) e = let k : n ≡ m = omega arith in cc
same-number (Flag n false) (Atom m true) e = absurd (omega arith)
same-number (Flag n false) (Atom m false) e = absurd (omega arith)
same-number (Atom n true) (Flag m true) e = absurd (omega arith)
same-number (Atom n true) (Flag m false) e = absurd (omega arith)
same-number (Atom n true) (Atom m true) e = let k : n ≡ m = omega arith in cc
same-number (Atom n true) (Atom m false) e = absurd (omega arith)
same-number (Atom n false) (Flag m true) e = absurd (omega arith)
same-number (Atom n false) (Flag m false) e = absurd (omega arith)
same-number (Atom n false) (Atom m true) e = absurd (omega arith)
same-number (Atom n false) (Atom m false) e = let k : n ≡ m = omega arith in cc

-- a mark that is written is read back; the other marks stay
pub mark-set : (marks : List Bool) (l m : Literal) (to : Bool) → place_of l < length marks
    → get_or (slice_set marks (place_of l) to) (place_of m) false ≡ cond (same l m) to (get_or marks (place_of m) false)
mark-set marks l m to h = either (same l m)
    (λ y. let e : m ≡ l = sym (same-is l m y) in
    subst (λ x. get_or (slice_set marks (place_of l) to) (place_of x) false ≡ cond (same l x) to (get_or marks (place_of x) false)) (sym e)
    (get_or-set_same marks (place_of l) to false h
    ∙ ap (λ b. cond b to (get_or marks (place_of l) false)) (sym (same-refl l))))
    (λ n. get_or-set_other marks (place_of l) (place_of m) to false
    (λ e. let y : same l m ≡ true = subst (λ x. same l x ≡ true) (same-number l m (sym e)) (same-refl l) in absurd cc)
    ∙ ap (λ b. cond b to (get_or marks (place_of m) false)) (sym n))

unset-same : (marks : List Bool) (p : ℕ) → get_or (slice_set marks p false) p false ≡ false
unset-same [] p = refl
unset-same (x ∷ xs) zero = refl
unset-same (x ∷ xs) (suc p) = unset-same xs p

-- a mark is taken out; past the array there is none
pub unmark-set : (marks : List Bool) (l m : Literal)
    → get_or (slice_set marks (place_of l) false) (place_of m) false ≡ cond (same l m) false (get_or marks (place_of m) false)
unmark-set marks l m = either (same l m)
    (λ y. let e : m ≡ l = sym (same-is l m y) in
    subst (λ x. get_or (slice_set marks (place_of l) false) (place_of x) false ≡ cond (same l x) false (get_or marks (place_of x) false)) (sym e)
    (unset-same marks (place_of l) ∙ ap (λ b. cond b false (get_or marks (place_of l) false)) (sym (same-refl l))))
    (λ n. get_or-set_other marks (place_of l) (place_of m) false false
    (λ e. let y : same l m ≡ true = subst (λ x. same l x ≡ true) (same-number l m (sym e)) (same-refl l) in absurd cc)
    ∙ ap (λ b. cond b false (get_or marks (place_of m) false)) (sym n))

none-marked : (n p : ℕ) → get_or (replicate n false) p false ≡ false
none-marked zero p = refl
none-marked (suc n) zero = refl
none-marked (suc n) (suc p) = none-marked n p

widened : (old : List Bool) (n p : ℕ) → get_or (old ++ replicate n false) p false ≡ get_or old p false
widened [] n p = none-marked n p
widened (x ∷ xs) n zero = refl
widened (x ∷ xs) n (suc p) = widened xs n p

pub mark-widened : (old new : List Bool) (p : ℕ) → IsWidened old new → get_or new p false ≡ get_or old p false
mark-widened old new p (n, e) = ap (λ x. get_or x p false) e ∙ widened old n p

pub widened-none : (marks : List Bool) → IsWidened marks marks
widened-none marks = (0, sym (append-nil marks))

pub widened-more : (old now new : List Bool) → IsWidened old now → new ≡ now ++ false ∷ [] → IsWidened old new
widened-more old now new (n, e) f = (
  suc n,
  f ∙ ap (λ x. x ++ false ∷ []) e ∙ append_assoc old (replicate n false) (false ∷ [])
      ∙ ap (λ x. old ++ x) (replicate-push n),
) where
  replicate-push : (n : ℕ) → replicate n false ++ false ∷ [] ≡ replicate (suc n) false
  replicate-push zero = refl
  replicate-push (suc n) = ap (λ x. false ∷ x) (replicate-push n)

tied-bool : (e h : Bool) → cond e true h ≡ cond h true e
tied-bool true true = refl
tied-bool true false = refl
tied-bool false true = refl
tied-bool false false = refl

pub tied_more : (marks wide marks' : List Bool) (literals literals' : List Literal) (l : Literal) → IsTied marks literals
    → IsWidened marks wide → place_of l < length wide → marks' ≡ slice_set wide (place_of l) true → literals' ≡ literals ++ l ∷ []
    → IsTied marks' literals'
tied_more marks wide marks' literals literals' l t w h e f = λ m.
    ap (λ x. get_or x (place_of m) false) e ∙ mark-set wide l m true h
    ∙ ap (cond (same l m) true) (mark-widened marks wide (place_of m) w ∙ t m)
    ∙ tied-bool (same l m) (has literals m) ∙ sym (has-snoc literals l m) ∙ ap (λ x. has x m) (sym f)

pub tied_wide : (marks wide : List Bool) (literals literals' : List Literal) → IsTied marks literals → IsWidened marks wide
    → literals' ≡ literals → IsTied wide literals'
tied_wide marks wide literals literals' t w e = λ m. mark-widened marks wide (place_of m) w ∙ t m ∙ ap (λ x. has x m) (sym e)

covered-bool : (e s h : Bool) → (s ≡ true → cond e true h ≡ true) → cond e false s ≡ true → h ≡ true
covered-bool true s h f q = absurd cc
covered-bool false s h f q = f q

pub covered_more : (marks marks' : List Bool) (literals : List Literal) (i : ℕ) (d : Literal) → i < length literals
    → IsCovered marks (drop i literals) → marks' ≡ slice_set marks (place_of (get_or literals i d)) false
    → IsCovered marks' (drop (i + 1) literals)
covered_more marks marks' literals i d h t e = λ m q.
    covered-bool (same (get_or literals i d) m) (get_or marks (place_of m) false) (has (drop (i + 1) literals) m)
    (λ s. subst (λ x. has x m ≡ true) (drop_more literals i d h) (t m s))
    (sym (unmark-set marks (get_or literals i d) m) ∙ ap (λ x. get_or x (place_of m) false) (sym e) ∙ q)

pub covered_by : (marks : List Bool) (literals : List Literal) → IsTied marks literals → IsCovered marks literals
covered_by marks literals t = λ m q. sym (t m) ∙ q

none-true : (b : Bool) → (b ≡ true → false ≡ true) → b ≡ false
none-true true f = sym (f refl)
none-true false f = refl

pub tied_none : (marks : List Bool) → IsCovered marks [] → IsTied marks []
tied_none marks t = λ m. none-true (get_or marks (place_of m) false) (t m)

less-bool : (e s h : Bool) → (e ≡ true → h ≡ false) → s ≡ cond h true e → cond e false s ≡ h
less-bool true s true f q = sym (f refl)
less-bool true s false f q = refl
less-bool false s true f q = q
less-bool false s false f q = q

-- the last literal is taken out again, which stands once
pub tied_less : (marks marks' : List Bool) (literals : List Literal) (l : Literal) → IsTied marks (literals ++ l ∷ []) → has literals l ≡ false
    → marks' ≡ slice_set marks (place_of l) false → IsTied marks' literals
tied_less marks marks' literals l t once e = λ m.
    ap (λ x. get_or x (place_of m) false) e ∙ unmark-set marks l m
    ∙ less-bool (same l m) (get_or marks (place_of m) false) (has literals m)
    (λ y. subst (λ x. has literals x ≡ false) (same-is l m y) once) (t m ∙ has-snoc literals l m)
