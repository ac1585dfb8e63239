-- The table of atoms: keys in the order in which they came stand for the atoms.
use Rattle.std.specs.Prelude.{ℕ, suc, ◌≡◌, ◌==◌, Bool, true, false, cond, not, ◌&&◌, ◌||◌, if◌then◌else◌, List, [], ◌∷◌, ◌++◌, map, nat_eq, ◌+◌, refl}
use Rattle.std.specs.List.{list_any, position_or_len}
use Rattle.std.specs.Ordering.{int_eq}
use Rattle.std.specs.Cmp.{signed_Decides}
use Rattle.std.specs.Cmp.Lexicographic.{pointwise}
use Rattle.std.specs.declared.vec.Vec.{Vec}
use Rattle.std.specs.declared.alloc.Global.{Global}
use lib.IntN.{ℤ}
use Rattle.cnf_maker.specs.View.{key_view}
use Rattle.std.proofs.Common.{ap, sym, ◌∙◌, subst, arith}
use Rattle.std.proofs.lemmas.Int.{ints}
use Rattle.std.proofs.lemmas.Bool.Decides.{nat_tests}
use Rattle.indexmap.specs.IndexSet.{insert_key}
use Rattle.proof_steps.specs.View.{Inequality}
use Rattle.cnf_maker.specs.ClauseForm.{equal_numbers, equal_terms, equal_atoms, atom_number, with_atom, literal_of_atom}
use Rattle.cnf_maker.proofs.Kept.{atoms_are}
use Rattle.kind_num.specs.declared.Shape.{Shape}
use Rattle.proof_steps.specs.declared.Literal.{Literal}
use Rattle.proof_steps.specs.declared.Literal.TheVariants as l
use lib.Pointwise.{pointwise_decides}

abbrev pub AtomKey : Type 0
AtomKey = Vec (ℕ × ℤ) Global × ℤ

-- the test on keys says whether their atoms are equal
abbrev pub Tells : {K : Type 0} → (K → K → Bool) → (K → Inequality) → Type 0
Tells {K} eq view = (k x : K) → eq k x ≡ equal_atoms (view x) (view k)

module _ {K : Type 0} (eq : K → K → Bool) (view : K → Inequality) (tells : Tells eq view) where
  pub table-atoms : (ks : List K) (k : K) → map view (insert_key eq ks k) ≡ with_atom (map view ks) (view k)
  table-atoms [] k = refl
  table-atoms (x ∷ xs) k = go (eq k x) (list_any (eq k) xs) (tells k x) refl (table-atoms xs k) where
    with_it : list_any (eq k) xs ≡ true → map view (insert_key eq xs k) ≡ map view xs
    with_it f = ap (λ b. map view (if b then xs else (xs ++ k ∷ []))) f

    without : list_any (eq k) xs ≡ false → map view (insert_key eq xs k) ≡ map view (xs ++ k ∷ [])
    without f = ap (λ b. map view (if b then xs else (xs ++ k ∷ []))) f

    go : (b c : Bool) → b ≡ equal_atoms (view x) (view k) → list_any (eq k) xs ≡ c
        → map view (insert_key eq xs k) ≡ with_atom (map view xs) (view k)
        → map view (if (b || c) then (x ∷ xs) else ((x ∷ xs) ++ k ∷ []))
        ≡ cond (equal_atoms (view x) (view k)) (view x ∷ map view xs) (view x ∷ with_atom (map view xs) (view k))
    go true c e f ih = rw (sym e) refl
    go false true e f ih = rw (sym e) (ap (λ zs. view x ∷ zs) (sym (with_it f) ∙ ih))
    go false false e f ih = rw (sym e) (ap (λ zs. view x ∷ zs) (sym (without f) ∙ ih))

  pub table-number : (ks : List K) (k : K) → suc (position_or_len (eq k) ks) ≡ atom_number (map view ks) (view k)
  table-number [] k = refl
  table-number (x ∷ xs) k = go (eq k x) (tells k x) (table-number xs k) where
    go : (b : Bool) → b ≡ equal_atoms (view x) (view k)
        → suc (position_or_len (eq k) xs) ≡ atom_number (map view xs) (view k)
        → suc (cond (not b) (1 + position_or_len (eq k) xs) 0) ≡ cond (equal_atoms (view x) (view k)) 1
        (suc (atom_number (map view xs) (view k)))
    go true e ih = rw (sym e) refl
    go false e ih = let p = one_more (position_or_len (eq k) xs) in rw (sym e) (ap suc (p ∙ ih)) where
      one_more : (n : ℕ) → 1 + n ≡ suc n
      one_more n = omega arith

  pub table : (keys new : List K) (key : K) (place : ℕ) → new ≡ insert_key eq keys key
      → place ≡ position_or_len (eq key) keys
      → (map view new ≡ with_atom (map view keys) (view key)) × (place + 1 ≡ atom_number (map view keys) (view key))
  table keys new key place e p = (
    ap (map view) e ∙ table-atoms keys key,
    let f : place + 1 ≡ suc (position_or_len (eq key) keys) = let q = p in omega arith in f ∙ table-number keys key,
  )

-- the test of keys that stands in the table
abbrev pub same_pair : ℕ × ℤ → ℕ × ℤ → Bool
same_pair p q = nat_eq p.0 q.0 && int_eq p.1 q.1

abbrev pub same_key : AtomKey → AtomKey → Bool
same_key x y = pointwise same_pair x.0.items y.0.items && int_eq x.1 y.1

both_so : (a b : Bool) → (a && b) ≡ true → (a ≡ true) × (b ≡ true)
both_so true b h = (refl, h)
both_so false b h = absurd cc

and_so : (a b : Bool) → a ≡ true → b ≡ true → (a && b) ≡ true
and_so a b h k = rw (h, k) refl

same_nat : (m n : ℕ) → nat_eq m n ≡ true → m ≡ n
same_nat m n h = grind (arith, nat_tests)

own_nat : (m : ℕ) → nat_eq m m ≡ true
own_nat m = grind (arith, nat_tests)

pair_decides : (p q : ℕ × ℤ) → (same_pair p q ≡ true → p ≡ q) × (p ≡ q → same_pair p q ≡ true)
pair_decides p q = (
  λ h. let k = both_so (nat_eq p.0 q.0) (int_eq p.1 q.1) h in
      ap (λ x. (x, p.1)) (same_nat p.0 q.0 k.0) ∙ ap (λ a. (q.0, a)) ((signed_Decides p.1 q.1).0 k.1),
  λ e. subst
      (λ r. same_pair p r ≡ true) e
      (and_so (nat_eq p.0 p.0) (int_eq p.1 p.1) (own_nat p.0) ((signed_Decides p.1 p.1).1 refl)),
)

key_is : (x y : AtomKey) → same_key x y ≡ true → key_view x ≡ key_view y
key_is x y h =
    let k = both_so (pointwise same_pair x.0.items y.0.items) (int_eq x.1 y.1) h in
    ap (λ z. record { terms = z; bound = x.1 }) ((pointwise_decides pair_decides x.0.items y.0.items).0 k.0)
    ∙ ap (λ z. record { terms = y.0.items; bound = z }) ((signed_Decides x.1 y.1).0 k.1)

key_says : (x y : AtomKey) → key_view x ≡ key_view y → same_key x y ≡ true
key_says x y e = and_so (pointwise same_pair x.0.items y.0.items) (int_eq x.1 y.1)
    ((pointwise_decides pair_decides x.0.items y.0.items).1 (ap (λ (i : Inequality). i.terms) e))
    ((signed_Decides x.1 y.1).1 (ap (λ (i : Inequality). i.bound) e))

own_number : (a : ℤ) → equal_numbers a a ≡ true
own_number a = grind (arith, ints)

own_terms : (ts : List (ℕ × ℤ)) → equal_terms ts ts ≡ true
own_terms [] = refl
own_terms ((x, a) ∷ ts) =
    and_so (x == x) _ (own_nat x) (and_so (equal_numbers a a) (equal_terms ts ts) (own_number a) (own_terms ts))

own_atom : (i : Inequality) → equal_atoms i i ≡ true
own_atom i = and_so (equal_terms i.terms i.terms) (equal_numbers i.bound i.bound) (own_terms i.terms)
    (own_number i.bound)

both_ways : (a b : Bool) → (a ≡ true → b ≡ true) → (b ≡ true → a ≡ true) → a ≡ b
both_ways true true f g = refl
both_ways false false f g = refl
both_ways true false f g = sym (f refl)
both_ways false true f g = g refl

pub keys-tell : Tells same_key key_view
keys-tell k x = both_ways (same_key k x) (equal_atoms (key_view x) (key_view k))
    (λ h. subst (λ i. equal_atoms (key_view x) i ≡ true) (sym (key_is k x h)) (own_atom (key_view x)))
    (λ h. key_says k x (sym (atoms_are (key_view x) (key_view k) h)))

-- the literal of the atom at its place
pub at-place : (shapes : List Shape) (clauses : List (List Literal)) (old new : List Inequality) (i : Inequality)
    (n : ℕ)
    → new ≡ with_atom old i → n ≡ atom_number old i
    → (record { shapes = shapes; atoms = new; clauses = clauses }, l.Atom n true) ≡ literal_of_atom record {
      shapes =
          shapes;
      atoms = old;
      clauses = clauses;
    } i
at-place shapes clauses old new i n e f =
    ap (λ z. (record { shapes = shapes; atoms = z; clauses = clauses }, l.Atom n true)) e
    ∙ ap (λ z. (record { shapes = shapes; atoms = with_atom old i; clauses = clauses }, l.Atom z true)) f
