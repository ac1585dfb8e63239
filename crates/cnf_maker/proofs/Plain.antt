-- The atoms of a query whose conditions fit are over numbers of the form, in order, none times 0.
use Rattle.std.specs.Prelude.{ℕ, zero, suc, ◌≡◌, ◌≢◌, ◌==◌, ◌<◌, ◌+◌, Bool, true, false, cond, not, unsigned_abs, List, [], ◌∷◌, ◌++◌, map, length, Some, slice_get, slice_index, nat_lt, Result, Ok, Err, refl}
use Rattle.std.specs.List.{AllByRecursion}
use Rattle.std.proofs.lemmas.List.Elements.{All-from_recursion}
use Rattle.std.proofs.Common.{sym, subst, arith}
use Rattle.std.proofs.lemmas.Bool.Decides.{nat_tests}
use lib.IntN.{ℤ, pos, negsuc, ◌-ℤ◌}
use Rattle.kind_num.specs.declared.Shape.{Shape}
use Rattle.kind_num.specs.declared.Shape.TheVariants as k
use Rattle.kind_num.specs.declared.Op.{Op}
use Rattle.kind_num.specs.declared.Op.TheVariants.{Sub, Mul}
use Rattle.kind_num.specs.declared.Past.{Past}
use Rattle.proof_steps.specs.View.{Inequality}
use Rattle.proof_steps.specs.Rows.{Form}
use Rattle.proof_steps.specs.Meaning.{opposite}
use Rattle.sys_terms.specs.Fits.{is_zero}
use Rattle.sys_terms.specs.Evaluated.{and_then, exact}
use Rattle.sys_terms.proofs.Placed.{both_true}
use Rattle.cnf_maker.specs.Linear.{Linear, of_constant, of_variable, put, with_term, with_terms, combined, scaled_terms, scaled, inequality_of, is_increasing}
use Rattle.proof_steps.specs.declared.Literal.{Literal}
use Rattle.cnf_maker.specs.ClauseForm.{equal_atoms, with_atom, with_shapes, literal_of_terms, with_at_most, with_bound, with_chosen, of_division, with_division}
use Rattle.cnf_maker.specs.Plain.{IsTermOf, IsPlainAtom}
use Rattle.cnf_maker.proofs.Values.{through}
use Rattle.cnf_maker.proofs.Increasing.{terms-increasing, scaled-increasing}

zero_not : (z : ℤ) → is_zero z ≡ false → z ≢ pos 0
zero_not (pos zero) h e = absurd cc
zero_not (pos (suc n)) h e = absurd cc
zero_not (negsuc n) h e = absurd cc

-- terms of numbers, none times 0
abbrev pub Terms : List Shape → List (ℕ × ℤ) → Type 0
Terms shapes ts = AllByRecursion (IsTermOf shapes) ts

put_terms : (shapes : List Shape) (x : ℕ) (z : ℤ) (ts : List (ℕ × ℤ)) (b : Bool) → is_zero z ≡ b
    → slice_get shapes x ≡ Some k.Number
    → Terms shapes ts → Terms shapes (cond b ts ((x, z) ∷ ts))
put_terms shapes x z ts true e n h = h
put_terms shapes x z ts false e n h = (record { number = n; not_zero = zero_not z e }, h)

module _ (op : Op) (shapes : List Shape) where
  term-terms : (ts : List (ℕ × ℤ)) (x : ℕ) (b : ℤ) (us : List (ℕ × ℤ)) → slice_get shapes x ≡ Some k.Number
      → Terms shapes ts
      → with_term op ts x b ≡ Ok us → Terms shapes us
  term-terms [] x b us n h e =
      let t = through (exact op (pos 0) b) (λ z. Ok (put x z [])) us e in
      let r : put x t.first [] ≡ us = let g = t.then in cc in
      subst (Terms shapes) r (put_terms shapes x t.first [] (is_zero t.first) refl n h)
  term-terms ((y, a) ∷ ts) x b us n h e = go (x == y) (nat_lt x y) (λ vs. term-terms ts x b vs n h.1) e where
    go : (s m : Bool) → ((vs : List (ℕ × ℤ)) → with_term op ts x b ≡ Ok vs → Terms shapes vs)
        → cond s (and_then (exact op a b) (λ z. Ok (put x z ts)))
        (cond m (and_then (exact op (pos 0) b) (λ z. Ok (put x z ((y, a) ∷ ts))))
        (and_then (with_term op ts x b) (λ more. Ok ((y, a) ∷ more)))) ≡ Ok us
        → Terms shapes us
    go true m ih f =
        let t = through (exact op a b) (λ z. Ok (put x z ts)) us f in
        let r : put x t.first ts ≡ us = let g = t.then in cc in
        subst (Terms shapes) r (put_terms shapes x t.first ts (is_zero t.first) refl n h.1)
    go false true ih f =
        let t = through (exact op (pos 0) b) (λ z. Ok (put x z ((y, a) ∷ ts))) us f in
        let r : put x t.first ((y, a) ∷ ts) ≡ us = let g = t.then in cc in
        subst (Terms shapes) r (put_terms shapes x t.first ((y, a) ∷ ts) (is_zero t.first) refl n h)
    go false false ih f =
        let t = through (with_term op ts x b) (λ more. Ok ((y, a) ∷ more)) us f in
        let r : (y, a) ∷ t.first ≡ us = let g = t.then in cc in
        subst (Terms shapes) r (h.0, ih t.first t.is_first)

  terms-terms : (ts more us : List (ℕ × ℤ)) → Terms shapes ts → Terms shapes more → with_terms op ts more ≡ Ok us
      → Terms shapes us
  terms-terms ts [] us h g e = let q : ts ≡ us = cc in subst (Terms shapes) q h
  terms-terms ts ((x, b) ∷ more) us h g e =
      let t = through (with_term op ts x b) (λ rs. with_terms op rs more) us e in
      terms-terms t.first more us (term-terms ts x b t.first (g.0).number h t.is_first) g.1 t.then

scaled-terms : (shapes : List Shape) (n : ℤ) (ts us : List (ℕ × ℤ)) → Terms shapes ts → scaled_terms n ts ≡ Ok us
    → Terms shapes us
scaled-terms shapes n [] us h e = let q : [] ≡ us = cc in subst (Terms shapes) q tt
scaled-terms shapes n ((x, a) ∷ ts) us h e =
    let t = through (exact Mul n a) (λ z. and_then (scaled_terms n ts) (λ us. Ok (put x z us))) us e in
    let s = through (scaled_terms n ts) (λ us. Ok (put x t.first us)) us t.then in
    let r : put x t.first s.first ≡ us = let g = s.then in cc in
    subst (Terms shapes) r
    (put_terms shapes x t.first s.first (is_zero t.first) refl (h.0).number
    (scaled-terms shapes n ts s.first h.1 s.is_first))

-- a sum of numbers in order
abbrev pub PlainSum : List Shape → List (ℕ × ℤ) → Type 0
PlainSum shapes ts = Terms shapes ts × (is_increasing ts ≡ true)

-- what is made meets P
abbrev pub Gets : {X : Type 0} → (X → Type 0) → Result X Past → Type 0
Gets P (Ok x) = P x
Gets P (Err p) = Unit

pub gets-then : {X Y : Type 0} (P : X → Type 0) (Q : Y → Type 0) (r : Result X Past) (h : X → Result Y Past)
    → Gets P r → ((x : X) → P x → Gets Q (h x)) → Gets Q (and_then r h)
gets-then P Q (Ok x) h f g = g x f
gets-then P Q (Err p) h f g = tt

pub gets-all : {X : Type 0} (P : X → Type 0) (r : Result X Past) → ((x : X) → r ≡ Ok x → P x) → Gets P r
gets-all P (Ok x) h = h x refl
gets-all P (Err p) h = tt

pub joined-plain : (op : Op) (shapes : List Shape) (ts us : List (ℕ × ℤ)) → PlainSum shapes ts → PlainSum shapes us
    → Gets (PlainSum shapes) (with_terms op ts us)
joined-plain op shapes ts us h g =
    gets-all (PlainSum shapes) (with_terms op ts us)
    (λ vs e. (terms-terms op shapes ts us vs h.0 g.0 e, terms-increasing op ts us vs h.1 e))

pub scaled-plain : (shapes : List Shape) (n : ℤ) (ts : List (ℕ × ℤ)) → PlainSum shapes ts
    → Gets (PlainSum shapes) (scaled_terms n ts)
scaled-plain shapes n ts h =
    gets-all (PlainSum shapes) (scaled_terms n ts)
    (λ vs e. (scaled-terms shapes n ts vs h.0 e, scaled-increasing n ts vs h.1 e))

-- in the words of the law
abbrev variables_of : List (ℕ × ℤ) → List ℕ
variables_of ts = map (λ (t : ℕ × ℤ). t.0) ts

one_before : (x y : ℕ) → nat_lt x y ≡ true → x < y
one_before x y h = grind (arith, nat_tests)

in_order_at : (ts : List (ℕ × ℤ)) → is_increasing ts ≡ true → (j n : ℕ) → n ≡ suc j → n < length (variables_of ts)
    → slice_index (variables_of ts) j < slice_index (variables_of ts) n
in_order_at [] h j n e l = absurd (omega arith)
in_order_at ((x, a) ∷ []) h j n e l = absurd (omega arith)
in_order_at ((x, a) ∷ (y, b) ∷ ts) h zero n e l =
    let m = both_true _ _ h in
    let o = both_true _ _ m.0 in
    subst (λ i. x < slice_index (variables_of ((x, a) ∷ (y, b) ∷ ts)) i) (sym e) (one_before x y o.0)
in_order_at ((x, a) ∷ (y, b) ∷ ts) h (suc j) zero e l = absurd (omega arith)
in_order_at ((x, a) ∷ (y, b) ∷ ts) h (suc j) (suc n) e l =
    in_order_at ((y, b) ∷ ts) (both_true _ _ h).1 j n (omega arith) (omega arith)

-- an atom over such a sum, and in the words of the law
pub record PlainAtom (shapes : List Shape) (i : Inequality) : Type 0 where
  pub sum : PlainSum shapes i.terms
  pub some_term : i.terms ≢ []

pub plain-atom : (shapes : List Shape) (i : Inequality) → PlainAtom shapes i → IsPlainAtom shapes i
plain-atom shapes i p = record {
  terms = All-from_recursion (IsTermOf shapes) i.terms p.sum.0;
  in_order = λ j l. in_order_at i.terms p.sum.1 j (j + 1) (omega arith) l;
  some_term = p.some_term;
}

-- each variable keeps its shape
abbrev pub Over : List Shape → List Shape → Type 0
Over old new = (x : ℕ) (s : Shape) → slice_get old x ≡ Some s → slice_get new x ≡ Some s

pub over-more : (old more : List Shape) → Over old (old ++ more)
over-more [] more x s h = absurd cc
over-more (o ∷ old) more zero s h = h
over-more (o ∷ old) more (suc x) s h = over-more old more x s h

pub new-shape : (old more : List Shape) (s : Shape) → slice_get (old ++ s ∷ more) (length old) ≡ Some s
new-shape [] more s = refl
new-shape (o ∷ old) more s = new-shape old more s

pub next-shape : (old more : List Shape) (r s : Shape) → slice_get (old ++ r ∷ s ∷ more) (suc (length old)) ≡ Some s
next-shape [] more r s = refl
next-shape (o ∷ old) more r s = next-shape old more r s

terms-over : (old new : List Shape) (ts : List (ℕ × ℤ)) → Over old new → Terms old ts → Terms new ts
terms-over old new [] o h = tt
terms-over old new (t ∷ ts) o h =
    (record { number = o t.0 k.Number (h.0).number; not_zero = (h.0).not_zero }, terms-over old new ts o h.1)

pub sum-over : (old new : List Shape) (ts : List (ℕ × ℤ)) → Over old new → PlainSum old ts → PlainSum new ts
sum-over old new ts o h = (terms-over old new ts o h.0, h.1)

abbrev pub PlainAtoms : List Shape → List Inequality → Type 0
PlainAtoms shapes atoms = AllByRecursion (PlainAtom shapes) atoms

pub atoms-over : (old new : List Shape) (atoms : List Inequality) → Over old new → PlainAtoms old atoms
    → PlainAtoms new atoms
atoms-over old new [] o h = tt
atoms-over old new (i ∷ atoms) o h =
    (record { sum = sum-over old new i.terms o (h.0).sum; some_term = (h.0).some_term }, atoms-over old new atoms o h.1)

pub one-more : (P : Inequality → Type 0) (atoms : List Inequality) (i : Inequality) → P i → AllByRecursion P atoms
    → AllByRecursion P (with_atom atoms i)
one-more P [] i p h = (p, tt)
one-more P (a ∷ atoms) i p h = go (equal_atoms a i) (one-more P atoms i p h.1) where
  go : (b : Bool) → AllByRecursion P (with_atom atoms i) → AllByRecursion P (cond b (a ∷ atoms) (a ∷ with_atom atoms i))
  go true ih = h
  go false ih = (h.0, ih)

-- the form's atoms are plain
abbrev pub Plain : Form → Type 0
Plain f = PlainAtoms f.shapes f.atoms

-- no variable is lost, and the atoms are plain
abbrev pub Step : Form → Form → Type 0
Step f g = Over f.shapes g.shapes × Plain g

pub step-trans : (f g h : Form) → Step f g → Step g h → Step f h
step-trans f g h a b = (λ x s e. b.0 x s (a.0 x s e), b.1)

pub step-shapes : (f : Form) (more : List Shape) → Plain f → Step f (with_shapes f more)
step-shapes f more n =
    (over-more f.shapes more, atoms-over f.shapes (f.shapes ++ more) f.atoms (over-more f.shapes more) n)

-- the literal of an inequality of plain sums
step-literal : (t : ℕ) (f : Form) (ts : List (ℕ × ℤ)) (b : ℤ) → Plain f → PlainSum f.shapes ts
    → Step f (literal_of_terms t f ts b).0
step-literal t f [] b n h = (λ x s e. e, n)
step-literal t f (u ∷ us) b n h = (
  λ x s e. e,
  one-more (PlainAtom f.shapes) f.atoms record { terms = u ∷ us; bound = b } record {
    sum =
        h;
    some_term = λ e. absurd cc;
  } n,
)

abbrev pub Any : {X : Type 0} → X → Type 0
Any x = Unit

gets-any : {X : Type 0} (r : Result X Past) → Gets Any r
gets-any (Ok x) = tt
gets-any (Err p) = tt

pub step-at_most : (t : ℕ) (f : Form) (a b : Linear) → Plain f → PlainSum f.shapes a.terms → PlainSum f.shapes b.terms
    → Gets (λ (p : Form × Literal). Step f p.0) (with_at_most t f a b)
step-at_most t f a b n h m =
    gets-then (λ (i : Inequality). PlainSum f.shapes i.terms) _ (inequality_of a b) _
    (gets-then (PlainSum f.shapes) _ (with_terms Sub a.terms b.terms) _ (joined-plain Sub f.shapes a.terms b.terms h m)
    (λ ts p. gets-then Any _ (exact Sub b.constant a.constant) _ (gets-any (exact Sub b.constant a.constant))
    (λ z u. p)))
    (λ i p. step-literal t f i.terms i.bound n p)

pub step-bound : (t : ℕ) (guard : List Literal) (f : Form) (a b : Linear) → Plain f → PlainSum f.shapes a.terms
    → PlainSum f.shapes b.terms
    → Gets (Step f) (with_bound t guard f a b)
step-bound t guard f a b n h m = gets-then (λ (p : Form × Literal). Step f p.0) _ (with_at_most t f a b) _
    (step-at_most t f a b n h m) (λ p s. s)

pub combined-plain : (op : Op) (shapes : List Shape) (a b : Linear) → PlainSum shapes a.terms → PlainSum shapes b.terms
    → Gets (λ (c : Linear). PlainSum shapes c.terms) (combined op a b)
combined-plain op shapes a b h m =
    gets-then (PlainSum shapes) _ (with_terms op a.terms b.terms) _ (joined-plain op shapes a.terms b.terms h m)
    (λ ts p. gets-then Any _ (exact op a.constant b.constant) _ (gets-any (exact op a.constant b.constant)) (λ z u. p))

pub multiple-plain : (shapes : List Shape) (n : ℤ) (a : Linear) → PlainSum shapes a.terms
    → Gets (λ (c : Linear). PlainSum shapes c.terms) (scaled n a)
multiple-plain shapes n a h =
    gets-then (PlainSum shapes) _ (scaled_terms n a.terms) _ (scaled-plain shapes n a.terms h)
    (λ ts p. gets-then Any _ (exact Mul n a.constant) _ (gets-any (exact Mul n a.constant)) (λ z u. p))

pub variable-plain : (shapes : List Shape) (x : ℕ) → slice_get shapes x ≡ Some k.Number
    → PlainSum shapes (of_variable x).terms
variable-plain shapes x h = ((record { number = h; not_zero = λ e. absurd cc }, tt), refl)

-- a sum of f, and so of each form after it
later : (f g : Form) (a : Linear) → Step f g → PlainSum f.shapes a.terms → PlainSum g.shapes a.terms
later f g a s h = sum-over f.shapes g.shapes a.terms s.0 h

pub step-chosen : (t : ℕ) (f : Form) (c : Literal) (a b : Linear) → Plain f → PlainSum f.shapes a.terms
    → PlainSum f.shapes b.terms
    → Gets (λ (p : Form × Linear). Step f p.0 × PlainSum p.0.shapes p.1.terms) (with_chosen t f c a b)
step-chosen t f c a b n h m =
    let z = of_variable (length f.shapes) in
    let f0 = with_shapes f (k.Number ∷ []) in
    let s0 = step-shapes f (k.Number ∷ []) n in
    let y = variable-plain f0.shapes (length f.shapes) (new-shape f.shapes [] k.Number) in
    let a0 = later f f0 a s0 h in
    let b0 = later f f0 b s0 m in
    gets-then (Step f0) _ (with_bound t (opposite c ∷ []) f0 z a) _ (step-bound t (opposite c ∷ []) f0 z a s0.1 y a0)
    (λ g s1. gets-then (Step g) _ (with_bound t (opposite c ∷ []) g a z) _
    (step-bound t (opposite c ∷ []) g a z s1.1 (later f0 g a s1 a0) (later f0 g z s1 y))
    (λ h s2. let s12 = step-trans f0 g h s1 s2 in
    gets-then (Step h) _ (with_bound t (c ∷ []) h z b) _
    (step-bound t (c ∷ []) h z b s2.1 (later f0 h z s12 y) (later f0 h b s12 b0))
    (λ i s3. let s13 = step-trans f0 h i s12 s3 in
    gets-then (Step i) _ (with_bound t (c ∷ []) i b z) _
    (step-bound t (c ∷ []) i b z s3.1 (later f0 i b s13 b0) (later f0 i z s13 y))
    (λ j s4. let s14 = step-trans f0 i j s13 s4 in (step-trans f f0 j s0 s14, later f0 j z s14 y)))))

size_not : (d : ℤ) → not (is_zero d) ≡ true → d ≢ pos 0
size_not (pos zero) h e = absurd cc
size_not (pos (suc n)) h e = absurd cc
size_not (negsuc n) h e = absurd cc

next_above : (q : ℕ) → nat_lt q (suc q) ≡ true
next_above q = grind (arith, nat_tests)

division-plain : (shapes : List Shape) (q : ℕ) (d : ℤ) → not (is_zero d) ≡ true → slice_get shapes q ≡ Some k.Number
    → slice_get shapes (suc q) ≡ Some k.Number
    → PlainSum shapes (of_division q d).terms
division-plain shapes q d z h m = (
  (record { number = h; not_zero = size_not d z }, (record { number = m; not_zero = λ e. absurd cc }, tt)),
  rw (next_above q) refl,
)

-- the quotient and the remainder are numbers
pub record Divided (f g : Form) : Type 0 where
  pub step : Step f g
  pub quotient : slice_get g.shapes (length f.shapes) ≡ Some k.Number
  pub remainder : slice_get g.shapes (suc (length f.shapes)) ≡ Some k.Number

pub step-division : (t : ℕ) (f : Form) (n : Linear) (d : ℤ) → Plain f → PlainSum f.shapes n.terms
    → not (is_zero d) ≡ true
    → Gets (Divided f) (with_division t f n d)
step-division t f n d p h z =
    let q = length f.shapes in
    let f0 = with_shapes f (k.Number ∷ k.Number ∷ []) in
    let s0 = step-shapes f (k.Number ∷ k.Number ∷ []) p in
    let hq = new-shape f.shapes (k.Number ∷ []) k.Number in
    let hr = next-shape f.shapes [] k.Number k.Number in
    let w = of_division q d in
    let r = of_variable (suc q) in
    let zero_sum = of_constant (pos 0) in
    let most = of_constant (pos (unsigned_abs d) -ℤ pos 1) in
    let yw = division-plain f0.shapes q d z hq hr in
    let yr = variable-plain f0.shapes (suc q) hr in
    let n0 = later f f0 n s0 h in
    gets-then (Step f0) _ (with_bound t [] f0 w n) _ (step-bound t [] f0 w n s0.1 yw n0)
    (λ g s1. gets-then (Step g) _ (with_bound t [] g n w) _
    (step-bound t [] g n w s1.1 (later f0 g n s1 n0) (later f0 g w s1 yw))
    (λ h s2. let s12 = step-trans f0 g h s1 s2 in
    gets-then (Step h) _ (with_bound t [] h zero_sum r) _
    (step-bound t [] h zero_sum r s2.1 (tt, refl) (later f0 h r s12 yr))
    (λ i s3. let s13 = step-trans f0 h i s12 s3 in
    gets-all (Divided f) (with_bound t [] i r most) (λ j e.
    let s4 = got (Step i) (with_bound t [] i r most) j e
    (step-bound t [] i r most s3.1 (later f0 i r s13 yr) (tt, refl)) in
    let s14 = step-trans f0 i j s13 s4 in
    record {
      step = step-trans f f0 j s0 s14;
      quotient = s14.0 q k.Number hq;
      remainder =
          s14.0 (suc q) k.Number hr;
    })))) where
      got : {X : Type 0} (P : X → Type 0) (r : Result X Past) (x : X) → r ≡ Ok x → Gets P r → P x
      got P r x e g = subst (Gets P) e g
