-- What is counted of an import's assumptions is no more than what is counted of the importing contract's.
use Rattle.std.proofs.Common.{◌≡◌, ℕ, zero, suc, ◌≤◌, List, [], ◌∷◌, ◌++◌, map, refl, sym, ap, ◌∙◌, subst, arith}
use Rattle.std.specs.Prelude.{slice_index_or}
use Rattle.std.specs.List.{fold}
use Rattle.std.proofs.Math.Logic.{inl, inr}
use Rattle.lus_tree.specs.Tree.{ContractStatement, assume, guarantee, ghost_variable, constant, mode, «import», Component}
use Rattle.lus_meaning.specs.Scene.{Site, Instance, Instances, no_instances, with_instance}
use Rattle.lus_meaning.specs.Sizes.{Size, leaf, one, two, ContractSizes, no_sizes, sizes_after, contract_sizes, contract_sizes_each, given_size}
use Rattle.lus_meaning.specs.Sizes as sizes
use Rattle.lus_meaning.proofs.Lists.{append_none}
use Rattle.sys_terms.specs.View.{Formula, truth, flag, negation, both, same, choice, at_most, equal}
use Rattle.sys_terms.specs.Fits.{levels, parts}
use Rattle.sys_meaning.proofs.Forward.{drop_calls}
use Rattle.term_laws.proofs.ContractSizes.{same_after}
use Rattle.term_laws.proofs.FrameSizes.{sofar_size}
use Rattle.term_laws.proofs.Lights.{Imports}

-- no more levels and parts
pub record IsWithin (a b : Size) : Type 0 where
  pub levels : a.levels ≤ b.levels
  pub parts : a.parts ≤ b.parts

pub itself : (a : Size) → IsWithin a a
itself a = record { levels = omega arith; parts = omega arith }

pub then : (a b c : Size) → IsWithin a b → IsWithin b c → IsWithin a c
then a b c h k =
    let x : a.levels ≤ b.levels = h.levels in let y : b.levels ≤ c.levels = k.levels in
    let u : a.parts ≤ b.parts = h.parts in let v : b.parts ≤ c.parts = k.parts in
    record { levels = omega (arith, x, y); parts = omega (arith, u, v) }

two_within : (a b c : Size) → IsWithin a b → IsWithin (two a c) (two b c)
two_within a b c h =
    let x : a.levels ≤ b.levels = h.levels in let u : a.parts ≤ b.parts = h.parts in
    record { levels = omega (arith, x); parts = omega (arith, u) }

first_within : (a b : Size) → IsWithin a (two a b)
first_within a b = record { levels = omega arith; parts = omega arith }

second_within : (a b : Size) → IsWithin b (two a b)
second_within a b = record { levels = omega arith; parts = omega arith }

-- ---- conjunctions

fold_within : (a b : Size) (xs : List Size) → IsWithin a b → IsWithin (fold two a xs) (fold two b xs)
fold_within a b [] h = h
fold_within a b (x ∷ xs) h = fold_within (two a x) (two b x) xs (two_within a b x h)

begins_within : (a : Size) (xs : List Size) → IsWithin a (fold two a xs)
begins_within a [] = itself a
begins_within a (x ∷ xs) = then a (two a x) (fold two (two a x) xs) (first_within a x) (begins_within (two a x) xs)

fold_append : (a : Size) (xs ys : List Size) → fold two a (xs ++ ys) ≡ fold two (fold two a xs) ys
fold_append a [] ys = refl
fold_append a (x ∷ xs) ys = fold_append (two a x) xs ys

-- that of a part of a list is no larger than that of the list
all_within : (xs ys zs : List Size) → 1 ≤ (sizes.all_of (xs ++ (ys ++ zs))).levels → 1 ≤ (sizes.all_of (xs ++ (ys ++ zs))).parts →
    IsWithin (sizes.all_of ys) (sizes.all_of (xs ++ (ys ++ zs)))
all_within xs [] zs l p = record { levels = l; parts = p }
all_within [] (y ∷ ys) zs l p =
    subst (IsWithin (fold two y ys)) (sym (fold_append y ys zs)) (begins_within (fold two y ys) zs)
all_within (x ∷ xs) (y ∷ ys) zs l p =
    let before : Size = fold two x xs in
    let own : Size = fold two (two before y) ys in
    subst (IsWithin (fold two y ys)) (sym (fold_append x xs (y ∷ (ys ++ zs)) ∙ fold_append (two before y) ys zs))
    (then (fold two y ys) own (fold two own zs) (fold_within y (two before y) ys (second_within before y)) (begins_within own zs))

pub sofar_within : (as_ bs : List Size) → IsWithin (sizes.all_of as_) (sizes.all_of bs) → IsWithin (sofar_size as_) (sofar_size bs)
sofar_within as_ bs h =
    let x : (sizes.all_of as_).levels ≤ (sizes.all_of bs).levels = h.levels in let u : (sizes.all_of as_).parts ≤ (sizes.all_of bs).parts = h.parts in
    record { levels = omega (arith, x); parts = omega (arith, u) }

-- the equation of an import's output is no larger either
pub given_within : (as_ : List Size) → IsWithin (given_size leaf leaf) (sofar_size as_)
given_within as_ = record { levels = omega arith; parts = omega arith }

-- a formula has a level and a part at least
pub has_levels : (f : Formula) → 1 ≤ levels f
has_levels (truth b) = omega arith
has_levels (flag v) = omega arith
has_levels (negation f) = omega arith
has_levels (both f g) = omega arith
has_levels (same f g) = omega arith
has_levels (choice c f g) = omega arith
has_levels (at_most a b) = omega arith
has_levels (equal a b) = omega arith

pub has_parts : (f : Formula) → 1 ≤ parts f
has_parts (truth b) = omega arith
has_parts (flag v) = omega arith
has_parts (negation f) = omega arith
has_parts (both f g) = omega arith
has_parts (same f g) = omega arith
has_parts (choice c f g) = omega arith
has_parts (at_most a b) = omega arith
has_parts (equal a b) = omega arith

-- ---- a contract and its imports

-- what is counted first stays first
record Begins (as_ bs : List Size) : Type 0 where
  rest : List Size
  is : bs ≡ as_ ++ rest

more_before : (xs ys bs : List Size) → Begins (xs ++ ys) bs → Begins xs bs
more_before xs ys bs h = record { rest = ys ++ h.rest; is = h.is ∙ same_after xs ys h.rest }

module _ (n : Component) (sub : ℕ → ContractSizes) where
  begins : (cs : List ContractStatement) (r : ContractSizes) → Begins r.assumes (sizes_after n sub r cs).assumes
  begins [] r = record { rest = []; is = sym (append_none r.assumes) }
  begins (assume l ∷ cs) r = more_before r.assumes _ _ (begins cs _)
  begins (guarantee l ∷ cs) r = begins cs _
  begins (ghost_variable v e ∷ cs) r = begins cs r
  begins (constant c ∷ cs) r = begins cs r
  begins (mode m rs es ∷ cs) r = begins cs _
  begins («import» k c as_ xs ∷ cs) r = more_before r.assumes (sub k).assumes _ (begins cs _)

  record Among (as_ bs : List Size) : Type 0 where
    before : List Size
    rest : List Size
    is : bs ≡ before ++ (as_ ++ rest)

  among : (cs : List ContractStatement) (r : ContractSizes) (q : ℕ) → Imports cs q → Among (sub q).assumes (sizes_after n sub r cs).assumes
  among [] r q h = absurd h
  among (assume l ∷ cs) r q h = among cs _ q h
  among (guarantee l ∷ cs) r q h = among cs _ q h
  among (ghost_variable v e ∷ cs) r q h = among cs r q h
  among (constant c ∷ cs) r q h = among cs r q h
  among (mode m rs es ∷ cs) r q h = among cs _ q h
  among («import» k c as_ xs ∷ cs) r q (inr h) = among cs _ q h
  among («import» k c as_ xs ∷ cs) r q (inl e) =
      let b = begins cs (record {
        assumes = r.assumes ++ (sub k).assumes;
        promises = r.promises ++ (sub k).promises;
        modes = r.modes ++ map (sizes.imported_size c.text) (sub k).modes;
      }) in
      subst (λ j. Among (sub j).assumes (sizes_after n sub r («import» k c as_ xs ∷ cs)).assumes) e
      record { before = r.assumes; rest = b.rest; is = b.is ∙ same_after r.assumes (sub k).assumes b.rest }

  pub import_within : (cs : List ContractStatement) (q : ℕ) → Imports cs q → 1 ≤ (sizes.all_of (sizes_after n sub no_sizes cs).assumes).levels →
      1 ≤ (sizes.all_of (sizes_after n sub no_sizes cs).assumes).parts →
      IsWithin (sizes.all_of (sub q).assumes) (sizes.all_of (sizes_after n sub no_sizes cs).assumes)
  import_within cs q h l p =
      let a = among cs no_sizes q h in
      subst (λ bs. IsWithin (sizes.all_of (sub q).assumes) (sizes.all_of bs)) (sym a.is)
      (all_within a.before (sub q).assumes a.rest (subst (λ bs. 1 ≤ (sizes.all_of bs).levels) a.is l) (subst (λ bs. 1 ≤ (sizes.all_of bs).parts) a.is p))

abbrev how_many : Instances → ℕ
how_many no_instances = 0
how_many (with_instance c k is) = 1

no_call : (c : Site) (k : Instance) (js : Instances) → no_instances ≡ with_instance c k js → ⊥
no_call c k js e = let h : 0 ≡ 1 = ap how_many e in omega (arith, h)

-- what is counted of the instance at a place
pub sizes_there : (is : Instances) (p : ℕ) (c : Site) (k : Instance) (js : Instances) → drop_calls p is ≡ with_instance c k js →
    slice_index_or (contract_sizes_each is) p no_sizes ≡ contract_sizes k
sizes_there is zero c k js e = ap (λ z. slice_index_or (contract_sizes_each z) 0 no_sizes) e
sizes_there no_instances (suc p) c k js e = absurd (no_call c k js e)
sizes_there (with_instance d l is) (suc p) c k js e = sizes_there is p c k js e
