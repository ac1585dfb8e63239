-- The sizes of terms by those of callees.
use Rattle.std.proofs.Common.{◌≡◌, ℕ, suc, pred, ◌+◌, Bool, true, false, ◌||◌, List, [], ◌∷◌, ◌++◌, map, slice_index_or, refl, sym, ap, ◌∙◌, arith}
use Rattle.std.specs.Prelude.{min, max}
use Rattle.std.specs.List.{list_any}
use Rattle.std.proofs.lemmas.List.Folds.{list_any-append}
use Rattle.lus_tree.specs.Tree.{Name, Component, Program}
use Rattle.lus_meaning.specs.Scene.{Site, Instance, instance, component_of, contract_statements}
use Rattle.lus_meaning.specs.Program.{all_sites, constants_in, instances_with, instance_of}
use Rattle.lus_meaning.specs.Depends.{from_caller}
use Rattle.lus_meaning.specs.Sizes.{Size, beside, above, ModeSizes, ContractSizes, no_sizes, sizes_after, contract_sizes, contract_sizes_each, own_sizes, site_sizes, frame_sizes, call_sizes, property_sizes, some_of, owed_sizes, owed_by_sites, term_sizes}
use Rattle.lus_limits.specs.Instances.{callee, instance_called_so}
use Rattle.lus_limits.specs.Sizes.{sizes_at, callee_sizes, ContractSizesByText, sites_pass, FramesByText, owed_pass, own_pass, TermsByText, cut_size, BesideCuts, AboveCuts}
use Rattle.lus_limits.proofs.Instances.{component_called, made_of_callees}

-- what is made of a declaration's text and of its callees
abbrev pub made : Program → Component → Instance
made p n = instance n (constants_in p n) (instances_with (instance_called_so p) (all_sites n))

-- ---- contracts

each_sizes : (g : Name → Instance) (ss : List Site) → contract_sizes_each (instances_with g ss) ≡ map (λ s. contract_sizes (g s.callee)) ss
each_sizes g [] = refl
each_sizes g (s ∷ ss) = ap (λ rs. contract_sizes (g s.callee) ∷ rs) (each_sizes g ss)

sizes_made : (p : Program) (n : Component) → contract_sizes (made p n)
    ≡ sizes_after n (sizes_at (callee_sizes p) (all_sites n)) no_sizes (contract_statements n)
sizes_made p n = ap (λ rs. sizes_after n (λ k. slice_index_or rs (pred k) no_sizes) no_sizes (contract_statements n))
    (each_sizes (instance_called_so p) (all_sites n))

pub contract_sizes_by_text : ContractSizesByText
contract_sizes_by_text p c n i = ap contract_sizes (made_of_callees p c n i) ∙ sizes_made p n

-- ---- frames

sites_passed : (f : Size → Bool) (p : Program) (n : Component) (ms : ModeSizes) (ss : List Site) →
    list_any f (call_sizes n ms (instances_with (instance_called_so p) ss)) ≡ sites_pass f p n ms ss
sites_passed f p n ms [] = refl
sites_passed f p n ms (s ∷ ss) =
    let k : Instance = instance_called_so p s.callee in
    let rest : List Size = call_sizes n ms (instances_with (instance_called_so p) ss) in
    list_any-append f (site_sizes n ms s (component_of k) s.manner) (frame_sizes (from_caller s k) k ++ rest)
    ∙ rw (
      list_any-append f (frame_sizes (from_caller s k) k) rest,
      sites_passed f p n ms ss,
      component_called p (callee p s.callee),
    )
    refl

frames_made : (p : Program) (n : Component) (f : Size → Bool) (given : List Name) → list_any f (frame_sizes given (made p n))
    ≡ (list_any f (own_sizes given n (contract_sizes (made p n))) || sites_pass f p n (contract_sizes (made p n)).modes (all_sites n))
frames_made p n f given =
    list_any-append f (own_sizes given n (contract_sizes (made p n)))
    (call_sizes n (contract_sizes (made p n)).modes (instances_with (instance_called_so p) (all_sites n)))
    ∙ rw (sites_passed f p n (contract_sizes (made p n)).modes (all_sites n)) refl

pub frames_by_text : FramesByText
frames_by_text p c n i f given =
    let e : instance_of p n ≡ made p n = made_of_callees p c n i in
    ap (λ k. list_any f (frame_sizes given k)) e ∙ frames_made p n f given
    ∙ ap (λ k. list_any f (own_sizes given n (contract_sizes k)) || sites_pass f p n (contract_sizes k).modes (all_sites n)) (sym e)

-- ---- a node's system

owed_passed : (f : Size → Bool) (p : Program) (ss : List Site) → list_any f (owed_by_sites (instances_with (instance_called_so p) ss)) ≡ owed_pass f p ss
owed_passed f p [] = refl
owed_passed f p (s ∷ ss) =
    list_any-append f (owed_sizes s.manner (instance_called_so p s.callee)) (owed_by_sites (instances_with (instance_called_so p) ss))
    ∙ rw (owed_passed f p ss) refl

in_turn : (a b c d e o : Bool) → (a || (b || (c || (d || (e || o))))) ≡ (a || ((b || (c || (d || e))) || o))
in_turn true b c d e o = refl
in_turn false true c d e o = refl
in_turn false false true d e o = refl
in_turn false false false true e o = refl
in_turn false false false false e o = refl

terms_made : (p : Program) (n : Component) (f : Size → Bool) → list_any f (term_sizes (made p n))
    ≡ (list_any f (frame_sizes (map (λ v. v.name.text) n.inputs) (made p n)) || (own_pass f n (contract_sizes (made p n)) || owed_pass f p (all_sites n)))
terms_made p n f =
    let r : ContractSizes = contract_sizes (made p n) in
    let fs : List Size = frame_sizes (map (λ v. v.name.text) n.inputs) (made p n) in
    let qs : List Size = property_sizes n r.modes n.body in
    let m : Size = some_of (map (λ m. m.1) r.modes) in
    let os : List Size = owed_by_sites (instances_with (instance_called_so p) (all_sites n)) in
    list_any-append f fs (r.assumes ++ (qs ++ (r.promises ++ (m ∷ os))))
    ∙ rw (
      list_any-append f r.assumes (qs ++ (r.promises ++ (m ∷ os))),
      list_any-append f qs (r.promises ++ (m ∷ os)),
      list_any-append f r.promises (m ∷ os),
      owed_passed f p (all_sites n),
    )
    (in_turn (list_any f fs) (list_any f r.assumes) (list_any f qs) (list_any f r.promises) (f m) (owed_pass f p (all_sites n)))

pub terms_by_text : TermsByText
terms_by_text p c n i f =
    let e : instance_of p n ≡ made p n = made_of_callees p c n i in
    ap (λ k. list_any f (term_sizes k)) e ∙ terms_made p n f
    ∙ ap (λ k. list_any f (frame_sizes (map (λ v. v.name.text) n.inputs) k) || (own_pass f n (contract_sizes k) || owed_pass f p (all_sites n))) (sym e)

-- ---- cuts

pub same_size : (a b : Size) → a.levels ≡ b.levels → a.parts ≡ b.parts → a ≡ b
same_size a b e f = ap (λ x. record { levels = x; parts = a.parts }) e ∙ ap (λ x. record { levels = b.levels; parts = x }) f

greatest_cut : (k a b : ℕ) → min k (max a b) ≡ min k (max (min k a) (min k b))
greatest_cut k a b = omega arith

sum_cut : (k a b : ℕ) → min k (a + b) ≡ min k (min k a + min k b)
sum_cut k a b = omega arith

next_cut : (k a : ℕ) → min k (suc a) ≡ min k (suc (min k a))
next_cut k a = omega arith

pub beside_cuts : BesideCuts
beside_cuts l k a b =
    same_size (cut_size l k (beside a b)) (cut_size l k (beside (cut_size l k a) (cut_size l k b)))
    (greatest_cut l a.levels b.levels) (sum_cut k a.parts b.parts)

pub above_cuts : AboveCuts
above_cuts l k a =
    same_size (cut_size l k (above a)) (cut_size l k (above (cut_size l k a))) (next_cut l a.levels) (next_cut k a.parts)
