-- What stands for calls, in any order.
use Rattle.std.proofs.Common.{◌≡◌, true, ℕ, zero, suc, pred, ◌≤◌, List, [], ◌∷◌, map, subst, arith}
use Rattle.std.specs.List.{AllByRecursion}
use Rattle.lus_tree.specs.Tree.{Component}
use Rattle.lus_tree.specs.Numbers.{are_counted}
use Rattle.lus_meaning.specs.Scene.{Site}
use Rattle.lus_meaning.specs.Program.{all_sites, in_order}
use Rattle.lus_meaning.specs.Sizes.{Size, ModeSizes}
use Rattle.lus_meaning.proofs.InOrder.{in_order_all}
use Rattle.rule_laws.proofs.Numbered.{At, InPlace, all_in_place}
use Rattle.rule_laws.proofs.Places.{numbered, sites_counted}
use Rattle.lus_limits.specs.Peaks.{greater}
use Rattle.lus_limits.specs.FrameTerms.{site_terms, all_site_terms, found_sites, SitesInAnyOrder}
use Rattle.lus_limits.proofs.Sizes.{same_size}

-- no larger
record Within (a b : Size) : Type 0 where
  levels : a.levels ≤ b.levels
  parts : a.parts ≤ b.parts

within_both : (a b : Size) → Within a b → Within b a → a ≡ b
within_both a b h g = same_size a b (omega (arith, h.levels, g.levels)) (omega (arith, h.parts, g.parts))

abbrev EachWithin : Component → ModeSizes → Size → Site → Type 0
EachWithin n ms t s = Within (site_terms n ms s) t

larger : (n : Component) (ms : ModeSizes) (t : Size) (a : Size) (ss : List Site) → AllByRecursion (EachWithin n ms t) ss
    → AllByRecursion (EachWithin n ms (greater a t)) ss
larger n ms t a [] h = tt
larger n ms t a (s ∷ ss) h =
    let w : Within (site_terms n ms s) t = h.0 in
    (record { levels = omega (arith, w.levels); parts = omega (arith, w.parts) }, larger n ms t a ss h.1)

-- each is no larger than the greatest
all_within : (n : Component) (ms : ModeSizes) (ss : List Site) → AllByRecursion (EachWithin n ms (all_site_terms n ms ss)) ss
all_within n ms [] = tt
all_within n ms (s ∷ ss) =
    (record { levels = omega arith; parts = omega arith }, larger n ms (all_site_terms n ms ss) (site_terms n ms s) ss (all_within n ms ss))

-- where each is no larger than that, neither is the greatest
greatest_within : (n : Component) (ms : ModeSizes) (t : Size) (ss : List Site) → AllByRecursion (EachWithin n ms t) ss → Within (all_site_terms n ms ss) t
greatest_within n ms t [] h = record { levels = omega arith; parts = omega arith }
greatest_within n ms t (s ∷ ss) h =
    let w : Within (site_terms n ms s) t = h.0 in
    let r : Within (all_site_terms n ms ss) t = greatest_within n ms t ss h.1 in
    record { levels = omega (arith, w.levels, r.levels); parts = omega (arith, w.parts, r.parts) }

at_place : (P : Site → Type 0) (ss : List Site) (d : ℕ) (s : Site) → AllByRecursion P ss → At ss d s → P s
at_place P [] d s h a = absurd a
at_place P (x ∷ ss) zero s h a = subst P a h.0
at_place P (x ∷ ss) (suc d) s h a = at_place P ss d s h.1 a

back : (P : Site → Type 0) (xs ys : List Site) → AllByRecursion P ys → (zs : List Site) → AllByRecursion (λ s. (d : ℕ) × At ys d s) zs → AllByRecursion P zs
back P xs ys h [] g = tt
back P xs ys h (z ∷ zs) g = (at_place P ys g.0.0 z h g.0.1, back P xs ys h zs g.1)

places : (xs zs : List Site) → AllByRecursion (InPlace (λ s. s.number) xs) zs → AllByRecursion (λ s. (d : ℕ) × At (in_order (λ s. s.number) xs) d s) zs
places xs [] g = tt
places xs (z ∷ zs) g =
    let q : InPlace (λ s. s.number) xs z = g.0 in
    ((pred z.number, q.place), places xs zs g.1)

pub sites_in_any_order : SitesInAnyOrder
sites_in_any_order p c n i ms =
    let xs : List Site = found_sites n in
    let ys : List Site = all_sites n in
    let k : are_counted (map (λ s. s.number) xs) ≡ true = sites_counted n (numbered p c.grammatical n i) in
    let one : Within (all_site_terms n ms ys) (all_site_terms n ms xs) =
    greatest_within n ms (all_site_terms n ms xs) ys
    (in_order_all (λ s. s.number) (EachWithin n ms (all_site_terms n ms xs)) xs (all_within n ms xs)) in
    let other : Within (all_site_terms n ms xs) (all_site_terms n ms ys) =
    greatest_within n ms (all_site_terms n ms ys) xs
    (back (EachWithin n ms (all_site_terms n ms ys)) xs ys (all_within n ms ys) xs
    (places xs xs (all_in_place (λ s. s.number) xs k))) in
    within_both (all_site_terms n ms ys) (all_site_terms n ms xs) one other
