-- What the marks of an assignment say, and keep.
use Rattle.std.specs.Prelude.{ℕ, ◌≡◌, ◌==◌, ◌+◌, ◌<◌, Bool, true, false, cond, List, [], ◌∷◌, ◌++◌, length, Some, None, take, slice_get, slice_set, refl}
use Rattle.std.proofs.Common.{sym, ◌∙◌, ap, subst, arith}
use Rattle.std.proofs.lemmas.List.{map-append, length-append}
use Rattle.proof_steps.specs.declared.Literal.{Literal}
use Rattle.proof_steps.specs.declared.Literal.TheVariants.{Flag, Atom}
use Rattle.proof_steps.specs.Meaning.{opposite, negated}
use Rattle.proof_checker.specs.Derived.{has, same, same_sign}
use Rattle.sat_core.specs.declared.assigned.Assigned.{Assigned}
use Rattle.sat_core.specs.Set.{IsTied, IsWidened, place_of}
use Rattle.sat_core.specs.Trail.{trues, falses, value_of, IsApart}
use Rattle.sat_core.proofs.Places.{from_map, get-append, take-push, within}
use Rattle.proof_checker.proofs.Sets.{has-not, not-has}
use Rattle.sat_core.proofs.Marking.{tied_more, tied_wide, tied_less}
use Rattle.sat_core.proofs.Growth.{apart-push}

sign-flipped : (b c : Bool) → same_sign (negated b) c ≡ same_sign b (negated c)
sign-flipped true true = refl
sign-flipped true false = refl
sign-flipped false true = refl
sign-flipped false false = refl

same-flipped : (l m : Literal) → same (opposite l) m ≡ same l (opposite m)
same-flipped (Flag m b) (Flag n c) = ap (λ x. cond (m == n) x false) (sign-flipped b c)
same-flipped (Flag m b) (Atom n c) = refl
same-flipped (Atom m b) (Flag n c) = refl
same-flipped (Atom m b) (Atom n c) = ap (λ x. cond (m == n) x false) (sign-flipped b c)

-- a literal is false where its opposite is true
pub has-falses : (trail : List Assigned) (l : Literal) → has (falses trail) l ≡ has (trues trail) (opposite l)
has-falses [] l = refl
has-falses (a ∷ rest) l =
    ap (λ b. cond b true (has (falses rest) l)) (same-flipped a.literal l) ∙ ap (cond (same a.literal (opposite l)) true) (has-falses rest l)

pub value_false : (trail : List Assigned) (l m : Literal) → has (trues trail) l ≡ false → m ≡ opposite l → has (trues trail) m ≡ true
    → Some false ≡ value_of trail l
value_false trail l m t e f =
    let g : has (falses trail) l ≡ true = has-falses trail l ∙ ap (has (trues trail)) (sym e) ∙ f in
    sym (ap (λ b. cond b (Some true) (cond (has (falses trail) l) (Some false) None)) t ∙ ap (λ b. cond b (Some false) None) g)

pub value_none : (trail : List Assigned) (l m : Literal) → has (trues trail) l ≡ false → m ≡ opposite l → has (trues trail) m ≡ false → None ≡ value_of trail l
value_none trail l m t e f =
    let g : has (falses trail) l ≡ false = has-falses trail l ∙ ap (has (trues trail)) (sym e) ∙ f in
    sym (ap (λ b. cond b (Some true) (cond (has (falses trail) l) (Some false) None)) t ∙ ap (λ b. cond b (Some false) None) g)

pub assigned_more : (marks wide marks' : List Bool) (entries entries' : List Assigned) (a : Assigned)
    → IsTied marks (trues entries) × IsApart entries
    → has (trues entries) a.literal ≡ false → has (falses entries) a.literal ≡ false
    → IsWidened marks wide → place_of a.literal < length wide
    → entries' ≡ entries ++ a ∷ [] → marks' ≡ slice_set wide (place_of a.literal) true
    → IsTied marks' (trues entries') × IsApart entries'
assigned_more marks wide marks' entries entries' a k nt nf w h e f = (
  tied_more marks wide marks' (trues entries) (trues entries') a.literal k.0 w h f
      (ap trues e ∙ map-append (λ (x : Assigned). x.literal) entries (a ∷ [])),
  subst IsApart (sym e) (apart-push entries k.1 a (has-not (trues entries) a.literal nt) (has-not (falses entries) a.literal nf)),
)

pub assigned_same : (marks wide : List Bool) (entries entries' : List Assigned) → IsTied marks (trues entries) × IsApart entries
    → IsWidened marks wide → entries' ≡ entries → IsTied wide (trues entries') × IsApart entries'
assigned_same marks wide entries entries' k w e =
    (tied_wide marks wide (trues entries) (trues entries') k.0 w (ap trues e), subst IsApart (sym e) k.1)

last-apart : (entries : List Assigned) (a : Assigned) → IsApart (entries ++ a ∷ []) → has (trues entries) a.literal ≡ false
last-apart entries a apart = not-has (trues entries) a.literal (λ c.
    let r = from_map (λ (x : Assigned). x.literal) entries a.literal c in
    let w : r.place < length entries = within entries r.place r.element r.is_there in
    (apart r.place (length entries) r.element a w (get-append entries (a ∷ []) r.place r.element r.is_there) (last-get entries)).other r.gives) where
      last-get : (xs : List Assigned) → slice_get (xs ++ a ∷ []) (length xs) ≡ Some a
      last-get [] = refl
      last-get (x ∷ xs) = last-get xs

pub fewer : (marks marks' : List Bool) (entries entries' : List Assigned) (a : Assigned) → entries ≡ entries' ++ a ∷ []
    → IsTied marks (trues entries) → IsApart entries → marks' ≡ slice_set marks (place_of a.literal) false
    → IsTied marks' (trues entries') × IsApart entries'
fewer marks marks' entries entries' a e t apart f =
    let now : IsApart (entries' ++ a ∷ []) = subst IsApart e apart in (
      tied_less marks marks' (trues entries') a.literal
          (subst (IsTied marks) (ap trues e ∙ map-append (λ (x : Assigned). x.literal) entries' (a ∷ [])) t) (last-apart entries' a now) f,
      λ i j b c h p q. now i j b c h (get-append entries' (a ∷ []) i b p) (get-append entries' (a ∷ []) j c q),
    )

pub fewer_taken : (n : ℕ) (all entries entries' : List Assigned) (a : Assigned) → entries ≡ entries' ++ a ∷ [] → n < length entries
    → take n entries ≡ take n all → take n entries' ≡ take n all
fewer_taken n all entries entries' a e h t =
    let k : length entries ≡ length entries' + 1 = ap length e ∙ length-append entries' (a ∷ []) in
    sym (ap (take n) e ∙ take-push entries' (a ∷ []) n (omega arith)) ∙ t
