-- In a frame all values are within 128 bits, or there is one first value that is not.
use Rattle.std.proofs.Common.{◌≡◌, ℕ, ◌<◌, Option, Some, None, List, [], ◌∷◌, ◌++◌, refl, ap, ◌∙◌, sym, subst}
use Rattle.std.proofs.Math.Logic.{◌⊎◌, inl, inr}
use Rattle.std.proofs.lemmas.Bool.{cases_order}
use Rattle.lus_tree.specs.declared.place.Pos.{Pos}
use Rattle.kind_num.specs.declared.Past.{Past}
use Rattle.lus_meaning.specs.Frame.{Frame}
use Rattle.lus_meaning.specs.Scene.{Instance}
use Rattle.lus_meaning.specs.Occurrences.{own}
use Rattle.lus_meaning.proofs.Orders.{least_below}
use Rattle.lus_evaluation.specs.Part.{Part}
use Rattle.lus_evaluation.specs.Past.{part_past, NonePast, IsWithin, IsFirstPast}
use Rattle.lus_evaluation.specs.Laws.{Told, WithinOrPast, NeverBoth, OneFirstPast}

some_or_none : (o : Option Past) → (o ≡ None) ⊎ ((p : Past) × (o ≡ Some p))
some_or_none None = inl refl
some_or_none (Some p) = inr (p, refl)

none_or_some : (o : Option Past) (p : Past) → o ≡ None → o ≡ Some p → ⊥
none_or_some o p e h = cc

same_past : (p q : Past) → Some p ≡ Some q → p ≡ q
same_past p q e = cc

module _ (i : Instance) (f : Frame) where
  -- the first part at an instant whose value is outside
  record Found (qs : List Part) (t : ℕ) : Type 0 where
    pub front : List Part
    pub part : Part
    pub rest : List Part
    pub split : qs ≡ front ++ part ∷ rest
    pub before : NonePast i f front t
    pub past : Past
    pub outside : part_past i f part t ≡ Some past

  found_or_none : (qs : List Part) (t : ℕ) → NonePast i f qs t ⊎ Found qs t
  found_or_none [] t = inl tt
  found_or_none (q ∷ qs) t = go (some_or_none (part_past i f q t)) (found_or_none qs t)
    where
      go : (part_past i f q t ≡ None) ⊎ ((p : Past) × (part_past i f q t ≡ Some p)) → NonePast i f qs t ⊎ Found qs t →
          NonePast i f (q ∷ qs) t ⊎ Found (q ∷ qs) t
      go (inr p) r = inr record { front = []; part = q; rest = qs; split = refl; before = tt; past = p.0; outside = p.1 }
      go (inl e) (inl n) = inl (e, n)
      go (inl e) (inr r) = inr record {
        front = q ∷ r.front;
        part = r.part;
        rest = r.rest;
        split = ap (λ rs. q ∷ rs) r.split;
        before = (e, r.before);
        past = r.past;
        outside = r.outside;
      }

  none_at : (front : List Part) (q : Part) (rest : List Part) (t : ℕ) → NonePast i f (front ++ q ∷ rest) t → part_past i f q t ≡ None
  none_at [] q rest t n = n.0
  none_at (p ∷ front) q rest t n = none_at front q rest t n.1

  not_found : (qs : List Part) (t : ℕ) → NonePast i f qs t → Found qs t → ⊥
  not_found qs t n r =
      none_or_some (part_past i f r.part t) r.past (none_at r.front r.part r.rest t (subst (λ q. NonePast i f q t) r.split n)) r.outside

  decided : (qs : List Part) (t : ℕ) → Found qs t ⊎ (Found qs t → ⊥)
  decided qs t = go (found_or_none qs t)
    where
      go : NonePast i f qs t ⊎ Found qs t → Found qs t ⊎ (Found qs t → ⊥)
      go (inl n) = inr (not_found qs t n)
      go (inr r) = inl r

  none_found : (qs : List Part) (t : ℕ) → (Found qs t → ⊥) → NonePast i f qs t
  none_found qs t h = go (found_or_none qs t)
    where
      go : NonePast i f qs t ⊎ Found qs t → NonePast i f qs t
      go (inl n) = n
      go (inr r) = absurd (h r)

  pub told : (qs : List Part) (n : ℕ) → IsWithin i f qs n ⊎ Told i f qs n
  told qs n = go (least_below (Found qs) (decided qs) n)
    where
      go : ((t : ℕ) × (t < n) × Found qs t × ((u : ℕ) → u < t → Found qs u → ⊥)) ⊎ ((t : ℕ) → t < n → Found qs t → ⊥) →
          IsWithin i f qs n ⊎ Told i f qs n
      go (inr none) = inl (λ t l. none_found qs t (none t l))
      go (inl r) = inr record {
        at = own r.2.part.expression;
        instant = r.0;
        past = r.2.past;
        first = record {
          below = r.1;
          earlier = λ u l. none_found qs u (r.3 u l);
          front = r.2.front;
          part = r.2.part;
          rest = r.2.rest;
          split = r.2.split;
          before = r.2.before;
          place = refl;
          outside = r.2.outside;
        };
      }

  found_of : (qs : List Part) (n : ℕ) (at : Pos) (t : ℕ) (past : Past) → IsFirstPast i f qs n at t past → Found qs t
  found_of qs n at t past a = record {
    front = a.front;
    part = a.part;
    rest = a.rest;
    split = a.split;
    before = a.before;
    past = past;
    outside = a.outside;
  }

  pub never_both : (qs : List Part) (n : ℕ) → IsWithin i f qs n → Told i f qs n → ⊥
  never_both qs n h r =
      not_found qs r.instant (h r.instant r.first.below) (found_of qs n r.at r.instant r.past r.first)

  heads : (q q' : Part) (qs qs' : List Part) → q ∷ qs ≡ q' ∷ qs' → q ≡ q'
  heads q q' qs qs' e = cc

  tails : (q q' : Part) (qs qs' : List Part) → q ∷ qs ≡ q' ∷ qs' → qs ≡ qs'
  tails q q' qs qs' e = cc

  -- two lists that are equal have the same first such part
  one_part : (t : ℕ) (p p' : Past) (front front' : List Part) (q q' : Part) (rest rest' : List Part) →
      front ++ q ∷ rest ≡ front' ++ q' ∷ rest' → NonePast i f front t → NonePast i f front' t →
      part_past i f q t ≡ Some p → part_past i f q' t ≡ Some p' → q ≡ q'
  one_part t p p' [] [] q q' rest rest' e b b' o o' = heads q q' rest rest' e
  one_part t p p' [] (r ∷ front') q q' rest rest' e b b' o o' =
      let h : part_past i f q t ≡ None = subst (λ x. part_past i f x t ≡ None) (sym (heads q r rest (front' ++ q' ∷ rest') e)) b'.0 in
      absurd (none_or_some (part_past i f q t) p h o)
  one_part t p p' (r ∷ front) [] q q' rest rest' e b b' o o' =
      let h : part_past i f q' t ≡ None = subst (λ x. part_past i f x t ≡ None) (heads r q' (front ++ q ∷ rest) rest' e) b.0 in
      absurd (none_or_some (part_past i f q' t) p' h o')
  one_part t p p' (r ∷ front) (r' ∷ front') q q' rest rest' e b b' o o' =
      one_part t p p' front front' q q' rest rest' (tails r r' (front ++ q ∷ rest) (front' ++ q' ∷ rest') e) b.1 b'.1 o o'

  not_later : (qs : List Part) (n : ℕ) (at at' : Pos) (t t' : ℕ) (past past' : Past) → IsFirstPast i f qs n at t past →
      IsFirstPast i f qs n at' t' past' → t < t' → ⊥
  not_later qs n at at' t t' past past' a b l = not_found qs t (b.earlier t l) (found_of qs n at t past a)

  one_instant : (qs : List Part) (n : ℕ) (at at' : Pos) (t t' : ℕ) (past past' : Past) → IsFirstPast i f qs n at t past →
      IsFirstPast i f qs n at' t' past' → t ≡ t'
  one_instant qs n at at' t t' past past' a b = go (cases_order t t')
    where
      go : (t ≡ t') ⊎ ((t < t') ⊎ (t' < t)) → t ≡ t'
      go (inl e) = e
      go (inr (inl l)) = absurd (not_later qs n at at' t t' past past' a b l)
      go (inr (inr l)) = absurd (not_later qs n at' at t' t past' past b a l)

  one_at_instant : (qs : List Part) (n : ℕ) (at at' : Pos) (t : ℕ) (past past' : Past) → IsFirstPast i f qs n at t past →
      IsFirstPast i f qs n at' t past' → (at ≡ at') × (past ≡ past')
  one_at_instant qs n at at' t past past' a b =
      let e : a.part ≡ b.part =
      one_part t past past' a.front b.front a.part b.part a.rest b.rest (sym a.split ∙ b.split) a.before b.before a.outside b.outside in (
        a.place ∙ ap (λ q. own q.expression) e ∙ sym b.place,
        same_past past past' (sym a.outside ∙ ap (λ q. part_past i f q t) e ∙ b.outside),
      )

  pub one_first : (qs : List Part) (n : ℕ) (at at' : Pos) (t t' : ℕ) (past past' : Past) → IsFirstPast i f qs n at t past →
      IsFirstPast i f qs n at' t' past' → (at ≡ at') × (t ≡ t') × (past ≡ past')
  one_first qs n at at' t t' past past' a b =
      let e : t' ≡ t = sym (one_instant qs n at at' t t' past past' a b) in
      let r : (at ≡ at') × (past ≡ past') =
      one_at_instant qs n at at' t past past' a (subst (λ u. IsFirstPast i f qs n at' u past') e b) in
      (r.0, sym e, r.1)

pub within_or_past : WithinOrPast
within_or_past i f qs n = told i f qs n

pub never_told : NeverBoth
never_told i f qs n = never_both i f qs n

pub one_first_past : OneFirstPast
one_first_past i f qs n at at' t t' past past' a b = one_first i f qs n at at' t t' past past' a b
