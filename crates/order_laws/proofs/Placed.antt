-- Parts with all that comes before them in turn.
use Rattle.std.proofs.Common.{◌≡◌, ℕ, ◌<◌, true, eqb, List, [], ◌∷◌, ◌++◌, refl, sym, subst}
use Rattle.std.specs.List.{AllByRecursion}
use Rattle.std.proofs.Math.Logic.{◌⊎◌, inl, inr}
use Rattle.std.proofs.lemmas.Bool.{false≢true, eqb-true}
use Rattle.lus_tree.specs.Tree.{Name, Expression, truth, number, name, negation, minus, pre, arrow, binary, choice, sampled, merged, call, condact, mode_name}
use Rattle.lus_meaning.specs.Frame.{Frame}
use Rattle.lus_meaning.specs.Scene.{Clock, while_true, Instance, component_of, is_on}
use Rattle.lus_meaning.specs.Depends.{named_in, left_names, needs, modes_need}
use Rattle.lus_meaning.specs.Cycle.{Place as NeededPlace}
use Rattle.lus_meaning.proofs.Members.{IsIn, in_left, in_right}
use Rattle.lus_meaning.proofs.Lists.{append_none, all_from, both_parts}
use Rattle.sys_meaning.specs.Defaults.{site_of}
use Rattle.sys_meaning.specs.WellTyped.{IsKnown, Stands}
use Rattle.lus_meaning.specs.Program.{listed}
use Rattle.lus_evaluation.specs.Part.{Part, needs_of}
use Rattle.lus_evaluation.specs.Evaluation.{is_above, gives_name}
use Rattle.slot_values.specs.Clocked.{row_by, clock_on}
use Rattle.slot_values.specs.Parts.{operands, setting_at}
use Rattle.evaluation_laws.specs.Rows.{AreCalls, row_at, scene_there, numbers_there}
use Rattle.evaluation_laws.proofs.Waiting.{both_true}
use Rattle.order_laws.specs.Own.{own_setting}
use Rattle.order_laws.specs.Rows.{place_there, standpoint_there}
use Rattle.order_laws.specs.Needed.{IsSide}
use Rattle.order_laws.proofs.Lists.{grouped}
use Rattle.order_laws.proofs.Covers.{Covers, CoversNeeds, covers_itself, covers_both}

pub all_in_self : {A : Type 0} (xs : List A) → AllByRecursion (λ x. IsIn x xs) xs
all_in_self [] = tt
all_in_self {A} (x ∷ xs) = (inl refl, all_from (λ y. IsIn y xs) (λ y. IsIn y (x ∷ xs)) (λ y h. inr h) xs (all_in_self xs))

-- these parts are among those
abbrev pub Among : List Part → List Part → Type 0
Among qs rs = (r : Part) → IsIn r qs → IsIn r rs

in_either : (qs rs : List Part) (r : Part) → IsIn r (qs ++ rs) → IsIn r qs ⊎ IsIn r rs
in_either [] rs r h = inr h
in_either (q ∷ qs) rs r (inl e) = inl (inl e)
in_either (q ∷ qs) rs r (inr h) = go (in_either qs rs r h)
  where
    go : IsIn r qs ⊎ IsIn r rs → IsIn r (q ∷ qs) ⊎ IsIn r rs
    go (inl m) = inl (inr m)
    go (inr m) = inr m

pub among_both : (qs rs zs : List Part) → Among qs zs → Among rs zs → Among (qs ++ rs) zs
among_both qs rs zs a e r h = go (in_either qs rs r h)
  where
    go : IsIn r qs ⊎ IsIn r rs → IsIn r zs
    go (inl m) = a r m
    go (inr m) = e r m

-- a call with that number is one of these parts, in the frame at the end of a way of calls
abbrev pub IsCallOf : ℕ → Expression → Type 0
IsCallOf k (call p l n as_) = l ≡ k
IsCallOf k (condact p l a n as_ ds) = l ≡ k
IsCallOf k _ = ⊥

pub record CallIn (w : List ℕ) (k : ℕ) (b : List Part) : Type 0 where
  pub part : Part
  pub there : IsIn part b
  pub way : part.way ≡ w
  pub call : IsCallOf k part.expression

-- ---- frames on the way

pub above_further : (v w : List ℕ) (k : ℕ) → is_above v (w ++ k ∷ []) ≡ true → (is_above v w ≡ true) ⊎ (v ≡ w ++ k ∷ [])
above_further [] w k h = inl refl
above_further (n ∷ v) [] k h = inr (rw (eqb-true n k (both_true (eqb n k) (is_above v []) h).0, empty v (both_true (eqb n k) (is_above v []) h).1) refl)
  where
    empty : (v : List ℕ) → is_above v [] ≡ true → v ≡ []
    empty [] h = refl
    empty (m ∷ v) h = absurd (false≢true h)
above_further (n ∷ v) (m ∷ w) k h =
    let q : (eqb n m ≡ true) × (is_above v (w ++ k ∷ []) ≡ true) = both_true (eqb n m) (is_above v (w ++ k ∷ [])) h in
    go q.0 (above_further v w k q.1)
  where
    go : eqb n m ≡ true → (is_above v w ≡ true) ⊎ (v ≡ w ++ k ∷ []) → (is_above (n ∷ v) (m ∷ w) ≡ true) ⊎ (n ∷ v ≡ m ∷ w ++ k ∷ [])
    go e (inl l) = inl (rw (e, l) refl)
    go e (inr l) = inr (rw (eqb-true n m e, l) refl)

no_end : (w : List ℕ) (k : ℕ) → [] ≡ w ++ k ∷ [] → ⊥
no_end [] k e = cc
no_end (m ∷ w) k e = cc

pub same_end : (u w : List ℕ) (l k : ℕ) → u ++ l ∷ [] ≡ w ++ k ∷ [] → (u ≡ w) × (l ≡ k)
same_end [] [] l k e = (refl, (cc))
same_end [] (m ∷ w) l k e = absurd (no_end w k (cc))
same_end (n ∷ u) [] l k e = absurd (no_end u l (cc))
same_end (n ∷ u) (m ∷ w) l k e =
    let rest : u ++ l ∷ [] ≡ w ++ k ∷ [] = cc in
    let first : n ≡ m = cc in
    let q : (u ≡ w) × (l ≡ k) = same_end u w l k rest in
    (rw (first, q.0) refl, q.1)

module _ (i : Instance) (f : Frame) (t : ℕ) where
  -- each name that an equation of that frame gives is given by one of these parts
  pub record Giver (v : List ℕ) (x : Name) (b : List Part) : Type 0 where
    pub part : Part
    pub listed : IsIn part b
    pub gives : gives_name v x part ≡ true

  abbrev pub Settled : List ℕ → List Part → Type 0
  Settled v b = (x : Name) → named_in x (left_names (component_of (place_there i f v))) ≡ true → Giver v x b

  -- each frame on the way to the second one is on the way to the first, or its equations are there
  abbrev pub Within : List ℕ → List Part → List ℕ → Type 0
  Within w b u = (v : List ℕ) → is_above v u ≡ true → (is_above v w ≡ true) ⊎ Settled v b

  pub settled_among : (v : List ℕ) (b qs : List Part) → Settled v b → Among b qs → Settled v qs
  settled_among v b qs s m x h =
      let g : Giver v x b = s x h in record { part = g.part; listed = m g.part g.listed; gives = g.gives }

  settled_more : (v : List ℕ) (b xs : List Part) → Settled v b → Settled v (b ++ xs)
  settled_more v b xs s x h =
      let g : Giver v x b = s x h in record { part = g.part; listed = in_left g.part b xs g.listed; gives = g.gives }

  pub within_more : (w : List ℕ) (b xs : List Part) (u : List ℕ) → Within w b u → Within w (b ++ xs) u
  within_more w b xs u h v a = go (h v a)
    where
      go : (is_above v w ≡ true) ⊎ Settled v b → (is_above v w ≡ true) ⊎ Settled v (b ++ xs)
      go (inl e) = inl e
      go (inr s) = inr (settled_more v b xs s)

  pub within_itself : (w : List ℕ) (b : List Part) → Within w b w
  within_itself w b v a = inl a

  -- one of these parts, whose whole needs no name but what these needs need
  pub record OwnIn (w : List ℕ) (b qs : List Part) (ns : List NeededPlace) (r : Part) : Type 0 where
    pub there : IsIn r qs
    pub needs : Covers i ns r.needs
    pub within : Within w b r.way

  -- ---- own parts

  pub own_wider : (w : List ℕ) (b qs rs os : List Part) (ns : List NeededPlace) → ((r : Part) → IsIn r qs → IsIn r rs) →
      AllByRecursion (OwnIn w b qs ns) os → AllByRecursion (OwnIn w b rs ns) os
  own_wider w b qs rs os ns h a =
      all_from (OwnIn w b qs ns) (OwnIn w b rs ns) (λ r o. record { there = h r o.there; needs = o.needs; within = o.within }) os a

  pub own_later : (w : List ℕ) (b xs qs os : List Part) (ns : List NeededPlace) →
      AllByRecursion (OwnIn w b qs ns) os → AllByRecursion (OwnIn w (b ++ xs) qs ns) os
  own_later w b xs qs os ns a =
      all_from (OwnIn w b qs ns) (OwnIn w (b ++ xs) qs ns)
      (λ r o. record { there = o.there; needs = o.needs; within = within_more w b xs r.way o.within }) os a

  pub own_covered : (w : List ℕ) (b qs os : List Part) (ns ms : List NeededPlace) → Covers i ns ms →
      AllByRecursion (OwnIn w b qs ms) os → AllByRecursion (OwnIn w b qs ns) os
  own_covered w b qs os ns ms h a =
      all_from (OwnIn w b qs ms) (OwnIn w b qs ns)
      (λ r o. record { there = o.there; needs = covers_both i ns ms r.needs h o.needs; within = o.within }) os a

  pub own_two : (w : List ℕ) (b qs rs os us : List Part) (ns : List NeededPlace) → AllByRecursion (OwnIn w b qs ns) os →
      AllByRecursion (OwnIn w b rs ns) us → AllByRecursion (OwnIn w b (qs ++ rs) ns) (os ++ us)
  own_two w b qs rs os us ns a h =
      both_parts (OwnIn w b (qs ++ rs) ns) os us (own_wider w b qs (qs ++ rs) os ns (λ r k. in_left r qs rs k) a)
      (own_wider w b rs (qs ++ rs) us ns (λ r k. in_right r qs rs k) h)

  pub own_end : (w : List ℕ) (b qs os : List Part) (q : Part) → q.way ≡ w → AllByRecursion (OwnIn w b qs q.needs) os →
      AllByRecursion (OwnIn w b (qs ++ q ∷ []) q.needs) (os ++ q ∷ [])
  own_end w b qs os q e a =
      own_two w b qs (q ∷ []) os (q ∷ []) q.needs a
      (record { there = inl refl; needs = covers_itself i q.needs; within = subst (λ v. Within w b v) (sym e) (within_itself w b) }, tt)

  -- an expression, at its place, is one of these parts
  pub record PartIn (w : List ℕ) (b : List Part) (c : Clock) (a : Expression) : Type 0 where
    pub part : Part
    pub there : IsIn part b
    pub way : part.way ≡ w
    pub clock : part.clock ≡ c
    pub expression : part.expression ≡ a

  -- an expression that is a whole, at its place, is one of these parts
  pub record WholeIn (w : List ℕ) (b : List Part) (c : Clock) (a : Expression) : Type 0 where
    pub part : Part
    pub there : IsIn part b
    pub way : part.way ≡ w
    pub clock : part.clock ≡ c
    pub expression : part.expression ≡ a
    pub needs : part.needs ≡ needs_of (own_setting (place_there i f w) w []) c a

  abbrev pub WholesIn : List ℕ → List Part → Clock → List Expression → Type 0
  WholesIn w b c as_ = AllByRecursion (WholeIn w b c) as_

  -- what a call is given is among these parts: its arguments, and the condition while which it runs
  pub record GivenTo (w : List ℕ) (k : ℕ) (b : List Part) : Type 0 where
    pub arguments : WholesIn w b (site_of (place_there i f w) k).clock (site_of (place_there i f w) k).arguments
    pub condition : (a : Expression) → (site_of (place_there i f w) k).manner ≡ while_true a → WholeIn w b (site_of (place_there i f w) k).clock a

  whole_among : (w : List ℕ) (b qs : List Part) (c : Clock) (a : Expression) → Among b qs → WholeIn w b c a → WholeIn w qs c a
  whole_among w b qs c a m r = record {
    part = r.part;
    there = m r.part r.there;
    way = r.way;
    clock = r.clock;
    expression = r.expression;
    needs = r.needs;
  }

  pub given_among : (w : List ℕ) (k : ℕ) (b qs : List Part) → Among b qs → GivenTo w k b → GivenTo w k qs
  given_among w k b qs m g = record {
    arguments = all_from (WholeIn w b (site_of (place_there i f w) k).clock) (WholeIn w qs (site_of (place_there i f w) k).clock)
        (λ a r. whole_among w b qs (site_of (place_there i f w) k).clock a m r) (site_of (place_there i f w) k).arguments g.arguments;
    condition = λ a e. whole_among w b qs (site_of (place_there i f w) k).clock a m (g.condition a e);
  }

  -- each call on the way to a frame has been given that
  abbrev pub Given : List ℕ → List Part → Type 0
  Given w b = (u : List ℕ) (k : ℕ) → is_above (u ++ k ∷ []) w ≡ true → GivenTo u k b

  pub given_more : (w : List ℕ) (b xs : List Part) → Given w b → Given w (b ++ xs)
  given_more w b xs g u k a = given_among u k b (b ++ xs) (λ r m. in_left r b xs m) (g u k a)

  pub given_below : (w : List ℕ) (k : ℕ) (b : List Part) → Given w b → GivenTo w k b → Given (w ++ k ∷ []) b
  given_below w k b g h u l a = go (above_further (u ++ l ∷ []) w k a)
    where
      go : (is_above (u ++ l ∷ []) w ≡ true) ⊎ (u ++ l ∷ [] ≡ w ++ k ∷ []) → GivenTo u l b
      go (inl m) = g u l m
      go (inr e) =
          let q : (u ≡ w) × (l ≡ k) = same_end u w l k e in
          subst (λ z. GivenTo z l b) (sym q.0) (subst (λ z. GivenTo w z b) (sym q.1) h)

  pub given_top : (b : List Part) → Given [] b
  given_top b u k a = absurd (never u a)
    where
      never : (u : List ℕ) → is_above (u ++ k ∷ []) [] ≡ true → ⊥
      never [] h = false≢true h
      never (m ∷ u) h = false≢true h

  -- the clock and the arguments of a call, by its number
  abbrev pub IsSiteOf : List ℕ → ℕ → Clock → List Expression → Type 0
  IsSiteOf w k c as_ = ((site_of (place_there i f w) k).clock ≡ c) × ((site_of (place_there i f w) k).arguments ≡ as_) × (0 < k)

  -- where a part is a call, what it is given is among these parts, and the frame that is called is settled; where it is a `pre`, the operand is one of them
  abbrev pub CalledIn : List ℕ → List Part → Clock → Expression → Type 0
  CalledIn w b c (call p k n as_) = Settled (w ++ k ∷ []) b × WholesIn w b c (listed as_) × IsSiteOf w k c (listed as_) × GivenTo w k b
  CalledIn w b c (condact p k a n as_ ds) = Settled (w ++ k ∷ []) b × WholesIn w b c (listed as_) × IsSiteOf w k c (listed as_) × GivenTo w k b
  CalledIn w b c (pre p k a) = PartIn w b c a
  CalledIn w b c _ = Unit {0}

  within_below : (w : List ℕ) (k : ℕ) (b : List Part) → Within [] b w → Settled (w ++ k ∷ []) b → Within [] b (w ++ k ∷ [])
  within_below w k b g s v a = go (above_further v w k a)
    where
      go : (is_above v w ≡ true) ⊎ (v ≡ w ++ k ∷ []) → (is_above v [] ≡ true) ⊎ Settled v b
      go (inl h) = g v h
      go (inr e) = inr (subst (λ z. Settled z b) (sym e) s)

  -- ---- among all parts

  module _ (every : List Part) where
    -- A part that stands behind these ones: it has its types and its clock, and its own operands are among them; so are those of the frame that it calls,
    -- if it is a call, and the operand of a `pre`. The equations of each frame on its way are among all, and what the calls on its way are given is among them.
    -- Its whole needs each name that it needs itself.
    pub record Placed (b : List Part) (q : Part) : Type 0 where
      pub calls : AreCalls i q.way
      pub stands : Stands (place_there i f q.way) (IsKnown (place_there i f q.way)) q.clock q.expression
      pub clock : clock_on (row_by (numbers_there i q.way) (row_at i f t)) q.clock ≡ is_on (scene_there i f q.way) q.clock t
      pub gives : (x : Name) → named_in x q.gives ≡ true → IsSide (place_there i f q.way) q.gives q.clock q.expression
      pub operands : AllByRecursion (OwnIn q.way b b q.needs)
          (operands (setting_at (standpoint_there i f t q.way)) q.needs q.clock q.expression)
      pub called : CalledIn q.way b q.clock q.expression
      pub inside : Within [] every q.way
      pub given : Given q.way b
      pub covers : CoversNeeds i q.way q.needs (needs (place_there i f q.way) (modes_need (place_there i f q.way)) q.clock q.expression)

    abbrev pub EachPlaced : List Part → List Part → Type 0
    EachPlaced b [] = Unit {0}
    EachPlaced b (q ∷ qs) = Placed b q × EachPlaced (b ++ q ∷ []) qs

    placed_both : (b xs ys : List Part) → EachPlaced b xs → EachPlaced (b ++ xs) ys → EachPlaced b (xs ++ ys)
    placed_both b [] ys a h = subst (λ z. EachPlaced z ys) (append_none b) h
    placed_both b (x ∷ xs) ys a h =
        (a.0, placed_both (b ++ x ∷ []) xs ys a.1 (subst (λ z. EachPlaced z ys) (sym (grouped b (x ∷ []) xs)) h))

    -- a part of a list, behind those before it
    pub placed_in : (b qs : List Part) (r : Part) → EachPlaced b qs → IsIn r qs → (z : List Part) × Among z (b ++ qs) × Placed z r
    placed_in b [] r a h = absurd h
    placed_in b (q ∷ qs) r a (inl e) = (b, (λ y m. in_left y b (q ∷ qs) m), subst (Placed b) (sym e) a.0)
    placed_in b (q ∷ qs) r a (inr h) =
        let z : (z : List Part) × Among z ((b ++ q ∷ []) ++ qs) × Placed z r = placed_in (b ++ q ∷ []) qs r a.1 h in
        (z.0, (λ y m. subst (IsIn y) (grouped b (q ∷ []) qs) (z.1 y m)), z.2)

    by_form : (w : List ℕ) (k : ℕ) (b : List Part) (c : Clock) (e : Expression) → IsCallOf k e → CalledIn w b c e → GivenTo w k b
    by_form w k b c (call p l n as_) h s = subst (λ z. GivenTo w z b) h s.3
    by_form w k b c (condact p l a n as_ ds) h s = subst (λ z. GivenTo w z b) h s.3
    by_form w k b c (truth p a) h s = absurd h
    by_form w k b c (number p a) h s = absurd h
    by_form w k b c (name p a) h s = absurd h
    by_form w k b c (negation p a) h s = absurd h
    by_form w k b c (minus p a) h s = absurd h
    by_form w k b c (pre p l a) h s = absurd h
    by_form w k b c (arrow p l a d) h s = absurd h
    by_form w k b c (binary p o a d) h s = absurd h
    by_form w k b c (choice p a d e) h s = absurd h
    by_form w k b c (sampled p a q x) h s = absurd h
    by_form w k b c (merged p x a d) h s = absurd h
    by_form w k b c (mode_name p d m) h s = absurd h

    -- a call among these parts has been given what it is given
    pub call_given : (w : List ℕ) (k : ℕ) (b qs : List Part) → EachPlaced b qs → CallIn w k qs → GivenTo w k (b ++ qs)
    call_given w k b qs a y =
        let z : (z : List Part) × Among z (b ++ qs) × Placed z y.part = placed_in b qs y.part a y.there in
        given_among w k z.0 (b ++ qs) z.1
        (subst (λ v. GivenTo v k z.0) y.way (by_form y.part.way k z.0 y.part.clock y.part.expression y.call z.2.called))

    -- What is to be said of a frame behind these parts, if they are among all, each frame on the way is settled there, and the calls on the way have been given
    -- what they are given.
    abbrev pub Behind : List ℕ → List Part → Type 0 → Type 0
    Behind w b X = Within [] every w → Given w b → Among b every → X

    -- parts of a frame, behind these ones
    abbrev pub EachLaid : List ℕ → List Part → List Part → Type 0
    EachLaid w b qs = Within [] every w → Given w b → Among b every → Among qs every → EachPlaced b qs

    pub laid_both : (w : List ℕ) (b xs ys : List Part) → EachLaid w b xs → EachLaid w (b ++ xs) ys → EachLaid w b (xs ++ ys)
    laid_both w b xs ys a e g v hb hq =
        placed_both b xs ys (a g v hb (λ r m. hq r (in_left r xs ys m)))
        (e g (given_more w b xs v) (among_both b xs every hb (λ r m. hq r (in_left r xs ys m))) (λ r m. hq r (in_right r xs ys m)))

    pub laid_below : (w : List ℕ) (k : ℕ) (b qs : List Part) → (Among b every → Among qs every → Settled (w ++ k ∷ []) every) →
        Behind w b (GivenTo w k b) → EachLaid (w ++ k ∷ []) b qs → EachLaid w b qs
    laid_below w k b qs s z a g v hb hq = a (within_below w k every g (s hb hq)) (given_below w k b v (z g v hb)) hb hq

    -- what is evaluated in a frame that is called
    pub record Bodied (w : List ℕ) (qs : List Part) : Type 0 where
      pub laid : (b : List Part) → EachLaid w b qs
      pub settled : (b : List Part) → AllByRecursion (λ r. IsIn r b) qs → Settled w b

    pub body_below : (w : List ℕ) (k : ℕ) (b qs : List Part) → Bodied (w ++ k ∷ []) qs → Behind w b (GivenTo w k b) → EachLaid w b qs
    body_below w k b qs a z =
        laid_below w k b qs (λ hb hq. a.settled every (all_from (λ r. IsIn r qs) (λ r. IsIn r every) (λ r m. hq r m) qs (all_in_self qs))) z (a.laid b)
