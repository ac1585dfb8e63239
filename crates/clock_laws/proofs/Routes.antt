-- Whether there is a route from one item to another, by steps of which there are finitely many, is decided.
use Rattle.std.proofs.Common.{◌≡◌, ℕ, zero, suc, ◌<◌, Bool, true, false, ◌&&◌, ◌||◌, List, [], ◌∷◌, ◌++◌, length, refl, subst, arith}
use Rattle.std.specs.List.{AllByRecursion, list_any}
use Rattle.std.proofs.Math.Logic.{◌⊎◌, inl, inr}
use Rattle.std.proofs.lemmas.Bool.{false≢true, cases_Bool}
use Rattle.lus_meaning.proofs.Lists.{or_left, or_true}

both_true : (a b : Bool) → (a && b) ≡ true → (a ≡ true) × (b ≡ true)
both_true true b e = (refl, e)
both_true false b e = absurd (false≢true e)

module _ {A : Type 0} (same : A → A → Bool) (sound : (a b : A) → same a b ≡ true → a ≡ b) (next : A → List A) where
  abbrev pub member : A → List A → Bool
  member a xs = list_any (same a) xs

  abbrev pub step : A → A → Bool
  step a b = member b (next a)

  -- steps from one to another by way of these
  abbrev pub Route : A → List A → A → Type 0
  Route a [] z = step a z ≡ true
  Route a (m ∷ ms) z = (step a m ≡ true) × Route m ms z

  -- whether there is a route by way of these alone
  abbrev pub by_way : List A → A → A → Bool
  by_way [] a z = step a z
  by_way (s ∷ ss) a z = by_way ss a z || (by_way ss a s && by_way ss s z)

  pub joined : (a s z : A) (ms ns : List A) → Route a ms s → Route s ns z → Route a (ms ++ s ∷ ns) z
  joined a s z [] ns r q = (r, q)
  joined a s z (m ∷ ms) ns r q = (r.0, joined m s z ms ns r.1 q)

  pub route_of : (ss : List A) (a z : A) → by_way ss a z ≡ true → (ms : List A) × Route a ms z
  route_of [] a z e = ([], e)
  route_of (s ∷ ss) a z e = go (cases_Bool (by_way ss a z)) (route_of ss a z) (route_of ss a s) (route_of ss s z)
    where
      go : (by_way ss a z ≡ true) ⊎ (by_way ss a z ≡ false) → (by_way ss a z ≡ true → (ms : List A) × Route a ms z) →
          (by_way ss a s ≡ true → (ms : List A) × Route a ms s) → (by_way ss s z ≡ true → (ms : List A) × Route s ms z) → (ms : List A) × Route a ms z
      go (inl t) f g h = f t
      go (inr n) f g h =
          let q : (by_way ss a s ≡ true) × (by_way ss s z ≡ true) = both_true (by_way ss a s) (by_way ss s z)
          (subst (λ c. (c || (by_way ss a s && by_way ss s z)) ≡ true) n e) in
          let x : (ms : List A) × Route a ms s = g q.0 in
          let y : (ms : List A) × Route s ms z = h q.1 in
          (x.0 ++ s ∷ y.0, joined a s z x.0 y.0 x.1 y.1)

  abbrev pub AllIn : List A → List A → Type 0
  AllIn ss ms = AllByRecursion (λ m. member m ss ≡ true) ms

  -- a route up to the first place at which it passes s
  record Passing (s : A) (ss : List A) (a : A) (ms : List A) (z : A) : Type 0 where
    before : List A
    to : Route a before s
    before_in : AllIn ss before
    after : List A
    from : Route s after z
    after_in : AllIn (s ∷ ss) after
    shorter : length after < length ms

  split : (s : A) (ss : List A) (a : A) (ms : List A) (z : A) → Route a ms z → AllIn (s ∷ ss) ms → AllIn ss ms ⊎ Passing s ss a ms z
  split s ss a [] z r i = inl tt
  split s ss a (m ∷ ms) z r i = go (cases_Bool (same m s)) (split s ss m ms z r.1 i.1)
    where
      later : same m s ≡ false → AllIn ss ms ⊎ Passing s ss m ms z → AllIn ss (m ∷ ms) ⊎ Passing s ss a (m ∷ ms) z
      later n (inl h) = inl (subst (λ c. (c || member m ss) ≡ true) n i.0, h)
      later n (inr p) =
          let l : length p.after < length ms = p.shorter in
          inr record {
            before = m ∷ p.before;
            to = (r.0, p.to);
            before_in = (subst (λ c. (c || member m ss) ≡ true) n i.0, p.before_in);
            after = p.after;
            from = p.from;
            after_in = p.after_in;
            shorter = omega arith;
          }

      go : (same m s ≡ true) ⊎ (same m s ≡ false) → AllIn ss ms ⊎ Passing s ss m ms z → AllIn ss (m ∷ ms) ⊎ Passing s ss a (m ∷ ms) z
      go (inl t) q = inr record {
        before = [];
        to = subst (λ x. step a x ≡ true) (sound m s t) r.0;
        before_in = tt;
        after = ms;
        from = subst (λ x. Route x ms z) (sound m s t) r.1;
        after_in = i.1;
        shorter = omega arith;
      }
      go (inr n) q = later n q

  abbrev Finds : List A → Type 0
  Finds ss = (a : A) (ms : List A) (z : A) → Route a ms z → AllIn ss ms → by_way ss a z ≡ true

  -- from s on, a route may leave out its circles through s
  from_there : (s : A) (ss : List A) → Finds ss → (fuel : ℕ) (ms : List A) (z : A) → length ms < fuel → Route s ms z → AllIn (s ∷ ss) ms
      → by_way ss s z ≡ true
  from_there s ss f zero ms z l r i = absurd (omega arith)
  from_there s ss f (suc fuel) ms z l r i = go (split s ss s ms z r i) (from_there s ss f fuel)
    where
      go : AllIn ss ms ⊎ Passing s ss s ms z → ((ns : List A) (z : A) → length ns < fuel → Route s ns z → AllIn (s ∷ ss) ns → by_way ss s z ≡ true)
          → by_way ss s z ≡ true
      go (inl h) g = f s ms z r h
      go (inr p) g = let k : length p.after < length ms = p.shorter in g p.after z (omega arith) p.from p.after_in

  both : (a b : Bool) → a ≡ true → b ≡ true → (a && b) ≡ true
  both a b e h = rw (e, h) refl

  pub found : (ss : List A) → (a : A) (ms : List A) (z : A) → Route a ms z → AllIn ss ms → by_way ss a z ≡ true
  found [] a [] z r i = r
  found [] a (m ∷ ms) z r i = absurd (false≢true i.0)
  found (s ∷ ss) a ms z r i = go (split s ss a ms z r i) (found ss)
    where
      go : AllIn ss ms ⊎ Passing s ss a ms z → Finds ss → by_way (s ∷ ss) a z ≡ true
      go (inl h) f = or_left (by_way ss a z) (by_way ss a s && by_way ss s z) (f a ms z r h)
      go (inr p) f = or_true (by_way ss a z) (by_way ss a s && by_way ss s z) (both (by_way ss a s) (by_way ss s z) (f a p.before s p.to p.before_in)
          (from_there s ss f (suc (length p.after)) p.after z (omega arith) p.from p.after_in))

  -- where all items from which steps lead are listed
  module _ (all : List A) (complete : (a b : A) → step a b ≡ true → member a all ≡ true) where
    by_all : (a m : A) (ms : List A) (z : A) → Route m ms z → AllIn all (m ∷ ms)
    by_all a m [] z r = (complete m z r, tt)
    by_all a m (n ∷ ms) z r = (complete m n r.0, by_all m n ms z r.1)

    pub decided : (a : A) (ms : List A) (z : A) → Route a ms z → by_way all a z ≡ true
    decided a [] z r = found all a [] z r tt
    decided a (m ∷ ms) z r = found all a (m ∷ ms) z r (by_all a m ms z r.1)
