-- Ways through the frame of a call: they go on in the callee's instance, until they come back to the caller.
use Rattle.std.proofs.Common.{◌≡◌, ℕ, zero, suc, ◌<◌, ◌≤◌, Bool, true, false, List, [], ◌∷◌, ◌++◌, map, refl, sym, ap, subst, arith, Option, Some, None, unwrap_or}
use Rattle.std.proofs.Math.Logic.{◌⊎◌, inl, inr}
use Rattle.std.proofs.lemmas.Bool.{false≢true}
use Rattle.lus_tree.specs.Tree.{Name}
use Rattle.lus_meaning.specs.Scene.{Site, Instance, Instances, instance, no_instances, with_instance, instance_at, calls_of}
use Rattle.lus_meaning.specs.Depends.{Need, the_beat, a_name, inside, named_in}
use Rattle.lus_meaning.specs.Cycle.{Place, place_of, deeper, at_top, caller_needs, next_places, next_in_call}
use Rattle.lus_meaning.proofs.Members.{IsIn, in_left, in_right, in_mapped}
use Rattle.clock_laws.proofs.Reaching.{in_either, in_image}
use Rattle.rule_laws.specs.Laws.{site_at}
use Rattle.way_laws.specs.Summaries.{Needs, HoldsOf}
use Rattle.way_laws.proofs.Steps.{top, Steps, joined, Comes, come_needs, Earlier, GoesBy, no_beat, beat_by}

-- a call with the number j, counted from 0, and its instance
pub record CallAt (i : Instance) (j : ℕ) (c : Site) (k : Instance) : Type 0 where
  pub next : (ks : List ℕ) (x : Option Name) → next_places i (j ∷ ks) x ≡ map place_of (at_top ks (caller_needs i c k x)) ++ map (deeper j) (next_places k ks x)

next_there : (i : Instance) (is : Instances) (j0 j : ℕ) (c : Site) → site_at is j ≡ Some c → (ks : List ℕ) (x : Option Name)
    → next_in_call i is j0 j ks x ≡ map place_of (at_top ks (caller_needs i c (instance_at is j) x)) ++ map (deeper j0) (next_places (instance_at is j) ks x)
next_there i no_instances j0 j c e ks x = absurd (false≢true (ap is_there e))
  where
    is_there : Option Site → Bool
    is_there None = false
    is_there (Some d) = true
next_there i (with_instance d k is) j0 zero c e ks x =
    ap (λ b. map place_of (at_top ks (caller_needs i b k x)) ++ map (deeper j0) (next_places k ks x)) (ap (λ o. unwrap_or o d) e)
next_there i (with_instance d k is) j0 (suc j) c e ks x = next_there i is j0 j c e ks x

pub call_at : (i : Instance) (j : ℕ) (c : Site) → site_at (calls_of i) j ≡ Some c → CallAt i j c (instance_at (calls_of i) j)
call_at (instance d cs is) j c e = record { next = λ ks x. next_there (instance d cs is) is j j c e ks x }

-- where a way leaves the frame of a call
pub record Crossed (i : Instance) (c : Site) (k : Instance) (p : Place) (n : ℕ) (y : Name) : Type 0 where
  pub leaves : Option Name
  pub inner : ℕ
  pub within : Steps k inner p ([], leaves)
  pub need : Need
  pub needed : IsIn need (caller_needs i c k leaves)
  pub outer : ℕ
  pub fewer : outer < n
  pub way : Steps i outer (place_of need) (top y)

abbrev is_top : Place → Bool
is_top ([], x) = true
is_top (j ∷ ks, x) = false

module _ (i : Instance) (j : ℕ) (c : Site) (k : Instance) (a : CallAt i j c k) where
  exit : (ks : List ℕ) (x : Option Name) (q : Place) (n : ℕ) (y : Name) → IsIn q (map place_of (at_top ks (caller_needs i c k x)))
      → Steps i n q (top y) → Crossed i c k (ks, x) (suc n) y
  exit [] x q n y h s =
      let r : (m : Need) × IsIn m (caller_needs i c k x) × (q ≡ place_of m) = in_image place_of q (caller_needs i c k x) h in
      record {
        leaves = x;
        inner = 0;
        within = refl;
        need = r.0;
        needed = r.1;
        outer = n;
        fewer = omega arith;
        way = subst (λ p. Steps i n p (top y)) r.2 s;
      }
  exit (l ∷ ks) x q n y h s = absurd h

  pub cross : (n : ℕ) (p : Place) (y : Name) → Steps i n (deeper j p) (top y) → Crossed i c k p n y
  cross zero p y s = absurd (false≢true (ap is_top s))
  cross (suc n) p y s = go (in_either s.0 (map place_of (at_top p.0 (caller_needs i c k p.1))) (map (deeper j) (next_places k p.0 p.1))
      (subst (IsIn s.0) (a.next p.0 p.1) s.1)) (cross n)
    where
      go : IsIn s.0 (map place_of (at_top p.0 (caller_needs i c k p.1))) ⊎ IsIn s.0 (map (deeper j) (next_places k p.0 p.1))
          → ((q : Place) (y : Name) → Steps i n (deeper j q) (top y) → Crossed i c k q n y) → Crossed i c k p (suc n) y
      go (inl h) f = exit p.0 p.1 s.0 n y h s.2
      go (inr h) f =
          let r : (q : Place) × IsIn q (next_places k p.0 p.1) × (s.0 ≡ deeper j q) = in_image (deeper j) s.0 (next_places k p.0 p.1) h in
          let b : Crossed i c k r.0 n y = f r.0 y (subst (λ q. Steps i n q (top y)) r.2 s.2) in
          let l : b.outer < n = b.fewer in
          record {
            leaves = b.leaves;
            inner = suc b.inner;
            within = (r.0, r.1, b.within);
            need = b.need;
            needed = b.needed;
            outer = b.outer;
            fewer = omega arith;
            way = b.way;
          }

  pub enter : (n : ℕ) (p z : Place) → Steps k n p z → Steps i n (deeper j p) (deeper j z)
  enter zero p z s = ap (deeper j) s
  enter (suc n) p z s = (
    deeper j s.0,
    subst (IsIn (deeper j s.0)) (sym (a.next p.0 p.1)) (in_right (deeper j s.0) (map place_of (at_top p.0 (caller_needs i c k p.1)))
        (map (deeper j) (next_places k p.0 p.1)) (in_mapped (deeper j) s.0 (next_places k p.0 p.1) s.1)),
    enter n s.0 z s.2,
  )

  leave : (x : Option Name) (q : Need) → IsIn q (caller_needs i c k x) → IsIn (place_of q) (next_places i (j ∷ []) x)
  leave x q h = subst (IsIn (place_of q)) (sym (a.next [] x)) (in_left (place_of q) (map place_of (caller_needs i c k x))
      (map (deeper j) (next_places k [] x)) (in_mapped place_of q (caller_needs i c k x) h))

  -- a way in the callee to a place of its top, and on from there in the caller
  pub passes : (ns : List Need) (q : Need) → IsIn q ns → (n : ℕ) (ks : List ℕ) (w : Name) → q ≡ a_name ks w → (x : Option Name) → Steps k n (place_of q) ([], x)
      → (m : Need) → IsIn m (caller_needs i c k x) → (z : Name) (b : ℕ) → Steps i b (place_of m) (top z) → Comes i (map (inside j) ns) z
  passes ns q h n ks w e x s m d z b t =
      let there : Steps i n (j ∷ ks, Some w) (j ∷ [], x) = enter n (ks, Some w) ([], x) (subst (λ r. Steps k n (place_of r) ([], x)) e s) in
      let r : (l : ℕ) × Steps i l (j ∷ ks, Some w) (top z) = joined i n (suc b) (j ∷ ks, Some w) (j ∷ [], x) (top z) there (place_of m, leave x m d, t) in
      record {
        start = a_name (j ∷ ks) w;
        starts = in_mapped (inside j) (a_name ks w) ns (subst (λ r. IsIn r ns) e h);
        steps = r.0;
        way = r.1;
      }

  -- from what the callee's needs come to
  pub comes_back : (ns : List Need) (x : Name) → Comes k ns x → (m : Need) → IsIn m (caller_needs i c k (Some x)) → (z : Name) (b : ℕ)
      → Steps i b (place_of m) (top z) → Comes i (map (inside j) ns) z
  comes_back ns x w m d z b t = go w.start refl w.way
    where
      go : (q : Need) → w.start ≡ q → Steps k w.steps (place_of w.start) (top x) → Comes i (map (inside j) ns) z
      go the_beat e s = absurd (no_beat k w.steps x (subst (λ r. Steps k w.steps (place_of r) (top x)) e s))
      go (a_name ks y) e s = passes ns w.start w.starts w.steps ks y e (Some x) s m d z b t

  -- every way from the callee's needs goes by these names of the caller, where those from what the callee reads do
  pub goes_back : (given ys zs : List Name) (ns : List Need) → HoldsOf given ys (Needs k ns)
      → ((q : Need) → IsIn q (caller_needs i c k None) → GoesBy i (place_of q) zs)
      → ((x : Name) (q : Need) → IsIn q (caller_needs i c k (Some x)) → named_in x given ≡ true)
      → ((x : Name) (q : Need) → named_in x ys ≡ true → IsIn q (caller_needs i c k (Some x)) → GoesBy i (place_of q) zs)
      → (q : Need) → IsIn q ns → GoesBy i (place_of (inside j q)) zs
  goes_back given ys zs ns holds beat in_given names the_beat h n y s = beat_by i zs n y s
  goes_back given ys zs ns holds beat in_given names (a_name ks w) h n y s = go b.leaves b.within b.needed
    where
      b : Crossed i c k (ks, Some w) n y
      b = cross n (ks, Some w) y s

      less : {u : List Name} → Earlier i u b.outer y → Earlier i u n y
      less e =
          let l : b.outer < n = b.fewer in
          let f : e.steps ≤ b.outer = e.fewer in
          record { name = e.name; among = e.among; steps = e.steps; fewer = omega arith; way = e.way }

      go : (x : Option Name) → Steps k b.inner (ks, Some w) ([], x) → IsIn b.need (caller_needs i c k x) → Earlier i zs n y
      go None t d = less (beat b.need d b.outer y b.way)
      go (Some x) t d =
          let read : named_in x ys ≡ true = (holds x (in_given x b.need d)).1
          (come_needs k ns x record { start = a_name ks w; starts = h; steps = b.inner; way = t }) in
          less (names x b.need read d b.outer y b.way)
