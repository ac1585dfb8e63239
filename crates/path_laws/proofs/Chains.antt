-- The clocks of a checked declaration come to the base clock: each names a flag of less rank, so the flags of a chain are
-- distinct names, of which there are no more than streams.
use Rattle.std.proofs.Common.{option_map, ◌≡◌, ℕ, zero, suc, ◌<◌, ◌≤◌, ◌+◌, Bool, true, false, cond, ◌||◌, List, [], ◌∷◌, map, length, Option, Some, None, refl, sym, ap, subst, arith, unwrap_or}
use Rattle.std.specs.Prelude.{Contains, find}
use Rattle.std.specs.List.{AllByRecursion}
use Rattle.std.specs.Str.{bytes_eq}
use Rattle.std.proofs.lemmas.Bool.{false≢true}
use Rattle.std.proofs.lemmas.Option.{none-some}
use Rattle.lus_tree.specs.Tree.{Name, Spelled, Variable, Component, Program}
use Rattle.lus_meaning.specs.Scene.{Clock, base, sampled_by, Instance, instance, component_of, clock_from, clock_of, variables}
use Rattle.lus_meaning.specs.Program.{instance_of}
use Rattle.lus_meaning.specs.Depends.{named_in, clock_needs, AllBelow, Rank, IsRanked}
use Rattle.lus_meaning.specs.WellMade.{AreDistinct}
use Rattle.lus_meaning.specs.ClockFaults.{components, name_clock}
use Rattle.lus_meaning.specs.Refusals.{IsChecked}
use Rattle.lus_meaning.proofs.Lists.{all_from, all_from_both}
use Rattle.lus_meaning.proofs.Unique.{same_bytes}
use Rattle.rule_laws.specs.Fitting.{IsStreamOn, IsFlagOn}
use Rattle.rule_laws.specs.Declarations.{StreamFits}
use Rattle.rule_laws.specs.Declarations as declarations
use Rattle.rule_laws.proofs.Items.{declarations_fit}
use Rattle.rule_laws.proofs.Lists.{no_more_names}
use Rattle.rule_laws.proofs.Truths.{same_some}
use Rattle.rule_laws.proofs.Unfolded.{component_within}
use Rattle.clock_laws.specs.Laws.{HasRank}
use Rattle.clock_laws.proofs.RunLaws.{each_has_rank}
use Rattle.sys_meaning.specs.Items.{Key}
use Rattle.sys_meaning.specs.WellTyped.{IsNameOn, ClockEnds, ClockFits}
use Rattle.path_laws.specs.Laws.{ClockChainsEnd}

-- ---- names and clocks

abbrev pub names_of : List Variable → List Name
names_of vs = map (λ v. v.name.text) vs

pub clock_is : (n : Component) (x : Name) (k : Clock) → name_clock n x ≡ Some k → k ≡ clock_of n x
clock_is n x k e = go (find (λ v. bytes_eq x v.name.text) (variables n)) e
  where
    go : (o : Option Variable) → option_map (λ v. clock_from v.clock) o ≡ Some k → k ≡ clock_from (unwrap_or (option_map (λ v. v.clock) o) None)
    go None h = absurd (none-some k h)
    go (Some v) h = sym (same_some h)

found_named : (x : Name) (vs : List Variable) (k : Clock) →
    option_map (λ v. clock_from v.clock) (find (λ v. bytes_eq x v.name.text) vs) ≡ Some k → named_in x (map (λ v. v.name.text) vs) ≡ true
found_named x [] k e = absurd (none-some k e)
found_named x (v ∷ vs) k e = go (bytes_eq x v.name.text) e (found_named x vs k)
  where
    go : (c : Bool) → option_map (λ v. clock_from v.clock) (cond c (Some v) (find (λ v. bytes_eq x v.name.text) vs)) ≡ Some k →
        (option_map (λ v. clock_from v.clock) (find (λ v. bytes_eq x v.name.text) vs) ≡ Some k → named_in x (map (λ v. v.name.text) vs) ≡ true) →
        (c || named_in x (map (λ v. v.name.text) vs)) ≡ true
    go true h r = refl
    go false h r = r h

pub is_declared_name : (n : Component) (x : Name) (k : Clock) → name_clock n x ≡ Some k → named_in x (map (λ v. v.name.text) (variables n)) ≡ true
is_declared_name n x k e = found_named x (variables n) k e

-- what holds of each variable's name holds of a name among them
pub of_named : (P : Name → Type 0) (vs : List Variable) → AllByRecursion (λ v. P v.name.text) vs → (x : Name) →
    named_in x (map (λ v. v.name.text) vs) ≡ true → P x
of_named P [] a x e = absurd (false≢true e)
of_named P (v ∷ vs) a x e = go (bytes_eq x v.name.text) refl e (of_named P vs a.1 x)
  where
    go : (c : Bool) → bytes_eq x v.name.text ≡ c → (c || named_in x (map (λ v. v.name.text) vs)) ≡ true →
        (named_in x (map (λ v. v.name.text) vs) ≡ true → P x) → P x
    go true m h r = subst P (sym (same_bytes x v.name.text m)) a.0
    go false m h r = r h

pub name_on : (i : Instance) (M : Key → Type 0) (c : Clock) (x : Name) (q : _) → IsStreamOn i c q x → IsNameOn i M c x
name_on i M c x q h = record {
  stream = h.stream;
  declared = is_declared_name (component_of i) x c h.clock;
  clock = sym (clock_is (component_of i) x c h.clock);
}

mapped_length : (vs : List Variable) → length (map (λ v. v.name.text) vs) ≡ length vs
mapped_length [] = refl
mapped_length (v ∷ vs) = ap suc (mapped_length vs)

-- ---- chains

module _ (i : Instance) (M : Key → Type 0) (streams : AllByRecursion (StreamFits i) (variables (component_of i))) (rank : Rank)
    (ranked : AllByRecursion (λ v. AllBelow rank (clock_needs (clock_from v.clock)) (rank [] (Some v.name.text))) (variables (component_of i))) where
  abbrev r : Name → ℕ
  r x = rank [] (Some x)

  -- the clock of a name is the base clock, or a flag of less rank says it
  abbrev Step : Name → Clock → Type 0
  Step x base = Unit {0}
  Step x (sampled_by b y) = IsFlagOn i (clock_of (component_of i) y) y × (r y < r x)

  stepped : (x : Name) (o : Option (Bool × Spelled)) → declarations.ClockFits i o → AllBelow rank (clock_needs (clock_from o)) (r x) →
      Step x (clock_from o)
  stepped x None f l = tt
  stepped x (Some c) f l = (f, l.0)

  step_of : (v : Variable) → StreamFits i v → AllBelow rank (clock_needs (clock_from v.clock)) (r v.name.text) →
      Step v.name.text (clock_of (component_of i) v.name.text)
  step_of v s l =
      subst (Step v.name.text) (clock_is (component_of i) v.name.text (clock_from v.clock) s.name.clock)
      (stepped v.name.text v.clock s.clock l)

  steps : AllByRecursion (λ v. Step v.name.text (clock_of (component_of i) v.name.text)) (variables (component_of i))
  steps = all_from_both (StreamFits i) (λ v. AllBelow rank (clock_needs (clock_from v.clock)) (rank [] (Some v.name.text)))
      (λ v. Step v.name.text (clock_of (component_of i) v.name.text)) step_of (variables (component_of i)) streams ranked

  step : (x : Name) → named_in x (map (λ v. v.name.text) (variables (component_of i))) ≡ true → Step x (clock_of (component_of i) x)
  step x e = of_named (λ y. Step y (clock_of (component_of i) y)) (variables (component_of i)) steps x e

  -- a name of less rank than all of a list is not in it
  lower_apart : (x : Name) (ys : List Name) → AllByRecursion (λ y. r x < r y) ys → named_in x ys ≡ false
  lower_apart x [] a = refl
  lower_apart x (y ∷ ys) a = go (bytes_eq x y) refl (lower_apart x ys a.1)
    where
      go : (c : Bool) → bytes_eq x y ≡ c → named_in x ys ≡ false → (c || named_in x ys) ≡ false
      go true m e =
          let l : r x < r y = a.0 in
          let same : r x ≡ r y = ap (λ z. rank [] (Some z)) (same_bytes x y m) in
          absurd (omega (arith, l, same))
      go false m e = e

  abbrev Behind : Name → List Name → Type 0
  Behind x ys = AllByRecursion (λ y. r x < r y) ys

  abbrev Listed : List Name → Type 0
  Listed ys = AllByRecursion (λ y. named_in y (map (λ v. v.name.text) (variables (component_of i))) ≡ true) ys

  chain : (m : ℕ) (b : Bool) (x : Name) (ys : List Name) → m + length ys ≡ length (variables (component_of i)) → AreDistinct ys → Listed ys →
      Behind x ys → IsFlagOn i (clock_of (component_of i) x) x → ClockEnds i M m (sampled_by b x)
  chain zero b x ys e d l h f =
      let here : named_in x (map (λ v. v.name.text) (variables (component_of i))) ≡ true =
      is_declared_name (component_of i) x (clock_of (component_of i) x) f.clock in
      let few : suc (length ys) ≤ length (map (λ v. v.name.text) (variables (component_of i))) =
      no_more_names (x ∷ ys) (map (λ v. v.name.text) (variables (component_of i))) (lower_apart x ys h, d) (here, l) in
      let many : length (map (λ v. v.name.text) (variables (component_of i))) ≡ length (variables (component_of i)) =
      mapped_length (variables (component_of i)) in
      absurd (omega (arith, few, many, e))
  chain (suc m) b x ys e d l h f =
      let here : named_in x (map (λ v. v.name.text) (variables (component_of i))) ≡ true =
      is_declared_name (component_of i) x (clock_of (component_of i) x) f.clock in (
        name_on i M (clock_of (component_of i) x) x _ f,
        f.sort,
        go (clock_of (component_of i) x) (step x here) (λ y. chain m y.0 y.1 (x ∷ ys) (omega (arith, e)) (lower_apart x ys h, d) (here, l)),
      )
    where
      farther : (y : Name) → r y < r x → (zs : List Name) → Behind x zs → Behind y zs
      farther y q zs a = all_from (λ z. r x < r z) (λ z. r y < r z) (λ z w. omega (arith, q, w)) zs a

      go : (c : Clock) → Step x c → ((y : Bool × Name) → Behind y.1 (x ∷ ys) → IsFlagOn i (clock_of (component_of i) y.1) y.1 →
          ClockEnds i M m (sampled_by y.0 y.1)) → ClockEnds i M m c
      go base s next = ends m
        where
          ends : (m : ℕ) → ClockEnds i M m base
          ends zero = tt
          ends (suc m) = tt
      go (sampled_by c y) s next = next (c, y) (s.1, farther y s.1 ys h) s.0

  base_ends : (m : ℕ) → ClockEnds i M m base
  base_ends zero = tt
  base_ends (suc m) = tt

  pub base_fits : ClockFits i M base
  base_fits = base_ends (length (variables (component_of i)))

  -- a clock that a flag says
  pub flag_fits : (b : Bool) (x : Name) → IsFlagOn i (clock_of (component_of i) x) x → ClockFits i M (sampled_by b x)
  flag_fits b x f = chain (length (variables (component_of i))) b x [] (omega arith) tt tt tt f

  -- the clock of a stream
  pub stream_fits : (v : Variable) → StreamFits i v → ClockFits i M (clock_from v.clock)
  stream_fits v s = go v.clock s.clock
    where
      go : (o : Option (Bool × Spelled)) → declarations.ClockFits i o → ClockFits i M (clock_from o)
      go None f = base_fits
      go (Some c) f = flag_fits c.0 c.1.text f

  pub name_fits : (x : Name) → named_in x (map (λ v. v.name.text) (variables (component_of i))) ≡ true → ClockFits i M (clock_of (component_of i) x)
  name_fits x e = go (clock_of (component_of i) x) (step x e)
    where
      go : (c : Clock) → Step x c → ClockFits i M c
      go base s = base_fits
      go (sampled_by b y) s = flag_fits b y s.0

-- ---- the law

ranked_names : (i : Instance) (r : Rank) → IsRanked i r →
    AllByRecursion (λ v. AllBelow r (clock_needs (clock_from v.clock)) (r [] (Some v.name.text))) (variables (component_of i))
ranked_names (instance d cs is) r h = h.1

-- a rank of a checked declaration's names
pub record Ranked (i : Instance) : Type 0 where
  pub rank : Rank
  pub below : AllByRecursion (λ v. AllBelow rank (clock_needs (clock_from v.clock)) (rank [] (Some v.name.text))) (variables (component_of i))

pub ranked_of : (p : Program) → IsChecked p → (n : Component) → Contains (components p) n → Ranked (instance_of p n)
ranked_of p c n j =
    let h : HasRank (instance_of p n) = each_has_rank p c n j in
    record { rank = h.rank; below = ranked_names (instance_of p n) h.rank h.ranked }

pub clock_chains_end : ClockChainsEnd
clock_chains_end p c n j =
    let i : Instance = instance_of p n in
    let w : Ranked i = ranked_of p c n j in
    let streams : AllByRecursion (StreamFits i) (variables (component_of i)) = (declarations_fit p c n j).streams in
    subst (λ m. AllByRecursion (λ v. ClockFits i (λ key. ⊥) (clock_from v.clock)) (variables m)) (component_within _ p n)
    (all_from (StreamFits i) (λ v. ClockFits i (λ key. ⊥) (clock_from v.clock)) (stream_fits i (λ key. ⊥) streams w.rank w.below)
    (variables (component_of i)) streams)
