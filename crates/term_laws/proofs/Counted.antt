-- The terms of a checked declaration's system have the levels and parts that are counted.
use Rattle.std.proofs.Common.{◌≡◌, ℕ, zero, suc, ◌<◌, ◌≤◌, Bool, true, false, ◌||◌, List, [], ◌∷◌, ◌++◌, map, flat_map, length, refl, sym, ap, ◌∙◌, subst, arith}
use Rattle.std.specs.Prelude.{Contains, nat_lt}
use Rattle.std.specs.List.{AllByRecursion, list_any}
use Rattle.std.proofs.lemmas.Bool.{false≢true}
use Rattle.lus_tree.specs.declared.place.Sort.TheVariants.{Bool as Flags}
use Rattle.lus_tree.specs.Tree.{Name, Expression, Statement, equation, assertion, property, main_mark, Component, declared_constant, declared_node, declared_contract, Declaration}
use Rattle.lus_meaning.specs.Value.{Value}
use Rattle.lus_meaning.specs.Scene.{base, Manner, plain, while_true, as_import, Site, Instance, Instances, instance, no_instances, with_instance, component_of}
use Rattle.lus_meaning.specs.Program.{instance_of}
use Rattle.lus_meaning.specs.Run.{equations, inputs_of, sort_of}
use Rattle.lus_meaning.specs.Depends.{named_in, left_names}
use Rattle.lus_meaning.specs.ClockFaults.{components}
use Rattle.lus_meaning.specs.Sizes.{Size, leaf, one, two, ModeSizes, size_in, ContractSizes, contract_sizes, some_of, frame_sizes, property_sizes, owed_sizes, owed_by_sites, term_sizes}
use Rattle.lus_meaning.proofs.Lists.{both_parts, named_append}
use Rattle.lus_meaning.proofs.NamesOnce.{at_one}
use Rattle.lus_meaning.proofs.Now.{left_part, right_part}
use Rattle.rule_laws.specs.Laws.{IsUnfolded}
use Rattle.rule_laws.proofs.Covered.{all_contained}
use Rattle.rule_laws.proofs.Unfolded.{component_within, each_unfolded}
use Rattle.sys_terms.specs.View.{Formula, flag, negation, both}
use Rattle.sys_terms.specs.Fits.{levels, parts}
use Rattle.sys_meaning.specs.Slot.{Place, beat, own, in_call}
use Rattle.sys_meaning.specs.Items.{ModeItem}
use Rattle.sys_meaning.specs.Part as part
use Rattle.sys_meaning.specs.Translate.{Stage, flag_at, formula}
use Rattle.sys_meaning.specs.System.{Written, contract_of, assumed, stage, below_call, equation_sources, here_of, first_of, next_of, asserts_in, legal_of, body_properties, one_mode, owed_by_site, owed_by_calls, properties_of, number_of, system_of}
use Rattle.sys_meaning.specs.Law.{TreeDistinct}
use Rattle.sys_meaning.specs.WellTyped.{IsKnown, checked, Stands, TreeFits, CallsFit}
use Rattle.path_laws.proofs.Main.{each_is_well_typed}
use Rattle.term_laws.specs.Laws.{terms_of, IsCounted, SizesAreCounted, SmallTerms}
use Rattle.term_laws.proofs.ContractSizes.{written_size, sizes_asked, HasSize, EnsuresHave, SizedItems, contract_sized}
use Rattle.term_laws.proofs.FrameSizes.{Sizes, truth_size}
use Rattle.term_laws.proofs.ImportSizes.{IsWithin, itself, then, has_levels, has_parts}
use Rattle.term_laws.proofs.Lights.{LightTree, LightCalls, light_tree}
use Rattle.term_laws.proofs.Sized.{formula_size, some_of_size}
use Rattle.term_laws.proofs.Small.{within, no_constant, no_contract, same_node, all_limits}
use Rattle.term_laws.proofs.TreeSizes.{IsSplit, equations_named, here_up, first_up, next_up, asserts_in_up, frame_back, head_of}

-- ---- lists of formulas and their sizes

module _ (P : Size → Type 0) where
  at_place_up : (at : Place → ℕ) (fs : List Written) (ss : List Size) → map (written_size at) fs ≡ ss → AllByRecursion P ss → Sizes P (map (λ f. f at) fs)
  at_place_up at fs ss e a = each fs (subst (AllByRecursion P) (sym e) a)
    where
      each : (gs : List Written) → AllByRecursion P (map (written_size at) gs) → Sizes P (map (λ f. f at) gs)
      each [] b = tt
      each (g ∷ gs) b = (b.0, each gs b.1)

  at_place_back : (at : Place → ℕ) (fs : List Written) (ss : List Size) → map (written_size at) fs ≡ ss → Sizes P (map (λ f. f at) fs) → AllByRecursion P ss
  at_place_back at fs ss e a = subst (AllByRecursion P) e (each fs a)
    where
      each : (gs : List Written) → Sizes P (map (λ f. f at) gs) → AllByRecursion P (map (written_size at) gs)
      each [] b = tt
      each (g ∷ gs) b = (b.0, each gs b.1)

  here_have : (at : Place → ℕ) (fs : List Written) → AllByRecursion (HasSize P at) fs → Sizes P (map (λ f. f at) fs)
  here_have at [] a = tt
  here_have at (f ∷ fs) a = (a.0, here_have at fs a.1)

  have_here : (at : Place → ℕ) (fs : List Written) → Sizes P (map (λ f. f at) fs) → AllByRecursion (HasSize P at) fs
  have_here at [] a = tt
  have_here at (f ∷ fs) a = (a.0, have_here at fs a.1)

  ensures_up : (at : Place → ℕ) (ms : List (ModeItem Written)) → EnsuresHave P at ms → Sizes P (flat_map (λ m. map (λ f. f at) m.ensures_each) ms)
  ensures_up at [] a = tt
  ensures_up at (m ∷ ms) a = both_parts (λ f. P (formula_size f)) (map (λ f. f at) m.ensures_each) _ (here_have at m.ensures_each a.0) (ensures_up at ms a.1)

  ensures_back : (at : Place → ℕ) (ms : List (ModeItem Written)) → Sizes P (flat_map (λ m. map (λ f. f at) m.ensures_each) ms) → EnsuresHave P at ms
  ensures_back at [] a = tt
  ensures_back at (m ∷ ms) a = (
    have_here at m.ensures_each (left_part (λ f. P (formula_size f)) (map (λ f. f at) m.ensures_each) _ a),
    ensures_back at ms (right_part (λ f. P (formula_size f)) (map (λ f. f at) m.ensures_each) _ a),
  )

  -- ---- one mode

  asked_sizes : (at : Place → ℕ) (ms : List (ModeItem Written)) → map formula_size (map (λ m. m.asked at) ms) ≡ map (λ m. m.1) (sizes_asked at ms)
  asked_sizes at [] = refl
  asked_sizes at (m ∷ ms) = ap (λ l. formula_size (m.asked at) ∷ l) (asked_sizes at ms)

  some_asked : (at : Place → ℕ) (ms : List (ModeItem Written)) (qs : ModeSizes) → sizes_asked at ms ≡ qs →
      formula_size (part.some_of (map (λ m. m.asked at) ms)) ≡ some_of (map (λ m. m.1) qs)
  some_asked at ms qs e = some_of_size (map (λ m. m.asked at) ms) ∙ ap some_of (asked_sizes at ms ∙ ap (map (λ m. m.1)) e)

  one_mode_up : (at : Place → ℕ) (ms : List (ModeItem Written)) (qs : ModeSizes) → sizes_asked at ms ≡ qs → P (some_of (map (λ m. m.1) qs)) →
      Sizes P (one_mode ms at)
  one_mode_up at [] qs e a = tt
  one_mode_up at (m ∷ ms) qs e a = (subst P (sym (some_asked at (m ∷ ms) qs e)) a, tt)

  one_mode_back : (at : Place → ℕ) (ms : List (ModeItem Written)) (qs : ModeSizes) → sizes_asked at ms ≡ qs → P leaf → Sizes P (one_mode ms at) →
      P (some_of (map (λ m. m.1) qs))
  one_mode_back at [] qs e z a = subst (λ l. P (some_of (map (λ m. m.1) l))) e z
  one_mode_back at (m ∷ ms) qs e z a = subst P (some_asked at (m ∷ ms) qs e) a.0

  -- ---- what is owed

  owed_up : (b : Formula) → formula_size b ≡ leaf → (at : Place → ℕ) (fs : List Written) →
      AllByRecursion P (map (λ a. one (two leaf (one a))) (map (written_size at) fs)) →
      Sizes P (map (λ f. negation (both b (negation f))) (map (λ f. f at) fs))
  owed_up b e at [] a = tt
  owed_up b e at (f ∷ fs) a = (subst (λ s. P (one (two s (one (formula_size (f at)))))) (sym e) a.0, owed_up b e at fs a.1)

  owed_back : (b : Formula) → formula_size b ≡ leaf → (at : Place → ℕ) (fs : List Written) →
      Sizes P (map (λ f. negation (both b (negation f))) (map (λ f. f at) fs)) →
      AllByRecursion P (map (λ a. one (two leaf (one a))) (map (written_size at) fs))
  owed_back b e at [] a = tt
  owed_back b e at (f ∷ fs) a = (subst (λ s. P (one (two s (one (formula_size (f at)))))) e a.0, owed_back b e at fs a.1)

  site_up : (g : Stage) (c : Site) (w : Manner) (k : Instance) → SizedItems P (below_call c.number g.number) (contract_of k) (contract_sizes k) →
      AllByRecursion P (owed_sizes w k) → Sizes P (owed_by_site g c w k)
  site_up g c plain k z a = owed_up (flag_at g (in_call c.number (own beat))) refl (below_call c.number g.number) (contract_of k).assumes
      (subst (λ ss. AllByRecursion P (map (λ a. one (two leaf (one a))) ss)) (sym z.assumes) a)
  site_up g c (while_true e) k z a = owed_up (flag_at g (in_call c.number (own beat))) refl (below_call c.number g.number) (contract_of k).assumes
      (subst (λ ss. AllByRecursion P (map (λ a. one (two leaf (one a))) ss)) (sym z.assumes) a)
  site_up g c (as_import xs) k z a = tt

  site_back : (g : Stage) (c : Site) (w : Manner) (k : Instance) → SizedItems P (below_call c.number g.number) (contract_of k) (contract_sizes k) →
      Sizes P (owed_by_site g c w k) → AllByRecursion P (owed_sizes w k)
  site_back g c plain k z a = subst (λ ss. AllByRecursion P (map (λ a. one (two leaf (one a))) ss)) z.assumes
      (owed_back (flag_at g (in_call c.number (own beat))) refl (below_call c.number g.number) (contract_of k).assumes a)
  site_back g c (while_true e) k z a = subst (λ ss. AllByRecursion P (map (λ a. one (two leaf (one a))) ss)) z.assumes
      (owed_back (flag_at g (in_call c.number (own beat))) refl (below_call c.number g.number) (contract_of k).assumes a)
  site_back g c (as_import xs) k z a = tt

  calls_up : (is : Instances) (i : Instance) (p : ℕ) (g : Stage) → CallsFit IsKnown i is p → LightCalls i is → AllByRecursion P (owed_by_sites is) →
      Sizes P (owed_by_calls g is)
  calls_up no_instances i p g f l a = tt
  calls_up (with_instance c k is) i p g f l a =
      both_parts (λ f. P (formula_size f)) (owed_by_site g c c.manner k) (owed_by_calls g is)
      (site_up g c c.manner k (contract_sized P k f.1 l.1 (below_call c.number g.number)) (left_part P (owed_sizes c.manner k) (owed_by_sites is) a))
      (calls_up is i (suc p) g f.2 l.2 (right_part P (owed_sizes c.manner k) (owed_by_sites is) a))

  calls_back : (is : Instances) (i : Instance) (p : ℕ) (g : Stage) → CallsFit IsKnown i is p → LightCalls i is → Sizes P (owed_by_calls g is) →
      AllByRecursion P (owed_by_sites is)
  calls_back no_instances i p g f l a = tt
  calls_back (with_instance c k is) i p g f l a =
      both_parts P (owed_sizes c.manner k) (owed_by_sites is)
      (site_back g c c.manner k (contract_sized P k f.1 l.1 (below_call c.number g.number))
      (left_part (λ f. P (formula_size f)) (owed_by_site g c c.manner k) (owed_by_calls g is) a))
      (calls_back is i (suc p) g f.2 l.2 (right_part (λ f. P (formula_size f)) (owed_by_site g c c.manner k) (owed_by_calls g is) a))

-- the inputs are given, and have no source
or_turned : (a b : Bool) → (a || b) ≡ (b || a)
or_turned true true = refl
or_turned true false = refl
or_turned false true = refl
or_turned false false = refl

main_split : (d : Component) (g : Stage) (i : Instance) → component_of i ≡ d → IsSplit i (inputs_of i) ([] ++ equation_sources g (equations (component_of i)))
main_split d g i e x =
    named_append x (inputs_of i) (left_names (component_of i)) ∙ or_turned (named_in x (inputs_of i)) (named_in x (left_names (component_of i)))
    ∙ ap (λ b. b || named_in x (inputs_of i)) (ap (named_in x) (sym (equations_named g (equations (component_of i)))))

-- ---- the system

module _ (P : Size → Type 0) (down : (a b : Size) → IsWithin a b → P b → P a) (d : Component) (cs : List (Name × Value)) (is : Instances)
    (fits : TreeFits IsKnown (instance d cs is)) (light : LightTree (instance d cs is)) where
  abbrev i : Instance
  i = instance d cs is

  abbrev at : Place → ℕ
  at = number_of i

  abbrev r : ContractSizes
  r = contract_sizes i

  abbrev beat_flag : Formula
  beat_flag = flag record { number = number_of (instance d cs is) (own beat); next = false }

  sized : SizedItems P (number_of (instance d cs is)) (contract_of (instance d cs is)) (contract_sizes (instance d cs is))
  sized = contract_sized P i fits light at

  abbrev Checked : List Statement → Type 0
  Checked ss = AllByRecursion (λ e. Stands (instance d cs is) (IsKnown (instance d cs is)) base e × (sort_of (instance d cs is) e ≡ Flags)) (checked ss)

  check_size : (e : Expression) → Stands (instance d cs is) (IsKnown (instance d cs is)) base e → sort_of (instance d cs is) e ≡ Flags →
      formula_size (formula (stage (instance d cs is) (number_of (instance d cs is))) e) ≡ size_in d (contract_sizes (instance d cs is)).modes e
  check_size e h s = truth_size P i at fits.0 sized.modes sized.assumes e base h s

  checks_up : (ss : List Statement) → Checked ss → AllByRecursion P (property_sizes d (contract_sizes (instance d cs is)).modes ss) →
      Sizes P (body_properties (stage (instance d cs is) (number_of (instance d cs is))) ss)
  checks_up [] a b = tt
  checks_up (equation xs e ∷ ss) a b = checks_up ss a b
  checks_up (assertion e ∷ ss) a b = checks_up ss a b
  checks_up (property l ∷ ss) a b = (subst P (sym (check_size l.value a.0.0 a.0.1)) b.0, checks_up ss a.1 b.1)
  checks_up (main_mark w ∷ ss) a b = checks_up ss a b

  checks_back : (ss : List Statement) → Checked ss → Sizes P (body_properties (stage (instance d cs is) (number_of (instance d cs is))) ss) →
      AllByRecursion P (property_sizes d (contract_sizes (instance d cs is)).modes ss)
  checks_back [] a b = tt
  checks_back (equation xs e ∷ ss) a b = checks_back ss a b
  checks_back (assertion e ∷ ss) a b = checks_back ss a b
  checks_back (property l ∷ ss) a b = (subst P (check_size l.value a.0.0 a.0.1) b.0, checks_back ss a.1 b.1)
  checks_back (main_mark w ∷ ss) a b = checks_back ss a b

  leaf_within : P (some_of (map (λ m. m.1) (contract_sizes (instance d cs is)).modes)) → P leaf
  leaf_within a =
      let f : Formula = part.some_of (map (λ m. m.asked at) (contract_of i).modes) in
      down leaf (formula_size f) (record { levels = has_levels f; parts = has_parts f })
      (subst P (sym (some_asked P at (contract_of i).modes r.modes sized.modes)) a)

  abbrev checks_of : List Formula
  checks_of = body_properties (stage (instance d cs is) (number_of (instance d cs is))) d.body

  abbrev guarantees_of : List Formula
  guarantees_of = map (λ f. f (number_of (instance d cs is))) (contract_of (instance d cs is)).guarantees

  abbrev ensures_of : List Formula
  ensures_of = flat_map (λ m. map (λ f. f (number_of (instance d cs is))) m.ensures_each) (contract_of (instance d cs is)).modes

  abbrev mode_of : List Formula
  mode_of = one_mode (contract_of (instance d cs is)).modes (number_of (instance d cs is))

  abbrev owed_of : List Formula
  owed_of = owed_by_calls (stage (instance d cs is) (number_of (instance d cs is))) is

  abbrev Fine : Formula → Type 0
  Fine f = P (formula_size f)

  pub system_up : AllByRecursion P (term_sizes (instance d cs is)) → Sizes P (terms_of (system_of (instance d cs is)))
  system_up a =
      let frames = left_part P (frame_sizes (inputs_of i) i) _ a in
      let b = right_part P (frame_sizes (inputs_of i) i) _ a in
      let assumes = left_part P r.assumes _ b in
      let e = right_part P r.assumes _ b in
      let checks = left_part P (property_sizes d r.modes d.body) _ e in
      let f = right_part P (property_sizes d r.modes d.body) _ e in
      let promises = left_part P r.promises _ f in
      let h = right_part P r.promises _ f in
      let z : P leaf = leaf_within h.0 in
      let kept = sized.kept promises in
      both_parts Fine (first_of plain i at) _ (first_up P down i plain at fits light z (inputs_of i) frames)
      (both_parts Fine (here_of i at beat_flag []) _
      (here_up P down i at fits light beat_flag z [] tt tt (inputs_of i) (main_split d (stage i at) i refl) frames)
      (both_parts Fine (next_of plain i at) _ (next_up P down i plain at fits light (inputs_of i) frames)
      (both_parts Fine (legal_of i at) (properties_of i at)
      (both_parts Fine (assumed i at) (asserts_in i at) (at_place_up P at (contract_of i).assumes r.assumes sized.assumes assumes)
      (asserts_in_up P down i at fits light (inputs_of i) frames))
      (both_parts Fine (checks_of ++ guarantees_of ++ ensures_of ++ mode_of) owed_of
      (both_parts Fine (checks_of ++ guarantees_of ++ ensures_of) mode_of
      (both_parts Fine (checks_of ++ guarantees_of) ensures_of
      (both_parts Fine checks_of guarantees_of (checks_up d.body fits.0.body_properties checks) (here_have P at (contract_of i).guarantees kept.0))
      (ensures_up P at (contract_of i).modes kept.1))
      (one_mode_up P at (contract_of i).modes r.modes sized.modes h.0))
      (calls_up P is i 0 (stage i at) fits.1 light.1 h.1)))))

  pub system_back : TreeDistinct (instance d cs is) (number_of (instance d cs is)) [] → Sizes P (terms_of (system_of (instance d cs is))) →
      AllByRecursion P (term_sizes (instance d cs is))
  system_back distinct a =
      let b = right_part Fine (first_of plain i at) _ a in
      let here = left_part Fine (here_of i at beat_flag []) _ b in
      let e = right_part Fine (here_of i at beat_flag []) _ b in
      let next = left_part Fine (next_of plain i at) _ e in
      let f = right_part Fine (next_of plain i at) _ e in
      let legal = left_part Fine (legal_of i at) (properties_of i at) f in
      let checks = right_part Fine (legal_of i at) (properties_of i at) f in
      let four = left_part Fine (checks_of ++ guarantees_of ++ ensures_of ++ mode_of) owed_of checks in
      let owed = right_part Fine (checks_of ++ guarantees_of ++ ensures_of ++ mode_of) owed_of checks in
      let three = left_part Fine (checks_of ++ guarantees_of ++ ensures_of) mode_of four in
      let two_kinds = left_part Fine (checks_of ++ guarantees_of) ensures_of three in
      let z : P leaf = head_of P down i at beat_flag [] here in
      let frames = frame_back P down i plain at fits light beat_flag [] tt distinct (inputs_of i) (main_split d (stage i at) i refl) tt here next
      (right_part Fine (assumed i at) (asserts_in i at) legal) in
      both_parts P (frame_sizes (inputs_of i) i) _ frames.0
      (both_parts P r.assumes _ (at_place_back P at (contract_of i).assumes r.assumes sized.assumes (left_part Fine (assumed i at) (asserts_in i at) legal))
      (both_parts P (property_sizes d r.modes d.body) _ (checks_back d.body fits.0.body_properties (left_part Fine checks_of guarantees_of two_kinds))
      (both_parts P r.promises _
      (sized.made (have_here P at (contract_of i).guarantees (right_part Fine checks_of guarantees_of two_kinds))
      (ensures_back P at (contract_of i).modes (right_part Fine (checks_of ++ guarantees_of) ensures_of three))) (
        one_mode_back P at (contract_of i).modes r.modes sized.modes z (right_part Fine (checks_of ++ guarantees_of ++ ensures_of) mode_of four),
        calls_back P is i 0 (stage i at) fits.1 light.1 owed,
      ))))

-- ---- the laws

-- a size that is counted, or reached
record IsBelow (ss : List Size) (a : Size) : Type 0 where
  size : Size
  listed : Contains ss size
  within : IsWithin a size

record IsReached (fs : List Formula) (a : Size) : Type 0 where
  term : Formula
  listed : Contains fs term
  within : IsWithin a (formula_size term)

counted : (i : Instance) → TreeFits IsKnown i → LightTree i → TreeDistinct i (number_of i) [] → IsCounted i
counted (instance d cs is) fits light distinct =
    let i : Instance = instance d cs is in
    let ss : List Size = term_sizes i in
    let fs : List Formula = terms_of (system_of i) in
    let all : AllByRecursion (IsBelow ss) ss = all_contained (IsBelow ss) ss (λ s h. record { size = s; listed = h; within = itself s }) in
    let reached : AllByRecursion (λ f. IsReached fs (formula_size f)) fs =
    all_contained (λ f. IsReached fs (formula_size f)) fs (λ f h. record { term = f; listed = h; within = itself (formula_size f) }) in
    let up : AllByRecursion (λ f. IsBelow ss (formula_size f)) fs =
    system_up (IsBelow ss) (λ a b h q. record { size = q.size; listed = q.listed; within = then a b q.size h q.within }) d cs is fits light all in
    let back : AllByRecursion (IsReached fs) ss =
    system_back (IsReached fs) (λ a b h q. record {
      term = q.term;
      listed = q.listed;
      within = then a b
          (formula_size q.term) h q.within;
    }) d cs is fits light
    distinct reached in
    record {
      terms = λ f h. let q = at_one (λ f. IsBelow ss (formula_size f)) fs f up h in
          (q.size, q.listed, record { levels = q.within.levels; parts = q.within.parts });
      sizes = λ s h. let q = at_one (IsReached fs) ss s back h in
          (q.term, q.listed, record { levels = q.within.levels; parts = q.within.parts });
    }

pub sizes_are_counted : SizesAreCounted
sizes_are_counted p c n j =
    let i : Instance = instance_of p n in
    let u : IsUnfolded p i = each_unfolded p c n j in
    let here : Contains (components p) (component_of i) = subst (Contains (components p)) (sym (component_within _ p n)) j in
    let w = each_is_well_typed p c n j in
    counted i w.0.tree (light_tree p c i u here) w.1

-- ---- limits

no_more : (A : Type 0) (f : A → Bool) (xs : List A) → list_any f xs ≡ false → AllByRecursion (λ x. f x ≡ false) xs
no_more A f [] e = tt
no_more A f (x ∷ xs) e = go (f x) refl e (no_more A f xs)
  where
    go : (b : Bool) → f x ≡ b → (b || list_any f xs) ≡ false → (list_any f xs ≡ false → AllByRecursion (λ x. f x ≡ false) xs) →
        AllByRecursion (λ x. f x ≡ false) (x ∷ xs)
    go true q h r = absurd (false≢true (sym h))
    go false q h r = (q, r h)

node_declared : (ds : List Declaration) (n : Component) → Contains ds (declared_node n) → Contains (components ds) n
node_declared [] n (j, l, e) = absurd (none j l)
  where
    none : (k : ℕ) → k < 0 → ⊥
    none k l = omega arith
node_declared (declared_constant c ∷ ds) n (zero, l, e) = absurd (no_constant c n e)
node_declared (declared_constant c ∷ ds) n (suc j, l, e) = node_declared ds n (j, omega arith, e)
node_declared (declared_contract m ∷ ds) n (zero, l, e) = absurd (no_contract m n e)
node_declared (declared_contract m ∷ ds) n (suc j, l, e) =
    let q = node_declared ds n (j, omega arith, e) in let b : q.0 < length (components ds) = q.1 in (suc q.0, omega (arith, b), q.2)
node_declared (declared_node m ∷ ds) n (zero, l, e) = (0, omega arith, same_node m n e)
node_declared (declared_node m ∷ ds) n (suc j, l, e) =
    let q = node_declared ds n (j, omega arith, e) in let b : q.0 < length (components ds) = q.1 in (suc q.0, omega (arith, b), q.2)

pub small_terms : SmallTerms
small_terms p main c w n j f h =
    let i : Instance = instance_of p n in
    let a = all_limits p main w n j in
    let q = (sizes_are_counted p c n (node_declared p n j)).terms f h in
    let l : q.0.levels ≤ 4000 = within 4000 q.0.levels (at_one (λ s. nat_lt 4000 s.levels ≡ false) (term_sizes i) q.0
    (no_more Size (λ s. nat_lt 4000 s.levels) (term_sizes i) a.1.1.0) q.1) in
    let m : q.0.parts ≤ 1000000 = within 1000000 q.0.parts (at_one (λ s. nat_lt 1000000 s.parts ≡ false) (term_sizes i) q.0
    (no_more Size (λ s. nat_lt 1000000 s.parts) (term_sizes i) a.1.1.1.0) q.1) in
    let x : levels f ≤ q.0.levels = q.2.levels in
    let y : parts f ≤ q.0.parts = q.2.parts in
    record { levels = omega (arith, l, x); parts = omega (arith, m, y) }
