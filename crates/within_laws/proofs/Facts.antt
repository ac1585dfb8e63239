-- Where no source of a declaration has an operation outside 128 bits, no text has that a source evaluates.
use Rattle.std.proofs.Common.{◌≡◌, ℕ, zero, suc, pred, ◌+◌, ◌<◌, ◌≤◌, Bool, true, false, List, [], ◌∷◌, ◌++◌, map, flat_map, length, refl, ap, ◌∙◌, sym, subst, arith}
use Rattle.std.specs.List.{AllByRecursion}
use Rattle.std.proofs.lemmas.Bool.{true≢false}
use Rattle.lus_tree.specs.Tree.{Name, Expression, truth, number, name, negation, minus, pre, arrow, binary, choice, sampled, merged, call, condact, mode_name}
use Rattle.lus_meaning.specs.Value.{Instants}
use Rattle.lus_meaning.specs.Frame.{Frame, call_frame}
use Rattle.lus_meaning.specs.Scene.{Clock, base, sampled_by, Manner, plain, while_true, as_import, Site, Instance, Instances, instance, no_instances, with_instance, instance_at, component_of, calls_of, call_instance, outputs_of, clock_of_names, variables, is_on}
use Rattle.lus_meaning.specs.Contract.{scene}
use Rattle.lus_meaning.specs.Occurrences.{Memory, memories, starts}
use Rattle.lus_meaning.specs.Program.{in_order, instance_of}
use Rattle.lus_meaning.specs.Run.{Equation, equations, inputs_of, sort_of_name, active}
use Rattle.lus_meaning.specs.Depends.{named_in, from_caller, outputs_given, left_names}
use Rattle.lus_meaning.specs.WellMade.{AreDistinct, SharesArity, IsWellMade, CallsWellMade}
use Rattle.lus_meaning.specs.Verdict.{throughout}
use Rattle.lus_meaning.proofs.Lists.{both_parts, map_append, all_from, all_from_both}
use Rattle.lus_meaning.proofs.Now.{left_part, right_part}
use Rattle.sys_meaning.specs.Slot.{Place, named, own}
use Rattle.sys_meaning.specs.Defaults.{site_at, site_of}
use Rattle.sys_meaning.specs.System.{number_of, below_call}
use Rattle.sys_meaning.specs.WellTyped.{IsKnown, IsMemory, IsCall, EquationFits, MemoryFits, ClockFits, CallsFit, TreeFits, OwnFits, count_of}
use Rattle.sys_meaning.proofs.Forward.{own_fits, calls_fit}
use Rattle.sys_meaning.proofs.Found.{found_in_order}
use Rattle.sys_meaning.proofs.Whole.{fits_called}
use Rattle.path_laws.proofs.Main.{each_is_well_typed}
use Rattle.lus_evaluation.specs.Frame.{call_condition}
use Rattle.lus_evaluation.specs.Past.{scene_on}
use Rattle.slot_values.specs.Resolution.{Resolution}
use Rattle.slot_values.specs.Evaluated.{SlotValues, outside}
use Rattle.slot_values.specs.Resolved.{Numbering, resolution, right_resolutions, first_resolution, output_resolution, latest_resolution, outputs_at}
use Rattle.slot_values.specs.Clocked.{row_by, clock_on}
use Rattle.slot_sources.specs.Source.{Source, given, same, always, unread}
use Rattle.slot_sources.specs.Source as s
use Rattle.slot_sources.specs.Rows as r
use Rattle.slot_sources.specs.Rows.{outside_now, outside_next, is_read}
use Rattle.slot_sources.specs.Sources.{numbering_of, switch_of, NameSources, paired, equation_sources, name_sources, beat_source, argument_source, shared_sources, from_call, held_sources, memory_source, start_source, contract_sources, own_sources, sources_in, call_sources, sources_of}
use Rattle.evaluation_laws.specs.Rows.{row_at, AreCalls, numbers_on, scene_there, resolution_there, RowShows}
use Rattle.evaluation_laws.proofs.RowFrames.{rows_show}
use Rattle.row_laws.proofs.Lists.{mapped_many}
use Rattle.row_laws.proofs.Given.{source_names, paired_names}
use Rattle.row_laws.proofs.Rights.{rights_many}
use Rattle.row_laws.proofs.Ranking.{call_of_number}
use Rattle.order_laws.specs.Rows.{place_there}
use Rattle.order_laws.proofs.Frames.{stands_there, clock_there}
use Rattle.within_laws.specs.Texts.{IsQuiet, EachQuiet}
use Rattle.within_laws.specs.Sources.{AreSourcesQuiet, IsFrameQuiet, FramesAreQuiet}
use Rattle.within_laws.proofs.Given.{all_given, unpaired, unmapped, find_has}
use Rattle.within_laws.proofs.Made.{some_frame, some_made}

-- ---- names

equations_named : (i : Instance) (g : Numbering) → g.place ≡ i → (es : List Equation) → AllByRecursion (EquationFits i (IsKnown i)) es →
    source_names (equation_sources g es) ≡ flat_map (λ e. e.names) es
equations_named i g h [] w = refl
equations_named i g h (e ∷ es) w =
    map_append (λ (x : Name × Source). x.0) first (equation_sources g es)
    ∙ ap (λ l. l ++ source_names (equation_sources g es)) (paired_names e.names sources many)
    ∙ ap (λ l. e.names ++ l) (equations_named i g h es w.1)
  where
    sources : List Source
    sources = map (given (switch_of g (clock_of_names (component_of g.place) e.names))) (right_resolutions g e.right)

    first : NameSources
    first = paired e.names sources

    many : length sources ≡ length e.names
    many = mapped_many (given (switch_of g (clock_of_names (component_of g.place) e.names))) (right_resolutions g e.right)
        ∙ rights_many i g h e.right ∙ ap (λ l. length l) (sym w.0.sorts) ∙ mapped_many (sort_of_name i) e.names

shared_named : (g : Numbering) (m : Manner) (k : Instance) → SharesArity m (outputs_of k) →
    source_names (shared_sources g m k) ≡ outputs_given m (outputs_of k)
shared_named g plain k o = refl
shared_named g (while_true a) k o = refl
shared_named g (as_import xs) k o =
    paired_names (outputs_of k) (map (λ x. same (g.number (own (named x)))) xs) (mapped_many (λ x. same (g.number (own (named x)))) xs ∙ o)

call_named : (g : Numbering) (c : Site) (k : Instance) → length c.arguments ≡ length (inputs_of k) → SharesArity c.manner (outputs_of k) →
    source_names (from_call g c k) ≡ from_caller c k
call_named g c k l o =
    map_append (λ (x : Name × Source). x.0) (paired (inputs_of k) (map (argument_source g c) c.arguments)) (shared_sources g c.manner k)
    ∙ ap (λ z. z ++ source_names (shared_sources g c.manner k)) (paired_names (inputs_of k) (map (argument_source g c) c.arguments)
    (mapped_many (argument_source g c) c.arguments ∙ l))
    ∙ ap (λ z. inputs_of k ++ z) (shared_named g c.manner k o)

module _ (row : SlotValues) where
  abbrev SourceQuiet : Source → Type 0
  SourceQuiet e = (outside_now row e ≡ []) × (outside_next row e ≡ [])

  abbrev GivesQuiet : NameSources → Type 0
  GivesQuiet es = AllByRecursion (λ (q : Name × Source). SourceQuiet q.1) es

  -- ---- what is so of a frame, its clocks by their slots

  module _ (i : Instance) (at : Place → ℕ) where
    abbrev g : Numbering
    g = numbering_of i at

    abbrev QuietBySlot : Clock → Expression → Type 0
    QuietBySlot c e = outside row (r.is_on row (switch_of g c)) (resolution g e) ≡ []

    abbrev SideQuiet : Equation → Type 0
    SideQuiet e =
        AllByRecursion (λ z. outside row (r.is_on row (switch_of g (clock_of_names (component_of i) e.names))) z ≡ []) (right_resolutions g e.right)

    abbrev SiteQuiet : Site → Type 0
    SiteQuiet c = ClockFits i (IsKnown i) c.clock × AllByRecursion (QuietBySlot c.clock) (call_condition c c.manner ++ c.arguments)

    abbrev SitesQuiet : Instances → Type 0
    SitesQuiet no_instances = Unit {0}
    SitesQuiet (with_instance c k is) = SiteQuiet c × SitesQuiet is

    pub record Facts : Type 0 where
      pub rights : AllByRecursion SideQuiet (equations (component_of i))
      pub memories : AllByRecursion (λ m. QuietBySlot m.clock m.operand) (in_order (λ p. p.number) (memories (component_of i)))
      pub calls : SitesQuiet (calls_of i)

    sides : (es : List Equation) → AllByRecursion (EquationFits i (IsKnown i)) es → GivesQuiet (equation_sources g es) → AllByRecursion SideQuiet es
    sides [] w a = tt
    sides (e ∷ es) w a =
        let c : Clock = clock_of_names (component_of i) e.names in
        let first : NameSources = paired e.names (map (given (switch_of g c)) (right_resolutions g e.right)) in
        let many : length (right_resolutions g e.right) ≡ length e.names =
        rights_many i g refl e.right ∙ ap (λ l. length l) (sym w.0.sorts) ∙ mapped_many (sort_of_name i) e.names in (
          all_from (λ z. SourceQuiet (given (switch_of g c) z)) (λ z. outside row (r.is_on row (switch_of g c)) z ≡ []) (λ z q. q.0)
              (right_resolutions g e.right)
              (unpaired SourceQuiet (given (switch_of g c)) e.names (right_resolutions g e.right) many
              (left_part (λ (q : Name × Source). SourceQuiet q.1) first (equation_sources g es) a)),
          sides es w.1 (right_part (λ (q : Name × Source). SourceQuiet q.1) first (equation_sources g es) a),
        )

    condition_quiet : (c : Site) (m : Manner) → SourceQuiet (beat_source g c m) → AllByRecursion (QuietBySlot c.clock) (call_condition c m)
    condition_quiet c plain a = tt
    condition_quiet c (while_true e) a = (a.0, tt)
    condition_quiet c (as_import xs) a = tt

    arguments_quiet : (c : Site) (k : Instance) → length c.arguments ≡ length (inputs_of k) → GivesQuiet (from_call g c k) →
        AllByRecursion (QuietBySlot c.clock) c.arguments
    arguments_quiet c k l a =
        all_from (λ z. SourceQuiet (argument_source g c z)) (QuietBySlot c.clock) (λ z q. q.0) c.arguments
        (unpaired SourceQuiet (argument_source g c) (inputs_of k) c.arguments l
        (left_part (λ (q : Name × Source). SourceQuiet q.1) (paired (inputs_of k) (map (argument_source g c) c.arguments)) (shared_sources g c.manner k) a))

  -- of a frame and those of its calls
  abbrev mutual
    pub Tree : Instance → (Place → ℕ) → Type 0
    Tree (instance d cs is) at = Facts (instance d cs is) at × Trees at is

    pub Trees : (Place → ℕ) → Instances → Type 0
    Trees at no_instances = Unit {0}
    Trees at (with_instance c k is) = Tree k (below_call c.number at) × Trees at is

  -- a frame's own sources
  module _ (m : Manner) (i : Instance) (at : Place → ℕ) (e : Source) (fc : NameSources) (names : List Name) (named_so : source_names fc ≡ names)
      (distinct : AreDistinct (names ++ left_names (component_of i)))
      (declared : AllByRecursion (λ x. named_in x (map (λ v. v.name.text) (variables (component_of i))) ≡ true) (names ++ left_names (component_of i)))
      (fits : OwnFits i (IsKnown i)) (own_ones : AllByRecursion SourceQuiet (own_sources m (numbering_of i at) e fc)) where
    abbrev n : Numbering
    n = numbering_of i at

    abbrev es : NameSources
    es = equation_sources n (equations (component_of i))

    all_named : source_names (fc ++ es) ≡ names ++ left_names (component_of i)
    all_named =
        map_append (λ (q : Name × Source). q.0) fc es ∙ rw (named_so, equations_named i n refl (equations (component_of i)) fits.equations) refl

    abbrev held_ones : List Source
    held_ones = map (memory_source n) (in_order (λ p. p.number) (memories (component_of i)))

    abbrev more : List Source
    more = map (start_source n) (in_order (λ p. p.number) (starts (component_of i))) ++ contract_sources m (component_of i).contract

    everything : GivesQuiet (fc ++ es)
    everything =
        all_given SourceQuiet n (fc ++ es) (variables (component_of i)) (subst AreDistinct (sym all_named) distinct)
        (subst (AllByRecursion (λ x. named_in x (map (λ v. v.name.text) (variables (component_of i))) ≡ true)) (sym all_named) declared)
        (left_part SourceQuiet (name_sources n fc) (held_ones ++ more) own_ones.1)

    pub from_outside : SourceQuiet e × GivesQuiet fc
    from_outside = (own_ones.0, left_part (λ (q : Name × Source). SourceQuiet q.1) fc es everything)

    pub own_sides : AllByRecursion (SideQuiet i at) (equations (component_of i))
    own_sides = sides i at (equations (component_of i)) fits.equations (right_part (λ (q : Name × Source). SourceQuiet q.1) fc es everything)

    pub own_memories : AllByRecursion (λ z. QuietBySlot i at z.clock z.operand) (in_order (λ p. p.number) (memories (component_of i)))
    own_memories =
        all_from (λ z. SourceQuiet (memory_source n z)) (λ z. QuietBySlot i at z.clock z.operand) (λ z q. q.1)
        (in_order (λ p. p.number) (memories (component_of i)))
        (unmapped SourceQuiet (memory_source n) (in_order (λ p. p.number) (memories (component_of i)))
        (left_part SourceQuiet held_ones more (right_part SourceQuiet (name_sources n fc) (held_ones ++ more) own_ones.1)))

  mutual
    tree_quiet : (m : Manner) (i : Instance) (at : Place → ℕ) (e : Source) (fc : NameSources) (names : List Name) → source_names fc ≡ names → (x : Frame) →
        IsWellMade i names x → TreeFits IsKnown i → AllByRecursion SourceQuiet (sources_in m i at e fc) → Tree i at × SourceQuiet e × GivesQuiet fc
    tree_quiet m (instance d cs is) at e fc names alike x made fits a =
        let i : Instance = instance d cs is in
        let mine : List Source = own_sources m (numbering_of i at) e fc in
        let own : AllByRecursion SourceQuiet mine = left_part SourceQuiet mine (call_sources (numbering_of i at) is) a in
        let below : Trees at is × SitesQuiet i at is =
        trees_quiet i at is 0 _ fits.1 made.4 (right_part SourceQuiet mine (call_sources (numbering_of i at) is) a) in
        let from : SourceQuiet e × GivesQuiet fc = from_outside m i at e fc names alike made.0 made.1 fits.0 own in (
          (
            record {
              rights = own_sides m i at e fc names alike made.0 made.1 fits.0 own;
              memories = own_memories m i at e fc names alike made.0 made.1 fits.0 own;
              calls = below.1;
            },
            below.0,
          ),
          from.0,
          from.1,
        )

    trees_quiet : (i : Instance) (at : Place → ℕ) (is : Instances) (p : ℕ) (fs : ℕ → Frame) → CallsFit IsKnown i is p → CallsWellMade is fs →
        AllByRecursion SourceQuiet (call_sources (numbering_of i at) is) → Trees at is × SitesQuiet i at is
    trees_quiet i at no_instances p fs fits made a = (tt, tt)
    trees_quiet i at (with_instance c k is) p fs fits made a =
        let h : List Source = held_sources (numbering_of i at) c (component_of k) c.manner in
        let one : List Source = sources_in c.manner k (below_call c.number at) (beat_source (numbering_of i at) c c.manner) (from_call (numbering_of i at) c k) in
        let rest : List Source = call_sources (numbering_of i at) is in
        let b : AllByRecursion SourceQuiet (one ++ rest) = right_part SourceQuiet h (one ++ rest) a in
        let there = tree_quiet c.manner k (below_call c.number at) (beat_source (numbering_of i at) c c.manner) (from_call (numbering_of i at) c k)
        (from_caller c k) (call_named (numbering_of i at) c k made.0 made.1) (fs 0) made.2 fits.1 (left_part SourceQuiet one rest b) in
        let others = trees_quiet i at is (suc p) (λ j. fs (suc j)) fits.2 made.3 (right_part SourceQuiet one rest b) in
        let mine : SiteQuiet i at c = (
          fits.0.clock,
          both_parts (QuietBySlot i at c.clock) (call_condition c c.manner) c.arguments (condition_quiet i at c c.manner there.1)
              (arguments_quiet i at c k made.0 there.2),
        ) in
        ((there.0, others.0), (mine, others.1))

  -- ---- along a way of calls

  tree_at : (is : Instances) (q : ℕ) (at : Place → ℕ) → q < count_of is → Trees at is → Tree (instance_at is q) (below_call (site_at is q).number at)
  tree_at no_instances q at l a = absurd (omega (arith, l))
  tree_at (with_instance c k is) zero at l a = a.0
  tree_at (with_instance c k is) (suc q) at l a = tree_at is q at (omega (arith, l)) a.1

  own_facts : (i : Instance) (at : Place → ℕ) → Tree i at → Facts i at
  own_facts (instance d cs is) at a = a.0

  call_trees : (i : Instance) (at : Place → ℕ) → Tree i at → Trees at (calls_of i)
  call_trees (instance d cs is) at a = a.1

  pub facts_along : (w : List ℕ) (i : Instance) (at : Place → ℕ) (b : Instants) (f : Frame) → TreeFits IsKnown i → AreCalls i w → Tree i at →
      Facts (scene_on w i b f).place (numbers_on w at)
  facts_along [] i at b f fits h a = own_facts i at a
  facts_along (zero ∷ w) i at b f fits h a = absurd (omega (arith, h.0))
  facts_along (suc q ∷ w) i at b f fits h a =
      let c : IsCall i (IsKnown i) (suc q) = call_of_number i fits (suc q) h.0 h.1 in
      facts_along w (call_instance i (suc q)) (below_call (suc q) at) (active (scene i b f) (site_of i (suc q))) (call_frame f (suc q))
      (fits_called IsKnown i (suc q) h.0 h.1 (calls_fit IsKnown i fits)) h.2
      (subst (λ z. Tree (call_instance i (suc q)) (below_call z at)) c.number (tree_at (calls_of i) q at h.1 (call_trees i at a)))

-- ---- by the clocks of the frame

switch_is : (row : SlotValues) (g : Numbering) (c : Clock) → r.is_on row (switch_of g c) ≡ clock_on (row_by g.number row) c
switch_is row g base = refl
switch_is row g (sampled_by b x) = refl

first_quiet : (row : SlotValues) (on : Bool) (rs : List Resolution) → AllByRecursion (λ z. outside row on z ≡ []) rs →
    outside row on (first_resolution rs) ≡ []
first_quiet row on [] a = refl
first_quiet row on (z ∷ rs) a = a.0

right_quiet : (row : SlotValues) (on : Bool) (g : Numbering) (e : Expression) → AllByRecursion (λ z. outside row on z ≡ []) (right_resolutions g e) →
    outside row on (resolution g e) ≡ []
right_quiet row on g (call p k f as_) a = first_quiet row on (map (output_resolution g k) (outputs_at g k)) a
right_quiet row on g (condact p k x f as_ ds) a = first_quiet row on (map (latest_resolution g k (resolution g x)) (outputs_at g k)) a
right_quiet row on g (truth p b) a = a.0
right_quiet row on g (number p n) a = a.0
right_quiet row on g (name p x) a = a.0
right_quiet row on g (negation p x) a = a.0
right_quiet row on g (minus p x) a = a.0
right_quiet row on g (pre p k x) a = a.0
right_quiet row on g (arrow p k x y) a = a.0
right_quiet row on g (binary p o x y) a = a.0
right_quiet row on g (choice p x y z) a = a.0
right_quiet row on g (sampled p x b y) a = a.0
right_quiet row on g (merged p y x z) a = a.0
right_quiet row on g (mode_name p d m) a = a.0

site_there : (row : SlotValues) (i : Instance) (at : Place → ℕ) (is : Instances) (q : ℕ) → q < count_of is → SitesQuiet row i at is →
    SiteQuiet row i at (site_at is q)
site_there row i at no_instances q l a = absurd (omega (arith, l))
site_there row i at (with_instance c k is) zero l a = a.0
site_there row i at (with_instance c k is) (suc q) l a = site_there row i at is q (omega (arith, l)) a.1

-- ---- all sources

no_operation : (row : SlotValues) (e : Source) → is_read e ≡ false → (outside_now row e ≡ []) × (outside_next row e ≡ [])
no_operation row unread h = (refl, refl)
no_operation row always h = (refl, refl)
no_operation row (s.runs w) h = (refl, refl)
no_operation row (s.runs_while w e) h = absurd (true≢false h)
no_operation row (same k) h = (refl, refl)
no_operation row (given w e) h = absurd (true≢false h)
no_operation row (s.argument b w e) h = absurd (true≢false h)
no_operation row (s.listed w) h = (refl, refl)
no_operation row (s.remembered w e) h = absurd (true≢false h)
no_operation row (s.starting w) h = (refl, refl)
no_operation row (s.held b o d) h = (refl, refl)

from_slots : (row : SlotValues) (es : List Source) → AreSourcesQuiet row es → AllByRecursion (λ e. (outside_now row e ≡ []) × (outside_next row e ≡ [])) es
from_slots row [] h = tt
from_slots row (e ∷ es) h = (go (is_read e) refl, from_slots row es (λ k x q. h (suc k) x q))
  where
    go : (b : Bool) → is_read e ≡ b → (outside_now row e ≡ []) × (outside_next row e ≡ [])
    go true q = h 0 e refl q
    go false q = no_operation row e q

-- ---- the frame at the end of a way

module _ (i : Instance) (f : Frame) (t : ℕ) (w : List ℕ) (sh : RowShows i f t w) (fits : TreeFits IsKnown (place_there i f w))
    (facts : Facts (row_at i f t) (place_there i f w) (numbers_on w (number_of i))) where
  abbrev j : Instance
  j = place_there i f w

  abbrev row : SlotValues
  row = row_at i f t

  abbrev here : Numbering
  here = numbering_of j (numbers_on w (number_of i))

  on_there : (c : Clock) → ClockFits j (IsKnown j) c → r.is_on row (switch_of here c) ≡ is_on (scene_there i f w) c t
  on_there c h = switch_is row here c ∙ clock_there i f t w sh c h

  by_clock : (c : Clock) → ClockFits j (IsKnown j) c → (e : Expression) → QuietBySlot row j (numbers_on w (number_of i)) c e → IsQuiet i f t w c e
  by_clock c h e q = subst (λ b. outside row b (resolution_there i f w e) ≡ []) (on_there c h) q

  side_there : (e : Equation) → EquationFits j (IsKnown j) e → SideQuiet row j (numbers_on w (number_of i)) e →
      IsQuiet i f t w (clock_of_names (component_of j) e.names) e.right
  side_there e h a =
      by_clock (clock_of_names (component_of j) e.names) h.clock e.right
      (right_quiet row (r.is_on row (switch_of here (clock_of_names (component_of j) e.names))) here e.right a)

  memory_there : (k : ℕ) (c : Clock) (a : Expression) → IsMemory j (IsKnown j) k c a → IsQuiet i f t w c a
  memory_there k c a e =
      let m : Memory = record { number = k; clock = c; operand = a } in
      let h : MemoryFits j (IsKnown j) m =
      find_has (MemoryFits j (IsKnown j)) _ (memories (component_of j)) m (own_fits IsKnown j fits).memories e in
      let low : 1 ≤ k = (let x = h.counted in omega (arith, x)) in
      let high : k < 1 + length (memories (component_of j)) = (let x = h.counted in let y = h.listed in omega (arith, x, y)) in
      by_clock c h.clock a
      (find_has (λ z. QuietBySlot row j (numbers_on w (number_of i)) z.clock z.operand) _ (in_order (λ p. p.number) (memories (component_of j))) m
      facts.memories (found_in_order (λ (y : Memory). y.number) (memories (component_of j)) k m e low high))

  call_there : (k : ℕ) → 0 < k → pred k < count_of (calls_of j) →
      EachQuiet i f t w (site_of j k).clock (call_condition (site_of j k) (site_of j k).manner ++ (site_of j k).arguments)
  call_there k h l =
      let q : SiteQuiet row j (numbers_on w (number_of i)) (site_of j k) =
      site_there row j (numbers_on w (number_of i)) (calls_of j) (pred k) l facts.calls in
      all_from (QuietBySlot row j (numbers_on w (number_of i)) (site_of j k).clock) (IsQuiet i f t w (site_of j k).clock)
      (λ e a. by_clock (site_of j k).clock q.0 e a) (call_condition (site_of j k) (site_of j k).manner ++ (site_of j k).arguments) q.1

  pub frame_quiet : IsFrameQuiet i f t w
  frame_quiet = record {
    rights = all_from_both (EquationFits j (IsKnown j)) (SideQuiet row j (numbers_on w (number_of i)))
        (λ e. IsQuiet i f t w (clock_of_names (component_of j) e.names) e.right) side_there (equations (component_of j))
        (own_fits IsKnown j fits).equations facts.rights;
    memories = memory_there;
    calls = call_there;
  }

pub frames_are_quiet : FramesAreQuiet
frames_are_quiet p c n j m f run t l w a h =
    let i : Instance = instance_of p n in
    let fits : TreeFits IsKnown i = (each_is_well_typed p c n j).0.tree in
    let tree = tree_quiet (row_at i f t) plain i (number_of i) always [] [] refl (some_frame i) (some_made p c n j) fits
    (from_slots (row_at i f t) (sources_of i) h) in
    frame_quiet i f t w (rows_show p c n j m f run t l w a) (stands_there i f w a fits).fits
    (facts_along (row_at i f t) w i (number_of i) throughout f fits a tree.0)
