-- What is said of frames by tables is what the translation says.
use Rattle.std.proofs.Common.{◌≡◌, ℕ, zero, suc, Bool, true, false, cond, List, [], ◌∷◌, ◌++◌, map, flat_map, length, append_assoc, Option, Some, None, refl, sym, ap, ◌∙◌}
use Rattle.std.specs.Prelude.{slice_get, is_some}
use Rattle.std.specs.List.{AllByRecursion}
use Rattle.std.proofs.lemmas.List.{append-nil, map-append}
use Rattle.lus_tree.specs.declared.place.Sort.TheVariants.{Bool as Flags}
use Rattle.lus_tree.specs.Tree.{Name, Variable, ContractStatement, Component}
use Rattle.lus_meaning.specs.Occurrences.{Memory, memories, Start, starts}
use Rattle.lus_meaning.specs.Program.{in_order}
use Rattle.lus_meaning.specs.Value.{Value}
use Rattle.lus_meaning.specs.Run.{inputs_of, sort_of, sort_of_name}
use Rattle.lus_meaning.specs.Scene.{Manner, plain, while_true, as_import, Site, Instance, Instances, instance, no_instances, with_instance, component_of, constants_of, contract_statements, ghosts, variables}
use Rattle.lus_meaning.specs.Slots.{Cell, name_cell, memory_cell, start_cell, contract_cells, own_cells, held_cells, Slot, slot, cell_sort, slots_in, call_slots, slots}
use Rattle.lus_meaning.proofs.Exists.{length_mapped}
use Rattle.kind_num.specs.declared.Shape.{Shape}
use Rattle.lus_limits.specs.Calls.{way_of}
use Rattle.lus_limits.specs.declared.calls.Way.{Way}
use Rattle.lus_limits.specs.declared.calls.Way.TheVariants.{Plain}
use Rattle.sys_terms.specs.View.{Formula, negation, both, same, Machine}
use Rattle.sys_meaning.specs.Part.{Part, a_flag, all_of, some_of, variable}
use Rattle.sys_meaning.specs.Slot.{Place, own, beat, so_far, in_call}
use Rattle.sys_meaning.specs.Items.{ModeItem}
use Rattle.sys_meaning.specs.System.{Sources, Written, assumed, asserts_in, asserts_of, below_call, calls_asserts, calls_first, calls_here, calls_next, contract_of, first_of, from_call, has_so_far, held_first, held_next, here_of, memory_next, names_here, next_of, paired, shape_of, shared_outputs, so_far_first, so_far_next, stage, start_next, starts_first}
use Rattle.sys_meaning.specs.System as y
use Rattle.sys_meaning.specs.Translate.{Stage, flag_at, term_of}
use Rattle.sys_meaning.specs.Translate as t
use Rattle.sys_texts.specs.Sights.{Sight, Mode, Call, name_part}
use Rattle.sys_texts.specs.Sights as x
use Rattle.sys_texts.specs.Texts.{part_of, sort_by}
use Rattle.sys_texts.specs.Laws.{IsSightOf, IsSteady}
use Rattle.sys_texts.proofs.Terms.{parts_are, sort_is}
use Rattle.sys_contracts.specs.Items.{Items, one_mode, promises}
use Rattle.sys_contracts.specs.Laws.{mode_at, items_at}
use Rattle.sys_conditions.specs.Conditioned.{assert_conditions, at_first, body_properties, memory_conditions, owed, runs_where, start_conditions}
use Rattle.sys_conditions.specs.Laws.{AreConditionsOf}
use Rattle.sys_conditions.proofs.Translated.{conditions_are}
use Rattle.sys_tables.specs.Tabled.{Linked, Tabled, named_stream}
use Rattle.sys_tables.specs.Numbers.{behind_own, frame_base, sight_at}
use Rattle.sys_frames.specs.Lists.{Lists, joined}
use Rattle.sys_frames.specs.Streams.{streams_here}
use Rattle.sys_frames.specs.Walked.{ItemsOf, ListsOf, active_where, call_lists, call_lists_or_none, calls_lists, given_by, held_lists, items_within, lists_below, lists_or_none, lists_seen, lists_within, machine_of, outputs_given, owed_by, owed_by_calls, owed_within, own_lists, own_shapes, properties_over, so_far_of, so_far_shapes, system_over, system_within}
use Rattle.sys_frames.specs.Walked as w
use Rattle.sys_frames.proofs.Given.{zipped, none_zipped, paired_zipped, zipped_behind, names_so}
use Rattle.sys_frames.proofs.Items.{items_so, sees_modes}
use Rattle.sys_frames.proofs.Seen.{HasNames, SeesOwn, SeesCall, Seen, CallsSeen}

-- ---- lists

abbrev lists : List Shape → List Formula → List Formula → List Formula → List Formula → Lists
lists a b c d e = record { shapes = a; first = b; here = c; next = d; asserts = e }

same_lists : (a a' : List Shape) (b b' c c' d d' e e' : List Formula) → a ≡ a' → b ≡ b' → c ≡ c' → d ≡ d' → e ≡ e' → lists a b c d e ≡ lists a' b' c' d' e'
same_lists a a' b b' c c' d d' e e' ha hb hc hd he =
    ap (λ z. lists z b c d e) ha ∙ (ap (λ z. lists a' z c d e) hb ∙ (ap (λ z. lists a' b' z d e) hc
    ∙ (ap (λ z. lists a' b' c' z e) hd ∙ ap (lists a' b' c' d') he)))

-- three lists one behind the other, the middle one first
twice : {A B C : Type 0} (f : B → C) (h : A → B) (xs : List A) → map f (map h xs) ≡ map (λ x. f (h x)) xs
twice f h [] = refl
twice f h (x ∷ xs) = ap (λ l. f (h x) ∷ l) (twice f h xs)

each_of : {A B : Type 0} (f h : A → B) → ((x : A) → f x ≡ h x) → (xs : List A) → map f xs ≡ map h xs
each_of f h e [] = refl
each_of f h e (x ∷ xs) = ap (λ y. y ∷ map f xs) (e x) ∙ ap (λ l. h x ∷ l) (each_of f h e xs)

each_of_all : {A B : Type 0} (P : A → Type 0) (f h : A → B) → ((x : A) → P x → f x ≡ h x) → (xs : List A) → AllByRecursion P xs → map f xs ≡ map h xs
each_of_all P f h e [] a = refl
each_of_all P f h e (x ∷ xs) a = ap (λ y. y ∷ map f xs) (e x a.0) ∙ ap (λ l. h x ∷ l) (each_of_all P f h e xs a.1)

-- ---- in the translation

abbrev shape_at : Slot → Shape
shape_at p = shape_of p.sort

abbrev cell_shape : Instance → Cell → Shape
cell_shape i c = shape_of (cell_sort i c)

abbrev pub said : Manner → List ℕ → Instance → (Place → ℕ) → Formula → Sources → Lists
said m path i at active given =
    lists (map shape_at (slots_in m path i)) (first_of m i at) (here_of i at active given) (next_of m i at) (asserts_in i at)

abbrev said_of_calls : Instance → List ℕ → Instances → Stage → Lists
said_of_calls i path is g =
    lists (map shape_at (call_slots i path is)) (calls_first is g) (calls_here is g) (calls_next is g) (calls_asserts is g)

abbrev said_own : Manner → List ℕ → Instance → (Place → ℕ) → Formula → Sources → Lists
said_own m path i at active given =
    lists (map shape_at (map (slot i path) (own_cells m (component_of i))))
    (starts_first (stage i at) ++ so_far_first (stage i at) m)
    (active ∷ names_here (stage i at) given)
    (map (memory_next (stage i at)) (in_order (λ m. m.number) (memories (component_of i)))
    ++ (map (start_next (stage i at)) (in_order (λ a. a.number) (starts (component_of i))) ++ so_far_next (stage i at) m))
    (asserts_of (stage i at))

parts_joined : (m : Manner) (path : List ℕ) (n : Component) (cs : List (Name × Value)) (is : Instances) (at : Place → ℕ) (active : Formula) (given : Sources)
    → joined (said_own m path (instance n cs is) at active given) (said_of_calls (instance n cs is) path is (stage (instance n cs is) at))
    ≡ said m path (instance n cs is) at active given
parts_joined m path n cs is at active given =
    same_lists _ _ _ _ _ _ _ _ _ _
    (sym (map-append shape_at (map (slot (instance n cs is) path) (own_cells m n)) (call_slots (instance n cs is) path is)))
    refl refl
    (ap (λ l. l ++ calls_next is (stage (instance n cs is) at))
    (sym (append_assoc (map (memory_next (stage (instance n cs is) at)) (in_order (λ m. m.number) (memories n)))
    (map (start_next (stage (instance n cs is) at)) (in_order (λ a. a.number) (starts n))) (so_far_next (stage (instance n cs is) at) m))))
    refl

-- ---- a frame itself

-- whether a frame keeps that its assumptions were true
abbrev kept_by : Manner → Option (List ContractStatement) → Bool
kept_by (as_import xs) o = false
kept_by plain o = is_some o
kept_by (while_true a) o = is_some o

so_far_at_first : (g : Stage) (m : Manner) (b : Bool) → w.so_far_first (cond b (Some (g.number (own so_far))) None) ≡ cond b (flag_at g (own so_far) ∷ []) []
so_far_at_first g m true = refl
so_far_at_first g m false = refl

module _ (missing : ℕ) (t : Tabled) (v : Way) (b : ℕ) (m : Manner) (i : Instance) (at : Place → ℕ) (h : SeesOwn missing t v b m i at) where
  abbrev s : Sight
  s = sight_at t v b missing

  abbrev r : Items
  r = items_at at (contract_of i)

  abbrev d : Component
  d = component_of i

  abbrev g : Stage
  g = stage i at

  abbrev us : List Memory
  us = in_order (λ u. u.number) (memories d)

  abbrev as_ : List Start
  as_ = in_order (λ a. a.number) (starts d)

  seen : IsSightOf s r.modes g
  seen = sees_modes s i at h.sight

  pub conditions : AreConditionsOf s r.modes g
  conditions = conditions_are s r.modes g seen

  abbrev kept : Option ℕ
  kept = cond (has_so_far m d) (Some (at (own so_far))) None

  cells_shaped : (path : List ℕ) (a : List Cell) (b : List Cell) → map shape_at (map (slot i path) (a ++ b))
      ≡ map shape_at (map (slot i path) a) ++ map shape_at (map (slot i path) b)
  cells_shaped path a b = ap (map shape_at) (map-append (slot i path) a b) ∙ map-append shape_at (map (slot i path) a) (map (slot i path) b)

  streams_shaped : (path : List ℕ) (vs : List Variable) → map (λ v. shape_of v.variable.sort) (map (named_stream d) vs)
      ≡ map shape_at (map (slot i path) (map name_cell vs))
  streams_shaped path [] = refl
  streams_shaped path (x ∷ vs) = ap (λ l. shape_of x.sort ∷ l) (streams_shaped path vs)

  memories_shaped : (path : List ℕ) (ms : List Memory) → map (λ u. shape_of (sort_by s u.operand)) ms ≡ map shape_at (map (slot i path) (map memory_cell ms))
  memories_shaped path [] = refl
  memories_shaped path (u ∷ ms) =
      ap (λ z. shape_of z ∷ map (λ u. shape_of (sort_by s u.operand)) ms) (sort_is s r.modes g seen u.operand)
      ∙ ap (λ l. shape_of (sort_of i u.operand) ∷ l) (memories_shaped path ms)

  starts_shaped : (path : List ℕ) (ss : List Start) → map (λ (a : Start). shape_of Flags) ss ≡ map shape_at (map (slot i path) (map start_cell ss))
  starts_shaped path [] = refl
  starts_shaped path (a ∷ ss) = ap (λ l. shape_of Flags ∷ l) (starts_shaped path ss)

  kept_shaped : (path : List ℕ) → so_far_shapes kept ≡ map shape_at (map (slot i path) (contract_cells m d.contract))
  kept_shaped path = ap (λ z. so_far_shapes (cond z (Some (at (own so_far))) None)) (has m) ∙ go m d.contract
    where
      has : (m : Manner) → has_so_far m d ≡ kept_by m d.contract
      has plain = refl
      has (while_true a) = refl
      has (as_import xs) = refl

      go : (m : Manner) (o : Option (List ContractStatement)) → so_far_shapes (cond (kept_by m o) (Some (at (own so_far))) None)
          ≡ map shape_at (map (slot i path) (contract_cells m o))
      go plain None = refl
      go (while_true a) None = refl
      go (as_import xs) None = refl
      go plain (Some cs) = refl
      go (while_true a) (Some cs) = refl
      go (as_import xs) (Some cs) = refl

  own_shaped : (path : List ℕ) → own_shapes s t (so_far_of t v b) ≡ map shape_at (map (slot i path) (own_cells m d))
  own_shaped path =
      ap (λ l. shape_of Flags ∷ l)
      (ap (λ z. map (λ v. shape_of v.variable.sort) z
      ++ (map (λ u. shape_of (sort_by s u.operand)) t.memories ++ (map (λ (a : Start). shape_of Flags) t.starts ++ so_far_shapes (so_far_of t v b)))) h.streams
      ∙ (ap (λ l. l ++ (map (λ u. shape_of (sort_by s u.operand)) t.memories ++ (map (λ (a : Start). shape_of Flags) t.starts ++ so_far_shapes (so_far_of t v b))))
      (streams_shaped path (variables d))
      ∙ (ap (λ l. map shape_at (map (slot i path) (map name_cell (variables d))) ++ l)
      (ap (λ z. map (λ u. shape_of (sort_by s u.operand)) z ++ (map (λ (a : Start). shape_of Flags) t.starts ++ so_far_shapes (so_far_of t v b))) h.memories
      ∙ (ap (λ l. l ++ (map (λ (a : Start). shape_of Flags) t.starts ++ so_far_shapes (so_far_of t v b))) (memories_shaped path us)
      ∙ (ap (λ l. map shape_at (map (slot i path) (map memory_cell us)) ++ l)
      (ap (λ z. map (λ (a : Start). shape_of Flags) z ++ so_far_shapes (so_far_of t v b)) h.starts
      ∙ (ap (λ l. l ++ so_far_shapes (so_far_of t v b)) (starts_shaped path as_)
      ∙ (ap (λ z. map shape_at (map (slot i path) (map start_cell as_)) ++ so_far_shapes z) h.kept
      ∙ (ap (λ l. map shape_at (map (slot i path) (map start_cell as_)) ++ l) (kept_shaped path)
      ∙ sym (cells_shaped path (map start_cell as_) (contract_cells m d.contract))))))
      ∙ sym (cells_shaped path (map memory_cell us) (map start_cell as_ ++ contract_cells m d.contract)))))
      ∙ sym (cells_shaped path (map name_cell (variables d)) (map memory_cell us ++ (map start_cell as_ ++ contract_cells m d.contract))))))

  first_so : at_first s t.starts ++ w.so_far_first (so_far_of t v b) ≡ starts_first g ++ so_far_first g m
  first_so =
      ap (λ z. at_first s z ++ w.so_far_first (so_far_of t v b)) h.starts
      ∙ (ap (λ z. z ++ w.so_far_first (so_far_of t v b)) (conditions.first_starts as_)
      ∙ (ap (λ z. starts_first g ++ w.so_far_first z) h.kept ∙ ap (λ z. starts_first g ++ z) (so_far_at_first g m (has_so_far m d))))

  kept_next : (b : Bool) → w.so_far_next s (cond b (Some (at (own so_far))) None) (assumed i at)
      ≡ cond b (y.becomes g Flags so_far (a_flag (both (flag_at g (own so_far)) (negation (both (flag_at g (own beat)) (negation
      (all_of (assumed i at))))))) ∷ []) []
  kept_next true = ap (λ f. f ∷ []) (conditions.so_far (assumed i at))
  kept_next false = refl

  next_so : memory_conditions s r.modes t.memories ++ (start_conditions s t.starts ++ w.so_far_next s (so_far_of t v b) r.assumes)
      ≡ map (memory_next g) us ++ (map (start_next g) as_ ++ so_far_next g m)
  next_so =
      ap (λ z. memory_conditions s r.modes z ++ (start_conditions s t.starts ++ w.so_far_next s (so_far_of t v b) r.assumes)) h.memories
      ∙ (ap (λ z. z ++ (start_conditions s t.starts ++ w.so_far_next s (so_far_of t v b) r.assumes)) (conditions.memories us h.steady.memories)
      ∙ ap (λ z. map (memory_next g) us ++ z)
      (ap (λ z. start_conditions s z ++ w.so_far_next s (so_far_of t v b) r.assumes) h.starts
      ∙ (ap (λ z. z ++ w.so_far_next s (so_far_of t v b) r.assumes) (conditions.starts as_)
      ∙ (ap (λ z. map (start_next g) as_ ++ w.so_far_next s z r.assumes) h.kept ∙ ap (λ z. map (start_next g) as_ ++ z) (kept_next (has_so_far m d))))))

  here_so : (active : Formula) (ps : List Part) → active ∷ streams_here s r.modes t.streams ps ≡ active ∷ names_here g (zipped (variables d) ps)
  here_so active ps =
      ap (λ z. active ∷ streams_here s r.modes z ps) h.streams ∙ ap (λ z. active ∷ z) (names_so s r.modes g conditions h.steady.equations ps h.distinct)

  asserts_so : assert_conditions s r.modes t.component.body ≡ asserts_of g
  asserts_so = ap (λ z. assert_conditions s r.modes z.body) h.text ∙ conditions.assertions d.body h.steady.items

  pub own_so : (path : List ℕ) (active : Formula) (ps : List Part)
      → own_lists t s r (so_far_of t v b) active ps ≡ said_own m path i at active (zipped (variables d) ps)
  own_so path active ps = same_lists _ _ _ _ _ _ _ _ _ _ (own_shaped path) first_so (here_so active ps) next_so asserts_so

-- ---- its calls

module _ (missing : ℕ) (ts : List Tabled) where
  abbrev frames : ℕ → ListsOf
  frames d = lists_within d ts missing

  abbrev IH : ℕ → Tabled → Way → ℕ → Manner → Instance → (Place → ℕ) → Type 0
  IH d t v b m i at = (path : List ℕ) (active : Formula) (ps : List Part)
      → lists_within d ts missing t v b active ps ≡ said m path i at active (zipped (variables (component_of i)) ps)

  -- what a caller gives
  module _ (s : Sight) (ms : List Mode) (g : Stage) (h : IsSightOf s ms g) (k : Instance) where
    names_given : (xs : List Name) → map (name_part s) xs ≡ map (t.name_part g) xs
    names_given [] = refl
    names_given (n ∷ xs) =
        ap (λ z. variable z (x.name_number s n) ∷ map (name_part s) xs) (h.sorts n)
        ∙ (ap (λ z. variable (sort_of_name g.place n) z ∷ map (name_part s) xs) (h.numbers n)
        ∙ ap (λ l. t.name_part g n ∷ l) (names_given xs))

    shared_so : (m : Manner) (ws : List Variable) → HasNames m k
        → zipped ((component_of k).outputs ++ ws) (outputs_given s m) ≡ shared_outputs g m k
    shared_so plain ws e = none_zipped ((component_of k).outputs ++ ws)
    shared_so (while_true a) ws e = none_zipped ((component_of k).outputs ++ ws)
    shared_so (as_import xs) ws e =
        ap (zipped ((component_of k).outputs ++ ws)) (sym (append-nil (map (name_part s) xs)))
        ∙ (zipped_behind (component_of k).outputs ws (map (name_part s) xs) [] (length_mapped (name_part s) xs ∙ e)
        ∙ (ap (λ z. zipped (component_of k).outputs (map (name_part s) xs) ++ z) (none_zipped ws)
        ∙ (append-nil (zipped (component_of k).outputs (map (name_part s) xs))
        ∙ (ap (zipped (component_of k).outputs) (names_given xs)
        ∙ sym (paired_zipped (component_of k).outputs (map (t.name_part g) xs) (length_mapped (t.name_part g) xs ∙ e))))))

    abbrev inputs : List Variable
    inputs = (component_of k).inputs

    abbrev outputs : List Variable
    outputs = (component_of k).outputs

    abbrev locals : List Variable
    locals = (component_of k).locals

    abbrev more : List Variable
    more = ghosts (contract_statements (component_of k))

    pub given_so : (c : Site) → AllByRecursion (IsSteady (constants_of g.place)) c.arguments → length c.arguments ≡ length (component_of k).inputs
        → HasNames c.manner k → zipped (variables (component_of k)) (given_by s ms c) ≡ from_call g c k
    given_so c a e n =
        ap (λ vs. zipped vs (given_by s ms c)) (append_assoc (inputs ++ outputs) locals more ∙ append_assoc inputs outputs (locals ++ more))
        ∙ (zipped_behind inputs (outputs ++ (locals ++ more)) (map (part_of s ms) c.arguments) (outputs_given s c.manner)
        (length_mapped (part_of s ms) c.arguments ∙ e)
        ∙ (ap (λ z. zipped inputs z ++ zipped (outputs ++ (locals ++ more)) (outputs_given s c.manner))
        (each_of_all (IsSteady (constants_of g.place)) (part_of s ms) (term_of g) (λ z u. parts_are s ms g h z u) c.arguments a)
        ∙ (ap (λ z. z ++ zipped (outputs ++ (locals ++ more)) (outputs_given s c.manner))
        (sym (paired_zipped inputs (map (term_of g) c.arguments) (length_mapped (term_of g) c.arguments ∙ e)))
        ∙ ap (λ z. paired (inputs_of k) (map (term_of g) c.arguments) ++ z) (shared_so c.manner (locals ++ more) n))))

  -- what is held of a call is said of no state alone, and asserts nothing
  held_here : (q : Linked) (call : Call) (m : Manner) → (held_lists q.defaults call m).here ≡ []
  held_here q call plain = refl
  held_here q call (while_true a) = refl
  held_here q call (as_import xs) = refl

  held_asserts : (q : Linked) (call : Call) (m : Manner) → (held_lists q.defaults call m).asserts ≡ []
  held_asserts q call plain = refl
  held_asserts q call (while_true a) = refl
  held_asserts q call (as_import xs) = refl

  abbrev held_said : Instance → List ℕ → Stage → Site → Instance → Lists
  held_said i path g c k =
      lists (map shape_at (map (slot i path) (held_cells c (component_of k) c.manner))) (held_first g c c.manner k) [] (held_next g c c.manner k) []

  abbrev active_said : Stage → Site → Formula
  active_said g c = same (flag_at g (in_call c.number (own beat))) (y.runs_where g c c.manner)

  abbrev callee_said : List ℕ → (Place → ℕ) → Stage → Site → Instance → Lists
  callee_said path at g c k = said c.manner (path ++ c.number ∷ []) k (below_call c.number at) (active_said g c) (from_call g c k)

  module _ (s : Sight) (i : Instance) (at : Place → ℕ) (from : ℕ) (ms : List Mode) (sees : IsSightOf s ms (stage i at)) (path : List ℕ) where
    abbrev now : Stage
    now = stage i at

    held_so : (j : ℕ) (q : Linked) (c : Site) (k : Instance) (h : SeesCall missing i at s from j q c k)
        → held_lists q.defaults h.call q.site.manner ≡ held_said i path now c k
    held_so j q c k h =
        ap (λ z. held_lists q.defaults h.call z.manner) h.site
        ∙ same_lists _ _ _ _ _ _ _ _ _ _ (h.held_shapes path) h.held_at_first (held_here q h.call c.manner) h.held_later (held_asserts q h.call c.manner)

    active_so : (j : ℕ) (q : Linked) (c : Site) (k : Instance) (h : SeesCall missing i at s from j q c k)
        → active_where s ms c h.call ≡ active_said now c
    active_so j q c k h =
        ap (λ n. same (x.flag_at n) (runs_where s ms c.clock c.manner)) h.beats
        ∙ ap (same (flag_at now (in_call c.number (own beat)))) ((conditions_are s ms now sees).calls c h.manner)

    call_so : (d j : ℕ) (q : Linked) (c : Site) (k : Instance) (h : SeesCall missing i at s from j q c k) (u : Tabled) → slice_get ts q.place ≡ Some u
        → IH d u (way_of q.site.manner) (frame_base from q) c.manner k (below_call c.number at)
        → call_lists_or_none (frames d) ts s ms from q (slice_get s.calls j) ≡ joined (held_said i path now c k) (callee_said path at now c k)
    call_so d j q c k h u there f =
        ap (call_lists_or_none (frames d) ts s ms from q) h.seen
        ∙ (ap (λ z. joined z (lists_or_none (frames d) (slice_get ts q.place) (way_of q.site.manner) (frame_base from q) (active_where s ms q.site h.call)
        (given_by s ms q.site))) (held_so j q c k h)
        ∙ ap (joined (held_said i path now c k))
        (ap (λ o. lists_or_none (frames d) o (way_of q.site.manner) (frame_base from q) (active_where s ms q.site h.call) (given_by s ms q.site)) there
        ∙ (f (path ++ c.number ∷ []) (active_where s ms q.site h.call) (given_by s ms q.site)
        ∙ (ap (λ z. said c.manner (path ++ c.number ∷ []) k (below_call c.number at) (active_where s ms z h.call) (zipped (variables (component_of k)) (given_by s ms z)))
        h.site
        ∙ (ap (λ z. said c.manner (path ++ c.number ∷ []) k (below_call c.number at) z (zipped (variables (component_of k)) (given_by s ms c))) (active_so j q c k h)
        ∙ ap (said c.manner (path ++ c.number ∷ []) k (below_call c.number at) (active_said now c)) (given_so s ms now sees k c h.arguments h.many h.names))))))

  abbrev held_slots : Instance → List ℕ → Site → Instance → List Slot
  held_slots i path c k = map (slot i path) (held_cells c (component_of k) c.manner)

  abbrev callee_slots : List ℕ → Site → Instance → List Slot
  callee_slots path c k = slots_in c.manner (path ++ c.number ∷ []) k

  calls_joined : (i : Instance) (path : List ℕ) (c : Site) (k : Instance) (is : Instances) (at : Place → ℕ)
      → joined (joined (held_said i path (stage i at) c k) (callee_said path at (stage i at) c k)) (said_of_calls i path is (stage i at))
      ≡ said_of_calls i path (with_instance c k is) (stage i at)
  calls_joined i path c k is at =
      same_lists _ _ _ _ _ _ _ _ _ _
      (append_assoc (map shape_at (held_slots i path c k)) (map shape_at (callee_slots path c k)) (map shape_at (call_slots i path is))
      ∙ (ap (λ l. map shape_at (held_slots i path c k) ++ l) (sym (map-append shape_at (callee_slots path c k) (call_slots i path is)))
      ∙ sym (map-append shape_at (held_slots i path c k) (callee_slots path c k ++ call_slots i path is))))
      refl refl refl refl

  below_so : (d : ℕ) (i : Instance) (at : Place → ℕ) (s : Sight) (from : ℕ) (ms : List Mode) (path : List ℕ) (qs : List Linked) (is : Instances)
      → ((e : ℕ) → CallsSeen missing ts (suc e) i at s from 0 qs is → calls_lists (frames e) ts s ms from 0 qs ≡ said_of_calls i path is (stage i at))
      → CallsSeen missing ts d i at s from 0 qs is → lists_below d ts missing s ms from qs ≡ said_of_calls i path is (stage i at)
  below_so zero i at s from ms path [] no_instances f h = refl
  below_so zero i at s from ms path (q ∷ qs) no_instances f h = absurd h
  below_so zero i at s from ms path [] (with_instance c k is) f h = absurd h
  below_so zero i at s from ms path (q ∷ qs) (with_instance c k is) f h = absurd h
  below_so (suc d) i at s from ms path qs is f h = f d h

  mutual
    pub frame_so : (d : ℕ) (t : Tabled) (v : Way) (b : ℕ) (m : Manner) (i : Instance) (at : Place → ℕ) → Seen missing ts d t v b m i at → IH d t v b m i at
    frame_so d t v b m (instance n cs is) at h path active ps =
        ap (λ r. joined (own_lists t (sight_at t v b missing) r (so_far_of t v b) active ps)
        (lists_below d ts missing (sight_at t v b missing) r.modes (behind_own v t b) t.calls))
        (items_so missing ts d t v b m (instance n cs is) at h)
        ∙ (ap (λ z. joined z (lists_below d ts missing (sight_at t v b missing) (items_at at (contract_of (instance n cs is))).modes (behind_own v t b) t.calls))
        (own_so missing t v b m (instance n cs is) at h.0 path active ps)
        ∙ (ap (joined (said_own m path (instance n cs is) at active (zipped (variables n) ps)))
        (below_so d (instance n cs is) at (sight_at t v b missing) (behind_own v t b) (items_at at (contract_of (instance n cs is))).modes path t.calls is
        (λ e z. calls_so e (instance n cs is) at (sight_at t v b missing) (behind_own v t b) (items_at at (contract_of (instance n cs is))).modes
        (sees_modes (sight_at t v b missing) (instance n cs is) at h.0.sight) path 0 t.calls is z) h.1)
        ∙ parts_joined m path n cs is at active (zipped (variables n) ps)))

    calls_so : (d : ℕ) (i : Instance) (at : Place → ℕ) (s : Sight) (from : ℕ) (ms : List Mode) (sees : IsSightOf s ms (stage i at)) (path : List ℕ)
        (j : ℕ) (qs : List Linked) (is : Instances) → CallsSeen missing ts (suc d) i at s from j qs is
        → calls_lists (frames d) ts s ms from j qs ≡ said_of_calls i path is (stage i at)
    calls_so d i at s from ms sees path j [] no_instances h = refl
    calls_so d i at s from ms sees path j (q ∷ qs) no_instances h = absurd h
    calls_so d i at s from ms sees path j [] (with_instance c k is) h = absurd h
    calls_so d i at s from ms sees path j (q ∷ qs) (with_instance c k is) h =
        ap (λ z. joined z (calls_lists (frames d) ts s ms from (suc j) qs))
        (call_so s i at from ms sees path d j q c k h.0 h.1.0 h.1.1
        (frame_so d h.1.0 (way_of q.site.manner) (frame_base from q) c.manner k (below_call c.number at) h.1.2))
        ∙ (ap (joined (joined (held_said i path (stage i at) c k) (callee_said path at (stage i at) c k)))
        (calls_so d i at s from ms sees path (suc j) qs is h.2)
        ∙ calls_joined i path c k is at)

-- ---- the system

asked_so : (at : Place → ℕ) (ms : List (ModeItem Written)) → map (λ n. n.asked) (map (mode_at at) ms) ≡ map (λ m. m.asked at) ms
asked_so at [] = refl
asked_so at (m ∷ ms) = ap (λ l. m.asked at ∷ l) (asked_so at ms)

one_mode_so : (at : Place → ℕ) (ms : List (ModeItem Written)) → one_mode (map (mode_at at) ms) ≡ y.one_mode ms at
one_mode_so at [] = refl
one_mode_so at (m ∷ ms) = ap (λ l. some_of (m.asked at ∷ l) ∷ []) (asked_so at ms)

ensured_so : (at : Place → ℕ) (ms : List (ModeItem Written)) → flat_map (λ m. m.ensures_each) (map (mode_at at) ms) ≡ flat_map (λ m. map (λ f. f at) m.ensures_each) ms
ensured_so at [] = refl
ensured_so at (m ∷ ms) = ap (λ l. map (λ f. f at) m.ensures_each ++ l) (ensured_so at ms)

module _ (missing : ℕ) (ts : List Tabled) where
  abbrev items_of : ℕ → ItemsOf
  items_of d = items_within d ts missing

  owed_site : (d : ℕ) (q : Linked) (c : Site) (k : Instance) (g : Stage) (from : ℕ) (u : Tabled) (m : Manner) → slice_get ts q.place ≡ Some u
      → frame_base from q ≡ g.number (in_call c.number (own beat))
      → items_within d ts missing u (way_of m) (frame_base from q) ≡ items_at (below_call c.number g.number) (contract_of k)
      → owed_by (items_of d) (slice_get ts q.place) (frame_base from q) (frame_base from q) m ≡ y.owed_by_site g c m k
  owed_site d q c k g from u plain there at h =
      ap (λ o. owed_by (items_of d) o (frame_base from q) (frame_base from q) plain) there
      ∙ (ap (λ z. owed (frame_base from q) z.assumes) h ∙ ap (λ n. owed n (assumed k (below_call c.number g.number))) at)
  owed_site d q c k g from u (while_true a) there at h =
      ap (λ o. owed_by (items_of d) o (frame_base from q) (frame_base from q) (while_true a)) there
      ∙ (ap (λ z. owed (frame_base from q) z.assumes) h ∙ ap (λ n. owed n (assumed k (below_call c.number g.number))) at)
  owed_site d q c k g from u (as_import xs) there at h = refl

  owed_calls : (d : ℕ) (i : Instance) (at : Place → ℕ) (s : Sight) (from j : ℕ) (qs : List Linked) (is : Instances) → CallsSeen missing ts (suc d) i at s from j qs is
      → owed_by_calls (items_of d) ts from qs ≡ y.owed_by_calls (stage i at) is
  owed_calls d i at s from j [] no_instances h = refl
  owed_calls d i at s from j (q ∷ qs) no_instances h = absurd h
  owed_calls d i at s from j [] (with_instance c k is) h = absurd h
  owed_calls d i at s from j (q ∷ qs) (with_instance c k is) h =
      ap (λ z. z ++ owed_by_calls (items_of d) ts from qs)
      (owed_site d q c k (stage i at) from h.1.0 q.site.manner h.1.1 h.0.frame
      (items_so missing ts d h.1.0 (way_of q.site.manner) (frame_base from q) c.manner k (below_call c.number at) h.1.2)
      ∙ ap (λ z. y.owed_by_site (stage i at) c z.manner k) h.0.site)
      ∙ ap (λ l. y.owed_by_site (stage i at) c c.manner k ++ l) (owed_calls d i at s from (suc j) qs is h.2)

  owed_so : (d : ℕ) (i : Instance) (at : Place → ℕ) (t : Tabled) (s : Sight) (from : ℕ) (is : Instances) → CallsSeen missing ts d i at s from 0 t.calls is
      → owed_within d ts missing t from ≡ y.owed_by_calls (stage i at) is
  owed_so zero i at t s from is h = go t.calls is h
    where
      go : (qs : List Linked) (is : Instances) → CallsSeen missing ts zero i at s from 0 qs is → [] ≡ y.owed_by_calls (stage i at) is
      go [] no_instances h = refl
      go (q ∷ qs) no_instances h = absurd h
      go [] (with_instance c k is) h = absurd h
      go (q ∷ qs) (with_instance c k is) h = absurd h
  owed_so (suc d) i at t s from is h = owed_calls d i at s from 0 t.calls is h

  regroup : (b g e o w : List Formula) → b ++ (((g ++ e) ++ o) ++ w) ≡ (((b ++ g) ++ e) ++ o) ++ w
  regroup b g e o w = sym (ap (λ l. (l ++ o) ++ w) (append_assoc b g e) ∙ (ap (λ l. l ++ w) (append_assoc b (g ++ e) o) ∙ append_assoc b ((g ++ e) ++ o) w))

  abbrev plain_sight : Tabled → Sight
  plain_sight t = sight_at t Plain 0 missing

  abbrev items_said : Instance → (Place → ℕ) → Items
  items_said i at = items_at at (contract_of i)

  abbrev owes_within : ℕ → Tabled → List Formula
  owes_within d t = owed_within d ts missing t (behind_own Plain t 0)

  abbrev body_said : Instance → (Place → ℕ) → List Formula
  body_said i at = y.body_properties (stage i at) (component_of i).body

  abbrev ensured_said : Instance → (Place → ℕ) → List Formula
  ensured_said i at = flat_map (λ m. map (λ f. f at) m.ensures_each) (contract_of i).modes

  properties_so : (d : ℕ) (t : Tabled) (n : Component) (cs : List (Name × Value)) (is : Instances) (at : Place → ℕ)
      → Seen missing ts d t Plain 0 plain (instance n cs is) at
      → properties_over (plain_sight t) (items_said (instance n cs is) at) t (owes_within d t) ≡ y.properties_of (instance n cs is) at
  properties_so d t n cs is at h =
      ap (λ z. body_properties (plain_sight t) (items_said (instance n cs is) at).modes z.body ++ (promises (items_said (instance n cs is) at) ++ owes_within d t)) h.0.text
      ∙ (ap (λ z. z ++ (promises (items_said (instance n cs is) at) ++ owes_within d t))
      ((conditions missing t Plain 0 plain (instance n cs is) at h.0).properties n.body h.0.steady.items)
      ∙ (ap (λ z. body_said (instance n cs is) at
      ++ ((((items_said (instance n cs is) at).guarantees ++ z) ++ one_mode (items_said (instance n cs is) at).modes) ++ owes_within d t))
      (ensured_so at (contract_of (instance n cs is)).modes)
      ∙ (ap (λ z. body_said (instance n cs is) at
      ++ ((((items_said (instance n cs is) at).guarantees ++ ensured_said (instance n cs is) at) ++ z) ++ owes_within d t))
      (one_mode_so at (contract_of (instance n cs is)).modes)
      ∙ (ap (λ z. body_said (instance n cs is) at
      ++ ((((items_said (instance n cs is) at).guarantees ++ ensured_said (instance n cs is) at) ++ y.one_mode (contract_of (instance n cs is)).modes at) ++ z))
      (owed_so d (instance n cs is) at t (plain_sight t) (behind_own Plain t 0) is h.1)
      ∙ regroup (body_said (instance n cs is) at) (items_said (instance n cs is) at).guarantees (ensured_said (instance n cs is) at)
      (y.one_mode (contract_of (instance n cs is)).modes at) (y.owed_by_calls (stage (instance n cs is) at) is)))))

  abbrev machine : Instance → (Place → ℕ) → Machine
  machine i at = record {
    shapes = map shape_at (slots i);
    first = y.first_of plain i at;
    here = y.here_of i at (flag_at (stage i at) (own beat)) [];
    next = y.next_of plain i at;
    legal = y.legal_of i at;
    properties = y.properties_of i at;
  }

  whole_so : (d : ℕ) (t : Tabled) (n : Component) (cs : List (Name × Value)) (is : Instances) (at : Place → ℕ)
      → Seen missing ts d t Plain 0 plain (instance n cs is) at
      → lists_seen d ts missing t (plain_sight t) (items_said (instance n cs is) at) Plain 0 (x.flag_at (plain_sight t).beat) []
      ≡ said plain [] (instance n cs is) at (flag_at (stage (instance n cs is) at) (own beat)) []
  whole_so d t n cs is at h =
      ap (λ z. lists_seen d ts missing t (plain_sight t) z Plain 0 (x.flag_at (plain_sight t).beat) [])
      (sym (items_so missing ts d t Plain 0 plain (instance n cs is) at h))
      ∙ (frame_so missing ts d t Plain 0 plain (instance n cs is) at h [] (x.flag_at (plain_sight t).beat) []
      ∙ (ap (λ z. said plain [] (instance n cs is) at (x.flag_at z) (zipped (variables n) [])) h.0.sight.beats
      ∙ ap (said plain [] (instance n cs is) at (flag_at (stage (instance n cs is) at) (own beat))) (none_zipped (variables n))))

  pub system_so : (d : ℕ) (t : Tabled) (i : Instance) (at : Place → ℕ) → Seen missing ts d t Plain 0 plain i at → system_within d ts missing t ≡ machine i at
  system_so d t (instance n cs is) at h =
      ap (system_over d ts missing t (plain_sight t)) (items_so missing ts d t Plain 0 plain (instance n cs is) at h)
      ∙ (ap (λ z. machine_of z (items_said (instance n cs is) at).assumes
      (properties_over (plain_sight t) (items_said (instance n cs is) at) t (owes_within d t))) (whole_so d t n cs is at h)
      ∙ ap (machine_of (said plain [] (instance n cs is) at (flag_at (stage (instance n cs is) at) (own beat)) [])
      (items_said (instance n cs is) at).assumes) (properties_so d t n cs is at h))
