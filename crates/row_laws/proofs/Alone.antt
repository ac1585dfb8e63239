-- The sources of a declaration read slots of places, and each of these is read.
use Rattle.std.proofs.Common.{◌≡◌, ℕ, zero, suc, pred, ◌+◌, ◌<◌, true, List, [], ◌∷◌, ◌++◌, map, refl, ap, ◌∙◌, sym, subst, arith, Option, Some, None, unwrap_or}
use Rattle.std.specs.List.{AllByRecursion}
use Rattle.std.specs.Map.{lookup}
use Rattle.std.specs.Str.{bytes_eq}
use Rattle.lus_tree.specs.declared.place.Sort.{Sort}
use Rattle.lus_tree.specs.declared.place.Sort.TheVariants.{Bool as Flags}
use Rattle.lus_tree.specs.Tree.{Name, Variable, Expression, ContractStatement, Component}
use Rattle.lus_meaning.specs.Scene.{Clock, base, sampled_by, Manner, plain, while_true, as_import, Site, Instance, Instances, instance, no_instances, with_instance, component_of, calls_of, call_instance, outputs_of, clock_from, clock_of_names, variables, Scene}
use Rattle.lus_meaning.specs.Occurrences.{Memory, memories, Start, starts}
use Rattle.lus_meaning.specs.Program.{in_order}
use Rattle.lus_meaning.specs.Run.{Equation, equations, inputs_of, sort_of_name}
use Rattle.lus_meaning.specs.Depends.{Need, the_beat, a_name, needs, modes_need, Rank, below_calls, IsRanked, CallsRanked}
use Rattle.lus_meaning.proofs.InOrder.{in_order_all}
use Rattle.lus_meaning.proofs.Lists.{all_from, both_parts, mapped_all}
use Rattle.sys_meaning.specs.Slot.{Spot, beat, named, Place, own}
use Rattle.sys_meaning.specs.Defaults.{site_of}
use Rattle.sys_meaning.specs.System.{below_call}
use Rattle.sys_meaning.specs.WellTyped.{IsKnown, IsCall, IsNameOn, StreamFits, EquationFits, MemoryFits, StartFits, Stands, ClockEnds, ClockFits, OwnFits, CallFits, MannerFits, CallsFit, TreeFits, HasPlaceIn}
use Rattle.sys_meaning.proofs.Forward.{drop_calls, calls_later, later_calls}
use Rattle.sys_meaning.proofs.Shows.{in_any}
use Rattle.slot_values.specs.Resolution.{Resolution}
use Rattle.slot_values.specs.Resolved.{Numbering, resolution, right_resolutions}
use Rattle.evaluation_laws.specs.Resolvings.{resolvings}
use Rattle.slot_sources.specs.declared.source.Switch.{Switch}
use Rattle.slot_sources.specs.Source.{Source, given, same, listed}
use Rattle.slot_sources.specs.Rows.{reads_now, reads_before, slots_read}
use Rattle.slot_sources.specs.Sources as sources
use Rattle.slot_sources.specs.Sources.{numbering_of, switch_of, NameSources, paired, equation_sources, name_source, name_sources, call_beat, beat_source, argument_source, shared_sources, from_call, held_sources, memory_source, start_source, contract_sources, own_sources, sources_in, call_sources, sources_of}
use Rattle.row_laws.proofs.Lists.{found_has}
use Rattle.row_laws.proofs.Ranking.{spot_read, Ranking, called, call_of_number}
use Rattle.row_laws.proofs.Needed.{IsLow, NeedLow, reads_low, rights_low}
use Rattle.row_laws.proofs.ModesNeeded.{modes_low}
use Rattle.row_laws.proofs.Ranks.{instance_here, there}
use Rattle.lus_meaning.specs.Value.{Instants}
use Rattle.lus_meaning.specs.Frame.{Frame, call_frame}
use Rattle.lus_meaning.specs.Contract.{scene}
use Rattle.lus_meaning.specs.Run.{active}
use Rattle.lus_evaluation.specs.Past.{scene_on}
use Rattle.slot_values.specs.FrameRow.{numbering}
use Rattle.evaluation_laws.specs.Resolvings.{at_numbers}
use Rattle.evaluation_laws.specs.Rows.{AreCalls, numbers_on}

over_map : {A B : Type 0} (P : B → Type 0) (f : A → B) (xs : List A) → AllByRecursion (λ x. P (f x)) xs → AllByRecursion P (map f xs)
over_map P f [] a = tt
over_map P f (x ∷ xs) a = (a.0, over_map P f xs a.1)

module _ (rank : ℕ → ℕ) (b : ℕ) (R : ℕ → Type 0) (low : (j : ℕ) → IsLow rank b j → R j) where
  -- a source reads such slots alone
  abbrev pub SourceReads : Source → Type 0
  SourceReads e = AllByRecursion R (reads_now e) × AllByRecursion R (reads_before e)

  abbrev AreReading : NameSources → Type 0
  AreReading es = AllByRecursion (λ q. SourceReads q.1) es

  -- the places of a frame have such slots, and the ranks of its names are below the bound
  pub record Seeing (i : Instance) : Type 0 where
    pub v : Ranking rank i
    pub read : (ks : List ℕ) (p : Spot) (z : Sort) → spot_read p ≡ true → HasPlaceIn IsKnown (as_import []) ks i p z → R (v.at (ks, p))
    pub bounded : (ks : List ℕ) (x : Name) → v.r ks (Some x) < b

  module _ (i : Instance) (w : Seeing i) where
    abbrev g : Numbering
    g = numbering_of i w.v.at

    beat_read : R (w.v.at (own beat))
    beat_read = w.read [] beat Flags refl refl

    name_read : (x : Name) → IsNameOn i (IsKnown i) base x → R (w.v.at (own (named x)))
    name_read x h = w.read [] (named x) (sort_of_name i x) refl (h.declared, h.stream, refl)

    ends_read : (m : ℕ) (c : Clock) → ClockEnds i (IsKnown i) m c → R (switch_of g c).slot
    ends_read m base h = beat_read
    ends_read zero (sampled_by q x) h = absurd h
    ends_read (suc m) (sampled_by q x) h = w.read [] (named x) (sort_of_name i x) refl (h.0.declared, h.0.stream, refl)

    switch_read : (c : Clock) → ClockFits i (IsKnown i) c → R (switch_of g c).slot
    switch_read c h = ends_read _ c h

    all_needs : (ns : List Need) → AllByRecursion (NeedLow rank b w.v.r) ns
    all_needs [] = tt
    all_needs (the_beat ∷ ns) = (tt, all_needs ns)
    all_needs (a_name ks x ∷ ns) = (w.bounded ks x, all_needs ns)

    expression_read : (c : Clock) (e : Expression) → Stands i (IsKnown i) c e → AllByRecursion R (slots_read (resolution g e))
    expression_read c e h =
        all_from (IsLow rank b) R low (slots_read (resolution g e))
        (reads_low rank b i w.v (IsKnown i) (modes_need i) (resolvings i) (modes_low rank b i w.v) e c h (all_needs (needs i (modes_need i) c e)))

    rights_read : (c : Clock) (e : Expression) → Stands i (IsKnown i) c e → AllByRecursion (λ r. AllByRecursion R (slots_read r)) (right_resolutions g e)
    rights_read c e h =
        all_from (λ r. AllByRecursion (IsLow rank b) (slots_read r)) (λ r. AllByRecursion R (slots_read r))
        (λ r a. all_from (IsLow rank b) R low (slots_read r) a) (right_resolutions g e)
        (rights_low rank b i w.v (IsKnown i) (modes_need i) (resolvings i) (modes_low rank b i w.v) e c h (all_needs (needs i (modes_need i) c e)))

    -- ---- equations

    pairs_reading : (y : Switch) → R y.slot → (xs : List Name) (rs : List Resolution) → AllByRecursion (λ r. AllByRecursion R (slots_read r)) rs →
        AreReading (paired xs (map (given y) rs))
    pairs_reading y h [] rs a = tt
    pairs_reading y h (x ∷ xs) [] a = tt
    pairs_reading y h (x ∷ xs) (e ∷ rs) a = (((h, a.0), tt), pairs_reading y h xs rs a.1)

    equations_reading : (es : List Equation) → AllByRecursion (EquationFits i (IsKnown i)) es → AreReading (equation_sources g es)
    equations_reading [] a = tt
    equations_reading (e ∷ es) a =
        let c : Clock = clock_of_names (component_of i) e.names in
        both_parts (λ q. SourceReads q.1) (paired e.names (map (given (switch_of g c)) (right_resolutions g e.right))) (equation_sources g es)
        (pairs_reading (switch_of g c) (switch_read c a.0.clock) e.names (right_resolutions g e.right) (rights_read c e.right a.0.right))
        (equations_reading es a.1)

    -- ---- the frame's own

    name_reading : (es : NameSources) → AreReading es → (x : Variable) → StreamFits i (IsKnown i) x → SourceReads (name_source g es x)
    name_reading es a x h = go (lookup (bytes_eq x.name.text) es) refl
      where
        go : (o : Option Source) → lookup (bytes_eq x.name.text) es ≡ o → SourceReads (unwrap_or o (listed (switch_of g (clock_from x.clock))))
        go None d = ((switch_read (clock_from x.clock) h.clock, tt), tt)
        go (Some e) d = found_has (λ y z. SourceReads z) x.name.text es a e d

    contract_reading : (m : Manner) (o : Option (List ContractStatement)) → AllByRecursion SourceReads (contract_sources m o)
    contract_reading plain None = tt
    contract_reading (while_true a) None = tt
    contract_reading (as_import xs) None = tt
    contract_reading (as_import xs) (Some cs) = tt
    contract_reading plain (Some cs) = ((tt, tt), tt)
    contract_reading (while_true a) (Some cs) = ((tt, tt), tt)

    own_reading : (m : Manner) (e : Source) → SourceReads e → (fc : NameSources) → AreReading fc → OwnFits i (IsKnown i) →
        AllByRecursion SourceReads (own_sources m g e fc)
    own_reading m e h fc a fits = (
      h,
      both_parts SourceReads (name_sources g fc) _
          (over_map SourceReads (name_source g es) (variables d)
          (all_from (StreamFits i (IsKnown i)) (λ x. SourceReads (name_source g es x)) (name_reading es all) (variables d) fits.streams))
          (both_parts SourceReads (map (memory_source g) (in_order (λ p. p.number) (memories d))) _
          (over_map SourceReads (memory_source g) (in_order (λ p. p.number) (memories d))
          (all_from (MemoryFits i (IsKnown i)) (λ x. SourceReads (memory_source g x))
          (λ x y. (tt, (switch_read x.clock y.clock, expression_read x.clock x.operand y.operand))) (in_order (λ p. p.number) (memories d))
          (in_order_all (λ (x : Memory). x.number) (MemoryFits i (IsKnown i)) (memories d) fits.memories)))
          (both_parts SourceReads (map (start_source g) (in_order (λ p. p.number) (starts d))) (contract_sources m d.contract)
          (over_map SourceReads (start_source g) (in_order (λ p. p.number) (starts d))
          (all_from (StartFits i (IsKnown i)) (λ x. SourceReads (start_source g x)) (λ x y. (tt, (switch_read x.clock y.clock, tt)))
          (in_order (λ p. p.number) (starts d))
          (in_order_all (λ (x : Start). x.number) (StartFits i (IsKnown i)) (starts d) fits.starts)))
          (contract_reading m d.contract))),
    )
      where
        d : Component
        d = component_of i

        es : NameSources
        es = fc ++ equation_sources g (equations (component_of i))

        all : AreReading es
        all = both_parts (λ q. SourceReads q.1) fc (equation_sources g (equations (component_of i))) a
            (equations_reading (equations (component_of i)) fits.equations)

    -- ---- a call

    module _ (c : Site) (k : Instance) (rest : Instances) (p : ℕ) (fit : CallFits IsKnown i c k p)
        (e : drop_calls p (calls_of i) ≡ with_instance c k rest) (rs : Rank) (same_ranks : (ks : List ℕ) (x : Option Name) → rs ks x ≡ w.v.r (p ∷ ks) x)
        (ranked : IsRanked k rs) (fits : TreeFits IsKnown k) where
      abbrev below : Seeing k
      below = record {
        v = there rank i w.v c k rest p fit e rs same_ranks ranked fits;
        read = λ ks q z l o. subst (λ y. R (w.v.at (y ∷ ks, q))) (sym fit.number)
            (w.read (suc p ∷ ks) q z l (
              fit.call,
              in_any IsKnown (site_of i (suc p)).manner ks (call_instance i (suc p)) q z
                  (subst (λ y. HasPlaceIn IsKnown (as_import []) ks y q z)
                  (sym (instance_here rank i w.v c k rest p fit e rs same_ranks ranked fits)) o),
            ));
        bounded = λ ks x. subst (λ z. z < b) (sym (same_ranks ks (Some x))) (w.bounded (p ∷ ks) x);
      }

      callee_beat : R (call_beat g c)
      callee_beat = below.read [] beat Flags refl refl

      beat_reading : (m : Manner) → MannerFits IsKnown i c.clock m k → SourceReads (beat_source g c m)
      beat_reading plain o = ((switch_read c.clock fit.clock, tt), tt)
      beat_reading (while_true x) o = ((switch_read c.clock fit.clock, expression_read c.clock x o.0), tt)
      beat_reading (as_import xs) o = ((beat_read, tt), tt)

      arguments_reading : (ys : List Name) (as_ : List Expression) → AllByRecursion (Stands i (IsKnown i) c.clock) as_ →
          AreReading (paired ys (map (argument_source g c) as_))
      arguments_reading [] as_ h = tt
      arguments_reading (y ∷ ys) [] h = tt
      arguments_reading (y ∷ ys) (x ∷ as_) h =
          (((callee_beat, (switch_read c.clock fit.clock, expression_read c.clock x h.0)), tt), arguments_reading ys as_ h.1)

      names_reading : (ys xs : List Name) → AllByRecursion (IsNameOn i (IsKnown i) base) xs →
          AreReading (paired ys (map (λ x. same (w.v.at (own (named x)))) xs))
      names_reading [] xs h = tt
      names_reading (y ∷ ys) [] h = tt
      names_reading (y ∷ ys) (x ∷ xs) h = (((name_read x h.0, tt), tt), names_reading ys xs h.1)

      shared_reading : (m : Manner) → MannerFits IsKnown i c.clock m k → AreReading (shared_sources g m k)
      shared_reading plain o = tt
      shared_reading (while_true x) o = tt
      shared_reading (as_import xs) o = names_reading (outputs_of k) xs o.1

      call_reading : AreReading (from_call g c k)
      call_reading =
          both_parts (λ q. SourceReads q.1) (paired (inputs_of k) (map (argument_source g c) c.arguments)) (shared_sources g c.manner k)
          (arguments_reading (inputs_of k) c.arguments fit.arguments) (shared_reading c.manner fit.manner)

      helds_reading : (vs : List Variable) (ds : List Expression) → AllByRecursion (λ x. IsNameOn k (IsKnown k) base x.name.text) vs →
          AllByRecursion SourceReads (sources.held_each g c vs ds)
      helds_reading [] ds h = tt
      helds_reading (x ∷ vs) [] h = tt
      helds_reading (x ∷ vs) (d ∷ ds) h = (
        (tt, (callee_beat, (below.read [] (named x.name.text) (sort_of_name k x.name.text) refl (h.0.declared, h.0.stream, refl), tt))),
        helds_reading vs ds h.1,
      )

      held_reading : (m : Manner) → AllByRecursion SourceReads (held_sources g c (component_of k) m)
      held_reading plain = tt
      held_reading (as_import xs) = tt
      held_reading (while_true a) =
          helds_reading (component_of k).outputs c.defaults
          (mapped_all (IsNameOn k (IsKnown k) base) (λ x. x.name.text) (component_of k).outputs fit.outputs)

  -- ---- the frame at the end of a way

  abbrev seeing_called : (i : Instance) (w : Seeing i) (k : ℕ) → IsCall i (IsKnown i) k → Seeing (call_instance i k)
  seeing_called i w k c = record {
    v = called rank i w.v k c;
    read = λ ks p z q h. w.read (k ∷ ks) p z q (c, in_any IsKnown (site_of i k).manner ks (call_instance i k) p z h);
    bounded = λ ks x. w.bounded (pred k ∷ ks) x;
  }

  -- what the resolution of an expression there reads
  abbrev ReadsThere : Scene → (Place → ℕ) → Type 0
  ReadsThere s at =
      (c : Clock) (e : Expression) → Stands s.place (IsKnown s.place) c e →
      AllByRecursion R (slots_read (resolution (numbering s at (at_numbers at (resolvings s.place))) e))

  pub reads_there : (way : List ℕ) (i : Instance) (w : Seeing i) (o : Instants) (f : Frame) → AreCalls i way →
      ReadsThere (scene_on way i o f) (numbers_on way w.v.at)
  reads_there [] i w o f a = λ c e h. expression_read i w c e h
  reads_there (k ∷ way) i w o f a =
      let c : IsCall i (IsKnown i) k = call_of_number i w.v.fits k a.0 a.1 in
      reads_there way (call_instance i k) (seeing_called i w k c) (active (scene i o f) (site_of i k)) (call_frame f k) a.2

  mutual
    pub sources_reading : (m : Manner) (i : Instance) (w : Seeing i) (e : Source) → SourceReads e → (fc : NameSources) → AreReading fc →
        AllByRecursion SourceReads (sources_in m i w.v.at e fc)
    sources_reading m (instance d cs is) w e h fc a =
        both_parts SourceReads (own_sources m (numbering_of (instance d cs is) w.v.at) e fc) (call_sources (numbering_of (instance d cs is) w.v.at) is)
        (own_reading (instance d cs is) w m e h fc a w.v.fits.0)
        (calls_reading (instance d cs is) w is 0 refl (below_calls w.v.r)
        (λ j q l ks x. ap (λ z. w.v.r (z ∷ ks) x) (let y : j ≡ q = omega (arith, l) in y)) w.v.ranked.2 w.v.fits.1)

    calls_reading : (i : Instance) (w : Seeing i) (is : Instances) (p : ℕ) → drop_calls p (calls_of i) ≡ is → (rs : ℕ → Rank) →
        ((j q : ℕ) → q ≡ j + p → (ks : List ℕ) (x : Option Name) → rs j ks x ≡ w.v.r (q ∷ ks) x) → CallsRanked i w.v.r rs is →
        CallsFit IsKnown i is p → AllByRecursion SourceReads (call_sources (numbering_of i w.v.at) is)
    calls_reading i w no_instances p e rs h a fits = tt
    calls_reading i w (with_instance c k is) p e rs h a fits =
        let here : (ks : List ℕ) (x : Option Name) → rs 0 ks x ≡ w.v.r (p ∷ ks) x = h 0 p (omega arith) in
        both_parts SourceReads (held_sources (numbering_of i w.v.at) c (component_of k) c.manner) _
        (held_reading i w c k is p fits.0 e (rs 0) here a.3 fits.1 c.manner)
        (both_parts SourceReads
        (sources_in c.manner k (below_call c.number w.v.at) (beat_source (numbering_of i w.v.at) c c.manner) (from_call (numbering_of i w.v.at) c k))
        (call_sources (numbering_of i w.v.at) is)
        (sources_reading c.manner k (below i w c k is p fits.0 e (rs 0) here a.3 fits.1) (beat_source (numbering_of i w.v.at) c c.manner)
        (beat_reading i w c k is p fits.0 e (rs 0) here a.3 fits.1 c.manner fits.0.manner) (from_call (numbering_of i w.v.at) c k)
        (call_reading i w c k is p fits.0 e (rs 0) here a.3 fits.1))
        (calls_reading i w is (suc p) (calls_later p (calls_of i) ∙ ap later_calls e) (λ j. rs (suc j))
        (λ j q l. h (suc j) q (omega (arith, l))) a.4 fits.2))
