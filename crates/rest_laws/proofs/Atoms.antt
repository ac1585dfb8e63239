-- What the resolution of an expression reads is what its own parts read by themselves.
use Rattle.std.proofs.Common.{◌≡◌, ℕ, zero, suc, pred, ◌+◌, ◌<◌, Bool, true, false, cond, List, [], ◌∷◌, ◌++◌, map, slice_index_or, refl, ap, ◌∙◌, sym, subst, arith, Some, option_map, unwrap_or}
use Rattle.std.specs.List.{AllByRecursion}
use Rattle.std.specs.Map.{lookup}
use Rattle.lus_tree.specs.Tree.{Name, text_of, Expression, truth, number, name, negation, minus, pre, arrow, binary, choice, sampled, merged, call, condact, mode_name, Labelled, ContractStatement, assume, guarantee, ghost_variable, constant, mode, «import»}
use Rattle.lus_meaning.specs.Value.{flag}
use Rattle.lus_meaning.specs.Frame.{Frame}
use Rattle.lus_meaning.specs.Scene.{Clock, base, sampled_by, Instance, Instances, instance, no_instances, with_instance, component_of, instance_at, clock_of, contract_statements}
use Rattle.lus_meaning.specs.Meaning.{mode_key}
use Rattle.lus_meaning.specs.Cycle.{Place as NeededPlace}
use Rattle.lus_meaning.proofs.Lists.{both_parts}
use Rattle.lus_meaning.proofs.Now.{left_part, right_part}
use Rattle.sys_meaning.specs.Slot.{beat, named, memory, starting, held, Place, own, in_call}
use Rattle.sys_meaning.specs.Items.{Key, Known}
use Rattle.sys_meaning.specs.System.{number_of}
use Rattle.sys_meaning.specs.WellTyped.{IsKnown, IsImport, StatementsFit, own_keys, count_of, CallsFit}
use Rattle.sys_meaning.proofs.Forward.{own_fits}
use Rattle.lus_evaluation.specs.Part.{Part, ModeParts, Setting, needs_of, key_of, asked_in, part}
use Rattle.slot_values.specs.Resolution.{Resolution, known}
use Rattle.slot_values.specs.Resolved.{Numbering, resolution, right_resolutions, name_resolution, output_resolution, latest_resolution, outputs_at, first_resolution}
use Rattle.slot_values.specs.Parts.{own_parts}
use Rattle.evaluation_laws.specs.Resolvings.{Resolving, at_numbers, all_resolved, asked_resolving, imported_resolving, resolvings_after, resolvings, resolvings_each}
use Rattle.evaluation_laws.specs.Rows.{numbers_there}
use Rattle.slot_sources.specs.Rows.{slots_read}
use Rattle.order_laws.specs.Own.{own_setting, own_asked, imported_own, own_modes_after, own_modes, own_modes_each}
use Rattle.order_laws.proofs.Frames.{StandsAt, stands_called, numbers_further}

module _ (i : Instance) (f : Frame) (R : ℕ → Type 0) where
  -- what an expression reads by itself, by the numbers of its frame's places
  abbrev pub Atoms : Instance → (Place → ℕ) → Expression → Type 0
  Atoms j at (name p x) = AllByRecursion R (slots_read (name_resolution (record { place = j; number = at; modes = [] }) x))
  Atoms j at (pre p k a) = R (at (own (memory k)))
  Atoms j at (arrow p k a b) = R (at (own (starting k)))
  Atoms j at (sampled p a q x) = R (at (own (named x.text)))
  Atoms j at (merged p x a b) = R (at (own (named x.text)))
  Atoms j at (call p k z as_) =
      AllByRecursion (λ y. R (at (in_call k (own (named y))))) (outputs_at (record { place = j; number = at; modes = [] }) k)
  Atoms j at (condact p k a z as_ ds) =
      AllByRecursion (λ y. R (at (in_call k (own beat))) × R (at (in_call k (own (named y)))) × R (at (own (held k y))))
      (outputs_at (record { place = j; number = at; modes = [] }) k)
  Atoms j at _ = Unit {0}

  -- the instance at the end of a way, by any means
  module _ (there : List ℕ → Instance) where
    abbrev pub AtomsOf : Part → Type 0
    AtomsOf q = Atoms (there q.way) (numbers_there i q.way) q.expression

    abbrev Read : List Part → Type 0
    Read qs = AllByRecursion AtomsOf qs

    -- where the own parts of a mode read such slots by themselves, its resolution reads none but such
    abbrev ModeReads : (Place → ℕ) → Key × (List NeededPlace → List Part) → Key × Resolving → Type 0
    ModeReads at m q = (m.0 ≡ q.0) × ((ns : List NeededPlace) → Read (m.1 ns) → AllByRecursion R (slots_read (q.1 at)))

    abbrev pub ModesRead : (Place → ℕ) → ModeParts → Known Resolving → Type 0
    ModesRead at [] [] = Unit {0}
    ModesRead at (m ∷ ms) (q ∷ qs) = ModeReads at m q × ModesRead at ms qs
    ModesRead at [] (q ∷ qs) = ⊥
    ModesRead at (m ∷ ms) [] = ⊥

    modes_more : (at : Place → ℕ) (ms ns : ModeParts) (qs os : Known Resolving) → ModesRead at ms qs → ModesRead at ns os →
        ModesRead at (ms ++ ns) (qs ++ os)
    modes_more at [] ns [] os a c = c
    modes_more at [] ns (q ∷ qs) os a c = absurd a
    modes_more at (m ∷ ms) ns [] os a c = absurd a
    modes_more at (m ∷ ms) ns (q ∷ qs) os a c = (a.0, modes_more at ms ns qs os a.1 c)

    mode_found : (at : Place → ℕ) (key : Key) (ns : List NeededPlace) (ms : ModeParts) (qs : Known Resolving) → ModesRead at ms qs →
        Read ((unwrap_or (lookup (mode_key key) ms) (λ ns. [])) ns) →
        AllByRecursion R (slots_read (unwrap_or (lookup (mode_key key) (at_numbers at qs)) (known (flag false))))
    mode_found at key ns [] [] a h = tt
    mode_found at key ns [] (q ∷ qs) a h = absurd a
    mode_found at key ns (m ∷ ms) [] a h = absurd a
    mode_found at key ns (m ∷ ms) (q ∷ qs) a h =
        subst (λ z. AllByRecursion R (slots_read (unwrap_or (cond (mode_key key z) (Some (q.1 at)) (lookup (mode_key key) (at_numbers at qs)))
        (known (flag false))))) a.0.0 (go (mode_key key m.0) h (mode_found at key ns ms qs a.1))
      where
        go : (c : Bool) → Read ((unwrap_or (cond c (Some m.1) (lookup (mode_key key) ms)) (λ ns. [])) ns) →
            (Read ((unwrap_or (lookup (mode_key key) ms) (λ ns. [])) ns) →
            AllByRecursion R (slots_read (unwrap_or (lookup (mode_key key) (at_numbers at qs)) (known (flag false))))) →
            AllByRecursion R (slots_read (unwrap_or (cond c (Some (q.1 at)) (lookup (mode_key key) (at_numbers at qs))) (known (flag false))))
        go true h n = a.0.1 ns h
        go false h n = n h

    -- ---- an expression

    module _ (w : List ℕ) (j : Instance) (same : there w ≡ j) (ms : ModeParts) (qs : Known Resolving) (modes : ModesRead (numbers_there i w) ms qs) where
      abbrev at : Place → ℕ
      at = numbers_there i w

      abbrev g : Numbering
      g = record { place = j; number = at; modes = at_numbers at qs }

      abbrev h : Setting
      h = own_setting j w ms

      -- the last part is the expression itself
      ended : (os : List Part) (q : Part) → Read (os ++ q ∷ []) → Read os × AtomsOf q
      ended os q a = (left_part AtomsOf os (q ∷ []) a, (right_part AtomsOf os (q ∷ []) a).0)

      here : (ns : List NeededPlace) (xs : List Name) (c : Clock) (e : Expression) → AtomsOf (part h ns xs c e) → Atoms j at e
      here ns xs c e a = subst (λ z. Atoms z at e) same a

      two : (os us : List Part) → Read (os ++ us) → Read os × Read us
      two os us a = (left_part AtomsOf os us a, right_part AtomsOf os us a)

      outputs_read : (k : ℕ) (ys : List Name) → AllByRecursion (λ y. R (at (in_call k (own (named y))))) ys →
          AllByRecursion (λ r. AllByRecursion R (slots_read r)) (map (output_resolution g k) ys)
      outputs_read k [] a = tt
      outputs_read k (y ∷ ys) a = ((a.0, tt), outputs_read k ys a.1)

      latest_read : (k : ℕ) (r : Resolution) → AllByRecursion R (slots_read r) → (ys : List Name) →
          AllByRecursion (λ y. R (at (in_call k (own beat))) × R (at (in_call k (own (named y)))) × R (at (own (held k y)))) ys →
          AllByRecursion (λ r. AllByRecursion R (slots_read r)) (map (latest_resolution g k r) ys)
      latest_read k r b [] a = tt
      latest_read k r b (y ∷ ys) a = (both_parts R (slots_read r) _ b (a.0.0, (a.0.1, (a.0.2, tt))), latest_read k r b ys a.1)

      first_read : (rs : List Resolution) → AllByRecursion (λ r. AllByRecursion R (slots_read r)) rs → AllByRecursion R (slots_read (first_resolution rs))
      first_read [] a = tt
      first_read (r ∷ rs) a = a.0

      pub reads : (e : Expression) (ns : List NeededPlace) (xs : List Name) (c : Clock) → Read (own_parts h ns xs c e) →
          AllByRecursion R (slots_read (resolution g e))
      reads (truth p x) ns xs c a = tt
      reads (number p x) ns xs c a = tt
      reads (name p x) ns xs c a = here ns xs c (name p x) a.0
      reads (negation p x) ns xs c a = reads x ns [] c (ended (own_parts h ns [] c x) (part h ns xs c (negation p x)) a).0
      reads (minus p x) ns xs c a = reads x ns [] c (ended (own_parts h ns [] c x) (part h ns xs c (minus p x)) a).0
      reads (pre p k x) ns xs c a = (here ns xs c (pre p k x) a.0, tt)
      reads (arrow p k x y) ns xs c a =
          let z = ended (own_parts h ns [] c x ++ own_parts h ns [] c y) (part h ns xs c (arrow p k x y)) a in
          let o = two (own_parts h ns [] c x) (own_parts h ns [] c y) z.0 in (
            here ns xs c (arrow p k x y) z.1,
            both_parts R (slots_read (resolution g x)) (slots_read (resolution g y)) (reads x ns [] c o.0) (reads y ns [] c o.1),
          )
      reads (binary p q x y) ns xs c a =
          let z = ended (own_parts h ns [] c x ++ own_parts h ns [] c y) (part h ns xs c (binary p q x y)) a in
          let o = two (own_parts h ns [] c x) (own_parts h ns [] c y) z.0 in
          both_parts R (slots_read (resolution g x)) (slots_read (resolution g y)) (reads x ns [] c o.0) (reads y ns [] c o.1)
      reads (choice p x y d) ns xs c a =
          let z = ended (own_parts h ns [] c x ++ own_parts h ns [] c y ++ own_parts h ns [] c d) (part h ns xs c (choice p x y d)) a in
          let o = two (own_parts h ns [] c x ++ own_parts h ns [] c y) (own_parts h ns [] c d) z.0 in
          let u = two (own_parts h ns [] c x) (own_parts h ns [] c y) o.0 in
          both_parts R (slots_read (resolution g x) ++ slots_read (resolution g y)) (slots_read (resolution g d))
          (both_parts R (slots_read (resolution g x)) (slots_read (resolution g y)) (reads x ns [] c u.0) (reads y ns [] c u.1)) (reads d ns [] c o.1)
      reads (sampled p x q y) ns xs c a =
          let z = ended (own_parts h ns [] (clock_of (component_of j) y.text) x) (part h ns xs c (sampled p x q y)) a in
          (here ns xs c (sampled p x q y) z.1, reads x ns [] (clock_of (component_of j) y.text) z.0)
      reads (merged p y x d) ns xs c a =
          let k : Clock = sampled_by true y.text in
          let l : Clock = sampled_by false y.text in
          let z = ended (own_parts h ns [] k x ++ own_parts h ns [] l d) (part h ns xs c (merged p y x d)) a in
          let o = two (own_parts h ns [] k x) (own_parts h ns [] l d) z.0 in (
            here ns xs c (merged p y x d) z.1,
            both_parts R (slots_read (resolution g x)) (slots_read (resolution g d)) (reads x ns [] k o.0) (reads d ns [] l o.1),
          )
      reads (call p k z as_) ns xs c a =
          first_read (map (output_resolution g k) (outputs_at g k)) (outputs_read k (outputs_at g k) (here ns xs c (call p k z as_) a.0))
      reads (condact p k x z as_ ds) ns xs c a =
          let u = ended (own_parts h (needs_of h c x) [] c x) (part h ns xs c (condact p k x z as_ ds)) a in
          first_read (map (latest_resolution g k (resolution g x)) (outputs_at g k))
          (latest_read k (resolution g x) (reads x (needs_of h c x) [] c u.0) (outputs_at g k) (here ns xs c (condact p k x z as_ ds) u.1))
      reads (mode_name p d m) ns xs c a =
          let z = ended (asked_in h ns (key_of (option_map text_of d) m.text)) (part h ns xs c (mode_name p d m)) a in
          mode_found at (key_of (option_map text_of d) m.text) ns ms qs modes z.0

      one_read : (e : Expression) (ns : List NeededPlace) (xs : List Name) (c : Clock) → Read (own_parts h ns xs c e) →
          AllByRecursion (λ r. AllByRecursion R (slots_read r)) (resolution g e ∷ [])
      one_read e ns xs c a = (reads e ns xs c a, tt)

      pub rights : (e : Expression) (ns : List NeededPlace) (xs : List Name) (c : Clock) → Read (own_parts h ns xs c e) →
          AllByRecursion (λ r. AllByRecursion R (slots_read r)) (right_resolutions g e)
      rights (call p k z as_) ns xs c a = outputs_read k (outputs_at g k) (here ns xs c (call p k z as_) a.0)
      rights (condact p k x z as_ ds) ns xs c a =
          let u = ended (own_parts h (needs_of h c x) [] c x) (part h ns xs c (condact p k x z as_ ds)) a in
          latest_read k (resolution g x) (reads x (needs_of h c x) [] c u.0) (outputs_at g k) (here ns xs c (condact p k x z as_ ds) u.1)
      rights (truth p x) ns xs c a = one_read (truth p x) ns xs c a
      rights (number p x) ns xs c a = one_read (number p x) ns xs c a
      rights (name p x) ns xs c a = one_read (name p x) ns xs c a
      rights (negation p x) ns xs c a = one_read (negation p x) ns xs c a
      rights (minus p x) ns xs c a = one_read (minus p x) ns xs c a
      rights (pre p k x) ns xs c a = one_read (pre p k x) ns xs c a
      rights (arrow p k x y) ns xs c a = one_read (arrow p k x y) ns xs c a
      rights (binary p q x y) ns xs c a = one_read (binary p q x y) ns xs c a
      rights (choice p x y d) ns xs c a = one_read (choice p x y d) ns xs c a
      rights (sampled p x q y) ns xs c a = one_read (sampled p x q y) ns xs c a
      rights (merged p y x d) ns xs c a = one_read (merged p y x d) ns xs c a
      rights (mode_name p d m) ns xs c a = one_read (mode_name p d m) ns xs c a

      all_read : (ns : List NeededPlace) (rs : List Labelled) → Read (own_asked j w ms rs ns) →
          AllByRecursion R (slots_read (all_resolved (map (λ r. resolution g r.value) rs)))
      all_read ns [] a = tt
      all_read ns (r ∷ []) a = reads r.value ns [] base (left_part AtomsOf (own_parts h ns [] base r.value) [] a)
      all_read ns (r ∷ q ∷ rs) a =
          both_parts R (slots_read (resolution g r.value)) _
          (reads r.value ns [] base (left_part AtomsOf (own_parts h ns [] base r.value) (own_asked j w ms (q ∷ rs) ns) a))
          (all_read ns (q ∷ rs) (right_part AtomsOf (own_parts h ns [] base r.value) (own_asked j w ms (q ∷ rs) ns) a))

    -- ---- modes

    imported_read : (w : List ℕ) (k : ℕ) (c : Name) (ms : ModeParts) (qs : Known Resolving) → ModesRead (numbers_there i (w ++ k ∷ [])) ms qs →
        ModesRead (numbers_there i w) (map (imported_own c) ms) (map (imported_resolving k c) qs)
    imported_read w k c [] [] a = tt
    imported_read w k c [] (q ∷ qs) a = absurd a
    imported_read w k c (m ∷ ms) [] a = absurd a
    imported_read w k c (m ∷ ms) (q ∷ qs) a = (
      (
        ap (λ (z : Key). let r : Key = (c ∷ z.0, z.1) in r) a.0.0,
        λ ns h. subst (λ at. AllByRecursion R (slots_read (q.1 at))) (numbers_further w (number_of i) k) (a.0.1 ns h),
      ),
      imported_read w k c ms qs a.1,
    )

    module _ (at_way : (w : List ℕ) (j : Instance) → StandsAt i f w j → there w ≡ j) where
      after : (w : List ℕ) (j : Instance) → StandsAt i f w j → (sub : ℕ → ModeParts) (subr : ℕ → Known Resolving) →
          ((k : ℕ) → IsImport j k → ModesRead (numbers_there i (w ++ k ∷ [])) (sub k) (subr k)) → (ks : List Key) (ms : ModeParts) (qs : Known Resolving)
          (cs : List ContractStatement) → StatementsFit j ks cs → ModesRead (numbers_there i w) ms qs →
          ModesRead (numbers_there i w) (own_modes_after j w sub ms cs) (resolvings_after j subr qs cs)
      after w j s sub subr b ks ms qs [] h a = a
      after w j s sub subr b ks ms qs (assume l ∷ cs) h a = after w j s sub subr b (ks ++ []) ms qs cs h.1 a
      after w j s sub subr b ks ms qs (guarantee l ∷ cs) h a = after w j s sub subr b (ks ++ []) ms qs cs h.1 a
      after w j s sub subr b ks ms qs (ghost_variable x e ∷ cs) h a = after w j s sub subr b (ks ++ []) ms qs cs h.1 a
      after w j s sub subr b ks ms qs (constant c ∷ cs) h a = after w j s sub subr b (ks ++ []) ms qs cs h.1 a
      after w j s sub subr b ks ms qs (mode m rs es ∷ cs) h a =
          after w j s sub subr b (ks ++ ([], m.text) ∷ []) (ms ++ (([], m.text), own_asked j w ms rs) ∷ [])
          (qs ++ (([], m.text), asked_resolving j qs rs) ∷ []) cs h.1
          (modes_more (numbers_there i w) ms ((([], m.text), own_asked j w ms rs) ∷ []) qs ((([], m.text), asked_resolving j qs rs) ∷ []) a
          ((refl, λ ns z. all_read w j (at_way w j s) ms qs a ns rs z), tt))
      after w j s sub subr b ks ms qs («import» k c as_ xs ∷ cs) h a =
          after w j s sub subr b (ks ++ own_keys j («import» k c as_ xs)) (ms ++ map (imported_own c.text) (sub k))
          (qs ++ map (imported_resolving k c.text) (subr k)) cs h.1
          (modes_more (numbers_there i w) ms (map (imported_own c.text) (sub k)) qs (map (imported_resolving k c.text) (subr k)) a
          (imported_read w k c.text (sub k) (subr k) (b k h.0)))

      by_number : (P : ℕ → Type 0) (n : ℕ) → ((p : ℕ) → p < n → P (suc p)) → (k : ℕ) → 0 < k → pred k < n → P k
      by_number P n h zero c l = absurd (omega (arith, c))
      by_number P n h (suc p) c l = h p l

      -- the modes of the frame at the end of a way
      mutual
        pub modes_read : (w : List ℕ) (j : Instance) → StandsAt i f w j → ModesRead (numbers_there i w) (own_modes w j) (resolvings j)
        modes_read w (instance d cs is) s =
            after w (instance d cs is) s (λ k. slice_index_or (own_modes_each w is) (pred k) []) (λ k. slice_index_or (resolvings_each is) (pred k) [])
            (λ k im. by_number (λ k. ModesRead (numbers_there i (w ++ k ∷ [])) (slice_index_or (own_modes_each w is) (pred k) [])
            (slice_index_or (resolvings_each is) (pred k) [])) (count_of is)
            (λ p l. calls_read w (instance d cs is) is 0 s.fits.1 p (suc p) (omega arith) l
            (stands_called i f w (instance d cs is) s (suc p) (omega arith) l)) k im.call.counted im.call.listed) [] [] []
            (contract_statements d) (own_fits IsKnown (instance d cs is) s.fits).contract tt

        calls_read : (w : List ℕ) (j : Instance) (is : Instances) (q : ℕ) → CallsFit IsKnown j is q → (p n : ℕ) → n ≡ suc (q + p) →
            p < count_of is → StandsAt i f (w ++ n ∷ []) (instance_at is p) →
            ModesRead (numbers_there i (w ++ n ∷ [])) (slice_index_or (own_modes_each w is) p []) (slice_index_or (resolvings_each is) p [])
        calls_read w j no_instances q t p n e l s = absurd (omega (arith, l))
        calls_read w j (with_instance c k is) q t zero n e l s =
            let same : n ≡ c.number = (let u : n ≡ suc q = omega (arith, e) in u ∙ sym t.0.number) in
            subst (λ z. ModesRead (numbers_there i (w ++ n ∷ [])) (own_modes (w ++ z ∷ []) k) (resolvings k)) same (modes_read (w ++ n ∷ []) k s)
        calls_read w j (with_instance c k is) q t (suc p) n e l s =
            calls_read w j is (suc q) t.2 p n (omega (arith, e)) (omega (arith, l)) s
