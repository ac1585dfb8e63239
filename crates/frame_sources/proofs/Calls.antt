-- What callers give to the frames of calls, and what they hold of them, by tables and by names.
use Rattle.std.proofs.Common.{◌≡◌, ℕ, ◌+◌, ◌≤◌, Bool, true, false, cond, List, [], ◌∷◌, ◌++◌, map, length, append_assoc, Option, Some, None, refl, sym, ap, ◌∙◌, arith}
use Rattle.std.specs.Prelude.{is_some}
use Rattle.std.proofs.lemmas.List.{append-nil}
use Rattle.lus_tree.specs.Tree.{Variable, Expression, ContractStatement, Component}
use Rattle.lus_meaning.specs.Value.{Value}
use Rattle.lus_meaning.specs.Run.{inputs_of}
use Rattle.lus_meaning.specs.Scene.{Manner, plain, while_true, as_import, Site, Instance, component_of, contract_statements, ghosts, variables}
use Rattle.lus_meaning.specs.Occurrences.{Memory, memories, Start, starts}
use Rattle.lus_meaning.specs.Program.{in_order}
use Rattle.lus_meaning.proofs.Exists.{length_mapped}
use Rattle.lus_limits.specs.declared.calls.Way.{Way}
use Rattle.sys_meaning.specs.Defaults.{default_of}
use Rattle.sys_meaning.specs.Slot.{Place, own, beat, named, so_far, in_call}
use Rattle.sys_meaning.specs.System.{has_so_far}
use Rattle.sys_meaning.specs.WellTyped.{IsKnown, OwnFits}
use Rattle.sys_texts.specs.Laws.{IsSightOf}
use Rattle.sys_texts.specs.Sights.{Sight}
use Rattle.sys_contracts.specs.Laws.{bare}
use Rattle.sys_tables.specs.Tabled.{Tabled}
use Rattle.sys_tables.specs.Numbers.{keeps_so_far, sight_at, so_far_number}
use Rattle.sight_laws.specs.Sights.{output_of}
use Rattle.sys_frames.proofs.Seen.{HasNames, SeesOwn}
use Rattle.slot_values.specs.Resolved.{Numbering}
use Rattle.evaluation_laws.specs.Resolvings.{resolvings}
use Rattle.slot_sources.specs.Source.{Source, runs, runs_while, same, argument, remembered, starting, unread}
use Rattle.slot_sources.specs.Source as e
use Rattle.slot_sources.specs.Sources.{NameSources, numbering_of, paired, switch_of}
use Rattle.slot_sources.specs.Sources as z
use Rattle.frame_sources.specs.Laws.{modes_at}
use Rattle.frame_sources.specs.Resolved.{Asked, resolved_by}
use Rattle.frame_sources.specs.Sourced.{argument_source, beat_source, contract_sources, from_call, held_each, memory_source, shared_source, shared_sources, start_source}
use Rattle.frame_sources.specs.OwnSources.{own_sources, stream_sources}
use Rattle.frame_sources.proofs.Named.{names_so, none_zipped, paired_zipped, zipped, zipped_behind}
use Rattle.frame_sources.proofs.Sights.{resolved_as, switch_as}

each_same : {A B : Type 0} (f h : A → B) → ((x : A) → f x ≡ h x) → (xs : List A) → map f xs ≡ map h xs
each_same f h e [] = refl
each_same f h e (x ∷ xs) = ap (λ y. y ∷ map f xs) (e x) ∙ ap (λ l. h x ∷ l) (each_same f h e xs)

-- ---- what is held

held_values : (at : Place → ℕ) (b k : ℕ) (g : Variable → Value) (vs : List Variable)
    → held_each b (map (output_of at k) vs) (map g vs) ≡ map (λ v. e.held b (at (in_call k (own (named v.name.text)))) (g v)) vs
held_values at b k g [] = refl
held_values at b k g (v ∷ vs) = ap (λ l. e.held b (at (in_call k (own (named v.name.text)))) (g v) ∷ l) (held_values at b k g vs)

held_all : (g : Numbering) (c : Site) (vs : List Variable) (ds : List Expression) → length ds ≡ length vs → z.held_each g c vs ds ≡ map (z.held_source g c) vs
held_all g c [] ds l = refl
held_all g c (v ∷ vs) [] l = absurd (omega arith)
held_all g c (v ∷ vs) (d ∷ ds) l = ap (λ y. z.held_source g c v ∷ y) (held_all g c vs ds (omega arith))

pub held_so : (i : Instance) (at : Place → ℕ) (c : Site) (vs : List Variable) (small : Expression → Value)
    → map small c.defaults ≡ map (λ v. default_of i c.number v.name.text) vs
    → held_each (at (in_call c.number (own beat))) (map (output_of at c.number) vs) (map small c.defaults) ≡ z.held_each (numbering_of i at) c vs c.defaults
held_so i at c vs small h =
    ap (held_each (at (in_call c.number (own beat))) (map (output_of at c.number) vs)) h
    ∙ (held_values at (at (in_call c.number (own beat))) c.number (λ v. default_of i c.number v.name.text) vs
    ∙ sym (held_all (numbering_of i at) c vs c.defaults
    (sym (length_mapped small c.defaults) ∙ (ap length h ∙ length_mapped (λ (v : Variable). default_of i c.number v.name.text) vs))))

-- ---- what a caller gives

module _ (s : Sight) (i : Instance) (at : Place → ℕ) (h : IsSightOf s [] (bare i at)) where
  abbrev g : Numbering
  g = numbering_of i at

  abbrev ms : List Asked
  ms = modes_at at i

  pub beat_so : (c : Site) (m : Manner) → beat_source s ms c.clock m ≡ z.beat_source g c m
  beat_so c plain = ap runs (switch_as s i at h (resolvings i) c.clock)
  beat_so c (while_true a) =
      ap (λ w. runs_while w (resolved_by s ms a)) (switch_as s i at h (resolvings i) c.clock)
      ∙ ap (runs_while (switch_of g c.clock)) (resolved_as s i at h (resolvings i) a)
  beat_so c (as_import xs) = ap same h.beats

  argument_so : (c : Site) (a : Expression) → argument_source s ms (at (in_call c.number (own beat))) c.clock a ≡ z.argument_source g c a
  argument_so c a =
      ap (λ w. argument (at (in_call c.number (own beat))) w (resolved_by s ms a)) (switch_as s i at h (resolvings i) c.clock)
      ∙ ap (argument (at (in_call c.number (own beat))) (switch_of g c.clock)) (resolved_as s i at h (resolvings i) a)

  module _ (k : Instance) where
    abbrev inputs : List Variable
    inputs = (component_of k).inputs

    abbrev outputs : List Variable
    outputs = (component_of k).outputs

    abbrev locals : List Variable
    locals = (component_of k).locals

    abbrev more : List Variable
    more = ghosts (contract_statements (component_of k))

    shared_so : (m : Manner) (ws : List Variable) → HasNames m k → zipped (outputs ++ ws) (shared_sources s m) ≡ z.shared_sources g m k
    shared_so plain ws e = none_zipped (outputs ++ ws)
    shared_so (while_true a) ws e = none_zipped (outputs ++ ws)
    shared_so (as_import xs) ws e =
        ap (zipped (outputs ++ ws)) (sym (append-nil (map (shared_source s) xs)))
        ∙ (zipped_behind outputs ws (map (shared_source s) xs) [] (length_mapped (shared_source s) xs ∙ e)
        ∙ (ap (λ y. zipped outputs (map (shared_source s) xs) ++ y) (none_zipped ws)
        ∙ (append-nil (zipped outputs (map (shared_source s) xs))
        ∙ (ap (zipped outputs) (each_same (shared_source s) (λ x. same (g.number (own (named x)))) (λ x. ap same (h.numbers x)) xs)
        ∙ sym (paired_zipped outputs (map (λ x. same (g.number (own (named x)))) xs))))))

    pub given_so : (c : Site) → length c.arguments ≡ length inputs → HasNames c.manner k
        → zipped (variables (component_of k)) (from_call s ms (at (in_call c.number (own beat))) c) ≡ z.from_call g c k
    given_so c l n =
        ap (λ vs. zipped vs (arguments ++ shared_sources s c.manner)) (append_assoc (inputs ++ outputs) locals more ∙ append_assoc inputs outputs (locals ++ more))
        ∙ (zipped_behind inputs (outputs ++ (locals ++ more)) arguments (shared_sources s c.manner)
        (length_mapped (argument_source s ms (at (in_call c.number (own beat))) c.clock) c.arguments ∙ l)
        ∙ (ap (λ y. zipped inputs y ++ zipped (outputs ++ (locals ++ more)) (shared_sources s c.manner))
        (each_same (argument_source s ms (at (in_call c.number (own beat))) c.clock) (z.argument_source g c) (argument_so c) c.arguments)
        ∙ (ap (λ y. y ++ zipped (outputs ++ (locals ++ more)) (shared_sources s c.manner)) (sym (paired_zipped inputs (map (z.argument_source g c) c.arguments)))
        ∙ ap (λ y. paired (inputs_of k) (map (z.argument_source g c) c.arguments) ++ y) (shared_so c.manner (locals ++ more) n))))
      where
        arguments : List Source
        arguments = map (argument_source s ms (at (in_call c.number (own beat))) c.clock) c.arguments

    shared_many : (m : Manner) → HasNames m k → length (shared_sources s m) ≤ length outputs
    shared_many plain n = omega arith
    shared_many (while_true a) n = omega arith
    shared_many (as_import xs) n = let r : length (map (shared_source s) xs) ≡ length xs = length_mapped (shared_source s) xs in
        let q : length xs ≡ length outputs = n in omega arith

    lengths_both : {A : Type 0} (xs ys : List A) → length (xs ++ ys) ≡ length xs + length ys
    lengths_both [] ys = omega arith
    lengths_both (x ∷ xs) ys = let r : length (xs ++ ys) ≡ length xs + length ys = lengths_both xs ys in omega arith

    pub given_many : (c : Site) → length c.arguments ≡ length inputs → HasNames c.manner k
        → length (from_call s ms (at (in_call c.number (own beat))) c) ≤ length (variables (component_of k))
    given_many c l n =
        let a : length (from_call s ms (at (in_call c.number (own beat))) c)
        ≡ length (map (argument_source s ms (at (in_call c.number (own beat))) c.clock) c.arguments) + length (shared_sources s c.manner) =
        lengths_both (map (argument_source s ms (at (in_call c.number (own beat))) c.clock) c.arguments) (shared_sources s c.manner) in
        let b : length (map (argument_source s ms (at (in_call c.number (own beat))) c.clock) c.arguments) ≡ length c.arguments =
        length_mapped (argument_source s ms (at (in_call c.number (own beat))) c.clock) c.arguments in
        let d : length (shared_sources s c.manner) ≤ length outputs = shared_many c.manner n in
        let q : length (variables (component_of k)) ≡ length ((inputs ++ outputs) ++ locals) + length more = lengths_both ((inputs ++ outputs) ++ locals) more in
        let u : length ((inputs ++ outputs) ++ locals) ≡ length (inputs ++ outputs) + length locals = lengths_both (inputs ++ outputs) locals in
        let v : length (inputs ++ outputs) ≡ length inputs + length outputs = lengths_both inputs outputs in
        within _ _ _ _ _ _ _ _ _ _ _ a b l d q u v
      where
        within : (f a s c i o w iol io lo mo : ℕ) → f ≡ a + s → a ≡ c → c ≡ i → s ≤ o → w ≡ iol + mo → iol ≡ io + lo → io ≡ i + o → f ≤ w
        within f a s c i o w iol io lo mo p q r t u v x = omega arith

-- ---- a frame itself

abbrev kept_by : Manner → Option (List ContractStatement) → Bool
kept_by (as_import xs) o = false
kept_by plain o = is_some o
kept_by (while_true a) o = is_some o

module _ (missing : ℕ) (t : Tabled) (w : Way) (b : ℕ) (m : Manner) (i : Instance) (at : Place → ℕ) (h : SeesOwn missing t w b m i at)
    (fits : OwnFits i (IsKnown i)) where
  abbrev s : Sight
  s = sight_at t w b missing

  abbrev here : Numbering
  here = numbering_of i at

  abbrev n : Component
  n = component_of i

  memory_so : (u : Memory) → memory_source s (modes_at at i) u ≡ z.memory_source here u
  memory_so u =
      ap (λ y. remembered y (resolved_by s (modes_at at i) u.operand)) (switch_as s i at h.sight (resolvings i) u.clock)
      ∙ ap (remembered (switch_of here u.clock)) (resolved_as s i at h.sight (resolvings i) u.operand)

  start_so : (a : Start) → start_source s a ≡ z.start_source here a
  start_so a = ap starting (switch_as s i at h.sight (resolvings i) a.clock)

  kept_so : keeps_so_far w t ≡ has_so_far m n
  kept_so = sym (some_kept (keeps_so_far w t) (so_far_number t b)) ∙ (ap is_some h.kept ∙ some_kept (has_so_far m n) (at (own so_far)))
    where
      some_kept : (x : Bool) (k : ℕ) → is_some (cond x (Some k) None) ≡ x
      some_kept true k = refl
      some_kept false k = refl

  contract_so : contract_sources (keeps_so_far w t) ≡ z.contract_sources m n.contract
  contract_so = ap contract_sources (kept_so ∙ has m) ∙ go m n.contract
    where
      has : (m : Manner) → has_so_far m n ≡ kept_by m n.contract
      has plain = refl
      has (while_true a) = refl
      has (as_import xs) = refl

      go : (m : Manner) (o : Option (List ContractStatement)) → contract_sources (kept_by m o) ≡ z.contract_sources m o
      go plain None = refl
      go (while_true a) None = refl
      go (as_import xs) None = refl
      go plain (Some cs) = refl
      go (while_true a) (Some cs) = refl
      go (as_import xs) (Some cs) = refl

  pub own_so : (active : Source) (ps : List Source) → length ps ≤ length (variables n)
      → own_sources t s (modes_at at i) (keeps_so_far w t) active ps ≡ z.own_sources m here active (zipped (variables n) ps)
  own_so active ps l =
      ap (λ vs. active ∷ stream_sources s ms vs ps ++ (map (memory_source s ms) t.memories ++ (map (start_source s) t.starts ++ contract_sources (keeps_so_far w t)))) h.streams
      ∙ (ap (λ y. active ∷ y ++ (map (memory_source s ms) t.memories ++ (map (start_source s) t.starts ++ contract_sources (keeps_so_far w t)))) (names_so s i at h.sight fits ps l)
      ∙ ap (λ y. active ∷ z.name_sources here (zipped (variables n) ps) ++ y)
      (ap (λ us. map (memory_source s ms) us ++ (map (start_source s) t.starts ++ contract_sources (keeps_so_far w t))) h.memories
      ∙ (ap (λ y. y ++ (map (start_source s) t.starts ++ contract_sources (keeps_so_far w t)))
      (each_same (memory_source s ms) (z.memory_source here) memory_so (in_order (λ (u : Memory). u.number) (memories n)))
      ∙ ap (λ y. map (z.memory_source here) (in_order (λ (u : Memory). u.number) (memories n)) ++ y)
      (ap (λ us. map (start_source s) us ++ contract_sources (keeps_so_far w t)) h.starts
      ∙ (ap (λ y. y ++ contract_sources (keeps_so_far w t)) (each_same (start_source s) (z.start_source here) start_so (in_order (λ (a : Start). a.number) (starts n)))
      ∙ ap (λ y. map (z.start_source here) (in_order (λ (a : Start). a.number) (starts n)) ++ y) contract_so)))))
    where
      ms : List Asked
      ms = modes_at at i
