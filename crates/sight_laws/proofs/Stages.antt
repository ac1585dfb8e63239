-- The sight of a frame is one of the stage over its instance.
use Rattle.std.proofs.Common.{◌≡◌, ℕ, zero, suc, ◌+◌, ◌<◌, cond, not, List, [], ◌∷◌, ◌++◌, length, map, flat_map, Option, Some, None, option_map, unwrap_or, refl, sym, ap, ◌∙◌, subst, arith}
use Rattle.std.specs.Prelude.{Contains, find, is_none, is_some, slice_get}
use Rattle.std.specs.Map.{lookup}
use Rattle.std.specs.Option.{option_map_or}
use Rattle.std.specs.Str.{bytes_eq}
use Rattle.lus_tree.specs.Tree.{Variable, ContractStatement, Component, Program}
use Rattle.lus_meaning.specs.ClockFaults.{components}
use Rattle.lus_meaning.specs.Occurrences.{Memory, Start, memories, starts}
use Rattle.lus_meaning.specs.Program.{all_sites, constants_in, in_order, instance_of, instances_with, site_in, import_site}
use Rattle.lus_meaning.specs.Refusals.{IsChecked}
use Rattle.lus_meaning.specs.Run.{sort_of_value}
use Rattle.lus_meaning.specs.Scene.{Manner, plain, while_true, as_import, Site, Instance, instance, call_instance, component_of, contract_statements, variables}
use Rattle.lus_meaning.specs.Occurrences.{gathered}
use Rattle.lus_meaning.specs.Value.{absent}
use Rattle.lus_meaning.proofs.InOrder.{in_order_length}
use Rattle.lus_limits.specs.Calls.{way_of}
use Rattle.lus_limits.specs.Instances.{callee, instance_called_so}
use Rattle.lus_limits.specs.Summaries.{bound}
use Rattle.lus_limits.specs.Widths.{frame_width}
use Rattle.lus_limits.proofs.Instances.{made_of_callees}
use Rattle.lus_layouts.specs.Layouts.{layout_of}
use Rattle.rule_laws.proofs.Places.{memories_counted, numbered, sites_counted, starts_counted}
use Rattle.path_laws.proofs.Numbers.{CountedFrom, in_order_counted}
use Rattle.sys_meaning.specs.Items.{Known}
use Rattle.sys_meaning.specs.Slot.{Place}
use Rattle.sys_meaning.specs.Translate.{Stage}
use Rattle.sys_meaning.specs.Translate as t
use Rattle.sys_terms.specs.View.{Formula}
use Rattle.sys_places.specs.Own.{OwnStandAt, counted_number}
use Rattle.sys_places.specs.Places.{StandsAt, own_end}
use Rattle.sys_places.proofs.Own.{own_stands}
use Rattle.sys_places.proofs.Held.{call_variables_stand}
use Rattle.sys_texts.specs.Laws.{IsSightOf}
use Rattle.sys_texts.specs.Sights.{Call, Mode, called_sort, latest_part, latest_at, output_part, outputs_at}
use Rattle.sys_tables.specs.Numbers.{call_at, sight_at}
use Rattle.sys_tables.specs.Tabled.{constants_known, named_stream, table_of}
use Rattle.sight_laws.specs.Sights.{AreModesOf, CallsAreCalls, ConstantsAreKnown, SightsAreSights, SoFarIsKept, SoFarStands, call_of, output_of}
use Rattle.sight_laws.proofs.Calls.{at_call, called_so, calls_so}
use Rattle.sight_laws.proofs.Names.{at_least_one, clock_so, many_named, number_at_so, number_so, sort_so}

pub calls_are_calls : CallsAreCalls
calls_are_calls p c n i m at missing base fits stands =
    calls_so p n at missing (own_end p m n base) (all_sites n) (layout_of p n).calls (call_variables_stand p c n i m at missing base fits stands)

-- what is read of a list that is read of another
read_twice : {A B C : Type 0} (f : B → C) (g : A → B) (h : A → C) → ((x : A) → f (g x) ≡ h x) → (xs : List A) → map f (map g xs) ≡ map h xs
read_twice f g h e [] = refl
read_twice f g h e (x ∷ xs) = rw (e x, read_twice f g h e xs) refl

same_counted : (missing f g many count k : ℕ) → f ≡ g → many ≡ count → counted_number missing f many k ≡ counted_number missing g count k
same_counted missing f g many count k e h = ap (λ j. counted_number missing j many k) e ∙ ap (λ j. counted_number missing g j k) h

module _ (p : Program) (c : IsChecked p) (n : Component) (i : Contains (components p) n) (m : Manner) (at : Place → ℕ) (missing base : ℕ)
    (fits : frame_width p m n < bound) (stands : StandsAt at missing base m (instance_of p n))
    (known : constants_known p n ≡ constants_in p n) (ms : List Mode) (ks : Known Formula) (modes : AreModesOf ms ks) where
  abbrev here : Instance
  here = instance n (constants_in p n) (instances_with (instance_called_so p) (all_sites n))

  abbrev over : Instance → Stage
  over j = record { place = j; number = at; modes = ks }

  abbrev counted : CountedFrom (λ (s : Site). s.number) 1 (all_sites n)
  counted = in_order_counted (λ (s : Site). s.number) (gathered site_in n ++ flat_map import_site (contract_statements n)) (sites_counted n (numbered p c.grammatical n i))

  abbrev calls_there : List Call
  calls_there = map (call_at (own_end p m n base) missing) (table_of p n).calls

  calls_here : map (call_at (own_end p m n base) missing) (table_of p n).calls ≡ map (call_of p at) (all_sites n)
  calls_here = calls_are_calls p c n i m at missing base fits stands

  of_calls : {A : Type 0} (of_call : Call → List A) (of_output : ℕ → Variable → A)
      → ((s : Site) → of_call (call_of p at s) ≡ map (of_output s.number) (callee p s.callee).outputs) → (k : ℕ)
      → option_map_or of_call (slice_get (map (call_at (own_end p m n base) missing) (table_of p n).calls) k) []
      ≡ map (of_output (suc k)) (component_of (call_instance here (suc k))).outputs
  of_calls of_call of_output same k =
      ap (λ cs. option_map_or of_call (slice_get cs k) []) calls_here ∙ at_call p at of_call of_output same (all_sites n) 1 counted k
      ∙ ap (λ j. map (of_output j) (component_of (call_instance here (suc k))).outputs) (omega arith)

  outputs_so : (k : ℕ) → outputs_at (sight_at (table_of p n) (way_of m) base missing) k ≡ map (t.output_part (over here) k) (t.outputs_at (over here) k)
  outputs_so zero = refl
  outputs_so (suc k) =
      ap (λ b. option_map_or (λ (d : Call). map output_part d.outputs) (cond b (slice_get calls_there k) None) []) (at_least_one k)
      ∙ of_calls (λ d. map output_part d.outputs) (t.output_part (over here))
      (λ s. read_twice output_part (output_of at s.number) (t.output_part (over here) s.number) (λ v. refl) (callee p s.callee).outputs) k

  latest_so : (k : ℕ) → latest_at (sight_at (table_of p n) (way_of m) base missing) k ≡ map (t.latest_part (over here) k) (t.outputs_at (over here) k)
  latest_so zero = refl
  latest_so (suc k) =
      ap (λ b. option_map_or (λ (d : Call). map (latest_part d.beat) d.outputs) (cond b (slice_get calls_there k) None) []) (at_least_one k)
      ∙ of_calls (λ d. map (latest_part d.beat) d.outputs) (t.latest_part (over here))
      (λ s. read_twice (latest_part (call_of p at s).beat) (output_of at s.number) (t.latest_part (over here) s.number) (λ v. refl)
      (callee p s.callee).outputs) k

  sight_here : IsSightOf (sight_at (table_of p n) (way_of m) base missing) ms (over here)
  sight_here =
      let o : OwnStandAt at missing base m n = own_stands p c n i m at missing base stands in
      let many : length (map (named_stream n) (variables n)) ≡ length (variables n) = many_named n (variables n) in
      let kept : length (in_order (λ (u : Memory). u.number) (memories n)) ≡ length (memories n) =
      in_order_length (λ (u : Memory). u.number) (memories n) (memories_counted n (numbered p c.grammatical n i)) in
      let started : length (in_order (λ (a : Start). a.number) (starts n)) ≡ length (starts n) =
      in_order_length (λ (a : Start). a.number) (starts n) (starts_counted n (numbered p c.grammatical n i)) in
      let first : base + suc (length (map (named_stream n) (variables n))) ≡ suc base + length (variables n) = omega (arith, many) in
      let second : (base + suc (length (map (named_stream n) (variables n)))) + length (in_order (λ (u : Memory). u.number) (memories n))
      ≡ (suc base + length (variables n)) + length (memories n) = omega (arith, many, kept) in
      record {
        beats = sym o.active;
        streams = many;
        constants = λ x. ap (lookup (bytes_eq x)) known;
        sorts = λ x. sort_so n x (variables n) (suc base) (sort_of_value (unwrap_or (lookup (bytes_eq x) (constants_known p n)) absent))
            ∙ ap (λ cs. unwrap_or (option_map (λ (v : Variable). v.sort) (find (λ v. bytes_eq x v.name.text) (variables n)))
            (sort_of_value (unwrap_or (lookup (bytes_eq x) cs) absent))) known;
        numbers = λ x. number_so n x (variables n) (suc base) missing ∙ sym (o.streams x);
        clocks = λ x. clock_so n x (variables n) (suc base);
        memories = λ k. number_at_so (length (in_order (λ (u : Memory). u.number) (memories n)))
            (base + suc (length (map (named_stream n) (variables n)))) k missing ∙ same_counted missing _ _ _ _ k first kept ∙ sym (o.pres k);
        starts = λ k. number_at_so (length (in_order (λ (a : Start). a.number) (starts n)))
            ((base + suc (length (map (named_stream n) (variables n)))) + length (in_order (λ (u : Memory). u.number) (memories n))) k missing
            ∙ same_counted missing _ _ _ _ k second started ∙ sym (o.arrows k);
        callees = λ f. ap (λ cs. called_sort cs f) calls_here ∙ called_so p at f (all_sites n);
        outputs = outputs_so;
        latest = latest_so;
        modes = modes;
      }

-- ---- so far

pub so_far_is_kept : SoFarIsKept
so_far_is_kept p n plain = kept n.contract
  where
    kept : (o : Option (List ContractStatement)) → not (is_none o) ≡ is_some o
    kept None = refl
    kept (Some xs) = refl
so_far_is_kept p n (while_true a) = kept n.contract
  where
    kept : (o : Option (List ContractStatement)) → not (is_none o) ≡ is_some o
    kept None = refl
    kept (Some xs) = refl
so_far_is_kept p n (as_import xs) = refl

pub so_far_stands : SoFarStands
so_far_stands p c n i m at missing base stands keeps =
    let o : OwnStandAt at missing base m n = own_stands p c n i m at missing base stands in
    let many : length (map (named_stream n) (variables n)) ≡ length (variables n) = many_named n (variables n) in
    let kept : length (in_order (λ (u : Memory). u.number) (memories n)) ≡ length (memories n) =
    in_order_length (λ (u : Memory). u.number) (memories n) (memories_counted n (numbered p c.grammatical n i)) in
    let started : length (in_order (λ (a : Start). a.number) (starts n)) ≡ length (starts n) =
    in_order_length (λ (a : Start). a.number) (starts n) (starts_counted n (numbered p c.grammatical n i)) in
    let there : ((suc base + length (variables n)) + length (memories n)) + length (starts n)
    ≡ ((base + suc (length (map (named_stream n) (variables n)))) + length (in_order (λ (u : Memory). u.number) (memories n)))
    + length (in_order (λ (a : Start). a.number) (starts n)) = omega (arith, many, kept, started) in
    o.assumed ∙ ap (λ b. cond b (((suc base + length (variables n)) + length (memories n)) + length (starts n)) missing) keeps ∙ there

pub sights_are_sights : ConstantsAreKnown → SightsAreSights
sights_are_sights known p c n i m at missing base fits stands ms ks modes =
    subst (λ z. IsSightOf (sight_at (table_of p n) (way_of m) base missing) ms (record { place = z; number = at; modes = ks })) (sym (made_of_callees p c n i))
    (sight_here p c n i m at missing base fits stands (known p c n i) ms ks modes)
