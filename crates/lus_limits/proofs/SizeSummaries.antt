-- The sizes of terms by finite summaries.
use Rattle.std.proofs.Common.{◌≡◌, ℕ, zero, suc, pred, Bool, true, false, ◌&&◌, cond, List, [], ◌∷◌, ◌++◌, map, slice_index_or, Option, Some, None, refl, sym, ap, ◌∙◌, arith}
use Rattle.std.specs.Prelude.{unwrap_or, option_map, option_to_list}
use Rattle.std.specs.Map.{lookup}
use Rattle.std.specs.Str.{bytes_eq}
use Rattle.lus_tree.specs.Tree.{Name, text_of, Expression, truth, number, name, negation, minus, pre, arrow, binary, choice, sampled, merged, call, condact, mode_name, Statement, equation, assertion, property, main_mark, ContractStatement, assume, guarantee, ghost_variable, constant, mode, «import», Component, Program}
use Rattle.lus_meaning.specs.Scene.{contract_statements, clock_of_names, Manner, plain, while_true, as_import, Site, Instance, component_of, outputs_of, no_component}
use Rattle.lus_meaning.specs.Meaning.{mode_key}
use Rattle.lus_meaning.specs.Depends.{from_caller, outputs_given}
use Rattle.lus_meaning.specs.Run.{equations, inputs_of}
use Rattle.lus_meaning.specs.Occurrences.{memories, starts}
use Rattle.lus_meaning.specs.Program.{all_sites, instances_with, instance_of}
use Rattle.lus_meaning.specs.Sizes.{Size, leaf, one, two, three, all_of, some_of, ModeSizes, is_fixed, operator_size, unless_fixed, size_in, sizes_of, imported_size, ContractSizes, no_sizes, asked_size, sizes_after, contract_sizes, presence, given_size, equation_sizes, free_sizes, memory_size, start_size, sofar_sizes, assert_sizes, site_sizes, own_sizes, frame_sizes, call_sizes, property_sizes, owed_sizes, owed_by_sites, term_sizes}
use Rattle.lus_meaning.proofs.Lists.{append_none}
use Rattle.lus_limits.specs.Instances.{callee, instance_called_so}
use Rattle.lus_limits.specs.Sizes.{sizes_at, callee_sizes}
use Rattle.lus_limits.specs.Peaks.{no_size, greater, peak, by_and, by_or, chain}
use Rattle.lus_limits.specs.SizeSummaries.{can_be_named, is_own, those_with, ContractPeaks, no_peaks, contract_peaks, with_assumption, with_promises, with_mode, with_import, peaks_after, SizeSummary, inputs_given, all_given, size_summary_of, sofar_by, own_by, frame_of, sites_by, frame_by, contract_by, size_summary_by, owed_size, owed_by, all_owed_by, terms_by, contract_at, summaries_at, SizeSummaryByText, TermsBySummaries, LimitsByPeaks}
use Rattle.lus_limits.proofs.Instances.{component_called, made_of_callees}
use Rattle.lus_limits.proofs.Peaks.{greater_none, peak_both, levels_pass, parts_pass, chain_both, chain_one, all_chained, some_chained}
use Rattle.lus_limits.proofs.Sizes.{made, same_size, contract_sizes_by_text}

-- ---- the modes that a text can name

and_false : (b c : Bool) → ((b && false) && c) ≡ false
and_false true c = refl
and_false false c = refl

far_modes : (o : Option Name) (m c d : Name) (ps : List Name) (x : Name) → mode_key (option_to_list o, m) (c ∷ d ∷ ps, x) ≡ false
far_modes None m c d ps x = refl
far_modes (Some y) m c d ps x = and_false (bytes_eq y c) (bytes_eq m x)

kept_or_far : (o : Option Name) (m : Name) (path : List Name) (x : Name) (s : Size) (ms : ModeSizes) →
    lookup (mode_key (option_to_list o, m)) ms ≡ lookup (mode_key (option_to_list o, m)) (those_with can_be_named ms) →
    lookup (mode_key (option_to_list o, m)) (((path, x), s) ∷ ms)
    ≡ lookup (mode_key (option_to_list o, m)) (those_with can_be_named (((path, x), s) ∷ ms))
kept_or_far o m [] x s ms h = ap (λ r. cond (mode_key (option_to_list o, m) ([], x)) (Some s) r) h
kept_or_far o m (c ∷ []) x s ms h = ap (λ r. cond (mode_key (option_to_list o, m) (c ∷ [], x)) (Some s) r) h
kept_or_far o m (c ∷ d ∷ ps) x s ms h =
    ap (λ b. cond b (Some s) (lookup (mode_key (option_to_list o, m)) ms)) (far_modes o m c d ps x) ∙ h

named_same : (o : Option Name) (m : Name) (ms : ModeSizes) →
    lookup (mode_key (option_to_list o, m)) ms ≡ lookup (mode_key (option_to_list o, m)) (those_with can_be_named ms)
named_same o m [] = refl
named_same o m (e ∷ ms) = kept_or_far o m e.0.0 e.0.1 e.1 ms (named_same o m ms)

-- an expression is as large by these modes alone
size_same : (n : Component) (ms : ModeSizes) (e : Expression) → size_in n ms e ≡ size_in n (those_with can_be_named ms) e
size_same n ms (truth p b) = refl
size_same n ms (number p k) = refl
size_same n ms (name p x) = refl
size_same n ms (negation p a) = ap (λ x. unless_fixed n a (one x)) (size_same n ms a)
size_same n ms (minus p a) = ap (λ x. unless_fixed n a (one x)) (size_same n ms a)
size_same n ms (pre p k a) = refl
size_same n ms (arrow p k a b) = ap (λ x. three leaf x (size_in n ms b)) (size_same n ms a) ∙ ap
    (λ x. three leaf (size_in n (those_with can_be_named ms) a) x) (size_same n ms b)
size_same n ms (binary p o a b) =
    ap (λ x. unless_fixed n (binary p o a b) (operator_size o (is_fixed n a) x (size_in n ms b))) (size_same n ms a)
    ∙ ap (λ x. unless_fixed n (binary p o a b) (operator_size o (is_fixed n a) (size_in n (those_with can_be_named ms) a) x)) (size_same n ms b)
size_same n ms (choice p a b c) =
    ap (λ x. unless_fixed n (choice p a b c) (three x (size_in n ms b) (size_in n ms c))) (size_same n ms a)
    ∙ ap (λ x. unless_fixed n (choice p a b c) (three (size_in n (those_with can_be_named ms) a) x (size_in n ms c))) (size_same n ms b)
    ∙ ap (λ x. unless_fixed n (choice p a b c) (three (size_in n (those_with can_be_named ms) a) (size_in n (those_with can_be_named ms) b) x))
    (size_same n ms c)
size_same n ms (sampled p a b x) = size_same n ms a
size_same n ms (merged p x a b) = ap (λ x. three leaf x (size_in n ms b)) (size_same n ms a) ∙ ap
    (λ x. three leaf (size_in n (those_with can_be_named ms) a) x) (size_same n ms b)
size_same n ms (call p k f as_) = refl
size_same n ms (condact p k a f as_ ds) = refl
size_same n ms (mode_name p c m) = ap (λ o. unwrap_or o leaf) (named_same (option_map text_of c) m.text ms)

abbrev near : ModeSizes → ModeSizes
near ms = those_with can_be_named ms

pub sizes_same : (n : Component) (ms : ModeSizes) → size_in n ms ≡ size_in n (near ms)
sizes_same n ms = λ i e. size_same n ms e i

-- ---- contracts

same_peaks : (a b : ContractPeaks) → a.assumes ≡ b.assumes → a.assumed ≡ b.assumed → a.promises ≡ b.promises → a.active ≡ b.active → a.modes ≡ b.modes → a ≡ b
same_peaks a b e f g h k = λ i. record { assumes = e i; assumed = f i; promises = g i; active = h i; modes = k i }

peak_one : (as_ : List Size) (b : Size) → peak (as_ ++ b ∷ []) ≡ greater (peak as_) b
peak_one as_ b = peak_both as_ (b ∷ []) ∙ ap (greater (peak as_)) (greater_none b)

those_both : (t : List Name → Bool) (ms ns : ModeSizes) → those_with t (ms ++ ns) ≡ those_with t ms ++ those_with t ns
those_both t [] ns = refl
those_both t (m ∷ ms) ns = kept_both (t m.0.0) (those_both t ms ns) where
  kept_both : (b : Bool) → those_with t (ms ++ ns) ≡ those_with t ms ++ those_with t ns →
      cond b (m ∷ those_with t (ms ++ ns)) (those_with t (ms ++ ns)) ≡ cond b (m ∷ those_with t ms) (those_with t ms) ++ those_with t ns
  kept_both true h = ap (λ r. m ∷ r) h
  kept_both false h = h

values_both : (ms ns : ModeSizes) → map (λ m. m.1) (ms ++ ns) ≡ map (λ m. m.1) ms ++ map (λ m. m.1) ns
values_both [] ns = refl
values_both (m ∷ ms) ns = ap (λ r. m.1 ∷ r) (values_both ms ns)

values_imported : (c : Name) (ms : ModeSizes) → map (λ m. m.1) (map (imported_size c) ms) ≡ map (λ m. m.1) ms
values_imported c [] = refl
values_imported c (m ∷ ms) = ap (λ r. m.1 ∷ r) (values_imported c ms)

-- of what is imported, the own modes can be named
imported_named : (c : Name) (ms : ModeSizes) → near (map (imported_size c) ms) ≡ map (imported_size c) (those_with is_own (near ms))
imported_named c [] = refl
imported_named c (m ∷ ms) = by_path m.0.0 m.0.1 m.1 (imported_named c ms) where
  by_path : (path : List Name) (x : Name) (s : Size) → near (map (imported_size c) ms) ≡ map (imported_size c) (those_with is_own (near ms)) →
      near (map (imported_size c) (((path, x), s) ∷ ms)) ≡ map (imported_size c) (those_with is_own (near (((path, x), s) ∷ ms)))
  by_path [] x s h = ap (λ r. ((c ∷ [], x), s) ∷ r) h
  by_path (d ∷ []) x s h = h
  by_path (d ∷ e ∷ ps) x s h = h

assumed_so : (r : ContractSizes) (s : Size) → contract_peaks (record r { assumes = r.assumes ++ s ∷ [] }) ≡ with_assumption (contract_peaks r) s
assumed_so r s =
    same_peaks (contract_peaks (record r { assumes = r.assumes ++ s ∷ [] })) (with_assumption (contract_peaks r) s)
    (peak_one r.assumes s) (chain_one by_and r.assumes s) refl refl refl

promised_so : (r : ContractSizes) (ss : List Size) → contract_peaks (record r { promises = r.promises ++ ss }) ≡ with_promises (contract_peaks r) (peak ss)
promised_so r ss =
    same_peaks (contract_peaks (record r { promises = r.promises ++ ss })) (with_promises (contract_peaks r) (peak ss))
    refl refl (peak_both r.promises ss) refl refl

mode_so : (r : ContractSizes) (m : Name) (s : Size) → contract_peaks (record r { modes = r.modes ++ (([], m), s) ∷ [] }) ≡ with_mode (contract_peaks r) m s
mode_so r m s =
    same_peaks (contract_peaks (record r { modes = r.modes ++ (([], m), s) ∷ [] })) (with_mode (contract_peaks r) m s)
    refl refl refl
    (ap (chain by_or) (values_both r.modes ((([], m), s) ∷ [])) ∙ chain_one by_or (map (λ m. m.1) r.modes) s)
    (those_both can_be_named r.modes ((([], m), s) ∷ []))

import_so : (r k : ContractSizes) (c : Name) →
    contract_peaks (record {
      assumes = r.assumes ++ k.assumes;
      promises = r.promises ++ k.promises;
      modes = r.modes ++ map (imported_size c) k.modes;
    })
    ≡ with_import (contract_peaks r) c (contract_peaks k)
import_so r k c =
    same_peaks _ (with_import (contract_peaks r) c (contract_peaks k))
    (peak_both r.assumes k.assumes) (chain_both by_and r.assumes k.assumes) (peak_both r.promises k.promises)
    (ap (chain by_or) (values_both r.modes (map (imported_size c) k.modes) ∙ ap (λ x. map (λ m. m.1) r.modes ++ x) (values_imported c k.modes))
    ∙ chain_both by_or (map (λ m. m.1) r.modes) (map (λ m. m.1) k.modes))
    (those_both can_be_named r.modes (map (imported_size c) k.modes) ∙ ap (λ x. near r.modes ++ x) (imported_named c k.modes))

by_statements : (n : Component) (sub : ℕ → ContractSizes) (r : ContractSizes) (cs : List ContractStatement) →
    contract_peaks (sizes_after n sub r cs) ≡ peaks_after n (λ k. contract_peaks (sub k)) (contract_peaks r) cs
by_statements n sub r [] = refl
by_statements n sub r (assume l ∷ cs) =
    let s : Size = size_in n r.modes l.value in
    by_statements n sub (record r { assumes = r.assumes ++ s ∷ [] }) cs
    ∙ ap (λ q. peaks_after n (λ k. contract_peaks (sub k)) q cs)
    (assumed_so r s ∙ ap (with_assumption (contract_peaks r)) (size_same n r.modes l.value))
by_statements n sub r (guarantee l ∷ cs) =
    let s : Size = size_in n r.modes l.value in
    by_statements n sub (record r { promises = r.promises ++ s ∷ [] }) cs
    ∙ ap (λ q. peaks_after n (λ k. contract_peaks (sub k)) q cs)
    (promised_so r (s ∷ []) ∙ ap (with_promises (contract_peaks r)) (greater_none s ∙ size_same n r.modes l.value))
by_statements n sub r (mode m rs es ∷ cs) =
    let asked : Size = all_of (sizes_of n r.modes rs) in
    let ps : List Size = map (asked_size asked) (sizes_of n r.modes es) in
    let q : ContractSizes = record r { promises = r.promises ++ ps } in
    by_statements n sub (record q { modes = q.modes ++ (([], m.text), asked) ∷ [] }) cs
    ∙ ap (λ z. peaks_after n (λ k. contract_peaks (sub k)) z cs)
    (mode_so q m.text asked ∙ ap (λ z. with_mode z m.text asked) (promised_so r ps)
    ∙ ap (λ F. with_mode
    (with_promises (contract_peaks r) (peak (map (asked_size (all_of (map (λ l. F l.value) rs))) (map (λ l. F l.value) es))))
    m.text (all_of (map (λ l. F l.value) rs))) (sizes_same n r.modes))
by_statements n sub r («import» k c as_ xs ∷ cs) =
    by_statements n sub (record {
      assumes = r.assumes ++ (sub k).assumes;
      promises = r.promises ++ (sub k).promises;
      modes = r.modes ++ map (imported_size c.text) (sub k).modes;
    }) cs
    ∙ ap (λ q. peaks_after n (λ k. contract_peaks (sub k)) q cs) (import_so r (sub k) c.text)
by_statements n sub r (ghost_variable v e ∷ cs) = by_statements n sub r cs
by_statements n sub r (constant c ∷ cs) = by_statements n sub r cs

index_mapped : {A B : Type 0} (f : A → B) (xs : List A) (k : ℕ) (d : A) → f (slice_index_or xs k d) ≡ slice_index_or (map f xs) k (f d)
index_mapped f [] k d = refl
index_mapped f (x ∷ xs) zero d = refl
index_mapped f (x ∷ xs) (suc k) d = index_mapped f xs k d

pub mapped_twice : {A B C : Type 0} (f : B → C) (g : A → B) (xs : List A) → map f (map g xs) ≡ map (λ x. f (g x)) xs
mapped_twice f g [] = refl
mapped_twice f g (x ∷ xs) = ap (λ r. f (g x) ∷ r) (mapped_twice f g xs)

at_is : (p : Program) (ss : List Site) (k : ℕ) → contract_peaks (sizes_at (callee_sizes p) ss k) ≡ contract_at (summaries_at p ss) k
at_is p ss k =
    index_mapped contract_peaks (map (λ s. callee_sizes p s.callee) ss) (pred k) no_sizes
    ∙ ap (λ rs. slice_index_or rs (pred k) no_peaks)
    (mapped_twice contract_peaks (λ s. callee_sizes p s.callee) ss
    ∙ sym (mapped_twice (λ z. z.contract) (λ s. size_summary_of p (callee p s.callee)) ss))

contract_is : (p : Program) (n : Component) →
    contract_peaks (sizes_after n (sizes_at (callee_sizes p) (all_sites n)) no_sizes (contract_statements n))
    ≡ contract_by (summaries_at p (all_sites n)) n
contract_is p n =
    by_statements n (sizes_at (callee_sizes p) (all_sites n)) no_sizes (contract_statements n)
    ∙ ap (λ sub. peaks_after n sub no_peaks (contract_statements n)) (λ i k. at_is p (all_sites n) k i)

-- ---- frames

asserts_same : (n : Component) (ms : ModeSizes) (ss : List Statement) → assert_sizes n ms ss ≡ assert_sizes n (near ms) ss
asserts_same n ms [] = refl
asserts_same n ms (equation xs e ∷ ss) = asserts_same n ms ss
asserts_same n ms (assertion e ∷ ss) =
    ap (λ x. one (two leaf (one x)) ∷ assert_sizes n ms ss) (size_same n ms e)
    ∙ ap (λ r. one (two leaf (one (size_in n (near ms) e))) ∷ r) (asserts_same n ms ss)
asserts_same n ms (property l ∷ ss) = asserts_same n ms ss
asserts_same n ms (main_mark p ∷ ss) = asserts_same n ms ss

properties_same : (n : Component) (ms : ModeSizes) (ss : List Statement) → property_sizes n ms ss ≡ property_sizes n (near ms) ss
properties_same n ms [] = refl
properties_same n ms (equation xs e ∷ ss) = properties_same n ms ss
properties_same n ms (assertion e ∷ ss) = properties_same n ms ss
properties_same n ms (property l ∷ ss) =
    ap (λ x. x ∷ property_sizes n ms ss) (size_same n ms l.value)
    ∙ ap (λ r. size_in n (near ms) l.value ∷ r) (properties_same n ms ss)
properties_same n ms (main_mark p ∷ ss) = properties_same n ms ss

sofar_same : (o : Option (List ContractStatement)) (as_ : List Size) → sofar_sizes o as_ ≡ sofar_by o (chain by_and as_).whole
sofar_same None as_ = refl
sofar_same (Some cs) as_ = ap (λ a. two leaf (two leaf (one (two leaf (one a)))) ∷ []) (all_chained as_)

own_same : (given : List Name) (n : Component) (r : ContractSizes) → own_sizes given n r ≡ own_by given n (contract_peaks r)
own_same given n r =
    ap (λ F. map (λ e. given_size (presence n (clock_of_names n e.names)) (F e.right)) (equations n)
    ++ (free_sizes given n
    ++ (map (λ m. two leaf (three (presence n m.clock) (F m.operand) leaf)) (memories n)
    ++ (map (start_size n) (starts n)
    ++ (sofar_sizes n.contract r.assumes
    ++ assert_sizes n r.modes n.body))))) (sizes_same n r.modes)
    ∙ ap (λ zs. equation_sizes n (near r.modes)
    ++ (free_sizes given n
    ++ (map (memory_size n (near r.modes)) (memories n)
    ++ (map (start_size n) (starts n)
    ++ zs)))) (ap (λ x. x ++ assert_sizes n r.modes n.body) (sofar_same n.contract r.assumes)
    ∙ ap (λ x. sofar_by n.contract (chain by_and r.assumes).whole ++ x) (asserts_same n r.modes n.body))

site_same : (n : Component) (ms : ModeSizes) (s : Site) (k : Component) (m : Manner) → site_sizes n ms s k m ≡ site_sizes n (near ms) s no_component m
site_same n ms s k plain =
    ap (λ F. two leaf (presence n s.clock) ∷ map (λ a. given_size leaf (F a)) s.arguments) (sizes_same n ms)
site_same n ms s k (while_true a) =
    ap (λ F. two leaf (two (presence n s.clock) (F a))
    ∷ three leaf leaf leaf
    ∷ two leaf (three leaf leaf leaf)
    ∷ map (λ a. given_size leaf (F a)) s.arguments) (sizes_same n ms)
site_same n ms s k (as_import xs) =
    ap (λ F. given_size leaf leaf ∷ map (λ a. given_size leaf (F a)) s.arguments) (sizes_same n ms)

-- what the caller gives, in that manner
abbrev given_of : Manner → Component → List Name
given_of (as_import xs) c = all_given c
given_of plain c = inputs_given c
given_of (while_true a) c = inputs_given c

given_is : (m : Manner) (k : Instance) → inputs_of k ++ outputs_given m (outputs_of k) ≡ given_of m (component_of k)
given_is (as_import xs) k = refl
given_is plain k = append_none (inputs_of k)
given_is (while_true a) k = append_none (inputs_of k)

frame_of_is : (p : Program) (m : Manner) (c : Component) → peak (frame_sizes (given_of m c) (instance_of p c)) ≡ frame_of m (size_summary_of p c)
frame_of_is p (as_import xs) c = refl
frame_of_is p plain c = refl
frame_of_is p (while_true a) c = refl

frame_is : (p : Program) (s : Site) (c : Component) → peak (frame_sizes (from_caller s (instance_of p c)) (instance_of p c)) ≡ frame_of s.manner
    (size_summary_of p c)
frame_is p s c =
    ap (λ g. peak (frame_sizes g (instance_of p c))) (given_is s.manner (instance_of p c) ∙ ap (given_of s.manner) (component_called p c))
    ∙ frame_of_is p s.manner c

sites_are : (p : Program) (n : Component) (ms : ModeSizes) (ss : List Site) →
    peak (call_sizes n ms (instances_with (instance_called_so p) ss)) ≡ sites_by n (near ms) ss (summaries_at p ss)
sites_are p n ms [] = refl
sites_are p n ms (s ∷ ss) =
    let k : Instance = instance_called_so p s.callee in
    let rest : List Size = call_sizes n ms (instances_with (instance_called_so p) ss) in
    peak_both (site_sizes n ms s (component_of k) s.manner) (frame_sizes (from_caller s k) k ++ rest)
    ∙ ap (λ x. greater (peak x) (peak (frame_sizes (from_caller s k) k ++ rest))) (site_same n ms s (component_of k) s.manner)
    ∙ ap (greater (peak (site_sizes n (near ms) s no_component s.manner)))
    (peak_both (frame_sizes (from_caller s k) k) rest
    ∙ ap (λ x. greater x (peak rest)) (frame_is p s (callee p s.callee))
    ∙ ap (greater (frame_of s.manner (size_summary_of p (callee p s.callee)))) (sites_are p n ms ss))

frame_made : (p : Program) (n : Component) (given : List Name) →
    peak (frame_sizes given (made p n)) ≡ frame_by (summaries_at p (all_sites n)) given n (contract_peaks (contract_sizes (made p n)))
frame_made p n given =
    let r : ContractSizes = contract_sizes (made p n) in
    let calls : List Size = call_sizes n r.modes (instances_with (instance_called_so p) (all_sites n)) in
    peak_both (own_sizes given n r) calls
    ∙ ap (λ x. greater (peak x) (peak calls)) (own_same given n r)
    ∙ ap (greater (peak (own_by given n (contract_peaks r)))) (sites_are p n r.modes (all_sites n))

same_summary : (a b : SizeSummary) → a.contract ≡ b.contract → a.called ≡ b.called → a.imported ≡ b.imported → a ≡ b
same_summary a b e f g = λ i. record { contract = e i; called = f i; imported = g i }

pub size_summary_by_text : SizeSummaryByText
size_summary_by_text p c n i =
    let e : instance_of p n ≡ made p n = made_of_callees p c n i in
    let r : contract_peaks (contract_sizes (instance_of p n)) ≡ contract_by (summaries_at p (all_sites n)) n =
    ap contract_peaks (contract_sizes_by_text p c n i) ∙ contract_is p n in
    let q : contract_peaks (contract_sizes (made p n)) ≡ contract_by (summaries_at p (all_sites n)) n =
    ap (λ k. contract_peaks (contract_sizes k)) (sym e) ∙ r in
    let f : (given : List Name) → peak (frame_sizes given (instance_of p n)) ≡ frame_by (summaries_at p (all_sites n)) given n
    (contract_by (summaries_at p (all_sites n)) n) =
    λ given. ap (λ k. peak (frame_sizes given k)) e ∙ frame_made p n given ∙ ap (frame_by (summaries_at p (all_sites n)) given n) q in
    same_summary (size_summary_of p n) (size_summary_by (summaries_at p (all_sites n)) n) r (f (inputs_given n)) (f (all_given n))

-- ---- a node's system

owed_greatest : (a b : Size) → greater (owed_size a) (owed_size b) ≡ owed_size (greater a b)
owed_greatest a b = same_size (greater (owed_size a) (owed_size b)) (owed_size (greater a b)) (omega arith) (omega arith)

owed_peak : (as_ : List Size) → peak (map owed_size as_) ≡ cond (chain by_and as_).is_none no_size (owed_size (peak as_))
owed_peak [] = refl
owed_peak (a ∷ []) = greater_none (owed_size a) ∙ ap owed_size (sym (greater_none a))
owed_peak (a ∷ b ∷ as_) = ap (greater (owed_size a)) (owed_peak (b ∷ as_)) ∙ owed_greatest a (peak (b ∷ as_))

owed_is : (m : Manner) (k : Instance) → peak (owed_sizes m k) ≡ owed_by m (contract_peaks (contract_sizes k))
owed_is (as_import xs) k = refl
owed_is plain k = owed_peak (contract_sizes k).assumes
owed_is (while_true a) k = owed_peak (contract_sizes k).assumes

all_owed_are : (p : Program) (ss : List Site) →
    peak (owed_by_sites (instances_with (instance_called_so p) ss)) ≡ all_owed_by ss (summaries_at p ss)
all_owed_are p [] = refl
all_owed_are p (s ∷ ss) =
    let k : Instance = instance_called_so p s.callee in
    let rest : List Size = owed_by_sites (instances_with (instance_called_so p) ss) in
    peak_both (owed_sizes s.manner k) rest ∙ ap (λ x. greater x (peak rest)) (owed_is s.manner k)
    ∙ ap (greater (owed_by s.manner (contract_peaks (contract_sizes k)))) (all_owed_are p ss)

-- what is seen of an instance
abbrev seen_of : Component → Instance → SizeSummary
seen_of n k = record {
  contract = contract_peaks (contract_sizes k);
  called = peak (frame_sizes (inputs_given n) k);
  imported = peak (frame_sizes (all_given n) k);
}

terms_made : (p : Program) (n : Component) → peak (term_sizes (made p n))
    ≡ terms_by (summaries_at p (all_sites n)) n (seen_of n (made p n))
terms_made p n =
    let r : ContractSizes = contract_sizes (made p n) in
    let fs : List Size = frame_sizes (inputs_given n) (made p n) in
    let qs : List Size = property_sizes n r.modes n.body in
    let m : Size = some_of (map (λ m. m.1) r.modes) in
    let os : List Size = owed_by_sites (instances_with (instance_called_so p) (all_sites n)) in
    peak_both fs (r.assumes ++ (qs ++ (r.promises ++ (m ∷ os))))
    ∙ ap (greater (peak fs))
    (peak_both r.assumes (qs ++ (r.promises ++ (m ∷ os)))
    ∙ ap (greater (peak r.assumes))
    (peak_both qs (r.promises ++ (m ∷ os))
    ∙ ap (λ x. greater (peak x) (peak (r.promises ++ (m ∷ os)))) (properties_same n r.modes n.body)
    ∙ ap (greater (peak (property_sizes n (near r.modes) n.body)))
    (peak_both r.promises (m ∷ os)
    ∙ ap (λ x. greater (peak r.promises) (greater x (peak os))) (some_chained (map (λ m. m.1) r.modes))
    ∙ ap (λ x. greater (peak r.promises) (greater (chain by_or (map (λ m. m.1) r.modes)).whole x)) (all_owed_are p (all_sites n)))))

pub terms_by_summaries : TermsBySummaries
terms_by_summaries p c n i =
    let e : instance_of p n ≡ made p n = made_of_callees p c n i in
    ap (λ k. peak (term_sizes k)) e ∙ terms_made p n ∙ ap (λ k. terms_by (summaries_at p (all_sites n)) n (seen_of n k)) (sym e)

pub limits_by_peaks : LimitsByPeaks
limits_by_peaks k ss = (levels_pass k ss, parts_pass k ss)
