-- What callers need of a declaration is known from its text and what is needed of its callees.
use Rattle.std.proofs.Common.{◌≡◌, ℕ, zero, suc, pred, ◌+◌, true, false, not, List, [], ◌∷◌, ◌++◌, map, flat_map, length, length-append, slice_index_or, Option, Some, None, refl, sym, ap, ◌∙◌, subst, arith}
use Rattle.std.specs.Prelude.{is_none, Contains}
use Rattle.lus_tree.specs.Numbers.{a_pre, an_arrow, arrow_number, pre_number, all_numbers, import_number, are_counted, IsNumbered}
use Rattle.lus_tree.specs.Tree.{Expression, Expressions, truth, number, name, negation, minus, pre, arrow, binary, choice, sampled, merged, call, condact, mode_name, no_more, more, ContractStatement, assume, guarantee, ghost_variable, constant, mode, «import», Component, Program}
use Rattle.lus_meaning.specs.Scene.{clock_of, sampled_by, Manner, plain, while_true, as_import, Site, Instance, instance, component_of, contract_statements, variables}
use Rattle.lus_meaning.specs.Program.{in_order, all_sites, instance_of}
use Rattle.lus_meaning.specs.Occurrences.{Occurrence, Standing, Text, before, moved, within, occurrences, occurrences_among, texts, Memory, Start, memory_in, start_in, memories, starts}
use Rattle.lus_meaning.specs.Contract.{terms}
use Rattle.lus_meaning.specs.Property.{properties}
use Rattle.lus_meaning.specs.Slots.{Cell, slot, name_cell, memory_cell, start_cell, contract_cells, own_cells, held_cells, slots_in, call_slots}
use Rattle.lus_meaning.specs.ClockFaults.{components}
use Rattle.lus_meaning.specs.Refusals.{IsChecked}
use Rattle.lus_meaning.specs.RuleLaws.{sites_width}
use Rattle.lus_meaning.proofs.Exists.{length_mapped}
use Rattle.lus_meaning.proofs.InOrder.{in_order_length}
use Rattle.lus_meaning.proofs.Lists.{append_none}
use Rattle.lus_meaning.proofs.Numbering.{memory_numbers, start_numbers}
use Rattle.rule_laws.proofs.Places.{numbered}
use Rattle.lus_limits.specs.declared.summing.Summary.{Summary}
use Rattle.lus_limits.specs.declared.summing.Link.{Link}
use Rattle.lus_limits.specs.Calls.{way_of}
use Rattle.lus_limits.specs.Counts.{Counts, none_counted, with_counts, counted, statement_counts, contract_counts, counts_at, callee_counts, owed_count, owed_counts, property_count, cut_counts}
use Rattle.lus_limits.specs.Instances.{callee}
use Rattle.lus_limits.specs.Parts.{sides}
use Rattle.lus_limits.specs.Widths.{frame_width}
use Rattle.lus_limits.specs.Summaries.{bound, cut, counts_view, as_code, link_of, state_count, states_among, states_in, own_count, sofar_count, links_width, owed_of, links_owed, link_counts, counts_by, SummaryByText}
use Rattle.lus_limits.proofs.Instances.{component_called}
use Rattle.lus_limits.proofs.Widths.{width_by_text}
use Rattle.lus_limits.proofs.Counts.{contract_by_text, properties_by_text, count_cuts, property_cuts}
use Rattle.lus_limits.proofs.Occurring.{sides_are}

-- ---- occurrences of `pre` and `->`

abbrev kept : Occurrence → ℕ
kept o = length (memory_in o.standing o.expression) + length (start_in o.standing o.expression)

abbrev all_kept : List Occurrence → ℕ
all_kept [] = 0
all_kept (o ∷ os) = kept o + all_kept os

kept_both : (xs ys : List Occurrence) → all_kept (xs ++ ys) ≡ all_kept xs + all_kept ys
kept_both [] ys = omega arith
kept_both (x ∷ xs) ys = let r : all_kept (xs ++ ys) ≡ all_kept xs + all_kept ys = kept_both xs ys in omega arith

mutual
  kept_are : (n : Component) (s : Standing) (e : Expression) → all_kept (occurrences n s e) ≡ state_count e
  kept_are n s (truth p b) = refl
  kept_are n s (number p k) = refl
  kept_are n s (name p x) = refl
  kept_are n s (negation p a) = let r : all_kept (occurrences n (within s) a) ≡ state_count a = kept_are n (within s) a in omega arith
  kept_are n s (minus p a) = let r : all_kept (occurrences n (within s) a) ≡ state_count a = kept_are n (within s) a in omega arith
  kept_are n s (pre p k a) = let r : all_kept (occurrences n (before s) a) ≡ state_count a = kept_are n (before s) a in omega arith
  kept_are n s (arrow p k a b) =
      let q : all_kept (occurrences n (within s) a) ≡ state_count a = kept_are n (within s) a in
      let r : all_kept (occurrences n (within s) b) ≡ state_count b = kept_are n (within s) b in
      kept_both (occurrences n (within s) a) _ ∙ omega arith
  kept_are n s (binary p o a b) =
      let q : all_kept (occurrences n (within s) a) ≡ state_count a = kept_are n (within s) a in
      let r : all_kept (occurrences n (within s) b) ≡ state_count b = kept_are n (within s) b in
      kept_both (occurrences n (within s) a) _ ∙ omega arith
  kept_are n s (choice p a b d) =
      let q : all_kept (occurrences n (within s) a) ≡ state_count a = kept_are n (within s) a in
      let r : all_kept (occurrences n (within s) b) ≡ state_count b = kept_are n (within s) b in
      let t : all_kept (occurrences n (within s) d) ≡ state_count d = kept_are n (within s) d in
      let u : all_kept (occurrences n (within s) b ++ occurrences n (within s) d) ≡ _ = kept_both (occurrences n (within s) b) (occurrences n (within s) d) in
      let v : all_kept (occurrences n (within s) a ++ (occurrences n (within s) b ++ occurrences n (within s) d)) ≡ _ =
      kept_both (occurrences n (within s) a) (occurrences n (within s) b ++ occurrences n (within s) d) in
      omega arith
  kept_are n s (sampled p a b x) =
      let q : all_kept (occurrences n (moved (clock_of n x.text) s) a) ≡ state_count a = kept_are n (moved (clock_of n x.text) s) a in
      kept_both (occurrences n (moved (clock_of n x.text) s) a) _ ∙ omega arith
  kept_are n s (merged p x a b) =
      let q : all_kept (occurrences n (moved (sampled_by true x.text) s) a) ≡ state_count a = kept_are n (moved (sampled_by true x.text) s) a in
      let r : all_kept (occurrences n (moved (sampled_by false x.text) s) b) ≡ state_count b = kept_are n (moved (sampled_by false x.text) s) b in
      let u : all_kept (occurrences n (moved (sampled_by true x.text) s) a ++ occurrences n (moved (sampled_by false x.text) s) b) ≡ _ =
      kept_both (occurrences n (moved (sampled_by true x.text) s) a) (occurrences n (moved (sampled_by false x.text) s) b) in
      omega arith
  kept_are n s (call p k f as_) = let r : all_kept (occurrences_among n (within s) as_) ≡ states_among as_ = among_kept n (within s) as_ in omega arith
  kept_are n s (condact p k a f as_ ds) =
      let q : all_kept (occurrences n (within s) a) ≡ state_count a = kept_are n (within s) a in
      let r : all_kept (occurrences_among n (within s) as_) ≡ states_among as_ = among_kept n (within s) as_ in
      let t : all_kept (occurrences_among n (within s) ds) ≡ states_among ds = among_kept n (within s) ds in
      let u : all_kept (occurrences_among n (within s) as_ ++ occurrences_among n (within s) ds) ≡ _ =
      kept_both (occurrences_among n (within s) as_) (occurrences_among n (within s) ds) in
      let v : all_kept (occurrences n (within s) a ++ (occurrences_among n (within s) as_ ++ occurrences_among n (within s) ds)) ≡ _ =
      kept_both (occurrences n (within s) a) (occurrences_among n (within s) as_ ++ occurrences_among n (within s) ds) in
      omega arith
  kept_are n s (mode_name p c m) = refl

  among_kept : (n : Component) (s : Standing) (es : Expressions) → all_kept (occurrences_among n s es) ≡ states_among es
  among_kept n s no_more = refl
  among_kept n s (more a as_) =
      let q : all_kept (occurrences n s a) ≡ state_count a = kept_are n s a in
      let r : all_kept (occurrences_among n s as_) ≡ states_among as_ = among_kept n s as_ in
      kept_both (occurrences n s a) (occurrences_among n s as_) ∙ omega arith

texts_kept : (n : Component) (xs : List Text) → all_kept (flat_map (λ x. occurrences n x.0 x.1) xs) ≡ states_in (map (λ x. x.1) xs)
texts_kept n [] = refl
texts_kept n (x ∷ xs) =
    let q : all_kept (occurrences n x.0 x.1) ≡ state_count x.1 = kept_are n x.0 x.1 in
    let r : all_kept (flat_map (λ x. occurrences n x.0 x.1) xs) ≡ states_in (map (λ x. x.1) xs) = texts_kept n xs in
    kept_both (occurrences n x.0 x.1) (flat_map (λ x. occurrences n x.0 x.1) xs) ∙ omega arith

both_kept : (os : List Occurrence) → length (flat_map (λ o. memory_in o.standing o.expression) os)
    + length (flat_map (λ o. start_in o.standing o.expression) os) ≡ all_kept os
both_kept [] = refl
both_kept (o ∷ os) =
    let r : length (flat_map (λ o. memory_in o.standing o.expression) os) + length (flat_map (λ o. start_in o.standing o.expression) os)
    ≡ all_kept os = both_kept os in
    let a : length (memory_in o.standing o.expression ++ flat_map (λ o. memory_in o.standing o.expression) os)
    ≡ length (memory_in o.standing o.expression) + length (flat_map (λ o. memory_in o.standing o.expression) os) =
    length-append (memory_in o.standing o.expression) (flat_map (λ o. memory_in o.standing o.expression) os) in
    let b : length (start_in o.standing o.expression ++ flat_map (λ o. start_in o.standing o.expression) os)
    ≡ length (start_in o.standing o.expression) + length (flat_map (λ o. start_in o.standing o.expression) os) =
    length-append (start_in o.standing o.expression) (flat_map (λ o. start_in o.standing o.expression) os) in
    omega arith

inner_in : (n : Component) → length (memories n) + length (starts n) ≡ states_in (sides n)
inner_in n = both_kept (flat_map (λ x. occurrences n x.0 x.1) (texts n)) ∙ texts_kept n (texts n) ∙ ap states_in (sides_are n)

-- ---- the cells of a frame

no_imports : (cs : List ContractStatement) → flat_map (import_number a_pre) cs ≡ []
no_imports [] = refl
no_imports (assume l ∷ cs) = no_imports cs
no_imports (guarantee l ∷ cs) = no_imports cs
no_imports (ghost_variable x e ∷ cs) = no_imports cs
no_imports (constant c ∷ cs) = no_imports cs
no_imports (mode m rs es ∷ cs) = no_imports cs
no_imports («import» k f as_ xs ∷ cs) = no_imports cs

no_started : (cs : List ContractStatement) → flat_map (import_number an_arrow) cs ≡ []
no_started [] = refl
no_started (assume l ∷ cs) = no_started cs
no_started (guarantee l ∷ cs) = no_started cs
no_started (ghost_variable x e ∷ cs) = no_started cs
no_started (constant c ∷ cs) = no_started cs
no_started (mode m rs es ∷ cs) = no_started cs
no_started («import» k f as_ xs ∷ cs) = no_started cs

memories_counted : (n : Component) → IsNumbered n → are_counted (map (λ m. m.number) (memories n)) ≡ true
memories_counted n k =
    subst (λ xs. are_counted xs ≡ true) (ap (λ xs. all_numbers pre_number n ++ xs) (no_imports (contract_statements n))
    ∙ append_none (all_numbers pre_number n) ∙ sym (memory_numbers n)) (k.each a_pre)

starts_counted : (n : Component) → IsNumbered n → are_counted (map (λ m. m.number) (starts n)) ≡ true
starts_counted n k =
    subst (λ xs. are_counted xs ≡ true) (ap (λ xs. all_numbers arrow_number n ++ xs) (no_started (contract_statements n))
    ∙ append_none (all_numbers arrow_number n) ∙ sym (start_numbers n)) (k.each an_arrow)

pub own_counted : (n : Component) → IsNumbered n → length (own_cells (as_import []) n) ≡ own_count n
own_counted n k =
    let ms : List Memory = in_order (λ p. p.number) (memories n) in
    let ss : List Start = in_order (λ p. p.number) (starts n) in
    let a : length (map name_cell (variables n) ++ (map memory_cell ms ++ (map start_cell ss ++ contract_cells (as_import []) n.contract)))
    ≡ length (map name_cell (variables n)) + length (map memory_cell ms ++ (map start_cell ss ++ contract_cells (as_import []) n.contract)) =
    length-append (map name_cell (variables n)) (map memory_cell ms ++ (map start_cell ss ++ contract_cells (as_import []) n.contract)) in
    let b : length (map memory_cell ms ++ (map start_cell ss ++ contract_cells (as_import []) n.contract)) ≡ length (map memory_cell ms)
    + length (map start_cell ss ++ contract_cells (as_import []) n.contract) =
    length-append (map memory_cell ms) (map start_cell ss ++ contract_cells (as_import []) n.contract) in
    let c : length (map start_cell ss ++ contract_cells (as_import []) n.contract) ≡ length (map start_cell ss)
    + length (contract_cells (as_import []) n.contract) = length-append (map start_cell ss) (contract_cells (as_import []) n.contract) in
    let d : length (contract_cells (as_import []) n.contract) ≡ 0 = none n.contract in
    let e : length (map name_cell (variables n)) ≡ length (variables n) = length_mapped name_cell (variables n) in
    let f : length (map memory_cell ms) ≡ length (memories n) =
    length_mapped memory_cell ms ∙ in_order_length (λ p. p.number) (memories n) (memories_counted n k) in
    let g : length (map start_cell ss) ≡ length (starts n) =
    length_mapped start_cell ss ∙ in_order_length (λ p. p.number) (starts n) (starts_counted n k) in
    let h : length (memories n) + length (starts n) ≡ states_in (sides n) = inner_in n in
    omega arith
  where
    none : (c : Option (List ContractStatement)) → length (contract_cells (as_import []) c) ≡ 0
    none None = refl
    none (Some cs) = refl

-- ---- manners

sofar_cells : (m : Manner) (c : Option (List ContractStatement)) → length (contract_cells m c) ≡ sofar_count (way_of m) (not (is_none c))
sofar_cells plain None = refl
sofar_cells (while_true a) None = refl
sofar_cells (as_import xs) None = refl
sofar_cells plain (Some cs) = refl
sofar_cells (while_true a) (Some cs) = refl
sofar_cells (as_import xs) (Some cs) = refl

pub own_in : (m : Manner) (n : Component) → length (own_cells m n) ≡ length (own_cells (as_import []) n) + sofar_count (way_of m) (not (is_none n.contract))
own_in m n =
    let xs : List Cell = map name_cell (variables n) in
    let ys : List Cell = map memory_cell (in_order (λ p. p.number) (memories n)) in
    let zs : List Cell = map start_cell (in_order (λ p. p.number) (starts n)) in
    let split : (cs : List Cell) → length (xs ++ (ys ++ (zs ++ cs))) ≡ length xs + (length ys + (length zs + length cs)) =
    λ cs. length-append xs (ys ++ (zs ++ cs)) ∙ rw (length-append ys (zs ++ cs), length-append zs cs) refl in
    let a : length (xs ++ (ys ++ (zs ++ contract_cells m n.contract))) ≡ length xs + (length ys + (length zs + length (contract_cells m n.contract))) =
    split (contract_cells m n.contract) in
    let b : length (xs ++ (ys ++ (zs ++ contract_cells (as_import []) n.contract)))
    ≡ length xs + (length ys + (length zs + length (contract_cells (as_import []) n.contract))) = split (contract_cells (as_import []) n.contract) in
    let c : length (contract_cells m n.contract) ≡ sofar_count (way_of m) (not (is_none n.contract)) = sofar_cells m n.contract in
    let d : length (contract_cells (as_import []) n.contract) ≡ 0 = sofar_cells (as_import []) n.contract in
    omega arith

frame_in : (m : Manner) (i : Instance) → length (slots_in m [] i) ≡ length (slots_in (as_import []) [] i)
    + sofar_count (way_of m) (not (is_none (component_of i).contract))
frame_in m (instance n cs is) =
    let i : Instance = instance n cs is in
    let a : length (map (slot i []) (own_cells m n) ++ call_slots i [] is) ≡ length (map (slot i []) (own_cells m n)) + length (call_slots i [] is) =
    length-append (map (slot i []) (own_cells m n)) (call_slots i [] is) in
    let b : length (map (slot i []) (own_cells (as_import []) n) ++ call_slots i [] is)
    ≡ length (map (slot i []) (own_cells (as_import []) n)) + length (call_slots i [] is) =
    length-append (map (slot i []) (own_cells (as_import []) n)) (call_slots i [] is) in
    let c : length (map (slot i []) (own_cells m n)) ≡ length (own_cells m n) = length_mapped (slot i []) (own_cells m n) in
    let d : length (map (slot i []) (own_cells (as_import []) n)) ≡ length (own_cells (as_import []) n) =
    length_mapped (slot i []) (own_cells (as_import []) n) in
    let e : length (own_cells m n) ≡ length (own_cells (as_import []) n) + sofar_count (way_of m) (not (is_none n.contract)) = own_in m n in
    omega arith

pub frame_so : (p : Program) (m : Manner) (n : Component) → frame_width p m n ≡ frame_width p (as_import []) n
    + sofar_count (way_of m) (not (is_none n.contract))
frame_so p m n =
    frame_in m (instance_of p n)
    ∙ ap (λ k. frame_width p (as_import []) n + sofar_count (way_of m) (not (is_none k.contract))) (component_called p n)

-- ---- calls

cut_links : (h f s w v : ℕ) → cut w ≡ cut v → cut (cut h + ((cut f + s) + w)) ≡ cut (h + ((f + s) + v))
cut_links h f s w v e = omega arith

links_cut : (p : Program) (ss : List Site) → cut (links_width (map (link_of p) ss)) ≡ cut (sites_width (frame_width p) p ss)
links_cut p [] = refl
links_cut p (s ∷ ss) =
    let n : Component = callee p s.callee in
    cut_links (length (held_cells s n s.manner)) (frame_width p (as_import []) n) (sofar_count (way_of s.manner) (not (is_none n.contract)))
    (links_width (map (link_of p) ss)) (sites_width (frame_width p) p ss) (links_cut p ss)
    ∙ ap (λ w. cut (length (held_cells s n s.manner) + (w + sites_width (frame_width p) p ss))) (sym (frame_so p s.manner n))

cut_next : (a w v : ℕ) → cut w ≡ cut v → cut (a + w) ≡ cut (a + v)
cut_next a w v e = omega arith

width_cut : (p : Program) → IsChecked p → (n : Component) → Contains (components p) n
    → cut (own_count n + links_width (map (link_of p) (all_sites n))) ≡ cut (frame_width p (as_import []) n)
width_cut p c n i =
    cut_next (own_count n) (links_width (map (link_of p) (all_sites n))) (sites_width (frame_width p) p (all_sites n)) (links_cut p (all_sites n))
    ∙ ap (λ k. cut (k + sites_width (frame_width p) p (all_sites n))) (sym (own_counted n (numbered p c.grammatical n i)))
    ∙ ap cut (sym (width_by_text p c n i (as_import [])))

-- ---- counts

owed_is : (m : Manner) (c : Counts) → owed_of (way_of m) (cut c.assumes) ≡ cut (owed_count m c)
owed_is plain c = refl
owed_is (while_true a) c = refl
owed_is (as_import xs) c = refl

cut_both : (a w v : ℕ) → cut w ≡ cut v → cut (cut a + w) ≡ cut (a + v)
cut_both a w v e = omega arith

owed_cut : (p : Program) (ss : List Site) → cut (links_owed (map (link_of p) ss)) ≡ cut (owed_counts (callee_counts p) ss)
owed_cut p [] = refl
owed_cut p (s ∷ ss) =
    ap (λ k. cut (k + links_owed (map (link_of p) ss))) (owed_is s.manner (callee_counts p s.callee))
    ∙ cut_both (owed_count s.manner (callee_counts p s.callee)) (links_owed (map (link_of p) ss)) (owed_counts (callee_counts p) ss) (owed_cut p ss)

counts_linked : (p : Program) (ss : List Site) (j : ℕ) → slice_index_or (map (λ l. counts_view l.callee.counts) (map (link_of p) ss)) j none_counted
    ≡ cut_counts bound (slice_index_or (map (λ s. callee_counts p s.callee) ss) j none_counted)
counts_linked p [] j = refl
counts_linked p (s ∷ ss) zero = refl
counts_linked p (s ∷ ss) (suc j) = counts_linked p ss j

cut_twice : (c : Counts) → cut_counts bound (cut_counts bound c) ≡ cut_counts bound c
cut_twice c = four c.assumes c.guarantees c.ensures c.modes
  where
    once : (k : ℕ) → cut (cut k) ≡ cut k
    once k = omega arith

    these : ℕ → ℕ → ℕ → ℕ → Counts
    these a g e m = record { assumes = a; guarantees = g; ensures = e; modes = m }

    four : (a g e m : ℕ) → these (cut (cut a)) (cut (cut g)) (cut (cut e)) (cut (cut m)) ≡ these (cut a) (cut g) (cut e) (cut m)
    four a g e m = rw (once a, once g, once e, once m) refl

alike : (f g : ℕ → Counts) → ((k : ℕ) → f k ≡ cut_counts bound (g k)) → (c : ContractStatement) →
    cut_counts bound (statement_counts f c) ≡ cut_counts bound (statement_counts g c)
alike f g h (assume l) = refl
alike f g h (guarantee l) = refl
alike f g h (ghost_variable v e) = refl
alike f g h (constant c) = refl
alike f g h (mode m rs es) = refl
alike f g h («import» k c as_ xs) = ap (cut_counts bound) (h k) ∙ cut_twice (g k)

all_alike : (f g : ℕ → Counts) → ((k : ℕ) → f k ≡ cut_counts bound (g k)) → (cs : List ContractStatement) →
    cut_counts bound (contract_counts f cs) ≡ cut_counts bound (contract_counts g cs)
all_alike f g h [] = refl
all_alike f g h (c ∷ cs) =
    count_cuts bound (statement_counts f c) (contract_counts f cs)
    ∙ ap (λ a. cut_counts bound (with_counts a (cut_counts bound (contract_counts f cs)))) (alike f g h c)
    ∙ ap (λ b. cut_counts bound (with_counts (cut_counts bound (statement_counts g c)) b)) (all_alike f g h cs)
    ∙ sym (count_cuts bound (statement_counts g c) (contract_counts g cs))

counts_are : (p : Program) → IsChecked p → (n : Component) → Contains (components p) n
    → counts_by n (map (link_of p) (all_sites n)) ≡ cut_counts bound (counted (terms (instance_of p n)))
counts_are p c n i =
    all_alike (link_counts (map (link_of p) (all_sites n))) (counts_at (callee_counts p) (all_sites n))
    (λ k. counts_linked p (all_sites n) (pred k)) (contract_statements n)
    ∙ ap (cut_counts bound) (sym (contract_by_text p c n i))

properties_are : (p : Program) → IsChecked p → (n : Component) → Contains (components p) n
    → cut (property_count n.body (counts_by n (map (link_of p) (all_sites n))) (links_owed (map (link_of p) (all_sites n))))
    ≡ cut (length (properties (instance_of p n)))
properties_are p c n i =
    let r : Counts = counted (terms (instance_of p n)) in
    let owed : ℕ = links_owed (map (link_of p) (all_sites n)) in
    ap (λ k. cut (property_count n.body k owed)) (counts_are p c n i)
    ∙ property_cuts 20000 n.body (cut_counts bound r) owed
    ∙ ap (λ k. cut (property_count n.body k (cut owed))) (cut_twice r)
    ∙ ap (λ k. cut (property_count n.body (cut_counts bound r) k)) (owed_cut p (all_sites n))
    ∙ sym (property_cuts 20000 n.body r (owed_counts (callee_counts p) (all_sites n)))
    ∙ ap cut (sym (properties_by_text p c n i))

pub summary_by_text : SummaryByText
summary_by_text p c n i =
    ap (λ w. these w (counts_by n ls) (cut (property_count n.body (counts_by n ls) (links_owed ls)))) (width_cut p c n i)
    ∙ ap (λ k. these (cut (frame_width p (as_import []) n)) k (cut (property_count n.body (counts_by n ls) (links_owed ls)))) (counts_are p c n i)
    ∙ ap (these (cut (frame_width p (as_import []) n)) (cut_counts bound (counted (terms (instance_of p n))))) (properties_are p c n i)
  where
    ls : List Link
    ls = map (link_of p) (all_sites n)

    these : ℕ → Counts → ℕ → Summary
    these w k q = record { frame = w; contract = not (is_none n.contract); counts = as_code k; properties = q }
