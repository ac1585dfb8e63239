-- In a checked program call occurrences and first values stand at their numbers.
use Rattle.std.proofs.Common.{cond, ◌≡◌, ℕ, zero, suc, ◌≤◌, Bool, true, false, List, [], ◌∷◌, ◌++◌, map, flat_map, Option, Some, refl, sym, ap, ◌∙◌, subst, arith}
use Rattle.std.specs.Prelude.{Contains, pred, slice_index_or}
use Rattle.std.specs.List.{AllByRecursion}
use Rattle.std.specs.Str.{bytes_eq}
use Rattle.std.proofs.lemmas.Bool.{false≢true}
use Rattle.lus_tree.specs.declared.place.Sort.{Sort}
use Rattle.lus_tree.specs.Tree.{Expression, truth, number, name, negation, minus, pre, arrow, binary, choice, sampled, merged, call, condact, mode_name, ContractStatement, assume, guarantee, ghost_variable, constant, mode, «import», Component, declared_constant, declared_node, declared_contract, Program}
use Rattle.lus_tree.specs.Numbers.{a_pre, an_arrow, a_call, arrow_number, pre_number, call_number, all_numbers, import_number, numbers_in, are_counted, IsNumbered}
use Rattle.lus_meaning.specs.Value.{Value, absent, has_sort}
use Rattle.lus_meaning.specs.Frame.{Frame, firsts_of, first_value}
use Rattle.lus_meaning.specs.Scene.{Site, Instance, Instances, instance, no_instances, with_instance, component_of, calls_of, instance_at, call_instance, called_among, contract_statements}
use Rattle.lus_meaning.specs.Program.{site_in, import_site, all_sites, component_named, in_order, instance_of}
use Rattle.lus_meaning.specs.Run.{sort_of, first_sorts, have_sorts}
use Rattle.lus_meaning.specs.Occurrences.{Standing, Memory, gathered, memories, starts}
use Rattle.lus_meaning.specs.Scope.{node_named, contract_named}
use Rattle.lus_meaning.specs.NameFaults.{is_declared}
use Rattle.lus_meaning.specs.ClockFaults.{components}
use Rattle.lus_meaning.specs.Grammatical.{IsGrammaticalComponent, IsGrammaticalDeclaration, IsGrammatical}
use Rattle.lus_meaning.proofs.Exists.{self_bytes}
use Rattle.lus_meaning.proofs.Unique.{same_bytes}
use Rattle.lus_meaning.proofs.Lists.{append_none, map_append}
use Rattle.lus_meaning.proofs.NamesOnce.{at_one}
use Rattle.lus_meaning.proofs.Now.{left_part, right_part}
use Rattle.lus_meaning.proofs.Numbering.{numbers_gathered, memory_numbers, start_numbers}
use Rattle.rule_laws.specs.Laws.{IsTypedTree, OfEachTyped, IsUnfolded, AreUnfolded, site_at, HasItsPlace, CallsInPlace, ImportsInPlace, FirstsInPlace, MemoriesFound, StartsFound}
use Rattle.rule_laws.specs.Types.{has_sort_if_there, FirstsHaveSorts}
use Rattle.rule_laws.proofs.Callees.{each_call, each_import, where_is_named}
use Rattle.rule_laws.proofs.Numbered.{At, InPlace, all_in_place}
use Rattle.rule_laws.proofs.Unfolded.{component_within, typed_tree, unfolded_typed}
use Rattle.rule_laws.proofs.Truths.{both_true}

-- ---- numbers

pub all_grammatical : (ds : Program) → AllByRecursion IsGrammaticalDeclaration ds → AllByRecursion IsGrammaticalComponent (components ds)
all_grammatical [] a = tt
all_grammatical (declared_constant c ∷ ds) a = all_grammatical ds a.1
all_grammatical (declared_node n ∷ ds) a = (a.0, all_grammatical ds a.1)
all_grammatical (declared_contract n ∷ ds) a = (a.0.0, all_grammatical ds a.1)

pub numbered : (p : Program) → IsGrammatical p → (n : Component) → Contains (components p) n → IsNumbered n
numbered p g n i = (at_one IsGrammaticalComponent (components p) n (all_grammatical p g) i).numbered

no_imports : (cs : List ContractStatement) → flat_map (import_number a_pre) cs ≡ []
no_imports [] = refl
no_imports (assume l ∷ cs) = no_imports cs
no_imports (guarantee l ∷ cs) = no_imports cs
no_imports (ghost_variable x e ∷ cs) = no_imports cs
no_imports (constant c ∷ cs) = no_imports cs
no_imports (mode m rs es ∷ cs) = no_imports cs
no_imports («import» k f as_ xs ∷ cs) = no_imports cs

pub memories_counted : (n : Component) → IsNumbered n → are_counted (map (λ m. m.number) (memories n)) ≡ true
memories_counted n k =
    let same : numbers_in a_pre n ≡ map (λ m. m.number) (memories n) = ap (λ xs. all_numbers pre_number n ++ xs)
    (no_imports (contract_statements n)) ∙ append_none (all_numbers pre_number n) ∙ sym (memory_numbers n) in
    subst (λ xs. are_counted xs ≡ true) same (k.each a_pre)

site_is : (s : Standing) (e : Expression) → map (λ (c : Site). c.number) (site_in s e) ≡ call_number e
site_is s (truth p b) = refl
site_is s (number p k) = refl
site_is s (name p x) = refl
site_is s (negation p a) = refl
site_is s (minus p a) = refl
site_is s (pre p k a) = refl
site_is s (arrow p k a b) = refl
site_is s (binary p o a b) = refl
site_is s (choice p a b c) = refl
site_is s (sampled p a b x) = refl
site_is s (merged p x a b) = refl
site_is s (call p k f as_) = refl
site_is s (condact p k a f as_ ds) = refl
site_is s (mode_name p c m) = refl

imports_are : (cs : List ContractStatement) → map (λ (c : Site). c.number) (flat_map import_site cs) ≡ flat_map (import_number a_call) cs
imports_are [] = refl
imports_are (assume l ∷ cs) = imports_are cs
imports_are (guarantee l ∷ cs) = imports_are cs
imports_are (ghost_variable x e ∷ cs) = imports_are cs
imports_are (constant c ∷ cs) = imports_are cs
imports_are (mode m rs es ∷ cs) = imports_are cs
imports_are («import» k f as_ xs ∷ cs) = ap (λ ks. k ∷ ks) (imports_are cs)

abbrev found_sites : Component → List Site
found_sites n = gathered site_in n ++ flat_map import_site (contract_statements n)

pub sites_counted : (n : Component) → IsNumbered n → are_counted (map (λ c. c.number) (found_sites n)) ≡ true
sites_counted n k =
    let calls : map (λ (c : Site). c.number) (gathered site_in n) ≡ all_numbers call_number n = numbers_gathered site_in
    (λ c. c.number) call_number site_is n in
    let both : map (λ (c : Site). c.number) (gathered site_in n) ++ map (λ (c : Site). c.number)
    (flat_map import_site (contract_statements n)) ≡ numbers_in a_call n =
    ap (λ xs. xs ++ map (λ (c : Site). c.number) (flat_map import_site (contract_statements n))) calls ∙ ap
    (λ xs. all_numbers call_number n ++ xs) (imports_are (contract_statements n)) in
    subst (λ xs. are_counted xs ≡ true) (sym (map_append (λ (c : Site). c.number) (gathered site_in n)
    (flat_map import_site (contract_statements n)) ∙ both)) (k.each a_call)

no_started_imports : (cs : List ContractStatement) → flat_map (import_number an_arrow) cs ≡ []
no_started_imports [] = refl
no_started_imports (assume l ∷ cs) = no_started_imports cs
no_started_imports (guarantee l ∷ cs) = no_started_imports cs
no_started_imports (ghost_variable x e ∷ cs) = no_started_imports cs
no_started_imports (constant c ∷ cs) = no_started_imports cs
no_started_imports (mode m rs es ∷ cs) = no_started_imports cs
no_started_imports («import» k f as_ xs ∷ cs) = no_started_imports cs

pub starts_counted : (n : Component) → IsNumbered n → are_counted (map (λ m. m.number) (starts n)) ≡ true
starts_counted n k =
    let same : numbers_in an_arrow n ≡ map (λ m. m.number) (starts n) = ap (λ xs. all_numbers arrow_number n ++ xs)
    (no_started_imports (contract_statements n)) ∙ append_none (all_numbers arrow_number n) ∙ sym (start_numbers n) in
    subst (λ xs. are_counted xs ≡ true) same (k.each an_arrow)

-- ---- found by their numbers

pub memories_found : MemoriesFound
memories_found p c n i m j = (at_one (InPlace (λ x. x.number) (memories n)) (memories n) m
    (all_in_place (λ x. x.number) (memories n) (memories_counted n (numbered p c.grammatical n i))) j).found

pub starts_found : StartsFound
starts_found p c n i a j = (at_one (InPlace (λ x. x.number) (starts n)) (starts n) a
    (all_in_place (λ x. x.number) (starts n) (starts_counted n (numbered p c.grammatical n i))) j).found

-- ---- calls

-- the instance at the place of a call occurrence
placed_site : (p : Program) (ss : List Site) (is : Instances) (k : ℕ) (s : Site) → AreUnfolded p ss is → At ss k s → (site_at is k ≡ Some s)
    × (component_named p s.callee ≡ Some (component_of (instance_at is k)))
placed_site p [] is k s u a = absurd a
placed_site p (c ∷ ss) no_instances k s u a = absurd u
placed_site p (c ∷ ss) (with_instance d i is) zero s u a = (
  ap (λ (x : Site). Some x) (u.0 ∙ a),
  subst
      (λ x. component_named p x.callee ≡ Some (component_of i)) a u.1,
)
placed_site p (c ∷ ss) (with_instance d i is) (suc k) s u a = placed_site p ss is k s u.3 a

-- the first call of its callee
first_call : (p : Program) (ss : List Site) (is : Instances) (k : ℕ) (s : Site) → AreUnfolded p ss is → At ss k s
    → component_named p s.callee ≡ Some (component_of (called_among is s.callee))
first_call p [] is k s u a = absurd a
first_call p (c ∷ ss) no_instances k s u a = absurd u
first_call p (c ∷ ss) (with_instance d i is) zero s u a =
    let same : bytes_eq s.callee d.callee ≡ true = ap (bytes_eq s.callee) (ap (λ (x : Site). x.callee) (u.0 ∙ a)) ∙ self_bytes s.callee in
    subst (λ x. component_named p x.callee ≡ Some (component_of i)) a u.1 ∙ ap (λ b. Some (component_of (cond b i (called_among is s.callee)))) (sym same)
first_call p (c ∷ ss) (with_instance d i is) (suc k) s u a = go (bytes_eq s.callee d.callee) refl (first_call p ss is k s u.3 a)
  where
    go : (b : Bool) → bytes_eq s.callee d.callee ≡ b → component_named p s.callee ≡ Some (component_of (called_among is s.callee))
        → component_named p s.callee ≡ Some (component_of (cond b i (called_among is s.callee)))
    go true m r = subst (λ x. component_named p x ≡ Some (component_of i)) (sym (same_bytes s.callee d.callee m ∙ ap (λ (x : Site). x.callee) u.0)) u.1
    go false m r = r

calls_unfolded : (p : Program) (i : Instance) (n : Component) → component_of i ≡ n → IsUnfolded p i → AreUnfolded p (all_sites n) (calls_of i)
calls_unfolded p (instance m cs is) n e u = subst (λ k. AreUnfolded p (all_sites k) is) e u.1

pub by_number : (i : Instance) (k : ℕ) → 1 ≤ k → instance_at (calls_of i) (pred k) ≡ call_instance i k
by_number i zero l = absurd (omega arith)
by_number i (suc k) l = refl

site_in_place : (p : Program) → IsTypedTree p → (n : Component) → Contains (components p) n → (named : Option Component) (s : Site)
    → named ≡ component_named p s.callee → InPlace (λ c. c.number) (found_sites n) s → HasItsPlace (instance_of p n) named s
site_in_place p c n i named s e h =
    let u : AreUnfolded p (all_sites n) (calls_of (instance_of p n)) = calls_unfolded p (instance_of p n) n (component_within _ p n) (unfolded_typed p c n i) in
    let q : (site_at (calls_of (instance_of p n)) (pred s.number) ≡ Some s) ×
    (component_named p s.callee ≡ Some (component_of (instance_at (calls_of (instance_of p n)) (pred s.number)))) =
    placed_site p (all_sites n) (calls_of (instance_of p n)) (pred s.number) s u h.place in
    record {
      number = h.positive;
      by_name = e ∙ first_call p (all_sites n) (calls_of (instance_of p n))
          (pred s.number) s u h.place;
      site = q.0;
      callee = e ∙ q.1 ∙ ap (λ j. Some (component_of j))
          (by_number (instance_of p n) s.number h.positive);
    }

sites_in_place : (p : Program) → IsTypedTree p → (n : Component) → Contains (components p) n → AllByRecursion
    (InPlace (λ c. c.number) (found_sites n)) (found_sites n)
sites_in_place p c n i = all_in_place (λ c. c.number) (found_sites n) (sites_counted n (numbered p c.grammatical n i))

abbrev Placed : Component → Site → Type 0
Placed n s = InPlace (λ c. c.number) (found_sites n) s

pub each_call_placed : OfEachTyped (λ p n. (s : Site) → Contains (gathered site_in n) s → HasItsPlace (instance_of p n) (node_named p s.callee) s)
each_call_placed p c n i s h =
    let places : AllByRecursion (Placed n) (gathered site_in n) = left_part (Placed n) (gathered site_in n)
    (flat_map import_site (contract_statements n)) (sites_in_place p c n i) in
    let declared : is_declared (node_named p s.callee) ≡ true = at_one (λ x. is_declared (node_named p x.callee) ≡ true)
    (gathered site_in n) s (each_call p c.typed n i) h in
    site_in_place p c n i (node_named p s.callee) s (where_is_named true p s.callee declared) (at_one (Placed n) (gathered site_in n) s places h)

pub calls_in_place : CallsInPlace
calls_in_place p c = each_call_placed p (typed_tree p c)

pub each_import_placed : OfEachTyped (λ p n. (s : Site) → Contains (flat_map import_site (contract_statements n)) s
    → HasItsPlace (instance_of p n) (contract_named p s.callee) s)
each_import_placed p c n i s h =
    let places : AllByRecursion (Placed n) (flat_map import_site (contract_statements n)) = right_part (Placed n) (gathered site_in n)
    (flat_map import_site (contract_statements n)) (sites_in_place p c n i) in
    let declared : is_declared (contract_named p s.callee) ≡ true = at_one (λ x. is_declared (contract_named p x.callee) ≡ true)
    (flat_map import_site (contract_statements n)) s (each_import p c.typed n i) h in
    site_in_place p c n i (contract_named p s.callee) s (where_is_named false p s.callee declared)
    (at_one (Placed n) (flat_map import_site (contract_statements n)) s places h)

pub imports_in_place : ImportsInPlace
imports_in_place p c = each_import_placed p (typed_tree p c)

-- ---- first values

sorted_at : (sort : Memory → Sort) (ms : List Memory) (vs : List Value) (k : ℕ) (m : Memory) → have_sorts (map sort ms) vs ≡ true
    → At ms k m → has_sort (sort m) (slice_index_or vs k absent) ≡ true
sorted_at sort [] vs k m h a = absurd a
sorted_at sort (x ∷ ms) [] k m h a = absurd (false≢true h)
sorted_at sort (x ∷ ms) (v ∷ vs) zero m h a = subst (λ y. has_sort (sort y) v ≡ true) a (both_true (has_sort (sort x) v) (have_sorts (map sort ms) vs) h).0
sorted_at sort (x ∷ ms) (v ∷ vs) (suc k) m h a = sorted_at sort ms vs k m (both_true (has_sort (sort x) v) (have_sorts (map sort ms) vs) h).1 a

-- a `pre` finds its place among the sorted ones by its number
sorted_place : (p : Program) → IsGrammatical p → (n : Component) → Contains (components p) n → (m : Memory) → Contains (memories n) m
    → At (in_order (λ x. x.number) (memories n)) (pred m.number) m
sorted_place p g n i m j = (at_one (InPlace (λ x. x.number) (memories n)) (memories n) m
    (all_in_place (λ x. x.number) (memories n) (memories_counted n (numbered p g n i))) j).place

sorts_within : (P : List Sort → Type 0) (p : Program) (n : Component) → P (first_sorts (instance_of p n))
    → P (map (λ x. sort_of (instance_of p n) x.operand) (in_order (λ x. x.number) (memories n)))
sorts_within P p n h =
    subst (λ k. P (map (λ x. sort_of (instance_of p n) x.operand) (in_order (λ x. x.number) (memories k)))) (component_within _ p n) h

-- first values that have the types of the instance
pub firsts_placed : (p : Program) → IsGrammatical p → (n : Component) → Contains (components p) n → (f : Frame)
    → have_sorts (first_sorts (instance_of p n)) (firsts_of f) ≡ true → (m : Memory) → Contains (memories n) m
    → has_sort (sort_of (instance_of p n) m.operand) (first_value f m.number) ≡ true
firsts_placed p g n i f h m j =
    sorted_at (λ x. sort_of (instance_of p n) x.operand) (in_order (λ x. x.number) (memories n)) (firsts_of f) (pred m.number) m
    (sorts_within (λ qs. have_sorts qs (firsts_of f) ≡ true) p n h) (sorted_place p g n i m j)

pub firsts_in_place : FirstsInPlace
firsts_in_place p c = firsts_placed p c.grammatical

sort_there : (sort : Memory → Sort) (ms : List Memory) (vs : List Value) (k : ℕ) (m : Memory) → FirstsHaveSorts (map sort ms) vs
    → At ms k m → has_sort_if_there (sort m) (slice_index_or vs k absent) ≡ true
sort_there sort [] vs k m h a = absurd a
sort_there sort (x ∷ ms) [] k m h a = refl
sort_there sort (x ∷ ms) (v ∷ vs) zero m h a = subst (λ y. has_sort_if_there (sort y) v ≡ true) a h.0
sort_there sort (x ∷ ms) (v ∷ vs) (suc k) m h a = sort_there sort ms vs k m h.1 a

-- first values that have the types of the instance where they are there
pub firsts_there : (p : Program) → IsGrammatical p → (n : Component) → Contains (components p) n → (f : Frame)
    → FirstsHaveSorts (first_sorts (instance_of p n)) (firsts_of f) → (m : Memory) → Contains (memories n) m
    → has_sort_if_there (sort_of (instance_of p n) m.operand) (first_value f m.number) ≡ true
firsts_there p g n i f h m j =
    sort_there (λ x. sort_of (instance_of p n) x.operand) (in_order (λ x. x.number) (memories n)) (firsts_of f) (pred m.number) m
    (sorts_within (λ qs. FirstsHaveSorts qs (firsts_of f)) p n h) (sorted_place p g n i m j)
