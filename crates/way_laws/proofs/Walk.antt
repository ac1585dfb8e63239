-- The modes of a contract in turn: what each reads in the own graph stands for what it needs in the tree.
use Rattle.std.proofs.Common.{◌≡◌, ℕ, zero, suc, pred, ◌≤◌, Bool, true, false, cond, ◌||◌, List, [], ◌∷◌, ◌++◌, map, flat_map, refl, sym, ap, ◌∙◌, subst, arith, append_assoc, Option, Some, None, not}
use Rattle.std.specs.Prelude.{slice_index_or, unwrap_or}
use Rattle.std.specs.List.{AllByRecursion}
use Rattle.std.specs.Map.{lookup}
use Rattle.std.specs.Str.{bytes_eq}
use Rattle.std.proofs.Math.Logic.{◌⊎◌, inl, inr}
use Rattle.std.proofs.lemmas.Bool.{false≢true}
use Rattle.lus_tree.specs.declared.place.Sort.TheVariants.{Bool as Flags}
use Rattle.lus_tree.specs.Tree.{Name, Spelled, text_of, Expression, Labelled, Variable, ContractStatement, assume, guarantee, ghost_variable, constant, mode, «import», Component, Program, mode_name}
use Rattle.lus_meaning.specs.Scene.{base, as_import, Site, Instance, Instances, instance, no_instances, with_instance, component_of, outputs_of, instance_at, calls_of, call_instance, contract_statements, ghosts, clock_of, clock_of_names}
use Rattle.lus_meaning.specs.Program.{import_site}
use Rattle.lus_meaning.specs.Run.{Equation, ghost_equations, inputs_of}
use Rattle.lus_meaning.specs.Occurrences.{on_clock, as_side, on_base, Text, contract_statement_texts, Standing, occurs, occurrences}
use Rattle.lus_meaning.specs.Depends.{Need, the_beat, a_name, inside, needs, ModeNeeds, modes_need, modes_need_each, modes_after, asked_needs, imported_needs, known_needs, equation_needs, named_in}
use Rattle.lus_meaning.specs.Cycle.{place_of, matching, shared_needs, caller_needs}
use Rattle.lus_meaning.specs.Meaning.{mode_key}
use Rattle.lus_meaning.specs.Scope.{Scope, node_named, contract_named, mode_names, import_names, contract_statement_scope}
use Rattle.lus_meaning.specs.ExpressionFaults.{expression_faults, flag_faults, needs_sort, sides_fit, has_mode, mode_is_known, part_faults, form_faults, weight_faults}
use Rattle.lus_meaning.specs.NameFaults.{home, flags_of, contract_statement_faults, contract_faults}
use Rattle.lus_meaning.proofs.Members.{IsIn, in_left, in_right, named_either}
use Rattle.lus_meaning.proofs.Exists.{self_bytes}
use Rattle.lus_meaning.proofs.Lists.{append_none}
use Rattle.lus_meaning.proofs.NamesOnce.{no_parts, not_so}
use Rattle.lus_meaning.proofs.Now.{left_part, right_part}
use Rattle.lus_meaning.proofs.Unique.{same_bytes}
use Rattle.clock_laws.proofs.Contracts.{side_top, mode_names_append}
use Rattle.clock_laws.proofs.Reaching.{in_either}
use Rattle.clock_laws.proofs.Texts.{HasOutputs}
use Rattle.way_laws.specs.OwnGraph.{Summaries, ModeReads, known_reads, reads, listed_read, shared_read, imported_reads, asked_reads, mode_reads_after, mode_reads}
use Rattle.way_laws.specs.Summaries.{Needs, HoldsOf, HasMode}
use Rattle.way_laws.proofs.Steps.{Comes, needs_come, GoesBy, Fits, fits_none, fits_both, fits_beat, beat_by}
use Rattle.way_laws.proofs.Crossing.{comes_back, goes_back}
use Rattle.way_laws.proofs.Arguments.{read_by, listed_same, kept_left, kept_later, argument, matched_by, matched_named, ReadBy, read_from, SharedBy, shared_by, shared_from}
use Rattle.way_laws.proofs.Expressions.{CallReady, fits_there}
use Rattle.way_laws.proofs.Placed.{SitePlaced}
use Rattle.way_laws.proofs.Keys.{Key, GoodKey, good_left, good_fits, lookup_left, lookup_right, found_reads, Known, known_mode, known_import, imported_key}
use Rattle.way_laws.proofs.Texts.{EachPlaced, Knows, text_ready, known_good, key_of}
use Rattle.way_laws.specs.Modes.{ReadAsAsked}
use Rattle.way_laws.proofs.Lists.{not_false}
use Rattle.way_laws.proofs.Whole.{SameReadIn, SameRead, reads_same}
use Rattle.lus_tree.specs.Reason.{mode_unknown}
use Rattle.lus_meaning.proofs.RulesFit.{none_mapped}
use Rattle.lus_meaning.proofs.EachPart.{each_part}
use Rattle.clock_laws.proofs.Parts.{each_from}

import_names_append : (xs ys : List ContractStatement) → import_names (xs ++ ys) ≡ import_names xs ++ import_names ys
import_names_append [] ys = refl
import_names_append (assume l ∷ xs) ys = import_names_append xs ys
import_names_append (guarantee l ∷ xs) ys = import_names_append xs ys
import_names_append (ghost_variable v e ∷ xs) ys = import_names_append xs ys
import_names_append (constant c ∷ xs) ys = import_names_append xs ys
import_names_append (mode m rs es ∷ xs) ys = import_names_append xs ys
import_names_append («import» k c as_ ws ∷ xs) ys = ap (λ (ns : List Name). c.text ∷ ns) (import_names_append xs ys)

-- ---- the modes of a contract begin with those that are known

pub record Extended (all ms : ModeNeeds) : Type 0 where
  pub rest : ModeNeeds
  pub is : all ≡ ms ++ rest

pub needs_extend : (i : Instance) (sub : ℕ → ModeNeeds) (ms : ModeNeeds) (cs : List ContractStatement) → Extended (modes_after i sub ms cs) ms
needs_extend i sub ms [] = record { rest = []; is = sym (append_none ms) }
needs_extend i sub ms (assume l ∷ cs) = needs_extend i sub ms cs
needs_extend i sub ms (guarantee l ∷ cs) = needs_extend i sub ms cs
needs_extend i sub ms (ghost_variable x e ∷ cs) = needs_extend i sub ms cs
needs_extend i sub ms (constant c ∷ cs) = needs_extend i sub ms cs
needs_extend i sub ms (mode m rs es ∷ cs) =
    let y : Key × List Need = (([], m.text), asked_needs i ms rs) in
    let r : Extended (modes_after i sub (ms ++ y ∷ []) cs) (ms ++ y ∷ []) = needs_extend i sub (ms ++ y ∷ []) cs in
    record { rest = y ∷ r.rest; is = r.is ∙ append_assoc ms (y ∷ []) r.rest }
needs_extend i sub ms («import» k c as_ xs ∷ cs) =
    let ys : ModeNeeds = map (imported_needs (pred k) c.text) (sub k) in
    let r : Extended (modes_after i sub (ms ++ ys) cs) (ms ++ ys) = needs_extend i sub (ms ++ ys) cs in
    record { rest = ys ++ r.rest; is = r.is ∙ append_assoc ms ys r.rest }

record Longer (all rs : ModeReads) : Type 0 where
  rest : ModeReads
  is : all ≡ rs ++ rest

reads_extend : (n : Component) (g : Summaries) (rs : ModeReads) (cs : List ContractStatement) → Longer (mode_reads_after n g rs cs) rs
reads_extend n g rs [] = record { rest = []; is = sym (append_none rs) }
reads_extend n g rs (assume l ∷ cs) = reads_extend n g rs cs
reads_extend n g rs (guarantee l ∷ cs) = reads_extend n g rs cs
reads_extend n g rs (ghost_variable x e ∷ cs) = reads_extend n g rs cs
reads_extend n g rs (constant c ∷ cs) = reads_extend n g rs cs
reads_extend n g rs (mode m qs es ∷ cs) =
    let y : Key × List Name = (([], m.text), asked_reads n g rs qs) in
    let r : Longer (mode_reads_after n g (rs ++ y ∷ []) cs) (rs ++ y ∷ []) = reads_extend n g (rs ++ y ∷ []) cs in
    record { rest = y ∷ r.rest; is = r.is ∙ append_assoc rs (y ∷ []) r.rest }
reads_extend n g rs («import» k c as_ xs ∷ cs) =
    let ys : ModeReads = imported_reads n g rs (g c.text) c as_ xs in
    let r : Longer (mode_reads_after n g (rs ++ ys) cs) (rs ++ ys) = reads_extend n g (rs ++ ys) cs in
    record { rest = ys ++ r.rest; is = r.is ∙ append_assoc rs ys r.rest }

-- ---- own modes have what they need

pub record HasNeeds (ms : ModeNeeds) (key : Key) : Type 0 where
  pub list : List Need
  pub found : lookup (mode_key key) ms ≡ Some list

found_before : (all ms : ModeNeeds) (key : Key) → Extended all ms → HasNeeds ms key → HasNeeds all key
found_before all ms key x h = record {
  list = h.list;
  found = ap (lookup (mode_key key)) x.is ∙ lookup_left (mode_key key) ms x.rest h.list h.found;
}

found_behind : (ms : ModeNeeds) (x : Name) (ns : List Need) → HasNeeds (ms ++ (([], x), ns) ∷ []) ([], x)
found_behind [] x ns = record { list = ns; found = ap (λ b. cond b (Some ns) None) (self_bytes x) }
found_behind (m ∷ ms) x ns = go (mode_key ([], x) m.0) refl (found_behind ms x ns)
  where
    go : (b : Bool) → mode_key ([], x) m.0 ≡ b → HasNeeds (ms ++ (([], x), ns) ∷ []) ([], x) → HasNeeds (m ∷ ms ++ (([], x), ns) ∷ []) ([], x)
    go true e h = record { list = m.1; found = ap (λ b. cond b (Some m.1) (lookup (mode_key ([], x)) (ms ++ (([], x), ns) ∷ []))) e }
    go false e h = record {
      list = h.list;
      found = ap (λ b. cond b (Some m.1) (lookup (mode_key ([], x)) (ms ++ (([], x), ns) ∷ []))) e ∙ h.found;
    }

own_found : (i : Instance) (sub : ℕ → ModeNeeds) (ms : ModeNeeds) (cs : List ContractStatement) (x : Name) → named_in x (mode_names cs) ≡ true
    → HasNeeds (modes_after i sub ms cs) ([], x)
own_found i sub ms [] x e = absurd (false≢true e)
own_found i sub ms (assume l ∷ cs) x e = own_found i sub ms cs x e
own_found i sub ms (guarantee l ∷ cs) x e = own_found i sub ms cs x e
own_found i sub ms (ghost_variable v a ∷ cs) x e = own_found i sub ms cs x e
own_found i sub ms (constant c ∷ cs) x e = own_found i sub ms cs x e
own_found i sub ms («import» k c as_ xs ∷ cs) x e = own_found i sub (ms ++ map (imported_needs (pred k) c.text) (sub k)) cs x e
own_found i sub ms (mode m rs es ∷ cs) x e = go (bytes_eq x m.text) refl e (own_found i sub (ms ++ (([], m.text), asked_needs i ms rs) ∷ []) cs x)
  where
    go : (b : Bool) → bytes_eq x m.text ≡ b → (b || named_in x (mode_names cs)) ≡ true
        → (named_in x (mode_names cs) ≡ true → HasNeeds (modes_after i sub (ms ++ (([], m.text), asked_needs i ms rs) ∷ []) cs) ([], x))
        → HasNeeds (modes_after i sub (ms ++ (([], m.text), asked_needs i ms rs) ∷ []) cs) ([], x)
    go true s e f = found_before _ (ms ++ (([], m.text), asked_needs i ms rs) ∷ []) ([], x)
        (needs_extend i sub (ms ++ (([], m.text), asked_needs i ms rs) ∷ []) cs)
        (subst (λ y. HasNeeds (ms ++ (([], m.text), asked_needs i ms rs) ∷ []) ([], y)) (sym (same_bytes x m.text s))
        (found_behind ms m.text (asked_needs i ms rs)))
    go false s e f = f e

pub own_needed : (i : Instance) (x : Name) → named_in x (mode_names (contract_statements (component_of i))) ≡ true → HasNeeds (modes_need i) ([], x)
own_needed (instance n cs is) x e = own_found (instance n cs is) (λ k. slice_index_or (modes_need_each is) (pred k) []) [] (contract_statements n) x e

-- ---- what the callees' modes need

at_number : (is : Instances) (j : ℕ) → slice_index_or (modes_need_each is) j [] ≡ modes_need (instance_at is j)
at_number no_instances j = refl
at_number (with_instance s k is) zero = refl
at_number (with_instance s k is) (suc j) = at_number is j

abbrev pub sub_needs : Instance → ℕ → ModeNeeds
sub_needs i k = slice_index_or (modes_need_each (calls_of i)) (pred k) []

pub sub_at : (i : Instance) (k : ℕ) → 1 ≤ k → sub_needs i k ≡ modes_need (call_instance i k)
sub_at i zero l = absurd (omega arith)
sub_at i (suc k) l = at_number (calls_of i) k

pub all_modes : (i : Instance) → modes_need i ≡ modes_after i (sub_needs i) [] (contract_statements (component_of i))
all_modes (instance n cs is) = refl

-- ---- the walk

module _ (p : Program) (k : ℕ) (i : Instance) (g : Summaries)
    (ready : (s : Site) → SitePlaced p i g (node_named p s.callee) s → HasOutputs (node_named p s.callee) → CallReady i g s) where
  abbrev here : Component
  here = component_of i

  abbrev scope_at : List ContractStatement → Scope
  scope_at before = contract_statement_scope (home p k (component_of i)) before

  abbrev KnownAt : List ContractStatement → ModeNeeds → ModeReads → Type 0
  KnownAt before ms rs = Known i p (mode_names before) (import_names before) ms rs

  abbrev Placed : Text → Type 0
  Placed = EachPlaced p i g ready

  -- where these modes are known, which begin those of the contract
  module _ (before : List ContractStatement) (ms : ModeNeeds) (rs : ModeReads) (k_at : KnownAt before ms rs) (x : Extended (modes_need i) ms) where
    knows_here : Knows p i g ready (scope_at before) ms rs
    knows_here d w e b = go b
      where
        good : GoodKey i ms rs (key_of d w)
        good = known_good i p (mode_names before) (import_names before) ms rs k_at (scope_at before) refl refl refl d w e

        further : GoodKey i (ms ++ x.rest) (rs ++ []) (key_of d w)
        further = good_left i ms x.rest rs [] (key_of d w) good

        go : (b : Bool) → Fits i (known_needs (cond b (modes_need i) ms) (key_of d w)) (known_reads rs (key_of d w))
        go false = good_fits i ms rs (key_of d w) good
        go true = subst (λ zs. Fits i (known_needs (modes_need i) (key_of d w)) (known_reads zs (key_of d w))) (append_none rs)
            (subst (λ ns. Fits i (known_needs ns (key_of d w)) (known_reads (rs ++ []) (key_of d w))) (sym x.is)
            (good_fits i (ms ++ x.rest) (rs ++ []) (key_of d w) further))

    text_fits : (b : Bool) (e : Expression) → expression_faults (scope_at before) (on_clock base) e ≡ [] → Placed (on_clock base, e)
        → Fits i (needs i (cond b (modes_need i) ms) base e) (reads here g rs base e)
    text_fits b e h a = fits_there i g ms rs b e (on_clock base) (text_ready p i g ready (scope_at before) refl refl ms rs knows_here (on_clock base) e h
        (λ w. absurd (false≢true w)) a)

    labels_fit : (ls : List Labelled) → flags_of (scope_at before) ls ≡ [] → AllByRecursion Placed (on_base ls)
        → Fits i (flat_map (λ r. needs i ms base r.value) ls) (asked_reads here g rs ls)
    labels_fit [] h a = fits_none i
    labels_fit (l ∷ ls) h a =
        let q = no_parts (flag_faults (scope_at before) l.value) (flags_of (scope_at before) ls) h in
        fits_both i _ _ _ _ (text_fits false l.value (no_parts (needs_sort (scope_at before) Flags l.value) _ q.0).1 a.0) (labels_fit ls q.1 a.1)

    arguments_fit : (as_ : List Expression) → flat_map (expression_faults (scope_at before) (on_clock base)) as_ ≡ []
        → AllByRecursion Placed (map (λ a. (on_clock base, a)) as_)
        → AllByRecursion (λ a. Fits i (needs i (modes_need i) base a) (reads here g rs base a)) as_
    arguments_fit [] h a = tt
    arguments_fit (e ∷ as_) h a =
        let q = no_parts (expression_faults (scope_at before) (on_clock base) e) _ h in
        (text_fits true e q.0 a.0, arguments_fit as_ q.1 a.1)

  -- the same over all modes of the contract
  module _ (before : List ContractStatement) (ms : ModeNeeds) (rs : ModeReads) (k_at : KnownAt before ms rs) (y : Longer (mode_reads here g) rs) where
    same_key : (d : Option Spelled) (w : Spelled) → mode_is_known (scope_at before) d w ≡ true
        → known_reads rs (key_of d w) ≡ known_reads (mode_reads here g) (key_of d w)
    same_key d w e =
        let good : GoodKey i ms rs (key_of d w) = known_good i p (mode_names before) (import_names before) ms rs k_at (scope_at before) refl refl refl d w
        e in
        ap (λ o. unwrap_or o []) (good.are_read ∙ sym (ap (lookup (mode_key (key_of d w))) y.is
        ∙ lookup_left (mode_key (key_of d w)) rs y.rest good.reads_list good.are_read))

    part_same : (t : Standing) (e : Expression) → part_faults (scope_at before) (occurs t e) ≡ [] → SameReadIn here g rs (mode_reads here g) e
    part_same t (mode_name q d w) h = same_key d w (not_false (mode_is_known (scope_at before) d w)
        (not_so (not (mode_is_known (scope_at before) d w)) mode_unknown w.at
        (no_parts (form_faults (scope_at before) t.whole_side (mode_name q d w)) (weight_faults (scope_at before) (mode_name q d w)) h).0))
    part_same t _ h = tt

    text_same : (e : Expression) → expression_faults (scope_at before) (on_clock base) e ≡ [] → reads here g rs base e ≡ reads here g (mode_reads here g) base e
    text_same e h = reads_same here g rs (mode_reads here g) e (on_clock base) (each_from (λ o. part_faults (scope_at before) o ≡ [])
        (SameRead here g rs (mode_reads here g)) (λ o q. part_same o.standing o.expression q) here (on_clock base) e
        (each_part (λ o. part_faults (scope_at before) o ≡ []) here (on_clock base) e
        (none_mapped (part_faults (scope_at before)) (occurrences here (on_clock base) e) h)))

    labels_same : (ls : List Labelled) → flags_of (scope_at before) ls ≡ [] → asked_reads here g rs ls ≡ asked_reads here g (mode_reads here g) ls
    labels_same [] h = refl
    labels_same (l ∷ ls) h =
        let q = no_parts (flag_faults (scope_at before) l.value) (flags_of (scope_at before) ls) h in
        rw (text_same l.value (no_parts (needs_sort (scope_at before) Flags l.value) _ q.0).1, labels_same ls q.1) refl

    arguments_same : (as_ : List Expression) → flat_map (expression_faults (scope_at before) (on_clock base)) as_ ≡ [] → (ys xs : List Name)
        → listed_read here g rs ys xs as_ ≡ listed_read here g (mode_reads here g) ys xs as_
    arguments_same [] h ys [] = refl
    arguments_same [] h ys (x ∷ xs) = refl
    arguments_same (e ∷ as_) h ys [] = refl
    arguments_same (e ∷ as_) h ys (x ∷ xs) =
        let q = no_parts (expression_faults (scope_at before) (on_clock base) e) _ h in
        rw (text_same e q.0, arguments_same as_ q.1 ys xs) refl

  -- ---- an import

  module _ (rs : ModeReads) (j : ℕ) (c : Spelled) (as_ : List Expression) (xs : List Spelled) where
    abbrev the_site : Site
    the_site = record { number = j; callee = c.text; clock = base; arguments = as_; defaults = []; manner = as_import (map text_of xs) }

    abbrev frame : Instance
    frame = call_instance i j

    abbrev R : Expression → List Name
    R = reads here g rs base

    abbrev back : List Name → List Name
    back ys = listed_read here g rs ys (g c.text).inputs as_ ++ shared_read here g ys (g c.text).outputs xs

    module _ (a : SitePlaced p i g (contract_named p c.text) the_site)
        (fit : AllByRecursion (λ e. Fits i (needs i (modes_need i) base e) (reads here g rs base e)) as_)
        (ns : List Need) (ys : List Name) (holds : HoldsOf ((g c.text).inputs ++ (g c.text).outputs) ys (Needs frame ns)) where
      inputs_same : inputs_of frame ≡ (g c.text).inputs
      inputs_same = sym a.exact.inputs

      outputs_same : outputs_of frame ≡ (g c.text).outputs
      outputs_same = sym a.exact.outputs

      abbrev of_inputs : Name → List Need
      of_inputs x = matching (argument i the_site R ys) x (inputs_of frame) as_

      abbrev of_outputs : Name → List Need
      of_outputs x = shared_needs (as_import (map text_of xs)) x (outputs_of frame)

      in_inputs : (z : Name) → named_in z (read_by R ys (inputs_of frame) as_) ≡ true → named_in z (back ys) ≡ true
      in_inputs z e = kept_left z (listed_read here g rs ys (g c.text).inputs as_) _
          (subst (λ zs. named_in z zs ≡ true) (sym (listed_same here g rs ys (g c.text).inputs as_))
          (subst (λ ws. named_in z (read_by R ys ws as_) ≡ true) inputs_same e))

      in_outputs : (z : Name) → named_in z (shared_read here g ys (outputs_of frame) xs) ≡ true → named_in z (back ys) ≡ true
      in_outputs z e = kept_later z (listed_read here g rs ys (g c.text).inputs as_) _
          (subst (λ ws. named_in z (shared_read here g ys ws xs) ≡ true) outputs_same e)

      site_goes : (q : Need) → IsIn q (the_beat ∷ []) → GoesBy i (place_of q) (back ys)
      site_goes q (inl e) = subst (λ r. GoesBy i (place_of r) (back ys)) (sym e) (beat_by i (back ys))
      site_goes q (inr h) = absurd h

      given : (x : Name) (q : Need) → IsIn q (caller_needs i the_site frame (Some x)) → named_in x ((g c.text).inputs ++ (g c.text).outputs) ≡ true
      given x q h = go (in_either q (of_inputs x) (of_outputs x) h)
        where
          go : IsIn q (of_inputs x) ⊎ IsIn q (of_outputs x) → named_in x ((g c.text).inputs ++ (g c.text).outputs) ≡ true
          go (inl t) = kept_left x (g c.text).inputs _ (subst (λ ws. named_in x ws ≡ true) inputs_same
              (matched_named i the_site R ys (inputs_of frame) as_ x q t))
          go (inr t) = kept_later x (g c.text).inputs _ (subst (λ ws. named_in x ws ≡ true) outputs_same
              (shared_by i here g ys xs (outputs_of frame) (back ys) in_outputs x q t).0)

      names_go : (x : Name) (q : Need) → named_in x ys ≡ true → IsIn q (caller_needs i the_site frame (Some x)) → GoesBy i (place_of q) (back ys)
      names_go x q e h = go (in_either q (of_inputs x) (of_outputs x) h)
        where
          go : IsIn q (of_inputs x) ⊎ IsIn q (of_outputs x) → GoesBy i (place_of q) (back ys)
          go (inl t) = matched_by i the_site R ys (back ys) site_goes (inputs_of frame) as_ fit in_inputs x q t e
          go (inr t) = (shared_by i here g ys xs (outputs_of frame) (back ys) in_outputs x q t).1 e

      comes : (x : Name) → named_in x ((g c.text).inputs ++ (g c.text).outputs) ≡ true → named_in x ys ≡ true → Comes frame ns x
      comes x e h = needs_come frame ns x ((holds x e).0 h)

      from_inputs : (z : Name) → named_in z (listed_read here g rs ys (g c.text).inputs as_) ≡ true → Comes i (map (inside (pred j)) ns) z
      from_inputs z e =
          let r : ReadBy i the_site R ys (g c.text).inputs as_ z = read_from i the_site R ys (g c.text).inputs as_ fit z
          (subst (λ zs. named_in z zs ≡ true) (listed_same here g rs ys (g c.text).inputs as_) e) in
          let m : IsIn r.need (of_inputs r.input) = subst (λ ws. IsIn r.need (matching (argument i the_site R ys) r.input ws as_)) (sym inputs_same) r.needed in
          comes_back i (pred j) the_site frame a.there ns r.input (comes r.input (kept_left r.input (g c.text).inputs _ r.is_input) r.is_read) r.need
          (in_left r.need (of_inputs r.input) (of_outputs r.input) m) z r.steps r.way

      from_outputs : (z : Name) → named_in z (shared_read here g ys (g c.text).outputs xs) ≡ true → Comes i (map (inside (pred j)) ns) z
      from_outputs z e =
          let r : SharedBy i here g ys xs (g c.text).outputs z = shared_from i here g ys xs (g c.text).outputs z e in
          let m : IsIn (a_name [] z) (of_outputs r.output) = subst (λ ws. IsIn (a_name [] z) (shared_needs (as_import (map text_of xs)) r.output ws))
          (sym outputs_same) r.needed in
          comes_back i (pred j) the_site frame a.there ns r.output (comes r.output (kept_later r.output (g c.text).inputs _ r.is_output) r.is_read)
          (a_name [] z) (in_right (a_name [] z) (of_inputs r.output) (of_outputs r.output) m) z 0 refl

      import_fits : Fits i (map (inside (pred j)) ns) (back ys)
      import_fits = record {
        sound = λ z e. from z (named_either z (listed_read here g rs ys (g c.text).inputs as_) _ e);
        complete = λ q h. by q ns (λ m t. t) h;
      }
        where
          from : (z : Name) → (named_in z (listed_read here g rs ys (g c.text).inputs as_) ≡ true)
              ⊎ (named_in z (shared_read here g ys (g c.text).outputs xs) ≡ true) → Comes i (map (inside (pred j)) ns) z
          from z (inl e) = from_inputs z e
          from z (inr e) = from_outputs z e

          by : (q : Need) (ms : List Need) → ((m : Need) → IsIn m ms → IsIn m ns) → IsIn q (map (inside (pred j)) ms) → GoesBy i (place_of q) (back ys)
          by q [] f h = absurd h
          by q (m ∷ ms) f (inl e) = subst (λ r. GoesBy i (place_of r) (back ys)) (sym e)
              (goes_back i (pred j) the_site frame a.there ((g c.text).inputs ++ (g c.text).outputs) ys (back ys) ns holds site_goes given names_go m
              (f m (inl refl)))
          by q (m ∷ ms) f (inr h) = by q ms (λ r t. f r (inr t)) h

    mode_of : (o : Option Component) (n : Component) (x : Name) → o ≡ Some n → has_mode x o ≡ true → named_in x (mode_names (contract_statements n)) ≡ true
    mode_of o n x e h = subst (λ r. has_mode x r ≡ true) e h

    pub import_key : SitePlaced p i g (contract_named p c.text) the_site
        → AllByRecursion (λ e. Fits i (needs i (modes_need i) base e) (reads here g rs base e)) as_
        → (x : Name) → has_mode x (contract_named p c.text) ≡ true
        → GoodKey i (map (imported_needs (pred j) c.text) (sub_needs i j)) (imported_reads here g rs (g c.text) c as_ xs) (c.text ∷ [], x)
    import_key a fit x h =
        let own : named_in x (mode_names (contract_statements (component_of frame))) ≡ true = mode_of _ (component_of frame) x a.callee h in
        let m : HasMode (g c.text) x (Needs frame (known_needs (modes_need frame) ([], x))) = a.exact.modes x own in
        let n : HasNeeds (modes_need frame) ([], x) = own_needed frame x own in
        let holds : HoldsOf ((g c.text).inputs ++ (g c.text).outputs) m.list (Needs frame n.list) =
        subst (λ o. HoldsOf ((g c.text).inputs ++ (g c.text).outputs) m.list (Needs frame (unwrap_or o []))) n.found m.holds in
        imported_key i c.text (pred j) back x (sub_needs i j) n.list (g c.text).modes m.list
        (ap (lookup (mode_key ([], x))) (sub_at i j a.positive) ∙ n.found) m.found (import_fits a fit n.list m.list holds)

  -- ---- the statements in turn

  abbrev pub GhostFits : Equation → Type 0
  GhostFits e = Fits i (equation_needs i e) (reads here g (mode_reads here g) (clock_of_names here e.names) e.right)

  pub record Walked (before cs : List ContractStatement) (ms : ModeNeeds) (rs : ModeReads) : Type 0 where
    pub known_all : KnownAt (before ++ cs) (modes_after i (sub_needs i) ms cs) (mode_reads_after here g rs cs)
    pub ghosts_fit : AllByRecursion GhostFits (ghost_equations cs)
    pub asked : ReadAsAsked here g (mode_reads here g) (mode_names before) (import_names before) cs

  known_more : (before : List ContractStatement) (c : ContractStatement) (ms : ModeNeeds) (rs : ModeReads)
      → Known i p (mode_names before ++ mode_names (c ∷ [])) (import_names before ++ import_names (c ∷ [])) ms rs → KnownAt (before ++ c ∷ []) ms rs
  known_more before c ms rs h = subst (λ xs. Known i p xs (import_names (before ++ c ∷ [])) ms rs) (sym (mode_names_append before (c ∷ [])))
      (subst (λ ys. Known i p (mode_names before ++ mode_names (c ∷ [])) ys ms rs) (sym (import_names_append before (c ∷ []))) h)

  known_plain : (before : List ContractStatement) (c : ContractStatement) (ms : ModeNeeds) (rs : ModeReads) → mode_names (c ∷ []) ≡ []
      → import_names (c ∷ []) ≡ [] → KnownAt before ms rs → KnownAt (before ++ c ∷ []) ms rs
  known_plain before c ms rs e h v = known_more before c ms rs
      (subst (λ xs. Known i p (mode_names before ++ xs) (import_names before ++ import_names (c ∷ [])) ms rs) (sym e)
      (subst (λ ys. Known i p (mode_names before ++ []) (import_names before ++ ys) ms rs) (sym h)
      (subst (λ xs. Known i p xs (import_names before ++ []) ms rs) (sym (append_none (mode_names before)))
      (subst (λ ys. Known i p (mode_names before) ys ms rs) (sym (append_none (import_names before))) v))))

  on : (before cs : List ContractStatement) (c : ContractStatement) (ms : ModeNeeds) (rs : ModeReads)
      → KnownAt ((before ++ c ∷ []) ++ cs) ms rs → KnownAt (before ++ c ∷ cs) ms rs
  on before cs c ms rs h = subst (λ xs. KnownAt xs ms rs) (append_assoc before (c ∷ []) cs) h

  abbrev Asked : List Name → List Name → List ContractStatement → Type 0
  Asked own imports cs = ReadAsAsked here g (mode_reads here g) own imports cs

  asked_on : (before cs : List ContractStatement) (c : ContractStatement) → Asked (mode_names (before ++ c ∷ [])) (import_names (before ++ c ∷ [])) cs
      → Asked (mode_names before ++ mode_names (c ∷ [])) (import_names before ++ import_names (c ∷ [])) cs
  asked_on before cs c h = subst (λ xs. Asked xs (import_names before ++ import_names (c ∷ [])) cs) (mode_names_append before (c ∷ []))
      (subst (λ ys. Asked (mode_names (before ++ c ∷ [])) ys cs) (import_names_append before (c ∷ [])) h)

  no_own : (own imports : List Name) (cs : List ContractStatement) → Asked (own ++ []) imports cs → Asked own imports cs
  no_own own imports cs h = subst (λ xs. Asked xs imports cs) (append_none own) h

  no_imports : (own imports : List Name) (cs : List ContractStatement) → Asked own (imports ++ []) cs → Asked own imports cs
  no_imports own imports cs h = subst (λ ys. Asked own ys cs) (append_none imports) h

  asked_plain : (before cs : List ContractStatement) → Asked (mode_names before ++ []) (import_names before ++ []) cs
      → Asked (mode_names before) (import_names before) cs
  asked_plain before cs h = no_own (mode_names before) (import_names before) cs (no_imports (mode_names before ++ []) (import_names before) cs h)

  -- what is found behind these is what all modes say
  found_all : (rs others : ModeReads) (key : Key) (list : List Name) → lookup (mode_key key) rs ≡ None → lookup (mode_key key) others ≡ Some list
      → Longer (mode_reads here g) (rs ++ others) → known_reads (mode_reads here g) key ≡ list
  found_all rs others key list e h y = ap (λ o. unwrap_or o []) (ap (lookup (mode_key key)) y.is
      ∙ lookup_left (mode_key key) (rs ++ others) y.rest list (lookup_right (mode_key key) rs others e ∙ h))

  -- a ghost variable's right side, with the modes of the whole contract
  ghost_fits : (before : List ContractStatement) (ms : ModeNeeds) (rs : ModeReads) → KnownAt before ms rs → Extended (modes_need i) ms
      → Longer (mode_reads here g) rs → (v : Variable) (e : Expression) → contract_statement_faults (scope_at before) (ghost_variable v e) ≡ []
      → Placed (as_side base, e) → clock_of here v.name.text ≡ base → GhostFits record { names = v.name.text ∷ []; right = e }
  ghost_fits before ms rs w x y v e h a c =
      let parts = no_parts _ (expression_faults (scope_at before) (as_side base) e) h in
      let sides : sides_fit (scope_at before) (v.name ∷ []) e ≡ [] = (no_parts _ (sides_fit (scope_at before) (v.name ∷ []) e) parts.0).1 in
      subst (λ d. Fits i (needs i (modes_need i) d e) (reads here g (mode_reads here g) d e)) (sym c)
      (fits_there i g (modes_need i) (mode_reads here g) true e (as_side base) (text_ready p i g ready (scope_at before) refl refl (modes_need i)
      (mode_reads here g) knows_all (as_side base) e parts.1 (λ _. side_top (scope_at before) v.name [] e sides) a))
    where
      good : (d : Option Spelled) (z : Spelled) → mode_is_known (scope_at before) d z ≡ true → GoodKey i (modes_need i) (mode_reads here g) (key_of d z)
      good d z q = subst (λ zs. GoodKey i (modes_need i) zs (key_of d z)) (sym y.is)
          (subst (λ ns. GoodKey i ns (rs ++ y.rest) (key_of d z)) (sym x.is) (good_left i ms x.rest rs y.rest (key_of d z)
          (known_good i p (mode_names before) (import_names before) ms rs w (scope_at before) refl refl refl d z q)))

      knows_all : Knows p i g ready (scope_at before) (modes_need i) (mode_reads here g)
      knows_all d z q true = good_fits i (modes_need i) (mode_reads here g) (key_of d z) (good d z q)
      knows_all d z q false = good_fits i (modes_need i) (mode_reads here g) (key_of d z) (good d z q)

  pub walk : (before cs : List ContractStatement) (ms : ModeNeeds) (rs : ModeReads) → KnownAt before ms rs
      → contract_faults (home p k (component_of i)) before cs ≡ [] → AllByRecursion Placed (flat_map contract_statement_texts cs)
      → AllByRecursion (λ d. SitePlaced p i g (contract_named p d.callee) d) (flat_map import_site cs)
      → AllByRecursion (λ v. clock_of here v.name.text ≡ base) (ghosts cs)
      → modes_need i ≡ modes_after i (sub_needs i) ms cs → mode_reads here g ≡ mode_reads_after here g rs cs → Walked before cs ms rs
  walk before [] ms rs w h a q c e f = record { known_all = subst (λ xs. KnownAt xs ms rs) (sym (append_none before)) w; ghosts_fit = tt; asked = tt }
  walk before (assume l ∷ cs) ms rs w h a q c e f =
      let r : Walked (before ++ assume l ∷ []) cs ms rs = walk (before ++ assume l ∷ []) cs ms rs (known_plain before (assume l) ms rs refl refl w)
      (no_parts (contract_statement_faults (scope_at before) (assume l)) _ h).1 a.1 q c e f in
      record {
        known_all = on before cs (assume l) _ _ r.known_all;
        ghosts_fit = r.ghosts_fit;
        asked = asked_plain before cs (asked_on before cs (assume l) r.asked);
      }
  walk before (guarantee l ∷ cs) ms rs w h a q c e f =
      let r : Walked (before ++ guarantee l ∷ []) cs ms rs = walk (before ++ guarantee l ∷ []) cs ms rs (known_plain before (guarantee l) ms rs refl refl w)
      (no_parts (contract_statement_faults (scope_at before) (guarantee l)) _ h).1 a.1 q c e f in
      record {
        known_all = on before cs (guarantee l) _ _ r.known_all;
        ghosts_fit = r.ghosts_fit;
        asked = asked_plain before cs (asked_on before cs (guarantee l) r.asked);
      }
  walk before (constant x ∷ cs) ms rs w h a q c e f =
      let r : Walked (before ++ constant x ∷ []) cs ms rs = walk (before ++ constant x ∷ []) cs ms rs (known_plain before (constant x) ms rs refl refl w)
      (no_parts (contract_statement_faults (scope_at before) (constant x)) _ h).1 a.1 q c e f in
      record {
        known_all = on before cs (constant x) _ _ r.known_all;
        ghosts_fit = r.ghosts_fit;
        asked = asked_plain before cs (asked_on before cs (constant x) r.asked);
      }
  walk before (ghost_variable v d ∷ cs) ms rs w h a q c e f =
      let z = no_parts (contract_statement_faults (scope_at before) (ghost_variable v d)) _ h in
      let x : Extended (modes_need i) ms = subst (λ ns. Extended ns ms) (sym e) (needs_extend i (sub_needs i) ms cs) in
      let y : Longer (mode_reads here g) rs = subst (λ ns. Longer ns rs) (sym f) (reads_extend here g rs cs) in
      let r : Walked (before ++ ghost_variable v d ∷ []) cs ms rs = walk (before ++ ghost_variable v d ∷ []) cs ms rs
      (known_plain before (ghost_variable v d) ms rs refl refl w) z.1 a.1 q c.1 e f in
      record {
        known_all = on before cs (ghost_variable v d) _ _ r.known_all;
        ghosts_fit = (ghost_fits before ms rs w x y v d z.0 a.0 c.0, r.ghosts_fit);
        asked = asked_plain before cs (asked_on before cs (ghost_variable v d) r.asked);
      }
  walk before (mode m qs es ∷ cs) ms rs w h a q c e f =
      let z = no_parts (contract_statement_faults (scope_at before) (mode m qs es)) _ h in
      let here_placed : AllByRecursion Placed (on_base qs ++ on_base es) = left_part Placed (on_base qs ++ on_base es) (flat_map contract_statement_texts cs) a in
      let x : Extended (modes_need i) ms = subst (λ ns. Extended ns ms) (sym e) (needs_extend i (sub_needs i) ms (mode m qs es ∷ cs)) in
      let fit : Fits i (asked_needs i ms qs) (asked_reads here g rs qs) = fits_both i (the_beat ∷ []) _ [] _ (fits_beat i)
      (labels_fit before ms rs w x qs (no_parts (flags_of (scope_at before) qs) (flags_of (scope_at before) es) z.0).0
      (left_part Placed (on_base qs) (on_base es) here_placed)) in
      let more : ModeNeeds = ms ++ (([], m.text), asked_needs i ms qs) ∷ [] in
      let others : ModeReads = rs ++ (([], m.text), asked_reads here g rs qs) ∷ [] in
      let v : KnownAt (before ++ mode m qs es ∷ []) more others = known_more before (mode m qs es) more others
      (subst (λ ys. Known i p (mode_names before ++ m.text ∷ []) ys more others) (sym (append_none (import_names before)))
      (known_mode i p (mode_names before) (import_names before) ms rs m.text (asked_needs i ms qs) (asked_reads here g rs qs) w fit)) in
      let r : Walked (before ++ mode m qs es ∷ []) cs more others = walk (before ++ mode m qs es ∷ []) cs more others v z.1
      (right_part Placed (on_base qs ++ on_base es) (flat_map contract_statement_texts cs) a) q c e f in
      let y : Longer (mode_reads here g) rs = subst (λ ns. Longer ns rs) (sym f) (reads_extend here g rs (mode m qs es ∷ cs)) in
      let z' : Longer (mode_reads here g) others = subst (λ ns. Longer ns others) (sym f) (reads_extend here g others cs) in
      record {
        known_all = on before cs (mode m qs es) _ _ r.known_all;
        ghosts_fit = r.ghosts_fit;
        asked = (
          (λ new. found_all rs ((([], m.text), asked_reads here g rs qs) ∷ []) ([], m.text) (asked_reads here g rs qs) (w.no_name m.text new).1
              (ap (λ b. cond b (Some (asked_reads here g rs qs)) None) (self_bytes m.text)) z'
              ∙ labels_same before ms rs w y qs (no_parts (flags_of (scope_at before) qs) (flags_of (scope_at before) es) z.0).0),
          no_imports (mode_names before ++ m.text ∷ []) (import_names before) cs (asked_on before cs (mode m qs es) r.asked),
        );
      }
  walk before («import» j d as_ xs ∷ cs) ms rs w h a q c e f =
      let z = no_parts (contract_statement_faults (scope_at before) («import» j d as_ xs)) _ h in
      let texts_here : List Text = map (λ b. (on_clock base, b)) as_ in
      let x : Extended (modes_need i) ms = subst (λ ns. Extended ns ms) (sym e) (needs_extend i (sub_needs i) ms («import» j d as_ xs ∷ cs)) in
      let fit : AllByRecursion (λ b. Fits i (needs i (modes_need i) base b) (reads here g rs base b)) as_ = arguments_fit before ms rs w x as_
      (no_parts (flat_map (expression_faults (scope_at before) (on_clock base)) as_) _ z.0).0
      (left_part Placed texts_here (flat_map contract_statement_texts cs) a) in
      let more : ModeNeeds = ms ++ map (imported_needs (pred j) d.text) (sub_needs i j) in
      let others : ModeReads = rs ++ imported_reads here g rs (g d.text) d as_ xs in
      let v : KnownAt (before ++ «import» j d as_ xs ∷ []) more others = known_more before («import» j d as_ xs) more others
      (subst (λ ys. Known i p ys (import_names before ++ d.text ∷ []) more others) (sym (append_none (mode_names before)))
      (known_import i d.text (pred j) (back rs j d as_ xs) p (mode_names before) (import_names before) ms rs (sub_needs i j) (g d.text).modes w
      (import_key rs j d as_ xs q.0 fit))) in
      let r : Walked (before ++ «import» j d as_ xs ∷ []) cs more others = walk (before ++ «import» j d as_ xs ∷ []) cs more others v z.1
      (right_part Placed texts_here (flat_map contract_statement_texts cs) a) q.1 c e f in
      let y : Longer (mode_reads here g) rs = subst (λ ns. Longer ns rs) (sym f) (reads_extend here g rs («import» j d as_ xs ∷ cs)) in
      let z' : Longer (mode_reads here g) others = subst (λ ns. Longer ns others) (sym f) (reads_extend here g others cs) in
      record {
        known_all = on before cs («import» j d as_ xs) _ _ r.known_all;
        ghosts_fit = r.ghosts_fit;
        asked = (
          (λ new u list found. found_all rs (imported_reads here g rs (g d.text) d as_ xs) (d.text ∷ [], u) (back rs j d as_ xs list)
              (w.no_import d.text u new).1 (found_reads i d.text (pred j) (back rs j d as_ xs) u (g d.text).modes list found) z'
              ∙ ap (λ zs. zs ++ shared_read here g list (g d.text).outputs xs) (arguments_same before ms rs w y as_
              (no_parts (flat_map (expression_faults (scope_at before) (on_clock base)) as_) _ z.0).0 list (g d.text).inputs)),
          no_own (mode_names before) (import_names before ++ d.text ∷ []) cs (asked_on before cs («import» j d as_ xs) r.asked),
        );
      }
