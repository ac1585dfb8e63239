-- In a frame whose names are on their clocks, an expression without faults of types and clocks has its value exactly on
-- its clock, and so has each part of it, where the modes in it have theirs.
use Rattle.std.proofs.Common.{option_map, ◌≡◌, ℕ, zero, suc, pred, ◌<◌, ◌≤◌, Bool, true, false, cond, not, ◌&&◌, ◌||◌, List, [], ◌∷◌, ◌++◌, map, flat_map, unwrap_or, refl, sym, ap, ◌∙◌, subst, arith, Option, Some, None}
use Rattle.std.specs.Prelude.{Contains, find, is_none}
use Rattle.std.specs.List.{AllByRecursion, list_all}
use Rattle.std.specs.Str.{bytes_eq}
use Rattle.std.proofs.lemmas.Bool.{false≢true}
use Rattle.lus_tree.specs.declared.place.Sort.TheVariants.{Bool as Flags}
use Rattle.lus_tree.specs.Tree.{Name, Spelled, Place, text_of, Expression, Expressions, truth, number, name, negation, minus, pre, arrow, binary, choice, sampled, merged, call, condact, mode_name, Variable, Component, declared_constant, declared_node, declared_contract, Program}
use Rattle.lus_tree.specs.Reason.{name_unknown, mode_unknown}
use Rattle.lus_meaning.specs.Value.{Value, Instants, is, has_sort}
use Rattle.lus_meaning.specs.Frame.{Frame, frame_at, calls_in, firsts_of, entry, first_value, call_frame}
use Rattle.lus_meaning.specs.Scene.{Clock, base, clock_from, Site, Instance, Instances, instance, no_instances, with_instance, component_of, calls_of, instance_at, call_instance, instance_called, outputs_of, Scene, variables, contract_statements, clock_of, is_on}
use Rattle.lus_meaning.specs.Meaning.{mode_stream, call_outputs, head_stream}
use Rattle.lus_meaning.specs.Contract.{scene}
use Rattle.lus_meaning.specs.Program.{listed, site_in, instance_of}
use Rattle.lus_meaning.specs.Run.{is_typed, sort_of, sort_of_name, output_sort, first_sort, first_sorts, have_sorts, active}
use Rattle.lus_meaning.specs.Occurrences.{Standing, on_clock, memory_in, Occurrence, occurs, occurrences}
use Rattle.lus_meaning.specs.Scope.{Scope, Entry, entry_of, is_constant_role, is_known, is_constant_name, sort_of_entry, type_of, node_named, component_where, node_if}
use Rattle.lus_meaning.specs.ExpressionFaults.{expression_faults, part_faults, form_faults, weight_faults, used_as_clock, needs_sort, call_faults, default_faults, not_allowed, has_one, mode_is_known}
use Rattle.lus_meaning.specs.ClockFaults.{components, clock_in, name_clock, stands_on, clock_form_faults, clock_faults_of}
use Rattle.lus_meaning.specs.Grammatical.{have_no_clock, ghost_names, IsGrammaticalComponent, IsGrammaticalDeclaration}
use Rattle.lus_meaning.proofs.EachPart.{Each, each_part, each_of_both, each_elsewhere}
use Rattle.lus_meaning.proofs.Flexible.{constant_flexible}
use Rattle.lus_meaning.proofs.Lists.{all_from}
use Rattle.lus_meaning.proofs.NamesOnce.{no_parts, not_so}
use Rattle.lus_meaning.proofs.Now.{left_part, right_part}
use Rattle.lus_meaning.proofs.RulesFit.{KnownName, fixed_name, stream_name, CalleeFits, SiteFits, GoodPart, Good, fits, good_text, typed, none_mapped}
use Rattle.lus_meaning.proofs.Typed.{HeldAt, NotEmpty}
use Rattle.lus_meaning.proofs.Unique.{same_bytes}
use Rattle.rule_laws.specs.Laws.{placed, table, Agrees, site_at, HasItsPlace}
use Rattle.rule_laws.proofs.Constants.{is_word}
use Rattle.rule_laws.proofs.Known.{SameFound, Shows, agrees}
use Rattle.rule_laws.proofs.Tables.{typed_tables}
use Rattle.clock_laws.specs.Laws.{IsClockedTree, IsOnClocks, CallsOnClocks, HasItsValue}
use Rattle.rule_laws.proofs.Parts.{Whole, nested}
use Rattle.clock_laws.proofs.Parts.{each_from, AtTop, each_at_top}
use Rattle.clock_laws.proofs.Stands.{stands_there, ClockRight, StandsThere, DefaultsFlexible, each_stands}
use Rattle.clock_laws.proofs.Valued.{AnyCall, StreamOn, OwnOn, IsOwnOn, value_on}

-- ---- declarations

pub all_grammatical : (ds : Program) → AllByRecursion IsGrammaticalDeclaration ds → AllByRecursion IsGrammaticalComponent (components ds)
all_grammatical [] a = tt
all_grammatical (declared_constant c ∷ ds) a = all_grammatical ds a.1
all_grammatical (declared_node n ∷ ds) a = (a.0, all_grammatical ds a.1)
all_grammatical (declared_contract n ∷ ds) a = (a.0.0, all_grammatical ds a.1)

abbrev is_there : Option Component → Bool
is_there None = false
is_there (Some n) = true

none_there : {A : Type 0} (m : Component) → None ≡ Some m → A
none_there m e = absurd (false≢true (ap is_there e))

of_if : (P : Component → Type 0) (w : Bool) (n m : Component) → P n → node_if w n ≡ Some m → P m
of_if P true n m h e = subst P (ap (λ (o : Option Component). unwrap_or o n) e) h
of_if P false n m h e = none_there m e

-- what holds of each declaration holds of the one that is named
of_where : (P : Component → Type 0) (w : Bool) (ds : Program) (x : Name) (m : Component) → AllByRecursion P (components ds)
    → component_where w ds x ≡ Some m → P m
of_where P w [] x m a e = none_there m e
of_where P w (declared_constant c ∷ ds) x m a e = of_where P w ds x m a e
of_where P w (declared_node n ∷ ds) x m a e = go (bytes_eq x n.name.text) e (of_where P w ds x m a.1)
  where
    go : (c : Bool) → cond c (node_if w n) (component_where w ds x) ≡ Some m → (component_where w ds x ≡ Some m → P m) → P m
    go true h r = of_if P w n m a.0 h
    go false h r = r h
of_where P w (declared_contract n ∷ ds) x m a e = go (bytes_eq x n.name.text) e (of_where P w ds x m a.1)
  where
    go : (c : Bool) → cond c (node_if (not w) n) (component_where w ds x) ≡ Some m → (component_where w ds x ≡ Some m → P m) → P m
    go true h r = of_if P (not w) n m a.0 h
    go false h r = r h

-- the clocks of inputs, outputs and ghost variables
pub all_pass : {A : Type 0} (test : A → Bool) (xs : List A) → list_all test xs ≡ true → AllByRecursion (λ x. test x ≡ true) xs
all_pass test [] e = tt
all_pass test (x ∷ xs) e = go (test x) refl e (all_pass test xs)
  where
    go : (c : Bool) → test x ≡ c → (c && list_all test xs) ≡ true → (list_all test xs ≡ true → AllByRecursion (λ x. test x ≡ true) xs)
        → (test x ≡ true) × AllByRecursion (λ x. test x ≡ true) xs
    go true h k r = (h, r k)
    go false h k r = absurd (false≢true k)

abbrev HasNoClock : Variable → Type 0
HasNoClock v = is_none v.clock ≡ true

outputs_unclocked : (n : Component) → have_no_clock n ≡ true → AllByRecursion HasNoClock n.outputs
outputs_unclocked n e = left_part HasNoClock n.outputs (flat_map ghost_names (contract_statements n))
    (right_part HasNoClock n.inputs (n.outputs ++ flat_map ghost_names (contract_statements n))
    (all_pass (λ v. is_none v.clock) (n.inputs ++ (n.outputs ++ flat_map ghost_names (contract_statements n))) e))

on_base : (o : Option (Bool × Spelled)) → is_none o ≡ true → clock_from o ≡ base
on_base None e = refl
on_base (Some c) e = absurd (false≢true e)

-- ---- callees with outputs

abbrev pub HasOutputs : Option Component → Type 0
HasOutputs None = Unit {0}
HasOutputs (Some m) = (v : Variable) × (vs : List Variable) × (m.outputs ≡ v ∷ vs)

-- the callee of a call that is a whole right side
abbrev pub TopFits : Program → Expression → Type 0
TopFits p (call q k f as_) = HasOutputs (node_named p f.text)
TopFits p (condact q k a f as_ ds) = HasOutputs (node_named p f.text)
TopFits p _ = Unit {0}

some_output : (vs : List Variable) → has_one vs ≡ true → (w : Variable) × (ws : List Variable) × (vs ≡ w ∷ ws)
some_output [] e = absurd (false≢true e)
some_output (v ∷ vs) e = (v, vs, refl)

not_false : (b : Bool) → not b ≡ false → b ≡ true
not_false true e = refl
not_false false e = absurd (false≢true (sym e))

first_false : (a b : Bool) → (a || b) ≡ false → a ≡ false
first_false true b e = absurd (false≢true (sym e))
first_false false b e = refl

called_outputs : (sc : Scope) (w : Bool) (f : Spelled) (as_ : List Expression) (o : Option Component) → call_faults sc w f as_ o ≡ []
    → (w ≡ true → HasOutputs o) → HasOutputs o
called_outputs sc w f as_ None e h = tt
called_outputs sc true f as_ (Some m) e h = h refl
called_outputs sc false f as_ (Some m) e h = some_output m.outputs (not_false (has_one m.outputs) (not_so (not (has_one m.outputs)) _ f.at (no_parts _
    _ e).1))

-- ---- instances and frames

record PartsOnClocks (i : Instance) (m : ℕ) (b : Instants) (f : Frame) : Type 0 where
  names : AllByRecursion (λ v. (t : ℕ) → t < m → is_typed v.sort (is_on (scene i b f) (clock_from v.clock) t) (entry f v.name.text t) ≡ true)
      (variables (component_of i))
  calls : CallsOnClocks m (scene i b f) (calls_of i) (frame_at (calls_in f))

parts_of : (i : Instance) (m : ℕ) (b : Instants) (f : Frame) → IsOnClocks i m b f → PartsOnClocks i m b f
parts_of (instance d cs is) m b f o = record { names = o.0; calls = o.2 }

pub firsts_right : (i : Instance) (m : ℕ) (b : Instants) (f : Frame) → IsOnClocks i m b f → have_sorts (first_sorts i) (firsts_of f) ≡ true
firsts_right (instance d cs is) m b f o = o.1

abbrev is_some_site : Option Site → Bool
is_some_site None = false
is_some_site (Some c) = true

abbrev the_site : Site → Option Site → Site
the_site c None = c
the_site c (Some d) = d

call_at : (m : ℕ) (s : Scene) (is : Instances) (g : ℕ → Frame) → CallsOnClocks m s is g → (j : ℕ) (c : Site) → site_at is j ≡ Some c
    → IsOnClocks (instance_at is j) m (active s c) (g j)
call_at m s no_instances g a j c e = absurd (false≢true (ap is_some_site e))
call_at m s (with_instance d k is) g a zero c e = subst (λ x. IsOnClocks k m (active s x) (g 0)) (ap (the_site c) e) a.0
call_at m s (with_instance d k is) g a (suc j) c e = call_at m s is (λ j. g (suc j)) a.1 j c e

by_number : (i : Instance) (k : ℕ) → 1 ≤ k → instance_at (calls_of i) (pred k) ≡ call_instance i k
by_number i zero l = absurd (omega arith)
by_number i (suc k) l = refl

-- the frame of a call that has its place
pub call_on : (i : Instance) (m : ℕ) (b : Instants) (f : Frame) → IsOnClocks i m b f → (named : Option Component) (c : Site) → HasItsPlace i named c
    → IsOnClocks (call_instance i c.number) m (active (scene i b f) c) (call_frame f c.number)
call_on i m b f o named c h = subst (λ k. IsOnClocks k m (active (scene i b f) c) (call_frame f c.number)) (by_number i c.number h.number)
    (call_at m (scene i b f) (calls_of i) (frame_at (calls_in f)) (parts_of i m b f o).calls (pred c.number) c h.site)

-- a callee's first output is on the instants at which its frame is active
head_on : (k : Instance) (m : ℕ) (b : Instants) (g : Frame) → IsOnClocks k m b g → have_no_clock (component_of k) ≡ true
    → HasOutputs (Some (component_of k)) → (t : ℕ) → t < m → is_typed (output_sort k) (b t) (head_stream (map (λ x. entry g x) (outputs_of k)) t) ≡ true
head_on k m b g o clocks h t l =
    let n : Component = component_of k in
    let P : Variable → Type 0 = λ v. (t : ℕ) → t < m → is_typed v.sort (is_on (scene k b g) (clock_from v.clock) t) (entry g v.name.text t) ≡ true in
    let outs : AllByRecursion P n.outputs = right_part P n.inputs n.outputs
    (left_part P (n.inputs ++ n.outputs) n.locals (left_part P (n.inputs ++ n.outputs ++ n.locals) _ (parts_of k m b g o).names)) in
    first n.outputs h.0 h.1 h.2 outs (outputs_unclocked n clocks)
  where
    first : (us : List Variable) (v : Variable) (vs : List Variable) → us ≡ v ∷ vs →
        AllByRecursion (λ v. (t : ℕ) → t < m → is_typed v.sort (is_on (scene k b g) (clock_from v.clock) t) (entry g v.name.text t) ≡ true) us →
        AllByRecursion HasNoClock us → is_typed (first_sort us) (b t) (head_stream (map (λ x. entry g x) (map (λ x. x.name.text) us)) t) ≡ true
    first [] v vs e a q = absurd (false≢true (ap is_cons e))
      where
        is_cons : List Variable → Bool
        is_cons [] = false
        is_cons (x ∷ xs) = true
    first (u ∷ us) v vs e a q = subst (λ c. is_typed u.sort (is_on (scene k b g) c t) (entry g u.name.text t) ≡ true) (on_base u.clock q.0) (a.0 t l)

-- ---- names

found_all : (P : Variable → Type 0) (x : Name) (vs : List Variable) (v : Variable) → AllByRecursion P vs → find (λ w. bytes_eq x w.name.text) vs ≡ Some v
    → P v × (x ≡ v.name.text)
found_all P x [] v a e = absurd (false≢true (ap is_var e))
  where
    is_var : Option Variable → Bool
    is_var None = false
    is_var (Some w) = true
found_all P x (w ∷ vs) v a e = go (bytes_eq x w.name.text) refl e (found_all P x vs v a.1)
  where
    the_var : Option Variable → Variable
    the_var None = w
    the_var (Some u) = u

    go : (c : Bool) → bytes_eq x w.name.text ≡ c → cond c (Some w) (find (λ u. bytes_eq x u.name.text) vs) ≡ Some v →
        (find (λ u. bytes_eq x u.name.text) vs ≡ Some v → P v × (x ≡ v.name.text)) → P v × (x ≡ v.name.text)
    go true h k r = let s : w ≡ v = ap the_var k in (subst P s a.0, same_bytes x w.name.text h ∙ ap (λ (u : Variable). u.name.text) s)
    go false h k r = r k

-- the name of a stream
declared_stream : (i : Instance) (m : ℕ) (b : Instants) (f : Frame) → IsOnClocks i m b f → (x : Name)
    → name_clock (component_of i) x ≡ Some (clock_of (component_of i) x) → (u : ℕ) → u < m → is_typed (sort_of_name i x)
    (is_on (scene i b f) (clock_of (component_of i) x) u) (entry f x u) ≡ true
declared_stream i m b f o x e u l = go (find (λ v. bytes_eq x v.name.text) (variables (component_of i))) refl e
  where
    is_clock : Option Clock → Bool
    is_clock None = false
    is_clock (Some c) = true

    go : (r : Option Variable) → find (λ v. bytes_eq x v.name.text) (variables (component_of i)) ≡ r → option_map (λ v. clock_from v.clock) r ≡ Some
        (clock_of (component_of i) x) → is_typed (sort_of_name i x) (is_on (scene i b f) (clock_of (component_of i) x) u) (entry f x u) ≡ true
    go None h k = absurd (false≢true (ap is_clock k))
    go (Some v) h k =
        let q : ((t : ℕ) → t < m → is_typed v.sort (is_on (scene i b f) (clock_from v.clock) t) (entry f v.name.text t) ≡ true) × (x ≡ v.name.text) =
        found_all (λ v. (t : ℕ) → t < m → is_typed v.sort (is_on (scene i b f) (clock_from v.clock) t) (entry f v.name.text t) ≡ true) x
        (variables (component_of i)) v (parts_of i m b f o).names h in
        let here : is_typed v.sort (is_on (scene i b f) (clock_from v.clock) u) (entry f x u) ≡ true =
        subst (λ y. is_typed v.sort (is_on (scene i b f) (clock_from v.clock) u) (entry f y u) ≡ true) (sym q.1) (q.0 u l) in
        rw h here

-- ---- one expression

-- a scope in which the expression has no fault, and which knows the names of the declaration
pub record IsCleanIn (p : Program) (h : ℕ × Component) (sc : Scope) (t : Standing) (e : Expression) : Type 0 where
  pub program : sc.program ≡ p
  pub owner : sc.owner ≡ h.1
  pub shows : Shows p h sc
  pub types : expression_faults sc t e ≡ []
  pub clocks : clock_faults_of h.1 t.clock e ≡ []
  pub top : t.whole_side ≡ true → TopFits p e

-- what its number gives of an occurrence
pub record IsNumberedIn (p : Program) (i : Instance) (f : Frame) (o : Occurrence) : Type 0 where
  pub calls : AllByRecursion (λ c. HasItsPlace i (node_named p c.callee) c) (site_in o.standing o.expression)
  pub firsts : AllByRecursion (λ x. has_sort (sort_of i x.operand) (first_value f x.number) ≡ true) (memory_in o.standing o.expression)

-- the modes that are known in a scope have their values where the beat is on
abbrev pub ModesOn : Scene → ℕ → Scope → Type 0
ModesOn s m sc = (d : Option Spelled) (x : Spelled) → mode_is_known sc d x ≡ true → (t : ℕ) → t < m → is_typed Flags (s.beat t)
    (mode_stream s (option_map text_of d) x.text t) ≡ true

-- the name of a constant is no stream
pub constant_apart : (p : Program) → IsClockedTree p → (k : ℕ) (i : Instance) → Contains (placed 0 p) (k, component_of i) → i ≡ instance_of p (component_of i)
    → (sc : Scope) → Shows p (k, component_of i) sc → (x : Name) → is_constant_name sc x ≡ true → name_clock (component_of i) x ≡ None
constant_apart p c k i placed_here same sc shows x h = go (entry_of sc x) (find (is_word x) (table p (k, component_of i))) refl (shows x) h
  where
    is_entry : {A : Type 0} → Option A → Bool
    is_entry None = false
    is_entry (Some a) = true

    go : (a r : Option Entry) → find (is_word x) (table p (k, component_of i)) ≡ r → SameFound a r → unwrap_or
        (option_map (λ e. is_constant_role e.role) a) false ≡ true → name_clock (component_of i) x ≡ None
    go None r q u h = absurd (false≢true h)
    go (Some d) None q u h = absurd (false≢true (sym (ap is_entry u.role)))
    go (Some d) (Some g) q u h =
        let a : Agrees i x g = subst (λ j. Agrees j x g) (sym same) (typed_tables p c.clocked.typed (k, component_of i) placed_here x g q) in
        let r : is_constant_role g.role ≡ true = sym (ap (λ o. unwrap_or (option_map is_constant_role o) false) u.role) ∙ h in
        a.stream ∙ ap (λ (q : Bool). cond q None (Some g.clock)) r

module _ (p : Program) (c : IsClockedTree p) (k : ℕ) (i : Instance) (placed_here : Contains (placed 0 p) (k, component_of i)) (same : i ≡ instance_of p
    (component_of i))
    (m : ℕ) (b : Instants) (f : Frame) (on : IsOnClocks i m b f) where
  abbrev pub here : Component
  here = component_of i

  abbrev pub full : Scene
  full = scene i b f

  module _ (sc : Scope) (t : Standing) (e : Expression) (clean : IsCleanIn p (k, component_of i) sc t e) (modes : ModesOn (scene i b f) m sc) where
    known : (x : Name) → is_known sc x ≡ true → (sort_of_entry sc x ≡ Some (sort_of_name i x)) × KnownName sc full x
    known x h = agrees p c.clocked.typed (k, here) placed_here sc clean.shows full same x h

    apart : (x : Name) → is_constant_name sc x ≡ true → name_clock here x ≡ None
    apart = constant_apart p c k i placed_here same sc clean.shows

    part_right : (o : Occurrence) → part_faults sc o ≡ [] → form_faults sc o.standing.whole_side o.expression ≡ []
    part_right o h = (no_parts (form_faults sc o.standing.whole_side o.expression) (weight_faults sc o.expression) h).0

    -- ---- calls

    callee_fits : (g : Name) (d : Site) → d.callee ≡ g → HasItsPlace i (node_named p g) d → HasOutputs (node_named p g) → CalleeFits sc full g
    callee_fits g d s h o n q =
        let named : node_named p g ≡ Some n = ap (λ r. node_named r g) (sym clean.program) ∙ q in
        let by_name : node_named p g ≡ Some (component_of (instance_called i g)) = subst
        (λ x. node_named p g ≡ Some (component_of (instance_called i x))) s h.by_name in
        let one : n ≡ component_of (instance_called i g) = ap (λ (x : Option Component). unwrap_or x n) (sym named ∙ by_name) in
        let outs : HasOutputs (Some n) = subst HasOutputs named o in
        (outs.0, outs.1, outs.2, ap (λ (x : Component). first_sort x.outputs) (sym one) ∙ ap first_sort outs.2)

    call_fits : (j : ℕ) (g : Name) (d : Site) → d.callee ≡ g → d.number ≡ j → HasItsPlace i (node_named p g) d → HasOutputs (node_named p g)
        → HeldAt full AnyCall j g
    call_fits j g d s w h o =
        let callee : node_named p g ≡ Some (component_of (call_instance i j)) = subst
        (λ x. node_named p g ≡ Some (component_of (call_instance i x))) w h.callee in
        let by_name : node_named p g ≡ Some (component_of (instance_called i g)) = subst
        (λ x. node_named p g ≡ Some (component_of (instance_called i x))) s h.by_name in
        let outs : HasOutputs (Some (component_of (call_instance i j))) = subst HasOutputs callee o in
        record {
          outputs = subst (λ (vs : List Variable). NotEmpty (map (λ x. entry (call_frame f j) x) (map (λ x. x.name.text) vs))) (sym outs.2) tt;
          callee = ap (λ (x : Option Component). first_sort (unwrap_or x here).outputs) (sym callee ∙ by_name);
        }

    call_typed : (j : ℕ) (g : Name) (d : Site) → d.callee ≡ g → d.number ≡ j → HasItsPlace i (node_named p g) d → HasOutputs (node_named p g)
        → (u : ℕ) → u < m → is_typed (output_sort (instance_called i g)) (active full d u) (head_stream (call_outputs full j) u) ≡ true
    call_typed j g d s w h o u l =
        let callee : node_named p g ≡ Some (component_of (call_instance i j)) = subst
        (λ x. node_named p g ≡ Some (component_of (call_instance i x))) w h.callee in
        let clocks : have_no_clock (component_of (call_instance i j)) ≡ true = of_where (λ n. have_no_clock n ≡ true) true p g
        (component_of (call_instance i j)) (all_from IsGrammaticalComponent (λ n. have_no_clock n ≡ true) (λ n q. q.clocks) (components p)
        (all_grammatical p c.grammatical)) callee in
        let its : IsOnClocks (call_instance i j) m (active full d) (call_frame f j) = subst
        (λ x. IsOnClocks (call_instance i x) m (active full d) (call_frame f x)) w (call_on i m b f on (node_named p g) d h) in
        let typed_there : is_typed (output_sort (call_instance i j)) (active full d u) (head_stream (call_outputs full j) u) ≡ true =
        head_on (call_instance i j) m (active full d) (call_frame f j) its clocks (subst HasOutputs callee o) u l in
        subst (λ q. is_typed q (active full d u) (head_stream (call_outputs full j) u) ≡ true)
        (call_fits j g d s w h o).callee typed_there

    -- ---- each part

    -- what is known of a part by the rules of types and its number
    record IsPart (o : Occurrence) : Type 0 where
      types : part_faults sc o ≡ []
      top : AtTop (TopFits p) here o
      numbered : IsNumberedIn p i f o

    called_right : (o : Occurrence) (g : Spelled) (as_ : List Expression) → call_faults sc o.standing.whole_side g as_ (node_named sc.program g.text) ≡ []
        → (o.standing.whole_side ≡ true → HasOutputs (node_named p g.text)) → HasOutputs (node_named p g.text)
    called_right o g as_ h w = called_outputs sc o.standing.whole_side g as_ (node_named p g.text)
        (subst (λ r. call_faults sc o.standing.whole_side g as_ (node_named r g.text) ≡ []) clean.program h) w

    -- the parts of a condact's faults: its call and its defaults
    held_right : (t : Standing) (q : Place) (j : ℕ) (a : Expression) (g : Spelled) (as_ ds : Expressions)
        → form_faults sc t.whole_side (condact q j a g as_ ds) ≡ []
        → (call_faults sc t.whole_side g (listed as_) (node_named sc.program g.text) ≡ []) × (flat_map (not_allowed sc) (listed ds) ≡ [])
    held_right t q j a g as_ ds h =
        let three : needs_sort sc Flags a ++ call_faults sc t.whole_side g (listed as_) (node_named sc.program g.text)
        ++ default_faults sc g (listed ds) (node_named sc.program g.text) ≡ [] = (no_parts _ _ h).0 in
        let two : needs_sort sc Flags a ++ call_faults sc t.whole_side g (listed as_) (node_named sc.program g.text) ≡ [] = (no_parts _ _ three).0 in
        ((no_parts (needs_sort sc Flags a) _ two).1, (no_parts _ (flat_map (not_allowed sc) (listed ds)) h).1)

    flexible_defaults : (ds : Expressions) → flat_map (not_allowed sc) (listed ds) ≡ [] → AllByRecursion (λ d. clock_in here d ≡ None) (listed ds)
    flexible_defaults ds h = all_from (λ d. not_allowed sc d ≡ []) (λ d. clock_in here d ≡ None)
        (λ d q. constant_flexible sc here apart clean.owner d q) (listed ds) (none_mapped (not_allowed sc) (listed ds) h)

    site_right : (u : Standing) (a : Expression) → IsPart (occurs u a) → SiteFits sc full AnyCall known u a
    site_right u (pre q j a) h = h.numbered.firsts.0
    site_right u (call q j g as_) h =
        let o : HasOutputs (node_named p g.text) = called_right (occurs u (call q j g as_)) g (listed as_)
        (part_right (occurs u (call q j g as_)) h.types) h.top in
        (tt, callee_fits g.text _ refl h.numbered.calls.0 o)
    site_right u (condact q j a g as_ ds) h =
        let r : (call_faults sc u.whole_side g (listed as_) (node_named sc.program g.text) ≡ []) × (flat_map (not_allowed sc) (listed ds) ≡ []) =
        held_right u q j a g as_ ds (part_right (occurs u (condact q j a g as_ ds)) h.types) in
        let o : HasOutputs (node_named p g.text) = called_right (occurs u (condact q j a g as_ ds)) g (listed as_) r.0 h.top in
        (call_fits j g.text _ refl refl h.numbered.calls.0 o, callee_fits g.text _ refl h.numbered.calls.0 o, flexible_defaults ds r.1)
    site_right u (truth q a) h = tt
    site_right u (number q a) h = tt
    site_right u (name q a) h = tt
    site_right u (negation q a) h = tt
    site_right u (minus q a) h = tt
    site_right u (arrow q j a d) h = tt
    site_right u (binary q j a d) h = tt
    site_right u (choice q a d g) h = tt
    site_right u (sampled q a d x) h = tt
    site_right u (merged q x a d) h = tt
    site_right u (mode_name q d x) h = tt

    defaults_right : (u : Standing) (a : Expression) → IsPart (occurs u a) → DefaultsFlexible here a
    defaults_right u (condact q j a g as_ ds) h = flexible_defaults ds
        (held_right u q j a g as_ ds (part_right (occurs u (condact q j a g as_ ds)) h.types)).1
    defaults_right u (pre q j a) h = tt
    defaults_right u (call q j g as_) h = tt
    defaults_right u (truth q a) h = tt
    defaults_right u (number q a) h = tt
    defaults_right u (name q a) h = tt
    defaults_right u (negation q a) h = tt
    defaults_right u (minus q a) h = tt
    defaults_right u (arrow q j a d) h = tt
    defaults_right u (binary q j a d) h = tt
    defaults_right u (choice q a d g) h = tt
    defaults_right u (sampled q a d x) h = tt
    defaults_right u (merged q x a d) h = tt
    defaults_right u (mode_name q d x) h = tt

    stream_on : (x : Name) → is_known sc x ≡ true → StreamOn full m x
    stream_on x h = go (known x h).1
      where
        is_value : Option Value → Bool
        is_value None = false
        is_value (Some v) = true

        go : KnownName sc full x → StreamOn full m x
        go (fixed_name v e q r) = λ n u l. absurd (false≢true (ap is_value (sym n ∙ e)))
        go (stream_name e q) = λ n u l. declared_stream i m b f on x q u l

    clock_word_on : (x : Spelled) → used_as_clock sc x ≡ [] → StreamOn full m x.text
    clock_word_on x h = stream_on x.text (not_false (is_known sc x.text) (first_false (not (is_known sc x.text)) (is_constant_name sc x.text)
        (not_so (not (is_known sc x.text) || is_constant_name sc x.text) name_unknown x.at (no_parts _ _ h).0)))

    both_on : (q : Bool) → (q && true) ≡ q
    both_on true = refl
    both_on false = refl

    own_right : (u : Standing) (a : Expression) → IsPart (occurs u a) → OwnOn full m u a
    own_right u (name q x) h = stream_on x (not_false (is_known sc x) (not_so (not (is_known sc x)) name_unknown q.at (part_right (occurs u (name q x))
        h.types)))
    own_right u (sampled q a d x) h = clock_word_on x (part_right (occurs u (sampled q a d x)) h.types)
    own_right u (merged q x a d) h = clock_word_on x (no_parts (used_as_clock sc x) _ (part_right (occurs u (merged q x a d)) h.types)).0
    own_right u (call q j g as_) h =
        let o : HasOutputs (node_named p g.text) = called_right (occurs u (call q j g as_)) g (listed as_)
        (part_right (occurs u (call q j g as_)) h.types) h.top in
        λ v l. subst (λ r. is_typed (output_sort (instance_called i g.text)) r (head_stream (call_outputs full j) v) ≡ true) (both_on (is_on full u.clock v))
        (call_typed j g.text _ refl refl h.numbered.calls.0 o v l)
    own_right u (condact q j a g as_ ds) h =
        let r : (call_faults sc u.whole_side g (listed as_) (node_named sc.program g.text) ≡ []) × (flat_map (not_allowed sc) (listed ds) ≡ []) =
        held_right u q j a g as_ ds (part_right (occurs u (condact q j a g as_ ds)) h.types) in
        let o : HasOutputs (node_named p g.text) = called_right (occurs u (condact q j a g as_ ds)) g (listed as_) r.0 h.top in
        λ v l. call_typed j g.text _ refl refl h.numbered.calls.0 o v l
    own_right u (mode_name q d x) h = modes d x (not_false (mode_is_known sc d x) (not_so (not (mode_is_known sc d x)) mode_unknown x.at
        (part_right (occurs u (mode_name q d x)) h.types)))
    own_right u (pre q j a) h = tt
    own_right u (truth q a) h = tt
    own_right u (number q a) h = tt
    own_right u (negation q a) h = tt
    own_right u (minus q a) h = tt
    own_right u (arrow q j a d) h = tt
    own_right u (binary q j a d) h = tt
    own_right u (choice q a d g) h = tt

    -- ---- all parts

    abbrev HasIt : Occurrence → Type 0
    HasIt o = (u : ℕ) → u < m → HasItsValue i b f u o

    abbrev Numbered : Occurrence → Type 0
    Numbered = IsNumberedIn p i f

    abbrev SiteRight : Occurrence → Type 0
    SiteRight o = SiteFits sc full AnyCall known o.standing o.expression

    abbrev NoClockFault : Expression → Type 0
    NoClockFault a = clock_form_faults here a ≡ []

    parts_right : Each Numbered here t e → Each IsPart here t e
    parts_right num =
        let types : Each (λ o. part_faults sc o ≡ []) here t e = each_part (λ o. part_faults sc o ≡ []) here t e
        (none_mapped (part_faults sc) (occurrences here t e) (subst (λ n. flat_map (part_faults sc) (occurrences n t e) ≡ []) clean.owner clean.types)) in
        let both : Each (λ o. (part_faults sc o ≡ []) × AtTop (TopFits p) here o) here t e = each_of_both (λ o. part_faults sc o ≡ [])
        (AtTop (TopFits p) here) (λ o. (part_faults sc o ≡ []) × AtTop (TopFits p) here o) (λ o a q. (a, q)) here t e types
        (each_at_top (TopFits p) here t e clean.top) in
        each_of_both (λ o. (part_faults sc o ≡ []) × AtTop (TopFits p) here o) Numbered IsPart
        (λ o a q. record { types = a.0; top = a.1; numbered = q }) here t e both num

    clocks_right : Each (λ o. NoClockFault o.expression) here t e
    clocks_right = each_elsewhere NoClockFault here (on_clock t.clock) t e (each_part (λ o. NoClockFault o.expression) here
        (on_clock t.clock) e (none_mapped (λ o. clock_form_faults here o.expression) (occurrences here (on_clock t.clock) e)
        (no_parts (stands_on here t.clock e) _ clean.clocks).1))

    good : Each Numbered here t e → Good sc full AnyCall known t e
    good num = good_text sc full AnyCall known clean.owner t e clean.types clean.clocks
        (each_from IsPart SiteRight (λ o h. site_right o.standing o.expression h) here t e (parts_right num))

    -- it has the type in the scope that it has in the instance
    pub text_sort : Each (IsNumberedIn p i f) (component_of i) t e → t.whole_side ≡ false → type_of sc e ≡ Some (sort_of i e)
    text_sort num w = typed sc full AnyCall known e t w (good num)

    stands_each : Each Numbered here t e → Each (StandsThere here) here t e
    stands_each num = each_stands here t e
        (each_of_both (λ o. NoClockFault o.expression) IsPart (ClockRight here)
        (λ o a q. record { clocks = a; defaults = defaults_right o.standing o.expression q }) here t e clocks_right (parts_right num))
        (stands_there here t.clock e (no_parts (stands_on here t.clock e) _ clean.clocks).0)

    -- each part has its value exactly on the clock of its place
    pub text_on : Each (IsNumberedIn p i f) (component_of i) t e → Each (λ o. (u : ℕ) → u < m → HasItsValue i b f u o) (component_of i) t e
    text_on num =
        let whole : Each (λ o. Good sc full AnyCall known o.standing o.expression) here t e = nested
        (GoodPart sc full AnyCall known) here t e (good num) in
        let own : Each (IsOwnOn full m) here t e = each_from IsPart (IsOwnOn full m) (λ o h. own_right o.standing o.expression h) here t e (parts_right
        num) in
        let fit : Each (λ o. Good sc full AnyCall known o.standing o.expression × StandsThere here o) here t e = each_of_both
        (λ o. Good sc full AnyCall known o.standing o.expression) (StandsThere here)
        (λ o. Good sc full AnyCall known o.standing o.expression × StandsThere here o) (λ o a q. (a, q)) here t e whole (stands_each num) in
        each_of_both (λ o. Good sc full AnyCall known o.standing o.expression × StandsThere here o) (Whole (IsOwnOn full m) here) HasIt
        (λ o a q u l. value_on full m o.expression o.standing (fits sc full AnyCall known o.expression o.standing a.0 a.1) q u l) here t e fit
        (nested (IsOwnOn full m) here t e own)
