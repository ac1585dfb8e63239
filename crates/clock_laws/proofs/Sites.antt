-- In a checked program a call has as many arguments as its callee inputs, and an equation as many values as names.
use Rattle.std.proofs.Common.{◌≡◌, ℕ, suc, Bool, true, false, cond, not, ◌&&◌, ◌==◌, List, [], ◌∷◌, ◌++◌, length, map, flat_map, refl, sym, ap, ◌∙◌, subst, arith, Option, Some, None}
use Rattle.std.specs.List.{AllByRecursion}
use Rattle.std.proofs.lemmas.Bool.{false≢true, eqb-true}
use Rattle.lus_tree.specs.declared.place.Sort.TheVariants.{Bool as Flags}
use Rattle.lus_tree.specs.Tree.{Name, Spelled, Place, text_of, Expression, Expressions, truth, number, name, negation, minus, pre, arrow, binary, choice, sampled, merged, call, condact, mode_name, no_more, more, ContractStatement, assume, guarantee, ghost_variable, constant, mode, «import», Component, Program}
use Rattle.lus_meaning.specs.Value.{Stream, Instants, is}
use Rattle.lus_meaning.specs.Frame.{entry, call_frame}
use Rattle.lus_meaning.specs.Scene.{Clock, base, Manner, plain, while_true, as_import, Site, Instance, component_of, call_instance, outputs_of, Scene, contract_statements, is_on}
use Rattle.lus_meaning.specs.Meaning.{value, values, call_outputs, held_outputs}
use Rattle.lus_meaning.specs.Program.{listed, site_in, import_site, all_sites}
use Rattle.lus_meaning.specs.Run.{right_values}
use Rattle.lus_meaning.specs.Occurrences.{Standing, on_clock, Occurrence, occurs, occurrences, texts, all_occurrences, gathered, Text}
use Rattle.lus_meaning.specs.Scope.{Scope, node_named, contract_named, contract_statement_scope}
use Rattle.lus_meaning.specs.ExpressionFaults.{expression_faults, part_faults, form_faults, weight_faults, needs_sort, call_faults, default_faults, sides_fit, outputs_fit, value_fits}
use Rattle.lus_meaning.specs.NameFaults.{home, contract_statement_faults, contract_faults, import_fits, output_known}
use Rattle.lus_meaning.proofs.InOrder.{in_order_all}
use Rattle.lus_meaning.proofs.Lists.{both_parts, all_from}
use Rattle.lus_meaning.proofs.NamesOnce.{no_parts, not_nil, not_so}
use Rattle.lus_meaning.proofs.RulesFit.{none_mapped}
use Rattle.rule_laws.specs.Laws.{HasItsPlace}
use Rattle.rule_laws.proofs.Lists.{all_flat}
use Rattle.clock_laws.proofs.CleanAll.{CleanText}

not_false : (b : Bool) → not b ≡ false → b ≡ true
not_false true e = refl
not_false false e = absurd (false≢true (sym e))

is_so : {A : Type 0} (c : Bool) (x : A) (xs ys : List A) → cond c ys (x ∷ xs) ≡ [] → c ≡ true
is_so true x xs ys q = refl
is_so false x xs ys q = not_nil x xs q

both_true : (a b : Bool) → (a && b) ≡ true → (a ≡ true) × (b ≡ true)
both_true true b e = (refl, e)
both_true false b e = absurd (false≢true e)

-- the callee of a call has as many inputs as there are arguments, and an import as many outputs as are named
abbrev pub NumbersFit : Manner → List Expression → Component → Type 0
NumbersFit (as_import xs) as_ m = (length as_ ≡ length m.inputs) × (length xs ≡ length m.outputs)
NumbersFit plain as_ m = length as_ ≡ length m.inputs
NumbersFit (while_true a) as_ m = length as_ ≡ length m.inputs

abbrev pub CalleeOf : Program → Manner → Name → Option Component
CalleeOf p (as_import xs) x = contract_named p x
CalleeOf p plain x = node_named p x
CalleeOf p (while_true a) x = node_named p x

abbrev SomeFit : Manner → List Expression → Option Component → Type 0
SomeFit w as_ None = Unit {0}
SomeFit w as_ (Some m) = NumbersFit w as_ m

abbrev pub SiteFit : Program → Site → Type 0
SiteFit p d = SomeFit d.manner d.arguments (CalleeOf p d.manner d.callee)

counted : (sc : Scope) (w : Bool) (f : Spelled) (as_ : List Expression) (m : Component) → call_faults sc w f as_ (Some m) ≡ [] → length as_ ≡ length m.inputs
counted sc w f as_ m e = sym (eqb-true (length m.inputs) (length as_) (not_false (length m.inputs == length as_)
    (not_so (not (length m.inputs == length as_)) _ f.at (no_parts _ _ (no_parts _ _ e).0).0)))

plain_fits : (sc : Scope) (w : Bool) (f : Spelled) (as_ : List Expression) (o : Option Component) → call_faults sc w f as_ o ≡ [] → SomeFit plain as_ o
plain_fits sc w f as_ None e = tt
plain_fits sc w f as_ (Some m) e = counted sc w f as_ m e

held_fits : (sc : Scope) (w : Bool) (a : Expression) (f : Spelled) (as_ : List Expression) (o : Option Component) → call_faults sc w f as_ o ≡ [] → SomeFit
    (while_true a) as_ o
held_fits sc w a f as_ None e = tt
held_fits sc w a f as_ (Some m) e = counted sc w f as_ m e

held_parts : (sc : Scope) (w : Bool) (q : Place) (j : ℕ) (a : Expression) (g : Spelled) (as_ ds : Expressions)
    → form_faults sc w (condact q j a g as_ ds) ≡ []
    → (call_faults sc w g (listed as_) (node_named sc.program g.text) ≡ []) × (default_faults sc g (listed ds) (node_named sc.program g.text) ≡ [])
held_parts sc w q j a g as_ ds h =
    let three : needs_sort sc Flags a ++ call_faults sc w g (listed as_) (node_named sc.program g.text) ++ default_faults sc g (listed ds)
    (node_named sc.program g.text) ≡ [] = (no_parts _ _ h).0 in
    let two = no_parts _ (default_faults sc g (listed ds) (node_named sc.program g.text)) three in
    ((no_parts (needs_sort sc Flags a) _ two.0).1, two.1)

site_fits : (p : Program) (sc : Scope) → sc.program ≡ p → (t : Standing) (e : Expression) → part_faults sc (occurs t e) ≡ []
    → AllByRecursion (SiteFit p) (site_in t e)
site_fits p sc s t (call q k f as_) h = (
  plain_fits sc t.whole_side f (listed as_) (node_named p f.text)
      (subst (λ r. call_faults sc t.whole_side f (listed as_) (node_named r f.text) ≡ []) s
      (no_parts (form_faults sc t.whole_side (call q k f as_)) (weight_faults sc (call q k f as_)) h).0),
  tt,
)
site_fits p sc s t (condact q k a f as_ ds) h = (
  held_fits sc t.whole_side a f (listed as_) (node_named p f.text)
      (subst (λ r. call_faults sc t.whole_side f (listed as_) (node_named r f.text) ≡ []) s
      (held_parts sc t.whole_side q k a f as_ ds (no_parts (form_faults sc t.whole_side (condact q k a f as_ ds))
      (weight_faults sc (condact q k a f as_ ds)) h).0).0),
  tt,
)
site_fits p sc s t (truth q b) h = tt
site_fits p sc s t (number q b) h = tt
site_fits p sc s t (name q b) h = tt
site_fits p sc s t (negation q b) h = tt
site_fits p sc s t (minus q b) h = tt
site_fits p sc s t (pre q j b) h = tt
site_fits p sc s t (arrow q j b c) h = tt
site_fits p sc s t (binary q j b c) h = tt
site_fits p sc s t (choice q b c d) h = tt
site_fits p sc s t (sampled q b c d) h = tt
site_fits p sc s t (merged q b c d) h = tt
site_fits p sc s t (mode_name q b c) h = tt

text_sites : (p : Program) (n : Component) (x : Text) → CleanText p n x → AllByRecursion (λ o. AllByRecursion (SiteFit p) (site_in o.standing o.expression))
    (occurrences n x.0 x.1)
text_sites p n x c = all_from (λ o. part_faults c.scope o ≡ []) (λ o. AllByRecursion (SiteFit p) (site_in o.standing o.expression))
    (λ o h. site_fits p c.scope c.program o.standing o.expression h) (occurrences n x.0 x.1)
    (none_mapped (part_faults c.scope) (occurrences n x.0 x.1) (subst (λ m. flat_map (part_faults c.scope) (occurrences m x.0 x.1) ≡ []) c.owner c.types))

-- imports
same_lengths : (sc : Scope) (f : Spelled) (as_ : List Expression) (xs : List Spelled) (o : Option Component) → import_fits sc f as_ xs o ≡ [] → SomeFit
    (as_import (map text_of xs)) as_ o
same_lengths sc f as_ xs None e = tt
same_lengths sc f as_ xs (Some m) e =
    let q : (length m.inputs == length as_) && (length m.outputs == length xs) ≡ true = not_false ((length m.inputs == length as_) && (length m.outputs
    == length xs))
    (not_so (not ((length m.inputs == length as_) && (length m.outputs == length xs))) _ f.at (no_parts _ _ e).0) in
    let r = both_true (length m.inputs == length as_) (length m.outputs == length xs) q in
    (sym (eqb-true (length m.inputs) (length as_) r.0), mapped xs ∙ sym (eqb-true (length m.outputs) (length xs) r.1))
  where
    mapped : (ys : List Spelled) → length (map text_of ys) ≡ length ys
    mapped [] = refl
    mapped (y ∷ ys) = ap suc (mapped ys)

imports_fit : (p : Program) (k : ℕ) (n : Component) (before cs : List ContractStatement) → contract_faults (home p k n) before cs ≡ []
    → AllByRecursion (SiteFit p)
    (flat_map import_site cs)
imports_fit p k n before [] q = tt
imports_fit p k n before (assume l ∷ cs) q = imports_fit p k n (before ++ assume l ∷ []) cs (no_parts _ (contract_faults (home p k n) (before ++ assume
    l ∷ []) cs) q).1
imports_fit p k n before (guarantee l ∷ cs) q = imports_fit p k n (before ++ guarantee l ∷ []) cs
    (no_parts _ (contract_faults (home p k n) (before ++ guarantee l ∷ []) cs) q).1
imports_fit p k n before (ghost_variable v e ∷ cs) q = imports_fit p k n (before ++ ghost_variable v e ∷ []) cs
    (no_parts _ (contract_faults (home p k n) (before ++ ghost_variable v e ∷ []) cs) q).1
imports_fit p k n before (constant c ∷ cs) q = imports_fit p k n (before ++ constant c ∷ []) cs
    (no_parts _ (contract_faults (home p k n) (before ++ constant c ∷ []) cs) q).1
imports_fit p k n before (mode m rs es ∷ cs) q = imports_fit p k n (before ++ mode m rs es ∷ []) cs
    (no_parts _ (contract_faults (home p k n) (before ++ mode m rs es ∷ []) cs) q).1
imports_fit p k n before («import» j f as_ xs ∷ cs) q =
    let sc : Scope = contract_statement_scope (home p k n) before in
    let z = no_parts (contract_statement_faults sc («import» j f as_ xs)) (contract_faults (home p k n) (before ++ «import» j f as_ xs ∷ []) cs) q in
    let two = no_parts (flat_map (expression_faults sc (on_clock base)) as_) (flat_map (output_known sc) xs ++ import_fits sc f as_ xs
    (contract_named sc.program f.text)) z.0 in (
      same_lengths sc f as_ xs (contract_named p f.text) (no_parts (flat_map (output_known sc) xs) (import_fits sc f as_ xs (contract_named p f.text))
          two.1).1,
      imports_fit p k n (before ++ «import» j f as_ xs ∷ []) cs z.1,
    )

pub all_sites_fit : (p : Program) (k : ℕ) (n : Component) → AllByRecursion (CleanText p n) (texts n)
    → contract_faults (home p k n) [] (contract_statements n) ≡ [] → AllByRecursion (SiteFit p) (all_sites n)
all_sites_fit p k n a q =
    let P : Occurrence → Type 0 = λ o. AllByRecursion (SiteFit p) (site_in o.standing o.expression) in
    let each : AllByRecursion P (all_occurrences n) = all_flat P (λ x. occurrences n x.0 x.1) (texts n)
    (all_from (CleanText p n) (λ x. AllByRecursion P (occurrences n x.0 x.1)) (text_sites p n) (texts n) a) in
    in_order_all (λ d. d.number) (SiteFit p) (gathered site_in n ++ flat_map import_site (contract_statements n))
    (both_parts (SiteFit p) (gathered site_in n) (flat_map import_site (contract_statements n))
    (all_flat (SiteFit p) (λ o. site_in o.standing o.expression) (all_occurrences n) each) (imports_fit p k n [] (contract_statements n) q))

-- ---- equations

mapped_length : {A B : Type 0} (f : A → B) (xs : List A) → length (map f xs) ≡ length xs
mapped_length f [] = refl
mapped_length f (x ∷ xs) = ap suc (mapped_length f xs)

held_length : (on act : Instants) (xs ds : List Stream) → length xs ≡ length ds → length (held_outputs on act xs ds) ≡ length xs
held_length on act [] [] e = refl
held_length on act [] (d ∷ ds) e = refl
held_length on act (x ∷ xs) [] e = absurd (omega arith)
held_length on act (x ∷ xs) (d ∷ ds) e = ap suc (held_length on act xs ds (omega arith))

values_length : (s : Scene) (c : Clock) (ds : Expressions) → length (values s c ds) ≡ length (listed ds)
values_length s c no_more = refl
values_length s c (more d ds) = ap suc (values_length s c ds)

outputs_length : (s : Scene) (k : ℕ) → length (call_outputs s k) ≡ length (component_of (call_instance s.place k)).outputs
outputs_length s k = mapped_length (λ x. entry (call_frame s.frame k) x) (outputs_of (call_instance s.place k))
    ∙ mapped_length (λ v. v.name.text) (component_of (call_instance s.place k)).outputs

outputs_counted : (sc : Scope) (xs : List Spelled) (e : Expression) (f : Spelled) (m : Component) → outputs_fit sc xs e f (Some m) ≡ []
    → length m.outputs ≡ length xs
outputs_counted sc xs e f m h = eqb-true (length m.outputs) (length xs) (is_so (length m.outputs == length xs) _ _ _ h)

defaults_counted : (sc : Scope) (f : Spelled) (ds : List Expression) (m : Component) → default_faults sc f ds (Some m) ≡ [] → length m.outputs ≡ length ds
defaults_counted sc f ds m h = eqb-true (length m.outputs) (length ds) (not_false (length m.outputs == length ds)
    (not_so (not (length m.outputs == length ds)) _ f.at (no_parts _ _ h).0))

one_value : (sc : Scope) (xs : List Spelled) (e : Expression) → value_fits sc xs e ≡ [] → 1 ≡ length xs
one_value sc [] e h = not_nil _ _ h
one_value sc (x ∷ []) e h = refl
one_value sc (x ∷ y ∷ ys) e h = not_nil _ _ h

-- the callee's place gives its component
pub side_counted : (p : Program) (i : Instance) (sc : Scope) → sc.program ≡ p → (xs : List Spelled) (t : Standing) (e : Expression) → sides_fit sc xs e ≡ []
    → part_faults sc (occurs t e) ≡ [] → AllByRecursion (λ d. HasItsPlace i (node_named p d.callee) d) (site_in t e) → (s : Scene) → s.place ≡ i → (c : Clock)
    → length (right_values s c e) ≡ length xs
side_counted p i sc a xs t (call q k f as_) h g u s w c =
    let m : Component = component_of (call_instance i k) in
    let there : node_named sc.program f.text ≡ Some m = ap (λ r. node_named r f.text) a ∙ u.0.callee in
    outputs_length s k ∙ ap (λ j. length (component_of (call_instance j k)).outputs) w
    ∙ outputs_counted sc xs (call q k f as_) f m (subst (λ o. outputs_fit sc xs (call q k f as_) f o ≡ []) there h)
side_counted p i sc a xs t (condact q k b f as_ ds) h g u s w c =
    let m : Component = component_of (call_instance i k) in
    let there : node_named sc.program f.text ≡ Some m = ap (λ r. node_named r f.text) a ∙ u.0.callee in
    let outs : length (call_outputs s k) ≡ length m.outputs = outputs_length s k ∙ ap (λ j. length (component_of (call_instance j k)).outputs) w in
    let defaults : length m.outputs ≡ length (listed ds) = defaults_counted sc f (listed ds) m (subst (λ o. default_faults sc f (listed ds) o ≡ []) there
    (held_parts sc t.whole_side q k b f as_ ds (no_parts (form_faults sc t.whole_side (condact q k b f as_ ds))
    (weight_faults sc (condact q k b f as_ ds)) g).0).1) in
    held_length (is_on s c) (λ v. is_on s c v && is true (value s c b v)) (call_outputs s k) (values s c ds) (outs ∙ defaults ∙ sym (values_length s c ds))
    ∙ outs ∙ outputs_counted sc xs (condact q k b f as_ ds) f m (subst (λ o. outputs_fit sc xs (condact q k b f as_ ds) f o ≡ []) there h)
side_counted p i sc a xs t (truth q b) h g u s w c = one_value sc xs (truth q b) h
side_counted p i sc a xs t (number q b) h g u s w c = one_value sc xs (number q b) h
side_counted p i sc a xs t (name q b) h g u s w c = one_value sc xs (name q b) h
side_counted p i sc a xs t (negation q b) h g u s w c = one_value sc xs (negation q b) h
side_counted p i sc a xs t (minus q b) h g u s w c = one_value sc xs (minus q b) h
side_counted p i sc a xs t (pre q j b) h g u s w c = one_value sc xs (pre q j b) h
side_counted p i sc a xs t (arrow q j b d) h g u s w c = one_value sc xs (arrow q j b d) h
side_counted p i sc a xs t (binary q j b d) h g u s w c = one_value sc xs (binary q j b d) h
side_counted p i sc a xs t (choice q b d e) h g u s w c = one_value sc xs (choice q b d e) h
side_counted p i sc a xs t (sampled q b d e) h g u s w c = one_value sc xs (sampled q b d e) h
side_counted p i sc a xs t (merged q b d e) h g u s w c = one_value sc xs (merged q b d e) h
side_counted p i sc a xs t (mode_name q b d) h g u s w c = one_value sc xs (mode_name q b d) h
