-- In a checked program each text of a declaration breaks no rule of types and clocks in the scope where it stands.
use Rattle.std.proofs.Common.{◌≡◌, ℕ, suc, Bool, true, false, cond, ◌||◌, ◌==◌, List, [], ◌∷◌, ◌++◌, map, length, flat_map, Option, Some, None, refl, sym, ◌∙◌, subst, arith}
use Rattle.std.specs.List.{AllByRecursion, list_all}
use Rattle.std.specs.Str.{bytes_eq}
use Rattle.std.proofs.lemmas.Bool.{false≢true, eqb-true}
use Rattle.lus_tree.specs.Tree.{Name, text_of, Spelled, Expression, truth, number, name, negation, minus, pre, arrow, binary, choice, sampled, merged, call, condact, mode_name, Variable, Constant, Labelled, Statement, equation, assertion, property, main_mark, ContractStatement, assume, guarantee, ghost_variable, constant, mode, «import», Component, Program}
use Rattle.lus_tree.specs.Reason.{type_clash, arity_clash, not_constant}
use Rattle.lus_meaning.specs.Scene.{Clock, base, contract_statements, clock_of_names}
use Rattle.lus_meaning.specs.Occurrences.{Standing, on_clock, as_side, Occurrence, occurrences, Text, on_base, contract_statement_texts, statement_texts, constant_texts, texts, begin}
use Rattle.lus_meaning.specs.Depends.{named_in}
use Rattle.lus_meaning.specs.Scope.{Scope, Home, is_constant_name, mode_names, import_names, contract_statement_scope, constant_scope, body_scope, node_named}
use Rattle.lus_meaning.specs.Faults.{fault, if_so}
use Rattle.lus_meaning.specs.ExpressionFaults.{used, hinders_constant, not_allowed, flag_faults, expression_faults, outputs_fit, sides_fit, some_differ, equation_faults, definition_faults}
use Rattle.lus_meaning.specs.NameFaults.{contract_statement_faults, flags_of, contract_faults, local_constant_faults, statement_faults, home}
use Rattle.lus_meaning.specs.ClockFaults.{name_clock, clock_in, clock_form_faults, clock_faults_of, all_on_base, contract_statement_clock_faults, statement_clock_faults}
use Rattle.lus_meaning.specs.Grammatical.{has_left_name}
use Rattle.lus_meaning.proofs.EachPart.{Each, each_part}
use Rattle.lus_meaning.proofs.Flexible.{flexible}
use Rattle.lus_meaning.proofs.Lists.{both_parts}
use Rattle.lus_meaning.proofs.NamesOnce.{no_parts, not_nil}
use Rattle.lus_meaning.proofs.RulesFit.{none_mapped}
use Rattle.rule_laws.specs.Fitting.{NotEmpty}
use Rattle.rule_laws.proofs.Known.{Shows, constant_shows, contract_statement_shows}
use Rattle.rule_laws.proofs.Parts.{all_parts, nested}
use Rattle.rule_laws.proofs.Covered.{moved_on}
use Rattle.rule_laws.proofs.Truths.{both_true}

-- ---- constants hold no clock

-- nothing comes of these where nothing comes of each
pub nothing_mapped : {A B : Type 0} (f : A → List B) (xs : List A) → AllByRecursion (λ x. f x ≡ []) xs → flat_map f xs ≡ []
nothing_mapped f [] a = refl
nothing_mapped f (x ∷ xs) a = rw (a.0, nothing_mapped f xs a.1) refl

pub no_positions : {A B : Type 0} (f : A → B) (xs : List A) → map f xs ≡ [] → xs ≡ []
no_positions f [] e = refl
no_positions f (x ∷ xs) e = not_nil (f x) (map f xs) e

module _ (s : Scope) (apart : (x : Name) → is_constant_name s x ≡ true → name_clock s.owner x ≡ None) where
  abbrev Allowed : Occurrence → Type 0
  Allowed o = hinders_constant s o.expression ≡ []

  abbrev AllAllowed : Occurrence → Type 0
  AllAllowed o = Each Allowed s.owner o.standing o.expression

  no_clock : (t : Standing) (e : Expression) → Each Allowed s.owner t e → clock_in s.owner e ≡ None
  no_clock t e a = flexible s s.owner apart t e a

  constant_form : (t : Standing) (e : Expression) → Each Allowed s.owner t e → clock_form_faults s.owner e ≡ []
  constant_form t (truth p b) a = refl
  constant_form t (number p k) a = refl
  constant_form t (name p x) a = refl
  constant_form t (negation p e) a = refl
  constant_form t (minus p e) a = refl
  constant_form t (pre p k e) a = refl
  constant_form t (arrow p k c d) a = not_nil _ _ a.0
  constant_form t (binary p o c d) a = rw (no_clock _ c a.1, no_clock _ d a.2) refl
  constant_form t (choice p c d e) a = rw (no_clock _ c a.1, no_clock _ d a.2, no_clock _ e a.3) refl
  constant_form t (sampled p c b x) a = not_nil _ _ a.0
  constant_form t (merged p x c d) a = not_nil _ _ a.0
  constant_form t (call p k f as_) a = not_nil _ _ a.0
  constant_form t (condact p k a f as_ ds) b = not_nil _ _ b.0
  constant_form t (mode_name p c m) a = refl

  constant_on_base : (e : Expression) → not_allowed s e ≡ [] → clock_faults_of s.owner base e ≡ []
  constant_on_base e h =
      let t : Standing = on_clock base in
      let allowed : Each Allowed s.owner t e = each_part Allowed s.owner t e
      (none_mapped (λ o. hinders_constant s o.expression) (occurrences s.owner t e) (no_positions (fault not_constant) _ h)) in
      let each : AllByRecursion AllAllowed (occurrences s.owner t e) = all_parts AllAllowed s.owner t e (nested Allowed s.owner t e allowed) in
      let forms : flat_map (λ o. clock_form_faults s.owner o.expression) (occurrences s.owner t e) ≡ [] =
      nothing_mapped (λ o. clock_form_faults s.owner o.expression) (occurrences s.owner t e)
      (all_from_each (occurrences s.owner t e) each) in
      rw (no_clock t e allowed, forms) refl
    where
      all_from_each : (os : List Occurrence) → AllByRecursion AllAllowed os → AllByRecursion (λ o. clock_form_faults s.owner o.expression ≡ []) os
      all_from_each [] a = tt
      all_from_each (o ∷ os) a = (constant_form o.standing o.expression a.0, all_from_each os a.1)

-- ---- one text

-- the callee of a whole right side has outputs
abbrev pub HasOutputs : Scope → Expression → Type 0
HasOutputs s (call p k f as_) = (m : Component) → node_named s.program f.text ≡ Some m → NotEmpty m.outputs
HasOutputs s (condact p k a f as_ ds) = (m : Component) → node_named s.program f.text ≡ Some m → NotEmpty m.outputs
HasOutputs s _ = Unit {0}

-- no fault of types, and none of clocks too
pub record IsTypeClean (s : Scope) (x : Text) : Type 0 where
  pub types : expression_faults s x.0 x.1 ≡ []
  pub root : x.0.whole_side ≡ true → HasOutputs s x.1

pub record IsClean (s : Scope) (x : Text) : Type 0 where
  pub typed : IsTypeClean s x
  pub clocks : clock_faults_of s.owner x.0.clock x.1 ≡ []

as_many : {A : Type 0} (vs : List Variable) (x : A) (xs : List A) → length vs ≡ length (x ∷ xs) → NotEmpty vs
as_many [] x xs e = absurd (omega arith)
as_many (v ∷ vs) x xs e = tt

some_outputs : (s : Scope) (x : Spelled) (xs : List Spelled) (e : Expression) (f : Spelled) (o : Option Component) (m : Component)
    → outputs_fit s (x ∷ xs) e f o ≡ [] → o ≡ Some m → NotEmpty m.outputs
some_outputs s x xs e f o m h i =
    let q : outputs_fit s (x ∷ xs) e f (Some m) ≡ [] = subst (λ r. outputs_fit s (x ∷ xs) e f r ≡ []) i h in
    go (length m.outputs == length (x ∷ xs)) refl q
  where
    go : (c : Bool) → (length m.outputs == length (x ∷ xs)) ≡ c
        → cond c (if_so (some_differ s (x ∷ xs) m.outputs) type_clash (begin e)) (fault arity_clash f.at ∷ []) ≡ [] → NotEmpty m.outputs
    go true j k = as_many m.outputs x xs (eqb-true (length m.outputs) (length (x ∷ xs)) j)
    go false j k = not_nil _ _ k

side_outputs : (s : Scope) (x : Spelled) (xs : List Spelled) (e : Expression) → sides_fit s (x ∷ xs) e ≡ [] → HasOutputs s e
side_outputs s x xs (truth p b) h = tt
side_outputs s x xs (number p k) h = tt
side_outputs s x xs (name p y) h = tt
side_outputs s x xs (negation p a) h = tt
side_outputs s x xs (minus p a) h = tt
side_outputs s x xs (pre p k a) h = tt
side_outputs s x xs (arrow p k a b) h = tt
side_outputs s x xs (binary p o a b) h = tt
side_outputs s x xs (choice p a b c) h = tt
side_outputs s x xs (sampled p a b y) h = tt
side_outputs s x xs (merged p y a b) h = tt
side_outputs s x xs (call p k f as_) h = λ m i. some_outputs s x xs (call p k f as_) f (node_named s.program f.text) m h i
side_outputs s x xs (condact p k a f as_ ds) h = λ m i. some_outputs s x xs (condact p k a f as_ ds) f (node_named s.program f.text) m h i
side_outputs s x xs (mode_name p c m) h = tt

abbrev pub AreClean : Scope → List Text → Type 0
AreClean s xs = AllByRecursion (IsClean s) xs

type_side : (s : Scope) (c : Clock) (x : Spelled) (xs : List Spelled) (e : Expression) → equation_faults s c (x ∷ xs) e ≡ []
    → IsTypeClean s (as_side c, e)
type_side s c x xs e h =
    let two = no_parts (flat_map (λ (y : Spelled). used s y.text y.at) (x ∷ xs) ++ sides_fit s (x ∷ xs) e) (expression_faults s (as_side c) e) h in
    let one = no_parts (flat_map (λ (y : Spelled). used s y.text y.at) (x ∷ xs)) (sides_fit s (x ∷ xs) e) two.0 in
    record { types = two.1; root = λ w. side_outputs s x xs e one.1 }

pub clean_side : (s : Scope) (c : Clock) (x : Spelled) (xs : List Spelled) (e : Expression) → equation_faults s c (x ∷ xs) e ≡ []
    → clock_faults_of s.owner c e ≡ [] → IsClean s (as_side c, e)
clean_side s c x xs e h g = record { typed = type_side s c x xs e h; clocks = g }

type_plain : (s : Scope) (e : Expression) → expression_faults s (on_clock base) e ≡ [] → IsTypeClean s (on_clock base, e)
type_plain s e h = record { types = h; root = λ w. absurd (false≢true w) }

pub clean_plain : (s : Scope) (e : Expression) → expression_faults s (on_clock base) e ≡ [] → clock_faults_of s.owner base e ≡ []
    → IsClean s (on_clock base, e)
clean_plain s e h g = record { typed = type_plain s e h; clocks = g }

pub clean_flag : (s : Scope) (e : Expression) → flag_faults s e ≡ [] → clock_faults_of s.owner base e ≡ [] → IsClean s (on_clock base, e)
clean_flag s e h g = clean_plain s e (no_parts _ (expression_faults s (on_clock base) e) h).1 g

pub clean_flags : (s : Scope) (ls : List Labelled) → flags_of s ls ≡ [] → all_on_base s.owner ls ≡ [] → AreClean s (on_base ls)
clean_flags s [] h g = tt
clean_flags s (l ∷ ls) h g =
    let types = no_parts (flag_faults s l.value) (flags_of s ls) h in
    let clocks = no_parts (clock_faults_of s.owner base l.value) (all_on_base s.owner ls) g in
    (clean_flag s l.value types.0 clocks.0, clean_flags s ls types.1 clocks.1)

pub clean_arguments : (s : Scope) (as_ : List Expression) → flat_map (expression_faults s (on_clock base)) as_ ≡ [] → flat_map
    (clock_faults_of s.owner base) as_ ≡ [] → AreClean s (map (λ a. (on_clock base, a)) as_)
clean_arguments s [] h g = tt
clean_arguments s (a ∷ as_) h g =
    let types = no_parts (expression_faults s (on_clock base) a) (flat_map (expression_faults s (on_clock base)) as_) h in
    let clocks = no_parts (clock_faults_of s.owner base a) (flat_map (clock_faults_of s.owner base) as_) g in
    (clean_plain s a types.0 clocks.0, clean_arguments s as_ types.1 clocks.1)

-- ---- items

abbrev pub HoldsApart : Scope → Type 0
HoldsApart s = (x : Name) → is_constant_name s x ≡ true → name_clock s.owner x ≡ None

clean_constant : (s : Scope) → HoldsApart s → (c : Constant) → definition_faults s c.sort c.value ≡ [] → IsClean s (on_clock base, c.value)
clean_constant s a c h =
    let two = no_parts (not_allowed s c.value ++ expression_faults s (on_clock base) c.value) _ h in
    let one = no_parts (not_allowed s c.value) (expression_faults s (on_clock base) c.value) two.0 in
    clean_plain s c.value one.1 (constant_on_base s a c.value one.0)

pub clean_contract_statement : (s : Scope) → HoldsApart s → (c : ContractStatement) → contract_statement_faults s c ≡ []
    → contract_statement_clock_faults s.owner c ≡ [] → AreClean s (contract_statement_texts c)
clean_contract_statement s a (assume l) h g = (clean_flag s l.value h g, tt)
clean_contract_statement s a (guarantee l) h g = (clean_flag s l.value h g, tt)
clean_contract_statement s a (ghost_variable v e) h g = (clean_side s base v.name [] e h g, tt)
clean_contract_statement s a (constant c) h g = (clean_constant s a c h, tt)
clean_contract_statement s a (mode m rs es) h g =
    let types = no_parts (flags_of s rs) (flags_of s es) h in
    let clocks = no_parts (all_on_base s.owner rs) (all_on_base s.owner es) g in
    both_parts (IsClean s) (on_base rs) (on_base es) (clean_flags s rs types.0 clocks.0) (clean_flags s es types.1 clocks.1)
clean_contract_statement s a («import» k c as_ xs) h g =
    clean_arguments s as_ (no_parts (flat_map (expression_faults s (on_clock base)) as_) _ h).0 g

clean_statement : (s : Scope) (x : Statement) → has_left_name x ≡ true → statement_faults s x ≡ [] → statement_clock_faults s.owner x ≡ []
    → AreClean s (statement_texts s.owner x)
clean_statement s (equation [] e) l h g = absurd (false≢true l)
clean_statement s (equation (x ∷ xs) e) l h g =
    let k : Clock = clock_of_names s.owner (map text_of (x ∷ xs)) in (clean_side s k x xs e h (no_parts _ (clock_faults_of s.owner k e) g).1, tt)
clean_statement s (assertion e) l h g = (clean_flag s e h g, tt)
clean_statement s (property l) k h g = (clean_flag s l.value h g, tt)
clean_statement s (main_mark p) l h g = tt

-- ---- the same, of types alone

abbrev AreTypeClean : Scope → List Text → Type 0
AreTypeClean s xs = AllByRecursion (IsTypeClean s) xs

pub type_flag : (s : Scope) (e : Expression) → flag_faults s e ≡ [] → IsTypeClean s (on_clock base, e)
type_flag s e h = type_plain s e (no_parts _ (expression_faults s (on_clock base) e) h).1

type_flags : (s : Scope) (ls : List Labelled) → flags_of s ls ≡ [] → AreTypeClean s (on_base ls)
type_flags s [] h = tt
type_flags s (l ∷ ls) h =
    let types = no_parts (flag_faults s l.value) (flags_of s ls) h in (type_flag s l.value types.0, type_flags s ls types.1)

type_arguments : (s : Scope) (as_ : List Expression) → flat_map (expression_faults s (on_clock base)) as_ ≡ []
    → AreTypeClean s (map (λ a. (on_clock base, a)) as_)
type_arguments s [] h = tt
type_arguments s (a ∷ as_) h =
    let types = no_parts (expression_faults s (on_clock base) a) (flat_map (expression_faults s (on_clock base)) as_) h in
    (type_plain s a types.0, type_arguments s as_ types.1)

type_constant : (s : Scope) (c : Constant) → definition_faults s c.sort c.value ≡ [] → IsTypeClean s (on_clock base, c.value)
type_constant s c h = type_plain s c.value
    (no_parts (not_allowed s c.value) (expression_faults s (on_clock base) c.value) (no_parts (not_allowed s c.value
    ++ expression_faults s (on_clock base) c.value) _ h).0).1

type_contract_statement : (s : Scope) (c : ContractStatement) → contract_statement_faults s c ≡ [] → AreTypeClean s (contract_statement_texts c)
type_contract_statement s (assume l) h = (type_flag s l.value h, tt)
type_contract_statement s (guarantee l) h = (type_flag s l.value h, tt)
type_contract_statement s (ghost_variable v e) h = (type_side s base v.name [] e h, tt)
type_contract_statement s (constant c) h = (type_constant s c h, tt)
type_contract_statement s (mode m rs es) h =
    let types = no_parts (flags_of s rs) (flags_of s es) h in
    both_parts (IsTypeClean s) (on_base rs) (on_base es) (type_flags s rs types.0) (type_flags s es types.1)
type_contract_statement s («import» k c as_ xs) h =
    type_arguments s as_ (no_parts (flat_map (expression_faults s (on_clock base)) as_) _ h).0

type_statement : (s : Scope) (x : Statement) → has_left_name x ≡ true → statement_faults s x ≡ [] → AreTypeClean s (statement_texts s.owner x)
type_statement s (equation [] e) l h = absurd (false≢true l)
type_statement s (equation (x ∷ xs) e) l h = (type_side s (clock_of_names s.owner (map text_of (x ∷ xs))) x xs e h, tt)
type_statement s (assertion e) l h = (type_flag s e h, tt)
type_statement s (property l) k h = (type_flag s l.value h, tt)
type_statement s (main_mark p) l h = tt

-- ---- scopes

-- a scope of this declaration, in which modes and imports of its contract may be known
pub record ScopeOf (p : Program) (h : ℕ × Component) (s : Scope) : Type 0 where
  pub program : s.program ≡ p
  pub owner : s.owner ≡ h.1
  pub shows : Shows p h s
  pub modes : (x : Name) → named_in x s.modes ≡ true → named_in x (mode_names (contract_statements h.1)) ≡ true
  pub imports : (x : Name) → named_in x s.imports ≡ true → named_in x (import_names (contract_statements h.1)) ≡ true

pub record CleanText (p : Program) (h : ℕ × Component) (x : Text) : Type 0 where
  pub scope : Scope
  pub of : ScopeOf p h scope
  pub clean : IsClean scope x

or_more : (a b c : Bool) → (b ≡ true → c ≡ true) → (a || b) ≡ true → (a || c) ≡ true
or_more true b c f e = refl
or_more false b c f e = f e

modes_before : (x : Name) (before cs : List ContractStatement) → named_in x (mode_names before) ≡ true → named_in x (mode_names (before ++ cs)) ≡ true
modes_before x [] cs e = absurd (false≢true e)
modes_before x (assume l ∷ bs) cs e = modes_before x bs cs e
modes_before x (guarantee l ∷ bs) cs e = modes_before x bs cs e
modes_before x (ghost_variable v a ∷ bs) cs e = modes_before x bs cs e
modes_before x (constant c ∷ bs) cs e = modes_before x bs cs e
modes_before x (mode m rs es ∷ bs) cs e =
    or_more (bytes_eq x m.text) (named_in x (mode_names bs)) (named_in x (mode_names (bs ++ cs))) (modes_before x bs cs) e
modes_before x («import» k c as_ xs ∷ bs) cs e = modes_before x bs cs e

imports_before : (x : Name) (before cs : List ContractStatement) → named_in x (import_names before) ≡ true
    → named_in x (import_names (before ++ cs)) ≡ true
imports_before x [] cs e = absurd (false≢true e)
imports_before x (assume l ∷ bs) cs e = imports_before x bs cs e
imports_before x (guarantee l ∷ bs) cs e = imports_before x bs cs e
imports_before x (ghost_variable v a ∷ bs) cs e = imports_before x bs cs e
imports_before x (constant c ∷ bs) cs e = imports_before x bs cs e
imports_before x (mode m rs es ∷ bs) cs e = imports_before x bs cs e
imports_before x («import» k c as_ xs ∷ bs) cs e =
    or_more (bytes_eq x c.text) (named_in x (import_names bs)) (named_in x (import_names (bs ++ cs))) (imports_before x bs cs) e

pub contract_scope_of : (p : Program) (h : ℕ × Component) (before cs : List ContractStatement) → contract_statements h.1 ≡ before ++ cs
    → ScopeOf p h (contract_statement_scope (home p h.0 h.1) before)
contract_scope_of p h before cs e = record {
  program = refl;
  owner = refl;
  shows = contract_statement_shows p h before;
  modes = λ x k. subst (λ ds. named_in x (mode_names ds) ≡ true) (sym e) (modes_before x before cs k);
  imports = λ x k. subst (λ ds. named_in x (import_names ds) ≡ true) (sym e) (imports_before x before cs k);
}

pub constant_scope_of : (p : Program) (h : ℕ × Component) (k : ℕ) → ScopeOf p h (constant_scope (home p h.0 h.1) k)
constant_scope_of p h k = record { program = refl; owner = refl; shows = constant_shows p h k; modes = λ x e. e; imports = λ x e. e }

-- ---- a declaration

module _ (p : Program) (h : ℕ × Component) (apart : (s : Scope) → ScopeOf p h s → HoldsApart s) where
  abbrev place : Home
  place = home p h.0 h.1

  there : (s : Scope) → ScopeOf p h s → (xs : List Text) → AreClean s xs → AllByRecursion (CleanText p h) xs
  there s o [] a = tt
  there s o (x ∷ xs) a = (record { scope = s; of = o; clean = a.0 }, there s o xs a.1)

  contract_clean : (before cs : List ContractStatement) → contract_statements h.1 ≡ before ++ cs → contract_faults place before cs ≡ []
      → flat_map (contract_statement_clock_faults h.1) cs ≡ [] → AllByRecursion (CleanText p h) (flat_map contract_statement_texts cs)
  contract_clean before [] e f g = tt
  contract_clean before (c ∷ cs) e f g =
      let s : Scope = contract_statement_scope place before in
      let o : ScopeOf p h s = contract_scope_of p h before (c ∷ cs) e in
      let types = no_parts (contract_statement_faults s c) (contract_faults place (before ++ c ∷ []) cs) f in
      let clocks = no_parts (contract_statement_clock_faults h.1 c) (flat_map (contract_statement_clock_faults h.1) cs) g in
      both_parts (CleanText p h) (contract_statement_texts c) (flat_map contract_statement_texts cs)
      (there s o (contract_statement_texts c) (clean_contract_statement s (apart s o) c types.0 clocks.0))
      (contract_clean (before ++ c ∷ []) cs (e ∙ moved_on before cs c) types.1 clocks.1)

  constants_clean : (k : ℕ) (cs : List Constant) → local_constant_faults place k cs ≡ [] → AllByRecursion (CleanText p h) (constant_texts cs)
  constants_clean k [] f = tt
  constants_clean k (c ∷ cs) f =
      let s : Scope = constant_scope place k in
      let q = no_parts (definition_faults s c.sort c.value) (local_constant_faults place (suc k) cs) f in (
        record { scope = s; of = constant_scope_of p h k; clean = clean_constant s (apart s (constant_scope_of p h k)) c q.0 },
        constants_clean (suc k) cs q.1,
      )

  body_clean : (xs : List Statement) → list_all has_left_name xs ≡ true → flat_map (statement_faults (body_scope place)) xs ≡ []
      → flat_map (statement_clock_faults h.1) xs ≡ [] → AllByRecursion (CleanText p h) (flat_map (statement_texts h.1) xs)
  body_clean [] l f g = tt
  body_clean (x ∷ xs) l f g =
      let s : Scope = body_scope place in
      let o : ScopeOf p h s = constant_scope_of p h (length h.1.constants) in
      let types = no_parts (statement_faults s x) (flat_map (statement_faults s) xs) f in
      let clocks = no_parts (statement_clock_faults h.1 x) (flat_map (statement_clock_faults h.1) xs) g in
      let lefts : (has_left_name x ≡ true) × (list_all has_left_name xs ≡ true) = both_true (has_left_name x) (list_all has_left_name xs) l in
      both_parts (CleanText p h) (statement_texts h.1 x) (flat_map (statement_texts h.1) xs)
      (there s o (statement_texts h.1 x) (clean_statement s x lefts.0 types.0 clocks.0)) (body_clean xs lefts.1 types.1 clocks.1)

  pub texts_clean : contract_faults place [] (contract_statements h.1) ≡ [] → flat_map (contract_statement_clock_faults h.1) (contract_statements h.1) ≡ []
      → local_constant_faults place 0 h.1.constants ≡ [] → list_all has_left_name h.1.body ≡ true
      → flat_map (statement_faults (body_scope place)) h.1.body ≡ [] → flat_map (statement_clock_faults h.1) h.1.body ≡ []
      → AllByRecursion (CleanText p h) (texts h.1)
  texts_clean a b c d e f = both_parts (CleanText p h) (flat_map contract_statement_texts (contract_statements h.1))
      (constant_texts h.1.constants ++ flat_map (statement_texts h.1) h.1.body) (contract_clean [] (contract_statements h.1) refl a b)
      (both_parts (CleanText p h) (constant_texts h.1.constants) (flat_map (statement_texts h.1) h.1.body)
      (constants_clean 0 h.1.constants c) (body_clean h.1.body d e f))

-- ---- a declaration, by its types alone

pub record TypeCleanText (p : Program) (h : ℕ × Component) (x : Text) : Type 0 where
  pub scope : Scope
  pub of : ScopeOf p h scope
  pub clean : IsTypeClean scope x

module _ (p : Program) (h : ℕ × Component) where
  abbrev home_of : Home
  home_of = home p h.0 h.1

  typed_there : (s : Scope) → ScopeOf p h s → (xs : List Text) → AreTypeClean s xs → AllByRecursion (TypeCleanText p h) xs
  typed_there s o [] a = tt
  typed_there s o (x ∷ xs) a = (record { scope = s; of = o; clean = a.0 }, typed_there s o xs a.1)

  contract_typed : (before cs : List ContractStatement) → contract_statements h.1 ≡ before ++ cs → contract_faults home_of before cs ≡ []
      → AllByRecursion (TypeCleanText p h) (flat_map contract_statement_texts cs)
  contract_typed before [] e f = tt
  contract_typed before (c ∷ cs) e f =
      let s : Scope = contract_statement_scope home_of before in
      let types = no_parts (contract_statement_faults s c) (contract_faults home_of (before ++ c ∷ []) cs) f in
      both_parts (TypeCleanText p h) (contract_statement_texts c) (flat_map contract_statement_texts cs)
      (typed_there s (contract_scope_of p h before (c ∷ cs) e) (contract_statement_texts c) (type_contract_statement s c types.0))
      (contract_typed (before ++ c ∷ []) cs (e ∙ moved_on before cs c) types.1)

  constants_typed : (k : ℕ) (cs : List Constant) → local_constant_faults home_of k cs ≡ [] → AllByRecursion (TypeCleanText p h) (constant_texts cs)
  constants_typed k [] f = tt
  constants_typed k (c ∷ cs) f =
      let s : Scope = constant_scope home_of k in
      let q = no_parts (definition_faults s c.sort c.value) (local_constant_faults home_of (suc k) cs) f in
      (record { scope = s; of = constant_scope_of p h k; clean = type_constant s c q.0 }, constants_typed (suc k) cs q.1)

  body_typed : (xs : List Statement) → list_all has_left_name xs ≡ true → flat_map (statement_faults (body_scope home_of)) xs ≡ []
      → AllByRecursion (TypeCleanText p h) (flat_map (statement_texts h.1) xs)
  body_typed [] l f = tt
  body_typed (x ∷ xs) l f =
      let s : Scope = body_scope home_of in
      let types = no_parts (statement_faults s x) (flat_map (statement_faults s) xs) f in
      let lefts : (has_left_name x ≡ true) × (list_all has_left_name xs ≡ true) = both_true (has_left_name x) (list_all has_left_name xs) l in
      both_parts (TypeCleanText p h) (statement_texts h.1 x) (flat_map (statement_texts h.1) xs)
      (typed_there s (constant_scope_of p h (length h.1.constants)) (statement_texts h.1 x) (type_statement s x lefts.0 types.0))
      (body_typed xs lefts.1 types.1)

  pub texts_typed : contract_faults home_of [] (contract_statements h.1) ≡ [] → local_constant_faults home_of 0 h.1.constants ≡ []
      → list_all has_left_name h.1.body ≡ true → flat_map (statement_faults (body_scope home_of)) h.1.body ≡ []
      → AllByRecursion (TypeCleanText p h) (texts h.1)
  texts_typed a c d e = both_parts (TypeCleanText p h) (flat_map contract_statement_texts (contract_statements h.1))
      (constant_texts h.1.constants ++ flat_map (statement_texts h.1) h.1.body) (contract_typed [] (contract_statements h.1) refl a)
      (both_parts (TypeCleanText p h) (constant_texts h.1.constants) (flat_map (statement_texts h.1) h.1.body)
      (constants_typed 0 h.1.constants c) (body_typed h.1.body d e))
