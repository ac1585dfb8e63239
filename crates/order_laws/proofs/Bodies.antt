-- What is evaluated in a frame, each part behind its own operands.
use Rattle.std.proofs.Common.{◌≡◌, ℕ, zero, suc, pred, ◌+◌, ◌<◌, Bool, true, false, cond, ◌||◌, eqb, List, [], ◌∷◌, ◌++◌, map, flat_map, length, slice_get, refl, ap, ◌∙◌, sym, subst, arith, Option, Some}
use Rattle.std.specs.Prelude.{Contains, option_to_list}
use Rattle.std.specs.List.{AllByRecursion, list_any}
use Rattle.std.proofs.Math.Logic.{◌⊎◌, inl, inr}
use Rattle.std.proofs.lemmas.Bool.{false≢true, cases_Bool, eqb-true, eq-eqb}
use Rattle.std.proofs.lemmas.List.Folds.{list_any-append}
use Rattle.std.proofs.lemmas.Option.{none-some, same_Some}
use Rattle.lus_tree.specs.Tree.{Name, Expression, truth, number, name, negation, minus, pre, arrow, binary, choice, sampled, merged, call, condact, mode_name, Labelled, Statement, equation, assertion, property, main_mark, ContractStatement, assume, guarantee, ghost_variable, constant, mode, «import», Component, Program, text_of}
use Rattle.lus_meaning.specs.Frame.{Frame}
use Rattle.lus_meaning.specs.Scene.{Clock, base, Manner, plain, while_true, as_import, Site, Instance, Instances, no_instances, with_instance, component_of, calls_of, contract_statements, clock_of_names, is_on}
use Rattle.lus_meaning.specs.Contract.{terms}
use Rattle.lus_meaning.specs.Meaning.{mode_key}
use Rattle.lus_meaning.specs.Occurrences.{Standing, on_clock, on_base, as_side, Occurrence, occurrences, Text, gathered, all_occurrences, contract_statement_texts}
use Rattle.lus_meaning.specs.Program.{site_in, import_site, all_sites}
use Rattle.lus_meaning.specs.Property.{assertions}
use Rattle.lus_meaning.specs.Run.{Equation, equations, ghost_equations, body_equations}
use Rattle.lus_meaning.specs.Depends.{ModeNeeds, known_needs, needs, modes_after, modes_need, named_in}
use Rattle.lus_meaning.specs.Cycle.{Place as NeededPlace}
use Rattle.lus_meaning.specs.Order.{is_listed}
use Rattle.lus_meaning.specs.Trace.{same_numbers}
use Rattle.lus_meaning.specs.ClockFaults.{components}
use Rattle.lus_meaning.specs.Refusals.{IsChecked}
use Rattle.lus_meaning.proofs.Members.{IsIn, in_left, in_right}
use Rattle.lus_meaning.proofs.InOrder.{in_order_all}
use Rattle.lus_meaning.proofs.Lists.{append_none, all_from, all_from_three, both_parts, or_left, or_true}
use Rattle.rule_laws.specs.Laws.{IsUnfolded, AreUnfolded}
use Rattle.rule_laws.proofs.Lists.{all_flat}
use Rattle.sys_meaning.specs.Items.{Key}
use Rattle.sys_meaning.specs.WellTyped.{IsKnown, IsAmong, IsImport, EquationFits, ClockFits, count_of, CallsFit}
use Rattle.path_laws.proofs.Tree.{own_fits}
use Rattle.lus_evaluation.specs.Part.{Part, ModeParts, Setting, needs_of, asked_in, part, parts, whole_parts, wholes}
use Rattle.lus_evaluation.specs.Frame.{ModeText, ContractText, FrameText, Calls, setting, conditions_of, mode_text, imported_mode, contract_after, import_parts, equation_parts, picked, evaluated_clause, evaluated_statement, evaluated_texts, evaluated_calls, stands_in, is_evaluated, call_condition, asserted_below, asserted_in_calls, text_over}
use Rattle.slot_values.specs.Clocked.{row_by, clock_on}
use Rattle.evaluation_laws.specs.Rows.{AreCalls, row_at, scene_there, numbers_there, RowShows}
use Rattle.evaluation_laws.proofs.Waiting.{in_any, both}
use Rattle.order_laws.specs.Own.{own_setting, own_modes_after, own_modes}
use Rattle.order_laws.specs.Rows.{place_there}
use Rattle.order_laws.specs.Needed.{IsSide}
use Rattle.order_laws.proofs.ModeKeys.{keys_any}
use Rattle.order_laws.proofs.Frames.{clock_there, base_there}
use Rattle.order_laws.proofs.Lists.{left_of, right_of}
use Rattle.order_laws.proofs.Covers.{CoversNeeds, covers_itself}
use Rattle.order_laws.proofs.Placed.{Among, CallIn, Settled, OwnIn, WholeIn, WholesIn, GivenTo, given_among, call_given, Behind, EachLaid, Bodied, laid_both, body_below, all_in_self, among_both}
use Rattle.order_laws.proofs.Laying.{Has, has_among, has_more, root_in, wholes_given}
use Rattle.order_laws.proofs.Laid.{each_laid}
use Rattle.order_laws.proofs.Items.{TextFits, SideFits, items_fit, sides_fit, assertions_fit}
use Rattle.order_laws.proofs.Sites.{SiteHeld, TextHeld, text_held, CallKnown, SiteKnown, all_sites_known}
use Rattle.order_laws.proofs.Contracts.{Holds, import_numbers, AreLaid, laid_when, laid_found, ImportLaid, lowered, Below, AfterLaid, after}

-- ---- lists

pub in_all : {A : Type 0} (P : A → Type 0) (xs : List A) (x : A) → AllByRecursion P xs → IsIn x xs → P x
in_all P [] x a h = absurd h
in_all P (y ∷ xs) x a (inl e) = subst P (sym e) a.0
in_all P (y ∷ xs) x a (inr h) = in_all P xs x a.1 h

pub in_flat : {A B : Type 0} (f : A → List B) (xs : List A) (x : A) (y : B) → IsIn x xs → IsIn y (f x) → IsIn y (flat_map f xs)
in_flat f [] x y h k = absurd h
in_flat f (z ∷ xs) x y (inl e) k = in_left y (f z) (flat_map f xs) (subst (λ q. IsIn y (f q)) e k)
in_flat f (z ∷ xs) x y (inr h) k = in_right y (f z) (flat_map f xs) (in_flat f xs x y h k)

pub at_slice : {A : Type 0} (xs : List A) (x : A) → IsIn x xs → (k : ℕ) × (slice_get xs k ≡ Some x)
at_slice [] x h = absurd h
at_slice (y ∷ xs) x (inl e) = (zero, ap Some (sym e))
at_slice (y ∷ xs) x (inr h) = let r = at_slice xs x h in (suc r.0, r.1)

pub slice_below : {A : Type 0} (xs : List A) (k : ℕ) (x : A) → slice_get xs k ≡ Some x → k < length xs
slice_below [] k x e = absurd (none-some x e)
slice_below (y ∷ xs) zero x e = omega arith
slice_below (y ∷ xs) (suc k) x e = let h : k < length xs = slice_below xs k x e in omega arith

pub slice_in : {A : Type 0} (xs : List A) (k : ℕ) (x : A) → slice_get xs k ≡ Some x → IsIn x xs
slice_in [] k x e = absurd (none-some x e)
slice_in (y ∷ xs) zero x e = inl (sym (same_Some y x e))
slice_in (y ∷ xs) (suc k) x e = inr (slice_in xs k x e)

one_picked : {A : Type 0} (o : Option A) (x : A) → o ≡ Some x → IsIn x (option_to_list o)
one_picked o x e = subst (λ z. IsIn x (option_to_list z)) (sym e) (inl refl)

pub picked_in : {A : Type 0} (ks : List ℕ) (xs : List A) (k : ℕ) (x : A) → slice_get xs k ≡ Some x → is_listed ks k ≡ true → IsIn x (picked ks xs)
picked_in [] xs k x e h = absurd (false≢true h)
picked_in {A} (n ∷ ks) xs k x e h = go (cases_Bool (eqb k n)) (λ q. picked_in ks xs k x e q)
  where
    rest : List A
    rest = picked ks xs

    go : (eqb k n ≡ true) ⊎ (eqb k n ≡ false) → (is_listed ks k ≡ true → IsIn x rest) → IsIn x (option_to_list (slice_get xs n) ++ rest)
    go (inl q) r = in_left x (option_to_list (slice_get xs n)) rest (one_picked (slice_get xs n) x (subst (λ m. slice_get xs m ≡ Some x) (eqb-true k n q) e))
    go (inr q) r = in_right x (option_to_list (slice_get xs n)) rest (r (subst (λ z. (z || is_listed ks k) ≡ true) q h))

one_all : {A : Type 0} (P : A → Type 0) (xs : List A) (k : ℕ) → AllByRecursion P xs → AllByRecursion P (option_to_list (slice_get xs k))
one_all P [] k a = tt
one_all P (x ∷ xs) zero a = (a.0, tt)
one_all P (x ∷ xs) (suc k) a = one_all P xs k a.1

all_picked : {A : Type 0} (P : A → Type 0) (ks : List ℕ) (xs : List A) → AllByRecursion P xs → AllByRecursion P (picked ks xs)
all_picked P [] xs a = tt
all_picked P (k ∷ ks) xs a = both_parts P (option_to_list (slice_get xs k)) (picked ks xs) (one_all P xs k a) (all_picked P ks xs a)

pub itself : (w : List ℕ) → same_numbers w w ≡ true
itself [] = refl
itself (k ∷ w) = both (eqb k k) (same_numbers w w) (eq-eqb k k refl) (itself w)

pub holds_within : (qs rs b : List Part) → Holds qs rs → Holds rs b → Holds qs b
holds_within qs rs b a h = all_from (λ r. IsIn r rs) (λ r. IsIn r b) (λ r m. in_all (λ y. IsIn y b) rs r h m) qs a

pub holds_more : (qs b xs : List Part) → Holds qs b → Holds qs (b ++ xs)
holds_more qs b xs a = all_from (λ r. IsIn r b) (λ r. IsIn r (b ++ xs)) (λ r m. in_left r b xs m) qs a

pub holds_left : (qs rs b : List Part) → Holds (qs ++ rs) b → Holds qs b
holds_left [] rs b a = tt
holds_left (q ∷ qs) rs b a = (a.0, holds_left qs rs b a.1)

pub held_among : (qs b : List Part) → Holds qs b → Among qs b
held_among qs b h r m = in_all (λ y. IsIn y b) qs r h m

-- ---- equations

abbrev names_of : List Equation → List Name
names_of es = flat_map (λ e. e.names) es

pub each_given : (es : List Equation) → AllByRecursion (λ e. (x : Name) → named_in x e.names ≡ true → named_in x (names_of es) ≡ true) es
each_given [] = tt
each_given (e ∷ es) = (
  (λ x h. list_any-append _ e.names (names_of es) ∙ or_left (named_in x e.names) (named_in x (names_of es)) h),
  all_from (λ q. (x : Name) → named_in x q.names ≡ true → named_in x (names_of es) ≡ true)
      (λ q. (x : Name) → named_in x q.names ≡ true → named_in x (names_of (e ∷ es)) ≡ true)
      (λ q a x h. list_any-append _ e.names (names_of es) ∙ or_true (named_in x e.names) (named_in x (names_of es)) (a x h)) es (each_given es),
)

left_found : (x : Name) (es : List Equation) → named_in x (names_of es) ≡ true → (e : Equation) × IsIn e es × (named_in x e.names ≡ true)
left_found x [] h = absurd (false≢true h)
left_found x (e ∷ es) h = go (cases_Bool (named_in x e.names)) (left_found x es)
  where
    go : (named_in x e.names ≡ true) ⊎ (named_in x e.names ≡ false) →
        (named_in x (names_of es) ≡ true → (q : Equation) × IsIn q es × (named_in x q.names ≡ true)) →
        (q : Equation) × IsIn q (e ∷ es) × (named_in x q.names ≡ true)
    go (inl k) r = (e, inl refl, k)
    go (inr k) r =
        let q : (q : Equation) × IsIn q es × (named_in x q.names ≡ true) =
        r (subst (λ z. (z || named_in x (names_of es)) ≡ true) k (sym (list_any-append _ e.names (names_of es)) ∙ h)) in
        (q.0, inr q.1, q.2)

-- ---- a frame

module _ (i : Instance) (f : Frame) (t : ℕ) (every : List Part) where
  -- what comes of the text of a frame
  pub record FrameLaid (w : List ℕ) (x : FrameText) (qs : ModeParts) (ds : ModeNeeds) : Type 0 where
    pub own : ImportLaid i f t every w x qs ds
    pub asserted : (b : List Part) → Holds x.body b → EachLaid i f t every w b x.asserted

  module _ (p : Program) (c : IsChecked p) (w : List ℕ) (calls : AreCalls i w) (sh : RowShows i f t w) (u : IsUnfolded p (place_there i f w))
      (d : Contains (components p) (component_of (place_there i f w))) (sub : Calls) (subo : ℕ → ModeParts) (subd : ℕ → ModeNeeds)
      (bodies : (k : ℕ) → 0 < k → pred k < count_of (calls_of (place_there i f w)) → Bodied i f t every (w ++ k ∷ []) (sub k).body)
      (below : (k : ℕ) → IsImport (place_there i f w) k → Below i f t every p c w calls sh u d sub subo subd bodies k)
      (keyed : map (λ q. q.0) (own_modes w (place_there i f w)) ≡ map (λ m. m.key) (terms (place_there i f w)).modes)
      (mine : own_modes w (place_there i f w)
      ≡ own_modes_after (place_there i f w) w subo [] (contract_statements (component_of (place_there i f w))))
      (needed : modes_need (place_there i f w)
      ≡ modes_after (place_there i f w) subd [] (contract_statements (component_of (place_there i f w))))
      (order : List ℕ)
      (all : (k : ℕ) → k < length (equations (component_of (place_there i f w))) → is_listed order k ≡ true) where
    abbrev j : Instance
    j = place_there i f w

    abbrev n : Component
    n = component_of (place_there i f w)

    abbrev cs : List ContractStatement
    cs = contract_statements n

    abbrev es : List Equation
    es = equations n

    abbrev k : ContractText
    k = contract_after j w sub [] cs

    abbrev ins : List ℕ
    ins = import_numbers cs

    abbrev g : Setting
    g = setting j w sub k.modes

    abbrev Laid : List Part → List Part → Type 0
    Laid b qs = EachLaid i f t every w b qs

    both_laid : (b qs rs : List Part) → Laid b qs → Laid (b ++ qs) rs → Laid b (qs ++ rs)
    both_laid b qs rs a e = laid_both i f t every w b qs rs a e

    whole : AfterLaid i f t every p c w calls sh u d sub subo subd bodies [] k (own_modes_after j w subo [] cs) (modes_after j subd [] cs) cs []
    whole = after i f t every p c w calls sh u d sub subo subd bodies below [] [] [] [] [] cs (items_fit p c j u d) tt refl mine needed

    abbrev ready : List Part → Type 0
    ready b = Has i f t w sub ins b

    still : (b xs : List Part) → ready b → ready (b ++ xs)
    still b xs r = has_more i f t w sub ins b xs r

    modes : AreLaid i f t every w ready k.modes (own_modes w j) (modes_need j)
    modes =
        subst (AreLaid i f t every w ready k.modes (own_modes w j)) (sym needed)
        (subst (λ qs. AreLaid i f t every w ready k.modes qs (modes_after j subd [] cs)) (sym mine) whole.modes)

    known_key : (key : Key) → IsKnown j key → IsAmong (map (λ q. q.0) (own_modes w j)) key
    known_key key h = ap (λ l. list_any (mode_key key) l) keyed ∙ keys_any key (terms j).modes ∙ h

    abbrev FoundHere : Key → List NeededPlace → List Part → List ModeText → ModeParts → Type 0
    FoundHere key ns b ms qs =
        EachLaid i f t every w b (asked_in (setting j w sub ms) ns key)
        × AllByRecursion (OwnIn i f t w b (asked_in (setting j w sub ms) ns key) ns)
        (asked_in (own_setting j w qs) ns key)

    found : (key : Key) → IsKnown j key → (ns : List NeededPlace) (b : List Part) → ready b → CoversNeeds i w ns (known_needs (modes_need j) key) →
        FoundHere key ns b k.modes (own_modes w j)
    found key h ns b r y =
        subst (λ ms. FoundHere key ns b ms (own_modes w j)) (append_none k.modes)
        (subst (λ qs. FoundHere key ns b (k.modes ++ []) qs) (append_none (own_modes w j))
        (laid_found i f t every w ready k.modes [] (own_modes w j) [] (modes_need j) modes key (known_key key h) ns b r y))

    abbrev Shown : Clock → Type 0
    Shown z = clock_on (row_by (numbers_there i w) (row_at i f t)) z ≡ is_on (scene_there i f w) z t

    abbrev Gives : List Name → Clock → Expression → Type 0
    Gives xs z e = (x : Name) → named_in x xs ≡ true → IsSide j xs z e

    text_laid : (b : List Part) → ready b → (ns : List NeededPlace) (xs : List Name) (s : Standing) (e : Expression) → TextFits j s e → Shown s.clock →
        Gives xs s.clock e → CoversNeeds i w ns (needs j (modes_need j) s.clock e) → Laid b (parts g ns xs s.clock e)
    text_laid b r ns xs s e a o v y =
        each_laid p c i f t every w calls sh u d sub k.modes (IsKnown j) ins bodies (λ key h ns z q x. (found key h ns z q x).0)
        (λ key h ns z q x. (found key h ns z q x).1) b r ns xs s e a.0 a.1 o v y

    gives_none : {z : Clock} {e : Expression} → Gives [] z e
    gives_none x h = absurd (false≢true h)

    pub wholes_on : (s : Standing) → Shown s.clock → (ls : List Expression) → AllByRecursion (TextFits j s) ls → (b : List Part) → ready b →
        Laid b (wholes g s.clock ls)
    wholes_on s o [] a b r = λ g v hb hq. tt
    wholes_on s o (e ∷ ls) a b r =
        let one : List Part = whole_parts g [] s.clock e in
        both_laid b one (wholes g s.clock ls) (text_laid b r (needs_of g s.clock e) [] s e a.0 o gives_none (covers_itself i (needs_of g s.clock e)))
        (wholes_on s o ls a.1 (b ++ one) (still b one r))

    -- ---- equations

    abbrev clock_of_side : Equation → Clock
    clock_of_side e = clock_of_names n e.names

    abbrev SideOk : Equation → Type 0
    SideOk e = SideFits j e × ClockFits j (IsKnown j) (clock_of_side e) × Gives e.names (clock_of_side e) e.right

    sides_ok : AllByRecursion SideOk es
    sides_ok =
        all_from_three (SideFits j) (EquationFits j (IsKnown j)) (λ e. Gives e.names (clock_of_side e) e.right) SideOk (λ e a q v. (a, q.clock, v)) es (sides_fit p c j u d)
        (own_fits p c j u d).equations
        (all_from (λ e. IsIn e es) (λ e. Gives e.names (clock_of_side e) e.right)
        (λ e m x h. record { equation = e; there = at_slice es e m; names = refl; right = refl; clock = refl }) es (all_in_self es))

    one_side : (e : Equation) → SideOk e → (b : List Part) → ready b → Laid b (equation_parts g e)
    one_side e a b r =
        text_laid b r (needs_of g (clock_of_side e) e.right) e.names (as_side (clock_of_side e)) e.right a.0 (clock_there i f t w sh (clock_of_side e) a.1) a.2
        (covers_itself i (needs_of g (clock_of_side e) e.right))

    each_side : (qs : List Equation) → AllByRecursion SideOk qs → (b : List Part) → ready b → Laid b (flat_map (equation_parts g) qs)
    each_side [] a b r = λ g v hb hq. tt
    each_side (e ∷ qs) a b r =
        let one : List Part = equation_parts g e in
        both_laid b one (flat_map (equation_parts g) qs) (one_side e a.0 b r) (each_side qs a.1 (b ++ one) (still b one r))

    abbrev imported : List Part
    imported = flat_map (import_parts g) cs

    abbrev sides : List Part
    sides = flat_map (equation_parts g) (picked order es)

    abbrev first : List Part
    first = imported ++ sides

    first_laid : (b : List Part) → Laid b first
    first_laid b =
        both_laid b imported sides (whole.imports b tt)
        (each_side (picked order es) (all_picked SideOk order es sides_ok) (b ++ imported) (whole.has b tt))

    ready_after : (b : List Part) → Holds first b → ready b
    ready_after b h = has_among i f t w sub ins imported b (held_among imported b (holds_left imported sides b h)) (whole.has [] tt)

    side_in : (e : Equation) → IsIn e es → (r : Part) → IsIn r (equation_parts g e) → IsIn r first
    side_in e m r q =
        let s : (k : ℕ) × (slice_get es k ≡ Some e) = at_slice es e m in
        in_right r imported sides (in_flat (equation_parts g) (picked order es) e r
        (picked_in order es s.0 e s.1 (all s.0 (slice_below es s.0 e s.1))) q)

    settled : (b : List Part) → Holds first b → Settled i f t w b
    settled b h x m =
        let q : (e : Equation) × IsIn e es × (named_in x e.names ≡ true) = left_found x es m in
        let r : Part = part g (needs_of g (clock_of_side q.0) q.0.right) q.0.names (clock_of_side q.0) q.0.right in
        record {
          part = r;
          listed = in_all (λ y. IsIn y b) first r h
              (side_in q.0 q.1 r (root_in g (needs_of g (clock_of_side q.0) q.0.right) q.0.names (clock_of_side q.0) q.0.right));
          gives = both (same_numbers w w) (named_in x q.0.names) (itself w) q.2;
        }

    -- ---- assertions

    abbrev said : List Part
    said = wholes g base (assertions n.body)

    abbrev done : List Part
    done = first ++ said

    said_laid : (b : List Part) → ready b → Laid b said
    said_laid b r = wholes_on (on_clock base) (base_there i f t w sh) (assertions n.body) (assertions_fit p c j u d) b r

    first_done : (r : Part) → IsIn r first → IsIn r done
    first_done r m = in_left r first said m

    whole_in : (e : Expression) (ls : List Expression) → IsIn e ls → (r : Part) → IsIn r (whole_parts g [] base e) → IsIn r (wholes g base ls)
    whole_in e ls m r q = in_flat (λ e. whole_parts g [] base e) ls e r m q

    arguments_held : (as_ : List Expression) → ((r : Part) → IsIn r (wholes g base as_) → IsIn r done) →
        AllByRecursion (TextHeld g n done) (map (λ a. (on_clock base, a)) as_)
    arguments_held [] h = tt
    arguments_held (a ∷ as_) h = (
      text_held g n (needs_of g base a) [] base (on_clock base) a done (λ r m. h r (in_left r (whole_parts g [] base a) (wholes g base as_) m)),
      arguments_held as_ (λ r m. h r (in_right r (whole_parts g [] base a) (wholes g base as_) m)),
    )

    clauses_held : (xs : List ContractStatement) → ((e : Equation) → IsIn e (ghost_equations xs) → IsIn e es) →
        ((r : Part) → IsIn r (flat_map (import_parts g) xs) → IsIn r done) → AllByRecursion (TextHeld g n done) (flat_map evaluated_clause xs)
    clauses_held [] h a = tt
    clauses_held (assume l ∷ xs) h a = clauses_held xs h a
    clauses_held (guarantee l ∷ xs) h a = clauses_held xs h a
    clauses_held (ghost_variable x e ∷ xs) h a =
        let q : Equation = record { names = x.name.text ∷ []; right = e } in (
          text_held g n (needs_of g (clock_of_side q) e) q.names (clock_of_side q) (as_side base) e done
              (λ r m. first_done r (side_in q (h q (inl refl)) r m)),
          clauses_held xs (λ y m. h y (inr m)) a,
        )
    clauses_held (constant x ∷ xs) h a = clauses_held xs h a
    clauses_held (mode m rs qs ∷ xs) h a = clauses_held xs h a
    clauses_held («import» l x as_ ys ∷ xs) h a =
        let one : List Part = wholes g base as_ ++ g.body l in
        both_parts (TextHeld g n done) (map (λ a. (on_clock base, a)) as_) (flat_map evaluated_clause xs)
        (arguments_held as_ (λ r m. a r (in_left r one (flat_map (import_parts g) xs) (in_left r (wholes g base as_) (g.body l) m))))
        (clauses_held xs h (λ r m. a r (in_right r one (flat_map (import_parts g) xs) m)))

    statements_held : (ss : List Statement) → ((e : Equation) → IsIn e (body_equations ss) → IsIn e es) →
        ((e : Expression) → IsIn e (assertions ss) → IsIn e (assertions n.body)) →
        AllByRecursion (TextHeld g n done) (flat_map (evaluated_statement n) ss)
    statements_held [] h a = tt
    statements_held (equation xs e ∷ ss) h a =
        let q : Equation = record { names = map text_of xs; right = e } in (
          text_held g n (needs_of g (clock_of_side q) e) q.names (clock_of_side q) (as_side (clock_of_side q)) e done
              (λ r m. first_done r (side_in q (h q (inl refl)) r m)),
          statements_held ss (λ y m. h y (inr m)) a,
        )
    statements_held (assertion e ∷ ss) h a = (
      text_held g n (needs_of g base e) [] base (on_clock base) e done
          (λ r m. in_right r first said (whole_in e (assertions n.body) (a e (inl refl)) r m)),
      statements_held ss h (λ y m. a y (inr m)),
    )
    statements_held (property l ∷ ss) h a = statements_held ss h a
    statements_held (main_mark z ∷ ss) h a = statements_held ss h a

    texts_held : AllByRecursion (TextHeld g n done) (evaluated_texts n)
    texts_held =
        both_parts (TextHeld g n done) (flat_map evaluated_clause cs) (flat_map (evaluated_statement n) n.body)
        (clauses_held cs (λ e m. in_left e (ghost_equations cs) (body_equations n.body) m)
        (λ r m. first_done r (in_left r imported sides m)))
        (statements_held n.body (λ e m. in_right e (ghost_equations cs) (body_equations n.body) m) (λ e m. m))

    calls_held : AllByRecursion (SiteHeld g n done) (evaluated_calls n)
    calls_held =
        all_flat (SiteHeld g n done) (λ (x : Text). flat_map (λ o. site_in o.standing o.expression) (occurrences n x.0 x.1))
        (evaluated_texts n)
        (all_from (TextHeld g n done)
        (λ x. AllByRecursion (SiteHeld g n done) (flat_map (λ o. site_in o.standing o.expression) (occurrences n x.0 x.1)))
        (λ x a. all_flat (SiteHeld g n done) (λ (o : Occurrence). site_in o.standing o.expression) (occurrences n x.0 x.1) a)
        (evaluated_texts n) texts_held)

    -- what a call evaluates is there, and the call, or what it is given
    abbrev Done : ℕ → Type 0
    Done m = Holds (sub m).body done × (CallIn w m done ⊎ GivenTo i f t w m done)

    evaluated_held : (m : ℕ) → stands_in (evaluated_calls n) m ≡ true → Done m
    evaluated_held m h =
        let q : (z : Site) × IsIn z (evaluated_calls n) × (eqb z.number m ≡ true) = in_any (λ s. eqb s.number m) (evaluated_calls n) h in
        let held : SiteHeld g n done q.0 = in_all (SiteHeld g n done) (evaluated_calls n) q.0 calls_held q.1 in
        subst Done (eqb-true q.0.number m q.2) (held.0, inl held.1)

    -- ---- calls by themselves, and the assertions of their frames

    abbrev ImportHeld : Site → Type 0
    ImportHeld z = (xs : List Name) → z.manner ≡ as_import xs → Done z.number

    no_import : (s : Standing) (e : Expression) → AllByRecursion ImportHeld (site_in s e)
    no_import s (call q l x as_) = ((λ xs e. cc), tt)
    no_import s (condact q l a x as_ ds) = ((λ xs e. cc), tt)
    no_import s (truth q a) = tt
    no_import s (number q a) = tt
    no_import s (name q a) = tt
    no_import s (negation q a) = tt
    no_import s (minus q a) = tt
    no_import s (pre q l a) = tt
    no_import s (arrow q l a e) = tt
    no_import s (binary q o a e) = tt
    no_import s (choice q a e z) = tt
    no_import s (sampled q a l x) = tt
    no_import s (merged q x a e) = tt
    no_import s (mode_name q x m) = tt

    imports_held : (xs : List ContractStatement) → Has i f t w sub (import_numbers xs) done → AllByRecursion ImportHeld (flat_map import_site xs)
    imports_held [] a = tt
    imports_held (assume l ∷ xs) a = imports_held xs a
    imports_held (guarantee l ∷ xs) a = imports_held xs a
    imports_held (ghost_variable x e ∷ xs) a = imports_held xs a
    imports_held (constant x ∷ xs) a = imports_held xs a
    imports_held (mode m rs qs ∷ xs) a = imports_held xs a
    imports_held («import» l x as_ ys ∷ xs) a = ((λ zs e. (a.0.0, inr a.0.1)), imports_held xs a.1)

    ready_done : ready done
    ready_done = still first said (ready_after first (all_in_self first))

    sites_held : AllByRecursion ImportHeld (all_sites n)
    sites_held =
        in_order_all (λ s. s.number) ImportHeld (gathered site_in n ++ flat_map import_site cs)
        (both_parts ImportHeld (gathered site_in n) (flat_map import_site cs)
        (all_flat ImportHeld (λ (o : Occurrence). site_in o.standing o.expression) (all_occurrences n)
        (each (all_occurrences n))) (imports_held cs ready_done))
      where
        each : (os : List Occurrence) → AllByRecursion (λ o. AllByRecursion ImportHeld (site_in o.standing o.expression)) os
        each [] = tt
        each (o ∷ os) = (no_import o.standing o.expression, each os)

    call_laid : (z : Site) → CallKnown j z → ClockFits j (IsKnown j) z.clock → (b : List Part) → ready b →
        Laid b (wholes g z.clock (call_condition z z.manner ++ z.arguments))
    call_laid z a h b r =
        subst (λ q. Laid b (wholes g q (call_condition z z.manner ++ z.arguments))) a.clock
        (wholes_on a.standing (subst Shown (sym a.clock) (clock_there i f t w sh z.clock h)) (call_condition z z.manner ++ z.arguments) a.given b r)

    is_held : (z : Site) → ImportHeld z → (m : Manner) → z.manner ≡ m → is_evaluated n z m ≡ true → Done z.number
    is_held z h (as_import xs) e k = h xs e
    is_held z h plain e k = evaluated_held z.number k
    is_held z h (while_true a) e k = evaluated_held z.number k

    no_site : (z : Site) → SiteKnown j z → is_evaluated n z z.manner ≡ false → CallKnown j z
    no_site z (inl a) e = a
    no_site z (inr a) e = absurd (false≢true (sym e ∙ ap (is_evaluated n z) a.1))

    -- the frame's parts are laid again behind those that have them
    done_laid : (b : List Part) → Holds done b → Laid b done
    done_laid b a = both_laid b first said (first_laid b) (said_laid (b ++ first) (still b first (ready_after b (holds_left first said b a))))

    given_done : (m : ℕ) → Done m → (b : List Part) → Holds done b → Behind i f t every w b (GivenTo i f t w m b)
    given_done m x b a inside gv hb = go x.1
      where
        back : Among (b ++ done) b
        back = among_both b done b (λ r y. y) (held_among done b a)

        go : CallIn w m done ⊎ GivenTo i f t w m done → GivenTo i f t w m b
        go (inl y) =
            given_among i f t w m (b ++ done) b back (call_given i f t every w m b done
            (done_laid b a inside gv hb (λ r z. hb r (held_among done b a r z))) y)
        go (inr y) = given_among i f t w m done b (held_among done b a) y

    -- a call by itself has been given what it is given
    given_alone : (z : Site) → CallKnown j z → (b : List Part) → Among (wholes g z.clock (call_condition z z.manner ++ z.arguments)) b →
        GivenTo i f t w z.number b
    given_alone z a b m = record {
      arguments = subst (λ y. WholesIn i f t w b y.clock y.arguments) (sym a.site)
          (right_of (WholeIn i f t w b z.clock) (call_condition z z.manner) z.arguments all_given);
      condition = subst (λ y. (e : Expression) → y.manner ≡ while_true e → WholeIn i f t w b y.clock e) (sym a.site)
          (λ e q. (subst (λ y. WholesIn i f t w b z.clock (call_condition z y)) q
          (left_of (WholeIn i f t w b z.clock) (call_condition z z.manner) z.arguments all_given)).0);
    }
      where
        all_given : WholesIn i f t w b z.clock (call_condition z z.manner ++ z.arguments)
        all_given = wholes_given i f t w sub k.modes z.clock (call_condition z z.manner ++ z.arguments) b m

    asserted_one : (z : Site) → SiteKnown j z → ClockFits j (IsKnown j) z.clock → ImportHeld z → (x : FrameText) →
        ((b : List Part) → Behind i f t every w b (GivenTo i f t w z.number b) → Laid b x.body) →
        ((b : List Part) → Holds x.body b → Behind i f t every w b (GivenTo i f t w z.number b) → Laid b x.asserted) →
        (is_evaluated n z z.manner ≡ true → Holds x.body done × (CallIn w z.number done ⊎ GivenTo i f t w z.number done)) →
        ((b : List Part) → Holds x.body done × (CallIn w z.number done ⊎ GivenTo i f t w z.number done) → Holds done b →
        Behind i f t every w b (GivenTo i f t w z.number b)) →
        (b : List Part) → Holds done b → Laid b (asserted_below g z x)
    asserted_one z s h v x laid told held given b a = go x.body x.contract x.asserted laid told held given
      where
        go : (bd : List Part) (ct : ContractText) (qs : List Part) →
            ((b : List Part) → Behind i f t every w b (GivenTo i f t w z.number b) → Laid b bd) →
            ((b : List Part) → Holds bd b → Behind i f t every w b (GivenTo i f t w z.number b) → Laid b qs) →
            (is_evaluated n z z.manner ≡ true → Holds bd done × (CallIn w z.number done ⊎ GivenTo i f t w z.number done)) →
            ((b : List Part) → Holds bd done × (CallIn w z.number done ⊎ GivenTo i f t w z.number done) → Holds done b →
            Behind i f t every w b (GivenTo i f t w z.number b)) → Laid b (asserted_below g z record { body = bd; contract = ct; asserted = qs })
        go bd ct [] l m e y = λ g v hb hq. tt
        go bd ct (q ∷ qs) l m e given_when = by (is_evaluated n z z.manner) refl
          where
            before : List Part
            before = wholes g z.clock (call_condition z z.manner ++ z.arguments)

            by : (y : Bool) → is_evaluated n z z.manner ≡ y → Laid b (cond y [] (before ++ bd) ++ q ∷ qs)
            by true o = m b (holds_within bd done b (e o).0 a) (given_when b (e o) a)
            by false o =
                let known : CallKnown j z = no_site z s o in
                both_laid b (before ++ bd) (q ∷ qs)
                (both_laid b before bd (call_laid z known h b (ready_after b (holds_left first said b a)))
                (l (b ++ before) (λ inside gv hb. given_alone z known (b ++ before) (λ r y. in_right r b before y))))
                (m (b ++ (before ++ bd)) (all_from (λ r. IsIn r bd) (λ r. IsIn r (b ++ (before ++ bd)))
                (λ r y. in_right r b (before ++ bd) (in_right r before bd y)) bd (all_in_self bd))
                (λ inside gv hb. given_alone z known (b ++ (before ++ bd)) (λ r y. in_right r b (before ++ bd) (in_left r before bd y))))

    module _ (child : (k : ℕ) → 0 < k → pred k < count_of (calls_of j) → FrameLaid (w ++ k ∷ []) (sub k) (subo k) (subd k)) where
      pub each_asserted : (is : Instances) (ss : List Site) (q : ℕ) → CallsFit IsKnown j is q → AreUnfolded p ss is → AllByRecursion (SiteKnown j) ss →
          AllByRecursion ImportHeld ss → q + count_of is ≡ count_of (calls_of j) → (b : List Part) → Holds done b → Laid b (asserted_in_calls g sub is)
      each_asserted no_instances ss q h v a m e b r = λ g v hb hq. tt
      each_asserted (with_instance z x is) [] q h v a m e b r = absurd v
      each_asserted (with_instance z x is) (s ∷ ss) q h v a m e b r =
          let known : SiteKnown j z = subst (SiteKnown j) (sym v.0) a.0 in
          let held : ImportHeld z = subst ImportHeld (sym v.0) m.0 in
          let counted : suc q ≡ z.number = sym h.0.number in
          let laid : FrameLaid (w ++ z.number ∷ []) (sub z.number) (subo z.number) (subd z.number) =
          subst (λ y. FrameLaid (w ++ y ∷ []) (sub y) (subo y) (subd y)) counted (child (suc q) (omega arith) (omega (arith, e))) in
          both_laid b (asserted_below g z (sub z.number)) (asserted_in_calls g sub is)
          (asserted_one z known h.0.clock held (sub z.number)
          (λ b y. body_below i f t every w z.number b (sub z.number).body record { laid = laid.own.body; settled = laid.own.settled } y)
          (λ b y v. lowered i f t every w z.number b (sub z.number).asserted (laid.own.settled b y) v (laid.asserted b y)) (is_held z held z.manner refl)
          (λ b y v. given_done z.number y b v) b r)
          (each_asserted is ss (suc q) h.2 v.3 a.1 m.1 (omega (arith, e)) (b ++ asserted_below g z (sub z.number))
          (holds_more done b (asserted_below g z (sub z.number)) r))

      module _ (fits : CallsFit IsKnown j (calls_of j) 0) (unfolded : AreUnfolded p (all_sites n) (calls_of j)) where
        pub frame_here : FrameLaid w (text_over sub order w j) (own_modes w j) (modes_need j)
        frame_here = record {
          own = record {
            body = first_laid;
            settled = settled;
            modes = laid_when i f t every w ready (Holds first) ready_after k.modes (own_modes w j) (modes_need j) modes;
            assumed = λ b h. whole.assumed b (ready_after b h);
            guaranteed = λ b h. whole.guaranteed b (ready_after b h);
          };
          asserted = λ b h. both_laid b said (asserted_in_calls g sub (calls_of j)) (said_laid b (ready_after b h))
              (each_asserted (calls_of j) (all_sites n) 0 fits unfolded (all_sites_known p c j u d) sites_held (omega arith) (b ++ said)
              (both_parts (λ r. IsIn r (b ++ said)) first said (holds_more first b said h)
              (all_from (λ r. IsIn r said) (λ r. IsIn r (b ++ said)) (λ r m. in_right r b said m) said (all_in_self said))));
        }

        -- texts on the base clock, behind the frame's own parts
        pub base_texts : (ls : List Expression) → AllByRecursion (TextFits j (on_clock base)) ls → (b : List Part) → Holds first b →
            Laid b (wholes g base ls)
        base_texts ls a b h = wholes_on (on_clock base) (base_there i f t w sh) ls a b (ready_after b h)

-- ---- calls of all texts of a declaration

-- the texts of an item that are no conditions
abbrev pub contract_side : ContractStatement → List Text
contract_side (ghost_variable x e) = (as_side base, e) ∷ []
contract_side (constant c) = (on_clock base, c.value) ∷ []
contract_side _ = []

module _ (j : Instance) (w : List ℕ) (sub : Calls) (n : Component) (rs : List Part) where
  -- what a call evaluates is there, and the call
  abbrev pub SiteThere : Site → Type 0
  SiteThere z = Holds (sub z.number).body rs × CallIn w z.number rs

  abbrev Held : Text → Type 0
  Held x = AllByRecursion (λ o. AllByRecursion SiteThere (site_in o.standing o.expression)) (occurrences n x.0 x.1)

  abbrev InRs : List Part → Type 0
  InRs qs = (r : Part) → IsIn r qs → IsIn r rs

  modes_more : (ms : List ModeText) (cs : List ContractStatement) (m : ModeText) → IsIn m ms → IsIn m (contract_after j w sub ms cs).modes
  modes_more ms [] m h = h
  modes_more ms (assume l ∷ cs) m h = modes_more ms cs m h
  modes_more ms (guarantee l ∷ cs) m h = modes_more ms cs m h
  modes_more ms (ghost_variable x e ∷ cs) m h = modes_more ms cs m h
  modes_more ms (constant x ∷ cs) m h = modes_more ms cs m h
  modes_more ms (mode x qs es ∷ cs) m h =
      modes_more (ms ++ mode_text (setting j w sub ms) x.text qs es ∷ []) cs m (in_left m ms (mode_text (setting j w sub ms) x.text qs es ∷ []) h)
  modes_more ms («import» k x as_ xs ∷ cs) m h =
      modes_more (ms ++ map (imported_mode x.text) (sub k).contract.modes) cs m (in_left m ms (map (imported_mode x.text) (sub k).contract.modes) h)

  pub free_held : (s : Standing) (e : Expression) → AllByRecursion (λ o. site_in o.standing o.expression ≡ []) (occurrences n s e) → Held (s, e)
  free_held s e a =
      all_from (λ (o : Occurrence). site_in o.standing o.expression ≡ [])
      (λ o. AllByRecursion SiteThere (site_in o.standing o.expression)) (λ o h. subst (AllByRecursion SiteThere) (sym h) tt) (occurrences n s e) a

  base_held : (ms : List ModeText) (e : Expression) → InRs (whole_parts (setting j w sub ms) [] base e) → Held (on_clock base, e)
  base_held ms e h = text_held (setting j w sub ms) n (needs_of (setting j w sub ms) base e) [] base (on_clock base) e rs h

  labels_held : (ms : List ModeText) (ls : List Labelled) → InRs (conditions_of (setting j w sub ms) ls) → AllByRecursion Held (on_base ls)
  labels_held ms [] h = tt
  labels_held ms (l ∷ ls) h = (
    base_held ms l.value (λ r m. h r (in_left r (whole_parts (setting j w sub ms) [] base l.value) (conditions_of (setting j w sub ms) ls) m)),
    labels_held ms ls (λ r m. h r (in_right r (whole_parts (setting j w sub ms) [] base l.value) (conditions_of (setting j w sub ms) ls) m)),
  )

  wholes_held : (ms : List ModeText) (es : List Expression) → InRs (wholes (setting j w sub ms) base es) →
      AllByRecursion Held (map (λ a. (on_clock base, a)) es)
  wholes_held ms [] h = tt
  wholes_held ms (e ∷ es) h = (
    base_held ms e (λ r m. h r (in_left r (whole_parts (setting j w sub ms) [] base e) (wholes (setting j w sub ms) base es) m)),
    wholes_held ms es (λ r m. h r (in_right r (whole_parts (setting j w sub ms) [] base e) (wholes (setting j w sub ms) base es) m)),
  )

  ensures_held : (ms : List ModeText) (qs es : List Labelled) →
      InRs (flat_map (λ e. conditions_of (setting j w sub ms) qs ++ conditions_of (setting j w sub ms) (e ∷ [])) es) → AllByRecursion Held (on_base es)
  ensures_held ms qs [] h = tt
  ensures_held ms qs (l ∷ es) h =
      let asked : List Part = conditions_of (setting j w sub ms) qs in
      let own : List Part = conditions_of (setting j w sub ms) (l ∷ []) in (
        (labels_held ms (l ∷ []) (λ r m. h r (in_left r (asked ++ own) _ (in_right r asked own m)))).0,
        ensures_held ms qs es (λ r m. h r (in_right r (asked ++ own) _ m)),
      )

  -- what a contract says, its equations aside
  pub contract_held : (full : List ModeText) (ms : List ModeText) (cs : List ContractStatement) →
      ((x : ContractStatement) → IsIn x cs → AllByRecursion Held (contract_side x)) →
      InRs (contract_after j w sub ms cs).assumed → InRs (contract_after j w sub ms cs).guaranteed →
      ((m : ModeText) → IsIn m (contract_after j w sub ms cs).modes → InRs m.required × InRs m.ensured) →
      InRs (flat_map (import_parts (setting j w sub full)) cs) → AllByRecursion Held (flat_map contract_statement_texts cs)
  contract_held full ms [] v a b d e = tt
  contract_held full ms (assume l ∷ cs) v a b d e =
      let one : List Part = conditions_of (setting j w sub ms) (l ∷ []) in (
        (labels_held ms (l ∷ []) (λ r m. a r (in_left r one _ m))).0,
        contract_held full ms cs (λ x m. v x (inr m)) (λ r m. a r (in_right r one _ m)) b d e,
      )
  contract_held full ms (guarantee l ∷ cs) v a b d e =
      let one : List Part = conditions_of (setting j w sub ms) (l ∷ []) in (
        (labels_held ms (l ∷ []) (λ r m. b r (in_left r one _ m))).0,
        contract_held full ms cs (λ x m. v x (inr m)) a (λ r m. b r (in_right r one _ m)) d e,
      )
  contract_held full ms (ghost_variable x y ∷ cs) v a b d e =
      ((v (ghost_variable x y) (inl refl)).0, contract_held full ms cs (λ x m. v x (inr m)) a b d e)
  contract_held full ms (constant x ∷ cs) v a b d e =
      ((v (constant x) (inl refl)).0, contract_held full ms cs (λ x m. v x (inr m)) a b d e)
  contract_held full ms (mode x qs es ∷ cs) v a b d e =
      let m : ModeText = mode_text (setting j w sub ms) x.text qs es in
      let h : InRs m.required × InRs m.ensured = d m (modes_more (ms ++ m ∷ []) cs m (in_right m ms (m ∷ []) (inl refl))) in
      both_parts Held (on_base qs ++ on_base es) (flat_map contract_statement_texts cs)
      (both_parts Held (on_base qs) (on_base es) (labels_held ms qs h.0) (ensures_held ms qs es h.1))
      (contract_held full (ms ++ m ∷ []) cs (λ x m. v x (inr m)) a b d e)
  contract_held full ms («import» k x as_ xs ∷ cs) v a b d e =
      let one : List Part = wholes (setting j w sub full) base as_ ++ (sub k).body in
      both_parts Held (map (λ a. (on_clock base, a)) as_) (flat_map contract_statement_texts cs)
      (wholes_held full as_ (λ r m. e r (in_left r one _ (in_left r (wholes (setting j w sub full) base as_) (sub k).body m))))
      (contract_held full (ms ++ map (imported_mode x.text) (sub k).contract.modes) cs (λ x m. v x (inr m))
      (λ r m. a r (in_right r (sub k).contract.assumed _ m)) (λ r m. b r (in_right r (sub k).contract.guaranteed _ m)) d
      (λ r m. e r (in_right r one _ m)))
