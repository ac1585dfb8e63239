-- The text of a checked declaration has its types and clocks, at every depth of calls.
use Rattle.std.proofs.lemmas.Grind.{flat_map-append}
use Rattle.std.proofs.Common.{zero, ◌≡◌, ℕ, suc, pred, ◌<◌, ◌≤◌, true, List, [], ◌∷◌, ◌++◌, map, flat_map, length, Some, refl, sym, ap, ◌∙◌, subst, arith}
use Rattle.std.specs.Prelude.{Contains, is_none}
use Rattle.std.specs.List.{AllByRecursion}
use Rattle.lus_tree.specs.declared.place.Sort.TheVariants.{Bool as Flags}
use Rattle.lus_tree.specs.Tree.{text_of, Expression, truth, number, name, negation, minus, pre, arrow, binary, choice, sampled, merged, call, condact, mode_name, Variable, Labelled, Statement, equation, assertion, property, main_mark, ContractStatement, assume, guarantee, ghost_variable, constant, mode, «import», Component, Program}
use Rattle.lus_tree.specs.Numbers.{IsNumbered}
use Rattle.lus_meaning.specs.Scene.{Clock, base, Site, Instance, Instances, instance, no_instances, with_instance, component_of, calls_of, call_instance, clock_from, clock_of, clock_of_names, contract_statements, ghosts, variables}
use Rattle.lus_meaning.specs.Program.{site_in, import_site, all_sites, component_named, in_order}
use Rattle.lus_meaning.specs.Property.{assertions}
use Rattle.lus_meaning.specs.Run.{Equation, equations, ghost_equations, body_equations, first_sorts, sort_of, sort_of_name}
use Rattle.lus_meaning.specs.Occurrences.{on_clock, on_base, as_side, Text, contract_statement_texts, statement_texts, constant_texts, texts, gathered, Memory, Start, memories, starts}
use Rattle.lus_meaning.specs.ClockFaults.{components}
use Rattle.lus_meaning.specs.Scope.{Home, contract_statement_scope}
use Rattle.lus_meaning.specs.ExpressionFaults.{needs_sort, flag_faults, expression_faults}
use Rattle.lus_meaning.specs.NameFaults.{home, flags_of, contract_statement_faults, contract_faults}
use Rattle.lus_meaning.specs.Grammatical.{IsGrammaticalComponent, ghost_names}
use Rattle.lus_meaning.specs.Refusals.{IsChecked}
use Rattle.lus_meaning.proofs.EachPart.{Each}
use Rattle.lus_meaning.proofs.InOrder.{in_order_length}
use Rattle.lus_meaning.proofs.Lists.{all_from, all_from_both, both_parts}
use Rattle.lus_meaning.proofs.NamesOnce.{no_parts, at_one}
use Rattle.lus_meaning.proofs.Now.{left_part, right_part}
use Rattle.rule_laws.specs.Laws.{IsUnfolded, AreUnfolded, site_at}
use Rattle.rule_laws.specs.Fitting.{IsStreamOn, sorts_of, OnBase}
use Rattle.rule_laws.specs.Declarations.{DeclarationFits, values_of, contract_flags, statement_flags}
use Rattle.rule_laws.specs.Declarations as declarations
use Rattle.rule_laws.proofs.Callees.{GoesDown, each_site}
use Rattle.rule_laws.proofs.Goods.{place_of, typed_declaration, each_passes, without_clocks}
use Rattle.rule_laws.proofs.Unfolded.{typed_tree}
use Rattle.rule_laws.proofs.Numbered.{InPlace, all_in_place}
use Rattle.rule_laws.proofs.Places.{memories_counted, starts_counted, sites_counted, numbered, by_number}
use Rattle.clock_laws.proofs.Clocks.{declared_at}
use Rattle.clock_laws.proofs.OrderLaws.{names_distinct}
use Rattle.clock_laws.proofs.Texts.{all_grammatical}
use Rattle.clock_laws.proofs.Same.{some_same}
use Rattle.run_laws.proofs.Sources.{IsCallee}
use Rattle.run_laws.proofs.Texts.{declaration, is_callee, named_at}
use Rattle.sys_meaning.specs.WellTyped.{IsKnown, checked, ClockFits, EquationFits, MemoryFits, StartFits, FlagFits, StatementFits, StatementsFit, own_keys, OwnFits, CallFits, TreeFits, CallsFit, IsNameOn, IsMemory, Stands}
use Rattle.sys_meaning.specs.Defaults as defaults
use Rattle.sys_meaning.specs.WellTyped as typed
use Rattle.sys_meaning.proofs.Found.{found_number}
use Rattle.path_laws.proofs.Chains.{name_on, clock_is}
use Rattle.path_laws.proofs.Numbers.{CountedFrom, in_order_counted, each_found, at_get, at_within}
use Rattle.path_laws.proofs.Places.{imports_known, imports_made, SiteMade, MemoryMade, StartMade, memories_made, starts_made, sites_made, known_texts, KnownText, stand, good_names, good_stream}
use Rattle.path_laws.proofs.Among.{IsImported, keys_of, all_among, stands_among}
use Rattle.path_laws.proofs.Standing.{site_there, Known}
use Rattle.sys_meaning.specs.Defaults.{site_of}

none_more : {A : Type 0} (xs : List A) → xs ++ [] ≡ xs
none_more [] = refl
none_more (x ∷ xs) = ap (λ l. x ∷ l) (none_more xs)

same_right : (i : Instance) (e : Expression) → declarations.right_sorts i e ≡ typed.right_sorts i (IsKnown i) e
same_right i (truth q b) = refl
same_right i (number q b) = refl
same_right i (name q b) = refl
same_right i (negation q b) = refl
same_right i (minus q b) = refl
same_right i (pre q k b) = refl
same_right i (arrow q k b d) = refl
same_right i (binary q k b d) = refl
same_right i (choice q b d e) = refl
same_right i (sampled q b d e) = refl
same_right i (merged q b d e) = refl
same_right i (call q k b d) = refl
same_right i (condact q k b d e f) = refl
same_right i (mode_name q b d) = refl

same_ghosts : (cs : List ContractStatement) → flat_map ghost_names cs ≡ ghosts cs
same_ghosts [] = refl
same_ghosts (assume l ∷ cs) = same_ghosts cs
same_ghosts (guarantee l ∷ cs) = same_ghosts cs
same_ghosts (ghost_variable x e ∷ cs) = ap (λ vs. x ∷ vs) (same_ghosts cs)
same_ghosts (constant c ∷ cs) = same_ghosts cs
same_ghosts (mode m rs es ∷ cs) = same_ghosts cs
same_ghosts («import» k c as_ xs ∷ cs) = same_ghosts cs

ghosts_on_base : (n : Component) → IsGrammaticalComponent n → OnBase (ghosts (contract_statements n))
ghosts_on_base n g =
    let none : Variable → Type 0 = λ v. is_none v.clock ≡ true in
    let all : AllByRecursion none (n.inputs ++ (n.outputs ++ flat_map ghost_names (contract_statements n))) =
    each_passes (λ v. is_none v.clock) (n.inputs ++ (n.outputs ++ flat_map ghost_names (contract_statements n))) g.clocks in
    let rest : AllByRecursion none (n.outputs ++ flat_map ghost_names (contract_statements n)) =
    right_part none n.inputs (n.outputs ++ flat_map ghost_names (contract_statements n)) all in
    without_clocks (ghosts (contract_statements n)) (subst (AllByRecursion none) (same_ghosts (contract_statements n))
    (right_part none n.outputs (flat_map ghost_names (contract_statements n)) rest))

ghost_clocks : (i : Instance) (vs : List Variable) → OnBase vs → AllByRecursion (declarations.StreamFits i) vs →
    AllByRecursion (λ v. clock_of (component_of i) v.name.text ≡ base) vs
ghost_clocks i [] o a = tt
ghost_clocks i (v ∷ vs) o a =
    (sym (clock_is (component_of i) v.name.text (clock_from v.clock) a.0.name.clock) ∙ ap clock_from o.0, ghost_clocks i vs o.1 a.1)

module _ (p : Program) (c : IsChecked p) where
  module _ (i : Instance) (u : IsUnfolded p i) (j : Contains (components p) (component_of i)) where
    abbrev here : Component
    here = component_of i

    decl : DeclarationFits i
    decl = declaration p c i u j

    k : IsNumbered (component_of i)
    k = numbered p c.grammatical (component_of i) j

    abbrev Text_known : Text → Type 0
    Text_known x = KnownText p c i u j x

    abbrev Flag : Expression → Type 0
    Flag e = Stands i (IsKnown i) base e × (sort_of i e ≡ Flags)

    stand_at : (t : _) (e : Expression) → Each (Known i) (component_of i) t e → Stands i (IsKnown i) t.clock e
    stand_at t e a = stand p c i u j t e a

    abbrev IsFlagHere : Expression → Type 0
    IsFlagHere e = sort_of i e ≡ Flags

    -- ---- the contract

    abbrev at_place : ℕ × Component
    at_place = ((place_of 0 p (component_of i) j).before, component_of i)

    abbrev place : Home
    place = home p at_place.0 at_place.1

    abbrev Imported : Site → Type 0
    Imported = IsImported p i

    at_number : (m : ℕ) → 1 ≤ m → (s : Site) → defaults.site_at (calls_of i) (pred m) ≡ s → site_of i m ≡ s
    at_number zero l s e = absurd (omega (arith, l))
    at_number (suc m) l s e = e

    flag_among : (bs : List ContractStatement) → AllByRecursion Imported (flat_map import_site bs) → (l : Labelled) →
        flag_faults (contract_statement_scope place bs) l.value ≡ [] → Text_known (on_clock base, l.value) → IsFlagHere l.value →
        FlagFits i (keys_of i bs) l
    flag_among bs q l f a s = (
      stands_among i (IsKnown i) (keys_of i bs) l.value (on_clock base)
          (all_among p at_place.0 at_place.1 i bs q l.value
          (no_parts (needs_sort (contract_statement_scope place bs) Flags l.value)
          (expression_faults (contract_statement_scope place bs) (on_clock base) l.value) f).1) (stand_at (on_clock base) l.value a),
      s,
    )

    flags_among : (bs : List ContractStatement) → AllByRecursion Imported (flat_map import_site bs) → (ls : List Labelled) →
        flags_of (contract_statement_scope place bs) ls ≡ [] → AllByRecursion Text_known (on_base ls) → AllByRecursion IsFlagHere (values_of ls) →
        AllByRecursion (FlagFits i (keys_of i bs)) ls
    flags_among bs q [] f a s = tt
    flags_among bs q (l ∷ ls) f a s =
        let r = no_parts (flag_faults (contract_statement_scope place bs) l.value) (flags_of (contract_statement_scope place bs) ls) f in
        (flag_among bs q l r.0 a.0 s.0, flags_among bs q ls r.1 a.1 s.1)

    statement_fits : (bs : List ContractStatement) → AllByRecursion Imported (flat_map import_site bs) → (x : ContractStatement) → AllByRecursion (SiteMade i) (import_site x) →
        contract_statement_faults (contract_statement_scope place bs) x ≡ [] → AllByRecursion Text_known (contract_statement_texts x) →
        AllByRecursion IsFlagHere (contract_flags x) → StatementFits i (keys_of i bs) x
    statement_fits bs q (assume l) y f a s = flag_among bs q l f a.0 s.0
    statement_fits bs q (guarantee l) y f a s = flag_among bs q l f a.0 s.0
    statement_fits bs q (ghost_variable x e) y f a s = tt
    statement_fits bs q (constant x) y f a s = tt
    statement_fits bs q (mode m rs es) y f a s =
        let r = no_parts (flags_of (contract_statement_scope place bs) rs) (flags_of (contract_statement_scope place bs) es) f in (
          flags_among bs q rs r.0 (left_part Text_known (on_base rs) (on_base es) a) (left_part IsFlagHere (values_of rs) (values_of es) s),
          flags_among bs q es r.1 (right_part Text_known (on_base rs) (on_base es) a) (right_part IsFlagHere (values_of rs) (values_of es) s),
        )
    statement_fits bs q («import» m x as_ ys) y f a s =
        let there = site_there (calls_of i) (pred m) _ y.0.site in
        record {
          call = y.0.call;
          clock = ap (λ (z : Site). z.clock) (at_number m y.0.number _ there.0);
          outputs = map text_of ys;
          manner = ap (λ (z : Site). z.manner) (at_number m y.0.number _ there.0);
        }

    imported_both : (bs : List ContractStatement) (x : ContractStatement) → AllByRecursion Imported (flat_map import_site bs) →
        AllByRecursion Imported (import_site x) → AllByRecursion Imported (flat_map import_site (bs ++ x ∷ []))
    imported_both bs x q y =
        subst (AllByRecursion Imported) (sym (flat_map-append import_site bs (x ∷ [])))
        (both_parts Imported (flat_map import_site bs) (import_site x ++ []) q (both_parts Imported (import_site x) [] y tt))

    contract_fits : (bs : List ContractStatement) → AllByRecursion Imported (flat_map import_site bs) → (xs : List ContractStatement) →
        AllByRecursion Imported (flat_map import_site xs) → AllByRecursion (SiteMade i) (flat_map import_site xs) →
        contract_faults place bs xs ≡ [] → AllByRecursion Text_known (flat_map contract_statement_texts xs) →
        AllByRecursion IsFlagHere (flat_map contract_flags xs) → StatementsFit i (keys_of i bs) xs
    contract_fits bs q [] y m f a s = tt
    contract_fits bs q (x ∷ xs) y m f a s =
        let r = no_parts (contract_statement_faults (contract_statement_scope place bs) x) (contract_faults place (bs ++ x ∷ []) xs) f in (
          statement_fits bs q x (left_part (SiteMade i) (import_site x) (flat_map import_site xs) m) r.0
              (left_part Text_known (contract_statement_texts x) (flat_map contract_statement_texts xs) a)
              (left_part IsFlagHere (contract_flags x) (flat_map contract_flags xs) s),
          subst (λ ks. StatementsFit i ks xs) (flat_map-append (own_keys i) bs (x ∷ []) ∙ ap (λ ks. keys_of i bs ++ ks) (none_more (own_keys i x)))
              (contract_fits (bs ++ x ∷ []) (imported_both bs x q (left_part Imported (import_site x) (flat_map import_site xs) y)) xs
              (right_part Imported (import_site x) (flat_map import_site xs) y) (right_part (SiteMade i) (import_site x) (flat_map import_site xs) m) r.1
              (right_part Text_known (contract_statement_texts x) (flat_map contract_statement_texts xs) a)
              (right_part IsFlagHere (contract_flags x) (flat_map contract_flags xs) s)),
        )

    asserts_fit : (ss : List Statement) → AllByRecursion Text_known (flat_map (statement_texts (component_of i)) ss) →
        AllByRecursion IsFlagHere (flat_map statement_flags ss) → AllByRecursion Flag (assertions ss)
    asserts_fit [] a f = tt
    asserts_fit (equation xs e ∷ ss) a f = asserts_fit ss a.1 f
    asserts_fit (assertion e ∷ ss) a f = ((stand_at (on_clock base) e a.0, f.0), asserts_fit ss a.1 f.1)
    asserts_fit (property l ∷ ss) a f = asserts_fit ss a.1 f.1
    asserts_fit (main_mark w ∷ ss) a f = asserts_fit ss a f

    checks_fit : (ss : List Statement) → AllByRecursion Text_known (flat_map (statement_texts (component_of i)) ss) →
        AllByRecursion IsFlagHere (flat_map statement_flags ss) → AllByRecursion Flag (checked ss)
    checks_fit [] a f = tt
    checks_fit (equation xs e ∷ ss) a f = checks_fit ss a.1 f
    checks_fit (assertion e ∷ ss) a f = checks_fit ss a.1 f.1
    checks_fit (property l ∷ ss) a f = ((stand_at (on_clock base) l.value a.0, f.0), checks_fit ss a.1 f.1)
    checks_fit (main_mark w ∷ ss) a f = checks_fit ss a f

    -- ---- equations

    abbrev SideKnown : Equation → Type 0
    SideKnown e = Each (Known i) (component_of i) (as_side (clock_of_names (component_of i) e.names)) e.right

    ghost_sides : (xs : List ContractStatement) → AllByRecursion Text_known (flat_map contract_statement_texts xs) →
        AllByRecursion (λ v. clock_of (component_of i) v.name.text ≡ base) (ghosts xs) → AllByRecursion SideKnown (ghost_equations xs)
    ghost_sides [] a g = tt
    ghost_sides (assume l ∷ xs) a g = ghost_sides xs a.1 g
    ghost_sides (guarantee l ∷ xs) a g = ghost_sides xs a.1 g
    ghost_sides (ghost_variable x e ∷ xs) a g =
        (subst (λ z. Each (Known i) (component_of i) (as_side z) e) (sym g.0) a.0, ghost_sides xs a.1 g.1)
    ghost_sides (constant x ∷ xs) a g = ghost_sides xs a.1 g
    ghost_sides (mode m rs es ∷ xs) a g =
        ghost_sides xs (right_part Text_known (on_base rs ++ on_base es) (flat_map contract_statement_texts xs) a) g
    ghost_sides («import» m x as_ ys ∷ xs) a g =
        ghost_sides xs (right_part Text_known (map (λ e. (on_clock base, e)) as_) (flat_map contract_statement_texts xs) a) g

    body_sides : (ss : List Statement) → AllByRecursion Text_known (flat_map (statement_texts (component_of i)) ss) →
        AllByRecursion SideKnown (body_equations ss)
    body_sides [] a = tt
    body_sides (equation xs e ∷ ss) a = (a.0, body_sides ss a.1)
    body_sides (assertion e ∷ ss) a = body_sides ss a.1
    body_sides (property l ∷ ss) a = body_sides ss a.1
    body_sides (main_mark w ∷ ss) a = body_sides ss a

    abbrev contract_texts_here : List Text
    contract_texts_here = flat_map contract_statement_texts (contract_statements (component_of i))

    abbrev body_texts_here : List Text
    body_texts_here = flat_map (statement_texts (component_of i)) (component_of i).body

    texts_known : AllByRecursion Text_known (texts (component_of i))
    texts_known = known_texts p c i u j

    contract_known : AllByRecursion Text_known contract_texts_here
    contract_known = left_part Text_known contract_texts_here (constant_texts here.constants ++ body_texts_here) texts_known

    body_known : AllByRecursion Text_known body_texts_here
    body_known = right_part Text_known (constant_texts here.constants) body_texts_here
        (right_part Text_known contract_texts_here (constant_texts here.constants ++ body_texts_here) texts_known)

    equation_fits : (ghosts_on : AllByRecursion (λ v. clock_of (component_of i) v.name.text ≡ base) (ghosts (contract_statements (component_of i)))) →
        AllByRecursion (EquationFits i (IsKnown i)) (equations (component_of i))
    equation_fits g =
        all_from_both (declarations.EquationFits i) SideKnown (EquationFits i (IsKnown i)) (λ e f s. record {
          right = stand_at (as_side (clock_of_names here e.names)) e.right s;
          names = all_from (λ x. IsStreamOn i (clock_of_names here e.names) (sort_of_name i x) x)
              (λ x. IsNameOn i (IsKnown i) (clock_of_names here e.names) x)
              (λ x h. name_on i (IsKnown i) (clock_of_names here e.names) x _ h) e.names f.names;
          sorts = f.sorts ∙ same_right i e.right;
          clock = good_names p c i u j e.names (λ x. IsStreamOn i (clock_of_names here e.names) (sort_of_name i x) x)
              (λ x h. h.clock) f.names;
        }) (equations here) decl.equations
        (both_parts SideKnown (ghost_equations (contract_statements here)) (body_equations here.body)
        (ghost_sides (contract_statements here) contract_known g) (body_sides here.body body_known))

    -- ---- memories and starts

    memory_fits : (m : Memory) → MemoryMade i m → InPlace (λ x. x.number) (memories (component_of i)) m → MemoryFits i (IsKnown i) m
    memory_fits m a q =
        let l : 1 ≤ m.number = q.positive in
        let w : pred m.number < length (in_order (λ (x : Memory). x.number) (memories here)) =
        at_within (in_order (λ (x : Memory). x.number) (memories here)) (pred m.number) m q.place in
        let s : length (in_order (λ (x : Memory). x.number) (memories here)) ≡ length (memories here) =
        in_order_length (λ (x : Memory). x.number) (memories here) (memories_counted here k) in
        record {
          found = a.found;
          counted = omega (arith, l);
          listed = omega (arith, w, s);
          first = at_get (λ (x : Memory). sort_of i x.operand) (in_order (λ (x : Memory). x.number) (memories here)) (pred m.number) m q.place;
          operand = a.operand;
          clock = a.clock;
        }

    memories_fit : AllByRecursion (MemoryFits i (IsKnown i)) (memories (component_of i))
    memories_fit =
        all_from_both (MemoryMade i) (InPlace (λ x. x.number) (memories here)) (MemoryFits i (IsKnown i)) memory_fits (memories here)
        (memories_made p c i u j) (all_in_place (λ x. x.number) (memories here) (memories_counted here k))

    start_fits : (m : Start) → StartMade i m → InPlace (λ x. x.number) (starts (component_of i)) m → StartFits i (IsKnown i) m
    start_fits m a q =
        let l : 1 ≤ m.number = q.positive in
        let w : pred m.number < length (in_order (λ (x : Start). x.number) (starts here)) =
        at_within (in_order (λ (x : Start). x.number) (starts here)) (pred m.number) m q.place in
        let s : length (in_order (λ (x : Start). x.number) (starts here)) ≡ length (starts here) =
        in_order_length (λ (x : Start). x.number) (starts here) (starts_counted here k) in
        record {
          found = a.found;
          counted = omega (arith, l);
          listed = omega (arith, w, s);
          clock = a.clock;
        }

    starts_fit : AllByRecursion (StartFits i (IsKnown i)) (starts (component_of i))
    starts_fit =
        all_from_both (StartMade i) (InPlace (λ x. x.number) (starts here)) (StartFits i (IsKnown i)) start_fits (starts here)
        (starts_made p c i u j) (all_in_place (λ x. x.number) (starts here) (starts_counted here k))

    many : {A B : Type 0} (f : A → B) (xs : List A) → length (map f xs) ≡ length xs
    many f [] = refl
    many f (x ∷ xs) = ap suc (many f xs)

    firsts_fit : (l : ℕ) → l < length (first_sorts i) → (t : Clock) × (a : Expression) × IsMemory i (IsKnown i) (suc l) t a
    firsts_fit l h =
        let s : length (in_order (λ (x : Memory). x.number) (memories here)) ≡ length (memories here) =
        in_order_length (λ (x : Memory). x.number) (memories here) (memories_counted here k) in
        let w : length (first_sorts i) ≡ length (in_order (λ (x : Memory). x.number) (memories here)) =
        many (λ (x : Memory). sort_of i x.operand) (in_order (λ (x : Memory). x.number) (memories here)) in
        let m = each_found (λ (x : Memory). x.number) (memories here) (memories_counted here k) (suc l) (omega arith)
        (omega (arith, h, w, s)) in (
          m.0.clock,
          m.0.operand,
          m.1 ∙ ap (λ q. Some record { number = q; clock = m.0.clock; operand = m.0.operand })
              (found_number (λ (x : Memory). x.number) (suc l) (memories here) m.0 m.1),
        )

    stream_fits : (v : Variable) → declarations.StreamFits i v → typed.StreamFits i (IsKnown i) v
    stream_fits v s = record {
      name = name_on i (IsKnown i) (clock_from v.clock) v.name.text _ s.name;
      sort = s.name.sort;
      clock = good_stream p c i u j v s;
    }

    ghosts_here : AllByRecursion (λ v. clock_of (component_of i) v.name.text ≡ base) (ghosts (contract_statements (component_of i)))
    ghosts_here =
        ghost_clocks i (ghosts (contract_statements here))
        (ghosts_on_base here (at_one IsGrammaticalComponent (components p) here (all_grammatical p c.grammatical) j))
        (right_part (declarations.StreamFits i) (here.inputs ++ here.outputs ++ here.locals) (ghosts (contract_statements here)) decl.streams)

    pub own_fits : OwnFits i (IsKnown i)
    own_fits = record {
      once = names_distinct p c.rules.clocked.typed (component_of i) j;
      contract = contract_fits [] tt (contract_statements here) (imports_known p c i u j) (imports_made p c i u j)
          (typed_declaration p (typed_tree p c) at_place (place_of 0 p (component_of i) j).is j).contract contract_known
          (left_part IsFlagHere (flat_map contract_flags (contract_statements here)) (flat_map statement_flags here.body) decl.flags);
      streams = all_from (declarations.StreamFits i) (typed.StreamFits i (IsKnown i)) stream_fits (variables here) decl.streams;
      equations = equation_fits ghosts_here;
      firsts = firsts_fit;
      memories = memories_fit;
      starts = starts_fit;
      asserts = asserts_fit here.body body_known
          (right_part IsFlagHere (flat_map contract_flags (contract_statements here)) (flat_map statement_flags here.body) decl.flags);
      body_properties = checks_fit here.body body_known
          (right_part IsFlagHere (flat_map contract_flags (contract_statements here)) (flat_map statement_flags here.body) decl.flags);
    }

  -- ---- calls

  pub names_on_base : (k : Instance) (vs : List Variable) → OnBase vs → AllByRecursion (declarations.StreamFits k) vs →
      AllByRecursion (IsNameOn k (IsKnown k) base) (map (λ v. v.name.text) vs)
  names_on_base k [] o a = tt
  names_on_base k (v ∷ vs) o a = (
    subst (λ t. IsNameOn k (IsKnown k) (clock_from t) v.name.text) o.0 (name_on k (IsKnown k) (clock_from v.clock) v.name.text _ a.0.name),
    names_on_base k vs o.1 a.1,
  )

  names_sorts : (k : Instance) (vs : List Variable) → AllByRecursion (declarations.StreamFits k) vs →
      map (sort_of_name k) (map (λ v. v.name.text) vs) ≡ map (λ v. v.sort) vs
  names_sorts k [] a = refl
  names_sorts k (v ∷ vs) a = rw (a.0.name.sort, names_sorts k vs a.1) refl

  call_fits : (i : Instance) (s : Site) (k : Instance) (q : ℕ) → s.number ≡ suc q → SiteMade i s →
      component_of k ≡ component_of (call_instance i s.number) → IsCallee k → CallFits IsKnown i s k q
  call_fits i s k q e m same w = record {
    number = e;
    call = subst (typed.IsCall i (IsKnown i)) e m.call;
    clock = m.clock;
    arguments = m.arguments;
    sorts = m.sorts ∙ ap (λ (n : Component). sorts_of n.inputs) (sym same);
    manner = m.manner k same;
    held = λ a h. subst (λ l. (ds : _) × typed.IsHeldCall i (IsKnown i) l s.clock a ds) e (m.held a h);
    inputs = names_on_base k (component_of k).inputs w.inputs_on_base w.inputs;
    input_sorts = names_sorts k (component_of k).inputs w.inputs;
    outputs = names_on_base k (component_of k).outputs w.outputs_on_base w.outputs;
    output_sorts = names_sorts k (component_of k).outputs w.outputs;
  }

  -- the declaration that a site of an unfolded instance names
  pub named_there : (i : Instance) → IsUnfolded p i → (s : Site) → 1 ≤ s.number → site_at (calls_of i) (pred s.number) ≡ Some s →
      component_named p s.callee ≡ Some (component_of (call_instance i s.number))
  named_there (instance d cs is) u s l e =
      named_at p (all_sites d) is u.1 (pred s.number) s e ∙ ap (λ k. Some (component_of k)) (by_number (instance d cs is) s.number l)

  mutual
    pub tree_fits : (i : Instance) → IsUnfolded p i → Contains (components p) (component_of i) → TreeFits IsKnown i
    tree_fits (instance d cs is) u j =
        let i : Instance = instance d cs is in (
          own_fits i u j,
          calls_fit i u (all_sites d) is 0 u.1 (each_site p c.rules.clocked.typed d j) (sites_made p c i u j)
              (in_order_counted (λ s. s.number) (gathered site_in d ++ flat_map import_site (contract_statements d))
              (sites_counted d (numbered p c.grammatical d j))),
        )

    calls_fit : (i : Instance) → IsUnfolded p i → (ss : List Site) (is : Instances) (q : ℕ) → AreUnfolded p ss is →
        AllByRecursion (λ s. GoesDown p (component_of i) s.callee) ss → AllByRecursion (SiteMade i) ss → CountedFrom (λ s. s.number) (suc q) ss →
        CallsFit IsKnown i is q
    calls_fit i u ss no_instances q w a m n = tt
    calls_fit i u [] (with_instance t k is) q w a m n = absurd w
    calls_fit i u (s ∷ ss) (with_instance t k is) q w a m n =
        let there : Contains (components p) (component_of k) = declared_at p c (component_of i) s k a.0 w.1 in
        let same : component_of k ≡ component_of (call_instance i s.number) =
        some_same (component_of k) (component_of (call_instance i s.number)) (sym w.1 ∙ named_there i u s m.0.number m.0.site) in (
          subst (λ z. CallFits IsKnown i z k q) (sym w.0) (call_fits i s k q n.0 m.0 same (is_callee p c k w.2 there)),
          tree_fits k w.2 there,
          calls_fit i u ss is (suc q) w.3 a.1 m.1 n.1,
        )
