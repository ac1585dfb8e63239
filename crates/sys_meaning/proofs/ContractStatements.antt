-- The formulas of a contract's items are true where these are.
use Rattle.std.proofs.Common.{◌≡◌, ℕ, zero, suc, pred, ◌<◌, get_or, arith, Bool, true, false, not, cond, ◌&&◌, ◌||◌, List, [], ◌∷◌, ◌++◌, map, flat_map, refl, ap, ◌∙◌, sym, subst, slice_index_or, Option, Some, None, option_to_list, unwrap_or}
use Rattle.std.specs.List.{AllByRecursion, list_all, list_any}
use Rattle.std.specs.Map.{lookup}
use Rattle.std.proofs.lemmas.Bool.{false≢true}
use Rattle.lus_tree.specs.declared.expression.Operator.TheVariants.{And, Or, Implies}
use Rattle.lus_tree.specs.declared.place.Sort.TheVariants.{Bool as Flags}
use Rattle.lus_tree.specs.Tree.{Name, Expression, Labelled, ContractStatement, assume, guarantee, ghost_variable, constant, mode, «import»}
use Rattle.lus_meaning.specs.Value.{Value, absent, flag, Stream, Instants, apply, is as equals}
use Rattle.lus_meaning.specs.Frame.{Frame, empty_frame, call_frame}
use Rattle.lus_meaning.specs.Scene.{base, Instance, Instances, no_instances, with_instance, instance_at, call_instance, calls_of, Scene, instance, component_of, contract_statements}
use Rattle.lus_meaning.specs.Meaning.{value, mode_key, mode_stream, head_stream}
use Rattle.lus_meaning.specs.Contract.{Test, under, item, ensured, Property, ModeTerms, Terms, no_terms, mode_streams, all_true, some_true, says, mode_terms, imported, imported_mode, scene_with, terms_after, terms, terms_each, scene}
use Rattle.lus_meaning.specs.Run.{sort_of}
use Rattle.sys_terms.specs.View.{Formula, negation, both}
use Rattle.sys_terms.specs.Meaning.{Values, truth_of}
use Rattle.sys_meaning.specs.Slot.{Place, own, beat, so_far}
use Rattle.sys_meaning.specs.Items.{Key, Known, known, ModeItem, mode_item, imported_item, Items, no_items, items_after, items_each}
use Rattle.sys_meaning.specs.Part.{worth, all_after, all_of, some_after, some_of}
use Rattle.sys_meaning.specs.Translate.{Stage, flag_at, term_of, formula}
use Rattle.sys_meaning.specs.Seen.{seen, seen_mode, row_of}
use Rattle.sys_meaning.specs.System.{Written, below_call, at_numbers, written, contract_of, assumed, stage}
use Rattle.sys_meaning.specs.WellTyped.{Stands, IsKnown, IsAmong, IsImport, FlagFits, StatementFits, StatementsFit, own_keys, count_of, OwnFits, TreeFits, CallsFit}
use Rattle.sys_meaning.proofs.Rows.{OwnShown, modes_agree, sight_here}
use Rattle.sys_meaning.proofs.Static.{modes_in, state_shown}
use Rattle.lus_meaning.proofs.Lists.{both_parts}
use Rattle.lus_meaning.proofs.Typed.{has_as}
use Rattle.sys_meaning.proofs.Conditions.{flags_same}
use Rattle.sys_meaning.proofs.Shown.{formula_worth, term_shown}
use Rattle.sys_meaning.proofs.Main.{term_has, formula_value}
use Rattle.sys_meaning.proofs.Pools.{true_all}
use Rattle.sys_meaning.proofs.Forward.{modes_of}
use Rattle.sys_meaning.proofs.SameText.{same_value, same_formula, shown_to}

-- ---- what is found by a key

-- what is found among the first is found among all
found_first : {A X : Type 0} (f : A → Key × X) (key : Key) (xs ys : List A) → list_any (mode_key key) (map (λ x. (f x).0) xs) ≡ true →
    lookup (mode_key key) (map f (xs ++ ys)) ≡ lookup (mode_key key) (map f xs)
found_first f key [] ys h = absurd (false≢true h)
found_first f key (x ∷ xs) ys h = go (mode_key key (f x).0) h (found_first f key xs ys)
  where
    go : (c : Bool) → (c || list_any (mode_key key) (map (λ x. (f x).0) xs)) ≡ true →
        (list_any (mode_key key) (map (λ x. (f x).0) xs) ≡ true → lookup (mode_key key) (map f (xs ++ ys)) ≡ lookup (mode_key key) (map f xs)) →
        cond c (Some (f x).1) (lookup (mode_key key) (map f (xs ++ ys))) ≡ cond c (Some (f x).1) (lookup (mode_key key) (map f xs))
    go true q r = refl
    go false q r = r q

among_more : (key : Key) (ks js : List Key) → IsAmong ks key → IsAmong (ks ++ js) key
among_more key [] js h = absurd (false≢true h)
among_more key (k ∷ ks) js h = go (mode_key key k) h (among_more key ks js)
  where
    go : (c : Bool) → (c || list_any (mode_key key) ks) ≡ true → (list_any (mode_key key) ks ≡ true → list_any (mode_key key) (ks ++ js) ≡ true) →
        (c || list_any (mode_key key) (ks ++ js)) ≡ true
    go true q r = refl
    go false q r = r q

map_both : {A B : Type 0} (f : A → B) (xs ys : List A) → map f (xs ++ ys) ≡ map f xs ++ map f ys
map_both f [] ys = refl
map_both f (x ∷ xs) ys = ap (λ l. f x ∷ l) (map_both f xs ys)

none_more : {A : Type 0} (xs : List A) → xs ++ [] ≡ xs
none_more [] = refl
none_more (x ∷ xs) = ap (λ l. x ∷ l) (none_more xs)

keys_same : (key : Key) (ms : List ModeTerms) → list_any (λ m. mode_key key m.key) ms ≡ list_any (mode_key key) (map (λ m. m.key) ms)
keys_same key [] = refl
keys_same key (m ∷ ms) = ap (λ z. mode_key key m.key || z) (keys_same key ms)

-- ---- what an instance imports

terms_at : (is : Instances) (p : ℕ) → p < count_of is → get_or (terms_each is) p no_terms ≡ terms (instance_at is p)
terms_at no_instances p h = absurd (omega arith)
terms_at (with_instance c k is) zero h = refl
terms_at (with_instance c k is) (suc p) h = terms_at is p (omega arith)

pub terms_called : (i : Instance) (k : ℕ) → 0 < k → pred k < count_of (calls_of i) →
    slice_index_or (terms_each (calls_of i)) (pred k) no_terms ≡ terms (call_instance i k)
terms_called i zero c h = absurd (omega arith)
terms_called i (suc p) c h = terms_at (calls_of i) p h

items_at : (is : Instances) (p : ℕ) → p < count_of is → get_or (items_each written is) p no_items ≡ contract_of (instance_at is p)
items_at no_instances p h = absurd (omega arith)
items_at (with_instance c k is) zero h = refl
items_at (with_instance c k is) (suc p) h = items_at is p (omega arith)

pub items_called : (i : Instance) (k : ℕ) → 0 < k → pred k < count_of (calls_of i) →
    slice_index_or (items_each written (calls_of i)) (pred k) no_items ≡ contract_of (call_instance i k)
items_called i zero c h = absurd (omega arith)
items_called i (suc p) c h = items_at (calls_of i) p h

-- ---- items and their formulas

module _ (at : Place → ℕ) (now next : Values) (b : Instants) (f : Frame) (t : ℕ) where
  -- where the frame is active, the formula is true where the test is
  abbrev pub SameTest : Test → Written → Type 0
  SameTest p q = b t ≡ true → flag (truth_of now next (q at)) ≡ p b f t

  abbrev pub Same : Property → Written → Type 0
  Same p q = SameTest p.test q

  abbrev pub AllSame : List Property → List Written → Type 0
  AllSame [] [] = Unit {0}
  AllSame (p ∷ ps) (q ∷ qs) = Same p q × AllSame ps qs
  AllSame [] (q ∷ qs) = ⊥
  AllSame (p ∷ ps) [] = ⊥

  pub record SameMode (m : ModeTerms) (q : ModeItem Written) : Type 0 where
    pub key : q.key ≡ m.key
    pub asked : SameTest m.requires_all q.asked
    pub ensures_each : AllSame m.ensures_each q.ensures_each

  abbrev pub SameModes : List ModeTerms → List (ModeItem Written) → Type 0
  SameModes [] [] = Unit {0}
  SameModes (m ∷ ms) (q ∷ qs) = SameMode m q × SameModes ms qs
  SameModes [] (q ∷ qs) = ⊥
  SameModes (m ∷ ms) [] = ⊥

  pub record SameTerms (r : Terms) (q : Items Written) : Type 0 where
    pub assumes : AllSame r.assumes q.assumes
    pub guarantees : AllSame r.guarantees q.guarantees
    pub modes : SameModes r.modes q.modes

  one_more : (ms : List ModeTerms) (qs : List (ModeItem Written)) (m : ModeTerms) (q : ModeItem Written) → SameModes ms qs → SameMode m q →
      SameModes (ms ++ m ∷ []) (qs ++ q ∷ [])
  one_more [] [] m q a e = (e, tt)
  one_more [] (p ∷ qs) m q a e = absurd a
  one_more (n ∷ ms) [] m q a e = absurd a
  one_more (n ∷ ms) (p ∷ qs) m q a e = (a.0, one_more ms qs m q a.1 e)

  same_keys : (ms : List ModeTerms) (qs : List (ModeItem Written)) → SameModes ms qs → map (λ q. q.key) qs ≡ map (λ m. m.key) ms
  same_keys [] [] a = refl
  same_keys [] (q ∷ qs) a = absurd a
  same_keys (m ∷ ms) [] a = absurd a
  same_keys (m ∷ ms) (q ∷ qs) a = rw (a.0.key, same_keys ms qs a.1) refl

  -- ---- by their keys

  abbrev stream_of : ModeTerms → Key × Stream
  stream_of m = (m.key, m.requires_all b f)

  abbrev formula_in : ModeItem Written → Key × Formula
  formula_in q = (q.key, q.asked at)

  abbrev value_of : ModeItem Written → Key × Value
  value_of q = (q.key, flag (truth_of now next (q.asked at)))

  formulas_are : (qs : List (ModeItem Written)) → at_numbers at (known qs) ≡ map formula_in qs
  formulas_are [] = refl
  formulas_are (q ∷ qs) = ap (λ l. formula_in q ∷ l) (formulas_are qs)

  values_are : (qs : List (ModeItem Written)) → modes_in now next (at_numbers at (known qs)) ≡ map value_of qs
  values_are [] = refl
  values_are (q ∷ qs) = ap (λ l. value_of q ∷ l) (values_are qs)

  -- a mode that is found is worth what it asks
  mode_worth : (key : Key) (ms : List ModeTerms) (qs : List (ModeItem Written)) → SameModes ms qs → IsAmong (map (λ m. m.key) ms) key → b t ≡ true →
      unwrap_or (lookup (mode_key key) (map value_of qs)) (flag false)
      ≡ head_stream (option_to_list (lookup (mode_key key) (mode_streams ms b f))) t
  mode_worth key [] qs a h o = absurd (false≢true h)
  mode_worth key (m ∷ ms) [] a h o = absurd a
  mode_worth key (m ∷ ms) (q ∷ qs) a h o = subst (λ z. unwrap_or (cond (mode_key key z) (Some (flag (truth_of now next (q.asked at))))
      (lookup (mode_key key) (map value_of qs))) (flag false)
      ≡ head_stream (option_to_list (cond (mode_key key m.key) (Some (m.requires_all b f)) (lookup (mode_key key) (mode_streams ms b f)))) t)
      (sym a.0.key) (go (mode_key key m.key) h (mode_worth key ms qs a.1))
    where
      go : (c : Bool) → (c || list_any (mode_key key) (map (λ m. m.key) ms)) ≡ true → (IsAmong (map (λ m. m.key) ms) key → b t ≡ true →
          unwrap_or (lookup (mode_key key) (map value_of qs)) (flag false)
          ≡ head_stream (option_to_list (lookup (mode_key key) (mode_streams ms b f))) t) →
          unwrap_or (cond c (Some (flag (truth_of now next (q.asked at)))) (lookup (mode_key key) (map value_of qs))) (flag false)
          ≡ head_stream (option_to_list (cond c (Some (m.requires_all b f)) (lookup (mode_key key) (mode_streams ms b f)))) t
      go true k r = a.0.asked o
      go false k r = r k o

  -- ---- all of them

  equals_true : (z : Bool) → equals true (flag z) ≡ z
  equals_true true = refl
  equals_true false = refl

  pub same_all : (ps : List Property) (qs : List Written) → AllSame ps qs → b t ≡ true →
      list_all (λ z. truth_of now next z) (map (λ q. q at) qs) ≡ list_all (λ p. equals true (p.test b f t)) ps
  same_all [] [] a o = refl
  same_all [] (q ∷ qs) a o = absurd a
  same_all (p ∷ ps) [] a o = absurd a
  same_all (p ∷ ps) (q ∷ qs) a o =
      rw (sym (a.0 o), equals_true (truth_of now next (q at)), same_all ps qs a.1 o) refl

and_true : (a : Bool) → (a && true) ≡ a
and_true true = refl
and_true false = refl

and_nested : (a b c : Bool) → ((a && b) && c) ≡ (a && (b && c))
and_nested true b c = refl
and_nested false b c = refl

module _ (now next : Values) where
  after_all : (f : Formula) (gs : List Formula) →
      truth_of now next (all_after f gs) ≡ (truth_of now next f && list_all (λ z. truth_of now next z) gs)
  after_all f [] = sym (and_true (truth_of now next f))
  after_all f (g ∷ gs) =
      after_all (both f g) gs
      ∙ and_nested (truth_of now next f) (truth_of now next g) (list_all (λ z. truth_of now next z) gs)

  pub all_of_true : (fs : List Formula) → truth_of now next (all_of fs) ≡ list_all (λ z. truth_of now next z) fs
  all_of_true [] = refl
  all_of_true (f ∷ fs) = after_all f fs

  pub listed_true : (fs : List Formula) → list_all (λ z. truth_of now next z) fs ≡ true → true_all now next fs
  listed_true [] e = tt
  listed_true (f ∷ fs) e = go (truth_of now next f) refl e (listed_true fs)
    where
      go : (z : Bool) → truth_of now next f ≡ z → (z && list_all (λ z. truth_of now next z) fs) ≡ true →
          (list_all (λ z. truth_of now next z) fs ≡ true → true_all now next fs) → true_all now next (f ∷ fs)
      go true q e r = (q, r e)
      go false q e r = absurd (false≢true e)

  pub true_listed : (fs : List Formula) → true_all now next fs → list_all (λ z. truth_of now next z) fs ≡ true
  true_listed [] a = refl
  true_listed (f ∷ fs) a = rw (a.0, true_listed fs a.1) refl

-- ---- several at once

-- streams that are these truths at an instant
abbrev AreTruths : ℕ → List Stream → List Bool → Type 0
AreTruths t [] [] = Unit {0}
AreTruths t (x ∷ xs) (z ∷ zs) = (flag z ≡ x t) × AreTruths t xs zs
AreTruths t [] (z ∷ zs) = ⊥
AreTruths t (x ∷ xs) [] = ⊥

abbrev identity : Bool → Bool
identity z = z

all_flags : (t : ℕ) (xs : List Stream) (zs : List Bool) → AreTruths t xs zs → flag (list_all identity zs) ≡ all_true xs t
all_flags t [] [] a = refl
all_flags t [] (z ∷ zs) a = absurd a
all_flags t (x ∷ xs) [] a = absurd a
all_flags t (x ∷ []) (z ∷ []) a = ap flag (and_true z) ∙ a.0
all_flags t (x ∷ []) (z ∷ y ∷ zs) a = absurd a.1
all_flags t (x ∷ y ∷ xs) (z ∷ zs) a =
    ap (λ v. apply And (flag z) v) (all_flags t (y ∷ xs) zs a.1) ∙ ap (λ v. apply And v (all_true (y ∷ xs) t)) a.0

or_false : (a : Bool) → (a || false) ≡ a
or_false true = refl
or_false false = refl

some_flags : (t : ℕ) (xs : List Stream) (zs : List Bool) → AreTruths t xs zs → flag (list_any identity zs) ≡ some_true xs t
some_flags t [] [] a = refl
some_flags t [] (z ∷ zs) a = absurd a
some_flags t (x ∷ xs) [] a = absurd a
some_flags t (x ∷ []) (z ∷ []) a = ap flag (or_false z) ∙ a.0
some_flags t (x ∷ []) (z ∷ y ∷ zs) a = absurd a.1
some_flags t (x ∷ y ∷ xs) (z ∷ zs) a =
    ap (λ v. apply Or (flag z) v) (some_flags t (y ∷ xs) zs a.1) ∙ ap (λ v. apply Or v (some_true (y ∷ xs) t)) a.0

listed_truths : (now next : Values) (fs : List Formula) → list_all (λ z. truth_of now next z) fs ≡ list_all identity (map (λ z. truth_of now next z) fs)
listed_truths now next [] = refl
listed_truths now next (f ∷ fs) = ap (λ z. truth_of now next f && z) (listed_truths now next fs)

implied_value : (p q : Bool) (v w : Value) → flag p ≡ v → flag q ≡ w → flag (not (p && not q)) ≡ apply Implies v w
implied_value p q v w e d = subst (λ v. flag (not (p && not q)) ≡ apply Implies v w) e (subst (λ w. flag (not (p && not q)) ≡ apply Implies (flag p) w) d (by p q))
  where
    by : (p q : Bool) → flag (not (p && not q)) ≡ flag (not p || q)
    by true true = refl
    by true false = refl
    by false q = refl

module _ (now next : Values) where
  or_nested : (a b c : Bool) → (not (not a && not b) || c) ≡ (a || (b || c))
  or_nested true b c = refl
  or_nested false true c = refl
  or_nested false false c = refl

  after_some : (f : Formula) (gs : List Formula) →
      truth_of now next (some_after f gs) ≡ (truth_of now next f || list_any (λ z. truth_of now next z) gs)
  after_some f [] = sym (or_false (truth_of now next f))
  after_some f (g ∷ gs) = after_some (negation (both (negation f) (negation g))) gs
      ∙ or_nested (truth_of now next f) (truth_of now next g) (list_any (λ z. truth_of now next z) gs)

  pub some_of_true : (fs : List Formula) → truth_of now next (some_of fs) ≡ list_any (λ z. truth_of now next z) fs
  some_of_true [] = refl
  some_of_true (f ∷ fs) = after_some f fs

  some_truths : (fs : List Formula) → list_any (λ z. truth_of now next z) fs ≡ list_any identity (map (λ z. truth_of now next z) fs)
  some_truths [] = refl
  some_truths (f ∷ fs) = ap (λ z. truth_of now next f || z) (some_truths fs)

-- ---- of a frame that is shown

on_beat : (o : Bool) (v : Value) → o ≡ true → cond o v absent ≡ v
on_beat true v e = refl
on_beat false v e = absurd (false≢true e)

module _ (at : Place → ℕ) (now next : Values) (b : Instants) (f : Frame) (t : ℕ) where
  abbrev pub IsShownBy : Instance → Type 0
  IsShownBy i = OwnShown (scene i b f) (IsKnown i) at now next t (modes_of IsKnown i at)

  module _ (i : Instance) (sh : IsShownBy i) (sub : ℕ → Terms) (sub' : ℕ → Items Written) where
    abbrev TestSame : Test → Written → Type 0
    TestSame = SameTest at now next b f t

    abbrev ListSame : List Property → List Written → Type 0
    ListSame = AllSame at now next b f t

    abbrev ModesSame : List ModeTerms → List (ModeItem Written) → Type 0
    ModesSame = SameModes at now next b f t

    -- modes of these keys, which are the first of all
    record First (ks : List Key) (ms : List ModeTerms) (qs : List (ModeItem Written)) : Type 0 where
      same : ModesSame ms qs
      keys : map (λ m. m.key) ms ≡ ks
      more : List ModeTerms
      all : (terms i).modes ≡ ms ++ more
      more_items : List (ModeItem Written)
      all_items : (contract_of i).modes ≡ qs ++ more_items

    module _ (ks : List Key) (ms : List ModeTerms) (qs : List (ModeItem Written)) (h : First ks ms qs) where
      among_terms : (key : Key) → IsAmong ks key → IsAmong (map (λ m. m.key) ms) key
      among_terms key k = subst (λ ks. IsAmong ks key) (sym h.keys) k

      among_items : (key : Key) → IsAmong ks key → IsAmong (map (λ q. q.key) qs) key
      among_items key k = subst (λ ks. IsAmong ks key) (sym (same_keys at now next b f t ms qs h.same)) (among_terms key k)

      streams_found : (key : Key) → IsAmong ks key → lookup (mode_key key) (mode_streams ms b f) ≡ lookup (mode_key key) (mode_streams (terms i).modes b f)
      streams_found key k = sym (ap (λ ns. lookup (mode_key key) (mode_streams ns b f)) h.all
          ∙ found_first (stream_of at now next b f t) key ms h.more (among_terms key k))

      formulas_found : (key : Key) → IsAmong ks key → lookup (mode_key key) (at_numbers at (known qs)) ≡ lookup (mode_key key) (modes_of IsKnown i at)
      formulas_found key k =
          ap (lookup (mode_key key)) (formulas_are at now next b f t qs)
          ∙ sym (ap (λ ns. lookup (mode_key key) (at_numbers at (known ns))) h.all_items
          ∙ ap (lookup (mode_key key)) (formulas_are at now next b f t (qs ++ h.more_items))
          ∙ found_first (formula_in at now next b f t) key qs h.more_items (among_items key k))

      values_found : (key : Key) → IsAmong ks key → lookup (mode_key key) (map (value_of at now next b f t) qs)
          ≡ lookup (mode_key key) (modes_in now next (modes_of IsKnown i at))
      values_found key k =
          sym (ap (λ ns. lookup (mode_key key) (modes_in now next (at_numbers at (known ns)))) h.all_items
          ∙ ap (lookup (mode_key key)) (values_are at now next b f t (qs ++ h.more_items))
          ∙ found_first (value_of at now next b f t) key qs h.more_items (among_items key k))

      shown_here : OwnShown (scene i b f) (IsAmong ks) at now next t (modes_of IsKnown i at)
      shown_here = shown_to (scene i b f) (IsKnown i) (IsAmong ks) at now next t (modes_of IsKnown i at) sh

      agree_here : modes_agree (scene i b f) (IsAmong ks) at now next t (modes_of IsKnown i at) shown_here
      agree_here d n k o =
          ap (λ z. unwrap_or z (flag false)) (sym (values_found (option_to_list d, n) k))
          ∙ mode_worth at now next b f t (option_to_list d, n) ms qs h.same (among_terms (option_to_list d, n) k) o
          ∙ ap (λ z. head_stream (option_to_list z) t) (streams_found (option_to_list d, n) k)

      -- an item says what its formula says
      says_same : (l : Labelled) → FlagFits i ks l → TestSame (says i ms l) (λ at. formula (record { place = i; number = at; modes = at_numbers at (known qs) }) l.value)
      says_same l w o =
          ap (λ z. flag (truth_of now next z)) (same_formula i at ks (at_numbers at (known qs)) (modes_of IsKnown i at) formulas_found l.value base w.0)
          ∙ formula_value (scene i b f) (IsAmong ks) at (modes_of IsKnown i at) now next t shown_here agree_here l.value base w.0 w.1 o
          ∙ sym (same_value i f b ks (mode_streams ms b f) (mode_streams (terms i).modes b f) streams_found l.value base w.0 t)

      all_say : (rs : List Labelled) → AllByRecursion (FlagFits i ks) rs → b t ≡ true →
          AreTruths t (map (λ r. says i ms r b f) rs)
          (map (λ z. truth_of now next z) (map (λ w. w at) (map (λ r. written.says i (known qs) r.value) rs)))
      all_say [] a o = tt
      all_say (r ∷ rs) a o = (says_same r a.0 o, all_say rs a.1 o)

      -- a mode asks what its formula says
      asks_same : (m : Name) (rs es : List Labelled) → AllByRecursion (FlagFits i ks) rs →
          TestSame (mode_terms i ms m rs es).requires_all (mode_item written i (known qs) m rs es).asked
      asks_same m rs es a o =
          let fs : List Formula = map (λ w. w at) (map (λ r. written.says i (known qs) r.value) rs) in
          ap flag (all_of_true now next fs ∙ listed_truths now next fs)
          ∙ all_flags t (map (λ r. says i ms r b f) rs) (map (λ z. truth_of now next z) fs) (all_say rs a o)
          ∙ sym (on_beat (b t) (all_true (map (λ r. says i ms r b f) rs) t) o)

      ensures_same : (m : Name) (rs es fs : List Labelled) → AllByRecursion (FlagFits i ks) rs → AllByRecursion (FlagFits i ks) es →
          ListSame (map (λ e. under (mode_terms i ms m rs fs).requires_all (item i ms (ensured m) e)) es)
          (map (λ e. written.under (mode_item written i (known qs) m rs fs).asked (written.says i (known qs) e.value)) es)
      ensures_same m rs [] fs a e = tt
      ensures_same m rs (x ∷ es) fs a e = (
        λ o. implied_value (truth_of now next ((mode_item written i (known qs) m rs fs).asked at))
            (truth_of now next (written.says i (known qs) x.value at)) ((mode_terms i ms m rs fs).requires_all b f t) (says i ms x b f t)
            (asks_same m rs fs a o) (says_same x e.0 o),
        ensures_same m rs es fs a e.1,
      )

      mode_same : (m : Name) (rs es : List Labelled) → AllByRecursion (FlagFits i ks) rs → AllByRecursion (FlagFits i ks) es →
          SameMode at now next b f t (mode_terms i ms m rs es) (mode_item written i (known qs) m rs es)
      mode_same m rs es a e = record { key = refl; asked = asks_same m rs es a; ensures_each = ensures_same m rs es es a e }

    -- ---- the contract

    grouped : {A : Type 0} (xs ys zs : List A) → xs ++ (ys ++ zs) ≡ (xs ++ ys) ++ zs
    grouped [] ys zs = refl
    grouped (x ∷ xs) ys zs = ap (λ l. x ∷ l) (grouped xs ys zs)

    terms_more : (ks : List Key) (ms : List ModeTerms) (cs : List ContractStatement) → StatementsFit i ks cs →
        (more : List ModeTerms) × ((terms_after i sub ms cs).modes ≡ ms ++ more)
    terms_more ks ms [] w = ([], sym (none_more ms))
    terms_more ks ms (assume l ∷ cs) w = terms_more (ks ++ []) ms cs w.1
    terms_more ks ms (guarantee l ∷ cs) w = terms_more (ks ++ []) ms cs w.1
    terms_more ks ms (ghost_variable x e ∷ cs) w = terms_more (ks ++ []) ms cs w.1
    terms_more ks ms (constant c ∷ cs) w = terms_more (ks ++ []) ms cs w.1
    terms_more ks ms (mode m rs es ∷ cs) w =
        let one : ModeTerms = mode_terms i ms m.text rs es in
        let r = terms_more (ks ++ ([], m.text) ∷ []) (ms ++ one ∷ []) cs w.1 in
        (one ∷ r.0, r.1 ∙ sym (grouped ms (one ∷ []) r.0))
    terms_more ks ms («import» k c as_ xs ∷ cs) w =
        let some : List ModeTerms = map (imported_mode k c.text) (sub k).modes in
        let r = terms_more (ks ++ own_keys i («import» k c as_ xs)) (ms ++ some) cs w.1 in
        (some ++ r.0, r.1 ∙ sym (grouped ms some r.0))

    items_more : (ks : List Key) (qs : List (ModeItem Written)) (cs : List ContractStatement) → StatementsFit i ks cs →
        (more : List (ModeItem Written)) × ((items_after written i sub' qs cs).modes ≡ qs ++ more)
    items_more ks qs [] w = ([], sym (none_more qs))
    items_more ks qs (assume l ∷ cs) w = items_more (ks ++ []) qs cs w.1
    items_more ks qs (guarantee l ∷ cs) w = items_more (ks ++ []) qs cs w.1
    items_more ks qs (ghost_variable x e ∷ cs) w = items_more (ks ++ []) qs cs w.1
    items_more ks qs (constant c ∷ cs) w = items_more (ks ++ []) qs cs w.1
    items_more ks qs (mode m rs es ∷ cs) w =
        let one : ModeItem Written = mode_item written i (known qs) m.text rs es in
        let r = items_more (ks ++ ([], m.text) ∷ []) (qs ++ one ∷ []) cs w.1 in
        (one ∷ r.0, r.1 ∙ sym (grouped qs (one ∷ []) r.0))
    items_more ks qs («import» k c as_ xs ∷ cs) w =
        let some : List (ModeItem Written) = map (imported_item written k c.text) (sub' k).modes in
        let r = items_more (ks ++ own_keys i («import» k c as_ xs)) (qs ++ some) cs w.1 in
        (some ++ r.0, r.1 ∙ sym (grouped qs some r.0))

    abbrev TermsSame : Terms → Items Written → Type 0
    TermsSame = SameTerms at now next b f t

    -- what is known of the contracts that are imported
    abbrev Below : ℕ → Type 0
    Below k = (sub k ≡ terms (call_instance i k)) × SameTerms (below_call k at) now next b (call_frame f k) t (sub k) (sub' k)

    through_all : (k : ℕ) (ps : List Property) (qs : List Written) → AllSame (below_call k at) now next b (call_frame f k) t ps qs →
        ListSame (map (imported k) ps) (map (written.through k) qs)
    through_all k [] [] a = tt
    through_all k [] (q ∷ qs) a = absurd a
    through_all k (p ∷ ps) [] a = absurd a
    through_all k (p ∷ ps) (q ∷ qs) a = (a.0, through_all k ps qs a.1)

    through_modes : (k : ℕ) (x : Name) (ms : List ModeTerms) (qs : List (ModeItem Written)) →
        SameModes (below_call k at) now next b (call_frame f k) t ms qs →
        ModesSame (map (imported_mode k x) ms) (map (imported_item written k x) qs)
    through_modes k x [] [] a = tt
    through_modes k x [] (q ∷ qs) a = absurd a
    through_modes k x (m ∷ ms) [] a = absurd a
    through_modes k x (m ∷ ms) (q ∷ qs) a = (
      record {
        key = ap (λ (z : Key). (x ∷ z.0, z.1)) a.0.key;
        asked = a.0.asked;
        ensures_each = through_all k m.ensures_each q.ensures_each a.0.ensures_each;
      },
      through_modes k x ms qs a.1,
    )

    lists_same : (ps ps' : List Property) (qs qs' : List Written) → ListSame ps qs → ListSame ps' qs' → ListSame (ps ++ ps') (qs ++ qs')
    lists_same [] ps' [] qs' a e = e
    lists_same [] ps' (q ∷ qs) qs' a e = absurd a
    lists_same (p ∷ ps) ps' [] qs' a e = absurd a
    lists_same (p ∷ ps) ps' (q ∷ qs) qs' a e = (a.0, lists_same ps ps' qs qs' a.1 e)

    modes_more : (ms ns : List ModeTerms) (qs rs : List (ModeItem Written)) → ModesSame ms qs → ModesSame ns rs → ModesSame (ms ++ ns) (qs ++ rs)
    modes_more [] ns [] rs a e = e
    modes_more [] ns (q ∷ qs) rs a e = absurd a
    modes_more (m ∷ ms) ns [] rs a e = absurd a
    modes_more (m ∷ ms) ns (q ∷ qs) rs a e = (a.0, modes_more ms ns qs rs a.1 e)

    imported_keys : (k : ℕ) (x : Name) (ms : List ModeTerms) →
        map (λ (m : ModeTerms). m.key) (map (imported_mode k x) ms) ≡ map (λ (m : ModeTerms). (x ∷ m.key.0, m.key.1)) ms
    imported_keys k x [] = refl
    imported_keys k x (m ∷ ms) = ap (λ l. (x ∷ m.key.0, m.key.1) ∷ l) (imported_keys k x ms)

    after_same : ((k : ℕ) → IsImport i k → Below k) → (ks : List Key) (ms : List ModeTerms) (qs : List (ModeItem Written))
        (cs : List ContractStatement) → StatementsFit i ks cs → ModesSame ms qs → map (λ m. m.key) ms ≡ ks → (terms i).modes ≡ (terms_after i sub ms cs).modes →
        (contract_of i).modes ≡ (items_after written i sub' qs cs).modes →
        TermsSame (terms_after i sub ms cs) (items_after written i sub' qs cs)
    after_same below ks ms qs [] w a k e d = record { assumes = tt; guarantees = tt; modes = a }
    after_same below ks ms qs (assume l ∷ cs) w a k e d =
        let r : TermsSame (terms_after i sub ms cs) (items_after written i sub' qs cs) =
        after_same below (ks ++ []) ms qs cs w.1 a (k ∙ sym (none_more ks)) e d in
        let later = terms_more (ks ++ []) ms cs w.1 in
        let later_items = items_more (ks ++ []) qs cs w.1 in
        record {
          assumes = (
            says_same ks ms qs
                record { same = a; keys = k; more = later.0; all = e ∙ later.1; more_items = later_items.0; all_items = d ∙ later_items.1 } l w.0,
            r.assumes,
          );
          guarantees = r.guarantees;
          modes = r.modes;
        }
    after_same below ks ms qs (guarantee l ∷ cs) w a k e d =
        let r : TermsSame (terms_after i sub ms cs) (items_after written i sub' qs cs) =
        after_same below (ks ++ []) ms qs cs w.1 a (k ∙ sym (none_more ks)) e d in
        let later = terms_more (ks ++ []) ms cs w.1 in
        let later_items = items_more (ks ++ []) qs cs w.1 in
        record {
          assumes = r.assumes;
          guarantees = (
            says_same ks ms qs
                record { same = a; keys = k; more = later.0; all = e ∙ later.1; more_items = later_items.0; all_items = d ∙ later_items.1 } l w.0,
            r.guarantees,
          );
          modes = r.modes;
        }
    after_same below ks ms qs (ghost_variable x v ∷ cs) w a k e d = after_same below (ks ++ []) ms qs cs w.1 a (k ∙ sym (none_more ks)) e d
    after_same below ks ms qs (constant c ∷ cs) w a k e d = after_same below (ks ++ []) ms qs cs w.1 a (k ∙ sym (none_more ks)) e d
    after_same below ks ms qs (mode m rs es ∷ cs) w a k e d =
        let later = terms_more ks ms (mode m rs es ∷ cs) w in
        let later_items = items_more ks qs (mode m rs es ∷ cs) w in
        let here : First ks ms qs = record { same = a; keys = k; more = later.0; all = e ∙ later.1; more_items = later_items.0; all_items = d ∙ later_items.1 } in
        let one : ModeTerms = mode_terms i ms m.text rs es in
        let q : ModeItem Written = mode_item written i (known qs) m.text rs es in
        after_same below (ks ++ ([], m.text) ∷ []) (ms ++ one ∷ []) (qs ++ q ∷ []) cs w.1
        (one_more at now next b f t ms qs one q a (mode_same ks ms qs here m.text rs es w.0.0 w.0.1))
        (map_both (λ (m : ModeTerms). m.key) ms (one ∷ []) ∙ ap (λ l. l ++ ([], m.text) ∷ []) k) e d
    after_same below ks ms qs («import» j c as_ xs ∷ cs) w a k e d =
        let there : Below j = below j w.0 in
        let some : List ModeTerms = map (imported_mode j c.text) (sub j).modes in
        let items : List (ModeItem Written) = map (imported_item written j c.text) (sub' j).modes in
        let r : TermsSame (terms_after i sub (ms ++ some) cs) (items_after written i sub' (qs ++ items) cs) =
        after_same below (ks ++ own_keys i («import» j c as_ xs)) (ms ++ some) (qs ++ items) cs w.1
        (modes_more ms some qs items a (through_modes j c.text (sub j).modes (sub' j).modes there.1.modes))
        (map_both (λ (m : ModeTerms). m.key) ms some ∙ ap (λ l. l ++ map (λ (m : ModeTerms). m.key) some) k
        ∙ ap (λ l. ks ++ l) (imported_keys j c.text (sub j).modes
        ∙ ap (λ (r : Terms). map (λ (m : ModeTerms). (c.text ∷ m.key.0, m.key.1)) r.modes) there.0)) e d in
        record {
          assumes = lists_same (map (imported j) (sub j).assumes) (terms_after i sub (ms ++ some) cs).assumes
              (map (written.through j) (sub' j).assumes) (items_after written i sub' (qs ++ items) cs).assumes
              (through_all j (sub j).assumes (sub' j).assumes there.1.assumes) r.assumes;
          guarantees = lists_same (map (imported j) (sub j).guarantees) (terms_after i sub (ms ++ some) cs).guarantees
              (map (written.through j) (sub' j).guarantees) (items_after written i sub' (qs ++ items) cs).guarantees
              (through_all j (sub j).guarantees (sub' j).guarantees there.1.guarantees) r.guarantees;
          modes = r.modes;
        }

  -- what is so of the contracts that a contract imports
  abbrev pub ImportsSame : Instance → Type 0
  ImportsSame i = (k : ℕ) → IsImport i k →
      SameTerms (below_call k at) now next b (call_frame f k) t (terms (call_instance i k)) (contract_of (call_instance i k))

  pub terms_same : (i : Instance) → OwnFits i (IsKnown i) → IsShownBy i → ImportsSame i →
      SameTerms at now next b f t (terms i) (contract_of i)
  terms_same (instance d cs is) fits sh imports =
      after_same (instance d cs is) sh (λ k. slice_index_or (terms_each is) (pred k) no_terms)
      (λ k. slice_index_or (items_each written is) (pred k) no_items) below [] [] [] (contract_statements d) fits.contract tt refl refl refl
    where
      below : (k : ℕ) → IsImport (instance d cs is) k → (slice_index_or (terms_each is) (pred k) no_terms ≡ terms (call_instance (instance d cs is) k))
          × SameTerms (below_call k at) now next b (call_frame f k) t (slice_index_or (terms_each is) (pred k) no_terms)
          (slice_index_or (items_each written is) (pred k) no_items)
      below k h =
          let same = terms_called (instance d cs is) k h.call.counted h.call.listed in
          let items = items_called (instance d cs is) k h.call.counted h.call.listed in (
            same,
            subst (λ r. SameTerms (below_call k at) now next b (call_frame f k) t r (slice_index_or (items_each written is) (pred k) no_items)) (sym same)
                (subst (λ q. SameTerms (below_call k at) now next b (call_frame f k) t (terms (call_instance (instance d cs is) k)) q) (sym items) (imports k h)),
          )

  -- a mode is worth what its formula says
  pub modes_agreed : (i : Instance) → OwnFits i (IsKnown i) → (sh : IsShownBy i) → ImportsSame i →
      modes_agree (scene i b f) (IsKnown i) at now next t (modes_of IsKnown i at) sh
  modes_agreed i fits sh imports d n k o =
      let key : Key = (option_to_list d, n) in
      ap (λ ns. unwrap_or (lookup (mode_key key) ns) (flag false)) (values_are at now next b f t (contract_of i).modes)
      ∙ mode_worth at now next b f t key (terms i).modes (contract_of i).modes (terms_same i fits sh imports).modes (sym (keys_same key (terms i).modes) ∙ k) o

  -- the formulas of the assumptions are true where the assumptions are
  pub assumed_all : (i : Instance) → OwnFits i (IsKnown i) → IsShownBy i → ImportsSame i → b t ≡ true →
      list_all (λ z. truth_of now next z) (assumed i at)
      ≡ list_all (λ p. equals true (p.test b f t)) (terms i).assumes
  assumed_all i fits sh imports o =
      same_all at now next b f t (terms i).assumes (contract_of i).assumes (terms_same i fits sh imports).assumes o

  -- the truths of what modes ask
  abbrev asked_truths : List (ModeItem Written) → List Bool
  asked_truths qs = map (λ q. truth_of now next (q.asked at)) qs

  asked_are : (ms : List ModeTerms) (qs : List (ModeItem Written)) → SameModes at now next b f t ms qs → b t ≡ true →
      AreTruths t (map (λ m. m.requires_all b f) ms) (asked_truths qs)
  asked_are [] [] a o = tt
  asked_are [] (q ∷ qs) a o = absurd a
  asked_are (m ∷ ms) [] a o = absurd a
  asked_are (m ∷ ms) (q ∷ qs) a o = (a.0.asked o, asked_are ms qs a.1 o)

  -- that a mode is active
  pub some_mode : (ms : List ModeTerms) (qs : List (ModeItem Written)) → SameModes at now next b f t ms qs → b t ≡ true →
      some_true (map (λ m. m.requires_all b f) ms) t ≡ flag (truth_of now next (some_of (map (λ q. q.asked at) qs)))
  some_mode ms qs a o = sym (ap flag (some_of_true now next (map (λ q. q.asked at) qs) ∙ listed qs)
      ∙ some_flags t (map (λ m. m.requires_all b f) ms) (asked_truths qs) (asked_are ms qs a o))
    where
      listed : (qs : List (ModeItem Written)) → list_any (λ z. truth_of now next z) (map (λ q. q.asked at) qs) ≡ list_any identity (asked_truths qs)
      listed [] = refl
      listed (q ∷ qs) = ap (λ z. truth_of now next (q.asked at) || z) (listed qs)

-- ---- off the beat

module _ (b : Instants) (t : ℕ) where
  abbrev Off : ModeTerms → Type 0
  Off m = (f : Frame) → b t ≡ false → m.requires_all b f t ≡ absent

  off_beat : (o : Bool) (v : Value) → o ≡ false → cond o v absent ≡ absent
  off_beat true v e = absurd (false≢true (sym e))
  off_beat false v e = refl

  imported_off : (k : ℕ) (x : Name) (ms : List ModeTerms) → AllByRecursion Off ms → AllByRecursion Off (map (imported_mode k x) ms)
  imported_off k x [] a = tt
  imported_off k x (m ∷ ms) a = (λ f o. a.0 (call_frame f k) o, imported_off k x ms a.1)

  after_off : (i : Instance) (sub : ℕ → Terms) → ((k : ℕ) → AllByRecursion Off (sub k).modes) → (ms : List ModeTerms) (cs : List ContractStatement) →
      AllByRecursion Off ms → AllByRecursion Off (terms_after i sub ms cs).modes
  after_off i sub h ms [] a = a
  after_off i sub h ms (assume l ∷ cs) a = after_off i sub h ms cs a
  after_off i sub h ms (guarantee l ∷ cs) a = after_off i sub h ms cs a
  after_off i sub h ms (ghost_variable x e ∷ cs) a = after_off i sub h ms cs a
  after_off i sub h ms (constant c ∷ cs) a = after_off i sub h ms cs a
  after_off i sub h ms (mode m rs es ∷ cs) a =
      let one : ModeTerms = mode_terms i ms m.text rs es in
      after_off i sub h (ms ++ one ∷ []) cs
      (both_parts Off ms (one ∷ []) a (λ f. off_beat (b t) (all_true (map (λ r. says i ms r b f) rs) t), tt))
  after_off i sub h ms («import» k c as_ xs ∷ cs) a =
      let some : List ModeTerms = map (imported_mode k c.text) (sub k).modes in
      after_off i sub h (ms ++ some) cs (both_parts Off ms some a (imported_off k c.text (sub k).modes (h k)))

  mutual
    all_off : (i : Instance) → AllByRecursion Off (terms i).modes
    all_off (instance d cs is) =
        after_off (instance d cs is) (λ k. slice_index_or (terms_each is) (pred k) no_terms) (λ k. each_off is (pred k)) [] (contract_statements d) tt

    each_off : (is : Instances) (p : ℕ) → AllByRecursion Off (get_or (terms_each is) p no_terms).modes
    each_off no_instances p = tt
    each_off (with_instance c k is) zero = all_off k
    each_off (with_instance c k is) (suc p) = each_off is p

  found_off : (f : Frame) (key : Key) (ms : List ModeTerms) → AllByRecursion Off ms → b t ≡ false →
      head_stream (option_to_list (lookup (mode_key key) (mode_streams ms b f))) t ≡ absent
  found_off f key [] a o = refl
  found_off f key (m ∷ ms) a o = go (mode_key key m.key) (found_off f key ms a.1 o)
    where
      go : (c : Bool) → head_stream (option_to_list (lookup (mode_key key) (mode_streams ms b f))) t ≡ absent →
          head_stream (option_to_list (cond c (Some (m.requires_all b f)) (lookup (mode_key key) (mode_streams ms b f)))) t ≡ absent
      go true r = a.0 f o
      go false r = r

  -- a mode is absent
  pub modes_off : (i : Instance) (f : Frame) (d : Option Name) (n : Name) → b t ≡ false → mode_stream (scene i b f) d n t ≡ absent
  modes_off i f q n o = found_off f (option_to_list q, n) (terms i).modes (all_off i) o

-- ---- the next state

-- what a mode asks says nothing of the next state
module _ (now next next' : Values) where
  abbrev Timeless : (Place → ℕ) → ModeItem Written → Type 0
  Timeless at q = truth_of now next (q.asked at) ≡ truth_of now next' (q.asked at)

  abbrev AllTimeless : (Place → ℕ) → List (ModeItem Written) → Type 0
  AllTimeless at qs = AllByRecursion (Timeless at) qs

  module _ (i : Instance) (at : Place → ℕ) where
    in_same : (qs : List (ModeItem Written)) → AllTimeless at qs →
        modes_in now next (at_numbers at (known qs)) ≡ modes_in now next' (at_numbers at (known qs))
    in_same [] a = refl
    in_same (q ∷ qs) a =
        ap (λ z. (q.key, flag z) ∷ modes_in now next (at_numbers at (known qs))) a.0
        ∙ ap (λ l. (q.key, flag (truth_of now next' (q.asked at))) ∷ l) (in_same qs a.1)

    abbrev staged : List (ModeItem Written) → Stage
    staged qs = record { place = i; number = at; modes = at_numbers at (known qs) }

    abbrev still : Scene
    still = record { place = i; frame = empty_frame; beat = λ t. true; modes = [] }

    seen_formula : (nx : Values) (ks : List Key) (qs : List (ModeItem Written)) (l : Labelled) → FlagFits i ks l →
        flag (truth_of now nx (formula (staged qs) l.value))
        ≡ seen (record { place = i; row = row_of i at now; modes = modes_in now nx (at_numbers at (known qs)) }) l.value
    seen_formula nx ks qs l w =
        formula_worth now nx (term_of (staged qs) l.value) (has_as (sort_of i l.value) Flags (worth now nx (term_of (staged qs) l.value)) w.1
        (term_has still (IsAmong ks) at (at_numbers at (known qs)) now nx l.value base w.0))
        ∙ term_shown (staged qs) (IsAmong ks) (row_of i at now) (modes_in now nx (at_numbers at (known qs))) now nx
        (state_shown (staged qs) (IsAmong ks) now nx) l.value base w.0

    says_timeless : (ks : List Key) (qs : List (ModeItem Written)) → AllTimeless at qs → (l : Labelled) → FlagFits i ks l →
        truth_of now next (formula (staged qs) l.value) ≡ truth_of now next' (formula (staged qs) l.value)
    says_timeless ks qs a l w =
        flags_same (truth_of now next (formula (staged qs) l.value)) (truth_of now next' (formula (staged qs) l.value))
        (seen_formula next ks qs l w
        ∙ ap (λ ms. seen (record { place = i; row = row_of i at now; modes = ms }) l.value) (in_same qs a)
        ∙ sym (seen_formula next' ks qs l w))

    all_timeless : (ks : List Key) (qs : List (ModeItem Written)) → AllTimeless at qs → (rs : List Labelled) →
        AllByRecursion (FlagFits i ks) rs →
        list_all (λ z. truth_of now next z) (map (λ w. w at) (map (λ r. written.says i (known qs) r.value) rs))
        ≡ list_all (λ z. truth_of now next' z) (map (λ w. w at) (map (λ r. written.says i (known qs) r.value) rs))
    all_timeless ks qs a [] w = refl
    all_timeless ks qs a (r ∷ rs) w = rw (says_timeless ks qs a r w.0, all_timeless ks qs a rs w.1) refl

  through_timeless : (at : Place → ℕ) (k : ℕ) (x : Name) (qs : List (ModeItem Written)) → AllTimeless (below_call k at) qs →
      AllTimeless at (map (imported_item written k x) qs)
  through_timeless at k x [] a = tt
  through_timeless at k x (q ∷ qs) a = (a.0, through_timeless at k x qs a.1)

  after_timeless : (i : Instance) (at : Place → ℕ) (sub : ℕ → Items Written) → ((k : ℕ) → IsImport i k → AllTimeless (below_call k at) (sub k).modes) →
      (ks : List Key) (qs : List (ModeItem Written)) (cs : List ContractStatement) → StatementsFit i ks cs →
      AllTimeless at qs → AllTimeless at (items_after written i sub qs cs).modes
  after_timeless i at sub h ks qs [] w a = a
  after_timeless i at sub h ks qs (assume l ∷ cs) w a = after_timeless i at sub h (ks ++ []) qs cs w.1 a
  after_timeless i at sub h ks qs (guarantee l ∷ cs) w a = after_timeless i at sub h (ks ++ []) qs cs w.1 a
  after_timeless i at sub h ks qs (ghost_variable x e ∷ cs) w a = after_timeless i at sub h (ks ++ []) qs cs w.1 a
  after_timeless i at sub h ks qs (constant c ∷ cs) w a = after_timeless i at sub h (ks ++ []) qs cs w.1 a
  after_timeless i at sub h ks qs (mode m rs es ∷ cs) w a =
      let one : ModeItem Written = mode_item written i (known qs) m.text rs es in
      let fs : List Formula = map (λ w. w at) (map (λ r. written.says i (known qs) r.value) rs) in
      after_timeless i at sub h (ks ++ ([], m.text) ∷ []) (qs ++ one ∷ []) cs w.1
      (both_parts (Timeless at) qs (one ∷ []) a (all_of_true now next fs ∙ all_timeless i at ks qs a rs w.0.0 ∙ sym (all_of_true now next' fs), tt))
  after_timeless i at sub h ks qs («import» k c as_ xs ∷ cs) w a =
      let some : List (ModeItem Written) = map (imported_item written k c.text) (sub k).modes in
      after_timeless i at sub h (ks ++ own_keys i («import» k c as_ xs)) (qs ++ some) cs w.1
      (both_parts (Timeless at) qs some a (through_timeless at k c.text (sub k).modes (h k w.0)))

  mutual
    contract_timeless : (i : Instance) → TreeFits IsKnown i → (at : Place → ℕ) → AllTimeless at (contract_of i).modes
    contract_timeless (instance d cs is) fits at =
        after_timeless (instance d cs is) at (λ k. slice_index_or (items_each written is) (pred k) no_items)
        (λ k h. each_timeless (instance d cs is) is 0 fits.1 (pred k) (below_call k at)) [] [] (contract_statements d) fits.0.contract tt

    each_timeless : (i : Instance) (is : Instances) (q : ℕ) → CallsFit IsKnown i is q → (p : ℕ) (at : Place → ℕ) →
        AllTimeless at (get_or (items_each written is) p no_items).modes
    each_timeless i no_instances q fits p at = tt
    each_timeless i (with_instance c k is) q fits zero at = contract_timeless k fits.1 at
    each_timeless i (with_instance c k is) q fits (suc p) at = each_timeless i is (suc q) fits.2 p at

pub modes_timeless : (i : Instance) → TreeFits IsKnown i → (at : Place → ℕ) (now next next' : Values) →
    modes_in now next (modes_of IsKnown i at) ≡ modes_in now next' (modes_of IsKnown i at)
modes_timeless i fits at now next next' = in_same now next next' i at (contract_of i).modes (contract_timeless now next next' i fits at)

-- what the flag of the assumptions becomes
abbrev pub so_far_then : Instance → (Place → ℕ) → Formula
so_far_then i at = both (flag_at (stage i at) (own so_far)) (negation (both (flag_at (stage i at) (own beat))
    (negation (all_of (assumed i at)))))

pub kept_on : (k o z l : Bool) → (o ≡ true → z ≡ l) → (k && not (o && not z)) ≡ (k && (not o || l))
kept_on k true true l h = rw (sym (h refl)) refl
kept_on k true false l h = rw (sym (h refl)) refl
kept_on k false z l h = refl
