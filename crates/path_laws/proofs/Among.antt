-- What a contract says names no modes but those that stand before it.
use Rattle.std.proofs.Common.{map, ◌∙◌, ◌≡◌, ℕ, Bool, true, false, ◌&&◌, ◌||◌, List, [], ◌∷◌, ◌++◌, flat_map, Option, Some, None, option_map, option_to_list, refl, sym, ap, subst}
use Rattle.std.specs.Prelude.{filter}
use Rattle.std.specs.List.{AllByRecursion, list_any}
use Rattle.std.specs.Str.{bytes_eq}
use Rattle.std.proofs.lemmas.Bool.{false≢true}
use Rattle.lus_tree.specs.Tree.{Name, text_of, Spelled, Component, Expression, Expressions, truth, number, name, negation, minus, pre, arrow, binary, choice, sampled, merged, call, condact, mode_name, Labelled, ContractStatement, assume, guarantee, ghost_variable, constant, mode, «import», Program}
use Rattle.lus_tree.specs.Reason.{mode_unknown}
use Rattle.lus_meaning.specs.Scene.{Site, call_instance, contract_statements, Clock, base, sampled_by, Instance, component_of, clock_of}
use Rattle.lus_meaning.specs.Meaning.{same_path, mode_key}
use Rattle.lus_meaning.specs.Occurrences.{Standing, on_clock, within, before, moved, Occurrence, occurrences}
use Rattle.lus_meaning.specs.Depends.{named_in}
use Rattle.lus_meaning.specs.Scope.{Scope, contract_named, mode_names, import_names, contract_statement_scope}
use Rattle.lus_meaning.specs.ExpressionFaults.{has_one, has_mode, mode_is_known, form_faults, weight_faults, part_faults, expression_faults}
use Rattle.lus_meaning.specs.NameFaults.{home}
use Rattle.lus_meaning.proofs.EachPart.{Each, each_part, each_of_both}
use Rattle.lus_meaning.proofs.NamesOnce.{no_parts, not_so}
use Rattle.lus_meaning.proofs.RulesFit.{none_mapped}
use Rattle.rule_laws.proofs.Truths.{not_false, both_true}
use Rattle.sys_meaning.specs.Items.{Key}
use Rattle.sys_meaning.specs.WellTyped.{IsAmong, own_keys, IsNameOn, IsCall, IsPlainCall, IsHeldCall, Stands}
use Rattle.lus_meaning.specs.Contract.{ModeTerms, terms}
use Rattle.lus_meaning.specs.Program.{import_site}
use Rattle.rule_laws.proofs.Covered.{Covers}
use Rattle.rule_laws.proofs.Goods.{some_named}
use Rattle.lus_meaning.proofs.Unique.{same_bytes}
use Rattle.lus_meaning.proofs.Lists.{or_true}

-- ---- keys

-- the keys of the modes of a contract, those of its imports too
abbrev pub keys_of : Instance → List ContractStatement → List Key
keys_of i cs = flat_map (own_keys i) cs

among_left : (key : Key) (ks js : List Key) → IsAmong ks key → IsAmong (ks ++ js) key
among_left key [] js h = absurd (false≢true h)
among_left key (k ∷ ks) js h = go (mode_key key k) h (among_left key ks js)
  where
    go : (c : Bool) → (c || list_any (mode_key key) ks) ≡ true → (list_any (mode_key key) ks ≡ true → list_any (mode_key key) (ks ++ js) ≡ true) →
        (c || list_any (mode_key key) (ks ++ js)) ≡ true
    go true q r = refl
    go false q r = r q

among_right : (key : Key) (ks js : List Key) → IsAmong js key → IsAmong (ks ++ js) key
among_right key [] js h = h
among_right key (k ∷ ks) js h = or_true (mode_key key k) (list_any (mode_key key) (ks ++ js)) (among_right key ks js h)

own_among : (i : Instance) (x : Name) (cs : List ContractStatement) → named_in x (mode_names cs) ≡ true → IsAmong (keys_of i cs) ([], x)
own_among i x [] h = absurd (false≢true h)
own_among i x (assume l ∷ cs) h = own_among i x cs h
own_among i x (guarantee l ∷ cs) h = own_among i x cs h
own_among i x (ghost_variable v e ∷ cs) h = own_among i x cs h
own_among i x (constant c ∷ cs) h = own_among i x cs h
own_among i x (mode m rs es ∷ cs) h = go (bytes_eq x m.text) h (own_among i x cs)
  where
    go : (c : Bool) → (c || named_in x (mode_names cs)) ≡ true →
        (named_in x (mode_names cs) ≡ true → list_any (mode_key ([], x)) (keys_of i cs) ≡ true) →
        (c || list_any (mode_key ([], x)) (keys_of i cs)) ≡ true
    go true k r = refl
    go false k r = r k
own_among i x («import» k c as_ xs ∷ cs) h = among_right ([], x) (own_keys i («import» k c as_ xs)) (keys_of i cs) (own_among i x cs h)

-- a mode of an imported contract, by way of this contract
through_among : (c d m : Name) (ms : List ModeTerms) → bytes_eq c d ≡ true → list_any (λ (t : ModeTerms). mode_key ([], m) t.key) ms ≡ true →
    IsAmong (map (λ (t : ModeTerms). (d ∷ t.key.0, t.key.1)) ms) (c ∷ [], m)
through_among c d m [] e h = absurd (false≢true h)
through_among c d m (t ∷ ms) e h =
    subst (λ z. ((z && same_path [] t.key.0 && bytes_eq m t.key.1)
    || list_any (mode_key (c ∷ [], m)) (map (λ (t : ModeTerms). (d ∷ t.key.0, t.key.1)) ms)) ≡ true) (sym e)
    (go (mode_key ([], m) t.key) h (through_among c d m ms e))
  where
    go : (z : Bool) → (z || list_any (λ (t : ModeTerms). mode_key ([], m) t.key) ms) ≡ true →
        (list_any (λ (t : ModeTerms). mode_key ([], m) t.key) ms ≡ true → IsAmong (map (λ (t : ModeTerms). (d ∷ t.key.0, t.key.1)) ms) (c ∷ [], m)) →
        (z || list_any (mode_key (c ∷ [], m)) (map (λ (t : ModeTerms). (d ∷ t.key.0, t.key.1)) ms)) ≡ true
    go true q r = refl
    go false q r = r q

-- ---- names of modes

-- a mode that is named goes by one of these keys
abbrev pub NamesAmong : List Key → Expression → Type 0
NamesAmong ks (mode_name p d m) = IsAmong ks (option_to_list (option_map text_of d), m.text)
NamesAmong ks _ = Unit {0}

-- an import's contract is found by its name, and its modes are among its terms
abbrev pub IsImported : Program → Instance → Site → Type 0
IsImported p i s = (contract_named p s.callee ≡ Some (component_of (call_instance i s.number)))
    × Covers p (contract_statements (component_of (call_instance i s.number))) (terms (call_instance i s.number)).modes

module _ (p : Program) (k : ℕ) (n : Component) (i : Instance) (bs : List ContractStatement)
    (imports : AllByRecursion (IsImported p i) (flat_map import_site bs)) where
  abbrev scope : Scope
  scope = contract_statement_scope (home p k n) bs

  imported_among : (c m : Name) (cs : List ContractStatement) → AllByRecursion (IsImported p i) (flat_map import_site cs) →
      named_in c (import_names cs) ≡ true → has_mode m (contract_named p c) ≡ true → IsAmong (keys_of i cs) (c ∷ [], m)
  imported_among c m [] a h e = absurd (false≢true h)
  imported_among c m (assume l ∷ cs) a h e = imported_among c m cs a h e
  imported_among c m (guarantee l ∷ cs) a h e = imported_among c m cs a h e
  imported_among c m (ghost_variable v x ∷ cs) a h e = imported_among c m cs a h e
  imported_among c m (constant x ∷ cs) a h e = imported_among c m cs a h e
  imported_among c m (mode x rs es ∷ cs) a h e =
      among_right (c ∷ [], m) (([], x.text) ∷ []) (keys_of i cs) (imported_among c m cs a h e)
  imported_among c m («import» l d as_ xs ∷ cs) a h e = go (bytes_eq c d.text) refl h (λ r. imported_among c m cs a.1 r e)
    where
      there : bytes_eq c d.text ≡ true → named_in m (mode_names (contract_statements (component_of (call_instance i l)))) ≡ true
      there q = subst (λ o. has_mode m o ≡ true) (ap (contract_named p) (same_bytes c d.text q) ∙ a.0.0) e

      go : (z : Bool) → bytes_eq c d.text ≡ z → (z || named_in c (import_names cs)) ≡ true →
          (named_in c (import_names cs) ≡ true → IsAmong (keys_of i cs) (c ∷ [], m)) →
          IsAmong (own_keys i («import» l d as_ xs) ++ keys_of i cs) (c ∷ [], m)
      go true q r s = among_left (c ∷ [], m) (own_keys i («import» l d as_ xs)) (keys_of i cs)
          (through_among c d.text m (terms (call_instance i l)).modes q (a.0.1.own m (there q)))
      go false q r s = among_right (c ∷ [], m) (own_keys i («import» l d as_ xs)) (keys_of i cs) (s r)

  known_among : (d : Option Spelled) (m : Spelled) → mode_is_known scope d m ≡ true → IsAmong (keys_of i bs) (option_to_list (option_map text_of d), m.text)
  known_among None m h = own_among i m.text bs h
  known_among (Some c) m h =
      let q = both_true (has_one (filter (bytes_eq c.text) (import_names bs))) (has_mode m.text (contract_named p c.text)) h in
      imported_among c.text m.text bs imports (some_named c.text (import_names bs) q.0) q.1

  named_among : (t : Standing) (e : Expression) → form_faults scope t.whole_side e ≡ [] → NamesAmong (keys_of i bs) e
  named_among t (mode_name q d m) f = known_among d m (not_false (mode_is_known scope d m) (not_so _ mode_unknown m.at f))
  named_among t (truth q b) f = tt
  named_among t (number q b) f = tt
  named_among t (name q x) f = tt
  named_among t (negation q a) f = tt
  named_among t (minus q a) f = tt
  named_among t (pre q l a) f = tt
  named_among t (arrow q l a b) f = tt
  named_among t (binary q o a b) f = tt
  named_among t (choice q a b d) f = tt
  named_among t (sampled q a b x) f = tt
  named_among t (merged q x a b) f = tt
  named_among t (call q l f as_) g = tt
  named_among t (condact q l a f as_ ds) g = tt

  abbrev NoFault : Occurrence → Type 0
  NoFault o = part_faults scope o ≡ []

  pub all_among : (e : Expression) → expression_faults scope (on_clock base) e ≡ [] →
      Each (λ o. NamesAmong (keys_of i bs) o.expression) n (on_clock base) e
  all_among e f =
      let each : Each NoFault n (on_clock base) e = each_part NoFault n (on_clock base) e (none_mapped (part_faults scope) (occurrences n (on_clock base) e) f) in
      each_of_both NoFault NoFault (λ o. NamesAmong (keys_of i bs) o.expression)
      (λ o a b. named_among o.standing o.expression (no_parts (form_faults scope o.standing.whole_side o.expression) (weight_faults scope o.expression) a).0)
      n (on_clock base) e each each

-- ---- texts

-- a text that names modes of these keys alone
module _ (i : Instance) (M : Key → Type 0) (ks : List Key) where
  abbrev N : Key → Type 0
  N = IsAmong ks

  abbrev AmongThere : Occurrence → Type 0
  AmongThere o = NamesAmong ks o.expression

  as_name : (c : Clock) (x : Name) → IsNameOn i M c x → IsNameOn i N c x
  as_name c x h = record { stream = h.stream; declared = h.declared; clock = h.clock }

  as_call : (k : ℕ) → IsCall i M k → IsCall i N k
  as_call k h = record { number = h.number; counted = h.counted; listed = h.listed; named = h.named }

  as_plain : (k : ℕ) (c : Clock) → IsPlainCall i M k c → IsPlainCall i N k c
  as_plain k c h = record { call = as_call k h.call; outputs = h.outputs; clock = h.clock; manner = h.manner }

  as_held : (k : ℕ) (c : Clock) (a : Expression) (ds : Expressions) → IsHeldCall i M k c a ds → IsHeldCall i N k c a ds
  as_held k c a ds h = record { call = as_call k h.call; outputs = h.outputs; clock = h.clock; manner = h.manner; defaults = h.defaults }

  pub stands_among : (e : Expression) (t : Standing) → Each AmongThere (component_of i) t e → Stands i M t.clock e → Stands i (IsAmong ks) t.clock e
  stands_among (truth p b) t a h = h
  stands_among (number p n) t a h = h
  stands_among (name p x) t a h = h
  stands_among (negation p e) t a h = (h.0, stands_among e (within t) a.1 h.1)
  stands_among (minus p e) t a h = (h.0, stands_among e (within t) a.1 h.1)
  stands_among (pre p k e) t a h = (h.0, stands_among e (before t) a.1 h.1)
  stands_among (arrow p k d e) t a h = (h.0, h.1, stands_among d (within t) a.1 h.2, stands_among e (within t) a.2 h.3)
  stands_among (binary p o d e) t a h = (h.0, h.1, h.2, stands_among d (within t) a.1 h.3, stands_among e (within t) a.2 h.4)
  stands_among (choice p b d e) t a h =
      (h.0, h.1, stands_among b (within t) a.1 h.2, stands_among d (within t) a.2 h.3, stands_among e (within t) a.3 h.4)
  stands_among (sampled p e q x) t a h =
      (h.0, as_name (clock_of (component_of i) x.text) x.text h.1, stands_among e (moved (clock_of (component_of i) x.text) t) a.1 h.2)
  stands_among (merged p x d e) t a h = (
    as_name t.clock x.text h.0,
    h.1,
    h.2,
    stands_among d (moved (sampled_by true x.text) t) a.1 h.3,
    stands_among e (moved (sampled_by false x.text) t) a.2 h.4,
  )
  stands_among (call p k f as_) t a h = (as_plain k t.clock h.0, h.1)
  stands_among (condact p k b f as_ ds) t a h = (as_held k t.clock b ds h.0, h.1, stands_among b (within t) a.1 h.2, h.3)
  stands_among (mode_name p d m) t a h = (h.0, a)
