-- A name that is known at a place of a declaration is, in the scope of that place, what it is in the instance.
use Rattle.std.proofs.Common.{◌≡◌, ℕ, Bool, true, false, cond, List, [], ◌∷◌, ◌++◌, map, length, Option, Some, None, refl, sym, ap, ◌∙◌, subst}
use Rattle.std.specs.Prelude.{Contains, find, option_map, option_and_then, unwrap_or}
use Rattle.std.specs.Str.{bytes_eq}
use Rattle.std.proofs.lemmas.Bool.{false≢true}
use Rattle.lus_tree.specs.Tree.{Name, ContractStatement, Component, Program}
use Rattle.lus_meaning.specs.Scene.{Scene}
use Rattle.lus_meaning.specs.Program.{contract_statement_constants, instance_of}
use Rattle.lus_meaning.specs.Run.{sort_of_name, is_typed}
use Rattle.lus_meaning.specs.Scope.{Entry, is_constant_role, Scope, entry_of, is_known, sort_of_entry, left_after, known_after, first_constants, hide_local, own_names, outer_names, contract_statement_scope, constant_scope}
use Rattle.lus_meaning.specs.NameFaults.{home}
use Rattle.lus_meaning.specs.Refusals.{IsTyped}
use Rattle.lus_meaning.proofs.RulesFit.{KnownName, fixed_name, stream_name}
use Rattle.rule_laws.specs.Laws.{placed, table, Agrees}
use Rattle.rule_laws.proofs.Constants.{is_word}
use Rattle.rule_laws.proofs.Tables.{typed_tables}

-- two finds that differ at most in what is known
pub record SameFound (a b : Option Entry) : Type 0 where
  pub role : option_map (λ e. e.role) a ≡ option_map (λ e. e.role) b
  pub sort : option_and_then (λ e. e.sort) a ≡ option_and_then (λ e. e.sort) b

same_first : (x : Name) (j : ℕ) (es tail : List Entry) → SameFound (find (is_word x) (first_constants j es ++ tail)) (find (is_word x) (es ++ tail))
same_first x j [] tail = record { role = refl; sort = refl }
same_first x j (e ∷ es) tail = go (bytes_eq x e.word.text) (same_first x (left_after j e) es tail)
  where
    go : (c : Bool) → SameFound (find (is_word x) (first_constants (left_after j e) es ++ tail)) (find (is_word x) (es ++ tail)) →
        SameFound (cond c (Some (known_after j e)) (find (is_word x) (first_constants (left_after j e) es ++ tail)))
        (cond c (Some e) (find (is_word x) (es ++ tail)))
    go true r = record { role = refl; sort = refl }
    go false r = r

same_hidden : (x : Name) (es : List Entry) → SameFound (find (is_word x) (map hide_local es)) (find (is_word x) es)
same_hidden x [] = record { role = refl; sort = refl }
same_hidden x (e ∷ es) = go (bytes_eq x e.word.text) (same_hidden x es)
  where
    go : (c : Bool) → SameFound (find (is_word x) (map hide_local es)) (find (is_word x) es) → SameFound
        (cond c (Some (hide_local e)) (find (is_word x) (map hide_local es))) (cond c (Some e) (find (is_word x) es))
    go true r = record { role = refl; sort = refl }
    go false r = r

-- a scope that shows a table, whatever of it is known
abbrev pub Shows : Program → ℕ × Component → Scope → Type 0
Shows p h sc = (x : Name) → SameFound (entry_of sc x) (find (is_word x) (table p h))

pub constant_shows : (p : Program) (h : ℕ × Component) (k : ℕ) → Shows p h (constant_scope (home p h.0 h.1) k)
constant_shows p h k x = same_first x _ (own_names (home p h.0 h.1)) (outer_names p h.0)

pub contract_statement_shows : (p : Program) (h : ℕ × Component) (cs : List ContractStatement) → Shows p h (contract_statement_scope (home p h.0 h.1) cs)
contract_statement_shows p h cs x =
    let j : ℕ = length (contract_statement_constants cs) in
    let a : SameFound (entry_of (contract_statement_scope (home p h.0 h.1) cs) x)
    (find (is_word x) (first_constants j (own_names (home p h.0 h.1)) ++ outer_names p h.0)) = same_hidden x
    (first_constants j (own_names (home p h.0 h.1)) ++ outer_names p h.0) in
    let b : SameFound (find (is_word x) (first_constants j (own_names (home p h.0 h.1)) ++ outer_names p h.0))
    (find (is_word x) (table p h)) = same_first x j (own_names (home p h.0 h.1)) (outer_names p h.0) in
    record { role = a.role ∙ b.role; sort = a.sort ∙ b.sort }

abbrev is_some : {A : Type 0} → Option A → Bool
is_some None = false
is_some (Some a) = true

-- what is known is there
record Known (a b : Option Entry) : Type 0 where
  entry : Entry
  is : b ≡ Some entry
  role : option_map (λ e. is_constant_role e.role) a ≡ Some (is_constant_role entry.role)

known_entry : (a b : Option Entry) → SameFound a b → unwrap_or (option_map (λ e. e.known) a) false ≡ true → Known a b
known_entry None b s k = absurd (false≢true k)
known_entry (Some d) None s k = absurd (false≢true (sym (ap is_some s.role)))
known_entry (Some d) (Some e) s k = record { entry = e; is = refl; role = ap (option_map is_constant_role) s.role }

-- so it has there the type of the instance, and is a constant of that type or a stream with a clock
pub agrees : (p : Program) → IsTyped p → (h : ℕ × Component) → Contains (placed 0 p) h → (sc : Scope) → Shows p h sc → (s : Scene)
    → s.place ≡ instance_of p h.1 → (x : Name) → is_known sc x ≡ true →
    (sort_of_entry sc x ≡ Some (sort_of_name s.place x)) × KnownName sc s x
agrees p t h i sc shows s place x k =
    let q : Known (entry_of sc x) (find (is_word x) (table p h)) = known_entry (entry_of sc x) (find (is_word x) (table p h)) (shows x) k in
    let a : Agrees s.place x q.entry = subst (λ j. Agrees j x q.entry) (sym place) (typed_tables p t h i x q.entry q.is) in
    let sort : sort_of_entry sc x ≡ Some (sort_of_name s.place x) = (shows x).sort ∙ ap (option_and_then (λ e. e.sort)) q.is ∙ a.sort in
    (sort, go (is_constant_role q.entry.role) q refl a)
  where
    go : (c : Bool) (q : Known (entry_of sc x) (find (is_word x) (table p h))) → is_constant_role q.entry.role ≡ c → Agrees s.place x q.entry → KnownName sc s x
    go true q r a = fixed_name q.entry.value
        (a.constant ∙ ap (λ (b : Bool). cond b (Some q.entry.value) None) r)
        (subst (λ b. is_typed (sort_of_name s.place x) b q.entry.value ≡ true) r a.typed)
        (ap (λ o. unwrap_or o false) q.role ∙ r)
    go false q r a = stream_name
        (a.constant ∙ ap (λ (b : Bool). cond b (Some q.entry.value) None) r)
        (a.stream ∙ ap (λ (b : Bool). cond b None (Some q.entry.clock)) r ∙ ap (λ c. Some c) a.clock)
