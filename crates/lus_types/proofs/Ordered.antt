-- The first constants of a list, where each name knows how many constants stand before it.
use Rattle.std.proofs.Common.{◌≡◌, Some, ℕ, suc, ◌+◌, ◌-◌, Bool, true, false, cond, ◌&&◌, List, [], ◌∷◌, ◌++◌, map, length, refl, ap, sym, ◌∙◌, arith, ◌<◌, ◌≤◌, drop, get_or, subst}
use Rattle.std.specs.Prelude.{nat_lt, pred}
use Rattle.std.proofs.lemmas.Bool.Decides.{nat_tests}
use Rattle.std.proofs.lemmas.List.{map-append, length-map}
use Rattle.lus_tree.specs.View.{definition_view, program_view}
use Rattle.lus_meaning.specs.Scope.{Entry, Scope, own_names, entries_from, entry_for, names_only, first_constants, known_after, left_after, hide_local}
use Rattle.lus_scopes.specs.declared.scope.Role.TheVariants.{Input, Output, Local, Ghost}
use Rattle.lus_scopes.specs.declared.scope.Meaning.{Meaning}
use Rattle.lus_scopes.specs.declared.scope.Meaning.TheVariants.{Stream, Constant}
use Rattle.lus_scopes.specs.declared.scope.Extent.{Extent}
use Rattle.lus_scopes.specs.declared.scope.Extent.TheVariants.{All, First}
use Rattle.lus_scopes.specs.declared.scope.Entry.{Entry as CodeEntry}
use Rattle.lus_types.specs.Entries.{AreOrdered, behind, behind_all}
use Rattle.lus_tree.specs.Tree.{Program}
use Rattle.lus_types.specs.declared.naming.Declared.{Declared as CodeDeclared}
use Rattle.lus_scopes.proofs.Loops.{dropped}
use Rattle.lus_scopes.specs.declared.layer.Layer.{Layer}
use Rattle.lus_types.specs.declared.home.Home.{Home}
use Rattle.lus_types.specs.declared.before.Before.{Before}
use Rattle.lus_types.specs.Before.{earlier_view, home_view, scope_at}
use Rattle.lus_scopes.specs.Scopes.{entry_view, layer_view, meaning_view, known_as, is_reached, owner_view, scope_view}
use Rattle.lus_types.specs.Homes.{declared_view}

-- ---- one more name

pub ordered_push : (j : ℕ) (es : List CodeEntry) (e : CodeEntry) → AreOrdered j es → e.order ≡ behind_all j es → AreOrdered j (es ++ e ∷ [])
ordered_push j [] e a i = (i, record {})
ordered_push j (d ∷ es) e a i = (a.0, ordered_push (behind d.meaning j) es e a.1 i)

pub behind_push : (j : ℕ) (es : List CodeEntry) (e : CodeEntry) → behind_all j (es ++ e ∷ []) ≡ behind e.meaning (behind_all j es)
behind_push j [] e = refl
behind_push j (d ∷ es) e = behind_push (behind d.meaning j) es e

-- ---- which may be used

reached_is : (k j : ℕ) → nat_lt 0 (k - j) ≡ nat_lt j k
reached_is k j = grind (arith, nat_tests)

known_first : (m : Meaning) (j k : ℕ) → known_after (k - j) (meaning_view m (known_as m false true)) ≡ meaning_view m (known_as m false (nat_lt j k))
known_first (Stream Input p) j k = refl
known_first (Stream Output p) j k = refl
known_first (Stream Local p) j k = refl
known_first (Stream Ghost p) j k = refl
known_first (Constant d q v) j k = ap (λ b. meaning_view (Constant d q v) b) (reached_is k j)

pred_less : (k j : ℕ) → pred (k - j) ≡ k - suc j
pred_less k j = omega arith

left_first : (m : Meaning) (j k : ℕ) → left_after (k - j) (meaning_view m (known_as m false true)) ≡ k - behind m j
left_first (Stream Input p) j k = refl
left_first (Stream Output p) j k = refl
left_first (Stream Local p) j k = refl
left_first (Stream Ghost p) j k = refl
left_first (Constant d q v) j k = pred_less k j

pub first_known : (k j : ℕ) (es : List CodeEntry) → AreOrdered j es
    → map (entry_view (First k) false) es ≡ first_constants (k - j) (map (entry_view All false) es)
first_known k j [] a = refl
first_known k j (e ∷ es) a = rw (a.0, known_first e.meaning j k, left_first e.meaning j k, first_known k (behind e.meaning j) es a.1) refl

minus_zero : (k : ℕ) → k - 0 ≡ k
minus_zero k = omega arith

pub all_first_known : (es : List CodeEntry) (fs : List Entry) (k : ℕ) → map (entry_view All false) es ≡ fs → AreOrdered 0 es
    → map (entry_view (First k) false) es ≡ first_constants k fs
all_first_known es fs k e a =
    first_known k 0 es a ∙ ap (λ n. first_constants n (map (entry_view All false) es)) (minus_zero k) ∙ ap (first_constants k) e

-- ---- hidden locals

and_true : (b : Bool) → (b && true) ≡ b
and_true true = refl
and_true false = refl

hidden_is : (m : Meaning) (b : Bool) → meaning_view m (known_as m true b) ≡ hide_local (meaning_view m (known_as m false b))
hidden_is (Stream Input p) b = refl
hidden_is (Stream Output p) b = refl
hidden_is (Stream Local p) b = refl
hidden_is (Stream Ghost p) b = refl
hidden_is (Constant d q v) b = ap (λ z. meaning_view (Constant d q v) z) (sym (and_true b))

pub all_hidden : (x : Extent) (es : List CodeEntry) → map (entry_view x true) es ≡ map hide_local (map (entry_view x false) es)
all_hidden x [] = refl
all_hidden x (e ∷ es) = rw (hidden_is e.meaning (is_reached x e.order), all_hidden x es) refl

-- ---- both lists

pub names_behind : (hidden : Bool) (k : ℕ) (x : Extent) (es os : List CodeEntry) (fs : List Entry) → map (entry_view (First k) false) es ≡ fs
    → map (entry_view (First k) hidden) es ++ map (entry_view x hidden) os
    ≡ cond hidden (map hide_local (fs ++ map (entry_view x false) os)) (fs ++ map (entry_view x false) os)
names_behind true k x es os fs i =
    rw (map-append hide_local fs (map (entry_view x false) os), all_hidden (First k) es, all_hidden x os, i) refl
names_behind false k x es os fs i = rw i refl

pub scope_is : (h : Home) (b : Before) (own : Layer) (hidden : Bool) (k : ℕ) (i j : ℕ × ℕ) → own.entries.now ≡ h.own.entries.now
    → own.extent ≡ First k → k ≡ length b.constants.items
    → scope_view record {
      declarations = h.declarations;
      owner = h.owner;
      own = own;
      outer = h.outer;
      hidden = hidden;
      modes = Some record { ref_ptr = i; now = b.modes };
      imports = Some record { ref_ptr = j; now = b.imports };
    } ≡ scope_at (home_view h) (earlier_view b) hidden
scope_is h b own hidden k i j f g e =
    let same : layer_view own hidden ≡ map (entry_view (First k) hidden) h.own.entries.now = rw (f, g) refl in
    ap (λ (names : List Entry). let z : Scope = record {
      program = program_view h.declarations.now;
      owner = owner_view h.owner;
      names = names;
      modes = b.modes;
      imports = b.imports;
    } in z)
    (ap (λ es. es ++ layer_view h.outer hidden) same ∙ names_behind hidden k h.outer.extent h.own.entries.now h.outer.entries.now
    (first_constants (length (map (λ d. definition_view d.now) b.constants.items)) (own_names (home_view h)))
    (h.named k ∙ ap (λ n. first_constants n (own_names (home_view h)))
    (e ∙ sym (length-map b.constants.items (λ d. definition_view d.now)))))

-- ---- all names of a list

pub layer_of : (l : Layer) (es : List CodeEntry) → l.entries.now ≡ es → l.extent ≡ All → layer_view l false ≡ map (entry_view All false) es
layer_of l es i j = rw (i, j) refl

-- ---- the next name of a list

known_all : (m : Meaning) → known_as m false true ≡ true
known_all (Stream r p) = refl
known_all (Constant d q v) = refl

behind_most : (m : Meaning) (j i : ℕ) → j ≤ i → behind m j ≤ i + 1
behind_most (Stream r p) j i l = omega arith
behind_most (Constant d q v) j i l = omega arith

pub entries_next : (p : Program) (outer : List Entry) (names : List CodeDeclared) (i : ℕ) (x : CodeDeclared) (es ds : List CodeEntry) (m : Meaning) (j k : ℕ)
    (all : List Entry) (s : Scope) → i < length names → x ≡ get_or names i x
    → ((entries_from p outer (map (entry_view All false) es) (map declared_view (drop i names)) ≡ all) × AreOrdered 0 es × (j ≡ behind_all 0 es) × (j ≤ i))
    → s ≡ names_only p (map (entry_view All false) es ++ outer) → meaning_view m true ≡ entry_for s (declared_view x)
    → ds ≡ es ++ record { meaning = m; order = j } ∷ [] → k ≡ behind m j
    → (entries_from p outer (map (entry_view All false) ds) (map declared_view (drop (i + 1) names)) ≡ all) × AreOrdered 0 ds × (k ≡ behind_all 0 ds)
    × (k ≤ i + 1)
entries_next p outer names i x es ds m j k all s l g a n v d b =
    let e : CodeEntry = record { meaning = m; order = j } in
    let is : entry_view All false e ≡ entry_for (names_only p (map (entry_view All false) es ++ outer)) (declared_view x) =
    ap (meaning_view m) (known_all m) ∙ v ∙ ap (λ z. entry_for z (declared_view x)) n in
    let w : entries_from p outer (map (entry_view All false) es) (map declared_view (x ∷ drop (i + 1) names)) ≡ all =
    subst (λ zs. entries_from p outer (map (entry_view All false) es) (map declared_view zs) ≡ all) (dropped names i x l g) a.0 in (
      ap (λ z. entries_from p outer z (map declared_view (drop (i + 1) names)))
          (ap (map (entry_view All false)) d ∙ map-append (entry_view All false) es (e ∷ []) ∙ ap (λ z. map (entry_view All false) es ++ z ∷ []) is) ∙ w,
      subst (AreOrdered 0) (sym d) (ordered_push 0 es e a.1 a.2),
      b ∙ ap (behind m) a.2 ∙ sym (behind_push 0 es e) ∙ ap (behind_all 0) (sym d),
      rw b (behind_most m j i a.3),
    )
