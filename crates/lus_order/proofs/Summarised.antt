-- What is known of a declaration is its summary.
use Rattle.std.proofs.Common.{◌≡◌, ◌↔◌, ℕ, ◌<◌, ◌+◌, Bool, true, false, cond, ◌||◌, List, [], ◌∷◌, ◌++◌, length, take, get_or, refl, ap, ◌∙◌, sym, subst, Some, None, option_to_list, unwrap_or, Bor}
use Rattle.std.specs.List.{list_any}
use Rattle.std.specs.Map.{lookup}
use Rattle.std.specs.Str.{bytes_eq}
use Rattle.std.proofs.Math.Logic.{◌⊎◌, inl, inr}
use Rattle.std.proofs.lemmas.Bool.{false≢true}
use Rattle.std.proofs.lemmas.List.{map-append}
use Rattle.std.proofs.lemmas.List.Folds.{list_any-append}
use Rattle.lus_tree.specs.Tree.{Name, Variable, Component, ContractStatement, assume, guarantee, ghost_variable, constant, mode, «import»}
use Rattle.lus_meaning.specs.Depends.{named_in}
use Rattle.lus_meaning.specs.Meaning.{mode_key}
use Rattle.lus_meaning.specs.Scene.{contract_statements, ghosts, variables}
use Rattle.lus_meaning.specs.Scope.{mode_names}
use Rattle.lus_meaning.specs.WellMade.{AreDistinct}
use Rattle.name_table.specs.Names.{number_of}
use Rattle.name_table.proofs.Names.{in_joined}
use Rattle.way_laws.specs.OwnGraph.{Summaries, Finds, known_reads, mode_reads, own_edges}
use Rattle.way_laws.specs.Summaries.{HoldsOf, HasMode, IsSummary}
use Rattle.lus_order.specs.declared.library.Known.{Known}
use Rattle.lus_order.specs.declared.library.KnownMode.{KnownMode}
use Rattle.lus_order.specs.declared.rows.Mode.{Mode}
use Rattle.lus_order.specs.declared.setting.Clocks.{Clocks}
use Rattle.lus_order.specs.declared.setting.Callees.{Callees}
use Rattle.number_graphs.specs.Graphs.{Rows}
use Rattle.lus_order.specs.KnownModes.{AreKnown, IsKnown, KnownAreSummaries}
use Rattle.lus_order.specs.Library.{known_modes, known_view, texts_seen}
use Rattle.lus_order.specs.MarkedNames.{AreFound, RowLeadsTo}
use Rattle.lus_order.specs.OwnNodes.{AreNodes, own_modes}
use Rattle.lus_order.specs.OwnReads.{AreFlagsOf}
use Rattle.lus_order.specs.OwnRows.{numbers_of}
use Rattle.lus_order.specs.Reads.{callees_view, text_seen}
use Rattle.lus_order.specs.Rows.{ModeRows, mode_view, modes_view, known_row, mode_rows_after, asked_row, imported_rows}
use Rattle.number_graphs.specs.Visits.{once}
use Rattle.lus_order.specs.Stands.{Stands}
use Rattle.lus_order.specs.Streams.{AreTabled, names_of}
use Rattle.lus_order.proofs.Declared.{given_number}
use Rattle.lus_order.proofs.FoundNodes.{rows_find}
use Rattle.lus_order.proofs.ModeRows.{known_stands, modes_stand}
use Rattle.number_graphs.proofs.Searches.{or_cases, or_right}
use Rattle.lus_order.proofs.Stands.{names_stand, or_left}
use Rattle.lus_order.proofs.Turns.{one_more}

-- ---- mode by mode

module _ (rows : Rows) (names given : List Name) where
  one_known : (ms : ModeRows) (ks : List (Name × List Name)) (m : Name) (row : List ℕ) (k : Name × List Name) → AreKnown rows names given ms ks
      → k.0 ≡ m → AreFound rows names row given k.1 → AreKnown rows names given (ms ++ (([], m), row) ∷ []) (ks ++ k ∷ [])
  one_known [] [] m row k a e f = (e, f, tt)
  one_known [] (j ∷ ks) m row k a e f = absurd a
  one_known ((([], p), q) ∷ ms) [] m row k a e f = absurd a
  one_known ((([], p), q) ∷ ms) (j ∷ ks) m row k a e f = (a.0, a.1, one_known ms ks m row k a.2 e f)
  one_known (((c ∷ cs, p), q) ∷ ms) ks m row k a e f = one_known ms ks m row k a e f

  other_known : (ms : ModeRows) (ks : List (Name × List Name)) (c : Name) (m : Name) (row : List ℕ) → AreKnown rows names given ms ks
      → AreKnown rows names given (ms ++ ((c ∷ [], m), row) ∷ []) ks
  other_known [] [] c m row a = tt
  other_known [] (j ∷ ks) c m row a = absurd a
  other_known ((([], p), q) ∷ ms) [] c m row a = absurd a
  other_known ((([], p), q) ∷ ms) (j ∷ ks) c m row a = (a.0, a.1, other_known ms ks c m row a.2)
  other_known (((d ∷ ds, p), q) ∷ ms) ks c m row a = other_known ms ks c m row a

  -- the first of a name
  record Lists (ms : ModeRows) (ks : List (Name × List Name)) (m : Name) : Type 0 where
    list : List Name
    is : lookup (bytes_eq m) ks ≡ Some list
    found : AreFound rows names (known_row ms ([], m)) given list

  abbrev has_own : Name → ModeRows → Bool
  has_own m ms = list_any (λ r. mode_key ([], m) r.0) ms

  known_list : (ms : ModeRows) (ks : List (Name × List Name)) (m : Name) → AreKnown rows names given ms ks → has_own m ms ≡ true → Lists ms ks m
  known_list [] ks m a e = absurd (false≢true e)
  known_list ((([], p), q) ∷ ms) [] m a e = absurd a
  known_list ((([], p), q) ∷ ms) (j ∷ ks) m a e = go (bytes_eq m p) refl e (known_list ms ks m a.2)
    where
      go : (b : Bool) → bytes_eq m p ≡ b → (b || has_own m ms) ≡ true → (has_own m ms ≡ true → Lists ms ks m) → Lists ((([], p), q) ∷ ms) (j ∷ ks) m
      go true t h r = record {
        list = j.1;
        is = ap (λ z. cond (bytes_eq m z) (Some j.1) (lookup (bytes_eq m) ks)) a.0 ∙ ap (λ b. cond b (Some j.1) (lookup (bytes_eq m) ks)) t;
        found = subst (λ b. AreFound rows names (unwrap_or (cond b (Some q) (lookup (mode_key ([], m)) ms)) []) given j.1) (sym t) a.1;
      }
      go false t h r = let l : Lists ms ks m = r h in record {
        list = l.list;
        is = ap (λ z. cond (bytes_eq m z) (Some j.1) (lookup (bytes_eq m) ks)) a.0
            ∙ (ap (λ b. cond b (Some j.1) (lookup (bytes_eq m) ks)) t ∙ l.is);
        found = subst (λ b. AreFound rows names (unwrap_or (cond b (Some q) (lookup (mode_key ([], m)) ms)) []) given l.list) (sym t) l.found;
      }
  known_list (((c ∷ cs, p), q) ∷ ms) ks m a e = let l : Lists ms ks m = known_list ms ks m a e in record { list = l.list; is = l.is; found = l.found }

-- as the code goes
pub known_more : (rows : Rows) (names given : List Name) (ms : ModeRows) (old new : List KnownMode) (k : KnownMode) (m : Mode)
    → AreKnown rows names given ms (known_modes old) → m.contract ≡ None → new ≡ old ++ k ∷ [] → k.name.now ≡ m.name.now
    → AreFound rows names m.row.items given k.reads → AreKnown rows names given (ms ++ mode_view m ∷ []) (known_modes new)
known_more rows names given ms old new k m a c n e f =
    subst (λ z. AreKnown rows names given (ms ++ ((option_to_list (text_seen z), m.name.now), m.row.items) ∷ []) (known_modes new)) (sym c)
    (subst (AreKnown rows names given (ms ++ (([], m.name.now), m.row.items) ∷ [])) (sym (ap known_modes n ∙ joined old k))
    (one_known rows names given ms (known_modes old) m.name.now m.row.items (k.name.now, k.reads) a e f))
  where
    joined : (ks : List KnownMode) (k : KnownMode) → known_modes (ks ++ k ∷ []) ≡ known_modes ks ++ (k.name.now, k.reads) ∷ []
    joined [] k = refl
    joined (j ∷ ks) k = ap (λ z. (j.name.now, j.reads) ∷ z) (joined ks k)

pub known_skip : (rows : Rows) (names given : List Name) (ms : ModeRows) (ks : List KnownMode) (m : Mode) (x : Bor Name)
    → AreKnown rows names given ms (known_modes ks) → m.contract ≡ Some x → AreKnown rows names given (ms ++ mode_view m ∷ []) (known_modes ks)
known_skip rows names given ms ks m x a c =
    subst (λ z. AreKnown rows names given (ms ++ ((option_to_list (text_seen z), m.name.now), m.row.items) ∷ []) (known_modes ks)) (sym c)
    (other_known rows names given ms (known_modes ks) x.now m.name.now m.row.items a)

-- ---- each mode of the contract has a row

abbrev owns : Name → ModeRows → Bool
owns m ms = list_any (λ r. mode_key ([], m) r.0) ms

module _ (s : Clocks) (t : Callees) (g : Summaries) (m : Name) where
  abbrev with_mode : ModeRows → Name → List ℕ → ModeRows
  with_mode rs x row = rs ++ (([], x), once (length s.names) row) ∷ []

  owned_behind : (rs qs : ModeRows) → owns m rs ≡ true → owns m (rs ++ qs) ≡ true
  owned_behind rs qs e = list_any-append (λ (r : (List Name × Name) × List ℕ). mode_key ([], m) r.0) rs qs ∙ or_left _ _ e

  owned_last : (rs qs : ModeRows) → owns m qs ≡ true → owns m (rs ++ qs) ≡ true
  owned_last rs qs e = list_any-append (λ (r : (List Name × Name) × List ℕ). mode_key ([], m) r.0) rs qs ∙ or_right (owns m rs) (owns m qs) e

  stays : (rs : ModeRows) (cs : List ContractStatement) → owns m rs ≡ true → owns m (mode_rows_after s t g rs cs) ≡ true
  stays rs [] e = e
  stays rs (assume a ∷ cs) e = stays rs cs e
  stays rs (guarantee a ∷ cs) e = stays rs cs e
  stays rs (ghost_variable x a ∷ cs) e = stays rs cs e
  stays rs (constant c ∷ cs) e = stays rs cs e
  stays rs (mode w as_ es ∷ cs) e = stays (with_mode rs w.text (asked_row s t rs as_)) cs
      (owned_behind rs ((([], w.text), once (length s.names) (asked_row s t rs as_)) ∷ []) e)
  stays rs («import» k c as_ xs ∷ cs) e = stays (rs ++ imported_rows s t rs c.text (g c.text) as_ xs) cs
      (owned_behind rs (imported_rows s t rs c.text (g c.text) as_ xs) e)

  owned : (rs : ModeRows) (cs : List ContractStatement) → named_in m (mode_names cs) ≡ true → owns m (mode_rows_after s t g rs cs) ≡ true
  owned rs [] e = absurd (false≢true e)
  owned rs (assume a ∷ cs) e = owned rs cs e
  owned rs (guarantee a ∷ cs) e = owned rs cs e
  owned rs (ghost_variable x a ∷ cs) e = owned rs cs e
  owned rs (constant c ∷ cs) e = owned rs cs e
  owned rs («import» k c as_ xs ∷ cs) e = owned (rs ++ imported_rows s t rs c.text (g c.text) as_ xs) cs e
  owned rs (mode w as_ es ∷ cs) e = go (or_cases (bytes_eq m w.text) (named_in m (mode_names cs)) e) (owned (with_mode rs w.text (asked_row s t rs as_)) cs)
    where
      go : (bytes_eq m w.text ≡ true) ⊎ (named_in m (mode_names cs) ≡ true)
          → (named_in m (mode_names cs) ≡ true → owns m (mode_rows_after s t g (with_mode rs w.text (asked_row s t rs as_)) cs) ≡ true)
          → owns m (mode_rows_after s t g (with_mode rs w.text (asked_row s t rs as_)) cs) ≡ true
      go (inl h) f = stays (with_mode rs w.text (asked_row s t rs as_)) cs
          (owned_last rs ((([], w.text), once (length s.names) (asked_row s t rs as_)) ∷ []) (or_left _ _ h))
      go (inr h) f = f h

-- ---- the summary

module _ (n : Component) (g : Summaries) (s : Clocks) (t : Callees) (rows : Rows) (k : Known) (tabled : AreTabled (variables n) s)
    (d : AreDistinct s.names) (u : AreDistinct (names_of (variables n))) (flags : AreFlagsOf g (callees_view t)) (nodes : AreNodes n g s.names rows)
    (is : IsKnown n rows s.names (own_modes s t g n) k) where
  abbrev given : List Name
  given = names_of n.inputs ++ names_of n.outputs

  has_number : (y : Name) → named_in y given ≡ true → named_in y s.names ≡ true
  has_number y e = given_number n s tabled y e

  by_row : (row : List ℕ) (xs list : List Name) (y : Name) → Stands s.names row xs → AreFound rows s.names row given list
      → named_in y given ≡ true → (named_in y list ≡ true) ↔ Finds (own_edges n g) xs y
  by_row row xs list y stands found i =
      let h : named_in y s.names ≡ true = has_number y i in
      let a : (named_in y list ≡ true) ↔ RowLeadsTo rows row (number_of s.names y) = found y i h in
      let b : RowLeadsTo rows row (number_of s.names y) ↔ Finds (own_edges n g) xs y = rows_find n g s.names rows d nodes row xs stands y h in
      (λ e. b.0 (a.0 e), λ f. a.1 (b.1 f))

  reads_hold : HoldsOf (texts_seen k.inputs.items) k.reads (Finds (own_edges n g) (names_of n.outputs))
  reads_hold y i =
      let j : named_in y (names_of n.inputs) ≡ true = subst (λ z. named_in y z ≡ true) is.inputs i in
      by_row (numbers_of s.names (names_of n.outputs)) (names_of n.outputs) k.reads y (names_stand s.names d (names_of n.outputs)) is.reads
      (in_joined y (names_of n.inputs) (names_of n.outputs) ∙ or_left _ _ j)

  abbrev own : ModeRows
  own = own_modes s t g n

  has_mode : (m : Name) → named_in m (mode_names (contract_statements n)) ≡ true
      → HasMode (known_view k) m (Finds (own_edges n g) (known_reads (mode_reads n g) ([], m)))
  has_mode m e =
      let l : Lists rows s.names given own (known_modes k.modes.items) m = known_list rows s.names given own (known_modes k.modes.items) m is.modes
      (owned s t g m [] (contract_statements n) e) in
      record {
        list = l.list;
        found = l.is;
        holds = λ y i. by_row (known_row own ([], m)) (known_reads (mode_reads n g) ([], m)) l.list y
            (known_stands s.names own (mode_reads n g) (modes_stand n g s t tabled d flags [] [] tt (contract_statements n)) ([], m)) l.found
            (subst (λ z. named_in y z ≡ true) (ap (λ z. z ++ texts_seen k.outputs.items) is.inputs ∙ ap (λ z. names_of n.inputs ++ z) is.outputs) i);
      }

  summary_is : IsSummary n g (known_view k)
  summary_is = record { inputs = is.inputs; outputs = is.outputs; reads = reads_hold; modes = has_mode }

pub known_summaries : KnownAreSummaries
known_summaries n g s t rows k tabled d u flags nodes is = summary_is n g s t rows k tabled d u flags nodes is

-- one more mode, as the code goes
pub known_next : (g h : Rows) (names given : List Name) (ms : List Mode) (i : ℕ) (m : Mode) (ks js : List (Name × List Name)) → i < length ms
    → m ≡ get_or ms i m → g ≡ h → AreKnown h names given (modes_view (take i ms)) ks
    → (AreKnown g names given (modes_view (take i ms)) ks → AreKnown g names given (modes_view (take i ms) ++ mode_view m ∷ []) js)
    → AreKnown h names given (modes_view (take (i + 1) ms)) js
known_next g h names given ms i m ks js l is e a f =
    subst (λ r. AreKnown r names given (modes_view (take (i + 1) ms)) js) e
    (subst (λ z. AreKnown g names given z js) (sym (one_more mode_view ms i m l is))
    (f (subst (λ r. AreKnown r names given (modes_view (take i ms)) ks) (sym e) a)))
