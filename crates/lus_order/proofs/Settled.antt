-- What is known of one more declaration leaves the rest as it was.
use Rattle.std.proofs.Common.{◌≡◌, ℕ, zero, suc, ◌<◌, ◌≤◌, ◌+◌, Bool, true, false, cond, ◌||◌, List, [], ◌∷◌, ◌++◌, map, length, refl, sym, ap, ◌∙◌, subst, arith}
use Rattle.std.specs.Prelude.{Contains, get_or}
use Rattle.std.specs.Str.{bytes_eq}
use Rattle.std.proofs.Math.Logic.{◌⊎◌, inl, inr}
use Rattle.std.proofs.Math.Seq.{get_or-append_seam}
use Rattle.std.proofs.lemmas.Bool.{false≢true, cases_Bool}
use Rattle.std.proofs.lemmas.List.{get_or_append_left, get_or-map}
use Rattle.lus_tree.specs.Tree.{Name, text_of, Component, declared_constant, declared_node, declared_contract, Program}
use Rattle.lus_tree.specs.Reason.{name_twice}
use Rattle.lus_meaning.specs.ClockFaults.{components}
use Rattle.lus_meaning.specs.Depends.{named_in}
use Rattle.lus_meaning.specs.Faults.{words_twice}
use Rattle.lus_meaning.specs.Grammatical.{IsGrammatical}
use Rattle.lus_meaning.specs.NameFaults.{declaration_word, declaration_faults, typing_faults}
use Rattle.lus_meaning.specs.Program.{all_sites}
use Rattle.lus_meaning.specs.Refusals.{IsTyped}
use Rattle.lus_meaning.specs.Scene.{Site, variables}
use Rattle.lus_meaning.specs.WellMade.{AreDistinct}
use Rattle.lus_meaning.proofs.NamesOnce.{empty_of, no_parts, none_twice}
use Rattle.lus_meaning.proofs.Unique.{same_bytes}
use Rattle.name_table.specs.Names.{number_of}
use Rattle.name_table.proofs.Names.{itself, in_joined}
use Rattle.name_table.proofs.Numbers.{number_below}
use Rattle.way_laws.specs.OwnGraph.{Summary, Summaries, Edges, Finds, IsOwnWay, own_edges, mode_reads, known_reads}
use Rattle.way_laws.specs.Summaries.{HoldsOf, HasMode, IsSummary}
use Rattle.lus_order.specs.declared.library.Known.{Known}
use Rattle.lus_order.specs.declared.library.Library.{Library}
use Rattle.lus_order.specs.declared.own.Own.{Own}
use Rattle.number_graphs.specs.Graphs.{graph_view}
use Rattle.lus_order.specs.KnownModes.{IsKnown}
use Rattle.lus_order.specs.Learned.{flags_of, names_known, all_known, all_flags, IsConsistent, IsAdded, IsLearned}
use Rattle.lus_order.specs.Library.{known_view, library_view, nothing_known}
use Rattle.lus_order.specs.Own.{IsOwn}
use Rattle.lus_order.specs.OwnNodes.{AreNodes}
use Rattle.lus_order.specs.OwnReads.{AreFlagsOf}
use Rattle.lus_order.specs.Reads.{callees_view}
use Rattle.lus_order.specs.Rows.{modes_view}
use Rattle.lus_order.specs.SameCallees.{SameCallees}
use Rattle.lus_order.specs.Streams.{names_of}
use Rattle.lus_order.proofs.OwnNodes.{rows_nodes}
use Rattle.lus_order.proofs.SameReads.{reads_by_callees}
use Rattle.number_graphs.proofs.Searches.{or_cases, or_right}
use Rattle.lus_order.proofs.SiteCallees.{same_callees}
use Rattle.lus_order.proofs.Stands.{or_left}
use Rattle.lus_order.proofs.Summarised.{known_summaries}

-- ---- one declaration of each name

abbrev words : Program → List Name
words ds = map text_of (map declaration_word ds)

named_there : (ds : Program) (n : Component) → Contains (components ds) n → named_in n.name.text (words ds) ≡ true
named_there [] n (k, l, e) = absurd (omega arith)
named_there (declared_constant c ∷ ds) n i = or_right _ _ (named_there ds n i)
named_there (declared_node m ∷ ds) n (zero, l, e) = or_left _ _ (subst (λ (z : Component). bytes_eq z.name.text m.name.text ≡ true) e (itself m.name.text))
named_there (declared_node m ∷ ds) n (suc k, l, e) = or_right _ _ (named_there ds n (k, omega arith, e))
named_there (declared_contract m ∷ ds) n (zero, l, e) = or_left _ _ (subst (λ (z : Component). bytes_eq z.name.text m.name.text ≡ true) e (itself m.name.text))
named_there (declared_contract m ∷ ds) n (suc k, l, e) = or_right _ _ (named_there ds n (k, omega arith, e))

one_head : (d : Component) (ds : Program) → named_in d.name.text (words ds) ≡ false
    → ((m n : Component) → Contains (components ds) m → Contains (components ds) n → m.name.text ≡ n.name.text → m ≡ n)
    → (m n : Component) → Contains (d ∷ components ds) m → Contains (d ∷ components ds) n → m.name.text ≡ n.name.text → m ≡ n
one_head d ds f r m n (zero, l, e) (zero, k, h) s = sym e ∙ h
one_head d ds f r m n (zero, l, e) (suc j, k, h) s = absurd (false≢true (sym f ∙ ap (λ z. named_in z (words ds)) (ap (λ (z : Component). z.name.text) e ∙ s)
    ∙ named_there ds n (j, omega arith, h)))
one_head d ds f r m n (suc i, l, e) (zero, k, h) s = absurd (false≢true (sym f ∙ ap (λ z. named_in z (words ds)) (ap (λ (z : Component). z.name.text) h ∙ sym s)
    ∙ named_there ds m (i, omega arith, e)))
one_head d ds f r m n (suc i, l, e) (suc j, k, h) s = r m n (i, omega arith, e) (j, omega arith, h) s

one_named : (ds : Program) → AreDistinct (words ds) → (m n : Component) → Contains (components ds) m → Contains (components ds) n
    → m.name.text ≡ n.name.text → m ≡ n
one_named [] d m n (k, l, e) j s = absurd (omega arith)
one_named (declared_constant c ∷ ds) d m n i j s = one_named ds d.1 m n i j s
one_named (declared_node c ∷ ds) d m n i j s = one_head c ds d.0 (one_named ds d.1) m n i j s
one_named (declared_contract c ∷ ds) d m n i j s = one_head c ds d.0 (one_named ds d.1) m n i j s

pub one_declared : (p : Program) → IsTyped p → (m n : Component) → Contains (components p) m → Contains (components p) n
    → m.name.text ≡ n.name.text → m ≡ n
one_declared p t = one_named p (none_twice name_twice (map declaration_word p)
    (no_parts (words_twice name_twice (map declaration_word p)) (declaration_faults p 0 p) (no_parts _ _ (empty_of (typing_faults p) t)).1).0)

-- ---- tables

number_kept : (xs ys : List Name) (x : Name) → named_in x xs ≡ true → number_of (xs ++ ys) x ≡ number_of xs x
number_kept [] ys x e = absurd (false≢true e)
number_kept (y ∷ xs) ys x e = go (bytes_eq x y) e (number_kept xs ys x)
  where
    go : (b : Bool) → (b || named_in x xs) ≡ true → (named_in x xs ≡ true → number_of (xs ++ ys) x ≡ number_of xs x)
        → cond b 0 (suc (number_of (xs ++ ys) x)) ≡ cond b 0 (suc (number_of xs x))
    go true h r = refl
    go false h r = ap suc (r h)

number_new : (xs : List Name) (x : Name) → named_in x xs ≡ false → number_of (xs ++ x ∷ []) x ≡ length xs
number_new [] x e = ap (λ b. cond b 0 1) (itself x)
number_new (y ∷ xs) x e = go (bytes_eq x y) e (number_new xs x)
  where
    go : (b : Bool) → (b || named_in x xs) ≡ false → (named_in x xs ≡ false → number_of (xs ++ x ∷ []) x ≡ length xs)
        → cond b 0 (suc (number_of (xs ++ x ∷ []) x)) ≡ suc (length xs)
    go true h r = absurd (false≢true (sym h))
    go false h r = ap suc (r h)

abbrev said : List Name → List Summary → Summaries
said names known x = cond (named_in x names) (get_or known (number_of names x) nothing_known) nothing_known

said_kept : (names : List Name) (known : List Summary) (f : Name) (s : Summary) (x : Name) → length names ≡ length known → named_in x names ≡ true
    → said (names ++ f ∷ []) (known ++ s ∷ []) x ≡ said names known x
said_kept names known f s x c e =
    let i : named_in x (names ++ f ∷ []) ≡ true = in_joined x names (f ∷ []) ∙ or_left _ _ e in
    let b : number_of names x < length names = number_below names x e in
    ap (λ b. cond b (get_or (known ++ s ∷ []) (number_of (names ++ f ∷ []) x) nothing_known) nothing_known) i
    ∙ ap (λ k. get_or (known ++ s ∷ []) k nothing_known) (number_kept names (f ∷ []) x e)
    ∙ get_or_append_left known (s ∷ []) nothing_known (number_of names x) (omega arith)
    ∙ sym (ap (λ b. cond b (get_or known (number_of names x) nothing_known) nothing_known) e)

said_new : (names : List Name) (known : List Summary) (f : Name) (s : Summary) → length names ≡ length known → named_in f names ≡ false
    → said (names ++ f ∷ []) (known ++ s ∷ []) f ≡ s
said_new names known f s c e =
    let i : named_in f (names ++ f ∷ []) ≡ true = in_joined f names (f ∷ []) ∙ or_right (named_in f names) _ (or_left _ _ (itself f)) in
    ap (λ b. cond b (get_or (known ++ s ∷ []) (number_of (names ++ f ∷ []) f) nothing_known) nothing_known) i
    ∙ ap (λ k. get_or (known ++ s ∷ []) k nothing_known) (number_new names f e ∙ c)
    ∙ get_or-append_seam known s [] nothing_known

pub consistent_flags : (l : Library) → IsConsistent l → AreFlagsOf (library_view l) (callees_view l.callees)
consistent_flags l c f = go (cases_Bool (named_in f (names_known l)))
  where
    k : ℕ
    k = number_of (names_known l) f

    go : (named_in f (names_known l) ≡ true) ⊎ (named_in f (names_known l) ≡ false) → callees_view l.callees f ≡ flags_of (library_view l f)
    go (inr e) = ap (λ b. cond b (get_or (all_flags l) k []) []) e
        ∙ sym (ap (λ b. flags_of (cond b (get_or (all_known l) k nothing_known) nothing_known)) e)
    go (inl e) =
        let b : k < length (names_known l) = number_below (names_known l) f e in
        let h : length (names_known l) ≡ length (all_known l) = c.counted in
        ap (λ b. cond b (get_or (all_flags l) k []) []) e
        ∙ ap (λ z. get_or z k []) c.flags
        ∙ get_or-map flags_of (all_known l) k nothing_known [] (omega arith)
        ∙ sym (ap (λ b. flags_of (cond b (get_or (all_known l) k nothing_known) nothing_known)) e)

-- ---- one declaration

module _ (n : Component) (l : Library) (o : Own) (c : IsConsistent l) (u : AreDistinct (names_of (variables n))) (own : IsOwn n l o) where
  own_nodes : AreNodes n (library_view l) o.clocks.names (graph_view o.graph)
  own_nodes = subst (AreNodes n (library_view l) o.clocks.names) (sym own.graph)
      (rows_nodes n (library_view l) o.clocks l.callees own.tabled own.distinct u own.lefts (consistent_flags l c))

  pub names_within : length o.clocks.names ≤ length (graph_view o.graph)
  names_within = let w : length (graph_view o.graph) ≡ length o.clocks.names + length _ = own_nodes.whole in omega arith

  pub summary_known : (k : Known) → IsKnown n (graph_view o.graph) o.clocks.names (modes_view o.modes.items) k
      → IsSummary n (library_view l) (known_view k)
  summary_known k h = known_summaries n (library_view l) o.clocks l.callees (graph_view o.graph) k own.tabled own.distinct u (consistent_flags l c) own_nodes
      (subst (λ ms. IsKnown n (graph_view o.graph) o.clocks.names ms k) own.modes h)

-- ---- other summaries of the same callees

way_moved : (e f : Edges) → ((x : Name) → e x ≡ f x) → (x : Name) (ys : List Name) → IsOwnWay e x ys → IsOwnWay f x ys
way_moved e f s x [] w = tt
way_moved e f s x (y ∷ ys) w = (subst (λ z. named_in y z ≡ true) (s x) w.0, way_moved e f s y ys w.1)

find_moved : (e f : Edges) → ((x : Name) → e x ≡ f x) → (xs : List Name) (y : Name) → Finds e xs y → Finds f xs y
find_moved e f s xs y h = record { start = h.start; starts = h.starts; rest = h.rest; way = way_moved e f s h.start h.rest h.way; last = h.last }

module _ (n : Component) (g h : Summaries) (same : SameCallees g h n) where
  abbrev both : (mode_reads n g ≡ mode_reads n h) × ((x : Name) → own_edges n g x ≡ own_edges n h x)
  both = reads_by_callees n g h same

  holds_moved : (given ys xs : List Name) → HoldsOf given ys (Finds (own_edges n g) xs) → HoldsOf given ys (Finds (own_edges n h) xs)
  holds_moved given ys xs a y i = (
    λ e. find_moved (own_edges n g) (own_edges n h) both.1 xs y ((a y i).0 e),
    λ f. (a y i).1 (find_moved (own_edges n h) (own_edges n g) (λ x. sym (both.1 x)) xs y f),
  )

  pub summary_moved : (s : Summary) → IsSummary n g s → IsSummary n h s
  summary_moved s a = record {
    inputs = a.inputs;
    outputs = a.outputs;
    reads = holds_moved s.inputs s.reads (names_of n.outputs) a.reads;
    modes = λ m e. mode_moved m (a.modes m e);
  }
    where
      mode_moved : (m : Name) → HasMode s m (Finds (own_edges n g) (known_reads (mode_reads n g) ([], m)))
          → HasMode s m (Finds (own_edges n h) (known_reads (mode_reads n h) ([], m)))
      mode_moved m q = record {
        list = q.list;
        found = q.found;
        holds = subst (λ z. HoldsOf (s.inputs ++ s.outputs) q.list (Finds (own_edges n h) (known_reads z ([], m)))) both.0
            (holds_moved (s.inputs ++ s.outputs) q.list (known_reads (mode_reads n g) ([], m)) q.holds);
      }

-- ---- all that is known

-- all that it calls and imports is known, and its summary is by its own graph
pub record IsSettled (n : Component) (l : Library) : Type 0 where
  pub calls : (s : Site) → Contains (all_sites n) s → named_in s.callee (names_known l) ≡ true
  pub summary : IsSummary n (library_view l) (library_view l n.name.text)

pub record AreSettled (p : Program) (l : Library) : Type 0 where
  pub consistent : IsConsistent l
  pub each : (n : Component) → Contains (components p) n → named_in n.name.text (names_known l) ≡ true → IsSettled n l

module _ (old new : Library) (f : Name) (s : Summary) (c : IsConsistent old) (a : IsAdded old new f s) where
  consistent_more : IsConsistent new
  consistent_more = record {
    counted = ap length a.names ∙ length_more (names_known old) f ∙ ap suc c.counted ∙ sym (ap length a.known ∙ length_more (all_known old) s);
    flags = a.flags ∙ ap (λ z. z ++ flags_of s ∷ []) c.flags ∙ sym (ap (map flags_of) a.known ∙ map_more (all_known old));
  }
    where
      length_more : {A : Type 0} (xs : List A) (x : A) → length (xs ++ x ∷ []) ≡ suc (length xs)
      length_more [] x = refl
      length_more (y ∷ xs) x = ap suc (length_more xs x)

      map_more : (xs : List Summary) → map flags_of (xs ++ s ∷ []) ≡ map flags_of xs ++ flags_of s ∷ []
      map_more [] = refl
      map_more (x ∷ xs) = ap (λ z. flags_of x ∷ z) (map_more xs)

  view_kept : (x : Name) → named_in x (names_known old) ≡ true → library_view new x ≡ library_view old x
  view_kept x e = ap (λ z. said z (all_known new) x) a.names ∙ ap (λ z. said (names_known old ++ f ∷ []) z x) a.known
      ∙ said_kept (names_known old) (all_known old) f s x c.counted e

  view_new : named_in f (names_known old) ≡ false → library_view new f ≡ s
  view_new e = ap (λ z. said z (all_known new) f) a.names ∙ ap (λ z. said (names_known old ++ f ∷ []) z f) a.known
      ∙ said_new (names_known old) (all_known old) f s c.counted e

  name_kept : (x : Name) → named_in x (names_known old) ≡ true → named_in x (names_known new) ≡ true
  name_kept x e = subst (λ z. named_in x z ≡ true) (sym a.names) (in_joined x (names_known old) (f ∷ []) ∙ or_left _ _ e)

module _ (p : Program) (grammatical : IsGrammatical p) (typed : IsTyped p) (old new : Library) (so : AreSettled p old)
    (n : Component) (d : Contains (components p) n) (calls : (s : Site) → Contains (all_sites n) s → named_in s.callee (names_known old) ≡ true)
    (fresh : named_in n.name.text (names_known old) ≡ false) (learned : IsLearned n old new) where
  still : (m : Component) → Contains (components p) m → ((s : Site) → Contains (all_sites m) s → named_in s.callee (names_known old) ≡ true)
      → (s : Summary) → IsSummary m (library_view old) s → library_view new m.name.text ≡ s → IsSettled m new
  still m i cs s is e = record {
    calls = λ c h. name_kept old new n.name.text learned.summary so.consistent learned.added c.callee (cs c h);
    summary = subst (IsSummary m (library_view new)) (sym e)
        (summary_moved m (library_view old) (library_view new) (same_callees p grammatical m i (library_view old) (library_view new)
        (λ c h. sym (view_kept old new n.name.text learned.summary so.consistent learned.added c.callee (cs c h)))) s is);
  }

  settled_each : (m : Component) → Contains (components p) m → named_in m.name.text (names_known new) ≡ true → IsSettled m new
  settled_each m i e = go (or_cases (named_in m.name.text (names_known old)) (named_in m.name.text (n.name.text ∷ []))
      (sym (in_joined m.name.text (names_known old) (n.name.text ∷ [])) ∙ subst (λ z. named_in m.name.text z ≡ true) learned.added.names e))
    where
      go : (named_in m.name.text (names_known old) ≡ true) ⊎ (named_in m.name.text (n.name.text ∷ []) ≡ true) → IsSettled m new
      go (inl h) = still m i (so.each m i h).calls (library_view old m.name.text) (so.each m i h).summary
          (view_kept old new n.name.text learned.summary so.consistent learned.added m.name.text h)
      go (inr h) = subst (λ z. IsSettled z new) (sym (one_declared p typed m n i d (same_bytes _ _ (one (or_cases _ _ h)))))
          (still n d calls learned.summary learned.is (view_new old new n.name.text learned.summary so.consistent learned.added fresh))
        where
          one : (bytes_eq m.name.text n.name.text ≡ true) ⊎ (false ≡ true) → bytes_eq m.name.text n.name.text ≡ true
          one (inl q) = q
          one (inr q) = absurd (false≢true q)

  pub settled_more : AreSettled p new
  settled_more = record { consistent = consistent_more old new n.name.text learned.summary so.consistent learned.added; each = settled_each }
