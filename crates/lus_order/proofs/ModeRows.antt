-- Rows of expressions, modes and equations stand for what these read.
use Rattle.std.proofs.Common.{ℕ, Bool, true, false, cond, List, [], ◌∷◌, ◌++◌, map, flat_map, length, refl, ◌∙◌, sym, subst, unwrap_or, Some}
use Rattle.std.specs.Map.{lookup}
use Rattle.lus_tree.specs.Tree.{Name, Spelled, Component, Expression, Labelled, ContractStatement, assume, guarantee, ghost_variable, constant, mode, «import»}
use Rattle.lus_meaning.specs.Scene.{Clock, base, variables, contract_statements, clock_of_names}
use Rattle.lus_meaning.specs.Meaning.{mode_key}
use Rattle.lus_meaning.specs.Run.{Equation}
use Rattle.lus_meaning.specs.Depends.{named_in}
use Rattle.lus_meaning.specs.EquationFaults.{clock_names}
use Rattle.lus_meaning.specs.WellMade.{AreDistinct}
use Rattle.way_laws.specs.OwnGraph.{Summary, Summaries, ModeReads, known_reads, reads, listed_read, shared_read, imported_reads, asked_reads, mode_reads_after, declared_reads, equation_reads}
use Rattle.lus_order.specs.declared.setting.Clocks.{Clocks}
use Rattle.lus_order.specs.declared.setting.Callees.{Callees}
use Rattle.lus_order.specs.Reads.{Read, a_name, a_mode, callees_view, clocks_view, read_in}
use Rattle.lus_order.specs.OwnReads.{expanded, AreFlagsOf}
use Rattle.lus_order.specs.Rows.{ModeRows, known_row, number_list, read_row, read_rows, row_in, asked_row, listed_row, shared_row, imported_row, imported_rows, mode_rows_after, clock_row, side_clock, equation_row}
use Rattle.number_graphs.specs.Visits.{once}
use Rattle.lus_order.specs.ModeRows.{AreModes}
use Rattle.lus_order.specs.Stands.{Stands}
use Rattle.lus_order.specs.Streams.{AreTabled, names_of}
use Rattle.lus_order.proofs.Declared.{tabled_clocks, declared_clock, tabled_side}
use Rattle.lus_order.proofs.OwnReads.{reads_own}
use Rattle.number_graphs.proofs.Searches.{once_listed}
use Rattle.lus_order.proofs.Stands.{none_stand, stand_joined, name_stands, names_stand}

-- ---- modes

pub known_stands : (names : List Name) (rs : ModeRows) (ms : ModeReads) → AreModes names rs ms → (key : List Name × Name)
    → Stands names (known_row rs key) (known_reads ms key)
known_stands names [] [] a key = none_stand names
known_stands names [] (m ∷ ms) a key = absurd a
known_stands names (r ∷ rs) [] a key = absurd a
known_stands names (r ∷ rs) (m ∷ ms) a key =
    subst (λ k. Stands names (known_row (r ∷ rs) key) (unwrap_or (cond (mode_key key k) (Some m.1) (lookup (mode_key key) ms)) [])) a.0
    (go (mode_key key r.0) (known_stands names rs ms a.2 key))
  where
    go : (b : Bool) → Stands names (known_row rs key) (known_reads ms key)
        → Stands names (unwrap_or (cond b (Some r.1) (lookup (mode_key key) rs)) []) (unwrap_or (cond b (Some m.1) (lookup (mode_key key) ms)) [])
    go true f = a.1
    go false f = f

modes_joined : (names : List Name) (rs qs : ModeRows) (ms ns : ModeReads) → AreModes names rs ms → AreModes names qs ns → AreModes names (rs ++ qs) (ms ++ ns)
modes_joined names [] qs [] ns a b = b
modes_joined names [] qs (m ∷ ms) ns a b = absurd a
modes_joined names (r ∷ rs) qs [] ns a b = absurd a
modes_joined names (r ∷ rs) qs (m ∷ ms) ns a b = (a.0, a.1, modes_joined names rs qs ms ns a.2 b)

once_stands : (names : List Name) (row : List ℕ) (ys : List Name) → Stands names row ys → Stands names (once (length names) row) ys
once_stands names row ys a = record {
  below = λ j e. a.below j ((once_listed (length names) row j).0 e);
  listed = λ j e. a.listed j ((once_listed (length names) row j).0 e);
  whole = λ j l e. (once_listed (length names) row j).1 l (a.whole j l e);
}

module _ (n : Component) (g : Summaries) (s : Clocks) (t : Callees) (tabled : AreTabled (variables n) s) (d : AreDistinct s.names)
    (flags : AreFlagsOf g (callees_view t)) where
  read_stands : (rs : ModeRows) (ms : ModeReads) → AreModes s.names rs ms → (r : Read) → Stands s.names (read_row s.names rs r) (expanded ms r)
  read_stands rs ms a (a_name x) = name_stands s.names d x
  read_stands rs ms a (a_mode key) = known_stands s.names rs ms a key

  all_stand : (rs : ModeRows) (ms : ModeReads) → AreModes s.names rs ms → (qs : List Read)
      → Stands s.names (read_rows s.names rs qs) (flat_map (expanded ms) qs)
  all_stand rs ms a [] = none_stand s.names
  all_stand rs ms a (q ∷ qs) = stand_joined s.names (read_row s.names rs q) (read_rows s.names rs qs) (expanded ms q) (flat_map (expanded ms) qs)
      (read_stands rs ms a q) (all_stand rs ms a qs)

  expression_stands : (rs : ModeRows) (ms : ModeReads) → AreModes s.names rs ms → (c : Clock) (e : Expression)
      → Stands s.names (row_in s t rs (clock_names c) e) (reads n g ms c e)
  expression_stands rs ms a c e =
      subst (Stands s.names (row_in s t rs (clock_names c) e))
      (sym (reads_own n g (clocks_view s) (callees_view t) (tabled_clocks n s tabled) flags ms c e))
      (all_stand rs ms a (read_in (clocks_view s) (callees_view t) (clock_names c) e))

  asked_stand : (rs : ModeRows) (ms : ModeReads) → AreModes s.names rs ms → (ls : List Labelled)
      → Stands s.names (asked_row s t rs ls) (asked_reads n g ms ls)
  asked_stand rs ms a [] = none_stand s.names
  asked_stand rs ms a (l ∷ ls) = stand_joined s.names (row_in s t rs [] l.value) (asked_row s t rs ls) (reads n g ms base l.value) (asked_reads n g ms ls)
      (expression_stands rs ms a base l.value) (asked_stand rs ms a ls)

  if_so_stands : (b : Bool) (row : List ℕ) (ys : List Name) → Stands s.names row ys → Stands s.names (cond b row []) (cond b ys [])
  if_so_stands true row ys a = a
  if_so_stands false row ys a = none_stand s.names

  listed_stand : (rs : ModeRows) (ms : ModeReads) → AreModes s.names rs ms → (ys xs : List Name) (es : List Expression)
      → Stands s.names (listed_row s t rs ys xs es) (listed_read n g ms ys xs es)
  listed_stand rs ms a ys [] es = none_stand s.names
  listed_stand rs ms a ys (x ∷ xs) [] = none_stand s.names
  listed_stand rs ms a ys (x ∷ xs) (e ∷ es) =
      stand_joined s.names (cond (named_in x ys) (row_in s t rs [] e) []) (listed_row s t rs ys xs es) (cond (named_in x ys) (reads n g ms base e) [])
      (listed_read n g ms ys xs es) (if_so_stands (named_in x ys) (row_in s t rs [] e) (reads n g ms base e) (expression_stands rs ms a base e))
      (listed_stand rs ms a ys xs es)

  shared_stand : (ys os : List Name) (ws : List Spelled) → Stands s.names (shared_row s.names ys os ws) (shared_read n g ys os ws)
  shared_stand ys [] ws = none_stand s.names
  shared_stand ys (o ∷ os) [] = none_stand s.names
  shared_stand ys (o ∷ os) (w ∷ ws) =
      stand_joined s.names (cond (named_in o ys) (number_list s.names w.text) []) (shared_row s.names ys os ws) (cond (named_in o ys) (w.text ∷ []) [])
      (shared_read n g ys os ws) (if_so_stands (named_in o ys) (number_list s.names w.text) (w.text ∷ []) (name_stands s.names d w.text))
      (shared_stand ys os ws)

  imported_stand : (rs : ModeRows) (ms : ModeReads) → AreModes s.names rs ms → (c : Spelled) (k : Summary) (es : List Expression) (ws : List Spelled)
      (xs : List (Name × List Name)) → AreModes s.names (map (imported_row s t rs c.text k es ws) xs)
      (map (λ e. ((c.text ∷ [], e.0), listed_read n g ms e.1 k.inputs es ++ shared_read n g e.1 k.outputs ws)) xs)
  imported_stand rs ms a c k es ws [] = tt
  imported_stand rs ms a c k es ws (x ∷ xs) = (
    refl,
    once_stands s.names (listed_row s t rs x.1 k.inputs es ++ shared_row s.names x.1 k.outputs ws)
        (listed_read n g ms x.1 k.inputs es ++ shared_read n g x.1 k.outputs ws)
        (stand_joined s.names (listed_row s t rs x.1 k.inputs es) (shared_row s.names x.1 k.outputs ws) (listed_read n g ms x.1 k.inputs es)
        (shared_read n g x.1 k.outputs ws) (listed_stand rs ms a x.1 k.inputs es) (shared_stand x.1 k.outputs ws)),
    imported_stand rs ms a c k es ws xs,
  )

  pub modes_stand : (rs : ModeRows) (ms : ModeReads) → AreModes s.names rs ms → (cs : List ContractStatement)
      → AreModes s.names (mode_rows_after s t g rs cs) (mode_reads_after n g ms cs)
  modes_stand rs ms a [] = a
  modes_stand rs ms a (mode m as_ es ∷ cs) =
      modes_stand (rs ++ (([], m.text), once (length s.names) (asked_row s t rs as_)) ∷ []) (ms ++ (([], m.text), asked_reads n g ms as_) ∷ [])
      (modes_joined s.names rs ((([], m.text), once (length s.names) (asked_row s t rs as_)) ∷ []) ms ((([], m.text), asked_reads n g ms as_) ∷ []) a
      (refl, once_stands s.names (asked_row s t rs as_) (asked_reads n g ms as_) (asked_stand rs ms a as_), tt)) cs
  modes_stand rs ms a («import» k c as_ xs ∷ cs) =
      modes_stand (rs ++ imported_rows s t rs c.text (g c.text) as_ xs) (ms ++ imported_reads n g ms (g c.text) c as_ xs)
      (modes_joined s.names rs (imported_rows s t rs c.text (g c.text) as_ xs) ms (imported_reads n g ms (g c.text) c as_ xs) a
      (imported_stand rs ms a c (g c.text) as_ xs (g c.text).modes)) cs
  modes_stand rs ms a (assume l ∷ cs) = modes_stand rs ms a cs
  modes_stand rs ms a (guarantee l ∷ cs) = modes_stand rs ms a cs
  modes_stand rs ms a (ghost_variable x e ∷ cs) = modes_stand rs ms a cs
  modes_stand rs ms a (constant c ∷ cs) = modes_stand rs ms a cs

  -- ---- equations

  abbrev AreNames : Type 0
  AreNames = AreDistinct (names_of (variables n))

  clocks_stand : AreNames → (xs : List Name) → Stands s.names (flat_map (clock_row s) xs) (flat_map (declared_reads n g) xs)
  clocks_stand u [] = none_stand s.names
  clocks_stand u (x ∷ xs) =
      stand_joined s.names (clock_row s x) (flat_map (clock_row s) xs) (declared_reads n g x) (flat_map (declared_reads n g) xs)
      (subst (Stands s.names (clock_row s x)) (tabled_clocks n s tabled x ∙ sym (declared_clock n g u x)) (names_stand s.names d (clocks_view s x)))
      (clocks_stand u xs)

  pub equation_stands : AreNames → (rs : ModeRows) → AreModes s.names rs (mode_reads_after n g [] (contract_statements n)) → (e : Equation)
      → Stands s.names (equation_row s t rs e) (equation_reads n g e)
  equation_stands u rs a e =
      let ms : ModeReads = mode_reads_after n g [] (contract_statements n) in
      stand_joined s.names (flat_map (clock_row s) e.names) (row_in s t rs (side_clock s e.names) e.right) (flat_map (declared_reads n g) e.names)
      (reads n g ms (clock_of_names n e.names) e.right) (clocks_stand u e.names)
      (subst (λ c. Stands s.names (row_in s t rs c e.right) (reads n g ms (clock_of_names n e.names) e.right)) (sym (tabled_side n s tabled e.names))
      (expression_stands rs ms a (clock_of_names n e.names) e.right))
