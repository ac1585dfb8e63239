-- Readings put together from left to right.
use Rattle.std.proofs.Common.{◌≡◌, ℕ, ◌+◌, sym, ap, ◌∙◌, subst, Some, IfErr, Result, Err, List, true, false}
use Rattle.std.proofs.lemmas.Result.{err_from_is_err_and}
use Rattle.std.specs.Result.{IsErrAnd}
use Rattle.lus_tree.specs.Reason.{Refused}
use Rattle.lus_lexer.specs.declared.token.Class.{Class}
use Rattle.lus_grammar.specs.Stream.{Stream}
use Rattle.lus_grammar.specs.Phrase.{Part, Phrase, one_of, part, ◌⨾◌, ◌∣◌, optional, repeated}
use Rattle.lus_grammar.specs.Grammar.{body}
use Rattle.lus_grammar.specs.Syntax.{Counts, Syntax, leaf, node, ◌·◌, this, that, present, none, some}
use Rattle.lus_grammar.specs.Text.{IsOneOf}
use Rattle.lus_grammar.specs.Starts.{class_code, listed, starts, Enters, Passes}
use Rattle.lus_grammar.specs.Run.{read, Run, token, line, line_stop, both, first_stop, second_stop, this_one, this_stop, that_one, that_stop, once, once_stop, no_more, again, next_stop, later_stop}
use Rattle.lus_grammar.specs.Source.{limit}
use Rattle.lus_grammar.specs.Answers.{Refuses, out_of_memory, stopped}
use Rattle.contract_reader.specs.Parts.{Leads}

-- the exit of a `?`
pub at_err : {T E : Type 0} (P : E → Type 0) (r : Result T E) (e : E) → IsErrAnd r (λ x. x ≡ e) → P e → IfErr r P
at_err P r e h p =
    let (y, u, w) = err_from_is_err_and r h in
    subst (λ (z : Result _ _). IfErr z P) (sym (u ∙ ap Err w)) p

pub here : {s : Stream} {g : Phrase} {i : ℕ} {n : Counts} → Leads s g i n g i n (λ x. x)
here = record { reads = λ k o x r. r; stops = λ c k r. r }

-- into a line of the grammar
pub into : {s : Stream} {p : Part} {i : ℕ} {n : Counts} → Leads s (part p) i n (body p) i n (λ x. node p x)
into = record { reads = λ k o x r. line r; stops = λ c k r. line_stop r }

module _ {s : Stream} {g : Phrase} {i : ℕ} {n : Counts} {j : ℕ} {m : Counts} {f : Syntax → Syntax} where
  -- then as that leads on
  pub then : {h h' : Phrase} {k : ℕ} {o : Counts} {f' : Syntax → Syntax} → Leads s g i n h j m f → Leads s h j m h' k o f'
      → Leads s g i n h' k o (λ x. f (f' x))
  then l l' = record { reads = λ k' o' x r. l.reads k' o' _ (l'.reads k' o' x r); stops = λ c k' r. l.stops c k' (l'.stops c k' r) }

  -- behind the first of two
  pub behind : {a b : Phrase} {k : ℕ} {o : Counts} {x : Syntax} → Leads s g i n (a ⨾ b) j m f → Run limit s a j m (read k o x)
      → Leads s g i n b k o (λ y. f (x · y))
  behind l r = record { reads = λ k' o' y r'. l.reads k' o' _ (both r r'); stops = λ c k' r'. l.stops c k' (second_stop r r') }

  pub behind_token : {cs : List Class} {b : Phrase} → Leads s g i n (one_of cs ⨾ b) j m f → IsOneOf s j cs → Leads s g i n b (j + 1) m (λ y. f (leaf (s j) · y))
  behind_token l h = behind l (token h)

  -- one of two
  pub to_this : {a b : Phrase} → Leads s g i n (a ∣ b) j m f → Enters s j a → Leads s g i n a j m (λ x. f (this x))
  to_this l e = record { reads = λ k o x r. l.reads k o _ (this_one e r); stops = λ c k r. l.stops c k (this_stop e r) }

  pub to_that : {a b : Phrase} → Leads s g i n (a ∣ b) j m f → Passes s j a → Leads s g i n b j m (λ x. f (that x))
  to_that l e = record { reads = λ k o x r. l.reads k o _ (that_one e r); stops = λ c k r. l.stops c k (that_stop e r) }

  -- as the token says
  pub this_by : {a b : Phrase} {c : Class} → Leads s g i n (a ∣ b) j m f → (s j).class ≡ Some c → listed (class_code c) (starts a) ≡ true
      → Leads s g i n a j m (λ x. f (this x))
  this_by l e h = to_this l (rw e h)

  pub that_by : {a b : Phrase} {c : Class} → Leads s g i n (a ∣ b) j m f → (s j).class ≡ Some c → listed (class_code c) (starts a) ≡ false
      → Leads s g i n b j m (λ x. f (that x))
  that_by l e h = to_that l (rw e h)

  -- what may stand there
  pub to_once : {a : Phrase} → Leads s g i n (optional a) j m f → Enters s j a → Leads s g i n a j m (λ x. f (present x))
  to_once l e = record { reads = λ k o x r. l.reads k o _ (once e r); stops = λ c k r. l.stops c k (once_stop e r) }

  -- one more of many
  pub once_more : {a : Phrase} {k : ℕ} {o : Counts} {x : Syntax} → Leads s g i n (repeated a) j m f → Enters s j a → Run limit s a j m
      (read k o x) → Leads s g i n (repeated a) k o (λ y. f (some x y))
  once_more l e r = record { reads = λ k' o' y r'. l.reads k' o' _ (again e r r'); stops = λ c k' r'. l.stops c k' (later_stop e r r') }

  pub ends_many : {a : Phrase} → Leads s g i n (repeated a) j m f → Passes s j a → Run limit s g i n (read j m (f none))
  ends_many l e = l.reads _ _ _ (no_more e)

  -- where a part stops
  pub stops : {a : Phrase} {r : Refused} → Leads s g i n a j m f → Refuses s a j m r → Refuses s g i n r
  stops l (out_of_memory e) = out_of_memory e
  stops l (stopped q e w) = stopped (l.stops _ _ q) e w

  pub stops_first : {a b : Phrase} {r : Refused} → Leads s g i n (a ⨾ b) j m f → Refuses s a j m r → Refuses s g i n r
  stops_first l (out_of_memory e) = out_of_memory e
  stops_first l (stopped q e w) = stopped (l.stops _ _ (first_stop q)) e w

  pub stops_next : {a : Phrase} {r : Refused} → Leads s g i n (repeated a) j m f → Enters s j a → Refuses s a j m r → Refuses s g i n r
  stops_next l h (out_of_memory e) = out_of_memory e
  stops_next l h (stopped q e w) = stopped (l.stops _ _ (next_stop h q)) e w
