-- What an answer is where a reader stops, and where it has built a tree.
use Rattle.std.proofs.Common.{◌≡◌, ℕ, Result, Ok, Err, sym, ap, ◌∙◌, subst}
use Rattle.std.specs.Result.{IsErrAnd, MatchResult}
use Rattle.std.proofs.lemmas.Result.{err_from_is_err_and}
use Rattle.lus_tree.specs.Tree.{Expression as Tree}
use Rattle.lus_grammar.specs.Answers.{Reads}
use Rattle.lus_grammar.specs.Phrase.{Part, Phrase, part, ◌⨾◌}
use Rattle.lus_grammar.specs.Run.{Run, read, stop, unexpected, first_stop, second_stop}
use Rattle.lus_grammar.specs.Source.{limit}
use Rattle.lus_grammar.specs.Stream.{Stream}
use Rattle.lus_grammar.specs.Syntax.{Counts, Syntax}
use Rattle.lus_grammar.specs.Trees.{expression_of}
use Rattle.lus_reader.specs.declared.counts.Counts.{Counts as CountsCode}
use Rattle.lus_reader.specs.declared.stop.Found.{Found}
use Rattle.lus_reader.specs.declared.stop.Stop.{Stop}
use Rattle.lus_reader.specs.declared.stop.Stop.TheVariants.{Memory, Unexpected}
use Rattle.lus_reader.specs.Look.{Stopped}
use Rattle.lus_reader.specs.Outcome.{Answers, IsRead, tree_of}
use Rattle.lus_reader.specs.View.{counts_view}

-- what stops h from j stops g from i
abbrev pub Lead : Stream → Phrase → ℕ → Counts → Phrase → ℕ → Counts → Type 0
Lead s g i n h j m = (k : ℕ) → Run limit s h j m (stop unexpected k) → Run limit s g i n (stop unexpected k)

-- behind one phrase, and at it
pub take : {s : Stream} {g a h : Phrase} {i j k : ℕ} {n m u : Counts} {x : Syntax} → Lead s g i n (a ⨾ h) j m → Run limit s a j m
    (read k u x) → Lead s g i n h k u
take l x = λ q r. l q (second_stop x r)

pub here : {s : Stream} {g a h : Phrase} {i j : ℕ} {n m : Counts} → Lead s g i n (a ⨾ h) j m → Lead s g i n a j m
here l = λ q r. l q (first_stop r)

pub lead_at : {s : Stream} {g h : Phrase} {i j j' : ℕ} {n m m' : Counts} → j' ≡ j → m' ≡ m → Lead s g i n h j m → Lead s g i n h j' m'
lead_at e f l = rw (e, f) l

pub stopped : (s : Stream) (g : Phrase) (i : ℕ) (n : Counts) (h : Phrase) (j : ℕ) (m : Counts) (e : Stop) → Lead s g i n h j m
    → Stopped s h j m e → Stopped s g i n e
stopped s g i n h j m Memory f r = tt
stopped s g i n h j m (Unexpected k) f r = f k r

-- the exit of a `?`
pub at_err : {A : Type 0} (P : A → Type 0) (Q : Stop → Type 0) (r : Result A Stop) (e : Stop) → IsErrAnd r (λ x. x ≡ e) → Q e → MatchResult r P Q
at_err P Q r e h q =
    let (y, u, w) = err_from_is_err_and r h in
    subst (λ (z : Result _ Stop). MatchResult z P Q) (sym (u ∙ ap Err w)) q

pub failed : {h : Phrase} {j : ℕ} {m : Counts} (s : Stream) (p : Part) (i : ℕ) (n : Counts) (r : Result Found Stop) (e : Stop) → IsErrAnd r
    (λ x. x ≡ e) → Lead s (part p) i n h j m → Stopped s h j m e → Answers s p i n r
failed {h} {j} {m} s p i n r e q f k = at_err (λ (x : Found). IsRead s p i n x) (λ (x : Stop). Stopped s (part p) i n x) r e q
    (stopped s (part p) i n h j m e f k)

pub as_found : {s : Stream} {p : Part} {i : ℕ} {n : Counts} {j : ℕ} {v : Tree} (f : Found) (m : CountsCode) → Reads expression_of s
    (part p) i n j (counts_view m) v → (f.next ≡ j) × (f.counts ≡ m) → tree_of f ≡ v → IsRead s p i n f
as_found f m r e t = record {
  syntax = r.syntax;
  run = rw (e.0, e.1) r.run;
  is = t ∙ r.is;
}

-- what another part's reader answered is this part's answer
pub lifted : (s : Stream) (p q : Part) (i : ℕ) (n : Counts) (r : Result Found Stop) → ((f : Found) → IsRead s q i n f → IsRead s p i n f)
    → Lead s (part p) i n (part q) i n → Answers s q i n r → Answers s p i n r
lifted s p q i n (Ok f) g l x = g f x
lifted s p q i n (Err e) g l x = stopped s (part p) i n (part q) i n e l x
