-- What the exits of readers owe.
use Rattle.std.proofs.Common.{◌≡◌, ℕ, ◌⊎◌, inl, inr, sym, ap, subst, ◌∙◌, IfErr, IfOk, Result, Ok, Err}
use Rattle.std.proofs.lemmas.Result.{err_from_is_err_and}
use Rattle.std.specs.Result.{IsErrAnd}
use Rattle.lus_tree.specs.Reason.{Refused, memory}
use Rattle.lus_grammar.specs.Stream.{Stream}
use Rattle.lus_grammar.specs.Phrase.{Phrase}
use Rattle.lus_grammar.specs.Syntax.{Counts}
use Rattle.lus_grammar.specs.Run.{Cause, unexpected, Run, stop}
use Rattle.lus_grammar.specs.Answers.{Refuses, out_of_memory, stopped}
use Rattle.lus_grammar.specs.Source.{limit, IsReason}
use Rattle.lus_reader.specs.Marks.{RefusesMark}

-- the exit of a `?`
pub at_err : {T E : Type 0} (P : E → Type 0) (r : Result T E) (e : E) → IsErrAnd r (λ x. x ≡ e) → P e → IfErr r P
at_err P r e h p =
    let (y, u, w) = err_from_is_err_and r h in
    subst (λ (z : Result _ _). IfErr z P) (sym (u ∙ ap Err w)) p

-- a mark that can't be taken
pub refused : {s : Stream} {g : Phrase} {i k : ℕ} {n : Counts} {r : Refused} → RefusesMark s k r → Run limit s g i n (stop unexpected k) → Refuses s g i n r
refused (inl e) run = out_of_memory e
refused (inr h) run = stopped run h.0 h.1

-- what is refused in a part is refused in the whole
pub refuses_by : {s : Stream} {g h : Phrase} {i j : ℕ} {n m : Counts} {r : Refused} →
    ((c : Cause) (k : ℕ) → Run limit s g i n (stop c k) → Run limit s h j m (stop c k)) → Refuses s g i n r → Refuses s h j m r
refuses_by f (out_of_memory e) = out_of_memory e
refuses_by f (stopped run at is) = stopped (f _ _ run) at is

-- why a mark is refused
pub refuses_mark : (s : Stream) (k : ℕ) (r : Refused) → r.at ≡ (s k).at → (r.reason ≡ memory) ⊎ IsReason (s k) unexpected r.reason → RefusesMark s k r
refuses_mark s k r e (inl m) = inl m
refuses_mark s k r e (inr h) = inr (e, h)

pub if_ok_by : {T E : Type 0} {P Q : T → Type 0} (r : Result T E) → ((x : T) → P x → Q x) → IfOk r P → IfOk r Q
if_ok_by (Ok x) f h = f x h
if_ok_by (Err e) f h = tt

pub if_err_by : {T E : Type 0} {P Q : E → Type 0} (r : Result T E) → ((e : E) → P e → Q e) → IfErr r P → IfErr r Q
if_err_by (Ok x) f h = tt
if_err_by (Err e) f h = f e h
