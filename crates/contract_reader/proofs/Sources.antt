-- What is read of a whole source.
use Rattle.std.proofs.Common.{◌≡◌, ℕ, ◌<◌, inl, inr, refl, ap, subst, arith, List, length, None}
use Rattle.lus_tree.specs.declared.place.Pos.{Pos}
use Rattle.lus_tree.specs.declared.refusal.What.{What}
use Rattle.lus_tree.specs.declared.refusal.What.TheVariants.{Memory}
use Rattle.lus_tree.specs.Tree.{Program}
use Rattle.lus_tree.specs.Reason.{Refused, what_view}
use Rattle.lus_lexer.specs.declared.token.Token.{Token as Tok}
use Rattle.lus_lexer.specs.Promise.{Refused as Unread}
use Rattle.lus_grammar.specs.Stream.{Stream, stream}
use Rattle.lus_grammar.specs.Syntax.{Counts, none_before, Syntax}
use Rattle.lus_grammar.specs.Text.{Text}
use Rattle.lus_grammar.specs.Run.{Cause, unexpected, too_large}
use Rattle.lus_grammar.specs.Reading.{Whole, Stops}
use Rattle.lus_grammar.specs.Programs.{program_of}
use Rattle.lus_grammar.specs.Answers.{Reads, Refuses, out_of_memory, stopped}
use Rattle.lus_grammar.specs.Source.{limit, AreTokens, program, IsSource, IsFirst, IsRefusal, uncut, outside}
use Rattle.lus_grammar.proofs.Readings.{whole, stopped as stops}
use Rattle.lus_reader.specs.Marks.{RefusesMark}
use Rattle.lus_reader.proofs.Cuts.{default, mark_at}

all_read : (limit' j l : ℕ) (s : Stream) (m : Counts) (x : Syntax) → j ≡ l → Text limit' j s program 0 j none_before m x
    → Text limit' l s program 0 l none_before m x
all_read limit' j l s m x e d = subst (λ (z : ℕ). Text limit' z s program 0 z none_before m x) e d

-- all tokens are read
pub is_source : (bytes : List ℕ) (ts : List Tok) (j : ℕ) (m : Counts) (p : Program) → AreTokens bytes ts → Reads program_of
    (stream bytes ts) program 0 none_before j m p → j ≡ length ts → IsSource bytes p
is_source bytes ts j m p cut r e = record {
  tokens = ts;
  cut = cut;
  counts = m;
  syntax = r.syntax;
  text = all_read limit j (length ts) (stream bytes ts) m r.syntax e (whole r.run refl).text;
  is = r.is;
}

first_stopped : (s : Stream) (c : Cause) (k : ℕ) → Stops limit s program 0 none_before c k → IsFirst s k c
first_stopped s unexpected k h = (h.can, h.cannot, λ m x e d. h.unfinished m x d)
first_stopped s too_large k h = (h.can, h.could, h.cannot)

-- a reading stops
pub is_outside : (bytes : List ℕ) (ts : List Tok) (r : Refused) → AreTokens bytes ts → Refuses (stream bytes ts) program 0 none_before r → IsRefusal bytes r
is_outside bytes ts r cut (out_of_memory e) = inl e
is_outside bytes ts r cut (stopped {c = c} {k = k} q e w) = inr (outside (record {
  tokens = ts;
  cut = cut;
  k = k;
  cause = c;
  first = first_stopped (stream bytes ts) c k (stops c k q (omega arith) refl);
  at = e;
  reason = w;
}))

some_class : (bytes : List ℕ) (ts : List Tok) (j : ℕ) → j < length ts → (stream bytes ts j).class ≡ None → ⊥
some_class bytes ts j lt e = let h = ap (λ z. z.class) (mark_at bytes ts j default lt) in cc

first_read : (bytes : List ℕ) (ts : List Tok) (j : ℕ) (m : Counts) (x : Syntax) → j < length ts → Whole limit
    (stream bytes ts) program 0 none_before j m x → IsFirst (stream bytes ts) j unexpected
first_read bytes ts j m x lt w = (
  record { t = stream bytes ts; j = j; m = m; x = x; agree = λ k le. refl; past = omega arith; text = w.text },
  w.no_more,
  λ m' x' e d. some_class bytes ts j lt e,
)

-- a token stands behind the declarations
pub is_behind : (bytes : List ℕ) (ts : List Tok) (j : ℕ) (m : Counts) (p : Program) (r : Refused) → AreTokens bytes ts → Reads program_of
    (stream bytes ts) program 0 none_before j m p → j < length ts → RefusesMark (stream bytes ts) j r → IsRefusal bytes r
is_behind bytes ts j m p r cut a lt (inl e) = inl e
is_behind bytes ts j m p r cut a lt (inr h) = inr (outside (record {
  tokens = ts;
  cut = cut;
  k = j;
  cause = unexpected;
  first = first_read bytes ts j m a.syntax lt (whole a.run refl);
  at = h.0;
  reason = h.1;
}))

-- the tokens are refused
pub is_uncut : (bytes : List ℕ) (at : Pos) (w : What) → Unread bytes at w → IsRefusal bytes (record { at = at; reason = what_view w })
is_uncut bytes at Memory h = inl refl
is_uncut bytes at w h = inr (uncut (record { tokens = h.0; what = w; fault = h.1; reason = refl }))
