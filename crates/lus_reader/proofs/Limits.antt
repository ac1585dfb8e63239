-- Where the limit on an expression is kept and where it is passed: what a reading of the tokens up to the limit is.
use Rattle.std.proofs.Common.{◌≡◌, ℕ, ◌+◌, ◌<◌, ◌≤◌, ◌⊎◌, inl, inr, List, [], ◌∷◌, length, take, drop, refl, sym, ap, ◌∙◌, arith}
use Rattle.std.proofs.lemmas.List.{take-append-drop}
use Rattle.lus_tree.specs.Tree.{Expression as Tree}
use Rattle.lus_tree.specs.Reason.{Refused, memory, too_large as too_large_reason}
use Rattle.lus_lexer.specs.declared.token.Token.{Token}
use Rattle.lus_lexer.specs.Tokens.{whole as whole_text}
use Rattle.lus_lexer.specs.Laws.{Lie}
use Rattle.lus_lexer.proofs.Order.{in_order}
use Rattle.lus_grammar.specs.Answers.{Reads, Refuses, IsText, IsNoText, out_of_memory, stopped}
use Rattle.lus_grammar.specs.Phrase.{part, limited, Expression}
use Rattle.lus_grammar.specs.Run.{Run, stop, unexpected, too_large, within, within_stop, past}
use Rattle.lus_grammar.specs.Source.{limit, AreTokens, IsReason, past_limit}
use Rattle.lus_grammar.specs.Stream.{Stream, Agree, stream}
use Rattle.lus_grammar.specs.Syntax.{Counts, node}
use Rattle.lus_grammar.specs.Trees.{expression_of}
use Rattle.lus_grammar.specs.Answers as W
use Rattle.lus_grammar.proofs.Over.{over_read, over_stop}
use Rattle.lus_grammar.proofs.Readings.{whole, stopped as stops}
use Rattle.lus_reader.specs.declared.stop.Found.{Found}
use Rattle.lus_reader.specs.Look.{AreFirst}
use Rattle.lus_reader.specs.Outcome.{IsRead, tree_of}
use Rattle.lus_reader.specs.View.{counts_view}
use Rattle.lus_reader.proofs.Fronts.{moved, opened, opened_stop, front_agrees}

abbrev pub front : ℕ → List Token → List Token
front i tokens = take (i + 1000 + 1) tokens

pub first_ones : (bytes : List ℕ) (tokens : List Token) (z : ℕ) → AreTokens bytes tokens → AreFirst bytes (take z tokens)
first_ones bytes tokens z h = record { rest = drop z tokens; cut = rw (take-append-drop z tokens) h }

lie_length : (b : List ℕ) (i : ℕ) (ts : List Token) → Lie b i ts → i + length ts ≤ length b
lie_length b i [] h = omega (arith, h)
lie_length b i (t ∷ ts) h = let r = lie_length b t.to ts h.3 in omega (arith, r, h.0, h.1)

-- there are no more tokens than bytes
pub few_tokens : (bytes : List ℕ) (tokens : List Token) → AreTokens bytes tokens → length tokens ≤ length bytes
few_tokens bytes tokens h = let r = lie_length bytes 0 tokens (in_order bytes 0 tokens whole_text h) in omega arith

same_back : (bytes : List ℕ) (tokens : List Token) (z : ℕ) → Agree (stream bytes tokens) (stream bytes (take z tokens)) z
same_back bytes tokens z = λ k q. sym (front_agrees bytes tokens z k q)

pub read_within : (bytes : List ℕ) (tokens : List Token) (i : ℕ) (n : Counts) (f : Found) → IsRead
    (stream bytes (front i tokens)) Expression i n f → f.next ≤ i + 1000 → Reads expression_of (stream bytes tokens)
    (limited Expression) i n f.next (counts_view f.counts) (tree_of f)
read_within bytes tokens i n f x h =
    let o = opened x.run in
    record {
      syntax = node Expression o.inner;
      run = within (moved (i + 1000 + 1) (front_agrees bytes tokens (i + 1000 + 1)) o.run (omega arith)) h;
      is = x.is ∙ ap expression_of o.is;
    }

pub read_past : (bytes : List ℕ) (tokens : List Token) (i : ℕ) (n : Counts) (f : Found) → IsRead
    (stream bytes (front i tokens)) Expression i n f → i + 1000 < f.next → Run limit (stream bytes tokens) (limited Expression) i n
    (stop too_large (i + 1000))
read_past bytes tokens i n f x h = past (over_read (same_back bytes tokens (i + 1000 + 1)) (opened x.run).run h)

pub stop_within : (bytes : List ℕ) (tokens : List Token) (i : ℕ) (n : Counts) (k : ℕ) → Run limit (stream bytes (front i tokens))
    (part Expression) i n (stop unexpected k) → k ≤ i + 1000 → Run limit (stream bytes tokens) (limited Expression) i n (stop unexpected k)
stop_within bytes tokens i n k r h = within_stop (moved (i + 1000 + 1) (front_agrees bytes tokens (i + 1000 + 1)) (opened_stop r) (omega arith)) h

pub stop_past : (bytes : List ℕ) (tokens : List Token) (i : ℕ) (n : Counts) (k : ℕ) → Run limit (stream bytes (front i tokens))
    (part Expression) i n (stop unexpected k) → i + 1000 < k → Run limit (stream bytes tokens) (limited Expression) i n
    (stop too_large (i + 1000))
stop_past bytes tokens i n k r h = past (over_stop (same_back bytes tokens (i + 1000 + 1)) (omega arith) (opened_stop r) h)

-- what is refused, by the place and the reason that are told
pub refused_large : (s : Stream) (i : ℕ) (n : Counts) (k : ℕ) (r : Refused) → Run limit s (limited Expression) i n (stop too_large k)
    → r.at ≡ (s k).at → r.reason ≡ too_large_reason → Refuses s (limited Expression) i n r
refused_large s i n k r d a e = stopped d a (rw e past_limit)

pub refused_token : (s : Stream) (i : ℕ) (n : Counts) (k : ℕ) (r : Refused) → Run limit s (limited Expression) i n (stop unexpected k)
    → r.at ≡ (s k).at → (r.reason ≡ memory) ⊎ IsReason (s k) unexpected r.reason → Refuses s (limited Expression) i n r
refused_token s i n k r d a (inl e) = out_of_memory e
refused_token s i n k r d a (inr e) = stopped d a e

-- what readings are by the grammar's texts alone
pub is_text : {s : Stream} {i j : ℕ} {n m : Counts} {v : Tree} → Reads expression_of s (limited Expression) i n j m v
    → IsText expression_of s (limited Expression) i n j m v
is_text x = record { syntax = x.syntax; whole = whole x.run refl; is = x.is }

pub is_no_text : {s : Stream} {i : ℕ} {n : Counts} {r : Refused} → Refuses s (limited Expression) i n r → IsNoText s (limited Expression) i n r
is_no_text (out_of_memory e) = W.out_of_memory e
is_no_text (stopped {c = c} {k = k} d a e) = W.stopped (stops c k d (omega arith) refl) a e
