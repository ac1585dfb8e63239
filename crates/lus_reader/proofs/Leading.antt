-- How lists go on.
use Rattle.std.proofs.Common.{◌≡◌, ℕ, ◌+◌, ◌-◌, inl, Some, List, [], ◌∷◌, ◌++◌, length, take, drop, append-nil, append_assoc, refl, sym, ap, subst, arith}
use Rattle.lus_tree.specs.Reason.{Refused}
use Rattle.lus_tree.specs.Tree.{Name, Spelled}
use Rattle.lus_lexer.specs.declared.token.Class.TheVariants as C
use Rattle.lus_lexer.specs.declared.token.Sign.TheVariants as S
use Rattle.lus_grammar.specs.Stream.{Stream}
use Rattle.lus_grammar.specs.Phrase.{Phrase, part, repeated, ◌⨾◌, sign, identifier, Names}
use Rattle.lus_grammar.specs.Starts.{class_code, Enters, Passes}
use Rattle.lus_grammar.specs.Syntax.{Counts, Syntax, leaf, node, ◌·◌, none, some}
use Rattle.lus_grammar.specs.Run.{Run, read, token, line, line_stop, both, second_stop, again, later_stop, next_stop, no_more}
use Rattle.lus_grammar.specs.Answers.{Reads, Refuses}
use Rattle.lus_grammar.specs.Source.{limit}
use Rattle.lus_grammar.specs.Trees.{spelled}
use Rattle.lus_grammar.specs.Programs.{unquoted, names_of, more_names_of}
use Rattle.lus_reader.specs.Leads.{Leads}
use Rattle.lus_reader.proofs.Classes.{enters_by}
use Rattle.lus_reader.proofs.Stops.{refuses_by}

pub inner_text : (x w : Name) → x ≡ w → take (length x - 1 - 1) (drop 1 x) ≡ unquoted w
inner_text x w e = rw e (ap (λ k. take k (drop 1 w)) (omega arith))

-- a list ends where nothing goes on
pub leads_end : {V : Type 0} (w v : Syntax → List V) (s : Stream) (g a : Phrase) (i : ℕ) (n : Counts) (front : List V) (k : ℕ) (m : Counts)
    → Leads w v s g (repeated a) i n front k m → v none ≡ [] → Passes s k a → Reads w s g i n k m front
leads_end w v s g a i n front k m h e p = subst (λ (x : List _). Reads w s g i n k m x) (append-nil front)
    (h.reads k m [] (record { syntax = none; run = no_more p; is = sym e }))

-- ---- names

abbrev pub comma_name : Phrase
comma_name = sign S.Comma ⨾ identifier

pub names_first : (s : Stream) (i j : ℕ) (n : Counts) (front : List Spelled) → Run limit s identifier i n (read j n (leaf (s i))) → front ≡ spelled (s i) ∷ []
    → Leads names_of more_names_of s (part Names) (repeated comma_name) i n front j n
names_first s i j n front run e = record {
  reads = λ k o xs r. record { syntax = node Names (leaf (s i) · r.syntax); run = line (both run r.run); is = rw (e, r.is) refl };
  refuses = λ r h. refuses_by (λ c k st. line_stop (second_stop run st)) h;
}

-- at a comma
comma_enters : (s : Stream) (k : ℕ) → (s k).class ≡ Some (C.Sign S.Comma) → Enters s k comma_name
comma_enters s k e = enters_by s k (C.Sign S.Comma) (class_code (C.Sign S.Comma) ∷ []) refl e

pub names_next : (s : Stream) (i k j : ℕ) (n : Counts) (front next : List Spelled) → Leads names_of more_names_of s (part Names)
    (repeated comma_name) i n front k n
    → (s k).class ≡ Some (C.Sign S.Comma) → Run limit s identifier (k + 1) n (read j n (leaf (s (k + 1)))) → next ≡ front ++ spelled (s (k + 1)) ∷ []
    → Leads names_of more_names_of s (part Names) (repeated comma_name) i n next j n
names_next s i k j n front next h c run e = record {
  reads = λ l o xs r. rw (e, append_assoc) (h.reads l o (spelled (s (k + 1)) ∷ xs) (record {
    syntax = some (leaf (s k) · leaf (s (k + 1))) r.syntax;
    run = again (comma_enters s k c) (both (token (inl c)) run) r.run;
    is = rw r.is refl;
  }));
  refuses = λ r st. h.refuses r (refuses_by (λ d l u. later_stop (comma_enters s k c) (both (token (inl c)) run) u) st);
}

pub names_stuck : (s : Stream) (i k : ℕ) (n : Counts) (front : List Spelled) (r : Refused) → Leads names_of more_names_of s (part Names)
    (repeated comma_name) i n front k n
    → (s k).class ≡ Some (C.Sign S.Comma) → Refuses s identifier (k + 1) n r → Refuses s (part Names) i n r
names_stuck s i k n front r h c st = h.refuses r (refuses_by (λ d l u. next_stop (comma_enters s k c) (second_stop (token (inl c)) u)) st)
