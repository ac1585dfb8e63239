-- Declared streams.
use Rattle.std.proofs.Common.{◌≡◌, ℕ, ◌+◌, inl, inr, Some, None, List, [], ◌∷◌, ◌++◌, append_assoc, refl}
use Rattle.lus_tree.specs.Reason.{Refused}
use Rattle.lus_tree.specs.Tree.{Variable}
use Rattle.lus_lexer.specs.declared.token.Class.{Class}
use Rattle.lus_lexer.specs.declared.token.Class.TheVariants as C
use Rattle.lus_lexer.specs.declared.token.Sign.TheVariants as S
use Rattle.lus_grammar.specs.Stream.{Stream}
use Rattle.lus_grammar.specs.Phrase.{Phrase, part, one_of, ◌⨾◌, optional}
use Rattle.lus_grammar.specs.Phrase as P
use Rattle.lus_grammar.specs.Grammar.{semicolon}
use Rattle.lus_grammar.specs.Starts.{class_code, Enters, Passes}
use Rattle.lus_grammar.specs.Text.{IsOneOf}
use Rattle.lus_grammar.specs.Syntax.{Counts, leaf, node, ◌·◌, absent, present}
use Rattle.lus_grammar.specs.Run.{Cause, Run, stop, token, no_token, line, line_stop, both, first_stop, second_stop, once, not_once, once_stop}
use Rattle.lus_grammar.specs.Answers.{Reads, Refuses}
use Rattle.lus_grammar.specs.Source.{limit}
use Rattle.lus_grammar.specs.Programs.{group_of, groups_of}
use Rattle.lus_reader.specs.Leads.{Leads}
use Rattle.lus_reader.specs.Values.{more_of}
use Rattle.lus_reader.proofs.Classes.{enters_by}
use Rattle.lus_reader.proofs.Stops.{refuses_by}

neither : (s : Stream) (i : ℕ) (b d : Class) → ((s i).class ≡ Some b → ⊥) → (IsOneOf s i (d ∷ []) → ⊥) → IsOneOf s i (b ∷ d ∷ []) → ⊥
neither s i b d f g (inl e) = f e
neither s i b d f g (inr h) = g h

-- no token of one class, and none of the other
pub no_token_too : (s : Stream) (i k : ℕ) (n : Counts) (c : Cause) (b d : Class) → ((s i).class ≡ Some b → ⊥) → Run limit s
    (one_of (d ∷ [])) i n (stop c k) → Run limit s (one_of (b ∷ d ∷ [])) i n (stop c k)
no_token_too s i k n c b d f (no_token g) = no_token (neither s i b d f g)

-- ---- groups

abbrev pub GroupsLead : Stream → ℕ → Counts → List Variable → ℕ → Type 0
GroupsLead s i n front k = Leads groups_of groups_of s (part P.Groups) (part P.Groups) i n front k n

pub groups_none : (s : Stream) (i : ℕ) (n : Counts) (front : List Variable) → front ≡ [] → GroupsLead s i n front i
groups_none s i n front e = record {
  reads = λ k o xs r. rw e r;
  refuses = λ r h. h;
}

pub groups_stuck : (s : Stream) (i k : ℕ) (n : Counts) (front : List Variable) (r : Refused) → GroupsLead s i n front k → Refuses s
    (part P.Group) k n r → Refuses s (part P.Groups) i n r
groups_stuck s i k n front r h st = h.refuses r (refuses_by (λ d l u. line_stop (first_stop u)) st)

abbrev GroupRead : Stream → ℕ → Counts → List Variable → ℕ → List Variable → Type 0
GroupRead s k n front j next = Reads (more_of front (group_of None)) s (part P.Group) k n j n next

pub groups_last : (s : Stream) (i k j : ℕ) (n : Counts) (front next : List Variable) → GroupsLead s i n front k
    → GroupRead s k n front j next → Passes s j semicolon → Reads groups_of s (part P.Groups) i n j n next
groups_last s i k j n front next h g p = rw g.is (h.reads j n (group_of None g.syntax)
    (record { syntax = node P.Groups (g.syntax · absent); run = line (both g.run (not_once p)); is = refl }))

semicolon_enters : (s : Stream) (k : ℕ) → (s k).class ≡ Some (C.Sign S.Semicolon) → (b : Phrase) → Enters s k (semicolon ⨾ b)
semicolon_enters s k e b = enters_by s k (C.Sign S.Semicolon) (class_code (C.Sign S.Semicolon) ∷ []) refl e

pub groups_ended : (s : Stream) (i k j : ℕ) (n : Counts) (front next : List Variable) → GroupsLead s i n front k → GroupRead s k n front j next
    → (s j).class ≡ Some (C.Sign S.Semicolon) → Passes s (j + 1) (part P.Groups) → Reads groups_of s (part P.Groups) i n (j + 1) n next
groups_ended s i k j n front next h g e p = rw g.is (h.reads (j + 1) n (group_of None g.syntax) (record {
  syntax = node P.Groups (g.syntax · present (leaf (s j) · absent));
  run = line (both g.run (once (semicolon_enters s j e (optional (part P.Groups))) (both (token (inl e)) (not_once p))));
  is = refl;
}))

pub groups_next : (s : Stream) (i k j : ℕ) (n : Counts) (front next : List Variable) → GroupsLead s i n front k → GroupRead s k n front j next
    → (s j).class ≡ Some (C.Sign S.Semicolon) → Enters s (j + 1) (part P.Groups) → GroupsLead s i n next (j + 1)
groups_next s i k j n front next h g e p = record {
  reads = λ l o xs r. rw (g.is, append_assoc) (h.reads l o (group_of None g.syntax ++ xs) (record {
    syntax = node P.Groups (g.syntax · present (leaf (s j) · present r.syntax));
    run = line (both g.run (once (semicolon_enters s j e (optional (part P.Groups))) (both (token (inl e)) (once p r.run))));
    is = rw r.is refl;
  }));
  refuses = λ r st. h.refuses r (refuses_by (λ d l u. line_stop (second_stop g.run
      (once_stop (semicolon_enters s j e (optional (part P.Groups))) (second_stop (token (inl e)) (once_stop p u))))) st);
}
