-- Items: the one of the four forms that is read.
use Rattle.std.proofs.Common.{◌≡◌, ℕ, List, [], ◌∷◌, ◌++◌, append_assoc, ap, ◌∙◌}
use Rattle.lus_tree.specs.Reason.{Refused}
use Rattle.lus_tree.specs.Tree.{Statement}
use Rattle.lus_lexer.specs.declared.token.Class.TheVariants as C
use Rattle.lus_lexer.specs.declared.token.Sign.TheVariants as S
use Rattle.lus_lexer.specs.declared.token.Keyword.TheVariants as K
use Rattle.lus_lexer.specs.declared.token.Annotation.TheVariants as A
use Rattle.lus_grammar.specs.Stream.{Stream}
use Rattle.lus_grammar.specs.Phrase.{Phrase, part, one_of, repeated, limited, ◌⨾◌, optional, word, sign}
use Rattle.lus_grammar.specs.Phrase as P
use Rattle.lus_grammar.specs.Grammar.{semicolon, labelled}
use Rattle.lus_grammar.specs.Starts.{Enters, Passes}
use Rattle.lus_grammar.specs.Syntax.{Counts, Syntax, node, this, that, some}
use Rattle.lus_grammar.specs.Run.{line, line_stop, this_one, this_stop, that_one, that_stop, again, later_stop, next_stop}
use Rattle.lus_grammar.specs.Answers.{Reads, Refuses}
use Rattle.lus_grammar.specs.Programs.{items_of}
use Rattle.lus_reader.specs.Leads.{Leads}
use Rattle.lus_reader.specs.Values.{item_of, equation_of, assertion_of, property_of, main_of, before}
use Rattle.lus_reader.proofs.Stops.{refuses_by}

abbrev pub equation_phrase : Phrase
equation_phrase = part P.Left ⨾ sign S.Equals ⨾ limited P.Expression ⨾ semicolon

abbrev pub assertion_phrase : Phrase
assertion_phrase = word K.Assert ⨾ limited P.Expression ⨾ semicolon

abbrev pub property_phrase : Phrase
property_phrase = one_of (C.Keyword K.Check ∷ C.Annotation A.Property ∷ []) ⨾ labelled

abbrev pub main_phrase : Phrase
main_phrase = one_of (C.Annotation A.Main ∷ []) ⨾ optional semicolon

pub an_equation : (s : Stream) (i j : ℕ) (n m : Counts) (v : Statement) → Enters s i equation_phrase
    → Reads equation_of s equation_phrase i n j m (before v) → Reads item_of s (part P.Item) i n j m (before v)
an_equation s i j n m v e r = record { syntax = node P.Item (this r.syntax); run = line (this_one e r.run); is = r.is }

pub no_equation : (s : Stream) (i : ℕ) (n : Counts) (r : Refused) → Enters s i equation_phrase → Refuses s equation_phrase i n r → Refuses s (part P.Item) i n r
no_equation s i n r e h = refuses_by (λ d k u. line_stop (this_stop e u)) h

pub an_assertion : (s : Stream) (i j : ℕ) (n m : Counts) (v : Statement) → Passes s i equation_phrase → Enters s i assertion_phrase
    → Reads assertion_of s assertion_phrase i n j m (before v) → Reads item_of s (part P.Item) i n j m (before v)
an_assertion s i j n m v p e r = record { syntax = node P.Item (that (this r.syntax)); run = line (that_one p (this_one e r.run)); is = r.is }

pub no_assertion : (s : Stream) (i : ℕ) (n : Counts) (r : Refused) → Passes s i equation_phrase → Enters s i assertion_phrase
    → Refuses s assertion_phrase i n r → Refuses s (part P.Item) i n r
no_assertion s i n r p e h = refuses_by (λ d k u. line_stop (that_stop p (this_stop e u))) h

pub a_property : (s : Stream) (i j : ℕ) (n m : Counts) (v : Statement) → Passes s i equation_phrase → Passes s i assertion_phrase
    → Enters s i property_phrase → Reads property_of s property_phrase i n j m (before v) → Reads item_of s (part P.Item) i n j m (before v)
a_property s i j n m v p q e r = record {
  syntax = node P.Item (that (that (this r.syntax)));
  run = line
      (that_one p (that_one q (this_one e r.run)));
  is = r.is;
}

pub no_property : (s : Stream) (i : ℕ) (n : Counts) (r : Refused) → Passes s i equation_phrase → Passes s i assertion_phrase
    → Enters s i property_phrase → Refuses s property_phrase i n r → Refuses s (part P.Item) i n r
no_property s i n r p q e h = refuses_by (λ d k u. line_stop (that_stop p (that_stop q (this_stop e u)))) h

pub a_main : (s : Stream) (i j : ℕ) (n m : Counts) (v : Statement) → Passes s i equation_phrase → Passes s i assertion_phrase
    → Passes s i property_phrase → Reads main_of s main_phrase i n j m (before v) → Reads item_of s (part P.Item) i n j m (before v)
a_main s i j n m v p q e r = record { syntax = node P.Item (that (that (that r.syntax))); run = line (that_one p (that_one q (that_one e r.run))); is = r.is }

pub no_main : (s : Stream) (i : ℕ) (n : Counts) (r : Refused) → Passes s i equation_phrase → Passes s i assertion_phrase
    → Passes s i property_phrase → Refuses s main_phrase i n r → Refuses s (part P.Item) i n r
no_main s i n r p q e h = refuses_by (λ d k u. line_stop (that_stop p (that_stop q (that_stop e u)))) h

-- ---- bodies

abbrev pub BodyLeads : Stream → ℕ → Counts → List Statement → ℕ → Counts → Type 0
BodyLeads s i n front k m = Leads items_of items_of s (repeated (part P.Item)) (repeated (part P.Item)) i n front k m

pub body_none : (s : Stream) (i : ℕ) (n : Counts) (front : List Statement) → front ≡ [] → BodyLeads s i n front i n
body_none s i n front e = record { reads = λ j o xs r. rw e r; refuses = λ r h. h }

pub body_next : (s : Stream) (i k j : ℕ) (n m o : Counts) (front next : List Statement) (v : Statement) → BodyLeads s i n front k m
    → Enters s k (part P.Item) → Reads item_of s (part P.Item) k m j o (before v) → next ≡ front ++ v ∷ []
    → BodyLeads s i n next j o
body_next s i k j n m o front next v h e r q = record {
  reads = λ l p xs t. rw (q, append_assoc) (h.reads l p (v ∷ xs) (record {
    syntax = some r.syntax t.syntax;
    run = again e r.run t.run;
    is = ap (λ x. v ∷ x) t.is ∙ ap (λ (f : Syntax → List Statement). f t.syntax) r.is;
  }));
  refuses = λ x st. h.refuses x (refuses_by (λ d l u. later_stop e r.run u) st);
}

pub body_stuck : (s : Stream) (i k : ℕ) (n m : Counts) (front : List Statement) (r : Refused) → BodyLeads s i n front k m → Enters s k
    (part P.Item) → Refuses s (part P.Item) k m r → Refuses s (repeated (part P.Item)) i n r
body_stuck s i k n m front r h e st = h.refuses r (refuses_by (λ d l u. next_stop e u) st)
