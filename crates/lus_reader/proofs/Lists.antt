-- Lists of expressions.
use Rattle.std.proofs.Common.{◌≡◌, ℕ, ◌+◌, inl, Some, List, [], ◌∷◌, ◌++◌, Result, Ok, Err, refl, sym, ap, ◌∙◌}
use Rattle.lus_tree.specs.Tree.{Expression as Tree, Expressions as Trees, no_more, more}
use Rattle.lus_tree.specs.View.{joined}
use Rattle.lus_lexer.specs.declared.token.Class.TheVariants as C
use Rattle.lus_lexer.specs.declared.token.Sign.TheVariants as S
use Rattle.lus_grammar.specs.Answers.{Reads}
use Rattle.lus_grammar.specs.Phrase.{part, optional, Expression, Expressions}
use Rattle.lus_grammar.specs.Run.{Run, read, token, line, line_stop, both, first_stop, second_stop, not_once, once, once_stop, no_more as none_more, again, next_stop, later_stop}
use Rattle.lus_grammar.specs.Source.{limit}
use Rattle.lus_grammar.specs.Starts.{Enters, Passes}
use Rattle.lus_grammar.specs.Stream.{Stream, stream}
use Rattle.lus_grammar.specs.Syntax.{Counts, Syntax, leaf, node, ◌·◌, absent, present, none, some}
use Rattle.lus_grammar.specs.Trees.{expression_of, arguments_of, listed_of}
use Rattle.lus_reader.specs.Look.{Differs}
use Rattle.lus_lexer.specs.declared.token.Token.{Token}
use Rattle.lus_reader.specs.declared.counts.Counts.{Counts as CountsCode}
use Rattle.lus_reader.specs.declared.stop.Found.{Found}
use Rattle.lus_reader.specs.declared.stop.List.{List as Exprs}
use Rattle.lus_reader.specs.declared.stop.Stop.{Stop}
use Rattle.lus_reader.specs.Outcome.{onto, more_expressions, IsRead, More, Argued, tree_of, trees_of}
use Rattle.lus_reader.specs.View.{counts_view}
use Rattle.lus_reader.proofs.Exits.{Lead, lead_at, stopped}

pub onto_joined : (xs : List Tree) → onto xs no_more ≡ joined xs
onto_joined [] = refl
onto_joined (x ∷ xs) = ap (more x) (onto_joined xs)

pub onto_added : (xs : List Tree) (y : Tree) (ys : Trees) → onto (xs ++ (y ∷ [])) ys ≡ onto xs (more y ys)
onto_added [] y ys = refl
onto_added (x ∷ xs) y ys = ap (more x) (onto_added xs y ys)

-- { "," expr } behind the list xs: some were read, and the list is ys
pub record IsListed (s : Stream) (xs : List Tree) (i : ℕ) (n : Counts) (ys : List Tree) (j : ℕ) (m : Counts) : Type 0 where
  pub build : Syntax → Syntax
  pub on : (k : ℕ) (o : Counts) (x : Syntax) → Run limit s more_expressions j m (read k o x) → Run limit s more_expressions i n (read k o (build x))
  pub off : Lead s more_expressions i n more_expressions j m
  pub is : (x : Syntax) → onto xs (listed_of (build x)) ≡ onto ys (listed_of x)

pub listed_start : (s : Stream) (xs : List Tree) (i : ℕ) (n : Counts) → IsListed s xs i n xs i n
listed_start s xs i n = record { build = λ x. x; on = λ k o x r. r; off = λ k r. r; is = λ x. refl }

pub listed_end : {s : Stream} {xs ys : List Tree} {i j : ℕ} {n m : Counts} → IsListed s xs i n ys j m → Differs s j (C.Sign S.Comma) → Reads
    (λ x. onto xs (listed_of x)) s more_expressions i n j m (joined ys)
listed_end {s} {xs} {ys} {i} {j} {n} {m} x d = record {
  syntax = x.build none;
  run = x.on j m none (none_more d.passes);
  is = sym
      (onto_joined ys) ∙ sym (x.is none);
}

pub listed_off : {s : Stream} {xs ys : List Tree} {i j : ℕ} {n m : Counts} → IsListed s xs i n ys j m → (s j).class ≡ Some (C.Sign S.Comma)
    → Lead s more_expressions i n (part Expression) (j + 1) m
listed_off x e = λ k r. x.off k (next_stop (rw e refl) (second_stop (token (inl e)) r))

pub listed_on : {s : Stream} {xs ys zs : List Tree} {i j k : ℕ} {n m u : Counts} {y : Tree} → IsListed s xs i n ys j m → (s j).class ≡ Some
    (C.Sign S.Comma) → Reads expression_of s (part Expression) (j + 1) m k u y → zs ≡ ys ++ (y ∷ []) → IsListed s xs i n zs k u
listed_on {s} {xs} {ys} {zs} {i} {j} {k} {n} {m} {u} {y} x e z h = record {
  build = λ w. x.build (some (leaf (s j) · z.syntax) w);
  on = λ q a w r. x.on q a (some (leaf (s j) · z.syntax) w) (again (rw e refl) (both (token (inl e)) z.run) r);
  off = λ q r. x.off q (later_stop (rw e refl) (both (token (inl e)) z.run) r);
  is = λ w. x.is (some (leaf (s j) · z.syntax) w) ∙ ap (λ (t : Tree). onto ys (more t (listed_of w))) (sym z.is) ∙ sym
      (onto_added ys y (listed_of w)) ∙ ap (λ (t : List Tree). onto t (listed_of w)) (sym h);
}

-- [ exprs ]
pub argued_none : {s : Stream} {i : ℕ} {n : Counts} → Passes s i (part Expressions) → Reads arguments_of s (optional (part Expressions)) i n i n no_more
argued_none d = record { syntax = absent; run = not_once d; is = refl }

pub argued_first : {s : Stream} {i : ℕ} {n : Counts} → Enters s i (part Expressions) → Lead s (optional (part Expressions)) i n (part Expression) i n
argued_first e = λ k r. once_stop e (line_stop (first_stop r))

pub argued_off : {s : Stream} {i j : ℕ} {n m : Counts} {v : Tree} → Enters s i (part Expressions) → Reads expression_of s
    (part Expression) i n j m v → Lead s (optional (part Expressions)) i n more_expressions j m
argued_off e x = λ k r. once_stop e (line_stop (second_stop x.run r))

pub argued_read : {s : Stream} {i j k : ℕ} {n m u : Counts} {v : Tree} {vs : Trees} {xs : List Tree} → Enters s i (part Expressions)
    → Reads expression_of s (part Expression) i n j m v → xs ≡ v ∷ [] → Reads (λ x. onto xs (listed_of x)) s more_expressions j m k u vs
    → Reads arguments_of s (optional (part Expressions)) i n k u vs
argued_read {v = v} e x h y = record {
  syntax = present (node Expressions (x.syntax · y.syntax));
  run = once e (line (both x.run y.run));
  is = y.is ∙ ap (λ (t : List Tree). onto t (listed_of y.syntax)) h ∙ ap (λ (t : Tree). more t (listed_of y.syntax)) x.is;
}

pub listed_found : {s : Stream} {xs : List Tree} {i : ℕ} {n : Counts} (of : Exprs) (found : Found) (l : Exprs) → IsListed s xs i n
    (trees_of of) of.next (counts_view of.counts) → (s of.next).class ≡ Some (C.Sign S.Comma) → IsRead s Expression (of.next + 1)
    (counts_view of.counts) found → trees_of l ≡ trees_of of ++ (tree_of found ∷ []) → (l.next ≡ found.next) × (l.counts ≡ found.counts)
    → IsListed s xs i n (trees_of l) l.next (counts_view l.counts)
listed_found of found l x e y h r = rw (r.0, r.1) (listed_on x e y h)

-- the same behind no list
pub listed_none : {s : Stream} {j k : ℕ} {u : Counts} {ds : Trees} (l : Exprs) (m : CountsCode) → trees_of l ≡ [] → (l.next ≡ j) ×
    (l.counts ≡ m) → Reads (λ x. onto (trees_of l) (listed_of x)) s more_expressions l.next (counts_view l.counts) k u ds
    → Reads listed_of s more_expressions j (counts_view m) k u ds
listed_none l m h r x = record {
  syntax = x.syntax;
  run = rw (← r.0, ← r.1) x.run;
  is = x.is ∙ ap (λ (t : List Tree). onto t (listed_of x.syntax)) h;
}

pub argued_empty : {s : Stream} {i : ℕ} (l : Exprs) (m : CountsCode) → trees_of l ≡ [] → (l.next ≡ i) × (l.counts ≡ m) → Passes s i
    (part Expressions) → Reads arguments_of s (optional (part Expressions)) i (counts_view m) l.next (counts_view l.counts)
    (joined (trees_of l))
argued_empty l m h r d = record { syntax = absent; run = rw (r.0, r.1) (not_once d); is = ap joined h }

pub argued_all : (bytes : List ℕ) (tokens : List Token) (i : ℕ) (n : CountsCode) (first : Found) (one : Exprs) (r : Result Exprs Stop)
    → Enters (stream bytes tokens) i (part Expressions) → IsRead (stream bytes tokens) Expression i (counts_view n) first
    → trees_of one ≡ tree_of first ∷ [] → (one.next ≡ first.next) × (one.counts ≡ first.counts) → More bytes tokens one r
    → Argued bytes tokens i n r
argued_all bytes tokens i n first one (Ok l) e x h q y =
    let z : Reads (λ x. onto (trees_of one) (listed_of x)) (stream bytes tokens) more_expressions first.next
    (counts_view first.counts) l.next (counts_view l.counts) (joined (trees_of l)) = rw (← q.0, ← q.1) y in
    argued_read e x h z
argued_all bytes tokens i n first one (Err z) e x h q y = stopped (stream bytes tokens) (optional (part Expressions)) i
    (counts_view n) more_expressions one.next (counts_view one.counts) z (lead_at q.0 (ap counts_view q.1) (argued_off e x)) y
