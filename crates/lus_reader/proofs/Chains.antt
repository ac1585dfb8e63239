-- Chains of operators and comparisons.
use Rattle.std.proofs.Common.{◌≡◌, ℕ, ◌+◌, sym, ap}
use Rattle.lus_tree.specs.declared.place.Pos.{Pos}
use Rattle.lus_tree.specs.declared.expression.Operator.{Operator}
use Rattle.lus_tree.specs.Tree.{Expression as Tree, binary}
use Rattle.lus_grammar.specs.Answers.{Reads}
use Rattle.lus_grammar.specs.Grammar.{signs, operand, relations}
use Rattle.lus_grammar.specs.Phrase.{Phrase, Level, part, one_of, repeated, ◌⨾◌, Relation, Unary, Chain, Products, Sums, Conjunctions, Disjunctions}
use Rattle.lus_grammar.specs.Run.{Run, read, token, line, line_stop, both, first_stop, second_stop, not_once, once, once_stop, no_more, again, next_stop, later_stop}
use Rattle.lus_grammar.specs.Source.{limit}
use Rattle.lus_grammar.specs.Starts.{Passes}
use Rattle.lus_grammar.specs.Stream.{Stream}
use Rattle.lus_grammar.specs.Syntax.{Counts, Syntax, leaf, node, ◌·◌, absent, present, none, some}
use Rattle.lus_grammar.specs.Trees.{expression_of, place_of, grouped}
use Rattle.lus_reader.specs.Operators.{IsOperator, IsRelation}
use Rattle.lus_reader.specs.declared.stop.Found.{Found}
use Rattle.lus_reader.specs.Outcome.{IsRead, tree_of}
use Rattle.lus_reader.specs.View.{counts_view}
use Rattle.lus_reader.proofs.Exits.{Lead}

abbrev pub rest : Level → Phrase
rest l = repeated (one_of (signs l) ⨾ part (operand l))

-- operand { operator operand }: some operators were read
pub record IsGrouped (s : Stream) (l : Level) (i : ℕ) (n : Counts) (j : ℕ) (m : Counts) (v : Tree) : Type 0 where
  pub build : Syntax → Syntax
  pub on : (k : ℕ) (o : Counts) (x : Syntax) → Run limit s (rest l) j m (read k o x) → Run limit s (part (Chain l)) i n (read k o (build x))
  pub off : Lead s (part (Chain l)) i n (rest l) j m
  pub is : (x : Syntax) → expression_of (build x) ≡ grouped v x

pub grouped_first : {s : Stream} {l : Level} {i j : ℕ} {n m : Counts} {v : Tree} → Reads expression_of s (part (operand l)) i n j m v → IsGrouped s l i n j m v
grouped_first {s} {l} {i} {j} {n} {m} {v} x = record {
  build = λ w. node (Chain l) (x.syntax · w);
  on = λ k o w r. line (both x.run r);
  off = λ k r. line_stop (second_stop x.run r);
  is = λ w. ap (λ (t : Tree). grouped t w) (sym x.is);
}

pub grouped_end : {s : Stream} {l : Level} {i j : ℕ} {n m : Counts} {v : Tree} → IsGrouped s l i n j m v → Passes s j (one_of (signs l))
    → Reads expression_of s (part (Chain l)) i n j m v
grouped_end {s} {l} {i} {j} {n} {m} {v} x d = record { syntax = x.build none; run = x.on j m none (no_more d); is = sym (x.is none) }

pub grouped_off : {s : Stream} {l : Level} {i j : ℕ} {n m : Counts} {v : Tree} {o : Operator} → IsGrouped s l i n j m v → IsOperator s j l o
    → Lead s (part (Chain l)) i n (part (operand l)) (j + 1) m
grouped_off x e = λ k r. x.off k (next_stop e.enters (second_stop (token e.one) r))

pub grouped_on : {s : Stream} {l : Level} {i j k : ℕ} {n m u : Counts} {v b w : Tree} {o : Operator} {p : Pos} → IsGrouped s l i n j m v
    → IsOperator s j l o → Reads expression_of s (part (operand l)) (j + 1) m k u b → (s j).at ≡ p → w ≡ binary
    (record { from = (place_of v).from; at = p }) o v b → IsGrouped s l i n k u w
grouped_on {s} {l} {i} {j} {k} {n} {m} {u} {v} {b} {w} x e y p h = record {
  build = λ z. x.build (some (leaf (s j) · y.syntax) z);
  on = λ q a z r. x.on q a (some (leaf (s j) · y.syntax) z) (again e.enters (both (token e.one) y.run) r);
  off = λ q r. x.off q (later_stop e.enters (both (token e.one) y.run) r);
  is = λ z.
      let t = x.is (some (leaf (s j) · y.syntax) z) in
      let a = y.is in
      let q = e.is in
      cc;
}

pub grouped_found : {s : Stream} {l : Level} {i : ℕ} {n : Counts} {o : Operator} {p : Pos} (of right f : Found) → IsGrouped s l i n of.next
    (counts_view of.counts) (tree_of of) → IsOperator s of.next l o → IsRead s (operand l) (of.next + 1) (counts_view of.counts) right →
    (s of.next).at ≡ p → (f.next ≡ right.next) × (f.counts ≡ right.counts) → tree_of f ≡ binary
    (record { from = (place_of (tree_of of)).from; at = p }) o (tree_of of) (tree_of right) → IsGrouped s l i n f.next
    (counts_view f.counts) (tree_of f)
grouped_found of right f x e y p r t = rw (r.0, r.1) (grouped_on x e y p t)

-- rel = sum [ RELATION sum ]
pub relation_left : {s : Stream} {i : ℕ} {n : Counts} → Lead s (part Relation) i n (part (Chain Sums)) i n
relation_left = λ k r. line_stop (first_stop r)

pub relation_right : {s : Stream} {i j : ℕ} {n m : Counts} {a : Tree} {o : Operator} → Reads expression_of s (part (Chain Sums)) i n j m a
    → IsRelation s j o → Lead s (part Relation) i n (part (Chain Sums)) (j + 1) m
relation_right x e = λ k r. line_stop (second_stop x.run (once_stop e.enters (second_stop (token e.one) r)))

pub relation_none : {s : Stream} {i j : ℕ} {n m : Counts} {v : Tree} → Reads expression_of s (part (Chain Sums)) i n j m v → Passes s j
    (one_of relations) → Reads expression_of s (part Relation) i n j m v
relation_none x d = record { syntax = node Relation (x.syntax · absent); run = line (both x.run (not_once d)); is = x.is }

pub relation_read : {s : Stream} {i j l : ℕ} {n m u : Counts} {a b v : Tree} {o : Operator} {p : Pos} → Reads expression_of s
    (part (Chain Sums)) i n j m a → IsRelation s j o → Reads expression_of s (part (Chain Sums)) (j + 1) m l u b → (s j).at ≡ p → v ≡ binary
    (record { from = (place_of a).from; at = p }) o a b → Reads expression_of s (part Relation) i n l u v
relation_read {s} {i} {j} x e y p h = record {
  syntax = node Relation (x.syntax · present (leaf (s j) · y.syntax));
  run = line (both x.run (once e.enters (both (token e.one) y.run)));
  is = let z = x.is in let w = y.is in let q = e.is in cc;
}

-- what can't be the first of some operands
pub chain_first : {s : Stream} {l : Level} {i : ℕ} {n : Counts} → Lead s (part (Chain l)) i n (part (operand l)) i n
chain_first = λ k r. line_stop (first_stop r)

pub operand_first : {s : Stream} (l : Level) {i : ℕ} {n : Counts} → Lead s (part (operand l)) i n (part Unary) i n
operand_first Products = λ k r. r
operand_first Sums = λ k r. chain_first k r
operand_first Conjunctions = λ k r. relation_left k (chain_first k (chain_first k r))
operand_first Disjunctions = λ k r. chain_first k (relation_left k (chain_first k (chain_first k r)))
