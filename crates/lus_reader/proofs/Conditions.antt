-- Expressions, down to implications.
use Rattle.std.proofs.Common.{◌≡◌, ℕ, ◌+◌, inl, true, false, Some, refl, sym, ap, ◌∙◌}
use Rattle.lus_tree.specs.declared.place.Pos.{Pos}
use Rattle.lus_tree.specs.declared.expression.Operator.TheVariants as O
use Rattle.lus_tree.specs.Tree.{Expression as Tree, Spelled, choice, arrow, binary, sampled}
use Rattle.lus_lexer.specs.declared.token.Class.TheVariants as C
use Rattle.lus_lexer.specs.declared.token.Keyword.TheVariants as K
use Rattle.lus_lexer.specs.declared.token.Sign.TheVariants as S
use Rattle.lus_grammar.specs.Answers.{Reads}
use Rattle.lus_grammar.specs.Grammar.{when}
use Rattle.lus_grammar.specs.Phrase.{part, word, identifier, optional, repeated, ◌⨾◌, Expression, Condition, Arrow, Implication, Chain, Disjunctions, arrows}
use Rattle.lus_grammar.specs.Run.{Run, read, token, occurrence, line, line_stop, both, first_stop, second_stop, this_one, this_stop, that_one, that_stop, not_once, once, once_stop, no_more, again, next_stop, later_stop}
use Rattle.lus_grammar.specs.Source.{limit}
use Rattle.lus_grammar.specs.Stream.{Stream}
use Rattle.lus_grammar.specs.Syntax.{Counts, counted_on, Syntax, leaf, numbered, node, ◌·◌, this, that, absent, present, none, some}
use Rattle.lus_grammar.specs.Trees.{expression_of, place_of, sampled_by, spelled}
use Rattle.lus_reader.specs.Look.{Differs}
use Rattle.lus_reader.specs.Outcome.{IsSampled, tree_of}
use Rattle.lus_reader.specs.View.{counts_view}
use Rattle.lus_reader.specs.declared.stop.Found.{Found}
use Rattle.lus_reader.proofs.Exits.{Lead}

-- cond = "if" expr "then" expr "else" cond
pub if_0 : {s : Stream} {i : ℕ} {n : Counts} → (s i).class ≡ Some (C.Keyword K.If) → Lead s (part Condition) i n
    (part Expression ⨾ word K.Then ⨾ part Expression ⨾ word K.Else ⨾ part Condition) (i + 1) n
if_0 e = λ k r. line_stop (this_stop (rw e refl) (second_stop (token (inl e)) r))

pub if_1 : {s : Stream} {i j : ℕ} {n m : Counts} {a : Tree} → (s i).class ≡ Some (C.Keyword K.If) → Reads expression_of s (part Expression)
    (i + 1) n j m a → Lead s (part Condition) i n (word K.Then ⨾ part Expression ⨾ word K.Else ⨾ part Condition) j m
if_1 e x = λ k r. if_0 e k (second_stop x.run r)

pub if_2 : {s : Stream} {i j : ℕ} {n m : Counts} {a : Tree} → (s i).class ≡ Some (C.Keyword K.If) → Reads expression_of s (part Expression)
    (i + 1) n j m a → (s j).class ≡ Some (C.Keyword K.Then) → Lead s (part Condition) i n (part Expression ⨾ word K.Else ⨾ part Condition)
    (j + 1) m
if_2 e x f = λ k r. if_1 e x k (second_stop (token (inl f)) r)

pub if_3 : {s : Stream} {i j l : ℕ} {n m o : Counts} {a b : Tree} → (s i).class ≡ Some (C.Keyword K.If) → Reads expression_of s
    (part Expression) (i + 1) n j m a → (s j).class ≡ Some (C.Keyword K.Then) → Reads expression_of s (part Expression) (j + 1) m l o b
    → Lead s (part Condition) i n (word K.Else ⨾ part Condition) l o
if_3 e x f y = λ k r. if_2 e x f k (second_stop y.run r)

pub if_4 : {s : Stream} {i j l : ℕ} {n m o : Counts} {a b : Tree} → (s i).class ≡ Some (C.Keyword K.If) → Reads expression_of s
    (part Expression) (i + 1) n j m a → (s j).class ≡ Some (C.Keyword K.Then) → Reads expression_of s (part Expression) (j + 1) m l o b →
    (s l).class ≡ Some (C.Keyword K.Else) → Lead s (part Condition) i n (part Condition) (l + 1) o
if_4 e x f y g = λ k r. if_3 e x f y k (second_stop (token (inl g)) r)

pub if_read : {s : Stream} {i j l q : ℕ} {n m o u : Counts} {a b d v : Tree} {p : Pos} → (s i).class ≡ Some (C.Keyword K.If)
    → Reads expression_of s (part Expression) (i + 1) n j m a → (s j).class ≡ Some (C.Keyword K.Then) → Reads expression_of s
    (part Expression) (j + 1) m l o b → (s l).class ≡ Some (C.Keyword K.Else) → Reads expression_of s (part Condition) (l + 1) o q u d →
    (s i).at ≡ p → v ≡ choice (record { from = p; at = p }) a b d → Reads expression_of s (part Condition) i n q u v
if_read {s} {i} {j} {l} e x f y g z p h = record {
  syntax = node Condition (this (leaf (s i) · x.syntax · leaf (s j) · y.syntax · leaf (s l) · z.syntax));
  run = line (this_one (rw e refl) (both (token (inl e)) (both x.run (both (token (inl f)) (both y.run (both (token (inl g)) z.run))))));
  is = let q = x.is in let r = y.is in let t = z.is in cc;
}

-- cond = arrow
pub no_if : {s : Stream} {i : ℕ} {n : Counts} → Differs s i (C.Keyword K.If) → Lead s (part Condition) i n (part Arrow) i n
no_if d = λ k r. line_stop (that_stop d.passes r)

pub no_if_read : {s : Stream} {i j : ℕ} {n m : Counts} {v : Tree} → Differs s i (C.Keyword K.If) → Reads expression_of s
    (part Arrow) i n j m v → Reads expression_of s (part Condition) i n j m v
no_if_read d x = record { syntax = node Condition (that x.syntax); run = line (that_one d.passes x.run); is = x.is }

-- arrow = impl [ "->" cond ]
pub arrow_left : {s : Stream} {i : ℕ} {n : Counts} → Lead s (part Arrow) i n (part Implication) i n
arrow_left = λ k r. line_stop (first_stop r)

pub arrow_right : {s : Stream} {i j : ℕ} {n m o : Counts} {a : Tree} → Reads expression_of s (part Implication) i n j m a →
    (s j).class ≡ Some (C.Sign S.Arrow) → o ≡ counted_on arrows m → Lead s (part Arrow) i n (part Condition) (j + 1) o
arrow_right x e q = λ k r. line_stop (second_stop x.run (once_stop (rw e refl) (second_stop (occurrence e) (rw q at r))))

pub arrow_none : {s : Stream} {i j : ℕ} {n m : Counts} {v : Tree} → Reads expression_of s (part Implication) i n j m v → Differs s j
    (C.Sign S.Arrow) → Reads expression_of s (part Arrow) i n j m v
arrow_none x d = record { syntax = node Arrow (x.syntax · absent); run = line (both x.run (not_once d.passes)); is = x.is }

pub arrow_read : {s : Stream} {i j l : ℕ} {n m o u : Counts} {a b v : Tree} {p : Pos} → Reads expression_of s (part Implication) i n j m a →
    (s j).class ≡ Some (C.Sign S.Arrow) → o ≡ counted_on arrows m → Reads expression_of s (part Condition) (j + 1) o l u b → (s j).at ≡ p
    → v ≡ arrow (record { from = (place_of a).from; at = p }) o.arrows a b → Reads expression_of s (part Arrow) i n l u v
arrow_read {s} {i} {j} {l} {n} {m} {o} {u} x e q y p h =
    let r : Run limit s (part Condition) (j + 1) (counted_on arrows m) (read l u y.syntax) = rw (← q) y.run in
    record {
      syntax = node Arrow (x.syntax · present (numbered (s j) (m.arrows + 1) · y.syntax));
      run = line (both x.run (once (rw e refl) (both (occurrence e) r)));
      is = let z = x.is in let w = y.is in let f = ap (λ (k : Counts). k.arrows) q in cc;
    }

-- impl = disj [ "=>" impl ]
pub implication_left : {s : Stream} {i : ℕ} {n : Counts} → Lead s (part Implication) i n (part (Chain Disjunctions)) i n
implication_left = λ k r. line_stop (first_stop r)

pub implication_right : {s : Stream} {i j : ℕ} {n m : Counts} {a : Tree} → Reads expression_of s (part (Chain Disjunctions)) i n j m a →
    (s j).class ≡ Some (C.Sign S.Implies) → Lead s (part Implication) i n (part Implication) (j + 1) m
implication_right x e = λ k r. line_stop (second_stop x.run (once_stop (rw e refl) (second_stop (token (inl e)) r)))

pub implication_none : {s : Stream} {i j : ℕ} {n m : Counts} {v : Tree} → Reads expression_of s (part (Chain Disjunctions)) i n j m v
    → Differs s j (C.Sign S.Implies) → Reads expression_of s (part Implication) i n j m v
implication_none x d = record { syntax = node Implication (x.syntax · absent); run = line (both x.run (not_once d.passes)); is = x.is }

pub implication_read : {s : Stream} {i j l : ℕ} {n m u : Counts} {a b v : Tree} {p : Pos} → Reads expression_of s
    (part (Chain Disjunctions)) i n j m a → (s j).class ≡ Some (C.Sign S.Implies) → Reads expression_of s (part Implication) (j + 1) m l u b
    → (s j).at ≡ p → v ≡ binary (record { from = (place_of a).from; at = p }) O.Implies a b → Reads expression_of s
    (part Implication) i n l u v
implication_read {s} {i} {j} x e y p h = record {
  syntax = node Implication (x.syntax · present (leaf (s j) · y.syntax));
  run = line (both x.run (once (rw e refl) (both (token (inl e)) y.run)));
  is = rw e (let z = x.is in let w = y.is in cc);
}

-- expr = cond { "when" [ "not" ] ID }: some clocks were read
pub record IsLed (s : Stream) (i : ℕ) (n : Counts) (j : ℕ) (m : Counts) (v : Tree) : Type 0 where
  pub build : Syntax → Syntax
  pub on : (k : ℕ) (o : Counts) (x : Syntax) → Run limit s (repeated when) j m (read k o x) → Run limit s (part Expression) i n (read k o (build x))
  pub off : Lead s (part Expression) i n (repeated when) j m
  pub is : (x : Syntax) → expression_of (build x) ≡ sampled_by v x

pub led : {s : Stream} {i j : ℕ} {n m : Counts} {v : Tree} → Reads expression_of s (part Condition) i n j m v → IsLed s i n j m v
led {s} {i} {j} {n} {m} {v} x = record {
  build = λ w. node Expression (x.syntax · w);
  on = λ k o w r. line (both x.run r);
  off = λ k r. line_stop (second_stop x.run r);
  is = λ w. ap (λ (t : Tree). sampled_by t w) (sym x.is);
}

pub led_end : {s : Stream} {i j : ℕ} {n m : Counts} {v : Tree} → IsLed s i n j m v → Differs s j (C.Keyword K.When) → Reads expression_of s
    (part Expression) i n j m v
led_end {s} {i} {j} {n} {m} {v} x d = record { syntax = x.build none; run = x.on j m none (no_more d.passes); is = sym (x.is none) }

pub led_off : {s : Stream} {i j : ℕ} {n m : Counts} {v : Tree} → IsLed s i n j m v → (s j).class ≡ Some (C.Keyword K.When) → Lead s
    (part Expression) i n when j m
led_off x e = λ k r. x.off k (next_stop (rw e refl) r)

pub led_on : {s : Stream} {i : ℕ} {n : Counts} {of f : Found} → IsLed s i n of.next (counts_view of.counts) (tree_of of) →
    (s of.next).class ≡ Some (C.Keyword K.When) → IsSampled s of f → IsLed s i n f.next (counts_view f.counts) (tree_of f)
led_on x e y = record {
  build = λ w. x.build (some y.syntax w);
  on = λ k o w r. x.on k o (some y.syntax w) (again (rw e refl) y.run r);
  off = λ k r. x.off k (later_stop (rw e refl) y.run r);
  is = λ w. x.is (some y.syntax w) ∙ y.is w;
}

-- "when" [ "not" ] ID
pub when_off : {s : Stream} {j : ℕ} {m : Counts} → (s j).class ≡ Some (C.Keyword K.When) → Differs s (j + 1) (C.Keyword K.Not)
    → Lead s when j m identifier (j + 1) m
when_off e d = λ k r. second_stop (token (inl e)) (second_stop (not_once d.passes) r)

pub when_not_off : {s : Stream} {j : ℕ} {m : Counts} → (s j).class ≡ Some (C.Keyword K.When) → (s (j + 1)).class ≡ Some (C.Keyword K.Not)
    → Lead s when j m identifier (j + 1 + 1) m
when_not_off e f = λ k r. second_stop (token (inl e)) (second_stop (once (rw f refl) (token (inl f))) r)

pub when_read : {s : Stream} {of : Found} {p : Pos} {w : Spelled} (f : Found) → (s of.next).class ≡ Some (C.Keyword K.When) → Differs s
    (of.next + 1) (C.Keyword K.Not) → (s (of.next + 1)).class ≡ Some C.Ident → (s of.next).at ≡ p → w ≡ spelled (s (of.next + 1)) →
    (f.next ≡ of.next + 1 + 1) × (f.counts ≡ of.counts) → tree_of f ≡ sampled (record { from = (place_of (tree_of of)).from; at = p })
    (tree_of of) true w → IsSampled s of f
when_read {s} {of} f e d g p w r t = record {
  syntax = leaf (s of.next) · absent · leaf (s (of.next + 1));
  run = rw (r.0, r.1) (both (token (inl e)) (both (not_once d.passes) (token (inl g))));
  is = λ ws. let h : sampled (record { from = (place_of (tree_of of)).from; at = (s of.next).at }) (tree_of of) true
      (spelled (s (of.next + 1))) ≡ tree_of f = cc in ap (λ (z : Tree). sampled_by z ws) h;
}

pub when_not_read : {s : Stream} {of : Found} {p : Pos} {w : Spelled} (f : Found) → (s of.next).class ≡ Some (C.Keyword K.When) →
    (s (of.next + 1)).class ≡ Some (C.Keyword K.Not) → (s (of.next + 1 + 1)).class ≡ Some C.Ident → (s of.next).at ≡ p → w ≡ spelled
    (s (of.next + 1 + 1)) → (f.next ≡ of.next + 1 + 1 + 1) × (f.counts ≡ of.counts) → tree_of f ≡ sampled
    (record { from = (place_of (tree_of of)).from; at = p }) (tree_of of) false w → IsSampled s of f
when_not_read {s} {of} f e d g p w r t =
    let q : Run limit s (optional (word K.Not)) (of.next + 1) (counts_view of.counts)
    (read (of.next + 1 + 1) (counts_view of.counts) (present (leaf (s (of.next + 1))))) = once (rw d refl) (token (inl d)) in
    record {
      syntax = leaf (s of.next) · present (leaf (s (of.next + 1))) · leaf (s (of.next + 1 + 1));
      run = rw (r.0, r.1) (both (token (inl e)) (both q (token (inl g))));
      is = λ ws. let h : sampled (record { from = (place_of (tree_of of)).from; at = (s of.next).at }) (tree_of of) false
          (spelled (s (of.next + 1 + 1))) ≡ tree_of f = cc in ap (λ (z : Tree). sampled_by z ws) h;
    }
