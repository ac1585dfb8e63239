-- Names, calls and the primaries of many tokens.
use Rattle.std.proofs.Common.{◌≡◌, ℕ, ◌+◌, inl, Some, None, Result, Ok, Err, refl, ap}
use Rattle.std.specs.Result.{MatchResult}
use Rattle.lus_reader.specs.declared.stop.Stop.{Stop}
use Rattle.lus_tree.specs.declared.place.Pos.{Pos}
use Rattle.lus_tree.specs.Tree.{Expression as Tree, Expressions as Trees, Spelled, Name, name, call, mode_name, merged, condact}
use Rattle.lus_lexer.specs.declared.token.Class.TheVariants as C
use Rattle.lus_lexer.specs.declared.token.Keyword.{Keyword}
use Rattle.lus_lexer.specs.declared.token.Keyword.TheVariants as K
use Rattle.lus_lexer.specs.declared.token.Sign.TheVariants as S
use Rattle.lus_grammar.specs.Answers.{Reads}
use Rattle.lus_grammar.specs.Grammar.{bracketed}
use Rattle.lus_grammar.specs.Phrase.{Phrase, part, word, sign, identifier, optional, counted, ◌⨾◌, ◌∣◌, Primary, Expression, Expressions, calls}
use Rattle.lus_grammar.specs.Run.{Run, read, token, occurrence, line, line_stop, both, second_stop, this_one, this_stop, that_one, that_stop, not_once, once, once_stop}
use Rattle.lus_grammar.specs.Source.{limit}
use Rattle.lus_grammar.specs.Stream.{Stream}
use Rattle.lus_grammar.specs.Syntax.{Counts, counted_on, Syntax, leaf, numbered, node, ◌·◌, this, that, absent, present}
use Rattle.lus_grammar.specs.Trees.{expression_of, spelled, arguments_of, listed_of, begun}
use Rattle.lus_reader.specs.Look.{Differs, Stopped}
use Rattle.lus_tree.specs.View.{joined}
use Rattle.lus_reader.specs.declared.stop.Found.{Found}
use Rattle.lus_reader.specs.declared.stop.List.{List as Exprs}
use Rattle.lus_reader.specs.Outcome.{Answers, more_expressions, tree_of, trees_of, IsBranch, IsBracketed}
use Rattle.lus_reader.specs.View.{counts_view}
use Rattle.lus_reader.proofs.Exits.{Lead, take, here, stopped}

-- ID
pub name_read : {s : Stream} {i : ℕ} {n : Counts} {v : Tree} {p : Pos} {w : Name} → (s i).class ≡ Some C.Ident → Differs s (i + 1)
    (C.Sign S.Open) → (s i).at ≡ p → w ≡ (s i).text → v ≡ name (record { from = p; at = p }) w → Reads expression_of s (part Primary) i n
    (i + 1) n v
name_read {s} {i} e d p w h = record {
  syntax = node Primary (that (that (this (leaf (s i) · absent))));
  run = line (that_one (rw e refl) (that_one (rw e refl) (this_one (rw e refl) (both (token (inl e)) (not_once d.passes)))));
  is = cc;
}

-- ID "(" [ exprs ] ")"
pub call_0 : {s : Stream} {i : ℕ} {n o : Counts} → (s i).class ≡ Some C.Ident → (s (i + 1)).class ≡ Some (C.Sign S.Open)
    → o ≡ counted_on calls n → Lead s (part Primary) i n (optional (part Expressions) ⨾ sign S.Close) (i + 1 + 1) o
call_0 e f q = λ k r. line_stop (that_stop (rw e refl) (that_stop (rw e refl)
    (this_stop (rw e refl) (second_stop (token (inl e)) (once_stop (rw f refl) (second_stop (occurrence f) (rw q at r)))))))

pub call_1 : {s : Stream} {i j : ℕ} {n m o : Counts} {x : Syntax} → (s i).class ≡ Some C.Ident → (s (i + 1)).class ≡ Some (C.Sign S.Open)
    → o ≡ counted_on calls n → Run limit s (optional (part Expressions)) (i + 1 + 1) o (read j m x) → Lead s (part Primary) i n
    (sign S.Close) j m
call_1 e f q x = λ k r. call_0 e f q k (second_stop x r)

pub call_read : {s : Stream} {i j : ℕ} {n m o : Counts} {v : Tree} {xs : Trees} {w : Spelled} → (s i).class ≡ Some C.Ident →
    (s (i + 1)).class ≡ Some (C.Sign S.Open) → o ≡ counted_on calls n → Reads arguments_of s (optional (part Expressions))
    (i + 1 + 1) o j m xs → (s j).class ≡ Some (C.Sign S.Close) → w ≡ spelled (s i) → v ≡ call
    (record { from = w.at; at = w.at }) o.calls w xs → Reads expression_of s (part Primary) i n (j + 1) m v
call_read {s} {i} {j} {n} {m} {o} {v} {xs} {w} e f q x g t h =
    let r : Run limit s (optional (part Expressions)) (i + 1 + 1) (counted_on calls n) (read j m x.syntax) = rw (← q) x.run in
    record {
      syntax = node Primary (that (that (this (leaf (s i) · present (numbered (s (i + 1)) (n.calls + 1) · x.syntax · leaf (s j))))));
      run = line (that_one (rw e refl) (that_one (rw e refl) (this_one (rw e refl)
          (both (token (inl e)) (once (rw f refl) (both (occurrence f) (both r (token (inl g)))))))));
      is = let z = x.is in let a = ap (λ (k : Counts). k.calls) q in let b = ap (λ (y : Spelled). y.at) t in cc;
    }

-- "::" ID [ "::" ID ]
pub mode_0 : {s : Stream} {i : ℕ} {n : Counts} → (s i).class ≡ Some (C.Sign S.DoubleColon) → Lead s (part Primary) i n
    (identifier ⨾ optional (sign S.DoubleColon ⨾ identifier)) (i + 1) n
mode_0 e = λ k r. line_stop (that_stop (rw e refl) (that_stop (rw e refl) (that_stop (rw e refl) (this_stop (rw e refl) (second_stop (token (inl e)) r)))))

pub mode_1 : {s : Stream} {i : ℕ} {n : Counts} → (s i).class ≡ Some (C.Sign S.DoubleColon) → (s (i + 1)).class ≡ Some C.Ident →
    (s (i + 1 + 1)).class ≡ Some (C.Sign S.DoubleColon) → Lead s (part Primary) i n identifier (i + 1 + 1 + 1) n
mode_1 e f g = λ k r. mode_0 e k (second_stop (token (inl f)) (once_stop (rw g refl) (second_stop (token (inl g)) r)))

pub mode_read : {s : Stream} {i : ℕ} {n : Counts} {v : Tree} {p : Pos} {w : Spelled} → (s i).class ≡ Some (C.Sign S.DoubleColon) →
    (s (i + 1)).class ≡ Some C.Ident → Differs s (i + 1 + 1) (C.Sign S.DoubleColon) → (s i).at ≡ p → w ≡ spelled (s (i + 1)) → v ≡ mode_name
    (record { from = p; at = p }) None w → Reads expression_of s (part Primary) i n (i + 1 + 1) n v
mode_read {s} {i} e f d p w h = record {
  syntax = node Primary (that (that (that (this (leaf (s i) · leaf (s (i + 1)) · absent)))));
  run = line (that_one (rw e refl) (that_one (rw e refl) (that_one (rw e refl)
      (this_one (rw e refl) (both (token (inl e)) (both (token (inl f)) (not_once d.passes)))))));
  is = cc;
}

pub modes_read : {s : Stream} {i : ℕ} {n : Counts} {v : Tree} {p : Pos} {w u : Spelled} → (s i).class ≡ Some (C.Sign S.DoubleColon) →
    (s (i + 1)).class ≡ Some C.Ident → (s (i + 1 + 1)).class ≡ Some (C.Sign S.DoubleColon) → (s (i + 1 + 1 + 1)).class ≡ Some C.Ident →
    (s i).at ≡ p → w ≡ spelled (s (i + 1)) → u ≡ spelled (s (i + 1 + 1 + 1)) → v ≡ mode_name (record { from = p; at = p }) (Some w) u
    → Reads expression_of s (part Primary) i n (i + 1 + 1 + 1 + 1) n v
modes_read {s} {i} e f g d p w u h = record {
  syntax = node Primary (that (that (that (this (leaf (s i) · leaf (s (i + 1)) · present (leaf (s (i + 1 + 1)) · leaf (s (i + 1 + 1 + 1))))))));
  run = line (that_one (rw e refl) (that_one (rw e refl) (that_one (rw e refl)
      (this_one (rw e refl) (both (token (inl e)) (both (token (inl f)) (once (rw g refl) (both (token (inl g)) (token (inl d))))))))));
  is = cc;
}

-- a branch of a merge, up to its expression
pub branch_0 : {s : Stream} {k : Keyword} {i : ℕ} {n : Counts} (g : Phrase) → (s i).class ≡ Some (C.Sign S.Open) → Lead s
    (sign S.Open ⨾ word k ⨾ sign S.Arrow ⨾ part Expression ⨾ g) i n (word k ⨾ sign S.Arrow ⨾ part Expression ⨾ g) (i + 1) n
branch_0 g e = λ k r. second_stop (token (inl e)) r

pub branch_1 : {s : Stream} {k : Keyword} {i : ℕ} {n : Counts} (g : Phrase) → (s i).class ≡ Some (C.Sign S.Open) → (s (i + 1)).class ≡ Some
    (C.Keyword k) → Lead s (sign S.Open ⨾ word k ⨾ sign S.Arrow ⨾ part Expression ⨾ g) i n (sign S.Arrow ⨾ part Expression ⨾ g)
    (i + 1 + 1) n
branch_1 g e f = λ k r. branch_0 g e k (second_stop (token (inl f)) r)

pub branch_2 : {s : Stream} {k : Keyword} {i : ℕ} {n : Counts} (g : Phrase) → (s i).class ≡ Some (C.Sign S.Open) → (s (i + 1)).class ≡ Some
    (C.Keyword k) → (s (i + 1 + 1)).class ≡ Some (C.Sign S.Arrow) → Lead s (sign S.Open ⨾ word k ⨾ sign S.Arrow ⨾ part Expression ⨾ g) i n
    (part Expression ⨾ g) (i + 1 + 1 + 1) n
branch_2 g e f a = λ k r. branch_1 g e f k (second_stop (token (inl a)) r)

-- "(" expr ")"
abbrev activated : Phrase
activated = counted calls (C.Keyword K.Activate) ⨾ identifier ⨾ word K.Every ⨾ part Expression ⨾ word K.Initial ⨾ word K.Default ⨾ bracketed
    ⨾ sign S.Close ⨾ bracketed

round_0 : {s : Stream} {i : ℕ} {n : Counts} → (s i).class ≡ Some (C.Sign S.Open) → Lead s (part Primary) i n
    (activated ∣ (part Expression ⨾ sign S.Close)) (i + 1) n
round_0 e = λ k r. line_stop (that_stop (rw e refl) (that_stop (rw e refl)
    (that_stop (rw e refl) (that_stop (rw e refl) (that_stop (rw e refl) (that_stop (rw e refl) (second_stop (token (inl e)) r)))))))

pub round_1 : {s : Stream} {i : ℕ} {n : Counts} → (s i).class ≡ Some (C.Sign S.Open) → Differs s (i + 1) (C.Keyword K.Activate) → Lead s
    (part Primary) i n (part Expression ⨾ sign S.Close) (i + 1) n
round_1 e d = λ k r. round_0 e k (that_stop d.passes r)

pub round_read : {s : Stream} {i j : ℕ} {n m : Counts} {a v : Tree} {p : Pos} → (s i).class ≡ Some (C.Sign S.Open) → Differs s (i + 1)
    (C.Keyword K.Activate) → Reads expression_of s (part Expression) (i + 1) n j m a → (s j).class ≡ Some (C.Sign S.Close) → (s i).at ≡ p
    → v ≡ begun p a → Reads expression_of s (part Primary) i n (j + 1) m v
round_read {s} {i} {j} e d x f p h = record {
  syntax = node Primary (that (that (that (that (that (that (leaf (s i) · that (x.syntax · leaf (s j)))))))));
  run = line (that_one (rw e refl) (that_one (rw e refl) (that_one (rw e refl)
      (that_one (rw e refl) (that_one (rw e refl) (that_one (rw e refl)
      (both (token (inl e)) (that_one d.passes (both x.run (token (inl f)))))))))));
  is = let z = x.is in cc;
}

-- "(" "activate" ID "every" expr "initial" "default" "(" [ exprs ] ")" ")" "(" [ exprs ] ")"
pub activate_0 : {s : Stream} {i : ℕ} {n o : Counts} → (s i).class ≡ Some (C.Sign S.Open) → (s (i + 1)).class ≡ Some (C.Keyword K.Activate)
    → o ≡ counted_on calls n → Lead s (part Primary) i n (identifier ⨾ word K.Every ⨾ part Expression ⨾ word K.Initial ⨾ word K.Default
    ⨾ bracketed ⨾ sign S.Close ⨾ bracketed) (i + 1 + 1) o
activate_0 e f q = λ k r. round_0 e k (this_stop (rw f refl) (second_stop (occurrence f) (rw q at r)))

pub activate_read : {s : Stream} {i j : ℕ} {n m o : Counts} {a v : Tree} {p p' : Pos} {w : Spelled} {ds xs : Exprs}
    → (s i).class ≡ Some (C.Sign S.Open) → (s (i + 1)).class ≡ Some (C.Keyword K.Activate) → o ≡ counted_on calls n →
    (s (i + 1 + 1)).class ≡ Some C.Ident → (s (i + 1 + 1 + 1)).class ≡ Some (C.Keyword K.Every)
    → Reads expression_of s (part Expression) (i + 1 + 1 + 1 + 1) o j m a → (s j).class ≡ Some (C.Keyword K.Initial) →
    (s (j + 1)).class ≡ Some (C.Keyword K.Default)
    → IsBracketed s (j + 1 + 1) m ds → (s ds.next).class ≡ Some (C.Sign S.Close) → IsBracketed s (ds.next + 1) (counts_view ds.counts) xs
    → (s i).at ≡ p → (s (i + 1)).at ≡ p' → w ≡ spelled (s (i + 1 + 1)) → v ≡ condact (record { from = p; at = p' }) o.calls a w
    (joined (trees_of xs)) (joined (trees_of ds))
    → Reads expression_of s (part Primary) i n xs.next (counts_view xs.counts) v
activate_read {s} {i} {j} {n} {m} {o} {ds = ds} {xs = xs} e f q g y x a b d c z p p' w h =
    let r : Run limit s (part Expression) (i + 1 + 1 + 1 + 1) (counted_on calls n) (read j m x.syntax) = rw (← q) x.run in
    record {
      syntax = node Primary (that (that (that (that (that (that (leaf (s i) · this
          (numbered (s (i + 1)) (n.calls + 1) · leaf (s (i + 1 + 1)) · leaf (s (i + 1 + 1 + 1)) · x.syntax · leaf (s j) · leaf (s (j + 1)) ·
          (d.first · d.inner · d.last) · leaf (s ds.next) · (z.first · z.inner · z.last)))))))));
      run = line (that_one (rw e refl) (that_one (rw e refl) (that_one (rw e refl)
          (that_one (rw e refl) (that_one (rw e refl) (that_one (rw e refl) (both (token (inl e)) (this_one (rw f refl)
          (both (occurrence f) (both (token (inl g)) (both (token (inl y))
          (both r (both (token (inl a)) (both (token (inl b)) (both d.run (both (token (inl c)) z.run))))))))))))))));
      is = let k = x.is in let t = ap (λ (l : Counts). l.calls) q in let u = d.is in let l = z.is in cc;
    }

-- "merge" ID "(" "true" "->" expr ")" "(" "false" "->" expr ")"
abbrev pub other_branch : Phrase
other_branch = sign S.Open ⨾ word K.False ⨾ sign S.Arrow ⨾ part Expression ⨾ sign S.Close

pub merge_0 : {s : Stream} {i : ℕ} {n : Counts} → (s i).class ≡ Some (C.Keyword K.Merge) → Lead s (part Primary) i n
    (identifier ⨾ sign S.Open ⨾ word K.True ⨾ sign S.Arrow ⨾ part Expression ⨾ sign S.Close ⨾ other_branch) (i + 1) n
merge_0 e = λ k r. line_stop (that_stop (rw e refl) (that_stop (rw e refl)
    (that_stop (rw e refl) (that_stop (rw e refl) (this_stop (rw e refl) (second_stop (token (inl e)) r))))))

-- behind the expression of a branch
pub branch_taken : {s : Stream} {k : Keyword} {g h : Phrase} {i j : ℕ} {n m : Counts} {f : Found} → Lead s g i n
    (sign S.Open ⨾ word k ⨾ sign S.Arrow ⨾ part Expression ⨾ h) j m → IsBranch s k j m f → Lead s g i n h f.next (counts_view f.counts)
branch_taken l b = take (take (take (take l (token (inl b.first))) (token (inl b.value))) (token (inl b.arrow))) b.reads.run

pub merge_read : {s : Stream} {i : ℕ} {n : Counts} {v : Tree} {p : Pos} {w : Spelled} {a b : Found} → (s i).class ≡ Some (C.Keyword K.Merge)
    → (s (i + 1)).class ≡ Some C.Ident → IsBranch s K.True (i + 1 + 1) n a → (s a.next).class ≡ Some (C.Sign S.Close) → IsBranch s K.False
    (a.next + 1) (counts_view a.counts) b → (s b.next).class ≡ Some (C.Sign S.Close) → (s i).at ≡ p → w ≡ spelled (s (i + 1)) → v ≡ merged
    (record { from = p; at = p }) w (tree_of a) (tree_of b) → Reads expression_of s (part Primary) i n (b.next + 1) (counts_view b.counts) v
merge_read {s} {i} {a = a} {b = b} e f x c y d p w h =
    record {
      syntax = node Primary (that (that (that (that (this (leaf (s i) · leaf (s (i + 1)) · leaf (s (i + 1 + 1)) · leaf
          (s (i + 1 + 1 + 1)) · leaf (s (i + 1 + 1 + 1 + 1)) · x.reads.syntax · leaf (s a.next) · leaf (s (a.next + 1)) · leaf
          (s (a.next + 1 + 1)) · leaf (s (a.next + 1 + 1 + 1)) · y.reads.syntax · leaf (s b.next)))))));
      run = line (that_one (rw e refl) (that_one (rw e refl) (that_one (rw e refl)
          (that_one (rw e refl) (this_one (rw e refl) (both (token (inl e)) (both (token (inl f))
          (both (token (inl x.first)) (both (token (inl x.value)) (both (token (inl x.arrow)) (both x.reads.run (both (token (inl c))
          (both (token (inl y.first)) (both (token (inl y.value)) (both (token (inl y.arrow)) (both y.reads.run (token (inl d))))))))))))))))));
      is = let k = x.reads.is in let l = y.reads.is in cc;
    }

-- "condact" "(" expr "," ID "(" [ exprs ] ")" { "," expr } ")"
pub condact_0 : {s : Stream} {i : ℕ} {n o : Counts} → (s i).class ≡ Some (C.Keyword K.Condact) → o ≡ counted_on calls n → Lead s
    (part Primary) i n (sign S.Open ⨾ part Expression ⨾ sign S.Comma ⨾ identifier ⨾ bracketed ⨾ more_expressions ⨾ sign S.Close) (i + 1) o
condact_0 e q = λ k r. line_stop (that_stop (rw e refl) (that_stop (rw e refl)
    (that_stop (rw e refl) (that_stop (rw e refl) (that_stop (rw e refl)
    (this_stop (rw e refl) (second_stop (occurrence e) (rw q at r))))))))

pub condact_read : {s : Stream} {i j k : ℕ} {n m o u : Counts} {a v : Tree} {p : Pos} {w : Spelled} {xs : Exprs} {ds : Trees}
    → (s i).class ≡ Some (C.Keyword K.Condact) → o ≡ counted_on calls n → (s (i + 1)).class ≡ Some (C.Sign S.Open) → Reads expression_of s
    (part Expression) (i + 1 + 1) o j m a → (s j).class ≡ Some (C.Sign S.Comma) → (s (j + 1)).class ≡ Some C.Ident
    → IsBracketed s (j + 1 + 1) m xs → Reads listed_of s more_expressions xs.next (counts_view xs.counts) k u ds → (s k).class ≡ Some (C.Sign S.Close)
    → (s i).at ≡ p → w ≡ spelled (s (j + 1)) → v ≡ condact (record { from = p; at = p }) o.calls a w (joined (trees_of xs)) ds
    → Reads expression_of s (part Primary) i n (k + 1) u v
condact_read {s} {i} {j} {k} {n} {m} {o} {xs = xs} e q f x g y z d c p w h =
    let r : Run limit s (part Expression) (i + 1 + 1) (counted_on calls n) (read j m x.syntax) = rw (← q) x.run in
    record {
      syntax = node Primary (that (that (that (that (that (this (numbered (s i) (n.calls + 1) · leaf (s (i + 1)) · x.syntax · leaf
          (s j) · leaf (s (j + 1)) · (z.first · z.inner · z.last) · d.syntax · leaf (s k))))))));
      run = line (that_one (rw e refl) (that_one (rw e refl) (that_one (rw e refl) (that_one (rw e refl) (that_one (rw e refl) (this_one (rw e refl)
          (both (occurrence e) (both (token (inl f)) (both r (both (token (inl g)) (both (token (inl y)) (both z.run (both d.run (token (inl c)))))))))))))));
      is = let b = x.is in let t = ap (λ (l : Counts). l.calls) q in let l = z.is in let a' = d.is in cc;
    }

pub branch_read : (s : Stream) (k : Keyword) (i : ℕ) (n : Counts) (r : Result Found Stop) → (s i).class ≡ Some (C.Sign S.Open) →
    (s (i + 1)).class ≡ Some (C.Keyword k) → (s (i + 1 + 1)).class ≡ Some (C.Sign S.Arrow) → Answers s Expression (i + 1 + 1 + 1) n r
    → MatchResult r (λ f. IsBranch s k i n f) (λ e. (g : Phrase) → Stopped s
    (sign S.Open ⨾ word k ⨾ sign S.Arrow ⨾ part Expression ⨾ g) i n e)
branch_read s k i n (Ok f) e v a x = record { first = e; value = v; arrow = a; reads = x }
branch_read s k i n (Err z) e v a x = λ g. stopped s _ i n (part Expression) (i + 1 + 1 + 1) n z (here (branch_2 g e v a)) x
