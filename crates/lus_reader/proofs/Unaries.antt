-- Unaries and the primaries of few tokens.
use Rattle.std.proofs.Common.{◌≡◌, ℕ, ◌+◌, inl, inr, Bool, true, false, ◌==◌, ◌||◌, List, [], ◌∷◌, Option, Some, refl, sym, ap, subst}
use Rattle.std.proofs.lemmas.Bool.{false≢true}
use Rattle.lus_tree.specs.declared.place.Pos.{Pos}
use Rattle.lus_tree.specs.Tree.{Expression as Tree, negation, minus, pre, number, truth}
use Rattle.lus_lexer.specs.declared.token.Class.{Class}
use Rattle.lus_lexer.specs.declared.token.Class.TheVariants as C
use Rattle.lus_lexer.specs.declared.token.Keyword.TheVariants as K
use Rattle.lus_lexer.specs.declared.token.Sign.TheVariants as S
use Rattle.lus_grammar.specs.Answers.{Reads}
use Rattle.lus_grammar.specs.Phrase.{part, Unary, Primary, pres}
use Rattle.lus_grammar.specs.Run.{Run, read, stop, unexpected, token, no_token, occurrence, line, line_stop, both, first_stop, second_stop, this_one, this_stop, that_one, that_stop}
use Rattle.lus_grammar.specs.Source.{limit}
use Rattle.lus_grammar.specs.Starts.{code, listed, codes_of, primaries}
use Rattle.lus_grammar.specs.Stream.{Stream}
use Rattle.lus_grammar.specs.Syntax.{Counts, counted_on, leaf, numbered, node, ◌·◌, this, that}
use Rattle.lus_grammar.specs.Trees.{expression_of, digits_value}
use Rattle.lus_reader.specs.Look.{Differs, IsTruth}
use Rattle.lus_reader.proofs.Exits.{Lead}

pub not_off : {s : Stream} {i : ℕ} {n : Counts} → (s i).class ≡ Some (C.Keyword K.Not) → Lead s (part Unary) i n (part Unary) (i + 1) n
not_off e = λ k r. line_stop (this_stop (rw e refl) (second_stop (token (inl e)) r))

pub not_read : {s : Stream} {i j : ℕ} {n m : Counts} {a v : Tree} {p : Pos} → (s i).class ≡ Some (C.Keyword K.Not) → Reads expression_of s
    (part Unary) (i + 1) n j m a → (s i).at ≡ p → v ≡ negation (record { from = p; at = p }) a → Reads expression_of s
    (part Unary) i n j m v
not_read {s} {i} e x p h = record {
  syntax = node Unary (this (leaf (s i) · x.syntax));
  run = line (this_one (rw e refl) (both (token (inl e)) x.run));
  is = let z = x.is in cc;
}

pub minus_off : {s : Stream} {i : ℕ} {n : Counts} → (s i).class ≡ Some (C.Sign S.Minus) → Lead s (part Unary) i n (part Unary) (i + 1) n
minus_off e = λ k r. line_stop (that_stop (rw e refl) (this_stop (rw e refl) (second_stop (token (inl e)) r)))

pub minus_read : {s : Stream} {i j : ℕ} {n m : Counts} {a v : Tree} {p : Pos} → (s i).class ≡ Some (C.Sign S.Minus) → Reads expression_of s
    (part Unary) (i + 1) n j m a → (s i).at ≡ p → v ≡ minus (record { from = p; at = p }) a → Reads expression_of s (part Unary) i n j m v
minus_read {s} {i} e x p h = record {
  syntax = node Unary (that (this (leaf (s i) · x.syntax)));
  run = line (that_one (rw e refl) (this_one (rw e refl) (both (token (inl e)) x.run)));
  is = let z = x.is in cc;
}

pub pre_off : {s : Stream} {i : ℕ} {n o : Counts} → (s i).class ≡ Some (C.Keyword K.Pre) → o ≡ counted_on pres n → Lead s (part Unary) i n
    (part Unary) (i + 1) o
pre_off e q = λ k r. line_stop (that_stop (rw e refl) (that_stop (rw e refl) (this_stop (rw e refl) (second_stop (occurrence e) (rw q at r)))))

pub pre_read : {s : Stream} {i j : ℕ} {n m o : Counts} {a v : Tree} {p : Pos} → (s i).class ≡ Some (C.Keyword K.Pre) → o ≡ counted_on pres n
    → Reads expression_of s (part Unary) (i + 1) o j m a → (s i).at ≡ p → v ≡ pre (record { from = p; at = p }) o.pres a
    → Reads expression_of s (part Unary) i n j m v
pre_read {s} {i} {j} {n} {m} {o} e q x p h =
    let r : Run limit s (part Unary) (i + 1) (counted_on pres n) (read j m x.syntax) = rw (← q) x.run in
    record {
      syntax = node Unary (that (that (this (numbered (s i) (n.pres + 1) · x.syntax))));
      run = line (that_one (rw e refl) (that_one (rw e refl) (this_one (rw e refl) (both (occurrence e) r))));
      is = let z = x.is in let f = ap (λ (k : Counts). k.pres) q in cc;
    }

pub plain_off : {s : Stream} {i : ℕ} {n : Counts} → Differs s i (C.Keyword K.Not) → Differs s i (C.Sign S.Minus) → Differs s i
    (C.Keyword K.Pre) → Lead s (part Unary) i n (part Primary) i n
plain_off a b d = λ k r. line_stop (that_stop a.passes (that_stop b.passes (that_stop d.passes r)))

pub plain_read : {s : Stream} {i j : ℕ} {n m : Counts} {v : Tree} → Differs s i (C.Keyword K.Not) → Differs s i (C.Sign S.Minus)
    → Differs s i (C.Keyword K.Pre) → Reads expression_of s (part Primary) i n j m v → Reads expression_of s (part Unary) i n j m v
plain_read a b d x = record {
  syntax = node Unary (that (that (that x.syntax)));
  run = line
      (that_one a.passes (that_one b.passes (that_one d.passes x.run)));
  is = x.is;
}

pub number_read : {s : Stream} {i w : ℕ} {n : Counts} {v : Tree} {p : Pos} → (s i).class ≡ Some C.Number → (s i).at ≡ p → w ≡ digits_value
    (s i).text → v ≡ number (record { from = p; at = p }) w → Reads expression_of s (part Primary) i n (i + 1) n v
number_read {s} {i} e p w h = record {
  syntax = node Primary (this (leaf (s i)));
  run = line (this_one (rw e refl) (token (inl e)));
  is = cc;
}

pub truth_read : {s : Stream} {i : ℕ} {n : Counts} {v : Tree} {p : Pos} (b : Bool) → IsTruth s i b → (s i).at ≡ p → v ≡ truth
    (record { from = p; at = p }) b → Reads expression_of s (part Primary) i n (i + 1) n v
truth_read {s} {i} true e p h = record {
  syntax = node Primary (that (this (leaf (s i))));
  run = line (that_one (rw e refl) (this_one (rw e refl) (token (inl e))));
  is = rw e (let z = p in cc);
}
truth_read {s} {i} false e p h = record {
  syntax = node Primary (that (this (leaf (s i))));
  run = line (that_one (rw e refl) (this_one (rw e refl) (token (inr (inl e)))));
  is = rw e (let z = p in cc);
}

-- no primary begins here
or_left : (a b : Bool) → (a || b) ≡ false → a ≡ false
or_left true b h = h
or_left false b h = refl

or_right : (a b : Bool) → (a || b) ≡ false → b ≡ false
or_right true b h = absurd (false≢true (sym h))
or_right false b h = h

first_passes : (k c : ℕ) (cs : List ℕ) → listed k (c ∷ cs) ≡ false → listed k (c ∷ []) ≡ false
first_passes k c cs h = let e : (k == c) ≡ false = or_left (k == c) (listed k cs) h in rw e refl

rest_passes : (k c : ℕ) (cs : List ℕ) → listed k (c ∷ cs) ≡ false → listed k cs ≡ false
rest_passes k c cs h = or_right (k == c) (listed k cs) h

two_pass : (k c d : ℕ) → listed k (c ∷ []) ≡ false → listed k (d ∷ []) ≡ false → listed k (c ∷ d ∷ []) ≡ false
two_pass k c d h g = let e : (k == c) ≡ false = or_left (k == c) false h in rw e g

pub none_off : {s : Stream} {i : ℕ} {n : Counts} → listed (code (s i).class) (codes_of primaries) ≡ false → Run limit s (part Primary) i n (stop unexpected i)
none_off {s} {i} h =
    let k : ℕ = code (s i).class in
    let h1 : listed k (73 ∷ 74 ∷ 2 ∷ 15 ∷ 60 ∷ 61 ∷ 10 ∷ []) ≡ false = rest_passes k 3 (73 ∷ 74 ∷ 2 ∷ 15 ∷ 60 ∷ 61 ∷ 10 ∷ []) h in
    let h2 : listed k (74 ∷ 2 ∷ 15 ∷ 60 ∷ 61 ∷ 10 ∷ []) ≡ false = rest_passes k 73 (74 ∷ 2 ∷ 15 ∷ 60 ∷ 61 ∷ 10 ∷ []) h1 in
    let h3 : listed k (2 ∷ 15 ∷ 60 ∷ 61 ∷ 10 ∷ []) ≡ false = rest_passes k 74 (2 ∷ 15 ∷ 60 ∷ 61 ∷ 10 ∷ []) h2 in
    let h4 : listed k (15 ∷ 60 ∷ 61 ∷ 10 ∷ []) ≡ false = rest_passes k 2 (15 ∷ 60 ∷ 61 ∷ 10 ∷ []) h3 in
    let h5 : listed k (60 ∷ 61 ∷ 10 ∷ []) ≡ false = rest_passes k 15 (60 ∷ 61 ∷ 10 ∷ []) h4 in
    let h6 : listed k (61 ∷ 10 ∷ []) ≡ false = rest_passes k 60 (61 ∷ 10 ∷ []) h5 in
    let h7 : listed k (10 ∷ []) ≡ false = rest_passes k 61 (10 ∷ []) h6 in
    let b : listed k (73 ∷ 74 ∷ []) ≡ false = two_pass k 73 74 (first_passes k 73 (74 ∷ 2 ∷ 15 ∷ 60 ∷ 61 ∷ 10 ∷ []) h1)
    (first_passes k 74 (2 ∷ 15 ∷ 60 ∷ 61 ∷ 10 ∷ []) h2) in
    line_stop (that_stop (first_passes k 3 (73 ∷ 74 ∷ 2 ∷ 15 ∷ 60 ∷ 61 ∷ 10 ∷ []) h)
    (that_stop b (that_stop (first_passes k 2 (15 ∷ 60 ∷ 61 ∷ 10 ∷ []) h3)
    (that_stop (first_passes k 15 (60 ∷ 61 ∷ 10 ∷ []) h4) (that_stop (first_passes k 60 (61 ∷ 10 ∷ []) h5)
    (that_stop (first_passes k 61 (10 ∷ []) h6)
    (first_stop (no_token (λ w. elim w [ inl e ↦ false≢true (sym (subst (λ (o : Option Class). listed (code o) (10 ∷ []) ≡ false) e h7)) | inr z ↦ z ])))))))))
