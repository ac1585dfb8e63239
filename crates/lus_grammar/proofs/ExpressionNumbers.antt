-- The numbers in an expression's text are those in its tree.
use Rattle.std.proofs.Common.{◌≡◌, ℕ, zero, suc, ◌+◌, ◌<◌, ◌≤◌, Bool, true, false, cond, ◌&&◌, List, [], ◌++◌, refl, ap, ◌∙◌, arith, Some}
use Rattle.std.proofs.lemmas.Bool.{false≢true}
use Rattle.lus_lexer.specs.declared.token.Class.{Class}
use Rattle.lus_lexer.specs.declared.token.Class.TheVariants as C
use Rattle.lus_lexer.specs.declared.token.Keyword.TheVariants as K
use Rattle.lus_lexer.specs.declared.token.Sign.TheVariants as S
use Rattle.lus_tree.specs.Tree as T
use Rattle.lus_tree.specs.Tree.{Expression, Expressions}
use Rattle.lus_tree.specs.Numbers.{Counted, a_pre, an_arrow, a_call, if_same, own_number, numbers, numbers_among}
use Rattle.lus_grammar.specs.Stream.{Stream, Mark}
use Rattle.lus_grammar.specs.Phrase as P
use Rattle.lus_grammar.specs.Phrase.{Part, Phrase, part, one_of, ◌⨾◌, ◌∣◌, repeated, optional}
use Rattle.lus_grammar.specs.Grammar.{body, when, bracketed, relations}
use Rattle.lus_grammar.specs.Syntax.{Counts, Syntax, leaf, numbered, node, ◌·◌, this, that}
use Rattle.lus_grammar.specs.Trees.{place_of, spelled, behind, put_at, joined, expression_of, grouped, sampled_by, arguments_of, listed_of}
use Rattle.lus_grammar.specs.Text as G
use Rattle.lus_grammar.specs.Text.{Text}
use Rattle.lus_grammar.proofs.Weights.{weigh, weigh_both}
use Rattle.lus_grammar.proofs.Counts.{is_of, weight}
use Rattle.lus_grammar.proofs.Texts.{ordered}

-- ---- phrases without occurrences

abbrev silent_part : Part → Bool
silent_part P.Parameters = true
silent_part P.Groups = true
silent_part P.Group = true
silent_part P.Names = true
silent_part P.Sort = true
silent_part P.Left = true
silent_part P.LocalGroup = true
silent_part _ = false

abbrev pub silent : Phrase → Bool
silent (one_of cs) = true
silent (P.counted k c) = false
silent (part p) = silent_part p
silent (P.limited p) = false
silent (P.fresh p) = false
silent (a ⨾ b) = silent a && silent b
silent (a ∣ b) = silent a && silent b
silent (optional a) = silent a
silent (repeated a) = silent a

silent_body : (p : Part) → silent_part p ≡ true → silent (body p) ≡ true
silent_body P.Parameters e = refl
silent_body P.Groups e = refl
silent_body P.Group e = refl
silent_body P.Names e = refl
silent_body P.Sort e = refl
silent_body P.Left e = refl
silent_body P.LocalGroup e = refl
silent_body _ e = absurd (false≢true e)

left_true : (a b : Bool) → (a && b) ≡ true → a ≡ true
left_true true b e = refl
left_true false b e = e

right_true : (a b : Bool) → (a && b) ≡ true → b ≡ true
right_true true b e = e
right_true false b e = absurd (false≢true e)

-- ---- kinds of tokens

abbrev same : Counted → Counted → Bool
same a_pre a_pre = true
same an_arrow an_arrow = true
same a_call a_call = true
same _ _ = false

is_pre : (c : Counted) → is_of c (Some (C.Keyword K.Pre)) ≡ same c a_pre
is_pre a_pre = refl
is_pre an_arrow = refl
is_pre a_call = refl

is_arrow : (c : Counted) → is_of c (Some (C.Sign S.Arrow)) ≡ same c an_arrow
is_arrow a_pre = refl
is_arrow an_arrow = refl
is_arrow a_call = refl

is_call : (c : Counted) → is_of c (Some (C.Sign S.Open)) ≡ same c a_call
is_call a_pre = refl
is_call an_arrow = refl
is_call a_call = refl

is_condact : (c : Counted) → is_of c (Some (C.Keyword K.Condact)) ≡ same c a_call
is_condact a_pre = refl
is_condact an_arrow = refl
is_condact a_call = refl

is_activate : (c : Counted) → is_of c (Some (C.Keyword K.Activate)) ≡ same c a_call
is_activate a_pre = refl
is_activate an_arrow = refl
is_activate a_call = refl

pub is_import : (c : Counted) → is_of c (Some (C.Keyword K.Import)) ≡ same c a_call
is_import a_pre = refl
is_import an_arrow = refl
is_import a_call = refl

-- ---- lines of expressions

abbrev merging : Phrase
merging = P.word K.Merge ⨾ P.identifier ⨾ P.sign S.Open ⨾ P.word K.True ⨾ P.sign S.Arrow ⨾ part P.Expression ⨾ P.sign S.Close
    ⨾ P.sign S.Open ⨾ P.word K.False ⨾ P.sign S.Arrow ⨾ part P.Expression ⨾ P.sign S.Close

abbrev behind_condition : Phrase
behind_condition = P.sign S.Comma ⨾ P.identifier ⨾ bracketed ⨾ repeated (P.sign S.Comma ⨾ part P.Expression) ⨾ P.sign S.Close

abbrev activation : Phrase
activation = P.counted P.calls (C.Keyword K.Activate) ⨾ P.identifier ⨾ P.word K.Every ⨾ part P.Expression ⨾ P.word K.Initial
    ⨾ P.word K.Default ⨾ bracketed ⨾ P.sign S.Close ⨾ bracketed

-- ---- what numbers weigh in a tree and in a text

module _ (c : Counted) (w : ℕ → ℕ) where
  abbrev pub seen : Expression → ℕ
  seen e = weigh w (numbers (own_number c) e)

  abbrev seen_among : Expressions → ℕ
  seen_among es = weigh w (numbers_among (own_number c) es)

  abbrev pub in_text : Syntax → ℕ
  in_text x = weight c w x

  -- an occurrence weighs in the tree what its token weighs in the text
  same_weight : (c d : Counted) (k : ℕ) (b : Bool) → b ≡ same c d → weigh w (if_same c d k) ≡ cond b (w k) 0
  same_weight a_pre a_pre k b e = rw e (omega arith)
  same_weight a_pre an_arrow k b e = rw e refl
  same_weight a_pre a_call k b e = rw e refl
  same_weight an_arrow a_pre k b e = rw e refl
  same_weight an_arrow an_arrow k b e = rw e (omega arith)
  same_weight an_arrow a_call k b e = rw e refl
  same_weight a_call a_pre k b e = rw e refl
  same_weight a_call an_arrow k b e = rw e refl
  same_weight a_call a_call k b e = rw e (omega arith)

  pub own_weight : (d : Counted) (k : ℕ) (t : Mark) (o : Class) → t.class ≡ Some o → is_of c (Some o) ≡ same c d → weigh w
      (if_same c d k) ≡ cond (is_of c t.class) (w k) 0
  own_weight d k t o e h = same_weight c d k (is_of c t.class) (ap (is_of c) e ∙ h)

  two : (ks js : List ℕ) → weigh w (ks ++ js) ≡ weigh w ks + weigh w js
  two ks js = weigh_both w ks js

  three : (ks js ls : List ℕ) → weigh w (ks ++ (js ++ ls)) ≡ weigh w ks + (weigh w js + weigh w ls)
  three ks js ls = let a = two ks (js ++ ls) in let b = two js ls in omega arith

  three_left : (ks js ls : List ℕ) → weigh w ((ks ++ js) ++ ls) ≡ (weigh w ks + weigh w js) + weigh w ls
  three_left ks js ls = let a = two (ks ++ js) ls in let b = two ks js in omega arith

  -- where an expression begins doesn't matter
  pub begun_same : (p : T.Place) (e : Expression) → seen (put_at p e) ≡ seen e
  begun_same p (T.truth q b) = refl
  begun_same p (T.number q n) = refl
  begun_same p (T.name q x) = refl
  begun_same p (T.negation q a) = refl
  begun_same p (T.minus q a) = refl
  begun_same p (T.pre q k a) = refl
  begun_same p (T.arrow q k a b) = refl
  begun_same p (T.binary q o a b) = refl
  begun_same p (T.choice q a b d) = refl
  begun_same p (T.sampled q a b x) = refl
  begun_same p (T.merged q x a b) = refl
  begun_same p (T.call q k f as_) = refl
  begun_same p (T.condact q k a f as_ ds) = refl
  begun_same p (T.mode_name q d m) = refl

  -- texts of a line with at most so many tokens weigh what their trees do
  record SameUpTo (limit end : ℕ) (s : Stream) (z : ℕ) (p : Part) : Type 0 where
    pub same : {i j : ℕ} {n m : Counts} {x : Syntax} → j ≤ i + z → Text limit end s (part p) i j n m x → seen (expression_of x) ≡ in_text x

  -- texts with fewer tokens do
  record Shorter (limit end : ℕ) (s : Stream) (z : ℕ) : Type 0 where
    pub expression : {i j : ℕ} {n m : Counts} {x : Syntax} → j < i + z → Text limit end s (part P.Expression) i j n m x → seen (expression_of x) ≡ in_text x
    pub condition : {i j : ℕ} {n m : Counts} {x : Syntax} → j < i + z → Text limit end s (part P.Condition) i j n m x → seen (expression_of x) ≡ in_text x
    pub implication : {i j : ℕ} {n m : Counts} {x : Syntax} → j < i + z → Text limit end s (part P.Implication) i j n m x → seen (expression_of x) ≡ in_text x
    pub unary : {i j : ℕ} {n m : Counts} {x : Syntax} → j < i + z → Text limit end s (part P.Unary) i j n m x → seen (expression_of x) ≡ in_text x

  module _ {limit end : ℕ} {s : Stream} where
    -- nothing is numbered there
    pub quiet : {g : Phrase} {i j : ℕ} {n m : Counts} {x : Syntax} → Text limit end s g i j n m x → silent g ≡ true → in_text x ≡ 0
    quiet (G.token t) e = refl
    quiet (G.occurrence t) e = absurd (false≢true e)
    quiet (G.line {p = p} a) e = quiet a (silent_body p e)
    quiet (G.line_within a l) e = absurd (false≢true e)
    quiet (G.line_anew a) e = absurd (false≢true e)
    quiet (G.both {a = a} {b = b} u v) e = let p = quiet u (left_true (silent a) (silent b) e) in let q = quiet v
        (right_true (silent a) (silent b) e) in omega arith
    quiet (G.this_one {a = a} {b = b} u) e = quiet u (left_true (silent a) (silent b) e)
    quiet (G.that_one {a = a} {b = b} u) e = quiet u (right_true (silent a) (silent b) e)
    quiet G.not_once e = refl
    quiet (G.once u) e = quiet u e
    quiet G.no_more e = refl
    quiet (G.again u v) e = let p = quiet u e in let q = quiet v e in omega arith

    -- clocks behind an expression
    in_clocks : {i j : ℕ} {n m : Counts} {x : Syntax} → Text limit end s (repeated when) i j n m x → (a : Expression) (q : ℕ) → seen a ≡ q
        → seen (sampled_by a x) ≡ q + in_text x
    in_clocks G.no_more a q e = omega arith
    in_clocks (G.again (G.both (G.token {i = i} t) (G.both G.not_once (G.token {i = k} u))) r) a q e =
        let f = two (numbers (own_number c) a) [] in
        let p = in_clocks r (T.sampled (behind a (s i)) a true (spelled (s k))) q (omega arith) in
        omega arith
    in_clocks (G.again (G.both (G.token {i = i} t) (G.both (G.once (G.token v)) (G.token {i = k} u))) r) a q e =
        let f = two (numbers (own_number c) a) [] in
        let p = in_clocks r (T.sampled (behind a (s i)) a false (spelled (s k))) q (omega arith) in
        omega arith

    -- operators behind an operand
    in_rest : {cs : List Class} {p : Part} (z : ℕ) → SameUpTo limit end s z p → {i j : ℕ} {n m : Counts} {x : Syntax} → Text limit end s
        (repeated (one_of cs ⨾ part p)) i j n m x → j ≤ i + z → (a : Expression) (q : ℕ) → seen a ≡ q → seen (grouped a x) ≡ q + in_text x
    in_rest z k G.no_more le a q e = omega arith
    in_rest z k (G.again (G.both {y = b} (G.token {i = i} t) u) r) le a q e =
        let l = ordered u in
        let h = ordered r in
        let f = two (numbers (own_number c) a) (numbers (own_number c) (expression_of b)) in
        let p = k.same (omega arith) u in
        let g = in_rest z k r (omega arith) (joined a (s i) (expression_of b)) (q + in_text b) (omega arith) in
        omega arith

    in_mode : {i j : ℕ} {n m : Counts} {x : Syntax} → Text limit end s
        (P.sign S.DoubleColon ⨾ P.identifier ⨾ optional (P.sign S.DoubleColon ⨾ P.identifier)) i j n m x →
        seen (expression_of (node P.Primary (that (that (that (this x)))))) ≡ in_text x
    in_mode (G.both (G.token t) (G.both (G.token u) G.not_once)) = omega arith
    in_mode (G.both (G.token t) (G.both (G.token u) (G.once (G.both (G.token v) (G.token z))))) = omega arith

    module _ (z : ℕ) (shorter : Shorter limit end s z) where
      in_listed : {i j : ℕ} {n m : Counts} {x : Syntax} → j < i + z → Text limit end s
          (repeated (P.sign S.Comma ⨾ part P.Expression)) i j n m x → seen_among (listed_of x) ≡ in_text x
      in_listed lt G.no_more = refl
      in_listed lt (G.again {y = as_} (G.both {y = a} t u) r) =
          let o1 = ordered t in
          let o2 = ordered u in
          let o3 = ordered r in
          let e = two (numbers (own_number c) (expression_of a)) (numbers_among (own_number c) (listed_of as_)) in
          let f = quiet t refl in
          let p = shorter.expression (omega arith) u in
          let q = in_listed (omega arith) r in
          omega arith

      in_arguments : {i j : ℕ} {n m : Counts} {x : Syntax} → j < i + z → Text limit end s (optional (part P.Expressions)) i j n m x
          → seen_among (arguments_of x) ≡ in_text x
      in_arguments lt G.not_once = refl
      in_arguments lt (G.once (G.line (G.both {x = a} {y = as_} u r))) =
          let o1 = ordered u in
          let o2 = ordered r in
          let e = two (numbers (own_number c) (expression_of a)) (numbers_among (own_number c) (listed_of as_)) in
          let p = shorter.expression (omega arith) u in
          let q = in_listed (omega arith) r in
          omega arith

      -- a name or a call
      in_name : {i j : ℕ} {n m : Counts} {x : Syntax} → j ≤ i + z → Text limit end s
          (P.identifier ⨾ optional (P.counted P.calls (C.Sign S.Open) ⨾ optional (part P.Expressions) ⨾ P.sign S.Close)) i j n m x →
          seen (expression_of (node P.Primary (that (that (this x))))) ≡ in_text x
      in_name le (G.both (G.token t) G.not_once) = omega arith
      in_name {n = n} le (G.both (G.token t) (G.once (G.both (G.occurrence {i = i} e) (G.both {x = xs} u v)))) =
          let f = two (if_same c a_call (n.calls + 1)) (numbers_among (own_number c) (arguments_of xs)) in
          let o = own_weight a_call (n.calls + 1) (s i) (C.Sign S.Open) e (is_call c) in
          let o1 = ordered v in
          let p = in_arguments (omega arith) u in
          let q = quiet v refl in
          omega arith

      in_merge : {i j : ℕ} {n m : Counts} {x : Syntax} → j ≤ i + z → Text limit end s merging i j n m x → seen
          (expression_of (node P.Primary (that (that (that (that (this x))))))) ≡ in_text x
      in_merge le (G.both (G.token t1) (G.both (G.token t2) (G.both t3
          (G.both t4 (G.both t5 (G.both {x = a} u (G.both t6 (G.both t7 (G.both t8 (G.both t9 (G.both {x = b} v t10))))))))))) =
          let e = two (numbers (own_number c) (expression_of a)) (numbers (own_number c) (expression_of b)) in
          let o3 = ordered t3 in
          let o4 = ordered t4 in
          let o5 = ordered t5 in
          let o = ordered u in
          let o6 = ordered t6 in
          let o7 = ordered t7 in
          let o8 = ordered t8 in
          let o9 = ordered t9 in
          let o' = ordered v in
          let o10 = ordered t10 in
          let p = shorter.expression (omega arith) u in
          let q = shorter.expression (omega arith) v in
          let q3 = quiet t3 refl in
          let q4 = quiet t4 refl in
          let q5 = quiet t5 refl in
          let q6 = quiet t6 refl in
          let q7 = quiet t7 refl in
          let q8 = quiet t8 refl in
          let q9 = quiet t9 refl in
          let q10 = quiet t10 refl in
          omega arith

      -- a condact behind its condition
      in_condact : {i j : ℕ} {n m : Counts} {y : Syntax} → j < i + z → Text limit end s behind_condition i j n m y → (t : Mark) (k : ℕ)
          (o a : Syntax) → seen (expression_of a) ≡ in_text a → in_text o ≡ 0 → weigh w (if_same c a_call k) ≡ cond (is_of c t.class)
          (w k) 0 →
          seen (expression_of (node P.Primary (that (that (that (that (that (this (numbered t k · o · a · y))))))))) ≡ cond
          (is_of c t.class) (w k) 0 + (in_text o + (in_text a + in_text y))
      in_condact lt (G.both (G.token t2) (G.both (G.token t3) (G.both (G.both t4 (G.both {x = xs} v t5)) (G.both {x = ds} u t6)))) t k o a p q e =
          let f = two (if_same c a_call k) ((numbers (own_number c) (expression_of a) ++ numbers_among (own_number c) (arguments_of xs))
          ++ numbers_among (own_number c) (listed_of ds)) in
          let g = three_left (numbers (own_number c) (expression_of a)) (numbers_among (own_number c) (arguments_of xs))
          (numbers_among (own_number c) (listed_of ds)) in
          let o4 = ordered t4 in
          let o1 = ordered v in
          let o5 = ordered t5 in
          let o2 = ordered u in
          let o6 = ordered t6 in
          let r = in_arguments (omega arith) v in
          let h = in_listed (omega arith) u in
          let q4 = quiet t4 refl in
          let q5 = quiet t5 refl in
          let q6 = quiet t6 refl in
          omega arith

      -- an activation, or an expression in parentheses
      in_round : {i j : ℕ} {n m : Counts} {x : Syntax} → j < i + z → Text limit end s
          (activation ∣ (part P.Expression ⨾ P.sign S.Close)) i j n m x → (t : Mark) → seen
          (expression_of (node P.Primary (that (that (that (that (that (that (leaf t · x))))))))) ≡ in_text x
      in_round {n = n} lt (G.this_one (G.both (G.occurrence {i = i} e)
          (G.both (G.token t1) (G.both t2 (G.both {x = a} u (G.both t3
          (G.both t4 (G.both (G.both t5 (G.both {x = ds} y t6)) (G.both t7 (G.both t8 (G.both {x = xs} v t9))))))))))) t =
          let f = two (if_same c a_call (n.calls + 1)) ((numbers (own_number c) (expression_of a) ++ numbers_among (own_number c)
          (arguments_of xs)) ++ numbers_among (own_number c) (arguments_of ds)) in
          let g = three_left (numbers (own_number c) (expression_of a)) (numbers_among (own_number c) (arguments_of xs))
          (numbers_among (own_number c) (arguments_of ds)) in
          let o = own_weight a_call (n.calls + 1) (s i) (C.Keyword K.Activate) e (is_activate c) in
          let o2 = ordered t2 in
          let ou = ordered u in
          let o3 = ordered t3 in
          let o4 = ordered t4 in
          let o5 = ordered t5 in
          let oy = ordered y in
          let o6 = ordered t6 in
          let o7 = ordered t7 in
          let o8 = ordered t8 in
          let ov = ordered v in
          let o9 = ordered t9 in
          let p = shorter.expression (omega arith) u in
          let q = in_arguments (omega arith) v in
          let r = in_arguments (omega arith) y in
          let q2 = quiet t2 refl in
          let q3 = quiet t3 refl in
          let q4 = quiet t4 refl in
          let q5 = quiet t5 refl in
          let q6 = quiet t6 refl in
          let q7 = quiet t7 refl in
          let q8 = quiet t8 refl in
          let q9 = quiet t9 refl in
          omega arith
      in_round lt (G.that_one (G.both {x = a} u t1)) t =
          let b = begun_same (record { from = t.at; at = (place_of (expression_of a)).at }) (expression_of a) in
          let o1 = ordered t1 in
          let p = shorter.expression (omega arith) u in
          let q = quiet t1 refl in
          omega arith

      in_primary : {i j : ℕ} {n m : Counts} {x : Syntax} → j ≤ i + z → Text limit end s (part P.Primary) i j n m x → seen (expression_of x) ≡ in_text x
      in_primary le (G.line (G.this_one (G.token t))) = refl
      in_primary le (G.line (G.that_one (G.this_one (G.token t)))) = refl
      in_primary le (G.line (G.that_one (G.that_one (G.this_one a)))) = in_name le a
      in_primary le (G.line (G.that_one (G.that_one (G.that_one (G.this_one a))))) = in_mode a
      in_primary le (G.line (G.that_one (G.that_one (G.that_one (G.that_one (G.this_one a)))))) = in_merge le a
      in_primary {n = n} le (G.line (G.that_one (G.that_one (G.that_one
          (G.that_one (G.that_one (G.this_one (G.both (G.occurrence {i = i} e) (G.both {x = o} t1 (G.both {x = a} u r)))))))))) =
          let o1 = ordered t1 in
          let ou = ordered u in
          let ol = ordered r in
          let p = shorter.expression (omega arith) u in
          let q = quiet t1 refl in
          in_condact (omega arith) r (s i) (n.calls + 1) o a p q (own_weight a_call (n.calls + 1) (s i) (C.Keyword K.Condact) e (is_condact c))
      in_primary le (G.line (G.that_one (G.that_one (G.that_one (G.that_one (G.that_one (G.that_one (G.both (G.token {i = i} t) a)))))))) =
          let p = in_round (omega arith) a (s i) in omega arith

      in_unary : {i j : ℕ} {n m : Counts} {x : Syntax} → j ≤ i + z → Text limit end s (part P.Unary) i j n m x → seen (expression_of x) ≡ in_text x
      in_unary le (G.line (G.this_one (G.both (G.token t) a))) = let p = shorter.unary (omega arith) a in omega arith
      in_unary le (G.line (G.that_one (G.this_one (G.both (G.token t) a)))) = let p = shorter.unary (omega arith) a in omega arith
      in_unary {n = n} le (G.line (G.that_one (G.that_one (G.this_one (G.both {y = y} (G.occurrence {i = i} e) a))))) =
          let t = two (if_same c a_pre (n.pres + 1)) (numbers (own_number c) (expression_of y)) in
          let o = own_weight a_pre (n.pres + 1) (s i) (C.Keyword K.Pre) e (is_pre c) in
          let p = shorter.unary (omega arith) a in
          omega arith
      in_unary le (G.line (G.that_one (G.that_one (G.that_one a)))) = in_primary le a

      in_products : {i j : ℕ} {n m : Counts} {x : Syntax} → j ≤ i + z → Text limit end s (part (P.Chain P.Products)) i j n m x → seen
          (expression_of x) ≡ in_text x
      in_products le (G.line (G.both {x = x} a r)) =
          let u = ordered a in
          let v = ordered r in
          in_rest z (record { same = λ le a. in_unary le a }) r (omega arith) (expression_of x) (in_text x) (in_unary (omega arith) a)

      in_sums : {i j : ℕ} {n m : Counts} {x : Syntax} → j ≤ i + z → Text limit end s (part (P.Chain P.Sums)) i j n m x → seen (expression_of x) ≡ in_text x
      in_sums le (G.line (G.both {x = x} a r)) =
          let u = ordered a in
          let v = ordered r in
          in_rest z (record { same = λ le a. in_products le a }) r (omega arith) (expression_of x) (in_text x) (in_products (omega arith) a)

      in_compared : {i j : ℕ} {n m : Counts} {y : Syntax} → j ≤ i + z → Text limit end s
          (optional (one_of relations ⨾ part (P.Chain P.Sums))) i j n m y → (x : Syntax) → seen (expression_of x) ≡ in_text x → seen
          (expression_of (node P.Relation (x · y))) ≡ in_text x + in_text y
      in_compared le G.not_once x e = omega arith
      in_compared le (G.once (G.both {y = b} (G.token t) v)) x e =
          let f = two (numbers (own_number c) (expression_of x)) (numbers (own_number c) (expression_of b)) in
          let q = in_sums (omega arith) v in
          omega arith

      in_relation : {i j : ℕ} {n m : Counts} {x : Syntax} → j ≤ i + z → Text limit end s (part P.Relation) i j n m x → seen (expression_of x) ≡ in_text x
      in_relation le (G.line (G.both {x = x} a r)) =
          let u = ordered a in
          let v = ordered r in
          in_compared (omega arith) r x (in_sums (omega arith) a)

      in_conjunctions : {i j : ℕ} {n m : Counts} {x : Syntax} → j ≤ i + z → Text limit end s (part (P.Chain P.Conjunctions)) i j n m x
          → seen (expression_of x) ≡ in_text x
      in_conjunctions le (G.line (G.both {x = x} a r)) =
          let u = ordered a in
          let v = ordered r in
          in_rest z (record { same = λ le a. in_relation le a }) r (omega arith) (expression_of x) (in_text x) (in_relation (omega arith) a)

      in_disjunctions : {i j : ℕ} {n m : Counts} {x : Syntax} → j ≤ i + z → Text limit end s (part (P.Chain P.Disjunctions)) i j n m x
          → seen (expression_of x) ≡ in_text x
      in_disjunctions le (G.line (G.both {x = x} a r)) =
          let u = ordered a in
          let v = ordered r in
          in_rest z (record { same = λ le a. in_conjunctions le a }) r (omega arith) (expression_of x) (in_text x) (in_conjunctions (omega arith) a)

      in_implied : {i j : ℕ} {n m : Counts} {y : Syntax} → j ≤ i + z → Text limit end s
          (optional (P.sign S.Implies ⨾ part P.Implication)) i j n m y → (x : Syntax) → seen (expression_of x) ≡ in_text x → seen
          (expression_of (node P.Implication (x · y))) ≡ in_text x + in_text y
      in_implied le G.not_once x e = omega arith
      in_implied le (G.once (G.both {y = b} (G.token t) v)) x e =
          let f = two (numbers (own_number c) (expression_of x)) (numbers (own_number c) (expression_of b)) in
          let q = shorter.implication (omega arith) v in
          omega arith

      in_implication : {i j : ℕ} {n m : Counts} {x : Syntax} → j ≤ i + z → Text limit end s (part P.Implication) i j n m x → seen (expression_of x) ≡ in_text x
      in_implication le (G.line (G.both {x = x} a r)) =
          let u = ordered a in
          let v = ordered r in
          in_implied (omega arith) r x (in_disjunctions (omega arith) a)

      -- an arrow behind its left operand
      in_arrow_behind : {i j : ℕ} {n m : Counts} {y : Syntax} → j ≤ i + z → Text limit end s
          (optional (P.counted P.arrows (C.Sign S.Arrow) ⨾ part P.Condition)) i j n m y → (x : Syntax) → seen (expression_of x) ≡ in_text x
          → seen (expression_of (node P.Arrow (x · y))) ≡ in_text x + in_text y
      in_arrow_behind le G.not_once x e = omega arith
      in_arrow_behind {n = n} le (G.once (G.both {y = b} (G.occurrence {i = i} t) v)) x e =
          let f = three (numbers (own_number c) (expression_of x)) (if_same c an_arrow (n.arrows + 1)) (numbers (own_number c) (expression_of b)) in
          let o = own_weight an_arrow (n.arrows + 1) (s i) (C.Sign S.Arrow) t (is_arrow c) in
          let q = shorter.condition (omega arith) v in
          omega arith

      in_arrow : {i j : ℕ} {n m : Counts} {x : Syntax} → j ≤ i + z → Text limit end s (part P.Arrow) i j n m x → seen (expression_of x) ≡ in_text x
      in_arrow le (G.line (G.both {x = x} a r)) =
          let u = ordered a in
          let v = ordered r in
          in_arrow_behind (omega arith) r x (in_implication (omega arith) a)

      in_condition : {i j : ℕ} {n m : Counts} {x : Syntax} → j ≤ i + z → Text limit end s (part P.Condition) i j n m x → seen (expression_of x) ≡ in_text x
      in_condition le (G.line (G.this_one (G.both (G.token t) (G.both {x = a} u (G.both t1 (G.both {x = b} v (G.both {y = d} t2 y))))))) =
          let e = three_left (numbers (own_number c) (expression_of a)) (numbers (own_number c) (expression_of b)) (numbers (own_number c) (expression_of d)) in
          let ou = ordered u in
          let o1 = ordered t1 in
          let ov = ordered v in
          let o2 = ordered t2 in
          let oy = ordered y in
          let p = shorter.expression (omega arith) u in
          let q = shorter.expression (omega arith) v in
          let r = shorter.condition (omega arith) y in
          let f = quiet t1 refl in
          let g = quiet t2 refl in
          omega arith
      in_condition le (G.line (G.that_one a)) = in_arrow le a

      in_expression_of : {i j : ℕ} {n m : Counts} {x : Syntax} → j ≤ i + z → Text limit end s (part P.Expression) i j n m x → seen (expression_of x) ≡ in_text x
      in_expression_of le (G.line (G.both {x = x} a r)) =
          let u = ordered a in
          let v = ordered r in
          in_clocks r (expression_of x) (in_text x) (in_condition (omega arith) a)

    all_shorter : (z : ℕ) → Shorter limit end s z
    all_shorter zero = record {
      expression = λ lt a. absurd (let u = ordered a in omega arith);
      condition = λ lt a. absurd (let u = ordered a in omega arith);
      implication = λ lt a. absurd (let u = ordered a in omega arith);
      unary = λ lt a. absurd (let u = ordered a in omega arith);
    }
    all_shorter (suc z) = record {
      expression = λ lt a. in_expression_of z (all_shorter z) (omega arith) a;
      condition = λ lt a. in_condition z (all_shorter z) (omega arith) a;
      implication = λ lt a. in_implication z (all_shorter z) (omega arith) a;
      unary = λ lt a. in_unary z (all_shorter z) (omega arith) a;
    }

    pub in_expression : {i j : ℕ} {n m : Counts} {x : Syntax} → Text limit end s (part P.Expression) i j n m x → seen (expression_of x) ≡ in_text x
    in_expression {j = j} a = (all_shorter (suc j)).expression (omega arith) a
