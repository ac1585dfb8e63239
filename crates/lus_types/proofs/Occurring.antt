-- What is gathered of the occurrences of a declaration is gathered of its expressions and their parts.
use Rattle.std.proofs.Common.{◌≡◌, true, false, List, [], ◌∷◌, ◌++◌, map, flat_map, refl, ap, ◌∙◌, sym}
use Rattle.std.proofs.lemmas.List.{append_assoc, map-append}
use Rattle.lus_tree.specs.Tree.{Expression, Expressions, truth, number, name, negation, minus, pre, arrow, binary, choice, sampled, merged, call, condact, mode_name, no_more, more, Constant, Labelled, Statement, equation, assertion, property, main_mark, ContractStatement, assume, guarantee, ghost_variable, constant, mode, «import», Component, Program}
use Rattle.lus_meaning.specs.Scene.{base, clock_of, contract_statements, sampled_by}
use Rattle.lus_meaning.specs.Occurrences.{Occurrence, Standing, Text, all_occurrences, before, constant_texts, contract_statement_texts, gathered, moved, occurrences, occurrences_among, on_base, on_clock, statement_texts, texts, within}
use Rattle.lus_meaning.specs.NameFaults.{callee_in, state_in}
use Rattle.lus_types.specs.Called.{callee_of, constant_sides, contract_sides, statement_sides, values_of}
use Rattle.lus_types.specs.Reads.{read_among, read_in, read_of}
use Rattle.lus_types.specs.Sides.{all_parts, all_sides, parts_among, parts_of}
use Rattle.lus_types.specs.States.{state_of}

pub split : {A B : Type 0} (f : A → List B) (xs ys : List A) → flat_map f (xs ++ ys) ≡ flat_map f xs ++ flat_map f ys
split f [] ys = refl
split f (x ∷ xs) ys = ap (λ zs. f x ++ zs) (split f xs ys) ∙ sym (append_assoc (f x) (flat_map f xs) (flat_map f ys))

-- the parts of an expression are the expressions of its occurrences
abbrev shown : Occurrence → Expression
shown o = o.expression

abbrev mutual
  parts_are : (n : Component) (s : Standing) (e : Expression) → map shown (occurrences n s e) ≡ parts_of true e
  parts_are n s (truth p b) = refl
  parts_are n s (number p k) = refl
  parts_are n s (name p x) = refl
  parts_are n s (negation p a) = ap (λ es. negation p a ∷ es) (parts_are n (within s) a)
  parts_are n s (minus p a) = ap (λ es. minus p a ∷ es) (parts_are n (within s) a)
  parts_are n s (pre p k a) = ap (λ es. pre p k a ∷ es) (parts_are n (before s) a)
  parts_are n s (arrow p k a b) = map-append shown (occurrences n (within s) a) _
      ∙ (rw (parts_are n (within s) a, parts_are n (within s) b) refl)
  parts_are n s (binary p o a b) = map-append shown (occurrences n (within s) a) _
      ∙ (rw (parts_are n (within s) a, parts_are n (within s) b) refl)
  parts_are n s (choice p a b d) = ap (λ es. choice p a b d ∷ es) (map-append shown (occurrences n (within s) a) _
      ∙ (rw (
        parts_are n (within s) a,
        map-append shown (occurrences n (within s) b) (occurrences n (within s) d),
        parts_are n (within s) b,
        parts_are n (within s) d,
      ) refl))
  parts_are n s (sampled p a b x) = map-append shown (occurrences n (moved (clock_of n x.text) s) a) _
      ∙ (rw (parts_are n (moved (clock_of n x.text) s) a) refl)
  parts_are n s (merged p x a b) = ap (λ es. merged p x a b ∷ es)
      (map-append shown (occurrences n (moved (sampled_by true x.text) s) a) _
      ∙ (rw (parts_are n (moved (sampled_by true x.text) s) a, parts_are n (moved (sampled_by false x.text) s) b) refl))
  parts_are n s (call p k f as_) = ap (λ es. call p k f as_ ∷ es) (among_are n (within s) as_)
  parts_are n s (condact p k a f as_ ds) = ap (λ es. condact p k a f as_ ds ∷ es) (map-append shown (occurrences n (within s) a) _
      ∙ (rw (
        parts_are n (within s) a,
        map-append shown (occurrences_among n (within s) as_) (occurrences_among n (within s) ds),
        among_are n (within s) as_,
        among_are n (within s) ds,
      ) refl))
  parts_are n s (mode_name p d m) = refl

  among_are : (n : Component) (s : Standing) (es : Expressions) → map shown (occurrences_among n s es) ≡ parts_among true es
  among_are n s no_more = refl
  among_are n s (more a as_) = map-append shown (occurrences n s a) (occurrences_among n s as_) ∙ (rw (parts_are n s a, among_are n s as_) refl)

texts_are : (n : Component) (xs : List Text) → map shown (flat_map (λ x. occurrences n x.0 x.1) xs) ≡ flat_map (parts_of true) (map (λ x. x.1) xs)
texts_are n [] = refl
texts_are n (x ∷ xs) = map-append shown (occurrences n x.0 x.1) (flat_map (λ x. occurrences n x.0 x.1) xs)
    ∙ (rw (parts_are n x.0 x.1, texts_are n xs) refl)

-- ---- the expressions of a declaration

abbrev second : Text → Expression
second x = x.1

joined : (xs ys : List Text) → map second (xs ++ ys) ≡ map second xs ++ map second ys
joined [] ys = refl
joined (x ∷ xs) ys = ap (λ es. x.1 ∷ es) (joined xs ys)

labelled_sides : (ls : List Labelled) → map second (on_base ls) ≡ values_of ls
labelled_sides [] = refl
labelled_sides (l ∷ ls) = ap (λ es. l.value ∷ es) (labelled_sides ls)

argument_sides : (as_ : List Expression) → map second (map (λ a. (on_clock base, a)) as_) ≡ as_
argument_sides [] = refl
argument_sides (a ∷ as_) = ap (λ es. a ∷ es) (argument_sides as_)

one_contract : (c : ContractStatement) → map second (contract_statement_texts c) ≡ contract_sides c
one_contract (assume l) = refl
one_contract (guarantee l) = refl
one_contract (ghost_variable x e) = refl
one_contract (constant c) = refl
one_contract (mode m rs es) = joined (on_base rs) (on_base es) ∙ (rw (labelled_sides rs, labelled_sides es) refl)
one_contract («import» k c as_ xs) = argument_sides as_

all_contract : (cs : List ContractStatement) → map second (flat_map contract_statement_texts cs) ≡ flat_map contract_sides cs
all_contract [] = refl
all_contract (c ∷ cs) = joined (contract_statement_texts c) (flat_map contract_statement_texts cs) ∙ (rw (one_contract c, all_contract cs) refl)

all_constants : (cs : List Constant) → map second (constant_texts cs) ≡ constant_sides cs
all_constants [] = refl
all_constants (c ∷ cs) = ap (λ es. c.value ∷ es) (all_constants cs)

one_statement : (n : Component) (s : Statement) → map second (statement_texts n s) ≡ statement_sides s
one_statement n (equation xs e) = refl
one_statement n (assertion e) = refl
one_statement n (property l) = refl
one_statement n (main_mark p) = refl

all_statements : (n : Component) (ss : List Statement) → map second (flat_map (statement_texts n) ss) ≡ flat_map statement_sides ss
all_statements n [] = refl
all_statements n (s ∷ ss) = joined (statement_texts n s) (flat_map (statement_texts n) ss) ∙ (rw (one_statement n s, all_statements n ss) refl)

sides_are : (n : Component) → map second (texts n) ≡ all_sides n
sides_are n = joined (flat_map contract_statement_texts (contract_statements n)) (constant_texts n.constants ++ flat_map (statement_texts n) n.body)
    ∙ (rw (
      joined (constant_texts n.constants) (flat_map (statement_texts n) n.body),
      all_contract
          (contract_statements n),
      all_constants n.constants,
      all_statements n n.body,
    ) refl)

-- what is gathered of occurrences, where it doesn't ask where they stand
gathered_by : {A : Type 0} (f : Standing → Expression → List A) (g : Expression → List A) → ((s : Standing) (e : Expression) → f s e ≡ g e)
    → (os : List Occurrence) → flat_map (λ o. f o.standing o.expression) os ≡ flat_map g (map shown os)
gathered_by f g h [] = refl
gathered_by f g h (o ∷ os) = rw (h o.standing o.expression, gathered_by f g h os) refl

all_are : (n : Component) → map shown (all_occurrences n) ≡ all_parts n
all_are n = texts_are n (texts n) ∙ ap (flat_map (parts_of true)) (sides_are n)

same_callee : (s : Standing) (e : Expression) → callee_in s e ≡ callee_of e
same_callee s (truth p b) = refl
same_callee s (number p k) = refl
same_callee s (name p x) = refl
same_callee s (negation p a) = refl
same_callee s (minus p a) = refl
same_callee s (pre p k a) = refl
same_callee s (arrow p k a b) = refl
same_callee s (binary p o a b) = refl
same_callee s (choice p a b d) = refl
same_callee s (sampled p a b x) = refl
same_callee s (merged p x a b) = refl
same_callee s (call p k f as_) = refl
same_callee s (condact p k a f as_ ds) = refl
same_callee s (mode_name p d m) = refl

pub gathered_called : (n : Component) → gathered callee_in n ≡ flat_map callee_of (all_parts n)
gathered_called n = gathered_by callee_in callee_of same_callee (all_occurrences n) ∙ ap (flat_map callee_of) (all_are n)

module _ (r : Program) where
  same_state : (s : Standing) (e : Expression) → state_in r s e ≡ state_of r e
  same_state s (truth p b) = refl
  same_state s (number p k) = refl
  same_state s (name p x) = refl
  same_state s (negation p a) = refl
  same_state s (minus p a) = refl
  same_state s (pre p k a) = refl
  same_state s (arrow p k a b) = refl
  same_state s (binary p o a b) = refl
  same_state s (choice p a b d) = refl
  same_state s (sampled p a b x) = refl
  same_state s (merged p x a b) = refl
  same_state s (call p k f as_) = refl
  same_state s (condact p k a f as_ ds) = refl
  same_state s (mode_name p d m) = refl

  pub gathered_states : (n : Component) → gathered (state_in r) n ≡ flat_map (state_of r) (all_parts n)
  gathered_states n = gathered_by (state_in r) (state_of r) same_state (all_occurrences n) ∙ ap (flat_map (state_of r)) (all_are n)

-- what an expression reads at its own instant
abbrev mutual
  pub reads_are : (e : Expression) → flat_map read_of (parts_of false e) ≡ read_in e
  reads_are (truth p b) = refl
  reads_are (number p k) = refl
  reads_are (name p x) = refl
  reads_are (negation p a) = reads_are a
  reads_are (minus p a) = reads_are a
  reads_are (pre p k a) = refl
  reads_are (arrow p k a b) = split read_of (parts_of false a) _ ∙ (rw (reads_are a, reads_are b) refl)
  reads_are (binary p o a b) = split read_of (parts_of false a) _ ∙ (rw (reads_are a, reads_are b) refl)
  reads_are (choice p a b d) = split read_of (parts_of false a) _
      ∙ (rw (reads_are a, split read_of (parts_of false b) (parts_of false d), reads_are b, reads_are d) refl)
  reads_are (sampled p a b x) = split read_of (parts_of false a) _ ∙ (rw (reads_are a) refl)
  reads_are (merged p x a b) = ap (λ ws. x ∷ ws) (split read_of (parts_of false a) _ ∙ (rw (reads_are a, reads_are b) refl))
  reads_are (call p k f as_) = reads_among as_
  reads_are (condact p k a f as_ ds) = split read_of (parts_of false a) _
      ∙ (rw (reads_are a, split read_of (parts_among false as_) (parts_among false ds), reads_among as_, reads_among ds) refl)
  reads_are (mode_name p d m) = refl

  reads_among : (es : Expressions) → flat_map read_of (parts_among false es) ≡ read_among es
  reads_among no_more = refl
  reads_among (more a as_) = split read_of (parts_of false a) (parts_among false as_) ∙ (rw (reads_are a, reads_among as_) refl)

-- what is added in three steps
pub three_steps : {A : Type 0} (a b c x y z : List A) → a ≡ x → b ≡ a ++ y → c ≡ b ++ z → c ≡ x ++ (y ++ z)
three_steps a b c x y z e f g = g ∙ (rw (f, e) (append_assoc x y z))
