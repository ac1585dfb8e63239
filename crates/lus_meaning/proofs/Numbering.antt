-- The numbers of a declaration's occurrences are those that its tree has.
use Rattle.std.proofs.Common.{◌≡◌, ℕ, true, false, List, [], ◌∷◌, ◌++◌, map, flat_map, refl, ap, ◌∙◌, sym, append_assoc}
use Rattle.std.proofs.lemmas.Grind.{flat_map-append}
use Rattle.lus_tree.specs.Tree.{Expression, Expressions, truth, number, name, negation, minus, pre, arrow, binary, choice, sampled, merged, call, condact, mode_name, no_more, more, Labelled, Constant, Statement, equation, assertion, property, main_mark, ContractStatement, assume, guarantee, ghost_variable, constant, mode, «import», Component}
use Rattle.lus_tree.specs.Numbers.{numbers, numbers_among, pre_number, arrow_number, statement_expressions, body_expressions, contract_statement_expressions, all_expressions, all_numbers}
use Rattle.lus_meaning.specs.Scene.{base, sampled_by, clock_of, contract_statements}
use Rattle.lus_meaning.specs.Occurrences.{Standing, within, before, moved, on_clock, occurs, Occurrence, occurrences, occurrences_among, Text, on_base, contract_statement_texts, statement_texts, constant_texts, texts, gathered, memory_in, Memory, memories, start_in, Start, starts}
use Rattle.lus_meaning.proofs.Lists.{map_append}

-- ---- what is read of occurrences, and its numbers

-- what these read of the occurrences in an expression
abbrev pub read_in : {A : Type 0} → (Standing → Expression → List A) → Component → Standing → Expression → List A
read_in f d s e = flat_map (λ o. f o.standing o.expression) (occurrences d s e)

-- what these read of the occurrences of some texts
abbrev pub read_texts : {A : Type 0} → (Standing → Expression → List A) → Component → List Text → List A
read_texts f d xs = flat_map (λ o. f o.standing o.expression) (flat_map (λ x. occurrences d x.0 x.1) xs)

pub read_first : {A : Type 0} (f : Standing → Expression → List A) (d : Component) (x : Text) (xs : List Text) → read_texts f d
    (x ∷ xs) ≡ read_in f d x.0 x.1 ++ read_texts f d xs
read_first f d x xs = flat_map-append (λ o. f o.standing o.expression) (occurrences d x.0 x.1) (flat_map (λ y. occurrences d y.0 y.1) xs)

module _ {A : Type 0} (f : Standing → Expression → List A) (at : A → ℕ) (own : Expression → List ℕ) (same : (s : Standing) (e : Expression) → map at (f s e) ≡ own e) (n : Component) where
  abbrev read : List Occurrence → List A
  read os = flat_map (λ o. f o.standing o.expression) os

  read_both : (xs ys : List Occurrence) → map at (read (xs ++ ys)) ≡ map at (read xs) ++ map at (read ys)
  read_both xs ys = ap (map at) (flat_map-append (λ o. f o.standing o.expression) xs ys) ∙ map_append at (read xs) (read ys)

  read_one : (s : Standing) (e : Expression) (ys : List Occurrence) → map at (read (occurs s e ∷ ys)) ≡ own e ++ map at (read ys)
  read_one s e ys = map_append at (f s e) (read ys) ∙ rw (same s e) refl

  read_none : (s : Standing) (e : Expression) → map at (read (occurs s e ∷ [])) ≡ own e
  read_none s e = read_one s e [] ∙ no_rest (own e)
    where
      no_rest : (ks : List ℕ) → ks ++ [] ≡ ks
      no_rest [] = refl
      no_rest (k ∷ ks) = ap (λ l. k ∷ l) (no_rest ks)

  read_around : (xs ys : List Occurrence) (s : Standing) (e : Expression) → map at (read (xs ++ occurs s e ∷ ys)) ≡ map at (read xs) ++
      (own e ++ map at (read ys))
  read_around xs ys s e = read_both xs (occurs s e ∷ ys) ∙ ap (λ l. map at (read xs) ++ l) (read_one s e ys)

  mutual
    pub numbers_read : (s : Standing) (e : Expression) → map at (read (occurrences n s e)) ≡ numbers own e
    numbers_read s (truth p b) = read_none s (truth p b)
    numbers_read s (number p k) = read_none s (number p k)
    numbers_read s (name p x) = read_none s (name p x)
    numbers_read s (negation p a) = read_one s (negation p a) (occurrences n (within s) a) ∙ rw (numbers_read (within s) a) refl
    numbers_read s (minus p a) = read_one s (minus p a) (occurrences n (within s) a) ∙ rw (numbers_read (within s) a) refl
    numbers_read s (pre p k a) = read_one s (pre p k a) (occurrences n (before s) a) ∙ rw (numbers_read (before s) a) refl
    numbers_read s (arrow p k a b) = read_around (occurrences n (within s) a) (occurrences n (within s) b) s (arrow p k a b) ∙ rw
        (numbers_read (within s) a, numbers_read (within s) b) refl
    numbers_read s (binary p o a b) = read_around (occurrences n (within s) a) (occurrences n (within s) b) s (binary p o a b) ∙ rw
        (numbers_read (within s) a, numbers_read (within s) b) refl
    numbers_read s (choice p a b d) =
        read_one s (choice p a b d) (occurrences n (within s) a ++ (occurrences n (within s) b ++ occurrences n (within s) d))
        ∙ ap (λ l. own (choice p a b d) ++ l) (read_both (occurrences n (within s) a) (occurrences n (within s) b ++ occurrences n (within s) d)
        ∙ rw (
          read_both (occurrences n (within s) b) (occurrences n (within s) d),
          numbers_read (within s) a,
          numbers_read
              (within s) b,
          numbers_read (within s) d,
        ) (sym (append_assoc (numbers own a) (numbers own b) (numbers own d))))
    numbers_read s (sampled p a b x) =
        read_both (occurrences n (moved (clock_of n x.text) s) a) (occurs s (sampled p a b x) ∷ [])
        ∙ rw (numbers_read (moved (clock_of n x.text) s) a, read_none s (sampled p a b x)) refl
    numbers_read s (merged p x a b) =
        read_one s (merged p x a b) (occurrences n (moved (sampled_by true x.text) s) a ++ occurrences n (moved (sampled_by false x.text) s) b)
        ∙ ap (λ l. own (merged p x a b) ++ l) (read_both (occurrences n (moved (sampled_by true x.text) s) a)
        (occurrences n (moved (sampled_by false x.text) s) b)
        ∙ rw (numbers_read (moved (sampled_by true x.text) s) a, numbers_read (moved (sampled_by false x.text) s) b) refl)
    numbers_read s (call p k f as_) = read_one s (call p k f as_) (occurrences_among n (within s) as_) ∙ rw (numbers_among_read (within s) as_) refl
    numbers_read s (condact p k a f as_ ds) =
        read_one s (condact p k a f as_ ds) (occurrences n (within s) a ++ (occurrences_among n (within s) as_ ++ occurrences_among n (within s) ds))
        ∙ ap (λ l. own (condact p k a f as_ ds) ++ l) (read_both (occurrences n (within s) a)
        (occurrences_among n (within s) as_ ++ occurrences_among n (within s) ds)
        ∙ rw (
          read_both (occurrences_among n (within s) as_) (occurrences_among n (within s) ds),
          numbers_read
              (within s) a,
          numbers_among_read (within s) as_,
          numbers_among_read (within s) ds,
        )
        (sym (append_assoc (numbers own a) (numbers_among own as_) (numbers_among own ds))))
    numbers_read s (mode_name p d m) = read_none s (mode_name p d m)

    pub numbers_among_read : (s : Standing) (as_ : Expressions) → map at (read (occurrences_among n s as_)) ≡ numbers_among own as_
    numbers_among_read s no_more = refl
    numbers_among_read s (more a as_) = read_both (occurrences n s a) (occurrences_among n s as_) ∙ rw (numbers_read s a, numbers_among_read s as_) refl

  pub numbers_of_texts : (xs : List Text) → map at (read_texts f n xs) ≡ flat_map (numbers own) (map (λ x. x.1) xs)
  numbers_of_texts [] = refl
  numbers_of_texts (x ∷ xs) = ap (map at) (read_first f n x xs) ∙ map_append at (read_in f n x.0 x.1) (read_texts f n xs) ∙ rw
      (numbers_read x.0 x.1, numbers_of_texts xs) refl

-- ---- the texts of a declaration

based : (ls : List Labelled) → map (λ (x : Text). x.1) (on_base ls) ≡ map (λ l. l.value) ls
based [] = refl
based (l ∷ ls) = rw (based ls) refl

arguments_are : (as_ : List Expression) → map (λ (x : Text). x.1) (map (λ a. (on_clock base, a)) as_) ≡ as_
arguments_are [] = refl
arguments_are (a ∷ as_) = rw (arguments_are as_) refl

contract_statement_is : (c : ContractStatement) → map (λ (x : Text). x.1) (contract_statement_texts c) ≡ contract_statement_expressions c
contract_statement_is (assume l) = refl
contract_statement_is (guarantee l) = refl
contract_statement_is (ghost_variable x e) = refl
contract_statement_is (constant c) = refl
contract_statement_is (mode m rs es) = map_append (λ (x : Text). x.1) (on_base rs) (on_base es) ∙ rw (based rs, based es) refl
contract_statement_is («import» k c as_ xs) = arguments_are as_

contract_statements_are : (cs : List ContractStatement) → map (λ (x : Text). x.1)
    (flat_map contract_statement_texts cs) ≡ flat_map contract_statement_expressions cs
contract_statements_are [] = refl
contract_statements_are (c ∷ cs) = map_append (λ (x : Text). x.1) (contract_statement_texts c) (flat_map contract_statement_texts cs) ∙ rw
    (contract_statement_is c, contract_statements_are cs) refl

constants_are : (cs : List Constant) → map (λ (x : Text). x.1) (constant_texts cs) ≡ map (λ c. c.value) cs
constants_are [] = refl
constants_are (c ∷ cs) = rw (constants_are cs) refl

statement_is : (n : Component) (s : Statement) → map (λ (x : Text). x.1) (statement_texts n s) ≡ statement_expressions s
statement_is n (equation xs e) = refl
statement_is n (assertion e) = refl
statement_is n (property l) = refl
statement_is n (main_mark p) = refl

body_is : (n : Component) (ss : List Statement) → map (λ (x : Text). x.1) (flat_map (statement_texts n) ss) ≡ body_expressions ss
body_is n [] = refl
body_is n (s ∷ ss) = map_append (λ (x : Text). x.1) (statement_texts n s) (flat_map (statement_texts n) ss) ∙ rw (statement_is n s, body_is n ss) refl

-- they are the expressions of its tree
pub texts_are : (n : Component) → map (λ (x : Text). x.1) (texts n) ≡ all_expressions n
texts_are n =
    map_append (λ (x : Text). x.1) (flat_map contract_statement_texts (contract_statements n))
    (constant_texts n.constants ++ flat_map (statement_texts n) n.body)
    ∙ rw (
      contract_statements_are (contract_statements n),
      map_append (λ (x : Text). x.1) (constant_texts n.constants)
          (flat_map (statement_texts n) n.body),
      constants_are n.constants,
      body_is n n.body,
    ) refl

pub numbers_gathered : {A : Type 0} (f : Standing → Expression → List A) (at : A → ℕ) (own : Expression → List ℕ) →
    ((s : Standing) (e : Expression) → map at (f s e) ≡ own e) → (n : Component) → map at (gathered f n) ≡ all_numbers own n
numbers_gathered f at own same n = numbers_of_texts f at own same n (texts n) ∙ ap (flat_map (numbers own)) (texts_are n)

-- ---- `pre` and `->`

memory_is : (s : Standing) (e : Expression) → map (λ (m : Memory). m.number) (memory_in s e) ≡ pre_number e
memory_is s (truth p b) = refl
memory_is s (number p k) = refl
memory_is s (name p x) = refl
memory_is s (negation p a) = refl
memory_is s (minus p a) = refl
memory_is s (pre p k a) = refl
memory_is s (arrow p k a b) = refl
memory_is s (binary p o a b) = refl
memory_is s (choice p a b c) = refl
memory_is s (sampled p a b x) = refl
memory_is s (merged p x a b) = refl
memory_is s (call p k f as_) = refl
memory_is s (condact p k a f as_ ds) = refl
memory_is s (mode_name p c m) = refl

start_is : (s : Standing) (e : Expression) → map (λ (a : Start). a.number) (start_in s e) ≡ arrow_number e
start_is s (truth p b) = refl
start_is s (number p k) = refl
start_is s (name p x) = refl
start_is s (negation p a) = refl
start_is s (minus p a) = refl
start_is s (pre p k a) = refl
start_is s (arrow p k a b) = refl
start_is s (binary p o a b) = refl
start_is s (choice p a b c) = refl
start_is s (sampled p a b x) = refl
start_is s (merged p x a b) = refl
start_is s (call p k f as_) = refl
start_is s (condact p k a f as_ ds) = refl
start_is s (mode_name p c m) = refl

pub memory_numbers : (n : Component) → map (λ m. m.number) (memories n) ≡ all_numbers pre_number n
memory_numbers n = numbers_gathered memory_in (λ m. m.number) pre_number memory_is n

pub start_numbers : (n : Component) → map (λ s. s.number) (starts n) ≡ all_numbers arrow_number n
start_numbers n = numbers_gathered start_in (λ s. s.number) arrow_number start_is n
