-- The constants of a program and of a declaration have different names.
use Rattle.std.proofs.Common.{◌≡◌, ℕ, Bool, true, false, ◌||◌, List, [], ◌∷◌, ◌++◌, map, refl, sym, ap, ◌∙◌, subst}
use Rattle.std.specs.List.{AllByRecursion}
use Rattle.std.specs.Str.{bytes_eq}
use Rattle.std.proofs.lemmas.Bool.{false≢true}
use Rattle.lus_tree.specs.Tree.{Name, text_of, Spelled, Constant, Component, declared_constant, declared_node, declared_contract, Program}
use Rattle.lus_tree.specs.Reason.{Reason, name_twice}
use Rattle.lus_meaning.specs.Scene.{contract_statements, variables}
use Rattle.lus_meaning.specs.Program.{program_constants, contract_statement_constants}
use Rattle.lus_meaning.specs.Depends.{named_in}
use Rattle.lus_meaning.specs.WellMade.{AreDistinct}
use Rattle.lus_meaning.specs.Faults.{if_so, meets, same_word, later, words_twice}
use Rattle.lus_meaning.specs.NameFaults.{own_words, outer_twice, constant_words, declaration_word}
use Rattle.lus_meaning.proofs.Lists.{all_from, map_append}
use Rattle.lus_meaning.proofs.NamesOnce.{no_parts, not_so, none_twice}
use Rattle.lus_meaning.proofs.Now.{right_part}
use Rattle.lus_meaning.proofs.RulesFit.{none_mapped}
use Rattle.rule_laws.proofs.Cleaned.{CleanHome}
use Rattle.rule_laws.proofs.Lists.{other_bytes, all_mapped}
use Rattle.clock_laws.proofs.Lefts.{distinct_behind}
use Rattle.steady_laws.specs.Kept.{own_constants}

abbrev pub constant_names : List Constant → List Name
constant_names cs = map (λ c. c.name.text) cs

-- ---- names that stand once

no_first : (a b : Bool) → (a || b) ≡ false → a ≡ false
no_first true b e = absurd (false≢true (sym e))
no_first false b e = refl

no_second : (a b : Bool) → (a || b) ≡ false → b ≡ false
no_second true b e = absurd (false≢true (sym e))
no_second false b e = e

neither : (a b : Bool) → a ≡ false → b ≡ false → (a || b) ≡ false
neither a b e h = ap (λ c. c || b) e ∙ h

none_met : (r : Reason) (x : Spelled) (ws : List Spelled) → meets same_word (λ w. w.at) r x ws ≡ [] → named_in x.text (map text_of ws) ≡ false
none_met r x [] e = refl
none_met r x (w ∷ ws) e =
    let h = no_parts (if_so (same_word x w) r (later x.at w.at)) (meets same_word (λ w. w.at) r x ws) e in
    neither (bytes_eq x.text w.text) (named_in x.text (map text_of ws)) (not_so (same_word x w) r (later x.at w.at) h.0) (none_met r x ws h.1)

named_neither : (x : Name) (xs ys : List Name) → named_in x xs ≡ false → named_in x ys ≡ false → named_in x (xs ++ ys) ≡ false
named_neither x [] ys e h = h
named_neither x (y ∷ xs) ys e h =
    neither (bytes_eq x y) (named_in x (xs ++ ys)) (no_first (bytes_eq x y) (named_in x xs) e)
    (named_neither x xs ys (no_second (bytes_eq x y) (named_in x xs) e) h)

none_is : (x : Name) (ys : List Name) → AllByRecursion (λ y. bytes_eq y x ≡ false) ys → named_in x ys ≡ false
none_is x [] a = refl
none_is x (y ∷ ys) a = neither (bytes_eq x y) (named_in x ys) (other_bytes y x a.0) (none_is x ys a.1)

joined : (xs ys : List Name) → AreDistinct xs → AreDistinct ys → AllByRecursion (λ y. named_in y xs ≡ false) ys → AreDistinct (xs ++ ys)
joined [] ys d e a = e
joined (x ∷ xs) ys d e a = (
  named_neither x xs ys d.0 (none_is x ys (all_from (λ y. named_in y (x ∷ xs) ≡ false) (λ y. bytes_eq y x ≡ false)
      (λ y h. no_first (bytes_eq y x) (named_in y xs) h) ys a)),
  joined xs ys d.1 e (all_from (λ y. named_in y (x ∷ xs) ≡ false) (λ y. named_in y xs ≡ false)
      (λ y h. no_second (bytes_eq y x) (named_in y xs) h) ys a),
)

-- ---- constants of the program

outer_words : (ds : Program) → map text_of (constant_words ds) ≡ constant_names (program_constants ds)
outer_words [] = refl
outer_words (declared_constant c ∷ ds) = ap (λ xs. c.name.text ∷ xs) (outer_words ds)
outer_words (declared_node n ∷ ds) = outer_words ds
outer_words (declared_contract n ∷ ds) = outer_words ds

abbrev declared_names : Program → List Name
declared_names ds = map text_of (map declaration_word ds)

not_among : (y : Name) (ds : Program) → named_in y (declared_names ds) ≡ false → named_in y (constant_names (program_constants ds)) ≡ false
not_among y [] e = refl
not_among y (declared_constant c ∷ ds) e =
    neither (bytes_eq y c.name.text) (named_in y (constant_names (program_constants ds)))
    (no_first (bytes_eq y c.name.text) (named_in y (declared_names ds)) e)
    (not_among y ds (no_second (bytes_eq y c.name.text) (named_in y (declared_names ds)) e))
not_among y (declared_node n ∷ ds) e = not_among y ds (no_second (bytes_eq y n.name.text) (named_in y (declared_names ds)) e)
not_among y (declared_contract n ∷ ds) e = not_among y ds (no_second (bytes_eq y n.name.text) (named_in y (declared_names ds)) e)

outer_distinct : (ds : Program) → AreDistinct (declared_names ds) → AreDistinct (constant_names (program_constants ds))
outer_distinct [] d = tt
outer_distinct (declared_constant c ∷ ds) d = (not_among c.name.text ds d.0, outer_distinct ds d.1)
outer_distinct (declared_node n ∷ ds) d = outer_distinct ds d.1
outer_distinct (declared_contract n ∷ ds) d = outer_distinct ds d.1

pub program_distinct : (p : Program) → words_twice name_twice (map declaration_word p) ≡ [] → AreDistinct (constant_names (program_constants p))
program_distinct p e = outer_distinct p (none_twice name_twice (map declaration_word p) e)

-- ---- and of a declaration

texts_of : {A : Type 0} (word : A → Spelled) (xs : List A) → map text_of (map word xs) ≡ map (λ x. (word x).text) xs
texts_of word [] = refl
texts_of word (x ∷ xs) = ap (λ ys. (word x).text ∷ ys) (texts_of word xs)

abbrev constant_spelled : Component → List Spelled
constant_spelled n = map (λ c. c.name) (contract_statement_constants (contract_statements n)) ++ map (λ c. c.name) n.constants

constant_texts : (n : Component) → map text_of (constant_spelled n) ≡ constant_names (own_constants n)
constant_texts n =
    ap (map text_of) (sym (map_append (λ (c : Constant). c.name) (contract_statement_constants (contract_statements n)) n.constants))
    ∙ texts_of (λ (c : Constant). c.name) (own_constants n)

pub all_distinct : (p : Program) (h : ℕ × Component) → AreDistinct (constant_names (program_constants p)) → CleanHome p h →
    AreDistinct (constant_names (program_constants p) ++ constant_names (own_constants h.1))
all_distinct p h d e =
    let n : Component = h.1 in
    let outer : List Name = constant_names (program_constants p) in
    let streams : List Spelled = map (λ v. v.name) (variables n) in
    let q = no_parts (words_twice name_twice (own_words n)) _ e in
    let words : AreDistinct (map text_of streams ++ map text_of (constant_spelled n)) =
    subst AreDistinct (map_append text_of streams (constant_spelled n)) (none_twice name_twice (own_words n) q.0) in
    let own : AreDistinct (constant_names (own_constants n)) =
    subst AreDistinct (constant_texts n) (distinct_behind (map text_of streams) (map text_of (constant_spelled n)) words) in
    let met : AllByRecursion (λ w. meets same_word (λ w. w.at) name_twice w (constant_words p) ≡ []) (own_words n) =
    none_mapped (λ w. meets same_word (λ w. w.at) name_twice w (constant_words p)) (own_words n)
    (no_parts (outer_twice (constant_words p) (own_words n)) _ q.1).0 in
    let apart : AllByRecursion (λ (w : Spelled). named_in w.text (constant_names (program_constants p)) ≡ false) (constant_spelled n) =
    all_from (λ w. meets same_word (λ w. w.at) name_twice w (constant_words p) ≡ []) (λ (w : Spelled). named_in w.text outer ≡ false)
    (λ w m. subst (λ xs. named_in w.text xs ≡ false) (outer_words p) (none_met name_twice w (constant_words p) m)) (constant_spelled n)
    (right_part (λ w. meets same_word (λ w. w.at) name_twice w (constant_words p) ≡ []) streams (constant_spelled n) met) in
    let inner : AllByRecursion (λ x. named_in x (constant_names (program_constants p)) ≡ false) (constant_names (own_constants n)) =
    subst (AllByRecursion (λ x. named_in x outer ≡ false)) (constant_texts n)
    (all_mapped (λ x. named_in x outer ≡ false) text_of (constant_spelled n) apart) in
    joined outer (constant_names (own_constants n)) d own inner
