-- What the looks at operators and at first tokens tell of each class.
use Rattle.std.proofs.Common.{◌≡◌, ◌<◌, ℕ, Bool, true, false, not, ◌&&◌, ◌==◌, inl, inr, List, [], ◌∷◌, map, Option, Some, None, refl, sym, ap, ◌∙◌, subst}
use Rattle.std.specs.List.{list_all}
use Rattle.std.specs.Option.{IfSome}
use Rattle.std.proofs.lemmas.Bool.{false≢true, and_parts, eqb-true}
use Rattle.lus_tree.specs.declared.expression.Operator.{Operator}
use Rattle.lus_lexer.specs.declared.token.LeftOut.{LeftOut}
use Rattle.lus_lexer.specs.declared.token.Class.{Class}
use Rattle.lus_lexer.specs.declared.token.Class.TheVariants as C
use Rattle.lus_lexer.specs.declared.token.Keyword.TheVariants as K
use Rattle.lus_lexer.specs.declared.token.Sign.TheVariants as S
use Rattle.lus_grammar.specs.Stream.{Stream}
use Rattle.lus_grammar.specs.Phrase.{Level, Products, Sums, Conjunctions, Disjunctions}
use Rattle.lus_grammar.specs.Grammar.{signs, relations}
use Rattle.lus_grammar.specs.Starts.{class_code, code, codes_of, listed, primaries}
use Rattle.lus_grammar.specs.Text.{IsOneOf}
use Rattle.lus_grammar.specs.Trees as T
use Rattle.lus_grammar.proofs.Classes.{all_known, every, every_class, known, one_if, same_class}
use Rattle.lus_reader.specs.Look.{Begins, start_of, IsInside, is_left_out}
use Rattle.lus_reader.specs.declared.start.Start.{Start}
use Rattle.lus_reader.specs.declared.start.Start.TheVariants.{Number, Truth, Name, DoubleColon, Merge, Condact, Open, Other}
use Rattle.lus_reader.specs.Operators.{Joins, Relates, operator_of, relation_of}

-- ---- a look at operators of some classes, computed for the list of all

-- something is found exactly where b
abbrev agrees : {D : Type 0} → Option D → Bool → Bool
agrees None b = not b
agrees (Some d) b = b

not_so : (b : Bool) → not b ≡ true → b ≡ false
not_so true h = absurd cc
not_so false h = refl

passed : {D : Type 0} (x : Option D) (b : Bool) → agrees x b ≡ true → x ≡ None → b ≡ false
passed None b h e = not_so b h
passed (Some d) b h e = absurd cc

found : {D : Type 0} (d : D) (x : Option D) (b : Bool) → agrees x b ≡ true → x ≡ Some d → b ≡ true
found d None b h e = absurd cc
found d (Some c) b h e = h

some_inj : {D : Type 0} (c d : D) → Some c ≡ Some d → c ≡ d
some_inj c d e = cc

cons_head : {A : Type 0} (x y : A) (xs ys : List A) → (x ∷ xs) ≡ (y ∷ ys) → x ≡ y
cons_head x y xs ys e = cc

cons_tail : {A : Type 0} (x y : A) (xs ys : List A) → (x ∷ xs) ≡ (y ∷ ys) → xs ≡ ys
cons_tail x y xs ys e = cc

abbrev Look : Type 0
Look = Option Class → Option Operator

-- what a look finds at each of some classes it finds at a mark of one of them
at_one : (f g : Look) (s : Stream) (i : ℕ) (cs : List Class) → map (λ c. f (Some c)) cs ≡ map (λ c. g (Some c)) cs → IsOneOf s i cs → f
    (s i).class ≡ g (s i).class
at_one f g s i [] h k = absurd k
at_one f g s i (c ∷ cs) h (inl e) = rw e (cons_head (f (Some c)) (g (Some c)) _ _ h)
at_one f g s i (c ∷ cs) h (inr k) = at_one f g s i cs (cons_tail (f (Some c)) (g (Some c)) _ _ h) k

abbrev operators : Look
operators o = Some (T.operator_of o)

-- the look finds the operators of these classes, and nothing else
record Finds (f : Look) (cs : List Class) : Type 0 where
  known : all_known cs ≡ true
  all : list_all (λ o. agrees (f o) (listed (code o) (codes_of cs))) every_class ≡ true
  each : map (λ c. f (Some c)) cs ≡ map (λ c. operators (Some c)) cs

passes : (f : Look) (cs : List Class) → Finds f cs → (s : Stream) (i : ℕ) → f (s i).class ≡ None → listed (code (s i).class) (codes_of cs) ≡ false
passes f cs h s i e = passed (f (s i).class) _ (every (λ o. agrees (f o) (listed (code o) (codes_of cs))) h.all (s i).class) e

enters : (f : Look) (cs : List Class) → Finds f cs → (s : Stream) (i : ℕ) (x : Operator) → f (s i).class ≡ Some x → listed
    (code (s i).class) (codes_of cs) ≡ true
enters f cs h s i x e = found x (f (s i).class) _ (every (λ o. agrees (f o) (listed (code o) (codes_of cs))) h.all (s i).class) e

one : (f : Look) (cs : List Class) → Finds f cs → (s : Stream) (i : ℕ) (x : Operator) → f (s i).class ≡ Some x → IsOneOf s i cs
one f cs h s i x e = one_if s i cs h.known (enters f cs h s i x e)

is : (f : Look) (cs : List Class) → Finds f cs → (s : Stream) (i : ℕ) (x : Operator) → f (s i).class ≡ Some x → T.operator_of (s i).class ≡ x
is f cs h s i x e = some_inj _ x (sym (at_one f operators s i cs h.each (one f cs h s i x e)) ∙ e)

-- ---- operators of a level

finds : (l : Level) → Finds (operator_of l) (signs l)
finds Products = record { known = refl; all = refl; each = refl }
finds Sums = record { known = refl; all = refl; each = refl }
finds Conjunctions = record { known = refl; all = refl; each = refl }
finds Disjunctions = record { known = refl; all = refl; each = refl }

joins_at : (s : Stream) (i : ℕ) (l : Level) (x : Option Operator) → operator_of l (s i).class ≡ x → Joins s i l x
joins_at s i l None e = passes (operator_of l) (signs l) (finds l) s i e
joins_at s i l (Some x) e = record {
  one = one (operator_of l) (signs l) (finds l) s i x e;
  enters = enters (operator_of l) (signs l) (finds l) s i x e;
  is = is (operator_of l) (signs l) (finds l) s i x e;
}

pub joins : (s : Stream) (i : ℕ) (l : Level) (o : Option Class) → (s i).class ≡ o → Joins s i l (operator_of l o)
joins s i l o e = joins_at s i l (operator_of l o) (ap (operator_of l) e)

-- ---- relations

finds_relations : Finds relation_of relations
finds_relations = record { known = refl; all = refl; each = refl }

relates_at : (s : Stream) (i : ℕ) (x : Option Operator) → relation_of (s i).class ≡ x → Relates s i x
relates_at s i None e = passes relation_of relations finds_relations s i e
relates_at s i (Some x) e = record {
  one = one relation_of relations finds_relations s i x e;
  enters = enters relation_of relations finds_relations s i x e;
  is = is relation_of relations finds_relations s i x e;
}

pub relates : (s : Stream) (i : ℕ) (o : Option Class) → (s i).class ≡ o → Relates s i (relation_of o)
relates s i o e = relates_at s i (relation_of o) (ap relation_of e)

-- ---- first tokens

-- whether the class is the one that is looked for
abbrev is_class : Class → Option Class → Bool
is_class c o = known c && code o == class_code c

by_class : (c : Class) (o : Option Class) → is_class c o ≡ true → o ≡ Some c
by_class c o h = let k = and_parts (known c) (code o == class_code c) h in same_class o c k.0 (eqb-true (code o) (class_code c) k.1)

abbrev fits : Start → Option Class → Bool
fits Number o = is_class C.Number o
fits (Truth true) o = is_class (C.Keyword K.True) o
fits (Truth false) o = is_class (C.Keyword K.False) o
fits Name o = is_class C.Ident o
fits DoubleColon o = is_class (C.Sign S.DoubleColon) o
fits Merge o = is_class (C.Keyword K.Merge) o
fits Condact o = is_class (C.Keyword K.Condact) o
fits Open o = is_class (C.Sign S.Open) o
fits Other o = not (listed (code o) (codes_of primaries))

begins_at : (s : Stream) (i : ℕ) (x : Start) → fits x (s i).class ≡ true → Begins s i x
begins_at s i Number h = by_class C.Number (s i).class h
begins_at s i (Truth true) h = by_class (C.Keyword K.True) (s i).class h
begins_at s i (Truth false) h = by_class (C.Keyword K.False) (s i).class h
begins_at s i Name h = by_class C.Ident (s i).class h
begins_at s i DoubleColon h = by_class (C.Sign S.DoubleColon) (s i).class h
begins_at s i Merge h = by_class (C.Keyword K.Merge) (s i).class h
begins_at s i Condact h = by_class (C.Keyword K.Condact) (s i).class h
begins_at s i Open h = by_class (C.Sign S.Open) (s i).class h
begins_at s i Other h = not_so _ h

pub begins : (s : Stream) (i : ℕ) (o : Option Class) → (s i).class ≡ o → Begins s i (start_of o)
begins s i o e = begins_at s i (start_of o) (subst (λ (x : Option Class). fits (start_of o) x ≡ true) (sym e) (every (λ o. fits (start_of o) o) refl o))

-- ---- a word or a sign that is left out, and where it stands

pub left_out_word : (o : Option Class) → is_left_out o ≡ true → (w : LeftOut) × (o ≡ Some (C.LeftOut w))
left_out_word (Some (C.LeftOut w)) e = (w, refl)
left_out_word _ e = absurd (false≢true e)

pub not_left_out : (o : Option Class) → is_left_out o ≡ false → (w : LeftOut) → o ≡ Some (C.LeftOut w) → Prim.⊥
not_left_out o e w q = false≢true (sym e ∙ ap is_left_out q)

if_some : {A : Type 0} {P : Type 0} (o : Option A) → P → IfSome o (λ c. P)
if_some None h = tt
if_some (Some c) h = h

if_inside : (i n : ℕ) (b : Start) → i < n → IsInside i n b
if_inside i n Number h = h
if_inside i n (Truth b) h = h
if_inside i n Name h = h
if_inside i n DoubleColon h = h
if_inside i n Merge h = h
if_inside i n Condact h = h
if_inside i n Open h = h
if_inside i n Other h = tt

-- where a look finds something there is a token
pub operator_inside : (i n : ℕ) (l : Level) (o : Option Class) → IfSome o (λ c. i < n) → IfSome (operator_of l o) (λ c. i < n)
operator_inside i n Products None h = tt
operator_inside i n Sums None h = tt
operator_inside i n Conjunctions None h = tt
operator_inside i n Disjunctions None h = tt
operator_inside i n l (Some c) h = if_some (operator_of l (Some c)) h

pub relation_inside : (i n : ℕ) (o : Option Class) → IfSome o (λ c. i < n) → IfSome (relation_of o) (λ c. i < n)
relation_inside i n None h = tt
relation_inside i n (Some c) h = if_some (relation_of (Some c)) h

pub start_inside : (i n : ℕ) (o : Option Class) → IfSome o (λ c. i < n) → IsInside i n (start_of o)
start_inside i n None h = tt
start_inside i n (Some c) h = if_inside i n (start_of (Some c)) h
