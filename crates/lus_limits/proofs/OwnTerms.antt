-- The own terms of a declaration and what stands for its calls, item by item.
use Rattle.std.proofs.Common.{◌≡◌, Bool, true, false, cond, List, [], ◌∷◌, ◌++◌, map, flat_map, refl, sym, ap, ◌∙◌, arith}
use Rattle.lus_tree.specs.Tree.{Name, text_of, Expression, Expressions, truth, number, name, negation, minus, pre, arrow, binary, choice, sampled, merged, call, condact, mode_name, no_more, more, Constant, Labelled, Variable, Statement, equation, assertion, property, main_mark, ContractStatement, assume, guarantee, ghost_variable, constant, mode, «import», Component}
use Rattle.lus_meaning.specs.Scene.{Site, Clock, base, sampled_by, clock_of, clock_from, clock_of_names, contract_statements, variables}
use Rattle.lus_meaning.specs.Depends.{named_in, left_names}
use Rattle.lus_meaning.specs.Program.{listed, site_in, import_site}
use Rattle.lus_meaning.specs.Run.{Equation, ghost_equations, body_equations, equations}
use Rattle.lus_meaning.specs.Occurrences.{gathered, Occurrence, Standing, Text, before, moved, within, occurrences, occurrences_among, on_base, on_clock, as_side, contract_statement_texts, constant_texts, statement_texts, texts, Memory, Start, memory_in, start_in, memories, starts}
use Rattle.lus_meaning.specs.Sizes.{Size, leaf, one, two, three, ModeSizes, presence, size_in, given_size, free_size, free_sizes, memory_size, start_size, assert_sizes}
use Rattle.lus_meaning.proofs.Lists.{map_append}
use Rattle.lus_limits.specs.Peaks.{no_size, greater, peak}
use Rattle.lus_limits.specs.SizeSummaries.{sofar_by}
use Rattle.lus_limits.specs.Inner.{memory_of, start_of, argument_terms, call_terms, held_terms, condition_terms, import_terms, inner_in, inner_among}
use Rattle.lus_limits.specs.FrameTerms.{site_terms, all_site_terms, found_sites}
use Rattle.lus_limits.specs.OwnTerms.{inner_each, inner_labelled, contract_terms, all_contract_terms, constant_terms, statement_terms, body_terms, free_terms, OwnTermsByItems}
use Rattle.lus_limits.proofs.Peaks.{greater_none, none_greater, greater_in_turn, peak_both}
use Rattle.lus_limits.proofs.Sizes.{same_size}

-- ---- what stands in an expression

swapped : (a b c : Size) → greater a (greater b c) ≡ greater b (greater a c)
swapped a b c = same_size (greater a (greater b c)) (greater b (greater a c)) (omega arith) (omega arith)

abbrev own_of : Component → ModeSizes → Occurrence → Size
own_of n ms o =
    greater (greater (peak (map (memory_size n ms) (memory_in o.standing o.expression))) (peak (map (start_size n) (start_in o.standing o.expression))))
    (all_site_terms n ms (site_in o.standing o.expression))

abbrev all_seen : Component → ModeSizes → List Occurrence → Size
all_seen n ms [] = no_size
all_seen n ms (o ∷ os) = greater (own_of n ms o) (all_seen n ms os)

seen_both : (n : Component) (ms : ModeSizes) (xs ys : List Occurrence) → all_seen n ms (xs ++ ys) ≡ greater (all_seen n ms xs) (all_seen n ms ys)
seen_both n ms [] ys = sym (none_greater (all_seen n ms ys))
seen_both n ms (x ∷ xs) ys = ap (greater (own_of n ms x)) (seen_both n ms xs ys) ∙ sym (greater_in_turn (own_of n ms x) (all_seen n ms xs) (all_seen n ms ys))

-- nothing of its own stands at such a place
nothing_seen : (a : Size) → greater (greater (greater no_size no_size) no_size) a ≡ a
nothing_seen a = same_size (greater (greater (greater no_size no_size) no_size) a) a (omega arith) (omega arith)

memory_seen : (a b : Size) → greater (greater (greater (greater a no_size) no_size) no_size) b ≡ greater a b
memory_seen a b = same_size (greater (greater (greater (greater a no_size) no_size) no_size) b) (greater a b) (omega arith) (omega arith)

start_alone : (b : Size) → greater (greater no_size (greater b no_size)) no_size ≡ b
start_alone b = same_size (greater (greater no_size (greater b no_size)) no_size) b (omega arith) (omega arith)

start_seen : (a b c : Size) → greater a (greater (greater (greater no_size (greater b no_size)) no_size) c) ≡ greater b (greater a c)
start_seen a b c = ap (λ x. greater a (greater x c)) (start_alone b) ∙ swapped a b c

site_seen : (a b : Size) → greater (greater (greater no_size no_size) (greater a no_size)) b ≡ greater a b
site_seen a b = same_size (greater (greater (greater no_size no_size) (greater a no_size)) b) (greater a b) (omega arith) (omega arith)

arguments_are : (n : Component) (ms : ModeSizes) (as_ : List Expression) → peak (map (λ a. given_size leaf (size_in n ms a)) as_) ≡ argument_terms n ms as_
arguments_are n ms [] = refl
arguments_are n ms (a ∷ as_) = ap (greater (given_size leaf (size_in n ms a))) (arguments_are n ms as_)

call_is : (n : Component) (ms : ModeSizes) (c : Clock) (as_ : List Expression) →
    peak (two leaf (presence n c) ∷ map (λ a. given_size leaf (size_in n ms a)) as_) ≡ call_terms n ms c as_
call_is n ms c as_ = ap (greater (two leaf (presence n c))) (arguments_are n ms as_)

condition_is : (n : Component) (ms : ModeSizes) (c : Clock) (a : Expression) (as_ : List Expression) →
    peak (two leaf (two (presence n c) (size_in n ms a)) ∷ three leaf leaf leaf ∷ two leaf (three leaf leaf leaf)
    ∷ map (λ a. given_size leaf (size_in n ms a)) as_) ≡ condition_terms n ms c a as_
condition_is n ms c a as_ =
    ap (greater (two leaf (two (presence n c) (size_in n ms a))))
    (sym (greater_in_turn (three leaf leaf leaf) (two leaf (three leaf leaf leaf)) (peak (map (λ a. given_size leaf (size_in n ms a)) as_)))
    ∙ ap (greater held_terms) (arguments_are n ms as_))

mutual
  inner_is : (n : Component) (ms : ModeSizes) (s : Standing) (e : Expression) → all_seen n ms (occurrences n s e) ≡ inner_in n ms s.clock e
  inner_is n ms s (truth p b) = nothing_seen no_size
  inner_is n ms s (number p k) = nothing_seen no_size
  inner_is n ms s (name p x) = nothing_seen no_size
  inner_is n ms s (negation p a) = nothing_seen (all_seen n ms (occurrences n (within s) a)) ∙ inner_is n ms (within s) a
  inner_is n ms s (minus p a) = nothing_seen (all_seen n ms (occurrences n (within s) a)) ∙ inner_is n ms (within s) a
  inner_is n ms s (pre p k a) =
      memory_seen (memory_of n ms s.clock a) (all_seen n ms (occurrences n (before s) a))
      ∙ ap (greater (memory_of n ms s.clock a)) (inner_is n ms (before s) a)
  inner_is n ms s (arrow p k a b) =
      seen_both n ms (occurrences n (within s) a) _
      ∙ start_seen (all_seen n ms (occurrences n (within s) a)) (start_of n s.clock) (all_seen n ms (occurrences n (within s) b))
      ∙ ap (λ x. greater (start_of n s.clock) (greater x (all_seen n ms (occurrences n (within s) b)))) (inner_is n ms (within s) a)
      ∙ ap (λ x. greater (start_of n s.clock) (greater (inner_in n ms s.clock a) x)) (inner_is n ms (within s) b)
  inner_is n ms s (binary p o a b) =
      seen_both n ms (occurrences n (within s) a) _
      ∙ ap (greater (all_seen n ms (occurrences n (within s) a))) (nothing_seen (all_seen n ms (occurrences n (within s) b)))
      ∙ ap (λ x. greater x (all_seen n ms (occurrences n (within s) b))) (inner_is n ms (within s) a)
      ∙ ap (greater (inner_in n ms s.clock a)) (inner_is n ms (within s) b)
  inner_is n ms s (choice p a b d) =
      nothing_seen (all_seen n ms (occurrences n (within s) a ++ (occurrences n (within s) b ++ occurrences n (within s) d)))
      ∙ seen_both n ms (occurrences n (within s) a) (occurrences n (within s) b ++ occurrences n (within s) d)
      ∙ ap (greater (all_seen n ms (occurrences n (within s) a))) (seen_both n ms (occurrences n (within s) b) (occurrences n (within s) d))
      ∙ ap (λ x. greater x (greater (all_seen n ms (occurrences n (within s) b)) (all_seen n ms (occurrences n (within s) d)))) (inner_is n ms (within s) a)
      ∙ ap (λ x. greater (inner_in n ms s.clock a) (greater x (all_seen n ms (occurrences n (within s) d)))) (inner_is n ms (within s) b)
      ∙ ap (λ x. greater (inner_in n ms s.clock a) (greater (inner_in n ms s.clock b) x)) (inner_is n ms (within s) d)
  inner_is n ms s (sampled p a b x) =
      seen_both n ms (occurrences n (moved (clock_of n x.text) s) a) _
      ∙ ap (greater (all_seen n ms (occurrences n (moved (clock_of n x.text) s) a))) (nothing_seen no_size)
      ∙ greater_none (all_seen n ms (occurrences n (moved (clock_of n x.text) s) a))
      ∙ inner_is n ms (moved (clock_of n x.text) s) a
  inner_is n ms s (merged p x a b) =
      nothing_seen (all_seen n ms (occurrences n (moved (sampled_by true x.text) s) a ++ occurrences n (moved (sampled_by false x.text) s) b))
      ∙ seen_both n ms (occurrences n (moved (sampled_by true x.text) s) a) (occurrences n (moved (sampled_by false x.text) s) b)
      ∙ ap (λ z. greater z (all_seen n ms (occurrences n (moved (sampled_by false x.text) s) b))) (inner_is n ms (moved (sampled_by true x.text) s) a)
      ∙ ap (greater (inner_in n ms (sampled_by true x.text) a)) (inner_is n ms (moved (sampled_by false x.text) s) b)
  inner_is n ms s (call p k f as_) =
      site_seen (peak (two leaf (presence n s.clock) ∷ map (λ a. given_size leaf (size_in n ms a)) (listed as_)))
      (all_seen n ms (occurrences_among n (within s) as_))
      ∙ ap (λ x. greater x (all_seen n ms (occurrences_among n (within s) as_))) (call_is n ms s.clock (listed as_))
      ∙ ap (greater (call_terms n ms s.clock (listed as_))) (among_is n ms (within s) as_)
  inner_is n ms s (condact p k a f as_ ds) =
      site_seen (peak (two leaf (two (presence n s.clock) (size_in n ms a)) ∷ three leaf leaf leaf ∷ two leaf (three leaf leaf leaf)
      ∷ map (λ a. given_size leaf (size_in n ms a)) (listed as_)))
      (all_seen n ms (occurrences n (within s) a ++ (occurrences_among n (within s) as_ ++ occurrences_among n (within s) ds)))
      ∙ ap (λ x. greater x (all_seen n ms (occurrences n (within s) a ++ (occurrences_among n (within s) as_ ++ occurrences_among n (within s) ds))))
      (condition_is n ms s.clock a (listed as_))
      ∙ ap (greater (condition_terms n ms s.clock a (listed as_)))
      (seen_both n ms (occurrences n (within s) a) (occurrences_among n (within s) as_ ++ occurrences_among n (within s) ds)
      ∙ ap (greater (all_seen n ms (occurrences n (within s) a))) (seen_both n ms (occurrences_among n (within s) as_) (occurrences_among n (within s) ds))
      ∙ ap (λ x. greater x (greater (all_seen n ms (occurrences_among n (within s) as_)) (all_seen n ms (occurrences_among n (within s) ds))))
      (inner_is n ms (within s) a)
      ∙ ap (λ x. greater (inner_in n ms s.clock a) (greater x (all_seen n ms (occurrences_among n (within s) ds)))) (among_is n ms (within s) as_)
      ∙ ap (λ x. greater (inner_in n ms s.clock a) (greater (inner_among n ms s.clock as_) x)) (among_is n ms (within s) ds))
  inner_is n ms s (mode_name p c m) = nothing_seen no_size

  among_is : (n : Component) (ms : ModeSizes) (s : Standing) (es : Expressions) → all_seen n ms (occurrences_among n s es) ≡ inner_among n ms s.clock es
  among_is n ms s no_more = refl
  among_is n ms s (more a as_) =
      seen_both n ms (occurrences n s a) (occurrences_among n s as_)
      ∙ ap (λ x. greater x (all_seen n ms (occurrences_among n s as_))) (inner_is n ms s a)
      ∙ ap (greater (inner_in n ms s.clock a)) (among_is n ms s as_)

-- ---- all occurrences

pub crossed : (a b c d : Size) → greater (greater a b) (greater c d) ≡ greater (greater a c) (greater b d)
crossed a b c d = same_size (greater (greater a b) (greater c d)) (greater (greater a c) (greater b d)) (omega arith) (omega arith)

split_greatest : (xs ys us vs : List Size) → greater (peak (xs ++ ys)) (peak (us ++ vs)) ≡ greater (greater (peak xs) (peak us)) (greater (peak ys) (peak vs))
split_greatest xs ys us vs =
    ap (λ z. greater z (peak (us ++ vs))) (peak_both xs ys) ∙ ap (greater (greater (peak xs) (peak ys))) (peak_both us vs)
    ∙ crossed (peak xs) (peak ys) (peak us) (peak vs)

pub sites_both : (n : Component) (ms : ModeSizes) (xs ys : List Site) → all_site_terms n ms (xs ++ ys) ≡ greater (all_site_terms n ms xs)
    (all_site_terms n ms ys)
sites_both n ms [] ys = sym (none_greater (all_site_terms n ms ys))
sites_both n ms (x ∷ xs) ys =
    ap (greater (site_terms n ms x)) (sites_both n ms xs ys)
    ∙ sym (greater_in_turn (site_terms n ms x) (all_site_terms n ms xs) (all_site_terms n ms ys))

gathered_seen : (n : Component) (ms : ModeSizes) (os : List Occurrence) →
    greater (greater (peak (map (memory_size n ms) (flat_map (λ o. memory_in o.standing o.expression) os)))
    (peak (map (start_size n) (flat_map (λ o. start_in o.standing o.expression) os))))
    (all_site_terms n ms (flat_map (λ o. site_in o.standing o.expression) os))
    ≡ all_seen n ms os
gathered_seen n ms [] = nothing_seen no_size
gathered_seen n ms (o ∷ os) =
    let m : List Memory = memory_in o.standing o.expression in
    let mo : List Memory = flat_map (λ o. memory_in o.standing o.expression) os in
    let s : List Start = start_in o.standing o.expression in
    let so : List Start = flat_map (λ o. start_in o.standing o.expression) os in
    let c : List Site = site_in o.standing o.expression in
    let co : List Site = flat_map (λ o. site_in o.standing o.expression) os in
    ap (λ x. greater (greater (peak x) (peak (map (start_size n) (s ++ so)))) (all_site_terms n ms (c ++ co))) (map_append (memory_size n ms) m mo)
    ∙ ap (λ x. greater (greater (peak (map (memory_size n ms) m ++ map (memory_size n ms) mo)) (peak x)) (all_site_terms n ms (c ++ co)))
    (map_append (start_size n) s so)
    ∙ ap (λ x. greater x (all_site_terms n ms (c ++ co)))
    (split_greatest (map (memory_size n ms) m) (map (memory_size n ms) mo) (map (start_size n) s) (map (start_size n) so))
    ∙ ap (greater (greater (greater (peak (map (memory_size n ms) m)) (peak (map (start_size n) s)))
    (greater (peak (map (memory_size n ms) mo)) (peak (map (start_size n) so)))))
    (sites_both n ms c co)
    ∙ crossed (greater (peak (map (memory_size n ms) m)) (peak (map (start_size n) s)))
    (greater (peak (map (memory_size n ms) mo)) (peak (map (start_size n) so)))
    (all_site_terms n ms c) (all_site_terms n ms co)
    ∙ ap (greater (own_of n ms o)) (gathered_seen n ms os)

abbrev texts_seen : Component → ModeSizes → List Text → Size
texts_seen n ms ts = all_seen n ms (flat_map (λ x. occurrences n x.0 x.1) ts)

texts_both : (n : Component) (ms : ModeSizes) (xs ys : List Text) → texts_seen n ms (xs ++ ys) ≡ greater (texts_seen n ms xs) (texts_seen n ms ys)
texts_both n ms [] ys = sym (none_greater (texts_seen n ms ys))
texts_both n ms (x ∷ xs) ys =
    seen_both n ms (occurrences n x.0 x.1) (flat_map (λ x. occurrences n x.0 x.1) (xs ++ ys))
    ∙ ap (greater (all_seen n ms (occurrences n x.0 x.1))) (texts_both n ms xs ys)
    ∙ sym (greater_in_turn (all_seen n ms (occurrences n x.0 x.1)) (texts_seen n ms xs) (texts_seen n ms ys))
    ∙ ap (λ z. greater z (texts_seen n ms ys)) (sym (seen_both n ms (occurrences n x.0 x.1) (flat_map (λ x. occurrences n x.0 x.1) xs)))

-- one expression, and what follows
text_seen : (n : Component) (ms : ModeSizes) (s : Standing) (e : Expression) (ts : List Text) →
    texts_seen n ms ((s, e) ∷ ts) ≡ greater (inner_in n ms s.clock e) (texts_seen n ms ts)
text_seen n ms s e ts =
    seen_both n ms (occurrences n s e) (flat_map (λ x. occurrences n x.0 x.1) ts) ∙ ap (λ x. greater x (texts_seen n ms ts)) (inner_is n ms s e)

alone_seen : (n : Component) (ms : ModeSizes) (s : Standing) (e : Expression) → texts_seen n ms ((s, e) ∷ []) ≡ inner_in n ms s.clock e
alone_seen n ms s e = text_seen n ms s e [] ∙ greater_none (inner_in n ms s.clock e)

labelled_seen : (n : Component) (ms : ModeSizes) (ls : List Labelled) → texts_seen n ms (on_base ls) ≡ inner_labelled n ms ls
labelled_seen n ms [] = refl
labelled_seen n ms (l ∷ ls) = text_seen n ms (on_clock base) l.value (on_base ls) ∙ ap (greater (inner_in n ms base l.value)) (labelled_seen n ms ls)

each_seen : (n : Component) (ms : ModeSizes) (es : List Expression) → texts_seen n ms (map (λ a. (on_clock base, a)) es) ≡ inner_each n ms es
each_seen n ms [] = refl
each_seen n ms (e ∷ es) = text_seen n ms (on_clock base) e (map (λ a. (on_clock base, a)) es) ∙ ap (greater (inner_in n ms base e)) (each_seen n ms es)

constants_seen : (n : Component) (ms : ModeSizes) (cs : List Constant) → texts_seen n ms (constant_texts cs) ≡ constant_terms n ms cs
constants_seen n ms [] = refl
constants_seen n ms (c ∷ cs) = text_seen n ms (on_clock base) c.value (constant_texts cs) ∙ ap (greater (inner_in n ms base c.value)) (constants_seen n ms cs)

-- ---- items

abbrev side : Component → ModeSizes → Equation → Size
side n ms e = given_size (presence n (clock_of_names n e.names)) (size_in n ms e.right)

beside_none : (a b c : Size) → greater (greater no_size a) (greater b c) ≡ greater b (greater a c)
beside_none a b c = same_size (greater (greater no_size a) (greater b c)) (greater b (greater a c)) (omega arith) (omega arith)

-- an item's equation, texts and assertion before those of the others
in_front : (e k a es ks as_ : Size) → greater (greater e es) (greater (greater k ks) (greater a as_))
    ≡ greater (greater e (greater k a)) (greater es (greater ks as_))
in_front e k a es ks as_ = ap (greater (greater e es)) (crossed k ks a as_) ∙ crossed e es (greater k a) (greater ks as_)

equation_seen : (e k : Size) → greater e (greater k no_size) ≡ greater e k
equation_seen e k = ap (greater e) (greater_none k)

text_alone : (k : Size) → greater no_size (greater k no_size) ≡ k
text_alone k = none_greater (greater k no_size) ∙ greater_none k

asserted : (k a : Size) → greater no_size (greater k (greater a no_size)) ≡ greater a k
asserted k a = same_size (greater no_size (greater k (greater a no_size))) (greater a k) (omega arith) (omega arith)

import_seen : (t i : Size) → greater no_size (greater t (greater i no_size)) ≡ greater i t
import_seen t i = same_size (greater no_size (greater t (greater i no_size))) (greater i t) (omega arith) (omega arith)

contract_item_seen : (n : Component) (ms : ModeSizes) (c : ContractStatement) →
    greater (peak (map (side n ms) (ghost_equations (c ∷ [])))) (greater (texts_seen n ms (contract_statement_texts c)) (all_site_terms n ms (import_site c)))
    ≡ contract_terms n ms c
contract_item_seen n ms (assume l) = text_alone (texts_seen n ms ((on_clock base, l.value) ∷ [])) ∙ alone_seen n ms (on_clock base) l.value
contract_item_seen n ms (guarantee l) = text_alone (texts_seen n ms ((on_clock base, l.value) ∷ [])) ∙ alone_seen n ms (on_clock base) l.value
contract_item_seen n ms (ghost_variable v e) =
    let q : Equation = record { names = v.name.text ∷ []; right = e } in
    ap (λ x. greater x (greater (texts_seen n ms ((as_side base, e) ∷ [])) no_size)) (greater_none (side n ms q))
    ∙ equation_seen (side n ms q) (texts_seen n ms ((as_side base, e) ∷ []))
    ∙ ap (greater (side n ms q)) (alone_seen n ms (as_side base) e)
contract_item_seen n ms (constant c) = text_alone (texts_seen n ms ((on_clock base, c.value) ∷ [])) ∙ alone_seen n ms (on_clock base) c.value
contract_item_seen n ms (mode m rs es) =
    text_alone (texts_seen n ms (on_base rs ++ on_base es))
    ∙ texts_both n ms (on_base rs) (on_base es) ∙ ap (λ x. greater x (texts_seen n ms (on_base es))) (labelled_seen n ms rs)
    ∙ ap (greater (inner_labelled n ms rs)) (labelled_seen n ms es)
contract_item_seen n ms («import» k c as_ xs) =
    let t : Size = texts_seen n ms (map (λ a. (on_clock base, a)) as_) in
    import_seen t (peak (given_size leaf leaf ∷ map (λ a. given_size leaf (size_in n ms a)) as_))
    ∙ ap (λ x. greater x t) (ap (greater (given_size leaf leaf)) (arguments_are n ms as_))
    ∙ ap (greater (import_terms n ms as_)) (each_seen n ms as_)

ghosts_of_one : (c : ContractStatement) (cs : List ContractStatement) → ghost_equations (c ∷ cs) ≡ ghost_equations (c ∷ []) ++ ghost_equations cs
ghosts_of_one (assume l) cs = refl
ghosts_of_one (guarantee l) cs = refl
ghosts_of_one (ghost_variable v e) cs = refl
ghosts_of_one (constant c) cs = refl
ghosts_of_one (mode m rs es) cs = refl
ghosts_of_one («import» k c as_ xs) cs = refl

peak_sides : (n : Component) (ms : ModeSizes) (xs ys : List Equation) →
    peak (map (side n ms) (xs ++ ys)) ≡ greater (peak (map (side n ms) xs)) (peak (map (side n ms) ys))
peak_sides n ms xs ys = ap peak (map_append (side n ms) xs ys) ∙ peak_both (map (side n ms) xs) (map (side n ms) ys)

contract_seen : (n : Component) (ms : ModeSizes) (cs : List ContractStatement) →
    greater (peak (map (side n ms) (ghost_equations cs))) (greater (texts_seen n ms (flat_map contract_statement_texts cs))
    (all_site_terms n ms (flat_map import_site cs)))
    ≡ all_contract_terms n ms cs
contract_seen n ms [] = same_size (greater no_size (greater no_size no_size)) no_size (omega arith) (omega arith)
contract_seen n ms (c ∷ cs) =
    let g : Size = peak (map (side n ms) (ghost_equations (c ∷ []))) in
    let gs : Size = peak (map (side n ms) (ghost_equations cs)) in
    let t : Size = texts_seen n ms (contract_statement_texts c) in
    let ts : Size = texts_seen n ms (flat_map contract_statement_texts cs) in
    let i : Size = all_site_terms n ms (import_site c) in
    let is : Size = all_site_terms n ms (flat_map import_site cs) in
    ap (λ x. greater x (greater (texts_seen n ms (contract_statement_texts c ++ flat_map contract_statement_texts cs))
    (all_site_terms n ms (import_site c ++ flat_map import_site cs))))
    (ap (λ z. peak (map (side n ms) z)) (ghosts_of_one c cs) ∙ peak_sides n ms (ghost_equations (c ∷ [])) (ghost_equations cs))
    ∙ ap (λ x. greater (greater g gs) (greater x (all_site_terms n ms (import_site c ++ flat_map import_site cs))))
    (texts_both n ms (contract_statement_texts c) (flat_map contract_statement_texts cs))
    ∙ ap (λ x. greater (greater g gs) (greater (greater t ts) x)) (sites_both n ms (import_site c) (flat_map import_site cs))
    ∙ in_front g t i gs ts is
    ∙ ap (λ x. greater x (greater gs (greater ts is))) (contract_item_seen n ms c)
    ∙ ap (greater (contract_terms n ms c)) (contract_seen n ms cs)

statement_seen : (n : Component) (ms : ModeSizes) (s : Statement) →
    greater (peak (map (side n ms) (body_equations (s ∷ [])))) (greater (texts_seen n ms (statement_texts n s)) (peak (assert_sizes n ms (s ∷ []))))
    ≡ statement_terms n ms s
statement_seen n ms (equation xs e) =
    let q : Equation = record { names = map text_of xs; right = e } in
    let c : Clock = clock_of_names n (map text_of xs) in
    ap (λ x. greater x (greater (texts_seen n ms ((as_side c, e) ∷ [])) no_size)) (greater_none (side n ms q))
    ∙ equation_seen (side n ms q) (texts_seen n ms ((as_side c, e) ∷ []))
    ∙ ap (greater (side n ms q)) (alone_seen n ms (as_side c) e)
statement_seen n ms (assertion e) =
    asserted (texts_seen n ms ((on_clock base, e) ∷ [])) (one (two leaf (one (size_in n ms e))))
    ∙ ap (greater (one (two leaf (one (size_in n ms e))))) (alone_seen n ms (on_clock base) e)
statement_seen n ms (property l) = text_alone (texts_seen n ms ((on_clock base, l.value) ∷ [])) ∙ alone_seen n ms (on_clock base) l.value
statement_seen n ms (main_mark p) = text_alone no_size

equations_of_one : (s : Statement) (ss : List Statement) → body_equations (s ∷ ss) ≡ body_equations (s ∷ []) ++ body_equations ss
equations_of_one (equation xs e) ss = refl
equations_of_one (assertion e) ss = refl
equations_of_one (property l) ss = refl
equations_of_one (main_mark p) ss = refl

asserts_of_one : (n : Component) (ms : ModeSizes) (s : Statement) (ss : List Statement) → assert_sizes n ms (s ∷ ss) ≡ assert_sizes n ms (s ∷ [])
    ++ assert_sizes n ms ss
asserts_of_one n ms (equation xs e) ss = refl
asserts_of_one n ms (assertion e) ss = refl
asserts_of_one n ms (property l) ss = refl
asserts_of_one n ms (main_mark p) ss = refl

body_seen : (n : Component) (ms : ModeSizes) (ss : List Statement) →
    greater (peak (map (side n ms) (body_equations ss))) (greater (texts_seen n ms (flat_map (statement_texts n) ss)) (peak (assert_sizes n ms ss)))
    ≡ body_terms n ms ss
body_seen n ms [] = same_size (greater no_size (greater no_size no_size)) no_size (omega arith) (omega arith)
body_seen n ms (s ∷ ss) =
    ap (λ x. greater x (greater (texts_seen n ms (statement_texts n s ++ flat_map (statement_texts n) ss)) (peak (assert_sizes n ms (s ∷ ss)))))
    (ap (λ z. peak (map (side n ms) z)) (equations_of_one s ss) ∙ peak_sides n ms (body_equations (s ∷ [])) (body_equations ss))
    ∙ ap (λ x. greater (greater (peak (map (side n ms) (body_equations (s ∷ [])))) (peak (map (side n ms) (body_equations ss))))
    (greater x (peak (assert_sizes n ms (s ∷ ss)))))
    (texts_both n ms (statement_texts n s) (flat_map (statement_texts n) ss))
    ∙ ap (λ x. greater (greater (peak (map (side n ms) (body_equations (s ∷ [])))) (peak (map (side n ms) (body_equations ss))))
    (greater (greater (texts_seen n ms (statement_texts n s)) (texts_seen n ms (flat_map (statement_texts n) ss))) x))
    (ap peak (asserts_of_one n ms s ss) ∙ peak_both (assert_sizes n ms (s ∷ [])) (assert_sizes n ms ss))
    ∙ in_front (peak (map (side n ms) (body_equations (s ∷ [])))) (texts_seen n ms (statement_texts n s)) (peak (assert_sizes n ms (s ∷ [])))
    (peak (map (side n ms) (body_equations ss))) (texts_seen n ms (flat_map (statement_texts n) ss)) (peak (assert_sizes n ms ss))
    ∙ ap (λ x. greater x (greater (peak (map (side n ms) (body_equations ss)))
    (greater (texts_seen n ms (flat_map (statement_texts n) ss)) (peak (assert_sizes n ms ss)))))
    (statement_seen n ms s)
    ∙ ap (greater (statement_terms n ms s)) (body_seen n ms ss)

-- ---- free streams

free_seen : (known : List Name) (n : Component) (vs : List Variable) →
    peak (flat_map (λ v. cond (named_in v.name.text known) [] (free_size (presence n (clock_from v.clock)) ∷ [])) vs) ≡ free_terms known n vs
free_seen known n [] = refl
free_seen known n (v ∷ vs) =
    peak_both (cond (named_in v.name.text known) [] (free_size (presence n (clock_from v.clock)) ∷ [])) _
    ∙ ap (λ x. greater x (peak (flat_map (λ v. cond (named_in v.name.text known) [] (free_size (presence n (clock_from v.clock)) ∷ [])) vs)))
    (by_case (named_in v.name.text known))
    ∙ ap (greater (cond (named_in v.name.text known) no_size (free_size (presence n (clock_from v.clock))))) (free_seen known n vs) where
      by_case : (b : Bool) → peak (cond b [] (free_size (presence n (clock_from v.clock)) ∷ [])) ≡ cond b no_size (free_size (presence n (clock_from v.clock)))
      by_case true = refl
      by_case false = greater_none (free_size (presence n (clock_from v.clock)))

-- ---- all of them

last_first : (f o a : Size) → greater f (greater o a) ≡ greater a (greater f o)
last_first f o a = same_size (greater f (greater o a)) (greater a (greater f o)) (omega arith) (omega arith)

turned : (a b : Size) → greater a b ≡ greater b a
turned a b = same_size (greater a b) (greater b a) (omega arith) (omega arith)

arranged : (g b f m s o a i c k t d : Size) → greater (greater m s) d ≡ greater c (greater k t) →
    greater (greater (greater g b) (greater f (greater m (greater s (greater o a))))) (greater d i)
    ≡ greater (greater g (greater c i)) (greater k (greater (greater b (greater t a)) (greater f o)))
arranged g b f m s o a i c k t d h =
    let z : Size = greater f (greater o a) in
    ap (λ x. greater (greater (greater g b) x) (greater d i))
    (ap (greater f) (sym (greater_in_turn m s (greater o a))) ∙ swapped f (greater m s) (greater o a))
    ∙ greater_in_turn (greater g b) (greater (greater m s) z) (greater d i)
    ∙ ap (greater (greater g b))
    (crossed (greater m s) z d i ∙ ap (λ x. greater x (greater z i)) h
    ∙ ap (greater (greater c (greater k t))) (turned z i)
    ∙ crossed c (greater k t) i z)
    ∙ crossed g b (greater c i) (greater (greater k t) z)
    ∙ ap (greater (greater g (greater c i)))
    (ap (greater b) (greater_in_turn k t z) ∙ swapped b k (greater t z)
    ∙ ap (greater k)
    (sym (greater_in_turn b t z) ∙ ap (greater (greater b t)) (last_first f o a) ∙ sym (greater_in_turn (greater b t) a (greater f o))
    ∙ ap (λ x. greater x (greater f o)) (greater_in_turn b t a)))

own_split : (n : Component) (ms : ModeSizes) (es : List Equation) (fs m s o a : List Size) →
    peak (map (side n ms) es ++ (fs ++ (m ++ (s ++ (o ++ a)))))
    ≡ greater (peak (map (side n ms) es)) (greater (peak fs) (greater (peak m) (greater (peak s) (greater (peak o) (peak a)))))
own_split n ms es fs m s o a =
    peak_both (map (side n ms) es) (fs ++ (m ++ (s ++ (o ++ a))))
    ∙ ap (greater (peak (map (side n ms) es)))
    (peak_both fs (m ++ (s ++ (o ++ a)))
    ∙ ap (greater (peak fs))
    (peak_both m (s ++ (o ++ a)) ∙ ap (greater (peak m)) (peak_both s (o ++ a) ∙ ap (greater (peak s)) (peak_both o a))))

pub own_terms_by_items : OwnTermsByItems
own_terms_by_items given n r =
    let ms : ModeSizes = r.modes in
    let cs : List ContractStatement = contract_statements n in
    let g : Size = peak (map (side n ms) (ghost_equations cs)) in
    let b : Size = peak (map (side n ms) (body_equations n.body)) in
    let f : Size = peak (free_sizes given n) in
    let m : Size = peak (map (memory_size n ms) (memories n)) in
    let s : Size = peak (map (start_size n) (starts n)) in
    let o : Size = peak (sofar_by n.contract r.assumed.whole) in
    let a : Size = peak (assert_sizes n ms n.body) in
    let d : Size = all_site_terms n ms (gathered site_in n) in
    let i : Size = all_site_terms n ms (flat_map import_site cs) in
    let c : Size = texts_seen n ms (flat_map contract_statement_texts cs) in
    let k : Size = texts_seen n ms (constant_texts n.constants) in
    let t : Size = texts_seen n ms (flat_map (statement_texts n) n.body) in
    let h : greater (greater m s) d ≡ greater c (greater k t) =
    gathered_seen n ms (flat_map (λ x. occurrences n x.0 x.1) (texts n))
    ∙ texts_both n ms (flat_map contract_statement_texts cs) (constant_texts n.constants ++ flat_map (statement_texts n) n.body)
    ∙ ap (greater c) (texts_both n ms (constant_texts n.constants) (flat_map (statement_texts n) n.body)) in
    ap (λ x. greater x (all_site_terms n ms (found_sites n)))
    (own_split n ms (equations n) (free_sizes given n) (map (memory_size n ms) (memories n)) (map (start_size n) (starts n))
    (sofar_by n.contract r.assumed.whole) (assert_sizes n ms n.body)
    ∙ ap (λ x. greater x (greater f (greater m (greater s (greater o a))))) (peak_sides n ms (ghost_equations cs) (body_equations n.body)))
    ∙ ap (greater (greater (greater g b) (greater f (greater m (greater s (greater o a)))))) (sites_both n ms (gathered site_in n) (flat_map import_site cs))
    ∙ arranged g b f m s o a i c k t d h
    ∙ ap (λ x. greater x (greater k (greater (greater b (greater t a)) (greater f o)))) (contract_seen n ms cs)
    ∙ ap (λ x. greater (all_contract_terms n ms cs) (greater x (greater (greater b (greater t a)) (greater f o)))) (constants_seen n ms n.constants)
    ∙ ap (λ x. greater (all_contract_terms n ms cs) (greater (constant_terms n ms n.constants) (greater x (greater f o)))) (body_seen n ms n.body)
    ∙ ap (λ x. greater (all_contract_terms n ms cs) (greater (constant_terms n ms n.constants) (greater (body_terms n ms n.body) (greater x o))))
    (free_seen (given ++ left_names n) n (variables n))
