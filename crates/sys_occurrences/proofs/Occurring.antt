-- What is found by walks of places is what a declaration's occurrences have.
use Rattle.std.proofs.Common.{◌≡◌, ℕ, true, false, List, [], ◌∷◌, ◌++◌, map, flat_map, refl, ap, ◌∙◌, sym}
use Rattle.std.proofs.lemmas.List.{append-nil}
use Rattle.std.proofs.lemmas.Grind.{flat_map-append}
use Rattle.lus_tree.specs.Tree.{Spelled, Expression, Expressions, truth, number, name, negation, minus, pre, arrow, binary, choice, sampled, merged, call, condact, mode_name, no_more, more, Component}
use Rattle.lus_tree.specs.View.{joined}
use Rattle.lus_meaning.specs.Scene.{Clock, base, clock_of, contract_statements, sampled_by, Site}
use Rattle.lus_meaning.specs.Occurrences.{Occurrence, Standing, Text, Memory, memory_in, memories, Start, start_in, starts, before, constant_texts, contract_statement_texts, gathered, moved, on_clock, occurrences, occurrences_among, statement_texts, texts, within}
use Rattle.lus_meaning.specs.Program.{listed, site_in}
use Rattle.lus_meaning.proofs.Lists.{map_append}
use Rattle.sys_occurrences.specs.Occurring.{placed, places, memories_in, memories_among, memories_of, starts_in, starts_among, starts_of, sites_in, sites_among, sites_of, plain_site, held_site}

-- ---- places

pub arguments_placed : (as_ : List Expression) → map (λ a. (base, a)) as_ ≡ map placed (map (λ a. (on_clock base, a)) as_)
arguments_placed [] = refl
arguments_placed (a ∷ as_) = ap (λ l. (base, a) ∷ l) (arguments_placed as_)

pub places_are : (n : Component) →
    map placed (flat_map contract_statement_texts (contract_statements n)) ++ (map placed (constant_texts n.constants)
    ++ map placed (flat_map (statement_texts n) n.body)) ≡ places n
places_are n = sym (map_append placed (flat_map contract_statement_texts (contract_statements n)) (constant_texts n.constants
    ++ flat_map (statement_texts n) n.body)
    ∙ ap (λ l. map placed (flat_map contract_statement_texts (contract_statements n)) ++ l)
    (map_append placed (constant_texts n.constants) (flat_map (statement_texts n) n.body)))

pub listed_joined : (es : List Expression) → listed (joined es) ≡ es
listed_joined [] = refl
listed_joined (e ∷ es) = ap (λ l. e ∷ l) (listed_joined es)

pub plain_pushed : (new old : List Site) (k : ℕ) (f : Spelled) (c : Clock) (es : List Expression) → new ≡ old ++ plain_site k f c es ∷ []
    → new ≡ old ++ plain_site k f c (listed (joined es)) ∷ []
plain_pushed new old k f c es e = e ∙ ap (λ l. old ++ plain_site k f c l ∷ []) (sym (listed_joined es))

pub held_pushed : (new old : List Site) (k : ℕ) (f : Spelled) (c : Clock) (a : Expression) (es ds : List Expression)
    → new ≡ old ++ held_site k f c a es ds ∷ [] → new ≡ old ++ held_site k f c a (listed (joined es)) (listed (joined ds)) ∷ []
held_pushed new old k f c a es ds e =
    e ∙ (ap (λ l. old ++ held_site k f c a l ds ∷ []) (sym (listed_joined es))
    ∙ ap (λ l. old ++ held_site k f c a (listed (joined es)) l ∷ []) (sym (listed_joined ds)))

-- ---- the `pre`

abbrev memory_read : Occurrence → List Memory
memory_read o = memory_in o.standing o.expression

memory_split : (xs ys : List Occurrence) → flat_map memory_read (xs ++ ys) ≡ flat_map memory_read xs ++ flat_map memory_read ys
memory_split xs ys = flat_map-append memory_read xs ys

mutual
  memory_one : (n : Component) (s : Standing) (e : Expression) → flat_map memory_read (occurrences n s e) ≡ memories_in n s.clock e
  memory_one n s (truth p b) = refl
  memory_one n s (number p k) = refl
  memory_one n s (name p x) = refl
  memory_one n s (negation p a) = memory_one n (within s) a
  memory_one n s (minus p a) = memory_one n (within s) a
  memory_one n s (pre p k a) =
      ap (λ (ms : List Memory). let m : Memory = record { number = k; clock = s.clock; operand = a } in m ∷ ms) (memory_one n (before s) a)
  memory_one n s (arrow p k a b) = memory_split (occurrences n (within s) a) _ ∙ (rw (memory_one n (within s) a, memory_one n (within s) b) refl)
  memory_one n s (binary p o a b) = memory_split (occurrences n (within s) a) _ ∙ (rw (memory_one n (within s) a, memory_one n (within s) b) refl)
  memory_one n s (choice p a b d) = memory_split (occurrences n (within s) a) _
      ∙ (rw (
        memory_one n (within s) a,
        memory_split (occurrences n (within s) b) (occurrences n (within s) d),
        memory_one n (within s) b,
        memory_one n (within s) d,
      ) refl)
  memory_one n s (sampled p a b x) = memory_split (occurrences n (moved (clock_of n x.text) s) a) _
      ∙ (rw (memory_one n (moved (clock_of n x.text) s) a) (append-nil (memories_in n (clock_of n x.text) a)))
  memory_one n s (merged p x a b) = memory_split (occurrences n (moved (sampled_by true x.text) s) a) _
      ∙ (rw (memory_one n (moved (sampled_by true x.text) s) a, memory_one n (moved (sampled_by false x.text) s) b) refl)
  memory_one n s (call p k f as_) = memory_among n (within s) as_
  memory_one n s (condact p k a f as_ ds) = (memory_split (occurrences n (within s) a) _
      ∙ (rw (
        memory_one n (within s) a,
        memory_split (occurrences_among n (within s) as_) (occurrences_among n (within s) ds),
        memory_among n (within s) as_,
        memory_among n (within s) ds,
      ) refl))
  memory_one n s (mode_name p d m) = refl

  memory_among : (n : Component) (s : Standing) (es : Expressions) → flat_map memory_read (occurrences_among n s es) ≡ memories_among n s.clock es
  memory_among n s no_more = refl
  memory_among n s (more a as_) = memory_split (occurrences n s a) (occurrences_among n s as_) ∙ (rw (memory_one n s a, memory_among n s as_) refl)

memory_texts : (n : Component) (xs : List Text) → flat_map memory_read (flat_map (λ x. occurrences n x.0 x.1) xs) ≡ memories_of n (map placed xs)
memory_texts n [] = refl
memory_texts n (x ∷ xs) =
    memory_split (occurrences n x.0 x.1) (flat_map (λ x. occurrences n x.0 x.1) xs) ∙ (rw (memory_one n x.0 x.1, memory_texts n xs) refl)

-- ---- the `->`

abbrev start_read : Occurrence → List Start
start_read o = start_in o.standing o.expression

start_split : (xs ys : List Occurrence) → flat_map start_read (xs ++ ys) ≡ flat_map start_read xs ++ flat_map start_read ys
start_split xs ys = flat_map-append start_read xs ys

mutual
  start_one : (n : Component) (s : Standing) (e : Expression) → flat_map start_read (occurrences n s e) ≡ starts_in n s.clock e
  start_one n s (truth p b) = refl
  start_one n s (number p k) = refl
  start_one n s (name p x) = refl
  start_one n s (negation p a) = start_one n (within s) a
  start_one n s (minus p a) = start_one n (within s) a
  start_one n s (pre p k a) = start_one n (before s) a
  start_one n s (arrow p k a b) = start_split (occurrences n (within s) a) _ ∙ (rw (start_one n (within s) a, start_one n (within s) b) refl)
  start_one n s (binary p o a b) = start_split (occurrences n (within s) a) _ ∙ (rw (start_one n (within s) a, start_one n (within s) b) refl)
  start_one n s (choice p a b d) = start_split (occurrences n (within s) a) _
      ∙ (rw (
        start_one n (within s) a,
        start_split (occurrences n (within s) b) (occurrences n (within s) d),
        start_one n (within s) b,
        start_one n (within s) d,
      ) refl)
  start_one n s (sampled p a b x) = start_split (occurrences n (moved (clock_of n x.text) s) a) _
      ∙ (rw (start_one n (moved (clock_of n x.text) s) a) (append-nil (starts_in n (clock_of n x.text) a)))
  start_one n s (merged p x a b) = start_split (occurrences n (moved (sampled_by true x.text) s) a) _
      ∙ (rw (start_one n (moved (sampled_by true x.text) s) a, start_one n (moved (sampled_by false x.text) s) b) refl)
  start_one n s (call p k f as_) = start_among n (within s) as_
  start_one n s (condact p k a f as_ ds) = (start_split (occurrences n (within s) a) _
      ∙ (rw (
        start_one n (within s) a,
        start_split (occurrences_among n (within s) as_) (occurrences_among n (within s) ds),
        start_among n (within s) as_,
        start_among n (within s) ds,
      ) refl))
  start_one n s (mode_name p d m) = refl

  start_among : (n : Component) (s : Standing) (es : Expressions) → flat_map start_read (occurrences_among n s es) ≡ starts_among n s.clock es
  start_among n s no_more = refl
  start_among n s (more a as_) = start_split (occurrences n s a) (occurrences_among n s as_) ∙ (rw (start_one n s a, start_among n s as_) refl)

start_texts : (n : Component) (xs : List Text) → flat_map start_read (flat_map (λ x. occurrences n x.0 x.1) xs) ≡ starts_of n (map placed xs)
start_texts n [] = refl
start_texts n (x ∷ xs) =
    start_split (occurrences n x.0 x.1) (flat_map (λ x. occurrences n x.0 x.1) xs) ∙ (rw (start_one n x.0 x.1, start_texts n xs) refl)

-- ---- the calls

abbrev site_read : Occurrence → List Site
site_read o = site_in o.standing o.expression

site_split : (xs ys : List Occurrence) → flat_map site_read (xs ++ ys) ≡ flat_map site_read xs ++ flat_map site_read ys
site_split xs ys = flat_map-append site_read xs ys

mutual
  site_one : (n : Component) (s : Standing) (e : Expression) → flat_map site_read (occurrences n s e) ≡ sites_in n s.clock e
  site_one n s (truth p b) = refl
  site_one n s (number p k) = refl
  site_one n s (name p x) = refl
  site_one n s (negation p a) = site_one n (within s) a
  site_one n s (minus p a) = site_one n (within s) a
  site_one n s (pre p k a) = site_one n (before s) a
  site_one n s (arrow p k a b) = site_split (occurrences n (within s) a) _ ∙ (rw (site_one n (within s) a, site_one n (within s) b) refl)
  site_one n s (binary p o a b) = site_split (occurrences n (within s) a) _ ∙ (rw (site_one n (within s) a, site_one n (within s) b) refl)
  site_one n s (choice p a b d) = site_split (occurrences n (within s) a) _
      ∙ (rw (
        site_one n (within s) a,
        site_split (occurrences n (within s) b) (occurrences n (within s) d),
        site_one n (within s) b,
        site_one n (within s) d,
      ) refl)
  site_one n s (sampled p a b x) = site_split (occurrences n (moved (clock_of n x.text) s) a) _
      ∙ (rw (site_one n (moved (clock_of n x.text) s) a) (append-nil (sites_in n (clock_of n x.text) a)))
  site_one n s (merged p x a b) = site_split (occurrences n (moved (sampled_by true x.text) s) a) _
      ∙ (rw (site_one n (moved (sampled_by true x.text) s) a, site_one n (moved (sampled_by false x.text) s) b) refl)
  site_one n s (call p k f as_) = ap (λ cs. plain_site k f s.clock (listed as_) ∷ cs) (site_among n (within s) as_)
  site_one n s (condact p k a f as_ ds) = ap (λ cs. held_site k f s.clock a (listed as_) (listed ds) ∷ cs) (site_split (occurrences n (within s) a) _
      ∙ (rw (
        site_one n (within s) a,
        site_split (occurrences_among n (within s) as_) (occurrences_among n (within s) ds),
        site_among n (within s) as_,
        site_among n (within s) ds,
      ) refl))
  site_one n s (mode_name p d m) = refl

  site_among : (n : Component) (s : Standing) (es : Expressions) → flat_map site_read (occurrences_among n s es) ≡ sites_among n s.clock es
  site_among n s no_more = refl
  site_among n s (more a as_) = site_split (occurrences n s a) (occurrences_among n s as_) ∙ (rw (site_one n s a, site_among n s as_) refl)

site_texts : (n : Component) (xs : List Text) → flat_map site_read (flat_map (λ x. occurrences n x.0 x.1) xs) ≡ sites_of n (map placed xs)
site_texts n [] = refl
site_texts n (x ∷ xs) =
    site_split (occurrences n x.0 x.1) (flat_map (λ x. occurrences n x.0 x.1) xs) ∙ (rw (site_one n x.0 x.1, site_texts n xs) refl)

-- ---- those of a declaration

pub memories_are : (n : Component) → memories_of n (places n) ≡ memories n
memories_are n = sym (memory_texts n (texts n))

pub starts_are : (n : Component) → starts_of n (places n) ≡ starts n
starts_are n = sym (start_texts n (texts n))

pub sites_are : (n : Component) → sites_of n (places n) ≡ gathered site_in n
sites_are n = sym (site_texts n (texts n))
