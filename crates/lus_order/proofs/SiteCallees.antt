-- Where two libraries say the same of all that a declaration calls and imports, it reads the same by both.
use Rattle.std.proofs.Common.{◌≡◌, ℕ, zero, suc, ◌<◌, List, [], ◌∷◌, ◌++◌, map, flat_map, length, arith}
use Rattle.std.specs.Prelude.{Contains}
use Rattle.std.specs.List.{AllByRecursion}
use Rattle.lus_tree.specs.Tree.{Expression, Expressions, truth, number, name, negation, minus, pre, arrow, binary, choice, sampled, merged, call, condact, mode_name, no_more, more, Labelled, Statement, equation, assertion, property, main_mark, ContractStatement, assume, guarantee, ghost_variable, constant, mode, «import», Component, Program}
use Rattle.lus_meaning.specs.Scene.{Site, base, sampled_by, clock_of, contract_statements}
use Rattle.lus_meaning.specs.Program.{site_in, import_site, all_sites}
use Rattle.lus_meaning.specs.Occurrences.{Standing, on_clock, within, moved, occurs, Occurrence, occurrences, occurrences_among, Text, on_base, contract_statement_texts, statement_texts, constant_texts, texts, all_occurrences, gathered}
use Rattle.lus_meaning.specs.Run.{ghost_equations, body_equations}
use Rattle.lus_meaning.specs.ClockFaults.{components}
use Rattle.lus_meaning.specs.Grammatical.{IsGrammatical}
use Rattle.lus_meaning.proofs.Lists.{all_from, both_parts}
use Rattle.lus_meaning.proofs.Now.{left_part, right_part}
use Rattle.rule_laws.proofs.Numbered.{At, InPlace, all_in_place}
use Rattle.rule_laws.proofs.Places.{numbered, sites_counted}
use Rattle.way_laws.specs.OwnGraph.{Summaries}
use Rattle.lus_order.specs.SameCallees.{SameIn, SameAmong, SameFor, SameCallees}

pub at_contains : {A : Type 0} (xs : List A) (k : ℕ) (x : A) → At xs k x → Contains xs x
at_contains [] k x h = absurd h
at_contains (y ∷ xs) zero x h = (0, omega arith, h)
at_contains (y ∷ xs) (suc k) x h =
    let r : Contains xs x = at_contains xs k x h in
    let l : r.0 < length xs = r.1 in
    (suc r.0, omega arith, r.2)

abbrev found_sites : Component → List Site
found_sites n = gathered site_in n ++ flat_map import_site (contract_statements n)

-- what holds of each item of the parts holds part by part
parts : {A B : Type 0} (Q : B → Type 0) (f : A → List B) (xs : List A) → AllByRecursion Q (flat_map f xs)
    → AllByRecursion (λ x. AllByRecursion Q (f x)) xs
parts Q f [] a = tt
parts Q f (x ∷ xs) a = (left_part Q (f x) (flat_map f xs) a, parts Q f xs (right_part Q (f x) (flat_map f xs) a))

module _ (g h : Summaries) where
  abbrev Same : Site → Type 0
  Same s = g s.callee ≡ h s.callee

  abbrev Here : Occurrence → Type 0
  Here o = AllByRecursion Same (site_in o.standing o.expression)

  abbrev All : List Occurrence → Type 0
  All os = AllByRecursion Here os

  left : (xs ys : List Occurrence) → All (xs ++ ys) → All xs
  left xs ys a = left_part Here xs ys a

  right : (xs ys : List Occurrence) → All (xs ++ ys) → All ys
  right xs ys a = right_part Here xs ys a

  mutual
    same_in : (n : Component) (s : Standing) (e : Expression) → All (occurrences n s e) → SameIn g h e
    same_in n s (truth p b) a = tt
    same_in n s (number p k) a = tt
    same_in n s (name p x) a = tt
    same_in n s (negation p e) a = same_in n (within s) e a.1
    same_in n s (minus p e) a = same_in n (within s) e a.1
    same_in n s (pre p k e) a = tt
    same_in n s (arrow p k b c) a = (
      same_in n (within s) b (left (occurrences n (within s) b) _ a),
      same_in n (within s) c (right (occurrences n (within s) b) (occurs s (arrow p k b c) ∷ occurrences n (within s) c) a).1,
    )
    same_in n s (binary p o b c) a = (
      same_in n (within s) b (left (occurrences n (within s) b) _ a),
      same_in n (within s) c (right (occurrences n (within s) b) (occurs s (binary p o b c) ∷ occurrences n (within s) c) a).1,
    )
    same_in n s (choice p b c d) a =
        let r : All (occurrences n (within s) c ++ occurrences n (within s) d) = right (occurrences n (within s) b) _ a.1 in (
          same_in n (within s) b (left (occurrences n (within s) b) _ a.1),
          same_in n (within s) c (left (occurrences n (within s) c) _ r),
          same_in n (within s) d (right (occurrences n (within s) c) _ r),
        )
    same_in n s (sampled p b v x) a = same_in n (moved (clock_of n x.text) s) b (left (occurrences n (moved (clock_of n x.text) s) b) _ a)
    same_in n s (merged p x b c) a = (
      same_in n (moved (sampled_by _ x.text) s) b (left (occurrences n (moved (sampled_by _ x.text) s) b) _ a.1),
      same_in n (moved (sampled_by _ x.text) s) c (right (occurrences n (moved (sampled_by _ x.text) s) b) _ a.1),
    )
    same_in n s (call p k f as_) a = (a.0.0, same_among n (within s) as_ a.1)
    same_in n s (condact p k b f as_ ds) a =
        let r : All (occurrences_among n (within s) as_ ++ occurrences_among n (within s) ds) = right (occurrences n (within s) b) _ a.1 in (
          same_in n (within s) b (left (occurrences n (within s) b) _ a.1),
          a.0.0,
          same_among n (within s) as_ (left (occurrences_among n (within s) as_) _ r),
          same_among n (within s) ds (right (occurrences_among n (within s) as_) _ r),
        )
    same_in n s (mode_name p d m) a = tt

    same_among : (n : Component) (s : Standing) (es : Expressions) → All (occurrences_among n s es) → SameAmong g h es
    same_among n s no_more a = tt
    same_among n s (more e es) a =
        (same_in n s e (left (occurrences n s e) _ a), same_among n s es (right (occurrences n s e) _ a))

  abbrev InText : Component → Text → Type 0
  InText n x = All (occurrences n x.0 x.1)

  of_labels : (n : Component) (ls : List Labelled) → AllByRecursion (InText n) (on_base ls) → AllByRecursion (λ l. SameIn g h l.value) ls
  of_labels n [] a = tt
  of_labels n (l ∷ ls) a = (same_in n _ l.value a.0, of_labels n ls a.1)

  of_arguments : (n : Component) (es : List Expression) → AllByRecursion (InText n) (map (λ e. (on_clock base, e)) es)
      → AllByRecursion (SameIn g h) es
  of_arguments n [] a = tt
  of_arguments n (e ∷ es) a = (same_in n _ e a.0, of_arguments n es a.1)

  same_statements : (n : Component) (cs : List ContractStatement) → AllByRecursion (InText n) (flat_map contract_statement_texts cs)
      → AllByRecursion Same (flat_map import_site cs) → AllByRecursion (SameFor g h) cs
  same_statements n [] a b = tt
  same_statements n (assume l ∷ cs) a b = (tt, same_statements n cs a.1 b)
  same_statements n (guarantee l ∷ cs) a b = (tt, same_statements n cs a.1 b)
  same_statements n (ghost_variable x e ∷ cs) a b = (tt, same_statements n cs a.1 b)
  same_statements n (constant c ∷ cs) a b = (tt, same_statements n cs a.1 b)
  same_statements n (mode m rs es ∷ cs) a b =
      let q : AllByRecursion (InText n) (on_base rs ++ on_base es) = left_part (InText n) (on_base rs ++ on_base es)
      (flat_map contract_statement_texts cs) a in (
        of_labels n rs (left_part (InText n) (on_base rs) (on_base es) q),
        same_statements n cs (right_part (InText n) (on_base rs ++ on_base es) (flat_map contract_statement_texts cs) a) b,
      )
  same_statements n («import» k c as_ xs ∷ cs) a b =
      let ts : List Text = contract_statement_texts («import» k c as_ xs) in (
        (b.0, of_arguments n as_ (left_part (InText n) ts (flat_map contract_statement_texts cs) a)),
        same_statements n cs (right_part (InText n) ts (flat_map contract_statement_texts cs) a) b.1,
      )

  same_ghosts : (n : Component) (cs : List ContractStatement) → AllByRecursion (InText n) (flat_map contract_statement_texts cs)
      → AllByRecursion (λ e. SameIn g h e.right) (ghost_equations cs)
  same_ghosts n [] a = tt
  same_ghosts n (assume l ∷ cs) a = same_ghosts n cs a.1
  same_ghosts n (guarantee l ∷ cs) a = same_ghosts n cs a.1
  same_ghosts n (ghost_variable x e ∷ cs) a = (same_in n _ e a.0, same_ghosts n cs a.1)
  same_ghosts n (constant c ∷ cs) a = same_ghosts n cs a.1
  same_ghosts n (mode m rs es ∷ cs) a =
      same_ghosts n cs (right_part (InText n) (on_base rs ++ on_base es) (flat_map contract_statement_texts cs) a)
  same_ghosts n («import» k c as_ xs ∷ cs) a =
      same_ghosts n cs (right_part (InText n) (contract_statement_texts («import» k c as_ xs)) (flat_map contract_statement_texts cs) a)

  same_body : (n : Component) (ss : List Statement) → AllByRecursion (InText n) (flat_map (statement_texts n) ss)
      → AllByRecursion (λ e. SameIn g h e.right) (body_equations ss)
  same_body n [] a = tt
  same_body n (equation xs e ∷ ss) a = (same_in n _ e a.0, same_body n ss a.1)
  same_body n (assertion e ∷ ss) a = same_body n ss a.1
  same_body n (property l ∷ ss) a = same_body n ss a.1
  same_body n (main_mark p ∷ ss) a = same_body n ss a

  same_found : (n : Component) → AllByRecursion Same (found_sites n) → SameCallees g h n
  same_found n a =
      let os : AllByRecursion Here (all_occurrences n) = parts Same (λ o. site_in o.standing o.expression) (all_occurrences n)
      (left_part Same (gathered site_in n) (flat_map import_site (contract_statements n)) a) in
      let xs : AllByRecursion (InText n) (texts n) = parts Here (λ x. occurrences n x.0 x.1) (texts n) os in
      let cs : AllByRecursion (InText n) (flat_map contract_statement_texts (contract_statements n)) =
      left_part (InText n) (flat_map contract_statement_texts (contract_statements n)) _ xs in
      let ss : AllByRecursion (InText n) (flat_map (statement_texts n) n.body) = right_part (InText n) (constant_texts n.constants) _
      (right_part (InText n) (flat_map contract_statement_texts (contract_statements n)) _ xs) in
      record {
        modes = same_statements n (contract_statements n) cs (right_part Same (gathered site_in n) (flat_map import_site (contract_statements n)) a);
        sides = both_parts (λ e. SameIn g h e.right) (ghost_equations (contract_statements n)) (body_equations n.body)
            (same_ghosts n (contract_statements n) cs) (same_body n n.body ss);
      }

pub same_callees : (p : Program) → IsGrammatical p → (n : Component) → Contains (components p) n → (g h : Summaries)
    → ((s : Site) → Contains (all_sites n) s → g s.callee ≡ h s.callee) → SameCallees g h n
same_callees p grammatical n d g h a = same_found g h n (all_from (InPlace (λ c. c.number) (found_sites n)) (Same g h)
    (λ s i. a s (at_contains (all_sites n) _ s i.place)) (found_sites n)
    (all_in_place (λ c. c.number) (found_sites n) (sites_counted n (numbered p grammatical n d))))
