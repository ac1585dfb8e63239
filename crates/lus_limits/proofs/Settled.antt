-- When nothing is left to note, all are known, as callees are lower.
use Rattle.std.proofs.Common.{◌≡◌, ℕ, zero, suc, ◌<◌, ◌≤◌, Bool, true, false, ◌||◌, ◌&&◌, List, [], ◌∷◌, ◌++◌, length, map, get_or, Option, Some, None, refl, sym, ap, ◌∙◌, subst, arith}
use Rattle.std.specs.Prelude.{Contains, MatchOption, unwrap_or, replicate}
use Rattle.std.specs.Option.{IsSome}
use Rattle.std.proofs.lemmas.Option.{none-some}
use Rattle.std.specs.Str.{bytes_eq}
use Rattle.std.proofs.Math.Logic.{◌⊎◌, inl, inr}
use Rattle.std.proofs.lemmas.Bool.{false≢true, cases_Bool}
use Rattle.std.proofs.lemmas.List.Elements.{Contains-get_or}
use Rattle.lus_tree.specs.Tree.{Name, text_of, Component, Program, declared_constant, declared_node, declared_contract}
use Rattle.lus_meaning.specs.ClockFaults.{components}
use Rattle.lus_meaning.specs.Depends.{named_in}
use Rattle.lus_meaning.specs.NameFaults.{declaration_word, declaration_faults, typing_faults}
use Rattle.lus_meaning.specs.Faults.{words_twice}
use Rattle.lus_tree.specs.Reason.{name_twice}
use Rattle.lus_meaning.proofs.NamesOnce.{none_twice, no_parts, empty_of}
use Rattle.lus_meaning.specs.Program.{all_sites}
use Rattle.lus_meaning.specs.Refusals.{IsChecked}
use Rattle.lus_meaning.specs.RuleLaws.{callee_of}
use Rattle.lus_meaning.specs.Scene.{Site, no_component}
use Rattle.lus_meaning.specs.WellMade.{AreDistinct}
use Rattle.name_table.specs.Names.{number_of}
use Rattle.name_table.proofs.Names.{itself}
use Rattle.name_table.proofs.Numbers.{number_below}
use Rattle.way_laws.specs.Laws.{GoesLower}
use Rattle.way_laws.proofs.Callees.{callees_lower}
use Rattle.lus_limits.specs.declared.needs.Needs.{Needs}
use Rattle.lus_limits.specs.Calls.{called_of}
use Rattle.lus_limits.specs.Needed.{AllKnown, AreKnown, AreTried, AreTriedFrom, IsSettled, IsStuckAt, IsTried, unknowns, all_known, is_known, names_of}
use Rattle.lus_limits.proofs.Needed.{found_at, many_named}

mentioned : (ns : List Component) (m : Component) → Contains ns m → named_in m.name.text (map (λ (n : Component). n.name.text) ns) ≡ true
mentioned [] m (k, l, e) = absurd (omega (arith, l))
mentioned (n ∷ ns) m (zero, l, e) = here (bytes_eq m.name.text n.name.text) (ap (λ (z : Component). bytes_eq m.name.text z.name.text) e ∙ itself m.name.text)
  where
    here : (b : Bool) → b ≡ true → (b || named_in m.name.text (map (λ (n : Component). n.name.text) ns)) ≡ true
    here true h = refl
    here false h = absurd (false≢true h)
mentioned (n ∷ ns) m (suc k, l, e) = there (bytes_eq m.name.text n.name.text) (mentioned ns m (k, omega (arith, l), e))
  where
    there : (b : Bool) → named_in m.name.text (map (λ (n : Component). n.name.text) ns) ≡ true
        → (b || named_in m.name.text (map (λ (n : Component). n.name.text) ns)) ≡ true
    there true h = refl
    there false h = h

each_called : (names : List Name) (known : List (Option Needs)) (ss : List Site)
    → ((s : Site) → Contains ss s → is_known known (number_of names s.callee) ≡ true) → all_known names known (map called_of ss) ≡ true
each_called names known [] a = refl
each_called names known (s ∷ ss) a = both (is_known known (number_of names s.callee)) (a s (0, omega arith, refl))
    (each_called names known ss (λ c i. a c (behind i)))
  where
    behind : {c : Site} → Contains ss c → Contains (s ∷ ss) c
    behind (k, l, h) = (suc k, omega (arith, l), h)

    both : (b : Bool) → b ≡ true → all_known names known (map called_of ss) ≡ true → (b && all_known names known (map called_of ss)) ≡ true
    both true h g = g
    both false h g = absurd (false≢true h)

module _ (p : Program) (c : IsChecked p) (known : List (Option Needs))
    (stuck : (j : ℕ) → j < length (components p) → IsStuckAt (names_of p) (components p) known j) where
  abbrev rank : Component → ℕ
  rank = (callees_lower p c.rules.clocked.typed).0

  abbrev at : ℕ → Component
  at j = get_or (components p) j no_component

  known_below : (fuel : ℕ) (j : ℕ) → j < length (components p) → rank (at j) < fuel → is_known known j ≡ true
  known_below zero j h l = absurd (omega (arith, l))
  known_below (suc fuel) j h l = go (cases_Bool (is_known known j)) (known_below fuel)
    where
      called : ((k : ℕ) → k < length (components p) → rank (at k) < fuel → is_known known k ≡ true)
          → (s : Site) → Contains (all_sites (at j)) s → is_known known (number_of (names_of p) s.callee) ≡ true
      called r s i =
          let a : GoesLower p rank (at j) s = (callees_lower p c.rules.clocked.typed).1 (at j) (Contains-get_or (components p) j no_component h) s i in
          let b : rank (callee_of p s) < rank (at j) = a.lower in
          let m : named_in s.callee (names_of p) ≡ true = subst (λ x. named_in x (names_of p) ≡ true) a.named
          (mentioned (components p) (callee_of p s) a.declared) in
          let f : at (number_of (names_of p) s.callee) ≡ callee_of p s = ap (λ o. unwrap_or o no_component) (found_at p s.callee m) in
          let g : rank (at (number_of (names_of p) s.callee)) ≡ rank (callee_of p s) = ap rank f in
          let n : number_of (names_of p) s.callee < length (names_of p) = number_below (names_of p) s.callee m in
          let e : length (names_of p) ≡ length (components p) = many_named (components p) in
          r (number_of (names_of p) s.callee) (omega (arith, n, e)) (omega (arith, g, b, l))

      go : (is_known known j ≡ true) ⊎ (is_known known j ≡ false)
          → ((k : ℕ) → k < length (components p) → rank (at k) < fuel → is_known known k ≡ true) → is_known known j ≡ true
      go (inl e) r = e
      go (inr e) r = absurd (false≢true (sym (stuck j h e) ∙ each_called (names_of p) known (all_sites (at j)) (called r)))

  pub each_known : (j : ℕ) → j < length (components p) → is_known known j ≡ true
  each_known j h = known_below (suc (rank (at j))) j h (omega arith)

-- ---- rounds

first_or_later : (k j : ℕ) → k ≤ j → (k ≡ j) ⊎ (suc k ≤ j)
first_or_later zero zero h = inl refl
first_or_later zero (suc j) h = inr (omega arith)
first_or_later (suc k) zero h = absurd (omega (arith, h))
first_or_later (suc k) (suc j) h = go (first_or_later k j (omega (arith, h)))
  where
    go : (k ≡ j) ⊎ (suc k ≤ j) → (suc k ≡ suc j) ⊎ (suc (suc k) ≤ suc j)
    go (inl e) = inl (ap suc e)
    go (inr l) = inr (omega (arith, l))

-- one more from the back
pub tried_back : (names : List Name) (ns : List Component) (old mid new : List (Option Needs)) (k many : ℕ) (more one : Bool)
    → AreTriedFrom names ns old mid (suc k) many more → IsTried names ns mid new k one → AreTriedFrom names ns old new k many (more || one)
tried_back names ns old mid new k many more one a b = record {
  kept = λ p c g q r. b.kept p c g q (a.kept p c g q r);
  same_many = b.many ∙ a.same_many;
  added = added more one a.added a.stays b.added b.stays;
  stays = stays more one a.stays b.stays;
}
  where
    added : (more one : Bool) → (more ≡ true → unknowns mid < unknowns old)
        → (more ≡ false → (mid ≡ old) × ((j : ℕ) → suc k ≤ j → j < many → IsStuckAt names ns old j)) → (one ≡ true → unknowns new < unknowns mid)
        → (one ≡ false → (new ≡ mid) × IsStuckAt names ns mid k) → (more || one) ≡ true → unknowns new < unknowns old
    added true true f g h i e = omega (arith, f refl, h refl)
    added true false f g h i e = omega (arith, f refl, ap unknowns (i refl).0)
    added false true f g h i e = omega (arith, h refl, ap unknowns (g refl).0)
    added false false f g h i e = absurd (false≢true e)

    stays : (more one : Bool) → (more ≡ false → (mid ≡ old) × ((j : ℕ) → suc k ≤ j → j < many → IsStuckAt names ns old j))
        → (one ≡ false → (new ≡ mid) × IsStuckAt names ns mid k) → (more || one) ≡ false
        → (new ≡ old) × ((j : ℕ) → k ≤ j → j < many → IsStuckAt names ns old j)
    stays true true g i e = absurd (false≢true (sym e))
    stays true false g i e = absurd (false≢true (sym e))
    stays false true g i e = absurd (false≢true (sym e))
    stays false false g i e = (
      (i refl).0 ∙ (g refl).0,
      λ j l m. here j m (first_or_later k j l),
    )
      where
        here : (j : ℕ) → j < many → (k ≡ j) ⊎ (suc k ≤ j) → IsStuckAt names ns old j
        here j m (inl e) = subst (λ z. IsStuckAt names ns old z) e (subst (λ z. IsStuckAt names ns z k) (g refl).0 (i refl).1)
        here j m (inr l) = (g refl).1 j l m

-- as the code has it, where nothing was new before
pub tried_next : (names : List Name) (ns : List Component) (old mid new : List (Option Needs)) (left k many : ℕ) (more one : Bool) → left ≡ suc k
    → more ≡ false → AreTriedFrom names ns old mid left many more → IsTried names ns mid new k one → AreTriedFrom names ns old new k many one
tried_next names ns old mid new left k many more one h e a b =
    subst (λ m. AreTriedFrom names ns old new k many (m || one)) e
    (tried_back names ns old mid new k many more one (subst (λ z. AreTriedFrom names ns old mid z many more) h a) b)

-- there and back
pub tried_both : (names : List Name) (ns : List Component) (old mid new : List (Option Needs)) (many : ℕ) (there back : Bool)
    → AreTried names ns old mid many there → AreTriedFrom names ns mid new 0 many back → AreTried names ns old new many (there || back)
tried_both names ns old mid new many there back a b = record {
  kept = λ p c g q r. b.kept p c g q (a.kept p c g q r);
  many = b.same_many ∙ a.many;
  added = added there back a.added a.stays b.added b.stays;
  stays = stays there back a.stays b.stays;
}
  where
    added : (more one : Bool) → (more ≡ true → unknowns mid < unknowns old)
        → (more ≡ false → (mid ≡ old) × ((j : ℕ) → j < many → IsStuckAt names ns old j)) → (one ≡ true → unknowns new < unknowns mid)
        → (one ≡ false → (new ≡ mid) × ((j : ℕ) → 0 ≤ j → j < many → IsStuckAt names ns mid j)) → (more || one) ≡ true
        → unknowns new < unknowns old
    added true true f g h i e = omega (arith, f refl, h refl)
    added true false f g h i e = omega (arith, f refl, ap unknowns (i refl).0)
    added false true f g h i e = omega (arith, h refl, ap unknowns (g refl).0)
    added false false f g h i e = absurd (false≢true e)

    stays : (more one : Bool) → (more ≡ false → (mid ≡ old) × ((j : ℕ) → j < many → IsStuckAt names ns old j))
        → (one ≡ false → (new ≡ mid) × ((j : ℕ) → 0 ≤ j → j < many → IsStuckAt names ns mid j)) → (more || one) ≡ false
        → (new ≡ old) × ((j : ℕ) → j < many → IsStuckAt names ns old j)
    stays true true g i e = absurd (false≢true (sym e))
    stays true false g i e = absurd (false≢true (sym e))
    stays false true g i e = absurd (false≢true (sym e))
    stays false false g i e = ((i refl).0 ∙ (g refl).0, (g refl).1)

-- before anything is noted
pub none_known : (p : Program) (ns : List Component) → AreKnown p ns (replicate (length ns) None)
none_known p [] = tt
none_known p (n ∷ ns) = (tt, none_known p ns)

pub all_settled : (p : Program) → IsChecked p → (known : List (Option Needs))
    → IsSettled (names_of p) (components p) (replicate (length (components p)) None) known → AllKnown p known
all_settled p c known s = record {
  right = s.kept p c refl refl (none_known p (components p));
  all = each_known p c known s.stuck;
}

-- ---- names of declarations, each once

not_among : (y : Name) (ds : Program) → named_in y (map text_of (map declaration_word ds)) ≡ false → named_in y (names_of ds) ≡ false
not_among y [] e = refl
not_among y (declared_constant k ∷ ds) e = not_among y ds (later (bytes_eq y k.name.text) e)
  where
    later : (b : Bool) → (b || named_in y (map text_of (map declaration_word ds))) ≡ false → named_in y (map text_of (map declaration_word ds)) ≡ false
    later true h = absurd (false≢true (sym h))
    later false h = h
not_among y (declared_node n ∷ ds) e = each (bytes_eq y n.name.text) e (not_among y ds)
  where
    each : (b : Bool) → (b || named_in y (map text_of (map declaration_word ds))) ≡ false
        → (named_in y (map text_of (map declaration_word ds)) ≡ false → named_in y (names_of ds) ≡ false) → (b || named_in y (names_of ds)) ≡ false
    each true h r = absurd (false≢true (sym h))
    each false h r = r h
not_among y (declared_contract n ∷ ds) e = each (bytes_eq y n.name.text) e (not_among y ds)
  where
    each : (b : Bool) → (b || named_in y (map text_of (map declaration_word ds))) ≡ false
        → (named_in y (map text_of (map declaration_word ds)) ≡ false → named_in y (names_of ds) ≡ false) → (b || named_in y (names_of ds)) ≡ false
    each true h r = absurd (false≢true (sym h))
    each false h r = r h

names_distinct : (ds : Program) → AreDistinct (map text_of (map declaration_word ds)) → AreDistinct (names_of ds)
names_distinct [] d = tt
names_distinct (declared_constant k ∷ ds) d = names_distinct ds d.1
names_distinct (declared_node n ∷ ds) d = (not_among n.name.text ds d.0, names_distinct ds d.1)
names_distinct (declared_contract n ∷ ds) d = (not_among n.name.text ds d.0, names_distinct ds d.1)

pub declared_once : (p : Program) → IsChecked p → AreDistinct (names_of p)
declared_once p c = names_distinct p (none_twice name_twice (map declaration_word p) none)
  where
    none : words_twice name_twice (map declaration_word p) ≡ []
    none = (no_parts (words_twice name_twice (map declaration_word p)) (declaration_faults p 0 p)
        (no_parts _ (words_twice name_twice (map declaration_word p) ++ declaration_faults p 0 p) (empty_of (typing_faults p) c.rules.clocked.typed)).1).0

-- ---- as the code has them

module _ (p : Program) (c : IsChecked p) (words : List Name) (same : words ≡ names_of p) where
  pub table_there : (o : Option (List Name)) → MatchOption o (AreDistinct words → ⊥) (λ t. AreDistinct words × (t ≡ words)) → IsSome o
  table_there None h = absurd (h (subst AreDistinct (sym same) (declared_once p c)))
  table_there (Some t) h = refl

  pub table_names : (o : Option (List Name)) (t : List Name) → MatchOption o (AreDistinct words → ⊥) (λ t. AreDistinct words × (t ≡ words)) → o ≡ Some t
      → t ≡ names_of p
  table_names None t h e = absurd (none-some t e)
  table_names (Some s) t h e = sym (ap (λ o. unwrap_or o []) e) ∙ h.1 ∙ same

pub known_all : (p : Program) → IsChecked p → (names : List Name) (ns : List Component) (many : ℕ) (old known : List (Option Needs)) → names ≡ names_of p
    → ns ≡ components p → many ≡ length ns → old ≡ replicate many None → IsSettled names ns old known → AllKnown p known
known_all p c names ns many old known e f g h s =
    let a : IsSettled (names_of p) ns old known = subst (λ z. IsSettled z ns old known) e s in
    let b : IsSettled (names_of p) (components p) old known = subst (λ z. IsSettled (names_of p) z old known) f a in
    all_settled p c known (subst (λ z. IsSettled (names_of p) (components p) z known)
    (h ∙ ap (λ k. replicate k None) (g ∙ ap length f)) b)

-- all that a declaration calls is known
pub callees_known : (p : Program) → IsChecked p → (known : List (Option Needs)) → AllKnown p known → (j : ℕ) → j < length (components p)
    → all_known (names_of p) known (map called_of (all_sites (get_or (components p) j no_component))) ≡ true
callees_known p c known a j h = each_called (names_of p) known (all_sites at) (λ s i. a.all (number_of (names_of p) s.callee) (within s i))
  where
    at : Component
    at = get_or (components p) j no_component

    within : (s : Site) → Contains (all_sites at) s → number_of (names_of p) s.callee < length (components p)
    within s i =
        let r : Component → ℕ = (callees_lower p c.rules.clocked.typed).0 in
        let g : GoesLower p r at s = (callees_lower p c.rules.clocked.typed).1 at (Contains-get_or (components p) j no_component h) s i in
        let m : named_in s.callee (names_of p) ≡ true = subst (λ x. named_in x (names_of p) ≡ true) g.named
        (mentioned (components p) (callee_of p s) g.declared) in
        let n : number_of (names_of p) s.callee < length (names_of p) = number_below (names_of p) s.callee m in
        let e : length (names_of p) ≡ length (components p) = many_named (components p) in
        omega (arith, n, e)
