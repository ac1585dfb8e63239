-- What callers need, by the numbers of declarations.
use Rattle.std.proofs.Common.{◌≡◌, set, length-set, ℕ, zero, suc, ◌<◌, ◌≤◌, Bool, true, false, ◌||◌, cond, List, [], ◌∷◌, map, length, get_or, Option, Some, None, refl, sym, ap, ◌∙◌, subst, arith}
use Rattle.std.specs.Prelude.{Contains, min, unwrap_or}
use Rattle.std.proofs.lemmas.List.Elements.{Contains-get_or}
use Rattle.lus_streams.specs.declared.owner.Owner.{Owner}
use Rattle.lus_streams.specs.Owner.{owner_view}
use Rattle.std.proofs.lemmas.Bool.{true≢false, false≢true}
use Rattle.std.specs.Str.{bytes_eq}
use Rattle.lus_tree.specs.Tree.{Name, Expression, Variable, Component, Program, declared_constant, declared_node, declared_contract}
use Rattle.lus_meaning.specs.Depends.{named_in}
use Rattle.name_table.specs.Names.{number_of}
use Rattle.lus_limits.specs.declared.needs.Needs.{Needs}
use Rattle.lus_meaning.specs.Scene.{Manner, plain, while_true, as_import, Site, no_component}
use Rattle.lus_meaning.specs.ClockFaults.{components}
use Rattle.lus_limits.specs.declared.calls.Call.{Call}
use Rattle.lus_limits.specs.Calls.{Called, call_view, called_of, way_of}
use Rattle.lus_limits.specs.declared.summing.Link.{Link}
use Rattle.lus_limits.specs.Contracted.{summary_seen}
use Rattle.lus_limits.specs.Frames.{summary_by_items, ways_of}
use Rattle.lus_limits.specs.SizeCuts.{cut_summary}
use Rattle.lus_limits.specs.SizeSummaries.{SizeSummary, size_summary_of, summaries_at}
use Rattle.lus_limits.proofs.Frames.{summary_by_text}
use Rattle.lus_limits.proofs.SizeCuts.{size_summary_cuts}
use Rattle.lus_limits.proofs.SizeSummaries.{size_summary_by_text}
use Rattle.lus_limits.proofs.Sums.{summary_by_text as counts_by_text}
use Rattle.lus_limits.specs.Summaries.{cut, link_of, summary_by}
use Rattle.lus_meaning.specs.Program.{all_sites, component_named, first_of_two}
use Rattle.lus_meaning.specs.Refusals.{IsChecked}
use Rattle.lus_meaning.specs.Slots.{held_each, held_cells}
use Rattle.rule_laws.proofs.Truths.{both_true}
use Rattle.lus_limits.specs.Instances.{callee}
use Rattle.lus_limits.specs.Needed.{unknowns, IsStuckAt, IsTried, held_by, counts_or, sizes_or, IsNeeds, AreKnown, names_of, is_known, all_known, calls_known, link_at, sizes_at, AreNeedsBy}

-- a name that is not there has the number behind all
number_past : (ks : List Name) (x : Name) → named_in x ks ≡ false → number_of ks x ≡ length ks
number_past [] x e = refl
number_past (k ∷ ks) x e = by_case (bytes_eq x k) e (number_past ks x) where
  by_case : (b : Bool) → (b || named_in x ks) ≡ false → (named_in x ks ≡ false → number_of ks x ≡ length ks) →
      cond b 0 (suc (number_of ks x)) ≡ suc (length ks)
  by_case true h g = absurd (true≢false h)
  by_case false h g = ap suc (g h)

none_past : (os : List (Option Needs)) (k : ℕ) → length os ≤ k → is_known os k ≡ false
none_past [] k h = refl
none_past (o ∷ os) zero h = absurd (omega (arith, h))
none_past (o ∷ os) (suc k) h = none_past os k (omega (arith, h))

pub unnamed_unknown : (ks : List Name) (os : List (Option Needs)) (x : Name) → length os ≡ length ks → named_in x ks ≡ false
    → is_known os (number_of ks x) ≡ false
unnamed_unknown ks os x e h = none_past os (number_of ks x) (let g : number_of ks x ≡ length ks = number_past ks x h in omega (arith, e, g))

-- how calls run, as the code has them
pub ways_called : (cs : List Call) (ss : List Site) → map call_view cs ≡ map called_of ss → map (λ c. c.way) cs ≡ map (λ s. way_of s.manner) ss
ways_called cs ss e = ways_seen cs ∙ ap (map (λ c. c.way)) e ∙ ways_sited ss where
  ways_seen : (cs : List Call) → map (λ c. c.way) cs ≡ map (λ c. c.way) (map call_view cs)
  ways_seen [] = refl
  ways_seen (c ∷ cs) = ap (λ ws. c.way ∷ ws) (ways_seen cs)

  ways_sited : (ss : List Site) → map (λ c. c.way) (map called_of ss) ≡ map (λ s. way_of s.manner) ss
  ways_sited [] = refl
  ways_sited (s ∷ ss) = ap (λ ws. way_of s.manner ∷ ws) (ways_sited ss)

pub needs_linked : (names : List Name) (ns : List Component) (known : List (Option Needs)) (n : Component) (d : Needs) (cs : List Called) (ls : List Link)
    (zs : List SizeSummary) → cs ≡ map called_of (all_sites n) → all_known names known cs ≡ true → ls ≡ map (link_at names ns known) cs
    → zs ≡ map (sizes_at names known) cs → d.counts ≡ summary_by n ls → summary_seen d.sizes ≡ cut_summary (summary_by_items (ways_of n) zs n)
    → AreNeedsBy names ns known n d
needs_linked names ns known n d cs ls zs e a l z c s = record {
  all = ap (all_known names known) (sym e) ∙ a;
  counts = c ∙ ap (summary_by n) (l ∙ ap (map (link_at names ns known)) e);
  sizes = s ∙ ap (λ zs. cut_summary (summary_by_items (ways_of n) zs n)) (z ∙ ap (map (sizes_at names known)) e);
}

pub same_known : (names : List Name) (known : List (Option Needs)) (n : Component) (cs : List Called) → cs ≡ map called_of (all_sites n)
    → all_known names known cs ≡ false → calls_known names known n ≡ false
same_known names known n cs e a = ap (all_known names known) (sym e) ∙ a

-- ---- what is known of callees is theirs

-- the declaration with that number, and what is known of it
pub record IsAt (p : Program) (ns : List Component) (os : List (Option Needs)) (k : ℕ) (m : Component) (d : Needs) : Type 0 where
  pub component : get_or ns k no_component ≡ m
  pub needs : get_or os k None ≡ Some d
  pub right : IsNeeds p m d

pub at_number : (p : Program) (ns : List Component) (os : List (Option Needs)) (k : ℕ) → AreKnown p ns os → is_known os k ≡ true
    → (d : Needs) × IsAt p ns os k (get_or ns k no_component) d
at_number p [] [] k a e = absurd (false≢true e)
at_number p [] (o ∷ os) k a e = absurd a
at_number p (n ∷ ns) [] k a e = absurd a
at_number p (n ∷ ns) (None ∷ os) zero a e = absurd (false≢true e)
at_number p (n ∷ ns) (Some d ∷ os) zero a e = (d, record { component = refl; needs = refl; right = a.0 })
at_number p (n ∷ ns) (o ∷ os) (suc k) a e =
    let r : (d : Needs) × IsAt p ns os k (get_or ns k no_component) d = at_number p ns os k a.1 e in
    (r.0, record { component = refl; needs = r.1.needs; right = r.1.right })

-- a declaration is found by its number
found_one : (x : Name) (n : Component) (ns : List Component) (o : Option Component) (b : Bool) → (b || named_in x (map (λ n. n.name.text) ns)) ≡ true →
    (named_in x (map (λ n. n.name.text) ns) ≡ true → Some (get_or ns (number_of (map (λ n. n.name.text) ns) x) no_component) ≡ o) →
    Some (get_or (n ∷ ns) (cond b 0 (suc (number_of (map (λ n. n.name.text) ns) x))) no_component) ≡ first_of_two (cond b (Some n) None) o
found_one x n ns o true e r = refl
found_one x n ns o false e r = r e

pub found_at : (p : Program) (x : Name) → named_in x (names_of p) ≡ true → Some (get_or (components p) (number_of (names_of p) x) no_component)
    ≡ component_named p x
found_at [] x e = absurd (false≢true e)
found_at (declared_constant c ∷ ds) x e = found_at ds x e
found_at (declared_node n ∷ ds) x e = found_one x n (components ds) (component_named ds x) (bytes_eq x n.name.text) e (found_at ds x)
found_at (declared_contract n ∷ ds) x e = found_one x n (components ds) (component_named ds x) (bytes_eq x n.name.text) e (found_at ds x)

pub same_length : (p : Program) (ns : List Component) (os : List (Option Needs)) → AreKnown p ns os → length os ≡ length ns
same_length p [] [] a = refl
same_length p [] (o ∷ os) a = absurd a
same_length p (n ∷ ns) [] a = absurd a
same_length p (n ∷ ns) (o ∷ os) a = ap suc (same_length p ns os a.1)

pub many_named : (ns : List Component) → length (map (λ (n : Component). n.name.text) ns) ≡ length ns
many_named [] = refl
many_named (n ∷ ns) = ap suc (many_named ns)

-- what is known by the number of a name has that name
known_named : (p : Program) (os : List (Option Needs)) (x : Name) → AreKnown p (components p) os → is_known os (number_of (names_of p) x) ≡ true
    → named_in x (names_of p) ≡ true
known_named p os x a e = by_case (named_in x (names_of p)) refl where
  by_case : (b : Bool) → named_in x (names_of p) ≡ b → named_in x (names_of p) ≡ true
  by_case true h = h
  by_case false h =
      absurd (false≢true (sym (unnamed_unknown (names_of p) os x (same_length p (components p) os a ∙ sym (many_named (components p))) h) ∙ e))

-- the callee of a call of which the callee is known
callee_known : (p : Program) (os : List (Option Needs)) (s : Site) → AreKnown p (components p) os → is_known os (number_of (names_of p) s.callee) ≡ true
    → (d : Needs) × IsAt p (components p) os (number_of (names_of p) s.callee) (callee p s.callee) d
callee_known p os s a e =
    let k : ℕ = number_of (names_of p) s.callee in
    let r : (d : Needs) × IsAt p (components p) os k (get_or (components p) k no_component) d = at_number p (components p) os k a e in
    let m : get_or (components p) k no_component ≡ callee p s.callee =
    ap (λ o. unwrap_or o no_component) (found_at p s.callee (known_named p os s.callee a e)) in
    (r.0, subst (λ c. IsAt p (components p) os k c r.0) m r.1)

held_length : (s : Site) (vs : List Variable) (es : List Expression) → length (held_each s vs es) ≡ min (length es) (length vs)
held_length s [] [] = omega arith
held_length s [] (e ∷ es) = omega arith
held_length s (v ∷ vs) [] = omega arith
held_length s (v ∷ vs) (e ∷ es) = let r : length (held_each s vs es) ≡ min (length es) (length vs) = held_length s vs es in omega arith

held_is : (s : Site) (n : Component) (m : Manner) → held_by (way_of m) (length s.defaults) (length n.outputs) ≡ length (held_cells s n m)
held_is s n plain = refl
held_is s n (while_true a) = sym (held_length s n.outputs s.defaults)
held_is s n (as_import xs) = refl

same_link : (a b : Link) → a.way ≡ b.way → a.held ≡ b.held → a.callee ≡ b.callee → a ≡ b
same_link a b e f g = λ i. record { way = e i; held = f i; callee = g i }

link_is : (p : Program) (os : List (Option Needs)) (s : Site) → AreKnown p (components p) os → is_known os (number_of (names_of p) s.callee) ≡ true
    → link_at (names_of p) (components p) os (called_of s) ≡ link_of p s
link_is p os s a e =
    let r : (d : Needs) × IsAt p (components p) os (number_of (names_of p) s.callee) (callee p s.callee) d = callee_known p os s a e in
    same_link (link_at (names_of p) (components p) os (called_of s)) (link_of p s) refl
    (ap (λ n. cut (held_by (way_of s.manner) (length s.defaults) (length n.outputs))) r.1.component ∙ ap cut (held_is s (callee p s.callee) s.manner))
    (ap counts_or r.1.needs ∙ r.1.right.counts)

size_is : (p : Program) (os : List (Option Needs)) (s : Site) → AreKnown p (components p) os → is_known os (number_of (names_of p) s.callee) ≡ true
    → sizes_at (names_of p) os (called_of s) ≡ cut_summary (size_summary_of p (callee p s.callee))
size_is p os s a e =
    let r : (d : Needs) × IsAt p (components p) os (number_of (names_of p) s.callee) (callee p s.callee) d = callee_known p os s a e in
    ap sizes_or r.1.needs ∙ r.1.right.sizes

pub links_are : (p : Program) (os : List (Option Needs)) → AreKnown p (components p) os → (ss : List Site) → all_known (names_of p) os (map called_of ss) ≡ true
    → map (link_at (names_of p) (components p) os) (map called_of ss) ≡ map (link_of p) ss
links_are p os a [] e = refl
links_are p os a (s ∷ ss) e =
    let h : (is_known os (number_of (names_of p) s.callee) ≡ true) × (all_known (names_of p) os (map called_of ss) ≡ true) = both_true _ _ e in
    ap (λ l. l ∷ map (link_at (names_of p) (components p) os) (map called_of ss)) (link_is p os s a h.0)
    ∙ ap (λ ls. link_of p s ∷ ls) (links_are p os a ss h.1)

pub sizes_are : (p : Program) (os : List (Option Needs)) → AreKnown p (components p) os → (ss : List Site) → all_known (names_of p) os (map called_of ss) ≡ true
    → map (sizes_at (names_of p) os) (map called_of ss) ≡ map cut_summary (summaries_at p ss)
sizes_are p os a [] e = refl
sizes_are p os a (s ∷ ss) e =
    let h : (is_known os (number_of (names_of p) s.callee) ≡ true) × (all_known (names_of p) os (map called_of ss) ≡ true) = both_true _ _ e in
    ap (λ z. z ∷ map (sizes_at (names_of p) os) (map called_of ss)) (size_is p os s a h.0)
    ∙ ap (λ zs. cut_summary (size_summary_of p (callee p s.callee)) ∷ zs) (sizes_are p os a ss h.1)

pub many_mapped : {A B : Type 0} (f : A → B) (xs : List A) → length (map f xs) ≡ length xs
many_mapped f [] = refl
many_mapped f (x ∷ xs) = ap suc (many_mapped f xs)

-- needs by those of what is called are the declaration's
pub needs_right : (p : Program) → IsChecked p → (n : Component) → Contains (components p) n → (os : List (Option Needs)) → AreKnown p (components p) os
    → (d : Needs) → AreNeedsBy (names_of p) (components p) os n d → IsNeeds p n d
needs_right p c n i os a d r =
    let ss : List Site = all_sites n in
    let zs : List SizeSummary = map cut_summary (summaries_at p ss) in
    let m : length zs ≡ length ss = many_mapped cut_summary (summaries_at p ss) ∙ many_mapped (λ s. size_summary_of p (callee p s.callee)) ss in
    record {
      counts = r.counts ∙ ap (summary_by n) (links_are p os a ss r.all) ∙ counts_by_text p c n i;
      sizes =
          r.sizes ∙ ap (λ zs. cut_summary (summary_by_items (ways_of n) zs n)) (sizes_are p os a ss r.all)
          ∙ ap cut_summary (sym (summary_by_text p c n i zs m))
          ∙ sym (size_summary_cuts n (summaries_at p ss))
          ∙ ap cut_summary (sym (size_summary_by_text p c n i));
    }

-- ---- one declaration more

set_known : (p : Program) (ns : List Component) (os : List (Option Needs)) (k : ℕ) (d : Needs) → k < length ns → AreKnown p ns os
    → IsNeeds p (get_or ns k no_component) d → AreKnown p ns (set os k (Some d))
set_known p [] os k d h a r = absurd (omega (arith, h))
set_known p (n ∷ ns) [] k d h a r = absurd a
set_known p (n ∷ ns) (o ∷ os) zero d h a r = (r, a.1)
set_known p (n ∷ ns) (o ∷ os) (suc k) d h a r = (a.0, set_known p ns os k d (omega (arith, h)) a.1 r)

fewer : (os : List (Option Needs)) (k : ℕ) (d : Needs) → k < length os → is_known os k ≡ false → unknowns (set os k (Some d)) < unknowns os
fewer [] k d h e = absurd (omega (arith, h))
fewer (None ∷ os) zero d h e = omega arith
fewer (Some c ∷ os) zero d h e = absurd (false≢true (sym e))
fewer (None ∷ os) (suc k) d h e = let r : unknowns (set os k (Some d)) < unknowns os = fewer os k d (omega (arith, h)) e in omega (arith, r)
fewer (Some c ∷ os) (suc k) d h e = fewer os k d (omega (arith, h)) e

pub among : (ns : List Component) (k : ℕ) → k < length ns → Contains ns (get_or ns k no_component)
among ns k h = Contains-get_or ns k no_component h

pub one_more : (names : List Name) (ns : List Component) (os : List (Option Needs)) (k : ℕ) (d : Needs) → k < length ns → length os ≡ length names
    → length ns ≡ length names → is_known os k ≡ false → AreNeedsBy names ns os (get_or ns k no_component) d
    → IsTried names ns os (set os k (Some d)) k true
one_more names ns os k d h e f u r = record {
  kept = λ p c g q a.
      set_known p ns os k d h a
      (subst (λ z. IsNeeds p (get_or z k no_component) d) (sym q)
      (needs_right p c (get_or (components p) k no_component) (among (components p) k (subst (λ z. k < length z) q h)) os
      (subst (λ z. AreKnown p z os) q a) d
      (subst (λ z. AreNeedsBy (names_of p) z os (get_or z k no_component) d) q (subst (λ y. AreNeedsBy y ns os (get_or ns k no_component) d) g r))));
  many = length-set os k (Some d);
  added = λ _. fewer os k d (omega (arith, h, e, f)) u;
  stays = λ b. absurd (false≢true (sym b));
}

pub none_more : (names : List Name) (ns : List Component) (os : List (Option Needs)) (k : ℕ) → IsStuckAt names ns os k → IsTried names ns os os k false
none_more names ns os k s = record {
  kept = λ p c g q a. a;
  many = refl;
  added = λ b. absurd (false≢true b);
  stays = λ b. (refl, s);
}

-- as the code has it
pub mapped_at : (ps : List Owner) (k : ℕ) (o : Owner) → k < length ps → o ≡ get_or ps k o → get_or (map owner_view ps) k no_component ≡ owner_view o
mapped_at [] k o h e = absurd (omega (arith, h))
mapped_at (p ∷ ps) zero o h e = ap owner_view (sym e)
mapped_at (p ∷ ps) (suc k) o h e = mapped_at ps k o (omega (arith, h)) e

pub tried_more : (names : List Name) (ps : List Owner) (os : List (Option Needs)) (k : ℕ) (o : Owner) (d : Needs) (b : Bool) → k < length ps → o ≡ get_or ps k o
    → length os ≡ length names → length ps ≡ length names → b ≡ is_known os k → b ≡ false → AreNeedsBy names (map owner_view ps) os (owner_view o) d
    → IsTried names (map owner_view ps) os (set os k (Some d)) k true
tried_more names ps os k o d b h e f g s t r =
    let m : length (map owner_view ps) ≡ length ps = many_mapped owner_view ps in
    one_more names (map owner_view ps) os k d (omega (arith, h, m)) f (m ∙ g) (sym s ∙ t)
    (subst (λ n. AreNeedsBy names (map owner_view ps) os n d) (sym (mapped_at ps k o h e)) r)

pub tried_none : (names : List Name) (ps : List Owner) (os : List (Option Needs)) (k : ℕ) (o : Owner) → k < length ps → o ≡ get_or ps k o
    → calls_known names os (owner_view o) ≡ false → IsTried names (map owner_view ps) os os k false
tried_none names ps os k o h e s = none_more names (map owner_view ps) os k (λ _. ap (calls_known names os) (mapped_at ps k o h e) ∙ s)

pub tried_known : (names : List Name) (ns : List Component) (os : List (Option Needs)) (k : ℕ) (b : Bool) → b ≡ is_known os k → b ≡ true
    → IsTried names ns os os k false
tried_known names ns os k b e t = none_more names ns os k (λ u. absurd (false≢true (sym u ∙ sym e ∙ t)))
