-- Which names assumptions may not read.
use Rattle.std.proofs.Common.{◌≡◌, ℕ, zero, suc, ◌<◌, ◌≤◌, Bool, true, false, cond, not, ◌&&◌, ◌||◌, List, [], ◌∷◌, ◌++◌, length, get_or, set, map, flat_map, refl, ap, ◌∙◌, sym, subst, arith, Option}
use Rattle.std.specs.List.{AllByRecursion, list_all, list_any}
use Rattle.std.specs.Str.{bytes_eq}
use Rattle.std.proofs.Math.Logic.{◌⊎◌, inl, inr}
use Rattle.std.proofs.lemmas.Bool.{true≢false, false≢true, cases_Bool}
use Rattle.std.proofs.lemmas.List.{get_or-set_same, length-set}
use Rattle.lus_tree.specs.Tree.{Name, text_of, Spelled, Expression, Expressions, truth, number, name, negation, minus, pre, arrow, binary, choice, sampled, merged, call, condact, mode_name, no_more, more, ContractStatement, assume, guarantee, ghost_variable, constant, mode, «import», Component, Variable}
use Rattle.lus_tree.specs.Reason.{Refused, assume_reads_output}
use Rattle.lus_meaning.specs.Depends.{named_in}
use Rattle.lus_meaning.specs.Faults.{if_so}
use Rattle.lus_meaning.specs.Scene.{base, clock_of, contract_statements, sampled_by}
use Rattle.lus_meaning.specs.Occurrences.{Occurrence, Standing, before, moved, occurrences, occurrences_among, on_clock, within}
use Rattle.lus_meaning.specs.Scope.{Scope, holds_of, is_ghost_role}
use Rattle.lus_meaning.specs.NameFaults.{assumption_faults, ghost_reading, given_now, names_now, new_among, read_now, restricted}
use Rattle.lus_meaning.proofs.Unique.{same_bytes}
use Rattle.name_table.specs.Names.{add, number_of}
use Rattle.name_table.proofs.Names.{itself}
use Rattle.name_table.proofs.Numbers.{name_of_number, number_below}
use Rattle.lus_types.specs.Called.{link_of}
use Rattle.lus_types.specs.Given.{IsGiven, output_names}
use Rattle.lus_scopes.specs.Least.{IsLeast, noted_all}
use Rattle.lus_scopes.proofs.Leasts.{least_noted_all}
use Rattle.lus_types.specs.Marks.{Link, has_open, is_backed, is_free, is_marked, is_open, leads_on}
use Rattle.lus_types.specs.Reads.{Reading, added, ghost_readings, is_given, names_read, read_among, read_faults, read_in, reading_row, seeded}
use Rattle.lus_types.proofs.Occurring.{split}
use Rattle.lus_types.proofs.CircleFaults.{add_has, add_keeps, and_parts, either_end, free_false, or_false, or_left, or_right}
use Rattle.lus_types.proofs.Grown.{AllOf, all_grown, closed_after, grown, starts_grown}
use Rattle.lus_types.proofs.Reached.{IsBack}
use Rattle.lus_types.proofs.Spread.{newly_marked, still_marked}

-- ---- the names that an expression reads now

abbrev read : Occurrence → List Spelled
read o = read_now o.standing o.expression

absorbed : (x : Spelled) (b : Bool) (ws : List Spelled) → b ≡ true → ws ≡ [] → (cond b [] (x ∷ []) ++ ws) ≡ []
absorbed x true ws e h = h
absorbed x false ws e h = absurd (false≢true e)

kept_word : (x : Spelled) (b : Bool) (ws vs : List Spelled) → b ≡ false → ws ≡ vs → (cond b [] (x ∷ []) ++ ws) ≡ x ∷ vs
kept_word x true ws vs e h = absurd (true≢false e)
kept_word x false ws vs e h = ap (λ us. x ∷ us) h

abbrev mutual
  none_read : (n : Component) (s : Standing) (e : Expression) → s.under_pre ≡ true → flat_map read (occurrences n s e) ≡ []
  none_read n s (truth p b) u = refl
  none_read n s (number p k) u = refl
  none_read n s (name p x) u = rw u refl
  none_read n s (negation p a) u = none_read n (within s) a u
  none_read n s (minus p a) u = none_read n (within s) a u
  none_read n s (pre p k a) u = none_read n (before s) a refl
  none_read n s (arrow p k a b) u = split read (occurrences n (within s) a) _ ∙ (rw (none_read n (within s) a u) (none_read n (within s) b u))
  none_read n s (binary p o a b) u = split read (occurrences n (within s) a) _ ∙ (rw (none_read n (within s) a u) (none_read n (within s) b u))
  none_read n s (choice p a b d) u = split read (occurrences n (within s) a) _
      ∙ (rw (none_read n (within s) a u, split read (occurrences n (within s) b) (occurrences n (within s) d), none_read n (within s) b u)
      (none_read n (within s) d u))
  none_read n s (sampled p a b x) u = split read (occurrences n (moved (clock_of n x.text) s) a) _
      ∙ (rw (none_read n (moved (clock_of n x.text) s) a u, u) refl)
  none_read n s (merged p x a b) u = absorbed x s.under_pre _ u (split read (occurrences n (moved (sampled_by true x.text) s) a) _
      ∙ (rw (none_read n (moved (sampled_by true x.text) s) a u) (none_read n (moved (sampled_by false x.text) s) b u)))
  none_read n s (call p k f as_) u = none_among n (within s) as_ u
  none_read n s (condact p k a f as_ ds) u = split read (occurrences n (within s) a) _
      ∙ (rw (none_read n (within s) a u, split read (occurrences_among n (within s) as_) (occurrences_among n (within s) ds), none_among n (within s) as_ u)
      (none_among n (within s) ds u))
  none_read n s (mode_name p d m) u = refl

  none_among : (n : Component) (s : Standing) (es : Expressions) → s.under_pre ≡ true → flat_map read (occurrences_among n s es) ≡ []
  none_among n s no_more u = refl
  none_among n s (more a as_) u = split read (occurrences n s a) (occurrences_among n s as_) ∙ (rw (none_read n s a u) (none_among n s as_ u))

abbrev mutual
  read_is : (n : Component) (s : Standing) (e : Expression) → s.under_pre ≡ false → flat_map read (occurrences n s e) ≡ read_in e
  read_is n s (truth p b) u = refl
  read_is n s (number p k) u = refl
  read_is n s (name p x) u = rw u refl
  read_is n s (negation p a) u = read_is n (within s) a u
  read_is n s (minus p a) u = read_is n (within s) a u
  read_is n s (pre p k a) u = none_read n (before s) a refl
  read_is n s (arrow p k a b) u = split read (occurrences n (within s) a) _ ∙ (rw (read_is n (within s) a u, read_is n (within s) b u) refl)
  read_is n s (binary p o a b) u = split read (occurrences n (within s) a) _ ∙ (rw (read_is n (within s) a u, read_is n (within s) b u) refl)
  read_is n s (choice p a b d) u = split read (occurrences n (within s) a) _
      ∙ (rw (
        read_is n (within s) a u,
        split read (occurrences n (within s) b) (occurrences n (within s) d),
        read_is n (within s) b u,
        read_is n
            (within s) d u,
      ) refl)
  read_is n s (sampled p a b x) u = split read (occurrences n (moved (clock_of n x.text) s) a) _
      ∙ (rw (read_is n (moved (clock_of n x.text) s) a u, u) refl)
  read_is n s (merged p x a b) u = kept_word x s.under_pre _ (read_in a ++ read_in b) u (split read (occurrences n (moved (sampled_by true x.text) s) a) _
      ∙ (rw (read_is n (moved (sampled_by true x.text) s) a u, read_is n (moved (sampled_by false x.text) s) b u) refl))
  read_is n s (call p k f as_) u = among_is n (within s) as_ u
  read_is n s (condact p k a f as_ ds) u = split read (occurrences n (within s) a) _
      ∙ (rw (
        read_is n (within s) a u,
        split read (occurrences_among n (within s) as_) (occurrences_among n (within s) ds),
        among_is n
            (within s) as_ u,
        among_is n (within s) ds u,
      ) refl)
  read_is n s (mode_name p d m) u = refl

  among_is : (n : Component) (s : Standing) (es : Expressions) → s.under_pre ≡ false → flat_map read (occurrences_among n s es) ≡ read_among es
  among_is n s no_more u = refl
  among_is n s (more a as_) u = split read (occurrences n s a) (occurrences_among n s as_) ∙ (rw (read_is n s a u, among_is n s as_ u) refl)

now_is : (n : Component) (e : Expression) → names_now n e ≡ read_in e
now_is n e = read_is n (on_clock base) e refl

each_now : (n : Component) (es : List Expression) → flat_map (names_now n) es ≡ flat_map read_in es
each_now n [] = refl
each_now n (e ∷ es) = rw (now_is n e, each_now n es) refl

all_now : (n : Component) (cs : List ContractStatement) → flat_map (names_now n) (flat_map restricted cs) ≡ flat_map (λ c. flat_map read_in (restricted c)) cs
all_now n [] = refl
all_now n (c ∷ cs) = split (names_now n) (restricted c) (flat_map restricted cs) ∙ (rw (each_now n (restricted c), all_now n cs) refl)

-- ---- ghost variables that read some of these

abbrev graph : List Reading → List (Name × List Name)
graph rs = map (λ r. (r.0, map text_of r.1)) rs

abbrev giving : List Reading → List Name → List Name
giving rs xs = flat_map (λ r. cond (list_any (λ w. named_in w.text xs) r.1) (r.0 ∷ []) []) rs

giving_is : (s : Scope) (xs : List Name) (cs : List ContractStatement) → flat_map (ghost_reading s xs) cs ≡ giving (flat_map (ghost_readings s) cs) xs
giving_is s xs [] = refl
giving_is s xs (assume l ∷ cs) = giving_is s xs cs
giving_is s xs (guarantee l ∷ cs) = giving_is s xs cs
giving_is s xs (constant c ∷ cs) = giving_is s xs cs
giving_is s xs (mode m rs es ∷ cs) = giving_is s xs cs
giving_is s xs («import» k c as_ ws ∷ cs) = giving_is s xs cs
giving_is s xs (ghost_variable v e ∷ cs) = rw (now_is s.owner e) (go (holds_of (λ e. is_ghost_role e.role) s v.name.text) (giving_is s xs cs))
  where
    go : (b : Bool) → flat_map (ghost_reading s xs) cs ≡ giving (flat_map (ghost_readings s) cs) xs
        → (cond (b && list_any (λ w. named_in w.text xs) (read_in e)) (v.name.text ∷ []) [] ++ flat_map (ghost_reading s xs) cs)
        ≡ giving (cond b ((v.name.text, read_in e) ∷ []) [] ++ flat_map (ghost_readings s) cs) xs
    go true r = ap (λ zs. cond (list_any (λ w. named_in w.text xs) (read_in e)) (v.name.text ∷ []) [] ++ zs) r
    go false r = r

-- the last step first
last_first : (next : List Name → List Name) (k : ℕ) (xs : List Name) → grown next k (xs ++ new_among xs (next xs))
    ≡ grown next k xs ++ new_among (grown next k xs) (next (grown next k xs))
last_first next zero xs = refl
last_first next (suc k) xs = last_first next k (xs ++ new_among xs (next xs))

module _ (s : Scope) where
  abbrev readings : List Reading
  readings = flat_map (ghost_readings s) (contract_statements s.owner)

  given_grown : (k : ℕ) → given_now k s ≡ grown (giving readings) k (output_names s.owner.outputs)
  given_grown zero = refl
  given_grown (suc k) = ap (λ xs. xs ++ new_among xs (flat_map (ghost_reading s xs) (contract_statements s.owner))) (given_grown k)
      ∙ (ap (λ zs. grown (giving readings) k (output_names s.owner.outputs) ++ new_among (grown (giving readings) k (output_names s.owner.outputs)) zs)
      (giving_is s (grown (giving readings) k (output_names s.owner.outputs)) (contract_statements s.owner))
      ∙ sym (last_first (giving readings) k (output_names s.owner.outputs)))

few_readings : (s : Scope) (cs : List ContractStatement) → length (names_read (flat_map (ghost_readings s) cs)) ≤ length cs
few_readings s [] = omega arith
few_readings s (assume l ∷ cs) = let h : length (names_read (flat_map (ghost_readings s) cs)) ≤ length cs = few_readings s cs in omega (arith, h)
few_readings s (guarantee l ∷ cs) = let h : length (names_read (flat_map (ghost_readings s) cs)) ≤ length cs = few_readings s cs in omega (arith, h)
few_readings s (constant c ∷ cs) = let h : length (names_read (flat_map (ghost_readings s) cs)) ≤ length cs = few_readings s cs in omega (arith, h)
few_readings s (mode m rs es ∷ cs) = let h : length (names_read (flat_map (ghost_readings s) cs)) ≤ length cs = few_readings s cs in omega (arith, h)
few_readings s («import» k c as_ ws ∷ cs) = let h : length (names_read (flat_map (ghost_readings s) cs)) ≤ length cs = few_readings s cs in omega (arith, h)
few_readings s (ghost_variable v e ∷ cs) = go (holds_of (λ e. is_ghost_role e.role) s v.name.text) (few_readings s cs)
  where
    go : (b : Bool) → length (names_read (flat_map (ghost_readings s) cs)) ≤ length cs
        → length (names_read (cond b ((v.name.text, read_in e) ∷ []) [] ++ flat_map (ghost_readings s) cs)) ≤ suc (length cs)
    go true h = omega (arith, h)
    go false h = omega (arith, h)

-- ---- the table

added_keeps : (t xs : List Name) (x : Name) → named_in x t ≡ true → named_in x (added t xs) ≡ true
added_keeps t [] x e = e
added_keeps t (y ∷ ys) x e = added_keeps (add t y) ys x (add_keeps t x y e)

added_has : (t xs : List Name) (x : Name) → named_in x xs ≡ true → named_in x (added t xs) ≡ true
added_has t [] x e = absurd (false≢true e)
added_has t (y ∷ ys) x e = go (cases_Bool (bytes_eq x y)) (added_has (add t y) ys x)
  where
    go : (bytes_eq x y ≡ true) ⊎ (bytes_eq x y ≡ false) → (named_in x ys ≡ true → named_in x (added (add t y) ys) ≡ true) → named_in x (added (add t y) ys)
        ≡ true
    go (inl q) r = added_keeps (add t y) ys x (subst (λ z. named_in z (add t y) ≡ true) (sym (same_bytes x y q)) (add_has t y))
    go (inr f) r = r (rw f at e)

rows_named : (t : List Name) (rs : List Reading) → ((x : Name) → named_in x (names_read rs) ≡ true → named_in x t ≡ true)
    → AllByRecursion (λ r. named_in r.0 t ≡ true) rs
rows_named t [] h = tt
rows_named t (r ∷ rs) h = (
  h r.0 (or_left (bytes_eq r.0 r.0) (named_in r.0 (names_read rs)) (itself r.0)),
  rows_named t rs (λ x e. h x (or_right (bytes_eq x r.0) (named_in x (names_read rs)) e)),
)

-- ---- what is marked at first

seeded_keeps : (t : List Name) (ms : List Bool) (xs : List Name) (j : ℕ) → is_marked ms j ≡ true → is_marked (seeded t ms xs) j ≡ true
seeded_keeps t ms [] j e = e
seeded_keeps t ms (x ∷ xs) j e = seeded_keeps t (set ms (number_of t x) true) xs j (still_marked ms (number_of t x) j e)

seeded_has : (t : List Name) (ms : List Bool) (xs : List Name) (x : Name) → number_of t x < length ms → named_in x xs ≡ true
    → is_marked (seeded t ms xs) (number_of t x) ≡ true
seeded_has t ms [] x l e = absurd (false≢true e)
seeded_has t ms (y ∷ ys) x l e = go (cases_Bool (bytes_eq x y))
    (seeded_has t (set ms (number_of t y) true) ys x (rw (length-set ms (number_of t y) true) l))
  where
    go : (bytes_eq x y ≡ true) ⊎ (bytes_eq x y ≡ false) → (named_in x ys ≡ true → is_marked (seeded t (set ms (number_of t y) true) ys) (number_of t x) ≡ true)
        → is_marked (seeded t (set ms (number_of t y) true) ys) (number_of t x) ≡ true
    go (inl q) r = seeded_keeps t (set ms (number_of t y) true) ys (number_of t x)
        (subst (λ z. is_marked (set ms (number_of t z) true) (number_of t x) ≡ true) (same_bytes x y q) (get_or-set_same ms (number_of t x) true false l))
    go (inr f) r = r (rw f at e)

seeded_only : (t : List Name) (other : Name → Bool) (ms : List Bool) (xs : List Name) → ((x : Name) → named_in x xs ≡ true → named_in x t ≡ true)
    → ((x : Name) → named_in x xs ≡ true → other x ≡ true) → ((j : ℕ) → is_marked ms j ≡ true → other (get_or t j []) ≡ true)
    → (j : ℕ) → is_marked (seeded t ms xs) j ≡ true → other (get_or t j []) ≡ true
seeded_only t other ms [] n o h = h
seeded_only t other ms (x ∷ xs) n o h = seeded_only t other (set ms (number_of t x) true) xs
    (λ y e. n y (or_right (bytes_eq y x) (named_in y xs) e)) (λ y e. o y (or_right (bytes_eq y x) (named_in y xs) e))
    (λ j e. new j (newly_marked ms (number_of t x) j e))
  where
    here : named_in x (x ∷ xs) ≡ true
    here = or_left (bytes_eq x x) (named_in x xs) (itself x)

    new : (j : ℕ) → (j ≡ number_of t x) ⊎ (is_marked ms j ≡ true) → other (get_or t j []) ≡ true
    new j (inl e) = rw (e, name_of_number t x (n x here)) (o x here)
    new j (inr m) = h j m

-- ---- the least test that outputs pass and that goes back

module _ (outs : List Name) (rs : List Reading) (t : List Name) (marks : List Bool) (given : IsGiven outs rs t marks) where
  outs_in : (x : Name) → named_in x outs ≡ true → named_in x t ≡ true
  outs_in x e = rw given.names (added_keeps (added [] outs) (names_read rs) x (added_has [] outs x e))

  rows_in : AllByRecursion (λ r. named_in r.0 t ≡ true) rs
  rows_in = rows_named t rs (λ x e. rw given.names (added_has (added [] outs) (names_read rs) x e))

  marks_length : length marks ≡ length t
  marks_length = given.spread.length ∙ (long (given.start) outs ∙ given.length)
    where
      long : (ms : List Bool) (xs : List Name) → length (seeded t ms xs) ≡ length ms
      long ms [] = refl
      long ms (x ∷ xs) = long (set ms (number_of t x) true) xs ∙ length-set ms (number_of t x) true

  outs_given : AllOf (is_given t marks) outs
  outs_given x e = rw (outs_in x e) (given.spread.kept (number_of t x)
      (seeded_has t given.start outs x (rw given.length (number_below t x (outs_in x e))) e))

  leads_by : (ws : List Spelled) (y : Name) → named_in y (map text_of ws) ≡ true → is_given t marks y ≡ true
      → leads_on (is_marked marks) (flat_map (link_of t) ws) ≡ true
  leads_by [] y e g = absurd (false≢true e)
  leads_by (w ∷ ws) y e g = go (cases_Bool (bytes_eq y w.text)) (leads_by ws y)
    where
      first : (b : Bool) (ls : List Link) → b ≡ true → is_marked marks (number_of t w.text) ≡ true
          → leads_on (is_marked marks) (cond b ((number_of t w.text, w.at) ∷ []) [] ++ ls) ≡ true
      first true ls e m = rw m refl
      first false ls e m = absurd (false≢true e)

      behind : (b : Bool) (ls : List Link) → leads_on (is_marked marks) ls ≡ true
          → leads_on (is_marked marks) (cond b ((number_of t w.text, w.at) ∷ []) [] ++ ls) ≡ true
      behind true ls e = or_right (is_marked marks (number_of t w.text)) (leads_on (is_marked marks) ls) e
      behind false ls e = e

      go : (bytes_eq y w.text ≡ true) ⊎ (bytes_eq y w.text ≡ false)
          → (named_in y (map text_of ws) ≡ true → is_given t marks y ≡ true → leads_on (is_marked marks) (flat_map (link_of t) ws) ≡ true)
          → leads_on (is_marked marks) (link_of t w ++ flat_map (link_of t) ws) ≡ true
      go (inl q) r =
          let h : (named_in w.text t ≡ true) × (is_marked marks (number_of t w.text) ≡ true) =
          and_parts (named_in w.text t) (is_marked marks (number_of t w.text)) (subst (λ z. is_given t marks z ≡ true) (same_bytes y w.text q) g) in
          first (named_in w.text t) (flat_map (link_of t) ws) h.0 h.1
      go (inr f) r = behind (named_in w.text t) (flat_map (link_of t) ws) (r (rw f at e) g)

  each_back : (qs : List Reading) → AllByRecursion (λ r. named_in r.0 t ≡ true) qs → has_open marks (map (reading_row t) qs) ≡ false
      → AllByRecursion (IsBack (is_given t marks)) (graph qs)
  each_back [] a o = tt
  each_back (r ∷ qs) a o =
      let h : (is_open marks (reading_row t r) ≡ false) × (has_open marks (map (reading_row t) qs) ≡ false) =
      or_false (is_open marks (reading_row t r)) (has_open marks (map (reading_row t) qs)) o in (
        λ y e g. rw a.0 (either_end marks (number_of t r.0) (rw marks_length (number_below t r.0 a.0))
            (free_false (is_free marks (number_of t r.0)) (leads_on (is_marked marks) (flat_map (link_of t) r.1)) h.0 (leads_by r.1 y e g))),
        each_back qs a.1 h.1,
      )

  module _ (other : Name → Bool) (starts : (x : Name) → named_in x outs ≡ true → other x ≡ true) where
    abbrev by_number : ℕ → Bool
    by_number j = other (get_or t j [])

    no_link : (ws : List Spelled) → ((y : Name) → named_in y (map text_of ws) ≡ true → other y ≡ false) → leads_on by_number (flat_map (link_of t) ws) ≡ false
    no_link [] h = refl
    no_link (w ∷ ws) h = go (cases_Bool (named_in w.text t)) (no_link ws (λ y e. h y (or_right (bytes_eq y w.text) (named_in y (map text_of ws)) e)))
      where
        go : (named_in w.text t ≡ true) ⊎ (named_in w.text t ≡ false) → leads_on by_number (flat_map (link_of t) ws) ≡ false
            → leads_on by_number (cond (named_in w.text t) ((number_of t w.text, w.at) ∷ []) [] ++ flat_map (link_of t) ws) ≡ false
        go (inl e) r =
            let f : other w.text ≡ false = h w.text (or_left (bytes_eq w.text w.text) (named_in w.text (map text_of ws)) (itself w.text)) in
            rw (e, name_of_number t w.text e, f) r
        go (inr e) r = rw e r

    backed_if : (a b : Bool) → (a ≡ false → b ≡ false) → (a || not b) ≡ true
    backed_if true b h = refl
    backed_if false b h = rw (h refl) refl

    not_so : (r : Reading) → IsBack other (r.0, map text_of r.1) → other r.0 ≡ false → (y : Name) → named_in y (map text_of r.1) ≡ true → other y ≡ false
    not_so r b f y e = go (cases_Bool (other y))
      where
        go : (other y ≡ true) ⊎ (other y ≡ false) → other y ≡ false
        go (inl t) = absurd (true≢false (sym (b y e t) ∙ f))
        go (inr g) = g

    all_backed : (qs : List Reading) → AllByRecursion (λ r. named_in r.0 t ≡ true) qs → AllByRecursion (IsBack other) (graph qs)
        → list_all (is_backed by_number) (map (reading_row t) qs) ≡ true
    all_backed [] a b = refl
    all_backed (r ∷ qs) a b =
        let one : is_backed by_number (reading_row t r) ≡ true = rw (name_of_number t r.0 a.0)
        (backed_if (other r.0) (leads_on by_number (flat_map (link_of t) r.1)) (λ f. no_link r.1 (not_so r b.0 f))) in
        rw one (all_backed qs a.1 b.1)

    passes : AllByRecursion (IsBack other) (graph rs) → (x : Name) → is_given t marks x ≡ true → other x ≡ true
    passes b x g =
        let parts : (named_in x t ≡ true) × (is_marked marks (number_of t x) ≡ true) = and_parts (named_in x t) (is_marked marks (number_of t x)) g in
        subst (λ z. other z ≡ true) (name_of_number t x parts.0)
        (given.spread.sound by_number (all_backed rs rows_in b)
        (seeded_only t other given.start outs outs_in starts (λ j m. absurd (true≢false (sym m ∙ given.none j)))) (number_of t x) parts.1)

  -- ---- what is given by steps

  in_giving : (qs : List Reading) (xs : List Name) (z : Name) → named_in z (giving qs xs) ≡ true → named_in z (names_read qs) ≡ true
  in_giving [] xs z e = absurd (false≢true e)
  in_giving (r ∷ qs) xs z e = go (list_any (λ w. named_in w.text xs) r.1) e (in_giving qs xs z)
    where
      either : (a b c : Bool) → (b ≡ true → c ≡ true) → (a || b) ≡ true → (a || c) ≡ true
      either true b c h e = refl
      either false b c h e = h e

      go : (b : Bool) → named_in z (cond b (r.0 ∷ []) [] ++ giving qs xs) ≡ true → (named_in z (giving qs xs) ≡ true → named_in z (names_read qs) ≡ true)
          → (bytes_eq z r.0 || named_in z (names_read qs)) ≡ true
      go true e h = either (bytes_eq z r.0) (named_in z (giving qs xs)) (named_in z (names_read qs)) h e
      go false e h = or_right (bytes_eq z r.0) (named_in z (names_read qs)) (h e)

  some_named : (ws : List Spelled) (xs : List Name) → list_any (λ w. named_in w.text xs) ws ≡ true → (y : Name) × (named_in y (map text_of ws) ≡ true)
      × (named_in y xs ≡ true)
  some_named [] xs e = absurd (false≢true e)
  some_named (w ∷ ws) xs e = go (cases_Bool (named_in w.text xs)) (some_named ws xs)
    where
      Found : Type 0
      Found = (y : Name) × (named_in y (map text_of (w ∷ ws)) ≡ true) × (named_in y xs ≡ true)

      go : (named_in w.text xs ≡ true) ⊎ (named_in w.text xs ≡ false)
          → (list_any (λ w. named_in w.text xs) ws ≡ true → (y : Name) × (named_in y (map text_of ws) ≡ true) × (named_in y xs ≡ true))
          → (y : Name) × (named_in y (map text_of (w ∷ ws)) ≡ true) × (named_in y xs ≡ true)
      go (inl i) r = (w.text, or_left (bytes_eq w.text w.text) (named_in w.text (map text_of ws)) (itself w.text), i)
      go (inr f) r = let h = r (rw f at e) in (h.0, or_right (bytes_eq h.0 w.text) (named_in h.0 (map text_of ws)) h.1, h.2)

  some_of : (ws : List Spelled) (xs : List Name) (y : Name) → named_in y (map text_of ws) ≡ true → named_in y xs ≡ true
      → list_any (λ w. named_in w.text xs) ws ≡ true
  some_of [] xs y e i = absurd (false≢true e)
  some_of (w ∷ ws) xs y e i = go (cases_Bool (bytes_eq y w.text)) (some_of ws xs y)
    where
      go : (bytes_eq y w.text ≡ true) ⊎ (bytes_eq y w.text ≡ false)
          → (named_in y (map text_of ws) ≡ true → named_in y xs ≡ true → list_any (λ w. named_in w.text xs) ws ≡ true)
          → (named_in w.text xs || list_any (λ w. named_in w.text xs) ws) ≡ true
      go (inl q) r = or_left (named_in w.text xs) (list_any (λ w. named_in w.text xs) ws) (subst (λ z. named_in z xs ≡ true) (same_bytes y w.text q) i)
      go (inr f) r = or_right (named_in w.text xs) (list_any (λ w. named_in w.text xs) ws) (r (rw f at e) i)

  -- a test that goes back passes what is given by names that pass
  giving_passes : (test : Name → Bool) (qs : List Reading) → AllByRecursion (IsBack test) (graph qs) → (xs : List Name) → AllOf test xs
      → AllOf test (giving qs xs)
  giving_passes test [] b xs a z e = absurd (false≢true e)
  giving_passes test (r ∷ qs) b xs a z e = go (cases_Bool (list_any (λ w. named_in w.text xs) r.1)) (giving_passes test qs b.1 xs a z)
    where
      part : (named_in z (r.0 ∷ giving qs xs) ≡ true) → list_any (λ w. named_in w.text xs) r.1 ≡ true → (bytes_eq z r.0 ≡ true) ⊎ (bytes_eq z r.0 ≡ false)
          → (named_in z (giving qs xs) ≡ true → test z ≡ true) → test z ≡ true
      part e s (inl q) k = let h = some_named r.1 xs s in subst (λ x. test x ≡ true) (sym (same_bytes z r.0 q)) (b.0 h.0 h.1 (a h.0 h.2))
      part e s (inr f) k = k (rw f at e)

      go : (list_any (λ w. named_in w.text xs) r.1 ≡ true) ⊎ (list_any (λ w. named_in w.text xs) r.1 ≡ false)
          → (named_in z (giving qs xs) ≡ true → test z ≡ true) → test z ≡ true
      go (inl s) k = part (subst (λ c. named_in z (cond c (r.0 ∷ []) [] ++ giving qs xs) ≡ true) s e) s (cases_Bool (bytes_eq z r.0)) k
      go (inr f) k = k (subst (λ c. named_in z (cond c (r.0 ∷ []) [] ++ giving qs xs) ≡ true) f e)

  module _ (k : ℕ) (enough : length (names_read rs) ≤ k) where
    abbrev all : List Name
    all = grown (giving rs) k outs

    closed : (y : Name) → named_in y (giving rs all) ≡ true → named_in y all ≡ true
    closed = closed_after (giving rs) (names_read rs) (in_giving rs) k outs enough

    goes_back : (qs : List Reading) → ((y : Name) → named_in y (giving qs all) ≡ true → named_in y all ≡ true)
        → AllByRecursion (IsBack (λ y. named_in y all)) (graph qs)
    goes_back [] h = tt
    goes_back (r ∷ qs) h = (
      λ y e i. h r.0 (rw (some_of r.1 all y e i) (or_left (bytes_eq r.0 r.0) (named_in r.0 (giving qs all)) (itself r.0))),
      goes_back qs (λ y e. h y (more (list_any (λ w. named_in w.text all) r.1) y e)),
    )
      where
        more : (b : Bool) (y : Name) → named_in y (giving qs all) ≡ true → named_in y (cond b (r.0 ∷ []) [] ++ giving qs all) ≡ true
        more true y e = or_right (bytes_eq y r.0) (named_in y (giving qs all)) e
        more false y e = e

    pub is_reached : (x : Name) → is_given t marks x ≡ named_in x all
    is_reached x = go (cases_Bool (is_given t marks x)) (cases_Bool (named_in x all))
      where
        go : (is_given t marks x ≡ true) ⊎ (is_given t marks x ≡ false) → (named_in x all ≡ true) ⊎ (named_in x all ≡ false) → is_given t marks x
            ≡ named_in x all
        go (inl g) o = g ∙ sym (passes (λ y. named_in y all) (λ y e. starts_grown (giving rs) k outs y e) (goes_back rs closed) x g)
        go (inr f) (inl i) = absurd
            (true≢false (sym (all_grown (giving rs) (is_given t marks)
            (giving_passes (is_given t marks) rs (each_back rs rows_in given.settled)) k outs outs_given x i) ∙ f))
        go (inr f) (inr i) = f ∙ sym i

-- ---- the faults

faults_by : (p q : Name → Bool) (ws : List Spelled) → ((x : Name) → p x ≡ q x) → flat_map (λ w. if_so (p w.text) assume_reads_output w.at) ws
    ≡ flat_map (λ w. if_so (q w.text) assume_reads_output w.at) ws
faults_by p q [] h = refl
faults_by p q (w ∷ ws) h = rw (h w.text, faults_by p q ws h) refl

pub faults_read : (s : Scope) (t : List Name) (marks : List Bool)
    → IsGiven (output_names s.owner.outputs) (flat_map (ghost_readings s) (contract_statements s.owner)) t marks
    → read_faults t marks (flat_map (λ c. flat_map read_in (restricted c)) (contract_statements s.owner)) ≡ assumption_faults s
faults_read s t marks g =
    let k : ℕ = length (contract_statements s.owner) in
    rw (all_now s.owner (contract_statements s.owner))
    (faults_by (is_given t marks) (λ x. named_in x (given_now (length (contract_statements s.owner)) s))
    (flat_map (λ c. flat_map read_in (restricted c)) (contract_statements s.owner))
    (λ x. is_reached (output_names s.owner.outputs) (flat_map (ghost_readings s) (contract_statements s.owner)) t marks g (length (contract_statements s.owner))
    (few_readings s (contract_statements s.owner)) x ∙ ap (named_in x) (sym (given_grown s (length (contract_statements s.owner))))))

pub read_noted : (s : Scope) (t : List Name) (marks : List Bool) (cs : List ContractStatement) (vs : List Variable) → cs ≡ contract_statements s.owner
    → vs ≡ s.owner.outputs → IsGiven (output_names vs) (flat_map (ghost_readings s) cs) t marks → (ws : List Spelled)
    → ws ≡ flat_map (λ c. flat_map read_in (restricted c)) cs → (o q : Option Refused) (fs : List Refused) → q ≡ noted_all o (read_faults t marks ws)
    → IsLeast o fs → IsLeast q (fs ++ assumption_faults s)
read_noted s t marks cs vs ec ev g ws ew o q fs eq i =
    let is : IsGiven (output_names s.owner.outputs) (flat_map (ghost_readings s) (contract_statements s.owner)) t marks =
    subst (λ zs. IsGiven (output_names s.owner.outputs) (flat_map (ghost_readings s) zs) t marks) ec
    (subst (λ us. IsGiven (output_names us) (flat_map (ghost_readings s) cs) t marks) ev g) in
    let same : read_faults t marks ws ≡ assumption_faults s =
    ap (read_faults t marks) (ew ∙ ap (λ zs. flat_map (λ c. flat_map read_in (restricted c)) zs) ec) ∙ faults_read s t marks is in
    rw (eq, ← same) (least_noted_all o fs (read_faults t marks ws) i)
