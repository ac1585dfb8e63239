-- The constants of a table of names have their types, and the values that their definitions give them in text order.
use Rattle.std.proofs.Common.{◌≡◌, ℕ, suc, Bool, true, false, cond, not, ◌||◌, List, [], ◌∷◌, ◌++◌, map, flat_map, Option, Some, None, refl, sym, ap, ◌∙◌, subst}
use Rattle.std.specs.Prelude.{pred, nat_lt, find, option_map, option_and_then, unwrap_or}
use Rattle.std.specs.List.{AllByRecursion}
use Rattle.std.specs.Map.{lookup}
use Rattle.std.specs.Str.{bytes_eq}
use Rattle.std.proofs.lemmas.Bool.{false≢true}
use Rattle.lus_tree.specs.declared.place.Sort.{Sort}
use Rattle.lus_tree.specs.Tree.{Name, Expression, Constant, Program}
use Rattle.lus_tree.specs.Reason.{not_constant, type_clash}
use Rattle.lus_meaning.specs.Value.{Value, absent, has_sort}
use Rattle.lus_meaning.specs.Scene.{base}
use Rattle.lus_meaning.specs.Program.{constant_value, constant_values}
use Rattle.lus_meaning.specs.Depends.{named_in}
use Rattle.lus_meaning.specs.WellMade.{AreDistinct}
use Rattle.lus_meaning.specs.Occurrences.{on_clock, occurrences, begin}
use Rattle.lus_meaning.specs.Scope.{Entry, is_constant_role, Scope, entry_of, is_known, is_constant_name, value_where_known, type_of, constant_of, Declared, a_stream, a_fixed, names_only, given_or_found, entry_for, entries_from, known_after, left_after, first_constants}
use Rattle.lus_meaning.specs.Faults.{fault, differ}
use Rattle.lus_meaning.specs.ExpressionFaults.{hinders_constant, not_allowed, part_faults, expression_faults, definition_faults}
use Rattle.lus_meaning.proofs.EachPart.{each_part}
use Rattle.lus_meaning.proofs.Exists.{self_bytes}
use Rattle.lus_meaning.proofs.Lists.{all_from, all_from_both, both_parts, append_none, map_append}
use Rattle.lus_meaning.proofs.NamesOnce.{not_nil, no_parts, not_so}
use Rattle.lus_meaning.proofs.RulesFit.{none_mapped}
use Rattle.lus_meaning.proofs.Unique.{same_bytes}
use Rattle.rule_laws.proofs.Lists.{other_bytes}
use Rattle.rule_laws.proofs.Worths.{same_sorts, NameWorth, ExpressionWorth, Fine, worths}

-- ---- values of constants

abbrev pub Values : Type 0
Values = List (Name × Value)

abbrev pub value_names : Values → List Name
value_names cs = map (λ c. c.0) cs

abbrev is_some : {A : Type 0} → Option A → Bool
is_some None = false
is_some (Some a) = true

pub not_none : {A B : Type 0} (a : A) → None ≡ Some a → B
not_none a e = absurd (false≢true (ap is_some e))

pub found_more : (x : Name) (v : Value) (cs ds : Values) → lookup (bytes_eq x) cs ≡ Some v → lookup (bytes_eq x) (cs ++ ds) ≡ Some v
found_more x v [] ds e = not_none v e
found_more x v (c ∷ cs) ds e = go (bytes_eq x c.0) e (found_more x v cs ds)
  where
    go : (b : Bool) → cond b (Some c.1) (lookup (bytes_eq x) cs) ≡ Some v →
        (lookup (bytes_eq x) cs ≡ Some v → lookup (bytes_eq x) (cs ++ ds) ≡ Some v) → cond b (Some c.1)
        (lookup (bytes_eq x) (cs ++ ds)) ≡ Some v
    go true h r = h
    go false h r = r h

found_last : (x : Name) (v : Value) (cs : Values) → named_in x (value_names cs) ≡ false → lookup (bytes_eq x) (cs ++ (x, v) ∷ []) ≡ Some v
found_last x v [] e = ap (λ b. cond b (Some v) None) (self_bytes x)
found_last x v (c ∷ cs) e = go (bytes_eq x c.0) e (found_last x v cs)
  where
    go : (b : Bool) → (b || named_in x (value_names cs)) ≡ false →
        (named_in x (value_names cs) ≡ false → lookup (bytes_eq x) (cs ++ (x, v) ∷ []) ≡ Some v) → cond b (Some c.1)
        (lookup (bytes_eq x) (cs ++ (x, v) ∷ [])) ≡ Some v
    go true h r = absurd (false≢true (sym h))
    go false h r = r h

-- ---- entries

-- what an entry says of a constant
pub record IsFixed (cs : Values) (e : Entry) : Type 0 where
  pub sort : Sort
  pub is_sort : e.sort ≡ Some sort
  pub clock : e.clock ≡ base
  pub found : lookup (bytes_eq e.word.text) cs ≡ Some e.value
  pub has : has_sort sort e.value ≡ true

abbrev pub Good : Values → Entry → Type 0
Good cs e = is_constant_role e.role ≡ true → IsFixed cs e

good_more : (cs ds : Values) (e : Entry) → Good cs e → Good (cs ++ ds) e
good_more cs ds e g r =
    let f : IsFixed cs e = g r in
    record { sort = f.sort; is_sort = f.is_sort; clock = f.clock; found = found_more e.word.text e.value cs ds f.found; has = f.has }

pub good_values : (cs : Values) (ds : List Constant) (e : Entry) → Good cs e → Good (constant_values cs ds) e
good_values cs [] e g = g
good_values cs (d ∷ ds) e g =
    good_values (cs ++ (d.name.text, constant_value cs d.value) ∷ []) ds e (good_more cs ((d.name.text, constant_value cs d.value) ∷ []) e g)

-- ---- what of a table is known at a place

abbrev pub is_word : Name → Entry → Bool
is_word x e = bytes_eq x e.word.text

abbrev pub known_in : Option Entry → Bool
known_in o = unwrap_or (option_map (λ e. e.known) o) false

abbrev pub fixed_in : Option Entry → Bool
fixed_in o = unwrap_or (option_map (λ e. is_constant_role e.role) o) false

-- the second is a constant of the first one's type and value
pub record AlsoAs (a b : Option Entry) : Type 0 where
  pub fixed : fixed_in b ≡ true
  pub sort : option_and_then (λ e. e.sort) a ≡ option_and_then (λ e. e.sort) b
  pub value : unwrap_or (option_map (λ e. e.value) a) absent ≡ unwrap_or (option_map (λ e. e.value) b) absent

abbrev Seen : Option Entry → Option Entry → Type 0
Seen a b = known_in a ≡ true → fixed_in a ≡ true → (known_in b ≡ true) × AlsoAs a b

-- what may be used has its value
pub known_value : (o : Option Entry) → known_in o ≡ true →
    unwrap_or (option_map value_where_known o) absent ≡ unwrap_or (option_map (λ e. e.value) o) absent
known_value None k = refl
known_value (Some e) k = ap (λ b. cond b e.value absent) k

abbrev pub MayBeUsed : Entry → Type 0
MayBeUsed e = e.known ≡ true

abbrev pub fixed_count : List Entry → ℕ
fixed_count [] = 0
fixed_count (e ∷ es) = cond (is_constant_role e.role) (suc (fixed_count es)) (fixed_count es)

no_left : (b : Bool) → cond b (pred 0) 0 ≡ 0
no_left true = refl
no_left false = refl

not_known : (b : Bool) → (not b || nat_lt 0 0) ≡ true → b ≡ true → ⊥
not_known true e h = false≢true e
not_known false e h = false≢true h

unseen : (x : Name) (outer rest : List Entry) → Seen (find (is_word x) (first_constants 0 rest ++ outer)) (find (is_word x) outer)
unseen x outer [] = λ k f. (k, record { fixed = f; sort = refl; value = refl })
unseen x outer (e ∷ rest) = go (bytes_eq x e.word.text)
    (subst (λ j. Seen (find (is_word x) (first_constants j rest ++ outer)) (find (is_word x) outer))
    (sym (no_left (is_constant_role e.role))) (unseen x outer rest))
  where
    go : (c : Bool) → Seen (find (is_word x) (first_constants (left_after 0 e) rest ++ outer)) (find (is_word x) outer) → Seen
        (cond c (Some (known_after 0 e)) (find (is_word x) (first_constants (left_after 0 e) rest ++ outer))) (find (is_word x) outer)
    go true r = λ k f. absurd (not_known (is_constant_role e.role) k f)
    go false r = r

left_count : (b : Bool) (j c : ℕ) → j ≡ cond b (suc c) c → cond b (pred j) j ≡ c
left_count true j c e = ap pred e
left_count false j c e = e

-- where as many constants are known as stand among the first entries, those are known
sees : (x : Name) (outer done rest : List Entry) (j : ℕ) → AllByRecursion MayBeUsed done → j ≡ fixed_count done → Seen
    (find (is_word x) (first_constants j (done ++ rest) ++ outer)) (find (is_word x) (done ++ outer))
sees x outer [] rest j u e = subst (λ k. Seen (find (is_word x) (first_constants k rest ++ outer)) (find (is_word x) outer)) (sym e) (unseen x outer rest)
sees x outer (d ∷ done) rest j u e = go (bytes_eq x d.word.text) (sees x outer done rest (left_after j d) u.1
    (left_count (is_constant_role d.role) j (fixed_count done) e))
  where
    go : (c : Bool) → Seen (find (is_word x) (first_constants (left_after j d) (done ++ rest) ++ outer)) (find (is_word x) (done ++ outer)) →
        Seen (cond c (Some (known_after j d)) (find (is_word x) (first_constants (left_after j d) (done ++ rest) ++ outer)))
        (cond c (Some d) (find (is_word x) (done ++ outer)))
    go true r = λ k f. (u.0, record { fixed = f; sort = refl; value = refl })
    go false r = r

-- a scope that shows at most the first so many constants of a table, behind which other entries stand
abbrev pub Sees : Scope → List Entry → List Entry → ℕ → Type 0
Sees sc table outer j =
    (x : Name) → is_known sc x ≡ true → is_constant_name sc x ≡ true →
    (known_in (find (is_word x) (first_constants j table ++ outer)) ≡ true) × AlsoAs (entry_of sc x)
    (find (is_word x) (first_constants j table ++ outer))

also : (a b c : Option Entry) → AlsoAs a b → AlsoAs b c → AlsoAs a c
also a b c h g = record { fixed = g.fixed; sort = h.sort ∙ g.sort; value = h.value ∙ g.value }

-- ---- what is found

pub record Found (P : Entry → Type 0) (x : Name) (es : List Entry) : Type 0 where
  pub entry : Entry
  pub is : find (is_word x) es ≡ Some entry
  pub word : x ≡ entry.word.text
  pub role : is_constant_role entry.role ≡ true
  pub holds : P entry

found : (P : Entry → Type 0) (x : Name) (es : List Entry) → AllByRecursion P es → fixed_in (find (is_word x) es) ≡ true → Found P x es
found P x [] a f = absurd (false≢true f)
found P x (e ∷ es) a f = go (bytes_eq x e.word.text) refl f (found P x es a.1)
  where
    go : (c : Bool) → bytes_eq x e.word.text ≡ c → fixed_in (cond c (Some e) (find (is_word x) es)) ≡ true →
        (fixed_in (find (is_word x) es) ≡ true → Found P x es) → Found P x (e ∷ es)
    go true m h r = record { entry = e; is = ap (λ b. cond b (Some e) (find (is_word x) es)) m; word = same_bytes x e.word.text m; role = h; holds = a.0 }
    go false m h r =
        let q : Found P x es = r h in
        record { entry = q.entry; is = ap (λ b. cond b (Some e) (find (is_word x) es)) m ∙ q.is; word = q.word; role = q.role; holds = q.holds }

name_worth : (p : Program) (sc : Scope) (cs : Values) (es : List Entry) (x : Name) → AllByRecursion (Good cs) es → is_known sc x ≡ true →
    (known_in (find (is_word x) es) ≡ true) × AlsoAs (entry_of sc x) (find (is_word x) es) → NameWorth sc (names_only p es) cs x
name_worth p sc cs es x a k l =
    let h : AlsoAs (entry_of sc x) (find (is_word x) es) = l.1 in
    let q : Found (Good cs) x es = found (Good cs) x es a h.fixed in
    let f : IsFixed cs q.entry = q.holds q.role in
    let there : option_and_then (λ e. e.sort) (find (is_word x) es) ≡ Some f.sort = ap (option_and_then (λ e. e.sort)) q.is ∙ f.is_sort in
    let value : unwrap_or (option_map (λ e. e.value) (find (is_word x) es)) absent ≡ q.entry.value = ap
    (λ o. unwrap_or (option_map (λ e. e.value) o) absent) q.is in
    record {
      sort = f.sort;
      value = q.entry.value;
      here = h.sort ∙ there;
      there = there;
      value_here = known_value (entry_of sc x) k ∙ h.value ∙ value;
      value_there = known_value (find (is_word x) es) l.0 ∙ value;
      fixed_there = h.fixed;
      found = subst (λ y. lookup (bytes_eq y) cs ≡ Some q.entry.value) (sym q.word) f.found;
      has = f.has;
    }

-- ---- one constant

given : (q : Option Sort) (r : Sort) → differ q (Some r) ≡ false → given_or_found q (Some r) ≡ Some r
given None r e = refl
given (Some k) r e = ap (λ (s : Sort). Some s) (same_sorts k r e)

nothing_mapped : {A B : Type 0} (f : A → B) (xs : List A) → map f xs ≡ [] → xs ≡ []
nothing_mapped f [] e = refl
nothing_mapped f (x ∷ xs) e = not_nil (f x) (map f xs) e

defined : (p : Program) (sc : Scope) (cs : Values) (es : List Entry) (c : Constant) →
    ((x : Name) → is_known sc x ≡ true → is_constant_name sc x ≡ true → NameWorth sc (names_only p es) cs x)
    → definition_faults sc c.sort c.value ≡ [] → named_in c.name.text (value_names cs) ≡ false →
    IsFixed (cs ++ (c.name.text, constant_value cs c.value) ∷ []) (entry_for (names_only p es) (a_fixed c))
defined p sc cs es c names h fresh =
    let e : Expression = c.value in
    let two : not_allowed sc e ++ expression_faults sc (on_clock base) e ≡ [] = (no_parts (not_allowed sc e ++ expression_faults sc (on_clock base) e) _ h).0 in
    let allowed : not_allowed sc e ≡ [] = (no_parts (not_allowed sc e) (expression_faults sc (on_clock base) e) two).0 in
    let clean : expression_faults sc (on_clock base) e ≡ [] = (no_parts (not_allowed sc e) (expression_faults sc (on_clock base) e) two).1 in
    let parts : AllByRecursion (λ o. part_faults sc o ≡ []) (occurrences sc.owner (on_clock base) e) = none_mapped (part_faults sc)
    (occurrences sc.owner (on_clock base) e) clean in
    let free : AllByRecursion (λ o. hinders_constant sc o.expression ≡ []) (occurrences sc.owner (on_clock base) e) =
    none_mapped (λ o. hinders_constant sc o.expression) (occurrences sc.owner (on_clock base) e)
    (nothing_mapped (fault not_constant) (flat_map (λ o. hinders_constant sc o.expression) (occurrences sc.owner (on_clock base) e))
    allowed) in
    let fine : AllByRecursion (Fine sc (names_only p es) cs names) (occurrences sc.owner (on_clock base) e) =
    all_from_both (λ o. part_faults sc o ≡ []) (λ o. hinders_constant sc o.expression ≡ []) (Fine sc (names_only p es) cs names)
    (λ o a b. (a, b)) (occurrences sc.owner (on_clock base) e) parts free in
    let w : ExpressionWorth sc (names_only p es) cs e = worths sc (names_only p es) cs names (on_clock base) e
    (each_part (Fine sc (names_only p es) cs names) sc.owner (on_clock base) e fine) in
    let value : constant_of (names_only p es) e ≡ constant_value cs e = ap (λ k. k.value) w.worth ∙ w.value in
    let agree : differ c.sort (Some w.sort) ≡ false = subst (λ o. differ c.sort o ≡ false) w.here
    (not_so (differ c.sort (type_of sc e)) type_clash (begin e) (no_parts
    (not_allowed sc e ++ expression_faults sc (on_clock base) e) _ h).1) in
    record {
      sort = w.sort;
      is_sort = ap (given_or_found c.sort) w.there ∙ given c.sort w.sort agree;
      clock = refl;
      found = found_last c.name.text (constant_value cs e) cs fresh ∙ ap (λ (v : Value). Some v) (sym value);
      has = subst (λ v. has_sort w.sort v ≡ true) (sym value) w.has;
    }

-- ---- all of a table

abbrev pub fixed_of : List Declared → List Constant
fixed_of [] = []
fixed_of (a_stream r v ∷ xs) = fixed_of xs
fixed_of (a_fixed c ∷ xs) = c ∷ fixed_of xs

-- a constant without faults at a place behind so many
pub record IsCleanAt (table outer : List Entry) (j : ℕ) (c : Constant) : Type 0 where
  pub scope : Scope
  pub shows : Sees scope table outer j
  pub clean : definition_faults scope c.sort c.value ≡ []

abbrev pub CleanFrom : List Entry → List Entry → List Declared → ℕ → Type 0
CleanFrom table outer [] j = Unit {0}
CleanFrom table outer (a_stream r v ∷ xs) j = (is_constant_role r ≡ false) × CleanFrom table outer xs j
CleanFrom table outer (a_fixed c ∷ xs) j = IsCleanAt table outer j c × CleanFrom table outer xs (suc j)

one_more : {A : Type 0} (xs : List A) (y : A) (ys : List A) → (xs ++ y ∷ []) ++ ys ≡ xs ++ y ∷ ys
one_more [] y ys = refl
one_more (x ∷ xs) y ys = ap (λ zs. x ∷ zs) (one_more xs y ys)

pub record RestOf (p : Program) (outer done : List Entry) (xs : List Declared) : Type 0 where
  pub rest : List Entry
  pub is : entries_from p outer done xs ≡ done ++ rest

rest_of : (p : Program) (outer done : List Entry) (xs : List Declared) → RestOf p outer done xs
rest_of p outer done [] = record { rest = []; is = sym (append_none done) }
rest_of p outer done (x ∷ xs) =
    let e : Entry = entry_for (names_only p (done ++ outer)) x in
    let r : RestOf p outer (done ++ e ∷ []) xs = rest_of p outer (done ++ e ∷ []) xs in
    record { rest = e ∷ r.rest; is = r.is ∙ one_more done e r.rest }

count_more : (b : Bool) (e : Entry) → is_constant_role e.role ≡ b → (done : List Entry) → fixed_count (done ++ e ∷ []) ≡ cond b
    (suc (fixed_count done)) (fixed_count done)
count_more b e h [] = ap (λ c. cond c 1 0) h
count_more true e h (d ∷ done) = ap (λ k. cond (is_constant_role d.role) (suc k) k) (count_more true e h done) ∙ over (is_constant_role d.role)
  where
    over : (c : Bool) → cond c (suc (suc (fixed_count done))) (suc (fixed_count done)) ≡ suc (cond c (suc (fixed_count done)) (fixed_count done))
    over true = refl
    over false = refl
count_more false e h (d ∷ done) = ap (λ k. cond (is_constant_role d.role) (suc k) k) (count_more false e h done)

-- of distinct names the middle one is none of those before it
middle : (xs : List Name) (y : Name) (ys : List Name) → AreDistinct (xs ++ y ∷ ys) → named_in y xs ≡ false
middle [] y ys d = refl
middle (x ∷ xs) y ys d = go (bytes_eq y x) refl (middle xs y ys d.1)
  where
    apart : (zs : List Name) → named_in x (zs ++ y ∷ ys) ≡ false → bytes_eq x y ≡ false
    apart [] e = first (bytes_eq x y) e
      where
        first : (c : Bool) → (c || named_in x ys) ≡ false → c ≡ false
        first true h = absurd (false≢true (sym h))
        first false h = refl
    apart (z ∷ zs) e = apart zs (second (bytes_eq x z) e)
      where
        second : (c : Bool) → (c || named_in x (zs ++ y ∷ ys)) ≡ false → named_in x (zs ++ y ∷ ys) ≡ false
        second true h = absurd (false≢true (sym h))
        second false h = h

    go : (c : Bool) → bytes_eq y x ≡ c → named_in y xs ≡ false → (c || named_in y xs) ≡ false
    go true m r = absurd (false≢true (sym (other_bytes x y (apart xs d.0)) ∙ m))
    go false m r = r

module _ (p : Program) (table outer : List Entry) where
  pub all_good : (done : List Entry) (xs : List Declared) (cs : Values) → table ≡ entries_from p outer done xs → AllByRecursion
      (Good cs) outer → AllByRecursion (Good cs) done → AllByRecursion MayBeUsed done → AreDistinct (value_names cs ++ map (λ c. c.name.text) (fixed_of xs))
      → CleanFrom table outer xs (fixed_count done) →
      AllByRecursion (Good (constant_values cs (fixed_of xs))) (entries_from p outer done xs)
  all_good done [] cs t o a u d c = a
  all_good done (a_stream r v ∷ xs) cs t o a u d c =
      let e : Entry = entry_for (names_only p (done ++ outer)) (a_stream r v) in
      all_good (done ++ e ∷ []) xs cs t o (both_parts (Good cs) done (e ∷ []) a ((λ h. absurd (false≢true (sym c.0 ∙ h))), tt))
      (both_parts MayBeUsed done (e ∷ []) u (refl, tt)) d
      (subst (CleanFrom table outer xs) (sym (count_more false e c.0 done)) c.1)
  all_good done (a_fixed k ∷ xs) cs t o a u d c =
      let e : Entry = entry_for (names_only p (done ++ outer)) (a_fixed k) in
      let q : IsCleanAt table outer (fixed_count done) k = c.0 in
      let r : RestOf p outer done (a_fixed k ∷ xs) = rest_of p outer done (a_fixed k ∷ xs) in
      let more : Values = cs ++ (k.name.text, constant_value cs k.value) ∷ [] in
      let shows : (x : Name) → is_known q.scope x ≡ true → is_constant_name q.scope x ≡ true → NameWorth q.scope (names_only p (done ++ outer)) cs x =
      λ x h g.
      let s : (known_in (find (is_word x) (first_constants (fixed_count done) table ++ outer)) ≡ true) × AlsoAs (entry_of q.scope x)
      (find (is_word x) (first_constants (fixed_count done) table ++ outer)) = q.shows x h g in
      let v : Seen (find (is_word x) (first_constants (fixed_count done) table ++ outer)) (find (is_word x) (done ++ outer)) =
      subst (λ es. Seen (find (is_word x) (first_constants (fixed_count done) es ++ outer)) (find (is_word x) (done ++ outer)))
      (sym (t ∙ r.is)) (sees x outer done r.rest (fixed_count done) u refl) in
      let both : (known_in (find (is_word x) (done ++ outer)) ≡ true) × AlsoAs
      (find (is_word x) (first_constants (fixed_count done) table ++ outer)) (find (is_word x) (done ++ outer)) = v s.0 s.1.fixed in
      name_worth p q.scope cs (done ++ outer) x (both_parts (Good cs) done outer a o) h (
        both.0,
        also (entry_of q.scope x) (find (is_word x) (first_constants (fixed_count done) table ++ outer))
            (find (is_word x) (done ++ outer)) s.1 both.1,
      ) in
      let own : IsFixed more e = defined p q.scope cs (done ++ outer) k shows q.clean
      (middle (value_names cs) k.name.text (map (λ c. c.name.text) (fixed_of xs)) d) in
      let lift : (es : List Entry) → AllByRecursion (Good cs) es → AllByRecursion (Good more) es = λ es b. all_from (Good cs) (Good more)
      (λ z g. good_more cs ((k.name.text, constant_value cs k.value) ∷ []) z g) es b in
      let words : value_names cs ++ k.name.text ∷ map (λ c. c.name.text) (fixed_of xs) ≡ value_names more ++ map (λ c. c.name.text) (fixed_of xs) =
      sym (ap (λ ys. ys ++ map (λ c. c.name.text) (fixed_of xs)) (map_append (λ z. z.0) cs ((k.name.text, constant_value cs k.value) ∷ []))
      ∙ one_more (value_names cs) k.name.text (map (λ c. c.name.text) (fixed_of xs))) in
      all_good (done ++ e ∷ []) xs more t (lift outer o) (both_parts (Good more) done (e ∷ []) (lift done a) ((λ h. own), tt))
      (both_parts MayBeUsed done (e ∷ []) u (refl, tt)) (subst AreDistinct words d)
      (subst (CleanFrom table outer xs) (sym (count_more true e refl done)) c.1)
