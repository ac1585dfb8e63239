-- Names that lead back, by marks and by edges.
use Rattle.std.proofs.Common.{◌≡◌, ◌↔◌, ℕ, ◌<◌, ◌≤◌, ◌+◌, Bool, true, false, cond, ◌||◌, ◌&&◌, List, [], ◌∷◌, ◌++◌, map, take, length, get_or, refl, ap, ◌∙◌, sym, subst, arith}
use Rattle.std.specs.Str.{bytes_eq}
use Rattle.std.proofs.Math.Logic.{◌⊎◌, inl, inr}
use Rattle.std.proofs.lemmas.Bool.{false≢true, cases_Bool}
use Rattle.std.proofs.lemmas.List.{map_more, length-append}
use Rattle.lus_tree.specs.Tree.{Name, Spelled, text_of}
use Rattle.lus_meaning.specs.Depends.{named_in}
use Rattle.lus_meaning.specs.Order.{is_listed}
use Rattle.lus_meaning.proofs.Unique.{same_bytes}
use Rattle.name_table.specs.Names.{number_of}
use Rattle.name_table.proofs.Names.{itself as bytes_same}
use Rattle.name_table.proofs.Numbers.{number_below, name_of_number}
use Rattle.way_laws.specs.OwnGraph.{LeadsTo as NamesLead, own_edges}
use Rattle.way_laws.specs.Nodes.{of_name, NodeLeads}
use Rattle.way_laws.proofs.Lists.{itself, one_named}
use Rattle.way_laws.proofs.Nodes.{names_by_nodes}
use Rattle.lus_meaning.specs.EquationFaults.{last_name}
use Rattle.number_graphs.specs.Graphs.{Rows, row_at, leads, is_marked, LeadsTo, AreReached}
use Rattle.lus_order.specs.Backs.{IsClosed, LeadsBack, AreFlagged, rows_of, any_marked, BacksAreOwn}
use Rattle.lus_order.specs.MarkedNames.{is_marked_name}
use Rattle.lus_order.specs.declared.sides.Side.{Side}
use Rattle.lus_order.specs.Sides.{side_words, words_of}
use Rattle.lus_order.proofs.FoundNodes.{streams_lead}
use Rattle.number_graphs.proofs.Searches.{or_cases, or_right}
use Rattle.lus_order.proofs.ClosedRows.{last_row, inner_path, outer_path}
use Rattle.lus_order.proofs.Stands.{listed_joined, none_stand, or_left}

-- ---- by marks

record From (rows : Rows) (names xs : List Name) (w : ℕ) : Type 0 where
  name : Name
  is_in : named_in name xs ≡ true
  numbered : named_in name names ≡ true
  led : leads rows (number_of names name) w ≡ true

abbrev row_for : Rows → List Name → Name → List ℕ
row_for rows names x = cond (named_in x names) (row_at rows (number_of names x)) []

from_row : (rows : Rows) (names xs : List Name) (w : ℕ) → is_listed (rows_of rows names xs) w ≡ true → From rows names xs w
from_row rows names [] w e = absurd (false≢true e)
from_row rows names (x ∷ xs) w e =
    go (cases_Bool (named_in x names)) (or_cases (is_listed (row_for rows names x) w) (is_listed (rows_of rows names xs) w)
    (sym (listed_joined w (row_for rows names x) (rows_of rows names xs)) ∙ e)) (from_row rows names xs w)
  where
    go : (named_in x names ≡ true) ⊎ (named_in x names ≡ false)
        → (is_listed (row_for rows names x) w ≡ true) ⊎ (is_listed (rows_of rows names xs) w ≡ true)
        → (is_listed (rows_of rows names xs) w ≡ true → From rows names xs w) → From rows names (x ∷ xs) w
    go c (inr h) f = let r : From rows names xs w = f h in
        record { name = r.name; is_in = or_right (bytes_eq r.name x) (named_in r.name xs) r.is_in; numbered = r.numbered; led = r.led }
    go (inl t) (inl h) f = record {
      name = x;
      is_in = or_left _ _ (bytes_same x);
      numbered = t;
      led = subst (λ b. is_listed (cond b (row_at rows (number_of names x)) []) w ≡ true) t h;
    }
    go (inr t) (inl h) f = absurd (false≢true (subst (λ b. is_listed (cond b (row_at rows (number_of names x)) []) w ≡ true) t h))

to_row : (rows : Rows) (names xs : List Name) (y : Name) (w : ℕ) → named_in y xs ≡ true → named_in y names ≡ true
    → leads rows (number_of names y) w ≡ true → is_listed (rows_of rows names xs) w ≡ true
to_row rows names [] y w e t l = absurd (false≢true e)
to_row rows names (x ∷ xs) y w e t l =
    listed_joined w (row_for rows names x) (rows_of rows names xs) ∙ go (bytes_eq y x) refl e (to_row rows names xs y w)
  where
    go : (b : Bool) → bytes_eq y x ≡ b → (b || named_in y xs) ≡ true
        → (named_in y xs ≡ true → named_in y names ≡ true → leads rows (number_of names y) w ≡ true → is_listed (rows_of rows names xs) w ≡ true)
        → (is_listed (row_for rows names x) w || is_listed (rows_of rows names xs) w) ≡ true
    go true s h f = or_left _ _ (subst (λ z. is_listed (row_for rows names z) w ≡ true) (same_bytes y x s)
        (subst (λ b. is_listed (cond b (row_at rows (number_of names y)) []) w ≡ true) (sym t) l))
    go false s h f = or_right _ _ (f h t l)

any_some : (marks : List Bool) (names xs : List Name) → any_marked marks names xs ≡ true
    → (y : Name) × (named_in y xs ≡ true) × (is_marked_name marks names y ≡ true)
any_some marks names [] e = absurd (false≢true e)
any_some marks names (x ∷ xs) e = go (is_marked_name marks names x) refl e (any_some marks names xs)
  where
    go : (b : Bool) → is_marked_name marks names x ≡ b → (b || any_marked marks names xs) ≡ true
        → (any_marked marks names xs ≡ true → (y : Name) × (named_in y xs ≡ true) × (is_marked_name marks names y ≡ true))
        → (y : Name) × (named_in y (x ∷ xs) ≡ true) × (is_marked_name marks names y ≡ true)
    go true s h f = (x, or_left _ _ (bytes_same x), s)
    go false s h f =
        let r : (y : Name) × (named_in y xs ≡ true) × (is_marked_name marks names y ≡ true) = f h in
        (r.0, or_right (bytes_eq r.0 x) (named_in r.0 xs) r.1, r.2)

some_any : (marks : List Bool) (names xs : List Name) (y : Name) → named_in y xs ≡ true → is_marked_name marks names y ≡ true
    → any_marked marks names xs ≡ true
some_any marks names [] y e m = absurd (false≢true e)
some_any marks names (x ∷ xs) y e m = go (bytes_eq y x) refl e (some_any marks names xs y)
  where
    go : (b : Bool) → bytes_eq y x ≡ b → (b || named_in y xs) ≡ true
        → (named_in y xs ≡ true → is_marked_name marks names y ≡ true → any_marked marks names xs ≡ true)
        → (is_marked_name marks names x || any_marked marks names xs) ≡ true
    go true s h f = or_left _ _ (subst (λ z. is_marked_name marks names z ≡ true) (same_bytes y x s) m)
    go false s h f = or_right _ _ (f h m)

both_parts : (a b : Bool) → (a && b) ≡ true → (a ≡ true) × (b ≡ true)
both_parts true true e = (refl, refl)
both_parts true false e = absurd (false≢true e)
both_parts false b e = absurd (false≢true e)

pub marks_back : (rows : Rows) (names xs : List Name) (row : List ℕ) (marks : List Bool) → IsClosed rows → length names ≤ length rows
    → row ≡ rows_of rows names xs → AreReached (rows ++ row ∷ []) (length rows) marks
    → (any_marked marks names xs ≡ true) ↔ LeadsBack rows names xs
marks_back rows names xs row marks closed within is reached = (to, back)
  where
    first_in : (w : ℕ) → leads (rows ++ row ∷ []) (length rows) w ≡ is_listed (rows_of rows names xs) w
    first_in w = ap (λ r. is_listed r w) (last_row rows row ∙ is)

    to : any_marked marks names xs ≡ true → LeadsBack rows names xs
    to e =
        let r : (y : Name) × (named_in y xs ≡ true) × (is_marked_name marks names y ≡ true) = any_some marks names xs e in
        let two : (named_in r.0 names ≡ true) × (is_marked marks (number_of names r.0) ≡ true) =
        both_parts (named_in r.0 names) (is_marked marks (number_of names r.0)) r.2 in
        let p : LeadsTo (rows ++ row ∷ []) (length rows) (number_of names r.0) = reached.led (number_of names r.0) two.1 in
        let f : From rows names xs p.first = from_row rows names xs p.first (sym (first_in p.first) ∙ p.path.0) in
        record {
          from = f.name;
          to = r.0;
          starts = f.is_in;
          ends = r.1;
          from_number = f.numbered;
          to_number = two.0;
          led = record {
            first = p.first;
            rest = p.rest;
            path = (f.led, inner_path rows row closed p.first p.rest (closed (number_of names f.name) p.first f.led) p.path.1);
            last = p.last;
          };
        }

    back : LeadsBack rows names xs → any_marked marks names xs ≡ true
    back r =
        let p : LeadsTo rows (number_of names r.from) (number_of names r.to) = r.led in
        let there : LeadsTo (rows ++ row ∷ []) (length rows) (number_of names r.to) = record {
          first = p.first;
          rest = p.rest;
          path = (
            first_in p.first ∙ to_row rows names xs r.from p.first r.starts r.from_number p.path.0,
            outer_path rows row closed p.first p.rest (closed (number_of names r.from) p.first p.path.0) p.path.1,
          );
          last = p.last;
        } in
        let b : number_of names r.to < length names = number_below names r.to r.to_number in
        let m : is_marked marks (number_of names r.to) ≡ true =
        reached.all (number_of names r.to) (omega (arith, b, within, length-append rows (row ∷ []))) there in
        some_any marks names xs r.to r.ends (subst (λ c. (c && is_marked marks (number_of names r.to)) ≡ true) (sym r.to_number) m)

-- ---- flag by flag

one_flagged : (rows : Rows) (names : List Name) (wss : List (List Spelled)) (bs : List Bool) (ws : List Spelled) (b : Bool)
    → AreFlagged rows names wss bs → (b ≡ true) ↔ LeadsBack rows names (map text_of ws) → AreFlagged rows names (wss ++ ws ∷ []) (bs ++ b ∷ [])
one_flagged rows names [] [] ws b a f = (f, tt)
one_flagged rows names [] (c ∷ bs) ws b a f = absurd a
one_flagged rows names (vs ∷ wss) [] ws b a f = absurd a
one_flagged rows names (vs ∷ wss) (c ∷ bs) ws b a f = (a.0, one_flagged rows names wss bs ws b a.1 f)

-- ---- by edges

pub backs_own : BacksAreOwn
backs_own n g names rows d nodes xs numbered = (to, back)
  where
    lead : (x y : Name) → named_in x names ≡ true → named_in y names ≡ true
        → LeadsTo rows (number_of names x) (number_of names y) ↔ NodeLeads n g (of_name x) (of_name y)
    lead x y h i =
        subst (λ z. LeadsTo rows (number_of names x) (number_of names y) ↔ NodeLeads n g (of_name x) (of_name z)) (name_of_number names y i)
        (subst (λ z. LeadsTo rows (number_of names x) (number_of names y) ↔ NodeLeads n g (of_name z) (of_name (get_or names (number_of names y) [])))
        (name_of_number names x h) (streams_lead n g names rows d nodes [] [] (none_stand names) (number_of names x) (number_of names y)
        (number_below names x h) (number_below names y i)))

    to : LeadsBack rows names xs → NamesLead (own_edges n g) xs xs
    to r =
        let p : NamesLead (own_edges n g) (r.from ∷ []) (r.to ∷ []) =
        (names_by_nodes n g r.from r.to).0 ((lead r.from r.to r.from_number r.to_number).0 r.led) in
        record {
          start = p.start;
          starts = subst (λ z. named_in z xs ≡ true) (sym (one_named p.start r.from p.starts)) r.starts;
          first = p.first;
          rest = p.rest;
          way = p.way;
          finishes = subst (λ z. named_in z xs ≡ true) (sym (one_named (last_name p.first p.rest) r.to p.finishes)) r.ends;
        }

    back : NamesLead (own_edges n g) xs xs → LeadsBack rows names xs
    back p =
        let y : Name = last_name p.first p.rest in
        let h : named_in p.start names ≡ true = numbered p.start p.starts in
        let i : named_in y names ≡ true = numbered y p.finishes in
        let q : NamesLead (own_edges n g) (p.start ∷ []) (y ∷ []) =
        record { start = p.start; starts = itself p.start; first = p.first; rest = p.rest; way = p.way; finishes = itself y } in
        record {
          from = p.start;
          to = y;
          starts = p.starts;
          ends = p.finishes;
          from_number = h;
          to_number = i;
          led = (lead p.start y h i).1 ((names_by_nodes n g p.start y).1 q);
        }

pub flags_more : (rows : Rows) (names : List Name) (sides : List Side) (i : ℕ) (side : Side) (bs new : List Bool) (b : Bool) → i < length sides
    → side ≡ get_or sides i side → AreFlagged rows names (words_of (take i sides)) bs → new ≡ bs ++ b ∷ []
    → (b ≡ true) ↔ LeadsBack rows names (map text_of (side_words side)) → AreFlagged rows names (words_of (take (i + 1) sides)) new
flags_more rows names sides i side bs new b l is a n f =
    subst (λ z. AreFlagged rows names z new)
    (sym (map_more side_words sides i side l ∙ ap (λ z. map side_words (take i sides) ++ side_words z ∷ []) (sym is)))
    (subst (AreFlagged rows names (words_of (take i sides) ++ side_words side ∷ [])) (sym n)
    (one_flagged rows names (words_of (take i sides)) bs (side_words side) b a f))
