-- The first of the links to numbers of equal rank, where no number leads to one of a greater rank.
use Rattle.std.proofs.Common.{◌≡◌, ℕ, ◌+◌, ◌<◌, Bool, true, false, ◌&&◌, ◌||◌, List, [], ◌∷◌, ◌++◌, map, flat_map, drop, length, get_or, refl, ap, ◌∙◌, sym, subst, inl, inr, arith, Option, Some, None}
use Rattle.std.specs.Prelude.{◌==◌, nat_lt, option_map, slice_get, Contains}
use Rattle.std.specs.List.{AllByRecursion}
use Rattle.std.proofs.lemmas.Bool.{false≢true, eqb-true, and_parts}
use Rattle.std.proofs.lemmas.Bool.Decides.{nat_tests}
use Rattle.std.proofs.lemmas.List.Elements.{All-contains, All-from_recursion, All-contains_itself, All-weaker, recursion_from_All, Contains-append_cases, Contains-append_left, Contains-append_right, Contains-push, Contains-push_cases}
use Rattle.std.proofs.lemmas.Option.{slice_get-get_or}
use Rattle.lus_tree.specs.declared.place.Pos.{Pos}
use Rattle.lus_tree.specs.Tree.{Component, Spelled, Program}
use Rattle.lus_tree.specs.Reason.{Reason, Refused, node_recursion}
use Rattle.lus_meaning.specs.ClockFaults.{components}
use Rattle.lus_meaning.specs.Faults.{IsFirst, comes_before, fault, if_so, is_at, number_of}
use Rattle.lus_meaning.specs.NameFaults.{recursion_faults}
use Rattle.lus_meaning.specs.Refusals.{HasNone}
use Rattle.lus_meaning.specs.Scene.{no_component}
use Rattle.lus_types.specs.declared.marks.Row.{Row as CodeRow}
use Rattle.lus_types.specs.declared.recursion.Graph.{Graph}
use Rattle.lus_types.specs.Called.{all_level_faults, level_faults, names_behind, none_rises, rank_of, row_of}
use Rattle.lus_types.specs.Circles.{IsGraph}
use Rattle.lus_types.specs.Firsts.{circle_faults, stands_at}
use Rattle.lus_types.specs.Marks.{Link, Row, link_view, row_view}
use Rattle.lus_scopes.specs.Least.{IsLeast, noted, noted_all}
use Rattle.lus_scopes.specs.Notes.{Notes}
use Rattle.lus_scopes.proofs.Leasts.{least_noted, least_of_all, noted_append}
use Rattle.lus_scopes.proofs.Loops.{dropped}
use Rattle.lus_scopes.proofs.Noting.{nothing_noted}
use Rattle.lus_types.proofs.Circled.{as_many}
use Rattle.lus_types.proofs.CircleFaults.{at_number, level_holds}

-- ---- what is so of each

each_so : (P : Refused → Type 0) (fs : List Refused) → ((r : Refused) → Contains fs r → P r) → AllByRecursion P fs
each_so P fs h = recursion_from_All P fs (All-weaker (Contains fs) P h fs (All-contains_itself fs))

so_of : (P : Refused → Type 0) (fs : List Refused) → AllByRecursion P fs → (r : Refused) → Contains fs r → P r
so_of P fs a r c = All-contains P fs r (All-from_recursion P fs a) c

both_so : (P : Refused → Type 0) (xs ys : List Refused) → AllByRecursion P xs → AllByRecursion P ys → AllByRecursion P (xs ++ ys)
both_so P [] ys a b = b
both_so P (x ∷ xs) ys a b = (a.0, both_so P xs ys a.1 b)

-- all are of one rule
abbrev IsCircle : Refused → Type 0
IsCircle r = r.reason ≡ node_recursion

level_circles : (ranks : List ℕ) (k : ℕ) (ls : List Link) → AllByRecursion IsCircle (level_faults ranks k ls)
level_circles ranks k [] = tt
level_circles ranks k (l ∷ ls) = both_so IsCircle (if_so (rank_of ranks l.0 == k) node_recursion l.1) (level_faults ranks k ls)
    (one (rank_of ranks l.0 == k)) (level_circles ranks k ls)
  where
    one : (b : Bool) → AllByRecursion IsCircle (if_so b node_recursion l.1)
    one true = (refl, tt)
    one false = tt

all_circles : (ranks : List ℕ) (rs : List Row) → AllByRecursion IsCircle (all_level_faults ranks rs)
all_circles ranks [] = tt
all_circles ranks (r ∷ rs) = both_so IsCircle (level_faults ranks (rank_of ranks r.0) r.1) (all_level_faults ranks rs)
    (level_circles ranks (rank_of ranks r.0) r.1) (all_circles ranks rs)

faults_circles : (ws : List Spelled) → AllByRecursion IsCircle (map (λ f. fault node_recursion f.at) ws)
faults_circles [] = tt
faults_circles (w ∷ ws) = (refl, faults_circles ws)

of_reason : (q : Reason) (r : Refused) → r.reason ≡ q → r ≡ fault q r.at
of_reason q r e = ap (λ (z : Reason). fault z r.at) e

-- ---- the first of them

-- by line, column and number
abbrev test : ℕ → ℕ → ℕ → ℕ → ℕ → ℕ → Bool
test l c n m d k = (nat_lt l m || ((l == m) && nat_lt c d)) || (((l == m) && (c == d)) && nat_lt n k)

neither : (l c n m d k p e j : ℕ) → test l c n m d k ≡ false → test m d k p e j ≡ false → test l c n p e j ≡ false
neither l c n m d k p e j a b = grind (arith, nat_tests)

-- what is not before one that is not before another is not before that
not_before : (s r q : Refused) → comes_before s r ≡ false → comes_before r q ≡ false → comes_before s q ≡ false
not_before s r q =
    neither s.at.line s.at.column (number_of s.reason) r.at.line r.at.column (number_of r.reason) q.at.line q.at.column (number_of q.reason)

no_place : (o : Option Refused) → option_map (λ r. r.at) o ≡ None → o ≡ None
no_place None e = refl
no_place (Some r) e = absurd cc

some_place : (at : Pos) → option_map (λ (r : Refused). r.at) None ≡ Some at → ⊥
some_place at e = absurd cc

one_place : (d a b : Pos) → Some a ≡ Some b → a ≡ b
one_place d a b e = ap of e
  where
    of : Option Pos → Pos
    of None = d
    of (Some x) = x

module _ (p : Program) (g : Graph) (is : IsGraph p g) (ranks : List ℕ) (stay : none_rises ranks (map row_view g.rows.items) ≡ true) where
  abbrev level : List Refused
  level = all_level_faults ranks (map row_view g.rows.items)

  stays : none_rises ranks (map (row_of p (names_behind [] p)) (components p)) ≡ true
  stays = subst (λ rs. none_rises ranks rs ≡ true) is.rows stay

  holds : (P : Refused → Type 0) → ((r : Refused) → Contains level r → P r) → (r : Refused) → Contains (circle_faults p) r → P r
  holds P h r c = so_of P (circle_faults p)
      (level_holds p ranks stays P (subst (λ rs. AllByRecursion P (all_level_faults ranks rs)) is.rows (each_so P level h))) r c

  pub nowhere : noted_all None level ≡ None → HasNone (Contains (circle_faults p))
  nowhere e = let none : HasNone (Contains level) = subst (λ o. IsLeast o level) e (least_of_all level) in holds (λ r. ⊥) none

  pub first : (r : Refused) → noted_all None level ≡ Some r → Contains (circle_faults p) (fault node_recursion r.at)
      → IsFirst (Contains (circle_faults p)) (fault node_recursion r.at)
  first r e c =
      let i : IsFirst (Contains level) r = subst (λ o. IsLeast o level) e (least_of_all level) in
      let same : r ≡ fault node_recursion r.at = of_reason node_recursion r (so_of IsCircle level (all_circles ranks (map row_view g.rows.items)) r i.broken) in
      record {
        broken = c;
        first = holds (λ s. comes_before s (fault node_recursion r.at) ≡ false) (λ s d. subst (λ (q : Refused). comes_before s q ≡ false) same (i.first s d));
      }

  module _ (o q : Option Refused) (none : o ≡ None) (all : q ≡ noted_all o level) where
    from_none : noted_all None level ≡ q
    from_none = sym (all ∙ ap (λ (z : Option Refused). noted_all z level) none)

    pub nowhere_by : option_map (λ r. r.at) q ≡ None → HasNone (Contains (circle_faults p))
    nowhere_by e = nowhere (from_none ∙ no_place q e)

    pub first_by : (at : Pos) → option_map (λ r. r.at) q ≡ Some at → Contains (circle_faults p) (fault node_recursion at)
        → IsFirst (Contains (circle_faults p)) (fault node_recursion at)
    first_by at e c = go q from_none e
      where
        go : (z : Option Refused) → noted_all None level ≡ z → option_map (λ r. r.at) z ≡ Some at → IsFirst (Contains (circle_faults p)) (fault node_recursion at)
        go None n i = absurd (some_place at i)
        go (Some r) n i =
            let same : r.at ≡ at = one_place at r.at at i in
            subst (λ (w : Pos). IsFirst (Contains (circle_faults p)) (fault node_recursion w)) same
            (first r n (subst (λ (w : Pos). Contains (circle_faults p) (fault node_recursion w)) (sym same) c))

-- ---- the links of one row after another

pub next_row : (ranks : List ℕ) (rows : List CodeRow) (i : ℕ) (r : CodeRow) → i < length rows → r ≡ get_or rows i r → (k : ℕ) → k ≡ rank_of ranks r.from
    → (o q : Option Refused) → q ≡ noted_all o (level_faults ranks k (map link_view r.links.items))
    → noted_all q (all_level_faults ranks (map row_view (drop (i + 1) rows))) ≡ noted_all o (all_level_faults ranks (map row_view (drop i rows)))
next_row ranks rows i r l e k f o q n =
    let rest : List Refused = all_level_faults ranks (map row_view (drop (i + 1) rows)) in
    ap (λ (z : Option Refused). noted_all z rest) n
    ∙ ap (λ (j : ℕ). noted_all (noted_all o (level_faults ranks j (map link_view r.links.items))) rest) f
    ∙ sym (noted_append o (level_faults ranks (rank_of ranks r.from) (map link_view r.links.items)) rest)
    ∙ ap (λ (zs : List CodeRow). noted_all o (all_level_faults ranks (map row_view zs))) (sym (dropped rows i r l e))

-- ---- one that was found

each_in : (f : Component → List Refused) (xs : List Refused) (ns : List Component) → ((r : Refused) → Contains (flat_map f ns) r → Contains xs r)
    → AllByRecursion (λ n. (r : Refused) → Contains (f n) r → Contains xs r) ns
each_in f xs [] h = tt
each_in f xs (n ∷ ns) h = (
  λ r c. h r (Contains-append_left (f n) (flat_map f ns) r c),
  each_in f xs ns (λ r c. h r (Contains-append_right (f n) (flat_map f ns) r c)),
)

same_place : (a b : Pos) → is_at a b ≡ true → a ≡ b
same_place a b e =
    let h : ((a.line == b.line) ≡ true) × ((a.column == b.column) ≡ true) = and_parts _ _ e in
    ap (λ (k : ℕ). let z : Pos = record { line = k; column = a.column } in z) (eqb-true _ _ h.0)
    ∙ ap (λ (k : ℕ). let z : Pos = record { line = b.line; column = k } in z) (eqb-true _ _ h.1)

pub is_found : (p : Program) (i : ℕ) (n : Component) → slice_get (components p) i ≡ Some n → (o : Option Refused) → IsLeast o (recursion_faults p n)
    → (at : Pos) → stands_at o at ≡ true → Contains (circle_faults p) (fault node_recursion at)
is_found p i n e None l at t = absurd (false≢true t)
is_found p i n e (Some r) l at t =
    let all : IsCircle r = so_of IsCircle (recursion_faults p n) (faults_circles _) r l.broken in
    let same : r ≡ fault node_recursion at = of_reason node_recursion r all ∙ ap (fault node_recursion) (same_place r.at at t) in
    at_number (λ m. (q : Refused) → Contains (recursion_faults p m) q → Contains (circle_faults p) q) (components p)
    (each_in (recursion_faults p) (circle_faults p) (components p) (λ q c. c)) i n e (fault node_recursion at)
    (subst (λ (q : Refused). Contains (recursion_faults p n) q) same l.broken)

none_in : (r : Refused) → Contains [] r → ⊥
none_in r (k, l, e) = omega arith

pub found_circle : (p : Program) (g : Graph) → IsGraph p g → (i : ℕ) → i < length g.rows.items → (o q : Option Refused) → o ≡ None
    → ((r : Program) (n : Component) → IsGraph r g → slice_get (components r) i ≡ Some n → Notes o q (recursion_faults r n))
    → (at : Pos) → stands_at q at ≡ true → Contains (circle_faults p) (fault node_recursion at)
found_circle p g is i l o q e f at t =
    let h : i < length (components p) = subst (λ k. i < k) (as_many p g is) l in
    let s : slice_get (components p) i ≡ Some (get_or (components p) i no_component) = slice_get-get_or (components p) i no_component h in
    is_found p i (get_or (components p) i no_component) s q
    (f p (get_or (components p) i no_component) is s [] (subst (λ z. IsLeast z []) (sym e) none_in)) at t

-- ---- what is noted

pub none_noted : (fs : List Refused) (o : Option Refused) → HasNone (Contains fs) → Notes o o fs
none_noted [] o h = nothing_noted o
none_noted (f ∷ fs) o h = absurd (h f (0, omega arith, refl))

widened : (gs fs : List Refused) (r : Refused) → IsFirst (Contains fs) r → (o : Option Refused) → IsLeast o (gs ++ r ∷ []) → IsLeast o (gs ++ fs)
widened gs fs r i None l = absurd (l r (Contains-push gs r))
widened gs fs r i (Some q) l = record {
  broken = elim (Contains-push_cases gs r q l.broken) [
    | inl d ↦ Contains-append_left gs fs q d
    | inr d ↦ Contains-append_right gs fs q (subst (Contains fs) d i.broken)
  ];
  first = λ s c. elim (Contains-append_cases gs fs s c) [
    | inl d ↦ l.first s (Contains-append_left gs (r ∷ []) s d)
    | inr d ↦ not_before s r q (i.first s d) (l.first r (Contains-push gs r))
  ];
}

pub first_noted : (fs : List Refused) (o q : Option Refused) (r : Refused) → IsFirst (Contains fs) r → q ≡ noted o r → Notes o q fs
first_noted fs o q r i e gs l = widened gs fs r i q (subst (λ z. IsLeast z (gs ++ r ∷ [])) (sym e) (least_noted o gs r l))
