-- The places to which a part leads in the graph are those that its whole needs.
use Rattle.std.proofs.Common.{◌≡◌, ◌∙◌, ℕ, zero, suc, ◌+◌, true, List, [], ◌∷◌, ◌++◌, length, Option, Some, None, slice_get, refl, ap, sym, subst, arith, append_assoc}
use Rattle.std.specs.Prelude.{is_some, option_to_list}
use Rattle.std.specs.List.{AllByRecursion}
use Rattle.std.proofs.Math.Logic.{inl, inr}
use Rattle.std.proofs.lemmas.Bool.{false≢true}
use Rattle.std.proofs.lemmas.Option.{none-some, same_Some}
use Rattle.lus_tree.specs.Tree.{Name}
use Rattle.lus_meaning.specs.Cycle.{Place, IsAt, IsWay, last_place}
use Rattle.lus_meaning.specs.Order.{is_listed}
use Rattle.lus_meaning.specs.Scene.{Instance}
use Rattle.lus_meaning.specs.Trace.{same_numbers}
use Rattle.lus_meaning.proofs.Members.{IsIn, at_some}
use Rattle.lus_meaning.proofs.Exists.{self_bytes}
use Rattle.lus_meaning.proofs.Lists.{append_none}
use Rattle.lus_meaning.proofs.Unique.{same_bytes}
use Rattle.clock_laws.proofs.Reaching.{at_in}
use Rattle.sys_meaning.proofs.Shows.{same_ways}
use Rattle.sys_meaning.proofs.Tracing.{self_way}
use Rattle.lus_evaluation.specs.Part.{Part}
use Rattle.lus_evaluation.specs.Evaluation.{NeedsPlace}
use Rattle.evaluation_laws.proofs.Waiting.{both, both_true}
use Rattle.number_graphs.specs.Graphs.{Rows, row_at, IsPath, end_of, LeadsTo}
use Rattle.evaluation_order.specs.Numbered.{same_name, same_place, number_of, numbers_of, where_new, met, met_all, AreAmong, next_of, HaveAll, part_rows, need_rows}
use Rattle.evaluation_order.proofs.Lists.{Found, found_at, kept_before, found_last, some_number, number_some, listed_in, in_listed, in_flat, flat_in, in_option, option_in, row_before, row_behind}

-- ---- places

name_is : (x y : Option Name) → same_name x y ≡ true → x ≡ y
name_is None None e = refl
name_is None (Some y) e = absurd (false≢true e)
name_is (Some x) None e = absurd (false≢true e)
name_is (Some x) (Some y) e = ap Some (same_bytes x y e)

pub place_is : (p q : Place) → same_place p q ≡ true → p ≡ q
place_is (v, x) (w, y) e =
    let h : (same_numbers v w ≡ true) × (same_name x y ≡ true) = both_true (same_numbers v w) (same_name x y) e in
    ap (λ (z : List ℕ). (z, x)) (same_ways v w h.0) ∙ ap (λ (z : Option Name). (w, z)) (name_is x y h.1)

name_itself : (x : Option Name) → same_name x x ≡ true
name_itself None = refl
name_itself (Some x) = self_bytes x

place_itself : (p : Place) → same_place p p ≡ true
place_itself (v, x) = both (same_numbers v v) (same_name x x) (self_way v) (name_itself x)

pub place_at : (ps : List Place) (q : Place) (k : ℕ) → number_of ps q ≡ Some k → slice_get ps k ≡ Some q
place_at ps q k e =
    let f : Found (same_place q) ps 0 k = found_at (same_place q) 0 ps k e in
    let c : k ≡ 0 + f.index = f.counted in
    let h : k ≡ f.index = omega (arith, c) in
    subst (λ z. slice_get ps z ≡ Some q) (sym h) (f.is_there ∙ ap Some (sym (place_is q f.item f.passes)))

still : (ps rs : List Place) (q : Place) → is_some (number_of ps q) ≡ true → is_some (number_of (ps ++ rs) q) ≡ true
still ps rs q e =
    let n : (k : ℕ) × (number_of ps q ≡ Some k) = some_number (number_of ps q) e in
    number_some (number_of (ps ++ rs) q) n.0 (kept_before (same_place q) 0 ps rs n.0 n.1)

pub still_all : (ps rs qs : List Place) → AreAmong ps qs → AreAmong (ps ++ rs) qs
still_all ps rs [] a = tt
still_all ps rs (q ∷ qs) a = (still ps rs q a.0, still_all ps rs qs a.1)

one_more : (ps : List Place) (q : Place) (o : Option ℕ) → (rs : List Place) × (where_new ps q o ≡ ps ++ rs)
one_more ps q None = (q ∷ [], refl)
one_more ps q (Some k) = ([], sym (append_none ps))

pub more : (ps qs : List Place) → (rs : List Place) × (met_all ps qs ≡ ps ++ rs)
more ps [] = ([], sym (append_none ps))
more ps (q ∷ qs) =
    let a : (rs : List Place) × (met ps q ≡ ps ++ rs) = one_more ps q (number_of ps q) in
    let b : (rs : List Place) × (met_all (met ps q) qs ≡ met ps q ++ rs) = more (met ps q) qs in
    (a.0 ++ b.0, b.1 ∙ ap (λ z. z ++ b.0) a.1 ∙ append_assoc ps a.0 b.0)

met_there : (ps : List Place) (q : Place) (o : Option ℕ) → number_of ps q ≡ o → is_some (number_of (where_new ps q o) q) ≡ true
met_there ps q None e = found_last (same_place q) 0 ps q (place_itself q)
met_there ps q (Some k) e = number_some (number_of ps q) k e

-- what is met is among the places
pub all_met : (ps qs : List Place) → AreAmong (met_all ps qs) qs
all_met ps [] = tt
all_met ps (q ∷ qs) =
    let r : (rs : List Place) × (met_all (met ps q) qs ≡ met ps q ++ rs) = more (met ps q) qs in (
      subst (λ z. is_some (number_of z q) ≡ true) (sym r.1) (still (met ps q) r.0 q (met_there ps q (number_of ps q) refl)),
      all_met (met ps q) qs,
    )

pub among_one : (ps qs : List Place) (q : Place) → AreAmong ps qs → IsIn q qs → (k : ℕ) × (number_of ps q ≡ Some k)
among_one ps [] q a h = absurd h
among_one ps (r ∷ qs) q a (inl e) = subst (λ z. (k : ℕ) × (number_of ps z ≡ Some k)) (sym e) (some_number (number_of ps r) a.0)
among_one ps (r ∷ qs) q a (inr h) = among_one ps qs q a.1 h

pub number_in : (ps qs : List Place) (j : ℕ) → is_listed (numbers_of ps qs) j ≡ true → (q : Place) × IsIn q qs × (number_of ps q ≡ Some j)
number_in ps qs j e =
    let r : (q : Place) × IsIn q qs × IsIn j (option_to_list (number_of ps q)) =
    in_flat (λ q. option_to_list (number_of ps q)) qs j (listed_in j (numbers_of ps qs) e) in
    (r.0, r.1, in_option (number_of ps r.0) j r.2)

pub in_numbers : (ps qs : List Place) (q : Place) (j : ℕ) → IsIn q qs → number_of ps q ≡ Some j → is_listed (numbers_of ps qs) j ≡ true
in_numbers ps qs q j h e =
    in_listed j (numbers_of ps qs) (flat_in (λ z. option_to_list (number_of ps z)) qs q j h (option_in (number_of ps q) j e))

all_at : {A : Type 0} (P : A → Type 0) (xs : List A) → AllByRecursion P xs → (k : ℕ) (x : A) → slice_get xs k ≡ Some x → P x
all_at P [] a k x e = absurd (none-some x e)
all_at P (y ∷ xs) a zero x e = subst P (same_Some y x e) a.0
all_at P (y ∷ xs) a (suc k) x e = all_at P xs a.1 k x e

-- ---- paths and ways

module _ (i : Instance) (ps : List Place) (qs : List Part) where
  abbrev rows : Rows
  rows = need_rows i ps qs

  place_row : (k : ℕ) (s : Place) → slice_get ps k ≡ Some s → row_at rows k ≡ numbers_of ps (next_of i s)
  place_row k s e = row_before (λ q. numbers_of ps (next_of i q)) ps (part_rows ps qs) k s e

  part_row : (k : ℕ) (r : Part) → slice_get qs k ≡ Some r → row_at rows (length ps + k) ≡ numbers_of ps r.needs
  part_row k r e = row_behind (λ q. numbers_of ps (next_of i q)) (λ q. numbers_of ps q.needs) ps qs k r e

  pub record WayOf (s : Place) (j : ℕ) : Type 0 where
    pub rest : List (ℕ × Place)
    pub way : IsWay i s rest
    pub last : slice_get ps j ≡ Some (last_place s rest)

  path_way : (s : Place) (k : ℕ) (js : List ℕ) → slice_get ps k ≡ Some s → IsPath rows k js → WayOf s (end_of k js)
  path_way s k [] e w = record { rest = []; way = tt; last = e }
  path_way s k (j ∷ js) e w =
      let listed : is_listed (numbers_of ps (next_of i s)) j ≡ true = subst (λ r. is_listed r j ≡ true) (place_row k s e) w.0 in
      let n : (q : Place) × IsIn q (next_of i s) × (number_of ps q ≡ Some j) = number_in ps (next_of i s) j listed in
      let at : (c : ℕ) × IsAt c n.0 (next_of i s) = at_some n.0 (next_of i s) n.1 in
      let r : WayOf n.0 (end_of j js) = path_way n.0 j js (place_at ps n.0 j n.2) w.1 in
      record { rest = (at.0, n.0) ∷ r.rest; way = (at.1, r.way); last = r.last }

  -- to what a part leads its whole needs
  pub led_needed : (k j : ℕ) (r : Part) (q : Place) → slice_get qs k ≡ Some r → LeadsTo rows (length ps + k) j → number_of ps q ≡ Some j → NeedsPlace i r.needs q
  led_needed k j r q e l number =
      let listed : is_listed (numbers_of ps r.needs) l.first ≡ true = subst (λ z. is_listed z l.first ≡ true) (part_row k r e) l.path.0 in
      let n : (s : Place) × IsIn s r.needs × (number_of ps s ≡ Some l.first) = number_in ps r.needs l.first listed in
      let at : (c : ℕ) × IsAt c n.0 r.needs = at_some n.0 r.needs n.1 in
      let w : WayOf n.0 (end_of l.first l.rest) = path_way n.0 l.first l.rest (place_at ps n.0 l.first n.2) l.path.1 in
      let there : slice_get ps j ≡ Some (last_place n.0 w.rest) = subst (λ z. slice_get ps z ≡ Some (last_place n.0 w.rest)) l.last w.last in
      record {
        number = at.0;
        start = n.0;
        starts = at.1;
        rest = w.rest;
        way = w.way;
        last = same_Some (last_place n.0 w.rest) q (sym there ∙ place_at ps q j number);
      }

  module _ (have : HaveAll i qs ps) where
    pub record PathOf (s q : Place) (k : ℕ) : Type 0 where
      pub steps : List ℕ
      pub path : IsPath rows k steps
      pub last : number_of ps q ≡ Some (end_of k steps)

    way_path : (s : Place) (k : ℕ) (rest : List (ℕ × Place)) → number_of ps s ≡ Some k → IsWay i s rest → PathOf s (last_place s rest) k
    way_path s k [] e w = record { steps = []; path = tt; last = e }
    way_path s k (q ∷ rest) e w =
        let here : slice_get ps k ≡ Some s = place_at ps s k e in
        let inside : IsIn q.1 (next_of i s) = at_in q.0 q.1 (next_of i s) w.0 in
        let n : (j : ℕ) × (number_of ps q.1 ≡ Some j) = among_one ps (next_of i s) q.1 (have.closed k s here) inside in
        let listed : is_listed (numbers_of ps (next_of i s)) n.0 ≡ true = in_numbers ps (next_of i s) q.1 n.0 inside n.1 in
        let r : PathOf q.1 (last_place q.1 rest) n.0 = way_path q.1 n.0 rest n.1 w.1 in
        record {
          steps = n.0 ∷ r.steps;
          path = (subst (λ z. is_listed z n.0 ≡ true) (sym (place_row k s here)) listed, r.path);
          last = r.last;
        }

    -- what its whole needs a part leads to
    pub needed_led : (k j : ℕ) (r : Part) (q : Place) → slice_get qs k ≡ Some r → NeedsPlace i r.needs q → number_of ps q ≡ Some j → LeadsTo rows (length ps + k) j
    needed_led k j r q e n number =
        let inside : IsIn n.start r.needs = at_in n.number n.start r.needs n.starts in
        let among : AreAmong ps r.needs = all_at (λ p. AreAmong ps p.needs) qs have.needed k r e in
        let m : (l : ℕ) × (number_of ps n.start ≡ Some l) = among_one ps r.needs n.start among inside in
        let listed : is_listed (numbers_of ps r.needs) m.0 ≡ true = in_numbers ps r.needs n.start m.0 inside m.1 in
        let p : PathOf n.start (last_place n.start n.rest) m.0 = way_path n.start m.0 n.rest m.1 n.way in
        let there : number_of ps q ≡ Some (end_of m.0 p.steps) = subst (λ z. number_of ps z ≡ Some (end_of m.0 p.steps)) n.last p.last in
        record {
          first = m.0;
          rest = p.steps;
          path = (subst (λ z. is_listed z m.0 ≡ true) (sym (part_row k r e)) listed, p.path);
          last = same_Some (end_of m.0 p.steps) j (sym there ∙ number);
        }

    -- and that is a place with a number
    pub needed_numbered : (k : ℕ) (r : Part) (q : Place) → slice_get qs k ≡ Some r → NeedsPlace i r.needs q → (j : ℕ) × (number_of ps q ≡ Some j)
    needed_numbered k r q e n =
        let inside : IsIn n.start r.needs = at_in n.number n.start r.needs n.starts in
        let among : AreAmong ps r.needs = all_at (λ p. AreAmong ps p.needs) qs have.needed k r e in
        let m : (l : ℕ) × (number_of ps n.start ≡ Some l) = among_one ps r.needs n.start among inside in
        let p : PathOf n.start (last_place n.start n.rest) m.0 = way_path n.start m.0 n.rest m.1 n.way in
        (end_of m.0 p.steps, subst (λ z. number_of ps z ≡ Some (end_of m.0 p.steps)) n.last p.last)
